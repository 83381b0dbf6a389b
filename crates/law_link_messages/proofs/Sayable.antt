-- A fit message is sayable: its text is one frame, and spells it.
use Rattle.std.proofs.Common.{List, [], ◌∷◌, ◌≡◌}
use Rattle.hermes_element.specs.Canonical as form
use Rattle.hermes_element.specs.Element.{Tree}
use Rattle.hermes_element.specs.Spelling as element
use Rattle.hermes_horizontal.specs.Canonical.{IsProperMessage, IsWritable, canonical, tree_of}
use Rattle.hermes_horizontal.specs.Spelling.{Spells}
use Rattle.hermes_horizontal.specs.declared.message.Message.{Message}
use Rattle.hermes_horizontal.proofs.Returning.{message_back}
use Rattle.hermes_horizontal.proofs.Writable.{tree_proper, tree_writable}
use Rattle.hermes_stream.specs.Frames.{IsOneFrame}
use Rattle.law_link_messages.specs.Framed.{HasShortName}
use Rattle.law_link_messages.specs.Fit.{AreFit, IsFit, more_fit, none_fit}
use Rattle.law_link_messages.specs.Heard.{AreSayable, IsSayable, more_sayable, none_sayable}

-- what is written of an element is read as that element, up to the places
abbrev pub WrittenIsRead : Type 0
WrittenIsRead = (tree : Tree) → form.IsProper tree → form.IsWritable tree → (found : Tree) × element.Spells (form.canonical tree) found × (form.unplaced found ≡ form.unplaced tree)

-- the text of a message is one frame
abbrev pub TextIsOneFrame : Type 0
TextIsOneFrame = (message : Message) → IsProperMessage message → IsWritable message → HasShortName message.body → IsOneFrame (canonical message)

reads_back : WrittenIsRead → (message : Message) → IsProperMessage message → IsWritable message → Spells (canonical message) message
reads_back written message proper writable =
    let read = written (tree_of message) (tree_proper message proper writable) (tree_writable message) in
    record { tree = read.0; element = read.1; says = message_back message read.0 proper writable read.2 }

pub fit_is_sayable : WrittenIsRead → TextIsOneFrame → (message : Message) → IsFit message → IsSayable message
fit_is_sayable written framed message fit = record { one = framed message fit.proper fit.writable fit.short; spells = reads_back written message fit.proper fit.writable }

pub fit_are_sayable : WrittenIsRead → TextIsOneFrame → (messages : List Message) → AreFit messages → AreSayable messages
fit_are_sayable written framed [] none_fit = none_sayable
fit_are_sayable written framed (message ∷ messages) (more_fit one others) = more_sayable (fit_is_sayable written framed message one) (fit_are_sayable written framed messages others)

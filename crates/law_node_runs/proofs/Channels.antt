-- What the supervisor's bytes do is one thing.
use Rattle.std.proofs.Common.{◌≡◌, ◌∙◌, ◌++◌, ℕ, ℤ, Bool, true, false, List, [], ◌∷◌, Option, Some, None, Result, Ok, Err, refl, sym, ap, subst, append-nil, codes}
use Rattle.hermes_stream.specs.Cutter.{GivesFrame, StaysTooLong, WantsMore}
use Rattle.hermes_stream.specs.Frames.{Frames, behind, frames_of, left_of}
use Rattle.hermes_horizontal.specs.Texts.{message_refusal_text}
use Rattle.hermes_horizontal.specs.declared.fault.Fault.{Fault}
use Rattle.hermes_horizontal.specs.declared.message.Ping.TheVariants as pings
use Rattle.hermes_vertical.specs.Parts.{kind_of}
use Rattle.hermes_vertical.specs.Spelling.{IsRefused, Spells}
use Rattle.hermes_vertical.specs.declared.message.Vertical.{Vertical}
use Rattle.hermes_vertical.specs.declared.message.Vertical.TheVariants as bodies
use Rattle.hermes_vertical.specs.declared.message.VerticalMessage.{VerticalMessage}
use Rattle.line_base.specs.declared.states.Severity.TheVariants as severity
use Rattle.line_outside.specs.declared.answer.GotBytes.{GotBytes}
use Rattle.line_outside.specs.declared.answer.GotBytes.TheVariants as gots
use Rattle.node_core.specs.May.{may_of}
use Rattle.node_core.specs.Node.{NodeState}
use Rattle.node_core.specs.declared.input.Input.TheVariants as inputs
use Rattle.node_core.specs.declared.input.No.{No}
use Rattle.supervisory_core.specs.Row.{SupervisedRow, supervised_row}
use Rattle.supervisory_core.specs.Told.{unexpected}
use Rattle.supervisory_core.specs.declared.action.VerticalAction.{VerticalAction}
use Rattle.supervisory_core.specs.declared.action.VerticalAction.TheVariants as actions
use Rattle.node_run.specs.After.{after_supervisory, supervisory_arrived, supervisory_bytes, supervisory_closed, supervisory_second}
use Rattle.supervised_end.specs.Channel.{ChannelValue, Finds, HearsNext, IsWrong, Means, fed, hears_behind}
use Rattle.supervised_end.specs.Said.{notification, system_of, untaken}
use Rattle.node_run.specs.Hearing.{AnswersIf, BreaksOff, DoesAction, DoesFound, DoesHear, DoesRow, DoesWord, Unsupervised, broken_off, said, with_channel, with_stands}
use Rattle.node_run.specs.State.{RunState}
use Rattle.supervised_end.specs.declared.channel.Found.{Found}
use Rattle.supervised_end.specs.declared.channel.Found.TheVariants as founds
use Rattle.supervised_end.specs.declared.channel.Word.{Word}
use Rattle.supervised_end.specs.declared.channel.Word.TheVariants as words
use Rattle.node_run.specs.declared.rules.Rules.{Rules}
use Rattle.node_run.specs.declared.way_state.Wire.{Wire}
use Rattle.node_run.specs.declared.way_state.Wire.TheVariants as wires
use Rattle.law_node_runs.proofs.Nodes.{Alike, may_same}
use Rattle.law_node_runs.proofs.States.{Once, Passes, becomes, like, passed, step_once, takes_once}

-- ---- a frame of the channel means one thing

abbrev pub SpelledOnce : Type 0
SpelledOnce = (bytes : List ℕ) (a b : VerticalMessage) → Spells bytes a → Spells bytes b → a ≡ b

abbrev pub RefusedOnce : Type 0
RefusedOnce = (bytes : List ℕ) (at place : ℕ) (why reason : Fault) → IsRefused bytes at why → IsRefused bytes place reason → (at ≡ place) × (why ≡ reason)

one_word : SpelledOnce → RefusedOnce → (frame : List ℕ) (a b : Word) → Means frame a → Means frame b → a ≡ b
one_word spelled refused frame (words.Says m) (words.Says n) x y = ap words.Says (spelled frame m n x y)
one_word spelled refused frame (words.Says m) (words.Wrong t) x y = absurd (y.spells_none m x)
one_word spelled refused frame (words.Wrong s) (words.Says n) x y = absurd (x.spells_none n y)
one_word spelled refused frame (words.Wrong s) (words.Wrong t) x y =
    let same = refused frame x.at y.at x.why y.why x.refused y.refused in
    ap words.Wrong (x.told ∙ ap (λ (at : ℕ). message_refusal_text x.why at) same.0 ∙ ap (λ (why : Fault). message_refusal_text why y.at) same.1 ∙ sym y.told)

abbrev first_in : List (List ℕ) → List ℕ
first_in [] = []
first_in (frame ∷ frames) = frame

pub one_frame : (waiting a b : List ℕ) → GivesFrame waiting a → GivesFrame waiting b → a ≡ b
one_frame waiting a b x y = ap (λ (f : Frames). first_in f.messages) (sym (x.frames []) ∙ y.frames [])

pub gives_of_more : (waiting a : List ℕ) → GivesFrame waiting a → WantsMore waiting → ⊥
gives_of_more waiting a x y =
    let same = ap (λ (f : Frames). f.messages) (sym (x.frames []) ∙ ap frames_of (append-nil waiting) ∙ y.rest) in cc

pub gives_of_long : (waiting a : List ℕ) → GivesFrame waiting a → StaysTooLong waiting → ⊥
gives_of_long waiting a x y =
    let same = ap (λ (f : Frames). f.messages) (sym (x.frames []) ∙ y.frames []) in cc

pub more_of_long : (waiting : List ℕ) → WantsMore waiting → StaysTooLong waiting → ⊥
more_of_long waiting x y =
    let same = ap (λ (f : Frames). f.rest) (sym x.rest ∙ sym (ap frames_of (append-nil waiting)) ∙ y.frames []) in cc

record FindsOnce (left left' : List ℕ) (found found' : Found) : Type 0 where
  bytes : left' ≡ left
  same : found' ≡ found

finds_once : SpelledOnce → RefusedOnce → (waiting left left' : List ℕ) (found found' : Found) → Finds waiting left found → Finds waiting left' found' → FindsOnce left left' found found'
finds_once spelled refused waiting left left' (founds.Word a) (founds.Word b) x y =
    let P : List ℕ → Type 0 = λ frame. Means frame b in
    let means = subst P (one_frame waiting y.frame x.frame y.gives x.gives) y.means in
    record { bytes = y.behind ∙ sym x.behind; same = ap founds.Word (one_word spelled refused x.frame b a means x.means) }
finds_once spelled refused waiting left left' (founds.Word a) founds.More x y = absurd (gives_of_more waiting x.frame x.gives y.0)
finds_once spelled refused waiting left left' (founds.Word a) founds.TooLong x y = absurd (gives_of_long waiting x.frame x.gives y.0)
finds_once spelled refused waiting left left' founds.More (founds.Word b) x y = absurd (gives_of_more waiting y.frame y.gives x.0)
finds_once spelled refused waiting left left' founds.More founds.More x y = record { bytes = y.1 ∙ sym x.1; same = refl }
finds_once spelled refused waiting left left' founds.More founds.TooLong x y = absurd (more_of_long waiting x.0 y.0)
finds_once spelled refused waiting left left' founds.TooLong (founds.Word b) x y = absurd (gives_of_long waiting y.frame y.gives x.0)
finds_once spelled refused waiting left left' founds.TooLong founds.More x y = absurd (more_of_long waiting y.0 x.0)
finds_once spelled refused waiting left left' founds.TooLong founds.TooLong x y = record { bytes = y.1 ∙ sym x.1; same = refl }

pub channel_same : (new new' : ChannelValue) → new'.waiting ≡ new.waiting → new'.piece ≡ new.piece → new'.hears ≡ new.hears → new'.stands ≡ new.stands → new' ≡ new
channel_same new new' waiting piece hears stands =
    let f : List ℕ → List ℕ → Bool → Bool → ChannelValue = λ w p h b. record { waiting = w; piece = p; hears = h; stands = b } in
    ap (λ (w : List ℕ). f w new'.piece new'.hears new'.stands) waiting ∙ ap (λ (p : List ℕ). f new.waiting p new'.hears new'.stands) piece
    ∙ ap (λ (h : Bool). f new.waiting new.piece h new'.stands) hears ∙ ap (f new.waiting new.piece new.hears) stands

record HearsOnce (new new' : ChannelValue) (found found' : Found) : Type 0 where
  channel : new' ≡ new
  same : found' ≡ found

hears_once : SpelledOnce → RefusedOnce → (old new new' : ChannelValue) (found found' : Found) → HearsNext old new found → HearsNext old new' found' → HearsOnce new new' found found'
hears_once spelled refused old new new' found found' one two =
    let once = finds_once spelled refused (fed old).waiting new.waiting new'.waiting found found' one.finds two.finds in
    record {
      channel = channel_same new new' once.bytes (two.piece ∙ sym one.piece)
          (two.hears ∙ ap (λ (f : Found). hears_behind f (fed old).piece old.hears) once.same ∙ sym one.hears) (two.stands ∙ sym one.stands);
      same = once.same;
    }

-- ---- what a message does

pub unsupervised_once : (rules : Rules) (moment : ℤ) (s : RunState) (n : NodeState) (t t' : RunState) (log log' : List ℕ) → Alike s.node n → Unsupervised rules moment s t log → Unsupervised rules moment (like s n) t' log' → Once t t' log log'
unsupervised_once rules moment s n t t' log log' alike one two = takes_once rules moment (inputs.Supervise false) s s n t t' log log' tt alike alike one two

breaks_once : (rules : Rules) (moment : ℤ) (text : List ℕ) (s : RunState) (n : NodeState) (t t' : RunState) (log log' : List ℕ) → Alike s.node n → BreaksOff rules moment text s t log → BreaksOff rules moment text (like s n) t' log' → Once t t' log log'
breaks_once rules moment text s n t t' log log' alike one two = unsupervised_once rules moment (broken_off moment text s) n t t' log log' alike one two

answers_by : (may : Result (Unit {0}) No) (rules : Rules) (moment : ℤ) (query : ℕ) (order : List ℕ) (s : RunState) (n : NodeState) (t t' : RunState) (log log' : List ℕ) → Alike s.node n
    → AnswersIf may rules moment query order s t log → AnswersIf may rules moment query order (like s n) t' log' → Once t t' log log'
answers_by (Ok done) rules moment query order s n t t' log log' alike one two = step_once false rules moment [] (inputs.Answer query order) s n t t' log log' tt alike one two
answers_by (Err why) rules moment query order s n t t' log log' alike one two = becomes (said moment (notification 0 severity.Warning (untaken why)) s) n [] t t' log log' alike one two

action_once : (action : VerticalAction) (rules : Rules) (moment : ℤ) (s : RunState) (n : NodeState) (t t' : RunState) (log log' : List ℕ) → Alike s.node n → DoesAction action rules moment s t log → DoesAction action rules moment (like s n) t' log' → Once t t' log log'
action_once actions.Describe rules moment s n t t' log log' alike one two =
    let told = said moment (system_of rules.machine_id) s in takes_once rules moment (inputs.Supervise true) told told n t t' log log' tt alike alike one two
action_once (actions.Pong id) rules moment s n t t' log log' alike one two = becomes (said moment (bodies.CheckAlive (Some pings.Answer) id) s) n [] t t' log log' alike one two
action_once (actions.Answer query order) rules moment s n t t' log log' alike one two =
    let P : Result (Unit {0}) No → Type 0 = λ may. AnswersIf may rules moment query order (like s n) t' log' in
    answers_by (may_of s.node (inputs.Answer query order)) rules moment query order s n t t' log log' alike one (subst P (may_same (inputs.Answer query order) s.node n alike) two)
action_once actions.Nothing rules moment s n t t' log log' alike one two = becomes s n [] t t' log log' alike one two

row_once : (row : Option SupervisedRow) (body : Vertical) (rules : Rules) (moment : ℤ) (s : RunState) (n : NodeState) (t t' : RunState) (log log' : List ℕ) → Alike s.node n → DoesRow row body rules moment s t log → DoesRow row body rules moment (like s n) t' log' → Once t t' log log'
row_once None body rules moment s n t t' log log' alike one two = breaks_once rules moment (unexpected (kind_of body)) s n t t' log log' alike one two
row_once (Some row) body rules moment s n t t' log log' alike one two = action_once row.action rules moment (with_stands row.after s) n t t' log log' alike one two

found_once : (found : Found) (rules : Rules) (moment : ℤ) (s : RunState) (n : NodeState) (t t' : RunState) (log log' : List ℕ) → Alike s.node n → DoesFound found rules moment s t log → DoesFound found rules moment (like s n) t' log' → Once t t' log log'
found_once (founds.Word (words.Says message)) rules moment s n t t' log log' alike one two = row_once (supervised_row s.channel.stands message.body) message.body rules moment s n t t' log log' alike one two
found_once (founds.Word (words.Wrong text)) rules moment s n t t' log log' alike one two = breaks_once rules moment text s n t t' log log' alike one two
found_once founds.More rules moment s n t t' log log' alike one two = becomes s n [] t t' log log' alike one two
found_once founds.TooLong rules moment s n t t' log log' alike one two = breaks_once rules moment (codes "message too long") s n t t' log log' alike one two

pub hear_once : SpelledOnce → RefusedOnce → (rules : Rules) (moment : ℤ) (s : RunState) (n : NodeState) (t t' : RunState) (log log' : List ℕ) → Alike s.node n → DoesHear rules moment s t log → DoesHear rules moment (like s n) t' log' → Once t t' log log'
hear_once spelled refused rules moment s n t t' log log' alike one two =
    let once = hears_once spelled refused s.channel one.channel two.channel one.found two.found one.hears two.hears in
    let P : Found → Type 0 = λ found. DoesFound found rules moment (with_channel two.channel (like s n)) t' log' in
    let Q : ChannelValue → Type 0 = λ channel. DoesFound one.found rules moment (with_channel channel (like s n)) t' log' in
    found_once one.found rules moment (with_channel one.channel s) n t t' log log' alike one.does (subst Q once.channel (subst P once.same two.does))

-- ---- a poll of the supervisor's way

passes_arrived : (wire : Wire) → Passes (supervisory_arrived wire)
passes_arrived wires.Rests = record { same = λ s n. refl; node = λ s. refl }
passes_arrived wires.Stands = record { same = λ s n. refl; node = λ s. refl }
passes_arrived wires.Ends = record { same = λ s n. refl; node = λ s. refl }
passes_arrived wires.Breaks = record { same = λ s n. refl; node = λ s. refl }

passes_second : (wire : Wire) (moment : ℤ) → Passes (supervisory_second wire moment)
passes_second wires.Rests moment = record { same = λ s n. refl; node = λ s. refl }
passes_second wires.Stands moment = record { same = λ s n. refl; node = λ s. refl }
passes_second wires.Ends moment = record { same = λ s n. refl; node = λ s. refl }
passes_second wires.Breaks moment = record { same = λ s n. refl; node = λ s. refl }

passes_bytes : (wire : Wire) (bytes : List ℕ) → Passes (supervisory_bytes wire bytes)
passes_bytes wires.Rests bytes = record { same = λ s n. refl; node = λ s. refl }
passes_bytes wires.Stands bytes = record { same = λ s n. refl; node = λ s. refl }
passes_bytes wires.Ends bytes = record { same = λ s n. refl; node = λ s. refl }
passes_bytes wires.Breaks bytes = record { same = λ s n. refl; node = λ s. refl }

passes_closed : (wire : Wire) → Passes (supervisory_closed wire)
passes_closed wires.Rests = record { same = λ s n. refl; node = λ s. refl }
passes_closed wires.Stands = record { same = λ s n. refl; node = λ s. refl }
passes_closed wires.Ends = record { same = λ s n. refl; node = λ s. refl }
passes_closed wires.Breaks = record { same = λ s n. refl; node = λ s. refl }

pub supervisory_once : (got : GotBytes) (moment : ℤ) (s : RunState) (n : NodeState) (t t' : RunState) (log log' : List ℕ) → Alike s.node n → (t ≡ after_supervisory moment got s) × (log ≡ []) → (t' ≡ after_supervisory moment got (like s n)) × (log' ≡ []) → Once t t' log log'
supervisory_once gots.Arrived moment s n t t' log log' alike one two = passed (supervisory_arrived s.supervisory.wire) (passes_arrived s.supervisory.wire) s n [] t t' log log' alike one two
supervisory_once gots.Second moment s n t t' log log' alike one two = passed (supervisory_second s.supervisory.wire moment) (passes_second s.supervisory.wire moment) s n [] t t' log log' alike one two
supervisory_once (gots.Bytes bytes) moment s n t t' log log' alike one two = passed (supervisory_bytes s.supervisory.wire bytes) (passes_bytes s.supervisory.wire bytes) s n [] t t' log log' alike one two
supervisory_once gots.NotYet moment s n t t' log log' alike one two = becomes s n [] t t' log log' alike one two
supervisory_once gots.Closed moment s n t t' log log' alike one two = passed (supervisory_closed s.supervisory.wire) (passes_closed s.supervisory.wire) s n [] t t' log log' alike one two
supervisory_once gots.Failed moment s n t t' log log' alike one two = passed (supervisory_closed s.supervisory.wire) (passes_closed s.supervisory.wire) s n [] t t' log log' alike one two

-- What is wrong among the words of a piece is told with another text than the breach at a start.
use Rattle.std.proofs.Common.{◌≡◌, ◌∙◌, ℕ, false, List, Result, Ok, Err, Option, refl, ap}
use Rattle.std.specs.List.{AllByRecursion}
use Rattle.line_base.specs.declared.states.Side.TheVariants.{Entry, Exit}
use Rattle.board_record.specs.Maker.{Maker, next_id}
use Rattle.board_record.specs.declared.maker.IdsUsedUp.{IdsUsedUp}
use Rattle.hermes_element.specs.declared.refusal.Why.TheVariants as whys
use Rattle.hermes_horizontal.specs.Texts.{message_refusal_text}
use Rattle.hermes_horizontal.specs.declared.fault.Fault.{Fault}
use Rattle.hermes_horizontal.specs.declared.fault.Fault.TheVariants as faults
use Rattle.node_core.specs.declared.input.Input.{Input}
use Rattle.node_core.specs.declared.input.Input.TheVariants as inputs
use Rattle.node_core.specs.declared.lane.Lane.{Lane}
use Rattle.node_core.specs.declared.word.Word.{Word}
use Rattle.node_core.specs.declared.word.Word.TheVariants.{Says, Wrong}
use Rattle.node_core.specs.Event.{Event, Insert, Replace, event_of, with_new}
use Rattle.node_core.specs.Step.{Brings}
use Rattle.node_core.specs.Words.{AreFirst, Means, first_more, first_none, first_too_long}
use Rattle.law_sentences.proofs.Orderly.{is_start_text}
use Rattle.law_sentences.proofs.Hearing.{IsGood}
use Rattle.law_sentences.proofs.Telling.{IsGoodEvent}

fault_good : (why : Fault) (at : ℕ) → is_start_text (message_refusal_text why at) ≡ false
fault_good (faults.Form whys.Unended) at = refl
fault_good (faults.Form whys.Comment) at = refl
fault_good (faults.Form whys.CData) at = refl
fault_good (faults.Form whys.Doctype) at = refl
fault_good (faults.Form whys.Instruction) at = refl
fault_good (faults.Form whys.Character) at = refl
fault_good (faults.Form whys.EndName) at = refl
fault_good (faults.Form whys.Repeated) at = refl
fault_good (faults.Form whys.Reference) at = refl
fault_good (faults.Form whys.LongValue) at = refl
fault_good (faults.Form whys.Deep) at = refl
fault_good (faults.Form whys.Many) at = refl
fault_good faults.Root at = refl
fault_good faults.Count at = refl
fault_good (faults.Missing attr) at = refl
fault_good (faults.BadValue attr) at = refl

word_good : (frame : List ℕ) (word : Word) → Means frame word → IsGood word
word_good frame (Says message) means = tt
word_good frame (Wrong text) means = ap is_start_text means.told ∙ fault_good means.why means.at

words_good : {frames : List (List ℕ)} {rest : Option (List ℕ)} {words : List Word} → AreFirst frames rest words → AllByRecursion IsGood words
words_good first_none = tt
words_good (first_more {frame = frame} {word = word} means more) = (word_good frame word means, words_good more)
words_good first_too_long = (refl, tt)

new_good : (found : Result ℕ IdsUsedUp) (event : ℕ → Event) → ((id : ℕ) → IsGoodEvent (event id)) → IsGoodEvent (with_new found event)
new_good (Ok id) event good = good id
new_good (Err why) event good = tt

pub good_event : (input : Input) (maker : Maker) (old new : Lane) (words : List Word) → Brings input old new words → IsGoodEvent (event_of maker input words)
good_event (inputs.Bytes Entry piece) maker old new words brings = words_good brings.0.first
good_event (inputs.Bytes Exit piece) maker old new words brings = words_good brings.0.first
good_event (inputs.Insert barcode) maker old new words brings = new_good (next_id maker) (λ id. Insert id barcode) (λ id. tt)
good_event (inputs.Replace id) maker old new words brings = new_good (next_id maker) (Replace id) (λ other. tt)
good_event _ maker old new words brings = tt

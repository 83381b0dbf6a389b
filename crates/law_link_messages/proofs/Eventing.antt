-- The event that a fit input is, is fit; and a new machine is.
use Rattle.std.proofs.Common.{Bool, Err, List, None, Ok, Option, Result, Some, arith, false, refl, true, ℕ, ◌+◌, ◌-◌, ◌<◌, ◌^◌, ◌≡◌, ◌≤◌}
use Rattle.std.specs.Prelude.{nat_le, option_map}
use Rattle.std.proofs.lemmas.Bool.Decides.{nat_tests}
use Rattle.board_record.specs.Maker.{Maker, after_next, made_id, next_id}
use Rattle.board_record.specs.declared.maker.IdsUsedUp.{IdsUsedUp}
use Rattle.hermes_horizontal.specs.Canonical.{IsProperIf}
use Rattle.hermes_horizontal.specs.Values.{worded}
use Rattle.node_core.specs.Event.{Insert, Replace, event_of, maker_after, with_new}
use Rattle.node_core.specs.Node.{first_body, new_body}
use Rattle.node_core.specs.declared.input.Input.{Input}
use Rattle.node_core.specs.declared.input.Input.TheVariants as inputs
use Rattle.node_core.specs.declared.word.Word.{Word}
use Rattle.law_link_messages.specs.Fit.{AreFitWords, IsFitBody, IsFitEvent, IsFitId, IsFitInput, IsFitMaker, IsTextIf, none_kept}

-- ---- ids

abbrev IsFitNew : Result ℕ IdsUsedUp → Type 0
IsFitNew (Ok id) = IsFitId id
IsFitNew (Err why) = Unit {0}

below_all : (used : ℕ) → nat_le (2 ^ 48 - 1) used ≡ false → used + 1 ≤ 2 ^ 48
below_all used is = grind (arith, nat_tests)

made_small : (machine count : ℕ) → machine < 2 ^ 32 → count ≤ 2 ^ 48 → made_id machine count < 2 ^ 128
made_small machine count small few = omega arith

new_at : (test : Bool) (maker : Maker) → IsFitMaker maker → nat_le (2 ^ 48 - 1) maker.used ≡ test → IsFitNew (next_id maker)
new_at true maker fit is = rw is tt
new_at false maker fit is = rw is (made_small maker.machine (maker.used + 1) fit.small (below_all maker.used is))

new_fits : (maker : Maker) → IsFitMaker maker → IsFitNew (next_id maker)
new_fits maker fit = new_at (nat_le (2 ^ 48 - 1) maker.used) maker fit refl

insert_fits : (found : Result ℕ IdsUsedUp) (barcode : Option (List ℕ)) → IsFitNew found → IsTextIf barcode → IsFitEvent (with_new found (λ id. Insert id barcode))
insert_fits (Ok id) barcode new top = (new, top)
insert_fits (Err why) barcode new top = tt

replace_fits : (found : Result ℕ IdsUsedUp) (old : ℕ) → IsFitNew found → IsFitEvent (with_new found (Replace old))
replace_fits (Ok id) old new = new
replace_fits (Err why) old new = tt

-- ---- events

proper_barcode : (barcode : Option (List ℕ)) → IsTextIf barcode → IsProperIf (option_map worded barcode)
proper_barcode None text = tt
proper_barcode (Some barcode) text = text

pub event_of_fits : (maker : Maker) (input : Input) (words : List Word) → IsFitMaker maker → IsFitInput input → AreFitWords words → IsFitEvent (event_of maker input words)
event_of_fits maker (inputs.Bytes side piece) words m i heard = heard
event_of_fits maker (inputs.Insert barcode) words m i heard = insert_fits (next_id maker) barcode (new_fits maker m) i
event_of_fits maker (inputs.Replace id) words m i heard = replace_fits (next_id maker) id (new_fits maker m)
event_of_fits maker (inputs.Query barcode) words m i heard = i
event_of_fits maker (inputs.Sub id place barcode) words m i heard = record { place = i.0; barcode = proper_barcode barcode i.1 }
event_of_fits maker (inputs.Gets board) words m i heard = i
event_of_fits maker _ words m i heard = tt

after_at : (test : Bool) (maker : Maker) → nat_le (2 ^ 48 - 1) maker.used ≡ test → IsFitMaker maker → IsFitMaker (after_next maker)
after_at true maker is m = rw is m
after_at false maker is m = rw is (record { small = m.small })

pub maker_stays_fit : (input : Input) (maker : Maker) → IsFitMaker maker → IsFitMaker (maker_after input maker)
maker_stays_fit (inputs.Insert barcode) maker m = after_at (nat_le (2 ^ 48 - 1) maker.used) maker refl m
maker_stays_fit (inputs.Replace id) maker m = after_at (nat_le (2 ^ 48 - 1) maker.used) maker refl m
maker_stays_fit _ maker m = m

-- ---- a new machine

pub new_body_fits : IsFitBody new_body
new_body_fits = record { kept = none_kept; outlet = tt; intake = tt; offer = tt }

pub first_body_fits : (is_bridge : Bool) → IsFitBody (first_body is_bridge)
first_body_fits is_bridge = record { kept = none_kept; outlet = tt; intake = tt; offer = tt }

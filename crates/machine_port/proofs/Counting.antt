-- How many ids a machine made is counted by its inputs.
use Rattle.std.proofs.Common.{◌≡◌, ◌∙◌, ◌+◌, ◌-◌, ◌^◌, ◌<◌, ℕ, pos, Bool, true, false, List, Option, refl, sym, ap, subst, arith, leb-false}
use Rattle.std.specs.Prelude.{nat_le, not}
use Rattle.board_record.specs.Maker.{Maker, after_next}
use Rattle.node_core.specs.Announces.{is_intake_free}
use Rattle.node_core.specs.Boards.{is_kept}
use Rattle.node_core.specs.Event.{maker_after}
use Rattle.node_core.specs.May.{is_used_up, may_do, may_of, no_if}
use Rattle.node_core.specs.Node.{NodeState, desk_of}
use Rattle.node_core.specs.Places.{has_place}
use Rattle.node_core.specs.declared.input.Input.{Input}
use Rattle.node_core.specs.declared.input.Input.TheVariants as inputs
use Rattle.node_core.specs.declared.input.No.{No}
use Rattle.node_core.specs.declared.input.No.TheVariants as no
use Rattle.machine_port.specs.Port.{made_after}

-- two reasons are tested, or three, and none of them holds
second_not : (one two : Bool) (why other : No) → no_if one why (no_if two other may_do) ≡ may_do → two ≡ false
second_not false false why other is = refl
second_not false true why other is = cc
second_not true two why other is = cc

third_not : (one two three : Bool) (why other last : No) → no_if one why (no_if two other (no_if three last may_do)) ≡ may_do → three ≡ false
third_not false two three why other last is = second_not two three other last is
third_not true two three why other last is = cc

one_more : (used : ℕ) → is_used_up used ≡ false → used + 1 < 2 ^ 48
one_more used left =
    let below : used < 281474976710655 = leb-false 281474976710655 used left in
    omega (arith, below)

counted_next : (test : Bool) (maker : Maker) → nat_le (2 ^ 48 - 1) maker.used ≡ test → test ≡ false → (after_next maker).used ≡ maker.used + 1
counted_next test maker is left = rw (is ∙ left) refl

left_insert : (barcode : Option (List ℕ)) (s : NodeState) → may_of s (inputs.Insert barcode) ≡ may_do → is_used_up s.maker.used ≡ false
left_insert barcode s may =
    third_not (not (is_intake_free s.lane.body)) (not (has_place (desk_of s (pos 0)) s.lane.body)) (is_used_up s.maker.used) no.IntakeOpen no.Full no.IdsUsedUp may

left_replace : (id : ℕ) (s : NodeState) → may_of s (inputs.Replace id) ≡ may_do → is_used_up s.maker.used ≡ false
left_replace id s may = second_not (not (is_kept id s.lane.body.kept)) (is_used_up s.maker.used) no.NotKept no.IdsUsedUp may

within_next : (made used : ℕ) → made ≡ used → is_used_up used ≡ false → made + 1 < 2 ^ 48
within_next made used same left = subst (λ (n : ℕ). n + 1 < 2 ^ 48) (sym same) (one_more used left)

same_next : (made : ℕ) (maker next : Maker) → made ≡ maker.used → is_used_up maker.used ≡ false → next ≡ after_next maker → made + 1 ≡ next.used
same_next made maker next same left is =
    ap (λ (n : ℕ). n + 1) same ∙ sym (ap (λ (m : Maker). m.used) is ∙ counted_next (is_used_up maker.used) maker refl left)

-- one more is within what an id maker counts, and is its count
pub made_within : (input : Input) (s : NodeState) (made : ℕ) → made ≡ s.maker.used → made < 2 ^ 48 → may_of s input ≡ may_do → made_after input made < 2 ^ 48
made_within (inputs.Insert barcode) s made same within may = within_next made s.maker.used same (left_insert barcode s may)
made_within (inputs.Replace id) s made same within may = within_next made s.maker.used same (left_replace id s may)
made_within _ s made same within may = within

pub made_same : (input : Input) (s t : NodeState) (made : ℕ) → made ≡ s.maker.used → may_of s input ≡ may_do → t.maker ≡ maker_after input s.maker → made_after input made ≡ t.maker.used
made_same (inputs.Insert barcode) s t made same may next = same_next made s.maker t.maker same (left_insert barcode s may) next
made_same (inputs.Replace id) s t made same may next = same_next made s.maker t.maker same (left_replace id s may) next
made_same _ s t made same may next = same ∙ ap (λ (m : Maker). m.used) (sym next)

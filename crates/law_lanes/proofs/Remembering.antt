-- What a request leaves remembered on its track: a lie that was told before, or is told now.
use Rattle.std.proofs.Common.{◌≡◌, ◌||◌, ℕ, Bool, true, false, List, ◌∷◌, Option, Some, None, Ok, refl, sym, ap, ◌∙◌, []}
use Rattle.std.specs.Prelude.{is_some}
use Rattle.line_base.specs.declared.states.Side.{Side}
use Rattle.board_record.specs.declared.sensed.Sensed.{Sensed}
use Rattle.node_core.specs.declared.input.Input.{Input}
use Rattle.line_report.specs.declared.happening.Happening.{Happening}
use Rattle.line_report.specs.declared.happening.Happening.TheVariants as happenings
use Rattle.line_step.specs.State.{LineState, one_more}
use Rattle.line_step.specs.Steps.{MachineSteps, is_second, read_by}
use Rattle.line_step.specs.Lines.{LineDoes, cut_in, lied, moved, spoil_told, spoiled, unseen, unvouched_told}
use Rattle.line_step.specs.Lies.{tells_lie}
use Rattle.line_step.proofs.Remarks.{AreRemarks, IsRemark, Passes, acts_pass, all_pass}
use Rattle.line_step.specs.Requests.{Request, added_told}
use Rattle.line_step.proofs.Effects.{Effect, added_remarks, becomes_by, line_effect, spoil_remarks}
use Rattle.line_step.proofs.Effects as effects
use Rattle.line_step.proofs.Vouching.{Remembers, lie-join}

or_false : (b : Bool) → (b || false) ≡ b
or_false true = refl
or_false false = refl

honest-remark : (h : Happening) → IsRemark h → tells_lie (h ∷ []) ≡ false
honest-remark (happenings.Lie machine sensed) is = absurd is
honest-remark (happenings.Unseen machine side) is = absurd is
honest-remark _ is = refl

remarks-honest : Passes IsRemark (λ (told : List Happening). tells_lie told ≡ false)
remarks-honest = record { none = refl; both = lie-join; one = honest-remark }

honest : (before after : LineState) (told : List Happening) → after.unvouched ≡ before.unvouched → tells_lie told ≡ false → Remembers before after told
honest before after told same none = ap is_some same ∙ rw none (sym (or_false (is_some before.unvouched)))

pub machine-honest : (number which : ℕ) (input : Input) (before after : LineState) (told : List Happening) → MachineSteps number which input before after told → (after.unvouched ≡ before.unvouched) × (tells_lie told ≡ false)
machine-honest number which input before after told steps =
    (ap (λ (s : LineState). s.unvouched) steps.after_is, ap tells_lie steps.told_is ∙ acts_pass (λ (ts : List Happening). tells_lie ts ≡ false) (is_second input) which steps.acts (read_by which before.world) remarks-honest (λ act. refl))

still : (before next : LineState) (what : List Happening) → next.unvouched ≡ before.unvouched → AreRemarks what → Remembers before next what
still before next what same remarks = honest before next what same (all_pass what remarks-honest remarks)

lie : (number which : ℕ) (sensed : Sensed) (before : LineState) (unvouched : Option ℕ) → before.unvouched ≡ unvouched → Remembers before (lied number which sensed before) (happenings.Lie which sensed ∷ unvouched_told before.unvouched)
lie number which sensed before None is = rw is refl
lie number which sensed before (Some line) is = rw is refl

unseen-told : (number which : ℕ) (side : Side) (before : LineState) (unvouched : Option ℕ) → before.unvouched ≡ unvouched → Remembers before (unseen number which side before) (happenings.Unseen which side ∷ unvouched_told before.unvouched)
unseen-told number which side before None is = rw is refl
unseen-told number which side before (Some line) is = rw is refl

remembers : (number : ℕ) (request : Request) (before after : LineState) (told : List Happening) → Effect number before after told request → Remembers before after told
remembers number request before after told (effects.rests _ what remarks b) = becomes_by (Remembers before) b (still before before what refl remarks)
remembers number request before after told (effects.adds lane is_bridge capacity used may b) =
    becomes_by (Remembers before) b (still before (one_more lane is_bridge capacity used before) (added_told is_bridge capacity before) refl (added_remarks is_bridge capacity before))
remembers number request before after told (effects.steps which input given may did) =
    let one = machine-honest number which input before after told did in
    honest before after told one.0 one.1
remembers number request before after told (effects.connects which may did) =
    let one = machine-honest number which _ _ did.between did.earlier did.first in
    let two = machine-honest number _ _ did.between after did.later did.second in
    honest before after told (two.0 ∙ one.0) (ap tells_lie did.told_is ∙ lie-join did.earlier did.later one.1 two.1)
remembers number request before after told (effects.flows which side count may did) =
    let one = machine-honest number which _ _ after told did.steps in
    honest before after told one.0 one.1
remembers number request before after told (effects.cuts gap may b) = becomes_by (Remembers before) b (still before (cut_in gap before) (happenings.Cut gap ∷ []) refl (tt, tt))
remembers number request before after told (effects.spoils which side may b) = becomes_by (Remembers before) b (still before (spoiled which side before) (spoil_told which side before) refl (spoil_remarks which side before))
remembers number request before after told (effects.moves gap step floor is b) = becomes_by (Remembers before) b (honest before (moved (Ok floor) before) (happenings.Moved gap step ∷ []) refl refl)
remembers number request before after told (effects.lies which sensed may b) = becomes_by (Remembers before) b (lie number which sensed before before.unvouched refl)
remembers number request before after told (effects.unsees which side may b) = becomes_by (Remembers before) b (unseen-told number which side before before.unvouched refl)

pub does-remember : (number : ℕ) (request : Request) (before next : LineState) (told : List Happening) → LineDoes number request before next told → Remembers before next told
does-remember number request before next told does = remembers number request before next told (line_effect number request before next told does)

-- Which moves are told: that of the line which moves a board, and no others.
use Rattle.std.proofs.Common.{List, Ok, [], ap, refl, subst, sym, ℕ, ◌++◌, ◌+◌, ◌-◌, ◌∙◌, ◌∷◌, ◌≡◌}
use Rattle.std.specs.List.{AllByRecursion}
use Rattle.line_world.specs.FloorPlan.{FloorPlan, IsWhole, gap_at}
use Rattle.line_world.specs.Moved.{IsMove, leaves}
use Rattle.line_world.specs.Moves.{Around, around_of, floor_move}
use Rattle.line_world.specs.declared.board.Board.{Board}
use Rattle.line_world.specs.declared.gap.Gap.TheVariants as gaps
use Rattle.line_world.specs.declared.moves.Move.{Move}
use Rattle.line_world.specs.declared.moves.Move.TheVariants as moves
use Rattle.line_world.proofs.Inverting.{floor_move_is}
use Rattle.line_world.proofs.Keeping.{between_after}
use Rattle.line_report.specs.declared.happening.Happening.{Happening}
use Rattle.line_report.specs.declared.happening.Happening.TheVariants as happenings
use Rattle.node_core.specs.declared.input.Input.{Input}
use Rattle.line_step.specs.Tracks.{TrackLine, TrackSteps, other_line, own_line}
use Rattle.line_step.specs.Lines.{LineSteps, lied, spoil_told, spoiled, unseen, unvouched_told}
use Rattle.line_step.specs.Shown.{standings_told}
use Rattle.line_step.specs.State.{LineState, one_more}
use Rattle.line_step.specs.Steps.{MachineSteps, is_second, read_by}
use Rattle.law_one_standing.specs.Told.{IsTold, told_first, told_later}
use Rattle.line_step.proofs.Remarks.{IsRemark, Passes, acts_pass, all_pass, standings_remarks, unvouched_remarks}
use Rattle.line_step.specs.Requests.{Request, added_told}
use Rattle.line_step.proofs.Effects.{Effect, added_remarks, becomes_by, line_effect, spoil_remarks}
use Rattle.line_step.proofs.Effects as effects

-- this holds of a move that is told, of its gap and kind
abbrev pub Tells : (ℕ → Move → Type 0) → Happening → Type 0
Tells Holds (happenings.Moved gap step) = Holds gap step
Tells Holds _ = Unit {0}

abbrev pub AllTell : (ℕ → Move → Type 0) → List Happening → Type 0
AllTell Holds told = AllByRecursion (λ (h : Happening). Tells Holds h) told

both_tell : (Holds : ℕ → Move → Type 0) (a b : List Happening) → AllTell Holds a → AllTell Holds b → AllTell Holds (a ++ b)
both_tell Holds [] b one two = two
both_tell Holds (h ∷ a) b one two = (one.0, both_tell Holds a b one.1 two)

among_told : (Holds : ℕ → Move → Type 0) {h : Happening} {told : List Happening} → IsTold h told → AllTell Holds told → Tells Holds h
among_told Holds told_first all = all.0
among_told Holds (told_later later) all = among_told Holds later all.1

-- ---- what tells of no move

remark_tells : (Holds : ℕ → Move → Type 0) (h : Happening) → IsRemark h → AllTell Holds (h ∷ [])
remark_tells Holds (happenings.Moved gap step) is = absurd is
remark_tells Holds _ is = (tt, tt)

remarks_tell : (Holds : ℕ → Move → Type 0) → Passes IsRemark (AllTell Holds)
remarks_tell Holds = record { none = tt; both = both_tell Holds; one = remark_tells Holds }

step_tells : (Holds : ℕ → Move → Type 0) (number m : ℕ) (input : Input) (before next : LineState) (told : List Happening)
    → MachineSteps number m input before next told → AllTell Holds told
step_tells Holds number m input before next told steps =
    subst (λ (hs : List Happening). AllTell Holds hs) (sym steps.told_is)
    (acts_pass (AllTell Holds) (is_second input) m steps.acts (read_by m before.world) (remarks_tell Holds) (λ act. (tt, tt)))

-- ---- the effects

-- a move that is told was done on the floor
pub record Moved (before next : LineState) (gap : ℕ) (step : Move) : Type 0 where
  pub floor : FloorPlan
  pub done : floor_move gap step before.world.floor ≡ Ok floor
  pub now : next.world.floor ≡ floor

effect_tells : (number : ℕ) (request : Request) (before next : LineState) (told : List Happening) → Effect number before next told request
    → AllTell (Moved before next) told
effect_tells number request before next told (effects.rests _ what remarks b) =
    becomes_by (λ s ts. AllTell (Moved before s) ts) b (all_pass what (remarks_tell (Moved before before)) remarks)
effect_tells number request before next told (effects.adds lane is_bridge capacity used may b) =
    let now : LineState = one_more lane is_bridge capacity used before in
    becomes_by (λ s ts. AllTell (Moved before s) ts) b (all_pass (added_told is_bridge capacity before) (remarks_tell (Moved before now)) (added_remarks is_bridge capacity before))
effect_tells number request before next told (effects.steps m input given may did) = step_tells (Moved before next) number m input before next told did
effect_tells number request before next told (effects.connects m may did) =
    subst (λ (hs : List Happening). AllTell (Moved before next) hs) (sym did.told_is)
    (both_tell (Moved before next) did.earlier did.later (step_tells (Moved before next) number m _ _ did.between did.earlier did.first)
    (step_tells (Moved before next) number (m - 1) _ did.between next did.later did.second))
effect_tells number request before next told (effects.flows m side count may did) = step_tells (Moved before next) number m _ _ next told did.steps
effect_tells number request before next told (effects.cuts gap may b) = becomes_by (λ s ts. AllTell (Moved before s) ts) b (tt, tt)
effect_tells number request before next told (effects.spoils m side may b) =
    becomes_by (λ s ts. AllTell (Moved before s) ts) b (all_pass (spoil_told m side before) (remarks_tell (Moved before (spoiled m side before))) (spoil_remarks m side before))
effect_tells number request before next told (effects.moves gap step floor is b) =
    becomes_by (λ s ts. AllTell (Moved before s) ts) b (record { floor = floor; done = is; now = refl }, tt)
effect_tells number request before next told (effects.lies m sensed may b) =
    becomes_by (λ s ts. AllTell (Moved before s) ts) b (tt, all_pass (unvouched_told before.unvouched) (remarks_tell (Moved before (lied number m sensed before))) (unvouched_remarks before.unvouched))
effect_tells number request before next told (effects.unsees m side may b) =
    becomes_by (λ s ts. AllTell (Moved before s) ts) b (tt, all_pass (unvouched_told before.unvouched) (remarks_tell (Moved before (unseen number m side before))) (unvouched_remarks before.unvouched))

-- EACH LINE
pub line_moved : (number : ℕ) (request : Request) (before after : LineState) (told : List Happening) (gap : ℕ) (step : Move)
    → LineSteps number request before after told → IsTold (happenings.Moved gap step) told → Moved before after gap step
line_moved number request before after told gap step steps is =
    let next : LineState = steps.next in
    let all : AllTell (Moved before next) (steps.done ++ standings_told before next) =
    both_tell (Moved before next) steps.done (standings_told before next) (effect_tells number request before next steps.done (line_effect number request before next steps.done steps.does))
    (all_pass (standings_told before next) (remarks_tell (Moved before next)) (standings_remarks before next)) in
    let m : Moved before next gap step = among_told (Moved before next) is (subst (λ (hs : List Happening). AllTell (Moved before next) hs) (sym steps.told_is) all) in
    record { floor = m.floor; done = m.done; now = ap (λ (s : LineState). s.world.floor) steps.after_is ∙ m.now }

-- of a track
pub track_moved : (number : ℕ) (line : TrackLine) (before after : LineState) (told : List Happening) (gap : ℕ) (step : Move)
    → TrackSteps number line before after told → IsTold (happenings.Moved gap step) told → Moved before after gap step
track_moved number (own_line request) before after told gap step steps is = line_moved number request before after told gap step steps.0 is
track_moved number other_line before after told gap step steps is = elim (subst (λ (hs : List Happening). IsTold (happenings.Moved gap step) hs) steps.1 is) [ ]

-- ---- the move `left`

-- the board that makes it
pub record MadeLeft (gap : ℕ) (before after : LineState) : Type 0 where
  pub board : Board
  pub begun : (gap_at before.world.floor gap).lies ≡ gaps.Begun board
  pub across : (gap_at after.world.floor gap).lies ≡ gaps.Left board

record LeavesAround (old new : Around) : Type 0 where
  board : Board
  begun : old.between.lies ≡ gaps.Begun board
  across : new.between.lies ≡ gaps.Left board

leaves_around : {old new : Around} → IsMove moves.Left old new → LeavesAround old new
leaves_around (leaves {board = board}) = record { board = board; begun = refl; across = refl }

pub left_made : (gap : ℕ) (before after : LineState) → IsWhole before.world.floor → Moved before after gap moves.Left → MadeLeft gap before after
left_made gap before after whole m =
    let is = floor_move_is gap moves.Left before.world.floor m.floor m.done in
    let by : LeavesAround (around_of before.world.floor gap) is.around = leaves_around is.done in
    record {
      board = by.board;
      begun = by.begun;
      across = ap (λ (f : FloorPlan). (gap_at f gap).lies) (m.now ∙ is.after)
          ∙ ap (λ between. between.lies) (between_after before.world.floor gap is.around whole is.there) ∙ by.across;
    }

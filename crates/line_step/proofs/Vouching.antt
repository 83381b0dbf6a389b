-- A line remembers that one of the lines of its script told what was not so.
use Rattle.std.proofs.Common.{◌≡◌, ◌+◌, ◌||◌, ◌++◌, ℕ, false, List, ◌∷◌, Option, Some, None, Ok, refl, sym, ap, ◌∙◌, []}
use Rattle.std.specs.Prelude.{is_some}
use Rattle.std.proofs.lemmas.Bool.{or_from, or_parts}
use Rattle.supervisory_core.proofs.Rows.{or_false}
use mathlib.Core.Bool.{or_assoc}
use Rattle.line_base.specs.declared.states.Side.{Side}
use Rattle.board_record.specs.declared.sensed.Sensed.{Sensed}
use Rattle.line_script.specs.declared.line.ScriptLine.{ScriptLine}
use Rattle.node_core.specs.declared.input.Input.{Input}
use Rattle.line_report.specs.declared.happening.Happening.{Happening}
use Rattle.line_report.specs.declared.happening.Happening.TheVariants as happenings
use Rattle.line_step.specs.State.{LineState, no_line, one_more}
use Rattle.line_step.specs.Steps.{MachineSteps, is_second, read_by}
use Rattle.line_step.specs.Shown.{standings_told}
use Rattle.line_step.specs.Lines.{LineSteps, cut_in, lied, moved, spoil_told, spoiled, unseen, unvouched_told}
use Rattle.line_step.specs.Tracks.{TrackLine, TrackSteps, other_line, own_line}
use Rattle.line_step.specs.Runs.{Point, IsRun, state_behind}
use Rattle.line_step.specs.Parts.{IsPlay, IsScriptRun, Part, script_parts}
use Rattle.line_step.specs.Lies.{has_lie, is_lie, tells_lie}
use Rattle.line_step.proofs.Remarks.{AreRemarks, IsRemark, Passes, acts_pass, all_pass, standings_remarks}
use Rattle.line_step.specs.Requests.{Request, added_told, request_of}
use Rattle.line_step.proofs.Effects.{Effect, added_remarks, becomes_by, line_effect, spoil_remarks}
use Rattle.line_step.specs.Requests as requests
use Rattle.line_step.proofs.Effects as effects

-- ---- what is told without a lie

pub lie-join : (a b : List Happening) → tells_lie a ≡ false → tells_lie b ≡ false → tells_lie (a ++ b) ≡ false
lie-join [] b one two = two
lie-join (x ∷ xs) b one two =
    let parts = or_parts (is_lie x) (tells_lie xs) one in
    rw parts.0 (lie-join xs b parts.1 two)

honest-remark : (h : Happening) → IsRemark h → tells_lie (h ∷ []) ≡ false
honest-remark (happenings.Lie machine sensed) is = absurd is
honest-remark (happenings.Unseen machine side) is = absurd is
honest-remark _ is = refl

remarks-honest : Passes IsRemark (λ (told : List Happening). tells_lie told ≡ false)
remarks-honest = record { none = refl; both = lie-join; one = honest-remark }

-- ---- what a line remembers

-- it remembers a lie that was told before or is told now
abbrev pub Remembers : LineState → LineState → List Happening → Type 0
Remembers before after told = is_some after.unvouched ≡ (is_some before.unvouched || tells_lie told)

honest : (before after : LineState) (told : List Happening) → after.unvouched ≡ before.unvouched → tells_lie told ≡ false → Remembers before after told
honest before after told same none = ap is_some same ∙ rw none (or_false (is_some before.unvouched))

machine : (number which : ℕ) (input : Input) (before after : LineState) (told : List Happening) → MachineSteps number which input before after told → (after.unvouched ≡ before.unvouched) × (tells_lie told ≡ false)
machine number which input before after told steps =
    (ap (λ (s : LineState). s.unvouched) steps.after_is, ap tells_lie steps.told_is ∙ acts_pass (λ (ts : List Happening). tells_lie ts ≡ false) (is_second input) which steps.acts (read_by which before.world) remarks-honest (λ act. refl))

still : (before next : LineState) (what : List Happening) → next.unvouched ≡ before.unvouched → AreRemarks what → Remembers before next what
still before next what same remarks = honest before next what same (all_pass what remarks-honest remarks)

lie : (number which : ℕ) (sensed : Sensed) (before : LineState) (unvouched : Option ℕ) → before.unvouched ≡ unvouched → Remembers before (lied number which sensed before) (happenings.Lie which sensed ∷ unvouched_told before.unvouched)
lie number which sensed before None is = rw is refl
lie number which sensed before (Some line) is = rw is refl

unseen-told : (number which : ℕ) (side : Side) (before : LineState) (unvouched : Option ℕ) → before.unvouched ≡ unvouched → Remembers before (unseen number which side before) (happenings.Unseen which side ∷ unvouched_told before.unvouched)
unseen-told number which side before None is = rw is refl
unseen-told number which side before (Some line) is = rw is refl

remembers : (number : ℕ) (request : Request) (before after : LineState) (told : List Happening) → Effect number before after told request → Remembers before after told
remembers number request before after told (effects.rests _ what remarks b) = becomes_by (Remembers before) b (still before before what refl remarks)
remembers number request before after told (effects.adds lane is_bridge capacity used may b) =
    becomes_by (Remembers before) b (still before (one_more lane is_bridge capacity used before) (added_told is_bridge capacity before) refl (added_remarks is_bridge capacity before))
remembers number request before after told (effects.steps which input given may did) =
    let one = machine number which input before after told did in
    honest before after told one.0 one.1
remembers number request before after told (effects.connects which may did) =
    let one = machine number which _ _ did.between did.earlier did.first in
    let two = machine number _ _ did.between after did.later did.second in
    honest before after told (two.0 ∙ one.0) (ap tells_lie did.told_is ∙ lie-join did.earlier did.later one.1 two.1)
remembers number request before after told (effects.flows which side count may did) =
    let one = machine number which _ _ after told did.steps in
    honest before after told one.0 one.1
remembers number request before after told (effects.cuts gap may b) = becomes_by (Remembers before) b (still before (cut_in gap before) (happenings.Cut gap ∷ []) refl (tt, tt))
remembers number request before after told (effects.spoils which side may b) = becomes_by (Remembers before) b (still before (spoiled which side before) (spoil_told which side before) refl (spoil_remarks which side before))
remembers number request before after told (effects.moves gap step floor is b) = becomes_by (Remembers before) b (honest before (moved (Ok floor) before) (happenings.Moved gap step ∷ []) refl refl)
remembers number request before after told (effects.lies which sensed may b) = becomes_by (Remembers before) b (lie number which sensed before before.unvouched refl)
remembers number request before after told (effects.unsees which side may b) = becomes_by (Remembers before) b (unseen-told number which side before before.unvouched refl)

-- what is no lie and moves no board unseen tells none
abbrev pub IsNoLie : Request → Type 0
IsNoLie (requests.lies machine sensed) = ⊥
IsNoLie (requests.unsees machine side) = ⊥
IsNoLie _ = Unit {0}

abbrev IsHonest : LineState → List Happening → Type 0
IsHonest after told = tells_lie told ≡ false

effect-honest : (number : ℕ) (request : Request) (before after : LineState) (told : List Happening) → IsNoLie request → Effect number before after told request → tells_lie told ≡ false
effect-honest number request before after told calm (effects.rests _ what remarks b) = becomes_by IsHonest b (all_pass what remarks-honest remarks)
effect-honest number request before after told calm (effects.adds lane is_bridge capacity used may b) = becomes_by IsHonest b (all_pass (added_told is_bridge capacity before) remarks-honest (added_remarks is_bridge capacity before))
effect-honest number request before after told calm (effects.steps which input given may did) = (machine number which input before after told did).1
effect-honest number request before after told calm (effects.connects which may did) =
    ap tells_lie did.told_is ∙ lie-join did.earlier did.later (machine number which _ _ did.between did.earlier did.first).1 (machine number _ _ did.between after did.later did.second).1
effect-honest number request before after told calm (effects.flows which side count may did) = (machine number which _ _ after told did.steps).1
effect-honest number request before after told calm (effects.cuts gap may b) = becomes_by IsHonest b refl
effect-honest number request before after told calm (effects.spoils which side may b) = becomes_by IsHonest b (all_pass (spoil_told which side before) remarks-honest (spoil_remarks which side before))
effect-honest number request before after told calm (effects.moves gap step floor is b) = becomes_by IsHonest b refl
effect-honest number request before after told calm (effects.lies which sensed may b) = absurd calm
effect-honest number request before after told calm (effects.unsees which side may b) = absurd calm

lie-behind : (a b : List Happening) → tells_lie b ≡ false → tells_lie (a ++ b) ≡ tells_lie a
lie-behind [] b none = none
lie-behind (x ∷ xs) b none = ap (λ t. is_lie x || t) (lie-behind xs b none)

steps-remember : (number : ℕ) (request : Request) (before after : LineState) (told : List Happening) → LineSteps number request before after told → Remembers before after told
steps-remember number request before after told steps =
    let done = remembers number request before steps.next steps.done (line_effect number request before steps.next steps.done steps.does) in
    let same = lie-behind steps.done (standings_told before steps.next) (all_pass (standings_told before steps.next) remarks-honest (standings_remarks before steps.next)) in
    rw (steps.after_is, steps.told_is, same) done

pub steps-honest : (number : ℕ) (request : Request) (before after : LineState) (told : List Happening) → IsNoLie request → LineSteps number request before after told → tells_lie told ≡ false
steps-honest number request before after told calm steps =
    let done = effect-honest number request before steps.next steps.done calm (line_effect number request before steps.next steps.done steps.does) in
    ap tells_lie steps.told_is ∙ lie-join steps.done (standings_told before steps.next) done (all_pass (standings_told before steps.next) remarks-honest (standings_remarks before steps.next))

-- nothing is remembered behind a line that was not before it
none_of : (o : Option ℕ) → is_some o ≡ false → o ≡ None
none_of None is = refl
none_of (Some line) is = cc

-- where somebody vouches for a line, somebody did before its last line, which told no lie
pub record Vouches (before : LineState) (told : List Happening) : Type 0 where
  pub vouched : before.unvouched ≡ None
  pub unlied : tells_lie told ≡ false

steps-vouch : (number : ℕ) (request : Request) (before after : LineState) (told : List Happening) → LineSteps number request before after told → after.unvouched ≡ None → Vouches before told
steps-vouch number request before after told steps none =
    let parts = or_parts (is_some before.unvouched) (tells_lie told) (sym (steps-remember number request before after told steps) ∙ ap is_some none) in
    record { vouched = none_of before.unvouched parts.0; unlied = parts.1 }

pub unvouched-before : (number : ℕ) (request : Request) (before after : LineState) (told : List Happening) → LineSteps number request before after told → after.unvouched ≡ None → before.unvouched ≡ None
unvouched-before number request before after told steps none = (steps-vouch number request before after told steps none).vouched

pub track-vouches : (number : ℕ) (line : TrackLine) (before after : LineState) (told : List Happening) → TrackSteps number line before after told → after.unvouched ≡ None → Vouches before told
track-vouches number (own_line request) before after told steps none = steps-vouch number request before after told steps.0 none
track-vouches number other_line before after told steps none = record { vouched = steps.0.vouched none; unlied = ap tells_lie steps.1 }

-- ---- over a run

record RunVouches (s : LineState) (points : List Point) : Type 0 where
  vouched : s.unvouched ≡ None
  pub unlied : has_lie points ≡ false

run-vouches : (s : LineState) (asked : List TrackLine) (points : List Point) → IsRun s asked points → (state_behind s points).unvouched ≡ None → RunVouches s points
run-vouches s [] [] run none = record { vouched = none; unlied = refl }
run-vouches s [] (point ∷ points) run none = absurd run
run-vouches s (line ∷ asked) [] run none = absurd run
run-vouches s (line ∷ asked) (point ∷ points) run none =
    let later = run-vouches point.after asked points run.1 none in
    let here = track-vouches (s.lines + 1) line s point.after point.told run.0 later.vouched in
    record { vouched = here.vouched; unlied = or_from (tells_lie point.told) (has_lie points) here.unlied later.unlied }

-- A TRACK FOR WHICH SOMEBODY VOUCHES told nothing that was not so, nor let a board come or go unseen
pub none_lied : (asked : List TrackLine) (points : List Point) → IsRun no_line asked points → (state_behind no_line points).unvouched ≡ None → has_lie points ≡ false
none_lied asked points run none = (run-vouches no_line asked points run none).unlied

-- ---- over a script

play-remembers : (s : LineState) (parts : List Part) (points : List Point) → IsPlay s parts points → is_some (state_behind s points).unvouched ≡ (is_some s.unvouched || has_lie points)
play-remembers s [] [] play = or_false (is_some s.unvouched)
play-remembers s [] (point ∷ points) play = absurd play
play-remembers s (part ∷ parts) [] play = absurd play
play-remembers s (part ∷ parts) (point ∷ points) play =
    play-remembers point.after parts points play.1
    ∙ ap (λ t. t || has_lie points) (steps-remember (s.lines + 1) (request_of (part.line s)) s point.after point.told play.0.steps)
    ∙ or_assoc (is_some s.unvouched) (tells_lie point.told) (has_lie points)

-- A LINE IS UNVOUCHED exactly where one of the lines of its script told what was not so, or let a board come or go unseen
pub script_remembered : (asked : List ScriptLine) (points : List Point) → IsScriptRun no_line asked points → is_some (state_behind no_line points).unvouched ≡ has_lie points
script_remembered asked points run = play-remembers no_line (script_parts asked) points run

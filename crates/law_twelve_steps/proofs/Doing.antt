-- A link step that can be done is done: it tells no reason and nothing that was not so, disturbs nothing, and its line is fit.
use Rattle.std.proofs.Common.{◌≡◌, ◌+◌, ◌++◌, ◌&&◌, not, ℕ, Bool, true, false, List, [], ◌∷◌, None, Result, Ok, Err, eqb-true, refl, subst, sym}
use Rattle.std.specs.List.{AllByRecursion}
use Rattle.std.specs.Prelude.{IsOk}
use Rattle.line_base.specs.declared.states.Side.TheVariants.{Entry, Exit}
use Rattle.line_report.specs.declared.happening.Happening.{Happening}
use Rattle.line_step.specs.Lies.{has_lie, tells_lie}
use Rattle.line_step.specs.Lines.{Becomes, Flows, LineDoes, LineSteps, Unless, arrived, move_told, moved}
use Rattle.line_step.specs.Reasons.{May, may_do, may_flow, may_sense}
use Rattle.line_step.specs.Homes.{AreNewcomers, IsNewcomer}
use Rattle.line_step.specs.Tracks.{ComesFromElsewhere, TrackLine, TrackSteps, asked_on, other_line, own_line}
use Rattle.line_step.specs.Runs.{IsRun, Point}
use Rattle.line_step.specs.Shown.{standings_told}
use Rattle.line_step.specs.State.{LineState}
use Rattle.line_step.specs.Steps.{MachineSteps, is_second, read_by}
use Rattle.line_step.specs.Requests.{Request}
use Rattle.line_step.specs.Requests as requests
use Rattle.line_world.specs.FloorPlan.{FloorPlan}
use Rattle.line_world.specs.Moves.{floor_move}
use Rattle.line_world.specs.declared.moves.Move.{Move}
use Rattle.line_world.specs.declared.moves.Move.TheVariants as moves
use Rattle.line_world.specs.declared.moves.MoveNo.{MoveNo}
use Rattle.node_core.specs.declared.input.Input.{Input}
use Rattle.node_core.specs.declared.input.Input.TheVariants as inputs
use Rattle.law_one_standing.specs.Standing.{IsFitRequest, IsFitTrack}
use Rattle.law_twelve_steps.specs.Undisturbed.{AreUndisturbed, IsPossible, IsUndisturbed, begins, enters, flows_down, flows_up, is_link_step, is_of_link, leaves, more, none, senses, tells_no}
use Rattle.law_twelve_steps.specs.Play.{AreEnabled}
use Rattle.law_twelve_steps.proofs.Told.{AreDone, IsCalm, acts_done, done_calm, done_join, neither, standings_done}

-- ---- a line that can be done

done_by : (may : May) (before after : LineState) (told : List Happening) (Done : Type 0) → may ≡ may_do → Unless may before after told Done → Done
done_by (Ok _) before after told Done can does = does
done_by (Err reason) before after told Done can does = absurd cc

machine_done : (number machine : ℕ) (input : Input) (before after : LineState) (told : List Happening) → MachineSteps number machine input before after told → AreDone told
machine_done number machine input before after told steps = subst (λ (hs : List Happening). AreDone hs) (sym steps.told_is) (acts_done (is_second input) machine steps.acts (read_by machine before.world))

move_done : (gap : ℕ) (step : Move) (answer : Result FloorPlan MoveNo) (s after : LineState) (told : List Happening) → IsOk answer → Becomes (moved answer s) (move_told gap step answer) after told → AreDone told
move_done gap step (Ok floor) s after told can becomes = subst (λ (hs : List Happening). AreDone hs) (sym becomes.told_is) (tt, tt)
move_done gap step (Err why) s after told can becomes = absurd cc

does_done : (number : ℕ) (request : Request) (s next : LineState) (told : List Happening) → IsPossible s request → LineDoes number request s next told → AreDone told
does_done number (requests.flows machine side count) s next told can does =
    let flows : Flows number machine side count s next told = done_by (may_flow machine side s) s next told (Flows number machine side count s next told) can does in
    machine_done number machine (inputs.Bytes side flows.piece) (arrived machine side count s) next told flows.steps
does_done number (requests.moves_on gap moves.Begin) s next told can does = move_done gap moves.Begin (floor_move gap moves.Begin s.world.floor) s next told can does
does_done number (requests.moves_on gap moves.Left) s next told can does = move_done gap moves.Left (floor_move gap moves.Left s.world.floor) s next told can does
does_done number (requests.moves_on gap moves.Enter) s next told can does = move_done gap moves.Enter (floor_move gap moves.Enter s.world.floor) s next told can does
does_done number (requests.gives machine inputs.Nothing) s next told can does =
    machine_done number machine inputs.Nothing s next told (done_by (may_sense machine s) s next told (MachineSteps number machine inputs.Nothing s next told) can does)
does_done number _ s next told can does = absurd can

pub step_calm : (number : ℕ) (request : Request) (s after : LineState) (told : List Happening) → IsPossible s request → LineSteps number request s after told → IsCalm told
step_calm number request s after told can steps =
    subst (λ (hs : List Happening). IsCalm hs) (sym steps.told_is)
    (done_calm (steps.done ++ standings_told s steps.next) (done_join steps.done (standings_told s steps.next) (does_done number request s steps.next steps.done can steps.does) (standings_done s steps.next)))

-- ---- what it asks for

calm_line : (k : ℕ) (s : LineState) (request : Request) → is_of_link k s request ≡ true → IsUndisturbed k request
calm_line k s (requests.flows machine Exit None) is = subst (λ (m : ℕ). IsUndisturbed k (requests.flows m Exit None)) (sym (eqb-true machine k is)) flows_up
calm_line k s (requests.flows machine Entry None) is = subst (λ (m : ℕ). IsUndisturbed k (requests.flows m Entry None)) (sym (eqb-true machine (k + 1) is)) flows_down
calm_line k s (requests.moves_on gap moves.Begin) is = subst (λ (m : ℕ). IsUndisturbed k (requests.moves_on m moves.Begin)) (sym (eqb-true gap k is)) begins
calm_line k s (requests.moves_on gap moves.Left) is = subst (λ (m : ℕ). IsUndisturbed k (requests.moves_on m moves.Left)) (sym (eqb-true gap k is)) leaves
calm_line k s (requests.moves_on gap moves.Enter) is = subst (λ (m : ℕ). IsUndisturbed k (requests.moves_on m moves.Enter)) (sym (eqb-true gap k is)) enters
calm_line k s (requests.gives machine inputs.Nothing) is = senses
calm_line k s _ is = absurd cc

fit_line : (k : ℕ) (s : LineState) (request : Request) → is_of_link k s request ≡ true → IsFitRequest request
fit_line k s (requests.gives machine inputs.Nothing) is = tt
fit_line k s (requests.gives machine input) is = absurd cc
fit_line k s (requests.adds lane is_bridge capacity used) is = absurd cc
fit_line k s _ is = tt

-- no link step lets a board come from another lane
pub line_comes : (k : ℕ) (s : LineState) (request : Request) (t : LineState) → is_of_link k s request ≡ true → ComesFromElsewhere request t
line_comes k s (requests.gives machine (inputs.Gets board)) t is = absurd cc
line_comes k s (requests.gives machine inputs.Nothing) t is = tt
line_comes k s _ t is = tt

line_newcomer : (k : ℕ) (s : LineState) (line : TrackLine) (past : List Happening) → is_of_link k s (asked_on line) ≡ true → IsNewcomer past line
line_newcomer k s (own_line (requests.gives machine (inputs.Gets board))) past is = absurd cc
line_newcomer k s (own_line (requests.gives machine inputs.Nothing)) past is = tt
line_newcomer k s _ past is = tt

-- ---- a play

pub play_newcomers : (k : ℕ) (s : LineState) (past : List Happening) (asked : List TrackLine) (points : List Point) → AreEnabled k s asked points → AreNewcomers past asked points
play_newcomers k s past [] points enabled = tt
play_newcomers k s past (line ∷ asked) [] enabled = absurd enabled
play_newcomers k s past (line ∷ asked) (point ∷ points) enabled = (line_newcomer k s line past enabled.0, play_newcomers k point.after (past ++ point.told) asked points enabled.2)

-- a line of another track is no link step
track_calm : (number : ℕ) (line : TrackLine) (s after : LineState) (told : List Happening) → IsPossible s (asked_on line) → TrackSteps number line s after told → IsCalm told
track_calm number (own_line request) s after told can steps = step_calm number request s after told can steps.0
track_calm number other_line s after told can steps = absurd can

pub play_fit : (k : ℕ) (s : LineState) (asked : List TrackLine) (points : List Point) → AreEnabled k s asked points → AllByRecursion IsFitTrack asked
play_fit k s [] points enabled = tt
play_fit k s (line ∷ asked) [] enabled = absurd enabled
play_fit k s (line ∷ asked) (point ∷ points) enabled = (fit_line k s (asked_on line) enabled.0, play_fit k point.after asked points enabled.2)

pub play_calm : (k : ℕ) (s : LineState) (asked : List TrackLine) (points : List Point) → AreEnabled k s asked points → AreUndisturbed k asked
play_calm k s [] points enabled = none
play_calm k s (line ∷ asked) [] enabled = absurd enabled
play_calm k s (line ∷ asked) (point ∷ points) enabled = more (calm_line k s (asked_on line) enabled.0) (play_calm k point.after asked points enabled.2)

pub play_honest : (k : ℕ) (s : LineState) (asked : List TrackLine) (points : List Point) → IsRun s asked points → AreEnabled k s asked points → has_lie points ≡ false
play_honest k s [] [] run enabled = refl
play_honest k s [] (point ∷ points) run enabled = absurd run
play_honest k s (line ∷ asked) [] run enabled = absurd run
play_honest k s (line ∷ asked) (point ∷ points) run enabled =
    neither (tells_lie point.told) (has_lie points) (track_calm (s.lines + 1) line s point.after point.told enabled.1 run.0).lie (play_honest k point.after asked points run.1 enabled.2)

step_by : (of_link refuses : Bool) → of_link ≡ true → refuses ≡ false → (of_link && not refuses) ≡ true
step_by true false is calm = refl
step_by true true is calm = absurd cc
step_by false refuses is calm = absurd cc

pub step_is : (k number : ℕ) (line : TrackLine) (s after : LineState) (told : List Happening) → is_of_link k s (asked_on line) ≡ true → IsPossible s (asked_on line) → TrackSteps number line s after told → is_link_step k s (asked_on line) told ≡ true
step_is k number line s after told is can steps = step_by (is_of_link k s (asked_on line)) (tells_no told) is (track_calm number line s after told can steps).no

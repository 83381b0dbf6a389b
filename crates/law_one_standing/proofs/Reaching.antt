-- A line that a run has led to, and the next line of its script; and which machine made an id.
use Rattle.std.proofs.Common.{List, Some, [], arith, eq-eqb, inl, inr, refl, slice_get, suc, subst, sym, true, zero, ℕ, ◌++◌, ◌+◌, ◌∙◌, ◌∷◌, ◌≡◌, ◌≤◌}
use Rattle.std.specs.List.{AllByRecursion}
use Rattle.line_world.specs.FloorPlan.{has_id}
use Rattle.line_world.specs.declared.board.Board.{Board}
use Rattle.line_report.specs.declared.happening.Happening.{Happening}
use Rattle.node_core.specs.Node.{NodeState}
use Rattle.line_step.specs.Lines.{LineSteps}
use Rattle.line_step.specs.Tracks.{ComesFromElsewhere, TrackLine, TrackSteps, own_line}
use Rattle.line_step.specs.Runs.{IsRun, Point, state_behind}
use Rattle.line_step.specs.State.{LineState, machine_in, no_line}
use Rattle.line_step.specs.Requests.{Request}
use Rattle.step_rules.specs.Makers.{IsMadeBy, IsOld}
use Rattle.law_one_standing.specs.Reached.{HasMadeId, IsMade, IsReached}
use Rattle.law_one_standing.specs.Standing.{IsFitTrack}

-- ---- a line more

pub fit_more : (asked : List TrackLine) (line : TrackLine) → AllByRecursion IsFitTrack asked → IsFitTrack line → AllByRecursion IsFitTrack (asked ++ line ∷ [])
fit_more [] line fit one = (one, tt)
fit_more (first ∷ asked) line fit one = (fit.0, fit_more asked line fit.1 one)

pub run_more : (s : LineState) (asked : List TrackLine) (points : List Point) (line : TrackLine) (point : Point) → IsRun s asked points → TrackSteps ((state_behind s points).lines + 1) line (state_behind s points) point.after point.told → IsRun s (asked ++ line ∷ []) (points ++ point ∷ [])
run_more s [] [] line point run steps = (steps, tt)
run_more s [] (first ∷ points) line point run steps = absurd run
run_more s (first ∷ asked) [] line point run steps = absurd run
run_more s (first ∷ asked) (before ∷ points) line point run steps = (run.0, run_more before.after asked points line point run.1 steps)

pub behind_more : (s : LineState) (points : List Point) (point : Point) → state_behind s (points ++ point ∷ []) ≡ point.after
behind_more s [] point = refl
behind_more s (first ∷ points) point = behind_more first.after points point

pub reached_run : (request : Request) (before after : LineState) (told : List Happening) → (was : IsReached before) → LineSteps (before.lines + 1) request before after told → ComesFromElsewhere request before → IsRun no_line (was.asked ++ own_line request ∷ []) (was.points ++ record { told = told; after = after } ∷ [])
reached_run request before after told was steps from =
    run_more no_line was.asked was.points (own_line request) (record { told = told; after = after }) was.run
    (subst (λ (s : LineState). LineSteps (s.lines + 1) request s after told × ComesFromElsewhere request s) (sym was.behind) (steps, from))

-- ---- the machine that made an id

record IsMadeAt (number : ℕ) (nodes : List NodeState) (id : ℕ) : Type 0 where
  place : ℕ
  node : NodeState
  there : slice_get nodes place ≡ Some node
  made : IsMadeBy (number + place) node.maker.used id

made_at : (number : ℕ) (nodes : List NodeState) (id : ℕ) → IsOld number nodes id → IsMadeAt number nodes id
made_at number [] id old = absurd old
made_at number (node ∷ nodes) id (inl made) =
    let here : number + 0 ≡ number = omega arith in
    record { place = 0; node = node; there = refl; made = rw here made }
made_at number (node ∷ nodes) id (inr later) =
    let m : IsMadeAt (number + 1) nodes id = made_at (number + 1) nodes id later in
    let here : number + suc m.place ≡ number + 1 + m.place = omega arith in
    record { place = suc m.place; node = m.node; there = m.there; made = rw here m.made }

pub made_of : (s : LineState) (id : ℕ) → IsOld 1 s.machines id → IsMade s id
made_of s id old =
    let m : IsMadeAt 1 s.machines id = made_at 1 s.machines id old in
    let here : 1 + m.place ≡ suc m.place = omega arith in
    let made : IsMadeBy (suc m.place) m.node.maker.used id = subst (λ (n : ℕ). IsMadeBy n m.node.maker.used id) here m.made in
    record { machine = suc m.place; node = m.node; there = m.there; count = made.count; used = made.counted; small = made.small; is = made.is }

old_at : (number : ℕ) (nodes : List NodeState) (place : ℕ) (node : NodeState) (id : ℕ) → slice_get nodes place ≡ Some node → IsMadeBy (number + place) node.maker.used id → IsOld number nodes id
old_at number [] place node id there made = cc
old_at number (first ∷ nodes) zero node id there made =
    let same : first ≡ node = cc in
    let here : number + 0 ≡ number = omega arith in
    inl (rw same (rw here at made))
old_at number (first ∷ nodes) (suc place) node id there made =
    let here : number + suc place ≡ number + 1 + place = omega arith in
    inr (old_at (number + 1) nodes place node id there (rw here at made))

pub old_of : (s : LineState) (id : ℕ) → IsMade s id → IsOld 1 s.machines id
old_of s id made = by made.machine made.there (record { count = made.count; counted = made.used; small = made.small; is = made.is }) where
  by : (machine : ℕ) → machine_in machine s ≡ Some made.node → IsMadeBy machine made.node.maker.used id → IsOld 1 s.machines id
  by zero there is = cc
  by (suc place) there is =
      let here : suc place ≡ 1 + place = omega arith in
      old_at 1 s.machines place made.node id there (subst (λ (n : ℕ). IsMadeBy n made.node.maker.used id) here is)

-- ---- the ids of boards

own_id : (board : Board) (id : ℕ) → board.id ≡ Some id → has_id id board ≡ true
own_id board id is = rw is (eq-eqb id id refl)

abbrev IsOldBoard : LineState → Board → Type 0
IsOldBoard s board = (id : ℕ) → has_id id board ≡ true → IsOld 1 s.machines id

pub boards_made : (s : LineState) (boards : List Board) → AllByRecursion (IsOldBoard s) boards → AllByRecursion (HasMadeId s) boards
boards_made s [] old = tt
boards_made s (board ∷ boards) old = (λ id is. made_of s id (old.0 id (own_id board id is)), boards_made s boards old.1)

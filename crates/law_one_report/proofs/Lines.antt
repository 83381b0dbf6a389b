-- EACH LINE HAS A STEP: a reason stands against it or none does, and what it asks for is done. So each script has a run.
use Rattle.std.specs.Borrow.{Bor}
use Rattle.std.proofs.Common.{◌≡◌, ◌-◌, ◌+◌, ◌++◌, ℕ, Bool, true, false, List, ap, [], ◌∷◌, Option, Some, None, Ok, Err, length, not, refl, arith}
use Rattle.line_base.specs.declared.states.Side.{Side}
use Rattle.line_link.specs.Link.{connected_of}
use Rattle.line_report.specs.declared.happening.Happening.{Happening}
use Rattle.line_script.specs.declared.line.ScriptLine.{ScriptLine}
use Rattle.line_world.specs.Moves.{floor_move}
use Rattle.std.specs.Prelude.{is_some}
use Rattle.handover_out.specs.State.{is_id}
use Rattle.node_core.specs.Boards.{is_kept}
use Rattle.node_core.specs.May as own
use Rattle.node_core.specs.May.{may_of, may_reach}
use Rattle.node_core.specs.declared.input.No.TheVariants as nos
use Rattle.node_core.specs.Node.{NodeState}
use Rattle.node_core.specs.declared.input.Input.{Input}
use Rattle.node_core.specs.declared.input.Input.TheVariants as inputs
use Rattle.line_report.specs.declared.happening.Happening.TheVariants as happenings
use Rattle.line_report.specs.declared.happening.Reason.TheVariants as reasons
use Rattle.line_step.specs.Lines.{Becomes, Connects, Counts, Flows, LineDoes, LineSteps, Unless, arrived, connecting, cut_in, lied, met, move_told, moved, spoil_told, spoiled, unseen, unvouched_told}
use Rattle.line_step.specs.Reasons.{May, behind_own, has_neighbour, has_unread, if_there, is_dry_at, is_here, link_stands, may_add, may_connect, may_cut, may_do, may_flow, may_lie, may_spoil, may_stop, may_unseen, no_if, with_word}
use Rattle.line_step.specs.Parts.{IsPlay, Part, count_behind, parts_of, script_parts}
use Rattle.line_step.specs.Runs.{Point, all_told, state_behind}
use Rattle.line_step.specs.Shown.{shown, standings_told}
use Rattle.line_step.specs.State.{LineState, machine_in, one_more}
use Rattle.line_step.specs.Steps.{MachineSteps}
use Rattle.line_step.specs.World.{link_at, piece_for}
use Rattle.line_step.proofs.Connecting.{CanConnect, can_connect}
use Rattle.line_step.proofs.Counting.{step_counts}
use Rattle.line_step.proofs.Keeps.{lines_stay}
use Rattle.line_step.proofs.Numbers.{machine_at_number, machine_within}
use Rattle.line_step.specs.Requests.{Request, added_told, may_get, request_of}
use Rattle.line_step.specs.Requests as requests
use Rattle.law_one_report.specs.Steps.{HasRun, HasScriptStep, HasStep}
use Rattle.law_one_report.proofs.Machines.{has_machine_steps}

-- something is done, and told
record HasDone (Does : LineState → List Happening → Type 0) : Type 0 where
  after : LineState
  told : List Happening
  does : Does after told

becomes : (next : LineState) (what : List Happening) → HasDone (Becomes next what)
becomes next what = record { after = next; told = what; does = record { after_is = refl; told_is = refl } }

unless : (before : LineState) (may : May) (Does : LineState → List Happening → Type 0) → (may ≡ may_do → HasDone Does) → HasDone (λ after told. Unless may before after told (Does after told))
unless before (Ok _) Does does = does refl
unless before (Err reason) Does does = becomes before (happenings.No reason ∷ [])

-- ---- the machine that a reason lets through is there

record IsThere (found : Option NodeState) : Type 0 where
  node : NodeState
  is : found ≡ Some node

there : (found : Option NodeState) (may : NodeState → May) → if_there found may ≡ may_do → IsThere found
there (Some node) may can = record { node = node; is = refl }
there None may can = absurd cc

get_there : (machine : ℕ) (input : Input) (s : LineState) → may_get machine input s ≡ may_do → IsThere (machine_in machine s)
get_there machine (inputs.Remove id) s can = there (machine_in machine s) (λ node. behind_own (may_of node (inputs.Remove id)) (no_if (not (is_here machine id s.world)) reasons.NotHere may_do)) can
get_there machine (inputs.Replace id) s can =
    there (machine_in machine s) (λ node. behind_own (may_of node (inputs.Remove id)) (no_if (not (is_here machine id s.world)) reasons.NotHere (behind_own (may_of node (inputs.Replace id)) may_do))) can
get_there machine (inputs.Notice side) s can =
    there (machine_in machine s) (λ node. no_if (not (has_neighbour machine side s)) reasons.NoNeighbour (behind_own (may_reach side node.lane.body)
    (no_if (link_stands machine side s.world) reasons.Standing (no_if (not (is_dry_at machine side s.world)) reasons.TextInFlight may_do)))) can
get_there machine inputs.Nothing s can = there (machine_in machine s) (λ node. no_if (not (has_unread machine s.world)) reasons.NothingToRead may_do) can
get_there machine (inputs.Answer query order) s can = there (machine_in machine s) (λ node. with_word node (may_of node (inputs.Answer query order))) can
get_there machine inputs.Connect s can = absurd cc
get_there machine inputs.Accepted s can = absurd cc
get_there machine inputs.Second s can = absurd cc
get_there machine (inputs.Bytes side piece) s can = absurd cc
get_there machine (inputs.Gives id to) s can =
    there (machine_in machine s) (λ node. no_if (is_some node.bridge) (reasons.Node nos.Bridge) (no_if (not (is_kept id node.lane.body.kept)) (reasons.Node nos.NotKept)
    (no_if (not (is_here machine id s.world)) reasons.NotHere (no_if (is_id node.lane.body.last_offer id) (reasons.Node nos.WasOffered) may_do)))) can
get_there machine (inputs.Gets board) s can = there (machine_in machine s) (λ node. behind_own (own.may_get node) may_do) can
get_there machine input s can = there (machine_in machine s) (λ node. behind_own (may_of node input) may_do) can

-- ---- what is done

machine_done : (number machine : ℕ) (input : Input) (before : LineState) → IsThere (machine_in machine before) → HasDone (MachineSteps number machine input before)
machine_done number machine input before found =
    let has = has_machine_steps number machine input before found.node found.is in
    record { after = has.after; told = has.told; does = has.steps }

flow_there : (machine : ℕ) (side : Side) (s : LineState) → may_flow machine side s ≡ may_do → IsThere (machine_in machine s)
flow_there machine side s can =
    there (machine_in machine s) (λ node. no_if (not (has_neighbour machine side s)) reasons.NoNeighbour (behind_own (may_reach side node.lane.body)
    (no_if (is_dry_at machine side s.world) reasons.NothingInFlight may_do))) can

flows_done : (number machine : ℕ) (side : Side) (count : Option ℕ) (before : LineState) → may_flow machine side before ≡ may_do → HasDone (Flows number machine side count before)
flows_done number machine side count before can =
    let bytes = piece_for machine side count before.world in
    let piece : Bor (List ℕ) = record { ref_ptr = (0, 0); now = bytes } in
    let found = flow_there machine side before can in
    let has = has_machine_steps number machine (inputs.Bytes side piece) (arrived machine side count before) found.node found.is in
    record { after = has.after; told = has.told; does = record { piece = piece; bytes = refl; steps = has.steps } }

-- the machine above one that may connect is there, too, and still is once that one was connected
above_there : (number machine : ℕ) (before between : LineState) (told : List Happening) → CanConnect machine before → MachineSteps number machine inputs.Connect (connecting machine before) between told → IsThere (machine_in (machine - 1) between)
above_there number machine before between told can steps =
    let within = machine_within machine before can.node can.there in
    let same : length between.machines ≡ length before.machines = (step_counts number machine inputs.Connect (connecting machine before) between told steps).machines in
    let behind = can.behind in
    let found = machine_at_number (machine - 1) between (omega arith) (omega arith) in
    record { node = found.0; is = found.1 }

connects_done : (number machine : ℕ) (before : LineState) → may_connect machine before ≡ may_do → HasDone (Connects number machine before)
connects_done number machine before may =
    let can = can_connect machine before may in
    let first = has_machine_steps number machine inputs.Connect (connecting machine before) can.node can.there in
    let input = met (connected_of (link_at (machine - 1) before.world).upstream) in
    let above = above_there number machine before first.after first.told can first.steps in
    let second = has_machine_steps number (machine - 1) input first.after above.node above.is in
    record {
      after = second.after;
      told = first.told ++ second.told;
      does = record { between = first.after; earlier = first.told; later = second.told; first = first.steps; second = second.steps; told_is = refl };
    }

-- ---- each request

request_done : (number : ℕ) (request : Request) (before : LineState) → HasDone (LineDoes number request before)
request_done number requests.nothing before = becomes before []
request_done number requests.shows before = becomes before (shown before)
request_done number (requests.adds lane is_bridge capacity used) before = unless before (may_add before) _ (λ can. becomes (one_more lane is_bridge capacity used before) (added_told is_bridge capacity before))
request_done number (requests.gives machine input) before = unless before (may_get machine input before) _ (λ can. machine_done number machine input before (get_there machine input before can))
request_done number (requests.connects machine) before = unless before (may_connect machine before) _ (λ can. connects_done number machine before can)
request_done number (requests.flows machine side count) before = unless before (may_flow machine side before) _ (λ can. flows_done number machine side count before can)
request_done number (requests.cuts gap) before = unless before (may_cut gap before) _ (λ can. becomes (cut_in gap before) (happenings.Cut gap ∷ []))
request_done number (requests.stops machine) before = unless before (may_stop machine before) _ (λ can. becomes before (happenings.Stop machine ∷ []))
request_done number (requests.spoils machine side) before = unless before (may_spoil machine side before) _ (λ can. becomes (spoiled machine side before) (spoil_told machine side before))
request_done number (requests.moves_on gap step) before =
    becomes (moved (floor_move gap step before.world.floor) before) (move_told gap step (floor_move gap step before.world.floor))
request_done number (requests.lies machine sensed) before =
    unless before (may_lie machine sensed.side before) _ (λ can. becomes (lied number machine sensed before) (happenings.Lie machine sensed ∷ unvouched_told before.unvouched))
request_done number (requests.unsees machine side) before =
    unless before (may_unseen machine side before) _ (λ can. becomes (unseen number machine side before) (happenings.Unseen machine side ∷ unvouched_told before.unvouched))

-- the count that a line leaves, or that it goes on to
counts_behind : (ends : Bool) (lines : ℕ) → Counts lines (count_behind ends lines)
counts_behind true lines = record { least = omega arith; most = omega arith }
counts_behind false lines = record { least = omega arith; most = omega arith }

-- EACH LINE of a run has a step, whether the count goes on with it
record HasStepTo (number lines : ℕ) (request : Request) (before : LineState) : Type 0 where
  after : LineState
  told : List Happening
  steps : LineSteps number request before after told
  counted : after.lines ≡ lines

line_to : (ends : Bool) (number : ℕ) (request : Request) (before : LineState) → HasStepTo number (count_behind ends before.lines) request before
line_to ends number request before =
    let done = request_done number request before in
    let lines = count_behind ends done.after.lines in
    record {
      after = record done.after { lines = lines };
      told = done.told ++ standings_told before done.after;
      steps = record { next = done.after; done = done.told; does = done.does; lines = lines; counts = counts_behind ends done.after.lines; after_is = refl; told_is = refl };
      counted = ap (count_behind ends) (lines_stay number request before done.after done.told done.does);
    }

pub each_line : (number : ℕ) (request : Request) (before : LineState) → HasStep number request before
each_line number request before =
    let one = line_to true number request before in
    record { after = one.after; told = one.told; steps = one.steps }

-- ---- each line of a script

record HasPlay (before : LineState) (parts : List Part) : Type 0 where
  points : List Point
  play : IsPlay before parts points

each_play : (before : LineState) (parts : List Part) → HasPlay before parts
each_play before [] = record { points = []; play = tt }
each_play before (part ∷ parts) =
    let first = line_to part.ends (before.lines + 1) (request_of (part.line before)) before in
    let others = each_play first.after parts in
    record { points = record { told = first.told; after = first.after } ∷ others.points; play = (record { steps = first.steps; counted = first.counted }, others.play) }

pub each_script_line : (line : ScriptLine) (before : LineState) → HasScriptStep line before
each_script_line line before =
    let some = each_play before (parts_of line) in
    record { after = state_behind before some.points; told = all_told some.points; steps = record { points = some.points; plays = some.play; behind = refl; told_is = refl } }

pub each_run : (before : LineState) (asked : List ScriptLine) → HasRun before asked
each_run before asked =
    let some = each_play before (script_parts asked) in
    record { points = some.points; run = some.play }

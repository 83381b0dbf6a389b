-- Why a line of the script does nothing: the first reason that holds, in the order of the script
-- grammar, on the state before the line.
use Rattle.std.specs.Prelude.{ℕ, ◌&&◌, not, Bool, true, false, List, [], ◌∷◌, Option, Some, None, Result, Ok, Err, is_none, is_some, length, nat_le, nat_lt, slice_get}
use Rattle.line_base.specs.declared.states.Side.{Side}
use Rattle.line_base.specs.declared.states.Side.TheVariants.{Entry, Exit}
use Rattle.board_record.specs.declared.sensed.Sensed.{Sensed}
use Rattle.line_world.specs.FloorPlan.{machine_at, place_of}
use Rattle.line_world.specs.declared.moves.MoveNo.TheVariants as moves
use Rattle.line_link.specs.Flow.{coming}
use Rattle.line_link.specs.Link.{LinkParts, flow_to}
use Rattle.node_core.specs.declared.input.Input.{Input}
use Rattle.node_core.specs.declared.input.Input.TheVariants as inputs
use Rattle.node_core.specs.declared.input.No.{No}
use Rattle.node_core.specs.declared.input.No.TheVariants as nos
use Rattle.handover_out.specs.State.{is_id}
use Rattle.node_core.specs.Boards.{is_kept}
use Rattle.node_core.specs.May.{may_get, may_of, may_reach}
use Rattle.node_core.specs.Node.{NodeState}
use Rattle.supervisory_core.specs.Orders.{answer_to}
use Rattle.line_step.specs.World.{WorldParts, end_of, link_at, link_of}
use Rattle.line_step.specs.State.{LineState, machine_in, most_machines}
use Rattle.line_step.specs.Together.{is_linked}
use Rattle.line_report.specs.declared.happening.Reason.{Reason}
use Rattle.line_report.specs.declared.happening.Reason.TheVariants as reasons

-- what may be done, or the reason against it
abbrev pub May : Type 0
May = Result (Unit {0}) Reason

abbrev pub may_do : May
may_do = Ok tt

-- this reason where the test passes, and else what follows
abbrev pub no_if : Bool → Reason → May → May
no_if true reason next = Err reason
no_if false reason next = next

-- a machine's own reason, and else what follows
abbrev pub behind_own : Result (Unit {0}) No → May → May
behind_own (Ok _) next = next
behind_own (Err why) next = Err (reasons.Node why)

-- what a machine that is there may do
abbrev pub if_there : Option NodeState → (NodeState → May) → May
if_there None may = Err reasons.NoSuchMachine
if_there (Some node) may = may node

-- ---- what the tests ask

-- a side has a neighbour
abbrev pub has_neighbour : ℕ → Side → LineState → Bool
has_neighbour machine Entry s = nat_lt 1 machine
has_neighbour machine Exit s = nat_lt machine (length s.machines)

-- link k is there
abbrev pub has_link : ℕ → LineState → Bool
has_link link s = nat_le 1 link && nat_lt link (length s.machines)

abbrev pub is_empty : List ℕ → Bool
is_empty [] = true
is_empty (_ ∷ _) = false

-- nothing is on its way to a side
abbrev pub is_dry_at : ℕ → Side → WorldParts → Bool
is_dry_at machine side world =
    is_empty (coming (flow_to (end_of side) (link_at (link_of machine side) world)))

abbrev pub link_stands : ℕ → Side → WorldParts → Bool
link_stands machine side world = (link_at (link_of machine side) world).stands

-- neither end of a link has a connection
abbrev pub is_loose : LinkParts → Bool
is_loose link = is_none link.upstream && is_none link.downstream

-- a board lies in a machine's list
abbrev pub is_here : ℕ → ℕ → WorldParts → Bool
is_here machine id world = is_some (place_of id (machine_at world.floor machine).boards)

abbrev pub is_read : List Sensed → Bool
is_read [] = true
is_read (_ ∷ _) = false

abbrev pub has_unread : ℕ → WorldParts → Bool
has_unread machine world = not (is_read (machine_at world.floor machine).unread)

-- a board is to go from a machine's list, and none lies there
abbrev pub is_bare : ℕ → Side → WorldParts → Bool
is_bare machine Entry world = false
is_bare machine Exit world = is_none (slice_get (machine_at world.floor machine).boards 0)

-- ---- the reasons of each form

-- one more machine
abbrev pub may_add : LineState → May
may_add s = no_if (nat_le most_machines (length s.machines)) reasons.LineFull may_do

-- what a machine alone can tell
abbrev pub may_give : ℕ → Input → LineState → May
may_give machine input s =
    if_there (machine_in machine s) (λ node. behind_own (may_of node input) may_do)

-- of a question that was answered before, the word that answers it is told with the reason
abbrev pub word_kept : Option (List ℕ) → List ℕ
word_kept None = []
word_kept (Some word) = word

abbrev pub with_word : NodeState → Result (Unit {0}) No → May
with_word node (Ok _) = may_do
with_word node (Err (nos.Answered query)) =
    Err (reasons.Answered (word_kept (answer_to node.orders query)))
with_word node (Err why) = Err (reasons.Node why)

-- a question is answered: not supervised, unknown query, answered
abbrev pub may_answer : ℕ → ℕ → List ℕ → LineState → May
may_answer machine query order s =
    if_there (machine_in machine s) (λ node.
    with_word node (may_of node (inputs.Answer query order)))

-- a board is taken out: not kept, not here
abbrev pub may_remove : ℕ → ℕ → LineState → May
may_remove machine id s =
    if_there (machine_in machine s) (λ node.
    behind_own (may_of node (inputs.Remove id))
    (no_if (not (is_here machine id s.world)) reasons.NotHere may_do))

-- a board is replaced: not kept, not here, ids used up
abbrev pub may_replace : ℕ → ℕ → LineState → May
may_replace machine id s =
    if_there (machine_in machine s) (λ node.
    behind_own (may_of node (inputs.Remove id))
    (no_if (not (is_here machine id s.world)) reasons.NotHere
    (behind_own (may_of node (inputs.Replace id)) may_do)))

-- a board goes to another lane of its machine: bridge, not kept, not here, was offered
abbrev pub may_give_away : ℕ → ℕ → LineState → May
may_give_away machine id s =
    if_there (machine_in machine s) (λ node.
    no_if (is_some node.bridge) (reasons.Node nos.Bridge)
    (no_if (not (is_kept id node.lane.body.kept)) (reasons.Node nos.NotKept)
    (no_if (not (is_here machine id s.world)) reasons.NotHere
    (no_if (is_id node.lane.body.last_offer id) (reasons.Node nos.WasOffered) may_do))))

-- a board comes from another lane of its machine: intake open, full
abbrev pub may_take_in : ℕ → LineState → May
may_take_in machine s =
    if_there (machine_in machine s) (λ node. behind_own (may_get node) may_do)

-- a connection is made: no neighbour, connected, intake unsettled
abbrev pub may_connect : ℕ → LineState → May
may_connect machine s =
    if_there (machine_in machine s) (λ node.
    no_if (not (has_neighbour machine Entry s)) reasons.NoNeighbour
    (behind_own (may_of node inputs.Connect) may_do))

-- bytes arrive: no neighbour, not connected, nothing in flight
abbrev pub may_flow : ℕ → Side → LineState → May
may_flow machine side s =
    if_there (machine_in machine s) (λ node.
    no_if (not (has_neighbour machine side s)) reasons.NoNeighbour
    (behind_own (may_reach side node.lane.body)
    (no_if (is_dry_at machine side s.world) reasons.NothingInFlight may_do)))

-- a side notices that its connection is closed: no neighbour, not connected, standing, text in
-- flight
abbrev pub may_notice : ℕ → Side → LineState → May
may_notice machine side s =
    if_there (machine_in machine s) (λ node.
    no_if (not (has_neighbour machine side s)) reasons.NoNeighbour
    (behind_own (may_reach side node.lane.body)
    (no_if (link_stands machine side s.world) reasons.Standing
    (no_if (not (is_dry_at machine side s.world)) reasons.TextInFlight may_do))))

-- a link is cut: no gap, not connected
abbrev pub may_cut : ℕ → LineState → May
may_cut gap s =
    no_if (not (has_link gap s)) (reasons.Move moves.NoGap)
    (no_if (is_loose (link_at gap s.world)) (reasons.Node nos.NotConnected) may_do)

-- a machine loses its power: no such machine
abbrev pub may_stop : ℕ → LineState → May
may_stop machine s = if_there (machine_in machine s) (λ node. may_do)

-- what flows to a side is spoiled: no neighbour, not connected, not standing
abbrev pub may_spoil : ℕ → Side → LineState → May
may_spoil machine side s =
    if_there (machine_in machine s) (λ node.
    no_if (not (has_neighbour machine side s)) reasons.NoNeighbour
    (no_if (not (is_linked machine side s.world)) (reasons.Node nos.NotConnected)
    (no_if (not (link_stands machine side s.world)) (reasons.Node nos.NotStanding) may_do)))

-- a machine reads what its sensors saw: nothing to read
abbrev pub may_sense : ℕ → LineState → May
may_sense machine s =
    if_there (machine_in machine s) (λ node.
    no_if (not (has_unread machine s.world)) reasons.NothingToRead may_do)

-- a board comes or goes unseen: not a bridge; and for one that goes: nothing there
abbrev pub may_unseen : ℕ → Side → LineState → May
may_unseen machine side s =
    if_there (machine_in machine s) (λ node.
    no_if (is_none node.bridge) (reasons.Node nos.NotABridge)
    (no_if (is_bare machine side s.world) (reasons.Move moves.NothingThere) may_do))

-- a sensor event that was not: no neighbour
abbrev pub may_lie : ℕ → Side → LineState → May
may_lie machine side s =
    if_there (machine_in machine s) (λ node.
    no_if (not (has_neighbour machine side s)) reasons.NoNeighbour may_do)

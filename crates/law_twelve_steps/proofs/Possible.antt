-- In each stage some link step can be done.
use Rattle.std.proofs.Common.{Bool, List, None, Result, Ok, Some, [], ap, arith, false, length, map, refl, subst, sym, true, ℕ, ◌++◌, ◌+◌, ◌-◌, ◌<◌, ◌∙◌, ◌∷◌, ◌≡◌, ◌≤◌}
use Rattle.std.specs.Prelude.{IsOk, not}
use Rattle.std.proofs.lemmas.Bool.{lt-ltb, ltb-true}
use Rattle.std.proofs.lemmas.List.{length-append, length-drop}
use Rattle.law_custody.proofs.Rows.{same as own_eq}
use Rattle.line_base.specs.declared.states.SensorEvent.{SensorEvent}
use Rattle.line_base.specs.declared.states.Side.{Side}
use Rattle.line_base.specs.declared.states.Side.TheVariants.{Entry, Exit}
use Rattle.board_record.specs.declared.record.Record.{Record}
use Rattle.board_record.specs.declared.sensed.Sensed.{Sensed}
use Rattle.hermes_horizontal.specs.Canonical.{canonical}
use Rattle.hermes_horizontal.specs.declared.message.Horizontal.{Horizontal}
use Rattle.hermes_horizontal.specs.declared.message.Message.{Message}
use Rattle.session_core.specs.declared.state.SessionState.TheVariants.{Standing}
use Rattle.handover_out.specs.State.{board_of_phase as held_out}
use Rattle.handover_out.specs.declared.phase.Phase.{Phase as Out}
use Rattle.handover_out.specs.declared.phase.Phase.TheVariants as out
use Rattle.handover_in.specs.State.{board_of_phase as held_in}
use Rattle.line_link.specs.Flow.{Stream, coming, is_begun}
use Rattle.line_link.specs.Texts.{bytes_of}
use Rattle.line_world.specs.FloorPlan.{FloorPlan, IsGap, gap_at, machine_at}
use Rattle.line_world.specs.Moved.{IsMove, around_by, begins as is_begins, enters as is_enters, leaves as is_leaves}
use Rattle.line_world.specs.Moves.{Around, around_of, floor_move, with_around}
use Rattle.line_world.specs.declared.board.Board.{Board}
use Rattle.line_world.specs.declared.gap.Gap.{Gap}
use Rattle.line_world.specs.declared.gap.Gap.TheVariants as gaps
use Rattle.line_world.specs.declared.moves.Move.{Move}
use Rattle.line_world.specs.declared.moves.Move.TheVariants as moves
use Rattle.line_world.specs.declared.moves.MoveNo.{MoveNo}
use Rattle.line_world.proofs.Inverting.{is_floor_move}
use Rattle.law_custody.specs.Bytes.{texts_of}
use Rattle.law_custody.specs.Floor.{ExitFloor, at_start}
use Rattle.law_custody.specs.Pair.{board_of, part}
use Rattle.law_custody.specs.Place.{Place, is_inside, is_upstream}
use Rattle.law_custody.specs.Words.{events_at}
use Rattle.node_core.specs.Node.{NodeState}
use Rattle.node_core.specs.Sides.{is_open}
use Rattle.law_link_messages.specs.Heard.{bodies}
use Rattle.line_step.specs.Numbered.{node_at}
use Rattle.line_step.specs.Reasons.{has_neighbour, has_unread, is_dry_at, is_empty, is_read, may_do, may_flow, may_sense}
use Rattle.line_step.specs.State.{LineState, machine_in}
use Rattle.line_step.specs.World.{link_at}
use Rattle.line_step.specs.Requests as requests
use Rattle.node_core.specs.declared.input.Input.TheVariants as inputs
use Rattle.line_step.proofs.Numbers.{machine_at_number}
use Rattle.law_one_standing.specs.Carried.{between_of, stand_of}
use Rattle.law_one_standing.specs.Relation.{Owns}
use Rattle.law_one_standing.proofs.LineRun.{Stood}
use Rattle.law_one_standing.proofs.RestLine.{node_there}
use Rattle.law_twelve_steps.specs.Undisturbed.{CanGoOn, are_some}
use Rattle.law_twelve_steps.proofs.Going.{AreCounted, IsGap as IsGapOf, LiesAs, Stage, counted, lies_across, lies_begun, lies_fresh}
use Rattle.law_twelve_steps.proofs.Lines.{counts_of, unread_above, unread_below}
use Rattle.law_twelve_steps.proofs.Lower.{Lower, takes, open_if}
use Rattle.law_twelve_steps.proofs.Stage.{Above, Below, IsPast, Joint, Way, above_begun, above_begun_read, above_fresh, above_left, above_left_only, across, begun, below_begun, below_begun_read, below_fresh, below_full, below_full_only, crossed, done_above, done_below, fresh, inside_first, left, left_heard, moving, offered, offered_ready, past_across, past_inside, started, started_ready}
use Rattle.law_twelve_steps.proofs.Texts.{Flying}
use Rattle.law_twelve_steps.proofs.Upper.{Upper, ended, moves as moves_out, phase_of}

-- ---- bytes can arrive

not_empty : (bytes : List ℕ) → 0 < length bytes → is_empty bytes ≡ false
not_empty [] more = absurd (let none : 0 < 0 = more in omega (arith, none))
not_empty (byte ∷ bytes) more = refl

some_comes : {waiting : List ℕ} {message : Message} {said : List Message} (stream : Stream) → Flying waiting stream (message ∷ said) → is_empty (coming stream) ≡ false
some_comes {message = message} {said = said} stream f =
    let part : stream.arrived < length (canonical message) = ltb-true stream.arrived (length (canonical message)) (sym (ap (λ (ts : List (List ℕ)). is_begun ts stream.arrived) f.flies.texts) ∙ f.begun) in
    let all : length (bytes_of stream.texts) ≡ length (canonical message ++ bytes_of (texts_of said)) = ap (λ (ts : List (List ℕ)). length (bytes_of ts)) f.flies.texts in
    let sum = length-append (canonical message) (bytes_of (texts_of said)) in
    let rest : length (coming stream) ≡ length (bytes_of stream.texts) - stream.arrived = length-drop stream.arrived (bytes_of stream.texts) in
    not_empty (coming stream) (omega (arith, part, all, sum, rest))

may_by : (machine : ℕ) (side : Side) (s : LineState) (node : NodeState) → machine_in machine s ≡ Some node → has_neighbour machine side s ≡ true → is_open side node.lane.body ≡ true → is_dry_at machine side s.world ≡ false → may_flow machine side s ≡ may_do
may_by machine side s node there beside opened comes = rw (there, beside, opened, comes) refl

comes_by : {waiting : List ℕ} {what : Horizontal} {others : List Horizontal} (stream : Stream) (said : List Message) → Flying waiting stream said → bodies said ≡ what ∷ others → is_empty (coming stream) ≡ false
comes_by stream [] f is = absurd (cc)
comes_by stream (message ∷ said) f is = some_comes stream f

flow_up_may : {k : ℕ} {id : Record} {left : ℕ} {told : Bool} {s : LineState} {what : Horizontal} {others : List Horizontal} (st : Stage k id left told s) → bodies st.up ≡ what ∷ others → may_flow k Exit s ≡ may_do
flow_up_may {k = k} {s = s} st is =
    let few = counted k s st.linked in
    let one = few.0 in
    let most = few.1 in
    let found = machine_at_number k s one (omega (arith, most)) in
    let node : NodeState = found.0 in
    let same : node_at s k ≡ node = node_there k s node found.1 in
    may_by k Exit s node found.1 (lt-ltb k (length s.machines) (omega (arith, most))) (open_if node.lane.body.exit.session.state (subst (λ (n : NodeState). n.lane.body.exit.session.state ≡ Standing) same st.upper.stands))
    (comes_by (link_at k s.world).flows.to_upstream st.up st.link.upward is)

flow_down_may : {k : ℕ} {id : Record} {left : ℕ} {told : Bool} {s : LineState} {what : Horizontal} {others : List Horizontal} (st : Stage k id left told s) → bodies st.down ≡ what ∷ others → may_flow (k + 1) Entry s ≡ may_do
flow_down_may {k = k} {s = s} st is =
    let few = counted k s st.linked in
    let one = few.0 in
    let most = few.1 in
    let found = machine_at_number (k + 1) s (omega arith) (omega (arith, most)) in
    let node : NodeState = found.0 in
    let same : node_at s (k + 1) ≡ node = node_there (k + 1) s node found.1 in
    let less : k + 1 - 1 ≡ k = omega arith in
    may_by (k + 1) Entry s node found.1 (lt-ltb 1 (k + 1) (omega (arith, one))) (open_if node.lane.body.entry.session.state (subst (λ (n : NodeState). n.lane.body.entry.session.state ≡ Standing) same st.lower.stands))
    (ap (λ (n : ℕ). is_empty (coming (link_at n s.world).flows.to_downstream)) less ∙ comes_by (link_at k s.world).flows.to_downstream st.down st.link.downward is)

-- ---- a machine can read

unread_some : (side : Side) (event : SensorEvent) (others : List SensorEvent) (unread : List Sensed) → events_at side unread ≡ event ∷ others → not (is_read unread) ≡ true
unread_some side event others [] is = absurd (cc)
unread_some side event others (one ∷ unread) is = refl

sense_by : (m : ℕ) (s : LineState) (node : NodeState) → machine_in m s ≡ Some node → has_unread m s.world ≡ true → may_sense m s ≡ may_do
sense_by m s node there some = rw (there, some) refl

sense_up_may : {k : ℕ} {id : Record} {left : ℕ} {told : Bool} {s : LineState} {event : SensorEvent} {others : List SensorEvent} (st : Stage k id left told s) → st.up_seen ≡ event ∷ others → may_sense k s ≡ may_do
sense_up_may {k = k} {s = s} {event = event} {others = others} st is =
    let few = counted k s st.linked in
    let most = few.1 in
    let found = machine_at_number k s few.0 (omega (arith, most)) in
    sense_by k s found.0 found.1 (unread_some Exit event others (machine_at s.world.floor k).unread (st.up_unread ∙ is))

sense_down_may : {k : ℕ} {id : Record} {left : ℕ} {told : Bool} {s : LineState} {event : SensorEvent} {others : List SensorEvent} (st : Stage k id left told s) → st.down_seen ≡ event ∷ others → may_sense (k + 1) s ≡ may_do
sense_down_may {k = k} {s = s} {event = event} {others = others} st is =
    let few = counted k s st.linked in
    let most = few.1 in
    let found = machine_at_number (k + 1) s (omega arith) (omega (arith, most)) in
    sense_by (k + 1) s found.0 found.1 (unread_some Entry event others (machine_at s.world.floor (k + 1)).unread (st.down_unread ∙ is))

-- ---- these are link steps

up_goes_on : {k : ℕ} {id : Record} {left : ℕ} {told : Bool} {s : LineState} {what : Horizontal} {others : List Horizontal} (st : Stage k id left told s) → bodies st.up ≡ what ∷ others → CanGoOn k s
up_goes_on {k = k} st is = record { request = requests.flows k Exit None; is_step = own_eq k; possible = flow_up_may st is }

down_goes_on : {k : ℕ} {id : Record} {left : ℕ} {told : Bool} {s : LineState} {what : Horizontal} {others : List Horizontal} (st : Stage k id left told s) → bodies st.down ≡ what ∷ others → CanGoOn k s
down_goes_on {k = k} st is = record { request = requests.flows (k + 1) Entry None; is_step = own_eq (k + 1); possible = flow_down_may st is }

up_reads_on : {k : ℕ} {id : Record} {left : ℕ} {told : Bool} {s : LineState} {event : SensorEvent} {others : List SensorEvent} (st : Stage k id left told s) → st.up_seen ≡ event ∷ others → CanGoOn k s
up_reads_on {k = k} {s = s} st is = record { request = requests.gives k inputs.Nothing; is_step = unread_above k s ∙ ap (λ (es : List SensorEvent). are_some es) (st.up_unread ∙ is); possible = sense_up_may st is }

down_reads_on : {k : ℕ} {id : Record} {left : ℕ} {told : Bool} {s : LineState} {event : SensorEvent} {others : List SensorEvent} (st : Stage k id left told s) → st.down_seen ≡ event ∷ others → CanGoOn k s
down_reads_on {k = k} {s = s} st is = record { request = requests.gives (k + 1) inputs.Nothing; is_step = unread_below k s ∙ ap (λ (es : List SensorEvent). are_some es) (st.down_unread ∙ is); possible = sense_down_may st is }

-- ---- the board can move forth

done_ok : (answer : Result FloorPlan MoveNo) (plan : FloorPlan) → answer ≡ Ok plan → IsOk answer
done_ok answer plan is = subst (λ (x : Result FloorPlan MoveNo). IsOk x) (sym is) refl

around_is : (plan : FloorPlan) (k : ℕ) (boards : List Board) (lies : Gap) (exit entry : Bool) → (machine_at plan k).boards ≡ boards → (gap_at plan k).lies ≡ lies → (gap_at plan k).exit_drive ≡ exit → (gap_at plan k).entry_drive ≡ entry
    → around_of plan k ≡ around_by boards (machine_at plan k).unread lies exit entry (machine_at plan (k + 1)).boards (machine_at plan (k + 1)).unread
around_is plan k boards lies exit entry b l x e = λ i. around_by (b i) (machine_at plan k).unread (l i) (x i) (e i) (machine_at plan (k + 1)).boards (machine_at plan (k + 1)).unread

gap_of : (k : ℕ) (s : LineState) (counts : AreCounted s) → (1 ≤ k) × (k + 1 ≤ length s.machines) → IsGap s.world.floor k
gap_of k s counts few =
    let most = few.1 in
    let floor = counts.floor in
    record { counted = few.0; within = omega (arith, most, floor) }

moves_ok : (k : ℕ) (step : Move) (s : LineState) (old new : Around) → IsGap s.world.floor k → around_of s.world.floor k ≡ old → IsMove step old new → IsOk (floor_move k step s.world.floor)
moves_ok k step s old new gap is m =
    done_ok (floor_move k step s.world.floor) (with_around s.world.floor k new)
    (is_floor_move k step s.world.floor (with_around s.world.floor k new) (record { there = gap; around = new; done = subst (λ (x : Around). IsMove step x new) (sym is) m; after = refl }))

-- a board that its outlet moves out and has not begun is the first of its machine
fresh_by : {o : Out} {events : List SensorEvent} {on : Bool} {p : Place} {r q : Record} → ExitFloor o events on p q → o ≡ out.Moving r false → events ≡ [] → is_upstream p ≡ true
fresh_by at_start is none = refl
fresh_by _ is none = cc

first_board : {k : ℕ} {id : Record} {left : ℕ} {told : Bool} {s : LineState} (st : Stage k id left told s) → Stood s → (node_at s k).lane.body.outlet.phase ≡ out.Moving st.a false → st.up_seen ≡ [] → (others : List Board) × ((machine_at s.world.floor k).boards ≡ board_of st.a ∷ others)
first_board {k = k} {s = s} st stood is none =
    let few = counted k s st.linked in
    let one = few.0 in
    let less : k - 1 + 1 ≡ k = omega (arith, one) in
    let keeps = stood.stands.keeps in
    let pair = (keeps.neighbours.at k).pair in
    let own = subst (λ (m : ℕ). Owns (between_of stood.trace s (k - 1)) (stand_of s m) (between_of stood.trace s m)) less (keeps.machines.at (k - 1)) in
    let upstream : is_upstream (stood.trace.ghost k).place ≡ true = fresh_by pair.out is (st.up_unread ∙ none) in
    let rest : List Board = map board_of (node_at s k).lane.body.kept ++ part (held_in (node_at s k).lane.body.intake.phase) (is_inside (stood.trace.ghost (k - 1)).place) in
    (rest, own.boards.same ∙ (ap (λ (o : Out). part (held_out o) (is_upstream (stood.trace.ghost k).place) ++ rest) is ∙ ap (λ (b : Bool). part (Some st.a) b ++ rest) upstream))

lies_free : {lies : Gap} → LiesAs fresh lies → lies ≡ gaps.Free
lies_free lies_fresh = refl

lies_begun_of : {lies : Gap} → LiesAs begun lies → (board : Board) × (lies ≡ gaps.Begun board)
lies_begun_of (lies_begun {board = board}) = (board, refl)

lies_across_of : {lies : Gap} → LiesAs across lies → (board : Board) × (lies ≡ gaps.Left board)
lies_across_of (lies_across {board = board}) = (board, refl)

begin_goes_on : {k : ℕ} {id : Record} {left : ℕ} {told : Bool} {s : LineState} (st : Stage k id left told s) → Stood s → IsGapOf fresh (moves_out false) (takes false false) (gap_at s.world.floor k) → (node_at s k).lane.body.outlet.phase ≡ out.Moving st.a false → st.up_seen ≡ [] → CanGoOn k s
begin_goes_on {k = k} {s = s} st stood gap phase none =
    let first = first_board st stood phase none in
    record { request = requests.moves_on k moves.Begin; is_step = own_eq k; possible = moves_ok k moves.Begin s _ _ (gap_of k s (counts_of stood) (counted k s st.linked)) (around_is s.world.floor k (board_of st.a ∷ first.0) gaps.Free true true first.1 (lies_free gap.lies) gap.exit gap.entry) is_begins }

left_goes_on : {k : ℕ} {id : Record} {left : ℕ} {told : Bool} {s : LineState} (st : Stage k id left told s) → Stood s → IsGapOf begun (moves_out true) (takes true false) (gap_at s.world.floor k) → CanGoOn k s
left_goes_on {k = k} {s = s} st stood gap =
    let lies = lies_begun_of gap.lies in
    record { request = requests.moves_on k moves.Left; is_step = own_eq k; possible = moves_ok k moves.Left s _ _ (gap_of k s (counts_of stood) (counted k s st.linked)) (around_is s.world.floor k (machine_at s.world.floor k).boards (gaps.Begun lies.0) true true refl lies.1 gap.exit gap.entry) is_leaves }

enter_goes_on : {k : ℕ} {id : Record} {left : ℕ} {told : Bool} {s : LineState} (st : Stage k id left told s) → Stood s → IsGapOf across ended (takes true true) (gap_at s.world.floor k) → CanGoOn k s
enter_goes_on {k = k} {s = s} st stood gap =
    let lies = lies_across_of gap.lies in
    record { request = requests.moves_on k moves.Enter; is_step = own_eq k; possible = moves_ok k moves.Enter s _ _ (gap_of k s (counts_of stood) (counted k s st.linked)) (around_is s.world.floor k (machine_at s.world.floor k).boards (gaps.Left lies.0) (gap_at s.world.floor k).exit_drive true refl lies.1 refl gap.entry) is_enters }

moving_goes_on : {k : ℕ} {id : Record} {left : ℕ} {told : Bool} {s : LineState} {w : Way} {u : Upper} {up_seen down_seen : List SensorEvent} {read : Bool} (st : Stage k id left told s) → Stood s → IsGapOf w u (takes read false) (gap_at s.world.floor k) → (node_at s k).lane.body.outlet.phase ≡ phase_of st.a u → st.up_seen ≡ up_seen → st.down_seen ≡ down_seen → Above w u up_seen → Below w read down_seen → CanGoOn k s
moving_goes_on st stood gap phase up down above_begun below = up_reads_on st up
moving_goes_on st stood gap phase up down (above_left past) below = up_reads_on st up
moving_goes_on st stood gap phase up down (above_left_only past) below = up_reads_on st up
moving_goes_on st stood gap phase up down above_fresh below_fresh = begin_goes_on st stood gap phase up
moving_goes_on st stood gap phase up down above_fresh (below_begun on) = elim on [ ]
moving_goes_on st stood gap phase up down above_fresh (below_begun_read on) = elim on [ ]
moving_goes_on st stood gap phase up down above_begun_read (below_begun on) = down_reads_on st down
moving_goes_on st stood gap phase up down above_begun_read (below_begun_read on) = left_goes_on st stood gap

heard_goes_on : {k : ℕ} {id : Record} {left : ℕ} {told : Bool} {s : LineState} {w : Way} {down_seen : List SensorEvent} {read : Bool} (st : Stage k id left told s) → Stood s → IsGapOf w ended (takes read true) (gap_at s.world.floor k) → st.down_seen ≡ down_seen → IsPast w → Below w read down_seen → CanGoOn k s
heard_goes_on st stood gap down past (below_begun on) = down_reads_on st down
heard_goes_on st stood gap down past below_full = down_reads_on st down
heard_goes_on st stood gap down past below_full_only = down_reads_on st down
heard_goes_on st stood gap down past_across (below_begun_read on) = enter_goes_on st stood gap
heard_goes_on st stood gap down past_inside (below_begun_read on) = elim on [ ]
heard_goes_on st stood gap down past below_fresh = elim past [ ]

goes_by : {k : ℕ} {id : Record} {left : ℕ} {told : Bool} {s : LineState} {w : Way} {u : Upper} {up_seen down_seen : List SensorEvent} {l : Lower} {up down : List Horizontal} (st : Stage k id left told s) → Stood s → IsGapOf w u l (gap_at s.world.floor k) → (node_at s k).lane.body.outlet.phase ≡ phase_of st.a u → st.up_seen ≡ up_seen → st.down_seen ≡ down_seen
    → bodies st.up ≡ up → bodies st.down ≡ down → Joint st.a st.b w u up_seen l down_seen up down → CanGoOn k s
goes_by st stood gap phase us ds up down offered = down_goes_on st down
goes_by st stood gap phase us ds up down offered_ready = down_goes_on st down
goes_by st stood gap phase us ds up down started = up_goes_on st up
goes_by st stood gap phase us ds up down started_ready = up_goes_on st up
goes_by st stood gap phase us ds up down (moving above below) = moving_goes_on st stood gap phase us ds above below
goes_by st stood gap phase us ds up down (inside_first above) = up_goes_on st up
goes_by st stood gap phase us ds up down (left past below) = down_goes_on st down
goes_by st stood gap phase us ds up down (left_heard past below) = heard_goes_on st stood gap ds past below
goes_by st stood gap phase us ds up down crossed = up_goes_on st up
goes_by st stood gap phase us ds up down done_below = up_goes_on st up
goes_by st stood gap phase us ds up down done_above = down_goes_on st down

pub can_go_on : {k : ℕ} {id : Record} {left : ℕ} {told : Bool} {s : LineState} → Stage k id left told s → Stood s → CanGoOn k s
can_go_on st stood = goes_by st stood st.gap st.upper.phase refl refl refl refl st.joint

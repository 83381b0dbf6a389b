-- The run that doubles a record, step by step; and what the same close does behind the reading.
use Rattle.std.proofs.Common.{Bool, Err, List, None, Ok, Option, Some, [], ap, arith, codes, false, length, map, refl, slice_get, subst, suc, sym, take, zero, ℕ, ◌++◌, ◌∷◌, ◌≡◌, ◌≢◌}
use Rattle.std.specs.Borrow.{Bor}
use Rattle.line_base.proofs.Printable.{plain_is_text}
use Rattle.line_base.specs.Moment.{IsMomentMillis}
use Rattle.line_base.specs.declared.states.SensorEvent.TheVariants as sensors
use Rattle.line_base.specs.declared.states.Side.TheVariants.{Entry, Exit}
use Rattle.board_record.specs.declared.sensed.Sensed.{Sensed}
use Rattle.hermes_horizontal.specs.Canonical.{canonical}
use Rattle.hermes_horizontal.specs.declared.message.Message.{Message}
use Rattle.hermes_stream.specs.Frames.{Frames, frames_of}
use Rattle.line_world.specs.FloorPlan.{FloorPlan}
use Rattle.line_world.specs.Moves.{entry_sees, exit_sees, floor_move}
use Rattle.line_world.specs.declared.moves.Move.{Move}
use Rattle.line_world.specs.declared.moves.Move.TheVariants as moves
use Rattle.node_core.specs.Done.{Done}
use Rattle.node_core.specs.Event.{event_of, maker_after}
use Rattle.node_core.specs.Forecasts.{forecasts_after}
use Rattle.node_core.specs.May.{may_do, may_of}
use Rattle.node_core.specs.Node.{NodeState, desk_of}
use Rattle.node_core.specs.Signals.{levels_after, signalled}
use Rattle.node_core.specs.Step.{Brings, machine_step}
use Rattle.node_core.specs.Supervising.{orders_after, supervised_after}
use Rattle.node_core.specs.Told.{service_of}
use Rattle.node_core.specs.Words.{AreAll, AreFirst, AreWords, all_more, all_none, first_more, first_none}
use Rattle.node_core.specs.declared.act.Act.{Act}
use Rattle.node_core.specs.declared.act.Act.TheVariants as acts
use Rattle.node_core.specs.declared.input.Input.{Input}
use Rattle.node_core.specs.declared.input.Input.TheVariants as inputs
use Rattle.node_core.specs.declared.word.Word.{Word}
use Rattle.node_core.specs.declared.word.Word.TheVariants.{Says}
use Rattle.law_custody.proofs.Texts.{nothing_flows}
use Rattle.law_link_messages.specs.Fit.{AreFit, AreFitActs, IsFit, IsFitDesk, IsFitInput, more_fit, more_said, none_fit}
use Rattle.law_link_messages.specs.Heard.{AreSayable, IsSayable, more_sayable}
use Rattle.law_link_messages.proofs.SayingWhat.{sent, service_fits}
use Rattle.line_step.specs.Steps.{is_second}
use Rattle.law_running_line.specs.Doubled.{IsDoubled, IsHeldBehind, loader, now, printer, the_record, transporting}
use Rattle.law_running_line.specs.Reading.{Behind, Freely, MayTake, Reading, ReadsFront}
use Rattle.law_running_line.specs.Running.{Running, node_of, unread_by, with_floor, with_node, with_reading, with_wires}
use Rattle.law_running_line.specs.RunSteps.{Moves, RunSteps, RunsTo, asks, at_rest, given_up, goes_on, lets_go, moves as moves_on, turns}
use Rattle.law_running_line.specs.Turns.{Meets, Turns, did, met, said_behind}
use Rattle.law_running_line.specs.Wire.{Coming, Wire, asked_for, bytes_of, has, text_behind, with_read}

-- ---- a turn, computed: no bytes wait behind it

abbrev done_by : NodeState → List Sensed → Input → List Word → Done
done_by node read input words = machine_step (desk_of node now) read (event_of node.maker input words) node.lane.body

abbrev acts_by : NodeState → List Sensed → Input → List Word → List Act
acts_by node read input words = (done_by node read input words).acts ++ signalled node.bridge (done_by node read input words).body

abbrev pub next_by : NodeState → List Sensed → Input → List Word → NodeState
next_by node read input words = record node {
  maker = maker_after input node.maker;
  lane = record { body = (done_by node read input words).body; entry_bytes = []; exit_bytes = [] };
  bridge = levels_after input (done_by node read input words).body node.bridge;
  forecasts = forecasts_after node.forecasts (acts_by node read input words);
  supervised = supervised_after input node.supervised;
  orders = orders_after input node.orders;
}

abbrev pub turned : ℕ → NodeState → List Sensed → List Sensed → Input → List Word → ℕ → Running → Running
turned machine node read rest input words place s =
    did (is_second input) machine place (acts_by node read input words)
    (met machine input place (with_node machine (next_by node read input words) (with_reading machine read rest s)))

moment_fits : IsMomentMillis now
moment_fits = (record { le = tt }, record { le = tt })

pub turn_by : (reading : Reading) (machine : ℕ) (node : NodeState) (read rest : List Sensed) (input : Input) (words : List Word) (place : ℕ) (s : Running)
    → node_of machine s ≡ Some node → ReadsFront (unread_by machine s) read rest → Meets machine input place s → MayTake reading input (said_behind machine input place (with_reading machine read rest s)) rest
    → may_of node input ≡ may_do → Brings input node.lane (next_by node read input words).lane words → IsFitInput input
    → Turns reading machine input now s (turned machine node read rest input words place s) (acts_by node read input words)
turn_by reading machine node read rest input words place s there front meets in_time may brings texts = record {
  node = node;
  next = next_by node read input words;
  there = there;
  read = read;
  rest = rest;
  front = front;
  place = place;
  meets = meets;
  in_time = in_time;
  may = may;
  moments = moment_fits;
  texts = texts;
  steps = record {
    made = (done_by node read input words).acts;
    lane = record { words = words; brings = brings; body = refl; told = refl; made = refl };
    told = refl;
    bridge = refl;
    forecasts = refl;
    supervised = refl;
    orders = refl;
    name = refl;
    number = refl;
    capacity = refl;
  };
  unspent = refl;
  after_is = refl;
}

-- ---- a text that comes whole

-- what fit messages say comes out as it was said
abbrev pub SaysSo : Type 0
SaysSo = (messages : List Message) → AreFit messages → AreSayable messages

sayable_first : {message : Message} {others : List Message} → AreSayable (message ∷ others) → IsSayable message
sayable_first (more_sayable one others) = one

sayable_one : SaysSo → (message : Message) → IsFit message → IsSayable message
sayable_one alone message fit = sayable_first (alone (message ∷ []) (more_fit fit none_fit))

hears_one : SaysSo → (message : Message) → IsFit message → (still : Bool) → AreWords [] (canonical message) [] still (Says message ∷ [])
hears_one alone message fit still =
    let sayable = sayable_one alone message fit in
    record {
      first = subst (λ (x : Frames). AreFirst x.messages x.rest (Says message ∷ [])) (sym sayable.one.frames) (first_more sayable.spells first_none);
      all = λ on. subst (λ (x : Frames). AreAll x.messages x.rest (Says message ∷ []) []) (sym sayable.one.frames) (all_more sayable.spells all_none);
    }

-- it is of some bytes
abbrev frames_count : Frames → ℕ
frames_count frames = length frames.messages

not_both : (count : ℕ) → count ≡ 0 → count ≡ 1 → ⊥
not_both count none one = omega (arith, none, one)

no_frames : frames_count (frames_of []) ≡ 1 → ⊥
no_frames e = not_both (frames_count (frames_of [])) (ap frames_count nothing_flows.frames) e

some_bytes : SaysSo → (message : Message) → IsFit message → canonical message ≢ []
some_bytes alone message fit none =
    no_frames (subst (λ (bytes : List ℕ). frames_count (frames_of bytes) ≡ 1) none (ap frames_count (sayable_one alone message fit).one.frames))

front_comes : (unread : ℕ) (text : List ℕ) (behind : List Coming) → text ≡ bytes_of (take (length text) (text_behind unread text ++ behind))
front_comes unread [] behind = refl
front_comes unread (byte ∷ text) behind = ap (λ (bytes : List ℕ). byte ∷ bytes) (front_comes unread text behind)

-- also where its receiver has read since
read_comes : (unread count : ℕ) (text : List ℕ) → text ≡ bytes_of (take (length text) (with_read count (text_behind unread text)))
read_comes unread count [] = refl
read_comes unread count (byte ∷ text) = ap (λ (bytes : List ℕ). byte ∷ bytes) (read_comes unread count text)

-- ---- the states

abbrev moved : Move → FloorPlan → FloorPlan
moved step floor = elim (floor_move 1 step floor) [ Ok next ↦ next | Err why ↦ floor ]

abbrev after_move : Move → Running → Running
after_move step s = with_floor (moved step s.floor) s

-- what the sensors of each machine saw
abbrev seen_above : List Sensed
seen_above = exit_sees sensors.Begun ∷ exit_sees sensors.Left ∷ []

abbrev seen_below : List Sensed
seen_below = entry_sees sensors.Begun ∷ entry_sees sensors.Full ∷ []

abbrev begun : Running
begun = after_move moves.Begin transporting

abbrev across : Running
across = after_move moves.Left begun

abbrev inside : Running
inside = after_move moves.Enter across

-- the printer reads its two events, and both find the connection closed
abbrev printer_stops : NodeState
printer_stops = next_by printer seen_below inputs.Nothing []

abbrev stopped : Running
stopped = turned 2 printer seen_below [] inputs.Nothing [] 0 inside

abbrev loader_returns : NodeState
loader_returns = next_by loader [] (inputs.Notice Exit) []

abbrev returned : Running
returned = turned 1 loader [] seen_above (inputs.Notice Exit) [] 0 stopped

abbrev printer_waits : NodeState
printer_waits = next_by printer_stops [] (inputs.Notice Entry) []

abbrev waiting : Running
waiting = turned 2 printer_stops [] [] (inputs.Notice Entry) [] 0 returned

-- the printer connects anew, and they describe themselves
abbrev asked : Running
asked = with_wires 1 (λ (wires : List Wire). map (given_up Entry) wires ++ asked_for ∷ []) waiting

abbrev printer_calls : NodeState
printer_calls = next_by printer_waits [] inputs.Connect []

abbrev come : Running
come = turned 2 printer_waits [] [] inputs.Connect [] 1 asked

abbrev loader_takes : NodeState
loader_takes = next_by loader_returns [] inputs.Accepted []

abbrev taken : Running
taken = turned 1 loader_returns [] seen_above inputs.Accepted [] 1 come

abbrev printer_says : Message
printer_says = record { stamp = Some now; body = service_of (desk_of printer_waits now) }

abbrev piece_up : Bor (List ℕ)
piece_up = record { ref_ptr = (0, 0); now = canonical printer_says }

abbrev loader_answers : NodeState
loader_answers = next_by loader_takes [] (inputs.Bytes Exit piece_up) (Says printer_says ∷ [])

abbrev answered : Running
answered = turned 1 loader_takes [] seen_above (inputs.Bytes Exit piece_up) (Says printer_says ∷ []) 1 taken

abbrev loader_says : Message
loader_says = record { stamp = Some now; body = service_of (desk_of loader_takes now) }

abbrev piece_down : Bor (List ℕ)
piece_down = record { ref_ptr = (0, 0); now = canonical loader_says }

abbrev printer_settles : NodeState
printer_settles = next_by printer_calls [] (inputs.Bytes Entry piece_down) (Says loader_says ∷ [])

abbrev settled : Running
settled = turned 2 printer_calls [] [] (inputs.Bytes Entry piece_down) (Says loader_says ∷ []) 1 answered

-- ---- what they say is fit

fit_says : (node : NodeState) → IsFitDesk (desk_of node now) → IsFit (record { stamp = Some now; body = service_of (desk_of node now) })
fit_says node fit = first (sent (desk_of node now) Entry (service_of (desk_of node now)) fit (service_fits (desk_of node now) fit)) where
  first : {message : Message} → AreFitActs (acts.Sends Entry message ∷ []) → IsFit message
  first (more_said one more) = one

printer_fits : IsFit printer_says
printer_fits = fit_says printer_waits (record { name = plain_is_text (codes "printer") refl; lane = omega arith; moment = moment_fits })

loader_fits : IsFit loader_says
loader_fits = fit_says loader_takes (record { name = plain_is_text (codes "loader") refl; lane = omega arith; moment = moment_fits })

-- ---- the run

pub record To (reading : Reading) (s t : Running) : Type 0 where
  pub told : List Act
  pub run : RunsTo reading s told t

pub here : {reading : Reading} {s : Running} → To reading s s
here = record { told = []; run = at_rest }

pub step_to : {reading : Reading} {s t u : Running} {told : List Act} → RunSteps reading s told t → To reading t u → To reading s u
step_to {told = told} step later = record { told = told ++ later.told; run = goes_on step later.run }

moves_by : (step : Move) (s : Running) (below : NodeState) → node_of 2 s ≡ Some below → floor_move 1 step s.floor ≡ Ok (moved step s.floor) → Moves Freely 1 step s (after_move step s)
moves_by step s below there may = record { below = below; there = there; may = tt; floor = moved step s.floor; moved = may; after_is = refl }

-- neither the first connection nor the second is had above
abbrev pub has_above : Option Wire → Bool
has_above None = false
has_above (Some wire) = has wire.above

none_above : (w v : Wire) → has w.above ≡ false → has v.above ≡ false → (place : ℕ) (wire : Wire) → slice_get (w ∷ v ∷ []) place ≡ Some wire → has wire.above ≡ false
none_above w v first later zero wire is = subst (λ (o : Option Wire). has_above o ≡ false) is first
none_above w v first later (suc zero) wire is = subst (λ (o : Option Wire). has_above o ≡ false) is later
none_above w v first later (suc (suc place)) wire is = cc

first_moves : Moves Freely 1 moves.Begin transporting begun
first_moves = moves_by moves.Begin transporting printer refl refl

settles : SaysSo → To Freely answered settled
settles alone = step_to (turns (turn_by Freely 2 printer_calls [] [] (inputs.Bytes Entry piece_down) (Says loader_says ∷ []) 1 answered refl (record { exit = refl; entry = refl })
    (record { at = record { wire = _; there = refl; held = refl }; some = some_bytes alone loader_says loader_fits; front = front_comes 0 (canonical loader_says) _ })
    tt refl (hears_one alone loader_says loader_fits _, refl) tt)) here

answers : SaysSo → To Freely taken settled
answers alone = step_to (turns (turn_by Freely 1 loader_takes [] seen_above (inputs.Bytes Exit piece_up) (Says printer_says ∷ []) 1 taken refl (record { exit = refl; entry = refl })
    (record { at = record { wire = _; there = refl; held = refl }; some = some_bytes alone printer_says printer_fits; front = read_comes 2 0 (canonical printer_says) })
    tt refl (hears_one alone printer_says printer_fits _, refl) tt)) (settles alone)

connects : SaysSo → To Freely waiting settled
connects alone = step_to (asks (record { above = loader_returns; above_there = refl; below = printer_waits; below_there = refl; may = refl; after_is = refl }))
    (step_to (turns (turn_by Freely 2 printer_waits [] [] inputs.Connect [] 1 asked refl (record { exit = refl; entry = refl }) (record { wire = _; there = refl; held = refl }) tt refl (refl, refl) tt))
    (step_to (turns (turn_by Freely 1 loader_returns [] seen_above inputs.Accepted [] 1 come refl (record { exit = refl; entry = refl }) (record { wire = _; there = refl; held = refl }, none_above _ _ refl refl) tt refl (refl, refl) tt))
    (answers alone)))

closes : SaysSo → To Freely inside settled
closes alone = step_to (turns (turn_by Freely 2 printer seen_below [] inputs.Nothing [] 0 inside refl (record { exit = refl; entry = refl }) tt tt refl (refl, refl) tt))
    (step_to (turns (turn_by Freely 1 loader [] seen_above (inputs.Notice Exit) [] 0 stopped refl (record { exit = refl; entry = refl }) (record { wire = _; there = refl; held = refl }) tt refl (refl, refl) tt))
    (step_to (turns (turn_by Freely 2 printer_stops [] [] (inputs.Notice Entry) [] 0 returned refl (record { exit = refl; entry = refl }) (record { wire = _; there = refl; held = refl }) tt refl (refl, refl) tt))
    (connects alone)))

pub is_doubled : SaysSo → IsDoubled
is_doubled alone =
    let all : To Freely transporting settled = step_to (moves_on first_moves) (step_to (moves_on (moves_by moves.Left begun printer refl refl)) (step_to (moves_on (moves_by moves.Enter across printer refl refl)) (closes alone))) in
    record {
      told = all.told;
      after = settled;
      run = all.run;
      above = record { node = loader_answers; there = refl; kept = refl };
      below = record { node = printer_settles; there = refl; kept = refl };
      begins_unread = begun;
      first = first_moves;
      not_behind = λ t step. step.may;
    }

-- ---- behind the reading

abbrev loader_reads : NodeState
loader_reads = next_by loader (exit_sees sensors.Begun ∷ []) inputs.Nothing []

abbrev begun_read : Running
begun_read = turned 1 loader (exit_sees sensors.Begun ∷ []) [] inputs.Nothing [] 0 begun

abbrev loader_holds : NodeState
loader_holds = next_by loader_reads [] (inputs.Notice Exit) []

abbrev closed : Running
closed = turned 1 loader_reads [] [] (inputs.Notice Exit) [] 0 begun_read

pub is_held_behind : IsHeldBehind
is_held_behind =
    let lets : To Behind transporting closed = step_to (lets_go (record {
      above = loader;
      there = refl;
      board = the_record;
      waits = refl;
      read = refl;
      floor = moved moves.Begin transporting.floor;
      begins = refl;
      turns = turn_by Behind 1 loader (exit_sees sensors.Begun ∷ []) [] inputs.Nothing [] 0 begun refl (record { exit = refl; entry = refl }) tt refl refl (refl, refl) tt;
      reads = refl;
    })) (step_to (turns (turn_by Behind 1 loader_reads [] [] (inputs.Notice Exit) [] 0 begun_read refl (record { exit = refl; entry = refl }) (record { wire = _; there = refl; held = refl }) refl refl (refl, refl) tt)) here) in
    record {
      told = lets.told;
      after = closed;
      run = lets.run;
      keeps = record { node = loader_holds; there = refl; kept = refl };
      node = loader_holds;
      there = refl;
      held = refl;
    }

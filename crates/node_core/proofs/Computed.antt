-- The definition computed on steps of the worked examples.
use Rattle.std.proofs.Common.{◌≡◌, true, false, [], ◌∷◌, Some, None, refl}
use Rattle.std.specs.Prelude.{codes, decimal}
use Rattle.line_base.specs.declared.states.Side.TheVariants.{Entry, Exit}
use Rattle.line_base.specs.declared.states.Role.TheVariants.{Upstream, Downstream}
use Rattle.line_base.specs.declared.states.SensorEvent.TheVariants.{Begun, Left, Back, Taken}
use Rattle.line_base.specs.declared.states.Transfer.TheVariants.{NotStarted, Incomplete, Complete}
use Rattle.line_base.specs.declared.states.Severity.TheVariants as severity
use Rattle.line_base.specs.declared.states.Quality.TheVariants as quality
use Rattle.line_base.specs.declared.states.Seen.TheVariants as seen
use Rattle.board_record.specs.declared.record.Record.{Record}
use Rattle.board_record.specs.Record.{plain_record}
use Rattle.hermes_horizontal.specs.declared.message.Message.{Message}
use Rattle.hermes_horizontal.specs.declared.message.Horizontal.{Horizontal}
use Rattle.hermes_horizontal.specs.declared.message.Horizontal.TheVariants as bodies
use Rattle.hermes_horizontal.specs.declared.message.Ping.TheVariants as pings
use Rattle.hermes_vertical.specs.declared.message.Passing.TheVariants.{ByHand}
use Rattle.hermes_vertical.specs.declared.message.Question.TheVariants as question
use Rattle.hermes_vertical.specs.declared.message.Vertical.TheVariants as vertical
use Rattle.session_core.specs.declared.state.SessionState.TheVariants.{Standing}
use Rattle.session_core.specs.End.{at_rest, in_state}
use Rattle.handover_out.specs.declared.phase.Phase.TheVariants as out_phase
use Rattle.handover_in.specs.declared.phase.Phase.TheVariants as in_phase
use Rattle.node_core.specs.declared.act.Act.{Act}
use Rattle.node_core.specs.declared.act.Act.TheVariants as acts
use Rattle.node_core.specs.declared.act.Deed.TheVariants as deeds
use Rattle.node_core.specs.declared.act.Setting.TheVariants as settings
use Rattle.node_core.specs.declared.word.Word.TheVariants.{Says, Wrong}
use Rattle.node_core.specs.Desk.{Desk}
use Rattle.node_core.specs.declared.lane.Body.{Body}
use Rattle.node_core.specs.Told.{service_of, notification}
use Rattle.node_core.specs.Event.{Nothing, Connect, Second, Words, Tick, Insert, Supervised}
use Rattle.node_core.specs.Supervising.{Ask, Supervise, arrives, departs, tells_supervisor}
use Rattle.node_core.specs.Node.{new_body}
use Rattle.node_core.specs.Step.{machine_step}

abbrev board : Record
board = plain_record 7 [] None

abbrev said : Horizontal → Message
said what = record { stamp = None; body = what }

-- a machine of four places
abbrev of_four : Desk → Desk
of_four d = record d { capacity = 4; supervised = false }

-- and one that is supervised
abbrev watched : Desk → Desk
watched d = record d { capacity = 4; supervised = true; asked = 2 }

abbrev sends_in : Desk → Horizontal → Act
sends_in d what = acts.Sends Entry (record { stamp = Some d.moment; body = what })

abbrev sends_out : Desk → Horizontal → Act
sends_out d what = acts.Sends Exit (record { stamp = Some d.moment; body = what })

-- the upper machine of an undisturbed handover: it has offered its board, and the lower one is ready
abbrev upper : Body
upper = record {
  kept = board ∷ [];
  outlet = record { phase = out_phase.Idle; offered = Some 7; touched = Some 7; ready = true };
  intake = record { phase = in_phase.Idle; offer = None; ready = false };
  entry = record { session = at_rest Downstream; willing = true };
  exit = record { session = in_state (at_rest Upstream) Standing; willing = true };
  last_offer = Some 7;
}

abbrev lower : Body
lower = record {
  kept = [];
  outlet = record { phase = out_phase.Idle; offered = None; touched = None; ready = false };
  intake = record { phase = in_phase.Idle; offer = None; ready = true };
  entry = record { session = in_state (at_rest Downstream) Standing; willing = true };
  exit = record { session = at_rest Upstream; willing = true };
  last_offer = None;
}

-- a new machine connects, and describes itself
connects : (d : Desk) → (machine_step (of_four d) [] Connect new_body).acts ≡ acts.Connects ∷ sends_in d (service_of d) ∷ []
connects d = refl

-- the lower machine hears the offer and starts
starts : (d : Desk) → (machine_step (of_four d) [] (Words Entry (Says (said (bodies.BoardAvailable board)) ∷ [])) lower).acts
    ≡ acts.Hears Entry (said (bodies.BoardAvailable board)) ∷ acts.Deed (deeds.Starts 7) ∷ sends_in d (bodies.StartTransport 7) ∷ acts.Drive Entry true ∷ []
starts d = refl

-- the upper machine hears the start and opens
opens : (d : Desk) → (machine_step (of_four d) [] (Words Exit (Says (said (bodies.StartTransport 7)) ∷ [])) upper).acts
    ≡ acts.Hears Exit (said (bodies.StartTransport 7)) ∷ acts.Deed (deeds.Opens 7) ∷ acts.Drive Exit true ∷ []
opens d = refl

-- it reads what its sensors saw, and the board leaves
leaves : (d : Desk) → (machine_step (of_four d) (record { side = Exit; event = Begun } ∷ record { side = Exit; event = Left } ∷ []) Nothing (machine_step (of_four d) [] (Words Exit (Says (said (bodies.StartTransport 7)) ∷ [])) upper).body).acts
    ≡ acts.Reads Exit Begun ∷ acts.Reads Exit Left ∷ acts.Deed (deeds.Leaves 7) ∷ sends_out d (bodies.TransportFinished Complete 7) ∷ acts.Drive Exit false ∷ []
leaves d = refl

-- a start of another board is refused
refuses : (d : Desk) → (machine_step (of_four d) [] (Words Exit (Says (said (bodies.StartTransport 8)) ∷ [])) upper).acts
    ≡ acts.Hears Exit (said (bodies.StartTransport 8)) ∷ acts.Deed (deeds.Refuses 8) ∷ sends_out d (bodies.TransportFinished NotStarted 8) ∷ []
refuses d = refl

-- a second connection hears that there is one
second : (d : Desk) → (machine_step (of_four d) [] Second upper).acts ≡ sends_out d (notification 2 severity.Error (codes "already connected")) ∷ []
second d = refl

-- a NUL in a message: the breach, and what stood is dropped
breaks : (d : Desk) → (machine_step (of_four d) [] (Words Entry (Wrong (codes "character at 20") ∷ Says (said bodies.RevokeBoardAvailable) ∷ [])) lower).acts
    ≡ acts.Breaches Entry (codes "character at 20") ∷ sends_in d (notification 1 severity.Fatal (codes "character at 20")) ∷ acts.Closes Entry ∷ []
breaks d = refl

-- two ticks: a ping
asks : (d : Desk) → (machine_step (of_four d) [] Tick (machine_step (of_four d) [] Tick upper).body).acts ≡ sends_out d (bodies.CheckAlive (Some pings.Ask) (Some (decimal 1))) ∷ []
asks d = refl

-- a board is put in: it is offered where nothing is
inserts : (d : Desk) → (machine_step (of_four d) [] (Insert 9 None) (record upper { kept = []; outlet = record upper.outlet { offered = None } })).acts
    ≡ acts.Inserts 9 ∷ sends_out d (bodies.BoardAvailable (plain_record 9 d.name None)) ∷ []
inserts d = refl

-- its supervisor is told of it just behind
tells : (d : Desk) → (machine_step (watched d) [] (Insert 9 None) (record upper { kept = []; outlet = record upper.outlet { offered = None } })).acts
    ≡ acts.Inserts 9 ∷ arrives d ByHand 9 ∷ sends_out d (bodies.BoardAvailable (plain_record 9 d.name None)) ∷ []
tells d = refl

-- a board that was taken out of the intake has departed, before the transport is said to have stopped
taken : (d : Desk) → (machine_step (watched d) (record { side = Entry; event = Begun } ∷ record { side = Entry; event = Taken } ∷ []) Nothing (record lower { intake = record lower.intake { phase = in_phase.Taking board seen.NotStarted true; ready = false } })).acts
    ≡ acts.Reads Entry Begun ∷ acts.Reads Entry Taken ∷ acts.Deed (deeds.Drops 7) ∷ departs d ByHand 7
    ∷ sends_in d (bodies.StopTransport Incomplete 7) ∷ acts.Drive Entry false ∷ sends_in d (bodies.MachineReady quality.Unknown) ∷ []
taken d = refl

-- a board that went back is dropped, and nothing was told of it
back : (d : Desk) → (machine_step (watched d) (record { side = Entry; event = Back } ∷ []) (Words Entry (Says (said (bodies.TransportFinished NotStarted 7)) ∷ [])) (record lower { intake = record lower.intake { phase = in_phase.Taking board seen.Incomplete false; ready = false } })).acts
    ≡ acts.Reads Entry Back ∷ acts.Hears Entry (said (bodies.TransportFinished NotStarted 7)) ∷ acts.Deed (deeds.Drops 7)
    ∷ sends_in d (bodies.StopTransport NotStarted 7) ∷ acts.Drive Entry false ∷ sends_in d (bodies.MachineReady quality.Unknown) ∷ []
back d = refl

-- a question has the next number
asks_order : (d : Desk) → (machine_step (watched d) [] (Supervised (Ask (question.Barcode (codes "A")))) new_body).acts
    ≡ tells_supervisor d (vertical.QueryWorkOrderInfo 3 (question.Barcode (codes "A"))) ∷ []
asks_order d = refl

-- from the step on in which a machine is supervised it tells what it does behind that
first_told : (d : Desk) → (machine_step (of_four d) (record { side = Exit; event = Begun } ∷ record { side = Exit; event = Left } ∷ []) (Supervised (Supervise true)) (record upper { kept = []; outlet = record { phase = out_phase.Moving board false; offered = None; touched = Some 7; ready = false } })).acts
    ≡ acts.Reads Exit Begun ∷ acts.Reads Exit Left ∷ acts.Deed (deeds.Leaves 7) ∷ sends_out d (bodies.TransportFinished Complete 7) ∷ acts.Drive Exit false ∷ acts.Sets (settings.Supervise true) ∷ []
first_told d = refl

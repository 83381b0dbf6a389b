-- How far a run is from its end: the moves that it makes at most.
use Rattle.std.specs.Prelude.{ℕ, ◌+◌, ◌-◌, ◌*◌, Bool, true, false, length, Option, None, Some}
use Rattle.line_base.specs.declared.states.Side.TheVariants.{Entry, Exit}
use Rattle.config_service.specs.declared.config.Resets.{Resets}
use Rattle.config_service.specs.declared.message.Settings.{Settings}
use Rattle.node_core.specs.Sides.{is_open}
use Rattle.node_run.specs.declared.rules.Rules.{Rules}
use Rattle.supervised_end.specs.Channel.{ChannelValue}
use Rattle.node_run.specs.Held.{Finding, HeldValue}
use Rattle.node_run.specs.State.{Refusal, RunState}
use Rattle.node_run.specs.declared.place.Place.{Place}
use Rattle.node_run.specs.declared.place.Place.TheVariants as places
use Rattle.node_run.specs.declared.way_state.Wire.{Wire}
use Rattle.node_run.specs.declared.way_state.Wire.TheVariants as wires

-- the places behind this one, as far as the end of the turn
abbrev pub places_left : Place → ℕ
places_left places.ListenPanel = 14
places_left places.ListenDownstream = 13
places_left places.ListenSupervisory = 12
places_left places.ListenConfiguration = 11
places_left places.PollPanel = 10
places_left places.PollUpstream = 9
places_left places.PollDownstream = 8
places_left places.PollSupervisory = 7
places_left places.PollConfiguration = 6
places_left places.SendPanel = 5
places_left places.SendUpstream = 4
places_left places.SendDownstream = 3
places_left places.SendSupervisory = 2
places_left places.SendConfiguration = 1
places_left places.TurnDone = 0

abbrev pub far_at : ℕ → ℕ → Place → ℕ
far_at turns turn place = 15 * (turns - turn) + places_left place

abbrev pub count : Bool → ℕ
count true = 1
count false = 0

abbrev pub wire_work : Wire → ℕ
wire_work wires.Rests = 0
wire_work wires.Stands = 1
wire_work wires.Ends = 1
wire_work wires.Breaks = 1

abbrev pub refusal_work : Option Refusal → ℕ
refusal_work None = 0
refusal_work (Some refusal) = 1

-- a way that is closed has none any more, a side that hears of it has no connection, and a machine
-- isn't supervised
abbrev pub wires_work : RunState → ℕ
wires_work s =
    (wire_work s.panel.wire + wire_work s.upstream.wire) +
    (wire_work s.downstream.wire
    + (wire_work s.supervisory.wire + wire_work s.configuration.wire))

abbrev pub close_work : RunState → ℕ
close_work s =
    wires_work s
    + (3 * count s.node.supervised +
    (3 * count (is_open Entry s.node.lane.body) + 3 * count (is_open Exit s.node.lane.body)))

-- of the bytes of a way that is heard each goes first behind those that wait, and then away
abbrev pub hear_work : ChannelValue → ℕ
hear_work channel = count channel.hears + (length channel.waiting + 2 * length channel.piece)

-- while something is held, each poll of the panel may give bytes
abbrev pub look_work_of : Option Finding → ℕ → ℕ
look_work_of None looks = 0
look_work_of (Some finding) looks = 500000 * (looks + 1)

abbrev pub look_work : HeldValue → ℕ
look_work held = look_work_of held.finding held.looks

-- a Set that waits for its listen may reset both sides, and a side that is reset may leave two ways
-- to close
abbrev pub try_work : Option Settings → ℕ
try_work None = 0
try_work (Some settings) = 60

abbrev pub reset_work : Resets → ℕ
reset_work resets = 20 * count resets.upstream + 20 * count resets.downstream

-- what is left but for bytes that are heard, and what is held
abbrev pub other_work : RunState → ℕ
other_work s =
    (try_work s.tries + reset_work s.resets)
    + (count s.asks + (refusal_work s.refusal + close_work s))

-- what is done at one place
abbrev pub work_at : RunState → ℕ
work_at s =
    look_work s.held + 120 * length s.rest
    + (120 * hear_work s.channel + (120 * hear_work s.config + other_work s))

-- how far a run is from its end
abbrev pub far_of : Rules → RunState → ℕ
far_of rules s = 30000000 * far_at rules.turns s.turn s.place + work_at s

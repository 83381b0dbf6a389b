-- WHAT COMES NEXT in a run: a call of the ports, a line of the panel, a message of the supervisor
-- or of the configuration service, a side that is reset, what was found of a neighbour, a place
-- where nothing is to do, or the end.
use Rattle.std.specs.Prelude.{◌≡◌, ◌≤◌, ◌⊎◌, ℕ, ◌+◌, ◌<◌, Bool, true, false, ◌||◌, ◌&&◌, not, nat_lt, List, length, Option, None, Some, is_some, if◌then◌else◌}
use Rattle.line_base.specs.declared.states.Side.{Side}
use Rattle.line_base.specs.declared.states.Side.TheVariants.{Entry, Exit}
use Rattle.config_service.specs.declared.config.Resets.{Resets}
use Rattle.config_service.specs.declared.message.Settings.{Settings}
use Rattle.line_outside.specs.Listening.{at_all, at_loopback}
use Rattle.line_outside.specs.declared.way.Address.{Address}
use Rattle.line_outside.specs.declared.way.Way.{Way}
use Rattle.line_outside.specs.declared.way.Way.TheVariants as ways
use Rattle.node_run.specs.declared.rules.Rules.{Rules}
use Rattle.supervised_end.specs.Channel.{is_empty}
use Rattle.node_run.specs.State.{WayValue, Refusal, RunState, way_at}
use Rattle.node_run.specs.declared.place.Next.{Next}
use Rattle.node_run.specs.declared.place.Next.TheVariants as nexts
use Rattle.node_run.specs.declared.place.Place.{Place}
use Rattle.node_run.specs.declared.place.Place.TheVariants as places
use Rattle.node_run.specs.declared.status.NodeStatus.{NodeStatus}
use Rattle.node_run.specs.declared.status.NodeStatus.TheVariants as statuses
use Rattle.node_run.specs.declared.way_state.Wire.{Wire}
use Rattle.node_run.specs.declared.way_state.Wire.TheVariants as wires

-- the most text that waits on a way
abbrev pub most_unsent : ℕ
most_unsent = 1048576

-- a way has to be closed now: its connection is broken; it is to end, and nothing waits; or too
-- much waits
abbrev pub is_due_by : Wire → List ℕ → Bool
is_due_by wires.Rests unsent = false
is_due_by wires.Stands unsent = nat_lt most_unsent (length unsent)
is_due_by wires.Ends unsent = is_empty unsent || nat_lt most_unsent (length unsent)
is_due_by wires.Breaks unsent = true

abbrev pub is_due : WayValue → Bool
is_due way = is_due_by way.wire way.unsent

abbrev pub has_ended : Wire → Bool
has_ended wires.Ends = true
has_ended _ = false

-- a way that is to end isn't polled, nor is one that isn't set
abbrev pub is_polled : Rules → RunState → Way → Bool
is_polled rules s ways.Panel = true
is_polled rules s ways.Upstream =
    is_some s.settings.upstream && not (has_ended s.upstream.wire)
is_polled rules s ways.Downstream = not (has_ended s.downstream.wire)
is_polled rules s ways.Supervisory =
    is_some rules.connections.supervisory_port && not (has_ended s.supervisory.wire)
is_polled rules s ways.Configuration =
    is_some rules.connections.config_port && not (has_ended s.configuration.wire)

abbrev pub polls : Rules → RunState → Way → Next
polls rules s way = if is_polled rules s way then nexts.Poll way else nexts.Skip

-- what waits is sent
abbrev pub sends_by : Way → WayValue → Next
sends_by way value = if is_empty value.unsent then nexts.Skip else nexts.Send way

abbrev pub sends : RunState → Way → Next
sends s way = sends_by way (way_at way s)

-- the last turn ends the run
abbrev pub turn_next : Rules → RunState → Next
turn_next rules s = if nat_lt s.turn rules.turns then nexts.Skip else nexts.End statuses.TurnsUsed

-- a port is listened at where it is set
abbrev pub listens_if : Way → Option ℕ → Next
listens_if way None = nexts.Skip
listens_if way (Some port) = nexts.Listen way (at_all port)

-- THE PANEL CONNECTS FROM THE SAME COMPUTER, unless it may from anywhere
abbrev pub panel_address : Bool → ℕ → Address
panel_address anywhere port = if anywhere then at_all port else at_loopback port

-- what is done at a place
abbrev pub at_place : Rules → RunState → Place → Next
at_place rules s places.ListenPanel =
    nexts.Listen ways.Panel (panel_address rules.panel.anywhere rules.connections.panel_port)
at_place rules s places.ListenDownstream =
    nexts.Listen ways.Downstream (at_all s.settings.port)
at_place rules s places.ListenSupervisory =
    listens_if ways.Supervisory rules.connections.supervisory_port
at_place rules s places.ListenConfiguration =
    listens_if ways.Configuration rules.connections.config_port
at_place rules s places.PollPanel = polls rules s ways.Panel
at_place rules s places.PollUpstream = polls rules s ways.Upstream
at_place rules s places.PollDownstream = polls rules s ways.Downstream
at_place rules s places.PollSupervisory = polls rules s ways.Supervisory
at_place rules s places.PollConfiguration = polls rules s ways.Configuration
at_place rules s places.SendPanel = sends s ways.Panel
at_place rules s places.SendUpstream = sends s ways.Upstream
at_place rules s places.SendDownstream = sends s ways.Downstream
at_place rules s places.SendSupervisory = sends s ways.Supervisory
at_place rules s places.SendConfiguration = sends s ways.Configuration
at_place rules s places.TurnDone = turn_next rules s

abbrev pub asks_next : Option Address → Next → Next
asks_next None next = next
asks_next (Some address) next = nexts.Connect address

-- WHAT WAS FOUND OF A NEIGHBOUR IS TAKEN BEHIND THE PANEL'S LINES: the panel is polled before
abbrev pub takes_next : ℕ → Next
takes_next looks = if nat_lt 0 looks then nexts.Look else nexts.Take

abbrev pub held_next : Rules → RunState → Next
held_next rules s =
    if is_some s.held.finding then takes_next s.held.looks else at_place rules s s.place

-- before that, the messages of the configuration service, one by one
abbrev pub configures_next : Rules → RunState → Next
configures_next rules s = if s.config.hears then nexts.HearConfig else held_next rules s

-- before them, the supervisor's
abbrev pub hears_next : Rules → RunState → Next
hears_next rules s = if s.channel.hears then nexts.Hear else configures_next rules s

-- before them, the panel's lines, one by one
abbrev pub lines_next : Rules → RunState → Next
lines_next rules s = if is_empty s.rest then hears_next rules s else nexts.Line

-- before them, a connection that was asked for
abbrev pub connects_next : Rules → RunState → Next
connects_next rules s =
    if s.asks then asks_next s.settings.upstream
    (lines_next rules s) else lines_next rules s

-- before that, the port of a Set, which is listened at
abbrev pub tries_next : Option Settings → Next → Next
tries_next None next = next
tries_next (Some settings) next = nexts.Try settings

-- before that, the ways that have to be closed, in the order of the polls
abbrev pub closes_next : Rules → RunState → Next
closes_next rules s =
    if is_due s.panel then nexts.Close ways.Panel else
    (if is_due s.upstream then nexts.Close ways.Upstream else
    (if is_due s.downstream then nexts.Close ways.Downstream else
    (if is_due s.supervisory then nexts.Close ways.Supervisory else
    (if is_due s.configuration then nexts.Close ways.Configuration else
    tries_next s.tries (connects_next rules s)))))

-- before them, the sides that a Set resets, the entry first
abbrev pub is_to_reset : Side → Resets → Bool
is_to_reset Entry resets = resets.upstream
is_to_reset Exit resets = resets.downstream

abbrev pub resets_next : Resets → Next → Next
resets_next resets next =
    if resets.upstream then nexts.Reset Entry else
    (if resets.downstream then nexts.Reset Exit else next)

-- before them, a second connection that is to be refused
abbrev pub refuses_next : Option Refusal → Next → Next
refuses_next None next = next
refuses_next (Some refusal) next = nexts.Refuse refusal.way

-- and the end before all
abbrev pub ends_next : Option NodeStatus → Next → Next
ends_next None next = next
ends_next (Some status) next = nexts.End status

abbrev pub next_of : Rules → RunState → Next
next_of rules s =
    ends_next s.ended (refuses_next s.refusal (resets_next s.resets (closes_next rules s)))

-- it goes on: neither an end, nor a refusal of a second connection, nor a reset, nor a close comes
-- next
abbrev pub goes_on : Next → Bool
goes_on (nexts.End status) = false
goes_on (nexts.Refuse way) = false
goes_on (nexts.Reset side) = false
goes_on (nexts.Close way) = false
goes_on nexts.Line = true
goes_on nexts.Hear = true
goes_on nexts.HearConfig = true
goes_on nexts.Look = true
goes_on nexts.Take = true
goes_on nexts.Skip = true
goes_on (nexts.Listen way address) = true
goes_on (nexts.Try settings) = true
goes_on (nexts.Connect address) = true
goes_on (nexts.Poll way) = true
goes_on (nexts.Send way) = true

-- there is no connection, or no more text waits than may
abbrev pub HasBoundedText : WayValue → Type 0
HasBoundedText way = (way.wire ≡ wires.Rests) ⊎ (length way.unsent ≤ most_unsent)

-- ---- the places of a turn, in their order

abbrev pub place_behind : Place → Place
place_behind places.ListenPanel = places.ListenDownstream
place_behind places.ListenDownstream = places.ListenSupervisory
place_behind places.ListenSupervisory = places.ListenConfiguration
place_behind places.ListenConfiguration = places.PollPanel
place_behind places.PollPanel = places.PollUpstream
place_behind places.PollUpstream = places.PollDownstream
place_behind places.PollDownstream = places.PollSupervisory
place_behind places.PollSupervisory = places.PollConfiguration
place_behind places.PollConfiguration = places.SendPanel
place_behind places.SendPanel = places.SendUpstream
place_behind places.SendUpstream = places.SendDownstream
place_behind places.SendDownstream = places.SendSupervisory
place_behind places.SendSupervisory = places.SendConfiguration
place_behind places.SendConfiguration = places.TurnDone
place_behind places.TurnDone = places.PollPanel

abbrev pub turn_behind : Place → ℕ → ℕ
turn_behind places.TurnDone turn = turn + 1
turn_behind _ turn = turn

-- the last turn has none behind it
abbrev pub IsTurnLeft : Place → ℕ → ℕ → Type 0
IsTurnLeft places.TurnDone turn turns = turn < turns
IsTurnLeft _ turn turns = Unit {0}

-- the run at the next place
abbrev pub moved_on : RunState → RunState
moved_on s = record s { place = place_behind s.place; turn = turn_behind s.place s.turn }

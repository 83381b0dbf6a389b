-- A CONNECTION IS ASKED FOR where the machine can take one: what comes behind the panel's line is the call.
use Rattle.std.proofs.Common.{Bool, List, None, Ok, Option, Err, Result, Some, [], ap, codes, false, refl, subst, sym, true, ℕ, ℤ, ◌++◌, ◌==◌, ◌∙◌, ◌≡◌, if◌then◌else◌, is_some, nat_lt}
use Rattle.std.proofs.lemmas.Bool.{false≢true, true≢false}
use Rattle.line_base.specs.declared.states.Side.{Side}
use Rattle.line_base.specs.declared.states.Side.TheVariants.{Entry, Exit}
use Rattle.config_service.specs.Plans.{plan_of}
use Rattle.config_service.specs.declared.config.Plan.{Plan}
use Rattle.config_service.specs.declared.config.Plan.TheVariants as plans
use Rattle.config_service.specs.declared.message.Settings.{Settings}
use Rattle.line_outside.specs.Given.{Given}
use Rattle.line_outside.specs.declared.answer.GotBytes.{GotBytes}
use Rattle.line_outside.specs.declared.answer.GotBytes.TheVariants as founds
use Rattle.line_outside.specs.declared.ports.Opened.{Opened}
use Rattle.line_outside.specs.declared.ports.Opened.TheVariants as openings
use Rattle.line_outside.specs.declared.ports.Sent.{Sent}
use Rattle.line_outside.specs.declared.ports.Sent.TheVariants as sents
use Rattle.line_outside.specs.declared.way.Address.{Address}
use Rattle.line_outside.specs.declared.way.Way.{Way}
use Rattle.line_outside.specs.declared.way.Way.TheVariants as ways
use Rattle.board_record.specs.declared.sensed.Sensed.{Sensed}
use Rattle.hermes_vertical.specs.Parts.{kind_of}
use Rattle.hermes_vertical.specs.declared.message.Vertical.{Vertical}
use Rattle.supervisory_core.specs.Row.{SupervisedRow, supervised_row}
use Rattle.supervisory_core.specs.Told.{unexpected}
use Rattle.supervisory_core.specs.declared.action.VerticalAction.{VerticalAction}
use Rattle.supervisory_core.specs.declared.action.VerticalAction.TheVariants as actions
use Rattle.line_script.specs.declared.line.LineWhy.{LineWhy}
use Rattle.node_core.specs.May.{may_do, may_of}
use Rattle.node_core.specs.Node.{NodeState}
use Rattle.node_core.specs.Sides.{is_open}
use Rattle.node_core.specs.declared.input.Input.{Input}
use Rattle.node_core.specs.declared.input.Input.TheVariants as inputs
use Rattle.node_core.specs.declared.input.No.{No}
use Rattle.node_panel.specs.Panel.{panel_line_of}
use Rattle.node_panel.specs.declared.line.PanelLine.{PanelLine}
use Rattle.node_panel.specs.declared.line.PanelLine.TheVariants as lines
use Rattle.node_run.specs.After.{AfterClose, AfterDownstream, AfterPanel, AfterPoll, AfterUpstream, PanelArrives, TakesFinding, TakesFound, after_configuration, after_listen, after_send, after_supervisory, broken, configuration_arrived, configuration_bytes, configuration_closed, configuration_second, looked, panel_bytes, panel_closed, panel_second, supervisory_arrived, supervisory_bytes, supervisory_closed, supervisory_second, way_of, with_held}
use Rattle.node_run.specs.Configuring.{AfterTry, DoesConfigFound, DoesConfigWord, DoesPlan, TriesIf, with_config}
use Rattle.node_run.specs.Held.{Finding, nothing_held}
use Rattle.supervised_end.specs.Said.{system_of}
use Rattle.node_run.specs.Hearing.{AnswersIf, DoesAction, DoesFound, DoesRow, DoesWord, Unsupervised, broken_off, said, with_channel, with_stands}
use Rattle.node_run.specs.Lines.{AsksConnect, AsksIf, DoesAsked, DoesCut, DoesInput, Ends, Fronts, KeepsFront, cut_line, is_too_long, may_ask, without_return}
use Rattle.node_run.specs.Next.{asks_next, at_place, configures_next, connects_next, ends_next, has_ended, hears_next, held_next, is_due, is_polled, lines_next, listens_if, moved_on, next_of, refuses_next, resets_next, takes_next, tries_next}
use Rattle.node_run.specs.Resetting.{ResetsSide, leaving, reset_begun}
use Rattle.supervised_end.specs.Channel.{is_empty, no_session}
use Rattle.node_run.specs.Runs.{Moves, Runs, begins, closes, connects, does_config, does_hear, does_line, goes_on, listens, looks_again, polls, refuses, resets_side, sends, skips, takes_held, tries_port}
use Rattle.node_run.specs.State.{Refusal, RunState, WayValue, at_rest, started, with_way, with_wire}
use Rattle.node_run.specs.Steps.{MeetsSecond, Takes}
use Rattle.node_run.specs.declared.channel.ConfigFound.{ConfigFound}
use Rattle.node_run.specs.declared.channel.ConfigFound.TheVariants as config_finds
use Rattle.node_run.specs.declared.channel.ConfigWord.{ConfigWord}
use Rattle.node_run.specs.declared.channel.ConfigWord.TheVariants as config_words
use Rattle.supervised_end.specs.declared.channel.Found.{Found}
use Rattle.supervised_end.specs.declared.channel.Found.TheVariants as finds
use Rattle.supervised_end.specs.declared.channel.Word.{Word}
use Rattle.supervised_end.specs.declared.channel.Word.TheVariants as words
use Rattle.node_run.specs.declared.place.Next.{Next}
use Rattle.node_run.specs.declared.place.Next.TheVariants as nexts
use Rattle.node_run.specs.declared.place.Place.{Place}
use Rattle.node_run.specs.declared.place.Place.TheVariants as places
use Rattle.node_run.specs.declared.rules.Rules.{Rules}
use Rattle.node_run.specs.declared.status.NodeStatus.{NodeStatus}
use Rattle.node_run.specs.declared.status.NodeStatus.TheVariants as statuses
use Rattle.node_run.specs.declared.way_state.Wire.{Wire}
use Rattle.node_run.specs.declared.way_state.Wire.TheVariants as wires
use Rattle.law_joined_nodes.specs.Laws.{AsksWhereItMay}

-- ---- what nothing but a line of the panel changes: whether a connection was asked for

abbrev Asks : RunState → RunState → Type 0
Asks s t = t.asks ≡ s.asks

by_is : {t u : RunState} (s : RunState) → t ≡ u → u.asks ≡ s.asks → Asks s t
by_is s is same = ap (λ (r : RunState). r.asks) is ∙ same

takes_asks : (may : Result (Unit {0}) No) (rules : Rules) (moment : ℤ) (input : Input) (from s t : RunState) (log : List ℕ) → from.asks ≡ s.asks → Takes may rules moment input from s t log → Asks s t
takes_asks (Ok done) rules moment input from s t log same takes = by_is s takes.after same
takes_asks (Err why) rules moment input from s t log same takes = by_is s takes.0 refl

way_asks : (way : Way) (value : WayValue) (s : RunState) → Asks s (with_way way value s)
way_asks ways.Panel value s = refl
way_asks ways.Upstream value s = refl
way_asks ways.Downstream value s = refl
way_asks ways.Supervisory value s = refl
way_asks ways.Configuration value s = refl

-- a poll of the panel's way
second_asks : (wire : Wire) (s : RunState) → Asks s (panel_second wire s)
second_asks wires.Rests s = refl
second_asks wires.Stands s = refl
second_asks wires.Ends s = refl
second_asks wires.Breaks s = refl

bytes_asks : (wire : Wire) (bytes : List ℕ) (s : RunState) → Asks s (panel_bytes wire bytes s)
bytes_asks wires.Rests bytes s = refl
bytes_asks wires.Stands bytes s = refl
bytes_asks wires.Ends bytes s = refl
bytes_asks wires.Breaks bytes s = refl

closed_asks : (wire : Wire) (s : RunState) → Asks s (panel_closed wire s)
closed_asks wires.Rests s = refl
closed_asks wires.Stands s = refl
closed_asks wires.Ends s = refl
closed_asks wires.Breaks s = refl

arrived_asks : (wire : Wire) (rules : Rules) (s t : RunState) (log : List ℕ) → PanelArrives wire rules s t log → Asks s t
arrived_asks wires.Rests rules s t log arrives = by_is s arrives.0 refl
arrived_asks wires.Stands rules s t log arrives = by_is s arrives.0 refl
arrived_asks wires.Ends rules s t log arrives = by_is s arrives.0 refl
arrived_asks wires.Breaks rules s t log arrives = by_is s arrives.0 refl

panel_asks : (rules : Rules) (got : GotBytes) (s t : RunState) (log : List ℕ) → AfterPanel rules got s t log → Asks s t
panel_asks rules founds.Arrived s t log after = arrived_asks s.panel.wire rules s t log after
panel_asks rules founds.Second s t log after = by_is s after.0 (second_asks s.panel.wire s)
panel_asks rules (founds.Bytes bytes) s t log after = by_is s after.0 (bytes_asks s.panel.wire bytes s)
panel_asks rules founds.NotYet s t log after = by_is s after.0 refl
panel_asks rules founds.Closed s t log after = by_is s after.0 (closed_asks s.panel.wire s)
panel_asks rules founds.Failed s t log after = by_is s after.0 (closed_asks s.panel.wire s)

-- of the supervisor's
supervisory_arrived_asks : (wire : Wire) (s : RunState) → Asks s (supervisory_arrived wire s)
supervisory_arrived_asks wires.Rests s = refl
supervisory_arrived_asks wires.Stands s = refl
supervisory_arrived_asks wires.Ends s = refl
supervisory_arrived_asks wires.Breaks s = refl

supervisory_second_asks : (wire : Wire) (moment : ℤ) (s : RunState) → Asks s (supervisory_second wire moment s)
supervisory_second_asks wires.Rests moment s = refl
supervisory_second_asks wires.Stands moment s = refl
supervisory_second_asks wires.Ends moment s = refl
supervisory_second_asks wires.Breaks moment s = refl

supervisory_bytes_asks : (wire : Wire) (bytes : List ℕ) (s : RunState) → Asks s (supervisory_bytes wire bytes s)
supervisory_bytes_asks wires.Rests bytes s = refl
supervisory_bytes_asks wires.Stands bytes s = refl
supervisory_bytes_asks wires.Ends bytes s = refl
supervisory_bytes_asks wires.Breaks bytes s = refl

supervisory_closed_asks : (wire : Wire) (s : RunState) → Asks s (supervisory_closed wire s)
supervisory_closed_asks wires.Rests s = refl
supervisory_closed_asks wires.Stands s = refl
supervisory_closed_asks wires.Ends s = refl
supervisory_closed_asks wires.Breaks s = refl

supervisory_asks : (moment : ℤ) (got : GotBytes) (s : RunState) → Asks s (after_supervisory moment got s)
supervisory_asks moment founds.Arrived s = supervisory_arrived_asks s.supervisory.wire s
supervisory_asks moment founds.Second s = supervisory_second_asks s.supervisory.wire moment s
supervisory_asks moment (founds.Bytes bytes) s = supervisory_bytes_asks s.supervisory.wire bytes s
supervisory_asks moment founds.NotYet s = refl
supervisory_asks moment founds.Closed s = supervisory_closed_asks s.supervisory.wire s
supervisory_asks moment founds.Failed s = supervisory_closed_asks s.supervisory.wire s

-- of the configuration way
configuration_arrived_asks : (wire : Wire) (s : RunState) → Asks s (configuration_arrived wire s)
configuration_arrived_asks wires.Rests s = refl
configuration_arrived_asks wires.Stands s = refl
configuration_arrived_asks wires.Ends s = refl
configuration_arrived_asks wires.Breaks s = refl

configuration_second_asks : (wire : Wire) (moment : ℤ) (s : RunState) → Asks s (configuration_second wire moment s)
configuration_second_asks wires.Rests moment s = refl
configuration_second_asks wires.Stands moment s = refl
configuration_second_asks wires.Ends moment s = refl
configuration_second_asks wires.Breaks moment s = refl

configuration_bytes_asks : (wire : Wire) (bytes : List ℕ) (s : RunState) → Asks s (configuration_bytes wire bytes s)
configuration_bytes_asks wires.Rests bytes s = refl
configuration_bytes_asks wires.Stands bytes s = refl
configuration_bytes_asks wires.Ends bytes s = refl
configuration_bytes_asks wires.Breaks bytes s = refl

configuration_closed_asks : (wire : Wire) (s : RunState) → Asks s (configuration_closed wire s)
configuration_closed_asks wires.Rests s = refl
configuration_closed_asks wires.Stands s = refl
configuration_closed_asks wires.Ends s = refl
configuration_closed_asks wires.Breaks s = refl

configuration_asks : (moment : ℤ) (got : GotBytes) (s : RunState) → Asks s (after_configuration moment got s)
configuration_asks moment founds.Arrived s = configuration_arrived_asks s.configuration.wire s
configuration_asks moment founds.Second s = configuration_second_asks s.configuration.wire moment s
configuration_asks moment (founds.Bytes bytes) s = configuration_bytes_asks s.configuration.wire bytes s
configuration_asks moment founds.NotYet s = refl
configuration_asks moment founds.Closed s = configuration_closed_asks s.configuration.wire s
configuration_asks moment founds.Failed s = configuration_closed_asks s.configuration.wire s

-- of a neighbour's
second_met : (may : Result (Unit {0}) No) (rules : Rules) (moment : ℤ) (s t : RunState) (log : List ℕ) → MeetsSecond may rules moment inputs.Second s t log → Asks s t
second_met (Ok done) rules moment s t log meets = by_is s meets.after refl
second_met (Err why) rules moment s t log meets = by_is s meets.0 refl

upstream_asks : (rules : Rules) (moment : ℤ) (got : GotBytes) (s t : RunState) (log : List ℕ) → AfterUpstream rules moment got s t log → Asks s t
upstream_asks rules moment founds.Arrived s t log after = takes_asks (may_of s.node inputs.Connect) rules moment inputs.Connect (with_wire ways.Upstream wires.Stands s) s t log refl after
upstream_asks rules moment founds.Second s t log after = by_is s after.0 refl
upstream_asks rules moment (founds.Bytes bytes) s t log after = by_is s after.0 refl
upstream_asks rules moment founds.NotYet s t log after = by_is s after.0 refl
upstream_asks rules moment founds.Closed s t log after = by_is s after.0 refl
upstream_asks rules moment founds.Failed s t log after = by_is s after.0 refl

downstream_asks : (rules : Rules) (moment : ℤ) (got : GotBytes) (s t : RunState) (log : List ℕ) → AfterDownstream rules moment got s t log → Asks s t
downstream_asks rules moment founds.Arrived s t log after = takes_asks (may_of s.node inputs.Accepted) rules moment inputs.Accepted (with_wire ways.Downstream wires.Stands s) s t log refl after
downstream_asks rules moment founds.Second s t log after = second_met (may_of s.node inputs.Second) rules moment s t log after
downstream_asks rules moment (founds.Bytes bytes) s t log after = by_is s after.0 refl
downstream_asks rules moment founds.NotYet s t log after = by_is s after.0 refl
downstream_asks rules moment founds.Closed s t log after = by_is s after.0 refl
downstream_asks rules moment founds.Failed s t log after = by_is s after.0 refl

poll_asks : (rules : Rules) (moment : ℤ) (way : Way) (got : GotBytes) (s t : RunState) (log : List ℕ) → AfterPoll rules moment way got s t log → Asks s t
poll_asks rules moment ways.Panel got s t log after = panel_asks rules got s t log after
poll_asks rules moment ways.Upstream got s t log after = upstream_asks rules moment got s t log after
poll_asks rules moment ways.Downstream got s t log after = downstream_asks rules moment got s t log after
poll_asks rules moment ways.Supervisory got s t log after = by_is s after.0 (supervisory_asks moment got s)
poll_asks rules moment ways.Configuration got s t log after = by_is s after.0 (configuration_asks moment got s)

-- what was found is taken
broken_asks : (side : Side) (test : Bool) (s : RunState) → Asks s (broken (way_of side) test s)
broken_asks Entry true s = refl
broken_asks Exit true s = refl
broken_asks side false s = refl

found_asks : (bytes : Option (List ℕ)) (side : Side) (rules : Rules) (moment : ℤ) (s t : RunState) (log : List ℕ) → TakesFound bytes side rules moment s t log → Asks s t
found_asks (Some bytes) side rules moment s t log takes = takes_asks (may_of s.node (inputs.Bytes side takes.piece)) rules moment (inputs.Bytes side takes.piece) s s t log refl takes.takes
found_asks None side rules moment s t log takes = by_is s takes.0 (broken_asks side (is_open side s.node.lane.body) s)

finding_asks : (finding : Option Finding) (rules : Rules) (moment : ℤ) (s t : RunState) (log : List ℕ) → TakesFinding finding rules moment s t log → Asks s t
finding_asks None rules moment s t log takes = by_is s takes.0 refl
finding_asks (Some finding) rules moment s t log takes = found_asks finding.bytes finding.side rules moment s t log takes

-- listens, sends, closes, resets
listened_asks : (address : Address) (opened : Opened) (s : RunState) → Asks s (after_listen address opened s)
listened_asks address openings.Done s = refl
listened_asks address openings.Failed s = refl

sent_asks : (way : Way) (sent : Sent) (s : RunState) → Asks s (after_send way sent s)
sent_asks way (sents.Took n) s = way_asks way _ s
sent_asks way sents.NotYet s = refl
sent_asks way sents.Closed s = way_asks way _ s
sent_asks way sents.Failed s = way_asks way _ s

unsupervised_asks : (rules : Rules) (moment : ℤ) (s t : RunState) (log : List ℕ) → Unsupervised rules moment s t log → Asks s t
unsupervised_asks rules moment s t log does = takes_asks (may_of s.node (inputs.Supervise false)) rules moment (inputs.Supervise false) s s t log refl does

close_asks : (way : Way) (rules : Rules) (moment : ℤ) (s t : RunState) (log : List ℕ) → AfterClose rules moment way s t log → Asks s t
close_asks ways.Panel rules moment s t log after = by_is s after.0 refl
close_asks ways.Upstream rules moment s t log after = (let closed : RunState = record s { upstream = at_rest } in takes_asks (may_of s.node (inputs.Notice Entry)) rules moment (inputs.Notice Entry) closed closed t log refl after)
close_asks ways.Downstream rules moment s t log after = (let closed : RunState = record s { downstream = at_rest } in takes_asks (may_of s.node (inputs.Notice Exit)) rules moment (inputs.Notice Exit) closed closed t log refl after)
close_asks ways.Supervisory rules moment s t log after = unsupervised_asks rules moment (record s { supervisory = at_rest; channel = no_session }) t log after
close_asks ways.Configuration rules moment s t log after = by_is s after.0 refl

begun_asks : (side : Side) (s : RunState) → Asks s (reset_begun side s)
begun_asks Entry s = refl
begun_asks Exit s = refl

leaving_asks : (moment : ℤ) (side : Side) (s : RunState) → Asks s (leaving moment side s)
leaving_asks moment Entry s = refl
leaving_asks moment Exit s = refl

reset_asks : (rules : Rules) (moment : ℤ) (side : Side) (s t : RunState) (log : List ℕ) → ResetsSide rules moment side s t log → Asks s t
reset_asks rules moment side s t log resets =
    takes_asks (may_of s.node (inputs.Notice side)) rules moment (inputs.Notice side) (leaving moment side (reset_begun side s)) (reset_begun side s) t log (leaving_asks moment side (reset_begun side s)) resets ∙ begun_asks side s

-- messages of the configuration service
tries_asks : (same : Bool) (moment : ℤ) (settings : Settings) (s t : RunState) → TriesIf same moment settings s t → Asks s t
tries_asks true moment settings s t tries = by_is s tries.after refl
tries_asks false moment settings s t tries = by_is s tries refl

try_asks : (opened : Opened) (moment : ℤ) (settings : Settings) (s t : RunState) → AfterTry opened moment settings s t → Asks s t
try_asks openings.Done moment settings s t after = by_is s after.after refl
try_asks openings.Failed moment settings s t after = by_is s after refl

plan_asks : (plan : Plan) (moment : ℤ) (s t : RunState) → DoesPlan plan moment s t → Asks s t
plan_asks plans.Tell moment s t does = by_is s does refl
plan_asks (plans.Try settings) moment s t does = tries_asks (settings.port == s.settings.port) moment settings s t does
plan_asks plans.Nothing moment s t does = by_is s does refl
plan_asks plans.Breach moment s t does = by_is s does refl

config_word_asks : (word : ConfigWord) (moment : ℤ) (s t : RunState) → DoesConfigWord word moment s t → Asks s t
config_word_asks (config_words.Says message) moment s t does = plan_asks (plan_of message.body) moment s t does
config_word_asks (config_words.Wrong text) moment s t does = by_is s does refl

config_asks : (found : ConfigFound) (moment : ℤ) (s t : RunState) → DoesConfigFound found moment s t → Asks s t
config_asks (config_finds.Word word) moment s t does = config_word_asks word moment s t does
config_asks config_finds.More moment s t does = by_is s does refl
config_asks config_finds.TooLong moment s t does = by_is s does refl

-- messages of the supervisor
answer_asks : (may : Result (Unit {0}) No) (rules : Rules) (moment : ℤ) (query : ℕ) (order : List ℕ) (s t : RunState) (log : List ℕ) → AnswersIf may rules moment query order s t log → Asks s t
answer_asks (Ok done) rules moment query order s t log does = by_is s does.after refl
answer_asks (Err why) rules moment query order s t log does = by_is s does.0 refl

action_asks : (action : VerticalAction) (rules : Rules) (moment : ℤ) (s t : RunState) (log : List ℕ) → DoesAction action rules moment s t log → Asks s t
action_asks actions.Describe rules moment s t log does =
    takes_asks (may_of s.node (inputs.Supervise true)) rules moment (inputs.Supervise true) (said moment (system_of rules.machine_id) s) (said moment (system_of rules.machine_id) s) t log refl does
action_asks (actions.Pong id) rules moment s t log does = by_is s does.0 refl
action_asks (actions.Answer query order) rules moment s t log does = answer_asks (may_of s.node (inputs.Answer query order)) rules moment query order s t log does
action_asks actions.Nothing rules moment s t log does = by_is s does.0 refl

breaks_asks : (rules : Rules) (moment : ℤ) (text : List ℕ) (s t : RunState) (log : List ℕ) → Unsupervised rules moment (broken_off moment text s) t log → Asks s t
breaks_asks rules moment text s t log does = unsupervised_asks rules moment (broken_off moment text s) t log does

row_asks : (row : Option SupervisedRow) (body : Vertical) (rules : Rules) (moment : ℤ) (s t : RunState) (log : List ℕ) → DoesRow row body rules moment s t log → Asks s t
row_asks None body rules moment s t log does = breaks_asks rules moment (unexpected (kind_of body)) s t log does
row_asks (Some row) body rules moment s t log does = action_asks row.action rules moment (with_stands row.after s) t log does

word_asks : (word : Word) (rules : Rules) (moment : ℤ) (s t : RunState) (log : List ℕ) → DoesWord word rules moment s t log → Asks s t
word_asks (words.Says message) rules moment s t log does = row_asks (supervised_row s.channel.stands message.body) message.body rules moment s t log does
word_asks (words.Wrong text) rules moment s t log does = breaks_asks rules moment text s t log does

heard_asks : (found : Found) (rules : Rules) (moment : ℤ) (s t : RunState) (log : List ℕ) → DoesFound found rules moment s t log → Asks s t
heard_asks (finds.Word word) rules moment s t log does = word_asks word rules moment s t log does
heard_asks finds.More rules moment s t log does = by_is s does.0 refl
heard_asks finds.TooLong rules moment s t log does = breaks_asks rules moment (codes "message too long") s t log does

-- ---- a line of the panel: nothing was asked for, or a connection was, that the machine can take

record AsksNow (s t : RunState) : Type 0 where
  address : Address
  address_is : s.settings.upstream ≡ Some address
  may : may_of s.node inputs.Connect ≡ may_do
  line : List ℕ
  rest : List ℕ
  drops : Bool
  after : t ≡ record s { asks = true; line = line; rest = rest; drops = drops }

data LineAsks (s t : RunState) : Type 0 where
  same_asks : Asks s t → LineAsks s t
  asks_now : AsksNow s t → LineAsks s t

input_asks : (may : Result (Unit {0}) No) (rules : Rules) (moment : ℤ) (sensed : List Sensed) (input : Input) (s t : RunState) (log : List ℕ) → DoesInput may rules moment sensed input s t log → Asks s t
input_asks (Ok done) rules moment sensed input s t log does = by_is s does.after refl
input_asks (Err why) rules moment sensed input s t log does = by_is s does.0 refl

may_by : (ended : Bool) (may asked : Result (Unit {0}) No) → may_ask ended may ≡ asked → asked ≡ may_do → may ≡ may_do
may_by true may asked is done = absurd (cc)
may_by false may asked is done = is ∙ done

done_is : (done : Unit {0}) → Ok done ≡ may_do
done_is tt = refl

asks_if : (may : Result (Unit {0}) No) (address : Address) (s t : RunState) (log : List ℕ) → s.settings.upstream ≡ Some address → may_ask (has_ended s.upstream.wire) (may_of s.node inputs.Connect) ≡ may → AsksIf may s t log → LineAsks s t
asks_if (Ok done) address s t log there may asks = asks_now (record {
  address = address;
  address_is = there;
  may = may_by (has_ended s.upstream.wire) (may_of s.node inputs.Connect) (Ok done) may (done_is done);
  line = s.line;
  rest = s.rest;
  drops = s.drops;
  after = asks.0;
})
asks_if (Err why) address s t log there may asks = same_asks (by_is s asks.0 refl)

connect_asks : (upstream : Option Address) (s t : RunState) (log : List ℕ) → s.settings.upstream ≡ upstream → AsksConnect upstream s t log → LineAsks s t
connect_asks None s t log there asks = same_asks (by_is s asks.0 refl)
connect_asks (Some address) s t log there asks = asks_if (may_ask (has_ended s.upstream.wire) (may_of s.node inputs.Connect)) address s t log there refl asks

line_asks : (asked : Result PanelLine LineWhy) (rules : Rules) (moment : ℤ) (s t : RunState) (log : List ℕ) → DoesAsked asked rules moment s t log → LineAsks s t
line_asks (Err why) rules moment s t log does = same_asks (by_is s does.0 refl)
line_asks (Ok lines.Blank) rules moment s t log does = same_asks (by_is s does.0 refl)
line_asks (Ok lines.End) rules moment s t log does = same_asks (by_is s does.0 refl)
line_asks (Ok lines.Show) rules moment s t log does = same_asks (by_is s does.0 refl)
line_asks (Ok lines.Connect) rules moment s t log does = connect_asks s.settings.upstream s t log refl does
line_asks (Ok (lines.Insert barcode)) rules moment s t log does = same_asks (input_asks (may_of s.node (inputs.Insert barcode)) rules moment _ (inputs.Insert barcode) s t log does)
line_asks (Ok (lines.Remove id)) rules moment s t log does = same_asks (input_asks (may_of s.node (inputs.Remove id)) rules moment _ (inputs.Remove id) s t log does)
line_asks (Ok (lines.Replace id)) rules moment s t log does = same_asks (input_asks (may_of s.node (inputs.Replace id)) rules moment _ (inputs.Replace id) s t log does)
line_asks (Ok (lines.Mark id quality)) rules moment s t log does = same_asks (input_asks (may_of s.node (inputs.Mark id quality)) rules moment _ (inputs.Mark id quality) s t log does)
line_asks (Ok (lines.Sub id place barcode)) rules moment s t log does = same_asks (input_asks (may_of s.node (inputs.Sub id place barcode)) rules moment _ (inputs.Sub id place barcode) s t log does)
line_asks (Ok (lines.Hold side)) rules moment s t log does = same_asks (input_asks (may_of s.node (inputs.Will side false)) rules moment _ (inputs.Will side false) s t log does)
line_asks (Ok (lines.Go side)) rules moment s t log does = same_asks (input_asks (may_of s.node (inputs.Will side true)) rules moment _ (inputs.Will side true) s t log does)
line_asks (Ok lines.Shutdown) rules moment s t log does = same_asks (input_asks (may_of s.node (inputs.Shutdown)) rules moment _ (inputs.Shutdown) s t log does)
line_asks (Ok lines.Tick) rules moment s t log does = same_asks (input_asks (may_of s.node (inputs.Tick)) rules moment _ (inputs.Tick) s t log does)
line_asks (Ok (lines.Fault side)) rules moment s t log does = same_asks (input_asks (may_of s.node (inputs.Fault side)) rules moment _ (inputs.Fault side) s t log does)
line_asks (Ok (lines.Signal line on)) rules moment s t log does = same_asks (input_asks (may_of s.node (inputs.Level line on)) rules moment _ (inputs.Level line on) s t log does)
line_asks (Ok lines.Forecast) rules moment s t log does = same_asks (input_asks (may_of s.node (inputs.Forecast)) rules moment _ (inputs.Forecast) s t log does)
line_asks (Ok (lines.Query barcode)) rules moment s t log does = same_asks (input_asks (may_of s.node (inputs.Query barcode)) rules moment _ (inputs.Query barcode) s t log does)
line_asks (Ok (lines.Ask question)) rules moment s t log does = same_asks (input_asks (may_of s.node (inputs.Ask question)) rules moment _ (inputs.Ask question) s t log does)
line_asks (Ok (lines.Sense sensed)) rules moment s t log does = same_asks (input_asks (may_of s.node (inputs.Nothing)) rules moment _ (inputs.Nothing) s t log does)

keeps_asks : (long : Bool) (front : List ℕ) (s t : RunState) (log : List ℕ) → KeepsFront long front s t log → Asks s t
keeps_asks true front s t log keeps = by_is s keeps.0 refl
keeps_asks false front s t log keeps = by_is s keeps.0 refl

fronts_asks : (drops : Bool) (front : List ℕ) (s t : RunState) (log : List ℕ) → Fronts drops front s t log → Asks s t
fronts_asks true front s t log fronts = by_is s fronts.0 refl
fronts_asks false front s t log fronts = keeps_asks (is_too_long front) front s t log fronts

-- behind a line that was taken off, as before it
taken_off : {s t : RunState} (line rest : List ℕ) → LineAsks (record s { line = line; rest = rest }) t → LineAsks s t
taken_off line rest (same_asks same) = same_asks same
taken_off {s} {t} line rest (asks_now a) = asks_now (record { address = a.address; address_is = a.address_is; may = a.may; line = a.line; rest = a.rest; drops = a.drops; after = a.after })

ends_asks : (drops : Bool) (line rest : List ℕ) (rules : Rules) (moment : ℤ) (s t : RunState) (log : List ℕ) → Ends drops line rules moment (record s { rest = rest }) t log → LineAsks s t
ends_asks true line rest rules moment s t log ends = same_asks (by_is s ends.0 refl)
ends_asks false line rest rules moment s t log ends = taken_off [] rest (line_asks (panel_line_of (without_return line)) rules moment (record s { line = []; rest = rest }) t log ends)

cut_asks : (cut : Option (List ℕ × List ℕ)) (rules : Rules) (moment : ℤ) (s t : RunState) (log : List ℕ) → DoesCut cut rules moment s t log → LineAsks s t
cut_asks None rules moment s t log does = same_asks (fronts_asks s.drops (s.line ++ s.rest) (record s { rest = [] }) t log does)
cut_asks (Some parts) rules moment s t log does = ends_asks s.drops (s.line ++ parts.0) parts.1 rules moment s t log does

-- ---- what comes next: where a line comes next, nothing goes before what a connection that is asked for puts in its place

ends_pass : (ended : Option NodeStatus) (x y : Next) → ends_next ended x ≡ nexts.Line → (x ≡ nexts.Line) × (ends_next ended y ≡ y)
ends_pass None x y is = (is, refl)
ends_pass (Some status) x y is = absurd (cc)

refuses_pass : (refusal : Option Refusal) (x y : Next) → refuses_next refusal x ≡ nexts.Line → (x ≡ nexts.Line) × (refuses_next refusal y ≡ y)
refuses_pass None x y is = (is, refl)
refuses_pass (Some refusal) x y is = absurd (cc)

resets_by : (up down : Bool) (x y : Next) → (if up then nexts.Reset Entry else (if down then nexts.Reset Exit else x)) ≡ nexts.Line → (x ≡ nexts.Line) × ((if up then nexts.Reset Entry else (if down then nexts.Reset Exit else y)) ≡ y)
resets_by true down x y is = absurd (cc)
resets_by false true x y is = absurd (cc)
resets_by false false x y is = (is, refl)

close_pass : (test : Bool) (way : Way) (x y : Next) → (if test then nexts.Close way else x) ≡ nexts.Line → (x ≡ nexts.Line) × ((if test then nexts.Close way else y) ≡ y)
close_pass true way x y is = absurd (cc)
close_pass false way x y is = (is, refl)

tries_pass : (tries : Option Settings) (x y : Next) → tries_next tries x ≡ nexts.Line → (x ≡ nexts.Line) × (tries_next tries y ≡ y)
tries_pass None x y is = (is, refl)
tries_pass (Some settings) x y is = absurd (cc)

-- all that goes before
abbrev before : RunState → Next → Next
before s next =
    ends_next s.ended (refuses_next s.refusal (resets_next s.resets
    (if is_due s.panel then nexts.Close ways.Panel else
    (if is_due s.upstream then nexts.Close ways.Upstream else
    (if is_due s.downstream then nexts.Close ways.Downstream else
    (if is_due s.supervisory then nexts.Close ways.Supervisory else
    (if is_due s.configuration then nexts.Close ways.Configuration else
    tries_next s.tries next)))))))

before_pass : (s : RunState) (x y : Next) → before s x ≡ nexts.Line → before s y ≡ y
before_pass s x y is =
    let one = ends_pass s.ended _ _ is in
    let two = refuses_pass s.refusal _ _ one.0 in
    let three = resets_by s.resets.upstream s.resets.downstream _ _ two.0 in
    let four = close_pass (is_due s.panel) ways.Panel _ _ three.0 in
    let five = close_pass (is_due s.upstream) ways.Upstream _ _ four.0 in
    let six = close_pass (is_due s.downstream) ways.Downstream _ _ five.0 in
    let seven = close_pass (is_due s.supervisory) ways.Supervisory _ _ six.0 in
    let eight = close_pass (is_due s.configuration) ways.Configuration _ _ seven.0 in
    let nine = tries_pass s.tries x y eight.0 in
    one.1 ∙ two.1 ∙ three.1 ∙ four.1 ∙ five.1 ∙ six.1 ∙ seven.1 ∙ eight.1 ∙ nine.1

-- ---- A RUN

record Asked (rules : Rules) (s : RunState) : Type 0 where
  may : may_of s.node inputs.Connect ≡ may_do
  address : Address
  next : next_of rules s ≡ nexts.Connect address

abbrev MayIfAsked : Rules → RunState → Type 0
MayIfAsked rules s = s.asks ≡ true → Asked rules s

asked_now : {rules : Rules} {s t : RunState} → next_of rules s ≡ nexts.Line → AsksNow s t → Asked rules t
asked_now {rules} {s} {t} next a =
    let u : RunState = record s { asks = true; line = a.line; rest = a.rest; drops = a.drops } in
    let comes : next_of rules u ≡ connects_next rules u = before_pass s (connects_next rules s) (connects_next rules u) next in
    record {
      may = ap (λ (r : RunState). may_of r.node inputs.Connect) a.after ∙ a.may;
      address = a.address;
      next = ap (next_of rules) a.after ∙ comes ∙ ap (λ (there : Option Address). asks_next there (lines_next rules u)) a.address_is;
    }

not_asked : (rules : Rules) (s t : RunState) → Asks s t → s.asks ≡ false → MayIfAsked rules t
not_asked rules s t same none asked = absurd (true≢false (sym asked ∙ same ∙ none))

line_asked : {rules : Rules} {s t : RunState} → next_of rules s ≡ nexts.Line → s.asks ≡ false → LineAsks s t → MayIfAsked rules t
line_asked {rules} {s} {t} next none (same_asks same) asked = not_asked rules s t same none asked
line_asked next none (asks_now a) asked = asked_now next a

-- where nothing was asked for
calm_move : {rules : Rules} {moment : ℤ} {s t : RunState} {given : List Given} {log : List ℕ} → Moves rules moment s given t log → s.asks ≡ false → MayIfAsked rules t
calm_move {rules} (listens {s} {way} {address} {opened} next) none = not_asked rules s (after_listen address opened s) (listened_asks address opened s) none
calm_move (connects next) none = λ asked. absurd (false≢true asked)
calm_move {rules} {moment} (polls {s} {t} {way} {got} {log} next done) none = not_asked rules s t (poll_asks rules moment way got (moved_on s) t log done) none
calm_move {rules} (sends {s} {way} {sent} next) none = not_asked rules s (after_send way sent (moved_on s)) (sent_asks way sent (moved_on s)) none
calm_move {rules} (refuses {s} next is) none = not_asked rules s (record s { refusal = None }) refl none
calm_move {rules} {moment} (closes {s} {t} {way} {log} next done) none = not_asked rules s t (close_asks way rules moment s t log done) none
calm_move {rules} (skips {s} next) none = not_asked rules s (moved_on s) refl none
calm_move {rules} {moment} (looks_again {s} {t} {got} {log} next done) none = not_asked rules s t (panel_asks rules got (looked got s) t log done) none
calm_move {rules} {moment} (takes_held {s} {t} {log} next done) none = not_asked rules s t (finding_asks s.held.finding rules moment (with_held nothing_held s) t log done) none
calm_move {rules} {moment} (does_line {s} {t} {log} next done) none = line_asked next none (cut_asks (cut_line s.rest) rules moment s t log done)
calm_move {rules} {moment} (does_hear {s} {t} {log} next done) none = not_asked rules s t (heard_asks done.found rules moment (with_channel done.channel s) t log done.does) none
calm_move {rules} {moment} (does_config {s} {t} {log} next done no_log) none = not_asked rules s t (config_asks done.found moment (with_config done.config s) t done.does) none
calm_move {rules} {moment} (tries_port {s} {t} {settings} {opened} {log} next done no_log) none = not_asked rules s t (try_asks opened moment settings s t done) none
calm_move {rules} {moment} (resets_side {s} {t} {side} {log} next done) none = not_asked rules s t (reset_asks rules moment side s t log done) none

-- where one was, the call comes next
called : {rules : Rules} {moment : ℤ} {s t : RunState} {given : List Given} {log : List ℕ} → Moves rules moment s given t log → Asked rules s → MayIfAsked rules t
called (connects next) a = λ asked. absurd (false≢true asked)
called (listens next) a = absurd (let is = sym a.next ∙ next in cc)
called (polls next done) a = absurd (let is = sym a.next ∙ next in cc)
called (sends next) a = absurd (let is = sym a.next ∙ next in cc)
called (refuses next there) a = absurd (let is = sym a.next ∙ next in cc)
called (closes next done) a = absurd (let is = sym a.next ∙ next in cc)
called (skips next) a = absurd (let is = sym a.next ∙ next in cc)
called (looks_again next done) a = absurd (let is = sym a.next ∙ next in cc)
called (takes_held next done) a = absurd (let is = sym a.next ∙ next in cc)
called (does_line next done) a = absurd (let is = sym a.next ∙ next in cc)
called (does_hear next done) a = absurd (let is = sym a.next ∙ next in cc)
called (does_config next done none) a = absurd (let is = sym a.next ∙ next in cc)
called (tries_port next done none) a = absurd (let is = sym a.next ∙ next in cc)
called (resets_side next done) a = absurd (let is = sym a.next ∙ next in cc)

move_asked : {rules : Rules} {moment : ℤ} {s t : RunState} {given : List Given} {log : List ℕ} (asks : Bool) → s.asks ≡ asks → Moves rules moment s given t log → MayIfAsked rules s → MayIfAsked rules t
move_asked true is move may = called move (may is)
move_asked false is move may = calm_move move is

run_asked : {rules : Rules} {settings : Settings} {node : NodeState} {s t : RunState} {moments : List ℤ} {given : List Given} {log : List ℕ} → Runs rules s moments given t log → s ≡ started settings node → MayIfAsked rules t
run_asked begins is = λ asked. absurd (false≢true (sym (ap (λ (r : RunState). r.asks) is) ∙ asked))
run_asked (goes_on {t = t} run move) is = move_asked t.asks refl move (run_asked run is)

-- the call comes only where one was asked for
abbrev NoConnect : Next → Type 0
NoConnect (nexts.Connect address) = ⊥
NoConnect next = Unit {0}

no_polls : (test : Bool) (way : Way) → NoConnect (if test then nexts.Poll way else nexts.Skip)
no_polls true way = tt
no_polls false way = tt

no_sends : (test : Bool) (way : Way) → NoConnect (if test then nexts.Skip else nexts.Send way)
no_sends true way = tt
no_sends false way = tt

no_turn : (test : Bool) → NoConnect (if test then nexts.Skip else nexts.End statuses.TurnsUsed)
no_turn true = tt
no_turn false = tt

no_listen : (way : Way) (port : Option ℕ) → NoConnect (listens_if way port)
no_listen way None = tt
no_listen way (Some port) = tt

no_place : (rules : Rules) (s : RunState) (place : Place) → NoConnect (at_place rules s place)
no_place rules s places.ListenPanel = tt
no_place rules s places.ListenDownstream = tt
no_place rules s places.ListenSupervisory = no_listen ways.Supervisory rules.connections.supervisory_port
no_place rules s places.ListenConfiguration = no_listen ways.Configuration rules.connections.config_port
no_place rules s places.PollPanel = no_polls (is_polled rules s ways.Panel) ways.Panel
no_place rules s places.PollUpstream = no_polls (is_polled rules s ways.Upstream) ways.Upstream
no_place rules s places.PollDownstream = no_polls (is_polled rules s ways.Downstream) ways.Downstream
no_place rules s places.PollSupervisory = no_polls (is_polled rules s ways.Supervisory) ways.Supervisory
no_place rules s places.PollConfiguration = no_polls (is_polled rules s ways.Configuration) ways.Configuration
no_place rules s places.SendPanel = no_sends (is_empty s.panel.unsent) ways.Panel
no_place rules s places.SendUpstream = no_sends (is_empty s.upstream.unsent) ways.Upstream
no_place rules s places.SendDownstream = no_sends (is_empty s.downstream.unsent) ways.Downstream
no_place rules s places.SendSupervisory = no_sends (is_empty s.supervisory.unsent) ways.Supervisory
no_place rules s places.SendConfiguration = no_sends (is_empty s.configuration.unsent) ways.Configuration
no_place rules s places.TurnDone = no_turn (nat_lt s.turn rules.turns)

no_takes : (test : Bool) → NoConnect (if test then nexts.Look else nexts.Take)
no_takes true = tt
no_takes false = tt

no_held : (rules : Rules) (s : RunState) (test : Bool) → NoConnect (if test then takes_next s.held.looks else at_place rules s s.place)
no_held rules s true = no_takes (nat_lt 0 s.held.looks)
no_held rules s false = no_place rules s s.place

no_config : (rules : Rules) (s : RunState) (test : Bool) → NoConnect (if test then nexts.HearConfig else held_next rules s)
no_config rules s true = tt
no_config rules s false = no_held rules s (is_some s.held.finding)

no_hear : (rules : Rules) (s : RunState) (test : Bool) → NoConnect (if test then nexts.Hear else configures_next rules s)
no_hear rules s true = tt
no_hear rules s false = no_config rules s s.config.hears

no_line : (rules : Rules) (s : RunState) (test : Bool) → NoConnect (if test then hears_next rules s else nexts.Line)
no_line rules s true = no_hear rules s s.channel.hears
no_line rules s false = tt

ends_call : (ended : Option NodeStatus) (next : Next) → NoConnect next → NoConnect (ends_next ended next)
ends_call None next calm = calm
ends_call (Some status) next calm = tt

refuses_call : (refusal : Option Refusal) (next : Next) → NoConnect next → NoConnect (refuses_next refusal next)
refuses_call None next calm = calm
refuses_call (Some refusal) next calm = tt

resets_call : (up down : Bool) (next : Next) → NoConnect next → NoConnect (if up then nexts.Reset Entry else (if down then nexts.Reset Exit else next))
resets_call true down next calm = tt
resets_call false true next calm = tt
resets_call false false next calm = calm

close_call : (test : Bool) (way : Way) (next : Next) → NoConnect next → NoConnect (if test then nexts.Close way else next)
close_call true way next calm = tt
close_call false way next calm = calm

tries_call : (tries : Option Settings) (next : Next) → NoConnect next → NoConnect (tries_next tries next)
tries_call None next calm = calm
tries_call (Some settings) next calm = tt

no_call : (s : RunState) (next : Next) → NoConnect next → NoConnect (before s next)
no_call s next calm =
    ends_call s.ended _ (refuses_call s.refusal _ (resets_call s.resets.upstream s.resets.downstream _
    (close_call (is_due s.panel) ways.Panel _ (close_call (is_due s.upstream) ways.Upstream _ (close_call (is_due s.downstream) ways.Downstream _
    (close_call (is_due s.supervisory) ways.Supervisory _ (close_call (is_due s.configuration) ways.Configuration _ (tries_call s.tries next calm))))))))

asked_by : (rules : Rules) (s : RunState) (asks : Bool) {address : Address} → before s (if asks then asks_next s.settings.upstream (lines_next rules s) else lines_next rules s) ≡ nexts.Connect address → asks ≡ true
asked_by rules s true next = refl
asked_by rules s false next = absurd (subst NoConnect next (no_call s (lines_next rules s) (no_line rules s (is_empty s.rest))))

asked_before : (rules : Rules) (s : RunState) {address : Address} → next_of rules s ≡ nexts.Connect address → s.asks ≡ true
asked_before rules s next = asked_by rules s s.asks next

pub asks_where_it_may : AsksWhereItMay
asks_where_it_may rules settings node moments s t given first moment address opened log run (connects next) = (run_asked run refl (asked_before rules s next)).may

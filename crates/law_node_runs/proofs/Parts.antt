-- What a move does behind its call: nothing to the machine and to what goes over its neighbours' ways, or one step.
use Rattle.std.proofs.Common.{◌≡◌, ◌==◌, ◌∙◌, refl, sym, ap, subst, ℕ, ℤ, Bool, true, false, List, [], ◌++◌, Option, None, Some, Result, Ok, Err, codes}
use Rattle.line_base.specs.declared.states.Side.TheVariants.{Entry, Exit}
use Rattle.board_record.specs.declared.sensed.Sensed.{Sensed}
use Rattle.line_outside.specs.declared.answer.GotBytes.{GotBytes}
use Rattle.line_outside.specs.declared.answer.GotBytes.TheVariants as founds
use Rattle.line_outside.specs.declared.ports.Opened.{Opened}
use Rattle.line_outside.specs.declared.ports.Opened.TheVariants as opens
use Rattle.line_outside.specs.declared.way.Address.{Address}
use Rattle.line_outside.specs.declared.way.Way.TheVariants as ways
use Rattle.config_service.specs.Plans.{plan_of}
use Rattle.config_service.specs.declared.config.Plan.{Plan}
use Rattle.config_service.specs.declared.config.Plan.TheVariants as plans
use Rattle.config_service.specs.declared.message.Settings.{Settings}
use Rattle.hermes_vertical.specs.Parts.{kind_of}
use Rattle.hermes_vertical.specs.declared.message.Vertical.{Vertical}
use Rattle.supervisory_core.specs.Row.{SupervisedRow, supervised_row}
use Rattle.supervisory_core.specs.Told.{unexpected}
use Rattle.supervisory_core.specs.declared.action.VerticalAction.{VerticalAction}
use Rattle.supervisory_core.specs.declared.action.VerticalAction.TheVariants as actions
use Rattle.line_script.specs.declared.line.LineWhy.{LineWhy}
use Rattle.line_script.specs.declared.line.LineWhy.TheVariants as whys
use Rattle.line_report.specs.declared.happening.Reason.TheVariants as reasons
use Rattle.handover_out.specs.State as outlets
use Rattle.handover_in.specs.State as intakes
use Rattle.node_core.specs.May.{may_do, may_of}
use Rattle.node_core.specs.Node.{NodeState}
use Rattle.node_core.specs.Step.{Steps}
use Rattle.node_core.specs.declared.act.Act.{Act}
use Rattle.node_core.specs.declared.input.Input.{Input}
use Rattle.node_core.specs.declared.input.Input.TheVariants as inputs
use Rattle.node_core.specs.declared.input.No.{No}
use Rattle.node_panel.specs.Panel.{panel_line_of}
use Rattle.node_panel.specs.declared.line.PanelLine.{PanelLine}
use Rattle.node_panel.specs.declared.line.PanelLine.TheVariants as lines
use Rattle.node_run.specs.declared.rules.Rules.{Rules}
use Rattle.node_run.specs.State.{RunState, with_wire}
use Rattle.node_run.specs.Next.{has_ended}
use Rattle.node_run.specs.Configuring.{Accepts, AfterTry, DoesConfig, DoesConfigFound, DoesConfigWord, DoesPlan, TriesIf, with_config}
use Rattle.supervised_end.specs.Said.{system_of}
use Rattle.node_run.specs.Hearing.{AnswersIf, DoesAction, DoesFound, DoesHear, DoesRow, DoesWord, Unsupervised, broken_off, said, with_channel, with_stands}
use Rattle.node_run.specs.declared.channel.ConfigFound.{ConfigFound}
use Rattle.node_run.specs.declared.channel.ConfigFound.TheVariants as config_finds
use Rattle.node_run.specs.declared.channel.ConfigWord.{ConfigWord}
use Rattle.node_run.specs.declared.channel.ConfigWord.TheVariants as config_words
use Rattle.supervised_end.specs.declared.channel.Found.{Found}
use Rattle.supervised_end.specs.declared.channel.Found.TheVariants as finds
use Rattle.supervised_end.specs.declared.channel.Word.{Word}
use Rattle.supervised_end.specs.declared.channel.Word.TheVariants as words
use Rattle.node_run.specs.Steps.{MeetsSecond, Takes, TakesStep, messages_for}
use Rattle.node_run.specs.After.{AfterPanel, PanelArrives, after_configuration, after_supervisory, configuration_arrived, configuration_bytes, configuration_closed, configuration_second, panel_bytes, panel_closed, panel_second, supervisory_arrived, supervisory_bytes, supervisory_closed, supervisory_second}
use Rattle.node_run.specs.Lines.{AsksConnect, AsksIf, DoesAsked, DoesCut, DoesInput, Ends, Fronts, KeepsFront, Tells, is_too_long, may_ask, without_return}
use Rattle.node_run.specs.Owning.{IsAnswer, denies, greets, refuses, shows}
use Rattle.node_run.specs.declared.way_state.Wire.{Wire}
use Rattle.node_run.specs.declared.way_state.Wire.TheVariants as wires
use Rattle.law_node_runs.specs.Connections.{acts_for}
use Rattle.law_node_runs.proofs.Holding.{Same, Stepped, same_is, same_self, same_then, stepped_from}

-- ---- an input that is of no connection

abbrev pub IsAside : Input → Type 0
IsAside (inputs.Bytes side piece) = ⊥
IsAside inputs.Connect = ⊥
IsAside inputs.Accepted = ⊥
IsAside input = Unit {0}

pub data Part (Of : Input → Type 0) (rules : Rules) (s t : RunState) (log : List ℕ) : Type 0 where
  quiet : log ≡ [] → Same s t → Part Of rules s t log
  answers : IsAnswer rules log → Same s t → Part Of rules s t log
  steps : (input : Input) → Of input → Stepped rules input s t log → Part Of rules s t log

pub moved_part : {Of : Input → Type 0} {rules : Rules} {s u t : RunState} {log : List ℕ} → Same s u → Part Of rules u t log → Part Of rules s t log
moved_part same (quiet none more) = quiet none (same_then same more)
moved_part same (answers answer more) = answers answer (same_then same more)
moved_part same (steps input of st) = steps input of (stepped_from same st)

-- ---- a step, in which all acts are of the connections that the machine has

abbrev pub IsWhole : Input → Type 0
IsWhole input = (told : List Act) → acts_for input told ≡ told

abbrev pub step_part : (asked : Bool) (rules : Rules) (moment : ℤ) (sensed : List Sensed) (input : Input) (s t : RunState) (log : List ℕ) → IsWhole input → may_of s.node input ≡ may_do → TakesStep asked rules moment sensed input s t log → Stepped rules input s t log
step_part asked rules moment sensed input s t log whole may takes = record {
  sensed = sensed;
  moment = moment;
  told = takes.told;
  may = may;
  steps = subst (λ (n : NodeState). Steps s.node sensed input moment n takes.told) (sym (ap (λ (r : RunState). r.node) takes.after)) takes.steps;
  proper = takes.proper;
  turn = s.turn;
  lines = takes.lines;
  up = ap (λ (r : RunState). r.upstream.unsent) takes.after ∙ ap (λ (acts : List Act). s.upstream.unsent ++ messages_for Entry acts) (sym (whole takes.told));
  down = ap (λ (r : RunState). r.downstream.unsent) takes.after ∙ ap (λ (acts : List Act). s.downstream.unsent ++ messages_for Exit acts) (sym (whole takes.told));
  held = ap (λ (r : RunState). r.held.finding) takes.after;
  step = ap (λ (r : RunState). r.step) takes.after;
  drives = ap (λ (r : RunState). r.drives) takes.after;
}

still : {Of : Input → Type 0} {rules : Rules} {s u t : RunState} {log : List ℕ} → t ≡ u → log ≡ [] → Same s u → Part Of rules s t log
still is none same = quiet none (same_is is same)

-- where the machine can't take it, nothing
pub takes_part : {Of : Input → Type 0} (may : Result (Unit {0}) No) (rules : Rules) (moment : ℤ) (input : Input) (from s t : RunState) (log : List ℕ) → Of input → IsWhole input → may_of s.node input ≡ may → Same s from → Takes may rules moment input from s t log → Part Of rules s t log
takes_part (Ok done) rules moment input from s t log of whole may same takes = steps input of (stepped_from same (step_part false rules moment [] input from t log whole (ap (λ (n : NodeState). may_of n input) same.node ∙ may) takes))
takes_part (Err why) rules moment input from s t log of whole may same takes = still takes.0 takes.1 same_self

second_part : (may : Result (Unit {0}) No) (rules : Rules) (moment : ℤ) (s t : RunState) (log : List ℕ) → may_of s.node inputs.Second ≡ may → MeetsSecond may rules moment inputs.Second s t log → Part IsAside rules s t log
second_part (Ok done) rules moment s t log may meets = steps inputs.Second tt (record {
  sensed = [];
  moment = moment;
  told = meets.told;
  may = may;
  steps = subst (λ (n : NodeState). Steps s.node [] inputs.Second moment n meets.told) (sym (ap (λ (r : RunState). r.node) meets.after)) meets.steps;
  proper = meets.proper;
  turn = s.turn;
  lines = meets.lines;
  up = ap (λ (r : RunState). r.upstream.unsent) meets.after;
  down = ap (λ (r : RunState). r.downstream.unsent) meets.after;
  held = ap (λ (r : RunState). r.held.finding) meets.after;
  step = ap (λ (r : RunState). r.step) meets.after;
  drives = ap (λ (r : RunState). r.drives) meets.after;
})
second_part (Err why) rules moment s t log may meets = still meets.0 meets.1 same_self

pub meets_part : (rules : Rules) (moment : ℤ) (s t : RunState) (log : List ℕ) → MeetsSecond (may_of s.node inputs.Second) rules moment inputs.Second s t log → Part IsAside rules s t log
meets_part rules moment s t log meets = second_part (may_of s.node inputs.Second) rules moment s t log refl meets

tells_part : (rules : Rules) (text : List ℕ) (s t : RunState) (log : List ℕ) → IsAnswer rules text → Tells text s t log → Part IsAside rules s t log
tells_part rules text s t log answer tells = answers (subst (IsAnswer rules) (sym tells.1) answer) (same_is tells.0 (record { node = refl; up = refl; down = refl; held = refl; step = refl; drives = refl }))

-- ---- the panel's connection

second_same : (wire : Wire) (s : RunState) → Same s (panel_second wire s)
second_same wires.Rests s = same_self
second_same wires.Stands s = record { node = refl; up = refl; down = refl; held = refl; step = refl; drives = refl }
second_same wires.Ends s = same_self
second_same wires.Breaks s = same_self

bytes_same : (wire : Wire) (bytes : List ℕ) (s : RunState) → Same s (panel_bytes wire bytes s)
bytes_same wires.Rests bytes s = same_self
bytes_same wires.Stands bytes s = record { node = refl; up = refl; down = refl; held = refl; step = refl; drives = refl }
bytes_same wires.Ends bytes s = same_self
bytes_same wires.Breaks bytes s = same_self

closed_same : (wire : Wire) (s : RunState) → Same s (panel_closed wire s)
closed_same wires.Rests s = same_self
closed_same wires.Stands s = record { node = refl; up = refl; down = refl; held = refl; step = refl; drives = refl }
closed_same wires.Ends s = same_self
closed_same wires.Breaks s = same_self

arrived_part : (wire : Wire) (rules : Rules) (s t : RunState) (log : List ℕ) → PanelArrives wire rules s t log → Part IsAside rules s t log
arrived_part wires.Rests rules s t log arrives = moved_part (record { node = refl; up = refl; down = refl; held = refl; step = refl; drives = refl }) (tells_part rules _ (with_wire ways.Panel wires.Stands s) t log (greets s.turn s.drives) arrives)
arrived_part wires.Stands rules s t log arrives = still arrives.0 arrives.1 same_self
arrived_part wires.Ends rules s t log arrives = still arrives.0 arrives.1 same_self
arrived_part wires.Breaks rules s t log arrives = still arrives.0 arrives.1 same_self

pub panel_part : (rules : Rules) (got : GotBytes) (s t : RunState) (log : List ℕ) → AfterPanel rules got s t log → Part IsAside rules s t log
panel_part rules founds.Arrived s t log after = arrived_part s.panel.wire rules s t log after
panel_part rules founds.Second s t log after = still after.0 after.1 (second_same s.panel.wire s)
panel_part rules (founds.Bytes bytes) s t log after = still after.0 after.1 (bytes_same s.panel.wire bytes s)
panel_part rules founds.NotYet s t log after = still after.0 after.1 same_self
panel_part rules founds.Closed s t log after = still after.0 after.1 (closed_same s.panel.wire s)
panel_part rules founds.Failed s t log after = still after.0 after.1 (closed_same s.panel.wire s)

-- ---- the supervisor's

supervisory_arrived_same : (wire : Wire) (s : RunState) → Same s (supervisory_arrived wire s)
supervisory_arrived_same wires.Rests s = record { node = refl; up = refl; down = refl; held = refl; step = refl; drives = refl }
supervisory_arrived_same wires.Stands s = same_self
supervisory_arrived_same wires.Ends s = same_self
supervisory_arrived_same wires.Breaks s = same_self

supervisory_second_same : (wire : Wire) (moment : ℤ) (s : RunState) → Same s (supervisory_second wire moment s)
supervisory_second_same wires.Rests moment s = same_self
supervisory_second_same wires.Stands moment s = record { node = refl; up = refl; down = refl; held = refl; step = refl; drives = refl }
supervisory_second_same wires.Ends moment s = same_self
supervisory_second_same wires.Breaks moment s = same_self

supervisory_bytes_same : (wire : Wire) (bytes : List ℕ) (s : RunState) → Same s (supervisory_bytes wire bytes s)
supervisory_bytes_same wires.Rests bytes s = same_self
supervisory_bytes_same wires.Stands bytes s = record { node = refl; up = refl; down = refl; held = refl; step = refl; drives = refl }
supervisory_bytes_same wires.Ends bytes s = same_self
supervisory_bytes_same wires.Breaks bytes s = same_self

supervisory_closed_same : (wire : Wire) (s : RunState) → Same s (supervisory_closed wire s)
supervisory_closed_same wires.Rests s = same_self
supervisory_closed_same wires.Stands s = record { node = refl; up = refl; down = refl; held = refl; step = refl; drives = refl }
supervisory_closed_same wires.Ends s = same_self
supervisory_closed_same wires.Breaks s = same_self

pub supervisory_same : (moment : ℤ) (got : GotBytes) (s : RunState) → Same s (after_supervisory moment got s)
supervisory_same moment founds.Arrived s = supervisory_arrived_same s.supervisory.wire s
supervisory_same moment founds.Second s = supervisory_second_same s.supervisory.wire moment s
supervisory_same moment (founds.Bytes bytes) s = supervisory_bytes_same s.supervisory.wire bytes s
supervisory_same moment founds.NotYet s = same_self
supervisory_same moment founds.Closed s = supervisory_closed_same s.supervisory.wire s
supervisory_same moment founds.Failed s = supervisory_closed_same s.supervisory.wire s

-- ---- the configuration service's

configuration_arrived_same : (wire : Wire) (s : RunState) → Same s (configuration_arrived wire s)
configuration_arrived_same wires.Rests s = record { node = refl; up = refl; down = refl; held = refl; step = refl; drives = refl }
configuration_arrived_same wires.Stands s = same_self
configuration_arrived_same wires.Ends s = same_self
configuration_arrived_same wires.Breaks s = same_self

configuration_second_same : (wire : Wire) (moment : ℤ) (s : RunState) → Same s (configuration_second wire moment s)
configuration_second_same wires.Rests moment s = same_self
configuration_second_same wires.Stands moment s = record { node = refl; up = refl; down = refl; held = refl; step = refl; drives = refl }
configuration_second_same wires.Ends moment s = same_self
configuration_second_same wires.Breaks moment s = same_self

configuration_bytes_same : (wire : Wire) (bytes : List ℕ) (s : RunState) → Same s (configuration_bytes wire bytes s)
configuration_bytes_same wires.Rests bytes s = same_self
configuration_bytes_same wires.Stands bytes s = record { node = refl; up = refl; down = refl; held = refl; step = refl; drives = refl }
configuration_bytes_same wires.Ends bytes s = same_self
configuration_bytes_same wires.Breaks bytes s = same_self

configuration_closed_same : (wire : Wire) (s : RunState) → Same s (configuration_closed wire s)
configuration_closed_same wires.Rests s = same_self
configuration_closed_same wires.Stands s = record { node = refl; up = refl; down = refl; held = refl; step = refl; drives = refl }
configuration_closed_same wires.Ends s = same_self
configuration_closed_same wires.Breaks s = same_self

pub configuration_same : (moment : ℤ) (got : GotBytes) (s : RunState) → Same s (after_configuration moment got s)
configuration_same moment founds.Arrived s = configuration_arrived_same s.configuration.wire s
configuration_same moment founds.Second s = configuration_second_same s.configuration.wire moment s
configuration_same moment (founds.Bytes bytes) s = configuration_bytes_same s.configuration.wire bytes s
configuration_same moment founds.NotYet s = same_self
configuration_same moment founds.Closed s = configuration_closed_same s.configuration.wire s
configuration_same moment founds.Failed s = configuration_closed_same s.configuration.wire s

-- its messages are no step
accepts_same : (moment : ℤ) (settings : Settings) (s t : RunState) → Accepts moment settings s t → Same s t
accepts_same moment settings s t accepts = same_is accepts.after (record { node = refl; up = refl; down = refl; held = refl; step = refl; drives = refl })

tries_same : (same : Bool) (moment : ℤ) (settings : Settings) (s t : RunState) → TriesIf same moment settings s t → Same s t
tries_same true moment settings s t tries = accepts_same moment settings s t tries
tries_same false moment settings s t tries = same_is tries (record { node = refl; up = refl; down = refl; held = refl; step = refl; drives = refl })

pub try_same : (opened : Opened) (moment : ℤ) (settings : Settings) (s t : RunState) → AfterTry opened moment settings s t → Same s t
try_same opens.Done moment settings s t after = accepts_same moment settings s t after
try_same opens.Failed moment settings s t after = same_is after (record { node = refl; up = refl; down = refl; held = refl; step = refl; drives = refl })

plan_same : (plan : Plan) (moment : ℤ) (s t : RunState) → DoesPlan plan moment s t → Same s t
plan_same plans.Tell moment s t does = same_is does (record { node = refl; up = refl; down = refl; held = refl; step = refl; drives = refl })
plan_same (plans.Try settings) moment s t does = tries_same (settings.port == s.settings.port) moment settings s t does
plan_same plans.Nothing moment s t does = same_is does same_self
plan_same plans.Breach moment s t does = same_is does (record { node = refl; up = refl; down = refl; held = refl; step = refl; drives = refl })

config_word_same : (word : ConfigWord) (moment : ℤ) (s t : RunState) → DoesConfigWord word moment s t → Same s t
config_word_same (config_words.Says message) moment s t does = plan_same (plan_of message.body) moment s t does
config_word_same (config_words.Wrong text) moment s t does = same_is does (record { node = refl; up = refl; down = refl; held = refl; step = refl; drives = refl })

config_found_same : (found : ConfigFound) (moment : ℤ) (s t : RunState) → DoesConfigFound found moment s t → Same s t
config_found_same (config_finds.Word word) moment s t does = config_word_same word moment s t does
config_found_same config_finds.More moment s t does = same_is does same_self
config_found_same config_finds.TooLong moment s t does = same_is does (record { node = refl; up = refl; down = refl; held = refl; step = refl; drives = refl })

pub config_same : (moment : ℤ) (s t : RunState) → DoesConfig moment s t → Same s t
config_same moment s t does = same_then (record { node = refl; up = refl; down = refl; held = refl; step = refl; drives = refl }) (config_found_same does.found moment (with_config does.config s) t does.does)

-- a machine that is supervised no more
pub unsupervised_part : (rules : Rules) (moment : ℤ) (closed s t : RunState) (log : List ℕ) → Same s closed → Unsupervised rules moment closed t log → Part IsAside rules s t log
unsupervised_part rules moment closed s t log same after = moved_part same (takes_part (may_of closed.node (inputs.Supervise false)) rules moment (inputs.Supervise false) closed closed t log tt (λ told. refl) refl same_self after)

-- ---- the panel's lines

input_part : (may : Result (Unit {0}) No) (rules : Rules) (moment : ℤ) (sensed : List Sensed) (input : Input) (s t : RunState) (log : List ℕ) → IsAside input → IsWhole input → may_of s.node input ≡ may → DoesInput may rules moment sensed input s t log → Part IsAside rules s t log
input_part (Ok done) rules moment sensed input s t log aside whole may does = steps input aside (step_part true rules moment sensed input s t log whole may does)
input_part (Err why) rules moment sensed input s t log aside whole may does = tells_part rules _ s t log (denies s.turn (reasons.Node why)) does

asks_part : (may : Result (Unit {0}) No) (rules : Rules) (s t : RunState) (log : List ℕ) → AsksIf may s t log → Part IsAside rules s t log
asks_part (Ok done) rules s t log asks = still asks.0 asks.1 (record { node = refl; up = refl; down = refl; held = refl; step = refl; drives = refl })
asks_part (Err why) rules s t log asks = tells_part rules _ s t log (denies s.turn (reasons.Node why)) asks

connect_part : (upstream : Option Address) (rules : Rules) (s t : RunState) (log : List ℕ) → AsksConnect upstream s t log → Part IsAside rules s t log
connect_part None rules s t log asks = tells_part rules _ s t log (denies s.turn reasons.NoNeighbour) asks
connect_part (Some address) rules s t log asks = asks_part (may_ask (has_ended s.upstream.wire) (may_of s.node inputs.Connect)) rules s t log asks

asked_part : (asked : Result PanelLine LineWhy) (rules : Rules) (moment : ℤ) (s t : RunState) (log : List ℕ) → DoesAsked asked rules moment s t log → Part IsAside rules s t log
asked_part (Err why) rules moment s t log does = tells_part rules _ s t log (refuses s.turn why) does
asked_part (Ok lines.Blank) rules moment s t log does = still does.0 does.1 same_self
asked_part (Ok lines.End) rules moment s t log does = still does.0 does.1 (record { node = refl; up = refl; down = refl; held = refl; step = refl; drives = refl })
asked_part (Ok lines.Show) rules moment s t log does = tells_part rules _ s t log (shows s.turn s.node.lane.body.kept (outlets.held s.node.lane.body.outlet) (intakes.held s.node.lane.body.intake)) does
asked_part (Ok lines.Connect) rules moment s t log does = connect_part s.settings.upstream rules s t log does
asked_part (Ok (lines.Insert barcode)) rules moment s t log does = input_part (may_of s.node (inputs.Insert barcode)) rules moment _ (inputs.Insert barcode) s t log tt (λ told. refl) refl does
asked_part (Ok (lines.Remove id)) rules moment s t log does = input_part (may_of s.node (inputs.Remove id)) rules moment _ (inputs.Remove id) s t log tt (λ told. refl) refl does
asked_part (Ok (lines.Replace id)) rules moment s t log does = input_part (may_of s.node (inputs.Replace id)) rules moment _ (inputs.Replace id) s t log tt (λ told. refl) refl does
asked_part (Ok (lines.Mark id quality)) rules moment s t log does = input_part (may_of s.node (inputs.Mark id quality)) rules moment _ (inputs.Mark id quality) s t log tt (λ told. refl) refl does
asked_part (Ok (lines.Sub id place barcode)) rules moment s t log does = input_part (may_of s.node (inputs.Sub id place barcode)) rules moment _ (inputs.Sub id place barcode) s t log tt (λ told. refl) refl does
asked_part (Ok (lines.Hold side)) rules moment s t log does = input_part (may_of s.node (inputs.Will side false)) rules moment _ (inputs.Will side false) s t log tt (λ told. refl) refl does
asked_part (Ok (lines.Go side)) rules moment s t log does = input_part (may_of s.node (inputs.Will side true)) rules moment _ (inputs.Will side true) s t log tt (λ told. refl) refl does
asked_part (Ok lines.Shutdown) rules moment s t log does = input_part (may_of s.node inputs.Shutdown) rules moment _ inputs.Shutdown s t log tt (λ told. refl) refl does
asked_part (Ok lines.Tick) rules moment s t log does = input_part (may_of s.node inputs.Tick) rules moment _ inputs.Tick s t log tt (λ told. refl) refl does
asked_part (Ok (lines.Fault side)) rules moment s t log does = input_part (may_of s.node (inputs.Fault side)) rules moment _ (inputs.Fault side) s t log tt (λ told. refl) refl does
asked_part (Ok (lines.Signal line on)) rules moment s t log does = input_part (may_of s.node (inputs.Level line on)) rules moment _ (inputs.Level line on) s t log tt (λ told. refl) refl does
asked_part (Ok lines.Forecast) rules moment s t log does = input_part (may_of s.node inputs.Forecast) rules moment _ inputs.Forecast s t log tt (λ told. refl) refl does
asked_part (Ok (lines.Query barcode)) rules moment s t log does = input_part (may_of s.node (inputs.Query barcode)) rules moment _ (inputs.Query barcode) s t log tt (λ told. refl) refl does
asked_part (Ok (lines.Ask question)) rules moment s t log does = input_part (may_of s.node (inputs.Ask question)) rules moment _ (inputs.Ask question) s t log tt (λ told. refl) refl does
asked_part (Ok (lines.Sense sensed)) rules moment s t log does = input_part (may_of s.node inputs.Nothing) rules moment _ inputs.Nothing s t log tt (λ told. refl) refl does

keeps_part : (long : Bool) (front : List ℕ) (rules : Rules) (s t : RunState) (log : List ℕ) → KeepsFront long front s t log → Part IsAside rules s t log
keeps_part true front rules s t log keeps = moved_part (record { node = refl; up = refl; down = refl; held = refl; step = refl; drives = refl }) (tells_part rules _ (record s { line = []; drops = true }) t log (refuses s.turn whys.LongLine) keeps)
keeps_part false front rules s t log keeps = still keeps.0 keeps.1 (record { node = refl; up = refl; down = refl; held = refl; step = refl; drives = refl })

fronts_part : (drops : Bool) (front : List ℕ) (rules : Rules) (s t : RunState) (log : List ℕ) → Fronts drops front s t log → Part IsAside rules s t log
fronts_part true front rules s t log fronts = still fronts.0 fronts.1 same_self
fronts_part false front rules s t log fronts = keeps_part (is_too_long front) front rules s t log fronts

ends_part : (drops : Bool) (line : List ℕ) (rules : Rules) (moment : ℤ) (s t : RunState) (log : List ℕ) → Ends drops line rules moment s t log → Part IsAside rules s t log
ends_part true line rules moment s t log ends = still ends.0 ends.1 (record { node = refl; up = refl; down = refl; held = refl; step = refl; drives = refl })
ends_part false line rules moment s t log ends = moved_part (record { node = refl; up = refl; down = refl; held = refl; step = refl; drives = refl }) (asked_part (panel_line_of (without_return line)) rules moment (record s { line = [] }) t log ends)

pub cut_part : (cut : Option (List ℕ × List ℕ)) (rules : Rules) (moment : ℤ) (s t : RunState) (log : List ℕ) → DoesCut cut rules moment s t log → Part IsAside rules s t log
cut_part None rules moment s t log does = moved_part (record { node = refl; up = refl; down = refl; held = refl; step = refl; drives = refl }) (fronts_part s.drops (s.line ++ s.rest) rules (record s { rest = [] }) t log does)
cut_part (Some parts) rules moment s t log does = moved_part (record { node = refl; up = refl; down = refl; held = refl; step = refl; drives = refl }) (ends_part s.drops (s.line ++ parts.0) rules moment (record s { rest = parts.1 }) t log does)

-- ---- messages of the supervisor

answer_part : (may : Result (Unit {0}) No) (rules : Rules) (moment : ℤ) (query : ℕ) (order : List ℕ) (s t : RunState) (log : List ℕ) → may_of s.node (inputs.Answer query order) ≡ may → AnswersIf may rules moment query order s t log → Part IsAside rules s t log
answer_part (Ok done) rules moment query order s t log may does = steps (inputs.Answer query order) tt (step_part false rules moment [] (inputs.Answer query order) s t log (λ told. refl) may does)
answer_part (Err why) rules moment query order s t log may does = still does.0 does.1 (record { node = refl; up = refl; down = refl; held = refl; step = refl; drives = refl })

action_part : (action : VerticalAction) (rules : Rules) (moment : ℤ) (s t : RunState) (log : List ℕ) → DoesAction action rules moment s t log → Part IsAside rules s t log
action_part actions.Describe rules moment s t log does =
    moved_part (record { node = refl; up = refl; down = refl; held = refl; step = refl; drives = refl })
    (takes_part (may_of s.node (inputs.Supervise true)) rules moment (inputs.Supervise true) (said moment (system_of rules.machine_id) s) (said moment (system_of rules.machine_id) s) t log tt (λ told. refl) refl same_self does)
action_part (actions.Pong id) rules moment s t log does = still does.0 does.1 (record { node = refl; up = refl; down = refl; held = refl; step = refl; drives = refl })
action_part (actions.Answer query order) rules moment s t log does = answer_part (may_of s.node (inputs.Answer query order)) rules moment query order s t log refl does
action_part actions.Nothing rules moment s t log does = still does.0 does.1 same_self

row_part : (row : Option SupervisedRow) (body : Vertical) (rules : Rules) (moment : ℤ) (s t : RunState) (log : List ℕ) → DoesRow row body rules moment s t log → Part IsAside rules s t log
row_part None body rules moment s t log does = unsupervised_part rules moment (broken_off moment (unexpected (kind_of body)) s) s t log (record { node = refl; up = refl; down = refl; held = refl; step = refl; drives = refl }) does
row_part (Some row) body rules moment s t log does = moved_part (record { node = refl; up = refl; down = refl; held = refl; step = refl; drives = refl }) (action_part row.action rules moment (with_stands row.after s) t log does)

word_part : (word : Word) (rules : Rules) (moment : ℤ) (s t : RunState) (log : List ℕ) → DoesWord word rules moment s t log → Part IsAside rules s t log
word_part (words.Says message) rules moment s t log does = row_part (supervised_row s.channel.stands message.body) message.body rules moment s t log does
word_part (words.Wrong text) rules moment s t log does = unsupervised_part rules moment (broken_off moment text s) s t log (record { node = refl; up = refl; down = refl; held = refl; step = refl; drives = refl }) does

found_part : (found : Found) (rules : Rules) (moment : ℤ) (s t : RunState) (log : List ℕ) → DoesFound found rules moment s t log → Part IsAside rules s t log
found_part (finds.Word word) rules moment s t log does = word_part word rules moment s t log does
found_part finds.More rules moment s t log does = still does.0 does.1 same_self
found_part finds.TooLong rules moment s t log does = unsupervised_part rules moment (broken_off moment (codes "message too long") s) s t log (record { node = refl; up = refl; down = refl; held = refl; step = refl; drives = refl }) does

pub hear_part : (rules : Rules) (moment : ℤ) (s t : RunState) (log : List ℕ) → DoesHear rules moment s t log → Part IsAside rules s t log
hear_part rules moment s t log does = moved_part (record { node = refl; up = refl; down = refl; held = refl; step = refl; drives = refl }) (found_part does.found rules moment (with_channel does.channel s) t log does.does)

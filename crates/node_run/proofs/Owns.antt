-- What a machine owns follows from its log.
use Rattle.std.proofs.Common.{◌≡◌, ◌∙◌, sym, subst, ap, refl, ℕ, ℤ, Bool, true, false, List, [], ◌++◌, ◌==◌, Option, None, Some, Result, Ok, Err, append-nil, codes}
use Rattle.node_core.proofs.Keeping.{own_append}
use Rattle.line_base.specs.declared.states.Side.{Side}
use Rattle.line_base.specs.declared.states.Side.TheVariants.{Entry, Exit}
use Rattle.board_record.specs.declared.sensed.Sensed.{Sensed}
use Rattle.line_outside.specs.Given.{Given}
use Rattle.line_outside.specs.declared.answer.GotBytes.{GotBytes}
use Rattle.line_outside.specs.declared.answer.GotBytes.TheVariants as founds
use Rattle.line_outside.specs.declared.ports.Opened.{Opened}
use Rattle.line_outside.specs.declared.ports.Opened.TheVariants as opens
use Rattle.line_outside.specs.declared.ports.Sent.{Sent}
use Rattle.line_outside.specs.declared.ports.Sent.TheVariants as sents
use Rattle.line_outside.specs.declared.way.Address.{Address}
use Rattle.line_outside.specs.declared.way.Way.{Way}
use Rattle.line_outside.specs.declared.way.Way.TheVariants as ways
use Rattle.hermes_vertical.specs.Parts.{kind_of}
use Rattle.hermes_vertical.specs.declared.message.Vertical.{Vertical}
use Rattle.supervisory_core.specs.Row.{SupervisedRow, supervised_row}
use Rattle.supervisory_core.specs.Told.{unexpected}
use Rattle.supervisory_core.specs.declared.action.VerticalAction.{VerticalAction}
use Rattle.supervisory_core.specs.declared.action.VerticalAction.TheVariants as actions
use Rattle.line_script.specs.declared.line.LineWhy.{LineWhy}
use Rattle.line_script.specs.declared.line.LineWhy.TheVariants as whys
use Rattle.line_report.specs.declared.happening.Reason.TheVariants as reasons
use Rattle.handover_out.specs.State as outlets
use Rattle.handover_in.specs.State as intakes
use Rattle.node_core.proofs.Lasting.{may_alone, owns_after as steps_own}
use Rattle.book_entry.specs.Given.{entry_of}
use Rattle.node_core.specs.May.{may_of, may_do}
use Rattle.node_core.specs.Node.{NodeState}
use Rattle.node_core.specs.Own.{own_of, own_after}
use Rattle.node_core.specs.Sides.{is_open}
use Rattle.node_core.specs.Step.{Steps}
use Rattle.node_core.specs.declared.act.Act.{Act}
use Rattle.node_core.specs.declared.input.Input.{Input}
use Rattle.node_core.specs.declared.input.Input.TheVariants as inputs
use Rattle.node_core.specs.declared.input.No.{No}
use Rattle.node_panel.specs.Panel.{panel_line_of}
use Rattle.node_panel.specs.declared.line.PanelLine.{PanelLine}
use Rattle.node_panel.specs.declared.line.PanelLine.TheVariants as lines
use Rattle.node_run.specs.declared.rules.Rules.{Rules}
use Rattle.node_run.specs.State.{RunState, WayValue, at_rest, one_more, way_at, with_way, with_wire}
use Rattle.node_run.specs.Next.{has_ended, moved_on}
use Rattle.supervised_end.specs.Channel.{no_session}
use Rattle.node_run.specs.Held.{Finding, nothing_held}
use Rattle.supervised_end.specs.Said.{system_of}
use Rattle.node_run.specs.Hearing.{AnswersIf, DoesAction, DoesFound, DoesHear, DoesRow, DoesWord, Unsupervised, broken_off, said, with_channel, with_stands}
use Rattle.supervised_end.specs.declared.channel.Found.{Found}
use Rattle.supervised_end.specs.declared.channel.Found.TheVariants as finds
use Rattle.supervised_end.specs.declared.channel.Word.{Word}
use Rattle.supervised_end.specs.declared.channel.Word.TheVariants as words
use Rattle.config_service.specs.Plans.{plan_of}
use Rattle.config_service.specs.declared.config.Plan.{Plan}
use Rattle.config_service.specs.declared.config.Plan.TheVariants as plans
use Rattle.config_service.specs.declared.message.Settings.{Settings}
use Rattle.node_run.specs.Configuring.{AfterTry, DoesConfigFound, DoesPlan, TriesIf, with_config}
use Rattle.node_run.specs.Resetting.{ResetsSide, leaving, reset_begun}
use Rattle.node_run.specs.declared.channel.ConfigFound.{ConfigFound}
use Rattle.node_run.specs.declared.channel.ConfigFound.TheVariants as configs
use Rattle.node_run.specs.declared.channel.ConfigWord.TheVariants as config_words
use Rattle.node_run.specs.Steps.{Takes, TakesStep, MeetsSecond}
use Rattle.node_run.specs.After.{after_listen, after_send, PanelArrives, AfterPanel, panel_second, panel_bytes, panel_closed, after_configuration, configuration_arrived, configuration_second, configuration_bytes, configuration_closed, configuration_gone, after_supervisory, supervisory_arrived, supervisory_second, supervisory_bytes, supervisory_closed, broken, looked, way_of, with_held, AfterUpstream, AfterDownstream, AfterPoll, AfterClose, TakesFinding, TakesFound, TakesHeld}
use Rattle.node_run.specs.Lines.{cut_line, without_return, is_too_long, Tells, DoesInput, AsksIf, AsksConnect, may_ask, DoesAsked, KeepsFront, Fronts, Ends, DoesCut}
use Rattle.node_run.proofs.Accounts.{own_read}
use Rattle.machine_log.specs.Account.{AreProper}
use Rattle.node_run.specs.Owning.{OwnIsRead, IsAnswer, refuses, denies, shows, greets, TellsActs, no_lines, step_lines, answer_lines, OwnFollows}
use Rattle.node_run.specs.Runs.{Moves, listens, connects, polls, sends, refuses as refuses_second, closes, skips, looks_again, takes_held, does_line, does_hear, does_config, tries_port, resets_side, Runs, begins, goes_on}
use Rattle.node_run.specs.Gone.{HearsGone, HearsIf, StepsIf, gone_at}
use Rattle.machine_log.specs.Texts.{lines_of}
use Rattle.node_run.specs.declared.way_state.Wire.{Wire}
use Rattle.node_run.specs.declared.way_state.Wire.TheVariants as wires

-- ---- what one move does: nothing to the machine, with lines that answer the panel or none; or one step

pub record Rests (s t : RunState) : Type 0 where
  pub node : t.node ≡ s.node
  pub step : t.step ≡ s.step

pub record StepMade (rules : Rules) (s t : RunState) (log : List ℕ) : Type 0 where
  pub turn : ℕ
  pub sensed : List Sensed
  pub input : Input
  pub moment : ℤ
  pub told : List Act
  pub may : may_of s.node input ≡ may_do
  pub made : Steps s.node sensed input moment t.node told
  pub proper : AreProper told
  pub lines : log ≡ lines_of rules.panel.drives turn rules.number told
  pub step : t.step ≡ one_more (entry_of sensed input moment) s.step

pub data Part (rules : Rules) (s t : RunState) (log : List ℕ) : Type 0 where
  quiet : log ≡ [] → Rests s t → Part rules s t log
  answers : IsAnswer rules log → Rests s t → Part rules s t log
  steps : StepMade rules s t log → Part rules s t log

rests_on : {s u t : RunState} → Rests u t → Rests s u → Rests s t
rests_on two one = record { node = two.node ∙ one.node; step = two.step ∙ one.step }

rests_is : {s u t : RunState} → t ≡ u → Rests s u → Rests s t
rests_is e one = record { node = ap (λ (r : RunState). r.node) e ∙ one.node; step = ap (λ (r : RunState). r.step) e ∙ one.step }

made_by : (rules : Rules) (moment : ℤ) (sensed : List Sensed) (input : Input) (from s t : RunState) (node : NodeState) (told : List Act) (log : List ℕ) → Rests s from → may_of s.node input ≡ may_do
    → Steps from.node sensed input moment node told → AreProper told → log ≡ lines_of rules.panel.drives from.turn rules.number told → t.node ≡ node → t.step ≡ one_more (entry_of sensed input moment) from.step → Part rules s t log
made_by rules moment sensed input from s t node told log same may made proper lines node_is step_is =
    let P : NodeState → Type 0 = λ n. Steps n sensed input moment node told in
    let Q : NodeState → Type 0 = λ n. Steps s.node sensed input moment n told in
    steps (record {
      turn = from.turn;
      sensed = sensed;
      input = input;
      moment = moment;
      told = told;
      may = may;
      made = subst Q (sym node_is) (subst P same.node made);
      proper = proper;
      lines = lines;
      step = step_is ∙ ap (one_more (entry_of sensed input moment)) same.step;
    })

step_part : (asked : Bool) (rules : Rules) (moment : ℤ) (sensed : List Sensed) (input : Input) (from s t : RunState) (log : List ℕ)
    → Rests s from → may_of s.node input ≡ may_do → TakesStep asked rules moment sensed input from t log → Part rules s t log
step_part asked rules moment sensed input from s t log same may takes =
    made_by rules moment sensed input from s t takes.node takes.told log same may takes.steps takes.proper takes.lines (ap (λ (r : RunState). r.node) takes.after) (ap (λ (r : RunState). r.step) takes.after)

takes_part : (may : Result (Unit {0}) No) (rules : Rules) (moment : ℤ) (input : Input) (from s t : RunState) (log : List ℕ) → Rests s from → may_of s.node input ≡ may → Takes may rules moment input from s t log → Part rules s t log
takes_part (Ok done) rules moment input from s t log same may takes = step_part false rules moment [] input from s t log same may takes
takes_part (Err why) rules moment input from s t log same may takes = quiet takes.1 (rests_is takes.0 (record { node = refl; step = refl }))

-- a closed way takes its step from what the close left
closed_part : (may : Result (Unit {0}) No) (rules : Rules) (moment : ℤ) (input : Input) (closed s t : RunState) (log : List ℕ) → Rests s closed → may_of s.node input ≡ may → Takes may rules moment input closed closed t log → Part rules s t log
closed_part (Ok done) rules moment input closed s t log same may takes = step_part false rules moment [] input closed s t log same may takes
closed_part (Err why) rules moment input closed s t log same may takes = quiet takes.1 (rests_is takes.0 same)

second_part : (may : Result (Unit {0}) No) (rules : Rules) (moment : ℤ) (input : Input) (s t : RunState) (log : List ℕ) → may_of s.node input ≡ may → MeetsSecond may rules moment input s t log → Part rules s t log
second_part (Ok done) rules moment input s t log may meets =
    made_by rules moment [] input s s t meets.node meets.told log (record { node = refl; step = refl }) may meets.steps meets.proper meets.lines (ap (λ (r : RunState). r.node) meets.after) (ap (λ (r : RunState). r.step) meets.after)
second_part (Err why) rules moment input s t log may meets = quiet meets.1 (rests_is meets.0 (record { node = refl; step = refl }))

still : (rules : Rules) (s u t : RunState) (log : List ℕ) → t ≡ u → log ≡ [] → Rests s u → Part rules s t log
still rules s u t log e none same = quiet none (rests_is e same)

tells_part : (rules : Rules) (text : List ℕ) (s t : RunState) (log : List ℕ) → IsAnswer rules text → Tells text s t log → Part rules s t log
tells_part rules text s t log answer tells = answers (subst (IsAnswer rules) (sym tells.1) answer) (rests_is tells.0 (record { node = refl; step = refl }))

-- a part from a state with the same machine
moved_part : (rules : Rules) (from s t : RunState) (log : List ℕ) → Rests s from → Part rules from t log → Part rules s t log
moved_part rules from s t log same (quiet none rests) = quiet none (rests_on rests same)
moved_part rules from s t log same (answers answer rests) = answers answer (rests_on rests same)
moved_part rules from s t log same (steps m) = steps (record {
  turn = m.turn;
  sensed = m.sensed;
  input = m.input;
  moment = m.moment;
  told = m.told;
  may = ap (λ (n : NodeState). may_of n m.input) (sym same.node) ∙ m.may;
  made = (let P : NodeState → Type 0 = λ n. Steps n m.sensed m.input m.moment t.node m.told in subst P same.node m.made);
  proper = m.proper;
  lines = m.lines;
  step = m.step ∙ ap (one_more (entry_of m.sensed m.input m.moment)) same.step;
})

-- ---- polls

way_node : (way : Way) (value : WayValue) (s : RunState) → Rests s (with_way way value s)
way_node ways.Panel value s = record { node = refl; step = refl }
way_node ways.Upstream value s = record { node = refl; step = refl }
way_node ways.Downstream value s = record { node = refl; step = refl }
way_node ways.Supervisory value s = record { node = refl; step = refl }
way_node ways.Configuration value s = record { node = refl; step = refl }

second_node : (wire : Wire) (s : RunState) → Rests s (panel_second wire s)
second_node wires.Rests s = record { node = refl; step = refl }
second_node wires.Stands s = record { node = refl; step = refl }
second_node wires.Ends s = record { node = refl; step = refl }
second_node wires.Breaks s = record { node = refl; step = refl }

bytes_node : (wire : Wire) (bytes : List ℕ) (s : RunState) → Rests s (panel_bytes wire bytes s)
bytes_node wires.Rests bytes s = record { node = refl; step = refl }
bytes_node wires.Stands bytes s = record { node = refl; step = refl }
bytes_node wires.Ends bytes s = record { node = refl; step = refl }
bytes_node wires.Breaks bytes s = record { node = refl; step = refl }

closed_node : (wire : Wire) (s : RunState) → Rests s (panel_closed wire s)
closed_node wires.Rests s = record { node = refl; step = refl }
closed_node wires.Stands s = record { node = refl; step = refl }
closed_node wires.Ends s = record { node = refl; step = refl }
closed_node wires.Breaks s = record { node = refl; step = refl }

supervisory_arrived_node : (wire : Wire) (s : RunState) → Rests s (supervisory_arrived wire s)
supervisory_arrived_node wires.Rests s = record { node = refl; step = refl }
supervisory_arrived_node wires.Stands s = record { node = refl; step = refl }
supervisory_arrived_node wires.Ends s = record { node = refl; step = refl }
supervisory_arrived_node wires.Breaks s = record { node = refl; step = refl }

supervisory_second_node : (wire : Wire) (moment : ℤ) (s : RunState) → Rests s (supervisory_second wire moment s)
supervisory_second_node wires.Rests moment s = record { node = refl; step = refl }
supervisory_second_node wires.Stands moment s = record { node = refl; step = refl }
supervisory_second_node wires.Ends moment s = record { node = refl; step = refl }
supervisory_second_node wires.Breaks moment s = record { node = refl; step = refl }

supervisory_bytes_node : (wire : Wire) (bytes : List ℕ) (s : RunState) → Rests s (supervisory_bytes wire bytes s)
supervisory_bytes_node wires.Rests bytes s = record { node = refl; step = refl }
supervisory_bytes_node wires.Stands bytes s = record { node = refl; step = refl }
supervisory_bytes_node wires.Ends bytes s = record { node = refl; step = refl }
supervisory_bytes_node wires.Breaks bytes s = record { node = refl; step = refl }

supervisory_closed_node : (wire : Wire) (s : RunState) → Rests s (supervisory_closed wire s)
supervisory_closed_node wires.Rests s = record { node = refl; step = refl }
supervisory_closed_node wires.Stands s = record { node = refl; step = refl }
supervisory_closed_node wires.Ends s = record { node = refl; step = refl }
supervisory_closed_node wires.Breaks s = record { node = refl; step = refl }

supervisory_node : (moment : ℤ) (got : GotBytes) (s : RunState) → Rests s (after_supervisory moment got s)
supervisory_node moment founds.Arrived s = supervisory_arrived_node s.supervisory.wire s
supervisory_node moment founds.Second s = supervisory_second_node s.supervisory.wire moment s
supervisory_node moment (founds.Bytes bytes) s = supervisory_bytes_node s.supervisory.wire bytes s
supervisory_node moment founds.NotYet s = record { node = refl; step = refl }
supervisory_node moment founds.Closed s = supervisory_closed_node s.supervisory.wire s
supervisory_node moment founds.Failed s = supervisory_closed_node s.supervisory.wire s

configuration_arrived_node : (wire : Wire) (s : RunState) → Rests s (configuration_arrived wire s)
configuration_arrived_node wires.Rests s = record { node = refl; step = refl }
configuration_arrived_node wires.Stands s = record { node = refl; step = refl }
configuration_arrived_node wires.Ends s = record { node = refl; step = refl }
configuration_arrived_node wires.Breaks s = record { node = refl; step = refl }

configuration_second_node : (wire : Wire) (moment : ℤ) (s : RunState) → Rests s (configuration_second wire moment s)
configuration_second_node wires.Rests moment s = record { node = refl; step = refl }
configuration_second_node wires.Stands moment s = record { node = refl; step = refl }
configuration_second_node wires.Ends moment s = record { node = refl; step = refl }
configuration_second_node wires.Breaks moment s = record { node = refl; step = refl }

configuration_bytes_node : (wire : Wire) (bytes : List ℕ) (s : RunState) → Rests s (configuration_bytes wire bytes s)
configuration_bytes_node wires.Rests bytes s = record { node = refl; step = refl }
configuration_bytes_node wires.Stands bytes s = record { node = refl; step = refl }
configuration_bytes_node wires.Ends bytes s = record { node = refl; step = refl }
configuration_bytes_node wires.Breaks bytes s = record { node = refl; step = refl }

configuration_closed_node : (wire : Wire) (s : RunState) → Rests s (configuration_closed wire s)
configuration_closed_node wires.Rests s = record { node = refl; step = refl }
configuration_closed_node wires.Stands s = record { node = refl; step = refl }
configuration_closed_node wires.Ends s = record { node = refl; step = refl }
configuration_closed_node wires.Breaks s = record { node = refl; step = refl }

configuration_node : (moment : ℤ) (got : GotBytes) (s : RunState) → Rests s (after_configuration moment got s)
configuration_node moment founds.Arrived s = configuration_arrived_node s.configuration.wire s
configuration_node moment founds.Second s = configuration_second_node s.configuration.wire moment s
configuration_node moment (founds.Bytes bytes) s = configuration_bytes_node s.configuration.wire bytes s
configuration_node moment founds.NotYet s = record { node = refl; step = refl }
configuration_node moment founds.Closed s = configuration_closed_node s.configuration.wire s
configuration_node moment founds.Failed s = configuration_closed_node s.configuration.wire s

upstream_part : (rules : Rules) (moment : ℤ) (got : GotBytes) (s t : RunState) (log : List ℕ) → AfterUpstream rules moment got s t log → Part rules s t log
upstream_part rules moment founds.Arrived s t log after = takes_part (may_of s.node inputs.Connect) rules moment inputs.Connect (with_wire ways.Upstream wires.Stands s) s t log (record { node = refl; step = refl }) refl after
upstream_part rules moment founds.Second s t log after = still rules s s t log after.0 after.1 (record { node = refl; step = refl })
upstream_part rules moment (founds.Bytes bytes) s t log after = still rules s _ t log after.0 after.1 (record { node = refl; step = refl })
upstream_part rules moment founds.NotYet s t log after = still rules s s t log after.0 after.1 (record { node = refl; step = refl })
upstream_part rules moment founds.Closed s t log after = still rules s _ t log after.0 after.1 (record { node = refl; step = refl })
upstream_part rules moment founds.Failed s t log after = still rules s _ t log after.0 after.1 (record { node = refl; step = refl })

downstream_part : (rules : Rules) (moment : ℤ) (got : GotBytes) (s t : RunState) (log : List ℕ) → AfterDownstream rules moment got s t log → Part rules s t log
downstream_part rules moment founds.Arrived s t log after = takes_part (may_of s.node inputs.Accepted) rules moment inputs.Accepted (with_wire ways.Downstream wires.Stands s) s t log (record { node = refl; step = refl }) refl after
downstream_part rules moment founds.Second s t log after = second_part (may_of s.node inputs.Second) rules moment inputs.Second s t log refl after
downstream_part rules moment (founds.Bytes bytes) s t log after = still rules s _ t log after.0 after.1 (record { node = refl; step = refl })
downstream_part rules moment founds.NotYet s t log after = still rules s s t log after.0 after.1 (record { node = refl; step = refl })
downstream_part rules moment founds.Closed s t log after = still rules s _ t log after.0 after.1 (record { node = refl; step = refl })
downstream_part rules moment founds.Failed s t log after = still rules s _ t log after.0 after.1 (record { node = refl; step = refl })

arrived_part : (wire : Wire) (rules : Rules) (s t : RunState) (log : List ℕ) → PanelArrives wire rules s t log → Part rules s t log
arrived_part wires.Rests rules s t log arrives = moved_part rules (with_wire ways.Panel wires.Stands s) s t log (record { node = refl; step = refl }) (tells_part rules _ (with_wire ways.Panel wires.Stands s) t log (greets s.turn s.drives) arrives)
arrived_part wires.Stands rules s t log arrives = still rules s s t log arrives.0 arrives.1 (record { node = refl; step = refl })
arrived_part wires.Ends rules s t log arrives = still rules s s t log arrives.0 arrives.1 (record { node = refl; step = refl })
arrived_part wires.Breaks rules s t log arrives = still rules s s t log arrives.0 arrives.1 (record { node = refl; step = refl })

panel_part : (rules : Rules) (got : GotBytes) (s t : RunState) (log : List ℕ) → AfterPanel rules got s t log → Part rules s t log
panel_part rules founds.Arrived s t log after = arrived_part s.panel.wire rules s t log after
panel_part rules founds.Second s t log after = still rules s _ t log after.0 after.1 (second_node s.panel.wire s)
panel_part rules (founds.Bytes bytes) s t log after = still rules s _ t log after.0 after.1 (bytes_node s.panel.wire bytes s)
panel_part rules founds.NotYet s t log after = still rules s s t log after.0 after.1 (record { node = refl; step = refl })
panel_part rules founds.Closed s t log after = still rules s _ t log after.0 after.1 (closed_node s.panel.wire s)
panel_part rules founds.Failed s t log after = still rules s _ t log after.0 after.1 (closed_node s.panel.wire s)

poll_part : (rules : Rules) (moment : ℤ) (way : Way) (got : GotBytes) (s t : RunState) (log : List ℕ) → AfterPoll rules moment way got s t log → Part rules s t log
poll_part rules moment ways.Panel got s t log after = panel_part rules got s t log after
poll_part rules moment ways.Upstream got s t log after = upstream_part rules moment got s t log after
poll_part rules moment ways.Downstream got s t log after = downstream_part rules moment got s t log after
poll_part rules moment ways.Supervisory got s t log after = still rules s _ t log after.0 after.1 (supervisory_node moment got s)
poll_part rules moment ways.Configuration got s t log after = still rules s _ t log after.0 after.1 (configuration_node moment got s)

-- ---- what was found of a neighbour

broken_node : (way : Way) (test : Bool) (s : RunState) → Rests s (broken way test s)
broken_node way true s = way_node way (record (way_at way s) { wire = wires.Breaks }) s
broken_node way false s = record { node = refl; step = refl }

found_by : (bytes : Option (List ℕ)) (side : Side) (rules : Rules) (moment : ℤ) (s t : RunState) (log : List ℕ) → TakesFound bytes side rules moment s t log → Part rules s t log
found_by (Some bytes) side rules moment s t log takes = takes_part (may_of s.node (inputs.Bytes side takes.piece)) rules moment (inputs.Bytes side takes.piece) s s t log (record { node = refl; step = refl }) refl takes.takes
found_by None side rules moment s t log takes = still rules s _ t log takes.0 takes.1 (broken_node (way_of side) (is_open side s.node.lane.body) s)

finding_part : (finding : Option Finding) (rules : Rules) (moment : ℤ) (s t : RunState) (log : List ℕ) → TakesFinding finding rules moment s t log → Part rules s t log
finding_part None rules moment s t log takes = still rules s s t log takes.0 takes.1 (record { node = refl; step = refl })
finding_part (Some finding) rules moment s t log takes = found_by finding.bytes finding.side rules moment s t log takes

held_part : (rules : Rules) (moment : ℤ) (s t : RunState) (log : List ℕ) → TakesHeld rules moment s t log → Part rules s t log
held_part rules moment s t log takes = moved_part rules (with_held nothing_held s) s t log (record { node = refl; step = refl }) (finding_part s.held.finding rules moment (with_held nothing_held s) t log takes)

-- ---- sends and closes

sent_node : (way : Way) (sent : Sent) (s : RunState) → Rests s (after_send way sent s)
sent_node way (sents.Took n) s = way_node way _ s
sent_node way sents.NotYet s = record { node = refl; step = refl }
sent_node way sents.Closed s = way_node way _ s
sent_node way sents.Failed s = way_node way _ s

listened_node : (address : Address) (opened : Opened) (s : RunState) → Rests s (after_listen address opened s)
listened_node address opens.Done s = record { node = refl; step = refl }
listened_node address opens.Failed s = record { node = refl; step = refl }

-- a machine that is supervised no more
unsupervised_part : (rules : Rules) (moment : ℤ) (closed s t : RunState) (log : List ℕ) → Rests s closed → Unsupervised rules moment closed t log → Part rules s t log
unsupervised_part rules moment closed s t log same after =
    closed_part (may_of closed.node (inputs.Supervise false)) rules moment (inputs.Supervise false) closed s t log same (ap (λ n. may_of n (inputs.Supervise false)) (sym same.node)) after

close_part : (rules : Rules) (moment : ℤ) (way : Way) (s t : RunState) (log : List ℕ) → AfterClose rules moment way s t log → Part rules s t log
close_part rules moment ways.Panel s t log after = still rules s _ t log after.0 after.1 (record { node = refl; step = refl })
close_part rules moment ways.Upstream s t log after = closed_part (may_of s.node (inputs.Notice Entry)) rules moment (inputs.Notice Entry) (record s { upstream = at_rest }) s t log (record { node = refl; step = refl }) refl after
close_part rules moment ways.Downstream s t log after = closed_part (may_of s.node (inputs.Notice Exit)) rules moment (inputs.Notice Exit) (record s { downstream = at_rest }) s t log (record { node = refl; step = refl }) refl after
close_part rules moment ways.Supervisory s t log after = unsupervised_part rules moment (record s { supervisory = at_rest; channel = no_session }) s t log (record { node = refl; step = refl }) after
close_part rules moment ways.Configuration s t log after = still rules s _ t log after.0 after.1 (record { node = refl; step = refl })

-- ---- lines

input_part : (may : Result (Unit {0}) No) (rules : Rules) (moment : ℤ) (sensed : List Sensed) (input : Input) (s t : RunState) (log : List ℕ) → may_of s.node input ≡ may → DoesInput may rules moment sensed input s t log → Part rules s t log
input_part (Ok done) rules moment sensed input s t log may does = step_part true rules moment sensed input s s t log (record { node = refl; step = refl }) may does
input_part (Err why) rules moment sensed input s t log may does = tells_part rules _ s t log (denies s.turn (reasons.Node why)) does

asks_part : (may : Result (Unit {0}) No) (rules : Rules) (s t : RunState) (log : List ℕ) → AsksIf may s t log → Part rules s t log
asks_part (Ok done) rules s t log asks = still rules s _ t log asks.0 asks.1 (record { node = refl; step = refl })
asks_part (Err why) rules s t log asks = tells_part rules _ s t log (denies s.turn (reasons.Node why)) asks

connect_part : (upstream : Option Address) (rules : Rules) (s t : RunState) (log : List ℕ) → AsksConnect upstream s t log → Part rules s t log
connect_part None rules s t log asks = tells_part rules _ s t log (denies s.turn reasons.NoNeighbour) asks
connect_part (Some address) rules s t log asks = asks_part (may_ask (has_ended s.upstream.wire) (may_of s.node inputs.Connect)) rules s t log asks

asked_part : (asked : Result PanelLine LineWhy) (rules : Rules) (moment : ℤ) (s t : RunState) (log : List ℕ) → DoesAsked asked rules moment s t log → Part rules s t log
asked_part (Err why) rules moment s t log does = tells_part rules _ s t log (refuses s.turn why) does
asked_part (Ok lines.Blank) rules moment s t log does = still rules s s t log does.0 does.1 (record { node = refl; step = refl })
asked_part (Ok lines.End) rules moment s t log does = still rules s _ t log does.0 does.1 (record { node = refl; step = refl })
asked_part (Ok lines.Show) rules moment s t log does = tells_part rules _ s t log (shows s.turn s.node.lane.body.kept (outlets.held s.node.lane.body.outlet) (intakes.held s.node.lane.body.intake)) does
asked_part (Ok lines.Connect) rules moment s t log does = connect_part s.settings.upstream rules s t log does
asked_part (Ok (lines.Insert barcode)) rules moment s t log does = input_part (may_of s.node (inputs.Insert barcode)) rules moment _ (inputs.Insert barcode) s t log refl does
asked_part (Ok (lines.Remove id)) rules moment s t log does = input_part (may_of s.node (inputs.Remove id)) rules moment _ (inputs.Remove id) s t log refl does
asked_part (Ok (lines.Replace id)) rules moment s t log does = input_part (may_of s.node (inputs.Replace id)) rules moment _ (inputs.Replace id) s t log refl does
asked_part (Ok (lines.Mark id quality)) rules moment s t log does = input_part (may_of s.node (inputs.Mark id quality)) rules moment _ (inputs.Mark id quality) s t log refl does
asked_part (Ok (lines.Sub id place barcode)) rules moment s t log does = input_part (may_of s.node (inputs.Sub id place barcode)) rules moment _ (inputs.Sub id place barcode) s t log refl does
asked_part (Ok (lines.Hold side)) rules moment s t log does = input_part (may_of s.node (inputs.Will side false)) rules moment _ (inputs.Will side false) s t log refl does
asked_part (Ok (lines.Go side)) rules moment s t log does = input_part (may_of s.node (inputs.Will side true)) rules moment _ (inputs.Will side true) s t log refl does
asked_part (Ok lines.Shutdown) rules moment s t log does = input_part (may_of s.node inputs.Shutdown) rules moment _ inputs.Shutdown s t log refl does
asked_part (Ok lines.Tick) rules moment s t log does = input_part (may_of s.node inputs.Tick) rules moment _ inputs.Tick s t log refl does
asked_part (Ok (lines.Fault side)) rules moment s t log does = input_part (may_of s.node (inputs.Fault side)) rules moment _ (inputs.Fault side) s t log refl does
asked_part (Ok (lines.Signal line on)) rules moment s t log does =
    input_part (may_of s.node (inputs.Level line on)) rules moment _ (inputs.Level line on) s t log refl does
asked_part (Ok lines.Forecast) rules moment s t log does =
    input_part (may_of s.node inputs.Forecast) rules moment _ inputs.Forecast s t log refl does
asked_part (Ok (lines.Query barcode)) rules moment s t log does =
    input_part (may_of s.node (inputs.Query barcode)) rules moment _ (inputs.Query barcode) s t log refl does
asked_part (Ok (lines.Ask question)) rules moment s t log does =
    input_part (may_of s.node (inputs.Ask question)) rules moment _ (inputs.Ask question) s t log refl does
asked_part (Ok (lines.Sense sensed)) rules moment s t log does = input_part (may_of s.node inputs.Nothing) rules moment _ inputs.Nothing s t log refl does

keeps_part : (long : Bool) (front : List ℕ) (rules : Rules) (s t : RunState) (log : List ℕ) → KeepsFront long front s t log → Part rules s t log
keeps_part true front rules s t log keeps = moved_part rules (record s { line = []; drops = true }) s t log (record { node = refl; step = refl }) (tells_part rules _ (record s { line = []; drops = true }) t log (refuses s.turn whys.LongLine) keeps)
keeps_part false front rules s t log keeps = still rules s _ t log keeps.0 keeps.1 (record { node = refl; step = refl })

fronts_part : (drops : Bool) (front : List ℕ) (rules : Rules) (s t : RunState) (log : List ℕ) → Fronts drops front s t log → Part rules s t log
fronts_part true front rules s t log fronts = still rules s s t log fronts.0 fronts.1 (record { node = refl; step = refl })
fronts_part false front rules s t log fronts = keeps_part (is_too_long front) front rules s t log fronts

ends_part : (drops : Bool) (line : List ℕ) (rules : Rules) (moment : ℤ) (s t : RunState) (log : List ℕ) → Ends drops line rules moment s t log → Part rules s t log
ends_part true line rules moment s t log ends = still rules s _ t log ends.0 ends.1 (record { node = refl; step = refl })
ends_part false line rules moment s t log ends = moved_part rules (record s { line = [] }) s t log (record { node = refl; step = refl }) (asked_part (panel_line_of (without_return line)) rules moment (record s { line = [] }) t log ends)

cut_part : (cut : Option (List ℕ × List ℕ)) (rules : Rules) (moment : ℤ) (s t : RunState) (log : List ℕ) → DoesCut cut rules moment s t log → Part rules s t log
cut_part None rules moment s t log does = moved_part rules (record s { rest = [] }) s t log (record { node = refl; step = refl }) (fronts_part s.drops (s.line ++ s.rest) rules (record s { rest = [] }) t log does)
cut_part (Some parts) rules moment s t log does = moved_part rules (record s { rest = parts.1 }) s t log (record { node = refl; step = refl }) (ends_part s.drops (s.line ++ parts.0) rules moment (record s { rest = parts.1 }) t log does)

-- ---- messages of the supervisor

answer_part : (may : Result (Unit {0}) No) (rules : Rules) (moment : ℤ) (query : ℕ) (order : List ℕ) (s t : RunState) (log : List ℕ) → may_of s.node (inputs.Answer query order) ≡ may
    → AnswersIf may rules moment query order s t log → Part rules s t log
answer_part (Ok done) rules moment query order s t log may does = step_part false rules moment [] (inputs.Answer query order) s s t log (record { node = refl; step = refl }) may does
answer_part (Err why) rules moment query order s t log may does = still rules s _ t log does.0 does.1 (record { node = refl; step = refl })

action_part : (action : VerticalAction) (rules : Rules) (moment : ℤ) (s t : RunState) (log : List ℕ) → DoesAction action rules moment s t log → Part rules s t log
action_part actions.Describe rules moment s t log does =
    closed_part (may_of s.node (inputs.Supervise true)) rules moment (inputs.Supervise true) (said moment (system_of rules.machine_id) s) s t log (record { node = refl; step = refl }) refl does
action_part (actions.Pong id) rules moment s t log does = still rules s _ t log does.0 does.1 (record { node = refl; step = refl })
action_part (actions.Answer query order) rules moment s t log does = answer_part (may_of s.node (inputs.Answer query order)) rules moment query order s t log refl does
action_part actions.Nothing rules moment s t log does = still rules s s t log does.0 does.1 (record { node = refl; step = refl })

row_part : (row : Option SupervisedRow) (body : Vertical) (rules : Rules) (moment : ℤ) (s t : RunState) (log : List ℕ) → DoesRow row body rules moment s t log → Part rules s t log
row_part None body rules moment s t log does = unsupervised_part rules moment (broken_off moment (unexpected (kind_of body)) s) s t log (record { node = refl; step = refl }) does
row_part (Some row) body rules moment s t log does = moved_part rules (with_stands row.after s) s t log (record { node = refl; step = refl }) (action_part row.action rules moment (with_stands row.after s) t log does)

word_part : (word : Word) (rules : Rules) (moment : ℤ) (s t : RunState) (log : List ℕ) → DoesWord word rules moment s t log → Part rules s t log
word_part (words.Says message) rules moment s t log does = row_part (supervised_row s.channel.stands message.body) message.body rules moment s t log does
word_part (words.Wrong text) rules moment s t log does = unsupervised_part rules moment (broken_off moment text s) s t log (record { node = refl; step = refl }) does

found_part : (found : Found) (rules : Rules) (moment : ℤ) (s t : RunState) (log : List ℕ) → DoesFound found rules moment s t log → Part rules s t log
found_part (finds.Word word) rules moment s t log does = word_part word rules moment s t log does
found_part finds.More rules moment s t log does = still rules s s t log does.0 does.1 (record { node = refl; step = refl })
found_part finds.TooLong rules moment s t log does = unsupervised_part rules moment (broken_off moment (codes "message too long") s) s t log (record { node = refl; step = refl }) does

hear_part : (rules : Rules) (moment : ℤ) (s t : RunState) (log : List ℕ) → DoesHear rules moment s t log → Part rules s t log
hear_part rules moment s t log does =
    moved_part rules (with_channel does.channel s) s t log (record { node = refl; step = refl }) (found_part does.found rules moment (with_channel does.channel s) t log does.does)

-- ---- messages of the configuration service, and the reset of a side

triesif_node : (same : Bool) (moment : ℤ) (settings : Settings) (s t : RunState) → TriesIf same moment settings s t → Rests s t
triesif_node true moment settings s t does = rests_is does.after (record { node = refl; step = refl })
triesif_node false moment settings s t does = rests_is does (record { node = refl; step = refl })

plan_node : (plan : Plan) (moment : ℤ) (s t : RunState) → DoesPlan plan moment s t → Rests s t
plan_node plans.Tell moment s t does = rests_is does (record { node = refl; step = refl })
plan_node (plans.Try settings) moment s t does = triesif_node (settings.port == s.settings.port) moment settings s t does
plan_node plans.Nothing moment s t does = rests_is does (record { node = refl; step = refl })
plan_node plans.Breach moment s t does = rests_is does (record { node = refl; step = refl })

config_node : (found : ConfigFound) (moment : ℤ) (s t : RunState) → DoesConfigFound found moment s t → Rests s t
config_node (configs.Word (config_words.Says message)) moment s t does = plan_node (plan_of message.body) moment s t does
config_node (configs.Word (config_words.Wrong text)) moment s t does = rests_is does (record { node = refl; step = refl })
config_node configs.More moment s t does = rests_is does (record { node = refl; step = refl })
config_node configs.TooLong moment s t does = rests_is does (record { node = refl; step = refl })

tried_node : (opened : Opened) (moment : ℤ) (settings : Settings) (s t : RunState) → AfterTry opened moment settings s t → Rests s t
tried_node opens.Done moment settings s t after = rests_is after.after (record { node = refl; step = refl })
tried_node opens.Failed moment settings s t after = rests_is after (record { node = refl; step = refl })

reset_part : (side : Side) (rules : Rules) (moment : ℤ) (s t : RunState) (log : List ℕ) → ResetsSide rules moment side s t log → Part rules s t log
reset_part Entry rules moment s t log resets =
    moved_part rules (reset_begun Entry s) s t log (record { node = refl; step = refl }) (takes_part (may_of s.node (inputs.Notice Entry)) rules moment (inputs.Notice Entry) (leaving moment Entry (reset_begun Entry s)) (reset_begun Entry s) t log (record { node = refl; step = refl }) refl resets)
reset_part Exit rules moment s t log resets =
    moved_part rules (reset_begun Exit s) s t log (record { node = refl; step = refl }) (takes_part (may_of s.node (inputs.Notice Exit)) rules moment (inputs.Notice Exit) (leaving moment Exit (reset_begun Exit s)) (reset_begun Exit s) t log (record { node = refl; step = refl }) refl resets)

gone_part : (may : Result (Unit {0}) No) (rules : Rules) (moment : ℤ) (input : Input) (s t : RunState) (log : List ℕ) → may_of s.node input ≡ may → StepsIf may rules moment input s t log → Part rules s t log
gone_part (Ok done) rules moment input s t log may takes =
    made_by rules moment [] input s s t takes.node takes.told log (record { node = refl; step = refl }) may takes.steps takes.proper takes.lines (ap (λ (r : RunState). r.node) takes.after) (ap (λ (r : RunState). r.step) takes.after)
gone_part (Err why) rules moment input s t log may takes = quiet takes.1 (rests_is takes.0 (record { node = refl; step = refl }))

hears_by : (gone : Option Input) (rules : Rules) (moment : ℤ) (s t : RunState) (log : List ℕ) → HearsIf gone rules moment s t log → Part rules s t log
hears_by None rules moment s t log hears = quiet hears.1 (rests_is hears.0 (record { node = refl; step = refl }))
hears_by (Some input) rules moment s t log hears = gone_part (may_of s.node input) rules moment input s t log refl hears

pub hears_part : (rules : Rules) (moment : ℤ) (s t : RunState) (log : List ℕ) → HearsGone rules moment s t log → Part rules s t log
hears_part rules moment s t log hears = moved_part rules (moved_on s) s t log (record { node = refl; step = refl }) (hears_by (gone_at s.place) rules moment (moved_on s) t log hears)

-- ---- moves and runs

pub move_part : (rules : Rules) (moment : ℤ) {s t : RunState} {calls : List Given} {log : List ℕ} → Moves rules moment s calls t log → Part rules s t log
move_part rules moment (listens {s} {way} {address} {opened} next) = quiet refl (listened_node address opened s)
move_part rules moment (connects {s} {address} {opened} next) = quiet refl (record { node = refl; step = refl })
move_part rules moment (polls {s} {t} {way} {got} {log} next done) = moved_part rules (moved_on s) s t log (record { node = refl; step = refl }) (poll_part rules moment way got (moved_on s) t log done)
move_part rules moment (sends {s} {way} {sent} next) = quiet refl (rests_on (sent_node way sent (moved_on s)) (record { node = refl; step = refl }))
move_part rules moment (refuses_second {s} {refusal} {sent} next e) = quiet refl (record { node = refl; step = refl })
move_part rules moment (closes {s} {t} {way} {log} next done) = close_part rules moment way s t log done
move_part rules moment (skips {s} next) = quiet refl (record { node = refl; step = refl })
move_part rules moment (looks_again {s} {t} {got} {log} next done) = moved_part rules (looked got s) s t log (record { node = refl; step = refl }) (panel_part rules got (looked got s) t log done)
move_part rules moment (takes_held {s} {t} {log} next done) = held_part rules moment s t log done
move_part rules moment (does_line {s} {t} {log} next done) = cut_part (cut_line s.rest) rules moment s t log done
move_part rules moment (does_hear {s} {t} {log} next done) = hear_part rules moment s t log done
move_part rules moment (does_config {s} {t} {log} next done none) =
    quiet none (rests_on (config_node done.found moment (with_config done.config s) t done.does) (record { node = refl; step = refl }))
move_part rules moment (tries_port {s} {t} {settings} {opened} {log} next done none) = quiet none (tried_node opened moment settings s t done)
move_part rules moment (resets_side {s} {t} {side} {log} next done) = reset_part side rules moment s t log done

follows_on : (rules : Rules) (s t u : RunState) (log lines : List ℕ) → OwnFollows rules s t log → Part rules t u lines → OwnFollows rules s u (log ++ lines)
follows_on rules s t u log lines follows (quiet none rests) =
    let P : List ℕ → Type 0 = λ text. TellsActs rules text follows.told in
    record { told = follows.told; tells = subst P (sym (ap (λ l. log ++ l) none ∙ append-nil log)) follows.tells; owns = ap (λ (n : NodeState). own_of n.lane.body) rests.node ∙ follows.owns }
follows_on rules s t u log lines follows (answers answer rests) =
    record { told = follows.told; tells = answer_lines follows.tells answer; owns = ap (λ (n : NodeState). own_of n.lane.body) rests.node ∙ follows.owns }
follows_on rules s t u log lines follows (steps m) =
    let P : List ℕ → Type 0 = λ l. TellsActs rules (log ++ l) (follows.told ++ m.told) in
    record {
      told = follows.told ++ m.told;
      tells = subst P (sym m.lines) (step_lines m.turn m.told m.proper follows.tells);
      owns =
          steps_own t.node u.node m.sensed m.input m.moment m.told (may_alone t.node m.input m.may) m.made
          ∙ ap (λ o. own_after o m.told) follows.owns
          ∙ sym (own_append (own_of s.node.lane.body) follows.told m.told);
    }

owns_in : (rules : Rules) {s t : RunState} {moments : List ℤ} {calls : List Given} {log : List ℕ} → Runs rules s moments calls t log → OwnFollows rules s t log
owns_in rules (begins {s}) = record { told = []; tells = no_lines; owns = refl }
owns_in rules (goes_on {s} {t} {u} {moments} {moment} {calls} {more} {log} {lines} run move) = follows_on rules s t u log lines (owns_in rules run) (move_part rules moment move)

pub own_follows : (rules : Rules) (moments : List ℤ) (s t : RunState) (calls : List Given) (log : List ℕ) → Runs rules s moments calls t log → OwnFollows rules s t log
own_follows rules moments s t calls log run = owns_in rules run

pub own_is_read : (rules : Rules) (moments : List ℤ) (s t : RunState) (calls : List Given) (log : List ℕ) → Runs rules s moments calls t log → OwnIsRead s t log
own_is_read rules moments s t calls log run =
    let follows = owns_in rules run in
    follows.owns ∙ sym (own_read rules (own_of s.node.lane.body) follows.tells)

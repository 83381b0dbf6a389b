-- EACH MOVE OF A NODE DOES ONE OF THESE THINGS: one step of its machine with the input that the move gives it, or none.
use Rattle.std.proofs.Common.{Bool, List, None, Ok, Option, Err, Result, Some, [], ap, append-nil, codes, false, refl, subst, sym, true, ℕ, ℤ, ◌++◌, ◌∙◌, ◌∷◌, ◌≡◌}
use Rattle.std.specs.Borrow.{Bor}
use Rattle.std.proofs.lemmas.Bool.{true≢false}
use Rattle.std.proofs.lemmas.List.{take-append-drop}
use Rattle.line_base.specs.declared.states.Side.{Side}
use Rattle.line_base.specs.declared.states.Side.TheVariants.{Entry, Exit}
use Rattle.line_outside.specs.Given.{Closes, Given, Polls, Sends, is_same_way, taken_of}
use Rattle.line_outside.specs.declared.answer.GotBytes.{GotBytes}
use Rattle.line_outside.specs.declared.answer.GotBytes.TheVariants as founds
use Rattle.line_outside.specs.declared.ports.Opened.{Opened}
use Rattle.line_outside.specs.declared.ports.Opened.TheVariants as openings
use Rattle.line_outside.specs.declared.ports.Sent.{Sent}
use Rattle.line_outside.specs.declared.ports.Sent.TheVariants as sents
use Rattle.line_outside.specs.declared.way.Address.{Address}
use Rattle.line_outside.specs.declared.way.Way.{Way}
use Rattle.line_outside.specs.declared.way.Way.TheVariants as ways
use Rattle.board_record.specs.declared.sensed.Sensed.{Sensed}
use Rattle.hermes_vertical.specs.Parts.{kind_of}
use Rattle.hermes_vertical.specs.declared.message.Vertical.{Vertical}
use Rattle.supervisory_core.specs.Row.{SupervisedRow, supervised_row}
use Rattle.supervisory_core.specs.Told.{unexpected}
use Rattle.supervisory_core.specs.declared.action.VerticalAction.{VerticalAction}
use Rattle.supervisory_core.specs.declared.action.VerticalAction.TheVariants as actions
use Rattle.line_script.specs.declared.line.LineWhy.{LineWhy}
use Rattle.node_core.specs.May.{may_do, may_of}
use Rattle.node_core.specs.Node.{NodeState}
use Rattle.node_core.specs.Sides.{is_open}
use Rattle.node_core.specs.Step.{Steps}
use Rattle.node_core.specs.declared.act.Act.{Act}
use Rattle.node_core.specs.declared.input.Input.{Input}
use Rattle.node_core.specs.declared.input.Input.TheVariants as inputs
use Rattle.node_core.specs.declared.input.No.{No}
use Rattle.law_link_messages.specs.Fit.{IsFitInput}
use Rattle.node_panel.specs.Panel.{panel_line_of}
use Rattle.node_panel.specs.declared.line.PanelLine.{PanelLine}
use Rattle.node_panel.specs.declared.line.PanelLine.TheVariants as lines
use Rattle.law_node_runs.specs.Connections.{acts_for}
use Rattle.law_node_runs.proofs.Holding.{Same, is_reached, is_unreached, same_is, same_self}
use Rattle.law_node_runs.proofs.Parts.{config_same, configuration_same, supervisory_same, try_same}
use Rattle.law_node_runs.proofs.Polled.{none_held}
use Rattle.node_run.specs.After.{AfterClose, AfterDownstream, AfterPanel, AfterPoll, AfterUpstream, PanelArrives, TakesFinding, TakesFound, after_listen, after_send, broken, looked, panel_bytes, panel_closed, panel_second, way_of, with_held}
use Rattle.node_run.specs.Held.{Finding, HeldValue, holds, nothing_held}
use Rattle.supervised_end.specs.Said.{system_of}
use Rattle.node_run.specs.Hearing.{AnswersIf, DoesAction, DoesFound, DoesHear, DoesRow, DoesWord, Unsupervised, broken_off, said, with_channel, with_stands}
use Rattle.node_run.specs.Lines.{AsksConnect, AsksIf, DoesAsked, DoesCut, DoesInput, Ends, Fronts, KeepsFront, Tells, cut_line, is_too_long, may_ask, without_return}
use Rattle.node_run.specs.Next.{has_ended, moved_on, next_of}
use Rattle.node_run.specs.Resetting.{ResetsSide, leaving, reset_begun, reset_text}
use Rattle.supervised_end.specs.Channel.{no_session}
use Rattle.node_run.specs.Runs.{Moves, closes, connects, does_config, does_hear as hears_supervisor, does_line, listens, looks_again, polls, refuses, resets_side, room_bytes, sends, skips, takes_held, tries_port}
use Rattle.node_run.specs.State.{RunState, WayValue, at_rest, way_at, with_way, with_wire}
use Rattle.node_run.specs.Steps.{MeetsSecond, Takes, TakesSecond, TakesStep, messages_for}
use Rattle.supervised_end.specs.declared.channel.Found.{Found}
use Rattle.supervised_end.specs.declared.channel.Found.TheVariants as finds
use Rattle.supervised_end.specs.declared.channel.Word.{Word}
use Rattle.supervised_end.specs.declared.channel.Word.TheVariants as words
use Rattle.node_run.specs.declared.place.Next.TheVariants as nexts
use Rattle.node_run.specs.declared.rules.Rules.{Rules}
use Rattle.node_run.specs.declared.way_state.Wire.{Wire}
use Rattle.node_run.specs.declared.way_state.Wire.TheVariants as wires
use Rattle.law_joined_nodes.specs.Does.{Does, FindsNoBytes, Holds, IsBeside, Makes, Taken, does_accept, does_connect, does_find, does_hear, does_nothing, does_step, end_found, none_found, same_found}
use Rattle.law_joined_nodes.specs.Ways.{IsOther, Notices, ReadsBy, Stays, Ways, found_by, found_for, notices, notices_none, stays_found, stays_heard, stays_on, stays_shut, texts_in, waits_at, way_closes, way_resets, way_says, way_sends}
use Rattle.law_joined_nodes.specs.Laws.{DoesOne, EachMoveDoes}
use Rattle.law_joined_nodes.proofs.FitLines.{FitOk, line_fit}

-- ---- a part of a move: no step and nothing found, or a step of an input that no poll of a neighbour's way gives

abbrev IsAside : Input → Type 0
IsAside (inputs.Bytes side piece) = ⊥
IsAside inputs.Connect = ⊥
IsAside inputs.Accepted = ⊥
IsAside inputs.Second = ⊥
IsAside (inputs.Notice side) = ⊥
IsAside input = Unit {0}

-- a way other than the neighbours'
abbrev IsThird : Way → Type 0
IsThird ways.Upstream = ⊥
IsThird ways.Downstream = ⊥
IsThird way = Unit {0}

-- what goes over the ways behind it
record Goes (s t : RunState) (taken : Option Taken) : Type 0 where
  up : t.upstream.unsent ≡ s.upstream.unsent ++ texts_in Entry taken
  down : t.downstream.unsent ≡ s.downstream.unsent ++ texts_in Exit taken
  held : t.held.finding ≡ s.held.finding

data Part (moment : ℤ) (s t : RunState) : Type 0 where
  quiet : t.node ≡ s.node → Goes s t None → Part moment s t
  makes : (taken : Taken) → IsAside taken.input → Makes moment s t taken → Goes s t (Some taken)
      → Part moment s t

goes_from : {s u t : RunState} {taken : Option Taken} → Same s u → Goes u t taken → Goes s t taken
goes_from {taken = taken} same goes = record {
  up = goes.up ∙ ap (λ (text : List ℕ). text ++ texts_in Entry taken) same.up;
  down = goes.down ∙ ap (λ (text : List ℕ). text ++ texts_in Exit taken) same.down;
  held = goes.held ∙ same.held;
}

same_goes : {s t : RunState} → Same s t → Goes s t None
same_goes {s} same = record {
  up = same.up ∙ sym (append-nil s.upstream.unsent);
  down = same.down ∙ sym (append-nil s.downstream.unsent);
  held = same.held;
}

found_from : {s u t : RunState} → u.held.finding ≡ s.held.finding → FindsNoBytes u t → FindsNoBytes s t
found_from is (same_found same) = same_found (same ∙ is)
found_from is (none_found none) = none_found none
found_from is (end_found side end) = end_found side end

makes_from : {moment : ℤ} {s u t : RunState} {taken : Taken} → u.node ≡ s.node → Makes moment u t taken → Makes moment s t taken
makes_from {moment} {s} {u} {t} {taken} is m = record {
  may = ap (λ (n : NodeState). may_of n taken.input) (sym is) ∙ m.may;
  steps = subst (λ (n : NodeState). Steps n taken.read taken.input moment t.node taken.told) is m.steps;
  texts = m.texts;
}

moved_part : {moment : ℤ} {s u t : RunState} → Same s u → Part moment u t → Part moment s t
moved_part same (quiet node goes) = quiet (node ∙ same.node) (goes_from same goes)
moved_part same (makes taken aside m goes) =
    makes taken aside (makes_from same.node m) (goes_from same goes)

still : {moment : ℤ} {s t : RunState} → Same s t → Part moment s t
still same = quiet same.node (same_goes same)

still_is : {moment : ℤ} {s u t : RunState} → t ≡ u → Same s u → Part moment s t
still_is is same = still (same_is is same)

aside_beside : (given : List Given) (input : Input) → IsAside input → IsBeside given input
aside_beside given (inputs.Bytes side piece) aside = absurd aside
aside_beside given inputs.Connect aside = absurd aside
aside_beside given inputs.Accepted aside = absurd aside
aside_beside given inputs.Second aside = absurd aside
aside_beside given (inputs.Notice side) aside = absurd aside
aside_beside given input aside = tt

aside_reads : (input : Input) (read : List Sensed) → IsAside input → ReadsBy input read
aside_reads inputs.Second read aside = absurd aside
aside_reads (inputs.Notice side) read aside = absurd aside
aside_reads input read aside = tt

aside_whole : (input : Input) (told : List Act) → IsAside input → acts_for input told ≡ told
aside_whole inputs.Second told aside = absurd aside
aside_whole input told aside = refl

-- a call that is of neither side's way, or neither sends nor closes
abbrev AreOther : List Given → Type 0
AreOther given = (side : Side) → IsOther side given

goes_ways : {rules : Rules} {moment : ℤ} {s t : RunState} {given : List Given} {taken : Option Taken} → AreOther given → Goes s t taken → (side : Side) → Ways rules moment side s t taken given
goes_ways other goes Entry = way_says (other Entry) goes.up
goes_ways other goes Exit = way_says (other Exit) goes.down

goes_stays : {s t : RunState} {given : List Given} {taken : Option Taken} → Goes s t taken → (side : Side) → Stays side s t given taken
goes_stays goes side = stays_on (ap (found_for side) goes.held)

by_part : {rules : Rules} {moment : ℤ} {s t : RunState} (given : List Given) → AreOther given → Part moment s t → DoesOne rules moment s t given
by_part given other (quiet node goes) =
    record { taken = None; does = does_nothing node (same_found goes.held); ways = goes_ways other goes; stays = goes_stays goes; reads = tt }
by_part given other (makes taken aside m goes) = record {
  taken = Some taken;
  does = does_step (aside_beside given taken.input aside) m (same_found goes.held);
  ways = goes_ways other goes;
  stays = goes_stays goes;
  reads = aside_reads taken.input taken.read aside;
}

-- ---- a step

makes_step : {asked : Bool} {rules : Rules} {moment : ℤ} {sensed : List Sensed} {input : Input} {s t : RunState} {log : List ℕ} → IsFitInput input → may_of s.node input ≡ may_do → (takes : TakesStep asked rules moment sensed input s t log)
    → Makes moment s t (record { read = sensed; input = input; told = takes.told })
makes_step {moment = moment} {sensed = sensed} {input = input} {s = s} texts may takes = record {
  may = may;
  steps = subst (λ (n : NodeState). Steps s.node sensed input moment n takes.told) (sym (ap (λ (r : RunState). r.node) takes.after)) takes.steps;
  texts = texts;
}

step_goes : {asked : Bool} {rules : Rules} {moment : ℤ} {sensed : List Sensed} {input : Input} {s t : RunState} {log : List ℕ} (takes : TakesStep asked rules moment sensed input s t log) → acts_for input takes.told ≡ takes.told
    → Goes s t (Some (record { read = sensed; input = input; told = takes.told }))
step_goes {s = s} takes whole = record {
  up = ap (λ (r : RunState). r.upstream.unsent) takes.after ∙ ap (λ (acts : List Act). s.upstream.unsent ++ messages_for Entry acts) (sym whole);
  down = ap (λ (r : RunState). r.downstream.unsent) takes.after ∙ ap (λ (acts : List Act). s.downstream.unsent ++ messages_for Exit acts) (sym whole);
  held = ap (λ (r : RunState). r.held.finding) takes.after;
}

step_part : {asked : Bool} {rules : Rules} {moment : ℤ} {sensed : List Sensed} {input : Input} {s t : RunState} {log : List ℕ} → IsAside input → IsFitInput input → may_of s.node input ≡ may_do → TakesStep asked rules moment sensed input s t log → Part moment s t
step_part {sensed = sensed} {input = input} aside texts may takes =
    makes (record { read = sensed; input = input; told = takes.told }) aside (makes_step texts may takes) (step_goes takes (aside_whole input takes.told aside))

takes_part : (may : Result (Unit {0}) No) (rules : Rules) (moment : ℤ) (input : Input) (from s t : RunState) (log : List ℕ) → IsAside input → IsFitInput input → may_of s.node input ≡ may → Same s from → Takes may rules moment input from s t log → Part moment s t
takes_part (Ok done) rules moment input from s t log aside texts may same takes = moved_part same (step_part aside texts (ap (λ (n : NodeState). may_of n input) same.node ∙ may) takes)
takes_part (Err why) rules moment input from s t log aside texts may same takes = still_is takes.0 same_self

tells_part : {moment : ℤ} (text : List ℕ) (s t : RunState) (log : List ℕ) → Tells text s t log → Part moment s t
tells_part text s t log tells = still_is tells.0 (record { node = refl; up = refl; down = refl; held = refl; step = refl; drives = refl })

-- ---- the panel's connection

second_same : (wire : Wire) (s : RunState) → Same s (panel_second wire s)
second_same wires.Rests s = same_self
second_same wires.Stands s = record { node = refl; up = refl; down = refl; held = refl; step = refl; drives = refl }
second_same wires.Ends s = same_self
second_same wires.Breaks s = same_self

bytes_same : (wire : Wire) (bytes : List ℕ) (s : RunState) → Same s (panel_bytes wire bytes s)
bytes_same wires.Rests bytes s = same_self
bytes_same wires.Stands bytes s = record { node = refl; up = refl; down = refl; held = refl; step = refl; drives = refl }
bytes_same wires.Ends bytes s = same_self
bytes_same wires.Breaks bytes s = same_self

closed_same : (wire : Wire) (s : RunState) → Same s (panel_closed wire s)
closed_same wires.Rests s = same_self
closed_same wires.Stands s = record { node = refl; up = refl; down = refl; held = refl; step = refl; drives = refl }
closed_same wires.Ends s = same_self
closed_same wires.Breaks s = same_self

arrived_part : {moment : ℤ} (wire : Wire) (rules : Rules) (s t : RunState) (log : List ℕ) → PanelArrives wire rules s t log → Part moment s t
arrived_part wires.Rests rules s t log arrives = moved_part (record { node = refl; up = refl; down = refl; held = refl; step = refl; drives = refl }) (tells_part _ (with_wire ways.Panel wires.Stands s) t log arrives)
arrived_part wires.Stands rules s t log arrives = still_is arrives.0 same_self
arrived_part wires.Ends rules s t log arrives = still_is arrives.0 same_self
arrived_part wires.Breaks rules s t log arrives = still_is arrives.0 same_self

panel_part : {moment : ℤ} (rules : Rules) (got : GotBytes) (s t : RunState) (log : List ℕ) → AfterPanel rules got s t log → Part moment s t
panel_part rules founds.Arrived s t log after = arrived_part s.panel.wire rules s t log after
panel_part rules founds.Second s t log after = still_is after.0 (second_same s.panel.wire s)
panel_part rules (founds.Bytes bytes) s t log after = still_is after.0 (bytes_same s.panel.wire bytes s)
panel_part rules founds.NotYet s t log after = still_is after.0 same_self
panel_part rules founds.Closed s t log after = still_is after.0 (closed_same s.panel.wire s)
panel_part rules founds.Failed s t log after = still_is after.0 (closed_same s.panel.wire s)

-- ---- lines of the panel

input_part : (may : Result (Unit {0}) No) (rules : Rules) (moment : ℤ) (sensed : List Sensed) (input : Input) (s t : RunState) (log : List ℕ) → IsAside input → IsFitInput input → may_of s.node input ≡ may → DoesInput may rules moment sensed input s t log → Part moment s t
input_part (Ok done) rules moment sensed input s t log aside texts may does = step_part aside texts may does
input_part (Err why) rules moment sensed input s t log aside texts may does = tells_part _ s t log does

asks_part : {moment : ℤ} (may : Result (Unit {0}) No) (s t : RunState) (log : List ℕ) → AsksIf may s t log → Part moment s t
asks_part (Ok done) s t log asks = still_is asks.0 (record { node = refl; up = refl; down = refl; held = refl; step = refl; drives = refl })
asks_part (Err why) s t log asks = tells_part _ s t log asks

connect_part : {moment : ℤ} (upstream : Option Address) (s t : RunState) (log : List ℕ) → AsksConnect upstream s t log → Part moment s t
connect_part None s t log asks = tells_part _ s t log asks
connect_part (Some address) s t log asks = asks_part (may_ask (has_ended s.upstream.wire) (may_of s.node inputs.Connect)) s t log asks

asked_part : (asked : Result PanelLine LineWhy) (rules : Rules) (moment : ℤ) (s t : RunState) (log : List ℕ) → FitOk asked → DoesAsked asked rules moment s t log → Part moment s t
asked_part (Err why) rules moment s t log texts does = tells_part _ s t log does
asked_part (Ok lines.Blank) rules moment s t log texts does = still_is does.0 same_self
asked_part (Ok lines.End) rules moment s t log texts does = still_is does.0 (record { node = refl; up = refl; down = refl; held = refl; step = refl; drives = refl })
asked_part (Ok lines.Show) rules moment s t log texts does = tells_part _ s t log does
asked_part (Ok lines.Connect) rules moment s t log texts does = connect_part s.settings.upstream s t log does
asked_part (Ok (lines.Insert barcode)) rules moment s t log texts does = input_part (may_of s.node (inputs.Insert barcode)) rules moment _ (inputs.Insert barcode) s t log tt texts refl does
asked_part (Ok (lines.Remove id)) rules moment s t log texts does = input_part (may_of s.node (inputs.Remove id)) rules moment _ (inputs.Remove id) s t log tt texts refl does
asked_part (Ok (lines.Replace id)) rules moment s t log texts does = input_part (may_of s.node (inputs.Replace id)) rules moment _ (inputs.Replace id) s t log tt texts refl does
asked_part (Ok (lines.Mark id quality)) rules moment s t log texts does = input_part (may_of s.node (inputs.Mark id quality)) rules moment _ (inputs.Mark id quality) s t log tt texts refl does
asked_part (Ok (lines.Sub id place barcode)) rules moment s t log texts does = input_part (may_of s.node (inputs.Sub id place barcode)) rules moment _ (inputs.Sub id place barcode) s t log tt texts refl does
asked_part (Ok (lines.Hold side)) rules moment s t log texts does = input_part (may_of s.node (inputs.Will side false)) rules moment _ (inputs.Will side false) s t log tt texts refl does
asked_part (Ok (lines.Go side)) rules moment s t log texts does = input_part (may_of s.node (inputs.Will side true)) rules moment _ (inputs.Will side true) s t log tt texts refl does
asked_part (Ok lines.Shutdown) rules moment s t log texts does = input_part (may_of s.node (inputs.Shutdown)) rules moment _ (inputs.Shutdown) s t log tt texts refl does
asked_part (Ok lines.Tick) rules moment s t log texts does = input_part (may_of s.node (inputs.Tick)) rules moment _ (inputs.Tick) s t log tt texts refl does
asked_part (Ok (lines.Fault side)) rules moment s t log texts does = input_part (may_of s.node (inputs.Fault side)) rules moment _ (inputs.Fault side) s t log tt texts refl does
asked_part (Ok (lines.Signal line on)) rules moment s t log texts does = input_part (may_of s.node (inputs.Level line on)) rules moment _ (inputs.Level line on) s t log tt texts refl does
asked_part (Ok lines.Forecast) rules moment s t log texts does = input_part (may_of s.node (inputs.Forecast)) rules moment _ (inputs.Forecast) s t log tt texts refl does
asked_part (Ok (lines.Query barcode)) rules moment s t log texts does = input_part (may_of s.node (inputs.Query barcode)) rules moment _ (inputs.Query barcode) s t log tt texts refl does
asked_part (Ok (lines.Ask question)) rules moment s t log texts does = input_part (may_of s.node (inputs.Ask question)) rules moment _ (inputs.Ask question) s t log tt texts refl does
asked_part (Ok (lines.Sense sensed)) rules moment s t log texts does = input_part (may_of s.node (inputs.Nothing)) rules moment _ (inputs.Nothing) s t log tt texts refl does

keeps_part : {moment : ℤ} (long : Bool) (front : List ℕ) (s t : RunState) (log : List ℕ) → KeepsFront long front s t log → Part moment s t
keeps_part true front s t log keeps = moved_part (record { node = refl; up = refl; down = refl; held = refl; step = refl; drives = refl }) (tells_part _ (record s { line = []; drops = true }) t log keeps)
keeps_part false front s t log keeps = still_is keeps.0 (record { node = refl; up = refl; down = refl; held = refl; step = refl; drives = refl })

fronts_part : {moment : ℤ} (drops : Bool) (front : List ℕ) (s t : RunState) (log : List ℕ) → Fronts drops front s t log → Part moment s t
fronts_part true front s t log fronts = still_is fronts.0 same_self
fronts_part false front s t log fronts = keeps_part (is_too_long front) front s t log fronts

ends_part : (drops : Bool) (line : List ℕ) (rules : Rules) (moment : ℤ) (s t : RunState) (log : List ℕ) → Ends drops line rules moment s t log → Part moment s t
ends_part true line rules moment s t log ends = still_is ends.0 (record { node = refl; up = refl; down = refl; held = refl; step = refl; drives = refl })
ends_part false line rules moment s t log ends = moved_part (record { node = refl; up = refl; down = refl; held = refl; step = refl; drives = refl }) (asked_part (panel_line_of (without_return line)) rules moment (record s { line = [] }) t log (line_fit (without_return line)) ends)

cut_part : (cut : Option (List ℕ × List ℕ)) (rules : Rules) (moment : ℤ) (s t : RunState) (log : List ℕ) → DoesCut cut rules moment s t log → Part moment s t
cut_part None rules moment s t log does = moved_part (record { node = refl; up = refl; down = refl; held = refl; step = refl; drives = refl }) (fronts_part s.drops (s.line ++ s.rest) (record s { rest = [] }) t log does)
cut_part (Some parts) rules moment s t log does = moved_part (record { node = refl; up = refl; down = refl; held = refl; step = refl; drives = refl }) (ends_part s.drops (s.line ++ parts.0) rules moment (record s { rest = parts.1 }) t log does)

-- ---- messages of the supervisor

unsupervised_part : (rules : Rules) (moment : ℤ) (s t : RunState) (log : List ℕ) → Unsupervised rules moment s t log → Part moment s t
unsupervised_part rules moment s t log does = takes_part (may_of s.node (inputs.Supervise false)) rules moment (inputs.Supervise false) s s t log tt tt refl same_self does

breaks_part : (rules : Rules) (moment : ℤ) (text : List ℕ) (s t : RunState) (log : List ℕ) → Unsupervised rules moment (broken_off moment text s) t log → Part moment s t
breaks_part rules moment text s t log does = moved_part (record { node = refl; up = refl; down = refl; held = refl; step = refl; drives = refl }) (unsupervised_part rules moment (broken_off moment text s) t log does)

answer_part : (may : Result (Unit {0}) No) (rules : Rules) (moment : ℤ) (query : ℕ) (order : List ℕ) (s t : RunState) (log : List ℕ) → may_of s.node (inputs.Answer query order) ≡ may → AnswersIf may rules moment query order s t log → Part moment s t
answer_part (Ok done) rules moment query order s t log may does = step_part tt tt may does
answer_part (Err why) rules moment query order s t log may does = still_is does.0 (record { node = refl; up = refl; down = refl; held = refl; step = refl; drives = refl })

action_part : (action : VerticalAction) (rules : Rules) (moment : ℤ) (s t : RunState) (log : List ℕ) → DoesAction action rules moment s t log → Part moment s t
action_part actions.Describe rules moment s t log does =
    moved_part (record { node = refl; up = refl; down = refl; held = refl; step = refl; drives = refl })
    (takes_part (may_of s.node (inputs.Supervise true)) rules moment (inputs.Supervise true) (said moment (system_of rules.machine_id) s) (said moment (system_of rules.machine_id) s) t log tt tt refl same_self does)
action_part (actions.Pong id) rules moment s t log does = still_is does.0 (record { node = refl; up = refl; down = refl; held = refl; step = refl; drives = refl })
action_part (actions.Answer query order) rules moment s t log does = answer_part (may_of s.node (inputs.Answer query order)) rules moment query order s t log refl does
action_part actions.Nothing rules moment s t log does = still_is does.0 same_self

row_part : (row : Option SupervisedRow) (body : Vertical) (rules : Rules) (moment : ℤ) (s t : RunState) (log : List ℕ) → DoesRow row body rules moment s t log → Part moment s t
row_part None body rules moment s t log does = breaks_part rules moment (unexpected (kind_of body)) s t log does
row_part (Some row) body rules moment s t log does = moved_part (record { node = refl; up = refl; down = refl; held = refl; step = refl; drives = refl }) (action_part row.action rules moment (with_stands row.after s) t log does)

word_part : (word : Word) (rules : Rules) (moment : ℤ) (s t : RunState) (log : List ℕ) → DoesWord word rules moment s t log → Part moment s t
word_part (words.Says message) rules moment s t log does = row_part (supervised_row s.channel.stands message.body) message.body rules moment s t log does
word_part (words.Wrong text) rules moment s t log does = breaks_part rules moment text s t log does

heard_part : (found : Found) (rules : Rules) (moment : ℤ) (s t : RunState) (log : List ℕ) → DoesFound found rules moment s t log → Part moment s t
heard_part (finds.Word word) rules moment s t log does = word_part word rules moment s t log does
heard_part finds.More rules moment s t log does = still_is does.0 same_self
heard_part finds.TooLong rules moment s t log does = breaks_part rules moment (codes "message too long") s t log does

hear_part : (rules : Rules) (moment : ℤ) (s t : RunState) (log : List ℕ) → DoesHear rules moment s t log → Part moment s t
hear_part rules moment s t log does = moved_part (record { node = refl; up = refl; down = refl; held = refl; step = refl; drives = refl }) (heard_part does.found rules moment (with_channel does.channel s) t log does.does)

-- ---- closes, and the reset of a side

-- nothing is said at a side that has no connection, or what the machine says as it notices the close
data Noticed (rules : Rules) (moment : ℤ) (side : Side) (u t : RunState) : Type 0 where
  noticed : {told : List Act} → Makes moment u t (record { read = []; input = inputs.Notice side; told = told })
      → Goes u t (Some (record { read = []; input = inputs.Notice side; told = told })) → Noticed rules moment side u t
  unnoticed : is_open side u.node.lane.body ≡ false → t ≡ u → Noticed rules moment side u t

notices_by : (may : Result (Unit {0}) No) (rules : Rules) (moment : ℤ) (side : Side) (u t : RunState) (log : List ℕ) → may_of u.node (inputs.Notice side) ≡ may → Takes may rules moment (inputs.Notice side) u u t log → Noticed rules moment side u t
notices_by (Ok done) rules moment side u t log may takes = noticed (makes_step tt may takes) (step_goes takes refl)
notices_by (Err why) rules moment side u t log may takes = unnoticed (is_unreached side u.node.lane.body why may) takes.0

-- the way of a side, closed: what waited there is gone, and all else is as it was
record Closed (side : Side) (s u : RunState) : Type 0 where
  node : u.node ≡ s.node
  own : waits_at side u ≡ []
  beside : (at : Side) → is_same_way (way_of at) (way_of side) ≡ false → waits_at at u ≡ waits_at at s
  held : u.held.finding ≡ s.held.finding

-- of each way: it is closed, or another is
close_ways : {rules : Rules} {moment : ℤ} {s u t : RunState} {taken : Option Taken} (at side : Side) → Closed side s u → Notices side s taken → Goes u t taken → Ways rules moment at s t taken (Closes (way_of side) ∷ [])
close_ways {taken = taken} Entry Entry closed seen goes = way_closes seen (goes.up ∙ ap (λ (text : List ℕ). text ++ texts_in Entry taken) closed.own)
close_ways {taken = taken} Exit Exit closed seen goes = way_closes seen (goes.down ∙ ap (λ (text : List ℕ). text ++ texts_in Exit taken) closed.own)
close_ways {taken = taken} Entry Exit closed seen goes = way_says refl (goes.up ∙ ap (λ (text : List ℕ). text ++ texts_in Entry taken) (closed.beside Entry refl))
close_ways {taken = taken} Exit Entry closed seen goes = way_says refl (goes.down ∙ ap (λ (text : List ℕ). text ++ texts_in Exit taken) (closed.beside Exit refl))

close_one : {rules : Rules} {moment : ℤ} {s u t : RunState} (side : Side) → Closed side s u → Noticed rules moment side u t → DoesOne rules moment s t (Closes (way_of side) ∷ [])
close_one {s = s} side closed (noticed m goes) = record {
  taken = Some _;
  does = does_step tt (makes_from closed.node m) (same_found (goes.held ∙ closed.held));
  ways = λ at. close_ways at side closed notices goes;
  stays = λ at. stays_on (ap (found_for at) (goes.held ∙ closed.held));
  reads = refl;
}
close_one {s = s} {u = u} {t = t} side closed (unnoticed shut is) = record {
  taken = None;
  does = does_nothing (ap (λ (r : RunState). r.node) is ∙ closed.node) (same_found (ap (λ (r : RunState). r.held.finding) is ∙ closed.held));
  ways = λ at. close_ways at side closed (notices_none (ap (λ (n : NodeState). is_open side n.lane.body) (sym closed.node) ∙ shut)) (same_goes (same_is is same_self));
  stays = λ at. stays_on (ap (found_for at) (ap (λ (r : RunState). r.held.finding) is ∙ closed.held));
  reads = tt;
}

upstream_closed : (s : RunState) → Closed Entry s (record s { upstream = at_rest })
upstream_closed s = record { node = refl; own = refl; beside = by; held = refl } where
  by : (at : Side) → is_same_way (way_of at) ways.Upstream ≡ false → waits_at at (record s { upstream = at_rest }) ≡ waits_at at s
  by Entry is = absurd (true≢false is)
  by Exit is = refl

downstream_closed : (s : RunState) → Closed Exit s (record s { downstream = at_rest })
downstream_closed s = record { node = refl; own = refl; beside = by; held = refl } where
  by : (at : Side) → is_same_way (way_of at) ways.Downstream ≡ false → waits_at at (record s { downstream = at_rest }) ≡ waits_at at s
  by Exit is = absurd (true≢false is)
  by Entry is = refl

other_close : (way : Way) → IsThird way → AreOther (Closes way ∷ [])
other_close ways.Panel third Entry = refl
other_close ways.Panel third Exit = refl
other_close ways.Supervisory third Entry = refl
other_close ways.Supervisory third Exit = refl
other_close ways.Configuration third Entry = refl
other_close ways.Configuration third Exit = refl
other_close ways.Upstream third side = absurd third
other_close ways.Downstream third side = absurd third

close_part : (way : Way) (rules : Rules) (moment : ℤ) (s t : RunState) (log : List ℕ) → AfterClose rules moment way s t log → DoesOne rules moment s t (Closes way ∷ [])
close_part ways.Panel rules moment s t log after = by_part _ (other_close ways.Panel tt) (still_is after.0 (record { node = refl; up = refl; down = refl; held = refl; step = refl; drives = refl }))
close_part ways.Upstream rules moment s t log after =
    close_one {rules = rules} Entry (upstream_closed s) (notices_by (may_of s.node (inputs.Notice Entry)) rules moment Entry (record s { upstream = at_rest }) t log refl after)
close_part ways.Downstream rules moment s t log after =
    close_one {rules = rules} Exit (downstream_closed s) (notices_by (may_of s.node (inputs.Notice Exit)) rules moment Exit (record s { downstream = at_rest }) t log refl after)
close_part ways.Supervisory rules moment s t log after =
    let closed : RunState = record s { supervisory = at_rest; channel = no_session } in
    by_part _ (other_close ways.Supervisory tt) (moved_part (record { node = refl; up = refl; down = refl; held = refl; step = refl; drives = refl }) (unsupervised_part rules moment closed t log after))
close_part ways.Configuration rules moment s t log after = by_part _ (other_close ways.Configuration tt) (still_is after.0 (record { node = refl; up = refl; down = refl; held = refl; step = refl; drives = refl }))

same_begun : (side : Side) (s : RunState) → Same s (reset_begun side s)
same_begun Entry s = record { node = refl; up = refl; down = refl; held = refl; step = refl; drives = refl }
same_begun Exit s = record { node = refl; up = refl; down = refl; held = refl; step = refl; drives = refl }

no_call : AreOther []
no_call side = tt

-- a side that is reset: a text is put behind what waits there, and then its machine notices
record Left (moment : ℤ) (side : Side) (s u : RunState) : Type 0 where
  node : u.node ≡ s.node
  own : waits_at side u ≡ waits_at side s ++ reset_text moment
  beside : (at : Side) → is_same_way (way_of at) (way_of side) ≡ false → waits_at at u ≡ waits_at at s
  held : u.held.finding ≡ s.held.finding

begun_left : (moment : ℤ) (side : Side) (s : RunState) → Left moment side s (leaving moment side (reset_begun side s))
begun_left moment Entry s = record { node = refl; own = refl; beside = by; held = refl } where
  by : (at : Side) → is_same_way (way_of at) ways.Upstream ≡ false → waits_at at (leaving moment Entry (reset_begun Entry s)) ≡ waits_at at s
  by Entry is = absurd (true≢false is)
  by Exit is = refl
begun_left moment Exit s = record { node = refl; own = refl; beside = by; held = refl } where
  by : (at : Side) → is_same_way (way_of at) ways.Downstream ≡ false → waits_at at (leaving moment Exit (reset_begun Exit s)) ≡ waits_at at s
  by Exit is = absurd (true≢false is)
  by Entry is = refl

reset_ways : {rules : Rules} {moment : ℤ} {s u t : RunState} {taken : Option Taken} (at side : Side) → next_of rules s ≡ nexts.Reset side → is_open side s.node.lane.body ≡ true → Left moment side s u → Notices side s taken → Goes u t taken → Ways rules moment at s t taken []
reset_ways {taken = taken} Entry Entry next held left seen goes = way_resets next held seen (goes.up ∙ ap (λ (text : List ℕ). text ++ texts_in Entry taken) left.own)
reset_ways {taken = taken} Exit Exit next held left seen goes = way_resets next held seen (goes.down ∙ ap (λ (text : List ℕ). text ++ texts_in Exit taken) left.own)
reset_ways {taken = taken} Entry Exit next held left seen goes = way_says tt (goes.up ∙ ap (λ (text : List ℕ). text ++ texts_in Entry taken) (left.beside Entry refl))
reset_ways {taken = taken} Exit Entry next held left seen goes = way_says tt (goes.down ∙ ap (λ (text : List ℕ). text ++ texts_in Exit taken) (left.beside Exit refl))

reset_by : (may : Result (Unit {0}) No) (rules : Rules) (moment : ℤ) (side : Side) (s t : RunState) (log : List ℕ) → next_of rules s ≡ nexts.Reset side → may_of s.node (inputs.Notice side) ≡ may
    → Takes may rules moment (inputs.Notice side) (leaving moment side (reset_begun side s)) (reset_begun side s) t log → DoesOne rules moment s t []
reset_by (Err why) rules moment side s t log next may takes = by_part [] no_call (still_is takes.0 (same_begun side s))
reset_by (Ok done) rules moment side s t log next may takes =
    let left : Left moment side s (leaving moment side (reset_begun side s)) = begun_left moment side s in
    let goes : Goes (leaving moment side (reset_begun side s)) t (Some (record { read = []; input = inputs.Notice side; told = takes.told })) = step_goes takes refl in
    record {
      taken = Some _;
      does = does_step tt (makes_from left.node (makes_step tt (ap (λ (n : NodeState). may_of n (inputs.Notice side)) left.node ∙ may) takes)) (same_found (goes.held ∙ left.held));
      ways = λ at. reset_ways at side next (is_reached side s.node.lane.body may) left notices goes;
      stays = λ at. stays_on (ap (found_for at) (goes.held ∙ left.held));
      reads = refl;
    }

reset_part : (rules : Rules) (moment : ℤ) (side : Side) (s t : RunState) (log : List ℕ) → next_of rules s ≡ nexts.Reset side → ResetsSide rules moment side s t log → DoesOne rules moment s t []
reset_part rules moment Entry s t log next resets = reset_by (may_of s.node (inputs.Notice Entry)) rules moment Entry s t log next refl resets
reset_part rules moment Exit s t log next resets = reset_by (may_of s.node (inputs.Notice Exit)) rules moment Exit s t log next refl resets

-- ---- polls of the neighbours' ways

polled_other : (way : Way) (got : GotBytes) → AreOther (Polls way room_bytes got ∷ [])
polled_other way got side = tt

connect_by : (may : Result (Unit {0}) No) (rules : Rules) (moment : ℤ) (u s t : RunState) (log : List ℕ) → may_of s.node inputs.Connect ≡ may → Same s u → s.held.finding ≡ None → Takes may rules moment inputs.Connect u s t log
    → DoesOne rules moment s t (Polls ways.Upstream room_bytes founds.Arrived ∷ [])
connect_by (Ok done) rules moment u s t log may same none takes =
    let goes : Goes s t (Some (record { read = []; input = inputs.Connect; told = takes.told })) = goes_from same (step_goes takes refl) in
    record {
      taken = Some _;
      does = does_connect (makes_from same.node (makes_step tt (ap (λ (n : NodeState). may_of n inputs.Connect) same.node ∙ may) takes)) (goes.held ∙ none);
      ways = goes_ways (polled_other ways.Upstream founds.Arrived) goes;
      stays = goes_stays goes;
      reads = tt;
    }
connect_by (Err why) rules moment u s t log may same none takes = by_part _ (polled_other ways.Upstream founds.Arrived) (still_is takes.0 same_self)

accept_by : (may : Result (Unit {0}) No) (rules : Rules) (moment : ℤ) (u s t : RunState) (log : List ℕ) → may_of s.node inputs.Accepted ≡ may → Same s u → s.held.finding ≡ None → Takes may rules moment inputs.Accepted u s t log
    → DoesOne rules moment s t (Polls ways.Downstream room_bytes founds.Arrived ∷ [])
accept_by (Ok done) rules moment u s t log may same none takes =
    let goes : Goes s t (Some (record { read = []; input = inputs.Accepted; told = takes.told })) = goes_from same (step_goes takes refl) in
    record {
      taken = Some _;
      does = does_accept (makes_from same.node (makes_step tt (ap (λ (n : NodeState). may_of n inputs.Accepted) same.node ∙ may) takes)) (goes.held ∙ none);
      ways = goes_ways (polled_other ways.Downstream founds.Arrived) goes;
      stays = goes_stays goes;
      reads = tt;
    }
accept_by (Err why) rules moment u s t log may same none takes = by_part _ (polled_other ways.Downstream founds.Arrived) (still_is takes.0 same_self)

second_goes : {rules : Rules} {moment : ℤ} {s t : RunState} {log : List ℕ} (meets : TakesSecond rules moment inputs.Second s t log) → Goes s t (Some (record { read = []; input = inputs.Second; told = meets.told }))
second_goes meets = record {
  up = ap (λ (r : RunState). r.upstream.unsent) meets.after;
  down = ap (λ (r : RunState). r.downstream.unsent) meets.after;
  held = ap (λ (r : RunState). r.held.finding) meets.after;
}

second_by : (may : Result (Unit {0}) No) (rules : Rules) (moment : ℤ) (s t : RunState) (log : List ℕ) → may_of s.node inputs.Second ≡ may → MeetsSecond may rules moment inputs.Second s t log
    → DoesOne rules moment s t (Polls ways.Downstream room_bytes founds.Second ∷ [])
second_by (Ok done) rules moment s t log may meets = record {
  taken = Some (record { read = []; input = inputs.Second; told = meets.told });
  does = does_step refl (record {
    may = may;
    steps = subst (λ (n : NodeState). Steps s.node [] inputs.Second moment n meets.told) (sym (ap (λ (r : RunState). r.node) meets.after)) meets.steps;
    texts = tt;
  }) (same_found (ap (λ (r : RunState). r.held.finding) meets.after));
  ways = goes_ways (polled_other ways.Downstream founds.Second) (second_goes meets);
  stays = goes_stays (second_goes meets);
  reads = refl;
}
second_by (Err why) rules moment s t log may meets = by_part _ (polled_other ways.Downstream founds.Second) (still_is meets.0 same_self)

-- bytes of one side's way
finds_stays : (at side : Side) (bytes : List ℕ) (s t : RunState) → s.held.finding ≡ None → t ≡ with_held (holds side (Some bytes)) s → Stays at s t (Polls (way_of side) room_bytes (founds.Bytes bytes) ∷ []) None
finds_stays Entry Entry bytes s t none is = stays_found refl
finds_stays Exit Exit bytes s t none is = stays_found refl
finds_stays Entry Exit bytes s t none is = stays_on (ap (λ (r : RunState). found_for Entry r.held.finding) is ∙ sym (ap (found_for Entry) none))
finds_stays Exit Entry bytes s t none is = stays_on (ap (λ (r : RunState). found_for Exit r.held.finding) is ∙ sym (ap (found_for Exit) none))

held_goes : (held : HeldValue) (s t : RunState) → t ≡ with_held held s → (side : Side) → waits_at side t ≡ waits_at side s ++ []
held_goes held s t is Entry = ap (λ (r : RunState). r.upstream.unsent) is ∙ sym (append-nil s.upstream.unsent)
held_goes held s t is Exit = ap (λ (r : RunState). r.downstream.unsent) is ∙ sym (append-nil s.downstream.unsent)

finds_bytes : {rules : Rules} {moment : ℤ} {s t : RunState} (side : Side) (bytes : List ℕ) → s.held.finding ≡ None → t ≡ with_held (holds side (Some bytes)) s → DoesOne rules moment s t (Polls (way_of side) room_bytes (founds.Bytes bytes) ∷ [])
finds_bytes {s = s} {t = t} side bytes none is = record {
  taken = None;
  does = does_find {side = side} (ap (λ (r : RunState). r.node) is) (ap (λ (r : RunState). r.held.finding) is);
  ways = λ at. way_says tt (held_goes (holds side (Some bytes)) s t is at);
  stays = λ at. finds_stays at side bytes s t none is;
  reads = tt;
}

ended_found : (at side : Side) → found_by at side None ≡ []
ended_found Entry Entry = refl
ended_found Entry Exit = refl
ended_found Exit Entry = refl
ended_found Exit Exit = refl

finds_end : {rules : Rules} {moment : ℤ} {s t : RunState} (side : Side) (got : GotBytes) → s.held.finding ≡ None → t ≡ with_held (holds side None) s → DoesOne rules moment s t (Polls (way_of side) room_bytes got ∷ [])
finds_end {s = s} {t = t} side got none is = record {
  taken = None;
  does = does_nothing (ap (λ (r : RunState). r.node) is) (end_found side (ap (λ (r : RunState). r.held.finding) is));
  ways = λ at. way_says tt (held_goes (holds side None) s t is at);
  stays = λ at. stays_on (ap (λ (r : RunState). found_for at r.held.finding) is ∙ ended_found at side ∙ sym (ap (found_for at) none));
  reads = tt;
}

upstream_part : (rules : Rules) (moment : ℤ) (got : GotBytes) (s t : RunState) (log : List ℕ) → s.held.finding ≡ None → AfterUpstream rules moment got s t log → DoesOne rules moment s t (Polls ways.Upstream room_bytes got ∷ [])
upstream_part rules moment founds.Arrived s t log none after =
    connect_by (may_of s.node inputs.Connect) rules moment (with_wire ways.Upstream wires.Stands s) s t log refl (record { node = refl; up = refl; down = refl; held = refl; step = refl; drives = refl }) none after
upstream_part rules moment founds.Second s t log none after = by_part _ (polled_other ways.Upstream founds.Second) (still_is after.0 same_self)
upstream_part rules moment (founds.Bytes bytes) s t log none after = finds_bytes Entry bytes none after.0
upstream_part rules moment founds.NotYet s t log none after = by_part _ (polled_other ways.Upstream founds.NotYet) (still_is after.0 same_self)
upstream_part rules moment founds.Closed s t log none after = finds_end Entry founds.Closed none after.0
upstream_part rules moment founds.Failed s t log none after = finds_end Entry founds.Failed none after.0

downstream_part : (rules : Rules) (moment : ℤ) (got : GotBytes) (s t : RunState) (log : List ℕ) → s.held.finding ≡ None → AfterDownstream rules moment got s t log → DoesOne rules moment s t (Polls ways.Downstream room_bytes got ∷ [])
downstream_part rules moment founds.Arrived s t log none after =
    accept_by (may_of s.node inputs.Accepted) rules moment (with_wire ways.Downstream wires.Stands s) s t log refl (record { node = refl; up = refl; down = refl; held = refl; step = refl; drives = refl }) none after
downstream_part rules moment founds.Second s t log none after = second_by (may_of s.node inputs.Second) rules moment s t log refl after
downstream_part rules moment (founds.Bytes bytes) s t log none after = finds_bytes Exit bytes none after.0
downstream_part rules moment founds.NotYet s t log none after = by_part _ (polled_other ways.Downstream founds.NotYet) (still_is after.0 same_self)
downstream_part rules moment founds.Closed s t log none after = finds_end Exit founds.Closed none after.0
downstream_part rules moment founds.Failed s t log none after = finds_end Exit founds.Failed none after.0

-- a move from the place behind is one from this place
does_from : {moment : ℤ} {s u t : RunState} {given : List Given} {taken : Option Taken} → Same s u → Does moment u t given taken → Does moment s t given taken
does_from same (does_nothing node found) = does_nothing (node ∙ same.node) (found_from same.held found)
does_from same (does_find {side = side} node holds) = does_find {side = side} (node ∙ same.node) holds
does_from same (does_connect m none) = does_connect (makes_from same.node m) none
does_from same (does_accept m none) = does_accept (makes_from same.node m) none
does_from same (does_hear holds m none) = does_hear (sym same.held ∙ holds) (makes_from same.node m) none
does_from same (does_step beside m found) = does_step beside (makes_from same.node m) (found_from same.held found)

-- the same text waits, and the same bytes
from_waits : {s u : RunState} (side : Side) → Same s u → waits_at side u ≡ waits_at side s
from_waits Entry same = same.up
from_waits Exit same = same.down

ways_from : {rules : Rules} {moment : ℤ} {side : Side} {s u t : RunState} {taken : Option Taken} {way : Way} {got : GotBytes} → Same s u → Ways rules moment side u t taken (Polls way room_bytes got ∷ []) → Ways rules moment side s t taken (Polls way room_bytes got ∷ [])
ways_from {side = side} {taken = taken} same (way_says aside is) = way_says aside (is ∙ ap (λ (text : List ℕ). text ++ texts_in side taken) (from_waits side same))

stays_from : {side : Side} {s u t : RunState} {taken : Option Taken} {given : List Given} → Same s u → Stays side u t given taken → Stays side s t given taken
stays_from {side = side} same (stays_on is) = stays_on (is ∙ ap (found_for side) same.held)
stays_from same (stays_shut shut) = stays_shut shut
stays_from same (stays_found is) = stays_found is
stays_from same (stays_heard some is input) = stays_heard some is input

one_from : {rules : Rules} {moment : ℤ} {s u t : RunState} {way : Way} {got : GotBytes} → Same s u → DoesOne rules moment u t (Polls way room_bytes got ∷ []) → DoesOne rules moment s t (Polls way room_bytes got ∷ [])
one_from same one = record {
  taken = one.taken;
  does = does_from same one.does;
  ways = λ side. ways_from same (one.ways side);
  stays = λ side. stays_from same (one.stays side);
  reads = one.reads;
}

same_moved : {s : RunState} → Same s (moved_on s)
same_moved = record { node = refl; up = refl; down = refl; held = refl; step = refl; drives = refl }

poll_one : (rules : Rules) (moment : ℤ) (way : Way) (got : GotBytes) (s t : RunState) (log : List ℕ) → s.held.finding ≡ None → AfterPoll rules moment way got s t log → DoesOne rules moment s t (Polls way room_bytes got ∷ [])
poll_one rules moment ways.Panel got s t log none after = by_part _ (polled_other ways.Panel got) (panel_part rules got s t log after)
poll_one rules moment ways.Upstream got s t log none after = upstream_part rules moment got s t log none after
poll_one rules moment ways.Downstream got s t log none after = downstream_part rules moment got s t log none after
poll_one rules moment ways.Supervisory got s t log none after = by_part _ (polled_other ways.Supervisory got) (still_is after.0 (supervisory_same moment got s))
poll_one rules moment ways.Configuration got s t log none after = by_part _ (polled_other ways.Configuration got) (still_is after.0 (configuration_same moment got s))

-- ---- what was found is taken

broken_same : (side : Side) (test : Bool) (s : RunState) → Same s (broken (way_of side) test s)
broken_same Entry true s = record { node = refl; up = refl; down = refl; held = refl; step = refl; drives = refl }
broken_same Exit true s = record { node = refl; up = refl; down = refl; held = refl; step = refl; drives = refl }
broken_same side false s = same_self

hears_stays : (at side : Side) (piece : Bor (List ℕ)) (told : List Act) (s t : RunState) → Holds s side piece.now → t.held.finding ≡ None → Stays at s t [] (Some (record { read = []; input = inputs.Bytes side piece; told = told }))
hears_stays Entry Entry piece told s t held none = stays_heard _ refl refl
hears_stays Exit Exit piece told s t held none = stays_heard _ refl refl
hears_stays Entry Exit piece told s t held none = stays_on (ap (found_for Entry) none ∙ sym (ap (found_for Entry) held))
hears_stays Exit Entry piece told s t held none = stays_on (ap (found_for Exit) none ∙ sym (ap (found_for Exit) held))

drops_stays : (at side : Side) (bytes : List ℕ) (s t : RunState) → Holds s side bytes → t.held.finding ≡ None → is_open side t.node.lane.body ≡ false → Stays at s t [] None
drops_stays Entry Entry bytes s t held none shut = stays_shut shut
drops_stays Exit Exit bytes s t held none shut = stays_shut shut
drops_stays Entry Exit bytes s t held none shut = stays_on (ap (found_for Entry) none ∙ sym (ap (found_for Entry) held))
drops_stays Exit Entry bytes s t held none shut = stays_on (ap (found_for Exit) none ∙ sym (ap (found_for Exit) held))

hears_way : {rules : Rules} {moment : ℤ} {s t : RunState} {taken : Taken} (side : Side) → Goes (with_held nothing_held s) t (Some taken) → Ways rules moment side s t (Some taken) []
hears_way Entry goes = way_says tt goes.up
hears_way Exit goes = way_says tt goes.down

hears_by : (rules : Rules) (moment : ℤ) (s t : RunState) (log : List ℕ) (side : Side) (bytes : List ℕ) (piece : Bor (List ℕ)) (may : Result (Unit {0}) No) → piece.now ≡ bytes → Holds s side bytes → may_of s.node (inputs.Bytes side piece) ≡ may
    → Takes may rules moment (inputs.Bytes side piece) (with_held nothing_held s) (with_held nothing_held s) t log → DoesOne rules moment s t []
hears_by rules moment s t log side bytes piece (Ok done) is held may takes =
    let goes : Goes (with_held nothing_held s) t (Some (record { read = []; input = inputs.Bytes side piece; told = takes.told })) = step_goes takes refl in
    let waits : Holds s side piece.now = subst (λ (text : List ℕ). Holds s side text) (sym is) held in
    record {
      taken = Some _;
      does = does_hear waits (makes_from refl (makes_step tt may takes)) goes.held;
      ways = λ at. hears_way at goes;
      stays = λ at. hears_stays at side piece takes.told s t waits goes.held;
      reads = tt;
    }
hears_by rules moment s t log side bytes piece (Err why) is held may takes = record {
  taken = None;
  does = does_nothing (ap (λ (r : RunState). r.node) takes.0) (none_found (ap (λ (r : RunState). r.held.finding) takes.0));
  ways = λ at. way_says tt (held_goes nothing_held s t takes.0 at);
  stays = λ at. drops_stays at side bytes s t held (ap (λ (r : RunState). r.held.finding) takes.0) (ap (λ (r : RunState). is_open side r.node.lane.body) takes.0 ∙ is_unreached side s.node.lane.body why may);
  reads = tt;
}

-- an end that was found is taken, or nothing was found
ends_found : (rules : Rules) (moment : ℤ) (s u t : RunState) → ((at : Side) → found_for at s.held.finding ≡ []) → u ≡ with_held nothing_held s → Same u t → DoesOne rules moment s t []
ends_found rules moment s u t none is same = record {
  taken = None;
  does = does_nothing (same.node ∙ ap (λ (r : RunState). r.node) is) (none_found (same.held ∙ ap (λ (r : RunState). r.held.finding) is));
  ways = λ at. way_says tt (from_waits at same ∙ held_goes nothing_held s u is at);
  stays = λ at. stays_on (ap (found_for at) (same.held ∙ ap (λ (r : RunState). r.held.finding) is) ∙ sym (none at));
  reads = tt;
}

takes_found : (rules : Rules) (moment : ℤ) (bytes : Option (List ℕ)) (side : Side) (s t : RunState) (log : List ℕ) → s.held.finding ≡ Some (record { side = side; bytes = bytes }) → TakesFound bytes side rules moment (with_held nothing_held s) t log → DoesOne rules moment s t []
takes_found rules moment (Some bytes) side s t log held takes = hears_by rules moment s t log side bytes takes.piece (may_of s.node (inputs.Bytes side takes.piece)) takes.same held refl takes.takes
takes_found rules moment None side s t log held takes =
    let same : Same (with_held nothing_held s) t = same_is takes.0 (broken_same side (is_open side s.node.lane.body) (with_held nothing_held s)) in
    ends_found rules moment s (with_held nothing_held s) t (λ at. ap (found_for at) held ∙ ended_found at side) refl same

takes_finding : (rules : Rules) (moment : ℤ) (finding : Option Finding) (s t : RunState) (log : List ℕ) → s.held.finding ≡ finding → TakesFinding finding rules moment (with_held nothing_held s) t log → DoesOne rules moment s t []
takes_finding rules moment None s t log is takes = ends_found rules moment s (with_held nothing_held s) t (λ at. ap (found_for at) is) refl (same_is takes.0 same_self)
takes_finding rules moment (Some finding) s t log is takes = takes_found rules moment finding.bytes finding.side s t log is takes

-- ---- listens and sends

-- a way other than the neighbours' sends
third_same : (way : Way) → IsThird way → (value : WayValue) (s : RunState) → Same s (with_way way value s)
third_same ways.Panel third value s = record { node = refl; up = refl; down = refl; held = refl; step = refl; drives = refl }
third_same ways.Supervisory third value s = record { node = refl; up = refl; down = refl; held = refl; step = refl; drives = refl }
third_same ways.Configuration third value s = record { node = refl; up = refl; down = refl; held = refl; step = refl; drives = refl }
third_same ways.Upstream third value s = absurd third
third_same ways.Downstream third value s = absurd third

third_sent : (way : Way) (sent : Sent) (s : RunState) → IsThird way → Same s (after_send way sent s)
third_sent way (sents.Took n) s third = third_same way third _ s
third_sent way sents.NotYet s third = same_self
third_sent way sents.Closed s third = third_same way third _ s
third_sent way sents.Failed s third = third_same way third _ s

third_other : (way : Way) (text : List ℕ) (sent : Sent) → IsThird way → AreOther (Sends way text sent ∷ [])
third_other ways.Panel text sent third Entry = refl
third_other ways.Panel text sent third Exit = refl
third_other ways.Supervisory text sent third Entry = refl
third_other ways.Supervisory text sent third Exit = refl
third_other ways.Configuration text sent third Entry = refl
third_other ways.Configuration text sent third Exit = refl
third_other ways.Upstream text sent third side = absurd third
third_other ways.Downstream text sent third side = absurd third

-- the way of a side sends: its ports take a front
own_waits : (side : Side) (sent : Sent) (s : RunState) → waits_at side s ≡ taken_of sent (waits_at side s) ++ waits_at side (after_send (way_of side) sent s)
own_waits Entry (sents.Took n) s = sym (take-append-drop n s.upstream.unsent)
own_waits Exit (sents.Took n) s = sym (take-append-drop n s.downstream.unsent)
own_waits Entry sents.NotYet s = refl
own_waits Exit sents.NotYet s = refl
own_waits Entry sents.Closed s = refl
own_waits Exit sents.Closed s = refl
own_waits Entry sents.Failed s = refl
own_waits Exit sents.Failed s = refl

other_waits : (at side : Side) (sent : Sent) (s : RunState) → is_same_way (way_of at) (way_of side) ≡ false → waits_at at (after_send (way_of side) sent s) ≡ waits_at at s ++ []
other_waits Entry Entry sent s is = absurd (true≢false is)
other_waits Exit Exit sent s is = absurd (true≢false is)
other_waits Entry Exit (sents.Took n) s is = sym (append-nil s.upstream.unsent)
other_waits Entry Exit sents.NotYet s is = sym (append-nil s.upstream.unsent)
other_waits Entry Exit sents.Closed s is = sym (append-nil s.upstream.unsent)
other_waits Entry Exit sents.Failed s is = sym (append-nil s.upstream.unsent)
other_waits Exit Entry (sents.Took n) s is = sym (append-nil s.downstream.unsent)
other_waits Exit Entry sents.NotYet s is = sym (append-nil s.downstream.unsent)
other_waits Exit Entry sents.Closed s is = sym (append-nil s.downstream.unsent)
other_waits Exit Entry sents.Failed s is = sym (append-nil s.downstream.unsent)

sent_ways : {rules : Rules} (moment : ℤ) (at side : Side) (sent : Sent) (s : RunState) → Ways rules moment at s (after_send (way_of side) sent (moved_on s)) None (Sends (way_of side) (waits_at side s) sent ∷ [])
sent_ways moment Entry Entry sent s = way_sends refl (own_waits Entry sent (moved_on s))
sent_ways moment Exit Exit sent s = way_sends refl (own_waits Exit sent (moved_on s))
sent_ways moment Entry Exit sent s = way_says refl (other_waits Entry Exit sent (moved_on s) refl)
sent_ways moment Exit Entry sent s = way_says refl (other_waits Exit Entry sent (moved_on s) refl)

sent_node : (side : Side) (sent : Sent) (s : RunState) → (after_send (way_of side) sent s).node ≡ s.node
sent_node Entry (sents.Took n) s = refl
sent_node Exit (sents.Took n) s = refl
sent_node Entry sents.NotYet s = refl
sent_node Exit sents.NotYet s = refl
sent_node Entry sents.Closed s = refl
sent_node Exit sents.Closed s = refl
sent_node Entry sents.Failed s = refl
sent_node Exit sents.Failed s = refl

sent_held : (side : Side) (sent : Sent) (s : RunState) → (after_send (way_of side) sent s).held.finding ≡ s.held.finding
sent_held Entry (sents.Took n) s = refl
sent_held Exit (sents.Took n) s = refl
sent_held Entry sents.NotYet s = refl
sent_held Exit sents.NotYet s = refl
sent_held Entry sents.Closed s = refl
sent_held Exit sents.Closed s = refl
sent_held Entry sents.Failed s = refl
sent_held Exit sents.Failed s = refl

side_sent : {rules : Rules} (moment : ℤ) (side : Side) (sent : Sent) (s : RunState) → DoesOne rules moment s (after_send (way_of side) sent (moved_on s)) (Sends (way_of side) (waits_at side s) sent ∷ [])
side_sent moment side sent s = record {
  taken = None;
  does = does_nothing (sent_node side sent (moved_on s)) (same_found (sent_held side sent (moved_on s)));
  ways = λ at. sent_ways moment at side sent s;
  stays = λ at. stays_on (ap (found_for at) (sent_held side sent (moved_on s)));
  reads = tt;
}

sent_one : {rules : Rules} (moment : ℤ) (way : Way) (sent : Sent) (s : RunState) → DoesOne rules moment s (after_send way sent (moved_on s)) (Sends way (way_at way s).unsent sent ∷ [])
sent_one moment ways.Upstream sent s = side_sent moment Entry sent s
sent_one moment ways.Downstream sent s = side_sent moment Exit sent s
sent_one moment ways.Panel sent s = by_part _ (third_other ways.Panel s.panel.unsent sent tt) (moved_part same_moved (still (third_sent ways.Panel sent (moved_on s) tt)))
sent_one moment ways.Supervisory sent s = by_part _ (third_other ways.Supervisory s.supervisory.unsent sent tt) (moved_part same_moved (still (third_sent ways.Supervisory sent (moved_on s) tt)))
sent_one moment ways.Configuration sent s = by_part _ (third_other ways.Configuration s.configuration.unsent sent tt) (moved_part same_moved (still (third_sent ways.Configuration sent (moved_on s) tt)))

listened_part : {moment : ℤ} (address : Address) (opened : Opened) (s : RunState) → Part moment s (after_listen address opened s)
listened_part address openings.Done s = still (record { node = refl; up = refl; down = refl; held = refl; step = refl; drives = refl })
listened_part address openings.Failed s = still (record { node = refl; up = refl; down = refl; held = refl; step = refl; drives = refl })

-- ---- A MOVE

move_does : {rules : Rules} {moment : ℤ} {s t : RunState} {given : List Given} {log : List ℕ} → Moves rules moment s given t log → DoesOne rules moment s t given
move_does (listens {s} {way} {address} {opened} next) = by_part _ (λ side. tt) (listened_part address opened s)
move_does (connects next) = by_part _ (λ side. tt) (still (record { node = refl; up = refl; down = refl; held = refl; step = refl; drives = refl }))
move_does {rules} {moment} (polls {s} {t} {way} {got} {log} next done) = one_from same_moved (poll_one rules moment way got (moved_on s) t log (none_held rules s way next) done)
move_does {moment = moment} (sends {s} {way} {sent} next) = sent_one moment way sent s
move_does (refuses next is) = by_part _ (λ side. tt) (still (record { node = refl; up = refl; down = refl; held = refl; step = refl; drives = refl }))
move_does {rules} {moment} (closes {s} {t} {way} {log} next done) = close_part way rules moment s t log done
move_does (skips next) = by_part _ no_call (still same_moved)
move_does {rules} {moment} (looks_again {s} {t} {got} {log} next done) = by_part _ (polled_other ways.Panel got) (moved_part (record { node = refl; up = refl; down = refl; held = refl; step = refl; drives = refl }) (panel_part rules got (looked got s) t log done))
move_does {rules} {moment} (takes_held {s} {t} {log} next done) = takes_finding rules moment s.held.finding s t log refl done
move_does {rules} {moment} (does_line {s} {t} {log} next done) = by_part _ no_call (cut_part (cut_line s.rest) rules moment s t log done)
move_does {rules} {moment} (hears_supervisor {s} {t} {log} next done) = by_part _ no_call (hear_part rules moment s t log done)
move_does {rules} {moment} (does_config {s} {t} {log} next done none) = by_part _ no_call (still (config_same moment s t done))
move_does {rules} {moment} (tries_port {s} {t} {settings} {opened} {log} next done none) = by_part _ (λ side. tt) (still (try_same opened moment settings s t done))
move_does {rules} {moment} (resets_side {s} {t} {side} {log} next done) = reset_part rules moment side s t log next done

pub each_move_does : EachMoveDoes
each_move_does rules moment s t given log move = move_does move

-- What is asked for in a run happens: a state that can be reached has a step, or none is made, and what is kept stays so.
use Rattle.std.proofs.Common.{◌≡◌, ◌++◌, ◌≤◌, ℕ, ℤ, Bool, true, false, List, [], Option, Some, None, Result, Ok, Err, length, refl, arith}
use Rattle.std.specs.Borrow.{Bor}
use Rattle.line_base.specs.declared.states.Side.{Side}
use Rattle.line_base.specs.declared.states.Side.TheVariants.{Entry, Exit}
use Rattle.board_record.specs.declared.sensed.Sensed.{Sensed}
use Rattle.line_outside.specs.declared.answer.GotBytes.{GotBytes}
use Rattle.line_outside.specs.declared.answer.GotBytes.TheVariants as founds
use Rattle.line_outside.specs.declared.way.Address.{Address}
use Rattle.line_outside.specs.declared.way.Way.{Way}
use Rattle.line_outside.specs.declared.way.Way.TheVariants as ways
use Rattle.line_report.specs.declared.happening.Reason.TheVariants as reasons
use Rattle.line_script.specs.declared.line.LineWhy.{LineWhy}
use Rattle.line_script.specs.declared.line.LineWhy.TheVariants as whys
use Rattle.machine_log.specs.Texts.{lines_of, no_line, refused_line}
use Rattle.book_entry.specs.Given.{IsOfOneLane, entry_of}
use Rattle.node_core.specs.May.{may_of}
use Rattle.node_core.specs.Sides.{is_open}
use Rattle.node_core.specs.declared.input.Input.{Input}
use Rattle.node_core.specs.declared.input.Input.TheVariants as inputs
use Rattle.node_core.specs.declared.input.No.{No}
use Rattle.node_panel.specs.Panel.{panel_line_of}
use Rattle.node_panel.specs.declared.line.PanelLine.{PanelLine}
use Rattle.node_panel.specs.declared.line.PanelLine.TheVariants as lines
use Rattle.node_run.specs.After.{AfterClose, AfterDownstream, AfterPanel, AfterPoll, AfterUpstream, PanelArrives, TakesFinding, TakesFound, TakesHeld, after_configuration, after_supervisory, broken, configuration_arrived, configuration_bytes, configuration_closed, configuration_gone, configuration_second, greeting, panel_bytes, panel_closed, panel_gone, panel_second, supervisory_arrived, supervisory_bytes, supervisory_closed, supervisory_second, way_of, with_held}
use Rattle.supervised_end.specs.Channel.{IsShort, no_session}
use Rattle.node_run.specs.Held.{Finding, HasFewLooks, holds, nothing_held}
use Rattle.node_run.specs.Hearing.{Unsupervised}
use Rattle.node_panel.specs.Inputs.{input_of, sensed_of}
use Rattle.node_run.specs.Lines.{AsksConnect, AsksIf, DoesAsked, DoesCut, DoesInput, DoesLine, Ends, Fronts, KeepsFront, Tells, cut_line, is_too_long, may_ask, shown, without_return}
use Rattle.node_run.specs.Next.{has_ended}
use Rattle.node_run.specs.Resetting.{ResetsSide, leaving, reset_begun}
use Rattle.node_run.specs.State.{RunState, at_rest, echoed, with_wire}
use Rattle.node_run.specs.Steps.{MeetsSecond, Takes, TakesStep, refusing, stepped}
use Rattle.node_run.specs.declared.rules.Rules.{Rules}
use Rattle.node_run.specs.declared.status.NodeStatus.TheVariants as statuses
use Rattle.node_run.specs.declared.way_state.Wire.{Wire}
use Rattle.node_run.specs.declared.way_state.Wire.TheVariants as wires
use Rattle.law_one_report.proofs.Machines.{has_steps}
use Rattle.law_node_runs.specs.Each.{FitsRoom}
use Rattle.law_node_runs.proofs.Small.{IsSmallNode, steps_small}

-- ---- what is kept along a run

pub record IsKept (s : RunState) : Type 0 where
  pub node : IsSmallNode s.node
  pub channel : IsShort s.channel
  pub config : IsShort s.config
  pub held : HasFewLooks s.held

-- something is done, with its lines
pub record Happens (Does : RunState → List ℕ → Type 0) : Type 0 where
  pub after : RunState
  pub log : List ℕ
  pub does : Does after log
  pub kept : IsKept after

pub becomes : (u : RunState) (text : List ℕ) → IsKept u → Happens (λ t log. (t ≡ u) × (log ≡ text))
becomes u text k = record { after = u; log = text; does = (refl, refl); kept = k }

-- as it was, but for what isn't kept
pub alike : (s t : RunState) → t.node ≡ s.node → t.channel ≡ s.channel → t.config ≡ s.config → t.held ≡ s.held → IsKept s → IsKept t
alike s t node channel config held k = record { node = rw node k.node; channel = rw channel k.channel; config = rw config k.config; held = rw held k.held }

-- ---- steps

pub step_happens : (asked : Bool) (rules : Rules) (moment : ℤ) (sensed : List Sensed) (input : Input) (s : RunState) → IsOfOneLane input → IsKept s → Happens (λ t log. TakesStep asked rules moment sensed input s t log)
step_happens asked rules moment sensed input s alone k =
    let own = has_steps s.node sensed input moment in
    let small = steps_small s.node own.next sensed input moment own.acts alone own.steps k.node in
    record {
      after = stepped asked rules (entry_of sensed input moment) own.next own.acts s;
      log = lines_of rules.panel.drives s.turn rules.number own.acts;
      does = record { node = own.next; told = own.acts; steps = own.steps; proper = small.proper; after = refl; lines = refl };
      kept = record { node = small.node; channel = k.channel; config = k.config; held = k.held };
    }

pub takes_happens : (may : Result (Unit {0}) No) (rules : Rules) (moment : ℤ) (input : Input) (from s : RunState) → IsOfOneLane input → IsKept from → IsKept s → Happens (λ t log. Takes may rules moment input from s t log)
takes_happens (Ok done) rules moment input from s alone k l = step_happens false rules moment [] input from alone k
takes_happens (Err why) rules moment input from s alone k l = becomes s [] l

second_happens : (may : Result (Unit {0}) No) (rules : Rules) (moment : ℤ) (input : Input) (s : RunState) → IsOfOneLane input → IsKept s → Happens (λ t log. MeetsSecond may rules moment input s t log)
second_happens (Ok done) rules moment input s alone k =
    let own = has_steps s.node [] input moment in
    let small = steps_small s.node own.next [] input moment own.acts alone own.steps k.node in
    record {
      after = refusing rules (entry_of [] input moment) own.next own.acts s;
      log = lines_of rules.panel.drives s.turn rules.number own.acts;
      does = record { node = own.next; told = own.acts; steps = own.steps; proper = small.proper; after = refl; lines = refl };
      kept = record { node = small.node; channel = k.channel; config = k.config; held = k.held };
    }
second_happens (Err why) rules moment input s alone k = becomes s [] k

-- ---- lines of the panel

tells_happens : (text : List ℕ) (s : RunState) → IsKept s → Happens (λ t log. Tells text s t log)
tells_happens text s k = becomes (echoed text s) text (alike s (echoed text s) refl refl refl refl k)

line_alone : (line : PanelLine) → IsOfOneLane (input_of line)
line_alone (lines.Insert barcode) = tt
line_alone (lines.Remove id) = tt
line_alone (lines.Replace id) = tt
line_alone (lines.Mark id quality) = tt
line_alone (lines.Sub id place barcode) = tt
line_alone (lines.Hold side) = tt
line_alone (lines.Go side) = tt
line_alone lines.Shutdown = tt
line_alone lines.Tick = tt
line_alone (lines.Signal line on) = tt
line_alone lines.Forecast = tt
line_alone (lines.Query barcode) = tt
line_alone (lines.Ask question) = tt
line_alone (lines.Fault side) = tt
line_alone _ = tt

input_happens : (may : Result (Unit {0}) No) (rules : Rules) (moment : ℤ) (sensed : List Sensed) (input : Input) (s : RunState) → IsOfOneLane input → IsKept s → Happens (λ t log. DoesInput may rules moment sensed input s t log)
input_happens (Ok done) rules moment sensed input s alone k = step_happens true rules moment sensed input s alone k
input_happens (Err why) rules moment sensed input s alone k = tells_happens (no_line s.turn (reasons.Node why)) s k

asks_happens : (may : Result (Unit {0}) No) (s : RunState) → IsKept s → Happens (λ t log. AsksIf may s t log)
asks_happens (Ok done) s k = becomes (record s { asks = true }) [] (alike s (record s { asks = true }) refl refl refl refl k)
asks_happens (Err why) s k = tells_happens (no_line s.turn (reasons.Node why)) s k

connect_happens : (address : Option Address) (s : RunState) → IsKept s → Happens (λ t log. AsksConnect address s t log)
connect_happens None s k = tells_happens (no_line s.turn reasons.NoNeighbour) s k
connect_happens (Some address) s k = asks_happens (may_ask (has_ended s.upstream.wire) (may_of s.node inputs.Connect)) s k

asked_happens : (asked : Result PanelLine LineWhy) (rules : Rules) (moment : ℤ) (s : RunState) → IsKept s → Happens (λ t log. DoesAsked asked rules moment s t log)
asked_happens (Err why) rules moment s k = tells_happens (refused_line s.turn why) s k
asked_happens (Ok lines.Blank) rules moment s k = becomes s [] k
asked_happens (Ok lines.End) rules moment s k = becomes (record s { ended = Some statuses.Done }) [] (alike s (record s { ended = Some statuses.Done }) refl refl refl refl k)
asked_happens (Ok lines.Show) rules moment s k = tells_happens (shown rules s) s k
asked_happens (Ok lines.Connect) rules moment s k = connect_happens s.settings.upstream s k
asked_happens (Ok line) rules moment s k = input_happens (may_of s.node (input_of line)) rules moment (sensed_of line) (input_of line) s (line_alone line) k

keeps_happens : (long : Bool) (front : List ℕ) (s : RunState) → IsKept s → Happens (λ t log. KeepsFront long front s t log)
keeps_happens true front s k =
    let dropped : RunState = record s { line = []; drops = true } in tells_happens (refused_line s.turn whys.LongLine) dropped (alike s dropped refl refl refl refl k)
keeps_happens false front s k = becomes (record s { line = front }) [] (alike s (record s { line = front }) refl refl refl refl k)

fronts_happens : (drops : Bool) (front : List ℕ) (s : RunState) → IsKept s → Happens (λ t log. Fronts drops front s t log)
fronts_happens true front s k = becomes s [] k
fronts_happens false front s k = keeps_happens (is_too_long front) front s k

ends_happens : (drops : Bool) (line : List ℕ) (rules : Rules) (moment : ℤ) (s : RunState) → IsKept s → Happens (λ t log. Ends drops line rules moment s t log)
ends_happens true line rules moment s k = becomes (record s { drops = false }) [] (alike s (record s { drops = false }) refl refl refl refl k)
ends_happens false line rules moment s k =
    let empty : RunState = record s { line = [] } in asked_happens (panel_line_of (without_return line)) rules moment empty (alike s empty refl refl refl refl k)

cut_happens : (cut : Option (List ℕ × List ℕ)) (rules : Rules) (moment : ℤ) (s : RunState) → IsKept s → Happens (λ t log. DoesCut cut rules moment s t log)
cut_happens None rules moment s k =
    let read : RunState = record s { rest = [] } in fronts_happens s.drops (s.line ++ s.rest) read (alike s read refl refl refl refl k)
cut_happens (Some parts) rules moment s k =
    let read : RunState = record s { rest = parts.1 } in ends_happens s.drops (s.line ++ parts.0) rules moment read (alike s read refl refl refl refl k)

pub line_happens : (rules : Rules) (moment : ℤ) (s : RunState) → IsKept s → Happens (λ t log. DoesLine rules moment s t log)
line_happens rules moment s k = cut_happens (cut_line s.rest) rules moment s k

-- ---- polls

arrives_happens : (wire : Wire) (rules : Rules) (s : RunState) → IsKept s → Happens (λ t log. PanelArrives wire rules s t log)
arrives_happens wires.Rests rules s k =
    let stands : RunState = with_wire ways.Panel wires.Stands s in tells_happens (greeting rules s) stands (alike s stands refl refl refl refl k)
arrives_happens wires.Stands rules s k = becomes s [] k
arrives_happens wires.Ends rules s k = becomes s [] k
arrives_happens wires.Breaks rules s k = becomes s [] k

second_kept : (wire : Wire) (s : RunState) → IsKept s → IsKept (panel_second wire s)
second_kept wires.Stands s k = record { node = k.node; channel = k.channel; config = k.config; held = k.held }
second_kept wires.Rests s k = k
second_kept wires.Ends s k = k
second_kept wires.Breaks s k = k

bytes_kept : (wire : Wire) (bytes : List ℕ) (s : RunState) → IsKept s → IsKept (panel_bytes wire bytes s)
bytes_kept wires.Stands bytes s k = record { node = k.node; channel = k.channel; config = k.config; held = k.held }
bytes_kept wires.Rests bytes s k = k
bytes_kept wires.Ends bytes s k = k
bytes_kept wires.Breaks bytes s k = k

closed_kept : (wire : Wire) (s : RunState) → IsKept s → IsKept (panel_closed wire s)
closed_kept wires.Stands s k = record { node = k.node; channel = k.channel; config = k.config; held = k.held }
closed_kept wires.Rests s k = k
closed_kept wires.Ends s k = k
closed_kept wires.Breaks s k = k

pub panel_happens : (rules : Rules) (got : GotBytes) (s : RunState) → IsKept s → Happens (λ t log. AfterPanel rules got s t log)
panel_happens rules founds.Arrived s k = arrives_happens s.panel.wire rules s k
panel_happens rules founds.Second s k = becomes (panel_second s.panel.wire s) [] (second_kept s.panel.wire s k)
panel_happens rules (founds.Bytes bytes) s k = becomes (panel_bytes s.panel.wire bytes s) [] (bytes_kept s.panel.wire bytes s k)
panel_happens rules founds.NotYet s k = becomes s [] k
panel_happens rules founds.Closed s k = becomes (panel_closed s.panel.wire s) [] (closed_kept s.panel.wire s k)
panel_happens rules founds.Failed s k = becomes (panel_closed s.panel.wire s) [] (closed_kept s.panel.wire s k)

supervisory_arrives : (wire : Wire) (s : RunState) → IsKept s → IsKept (supervisory_arrived wire s)
supervisory_arrives wires.Rests s k = record { node = k.node; channel = record { waiting = omega arith; piece = omega arith }; config = k.config; held = k.held }
supervisory_arrives wires.Stands s k = k
supervisory_arrives wires.Ends s k = k
supervisory_arrives wires.Breaks s k = k

supervisory_seconds : (wire : Wire) (moment : ℤ) (s : RunState) → IsKept s → IsKept (supervisory_second wire moment s)
supervisory_seconds wires.Stands moment s k = record { node = k.node; channel = k.channel; config = k.config; held = k.held }
supervisory_seconds wires.Rests moment s k = k
supervisory_seconds wires.Ends moment s k = k
supervisory_seconds wires.Breaks moment s k = k

supervisory_brings : (wire : Wire) (bytes : List ℕ) (s : RunState) → length bytes ≤ 4096 → IsKept s → IsKept (supervisory_bytes wire bytes s)
supervisory_brings wires.Stands bytes s few k = record { node = k.node; channel = record { waiting = k.channel.waiting; piece = few }; config = k.config; held = k.held }
supervisory_brings wires.Rests bytes s few k = k
supervisory_brings wires.Ends bytes s few k = k
supervisory_brings wires.Breaks bytes s few k = k

supervisory_closes : (wire : Wire) (s : RunState) → IsKept s → IsKept (supervisory_closed wire s)
supervisory_closes wires.Stands s k = record { node = k.node; channel = k.channel; config = k.config; held = k.held }
supervisory_closes wires.Rests s k = k
supervisory_closes wires.Ends s k = k
supervisory_closes wires.Breaks s k = k

supervisory_kept : (got : GotBytes) (moment : ℤ) (s : RunState) → FitsRoom got → IsKept s → IsKept (after_supervisory moment got s)
supervisory_kept founds.Arrived moment s few k = supervisory_arrives s.supervisory.wire s k
supervisory_kept founds.Second moment s few k = supervisory_seconds s.supervisory.wire moment s k
supervisory_kept (founds.Bytes bytes) moment s few k = supervisory_brings s.supervisory.wire bytes s few k
supervisory_kept founds.NotYet moment s few k = k
supervisory_kept founds.Closed moment s few k = supervisory_closes s.supervisory.wire s k
supervisory_kept founds.Failed moment s few k = supervisory_closes s.supervisory.wire s k

configuration_arrives : (wire : Wire) (s : RunState) → IsKept s → IsKept (configuration_arrived wire s)
configuration_arrives wires.Rests s k = record { node = k.node; channel = k.channel; config = record { waiting = omega arith; piece = omega arith }; held = k.held }
configuration_arrives wires.Stands s k = k
configuration_arrives wires.Ends s k = k
configuration_arrives wires.Breaks s k = k

configuration_seconds : (wire : Wire) (moment : ℤ) (s : RunState) → IsKept s → IsKept (configuration_second wire moment s)
configuration_seconds wires.Stands moment s k = record { node = k.node; channel = k.channel; config = k.config; held = k.held }
configuration_seconds wires.Rests moment s k = k
configuration_seconds wires.Ends moment s k = k
configuration_seconds wires.Breaks moment s k = k

configuration_brings : (wire : Wire) (bytes : List ℕ) (s : RunState) → length bytes ≤ 4096 → IsKept s → IsKept (configuration_bytes wire bytes s)
configuration_brings wires.Stands bytes s few k = record { node = k.node; channel = k.channel; config = record { waiting = k.config.waiting; piece = few }; held = k.held }
configuration_brings wires.Rests bytes s few k = k
configuration_brings wires.Ends bytes s few k = k
configuration_brings wires.Breaks bytes s few k = k

configuration_closes : (wire : Wire) (s : RunState) → IsKept s → IsKept (configuration_closed wire s)
configuration_closes wires.Stands s k = record { node = k.node; channel = k.channel; config = k.config; held = k.held }
configuration_closes wires.Rests s k = k
configuration_closes wires.Ends s k = k
configuration_closes wires.Breaks s k = k

configuration_kept : (got : GotBytes) (moment : ℤ) (s : RunState) → FitsRoom got → IsKept s → IsKept (after_configuration moment got s)
configuration_kept founds.Arrived moment s few k = configuration_arrives s.configuration.wire s k
configuration_kept founds.Second moment s few k = configuration_seconds s.configuration.wire moment s k
configuration_kept (founds.Bytes bytes) moment s few k = configuration_brings s.configuration.wire bytes s few k
configuration_kept founds.NotYet moment s few k = k
configuration_kept founds.Closed moment s few k = configuration_closes s.configuration.wire s k
configuration_kept founds.Failed moment s few k = configuration_closes s.configuration.wire s k

held_kept : (side : Side) (bytes : Option (List ℕ)) (s : RunState) → IsKept s → IsKept (with_held (holds side bytes) s)
held_kept side bytes s k = record { node = k.node; channel = k.channel; config = k.config; held = record { looks = omega arith } }

upstream_happens : (rules : Rules) (moment : ℤ) (got : GotBytes) (s : RunState) → IsKept s → Happens (λ t log. AfterUpstream rules moment got s t log)
upstream_happens rules moment founds.Arrived s k =
    let stands : RunState = with_wire ways.Upstream wires.Stands s in takes_happens (may_of s.node inputs.Connect) rules moment inputs.Connect stands s tt (alike s stands refl refl refl refl k) k
upstream_happens rules moment founds.Second s k = becomes s [] k
upstream_happens rules moment (founds.Bytes bytes) s k = becomes (with_held (holds Entry (Some bytes)) s) [] (held_kept Entry (Some bytes) s k)
upstream_happens rules moment founds.NotYet s k = becomes s [] k
upstream_happens rules moment founds.Closed s k = becomes (with_held (holds Entry None) s) [] (held_kept Entry None s k)
upstream_happens rules moment founds.Failed s k = becomes (with_held (holds Entry None) s) [] (held_kept Entry None s k)

downstream_happens : (rules : Rules) (moment : ℤ) (got : GotBytes) (s : RunState) → IsKept s → Happens (λ t log. AfterDownstream rules moment got s t log)
downstream_happens rules moment founds.Arrived s k =
    let stands : RunState = with_wire ways.Downstream wires.Stands s in takes_happens (may_of s.node inputs.Accepted) rules moment inputs.Accepted stands s tt (alike s stands refl refl refl refl k) k
downstream_happens rules moment founds.Second s k = second_happens (may_of s.node inputs.Second) rules moment inputs.Second s tt k
downstream_happens rules moment (founds.Bytes bytes) s k = becomes (with_held (holds Exit (Some bytes)) s) [] (held_kept Exit (Some bytes) s k)
downstream_happens rules moment founds.NotYet s k = becomes s [] k
downstream_happens rules moment founds.Closed s k = becomes (with_held (holds Exit None) s) [] (held_kept Exit None s k)
downstream_happens rules moment founds.Failed s k = becomes (with_held (holds Exit None) s) [] (held_kept Exit None s k)

pub poll_happens : (rules : Rules) (moment : ℤ) (way : Way) (got : GotBytes) (s : RunState) → FitsRoom got → IsKept s → Happens (λ t log. AfterPoll rules moment way got s t log)
poll_happens rules moment ways.Panel got s few k = panel_happens rules got s k
poll_happens rules moment ways.Upstream got s few k = upstream_happens rules moment got s k
poll_happens rules moment ways.Downstream got s few k = downstream_happens rules moment got s k
poll_happens rules moment ways.Supervisory got s few k = becomes (after_supervisory moment got s) [] (supervisory_kept got moment s few k)
poll_happens rules moment ways.Configuration got s few k = becomes (after_configuration moment got s) [] (configuration_kept got moment s few k)

-- ---- what was held is taken

broken_kept : (side : Side) (test : Bool) (s : RunState) → IsKept s → IsKept (broken (way_of side) test s)
broken_kept Entry true s k = record { node = k.node; channel = k.channel; config = k.config; held = k.held }
broken_kept Exit true s k = record { node = k.node; channel = k.channel; config = k.config; held = k.held }
broken_kept Entry false s k = k
broken_kept Exit false s k = k

found_happens : (bytes : Option (List ℕ)) (side : Side) (rules : Rules) (moment : ℤ) (s : RunState) → IsKept s → Happens (λ t log. TakesFound bytes side rules moment s t log)
found_happens (Some bytes) side rules moment s k =
    let piece : Bor (List ℕ) = record { ref_ptr = (0, 0); now = bytes } in
    let took = takes_happens (may_of s.node (inputs.Bytes side piece)) rules moment (inputs.Bytes side piece) s s tt k k in
    record { after = took.after; log = took.log; does = record { piece = piece; same = refl; takes = took.does }; kept = took.kept }
found_happens None side rules moment s k = becomes (broken (way_of side) (is_open side s.node.lane.body) s) [] (broken_kept side (is_open side s.node.lane.body) s k)

finding_happens : (finding : Option Finding) (rules : Rules) (moment : ℤ) (s : RunState) → IsKept s → Happens (λ t log. TakesFinding finding rules moment s t log)
finding_happens None rules moment s k = becomes s [] k
finding_happens (Some finding) rules moment s k = found_happens finding.bytes finding.side rules moment s k

pub held_happens : (rules : Rules) (moment : ℤ) (s : RunState) → IsKept s → Happens (λ t log. TakesHeld rules moment s t log)
held_happens rules moment s k =
    finding_happens s.held.finding rules moment (with_held nothing_held s) (record { node = k.node; channel = k.channel; config = k.config; held = record { looks = omega arith } })

-- ---- a way is closed, a side is reset

pub unsupervised_happens : (rules : Rules) (moment : ℤ) (s : RunState) → IsKept s → Happens (λ t log. Unsupervised rules moment s t log)
unsupervised_happens rules moment s k = takes_happens (may_of s.node (inputs.Supervise false)) rules moment (inputs.Supervise false) s s tt k k

pub close_happens : (rules : Rules) (moment : ℤ) (way : Way) (s : RunState) → IsKept s → Happens (λ t log. AfterClose rules moment way s t log)
close_happens rules moment ways.Panel s k = becomes (panel_gone s) [] (alike s (panel_gone s) refl refl refl refl k)
close_happens rules moment ways.Upstream s k =
    let closed : RunState = record s { upstream = at_rest } in
    let l = alike s closed refl refl refl refl k in
    takes_happens (may_of s.node (inputs.Notice Entry)) rules moment (inputs.Notice Entry) closed closed tt l l
close_happens rules moment ways.Downstream s k =
    let closed : RunState = record s { downstream = at_rest } in
    let l = alike s closed refl refl refl refl k in
    takes_happens (may_of s.node (inputs.Notice Exit)) rules moment (inputs.Notice Exit) closed closed tt l l
close_happens rules moment ways.Supervisory s k =
    unsupervised_happens rules moment (record s { supervisory = at_rest; channel = no_session })
    (record { node = k.node; channel = record { waiting = omega arith; piece = omega arith }; config = k.config; held = k.held })
close_happens rules moment ways.Configuration s k =
    becomes (configuration_gone s) [] (record { node = k.node; channel = k.channel; config = record { waiting = omega arith; piece = omega arith }; held = k.held })

reset_kept : (side : Side) (s : RunState) → IsKept s → IsKept (reset_begun side s)
reset_kept Entry s k = record { node = k.node; channel = k.channel; config = k.config; held = k.held }
reset_kept Exit s k = record { node = k.node; channel = k.channel; config = k.config; held = k.held }

leaving_kept : (moment : ℤ) (side : Side) (s : RunState) → IsKept s → IsKept (leaving moment side s)
leaving_kept moment Entry s k = record { node = k.node; channel = k.channel; config = k.config; held = k.held }
leaving_kept moment Exit s k = record { node = k.node; channel = k.channel; config = k.config; held = k.held }

pub reset_happens : (rules : Rules) (moment : ℤ) (side : Side) (s : RunState) → IsKept s → Happens (λ t log. ResetsSide rules moment side s t log)
reset_happens rules moment side s k =
    let begun = reset_kept side s k in
    takes_happens (may_of s.node (inputs.Notice side)) rules moment (inputs.Notice side) (leaving moment side (reset_begun side s)) (reset_begun side s) tt
    (leaving_kept moment side (reset_begun side s) begun) begun

-- What the panel asks for is one thing.
use Rattle.std.proofs.Common.{◌≡◌, ◌∙◌, ◌++◌, ℕ, ℤ, Bool, true, false, List, [], ◌∷◌, Option, Some, None, Result, Ok, Err, refl, sym, ap, subst}
use Rattle.board_record.specs.declared.sensed.Sensed.{Sensed}
use Rattle.handover_in.specs.State as intakes
use Rattle.handover_out.specs.State as outlets
use Rattle.line_outside.specs.declared.answer.GotBytes.{GotBytes}
use Rattle.line_outside.specs.declared.answer.GotBytes.TheVariants as founds
use Rattle.line_outside.specs.declared.way.Address.{Address}
use Rattle.line_outside.specs.declared.way.Way.TheVariants as ways
use Rattle.line_report.specs.declared.happening.Reason.TheVariants as reasons
use Rattle.line_script.specs.declared.line.LineWhy.{LineWhy}
use Rattle.line_script.specs.declared.line.LineWhy.TheVariants as whys
use Rattle.node_core.specs.May.{may_of}
use Rattle.node_core.specs.Node.{NodeState}
use Rattle.node_core.specs.declared.input.Input.{Input}
use Rattle.node_core.specs.declared.input.Input.TheVariants as inputs
use Rattle.node_core.specs.declared.input.No.{No}
use Rattle.node_core.specs.declared.lane.Body.{Body}
use Rattle.node_panel.specs.Panel.{panel_line_of}
use Rattle.node_panel.specs.declared.line.PanelLine.{PanelLine}
use Rattle.node_panel.specs.declared.line.PanelLine.TheVariants as lines
use Rattle.step_rules.proofs.Once.{IsDry}
use Rattle.node_run.specs.After.{AfterPanel, PanelArrives, greeting, panel_bytes, panel_closed, panel_second}
use Rattle.node_run.specs.Lines.{AsksConnect, AsksIf, DoesAsked, DoesCut, DoesInput, DoesLine, Ends, Fronts, KeepsFront, cut_line, is_too_long, may_ask, shown, without_return}
use Rattle.node_panel.specs.Inputs.{input_of, sensed_of}
use Rattle.node_run.specs.Next.{has_ended}
use Rattle.node_run.specs.State.{RunState, echoed, with_wire}
use Rattle.machine_log.specs.Texts.{no_line, refused_line, show_lines}
use Rattle.node_run.specs.declared.rules.Rules.{Rules}
use Rattle.node_run.specs.declared.status.NodeStatus.TheVariants as statuses
use Rattle.node_run.specs.declared.way_state.Wire.{Wire}
use Rattle.node_run.specs.declared.way_state.Wire.TheVariants as wires
use Rattle.law_node_runs.proofs.Nodes.{Alike, may_same}
use Rattle.law_node_runs.proofs.States.{Once, Passes, becomes, like, passed, step_once}

-- ---- a poll of the panel

passes_second : (wire : Wire) → Passes (panel_second wire)
passes_second wires.Rests = record { same = λ s n. refl; node = λ s. refl }
passes_second wires.Stands = record { same = λ s n. refl; node = λ s. refl }
passes_second wires.Ends = record { same = λ s n. refl; node = λ s. refl }
passes_second wires.Breaks = record { same = λ s n. refl; node = λ s. refl }

passes_bytes : (wire : Wire) (bytes : List ℕ) → Passes (panel_bytes wire bytes)
passes_bytes wires.Rests bytes = record { same = λ s n. refl; node = λ s. refl }
passes_bytes wires.Stands bytes = record { same = λ s n. refl; node = λ s. refl }
passes_bytes wires.Ends bytes = record { same = λ s n. refl; node = λ s. refl }
passes_bytes wires.Breaks bytes = record { same = λ s n. refl; node = λ s. refl }

passes_closed : (wire : Wire) → Passes (panel_closed wire)
passes_closed wires.Rests = record { same = λ s n. refl; node = λ s. refl }
passes_closed wires.Stands = record { same = λ s n. refl; node = λ s. refl }
passes_closed wires.Ends = record { same = λ s n. refl; node = λ s. refl }
passes_closed wires.Breaks = record { same = λ s n. refl; node = λ s. refl }

arrives_once : (wire : Wire) (rules : Rules) (s : RunState) (n : NodeState) (t t' : RunState) (log log' : List ℕ) → Alike s.node n → PanelArrives wire rules s t log → PanelArrives wire rules (like s n) t' log' → Once t t' log log'
arrives_once wires.Rests rules s n t t' log log' alike one two = becomes (echoed (greeting rules s) (with_wire ways.Panel wires.Stands s)) n (greeting rules s) t t' log log' alike one two
arrives_once wires.Stands rules s n t t' log log' alike one two = becomes s n [] t t' log log' alike one two
arrives_once wires.Ends rules s n t t' log log' alike one two = becomes s n [] t t' log log' alike one two
arrives_once wires.Breaks rules s n t t' log log' alike one two = becomes s n [] t t' log log' alike one two

pub panel_once : (got : GotBytes) (rules : Rules) (s : RunState) (n : NodeState) (t t' : RunState) (log log' : List ℕ) → Alike s.node n → AfterPanel rules got s t log → AfterPanel rules got (like s n) t' log' → Once t t' log log'
panel_once founds.Arrived rules s n t t' log log' alike one two = arrives_once s.panel.wire rules s n t t' log log' alike one two
panel_once founds.Second rules s n t t' log log' alike one two = passed (panel_second s.panel.wire) (passes_second s.panel.wire) s n [] t t' log log' alike one two
panel_once (founds.Bytes bytes) rules s n t t' log log' alike one two = passed (panel_bytes s.panel.wire bytes) (passes_bytes s.panel.wire bytes) s n [] t t' log log' alike one two
panel_once founds.NotYet rules s n t t' log log' alike one two = becomes s n [] t t' log log' alike one two
panel_once founds.Closed rules s n t t' log log' alike one two = passed (panel_closed s.panel.wire) (passes_closed s.panel.wire) s n [] t t' log log' alike one two
panel_once founds.Failed rules s n t t' log log' alike one two = passed (panel_closed s.panel.wire) (passes_closed s.panel.wire) s n [] t t' log log' alike one two

-- ---- a line of the panel

input_by : (may : Result (Unit {0}) No) (rules : Rules) (moment : ℤ) (sensed : List Sensed) (input : Input) (s : RunState) (n : NodeState) (t t' : RunState) (log log' : List ℕ) → IsDry input → Alike s.node n
    → DoesInput may rules moment sensed input s t log → DoesInput may rules moment sensed input (like s n) t' log' → Once t t' log log'
input_by (Ok done) rules moment sensed input s n t t' log log' dry alike one two = step_once true rules moment sensed input s n t t' log log' dry alike one two
input_by (Err why) rules moment sensed input s n t t' log log' dry alike one two =
    let text = no_line s.turn (reasons.Node why) in becomes (echoed text s) n text t t' log log' alike one two

input_once : (rules : Rules) (moment : ℤ) (sensed : List Sensed) (input : Input) (s : RunState) (n : NodeState) (t t' : RunState) (log log' : List ℕ) → IsDry input → Alike s.node n
    → DoesInput (may_of s.node input) rules moment sensed input s t log → DoesInput (may_of n input) rules moment sensed input (like s n) t' log' → Once t t' log log'
input_once rules moment sensed input s n t t' log log' dry alike one two =
    let P : Result (Unit {0}) No → Type 0 = λ may. DoesInput may rules moment sensed input (like s n) t' log' in
    input_by (may_of s.node input) rules moment sensed input s n t t' log log' dry alike one (subst P (may_same input s.node n alike) two)

asks_by : (may : Result (Unit {0}) No) (s : RunState) (n : NodeState) (t t' : RunState) (log log' : List ℕ) → Alike s.node n → AsksIf may s t log → AsksIf may (like s n) t' log' → Once t t' log log'
asks_by (Ok done) s n t t' log log' alike one two = becomes (record s { asks = true }) n [] t t' log log' alike one two
asks_by (Err why) s n t t' log log' alike one two =
    let text = no_line s.turn (reasons.Node why) in becomes (echoed text s) n text t t' log log' alike one two

connect_once : (address : Option Address) (s : RunState) (n : NodeState) (t t' : RunState) (log log' : List ℕ) → Alike s.node n → AsksConnect address s t log → AsksConnect address (like s n) t' log' → Once t t' log log'
connect_once None s n t t' log log' alike one two =
    let text = no_line s.turn reasons.NoNeighbour in becomes (echoed text s) n text t t' log log' alike one two
connect_once (Some address) s n t t' log log' alike one two =
    let P : Result (Unit {0}) No → Type 0 = λ may. AsksIf (may_ask (has_ended s.upstream.wire) may) (like s n) t' log' in
    asks_by (may_ask (has_ended s.upstream.wire) (may_of s.node inputs.Connect)) s n t t' log log' alike one (subst P (may_same inputs.Connect s.node n alike) two)

shows_once : (rules : Rules) (s : RunState) (n : NodeState) (t t' : RunState) (log log' : List ℕ) → Alike s.node n → (t ≡ echoed (shown rules s) s) × (log ≡ shown rules s)
    → (t' ≡ echoed (shown rules (like s n)) (like s n)) × (log' ≡ shown rules (like s n)) → Once t t' log log'
shows_once rules s n t t' log log' alike one two =
    let f : Body → List ℕ = λ body. show_lines s.turn rules.number body.kept (outlets.held body.outlet) (intakes.held body.intake) in
    let same : shown rules (like s n) ≡ shown rules s = ap f alike.body in
    becomes (echoed (shown rules s) s) n (shown rules s) t t' log log' alike one
    (two.0 ∙ ap (λ (text : List ℕ). echoed text (like s n)) same, two.1 ∙ same)

asked_once : (asked : Result PanelLine LineWhy) (rules : Rules) (moment : ℤ) (s : RunState) (n : NodeState) (t t' : RunState) (log log' : List ℕ) → Alike s.node n → DoesAsked asked rules moment s t log → DoesAsked asked rules moment (like s n) t' log' → Once t t' log log'
asked_once (Err why) rules moment s n t t' log log' alike one two =
    let text = refused_line s.turn why in becomes (echoed text s) n text t t' log log' alike one two
asked_once (Ok lines.Blank) rules moment s n t t' log log' alike one two = becomes s n [] t t' log log' alike one two
asked_once (Ok lines.End) rules moment s n t t' log log' alike one two = becomes (record s { ended = Some statuses.Done }) n [] t t' log log' alike one two
asked_once (Ok lines.Show) rules moment s n t t' log log' alike one two = shows_once rules s n t t' log log' alike one two
asked_once (Ok lines.Connect) rules moment s n t t' log log' alike one two = connect_once s.settings.upstream s n t t' log log' alike one two
asked_once (Ok (lines.Insert barcode)) rules moment s n t t' log log' alike one two = input_once rules moment [] (inputs.Insert barcode) s n t t' log log' tt alike one two
asked_once (Ok (lines.Remove id)) rules moment s n t t' log log' alike one two = input_once rules moment [] (inputs.Remove id) s n t t' log log' tt alike one two
asked_once (Ok (lines.Replace id)) rules moment s n t t' log log' alike one two = input_once rules moment [] (inputs.Replace id) s n t t' log log' tt alike one two
asked_once (Ok (lines.Mark id quality)) rules moment s n t t' log log' alike one two = input_once rules moment [] (inputs.Mark id quality) s n t t' log log' tt alike one two
asked_once (Ok (lines.Sub id place barcode)) rules moment s n t t' log log' alike one two = input_once rules moment [] (inputs.Sub id place barcode) s n t t' log log' tt alike one two
asked_once (Ok (lines.Hold side)) rules moment s n t t' log log' alike one two = input_once rules moment [] (inputs.Will side false) s n t t' log log' tt alike one two
asked_once (Ok (lines.Go side)) rules moment s n t t' log log' alike one two = input_once rules moment [] (inputs.Will side true) s n t t' log log' tt alike one two
asked_once (Ok (lines.Signal line on)) rules moment s n t t' log log' alike one two = input_once rules moment [] (inputs.Level line on) s n t t' log log' tt alike one two
asked_once (Ok lines.Shutdown) rules moment s n t t' log log' alike one two = input_once rules moment [] inputs.Shutdown s n t t' log log' tt alike one two
asked_once (Ok lines.Tick) rules moment s n t t' log log' alike one two = input_once rules moment [] inputs.Tick s n t t' log log' tt alike one two
asked_once (Ok (lines.Fault side)) rules moment s n t t' log log' alike one two = input_once rules moment [] (inputs.Fault side) s n t t' log log' tt alike one two
asked_once (Ok (lines.Sense sensed)) rules moment s n t t' log log' alike one two = input_once rules moment (sensed ∷ []) inputs.Nothing s n t t' log log' tt alike one two
asked_once (Ok lines.Forecast) rules moment s n t t' log log' alike one two = input_once rules moment [] inputs.Forecast s n t t' log log' tt alike one two
asked_once (Ok (lines.Query barcode)) rules moment s n t t' log log' alike one two = input_once rules moment [] (inputs.Query barcode) s n t t' log log' tt alike one two
asked_once (Ok (lines.Ask question)) rules moment s n t t' log log' alike one two = input_once rules moment [] (inputs.Ask question) s n t t' log log' tt alike one two

keeps_once : (long : Bool) (front : List ℕ) (s : RunState) (n : NodeState) (t t' : RunState) (log log' : List ℕ) → Alike s.node n → KeepsFront long front s t log → KeepsFront long front (like s n) t' log' → Once t t' log log'
keeps_once true front s n t t' log log' alike one two =
    let text = refused_line s.turn whys.LongLine in becomes (echoed text (record s { line = []; drops = true })) n text t t' log log' alike one two
keeps_once false front s n t t' log log' alike one two = becomes (record s { line = front }) n [] t t' log log' alike one two

fronts_once : (drops : Bool) (front : List ℕ) (s : RunState) (n : NodeState) (t t' : RunState) (log log' : List ℕ) → Alike s.node n → Fronts drops front s t log → Fronts drops front (like s n) t' log' → Once t t' log log'
fronts_once true front s n t t' log log' alike one two = becomes s n [] t t' log log' alike one two
fronts_once false front s n t t' log log' alike one two = keeps_once (is_too_long front) front s n t t' log log' alike one two

ends_once : (drops : Bool) (line : List ℕ) (rules : Rules) (moment : ℤ) (s : RunState) (n : NodeState) (t t' : RunState) (log log' : List ℕ) → Alike s.node n → Ends drops line rules moment s t log → Ends drops line rules moment (like s n) t' log' → Once t t' log log'
ends_once true line rules moment s n t t' log log' alike one two = becomes (record s { drops = false }) n [] t t' log log' alike one two
ends_once false line rules moment s n t t' log log' alike one two = asked_once (panel_line_of (without_return line)) rules moment (record s { line = [] }) n t t' log log' alike one two

cut_once : (cut : Option (List ℕ × List ℕ)) (rules : Rules) (moment : ℤ) (s : RunState) (n : NodeState) (t t' : RunState) (log log' : List ℕ) → Alike s.node n → DoesCut cut rules moment s t log → DoesCut cut rules moment (like s n) t' log' → Once t t' log log'
cut_once None rules moment s n t t' log log' alike one two = fronts_once s.drops (s.line ++ s.rest) (record s { rest = [] }) n t t' log log' alike one two
cut_once (Some parts) rules moment s n t t' log log' alike one two = ends_once s.drops (s.line ++ parts.0) rules moment (record s { rest = parts.1 }) n t t' log log' alike one two

pub line_once : (rules : Rules) (moment : ℤ) (s : RunState) (n : NodeState) (t t' : RunState) (log log' : List ℕ) → Alike s.node n → DoesLine rules moment s t log → DoesLine rules moment (like s n) t' log' → Once t t' log log'
line_once rules moment s n t t' log log' alike one two = cut_once (cut_line s.rest) rules moment s n t t' log log' alike one two

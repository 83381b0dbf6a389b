-- The panel's text is done line by line.
use Rattle.std.specs.Prelude.{◌≡◌, ◌++◌, ◌==◌, ℕ, ℤ, Bool, true, false, List, [], ◌∷◌, Option, None, Some, Result, Ok, Err, length, nat_lt, option_map, if◌then◌else◌}
use Rattle.std.specs.Str.Lines.{strip_carriage_return}
use Rattle.line_outside.specs.declared.way.Address.{Address}
use Rattle.board_record.specs.declared.sensed.Sensed.{Sensed}
use Rattle.handover_out.specs.State as outlets
use Rattle.handover_in.specs.State as intakes
use Rattle.line_script.specs.declared.line.LineWhy.{LineWhy}
use Rattle.line_script.specs.declared.line.LineWhy.TheVariants as whys
use Rattle.line_report.specs.declared.happening.Reason.TheVariants as reasons
use Rattle.node_core.specs.May.{may_of}
use Rattle.node_core.specs.declared.input.Input.{Input}
use Rattle.node_core.specs.declared.input.Input.TheVariants as inputs
use Rattle.node_core.specs.declared.input.No.{No}
use Rattle.node_core.specs.declared.input.No.TheVariants as nos
use Rattle.node_panel.specs.Panel.{panel_line_of}
use Rattle.node_panel.specs.declared.line.PanelLine.{PanelLine}
use Rattle.node_panel.specs.declared.line.PanelLine.TheVariants as lines
use Rattle.node_panel.specs.Inputs.{input_of, sensed_of}
use Rattle.node_run.specs.declared.rules.Rules.{Rules}
use Rattle.node_run.specs.State.{RunState, echoed}
use Rattle.node_run.specs.Next.{has_ended}
use Rattle.node_run.specs.Steps.{TakesStep}
use Rattle.machine_log.specs.Texts.{refused_line, no_line, show_lines}
use Rattle.node_run.specs.declared.status.NodeStatus.TheVariants as statuses

-- what stands before the first end of a line, and what behind it
abbrev pub behind_first : ℕ → Option (List ℕ × List ℕ) → Option (List ℕ × List ℕ)
behind_first byte parts = option_map (λ p. (byte ∷ p.0, p.1)) parts

abbrev pub cut_line : List ℕ → Option (List ℕ × List ℕ)
cut_line [] = None
cut_line (byte ∷ bytes) =
    if byte == 10 then Some ([], bytes) else behind_first byte (cut_line bytes)

-- a carriage return at the end of a line is no part of it
abbrev pub without_return : List ℕ → List ℕ
without_return line = strip_carriage_return line

-- a line without an end is certain to have more than 4,096 bytes
abbrev pub is_too_long : List ℕ → Bool
is_too_long line = nat_lt 4096 (length (without_return line))

-- ---- what a line does

-- lines go to the log, and the same to the panel
abbrev pub Tells : List ℕ → RunState → RunState → List ℕ → Type 0
Tells text s t log = (t ≡ echoed text s) × (log ≡ text)

-- a step, whose lines go to the panel too
abbrev pub DoesInput : Result (Unit {0}) No → Rules → ℤ → List Sensed → Input → RunState → RunState
    → List ℕ → Type 0
DoesInput (Ok done) rules moment sensed input s t log =
    TakesStep true rules moment sensed input s t log
DoesInput (Err why) rules moment sensed input s t log =
    Tells (no_line s.turn (reasons.Node why)) s t log

-- a connection is asked for, or can't be
abbrev pub AsksIf : Result (Unit {0}) No → RunState → RunState → List ℕ → Type 0
AsksIf (Ok done) s t log = (t ≡ record s { asks = true }) × (log ≡ [])
AsksIf (Err why) s t log = Tells (no_line s.turn (reasons.Node why)) s t log

abbrev pub may_ask : Bool → Result (Unit {0}) No → Result (Unit {0}) No
may_ask true may = Err nos.Connected
may_ask false may = may

abbrev pub AsksConnect : Option Address → RunState → RunState → List ℕ → Type 0
AsksConnect None s t log = Tells (no_line s.turn reasons.NoNeighbour) s t log
AsksConnect (Some address) s t log =
    AsksIf (may_ask (has_ended s.upstream.wire) (may_of s.node inputs.Connect)) s t log

abbrev pub shown : Rules → RunState → List ℕ
shown rules s =
    show_lines s.turn rules.number s.node.lane.body.kept (outlets.held s.node.lane.body.outlet)
    (intakes.held s.node.lane.body.intake)

abbrev pub DoesAsked : Result PanelLine LineWhy → Rules → ℤ → RunState → RunState → List ℕ → Type 0
DoesAsked (Err why) rules moment s t log = Tells (refused_line s.turn why) s t log
DoesAsked (Ok lines.Blank) rules moment s t log = (t ≡ s) × (log ≡ [])
DoesAsked (Ok lines.End) rules moment s t log =
    (t ≡ record s { ended = Some statuses.Done }) × (log ≡ [])
DoesAsked (Ok lines.Show) rules moment s t log = Tells (shown rules s) s t log
DoesAsked (Ok lines.Connect) rules moment s t log = AsksConnect s.settings.upstream s t log
DoesAsked (Ok line) rules moment s t log =
    DoesInput (may_of s.node (input_of line)) rules moment (sensed_of line) (input_of line) s t log

-- ---- the next of the panel's lines

-- a front of a line without its end is kept, unless the line is certain to be too long
abbrev pub KeepsFront : Bool → List ℕ → RunState → RunState → List ℕ → Type 0
KeepsFront true front s t log =
    Tells (refused_line s.turn whys.LongLine) (record s { line = []; drops = true }) t log
KeepsFront false front s t log = (t ≡ record s { line = front }) × (log ≡ [])

-- what stands behind the front of a line that is too long is dropped
abbrev pub Fronts : Bool → List ℕ → RunState → RunState → List ℕ → Type 0
Fronts true front s t log = (t ≡ s) × (log ≡ [])
Fronts false front s t log = KeepsFront (is_too_long front) front s t log

abbrev pub Ends : Bool → List ℕ → Rules → ℤ → RunState → RunState → List ℕ → Type 0
Ends true line rules moment s t log = (t ≡ record s { drops = false }) × (log ≡ [])
Ends false line rules moment s t log =
    DoesAsked (panel_line_of (without_return line)) rules moment (record s { line = [] }) t log

abbrev pub DoesCut : Option (List ℕ × List ℕ) → Rules → ℤ → RunState → RunState → List ℕ → Type 0
DoesCut None rules moment s t log =
    Fronts s.drops (s.line ++ s.rest) (record s { rest = [] }) t log
DoesCut (Some parts) rules moment s t log =
    Ends s.drops (s.line ++ parts.0) rules moment (record s { rest = parts.1 }) t log

-- THE NEXT OF THE PANEL'S LINES, or the front of one
abbrev pub DoesLine : Rules → ℤ → RunState → RunState → List ℕ → Type 0
DoesLine rules moment s t log = DoesCut (cut_line s.rest) rules moment s t log

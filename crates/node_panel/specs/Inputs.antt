-- What a line of a panel gives to its machine.
use Rattle.std.specs.Prelude.{true, false, List, [], ◌∷◌}
use Rattle.board_record.specs.declared.sensed.Sensed.{Sensed}
use Rattle.node_core.specs.declared.input.Input.{Input}
use Rattle.node_core.specs.declared.input.Input.TheVariants as inputs
use Rattle.node_panel.specs.declared.line.PanelLine.{PanelLine}
use Rattle.node_panel.specs.declared.line.PanelLine.TheVariants as lines

abbrev pub sensed_of : PanelLine → List Sensed
sensed_of (lines.Sense sensed) = sensed ∷ []
sensed_of line = []

-- the input that a line gives to the machine
abbrev pub input_of : PanelLine → Input
input_of (lines.Insert barcode) = inputs.Insert barcode
input_of (lines.Remove id) = inputs.Remove id
input_of (lines.Replace id) = inputs.Replace id
input_of (lines.Mark id quality) = inputs.Mark id quality
input_of (lines.Sub id place barcode) = inputs.Sub id place barcode
input_of (lines.Hold side) = inputs.Will side false
input_of (lines.Go side) = inputs.Will side true
input_of lines.Shutdown = inputs.Shutdown
input_of lines.Tick = inputs.Tick
input_of (lines.Signal line on) = inputs.Level line on
input_of lines.Forecast = inputs.Forecast
input_of (lines.Query barcode) = inputs.Query barcode
input_of (lines.Ask question) = inputs.Ask question
input_of (lines.Fault side) = inputs.Fault side
input_of line = inputs.Nothing

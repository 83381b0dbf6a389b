-- What a line gives to the machine is short enough for an entry of the book, and what the machine may
-- be given has one.
use Rattle.std.proofs.Common.{◌≡◌, sym, subst}
use Rattle.book_entry.proofs.Given.{of_one_lane}
use Rattle.book_entry.specs.Given.{IsOfOneLane, own_of}
use Rattle.book_entry.specs.Short.{IsShort}
use Rattle.node_core.specs.May.{may_do, may_of}
use Rattle.node_core.specs.Node.{NodeState}
use Rattle.node_core.specs.declared.input.Input.{Input}
use Rattle.node_panel.specs.declared.line.PanelLine.{PanelLine}
use Rattle.node_panel.specs.declared.line.PanelLine.TheVariants as lines
use Rattle.node_panel.specs.Inputs.{input_of}

short_input : (line : PanelLine) → IsShort (own_of (input_of line))
short_input (lines.Insert barcode) = tt
short_input (lines.Remove id) = tt
short_input (lines.Replace id) = tt
short_input (lines.Mark id quality) = tt
short_input (lines.Sub id place barcode) = tt
short_input (lines.Hold side) = tt
short_input (lines.Go side) = tt
short_input lines.Shutdown = tt
short_input lines.Tick = tt
short_input (lines.Signal line on) = tt
short_input lines.Forecast = tt
short_input (lines.Query barcode) = tt
short_input (lines.Ask question) = tt
short_input (lines.Fault side) = tt
short_input lines.Blank = tt
short_input lines.Connect = tt
short_input (lines.Sense sensed) = tt
short_input lines.Show = tt
short_input lines.End = tt

pub short_by : (line : PanelLine) (input : Input) → input ≡ input_of line → IsShort (own_of input)
short_by line input is = let P : Input → Type 0 = λ i. IsShort (own_of i) in subst P (sym is) (short_input line)

pub alone_by : (s : NodeState) (input : Input) → may_of s input ≡ may_do → IsOfOneLane input
alone_by s input may = of_one_lane s input may

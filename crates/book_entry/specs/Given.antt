-- WHAT AN ENTRY KEEPS OF A STEP: the sensor events that were read, the input, and the moment.
use Rattle.std.specs.Prelude.{ℤ, List}
use Rattle.board_record.specs.declared.sensed.Sensed.{Sensed}
use Rattle.book_entry.specs.declared.entry.Entry.{Entry}
use Rattle.book_entry.specs.declared.entry.OwnInput.{OwnInput}
use Rattle.book_entry.specs.declared.entry.OwnInput.TheVariants as own
use Rattle.node_core.specs.declared.input.Input.{Input}
use Rattle.node_core.specs.declared.input.Input.TheVariants as inputs

-- an input that a machine of one lane may be given: no board comes from another lane or goes there
abbrev pub IsOfOneLane : Input → Type 0
IsOfOneLane (inputs.Gives id to) = ⊥
IsOfOneLane (inputs.Gets board) = ⊥
IsOfOneLane _ = Unit {0}

-- an input of one lane as it is kept, with the bytes that were lent to the machine. The others have
-- no entry
abbrev pub own_of : Input → OwnInput
own_of inputs.Nothing = own.Nothing
own_of inputs.Connect = own.Connect
own_of inputs.Accepted = own.Accepted
own_of inputs.Second = own.Second
own_of (inputs.Bytes side piece) = own.Bytes side piece.now
own_of (inputs.Notice side) = own.Notice side
own_of inputs.Tick = own.Tick
own_of inputs.Shutdown = own.Shutdown
own_of (inputs.Fault side) = own.Fault side
own_of (inputs.Will side on) = own.Will side on
own_of (inputs.Level line on) = own.Level line on
own_of (inputs.Insert barcode) = own.Insert barcode
own_of (inputs.Remove id) = own.Remove id
own_of (inputs.Replace id) = own.Replace id
own_of (inputs.Mark id quality) = own.Mark id quality
own_of inputs.Forecast = own.Forecast
own_of (inputs.Query barcode) = own.Query barcode
own_of (inputs.Supervise on) = own.Supervise on
own_of (inputs.Ask question) = own.Ask question
own_of (inputs.Answer query order) = own.Answer query order
own_of (inputs.Sub id place barcode) = own.Sub id place barcode
own_of (inputs.Gives id to) = own.Nothing
own_of (inputs.Gets board) = own.Nothing

-- the entry of a step
abbrev pub entry_of : List Sensed → Input → ℤ → Entry
entry_of sensed input moment =
    record { sensed = sensed; input = own_of input; moment = moment }

use Rattle.std.specs.Prelude.{Bool, true, false}
use Rattle.line_base.specs.declared.states.Seen.{Seen}
use Rattle.line_base.specs.declared.states.Seen.TheVariants.{NotStarted, Incomplete, Complete, Taken}
use Rattle.line_base.specs.declared.states.SensorEvent.{SensorEvent}
use Rattle.line_base.specs.declared.states.SensorEvent.TheVariants as sensor
use Rattle.line_base.specs.declared.states.Transfer.{Transfer}
use Rattle.line_base.specs.declared.states.Transfer.TheVariants as transfer

-- what the sensors have seen of a board after one event more
abbrev pub own_after : Seen → SensorEvent → Seen
own_after NotStarted sensor.Begun = Incomplete
own_after _ sensor.Full = Complete
own_after _ sensor.Back = NotStarted
own_after Incomplete sensor.Taken = Taken
own_after own _ = own

-- how far the transfer got, as it is said: a board that was taken out is an incomplete transfer
abbrev pub said_of : Seen → Transfer
said_of NotStarted = transfer.NotStarted
said_of Incomplete = transfer.Incomplete
said_of Complete = transfer.Complete
said_of Taken = transfer.Incomplete

abbrev pub is_taken : Seen → Bool
is_taken Taken = true
is_taken _ = false

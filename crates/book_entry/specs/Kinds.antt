-- The inputs without their contents: the byte that names each, and how many bytes its fields can be.
use Rattle.std.specs.Prelude.{ℕ, Bool, ◌==◌, ◌&&◌, ◌||◌, nat_le, Option, Some, None, if◌then◌else◌}
use Rattle.book_entry.specs.declared.entry.OwnInput.{OwnInput}
use Rattle.book_entry.specs.declared.entry.OwnInput.TheVariants as inputs
use Rattle.book_entry.specs.declared.kind.InputKind.{InputKind}
use Rattle.book_entry.specs.declared.kind.InputKind.TheVariants as kinds

abbrev pub input_kind : OwnInput → InputKind
input_kind inputs.Nothing = kinds.Nothing
input_kind inputs.Connect = kinds.Connect
input_kind inputs.Accepted = kinds.Accepted
input_kind inputs.Second = kinds.Second
input_kind (inputs.Bytes side bytes) = kinds.Bytes
input_kind (inputs.Notice side) = kinds.Notice
input_kind inputs.Tick = kinds.Tick
input_kind inputs.Shutdown = kinds.Shutdown
input_kind (inputs.Fault side) = kinds.Fault
input_kind (inputs.Will side on) = kinds.Will
input_kind (inputs.Level line on) = kinds.Level
input_kind (inputs.Insert barcode) = kinds.Insert
input_kind (inputs.Remove id) = kinds.Remove
input_kind (inputs.Replace id) = kinds.Replace
input_kind (inputs.Mark id quality) = kinds.Mark
input_kind inputs.Forecast = kinds.Forecast
input_kind (inputs.Query barcode) = kinds.Query
input_kind (inputs.Supervise on) = kinds.Supervise
input_kind (inputs.Ask question) = kinds.Ask
input_kind (inputs.Answer query order) = kinds.Answer
input_kind (inputs.Sub id place barcode) = kinds.Sub

-- THE TAGS: the place of an input among those that a machine can be given, counted from 0. The
-- place 20 is that of an input that isn't there: no entry has it
abbrev pub kind_tag : InputKind → ℕ
kind_tag kinds.Nothing = 0
kind_tag kinds.Connect = 1
kind_tag kinds.Accepted = 2
kind_tag kinds.Second = 3
kind_tag kinds.Bytes = 4
kind_tag kinds.Notice = 5
kind_tag kinds.Tick = 6
kind_tag kinds.Shutdown = 7
kind_tag kinds.Fault = 8
kind_tag kinds.Will = 9
kind_tag kinds.Level = 10
kind_tag kinds.Insert = 11
kind_tag kinds.Remove = 12
kind_tag kinds.Replace = 13
kind_tag kinds.Mark = 14
kind_tag kinds.Forecast = 15
kind_tag kinds.Query = 16
kind_tag kinds.Supervise = 17
kind_tag kinds.Ask = 18
kind_tag kinds.Answer = 19
kind_tag kinds.Sub = 21

-- the input that a byte names
abbrev pub kind_of : ℕ → Option InputKind
kind_of tag =
    if tag == 0 then Some kinds.Nothing else (if tag == 1 then Some kinds.Connect else
    (if tag == 2 then Some kinds.Accepted else (if tag == 3 then Some kinds.Second else
    (if tag == 4 then Some kinds.Bytes else (if tag == 5 then Some kinds.Notice else
    (if tag == 6 then Some kinds.Tick else (if tag == 7 then Some kinds.Shutdown else
    (if tag == 8 then Some kinds.Fault else (if tag == 9 then Some kinds.Will else
    (if tag == 10 then Some kinds.Level else (if tag == 11 then Some kinds.Insert else
    (if tag == 12 then Some kinds.Remove else (if tag == 13 then Some kinds.Replace else
    (if tag == 14 then Some kinds.Mark else (if tag == 15 then Some kinds.Forecast else
    (if tag == 16 then Some kinds.Query else (if tag == 17 then Some kinds.Supervise else
    (if tag == 18 then Some kinds.Ask else (if tag == 19 then Some kinds.Answer else
    (if tag == 21 then Some kinds.Sub else None))))))))))))))))))))

-- its fields can be so many bytes. A text is its length in 2 bytes and at most 1,024 bytes
abbrev pub is_from : ℕ → ℕ → ℕ → Bool
is_from least most count = nat_le least count && nat_le count most

abbrev pub takes : InputKind → ℕ → Bool
takes kinds.Nothing count = count == 0
takes kinds.Connect count = count == 0
takes kinds.Accepted count = count == 0
takes kinds.Second count = count == 0
takes kinds.Bytes count = nat_le 5 count
takes kinds.Notice count = count == 1
takes kinds.Tick count = count == 0
takes kinds.Shutdown count = count == 0
takes kinds.Fault count = count == 1
takes kinds.Will count = count == 2
takes kinds.Level count = count == 2
takes kinds.Insert count = count == 1 || is_from 3 1027 count
takes kinds.Remove count = count == 16
takes kinds.Replace count = count == 16
takes kinds.Mark count = count == 17
takes kinds.Forecast count = count == 0
takes kinds.Query count = is_from 2 1026 count
takes kinds.Supervise count = count == 1
takes kinds.Ask count = is_from 3 1031 count
takes kinds.Answer count = is_from 10 1034 count
takes kinds.Sub count = count == 21 || is_from 23 1047 count

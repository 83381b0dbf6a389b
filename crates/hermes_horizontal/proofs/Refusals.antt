-- The text of a refusal is a text.
use Rattle.std.proofs.Common.{◌≡◌, ◌&&◌, ◌^◌, ◌<◌, ◌≤◌, ◌+◌, ◌++◌, ℕ, Bool, true, List, length, refl, arith, length-append}
use Rattle.std.specs.Prelude.{nat_le, codes}
use Rattle.std.specs.List.{list_all}
use Rattle.std.specs.Fmt.{decimal}
use Rattle.std.proofs.lemmas.Bool.{and_parts}
use Rattle.std.proofs.lemmas.Bool.Decides.{nat_tests}
use Rattle.line_base.specs.Text.{IsText}
use Rattle.line_base.specs.PlainText.{is_plain_byte}
use Rattle.line_base.proofs.Printable.{IsText-from_printable, plain-append, plain-decimal, length-decimal}
use Rattle.hermes_element.specs.Refusal.{why_text}
use Rattle.hermes_element.specs.declared.refusal.Why.{Why}
use Rattle.hermes_element.specs.declared.refusal.Why.TheVariants as why
use Rattle.hermes_horizontal.specs.Attrs.{attr_text}
use Rattle.hermes_horizontal.specs.declared.attr.Attr.{Attr}
use Rattle.hermes_horizontal.specs.declared.attr.Attr.TheVariants as attrs
use Rattle.hermes_horizontal.specs.Texts.{fault_text, message_refusal_text}
use Rattle.hermes_horizontal.specs.declared.fault.Fault.{Fault}
use Rattle.hermes_horizontal.specs.declared.fault.Fault.TheVariants as faults

abbrev is_short : List ℕ → Bool
is_short bytes = list_all is_plain_byte bytes && nat_le (length bytes) 30

record IsShort (bytes : List ℕ) (most : ℕ) : Type 0 where
  plain : list_all is_plain_byte bytes ≡ true
  short : length bytes ≤ most

le_from : (n : ℕ) → nat_le n 30 ≡ true → n ≤ 30
le_from n is = grind (arith, nat_tests)

short_from : (bytes : List ℕ) → is_short bytes ≡ true → IsShort bytes 30
short_from bytes is = let parts = and_parts (list_all is_plain_byte bytes) (nat_le (length bytes) 30) is in record { plain = parts.0; short = le_from (length bytes) parts.1 }

joined : (a b : List ℕ) (m n : ℕ) → IsShort a m → IsShort b n → IsShort (a ++ b) (m + n)
joined a b m n x y = record { plain = plain-append a b x.plain y.plain; short = omega (arith, x.short, y.short, length-append a b) }

attr_short : (attr : Attr) → is_short (attr_text attr) ≡ true
attr_short attrs.Timestamp = refl
attr_short attrs.AliveType = refl
attr_short attrs.Id = refl
attr_short attrs.MachineId = refl
attr_short attrs.LaneId = refl
attr_short attrs.InterfaceId = refl
attr_short attrs.Version = refl
attr_short attrs.NotificationCode = refl
attr_short attrs.Severity = refl
attr_short attrs.Description = refl
attr_short attrs.BoardId = refl
attr_short attrs.BoardIdCreatedBy = refl
attr_short attrs.FailedBoard = refl
attr_short attrs.FlippedBoard = refl
attr_short attrs.ProductTypeId = refl
attr_short attrs.TopBarcode = refl
attr_short attrs.BottomBarcode = refl
attr_short attrs.Length = refl
attr_short attrs.Width = refl
attr_short attrs.Thickness = refl
attr_short attrs.ConveyorSpeed = refl
attr_short attrs.TopClearanceHeight = refl
attr_short attrs.BottomClearanceHeight = refl
attr_short attrs.Weight = refl
attr_short attrs.WorkOrderId = refl
attr_short attrs.BatchId = refl
attr_short attrs.TransferState = refl
attr_short attrs.SystemId = refl
attr_short attrs.BoardTransfer = refl
attr_short attrs.QueryId = refl
attr_short attrs.Barcode = refl
attr_short attrs.MagazineId = refl
attr_short attrs.SlotId = refl
attr_short attrs.SubBoards = refl
attr_short attrs.Pos = refl
attr_short attrs.Bc = refl
attr_short attrs.St = refl

pub attr_length : (attr : Attr) → length (attr_text attr) ≤ 30
attr_length attr = (short_from (attr_text attr) (attr_short attr)).short

why_short : (reason : Why) → is_short (why_text reason) ≡ true
why_short why.Unended = refl
why_short why.Comment = refl
why_short why.CData = refl
why_short why.Doctype = refl
why_short why.Instruction = refl
why_short why.Character = refl
why_short why.EndName = refl
why_short why.Repeated = refl
why_short why.Reference = refl
why_short why.LongValue = refl
why_short why.Deep = refl
why_short why.Many = refl

fault_short : (fault : Fault) → IsShort (fault_text fault) 60
fault_short (faults.Form reason) = let h = short_from (why_text reason) (why_short reason) in record { plain = h.plain; short = omega (arith, h.short) }
fault_short faults.Root = record { plain = refl; short = omega arith }
fault_short faults.Count = record { plain = refl; short = omega arith }
fault_short (faults.Missing attr) = joined (codes "missing ") (attr_text attr) 30 30 (short_from (codes "missing ") refl) (short_from (attr_text attr) (attr_short attr))
fault_short (faults.BadValue attr) = joined (codes "bad ") (attr_text attr) 30 30 (short_from (codes "bad ") refl) (short_from (attr_text attr) (attr_short attr))

number_short : (n : ℕ) → n < 2 ^ 64 → IsShort (decimal n) 20
number_short n fits = record { plain = plain-decimal n fits; short = length-decimal n fits }

pub IsText_refusal : (fault : Fault) (at : ℕ) → at < 2 ^ 64 → IsText (message_refusal_text fault at)
IsText_refusal fault at fits =
    let front = joined (fault_text fault) (codes " at ") 60 30 (fault_short fault) (short_from (codes " at ") refl) in
    let all = joined (fault_text fault ++ codes " at ") (decimal at) (60 + 30) 20 front (number_short at fits) in
    IsText-from_printable (message_refusal_text fault at) all.plain (omega (arith, all.short))

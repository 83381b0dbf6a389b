-- Which steps can be kept: an entry has fewer than 2^32 bytes.
use Rattle.std.specs.Prelude.{◌<◌, ◌≤◌, ◌^◌, ℕ, List, Option, IfSome, length}
use Rattle.hermes_vertical.specs.declared.message.Question.{Question}
use Rattle.hermes_vertical.specs.declared.message.Question.TheVariants as questions
use Rattle.book_entry.specs.declared.entry.OwnInput.{OwnInput}
use Rattle.book_entry.specs.declared.entry.OwnInput.TheVariants as own

-- a piece of bytes is short enough for an entry. All other inputs are by their types
abbrev pub IsShort : OwnInput → Type 0
IsShort (own.Bytes side bytes) = length bytes < 2 ^ 31
IsShort _ = Unit {0}

-- ---- what types say of texts

pub record IsFew (text : List ℕ) : Type 0 where
  pub few : length text ≤ 1024

abbrev pub IsFewQuestion : Question → Type 0
IsFewQuestion (questions.Barcode text) = IsFew text
IsFewQuestion (questions.Order text) = IsFew text
IsFewQuestion (questions.Place magazine slot) = IsFew magazine

abbrev pub AreFew : OwnInput → Type 0
AreFew (own.Insert barcode) = IfSome barcode IsFew
AreFew (own.Query barcode) = IsFew barcode
AreFew (own.Ask question) = IsFewQuestion question
AreFew (own.Answer query order) = IsFew order
AreFew (own.Sub id place barcode) = IfSome barcode IsFew
AreFew _ = Unit {0}

-- Which bytes are refused, where, and why.
use Rattle.std.specs.Prelude.{◌≡◌, ◌⊎◌, ℕ, ◌+◌, ◌-◌, ◌<◌, ◌≤◌, ◌==◌, ◌&&◌, Bool, cond, List, [], ◌∷◌, ◌++◌, length, take, drop, nat_lt, nat_eq, slice_index, codes}
use Rattle.std.specs.List.{AllByRecursion, starts_with}
use Rattle.hermes_element.specs.Plain.{Document, IsSpelledBy, IsDocument}
use Rattle.hermes_element.specs.Checks.{Fault, faults_of}
use Rattle.hermes_element.specs.declared.refusal.Why.{Why}
use Rattle.hermes_element.specs.declared.refusal.Why.TheVariants as why

-- ---- pass 1: the bytes have no plain form

-- some document goes on from these bytes
abbrev pub IsBegun : List ℕ → Type 0
IsBegun front = (rest : List ℕ) × IsDocument (front ++ rest)

-- the first `at` bytes are the longest front that some document goes on from
pub record FailsAt (bytes : List ℕ) (at : ℕ) : Type 0 where
  pub within : at ≤ length bytes
  pub begun : IsBegun (take at bytes)
  pub stuck : at < length bytes → IsBegun (take (at + 1) bytes) → ⊥

-- what follows a `<`
abbrev pub markup_reason : List ℕ → Why
markup_reason rest =
    cond (starts_with nat_eq rest (codes "!--")) why.Comment
    (cond (starts_with nat_eq rest (codes "![CDATA[")) why.CData
    (cond (starts_with nat_eq rest (codes "!DOCTYPE")) why.Doctype
    (cond (starts_with nat_eq rest (codes "?")) why.Instruction why.Character)))

abbrev pub is_after_open : List ℕ → ℕ → Bool
is_after_open bytes at = nat_lt 0 at && slice_index bytes (at - 1) == 60

-- the first reason that fits
abbrev pub shape_reason : List ℕ → ℕ → Why
shape_reason bytes at =
    cond (at == length bytes) why.Unended
    (cond (is_after_open bytes at) (markup_reason (drop at bytes)) why.Character)

pub record IsUnplain (bytes : List ℕ) (at : ℕ) (reason : Why) : Type 0 where
  pub unplain : IsDocument bytes → ⊥
  pub place : FailsAt bytes at
  pub first : reason ≡ shape_reason bytes at

-- ---- pass 2: the failing check of the least place

abbrev pub IsAmong : Fault → List Fault → Type 0
IsAmong fault [] = ⊥
IsAmong fault (first ∷ rest) = (first ≡ fault) ⊎ IsAmong fault rest

pub record IsLeast (faults : List Fault) (fault : Fault) : Type 0 where
  pub among : IsAmong fault faults
  pub least : AllByRecursion (λ other. fault.0 ≤ other.0) faults

pub record FailsCheck (bytes : List ℕ) (at : ℕ) (reason : Why) : Type 0 where
  pub document : Document
  pub spelled : IsSpelledBy document bytes
  pub fault : IsLeast (faults_of document) (at, reason)

abbrev pub IsRefused : List ℕ → ℕ → Why → Type 0
IsRefused bytes at reason = IsUnplain bytes at reason ⊎ FailsCheck bytes at reason

-- the bytes are refused, at an index of at most this
pub record IsRefusedBy (bytes : List ℕ) (most : ℕ) : Type 0 where
  pub at : ℕ
  pub reason : Why
  pub near : at ≤ most
  pub refused : IsRefused bytes at reason

-- ---- texts

abbrev pub why_text : Why → List ℕ
why_text why.Unended = codes "unended"
why_text why.Comment = codes "comment"
why_text why.CData = codes "cdata"
why_text why.Doctype = codes "doctype"
why_text why.Instruction = codes "instruction"
why_text why.Character = codes "character"
why_text why.EndName = codes "end name"
why_text why.Repeated = codes "repeated"
why_text why.Reference = codes "reference"
why_text why.LongValue = codes "long value"
why_text why.Deep = codes "deep"
why_text why.Many = codes "many attributes"

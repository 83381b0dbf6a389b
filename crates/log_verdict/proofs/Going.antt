-- How the reading of a log goes on, and how it ends.
use Rattle.std.proofs.Common.{◌≡◌, ◌≤◌, ℕ, List, [], ◌++◌, length, take, Option, None, Some, Ok, Err, option_map, refl, sym, ap, subst, ◌∙◌, append_assoc, append-nil, arith}
use Rattle.std.proofs.lemmas.List.{take-take, take-append-le}
use Rattle.std.specs.Str.Lines.{lines}
use Rattle.line_check.specs.declared.why.CheckError.{CheckError}
use Rattle.line_check.specs.declared.why.CheckError.TheVariants.{No, Memory}
use Rattle.line_check.specs.declared.why.Counts.{Counts}
use Rattle.line_check.specs.Log.{against}
use Rattle.line_check.specs.Checking as checking
use Rattle.log_verdict.specs.declared.log_reader.LogReader.{LogReader}
use Rattle.log_verdict.specs.declared.reading.LogError.TheVariants as errors
use Rattle.log_verdict.specs.LogReader.{Follows, Takes}
use Rattle.log_verdict.specs.Reading.{Ends, GoesOn, HasReadCause, log_error}

pub goes-first : (left : Option (List ℕ)) (reader : LogReader) → Follows [] reader → GoesOn left left reader
goes-first None reader follows = tt
goes-first (Some log) reader follows = record { bytes = []; parts = refl; follows = follows }

-- a piece is taken
pub goes-piece : (first left left' : Option (List ℕ)) (reader reader' : LogReader) (piece : List ℕ) → GoesOn first left reader → left ≡ option_map (λ rest. piece ++ rest) left'
    → ((bytes : List ℕ) → Follows bytes reader → Follows (bytes ++ piece) reader') → GoesOn first left' reader'
goes-piece None left left' reader reader' piece going gives takes = tt
goes-piece (Some log) None left' reader reader' piece going gives takes = absurd going
goes-piece (Some log) (Some rest) None reader reader' piece going gives takes = cc
goes-piece (Some log) (Some rest) (Some rest') reader reader' piece going gives takes =
    let same : rest ≡ piece ++ rest' = cc in
    record { bytes = going.bytes ++ piece; parts = append_assoc going.bytes piece rest' ∙ ap (λ (r : List ℕ). going.bytes ++ r) (sym same) ∙ going.parts; follows = takes going.bytes going.follows }

-- a reason comes in a piece, or memory was wanting in it
pub ends-error : (error : CheckError) (first left left' now : Option (List ℕ)) (reader reader' : LogReader) (piece : List ℕ) → GoesOn first left reader → left ≡ option_map (λ rest. piece ++ rest) left'
    → ((bytes : List ℕ) → Follows bytes reader → Takes (bytes ++ piece) reader' (Err error)) → Ends first now (Err (log_error error))
ends-error error None left left' now reader reader' piece going gives takes = tt
ends-error error (Some log) None left' now reader reader' piece going gives takes = absurd going
ends-error error (Some log) (Some rest) None now reader reader' piece going gives takes = cc
ends-error (No line why) (Some log) (Some rest) (Some rest') now reader reader' piece going gives takes =
    let same : rest ≡ piece ++ rest' = cc in
    let whole : log ≡ (going.bytes ++ piece) ++ rest' = sym going.parts ∙ ap (λ (r : List ℕ). going.bytes ++ r) same ∙ sym (append_assoc going.bytes piece rest') in
    ap (λ (l : List ℕ). against (lines l)) whole ∙ (takes going.bytes going.follows).whatever rest'
ends-error Memory (Some log) (Some rest) (Some rest') now reader reader' piece going gives takes = tt

-- a fault, and memory that was wanting, say nothing of the log
pub ends-read_fault : (first now : Option (List ℕ)) → Ends first now (Err errors.ReadFault)
ends-read_fault None now = tt
ends-read_fault (Some log) now = tt

pub ends-memory : (first now : Option (List ℕ)) → Ends first now (Err errors.Memory)
ends-memory None now = tt
ends-memory (Some log) now = tt

pub causes-error : (error : CheckError) (before now : ℕ) → before ≤ now → HasReadCause (Err (log_error error)) before now
causes-error (No line why) before now stays = record { stays = stays; fault = λ is. cc }
causes-error Memory before now stays = record { stays = stays; fault = λ is. cc }

-- the log is at its end
pub ends-ok : (counts : Counts) (first left left' : Option (List ℕ)) (reader : LogReader) → GoesOn first left reader → left' ≡ left → left ≡ option_map (λ _. []) left
    → ((bytes : List ℕ) → Follows bytes reader → checking.Ends (lines bytes) (Ok counts)) → Ends first left' (Ok counts)
ends-ok counts None left left' reader going stays gives finishes = tt
ends-ok counts (Some log) None left' reader going stays gives finishes = absurd going
ends-ok counts (Some log) (Some rest) left' reader going stays gives finishes =
    let same : rest ≡ [] = cc in
    let whole : going.bytes ≡ log = sym (append-nil going.bytes) ∙ ap (λ (r : List ℕ). going.bytes ++ r) (sym same) ∙ going.parts in
    let P : List ℕ → Type 0 = λ (l : List ℕ). checking.IsCounted (lines l) counts in
    (subst P whole (finishes going.bytes going.follows), stays ∙ ap Some same)

pub ends-last : (error : CheckError) (first left left' : Option (List ℕ)) (reader : LogReader) → GoesOn first left reader → left ≡ option_map (λ _. []) left
    → ((bytes : List ℕ) → Follows bytes reader → checking.Ends (lines bytes) (Err error)) → Ends first left' (Err (log_error error))
ends-last error None left left' reader going gives finishes = tt
ends-last error (Some log) None left' reader going gives finishes = absurd going
ends-last (No line why) (Some log) (Some rest) left' reader going gives finishes =
    let same : rest ≡ [] = cc in
    let whole : log ≡ going.bytes = sym going.parts ∙ ap (λ (r : List ℕ). going.bytes ++ r) same ∙ append-nil going.bytes in
    ap (λ (l : List ℕ). against (lines l)) whole ∙ finishes going.bytes going.follows
ends-last Memory (Some log) (Some rest) left' reader going gives finishes = tt

-- the front of a room that was lent out
pub front-room : (count len : ℕ) (front room rest whole : List ℕ) → count ≤ length room → length room ≤ len → front ≡ take count whole → whole ≡ take len (room ++ rest) → front ≡ take count room
front-room count len front room rest whole few fits is back =
    let within : count ≤ len = omega arith in
    is ∙ ap (take count) back ∙ take-take count len (room ++ rest) within ∙ rw take-append-le refl

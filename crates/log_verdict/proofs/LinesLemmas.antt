-- How std's `lines` cuts a text whose front holds no line end.
use Rattle.std.proofs.Common.{◌≡◌, ◌==◌, ◌<◌, ◌≤◌, ◌+◌, ◌-◌, ℕ, Bool, true, false, List, [], ◌∷◌, ◌++◌, length, take, refl, ap, ◌∙◌, append_assoc, arith, cond, if◌then◌else◌, length-append}
use Rattle.std.specs.List.{slice_split, onto_first, AllByRecursion}
use Rattle.std.proofs.Math.Seq.{take-append-add}
use Rattle.std.proofs.lemmas.Bool.Decides.{nat_tests}
use Rattle.std.proofs.lemmas.List.{length-take-le}
use Rattle.std.proofs.lemmas.List.Elements.{recursion_from_All, All-append}
use Rattle.std.proofs.lemmas.List.Splits.{slice_split_at, slice_split_none, slice_split-cons_no}
use Rattle.std.specs.Str.Lines.{lines, lines_of_parts, strip_carriage_return}
use Rattle.log_verdict.specs.LineEnds.{HasNoEnd}

abbrev is_end : ℕ → Bool
is_end b = b == 10

onto_first_parts : (b : ℕ) (parts : List (List ℕ)) → (first : List ℕ) × (others : List (List ℕ)) × (onto_first b parts ≡ first ∷ others)
onto_first_parts b [] = (b ∷ [], [], refl)
onto_first_parts b (part ∷ parts) = (b ∷ part, parts, refl)

pub cond_parts : (t : Bool) (b : ℕ) (parts : List (List ℕ)) → (first : List ℕ) × (others : List (List ℕ)) × (cond t ([] ∷ parts) (onto_first b parts) ≡ first ∷ others)
cond_parts true b parts = ([], parts, refl)
cond_parts false b parts = onto_first_parts b parts

-- there is always a first part
record Parts (bytes : List ℕ) : Type 0 where
  pub first : List ℕ
  pub others : List (List ℕ)
  pub split : slice_split is_end bytes ≡ first ∷ others

parts_of : (bytes : List ℕ) → Parts bytes
parts_of [] = record { first = []; others = []; split = refl }
parts_of (b ∷ bs) =
    let parts = cond_parts (is_end b) b (slice_split is_end bs) in
    record { first = parts.0; others = parts.1; split = parts.2 }

-- a front without a line end, its line end, and what follows
lines-end : (front rest : List ℕ) → HasNoEnd front → lines (front ++ 10 ∷ rest) ≡ strip_carriage_return front ∷ lines rest
lines-end front rest none =
    let parts = parts_of rest in
    rw (slice_split_at is_end front 10 rest none.none refl, parts.split) refl

-- a last line without its end
pub lines-last : (front : List ℕ) → HasNoEnd front → lines front ≡ (if length front == 0 then [] else front ∷ [])
lines-last front none = rw (slice_split_none is_end front none.none) refl

-- a line's rest, its end, and what follows, behind what was pending
pub lines-pending : (pending part rest : List ℕ) → HasNoEnd (pending ++ part) → lines (pending ++ ((part ++ 10 ∷ []) ++ rest)) ≡ strip_carriage_return (pending ++ part) ∷ lines rest
lines-pending pending part rest none =
    let text : pending ++ ((part ++ 10 ∷ []) ++ rest) ≡ (pending ++ part) ++ 10 ∷ rest = simp append_assoc in
    ap lines text ∙ lines-end (pending ++ part) rest none

strip_by : (t : Bool) (line : List ℕ) → length line ≤ length (if t then take (length line - 1) line else line) + 1
strip_by true line = omega (arith, length-take-le (length line - 1) line (omega arith))
strip_by false line = omega arith

-- at most one byte is dropped from a line
pub length-strip : (line : List ℕ) → length line ≤ length (strip_carriage_return line) + 1
length-strip line = strip_by _ line

-- a front without a line end goes into the first part
split-front : (front more first : List ℕ) (others : List (List ℕ)) → AllByRecursion (λ b. is_end b ≡ false) front → slice_split is_end more ≡ first ∷ others → slice_split is_end (front ++ more) ≡ (front ++ first) ∷ others
split-front [] more first others none split = split
split-front (b ∷ bs) more first others none split = slice_split-cons_no is_end b (bs ++ more) none.0 ∙ ap (onto_first b) (split-front bs more first others none.1 split)

-- the first line begins with these bytes
pub record StartsWith (front : List ℕ) (all : List (List ℕ)) : Type 0 where
  pub more : List ℕ
  pub others : List (List ℕ)
  pub starts : all ≡ (front ++ more) ∷ others

strip_front : (t : Bool) (front body : List ℕ) → 0 < length body → (more : List ℕ) × ((if t then take (length (front ++ body) - 1) (front ++ body) else (front ++ body)) ≡ front ++ more)
strip_front true front body some =
    let count : length (front ++ body) - 1 ≡ length front + (length body - 1) = omega (arith, length-append front body) in
    (take (length body - 1) body, ap (λ (n : ℕ). take n (front ++ body)) count ∙ take-append-add front body (length body - 1))
strip_front false front body some = (body, refl)

starts_parts : (front body : List ℕ) (others : List (List ℕ)) → 0 < length body → StartsWith front (lines_of_parts ((front ++ body) ∷ others))
starts_parts front body [] some =
    let long = length-append front body in
    let there : (length (front ++ body) == 0) ≡ false = grind (arith, nat_tests) in
    record { more = body; others = []; starts = rw there refl }
starts_parts front body (other ∷ others) some =
    let stripped = strip_front _ front body some in
    record { more = stripped.0; others = lines_of_parts (other ∷ others); starts = ap (λ (l : List ℕ). l ∷ lines_of_parts (other ∷ others)) stripped.1 }

-- a line without its end begins with each front of it that leaves a byte
pub lines-front : (front back more : List ℕ) → HasNoEnd (front ++ back) → 0 < length back → StartsWith front (lines ((front ++ back) ++ more))
lines-front front back more none some =
    let parts = parts_of more in
    let split = split-front (front ++ back) more parts.first parts.others (recursion_from_All (λ b. is_end b ≡ false) (front ++ back) none.none) parts.split in
    let whole : (front ++ back) ++ parts.first ≡ front ++ (back ++ parts.first) = append_assoc front back parts.first in
    rw (split, whole) (starts_parts front (back ++ parts.first) parts.others (omega (arith, some, length-append back parts.first)))

pub HasNoEnd-append : (front back : List ℕ) → HasNoEnd front → HasNoEnd back → HasNoEnd (front ++ back)
HasNoEnd-append front back one two = record { none = All-append (λ b. is_end b ≡ false) front back one.none two.none }

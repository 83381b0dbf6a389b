-- How std's `lines` cuts a text whose front holds no line end.
use Rattle.std.proofs.Common.{◌≡◌, ◌==◌, ◌<◌, ℕ, Bool, false, List, [], ◌∷◌, ◌++◌, length, refl, ap, ◌∙◌, arith, if◌then◌else◌, length-append}
use Rattle.std.specs.List.{slice_split, onto_first, AllByRecursion}
use Rattle.std.proofs.lemmas.Bool.Decides.{nat_tests}
use Rattle.std.proofs.lemmas.List.Elements.{recursion_from_All, All-append, All-from_recursion}
use Rattle.std.proofs.lemmas.List.Splits.{slice_split_at, slice_split_none, slice_split-cons_no}
use Rattle.std.specs.Str.Lines.{lines, lines_of_parts, strip_carriage_return}
use Rattle.log_verdict.proofs.LinesLemmas.{cond_parts, length-strip}
use Rattle.line_commands.specs.LineEnds.{HasNoEnd}

abbrev is_end : ℕ → Bool
is_end b = b == 10

-- there is always a first part
pub record Parts (bytes : List ℕ) : Type 0 where
  pub first : List ℕ
  pub others : List (List ℕ)
  pub split : slice_split is_end bytes ≡ first ∷ others

pub parts_of : (bytes : List ℕ) → Parts bytes
parts_of [] = record { first = []; others = []; split = refl }
parts_of (b ∷ bs) =
    let parts = cond_parts (is_end b) b (slice_split is_end bs) in
    record { first = parts.0; others = parts.1; split = parts.2 }

-- a front without a line end, its line end, and what follows
pub lines-end : (front rest : List ℕ) → HasNoEnd front → lines (front ++ 10 ∷ rest) ≡ strip_carriage_return front ∷ lines rest
lines-end front rest none =
    let parts = parts_of rest in
    rw (slice_split_at is_end front 10 rest none.none refl, parts.split) refl

-- a last line without its end
pub lines-last : (front : List ℕ) → HasNoEnd front → lines front ≡ (if length front == 0 then [] else front ∷ [])
lines-last front none = rw (slice_split_none is_end front none.none) refl

-- a front without a line end goes into the first part
split-front : (front more first : List ℕ) (others : List (List ℕ)) → AllByRecursion (λ b. is_end b ≡ false) front → slice_split is_end more ≡ first ∷ others → slice_split is_end (front ++ more) ≡ (front ++ first) ∷ others
split-front [] more first others none split = split
split-front (b ∷ bs) more first others none split = slice_split-cons_no is_end b (bs ++ more) none.0 ∙ ap (onto_first b) (split-front bs more first others none.1 split)

-- the first line has more than 4,096 bytes
pub record StartsLong (all : List (List ℕ)) : Type 0 where
  pub line : List ℕ
  pub others : List (List ℕ)
  pub starts : all ≡ line ∷ others
  pub long : 4096 < length line

long_parts : (first : List ℕ) (others : List (List ℕ)) → 4097 < length first → StartsLong (lines_of_parts (first ∷ others))
long_parts first [] long =
    let there : (length first == 0) ≡ false = grind (arith, nat_tests) in
    record { line = first; others = []; starts = rw there refl; long = omega arith }
long_parts first (other ∷ others) long = record { line = strip_carriage_return first; others = lines_of_parts (other ∷ others); starts = refl; long = omega (arith, length-strip first) }

pub lines-long : (front more : List ℕ) → HasNoEnd front → 4097 < length front → StartsLong (lines (front ++ more))
lines-long front more none long =
    let parts = parts_of more in
    let split = split-front front more parts.first parts.others (recursion_from_All (λ b. is_end b ≡ false) front none.none) parts.split in
    rw split (long_parts (front ++ parts.first) parts.others (omega (arith, length-append front parts.first)))

pub HasNoEnd-nil : HasNoEnd []
HasNoEnd-nil = record { none = All-from_recursion (λ b. is_end b ≡ false) [] tt }

pub HasNoEnd-append : (front back : List ℕ) → HasNoEnd front → HasNoEnd back → HasNoEnd (front ++ back)
HasNoEnd-append front back one two = record { none = All-append (λ b. is_end b ≡ false) front back one.none two.none }

-- The place that is found is that of the first board with the barcodes, and where none is found no board has them.
use Rattle.std.proofs.Common.{◌≡◌, refl, sym, subst, arith, zero, suc, ℕ, ◌+◌, ◌<◌, Bool, true, false, List, [], ◌∷◌, Option, Some, None, IfSome, IfNone, ◌∙◌, slice_get, if◌then◌else◌}
use Rattle.std.proofs.lemmas.Option.{IfSome_then, same_Some, none-some}
use Rattle.board_record.specs.declared.record.Record.{Record}
use Rattle.forecast_query.specs.Find.{IsFirstMatch, MatchesNone, first_match, has_barcodes, is_nothing, place_from}

-- what is asked for, told of a list whose front has a number
record IsFirstFrom (number : ℕ) (kept : List Record) (top bottom : Option (List ℕ)) (place : ℕ) : Type 0 where
  index : ℕ
  counted : place ≡ number + index
  there : (board : Record) × (slice_get kept index ≡ Some board) × (has_barcodes top bottom board ≡ true)
  first : (before : ℕ) (board : Record) → before < index → slice_get kept before ≡ Some board → has_barcodes top bottom board ≡ false

-- a board that has not the barcodes stands before those behind it
earlier : (board : Record) (kept : List Record) (top bottom : Option (List ℕ)) (index : ℕ) → has_barcodes top bottom board ≡ false
    → ((before : ℕ) (other : Record) → before < index → slice_get kept before ≡ Some other → has_barcodes top bottom other ≡ false)
    → (before : ℕ) (other : Record) → before < suc index → slice_get (board ∷ kept) before ≡ Some other → has_barcodes top bottom other ≡ false
earlier board kept top bottom index lacks behind zero other within at =
    let P : Record → Type 0 = λ (b : Record). has_barcodes top bottom b ≡ false in subst P (same_Some board other at) lacks
earlier board kept top bottom index lacks behind (suc before) other within at = behind before other (omega arith) at

found_step : (number : ℕ) (board : Record) (kept : List Record) (top bottom : Option (List ℕ)) (has : Bool) → has_barcodes top bottom board ≡ has
    → IfSome (place_from (number + 1) kept top bottom) (IsFirstFrom (number + 1) kept top bottom)
    → IfSome (if has then Some number else place_from (number + 1) kept top bottom) (IsFirstFrom number (board ∷ kept) top bottom)
found_step number board kept top bottom true is later = record { index = 0; counted = omega arith; there = (board, refl, is); first = λ before other within at. absurd (omega arith) }
found_step number board kept top bottom false is later =
    IfSome_then (place_from (number + 1) kept top bottom) later (λ (place : ℕ) (w : IsFirstFrom (number + 1) kept top bottom place).
    record { index = suc w.index; counted = omega arith; there = w.there; first = earlier board kept top bottom w.index is w.first })

found_from : (number : ℕ) (kept : List Record) (top bottom : Option (List ℕ)) → IfSome (place_from number kept top bottom) (IsFirstFrom number kept top bottom)
found_from number [] top bottom = tt
found_from number (board ∷ kept) top bottom = found_step number board kept top bottom (has_barcodes top bottom board) refl (found_from (number + 1) kept top bottom)

lacks_step : (number : ℕ) (board : Record) (kept : List Record) (top bottom : Option (List ℕ)) (has : Bool) → has_barcodes top bottom board ≡ has
    → (place_from (number + 1) kept top bottom ≡ None → (place : ℕ) (other : Record) → slice_get kept place ≡ Some other → has_barcodes top bottom other ≡ false)
    → (if has then Some number else place_from (number + 1) kept top bottom) ≡ None
    → (place : ℕ) (other : Record) → slice_get (board ∷ kept) place ≡ Some other → has_barcodes top bottom other ≡ false
lacks_step number board kept top bottom true is later none place other at = absurd (none-some number (sym none))
lacks_step number board kept top bottom false is later none zero other at =
    let P : Record → Type 0 = λ (b : Record). has_barcodes top bottom b ≡ false in subst P (same_Some board other at) is
lacks_step number board kept top bottom false is later none (suc place) other at = later none place other at

lacks_from : (number : ℕ) (kept : List Record) (top bottom : Option (List ℕ)) → place_from number kept top bottom ≡ None
    → (place : ℕ) (other : Record) → slice_get kept place ≡ Some other → has_barcodes top bottom other ≡ false
lacks_from number [] top bottom none = λ place other at. absurd (none-some other at)
lacks_from number (board ∷ kept) top bottom none =
    lacks_step number board kept top bottom (has_barcodes top bottom board) refl (lacks_from (number + 1) kept top bottom) none

-- from the front, where something is asked for
at_front : (kept : List Record) (top bottom : Option (List ℕ)) (place : ℕ) → is_nothing top bottom ≡ false → IsFirstFrom 0 kept top bottom place → IsFirstMatch kept top bottom place
at_front kept top bottom place asked w =
    let counted : w.index ≡ place = omega arith in
    let P : ℕ → Type 0 = λ (k : ℕ). (board : Record) × (slice_get kept k ≡ Some board) × (has_barcodes top bottom board ≡ true) in
    record { asked = asked; there = subst P counted w.there; first = λ before board within at. w.first before board (omega arith) at }

first_step : (kept : List Record) (top bottom : Option (List ℕ)) (nothing : Bool) → is_nothing top bottom ≡ nothing
    → IfSome (if nothing then None else place_from 0 kept top bottom) (IsFirstMatch kept top bottom)
first_step kept top bottom true is = tt
first_step kept top bottom false is = IfSome_then (place_from 0 kept top bottom) (found_from 0 kept top bottom) (λ (place : ℕ) (w : IsFirstFrom 0 kept top bottom place). at_front kept top bottom place is w)

-- the place that is found is that of the first match
finds_first : (kept : List Record) (top bottom : Option (List ℕ)) → IfSome (first_match kept top bottom) (IsFirstMatch kept top bottom)
finds_first kept top bottom = first_step kept top bottom (is_nothing top bottom) refl

none_step : (kept : List Record) (top bottom : Option (List ℕ)) (nothing : Bool) → is_nothing top bottom ≡ nothing
    → (if nothing then None else place_from 0 kept top bottom) ≡ None → MatchesNone kept top bottom
none_step kept top bottom true is none = λ asked. absurd (let h : true ≡ false = sym is ∙ asked in cc)
none_step kept top bottom false is none = λ asked. lacks_from 0 kept top bottom none

-- where no place is found no board matches
finds_none : (kept : List Record) (top bottom : Option (List ℕ)) → first_match kept top bottom ≡ None → MatchesNone kept top bottom
finds_none kept top bottom = none_step kept top bottom (is_nothing top bottom) refl

-- what is answered is the first match
pub answers_first : (kept : List Record) (top bottom : Option (List ℕ)) (answer : Option ℕ) → answer ≡ first_match kept top bottom → IfSome answer (IsFirstMatch kept top bottom)
answers_first kept top bottom answer is = let P : Option ℕ → Type 0 = λ (a : Option ℕ). IfSome a (IsFirstMatch kept top bottom) in subst P (sym is) (finds_first kept top bottom)

-- none is answered where none matches
pub answers_none : (kept : List Record) (top bottom : Option (List ℕ)) (answer : Option ℕ) → answer ≡ first_match kept top bottom → IfNone answer (MatchesNone kept top bottom)
answers_none kept top bottom None is = finds_none kept top bottom (sym is)
answers_none kept top bottom (Some _) is = tt

-- The marks of an id along a line are those of the machines that have it.
use Rattle.std.proofs.Common.{◌≡◌, ◌≢◌, refl, sym, ◌∙◌, ap, arith, zero, suc, ℕ, ◌+◌, ◌<◌, ◌==◌, Bool, true, false, ◌&&◌, ◌||◌, List, [], ◌∷◌, ◌++◌, eq-eqb, ne_eqb}
use Rattle.std.proofs.lemmas.Bool.{and_left}
use mathlib.Core.Bool.{or-false, or_assoc}
use Rattle.standings.specs.declared.mark.Mark.{Mark}
use Rattle.standings.specs.declared.mark.Mark.TheVariants.{Kept, Outlet, Intake}
use Rattle.standings.specs.Marks.{Owned, Where, kept, outlet, intake, has_at, has_id, has_mark, is_held, is_same_mark, mark_at, mark_if, marks_at, marks_from, marks_of, owned_at}

has_mark-append : (mark : Mark) (front back : List Mark) → has_mark mark (front ++ back) ≡ (has_mark mark front || has_mark mark back)
has_mark-append mark [] back = refl
has_mark-append mark (first ∷ front) back =
    ap (λ (b : Bool). is_same_mark first mark || b) (has_mark-append mark front back)
    ∙ sym (or_assoc (is_same_mark first mark) (has_mark mark front) (has_mark mark back))

abbrev of_three : Where → Bool → Bool → Bool → Bool
of_three kept a b c = a
of_three outlet a b c = b
of_three intake a b c = c

and_false : (b : Bool) → false ≡ (b && false)
and_false true = refl
and_false false = refl

alone : (b : Bool) → (b || false) ≡ (b && true)
alone true = refl
alone false = refl

-- of the three marks of a machine one can be this
among_three : (place : Where) (machine other : ℕ) (a b c : Bool) →
    has_mark (mark_at place other) (mark_if a (Kept machine) ++ (mark_if b (Outlet machine) ++ mark_if c (Intake machine))) ≡ ((machine == other) && of_three place a b c)
among_three kept machine other true true true = alone (machine == other)
among_three kept machine other true true false = alone (machine == other)
among_three kept machine other true false true = alone (machine == other)
among_three kept machine other true false false = alone (machine == other)
among_three kept machine other false true true = and_false (machine == other)
among_three kept machine other false true false = and_false (machine == other)
among_three kept machine other false false true = and_false (machine == other)
among_three kept machine other false false false = and_false (machine == other)
among_three outlet machine other true true true = alone (machine == other)
among_three outlet machine other true true false = alone (machine == other)
among_three outlet machine other true false true = and_false (machine == other)
among_three outlet machine other true false false = and_false (machine == other)
among_three outlet machine other false true true = alone (machine == other)
among_three outlet machine other false true false = alone (machine == other)
among_three outlet machine other false false true = and_false (machine == other)
among_three outlet machine other false false false = and_false (machine == other)
among_three intake machine other true true true = alone (machine == other)
among_three intake machine other true true false = and_false (machine == other)
among_three intake machine other true false true = alone (machine == other)
among_three intake machine other true false false = and_false (machine == other)
among_three intake machine other false true true = alone (machine == other)
among_three intake machine other false true false = and_false (machine == other)
among_three intake machine other false false true = alone (machine == other)
among_three intake machine other false false false = and_false (machine == other)

at_machine : (place : Where) (machine other : ℕ) (owned : Owned) (id : ℕ) → has_mark (mark_at place other) (marks_at machine owned id) ≡ ((machine == other) && has_at place owned id)
at_machine kept machine other owned id = among_three kept machine other (has_id id owned.kept) (is_held id owned.held) (is_held id owned.taking)
at_machine outlet machine other owned id = among_three outlet machine other (has_id id owned.kept) (is_held id owned.held) (is_held id owned.taking)
at_machine intake machine other owned id = among_three intake machine other (has_id id owned.kept) (is_held id owned.held) (is_held id owned.taking)

-- a machine has no mark of another
elsewhere : (place : Where) (machine other : ℕ) (owned : Owned) (id : ℕ) → machine ≢ other → has_mark (mark_at place other) (marks_at machine owned id) ≡ false
elsewhere place machine other owned id apart = at_machine place machine other owned id ∙ and_left (machine == other) (has_at place owned id) (ne_eqb machine other apart)

-- machines have no mark of one before them
none_before : (place : Where) (machine other : ℕ) (line : List Owned) (id : ℕ) → other < machine → has_mark (mark_at place other) (marks_from machine line id) ≡ false
none_before place machine other [] id before = refl
none_before place machine other (owned ∷ line) id before =
    let apart : machine ≢ other = λ (e : machine ≡ other). omega arith in
    has_mark-append (mark_at place other) (marks_at machine owned id) (marks_from (machine + 1) line id)
    ∙ ap (λ (b : Bool). b || has_mark (mark_at place other) (marks_from (machine + 1) line id)) (elsewhere place machine other owned id apart)
    ∙ none_before place (machine + 1) other line id (omega arith)

found_at : (place : Where) (machine before : ℕ) (line : List Owned) (id : ℕ) → has_mark (mark_at place (machine + before)) (marks_from machine line id) ≡ has_at place (owned_at line before) id
found_at kept machine before [] id = refl
found_at outlet machine before [] id = refl
found_at intake machine before [] id = refl
found_at place machine zero (owned ∷ line) id =
    has_mark-append (mark_at place (machine + 0)) (marks_at machine owned id) (marks_from (machine + 1) line id)
    ∙ ap (λ (b : Bool). has_mark (mark_at place (machine + 0)) (marks_at machine owned id) || b) (none_before place (machine + 1) (machine + 0) line id (omega arith))
    ∙ or-false (has_mark (mark_at place (machine + 0)) (marks_at machine owned id))
    ∙ at_machine place machine (machine + 0) owned id
    ∙ rw (eq-eqb machine (machine + 0) (omega arith)) refl
found_at place machine (suc before) (owned ∷ line) id =
    let apart : machine ≢ machine + suc before = λ (e : machine ≡ machine + suc before). omega arith in
    let next : machine + suc before ≡ (machine + 1) + before = omega arith in
    has_mark-append (mark_at place (machine + suc before)) (marks_at machine owned id) (marks_from (machine + 1) line id)
    ∙ ap (λ (b : Bool). b || has_mark (mark_at place (machine + suc before)) (marks_from (machine + 1) line id)) (elsewhere place machine (machine + suc before) owned id apart)
    ∙ ap (λ (n : ℕ). has_mark (mark_at place n) (marks_from (machine + 1) line id)) next
    ∙ found_at place (machine + 1) before line id

-- a mark of an id stands along a line exactly where its machine has the id in its place
pub marks_are_found : (place : Where) (before : ℕ) (line : List Owned) (id : ℕ) → has_mark (mark_at place (before + 1)) (marks_of line id) ≡ has_at place (owned_at line before) id
marks_are_found place before line id =
    let number : before + 1 ≡ 1 + before = omega arith in
    ap (λ (n : ℕ). has_mark (mark_at place n) (marks_of line id)) number ∙ found_at place 1 before line id

-- The marks of a line some of whose machines have stepped: at the others they are as they were.
use Rattle.std.proofs.Common.{◌≡◌, ◌∙◌, ◌+◌, ◌-◌, ◌<◌, ◌≤◌, ◌++◌, ℕ, zero, suc, Bool, true, false, List, [], ◌∷◌, drop, take, refl, sym, ap, arith, append_assoc, lt-ltb, ne_eqb}
use Rattle.std.specs.Prelude.{nat_eq, nat_lt}
use Rattle.std.specs.List.{AllByRecursion}
use Rattle.std.proofs.lemmas.Bool.Decides.{nat_tests}
use Rattle.standings.specs.Marks.{Owned, has_id, is_held, mark_if, marks_at, marks_from, marks_of}
use Rattle.standings.specs.declared.mark.Mark.{Mark}
use Rattle.standings.specs.declared.mark.Mark.TheVariants.{Kept, Outlet, Intake}
use Rattle.line_step.proofs.Ascending.{choose_false}
use Rattle.line_marks.specs.Indexed.{above, below, machine_of, patched}
use Rattle.line_marks.specs.Stepped.{owned_between}
use Rattle.line_marks.proofs.Restored.{between_is, owned_over, owned_with}

-- ---- marks of one machine, and what follows them

abbrev AreOf : ℕ → List Mark → Type 0
AreOf machine marks = AllByRecursion (λ (mark : Mark). machine_of mark ≡ machine) marks

are_of : (machine : ℕ) (kept held taking : Bool) → AreOf machine (mark_if kept (Kept machine) ++ (mark_if held (Outlet machine) ++ mark_if taking (Intake machine)))
are_of machine true true true = (refl, (refl, (refl, tt)))
are_of machine true true false = (refl, (refl, tt))
are_of machine true false true = (refl, (refl, tt))
are_of machine true false false = (refl, tt)
are_of machine false true true = (refl, (refl, tt))
are_of machine false true false = (refl, tt)
are_of machine false false true = (refl, tt)
are_of machine false false false = tt

at_are_of : (machine : ℕ) (own : Owned) (id : ℕ) → AreOf machine (marks_at machine own id)
at_are_of machine own id = are_of machine (has_id id own.kept) (is_held id own.held) (is_held id own.taking)

not_below : (a b : ℕ) → b ≤ a → nat_lt a b ≡ false
not_below a b h = grind (arith, nat_tests)

below_own : (first machine : ℕ) (marks rest : List Mark) → AreOf machine marks → machine < first → below first (marks ++ rest) ≡ marks ++ below first rest
below_own first machine [] rest of h = refl
below_own first machine (mark ∷ marks) rest of h =
    ap (λ (test : Bool). mark_if test mark ++ below first (marks ++ rest)) (lt-ltb (machine_of mark) first (omega (arith, of.0, h))) ∙ ap (λ (more : List Mark). mark ∷ more) (below_own first machine marks rest of.1 h)

below_none : (first machine : ℕ) (marks rest : List Mark) → AreOf machine marks → first ≤ machine → below first (marks ++ rest) ≡ below first rest
below_none first machine [] rest of h = refl
below_none first machine (mark ∷ marks) rest of h =
    ap (λ (test : Bool). mark_if test mark ++ below first (marks ++ rest)) (not_below (machine_of mark) first (omega (arith, of.0, h))) ∙ below_none first machine marks rest of.1 h

above_own : (last machine : ℕ) (marks rest : List Mark) → AreOf machine marks → last < machine → above last (marks ++ rest) ≡ marks ++ above last rest
above_own last machine [] rest of h = refl
above_own last machine (mark ∷ marks) rest of h =
    ap (λ (test : Bool). mark_if test mark ++ above last (marks ++ rest)) (lt-ltb last (machine_of mark) (omega (arith, of.0, h))) ∙ ap (λ (more : List Mark). mark ∷ more) (above_own last machine marks rest of.1 h)

above_none : (last machine : ℕ) (marks rest : List Mark) → AreOf machine marks → machine ≤ last → above last (marks ++ rest) ≡ above last rest
above_none last machine [] rest of h = refl
above_none last machine (mark ∷ marks) rest of h =
    ap (λ (test : Bool). mark_if test mark ++ above last (marks ++ rest)) (not_below last (machine_of mark) (omega (arith, of.0, h))) ∙ above_none last machine marks rest of.1 h

-- ---- marks of machines from a number on

none_below : (first number : ℕ) (line : List Owned) (id : ℕ) → first ≤ number → below first (marks_from number line id) ≡ []
none_below first number [] id h = refl
none_below first number (own ∷ line) id h = below_none first number (marks_at number own id) (marks_from (number + 1) line id) (at_are_of number own id) h ∙ none_below first (number + 1) line id (omega (arith, h))

all_above : (last number : ℕ) (line : List Owned) (id : ℕ) → last < number → above last (marks_from number line id) ≡ marks_from number line id
all_above last number [] id h = refl
all_above last number (own ∷ line) id h =
    above_own last number (marks_at number own id) (marks_from (number + 1) line id) (at_are_of number own id) h
    ∙ ap (λ (more : List Mark). marks_at number own id ++ more) (all_above last (number + 1) line id (omega (arith, h)))

-- ---- where the machines that stepped have begun

over : (count number last : ℕ) (before now : List Owned) (id : ℕ) → last + 1 ≡ number + count → owned_over (take count before) now ≡ before
    → marks_from number now id ≡ marks_from number (take count now) id ++ above last (marks_from number before id)
over zero number last before now id is same = ap (λ (line : List Owned). marks_from number line id) same ∙ sym (all_above last number before id (omega (arith, is)))
over (suc count) number last [] [] id is same = refl
over (suc count) number last [] (mine ∷ now) id is same = let none = same in cc
over (suc count) number last (own ∷ before) [] id is same = let none = same in cc
over (suc count) number last (own ∷ before) (mine ∷ now) id is same =
    ap (λ (more : List Mark). marks_at number mine id ++ more) (over count (number + 1) last before now id (omega (arith, is)) (ap (drop 1) same))
    ∙ sym (append_assoc (marks_at number mine id) (marks_from (number + 1) (take count now) id) (above last (marks_from (number + 1) before id)))
    ∙ ap (λ (more : List Mark). marks_from number (mine ∷ take count now) id ++ more) (sym (above_none last number (marks_at number own id) (marks_from (number + 1) before id) (at_are_of number own id) (omega (arith, is))))

-- ---- and where they are still to come

-- the marks are those of the machines before `first`, of some machines from there on, and of those behind `last`
abbrev AreMarks : ℕ → ℕ → List Mark → List Mark → List Mark → Type 0
AreMarks first last now middle before = now ≡ below first before ++ (middle ++ above last before)

head_same : (a b : Owned) (behind others : List Owned) → a ∷ behind ≡ b ∷ others → a ≡ b
head_same a b behind others same = cc

abbrev none_owned : List Owned
none_owned = []

take_none : (count : ℕ) → take count none_owned ≡ none_owned
take_none zero = refl
take_none (suc count) = refl

with_ : (place count number first last : ℕ) (before now : List Owned) (id : ℕ) → first ≡ number + place → last + 1 ≡ first + count → owned_with (suc place) (take count (drop place before)) now ≡ before
    → AreMarks first last (marks_from number now id) (marks_from first (take count (drop place now)) id) (marks_from number before id)
with_ zero count number first last before now id is end same =
    over count number last before now id (omega (arith, is, end)) same
    ∙ ap (λ (n : ℕ). marks_from n (take count now) id ++ above last (marks_from number before id)) (omega (arith, is))
    ∙ ap (λ (front : List Mark). front ++ (marks_from first (take count now) id ++ above last (marks_from number before id))) (sym (none_below first number before id (omega (arith, is))))
with_ (suc place) count number first last [] [] id is end same = sym (ap (λ (line : List Owned). marks_from first line id ++ []) (take_none count))
with_ (suc place) count number first last [] (mine ∷ now) id is end same = let none = same in cc
with_ (suc place) count number first last (own ∷ before) [] id is end same = let none = same in cc
with_ (suc place) count number first last (own ∷ before) (mine ∷ now) id is end same =
    let front = marks_at number own id in
    let rest = marks_from (number + 1) before id in
    let middle = marks_from first (take count (drop place now)) id in
    ap (λ (o : Owned). marks_at number o id ++ marks_from (number + 1) now id) (head_same mine own _ _ same)
    ∙ ap (λ (more : List Mark). front ++ more) (with_ place count (number + 1) first last before now id (omega (arith, is)) end (ap (drop 1) same))
    ∙ sym (append_assoc front (below first rest) (middle ++ above last rest))
    ∙ ap (λ (more : List Mark). more ++ (middle ++ above last rest)) (sym (below_own first number front rest (at_are_of number own id) (omega (arith, is))))
    ∙ ap (λ (more : List Mark). below first (front ++ rest) ++ (middle ++ more)) (sym (above_none last number front rest (at_are_of number own id) (omega (arith, is, end))))

-- ---- of a whole line

pub patched_is : (first last : ℕ) (before now : List Owned) (id : ℕ) → first ≤ last + 1 → owned_with first (owned_between first last before) now ≡ before → marks_of now id ≡ patched first last now (marks_of before id) id
patched_is zero last before now id h same = ap (λ (line : List Owned). marks_of line id) same
patched_is (suc place) last before now id h same =
    let count = (last + 1) - suc place in
    let counted : last + 1 ≡ suc place + count = omega (arith, h) in
    let remembered = between_is place last count before refl in
    let there = between_is place last count now refl in
    with_ place count 1 (suc place) last before now id (omega arith) counted (ap (λ (owns : List Owned). owned_with (suc place) owns now) (sym remembered) ∙ same)
    ∙ ap (λ (middle : List Owned). below (suc place) (marks_of before id) ++ (marks_from (suc place) middle id ++ above last (marks_of before id))) (sym there)
    ∙ sym (choose_false (nat_eq (suc place) 0) (marks_of before id) (below (suc place) (marks_of before id) ++ (marks_from (suc place) (owned_between (suc place) last now) id ++ above last (marks_of before id))) (ne_eqb (suc place) 0 (λ e. omega (arith, e))))

-- The first record of an id.
use Rattle.std.proofs.Common.{◌≡◌, ◌∙◌, ◌<◌, ◌≤◌, ◌==◌, ℕ, zero, suc, Bool, true, false, List, [], ◌∷◌, Option, Some, None, length, not, get_or, refl, ap, arith, sym, if◌then◌else◌, ◌++◌}
use Rattle.std.specs.Prelude.{IfSome, position, slice_get, slice_set}
use Rattle.std.specs.List.{position_or_len}
use Rattle.std.proofs.lemmas.List.Quantifiers.{position-Some}
use Rattle.std.proofs.lemmas.List.Sums.{fails_before_first}
use Rattle.std.proofs.lemmas.Bool.{false≢true}
use Rattle.std.proofs.lemmas.Grind.{common_steps}
use Rattle.board_record.specs.declared.record.Record.{Record}
use Rattle.board_record.specs.declared.sub_board.SubBoard.{SubBoard}
use Rattle.board_record.specs.SubBoards.{is_full}
use Rattle.node_core.specs.Boards.{IsFirstAt, first_kept, first_passes, is_kept, takes_sub}

abbrev has : ℕ → Record → Bool
has id board = board.id == id

here : (id : ℕ) (board : Record) (boards : List Record) → board.id == id ≡ true → IsFirstAt id (board ∷ boards) 0
here id board boards is = record {
  within = omega arith;
  is_kept = rw is refl;
  found = rw is refl;
  removed = rw is refl;
  replaced = λ other. rw is refl;
  marked = λ quality. rw is refl;
  subbed = λ sub. rw is refl;
  roomy = λ sub. rw is refl;
}

-- the records with the one at a place changed so
abbrev changed_at : List Record → ℕ → (Record → Record) → List Record
changed_at boards place change =
    elim (slice_get boards place) [
      | None ↦ boards
      | Some board ↦ slice_set boards place (change board)
    ]

changed-later : (board : Record) (boards : List Record) (k : ℕ) (change : Record → Record) (there : Option Record) → slice_get boards k ≡ there → changed_at (board ∷ boards) (suc k) change ≡ board ∷ changed_at boards k change
changed-later board boards k change None is = rw (is, changed_at) refl
changed-later board boards k change (Some found) is = rw (is, changed_at) refl

later : (id : ℕ) (board : Record) (boards : List Record) (k : ℕ) → board.id == id ≡ false → IsFirstAt id boards k → IsFirstAt id (board ∷ boards) (suc k)
later id board boards k not first = record {
  within = omega (arith, first.within);
  is_kept = rw not first.is_kept;
  found = rw not first.found;
  removed = rw not (ap (λ (xs : List Record). board ∷ xs) first.removed);
  replaced = λ other. rw not (ap (λ (xs : List Record). board ∷ xs) (first.replaced other));
  marked = λ quality. rw not (changed-later board boards k (λ r. record r { quality = quality }) (slice_get boards k) refl ∙ ap (λ (xs : List Record). board ∷ xs) (first.marked quality));
  subbed = λ sub. rw not (changed-later board boards k (λ r. record r { subs = r.subs ++ sub ∷ [] }) (slice_get boards k) refl ∙ ap (λ (xs : List Record). board ∷ xs) (first.subbed sub));
  roomy = λ sub. rw not (first.roomy sub);
}

-- the first that passes the test is the first of the id
first_at : (id : ℕ) (kept : List Record) (place : ℕ) (d : Record) → place < length kept → has id (get_or kept place d) ≡ true → ((k : ℕ) → k < place → has id (get_or kept k d) ≡ false) → IsFirstAt id kept place
first_at id [] place d inside is before = let never : ⊥ = omega (arith, inside) in absurd never
first_at id (board ∷ boards) zero d inside is before = here id board boards is
first_at id (board ∷ boards) (suc k) d inside is before =
    later id board boards k (before 0 (omega arith)) (first_at id boards k d (omega (arith, inside)) is (λ j less. before (suc j) (omega (arith, less))))

some_first : (id : ℕ) (kept : List Record) (place : ℕ) (d : Record) → position (has id) kept ≡ Some place → IsFirstAt id kept place
some_first id kept place d is = let at = position-Some (has id) kept place d is in first_at id kept place d at.0 at.1 at.2

never_in_none : (id place : ℕ) → position (has id) [] ≡ Some place → ⊥
never_in_none id place is = let h : None ≡ Some place = is in cc

pub position_first : (id : ℕ) (kept : List Record) (found : Option ℕ) → position (λ (b : Record). b.id == id) kept ≡ found → IfSome found (IsFirstAt id kept)
position_first id kept None is = tt
position_first id [] (Some place) is = absurd (never_in_none id place is)
position_first id (board ∷ boards) (Some place) is = some_first id (board ∷ boards) place board is

-- where none passes, none is kept
none_kept : (id : ℕ) (kept : List Record) (d : Record) → ((k : ℕ) → k < length kept → has id (get_or kept k d) ≡ false) → is_kept id kept ≡ false
none_kept id [] d none = refl
none_kept id (board ∷ boards) d none = rw (none 0 (omega arith)) (none_kept id boards d (λ k inside. none (suc k) (omega (arith, inside))))

all_fail : (id : ℕ) (kept : List Record) (d : Record) → position (has id) kept ≡ None → (k : ℕ) → k < length kept → has id (get_or kept k d) ≡ false
all_fail id kept d is k inside =
    let past : length kept ≤ position_or_len (has id) kept = grind (arith, common_steps) in
    fails_before_first (has id) kept k d (omega (arith, past, inside))

pub position_none : (id : ℕ) (kept : List Record) → position (λ (b : Record). b.id == id) kept ≡ None → is_kept id kept ≡ false
position_none id [] is = refl
position_none id (board ∷ boards) is = none_kept id (board ∷ boards) board (all_fail id (board ∷ boards) board is)

-- nor does one pass a test
none_passes : (id : ℕ) (test : Record → Bool) (kept : List Record) → is_kept id kept ≡ false → first_passes id test kept ≡ false
none_passes id test [] none = refl
none_passes id test (board ∷ boards) none = by (board.id == id) (none_passes id test boards) none where
  by : (same : Bool) → (is_kept id boards ≡ false → first_passes id test boards ≡ false) → (if same then true else is_kept id boards) ≡ false → (if same then test board else first_passes id test boards) ≡ false
  by true later none = absurd (false≢true (sym none))
  by false later none = later none

-- a record that passes is kept
pub passing_kept : (id : ℕ) (test : Record → Bool) (kept : List Record) → first_passes id test kept ≡ true → is_kept id kept ≡ true
passing_kept id test kept passes = by (is_kept id kept) refl where
  by : (found : Bool) → is_kept id kept ≡ found → is_kept id kept ≡ true
  by true is = is
  by false is = absurd (false≢true (sym (none_passes id test kept is) ∙ passes))

pub takes_kept : (id : ℕ) (sub : SubBoard) (kept : List Record) → takes_sub id sub kept ≡ true → is_kept id kept ≡ true
takes_kept id sub kept takes = passing_kept id (λ board. not (is_full board.subs sub)) kept takes

pub position_roomless : (id : ℕ) (kept : List Record) → position (λ (b : Record). b.id == id) kept ≡ None → (sub : SubBoard) → takes_sub id sub kept ≡ false
position_roomless id kept is sub = none_passes id (λ board. not (is_full board.subs sub)) kept (position_none id kept is)

-- nor is one found
none_found : (id : ℕ) (kept : List Record) → is_kept id kept ≡ false → first_kept id kept ≡ None
none_found id [] none = refl
none_found id (board ∷ boards) none = by (board.id == id) (none_found id boards) none where
  by : (same : Bool) → (is_kept id boards ≡ false → first_kept id boards ≡ None)
      → (if same then true else is_kept id boards) ≡ false
      → (if same then Some board else first_kept id boards) ≡ None
  by true later none = absurd (false≢true (sym none))
  by false later none = later none

pub position_missing : (id : ℕ) (kept : List Record)
    → position (λ (b : Record). b.id == id) kept ≡ None → first_kept id kept ≡ None
position_missing id kept is = none_found id kept (position_none id kept is)

-- where none is found, none is kept
pub found_none : (id : ℕ) (kept : List Record) → first_kept id kept ≡ None
    → is_kept id kept ≡ false
found_none id [] none = refl
found_none id (board ∷ boards) none = by (board.id == id) (found_none id boards) none where
  by : (same : Bool) → (first_kept id boards ≡ None → is_kept id boards ≡ false)
      → (if same then Some board else first_kept id boards) ≡ None
      → (if same then true else is_kept id boards) ≡ false
  by true later none = cc
  by false later none = later none

-- What a book knows of the ledger.
use Rattle.std.proofs.Common.{◌≡◌, refl, sym, ◌∙◌, ap, ℕ, ◌==◌, Bool, true, false, not, ◌&&◌, ◌||◌, List, [], ◌∷◌, ◌++◌, Option, Some, None, append-nil, IsTrue, is_none, is_some, length, option_to_list, if◌then◌else◌, eqb-true, eq-eqb, arith}
use Rattle.std.specs.List.{list_all, list_any}
use Rattle.standings.specs.declared.mark.Mark.{Mark}
use Rattle.standings.specs.declared.entry.Entry.{Entry}
use Rattle.standings.specs.declared.deed.Deed.{Deed}
use Rattle.standings.specs.Marks.{has_id, has_mark, is_same_mark}
use Rattle.standings.specs.Standing.{Place, standing_of}
use Rattle.std.specs.Ordering.{nat_cmp}
use Rattle.std.specs.BTreeMap.{is_at}
use Rattle.std.specs.BTreeSet.{BTreeSet, contains}
use Rattle.line_check.specs.declared.table.Table.{Table}
use Rattle.line_check.specs.Table.{marks_of}
use Rattle.line_check.specs.Book.{IsBook}
use Rattle.standings.specs.Deeds.{added, taken}
use Rattle.standings.specs.Ledger.{Ledger, has_entry, ids_named, ledger_after, mark_of_id, marks_in, without}
use Rattle.standings.proofs.Ids.{others_stay, has_id-append, marks_in-append, marks_in-without_one}
use Rattle.line_check.specs.Log.{all_stand, ids_in, stands}
use Rattle.line_check.proofs.Counting.{is_at-own}
use Rattle.line_check.specs.Marks.{added_at, added_by, changed_by, is_some_mark, lack_standing, taken_at, taken_by, without_mark}

-- AN ENTRY among those of its id

mark_step : (entry first : Entry) (marks : List Entry) (here : Bool) → (has_entry entry marks ≡ has_mark entry.mark (marks_in entry.id marks))
    → ((here && is_same_mark first.mark entry.mark) || has_entry entry marks) ≡ has_mark entry.mark (mark_of_id here first.mark (marks_in entry.id marks))
mark_step entry first marks true later = ap (λ (b : Bool). is_same_mark first.mark entry.mark || b) later
mark_step entry first marks false later = later

pub has_entry-marks_in : (entry : Entry) (marks : List Entry) → has_entry entry marks ≡ has_mark entry.mark (marks_in entry.id marks)
has_entry-marks_in entry [] = refl
has_entry-marks_in entry (first ∷ marks) = mark_step entry first marks (first.id == entry.id) (has_entry-marks_in entry marks)

-- MARKS behind a deed

-- an entry of this id goes
here_step : (id : ℕ) (out first : Entry) (marks : List Entry) (here ids gone : Bool) → (first.id == id) ≡ here → is_same_mark first.mark out.mark ≡ gone → ids ≡ here
    → marks_in id (without (Some out) marks) ≡ without_mark out.mark (marks_in id marks)
    → marks_in id (if not (ids && gone) then first ∷ without (Some out) marks else without (Some out) marks) ≡ without_mark out.mark (mark_of_id here first.mark (marks_in id marks))
here_step id out first marks true true true is same at later = rw same later
here_step id out first marks true true false is same at later = rw (is, same) (ap (λ (l : List Mark). first.mark ∷ l) later)
here_step id out first marks true false gone is same at later = cc
here_step id out first marks false true gone is same at later = cc
here_step id out first marks false false gone is same at later = rw is later

marks_in-without_here : (id : ℕ) (out : Entry) (marks : List Entry) → (out.id == id) ≡ true → marks_in id (without (Some out) marks) ≡ without_mark out.mark (marks_in id marks)
marks_in-without_here id out [] at = refl
marks_in-without_here id out (first ∷ marks) at =
    here_step id out first marks (first.id == id) (first.id == out.id) (is_same_mark first.mark out.mark) refl refl (ap (λ (i : ℕ). first.id == i) (eqb-true out.id id at)) (marks_in-without_here id out marks at)

taken_step : (id : ℕ) (out : Entry) (marks : List Entry) (here : Bool) → (out.id == id) ≡ here → marks_in id (without (Some out) marks) ≡ taken_at out id (marks_in id marks)
taken_step id out marks true at = marks_in-without_here id out marks at ∙ rw at refl
taken_step id out marks false at = marks_in-without_one id out marks at ∙ rw at refl

marks_in-without : (id : ℕ) (out : Option Entry) (marks : List Entry) → marks_in id (without out marks) ≡ taken_by out id (marks_in id marks)
marks_in-without id None marks = refl
marks_in-without id (Some out) marks = taken_step id out marks (out.id == id) refl

added_step : (id : ℕ) (one : Entry) (marks : List Mark) (here : Bool) → (one.id == id) ≡ here → marks ++ mark_of_id here one.mark [] ≡ added_at one id marks
added_step id one marks true at = rw at refl
added_step id one marks false at = rw at (append-nil marks)

marks_in-added : (id : ℕ) (one : Option Entry) (marks : List Mark) → marks ++ marks_in id (option_to_list one) ≡ added_by one id marks
marks_in-added id None marks = append-nil marks
marks_in-added id (Some one) marks = added_step id one marks (one.id == id) refl

-- the marks of an id behind a deed
pub marks_in-after : (ledger : Ledger) (deed : Deed) (id : ℕ) → marks_in id (ledger_after ledger deed).marks ≡ changed_by deed id (marks_in id ledger.marks)
marks_in-after ledger deed id =
    marks_in-append id (without (taken deed) ledger.marks) (option_to_list (added deed))
    ∙ marks_in-added id (added deed) (marks_in id (without (taken deed) ledger.marks))
    ∙ ap (λ (l : List Mark). added_by (added deed) id l) (marks_in-without id (taken deed) ledger.marks)

-- IDS that were seen

-- an id has a mark exactly where one of the entries is of it
in_step : (id : ℕ) (first : Entry) (marks : List Entry) (here : Bool) → has_id id (ids_in marks) ≡ is_some_mark (marks_in id marks)
    → (here || has_id id (ids_in marks)) ≡ is_some_mark (mark_of_id here first.mark (marks_in id marks))
in_step id first marks true later = refl
in_step id first marks false later = later

pub has_id-ids_in : (id : ℕ) (marks : List Entry) → has_id id (ids_in marks) ≡ is_some_mark (marks_in id marks)
has_id-ids_in id [] = refl
has_id-ids_in id (first ∷ marks) = in_step id first marks (first.id == id) (has_id-ids_in id marks)

-- WHAT A BOOK KNOWS behind a deed

unsettled_step : (named : Bool) (old now : List Mark) (was : Bool) → (named ≡ false → now ≡ old) → was ≡ lack_standing old → (if named then lack_standing now else was) ≡ lack_standing now
unsettled_step true old now was stays is = refl
unsettled_step false old now was stays is = is ∙ ap lack_standing (sym (stays refl))

pub noted : (ledger : Ledger) (deed : Deed) (table new_table : Table) (seen new_seen unsettled new_unsettled : BTreeSet ℕ) → IsBook ledger (record { table = table; seen = seen; unsettled = unsettled })
    → ((id : ℕ) → marks_of new_table id ≡ changed_by deed id (marks_of table id))
    → ((id : ℕ) → contains nat_cmp new_seen id ≡ (contains nat_cmp seen id || has_id id (ids_named deed)))
    → ((id : ℕ) → contains nat_cmp new_unsettled id ≡ (if has_id id (ids_named deed) then lack_standing (marks_of new_table id) else contains nat_cmp unsettled id))
    → IsBook (ledger_after ledger deed) (record { table = new_table; seen = new_seen; unsettled = new_unsettled })
noted ledger deed table new_table seen new_seen unsettled new_unsettled book change sees settles =
    let now : (id : ℕ) → marks_of new_table id ≡ marks_in id (ledger_after ledger deed).marks = λ id. change id ∙ ap (changed_by deed id) (book.marks id) ∙ sym (marks_in-after ledger deed id) in
    record {
      marks = now;
      seen = λ id. sees id ∙ ap (λ (b : Bool). b || has_id id (ids_named deed)) (book.seen id) ∙ sym (has_id-append id ledger.seen (ids_named deed));
      unsettled = λ id. settles id
          ∙ ap (λ (l : List Mark). if has_id id (ids_named deed) then lack_standing l else contains nat_cmp unsettled id) (now id)
          ∙ unsettled_step (has_id id (ids_named deed)) (marks_in id ledger.marks) (marks_in id (ledger_after ledger deed).marks) (contains nat_cmp unsettled id) (others_stay ledger deed id) (book.unsettled id);
    }

-- ALL STAND where no id is unsettled

stand_from : (all : List Entry) (marks : List Entry) → ((id : ℕ) → lack_standing (marks_in id all) ≡ false) → ((entry : Entry) → has_id entry.id (ids_in marks) ≡ true → is_some_mark (marks_in entry.id all) ≡ true)
    → list_all (λ (entry : Entry). stands (marks_in entry.id all)) marks ≡ true
stand_from all [] settled some = refl
stand_from all (first ∷ marks) settled some =
    rw (stands_where (marks_in first.id all) (settled first.id) (some first (ap (λ (b : Bool). b || has_id first.id (ids_in marks)) (eq-eqb first.id first.id refl))))
    (stand_from all marks settled (λ entry there. some entry (or_right (first.id == entry.id) (has_id entry.id (ids_in marks)) there))) where
      stands_where : (l : List Mark) → lack_standing l ≡ false → is_some_mark l ≡ true → stands l ≡ true
      stands_where [] lacks there = cc
      stands_where (mark ∷ l) lacks there = is_some_from (standing_of (mark ∷ l)) lacks where
        is_some_from : (o : Option Place) → is_none o ≡ false → is_some o ≡ true
        is_some_from None h = sym h
        is_some_from (Some place) h = refl

      or_right : (a b : Bool) → b ≡ true → (a || b) ≡ true
      or_right true b h = refl
      or_right false b h = h

stand_not : (all : List Entry) (marks : List Entry) (id : ℕ) → has_id id (ids_in marks) ≡ true → stands (marks_in id all) ≡ false → list_all (λ (entry : Entry). stands (marks_in entry.id all)) marks ≡ false
stand_not all [] id there lacks = cc
stand_not all (first ∷ marks) id there lacks = pick (first.id == id) refl there (stand_not all marks id) where
  pick : (here : Bool) → (first.id == id) ≡ here → (here || has_id id (ids_in marks)) ≡ true
      → (has_id id (ids_in marks) ≡ true → stands (marks_in id all) ≡ false → list_all (λ (entry : Entry). stands (marks_in entry.id all)) marks ≡ false)
      → (stands (marks_in first.id all) && list_all (λ (entry : Entry). stands (marks_in entry.id all)) marks) ≡ false
  pick true is there later = rw (ap (λ (i : ℕ). stands (marks_in i all)) (eqb-true first.id id is) ∙ lacks) refl
  pick false is there later = and_no (stands (marks_in first.id all)) (later there lacks) where
    and_no : (a : Bool) {b : Bool} → b ≡ false → (a && b) ≡ false
    and_no true h = h
    and_no false h = refl

lacking : (l : List Mark) → lack_standing l ≡ true → (is_some_mark l ≡ true) × (stands l ≡ false)
lacking [] lacks = cc
lacking (mark ∷ l) lacks = (refl, none_from (standing_of (mark ∷ l)) lacks) where
  none_from : (o : Option Place) → is_none o ≡ true → is_some o ≡ false
  none_from None h = refl
  none_from (Some place) h = sym h

-- whether all stand is whether no id is unsettled
pub all_stand-settled : (keys : List ℕ) (result : Bool) (marks : List Entry) → (IsTrue result → length keys ≡ 0) × (length keys ≡ 0 → IsTrue result)
    → ((id : ℕ) → list_any (is_at (nat_cmp id)) keys ≡ lack_standing (marks_in id marks)) → result ≡ all_stand marks
all_stand-settled [] true marks empty unsettled =
    sym (stand_from marks marks (λ id. sym (unsettled id)) (λ entry there. sym (has_id-ids_in entry.id marks) ∙ there))
all_stand-settled [] false marks empty unsettled = let h : true ≡ false = sym (empty.1 refl) in cc
all_stand-settled (key ∷ keys) true marks empty unsettled = let long : length (key ∷ keys) ≡ 0 = empty.0 refl in absurd (omega arith)
all_stand-settled (key ∷ keys) false marks empty unsettled =
    let lacks : lack_standing (marks_in key marks) ≡ true = sym (unsettled key) ∙ ap (λ (b : Bool). b || list_any (is_at (nat_cmp key)) keys) (is_at-own key) in
    let parts = lacking (marks_in key marks) lacks in
    sym (stand_not marks marks key (has_id-ids_in key marks ∙ parts.0) parts.1)

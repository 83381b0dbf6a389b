-- Each board is there once, and those that stand are as many as the ledger has ids with a mark.
use Rattle.std.proofs.Common.{◌≡◌, refl, sym, ◌∙◌, ap, ℕ, ◌+◌, ◌==◌, Bool, true, false, not, ◌&&◌, ◌||◌, List, [], ◌∷◌, Option, Some, None, cond, is_some, length, if◌then◌else◌, eqb-true, eq-eqb, arith}
use Rattle.std.specs.Prelude.{nat_eq}
use Rattle.std.proofs.lemmas.Bool.{or_parts}
use Rattle.indexmap.specs.IndexMap.{insert_entry}
use Rattle.standings.specs.declared.mark.Mark.{Mark}
use Rattle.standings.specs.declared.deed.Deed.{Deed}
use Rattle.standings.specs.Marks.{has_id}
use Rattle.standings.specs.Deeds.{named, named_beside}
use Rattle.standings.specs.Ledger.{are_different}
use Rattle.line_check.specs.LogLine.{said_by}
use Rattle.line_check.specs.Log.{boards_in, count_once, ids_in, ledger_of}
use Rattle.line_check.specs.Marks.{is_some_mark}
use Rattle.line_check.proofs.Books.{has_id-ids_in}
use Rattle.line_check.proofs.Counting.{count_once-split, eqb_swap, has_id-without_itself, has_id-without_other, without_id}
use Rattle.board_traces.specs.Reading.{deed_said}
use Rattle.board_traces.specs.declared.way.Way.{Way}
use Rattle.board_traces.specs.declared.way.Way.TheVariants as ways
use Rattle.board_traces.specs.declared.way.Sort.TheVariants as sorts
use Rattle.board_traces.specs.Course.{Course, course_after}
use Rattle.board_traces.specs.Courses.{Courses, after_lines, after_said, course_of, courses_of, ids_of, marks_known, with_beside, with_named}
use Rattle.board_traces.specs.Texts.{count_of, is_of, one_if, way_of, went_so}
use Rattle.board_traces.proofs.Ledgers.{marks_agree, seen_agree}

-- THE IDS of boards are those that are found
listed_step : (id : ℕ) (board : ℕ × Course) (boards : Courses) (here : Bool) → nat_eq id board.0 ≡ here → is_some (course_of boards id) ≡ has_id id (ids_of boards)
    → is_some (cond here (Some board.1) (course_of boards id)) ≡ ((board.0 == id) || has_id id (ids_of boards))
listed_step id board boards true is later = rw (eqb_swap board.0 id ∙ is) refl
listed_step id board boards false is later = rw (eqb_swap board.0 id ∙ is) later

pub listed : (id : ℕ) (boards : Courses) → is_some (course_of boards id) ≡ has_id id (ids_of boards)
listed id [] = refl
listed id (board ∷ boards) = listed_step id board boards (nat_eq id board.0) refl (listed id boards)

pub seen_listed : (lines : List (List ℕ)) (id : ℕ) → has_id id (ids_of (courses_of lines)) ≡ has_id id (ledger_of lines).seen
seen_listed lines id = sym (listed id (courses_of lines)) ∙ seen_agree lines id

-- EACH ONCE

or_none : (a b : Bool) → a ≡ false → b ≡ false → (a || b) ≡ false
or_none true b one two = one
or_none false b one two = two

-- an insertion brings no other id
inserted_step : (id other : ℕ) (course : Course) (board : ℕ × Course) (boards : Courses) (here : Bool) → (id == other) ≡ false → has_id other (ids_of (insert_entry nat_eq boards id course)) ≡ has_id other (ids_of boards)
    → has_id other (ids_of (if here then (board.0, course) ∷ boards else board ∷ insert_entry nat_eq boards id course)) ≡ ((board.0 == other) || has_id other (ids_of boards))
inserted_step id other course board boards true apart later = refl
inserted_step id other course board boards false apart later = ap (λ (b : Bool). (board.0 == other) || b) later

inserted : (id other : ℕ) (course : Course) (boards : Courses) → (id == other) ≡ false → has_id other (ids_of (insert_entry nat_eq boards id course)) ≡ has_id other (ids_of boards)
inserted id other course [] apart = rw apart refl
inserted id other course (board ∷ boards) apart = inserted_step id other course board boards (nat_eq id board.0) apart (inserted id other course boards apart)

not_there : (a b : Bool) → (not a && b) ≡ true → a ≡ false
not_there true b is = sym is
not_there false b is = refl

and_later : (a b : Bool) → (not a && b) ≡ true → b ≡ true
and_later true b is = absurd (let h : false ≡ true = is in cc)
and_later false b is = is

once_step : (id : ℕ) (course : Course) (board : ℕ × Course) (boards : Courses) (here : Bool) → nat_eq id board.0 ≡ here → (not (has_id board.0 (ids_of boards)) && are_different (ids_of boards)) ≡ true
    → are_different (ids_of (insert_entry nat_eq boards id course)) ≡ true
    → are_different (ids_of (if here then (board.0, course) ∷ boards else board ∷ insert_entry nat_eq boards id course)) ≡ true
once_step id course board boards true is once later = once
once_step id course board boards false is once later =
    rw (inserted id board.0 course boards is ∙ not_there (has_id board.0 (ids_of boards)) (are_different (ids_of boards)) once) later

once_inserted : (id : ℕ) (course : Course) (boards : Courses) → are_different (ids_of boards) ≡ true → are_different (ids_of (insert_entry nat_eq boards id course)) ≡ true
once_inserted id course [] once = refl
once_inserted id course (board ∷ boards) once =
    once_step id course board boards (nat_eq id board.0) refl once
    (once_inserted id course boards (and_later (has_id board.0 (ids_of boards)) (are_different (ids_of boards)) once))

once_named : (line : ℕ) (deed : Deed) (id : ℕ) (boards : Courses) → are_different (ids_of boards) ≡ true → are_different (ids_of (with_named line deed id boards)) ≡ true
once_named line deed id boards once = once_inserted id (course_after line deed id (course_of boards id)) boards once

once_beside : (line : ℕ) (deed : Deed) (beside : Option ℕ) (boards : Courses) → are_different (ids_of boards) ≡ true → are_different (ids_of (with_beside line deed beside boards)) ≡ true
once_beside line deed None boards once = once
once_beside line deed (Some old) boards once = pick (nat_eq old (named deed)) where
  pick : (test : Bool) → are_different (ids_of (if test then boards else with_named line deed old boards)) ≡ true
  pick true = once
  pick false = once_named line deed old boards once

once_said : (line : ℕ) (said : Option Deed) (boards : Courses) → are_different (ids_of boards) ≡ true → are_different (ids_of (after_said line said boards)) ≡ true
once_said line None boards once = once
once_said line (Some deed) boards once = once_named line deed (named deed) (with_beside line deed (named_beside deed) boards) (once_beside line deed (named_beside deed) boards once)

once_lines : (before : ℕ) (lines : List (List ℕ)) (boards : Courses) → are_different (ids_of boards) ≡ true → are_different (ids_of (after_lines before lines boards)) ≡ true
once_lines before [] boards once = once
once_lines before (line ∷ lines) boards once =
    once_lines (before + 1) lines (after_said (before + 1) (deed_said (said_by line)) boards) (once_said (before + 1) (deed_said (said_by line)) boards once)

pub each_once : (lines : List (List ℕ)) → are_different (ids_of (courses_of lines)) ≡ true
each_once lines = once_lines 0 lines [] refl

-- THOSE THAT STAND

abbrev put_if : Bool → ℕ → List ℕ → List ℕ
put_if true id ids = id ∷ ids
put_if false id ids = ids

abbrev ids_standing : Courses → List ℕ
ids_standing [] = []
ids_standing (board ∷ boards) = put_if (is_some_mark board.1.marks) board.0 (ids_standing boards)

went_standing : (way : Way) → went_so way sorts.Standing ≡ false
went_standing ways.Removed = refl
went_standing ways.Replaced = refl
went_standing ways.Left = refl
went_standing ways.Lost = refl
went_standing ways.Dropped = refl

is_standing : (marks : List Mark) (last : Deed) → is_of sorts.Standing marks last ≡ is_some_mark marks
is_standing [] last = went_standing (way_of last)
is_standing (mark ∷ marks) last = refl

put_length : (test : Bool) (id : ℕ) (ids : List ℕ) → length (put_if test id ids) ≡ one_if test + length ids
put_length true id ids = omega arith
put_length false id ids = omega arith

count_standing : (boards : Courses) → count_of sorts.Standing boards ≡ length (ids_standing boards)
count_standing [] = refl
count_standing (board ∷ boards) =
    ap (λ (b : Bool). one_if b + count_of sorts.Standing boards) (is_standing board.1.marks board.1.last)
    ∙ ap (λ (n : ℕ). one_if (is_some_mark board.1.marks) + n) (count_standing boards)
    ∙ sym (put_length (is_some_mark board.1.marks) board.0 (ids_standing boards))

within_step : (test : Bool) (id other : ℕ) (ids : List ℕ) → (other == id) ≡ false → has_id id ids ≡ false → has_id id (put_if test other ids) ≡ false
within_step true id other ids apart absent = or_none (other == id) (has_id id ids) apart absent
within_step false id other ids apart absent = absent

standing_within : (id : ℕ) (boards : Courses) → has_id id (ids_of boards) ≡ false → has_id id (ids_standing boards) ≡ false
standing_within id [] absent = refl
standing_within id (board ∷ boards) absent =
    let parts = or_parts (board.0 == id) (has_id id (ids_of boards)) absent in
    within_step (is_some_mark board.1.marks) id board.0 (ids_standing boards) parts.0 (standing_within id boards parts.1)

found_step : (id : ℕ) (board : ℕ × Course) (boards : Courses) (here test : Bool) → nat_eq id board.0 ≡ here → is_some_mark board.1.marks ≡ test → has_id board.0 (ids_of boards) ≡ false
    → has_id id (ids_standing boards) ≡ is_some_mark (marks_known (course_of boards id))
    → has_id id (put_if test board.0 (ids_standing boards)) ≡ is_some_mark (marks_known (cond here (Some board.1) (course_of boards id)))
found_step id board boards true true at some absent later = rw (eqb_swap board.0 id ∙ at, some) refl
found_step id board boards true false at some absent later =
    let same : id ≡ board.0 = eqb-true id board.0 at in
    standing_within id boards (ap (λ (i : ℕ). has_id i (ids_of boards)) same ∙ absent) ∙ sym some
found_step id board boards false true at some absent later = rw (eqb_swap board.0 id ∙ at) later
found_step id board boards false false at some absent later = later

standing_found : (id : ℕ) (boards : Courses) → are_different (ids_of boards) ≡ true → has_id id (ids_standing boards) ≡ is_some_mark (marks_known (course_of boards id))
standing_found id [] once = refl
standing_found id (board ∷ boards) once =
    found_step id board boards (nat_eq id board.0) (is_some_mark board.1.marks) refl refl (not_there (has_id board.0 (ids_of boards)) (are_different (ids_of boards)) once)
    (standing_found id boards (and_later (has_id board.0 (ids_of boards)) (are_different (ids_of boards)) once))

different_step : (test : Bool) (id : ℕ) (ids : List ℕ) → has_id id ids ≡ false → are_different ids ≡ true → are_different (put_if test id ids) ≡ true
different_step true id ids absent later = rw absent later
different_step false id ids absent later = later

different_standing : (boards : Courses) → are_different (ids_of boards) ≡ true → are_different (ids_standing boards) ≡ true
different_standing [] once = refl
different_standing (board ∷ boards) once =
    different_step (is_some_mark board.1.marks) board.0 (ids_standing boards)
    (standing_within board.0 boards (not_there (has_id board.0 (ids_of boards)) (are_different (ids_of boards)) once))
    (different_standing boards (and_later (has_id board.0 (ids_of boards)) (are_different (ids_of boards)) once))

behind_first : (id first : ℕ) (rest ids : List ℕ) → has_id first rest ≡ false → ((other : ℕ) → has_id other ids ≡ has_id other (first ∷ rest))
    → (is_first : Bool) → (first == id) ≡ is_first → has_id id (without_id first ids) ≡ has_id id rest
behind_first id first rest ids absent same true is =
    let here : first ≡ id = eqb-true first id is in
    ap (λ (i : ℕ). has_id i (without_id first ids)) (sym here) ∙ has_id-without_itself first ids ∙ sym absent ∙ ap (λ (i : ℕ). has_id i rest) here
behind_first id first rest ids absent same false is =
    has_id-without_other first id ids (eqb_swap id first ∙ is) ∙ same id ∙ ap (λ (b : Bool). b || has_id id rest) is

-- ids that differ are as many as others that are the same ids
length_different : (keys ids : List ℕ) → are_different keys ≡ true → ((id : ℕ) → has_id id ids ≡ has_id id keys) → length keys ≡ count_once ids
length_different [] [] once same = refl
length_different [] (first ∷ rest) once same =
    let h : true ≡ false = sym (ap (λ (b : Bool). b || has_id first rest) (eq-eqb first first refl)) ∙ same first in
    absurd (cc)
length_different (first ∷ rest) ids once same =
    let absent : has_id first rest ≡ false = not_there (has_id first rest) (are_different rest) once in
    let there : has_id first ids ≡ true = same first ∙ ap (λ (b : Bool). b || has_id first rest) (eq-eqb first first refl) in
    let later : length rest ≡ count_once (without_id first ids) = length_different rest (without_id first ids) (and_later (has_id first rest) (are_different rest) once) (λ id. behind_first id first rest ids absent same (first == id) refl) in
    let split : count_once ids ≡ 1 + count_once (without_id first ids) = rw there at (count_once-split first ids) in
    omega (arith, later, split)

pub standing_counted : (lines : List (List ℕ)) → count_of sorts.Standing (courses_of lines) ≡ boards_in (ledger_of lines).marks
standing_counted lines =
    count_standing (courses_of lines)
    ∙ length_different (ids_standing (courses_of lines)) (ids_in (ledger_of lines).marks) (different_standing (courses_of lines) (each_once lines))
    (λ id. has_id-ids_in id (ledger_of lines).marks ∙ ap is_some_mark (sym (marks_agree lines id)) ∙ sym (standing_found id (courses_of lines) (each_once lines)))

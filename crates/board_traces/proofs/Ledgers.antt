-- The courses of boards are those of the checker's ledger.
use Rattle.std.proofs.Common.{◌≡◌, refl, sym, ◌∙◌, ap, ℕ, ◌+◌, ◌==◌, Bool, true, false, ◌||◌, List, [], ◌∷◌, ◌++◌, Option, Some, None, cond, is_some, option_to_list, if◌then◌else◌, eqb-true}
use Rattle.std.specs.Prelude.{nat_eq}
use Rattle.indexmap.specs.IndexMap.{insert_entry}
use Rattle.standings.specs.declared.deed.Deed.{Deed}
use Rattle.standings.specs.Marks.{has_id}
use Rattle.standings.specs.Deeds.{named, named_beside}
use Rattle.standings.specs.Ledger.{Ledger, empty_ledger, ids_named, ledger_after, ledger_after_all, marks_in}
use Rattle.standings.proofs.Ids.{has_id-append, others_stay}
use Rattle.line_check.specs.declared.reading.Reading.{Reading}
use Rattle.line_check.specs.declared.reading.Reading.TheVariants.{Nothing, Bad, Does}
use Rattle.line_check.specs.LogLine.{said_by}
use Rattle.line_check.specs.Log.{deeds_in, deeds_of, ledger_of}
use Rattle.line_check.specs.Marks.{changed_by}
use Rattle.line_check.proofs.Books.{marks_in-after}
use Rattle.line_check.proofs.Counting.{eqb_swap}
use Rattle.board_traces.specs.Reading.{deed_said}
use Rattle.board_traces.specs.Course.{Course, course_after}
use Rattle.board_traces.specs.Courses.{Courses, after_deed, after_lines, after_said, course_of, courses_of, marks_known, with_beside, with_named}

-- WHAT IS FOUND behind an insertion

found_step : (id other : ℕ) (course : Course) (board : ℕ × Course) (courses : Courses) (here there : Bool) → (id == board.0) ≡ here → (other == board.0) ≡ there
    → course_of (insert_entry nat_eq courses id course) other ≡ (if nat_eq other id then Some course else course_of courses other)
    → course_of (if here then (board.0, course) ∷ courses else board ∷ insert_entry nat_eq courses id course) other ≡ (if nat_eq other id then Some course else cond there (Some board.1) (course_of courses other))
found_step id other course board courses true true at is later =
    let test : nat_eq other id ≡ true = ap (λ (i : ℕ). nat_eq other i) (eqb-true id board.0 at) ∙ is in
    rw (test, is) refl
found_step id other course board courses true false at is later =
    let test : nat_eq other id ≡ false = ap (λ (i : ℕ). nat_eq other i) (eqb-true id board.0 at) ∙ is in
    rw (test, is) refl
found_step id other course board courses false true at is later =
    let test : nat_eq other id ≡ false = ap (λ (i : ℕ). nat_eq i id) (eqb-true other board.0 is) ∙ eqb_swap board.0 id ∙ at in
    rw (test, is) refl
found_step id other course board courses false false at is later = rw is later

pub found_after : (id other : ℕ) (course : Course) (courses : Courses) → course_of (insert_entry nat_eq courses id course) other ≡ (if nat_eq other id then Some course else course_of courses other)
found_after id other course [] = refl
found_after id other course (board ∷ courses) = found_step id other course board courses (id == board.0) (other == board.0) refl refl (found_after id other course courses)

-- A BOARD that a deed names

marks_course : (line : ℕ) (deed : Deed) (id : ℕ) (course : Option Course) → marks_known (Some (course_after line deed id course)) ≡ changed_by deed id (marks_known course)
marks_course line deed id None = refl
marks_course line deed id (Some course) = refl

-- the named board's marks are changed, and its course is there
named_marks : (line : ℕ) (deed : Deed) (id other : ℕ) (courses : Courses) → (nat_eq other id) ≡ true → marks_known (course_of (with_named line deed id courses) other) ≡ changed_by deed other (marks_known (course_of courses other))
named_marks line deed id other courses is =
    let same : id ≡ other = sym (eqb-true other id is) in
    ap marks_known (found_after id other (course_after line deed id (course_of courses id)) courses) ∙ rw is (marks_course line deed id (course_of courses id))
    ∙ ap (λ (i : ℕ). changed_by deed i (marks_known (course_of courses i))) same

-- and all others stay
unnamed_course : (line : ℕ) (deed : Deed) (id other : ℕ) (courses : Courses) → (nat_eq other id) ≡ false → course_of (with_named line deed id courses) other ≡ course_of courses other
unnamed_course line deed id other courses is = found_after id other (course_after line deed id (course_of courses id)) courses ∙ rw is refl

some_step : (test : Bool) (course : Course) (had : Option Course) → is_some (if test then Some course else had) ≡ (test || is_some had)
some_step true course had = refl
some_step false course had = refl

named_some : (line : ℕ) (deed : Deed) (id other : ℕ) (courses : Courses) → is_some (course_of (with_named line deed id courses) other) ≡ (nat_eq other id || is_some (course_of courses other))
named_some line deed id other courses =
    ap is_some (found_after id other (course_after line deed id (course_of courses id)) courses) ∙ some_step (nat_eq other id) (course_after line deed id (course_of courses id)) (course_of courses other)

-- A DEED

-- the board that a deed names first is another than the one beside it
beside_stays : (line : ℕ) (deed : Deed) (beside : Option ℕ) (courses : Courses) (id : ℕ) → nat_eq id (named deed) ≡ true → course_of (with_beside line deed beside courses) id ≡ course_of courses id
beside_stays line deed None courses id is = refl
beside_stays line deed (Some old) courses id is = pick (nat_eq old (named deed)) refl where
  pick : (test : Bool) → nat_eq old (named deed) ≡ test → course_of (if test then courses else with_named line deed old courses) id ≡ course_of courses id
  pick true same = refl
  pick false same =
      let other : nat_eq id old ≡ false = ap (λ (i : ℕ). nat_eq i old) (eqb-true id (named deed) is) ∙ eqb_swap (named deed) old ∙ same in
      unnamed_course line deed old id courses other

or_none : (a b : Bool) → a ≡ false → b ≡ false → (a || (b || false)) ≡ false
or_none true b one two = one
or_none false true one two = two
or_none false false one two = refl

-- the marks of a board that is not named first: those of the one beside are changed, all others stay
beside_marks : (line : ℕ) (deed : Deed) (beside : Option ℕ) (courses : Courses) (ledger : Ledger) (id : ℕ) → named_beside deed ≡ beside → nat_eq id (named deed) ≡ false
    → marks_known (course_of courses id) ≡ marks_in id ledger.marks
    → marks_known (course_of (with_beside line deed beside courses) id) ≡ marks_in id (ledger_after ledger deed).marks
beside_marks line deed None courses ledger id is apart agree =
    let unnamed : has_id id (ids_named deed) ≡ false = ap (λ (b : Option ℕ). has_id id (option_to_list b ++ named deed ∷ [])) is ∙ rw (eqb_swap (named deed) id ∙ apart) refl in
    agree ∙ sym (others_stay ledger deed id unnamed)
beside_marks line deed (Some old) courses ledger id is apart agree = pick (nat_eq old (named deed)) refl (nat_eq id old) refl where
  first_apart : (named deed == id) ≡ false
  first_apart = eqb_swap (named deed) id ∙ apart

  unnamed : (old == id) ≡ false → has_id id (ids_named deed) ≡ false
  unnamed old_apart = ap (λ (b : Option ℕ). has_id id (option_to_list b ++ named deed ∷ [])) is ∙ or_none (old == id) (named deed == id) old_apart first_apart

  pick : (test : Bool) → nat_eq old (named deed) ≡ test → (here : Bool) → nat_eq id old ≡ here → marks_known (course_of (if test then courses else with_named line deed old courses) id) ≡ marks_in id (ledger_after ledger deed).marks
  pick true same here at =
      let old_apart : (old == id) ≡ false = ap (λ (i : ℕ). i == id) (eqb-true old (named deed) same) ∙ first_apart in
      agree ∙ sym (others_stay ledger deed id (unnamed old_apart))
  pick false same true at = named_marks line deed old id courses at ∙ ap (changed_by deed id) agree ∙ sym (marks_in-after ledger deed id)
  pick false same false at = ap marks_known (unnamed_course line deed old id courses at) ∙ agree ∙ sym (others_stay ledger deed id (unnamed (eqb_swap old id ∙ at)))

deed_marks : (line : ℕ) (deed : Deed) (courses : Courses) (ledger : Ledger) (id : ℕ) → marks_known (course_of courses id) ≡ marks_in id ledger.marks
    → marks_known (course_of (after_deed line deed courses) id) ≡ marks_in id (ledger_after ledger deed).marks
deed_marks line deed courses ledger id agree = pick (nat_eq id (named deed)) refl where
  beside : Courses
  beside = with_beside line deed (named_beside deed) courses

  pick : (test : Bool) → nat_eq id (named deed) ≡ test → marks_known (course_of (with_named line deed (named deed) beside) id) ≡ marks_in id (ledger_after ledger deed).marks
  pick true is =
      named_marks line deed (named deed) id beside is
      ∙ ap (λ (c : Option Course). changed_by deed id (marks_known c)) (beside_stays line deed (named_beside deed) courses id is)
      ∙ ap (changed_by deed id) agree ∙ sym (marks_in-after ledger deed id)
  pick false is = ap marks_known (unnamed_course line deed (named deed) id beside is) ∙ beside_marks line deed (named_beside deed) courses ledger id refl is agree

-- the ids that were named are those that were seen
or_one : (a s : Bool) → (a || s) ≡ (s || (a || false))
or_one true true = refl
or_one true false = refl
or_one false true = refl
or_one false false = refl

or_same : (a s : Bool) → (a || s) ≡ (s || (a || (a || false)))
or_same true true = refl
or_same true false = refl
or_same false true = refl
or_same false false = refl

or_two : (a b s : Bool) → (a || (b || s)) ≡ (s || (b || (a || false)))
or_two true true true = refl
or_two true true false = refl
or_two true false true = refl
or_two true false false = refl
or_two false true true = refl
or_two false true false = refl
or_two false false true = refl
or_two false false false = refl

beside_some : (line : ℕ) (deed : Deed) (beside : Option ℕ) (courses : Courses) (id : ℕ)
    → (nat_eq id (named deed) || is_some (course_of (with_beside line deed beside courses) id)) ≡ (is_some (course_of courses id) || has_id id (option_to_list beside ++ named deed ∷ []))
beside_some line deed None courses id = rw (eqb_swap (named deed) id) (or_one (nat_eq id (named deed)) (is_some (course_of courses id)))
beside_some line deed (Some old) courses id = pick (nat_eq old (named deed)) refl where
  pick : (test : Bool) → nat_eq old (named deed) ≡ test
      → (nat_eq id (named deed) || is_some (course_of (if test then courses else with_named line deed old courses) id)) ≡ (is_some (course_of courses id) || ((old == id) || ((named deed == id) || false)))
  pick true same =
      ap (λ (b : Bool). b || is_some (course_of courses id)) (eqb_swap id (named deed))
      ∙ or_same (named deed == id) (is_some (course_of courses id))
      ∙ ap (λ (i : ℕ). is_some (course_of courses id) || ((i == id) || ((named deed == id) || false))) (sym (eqb-true old (named deed) same))
  pick false same =
      ap (λ (b : Bool). nat_eq id (named deed) || b) (named_some line deed old id courses)
      ∙ or_two (nat_eq id (named deed)) (nat_eq id old) (is_some (course_of courses id))
      ∙ ap (λ (b : Bool). is_some (course_of courses id) || (b || (nat_eq id (named deed) || false))) (eqb_swap id old)
      ∙ ap (λ (b : Bool). is_some (course_of courses id) || ((old == id) || (b || false))) (eqb_swap id (named deed))

-- COURSES that are those of a ledger
record Agrees (courses : Courses) (ledger : Ledger) : Type 0 where
  pub marks : (id : ℕ) → marks_known (course_of courses id) ≡ marks_in id ledger.marks
  pub seen : (id : ℕ) → is_some (course_of courses id) ≡ has_id id ledger.seen

agree_deed : (line : ℕ) (deed : Deed) (courses : Courses) (ledger : Ledger) → Agrees courses ledger → Agrees (after_deed line deed courses) (ledger_after ledger deed)
agree_deed line deed courses ledger agree = record {
  marks = λ id. deed_marks line deed courses ledger id (agree.marks id);
  seen = λ id. named_some line deed (named deed) id (with_beside line deed (named_beside deed) courses)
      ∙ beside_some line deed (named_beside deed) courses id
      ∙ ap (λ (b : Bool). b || has_id id (ids_named deed)) (agree.seen id)
      ∙ sym (has_id-append id ledger.seen (ids_named deed));
}

agree_said : (before : ℕ) (lines : List (List ℕ)) (said : Reading) (courses : Courses) (ledger : Ledger) → Agrees courses ledger
    → ((courses' : Courses) (ledger' : Ledger) → Agrees courses' ledger' → Agrees (after_lines (before + 1) lines courses') (ledger_after_all ledger' (deeds_of lines)))
    → Agrees (after_lines (before + 1) lines (after_said (before + 1) (deed_said said) courses)) (ledger_after_all ledger (deeds_in said ++ deeds_of lines))
agree_said before lines Nothing courses ledger agree later = later courses ledger agree
agree_said before lines Bad courses ledger agree later = later courses ledger agree
agree_said before lines (Does deed) courses ledger agree later = later (after_deed (before + 1) deed courses) (ledger_after ledger deed) (agree_deed (before + 1) deed courses ledger agree)

agree_lines : (before : ℕ) (lines : List (List ℕ)) (courses : Courses) (ledger : Ledger) → Agrees courses ledger → Agrees (after_lines before lines courses) (ledger_after_all ledger (deeds_of lines))
agree_lines before [] courses ledger agree = agree
agree_lines before (line ∷ lines) courses ledger agree = agree_said before lines (said_by line) courses ledger agree (agree_lines (before + 1) lines)

agree_all : (lines : List (List ℕ)) → Agrees (courses_of lines) (ledger_of lines)
agree_all lines = agree_lines 0 lines [] empty_ledger (record { marks = λ id. refl; seen = λ id. refl })

pub marks_agree : (lines : List (List ℕ)) (id : ℕ) → marks_known (course_of (courses_of lines) id) ≡ marks_in id (ledger_of lines).marks
marks_agree lines id = (agree_all lines).marks id

pub seen_agree : (lines : List (List ℕ)) (id : ℕ) → is_some (course_of (courses_of lines) id) ≡ has_id id (ledger_of lines).seen
seen_agree lines id = (agree_all lines).seen id

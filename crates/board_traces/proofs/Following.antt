-- What is read and written so far, and what is still to come, make up the whole.
use Rattle.std.proofs.Common.{◌≡◌, sym, ◌∙◌, ap, ℕ, ◌+◌, ◌<◌, List, [], ◌∷◌, ◌++◌, Some, drop, get_or, length, append_assoc, append-nil, arith}
use Rattle.std.specs.Prelude.{slice_get}
use Rattle.std.proofs.lemmas.List.{drop_more}
use Rattle.std.proofs.lemmas.Option.{same_Some, slice_get-get_or}
use Rattle.line_check.specs.LogLine.{said_by}
use Rattle.board_traces.specs.Reading.{deed_said}
use Rattle.board_traces.specs.declared.way.Sort.{Sort}
use Rattle.board_traces.specs.Course.{Course}
use Rattle.board_traces.specs.Courses.{Courses, after_line, after_lines}
use Rattle.board_traces.specs.Texts.{board_text, boards_text, count_of, is_of, one_if}
use Rattle.board_traces.specs.Trace.{deeds_text, names, told_where}

-- THE LINES of a log are read
pub read_on : (done : ℕ) (line : List ℕ) (left left' : List (List ℕ)) (boards boards' all : Courses) → left ≡ line ∷ left' → boards' ≡ after_line (done + 1) line boards
    → after_lines done left boards ≡ all → after_lines (done + 1) left' boards' ≡ all
read_on done line left left' boards boards' all is note so = ap (after_lines (done + 1) left') note ∙ sym (ap (λ (l : List (List ℕ)). after_lines done l boards) is) ∙ so

pub read_end : (done : ℕ) (left : List (List ℕ)) (boards all : Courses) → left ≡ [] → after_lines done left boards ≡ all → boards ≡ all
read_end done left boards all is so = sym (ap (λ (l : List (List ℕ)). after_lines done l boards) is) ∙ so

pub lines_on : (done n : ℕ) (line : List ℕ) (left left' : List (List ℕ)) → left ≡ line ∷ left' → done + length left ≡ n → (done + 1) + length left' ≡ n
lines_on done n line left left' is so = omega (arith, ap length is, so)

pub lines_end : (done n : ℕ) (left : List (List ℕ)) → left ≡ [] → done + length left ≡ n → done ≡ n
lines_end done n left is so = omega (arith, ap length is, so)

-- THE DEEDS of one board are written
pub deeds_on : (id done : ℕ) (line : List ℕ) (left left' : List (List ℕ)) (to to' all : List ℕ) → left ≡ line ∷ left' → to' ≡ to ++ told_where (names id (deed_said (said_by line))) (done + 1) line
    → to ++ deeds_text id done left ≡ all → to' ++ deeds_text id (done + 1) left' ≡ all
deeds_on id done line left left' to to' all is note so =
    ap (λ (t : List ℕ). t ++ deeds_text id (done + 1) left') note
    ∙ append_assoc to (told_where (names id (deed_said (said_by line))) (done + 1) line) (deeds_text id (done + 1) left')
    ∙ sym (ap (λ (l : List (List ℕ)). to ++ deeds_text id done l) is) ∙ so

pub deeds_end : (id done : ℕ) (left : List (List ℕ)) (to all : List ℕ) → left ≡ [] → to ++ deeds_text id done left ≡ all → to ≡ all
deeds_end id done left to all is so = sym (append-nil to) ∙ sym (ap (λ (l : List (List ℕ)). to ++ deeds_text id done l) is) ∙ so

-- THE BOARDS are written
pub boards_on : (id : ℕ) (course : Course) (left left' : Courses) (to to' all : List ℕ) → left ≡ (id, course) ∷ left' → to' ≡ to ++ board_text id course
    → to ++ boards_text left ≡ all → to' ++ boards_text left' ≡ all
boards_on id course left left' to to' all is note so =
    ap (λ (t : List ℕ). t ++ boards_text left') note
    ∙ append_assoc to (board_text id course) (boards_text left')
    ∙ sym (ap (λ (l : Courses). to ++ boards_text l) is) ∙ so

pub boards_end : (left : Courses) (to all : List ℕ) → left ≡ [] → to ++ boards_text left ≡ all → to ≡ all
boards_end left to all is so = sym (append-nil to) ∙ sym (ap (λ (l : Courses). to ++ boards_text l) is) ∙ so

-- and counted
pub count_on : (sort : Sort) (id : ℕ) (course : Course) (left left' : Courses) (count count' one all : ℕ) → left ≡ (id, course) ∷ left' → one ≡ one_if (is_of sort course.marks course.last) → count' ≡ count + one
    → count + count_of sort left ≡ all → count' + count_of sort left' ≡ all
count_on sort id course left left' count count' one all is here more so = omega (arith, ap (count_of sort) is, here, more, so)

pub count_end : (sort : Sort) (left : Courses) (count all : ℕ) → left ≡ [] → count + count_of sort left ≡ all → count ≡ all
count_end sort left count all is so = omega (arith, ap (count_of sort) is, so)

-- THE BOARD at a place
pub drop_at : {X : Type 0} (xs : List X) (place : ℕ) (x : X) → place < length xs → Some x ≡ slice_get xs place → drop place xs ≡ x ∷ drop (place + 1) xs
drop_at xs place x within is = drop_more xs place x within ∙ ap (λ y. y ∷ drop (place + 1) xs) (sym (same_Some x (get_or xs place x) (is ∙ slice_get-get_or xs place x within)))

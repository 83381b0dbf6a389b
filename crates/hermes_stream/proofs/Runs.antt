-- What all answers of a cutter come to.
use Rattle.std.proofs.Common.{◌≡◌, ℕ, ◌-◌, ◌≤◌, List, [], ◌∷◌, ◌++◌, length, take, min, refl, sym, ap, ◌∙◌, arith, unwrap_or}
use Rattle.std.proofs.lemmas.List.{append-nil, append_assoc, length-append, length-take, length-take-le, length-drop}
use Rattle.hermes_stream.specs.Frames.{Answer, Frame, NeedMore, TooLong, Frames, most_bytes, without_blanks, end_within, answer_of, left_of, behind, frames_of}
use Rattle.hermes_stream.specs.Cutter.{Call, Feed, Next, GivesFrame, WantsMore, StaysTooLong, Tells, CutsExactly, taken_of, waiting_after, bytes_taken, frame_in, frames_given}
use Rattle.hermes_stream.proofs.Streams.{length-without_blanks, without_blanks-whole, has_frame, answer_of-need_more, left_of-need_more, answer_of-too_long, left_of-too_long, frames_of-need_more, frames_of-without_blanks, frames_of-frame_append, frames_of-need_more_append, frames_of-too_long_append}

-- nothing is left of the room where a message is too long
pub long_from_too_long : (waiting : List ℕ) → answer_of waiting ≡ TooLong → most_bytes ≤ length waiting
long_from_too_long waiting e =
    let less = length-without_blanks waiting in
    let long = (answer_of-too_long waiting e).1 in
    omega arith

pub left_of-for_good : (waiting : List ℕ) → length waiting ≤ most_bytes → answer_of waiting ≡ TooLong → left_of waiting ≡ waiting
left_of-for_good waiting bounded e =
    let long = (answer_of-too_long waiting e).1 in
    left_of-too_long waiting e ∙ without_blanks-whole waiting (omega arith)

pub taken_of-too_long : (waiting piece : List ℕ) → answer_of waiting ≡ TooLong → taken_of waiting piece ≡ []
taken_of-too_long waiting piece e =
    let long = long_from_too_long waiting e in
    let none : min (length piece) (most_bytes - length waiting) ≡ 0 = omega arith in
    ap (λ n. take n piece) none

pub length-left_of : (waiting : List ℕ) → length (left_of waiting) ≤ length waiting
unfolding left_of
length-left_of waiting =
    let l = length-drop (unwrap_or (end_within (without_blanks waiting)) 0) (without_blanks waiting) in
    let m = length-without_blanks waiting in
    omega arith

pub gives_frame : (waiting message : List ℕ) → answer_of waiting ≡ Frame message → GivesFrame waiting message
gives_frame waiting message e =
    let f = has_frame waiting message e in
    let size : length message ≡ f.count = sym (ap length f.is) ∙ length-take-le f.count (without_blanks waiting) f.within in
    let left : length (left_of waiting) ≡ length (without_blanks waiting) - f.count = ap length f.left ∙ length-drop f.count (without_blanks waiting) in
    let less = length-without_blanks waiting in
    record {
      frames = λ later. frames_of-frame_append waiting later message e;
      nine = omega (arith, f.some);
      short = omega (arith, f.short);
      fewer = omega (arith, f.within);
    }

pub wants_more : (waiting : List ℕ) → answer_of waiting ≡ NeedMore → WantsMore waiting
wants_more waiting e =
    let left = ap length (left_of-need_more waiting e) in
    record {
      rest = frames_of-need_more waiting e;
      frames = λ later. frames_of-need_more_append waiting later e;
      room = omega (arith, (answer_of-need_more waiting e).1);
      fewer = length-left_of waiting;
    }

pub stays_too_long : (waiting : List ℕ) → length waiting ≤ most_bytes → answer_of waiting ≡ TooLong → StaysTooLong waiting
stays_too_long waiting bounded e =
    let long = long_from_too_long waiting e in
    record {
      frames = λ later. frames_of-too_long_append waiting later e;
      full = omega arith;
      stays = left_of-for_good waiting bounded e;
    }

-- what each answer says of the whole stream
pub tells : (waiting : List ℕ) → length waiting ≤ most_bytes → (answer : Answer) → answer_of waiting ≡ answer → Tells waiting answer
tells waiting bounded (Frame message) e = gives_frame waiting message e
tells waiting bounded NeedMore e = wants_more waiting e
tells waiting bounded TooLong e = stays_too_long waiting bounded e

-- one answer gives its frame, and the frames of what is left are behind it
pub frames_of-next : (waiting later : List ℕ) (answer : Answer) → answer_of waiting ≡ answer → frames_of (waiting ++ later) ≡ behind (frame_in answer) (frames_of (left_of waiting ++ later))
frames_of-next waiting later (Frame message) e = frames_of-frame_append waiting later message e
frames_of-next waiting later NeedMore e = frames_of-need_more_append waiting later e
frames_of-next waiting later TooLong e = sym (frames_of-without_blanks waiting later) ∙ ap (λ b. frames_of (b ++ later)) (sym (left_of-too_long waiting e))

behind-behind : (one other : List (List ℕ)) (frames : Frames) → behind one (behind other frames) ≡ behind (one ++ other) frames
behind-behind one other frames = ap (λ m. record { messages = m; rest = frames.rest }) (sym (append_assoc one other frames.messages))

-- from any bytes that wait, the frames given are the first of theirs and those of the bytes taken
pub frames_of-calls : (calls : List Call) (waiting later : List ℕ) → frames_of ((waiting ++ bytes_taken waiting calls) ++ later) ≡ behind (frames_given waiting calls) (frames_of (waiting_after waiting calls ++ later))
frames_of-calls [] waiting later = ap (λ b. frames_of (b ++ later)) (append-nil waiting)
frames_of-calls (Feed piece ∷ calls) waiting later =
    ap (λ b. frames_of (b ++ later)) (sym (append_assoc waiting (taken_of waiting piece) (bytes_taken (waiting ++ taken_of waiting piece) calls)))
    ∙ frames_of-calls calls (waiting ++ taken_of waiting piece) later
frames_of-calls (Next ∷ calls) waiting later =
    let taken = bytes_taken (left_of waiting) calls in
    ap frames_of (append_assoc waiting taken later)
    ∙ frames_of-next waiting (taken ++ later) (answer_of waiting) refl
    ∙ ap (λ b. behind (frame_in (answer_of waiting)) (frames_of b)) (sym (append_assoc (left_of waiting) taken later))
    ∙ ap (behind (frame_in (answer_of waiting))) (frames_of-calls calls (left_of waiting) later)
    ∙ behind-behind (frame_in (answer_of waiting)) (frames_given (left_of waiting) calls) (frames_of (waiting_after (left_of waiting) calls ++ later))

pub length-fed : (waiting piece : List ℕ) → length waiting ≤ most_bytes → length (waiting ++ taken_of waiting piece) ≤ most_bytes
length-fed waiting piece bounded =
    let l = length-append waiting (taken_of waiting piece) in
    let m = length-take (min (length piece) (most_bytes - length waiting)) piece in
    omega arith

bounded_by : (calls : List Call) (waiting : List ℕ) → length waiting ≤ most_bytes → length (waiting_after waiting calls) ≤ most_bytes
bounded_by [] waiting bounded = bounded
bounded_by (Feed piece ∷ calls) waiting bounded = bounded_by calls (waiting ++ taken_of waiting piece) (length-fed waiting piece bounded)
bounded_by (Next ∷ calls) waiting bounded = bounded_by calls (left_of waiting) (let l = length-left_of waiting in omega arith)

waiting_after-append : (calls more : List Call) (waiting : List ℕ) → waiting_after waiting (calls ++ more) ≡ waiting_after (waiting_after waiting calls) more
waiting_after-append [] more waiting = refl
waiting_after-append (Feed piece ∷ calls) more waiting = waiting_after-append calls more (waiting ++ taken_of waiting piece)
waiting_after-append (Next ∷ calls) more waiting = waiting_after-append calls more (left_of waiting)

stays : (calls : List Call) (waiting : List ℕ) → length waiting ≤ most_bytes → answer_of waiting ≡ TooLong → waiting_after waiting calls ≡ waiting
stays [] waiting bounded e = refl
stays (Feed piece ∷ calls) waiting bounded e =
    ap (λ b. waiting_after b calls) (ap (λ b. waiting ++ b) (taken_of-too_long waiting piece e) ∙ append-nil waiting) ∙ stays calls waiting bounded e
stays (Next ∷ calls) waiting bounded e = ap (λ b. waiting_after b calls) (left_of-for_good waiting bounded e) ∙ stays calls waiting bounded e

pub cuts_exactly : CutsExactly
cuts_exactly = record {
  frames = λ calls later. frames_of-calls calls [] later;
  bounded = λ calls. bounded_by calls [] (omega arith);
  for_good = λ calls more e. waiting_after-append calls more [] ∙ stays more (waiting_after [] calls) (bounded_by calls [] (omega arith)) e;
}

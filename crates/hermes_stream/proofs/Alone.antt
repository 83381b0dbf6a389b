-- A message that stands alone: no end begins in what stands before its end.
use Rattle.std.proofs.Common.{◌≡◌, ℕ, zero, suc, ◌+◌, ◌≤◌, Bool, true, false, cond, List, [], ◌∷◌, ◌++◌, Some, option_map, length, take, drop, refl, sym, ap, ◌∙◌, append_assoc, arith, inl, inr, length-append}
use Rattle.std.specs.Prelude.{◌==◌, ◌&&◌, not}
use Rattle.std.specs.List.{list_all}
use Rattle.std.proofs.lemmas.Bool.{cases_Bool, and_parts, false_from_ne_true, false≢true, cond-false, cond-true, eqb-true, eq-eqb, not-true}
use Rattle.std.proofs.lemmas.List.{take_all, drop_all}
use Rattle.hermes_stream.specs.Frames.{Frame, most_bytes, end_tag, begins_with_end, first_end, answer_of, left_of, behind, frames_of, IsOneFrame}
use Rattle.hermes_stream.proofs.Ends.{take-from_begins}
use Rattle.hermes_stream.proofs.Streams.{answer_of-found, left_of-found, frames_of-frame, frames_of-need_more}

-- no end begins in the bytes, whatever follows them
pub record IsQuiet (bytes : List ℕ) : Type 0 where
  pub passes : (later : List ℕ) (n : ℕ) → first_end later ≡ Some n → first_end (bytes ++ later) ≡ Some (length bytes + n)

pub quiet-none : IsQuiet []
quiet-none = record { passes = λ later n e. e ∙ ap (λ k. Some k) (let z : n ≡ 0 + n = omega arith in z) }

pub quiet-append : (a b : List ℕ) → IsQuiet a → IsQuiet b → IsQuiet (a ++ b)
quiet-append a b x y = record {
  passes = λ later n e.
      let l = length-append a b in
      let sum : length a + (length b + n) ≡ length (a ++ b) + n = omega (arith, l) in
      ap first_end (append_assoc a b later) ∙ x.passes (b ++ later) (length b + n) (y.passes later n e) ∙ ap (λ k. Some k) sum;
}

quiet-more : (b : ℕ) (bytes : List ℕ) → ((later : List ℕ) → begins_with_end (b ∷ (bytes ++ later)) ≡ false) → IsQuiet bytes → IsQuiet (b ∷ bytes)
quiet-more b bytes other rest = record {
  passes = λ later n e.
      let sum : (length bytes + n) + 1 ≡ length (b ∷ bytes) + n = omega arith in
      cond-false _ _ _ (other later) ∙ ap (option_map (λ k. k + 1)) (rest.passes later n e) ∙ ap (λ k. Some k) sum;
}

-- ---- a test

-- the bytes differ from the tag, whatever follows them
abbrev pub differ : List ℕ → List ℕ → Bool
differ [] tag = false
differ (b ∷ bytes) [] = false
differ (b ∷ bytes) (t ∷ tag) = cond (t == b) (differ bytes tag) true

tails : (x y : ℕ) (xs ys : List ℕ) → x ∷ xs ≡ y ∷ ys → xs ≡ ys
tails x y xs ys e = cc

heads : (x y : ℕ) (xs ys : List ℕ) → x ∷ xs ≡ y ∷ ys → x ≡ y
heads x y xs ys e = cc

differs : (n : ℕ) (bytes tag later : List ℕ) → differ bytes tag ≡ true → take n (bytes ++ later) ≡ tag → ⊥
differs n [] tag later d e = absurd (false≢true d)
differs n (b ∷ bytes) [] later d e = absurd (false≢true d)
differs zero (b ∷ bytes) (t ∷ tag) later d e = absurd (cc e)
differs (suc n) (b ∷ bytes) (t ∷ tag) later d e = elim (cases_Bool (t == b)) [
  | inl same ↦ differs n bytes tag later (sym (cond-true (t == b) (differ bytes tag) true same) ∙ d) (tails b t (take n (bytes ++ later)) tag e)
  | inr other ↦ false≢true (sym other ∙ eq-eqb t b (sym (heads b t (take n (bytes ++ later)) tag e)))
]

begins_otherwise : (bytes later : List ℕ) → differ bytes end_tag ≡ true → begins_with_end (bytes ++ later) ≡ false
begins_otherwise bytes later d = false_from_ne_true (begins_with_end (bytes ++ later)) (λ h. differs 9 bytes end_tag later d (take-from_begins (bytes ++ later) h))

-- each of the bytes and those behind it differ from an end
abbrev pub is_quiet : List ℕ → Bool
is_quiet [] = true
is_quiet (b ∷ bytes) = differ (b ∷ bytes) end_tag && is_quiet bytes

pub quiet : (bytes : List ℕ) → is_quiet bytes ≡ true → IsQuiet bytes
quiet [] h = quiet-none
quiet (b ∷ bytes) h =
    let p = and_parts (differ (b ∷ bytes) end_tag) (is_quiet bytes) h in
    quiet-more b bytes (λ later. begins_otherwise (b ∷ bytes) later p.0) (quiet bytes p.1)

-- ---- bytes without a `<`, and a start tag

abbrev pub is_no_open : ℕ → Bool
is_no_open b = not (b == 60)

abbrev pub have_no_open : List ℕ → Bool
have_no_open bytes = list_all is_no_open bytes

not_open : (b : ℕ) → is_no_open b ≡ true → (60 == b) ≡ false
not_open b h = false_from_ne_true (60 == b) (λ e. let same : b ≡ 60 = sym (eqb-true 60 b e) in false≢true (sym (not-true (b == 60) h) ∙ eq-eqb b 60 same))

pub quiet-no_open : (bytes : List ℕ) → have_no_open bytes ≡ true → IsQuiet bytes
quiet-no_open [] h = quiet-none
quiet-no_open (b ∷ bytes) h =
    let p = and_parts (is_no_open b) (have_no_open bytes) h in
    quiet-more b bytes (λ later. begins_otherwise (b ∷ bytes) later (cond-false (60 == b) (differ bytes (47 ∷ 72 ∷ 101 ∷ 114 ∷ 109 ∷ 101 ∷ 115 ∷ 62 ∷ [])) true (not_open b p.0))) (quiet-no_open bytes p.1)

-- a `<` before another byte than `/`
pub quiet-start : (b : ℕ) (bytes : List ℕ) → (47 == b) ≡ false → have_no_open (b ∷ bytes) ≡ true → IsQuiet (60 ∷ b ∷ bytes)
quiet-start b bytes other h =
    quiet-more 60 (b ∷ bytes) (λ later. begins_otherwise (60 ∷ b ∷ bytes) later (cond-false (47 == b) (differ bytes (72 ∷ 101 ∷ 114 ∷ 109 ∷ 101 ∷ 115 ∷ 62 ∷ [])) true other)) (quiet-no_open (b ∷ bytes) h)

-- ---- the whole

no_frames : frames_of [] ≡ record { messages = []; rest = Some [] }
unfolding answer_of left_of
no_frames = frames_of-need_more [] refl

-- what begins with a `<` and ends with its first end
pub one_frame : (front : List ℕ) → IsQuiet (60 ∷ front) → length front + 10 ≤ most_bytes → IsOneFrame ((60 ∷ front) ++ end_tag)
one_frame front q short =
    let message = (60 ∷ front) ++ end_tag in
    let l = length-append (60 ∷ front) end_tag in
    let nine : length end_tag ≡ 9 = refl in
    let count : length (60 ∷ front) + 9 ≡ length message = omega (arith, l, nine) in
    let fits : length message ≤ most_bytes = omega (arith, l, nine, short) in
    let found : first_end message ≡ Some (length message) = q.passes end_tag 9 refl ∙ ap (λ k. Some k) count in
    let whole : take (length message) message ≡ message = take_all (length message) message (omega arith) in
    let none : drop (length message) message ≡ [] = drop_all (length message) message (omega arith) in
    let answer : answer_of message ≡ Frame message = answer_of-found message message (length message) refl fits found ∙ ap (λ m. Frame m) whole in
    let left : left_of message ≡ [] = left_of-found message message (length message) refl fits found ∙ none in
    record {
      frames = frames_of-frame message message answer ∙ ap (λ b. behind (message ∷ []) (frames_of b)) left ∙ ap (behind (message ∷ [])) no_frames;
      short = fits;
    }

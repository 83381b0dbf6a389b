-- What a cut answers and leaves, once the blanks before the bytes that wait are dropped.
use Rattle.std.proofs.Common.{◌≡◌, ℕ, ◌≤◌, Bool, true, false, cond, nat_lt, List, [], None, Some, length, take, drop, refl, sym, ap, ◌∙◌, arith}
use Rattle.hermes_stream.specs.Frames.{Frame, NeedMore, TooLong, most_bytes, without_blanks, first_end, answer_of, left_of}
use Rattle.hermes_stream.specs.Block.{Held, message_in}
use Rattle.hermes_stream.proofs.Streams.{length-without_blanks, answer_of-found, left_of-found, answer_of-none, left_of-none}

-- what a block with this frame and these bytes holds
abbrev pub held : List ℕ → List ℕ → Held
held frame waiting = record { frame = frame; waiting = waiting }

held-same : (frame frame' waiting waiting' : List ℕ) → frame ≡ frame' → waiting ≡ waiting' → held frame waiting ≡ held frame' waiting'
held-same frame frame' waiting waiting' e f = ap (λ x. held x waiting) e ∙ ap (held frame') f

none_in : (test : Bool) → message_in (cond test NeedMore TooLong) ≡ []
none_in true = refl
none_in false = refl

module _ (waiting message : List ℕ) (bounded : length waiting ≤ most_bytes) (is : message ≡ without_blanks waiting) where
  short : length message ≤ most_bytes
  short = let less = length-without_blanks waiting in omega (arith, ap length is)

  -- an end is among them
  pub answer_with_end : (count : ℕ) → first_end message ≡ Some count → answer_of waiting ≡ Frame (take count message)
  answer_with_end count found = answer_of-found waiting message count is short found

  pub held_with_end : (count : ℕ) → first_end message ≡ Some count → held (take count message) (drop count message) ≡ held (message_in (answer_of waiting)) (left_of waiting)
  held_with_end count found = held-same _ _ _ _ (sym (ap message_in (answer_with_end count found))) (sym (left_of-found waiting message count is short found))

  -- none is
  pub answer_without_end : first_end message ≡ None → answer_of waiting ≡ cond (nat_lt (length message) most_bytes) NeedMore TooLong
  answer_without_end none = answer_of-none waiting message is short none

  pub held_without_end : first_end message ≡ None → held [] message ≡ held (message_in (answer_of waiting)) (left_of waiting)
  held_without_end none = held-same _ _ _ _
      (sym (ap message_in (answer_without_end none) ∙ none_in (nat_lt (length message) most_bytes)))
      (sym (left_of-none waiting message is short none))

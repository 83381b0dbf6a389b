-- The frames of a stream: by their first, and whatever bytes follow.
use Rattle.std.proofs.Common.{◌≡◌, ℕ, zero, suc, ◌+◌, ◌<◌, ◌≤◌, Bool, true, false, cond, List, [], ◌∷◌, ◌++◌, Option, None, Some, length, take, drop, min, unwrap_or, nat_lt, refl, sym, ap, ◌∙◌, arith}
use Rattle.std.proofs.lemmas.List.{length-append, length-take, length-drop, take_all, take-take, take-append-le, drop-append-le, take-append-drop, take_min}
use Rattle.std.proofs.lemmas.Bool.{cond-false, ltb-true, ltb-false, le-ltb}
use Rattle.hermes_stream.specs.Frames.{Answer, Frame, NeedMore, TooLong, Frames, most_bytes, is_blank, without_blanks, first_end, end_within, answer_at, answer_of, left_of, joined, behind, frames_within, frames_of}
use Rattle.hermes_stream.proofs.Ends.{first_end-within, first_end-append}

-- blanks

pub length-without_blanks : (bytes : List ℕ) → length (without_blanks bytes) ≤ length bytes
length-without_blanks [] = omega arith
length-without_blanks (b ∷ bytes) = go (length-without_blanks bytes) (is_blank b)
  where
    go : length (without_blanks bytes) ≤ length bytes → (t : Bool) → length (cond t (without_blanks bytes) (b ∷ bytes)) ≤ length (b ∷ bytes)
    go less true = omega arith
    go less false = omega arith

pub without_blanks-append : (bytes later : List ℕ) → 0 < length (without_blanks bytes) → without_blanks (bytes ++ later) ≡ without_blanks bytes ++ later
without_blanks-append [] later some = absurd (omega arith)
without_blanks-append (b ∷ bytes) later some = go (without_blanks-append bytes later) (is_blank b) some
  where
    go : (0 < length (without_blanks bytes) → without_blanks (bytes ++ later) ≡ without_blanks bytes ++ later) → (t : Bool) → 0 < length (cond t (without_blanks bytes) (b ∷ bytes)) → cond t (without_blanks (bytes ++ later)) (b ∷ (bytes ++ later)) ≡ cond t (without_blanks bytes) (b ∷ bytes) ++ later
    go same true is_some = same is_some
    go same false is_some = refl

pub without_blanks-again : (bytes later : List ℕ) → without_blanks (without_blanks bytes ++ later) ≡ without_blanks (bytes ++ later)
without_blanks-again [] later = refl
without_blanks-again (b ∷ bytes) later = go (without_blanks-again bytes later) (is_blank b) refl
  where
    go : without_blanks (without_blanks bytes ++ later) ≡ without_blanks (bytes ++ later) → (t : Bool) → is_blank b ≡ t → without_blanks (cond t (without_blanks bytes) (b ∷ bytes) ++ later) ≡ cond t (without_blanks (bytes ++ later)) (b ∷ (bytes ++ later))
    go same true blank = same
    go same false not_blank = cond-false _ _ _ not_blank

pub without_blanks-whole : (bytes : List ℕ) → length bytes ≤ length (without_blanks bytes) → without_blanks bytes ≡ bytes
without_blanks-whole [] long = refl
without_blanks-whole (b ∷ bytes) long = go (length-without_blanks bytes) (is_blank b) long
  where
    go : length (without_blanks bytes) ≤ length bytes → (t : Bool) → length (b ∷ bytes) ≤ length (cond t (without_blanks bytes) (b ∷ bytes)) → cond t (without_blanks bytes) (b ∷ bytes) ≡ b ∷ bytes
    go less true longer = absurd (omega arith)
    go less false whole = refl

-- the end of a message within the most bytes

pub end_within-within : (message : List ℕ) (n : ℕ) → end_within message ≡ Some n → (9 ≤ n) × (n ≤ length message) × (n ≤ most_bytes)
end_within-within message n e =
    let within : (9 ≤ n) × (n ≤ length (take most_bytes message)) = first_end-within (take most_bytes message) n e in
    let l = length-take most_bytes message in
    (within.0, omega arith, omega arith)

take-longer : (n : ℕ) (message later : List ℕ) → take n message ++ drop (length (take n message)) (take n (message ++ later)) ≡ take n (message ++ later)
take-longer n message later =
    let k : ℕ = length (take n message) in
    let is : k ≡ min n (length message) = length-take n message in
    let front : take k (take n (message ++ later)) ≡ take n message =
    take-take k n (message ++ later) (omega arith)
    ∙ take-append-le k message later (omega arith)
    ∙ ap (λ j. take j message) is
    ∙ take_min n message in
    ap (λ b. b ++ drop k (take n (message ++ later))) (sym front) ∙ take-append-drop k (take n (message ++ later))

pub end_within-append : (message later : List ℕ) (n : ℕ) → end_within message ≡ Some n → end_within (message ++ later) ≡ Some n
end_within-append message later n e =
    rw (← take-longer most_bytes message later) (first_end-append (take most_bytes message) (drop (length (take most_bytes message)) (take most_bytes (message ++ later))) n e)

pub end_within-long : (message later : List ℕ) → most_bytes ≤ length message → end_within (message ++ later) ≡ end_within message
end_within-long message later long = ap first_end (take-append-le most_bytes message later long)

-- a message at the front

answer_at-frame : (message found : List ℕ) (o : Option ℕ) → answer_at message o ≡ Frame found → (n : ℕ) × (o ≡ Some n) × (take n message ≡ found)
answer_at-frame message found None e = go (nat_lt (length message) most_bytes) e
  where
    go : (t : Bool) → cond t NeedMore TooLong ≡ Frame found → (n : ℕ) × (◌≡◌ {A = Option ℕ} None (Some n)) × (take n message ≡ found)
    go true wrong = cc
    go false wrong = cc
answer_at-frame message found (Some n) e = (n, refl, cc)

-- what is known of bytes with a message at their front
pub record HasFrame (bytes message : List ℕ) : Type 0 where
  pub count : ℕ
  pub ends : end_within (without_blanks bytes) ≡ Some count
  pub is : take count (without_blanks bytes) ≡ message
  pub left : left_of bytes ≡ drop count (without_blanks bytes)
  pub some : 9 ≤ count
  pub within : count ≤ length (without_blanks bytes)
  pub short : count ≤ most_bytes

pub has_frame : (bytes message : List ℕ) → answer_of bytes ≡ Frame message → HasFrame bytes message
unfolding answer_of left_of
has_frame bytes message e =
    let n = answer_at-frame (without_blanks bytes) message (end_within (without_blanks bytes)) e in
    let bounds = end_within-within (without_blanks bytes) n.0 n.1 in
    record {
      count = n.0;
      ends = n.1;
      is = n.2;
      left = ap (λ o. drop (unwrap_or o 0) (without_blanks bytes)) n.1;
      some = bounds.0;
      within = bounds.1;
      short = bounds.2;
    }

-- a message at the front is shorter than the bytes
pub left_of-shorter : (bytes message : List ℕ) → answer_of bytes ≡ Frame message → length (left_of bytes) < length bytes
left_of-shorter bytes message e =
    let f = has_frame bytes message e in
    let l = length-drop f.count (without_blanks bytes) in
    let m = length-without_blanks bytes in
    let p = ap length f.left in
    omega (arith, f.some, f.within)

-- a message at the front stays there, whatever follows
pub answer_of-frame_append : (bytes later message : List ℕ) → answer_of bytes ≡ Frame message → answer_of (bytes ++ later) ≡ Frame message
unfolding answer_of
answer_of-frame_append bytes later message e =
    let f = has_frame bytes message e in
    let some : 0 < length (without_blanks bytes) = omega (arith, f.some, f.within) in
    let ends : end_within (without_blanks bytes ++ later) ≡ Some f.count = end_within-append (without_blanks bytes) later f.count f.ends in
    ap (λ b. answer_at b (end_within b)) (without_blanks-append bytes later some)
    ∙ ap (answer_at (without_blanks bytes ++ later)) ends
    ∙ ap (λ m. Frame m) (take-append-le f.count (without_blanks bytes) later f.within ∙ f.is)

pub left_of-frame_append : (bytes later message : List ℕ) → answer_of bytes ≡ Frame message → left_of (bytes ++ later) ≡ left_of bytes ++ later
unfolding left_of
left_of-frame_append bytes later message e =
    let f = has_frame bytes message e in
    let some : 0 < length (without_blanks bytes) = omega (arith, f.some, f.within) in
    let ends : end_within (without_blanks bytes ++ later) ≡ Some f.count = end_within-append (without_blanks bytes) later f.count f.ends in
    ap (λ b. drop (unwrap_or (end_within b) 0) b) (without_blanks-append bytes later some)
    ∙ ap (λ o. drop (unwrap_or o 0) (without_blanks bytes ++ later)) ends
    ∙ drop-append-le f.count (without_blanks bytes) later f.within
    ∙ ap (λ b. b ++ later) (sym f.left)

-- no message at the front

answer_at-none : (message : List ℕ) (o : Option ℕ) → answer_at message o ≡ NeedMore → (o ≡ None) × (length message < most_bytes)
answer_at-none message None e = go (nat_lt (length message) most_bytes) refl e
  where
    go : (t : Bool) → nat_lt (length message) most_bytes ≡ t → cond t NeedMore TooLong ≡ NeedMore → (◌≡◌ {A = Option ℕ} None None) × (length message < most_bytes)
    go true short is = (refl, ltb-true _ _ short)
    go false long wrong = cc
answer_at-none message (Some n) e = cc

answer_at-long : (message : List ℕ) (o : Option ℕ) → answer_at message o ≡ TooLong → (o ≡ None) × (most_bytes ≤ length message)
answer_at-long message None e = go (nat_lt (length message) most_bytes) refl e
  where
    go : (t : Bool) → nat_lt (length message) most_bytes ≡ t → cond t NeedMore TooLong ≡ TooLong → (◌≡◌ {A = Option ℕ} None None) × (most_bytes ≤ length message)
    go true short wrong = cc
    go false long is = (refl, ltb-false _ _ long)
answer_at-long message (Some n) e = cc

-- no end, and fewer bytes than the most
pub answer_of-need_more : (bytes : List ℕ) → answer_of bytes ≡ NeedMore → (end_within (without_blanks bytes) ≡ None) × (length (without_blanks bytes) < most_bytes)
unfolding answer_of
answer_of-need_more bytes e = answer_at-none (without_blanks bytes) (end_within (without_blanks bytes)) e

-- no end, and the most bytes
pub answer_of-too_long : (bytes : List ℕ) → answer_of bytes ≡ TooLong → (end_within (without_blanks bytes) ≡ None) × (most_bytes ≤ length (without_blanks bytes))
unfolding answer_of
answer_of-too_long bytes e = answer_at-long (without_blanks bytes) (end_within (without_blanks bytes)) e

pub left_of-need_more : (bytes : List ℕ) → answer_of bytes ≡ NeedMore → left_of bytes ≡ without_blanks bytes
unfolding left_of
left_of-need_more bytes e = ap (λ o. drop (unwrap_or o 0) (without_blanks bytes)) (answer_of-need_more bytes e).0

pub left_of-too_long : (bytes : List ℕ) → answer_of bytes ≡ TooLong → left_of bytes ≡ without_blanks bytes
unfolding left_of
left_of-too_long bytes e = ap (λ o. drop (unwrap_or o 0) (without_blanks bytes)) (answer_of-too_long bytes e).0

-- what is too long stays so, whatever follows
pub answer_of-too_long_append : (bytes later : List ℕ) → answer_of bytes ≡ TooLong → answer_of (bytes ++ later) ≡ TooLong
unfolding answer_of
answer_of-too_long_append bytes later e =
    let none = answer_of-too_long bytes e in
    let l = length-append (without_blanks bytes) later in
    let long : most_bytes ≤ length (without_blanks bytes ++ later) = omega (arith, none.1) in
    ap (λ b. answer_at b (end_within b)) (without_blanks-append bytes later (omega (arith, none.1)))
    ∙ ap (answer_at (without_blanks bytes ++ later)) (end_within-long (without_blanks bytes) later none.1 ∙ none.0)
    ∙ cond-false _ _ _ (le-ltb _ _ long)

-- the frames by the first

joined-same : (answer : Answer) (left : List ℕ) (one other : Frames) → ((message : List ℕ) → answer ≡ Frame message → one ≡ other) → joined answer left one ≡ joined answer left other
joined-same (Frame message) left one other same = ap (behind (message ∷ [])) (same message refl)
joined-same NeedMore left one other same = refl
joined-same TooLong left one other same = refl

pub frames_within-same : (one other : ℕ) (bytes : List ℕ) → length bytes < one → length bytes < other → frames_within one bytes ≡ frames_within other bytes
unfolding frames_within
frames_within-same zero other bytes l m = absurd (omega arith)
frames_within-same (suc one) zero bytes l m = absurd (omega arith)
frames_within-same (suc one) (suc other) bytes l m =
    joined-same (answer_of bytes) (left_of bytes) (frames_within one (left_of bytes)) (frames_within other (left_of bytes))
    (λ message e. let shorter = left_of-shorter bytes message e in frames_within-same one other (left_of bytes) (omega arith) (omega arith))

-- the frames of a stream are what stands at its front, and the frames of what is left
pub frames_of-step : (bytes : List ℕ) → frames_of bytes ≡ joined (answer_of bytes) (left_of bytes) (frames_of (left_of bytes))
unfolding frames_within frames_of
frames_of-step bytes =
    let e : length bytes + 1 ≡ suc (length bytes) = omega arith in
    ap (λ n. frames_within n bytes) e
    ∙ joined-same (answer_of bytes) (left_of bytes) (frames_within (length bytes) (left_of bytes)) (frames_within (length (left_of bytes) + 1) (left_of bytes))
    (λ message h. let shorter = left_of-shorter bytes message h in frames_within-same (length bytes) (length (left_of bytes) + 1) (left_of bytes) shorter (omega arith))

pub frames_of-frame : (bytes message : List ℕ) → answer_of bytes ≡ Frame message → frames_of bytes ≡ behind (message ∷ []) (frames_of (left_of bytes))
frames_of-frame bytes message e = frames_of-step bytes ∙ ap (λ a. joined a (left_of bytes) (frames_of (left_of bytes))) e

pub frames_of-need_more : (bytes : List ℕ) → answer_of bytes ≡ NeedMore → frames_of bytes ≡ record { messages = []; rest = Some (left_of bytes) }
frames_of-need_more bytes e = frames_of-step bytes ∙ ap (λ a. joined a (left_of bytes) (frames_of (left_of bytes))) e

pub frames_of-too_long : (bytes : List ℕ) → answer_of bytes ≡ TooLong → frames_of bytes ≡ record { messages = []; rest = None }
frames_of-too_long bytes e = frames_of-step bytes ∙ ap (λ a. joined a (left_of bytes) (frames_of (left_of bytes))) e

-- the same with whatever follows

pub frames_of-frame_append : (bytes later message : List ℕ) → answer_of bytes ≡ Frame message → frames_of (bytes ++ later) ≡ behind (message ∷ []) (frames_of (left_of bytes ++ later))
frames_of-frame_append bytes later message e =
    frames_of-frame (bytes ++ later) message (answer_of-frame_append bytes later message e)
    ∙ ap (λ b. behind (message ∷ []) (frames_of b)) (left_of-frame_append bytes later message e)

-- the frames don't depend on the blanks before them
pub frames_of-without_blanks : (bytes later : List ℕ) → frames_of (without_blanks bytes ++ later) ≡ frames_of (bytes ++ later)
unfolding answer_of left_of
frames_of-without_blanks bytes later =
    let same = without_blanks-again bytes later in
    let front : answer_of (without_blanks bytes ++ later) ≡ answer_of (bytes ++ later) = ap (λ b. answer_at b (end_within b)) same in
    let left : left_of (without_blanks bytes ++ later) ≡ left_of (bytes ++ later) = ap (λ b. drop (unwrap_or (end_within b) 0) b) same in
    frames_of-step (without_blanks bytes ++ later)
    ∙ ap (λ a. joined a (left_of (without_blanks bytes ++ later)) (frames_of (left_of (without_blanks bytes ++ later)))) front
    ∙ ap (λ b. joined (answer_of (bytes ++ later)) b (frames_of b)) left
    ∙ sym (frames_of-step (bytes ++ later))

pub frames_of-need_more_append : (bytes later : List ℕ) → answer_of bytes ≡ NeedMore → frames_of (bytes ++ later) ≡ frames_of (left_of bytes ++ later)
frames_of-need_more_append bytes later e = sym (frames_of-without_blanks bytes later) ∙ ap (λ b. frames_of (b ++ later)) (sym (left_of-need_more bytes e))

pub frames_of-too_long_append : (bytes later : List ℕ) → answer_of bytes ≡ TooLong → frames_of (bytes ++ later) ≡ record { messages = []; rest = None }
frames_of-too_long_append bytes later e = frames_of-too_long (bytes ++ later) (answer_of-too_long_append bytes later e)

-- what a search of the whole message says

end_within-all : (message : List ℕ) → length message ≤ most_bytes → end_within message ≡ first_end message
end_within-all message short = ap first_end (take_all most_bytes message short)

pub answer_of-found : (bytes message : List ℕ) (count : ℕ) → message ≡ without_blanks bytes → length message ≤ most_bytes → first_end message ≡ Some count → answer_of bytes ≡ Frame (take count message)
unfolding answer_of
answer_of-found bytes message count is short found =
    ap (λ b. answer_at b (end_within b)) (sym is) ∙ ap (answer_at message) (end_within-all message short ∙ found)

pub left_of-found : (bytes message : List ℕ) (count : ℕ) → message ≡ without_blanks bytes → length message ≤ most_bytes → first_end message ≡ Some count → left_of bytes ≡ drop count message
unfolding left_of
left_of-found bytes message count is short found =
    ap (λ b. drop (unwrap_or (end_within b) 0) b) (sym is) ∙ ap (λ o. drop (unwrap_or o 0) message) (end_within-all message short ∙ found)

pub answer_of-none : (bytes message : List ℕ) → message ≡ without_blanks bytes → length message ≤ most_bytes → first_end message ≡ None → answer_of bytes ≡ cond (nat_lt (length message) most_bytes) NeedMore TooLong
unfolding answer_of
answer_of-none bytes message is short none =
    ap (λ b. answer_at b (end_within b)) (sym is) ∙ ap (answer_at message) (end_within-all message short ∙ none)

pub left_of-none : (bytes message : List ℕ) → message ≡ without_blanks bytes → length message ≤ most_bytes → first_end message ≡ None → left_of bytes ≡ message
unfolding left_of
left_of-none bytes message is short none =
    ap (λ b. drop (unwrap_or (end_within b) 0) b) (sym is) ∙ ap (λ o. drop (unwrap_or o 0) message) (end_within-all message short ∙ none)

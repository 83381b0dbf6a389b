-- A NUL that is put before the next byte to arrive is in the next frame, and what has a NUL in it is refused.
use Rattle.std.proofs.Common.{Bool, List, None, Some, [], ap, append-nil, append_assoc, arith, drop, false, inl, inr, length, option_map, refl, subst, suc, sym, take, true, zero, ℕ, ◌++◌, ◌+◌, ◌<◌, ◌∙◌, ◌∷◌, ◌≡◌, ◌≤◌, ◌⊎◌}
use Rattle.std.proofs.lemmas.Bool.{cases_lt, cond-false, cond-true}
use Rattle.std.proofs.lemmas.List.{take-append-drop, take-append-le, take-take, take_all}
use Rattle.hermes_stream.proofs.Ends.{begins-append, first_end-within, mapped}
use Rattle.hermes_stream.proofs.Streams.{answer_of-need_more, frames_of-frame, frames_of-need_more, frames_of-too_long, has_frame, without_blanks-again, without_blanks-append}
use Rattle.hermes_stream.specs.Cutter.{GivesFrame, WantsMore}
use Rattle.hermes_stream.specs.Frames.{Answer, Frame, NeedMore, TooLong, answer_of, begins_with_end, end_within, first_end, frames_of, left_of, most_bytes, without_blanks}
use Rattle.law_custody.specs.Bytes.{HasNul, Spoiled}

-- an end that is found within a front is found in the front alone
found_in_front : (x y : List ℕ) (n : ℕ) → first_end (x ++ y) ≡ Some n → n ≤ length x → first_end x ≡ Some n
found_in_front [] y n e short = let within : (9 ≤ n) × (n ≤ length y) = first_end-within y n e in absurd (omega (arith, short, within.0))
found_in_front (b ∷ bs) y n e short = go (λ m. found_in_front bs y m) (begins_with_end (b ∷ (bs ++ y))) refl
  where
    go : ((m : ℕ) → first_end (bs ++ y) ≡ Some m → m ≤ length bs → first_end bs ≡ Some m) → (t : Bool) → begins_with_end (b ∷ (bs ++ y)) ≡ t → first_end (b ∷ bs) ≡ Some n
    go later true here =
        let is : Some 9 ≡ Some n = sym (cond-true _ _ _ here) ∙ e in
        let nine : 9 ≡ n = cc in
        let own : begins_with_end (b ∷ bs) ≡ true = sym (begins-append (b ∷ bs) y (omega arith)) ∙ here in
        cond-true _ _ _ own ∙ is
    go later false not_here =
        let is : option_map (λ m. m + 1) (first_end (bs ++ y)) ≡ Some n = sym (cond-false _ _ _ not_here) ∙ e in
        let m = mapped (first_end (bs ++ y)) n is in
        let within : (9 ≤ m.0) × (m.0 ≤ length (bs ++ y)) = first_end-within (bs ++ y) m.0 m.1 in
        let own : begins_with_end (b ∷ bs) ≡ false = sym (begins-append (b ∷ bs) y (omega (arith, m.2, within.0))) ∙ not_here in
        cond-false _ _ _ own ∙ ap (option_map (λ m. m + 1)) (later m.0 m.1 (omega (arith, m.2))) ∙ ap (λ n. Some n) m.2

-- what is taken beyond a front has the byte behind it
nul_behind : (x y : List ℕ) (n : ℕ) → length x < n → HasNul (take n (x ++ (0 ∷ y)))
nul_behind [] y zero far = absurd (omega (arith, far))
nul_behind [] y (suc n) far = record { front = []; rest = take n y; is = refl }
nul_behind (b ∷ x) y zero far = absurd (omega (arith, far))
nul_behind (b ∷ x) y (suc n) far = let later = nul_behind x y n (omega (arith, far)) in record { front = b ∷ later.front; rest = later.rest; is = ap (λ bs. b ∷ bs) later.is }

-- the blanks before a front are those before what follows it, since a NUL is no blank
blanks_before : (w y : List ℕ) → without_blanks (w ++ (0 ∷ y)) ≡ without_blanks w ++ (0 ∷ y)
blanks_before w y = sym (without_blanks-again w (0 ∷ y)) ∙ go (without_blanks w) refl
  where
    go : (x : List ℕ) → without_blanks w ≡ x → without_blanks (x ++ (0 ∷ y)) ≡ x ++ (0 ∷ y)
    go [] e = refl
    go (b ∷ x) e =
        let whole : without_blanks (b ∷ x) ≡ b ∷ x = ap without_blanks (sym e ∙ sym (append-nil (without_blanks w))) ∙ without_blanks-again w [] ∙ ap without_blanks (append-nil w) ∙ e in
        without_blanks-append (b ∷ x) (0 ∷ y) (rw whole (omega arith)) ∙ ap (λ z. z ++ (0 ∷ y)) whole

-- bytes without a frame, and what follows them: an end lies beyond them
end_beyond : (x z : List ℕ) (n : ℕ) → end_within x ≡ None → length x < most_bytes → end_within (x ++ z) ≡ Some n → length x < n
end_beyond x z n none short ends = go (cases_lt (length x) n)
  where
    go : (length x < n) ⊎ (n ≤ length x) → length x < n
    go (inl beyond) = beyond
    go (inr within) =
        let t : List ℕ = take most_bytes (x ++ z) in
        let k : ℕ = length x in
        let front : take k t ≡ x = take-take k most_bytes (x ++ z) (omega (arith, short)) ∙ take-append-le k x z (omega arith) ∙ take_all k x (omega arith) in
        let whole : x ++ drop k t ≡ t = ap (λ b. b ++ drop k t) (sym front) ∙ take-append-drop k t in
        let found : first_end x ≡ Some n = found_in_front x (drop k t) n (ap first_end whole ∙ ends) within in
        let no : first_end x ≡ None = ap first_end (sym (take_all most_bytes x (omega (arith, short)))) ∙ none in
        cc

-- bytes that come to no frame, a NUL behind them and anything more: a frame of these has the NUL in it
pub nul_in_frame : (w y f : List ℕ) → answer_of w ≡ NeedMore → answer_of (w ++ (0 ∷ y)) ≡ Frame f → HasNul f
nul_in_frame w y f none some =
    let h = has_frame (w ++ (0 ∷ y)) f some in
    let no : (end_within (without_blanks w) ≡ None) × (length (without_blanks w) < most_bytes) = answer_of-need_more w none in
    let ends : end_within (without_blanks w ++ (0 ∷ y)) ≡ Some h.count = ap end_within (sym (blanks_before w y)) ∙ h.ends in
    let is : take h.count (without_blanks w ++ (0 ∷ y)) ≡ f = ap (take h.count) (sym (blanks_before w y)) ∙ h.is in
    subst HasNul is (nul_behind (without_blanks w) y h.count (end_beyond (without_blanks w) (0 ∷ y) h.count no.0 no.1 ends))

-- a NUL is put before the next byte to arrive, where the bytes of the receiver come to no frame
pub puts_a_nul : (w c : List ℕ) → answer_of w ≡ NeedMore → Spoiled w (0 ∷ c)
puts_a_nul w c none = record { front = w; rest = c; none = none; same = λ later. refl }

-- bytes arrive, more is wanted, and more is sent: it is there still
pub nul_arrives : (w p c : List ℕ) → Spoiled w (p ++ c) → Spoiled (w ++ p) c
nul_arrives w p c s = record { front = s.front; rest = s.rest; none = s.none; same = λ later. ap frames_of (append_assoc w p (c ++ later) ∙ ap (λ z. w ++ z) (sym (append_assoc p c later))) ∙ s.same later }

pub nul_waits : (w c : List ℕ) → WantsMore w → Spoiled w c → Spoiled (left_of w) c
nul_waits w c g s = record { front = s.front; rest = s.rest; none = s.none; same = λ later. sym (g.frames (c ++ later)) ∙ s.same later }

pub nul_stays : (w c t : List ℕ) → Spoiled w c → Spoiled w (c ++ t)
nul_stays w c t s =
    record { front = s.front; rest = s.rest ++ t; none = s.none; same = λ later. ap (λ z. frames_of (w ++ z)) (append_assoc c t later) ∙ s.same (t ++ later) ∙ ap (λ z. frames_of (s.front ++ (0 ∷ z))) (sym (append_assoc s.rest t later)) }

same_frame : {f g : List ℕ} {fs gs : List (List ℕ)} → f ∷ fs ≡ g ∷ gs → g ≡ f
same_frame e = cc

no_frame : {X : Type 0} {f : List ℕ} {fs : List (List ℕ)} → f ∷ fs ≡ [] → X
no_frame e = cc

nul_first : (x y f : List ℕ) (fs : List (List ℕ)) → answer_of x ≡ NeedMore → f ∷ fs ≡ (frames_of (x ++ (0 ∷ y))).messages → (answer : Answer) → answer_of (x ++ (0 ∷ y)) ≡ answer → HasNul f
nul_first x y f fs none e (Frame g) is = subst HasNul (same_frame (e ∙ ap (λ z. z.messages) (frames_of-frame (x ++ (0 ∷ y)) g is))) (nul_in_frame x y g none is)
nul_first x y f fs none e NeedMore is = no_frame (e ∙ ap (λ z. z.messages) (frames_of-need_more (x ++ (0 ∷ y)) is))
nul_first x y f fs none e TooLong is = no_frame (e ∙ ap (λ z. z.messages) (frames_of-too_long (x ++ (0 ∷ y)) is))

-- and the next frame has it in it
pub nul_is_cut : (w c f : List ℕ) → GivesFrame w f → Spoiled w c → HasNul f
nul_is_cut w c f g s =
    let e : f ∷ (frames_of (left_of w ++ (c ++ []))).messages ≡ (frames_of (s.front ++ (0 ∷ (s.rest ++ [])))).messages = ap (λ z. z.messages) (sym (g.frames (c ++ [])) ∙ s.same []) in
    nul_first s.front (s.rest ++ []) f (frames_of (left_of w ++ (c ++ []))).messages s.none e (answer_of (s.front ++ (0 ∷ (s.rest ++ [])))) refl

-- Where the first end of a message stands.
use Rattle.std.proofs.Common.{◌≡◌, ℕ, zero, suc, ◌+◌, ◌-◌, ◌<◌, ◌≤◌, Bool, true, false, List, [], ◌∷◌, ◌++◌, Option, None, Some, length, take, drop, get_or, nat_eq, refl, sym, ap, ◌∙◌, arith, option_map, inl, inr}
use Rattle.std.specs.Cmp.Lexicographic.{pointwise}
use Rattle.std.proofs.lemmas.List.{length-take, length-take-le, take-append-le, drop-append-le, drop-drop, drop-take, length-drop, get_or-take, get_or-drop}
use Rattle.std.proofs.lemmas.Bool.{false_from_ne_true, cond-true, cond-false, cases_lt}
use Rattle.std.proofs.lemmas.Slice.Eq.{bytes_eq-Decides}
use Rattle.hermes_stream.specs.Frames.{end_tag, begins_with_end, first_end}
use Rattle.hermes_stream.specs.Scan.{HasNoClose, IsSearched, ends_at}

-- an end at the front is the nine bytes of the tag
pub take-from_begins : (bytes : List ℕ) → begins_with_end bytes ≡ true → take 9 bytes ≡ end_tag
take-from_begins bytes h = sym ((bytes_eq-Decides end_tag (take 9 bytes)).0 h)

pub begins-from_take : (bytes : List ℕ) → take 9 bytes ≡ end_tag → begins_with_end bytes ≡ true
begins-from_take bytes h = (bytes_eq-Decides end_tag (take 9 bytes)).1 (sym h)

pub long_from_begins : (bytes : List ℕ) → begins_with_end bytes ≡ true → 9 ≤ length bytes
long_from_begins bytes h =
    let e : length (take 9 bytes) ≡ 9 = ap length (take-from_begins bytes h) in omega (arith, length-take 9 bytes)

pub begins-short : (bytes : List ℕ) → length bytes < 9 → begins_with_end bytes ≡ false
begins-short bytes short = false_from_ne_true (begins_with_end bytes) (λ h. let long : 9 ≤ length bytes = long_from_begins bytes h in omega arith)

-- what follows nine bytes changes nothing
pub begins-append : (bytes later : List ℕ) → 9 ≤ length bytes → begins_with_end (bytes ++ later) ≡ begins_with_end bytes
begins-append bytes later long = rw (take-append-le 9 bytes later long) refl

-- the first place where the tag stands
pub first_end-at : (bytes : List ℕ) (at : ℕ) → ((k : ℕ) → k < at → begins_with_end (drop k bytes) ≡ false) → begins_with_end (drop at bytes) ≡ true → first_end bytes ≡ Some (at + 9)
first_end-at [] at before here =
    let long : 9 ≤ length (drop at []) = long_from_begins (drop at []) here in
    let short : length (drop {A = ℕ} at []) ≡ 0 - at = length-drop at [] in
    absurd (omega arith)
first_end-at (b ∷ bytes) zero before here = cond-true _ _ _ here
first_end-at (b ∷ bytes) (suc at) before here =
    let later : first_end bytes ≡ Some (at + 9) = first_end-at bytes at (λ k l. before (suc k) (omega arith)) here in
    let sum : (at + 9) + 1 ≡ suc at + 9 = omega arith in
    cond-false _ _ _ (before 0 (omega arith)) ∙ ap (option_map (λ n. n + 1)) later ∙ ap (λ n. Some n) sum

-- no place where the tag stands
pub first_end-none : (bytes : List ℕ) → ((k : ℕ) → begins_with_end (drop k bytes) ≡ false) → first_end bytes ≡ None
first_end-none [] none_at = refl
first_end-none (b ∷ bytes) none_at =
    cond-false _ _ _ (none_at 0) ∙ ap (option_map (λ n. n + 1)) (first_end-none bytes (λ k. none_at (suc k)))

pub mapped : (o : Option ℕ) (n : ℕ) → option_map (λ m. m + 1) o ≡ Some n → (m : ℕ) × (o ≡ Some m) × (m + 1 ≡ n)
mapped None n e = cc
mapped (Some m) n e = (m, refl, cc)

-- a first end lies within the bytes
pub first_end-within : (bytes : List ℕ) (n : ℕ) → first_end bytes ≡ Some n → (9 ≤ n) × (n ≤ length bytes)
first_end-within [] n e = cc
first_end-within (b ∷ bytes) n e = go (λ m. first_end-within bytes m) (begins_with_end (b ∷ bytes)) refl
  where
    go : ((m : ℕ) → first_end bytes ≡ Some m → (9 ≤ m) × (m ≤ length bytes)) → (t : Bool) → begins_with_end (b ∷ bytes) ≡ t → (9 ≤ n) × (n ≤ length (b ∷ bytes))
    go later true here =
        let is : Some 9 ≡ Some n = sym (cond-true _ _ _ here) ∙ e in
        let nine : 9 ≡ n = cc in
        let long : 9 ≤ length (b ∷ bytes) = long_from_begins (b ∷ bytes) here in
        (omega arith, omega arith)
    go later false not_here =
        let is : option_map (λ m. m + 1) (first_end bytes) ≡ Some n = sym (cond-false _ _ _ not_here) ∙ e in
        let m = mapped (first_end bytes) n is in
        let within : (9 ≤ m.0) × (m.0 ≤ length bytes) = later m.0 m.1 in
        (omega (arith, m.2), omega (arith, m.2))

-- what follows a first end changes nothing
pub first_end-append : (bytes later : List ℕ) (n : ℕ) → first_end bytes ≡ Some n → first_end (bytes ++ later) ≡ Some n
first_end-append [] later n e = cc
first_end-append (b ∷ bytes) later n e = go (λ m. first_end-append bytes later m) (begins_with_end (b ∷ bytes)) refl
  where
    long : 9 ≤ length (b ∷ bytes)
    long = let within = first_end-within (b ∷ bytes) n e in omega arith

    same : begins_with_end (b ∷ (bytes ++ later)) ≡ begins_with_end (b ∷ bytes)
    same = begins-append (b ∷ bytes) later long

    go : ((m : ℕ) → first_end bytes ≡ Some m → first_end (bytes ++ later) ≡ Some m) → (t : Bool) → begins_with_end (b ∷ bytes) ≡ t → first_end (b ∷ (bytes ++ later)) ≡ Some n
    go stays true here = cond-true _ _ _ (same ∙ here) ∙ sym (cond-true _ _ _ here) ∙ e
    go stays false not_here =
        let is : option_map (λ m. m + 1) (first_end bytes) ≡ Some n = sym (cond-false _ _ _ not_here) ∙ e in
        let m = mapped (first_end bytes) n is in
        cond-false _ _ _ (same ∙ not_here) ∙ ap (option_map (λ k. k + 1)) (stays m.0 m.1) ∙ ap (λ k. Some k) m.2

-- bytes that were searched to their end hold none
pub first_end-searched : (bytes : List ℕ) → IsSearched bytes (length bytes) → first_end bytes ≡ None
first_end-searched bytes searched = first_end-none bytes (λ k. elim (cases_lt (length bytes) (k + 9)) [
  | inl short ↦ begins-short (drop k bytes) (let l = length-drop k bytes in omega arith)
  | inr long ↦ searched k long
])

-- bytes that were searched up to an end
pub first_end-found : (bytes : List ℕ) (count : ℕ) → 9 ≤ count → IsSearched bytes (count - 1) → begins_with_end (drop (count - 9) bytes) ≡ true → first_end bytes ≡ Some count
first_end-found bytes count nine searched here =
    let sum : (count - 9) + 9 ≡ count = omega arith in
    first_end-at bytes (count - 9) (λ k l. searched k (omega arith)) here ∙ ap (λ n. Some n) sum

-- more bytes behind change nothing of what was searched
pub IsSearched-append : (bytes later : List ℕ) (count : ℕ) → count ≤ length bytes → IsSearched bytes count → IsSearched (bytes ++ later) count
IsSearched-append bytes later count within searched = λ at l.
    let front : at ≤ length bytes = omega arith in
    let long : 9 ≤ length (drop at bytes) = (let e = length-drop at bytes in omega arith) in
    rw (drop-append-le at bytes later front) (begins-append (drop at bytes) later long ∙ searched at l)

-- fewer bytes before change nothing of it either
pub IsSearched-drop : (bytes : List ℕ) (front count : ℕ) → IsSearched bytes count → IsSearched (drop front bytes) (count - front)
IsSearched-drop bytes front count searched = λ at l. rw (drop-drop at front bytes) (searched (front + at) (omega arith))

-- an end closes with a `>`
closes : (bytes : List ℕ) → begins_with_end bytes ≡ true → get_or bytes 8 0 ≡ 62
closes bytes here = sym (get_or-take 9 bytes 8 0 (omega arith)) ∙ ap (λ b. get_or b 8 0) (take-from_begins bytes here)

-- no end closes among bytes that are no `>`
pub IsSearched-passed : (message : List ℕ) (at place : ℕ) → IsSearched message at → HasNoClose message at place → IsSearched message place
IsSearched-passed message at place searched passed = λ j l. elim (cases_lt at (j + 9)) [
  | inr before ↦ searched j before
  | inl behind ↦ false_from_ne_true (begins_with_end (drop j message)) (λ here.
      passed.none (j + 8) (omega arith) (omega arith) (sym (get_or-drop j message 8 0) ∙ closes (drop j message) here))
]

-- bytes end with the tag where it stands nine bytes before their end
pub ends_with-take : (message : List ℕ) (count : ℕ) → 9 ≤ count → count ≤ length message → ends_at message count ≡ begins_with_end (drop (count - 9) message)
ends_with-take message count nine within =
    let long : length (take count message) ≡ count = length-take-le count message within in
    let sum : count ≡ (count - 9) + 9 = omega arith in
    ap (λ n. pointwise nat_eq end_tag (drop (n - 9) (take count message))) long
    ∙ ap (λ n. pointwise nat_eq end_tag (drop (count - 9) (take n message))) sum
    ∙ ap (pointwise nat_eq end_tag) (drop-take (count - 9) 9 message)

-- one byte further, where no end closes with it
pub IsSearched-more : (message : List ℕ) (count : ℕ) → count + 1 ≤ length message → IsSearched message count → ends_at message (count + 1) ≡ false → IsSearched message (count + 1)
IsSearched-more message count within searched other = λ j l. elim (cases_lt count (j + 9)) [
  | inr before ↦ searched j before
  | inl last ↦
      let same : (count + 1) - 9 ≡ j = omega arith in
      ap (λ n. begins_with_end (drop n message)) (sym same) ∙ sym (ends_with-take message (count + 1) (omega arith) within) ∙ other
]

-- the first end, where one closes with the next byte
pub first_end-closed : (message : List ℕ) (count : ℕ) → count + 1 ≤ length message → 9 ≤ count + 1 → IsSearched message count → ends_at message (count + 1) ≡ true → first_end message ≡ Some (count + 1)
first_end-closed message count within nine searched here =
    first_end-found message (count + 1) nine (λ j l. searched j (omega arith)) (sym (ends_with-take message (count + 1) nine within) ∙ here)

unmapped : (o : Option ℕ) → option_map (λ m. m + 1) o ≡ None → o ≡ None
unmapped None e = refl
unmapped (Some m) e = cc

-- where there is no first end, none stands anywhere
pub none_from_first_end : (bytes : List ℕ) → first_end bytes ≡ None → (at : ℕ) → begins_with_end (drop at bytes) ≡ false
none_from_first_end [] none at = begins-short (drop at []) (let l : length (drop {A = ℕ} at []) ≡ 0 - at = length-drop at [] in omega arith)
none_from_first_end (b ∷ bytes) none at = go (λ later. none_from_first_end bytes later) (begins_with_end (b ∷ bytes)) refl at
  where
    go : (first_end bytes ≡ None → (k : ℕ) → begins_with_end (drop k bytes) ≡ false) → (t : Bool) → begins_with_end (b ∷ bytes) ≡ t → (k : ℕ) → begins_with_end (drop k (b ∷ bytes)) ≡ false
    go later true here k = let is : ◌≡◌ {A = Option ℕ} (Some 9) None = sym (cond-true _ _ _ here) ∙ none in cc
    go later false not_here zero = not_here
    go later false not_here (suc k) = later (unmapped (first_end bytes) (sym (cond-false _ _ _ not_here) ∙ none)) k

-- How the reading machine goes on from an index.
use Rattle.std.proofs.Common.{◌≡◌, ℕ, zero, suc, ◌+◌, ◌<◌, ◌≤◌, Bool, true, false, cond, List, [], ◌∷◌, ◌++◌, Some, None, Ok, Err, length, take, drop, get_or, refl, ap, sym, ◌∙◌, append_assoc, append-nil, add-zero, add-one, ◌-◌, drop-cons, arith}
use Rattle.std.proofs.lemmas.List.{drop_all, length-drop, length-take}
use Rattle.hermes_element.specs.Checks.{Fault}
use Rattle.hermes_element.specs.Machine.{Build, run, step, act, moved, is_end, step_tag}
use Rattle.hermes_element.specs.Steps.{run_at, IsSpan}
use Rattle.std.specs.Prelude.{slice_range}
use Rattle.line_base.specs.Name.{is_name_byte}
use Rattle.hermes_element.specs.declared.place.Place.TheVariants as places
use Rattle.hermes_element.specs.declared.place.Place.{Place}

pub yes : {X : Type 0} (b : Bool) (x y : X) → b ≡ true → cond b x y ≡ x
yes true x y h = refl
yes false x y h = absurd (cc)

pub no : {X : Type 0} (b : Bool) (x y : X) → b ≡ false → cond b x y ≡ y
no false x y h = refl
no true x y h = absurd (cc)

pub over : (bytes : List ℕ) (at : ℕ) → at < length bytes → drop at bytes ≡ get_or bytes at 0 ∷ drop (at + 1) bytes
over bytes at h = rw (add-one, drop-cons bytes at 0)

-- a fault stays
pub built_err : (from : Place) (depth : ℕ) (fault : Fault) (place : ℕ) (bytes : List ℕ) → (run from depth (Err fault) place bytes).built ≡ Err fault
built_err from depth fault place [] = refl
built_err from depth fault place (b ∷ bs) = elim (step from depth b) as (λ to. (moved to (record { stop = Some place; built = Err fault }) (λ next count. run next count (Err fault) (place + 1) bs)).built ≡ Err fault)
    [ None ↦ refl | Some to ↦ built_err to.0 to.1 fault (place + 1) bs ]

-- over one byte
pub goes : (from to : Place) (depth next : ℕ) (c d : Build) (at : ℕ) (bytes : List ℕ) → at < length bytes
    → step from depth (get_or bytes at 0) ≡ Some (to, next) → act from at (get_or bytes at 0) c ≡ Ok d → run_at from depth c at bytes ≡ run_at to next d (at + 1) bytes
goes from to depth next c d at bytes h s a = rw (over bytes at h, s, a)

pub stops : (from : Place) (depth : ℕ) (c : Build) (at : ℕ) (bytes : List ℕ) → at < length bytes
    → step from depth (get_or bytes at 0) ≡ None → (run_at from depth c at bytes).stop ≡ Some at
stops from depth c at bytes h s = rw (over bytes at h, s)

pub faults : (from to : Place) (depth next : ℕ) (c : Build) (fault : Fault) (at : ℕ) (bytes : List ℕ) → at < length bytes
    → step from depth (get_or bytes at 0) ≡ Some (to, next) → act from at (get_or bytes at 0) c ≡ Err fault → (run_at from depth c at bytes).built ≡ Err fault
faults from to depth next c fault at bytes h s a = rw (over bytes at h, s, a) (built_err to next fault (at + 1) (drop (at + 1) bytes))

pub ends : (from : Place) (depth : ℕ) (c : Build) (at : ℕ) (bytes : List ℕ) → length bytes ≤ at → is_end from ≡ false → (run_at from depth c at bytes).stop ≡ Some at
ends from depth c at bytes h e = rw (drop_all at bytes h, e)

-- over many bytes, each of which leaves the place and adds to what `grow` gathers
module _ (place : Place) (depth : ℕ) (test : ℕ → Bool) (grow : List ℕ → Build)
    (stays : (b : ℕ) → test b ≡ true → step place depth b ≡ Some (place, depth))
    (adds : (b k : ℕ) (word : List ℕ) → test b ≡ true → act place k b (grow word) ≡ Ok (grow (word ++ b ∷ [])))
    (bytes : List ℕ) where
  pub gathers : (n at : ℕ) (word : List ℕ) → at + n ≤ length bytes → ((k : ℕ) → at ≤ k → k < at + n → test (get_or bytes k 0) ≡ true)
      → run_at place depth (grow word) at bytes ≡ run_at place depth (grow (word ++ take n (drop at bytes))) (at + n) bytes
  gathers zero at word high each = rw (append-nil word, add-zero at)
  gathers (suc n) at word high each =
      let b = get_or bytes at 0 in
      let here : at < length bytes = omega arith in
      let passes : test b ≡ true = each at (omega arith) (omega arith) in
      let first = goes place place depth depth (grow word) (grow (word ++ b ∷ [])) at bytes here (stays b passes) (adds b at word passes) in
      let rest = gathers n (at + 1) (word ++ b ∷ []) (omega arith) (λ k low below. each k (omega arith) (omega arith)) in
      let words : (word ++ b ∷ []) ++ take n (drop (at + 1) bytes) ≡ word ++ take (suc n) (drop at bytes) =
      append_assoc word (b ∷ []) (take n (drop (at + 1) bytes)) ∙ ap (λ l. word ++ take (suc n) l) (sym (over bytes at here)) in
      let places : (at + 1) + n ≡ at + suc n = omega arith in
      first ∙ rest ∙ ap (λ w. run_at place depth (grow w) ((at + 1) + n) bytes) words ∙ ap (λ k. run_at place depth (grow (word ++ take (suc n) (drop at bytes))) k bytes) places

  pub spans : (at to : ℕ) (word : List ℕ) → IsSpan test bytes at to → run_at place depth (grow word) at bytes ≡ run_at place depth (grow (word ++ slice_range bytes at to)) to bytes
  spans at to word span =
      let e : at + (to - at) ≡ to = omega (arith, span.low) in
      gathers (to - at) at word (omega (arith, span.low, span.high)) (λ k low below. span.each k low (omega (arith, span.low)))
      ∙ ap (λ k. run_at place depth (grow (word ++ slice_range bytes at to)) k bytes) e

-- over many bytes that change nothing
pub skips : (place : Place) (depth : ℕ) (test : ℕ → Bool) (c : Build)
    → ((b : ℕ) → test b ≡ true → step place depth b ≡ Some (place, depth))
    → ((b k : ℕ) → test b ≡ true → act place k b c ≡ Ok c)
    → (bytes : List ℕ) (at to : ℕ) → IsSpan test bytes at to → run_at place depth c at bytes ≡ run_at place depth c to bytes
skips place depth test c stays idle bytes at to span = spans place depth test (λ _. c) stays (λ b k _ h. idle b k h) bytes at to [] span

-- ---- the spans of the reader

pub stays_name : (depth b : ℕ) → is_name_byte b ≡ true → step places.Name depth b ≡ Some (places.Name, depth)
stays_name depth b h = yes (is_name_byte b) (Some (places.Name, depth)) (step_tag depth b) h

-- the same over a byte that is known
pub goes_over : (from to : Place) (depth next : ℕ) (c d : Build) (at : ℕ) (bytes : List ℕ) (b : ℕ) → at < length bytes → get_or bytes at 0 ≡ b
    → step from depth b ≡ Some (to, next) → act from at b c ≡ Ok d → run_at from depth c at bytes ≡ run_at to next d (at + 1) bytes
goes_over from to depth next c d at bytes b h e s a = goes from to depth next c d at bytes h (ap (step from depth) e ∙ s) (ap (λ x. act from at x c) e ∙ a)

pub stops_over : (from : Place) (depth : ℕ) (c : Build) (at : ℕ) (bytes : List ℕ) (b : ℕ) → at < length bytes → get_or bytes at 0 ≡ b
    → step from depth b ≡ None → (run_at from depth c at bytes).stop ≡ Some at
stops_over from depth c at bytes b h e s = stops from depth c at bytes h (ap (step from depth) e ∙ s)

pub faults_over : (from to : Place) (depth next : ℕ) (c : Build) (fault : Fault) (at : ℕ) (bytes : List ℕ) (b : ℕ) → at < length bytes → get_or bytes at 0 ≡ b
    → step from depth b ≡ Some (to, next) → act from at b c ≡ Err fault → (run_at from depth c at bytes).built ≡ Err fault
faults_over from to depth next c fault at bytes b h e s a = faults from to depth next c fault at bytes h (ap (step from depth) e ∙ s) (ap (λ x. act from at x c) e ∙ a)

-- a span's first byte apart
pub range_first : (bytes : List ℕ) (at to : ℕ) → at < to → to ≤ length bytes → slice_range bytes at to ≡ get_or bytes at 0 ∷ slice_range bytes (at + 1) to
range_first bytes at to low high =
    let e : to - at ≡ suc (to - (at + 1)) = omega arith in
    let here : at < length bytes = omega arith in
    ap (λ n. take n (drop at bytes)) e ∙ ap (take (suc (to - (at + 1)))) (over bytes at here)

pub range_none : (bytes : List ℕ) (at to : ℕ) → to ≤ at → slice_range bytes at to ≡ []
range_none bytes at to h = let e : to - at ≡ 0 = omega arith in ap (λ n. take n (drop at bytes)) e

pub IsSpan-rest : (test : ℕ → Bool) (bytes : List ℕ) (at to : ℕ) → at < to → IsSpan test bytes at to → IsSpan test bytes (at + 1) to
IsSpan-rest test bytes at to h span = record {
  low = omega arith;
  high = span.high;
  each = λ k low below. span.each k (omega arith) below;
  over = span.over;
}

pub range_one : (bytes : List ℕ) (at : ℕ) → at < length bytes → slice_range bytes at (at + 1) ≡ get_or bytes at 0 ∷ []
range_one bytes at h = range_first bytes at (at + 1) (omega arith) (omega arith) ∙ ap (λ l. get_or bytes at 0 ∷ l) (range_none bytes (at + 1) (at + 1) (omega arith))

range_grows : (n at : ℕ) (bytes : List ℕ) → at + n < length bytes → take n (drop at bytes) ++ get_or bytes (at + n) 0 ∷ [] ≡ take (suc n) (drop at bytes)
range_grows zero at bytes h =
    let e : at + 0 ≡ at = omega arith in
    ap (λ k. get_or bytes k 0 ∷ []) e ∙ sym (ap (take 1) (over bytes at (omega arith)))
range_grows (suc n) at bytes h =
    let here : at < length bytes = omega arith in
    let e : at + suc n ≡ (at + 1) + n = omega arith in
    ap (λ l. take (suc n) l ++ get_or bytes (at + suc n) 0 ∷ []) (over bytes at here)
    ∙ ap (λ k. get_or bytes at 0 ∷ (take n (drop (at + 1) bytes) ++ get_or bytes k 0 ∷ [])) e
    ∙ ap (λ l. get_or bytes at 0 ∷ l) (range_grows n (at + 1) bytes (omega arith))
    ∙ ap (take (suc (suc n))) (sym (over bytes at here))

pub range_more : (bytes : List ℕ) (at to : ℕ) → at ≤ to → to < length bytes → slice_range bytes at to ++ get_or bytes to 0 ∷ [] ≡ slice_range bytes at (to + 1)
range_more bytes at to low high =
    let e : at + (to - at) ≡ to = omega arith in
    let s : suc (to - at) ≡ (to + 1) - at = omega arith in
    ap (λ k. slice_range bytes at to ++ get_or bytes k 0 ∷ []) (sym e) ∙ range_grows (to - at) at bytes (omega arith) ∙ ap (λ n. take n (drop at bytes)) s

pub length_range : (bytes : List ℕ) (at to : ℕ) → at ≤ to → to ≤ length bytes → length (slice_range bytes at to) ≡ to - at
length_range bytes at to low high = simp (length-take, length-drop) (omega arith)

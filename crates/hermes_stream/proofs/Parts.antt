-- Two parts of bytes, one behind the other: blanks, the next `>`, and an end that lies across both.
use Rattle.std.proofs.Common.{◌≡◌, ℕ, zero, suc, ◌+◌, ◌-◌, ◌<◌, ◌≤◌, Bool, true, false, List, [], ◌∷◌, ◌++◌, Option, None, Some, length, take, drop, get_or, eqb, nat_eq, refl, sym, ap, subst, ◌∙◌, arith, inl, inr}
use Rattle.std.specs.Prelude.{◌&&◌}
use Rattle.std.specs.Cmp.Lexicographic.{pointwise}
use Rattle.std.specs.List.{ends_with, starts_with}
use Rattle.std.proofs.lemmas.List.{length-append, length-take, length-take-le, length-drop, take-append-le, drop-append-le, drop-drop, drop_at, drop_all, take_rest, take-append-drop, get_or-drop, get_or_append_left, get_or-append_right}
use Rattle.std.proofs.lemmas.Bool.{cases_lt, eq-eqb, false≢true, false_from_ne_true}
use Rattle.std.proofs.lemmas.Slice.Eq.{bytes_eq-Decides}
use Rattle.hermes_stream.specs.Frames.{end_tag, without_blanks}
use Rattle.hermes_stream.specs.Scan.{HasNoClose, IsPassed, IsNextClose, ends_at}
use Rattle.hermes_stream.proofs.Streams.{without_blanks-append, without_blanks-again}

-- ---- blanks

-- the first part has another byte
pub blanks-found : (one other : List ℕ) (count : ℕ) → count < length one → drop count one ≡ without_blanks one → drop count (one ++ other) ≡ without_blanks (one ++ other)
blanks-found one other count within dropped =
    let size = ap length dropped in
    let l = length-drop count one in
    drop-append-le count one other (omega arith) ∙ ap (λ b. b ++ other) dropped ∙ sym (without_blanks-append one other (omega arith))

-- the first part has none
pub blanks-passed : (one other : List ℕ) (count more : ℕ) → count ≤ length one → length one ≤ count → drop count one ≡ without_blanks one → drop more other ≡ without_blanks other → drop (count + more) (one ++ other) ≡ without_blanks (one ++ other)
blanks-passed one other count more within whole dropped later =
    let size : length one ≡ count = omega arith in
    let none : without_blanks one ≡ [] = sym dropped ∙ drop_all count one whole in
    sym (drop-drop more count (one ++ other))
    ∙ ap (drop more) (drop_at one other count size)
    ∙ later
    ∙ ap (λ b. without_blanks (b ++ other)) (sym none)
    ∙ without_blanks-again one other

-- ---- the next `>`

-- what a search of the bytes from a place on says of them
pub no_close-read : (bytes : List ℕ) (from count : ℕ) → ((k : ℕ) → 0 ≤ k → k < count → eqb (get_or (take (length bytes - from) (drop from bytes)) k 0) 62 ≡ true → ⊥) → HasNoClose bytes from (from + count)
no_close-read bytes from count other = record {
  none = λ k behind within is.
      let at : ℕ = k - from in
      let sum : from + at ≡ k = omega arith in
      let read : get_or (take (length bytes - from) (drop from bytes)) at 0 ≡ 62 =
      ap (λ b. get_or b at 0) (take_rest bytes from) ∙ get_or-drop from bytes at 0 ∙ ap (λ n. get_or bytes n 0) sum ∙ is in
      other at (omega arith) (omega arith) (eq-eqb _ _ read);
}

-- no `>` in two stretches
no_close-join : (bytes : List ℕ) (from between upto : ℕ) → HasNoClose bytes from between → HasNoClose bytes between upto → HasNoClose bytes from upto
no_close-join bytes from between upto one other = record {
  none = λ k behind within. elim (cases_lt k between) [
    | inl before ↦ one.none k behind before
    | inr after ↦ other.none k after within
  ];
}

-- what the first part says of both
no_close-front : (one other : List ℕ) (from upto : ℕ) → upto ≤ length one → HasNoClose one from upto → HasNoClose (one ++ other) from upto
no_close-front one other from upto fits passed = record {
  none = λ k behind within is. passed.none k behind within (sym (get_or_append_left one other 0 k (omega arith)) ∙ is);
}

-- what the second part says of both
no_close-back : (one other : List ℕ) (from upto : ℕ) → HasNoClose other from upto → HasNoClose (one ++ other) (length one + from) (length one + upto)
no_close-back one other from upto passed = record {
  none = λ k behind within is. passed.none (k - length one) (omega arith) (omega arith) (sym (get_or-append_right one other (length one) k 0 refl (omega arith)) ∙ is);
}

pub close-front : (one other : List ℕ) (from place : ℕ) → IsNextClose one from (Some place) → IsNextClose (one ++ other) from (Some place)
close-front one other from place is =
    let l = length-append one other in
    record {
      behind = is.behind;
      within = omega (arith, is.within);
      passed = no_close-front one other from place (omega (arith, is.within)) is.passed;
    }

pub close-back : (one other : List ℕ) (from place : ℕ) → length one ≤ from → IsNextClose other (from - length one) (Some place) → IsNextClose (one ++ other) from (Some (length one + place))
close-back one other from place behind is =
    let l = length-append one other in
    let sum : length one + (from - length one) ≡ from = omega arith in
    record {
      behind = omega (arith, is.behind);
      within = omega (arith, is.within);
      passed = subst (λ n. HasNoClose (one ++ other) n (length one + place)) sum (no_close-back one other (from - length one) place is.passed);
    }

pub close-back_none : (one other : List ℕ) (from : ℕ) → length one ≤ from → IsNextClose other (from - length one) None → IsNextClose (one ++ other) from None
close-back_none one other from behind none =
    let sum : length one + (from - length one) ≡ from = omega arith in
    subst (λ n. HasNoClose (one ++ other) n (length (one ++ other))) sum
    (subst (HasNoClose (one ++ other) (length one + (from - length one))) (sym (length-append one other)) (no_close-back one other (from - length one) (length other) none))

-- the first part was passed
pub close-passed : (one other : List ℕ) (from place : ℕ) → from ≤ length one → IsNextClose one from None → IsNextClose other 0 (Some place) → IsNextClose (one ++ other) from (Some (length one + place))
close-passed one other from place before none is =
    let l = length-append one other in
    let sum : length one + 0 ≡ length one = omega arith in
    record {
      behind = omega arith;
      within = omega (arith, is.within);
      passed = no_close-join (one ++ other) from (length one) (length one + place) (no_close-front one other from (length one) (omega arith) none)
          (subst (λ n. HasNoClose (one ++ other) n (length one + place)) sum (no_close-back one other 0 place is.passed));
    }

pub close-passed_none : (one other : List ℕ) (from : ℕ) → from ≤ length one → IsNextClose one from None → IsNextClose other 0 None → IsNextClose (one ++ other) from None
close-passed_none one other from before none later =
    let sum : length one + 0 ≡ length one = omega arith in
    no_close-join (one ++ other) from (length one) (length (one ++ other)) (no_close-front one other from (length one) (omega arith) none)
    (subst (λ n. HasNoClose (one ++ other) n (length (one ++ other))) sum
    (subst (HasNoClose (one ++ other) (length one + 0)) (sym (length-append one other)) (no_close-back one other 0 (length other) later)))

-- ---- an end that lies across both

and-assoc : (a b c : Bool) → (a && (b && c)) ≡ ((a && b) && c)
and-assoc true b c = refl
and-assoc false b c = refl

pointwise-append : (a b x y : List ℕ) → length a ≡ length x → pointwise nat_eq (a ++ b) (x ++ y) ≡ (pointwise nat_eq a x && pointwise nat_eq b y)
pointwise-append [] b [] y same = refl
pointwise-append [] b (v ∷ x) y same = absurd (omega arith)
pointwise-append (u ∷ a) b [] y same = absurd (omega arith)
pointwise-append (u ∷ a) b (v ∷ x) y same =
    let less : length a ≡ length x = omega arith in
    ap (λ r. nat_eq u v && r) (pointwise-append a b x y less) ∙ and-assoc (nat_eq u v) (pointwise nat_eq a x) (pointwise nat_eq b y)

-- the front of both parts, past the first
take-both : (one other : List ℕ) (behind : ℕ) → take (length one + behind) (one ++ other) ≡ one ++ take behind other
take-both [] other behind = let z : 0 + behind ≡ behind = omega arith in ap (λ n. take n other) z
take-both (b ∷ one) other behind =
    let sum : length (b ∷ one) + behind ≡ suc (length one + behind) = omega arith in
    ap (λ n. take n (b ∷ (one ++ other))) sum ∙ ap (λ bytes. b ∷ bytes) (take-both one other behind)

pub ends_at-front : (one other : List ℕ) (at : ℕ) → at ≤ length one → ends_at one at ≡ ends_at (one ++ other) at
ends_at-front one other at within = ap (λ b. ends_with nat_eq b end_tag) (sym (take-append-le at one other within))

-- the end lies in the second part
pub ends_at-back : (one other : List ℕ) (at : ℕ) → length one ≤ at → 9 ≤ at - length one → at ≤ length (one ++ other) → ends_at other (at - length one) ≡ ends_at (one ++ other) at
ends_at-back one other at passed nine within =
    let behind : ℕ = at - length one in
    let back : List ℕ = take behind other in
    let sum : length one + behind ≡ at = omega arith in
    let l = length-append one other in
    let size : length back ≡ behind = length-take-le behind other (omega arith) in
    let whole : length (one ++ back) - 9 ≡ length one + (length back - 9) = (let m = length-append one back in omega arith) in
    let same : drop (length (one ++ back) - 9) (one ++ back) ≡ drop (length back - 9) back =
    ap (λ n. drop n (one ++ back)) whole
    ∙ sym (drop-drop (length back - 9) (length one) (one ++ back))
    ∙ ap (drop (length back - 9)) (drop_at one back (length one) refl) in
    ap (pointwise nat_eq end_tag) (sym same)
    ∙ ap (λ b. ends_with nat_eq b end_tag) (sym (take-both one other behind))
    ∙ ap (ends_at (one ++ other)) sum

-- the seam of the two parts lies in the end
pub ends_at-across : (one other : List ℕ) (at front : ℕ) → length one < at → at ≤ length (one ++ other) → front + (at - length one) ≡ 9 → front ≤ length one → ends_at (one ++ other) at ≡ (ends_with nat_eq one (take front end_tag) && starts_with nat_eq other (drop front end_tag))
ends_at-across one other at front passed within nine long =
    let behind : ℕ = at - length one in
    let back : List ℕ = take behind other in
    let sum : at ≡ length one + behind = omega arith in
    let l = length-append one other in
    let size : length back ≡ behind = length-take-le behind other (omega arith) in
    let tag : length end_tag ≡ 9 = refl in
    let fronts : length (take front end_tag) ≡ front = length-take-le front end_tag (omega arith) in
    let backs : length (drop front end_tag) ≡ behind = (let d = length-drop front end_tag in omega arith) in
    let count : length (one ++ back) - 9 ≡ length one - front = (let m = length-append one back in omega arith) in
    let last : length (drop (length one - front) one) ≡ front = (let d = length-drop (length one - front) one in omega arith) in
    ap (ends_at (one ++ other)) sum
    ∙ ap (λ b. ends_with nat_eq b end_tag) (take-both one other behind)
    ∙ ap (λ n. pointwise nat_eq end_tag (drop n (one ++ back))) count
    ∙ ap (pointwise nat_eq end_tag) (drop-append-le (length one - front) one back (omega arith))
    ∙ ap (λ t. pointwise nat_eq t (drop (length one - front) one ++ back)) (sym (take-append-drop front end_tag))
    ∙ pointwise-append (take front end_tag) (drop front end_tag) (drop (length one - front) one) back (fronts ∙ sym last)
    ∙ ap (λ n. pointwise nat_eq (take front end_tag) (drop (length one - n) one) && pointwise nat_eq (drop front end_tag) back) (sym fronts)
    ∙ ap (λ n. ends_with nat_eq one (take front end_tag) && pointwise nat_eq (drop front end_tag) (take n other)) (sym backs)

-- no end ends within fewer than nine bytes
pub ends_at-short : (bytes : List ℕ) (at : ℕ) → at < 9 → ends_at bytes at ≡ false
ends_at-short bytes at short = false_from_ne_true (ends_at bytes at) (λ here.
    let back : List ℕ = drop (length (take at bytes) - 9) (take at bytes) in
    let is : length end_tag ≡ length back = ap length ((bytes_eq-Decides end_tag back).0 here) in
    let tag : length end_tag ≡ 9 = refl in
    let l = length-drop (length (take at bytes) - 9) (take at bytes) in
    let m = length-take at bytes in
    omega arith)

-- so there are nine bytes where one ends
pub long_from_ends_at : (bytes : List ℕ) (at : ℕ) → ends_at bytes at ≡ true → 9 ≤ at
long_from_ends_at bytes at here = elim (cases_lt at 9) [
  | inl short ↦ absurd (false≢true (sym (ends_at-short bytes at short) ∙ here))
  | inr long ↦ long
]

-- the first part ends with the front of the tag
pub ends_at-by_back : (one other : List ℕ) (at : ℕ) → length one < at → at - length one < 9 → at ≤ length (one ++ other) → 9 - (at - length one) ≤ length one → ends_with nat_eq one (take (9 - (at - length one)) end_tag) ≡ true → starts_with nat_eq other (take (9 - (9 - (at - length one))) (drop (9 - (at - length one)) end_tag)) ≡ ends_at (one ++ other) at
ends_at-by_back one other at passed few within long here =
    let front : ℕ = 9 - (at - length one) in
    ap (starts_with nat_eq other) (take_rest end_tag front)
    ∙ ap (λ t. t && starts_with nat_eq other (drop front end_tag)) (sym here)
    ∙ sym (ends_at-across one other at front passed within (omega arith) long)

-- it does not
pub ends_at-not_by_front : (one other : List ℕ) (at : ℕ) → length one < at → at - length one < 9 → at ≤ length (one ++ other) → ends_with nat_eq one (take (9 - (at - length one)) end_tag) ≡ false → ends_at (one ++ other) at ≡ false
ends_at-not_by_front one other at passed few within other_front =
    let front : ℕ = 9 - (at - length one) in
    elim (cases_lt (length one) front) [
      | inl short ↦ ends_at-short (one ++ other) at (omega arith)
      | inr long ↦ ends_at-across one other at front passed within (omega arith) long ∙ ap (λ t. t && starts_with nat_eq other (drop front end_tag)) other_front
    ]

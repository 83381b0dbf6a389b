-- How many ids there are, each counted once.
use Rattle.std.proofs.Common.{Less, Equal, Greater, ◌≡◌, refl, sym, ◌∙◌, ap, ℕ, ◌+◌, ◌==◌, Bool, true, false, not, ◌||◌, List, [], ◌∷◌, Option, Some, None, cond, filter, is_some, length, nat_lt, ltb-true, ◌<◌, arith, if◌then◌else◌, eqb-true, eq-eqb}
use Rattle.std.proofs.lemmas.List.{length-map}
use Rattle.std.specs.List.{AllByRecursion}
use Rattle.std.specs.Global.{Vec}
use Rattle.std.specs.Ordering.{is_eq, nat_cmp}
use Rattle.std.specs.List.Sorted.{IsStrictlySortedBy}
use Rattle.std.specs.BTreeMap.{BTreeMap, IsOrdered, btree_map_len, get, is_at}
use Rattle.std.specs.Map.{keys_of, lookup}
use Rattle.standings.specs.declared.mark.Mark.{Mark}
use Rattle.standings.specs.Marks.{has_id}
use Rattle.line_check.specs.Log.{count_once}
use Rattle.line_check.specs.Listed.{HasNoEmpty, listed, listed_at}
use Rattle.line_check.specs.Marks.{is_some_mark}

-- ids without one of them
abbrev pub without_id : ℕ → List ℕ → List ℕ
without_id id ids = filter (λ other. not (other == id)) ids

abbrev one_if : Bool → ℕ
one_if true = 1
one_if false = 0

pub same_bools : (a b : Bool) → (a ≡ true → b ≡ true) → (b ≡ true → a ≡ true) → a ≡ b
same_bools true b there back = sym (there refl)
same_bools false true there back = back refl
same_bools false false there back = refl

pub eqb_swap : (a b : ℕ) → (a == b) ≡ (b == a)
eqb_swap a b = same_bools (a == b) (b == a) (λ same. eq-eqb b a (sym (eqb-true a b same))) (λ same. eq-eqb a b (sym (eqb-true b a same)))

-- an id that is put out is gone, and all others stay
put_out : (id other first : ℕ) (rest : List ℕ) (out : Bool) → (first == id) ≡ out → (other == id) ≡ false → has_id other (without_id id rest) ≡ has_id other rest
    → has_id other (if not out then first ∷ without_id id rest else without_id id rest) ≡ ((first == other) || has_id other rest)
put_out id other first rest false is apart later = ap (λ (b : Bool). (first == other) || b) later
put_out id other first rest true is apart later = later ∙ sym (rw unlike refl) where
  unlike : (first == other) ≡ false
  unlike = pick (first == other) refl where
    pick : (b : Bool) → (first == other) ≡ b → b ≡ false
    pick false same = refl
    pick true same =
        let here : other ≡ id = sym (eqb-true first other same) ∙ eqb-true first id is in
        let h : true ≡ false = sym (eq-eqb other id here) ∙ apart in
        absurd (cc)

pub has_id-without_other : (id other : ℕ) (ids : List ℕ) → (other == id) ≡ false → has_id other (without_id id ids) ≡ has_id other ids
has_id-without_other id other [] apart = refl
has_id-without_other id other (first ∷ rest) apart = put_out id other first rest (first == id) refl apart (has_id-without_other id other rest apart)

pub has_id-without_itself : (id : ℕ) (ids : List ℕ) → has_id id (without_id id ids) ≡ false
has_id-without_itself id [] = refl
has_id-without_itself id (first ∷ rest) = pick (first == id) refl (has_id-without_itself id rest) where
  pick : (out : Bool) → (first == id) ≡ out → has_id id (without_id id rest) ≡ false → has_id id (if not out then first ∷ without_id id rest else without_id id rest) ≡ false
  pick true is later = later
  pick false is later = rw is later

-- one id and the others
count_step : (id first : ℕ) (rest : List ℕ) (is_it among : Bool) → (first == id) ≡ is_it → has_id first rest ≡ among → count_once rest ≡ one_if (has_id id rest) + count_once (without_id id rest)
    → (if among then count_once rest else count_once rest + 1) ≡ one_if (is_it || has_id id rest) + count_once (if not is_it then first ∷ without_id id rest else without_id id rest)
count_step id first rest true among is stood later =
    let here : first ≡ id = eqb-true first id is in
    let has : has_id id rest ≡ among = ap (λ (i : ℕ). has_id i rest) (sym here) ∙ stood in
    pick among has where
      pick : (b : Bool) → has_id id rest ≡ b → (if b then count_once rest else count_once rest + 1) ≡ 1 + count_once (without_id id rest)
      pick true has = later ∙ rw has refl
      pick false has = let e : count_once rest ≡ count_once (without_id id rest) = later ∙ rw has (omega arith) in omega (arith, e)
count_step id first rest false among is stood later =
    let apart : (first == id) ≡ false = is in
    let same : has_id first (without_id id rest) ≡ among = has_id-without_other id first rest is ∙ stood in
    pick among same where
      pick : (b : Bool) → has_id first (without_id id rest) ≡ b → (if b then count_once rest else count_once rest + 1) ≡ one_if (has_id id rest) + (if has_id first (without_id id rest) then count_once (without_id id rest) else count_once (without_id id rest) + 1)
      pick true same = rw same later
      pick false same = rw same (omega (arith, later))

pub count_once-split : (id : ℕ) (ids : List ℕ) → count_once ids ≡ one_if (has_id id ids) + count_once (without_id id ids)
count_once-split id [] = refl
count_once-split id (first ∷ rest) = count_step id first rest (first == id) (has_id first rest) refl refl (count_once-split id rest)

-- whether ids compare equal is whether they are the same
pub is_at-same : (id other : ℕ) → is_at (nat_cmp id) other ≡ (other == id)
is_at-same id other = pick (nat_lt id other) refl (id == other) refl ∙ eqb_swap id other where
  pick : (less : Bool) → nat_lt id other ≡ less → (same : Bool) → (id == other) ≡ same → is_eq (cond less Less (cond same Equal Greater)) ≡ same
  pick true below true at = let a : id < other = ltb-true id other below in let b : id ≡ other = eqb-true id other at in absurd (omega arith)
  pick true below false at = refl
  pick false below true at = refl
  pick false below false at = refl

pub is_at-own : (id : ℕ) → is_at (nat_cmp id) id ≡ true
is_at-own id = is_at-same id id ∙ eq-eqb id id refl

-- an id that is below all is not among them
below_all : (id : ℕ) (ids : List ℕ) → AllByRecursion (λ other. nat_cmp id other ≡ Less) ids → has_id id ids ≡ false
below_all id [] below = refl
below_all id (first ∷ rest) below = rw (sym (is_at-same id first) ∙ ap is_eq below.0) (below_all id rest below.1)

behind_first : (id first : ℕ) (rest ids : List ℕ) → has_id first rest ≡ false → ((other : ℕ) → has_id other ids ≡ has_id other (first ∷ rest))
    → (is_first : Bool) → (first == id) ≡ is_first → has_id id (without_id first ids) ≡ has_id id rest
behind_first id first rest ids absent same true is =
    let here : first ≡ id = eqb-true first id is in
    ap (λ (i : ℕ). has_id i (without_id first ids)) (sym here) ∙ has_id-without_itself first ids ∙ sym absent ∙ ap (λ (i : ℕ). has_id i rest) here
behind_first id first rest ids absent same false is =
    has_id-without_other first id ids (eqb_swap id first ∙ is) ∙ same id ∙ ap (λ (b : Bool). b || has_id id rest) is

-- ids in ascending order are as many as others that are the same ids
pub length-same_ids : (keys ids : List ℕ) → IsStrictlySortedBy nat_cmp keys → ((id : ℕ) → has_id id ids ≡ has_id id keys) → length keys ≡ count_once ids
unfolding IsStrictlySortedBy
length-same_ids [] [] rise same = refl
length-same_ids [] (first ∷ rest) rise same =
    let h : true ≡ false = sym (ap (λ (b : Bool). b || has_id first rest) (eq-eqb first first refl)) ∙ same first in
    absurd (cc)
length-same_ids (first ∷ rest) ids rise same =
    let absent : has_id first rest ≡ false = below_all first rest rise.0 in
    let there : has_id first ids ≡ true = same first ∙ ap (λ (b : Bool). b || has_id first rest) (eq-eqb first first refl) in
    let later : length rest ≡ count_once (without_id first ids) = length-same_ids rest (without_id first ids) rise.1 (λ id. behind_first id first rest ids absent same (first == id) refl) in
    let split : count_once ids ≡ one_if (has_id first ids) + count_once (without_id first ids) = count_once-split first ids in
    let one : one_if (has_id first ids) ≡ 1 = ap one_if there in
    omega (arith, later, split, one)

module _ {X : Type 0} where
  -- the keys of entries are the ids at which something is found
  pub has_id-keys : (id : ℕ) (entries : List (ℕ × X)) → has_id id (keys_of entries) ≡ is_some (lookup (is_at (nat_cmp id)) entries)
  has_id-keys id [] = refl
  has_id-keys id (entry ∷ entries) = found (is_at (nat_cmp id) entry.0) refl (has_id-keys id entries) where
    found : (b : Bool) → is_at (nat_cmp id) entry.0 ≡ b → has_id id (keys_of entries) ≡ is_some (lookup (is_at (nat_cmp id)) entries)
        → ((entry.0 == id) || has_id id (keys_of entries)) ≡ is_some (cond b (Some entry.1) (lookup (is_at (nat_cmp id)) entries))
    found true is later = rw (sym (is_at-same id entry.0) ∙ is) refl
    found false is later = rw (sym (is_at-same id entry.0) ∙ is) later

-- where no list is empty, an id has a mark exactly where it is in the map
listed_some : (found : Option (Vec Mark)) → ((marks : Vec Mark) → found ≡ Some marks → 0 < length marks.items) → is_some_mark (listed found) ≡ is_some found
listed_some None some = refl
listed_some (Some marks) some = some_marks marks.items (some marks refl) where
  some_marks : (items : List Mark) → 0 < length items → is_some_mark items ≡ true
  some_marks [] long = absurd (omega arith)
  some_marks (mark ∷ items) long = refl

-- the ids in the map are as many as those that have a mark
pub length-listed : (m : BTreeMap ℕ (Vec Mark)) → HasNoEmpty m → IsOrdered nat_cmp m → (ids : List ℕ) → ((id : ℕ) → has_id id ids ≡ is_some_mark (listed_at m id)) → btree_map_len m ≡ count_once ids
length-listed m stood ordered ids same =
    sym (length-map m.entries (λ (e : ℕ × Vec Mark). e.0))
    ∙ length-same_ids (keys_of m.entries) ids ordered (λ id. same id ∙ listed_some (get nat_cmp m id) (stood.none_empty id) ∙ sym (has_id-keys id m.entries))

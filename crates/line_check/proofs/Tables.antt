-- Maps of lists of marks of which none is empty.
use Rattle.std.proofs.Common.{◌≡◌, refl, sym, ◌∙◌, subst, ℕ, ◌<◌, Bool, true, false, cond, Option, Some, None, Result, Ok, Err, OnOk, OnErr, length}
use Rattle.std.specs.Global.{Vec}
use Rattle.std.specs.Ordering.{nat_cmp}
use Rattle.std.specs.BTreeMap.{BTreeMap, get, is_at, IsUnchanged, Updates}
use Rattle.standings.specs.declared.mark.Mark.{Mark}
use Rattle.line_check.specs.Listed.{HasNoEmpty}

put_step : (test : Bool) (old : Option (Vec Mark)) (put : Option (Vec Mark)) (marks : Vec Mark) → (old ≡ Some marks → 0 < length marks.items) → (put ≡ Some marks → 0 < length marks.items)
    → cond test put old ≡ Some marks → 0 < length marks.items
put_step true old put marks stood comes is = comes is
put_step false old put marks stood comes is = stood is

-- a list with marks is put at an id, or the id goes
pub put_no_empty : (old new : BTreeMap ℕ (Vec Mark)) (id : ℕ) (put : Option (Vec Mark)) → HasNoEmpty old → ((marks : Vec Mark) → put ≡ Some marks → 0 < length marks.items)
    → Updates nat_cmp old new id put → HasNoEmpty new
put_no_empty old new id put stood comes updates = record {
  none_empty = λ q marks is. put_step (is_at (nat_cmp id) q) (get nat_cmp old q) put marks (stood.none_empty q marks) (comes marks) (sym (updates.0 q) ∙ is);
}

pub unchanged_no_empty : (old new : BTreeMap ℕ (Vec Mark)) → HasNoEmpty old → IsUnchanged old new → HasNoEmpty new
unchanged_no_empty old new stood same = record { none_empty = λ q marks is. stood.none_empty q marks (is_same q ∙ is) } where
  is_same : (q : ℕ) → get nat_cmp old q ≡ get nat_cmp new q
  is_same q = rw same refl

-- a list with marks is put at an id
pub put_some : (old new : BTreeMap ℕ (Vec Mark)) (id : ℕ) (put : Vec Mark) → HasNoEmpty old → 0 < length put.items → Updates nat_cmp old new id (Some put) → HasNoEmpty new
put_some old new id put stood some updates = put_no_empty old new id (Some put) stood (λ marks is. comes marks is) updates where
  comes : (marks : Vec Mark) → Some put ≡ Some marks → 0 < length marks.items
  comes marks is = let e : put ≡ marks = cc in subst (λ (v : Vec Mark). 0 < length v.items) e some

-- a list changes at an id, and then goes
gone_step : (test : Bool) (old mid new : Option (Vec Mark)) (list marks : Vec Mark) → mid ≡ cond test (Some list) old → new ≡ cond test None mid
    → (old ≡ Some marks → 0 < length marks.items) → new ≡ Some marks → 0 < length marks.items
gone_step true old mid new list marks changed gone stood is = cc
gone_step false old mid new list marks changed gone stood is = stood (sym changed ∙ sym gone ∙ is)

pub gone_no_empty : (old mid new : BTreeMap ℕ (Vec Mark)) (id : ℕ) (list : Vec Mark) → HasNoEmpty old → Updates nat_cmp old mid id (Some list) → Updates nat_cmp mid new id None → HasNoEmpty new
gone_no_empty old mid new id list stood changed gone = record {
  none_empty = λ q marks is. gone_step (is_at (nat_cmp id) q) (get nat_cmp old q) (get nat_cmp mid q) (get nat_cmp new q) list marks (changed.0 q) (gone.0 q) (stood.none_empty q marks) is;
}

-- the same unless there is no memory
pub put_or_not : {E : Type 0} (result : Result (Option (Vec Mark)) E) (old new : BTreeMap ℕ (Vec Mark)) (id : ℕ) (put : Vec Mark) → HasNoEmpty old → 0 < length put.items
    → OnOk result (Updates nat_cmp old new id (Some put)) → OnErr result (IsUnchanged old new) → HasNoEmpty new
put_or_not (Ok there) old new id put stood some updates same = put_some old new id put stood some updates
put_or_not (Err none) old new id put stood some updates same = unchanged_no_empty old new stood same

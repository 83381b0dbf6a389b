-- Entries of the ledger: which stand after a deed.
use Rattle.std.proofs.Common.{◌≡◌, refl, sym, ◌∙◌, ap, ℕ, ◌==◌, Bool, true, false, not, ◌&&◌, ◌||◌, List, [], ◌∷◌, ◌++◌, Option, Some, None, option_to_list, if◌then◌else◌, eqb-true, eq-eqb}
use Rattle.std.proofs.lemmas.Bool.{not-true, and_parts}
use mathlib.Core.Bool.{or-false, or_assoc}
use Rattle.standings.specs.declared.mark.Mark.{Mark}
use Rattle.standings.specs.declared.mark.Mark.TheVariants.{Kept, Outlet, Intake}
use Rattle.standings.specs.declared.entry.Entry.{Entry}
use Rattle.standings.specs.declared.deed.Deed.{Deed}
use Rattle.standings.specs.Marks.{is_same_mark}
use Rattle.standings.specs.Deeds.{added, taken}
use Rattle.standings.specs.Ledger.{IsLegal, Ledger, has_entry, is_entry, is_found, is_missing, is_same_entry, ledger_after, without}

pub same_mark_is : (one other : Mark) → is_same_mark one other ≡ true → one ≡ other
same_mark_is (Kept one) (Kept other) same = ap Kept (eqb-true one other same)
same_mark_is (Outlet one) (Outlet other) same = ap Outlet (eqb-true one other same)
same_mark_is (Intake one) (Intake other) same = ap Intake (eqb-true one other same)
same_mark_is (Kept _) (Outlet _) same = absurd (cc)
same_mark_is (Kept _) (Intake _) same = absurd (cc)
same_mark_is (Outlet _) (Kept _) same = absurd (cc)
same_mark_is (Outlet _) (Intake _) same = absurd (cc)
same_mark_is (Intake _) (Kept _) same = absurd (cc)
same_mark_is (Intake _) (Outlet _) same = absurd (cc)

pub mark_is_itself : (mark : Mark) → is_same_mark mark mark ≡ true
mark_is_itself (Kept machine) = eq-eqb machine machine refl
mark_is_itself (Outlet machine) = eq-eqb machine machine refl
mark_is_itself (Intake machine) = eq-eqb machine machine refl

pub same_entry_is : (one other : Entry) → is_same_entry one other ≡ true → one ≡ other
same_entry_is one other same =
    let ids : one.id ≡ other.id = eqb-true one.id other.id (and_parts (one.id == other.id) (is_same_mark one.mark other.mark) same).0 in
    let marks : one.mark ≡ other.mark = same_mark_is one.mark other.mark (and_parts (one.id == other.id) (is_same_mark one.mark other.mark) same).1 in
    ap (λ (i : ℕ). record { id = i; mark = one.mark }) ids ∙ ap (λ (m : Mark). record { id = other.id; mark = m }) marks

pub entry_is_itself : (entry : Entry) → is_same_entry entry entry ≡ true
entry_is_itself entry = rw (eq-eqb entry.id entry.id refl) (mark_is_itself entry.mark)

pub has_entry-append : (entry : Entry) (front back : List Entry) → has_entry entry (front ++ back) ≡ (has_entry entry front || has_entry entry back)
has_entry-append entry [] back = refl
has_entry-append entry (first ∷ front) back =
    ap (λ (b : Bool). is_same_entry first entry || b) (has_entry-append entry front back)
    ∙ sym (or_assoc (is_same_entry first entry) (has_entry entry front) (has_entry entry back))

-- an entry that is put out is gone, and all others stay
kept_out : (entry out first : Entry) (marks : List Entry) (is_out is_it : Bool) → is_same_entry first out ≡ is_out → is_same_entry first entry ≡ is_it
    → has_entry entry (without (Some out) marks) ≡ (has_entry entry marks && not (is_same_entry out entry))
    → has_entry entry (if not is_out then first ∷ without (Some out) marks else without (Some out) marks) ≡ ((is_it || has_entry entry marks) && not (is_same_entry out entry))
kept_out entry out first marks true false outs its later = later
kept_out entry out first marks true true outs its later =
    let out_is : out ≡ entry = sym (same_entry_is first out outs) ∙ same_entry_is first entry its in
    let gone : is_same_entry out entry ≡ true = ap (λ (e : Entry). is_same_entry e entry) out_is ∙ entry_is_itself entry in
    later ∙ gone_anyway (has_entry entry marks) (is_same_entry out entry) gone where
      gone_anyway : (has same : Bool) → same ≡ true → (has && not same) ≡ not same
      gone_anyway true same is = refl
      gone_anyway false same is = rw is refl
kept_out entry out first marks false false outs its later = rw its later
kept_out entry out first marks false true outs its later =
    let stays : is_same_entry out entry ≡ false = differ_out (is_same_entry out entry) refl in
    rw (its, stays) refl where
      differ_out : (b : Bool) → is_same_entry out entry ≡ b → b ≡ false
      differ_out false is = refl
      differ_out true is =
          let first_is : first ≡ out = same_entry_is first entry its ∙ sym (same_entry_is out entry is) in
          let same : is_same_entry first out ≡ true = ap (λ (e : Entry). is_same_entry e out) first_is ∙ entry_is_itself out in
          absurd (let h : true ≡ false = sym same ∙ outs in cc)

pub has_entry-without_one : (entry out : Entry) (marks : List Entry) → has_entry entry (without (Some out) marks) ≡ (has_entry entry marks && not (is_same_entry out entry))
has_entry-without_one entry out [] = refl
has_entry-without_one entry out (first ∷ marks) =
    kept_out entry out first marks (is_same_entry first out) (is_same_entry first entry) refl refl (has_entry-without_one entry out marks)

pub has_entry-without : (entry : Entry) (out : Option Entry) (marks : List Entry) → has_entry entry (without out marks) ≡ (has_entry entry marks && not (is_entry out entry))
has_entry-without entry None marks = and_true (has_entry entry marks) where
  and_true : (b : Bool) → b ≡ (b && true)
  and_true true = refl
  and_true false = refl
has_entry-without entry (Some out) marks = has_entry-without_one entry out marks

has_entry-to_list : (entry : Entry) (one : Option Entry) → has_entry entry (option_to_list one) ≡ is_entry one entry
has_entry-to_list entry None = refl
has_entry-to_list entry (Some one) = or-false (is_same_entry one entry)

-- after a deed stand the entries that stood before, but the one that it takes, and the one that it adds
pub stands_after : (ledger : Ledger) (deed : Deed) (entry : Entry)
    → has_entry entry (ledger_after ledger deed).marks ≡ ((has_entry entry ledger.marks && not (is_entry (taken deed) entry)) || is_entry (added deed) entry)
stands_after ledger deed entry =
    has_entry-append entry (without (taken deed) ledger.marks) (option_to_list (added deed))
    ∙ ap (λ (b : Bool). b || has_entry entry (option_to_list (added deed))) (has_entry-without entry (taken deed) ledger.marks)
    ∙ ap (λ (b : Bool). (has_entry entry ledger.marks && not (is_entry (taken deed) entry)) || b) (has_entry-to_list entry (added deed))

-- a legal deed finds the mark that it takes
pub found_before : (ledger : Ledger) (deed : Deed) (entry : Entry) → IsLegal ledger deed → taken deed ≡ Some entry → has_entry entry ledger.marks ≡ true
found_before ledger deed entry legal takes = ap (λ (o : Option Entry). is_found o ledger.marks) (sym takes) ∙ legal.takes

-- and doesn't find the one that it adds
pub missing_before : (ledger : Ledger) (deed : Deed) (entry : Entry) → IsLegal ledger deed → added deed ≡ Some entry → has_entry entry ledger.marks ≡ false
missing_before ledger deed entry legal adds = not-true (has_entry entry ledger.marks) (ap (λ (o : Option Entry). is_missing o ledger.marks) (sym adds) ∙ legal.adds)

-- the mark that it takes is gone
pub gone_after : (ledger : Ledger) (deed : Deed) (entry : Entry) → IsLegal ledger deed → taken deed ≡ Some entry → has_entry entry (ledger_after ledger deed).marks ≡ false
gone_after ledger deed entry legal takes =
    stands_after ledger deed entry ∙ rw (takes, entry_is_itself entry) (not_added (has_entry entry ledger.marks) (added deed) refl) where
      is_not : (o : Option Entry) → added deed ≡ o → (b : Bool) → is_entry o entry ≡ b → b ≡ false
      is_not None adds b is = sym is
      is_not (Some one) adds false is = refl
      is_not (Some one) adds true is =
          let itself : one ≡ entry = same_entry_is one entry is in
          let missing : has_entry entry ledger.marks ≡ false = missing_before ledger deed entry legal (adds ∙ ap Some itself) in
          let h : true ≡ false = sym (found_before ledger deed entry legal takes) ∙ missing in absurd (cc)

      not_added : (b : Bool) (o : Option Entry) → added deed ≡ o → ((b && false) || is_entry (added deed) entry) ≡ false
      not_added true o adds = rw adds (is_not o adds (is_entry o entry) refl)
      not_added false o adds = rw adds (is_not o adds (is_entry o entry) refl)

-- the mark that it adds is there
pub there_after : (ledger : Ledger) (deed : Deed) (entry : Entry) → added deed ≡ Some entry → has_entry entry (ledger_after ledger deed).marks ≡ true
there_after ledger deed entry adds = stands_after ledger deed entry ∙ rw (adds, entry_is_itself entry) (or_true (has_entry entry ledger.marks && not (is_entry (taken deed) entry))) where
  or_true : (b : Bool) → (b || true) ≡ true
  or_true true = refl
  or_true false = refl

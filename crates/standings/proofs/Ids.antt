-- The ids that deeds name and make.
use Rattle.std.proofs.Common.{◌≡◌, refl, sym, ◌∙◌, ap, subst, ℕ, ◌==◌, Bool, true, false, not, ◌&&◌, ◌||◌, List, [], ◌∷◌, ◌++◌, Option, Some, None, option_to_list, if◌then◌else◌, append-nil, eqb-true, eq-eqb}
use Rattle.std.proofs.lemmas.Option.{same_Some, none-some}
use Rattle.std.proofs.lemmas.Bool.{or_parts, and_from, and_left, and_parts, not-true}
use mathlib.Core.Bool.{or-true, or-false, or_assoc}
use Rattle.standings.specs.declared.mark.Mark.{Mark}
use Rattle.standings.specs.declared.entry.Entry.{Entry}
use Rattle.standings.specs.declared.deed.Deed.{Deed}
use Rattle.standings.specs.declared.deed.Deed.TheVariants.{Inserts, Comes, Removes, Replaces, Starts, Opens, Returns, Leaves, Loses, Settles, Drops}
use Rattle.standings.specs.Marks.{has_id}
use Rattle.standings.specs.Deeds.{added, made, taken}
use Rattle.standings.specs.Ledger.{AreLegal, IsLegal, Ledger, are_different, are_new, empty_ledger, has_entry, ids_named, is_entry, is_found, is_legal, is_missing, is_same_entry, is_unseen, ledger_after, ledger_after_all, made_by_all, mark_of_id, marks_in, stand_once, without}
use Rattle.standings.proofs.Entries.{entry_is_itself, has_entry-append, has_entry-without, has_entry-without_one, missing_before, same_entry_is, stands_after}

pub has_id-append : (id : ℕ) (front back : List ℕ) → has_id id (front ++ back) ≡ (has_id id front || has_id id back)
has_id-append id [] back = refl
has_id-append id (first ∷ front) back = ap (λ (b : Bool). (first == id) || b) (has_id-append id front back) ∙ sym (or_assoc (first == id) (has_id id front) (has_id id back))

-- an entry is of another id, where there is one
abbrev IsOther : ℕ → Option Entry → Type 0
IsOther id None = Unit {0}
IsOther id (Some entry) = (entry.id == id) ≡ false

one_other : (id other : ℕ) → has_id id (other ∷ []) ≡ false → (other == id) ≡ false
one_other id other unnamed = (or_parts (other == id) false unnamed).0

-- a deed takes and adds marks of the ids that it names
takes_named : (deed : Deed) (id : ℕ) → has_id id (ids_named deed) ≡ false → IsOther id (taken deed)
takes_named (Inserts machine other) id unnamed = tt
takes_named (Comes machine other) id unnamed = tt
takes_named (Removes machine other) id unnamed = one_other id other unnamed
takes_named (Replaces machine old new) id unnamed = (or_parts (old == id) (has_id id (new ∷ [])) unnamed).0
takes_named (Starts gap other) id unnamed = tt
takes_named (Opens gap other) id unnamed = one_other id other unnamed
takes_named (Returns gap other) id unnamed = one_other id other unnamed
takes_named (Leaves gap other) id unnamed = one_other id other unnamed
takes_named (Loses gap other) id unnamed = one_other id other unnamed
takes_named (Settles gap other) id unnamed = one_other id other unnamed
takes_named (Drops gap other) id unnamed = one_other id other unnamed

adds_named : (deed : Deed) (id : ℕ) → has_id id (ids_named deed) ≡ false → IsOther id (added deed)
adds_named (Inserts machine other) id unnamed = one_other id other unnamed
adds_named (Comes machine other) id unnamed = one_other id other unnamed
adds_named (Removes machine other) id unnamed = tt
adds_named (Replaces machine old new) id unnamed = one_other id new (or_parts (old == id) (has_id id (new ∷ [])) unnamed).1
adds_named (Starts gap other) id unnamed = one_other id other unnamed
adds_named (Opens gap other) id unnamed = one_other id other unnamed
adds_named (Returns gap other) id unnamed = one_other id other unnamed
adds_named (Leaves gap other) id unnamed = tt
adds_named (Loses gap other) id unnamed = tt
adds_named (Settles gap other) id unnamed = one_other id other unnamed
adds_named (Drops gap other) id unnamed = tt

mark_of_id-append : (is : Bool) (mark : Mark) (front back : List Mark) → mark_of_id is mark (front ++ back) ≡ mark_of_id is mark front ++ back
mark_of_id-append true mark front back = refl
mark_of_id-append false mark front back = refl

pub marks_in-append : (id : ℕ) (front back : List Entry) → marks_in id (front ++ back) ≡ marks_in id front ++ marks_in id back
marks_in-append id [] back = refl
marks_in-append id (first ∷ front) back =
    ap (λ (l : List Mark). mark_of_id (first.id == id) first.mark l) (marks_in-append id front back)
    ∙ mark_of_id-append (first.id == id) first.mark (marks_in id front) (marks_in id back)

other_apart : (first out : Entry) (id : ℕ) → is_same_entry first out ≡ true → (out.id == id) ≡ false → (first.id == id) ≡ false
other_apart first out id same apart = ap (λ (e : Entry). e.id == id) (same_entry_is first out same) ∙ apart

-- putting out an entry of another id leaves the marks of an id
out_step : (id : ℕ) (out first : Entry) (marks : List Entry) (is_out : Bool) → is_same_entry first out ≡ is_out → (out.id == id) ≡ false
    → marks_in id (without (Some out) marks) ≡ marks_in id marks
    → marks_in id (if not is_out then first ∷ without (Some out) marks else without (Some out) marks) ≡ mark_of_id (first.id == id) first.mark (marks_in id marks)
out_step id out first marks true same apart later = rw (other_apart first out id same apart) later
out_step id out first marks false same apart later = ap (λ (l : List Mark). mark_of_id (first.id == id) first.mark l) later

pub marks_in-without_one : (id : ℕ) (out : Entry) (marks : List Entry) → (out.id == id) ≡ false → marks_in id (without (Some out) marks) ≡ marks_in id marks
marks_in-without_one id out [] apart = refl
marks_in-without_one id out (first ∷ marks) apart = out_step id out first marks (is_same_entry first out) refl apart (marks_in-without_one id out marks apart)

marks_in-without : (id : ℕ) (out : Option Entry) (marks : List Entry) → IsOther id out → marks_in id (without out marks) ≡ marks_in id marks
marks_in-without id None marks other = refl
marks_in-without id (Some out) marks other = marks_in-without_one id out marks other

marks_in-to_list : (id : ℕ) (one : Option Entry) → IsOther id one → marks_in id (option_to_list one) ≡ []
marks_in-to_list id None other = refl
marks_in-to_list id (Some one) other = rw other refl

-- a deed leaves the marks of an id that it doesn't name
pub others_stay : (ledger : Ledger) (deed : Deed) (id : ℕ) → has_id id (ids_named deed) ≡ false → marks_in id (ledger_after ledger deed).marks ≡ marks_in id ledger.marks
others_stay ledger deed id unnamed =
    marks_in-append id (without (taken deed) ledger.marks) (option_to_list (added deed))
    ∙ ap (λ (l : List Mark). marks_in id (without (taken deed) ledger.marks) ++ l) (marks_in-to_list id (added deed) (adds_named deed id unnamed))
    ∙ append-nil (marks_in id (without (taken deed) ledger.marks))
    ∙ marks_in-without id (taken deed) ledger.marks (takes_named deed id unnamed)

-- the id of an entry that a deed adds is named by it
added_named : (deed : Deed) (entry : Entry) (one : Option Entry) → added deed ≡ one → is_entry one entry ≡ true → (named : Bool) → has_id entry.id (ids_named deed) ≡ named → named ≡ true
added_named deed entry one adds is true unnamed = refl
added_named deed entry None adds is false unnamed = is
added_named deed entry (Some one) adds is false unnamed =
    let itself : one ≡ entry = same_entry_is one entry is in
    let P : Option Entry → Type 0 = λ (o : Option Entry). IsOther entry.id o in
    let apart : (one.id == entry.id) ≡ false = subst P adds (adds_named deed entry.id unnamed) in
    let same : (one.id == entry.id) ≡ true = eq-eqb one.id entry.id (ap (λ (e : Entry). e.id) itself) in
    sym apart ∙ same

-- each mark is of an id that was seen
abbrev AreSeen : Ledger → Type 0
AreSeen ledger = (entry : Entry) → has_entry entry ledger.marks ≡ true → has_id entry.id ledger.seen ≡ true

seen_step : (ledger : Ledger) (deed : Deed) (entry : Entry) (stands adds : Bool) → has_entry entry ledger.marks ≡ stands → is_entry (added deed) entry ≡ adds
    → ((stands && not (is_entry (taken deed) entry)) || adds) ≡ true → (stands ≡ true → has_id entry.id ledger.seen ≡ true) → has_id entry.id (ledger.seen ++ ids_named deed) ≡ true
seen_step ledger deed entry true adds stood is after was = has_id-append entry.id ledger.seen (ids_named deed) ∙ rw (was refl) refl
seen_step ledger deed entry false true stood is after was =
    has_id-append entry.id ledger.seen (ids_named deed)
    ∙ ap (λ (b : Bool). has_id entry.id ledger.seen || b) (added_named deed entry (added deed) refl is (has_id entry.id (ids_named deed)) refl)
    ∙ or-true (has_id entry.id ledger.seen)
seen_step ledger deed entry false false stood is after was = absurd (let h : false ≡ true = after in cc)

seen_after : (ledger : Ledger) (deed : Deed) → AreSeen ledger → AreSeen (ledger_after ledger deed)
seen_after ledger deed were entry after =
    seen_step ledger deed entry (has_entry entry ledger.marks) (is_entry (added deed) entry) refl refl (sym (stands_after ledger deed entry) ∙ after) (were entry)

seen_after_all : (ledger : Ledger) (deeds : List Deed) → AreSeen ledger → AreSeen (ledger_after_all ledger deeds)
seen_after_all ledger [] were = were
seen_after_all ledger (deed ∷ deeds) were = seen_after_all (ledger_after ledger deed) deeds (seen_after ledger deed were)

-- each mark of a ledger is of an id that its deeds named
pub marks_are_seen : (deeds : List Deed) (entry : Entry) → has_entry entry (ledger_after_all empty_ledger deeds).marks ≡ true → has_id entry.id (ledger_after_all empty_ledger deeds).seen ≡ true
marks_are_seen deeds = seen_after_all empty_ledger deeds (λ entry stands. absurd (let h : false ≡ true = stands in cc))

-- the id that a deed makes is named by it
made_named : (deed : Deed) (id : ℕ) → made deed ≡ Some id → has_id id (ids_named deed) ≡ true
made_named (Inserts machine other) id is = rw (eq-eqb other id (same_Some other id is)) refl
made_named (Comes machine other) id is = absurd (none-some id is)
made_named (Removes machine other) id is = absurd (none-some id is)
made_named (Replaces machine old new) id is = ap (λ (b : Bool). (old == id) || (b || false)) (eq-eqb new id (same_Some new id is)) ∙ or-true (old == id)
made_named (Starts gap other) id is = absurd (none-some id is)
made_named (Opens gap other) id is = absurd (none-some id is)
made_named (Returns gap other) id is = absurd (none-some id is)
made_named (Leaves gap other) id is = absurd (none-some id is)
made_named (Loses gap other) id is = absurd (none-some id is)
made_named (Settles gap other) id is = absurd (none-some id is)
made_named (Drops gap other) id is = absurd (none-some id is)

not_either : (a b : Bool) → not (a || b) ≡ true → not a ≡ true
not_either false b h = refl
not_either true b h = h

-- what is new to more ids is new to some of them
are_new-front : (seen more ids : List ℕ) → are_new (seen ++ more) ids ≡ true → are_new seen ids ≡ true
are_new-front seen more [] new = refl
are_new-front seen more (id ∷ ids) new =
    let unseen : not (has_id id seen || has_id id more) ≡ true =
    ap not (sym (has_id-append id seen more)) ∙ (and_parts (not (has_id id (seen ++ more))) (are_new (seen ++ more) ids) new).0 in
    and_from (not (has_id id seen)) (are_new seen ids) (not_either (has_id id seen) (has_id id more) unseen) (are_new-front seen more ids (and_parts (not (has_id id (seen ++ more))) (are_new (seen ++ more) ids) new).1)

-- an id that was seen is none of the new ones
new_apart : (seen ids : List ℕ) (id : ℕ) → are_new seen ids ≡ true → has_id id seen ≡ true → has_id id ids ≡ false
new_apart seen [] id new is_seen = refl
new_apart seen (first ∷ ids) id new is_seen =
    neither (first == id) (has_id id ids) (unlike (first == id) refl) (new_apart seen ids id (and_parts (not (has_id first seen)) (are_new seen ids) new).1 is_seen) where
      neither : (a b : Bool) → a ≡ false → b ≡ false → (a || b) ≡ false
      neither false b one other = other
      neither true b one other = one

      unlike : (same : Bool) → (first == id) ≡ same → same ≡ false
      unlike false is = refl
      unlike true is =
          let itself : first ≡ id = eqb-true first id is in
          let unseen : has_id first seen ≡ false = not-true (has_id first seen) (and_parts (not (has_id first seen)) (are_new seen ids) new).0 in
          let h : true ≡ false = sym is_seen ∙ ap (λ (i : ℕ). has_id i seen) (sym itself) ∙ unseen in
          absurd (cc)

-- ids that deeds make are new, and differ
record MakesNew (seen ids : List ℕ) : Type 0 where
  new : are_new seen ids ≡ true
  different : are_different ids ≡ true

makes_step : (seen named later : List ℕ) (one : Option ℕ) → is_unseen one seen ≡ true → ((id : ℕ) → one ≡ Some id → has_id id named ≡ true)
    → MakesNew (seen ++ named) later → MakesNew seen (option_to_list one ++ later)
makes_step seen named later None unseen names makes = record { new = are_new-front seen named later makes.new; different = makes.different }
makes_step seen named later (Some id) unseen names makes =
    let there : has_id id (seen ++ named) ≡ true = has_id-append id seen named ∙ ap (λ (b : Bool). has_id id seen || b) (names id refl) ∙ or-true (has_id id seen) in
    record {
      new = and_from (not (has_id id seen)) (are_new seen later) unseen (are_new-front seen named later makes.new);
      different = and_from (not (has_id id later)) (are_different later) (ap not (new_apart (seen ++ named) later id makes.new there)) makes.different;
    }

makes_new : (ledger : Ledger) (deeds : List Deed) → AreLegal ledger deeds → MakesNew ledger.seen (made_by_all deeds)
makes_new ledger [] legal = record { new = refl; different = refl }
makes_new ledger (deed ∷ deeds) legal = makes_step ledger.seen (ids_named deed) (made_by_all deeds) (made deed) legal.0.makes (made_named deed) (makes_new (ledger_after ledger deed) deeds legal.1)

pub made_unseen : (ledger : Ledger) (deeds : List Deed) → AreLegal ledger deeds → are_new ledger.seen (made_by_all deeds) ≡ true
made_unseen ledger deeds legal = (makes_new ledger deeds legal).new

pub made_once : (ledger : Ledger) (deeds : List Deed) → AreLegal ledger deeds → are_different (made_by_all deeds) ≡ true
made_once ledger deeds legal = (makes_new ledger deeds legal).different

-- putting an entry out lets the others stand once
once_step : (out first : Entry) (marks : List Entry) (is_out : Bool) → is_same_entry first out ≡ is_out → (not (has_entry first marks) && stand_once marks) ≡ true
    → stand_once (without (Some out) marks) ≡ true → stand_once (if not is_out then first ∷ without (Some out) marks else without (Some out) marks) ≡ true
once_step out first marks true same once later = later
once_step out first marks false same once later =
    let absent : has_entry first marks ≡ false = not-true (has_entry first marks) (and_parts (not (has_entry first marks)) (stand_once marks) once).0 in
    let still : has_entry first (without (Some out) marks) ≡ false = has_entry-without_one first out marks ∙ and_left (has_entry first marks) (not (is_same_entry out first)) absent in
    and_from (not (has_entry first (without (Some out) marks))) (stand_once (without (Some out) marks)) (ap not still) later

once_without_one : (out : Entry) (marks : List Entry) → stand_once marks ≡ true → stand_once (without (Some out) marks) ≡ true
once_without_one out [] once = refl
once_without_one out (first ∷ marks) once =
    once_step out first marks (is_same_entry first out) refl once (once_without_one out marks (and_parts (not (has_entry first marks)) (stand_once marks) once).1)

once_without : (out : Option Entry) (marks : List Entry) → stand_once marks ≡ true → stand_once (without out marks) ≡ true
once_without None marks once = once
once_without (Some out) marks once = once_without_one out marks once

differ_back : (one other : Entry) → is_same_entry one other ≡ false → (same : Bool) → is_same_entry other one ≡ same → same ≡ false
differ_back one other apart false is = refl
differ_back one other apart true is =
    let itself : other ≡ one = same_entry_is other one is in
    let h : true ≡ false = sym (entry_is_itself one) ∙ ap (λ (e : Entry). is_same_entry one e) (sym itself) ∙ apart in
    absurd (cc)

-- one that is missing may be added
once_append : (entry : Entry) (marks : List Entry) → stand_once marks ≡ true → has_entry entry marks ≡ false → stand_once (marks ++ entry ∷ []) ≡ true
once_append entry [] once missing = refl
once_append entry (first ∷ marks) once missing =
    let absent : has_entry first marks ≡ false = not-true (has_entry first marks) (and_parts (not (has_entry first marks)) (stand_once marks) once).0 in
    let unlike : is_same_entry entry first ≡ false = differ_back first entry (or_parts (is_same_entry first entry) (has_entry entry marks) missing).0 (is_same_entry entry first) refl in
    let still : has_entry first (marks ++ entry ∷ []) ≡ false =
    has_entry-append first marks (entry ∷ [])
    ∙ ap (λ (b : Bool). b || (is_same_entry entry first || false)) absent
    ∙ or-false (is_same_entry entry first)
    ∙ unlike in
    and_from (not (has_entry first (marks ++ entry ∷ []))) (stand_once (marks ++ entry ∷ [])) (ap not still)
    (once_append entry marks (and_parts (not (has_entry first marks)) (stand_once marks) once).1 (or_parts (is_same_entry first entry) (has_entry entry marks) missing).1)

once_added : (ledger : Ledger) (deed : Deed) (one : Option Entry) → added deed ≡ one → IsLegal ledger deed → stand_once ledger.marks ≡ true
    → stand_once (without (taken deed) ledger.marks ++ option_to_list one) ≡ true
once_added ledger deed None adds legal once = ap stand_once (append-nil (without (taken deed) ledger.marks)) ∙ once_without (taken deed) ledger.marks once
once_added ledger deed (Some entry) adds legal once =
    once_append entry (without (taken deed) ledger.marks) (once_without (taken deed) ledger.marks once)
    (has_entry-without entry (taken deed) ledger.marks ∙ and_left (has_entry entry ledger.marks) (not (is_entry (taken deed) entry)) (missing_before ledger deed entry legal adds))

once_after_all : (ledger : Ledger) (deeds : List Deed) → AreLegal ledger deeds → stand_once ledger.marks ≡ true → stand_once (ledger_after_all ledger deeds).marks ≡ true
once_after_all ledger [] legal once = once
once_after_all ledger (deed ∷ deeds) legal once = once_after_all (ledger_after ledger deed) deeds legal.1 (once_added ledger deed (added deed) refl legal.0 once)

-- no mark stands twice after legal deeds
pub marks_stand_once : (deeds : List Deed) → AreLegal empty_ledger deeds → stand_once (ledger_after_all empty_ledger deeds).marks ≡ true
marks_stand_once deeds legal = once_after_all empty_ledger deeds legal refl

pub legal_tested : (ledger : Ledger) (deed : Deed) → IsLegal ledger deed → is_legal ledger deed ≡ true
legal_tested ledger deed legal = rw (legal.takes, legal.adds, legal.makes) refl

pub tested_legal : (ledger : Ledger) (deed : Deed) → is_legal ledger deed ≡ true → IsLegal ledger deed
tested_legal ledger deed is =
    let takes = is_found (taken deed) ledger.marks in
    let adds = is_missing (added deed) ledger.marks in
    let makes = is_unseen (made deed) ledger.seen in
    let behind : (adds && makes) ≡ true = (and_parts takes (adds && makes) is).1 in
    record { takes = (and_parts takes (adds && makes) is).0; adds = (and_parts adds makes behind).0; makes = (and_parts adds makes behind).1 }

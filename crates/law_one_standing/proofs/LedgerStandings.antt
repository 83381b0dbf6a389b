-- The standings follow from the deeds alone: the marks of an id in the ledger give it the standing that the machines' marks
-- give it.
use Rattle.std.proofs.Common.{Bool, List, [], false, refl, subst, sym, true, ℕ, ◌&&◌, ◌==◌, ◌||◌, ◌∙◌, ◌∷◌, ◌≡◌}
use Rattle.std.specs.List.{list_all, list_any}
use Rattle.std.proofs.lemmas.Bool.{or_right, and_parts}
use Rattle.standings.proofs.Entries.{mark_is_itself}
use Rattle.standings.specs.Ledger.{Ledger, has_entry, mark_of_id}
use Rattle.standings.specs.Ledger as ledgers
use Rattle.standings.specs.Marks.{has_mark, is_same_mark}
use Rattle.standings.specs.Standing.{HasStanding, Place, is_among, is_handed_at, is_kept_by}
use Rattle.standings.specs.declared.entry.Entry.{Entry}
use Rattle.standings.specs.declared.mark.Mark.{Mark}
use Rattle.standings.specs.declared.standing.Standing.TheVariants as standings
use Rattle.line_step.specs.State.{LineState, marks_in}
use Rattle.law_one_standing.specs.Replay.{IsLedgerOf, IsStandingTold}
use Rattle.law_one_standing.proofs.MarksOf.{Among, Passes, all_pass, among_first, among_later, any_passes, first_among, has_among, passing}

-- ---- marks that are the same, in whatever order

abbrev AreSame : List Mark → List Mark → Type 0
AreSame some other = (mark : Mark) → has_mark mark some ≡ has_mark mark other

among_has : {mark : Mark} {some : List Mark} → Among mark some → has_mark mark some ≡ true
among_has {mark = mark} among_first = rw (mark_is_itself mark) refl
among_has {mark = mark} (among_later {other = other} {some = some} there) = or_right (is_same_mark other mark) (has_mark mark some) (among_has there)

among_same : {mark : Mark} {some other : List Mark} → AreSame some other → Among mark some → Among mark other
among_same {mark = mark} {other = other} same there = has_among mark other (sym (same mark) ∙ among_has there)

pub all_at : {mark : Mark} {some : List Mark} (test : Mark → Bool) → list_all test some ≡ true → Among mark some → test mark ≡ true
all_at test all (among_first {mark = mark} {some = some}) = (and_parts (test mark) (list_all test some) all).0
all_at test all (among_later {other = other} {some = some} there) = all_at test (and_parts (test other) (list_all test some) all).1 there

all_same : (test : Mark → Bool) (some other : List Mark) → AreSame some other → list_all test some ≡ true → list_all test other ≡ true
all_same test some other same all = all_pass test other (λ mark there. all_at test all (among_same (λ m. sym (same m)) there))

any_same : (test : Mark → Bool) (some other : List Mark) → AreSame some other → list_any test some ≡ true → list_any test other ≡ true
any_same test some other same any = let p : Passes test some = passing test some any in any_passes test (among_same same p.there) p.passes

pub none_among : {mark : Mark} {some : List Mark} → some ≡ [] → Among mark some → ⊥
none_among {mark = mark} e there = let none : Among mark [] = subst (λ some. Among mark some) e there in elim none [ ]

same_standing : (some other : List Mark) (standing : Place) → AreSame some other → HasStanding some standing → HasStanding other standing
same_standing some other (standings.With machine) same h = record {
  some = λ empty. let first = first_among some h.some in none_among empty (among_same same first.1);
  alone = all_same (is_kept_by machine) some other same h.alone;
}
same_standing some other (standings.Between gap) same h = record {
  handed = any_same (is_handed_at gap) some other same h.handed;
  among = all_same (is_among gap) some other same h.among;
}

-- ---- the ledger's

entry_by : (test : Bool) (own : Bool) (mark : Mark) (first : Mark) (later : List Mark) (has : Bool) → has_mark mark later ≡ has → is_same_mark first mark ≡ own → has_mark mark (mark_of_id test first later) ≡ ((test && own) || has)
entry_by true own mark first later has is same = rw (same, is) refl
entry_by false own mark first later has is same = is

entry_has : (id : ℕ) (mark : Mark) (entries : List Entry) → has_mark mark (ledgers.marks_in id entries) ≡ has_entry (record { id = id; mark = mark }) entries
entry_has id mark [] = refl
entry_has id mark (entry ∷ entries) =
    entry_by (entry.id == id) (is_same_mark entry.mark mark) mark entry.mark (ledgers.marks_in id entries) (has_entry (record { id = id; mark = mark }) entries) (entry_has id mark entries) refl

-- the standing of an id follows from the ledger
pub standing_told : (ledger : Ledger) (s : LineState) → IsLedgerOf ledger s → IsStandingTold ledger s
standing_told ledger s is = record {
  told = λ id standing. same_standing (ledgers.marks_in id ledger.marks) (marks_in s id) standing (λ mark. entry_has id mark ledger.marks ∙ is (record { id = id; mark = mark }));
  whole = λ id standing. same_standing (marks_in s id) (ledgers.marks_in id ledger.marks) standing (λ mark. sym (entry_has id mark ledger.marks ∙ is (record { id = id; mark = mark })));
}

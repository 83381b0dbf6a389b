-- A log that nothing is against.
use Rattle.std.proofs.Common.{◌≡◌, refl, sym, ◌∙◌, ap, subst, ℕ, ◌+◌, ◌==◌, Bool, true, false, not, ◌&&◌, ◌||◌, List, [], ◌∷◌, ◌++◌, Option, Some, None, IfSome, append-nil, is_some, length, eqb-true}
use Rattle.std.specs.List.{list_all}
use Rattle.std.proofs.lemmas.Bool.{and_parts}
use Rattle.standings.specs.declared.mark.Mark.{Mark}
use Rattle.standings.specs.declared.entry.Entry.{Entry}
use Rattle.standings.specs.declared.deed.Deed.{Deed}
use Rattle.standings.specs.Marks.{has_id}
use Rattle.standings.specs.Standing.{HasStanding, Place, standing_of}
use Rattle.standings.specs.Ledger.{AreLegal, Ledger, is_legal, ledger_after_all, marks_in}
use Rattle.standings.proofs.Standings.{found, one_standing}
use Rattle.standings.proofs.Ids.{tested_legal}
use Rattle.line_check.specs.declared.reading.Reading.{Reading}
use Rattle.line_check.specs.declared.reading.Reading.TheVariants.{Nothing, Bad, Does}
use Rattle.line_check.specs.declared.why.CheckWhy.{CheckWhy}
use Rattle.line_check.specs.declared.why.CheckWhy.TheVariants.{Standing}
use Rattle.line_check.specs.LogLine.{said_by}
use Rattle.line_check.specs.Log.{Against, HasOneStanding, IsRight, against, against_from, all_stand, deeds_in, deeds_of, ends_group, holds, ids_in, is_illegal, ledger_of, or_later, reason_at, stands}
use Rattle.line_check.specs.Checking.{own_reason_at}
use Rattle.line_check.proofs.Reasons.{ledger_of-push, no_reason, or_standing, reason_at-own, regroup}

-- nothing is against a line, and nothing against those behind it
none_here : (number : ℕ) (why : Option CheckWhy) (later : Option Against) → or_later number why later ≡ None → why ≡ None
none_here number None later none = refl
none_here number (Some why) later none = cc

none_later : (number : ℕ) (why : Option CheckWhy) (later : Option Against) → or_later number why later ≡ None → later ≡ None
none_later number None later none = none
none_later number (Some why) later none = cc

own_none : (own : Option CheckWhy) (lacks : Bool) → or_standing own lacks ≡ None → own ≡ None
own_none None lacks none = refl
own_none (Some why) lacks none = cc

standing_none : (own : Option CheckWhy) (lacks : Bool) → or_standing own lacks ≡ None → lacks ≡ false
standing_none None true none = cc
standing_none None false none = refl
standing_none (Some why) lacks none = cc

-- THE DEEDS are legal

legal_in : (ledger : Ledger) (said : Reading) (deeds : List Deed) → is_illegal ledger said ≡ false → AreLegal (ledger_after_all ledger (deeds_in said)) deeds → AreLegal ledger (deeds_in said ++ deeds)
legal_in ledger Nothing deeds legal later = later
legal_in ledger Bad deeds legal later = later
legal_in ledger (Does deed) deeds legal later = (tested_legal ledger deed (not_false (is_legal ledger deed) legal), later) where
  not_false : (b : Bool) → not b ≡ false → b ≡ true
  not_false true h = refl
  not_false false h = sym h

legal_from : (before after : List (List ℕ)) → against_from before after ≡ None → AreLegal (ledger_of before) (deeds_of after)
legal_from before [] none = tt
legal_from before (line ∷ after) none =
    let here = none_here (length before + 1) (reason_at before line after) (against_from (before ++ line ∷ []) after) none in
    let own = own_none (own_reason_at before line) (holds Standing before line after) (sym (reason_at-own before line after) ∙ here) in
    let P : Ledger → Type 0 = λ (ledger : Ledger). AreLegal ledger (deeds_of after) in
    legal_in (ledger_of before) (said_by line) (deeds_of after) (no_reason before line own).legal
    (subst P (ledger_of-push before line) (legal_from (before ++ line ∷ []) after (none_later (length before + 1) (reason_at before line after) (against_from (before ++ line ∷ []) after) none)))

-- EACH ID with a mark has one standing behind each group

none_at : (first before : List (List ℕ)) (line : List ℕ) (after : List (List ℕ)) → against_from first (before ++ line ∷ after) ≡ None → reason_at (first ++ before) line after ≡ None
none_at first [] line after none =
    ap (λ (l : List (List ℕ)). reason_at l line after) (append-nil first) ∙ none_here (length first + 1) (reason_at first line after) (against_from (first ++ line ∷ []) after) none
none_at first (next ∷ before) line after none =
    ap (λ (l : List (List ℕ)). reason_at l line after) (sym (regroup first next before))
    ∙ none_at (first ++ next ∷ []) before line after (none_later (length first + 1) (reason_at first next (before ++ line ∷ after)) (against_from (first ++ next ∷ []) (before ++ line ∷ after)) none)

stand_in : (all marks : List Entry) (id : ℕ) → list_all (λ (entry : Entry). stands (marks_in entry.id all)) marks ≡ true → has_id id (ids_in marks) ≡ true → stands (marks_in id all) ≡ true
stand_in all [] id stand there = cc
stand_in all (first ∷ marks) id stand there =
    pick (first.id == id) refl there (stand_in all marks id (and_parts (stands (marks_in first.id all)) (list_all (λ (entry : Entry). stands (marks_in entry.id all)) marks) stand).1) where
      pick : (here : Bool) → (first.id == id) ≡ here → (here || has_id id (ids_in marks)) ≡ true → (has_id id (ids_in marks) ≡ true → stands (marks_in id all) ≡ true) → stands (marks_in id all) ≡ true
      pick true is there later =
          ap (λ (i : ℕ). stands (marks_in i all)) (sym (eqb-true first.id id is)) ∙ (and_parts (stands (marks_in first.id all)) (list_all (λ (entry : Entry). stands (marks_in entry.id all)) marks) stand).0
      pick false is there later = later there

pub one_standing_of : (marks : List Mark) → stands marks ≡ true → HasOneStanding marks
one_standing_of marks stand = by_standing (standing_of marks) stand (found marks) where
  by_standing : (o : Option Place) → is_some o ≡ true → IfSome o (HasStanding marks) → HasOneStanding marks
  by_standing None some has = cc
  by_standing (Some standing) some has = record { standing = standing; has = has; only = λ other its. one_standing marks other standing its has }

ends_and : (ends stand : Bool) → (ends && not stand) ≡ false → ends ≡ true → stand ≡ true
ends_and true true none ends = refl
ends_and true false none ends = sym none
ends_and false stand none ends = cc

pub right_from : (lines : List (List ℕ)) → against lines ≡ None → IsRight lines
right_from lines none = record {
  legal = legal_from [] lines none;
  stand = λ before line after parts ends id there.
      let here : reason_at before line after ≡ None = none_at [] before line after (ap against (sym parts) ∙ none) in
      let lacks = standing_none (own_reason_at before line) (holds Standing before line after) (sym (reason_at-own before line after) ∙ here) in
      let marks = (ledger_of (before ++ line ∷ [])).marks in
      one_standing_of (marks_in id marks) (stand_in marks marks id (ends_and (ends_group line after) (all_stand marks) lacks ends) there);
}

-- The ledger: the marks as someone knows them who reads the deeds of a report, and nothing else.
use Rattle.std.specs.Prelude.{◌≡◌, ℕ, ◌==◌, Bool, true, false, not, ◌&&◌, List, [], ◌∷◌, ◌++◌, Option, None, Some, filter, option_to_list}
use Rattle.std.specs.List.{list_any}
use Rattle.standings.specs.declared.mark.Mark.{Mark}
use Rattle.standings.specs.declared.entry.Entry.{Entry}
use Rattle.standings.specs.declared.deed.Deed.{Deed}
use Rattle.standings.specs.Marks.{has_id, is_same_mark}
use Rattle.standings.specs.Deeds.{added, made, named, named_beside, taken}

-- the marks that stand, each with its id, and the ids that were named so far
pub record Ledger : Type 0 where
  pub marks : List Entry
  pub seen : List ℕ

-- nothing was read yet
abbrev pub empty_ledger : Ledger
empty_ledger = record { marks = []; seen = [] }

-- two entries are one
abbrev pub is_same_entry : Entry → Entry → Bool
is_same_entry entry other = (entry.id == other.id) && is_same_mark entry.mark other.mark

-- an entry is in the ledger
abbrev pub has_entry : Entry → List Entry → Bool
has_entry entry marks = list_any (λ other. is_same_entry other entry) marks

abbrev pub mark_of_id : Bool → Mark → List Mark → List Mark
mark_of_id true mark marks = mark ∷ marks
mark_of_id false mark marks = marks

-- an entry is this one, where there is one
abbrev pub is_entry : Option Entry → Entry → Bool
is_entry None entry = false
is_entry (Some other) entry = is_same_entry other entry

-- the marks of an id in the ledger
abbrev pub marks_in : ℕ → List Entry → List Mark
marks_in id [] = []
marks_in id (entry ∷ marks) = mark_of_id (entry.id == id) entry.mark (marks_in id marks)

-- the entries without one of them
abbrev pub without : Option Entry → List Entry → List Entry
without None marks = marks
without (Some entry) marks = filter (λ other. not (is_same_entry other entry)) marks

-- the ids that a deed names
abbrev pub ids_named : Deed → List ℕ
ids_named deed = option_to_list (named_beside deed) ++ named deed ∷ []

-- the ledger after a deed: the taken mark goes, the added mark comes, and the ids are seen
abbrev pub ledger_after : Ledger → Deed → Ledger
ledger_after ledger deed =
    record {
      marks = without (taken deed) ledger.marks ++ option_to_list (added deed);
      seen = ledger.seen ++ ids_named deed;
    }

-- an entry stands, where there is one
abbrev pub is_found : Option Entry → List Entry → Bool
is_found None marks = true
is_found (Some entry) marks = has_entry entry marks

-- no entry stands, where there is one
abbrev pub is_missing : Option Entry → List Entry → Bool
is_missing None marks = true
is_missing (Some entry) marks = not (has_entry entry marks)

-- an id was not named before, where there is one
abbrev pub is_unseen : Option ℕ → List ℕ → Bool
is_unseen None seen = true
is_unseen (Some id) seen = not (has_id id seen)

-- a deed is legal where it finds the mark that it takes, does not find the one that it adds, and
-- makes an id that was never seen
pub record IsLegal (ledger : Ledger) (deed : Deed) : Type 0 where
  pub takes : is_found (taken deed) ledger.marks ≡ true
  pub adds : is_missing (added deed) ledger.marks ≡ true
  pub makes : is_unseen (made deed) ledger.seen ≡ true

-- the same as a test
abbrev pub is_legal : Ledger → Deed → Bool
is_legal ledger deed =
    is_found (taken deed) ledger.marks
    && (is_missing (added deed) ledger.marks && is_unseen (made deed) ledger.seen)

-- the ledger after some deeds
abbrev pub ledger_after_all : Ledger → List Deed → Ledger
ledger_after_all ledger [] = ledger
ledger_after_all ledger (deed ∷ deeds) = ledger_after_all (ledger_after ledger deed) deeds

-- deeds are legal one after the other
abbrev pub AreLegal : Ledger → List Deed → Type 0
AreLegal ledger [] = Unit {0}
AreLegal ledger (deed ∷ deeds) = IsLegal ledger deed × AreLegal (ledger_after ledger deed) deeds

-- the ids that deeds make
abbrev pub made_by_all : List Deed → List ℕ
made_by_all [] = []
made_by_all (deed ∷ deeds) = option_to_list (made deed) ++ made_by_all deeds

-- ids of which none was seen
abbrev pub are_new : List ℕ → List ℕ → Bool
are_new seen [] = true
are_new seen (id ∷ ids) = not (has_id id seen) && are_new seen ids

-- ids differ from one another
abbrev pub are_different : List ℕ → Bool
are_different [] = true
are_different (id ∷ ids) = not (has_id id ids) && are_different ids

-- no entry stands twice
abbrev pub stand_once : List Entry → Bool
stand_once [] = true
stand_once (entry ∷ marks) = not (has_entry entry marks) && stand_once marks

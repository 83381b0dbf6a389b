-- Of one lane: an id that nobody has has no marks, and a ledger gives an id the standing that the marks
-- of the machines give it.
use Rattle.std.proofs.Common.{◌≡◌, ◌∙◌, sym, ap, refl, subst, ℕ, ◌+◌, ◌==◌, ◌||◌, Bool, true, false, List, [], ◌∷◌, ◌++◌, Option, Some, None, eqb-true, flat_map, if◌then◌else◌}
use Rattle.std.specs.Prelude.{IfSome, nat_lt}
use Rattle.std.proofs.lemmas.Bool.{or_parts}
use Rattle.line_step.specs.Shown.{ascending, ids_owned, one_id, with_id}
use Rattle.line_step.specs.State.{LineState, marks_in}
use Rattle.line_step.proofs.Unnamed.{apart_ids}
use Rattle.law_one_standing.specs.Replay.{IsStandingTold}
use Rattle.standings.specs.Ledger as ledgers
use Rattle.standings.specs.Marks.{Owned, has_id, is_held, mark_if, marks_at, marks_from}
use Rattle.standings.specs.Standing.{HasStanding, Place, standing_of}
use Rattle.standings.specs.Told.{is_same_standing}
use Rattle.standings.specs.declared.mark.Mark.{Mark}
use Rattle.standings.specs.declared.mark.Mark.TheVariants as marks
use Rattle.standings.specs.declared.standing.Standing.TheVariants as places
use Rattle.standings.proofs.Standings.{found as standing_found, only}

-- ---- an id that is told of by nobody has no marks

with_by : (id other first : ℕ) (ids : List ℕ) (less same : Bool) → (other == first) ≡ same → (has_id id (with_id other ids) ≡ false → has_id id (other ∷ ids) ≡ false) → has_id id (if less then other ∷ first ∷ ids else (if same then first ∷ ids else first ∷ with_id other ids)) ≡ false → has_id id (other ∷ first ∷ ids) ≡ false
with_by id other first ids true same is later none = none
with_by id other first ids false true is later none =
    let parts = or_parts (first == id) (has_id id ids) none in
    ap (λ (n : ℕ). (n == id) || has_id id (first ∷ ids)) (eqb-true other first is) ∙ ap (λ (b : Bool). b || has_id id (first ∷ ids)) parts.0 ∙ none
with_by id other first ids false false is later none =
    let parts = or_parts (first == id) (has_id id (with_id other ids)) none in
    let behind = or_parts (other == id) (has_id id ids) (later parts.1) in
    ap (λ (b : Bool). b || ((first == id) || has_id id ids)) behind.0 ∙ ap (λ (b : Bool). b || has_id id ids) parts.0 ∙ behind.1

has_with : (id other : ℕ) (ids : List ℕ) → has_id id (with_id other ids) ≡ false → has_id id (other ∷ ids) ≡ false
has_with id other [] none = none
has_with id other (first ∷ ids) none = with_by id other first ids (nat_lt other first) (other == first) refl (has_with id other ids) none

pub has_ascending : (id : ℕ) (ids : List ℕ) → has_id id (ascending ids) ≡ false → has_id id ids ≡ false
has_ascending id [] none = refl
has_ascending id (other ∷ ids) none =
    let parts = or_parts (other == id) (has_id id (ascending ids)) (has_with id other (ascending ids) none) in
    ap (λ (b : Bool). b || has_id id ids) parts.0 ∙ has_ascending id ids parts.1

one_held : (id : ℕ) (held : Option ℕ) → has_id id (one_id held) ≡ false → is_held id held ≡ false
one_held id None none = refl
one_held id (Some other) none = (or_parts (other == id) false none).0

none_owned : (machine id : ℕ) (own : Owned) → has_id id (ids_owned own) ≡ false → marks_at machine own id ≡ []
none_owned machine id own none =
    let first = apart_ids id own.kept (one_id own.held ++ one_id own.taking) none in
    let second = apart_ids id (one_id own.held) (one_id own.taking) first.1 in
    ap (λ (b : Bool). mark_if b (marks.Kept machine) ++ (mark_if (is_held id own.held) (marks.Outlet machine) ++ mark_if (is_held id own.taking) (marks.Intake machine))) first.0
    ∙ ap (λ (b : Bool). mark_if b (marks.Outlet machine) ++ mark_if (is_held id own.taking) (marks.Intake machine)) (one_held id own.held second.0)
    ∙ ap (λ (b : Bool). mark_if b (marks.Intake machine)) (one_held id own.taking second.1)

pub none_marked : (machine id : ℕ) (line : List Owned) → has_id id (flat_map ids_owned line) ≡ false → marks_from machine line id ≡ []
none_marked machine id [] none = refl
none_marked machine id (own ∷ line) none =
    let two = apart_ids id (ids_owned own) (flat_map ids_owned line) none in
    ap (λ (ms : List Mark). ms ++ marks_from (machine + 1) line id) (none_owned machine id own two.0) ∙ none_marked (machine + 1) id line two.1

-- ---- the standing that marks give

pub same_is : (one other : Option Place) → is_same_standing one other ≡ true → one ≡ other
same_is None None is = refl
same_is None (Some other) is = absurd (let h : false ≡ true = is in cc)
same_is (Some one) None is = absurd (let h : false ≡ true = is in cc)
same_is (Some (places.With machine)) (Some (places.With other)) is = ap (λ (m : ℕ). Some (places.With m)) (eqb-true machine other is)
same_is (Some (places.With machine)) (Some (places.Between gap)) is = absurd (let h : false ≡ true = is in cc)
same_is (Some (places.Between gap)) (Some (places.With machine)) is = absurd (let h : false ≡ true = is in cc)
same_is (Some (places.Between gap)) (Some (places.Between other)) is = ap (λ (g : ℕ). Some (places.Between g)) (eqb-true gap other is)

pub ledger_stands : (ledger : ledgers.Ledger) (s : LineState) (id : ℕ) → IsStandingTold ledger s → standing_of (ledgers.marks_in id ledger.marks) ≡ standing_of (marks_in s id)
ledger_stands ledger s id told = by (standing_of (marks_in s id)) (standing_of (ledgers.marks_in id ledger.marks)) refl refl where
  by : (here there : Option Place) → standing_of (marks_in s id) ≡ here → standing_of (ledgers.marks_in id ledger.marks) ≡ there → standing_of (ledgers.marks_in id ledger.marks) ≡ standing_of (marks_in s id)
  by (Some place) there is was =
      let has : HasStanding (marks_in s id) place = subst (λ (o : Option Place). IfSome o (HasStanding (marks_in s id))) is (standing_found (marks_in s id)) in
      only (ledgers.marks_in id ledger.marks) place (told.whole id place has) ∙ sym is
  by None None is was = was ∙ sym is
  by None (Some place) is was =
      let has : HasStanding (ledgers.marks_in id ledger.marks) place = subst (λ (o : Option Place). IfSome o (HasStanding (ledgers.marks_in id ledger.marks))) was (standing_found (ledgers.marks_in id ledger.marks)) in
      was ∙ sym (only (marks_in s id) place (told.told id place has))

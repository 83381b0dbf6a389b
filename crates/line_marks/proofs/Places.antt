-- Ids put into their places among ids in ascending order, and what is told of each.
use Rattle.std.proofs.Common.{◌≡◌, ◌∙◌, ◌+◌, ◌<◌, ◌≤◌, ◌++◌, ◌⊎◌, ℕ, List, [], ◌∷◌, Some, inl, inr, length, drop, take, get_or, refl, sym, ap, arith, append_assoc, eq-eqb, ne_eqb}
use Rattle.std.specs.Prelude.{insert, slice_get, if◌then◌else◌}
use Rattle.std.proofs.lemmas.Bool.{cases_order}
use Rattle.std.proofs.lemmas.List.{drop_more, drop_all, take-append-drop, take_more}
use Rattle.std.proofs.lemmas.Option.{slice_get-get_or, slice_get_past}
use Rattle.standings.specs.Marks.{is_held}
use Rattle.line_report.specs.declared.happening.Happening.{Happening}
use Rattle.line_step.specs.Named.{ids_named, ids_of_happening}
use Rattle.line_step.specs.Shown.{ascending, with_id}
use Rattle.line_step.proofs.Ascending.{all-with_id, all_is_ascending, choose_false, choose_true, with_above, with_all, with_below, with_same}
use Rattle.line_marks.specs.Stepped.{with_ids}

-- ---- the place of an id

-- the ids in front of a place are below the id
pub record IsPassed (id place : ℕ) (ids : List ℕ) : Type 0 where
  pub passed : with_id id ids ≡ take place ids ++ with_id id (drop place ids)

pub passed_none : (id : ℕ) (ids : List ℕ) → IsPassed id 0 ids
passed_none id ids = record { passed = refl }

pub passed_more : (id place : ℕ) (ids : List ℕ) → place < length ids → get_or ids place 0 < id → IsPassed id place ids → IsPassed id (place + 1) ids
passed_more id place ids within below is = record {
  passed =
      is.passed
      ∙ ap (λ (rest : List ℕ). take place ids ++ with_id id rest) (drop_more ids place 0 within)
      ∙ ap (λ (rest : List ℕ). take place ids ++ rest) (with_above id (get_or ids place 0) (drop (place + 1) ids) below)
      ∙ sym (append_assoc (take place ids) (get_or ids place 0 ∷ []) (with_id id (drop (place + 1) ids)))
      ∙ ap (λ (front : List ℕ). front ++ with_id id (drop (place + 1) ids)) (sym (take_more ids place 0 within));
}

found_by : (id other place : ℕ) (ids : List ℕ) → slice_get ids place ≡ Some other → drop place ids ≡ other ∷ drop (place + 1) ids → IsPassed id place ids → (id ≡ other) ⊎ ((id < other) ⊎ (other < id)) → id ≤ other
    → with_id id ids ≡ (if is_held id (slice_get ids place) then ids else insert ids place id)
found_by id other place ids at rest is (inl same) below =
    is.passed
    ∙ ap (λ (more : List ℕ). take place ids ++ with_id id more) (rest ∙ ap (λ (n : ℕ). n ∷ drop (place + 1) ids) (sym same))
    ∙ ap (λ (more : List ℕ). take place ids ++ more) (with_same id (drop (place + 1) ids) ∙ ap (λ (n : ℕ). n ∷ drop (place + 1) ids) same ∙ sym rest)
    ∙ take-append-drop place ids
    ∙ sym (choose_true (is_held id (slice_get ids place)) ids (insert ids place id) (ap (is_held id) at ∙ eq-eqb other id (sym same)))
found_by id other place ids at rest is (inr (inl h)) below =
    is.passed
    ∙ ap (λ (more : List ℕ). take place ids ++ with_id id more) rest
    ∙ ap (λ (more : List ℕ). take place ids ++ more) (with_below id other (drop (place + 1) ids) h ∙ ap (λ (more : List ℕ). id ∷ more) (sym rest))
    ∙ sym (choose_false (is_held id (slice_get ids place)) ids (insert ids place id) (ap (is_held id) at ∙ ne_eqb other id (λ e. omega (arith, e))))
found_by id other place ids at rest is (inr (inr h)) below = absurd (omega arith)

pub found_place : (id other place : ℕ) (ids : List ℕ) → place < length ids → other ≡ get_or ids place other → id ≤ other → IsPassed id place ids → with_id id ids ≡ (if is_held id (slice_get ids place) then ids else insert ids place id)
found_place id other place ids within at below is =
    found_by id other place ids (slice_get-get_or ids place other within ∙ ap Some (sym at)) (drop_more ids place other within ∙ ap (λ (n : ℕ). n ∷ drop (place + 1) ids) (sym at)) is (cases_order id other) below

past : (ids : List ℕ) → drop (length ids) ids ≡ []
past [] = refl
past (id ∷ ids) = past ids

pub past_all : (id place : ℕ) (ids : List ℕ) → place ≡ length ids → IsPassed id place ids → with_id id ids ≡ (if is_held id (slice_get ids (length ids)) then ids else insert ids (length ids) id)
past_all id place ids is passed =
    passed.passed
    ∙ ap (λ (n : ℕ). take n ids ++ with_id id (drop n ids)) is
    ∙ ap (λ (rest : List ℕ). take (length ids) ids ++ with_id id rest) (past ids)
    ∙ ap (λ (rest : List ℕ). take (length ids) ids ++ (id ∷ rest)) (sym (past ids))
    ∙ sym (choose_false (is_held id (slice_get ids (length ids))) ids (insert ids (length ids) id) (ap (is_held id) (slice_get_past ids (length ids) (omega arith))))

-- ---- ids, one after another

pub with_ids-append : (ids more sorted : List ℕ) → with_ids (ids ++ more) sorted ≡ with_ids more (with_ids ids sorted)
with_ids-append [] more sorted = refl
with_ids-append (id ∷ ids) more sorted = with_ids-append ids more (with_id id sorted)

with_ids_is : (ids sorted : List ℕ) → with_ids ids sorted ≡ with_all ids sorted
unfolding with_all
with_ids_is [] sorted = refl
with_ids_is (id ∷ ids) sorted = with_ids_is ids (with_id id sorted) ∙ all-with_id ids id sorted

pub ids_ascend : (ids : List ℕ) → with_ids ids [] ≡ ascending ids
ids_ascend ids = with_ids_is ids [] ∙ all_is_ascending ids

-- the loop over what is told has come to the end
pub ids_end : (told : List Happening) (place : ℕ) (ids first : List ℕ) → length told ≤ place → with_ids (ids_named (drop place told)) ids ≡ with_ids (ids_named told) first → ids ≡ with_ids (ids_named told) first
ids_end told place ids first h is = sym (ap (λ (rest : List Happening). with_ids (ids_named rest) ids) (drop_all place told h)) ∙ is

-- those of two lists one behind the other
pub ids_both : (given got : List Happening) → with_ids (ids_named got) (with_ids (ids_named given) []) ≡ ascending (ids_named (given ++ got))
ids_both given got = sym (with_ids-append (ids_named given) (ids_named got) []) ∙ ap (λ (ids : List ℕ). with_ids ids []) (sym (named_append given got)) ∙ ids_ascend (ids_named (given ++ got))
  where
    named_append : (given got : List Happening) → ids_named (given ++ got) ≡ ids_named given ++ ids_named got
    named_append [] got = refl
    named_append (happening ∷ given) got = ap (λ (ids : List ℕ). ids_of_happening happening ++ ids) (named_append given got) ∙ sym (append_assoc (ids_of_happening happening) (ids_named given) (ids_named got))

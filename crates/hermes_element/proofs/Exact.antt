-- What the machine's outcome says of the bytes: the element that they spell, or where and why they are refused.
use Rattle.std.proofs.Common.{◌≡◌, inl, inr, ℕ, zero, suc, ◌+◌, ◌<◌, ◌≤◌, Bool, true, false, cond, List, [], ◌∷◌, ◌++◌, Option, Some, None, Result, Ok, Err, length, take, drop, refl, ap, sym, ◌∙◌, append_assoc, arith, subst}
use Rattle.std.proofs.lemmas.Bool.{cases_lt}
use Rattle.std.proofs.lemmas.List.{take-append-drop}
use Rattle.hermes_element.specs.Plain.{Document, IsSpelledBy, IsDocument}
use Rattle.hermes_element.specs.Checks.{Fault, faults_of, element_of, root_place}
use Rattle.hermes_element.specs.Element.{Forest, none, more, Tree}
use Rattle.hermes_element.specs.Refusal.{IsBegun, FailsAt, IsUnplain, IsLeast, FailsCheck, IsRefused, shape_reason}
use Rattle.hermes_element.specs.Spelling.{Spells, ReadsElement, AnswersElement, AnswersRefusal}
use Rattle.hermes_element.specs.Machine.{Build, Stand, Outcome, run, step, act, moved, ◌>>=◌, between, outcome, stop_of, stop_if, is_end}
use Rattle.hermes_element.specs.Steps.{as_forest, ReadsOutcome}
use Rattle.hermes_element.specs.declared.refusal.Why.{Why}
use Rattle.hermes_element.specs.declared.refusal.ElementError.{ElementError}
use Rattle.hermes_element.specs.declared.refusal.ElementError.TheVariants as errors
use Rattle.hermes_element.specs.declared.place.Place.{Place}
use Rattle.hermes_element.specs.declared.place.Place.TheVariants as places
use Rattle.hermes_element.proofs.Sound.{accepts, accept_if, accepts_stop, back, stuck}
use Rattle.hermes_element.proofs.Ends.{document_end}
use Rattle.hermes_element.proofs.Living.{Lives, leads, lives_on}
use Rattle.hermes_element.proofs.Whole.{over_document, over_done}
use Rattle.hermes_element.proofs.Effects.{settle, root_settle}
use Rattle.hermes_element.proofs.Rising.{Rising, root_rising, first_least, least_first}

-- ---- pass 1

run_stop : (from : Place) (depth : ℕ) (c : Result Build Fault) (place : ℕ) (bytes : List ℕ) → (run from depth c place bytes).stop ≡ stop_of from depth place bytes
run_stop from depth c place [] = refl
run_stop from depth c place (b ∷ bs) =
    elim (step from depth b) as (λ to. (moved to (record { stop = Some place; built = c }) (λ next count. run next count (c >>= act from place b) (place + 1) bs)).stop
    ≡ stop_if to place (λ next count. stop_of next count (place + 1) bs))
    [ None ↦ refl | Some to ↦ run_stop to.0 to.1 (c >>= act from place b) (place + 1) bs ]

pub outcome_stop : (bytes : List ℕ) → (outcome bytes).stop ≡ stop_of places.Start 0 0 bytes
outcome_stop bytes = run_stop places.Start 0 (Ok (between none [])) 0 bytes

pub document_outcome : (d : Document) (bytes : List ℕ) → IsSpelledBy d bytes → outcome bytes ≡ over_done (settle (faults_of d) (between (as_forest (element_of d)) []))
document_outcome d bytes is =
    ap outcome (sym is.text) ∙ over_document d (Ok (between none [])) is.plain ∙ ap over_done (root_settle (root_place d) d.root is.plain.root)

document_accepts : (bytes : List ℕ) → IsDocument bytes → accepts places.Start 0 bytes ≡ true
document_accepts bytes d = accepts_stop places.Start 0 0 bytes (sym (outcome_stop bytes) ∙ ap (λ (o : Outcome). o.stop) (document_outcome d.0 bytes d.1))

stop_of_document : (bytes : List ℕ) → IsDocument bytes → stop_of places.Start 0 0 bytes ≡ None
stop_of_document bytes d = sym (outcome_stop bytes) ∙ ap (λ (o : Outcome). o.stop) (document_outcome d.0 bytes d.1)

ap_begun : (bytes : List ℕ) (n m : ℕ) → n ≡ m → (rest : List ℕ) → IsDocument (take n bytes ++ rest) → IsDocument (take m bytes ++ rest)
ap_begun bytes n m e rest d = subst (λ k. IsDocument (take k bytes ++ rest)) e d

take_of_take : (bytes : List ℕ) (m n : ℕ) → m ≤ n → take m (take n bytes) ≡ take m bytes
take_of_take bytes zero n h = refl
take_of_take [] (suc m) zero h = absurd (omega arith)
take_of_take [] (suc m) (suc n) h = refl
take_of_take (b ∷ bs) (suc m) zero h = absurd (omega arith)
take_of_take (b ∷ bs) (suc m) (suc n) h = ap (λ l. b ∷ l) (take_of_take bs m n (omega arith))

-- where the machine stops, the bytes so far go on to an end, and with the next one they don't
record Stops (from : Place) (depth place at : ℕ) (bytes : List ℕ) : Type 0 where
  count : ℕ
  is : at ≡ place + count
  within : count ≤ length bytes
  rest : List ℕ
  goes : accepts from depth (take count bytes ++ rest) ≡ true
  bars : count < length bytes → (tail : List ℕ) → accepts from depth (take (suc count) bytes ++ tail) ≡ true → ⊥

some_same : {a b : ℕ} → Some a ≡ Some b → a ≡ b
some_same e = cc

none_some : {a : ℕ} → None ≡ Some a → ⊥
none_some e = cc

stops_here : (from : Place) (depth place at b : ℕ) (bs : List ℕ) → Lives from depth → step from depth b ≡ None → Some place ≡ Some at → Stops from depth place at (b ∷ bs)
stops_here from depth place at b bs lives s e =
    let l = leads from depth lives in
    let same : place ≡ at = some_same e in
    record { count = 0; is = omega arith; within = omega arith; rest = l.0; goes = l.1; bars = λ _ tail h. stuck from depth b tail s h }

stops_later : (from : Place) (depth place at b : ℕ) (bs : List ℕ) (to : Place) (count : ℕ) → step from depth b ≡ Some (to, count) → Stops to count (place + 1) at bs → Stops from depth place at (b ∷ bs)
stops_later from depth place at b bs to count s t =
    let where_from = t.is in let inside = t.within in
    record {
      count = suc t.count;
      is = omega arith;
      within = omega arith;
      rest = t.rest;
      goes = ap (λ o. accept_if o (λ p n. accepts p n (take t.count bs ++ t.rest))) s ∙ t.goes;
      bars = λ h tail a. t.bars (omega arith) tail (back from to depth count b (take (suc t.count) bs ++ tail) s a);
    }

end_place : (end : Bool) (place at : ℕ) → cond end None (Some place) ≡ Some at → at ≡ place + 0
end_place true place at e = absurd (none_some e)
end_place false place at e = let same : place ≡ at = some_same e in omega arith

abbrev AllLive : Option Stand → Type 0
AllLive None = Unit {0}
AllLive (Some to) = Lives to.0 to.1

stepped : (from : Place) (depth place at b : ℕ) (bs : List ℕ) (to : Option Stand) → step from depth b ≡ to → Lives from depth → AllLive to
    → stop_if to place (λ next count. stop_of next count (place + 1) bs) ≡ Some at
    → ((next : Place) (count : ℕ) → Lives next count → stop_of next count (place + 1) bs ≡ Some at → Stops next count (place + 1) at bs) → Stops from depth place at (b ∷ bs)
stepped from depth place at b bs None s lives all e go = stops_here from depth place at b bs lives s e
stepped from depth place at b bs (Some to) s lives all e go = stops_later from depth place at b bs to.0 to.1 s (go to.0 to.1 all e)

stops_of : (from : Place) (depth place at : ℕ) (bytes : List ℕ) → Lives from depth → stop_of from depth place bytes ≡ Some at → Stops from depth place at bytes
stops_of from depth place at [] lives e =
    let l = leads from depth lives in
    record { count = 0; is = end_place (is_end from) place at e; within = omega arith; rest = l.0; goes = l.1; bars = λ h. absurd (omega arith) }
stops_of from depth place at (b ∷ bs) lives e =
    stepped from depth place at b bs (step from depth b) refl lives (lives_on from depth b lives) e (λ to count l h. stops_of to count (place + 1) at bs l h)

-- a place where the bytes leave the plain form
pub unplain_at : (bytes : List ℕ) (at : ℕ) → stop_of places.Start 0 0 bytes ≡ Some at → IsUnplain bytes at (shape_reason bytes at)
unplain_at bytes at e =
    let s = stops_of places.Start 0 0 at bytes refl e in
    let is : at ≡ s.count = omega (arith, s.is) in
    let one_more : suc s.count ≡ at + 1 = omega (arith, is) in
    record {
      unplain = λ d. none_some (sym (stop_of_document bytes d) ∙ e);
      place = record {
        within = omega (arith, is, s.within);
        begun = (s.rest, ap_begun bytes s.count at (sym is) s.rest (document_end (take s.count bytes ++ s.rest) s.goes));
        stuck = λ h begun. s.bars (omega (arith, is)) begun.0
            (ap (λ n. accepts places.Start 0 (take n bytes ++ begun.0)) one_more ∙ document_accepts (take (at + 1) bytes ++ begun.0) begun.1);
      };
      first = refl;
    }

pub document_at : (bytes : List ℕ) → stop_of places.Start 0 0 bytes ≡ None → IsDocument bytes
document_at bytes e = document_end bytes (accepts_stop places.Start 0 0 bytes e)

-- fronts of what is begun are begun
begun_front : (xs ys : List ℕ) → IsBegun (xs ++ ys) → IsBegun xs
begun_front xs ys b = (ys ++ b.0, subst IsDocument (append_assoc xs ys b.0) b.1)

front_of_front : (bytes : List ℕ) (m n : ℕ) → m ≤ n → take m bytes ++ drop m (take n bytes) ≡ take n bytes
front_of_front bytes m n h = ap (λ l. l ++ drop m (take n bytes)) (sym (take_of_take bytes m n h)) ∙ take-append-drop m (take n bytes)

begun_less : (bytes : List ℕ) (m n : ℕ) → m ≤ n → IsBegun (take n bytes) → IsBegun (take m bytes)
begun_less bytes m n h b = begun_front (take m bytes) (drop m (take n bytes)) (subst IsBegun (sym (front_of_front bytes m n h)) b)

-- there is one such place
pub one_place : (bytes : List ℕ) (a b : ℕ) → FailsAt bytes a → FailsAt bytes b → a ≡ b
one_place bytes a b f g = elim (cases_lt a b) [
  | inl less ↦ absurd (f.stuck (omega (arith, less, g.within)) (begun_less bytes (a + 1) b (omega arith) g.begun))
  | inr not_less ↦ elim (cases_lt b a) [
    | inl less ↦ absurd (g.stuck (omega (arith, less, f.within)) (begun_less bytes (b + 1) a (omega arith) f.begun))
    | inr same ↦ omega arith
  ]
]

-- ---- pass 2

abbrev failed : Fault → Result Build Fault
failed fault = Err fault

err_same : (x y : Fault) → failed x ≡ failed y → x ≡ y
err_same x y e = cc

least_outcome : (faults : List Fault) (b : Build) (fault : Fault) (low : ℕ) → (high : ℕ) × Rising low high faults → IsLeast faults fault → over_done (settle faults b) ≡ over_done (Err fault)
least_outcome [] b fault low r least = absurd least.among
least_outcome (first ∷ faults) b fault low r least = ap (λ f. over_done (Err f)) (least_first low r.0 fault first faults r.1 least)

settled_ok : (faults : List Fault) (b d : Build) → settle faults b ≡ Ok d → (faults ≡ []) × (b ≡ d)
settled_ok [] b d e = (refl, cc)
settled_ok (fault ∷ faults) b d e = absurd (cc e)

settled_err : (faults : List Fault) (b : Build) (fault : Fault) → settle faults b ≡ Err fault → (rest : List Fault) × (faults ≡ fault ∷ rest)
settled_err [] b fault e = absurd (cc e)
settled_err (first ∷ faults) b fault e = (faults, ap (λ f. f ∷ faults) (err_same first fault e))

abbrev first_tree : Forest → Tree
first_tree none = record { name = []; at = 0; attributes = []; children = none }
first_tree (more name at attributes children rest) = record { name = name; at = at; attributes = attributes; children = children }

pub one_tree : (a b : Tree) → between (as_forest a) [] ≡ between (as_forest b) [] → a ≡ b
one_tree a b e = ap (λ (c : Build). first_tree c.roots) e

built_of : Outcome → Result Build Fault
built_of o = o.built

-- the outcome of bytes that spell an element, and of bytes that fail a check
pub spelled_outcome : (bytes : List ℕ) (tree : Tree) → Spells bytes tree → outcome bytes ≡ over_done (Ok (between (as_forest tree) []))
spelled_outcome bytes tree s =
    document_outcome s.document bytes s.spelled
    ∙ ap (λ f. over_done (settle f (between (as_forest (element_of s.document)) []))) s.good
    ∙ ap (λ t. over_done (Ok (between (as_forest t) []))) s.element

checked_outcome : (bytes : List ℕ) (at : ℕ) (reason : Why) → FailsCheck bytes at reason → outcome bytes ≡ over_done (Err (at, reason))
checked_outcome bytes at reason f =
    document_outcome f.document bytes f.spelled
    ∙ least_outcome (faults_of f.document) (between (as_forest (element_of f.document)) []) (at, reason) (root_place f.document) (root_rising (root_place f.document) f.document.root f.spelled.plain.root) f.fault

-- and back
spells_if : (bytes : List ℕ) (tree : Tree) → outcome bytes ≡ over_done (Ok (between (as_forest tree) [])) → Spells bytes tree
spells_if bytes tree e =
    let d = document_at bytes (sym (outcome_stop bytes) ∙ ap (λ (o : Outcome). o.stop) e) in
    let same = sym (ap (λ (o : Outcome). o.built) (document_outcome d.0 bytes d.1)) ∙ ap (λ (o : Outcome). o.built) e in
    let both = settled_ok (faults_of d.0) (between (as_forest (element_of d.0)) []) (between (as_forest tree) []) same in
    record { document = d.0; spelled = d.1; good = both.0; element = one_tree (element_of d.0) tree both.1 }

fails_if : (bytes : List ℕ) (at : ℕ) (reason : Why) → stop_of places.Start 0 0 bytes ≡ None → (outcome bytes).built ≡ Err (at, reason) → FailsCheck bytes at reason
fails_if bytes at reason s e =
    let d = document_at bytes s in
    let same = sym (ap (λ (o : Outcome). o.built) (document_outcome d.0 bytes d.1)) ∙ e in
    let first = settled_err (faults_of d.0) (between (as_forest (element_of d.0)) []) (at, reason) same in
    let rises = root_rising (root_place d.0) d.0.root d.1.plain.root in
    record {
      document = d.0;
      spelled = d.1;
      fault = subst (λ l. IsLeast l (at, reason)) (sym first.1) (first_least (root_place d.0) rises.0 (at, reason) first.0 (subst (λ l. Rising (root_place d.0) rises.0 l) first.1 rises.1));
    }

-- ---- the clauses of reading

not_spelled_stop : (bytes : List ℕ) (at : ℕ) → stop_of places.Start 0 0 bytes ≡ Some at → (tree : Tree) → Spells bytes tree → ⊥
not_spelled_stop bytes at e tree s = none_some (sym (sym (outcome_stop bytes) ∙ ap (λ (o : Outcome). o.stop) (spelled_outcome bytes tree s)) ∙ e)

not_spelled_built : (bytes : List ℕ) (fault : Fault) → (outcome bytes).built ≡ Err fault → (tree : Tree) → Spells bytes tree → ⊥
not_spelled_built bytes fault e tree s = let h = sym (ap (λ (o : Outcome). o.built) (spelled_outcome bytes tree s)) ∙ e in cc h

pub answer : (bytes : List ℕ) (result : Result Tree ElementError) → ReadsOutcome bytes result → ReadsElement bytes result
answer bytes (Ok tree) r = spells_if bytes tree r
answer bytes (Err (errors.Refused at reason)) (inl r) =
    (inl (subst (λ w. IsUnplain bytes at w) (sym r.1) (unplain_at bytes at r.0)), not_spelled_stop bytes at r.0)
answer bytes (Err (errors.Refused at reason)) (inr r) = (inr (fails_if bytes at reason r.0 r.1), not_spelled_built bytes (at, reason) r.1)
answer bytes (Err errors.Memory) r = tt

pub answers_spelled : (bytes : List ℕ) (result : Result Tree ElementError) → ReadsOutcome bytes result → (tree : Tree) → Spells bytes tree → AnswersElement result tree
answers_spelled bytes (Ok found) r tree s = let e = sym r ∙ spelled_outcome bytes tree s in let b = ap (λ (o : Outcome). o.built) e in one_tree found tree (cc b)
answers_spelled bytes (Err (errors.Refused at reason)) (inl r) tree s = not_spelled_stop bytes at r.0 tree s
answers_spelled bytes (Err (errors.Refused at reason)) (inr r) tree s = not_spelled_built bytes (at, reason) r.1 tree s
answers_spelled bytes (Err errors.Memory) r tree s = tt

some_none : {a : ℕ} → Some a ≡ None → ⊥
some_none e = cc

pub answers_refused : (bytes : List ℕ) (result : Result Tree ElementError) → ReadsOutcome bytes result → (at : ℕ) (reason : Why) → IsRefused bytes at reason → AnswersRefusal result at reason
answers_refused bytes (Ok tree) r at reason (inl u) = u.unplain (document_at bytes (sym (outcome_stop bytes) ∙ ap (λ (o : Outcome). o.stop) r))
answers_refused bytes (Ok tree) r at reason (inr f) = let e = sym (ap (λ (o : Outcome). o.built) r) ∙ ap (λ (o : Outcome). o.built) (checked_outcome bytes at reason f) in cc e
answers_refused bytes (Err (errors.Refused place why)) (inl r) at reason (inl u) =
    let e = one_place bytes place at (unplain_at bytes place r.0).place u.place in
    (e, r.1 ∙ ap (shape_reason bytes) e ∙ sym u.first)
answers_refused bytes (Err (errors.Refused place why)) (inl r) at reason (inr f) = absurd (none_some (sym (stop_of_document bytes (f.document, f.spelled)) ∙ r.0))
answers_refused bytes (Err (errors.Refused place why)) (inr r) at reason (inl u) = absurd (u.unplain (document_at bytes r.0))
answers_refused bytes (Err (errors.Refused place why)) (inr r) at reason (inr f) =
    let e = err_same (place, why) (at, reason) (sym r.1 ∙ ap (λ (o : Outcome). o.built) (checked_outcome bytes at reason f)) in
    (ap (λ (x : Fault). x.0) e, ap (λ (x : Fault). x.1) e)
answers_refused bytes (Err errors.Memory) r at reason u = tt

-- ---- one refusal, and none beside a spelling

pub one_refusal : (bytes : List ℕ) (at place : ℕ) (why reason : Why) → IsRefused bytes at why → IsRefused bytes place reason → (at ≡ place) × (why ≡ reason)
one_refusal bytes at place why reason (inl u) (inl v) = let e = one_place bytes at place u.place v.place in (e, u.first ∙ ap (shape_reason bytes) e ∙ sym v.first)
one_refusal bytes at place why reason (inl u) (inr g) = absurd (u.unplain (g.document, g.spelled))
one_refusal bytes at place why reason (inr f) (inl v) = absurd (v.unplain (f.document, f.spelled))
one_refusal bytes at place why reason (inr f) (inr g) =
    let one = ap (λ (o : Outcome). o.built) (checked_outcome bytes at why f) in
    let other = ap (λ (o : Outcome). o.built) (checked_outcome bytes place reason g) in
    let e = err_same (at, why) (place, reason) (sym one ∙ other) in
    (ap (λ (x : Fault). x.0) e, ap (λ (x : Fault). x.1) e)

pub never_both : (bytes : List ℕ) (at : ℕ) (why : Why) (tree : Tree) → IsRefused bytes at why → Spells bytes tree → ⊥
never_both bytes at why tree (inl u) s = u.unplain (s.document, s.spelled)
never_both bytes at why tree (inr f) s = not_spelled_built bytes (at, why) (ap (λ (o : Outcome). o.built) (checked_outcome bytes at why f)) tree s

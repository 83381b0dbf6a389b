-- What a machine owns is its order, act by act: the outlet's id in front of those that are kept.
use Rattle.std.proofs.Common.{Bool, List, None, Option, Some, [], ap, append_assoc, eq-eqb, eqb-true, false, refl, slice_get, subst, sym, true, ℕ, ◌++◌, ◌==◌, ◌∙◌, ◌∷◌, ◌≡◌}
use Rattle.std.proofs.lemmas.Bool.{and_parts}
use Rattle.line_step.proofs.Unnamed.{apart_ids}
use Rattle.node_core.specs.Own.{Own, one_of, with_id_instead, without_id}
use Rattle.node_core.specs.declared.act.Act.{Act}
use Rattle.node_core.specs.declared.act.Act.TheVariants as acts
use Rattle.node_core.specs.declared.act.Deed.TheVariants as deeds
use Rattle.standings.specs.Ledger.{are_different}
use Rattle.standings.specs.Marks.{has_id}
use Rattle.law_one_standing.proofs.LedgerSteps.{all_of, dropped_ids, settled_ids}
use Rattle.law_one_standing.proofs.LedgerTurns.{different_first, different_rest}
use Rattle.law_one_standing.proofs.LedgerWalk.{Announces, Did, Hand, Walk, are_silent, did, hand_gets, hand_gives, hand_inserts, hand_removes, hand_replaces, hand_walks, is_silent, says_last, says_more, says_start, walk_drops, walk_end, walk_leaves, walk_loses, walk_on, walk_opens, walk_returns, walk_settles}
use Rattle.law_sentences.specs.Order.{order_with}

-- ---- the order behind some acts

abbrev pub order_after : List ℕ → List Act → List ℕ
order_after order [] = order
order_after order (act ∷ told) = order_after (order_with order act) told

-- each board that leaves is the first then
abbrev pub IsFirst : List ℕ → Act → Type 0
IsFirst order (acts.Deed (deeds.Leaves id)) = slice_get order 0 ≡ Some id
IsFirst order _ = Unit {0}

abbrev pub AreFirst : List ℕ → List Act → Type 0
AreFirst order [] = Unit {0}
AreFirst order (act ∷ told) = IsFirst order act × AreFirst (order_with order act) told

-- acts that lead from an order to another
pub record Queues (order : List ℕ) (told : List Act) (end : List ℕ) : Type 0 where
  pub leads : order_after order told ≡ end
  pub firsts : AreFirst order told

none_told : (order : List ℕ) → Queues order [] order
none_told order = record { leads = refl; firsts = tt }

pub after_both : (order : List ℕ) (a b : List Act) → order_after order (a ++ b) ≡ order_after (order_after order a) b
after_both order [] b = refl
after_both order (act ∷ a) b = after_both (order_with order act) a b

first_both : (order : List ℕ) (a b : List Act) → AreFirst order a → AreFirst (order_after order a) b → AreFirst order (a ++ b)
first_both order [] b one two = two
first_both order (act ∷ a) b one two = (one.0, first_both (order_with order act) a b one.1 two)

both_told : {order middle end : List ℕ} (a b : List Act) → Queues order a middle → Queues middle b end → Queues order (a ++ b) end
both_told {order} a b one two = record {
  leads = after_both order a b ∙ ap (λ (x : List ℕ). order_after x b) one.leads ∙ two.leads;
  firsts = first_both order a b one.firsts (subst (λ (x : List ℕ). AreFirst x b) (sym one.leads) two.firsts);
}

-- ---- acts that move no record

not_so : {X : Type 0} → false ≡ true → X
not_so is = cc

silent_told : {order end : List ℕ} (act : Act) (told : List Act) → is_silent act ≡ true → Queues order told end → Queues order (act ∷ told) end
silent_told (acts.Deed (deeds.Opens id)) told is k = not_so is
silent_told (acts.Deed (deeds.Leaves id)) told is k = not_so is
silent_told (acts.Deed (deeds.Returns id)) told is k = not_so is
silent_told (acts.Deed (deeds.Loses id)) told is k = not_so is
silent_told (acts.Deed (deeds.Starts id)) told is k = not_so is
silent_told (acts.Deed (deeds.Settles id)) told is k = not_so is
silent_told (acts.Deed (deeds.Drops id)) told is k = not_so is
silent_told (acts.Inserts id) told is k = not_so is
silent_told (acts.Removes id) told is k = not_so is
silent_told (acts.Replaces old new) told is k = not_so is
silent_told (acts.Gives id to) told is k = not_so is
silent_told (acts.Gets id) told is k = not_so is
silent_told _ told is k = record { leads = k.leads; firsts = (tt, k.firsts) }

all_silent : (order : List ℕ) (told : List Act) → are_silent told ≡ true → Queues order told order
all_silent order [] is = none_told order
all_silent order (act ∷ told) is = silent_told act told (and_parts (is_silent act) (are_silent told) is).0 (all_silent order told (and_parts (is_silent act) (are_silent told) is).1)

-- ---- lists of ids

abbrev pub queue_of : Own → List ℕ
queue_of own = one_of own.held ++ own.kept

without_first : (id : ℕ) (ids : List ℕ) → without_id id (id ∷ ids) ≡ ids
without_first id ids = rw (eq-eqb id id refl) refl

-- what is held is none of those that are kept
apart_by : (mine id : ℕ) (ids rest : List ℕ) (test : Bool) → (mine == id) ≡ test → has_id mine (ids ++ rest) ≡ false → has_id id ids ≡ true → test ≡ false
apart_by mine id ids rest false is none has = refl
apart_by mine id ids rest true is none has =
    let kept : has_id mine ids ≡ true = ap (λ (x : ℕ). has_id x ids) (eqb-true mine id is) ∙ has in
    let no_way : true ≡ false = sym kept ∙ (apart_ids mine ids rest none).0 in
    absurd (cc)

removed : (held : Option ℕ) (ids rest : List ℕ) (id : ℕ) → are_different (one_of held ++ (ids ++ rest)) ≡ true → has_id id ids ≡ true → without_id id (one_of held ++ ids) ≡ one_of held ++ without_id id ids
removed None ids rest id different has = refl
removed (Some mine) ids rest id different has = rw (apart_by mine id ids rest (mine == id) refl (different_first mine (ids ++ rest) different) has) refl

replaced : (held : Option ℕ) (ids rest : List ℕ) (old new : ℕ) → are_different (one_of held ++ (ids ++ rest)) ≡ true → has_id old ids ≡ true → with_id_instead old new (one_of held ++ ids) ≡ one_of held ++ with_id_instead old new ids
replaced None ids rest old new different has = refl
replaced (Some mine) ids rest old new different has = rw (apart_by mine old ids rest (mine == old) refl (different_first mine (ids ++ rest) different) has) refl

-- ---- a walk

walk_queues : {own end : Own} {told : List Act} → Walk own told end → Queues (queue_of own) told (queue_of end)
walk_queues walk_end = record { leads = refl; firsts = tt }
walk_queues (walk_on {act = act} {others = others} silent more) = silent_told act others silent (walk_queues more)
walk_queues (walk_opens more) = let k = walk_queues more in record { leads = k.leads; firsts = (tt, k.firsts) }
walk_queues (walk_returns more) = let k = walk_queues more in record { leads = k.leads; firsts = (tt, k.firsts) }
walk_queues {end = end} (walk_leaves {id = id} {ids = ids} {others = others} more) =
    let k : Queues (without_id id (id ∷ ids)) others (queue_of end) = subst (λ (x : List ℕ). Queues x others (queue_of end)) (sym (without_first id ids)) (walk_queues more) in
    record { leads = k.leads; firsts = (refl, k.firsts) }
walk_queues {end = end} (walk_loses {id = id} {ids = ids} {others = others} more) =
    let k : Queues (without_id id (id ∷ ids)) others (queue_of end) = subst (λ (x : List ℕ). Queues x others (queue_of end)) (sym (without_first id ids)) (walk_queues more) in
    record { leads = k.leads; firsts = (tt, k.firsts) }
walk_queues {end = end} (walk_settles {id = id} {ids = ids} {held = held} {others = others} more) =
    let k : Queues ((one_of held ++ ids) ++ id ∷ []) others (queue_of end) = subst (λ (x : List ℕ). Queues x others (queue_of end)) (sym (append_assoc (one_of held) ids (id ∷ []))) (walk_queues more) in
    record { leads = k.leads; firsts = (tt, k.firsts) }
walk_queues (walk_drops more) = let k = walk_queues more in record { leads = k.leads; firsts = (tt, k.firsts) }

walk_different : {own end : Own} {told : List Act} → Walk own told end → are_different (all_of own) ≡ true → are_different (all_of end) ≡ true
walk_different walk_end is = is
walk_different (walk_on silent more) is = walk_different more is
walk_different (walk_opens more) is = walk_different more is
walk_different (walk_returns more) is = walk_different more is
walk_different (walk_leaves {id = id} {ids = ids} {taking = taking} more) is = walk_different more (different_rest id (ids ++ one_of taking) is)
walk_different (walk_loses {id = id} {ids = ids} {taking = taking} more) is = walk_different more (different_rest id (ids ++ one_of taking) is)
walk_different (walk_settles {id = id} {ids = ids} {held = held} more) is = walk_different more (ap are_different (sym (settled_ids held ids id)) ∙ is)
walk_different (walk_drops {id = id} {ids = ids} {held = held} more) is = walk_different more (dropped_ids held ids id is)

-- ---- by hand, and what is announced

hand_queues : {New : ℕ → Type 0} {own end : Own} {told : List Act} → Hand New own told end → are_different (all_of own) ≡ true → Queues (queue_of own) told (queue_of end)
hand_queues (hand_walks walk) is = walk_queues walk
hand_queues (hand_inserts {id = id} {ids = ids} {held = held} new) is = record { leads = append_assoc (one_of held) ids (id ∷ []); firsts = (tt, tt) }
hand_queues (hand_removes {id = id} {ids = ids} {held = held} {taking = taking} has) is = record { leads = removed held ids (one_of taking) id is has; firsts = (tt, tt) }
hand_queues (hand_gives {id = id} {ids = ids} {held = held} {taking = taking} has) is = record { leads = removed held ids (one_of taking) id is has; firsts = (tt, tt) }
hand_queues (hand_gets {id = id} {ids = ids} {held = held}) is = record { leads = append_assoc (one_of held) ids (id ∷ []); firsts = (tt, tt) }
hand_queues (hand_replaces {old = old} {new = new} {ids = ids} {held = held} {taking = taking} has made) is = record { leads = replaced held ids (one_of taking) old new is has; firsts = (tt, tt) }

announces_queues : {own end : Own} {told : List Act} → Announces own told end → Queues (queue_of own) told (queue_of end)
announces_queues {own = own} (says_more told others silent more) = both_told told others (all_silent (queue_of own) told silent) (announces_queues more)
announces_queues {own = own} (says_last {told = told} silent) = all_silent (queue_of own) told silent
announces_queues {own = own} (says_start {others = others} silent) = let k = all_silent (queue_of own) others silent in record { leads = k.leads; firsts = (tt, k.firsts) }

-- A STEP: what its acts make of the order
pub did_queues : {New : ℕ → Type 0} {own end : Own} {told : List Act} → Did New own told end → are_different (all_of own) ≡ true → Queues (queue_of own) told (queue_of end)
did_queues (did read met told walk hand says) is =
    both_told read (met ++ told) (walk_queues walk) (both_told met told (hand_queues hand (walk_different walk is)) (announces_queues says))

-- What an entry has heard since its last start, as a fold over its acts; and acts among which each board that settles was
-- said.
use Rattle.std.proofs.Common.{Bool, List, None, Option, Some, [], ap, false, refl, subst, sym, true, ℕ, ◌&&◌, ◌++◌, ◌==◌, ◌||◌, ◌∙◌, ◌∷◌, ◌≡◌}
use Rattle.std.specs.Prelude.{not}
use Rattle.std.proofs.lemmas.Bool.{and_from, and_parts}
use Rattle.line_base.specs.declared.states.Side.TheVariants.{Entry}
use Rattle.line_base.specs.declared.states.Transfer.TheVariants.{Complete}
use Rattle.hermes_horizontal.specs.declared.message.Horizontal.{Horizontal}
use Rattle.hermes_horizontal.specs.declared.message.Horizontal.TheVariants as bodies
use Rattle.node_core.specs.declared.act.Act.{Act}
use Rattle.node_core.specs.declared.act.Act.TheVariants as acts
use Rattle.node_core.specs.declared.act.Deed.TheVariants as deeds
use Rattle.law_custody.specs.LookBack.{IsSaid as IsSaidSince, Since, just_started}

-- ---- the fold

-- the board of the last start, and what was heard since
pub record Hearing : Type 0 where
  pub named : Option ℕ
  pub since : Since

abbrev pub none_heard : Hearing
none_heard = record { named = None; since = just_started }

abbrev pub is_named : Option ℕ → ℕ → Bool
is_named None id = false
is_named (Some mine) id = id == mine

-- a close, the end of the transport, a description
abbrev pub closed_since : Since → Since
closed_since s = record s { closed = true }

abbrev pub ended_since : Bool → Since → Since
ended_since true s = record s { ended = not s.closed || s.ended }
ended_since false s = s

abbrev pub described_since : Since → Since
described_since s = record s { described = s.closed }

abbrev pub since_message : Option ℕ → Horizontal → Since → Since
since_message named (bodies.TransportFinished Complete id) s = ended_since (is_named named id) s
since_message named (bodies.ServiceDescription service) s = described_since s
since_message named _ s = s

abbrev pub heard_act : Hearing → Act → Hearing
heard_act h (acts.Hears Entry message) = record h { since = since_message h.named message.body h.since }
heard_act h (acts.Closes Entry) = record h { since = closed_since h.since }
heard_act h (acts.Notices Entry) = record h { since = closed_since h.since }
heard_act h (acts.Deed (deeds.Starts id)) = record { named = Some id; since = just_started }
heard_act h _ = h

abbrev pub heard_all : Hearing → List Act → Hearing
heard_all h [] = h
heard_all h (act ∷ told) = heard_all (heard_act h act) told

pub heard_append : (h : Hearing) (a b : List Act) → heard_all h (a ++ b) ≡ heard_all (heard_all h a) b
heard_append h [] b = refl
heard_append h (act ∷ a) b = heard_append (heard_act h act) a b

-- ---- acts among which each board that settles was said. `P` holds of its id

abbrev pub settles_not : Act → Bool
settles_not (acts.Deed (deeds.Settles id)) = false
settles_not _ = true

pub data Orderly (P : ℕ → Type 0) : Hearing → List Act → Type 0 where
  ends : {h : Hearing} → Orderly P h []
  goes_on : {h : Hearing} {act : Act} {told : List Act} → settles_not act ≡ true → Orderly P (heard_act h act) told → Orderly P h (act ∷ told)
  settles_so : {h : Hearing} {id : ℕ} {told : List Act} → h.named ≡ Some id → IsSaidSince h.since → P id → Orderly P h told → Orderly P h (acts.Deed (deeds.Settles id) ∷ told)

pub orderly_both : {P : ℕ → Type 0} {h : Hearing} {a : List Act} (b : List Act) → Orderly P h a → Orderly P (heard_all h a) b → Orderly P h (a ++ b)
orderly_both b ends later = later
orderly_both b (goes_on plain more) later = goes_on plain (orderly_both b more later)
orderly_both b (settles_so named said is more) later = settles_so named said is (orderly_both b more later)

-- acts that say nothing of the entry
abbrev pub is_aside : Act → Bool
is_aside (acts.Hears Entry message) = false
is_aside (acts.Closes Entry) = false
is_aside (acts.Notices Entry) = false
is_aside (acts.Deed (deeds.Starts id)) = false
is_aside (acts.Deed (deeds.Settles id)) = false
is_aside _ = true

abbrev pub are_aside : List Act → Bool
are_aside [] = true
are_aside (act ∷ told) = is_aside act && are_aside told

no_way : {X : Type 0} → false ≡ true → X
no_way e = cc

aside_same : (h : Hearing) (act : Act) → is_aside act ≡ true → (heard_act h act ≡ h) × (settles_not act ≡ true)
aside_same h (acts.Hears Entry message) is = no_way is
aside_same h (acts.Closes Entry) is = no_way is
aside_same h (acts.Notices Entry) is = no_way is
aside_same h (acts.Deed (deeds.Starts id)) is = no_way is
aside_same h (acts.Deed (deeds.Settles id)) is = no_way is
aside_same h _ is = (refl, refl)

pub aside_heard : (h : Hearing) (told : List Act) → are_aside told ≡ true → heard_all h told ≡ h
aside_heard h [] is = refl
aside_heard h (act ∷ told) is =
    let same = (aside_same h act (and_parts (is_aside act) (are_aside told) is).0).0 in
    ap (λ (x : Hearing). heard_all x told) same ∙ aside_heard h told (and_parts (is_aside act) (are_aside told) is).1

pub aside_orderly : {P : ℕ → Type 0} (h : Hearing) (told : List Act) → are_aside told ≡ true → Orderly P h told
aside_orderly h [] is = ends
aside_orderly {P = P} h (act ∷ told) is =
    let same = aside_same h act (and_parts (is_aside act) (are_aside told) is).0 in
    goes_on same.1 (subst (λ (x : Hearing). Orderly P x told) (sym same.0) (aside_orderly h told (and_parts (is_aside act) (are_aside told) is).1))

pub aside_append : (a b : List Act) → are_aside a ≡ true → are_aside b ≡ true → are_aside (a ++ b) ≡ true
aside_append [] b one two = two
aside_append (act ∷ a) b one two = and_from (is_aside act) (are_aside (a ++ b)) (and_parts (is_aside act) (are_aside a) one).0 (aside_append a b (and_parts (is_aside act) (are_aside a) one).1 two)

-- ---- acts that leave the list of the machine as it is, and in which no board is said to have left

abbrev pub is_inner : Act → Bool
is_inner (acts.Deed (deeds.Leaves id)) = false
is_inner (acts.Inserts id) = false
is_inner (acts.Removes id) = false
is_inner (acts.Replaces old new) = false
is_inner (acts.Gives id to) = false
is_inner (acts.Gets id) = false
is_inner _ = true

abbrev pub are_inner : List Act → Bool
are_inner [] = true
are_inner (act ∷ told) = is_inner act && are_inner told

pub inner_append : (a b : List Act) → are_inner a ≡ true → are_inner b ≡ true → are_inner (a ++ b) ≡ true
inner_append [] b one two = two
inner_append (act ∷ a) b one two = and_from (is_inner act) (are_inner (a ++ b)) (and_parts (is_inner act) (are_inner a) one).0 (inner_append a b (and_parts (is_inner act) (are_inner a) one).1 two)

-- A RULE OF A LINK: what holds of it goes on through the acts of a machine, where what is sent on it and closed keeps that.
use Rattle.std.proofs.Common.{Bool, List, [], false, inl, inr, refl, subst, sym, true, ℕ, ◌∷◌, ◌≡◌, ◌≢◌, ◌⊎◌}
use Rattle.line_base.specs.declared.states.Side.{Side}
use Rattle.hermes_horizontal.specs.Canonical.{canonical}
use Rattle.hermes_horizontal.specs.declared.message.Message.{Message}
use Rattle.line_link.specs.Link.{LinkParts, after_answer, after_close, after_send, no_link}
use Rattle.node_core.specs.declared.act.Act.{Act}
use Rattle.node_core.specs.declared.act.Act.TheVariants as acts
use Rattle.node_core.specs.declared.act.Deed.{Deed}
use Rattle.node_core.specs.declared.act.Deed.TheVariants as deeds
use Rattle.line_step.specs.Acts.{act_did, acts_did, answers, closes_on, counted, sent_by}
use Rattle.line_step.specs.World.{WorldParts, end_of, link_at, link_of, with_link}
use Rattle.line_step.proofs.Numbers.{Written, link_set, link_set_other, nowhere, same_or_not, written}

-- one link of a world is written
pub link_keeps : (P : LinkParts → Type 0) → P no_link
    → (k link : ℕ) (parts : LinkParts) (world : WorldParts) → (k ≡ link → P parts)
    → (k ≢ link → P (link_at k world)) → P (link_at k (with_link link parts world))
link_keeps P none k link parts world here was = by (same_or_not k link)
  where
    own : k ≡ link → Written link parts world → P (link_at link (with_link link parts world))
    own is (written now) = subst P (sym now) (here is)
    own is (nowhere now then) = subst P (sym now) none

    by : (k ≡ link) ⊎ (k ≢ link) → P (link_at k (with_link link parts world))
    by (inl is) =
        subst (λ (n : ℕ). P (link_at n (with_link link parts world))) (sym is)
        (own is (link_set link parts world))
    by (inr apart) = subst P (sym (link_set_other link k parts world apart)) (was apart)

-- ---- what touches link k: where W holds of it, this keeps P

-- a message that is sent, or answers a second connection
abbrev pub SentKeeps : (LinkParts → Type 0) → (LinkParts → Type 0) → ℕ → Bool → ℕ → Side
    → Message → Type 0
SentKeeps W P k true machine side message =
    k ≡ machine → (link : LinkParts) → W link → P link → P (after_answer (canonical message) link)
SentKeeps W P k false machine side message =
    k ≡ link_of machine side → (link : LinkParts) → W link → P link
    → P (after_send (end_of side) (canonical message) link)

abbrev pub ClosedKeeps : (LinkParts → Type 0) → ℕ → ℕ → Side → Type 0
ClosedKeeps P k machine side =
    k ≡ link_of machine side → (link : LinkParts) → P link → P (after_close (end_of side) link)

-- no other act touches a link
abbrev pub ActKeeps : (LinkParts → Type 0) → (LinkParts → Type 0) → ℕ → Bool → ℕ → Act → Type 0
ActKeeps W P k second machine (acts.Sends side message) =
    SentKeeps W P k (answers second side message) machine side message
ActKeeps W P k second machine (acts.Closes side) = ClosedKeeps P k machine side
ActKeeps W P k second machine (acts.Notices side) = ClosedKeeps P k machine side
ActKeeps W P k second machine _ = Unit {0}

abbrev pub ActsKeep : (LinkParts → Type 0) → (LinkParts → Type 0) → ℕ → Bool → ℕ → List Act
    → Type 0
ActsKeep W P k second machine [] = Unit {0}
ActsKeep W P k second machine (act ∷ told) =
    ActKeeps W P k second machine act × ActsKeep W P k second machine told

-- ---- so it goes on

sent_keeps : (W P : LinkParts → Type 0) → P no_link
    → (k : ℕ) (test : Bool) (machine : ℕ) (side : Side) (message : Message) (world : WorldParts)
    → SentKeeps W P k test machine side message → W (link_at k world) → P (link_at k world)
    → P (link_at k (sent_by test machine side message world).world)
sent_keeps W P none k true machine side message world keeps whole was =
    link_keeps P none k machine (after_answer (canonical message) (link_at machine world)) world
    (λ is. keeps is (link_at machine world) (subst (λ (n : ℕ). W (link_at n world)) is whole)
    (subst (λ (n : ℕ). P (link_at n world)) is was)) (λ apart. was)
sent_keeps W P none k false machine side message world keeps whole was =
    let link : ℕ = link_of machine side in
    link_keeps P none k link
    (after_send (end_of side) (canonical message) (link_at link world)) world
    (λ is. keeps is (link_at link world) (subst (λ (n : ℕ). W (link_at n world)) is whole)
    (subst (λ (n : ℕ). P (link_at n world)) is was)) (λ apart. was)

closed_keeps : (P : LinkParts → Type 0) → P no_link
    → (k machine : ℕ) (side : Side) (world : WorldParts) → ClosedKeeps P k machine side
    → P (link_at k world) → P (link_at k (closes_on machine side world))
closed_keeps P none k machine side world keeps was =
    let link : ℕ = link_of machine side in
    link_keeps P none k link (after_close (end_of side) (link_at link world)) world
    (λ is. keeps is (link_at link world) (subst (λ (n : ℕ). P (link_at n world)) is was))
    (λ apart. was)

-- what is counted touches none
counted_links : (deed : Deed) (k : ℕ) (world : WorldParts)
    → link_at k world ≡ link_at k (counted deed world)
counted_links (deeds.Opens id) k world = refl
counted_links (deeds.Settles id) k world = refl
counted_links _ k world = refl

pub act_keeps : (W P : LinkParts → Type 0) → P no_link
    → (k : ℕ) (second : Bool) (machine : ℕ) (act : Act) (world : WorldParts)
    → ActKeeps W P k second machine act → W (link_at k world) → P (link_at k world)
    → P (link_at k (act_did second machine act world).world)
act_keeps W P none k second machine (acts.Sends side message) world keeps whole was =
    sent_keeps W P none k (answers second side message) machine side message world keeps whole was
act_keeps W P none k second machine (acts.Closes side) world keeps whole was =
    closed_keeps P none k machine side world keeps was
act_keeps W P none k second machine (acts.Notices side) world keeps whole was =
    closed_keeps P none k machine side world keeps was
act_keeps W P none k second machine (acts.Deed deed) world keeps whole was =
    subst P (counted_links deed k world) was
act_keeps W P none k second machine _ world keeps whole was = was

-- where each act keeps W
pub acts_keep : (W P : LinkParts → Type 0) → P no_link → (k : ℕ) (second : Bool) (machine : ℕ)
    → ((act : Act) (world : WorldParts) → W (link_at k world)
    → W (link_at k (act_did second machine act world).world))
    → (told : List Act) (world : WorldParts)
    → ActsKeep W P k second machine told → W (link_at k world) → P (link_at k world)
    → P (link_at k (acts_did second machine told world).world)
acts_keep W P none k second machine still [] world keeps whole was = was
acts_keep W P none k second machine still (act ∷ told) world keeps whole was =
    acts_keep W P none k second machine still told (act_did second machine act world).world keeps.1
    (still act world whole) (act_keeps W P none k second machine act world keeps.0 whole was)

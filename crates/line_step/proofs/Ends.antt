-- What acts do to the ends of links: a machine's own ends have connections as its acts say, and no other end changes.
use Rattle.std.proofs.Common.{◌≡◌, ◌≢◌, ◌⊎◌, ◌∙◌, inl, inr, ℕ, ◌-◌, Bool, true, false, List, [], ◌∷◌, Option, Some, None, refl, sym, ap, arith}
use Rattle.std.specs.Prelude.{cond, is_some}
use Rattle.line_base.specs.declared.states.Side.{Side}
use Rattle.line_base.specs.declared.states.Side.TheVariants.{Entry, Exit}
use Rattle.line_base.specs.declared.states.Role.{Role}
use Rattle.line_base.specs.declared.states.Role.TheVariants.{Upstream, Downstream}
use Rattle.hermes_horizontal.specs.Canonical.{canonical}
use Rattle.hermes_horizontal.specs.declared.message.Message.{Message}
use Rattle.line_link.specs.Link.{LinkParts, no_link, number_of, cut, across, is_too_much, within_limit, texted, after_send, after_answer, answer_of, after_close, after_flow, after_spoil, nulled}
use Rattle.node_core.specs.declared.act.Act.{Act}
use Rattle.node_core.specs.declared.act.Act.TheVariants as acts
use Rattle.node_core.specs.declared.act.Deed.{Deed}
use Rattle.node_core.specs.declared.act.Deed.TheVariants as deeds
use Rattle.line_step.specs.World.{WorldParts, end_of, link_at, link_of, with_link}
use Rattle.line_step.specs.Acts.{act_did, acts_did, answers, counted, sent_by}
use Rattle.step_rules.specs.Opened.{closed_at, open_act, open_after}
use Rattle.line_step.specs.Together.{is_linked}
use Rattle.line_step.proofs.Numbers.{Written, written, nowhere, link_set, link_set_other, same_or_not, none_or_one}

-- ---- what leaves the numbers of a link's ends

abbrev pub SameNumbers : LinkParts → LinkParts → Type 0
SameNumbers old new = (role : Role) → number_of role new ≡ number_of role old

same_cut : (test : Bool) (link : LinkParts) → SameNumbers link (cond test (cut link) link)
same_cut true link Upstream = refl
same_cut true link Downstream = refl
same_cut false link role = refl

same_within : (to : Role) (old link : LinkParts) → SameNumbers old link → SameNumbers old (within_limit to link)
same_within to old link same role = same_cut (is_too_much to link) link role ∙ same role

same_texted : (to : Role) (text : List ℕ) (link : LinkParts) → SameNumbers link (texted to text link)
same_texted to text link Upstream = refl
same_texted to text link Downstream = refl

same_sent : (test : Bool) (from : Role) (text : List ℕ) (link : LinkParts) → SameNumbers link (cond test (within_limit (across from) (texted (across from) text link)) link)
same_sent true from text link role = same_within (across from) link (texted (across from) text link) (same_texted (across from) text link) role
same_sent false from text link role = refl

pub same_send : (from : Role) (text : List ℕ) (link : LinkParts) → SameNumbers link (after_send from text link)
same_send from text link = same_sent link.stands from text link

same_answer_of : (number : Option ℕ) (text : List ℕ) (link : LinkParts) → SameNumbers link (answer_of number text link)
same_answer_of None text link role = refl
same_answer_of (Some n) text link role = same_within Downstream link (texted Downstream text link) (same_texted Downstream text link) role

pub same_answer : (text : List ℕ) (link : LinkParts) → SameNumbers link (after_answer text link)
same_answer text link = same_answer_of link.downstream text link

pub same_flow : (to : Role) (count : Option ℕ) (link : LinkParts) → SameNumbers link (after_flow to count link)
same_flow to count link Upstream = refl
same_flow to count link Downstream = refl

same_nulled : (to : Role) (link : LinkParts) → SameNumbers link (nulled to link)
same_nulled to link Upstream = refl
same_nulled to link Downstream = refl

pub same_spoil : (to : Role) (link : LinkParts) → SameNumbers link (after_spoil to link)
same_spoil to link = same_within to link (nulled to link) (same_nulled to link)

pub same_cut_off : (link : LinkParts) → SameNumbers link (cut link)
same_cut_off link = same_cut true link

-- ---- one link changes

-- the number of an end anywhere, where one link's ends keep theirs
same_at : (link : ℕ) (parts : LinkParts) (world : WorldParts) → SameNumbers (link_at link world) parts → Written link parts world → (role : Role) → number_of role (link_at link (with_link link parts world)) ≡ number_of role (link_at link world)
same_at link parts world same (written is) role = ap (number_of role) is ∙ same role
same_at link parts world same (nowhere is was) role = ap (number_of role) is ∙ sym (ap (number_of role) was)

pub same_ends : (link : ℕ) (parts : LinkParts) (world : WorldParts) → SameNumbers (link_at link world) parts → (machine : ℕ) (side : Side) → is_linked machine side (with_link link parts world) ≡ is_linked machine side world
same_ends link parts world same machine side =
    let role = end_of side in
    elim (same_or_not (link_of machine side) link) [
      | inl is ↦ ap (λ (n : ℕ). is_some (number_of role (link_at n (with_link link parts world)))) is ∙ ap (λ (number : Option ℕ). is_some number) (same_at link parts world same (link_set link parts world) role) ∙ ap (λ (n : ℕ). is_some (number_of role (link_at n world))) (sym is)
      | inr apart ↦ ap (λ (l : LinkParts). is_some (number_of role l)) (link_set_other link (link_of machine side) parts world apart)
    ]

-- ---- an end closes

pub no_number : (role : Role) → is_some (number_of role no_link) ≡ false
no_number Upstream = refl
no_number Downstream = refl

number_closed : (role : Role) (link : LinkParts) → is_some (number_of role (after_close role link)) ≡ false
number_closed Upstream link = refl
number_closed Downstream link = refl

-- the closed end has no connection
closed_own : (link : ℕ) (role : Role) (world : WorldParts) → Written link (after_close role (link_at link world)) world → is_some (number_of role (link_at link (with_link link (after_close role (link_at link world)) world))) ≡ false
closed_own link role world (written is) = ap (λ (l : LinkParts). is_some (number_of role l)) is ∙ number_closed role (link_at link world)
closed_own link role world (nowhere is was) = ap (λ (l : LinkParts). is_some (number_of role l)) is ∙ no_number role

-- the other end of any link is as it was
across_closed : (role : Role) (link : LinkParts) → number_of (across role) (after_close role link) ≡ number_of (across role) link
across_closed Upstream link = refl
across_closed Downstream link = refl

across_at : (link : ℕ) (role : Role) (world : WorldParts) → Written link (after_close role (link_at link world)) world → number_of (across role) (link_at link (with_link link (after_close role (link_at link world)) world)) ≡ number_of (across role) (link_at link world)
across_at link role world (written is) = ap (number_of (across role)) is ∙ across_closed role (link_at link world)
across_at link role world (nowhere is was) = ap (number_of (across role)) is ∙ sym (ap (number_of (across role)) was)

across_stays : (link : ℕ) (role : Role) (world : WorldParts) (n : ℕ) → is_some (number_of (across role) (link_at n (with_link link (after_close role (link_at link world)) world))) ≡ is_some (number_of (across role) (link_at n world))
across_stays link role world n =
    let after = with_link link (after_close role (link_at link world)) world in
    elim (same_or_not n link) [
      | inl is ↦ ap (λ (k : ℕ). is_some (number_of (across role) (link_at k after))) is ∙ ap (λ (number : Option ℕ). is_some number) (across_at link role world (link_set link (after_close role (link_at link world)) world)) ∙ ap (λ (k : ℕ). is_some (number_of (across role) (link_at k world))) (sym is)
      | inr apart ↦ ap (λ (l : LinkParts). is_some (number_of (across role) l)) (link_set_other link n (after_close role (link_at link world)) world apart)
    ]

-- a machine closes its end at a side
abbrev closed_by : ℕ → Side → WorldParts → WorldParts
closed_by machine side world = with_link (link_of machine side) (after_close (end_of side) (link_at (link_of machine side) world)) world

own_closed : (machine : ℕ) (at side : Side) (world : WorldParts) → is_linked machine at (closed_by machine side world) ≡ closed_at at side (is_linked machine at world)
own_closed machine Entry Entry world = closed_own (machine - 1) Downstream world (link_set (machine - 1) (after_close Downstream (link_at (machine - 1) world)) world)
own_closed machine Entry Exit world = across_stays machine Upstream world (machine - 1)
own_closed machine Exit Entry world = across_stays (machine - 1) Downstream world machine
own_closed machine Exit Exit world = closed_own machine Upstream world (link_set machine (after_close Upstream (link_at machine world)) world)

-- the links before two machines are two, unless there is none before one of them
entry_apart : (machine other : ℕ) → other ≢ machine → (machine - 1 ≡ 0) ⊎ (other - 1 ≢ machine - 1)
entry_apart machine other apart = elim (none_or_one (machine - 1)) [ inl none ↦ inl none | inr more ↦ inr (omega arith) ]

entry_other : (machine other : ℕ) (world : WorldParts) → other ≢ machine → is_linked other Entry (closed_by machine Entry world) ≡ is_linked other Entry world
entry_other machine other world apart =
    elim (entry_apart machine other apart) [
      | inl none ↦ rw none refl
      | inr two ↦ ap (λ (l : LinkParts). is_some (number_of Downstream l)) (link_set_other (machine - 1) (other - 1) (after_close Downstream (link_at (machine - 1) world)) world two)
    ]

other_closed : (machine : ℕ) (side : Side) (world : WorldParts) (other : ℕ) (at : Side) → other ≢ machine → is_linked other at (closed_by machine side world) ≡ is_linked other at world
other_closed machine Entry world other Entry apart = entry_other machine other world apart
other_closed machine Exit world other Entry apart = across_stays machine Upstream world (other - 1)
other_closed machine Entry world other Exit apart = across_stays (machine - 1) Downstream world other
other_closed machine Exit world other Exit apart = ap (λ (l : LinkParts). is_some (number_of Upstream l)) (link_set_other machine other (after_close Upstream (link_at machine world)) world apart)

-- ---- an act

counted_links : (deed : Deed) (world : WorldParts) (machine : ℕ) (side : Side) → is_linked machine side (counted deed world) ≡ is_linked machine side world
counted_links (deeds.Opens id) world machine side = refl
counted_links _ world machine side = refl

sent_links : (second : Bool) (machine : ℕ) (side : Side) (message : Message) (world : WorldParts) (other : ℕ) (at : Side) → is_linked other at (sent_by second machine side message world).world ≡ is_linked other at world
sent_links true machine side message world other at = same_ends machine (after_answer (canonical message) (link_at machine world)) world (same_answer (canonical message) (link_at machine world)) other at
sent_links false machine side message world other at =
    let link = link_at (link_of machine side) world in
    same_ends (link_of machine side) (after_send (end_of side) (canonical message) link) world (same_send (end_of side) (canonical message) link) other at

own_act_end : (second : Bool) (machine : ℕ) (act : Act) (world : WorldParts) (at : Side) → is_linked machine at (act_did second machine act world).world ≡ open_act at (is_linked machine at world) act
own_act_end second machine (acts.Sends side message) world at = sent_links (answers second side message) machine side message world machine at
own_act_end second machine (acts.Closes side) world at = own_closed machine at side world
own_act_end second machine (acts.Notices side) world at = own_closed machine at side world
own_act_end second machine (acts.Deed deed) world at = counted_links deed world machine at
own_act_end second machine act world at = refl

other_act_end : (second : Bool) (machine : ℕ) (act : Act) (world : WorldParts) (other : ℕ) (at : Side) → other ≢ machine → is_linked other at (act_did second machine act world).world ≡ is_linked other at world
other_act_end second machine (acts.Sends side message) world other at apart = sent_links (answers second side message) machine side message world other at
other_act_end second machine (acts.Closes side) world other at apart = other_closed machine side world other at apart
other_act_end second machine (acts.Notices side) world other at apart = other_closed machine side world other at apart
other_act_end second machine (acts.Deed deed) world other at apart = counted_links deed world other at
other_act_end second machine act world other at apart = refl

-- ---- all acts

pub own_end : (second : Bool) (machine : ℕ) (told : List Act) (world : WorldParts) (side : Side) → is_linked machine side (acts_did second machine told world).world ≡ open_after side (is_linked machine side world) told
own_end second machine [] world side = refl
own_end second machine (act ∷ others) world side =
    own_end second machine others (act_did second machine act world).world side ∙ ap (λ (o : Bool). open_after side o others) (own_act_end second machine act world side)

pub other_end : (second : Bool) (machine : ℕ) (told : List Act) (world : WorldParts) (other : ℕ) (side : Side) → other ≢ machine → is_linked other side (acts_did second machine told world).world ≡ is_linked other side world
other_end second machine [] world other side apart = refl
other_end second machine (act ∷ others) world other side apart =
    other_end second machine others (act_did second machine act world).world other side apart ∙ other_act_end second machine act world other side apart

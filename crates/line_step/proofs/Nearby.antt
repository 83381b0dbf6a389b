-- What the acts of a machine do to what they reach, and that it is all that they do there.
use Rattle.std.proofs.Common.{◌≡◌, ◌≢◌, ◌⊎◌, ◌∙◌, inl, inr, ℕ, ◌-◌, ◌<◌, ◌≤◌, ◌&&◌, ◌++◌, Bool, true, false, List, [], ◌∷◌, length, refl, sym, ap, arith, append_assoc}
use Rattle.std.specs.Prelude.{nat_le}
use Rattle.std.proofs.lemmas.Bool.{leb-true}
use Rattle.line_base.specs.declared.states.Side.{Side}
use Rattle.line_base.specs.declared.states.Side.TheVariants.{Entry, Exit}
use Rattle.line_base.specs.declared.states.Role.{Role}
use Rattle.line_base.specs.declared.states.Role.TheVariants.{Upstream, Downstream}
use Rattle.hermes_horizontal.specs.Canonical.{canonical}
use Rattle.hermes_horizontal.specs.declared.message.Message.{Message}
use Rattle.line_link.specs.Link.{LinkParts, after_answer, after_close, after_send, no_link}
use Rattle.line_world.specs.FloorPlan.{AtMachine, FloorPlan, gap_at, machine_at, with_drive, with_gap, with_machine}
use Rattle.line_world.specs.declared.gap.AtGap.{AtGap}
use Rattle.node_core.specs.declared.act.Act.{Act}
use Rattle.node_core.specs.declared.act.Act.TheVariants as acts
use Rattle.node_core.specs.declared.act.Deed.{Deed}
use Rattle.node_core.specs.declared.act.Deed.TheVariants as deeds
use Rattle.line_report.specs.declared.happening.Happening.{Happening}
use Rattle.line_step.specs.World.{WorldParts, end_of, link_at, link_of, with_floor, with_link}
use Rattle.line_step.specs.Acts.{act_did, acts_did, answers, counted, sent_by}
use Rattle.line_step.specs.Near.{HasPlace, Near, at_side, has_gap_at, near_at, near_did, near_driven, near_sent, nears_did, with_link_at, with_side}
use Rattle.line_step.proofs.Numbers.{Written, written, nowhere, floor_stays, link_set, link_set_other}
use Rattle.line_step.proofs.Floors.{gap_other, gap_own, gap_past, gaps_stay, place_own, places_stay}
use Rattle.line_step.proofs.Counting.{act_same_world}

same_near : (place place2 : AtMachine) (link link2 below below2 : LinkParts) (gap gap2 under under2 : AtGap) → place2 ≡ place → link2 ≡ link → gap2 ≡ gap → below2 ≡ below → under2 ≡ under
    → ◌≡◌ {A = Near} (record { place = place2; above = record { link = link2; gap = gap2 }; below = record { link = below2; gap = under2 } }) (record { place = place; above = record { link = link; gap = gap }; below = record { link = below; gap = under } })
same_near place place2 link link2 below below2 gap gap2 under under2 a b c d e = cc

-- ---- a link

-- a change that makes nothing of no link is done, whether there is a link or none
kept_none : (link : ℕ) (world : WorldParts) (parts : LinkParts) → (link_at link world ≡ no_link → parts ≡ no_link) → Written link parts world → link_at link (with_link link parts world) ≡ parts
kept_none link world parts none (written is) = is
kept_none link world parts none (nowhere is was) = is ∙ sym (none was)

link_near : (machine : ℕ) (side : Side) (parts : LinkParts) (world : WorldParts) → 1 ≤ machine → (link_at (link_of machine side) world ≡ no_link → parts ≡ no_link)
    → near_at machine (with_link (link_of machine side) parts world) ≡ with_link_at side parts (near_at machine world)
link_near machine Entry parts world counted none =
    let floor = floor_stays (machine - 1) parts world in
    let apart : machine ≢ machine - 1 = omega arith in
    same_near _ _ _ _ _ _ _ _ _ _ (ap (λ (f : FloorPlan). machine_at f machine) floor) (kept_none (machine - 1) world parts none (link_set (machine - 1) parts world)) (ap (λ (f : FloorPlan). gap_at f (machine - 1)) floor)
    (link_set_other (machine - 1) machine parts world apart) (ap (λ (f : FloorPlan). gap_at f machine) floor)
link_near machine Exit parts world counted none =
    let floor = floor_stays machine parts world in
    let apart : machine - 1 ≢ machine = omega arith in
    same_near _ _ _ _ _ _ _ _ _ _ (ap (λ (f : FloorPlan). machine_at f machine) floor) (link_set_other machine (machine - 1) parts world apart) (ap (λ (f : FloorPlan). gap_at f (machine - 1)) floor)
    (kept_none machine world parts none (link_set machine parts world)) (ap (λ (f : FloorPlan). gap_at f machine) floor)

none_sends : (from : Role) (text : List ℕ) (link : LinkParts) → link ≡ no_link → after_send from text link ≡ no_link
none_sends from text link is = rw is refl

none_answers : (text : List ℕ) (link : LinkParts) → link ≡ no_link → after_answer text link ≡ no_link
none_answers text link is = rw is refl

none_closes : (role : Role) (link : LinkParts) → link ≡ no_link → after_close role link ≡ no_link
none_closes Upstream link is = rw is refl
none_closes Downstream link is = rw is refl

-- ---- a gap

gap_there : (one two : Bool) (link count : ℕ) → nat_le 1 link ≡ one → nat_le link count ≡ two → (one && two) ≡ true → (1 ≤ link) × (link ≤ count)
gap_there true true link count x y both = (leb-true 1 link x, leb-true link count y)
gap_there true false link count x y both = absurd (cc)
gap_there false two link count x y both = absurd (cc)

gap_gone : (one two : Bool) (link count : ℕ) → nat_le 1 link ≡ one → nat_le link count ≡ two → (one && two) ≡ false → (link ≡ 0) ⊎ (count < link)
gap_gone true true link count x y both = absurd (cc)
gap_gone true false link count x y both = inr (grind (arith, y))
gap_gone false two link count x y both = inl (grind (arith, x))

gap_stays : (plan : FloorPlan) (gap : ℕ) (now : AtGap) → (gap ≡ 0) ⊎ (length plan.gaps < gap) → gap_at (with_gap plan gap now) gap ≡ gap_at plan gap
gap_stays plan gap now (inl none) = rw none refl
gap_stays plan gap now (inr behind) = gap_past plan gap now behind

-- the gap of a side, where there is one
abbrev near_set : Bool → Side → AtGap → Near → Near
near_set true side gap near = with_side side (record (at_side side near) { gap = gap }) near
near_set false side gap near = near

gap_near : (machine : ℕ) (side : Side) (now : AtGap) (world : WorldParts) (has : Bool) → 1 ≤ machine → has_gap_at machine world.floor side ≡ has
    → near_at machine (with_floor (with_gap world.floor (link_of machine side) now) world) ≡ near_set has side now (near_at machine world)
gap_near machine Entry now world true counted is =
    let there = gap_there _ _ (machine - 1) (length world.floor.gaps) refl refl is in
    let apart : machine ≢ machine - 1 = omega arith in
    same_near _ _ _ _ _ _ _ _ _ _ (places_stay world.floor (machine - 1) machine now) refl (gap_own world.floor (machine - 1) now there.0 there.1) refl (gap_other world.floor (machine - 1) machine now apart)
gap_near machine Exit now world true counted is =
    let there = gap_there _ _ machine (length world.floor.gaps) refl refl is in
    let apart : machine - 1 ≢ machine = omega arith in
    same_near _ _ _ _ _ _ _ _ _ _ (places_stay world.floor machine machine now) refl (gap_other world.floor machine (machine - 1) now apart) refl (gap_own world.floor machine now there.0 there.1)
gap_near machine Entry now world false counted is =
    let gone = gap_gone _ _ (machine - 1) (length world.floor.gaps) refl refl is in
    let apart : machine ≢ machine - 1 = omega arith in
    same_near _ _ _ _ _ _ _ _ _ _ (places_stay world.floor (machine - 1) machine now) refl (gap_stays world.floor (machine - 1) now gone) refl (gap_other world.floor (machine - 1) machine now apart)
gap_near machine Exit now world false counted is =
    let gone = gap_gone _ _ machine (length world.floor.gaps) refl refl is in
    let apart : machine - 1 ≢ machine = omega arith in
    same_near _ _ _ _ _ _ _ _ _ _ (places_stay world.floor machine machine now) refl (gap_other world.floor machine (machine - 1) now apart) refl (gap_stays world.floor machine now gone)

-- ---- the machine's own place

place_near : (machine : ℕ) (now : AtMachine) (world : WorldParts) → 1 ≤ machine → machine ≤ length world.floor.machines
    → near_at machine (with_floor (with_machine world.floor machine now) world) ≡ record (near_at machine world) { place = now }
place_near machine now world counted within =
    same_near _ _ _ _ _ _ _ _ _ _ (place_own world.floor machine now counted within) refl (gaps_stay world.floor machine (machine - 1) now) refl (gaps_stay world.floor machine machine now)

-- ---- an act

counted_near : (machine : ℕ) (deed : Deed) (world : WorldParts) → near_at machine (counted deed world) ≡ near_at machine world
counted_near machine (deeds.Opens id) world = refl
counted_near machine _ world = refl

sent_near : (second : Bool) (machine : ℕ) (side : Side) (message : Message) (world : WorldParts) → 1 ≤ machine → near_at machine (sent_by second machine side message world).world ≡ near_sent second side (canonical message) (near_at machine world)
sent_near true machine side message world counted = link_near machine Exit (after_answer (canonical message) (link_at machine world)) world counted (none_answers (canonical message) (link_at machine world))
sent_near false machine Entry message world counted =
    let link = link_at (machine - 1) world in
    link_near machine Entry (after_send Downstream (canonical message) link) world counted (none_sends Downstream (canonical message) link)
sent_near false machine Exit message world counted =
    let link = link_at machine world in
    link_near machine Exit (after_send Upstream (canonical message) link) world counted (none_sends Upstream (canonical message) link)

closed_near : (machine : ℕ) (side : Side) (world : WorldParts) → 1 ≤ machine
    → near_at machine (with_link (link_of machine side) (after_close (end_of side) (link_at (link_of machine side) world)) world) ≡ with_link_at side (after_close (end_of side) (at_side side (near_at machine world)).link) (near_at machine world)
closed_near machine Entry world counted = link_near machine Entry (after_close Downstream (link_at (machine - 1) world)) world counted (none_closes Downstream (link_at (machine - 1) world))
closed_near machine Exit world counted = link_near machine Exit (after_close Upstream (link_at machine world)) world counted (none_closes Upstream (link_at machine world))

set_driven : (has : Bool) (side : Side) (on : Bool) (near : Near) → near_set has side (with_drive (at_side side near).gap side on) near ≡ near_driven has side on near
set_driven true side on near = refl
set_driven false side on near = refl

driven_near : (machine : ℕ) (side : Side) (on : Bool) (world : WorldParts) (has : Bool) → 1 ≤ machine → has_gap_at machine world.floor side ≡ has
    → near_at machine (with_floor (with_gap world.floor (link_of machine side) (with_drive (gap_at world.floor (link_of machine side)) side on)) world) ≡ near_driven has side on (near_at machine world)
driven_near machine Entry on world has counted is = gap_near machine Entry (with_drive (gap_at world.floor (machine - 1)) Entry on) world has counted is ∙ set_driven has Entry on (near_at machine world)
driven_near machine Exit on world has counted is = gap_near machine Exit (with_drive (gap_at world.floor machine) Exit on) world has counted is ∙ set_driven has Exit on (near_at machine world)

act_near : (has : Side → Bool) (second : Bool) (machine : ℕ) (act : Act) (world : WorldParts) → HasPlace machine has world → near_at machine (act_did second machine act world).world ≡ near_did has second act (near_at machine world)
act_near has second machine (acts.Sends side message) world at = sent_near (answers second side message) machine side message world at.counted
act_near has second machine (acts.Closes side) world at = closed_near machine side world at.counted
act_near has second machine (acts.Notices side) world at = closed_near machine side world at.counted
act_near has second machine (acts.Drive side on) world at = driven_near machine side on world (has side) at.counted (at.gaps side)
act_near has second machine (acts.Deed deed) world at = counted_near machine deed world
act_near has second machine (acts.Inserts id) world at = place_near machine _ world at.counted at.within
act_near has second machine (acts.Removes id) world at = place_near machine _ world at.counted at.within
act_near has second machine (acts.Replaces old new) world at = place_near machine _ world at.counted at.within
act_near has second machine (acts.Gives id to) world at = place_near machine _ world at.counted at.within
act_near has second machine (acts.Gets id) world at = place_near machine _ world at.counted at.within
act_near has second machine act world at = refl

-- ---- all acts

has_gaps : (machine : ℕ) (old new : FloorPlan) → length new.gaps ≡ length old.gaps → (side : Side) → has_gap_at machine new side ≡ has_gap_at machine old side
has_gaps machine old new same side = ap (λ (count : ℕ). nat_le 1 (link_of machine side) && nat_le (link_of machine side) count) same

pub acts_near : (has : Side → Bool) (second : Bool) (machine : ℕ) (told : List Act) (world : WorldParts) → HasPlace machine has world → near_at machine (acts_did second machine told world).world ≡ nears_did has second told (near_at machine world)
acts_near has second machine [] world at = refl
acts_near has second machine (act ∷ others) world at =
    let one = (act_did second machine act world).world in
    let same = act_same_world second machine act world in
    let within = at.within in
    let places = same.floor in
    let there : HasPlace machine has one = record { counted = at.counted; within = omega arith; gaps = λ side. has_gaps machine world.floor one.floor same.gaps side ∙ at.gaps side } in
    acts_near has second machine others one there ∙ ap (λ (near : Near). nears_did has second others near) (act_near has second machine act world at)

-- acts one behind the other
pub acts_append : (second : Bool) (machine : ℕ) (a b : List Act) (world : WorldParts) → (acts_did second machine (a ++ b) world).world ≡ (acts_did second machine b (acts_did second machine a world).world).world
acts_append second machine [] b world = refl
acts_append second machine (act ∷ others) b world = acts_append second machine others b (act_did second machine act world).world

pub acts_told_append : (second : Bool) (machine : ℕ) (a b : List Act) (world : WorldParts)
    → (acts_did second machine (a ++ b) world).told ≡ (acts_did second machine a world).told ++ (acts_did second machine b (acts_did second machine a world).world).told
acts_told_append second machine [] b world = refl
acts_told_append second machine (act ∷ others) b world =
    let one = act_did second machine act world in
    ap (λ (more : List Happening). one.told ++ more) (acts_told_append second machine others b one.world)
    ∙ sym (append_assoc one.told (acts_did second machine others one.world).told (acts_did second machine b (acts_did second machine others one.world).world).told)

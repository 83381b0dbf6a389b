-- What a machine's step comes to in its scene: the line behind the acts is as the scene has it, each link cut or not.
use Rattle.std.proofs.Common.{Bool, List, [], ap, false, refl, subst, sym, true, ℕ, ◌+◌, ◌-◌, ◌∙◌, ◌≡◌, arith}
use Rattle.std.specs.Prelude.{cond}
use Rattle.std.proofs.lemmas.Bool.{false≢true}
use Rattle.line_base.specs.declared.states.Side.{Side}
use Rattle.line_base.specs.declared.states.Side.TheVariants.{Entry, Exit}
use Rattle.hermes_horizontal.specs.declared.message.Horizontal.{Horizontal}
use Rattle.line_world.specs.FloorPlan.{gap_at, machine_at}
use Rattle.line_world.specs.declared.gap.AtGap.{AtGap}
use Rattle.line_link.specs.Flow.{Stream, is_begun}
use Rattle.line_link.specs.Link.{AreBegun, LinkParts, across, flow_to}
use Rattle.law_machine_custody.specs.Scene.{Scene}
use Rattle.line_step.specs.Near.{Near, near_at}
use Rattle.line_step.specs.State.{LineState}
use Rattle.line_step.specs.World.{end_of, link_at}
use Rattle.law_one_standing.specs.Carried.{Carries, carries_over}
use Rattle.law_one_standing.specs.Mirrors.{cut_above, cut_below}
use Rattle.law_one_standing.proofs.CarryingActs.{IsLike}
use Rattle.law_one_standing.proofs.CarryingSides.{Home, Joint, home_closes, home_hears, joint_as, joint_cut, joint_none}

-- ---- a side behind all acts

pub record Ends (side : Side) (has cut : Bool) (new far : List ℕ) (link : LinkParts) (gap : AtGap) (stands : Bool) (now : AtGap) (home away : List Horizontal) : Type 0 where
  pub is_on : has ≡ true → link.stands ≡ cond cut false stands
  pub same : has ≡ true → gap ≡ now
  pub comes : has ≡ true → Carries (cond cut false stands) new (flow_to (end_of side) link) (cond cut [] home)
  pub goes : has ≡ true → Carries (cond cut false stands) far (flow_to (across (end_of side)) link) (cond cut [] away)
  pub begun : has ≡ true → is_begun (flow_to (across (end_of side)) link).texts (flow_to (across (end_of side)) link).arrived ≡ true
  pub begun_home : has ≡ true → is_begun (flow_to (end_of side) link).texts (flow_to (end_of side) link).arrived ≡ true

home_ends : {stands : Bool} {new : List ℕ} {stream : Stream} {home : List Horizontal} (side : Side) → Home side [] stands new stream home → Carries stands new stream home
home_ends side (home_hears k) = k
home_ends side (home_closes closes) = absurd (false≢true (sym closes))

-- where there is no link, nothing is asked
pub vacuous : {X : Type 0} {has : Bool} → has ≡ false → has ≡ true → X
vacuous none there = absurd (false≢true (sym none ∙ there))

pub ends_of : {has stands : Bool} {new far : List ℕ} {link : LinkParts} {gap now : AtGap} {home away : List Horizontal} (side : Side) → Joint side has [] new far link gap stands now home away
    → (cut : Bool) × Ends side has cut new far link gap stands now home away
ends_of side (joint_none none) = (false, record { is_on = λ there. vacuous none there; same = λ there. vacuous none there; comes = λ there. vacuous none there; goes = λ there. vacuous none there; begun = λ there. vacuous none there; begun_home = λ there. vacuous none there })
ends_of side (joint_as has k) = (false, record { is_on = λ there. k.is_on; same = λ there. k.same; comes = λ there. home_ends side k.comes; goes = λ there. k.goes; begun = λ there. k.begun; begun_home = λ there. k.begun_home })
ends_of side (joint_cut has k) = (true, record { is_on = λ there. k.is_off; same = λ there. k.same; comes = λ there. carries_over refl k.comes; goes = λ there. carries_over refl k.goes; begun = λ there. k.begun; begun_home = λ there. k.begun_home })

-- ---- the scene with its links cut or not

abbrev both_cut : Bool → Bool → Scene → Scene
both_cut a b c = record c {
  above = record c.above { stands = cond a false c.above.stands; up = cond a [] c.above.up; down = cond a [] c.above.down };
  below = record c.below { stands = cond b false c.below.stands; up = cond b [] c.below.up; down = cond b [] c.below.down };
}

both_are : (a b : Bool) (c : Scene) → cut_below b (cut_above a c) ≡ both_cut a b c
both_are true true c = refl
both_are true false c = refl
both_are false true c = refl
both_are false false c = refl

-- ---- the line behind the step

pub before_one : (j : ℕ) → j + 1 - 1 ≡ j
before_one j = omega arith

-- the links of a machine by number, as what is near it has them
above_link : (j : ℕ) (s : LineState) (near : Near) → near_at (j + 1) s.world ≡ near → link_at j s.world ≡ near.above.link
above_link j s near is = ap (λ (k : ℕ). link_at k s.world) (sym (before_one j)) ∙ ap (λ (n : Near). n.above.link) is

above_gap : (j : ℕ) (s : LineState) (near : Near) → near_at (j + 1) s.world ≡ near → gap_at s.world.floor j ≡ near.above.gap
above_gap j s near is = ap (λ (k : ℕ). gap_at s.world.floor k) (sym (before_one j)) ∙ ap (λ (n : Near). n.above.gap) is

-- the line is as this scene has it around machine j + 1, which has read all events, with these bytes waiting at the ends of
-- its links: at its own two, and at the far ones. A side without a link may be any
pub record IsAround (j : ℕ) (has : Side → Bool) (new_entry new_exit far_above far_below : List ℕ) (after : LineState) (d : Scene) : Type 0 where
  pub place : machine_at after.world.floor (j + 1) ≡ record { boards = d.boards; unread = [] }
  pub stands_above : has Entry ≡ true → (link_at j after.world).stands ≡ d.above.stands
  pub gap_above : has Entry ≡ true → gap_at after.world.floor j ≡ d.above.gap
  pub up_above : has Entry ≡ true → Carries d.above.stands far_above (link_at j after.world).flows.to_upstream d.above.up
  pub down_above : has Entry ≡ true → Carries d.above.stands new_entry (link_at j after.world).flows.to_downstream d.above.down
  pub begun_above : has Entry ≡ true → AreBegun (link_at j after.world).flows
  pub stands_below : has Exit ≡ true → (link_at (j + 1) after.world).stands ≡ d.below.stands
  pub gap_below : has Exit ≡ true → gap_at after.world.floor (j + 1) ≡ d.below.gap
  pub up_below : has Exit ≡ true → Carries d.below.stands new_exit (link_at (j + 1) after.world).flows.to_upstream d.below.up
  pub down_below : has Exit ≡ true → Carries d.below.stands far_below (link_at (j + 1) after.world).flows.to_downstream d.below.down
  pub begun_below : has Exit ≡ true → AreBegun (link_at (j + 1) after.world).flows

around_by : {new_entry new_exit far_above far_below : List ℕ} (j : ℕ) (has : Side → Bool) (after : LineState) (near : Near) (c : Scene) (a b : Bool) → near_at (j + 1) after.world ≡ near → near.place ≡ record { boards = c.boards; unread = [] }
    → Ends Entry (has Entry) a new_entry far_above near.above.link near.above.gap c.above.stands c.above.gap c.above.down c.above.up
    → Ends Exit (has Exit) b new_exit far_below near.below.link near.below.gap c.below.stands c.below.gap c.below.up c.below.down
    → IsAround j has new_entry new_exit far_above far_below after (both_cut a b c)
around_by {new_entry = ne} {new_exit = nx} {far_above = fa} {far_below = fb} j has after near c a b is place above below =
    let link_a : link_at j after.world ≡ near.above.link = above_link j after near is in
    let link_b : link_at (j + 1) after.world ≡ near.below.link = ap (λ (n : Near). n.below.link) is in
    record {
      place = ap (λ (n : Near). n.place) is ∙ place;
      stands_above = λ there. ap (λ (l : LinkParts). l.stands) link_a ∙ above.is_on there;
      gap_above = λ there. above_gap j after near is ∙ above.same there;
      up_above = λ there. subst (λ (l : LinkParts). Carries (cond a false c.above.stands) fa l.flows.to_upstream (cond a [] c.above.up)) (sym link_a) (above.goes there);
      down_above = λ there. subst (λ (l : LinkParts). Carries (cond a false c.above.stands) ne l.flows.to_downstream (cond a [] c.above.down)) (sym link_a) (above.comes there);
      begun_above = λ there. subst (λ (l : LinkParts). AreBegun l.flows) (sym link_a) (record { upstream = above.begun there; downstream = above.begun_home there });
      stands_below = λ there. ap (λ (l : LinkParts). l.stands) link_b ∙ below.is_on there;
      gap_below = λ there. ap (λ (n : Near). n.below.gap) is ∙ below.same there;
      up_below = λ there. subst (λ (l : LinkParts). Carries (cond b false c.below.stands) nx l.flows.to_upstream (cond b [] c.below.up)) (sym link_b) (below.comes there);
      down_below = λ there. subst (λ (l : LinkParts). Carries (cond b false c.below.stands) fb l.flows.to_downstream (cond b [] c.below.down)) (sym link_b) (below.goes there);
      begun_below = λ there. subst (λ (l : LinkParts). AreBegun l.flows) (sym link_b) (record { upstream = below.begun_home there; downstream = below.begun there });
    }

-- the cuts, and that the line is so
pub record Reaches (j : ℕ) (has : Side → Bool) (new_entry new_exit far_above far_below : List ℕ) (after : LineState) (c : Scene) : Type 0 where
  pub a : Bool
  pub b : Bool
  pub around : IsAround j has new_entry new_exit far_above far_below after (cut_below b (cut_above a c))

pub reaches : {new_entry new_exit far_above far_below : List ℕ} (j : ℕ) (after : LineState) (has : Side → Bool) (near : Near) (c : Scene) → near_at (j + 1) after.world ≡ near
    → IsLike has [] new_entry new_exit far_above far_below near c → Reaches j has new_entry new_exit far_above far_below after c
reaches {new_entry = ne} {new_exit = nx} {far_above = fa} {far_below = fb} j after has near c is k =
    let above = ends_of Entry k.above in
    let below = ends_of Exit k.below in
    record { a = above.0; b = below.0; around = subst (λ (d : Scene). IsAround j has ne nx fa fb after d) (sym (both_are above.0 below.0 c)) (around_by j has after near c above.0 below.0 is k.place above.1 below.1) }

-- with other names for the bytes
pub around_same : {ne nx fa fb ne2 nx2 fa2 fb2 : List ℕ} (j : ℕ) (has : Side → Bool) (after : LineState) (d : Scene) → ne ≡ ne2 → nx ≡ nx2 → fa ≡ fa2 → fb ≡ fb2 → IsAround j has ne nx fa fb after d → IsAround j has ne2 nx2 fa2 fb2 after d
around_same {ne = ne} {nx = nx} {fa = fa} {fb = fb} {ne2 = ne2} {nx2 = nx2} {fa2 = fa2} {fb2 = fb2} j has after d w x y z k =
    subst (λ (b : List ℕ). IsAround j has ne2 nx2 fa2 b after d) z (subst (λ (b : List ℕ). IsAround j has ne2 nx2 b fb after d) y (subst (λ (b : List ℕ). IsAround j has ne2 b fa fb after d) x (subst (λ (b : List ℕ). IsAround j has b nx fa fb after d) w k)))

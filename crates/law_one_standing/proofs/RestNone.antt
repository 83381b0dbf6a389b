-- A line without a machine stands in the relation, with a trace of nothing.
use Rattle.std.proofs.Common.{Bool, [], ap, arith, false, refl, subst, suc, sym, true, zero, ℕ, ◌+◌, ◌≡◌, ◌≤◌}
use Rattle.std.specs.Prelude.{cond, nat_lt}
use Rattle.std.proofs.lemmas.Bool.Decides.{nat_tests}
use Rattle.law_one_standing.proofs.WholeLinks.{whole_none}
use Rattle.law_one_standing.proofs.ApartFloor.{no_later}
use Rattle.line_base.specs.Text.{IsText}
use Rattle.line_link.specs.Link.{LinkParts, no_link}
use Rattle.line_world.specs.FloorPlan.{AtMachine, empty_machine, free_gap, gap_at, machine_at, no_floor}
use Rattle.line_world.specs.declared.gap.AtGap.{AtGap}
use Rattle.line_world.specs.declared.gap.Gap.TheVariants as gaps
use Rattle.node_core.specs.Node.{NodeState, new_body}
use Rattle.node_core.specs.Sound.{IsSound}
use Rattle.line_step.specs.Numbered.{no_node, node_at}
use Rattle.line_step.specs.Reasons.{has_link}
use Rattle.line_step.specs.State.{no_line}
use Rattle.line_step.specs.World.{link_at, no_world}
use Rattle.line_step.proofs.Keeps.{none_together}
use Rattle.law_link_messages.specs.Fit.{IsFitBody, IsFitMaker}
use Rattle.law_link_messages.proofs.Eventing.{new_body_fits}
use Rattle.law_custody.specs.Events.{gone_by}
use Rattle.law_custody.specs.Floors.{nobody}
use Rattle.law_custody.specs.Place.{Fresh}
use Rattle.law_custody.proofs.LinkEvents.{new_pair}
use Rattle.law_custody.proofs.Promised.{new_contents}
use Rattle.law_one_standing.specs.Carried.{IsFitMachine, Trace, between_of, stand_of}
use Rattle.law_one_standing.specs.Kept.{Keeps}
use Rattle.law_one_standing.specs.Links.{IsWholeLink}
use Rattle.law_one_standing.specs.Places.{LiesAt, LiesIn, Spot, lies_at, lies_in}
use Rattle.law_one_standing.specs.Relation.{Between, Neighbours, Owns, Stand}
use Rattle.law_one_standing.specs.Standing.{once_none}
use Rattle.law_one_standing.specs.Stands.{IsAtRest, Stands}
use Rattle.law_one_standing.proofs.RestMore.{loose_carries, machine_is_text, no_link_at, same_keeps}

-- nothing was handed over yet, nothing said, and nothing is gone
abbrev pub no_trace : Trace
no_trace = record { ghost = λ link. record { place = Fresh; board = nobody }; up = λ link. []; down = λ link. []; gone = λ link id. false }

-- ---- what is at each number

abbrev nothing_at : Stand
nothing_at = record { body = new_body; place = empty_machine }

abbrev nothing_between : Between
nothing_between = record { ghost = record { place = Fresh; board = nobody }; stands = false; gap = free_gap; up = []; down = []; gone = λ id. false }

pub node_none : (machine : ℕ) → node_at no_line machine ≡ no_node
node_none zero = refl
node_none (suc place) = refl

pub either_way : {X : Type 0} (test : Bool) (x : X) → cond test x x ≡ x
either_way true x = refl
either_way false x = refl

place_none : (machine : ℕ) → machine_at no_floor machine ≡ empty_machine
place_none machine = either_way (nat_lt 0 machine) empty_machine

gap_none : (gap : ℕ) → gap_at no_floor gap ≡ free_gap
gap_none gap = either_way (nat_lt 0 gap) free_gap

link_none : (link : ℕ) → link_at link no_world ≡ no_link
link_none link = either_way (nat_lt 0 link) no_link

stand_parts : (n : NodeState) (p : AtMachine) → n ≡ no_node → p ≡ empty_machine → ◌≡◌ {A = Stand} (record { body = n.lane.body; place = p }) nothing_at
stand_parts n p x y = λ i. record { body = (x i).lane.body; place = y i }

stand_none : (machine : ℕ) → stand_of no_line machine ≡ nothing_at
stand_none machine = stand_parts (node_at no_line machine) (machine_at no_floor machine) (node_none machine) (place_none machine)

between_parts : (l : LinkParts) (g : AtGap) → l ≡ no_link → g ≡ free_gap → ◌≡◌ {A = Between} (record { ghost = record { place = Fresh; board = nobody }; stands = l.stands; gap = g; up = []; down = []; gone = λ id. false }) nothing_between
between_parts l g x y = cc

between_none : (link : ℕ) → between_of no_trace no_line link ≡ nothing_between
between_none link = between_parts (link_at link no_world) (gap_at no_floor link) (link_none link) (gap_none link)

-- ---- the relation of nothing

none_neighbours : Neighbours nothing_at nothing_between nothing_at
none_neighbours = record {
  pair = new_pair;
  contents = new_contents (gone_by (λ id. false));
  holds = record { inside = λ q held is. cc; away_out = λ q held is. cc; away_in = λ q held is. cc; upstream = λ q held free is. absurd (cc) };
}

none_owns : Owns nothing_between nothing_at nothing_between
none_owns = record { boards = record { same = refl }; entry_role = refl; exit_role = refl; offers = tt; recent = record { offered = λ id is. cc; held = λ r is. cc } }

no_gap : {x : ℕ} → LiesIn x gaps.Free → ⊥
no_gap lies = elim lies [ ]

none_lies : (x : ℕ) (p : Spot) → LiesAt (λ machine. nothing_at) (λ link. nothing_between) x p → ⊥
none_lies x _ (lies_at lies) = no_later lies
none_lies x _ (lies_in lies) = no_gap lies

none_keeps : Keeps (λ machine. nothing_at) (λ link. nothing_between)
none_keeps = record {
  neighbours = record { at = λ k. none_neighbours };
  machines = record { at = λ k. none_owns };
  apart = record { once = λ m. once_none; one_place = λ x p q lies other. absurd (none_lies x p lies); nowhere = λ k x p gone lies. none_lies x p lies; gone_once = λ j k x gone other. absurd (cc) };
}

none_rest : (link : ℕ) → IsAtRest no_trace no_line link
none_rest link =
    let upper = node_none link in
    let lower = node_none (link + 1) in
    record {
      outlet = ap (λ (n : NodeState). n.lane.body.outlet.phase) upper;
      intake = ap (λ (n : NodeState). n.lane.body.intake.phase) lower;
      exit = ap (λ (n : NodeState). n.lane.body.exit.session.state) upper;
      entry = ap (λ (n : NodeState). n.lane.body.entry.session.state) lower;
      up = refl;
      down = refl;
    }

none_fit : (machine : ℕ) → IsFitMachine no_line machine
none_fit machine =
    let is = node_none machine in
    record {
      body = subst (λ (n : NodeState). IsFitBody n.lane.body) (sym is) new_body_fits;
      maker = subst (λ (n : NodeState). IsFitMaker n.maker) (sym is) (record { small = omega arith });
      name = subst (λ (n : NodeState). IsText n.name) (sym is) (machine_is_text 0 (omega arith));
      lane = subst (λ (n : NodeState). n.number ≤ 999_999_999) (sym is) (omega arith);
    }

none_sound : (machine : ℕ) → IsSound (node_at no_line machine).capacity (node_at no_line machine).lane.body
none_sound machine = subst (λ (n : NodeState). IsSound n.capacity n.lane.body) (sym (node_none machine)) (record { offers = tt; entry = refl; exit = refl; places = omega arith })

no_links : (link : ℕ) → has_link link no_line ≡ false
no_links link = grind (arith, nat_tests)

-- A LINE WITHOUT A MACHINE
pub none_stands : Stands no_trace no_line
none_stands = record {
  keeps = same_keeps (λ machine. nothing_at) (stand_of no_line) (λ link. nothing_between) (between_of no_trace no_line) stand_none between_none none_keeps;
  carried = λ link there. loose_carries no_trace no_line link (no_link_at no_line link none_together (no_links link)) refl refl;
  rest = λ link none. none_rest link;
  fit = none_fit;
  sound = none_sound;
  links = λ link. subst (λ (l : LinkParts). IsWholeLink l) (sym (link_none link)) whole_none;
  together = none_together;
  ids = record { own = tt; many = refl; whole = refl; old = tt; differ = record { once = λ id. omega arith } };
  olds = λ link id gone. absurd (cc);
}

-- What the acts of a machine reach: what is at it on the floor, and what is above and below it.
use Rattle.std.specs.Prelude.{◌≡◌, ◌≤◌, ℕ, ◌-◌, ◌&&◌, ◌++◌, Bool, true, false, List, [], ◌∷◌, Some, length, nat_le}
use Rattle.line_base.specs.declared.states.Side.{Side}
use Rattle.line_base.specs.declared.states.Side.TheVariants.{Entry, Exit}
use Rattle.hermes_horizontal.specs.Canonical.{canonical}
use Rattle.line_link.specs.Link.{LinkParts, after_answer, after_close, after_send}
use Rattle.line_world.specs.FloorPlan.{AtMachine, FloorPlan, machine_at, with_drive, with_new_id, without_board}
use Rattle.node_core.specs.declared.act.Act.{Act}
use Rattle.node_core.specs.declared.act.Act.TheVariants as acts
use Rattle.line_step.specs.World.{WorldParts, end_of, link_of}
use Rattle.line_step.specs.Acts.{answers}
use Rattle.line_step.specs.Numbered.{Between, between_in}

pub record Near : Type 0 where
  pub place : AtMachine
  pub above : Between
  pub below : Between

abbrev pub near_at : ℕ → WorldParts → Near
near_at machine world =
    record {
      place = machine_at world.floor machine;
      above = between_in (machine - 1) world;
      below = between_in machine world;
    }

-- at a side there is a gap
abbrev pub has_gap_at : ℕ → FloorPlan → Side → Bool
has_gap_at machine floor side =
    nat_le 1 (link_of machine side) && nat_le (link_of machine side) (length floor.gaps)

-- a machine has its place on the floor, and a gap at the sides that have one
pub record HasPlace (machine : ℕ) (has : Side → Bool) (world : WorldParts) : Type 0 where
  pub counted : 1 ≤ machine
  pub within : machine ≤ length world.floor.machines
  pub gaps : (side : Side) → has_gap_at machine world.floor side ≡ has side

-- ---- what an act does there

abbrev pub at_side : Side → Near → Between
at_side Entry near = near.above
at_side Exit near = near.below

abbrev pub with_side : Side → Between → Near → Near
with_side Entry between near = record near { above = between }
with_side Exit between near = record near { below = between }

abbrev pub with_link_at : Side → LinkParts → Near → Near
with_link_at side link near = with_side side (record (at_side side near) { link = link }) near

-- a text is sent, or answers a second connection
abbrev pub near_sent : Bool → Side → List ℕ → Near → Near
near_sent true side text near = with_link_at Exit (after_answer text (at_side Exit near).link) near
near_sent false side text near =
    with_link_at side (after_send (end_of side) text (at_side side near).link) near

-- where there is no gap no drive runs
abbrev pub near_driven : Bool → Side → Bool → Near → Near
near_driven true side on near =
    with_side side
    (record (at_side side near) { gap = with_drive (at_side side near).gap side on }) near
near_driven false side on near = near

abbrev pub near_did : (Side → Bool) → Bool → Act → Near → Near
near_did has second (acts.Sends side message) near =
    near_sent (answers second side message) side (canonical message) near
near_did has second (acts.Closes side) near =
    with_link_at side (after_close (end_of side) (at_side side near).link) near
near_did has second (acts.Notices side) near =
    with_link_at side (after_close (end_of side) (at_side side near).link) near
near_did has second (acts.Drive side on) near = near_driven (has side) side on near
near_did has second (acts.Inserts id) near =
    record near {
      place = record near.place {
        boards = near.place.boards
            ++ record { id = Some id } ∷ [];
      };
    }
near_did has second (acts.Removes id) near =
    record near { place = record near.place { boards = without_board id near.place.boards } }
near_did has second (acts.Replaces old new) near =
    record near { place = record near.place { boards = with_new_id old new near.place.boards } }
near_did has second (acts.Gives id to) near =
    record near { place = record near.place { boards = without_board id near.place.boards } }
near_did has second (acts.Gets id) near =
    record near {
      place = record near.place {
        boards = near.place.boards
            ++ record { id = Some id } ∷ [];
      };
    }
near_did has second act near = near

abbrev pub nears_did : (Side → Bool) → Bool → List Act → Near → Near
nears_did has second [] near = near
nears_did has second (act ∷ others) near =
    nears_did has second others (near_did has second act near)

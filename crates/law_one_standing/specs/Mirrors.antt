-- A step of a machine of the line, as one of the machine between its two links.
use Rattle.std.specs.Prelude.{Bool, List, Some, [], false, true, ℕ, ◌+◌, ◌≡◌}
use Rattle.line_base.specs.declared.states.Side.TheVariants.{Entry, Exit}
use Rattle.line_world.specs.FloorPlan.{gap_at, machine_at}
use Rattle.node_core.specs.Event.{event_of}
use Rattle.node_core.specs.Node.{NodeState, desk_of}
use Rattle.node_core.specs.Step.{machine_step}
use Rattle.node_core.specs.declared.input.Input.{Input}
use Rattle.node_core.specs.declared.input.Input.TheVariants as inputs
use Rattle.node_core.specs.declared.word.Word.{Word}
use Rattle.law_machine_custody.specs.Flight.{AreOldest, unheard}
use Rattle.law_machine_custody.specs.Joined.{with_link}
use Rattle.law_machine_custody.specs.Scene.{Scene, all_met}
use Rattle.line_step.specs.Numbered.{node_at}
use Rattle.line_step.specs.Reasons.{has_link}
use Rattle.line_step.specs.State.{LineState, machine_in}
use Rattle.line_step.specs.Steps.{moment_of, unread_by}
use Rattle.line_step.specs.World.{link_at}
use Rattle.law_one_standing.specs.Carried.{Carries, IsFitMachine, Trace, between_of, stand_of}
use Rattle.law_one_standing.specs.Relation.{scene_between}

-- what machine j + 1 has around it
abbrev pub scene_at : Trace → LineState → ℕ → Scene
scene_at t s j =
    scene_between (stand_of s j) (between_of t s j) (stand_of s (j + 1)) (between_of t s (j + 1))
    (stand_of s (j + 1 + 1))

-- its links, each cut or not
abbrev pub cut_above : Bool → Scene → Scene
cut_above true c = with_link Entry false [] [] c
cut_above false c = c

abbrev pub cut_below : Bool → Scene → Scene
cut_below true c = with_link Exit false [] [] c
cut_below false c = c

-- the line is as this scene has it around machine j + 1, which has read all events; a side without
-- a link may be any
pub record IsReached (j : ℕ) (before after : LineState) (d : Scene) : Type 0 where
  pub place : machine_at after.world.floor (j + 1) ≡ record { boards = d.boards; unread = [] }
  pub stands_above : has_link j before ≡ true → (link_at j after.world).stands ≡ d.above.stands
  pub gap_above : has_link j before ≡ true → gap_at after.world.floor j ≡ d.above.gap
  pub up_above : has_link j before ≡ true
      → Carries d.above.stands (node_at after j).lane.exit_bytes
      (link_at j after.world).flows.to_upstream d.above.up
  pub down_above : has_link j before ≡ true
      → Carries d.above.stands (node_at after (j + 1)).lane.entry_bytes
      (link_at j after.world).flows.to_downstream d.above.down
  pub stands_below : has_link (j + 1) before ≡ true
      → (link_at (j + 1) after.world).stands ≡ d.below.stands
  pub gap_below : has_link (j + 1) before ≡ true → gap_at after.world.floor (j + 1) ≡ d.below.gap
  pub up_below : has_link (j + 1) before ≡ true
      → Carries d.below.stands (node_at after (j + 1)).lane.exit_bytes
      (link_at (j + 1) after.world).flows.to_upstream d.below.up
  pub down_below : has_link (j + 1) before ≡ true
      → Carries d.below.stands (node_at after (j + 1 + 1)).lane.entry_bytes
      (link_at (j + 1) after.world).flows.to_downstream d.below.down

-- the words of an input are the oldest messages to its side
abbrev pub AreHeard : Input → List Word → Scene → Type 0
AreHeard (inputs.Bytes side piece) words c = AreOldest words (unheard side c)
AreHeard input words c = Unit {0}

-- the step of machine j + 1 is a machine step in its scene, whose links may have been cut in its
-- midst
pub record Mirrors (number j : ℕ) (input : Input) (t : Trace)
    (before after : LineState) : Type 0 where
  pub node : NodeState
  pub there : machine_in (j + 1) before ≡ Some node
  pub words : List Word
  pub heard : AreHeard input words (scene_at t before j)
  pub cuts_above : Bool
  pub cuts_below : Bool
  pub body : (node_at after (j + 1)).lane.body
      ≡ (machine_step (desk_of node (moment_of number)) (unread_by (j + 1) before.world)
      (event_of node.maker input words) node.lane.body).body
  pub reached : IsReached j before after
      (cut_below cuts_below
      (cut_above cuts_above
      (all_met (machine_step (desk_of node (moment_of number)) (unread_by (j + 1) before.world)
      (event_of node.maker input words) node.lane.body).acts (scene_at t before j))))
  pub fit : IsFitMachine after (j + 1)

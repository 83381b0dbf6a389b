-- THE TRACE BEHIND A TURN of machine j + 1: what is between it and its two neighbours is what is there
-- in its scene behind its acts. All that is between others is as it was.
use Rattle.std.specs.Prelude.{ℕ, ℤ, Bool, List, ◌+◌}
use Rattle.line_base.specs.declared.states.Side.TheVariants.{Entry, Exit}
use Rattle.hermes_horizontal.specs.declared.message.Message.{Message}
use Rattle.node_core.specs.declared.act.Act.{Act}
use Rattle.node_core.specs.declared.input.Input.{Input}
use Rattle.node_core.specs.declared.input.Input.TheVariants as inputs
use Rattle.law_custody.specs.Pair.{Ghost}
use Rattle.law_custody.specs.Unread.{NotOver}
use Rattle.law_link_messages.specs.Heard.{bodies}
use Rattle.law_machine_custody.specs.Good.{ReadsFirst}
use Rattle.law_machine_custody.specs.Joined.{all_met_left, all_met_second, with_link}
use Rattle.law_machine_custody.specs.Scene.{Scene, all_met}
use Rattle.law_one_standing.specs.Carried.{Trace}
use Rattle.law_one_standing.proofs.Traces.{put}
use Rattle.law_running_line.specs.Reading.{Reading}
use Rattle.law_running_line.specs.Running.{Running}
use Rattle.law_running_line.specs.Stands.{Stands}
use Rattle.law_running_line.specs.Steady.{scene_of, unless_joined}
use Rattle.law_running_line.specs.Turns.{Turns}
use Rattle.law_running_line.specs.Wire.{Awaits, Has, Hold, Left, Wire, has}

-- ---- the scene of a turn

-- as its input meets it: on a connection that is taken, or found made, these messages are on their
-- way, and the link stands where its other end has it. An input of no connection, or of one that the
-- machine has, meets the scene as it was, whatever the connection
abbrev pub scene_met : Input → Wire → List Message → Trace → Running → ℕ → Scene
scene_met inputs.Accepted wire said t s j =
    with_link Exit (has wire.below) (bodies said) (unless_joined wire.below (t.down (j + 1)))
    (scene_of t s j)
scene_met inputs.Connect wire said t s j =
    with_link Entry (has wire.above) (unless_joined wire.above (t.up j)) (bodies said)
    (scene_of t s j)
scene_met input wire said t s j = scene_of t s j

-- and behind its acts. The answer to a second connection is on its way to the entry that has it, and
-- is else for nobody
abbrev pub answer_met : Hold → List Act → Scene → Scene
answer_met Has told c = all_met_second told c
answer_met Awaits told c = all_met_left told c
answer_met Left told c = all_met_left told c

abbrev pub acts_met : Input → Wire → List Act → Scene → Scene
acts_met inputs.Second wire told c = answer_met wire.below told c
acts_met input wire told c = all_met told c

abbrev pub scene_behind : Input → Wire → List Message → List Act → Trace → Running → ℕ → Scene
scene_behind input wire said told t s j = acts_met input wire told (scene_met input wire said t s j)

-- ---- the trace

-- the handovers of both links have these ghosts then, the messages that are sent on them and not heard
-- are those of the scene, and these ids are gone at the machine's exit
abbrev pub turned : ℕ → Ghost → Ghost → (ℕ → Bool) → Scene → Trace → Trace
turned j a b gone d t = record {
  ghost = put j a (put (j + 1) b t.ghost);
  up = put j d.above.up (put (j + 1) d.below.up t.up);
  down = put j d.above.down (put (j + 1) d.below.down t.down);
  gone = put (j + 1) gone t.gone;
}

-- ---- WHAT A TURN COMES TO

-- the relation, with the trace that the acts turn it into; what was read first is so still, and a board
-- below that has not gone across is none that has
pub record TurnsTo (j : ℕ) {reading : Reading} {input : Input} {moment : ℤ} {before after : Running} {told : List Act}
    (t : Trace) (turn : Turns reading (j + 1) input moment before after told) : Type 0 where
  pub wire : Wire
  pub said : List Message
  pub a : Ghost
  pub b : Ghost
  pub gone : ℕ → Bool
  pub first : ReadsFirst turn.rest (t.ghost j) → ReadsFirst turn.rest a
  pub over : NotOver (t.ghost (j + 1)).place → NotOver b.place
  pub stands : Stands
      (turned j a b gone (scene_behind input wire said told t before j) t) after

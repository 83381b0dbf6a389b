-- WHAT THE MACHINE'S STEP IN A TURN KEEPS: a machine between its two links, among running machines.
use Rattle.std.specs.Prelude.{ℕ, Bool, List, [], ◌+◌}
use Rattle.line_base.specs.declared.states.Side.TheVariants.{Entry, Exit}
use Rattle.board_record.specs.declared.sensed.Sensed.{Sensed}
use Rattle.hermes_horizontal.specs.declared.message.Horizontal.{Horizontal}
use Rattle.hermes_horizontal.specs.declared.message.Message.{Message}
use Rattle.node_core.specs.Done.{Done}
use Rattle.law_link_messages.specs.Heard.{bodies}
use Rattle.law_machine_custody.specs.Ahead.{IsFreeRead}
use Rattle.law_machine_custody.specs.Good.{Goes, GoesBy}
use Rattle.law_machine_custody.specs.Joined.{GoesLeft, GoesSecond, with_link}
use Rattle.law_machine_custody.specs.Scene.{Scene, all_met}
use Rattle.law_one_standing.specs.Carried.{Trace, stand_of}
use Rattle.law_one_standing.specs.Relation.{scene_between}
use Rattle.law_running_line.specs.Running.{Running}
use Rattle.law_running_line.specs.Stands.{between_of, line_of, node_in}
use Rattle.law_running_line.specs.Waits.{Says}
use Rattle.law_running_line.specs.Wire.{Awaits, Has, Hold, Left, Wire, has}

-- what machine j + 1 has around it
abbrev pub scene_of : Trace → Running → ℕ → Scene
scene_of t s j =
    scene_between (stand_of (line_of s) j) (between_of t s j) (stand_of (line_of s) (j + 1))
    (between_of t s (j + 1)) (stand_of (line_of s) (j + 1 + 1))

-- what is done in a step of machine j + 1 that leaves these events unread keeps the relation of both
-- its links and of the machine, in its scene, and a free intake has read all still. Where the boards
-- of others lie is any
pub record IsSteady (t : Trace) (s : Running) (j : ℕ) (rest : List Sensed)
    (done : Done) : Type 0 where
  pub elsewhere : ℕ → Bool
  pub free : IsFreeRead rest done.body
  pub goes : GoesBy
      (record { gone_above = t.gone j; gone_below = t.gone (j + 1); elsewhere = elsewhere })
      (node_in s j).lane.body.kept rest (t.ghost j) (t.ghost (j + 1)) (scene_of t s j) done

-- ---- a connection

-- what is on its way on the connection before; on one that both ends have from now on, nothing
abbrev pub unless_joined : Hold → List Horizontal → List Horizontal
unless_joined Has before = []
unless_joined Awaits before = before
unless_joined Left before = before

-- machine j + 1 takes this connection at its exit: what was said up on it is on its way to it from
-- then on, and the link stands where the connection has come below
pub record TakesIt (t : Trace) (s : Running) (j : ℕ) (rest : List Sensed) (wire : Wire)
    (done : Done) : Type 0 where
  pub elsewhere : ℕ → Bool
  pub said : List Message
  pub says : Says wire.up said
  pub free : IsFreeRead rest done.body
  pub goes : Goes
      (record { gone_above = t.gone j; gone_below = t.gone (j + 1); elsewhere = elsewhere })
      (node_in s j).lane.body.kept rest (t.ghost j) (t.ghost (j + 1)) (scene_of t s j) done.body
      (all_met done.acts
      (with_link Exit (has wire.below) (bodies said)
      (unless_joined wire.below (t.down (j + 1))) (scene_of t s j)))

-- it finds this one made at its entry: what was said down on it is on its way to it from then on,
-- and the link stands where the machine above has taken it
pub record FindsIt (t : Trace) (s : Running) (j : ℕ) (rest : List Sensed) (wire : Wire)
    (done : Done) : Type 0 where
  pub elsewhere : ℕ → Bool
  pub said : List Message
  pub says : Says wire.down said
  pub free : IsFreeRead rest done.body
  pub goes : Goes
      (record { gone_above = t.gone j; gone_below = t.gone (j + 1); elsewhere = elsewhere })
      (node_in s j).lane.body.kept rest (t.ghost j) (t.ghost (j + 1)) (scene_of t s j) done.body
      (all_met done.acts
      (with_link Entry (has wire.above) (unless_joined wire.above (t.up j)) (bodies said)
      (scene_of t s j)))

-- it refuses a second one, whose answer is on its way to the entry that has it, or for nobody
pub record RefusesIt (t : Trace) (s : Running) (j : ℕ) (rest : List Sensed)
    (done : Done) : Type 0 where
  pub elsewhere : ℕ → Bool
  pub free : IsFreeRead rest done.body
  pub answered : GoesSecond
      (record { gone_above = t.gone j; gone_below = t.gone (j + 1); elsewhere = elsewhere })
      (node_in s j).lane.body.kept rest (t.ghost j) (t.ghost (j + 1)) (scene_of t s j) done
  pub unanswered : GoesLeft
      (record { gone_above = t.gone j; gone_below = t.gone (j + 1); elsewhere = elsewhere })
      (node_in s j).lane.body.kept rest (t.ghost j) (t.ghost (j + 1)) (scene_of t s j) done

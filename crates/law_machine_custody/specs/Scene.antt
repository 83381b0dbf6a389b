-- A machine between its two links: what lies above it and below it, and what its acts do there.
use Rattle.std.specs.Prelude.{Bool, List, Option, Some, [], drop, false, ℕ, ◌++◌, ◌∷◌}
use Rattle.line_base.specs.declared.states.Side.{Side}
use Rattle.line_base.specs.declared.states.Side.TheVariants.{Entry, Exit}
use Rattle.board_record.specs.declared.sensed.Sensed.{Sensed}
use Rattle.hermes_horizontal.specs.declared.message.Horizontal.{Horizontal}
use Rattle.session_core.specs.declared.state.SessionState.{SessionState}
use Rattle.line_world.specs.FloorPlan.{AtMachine, with_drive, with_new_id, without_board}
use Rattle.line_world.specs.declared.board.Board.{Board}
use Rattle.line_world.specs.declared.gap.AtGap.{AtGap}
use Rattle.handover_out.specs.State.{OutState}
use Rattle.handover_in.specs.State.{InState}
use Rattle.node_core.specs.declared.act.Act.{Act}
use Rattle.node_core.specs.declared.act.Act.TheVariants as acts
use Rattle.node_core.specs.declared.lane.Body.{Body}
use Rattle.law_custody.specs.Pair.{LinkState}
use Rattle.law_custody.specs.Words.{sent}

-- what lies above a machine: the exit of the machine there with its outlet and what it offered
-- last, whether the link stands, the gap, what is at that machine on the floor, and the messages
-- that are sent and not heard yet, up to it and down from it
pub record Above : Type 0 where
  pub exit : SessionState
  pub outlet : OutState
  pub last_offer : Option ℕ
  pub stands : Bool
  pub gap : AtGap
  pub far : AtMachine
  pub up : List Horizontal
  pub down : List Horizontal

-- and what lies below it: the entry of the machine there with its intake
pub record Below : Type 0 where
  pub entry : SessionState
  pub intake : InState
  pub stands : Bool
  pub gap : AtGap
  pub far : AtMachine
  pub up : List Horizontal
  pub down : List Horizontal

-- a machine's own boards on the floor, and what lies on both sides
pub record Scene : Type 0 where
  pub boards : List Board
  pub above : Above
  pub below : Below

-- the link above a machine and the one below it, for a machine that has not read these sensor
-- events
abbrev pub link_above : List Sensed → Body → Scene → LinkState
link_above unread body c = record {
  exit = c.above.exit;
  outlet = c.above.outlet;
  last_offer = c.above.last_offer;
  entry = body.entry.session.state;
  intake = body.intake;
  stands = c.above.stands;
  around = record {
    up = c.above.far;
    between = c.above.gap;
    down = record { boards = c.boards; unread = unread };
  };
  up = c.above.up;
  down = c.above.down;
}

abbrev pub link_below : List Sensed → Body → Scene → LinkState
link_below unread body c = record {
  exit = body.exit.session.state;
  outlet = body.outlet;
  last_offer = body.last_offer;
  entry = c.below.entry;
  intake = c.below.intake;
  stands = c.below.stands;
  around = record {
    up = record { boards = c.boards; unread = unread };
    between = c.below.gap;
    down = c.below.far;
  };
  up = c.below.up;
  down = c.below.down;
}

-- ---- what an act does there

abbrev pub said : Side → Horizontal → Scene → Scene
said Entry what c =
    record c { above = record c.above { up = sent (what ∷ []) c.above.stands c.above.up } }
said Exit what c =
    record c { below = record c.below { down = sent (what ∷ []) c.below.stands c.below.down } }

-- the oldest message to a side is heard
abbrev pub listened : Side → Scene → Scene
listened Entry c = record c { above = record c.above { down = drop 1 c.above.down } }
listened Exit c = record c { below = record c.below { up = drop 1 c.below.up } }

-- a side is closed: the link stands no more, and what flows to it is gone
abbrev pub shut : Side → Scene → Scene
shut Entry c = record c { above = record c.above { stands = false; down = [] } }
shut Exit c = record c { below = record c.below { stands = false; up = [] } }

abbrev pub driven : Side → Bool → Scene → Scene
driven Entry on c = record c { above = record c.above { gap = with_drive c.above.gap Entry on } }
driven Exit on c = record c { below = record c.below { gap = with_drive c.below.gap Exit on } }

abbrev pub met : Act → Scene → Scene
met (acts.Hears side message) c = listened side c
met (acts.Sends side message) c = said side message.body c
met (acts.Closes side) c = shut side c
met (acts.Notices side) c = shut side c
met (acts.Drive side on) c = driven side on c
met (acts.Inserts id) c = record c { boards = c.boards ++ record { id = Some id } ∷ [] }
met (acts.Removes id) c = record c { boards = without_board id c.boards }
met (acts.Replaces old new) c = record c { boards = with_new_id old new c.boards }
met (acts.Gives id to) c = record c { boards = without_board id c.boards }
met (acts.Gets id) c = record c { boards = c.boards ++ record { id = Some id } ∷ [] }
met _ c = c

-- the acts in their order
abbrev pub all_met : List Act → Scene → Scene
all_met [] c = c
all_met (act ∷ others) c = all_met others (met act c)

-- A link is connected in the midst of what a machine meets: what the real scene has, and the
-- answer to a second connection.
use Rattle.std.specs.Prelude.{Bool, List, None, [], codes, false, true, ◌++◌, ◌==◌, ◌∷◌}
use Rattle.line_base.specs.declared.states.Side.{Side}
use Rattle.line_base.specs.declared.states.Side.TheVariants.{Entry, Exit}
use Rattle.board_record.specs.declared.record.Record.{Record}
use Rattle.board_record.specs.declared.sensed.Sensed.{Sensed}
use Rattle.hermes_horizontal.specs.declared.message.Horizontal.{Horizontal}
use Rattle.hermes_horizontal.specs.declared.message.Horizontal.TheVariants as bodies
use Rattle.hermes_horizontal.specs.declared.message.Service.{Service}
use Rattle.node_core.specs.Desk.{Desk}
use Rattle.node_core.specs.Done.{Done}
use Rattle.node_core.specs.declared.act.Act.{Act}
use Rattle.node_core.specs.declared.act.Act.TheVariants as acts
use Rattle.law_custody.specs.Pair.{Ghost}
use Rattle.law_machine_custody.specs.Scene.{Scene, met, said}
use Rattle.law_machine_custody.specs.Good.{Afar, Goes}

-- the scene with a link at a side that stands or not, and with these messages on it
abbrev pub with_link : Side → Bool → List Horizontal → List Horizontal → Scene → Scene
with_link Entry stands up down c =
    record c { above = record c.above { stands = stands; up = up; down = down } }
with_link Exit stands up down c =
    record c { below = record c.below { stands = stands; up = up; down = down } }

-- how a machine describes itself
abbrev pub described_by : Desk → Service
described_by desk =
    record {
      machine = desk.name;
      lane = desk.lane;
      version = codes "1.5";
      interface = None;
      features = record { check_alive = true; forecast = true; query = true; send = true };
    }

-- the message that answers a second connection
abbrev pub is_answer : Horizontal → Bool
is_answer (bodies.Notification code severity text) = code.number == 2
is_answer _ = false

-- the answer flows down to the new connection, though the link doesn't stand
abbrev pub answered : Bool → Horizontal → Scene → Scene
answered true what c = record c { below = record c.below { down = c.below.down ++ what ∷ [] } }
answered false what c = said Exit what c

abbrev pub said_second : Side → Horizontal → Scene → Scene
said_second Exit what c = answered (is_answer what) what c
said_second Entry what c = said Entry what c

-- what an act does in the step of a second connection
abbrev pub met_second : Act → Scene → Scene
met_second (acts.Sends side message) c = said_second side message.body c
met_second act c = met act c

abbrev pub all_met_second : List Act → Scene → Scene
all_met_second [] c = c
all_met_second (act ∷ others) c = all_met_second others (met_second act c)

-- the step of a second connection keeps the relation
abbrev pub GoesSecond : Afar → List Record → List Sensed → Ghost → Ghost → Scene → Done → Type 0
GoesSecond afar above unread ga gb c d =
    Goes afar above unread ga gb c d.body (all_met_second d.acts c)

-- ---- a second connection that the machine below has left already

-- the answer is for nobody
abbrev pub unanswered : Bool → Horizontal → Scene → Scene
unanswered true what c = c
unanswered false what c = said Exit what c

abbrev pub said_left : Side → Horizontal → Scene → Scene
said_left Exit what c = unanswered (is_answer what) what c
said_left Entry what c = said Entry what c

abbrev pub met_left : Act → Scene → Scene
met_left (acts.Sends side message) c = said_left side message.body c
met_left act c = met act c

abbrev pub all_met_left : List Act → Scene → Scene
all_met_left [] c = c
all_met_left (act ∷ others) c = all_met_left others (met_left act c)

abbrev pub GoesLeft : Afar → List Record → List Sensed → Ghost → Ghost → Scene → Done → Type 0
GoesLeft afar above unread ga gb c d =
    Goes afar above unread ga gb c d.body (all_met_left d.acts c)

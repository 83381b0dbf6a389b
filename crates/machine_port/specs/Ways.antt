-- A WAY to a neighbour, or to a supervisor: the text that waits to be sent on its connection, and whether that is to be
-- closed.
use Rattle.std.specs.Prelude.{ℕ, ◌++◌, Bool, true, false, ◌||◌, List, [], ◌∷◌, drop, flat_map}
use Rattle.std.specs.List.{list_any}
use Rattle.line_base.specs.declared.states.Side.{Side}
use Rattle.line_base.specs.declared.states.Side.TheVariants.{Entry, Exit}
use Rattle.hermes_horizontal.specs.Canonical.{canonical}
use Rattle.node_core.specs.declared.act.Act.{Act}
use Rattle.node_core.specs.declared.act.Act.TheVariants as acts
use Rattle.supervised_end.specs.Said.{all_told_for}

pub record WayState : Type 0 where
  pub text : List ℕ
  pub closes : Bool

-- one without a connection
abbrev pub at_rest : WayState
at_rest = record { text = []; closes = false }

-- the text of an act that sends a message at a side, as it is spelled
abbrev pub said_at : Side → Act → List ℕ
said_at Entry (acts.Sends Entry message) = canonical message
said_at Exit (acts.Sends Exit message) = canonical message
said_at side act = []

-- whether an act closes a side's connection
abbrev pub closes_at : Side → Act → Bool
closes_at Entry (acts.Closes Entry) = true
closes_at Exit (acts.Closes Exit) = true
closes_at side act = false

-- A WAY AFTER SOME ACTS: each message that they send at its side waits behind what waits there, in
-- their order, and it is to be closed once one of them closes that side
abbrev pub way_after : Side → List Act → WayState → WayState
way_after side told way = record {
  text = way.text ++ flat_map (said_at side) told;
  closes = way.closes || list_any (closes_at side) told;
}

-- and that to a supervisor, whose session stands or not
abbrev pub told_way : Bool → List Act → WayState → WayState
told_way stands told way = record way { text = way.text ++ all_told_for stands told }

-- so many bytes from its front are sent
abbrev pub way_sent : ℕ → WayState → WayState
way_sent count way = record way { text = drop count way.text }

-- THE BYTES OF ONE CONNECTION: what a node's way takes of it, and what its machine said and heard on it.
use Rattle.std.specs.Prelude.{ℕ, ℤ, List, [], ◌∷◌, ◌++◌, ◌≡◌, if◌then◌else◌}
use Rattle.line_base.specs.declared.states.Side.{Side}
use Rattle.line_base.specs.declared.states.Side.TheVariants.{Entry, Exit}
use Rattle.config_service.specs.declared.message.Settings.{Settings}
use Rattle.line_outside.specs.Given.{Closes, Connects, Given, Listens, Polls, Refuses, Sends, is_same_way, taken_of}
use Rattle.line_outside.specs.declared.answer.GotBytes.{GotBytes}
use Rattle.line_outside.specs.declared.answer.GotBytes.TheVariants as founds
use Rattle.line_outside.specs.declared.way.Way.{Way}
use Rattle.node_core.specs.Node.{NodeState}
use Rattle.node_core.specs.declared.act.Act.{Act}
use Rattle.node_core.specs.declared.input.Input.{Input}
use Rattle.node_core.specs.declared.input.Input.TheVariants as inputs
use Rattle.node_run.specs.After.{way_of}
use Rattle.node_run.specs.Owning.{TellsActs}
use Rattle.node_run.specs.Runs.{Runs}
use Rattle.node_run.specs.State.{RunState, started}
use Rattle.node_run.specs.Steps.{messages_for, others}
use Rattle.node_run.specs.declared.rules.Rules.{Rules}
use Rattle.law_node_runs.specs.Doings.{Doing, RunDoes, acts_in, calls, says, steps}

-- ---- a connection

-- the texts that were said on a side since its way was closed last, and what the ports took of
-- them; the bytes that the ports gave since a connection arrived there last, and what the machine heard
-- of them
pub record Connection : Type 0 where
  pub said : List ℕ
  pub taken : List ℕ
  pub given : List ℕ
  pub heard : List ℕ

abbrev pub no_connection : Connection
no_connection = record { said = []; taken = []; given = []; heard = [] }

-- what a poll finds on its way
abbrev pub got : GotBytes → Connection → Connection
got founds.Arrived c = record c { given = []; heard = [] }
got (founds.Bytes bytes) c = record c { given = c.given ++ bytes }
got found c = c

-- what a call does. A refusal of a second connection is on none of these
abbrev pub call_does : Way → Given → Connection → Connection
call_does way (Polls other room found) c = if is_same_way way other then got found c else c
call_does way (Sends other piece sent) c =
    if is_same_way way other then record c { taken = c.taken ++ taken_of sent piece } else c
call_does way (Closes other) c =
    if is_same_way way other then record c { said = []; taken = [] } else c
call_does way (Listens other address opened) c = c
call_does way (Connects other address opened) c = c
call_does way (Refuses other piece sent) c = c

-- the acts of a step that are for the connection of a side: at a second connection, the first act answers
-- that one
abbrev pub acts_for : Input → List Act → List Act
acts_for inputs.Second acts = others acts
acts_for input acts = acts

-- the bytes that an input brings to a side
abbrev pub heard_by : Side → Input → List ℕ
heard_by Entry (inputs.Bytes Entry piece) = piece.now
heard_by Exit (inputs.Bytes Exit piece) = piece.now
heard_by side input = []

abbrev pub step_does : Side → Input → List Act → Connection → Connection
step_does side input acts c =
    record c {
      said = c.said ++ messages_for side (acts_for input acts);
      heard = c.heard ++ heard_by side input;
    }

-- what is said on the connection of a side is on that alone
abbrev pub said_at : Side → Side → List ℕ → List ℕ
said_at Entry Entry text = text
said_at Exit Exit text = text
said_at side other text = []

abbrev pub does : Side → Doing → Connection → Connection
does side (calls given) c = call_does (way_of side) given c
does side (steps input acts) c = step_does side input acts c
does side (says other text) c = record c { said = c.said ++ said_at side other text }

-- ---- WHAT HOLDS OF IT

-- a text is a front of another
pub record IsFront (front whole : List ℕ) : Type 0 where
  pub rest : List ℕ
  pub parts : whole ≡ front ++ rest

-- what the ports took is a front of what was said, and what was heard a front of what they gave
pub record IsInOrder (c : Connection) : Type 0 where
  pub sent : IsFront c.taken c.said
  pub heard : IsFront c.heard c.given

-- so it is behind each doing
abbrev pub InOrderAlong : Side → Connection → List Doing → Type 0
InOrderAlong side c [] = IsInOrder c
InOrderAlong side c (doing ∷ more) = IsInOrder c × InOrderAlong side (does side doing c) more

-- what happens in a run, move by move, and whose acts the log tells; and at both sides the bytes of each
-- connection go in their order
pub record HasConnections (rules : Rules) (s t : RunState) (moments : List ℤ) (given : List Given)
    (log : List ℕ) : Type 0 where
  pub doings : List Doing
  pub happen : RunDoes rules s moments given t log doings
  pub tells : TellsActs rules log (acts_in doings)
  pub order : (side : Side) → InOrderAlong side no_connection doings

-- THE LAW, of each run from its beginning
abbrev pub ConnectionsAreInOrder : Type 0
ConnectionsAreInOrder =
    (rules : Rules) (settings : Settings) (node : NodeState) (moments : List ℤ) (t : RunState)
    (given : List Given) (log : List ℕ) → Runs rules (started settings node) moments given t log
    → HasConnections rules (started settings node) t moments given log

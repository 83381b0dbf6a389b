-- OLD BYTES: what was said on a connection isn't sent on the next one. A side says a text, which waits;
-- its way is closed, another connection arrives, and the ports take what is sent there: of that
-- text they take nothing, but a front of what was said behind the close.
use Rattle.std.specs.Prelude.{◌≡◌, ◌++◌, ◌∷◌, ℕ, ℤ, Bool, false, List, [], flat_map, if◌then◌else◌}
use Rattle.std.specs.List.{list_any}
use Rattle.line_base.specs.declared.states.Side.{Side}
use Rattle.line_outside.specs.Given.{Closes, Given, Sends, is_same_way, taken_of}
use Rattle.node_run.specs.After.{way_of}
use Rattle.node_run.specs.State.{RunState}
use Rattle.node_run.specs.Steps.{messages_for}
use Rattle.node_run.specs.declared.rules.Rules.{Rules}
use Rattle.law_node_runs.specs.Connections.{HasConnections, IsFront, acts_for, said_at}
use Rattle.law_node_runs.specs.Doings.{Doing, calls, says, steps}

-- what the ports take of the way of a side in a doing
abbrev pub taken_by : Side → Doing → List ℕ
taken_by side (calls (Sends way piece sent)) =
    if is_same_way (way_of side) way then taken_of sent piece else []
taken_by side doing = []

-- and what is said there
abbrev pub said_by : Side → Doing → List ℕ
said_by side (calls given) = []
said_by side (steps input acts) = messages_for side (acts_for input acts)
said_by side (says other text) = said_at side other text

abbrev pub closes_way : Side → Doing → Bool
closes_way side (calls (Closes way)) = is_same_way (way_of side) way
closes_way side doing = false

-- THE LAW: in what happens in a run, from any close of a way on and until the next one, the ports take a
-- front of what was said meanwhile
abbrev pub NothingOldIsSent : Type 0
NothingOldIsSent =
    (rules : Rules) (s t : RunState) (moments : List ℤ) (given : List Given) (log : List ℕ)
    (h : HasConnections rules s t moments given log) (side : Side) (before since after : List Doing)
    → h.doings ≡ (before ++ calls (Closes (way_of side)) ∷ since) ++ after
    → list_any (closes_way side) since ≡ false
    → IsFront (flat_map (taken_by side) since) (flat_map (said_by side) since)

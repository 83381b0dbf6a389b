-- CONNECTIONS BETWEEN JOINED NODES, as the ports of their ends have them: what these took and
-- gave.
use Rattle.std.specs.Prelude.{ℕ, Bool, true, false, List, [], ◌∷◌, ◌++◌, ◌+◌, ◌-◌, ◌≡◌, ◌≢◌, ◌&&◌, Option, None, Some, nat_eq}
use Rattle.line_base.specs.declared.states.Side.{Side}
use Rattle.line_base.specs.declared.states.Side.TheVariants.{Entry, Exit}
use Rattle.line_outside.specs.Given.{Closes, Given, Polls, Sends, taken_of}
use Rattle.line_outside.specs.declared.answer.GotBytes.{GotBytes}
use Rattle.line_outside.specs.declared.answer.GotBytes.TheVariants as founds
use Rattle.line_outside.specs.declared.ports.Sent.{Sent}
use Rattle.line_outside.specs.declared.way.Way.{Way}
use Rattle.line_outside.specs.declared.way.Way.TheVariants as ways
use Rattle.node_core.specs.declared.act.Act.{Act}
use Rattle.node_core.specs.declared.input.Input.{Input}
use Rattle.node_core.specs.declared.input.Input.TheVariants as inputs
use Rattle.law_node_runs.specs.Connections.{IsFront}
use Rattle.node_run.specs.After.{way_of}
use Rattle.node_run.specs.Runs.{room_bytes}
use Rattle.node_run.specs.Steps.{text_of_first}
use Rattle.law_joined_nodes.specs.Does.{Taken}

-- at each side the place of the connection that its ports have there, among those of the link; and
-- of what goes to a side on the connection at a place, what the ports of the far end took, and
-- what the ports of this one gave
pub record Pipes : Type 0 where
  pub at : ℕ → Side → Option ℕ
  pub took : ℕ → Side → ℕ → List ℕ
  pub gave : ℕ → Side → ℕ → List ℕ

-- as nodes begin: no connection
abbrev pub no_pipes : Pipes
no_pipes = record {
  at = λ machine side. None;
  took = λ machine side place. [];
  gave = λ machine side place. [];
}

abbrev pub other : Side → Side
other Entry = Exit
other Exit = Entry

-- the machine beyond a side
abbrev pub beyond : ℕ → Side → ℕ
beyond machine Exit = machine + 1
beyond machine Entry = machine - 1

abbrev pub same_side : Side → Side → Bool
same_side Entry Entry = true
same_side Exit Exit = true
same_side Entry Exit = false
same_side Exit Entry = false

abbrev pub same_end : ℕ → Side → ℕ → Side → Bool
same_end machine side k at = nat_eq machine k && same_side side at

abbrev pub if_here : {A : Type 0} → Bool → A → A → A
if_here true new old = new
if_here false new old = old

abbrev pub with_at : ℕ → Side → Option ℕ → Pipes → Pipes
with_at machine side place p =
    record p { at = λ k at. if_here (same_end machine side k at) place (p.at k at) }

abbrev pub more_took : ℕ → Side → ℕ → List ℕ → Pipes → Pipes
more_took machine side place text p = record p {
  took = λ k at n. if_here (same_end machine side k at && nat_eq place n) (p.took k at n ++ text)
      (p.took k at n);
}

abbrev pub more_gave : ℕ → Side → ℕ → List ℕ → Pipes → Pipes
more_gave machine side place text p = record p {
  gave = λ k at n. if_here (same_end machine side k at && nat_eq place n) (p.gave k at n ++ text)
      (p.gave k at n);
}

-- ---- a call that takes, gives, makes and closes nothing at a neighbour's way

abbrev pub IsCalmPoll : Way → GotBytes → Type 0
IsCalmPoll ways.Upstream founds.Arrived = ⊥
IsCalmPoll ways.Downstream founds.Arrived = ⊥
IsCalmPoll ways.Upstream (founds.Bytes bytes) = ⊥
IsCalmPoll ways.Downstream (founds.Bytes bytes) = ⊥
IsCalmPoll ways.Downstream founds.Second = ⊥
IsCalmPoll way found = Unit {0}

abbrev pub IsCalmClose : Way → Type 0
IsCalmClose ways.Upstream = ⊥
IsCalmClose ways.Downstream = ⊥
IsCalmClose way = Unit {0}

abbrev pub IsCalmSend : Way → List ℕ → Type 0
IsCalmSend ways.Upstream taken = taken ≡ []
IsCalmSend ways.Downstream taken = taken ≡ []
IsCalmSend way taken = Unit {0}

abbrev pub IsCalm : List Given → Type 0
IsCalm (Polls way room found ∷ []) = IsCalmPoll way found
IsCalm (Sends way piece sent ∷ []) = IsCalmSend way (taken_of sent piece)
IsCalm (Closes way ∷ []) = IsCalmClose way
IsCalm given = Unit {0}

-- the input by which a machine takes a connection at a side: below it is made, above it is taken
abbrev pub comes_by : Side → Input
comes_by Entry = inputs.Connect
comes_by Exit = inputs.Accepted

-- WHAT TCP DOES, of the connection at this place. A connection comes once at each end, where the
-- ports have none and the machine takes it; one that it doesn't take is none of these. A poll
-- gives bytes, at least one, on the connection that is there: behind all that it gave before they
-- are a front of what the far end's ports took there. What is told to a second connection, which
-- is refused, goes to that one
pub data Flows (machine : ℕ) (place : ℕ) : List Given → Option Taken → Pipes → Pipes → Type 0
  where
    flows_comes : {p : Pipes} {told : List Act} (side : Side) → p.at machine side ≡ None
        → p.gave machine side place ≡ []
        → Flows machine place (Polls (way_of side) room_bytes founds.Arrived ∷ [])
        (Some (record { read = []; input = comes_by side; told = told })) p
        (with_at machine side (Some place) p)
    flows_unmet : {p : Pipes} (side : Side)
        → Flows machine place (Polls (way_of side) room_bytes founds.Arrived ∷ []) None p p
    flows_gives : {p : Pipes} {bytes : List ℕ} {here : ℕ} (side : Side)
        → p.at machine side ≡ Some here → bytes ≢ []
        → IsFront (p.gave machine side here ++ bytes) (p.took machine side here)
        → Flows machine place (Polls (way_of side) room_bytes (founds.Bytes bytes) ∷ []) None p
        (more_gave machine side here bytes p)
    flows_takes : {p : Pipes} {piece : List ℕ} {sent : Sent} {here : ℕ} (side : Side)
        → p.at machine side ≡ Some here
        → Flows machine place (Sends (way_of side) piece sent ∷ []) None p
        (more_took (beyond machine side) (other side) here (taken_of sent piece) p)
    flows_refuses : {p : Pipes} {told : List Act}
        → Flows machine place (Polls ways.Downstream room_bytes founds.Second ∷ [])
        (Some (record { read = []; input = inputs.Second; told = told })) p
        (more_took (beyond machine Exit) Entry place (text_of_first told) p)
    flows_passes : {p : Pipes}
        → Flows machine place (Polls ways.Downstream room_bytes founds.Second ∷ []) None p p
    flows_closes : {p : Pipes} {taken : Option Taken} (side : Side)
        → Flows machine place (Closes (way_of side) ∷ []) taken p (with_at machine side None p)
    flows_beside : {p : Pipes} {given : List Given} {taken : Option Taken} → IsCalm given
        → Flows machine place given taken p p

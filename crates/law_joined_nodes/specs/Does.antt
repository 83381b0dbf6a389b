-- WHAT A MOVE OF A NODE DOES: at most one step of its machine, with the input that the move gives
-- it, and what of a neighbour is found and not taken yet.
use Rattle.std.specs.Prelude.{ℕ, ℤ, List, [], ◌∷◌, ◌≡◌, Option, None, Some}
use Rattle.std.specs.Borrow.{Bor}
use Rattle.line_base.specs.declared.states.Side.{Side}
use Rattle.line_outside.specs.Given.{Given, Polls}
use Rattle.line_outside.specs.declared.answer.GotBytes.TheVariants as founds
use Rattle.line_outside.specs.declared.way.Way.TheVariants as ways
use Rattle.board_record.specs.declared.sensed.Sensed.{Sensed}
use Rattle.node_core.specs.May.{may_do, may_of}
use Rattle.node_core.specs.Step.{Steps}
use Rattle.node_core.specs.declared.act.Act.{Act}
use Rattle.node_core.specs.declared.input.Input.{Input}
use Rattle.node_core.specs.declared.input.Input.TheVariants as inputs
use Rattle.law_link_messages.specs.Fit.{IsFitInput}
use Rattle.node_run.specs.After.{way_of}
use Rattle.node_run.specs.Held.{seen_finding}
use Rattle.node_run.specs.Runs.{room_bytes}
use Rattle.node_run.specs.State.{RunState}

-- a step of the machine: the events that it reads, its input, and its acts
pub record Taken : Type 0 where
  pub read : List Sensed
  pub input : Input
  pub told : List Act

-- the machine makes it, in this move. Its barcodes are texts
pub record Makes (moment : ℤ) (s t : RunState) (taken : Taken) : Type 0 where
  pub may : may_of s.node taken.input ≡ may_do
  pub steps : Steps s.node taken.read taken.input moment t.node taken.told
  pub texts : IsFitInput taken.input

-- bytes that were found on the way of a side wait
abbrev pub Holds : RunState → Side → List ℕ → Type 0
Holds s side bytes = s.held.finding ≡ Some (seen_finding side (Some bytes))

-- no bytes are found: what was found is as it was, or it was taken, or it is the end of a
-- connection
pub data FindsNoBytes (s t : RunState) : Type 0 where
  same_found : t.held.finding ≡ s.held.finding → FindsNoBytes s t
  none_found : t.held.finding ≡ None → FindsNoBytes s t
  end_found : (side : Side) → t.held.finding ≡ Some (seen_finding side None) → FindsNoBytes s t

-- an input that makes no connection and brings no bytes. A second connection is met where a poll
-- finds one
abbrev pub IsBeside : List Given → Input → Type 0
IsBeside given (inputs.Bytes side piece) = ⊥
IsBeside given inputs.Connect = ⊥
IsBeside given inputs.Accepted = ⊥
IsBeside given inputs.Second =
    given ≡ Polls ways.Downstream room_bytes founds.Second ∷ []
IsBeside given input = Unit {0}

-- A MOVE with its call, if it makes one
pub data Does (moment : ℤ) (s t : RunState) : List Given → Option Taken → Type 0 where
  -- it makes no step; or it finds bytes on a neighbour's way, which wait
  does_nothing : {given : List Given} → t.node ≡ s.node → FindsNoBytes s t
      → Does moment s t given None
  does_find : {side : Side} {bytes : List ℕ} → t.node ≡ s.node → Holds t side bytes
      → Does moment s t (Polls (way_of side) room_bytes (founds.Bytes bytes) ∷ []) None
  -- a connection is there: below it is made, above it is taken
  does_connect : {told : List Act}
      → Makes moment s t (record { read = []; input = inputs.Connect; told = told })
      → t.held.finding ≡ None
      → Does moment s t (Polls ways.Upstream room_bytes founds.Arrived ∷ [])
      (Some (record { read = []; input = inputs.Connect; told = told }))
  does_accept : {told : List Act}
      → Makes moment s t (record { read = []; input = inputs.Accepted; told = told })
      → t.held.finding ≡ None
      → Does moment s t (Polls ways.Downstream room_bytes founds.Arrived ∷ [])
      (Some (record { read = []; input = inputs.Accepted; told = told }))
  -- the bytes that waited are heard, all of them
  does_hear : {side : Side} {piece : Bor (List ℕ)} {told : List Act} → Holds s side piece.now
      → Makes moment s t (record { read = []; input = inputs.Bytes side piece; told = told })
      → t.held.finding ≡ None
      → Does moment s t [] (Some (record { read = []; input = inputs.Bytes side piece; told = told }))
  -- any other step
  does_step : {given : List Given} {taken : Taken} → IsBeside given taken.input
      → Makes moment s t taken → FindsNoBytes s t → Does moment s t given (Some taken)

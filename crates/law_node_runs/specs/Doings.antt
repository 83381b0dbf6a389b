-- WHAT HAPPENS IN A NODE'S RUN, in its order, move by move: the call of the move with its answer, if it
-- makes one; behind that the step of its machine, if it makes one; and where a side is reset, just
-- before that step, the text that tells its neighbour so.
use Rattle.std.specs.Prelude.{ℕ, ℤ, List, [], ◌∷◌, ◌++◌, ◌≡◌, Option, None, Some}
use Rattle.line_base.specs.declared.states.Side.{Side}
use Rattle.line_outside.specs.Given.{Given}
use Rattle.board_record.specs.declared.sensed.Sensed.{Sensed}
use Rattle.book_entry.specs.Given.{entry_of}
use Rattle.machine_log.specs.Drives.{drives_after}
use Rattle.node_core.specs.May.{may_do, may_of}
use Rattle.node_core.specs.Step.{Steps}
use Rattle.node_core.specs.declared.act.Act.{Act}
use Rattle.node_core.specs.declared.input.Input.{Input}
use Rattle.node_core.specs.declared.input.Input.TheVariants as inputs
use Rattle.node_run.specs.Next.{next_of}
use Rattle.node_run.specs.Resetting.{reset_text}
use Rattle.node_run.specs.Runs.{Moves}
use Rattle.node_run.specs.State.{RunState, one_more}
use Rattle.node_run.specs.declared.place.Next.{Next}
use Rattle.node_run.specs.declared.place.Next.TheVariants as nexts
use Rattle.node_run.specs.declared.rules.Rules.{Rules}

-- a call with its answer, a step of the machine with its input and its acts, or a text that no act
-- sends, said on the connection of a side
pub data Doing : Type 0 where
  calls : Given → Doing
  steps : Input → List Act → Doing
  says : Side → List ℕ → Doing

-- ---- a move

abbrev pub calls_of : List Given → List Doing
calls_of [] = []
calls_of (given ∷ others) = calls given ∷ calls_of others

-- the side that is reset in the move that comes next
abbrev pub reset_of : Next → Option Side
reset_of (nexts.Reset side) = Some side
reset_of next = None

-- what a move from one state to the next does, which resets this side, if any, and makes these calls.
-- NOTHING IN IT IS FREE. It makes a step exactly where one more is counted, of the events, the input
-- and the moment of that step's entry, whose acts follow from these; and a text that no act sends
-- is said exactly where a side is reset. The drives are as the acts leave them
pub data MoveDoes (resets : Option Side) (s t : RunState) (given : List Given) : List Doing → Type 0
  where
    no_step : t.step ≡ s.step → t.node ≡ s.node → t.drives ≡ s.drives
        → MoveDoes resets s t given (calls_of given)
    one_step : {read : List Sensed} {input : Input} {at : ℤ} {acts : List Act} → resets ≡ None
        → t.step ≡ one_more (entry_of read input at) s.step → may_of s.node input ≡ may_do
        → Steps s.node read input at t.node acts → t.drives ≡ drives_after s.drives acts
        → MoveDoes resets s t given (calls_of given ++ steps input acts ∷ [])
    a_reset : {side : Side} {at : ℤ} {acts : List Act} → resets ≡ Some side
        → t.step ≡ one_more (entry_of [] (inputs.Notice side) at) s.step
        → may_of s.node (inputs.Notice side) ≡ may_do
        → Steps s.node [] (inputs.Notice side) at t.node acts
        → t.drives ≡ drives_after s.drives acts
        → MoveDoes resets s t given
        (calls_of given ++ says side (reset_text at) ∷ steps (inputs.Notice side) acts ∷ [])

-- ---- A RUN: what its moves do, one behind the other

pub data RunDoes (rules : Rules) : RunState → List ℤ → List Given → RunState → List ℕ → List Doing
    → Type 0 where
  run_begins : {s : RunState} → RunDoes rules s [] [] s [] []
  run_goes_on : {s t u : RunState} {moments : List ℤ} {moment : ℤ} {given more : List Given}
      {log lines : List ℕ} {doings own : List Doing} → RunDoes rules s moments given t log doings
      → Moves rules moment t more u lines → MoveDoes (reset_of (next_of rules t)) t u more own
      → RunDoes rules s (moments ++ moment ∷ []) (given ++ more) u (log ++ lines) (doings ++ own)

-- ---- its acts

abbrev pub act_in : Doing → List Act
act_in (calls given) = []
act_in (steps input acts) = acts
act_in (says side text) = []

abbrev pub acts_in : List Doing → List Act
acts_in [] = []
acts_in (doing ∷ others) = act_in doing ++ acts_in others

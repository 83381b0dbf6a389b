-- THE CALL OF A MOVE COMES BEFORE ITS STEP: a move that makes a step makes no call, or the one that
-- comes next in the state before the step. So no call follows from a step whose entry isn't kept.
use Rattle.std.specs.Prelude.{◌≡◌, ℕ, ℤ, true, List}
use Rattle.line_outside.specs.Given.{Given}
use Rattle.node_run.specs.Booked.{CallsAgain, MovesAgain, makes_step}
use Rattle.node_run.specs.State.{RunState}
use Rattle.node_run.specs.declared.rules.Rules.{Rules}

-- THE LAW
abbrev pub CallsComeFirst : Type 0
CallsComeFirst =
    (rules : Rules) (moment : ℤ) (s t : RunState) (calls : List Given) (lines : List ℕ)
    → MovesAgain rules moment s calls t lines → makes_step s t ≡ true → CallsAgain rules s calls

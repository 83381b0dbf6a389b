use Rattle.std.specs.Prelude.{List, [], ◌∷◌, unwrap_or}
use Rattle.handover_in.specs.declared.input.InInput.{InInput}
use Rattle.handover_in.specs.State.{InState}
use Rattle.handover_in.specs.Act.{nothing}
use Rattle.handover_in.specs.Row.{InRow, intake_row}

-- nothing changes and nothing is done: what a breach leaves
abbrev pub stay : InState → InRow
stay s = record { after = s; act = nothing }

-- what an intake does at an input
abbrev pub step : InState → InInput → InRow
step s input = unwrap_or (intake_row s input) (stay s)

-- how an intake stands after a list of inputs
abbrev pub after_all : InState → List InInput → InState
after_all s [] = s
after_all s (input ∷ inputs) = after_all (step s input).after inputs

use Rattle.std.specs.Prelude.{List, [], ◌∷◌, unwrap_or}
use Rattle.handover_out.specs.declared.input.OutInput.{OutInput}
use Rattle.handover_out.specs.State.{OutState}
use Rattle.handover_out.specs.Act.{nothing}
use Rattle.handover_out.specs.Row.{OutRow, outlet_row}

-- nothing changes and nothing is done: what a breach leaves
abbrev pub stay : OutState → OutRow
stay s = record { after = s; act = nothing }

-- what an outlet does at an input
abbrev pub step : OutState → OutInput → OutRow
step s input = unwrap_or (outlet_row s input) (stay s)

-- how an outlet stands after a list of inputs
abbrev pub after_all : OutState → List OutInput → OutState
after_all s [] = s
after_all s (input ∷ inputs) = after_all (step s input).after inputs

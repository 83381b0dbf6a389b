-- What a run tells, computed: of two new machines the upstream one keeps a board, and they connect.
use Rattle.std.proofs.Common.{None, [], refl, ◌++◌, ◌∷◌, ◌≡◌}
use Rattle.node_core.specs.declared.input.Input.TheVariants as inputs
use Rattle.law_running_line.specs.Begins.{new_pair}
use Rattle.law_running_line.specs.Reading.{Strictly}
use Rattle.law_running_line.specs.RunSteps.{asks, at_rest, goes_on, turns}
use Rattle.law_running_line.proofs.Doubled.{To, turn_by}
use Rattle.law_running_line.proofs.Begins.{loader, printer, loader_keeps, asked, come, taken, one_above}
use Rattle.law_running_logs.specs.LedgerExample.{TellsAnInsertion}

-- ---- the states

-- ---- the run

abbrev pub pair_runs : To Strictly new_pair taken
pair_runs = record {
  told = _;
  run =
      goes_on (turns (turn_by Strictly 1 loader [] [] (inputs.Insert None) [] 0 new_pair refl (record { exit = refl; entry = refl }) tt refl refl (refl, refl) tt))
      (goes_on (asks (record { above = loader_keeps; above_there = refl; below = printer; below_there = refl; may = refl; after_is = refl }))
      (goes_on (turns (turn_by Strictly 2 printer [] [] inputs.Connect [] 0 asked refl (record { exit = refl; entry = refl }) (record { wire = _; there = refl; held = refl }) refl refl (refl, refl) tt))
      (goes_on (turns (turn_by Strictly 1 loader_keeps [] [] inputs.Accepted [] 0 come refl (record { exit = refl; entry = refl }) (record { wire = _; there = refl; held = refl }, one_above _ refl) refl refl (refl, refl) tt)) at_rest)));
}

pub tells_an_insertion : TellsAnInsertion
tells_an_insertion = record { acts = pair_runs.told; after = taken; run = pair_runs.run; tells = refl; stand = refl }

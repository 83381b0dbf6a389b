-- WHAT A RUN TELLS, written out.
use Rattle.std.specs.Prelude.{List, [], ◌∷◌, ◌≡◌}
use Rattle.board_record.specs.Maker.{made_id}
use Rattle.node_core.specs.declared.act.Act.{Act}
use Rattle.standings.specs.Ledger.{empty_ledger, ledger_after_all}
use Rattle.standings.specs.declared.deed.Deed.TheVariants as deeds
use Rattle.standings.specs.declared.mark.Mark.TheVariants as marks
use Rattle.law_running_line.specs.Begins.{new_pair}
use Rattle.law_running_line.specs.Reading.{Strictly}
use Rattle.law_running_line.specs.Running.{Running}
use Rattle.law_running_line.specs.RunSteps.{RunsTo}
use Rattle.law_running_logs.specs.Told.{deeds_along, points_of}

-- of two new machines the upstream one keeps a board, and they connect: one deed is told
pub record TellsAnInsertion : Type 0 where
  pub acts : List Act
  pub after : Running
  pub run : RunsTo Strictly new_pair acts after
  pub tells : deeds_along (points_of run) ≡ deeds.Inserts 1 (made_id 1 1) ∷ []
  pub stand : (ledger_after_all empty_ledger (deeds_along (points_of run))).marks
      ≡ record { id = made_id 1 1; mark = marks.Kept 1 } ∷ []

use Rattle.std.proofs.Common.{◌∙◌, ◌++◌, arith, sym}
use Rattle.line_report.specs.Lanes.{told_on}
use Rattle.line_step.specs.Shown.{kept_shown}
use Rattle.line_engine.proofs.Showing.{kept_last, kept_next}
use Rattle.line_engine.proofs.show.show_kept.Goals as goal

pub loop-board-preserved : goal.loop-board-preserved
loop-board-preserved c =
    kept_next c.args.lane c.args.machine c.loop-board.board-index c.args.kept.now c.board-item.result (c.args.told.now ++ told_on c.args.lane (kept_shown c.args.machine c.args.kept.now)) c.loop-board.told c.tell.new.self (omega arith) c.board-item.is c.loop-board.invariant c.in_ok-tell.ensures.told

pub returns : goal.returns
returns c = sym (kept_last c.args.lane c.args.machine c.loop-board.board-index c.args.kept.now c.loop-board.told (omega arith)) ∙ c.loop-board.invariant

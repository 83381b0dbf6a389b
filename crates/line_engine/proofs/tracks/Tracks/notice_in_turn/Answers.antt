use Rattle.std.proofs.Common.{subst}
use Rattle.std.proofs.lemmas.Result.{on_ok_weaker}
use Rattle.line_script.specs.declared.line.LaneLine.{LaneLine}
use Rattle.line_engine.specs.Each.{GoesOn}
use Rattle.line_engine.specs.Tracks.{lanes_of}
use Rattle.line_engine.proofs.tracks.Tracks.notice_in_turn.Goals as goal

pub returns-clause-step : goal.returns-clause-step
returns-clause-step c =
    on_ok_weaker c.do_part.result (λ step.
    subst (λ (line : LaneLine). GoesOn c.args.number line (lanes_of c.args.self.now) (lanes_of c.do_part.new.self) c.args.told.now c.do_part.new.told) c.notice_where-line.ensures.line step) c.do_part.ensures.step

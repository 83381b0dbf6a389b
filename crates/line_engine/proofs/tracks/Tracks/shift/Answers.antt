use Rattle.std.proofs.Common.{◌∙◌, sym}
use Rattle.std.proofs.lemmas.Result.{on_ok_weaker}
use Rattle.line_engine.proofs.OnTwo.{shift_refused}
use Rattle.line_engine.proofs.tracks.Tracks.shift.Goals as goal

pub returns-in-Err-clause-step : goal.returns-in-Err-clause-step
returns-in-Err-clause-step c =
    on_ok_weaker c.tell.result (λ is. shift_refused c.args.number c.args.machine c.args.from c.args.to c.args.id c.args.self.now c.in-Err.reason c.args.told.now c.tell.new.self c.requires.kept (sym c.may_shift.ensures ∙ c.in-Err.is) is) c.tell.ensures.told

use Rattle.std.proofs.lemmas.Result.{IfOk-weaker}
use Rattle.line_commands.specs.Making.{IsLastLine, IsMakeText}
use Rattle.line_commands.proofs.Folding.{folds-end}
use Rattle.line_commands.proofs.making.text_of_run.Goals as goal

pub returns : goal.returns
returns c =
    IfOk-weaker c.last_line.result (λ text. IsLastLine c.run_made.new.run c.in_ok-fold.fold text.items) (λ text. IsMakeText c.args.number text.items) (λ text last. folds-end c.args.number c.run_made.new.run c.in_ok-fold.fold text.items c.in_ok-fold.ensures.folds last) c.last_line.ensures

use Rattle.std.proofs.Common.{sym, ◌∙◌, arith}
use Rattle.line_commands.proofs.Folding.{last-line, summed}
use Rattle.line_commands.proofs.making.last_line.Goals as goal

pub returns-in-Ok : goal.returns-in-Ok
returns-in-Ok c =
    let fine = sym c.is_err.ensures.value ∙ c.if-is_err.false in
    let is = summed c.write_summary.result c.args.run.now c.new-text.result.items c.write_summary.new.to.items fine c.new-text.ensures.items c.write_summary.ensures.sums in
    last-line c.args.run.now c.args.fold c.folded-whole.result c.write_summary.new.to.items c.pop.new.self.items c.write.new.self.items c.pop.result is c.pop.ensures.items (λ more. c.pop.ensures.variant.1 (omega (arith, more, c.write_summary.new.to.ok.0))) (rw c.as_slice.ensures.value at c.folded-whole.ensures) c.in-Ok.ensures.bytes

use Rattle.std.proofs.Common.{◌≡◌, ◌+◌, false, ap, ◌∙◌, arith}
use Rattle.law_lanes.specs.Lanes.{Lanes}
use Rattle.line_commands.proofs.Folding.{did-asked}
use Rattle.line_commands.proofs.script_run.ScriptRun.do_asked.Goals as goal

pub returns-clause-does : goal.returns-clause-does
returns-clause-does c =
    let unspent : c.self.inside.line.spent ≡ false = ap (λ (s : Lanes). s.spent) c.self.view_is ∙ c.requires.unspent in
    did-asked c.write_all.result c.args.asked.now c.self.inside.line c.args.self.now c.step.new.self (c.self.inside.done + 1) c.in_ok-told.told c.args.to.now.items c.write_all.new.to.items c.self.view_is (omega (arith, (c.self.invariant unspent).0)) c.lanes_are_proper.ensures c.in_ok-told.ensures.step c.write_all.ensures.written

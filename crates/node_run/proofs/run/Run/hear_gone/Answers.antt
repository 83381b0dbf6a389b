use Rattle.node_run.proofs.Again.{left_again}
use Rattle.node_run.proofs.Taking.{gone_heard}
use Rattle.node_run.proofs.run.Run.hear_gone.Goals as goal

pub move_on-requires : goal.move_on-requires
move_on-requires c = left_again c.args.self.now.state c.args.self.now.rules.turns c.requires.again c.requires.turns

pub returns-clause-gone : goal.returns-clause-gone
returns-clause-gone c =
    gone_heard c.hear_if.result c.gone_here-input.result c.args.moment c.args.self.now c.move_on.new.self c.hear_if.new.self c.gone_here-input.ensures.input c.move_on.ensures c.hear_if.ensures.hears

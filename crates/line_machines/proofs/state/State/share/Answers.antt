use Rattle.std.proofs.Common.{arith}
use Rattle.line_machines.specs.contracts.state.State.{the_view}
use Rattle.line_machines.proofs.Shared.{share_made}
use Rattle.line_machines.proofs.state.State.share.Goals as goal

pub returns : goal.returns
returns c = rw (← c.self.view_is) (share_made c.args.machine c.args.with.now (the_view c.self.inside) c.index_mut.result.now c.share.new.self (omega arith) (omega arith) c.index_mut.ensures.value c.share.ensures)

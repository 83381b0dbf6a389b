use Rattle.node_run.proofs.Booking.{out_done, out_fault, out_full, out_log, out_memory}
use Rattle.node_run.proofs.booked.go_out.Goals as goal

pub returns-in-Whole-clause-out : goal.returns-in-Whole-clause-out
returns-in-Whole-clause-out g c = out_done _ c.args.run.now.state.step.entry c.told.result.now c.args.run.now.told _ _ _ _ _ _ c.told.ensures c.in-Done.ensures.keeps c.in-Whole.ensures.1

pub returns-in-Failed-clause-out : goal.returns-in-Failed-clause-out
returns-in-Failed-clause-out g c = out_log _ c.args.run.now.state.step.entry c.told.result.now c.args.run.now.told _ _ _ _ _ _ c.told.ensures c.in-Done.ensures.keeps c.in-Failed.ensures.2

pub returns-in-Full-clause-out : goal.returns-in-Full-clause-out
returns-in-Full-clause-out g c = out_full _ c.args.run.now.state.step.entry c.args.run.now.told c.args.size.now c.args.size.now _ _ _ c.in-Full.ensures.keeps

pub returns-in-Fault-clause-out : goal.returns-in-Fault-clause-out
returns-in-Fault-clause-out g c = out_fault _ c.args.run.now.state.step.entry c.args.run.now.told c.args.size.now c.args.size.now _ _ _ c.in-Fault.ensures.keeps

pub returns-in-Memory-clause-out : goal.returns-in-Memory-clause-out
returns-in-Memory-clause-out g c = out_memory _ c.args.run.now.state.step.entry c.args.run.now.told c.args.size.now c.args.size.now _ _ _ c.in-Memory.ensures.keeps

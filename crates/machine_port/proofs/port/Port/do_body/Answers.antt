use Rattle.machine_port.proofs.Supervising.{row_breaks}
use Rattle.machine_port.proofs.port.Port.do_body.Goals as goal

pub returns-in-Err-clause-does : goal.returns-in-Err-clause-does
returns-in-Err-clause-does c =
    row_breaks c.break_off_as.result _ c.args.body c.in-Err.kind c.unexpected.result.now c.args.moment c.args.self.now c.meet.new.self c.break_off_as.new.self c.in-Err.ensures.breach.0 c.in-Err.ensures.breach.1 c.unexpected.ensures.text
    c.in-Err.ensures.unchanged c.break_off_as.ensures.breaks

use Rattle.machine_port.proofs.Supervising.{hears_does}
use Rattle.machine_port.proofs.port.Port.do_message.Goals as goal

pub returns-clause-hears : goal.returns-clause-hears
returns-clause-hears c =
    hears_does c.do_found.result c.in_ok-found.found c.args.moment c.args.self.now c.find_message.new.self c.do_found.new.self c.in_ok-found.ensures.hears c.in_ok-found.ensures.kept c.do_found.ensures.does

use Rattle.line_link.specs.Flow.{flowing, stream_to}
use Rattle.line_link.proofs.Together.{arrives_together}
use Rattle.line_link.proofs.link.Link.arrive.Goals as goal

pub invariant_of-self : goal.invariant_of-self
invariant_of-self c =
    let inside = c.self.inside in
    arrives_together c.args.to (flowing c.args.count (stream_to c.args.to inside.flows))
    (record { upstream = inside.upstream; downstream = inside.downstream; stands = inside.stands; flows = inside.flows; made = inside.made })
    c.arrive.new.self c.self.invariant c.arrive.ensures

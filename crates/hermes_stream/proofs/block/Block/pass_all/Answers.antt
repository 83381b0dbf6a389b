use Rattle.std.proofs.Common.{◌≡◌, None, ap, ◌∙◌, arith}
use Rattle.hermes_stream.specs.Frames.{first_end}
use Rattle.hermes_stream.proofs.Ends.{none_from_first_end}
use Rattle.hermes_stream.proofs.block.Block.pass_all.Goals as goal

pub invariant_of-self : goal.invariant_of-self
invariant_of-self c =
    let block = c.self.inside in
    let none : first_end block.ring.items ≡ None = ap (λ h. first_end h.waiting) c.self.view_is ∙ c.requires in
    record {
      room = c.self.invariant.room;
      lends = c.self.invariant.lends;
      cut = omega arith;
      waits = c.self.invariant.waits;
      fed = omega (arith, c.len-self-inside.ensures.len);
      no_end = λ at l. none_from_first_end block.ring.items none at;
    }

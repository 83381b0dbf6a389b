use Rattle.std.proofs.Common.{[], length, sym, ap, ◌∙◌, arith}
use Rattle.hermes_stream.proofs.block.Block.new.Goals as goal

pub invariant_of-result : goal.invariant_of-result
invariant_of-result c =
    let none = ap (λ b. length b.items) c.in-Ok.ensures in
    record {
      room = ap (λ b. b.capacity) c.in-Ok.ensures;
      lends = sym c.in-Ok-vec.lent.ok.0 ∙ c.in-Ok-vec.ensures.len;
      cut = omega arith;
      waits = omega arith;
      fed = omega arith;
      no_end = λ at l. absurd (omega arith);
    }

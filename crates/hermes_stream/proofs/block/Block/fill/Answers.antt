use Rattle.std.proofs.Common.{◌≡◌, ◌++◌, length, take, sym, ap, subst, ◌∙◌, arith}
use Rattle.std.proofs.lemmas.List.{length-append, length-take}
use Rattle.hermes_stream.specs.Scan.{IsSearched}
use Rattle.hermes_stream.proofs.Ends.{IsSearched-append}
use Rattle.hermes_stream.proofs.block.Block.fill.Goals as goal

pub invariant_of-self : goal.invariant_of-self
invariant_of-self c =
    let block = c.self.inside in
    let more = take c.fill_from_slice-count.result c.args.piece.now in
    let items : c.fill_from_slice-count.new.self.items ≡ block.ring.items ++ more = ap (λ b. b.items) c.fill_from_slice-count.ensures.items in
    let size = ap length items ∙ length-append block.ring.items more in
    let count = length-take c.fill_from_slice-count.result c.args.piece.now in
    record {
      room = ap (λ b. b.capacity) c.fill_from_slice-count.ensures.items ∙ c.self.invariant.room;
      lends = c.self.invariant.lends;
      cut = omega arith;
      waits = omega (arith, c.fill_from_slice-count.ensures.count, c.self.invariant.room, c.self.invariant.waits);
      fed = omega (arith, c.self.invariant.fed);
      no_end = subst (λ b. IsSearched b block.searched) (sym items) (IsSearched-append block.ring.items more block.searched c.self.invariant.fed c.self.invariant.no_end);
    }

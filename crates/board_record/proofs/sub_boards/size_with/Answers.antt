use Rattle.board_record.proofs.Sizes.{size_more}
use Rattle.board_record.proofs.sub_boards.size_with.Goals as goal

pub returns : goal.returns
returns c = rw (c.sizes.ensures.size, c.size.ensures.size) (size_more c.args.subs.now c.args.sub.now)

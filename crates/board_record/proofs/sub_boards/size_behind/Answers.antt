use Rattle.board_record.specs.SubBoards.{unknown_sub}
use Rattle.board_record.proofs.Sizes.{size_more}
use Rattle.board_record.proofs.sub_boards.size_behind.Goals as goal

pub returns : goal.returns
returns c = rw (c.sizes.ensures.size, c.element_size.ensures.size) (size_more c.args.subs.now (unknown_sub c.args.pos c.args.barcode.now))

use Rattle.hermes_horizontal.proofs.Bodies.{whole_from}
use Rattle.hermes_horizontal.proofs.rows.board_available.Goals as goal

pub record_of-requires : goal.record_of-requires
record_of-requires c = whole_from c.args.at c.args.attributes c.in_ok-board.board c.in_ok-board.ensures.0

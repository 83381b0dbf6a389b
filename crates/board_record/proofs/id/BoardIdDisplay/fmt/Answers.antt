use Rattle.std.proofs.Common.{◌≡◌}
use Rattle.board_record.specs.BoardId.{id_text}
use Rattle.board_record.proofs.id.BoardIdDisplay.fmt.Goals as goal

pub returns-clause-writes : goal.returns-clause-writes
unfolding id_text
returns-clause-writes g c =
    let text : c.encode_lower-text.result.now ≡ id_text c.args.self.now = cc in
    rw text at c.write_str.ensures.writes

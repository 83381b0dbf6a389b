use Rattle.std.proofs.Common.{arith}
use Rattle.uuid.proofs.TextLemmas.{by_index_length}
use Rattle.board_record.specs.BoardId.{id_text}
use Rattle.board_record.proofs.IdTexts.{read_id-id_text}
use Rattle.board_record.proofs.id.BoardId.reads_back.Goals as goal

pub returns-clause-length : goal.returns-clause-length
unfolding id_text
returns-clause-length c = by_index_length 36 _

pub returns-clause-same : goal.returns-clause-same
returns-clause-same c = read_id-id_text c.args.self (omega (arith, c.number-number.ensures))

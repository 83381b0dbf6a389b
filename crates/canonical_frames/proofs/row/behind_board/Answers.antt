use Rattle.canonical_frames.proofs.row.behind_board.Goals as goal

pub returns : goal.returns
returns c = (c.in_ok-id.id.now, c.in_ok-id.ensures, (c.in_ok-created_by.created_by.now, c.in_ok-created_by.ensures, (c.in_ok-quality.quality.now, c.in_ok-quality.ensures, (c.in_ok-flip.flip.now, c.in_ok-flip.ensures, c.in_ok-record.ensures))))

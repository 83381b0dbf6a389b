use Rattle.std.proofs.lemmas.List.{get_or-replicate}
use Rattle.line_check.proofs.turns.Turns.new.Goals as goal

pub returns : goal.returns
returns c = record { greatest = λ place within. get_or-replicate 64 place 0 0 within }

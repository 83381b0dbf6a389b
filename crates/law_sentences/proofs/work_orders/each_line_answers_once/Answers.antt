use Rattle.law_sentences.proofs.Lines.{line_once}
use Rattle.law_sentences.proofs.work_orders.each_line_answers_once.Goals as goal

pub returns : goal.returns
returns c = line_once

use Rattle.law_sentences.proofs.Running.{one_answer}
use Rattle.law_sentences.proofs.work_orders.each_query_has_one_answer.Goals as goal

pub returns : goal.returns
returns c = one_answer

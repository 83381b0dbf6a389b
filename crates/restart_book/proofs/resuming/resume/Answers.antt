use Rattle.restart_book.proofs.Once.{only_bad, only_whole}
use Rattle.restart_book.proofs.resuming.resume.Goals as goal

pub returns-clause-whole : goal.returns-clause-whole
returns-clause-whole c = only_whole c.a_book_has_one_answer.ensures c.args.profile c.args.book.now c.resume_once.result c.resume_once.ensures.answer

pub returns-clause-bad : goal.returns-clause-bad
returns-clause-bad c = only_bad c.a_book_has_one_answer.ensures c.args.profile c.args.book.now c.resume_once.result c.resume_once.ensures.answer

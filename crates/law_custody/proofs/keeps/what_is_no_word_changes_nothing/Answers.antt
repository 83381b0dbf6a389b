use Rattle.law_custody.proofs.LinkEvents.{passes_down, passes_up, says_aside_down, says_aside_up}
use Rattle.law_custody.proofs.keeps.what_is_no_word_changes_nothing.Goals as goal

pub returns-clause-heard_upstream : goal.returns-clause-heard_upstream
returns-clause-heard_upstream c = λ g l m rest e k. passes_up g l m rest e k

pub returns-clause-heard_downstream : goal.returns-clause-heard_downstream
returns-clause-heard_downstream c = λ g l m rest e k. passes_down g l m rest e k

pub returns-clause-said_upstream : goal.returns-clause-said_upstream
returns-clause-said_upstream c = λ g l ms e k. says_aside_down g l ms e k

pub returns-clause-said_downstream : goal.returns-clause-said_downstream
returns-clause-said_downstream c = λ g l ms e k. says_aside_up g l ms e k

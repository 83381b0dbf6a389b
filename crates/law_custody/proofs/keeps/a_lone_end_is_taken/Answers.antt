use Rattle.law_custody.proofs.Taken.{comes_alone, taken_alone, taken_contents, told_contents}
use Rattle.law_custody.proofs.keeps.a_lone_end_is_taken.Goals as goal

pub returns-clause-exit : goal.returns-clause-exit
returns-clause-exit c = λ g l up k x call. taken_alone g l up k x call

pub returns-clause-exit_contents : goal.returns-clause-exit_contents
returns-clause-exit_contents c = λ gone l up kept call h. taken_contents l up kept call h

pub returns-clause-entry : goal.returns-clause-entry
returns-clause-entry c = λ g l down k may y d. comes_alone g l down k may y d

pub returns-clause-entry_contents : goal.returns-clause-entry_contents
returns-clause-entry_contents c = λ gone l down kept d h. told_contents l down kept d h

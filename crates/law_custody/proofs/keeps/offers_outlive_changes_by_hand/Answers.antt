use Rattle.law_custody.proofs.HandsContents.{contents_given, contents_gone, contents_inserted, contents_marked, contents_removed, contents_replaced, contents_settled}
use Rattle.law_custody.proofs.keeps.offers_outlive_changes_by_hand.Goals as goal

pub returns-clause-inserted : goal.returns-clause-inserted
returns-clause-inserted c = λ gone gone2 l kept n m h. contents_inserted n m h

pub returns-clause-removed : goal.returns-clause-removed
returns-clause-removed c = λ gone gone2 l q ks js m g t h. contents_removed m g t h

pub returns-clause-replaced : goal.returns-clause-replaced
returns-clause-replaced c = λ gone gone2 l q n ks js m g t h. contents_replaced m g t h

pub returns-clause-taken : goal.returns-clause-taken
returns-clause-taken c = λ gone gone2 l c kept m h. contents_gone m h

pub returns-clause-settled : goal.returns-clause-settled
returns-clause-settled c = λ gone l q kept h. contents_settled q h

pub returns-clause-marked : goal.returns-clause-marked
returns-clause-marked c = λ gone l q n ks js e free t h. contents_marked e free t h

pub returns-clause-given : goal.returns-clause-given
returns-clause-given c = λ gone l q ks js other t h. contents_given other t h

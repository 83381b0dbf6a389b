use Rattle.law_custody.proofs.CutAfterInside.{across_stands, answered_stands, begun_stands, connected_stands, cut_off_stands, inside_stands, noticed_downstream_stands, noticed_upstream_stands, opened_stands, settled_stands}
use Rattle.law_custody.proofs.laws.a_cut_after_the_board_is_in.Goals as goal

pub returns-clause-opened : goal.returns-clause-opened
returns-clause-opened c = λ a. opened_stands a

pub returns-clause-begun : goal.returns-clause-begun
returns-clause-begun c = λ a. begun_stands a

pub returns-clause-across : goal.returns-clause-across
returns-clause-across c = λ a. across_stands a

pub returns-clause-inside : goal.returns-clause-inside
returns-clause-inside c = λ a. inside_stands a

pub returns-clause-cut : goal.returns-clause-cut
returns-clause-cut c = λ a. cut_off_stands a

pub returns-clause-noticed_downstream : goal.returns-clause-noticed_downstream
returns-clause-noticed_downstream c = λ a. noticed_downstream_stands a

pub returns-clause-noticed_upstream : goal.returns-clause-noticed_upstream
returns-clause-noticed_upstream c = λ a. noticed_upstream_stands a

pub returns-clause-connected : goal.returns-clause-connected
returns-clause-connected c = λ a service. connected_stands a service

pub returns-clause-answered : goal.returns-clause-answered
returns-clause-answered c = λ a service. answered_stands a service

pub returns-clause-settled : goal.returns-clause-settled
returns-clause-settled c = λ a. settled_stands a

use Rattle.law_machine_custody.proofs.Handing.{gets_good, gives_good}
use Rattle.law_machine_custody.proofs.laws.a_board_that_changes_lanes_keeps_both_links.Goals as goal

pub returns-clause-given : goal.returns-clause-given
returns-clause-given c = λ afar above unread ga gb id body scene good there other here. gives_good id there other good here

pub returns-clause-got : goal.returns-clause-got
returns-clause-got c = λ afar above unread ga gb board body scene good idle here. gets_good board idle good here

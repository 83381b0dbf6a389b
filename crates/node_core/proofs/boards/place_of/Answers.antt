use Rattle.std.proofs.Common.{◌∙◌, sym}
use Rattle.node_core.proofs.First.{position_first, position_missing, position_none, position_roomless}
use Rattle.node_core.proofs.boards.place_of.Goals as goal

pub returns-clause-first : goal.returns-clause-first
returns-clause-first c = position_first c.args.id c.args.kept.now c.position_of.result (sym c.position_of.ensures)

pub returns-clause-none : goal.returns-clause-none
returns-clause-none c = λ none. position_none c.args.id c.args.kept.now (sym c.position_of.ensures ∙ none)

pub returns-clause-roomless : goal.returns-clause-roomless
returns-clause-roomless c = λ none. position_roomless c.args.id c.args.kept.now (sym c.position_of.ensures ∙ none)

pub returns-clause-missing : goal.returns-clause-missing
returns-clause-missing c = λ none. position_missing c.args.id c.args.kept.now (sym c.position_of.ensures ∙ none)

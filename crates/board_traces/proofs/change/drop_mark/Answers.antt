use Rattle.std.proofs.Common.{rules, not}
use Rattle.std.proofs.lemmas.Fn.{filter_same}
use Rattle.standings.specs.declared.mark.Mark.{Mark}
use Rattle.standings.specs.Marks.{is_same_mark}
use Rattle.board_traces.proofs.change.drop_mark.Goals as goal

pub returns : goal.returns
returns c = filter_same _ (λ (other : Mark). not (is_same_mark other c.args.mark)) _ (λ x b q said. (search rules, search rules)) _ _ c.retain.ensures.filtered

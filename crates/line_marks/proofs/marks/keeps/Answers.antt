use Rattle.std.proofs.Common.{rules, tests, ◌==◌, ◌∙◌}
use Rattle.std.proofs.lemmas.Iterator.Adapters.{YieldsList-from_rev_slice}
use Rattle.std.proofs.lemmas.Iterator.Search.{any_from_yields_List}
use Rattle.board_record.specs.declared.record.Record.{Record}
use Rattle.line_marks.proofs.Backwards.{kept_backwards}
use Rattle.line_marks.proofs.marks.keeps.Goals as goal

pub returns : goal.returns
returns c =
    any_from_yields_List (λ (board : Record). board.id == c.args.id) _ _ _ c.any.ensures.ran (YieldsList-from_rev_slice c.args.boards.now cc) (λ x b q k. search (rules, tests))
    ∙ kept_backwards c.args.id c.args.boards.now

use Rattle.std.proofs.Common.{arith, List, ℕ, subst}
use Rattle.line_script.proofs.Items.{four_items}
use Rattle.line_script.specs.Grammar.{line_as, sub_form}
use Rattle.line_script.specs.Words.{Reads}
use Rattle.line_script.proofs.forms.sub.Goals as goal

pub returns-in-len4-clause-answer : goal.returns-in-len4-clause-answer
returns-in-len4-clause-answer c =
    let P : List (List ℕ) → Type 0 = λ words. Reads (line_as sub_form words) c.sub_board.result in
    subst P (four_items (λ word. word.now) c.args.words.now _ (omega (arith, c.in-len4))) c.sub_board.ensures.answer

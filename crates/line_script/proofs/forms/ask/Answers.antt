use Rattle.std.proofs.Common.{arith, List, ℕ, subst}
use Rattle.line_script.proofs.Items.{four_items, three_items}
use Rattle.line_script.specs.Grammar.{ask_form, line_as}
use Rattle.line_script.specs.Words.{Reads}
use Rattle.line_script.proofs.forms.ask.Goals as goal

pub returns-in-len3-clause-answer : goal.returns-in-len3-clause-answer
returns-in-len3-clause-answer c =
    let P : List (List ℕ) → Type 0 = λ words. Reads (line_as ask_form words) c.ask_by.result in
    subst P (three_items (λ word. word.now) c.args.words.now _ (omega (arith, c.in-len3))) c.ask_by.ensures.answer

pub returns-in-len4-clause-answer : goal.returns-in-len4-clause-answer
returns-in-len4-clause-answer c =
    let P : List (List ℕ) → Type 0 = λ words. Reads (line_as ask_form words) c.ask_place.result in
    subst P (four_items (λ word. word.now) c.args.words.now _ (omega (arith, c.in-len4))) c.ask_place.ensures.answer

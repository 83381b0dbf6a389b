use Rattle.std.proofs.Common.{◌++◌, ℕ, List, drop, sym, ap, ◌∙◌}
use Rattle.std.proofs.lemmas.List.{take-append-drop}
use Rattle.line_base.specs.Number.{are_digits}
use Rattle.canonical_frames.proofs.digits.split_digits.Goals as goal

pub returns-clause-digits : goal.returns-clause-digits
returns-clause-digits c = ap are_digits c.split_at.ensures.front ∙ c.count_digits-count.ensures.digits

pub returns-clause-parts : goal.returns-clause-parts
returns-clause-parts c =
    sym (take-append-drop c.count_digits-count.result c.args.bytes.now)
    ∙ ap (λ (t : List ℕ). t ++ drop c.count_digits-count.result c.args.bytes.now) (sym c.split_at.ensures.front)
    ∙ ap (λ (t : List ℕ). c.split_at.result.0.now ++ t) (sym c.split_at.ensures.back)

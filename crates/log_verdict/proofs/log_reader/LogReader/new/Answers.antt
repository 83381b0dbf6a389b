use Rattle.std.proofs.Common.{◌≡◌, ◌==◌, ◌++◌, [], ℕ, List, false, sym, ap, subst, arith}
use Rattle.std.proofs.lemmas.List.Elements.{All-from_recursion}
use Rattle.std.specs.Str.Lines.{lines}
use Rattle.log_verdict.specs.LineEnds.{HasNoEnd}
use Rattle.log_verdict.proofs.log_reader.LogReader.new.Goals as goal

nothing_ends : HasNoEnd []
nothing_ends = record { none = All-from_recursion (λ (b : ℕ). (b == 10) ≡ false) [] tt }

pub invariant_of-result : goal.invariant_of-result
invariant_of-result c = record {
  few = omega (arith, c.new.ensures.none);
  no_end = subst HasNoEnd (sym c.new-2.ensures.items) nothing_ends;
  short = omega (arith, c.new-2.ensures.len);
}

pub returns-clause-follows : goal.returns-clause-follows
returns-clause-follows c = record { given = []; cut = λ later. ap (λ (p : List ℕ). lines (p ++ later)) (sym c.new-2.ensures.items); read = c.new.ensures.reads }

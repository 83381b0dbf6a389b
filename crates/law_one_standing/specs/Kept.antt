-- What holds along a line, by numbers.
use Rattle.std.specs.Prelude.{ℕ}
use Rattle.line_step.specs.Numbered.{Each, EachBody}
use Rattle.law_one_standing.specs.Places.{AreApart}
use Rattle.law_one_standing.specs.Relation.{Between, Neighbours, Owns, Stand}

-- each two neighbours and each machine are in their relation, and each board is in one place
pub record Keeps (ms : ℕ → Stand) (bs : ℕ → Between) : Type 0 where
  pub neighbours : Each Neighbours ms bs
  pub machines : EachBody Owns ms bs
  pub apart : AreApart ms bs

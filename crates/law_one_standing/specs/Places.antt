-- Where a board lies, by numbers, and that it lies in one place.
use Rattle.std.specs.Prelude.{Some, true, ℕ, ◌≡◌}
use Rattle.line_world.specs.declared.gap.Gap.{Gap}
use Rattle.line_world.specs.declared.gap.Gap.TheVariants as gaps
use Rattle.law_machine_custody.specs.Good.{Lies}
use Rattle.law_one_standing.specs.Relation.{Between, Stand}
use Rattle.law_one_standing.specs.Standing.{AreOnce}

-- a place on the floor: the list of a machine, or a gap
pub data Spot : Type 0 where
  at_machine : ℕ → Spot
  in_gap : ℕ → Spot

-- a board with this id lies in a gap
pub data LiesIn : ℕ → Gap → Type 0 where
  lies_begun : {x : ℕ} → LiesIn x (gaps.Begun (record { id = Some x }))
  lies_left : {x : ℕ} → LiesIn x (gaps.Left (record { id = Some x }))

pub data LiesAt (ms : ℕ → Stand) (bs : ℕ → Between) (x : ℕ) : Spot → Type 0 where
  lies_at : {m : ℕ} → Lies x (ms m).place.boards → LiesAt ms bs x (at_machine m)
  lies_in : {k : ℕ} → LiesIn x (bs k).gap.lies → LiesAt ms bs x (in_gap k)

-- no two boards have one id; what is gone lies nowhere; and it went from one place
pub record AreApart (ms : ℕ → Stand) (bs : ℕ → Between) : Type 0 where
  pub once : (m : ℕ) → AreOnce (ms m).place.boards
  pub one_place : (x : ℕ) (p q : Spot) → LiesAt ms bs x p → LiesAt ms bs x q → p ≡ q
  pub nowhere : (k x : ℕ) (p : Spot) → (bs k).gone x ≡ true → LiesAt ms bs x p → ⊥
  pub gone_once : (j k x : ℕ) → (bs j).gone x ≡ true → (bs k).gone x ≡ true → j ≡ k

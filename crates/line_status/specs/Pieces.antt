-- WHAT IS WRITTEN IN PIECES: what waits to be written is pushed when it is a big piece.
use Rattle.std.specs.Prelude.{◌≡◌, ◌≤◌, ◌++◌, ℕ, List, Option}
use Rattle.line_outside.specs.Faults.{Rose}
use Rattle.line_outside.specs.Sink.{Grows, GrowsInPart}
use Rattle.line_outside.specs.declared.pushing.Pushed.{Pushed}
use Rattle.line_outside.specs.declared.pushing.Pushed.TheVariants as pushes

-- some of what waits was pushed, and the rest still waits
pub record HasPushed (old now : Option (List ℕ)) (text_old text_new : List ℕ) : Type 0 where
  pub pushed : List ℕ
  pub parts : pushed ++ text_new ≡ text_old
  pub grows : Grows old now pushed

abbrev pub PushesFull : Pushed → Option (List ℕ) → Option (List ℕ) → ℕ → ℕ → List ℕ → List ℕ
    → Type 0
PushesFull pushes.Whole old new before now text_old text_new =
    (before ≤ now) × HasPushed old new text_old text_new
PushesFull pushes.Failed old new before now text_old text_new =
    (before ≤ now) × Rose before now × GrowsInPart old new text_old

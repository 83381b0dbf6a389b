-- How deep an element is that exists.
use Rattle.std.specs.Prelude.{◌≡◌, ◌≤◌, ℕ}
use Rattle.hermes_element.specs.Element.{Forest}
use Rattle.hermes_element.specs.Canonical.{depth_of}

-- children have so many levels of elements, and at most three
pub record HasLevels (children : Forest) (levels : ℕ) : Type 0 where
  pub is : levels ≡ depth_of children
  pub few : levels ≤ 3

-- What adding a child answers.
use Rattle.std.specs.Prelude.{◌≡◌, ◌≤◌, Result, Ok, Err}
use Rattle.hermes_element.specs.Element.{Forest, Tree, add}
use Rattle.hermes_element.specs.Canonical.{depth_of}
use Rattle.hermes_element.specs.declared.refusal.ChildError.{ChildError}
use Rattle.hermes_element.specs.declared.refusal.ChildError.TheVariants as errors

-- the child stands behind the others; or it has four levels of elements, or memory is wanting, and
-- nothing has changed
abbrev pub Adds : Forest → Tree → Forest → Result (Unit {0}) ChildError → Type 0
Adds old child new (Ok _) = (new ≡ add old child) × (depth_of child.children ≤ 2)
Adds old child new (Err errors.Deep) = (new ≡ old) × (depth_of child.children ≡ 3)
Adds old child new (Err errors.Memory) = (new ≡ old) × (depth_of child.children ≤ 2)

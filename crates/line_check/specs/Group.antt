use Rattle.std.specs.Prelude.{◌≤◌}
use Rattle.line_check.specs.declared.group.Group.{Group}

-- a group is one of machines 1 to 64
pub record IsOfLine (group : Group) : Type 0 where
  pub least : 1 ≤ group.machine
  pub most : group.machine ≤ 64

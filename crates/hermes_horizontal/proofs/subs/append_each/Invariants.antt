use Rattle.std.proofs.Common.{◌≡◌, ◌++◌, drop}
use Rattle.hermes_element.specs.Canonical.{canonical_forest}
use Rattle.hermes_element.specs.Standing.{StillStands}
use Rattle.hermes_horizontal.specs.Canonical.{sub_children}
use Rattle.hermes_horizontal.proofs.subs.append_each.Given as goal

-- what stood there still stands, and with the rest of the sub boards it is what is wanted
abbrev pub invariant-loop-sub : goal.invariant-loop-sub
invariant-loop-sub l = StillStands l.fn.to.items l.to.items × (l.to.items ++ canonical_forest (sub_children (drop l.sub-index l.subs)) ≡ l.fn.to.items ++ canonical_forest (sub_children l.subs))

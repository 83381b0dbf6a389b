-- What a micro event does: the body after it, and its acts in their order.
use Rattle.std.specs.Prelude.{List, [], ◌++◌}
use Rattle.node_core.specs.declared.act.Act.{Act}
use Rattle.node_core.specs.declared.lane.Body.{Body}

pub record Done : Type 0 where
  pub body : Body
  pub acts : List Act

abbrev pub done : Body → List Act → Done
done body acts = record { body = body; acts = acts }

-- nothing changes, and nothing is told
abbrev pub stays : Body → Done
stays body = record { body = body; acts = [] }

-- these acts first
abbrev pub behind : List Act → Done → Done
behind acts d = record { body = d.body; acts = acts ++ d.acts }

-- one after the other
abbrev pub and_then : Done → (Body → Done) → Done
and_then first next =
    record { body = (next first.body).body; acts = first.acts ++ (next first.body).acts }

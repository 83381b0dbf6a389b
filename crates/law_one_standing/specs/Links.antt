-- What stands together in a link, whatever flows on it.
use Rattle.std.specs.Prelude.{true, ℕ, ◌≡◌}
use Rattle.line_link.specs.Link.{AreBegun, LinkParts, are_joined, is_dry_without}
use Rattle.line_step.specs.State.{LineState}
use Rattle.line_step.specs.World.{link_at}

-- the two ends of a link that stands have one connection; to an end without one nothing flows; and
-- of the oldest text in each direction not all has arrived
pub record IsWholeLink (link : LinkParts) : Type 0 where
  pub joined : are_joined link.stands link.upstream link.downstream ≡ true
  pub dry_upstream : is_dry_without link.upstream link.flows.to_upstream.texts ≡ true
  pub dry_downstream : is_dry_without link.downstream link.flows.to_downstream.texts ≡ true
  pub begun : AreBegun link.flows

abbrev pub AreWholeLinks : LineState → Type 0
AreWholeLinks s = (link : ℕ) → IsWholeLink (link_at link s.world)

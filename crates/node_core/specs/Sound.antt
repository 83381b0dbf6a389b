-- What holds of a machine between its steps.
use Rattle.std.specs.Prelude.{◌≡◌, ◌≤◌, ℕ}
use Rattle.line_base.specs.declared.states.Role.TheVariants.{Upstream, Downstream}
use Rattle.node_core.specs.declared.lane.Body.{Body}
use Rattle.node_core.specs.Halves.{OffersFront}
use Rattle.node_core.specs.Places.{used}

-- what is offered is the front record; the machine is downstream at its entry and upstream at its
-- exit; and no more places are used than there are
pub record IsSound (capacity : ℕ) (body : Body) : Type 0 where
  pub offers : OffersFront body
  pub entry : body.entry.session.role ≡ Downstream
  pub exit : body.exit.session.role ≡ Upstream
  pub places : used body ≤ capacity

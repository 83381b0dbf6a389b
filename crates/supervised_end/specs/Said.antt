-- What a machine says to its supervisor.
use Rattle.std.specs.Prelude.{ℕ, ℤ, Bool, true, false, List, [], codes, Some, flat_map, if◌then◌else◌}
use Rattle.line_base.specs.declared.states.Severity.{Severity}
use Rattle.line_base.specs.declared.states.Severity.TheVariants as severity
use Rattle.hermes_vertical.specs.Canonical.{canonical}
use Rattle.hermes_vertical.specs.declared.message.Vertical.{Vertical}
use Rattle.hermes_vertical.specs.declared.message.Vertical.TheVariants as bodies
use Rattle.node_core.specs.declared.act.Act.{Act}
use Rattle.node_core.specs.declared.act.Act.TheVariants as acts
use Rattle.node_core.specs.declared.input.No.{No}
use Rattle.node_core.specs.declared.input.No.TheVariants as nos

-- the text of a message of this moment
abbrev pub text_of : ℤ → Vertical → List ℕ
text_of moment body = canonical (record { stamp = Some moment; body = body })

abbrev pub notification : ℕ → Severity → List ℕ → Vertical
notification number severity text = bodies.Notification (record { number = number }) severity text

-- how it describes itself
abbrev pub system_of : List ℕ → Vertical
system_of machine_id = bodies.SupervisoryServiceDescription (record {
  system = machine_id;
  version = codes "1.5";
  features = record { check_alive = true; forecast = false; query = false; send = false };
})

-- a second connection is refused with this
abbrev pub connected_already : Vertical
connected_already = notification 2 severity.Error (codes "already connected")

-- what is told of an answer that isn't taken
abbrev pub untaken : No → List ℕ
untaken nos.UnknownQuery = codes "unknown query"
untaken (nos.Answered query) = codes "answered"
untaken why = codes "not supervised"

-- the text of what a supervisor is told, whose session stands; where none stands, it is dropped
abbrev pub told_for : Bool → Act → List ℕ
told_for stands (acts.Tells message) = if stands then canonical message else []
told_for stands act = []

abbrev pub all_told_for : Bool → List Act → List ℕ
all_told_for stands told = flat_map (told_for stands) told

-- A record that is changed by hand keeps its id.
use Rattle.std.proofs.Common.{ℕ, refl}
use Rattle.board_record.specs.declared.record.Record.{Record}
use Rattle.node_core.specs.declared.act.Act.{Act}
use Rattle.node_core.specs.declared.lane.Body.{Body}
use Rattle.node_core.specs.Desk.{Desk}
use Rattle.node_core.specs.Event.{Event}
use Rattle.node_core.proofs.KeptIds.{LeavesId}
use Rattle.step_rules.specs.Causes.{
  Changes,
  changes_quality,
}

pub changes_leave : {desk : Desk} {event : Event} {body : Body} {id : ℕ}
    {change : Record → Record} {act : Act} → Changes desk event body id change act
    → LeavesId change
changes_leave (changes_quality is) board = refl
changes_leave _ board = refl

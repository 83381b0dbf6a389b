-- What a session passes on is the message that it heard, and its session stands then.
use Rattle.std.proofs.Common.{◌≡◌, Bool, true, Some, refl}
use Rattle.hermes_horizontal.specs.declared.message.Horizontal.{Horizontal}
use Rattle.session_core.specs.declared.actions.Action.TheVariants.{Pass}
use Rattle.session_core.specs.End.{SessionEnd, is_standing_state}
use Rattle.session_core.specs.Input.{heard}
use Rattle.session_core.specs.Row.{SessionRow}
use Rattle.session_core.specs.Table.{
  IsSessionRow,
  passes_available,
  passes_finished,
  passes_forecast,
  passes_info,
  passes_query,
  passes_ready,
  passes_revoked,
  passes_start,
  passes_stop,
  passes_unready,
}

pub passes_itself : {s : SessionEnd} {what passed : Horizontal} {unsettled : Bool}
    {row : SessionRow} → IsSessionRow s (heard what unsettled) row
    → row.actions.first ≡ Some (Pass passed) → passed ≡ what
passes_itself passes_ready first = cc
passes_itself _ first = cc

pub passes_standing : {s : SessionEnd} {what passed : Horizontal} {unsettled : Bool}
    {row : SessionRow} → IsSessionRow s (heard what unsettled) row
    → row.actions.first ≡ Some (Pass passed) → is_standing_state row.after.state ≡ true
passes_standing passes_ready first = refl
passes_standing passes_unready first = refl
passes_standing passes_start first = refl
passes_standing passes_stop first = refl
passes_standing passes_query first = refl
passes_standing passes_available first = refl
passes_standing passes_revoked first = refl
passes_standing passes_finished first = refl
passes_standing passes_forecast first = refl
passes_standing passes_info first = refl
passes_standing _ first = cc

-- A side hears a message.
use Rattle.std.specs.Prelude.{ℕ, Bool, [], ◌∷◌, Option, Some, None, is_some}
use Rattle.line_base.specs.declared.states.Side.{Side}
use Rattle.line_base.specs.declared.states.Side.TheVariants.{Entry, Exit}
use Rattle.hermes_horizontal.specs.Parts.{kind_of}
use Rattle.hermes_horizontal.specs.declared.message.Message.{Message}
use Rattle.hermes_horizontal.specs.declared.message.Horizontal.{Horizontal}
use Rattle.hermes_horizontal.specs.declared.message.Horizontal.TheVariants as bodies
use Rattle.session_core.specs.Breach.{unexpected}
use Rattle.session_core.specs.Input.{heard}
use Rattle.session_core.specs.Row.{SessionRow, session_row}
use Rattle.session_core.specs.declared.actions.Actions.{Actions}
use Rattle.session_core.specs.declared.actions.Action.{Action}
use Rattle.session_core.specs.declared.actions.Action.TheVariants as action
use Rattle.handover_out.specs.State.{held, would_open}
use Rattle.handover_out.specs.Row.{OutRow, outlet_row}
use Rattle.handover_out.specs.declared.input.OutInput.{OutInput}
use Rattle.handover_out.specs.declared.input.OutInput.TheVariants as out_input
use Rattle.handover_in.specs.Row.{InRow, intake_row}
use Rattle.handover_in.specs.declared.input.InInput.{InInput}
use Rattle.handover_in.specs.declared.input.InInput.TheVariants as in_input
use Rattle.node_core.specs.declared.act.Act.TheVariants as acts
use Rattle.node_core.specs.Desk.{Desk}
use Rattle.node_core.specs.declared.word.ExitWord.{ExitWord}
use Rattle.node_core.specs.declared.word.ExitWord.TheVariants as exits
use Rattle.node_core.specs.declared.word.EntryWord.{EntryWord}
use Rattle.node_core.specs.declared.word.EntryWord.TheVariants as entries
use Rattle.node_core.specs.declared.lane.Body.{Body}
use Rattle.node_core.specs.Done.{Done, done, stays, behind}
use Rattle.node_core.specs.Sides.{session_at, with_session}
use Rattle.node_core.specs.Told.{sends}
use Rattle.node_core.specs.Information.{answer_to}
use Rattle.node_core.specs.Halves.{opening_board, behind_opening, outlet_did, intake_did}
use Rattle.node_core.specs.Session.{actions_did, breaches}

-- ---- what a message is to the halves: None where their table has no row for it

abbrev pub outlet_took : Desk → Body → Option OutRow → Option Done
outlet_took desk body None = None
outlet_took desk body (Some row) = Some (outlet_did desk body row)

abbrev pub intake_took : Desk → Body → Option InRow → Option Done
intake_took desk body None = None
intake_took desk body (Some row) = Some (intake_did desk body row)

abbrev pub at_exit : Desk → OutInput → Body → Option Done
at_exit desk input body = outlet_took desk body (outlet_row body.outlet input)

abbrev pub at_entry : Desk → InInput → Body → Option Done
at_entry desk input body = intake_took desk body (intake_row body.intake input)

-- a start takes the front record along, where it opens
abbrev pub start_took : Desk → ℕ → Bool → Body → Option Done
start_took desk id opens body =
    at_exit desk (out_input.Start id (opening_board opens body.kept))
    (record body { kept = behind_opening opens body.kept })

-- ---- what a side makes of a message that its session passes on

abbrev pub exit_word : Horizontal → ExitWord
exit_word (bodies.MachineReady _) = exits.Ready
exit_word bodies.RevokeMachineReady = exits.Unready
exit_word (bodies.StartTransport id) = exits.Start id
exit_word (bodies.StopTransport state id) = exits.Stop state id
exit_word (bodies.QueryBoardInfo top bottom) = exits.Query top bottom
exit_word _ = exits.Nothing

abbrev pub exit_took : Desk → ExitWord → Body → Option Done
exit_took desk exits.Ready body = at_exit desk out_input.MachineReady body
exit_took desk exits.Unready body = at_exit desk out_input.RevokeMachineReady body
exit_took desk (exits.Start id) body = start_took desk id (would_open body.outlet id) body
exit_took desk (exits.Stop state id) body = at_exit desk (out_input.Stop state id) body
exit_took desk (exits.Query top bottom) body =
    Some (done body (sends desk Exit (bodies.SendBoardInfo (answer_to body.kept top bottom))))
exit_took desk exits.Nothing body = Some (stays body)

abbrev pub entry_word : Horizontal → EntryWord
entry_word (bodies.BoardAvailable board) = entries.Available board
entry_word bodies.RevokeBoardAvailable = entries.Revoked
entry_word (bodies.TransportFinished state id) = entries.Finished state id
entry_word _ = entries.Nothing

abbrev pub entry_took : Desk → EntryWord → Body → Option Done
entry_took desk (entries.Available board) body = at_entry desk (in_input.BoardAvailable board) body
entry_took desk entries.Revoked body = at_entry desk in_input.RevokeBoardAvailable body
entry_took desk (entries.Finished state id) body = at_entry desk (in_input.Finished state id) body
entry_took desk entries.Nothing body = Some (stays body)

abbrev pub side_took : Desk → Side → Horizontal → Body → Option Done
side_took desk Entry what body = entry_took desk (entry_word what) body
side_took desk Exit what body = exit_took desk (exit_word what) body

-- ---- hearing it

-- the half has a row for the message, or none
abbrev pub passed : Desk → Side → Message → Body → Option Done → Done
passed desk side message body None = breaches desk side (unexpected (kind_of message.body)) body
passed desk side message body (Some did) = behind (acts.Hears side message ∷ []) did

-- the session took the message
abbrev pub taken : Desk → Side → Message → Option Action → Actions → Body → Done
taken desk side message (Some (action.Pass what)) actions body =
    passed desk side message body (side_took desk side what body)
taken desk side message _ actions body =
    behind (acts.Hears side message ∷ []) (actions_did desk side actions body)

-- the session has a row for the message, or none
abbrev pub rowed : Desk → Side → Message → Body → Option SessionRow → Done
rowed desk side message body None = breaches desk side (unexpected (kind_of message.body)) body
rowed desk side message body (Some row) =
    taken desk side message row.actions.first row.actions (with_session side row.after body)

-- THE MICRO EVENT: a side hears a message
abbrev pub hears : Desk → Side → Message → Body → Done
hears desk side message body =
    rowed desk side message body
    (session_row (session_at side body) (heard message.body (is_some (held body.outlet))))

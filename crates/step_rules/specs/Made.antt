-- HOW A STEP IS MADE: the pieces of which all that a machine does is put together.
--
-- What holds of each piece, and of two in turn where it holds of both, holds of the whole step.
-- A proof about steps is a function over these pieces, with a clause for each.
use Rattle.std.specs.Prelude.{◌≡◌, ◌++◌, ◌∷◌, ℕ, Bool, true, List, [], Some}
use Rattle.line_base.specs.declared.states.Side.{Side}
use Rattle.line_base.specs.declared.states.Side.TheVariants.{Exit}
use Rattle.board_record.specs.declared.record.Record.{Record}
use Rattle.board_record.specs.declared.sensed.Sensed.{Sensed}
use Rattle.hermes_horizontal.specs.declared.message.Horizontal.TheVariants as bodies
use Rattle.hermes_horizontal.specs.declared.message.Message.{Message}
use Rattle.session_core.specs.declared.actions.Action.TheVariants.{Pass}
use Rattle.session_core.specs.End.{at_rest}
use Rattle.session_core.specs.Input.{Input, heard}
use Rattle.session_core.specs.Row.{SessionRow}
use Rattle.session_core.specs.Table.{IsSessionRow}
use Rattle.handover_out.specs.declared.input.OutInput.{OutInput}
use Rattle.handover_out.specs.declared.input.OutInput.TheVariants as out_input
use Rattle.handover_out.specs.Row.{OutRow}
use Rattle.handover_out.specs.State.{would_open}
use Rattle.handover_out.specs.Table.{IsOutletRow}
use Rattle.handover_in.specs.declared.input.InInput.{InInput}
use Rattle.handover_in.specs.Row.{InRow}
use Rattle.handover_in.specs.Table.{IsIntakeRow}
use Rattle.node_core.specs.declared.act.Act.{Act}
use Rattle.node_core.specs.declared.act.Act.TheVariants as acts
use Rattle.node_core.specs.declared.act.Setting.{Setting}
use Rattle.node_core.specs.declared.lane.Body.{Body}
use Rattle.node_core.specs.declared.word.Word.{Word}
use Rattle.node_core.specs.declared.word.Word.TheVariants as words
use Rattle.node_core.specs.Announces.{announces}
use Rattle.node_core.specs.Boards.{with_kept}
use Rattle.node_core.specs.Desk.{Desk}
use Rattle.node_core.specs.Done.{Done, behind, done, stays}
use Rattle.node_core.specs.Event.{Event, Notice, Words, event_did}
use Rattle.node_core.specs.Halves.{
  behind_opening,
  ended,
  half_closed,
  intake_did,
  opening_board,
  outlet_did,
}
use Rattle.node_core.specs.Reads.{all_read}
use Rattle.node_core.specs.Session.{actions_did, breaches, closes}
use Rattle.node_core.specs.Sides.{is_open, is_standing, session_at, with_session, with_will}
use Rattle.step_rules.specs.Causes.{
  ByHand,
  Cause,
  Announcing,
  Hearing,
  IsTalk,
  IsWordOf,
  Meeting,
  Reading,
  SetsWill,
  Tells,
  ToIntake,
  ToOutlet,
  ToSession,
}

-- the body of a side whose connection is at an end
abbrev pub without_connection : Side → Body → Body
without_connection side body = with_session side (at_rest (session_at side body).role) body

pub data Made (desk : Desk) : Cause → Body → Done → Type 0 where
  -- nothing, and two in turn
  made_none : {cause : Cause} {body : Body} → Made desk cause body (stays body)
  made_both : {cause : Cause} {body : Body} {one two : Done} → Made desk cause body one
      → Made desk cause one.body two
      → Made desk cause body (done two.body (one.acts ++ two.acts))
  -- what a word makes, at a side that has a connection
  made_word : {side : Side} {word : Word} {spoken : List Word} {body : Body} {d : Done}
      → IsWordOf word spoken → is_open side body ≡ true → Made desk (Hearing side word) body d
      → Made desk (Meeting (Words side spoken)) body d
  -- an act that changes nothing
  made_act : {cause : Cause} {body : Body} {act : Act} → Tells desk cause body act
      → Made desk cause body (done body (act ∷ []))
  -- a row of a session, and what it has the machine do; or it passes a message on
  made_row : {cause : Cause} {side : Side} {input : Input} {row : SessionRow} {body : Body}
      → ToSession cause side input → IsSessionRow (session_at side body) input row
      → Made desk cause (with_session side row.after body)
      (actions_did desk side row.actions (with_session side row.after body))
      → Made desk cause body
      (actions_did desk side row.actions (with_session side row.after body))
  made_passed : {side : Side} {message : Message} {unsettled : Bool} {row : SessionRow}
      {body : Body} {d : Done}
      → IsSessionRow (session_at side body) (heard message.body unsettled) row
      → row.actions.first ≡ Some (Pass message.body)
      → is_standing side (with_session side row.after body) ≡ true
      → Made desk (Hearing side (words.Says message)) (with_session side row.after body) d
      → Made desk (Hearing side (words.Says message)) body d
  -- a connection ends: the machine closes it, finds it closed, or closes it at a breach
  made_close : {cause : Cause} {side : Side} {body : Body} → IsTalk cause
      → Made desk cause body (half_closed desk side body)
      → Made desk cause body (closes desk side body)
  made_notice : {side : Side} {body : Body} → is_open side body ≡ true
      → Made desk (Meeting (Notice side)) (without_connection side body) (ended desk side body)
      → Made desk (Meeting (Notice side)) body
      (behind (acts.Notices side ∷ []) (ended desk side body))
  made_breach : {side : Side} {word : Word} {text : List ℕ} {body : Body}
      → Made desk (Hearing side word) (without_connection side body) (ended desk side body)
      → Made desk (Hearing side word) body (breaches desk side text body)
  -- a row of the outlet, at a start that is heard and at another input, and one of the intake
  made_start : {message : Message} {id : ℕ} {row : OutRow} {body : Body}
      → message.body ≡ bodies.StartTransport id → is_standing Exit body ≡ true
      → IsOutletRow body.outlet
      (out_input.Start id (opening_board (would_open body.outlet id) body.kept)) row
      → Made desk (Hearing Exit (words.Says message)) body
      (outlet_did desk
      (record body { kept = behind_opening (would_open body.outlet id) body.kept }) row)
  made_outlet : {cause : Cause} {input : OutInput} {row : OutRow} {body : Body}
      → ToOutlet cause body input → IsOutletRow body.outlet input row
      → Made desk cause body (outlet_did desk body row)
  made_intake : {cause : Cause} {input : InInput} {row : InRow} {body : Body}
      → ToIntake desk cause body input → IsIntakeRow body.intake input row
      → Made desk cause body (intake_did desk body row)
  -- a deed by hand, and the will at a side
  made_by_hand : {event : Event} {body : Body} {kept : List Record} {act : Act}
      → ByHand desk event body kept act
      → Made desk (Meeting event) body (done (with_kept kept body) (act ∷ []))
  made_will : {event : Event} {side : Side} {on : Bool} {setting : Setting} {body : Body}
      → SetsWill event side on setting
      → Made desk (Meeting event) body
      (done (with_will side on body) (acts.Sets setting ∷ []))

-- the three parts of a step
pub record IsMade (desk : Desk) (unread : List Sensed) (event : Event) (body : Body)
    : Type 0 where
  pub read : Made desk Reading body (all_read desk unread body)
  pub met : Made desk (Meeting event) (all_read desk unread body).body
      (event_did desk event (all_read desk unread body).body)
  pub announced : Made desk (Announcing true)
      (event_did desk event (all_read desk unread body).body).body
      (announces desk (event_did desk event (all_read desk unread body).body).body)

-- THE LAW: every step is made of these pieces, whatever was before it
abbrev pub EachStepIsMade : Type 0
EachStepIsMade =
    (desk : Desk) (unread : List Sensed) (event : Event) (body : Body)
    → IsMade desk unread event body

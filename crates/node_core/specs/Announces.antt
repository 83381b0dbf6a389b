-- The five announcements, each made where it is due.
use Rattle.std.specs.Prelude.{ℕ, ◌&&◌, ◌||◌, Bool, true, false, Option, Some, None, is_some, is_none, not, slice_get}
use Rattle.line_base.specs.declared.states.Side.TheVariants.{Entry, Exit}
use Rattle.board_record.specs.declared.record.Record.{Record}
use Rattle.handover_out.specs.declared.input.OutInput.TheVariants as out_input
use Rattle.handover_out.specs.State.{is_idle_phase, is_id}
use Rattle.handover_in.specs.State.{name_of_phase}
use Rattle.handover_in.specs.declared.phase.InPhase.{InPhase}
use Rattle.handover_in.specs.declared.phase.InPhase.TheVariants as names
use Rattle.handover_in.specs.declared.input.InInput.TheVariants as in_input
use Rattle.node_core.specs.Desk.{Desk}
use Rattle.node_core.specs.declared.lane.Body.{Body}
use Rattle.node_core.specs.Done.{Done, stays, and_then}
use Rattle.node_core.specs.Sides.{is_standing}
use Rattle.node_core.specs.Halves.{at_outlet, at_intake}
use Rattle.node_core.specs.Places.{has_place}

abbrev pub is_free : InPhase → Bool
is_free names.Idle = true
is_free names.Taking = false
is_free names.Stopped = false
is_free names.Waiting = false

-- the intake has no open handover
abbrev pub is_intake_free : Body → Bool
is_intake_free body = is_free (name_of_phase body.intake.phase)

-- the front record, if there is one, is that of the board that is offered
abbrev pub is_front : Option ℕ → Option Record → Bool
is_front offered None = false
is_front offered (Some board) = is_id offered board.id

-- REVOKE: a board is offered, and the exit isn't willing or the front record isn't that board's
abbrev pub revokes_now : Body → Bool
revokes_now body =
    is_idle_phase body.outlet.phase && is_some body.outlet.offered
    && (not body.exit.willing || not (is_front body.outlet.offered (slice_get body.kept 0)))

abbrev pub revoke_by : Desk → Bool → Body → Done
revoke_by desk true body = at_outlet desk out_input.Revoke body
revoke_by desk false body = stays body

abbrev pub revoke : Desk → Body → Done
revoke desk body = revoke_by desk (revokes_now body) body

-- UNREADY: the machine said that it is ready, and the entry isn't willing or there is no place
abbrev pub unreadies_now : Desk → Body → Bool
unreadies_now desk body =
    is_intake_free body && body.intake.ready
    && (not body.entry.willing || not (has_place desk body))

abbrev pub unready_by : Desk → Bool → Body → Done
unready_by desk true body = at_intake desk in_input.Unready body
unready_by desk false body = stays body

abbrev pub unready : Desk → Body → Done
unready desk body = unready_by desk (unreadies_now desk body) body

-- OFFER of the front record: the exit's session stands, the outlet is idle, nothing is offered,
-- and the exit is willing
abbrev pub offers_now : Body → Bool
offers_now body =
    is_standing Exit body && is_idle_phase body.outlet.phase && is_none body.outlet.offered
    && body.exit.willing

abbrev pub offer_by : Desk → Bool → Option Record → Body → Done
offer_by desk true (Some front) body = at_outlet desk (out_input.Offer front.id) body
offer_by desk true None body = stays body
offer_by desk false _ body = stays body

abbrev pub offer : Desk → Body → Done
offer desk body = offer_by desk (offers_now body) (slice_get body.kept 0) body

-- READY: the entry's session stands, the intake is idle and not ready, the entry is willing, and
-- there is a place
abbrev pub readies_now : Desk → Body → Bool
readies_now desk body =
    is_standing Entry body && is_intake_free body && not body.intake.ready && body.entry.willing
    && has_place desk body

abbrev pub ready_by : Desk → Bool → Body → Done
ready_by desk true body = at_intake desk in_input.Ready body
ready_by desk false body = stays body

abbrev pub ready : Desk → Body → Done
ready desk body = ready_by desk (readies_now desk body) body

-- START: the entry's session stands, the intake is idle and ready, and an offer stands
abbrev pub starts_now : Body → Bool
starts_now body =
    is_standing Entry body && is_intake_free body && body.intake.ready && is_some body.intake.offer

abbrev pub start_by : Desk → Bool → Body → Done
start_by desk true body = at_intake desk in_input.Start body
start_by desk false body = stays body

abbrev pub start : Desk → Body → Done
start desk body = start_by desk (starts_now body) body

-- the announcements, in this order
abbrev pub announces : Desk → Body → Done
announces desk body =
    and_then (revoke desk body) (λ one.
    and_then (unready desk one) (λ two.
    and_then (offer desk two) (λ three. and_then (ready desk three) (start desk))))

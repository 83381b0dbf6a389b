-- THE HALVES OF A MACHINE say something only where their side has a connection: as they read, at a
-- fault, where a connection ends, and as the machine announces.
use Rattle.std.proofs.Common.{Bool, List, None, Option, Some, [], ap, false, inl, inr, refl, subst, sym, true, ℕ, ◌∙◌, ◌∷◌, ◌≡◌, ◌≢◌}
use Rattle.std.specs.Prelude.{is_some, slice_get, unwrap_or}
use Rattle.std.proofs.lemmas.Bool.{and_parts, false≢true, true≢false}
use Rattle.line_base.specs.declared.states.SensorEvent.{SensorEvent}
use Rattle.line_base.specs.declared.states.Side.{Side}
use Rattle.line_base.specs.declared.states.Side.TheVariants.{Entry, Exit}
use Rattle.board_record.specs.declared.record.Record.{Record}
use Rattle.board_record.specs.declared.sensed.Sensed.{Sensed}
use Rattle.session_core.specs.End.{
  SessionEnd,
  at_rest,
  is_connected_state,
  is_standing_state,
}
use Rattle.session_core.specs.declared.state.SessionState.{SessionState}
use Rattle.session_core.specs.declared.state.SessionState.TheVariants.{
  Handshake,
  NotConnected,
  Standing,
}
use Rattle.handover_out.specs.Links.{is_own as is_own_out, is_unlinked_phase as out_unlinked}
use Rattle.handover_out.specs.Row.{OutRow, outlet_row}
use Rattle.handover_out.specs.Run.{stay as out_stay, step as out_step}
use Rattle.handover_out.specs.State.{OutState}
use Rattle.handover_out.specs.Table.{IsOutletRow, offers, state_of}
use Rattle.handover_out.specs.declared.input.OutInput.{OutInput}
use Rattle.handover_out.specs.declared.input.OutInput.TheVariants as out_input
use Rattle.handover_out.specs.declared.phase.Phase.{Phase as Out}
use Rattle.handover_out.specs.declared.phase.Phase.TheVariants as out
use Rattle.handover_out.proofs.Deeds.{
  close_silent as out_close_silent,
  unlinked_silent as out_silent,
}
use Rattle.handover_out.proofs.Rows.{row_is as out_row_is}
use Rattle.handover_in.specs.Links.{is_own as is_own_in, is_unlinked_phase as in_unlinked}
use Rattle.handover_in.specs.Row.{InRow, intake_row}
use Rattle.handover_in.specs.Run.{stay as in_stay}
use Rattle.handover_in.specs.State.{InState}
use Rattle.handover_in.specs.Table.{
  IsIntakeRow,
  closed_idle,
  gets_ready,
  stands_between,
  stands_gone,
  stands_home,
  stands_idle,
  stands_settles,
  stands_stopped,
  stands_taking,
}
use Rattle.handover_in.specs.declared.input.InInput.{InInput}
use Rattle.handover_in.specs.declared.input.InInput.TheVariants as in_input
use Rattle.handover_in.proofs.Deeds.{
  close_silent as in_close_silent,
  unlinked_silent as in_silent,
}
use Rattle.handover_in.proofs.Rows.{closed_has_row, row_is as in_row_is}
use Rattle.node_core.specs.Announces.{
  announces,
  offer,
  offer_by,
  offers_now,
  readies_now,
  ready,
  ready_by,
  revoke,
  revoke_by,
  revokes_now,
  start,
  start_by,
  starts_now,
  unreadies_now,
  unready,
  unready_by,
}
use Rattle.node_core.specs.Desk.{Desk}
use Rattle.node_core.specs.Done.{Done, and_then, behind, stays}
use Rattle.node_core.specs.Halves.{
  at_intake,
  at_outlet,
  ended,
  half_closed,
  intake_row_did,
  outlet_row_did,
}
use Rattle.node_core.specs.Reads.{all_read, reads, saw}
use Rattle.node_core.specs.Sides.{is_open, is_standing, session_at, with_session}
use Rattle.node_core.specs.declared.act.Act.{Act}
use Rattle.node_core.specs.declared.act.Act.TheVariants as acts
use Rattle.node_core.specs.declared.lane.Body.{Body}
use Rattle.step_rules.specs.Opened.{closed_at, open_after}
use Rattle.step_rules.proofs.Quiet.{open_append}
use Rattle.step_rules.specs.Spoken.{AreSaidOpen, IsIntakeOff, IsOffClosed, IsOutletOff}
use Rattle.step_rules.proofs.Calm.{IsCalm, calm_in, calm_out, said_both}

-- ---- what is kept: a side that has a connection is known to have it

abbrev pub Least : Side → Bool → Body → Type 0
Least at o body = is_open at body ≡ true → o ≡ true

pub record Speaks (at : Side) (o : Bool) (d : Done) : Type 0 where
  pub said : AreSaidOpen at o d.acts
  pub least : Least at (open_after at o d.acts) d.body
  pub off : IsOffClosed at d.body

abbrev pub Says : Side → Body → Done → Type 0
Says at body d = (o : Bool) → Least at o body → IsOffClosed at body → Speaks at o d

pub says_still : (at : Side) (body : Body) → Says at body (stays body)
says_still at body o least off = record { said = tt; least = least; off = off }

pub gently : (at : Side) (o : Bool) (body : Body) (d : Done) → IsCalm at o d.acts
    → is_open at d.body ≡ is_open at body → Least at o body → IsOffClosed at d.body
    → Speaks at o d
gently at o body d calm same least off = record {
  said = calm.said;
  least = λ has. calm.same ∙ least (sym same ∙ has);
  off = off;
}

pub speaks_then : {at : Side} {o : Bool} (first : Done) (next : Body → Done) → Speaks at o first
    → Says at first.body (next first.body) → Speaks at o (and_then first next)
speaks_then {at} {o} first next f two =
    let s : Speaks at (open_after at o first.acts) (next first.body) =
    two (open_after at o first.acts) f.least f.off in
    record {
      said = said_both at o first.acts (next first.body).acts f.said s.said;
      least = λ has. open_append at o first.acts (next first.body).acts ∙ s.least has;
      off = s.off;
    }

pub says_then : (at : Side) (body : Body) (first : Done) (next : Body → Done)
    → Says at body first → ((one : Body) → Says at one (next one))
    → Says at body (and_then first next)
says_then at body first next one two o least off =
    speaks_then first next (one o least off) (two first.body)

pub speaks_behind : {at : Side} {o : Bool} (told : List Act) (d : Done) → AreSaidOpen at o told
    → Speaks at (open_after at o told) d → Speaks at o (behind told d)
speaks_behind {at} {o} told d said s = record {
  said = said_both at o told d.acts said s.said;
  least = λ has. open_append at o told d.acts ∙ s.least has;
  off = s.off;
}

-- ---- the outlet

pub off_open : {X : Type 0} (opened : Bool) → opened ≡ true → opened ≡ false → X
off_open opened is not = absurd (true≢false (sym is ∙ not))

pub outlet_at_entry : (desk : Desk) (body : Body) (row : Option OutRow)
    → Says Entry body (outlet_row_did desk body row)
outlet_at_entry desk body None o least off = says_still Entry body o least off
outlet_at_entry desk body (Some row) o least off =
    gently Entry o body (outlet_row_did desk body (Some row))
    (calm_out Entry o desk body.kept row.act (inr tt)) refl least
    (λ closed. record { apart = (off closed).apart; unsaid = (off closed).unsaid })

pub outlet_open : (desk : Desk) (body : Body) (row : Option OutRow) → is_open Exit body ≡ true
    → Says Exit body (outlet_row_did desk body row)
outlet_open desk body None has o least off = says_still Exit body o least off
outlet_open desk body (Some row) has o least off =
    gently Exit o body (outlet_row_did desk body (Some row))
    (calm_out Exit o desk body.kept row.act (inr (least has))) refl least
    (λ closed. off_open (is_open Exit body) has closed)

-- what comes to the outlet of itself: it says nothing without a connection, and stays off
row_unoffered : {s : OutState} {input : OutInput} {row : OutRow} → IsOutletRow s input row
    → is_own_out input ≡ true → s.offered ≡ None → row.after.offered ≡ None
row_unoffered offers own unsaid = cc
row_unoffered _ own unsaid = cc

out_row_off : (s : OutState) (input : OutInput) (row : OutRow) → outlet_row s input ≡ Some row
    → is_own_out input ≡ true → out_unlinked s.phase ≡ true
    → (row.act.send ≡ None) × (out_unlinked row.after.phase ≡ true)
out_row_off s input row found own apart =
    subst (λ (r : Option OutRow). ((unwrap_or r (out_stay s)).act.send ≡ None)
    × (out_unlinked (unwrap_or r (out_stay s)).after.phase ≡ true)) found
    (out_silent s input apart own)

outlet_off : (desk : Desk) (input : OutInput) (body : Body) (row : Option OutRow)
    → outlet_row body.outlet input ≡ row → is_own_out input ≡ true → IsOutletOff body
    → Says Exit body (outlet_row_did desk body row)
outlet_off desk input body None found own is o least off = says_still Exit body o least off
outlet_off desk input body (Some row) found own is o least off =
    let silent : (row.act.send ≡ None) × (out_unlinked row.after.phase ≡ true) =
    out_row_off body.outlet input row found own is.apart in
    gently Exit o body (outlet_row_did desk body (Some row))
    (calm_out Exit o desk body.kept row.act (inl silent.0)) refl least
    (λ closed. record {
      apart = silent.1;
      unsaid = row_unoffered (out_row_is body.outlet input row found) own is.unsaid;
    })

outlet_by : (desk : Desk) (input : OutInput) (body : Body) (opened : Bool)
    → is_open Exit body ≡ opened → is_own_out input ≡ true
    → Says Exit body (at_outlet desk input body)
outlet_by desk input body true has own o least off =
    outlet_open desk body (outlet_row body.outlet input) has o least off
outlet_by desk input body false closed own o least off =
    outlet_off desk input body (outlet_row body.outlet input) refl own (off closed) o least off

pub own_outlet : (at : Side) (desk : Desk) (input : OutInput) (body : Body)
    → is_own_out input ≡ true → Says at body (at_outlet desk input body)
own_outlet Entry desk input body own =
    outlet_at_entry desk body (outlet_row body.outlet input)
own_outlet Exit desk input body own = outlet_by desk input body (is_open Exit body) refl own

-- ---- the intake

pub intake_at_exit : (desk : Desk) (body : Body) (row : Option InRow)
    → Says Exit body (intake_row_did desk body row)
intake_at_exit desk body None o least off = says_still Exit body o least off
intake_at_exit desk body (Some row) o least off =
    gently Exit o body (intake_row_did desk body (Some row))
    (calm_in Exit o desk row.act (inr tt)) refl least
    (λ closed. record { apart = (off closed).apart; unsaid = (off closed).unsaid })

pub intake_open : (desk : Desk) (body : Body) (row : Option InRow) → is_open Entry body ≡ true
    → Says Entry body (intake_row_did desk body row)
intake_open desk body None has o least off = says_still Entry body o least off
intake_open desk body (Some row) has o least off =
    gently Entry o body (intake_row_did desk body (Some row))
    (calm_in Entry o desk row.act (inr (least has))) refl least
    (λ closed. off_open (is_open Entry body) has closed)

row_unready : {s : InState} {input : InInput} {row : InRow} → IsIntakeRow s input row
    → is_own_in input ≡ true → s.ready ≡ false → row.after.ready ≡ false
row_unready gets_ready own unsaid = cc
row_unready _ own unsaid = cc

in_row_off : (s : InState) (input : InInput) (row : InRow) → intake_row s input ≡ Some row
    → is_own_in input ≡ true → in_unlinked s.phase ≡ true
    → (row.act.send ≡ None) × (in_unlinked row.after.phase ≡ true)
in_row_off s input row found own apart =
    subst (λ (r : Option InRow). ((unwrap_or r (in_stay s)).act.send ≡ None)
    × (in_unlinked (unwrap_or r (in_stay s)).after.phase ≡ true)) found
    (in_silent s input apart own)

-- a new connection stands
stand_off : {s : InState} {row : InRow} → IsIntakeRow s in_input.Stand row
    → in_unlinked s.phase ≡ true → (row.act.send ≡ None) × (in_unlinked row.after.phase ≡ true)
stand_off stands_idle apart = (refl, apart)
stand_off stands_taking apart = absurd (false≢true apart)
stand_off stands_stopped apart = absurd (false≢true apart)
stand_off stands_settles apart = (refl, refl)
stand_off stands_home apart = (refl, apart)
stand_off stands_between apart = (refl, apart)
stand_off stands_gone apart = (refl, apart)

stand_unready : {s : InState} {row : InRow} → IsIntakeRow s in_input.Stand row
    → s.ready ≡ false → row.after.ready ≡ false
stand_unready stands_idle unsaid = unsaid
stand_unready _ unsaid = unsaid

intake_silent : (desk : Desk) (body : Body) (row : InRow) → row.act.send ≡ None
    → in_unlinked row.after.phase ≡ true → row.after.ready ≡ false
    → Says Entry body (intake_row_did desk body (Some row))
intake_silent desk body row silent apart unsaid o least off =
    gently Entry o body (intake_row_did desk body (Some row))
    (calm_in Entry o desk row.act (inl silent)) refl least
    (λ closed. record { apart = apart; unsaid = unsaid })

intake_off : (desk : Desk) (input : InInput) (body : Body) (row : Option InRow)
    → intake_row body.intake input ≡ row → is_own_in input ≡ true → IsIntakeOff body
    → Says Entry body (intake_row_did desk body row)
intake_off desk input body None found own is = says_still Entry body
intake_off desk input body (Some row) found own is =
    let silent : (row.act.send ≡ None) × (in_unlinked row.after.phase ≡ true) =
    in_row_off body.intake input row found own is.apart in
    intake_silent desk body row silent.0 silent.1
    (row_unready (in_row_is body.intake input row found) own is.unsaid)

stands_off : (desk : Desk) (body : Body) (row : Option InRow)
    → intake_row body.intake in_input.Stand ≡ row → IsIntakeOff body
    → Says Entry body (intake_row_did desk body row)
stands_off desk body None found is = says_still Entry body
stands_off desk body (Some row) found is =
    let shape : IsIntakeRow body.intake in_input.Stand row =
    in_row_is body.intake in_input.Stand row found in
    let silent : (row.act.send ≡ None) × (in_unlinked row.after.phase ≡ true) =
    stand_off shape is.apart in
    intake_silent desk body row silent.0 silent.1 (stand_unready shape is.unsaid)

intake_by : (desk : Desk) (input : InInput) (body : Body) (opened : Bool)
    → is_open Entry body ≡ opened → is_own_in input ≡ true
    → Says Entry body (at_intake desk input body)
intake_by desk input body true has own o least off =
    intake_open desk body (intake_row body.intake input) has o least off
intake_by desk input body false closed own o least off =
    intake_off desk input body (intake_row body.intake input) refl own (off closed) o least off

pub own_intake : (at : Side) (desk : Desk) (input : InInput) (body : Body)
    → is_own_in input ≡ true → Says at body (at_intake desk input body)
own_intake Exit desk input body own = intake_at_exit desk body (intake_row body.intake input)
own_intake Entry desk input body own = intake_by desk input body (is_open Entry body) refl own

stand_by : (desk : Desk) (body : Body) (opened : Bool) → is_open Entry body ≡ opened
    → Says Entry body (at_intake desk in_input.Stand body)
stand_by desk body true has o least off =
    intake_open desk body (intake_row body.intake in_input.Stand) has o least off
stand_by desk body false closed o least off =
    stands_off desk body (intake_row body.intake in_input.Stand) refl (off closed) o least off

pub stand_says : (at : Side) (desk : Desk) (body : Body)
    → Says at body (at_intake desk in_input.Stand body)
stand_says Exit desk body = intake_at_exit desk body (intake_row body.intake in_input.Stand)
stand_says Entry desk body = stand_by desk body (is_open Entry body) refl

-- ---- sensor events

saw_says : (at side : Side) (desk : Desk) (event : SensorEvent) (body : Body)
    → Says at body (saw desk side event body)
saw_says at Entry desk event body = own_intake at desk (in_input.Sensed event) body refl
saw_says at Exit desk event body = own_outlet at desk (out_input.Sensed event) body refl

read_says : (at : Side) (desk : Desk) (sensed : Sensed) (body : Body)
    → Says at body (reads desk sensed body)
read_says at desk sensed body o least off =
    speaks_behind (acts.Reads sensed.side sensed.event ∷ [])
    (saw desk sensed.side sensed.event body) (tt, tt)
    (saw_says at sensed.side desk sensed.event body o least off)

pub all_read_says : (at : Side) (desk : Desk) (unread : List Sensed) (body : Body)
    → Says at body (all_read desk unread body)
all_read_says at desk [] body = says_still at body
all_read_says at desk (sensed ∷ others) body =
    says_then at body (reads desk sensed body) (all_read desk others)
    (read_says at desk sensed body)
    (λ one. all_read_says at desk others one)

-- ---- the half of a side whose connection has ended: it says nothing there, and is off

out_closed_unsaid : (phase : Out) (offered touched : Option ℕ) (ready : Bool)
    → (out_step (state_of phase offered touched ready) out_input.Closed).after.offered ≡ None
out_closed_unsaid out.Idle offered touched ready = refl
out_closed_unsaid (out.Moving board true) offered touched ready = refl
out_closed_unsaid (out.Moving board false) offered touched ready = refl
out_closed_unsaid (out.Stuck board linked stopped) offered touched ready = refl
out_closed_unsaid (out.Ended id) offered touched ready = refl

out_ends : (desk : Desk) (body : Body) (row : Option OutRow)
    → outlet_row body.outlet out_input.Closed ≡ row → is_open Exit body ≡ false
    → Speaks Exit false (outlet_row_did desk body row)
out_ends desk body None found closed = record {
  said = tt;
  least = λ has. off_open (is_open Exit body) has closed;
  off = λ _. record {
    apart = subst (λ (r : Option OutRow). out_unlinked
        (unwrap_or r (out_stay body.outlet)).after.phase ≡ true) found
        (out_close_silent body.outlet).1;
    unsaid = subst (λ (r : Option OutRow). (unwrap_or r (out_stay body.outlet)).after.offered
        ≡ None) found
        (out_closed_unsaid body.outlet.phase body.outlet.offered body.outlet.touched
        body.outlet.ready);
  };
}
out_ends desk body (Some row) found closed =
    let calm : IsCalm Exit false (outlet_row_did desk body (Some row)).acts =
    calm_out Exit false desk body.kept row.act
    (inl (subst (λ (r : Option OutRow). (unwrap_or r (out_stay body.outlet)).act.send ≡ None)
    found (out_close_silent body.outlet).0)) in
    record {
      said = calm.said;
      least = λ has. off_open (is_open Exit body) has closed;
      off = λ _. record {
        apart = subst (λ (r : Option OutRow). out_unlinked
            (unwrap_or r (out_stay body.outlet)).after.phase ≡ true) found
            (out_close_silent body.outlet).1;
        unsaid = subst (λ (r : Option OutRow). (unwrap_or r (out_stay body.outlet)).after.offered
            ≡ None) found
            (out_closed_unsaid body.outlet.phase body.outlet.offered body.outlet.touched
            body.outlet.ready);
      };
    }

in_closed_unsaid : {s : InState} {row : InRow} → IsIntakeRow s in_input.Closed row
    → row.after.ready ≡ false
in_closed_unsaid closed_idle = refl
in_closed_unsaid _ = refl

in_closed_some : {X : Type 0} (body : Body) → intake_row body.intake in_input.Closed ≡ None → X
in_closed_some body none =
    absurd (false≢true (sym (ap is_some none) ∙ closed_has_row body.intake.phase))

in_ends : (desk : Desk) (body : Body) (row : Option InRow)
    → intake_row body.intake in_input.Closed ≡ row → is_open Entry body ≡ false
    → Speaks Entry false (intake_row_did desk body row)
in_ends desk body None found closed = in_closed_some body found
in_ends desk body (Some row) found closed =
    let calm : IsCalm Entry false (intake_row_did desk body (Some row)).acts =
    calm_in Entry false desk row.act
    (inl (subst (λ (r : Option InRow). (unwrap_or r (in_stay body.intake)).act.send ≡ None)
    found (in_close_silent body.intake).0)) in
    record {
      said = calm.said;
      least = λ has. off_open (is_open Entry body) has closed;
      off = λ _. record {
        apart = subst (λ (r : Option InRow). in_unlinked
            (unwrap_or r (in_stay body.intake)).after.phase ≡ true) found
            (in_close_silent body.intake).1;
        unsaid = in_closed_unsaid (in_row_is body.intake in_input.Closed row found);
      };
    }

-- the connection of a side has ended: the half of that side hears of it
half_ends : (at side : Side) (o : Bool) (desk : Desk) (body : Body) → is_open side body ≡ false
    → Least at o body → (at ≢ side → IsOffClosed at body)
    → Speaks at (closed_at at side o) (half_closed desk side body)
half_ends Entry Entry o desk body closed least off =
    in_ends desk body (intake_row body.intake in_input.Closed) refl closed
half_ends Exit Exit o desk body closed least off =
    out_ends desk body (outlet_row body.outlet out_input.Closed) refl closed
half_ends Entry Exit o desk body closed least off =
    outlet_at_entry desk body (outlet_row body.outlet out_input.Closed) o least
    (off (λ (same : Entry ≡ Exit). cc))
half_ends Exit Entry o desk body closed least off =
    intake_at_exit desk body (intake_row body.intake in_input.Closed) o least
    (off (λ (same : Exit ≡ Entry). cc))

-- the machine closes it
pub closes_says : (at side : Side) (o : Bool) (desk : Desk) (body : Body)
    → is_open side body ≡ false → Least at o body → (at ≢ side → IsOffClosed at body)
    → Speaks at o (behind (acts.Closes side ∷ []) (half_closed desk side body))
closes_says at side o desk body closed least off =
    speaks_behind (acts.Closes side ∷ []) (half_closed desk side body) (tt, tt)
    (half_ends at side o desk body closed least off)

-- a session at rest has no connection, and the other side's is as it was
abbrev pub resting : Side → Body → Body
resting side body = with_session side (at_rest (session_at side body).role) body

rest_closed : (side : Side) (body : Body) → is_open side (resting side body) ≡ false
rest_closed Entry body = refl
rest_closed Exit body = refl

rest_least : (at side : Side) (o : Bool) (body : Body) → Least at o body
    → Least at o (resting side body)
rest_least Entry Entry o body least has = absurd (false≢true has)
rest_least Exit Exit o body least has = absurd (false≢true has)
rest_least Entry Exit o body least has = least has
rest_least Exit Entry o body least has = least has

not_same : {X : Type 0} (side : Side) → side ≢ side → X
not_same side apart = absurd (apart refl)

pub apart_off : (at side : Side) (session : SessionEnd) (body : Body) → IsOffClosed at body
    → at ≢ side → IsOffClosed at (with_session side session body)
apart_off Entry Entry session body off apart closed = not_same Entry apart
apart_off Exit Exit session body off apart closed = not_same Exit apart
apart_off Entry Exit session body off apart closed =
    record { apart = (off closed).apart; unsaid = (off closed).unsaid }
apart_off Exit Entry session body off apart closed =
    record { apart = (off closed).apart; unsaid = (off closed).unsaid }

-- its session has none any more, and its half hears of it, behind acts that end it
pub ended_says : (at side : Side) (o : Bool) (desk : Desk) (body : Body) (told : List Act)
    → AreSaidOpen at o told → open_after at o told ≡ closed_at at side o → Least at o body
    → IsOffClosed at body → Speaks at o (behind told (ended desk side body))
ended_says at side o desk body told said ends least off =
    speaks_behind told (ended desk side body) said
    (subst (λ (p : Bool). Speaks at p (ended desk side body)) (sym ends)
    (half_ends at side o desk (resting side body) (rest_closed side body)
    (rest_least at side o body least)
    (apart_off at side (at_rest (session_at side body).role) body off)))

-- ---- the announcements: each is due only where its side has a connection

standing_open : (state : SessionState) → is_standing_state state ≡ true
    → is_connected_state state ≡ true
standing_open NotConnected is = is
standing_open Handshake is = refl
standing_open Standing is = refl

pub is_standing_open : (side : Side) (body : Body) → is_standing side body ≡ true
    → is_open side body ≡ true
is_standing_open side body is = standing_open (session_at side body).state is

due_exit : (desk : Desk) (input : OutInput) (body : Body) (opened : Bool)
    → is_open Exit body ≡ opened → (opened ≡ false → IsOutletOff body → ⊥)
    → Says Exit body (at_outlet desk input body)
due_exit desk input body true has never o least off =
    outlet_open desk body (outlet_row body.outlet input) has o least off
due_exit desk input body false closed never o least off = absurd (never refl (off closed))

due_entry : (desk : Desk) (input : InInput) (body : Body) (opened : Bool)
    → is_open Entry body ≡ opened → (opened ≡ false → IsIntakeOff body → ⊥)
    → Says Entry body (at_intake desk input body)
due_entry desk input body true has never o least off =
    intake_open desk body (intake_row body.intake input) has o least off
due_entry desk input body false closed never o least off = absurd (never refl (off closed))

unoffered : (offered : Option ℕ) → offered ≡ None → is_some offered ≡ true → ⊥
unoffered None none is = false≢true is
unoffered (Some id) none is = cc

revoke_says : (at : Side) (desk : Desk) (test : Bool) (body : Body) → revokes_now body ≡ test
    → Says at body (revoke_by desk test body)
revoke_says at desk false body due = says_still at body
revoke_says Entry desk true body due =
    outlet_at_entry desk body (outlet_row body.outlet out_input.Revoke)
revoke_says Exit desk true body due =
    due_exit desk out_input.Revoke body (is_open Exit body) refl
    (λ closed off.
    unoffered body.outlet.offered off.unsaid (and_parts _ _ (and_parts _ _ due).0).1)

unready_says : (at : Side) (desk : Desk) (test : Bool) (body : Body)
    → unreadies_now desk body ≡ test → Says at body (unready_by desk test body)
unready_says at desk false body due = says_still at body
unready_says Exit desk true body due =
    intake_at_exit desk body (intake_row body.intake in_input.Unready)
unready_says Entry desk true body due =
    due_entry desk in_input.Unready body (is_open Entry body) refl
    (λ closed off. false≢true (sym off.unsaid ∙ (and_parts _ _ (and_parts _ _ due).0).1))

offer_says : (at : Side) (desk : Desk) (test : Bool) (front : Option Record) (body : Body)
    → offers_now body ≡ test → Says at body (offer_by desk test front body)
offer_says at desk false None body due = says_still at body
offer_says at desk false (Some front) body due = says_still at body
offer_says at desk true None body due = says_still at body
offer_says Entry desk true (Some front) body due =
    outlet_at_entry desk body (outlet_row body.outlet (out_input.Offer front.id))
offer_says Exit desk true (Some front) body due =
    outlet_open desk body (outlet_row body.outlet (out_input.Offer front.id))
    (is_standing_open Exit body (and_parts _ _ (and_parts _ _ (and_parts _ _ due).0).0).0)

ready_says : (at : Side) (desk : Desk) (test : Bool) (body : Body)
    → readies_now desk body ≡ test → Says at body (ready_by desk test body)
ready_says at desk false body due = says_still at body
ready_says Exit desk true body due =
    intake_at_exit desk body (intake_row body.intake in_input.Ready)
ready_says Entry desk true body due =
    intake_open desk body (intake_row body.intake in_input.Ready)
    (is_standing_open Entry body
    (and_parts _ _ (and_parts _ _ (and_parts _ _ (and_parts _ _ due).0).0).0).0)

start_says : (at : Side) (desk : Desk) (test : Bool) (body : Body) → starts_now body ≡ test
    → Says at body (start_by desk test body)
start_says at desk false body due = says_still at body
start_says Exit desk true body due =
    intake_at_exit desk body (intake_row body.intake in_input.Start)
start_says Entry desk true body due =
    intake_open desk body (intake_row body.intake in_input.Start)
    (is_standing_open Entry body (and_parts _ _ (and_parts _ _ (and_parts _ _ due).0).0).0)

pub announces_say : (at : Side) (desk : Desk) (body : Body) → Says at body (announces desk body)
announces_say at desk body =
    says_then at body (revoke desk body) (λ one. and_then (unready desk one) (λ two.
    and_then (offer desk two) (λ three. and_then (ready desk three) (start desk))))
    (revoke_says at desk (revokes_now body) body refl)
    (λ one. says_then at one (unready desk one) (λ two.
    and_then (offer desk two) (λ three. and_then (ready desk three) (start desk)))
    (unready_says at desk (unreadies_now desk one) one refl)
    (λ two. says_then at two (offer desk two) (λ three. and_then (ready desk three) (start desk))
    (offer_says at desk (offers_now two) (slice_get two.kept 0) two refl)
    (λ three. says_then at three (ready desk three) (start desk)
    (ready_says at desk (readies_now desk three) three refl)
    (λ four. start_says at desk (starts_now four) four refl))))

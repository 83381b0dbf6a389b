-- A MACHINE READS A FRONT of its sensor events, and leaves the rest for a later step.
use Rattle.std.proofs.Common.{List, None, Option, Some, [], inl, inr, refl, subst, sym, ◌++◌, ◌∙◌, ◌∷◌, ◌≡◌, ◌⊎◌}
use Rattle.line_base.specs.declared.states.SensorEvent.{SensorEvent}
use Rattle.line_base.specs.declared.states.Side.{Side}
use Rattle.line_base.specs.declared.states.Side.TheVariants.{Entry, Exit}
use Rattle.board_record.specs.declared.record.Record.{Record}
use Rattle.board_record.specs.declared.sensed.Sensed.{Sensed}
use Rattle.session_core.specs.declared.state.SessionState.TheVariants.{Standing}
use Rattle.handover_out.specs.Row.{OutRow, outlet_row}
use Rattle.handover_out.specs.declared.input.OutInput.TheVariants as out_input
use Rattle.handover_in.specs.Row.{InRow, intake_row}
use Rattle.handover_in.specs.declared.input.InInput.TheVariants as in_input
use Rattle.handover_in.specs.declared.phase.Phase.TheVariants as inn
use Rattle.node_core.specs.Announces.{announces}
use Rattle.node_core.specs.Desk.{Desk}
use Rattle.node_core.specs.Done.{Done, and_then}
use Rattle.node_core.specs.Event.{Event, Nothing, event_did}
use Rattle.node_core.specs.Halves.{intake_row_did, outlet_row_did}
use Rattle.node_core.specs.Reads.{all_read, saw}
use Rattle.node_core.specs.Step.{machine_step}
use Rattle.node_core.specs.declared.lane.Body.{Body as Machine}
use Rattle.law_custody.specs.Pair.{Ghost}
use Rattle.law_custody.specs.Words.{events_at}
use Rattle.law_custody.proofs.Ahead.{frees_read}
use Rattle.law_machine_custody.specs.Scene.{Scene, all_met, link_above}
use Rattle.law_machine_custody.specs.Good.{Afar, Goes, Good}
use Rattle.law_machine_custody.specs.Ahead.{GoesAhead, IsFreeRead}
use Rattle.law_machine_custody.proofs.Announcing.{ahead_then, announces_ahead}
use Rattle.law_machine_custody.proofs.Far.{all_intake, all_outlet}
use Rattle.law_machine_custody.proofs.Goes.{goes_not, goes_since, met_append, step_met}
use Rattle.law_machine_custody.proofs.Reading.{read_at}

-- ---- the relation

pub front_good : {afar : Afar} {above : List Record} {ga gb : Ghost} (desk : Desk) (read rest : List Sensed) (body : Machine) (c : Scene)
    → Good afar above (read ++ rest) ga gb body c → Good afar above rest ga gb (all_read desk read body).body (all_met (all_read desk read body).acts c)
front_good desk [] rest body c g = g
front_good {afar = afar} {above = above} {ga = ga} {gb = gb} desk (sensed ∷ others) rest body c g =
    let first : Done = saw desk sensed.side sensed.event body in
    let now : Scene = all_met first.acts c in
    subst (λ s. Good afar above rest ga gb (all_read desk others first.body).body s) (sym (met_append first.acts (all_read desk others first.body).acts c))
    (front_good desk others rest first.body now (read_at desk sensed.side sensed.event g))

-- ---- a free intake has read all still

-- an event of the entry changes the intake alone
entry_row_free : {e : SensorEvent} {rest : List Sensed} (desk : Desk) (body : Machine) (row : Option InRow) → intake_row body.intake (in_input.Sensed e) ≡ row
    → ((r : InRow) → intake_row body.intake (in_input.Sensed e) ≡ Some r → r.after.phase ≡ inn.Idle → (body.intake.phase ≡ inn.Idle) ⊎ (events_at Entry rest ≡ []))
    → IsFreeRead (record { side = Entry; event = e } ∷ rest) body → IsFreeRead rest (intake_row_did desk body row).body
entry_row_free desk body None is frees r = record { read = λ stands free. let never = r.read stands free in cc }
entry_row_free {rest = rest} desk body (Some row) is frees r = record { read = λ stands free. by_what stands (frees row is free) } where
  by_what : body.entry.session.state ≡ Standing → (body.intake.phase ≡ inn.Idle) ⊎ (events_at Entry rest ≡ []) → events_at Entry rest ≡ []
  by_what stands (inl idle) = let never = r.read stands idle in cc
  by_what stands (inr none) = none

exit_row_free : {e : SensorEvent} {rest : List Sensed} (desk : Desk) (body : Machine) (row : Option OutRow)
    → IsFreeRead (record { side = Exit; event = e } ∷ rest) body → IsFreeRead rest (outlet_row_did desk body row).body
exit_row_free desk body None r = record { read = r.read }
exit_row_free desk body (Some row) r = record { read = r.read }

saw_free : {afar : Afar} {above : List Record} {rest : List Sensed} {ga gb : Ghost} {body : Machine} {c : Scene} (desk : Desk) (side : Side) (event : SensorEvent)
    → Good afar above (record { side = side; event = event } ∷ rest) ga gb body c → IsFreeRead (record { side = side; event = event } ∷ rest) body → IsFreeRead rest (saw desk side event body).body
saw_free {rest = rest} {ga = ga} {body = body} {c = c} desk Entry event g r =
    entry_row_free desk body (intake_row body.intake (in_input.Sensed event)) refl (λ row is free. frees_read ga (link_above rest body c) event rest row g.above_pair is free) r
saw_free {body = body} desk Exit event g r = exit_row_free desk body (outlet_row body.outlet (out_input.Sensed event)) r

pub front_free : {afar : Afar} {above : List Record} {ga gb : Ghost} (desk : Desk) (read rest : List Sensed) (body : Machine) (c : Scene)
    → Good afar above (read ++ rest) ga gb body c → IsFreeRead (read ++ rest) body → IsFreeRead rest (all_read desk read body).body
front_free desk [] rest body c g r = r
front_free desk (sensed ∷ others) rest body c g r =
    let first : Done = saw desk sensed.side sensed.event body in
    front_free desk others rest first.body (all_met first.acts c) (read_at desk sensed.side sensed.event g) (saw_free desk sensed.side sensed.event g r)

-- ---- THE STEP: it reads them, is befallen, and announces

pub step_ahead : {afar : Afar} {above : List Record} {rest : List Sensed} {ga gb : Ghost} (desk : Desk) (read : List Sensed) (event : Event) (body : Machine) (c : Scene)
    → GoesAhead afar above rest ga gb (all_met (all_read desk read body).acts c) (event_did desk event (all_read desk read body).body) → GoesAhead afar above rest ga gb c (machine_step desk read event body)
step_ahead {afar = afar} {above = above} {rest = rest} {ga = ga} {gb = gb} desk read event body c befalls =
    let first : Done = all_read desk read body in
    let now : Scene = all_met first.acts c in
    let did : Done = and_then (event_did desk event first.body) (announces desk) in
    let t : GoesAhead afar above rest ga gb now did = ahead_then (event_did desk event first.body) (announces desk) befalls (λ a b next free. announces_ahead desk next free) in
    record {
      goes = subst (λ s. Goes afar above rest ga gb c did.body s)
          (sym (step_met desk read event body c ∙ met_append first.acts did.acts c)) (goes_since (all_outlet first.acts c) (all_intake first.acts c) t.goes);
      read = t.read;
    }

pub fronts_go : {afar : Afar} {above : List Record} {ga gb : Ghost} (desk : Desk) (read rest : List Sensed) (body : Machine) (c : Scene)
    → Good afar above (read ++ rest) ga gb body c → IsFreeRead (read ++ rest) body → GoesAhead afar above rest ga gb c (machine_step desk read Nothing body)
fronts_go desk read rest body c g r =
    step_ahead desk read Nothing body c (record { goes = goes_not (front_good desk read rest body c g); read = front_free desk read rest body c g r })

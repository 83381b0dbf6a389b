-- A link is connected: what the step of the machine below does in the real scene, where the link stands already.
use Rattle.std.proofs.Common.{Bool, List, None, Option, Some, [], ap, false, refl, slice_get, subst, sym, true, ◌++◌, ◌∙◌, ◌∷◌, ◌≡◌}
use Rattle.std.proofs.lemmas.Bool.{and_parts}
use Rattle.line_base.specs.declared.states.Role.TheVariants.{Downstream}
use Rattle.line_base.specs.declared.states.Side.TheVariants.{Entry}
use Rattle.board_record.specs.declared.record.Record.{Record}
use Rattle.board_record.specs.declared.sensed.Sensed.{Sensed}
use Rattle.hermes_horizontal.specs.declared.message.Horizontal.{Horizontal}
use Rattle.hermes_horizontal.specs.declared.message.Horizontal.TheVariants as message
use Rattle.session_core.specs.End.{is_standing_state}
use Rattle.session_core.specs.declared.state.SessionState.TheVariants.{Handshake, NotConnected}
use Rattle.handover_out.specs.Row.{OutRow, outlet_row}
use Rattle.handover_out.specs.declared.input.OutInput.{OutInput}
use Rattle.handover_out.specs.declared.input.OutInput.TheVariants as out_input
use Rattle.node_core.specs.Announces.{announces, offer, offer_by, offers_now, readies_now, ready, ready_by, revoke, revoke_by, revokes_now, start, start_by, starts_now, unready, unready_by, unreadies_now}
use Rattle.node_core.specs.Desk.{Desk}
use Rattle.node_core.specs.Done.{Done, and_then, done}
use Rattle.node_core.specs.Event.{Connect}
use Rattle.node_core.specs.Halves.{at_outlet, outlet_row_did}
use Rattle.node_core.specs.Reads.{all_read}
use Rattle.node_core.specs.Sides.{with_session}
use Rattle.node_core.specs.Step.{machine_step, plain_step}
use Rattle.node_core.specs.Told.{sends, service_of}
use Rattle.node_core.specs.declared.act.Act.{Act}
use Rattle.node_core.specs.declared.act.Act.TheVariants as acts
use Rattle.node_core.specs.declared.lane.Body.{Body as Machine}
use Rattle.node_core.specs.declared.lane.End.{End}
use Rattle.law_custody.specs.Pair.{Ghost}
use Rattle.law_custody.specs.Words.{sent}
use Rattle.law_machine_custody.specs.Scene.{Scene, all_met, said}
use Rattle.law_machine_custody.specs.Good.{Afar, Good}
use Rattle.law_machine_custody.specs.ByHand.{body_read, scene_read}
use Rattle.law_machine_custody.specs.Joined.{with_link}
use Rattle.law_machine_custody.proofs.Connecting.{calling, connect_did, entry_unready, read_apart, read_entry, vanishes}
use Rattle.law_machine_custody.proofs.Goes.{met_append, step_met}
use Rattle.law_machine_custody.proofs.Quiet.{AllActs, IsQuiet, acts_more, acts_none, all_append, outlet_all, outlet_says, quiet_all, quiet_is_plain}
use Rattle.law_machine_custody.proofs.Reading.{all_read_good}

-- ---- the announcements, at an entry that shakes hands

-- the entry shakes hands, and the machine has not said that it is ready
record Shakes (body : Machine) : Type 0 where
  state : body.entry.session.state ≡ Handshake
  unsaid : body.intake.ready ≡ false

-- nothing is said at the entry, which goes on shaking hands
record Unsaid (d : Done) : Type 0 where
  quiet : AllActs (IsQuiet Entry) d.acts
  shakes : Shakes d.body

unsaid_not : {body : Machine} → Shakes body → Unsaid (done body [])
unsaid_not s = record { quiet = acts_none; shakes = s }

unsaid_then : (d : Done) (next : Machine → Done) → Unsaid d → ((body : Machine) → Shakes body → Unsaid (next body)) → Unsaid (and_then d next)
unsaid_then d next u later =
    let t = later d.body u.shakes in
    record { quiet = all_append u.quiet t.quiet; shakes = t.shakes }

still_shakes : (desk : Desk) (body : Machine) (row : Option OutRow) → Shakes body → Shakes (outlet_row_did desk body row).body
still_shakes desk body None s = s
still_shakes desk body (Some row) s = record { state = s.state; unsaid = s.unsaid }

-- the outlet announces
outlet_unsaid : (desk : Desk) (w : OutInput) (body : Machine) → Shakes body → Unsaid (at_outlet desk w body)
outlet_unsaid desk w body s = record {
  quiet = outlet_all (quiet_is_plain Entry) desk body (outlet_row body.outlet w) (λ row found. outlet_says desk body.kept row.act.send (λ what plain. acts_more tt acts_none));
  shakes = still_shakes desk body (outlet_row body.outlet w) s;
}

revoke_unsaid : (desk : Desk) (test : Bool) (body : Machine) → Shakes body → Unsaid (revoke_by desk test body)
revoke_unsaid desk true body s = outlet_unsaid desk out_input.Revoke body s
revoke_unsaid desk false body s = unsaid_not s

offer_unsaid : (desk : Desk) (test : Bool) (front : Option Record) (body : Machine) → Shakes body → Unsaid (offer_by desk test front body)
offer_unsaid desk true (Some front) body s = outlet_unsaid desk (out_input.Offer front.id) body s
offer_unsaid desk true None body s = unsaid_not s
offer_unsaid desk false (Some front) body s = unsaid_not s
offer_unsaid desk false None body s = unsaid_not s

-- and the intake does not
not_ready : {body : Machine} → Shakes body → body.intake.ready ≡ true → ⊥
not_ready s e = let never : false ≡ true = rw s.unsaid at e in cc

unready_unsaid : (desk : Desk) (test : Bool) (body : Machine) → unreadies_now desk body ≡ test → Shakes body → Unsaid (unready_by desk test body)
unready_unsaid desk true body e s = absurd (not_ready s (and_parts _ _ (and_parts _ _ e).0).1)
unready_unsaid desk false body e s = unsaid_not s

not_standing : {body : Machine} → Shakes body → is_standing_state body.entry.session.state ≡ true → ⊥
not_standing s e = let never : false ≡ true = rw s.state at e in cc

ready_unsaid : (desk : Desk) (test : Bool) (body : Machine) → readies_now desk body ≡ test → Shakes body → Unsaid (ready_by desk test body)
ready_unsaid desk true body e s = absurd (not_standing s (and_parts _ _ (and_parts _ _ (and_parts _ _ (and_parts _ _ e).0).0).0).0)
ready_unsaid desk false body e s = unsaid_not s

start_unsaid : (desk : Desk) (test : Bool) (body : Machine) → starts_now body ≡ test → Shakes body → Unsaid (start_by desk test body)
start_unsaid desk true body e s = absurd (not_standing s (and_parts _ _ (and_parts _ _ (and_parts _ _ e).0).0).0)
start_unsaid desk false body e s = unsaid_not s

announces_unsaid : (desk : Desk) (body : Machine) → Shakes body → Unsaid (announces desk body)
announces_unsaid desk body s =
    unsaid_then (revoke desk body) (λ one. and_then (unready desk one) (λ two. and_then (offer desk two) (λ three. and_then (ready desk three) (start desk)))) (revoke_unsaid desk (revokes_now body) body s)
    (λ one s1. unsaid_then (unready desk one) (λ two. and_then (offer desk two) (λ three. and_then (ready desk three) (start desk))) (unready_unsaid desk (unreadies_now desk one) one refl s1)
    (λ two s2. unsaid_then (offer desk two) (λ three. and_then (ready desk three) (start desk)) (offer_unsaid desk (offers_now two) (slice_get two.kept 0) two s2)
    (λ three s3. unsaid_then (ready desk three) (start desk) (ready_unsaid desk (readies_now desk three) three refl s3)
    (λ four s4. start_unsaid desk (starts_now four) four refl s4))))

-- ---- the whole step

-- behind the reading the description is said, and nothing else at the entry
call_met : (desk : Desk) (one : Machine) (now : Scene) (stands : Bool) (up down : List Horizontal) → one.intake.ready ≡ false
    → all_met (acts.Connects ∷ (sends desk Entry (service_of desk) ++ (announces desk (with_session Entry calling one)).acts)) (with_link Entry stands up down now)
    ≡ with_link Entry stands (sent (service_of desk ∷ []) stands up) down (all_met (acts.Connects ∷ (sends desk Entry (service_of desk) ++ (announces desk (with_session Entry calling one)).acts)) now)
call_met desk one now stands up down unsaid =
    quiet_all Entry stands (sent (service_of desk ∷ []) stands up) down (announces desk (with_session Entry calling one)).acts (said Entry (service_of desk) now)
    (announces_unsaid desk (with_session Entry calling one) (record { state = refl; unsaid = unsaid })).quiet

-- what the supervisor is told aside
plain_connect_met : {afar : Afar} {above : List Record} {ga gb : Ghost} (desk : Desk) (unread : List Sensed)
    (body : Machine) (c : Scene) (stands : Bool) (up down : List Horizontal)
    → Good afar above unread ga gb body c → body.entry.session.state ≡ NotConnected
    → all_met (plain_step desk unread Connect body).acts (with_link Entry stands up down c)
    ≡ with_link Entry stands (sent (service_of desk ∷ []) stands up) down (all_met (plain_step desk unread Connect body).acts c)
plain_connect_met desk unread body c stands up down g away =
    let read : Done = all_read desk unread body in
    let one : Machine = body_read desk unread body in
    let still : one.entry.session.state ≡ NotConnected = ap (λ (e : End). e.session.state) (read_entry desk unread body) ∙ away in
    let role : one.entry.session.role ≡ Downstream = ap (λ (e : End). e.session.role) (read_entry desk unread body) ∙ g.entry_role in
    let rest : List Act = acts.Connects ∷ (sends desk Entry (service_of desk) ++ (announces desk (with_session Entry calling one)).acts) in
    subst (λ (d : Done). all_met (read.acts ++ (d.acts ++ (announces desk d.body).acts)) (with_link Entry stands up down c)
    ≡ with_link Entry stands (sent (service_of desk ∷ []) stands up) down (all_met (read.acts ++ (d.acts ++ (announces desk d.body).acts)) c)) (sym (connect_did desk one still role))
    (met_append read.acts rest (with_link Entry stands up down c)
    ∙ ap (all_met rest) (read_apart desk unread body c stands up down g away)
    ∙ call_met desk one (scene_read desk unread body c) stands up down (entry_unready still (all_read_good desk unread body c g))
    ∙ ap (with_link Entry stands (sent (service_of desk ∷ []) stands up) down) (sym (met_append read.acts rest c)))

pub connect_met : {afar : Afar} {above : List Record} {ga gb : Ghost} (desk : Desk) (unread : List Sensed)
    (body : Machine) (c : Scene) (stands : Bool) (up down : List Horizontal)
    → Good afar above unread ga gb body c → body.entry.session.state ≡ NotConnected
    → all_met (machine_step desk unread Connect body).acts (with_link Entry stands up down c)
    ≡ with_link Entry stands (sent (service_of desk ∷ []) stands up) down (all_met (machine_step desk unread Connect body).acts c)
connect_met desk unread body c stands up down g away =
    step_met desk unread Connect body (with_link Entry stands up down c)
    ∙ plain_connect_met desk unread body c stands up down g away
    ∙ ap (with_link Entry stands (sent (service_of desk ∷ []) stands up) down)
    (sym (step_met desk unread Connect body c))

-- what the step leaves of the link above, where the link doesn't stand
pub record LeavesAbove (c d : Scene) : Type 0 where
  pub stands : d.above.stands ≡ c.above.stands
  pub up : d.above.up ≡ c.above.up
  pub down : d.above.down ≡ c.above.down

pub connect_leaves : {afar : Afar} {above : List Record} {ga gb : Ghost} (desk : Desk) (unread : List Sensed) (body : Machine) (c : Scene)
    → Good afar above unread ga gb body c → body.entry.session.state ≡ NotConnected → c.above.stands ≡ false
    → LeavesAbove c (all_met (machine_step desk unread Connect body).acts c)
connect_leaves desk unread body c g away off =
    let up : List Horizontal = c.above.up in
    let is = connect_met desk unread body c c.above.stands up c.above.down g away in
    record {
      stands = ap (λ (d : Scene). d.above.stands) is;
      up = ap (λ (d : Scene). d.above.up) is ∙ vanishes c.above.stands (service_of desk) up off;
      down = ap (λ (d : Scene). d.above.down) is;
    }

-- behind it the entry shakes hands
pub connect_shakes : {afar : Afar} {above : List Record} {ga gb : Ghost} (desk : Desk) (unread : List Sensed) (body : Machine) (c : Scene)
    → Good afar above unread ga gb body c → body.entry.session.state ≡ NotConnected → (machine_step desk unread Connect body).body.entry.session.state ≡ Handshake
connect_shakes desk unread body c g away =
    let one : Machine = body_read desk unread body in
    let still : one.entry.session.state ≡ NotConnected = ap (λ (e : End). e.session.state) (read_entry desk unread body) ∙ away in
    let role : one.entry.session.role ≡ Downstream = ap (λ (e : End). e.session.role) (read_entry desk unread body) ∙ g.entry_role in
    let unsaid : one.intake.ready ≡ false = entry_unready still (all_read_good desk unread body c g) in
    subst (λ (d : Done). (announces desk d.body).body.entry.session.state ≡ Handshake) (sym (connect_did desk one still role))
    (announces_unsaid desk (with_session Entry calling one) (record { state = refl; unsaid = unsaid })).shakes.state

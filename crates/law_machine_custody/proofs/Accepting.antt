-- A LINK IS CONNECTED, at the machine above it: its exit takes the connection, on which the description is on its way.
use Rattle.std.proofs.Common.{Bool, List, None, Option, Some, [], ap, false, refl, subst, sym, true, ℕ, ◌++◌, ◌∙◌, ◌∷◌, ◌≡◌}
use Rattle.line_base.specs.declared.states.Role.TheVariants.{Upstream}
use Rattle.line_base.specs.declared.states.SensorEvent.{SensorEvent}
use Rattle.line_base.specs.declared.states.Side.{Side}
use Rattle.line_base.specs.declared.states.Side.TheVariants.{Entry, Exit}
use Rattle.board_record.specs.declared.record.Record.{Record}
use Rattle.board_record.specs.declared.sensed.Sensed.{Sensed}
use Rattle.hermes_horizontal.specs.declared.message.Horizontal.{Horizontal}
use Rattle.hermes_horizontal.specs.declared.message.Horizontal.TheVariants as message
use Rattle.hermes_horizontal.specs.declared.message.Service.{Service}
use Rattle.session_core.specs.Acts.{nothing}
use Rattle.session_core.specs.End.{SessionEnd, at_rest, in_state}
use Rattle.session_core.specs.Input.{opened}
use Rattle.session_core.specs.Row.{SessionRow, session_row}
use Rattle.session_core.specs.declared.state.SessionState.{SessionState}
use Rattle.session_core.specs.declared.state.SessionState.TheVariants.{Handshake, NotConnected}
use Rattle.handover_out.specs.Links.{is_unlinked_phase}
use Rattle.handover_out.specs.Row.{OutRow, outlet_row}
use Rattle.handover_out.specs.State.{OutState}
use Rattle.handover_out.specs.declared.input.OutInput.TheVariants as out_input
use Rattle.handover_out.specs.declared.phase.Phase.{Phase as Out}
use Rattle.handover_in.specs.Row.{InRow, intake_row}
use Rattle.handover_in.specs.State.{InState}
use Rattle.handover_in.specs.declared.input.InInput.TheVariants as in_input
use Rattle.handover_in.specs.declared.phase.Phase.{Phase as In}
use Rattle.node_core.specs.Announces.{announces}
use Rattle.node_core.specs.Desk.{Desk}
use Rattle.node_core.specs.Done.{Done, stays}
use Rattle.node_core.specs.Event.{Accepted, event_did}
use Rattle.node_core.specs.Halves.{intake_row_did, outlet_row_did}
use Rattle.node_core.specs.Reads.{all_read, saw}
use Rattle.node_core.specs.Session.{session_did}
use Rattle.node_core.specs.Sides.{with_session}
use Rattle.node_core.specs.Step.{machine_step, plain_step}
use Rattle.node_core.specs.declared.act.Act.{Act}
use Rattle.node_core.specs.declared.lane.Body.{Body as Machine}
use Rattle.node_core.specs.declared.lane.End.{End}
use Rattle.law_custody.specs.Apart.{exit_called, exit_called_stuck, exit_none, exit_none_stuck}
use Rattle.law_custody.specs.Contents.{open_none}
use Rattle.law_custody.specs.Events.{IsContent}
use Rattle.law_custody.specs.Pair.{Ghost, LinkState, Pair}
use Rattle.law_custody.specs.Place.{Place}
use Rattle.law_custody.specs.Talks.{Talks, apart}
use Rattle.law_custody.specs.Words.{DownWord, UpWord}
use Rattle.law_custody.proofs.Connect.{accept}
use Rattle.law_custody.proofs.Contents.{none_open}
use Rattle.law_custody.proofs.Sessions.{shaking_offerless}
use Rattle.law_machine_custody.specs.Scene.{Scene, all_met, link_below}
use Rattle.law_machine_custody.specs.Good.{Afar, Goes, Good}
use Rattle.law_machine_custody.specs.ByHand.{body_read, scene_read}
use Rattle.law_machine_custody.specs.Joined.{with_link}
use Rattle.law_machine_custody.proofs.Announcing.{announces_go}
use Rattle.law_machine_custody.proofs.Far.{all_entry_below, all_intake, all_outlet}
use Rattle.law_machine_custody.proofs.Goes.{goes_since, met_append, step_met}
use Rattle.law_machine_custody.proofs.Quiet.{quiet_all, read_keeps, read_quiet}
use Rattle.law_machine_custody.proofs.Reading.{all_read_good}

-- ---- an exit without a connection

pub apart_outlet : {b : Bool} {y : SessionState} {o : Out} {of : Option ℕ} {rd : Bool} {i : In} {f : Option Record} {ri : Bool} {p : Place} {up : List UpWord} {down : List DownWord}
    → Talks b NotConnected o of rd y i f ri p up down → is_unlinked_phase o ≡ true
apart_outlet (apart exit_none _) = refl
apart_outlet (apart exit_none_stuck _) = refl
apart_outlet (apart exit_called _) = refl
apart_outlet (apart exit_called_stuck _) = refl

pub exit_unlinked : {afar : Afar} {above : List Record} {us : List Sensed} {ga gb : Ghost} {body : Machine} {c : Scene} → body.exit.session.state ≡ NotConnected
    → Good afar above us ga gb body c → is_unlinked_phase body.outlet.phase ≡ true
exit_unlinked away g = apart_outlet (rw away at g.below_pair.talk)

-- ---- what the reading leaves

in_exit : (desk : Desk) (body : Machine) (row : Option InRow) → (intake_row_did desk body row).body.exit ≡ body.exit
in_exit desk body None = refl
in_exit desk body (Some row) = refl

out_exit : (desk : Desk) (body : Machine) (row : Option OutRow) → (outlet_row_did desk body row).body.exit ≡ body.exit
out_exit desk body None = refl
out_exit desk body (Some row) = refl

saw_exit : (desk : Desk) (at : Side) (event : SensorEvent) (body : Machine) → (saw desk at event body).body.exit ≡ body.exit
saw_exit desk Entry event body = in_exit desk body (intake_row body.intake (in_input.Sensed event))
saw_exit desk Exit event body = out_exit desk body (outlet_row body.outlet (out_input.Sensed event))

pub read_exit : (desk : Desk) (unread : List Sensed) (body : Machine) → (body_read desk unread body).exit ≡ body.exit
read_exit desk unread body = read_keeps (λ b. b.exit ≡ body.exit) desk (λ at event b is. saw_exit desk at event b ∙ is) unread body refl

pub read_apart_below : {afar : Afar} {above : List Record} {us : List Sensed} {ga gb : Ghost} (desk : Desk) (unread : List Sensed) (body : Machine) (c d : Scene) (stands : Bool) (up down : List Horizontal) → Good afar above us ga gb body d
    → body.exit.session.state ≡ NotConnected → scene_read desk unread body (with_link Exit stands up down c) ≡ with_link Exit stands up down (scene_read desk unread body c)
read_apart_below desk unread body c d stands up down g away = quiet_all Exit stands up down (all_read desk unread body).acts c (read_quiet desk Exit unread body (exit_unlinked away g))

-- ---- the connection

abbrev pub accepting : SessionEnd
accepting = in_state (at_rest Upstream) Handshake

accepts_row : (s : SessionEnd) → s.state ≡ NotConnected → s.role ≡ Upstream → session_row s opened ≡ Some (record { after = accepting; actions = nothing })
accepts_row s away role = rw (away, role) refl

pub accept_did : (desk : Desk) (body : Machine) → body.exit.session.state ≡ NotConnected → body.exit.session.role ≡ Upstream
    → event_did desk Accepted body ≡ stays (with_session Exit accepting body)
accept_did desk body away role = ap (λ (row : Option SessionRow). session_did desk Exit row body) (accepts_row body.exit.session away role)

-- a link whose exit has taken the connection
abbrev accepted_on : LinkState → Service → LinkState
accepted_on l service = record l { exit = Handshake; stands = true; up = message.ServiceDescription service ∷ []; down = [] }

accepts_pair : (g : Ghost) (l : LinkState) (service : Service) → Pair g l → l.exit ≡ NotConnected → l.entry ≡ Handshake → l.up ≡ [] → l.down ≡ [] → Pair g (accepted_on l service)
accepts_pair g l service k x y u d =
    let t = accept (rw (x, y, u, d) at k.talk) k.out k.in in
    record { out = k.out; «in» = k.in; gap = k.gap; talk = rw y t }

accepts_contents : {Gone : ℕ → Type 0} (g : Ghost) (l : LinkState) (service : Service) (kept : List Record) → Pair g l → l.entry ≡ Handshake → IsContent Gone (accepted_on l service) kept
accepts_contents g l service kept k y = record { offers = open_none; offer = none_open (shaking_offerless (rw y at k.talk)); start = λ r _ _ some. absurd (some refl) }

-- the exit shakes hands, and the description flows to it
accepts_good : {afar : Afar} {above : List Record} {ga gb : Ghost} (body : Machine) (c : Scene) (service : Service) → Good afar above [] ga gb body c
    → body.exit.session.state ≡ NotConnected → c.below.entry ≡ Handshake → c.below.up ≡ [] → c.below.down ≡ []
    → Good afar above [] ga gb (with_session Exit accepting body) (with_link Exit true (message.ServiceDescription service ∷ []) [] c)
accepts_good {afar = afar} {gb = gb} body c service g x y u d = record {
  above_pair = g.above_pair;
  below_pair = accepts_pair gb (link_below [] body c) service g.below_pair x y u d;
  boards = g.boards;
  above_contents = g.above_contents;
  below_contents = accepts_contents gb (link_below [] body c) service body.kept g.below_pair y;
  above_holds = g.above_holds;
  below_holds = g.below_holds;
  entry_role = g.entry_role;
  exit_role = refl;
  away = g.away;
  here = g.here;
  recent = g.recent;
}

-- the step, what the supervisor is told aside
plain_accepts_go : {afar : Afar} {above : List Record} {ga gb : Ghost} (desk : Desk) (unread : List Sensed)
    (body : Machine) (c : Scene) (service : Service)
    → Good afar above unread ga gb body (with_link Exit false [] [] c) → body.exit.session.state ≡ NotConnected → c.below.entry ≡ Handshake
    → Goes afar above [] ga gb c (plain_step desk unread Accepted body).body
    (all_met (plain_step desk unread Accepted body).acts (with_link Exit true (message.ServiceDescription service ∷ []) [] c))
plain_accepts_go {afar = afar} {above = above} {ga = ga} {gb = gb} desk unread body c service g away shakes =
    let read : Done = all_read desk unread body in
    let one : Machine = body_read desk unread body in
    let before : Scene = with_link Exit false [] [] c in
    let called : Scene = with_link Exit true (message.ServiceDescription service ∷ []) [] c in
    let now : Scene = scene_read desk unread body c in
    let joined : Scene = with_link Exit true (message.ServiceDescription service ∷ []) [] now in
    let still : one.exit.session.state ≡ NotConnected = ap (λ (e : End). e.session.state) (read_exit desk unread body) ∙ away in
    let read_good : Good afar above [] ga gb one (with_link Exit false [] [] now) =
    subst (λ (d : Scene). Good afar above [] ga gb one d) (read_apart_below desk unread body c before false [] [] g away) (all_read_good desk unread body before g) in
    let good = accepts_good one (with_link Exit false [] [] now) service read_good still (all_entry_below read.acts c ∙ shakes) refl refl in
    let t = announces_go desk good in
    let last : List Act = (announces desk (with_session Exit accepting one)).acts in
    subst (λ (d : Done). Goes afar above [] ga gb c (announces desk d.body).body (all_met (read.acts ++ (d.acts ++ (announces desk d.body).acts)) called)) (sym (accept_did desk one still read_good.exit_role))
    (subst (λ (s : Scene). Goes afar above [] ga gb c (announces desk (with_session Exit accepting one)).body s)
    (sym (met_append read.acts last called ∙ ap (all_met last) (read_apart_below desk unread body c before true (message.ServiceDescription service ∷ []) [] g away)))
    (goes_since (all_outlet read.acts c) (all_intake read.acts c) t))

-- THE STEP OF THE MACHINE ABOVE at a first connection: before it the entry below has called in a scene whose link doesn't
-- stand, and the real scene has the description on its way
pub accepts_go : {afar : Afar} {above : List Record} {ga gb : Ghost} (desk : Desk) (unread : List Sensed)
    (body : Machine) (c : Scene) (service : Service)
    → Good afar above unread ga gb body (with_link Exit false [] [] c) → body.exit.session.state ≡ NotConnected → c.below.entry ≡ Handshake
    → Goes afar above [] ga gb c (machine_step desk unread Accepted body).body
    (all_met (machine_step desk unread Accepted body).acts (with_link Exit true (message.ServiceDescription service ∷ []) [] c))
accepts_go {afar = afar} {above = above} {ga = ga} {gb = gb} desk unread body c service g away shakes =
    let called : Scene = with_link Exit true (message.ServiceDescription service ∷ []) [] c in
    subst (λ (s : Scene). Goes afar above [] ga gb c (plain_step desk unread Accepted body).body s)
    (sym (step_met desk unread Accepted body called))
    (plain_accepts_go desk unread body c service g away shakes)

-- A CONNECTION THAT WAS TAKEN ABOVE FIRST comes at the machine below: its exit above shakes hands already, and the link stands from then on.
use Rattle.std.proofs.Common.{List, [], ap, refl, subst, sym, true, ◌++◌, ◌∙◌, ◌∷◌, ◌≡◌}
use Rattle.line_base.specs.declared.states.Role.TheVariants.{Downstream}
use Rattle.line_base.specs.declared.states.Side.TheVariants.{Entry}
use Rattle.board_record.specs.declared.record.Record.{Record}
use Rattle.board_record.specs.declared.sensed.Sensed.{Sensed}
use Rattle.hermes_horizontal.specs.declared.message.Horizontal.{Horizontal}
use Rattle.session_core.specs.declared.state.SessionState.TheVariants.{Handshake, NotConnected}
use Rattle.handover_in.specs.State.{may_connect}
use Rattle.node_core.specs.Announces.{announces}
use Rattle.node_core.specs.Desk.{Desk}
use Rattle.node_core.specs.Done.{Done}
use Rattle.node_core.specs.Event.{Connect}
use Rattle.node_core.specs.Reads.{all_read}
use Rattle.node_core.specs.Sides.{with_session}
use Rattle.node_core.specs.Step.{machine_step, plain_step}
use Rattle.node_core.specs.Told.{sends, service_of}
use Rattle.node_core.specs.declared.act.Act.{Act}
use Rattle.node_core.specs.declared.act.Act.TheVariants as acts
use Rattle.node_core.specs.declared.lane.Body.{Body as Machine}
use Rattle.node_core.specs.declared.lane.End.{End}
use Rattle.law_custody.specs.Pair.{Ghost}
use Rattle.law_custody.specs.Words.{down_words, up_words}
use Rattle.law_custody.proofs.Taken.{come_contents, comes_below, stands_not, told_contents, told_none}
use Rattle.law_machine_custody.specs.Scene.{Scene, all_met, link_above}
use Rattle.law_machine_custody.specs.Good.{Afar, Goes, GoesBy, Good}
use Rattle.law_machine_custody.specs.Ahead.{GoesAhead, GoesTo}
use Rattle.law_machine_custody.specs.ByHand.{body_read, scene_read}
use Rattle.law_machine_custody.specs.Joined.{described_by, with_link}
use Rattle.law_machine_custody.proofs.Announcing.{announces_ahead}
use Rattle.law_machine_custody.proofs.Connecting.{calling, connect_did, connects_ahead, read_apart, read_entry, read_may, shaking_free}
use Rattle.law_machine_custody.proofs.Far.{all_exit_above, all_intake, all_outlet}
use Rattle.law_machine_custody.proofs.Goes.{goes_since, met_append, step_met}
use Rattle.law_machine_custody.proofs.FrontRead.{Reads, reads_all}

comes_good : {afar : Afar} {above : List Record} {us : List Sensed} {ga gb : Ghost} (desk : Desk) (body : Machine) (c : Scene) (down : List Horizontal) → Good afar above us ga gb body c
    → body.entry.session.state ≡ NotConnected → may_connect body.intake.phase ≡ true → c.above.exit ≡ Handshake → up_words c.above.up ≡ [] → down_words down ≡ []
    → Good afar above us ga gb (with_session Entry calling body) (with_link Entry true (service_of desk ∷ []) down c)
comes_good {above = above} {us = us} {ga = ga} desk body c down g away m shakes up quiet = record {
  above_pair = comes_below ga (link_above us body c) (described_by desk) down g.above_pair m shakes up away quiet;
  below_pair = g.below_pair;
  boards = g.boards;
  above_contents = come_contents ga (link_above us body c) (described_by desk) down above g.above_pair away quiet;
  below_contents = g.below_contents;
  above_holds = g.above_holds;
  below_holds = g.below_holds;
  entry_role = refl;
  exit_role = g.exit_role;
  away = g.away;
  here = g.here;
  recent = g.recent;
}

-- the reading leaves the messages up of an entry without a session
up_left : {afar : Afar} {above : List Record} {us : List Sensed} {ga gb : Ghost} (desk : Desk) (read : List Sensed) (body : Machine) (c : Scene) → Good afar above us ga gb body c → body.entry.session.state ≡ NotConnected
    → (scene_read desk read body c).above.up ≡ c.above.up
up_left desk read body c g away = ap (λ (d : Scene). d.above.up) (read_apart desk read body c c.above.stands c.above.up c.above.down g away)

-- the step, what the supervisor is told aside
plain_comes_ahead : {afar : Afar} {above : List Record} {seen rest : List Sensed} {ga gb : Ghost} (desk : Desk) (read : List Sensed) (body : Machine) (c : Scene) (down : List Horizontal)
    → Reads afar above seen rest ga gb desk read body c → body.entry.session.state ≡ NotConnected → may_connect body.intake.phase ≡ true → c.above.exit ≡ Handshake → up_words c.above.up ≡ [] → down_words down ≡ []
    → GoesTo afar above rest ga gb c (plain_step desk read Connect body).body (all_met (plain_step desk read Connect body).acts (with_link Entry true [] down c))
plain_comes_ahead {afar = afar} {above = above} {rest = rest} {ga = ga} {gb = gb} desk read body c down reads away m shakes up quiet =
    let first : Done = all_read desk read body in
    let one : Machine = body_read desk read body in
    let now : Scene = scene_read desk read body c in
    let come : Scene = with_link Entry true [] down c in
    let g = reads.before in
    let still : one.entry.session.state ≡ NotConnected = ap (λ (e : End). e.session.state) (read_entry desk read body) ∙ away in
    let role : one.entry.session.role ≡ Downstream = ap (λ (e : End). e.session.role) (read_entry desk read body) ∙ g.entry_role in
    let good = comes_good desk one now down reads.after still (read_may desk read body c reads m) (all_exit_above first.acts c ∙ shakes) (ap up_words (up_left desk read body c g away) ∙ up) quiet in
    let t = announces_ahead desk good (shaking_free one) in
    let last : List Act = (announces desk (with_session Entry calling one)).acts in
    let later : List Act = acts.Connects ∷ (sends desk Entry (service_of desk) ++ last) in
    subst (λ (d : Done). GoesTo afar above rest ga gb c (announces desk d.body).body (all_met (first.acts ++ (d.acts ++ (announces desk d.body).acts)) come)) (sym (connect_did desk one still role))
    (record {
      goes = subst (λ (s : Scene). Goes afar above rest ga gb c (announces desk (with_session Entry calling one)).body s)
          (sym (met_append first.acts later come ∙ ap (all_met later) (read_apart desk read body c true [] down g away)))
          (goes_since (all_outlet first.acts c) (all_intake first.acts c) t.goes);
      read = t.read;
    })

-- THE STEP OF THE MACHINE BELOW
pub comes_ahead : {afar : Afar} {above : List Record} {seen rest : List Sensed} {ga gb : Ghost} (desk : Desk) (read : List Sensed) (body : Machine) (c : Scene) (down : List Horizontal)
    → Reads afar above seen rest ga gb desk read body c → body.entry.session.state ≡ NotConnected → may_connect body.intake.phase ≡ true → c.above.exit ≡ Handshake → up_words c.above.up ≡ [] → down_words down ≡ []
    → GoesTo afar above rest ga gb c (machine_step desk read Connect body).body (all_met (machine_step desk read Connect body).acts (with_link Entry true [] down c))
comes_ahead {afar = afar} {above = above} {rest = rest} {ga = ga} {gb = gb} desk read body c down reads away m shakes up quiet =
    let come : Scene = with_link Entry true [] down c in
    subst (λ (s : Scene). GoesTo afar above rest ga gb c (plain_step desk read Connect body).body s) (sym (step_met desk read Connect body come))
    (plain_comes_ahead desk read body c down reads away m shakes up quiet)

pub comes_go : {afar : Afar} {above : List Record} {ga gb : Ghost} (desk : Desk) (unread : List Sensed) (body : Machine) (c : Scene) (down : List Horizontal)
    → Good afar above unread ga gb body c → body.entry.session.state ≡ NotConnected → may_connect body.intake.phase ≡ true → c.above.exit ≡ Handshake → up_words c.above.up ≡ [] → down_words down ≡ []
    → Goes afar above [] ga gb c (machine_step desk unread Connect body).body (all_met (machine_step desk unread Connect body).acts (with_link Entry true [] down c))
comes_go desk unread body c down g away m shakes up quiet = (comes_ahead desk unread body c down (reads_all desk unread body c g) away m shakes up quiet).goes

-- ---- a connection comes that has no end above

-- the scene with these messages to the entry, none of them a word
alone_good : {afar : Afar} {above : List Record} {us : List Sensed} {ga gb : Ghost} (body : Machine) (c : Scene) (down : List Horizontal) → Good afar above us ga gb body c → body.entry.session.state ≡ NotConnected
    → down_words down ≡ [] → Good afar above us ga gb body (with_link Entry c.above.stands c.above.up down c)
alone_good {above = above} {us = us} {ga = ga} body c down g away quiet = record {
  above_pair = told_none ga (link_above us body c) down g.above_pair away quiet;
  below_pair = g.below_pair;
  boards = g.boards;
  above_contents = told_contents (link_above us body c) down above quiet g.above_contents;
  below_contents = g.below_contents;
  above_holds = g.above_holds;
  below_holds = g.below_holds;
  entry_role = g.entry_role;
  exit_role = g.exit_role;
  away = g.away;
  here = g.here;
  recent = g.recent;
}

-- behind the reading too
reads_alone : {afar : Afar} {above : List Record} {seen rest : List Sensed} {ga gb : Ghost} (desk : Desk) (read : List Sensed) (body : Machine) (c : Scene) (down : List Horizontal) → Reads afar above seen rest ga gb desk read body c → body.entry.session.state ≡ NotConnected
    → down_words down ≡ [] → Reads afar above seen rest ga gb desk read body (with_link Entry c.above.stands c.above.up down c)
reads_alone {afar = afar} {above = above} {rest = rest} {ga = ga} {gb = gb} desk read body c down reads away quiet =
    let one : Machine = body_read desk read body in
    let now : Scene = scene_read desk read body c in
    let still : one.entry.session.state ≡ NotConnected = ap (λ (e : End). e.session.state) (read_entry desk read body) ∙ away in
    let same : now ≡ with_link Entry c.above.stands c.above.up c.above.down now = read_apart desk read body c c.above.stands c.above.up c.above.down reads.before away in
    let good : Good afar above rest ga gb one (with_link Entry c.above.stands c.above.up down now) =
    subst (λ (s : Scene). Good afar above rest ga gb one (with_link Entry s.above.stands s.above.up down now)) same (alone_good one now down reads.after still quiet) in
    record {
      before = alone_good body c down reads.before away quiet;
      after = subst (λ (s : Scene). Good afar above rest ga gb one s) (sym (read_apart desk read body c c.above.stands c.above.up down reads.before away)) good;
      free = reads.free;
      none = reads.none;
    }

pub comes_alone_ahead : {afar : Afar} {above : List Record} {seen rest : List Sensed} {ga gb : Ghost} (desk : Desk) (read : List Sensed) (body : Machine) (c : Scene) (down : List Horizontal)
    → Reads afar above seen rest ga gb desk read body c → body.entry.session.state ≡ NotConnected → may_connect body.intake.phase ≡ true → down_words down ≡ []
    → GoesAhead afar above rest ga gb (with_link Entry c.above.stands c.above.up down c) (machine_step desk read Connect body)
comes_alone_ahead desk read body c down reads away m quiet =
    connects_ahead desk read body (with_link Entry c.above.stands c.above.up down c) (reads_alone desk read body c down reads away quiet) away m (stands_not (rw away at reads.before.above_pair.talk))

pub comes_alone_go : {afar : Afar} {above : List Record} {ga gb : Ghost} (desk : Desk) (unread : List Sensed) (body : Machine) (c : Scene) (down : List Horizontal)
    → Good afar above unread ga gb body c → body.entry.session.state ≡ NotConnected → may_connect body.intake.phase ≡ true → down_words down ≡ []
    → GoesBy afar above [] ga gb (with_link Entry c.above.stands c.above.up down c) (machine_step desk unread Connect body)
comes_alone_go desk unread body c down g away m quiet = (comes_alone_ahead desk unread body c down (reads_all desk unread body c g) away m quiet).goes

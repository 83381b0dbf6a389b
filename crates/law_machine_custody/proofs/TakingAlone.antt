-- A LONE END IS TAKEN: the exit takes a connection that has no end below, since it has not come there or was left there; and a connection comes below that has no end above.
use Rattle.std.proofs.Common.{List, [], ap, refl, subst, sym, ◌++◌, ◌∙◌, ◌≡◌}
use Rattle.line_base.specs.declared.states.Side.TheVariants.{Exit}
use Rattle.board_record.specs.declared.record.Record.{Record}
use Rattle.board_record.specs.declared.sensed.Sensed.{Sensed}
use Rattle.hermes_horizontal.specs.declared.message.Horizontal.{Horizontal}
use Rattle.session_core.specs.declared.state.SessionState.TheVariants.{NotConnected}
use Rattle.node_core.specs.Announces.{announces}
use Rattle.node_core.specs.Desk.{Desk}
use Rattle.node_core.specs.Done.{Done}
use Rattle.node_core.specs.Event.{Accepted}
use Rattle.node_core.specs.Reads.{all_read}
use Rattle.node_core.specs.Sides.{with_session}
use Rattle.node_core.specs.Step.{machine_step, plain_step}
use Rattle.node_core.specs.declared.act.Act.{Act}
use Rattle.node_core.specs.declared.lane.Body.{Body as Machine}
use Rattle.node_core.specs.declared.lane.End.{End}
use Rattle.law_custody.specs.Pair.{Ghost}
use Rattle.law_custody.specs.Talks.{IsCall}
use Rattle.law_custody.specs.Words.{up_words}
use Rattle.law_custody.proofs.Taken.{taken_alone, taken_contents}
use Rattle.law_machine_custody.specs.Scene.{Scene, all_met, link_below}
use Rattle.law_machine_custody.specs.Good.{Afar, Goes, Good}
use Rattle.law_machine_custody.specs.Ahead.{GoesTo}
use Rattle.law_machine_custody.specs.ByHand.{body_read, scene_read}
use Rattle.law_machine_custody.specs.Joined.{with_link}
use Rattle.law_machine_custody.proofs.Accepting.{accept_did, accepting, read_apart_below, read_exit}
use Rattle.law_machine_custody.proofs.Announcing.{announces_ahead}
use Rattle.law_machine_custody.proofs.Far.{all_intake, all_outlet}
use Rattle.law_machine_custody.proofs.Goes.{goes_since, met_append, step_met}
use Rattle.law_machine_custody.proofs.FrontRead.{Reads, reads_all}

-- the scene with these messages to the exit
abbrev pub called : List Horizontal → Scene → Scene
called up c = with_link Exit c.below.stands up c.below.down c

takes_good : {afar : Afar} {above : List Record} {us : List Sensed} {ga gb : Ghost} (body : Machine) (c : Scene) (up : List Horizontal) → Good afar above us ga gb body c → body.exit.session.state ≡ NotConnected → IsCall (up_words up)
    → Good afar above us ga gb (with_session Exit accepting body) (called up c)
takes_good {us = us} {gb = gb} body c up g away call = record {
  above_pair = g.above_pair;
  below_pair = taken_alone gb (link_below us body c) up g.below_pair away call;
  boards = g.boards;
  above_contents = g.above_contents;
  below_contents = taken_contents (link_below us body c) up body.kept call g.below_contents;
  above_holds = g.above_holds;
  below_holds = g.below_holds;
  entry_role = g.entry_role;
  exit_role = refl;
  away = g.away;
  here = g.here;
  recent = g.recent;
}

plain_takes_ahead : {afar : Afar} {above : List Record} {seen rest : List Sensed} {ga gb : Ghost} (desk : Desk) (read : List Sensed) (body : Machine) (c : Scene) (up : List Horizontal)
    → Reads afar above seen rest ga gb desk read body c → body.exit.session.state ≡ NotConnected → IsCall (up_words up)
    → GoesTo afar above rest ga gb c (plain_step desk read Accepted body).body (all_met (plain_step desk read Accepted body).acts (called up c))
plain_takes_ahead {afar = afar} {above = above} {rest = rest} {ga = ga} {gb = gb} desk read body c up reads away call =
    let first : Done = all_read desk read body in
    let one : Machine = body_read desk read body in
    let now : Scene = scene_read desk read body c in
    let g = reads.before in
    let left : Scene → Scene = with_link Exit c.below.stands up c.below.down in
    let still : one.exit.session.state ≡ NotConnected = ap (λ (e : End). e.session.state) (read_exit desk read body) ∙ away in
    let same : now ≡ with_link Exit c.below.stands c.below.up c.below.down now = read_apart_below desk read body c c c.below.stands c.below.up c.below.down g away in
    let good : Good afar above rest ga gb (with_session Exit accepting one) (left now) =
    subst (λ (s : Scene). Good afar above rest ga gb (with_session Exit accepting one) (with_link Exit s.below.stands up s.below.down now)) same (takes_good one now up reads.after still call) in
    let t = announces_ahead desk good (record { read = reads.free.read }) in
    let last : List Act = (announces desk (with_session Exit accepting one)).acts in
    subst (λ (d : Done). GoesTo afar above rest ga gb c (announces desk d.body).body (all_met (first.acts ++ (d.acts ++ (announces desk d.body).acts)) (left c))) (sym (accept_did desk one still reads.after.exit_role))
    (record {
      goes = subst (λ (s : Scene). Goes afar above rest ga gb c (announces desk (with_session Exit accepting one)).body s)
          (sym (met_append first.acts last (left c) ∙ ap (all_met last) (read_apart_below desk read body c c c.below.stands up c.below.down g away)))
          (goes_since (all_outlet first.acts c) (all_intake first.acts c) t.goes);
      read = t.read;
    })

-- THE STEP OF THE MACHINE ABOVE
pub takes_ahead : {afar : Afar} {above : List Record} {seen rest : List Sensed} {ga gb : Ghost} (desk : Desk) (read : List Sensed) (body : Machine) (c : Scene) (up : List Horizontal)
    → Reads afar above seen rest ga gb desk read body c → body.exit.session.state ≡ NotConnected → IsCall (up_words up)
    → GoesTo afar above rest ga gb c (machine_step desk read Accepted body).body (all_met (machine_step desk read Accepted body).acts (called up c))
takes_ahead {afar = afar} {above = above} {rest = rest} {ga = ga} {gb = gb} desk read body c up reads away call =
    subst (λ (s : Scene). GoesTo afar above rest ga gb c (plain_step desk read Accepted body).body s) (sym (step_met desk read Accepted body (called up c)))
    (plain_takes_ahead desk read body c up reads away call)

pub takes_go : {afar : Afar} {above : List Record} {ga gb : Ghost} (desk : Desk) (unread : List Sensed) (body : Machine) (c : Scene) (up : List Horizontal)
    → Good afar above unread ga gb body c → body.exit.session.state ≡ NotConnected → IsCall (up_words up)
    → Goes afar above [] ga gb c (machine_step desk unread Accepted body).body (all_met (machine_step desk unread Accepted body).acts (called up c))
takes_go desk unread body c up g away call = (takes_ahead desk unread body c up (reads_all desk unread body c g) away call).goes

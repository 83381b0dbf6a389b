-- The exit takes a connection that the entry has: whatever was said up on it beside the entry's description, of which the outlet
-- hears nothing, the link stands from then on.
use Rattle.std.proofs.Common.{List, [], ap, false, refl, subst, sym, true, ℕ, ◌++◌, ◌∙◌, ◌∷◌, ◌≡◌}
use Rattle.line_base.specs.declared.states.Side.TheVariants.{Exit}
use Rattle.board_record.specs.declared.record.Record.{Record}
use Rattle.board_record.specs.declared.sensed.Sensed.{Sensed}
use Rattle.hermes_horizontal.specs.declared.message.Horizontal.{Horizontal}
use Rattle.session_core.specs.declared.state.SessionState.TheVariants.{Handshake, NotConnected}
use Rattle.node_core.specs.Announces.{announces}
use Rattle.node_core.specs.Desk.{Desk}
use Rattle.node_core.specs.Done.{Done}
use Rattle.node_core.specs.Event.{Accepted}
use Rattle.node_core.specs.Reads.{all_read}
use Rattle.node_core.specs.Sides.{with_session}
use Rattle.node_core.specs.Step.{machine_step, plain_step}
use Rattle.node_core.specs.declared.act.Act.{Act}
use Rattle.node_core.specs.declared.lane.Body.{Body as Machine}
use Rattle.node_core.specs.declared.lane.End.{End}
use Rattle.law_custody.specs.Contents.{Contents, open_none}
use Rattle.law_custody.specs.Events.{IsContent}
use Rattle.law_custody.specs.Pair.{Ghost, LinkState, Pair}
use Rattle.law_custody.specs.Talks.{Talks}
use Rattle.law_custody.specs.Words.{DownstreamService, UpWord, up_words}
use Rattle.law_custody.proofs.Connect.{accept}
use Rattle.law_custody.proofs.Contents.{none_open}
use Rattle.law_custody.proofs.Sessions.{shaking_offerless}
use Rattle.law_machine_custody.specs.Ahead.{GoesTo}
use Rattle.law_machine_custody.specs.ByHand.{body_read, scene_read}
use Rattle.law_machine_custody.specs.Good.{Afar, Goes, Good}
use Rattle.law_machine_custody.specs.Joined.{with_link}
use Rattle.law_machine_custody.specs.Scene.{Scene, all_met, link_below}
use Rattle.law_machine_custody.proofs.Accepting.{accept_did, accepting, read_apart_below, read_exit}
use Rattle.law_machine_custody.proofs.Announcing.{announces_ahead}
use Rattle.law_machine_custody.proofs.Cutting.{cut_good}
use Rattle.law_machine_custody.proofs.Far.{all_entry_below, all_intake, all_outlet}
use Rattle.law_machine_custody.proofs.Goes.{goes_since, met_append, step_met}
use Rattle.law_machine_custody.proofs.FrontRead.{Reads}

abbrev called_on : LinkState → List Horizontal → LinkState
called_on l up = record l { exit = Handshake; stands = true; up = up; down = [] }

called_pair : (g : Ghost) (l : LinkState) (up : List Horizontal) → up_words up ≡ DownstreamService ∷ [] → Pair g l → l.exit ≡ NotConnected → l.entry ≡ Handshake → l.up ≡ [] → l.down ≡ [] → Pair g (called_on l up)
called_pair g l up says k x y u d =
    let t = accept (rw (x, y, u, d) at k.talk) k.out k.in in
    record {
      out = k.out;
      «in» = k.in;
      gap = k.gap;
      talk = subst (λ (ws : List UpWord). Talks true Handshake l.outlet.phase l.outlet.offered l.outlet.ready l.entry l.intake.phase l.intake.offer l.intake.ready g.place ws []) (sym says) (rw y t);
    }

called_contents : {Gone : ℕ → Type 0} (g : Ghost) (l : LinkState) (up : List Horizontal) (kept : List Record) → up_words up ≡ DownstreamService ∷ [] → Pair g l → l.entry ≡ Handshake → IsContent Gone (called_on l up) kept
called_contents {Gone} g l up kept says k y =
    subst (λ (ws : List UpWord). Contents Gone true kept l.outlet.touched l.last_offer l.intake.phase l.intake.offer ws []) (sym says)
    (record { offers = open_none; offer = none_open (shaking_offerless (rw y at k.talk)); start = λ r _ _ some. absurd (some refl) })

called_good : {afar : Afar} {above : List Record} {us : List Sensed} {ga gb : Ghost} (body : Machine) (c : Scene) (up : List Horizontal) → up_words up ≡ DownstreamService ∷ [] → Good afar above us ga gb body c
    → body.exit.session.state ≡ NotConnected → c.below.entry ≡ Handshake → c.below.up ≡ [] → c.below.down ≡ []
    → Good afar above us ga gb (with_session Exit accepting body) (with_link Exit true up [] c)
called_good {us = us} {gb = gb} body c up says g x y u d = record {
  above_pair = g.above_pair;
  below_pair = called_pair gb (link_below us body c) up says g.below_pair x y u d;
  boards = g.boards;
  above_contents = g.above_contents;
  below_contents = called_contents gb (link_below us body c) up body.kept says g.below_pair y;
  above_holds = g.above_holds;
  below_holds = g.below_holds;
  entry_role = g.entry_role;
  exit_role = refl;
  away = g.away;
  here = g.here;
  recent = g.recent;
}

-- the step, what the supervisor is told aside
plain_called_ahead : {afar : Afar} {above : List Record} {seen rest : List Sensed} {ga gb : Ghost} (desk : Desk) (read : List Sensed) (body : Machine) (c : Scene) (up : List Horizontal) → up_words up ≡ DownstreamService ∷ []
    → Reads afar above seen rest ga gb desk read body c → body.exit.session.state ≡ NotConnected → c.below.entry ≡ Handshake
    → GoesTo afar above rest ga gb c (plain_step desk read Accepted body).body (all_met (plain_step desk read Accepted body).acts (with_link Exit true up [] c))
plain_called_ahead {afar = afar} {above = above} {rest = rest} {ga = ga} {gb = gb} desk read body c up says reads away shakes =
    let first : Done = all_read desk read body in
    let one : Machine = body_read desk read body in
    let before : Scene = with_link Exit false [] [] c in
    let called : Scene = with_link Exit true up [] c in
    let now : Scene = scene_read desk read body c in
    let g = cut_good Exit reads.before in
    let still : one.exit.session.state ≡ NotConnected = ap (λ (e : End). e.session.state) (read_exit desk read body) ∙ away in
    let read_good : Good afar above rest ga gb one (with_link Exit false [] [] now) = cut_good Exit reads.after in
    let good = called_good one (with_link Exit false [] [] now) up says read_good still (all_entry_below first.acts c ∙ shakes) refl refl in
    let t = announces_ahead desk good (record { read = reads.free.read }) in
    let last : List Act = (announces desk (with_session Exit accepting one)).acts in
    subst (λ (d : Done). GoesTo afar above rest ga gb c (announces desk d.body).body (all_met (first.acts ++ (d.acts ++ (announces desk d.body).acts)) called)) (sym (accept_did desk one still read_good.exit_role))
    (record {
      goes = subst (λ (s : Scene). Goes afar above rest ga gb c (announces desk (with_session Exit accepting one)).body s)
          (sym (met_append first.acts last called ∙ ap (all_met last) (read_apart_below desk read body c before true up [] g away)))
          (goes_since (all_outlet first.acts c) (all_intake first.acts c) t.goes);
      read = t.read;
    })

-- THE STEP OF THE MACHINE ABOVE
pub called_ahead : {afar : Afar} {above : List Record} {seen rest : List Sensed} {ga gb : Ghost} (desk : Desk) (read : List Sensed) (body : Machine) (c : Scene) (up : List Horizontal) → up_words up ≡ DownstreamService ∷ []
    → Reads afar above seen rest ga gb desk read body c → body.exit.session.state ≡ NotConnected → c.below.entry ≡ Handshake
    → GoesTo afar above rest ga gb c (machine_step desk read Accepted body).body (all_met (machine_step desk read Accepted body).acts (with_link Exit true up [] c))
called_ahead {afar = afar} {above = above} {rest = rest} {ga = ga} {gb = gb} desk read body c up says reads away shakes =
    subst (λ (s : Scene). GoesTo afar above rest ga gb c (plain_step desk read Accepted body).body s) (sym (step_met desk read Accepted body (with_link Exit true up [] c)))
    (plain_called_ahead desk read body c up says reads away shakes)

-- A side is closed: by its machine or by its neighbour, which may be before its machine has read all events.
use Rattle.std.proofs.Common.{List, None, Option, Some, [], refl, subst, sym, ℕ, ◌++◌, ◌∙◌, ◌∷◌, ◌≡◌}
use Rattle.line_base.specs.declared.states.Role.TheVariants.{Downstream, Upstream}
use Rattle.line_base.specs.declared.states.Severity.TheVariants as severity
use Rattle.line_base.specs.declared.states.Side.{Side}
use Rattle.line_base.specs.declared.states.Side.TheVariants.{Entry, Exit}
use Rattle.board_record.specs.declared.record.Record.{Record}
use Rattle.board_record.specs.declared.sensed.Sensed.{Sensed}
use Rattle.hermes_horizontal.specs.declared.message.Horizontal.{Horizontal}
use Rattle.session_core.specs.End.{SessionEnd, at_rest}
use Rattle.session_core.specs.declared.state.SessionState.TheVariants.{NotConnected}
use Rattle.handover_out.specs.Row.{last_after}
use Rattle.handover_out.specs.declared.act.OutAct.{OutAct}
use Rattle.handover_out.specs.declared.input.OutInput.TheVariants as out_input
use Rattle.handover_in.specs.declared.act.InAct.{InAct}
use Rattle.handover_in.specs.declared.input.InInput.TheVariants as in_input
use Rattle.node_core.specs.Desk.{Desk}
use Rattle.node_core.specs.Done.{behind}
use Rattle.node_core.specs.Halves.{ended, given_back, half_closed, intake_row_did, outlet_row_did, settled}
use Rattle.node_core.specs.Session.{breaches}
use Rattle.node_core.specs.Sides.{with_session}
use Rattle.node_core.specs.Told.{notification, sends}
use Rattle.node_core.specs.declared.act.Act.TheVariants as acts
use Rattle.node_core.specs.declared.lane.Body.{Body as Machine}
use Rattle.law_custody.specs.Events.{EntryShut, ExitShut, IsContent, entry_shut, exit_shut, gone_by}
use Rattle.law_custody.specs.Pair.{Body, Ghost, LinkState, Pair, keep_at}
use Rattle.law_custody.specs.Words.{down_words, events_at, sent, up_words}
use Rattle.law_custody.proofs.EntryEvents.{closes_unread as entry_closes}
use Rattle.law_custody.proofs.ExitEvents.{closes_unread as exit_closes}
use Rattle.law_custody.proofs.Unread.{HasRead, ReadFirst, all_read, none_unread}
use Rattle.law_machine_custody.specs.Scene.{Scene, all_met, link_above, link_below, shut}
use Rattle.law_machine_custody.specs.Good.{Afar, Goes, GoesBy, Good, Holds}
use Rattle.law_machine_custody.proofs.Goes.{goes_behind}
use Rattle.law_machine_custody.proofs.Holding.{BodyByEntry, holds_at_entry, holds_at_exit, row_holds_less, row_recent}
use Rattle.law_machine_custody.proofs.Told.{IsNoOffer, back_is, in_met, in_scene, out_met, out_scene}

-- what a machine may have unread at a side as something befalls it there
abbrev pub MayFollow : Side → List Sensed → Ghost → Type 0
MayFollow Entry us ga = ReadFirst (events_at Entry us) ga.place
MayFollow Exit us ga = HasRead (events_at Exit us)

pub none_follows : (ga : Ghost) (side : Side) → MayFollow side [] ga
none_follows ga Entry = none_unread
none_follows ga Exit = all_read

-- these messages are said before
abbrev pub told_below : List Horizontal → Scene → Scene
told_below ms c = record c { below = record c.below { down = sent ms c.below.stands c.below.down } }

abbrev pub told_above : List Horizontal → Scene → Scene
told_above ms c = record c { above = record c.above { up = sent ms c.above.stands c.above.up } }

exit_shut_did : {afar : Afar} {above : List Record} {us : List Sensed} {ga gb : Ghost} {body : Machine} {c : Scene} (s : SessionEnd) (ms : List Horizontal)
    → s.state ≡ NotConnected → s.role ≡ Upstream → down_words ms ≡ [] → Good afar above us ga gb body c → (step : ExitShut (gone_by afar.gone_below) gb (link_below us body c))
    → Goes afar above us ga gb c (record (with_session Exit s body) { outlet = step.row.after; kept = given_back step.row.act.back body.kept; last_offer = last_after step.row body.last_offer }) (out_scene None step.row.act.drive (shut Exit (told_below ms c)))
exit_shut_did {afar = afar} {us = us} {ga = ga} {gb = gb} {body = body} {c = c} s ms rests role quiet g step =
    let back = back_is step.row.act.back body.kept in
    record {
      a = ga;
      b = gb;
      good = record {
        above_pair = g.above_pair;
        below_pair = subst (λ x. Pair gb (record (exit_shut (link_below us body c) step.row ms) { exit = x })) (sym rests) (step.pair ms quiet);
        boards = subst (λ kept. Body step.row.after.phase gb.place kept body.intake.phase ga.place c.boards) back (step.body body.kept body.intake.phase ga.place c.boards g.boards);
        above_contents = g.above_contents;
        below_contents = subst (λ kept. IsContent (gone_by afar.gone_below) (exit_shut (link_below us body c) step.row ms) kept) back (step.contents body.kept ms quiet g.below_contents);
        above_holds = g.above_holds;
        below_holds = subst (λ kept. Holds afar.gone_below kept (last_after step.row body.last_offer) gb.place step.row.after.phase c.below.intake.phase) back (holds_at_exit out_input.Closed step.row g.below_pair tt tt g.recent step.is step.body g.below_holds);
        entry_role = g.entry_role;
        exit_role = role;
        away = λ r held up. g.away r (row_holds_less body.outlet out_input.Closed step.row r step.is tt held) up;
        here = g.here;
        recent = row_recent body.outlet out_input.Closed step.row step.is tt tt g.recent;
      };
      lists_above = λ kept i q boards h. h;
      lists_below = λ o p kept boards h. h;
      still_first = λ n. n;
      still_over = λ n. n;
    }

pub exit_shuts_unread : {afar : Afar} {above : List Record} {us : List Sensed} {ga gb : Ghost} {body : Machine} {c : Scene} (desk : Desk) (s : SessionEnd) (ms : List Horizontal)
    → s.state ≡ NotConnected → s.role ≡ Upstream → down_words ms ≡ [] → HasRead (events_at Exit us) → Good afar above us ga gb body c
    → Goes afar above us ga gb c (half_closed desk Exit (with_session Exit s body)).body (all_met (half_closed desk Exit (with_session Exit s body)).acts (shut Exit (told_below ms c)))
exit_shuts_unread {afar = afar} {above = above} {us = us} {ga = ga} {gb = gb} {body = body} {c = c} desk s ms rests role quiet n g =
    let step : ExitShut (gone_by afar.gone_below) gb (link_below us body c) = exit_closes gb (link_below us body c) g.below_pair n in
    let act : OutAct = step.row.act in
    let now : Scene = shut Exit (told_below ms c) in
    let after : Machine = record (with_session Exit s body) { outlet = step.row.after; kept = given_back act.back body.kept; last_offer = last_after step.row body.last_offer } in
    subst (λ row. Goes afar above us ga gb c (outlet_row_did desk (with_session Exit s body) row).body (all_met (outlet_row_did desk (with_session Exit s body) row).acts now)) (sym step.is)
    (subst (λ z. Goes afar above us ga gb c after z) (sym (out_met desk body.kept act.deed act.send act.drive act.back now (subst (λ x. IsNoOffer x) (sym step.silent) tt)))
    (subst (λ send. Goes afar above us ga gb c after (out_scene send act.drive now)) (sym step.silent) (exit_shut_did s ms rests role quiet g step)))

-- nothing settles
shuts_body : {Gone : ℕ → Type 0} {above : List Record} {g : Ghost} {l : LinkState} (step : EntryShut Gone above g l) → BodyByEntry g.place l.intake.phase step.row
shuts_body {g = g} step o q kept boards b = subst (λ (keep : Option Record). Body o q (keep_at keep kept) step.row.after.phase g.place boards) (sym step.settles_not) (step.body o q kept boards b)

entry_shut_did : {afar : Afar} {above : List Record} {us : List Sensed} {ga gb : Ghost} {body : Machine} {c : Scene} (s : SessionEnd) (ms : List Horizontal)
    → s.state ≡ NotConnected → s.role ≡ Downstream → up_words ms ≡ [] → Good afar above us ga gb body c → (step : EntryShut (gone_by afar.gone_above) above ga (link_above us body c))
    → Goes afar above us ga gb c (record (with_session Entry s body) { intake = step.row.after; kept = settled step.row.act.keep body.kept }) (in_scene None step.row.act.drive (shut Entry (told_above ms c)))
entry_shut_did {afar = afar} {us = us} {ga = ga} {gb = gb} {body = body} {c = c} s ms rests role quiet g step =
    let kept : settled step.row.act.keep body.kept ≡ body.kept = subst (λ keep. settled keep body.kept ≡ body.kept) (sym step.settles_not) refl in
    record {
      a = ga;
      b = gb;
      good = record {
        above_pair = subst (λ y. Pair ga (record (entry_shut (link_above us body c) step.row ms) { entry = y })) (sym rests) (step.pair ms quiet);
        below_pair = g.below_pair;
        boards = subst (λ kept. Body body.outlet.phase gb.place kept step.row.after.phase ga.place c.boards) (sym kept) (step.body body.outlet.phase gb.place body.kept c.boards g.boards);
        above_contents = step.contents ms quiet;
        below_contents = subst (λ kept. IsContent (gone_by afar.gone_below) (link_below us body c) kept) (sym kept) g.below_contents;
        above_holds = holds_at_entry body.intake in_input.Closed step.row tt step.is (λ r keeps. let no_way : Some r ≡ None = sym keeps ∙ step.settles_not in cc) (shuts_body step) g.above_holds;
        below_holds = subst (λ kept. Holds afar.gone_below kept body.last_offer gb.place body.outlet.phase c.below.intake.phase) (sym kept) g.below_holds;
        entry_role = role;
        exit_role = g.exit_role;
        away = g.away;
        here = g.here;
        recent = g.recent;
      };
      lists_above = λ kept i q boards h. h;
      lists_below = λ o p kept boards h. h;
      still_first = λ n. n;
      still_over = λ n. n;
    }

pub entry_shuts_unread : {afar : Afar} {above : List Record} {us : List Sensed} {ga gb : Ghost} {body : Machine} {c : Scene} (desk : Desk) (s : SessionEnd) (ms : List Horizontal)
    → s.state ≡ NotConnected → s.role ≡ Downstream → up_words ms ≡ [] → ReadFirst (events_at Entry us) ga.place → Good afar above us ga gb body c
    → Goes afar above us ga gb c (half_closed desk Entry (with_session Entry s body)).body (all_met (half_closed desk Entry (with_session Entry s body)).acts (shut Entry (told_above ms c)))
entry_shuts_unread {afar = afar} {above = above} {us = us} {ga = ga} {gb = gb} {body = body} {c = c} desk s ms rests role quiet n g =
    let step : EntryShut (gone_by afar.gone_above) above ga (link_above us body c) = entry_closes ga (link_above us body c) g.above_pair n in
    let act : InAct = step.row.act in
    let now : Scene = shut Entry (told_above ms c) in
    let after : Machine = record (with_session Entry s body) { intake = step.row.after; kept = settled act.keep body.kept } in
    subst (λ row. Goes afar above us ga gb c (intake_row_did desk (with_session Entry s body) row).body (all_met (intake_row_did desk (with_session Entry s body) row).acts now)) (sym step.is)
    (subst (λ z. Goes afar above us ga gb c after z) (sym (in_met desk act.deed act.send act.drive act.keep act.taken now))
    (subst (λ send. Goes afar above us ga gb c after (in_scene send act.drive now)) (sym step.silent) (entry_shut_did s ms rests role quiet g step)))

-- a breach: the neighbour is told, and the connection is closed
pub breaches_unread : {afar : Afar} {above : List Record} {us : List Sensed} {ga gb : Ghost} {body : Machine} {c : Scene} (desk : Desk) (side : Side) (text : List ℕ) → MayFollow side us ga
    → Good afar above us ga gb body c → GoesBy afar above us ga gb c (breaches desk side text body)
breaches_unread {body = body} desk Entry text n g =
    goes_behind (acts.Breaches Entry text ∷ (sends desk Entry (notification 1 severity.Fatal text) ++ acts.Closes Entry ∷ [])) (ended desk Entry body)
    (entry_shuts_unread desk (at_rest body.entry.session.role) (notification 1 severity.Fatal text ∷ []) refl g.entry_role refl n g)
breaches_unread {body = body} desk Exit text n g =
    goes_behind (acts.Breaches Exit text ∷ (sends desk Exit (notification 1 severity.Fatal text) ++ acts.Closes Exit ∷ [])) (ended desk Exit body)
    (exit_shuts_unread desk (at_rest body.exit.session.role) (notification 1 severity.Fatal text ∷ []) refl g.exit_role refl n g)

-- the connection of a side is found closed
pub noticed_unread : {afar : Afar} {above : List Record} {us : List Sensed} {ga gb : Ghost} {body : Machine} {c : Scene} (desk : Desk) (side : Side) → MayFollow side us ga
    → Good afar above us ga gb body c → GoesBy afar above us ga gb c (behind (acts.Notices side ∷ []) (ended desk side body))
noticed_unread {body = body} desk Entry n g = goes_behind (acts.Notices Entry ∷ []) (ended desk Entry body) (entry_shuts_unread desk (at_rest body.entry.session.role) [] refl g.entry_role refl n g)
noticed_unread {body = body} desk Exit n g = goes_behind (acts.Notices Exit ∷ []) (ended desk Exit body) (exit_shuts_unread desk (at_rest body.exit.session.role) [] refl g.exit_role refl n g)

-- A LINK IS CONNECTED A SECOND TIME, at the machine above it: the answer flows to the new connection, and the first goes on.
use Rattle.std.proofs.Common.{Bool, List, None, Option, Some, [], ap, append-nil, false, refl, slice_get, subst, sym, true, ◌++◌, ◌∙◌, ◌∷◌, ◌≡◌}
use Rattle.line_base.specs.declared.states.SensorEvent.{SensorEvent}
use Rattle.line_base.specs.declared.states.Side.{Side}
use Rattle.line_base.specs.declared.states.Side.TheVariants.{Entry, Exit}
use Rattle.board_record.specs.declared.record.Record.{Record}
use Rattle.board_record.specs.declared.sensed.Sensed.{Sensed}
use Rattle.hermes_horizontal.specs.declared.message.Horizontal.{Horizontal}
use Rattle.session_core.specs.End.{SessionEnd}
use Rattle.session_core.specs.Input.{second}
use Rattle.session_core.specs.Row.{SessionRow, session_row}
use Rattle.session_core.specs.Table.{IsSessionRow, refuses_second}
use Rattle.session_core.specs.declared.actions.Tell.TheVariants.{AlreadyConnected}
use Rattle.session_core.proofs.Rows.{row_is as session_row_is}
use Rattle.handover_out.specs.Row.{outlet_row}
use Rattle.handover_out.specs.declared.input.OutInput.{OutInput}
use Rattle.handover_out.specs.declared.input.OutInput.TheVariants as out_input
use Rattle.handover_in.specs.Row.{intake_row}
use Rattle.handover_in.specs.declared.input.InInput.{InInput}
use Rattle.handover_in.specs.declared.input.InInput.TheVariants as in_input
use Rattle.node_core.specs.Announces.{announces, offer, offer_by, offers_now, readies_now, ready, ready_by, revoke, revoke_by, revokes_now, start_by, starts_now, unready, unready_by, unreadies_now}
use Rattle.node_core.specs.Desk.{Desk}
use Rattle.node_core.specs.Done.{Done}
use Rattle.node_core.specs.Event.{Second, event_did}
use Rattle.node_core.specs.Halves.{at_intake, at_outlet}
use Rattle.node_core.specs.Reads.{all_read, saw}
use Rattle.node_core.specs.Session.{actions_did, session_did}
use Rattle.node_core.specs.Sides.{with_session}
use Rattle.node_core.specs.Step.{machine_step, plain_step}
use Rattle.node_core.specs.Supervising.{watch_of, with_tells}
use Rattle.node_core.specs.Told.{tells}
use Rattle.node_core.specs.declared.act.Act.{Act}
use Rattle.node_core.specs.declared.act.Act.TheVariants as acts
use Rattle.node_core.specs.declared.lane.Body.{Body as Machine}
use Rattle.node_core.specs.declared.supervising.Watch.{Watch}
use Rattle.node_core.proofs.Telling.{beside}
use Rattle.law_custody.specs.Pair.{Ghost}
use Rattle.law_custody.specs.Words.{down_words}
use Rattle.law_custody.proofs.Lists.{down_words-append}
use Rattle.law_machine_custody.specs.Scene.{Scene, all_met, met}
use Rattle.law_machine_custody.specs.Good.{Afar, Goes, Good}
use Rattle.law_machine_custody.specs.Ahead.{GoesTo, IsFreeRead}
use Rattle.law_machine_custody.specs.ByHand.{body_read, scene_read}
use Rattle.law_machine_custody.specs.Joined.{GoesLeft, GoesSecond, all_met_left, all_met_second, answered, is_answer, met_left, met_second, unanswered}
use Rattle.law_machine_custody.proofs.Announcing.{announces_ahead}
use Rattle.law_machine_custody.proofs.Far.{all_intake, all_outlet}
use Rattle.law_machine_custody.proofs.Goes.{goes_both, goes_not, goes_since}
use Rattle.law_machine_custody.proofs.Quiet.{AllActs, IsPlain, acts_more, acts_none, all_append, intake_all, intake_says, outlet_all, outlet_says, read_all}
use Rattle.law_machine_custody.proofs.FrontRead.{Reads, reads_all}

-- ---- nothing else in the step is an answer

abbrev pub IsNoAnswer : Act → Type 0
IsNoAnswer (acts.Sends Exit message) = is_answer message.body ≡ false
IsNoAnswer _ = Unit {0}

answers_not : (what : Horizontal) (test : Bool) (c : Scene) → test ≡ false → answered test what c ≡ answered false what c
answers_not what test c is = ap (λ t. answered t what c) is

one_met : (act : Act) (c : Scene) → IsNoAnswer act → met_second act c ≡ met act c
one_met (acts.Sends Exit message) c plain = answers_not message.body (is_answer message.body) c plain
one_met _ c plain = refl

pub plain_met : (told : List Act) (c : Scene) → AllActs IsNoAnswer told → all_met_second told c ≡ all_met told c
plain_met _ c acts_none = refl
plain_met _ c (acts_more {act = act} {others = others} p ps) = ap (all_met_second others) (one_met act c p) ∙ plain_met others (met act c) ps

pub second_append : (xs ys : List Act) (c : Scene) → all_met_second (xs ++ ys) c ≡ all_met_second ys (all_met_second xs c)
second_append [] ys c = refl
second_append (x ∷ xs) ys c = second_append xs ys (met_second x c)

-- what the supervisor is told does nothing there
pub second_tells : (desk : Desk) (watch : Watch) (made : List Act) (c : Scene)
    → all_met_second (with_tells desk watch made) c ≡ all_met_second made c
second_tells desk watch made =
    beside (λ told plain. (c : Scene) → all_met_second told c ≡ all_met_second plain c) (λ c. refl)
    (λ act told plain same c. same (met_second act c)) (λ message told plain same c. same c)
    desk watch made

says_plain : IsPlain IsNoAnswer
says_plain = record { reads = λ side event. tt; deeds = λ deed. tt; drives = λ side on. tt }

outlet_plain : (desk : Desk) (w : OutInput) (body : Machine) → AllActs IsNoAnswer (at_outlet desk w body).acts
outlet_plain desk w body = outlet_all says_plain desk body (outlet_row body.outlet w) (λ row found. outlet_says desk body.kept row.act.send (λ what plain. acts_more plain acts_none))

intake_plain : (desk : Desk) (w : InInput) (body : Machine) → AllActs IsNoAnswer (at_intake desk w body).acts
intake_plain desk w body = intake_all says_plain desk body (intake_row body.intake w) (λ row found. intake_says desk row.act.send (λ what. acts_more tt acts_none))

saw_plain : (desk : Desk) (at : Side) (event : SensorEvent) (body : Machine) → AllActs IsNoAnswer (saw desk at event body).acts
saw_plain desk Entry event body = intake_plain desk (in_input.Sensed event) body
saw_plain desk Exit event body = outlet_plain desk (out_input.Sensed event) body

pub read_plain : (desk : Desk) (unread : List Sensed) (body : Machine) → AllActs IsNoAnswer (all_read desk unread body).acts
read_plain desk unread body = read_all (λ (b : Machine). Unit {0}) says_plain desk (λ at event b i. saw_plain desk at event b) (λ at event b i. tt) unread body tt

revoke_plain : (desk : Desk) (test : Bool) (body : Machine) → AllActs IsNoAnswer (revoke_by desk test body).acts
revoke_plain desk true body = outlet_plain desk out_input.Revoke body
revoke_plain desk false body = acts_none

unready_plain : (desk : Desk) (test : Bool) (body : Machine) → AllActs IsNoAnswer (unready_by desk test body).acts
unready_plain desk true body = intake_plain desk in_input.Unready body
unready_plain desk false body = acts_none

offer_plain : (desk : Desk) (test : Bool) (front : Option Record) (body : Machine) → AllActs IsNoAnswer (offer_by desk test front body).acts
offer_plain desk true (Some front) body = outlet_plain desk (out_input.Offer front.id) body
offer_plain desk true None body = acts_none
offer_plain desk false (Some front) body = acts_none
offer_plain desk false None body = acts_none

ready_plain : (desk : Desk) (test : Bool) (body : Machine) → AllActs IsNoAnswer (ready_by desk test body).acts
ready_plain desk true body = intake_plain desk in_input.Ready body
ready_plain desk false body = acts_none

start_plain : (desk : Desk) (test : Bool) (body : Machine) → AllActs IsNoAnswer (start_by desk test body).acts
start_plain desk true body = intake_plain desk in_input.Start body
start_plain desk false body = acts_none

pub announces_plain : (desk : Desk) (body : Machine) → AllActs IsNoAnswer (announces desk body).acts
announces_plain desk body =
    let one : Machine = (revoke desk body).body in
    let two : Machine = (unready desk one).body in
    let three : Machine = (offer desk two).body in
    let four : Machine = (ready desk three).body in
    all_append (revoke_plain desk (revokes_now body) body)
    (all_append (unready_plain desk (unreadies_now desk one) one)
    (all_append (offer_plain desk (offers_now two) (slice_get two.kept 0) two)
    (all_append (ready_plain desk (readies_now desk three) three) (start_plain desk (starts_now four) four))))

-- ---- the answer

aside_words : (ds ms : List Horizontal) → down_words ms ≡ [] → down_words (ds ++ ms) ≡ down_words ds
aside_words ds ms quiet = down_words-append ds ms ∙ ap (λ ws. down_words ds ++ ws) quiet ∙ append-nil (down_words ds)

answer_goes : {afar : Afar} {above : List Record} {us : List Sensed} {ga gb : Ghost} (body : Machine) (c : Scene) (what : Horizontal) → down_words (what ∷ []) ≡ []
    → Good afar above us ga gb body c → Goes afar above us ga gb c body (answered true what c)
answer_goes {ga = ga} {gb = gb} body c what quiet g = record {
  a = ga;
  b = gb;
  good = record {
    above_pair = g.above_pair;
    below_pair = record { out = g.below_pair.out; «in» = g.below_pair.in; gap = g.below_pair.gap; talk = rw (aside_words c.below.down (what ∷ []) quiet) g.below_pair.talk };
    boards = g.boards;
    above_contents = g.above_contents;
    below_contents = rw (aside_words c.below.down (what ∷ []) quiet) g.below_contents;
    above_holds = g.above_holds;
    below_holds = g.below_holds;
    entry_role = g.entry_role;
    exit_role = g.exit_role;
    away = g.away;
    here = g.here;
    recent = g.recent;
  };
  lists_above = λ kept i q boards h. h;
  lists_below = λ o p kept boards h. h;
  still_first = λ n. n;
  still_over = λ n. n;
}

answers_row : {afar : Afar} {above : List Record} {us : List Sensed} {ga gb : Ghost} (body : Machine) (c : Scene) (desk : Desk) (s : SessionEnd) (row : SessionRow) → IsSessionRow s second row
    → Good afar above us ga gb (with_session Exit s body) c → GoesSecond afar above us ga gb c (actions_did desk Exit row.actions (with_session Exit row.after body))
answers_row body c desk _ _ (refuses_second is) g = answer_goes _ c (tells AlreadyConnected) refl g

second_goes : {afar : Afar} {above : List Record} {us : List Sensed} {ga gb : Ghost} (body : Machine) (c : Scene) (desk : Desk) (row : Option SessionRow) → session_row body.exit.session second ≡ row
    → Good afar above us ga gb body c → GoesSecond afar above us ga gb c (session_did desk Exit row body)
second_goes body c desk None is g = goes_not g
second_goes body c desk (Some row) is g = answers_row body c desk body.exit.session row (session_row_is body.exit.session second row is) g

-- the scene behind the step: the reading, the event, the announcements, of which the event alone answers
pub seconds_are : (desk : Desk) (unread : List Sensed) (body : Machine) (c : Scene)
    → all_met_second (machine_step desk unread Second body).acts c
    ≡ all_met (announces desk (event_did desk Second (body_read desk unread body)).body).acts (all_met_second (event_did desk Second (body_read desk unread body)).acts (scene_read desk unread body c))
seconds_are desk unread body c =
    let read : Done = all_read desk unread body in
    let did : Done = event_did desk Second read.body in
    let last : List Act = (announces desk did.body).acts in
    second_tells desk (watch_of desk body) (plain_step desk unread Second body).acts c
    ∙ second_append read.acts (did.acts ++ last) c ∙ ap (all_met_second (did.acts ++ last)) (plain_met read.acts c (read_plain desk unread body))
    ∙ second_append did.acts last (scene_read desk unread body c) ∙ plain_met last (all_met_second did.acts (scene_read desk unread body c)) (announces_plain desk did.body)

-- what the refusal leaves of the machine
second_free : {us : List Sensed} (body : Machine) (desk : Desk) (s : SessionEnd) (row : SessionRow) → IsSessionRow s second row → IsFreeRead us body → IsFreeRead us (actions_did desk Exit row.actions (with_session Exit row.after body)).body
second_free body desk _ _ (refuses_second is) r = record { read = r.read }

refused_free : {us : List Sensed} (body : Machine) (desk : Desk) (row : Option SessionRow) → session_row body.exit.session second ≡ row → IsFreeRead us body → IsFreeRead us (session_did desk Exit row body).body
refused_free body desk None is r = r
refused_free body desk (Some row) is r = second_free body desk body.exit.session row (session_row_is body.exit.session second row is) r

-- THE STEP OF THE MACHINE ABOVE at a second connection, to which the answer flows though the link doesn't stand
pub seconds_ahead : {afar : Afar} {above : List Record} {seen rest : List Sensed} {ga gb : Ghost} (desk : Desk) (read : List Sensed) (body : Machine) (c : Scene) → Reads afar above seen rest ga gb desk read body c
    → GoesTo afar above rest ga gb c (machine_step desk read Second body).body (all_met_second (machine_step desk read Second body).acts c)
seconds_ahead {afar = afar} {above = above} {rest = rest} {ga = ga} {gb = gb} desk read body c reads =
    let one : Machine = body_read desk read body in
    let now : Scene = scene_read desk read body c in
    let did : Done = event_did desk Second one in
    let first : GoesSecond afar above rest ga gb now did = second_goes one now desk (session_row one.exit.session second) refl reads.after in
    let t = announces_ahead desk first.good (refused_free one desk (session_row one.exit.session second) refl reads.free) in
    record {
      goes = subst (λ (s : Scene). Goes afar above rest ga gb c (announces desk did.body).body s) (sym (seconds_are desk read body c))
          (goes_since (all_outlet (all_read desk read body).acts c) (all_intake (all_read desk read body).acts c) (goes_both first t.goes));
      read = t.read;
    }

pub seconds_go : {afar : Afar} {above : List Record} {ga gb : Ghost} (desk : Desk) (unread : List Sensed) (body : Machine) (c : Scene) → Good afar above unread ga gb body c
    → GoesSecond afar above [] ga gb c (machine_step desk unread Second body)
seconds_go desk unread body c g = (seconds_ahead desk unread body c (reads_all desk unread body c g)).goes

-- ---- and to a second connection that was left below, where the answer is for nobody

left_not : (what : Horizontal) (test : Bool) (c : Scene) → test ≡ false → unanswered test what c ≡ unanswered false what c
left_not what test c is = ap (λ t. unanswered t what c) is

one_left : (act : Act) (c : Scene) → IsNoAnswer act → met_left act c ≡ met act c
one_left (acts.Sends Exit message) c plain = left_not message.body (is_answer message.body) c plain
one_left _ c plain = refl

plain_left : (told : List Act) (c : Scene) → AllActs IsNoAnswer told → all_met_left told c ≡ all_met told c
plain_left _ c acts_none = refl
plain_left _ c (acts_more {act = act} {others = others} p ps) = ap (all_met_left others) (one_left act c p) ∙ plain_left others (met act c) ps

left_append : (xs ys : List Act) (c : Scene) → all_met_left (xs ++ ys) c ≡ all_met_left ys (all_met_left xs c)
left_append [] ys c = refl
left_append (x ∷ xs) ys c = left_append xs ys (met_left x c)

left_tells : (desk : Desk) (watch : Watch) (made : List Act) (c : Scene)
    → all_met_left (with_tells desk watch made) c ≡ all_met_left made c
left_tells desk watch made =
    beside (λ told plain. (c : Scene) → all_met_left told c ≡ all_met_left plain c) (λ c. refl)
    (λ act told plain same c. same (met_left act c)) (λ message told plain same c. same c)
    desk watch made

left_row : {afar : Afar} {above : List Record} {us : List Sensed} {ga gb : Ghost} (body : Machine) (c : Scene) (desk : Desk) (s : SessionEnd) (row : SessionRow) → IsSessionRow s second row
    → Good afar above us ga gb (with_session Exit s body) c → GoesLeft afar above us ga gb c (actions_did desk Exit row.actions (with_session Exit row.after body))
left_row body c desk _ _ (refuses_second is) g = goes_not g

left_goes : {afar : Afar} {above : List Record} {us : List Sensed} {ga gb : Ghost} (body : Machine) (c : Scene) (desk : Desk) (row : Option SessionRow) → session_row body.exit.session second ≡ row
    → Good afar above us ga gb body c → GoesLeft afar above us ga gb c (session_did desk Exit row body)
left_goes body c desk None is g = goes_not g
left_goes body c desk (Some row) is g = left_row body c desk body.exit.session row (session_row_is body.exit.session second row is) g

lefts_are : (desk : Desk) (unread : List Sensed) (body : Machine) (c : Scene)
    → all_met_left (machine_step desk unread Second body).acts c
    ≡ all_met (announces desk (event_did desk Second (body_read desk unread body)).body).acts (all_met_left (event_did desk Second (body_read desk unread body)).acts (scene_read desk unread body c))
lefts_are desk unread body c =
    let read : Done = all_read desk unread body in
    let did : Done = event_did desk Second read.body in
    let last : List Act = (announces desk did.body).acts in
    left_tells desk (watch_of desk body) (plain_step desk unread Second body).acts c
    ∙ left_append read.acts (did.acts ++ last) c ∙ ap (all_met_left (did.acts ++ last)) (plain_left read.acts c (read_plain desk unread body))
    ∙ left_append did.acts last (scene_read desk unread body c) ∙ plain_left last (all_met_left did.acts (scene_read desk unread body c)) (announces_plain desk did.body)

-- THE STEP OF THE MACHINE ABOVE at a second connection that the machine below has left
pub lefts_ahead : {afar : Afar} {above : List Record} {seen rest : List Sensed} {ga gb : Ghost} (desk : Desk) (read : List Sensed) (body : Machine) (c : Scene) → Reads afar above seen rest ga gb desk read body c
    → GoesTo afar above rest ga gb c (machine_step desk read Second body).body (all_met_left (machine_step desk read Second body).acts c)
lefts_ahead {afar = afar} {above = above} {rest = rest} {ga = ga} {gb = gb} desk read body c reads =
    let one : Machine = body_read desk read body in
    let now : Scene = scene_read desk read body c in
    let did : Done = event_did desk Second one in
    let first : GoesLeft afar above rest ga gb now did = left_goes one now desk (session_row one.exit.session second) refl reads.after in
    let t = announces_ahead desk first.good (refused_free one desk (session_row one.exit.session second) refl reads.free) in
    record {
      goes = subst (λ (s : Scene). Goes afar above rest ga gb c (announces desk did.body).body s) (sym (lefts_are desk read body c))
          (goes_since (all_outlet (all_read desk read body).acts c) (all_intake (all_read desk read body).acts c) (goes_both first t.goes));
      read = t.read;
    }

pub lefts_go : {afar : Afar} {above : List Record} {ga gb : Ghost} (desk : Desk) (unread : List Sensed) (body : Machine) (c : Scene) → Good afar above unread ga gb body c
    → GoesLeft afar above [] ga gb c (machine_step desk unread Second body)
lefts_go desk unread body c g = (lefts_ahead desk unread body c (reads_all desk unread body c g)).goes

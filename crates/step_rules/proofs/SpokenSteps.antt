-- A WHOLE STEP: what is read, the input, what is announced; and what the supervisor is told of it.
use Rattle.std.proofs.Common.{
  Bool,
  Err,
  List,
  None,
  Ok,
  Option,
  Result,
  Some,
  [],
  ap,
  false,
  refl,
  subst,
  sym,
  true,
  ℕ,
  ℤ,
  ◌++◌,
  ◌∙◌,
  ◌∷◌,
  ◌≡◌,
}
use Rattle.std.specs.Prelude.{not, slice_get}
use Rattle.std.proofs.lemmas.Bool.{false≢true}
use Rattle.line_base.specs.declared.states.Quality.TheVariants as qualities
use Rattle.line_base.specs.declared.states.SensorEvent.{SensorEvent}
use Rattle.line_base.specs.declared.states.Side.{Side}
use Rattle.line_base.specs.declared.states.Side.TheVariants.{Entry, Exit}
use Rattle.board_record.specs.Maker.{Maker, next_id}
use Rattle.board_record.specs.Record.{plain_record}
use Rattle.board_record.specs.declared.maker.IdsUsedUp.{IdsUsedUp}
use Rattle.board_record.specs.declared.record.Record.{Record}
use Rattle.board_record.specs.declared.sensed.Sensed.{Sensed}
use Rattle.session_core.specs.End.{
  SessionEnd,
  at_rest as ended_session,
  in_state,
  is_standing_state,
}
use Rattle.session_core.specs.Input.{second, shutdown, tick}
use Rattle.session_core.specs.Row.{opened_row, opening_actions, session_row}
use Rattle.session_core.specs.declared.state.SessionState.{SessionState}
use Rattle.session_core.specs.declared.state.SessionState.TheVariants.{
  Handshake,
  NotConnected,
  Standing,
}
use Rattle.line_base.specs.declared.states.Role.{Role}
use Rattle.line_base.specs.declared.states.Role.TheVariants.{Downstream, Upstream}
use Rattle.session_core.specs.declared.actions.Action.TheVariants.{SendService}
use Rattle.smema_bridge.specs.declared.line.SegmentLine.{SegmentLine}
use Rattle.smema_bridge.specs.declared.line.SegmentLine.TheVariants.{Available, Failed, Ready}
use Rattle.handover_in.specs.Row.{InRow, intake_row}
use Rattle.handover_in.specs.declared.input.InInput.TheVariants as in_input
use Rattle.handover_out.specs.Row.{OutRow, outlet_row}
use Rattle.handover_out.specs.declared.input.OutInput.TheVariants as out_input
use Rattle.node_core.specs.Announces.{announces}
use Rattle.node_core.specs.Boards.{
  faults,
  if_kept,
  is_kept,
  takes_sub,
  wills,
  with_instead,
  with_kept,
  with_mark,
  with_sub,
  without,
}
use Rattle.node_core.specs.Bridge.{failed_front, fails, sets_level, tells_level}
use Rattle.node_core.specs.Connect.{if_open, opens, shuts_down, ticks}
use Rattle.node_core.specs.Desk.{Desk}
use Rattle.node_core.specs.Done.{Done, and_then, behind, done}
use Rattle.node_core.specs.Event.{
  Accepted,
  Connect,
  Event,
  Fault,
  Forecast,
  Gets,
  Gives,
  Insert,
  Level,
  Mark,
  Notice,
  Nothing,
  Query,
  Remove,
  Replace,
  Second,
  Shutdown,
  Sub,
  Supervised,
  Tick,
  Will,
  Words,
  event_did,
  event_of,
  with_new,
}
use Rattle.node_core.specs.Halves.{ended, intake_row_did, outlet_row_did}
use Rattle.node_core.specs.Information.{asks_for, forecasts}
use Rattle.node_core.specs.May.{may_do, may_of, no_if}
use Rattle.node_core.specs.Node.{NodeState, desk_of}
use Rattle.node_core.specs.Reads.{all_read, saw}
use Rattle.node_core.specs.Session.{actions_did, session_did}
use Rattle.node_core.specs.Sides.{is_open, is_standing, session_at, with_session}
use Rattle.node_core.specs.Signals.{signalled}
use Rattle.node_core.specs.Step.{Steps, machine_step, plain_step}
use Rattle.node_core.specs.Supervising.{Answer, Ask, Supervise, Supervision, supervises, watch_of, with_tells}
use Rattle.node_core.specs.declared.act.Act.{Act}
use Rattle.node_core.specs.declared.act.Act.TheVariants as acts
use Rattle.node_core.specs.declared.input.Input.{Input}
use Rattle.node_core.specs.declared.input.Input.TheVariants as inputs
use Rattle.node_core.specs.declared.input.No.{No}
use Rattle.node_core.specs.declared.lane.Body.{Body}
use Rattle.node_core.specs.declared.supervising.Watch.{Watch}
use Rattle.node_core.specs.declared.word.Word.{Word}
use Rattle.step_rules.specs.Opened.{open_after, opened_by}
use Rattle.step_rules.proofs.Quiet.{all_read_leaves, open_append, open_with_tells}
use Rattle.step_rules.specs.Spoken.{AreSaidOpen, EachStepIsSpoken, IsOffClosed, NoticesFirst, NoticesIf, SaidAt}
use Rattle.step_rules.proofs.Calm.{IsCalm, calm_signals, said_both, said_with_tells}
use Rattle.step_rules.proofs.Halves.{
  Least,
  Says,
  Speaks,
  all_read_says,
  announces_say,
  gently,
  is_standing_open,
  off_open,
  own_intake,
  own_outlet,
  says_still,
  says_then,
  speaks_behind,
  speaks_then,
}
use Rattle.step_rules.proofs.Speaking.{
  heard_says,
  notices_say,
  one_says,
  said_open,
  session_says,
}

-- ---- events that say nothing at a side

-- with other records kept, or another will
kept_says : (at : Side) (body : Body) (kept : List Record) (act : Act)
    → ((o : Bool) → IsCalm at o (act ∷ [])) → Says at body (done (with_kept kept body) (act ∷ []))
kept_says Entry body kept act calm o least off =
    gently Entry o body (done (with_kept kept body) (act ∷ [])) (calm o) refl least
    (λ closed. record { apart = (off closed).apart; unsaid = (off closed).unsaid })
kept_says Exit body kept act calm o least off =
    gently Exit o body (done (with_kept kept body) (act ∷ [])) (calm o) refl least
    (λ closed. record { apart = (off closed).apart; unsaid = (off closed).unsaid })

if_kept_says : (at : Side) (test : Bool) (body : Body) (kept : List Record) (act : Act)
    → ((o : Bool) → IsCalm at o (act ∷ []))
    → Says at body (if_kept test (with_kept kept body) act body)
if_kept_says at true body kept act calm = kept_says at body kept act calm
if_kept_says at false body kept act calm = says_still at body

wills_say : (at side : Side) (on : Bool) (body : Body) → Says at body (wills side on body)
wills_say Entry Entry on body o least off = record {
  said = (tt, tt);
  least = least;
  off = λ closed. record { apart = (off closed).apart; unsaid = (off closed).unsaid };
}
wills_say Entry Exit on body o least off = record {
  said = (tt, tt);
  least = least;
  off = λ closed. record { apart = (off closed).apart; unsaid = (off closed).unsaid };
}
wills_say Exit Entry on body o least off = record {
  said = (tt, tt);
  least = least;
  off = λ closed. record { apart = (off closed).apart; unsaid = (off closed).unsaid };
}
wills_say Exit Exit on body o least off = record {
  said = (tt, tt);
  least = least;
  off = λ closed. record { apart = (off closed).apart; unsaid = (off closed).unsaid };
}

level_says : (at : Side) (line : SegmentLine) (on : Bool) (body : Body)
    → Says at body (tells_level line on body)
level_says Entry Ready on body o least off = record {
  said = (tt, tt);
  least = least;
  off = λ closed. record { apart = (off closed).apart; unsaid = (off closed).unsaid };
}
level_says Entry Available on body o least off = record {
  said = (tt, tt);
  least = least;
  off = λ closed. record { apart = (off closed).apart; unsaid = (off closed).unsaid };
}
level_says Exit Ready on body o least off = record {
  said = (tt, tt);
  least = least;
  off = λ closed. record { apart = (off closed).apart; unsaid = (off closed).unsaid };
}
level_says Exit Available on body o least off = record {
  said = (tt, tt);
  least = least;
  off = λ closed. record { apart = (off closed).apart; unsaid = (off closed).unsaid };
}
level_says at Failed on body o least off = record { said = (tt, tt); least = least; off = off }

fails_say : (at : Side) (front : Option ℕ) (body : Body) → Says at body (fails front body)
fails_say at None body = says_still at body
fails_say at (Some id) body =
    if_kept_says at (is_kept id body.kept) body (with_mark id qualities.Failed body.kept)
    (acts.Marks id qualities.Failed) (λ o. record { said = (tt, tt); same = refl })

levels_say : (at : Side) (desk : Desk) (line : SegmentLine) (on : Bool) (body : Body)
    → Says at body (sets_level desk line on body)
levels_say at desk line on body =
    says_then at body (tells_level line on body) (λ one.
    fails (failed_front desk.bridge line on one) one)
    (level_says at line on body)
    (λ one. fails_say at (failed_front desk.bridge line on one) one)

faults_say : (at side : Side) (desk : Desk) (body : Body) → Says at body (faults desk side body)
faults_say at Entry desk body = own_intake at desk in_input.Fault body refl
faults_say at Exit desk body = own_outlet at desk out_input.Fault body refl

supervises_say : (at : Side) (desk : Desk) (what : Supervision) (body : Body)
    → Says at body (supervises desk what body)
supervises_say at desk (Supervise on) body o least off =
    record { said = (tt, tt); least = least; off = off }
supervises_say at desk (Ask question) body o least off =
    record { said = (tt, tt); least = least; off = off }
supervises_say at desk (Answer query order) body o least off =
    record { said = (tt, tt); least = least; off = off }

-- ---- what is told and asked of boards, where the session stands

forecasts_say : (at : Side) (desk : Desk) (front : Option Record) (body : Body)
    → is_open Exit body ≡ true → Says at body (done body (forecasts desk front))
forecasts_say at desk None body has o least off =
    record { said = tt; least = least; off = off }
forecasts_say at desk (Some board) body has o least off =
    record { said = (said_open at Exit o body has least, tt); least = least; off = off }

asks_say : (at : Side) (desk : Desk) (barcode : List ℕ) (body : Body) → is_open Entry body ≡ true
    → Says at body (asks_for desk barcode body)
asks_say at desk barcode body has o least off =
    record { said = (said_open at Entry o body has least, tt); least = least; off = off }

-- ---- a connection is made: it is known to be there from the first

opened_least : (at side : Side) (o : Bool) (session : SessionEnd) (body : Body) → SaidAt at side o
    → Least at o body → Least at o (with_session side session body)
opened_least Entry Entry o session body said least has = said
opened_least Exit Exit o session body said least has = said
opened_least Entry Exit o session body said least has = least has
opened_least Exit Entry o session body said least has = least has

opened_off : (at side : Side) (role : Role) (body : Body) → IsOffClosed at body
    → IsOffClosed at (with_session side (in_state (ended_session role) Handshake) body)
opened_off Entry Entry role body off closed = off_open true refl closed
opened_off Exit Exit role body off closed = off_open true refl closed
opened_off Entry Exit role body off closed =
    record { apart = (off closed).apart; unsaid = (off closed).unsaid }
opened_off Exit Entry role body off closed =
    record { apart = (off closed).apart; unsaid = (off closed).unsaid }

opening_says : (at side : Side) (desk : Desk) (role : Role) (body : Body) (o : Bool)
    → SaidAt at side o → Least at o body → IsOffClosed at body
    → Speaks at o (actions_did desk side (opening_actions role) body)
opening_says at side desk Downstream body o said least off =
    one_says at side desk (Some SendService) body tt o said least off
opening_says at side desk Upstream body o said least off =
    one_says at side desk None body tt o said least off

open_row_says : (at side : Side) (desk : Desk) (state : SessionState) (body : Body) (o : Bool)
    → SaidAt at side o → Least at o body → IsOffClosed at body
    → Speaks at o (session_did desk side (opened_row state (session_at side body)) body)
open_row_says at side desk NotConnected body o said least off =
    let role : Role = (session_at side body).role in
    let made : SessionEnd = in_state (ended_session role) Handshake in
    opening_says at side desk role (with_session side made body) o said
    (opened_least at side o made body said least) (opened_off at side role body off)
open_row_says at side desk Handshake body o said least off = says_still at body o least off
open_row_says at side desk Standing body o said least off = says_still at body o least off

opens_say : (at side : Side) (desk : Desk) (body : Body) (o : Bool) → SaidAt at side o
    → Least at o body → IsOffClosed at body → Speaks at o (opens desk side body)
opens_say at side desk body = open_row_says at side desk (session_at side body).state body

-- ---- an event, whose connection is known to be there, and whose sessions stand as they have to

abbrev OpensIf : Event → Side → Bool → Type 0
OpensIf Connect at o = SaidAt at Entry o
OpensIf Accepted at o = SaidAt at Exit o
OpensIf event at o = Unit {0}

abbrev StandsIf : Event → Body → Type 0
StandsIf Forecast body = is_standing Exit body ≡ true
StandsIf (Query barcode) body = is_standing Entry body ≡ true
StandsIf event body = Unit {0}

event_says : (at : Side) (desk : Desk) (event : Event) (body : Body) (o : Bool)
    → OpensIf event at o → StandsIf event body → Least at o body → IsOffClosed at body
    → Speaks at o (event_did desk event body)
event_says at desk Nothing body o opens stands least off = says_still at body o least off
event_says at desk Connect body o opens stands least off =
    speaks_behind (acts.Connects ∷ []) (session_did desk Entry
    (opened_row (session_at Entry body).state (session_at Entry body)) body) (tt, tt)
    (opens_say at Entry desk body o opens least off)
event_says at desk Accepted body o opens stands least off =
    opens_say at Exit desk body o opens least off
event_says at desk Second body o opens stands least off =
    session_says at Exit desk second body (session_row (session_at Exit body) second) refl tt o
    least off
event_says at desk (Words side words) body o opens stands least off =
    heard_says at side desk words body o least off
event_says at desk (Notice side) body o opens stands least off =
    notices_say at side desk (is_open side body) body o least off
event_says at desk Tick body o opens stands least off =
    says_then at body (ticks desk Entry body) (ticks desk Exit)
    (session_says at Entry desk tick body (session_row (session_at Entry body) tick) refl tt)
    (λ one. session_says at Exit desk tick one (session_row (session_at Exit one) tick) refl tt) o
    least off
event_says at desk Shutdown body o opens stands least off =
    says_then at body (shuts_down desk Entry body) (shuts_down desk Exit)
    (session_says at Entry desk shutdown body (session_row (session_at Entry body) shutdown) refl
    tt)
    (λ one. session_says at Exit desk shutdown one (session_row (session_at Exit one) shutdown)
    refl tt) o least off
event_says at desk (Fault side) body o opens stands least off =
    faults_say at side desk body o least off
event_says at desk (Will side on) body o opens stands least off =
    wills_say at side on body o least off
event_says at desk (Level line on) body o opens stands least off =
    levels_say at desk line on body o least off
event_says at desk (Insert id barcode) body o opens stands least off =
    kept_says at body (body.kept ++ plain_record id desk.name barcode ∷ []) (acts.Inserts id)
    (λ p. record { said = (tt, tt); same = refl }) o least off
event_says at desk (Remove id) body o opens stands least off =
    if_kept_says at (is_kept id body.kept) body (without id body.kept) (acts.Removes id)
    (λ p. record { said = (tt, tt); same = refl }) o least off
event_says at desk (Replace old new) body o opens stands least off =
    if_kept_says at (is_kept old body.kept) body
    (with_instead old (plain_record new desk.name None) body.kept) (acts.Replaces old new)
    (λ p. record { said = (tt, tt); same = refl }) o least off
event_says at desk (Mark id quality) body o opens stands least off =
    if_kept_says at (is_kept id body.kept) body (with_mark id quality body.kept)
    (acts.Marks id quality) (λ p. record { said = (tt, tt); same = refl }) o least off
event_says at desk (Sub id sub) body o opens stands least off =
    if_kept_says at (takes_sub id sub body.kept) body (with_sub id sub body.kept)
    (acts.Subs id sub.pos) (λ p. record { said = (tt, tt); same = refl }) o least off
event_says at desk Forecast body o opens stands least off =
    forecasts_say at desk (slice_get body.kept 0) body (is_standing_open Exit body stands) o least
    off
event_says at desk (Query barcode) body o opens stands least off =
    asks_say at desk barcode body (is_standing_open Entry body stands) o least off
event_says at desk (Supervised what) body o opens stands least off =
    supervises_say at desk what body o least off
event_says at desk (Gives id to) body o opens stands least off =
    if_kept_says at (is_kept id body.kept) body (without id body.kept) (acts.Gives id to)
    (λ p. record { said = (tt, tt); same = refl }) o least off
event_says at desk (Gets board) body o opens stands least off =
    kept_says at body (body.kept ++ board ∷ []) (acts.Gets board.id)
    (λ p. record { said = (tt, tt); same = refl }) o least off

-- ---- the three parts

outlet_session : (side : Side) (desk : Desk) (body : Body) (row : Option OutRow)
    → session_at side (outlet_row_did desk body row).body ≡ session_at side body
outlet_session side desk body None = refl
outlet_session Entry desk body (Some row) = refl
outlet_session Exit desk body (Some row) = refl

intake_session : (side : Side) (desk : Desk) (body : Body) (row : Option InRow)
    → session_at side (intake_row_did desk body row).body ≡ session_at side body
intake_session side desk body None = refl
intake_session Entry desk body (Some row) = refl
intake_session Exit desk body (Some row) = refl

saw_session : (side at : Side) (desk : Desk) (event : SensorEvent) (body : Body)
    → session_at side (saw desk at event body).body ≡ session_at side body
saw_session side Entry desk event body =
    intake_session side desk body (intake_row body.intake (in_input.Sensed event))
saw_session side Exit desk event body =
    outlet_session side desk body (outlet_row body.outlet (out_input.Sensed event))

-- what is read changes no session
read_session : (side : Side) (desk : Desk) (unread : List Sensed) (body : Body)
    → session_at side (all_read desk unread body).body ≡ session_at side body
read_session side desk [] body = refl
read_session side desk (sensed ∷ others) body =
    read_session side desk others (saw desk sensed.side sensed.event body).body
    ∙ saw_session side sensed.side desk sensed.event body

read_standing : (side : Side) (desk : Desk) (unread : List Sensed) (body : Body)
    → is_standing side body ≡ true → is_standing side (all_read desk unread body).body ≡ true
read_standing side desk unread body is =
    ap (λ (session : SessionEnd). is_standing_state session.state)
    (read_session side desk unread body) ∙ is

stands_behind : (desk : Desk) (unread : List Sensed) (event : Event) (body : Body)
    → StandsIf event body → StandsIf event (all_read desk unread body).body
stands_behind desk unread Forecast body stands = read_standing Exit desk unread body stands
stands_behind desk unread (Query barcode) body stands =
    read_standing Entry desk unread body stands
stands_behind desk unread event body stands = tt

speaks_quietly : {at : Side} {o : Bool} (first : Done) (next : Body → Done) → Speaks at o first
    → open_after at o first.acts ≡ o
    → (Least at o first.body → IsOffClosed at first.body → Speaks at o (next first.body))
    → Speaks at o (and_then first next)
speaks_quietly {at} {o} first next f same two =
    let least : Least at o first.body = λ has. sym same ∙ f.least has in
    let s : Speaks at (open_after at o first.acts) (next first.body) =
    subst (λ (p : Bool). Speaks at p (next first.body)) (sym same) (two least f.off) in
    record {
      said = said_both at o first.acts (next first.body).acts f.said s.said;
      least = λ has. open_append at o first.acts (next first.body).acts ∙ s.least has;
      off = s.off;
    }

plain_step_says : (at : Side) (desk : Desk) (unread : List Sensed) (event : Event) (body : Body)
    (o : Bool) → OpensIf event at o → StandsIf event body → Least at o body → IsOffClosed at body
    → Speaks at o (plain_step desk unread event body)
plain_step_says at desk unread event body o opens stands least off =
    let read : Done = all_read desk unread body in
    speaks_quietly read (λ one. and_then (event_did desk event one) (announces desk))
    (all_read_says at desk unread body o least off)
    ((all_read_leaves at desk unread body).quiet o)
    (λ now still. speaks_then (event_did desk event read.body) (announces desk)
    (event_says at desk event read.body o opens (stands_behind desk unread event body stands) now
    still)
    (announces_say at desk (event_did desk event read.body).body))

-- ---- the input as an event

new_opens : (found : Result ℕ IdsUsedUp) (event : ℕ → Event) (at : Side) (o : Bool)
    → ((id : ℕ) → OpensIf (event id) at o) → OpensIf (with_new found event) at o
new_opens (Ok id) event at o opens = opens id
new_opens (Err why) event at o opens = tt

input_opens : (maker : Maker) (input : Input) (words : List Word) (at : Side) (o : Bool)
    → OpensIf (event_of maker input words) at (opened_by input at o)
input_opens maker inputs.Connect words Entry o = refl
input_opens maker inputs.Connect words Exit o = tt
input_opens maker inputs.Accepted words Entry o = tt
input_opens maker inputs.Accepted words Exit o = refl
input_opens maker (inputs.Insert barcode) words at o =
    new_opens (next_id maker) (λ id. Insert id barcode) at _ (λ id. tt)
input_opens maker (inputs.Replace old) words at o =
    new_opens (next_id maker) (Replace old) at _ (λ id. tt)
input_opens maker input words at o = tt

opened_still : (input : Input) (at : Side) (o : Bool) → o ≡ true → opened_by input at o ≡ true
opened_still inputs.Connect Entry o is = refl
opened_still inputs.Accepted Exit o is = refl
opened_still inputs.Connect Exit o is = is
opened_still inputs.Accepted Entry o is = is
opened_still input at o is = is

not_refused : (test : Bool) (why : No) (next : Result (Unit {0}) No)
    → no_if test why next ≡ may_do → test ≡ false
not_refused true why next may = cc
not_refused false why next may = refl

stands_so : (test : Bool) → not test ≡ false → test ≡ true
stands_so true is = refl
stands_so false is = sym is

new_stands : (found : Result ℕ IdsUsedUp) (event : ℕ → Event) (body : Body)
    → ((id : ℕ) → StandsIf (event id) body) → StandsIf (with_new found event) body
new_stands (Ok id) event body stands = stands id
new_stands (Err why) event body stands = tt

input_stands : (s : NodeState) (input : Input) (words : List Word) → may_of s input ≡ may_do
    → StandsIf (event_of s.maker input words) s.lane.body
input_stands s inputs.Forecast words may =
    stands_so (is_standing Exit s.lane.body) (not_refused _ _ _ may)
input_stands s (inputs.Query barcode) words may =
    stands_so (is_standing Entry s.lane.body) (not_refused _ _ _ may)
input_stands s (inputs.Insert barcode) words may =
    new_stands (next_id s.maker) (λ id. Insert id barcode) s.lane.body (λ id. tt)
input_stands s (inputs.Replace old) words may =
    new_stands (next_id s.maker) (Replace old) s.lane.body (λ id. tt)
input_stands s input words may = tt

-- ---- THE STEP

notice_first : (desk : Desk) (watch : Watch) (side : Side) (test : Bool) (body : Body)
    (more : List Act) → test ≡ true
    → NoticesFirst side (with_tells desk watch
    ((if_open test (behind (acts.Notices side ∷ []) (ended desk side body)) body).acts
    ++ (announces desk (if_open test (behind (acts.Notices side ∷ []) (ended desk side body))
    body).body).acts) ++ more)
notice_first desk watch side true body more is = record { rest = _; is = refl }
notice_first desk watch side false body more is = absurd (false≢true is)

notices_if : (s t : NodeState) (read : List Sensed) (input : Input) (moment : ℤ)
    (told : List Act) → may_of s input ≡ may_do → Steps s read input moment t told
    → NoticesIf read input told
notices_if s t [] (inputs.Notice side) moment told may steps =
    let desk : Desk = desk_of s moment in
    let body : Body = s.lane.body in
    subst (NoticesFirst side)
    (sym (steps.told
    ∙ ap (λ (made : List Act). made ++ signalled s.bridge t.lane.body) steps.lane.told))
    (notice_first desk (watch_of desk body) side (is_open side body) body
    (signalled s.bridge t.lane.body) (stands_so (is_open side body) (not_refused _ _ _ may)))
notices_if s t [] input moment told may steps = tt
notices_if s t (sensed ∷ others) input moment told may steps = tt

step_says : (s t : NodeState) (read : List Sensed) (input : Input) (moment : ℤ)
    (told : List Act) → may_of s input ≡ may_do
    → (steps : Steps s read input moment t told) → (at : Side)
    → IsOffClosed at s.lane.body
    → Speaks at (opened_by input at (is_open at s.lane.body))
    (machine_step (desk_of s moment) read (event_of s.maker input steps.lane.words) s.lane.body)
step_says s t read input moment told may steps at off =
    let desk : Desk = desk_of s moment in
    let body : Body = s.lane.body in
    let event : Event = event_of s.maker input steps.lane.words in
    let o : Bool = opened_by input at (is_open at body) in
    let plain : Speaks at o (plain_step desk read event body) =
    plain_step_says at desk read event body o
    (input_opens s.maker input steps.lane.words at (is_open at body))
    (input_stands s input steps.lane.words may) (opened_still input at (is_open at body)) off in
    record {
      said = said_with_tells at o desk (watch_of desk body) (plain_step desk read event body).acts
          plain.said;
      least = λ has. open_with_tells at o desk (watch_of desk body)
          (plain_step desk read event body).acts ∙ plain.least has;
      off = plain.off;
    }

told_says : (s t : NodeState) (read : List Sensed) (input : Input) (moment : ℤ)
    (told : List Act) → may_of s input ≡ may_do
    → (steps : Steps s read input moment t told) → (at : Side)
    → IsOffClosed at s.lane.body
    → AreSaidOpen at (opened_by input at (is_open at s.lane.body)) told
told_says s t read input moment told may steps at off =
    let event : Event = event_of s.maker input steps.lane.words in
    let did : Done = machine_step (desk_of s moment) read event s.lane.body in
    let o : Bool = opened_by input at (is_open at s.lane.body) in
    let more : List Act = signalled s.bridge t.lane.body in
    let speaks : Speaks at o did = step_says s t read input moment told may steps at off in
    subst (AreSaidOpen at o)
    (sym (steps.told ∙ ap (λ (made : List Act). made ++ more) steps.lane.told))
    (said_both at o did.acts more speaks.said
    (calm_signals at (open_after at o did.acts) s.bridge t.lane.body).said)

pub each_spoken : EachStepIsSpoken
each_spoken s t read input moment told may steps off = record {
  says = λ at. told_says s t read input moment told may steps at (off at);
  notices = notices_if s t read input moment told may steps;
  off = λ at. subst (IsOffClosed at) (sym steps.lane.body)
      (step_says s t read input moment told may steps at (off at)).off;
}

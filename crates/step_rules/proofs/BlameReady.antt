-- A SIDE IS READY, which is to say that it isn't in its handshake. No step but a connection of that side begins one, and an
-- entry that hears a description is ready behind it.
use Rattle.std.proofs.Common.{
  Bool,
  List,
  None,
  Option,
  Some,
  [],
  false,
  is_some,
  refl,
  sym,
  true,
  ℤ,
  ◌∙◌,
  ◌∷◌,
  ◌≡◌,
}
use Rattle.std.proofs.lemmas.Bool.{false≢true}
use Rattle.line_base.specs.declared.states.Side.{Side}
use Rattle.line_base.specs.declared.states.Side.TheVariants.{Entry, Exit}
use Rattle.board_record.specs.declared.sensed.Sensed.{Sensed as Seen}
use Rattle.hermes_horizontal.specs.declared.message.Horizontal.{Horizontal}
use Rattle.hermes_horizontal.specs.declared.message.Horizontal.TheVariants as message
use Rattle.hermes_horizontal.specs.declared.message.Message.{Message}
use Rattle.session_core.specs.declared.state.SessionState.{SessionState}
use Rattle.session_core.specs.declared.state.SessionState.TheVariants.{
  Handshake,
  NotConnected,
  Standing,
}
use Rattle.session_core.specs.End.{SessionEnd, at_rest, is_connected_state}
use Rattle.session_core.specs.Input.{Input, heard}
use Rattle.session_core.specs.Row.{SessionRow, session_row}
use Rattle.handover_out.specs.State.{held}
use Rattle.node_core.specs.Connect.{if_open}
use Rattle.node_core.specs.Desk.{Desk}
use Rattle.node_core.specs.Done.{Done, and_then}
use Rattle.node_core.specs.Event.{Accepted, Connect, Event, Nothing, Words}
use Rattle.node_core.specs.Halves.{ended}
use Rattle.node_core.specs.Hears.{hears, rowed, taken}
use Rattle.node_core.specs.Reads.{all_read}
use Rattle.node_core.specs.Sides.{is_open, session_at, with_session, with_will}
use Rattle.node_core.specs.Step.{machine_step}
use Rattle.node_core.specs.Words.{all_heard, word_did}
use Rattle.node_core.specs.declared.lane.Body.{Body}
use Rattle.node_core.specs.declared.word.Word.{Word}
use Rattle.node_core.specs.declared.word.Word.TheVariants as words
use Rattle.session_core.specs.Table.{
  IsSessionRow,
  gives_up_handshake,
  gives_up_standing,
  is_closed,
  is_unsettled,
  opens_downstream,
  opens_upstream,
  shuts_down,
  stands_downstream,
  stands_upstream,
}
use Rattle.session_core.proofs.Rows.{row_is as session_row_is}
use Rattle.hermes_horizontal.specs.declared.message.Service.{Service}
use Rattle.step_rules.specs.Causes.{Cause, Meeting, ToSession, by_accept, by_connect}
use Rattle.step_rules.specs.Made.{
  Made,
  made_act,
  made_both,
  made_breach,
  made_by_hand,
  made_close,
  made_intake,
  made_none,
  made_notice,
  made_outlet,
  made_passed,
  made_row,
  made_start,
  made_will,
  made_word,
  without_connection,
}
use Rattle.step_rules.proofs.Inputs.{IsNoOpening}
use Rattle.step_rules.proofs.Steps.{
  actions_made,
  all_read_made,
  half_closed_made,
  step_made,
  word_made,
}

abbrev pub is_ready_state : SessionState → Bool
is_ready_state NotConnected = true
is_ready_state Handshake = false
is_ready_state Standing = true

abbrev pub is_ready : Side → Body → Bool
is_ready side body = is_ready_state (session_at side body).state

-- a session that is ready and has a connection stands
pub ready_stands : (state : SessionState) → is_connected_state state ≡ true → is_ready_state state ≡ true → state ≡ Standing
ready_stands NotConnected on ready = absurd (false≢true on)
ready_stands Handshake on ready = absurd (false≢true ready)
ready_stands Standing on ready = refl

-- ---- what leaves a side ready

pub record Stays (side : Side) (before after : Body) : Type 0 where
  pub ready : is_ready side before ≡ true → is_ready side after ≡ true

same_stays : {side : Side} (before after : Body) → is_ready side after ≡ is_ready side before → Stays side before after
same_stays before after same = record { ready = λ is. same ∙ is }

none_stays : {side : Side} (body : Body) → Stays side body body
none_stays body = record { ready = λ is. is }

both_stay : {side : Side} {a b c : Body} → Stays side a b → Stays side b c → Stays side a c
both_stay one two = record { ready = λ is. two.ready (one.ready is) }

-- a session that goes on, or ends, at one of the sides
session_stays : (side at : Side) (body : Body) (session : SessionEnd) → (is_ready at body ≡ true → is_ready_state session.state ≡ true) → Stays side body (with_session at session body)
session_stays Entry Entry body session ready = record { ready = ready }
session_stays Entry Exit body session ready = same_stays body _ refl
session_stays Exit Entry body session ready = same_stays body _ refl
session_stays Exit Exit body session ready = record { ready = ready }

-- ---- the rows of a session: no row but that of a connection begins a handshake

row_ready : {s : SessionEnd} {input : Input} {row : SessionRow} → IsSessionRow s input row
    → IsNoOpening input → is_ready_state s.state ≡ true → is_ready_state row.after.state ≡ true
row_ready opens_downstream other is = absurd other
row_ready opens_upstream other is = absurd other
row_ready stands_upstream other is = refl
row_ready is_unsettled other is = refl
row_ready stands_downstream other is = refl
row_ready (gives_up_handshake _) other is = refl
row_ready (gives_up_standing _ _) other is = refl
row_ready (shuts_down _) other is = refl
row_ready (is_closed _) other is = refl
row_ready _ other is = is

will_stays : (side at : Side) (on : Bool) (body : Body) → Stays side body (with_will at on body)
will_stays Entry Entry on body = same_stays body _ refl
will_stays Entry Exit on body = same_stays body _ refl
will_stays Exit Entry on body = same_stays body _ refl
will_stays Exit Exit on body = same_stays body _ refl

-- no event begins a handshake but a connection of this side
abbrev pub MayCall : Side → Event → Type 0
MayCall Entry Connect = ⊥
MayCall Exit Accepted = ⊥
MayCall side event = Unit {0}

abbrev CallsNot : Side → Cause → Type 0
CallsNot side (Meeting event) = MayCall side event
CallsNot side _ = Unit {0}

none_calls : {cause : Cause} {side : Side} {input : Input} → ToSession cause side input
    → CallsNot side cause → IsNoOpening input
none_calls by_connect none = absurd none
none_calls by_accept none = absurd none
none_calls _ none = tt

-- ---- the pieces of a step

stays_on : {desk : Desk} {cause : Cause} {body : Body} {d : Done} (side : Side)
    → Made desk cause body d → CallsNot side cause → Stays side body d.body
stays_on side (made_none {body = body}) none = none_stays body
stays_on side (made_both one two) none =
    both_stay (stays_on side one none) (stays_on side two none)
stays_on side (made_word is on made) none = stays_on side made tt
stays_on side (made_act {body = body} tells) none = none_stays body
stays_on Entry (made_row {side = Entry} {row = row} {body = body} to shape made) none =
    both_stay (session_stays Entry Entry body row.after (row_ready shape (none_calls to none)))
    (stays_on Entry made none)
stays_on Exit (made_row {side = Exit} {row = row} {body = body} to shape made) none =
    both_stay (session_stays Exit Exit body row.after (row_ready shape (none_calls to none)))
    (stays_on Exit made none)
stays_on Entry (made_row {side = Exit} {row = row} {body = body} to shape made) none =
    both_stay (same_stays body (with_session Exit row.after body) refl) (stays_on Entry made none)
stays_on Exit (made_row {side = Entry} {row = row} {body = body} to shape made) none =
    both_stay (same_stays body (with_session Entry row.after body) refl) (stays_on Exit made none)
stays_on side (made_passed {side = at} {row = row} {body = body} shape first on made) none =
    both_stay (session_stays side at body row.after (row_ready shape tt))
    (stays_on side made none)
stays_on side (made_close talk made) none = record { ready = (stays_on side made none).ready }
stays_on side (made_notice {side = at} {body = body} on made) none =
    both_stay (session_stays side at body (at_rest (session_at at body).role) (λ is. refl))
    (stays_on side made none)
stays_on side (made_breach {side = at} {body = body} made) none =
    both_stay (session_stays side at body (at_rest (session_at at body).role) (λ is. refl))
    (stays_on side made none)
stays_on Entry (made_start {body = body} says on shape) none = same_stays body _ refl
stays_on Exit (made_start {body = body} says on shape) none = same_stays body _ refl
stays_on Entry (made_outlet {body = body} to shape) none = same_stays body _ refl
stays_on Exit (made_outlet {body = body} to shape) none = same_stays body _ refl
stays_on Entry (made_intake {body = body} to shape) none = same_stays body _ refl
stays_on Exit (made_intake {body = body} to shape) none = same_stays body _ refl
stays_on Entry (made_by_hand {body = body} hand) none = same_stays body _ refl
stays_on Exit (made_by_hand {body = body} hand) none = same_stays body _ refl
stays_on side (made_will {side = at} {on = on} {body = body} sets) none =
    will_stays side at on body

-- a connection that is at an end leaves its side ready
ended_ready : (desk : Desk) (side : Side) (body : Body)
    → is_ready side (ended desk side body).body ≡ true
ended_ready desk Entry body =
    (stays_on Entry
    (half_closed_made desk (Meeting Nothing) Entry (without_connection Entry body) tt) tt).ready
    refl
ended_ready desk Exit body =
    (stays_on Exit
    (half_closed_made desk (Meeting Nothing) Exit (without_connection Exit body) tt) tt).ready refl

-- ---- a description

described : {s : SessionEnd} {row : SessionRow} {service : Service} {unsettled : Bool}
    (desk : Desk) (m : Message) (body : Body)
    → IsSessionRow s (heard (message.ServiceDescription service) unsettled) row
    → is_ready Entry
    (taken desk Entry m row.actions.first row.actions (with_session Entry row.after body)).body
    ≡ true
described desk m body stands_upstream = refl
described {row = row} desk m body is_unsettled =
    (stays_on Entry
    (actions_made desk (Meeting Nothing) Entry row.actions (with_session Entry row.after body) tt)
    tt).ready refl
described {row = row} desk m body stands_downstream =
    (stays_on Entry
    (actions_made desk (Meeting Nothing) Entry row.actions (with_session Entry row.after body) tt)
    tt).ready refl

rowed_ready : (desk : Desk) (m : Message) (service : Service) (unsettled : Bool) (body : Body)
    (found : Option SessionRow)
    → session_row (session_at Entry body) (heard (message.ServiceDescription service) unsettled)
    ≡ found → is_ready Entry (rowed desk Entry m body found).body ≡ true
rowed_ready desk m service unsettled body None is = ended_ready desk Entry body
rowed_ready desk m service unsettled body (Some row) is =
    described desk m body
    (session_row_is (session_at Entry body)
    (heard (message.ServiceDescription service) unsettled) row is)

-- ---- which side is ready behind what it heard

abbrev pub ready_after : Side → Bool → Horizontal → Bool
ready_after Entry ready (message.ServiceDescription service) = true
ready_after side ready what = ready

hears_by : (desk : Desk) (side : Side) (stamp : Option ℤ) (what : Horizontal) (body : Body)
    (ready : Bool) → (ready ≡ true → is_ready side body ≡ true)
    → ready_after side ready what ≡ true
    → is_ready side (hears desk side (record { stamp = stamp; body = what }) body).body ≡ true
hears_by desk Entry stamp (message.ServiceDescription service) body ready was is =
    let unsettled = is_some (held body.outlet) in
    rowed_ready desk (record { stamp = stamp; body = message.ServiceDescription service }) service
    unsettled body
    (session_row (session_at Entry body) (heard (message.ServiceDescription service) unsettled))
    refl
hears_by desk side stamp what body ready was is =
    (stays_on side
    (word_made desk side (words.Says (record { stamp = stamp; body = what })) body) tt).ready
    (was is)

pub hears_ready : (desk : Desk) (side : Side) (m : Message) (body : Body) (ready : Bool) → (ready ≡ true → is_ready side body ≡ true) → ready_after side ready m.body ≡ true → is_ready side (hears desk side m body).body ≡ true
hears_ready desk side m body ready was is = hears_by desk side m.stamp m.body body ready was is

-- which side is ready behind words
abbrev pub ready_word : Side → Bool → Word → Bool
ready_word side ready (words.Says m) = ready_after side ready m.body
ready_word side ready (words.Wrong text) = ready

abbrev pub ready_words : Side → Bool → List Word → Bool
ready_words side ready [] = ready
ready_words side ready (word ∷ others) = ready_words side (ready_word side ready word) others

word_ready : (desk : Desk) (side : Side) (word : Word) (body : Body) (ready : Bool) → (ready ≡ true → is_ready side body ≡ true) → ready_word side ready word ≡ true → is_ready side (word_did desk side word body).body ≡ true
word_ready desk side (words.Says m) body ready was is = hears_ready desk side m body ready was is
word_ready desk side (words.Wrong text) body ready was is = ended_ready desk side body

-- a side that has no connection is in no handshake
shut_ready : (state : SessionState) → is_connected_state state ≡ false → is_ready_state state ≡ true
shut_ready NotConnected off = refl
shut_ready Handshake off = absurd (false≢true (sym off))
shut_ready Standing off = refl

open_ready : (side : Side) (test : Bool) (d : Done) (body : Body) → is_open side body ≡ test → is_ready side d.body ≡ true → is_ready side (if_open test d body).body ≡ true
open_ready side true d body on is = is
open_ready side false d body off is = shut_ready (session_at side body).state off

words_ready : (desk : Desk) (side : Side) (spoken : List Word) (body : Body) (ready : Bool) → (ready ≡ true → is_ready side body ≡ true) → ready_words side ready spoken ≡ true → is_ready side (all_heard desk side spoken body).body ≡ true
words_ready desk side [] body ready was is = was is
words_ready desk side (word ∷ others) body ready was is =
    open_ready side (is_open side body) (and_then (word_did desk side word body) (all_heard desk side others)) body refl
    (words_ready desk side others (word_did desk side word body).body (ready_word side ready word) (word_ready desk side word body ready was) is)

-- ---- what a step does

pub read_stays : (side : Side) (desk : Desk) (unread : List Seen) (body : Body)
    → Stays side body (all_read desk unread body).body
read_stays side desk unread body = stays_on side (all_read_made desk unread body) tt

pub step_stays : (side : Side) (desk : Desk) (unread : List Seen) (event : Event) (body : Body)
    → MayCall side event → Stays side body (machine_step desk unread event body).body
step_stays side desk unread event body none =
    let step = step_made desk unread event body in
    let last =
    both_stay (stays_on side step.read tt)
    (both_stay (stays_on side step.met none) (stays_on side step.announced tt)) in
    record { ready = last.ready }

-- a step in which words are heard
pub step_hears_ready : (desk : Desk) (unread : List Seen) (side : Side) (spoken : List Word)
    (body : Body) → ready_words side (is_ready side body) spoken ≡ true
    → is_ready side (machine_step desk unread (Words side spoken) body).body ≡ true
step_hears_ready desk unread side spoken body is =
    let read : Body = (all_read desk unread body).body in
    let step = step_made desk unread (Words side spoken) body in
    (stays_on side step.announced tt).ready
    (words_ready desk side spoken read (is_ready side body)
    (read_stays side desk unread body).ready is)

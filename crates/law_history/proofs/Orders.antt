-- What a machine tells of openings and starts: it opens and refuses a handover just behind the start that it hears, and it
-- sends a start just behind telling it.
use Rattle.std.proofs.Common.{
  Bool,
  List,
  None,
  Option,
  Some,
  [],
  ap,
  append-nil,
  false,
  refl,
  subst,
  sym,
  true,
  ℕ,
  ◌&&◌,
  ◌++◌,
  ◌∙◌,
  ◌∷◌,
  ◌≡◌,
}
use Rattle.std.specs.Prelude.{is_some, not, slice_get}
use Rattle.std.proofs.lemmas.Bool.{and_parts, false≢true, and_from}
use Rattle.node_core.proofs.HalfRows.{IsNoStart as IsNoBid}
use Rattle.node_core.proofs.Opened.{breach_closes}
use Rattle.line_base.specs.declared.states.Side.TheVariants.{Entry, Exit}
use Rattle.board_record.specs.declared.record.Record.{Record}
use Rattle.board_record.specs.declared.sensed.Sensed.{Sensed}
use Rattle.hermes_horizontal.specs.Parts.{kind_of}
use Rattle.hermes_horizontal.specs.declared.message.Horizontal.{Horizontal}
use Rattle.hermes_horizontal.specs.declared.message.Horizontal.TheVariants as bodies
use Rattle.hermes_horizontal.specs.declared.message.Message.{Message}
use Rattle.session_core.specs.Breach.{unexpected}
use Rattle.session_core.specs.End.{SessionEnd}
use Rattle.session_core.specs.Input.{heard}
use Rattle.session_core.specs.Row.{SessionRow, session_row}
use Rattle.session_core.specs.Table.{IsSessionRow}
use Rattle.session_core.specs.declared.actions.Action.{Action}
use Rattle.session_core.specs.declared.actions.Action.TheVariants.{
  Close,
  Pass,
  Ping,
  Pong,
  SendService,
  Stand,
  Tell,
}
use Rattle.session_core.specs.declared.actions.Actions.{Actions}
use Rattle.session_core.proofs.Rows.{row_is as session_row_is}
use Rattle.handover_out.specs.Row.{OutRow, outlet_row}
use Rattle.handover_out.specs.State.{OutState, held, would_open}
use Rattle.handover_out.specs.Table.{
  IsOutletRow,
  offers as row_offers,
  opens as row_opens,
  refuses as row_refuses,
}
use Rattle.handover_out.specs.declared.input.OutInput.{OutInput}
use Rattle.handover_out.specs.declared.input.OutInput.TheVariants as out_input
use Rattle.handover_out.proofs.Rows.{row_is}
use Rattle.handover_in.specs.Row.{InRow, intake_row}
use Rattle.handover_in.specs.State.{InState}
use Rattle.handover_in.specs.Table.{
  IsIntakeRow,
  closed_between,
  closed_gone,
  closed_inside,
  starts_transport,
}
use Rattle.handover_in.specs.declared.input.InInput.{InInput}
use Rattle.handover_in.specs.declared.input.InInput.TheVariants as in_input
use Rattle.handover_in.proofs.Rows.{row_is as in_row_is}
use Rattle.node_core.specs.Announces.{
  announces,
  offer,
  offers_now,
  readies_now,
  ready,
  revoke,
  revokes_now,
  start,
  start_by,
  starts_now,
  unready,
  unreadies_now,
}
use Rattle.node_core.specs.Connect.{if_open}
use Rattle.node_core.specs.Desk.{Desk}
use Rattle.node_core.specs.Done.{Done, and_then, behind, stays}
use Rattle.node_core.specs.Event.{Event, Nothing, Words, event_did}
use Rattle.node_core.specs.Halves.{OffersFront, behind_opening, intake_row_did, opening_board}
use Rattle.node_core.specs.Hears.{exit_took, exit_word, hears, outlet_took, passed, rowed, taken}
use Rattle.node_core.specs.Reads.{all_read}
use Rattle.node_core.specs.Session.{actions_did, breaches}
use Rattle.node_core.specs.Sides.{is_open, session_at, with_session}
use Rattle.node_core.specs.Step.{plain_step}
use Rattle.node_core.specs.Told.{drives, in_told, out_told}
use Rattle.node_core.specs.Words.{all_heard}
use Rattle.node_core.specs.declared.act.Act.{Act}
use Rattle.node_core.specs.declared.act.Act.TheVariants as acts
use Rattle.node_core.specs.declared.act.Deed.TheVariants as deeds
use Rattle.node_core.specs.declared.lane.Body.{Body}
use Rattle.node_core.specs.declared.word.Word.{Word}
use Rattle.node_core.specs.declared.word.Word.TheVariants.{Says, Wrong}
use Rattle.node_core.proofs.Offers.{Offers, OffersOf, offers_front, offers_none, to_offers}
use Rattle.node_core.proofs.Sound.{read_offers, word_offers}
use Rattle.law_machine_custody.proofs.HearingAll.{deaf}
use Rattle.step_rules.specs.Causes.{
  Announcing,
  ByHand,
  Cause,
  Hearing,
  Meeting,
  Reading,
  Tells,
  ToIntake,
  hand_inserts,
  in_start,
  tells_alive,
  tells_hearing,
  tells_notice,
  tells_service,
  hand_changes,
  changes_quality,
}
use Rattle.step_rules.specs.Made.{
  Made,
  made_act,
  made_both,
  made_breach,
  made_by_hand,
  made_close,
  made_intake,
  made_none,
  made_notice,
  made_outlet,
  made_passed,
  made_row,
  made_start,
  made_will,
  made_word,
}
use Rattle.step_rules.proofs.Inputs.{IsNoStart, no_start}
use Rattle.step_rules.proofs.Passing.{passes_itself}
use Rattle.step_rules.proofs.Steps.{
  actions_made,
  all_read_made,
  breach_made,
  event_made,
  offer_made,
  ready_made,
  revoke_made,
  unready_made,
}

-- ---- acts in their order, of a machine that hears these words at its exit

abbrev pub is_asking : Horizontal → Bool
is_asking (bodies.StartTransport id) = true
is_asking _ = false

abbrev pub is_plain : Act → Bool
is_plain (acts.Hears Exit message) = false
is_plain (acts.Sends Entry message) = not (is_asking message.body)
is_plain (acts.Deed (deeds.Opens id)) = false
is_plain (acts.Deed (deeds.Refuses id)) = false
is_plain (acts.Deed (deeds.Starts id)) = false
is_plain _ = true

abbrev pub are_plain : List Act → Bool
are_plain [] = true
are_plain (act ∷ told) = is_plain act && are_plain told

-- `starting`: the last of them may be a start
pub data Orders : Bool → List Word → List Act → Type 0 where
  orders_end : {starting : Bool} {words : List Word} → Orders starting words []
  orders_on : {starting : Bool} {words : List Word} {act : Act} {told : List Act} → is_plain act ≡ true → Orders starting words told → Orders starting words (act ∷ told)
  orders_hears : {starting : Bool} {words : List Word} {message : Message} {told : List Act} → Orders starting words told → Orders starting (Says message ∷ words) (acts.Hears Exit message ∷ told)
  orders_opens : {starting : Bool} {words : List Word} {message : Message} {id : ℕ} {told : List Act} → message.body ≡ bodies.StartTransport id → Orders starting words told → Orders starting (Says message ∷ words) (acts.Hears Exit message ∷ acts.Deed (deeds.Opens id) ∷ told)
  orders_refuses : {starting : Bool} {words : List Word} {message : Message} {id : ℕ} {told : List Act} → message.body ≡ bodies.StartTransport id → Orders starting words told → Orders starting (Says message ∷ words) (acts.Hears Exit message ∷ acts.Deed (deeds.Refuses id) ∷ told)
  orders_starts : {words : List Word} {message : Message} {id : ℕ} (on : Option Bool) → Orders true words (acts.Deed (deeds.Starts id) ∷ acts.Sends Entry message ∷ drives Entry on)

pub plain_append : (a b : List Act) → are_plain a ≡ true → are_plain b ≡ true → are_plain (a ++ b) ≡ true
plain_append [] b one two = two
plain_append (act ∷ a) b one two = let both = and_parts (is_plain act) (are_plain a) one in and_from (is_plain act) (are_plain (a ++ b)) both.0 (plain_append a b both.1 two)

pub plain_then : {starting : Bool} {words : List Word} (a b : List Act) → are_plain a ≡ true → Orders starting words b → Orders starting words (a ++ b)
plain_then [] b plain later = later
plain_then (act ∷ a) b plain later = let both = and_parts (is_plain act) (are_plain a) plain in orders_on both.0 (plain_then a b both.1 later)

plain_orders : {words : List Word} (a : List Act) → are_plain a ≡ true → Orders false words a
plain_orders {words} a plain = subst (λ (l : List Act). Orders false words l) (append-nil a) (plain_then a [] plain orders_end)

pub any_words : {starting : Bool} {words : List Word} {told : List Act} → Orders starting [] told → Orders starting words told
any_words orders_end = orders_end
any_words (orders_on plain more) = orders_on plain (any_words more)
any_words (orders_starts on) = orders_starts on

pub orders_both : {words : List Word} {a : List Act} (b : List Act) → Orders false words a → Orders true [] b → Orders true words (a ++ b)
orders_both b orders_end later = any_words later
orders_both b (orders_on plain more) later = orders_on plain (orders_both b more later)
orders_both b (orders_hears more) later = orders_hears (orders_both b more later)
orders_both b (orders_opens is more) later = orders_opens is (orders_both b more later)
orders_both b (orders_refuses is more) later = orders_refuses is (orders_both b more later)

-- ---- the halves, but for a start that is heard and one that is said

out_plain : (desk : Desk) {s : OutState} {input : OutInput} {row : OutRow} (kept : List Record) → IsOutletRow s input row → IsNoStart input → are_plain (out_told desk kept row.act) ≡ true
out_plain desk kept (row_opens _) own = absurd own
out_plain desk kept (row_refuses _) own = absurd own
out_plain desk [] row_offers own = refl
out_plain desk (b ∷ bs) row_offers own = refl
out_plain desk kept _ own = refl

in_plain : (desk : Desk) {s : InState} {input : InInput} {row : InRow} → IsIntakeRow s input row → IsNoBid input → are_plain (in_told desk row.act) ≡ true
in_plain desk starts_transport own = absurd own
in_plain desk (closed_between {heard = true}) own = refl
in_plain desk (closed_between {heard = false}) own = refl
in_plain desk (closed_inside {heard = true}) own = refl
in_plain desk (closed_inside {heard = false}) own = refl
in_plain desk (closed_gone {heard = true}) own = refl
in_plain desk (closed_gone {heard = false}) own = refl
in_plain desk _ own = refl

-- ---- the pieces of a step, but for what is heard at the exit and a start that is said

abbrev IsPlainCause : Cause → Type 0
IsPlainCause Reading = Unit {0}
IsPlainCause (Hearing Exit (Says message)) = ⊥
IsPlainCause (Hearing side word) = Unit {0}
IsPlainCause (Meeting (Words Exit words)) = ⊥
IsPlainCause (Meeting event) = Unit {0}
IsPlainCause (Announcing starting) = starting ≡ false

no_bid : {desk : Desk} {cause : Cause} {body : Body} {input : InInput}
    → ToIntake desk cause body input → IsPlainCause cause → IsNoBid input
no_bid (in_start now) own = absurd (false≢true (sym own))
no_bid _ own = tt

act_plain : {desk : Desk} {cause : Cause} {body : Body} {act : Act} → Tells desk cause body act
    → IsPlainCause cause → is_plain act ≡ true
act_plain (tells_hearing {side = Entry}) own = refl
act_plain (tells_hearing {side = Exit}) own = absurd own
act_plain (tells_service {side = Entry} talk) own = refl
act_plain (tells_service {side = Exit} talk) own = refl
act_plain (tells_alive {side = Entry} talk) own = refl
act_plain (tells_alive {side = Exit} talk) own = refl
act_plain (tells_notice {side = Entry} talk) own = refl
act_plain (tells_notice {side = Exit} talk) own = refl
act_plain _ own = refl

hand_plain : {desk : Desk} {event : Event} {body : Body} {kept : List Record} {act : Act}
    → ByHand desk event body kept act → is_plain act ≡ true
hand_plain hand_inserts = refl
hand_plain (hand_changes (changes_quality is)) = refl
hand_plain _ = refl

plain : {desk : Desk} {cause : Cause} {body : Body} {d : Done} → Made desk cause body d
    → IsPlainCause cause → are_plain d.acts ≡ true
plain made_none own = refl
plain (made_both {one = one} {two = two} first next) own =
    plain_append one.acts two.acts (plain first own) (plain next own)
plain (made_word {side = Entry} is on made) own = plain made tt
plain (made_word {side = Exit} is on made) own = absurd own
plain (made_act {act = act} tells) own = and_from (is_plain act) true (act_plain tells own) refl
plain (made_row to shape made) own = plain made own
plain (made_passed {side = Entry} shape first on made) own = plain made tt
plain (made_passed {side = Exit} shape first on made) own = absurd own
plain (made_close talk made) own = plain made own
plain (made_notice on made) own = plain made own
plain (made_breach {side = Entry} made) own = plain made own
plain (made_breach {side = Exit} made) own = plain made own
plain (made_start says on shape) own = absurd own
plain {desk = desk} (made_outlet {body = body} to shape) own =
    out_plain desk body.kept shape (no_start to)
plain {desk = desk} (made_intake to shape) own = in_plain desk shape (no_bid to own)
plain (made_by_hand {act = act} hand) own = and_from (is_plain act) true (hand_plain hand) refl
plain (made_will sets) own = refl

-- ---- a message at the exit

-- it is a breach and closes the exit, or it is heard: a start is answered at once
data One (message : Message) (d : Done) : Type 0 where
  one_breach : are_plain d.acts ≡ true → is_open Exit d.body ≡ false → One message d
  one_hears : (others : List Act) → d.acts ≡ acts.Hears Exit message ∷ others → are_plain others ≡ true → One message d
  one_opens : (id : ℕ) (others : List Act) → message.body ≡ bodies.StartTransport id → d.acts ≡ acts.Hears Exit message ∷ acts.Deed (deeds.Opens id) ∷ others → are_plain others ≡ true → One message d
  one_refuses : (id : ℕ) (others : List Act) → message.body ≡ bodies.StartTransport id → d.acts ≡ acts.Hears Exit message ∷ acts.Deed (deeds.Refuses id) ∷ others → are_plain others ≡ true → One message d

data OneAny (message : Message) : Option Done → Type 0 where
  one_none : OneAny message None
  one_some : {d : Done} → One message (behind (acts.Hears Exit message ∷ []) d) → OneAny message (Some d)

one_of_breach : (desk : Desk) (message : Message) (text : List ℕ) (body : Body) → One message (breaches desk Exit text body)
one_of_breach desk message text body = one_breach (plain (breach_made desk Exit (Wrong text) text body) tt) (breach_closes desk Exit text body)

outlet_took_one : (desk : Desk) (message : Message) (body : Body) (input : OutInput) (found : Option OutRow) → outlet_row body.outlet input ≡ found → IsNoStart input → OneAny message (outlet_took desk body found)
outlet_took_one desk message body input None is own = one_none
outlet_took_one desk message body input (Some row) is own = one_some (one_hears (out_told desk body.kept row.act) refl (out_plain desk body.kept (row_is body.outlet input row is) own))

start_row_one : (desk : Desk) {s : OutState} {row : OutRow} (opening : Bool) (kept : List Record) (message : Message) (id : ℕ) (after : Body) → message.body ≡ bodies.StartTransport id → Offers s.phase s.offered kept → IsOutletRow s (out_input.Start id (opening_board opening kept)) row
    → One message (record { body = after; acts = acts.Hears Exit message ∷ out_told desk (behind_opening opening kept) row.act })
start_row_one desk false kept message id after says front (row_refuses apart) = one_refuses id _ says refl refl
start_row_one desk true [] message id after says front (row_refuses apart) = one_refuses id _ says refl refl
start_row_one desk true (b ∷ bs) message id after says offers_none shape = elim shape [ ]
start_row_one desk true (b ∷ bs) message id after says offers_front (row_opens same) = one_opens _ _ (says ∙ ap bodies.StartTransport (sym same)) refl refl

start_took_one : (desk : Desk) (message : Message) (id : ℕ) (opening : Bool) (body : Body) (found : Option OutRow) → message.body ≡ bodies.StartTransport id → OffersOf body → outlet_row body.outlet (out_input.Start id (opening_board opening body.kept)) ≡ found
    → OneAny message (outlet_took desk (record body { kept = behind_opening opening body.kept }) found)
start_took_one desk message id opening body None says front is = one_none
start_took_one desk message id opening body (Some row) says front is = one_some (start_row_one desk opening body.kept message id _ says front (row_is body.outlet (out_input.Start id (opening_board opening body.kept)) row is))

nothing_one : (message : Message) (body : Body) → OneAny message (Some (stays body))
nothing_one message body = one_some (one_hears [] refl refl)

exit_one : (desk : Desk) (message : Message) (what : Horizontal) (body : Body) → message.body ≡ what → OffersOf body → OneAny message (exit_took desk (exit_word what) body)
exit_one desk message (bodies.MachineReady quality) body says front = outlet_took_one desk message body out_input.MachineReady (outlet_row body.outlet out_input.MachineReady) refl tt
exit_one desk message bodies.RevokeMachineReady body says front = outlet_took_one desk message body out_input.RevokeMachineReady (outlet_row body.outlet out_input.RevokeMachineReady) refl tt
exit_one desk message (bodies.StartTransport id) body says front =
    let opening = would_open body.outlet id in
    start_took_one desk message id opening body (outlet_row body.outlet (out_input.Start id (opening_board opening body.kept))) says front refl
exit_one desk message (bodies.StopTransport state id) body says front = outlet_took_one desk message body (out_input.Stop state id) (outlet_row body.outlet (out_input.Stop state id)) refl tt
exit_one desk message (bodies.QueryBoardInfo top bottom) body says front = one_some (one_hears _ refl refl)
exit_one desk message (bodies.CheckAlive ping id) body says front = nothing_one message body
exit_one desk message (bodies.ServiceDescription service) body says front = nothing_one message body
exit_one desk message (bodies.Notification code severity text) body says front = nothing_one message body
exit_one desk message (bodies.BoardAvailable board) body says front = nothing_one message body
exit_one desk message bodies.RevokeBoardAvailable body says front = nothing_one message body
exit_one desk message (bodies.TransportFinished state id) body says front = nothing_one message body
exit_one desk message (bodies.BoardForecast info) body says front = nothing_one message body
exit_one desk message (bodies.SendBoardInfo info) body says front = nothing_one message body
exit_one desk message (bodies.Other name) body says front = nothing_one message body

exit_passed : (desk : Desk) (message : Message) (body : Body) (found : Option Done) → OneAny message found → One message (passed desk Exit message body found)
exit_passed desk message body None any = one_of_breach desk message (unexpected (kind_of message.body)) body
exit_passed desk message body (Some d) (one_some one) = one

itself : (desk : Desk) (message : Message) (actions : Actions) (body : Body)
    → One message (behind (acts.Hears Exit message ∷ []) (actions_did desk Exit actions body))
itself desk message actions body =
    one_hears (actions_did desk Exit actions body).acts refl
    (plain (actions_made desk (Meeting Nothing) Exit actions body tt) tt)

exit_taken : (desk : Desk) (message : Message) (unsettled : Bool) (s : SessionEnd)
    (row : SessionRow) (first : Option Action) (body : Body)
    → IsSessionRow s (heard message.body unsettled) row → row.actions.first ≡ first
    → OffersOf body → One message (taken desk Exit message first row.actions body)
exit_taken desk message unsettled s row (Some (Pass what)) body shape is front =
    exit_passed desk message body (exit_took desk (exit_word what) body)
    (exit_one desk message what body (sym (passes_itself shape is)) front)
exit_taken desk message unsettled s row None body shape is front =
    itself desk message row.actions body
exit_taken desk message unsettled s row (Some SendService) body shape is front =
    itself desk message row.actions body
exit_taken desk message unsettled s row (Some (Pong _)) body shape is front =
    itself desk message row.actions body
exit_taken desk message unsettled s row (Some (Ping _)) body shape is front =
    itself desk message row.actions body
exit_taken desk message unsettled s row (Some (Tell _)) body shape is front =
    itself desk message row.actions body
exit_taken desk message unsettled s row (Some Close) body shape is front =
    itself desk message row.actions body
exit_taken desk message unsettled s row (Some Stand) body shape is front =
    itself desk message row.actions body

exit_rowed : (desk : Desk) (message : Message) (unsettled : Bool) (body : Body)
    (found : Option SessionRow) → OffersOf body
    → session_row (session_at Exit body) (heard message.body unsettled) ≡ found
    → One message (rowed desk Exit message body found)
exit_rowed desk message unsettled body None front is =
    one_of_breach desk message (unexpected (kind_of message.body)) body
exit_rowed desk message unsettled body (Some row) front is =
    exit_taken desk message unsettled (session_at Exit body) row row.actions.first
    (with_session Exit row.after body)
    (session_row_is (session_at Exit body) (heard message.body unsettled) row is) refl front

hears_one : (desk : Desk) (message : Message) (body : Body) → OffersOf body → One message (hears desk Exit message body)
hears_one desk message body front = let unsettled = is_some (held body.outlet) in exit_rowed desk message unsettled body (session_row (session_at Exit body) (heard message.body unsettled)) front refl

-- ---- words at the exit

closed_rest : (desk : Desk) (words : List Word) (body : Body) → is_open Exit body ≡ false → (all_heard desk Exit words body).acts ≡ []
closed_rest desk words body off = ap (λ (d : Done). d.acts) (deaf desk Exit words body off)

one_then : (desk : Desk) (message : Message) (words : List Word) (d : Done) → One message d → Orders false words (all_heard desk Exit words d.body).acts → Orders false (Says message ∷ words) (d.acts ++ (all_heard desk Exit words d.body).acts)
one_then desk message words d (one_breach plain off) later = plain_then d.acts (all_heard desk Exit words d.body).acts plain (subst (λ (l : List Act). Orders false (Says message ∷ words) l) (sym (closed_rest desk words d.body off)) orders_end)
one_then desk message words d (one_hears others is plain) later =
    subst (λ (l : List Act). Orders false (Says message ∷ words) (l ++ (all_heard desk Exit words d.body).acts)) (sym is) (orders_hears (plain_then others (all_heard desk Exit words d.body).acts plain later))
one_then desk message words d (one_opens id others says is plain) later =
    subst (λ (l : List Act). Orders false (Says message ∷ words) (l ++ (all_heard desk Exit words d.body).acts)) (sym is) (orders_opens says (plain_then others (all_heard desk Exit words d.body).acts plain later))
one_then desk message words d (one_refuses id others says is plain) later =
    subst (λ (l : List Act). Orders false (Says message ∷ words) (l ++ (all_heard desk Exit words d.body).acts)) (sym is) (orders_refuses says (plain_then others (all_heard desk Exit words d.body).acts plain later))

if_orders : {words : List Word} (test : Bool) (d : Done) (body : Body) → Orders false words d.acts → Orders false words (if_open test d body).acts
if_orders true d body k = k
if_orders false d body k = orders_end

words_order : (desk : Desk) (words : List Word) (body : Body) → OffersFront body → Orders false words (all_heard desk Exit words body).acts
words_order desk [] body front = orders_end
words_order desk (Says message ∷ words) body front =
    let d = hears desk Exit message body in
    if_orders (is_open Exit body) (and_then d (all_heard desk Exit words)) body (one_then desk message words d (hears_one desk message body (to_offers body front)) (words_order desk words d.body (word_offers desk Exit (Says message) body front)))
words_order desk (Wrong text ∷ words) body front =
    let d = breaches desk Exit text body in
    if_orders (is_open Exit body) (and_then d (all_heard desk Exit words)) body
    (plain_then d.acts (all_heard desk Exit words d.body).acts (plain (breach_made desk Exit (Wrong text) text body) tt) (subst (λ (l : List Act). Orders false (Wrong text ∷ words) l) (sym (closed_rest desk words d.body (breach_closes desk Exit text body))) orders_end))

-- ---- the announcements

start_row_orders : (desk : Desk) {s : InState} {row : InRow} → IsIntakeRow s in_input.Start row → Orders true [] (in_told desk row.act)
start_row_orders desk starts_transport = orders_starts (Some true)

start_did_orders : (desk : Desk) (body : Body) (found : Option InRow) → intake_row body.intake in_input.Start ≡ found → Orders true [] (intake_row_did desk body found).acts
start_did_orders desk body None is = orders_end
start_did_orders desk body (Some row) is = start_row_orders desk (in_row_is body.intake in_input.Start row is)

start_orders : (desk : Desk) (test : Bool) (body : Body) → Orders true [] (start_by desk test body).acts
start_orders desk true body = start_did_orders desk body (intake_row body.intake in_input.Start) refl
start_orders desk false body = orders_end

announces_orders : (desk : Desk) (body : Body) → Orders true [] (announces desk body).acts
announces_orders desk body =
    let a = revoke desk body in
    let b = unready desk a.body in
    let c = offer desk b.body in
    let d = ready desk c.body in
    let e = start desk d.body in
    plain_then a.acts (b.acts ++ (c.acts ++ (d.acts ++ e.acts))) (plain (revoke_made {starting = false} desk (revokes_now body) body refl) refl)
    (plain_then b.acts (c.acts ++ (d.acts ++ e.acts)) (plain (unready_made {starting = false} desk (unreadies_now desk a.body) a.body refl) refl)
    (plain_then c.acts (d.acts ++ e.acts) (plain (offer_made {starting = false} desk (offers_now b.body) (slice_get b.body.kept 0) b.body refl refl) refl)
    (plain_then d.acts e.acts (plain (ready_made {starting = false} desk (readies_now desk c.body) c.body refl) refl) (start_orders desk (starts_now d.body) d.body))))

-- ---- THE STEP

-- the words at the exit
abbrev pub exit_words : Event → List Word
exit_words (Words Exit words) = words
exit_words _ = []

event_orders : (desk : Desk) (event : Event) (body : Body) → OffersFront body
    → Orders false (exit_words event) (event_did desk event body).acts
event_orders desk (Words Exit words) body front = words_order desk words body front
event_orders desk (Words Entry words) body front =
    plain_orders (all_heard desk Entry words body).acts
    (plain (event_made desk (Words Entry words) body) tt)
event_orders desk event body front =
    plain_orders (event_did desk event body).acts (plain (event_made desk event body) tt)

pub step_orders : (desk : Desk) (unread : List Sensed) (event : Event) (body : Body) → OffersFront body → Orders true (exit_words event) (plain_step desk unread event body).acts
step_orders desk unread event body front =
    let one = all_read desk unread body in
    let two = event_did desk event one.body in
    plain_then one.acts (two.acts ++ (announces desk two.body).acts) (plain (all_read_made desk unread body) tt) (orders_both (announces desk two.body).acts (event_orders desk event one.body (read_offers desk unread body front)) (announces_orders desk two.body))

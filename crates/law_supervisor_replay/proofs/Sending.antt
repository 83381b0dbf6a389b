-- A machine offers a board that it keeps alone; and where its outlet holds a board, no offer of it
-- is still to be taken up.
use Rattle.std.proofs.Common.{
  Bool,
  List,
  None,
  Option,
  Some,
  [],
  ap,
  false,
  refl,
  sym,
  true,
  ℕ,
  ◌++◌,
  ◌+◌,
  ◌==◌,
  ◌∙◌,
  ◌∷◌,
  ◌≡◌,
}
use Rattle.std.specs.List.{list_any}
use Rattle.std.proofs.lemmas.Bool.{false≢true, or_from, or_parts}
use Rattle.std.proofs.lemmas.List.Folds.{list_any-append}
use Rattle.law_history.proofs.Offering.{says_offer}
use Rattle.law_custody.proofs.Open.{stale_open}
use Rattle.line_base.specs.declared.states.Side.{Side}
use Rattle.line_base.specs.declared.states.Side.TheVariants.{Entry, Exit}
use Rattle.board_record.specs.declared.record.Record.{Record}
use Rattle.board_record.specs.declared.sensed.Sensed.{Sensed}
use Rattle.hermes_horizontal.specs.declared.message.Horizontal.{Horizontal}
use Rattle.session_core.specs.declared.state.SessionState.{SessionState}
use Rattle.handover_out.specs.Row.{OutRow}
use Rattle.handover_out.specs.State.{OutState, board_of_phase as held_out}
use Rattle.handover_out.specs.Table.{IsOutletRow, offers as row_offers, revokes as row_revokes}
use Rattle.handover_out.specs.declared.act.OutAct.{OutAct}
use Rattle.handover_out.specs.declared.act.OutDeed.{OutDeed}
use Rattle.handover_out.specs.declared.act.OutSend.{OutSend}
use Rattle.handover_out.specs.declared.act.OutSend.TheVariants as out_send
use Rattle.handover_out.specs.declared.input.OutInput.{OutInput}
use Rattle.handover_out.specs.declared.input.OutInput.TheVariants as out_input
use Rattle.handover_out.specs.declared.phase.Phase.{Phase as Out}
use Rattle.handover_in.specs.State.{passes_offers_over}
use Rattle.handover_in.specs.declared.act.InAct.{InAct}
use Rattle.handover_in.specs.declared.act.InDeed.{InDeed}
use Rattle.handover_in.specs.declared.act.InSend.{InSend}
use Rattle.handover_in.specs.declared.phase.Phase.{Phase as In}
use Rattle.node_core.specs.Announces.{announces, offer}
use Rattle.node_core.specs.Desk.{Desk}
use Rattle.node_core.specs.Done.{Done}
use Rattle.node_core.specs.Event.{Event, event_did}
use Rattle.node_core.specs.Halves.{given_back, settled}
use Rattle.node_core.specs.Hears.{passed}
use Rattle.node_core.specs.Own.{id_of, ids_of}
use Rattle.node_core.specs.Reads.{all_read}
use Rattle.node_core.specs.Step.{plain_step}
use Rattle.node_core.specs.Told.{drives, in_does, in_sends, in_told, out_does, out_sends, out_told}
use Rattle.node_core.specs.declared.act.Act.{Act}
use Rattle.node_core.specs.declared.lane.Body.{Body}
use Rattle.line_link.specs.Flow.{Stream, coming}
use Rattle.law_custody.specs.Apart.{
  Entry as EntryEnd,
  Exit as ExitEnd,
  entry_none,
  entry_shaking,
  entry_shaking_waiting,
  entry_stopped,
  entry_transporting,
  entry_waits,
  entry_waits_in,
  exit_called_stuck,
  exit_described_stuck,
  exit_none_stuck,
  exit_shaking_stuck,
  exit_stop_sent,
  exit_stuck,
  exit_stuck_stop_sent,
  exit_transporting,
}
use Rattle.law_custody.specs.Contents.{OfferIs, OpenAll, no_offer, open_none}
use Rattle.law_custody.specs.Place.{Place}
use Rattle.law_custody.specs.Shape.{
  Shape,
  stop_sent,
  stuck_stop_heard,
  stuck_stop_sent,
  stuck_transporting,
  transporting,
}
use Rattle.law_custody.specs.Talks.{Talks, apart, live, shaking_stuck, shaking_stuck_waiting}
use Rattle.law_custody.specs.Words.{DownWord, UpWord, down_words}
use Rattle.standings.specs.Marks.{has_id, is_held}
use Rattle.line_step.specs.Numbered.{node_at}
use Rattle.line_step.specs.Reasons.{has_link}
use Rattle.line_step.specs.State.{LineState}
use Rattle.law_one_standing.specs.Carried.{
  Carries,
  Trace,
  carries_over,
  carries_spoiled,
  carries_whole,
}
use Rattle.law_one_standing.specs.Stands.{Stands}
use Rattle.law_supervisor_replay.proofs.Bodies.{holds_it, keeps_it}
use Rattle.law_history.proofs.LinkFlow.{flow_over, flow_spoiled, flow_whole}
use Rattle.law_supervisor_replay.proofs.Free.{Down, IsFree, IsOther, offers_it}
use Rattle.step_rules.specs.Causes.{
  Announcing,
  ByHand,
  Cause,
  Tells,
  ToOutlet,
  hand_inserts,
  out_closed,
  out_offer,
  out_revoke,
  tells_alive,
  tells_notice,
  tells_service,
  hand_changes,
  changes_quality,
}
use Rattle.step_rules.specs.Made.{
  Made,
  made_act,
  made_both,
  made_breach,
  made_by_hand,
  made_close,
  made_intake,
  made_none,
  made_notice,
  made_outlet,
  made_passed,
  made_row,
  made_start,
  made_will,
  made_word,
}
use Rattle.step_rules.proofs.Steps.{step_made}

-- ---- acts that offer the board not

abbrev Quiet : ℕ → List Act → Type 0
Quiet id told = list_any (offers_it id) told ≡ false

both : (id : ℕ) (a b : List Act) → Quiet id a → Quiet id b → Quiet id (a ++ b)
both id a b one two =
    list_any-append (offers_it id) a b ∙ or_from (list_any (offers_it id) a)
    (list_any (offers_it id) b) one two

-- ---- the outlet, but for an offer

abbrev IsNoOffer : OutInput → Type 0
IsNoOffer (out_input.Offer id) = ⊥
IsNoOffer _ = Unit {0}

row_says : {s : OutState} {input : OutInput} {row : OutRow} → IsOutletRow s input row
    → IsNoOffer input → says_offer row.act.send ≡ false
row_says row_offers own = absurd own
row_says _ own = refl

quiet_drive : (id : ℕ) (side : Side) (on : Option Bool) → Quiet id (drives side on)
quiet_drive id side None = refl
quiet_drive id side (Some on) = refl

quiet_deed : (id : ℕ) (deed : Option OutDeed) → Quiet id (out_does deed)
quiet_deed id None = refl
quiet_deed id (Some deed) = refl

quiet_send : (id : ℕ) (desk : Desk) (kept : List Record) (send : Option OutSend)
    → says_offer send ≡ false → Quiet id (out_sends desk kept send)
quiet_send id desk kept None is = refl
quiet_send id desk kept (Some out_send.BoardAvailable) is = absurd (false≢true (sym is))
quiet_send id desk kept (Some out_send.RevokeBoardAvailable) is = refl
quiet_send id desk kept (Some (out_send.Finished state other)) is = refl

out_quiet : (id : ℕ) (desk : Desk) (kept : List Record) (act : OutAct)
    → says_offer act.send ≡ false → Quiet id (out_told desk kept act)
out_quiet id desk kept act is =
    both id (out_does act.deed) (out_sends desk kept act.send ++ drives Exit act.drive)
    (quiet_deed id act.deed)
    (both id (out_sends desk kept act.send) (drives Exit act.drive)
    (quiet_send id desk kept act.send is) (quiet_drive id Exit act.drive))

-- ---- the intake says nothing to the exit

in_deed_quiet : (id : ℕ) (deed : Option InDeed) → Quiet id (in_does deed)
in_deed_quiet id None = refl
in_deed_quiet id (Some deed) = refl

in_send_quiet : (id : ℕ) (desk : Desk) (send : Option InSend) → Quiet id (in_sends desk send)
in_send_quiet id desk None = refl
in_send_quiet id desk (Some send) = refl

in_quiet : (id : ℕ) (desk : Desk) (act : InAct) → Quiet id (in_told desk act)
in_quiet id desk act =
    both id (in_does act.deed) (in_sends desk act.send ++ drives Entry act.drive)
    (in_deed_quiet id act.deed)
    (both id (in_sends desk act.send) (drives Entry act.drive) (in_send_quiet id desk act.send)
    (quiet_drive id Entry act.drive))

-- ---- the pieces of a step, but for the announcements

abbrev IsBefore : Cause → Type 0
IsBefore (Announcing starting) = ⊥
IsBefore _ = Unit {0}

no_offer_yet : {cause : Cause} {body : Body} {input : OutInput} → ToOutlet cause body input
    → IsBefore cause → IsNoOffer input
no_offer_yet (out_offer now is) before = absurd before
no_offer_yet _ before = tt

act_quiet : {desk : Desk} {cause : Cause} {body : Body} {act : Act} (id : ℕ)
    → Tells desk cause body act → offers_it id act ≡ false
act_quiet id (tells_service {side = Entry} talk) = refl
act_quiet id (tells_service {side = Exit} talk) = refl
act_quiet id (tells_alive {side = Entry} talk) = refl
act_quiet id (tells_alive {side = Exit} talk) = refl
act_quiet id (tells_notice {side = Entry} talk) = refl
act_quiet id (tells_notice {side = Exit} talk) = refl
act_quiet id _ = refl

hand_quiet : {desk : Desk} {event : Event} {body : Body} {kept : List Record} {act : Act}
    (id : ℕ) → ByHand desk event body kept act → offers_it id act ≡ false
hand_quiet id hand_inserts = refl
hand_quiet id (hand_changes (changes_quality is)) = refl
hand_quiet id _ = refl

quiet_by : {desk : Desk} {cause : Cause} {body : Body} {d : Done} (id : ℕ)
    → Made desk cause body d → IsBefore cause → Quiet id d.acts
quiet_by id made_none before = refl
quiet_by id (made_both {one = one} {two = two} first next) before =
    both id one.acts two.acts (quiet_by id first before) (quiet_by id next before)
quiet_by id (made_word is on made) before = quiet_by id made tt
quiet_by id (made_act {act = act} tells) before =
    or_from (offers_it id act) false (act_quiet id tells) refl
quiet_by id (made_row to shape made) before = quiet_by id made before
quiet_by id (made_passed shape first on made) before = quiet_by id made before
quiet_by id (made_close talk made) before = quiet_by id made before
quiet_by id (made_notice on made) before = quiet_by id made before
quiet_by id (made_breach {side = Entry} made) before = quiet_by id made before
quiet_by id (made_breach {side = Exit} made) before = quiet_by id made before
quiet_by {desk = desk} id (made_start {row = row} says on shape) before =
    out_quiet id desk _ row.act (row_says shape tt)
quiet_by {desk = desk} id (made_outlet {row = row} {body = body} to shape) before =
    out_quiet id desk body.kept row.act (row_says shape (no_offer_yet to before))
quiet_by {desk = desk} id (made_intake {row = row} to shape) before = in_quiet id desk row.act
quiet_by id (made_by_hand {act = act} hand) before =
    or_from (offers_it id act) false (hand_quiet id hand) refl
quiet_by id (made_will sets) before = refl

-- ---- what the intake does keeps what is kept

behind_kept : (id : ℕ) (board : Record) (kept : List Record)
    → has_id id (ids_of (kept ++ board ∷ [])) ≡ false → has_id id (ids_of kept) ≡ false
behind_kept id board [] is = refl
behind_kept id board (b ∷ bs) is =
    let parts = or_parts (b.id == id) (has_id id (ids_of (bs ++ board ∷ []))) is in
    or_from (b.id == id) (has_id id (ids_of bs)) parts.0 (behind_kept id board bs parts.1)

settled_kept : (id : ℕ) (keep : Option Record) (kept : List Record)
    → has_id id (ids_of (settled keep kept)) ≡ false → has_id id (ids_of kept) ≡ false
settled_kept id None kept is = is
settled_kept id (Some board) kept is = behind_kept id board kept is

-- the offer is of the front record, which is kept
front_quiet : (id other : ℕ) (desk : Desk) (kept : List Record) {s : OutState} {row : OutRow}
    → IsOutletRow s (out_input.Offer other) row → has_id id (ids_of kept) ≡ false
    → Quiet id (out_told desk kept row.act)
front_quiet id other desk [] row_offers is = refl
front_quiet id other desk (b ∷ bs) row_offers is =
    or_from (b.id == id) false (or_parts (b.id == id) (has_id id (ids_of bs)) is).0 refl

-- ---- the announcements keep what is kept

revoke_kept : {s : OutState} {row : OutRow} (id : ℕ) (kept : List Record)
    → IsOutletRow s out_input.Revoke row → has_id id (ids_of (given_back row.act.back kept)) ≡ false
    → has_id id (ids_of kept) ≡ false
revoke_kept id kept row_revokes is = is

offer_kept : {s : OutState} {row : OutRow} {other : ℕ} (id : ℕ) (kept : List Record)
    → IsOutletRow s (out_input.Offer other) row
    → has_id id (ids_of (given_back row.act.back kept)) ≡ false → has_id id (ids_of kept) ≡ false
offer_kept id kept row_offers is = is

announces_not : {desk : Desk} {starting : Bool} {body : Body} {d : Done} (id : ℕ)
    → Made desk (Announcing starting) body d → keeps_it id d.body ≡ false
    → (keeps_it id body ≡ false) × Quiet id d.acts
announces_not id made_none is = (is, refl)
announces_not id (made_both {one = one} {two = two} first next) is =
    let later = announces_not id next is in
    let sooner = announces_not id first later.0 in
    (sooner.0, both id one.acts two.acts sooner.1 later.1)
announces_not id (made_act {act = act} tells) is =
    (is, or_from (offers_it id act) false (act_quiet id tells) refl)
announces_not id (made_row to shape made) is = elim to [ ]
announces_not id (made_close talk made) is = absurd talk
announces_not id (made_outlet (out_closed talk) shape) is = absurd talk
announces_not {desk = desk} id (made_outlet {row = row} {body = body} (out_revoke now) shape) is =
    (revoke_kept id body.kept shape is, out_quiet id desk body.kept row.act (row_says shape tt))
announces_not {desk = desk} id (made_outlet {body = body} (out_offer now first) shape) is =
    let kept = offer_kept id body.kept shape is in
    (kept, front_quiet id _ desk body.kept shape kept)
announces_not {desk = desk} id (made_intake {row = row} {body = body} to shape) is =
    (settled_kept id row.act.keep body.kept is, in_quiet id desk row.act)

-- ---- THE STEP

pub step_offers_not : (id : ℕ) (desk : Desk) (unread : List Sensed) (event : Event)
    (body : Body)
    → keeps_it id (plain_step desk unread event body).body ≡ false
    → list_any (offers_it id) (plain_step desk unread event body).acts ≡ false
step_offers_not id desk unread event body is =
    let step = step_made desk unread event body in
    let one = all_read desk unread body in
    let two = event_did desk event one.body in
    both id one.acts (two.acts ++ (announces desk two.body).acts) (quiet_by id step.read tt)
    (both id two.acts (announces desk two.body).acts (quiet_by id step.met tt)
    (announces_not id step.announced is).1)

-- ---- what is on its way down where the outlet holds a board

abbrev holds_out : ℕ → Out → Bool
holds_out id o = is_held id (id_of (held_out o))

-- the intake has heard no offer, and passes over what is on its way
record Passed (Q : Record
    → Type 0) (i : In) (f : Option Record) (down : List DownWord) : Type 0 where
  pub offers : OpenAll Q (passes_offers_over i) down
  pub offer : OfferIs Q f

shape_passed : {Q : Record
    → Type 0} {o : Out} {of : Option ℕ} {rd : Bool} {i : In} {f : Option Record} {ri : Bool}
    {p : Place} {up : List UpWord} {down : List DownWord} (id : ℕ) → Shape o of rd i f ri p up down
    → holds_out id o ≡ true → Passed Q i f down
shape_passed id (transporting stale) holds = record { offers = stale_open stale; offer = no_offer }
shape_passed id (stop_sent stale) holds = record { offers = stale_open stale; offer = no_offer }
shape_passed id (stuck_transporting stale) holds =
    record { offers = stale_open stale; offer = no_offer }
shape_passed id (stuck_stop_sent stale) holds =
    record { offers = stale_open stale; offer = no_offer }
shape_passed id (stuck_stop_heard stale) holds =
    record { offers = stale_open stale; offer = no_offer }
shape_passed id _ holds = absurd (false≢true holds)

-- where the link doesn't stand: the exit's end holds a board, and the entry's end is beside such
-- an exit
exit_holds : {b : Bool} {x : SessionState} {o : Out} {of : Option ℕ} {rd : Bool} {up : List UpWord}
    (id : ℕ) → ExitEnd b x o of rd up → holds_out id o ≡ true → b ≡ false
exit_holds id exit_none_stuck holds = refl
exit_holds id exit_called_stuck holds = refl
exit_holds id exit_shaking_stuck holds = refl
exit_holds id exit_described_stuck holds = refl
exit_holds id exit_transporting holds = refl
exit_holds id exit_stop_sent holds = refl
exit_holds id exit_stuck holds = refl
exit_holds id exit_stuck_stop_sent holds = refl
exit_holds id _ holds = absurd (false≢true holds)

entry_passed : {Q : Record
    → Type 0} {b : Bool} {y : SessionState} {i : In} {f : Option Record} {ri : Bool} {p : Place}
    {down : List DownWord} → EntryEnd b y i f ri p down → b ≡ false → Passed Q i f down
entry_passed entry_none is = record { offers = open_none; offer = no_offer }
entry_passed entry_waits is = record { offers = open_none; offer = no_offer }
entry_passed entry_waits_in is = record { offers = open_none; offer = no_offer }
entry_passed entry_shaking is = record { offers = open_none; offer = no_offer }
entry_passed entry_shaking_waiting is = record { offers = open_none; offer = no_offer }
entry_passed (entry_transporting stale) is = record { offers = stale_open stale; offer = no_offer }
entry_passed (entry_stopped stale) is = record { offers = stale_open stale; offer = no_offer }
entry_passed _ is = absurd (false≢true (sym is))

talk_passed : {Q : Record
    → Type 0} {b : Bool} {x y : SessionState} {o : Out} {of : Option ℕ} {rd : Bool} {i : In}
    {f : Option Record} {ri : Bool} {p : Place} {up : List UpWord} {down : List DownWord} (id : ℕ)
    → Talks b x o of rd y i f ri p up down → holds_out id o ≡ true → Passed Q i f down
talk_passed id (live shape) holds = shape_passed id shape holds
talk_passed id shaking_stuck holds = record { offers = open_none; offer = no_offer }
talk_passed id shaking_stuck_waiting holds = record { offers = open_none; offer = no_offer }
talk_passed id (apart exit entry) holds = entry_passed entry (exit_holds id exit holds)
talk_passed id _ holds = absurd (false≢true holds)

-- ---- and its bytes

carries_down : {id : ℕ} {passes stands : Bool} {waiting : List ℕ} {stream : Stream}
    {said : List Horizontal} → Carries stands waiting stream said
    → OpenAll (IsOther id) passes (down_words said) → Down id passes stands waiting (coming stream)
carries_down (carries_whole said fit flows) offers = flow_whole said fit offers flows
carries_down (carries_spoiled spoiled hides) offers = flow_spoiled spoiled
carries_down (carries_over off none) offers = flow_over off none

pub held_free : (t : Trace) (s : LineState) (k id : ℕ) → Stands t s
    → holds_it id (node_at s k).lane.body ≡ true → IsFree id k s
held_free t s k id st holds = by (has_link k s) refl
  where
    by : (test : Bool) → has_link k s ≡ test → IsFree id k s
    by true linked =
        let passed : Passed (IsOther id) (node_at s (k + 1)).lane.body.intake.phase
        (node_at s (k + 1)).lane.body.intake.offer (down_words (t.down k)) =
        talk_passed id (st.keeps.neighbours.at k).pair.talk holds in
        record {
          offer = passed.offer;
          down = λ on.
              carries_down (st.carried k linked).down passed.offers;
        }
    by false off = absurd (false≢true (sym (ap (holds_out id) (st.rest k off).outlet) ∙ holds))

-- The parts of a step, put together.
use Rattle.std.proofs.Common.{◌≡◌, ◌∙◌, ◌++◌, ℕ, Bool, true, false, List, [], Option, Some, None, refl, sym, ap, append_assoc}
use Rattle.std.specs.Prelude.{slice_get}
use Rattle.line_base.specs.declared.states.Side.{Side}
use Rattle.line_base.specs.declared.states.Side.TheVariants.{Entry, Exit}
use Rattle.board_record.specs.declared.record.Record.{Record}
use Rattle.board_record.specs.declared.sensed.Sensed.{Sensed}
use Rattle.board_record.specs.Maker.{Maker}
use Rattle.handover_out.specs.declared.input.OutInput.TheVariants as out_input
use Rattle.handover_out.specs.Row.{OutRow, outlet_row}
use Rattle.handover_in.specs.declared.input.InInput.TheVariants as in_input
use Rattle.handover_in.specs.Row.{InRow, intake_row}
use Rattle.node_core.specs.Desk.{Desk}
use Rattle.node_core.specs.declared.act.Act.{Act}
use Rattle.node_core.specs.declared.input.Input.{Input}
use Rattle.node_core.specs.declared.input.Input.TheVariants as inputs
use Rattle.node_core.specs.declared.lane.Body.{Body}
use Rattle.node_core.specs.declared.lane.Lane.{Lane}
use Rattle.node_core.specs.declared.word.Word.{Word}
use Rattle.node_core.specs.Sides.{is_open}
use Rattle.node_core.specs.Halves.{outlet_row_did, intake_row_did}
use Rattle.node_core.specs.Reads.{all_read}
use Rattle.node_core.specs.Announces.{revoke_by, revokes_now, revoke, unready_by, unreadies_now, unready, offer_by, offers_now, offer, ready_by, readies_now, ready, start_by, starts_now, announces}
use Rattle.node_core.specs.Words.{AreWords, HearsPiece}
use Rattle.node_core.specs.Event.{Event, Words, event_of, event_did}
use Rattle.node_core.specs.Supervising.{watch_of, with_tells}
use Rattle.node_core.specs.Step.{plain_step, entry_after, exit_after, Brings, StepsLane, DoesInput, MeetsInput}

-- ---- the announcements leave the connections as they are

pub intake_open : (desk : Desk) (at : Side) (body : Body) (found : Option InRow) → is_open at (intake_row_did desk body found).body ≡ is_open at body
intake_open desk Entry body None = refl
intake_open desk Exit body None = refl
intake_open desk Entry body (Some r) = refl
intake_open desk Exit body (Some r) = refl

pub outlet_open : (desk : Desk) (at : Side) (body : Body) (found : Option OutRow) → is_open at (outlet_row_did desk body found).body ≡ is_open at body
outlet_open desk Entry body None = refl
outlet_open desk Exit body None = refl
outlet_open desk Entry body (Some r) = refl
outlet_open desk Exit body (Some r) = refl

revoke_open : (desk : Desk) (at : Side) (test : Bool) (body : Body) → is_open at (revoke_by desk test body).body ≡ is_open at body
revoke_open desk at true body = outlet_open desk at body (outlet_row body.outlet out_input.Revoke)
revoke_open desk at false body = refl

unready_open : (desk : Desk) (at : Side) (test : Bool) (body : Body) → is_open at (unready_by desk test body).body ≡ is_open at body
unready_open desk at true body = intake_open desk at body (intake_row body.intake in_input.Unready)
unready_open desk at false body = refl

offer_open : (desk : Desk) (at : Side) (test : Bool) (front : Option Record) (body : Body) → is_open at (offer_by desk test front body).body ≡ is_open at body
offer_open desk at true (Some front) body = outlet_open desk at body (outlet_row body.outlet (out_input.Offer front.id))
offer_open desk at true None body = refl
offer_open desk at false front body = refl

ready_open : (desk : Desk) (at : Side) (test : Bool) (body : Body) → is_open at (ready_by desk test body).body ≡ is_open at body
ready_open desk at true body = intake_open desk at body (intake_row body.intake in_input.Ready)
ready_open desk at false body = refl

start_open : (desk : Desk) (at : Side) (test : Bool) (body : Body) → is_open at (start_by desk test body).body ≡ is_open at body
start_open desk at true body = intake_open desk at body (intake_row body.intake in_input.Start)
start_open desk at false body = refl

pub announces_open : (desk : Desk) (at : Side) (body : Body) → is_open at (announces desk body).body ≡ is_open at body
announces_open desk at body =
    let one = (revoke desk body).body in
    let two = (unready desk one).body in
    let three = (offer desk two).body in
    let four = (ready desk three).body in
    start_open desk at (starts_now four) four ∙ ready_open desk at (readies_now desk three) three ∙ offer_open desk at (offers_now two) (slice_get two.kept 0) two ∙ unready_open desk at (unreadies_now desk one) one ∙ revoke_open desk at (revokes_now body) body

-- ---- reading, the input, the announcements

record Joins (desk : Desk) (unread : List Sensed) (event : Event) (start last : Body) (acts : List Act) : Type 0 where
  body : last ≡ (plain_step desk unread event start).body
  told : acts ≡ (plain_step desk unread event start).acts

joins : (desk : Desk) (unread : List Sensed) (event : Event) (body one two three : Body) (acts1 acts2 acts3 : List Act)
    → one ≡ (all_read desk unread body).body → acts1 ≡ [] ++ (all_read desk unread body).acts
    → two ≡ (event_did desk event one).body → acts2 ≡ acts1 ++ (event_did desk event one).acts
    → three ≡ (announces desk two).body → acts3 ≡ acts2 ++ (announces desk two).acts
    → Joins desk unread event body three acts3
joins desk unread event body one two three acts1 acts2 acts3 is1 said1 is2 said2 is3 said3 =
    let read = all_read desk unread body in
    let met = event_did desk event read.body in
    let same : two ≡ met.body = is2 ∙ ap (λ (b : Body). (event_did desk event b).body) is1 in
    let heard : acts2 ≡ read.acts ++ met.acts = said2 ∙ ap (λ (b : Body). acts1 ++ (event_did desk event b).acts) is1 ∙ ap (λ (xs : List Act). xs ++ met.acts) said1 in
    record {
      body = is3 ∙ ap (λ (b : Body). (announces desk b).body) same;
      told = said3 ∙ ap (λ (b : Body). acts2 ++ (announces desk b).acts) same ∙ ap (λ (xs : List Act). xs ++ (announces desk met.body).acts) heard ∙ append_assoc read.acts met.acts (announces desk met.body).acts;
    }

still_words : (old piece new : List ℕ) (a b : Bool) (words : List Word) → b ≡ a → AreWords old piece new a words → AreWords old piece new b words
still_words old piece new a b words same are = record { first = are.first; all = λ opened. are.all (sym same ∙ opened) }

did : (desk : Desk) (unread : List Sensed) (input : Input) (maker new_maker : Maker) (old two : Lane) (b1 b3 : Body) (acts1 acts2 acts3 now : List Act)
    → b1 ≡ (all_read desk unread old.body).body → acts1 ≡ [] ++ (all_read desk unread old.body).acts
    → DoesInput desk maker new_maker input (record old { body = b1 }) two acts1 acts2
    → (two.entry_bytes ≡ entry_after input old.entry_bytes → two.exit_bytes ≡ exit_after input old.exit_bytes → Brings input old (record two { body = b3 }) [])
    → b3 ≡ (announces desk two.body).body → acts3 ≡ acts2 ++ (announces desk two.body).acts
    → now ≡ with_tells desk (watch_of desk old.body) acts3
    → StepsLane desk unread input maker new_maker old (record two { body = b3 }) now
did desk unread input maker new_maker old two b1 b3 acts1 acts2 acts3 now is1 said1 does brings is3 said3 says =
    let all = joins desk unread (event_of maker input []) old.body b1 two.body b3 acts1 acts2 acts3 is1 said1 does.body does.acts is3 said3 in
    record { words = []; brings = brings does.entry does.exit; body = all.body; told = says ∙ ap (with_tells desk (watch_of desk old.body)) all.told; made = does.made }

heard : (desk : Desk) (unread : List Sensed) (side : Side) (piece old_bytes new_bytes : List ℕ) (body b1 b2 b3 : Body) (acts1 acts2 acts3 : List Act)
    → b1 ≡ (all_read desk unread body).body → acts1 ≡ [] ++ (all_read desk unread body).acts
    → (h : HearsPiece desk side old_bytes piece new_bytes b1 b2 acts1 acts2)
    → b3 ≡ (announces desk b2).body → acts3 ≡ acts2 ++ (announces desk b2).acts
    → AreWords old_bytes piece new_bytes (is_open side b3) h.words × Joins desk unread (Words side h.words) body b3 acts3
heard desk unread side piece old_bytes new_bytes body b1 b2 b3 acts1 acts2 acts3 is1 said1 h is3 said3 = (
  still_words old_bytes piece new_bytes (is_open side b2) (is_open side b3) h.words (ap (is_open side) is3 ∙ announces_open desk side b2) h.are,
  joins desk unread (Words side h.words) body b1 b2 b3 acts1 acts2 acts3 is1 said1 h.body h.acts is3 said3,
)

pub steps_lane : (desk : Desk) (unread : List Sensed) (input : Input) (maker new_maker : Maker) (old two : Lane) (b1 b3 : Body) (acts1 acts2 acts3 now : List Act)
    → b1 ≡ (all_read desk unread old.body).body → acts1 ≡ [] ++ (all_read desk unread old.body).acts
    → MeetsInput desk maker new_maker input (record old { body = b1 }) two acts1 acts2
    → b3 ≡ (announces desk two.body).body → acts3 ≡ acts2 ++ (announces desk two.body).acts
    → now ≡ with_tells desk (watch_of desk old.body) acts3
    → StepsLane desk unread input maker new_maker old (record two { body = b3 }) now
steps_lane desk unread (inputs.Bytes Entry piece) maker new_maker old two b1 b3 acts1 acts2 acts3 now is1 said1 meets is3 said3 says =
    let h = meets.0.0 in
    let all = heard desk unread Entry piece.now old.entry_bytes two.entry_bytes old.body b1 two.body b3 acts1 acts2 acts3 is1 said1 h is3 said3 in
    record { words = h.words; brings = (all.0, meets.0.1); body = all.1.body; told = says ∙ ap (with_tells desk (watch_of desk old.body)) all.1.told; made = meets.1 }
steps_lane desk unread (inputs.Bytes Exit piece) maker new_maker old two b1 b3 acts1 acts2 acts3 now is1 said1 meets is3 said3 says =
    let h = meets.0.0 in
    let all = heard desk unread Exit piece.now old.exit_bytes two.exit_bytes old.body b1 two.body b3 acts1 acts2 acts3 is1 said1 h is3 said3 in
    record { words = h.words; brings = (all.0, meets.0.1); body = all.1.body; told = says ∙ ap (with_tells desk (watch_of desk old.body)) all.1.told; made = meets.1 }
steps_lane desk unread inputs.Connect maker new_maker old two b1 b3 acts1 acts2 acts3 now is1 said1 meets is3 said3 says = did desk unread inputs.Connect maker new_maker old two b1 b3 acts1 acts2 acts3 now is1 said1 meets (λ a b. (a, b)) is3 said3 says
steps_lane desk unread input maker new_maker old two b1 b3 acts1 acts2 acts3 now is1 said1 meets is3 said3 says = did desk unread input maker new_maker old two b1 b3 acts1 acts2 acts3 now is1 said1 meets (λ a b. (a, b)) is3 said3 says

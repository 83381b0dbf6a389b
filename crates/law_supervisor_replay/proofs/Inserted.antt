-- A board that is inserted, or comes from another lane, is kept behind the step.
use Rattle.std.proofs.Common.{◌≡◌, ◌∙◌, ◌++◌, ◌||◌, ◌==◌, ℕ, Bool, true, false, List, [], ◌∷◌, Option, Some, None, refl, ap, eq-eqb}
use Rattle.std.specs.Prelude.{slice_get}
use Rattle.law_history.proofs.OfferingWhole.{offer_back}
use Rattle.board_record.specs.declared.record.Record.{Record}
use Rattle.board_record.specs.declared.sensed.Sensed.{Sensed}
use Rattle.handover_in.specs.Row.{InRow, intake_row}
use Rattle.handover_in.specs.State.{InState}
use Rattle.handover_in.specs.Table.{IsIntakeRow, gets_ready, gets_unready, starts_transport}
use Rattle.handover_in.specs.declared.input.InInput.TheVariants as in_input
use Rattle.handover_in.proofs.Rows.{row_is as in_row_is}
use Rattle.handover_out.specs.Row.{OutRow, outlet_row}
use Rattle.handover_out.specs.State.{OutState}
use Rattle.handover_out.specs.Table.{IsOutletRow, revokes}
use Rattle.handover_out.specs.declared.input.OutInput.TheVariants as out_input
use Rattle.handover_out.proofs.Rows.{row_is}
use Rattle.node_core.specs.Announces.{announces, offer, offer_by, offers_now, readies_now, ready, ready_by, revoke, revoke_by, revokes_now, start_by, starts_now, unreadies_now, unready, unready_by}
use Rattle.node_core.specs.Desk.{Desk}
use Rattle.node_core.specs.Event.{Gets, Insert, event_did}
use Rattle.node_core.specs.Halves.{given_back, intake_row_did, outlet_row_did, settled}
use Rattle.node_core.specs.Own.{ids_of}
use Rattle.node_core.specs.Reads.{all_read}
use Rattle.node_core.specs.Step.{plain_step}
use Rattle.node_core.specs.declared.lane.Body.{Body}
use Rattle.standings.specs.Marks.{has_id}
use Rattle.law_supervisor_replay.proofs.Bodies.{keeps_it}

-- ---- the announcements leave what is kept

revoke_back : {s : OutState} {row : OutRow} → IsOutletRow s out_input.Revoke row
    → row.act.back ≡ None
revoke_back revokes = refl

ready_keep : {s : InState} {row : InRow} → IsIntakeRow s in_input.Ready row → row.act.keep ≡ None
ready_keep gets_ready = refl

unready_keep : {s : InState} {row : InRow} → IsIntakeRow s in_input.Unready row
    → row.act.keep ≡ None
unready_keep gets_unready = refl

start_keep : {s : InState} {row : InRow} → IsIntakeRow s in_input.Start row → row.act.keep ≡ None
start_keep starts_transport = refl

revoked : (desk : Desk) (body : Body) (found : Option OutRow)
    → outlet_row body.outlet out_input.Revoke ≡ found
    → (outlet_row_did desk body found).body.kept ≡ body.kept
revoked desk body None is = refl
revoked desk body (Some row) is =
    ap (λ (b : Option Record). given_back b body.kept)
    (revoke_back (row_is body.outlet out_input.Revoke row is))

offered : (desk : Desk) (body : Body) (id : ℕ) (found : Option OutRow)
    → outlet_row body.outlet (out_input.Offer id) ≡ found
    → (outlet_row_did desk body found).body.kept ≡ body.kept
offered desk body id None is = refl
offered desk body id (Some row) is =
    ap (λ (b : Option Record). given_back b body.kept)
    (offer_back (row_is body.outlet (out_input.Offer id) row is))

readied : (desk : Desk) (body : Body) (found : Option InRow)
    → intake_row body.intake in_input.Ready ≡ found
    → (intake_row_did desk body found).body.kept ≡ body.kept
readied desk body None is = refl
readied desk body (Some row) is =
    ap (λ (k : Option Record). settled k body.kept)
    (ready_keep (in_row_is body.intake in_input.Ready row is))

unreadied : (desk : Desk) (body : Body) (found : Option InRow)
    → intake_row body.intake in_input.Unready ≡ found
    → (intake_row_did desk body found).body.kept ≡ body.kept
unreadied desk body None is = refl
unreadied desk body (Some row) is =
    ap (λ (k : Option Record). settled k body.kept)
    (unready_keep (in_row_is body.intake in_input.Unready row is))

started : (desk : Desk) (body : Body) (found : Option InRow)
    → intake_row body.intake in_input.Start ≡ found
    → (intake_row_did desk body found).body.kept ≡ body.kept
started desk body None is = refl
started desk body (Some row) is =
    ap (λ (k : Option Record). settled k body.kept)
    (start_keep (in_row_is body.intake in_input.Start row is))

revoke_kept : (desk : Desk) (test : Bool) (body : Body)
    → (revoke_by desk test body).body.kept ≡ body.kept
revoke_kept desk true body = revoked desk body (outlet_row body.outlet out_input.Revoke) refl
revoke_kept desk false body = refl

unready_kept : (desk : Desk) (test : Bool) (body : Body)
    → (unready_by desk test body).body.kept ≡ body.kept
unready_kept desk true body = unreadied desk body (intake_row body.intake in_input.Unready) refl
unready_kept desk false body = refl

offer_kept : (desk : Desk) (test : Bool) (front : Option Record) (body : Body)
    → (offer_by desk test front body).body.kept ≡ body.kept
offer_kept desk true (Some front) body =
    offered desk body front.id (outlet_row body.outlet (out_input.Offer front.id)) refl
offer_kept desk true None body = refl
offer_kept desk false front body = refl

ready_kept : (desk : Desk) (test : Bool) (body : Body)
    → (ready_by desk test body).body.kept ≡ body.kept
ready_kept desk true body = readied desk body (intake_row body.intake in_input.Ready) refl
ready_kept desk false body = refl

start_kept : (desk : Desk) (test : Bool) (body : Body)
    → (start_by desk test body).body.kept ≡ body.kept
start_kept desk true body = started desk body (intake_row body.intake in_input.Start) refl
start_kept desk false body = refl

announced_kept : (desk : Desk) (body : Body) → (announces desk body).body.kept ≡ body.kept
announced_kept desk body =
    let one = (revoke desk body).body in
    let two = (unready desk one).body in
    let three = (offer desk two).body in
    let four = (ready desk three).body in
    start_kept desk (starts_now four) four
    ∙ ready_kept desk (readies_now desk three) three
    ∙ offer_kept desk (offers_now two) (slice_get two.kept 0) two
    ∙ unready_kept desk (unreadies_now desk one) one
    ∙ revoke_kept desk (revokes_now body) body

-- ---- it comes last

last_is : (id : ℕ) (kept : List Record) (board : Record) → board.id ≡ id
    → has_id id (ids_of (kept ++ board ∷ [])) ≡ true
last_is id [] board is = rw (eq-eqb board.id id is) refl
last_is id (first ∷ kept) board is = or_true (first.id == id) (last_is id kept board is) where
  or_true : (b : Bool) {c : Bool} → c ≡ true → (b || c) ≡ true
  or_true true same = refl
  or_true false same = same

pub inserted_kept : (desk : Desk) (unread : List Sensed) (id : ℕ) (barcode : Option (List ℕ))
    (body : Body) → keeps_it id (plain_step desk unread (Insert id barcode) body).body ≡ true
inserted_kept desk unread id barcode body =
    let met = event_did desk (Insert id barcode) (all_read desk unread body).body in
    ap (λ (kept : List Record). has_id id (ids_of kept)) (announced_kept desk met.body)
    ∙ last_is id (all_read desk unread body).body.kept _ refl

-- and so is one that comes from another lane
pub got_kept : (desk : Desk) (unread : List Sensed) (board : Record) (body : Body)
    → keeps_it board.id (plain_step desk unread (Gets board) body).body ≡ true
got_kept desk unread board body =
    let met = event_did desk (Gets board) (all_read desk unread body).body in
    ap (λ (kept : List Record). has_id board.id (ids_of kept)) (announced_kept desk met.body)
    ∙ last_is board.id (all_read desk unread body).body.kept board refl

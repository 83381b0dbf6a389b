-- What the halves of a machine tell at its exit, and that what its outlet offers, and whether the neighbour is ready, are
-- as the acts say.
use Rattle.std.proofs.Common.{◌≡◌, ◌∙◌, ◌++◌, ℕ, Bool, true, false, List, [], ◌∷◌, Option, Some, None, refl, sym, ap, subst}
use Rattle.std.specs.Prelude.{slice_get}
use Rattle.line_base.specs.declared.states.Side.{Side}
use Rattle.line_base.specs.declared.states.Side.TheVariants.{Entry, Exit}
use Rattle.board_record.specs.declared.record.Record.{Record}
use Rattle.handover_out.specs.declared.input.OutInput.{OutInput}
use Rattle.handover_out.specs.declared.input.OutInput.TheVariants as out_input
use Rattle.handover_out.specs.declared.phase.Phase.{Phase}
use Rattle.handover_out.specs.declared.phase.Phase.TheVariants.{Idle, Moving, Stuck, Ended}
use Rattle.handover_out.specs.Row.{OutRow, closed_row, outlet_row}
use Rattle.handover_out.specs.State.{OutState}
use Rattle.handover_out.specs.Table.{IsOutletRow, offers as row_offers, gets_ready, gets_unready, opens as row_opens, refuses as row_refuses, closed_home, closed_between, closed_stuck, closed_idle, closed_ended}
use Rattle.handover_out.proofs.Rows.{row_is}
use Rattle.handover_in.specs.declared.act.InDeed.{InDeed}
use Rattle.handover_in.specs.declared.act.InDeed.TheVariants as in_deed
use Rattle.handover_in.specs.declared.act.InSend.{InSend}
use Rattle.handover_in.specs.declared.input.InInput.{InInput}
use Rattle.handover_in.specs.declared.input.InInput.TheVariants as in_input
use Rattle.handover_in.specs.Row.{InRow, intake_row}
use Rattle.node_core.specs.Desk.{Desk}
use Rattle.node_core.specs.declared.act.Act.{Act}
use Rattle.node_core.specs.declared.lane.Body.{Body}
use Rattle.node_core.specs.Done.{Done, stays, behind, and_then}
use Rattle.node_core.specs.Told.{in_does, in_sends, in_told, out_told, drives}
use Rattle.node_core.specs.Halves.{at_intake, at_outlet, half_closed, intake_row_did, outlet_row_did}
use Rattle.law_sentences.proofs.Folds.{offered_append, offered_from, ready_append, ready_from}
use Rattle.law_sentences.proofs.Orderly.{AreSilent, Orderly, are_plain, orderly_both, plain_append, plain_orderly, silent_both, silent_none}

-- ---- what a micro event tells

-- each start that is heard is answered as it is announced, and what the outlet has is what the acts say
pub record Tells (body : Body) (d : Done) : Type 0 where
  pub orderly : Orderly body.outlet.offered body.outlet.ready d.acts
  pub offered : d.body.outlet.offered ≡ offered_from body.outlet.offered d.acts
  pub ready : d.body.outlet.ready ≡ ready_from body.outlet.ready d.acts

-- the outlet has what it had
pub record SameOutlet (body after : Body) : Type 0 where
  pub offered : after.outlet.offered ≡ body.outlet.offered
  pub ready : after.outlet.ready ≡ body.outlet.ready

pub same_outlet : (body : Body) → SameOutlet body body
same_outlet body = record { offered = refl; ready = refl }

pub tells_silent : (body : Body) (d : Done) → SameOutlet body d.body → AreSilent d.acts → Tells body d
tells_silent body d same silent = record {
  orderly = plain_orderly body.outlet.offered body.outlet.ready d.acts silent.plain;
  offered = same.offered ∙ sym (silent.offered body.outlet.offered);
  ready = same.ready ∙ sym (silent.ready body.outlet.ready);
}

pub tells_still : (body : Body) → Tells body (stays body)
tells_still body = tells_silent body (stays body) (same_outlet body) silent_none

-- acts first that say nothing of the exit
pub tells_behind : (body : Body) (told : List Act) (d : Done) → AreSilent told → Tells body d → Tells body (behind told d)
tells_behind body told d silent k =
    let o : offered_from body.outlet.offered told ≡ body.outlet.offered = silent.offered body.outlet.offered in
    let r : ready_from body.outlet.ready told ≡ body.outlet.ready = silent.ready body.outlet.ready in
    record {
      orderly = orderly_both d.acts (plain_orderly body.outlet.offered body.outlet.ready told silent.plain) (subst (λ (x : Option ℕ). Orderly x (ready_from body.outlet.ready told) d.acts) (sym o) (subst (λ (x : Bool). Orderly body.outlet.offered x d.acts) (sym r) k.orderly));
      offered = k.offered ∙ ap (λ (x : Option ℕ). offered_from x d.acts) (sym o) ∙ sym (offered_append body.outlet.offered told d.acts);
      ready = k.ready ∙ ap (λ (x : Bool). ready_from x d.acts) (sym r) ∙ sym (ready_append body.outlet.ready told d.acts);
    }

-- one after the other
pub tells_both : (body : Body) (first : Done) (next : Body → Done) → Tells body first → Tells first.body (next first.body) → Tells body (and_then first next)
tells_both body first next a b =
    let later = (next first.body).acts in
    record {
      orderly = orderly_both later a.orderly (subst (λ (x : Option ℕ). Orderly x (ready_from body.outlet.ready first.acts) later) a.offered (subst (λ (x : Bool). Orderly first.body.outlet.offered x later) a.ready b.orderly));
      offered = b.offered ∙ ap (λ (x : Option ℕ). offered_from x later) a.offered ∙ sym (offered_append body.outlet.offered first.acts later);
      ready = b.ready ∙ ap (λ (x : Bool). ready_from x later) a.ready ∙ sym (ready_append body.outlet.ready first.acts later);
    }

-- ---- the intake says nothing of the exit

silent_drives : (side : Side) (on : Option Bool) → AreSilent (drives side on)
silent_drives side None = silent_none
silent_drives side (Some on) = record { plain = refl; offered = λ o. refl; ready = λ r. refl }

silent_in_deed : (deed : Option InDeed) → AreSilent (in_does deed)
silent_in_deed None = silent_none
silent_in_deed (Some (in_deed.Starts id)) = record { plain = refl; offered = λ o. refl; ready = λ r. refl }
silent_in_deed (Some (in_deed.Settles id)) = record { plain = refl; offered = λ o. refl; ready = λ r. refl }
silent_in_deed (Some (in_deed.Drops id)) = record { plain = refl; offered = λ o. refl; ready = λ r. refl }

silent_in_send : (desk : Desk) (send : Option InSend) → AreSilent (in_sends desk send)
silent_in_send desk None = silent_none
silent_in_send desk (Some send) = record { plain = refl; offered = λ o. refl; ready = λ r. refl }

silent_in : (desk : Desk) (row : InRow) → AreSilent (in_told desk row.act)
silent_in desk row =
    silent_both (in_does row.act.deed) (in_sends desk row.act.send ++ drives Entry row.act.drive) (silent_in_deed row.act.deed)
    (silent_both (in_sends desk row.act.send) (drives Entry row.act.drive) (silent_in_send desk row.act.send) (silent_drives Entry row.act.drive))

pub intake_silent : (desk : Desk) (body : Body) (found : Option InRow) → AreSilent (intake_row_did desk body found).acts × SameOutlet body (intake_row_did desk body found).body
intake_silent desk body None = (silent_none, same_outlet body)
intake_silent desk body (Some row) = (silent_in desk row, record { offered = refl; ready = refl })

pub intake_tells : (desk : Desk) (body : Body) (found : Option InRow) → Tells body (intake_row_did desk body found)
intake_tells desk body found = let both = intake_silent desk body found in tells_silent body (intake_row_did desk body found) both.1 both.0

pub at_intake_tells : (desk : Desk) (input : InInput) (body : Body) → Tells body (at_intake desk input body)
at_intake_tells desk input body = intake_tells desk body (intake_row body.intake input)

-- ---- the outlet, at what it meets without a start, a new offer, a word of places, or a close

abbrev pub IsOwn : OutInput → Type 0
IsOwn out_input.Revoke = Unit {0}
IsOwn (out_input.Stop state id) = Unit {0}
IsOwn (out_input.Sensed event) = Unit {0}
IsOwn out_input.Fault = Unit {0}
IsOwn _ = ⊥

pub record RowTells (s : OutState) (row : OutRow) (told : List Act) : Type 0 where
  pub plain : are_plain told ≡ true
  pub offered : row.after.offered ≡ offered_from s.offered told
  pub ready : row.after.ready ≡ ready_from s.ready told

pub row_tells : (desk : Desk) {s : OutState} {input : OutInput} {row : OutRow} (kept : List Record) → IsOutletRow s input row → IsOwn input → RowTells s row (out_told desk kept row.act)
row_tells desk kept row_offers own = absurd own
row_tells desk kept gets_ready own = absurd own
row_tells desk kept gets_unready own = absurd own
row_tells desk kept (row_opens _) own = absurd own
row_tells desk kept (row_refuses _) own = absurd own
row_tells desk kept closed_home own = absurd own
row_tells desk kept closed_between own = absurd own
row_tells desk kept closed_stuck own = absurd own
row_tells desk kept closed_idle own = absurd own
row_tells desk kept closed_ended own = absurd own
row_tells desk kept _ own = record { plain = refl; offered = refl; ready = refl }

pub outlet_tells : (desk : Desk) (body : Body) (input : OutInput) (found : Option OutRow) → outlet_row body.outlet input ≡ found → IsOwn input → Tells body (outlet_row_did desk body found)
outlet_tells desk body input None is own = tells_still body
outlet_tells desk body input (Some row) is own =
    let t = row_tells desk body.kept (row_is body.outlet input row is) own in
    record { orderly = plain_orderly body.outlet.offered body.outlet.ready _ t.plain; offered = t.offered; ready = t.ready }

pub at_outlet_tells : (desk : Desk) (input : OutInput) (body : Body) → IsOwn input → Tells body (at_outlet desk input body)
at_outlet_tells desk input body own = outlet_tells desk body input (outlet_row body.outlet input) refl own

-- ---- a new offer

first_sent : (desk : Desk) {s : OutState} {row : OutRow} (kept : List Record) (front : Record) → slice_get kept 0 ≡ Some front → IsOutletRow s (out_input.Offer front.id) row → RowTells s row (out_told desk kept row.act)
first_sent desk [] front is shape = cc
first_sent desk (b ∷ bs) front is row_offers = let same : front ≡ b = cc in record { plain = refl; offered = ap (λ (x : Record). Some x.id) same; ready = refl }

offer_did_tells : (desk : Desk) (body : Body) (front : Record) (found : Option OutRow) → slice_get body.kept 0 ≡ Some front → outlet_row body.outlet (out_input.Offer front.id) ≡ found → Tells body (outlet_row_did desk body found)
offer_did_tells desk body front None is row = tells_still body
offer_did_tells desk body front (Some r) is row =
    let t = first_sent desk body.kept front is (row_is body.outlet (out_input.Offer front.id) r row) in
    record { orderly = plain_orderly body.outlet.offered body.outlet.ready _ t.plain; offered = t.offered; ready = t.ready }

pub offer_tells : (desk : Desk) (body : Body) (front : Record) → slice_get body.kept 0 ≡ Some front → Tells body (at_outlet desk (out_input.Offer front.id) body)
offer_tells desk body front is = offer_did_tells desk body front (outlet_row body.outlet (out_input.Offer front.id)) is refl

-- ---- a connection ends

abbrev pub closed_offer : Side → Option ℕ → Option ℕ
closed_offer Entry o = o
closed_offer Exit o = None

abbrev pub closed_ready : Side → Bool → Bool
closed_ready Entry r = r
closed_ready Exit r = false

-- acts that say that the connection of a side ends
pub record AreEnd (side : Side) (told : List Act) : Type 0 where
  pub plain : are_plain told ≡ true
  pub offered : (o : Option ℕ) → offered_from o told ≡ closed_offer side o
  pub ready : (r : Bool) → ready_from r told ≡ closed_ready side r

record CloseTells (row : OutRow) (told : List Act) : Type 0 where
  plain : are_plain told ≡ true
  offered : row.after.offered ≡ offered_from None told
  ready : row.after.ready ≡ ready_from false told

close_row_tells : (desk : Desk) {s : OutState} {row : OutRow} (kept : List Record) → IsOutletRow s out_input.Closed row → CloseTells row (out_told desk kept row.act)
close_row_tells desk kept closed_home = record { plain = refl; offered = refl; ready = refl }
close_row_tells desk kept closed_between = record { plain = refl; offered = refl; ready = refl }
close_row_tells desk kept closed_stuck = record { plain = refl; offered = refl; ready = refl }
close_row_tells desk kept closed_idle = record { plain = refl; offered = refl; ready = refl }
close_row_tells desk kept closed_ended = record { plain = refl; offered = refl; ready = refl }

has_closed_row : (phase : Phase) → closed_row phase ≡ None → ⊥
has_closed_row Idle is = cc
has_closed_row (Moving board true) is = cc
has_closed_row (Moving board false) is = cc
has_closed_row (Stuck board linked stopped) is = cc
has_closed_row (Ended id) is = cc

exit_closed : (desk : Desk) (body : Body) (told : List Act) (found : Option OutRow) → outlet_row body.outlet out_input.Closed ≡ found → AreEnd Exit told → Tells body (behind told (outlet_row_did desk body found))
exit_closed desk body told None is end = absurd (has_closed_row body.outlet.phase is)
exit_closed desk body told (Some row) is end =
    let t = close_row_tells desk body.kept (row_is body.outlet out_input.Closed row is) in
    let later = out_told desk body.kept row.act in
    record {
      orderly = plain_orderly body.outlet.offered body.outlet.ready (told ++ later) (plain_append told later end.plain t.plain);
      offered = t.offered ∙ ap (λ (x : Option ℕ). offered_from x later) (sym (end.offered body.outlet.offered)) ∙ sym (offered_append body.outlet.offered told later);
      ready = t.ready ∙ ap (λ (x : Bool). ready_from x later) (sym (end.ready body.outlet.ready)) ∙ sym (ready_append body.outlet.ready told later);
    }

entry_closed : (body : Body) (told : List Act) (d : Done) → AreEnd Entry told → SameOutlet body d.body → AreSilent d.acts → Tells body (behind told d)
entry_closed body told d end same silent =
    tells_behind body told d (record { plain = end.plain; offered = end.offered; ready = end.ready }) (tells_silent body d same silent)

-- its half hears of it
pub half_closed_tells : (desk : Desk) (side : Side) (body : Body) (told : List Act) → AreEnd side told → Tells body (behind told (half_closed desk side body))
half_closed_tells desk Entry body told end = let both = intake_silent desk body (intake_row body.intake in_input.Closed) in entry_closed body told (half_closed desk Entry body) end both.1 both.0
half_closed_tells desk Exit body told end = exit_closed desk body told (outlet_row body.outlet out_input.Closed) refl end

-- What the halves of a machine tell at its entry, and that the intake's phase recalls what was heard.
use Rattle.std.proofs.Common.{Bool, List, None, Option, Some, ap, false, refl, subst, sym, true, ℕ, ◌&&◌, ◌++◌, ◌∙◌, ◌∷◌, ◌≡◌}
use Rattle.std.specs.Prelude.{not, slice_get}
use Rattle.line_base.specs.declared.states.Seen.TheVariants as seen
use Rattle.line_base.specs.declared.states.Side.TheVariants.{Exit}
use Rattle.line_base.specs.declared.states.Transfer.TheVariants as said
use Rattle.board_record.specs.declared.record.Record.{Record}
use Rattle.handover_in.specs.declared.input.InInput.{InInput}
use Rattle.handover_in.specs.declared.input.InInput.TheVariants as in_input
use Rattle.handover_out.specs.declared.act.OutDeed.{OutDeed}
use Rattle.handover_out.specs.declared.act.OutDeed.TheVariants as out_deeds
use Rattle.handover_out.specs.declared.act.OutSend.{OutSend}
use Rattle.handover_out.specs.declared.act.OutSend.TheVariants as out_saying
use Rattle.handover_out.specs.declared.input.OutInput.{OutInput}
use Rattle.handover_out.specs.declared.input.OutInput.TheVariants as out_input
use Rattle.handover_out.specs.Row.{OutRow, outlet_row}
use Rattle.handover_out.specs.State.{OutState}
use Rattle.handover_out.specs.Table.{IsOutletRow, left_moving, left_stopped, left_stuck, left_unlinked}
use Rattle.handover_out.proofs.Rows.{row_is as out_row_is}
use Rattle.handover_in.specs.declared.phase.Phase.{Phase as In}
use Rattle.handover_in.specs.declared.phase.Phase.TheVariants as inn
use Rattle.handover_in.specs.Row.{InRow, intake_row}
use Rattle.handover_in.specs.State.{InState, board_of_phase as held_in}
use Rattle.handover_in.specs.Table.{IsIntakeRow, closed_between, closed_gone, closed_inside, closed_stopped_between, closed_stopped_inside, closed_waiting, fault_taking, full_heard, hears_keep, hears_left, hears_wait, running_keep, running_wait, stands_settles, starts_transport, stopped_keep, waiting_settles}
use Rattle.handover_in.proofs.Rows.{row_is as in_row_is}
use Rattle.node_core.specs.Desk.{Desk}
use Rattle.node_core.specs.declared.act.Act.{Act}
use Rattle.node_core.specs.declared.act.Act.TheVariants as acts
use Rattle.node_core.specs.declared.act.Deed.TheVariants as deeds
use Rattle.node_core.specs.declared.lane.Body.{Body}
use Rattle.node_core.specs.Done.{Done, and_then, behind, stays}
use Rattle.node_core.specs.Halves.{at_intake, intake_row_did, outlet_row_did}
use Rattle.node_core.specs.Told.{drives, in_told, offers, out_does, out_sends, out_told}
use Rattle.law_custody.specs.LookBack.{IsSaid as IsSaidSince, Recalls, Since, has_heard_left, is_linked, is_waiting, since_after}
use Rattle.law_machine_custody.proofs.Holding.{StartsNot}
use Rattle.law_history.proofs.Folds.{Hearing, Orderly, are_aside, are_inner, aside_append, aside_heard, aside_orderly, closed_since, ends, heard_all, heard_append, inner_append, orderly_both, settles_so}

-- ---- what a phase recalls

-- the phase knows that the end was heard, that the handover's connection stands, that it was closed; and so it was
pub record IsRecalled (i : In) (s : Since) : Type 0 where
  pub ended : (has_heard_left i && not s.ended) ≡ false
  pub linked : (is_linked i && s.closed) ≡ false
  pub waiting : (is_waiting i && not s.closed) ≡ false

implied : (a b : Bool) → (a && not b) ≡ false → a ≡ true → b ≡ true
implied true true e is = refl
implied true false e is = cc
implied false b e is = cc

refuted : (a b : Bool) → (a && b) ≡ false → a ≡ true → b ≡ false
refuted true b e is = e
refuted false b e is = cc

pub recalls : (i : In) (s : Since) → IsRecalled i s → Recalls i s
recalls i s k = (λ is. implied (has_heard_left i) s.ended k.ended is, λ is. refuted (is_linked i) s.closed k.linked is, λ is. implied (is_waiting i) s.closed k.waiting is)

-- each row keeps it
row_recalled : {s : InState} {w : InInput} {row : InRow} (t : Since) → IsIntakeRow s w row → StartsNot w → IsRecalled s.phase t → IsRecalled row.after.phase (since_after w t)
row_recalled t starts_transport plain k = absurd plain
row_recalled t (hears_left _) plain k = record { ended = rw k.linked refl; linked = k.linked; waiting = refl }
row_recalled t (running_wait {n = said.NotStarted} _ _ _) plain k = record { ended = refl; linked = k.linked; waiting = refl }
row_recalled t (running_wait {n = said.Incomplete} _ _ _) plain k = record { ended = refl; linked = k.linked; waiting = refl }
row_recalled t (running_wait {n = said.Complete} apart _ _) plain k = absurd (apart refl)
row_recalled t (running_keep {n = said.NotStarted} _ _ _) plain k = record { ended = refl; linked = k.linked; waiting = refl }
row_recalled t (running_keep {n = said.Incomplete} _ _ _) plain k = record { ended = refl; linked = k.linked; waiting = refl }
row_recalled t (running_keep {n = said.Complete} apart _ _) plain k = absurd (apart refl)
row_recalled t (hears_wait {n = said.NotStarted} _ _) plain k = record { ended = refl; linked = k.linked; waiting = refl }
row_recalled t (hears_wait {n = said.Incomplete} _ _) plain k = record { ended = refl; linked = k.linked; waiting = refl }
row_recalled t (hears_wait {n = said.Complete} _ _) plain k = record { ended = rw k.linked refl; linked = k.linked; waiting = refl }
row_recalled t (fault_taking {heard = true}) plain k = record { ended = k.ended; linked = k.linked; waiting = refl }
row_recalled t (fault_taking {heard = false}) plain k = record { ended = refl; linked = k.linked; waiting = refl }
row_recalled t (closed_stopped_between {h = None}) plain k = record { ended = refl; linked = refl; waiting = refl }
row_recalled t (closed_stopped_between {h = Some said.NotStarted}) plain k = record { ended = refl; linked = refl; waiting = refl }
row_recalled t (closed_stopped_between {h = Some said.Incomplete}) plain k = record { ended = refl; linked = refl; waiting = refl }
row_recalled t (closed_stopped_between {h = Some said.Complete}) plain k = record { ended = k.ended; linked = refl; waiting = refl }
row_recalled t (closed_stopped_inside {h = None}) plain k = record { ended = refl; linked = refl; waiting = refl }
row_recalled t (closed_stopped_inside {h = Some said.NotStarted}) plain k = record { ended = refl; linked = refl; waiting = refl }
row_recalled t (closed_stopped_inside {h = Some said.Incomplete}) plain k = record { ended = refl; linked = refl; waiting = refl }
row_recalled t (closed_stopped_inside {h = Some said.Complete}) plain k = record { ended = k.ended; linked = refl; waiting = refl }
row_recalled t closed_between plain k = record { ended = k.ended; linked = refl; waiting = refl }
row_recalled t closed_inside plain k = record { ended = k.ended; linked = refl; waiting = refl }
row_recalled t closed_gone plain k = record { ended = k.ended; linked = refl; waiting = refl }
row_recalled t closed_waiting plain k = record { ended = k.ended; linked = refl; waiting = refl }
row_recalled t _ plain k = record { ended = cc; linked = cc; waiting = cc }

-- ---- what a row tells

-- what is asked where a board settles
abbrev pub Sure : (ℕ → Type 0) → Hearing → InRow → Type 0
Sure P h row = (q : Record) → row.act.keep ≡ Some q → (h.named ≡ Some q.id) × (IsSaidSince h.since × P q.id)

pub record RowTells (P : ℕ → Type 0) (h : Hearing) (told : List Act) : Type 0 where
  pub orderly : Orderly P h told
  pub same : heard_all h told ≡ h
  pub inner : are_inner told ≡ true

quietly : {P : ℕ → Type 0} (h : Hearing) (told : List Act) → are_aside told ≡ true → are_inner told ≡ true → RowTells P h told
quietly h told aside inner = record { orderly = aside_orderly h told aside; same = aside_heard h told aside; inner = inner }

settles_told : {P : ℕ → Type 0} (h : Hearing) (q : Record) (told : List Act) → are_aside told ≡ true → are_inner told ≡ true → (h.named ≡ Some q.id) × (IsSaidSince h.since × P q.id) → RowTells P h (acts.Deed (deeds.Settles q.id) ∷ told)
settles_told h q told aside inner sure = record { orderly = settles_so sure.0 sure.1.0 sure.1.1 (aside_orderly h told aside); same = aside_heard h told aside; inner = inner }

row_tells : {P : ℕ → Type 0} {s : InState} {w : InInput} {row : InRow} (desk : Desk) (h : Hearing) → IsIntakeRow s w row → StartsNot w → Sure P h row → RowTells P h (in_told desk row.act)
row_tells desk h starts_transport plain sure = absurd plain
row_tells desk h (hears_keep {board = q} _ _) plain sure = settles_told h q _ refl refl (sure q refl)
row_tells desk h (full_heard {board = q}) plain sure = settles_told h q _ refl refl (sure q refl)
row_tells desk h (stopped_keep {board = q} _ _) plain sure = settles_told h q _ refl refl (sure q refl)
row_tells desk h (waiting_settles {board = q} _ _) plain sure = settles_told h q _ refl refl (sure q refl)
row_tells desk h (stands_settles {board = q}) plain sure = settles_told h q _ refl refl (sure q refl)
row_tells desk h (closed_between {heard = true}) plain sure = quietly h _ refl refl
row_tells desk h (closed_between {heard = false}) plain sure = quietly h _ refl refl
row_tells desk h (closed_inside {heard = true}) plain sure = quietly h _ refl refl
row_tells desk h (closed_inside {heard = false}) plain sure = quietly h _ refl refl
row_tells desk h (closed_gone {heard = true}) plain sure = quietly h _ refl refl
row_tells desk h (closed_gone {heard = false}) plain sure = quietly h _ refl refl
row_tells desk h _ plain sure = quietly h _ refl refl

-- a row that settles the board settles the one that is held
row_keeps : {s : InState} {w : InInput} {row : InRow} (q : Record) → IsIntakeRow s w row → row.act.keep ≡ Some q → held_in s.phase ≡ Some q
row_keeps q (hears_keep _ _) is = is
row_keeps q full_heard is = is
row_keeps q (stopped_keep _ _) is = is
row_keeps q (waiting_settles _ _) is = is
row_keeps q stands_settles is = is
row_keeps q _ is = cc

pub keeps_held : (s : InState) (w : InInput) (row : InRow) (q : Record) → intake_row s w ≡ Some row → row.act.keep ≡ Some q → held_in s.phase ≡ Some q
keeps_held s w row q is keep = row_keeps q (in_row_is s w row is) keep

takes_less : {s : InState} {w : InInput} {row : InRow} (r : Record) → IsIntakeRow s w row → StartsNot w → held_in row.after.phase ≡ Some r → held_in s.phase ≡ Some r
takes_less r starts_transport plain is = absurd plain
takes_less r _ plain is = cc

-- ---- a micro event

-- the last start was of the board that is held, and the phase recalls what was heard since
pub record Knows (h : Hearing) (i : InState) : Type 0 where
  pub named : (r : Record) → held_in i.phase ≡ Some r → h.named ≡ Some r.id
  pub recalled : IsRecalled i.phase h.since

-- behind these acts, which put no board in the intake
pub record Tells (P : ℕ → Type 0) (h : Hearing) (body : Body) (d : Done) : Type 0 where
  pub orderly : Orderly P h d.acts
  pub knows : Knows (heard_all h d.acts) d.body.intake
  pub less : (r : Record) → held_in d.body.intake.phase ≡ Some r → held_in body.intake.phase ≡ Some r

-- and leave the machine's list as it is, and say of none that it left
pub record Works (P : ℕ → Type 0) (h : Hearing) (body : Body) (d : Done) : Type 0 where
  pub tells : Tells P h body d
  pub inner : are_inner d.acts ≡ true

pub tells_still : {P : ℕ → Type 0} {h : Hearing} (body : Body) → Knows h body.intake → Tells P h body (stays body)
tells_still body k = record { orderly = ends; knows = k; less = λ r is. is }

-- the intake is as it was, and nothing is said of the entry
pub tells_aside : {P : ℕ → Type 0} {h : Hearing} (body : Body) (d : Done) → Knows h body.intake → d.body.intake ≡ body.intake → are_aside d.acts ≡ true → Tells P h body d
tells_aside {h = h} body d k same aside = record {
  orderly = aside_orderly h d.acts aside;
  knows = subst (λ (x : Hearing). Knows x d.body.intake) (sym (aside_heard h d.acts aside)) (subst (λ (i : InState). Knows h i) (sym same) k);
  less = λ r is. ap (λ (i : InState). held_in i.phase) (sym same) ∙ is;
}

-- acts first
pub tells_behind : {P : ℕ → Type 0} {h : Hearing} (body : Body) (told : List Act) (d : Done) → Orderly P h told → Tells P (heard_all h told) body d → Tells P h body (behind told d)
tells_behind {h = h} body told d first k = record {
  orderly = orderly_both d.acts first k.orderly;
  knows = subst (λ (x : Hearing). Knows x d.body.intake) (sym (heard_append h told d.acts)) k.knows;
  less = k.less;
}

pub tells_both : {P : ℕ → Type 0} {h : Hearing} (body : Body) (first : Done) (next : Body → Done) → Tells P h body first → (Knows (heard_all h first.acts) first.body.intake → Tells P (heard_all h first.acts) first.body (next first.body))
    → Tells P h body (and_then first next)
tells_both {h = h} body first next a later =
    let b = later a.knows in record {
      orderly = orderly_both (next first.body).acts a.orderly b.orderly;
      knows = subst (λ (x : Hearing). Knows x (next first.body).body.intake) (sym (heard_append h first.acts (next first.body).acts)) b.knows;
      less = λ r is. a.less r (b.less r is);
    }

pub works_still : {P : ℕ → Type 0} {h : Hearing} (body : Body) → Knows h body.intake → Works P h body (stays body)
works_still body k = record { tells = tells_still body k; inner = refl }

pub works_aside : {P : ℕ → Type 0} {h : Hearing} (body : Body) (d : Done) → Knows h body.intake → d.body.intake ≡ body.intake → are_aside d.acts ≡ true → are_inner d.acts ≡ true → Works P h body d
works_aside body d k same aside inner = record { tells = tells_aside body d k same aside; inner = inner }

pub works_behind : {P : ℕ → Type 0} {h : Hearing} (body : Body) (told : List Act) (d : Done) → Orderly P h told → are_inner told ≡ true → Works P (heard_all h told) body d → Works P h body (behind told d)
works_behind body told d first inner k = record { tells = tells_behind body told d first k.tells; inner = inner_append told d.acts inner k.inner }

pub works_both : {P : ℕ → Type 0} {h : Hearing} (body : Body) (first : Done) (next : Body → Done) → Works P h body first → (Knows (heard_all h first.acts) first.body.intake → Works P (heard_all h first.acts) first.body (next first.body))
    → Works P h body (and_then first next)
works_both body first next a later = record { tells = tells_both body first next a.tells (λ k. (later k).tells); inner = inner_append first.acts (next first.body).acts a.inner (later a.tells.knows).inner }

-- the intake meets an input: what was heard with it is said before. `t` is what was heard before it
pub intake_tells : {P : ℕ → Type 0} {h : Hearing} (desk : Desk) (body : Body) (w : InInput) (t : Since) (found : Option InRow) → intake_row body.intake w ≡ found → StartsNot w
    → ((row : InRow) → found ≡ Some row → h.since ≡ since_after w t) → Knows (record h { since = t }) body.intake → ((row : InRow) → found ≡ Some row → Sure P h row) → (found ≡ None → Knows h body.intake) → Works P h body (intake_row_did desk body found)
intake_tells desk body w t None is plain heard k sure none = works_still body (none refl)
intake_tells {P = P} {h = h} desk body w t (Some row) is plain heard k sure none =
    let shape = in_row_is body.intake w row is in
    let told : RowTells P h (in_told desk row.act) = row_tells desk h shape plain (sure row refl) in
    let less : (r : Record) → held_in row.after.phase ≡ Some r → held_in body.intake.phase ≡ Some r = λ r held. takes_less r shape plain held in
    record {
      tells = record {
        orderly = told.orderly;
        knows = subst (λ (x : Hearing). Knows x row.after) (sym told.same) (record {
          named = λ r held. k.named r (less r held);
          recalled = subst (λ (x : Since). IsRecalled row.after.phase x) (sym (heard row refl)) (row_recalled t shape plain k.recalled);
        });
        less = less;
      };
      inner = told.inner;
    }

-- an input with which no board settles
abbrev pub IsNoKeep : InInput → Type 0
IsNoKeep in_input.Start = ⊥
IsNoKeep in_input.Stand = ⊥
IsNoKeep (in_input.Sensed e) = ⊥
IsNoKeep (in_input.Finished state id) = ⊥
IsNoKeep _ = Unit {0}

no_keep : {s : InState} {w : InInput} {row : InRow} → IsIntakeRow s w row → IsNoKeep w → row.act.keep ≡ None
no_keep starts_transport plain = absurd plain
no_keep (hears_keep _ _) plain = absurd plain
no_keep full_heard plain = absurd plain
no_keep (stopped_keep _ _) plain = absurd plain
no_keep (waiting_settles _ _) plain = absurd plain
no_keep stands_settles plain = absurd plain
no_keep _ plain = refl

no_start : (w : InInput) → IsNoKeep w → StartsNot w
no_start in_input.Start plain = absurd plain
no_start _ plain = tt

none_sure : {X : Type 0} (row : InRow) → row.act.keep ≡ None → (q : Record) → row.act.keep ≡ Some q → X
none_sure row none q is = absurd (let no_way : ◌≡◌ {A = Option Record} None (Some q) = sym none ∙ is in cc)

-- at an input with which nothing is heard and nothing settles
abbrev pub IsSilentInput : InInput → Type 0
IsSilentInput in_input.Start = ⊥
IsSilentInput in_input.Stand = ⊥
IsSilentInput in_input.Closed = ⊥
IsSilentInput (in_input.Sensed e) = ⊥
IsSilentInput (in_input.Finished state id) = ⊥
IsSilentInput _ = Unit {0}

silent_no_keep : (w : InInput) → IsSilentInput w → IsNoKeep w
silent_no_keep in_input.Closed plain = tt
silent_no_keep in_input.Start plain = absurd plain
silent_no_keep in_input.Stand plain = absurd plain
silent_no_keep (in_input.Sensed e) plain = absurd plain
silent_no_keep (in_input.Finished state id) plain = absurd plain
silent_no_keep _ plain = tt

silent_since : (w : InInput) (t : Since) → IsSilentInput w → t ≡ since_after w t
silent_since in_input.Closed t plain = absurd plain
silent_since in_input.Start t plain = absurd plain
silent_since in_input.Stand t plain = absurd plain
silent_since (in_input.Finished state id) t plain = absurd plain
silent_since _ t plain = refl

pub silent_works : {P : ℕ → Type 0} {h : Hearing} (desk : Desk) (body : Body) (w : InInput) (found : Option InRow) → intake_row body.intake w ≡ found → IsSilentInput w → Knows h body.intake → Works P h body (intake_row_did desk body found)
silent_works {h = h} desk body w found is silent k =
    intake_tells desk body w h.since found is (no_start w (silent_no_keep w silent)) (λ row same. silent_since w h.since silent) k
    (λ row same q keep. none_sure row (no_keep (in_row_is body.intake w row (is ∙ same)) (silent_no_keep w silent)) q keep) (λ none. k)

-- ---- a connection ends

has_closed_row : (s : InState) (phase : In) → s.phase ≡ phase → intake_row s in_input.Closed ≡ None → ⊥
has_closed_row s inn.Idle is none = let no_way = rw is at none in cc
has_closed_row s (inn.Taking q seen.NotStarted heard) is none = let no_way = rw is at none in cc
has_closed_row s (inn.Taking q seen.Incomplete heard) is none = let no_way = rw is at none in cc
has_closed_row s (inn.Taking q seen.Complete heard) is none = let no_way = rw is at none in cc
has_closed_row s (inn.Taking q seen.Taken heard) is none = let no_way = rw is at none in cc
has_closed_row s (inn.Stopped q seen.NotStarted heard) is none = let no_way = rw is at none in cc
has_closed_row s (inn.Stopped q seen.Incomplete heard) is none = let no_way = rw is at none in cc
has_closed_row s (inn.Stopped q seen.Complete heard) is none = let no_way = rw is at none in cc
has_closed_row s (inn.Stopped q seen.Taken heard) is none = let no_way = rw is at none in cc
has_closed_row s (inn.Waiting q own heard) is none = let no_way = rw is at none in cc

-- its intake hears of it. `told` says before that the connection ends
pub entry_closed : {P : ℕ → Type 0} {h : Hearing} (desk : Desk) (body : Body) (told : List Act) → heard_all h told ≡ record h { since = closed_since h.since } → Orderly P h told → are_inner told ≡ true → Knows h body.intake
    → Works P h body (behind told (at_intake desk in_input.Closed body))
entry_closed {P = P} {h = h} desk body told closes orderly inner k =
    works_behind body told (at_intake desk in_input.Closed body) orderly inner (subst (λ (x : Hearing). Works P x body (at_intake desk in_input.Closed body)) (sym closes)
    (intake_tells desk body in_input.Closed h.since (intake_row body.intake in_input.Closed) refl tt (λ row same. refl) k
    (λ row same q keep. none_sure row (no_keep (in_row_is body.intake in_input.Closed row same) tt) q keep) (λ none. absurd (has_closed_row body.intake body.intake.phase refl none))))

-- ---- the outlet says nothing of the entry

aside_drives : (on : Option Bool) → (are_aside (drives Exit on) ≡ true) × (are_inner (drives Exit on) ≡ true)
aside_drives None = (refl, refl)
aside_drives (Some on) = (refl, refl)

abbrev pub leaves_not : Option OutDeed → Bool
leaves_not (Some (out_deeds.Leaves id)) = false
leaves_not _ = true

aside_deed : (deed : Option OutDeed) → are_aside (out_does deed) ≡ true
aside_deed None = refl
aside_deed (Some (out_deeds.Opens id)) = refl
aside_deed (Some (out_deeds.Refuses id)) = refl
aside_deed (Some (out_deeds.Leaves id)) = refl
aside_deed (Some (out_deeds.Returns id)) = refl
aside_deed (Some (out_deeds.Loses id)) = refl

inner_deed : (deed : Option OutDeed) → leaves_not deed ≡ true → are_inner (out_does deed) ≡ true
inner_deed None is = refl
inner_deed (Some (out_deeds.Opens id)) is = refl
inner_deed (Some (out_deeds.Refuses id)) is = refl
inner_deed (Some (out_deeds.Leaves id)) is = is
inner_deed (Some (out_deeds.Returns id)) is = refl
inner_deed (Some (out_deeds.Loses id)) is = refl

aside_offers : (desk : Desk) (front : Option Record) → (are_aside (offers desk front) ≡ true) × (are_inner (offers desk front) ≡ true)
aside_offers desk None = (refl, refl)
aside_offers desk (Some front) = (refl, refl)

aside_send : (desk : Desk) (kept : List Record) (send : Option OutSend) → (are_aside (out_sends desk kept send) ≡ true) × (are_inner (out_sends desk kept send) ≡ true)
aside_send desk kept None = (refl, refl)
aside_send desk kept (Some out_saying.BoardAvailable) = aside_offers desk (slice_get kept 0)
aside_send desk kept (Some out_saying.RevokeBoardAvailable) = (refl, refl)
aside_send desk kept (Some (out_saying.Finished state id)) = (refl, refl)

pub out_aside : (desk : Desk) (kept : List Record) (row : OutRow) → are_aside (out_told desk kept row.act) ≡ true
out_aside desk kept row =
    aside_append (out_does row.act.deed) (out_sends desk kept row.act.send ++ drives Exit row.act.drive) (aside_deed row.act.deed)
    (aside_append (out_sends desk kept row.act.send) (drives Exit row.act.drive) (aside_send desk kept row.act.send).0 (aside_drives row.act.drive).0)

pub out_inner : (desk : Desk) (kept : List Record) (row : OutRow) → leaves_not row.act.deed ≡ true → are_inner (out_told desk kept row.act) ≡ true
out_inner desk kept row stay =
    inner_append (out_does row.act.deed) (out_sends desk kept row.act.send ++ drives Exit row.act.drive) (inner_deed row.act.deed stay)
    (inner_append (out_sends desk kept row.act.send) (drives Exit row.act.drive) (aside_send desk kept row.act.send).1 (aside_drives row.act.drive).1)

-- a board is said to have left where a sensor event is read, and nowhere else
abbrev pub IsNoSense : OutInput → Type 0
IsNoSense (out_input.Sensed e) = ⊥
IsNoSense _ = Unit {0}

row_stays : {s : OutState} {w : OutInput} {row : OutRow} → IsOutletRow s w row → IsNoSense w → leaves_not row.act.deed ≡ true
row_stays left_moving plain = absurd plain
row_stays left_stuck plain = absurd plain
row_stays left_stopped plain = absurd plain
row_stays left_unlinked plain = absurd plain
row_stays _ plain = refl

pub outlet_works : {P : ℕ → Type 0} {h : Hearing} (desk : Desk) (body : Body) (w : OutInput) (found : Option OutRow) → outlet_row body.outlet w ≡ found → IsNoSense w → Knows h body.intake → Works P h body (outlet_row_did desk body found)
outlet_works desk body w None is plain k = works_still body k
outlet_works desk body w (Some row) is plain k = works_aside body (outlet_row_did desk body (Some row)) k refl (out_aside desk body.kept row) (out_inner desk body.kept row (row_stays (out_row_is body.outlet w row is) plain))

pub outlet_stays : (w : OutInput) (s : OutState) (row : OutRow) → outlet_row s w ≡ Some row → IsNoSense w → leaves_not row.act.deed ≡ true
outlet_stays w s row is plain = row_stays (out_row_is s w row is) plain

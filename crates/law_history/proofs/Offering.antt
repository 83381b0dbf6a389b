-- A machine's step: what its outlet holds is what it offered before the opening, and what settles in it is kept behind all
-- others.
use Rattle.std.proofs.Common.{Bool, List, None, Option, Some, [], ap, false, refl, subst, sym, true, ℕ, ◌++◌, ◌||◌, ◌∙◌, ◌∷◌, ◌≡◌}
use Rattle.std.proofs.lemmas.Bool.{or_from}
use Rattle.line_base.specs.declared.states.Side.{Side}
use Rattle.line_base.specs.declared.states.Side.TheVariants.{Entry, Exit}
use Rattle.board_record.specs.declared.record.Record.{Record}
use Rattle.session_core.specs.End.{SessionEnd}
use Rattle.handover_out.specs.declared.act.OutDeed.{OutDeed}
use Rattle.handover_out.specs.declared.act.OutDeed.TheVariants as out_deeds
use Rattle.handover_out.specs.declared.act.OutSend.{OutSend}
use Rattle.handover_out.specs.declared.act.OutSend.TheVariants as out_send
use Rattle.handover_out.specs.declared.input.OutInput.{OutInput}
use Rattle.handover_out.specs.declared.input.OutInput.TheVariants as out_input
use Rattle.handover_out.specs.declared.phase.Phase.{Phase as Out}
use Rattle.handover_out.specs.declared.phase.Phase.TheVariants as out
use Rattle.handover_out.specs.State.{OutState, held}
use Rattle.handover_out.specs.Row.{OutRow, outlet_row}
use Rattle.handover_out.specs.Table.{IsOutletRow, back_stopped, back_stuck, back_unlinked, begun_moving, closed_between, closed_ended, closed_home, closed_idle, closed_stuck, fault_between, fault_home, left_moving, left_stopped, left_stuck, left_unlinked, back_moving, offers, opens as out_opens, refuses, revokes, stop_between, stop_ended, stop_home, stop_stuck, taken_moving, taken_stopped, taken_stuck, taken_unlinked}
use Rattle.handover_out.proofs.Rows.{row_is}
use Rattle.handover_in.specs.declared.act.InAct.{InAct}
use Rattle.handover_in.specs.declared.act.InDeed.{InDeed}
use Rattle.handover_in.specs.declared.act.InDeed.TheVariants as in_deeds
use Rattle.handover_in.specs.declared.act.InSend.{InSend}
use Rattle.handover_in.specs.declared.input.InInput.{InInput}
use Rattle.handover_in.specs.State.{InState, board_of_phase as held_in}
use Rattle.handover_in.specs.Row.{InRow, intake_row}
use Rattle.handover_in.specs.Table.{IsIntakeRow, full_heard, hears_keep, stands_settles, starts_transport, stopped_keep, waiting_settles}
use Rattle.handover_in.proofs.Rows.{row_is as in_row_is}
use Rattle.node_core.specs.Desk.{Desk}
use Rattle.node_core.specs.declared.act.Act.{Act}
use Rattle.node_core.specs.declared.act.Act.TheVariants as acts
use Rattle.node_core.specs.declared.act.Deed.TheVariants as deeds
use Rattle.node_core.specs.declared.lane.Body.{Body}
use Rattle.node_core.specs.Done.{Done, done, stays, behind, and_then}
use Rattle.node_core.specs.Told.{drives, in_does, in_sends, in_told, out_does, out_sends, out_told}
use Rattle.node_core.specs.Sides.{with_session}
use Rattle.node_core.specs.Halves.{behind_opening, given_back, intake_row_did, opening_board, outlet_row_did, settled}
use Rattle.node_core.proofs.HalfRows.{IsNoStart, IsPlain}
use Rattle.law_history.specs.Offered.{Offering, offers_act, is_hand}

-- ---- what is read off the acts of a machine

abbrev pub offers_acts : List Act → Offering → Offering
offers_acts [] o = o
offers_acts (act ∷ told) o = offers_acts told (offers_act act o)

pub offers_append : (a b : List Act) (o : Offering) → offers_acts (a ++ b) o ≡ offers_acts b (offers_acts a o)
offers_append [] b o = refl
offers_append (act ∷ a) b o = offers_append a b (offers_act act o)

-- the boards that settle, the last one first
abbrev pub settles_act : Act → List ℕ → List ℕ
settles_act (acts.Deed (deeds.Settles id)) ids = id ∷ ids
settles_act _ ids = ids

abbrev pub settles_acts : List Act → List ℕ → List ℕ
settles_acts [] ids = ids
settles_acts (act ∷ told) ids = settles_acts told (settles_act act ids)

pub settles_append : (a b : List Act) (ids : List ℕ) → settles_acts (a ++ b) ids ≡ settles_acts b (settles_acts a ids)
settles_append [] b ids = refl
settles_append (act ∷ a) b ids = settles_append a b (settles_act act ids)

abbrev pub are_hand : List Act → Bool
are_hand [] = false
are_hand (act ∷ told) = is_hand act || are_hand told

pub or_join : (a b c : Bool) → (a || (b || c)) ≡ ((a || b) || c)
or_join true b c = refl
or_join false b c = refl

pub hand_append : (a b : List Act) → are_hand (a ++ b) ≡ (are_hand a || are_hand b)
hand_append [] b = refl
hand_append (act ∷ a) b = ap (λ (x : Bool). is_hand act || x) (hand_append a b) ∙ or_join (is_hand act) (are_hand a) (are_hand b)

pub no_hands : (a b : List Act) → are_hand a ≡ false → are_hand b ≡ false → are_hand (a ++ b) ≡ false
no_hands a b one two = hand_append a b ∙ or_from (are_hand a) (are_hand b) one two

-- acts that say nothing of it
pub record Quiet (told : List Act) : Type 0 where
  pub offers : (o : Offering) → offers_acts told o ≡ o
  pub settles : (ids : List ℕ) → settles_acts told ids ≡ ids
  pub hands : are_hand told ≡ false

pub quiet_both : {a b : List Act} → Quiet a → Quiet b → Quiet (a ++ b)
quiet_both {a = a} {b = b} one two = record {
  offers = λ o. offers_append a b o ∙ (two.offers (offers_acts a o) ∙ one.offers o);
  settles = λ ids. settles_append a b ids ∙ (two.settles (settles_acts a ids) ∙ one.settles ids);
  hands = no_hands a b one.hands two.hands;
}

-- ---- the outlet's state beside what was offered

-- what is offered is the front record, and it was in the last offer; what is held was in the last offer before the opening
pub data AsOffered : Out → Option ℕ → Option ℕ → List Record → Offering → Type 0 where
  says_idle : {t : Option ℕ} {kept : List Record} {o : Offering} → AsOffered out.Idle None t kept o
  says_offered : {board : Record} {boards : List Record} {o : Offering} → o.said ≡ Some board → AsOffered out.Idle (Some board.id) (Some board.id) (board ∷ boards) o
  says_moving : {board : Record} {begun : Bool} {t : Option ℕ} {kept : List Record} {o : Offering} → o.opened ≡ Some board → AsOffered (out.Moving board begun) None t kept o
  says_stuck : {board : Record} {l p : Bool} {t : Option ℕ} {kept : List Record} {o : Offering} → o.opened ≡ Some board → AsOffered (out.Stuck board l p) None t kept o
  says_ended : {id : ℕ} {t : Option ℕ} {kept : List Record} {o : Offering} → AsOffered (out.Ended id) None t kept o

-- ---- what has settled

-- behind a settled record nothing stands in the list, and where a board is offered, that record isn't the front one
pub data Behind (r : Record) : Option ℕ → List Record → Type 0 where
  behind_all : {kept : List Record} (others : List Record) → kept ≡ others ++ r ∷ [] → Behind r None kept
  behind_front : {id : ℕ} {kept : List Record} (front : Record) (others : List Record) → kept ≡ front ∷ (others ++ r ∷ []) → Behind r (Some id) kept

-- the intake holds what it held when the step began, if anything, or that record has settled. `first` is what it held
pub data Settling (first : Option Record) : List ℕ → Option Record → Option ℕ → List Record → Type 0 where
  not_yet : {holds : Option Record} {offered : Option ℕ} {kept : List Record} → ((r : Record) → holds ≡ Some r → first ≡ Some r) → Settling first [] holds offered kept
  is_settled : {r : Record} {holds : Option Record} {offered : Option ℕ} {kept : List Record} → first ≡ Some r → ((q : Record) → holds ≡ Some q → ⊥) → Behind r offered kept → Settling first (r.id ∷ []) holds offered kept

pub record Holds (first : Option Record) (ids : List ℕ) (o : Offering) (body : Body) : Type 0 where
  pub offers : AsOffered body.outlet.phase body.outlet.offered body.outlet.touched body.kept o
  pub settles : Settling first ids (held_in body.intake.phase) body.outlet.offered body.kept

-- a micro event
pub record Walks (body : Body) (d : Done) : Type 0 where
  pub each : (first : Option Record) (ids : List ℕ) (o : Offering) → Holds first ids o body → Holds first (settles_acts d.acts ids) (offers_acts d.acts o) d.body
  pub hands : are_hand d.acts ≡ false

pub walks_still : (body : Body) → Walks body (stays body)
walks_still body = record { each = λ first ids o h. h; hands = refl }

pub holds_quiet : {first : Option Record} {ids : List ℕ} {o : Offering} {body : Body} (told : List Act) → Quiet told → Holds first ids o body → Holds first (settles_acts told ids) (offers_acts told o) body
holds_quiet {first = first} {ids = ids} {o = o} {body = body} told q h =
    subst (λ (x : List ℕ). Holds first x (offers_acts told o) body) (sym (q.settles ids)) (subst (λ (x : Offering). Holds first ids x body) (sym (q.offers o)) h)

pub walks_told : (body : Body) (told : List Act) → Quiet told → Walks body (done body told)
walks_told body told q = record { each = λ first ids o h. holds_quiet told q h; hands = q.hands }

pub walks_both : (body : Body) (first : Done) (next : Body → Done) → Walks body first → Walks first.body (next first.body) → Walks body (and_then first next)
walks_both body first next a b = record {
  each = λ x ids o h.
      subst (λ (ys : List ℕ). Holds x ys (offers_acts (first.acts ++ (next first.body).acts) o) (next first.body).body) (sym (settles_append first.acts (next first.body).acts ids))
      (subst (λ (y : Offering). Holds x (settles_acts (next first.body).acts (settles_acts first.acts ids)) y (next first.body).body) (sym (offers_append first.acts (next first.body).acts o))
      (b.each x (settles_acts first.acts ids) (offers_acts first.acts o) (a.each x ids o h)));
  hands = no_hands first.acts (next first.body).acts a.hands b.hands;
}

pub walks_behind : (body : Body) (told : List Act) (d : Done) → Quiet told → Walks body d → Walks body (behind told d)
walks_behind body told d q k = walks_both body (done body told) (λ (b : Body). record d { acts = d.acts }) (walks_told body told q) k

pub walks_session : (side : Side) (s : SessionEnd) (body : Body) (d : Done) → Walks (with_session side s body) d → Walks body d
walks_session Entry s body d k = record { each = λ first ids o h. k.each first ids o (record { offers = h.offers; settles = h.settles }); hands = k.hands }
walks_session Exit s body d k = record { each = λ first ids o h. k.each first ids o (record { offers = h.offers; settles = h.settles }); hands = k.hands }

-- ---- the outlet table

-- what the outlet tells but of an offer and an opening
abbrev pub says_offer : Option OutSend → Bool
says_offer (Some out_send.BoardAvailable) = true
says_offer _ = false

abbrev is_opening : Option OutDeed → Bool
is_opening (Some (out_deeds.Opens id)) = true
is_opening _ = false

quiet_none : Quiet []
quiet_none = record { offers = λ o. refl; settles = λ ids. refl; hands = refl }

quiet_drive : (side : Side) (on : Option Bool) → Quiet (drives side on)
quiet_drive side None = quiet_none
quiet_drive side (Some on) = record { offers = λ o. refl; settles = λ ids. refl; hands = refl }

quiet_deed : (deed : Option OutDeed) → is_opening deed ≡ false → Quiet (out_does deed)
quiet_deed None is = quiet_none
quiet_deed (Some (out_deeds.Opens id)) is = absurd (let no : true ≡ false = is in cc)
quiet_deed (Some (out_deeds.Refuses id)) is = record { offers = λ o. refl; settles = λ ids. refl; hands = refl }
quiet_deed (Some (out_deeds.Leaves id)) is = record { offers = λ o. refl; settles = λ ids. refl; hands = refl }
quiet_deed (Some (out_deeds.Returns id)) is = record { offers = λ o. refl; settles = λ ids. refl; hands = refl }
quiet_deed (Some (out_deeds.Loses id)) is = record { offers = λ o. refl; settles = λ ids. refl; hands = refl }

quiet_send : (desk : Desk) (kept : List Record) (send : Option OutSend) → says_offer send ≡ false → Quiet (out_sends desk kept send)
quiet_send desk kept None is = quiet_none
quiet_send desk kept (Some out_send.BoardAvailable) is = absurd (let no : true ≡ false = is in cc)
quiet_send desk kept (Some out_send.RevokeBoardAvailable) is = record { offers = λ o. refl; settles = λ ids. refl; hands = refl }
quiet_send desk kept (Some (out_send.Finished state id)) is = record { offers = λ o. refl; settles = λ ids. refl; hands = refl }

out_quiet : (desk : Desk) (kept : List Record) (row : OutRow) → is_opening row.act.deed ≡ false → says_offer row.act.send ≡ false → Quiet (out_told desk kept row.act)
out_quiet desk kept row deed send = quiet_both (quiet_deed row.act.deed deed) (quiet_both (quiet_send desk kept row.act.send send) (quiet_drive Exit row.act.drive))

plain_row_quiet : {s : OutState} {input : OutInput} {row : OutRow} → IsOutletRow s input row → IsPlain input → (is_opening row.act.deed ≡ false) × (says_offer row.act.send ≡ false)
plain_row_quiet offers plain = absurd plain
plain_row_quiet (out_opens _) plain = absurd plain
plain_row_quiet (refuses _) plain = absurd plain
plain_row_quiet _ plain = (refl, refl)

row_offers : {s : OutState} {input : OutInput} {row : OutRow} {kept : List Record} {o : Offering} → IsOutletRow s input row → IsPlain input → AsOffered s.phase s.offered s.touched kept o → AsOffered row.after.phase row.after.offered row.after.touched (given_back row.act.back kept) o
row_offers offers plain h = absurd plain
row_offers (out_opens _) plain h = absurd plain
row_offers (refuses _) plain h = absurd plain
row_offers revokes plain h = says_idle
row_offers (stop_home _) plain (says_moving is) = says_idle
row_offers (stop_between _) plain (says_moving is) = says_stuck is
row_offers (stop_stuck _) plain (says_stuck is) = says_stuck is
row_offers (stop_ended _) plain says_ended = says_idle
row_offers begun_moving plain (says_moving is) = says_moving is
row_offers left_moving plain (says_moving is) = says_ended
row_offers left_stuck plain (says_stuck is) = says_ended
row_offers left_stopped plain (says_stuck is) = says_idle
row_offers left_unlinked plain (says_stuck is) = says_idle
row_offers back_moving plain (says_moving is) = says_moving is
row_offers back_stuck plain (says_stuck is) = says_ended
row_offers back_stopped plain (says_stuck is) = says_idle
row_offers back_unlinked plain (says_stuck is) = says_idle
row_offers taken_moving plain (says_moving is) = says_ended
row_offers taken_stuck plain (says_stuck is) = says_ended
row_offers taken_stopped plain (says_stuck is) = says_idle
row_offers taken_unlinked plain (says_stuck is) = says_idle
row_offers fault_home plain (says_moving is) = says_ended
row_offers fault_between plain (says_moving is) = says_stuck is
row_offers closed_home plain h = says_idle
row_offers closed_between plain (says_moving is) = says_stuck is
row_offers closed_stuck plain (says_stuck is) = says_stuck is
row_offers closed_idle plain h = says_idle
row_offers closed_ended plain h = says_idle
row_offers _ plain h = h

-- a record that is given back stands in front
in_front : {r b : Record} {offered : Option ℕ} {kept : List Record} → Behind r offered kept → Behind r offered (b ∷ kept)
in_front {b = b} (behind_all others is) = behind_all (b ∷ others) (ap (λ (ks : List Record). b ∷ ks) is)
in_front {b = b} (behind_front front others is) = behind_front b (front ∷ others) (ap (λ (ks : List Record). b ∷ ks) is)

-- where nothing is offered, any record may be the front one
loosely : {r : Record} {offered : Option ℕ} {kept : List Record} → Behind r offered kept → Behind r None kept
loosely (behind_all others is) = behind_all others is
loosely (behind_front front others is) = behind_all (front ∷ others) is

row_behind : {r : Record} {s : OutState} {input : OutInput} {row : OutRow} {kept : List Record} → IsOutletRow s input row → IsPlain input → Behind r s.offered kept → Behind r row.after.offered (given_back row.act.back kept)
row_behind offers plain h = absurd plain
row_behind (out_opens _) plain h = absurd plain
row_behind (refuses _) plain h = absurd plain
row_behind revokes plain h = loosely h
row_behind (stop_home _) plain h = in_front h
row_behind back_stuck plain h = in_front h
row_behind back_stopped plain h = in_front h
row_behind back_unlinked plain h = in_front h
row_behind fault_home plain h = in_front h
row_behind closed_home plain h = in_front (loosely h)
row_behind closed_between plain h = loosely h
row_behind closed_stuck plain h = loosely h
row_behind closed_idle plain h = loosely h
row_behind closed_ended plain h = loosely h
row_behind _ plain h = h

pub settling_by : {first : Option Record} {ids : List ℕ} {holds : Option Record} {offered now : Option ℕ} {kept others : List Record} → ((r : Record) → Behind r offered kept → Behind r now others) → Settling first ids holds offered kept → Settling first ids holds now others
settling_by next (not_yet less) = not_yet less
settling_by next (is_settled {r = r} was none h) = is_settled was none (next r h)

pub outlet_walks : (desk : Desk) (body : Body) (input : OutInput) (found : Option OutRow) → IsPlain input → outlet_row body.outlet input ≡ found → Walks body (outlet_row_did desk body found)
outlet_walks desk body input None plain is = walks_still body
outlet_walks desk body input (Some row) plain is =
    let shape = row_is body.outlet input row is in
    let says = plain_row_quiet shape plain in
    let quiet : Quiet (out_told desk body.kept row.act) = out_quiet desk body.kept row says.0 says.1 in
    record {
      each = λ first ids o h. holds_quiet (out_told desk body.kept row.act) quiet (record { offers = row_offers shape plain h.offers; settles = settling_by (λ r b. row_behind shape plain b) h.settles });
      hands = quiet.hands;
    }

-- a start
pub start_offers : {s : OutState} {named : ℕ} {row : OutRow} (desk : Desk) (opening : Bool) (kept : List Record) {o : Offering} → IsOutletRow s (out_input.Start named (opening_board opening kept)) row → AsOffered s.phase s.offered s.touched kept o
    → AsOffered row.after.phase row.after.offered row.after.touched (given_back row.act.back (behind_opening opening kept)) (offers_acts (out_told desk (behind_opening opening kept) row.act) o)
start_offers desk false kept (refuses _) h = says_ended
start_offers desk true [] (refuses _) h = says_ended
start_offers desk true (b ∷ bs) (out_opens _) (says_offered is) = says_moving is

pub start_behind : {r : Record} {s : OutState} {named : ℕ} {row : OutRow} (opening : Bool) (kept : List Record) → IsOutletRow s (out_input.Start named (opening_board opening kept)) row → Behind r s.offered kept → Behind r row.after.offered (given_back row.act.back (behind_opening opening kept))
start_behind false kept (refuses _) h = loosely h
start_behind true [] (refuses _) h = loosely h
start_behind true (b ∷ bs) (out_opens _) (behind_front front others is) = behind_all others (let same : bs ≡ others ++ _ = cc in same)

pub start_quiet : {s : OutState} {named : ℕ} {row : OutRow} (desk : Desk) (opening : Bool) (kept : List Record) → IsOutletRow s (out_input.Start named (opening_board opening kept)) row
    → ((ids : List ℕ) → settles_acts (out_told desk (behind_opening opening kept) row.act) ids ≡ ids) × (are_hand (out_told desk (behind_opening opening kept) row.act) ≡ false)
start_quiet desk false kept (refuses _) = (λ ids. refl, refl)
start_quiet desk true [] (refuses _) = (λ ids. refl, refl)
start_quiet desk true (b ∷ bs) (out_opens _) = (λ ids. refl, refl)

-- ---- the intake table

abbrev settles_not : Option InDeed → Bool
settles_not (Some (in_deeds.Settles id)) = false
settles_not _ = true

quiet_in_deed : (deed : Option InDeed) → settles_not deed ≡ true → Quiet (in_does deed)
quiet_in_deed None is = quiet_none
quiet_in_deed (Some (in_deeds.Starts id)) is = record { offers = λ o. refl; settles = λ ids. refl; hands = refl }
quiet_in_deed (Some (in_deeds.Settles id)) is = absurd (let no : false ≡ true = is in cc)
quiet_in_deed (Some (in_deeds.Drops id)) is = record { offers = λ o. refl; settles = λ ids. refl; hands = refl }

quiet_in_send : (desk : Desk) (send : Option InSend) → Quiet (in_sends desk send)
quiet_in_send desk None = quiet_none
quiet_in_send desk (Some what) = record { offers = λ o. refl; settles = λ ids. refl; hands = refl }

in_quiet : (desk : Desk) (act : InAct) → settles_not act.deed ≡ true → Quiet (in_told desk act)
in_quiet desk act deed = quiet_both (quiet_in_deed act.deed deed) (quiet_both (quiet_in_send desk act.send) (quiet_drive Entry act.drive))

-- a row settles the board that is held, or none
pub data InShape (was now : Option Record) (act : InAct) : Type 0 where
  settles_none : settles_not act.deed ≡ true → act.keep ≡ None → ((r : Record) → now ≡ Some r → was ≡ Some r) → InShape was now act
  settles_it : (board : Record) → act.deed ≡ Some (in_deeds.Settles board.id) → act.keep ≡ Some board → was ≡ Some board → now ≡ None → InShape was now act

in_shape : {s : InState} {input : InInput} {row : InRow} → IsIntakeRow s input row → IsNoStart input → InShape (held_in s.phase) (held_in row.after.phase) row.act
in_shape starts_transport plain = absurd plain
in_shape (hears_keep {board = b} _ _) plain = settles_it b refl refl refl refl
in_shape (full_heard {board = b}) plain = settles_it b refl refl refl refl
in_shape (stopped_keep {board = b} _ _) plain = settles_it b refl refl refl refl
in_shape (waiting_settles {board = b} _ _) plain = settles_it b refl refl refl refl
in_shape (stands_settles {board = b}) plain = settles_it b refl refl refl refl
in_shape _ plain = settles_none refl refl (λ r is. cc)

-- where a board settles it comes behind all others
settles_behind : {phase : Out} {offered touched : Option ℕ} {kept : List Record} {o : Offering} (board : Record) → AsOffered phase offered touched kept o → Behind board offered (kept ++ board ∷ [])
settles_behind {kept = kept} board says_idle = behind_all kept refl
settles_behind board (says_offered {board = front} {boards = boards} is) = behind_front front boards refl
settles_behind {kept = kept} board (says_moving is) = behind_all kept refl
settles_behind {kept = kept} board (says_stuck is) = behind_all kept refl
settles_behind {kept = kept} board says_ended = behind_all kept refl

pub settled_offers : {phase : Out} {offered touched : Option ℕ} {kept : List Record} {o : Offering} (keep : Option Record) → AsOffered phase offered touched kept o → AsOffered phase offered touched (settled keep kept) o
settled_offers None h = h
settled_offers (Some board) says_idle = says_idle
settled_offers (Some board) (says_offered is) = says_offered is
settled_offers (Some board) (says_moving is) = says_moving is
settled_offers (Some board) (says_stuck is) = says_stuck is
settled_offers (Some board) says_ended = says_ended

less_settling : {first : Option Record} {ids : List ℕ} {was now : Option Record} {offered : Option ℕ} {kept : List Record} → ((r : Record) → now ≡ Some r → was ≡ Some r) → Settling first ids was offered kept → Settling first ids now offered kept
less_settling next (not_yet less) = not_yet (λ r is. less r (next r is))
less_settling next (is_settled was none h) = is_settled was (λ q is. none q (next q is)) h

none_some : (now : Option Record) → now ≡ None → (q : Record) → now ≡ Some q → ⊥
none_some now none q is = let no : ◌≡◌ {A = Option Record} None (Some q) = sym none ∙ is in cc

it_settles : {first : Option Record} {ids : List ℕ} {was now : Option Record} {offered : Option ℕ} {kept : List Record} (board : Record) → was ≡ Some board → now ≡ None → Behind board offered (kept ++ board ∷ []) → Settling first ids was offered kept → Settling first (board.id ∷ ids) now offered (kept ++ board ∷ [])
it_settles {now = now} board was none behind (not_yet less) = is_settled (less board was) (none_some now none) behind
it_settles board was none behind (is_settled first never h) = absurd (never board was)

pub in_holds : {first : Option Record} {ids : List ℕ} {o : Offering} (desk : Desk) (body : Body) (row : InRow) → InShape (held_in body.intake.phase) (held_in row.after.phase) row.act → Holds first ids o body
    → Holds first (settles_acts (in_told desk row.act) ids) (offers_acts (in_told desk row.act) o) (intake_row_did desk body (Some row)).body
in_holds desk body row (settles_none deed keep less) h =
    holds_quiet (in_told desk row.act) (in_quiet desk row.act deed) (record {
      offers = settled_offers row.act.keep h.offers;
      settles = rw keep (less_settling less h.settles);
    })
in_holds {first = first} {ids = ids} {o = o} desk body row (settles_it board deed keep was none) h =
    let told : in_told desk row.act ≡ acts.Deed (deeds.Settles board.id) ∷ (in_sends desk row.act.send ++ drives Entry row.act.drive) = ap (λ (d : Option InDeed). in_does d ++ (in_sends desk row.act.send ++ drives Entry row.act.drive)) deed in
    let rest : Quiet (in_sends desk row.act.send ++ drives Entry row.act.drive) = quiet_both (quiet_in_send desk row.act.send) (quiet_drive Entry row.act.drive) in
    let now : Body = (intake_row_did desk body (Some row)).body in
    let kept_is : now.kept ≡ body.kept ++ board ∷ [] = ap (λ (k : Option Record). settled k body.kept) keep in
    let settles : Settling first (board.id ∷ ids) (held_in row.after.phase) body.outlet.offered now.kept =
    subst (λ (ks : List Record). Settling first (board.id ∷ ids) (held_in row.after.phase) body.outlet.offered ks) (sym kept_is) (it_settles board was none (settles_behind board h.offers) h.settles) in
    subst (λ (xs : List Act). Holds first (settles_acts xs ids) (offers_acts xs o) now) (sym told)
    (holds_quiet (in_sends desk row.act.send ++ drives Entry row.act.drive) rest (record { offers = settled_offers row.act.keep h.offers; settles = settles }))

in_hands : (desk : Desk) (was now : Option Record) (act : InAct) → InShape was now act → are_hand (in_told desk act) ≡ false
in_hands desk was now act (settles_none deed keep less) = (in_quiet desk act deed).hands
in_hands desk was now act (settles_it board deed keep held none) =
    ap (λ (d : Option InDeed). are_hand (in_does d ++ (in_sends desk act.send ++ drives Entry act.drive))) deed ∙ (quiet_both (quiet_in_send desk act.send) (quiet_drive Entry act.drive)).hands

pub intake_walks : (desk : Desk) (body : Body) (input : InInput) (found : Option InRow) → IsNoStart input → intake_row body.intake input ≡ found → Walks body (intake_row_did desk body found)
intake_walks desk body input None plain is = walks_still body
intake_walks desk body input (Some row) plain is =
    let shape = in_shape (in_row_is body.intake input row is) plain in
    record { each = λ first ids o h. in_holds desk body row shape h; hands = in_hands desk (held_in body.intake.phase) (held_in row.after.phase) row.act shape }

-- What a row of the halves' tables does to the offer, to the places and to what the machine owns.
use Rattle.std.proofs.Common.{◌≡◌, ◌+◌, ◌≤◌, ℕ, Bool, true, false, List, [], ◌∷◌, ◌++◌, Option, Some, None, length, refl, sym, ap, arith, length-append}
use Rattle.std.proofs.lemmas.List.{map-append}
use Rattle.board_record.specs.declared.record.Record.{Record}
use Rattle.handover_out.specs.declared.input.OutInput.{OutInput}
use Rattle.handover_out.specs.declared.input.OutInput.TheVariants.{Offer, Start}
use Rattle.handover_out.specs.declared.phase.Phase.TheVariants as out_phase
use Rattle.handover_out.specs.State.{OutState, held}
use Rattle.handover_out.specs.Row.{OutRow}
use Rattle.handover_out.specs.Table.{IsOutletRow, offers, revokes, gets_ready, gets_unready, opens, refuses, stop_home, begun_idle, left_idle, full_idle, back_idle, taken_idle, fault_idle, closed_idle, back_stuck, back_stopped, back_unlinked, fault_home, closed_home}
use Rattle.handover_in.specs.declared.input.InInput.{InInput}
use Rattle.handover_in.specs.declared.input.InInput.TheVariants as in_input
use Rattle.handover_in.specs.State.{InState, held as in_held}
use Rattle.handover_in.specs.Row.{InRow}
use Rattle.handover_in.specs.Table.{IsIntakeRow, starts_transport, hears_keep, full_heard, stopped_keep, waiting_settles, stands_settles, closed_between, closed_inside, closed_gone}
use Rattle.node_core.specs.Desk.{Desk}
use Rattle.node_core.specs.Told.{out_told, in_told}
use Rattle.node_core.specs.Halves.{given_back, settled, opening_board, behind_opening}
use Rattle.node_core.specs.Places.{place_for}
use Rattle.node_core.specs.Own.{own_after, own_by, ids_of, id_of}
use Rattle.node_core.proofs.Offers.{Offers, offers_none, offers_front}

-- ---- the outlet, at an input that is neither an offer nor a start

abbrev pub IsPlain : OutInput → Type 0
IsPlain (Offer _) = ⊥
IsPlain (Start _ _) = ⊥
IsPlain _ = Unit {0}

pub row_offers : {s : OutState} {input : OutInput} {r : OutRow} {kept : List Record} → Offers s.phase s.offered kept → IsOutletRow s input r → IsPlain input → Offers r.after.phase r.after.offered (given_back r.act.back kept)
row_offers offers_front revokes plain = offers_none
row_offers offers_front gets_ready plain = offers_front
row_offers offers_front gets_unready plain = offers_front
row_offers offers_front (opens _) plain = absurd plain
row_offers offers_front (refuses _) plain = absurd plain
row_offers offers_front begun_idle plain = offers_front
row_offers offers_front left_idle plain = offers_front
row_offers offers_front full_idle plain = offers_front
row_offers offers_front back_idle plain = offers_front
row_offers offers_front taken_idle plain = offers_front
row_offers offers_front fault_idle plain = offers_front
row_offers offers_front closed_idle plain = offers_none
row_offers offers_none offers plain = absurd plain
row_offers offers_none gets_ready plain = offers_none
row_offers offers_none _ plain = offers_none

-- the places of the kept records and of the outlet
abbrev pub out_places : List Record → OutState → ℕ
out_places kept s = length kept + place_for (held s)

more_is_one : (board : Record) (kept : List Record) → length (board ∷ kept) + 0 ≤ length kept + 1
more_is_one board kept = omega arith

pub row_places : {s : OutState} {input : OutInput} {r : OutRow} (kept : List Record) → IsOutletRow s input r → IsPlain input → out_places (given_back r.act.back kept) r.after ≤ out_places kept s
row_places kept offers plain = absurd plain
row_places kept (opens _) plain = absurd plain
row_places kept (refuses _) plain = absurd plain
row_places kept (stop_home {board = b} _) plain = more_is_one b kept
row_places kept (back_stuck {board = b}) plain = more_is_one b kept
row_places kept (back_stopped {board = b}) plain = more_is_one b kept
row_places kept (back_unlinked {board = b}) plain = more_is_one b kept
row_places kept (fault_home {board = b}) plain = more_is_one b kept
row_places kept (closed_home {board = b}) plain = more_is_one b kept
row_places kept _ plain = omega arith

pub row_owns : (desk : Desk) (intake : InState) {s : OutState} {input : OutInput} {r : OutRow} (kept : List Record) → IsOutletRow s input r → IsPlain input
    → own_after (own_by kept s intake) (out_told desk kept r.act) ≡ own_by (given_back r.act.back kept) r.after intake
row_owns desk intake kept offers plain = absurd plain
row_owns desk intake kept (opens _) plain = absurd plain
row_owns desk intake kept revokes plain = refl
row_owns desk intake kept _ plain = refl

-- ---- the outlet, at an offer and at a start

pub offer_offers : {s : OutState} {id : ℕ} {r : OutRow} (kept : List Record) → IsOutletRow s (Offer id) r → Offers out_phase.Idle (Some id) kept → Offers r.after.phase r.after.offered (given_back r.act.back kept)
offer_offers kept offers h = h

pub offer_places : {s : OutState} {id : ℕ} {r : OutRow} (kept : List Record) → IsOutletRow s (Offer id) r → out_places (given_back r.act.back kept) r.after ≤ out_places kept s
offer_places kept offers = omega arith

pub offer_owns : (desk : Desk) (intake : InState) {s : OutState} {id : ℕ} {r : OutRow} (kept : List Record) → IsOutletRow s (Offer id) r
    → own_after (own_by kept s intake) (out_told desk kept r.act) ≡ own_by (given_back r.act.back kept) r.after intake
offer_owns desk intake [] offers = refl
offer_owns desk intake (b ∷ bs) offers = refl

pub start_offers : {s : OutState} {id : ℕ} {board : Option Record} {r : OutRow} (kept : List Record) → IsOutletRow s (Start id board) r → Offers r.after.phase r.after.offered kept
start_offers kept (opens _) = offers_none
start_offers kept (refuses _) = offers_none

pub start_places : {s : OutState} {id : ℕ} {r : OutRow} (opening : Bool) (kept : List Record) → IsOutletRow s (Start id (opening_board opening kept)) r
    → out_places (given_back r.act.back (behind_opening opening kept)) r.after ≤ out_places kept s
start_places false kept (refuses _) = omega arith
start_places true [] (refuses _) = omega arith
start_places true (b ∷ bs) (opens _) = omega arith

pub start_owns : (desk : Desk) (intake : InState) {s : OutState} {id : ℕ} {r : OutRow} (opening : Bool) (kept : List Record) → IsOutletRow s (Start id (opening_board opening kept)) r
    → own_after (own_by kept s intake) (out_told desk (behind_opening opening kept) r.act) ≡ own_by (given_back r.act.back (behind_opening opening kept)) r.after intake
start_owns desk intake false kept (refuses _) = refl
start_owns desk intake true [] (refuses _) = refl
start_owns desk intake true (b ∷ bs) (opens _) = refl

-- ---- the intake

abbrev pub IsNoStart : InInput → Type 0
IsNoStart in_input.Start = ⊥
IsNoStart _ = Unit {0}

abbrev pub in_places : List Record → InState → ℕ
in_places kept s = length kept + place_for (in_held s)

one_behind : (board : Record) (kept : List Record) → length (kept ++ board ∷ []) + 0 ≤ length kept + 1
one_behind board kept = omega (arith, length-append kept (board ∷ []))

pub in_row_places : {s : InState} {input : InInput} {r : InRow} (kept : List Record) → IsIntakeRow s input r → IsNoStart input → in_places (settled r.act.keep kept) r.after ≤ in_places kept s
in_row_places kept starts_transport plain = absurd plain
in_row_places kept (hears_keep {board = b} _ _) plain = one_behind b kept
in_row_places kept (full_heard {board = b}) plain = one_behind b kept
in_row_places kept (stopped_keep {board = b} _ _) plain = one_behind b kept
in_row_places kept (waiting_settles {board = b} _ _) plain = one_behind b kept
in_row_places kept (stands_settles {board = b}) plain = one_behind b kept
in_row_places kept _ plain = omega arith

settles_own : (board : Record) (kept : List Record) → ids_of kept ++ board.id ∷ [] ≡ ids_of (kept ++ board ∷ [])
settles_own board kept = sym (map-append (λ (b : Record). b.id) kept (board ∷ []))

pub in_row_owns : (desk : Desk) (outlet : OutState) {s : InState} {input : InInput} {r : InRow} (kept : List Record) → IsIntakeRow s input r
    → own_after (own_by kept outlet s) (in_told desk r.act) ≡ own_by (settled r.act.keep kept) outlet r.after
in_row_owns desk outlet kept (hears_keep {board = b} _ _) = ap (λ (ids : List ℕ). record { kept = ids; held = id_of (held outlet); taking = None }) (settles_own b kept)
in_row_owns desk outlet kept (full_heard {board = b}) = ap (λ (ids : List ℕ). record { kept = ids; held = id_of (held outlet); taking = None }) (settles_own b kept)
in_row_owns desk outlet kept (stopped_keep {board = b} _ _) = ap (λ (ids : List ℕ). record { kept = ids; held = id_of (held outlet); taking = None }) (settles_own b kept)
in_row_owns desk outlet kept (waiting_settles {board = b} _ _) = ap (λ (ids : List ℕ). record { kept = ids; held = id_of (held outlet); taking = None }) (settles_own b kept)
in_row_owns desk outlet kept (stands_settles {board = b}) = ap (λ (ids : List ℕ). record { kept = ids; held = id_of (held outlet); taking = None }) (settles_own b kept)
in_row_owns desk outlet kept (closed_between {heard = true}) = refl
in_row_owns desk outlet kept (closed_between {heard = false}) = refl
in_row_owns desk outlet kept (closed_inside {heard = true}) = refl
in_row_owns desk outlet kept (closed_inside {heard = false}) = refl
in_row_owns desk outlet kept (closed_gone {heard = true}) = refl
in_row_owns desk outlet kept (closed_gone {heard = false}) = refl
in_row_owns desk outlet kept _ = refl

-- What is offered is the front of kept, as a family.
use Rattle.std.proofs.Common.{◌≡◌, ℕ, true, List, [], ◌∷◌, Option, Some, None, refl, subst}
use Rattle.std.specs.Prelude.{IfSome, slice_get}
use Rattle.std.proofs.lemmas.Bool.{false≢true}
use Rattle.board_record.specs.declared.record.Record.{Record}
use Rattle.handover_out.specs.declared.phase.Phase.{Phase}
use Rattle.handover_out.specs.declared.phase.Phase.TheVariants.{Idle, Moving, Stuck, Ended}
use Rattle.handover_out.specs.State.{is_idle_phase}
use Rattle.node_core.specs.declared.lane.Body.{Body}
use Rattle.node_core.specs.Halves.{OffersFront, front_id, settled}

pub data Offers : Phase → Option ℕ → List Record → Type 0 where
  offers_none : {phase : Phase} {kept : List Record} → Offers phase None kept
  offers_front : {board : Record} {boards : List Record} → Offers Idle (Some board.id) (board ∷ boards)

-- what a body offers
abbrev pub OffersOf : Body → Type 0
OffersOf body = Offers body.outlet.phase body.outlet.offered body.kept

offers_from : (phase : Phase) (offered : Option ℕ) (kept : List Record) → IfSome offered (λ id. (is_idle_phase phase ≡ true) × (front_id kept ≡ Some id)) → Offers phase offered kept
offers_from phase None kept h = offers_none
offers_from Idle (Some id) [] h = cc
offers_from Idle (Some id) (b ∷ bs) h = let is : b.id ≡ id = cc in subst (λ (i : ℕ). Offers Idle (Some i) (b ∷ bs)) is offers_front
offers_from (Moving board begun) (Some id) kept h = absurd (false≢true h.0)
offers_from (Stuck board linked stopped) (Some id) kept h = absurd (false≢true h.0)
offers_from (Ended mine) (Some id) kept h = absurd (false≢true h.0)

front_from : (phase : Phase) (offered : Option ℕ) (kept : List Record) → Offers phase offered kept → IfSome offered (λ id. (is_idle_phase phase ≡ true) × (front_id kept ≡ Some id))
front_from phase offered kept offers_none = tt
front_from phase offered kept offers_front = (refl, refl)

pub to_offers : (body : Body) → OffersFront body → OffersOf body
to_offers body h = offers_from body.outlet.phase body.outlet.offered body.kept h

pub from_offers : (body : Body) → OffersOf body → OffersFront body
from_offers body h = front_from body.outlet.phase body.outlet.offered body.kept h

pub settled_offers : (phase : Phase) (offered : Option ℕ) (kept : List Record) (board : Option Record) → Offers phase offered kept → Offers phase offered (settled board kept)
settled_offers phase offered kept None h = h
settled_offers phase offered kept (Some board) offers_none = offers_none
settled_offers phase offered kept (Some board) offers_front = offers_front

pub front_offers : (kept : List Record) (front : Record) → slice_get kept 0 ≡ Some front → Offers Idle (Some front.id) kept
front_offers [] front is = cc
front_offers (b ∷ bs) front is = let same : b ≡ front = cc in subst (λ (f : Record). Offers Idle (Some f.id) (b ∷ bs)) same offers_front

pub nothing_offered : (phase : Phase) (offered : Option ℕ) (kept : List Record) → offered ≡ None → Offers phase offered kept
nothing_offered phase None kept is = offers_none
nothing_offered phase (Some id) kept is = cc

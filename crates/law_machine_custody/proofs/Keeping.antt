-- What a machine offers and keeps, in the words of the relation.
use Rattle.std.proofs.Common.{Bool, List, None, Option, Some, [], false, map, refl, remove, subst, suc, sym, true, zero, ℕ, ◌++◌, ◌∷◌, ◌≡◌}
use Rattle.board_record.specs.declared.record.Record.{Record}
use Rattle.line_world.specs.FloorPlan.{place_of, without_board}
use Rattle.line_world.specs.declared.board.Board.{Board}
use Rattle.handover_out.specs.declared.phase.Phase.{Phase as Out}
use Rattle.handover_in.specs.declared.phase.Phase.{Phase as In}
use Rattle.node_core.specs.Halves.{behind_opening, opening_board}
use Rattle.node_core.specs.declared.lane.Body.{Body as Machine}
use Rattle.node_core.proofs.Offers.{Offers, OffersOf, offers_front, offers_none}
use Rattle.law_custody.specs.Contents.{Kept, OffersFront, front_if, kept_first, kept_later, offers_front as is_front, offers_nothing}
use Rattle.law_custody.specs.Pair.{Body, back_to, board_of}
use Rattle.law_custody.specs.Place.{Place}
use Rattle.law_machine_custody.specs.Good.{Lies, lies_first, lies_later}

offers_it : {o : Out} {offered : Option ℕ} {kept : List Record} → Offers o offered kept → OffersFront offered kept
offers_it offers_none = offers_nothing
offers_it offers_front = is_front

pub offers_the_front : (body : Machine) → OffersOf body → OffersFront body.outlet.offered body.kept
offers_the_front body offers = offers_it offers

pub front_found : (test : Bool) (kept : List Record) → opening_board test kept ≡ front_if test kept
front_found true [] = refl
front_found true (r ∷ rs) = refl
front_found false kept = refl

pub front_brought : (test : Bool) (kept : List Record) → back_to (opening_board test kept) (behind_opening test kept) ≡ kept
front_brought true [] = refl
front_brought true (r ∷ rs) = refl
front_brought false kept = refl

-- ---- a kept board lies on the floor

pub lies_behind : (x : ℕ) (fs bs : List Board) → Lies x bs → Lies x (fs ++ bs)
lies_behind x [] bs l = l
lies_behind x (f ∷ fs) bs l = lies_later (lies_behind x fs bs l)

pub lies_kept : {x : ℕ} {kept : List Record} (bs : List Board) → Kept x kept → Lies x (map board_of kept ++ bs)
lies_kept bs kept_first = lies_first
lies_kept bs (kept_later k) = lies_later (lies_kept bs k)

pub kept_lies : {x : ℕ} {o : Out} {p : Place} {kept : List Record} {i : In} {q : Place} {boards : List Board} → Kept x kept → Body o p kept i q boards → Lies x boards
kept_lies {x = x} k b = subst (λ bs. Lies x bs) (sym b.same) (lies_behind x _ _ (lies_kept _ k))

-- ---- what lies there without a board lay there

lies_less : {x : ℕ} (bs : List Board) (place : ℕ) → Lies x (remove bs place) → Lies x bs
lies_less [] zero l = l
lies_less [] (suc place) l = l
lies_less (b ∷ bs) zero l = lies_later l
lies_less (b ∷ bs) (suc place) lies_first = lies_first
lies_less (b ∷ bs) (suc place) (lies_later l) = lies_later (lies_less bs place l)

pub lies_without : {x : ℕ} (id : ℕ) (bs : List Board) → Lies x (without_board id bs) → Lies x bs
lies_without {x = x} id bs = by (place_of id bs) where
  by : (found : Option ℕ) → Lies x (elim found [ None ↦ bs | Some place ↦ remove bs place ]) → Lies x bs
  by None l = l
  by (Some place) l = lies_less bs place l

-- What an offer in flight has to do with the boards that the upstream machine keeps.
use Rattle.std.specs.Prelude.{Bool, List, None, Option, Some, [], false, true, ℕ, ◌∷◌, ◌≡◌, ◌≢◌}
use Rattle.line_base.specs.declared.states.Transfer.{Transfer}
use Rattle.board_record.specs.declared.record.Record.{Record}
use Rattle.handover_out.specs.State.{OutState, board_of_phase as held_out, is_id}
use Rattle.handover_in.specs.State.{board_of_phase as held_in, passes_offers_over}
use Rattle.handover_in.specs.declared.phase.Phase.{Phase as In}
use Rattle.law_custody.specs.Words.{BoardAvailable, DownWord, RevokeBoardAvailable, TransportFinished, UpWord, UpstreamService, starts_in}

-- each offer in flight that will not be passed over has the property Q. The flag: offers are
-- passed over until an end of a transfer is heard
pub data OpenAll (Q : Record → Type 0) : Bool → List DownWord → Type 0 where
  open_none : {b : Bool} → OpenAll Q b []
  open_new : {r : Record} {ws : List DownWord} → Q r → OpenAll Q false ws
      → OpenAll Q false (BoardAvailable r ∷ ws)
  open_passed : {r : Record} {ws : List DownWord} → OpenAll Q true ws
      → OpenAll Q true (BoardAvailable r ∷ ws)
  open_back : {b : Bool} {ws : List DownWord} → OpenAll Q b ws
      → OpenAll Q b (RevokeBoardAvailable ∷ ws)
  open_end : {b : Bool} {e : Transfer} {x : ℕ} {ws : List DownWord} → OpenAll Q false ws
      → OpenAll Q b (TransportFinished e x ∷ ws)
  open_service : {b : Bool} {ws : List DownWord} → OpenAll Q b ws
      → OpenAll Q b (UpstreamService ∷ ws)

-- and so has the offer that was heard
pub data OfferIs (Q : Record → Type 0) : Option Record → Type 0 where
  no_offer : OfferIs Q None
  offer_is : {r : Record} → Q r → OfferIs Q (Some r)

-- a board with this id is kept
pub data Kept : ℕ → List Record → Type 0 where
  kept_first : {r : Record} {ks : List Record} → Kept r.id (r ∷ ks)
  kept_later : {x : ℕ} {r : Record} {ks : List Record} → Kept x ks → Kept x (r ∷ ks)

-- the board of this id stands in front of the kept ones, and was offered last
pub data Foremost : ℕ → Option ℕ → List Record → Type 0 where
  foremost : {r : Record} {ks : List Record} → Foremost r.id (Some r.id) (r ∷ ks)

-- an offered record is that of the touched front of the kept boards, or its id is on the floor no
-- more; once the link doesn't stand, its board is the front or gone. The front was offered last.
-- So a kept board that wasn't is named by nothing. `Gone` is a fact over the whole line: the id
-- was used, and no board on the floor has it. So it only grows
pub data Named (Gone : ℕ
    → Type 0) : Bool → List Record → Option ℕ → Option ℕ → Record → Type 0 where
  named_front : {r : Record} {ks : List Record}
      → Named Gone true (r ∷ ks) (Some r.id) (Some r.id) r
  named_gone : {b : Bool} {ks : List Record} {t last : Option ℕ} {r : Record} → Gone r.id
      → Named Gone b ks t last r
  named_kept : {ks : List Record} {t last : Option ℕ} {r : Record} → Foremost r.id last ks
      → Named Gone false ks t last r

-- all that is offered on a link, and, while its start is on its way, the record that the intake
-- took
pub record Contents (Gone : ℕ → Type 0) (b : Bool) (kept : List Record)
    (touched last : Option ℕ) (i : In) (f : Option Record) (up : List UpWord)
    (down : List DownWord) : Type 0 where
  pub offers : OpenAll (Named Gone b kept touched last) (passes_offers_over i) down
  pub offer : OfferIs (Named Gone b kept touched last) f
  pub start : (r : Record) → b ≡ true → held_in i ≡ Some r → starts_in up ≢ []
      → Named Gone true kept touched last r

-- what is offered was offered last, and so was what the outlet holds
pub record IsRecent (last : Option ℕ) (s : OutState) : Type 0 where
  pub offered : (id : ℕ) → s.offered ≡ Some id → last ≡ Some id
  pub held : (r : Record) → held_out s.phase ≡ Some r → last ≡ Some r.id

-- what is offered is the front of the kept boards. This holds after each event but a removal or a
-- replacement of the front, which the revocation of the same step mends
pub data OffersFront : Option ℕ → List Record → Type 0 where
  offers_nothing : {ks : List Record} → OffersFront None ks
  offers_front : {r : Record} {ks : List Record} → OffersFront (Some r.id) (r ∷ ks)

-- the record that a machine brings to a start: the front of its kept boards, where that board is
-- offered
pub data Looks : Option ℕ → List Record → ℕ → Option Record → Type 0 where
  looks_front : {o : Option ℕ} {q : Record} {ks : List Record} {z : ℕ} → is_id o z ≡ true
      → Looks o (q ∷ ks) z (Some q)
  looks_past : {o : Option ℕ} {ks : List Record} {z : ℕ} → is_id o z ≡ false → Looks o ks z None

-- the front, where a test passes: what a machine brings to a start that would open its outlet
abbrev pub front_if : Bool → List Record → Option Record
front_if true (q ∷ ks) = Some q
front_if true [] = None
front_if false ks = None

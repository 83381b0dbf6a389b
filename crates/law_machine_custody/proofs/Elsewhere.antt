-- The board that an outlet holds is none of those that its machine keeps.
use Rattle.std.proofs.Common.{Bool, List, None, Option, Some, [], ap, eqb-true, false, map, ne_eqb, refl, subst, sym, true, ℕ, ◌++◌, ◌==◌, ◌∙◌, ◌∷◌, ◌≡◌, if◌then◌else◌}
use Rattle.board_record.specs.declared.record.Record.{Record}
use Rattle.board_record.specs.declared.sensed.Sensed.{Sensed}
use Rattle.line_world.specs.declared.board.Board.{Board}
use Rattle.handover_out.specs.State.{board_of_phase as held_out}
use Rattle.handover_out.specs.declared.phase.Phase.{Phase as Out}
use Rattle.handover_in.specs.State.{board_of_phase as held_in}
use Rattle.handover_in.specs.declared.phase.Phase.{Phase as In}
use Rattle.node_core.specs.Boards.{is_kept}
use Rattle.node_core.specs.declared.lane.Body.{Body as Machine}
use Rattle.law_custody.specs.Contents.{Kept, kept_first, kept_later}
use Rattle.law_custody.specs.Hands.{IsOther}
use Rattle.law_custody.specs.Pair.{Body, Ghost, board_of, part}
use Rattle.law_custody.specs.Place.{Place, is_inside, is_upstream}
use Rattle.law_machine_custody.specs.Scene.{Scene}
use Rattle.law_machine_custody.specs.Good.{Afar, Good}
use Rattle.law_machine_custody.specs.Unique.{IsApart}
use Rattle.law_machine_custody.proofs.Keeping.{kept_lies, lies_kept}

-- what an outlet holds stands first, where it is upstream
first_of_all : {o : Out} {i : In} {q : Place} {kept : List Record} {boards : List Board} (p : Place) (r : Record) → is_upstream p ≡ true → held_out o ≡ Some r → Body o p kept i q boards
    → boards ≡ board_of r ∷ (map board_of kept ++ part (held_in i) (is_inside q))
first_of_all {o = o} {i = i} {q = q} {kept = kept} p r up held b =
    b.same ∙ ap (λ (t : Bool). part (held_out o) t ++ (map board_of kept ++ part (held_in i) (is_inside q))) up ∙ ap (λ (h : Option Record). part h true ++ (map board_of kept ++ part (held_in i) (is_inside q))) held

apart_at : {afar : Afar} {above : List Record} {us : List Sensed} {ga gb : Ghost} {body : Machine} {c : Scene} (r : Record) (up : Bool) → is_upstream gb.place ≡ up → held_out body.outlet.phase ≡ Some r
    → Good afar above us ga gb body c → IsApart afar c → Kept r.id body.kept → ⊥
apart_at {gb = gb} r true is held g u kept = u.distinct r.id _ (first_of_all gb.place r is held g.boards) (lies_kept _ kept)
apart_at r false is held g u kept = u.apart r.id (g.away r held is) (kept_lies kept g.boards)

held_apart : {afar : Afar} {above : List Record} {us : List Sensed} {ga gb : Ghost} {body : Machine} {c : Scene} (r : Record) → held_out body.outlet.phase ≡ Some r
    → Good afar above us ga gb body c → IsApart afar c → Kept r.id body.kept → ⊥
held_apart {gb = gb} r held g u kept = apart_at r (is_upstream gb.place) refl held g u kept

-- ---- in the words of the changes by hand

kept_step : (id : ℕ) (board : Record) (boards : List Record) (test : Bool) → (board.id == id) ≡ test → (if test then true else is_kept id boards) ≡ true → (is_kept id boards ≡ true → Kept id boards) → Kept id (board ∷ boards)
kept_step id board boards true same there later = subst (λ (x : ℕ). Kept x (board ∷ boards)) (eqb-true board.id id same) kept_first
kept_step id board boards false same there later = kept_later (later there)

kept_of : (id : ℕ) (kept : List Record) → is_kept id kept ≡ true → Kept id kept
kept_of id [] there = cc
kept_of id (board ∷ boards) there = kept_step id board boards (board.id == id) refl there (kept_of id boards)

other_by : (q r : Record) → (q.id ≡ r.id → ⊥) → IsOther q (Some r)
other_by q r differ = ne_eqb r.id q.id (λ is. differ (sym is))

pub apart_from : (q : Record) (held : Option Record) → ((r : Record) → held ≡ Some r → q.id ≡ r.id → ⊥) → IsOther q held
apart_from q None differ = tt
apart_from q (Some r) differ = other_by q r (differ r refl)

pub is_elsewhere : {afar : Afar} {above : List Record} {us : List Sensed} {ga gb : Ghost} {body : Machine} {c : Scene} (id : ℕ) → is_kept id body.kept ≡ true
    → Good afar above us ga gb body c → IsApart afar c → (q : Record) → q.id ≡ id → IsOther q (held_out body.outlet.phase)
is_elsewhere {body = body} id there g u q is =
    apart_from q (held_out body.outlet.phase) (λ r held same. held_apart r held g u (subst (λ (x : ℕ). Kept x body.kept) (sym is ∙ same) (kept_of id body.kept there)))

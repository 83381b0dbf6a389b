-- The last call sets the levels, and the edges lead to them.
use Rattle.std.proofs.Common.{◌≡◌, refl, Bool, true, false, List, [], ◌∷◌, ◌++◌, unwrap_or, ◌↔◌, IsNone}
use Rattle.smema_signals.specs.declared.levels.Levels.{Levels}
use Rattle.smema_signals.specs.Edge.{edge, edges, following}
use Rattle.smema_signals.specs.Giver.{GiverCall, giver_levels_from, set_by_giver}
use Rattle.smema_signals.specs.Taker.{TakerCall, taker_levels_from, set_by_taker}

pub last_giver_call : (before : Levels) (calls : List GiverCall) (call : GiverCall) → giver_levels_from before (calls ++ call ∷ []) ≡ set_by_giver call
last_giver_call before [] call = refl
last_giver_call before (first ∷ calls) call = last_giver_call (set_by_giver first) calls call

pub last_taker_call : (before : Levels) (calls : List TakerCall) (call : TakerCall) → taker_levels_from before (calls ++ call ∷ []) ≡ set_by_taker call
last_taker_call before [] call = refl
last_taker_call before (first ∷ calls) call = last_taker_call (set_by_taker first) calls call

-- an edge leads from the old level to the new
pub edge_leads : (old new : Bool) → unwrap_or (edge old new) old ≡ new
edge_leads true true = refl
edge_leads true false = refl
edge_leads false true = refl
edge_leads false false = refl

-- there is no edge exactly where the level stayed
pub edge_exactly : (old new : Bool) → IsNone (edge old new) ↔ (old ≡ new)
edge_exactly true true = (λ _. refl, λ _. refl)
edge_exactly true false = (λ h. cc, λ h. cc)
edge_exactly false true = (λ h. cc, λ h. cc)
edge_exactly false false = (λ _. refl, λ _. refl)

-- who follows the edges knows the levels
pub follows_levels : (old new : Levels) → following old (edges old new) ≡ new
follows_levels old new = rw (edge_leads old.first new.first, edge_leads old.second new.second) refl

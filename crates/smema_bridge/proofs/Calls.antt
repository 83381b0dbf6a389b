-- The levels are those of the last calls, and the edges lead to them.
use Rattle.std.proofs.Common.{◌≡◌, refl, sym, ap, ◌∙◌, Bool, List, [], ◌∷◌, ◌++◌, if◌then◌else◌}
use Rattle.smema_signals.proofs.Calls.{edge_leads}
use Rattle.smema_bridge.specs.declared.line.SegmentLine.{SegmentLine}
use Rattle.smema_bridge.specs.declared.line.SegmentLine.TheVariants.{Ready, Available, Failed}
use Rattle.smema_bridge.specs.Levels.{BridgeLevels, OwnLevels, SegmentLevels}
use Rattle.smema_bridge.specs.Segment.{level_of, is_same, with_level}
use Rattle.smema_bridge.specs.Signals.{bridge_edges, following}
use Rattle.smema_bridge.specs.Calls.{BridgeCall, level, settle, bridge_off, bridge_after, bridge_after_call, bridge_after_from, last_level, last_told}

-- one call more
pub bridge_after-append : (before : BridgeLevels) (calls : List BridgeCall) (call : BridgeCall) → bridge_after_from before (calls ++ call ∷ []) ≡ bridge_after_call (bridge_after_from before calls) call
bridge_after-append before [] call = refl
bridge_after-append before (first ∷ calls) call = bridge_after-append (bridge_after_call before first) calls call

-- a level that is set is that of its signal, and those of the others stay
pub level_of-with_level : (line other : SegmentLine) (on : Bool) (segment : SegmentLevels) → level_of line (with_level other on segment) ≡ (if is_same line other then on else level_of line segment)
level_of-with_level Ready Ready on segment = refl
level_of-with_level Ready Available on segment = refl
level_of-with_level Ready Failed on segment = refl
level_of-with_level Available Ready on segment = refl
level_of-with_level Available Available on segment = refl
level_of-with_level Available Failed on segment = refl
level_of-with_level Failed Ready on segment = refl
level_of-with_level Failed Available on segment = refl
level_of-with_level Failed Failed on segment = refl

pub keeps_levels : (line : SegmentLine) (before : BridgeLevels) (calls : List BridgeCall) → level_of line (bridge_after_from before calls).segment ≡ last_level line (level_of line before.segment) calls
keeps_levels line before [] = refl
keeps_levels line before (settle taking moving ∷ calls) = keeps_levels line (bridge_after_call before (settle taking moving)) calls
keeps_levels line before (level other on ∷ calls) =
    keeps_levels line (bridge_after_call before (level other on)) calls
    ∙ ap (λ (now : Bool). last_level line now calls) (level_of-with_level line other on before.segment)

pub keeps_told : (before : BridgeLevels) (calls : List BridgeCall) → (bridge_after_from before calls).own ≡ last_told before.own calls
keeps_told before [] = refl
keeps_told before (settle taking moving ∷ calls) = keeps_told (bridge_after_call before (settle taking moving)) calls
keeps_told before (level line on ∷ calls) = keeps_told (bridge_after_call before (level line on)) calls

pub follows_levels : (old new : OwnLevels) → following old (bridge_edges old new) ≡ new
follows_levels old new = rw (edge_leads old.available new.available, edge_leads old.failed new.failed, edge_leads old.ready new.ready) refl

-- the levels after all calls and one more
pub one_more : (old new : BridgeLevels) (calls : List BridgeCall) (call : BridgeCall) → new ≡ bridge_after_call old call → old ≡ bridge_after calls → new ≡ bridge_after (calls ++ call ∷ [])
one_more old new calls call does was =
    does
    ∙ ap (λ (b : BridgeLevels). bridge_after_call b call) was
    ∙ sym (bridge_after-append bridge_off calls call)

-- The signal of the end that takes boards, by the calls that were made.
use Rattle.std.specs.Prelude.{Bool, true, false, List, [], ◌∷◌}
use Rattle.smema_signals.specs.declared.levels.Levels.{Levels}

-- what a taker is told: there is a free place; there is none
pub data TakerCall : Type 0 where
  free : TakerCall
  full : TakerCall

-- the levels with Machine Ready on or off
abbrev pub with_ready : Bool → Levels
with_ready ready = record { first = ready; second = false }

-- the levels that a call sets
abbrev pub set_by_taker : TakerCall → Levels
set_by_taker free = with_ready true
set_by_taker full = with_ready false

-- the levels after some calls, from what they were before
abbrev pub taker_levels_from : Levels → List TakerCall → Levels
taker_levels_from before [] = before
taker_levels_from before (call ∷ calls) = taker_levels_from (set_by_taker call) calls

-- the levels after all calls: those that the last call sets, and off before the first
abbrev pub taker_levels : List TakerCall → Levels
taker_levels calls = taker_levels_from (with_ready false) calls

-- The signals of the end that gives boards, by the calls that were made.
use Rattle.std.specs.Prelude.{Bool, true, false, List, [], ◌∷◌}
use Rattle.smema_signals.specs.declared.levels.Levels.{Levels}

-- what a giver is told: a board is there, failed or not; the board has left
pub data GiverCall : Type 0 where
  offer : Bool → GiverCall
  left : GiverCall

-- nothing is available
abbrev pub no_board : Levels
no_board = record { first = false; second = false }

-- a board is available, failed or not
abbrev pub offering : Bool → Levels
offering failed = record { first = true; second = failed }

-- the levels that a call sets
abbrev pub set_by_giver : GiverCall → Levels
set_by_giver (offer failed) = offering failed
set_by_giver left = no_board

-- the levels after some calls, from what they were before
abbrev pub giver_levels_from : Levels → List GiverCall → Levels
giver_levels_from before [] = before
giver_levels_from before (call ∷ calls) = giver_levels_from (set_by_giver call) calls

-- the levels after all calls: those that the last call sets, and off before the first
abbrev pub giver_levels : List GiverCall → Levels
giver_levels calls = giver_levels_from no_board calls

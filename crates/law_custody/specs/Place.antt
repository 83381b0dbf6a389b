-- Where the board of a handover is. No machine keeps it: it joins what the two sides of a gap can
-- know.
use Rattle.std.specs.Prelude.{Bool, false, true}
use Rattle.line_world.specs.declared.moves.Move.{Move}
use Rattle.line_world.specs.declared.moves.Move.TheVariants as moves

-- upstream, and never begun in this handover; upstream again, or removed there; begun in the gap;
-- wholly across it; inside downstream; taken out by hand while it was begun; taken out by hand
-- while it was across
pub data Place : Type 0 where
  Fresh : Place
  Home : Place
  InGap : Place
  Across : Place
  Inside : Place
  Lost : Place
  Stolen : Place

-- it doesn't lie begun in the gap
pub data NotBegun : Place → Type 0 where
  not_begun_fresh : NotBegun Fresh
  not_begun_home : NotBegun Home
  not_begun_across : NotBegun Across
  not_begun_inside : NotBegun Inside
  not_begun_lost : NotBegun Lost
  not_begun_stolen : NotBegun Stolen

-- it doesn't lie across the gap
pub data NotAcross : Place → Type 0 where
  not_across_fresh : NotAcross Fresh
  not_across_home : NotAcross Home
  not_across_in_gap : NotAcross InGap
  not_across_inside : NotAcross Inside
  not_across_lost : NotAcross Lost
  not_across_stolen : NotAcross Stolen

-- it has left the upstream machine
pub data Beyond : Place → Type 0 where
  beyond_across : Beyond Across
  beyond_inside : Beyond Inside

-- it is in the upstream machine's list of boards
abbrev pub is_upstream : Place → Bool
is_upstream Fresh = true
is_upstream Home = true
is_upstream _ = false

-- it is in the downstream machine's list of boards
abbrev pub is_inside : Place → Bool
is_inside Inside = true
is_inside _ = false

-- it was taken out by hand, and is nowhere on the floor
abbrev pub is_away : Place → Bool
is_away Lost = true
is_away Stolen = true
is_away _ = false

-- where a move on the floor takes it from, and to
pub data MovesPlace : Move → Place → Place → Type 0 where
  begins : {p : Place} → MovesPlace moves.Begin p InGap
  leaves : {p : Place} → MovesPlace moves.Left p Across
  enters : MovesPlace moves.Enter Across Inside
  is_handed_in : MovesPlace moves.HandIn Across Inside
  goes_back : MovesPlace moves.Back InGap Home
  is_lost : MovesPlace moves.Take InGap Lost
  is_stolen : MovesPlace moves.Take Across Stolen

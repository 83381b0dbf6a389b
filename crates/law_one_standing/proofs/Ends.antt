-- What there is where a line has no link.
use Rattle.std.proofs.Common.{Bool, arith, false, inl, inr, length, refl, true, ℕ, ◌&&◌, ◌+◌, ◌-◌, ◌≡◌, ◌≤◌, ◌⊎◌}
use Rattle.std.proofs.lemmas.Bool.{leb-true}
use Rattle.std.specs.Prelude.{nat_le, nat_lt}
use Rattle.line_link.specs.Link.{no_link}
use Rattle.line_world.specs.FloorPlan.{FloorPlan, IsWhole, free_gap, gap_at}
use Rattle.line_step.specs.Reasons.{has_link}
use Rattle.line_step.specs.State.{LineState}
use Rattle.line_step.specs.World.{link_at}
use Rattle.line_step.proofs.FloorLaws as floor
use Rattle.line_step.proofs.Numbers.{link_beyond, number_past}
use Rattle.law_one_standing.specs.Carried.{Trace}
use Rattle.law_one_standing.specs.Mirrors.{scene_at}
use Rattle.law_one_standing.specs.Stands.{Stands}
use Rattle.law_one_standing.proofs.RestScene.{IsStillAbove, IsStillBelow}

none_by : (one two : Bool) (link count : ℕ) → nat_le 1 link ≡ one → nat_lt link count ≡ two → (one && two) ≡ false → (link ≡ 0) ⊎ ((1 ≤ link) × (count ≤ link))
none_by true true link count x y both = absurd (cc)
none_by true false link count x y both = inr (leb-true 1 link x, grind (arith, y))
none_by false two link count x y both = inl (grind (arith, x))

pub where_none : (link : ℕ) (s : LineState) → has_link link s ≡ false → (link ≡ 0) ⊎ ((1 ≤ link) × (length s.machines ≤ link))
where_none link s none = none_by (nat_le 1 link) (nat_lt link (length s.machines)) link (length s.machines) refl refl none

link_there_not : (s : LineState) (link : ℕ) → length s.world.links ≡ length s.machines - 1 → (link ≡ 0) ⊎ ((1 ≤ link) × (length s.machines ≤ link)) → link_at link s.world ≡ no_link
link_there_not s link links (inl none) = rw none refl
link_there_not s link links (inr (counted, past)) = link_beyond link s.world (omega (arith, links, counted, past))

pub no_link_at : (s : LineState) (link : ℕ) → length s.world.links ≡ length s.machines - 1 → has_link link s ≡ false → link_at link s.world ≡ no_link
no_link_at s link links none = link_there_not s link links (where_none link s none)

pub gap_there_not : (plan : FloorPlan) (gap count : ℕ) → IsWhole plan → length plan.machines ≡ count → (gap ≡ 0) ⊎ ((1 ≤ gap) × (count ≤ gap)) → gap_at plan gap ≡ free_gap
gap_there_not plan gap count whole many (inl none) = rw none refl
gap_there_not plan gap count whole many (inr (counted, past)) = number_past plan.gaps gap free_gap (omega (arith, whole, many, counted, past))

pub no_gap_at : (s : LineState) (link : ℕ) → floor.Holds s → has_link link s ≡ false → gap_at s.world.floor link ≡ free_gap
no_gap_at s link holds none = gap_there_not s.world.floor link (length s.machines) holds.whole holds.many (where_none link s none)

-- nothing is on its way where there is no link
pub still_at_above : (t : Trace) (s : LineState) (j : ℕ) → Stands t s → has_link j s ≡ false → IsStillAbove (scene_at t s j)
still_at_above t s j st none = record { stands = rw (no_link_at s j st.together.links none) refl; up = (st.rest j none).up; down = (st.rest j none).down }

pub still_at_below : (t : Trace) (s : LineState) (j : ℕ) → Stands t s → has_link (j + 1) s ≡ false → IsStillBelow (scene_at t s j)
still_at_below t s j st none = record { stands = rw (no_link_at s (j + 1) st.together.links none) refl; up = (st.rest (j + 1) none).up; down = (st.rest (j + 1) none).down }

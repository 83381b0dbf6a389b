-- A lane is there exactly where it has a track.
use Rattle.std.proofs.Common.{◌≡◌, ◌∙◌, ◌-◌, ◌<◌, ◌≤◌, ◌&&◌, ℕ, Bool, true, zero, suc, List, [], ◌∷◌, ap, arith, length, refl, subst, sym}
use Rattle.std.specs.Prelude.{IsSomeAnd, Option, None, Some, Err, is_some, nat_le, nat_lt, not, slice_get, slice_index_or, slice_set}
use Rattle.law_lanes.specs.Lanes.{has_lane}
use Rattle.line_report.specs.declared.happening.Reason.{Reason}
use Rattle.line_step.specs.Reasons.{may_do, no_if}
use Rattle.line_engine.specs.Tracks.{lanes_of, states_of, track_in, with_behind}
use Rattle.line_engine.specs.declared.track.Track.{Track}

pub states_wide : (tracks : List Track) → length (states_of tracks) ≡ length tracks
states_wide [] = refl
states_wide (track ∷ tracks) = ap (λ (n : ℕ). suc n) (states_wide tracks)

within_track : (place : ℕ) (tracks : List Track) (own : Track) → slice_get tracks place ≡ Some own → place < length tracks
within_track place [] own there = absurd (cc)
within_track zero (first ∷ tracks) own there = omega arith
within_track (suc place) (first ∷ tracks) own there = let h = within_track place tracks own there in omega (arith, h)

past_track : (place : ℕ) (tracks : List Track) → slice_get tracks place ≡ None → length tracks ≤ place
past_track place [] past = omega arith
past_track zero (first ∷ tracks) past = absurd (cc)
past_track (suc place) (first ∷ tracks) past = let h = past_track place tracks past in omega (arith, h)

has_place : (place : ℕ) (tracks : List Track) (found : Option Track) → slice_get tracks place ≡ found → nat_le (suc place) (length (states_of tracks)) ≡ is_some found
has_place place tracks None is = let h = past_track place tracks is in let w = states_wide tracks in grind (arith, h, w)
has_place place tracks (Some own) is = let h = within_track place tracks own is in let w = states_wide tracks in grind (arith, h, w)

pub has_there : (lane : ℕ) (tracks : List Track) (found : Option Track) → track_in lane tracks ≡ found → has_lane lane (lanes_of tracks) ≡ is_some found
has_there zero tracks found is = ap is_some is
has_there (suc place) tracks found is =
    let some : nat_lt 0 (suc place) ≡ true = grind arith in
    ap (λ (b : Bool). b && nat_le (suc place) (length (states_of tracks))) some ∙ has_place place tracks found is

pub may_be : (lane : ℕ) (tracks : List Track) (own : Track) (reason : Reason) → track_in lane tracks ≡ Some own → no_if (not (has_lane lane (lanes_of tracks))) reason may_do ≡ may_do
may_be lane tracks own reason there = ap (λ (b : Bool). no_if (not b) reason may_do) (has_there lane tracks (Some own) there)

pub may_not_be : (lane : ℕ) (tracks : List Track) (reason : Reason) → track_in lane tracks ≡ None → no_if (not (has_lane lane (lanes_of tracks))) reason may_do ≡ Err reason
may_not_be lane tracks reason there = ap (λ (b : Bool). no_if (not b) reason may_do) (has_there lane tracks None there)

-- ---- a lane behind the first

pub record IsLater (lane : ℕ) (others : List Track) : Type 0 where
  pub place : ℕ
  pub is : lane ≡ suc (suc place)
  pub within : place < length others

later_by : (P : Track → Type 0) (place : ℕ) (others : List Track) (found : Option Track) → slice_get others place ≡ found → IsSomeAnd found P → place < length others
later_by P place others None is some = absurd some
later_by P place others (Some own) is some = within_track place others own is

pub later : (P : Track → Type 0) (lane : ℕ) (first : Track) (others : List Track) → IsSomeAnd (track_in lane (first ∷ others)) P → (lane ≡ 1 → ⊥) → IsLater lane others
later P zero first others some apart = absurd some
later P (suc zero) first others some apart = absurd (apart refl)
later P (suc (suc place)) first others some apart = record { place = place; is = refl; within = later_by P place others (slice_get others place) refl some }

pub later_index : (lane : ℕ) (others : List Track) → IsLater lane others → lane - 2 < length others
later_index lane others l = let is = l.is in let h = l.within in omega (arith, is, h)

less_two : (lane place : ℕ) → lane ≡ suc (suc place) → lane - 2 ≡ place
less_two lane place is = omega (arith, is)

less_one : (lane place : ℕ) → lane ≡ suc (suc place) → lane - 1 ≡ suc place
less_one lane place is = omega (arith, is)

get_at : (others : List Track) (place : ℕ) (own : Track) → place < length others → own ≡ slice_index_or others place own → slice_get others place ≡ Some own
get_at [] place own within at = absurd (omega (arith, within))
get_at (first ∷ others) zero own within at = ap (λ (t : Track). Some t) (sym at)
get_at (first ∷ others) (suc place) own within at = get_at others place own (omega (arith, within)) at

-- what stands in its place is its track
pub later_there : (lane : ℕ) (first : Track) (others : List Track) (own : Track) → IsLater lane others → own ≡ slice_index_or others (lane - 2) own → track_in lane (first ∷ others) ≡ Some own
later_there lane first others own l at =
    ap (λ (n : ℕ). track_in n (first ∷ others)) l.is
    ∙ get_at others l.place own l.within (at ∙ ap (λ (n : ℕ). slice_index_or others n own) (less_two lane l.place l.is))

set_at : (others : List Track) (place : ℕ) (now : Track) → slice_set others place now ≡ with_behind place now others
set_at [] place now = refl
set_at (first ∷ others) zero now = refl
set_at (first ∷ others) (suc place) now = ap (λ (ts : List Track). first ∷ ts) (set_at others place now)

-- and the tracks with another one there
pub later_set : (lane : ℕ) (first now : Track) (others : List Track) → IsLater lane others → first ∷ slice_set others (lane - 2) now ≡ with_behind (lane - 1) now (first ∷ others)
later_set lane first now others l =
    ap (λ (n : ℕ). first ∷ slice_set others n now) (less_two lane l.place l.is)
    ∙ ap (λ (ts : List Track). first ∷ ts) (set_at others l.place now)
    ∙ ap (λ (n : ℕ). with_behind n now (first ∷ others)) (sym (less_one lane l.place l.is))

-- what is known of a lane that is there
ready_by : (P : Track → Type 0) (found : Option Track) (own : Track) → found ≡ Some own → IsSomeAnd found P → P own
ready_by P None own is some = absurd some
ready_by P (Some other) own is some = let same : other ≡ own = cc in subst P same some

pub own_ready : (P : Track → Type 0) (lane : ℕ) (tracks : List Track) (own : Track) → track_in lane tracks ≡ Some own → IsSomeAnd (track_in lane tracks) P → P own
own_ready P lane tracks own there some = ready_by P (track_in lane tracks) own there some

-- the track of a lane that is there
pub record IsHere (P : Track → Type 0) (lane : ℕ) (tracks : List Track) : Type 0 where
  pub own : Track
  pub there : track_in lane tracks ≡ Some own
  pub holds : P own

here_by : (P : Track → Type 0) (lane : ℕ) (tracks : List Track) (found : Option Track) → track_in lane tracks ≡ found → IsSomeAnd found P → IsHere P lane tracks
here_by P lane tracks None is some = absurd some
here_by P lane tracks (Some own) is some = record { own = own; there = is; holds = some }

pub here : (P : Track → Type 0) (lane : ℕ) (tracks : List Track) → IsSomeAnd (track_in lane tracks) P → IsHere P lane tracks
here P lane tracks some = here_by P lane tracks (track_in lane tracks) refl some

pub some_of : (P : Track → Type 0) (lane : ℕ) (tracks : List Track) (own : Track) → track_in lane tracks ≡ Some own → P own → IsSomeAnd (track_in lane tracks) P
some_of P lane tracks own there holds = subst (λ (found : Option Track). IsSomeAnd found P) (sym there) holds

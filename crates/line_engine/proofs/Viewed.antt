-- What a line shows of itself between two lines of its script, by its tracks.
use Rattle.std.proofs.Common.{◌≡◌, ◌∙◌, ◌-◌, ◌≤◌, ℕ, Bool, false, zero, suc, List, [], ◌∷◌, ap, arith, get_or, length, refl, sym}
use Rattle.std.proofs.Math.Numerals.{sub-one}
use Rattle.std.specs.Prelude.{Some, None, nat_lt, slice_get, slice_index_or}
use Rattle.std.specs.List.{AllByRecursion}
use Rattle.std.proofs.lemmas.List.{get_or_past}
use Rattle.line_base.specs.declared.states.Side.{Side}
use Rattle.line_base.specs.declared.states.Side.TheVariants.{Entry, Exit}
use Rattle.line_link.specs.Flow.{coming}
use Rattle.line_link.specs.Link.{LinkParts, flow_to, no_link}
use Rattle.line_step.specs.State.{LineState, marks_in}
use Rattle.line_step.specs.World.{end_of, link_at, link_of, no_world}
use Rattle.line_step.proofs.Ascending.{choose_true}
use Rattle.law_lanes.specs.Lanes.{empty_track, track}
use Rattle.law_lanes.specs.Shown.{marked_from, standing_on}
use Rattle.line_marks.specs.Indexed.{marks_listed}
use Rattle.line_engine.specs.Seats.{place_in, seat_listed}
use Rattle.line_engine.specs.Tracks.{IsOwn, states_of, track_in}
use Rattle.line_engine.specs.declared.track.Track.{Track}
use Rattle.line_engine.proofs.OnLane.{track_is}
use Rattle.line_engine.proofs.OnTwo.{own_on}
use Rattle.line_engine.proofs.Seating.{place_is, seat_is}
use Rattle.line_engine.proofs.Seen.{seen, seen_as}
use Rattle.line_engine.proofs.Standings.{listed_own, seats_listed}

-- ---- the track of a lane, as it is seen

pub lane_there : (spent : Bool) (lane : ℕ) (tracks : List Track) (own : Track) → spent ≡ false → track_in lane tracks ≡ Some own → track lane (seen spent tracks) ≡ own.state
lane_there spent lane tracks own unspent there = ap (track lane) (sym (seen_as spent tracks unspent)) ∙ track_is lane tracks own there

none_at : (place : ℕ) (tracks : List Track) (none : LineState) → slice_get tracks place ≡ None → get_or (states_of tracks) place none ≡ none
none_at place [] none past = get_or_past [] place none (omega arith)
none_at zero (first ∷ tracks) none past = absurd (cc)
none_at (suc place) (first ∷ tracks) none past = none_at place tracks none past

pub lane_past : (spent : Bool) (lane : ℕ) (tracks : List Track) → 1 ≤ lane → track_in lane tracks ≡ None → track lane (seen spent tracks) ≡ empty_track (seen spent tracks)
lane_past spent zero tracks least past = absurd (omega (arith, least))
lane_past spent (suc place) tracks least past =
    ap (λ (n : ℕ). get_or (states_of tracks) n (empty_track (seen spent tracks))) (sub-one (suc place)) ∙ none_at place tracks (empty_track (seen spent tracks)) past

-- ---- marks and standings

pub marks_there : (spent : Bool) (lane id : ℕ) (tracks : List Track) (own : Track) → spent ≡ false → AllByRecursion IsOwn tracks → track_in lane tracks ≡ Some own
    → marks_listed own.index id ≡ marks_in (track lane (seen spent tracks)) id
marks_there spent lane id tracks own unspent owns there =
    listed_own id own (own_on lane tracks own owns there) ∙ ap (λ (t : LineState). marks_in t id) (sym (lane_there spent lane tracks own unspent there))

pub marks_past : (spent : Bool) (lane id : ℕ) (tracks : List Track) → 1 ≤ lane → track_in lane tracks ≡ None → [] ≡ marks_in (track lane (seen spent tracks)) id
marks_past spent lane id tracks least past = ap (λ (t : LineState). marks_in t id) (sym (lane_past spent lane tracks least past))

pub standing_seen : (id : ℕ) (tracks : List Track) → AllByRecursion IsOwn tracks → place_in (seat_listed id 1 tracks) ≡ standing_on (marked_from id 1 (states_of tracks))
standing_seen id tracks owns = ap place_in (seats_listed id 1 tracks owns ∙ sym (seat_is id 1 (states_of tracks))) ∙ place_is (marked_from id 1 (states_of tracks))

-- ---- what is on its way

abbrev pub bytes_to : ℕ → Side → LineState → ℕ
bytes_to machine side t = length (coming (flow_to (end_of side) (link_at (link_of machine side) t.world)))

no_link_at : (link : ℕ) → link_at link no_world ≡ no_link
no_link_at zero = refl
no_link_at (suc before) =
    choose_true (nat_lt 0 (suc before)) (slice_index_or [] (suc before - 1) no_link) no_link (grind arith) ∙ get_or_past [] (suc before - 1) no_link (omega arith)

idle : (side : Side) → length (coming (flow_to (end_of side) no_link)) ≡ 0
idle Entry = refl
idle Exit = refl

pub none_to : (spent : Bool) (lane machine : ℕ) (side : Side) (tracks : List Track) → 1 ≤ lane → track_in lane tracks ≡ None → 0 ≡ bytes_to machine side (track lane (seen spent tracks))
none_to spent lane machine side tracks least past =
    sym (ap (bytes_to machine side) (lane_past spent lane tracks least past)
    ∙ ap (λ (l : LinkParts). length (coming (flow_to (end_of side) l))) (no_link_at (link_of machine side)) ∙ idle side)

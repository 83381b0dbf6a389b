-- The lines of a stop, each in view of the state before it.
use Rattle.std.proofs.Common.{◌≡◌, ◌∙◌, ◌≤◌, ◌++◌, ◌∷◌, ℕ, Bool, false, zero, suc, List, [], Err, ap, append-nil, arith, length, refl, sym}
use Rattle.std.proofs.Math.Numerals.{sub-one}
use Rattle.std.specs.List.{flat_map}
use Rattle.std.specs.Prelude.{None, Some, get_or, not, slice_get}
use Rattle.line_base.specs.declared.states.Side.{Side}
use Rattle.line_world.specs.declared.moves.MoveNo.TheVariants as moves
use Rattle.line_script.specs.declared.line.LaneLine.TheVariants as lane_lines
use Rattle.line_script.specs.declared.line.ScriptLine.{ScriptLine}
use Rattle.line_script.specs.declared.line.ScriptLine.TheVariants as lines
use Rattle.line_report.specs.declared.happening.Happening.TheVariants as happenings
use Rattle.line_report.specs.declared.happening.LaneHappening.{LaneHappening}
use Rattle.line_report.specs.declared.happening.Reason.{Reason}
use Rattle.line_report.specs.declared.happening.Reason.TheVariants as reasons
use Rattle.node_core.specs.declared.input.No.TheVariants as nos
use Rattle.line_step.specs.Parts.{where_may}
use Rattle.line_step.specs.Reasons.{has_link, is_loose, may_cut, may_do, may_notice, may_stop, no_if}
use Rattle.line_step.specs.Requests as requests
use Rattle.line_step.specs.Shown.{ascending, ids_marked}
use Rattle.line_step.specs.State.{LineState}
use Rattle.line_step.specs.World.{link_at}
use Rattle.law_lanes.specs.Lanes.{Lanes, empty_track, track}
use Rattle.law_lanes.specs.Parts.{cut_where, notice_where}
use Rattle.law_lanes.specs.Shown.{marked_on, marks_told, standings_on}
use Rattle.law_lanes.specs.Steps.{Becomes, RequestDoes, told_once}
use Rattle.line_engine.specs.Seats.{seat_from}
use Rattle.line_engine.specs.Tracks.{AreKept, TellsDone, lanes_of, states_of, track_in}
use Rattle.line_engine.specs.declared.track.Track.{Track}
use Rattle.line_engine.proofs.OnLane.{track_is, unless_done, unless_not}
use Rattle.line_engine.proofs.OnTwo.{own_on}
use Rattle.line_engine.proofs.Seating.{same_untold}
use Rattle.line_engine.proofs.Standings.{flat_same, seats_tell}

-- ---- what a stop tells itself

abbrev nothing : ℕ → List LaneHappening
nothing id = []

untold : (ids : List ℕ) → flat_map nothing ids ≡ []
untold [] = refl
untold (id ∷ ids) = untold ids

standings_same : (s : Lanes) → standings_on s s ≡ []
standings_same s =
    let ids : List ℕ = ascending (flat_map ids_marked s.tracks ++ flat_map ids_marked s.tracks) in
    flat_same (λ (id : ℕ). marks_told id (marked_on s id) (marked_on s id)) nothing
    (λ id. seats_tell id s.tracks s.tracks ∙ same_untold id (seat_from id 1 s.tracks)) ids
    ∙ untold ids

tells : (Does : Lanes → Lanes → List LaneHappening → Type 0) (tracks : List Track) (what old new : List LaneHappening) → Does (lanes_of tracks) (lanes_of tracks) what → new ≡ old ++ what → TellsDone Does tracks tracks old new
tells Does tracks what old new does is = record {
  done = what;
  does = does;
  now_is = is ∙ ap (λ (more : List LaneHappening). old ++ more) (sym (append-nil what) ∙ ap (λ (more : List LaneHappening). what ++ more) (sym (standings_same (lanes_of tracks))));
}

pub stop_refused : (number lane machine : ℕ) (first : Track) (others : List Track) (reason : Reason) (old new : List LaneHappening) → may_stop machine first.state ≡ Err reason
    → new ≡ old ++ told_once (happenings.No reason) → TellsDone (RequestDoes number lane (requests.stops machine)) (first ∷ others) (first ∷ others) old new
stop_refused number lane machine first others reason old new may is =
    let s : Lanes = lanes_of (first ∷ others) in
    tells (RequestDoes number lane (requests.stops machine)) (first ∷ others) (told_once (happenings.No reason)) old new
    (unless_not (may_stop machine first.state) reason s (Becomes s (told_once (happenings.Stop machine)) s (told_once (happenings.No reason))) may) is

pub stop_told : (number lane machine : ℕ) (first : Track) (others : List Track) (old new : List LaneHappening) → may_stop machine first.state ≡ may_do
    → new ≡ old ++ told_once (happenings.Stop machine) → TellsDone (RequestDoes number lane (requests.stops machine)) (first ∷ others) (first ∷ others) old new
stop_told number lane machine first others old new may is =
    let s : Lanes = lanes_of (first ∷ others) in
    tells (RequestDoes number lane (requests.stops machine)) (first ∷ others) (told_once (happenings.Stop machine)) old new
    (unless_done (may_stop machine first.state) s s (told_once (happenings.Stop machine)) (Becomes s (told_once (happenings.Stop machine)) s (told_once (happenings.Stop machine))) may
    (record { after_is = refl; told_is = refl })) is

-- ---- on a lane that is there, and on one that isn't

pub cut_there : (lane gap : ℕ) (tracks : List Track) (own : Track) → track_in lane tracks ≡ Some own → lane_lines.On lane (where_may (may_cut gap own.state) (lines.Cut gap)) ≡ cut_where lane gap (lanes_of tracks)
cut_there lane gap tracks own there = ap (λ (s : LineState). lane_lines.On lane (where_may (may_cut gap s) (lines.Cut gap))) (sym (track_is lane tracks own there))

pub notice_there : (lane machine : ℕ) (side : Side) (tracks : List Track) (own : Track) → track_in lane tracks ≡ Some own → lane_lines.On lane (where_may (may_notice machine side own.state) (lines.Notice machine side)) ≡ notice_where lane machine side (lanes_of tracks)
notice_there lane machine side tracks own there = ap (λ (s : LineState). lane_lines.On lane (where_may (may_notice machine side s) (lines.Notice machine side))) (sym (track_is lane tracks own there))

empty_behind : (place : ℕ) (tracks : List Track) (s : LineState) → slice_get tracks place ≡ None → get_or (states_of tracks) place s ≡ s
empty_behind zero [] s none = refl
empty_behind (suc place) [] s none = refl
empty_behind zero (track ∷ tracks) s none = absurd (cc)
empty_behind (suc place) (track ∷ tracks) s none = empty_behind place tracks s none

no_track : (lane : ℕ) (tracks : List Track) → 1 ≤ lane → track_in lane tracks ≡ None → track lane (lanes_of tracks) ≡ empty_track (lanes_of tracks)
no_track zero tracks least none = absurd (omega (arith, least))
no_track (suc place) tracks least none =
    ap (λ (n : ℕ). get_or (states_of tracks) n (empty_track (lanes_of tracks))) (sub-one (suc place)) ∙ empty_behind place tracks (empty_track (lanes_of tracks)) none

no_cut : (gap : ℕ) (s : Lanes) → where_may (may_cut gap (empty_track s)) (lines.Cut gap) ≡ lines.Blank
no_cut gap s =
    let none : has_link gap (empty_track s) ≡ false = grind arith in
    ap (λ (b : Bool). where_may (no_if (not b) (reasons.Move moves.NoGap) (no_if (is_loose (link_at gap (empty_track s).world)) (reasons.Node nos.NotConnected) may_do)) (lines.Cut gap)) none

no_notice : (machine : ℕ) (side : Side) (s : Lanes) → where_may (may_notice machine side (empty_track s)) (lines.Notice machine side) ≡ lines.Blank
no_notice zero side s = refl
no_notice (suc before) side s = refl

pub cut_nowhere : (lane gap : ℕ) (tracks : List Track) → 1 ≤ lane → track_in lane tracks ≡ None → lane_lines.On lane lines.Blank ≡ cut_where lane gap (lanes_of tracks)
cut_nowhere lane gap tracks least none =
    ap (λ (line : ScriptLine). lane_lines.On lane line) (sym (no_cut gap (lanes_of tracks)))
    ∙ ap (λ (s : LineState). lane_lines.On lane (where_may (may_cut gap s) (lines.Cut gap))) (sym (no_track lane tracks least none))

pub notice_nowhere : (lane machine : ℕ) (side : Side) (tracks : List Track) → 1 ≤ lane → track_in lane tracks ≡ None → lane_lines.On lane lines.Blank ≡ notice_where lane machine side (lanes_of tracks)
notice_nowhere lane machine side tracks least none =
    ap (λ (line : ScriptLine). lane_lines.On lane line) (sym (no_notice machine side (lanes_of tracks)))
    ∙ ap (λ (s : LineState). lane_lines.On lane (where_may (may_notice machine side s) (lines.Notice machine side))) (sym (no_track lane tracks least none))

-- a track that is kept has no more machines than a line may
pub machines_few : (lane : ℕ) (tracks : List Track) (own : Track) → AreKept tracks → track_in lane tracks ≡ Some own → length own.state.machines ≤ 64
machines_few lane tracks own kept there = (own_on lane tracks own kept.each there).together.few

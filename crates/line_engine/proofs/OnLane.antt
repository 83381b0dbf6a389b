-- A line of the script on one lane.
use Rattle.std.proofs.Common.{◌≡◌, ◌∙◌, ◌+◌, ◌≤◌, ◌++◌, ◌==◌, ℕ, true, zero, suc, List, [], ◌∷◌, ap, append-nil, length, map, refl, subst, sym}
use Rattle.std.proofs.Math.Numerals.{sub-one}
use Rattle.std.proofs.lemmas.Option.{get_or_from_slice_get}
use Rattle.std.specs.Prelude.{Some, Err, get_or, if◌then◌else◌, slice_get, slice_set}
use Rattle.std.specs.List.{AllByRecursion}
use Rattle.node_core.specs.Node.{NodeState}
use Rattle.standings.specs.Marks.{marks_of}
use Rattle.standings.specs.declared.mark.Mark.{Mark}
use Rattle.line_report.specs.Lanes.{told_on}
use Rattle.line_report.specs.declared.happening.Happening.{Happening}
use Rattle.line_report.specs.declared.happening.Happening.TheVariants as happenings
use Rattle.line_report.specs.declared.happening.LaneHappening.{LaneHappening}
use Rattle.line_report.specs.declared.happening.Reason.{Reason}
use Rattle.line_script.specs.declared.line.ScriptLine.{ScriptLine}
use Rattle.line_script.specs.declared.line.ScriptLine.TheVariants as lines
use Rattle.line_step.specs.Lines.{LineDoes}
use Rattle.line_step.specs.Named.{ids_named}
use Rattle.line_step.specs.Reasons.{May, may_do}
use Rattle.line_step.specs.Requests.{request_of}
use Rattle.line_step.specs.Shown.{ascending}
use Rattle.line_step.specs.State.{LineState, marks_in, owned}
use Rattle.line_step.proofs.ChangedStandings.{line_stays}
use Rattle.line_step.proofs.Keeps.{does_together, lines_stay}
use Rattle.law_lanes.specs.Lanes.{Lanes, beside, empty_track, lines_of, track, tracks_with}
use Rattle.law_lanes.specs.Reasons.{may_on}
use Rattle.law_lanes.specs.Shown.{standings_on}
use Rattle.law_lanes.specs.Steps.{OnTrack, RequestDoes, Unless, told_once}
use Rattle.line_machines.specs.Given.{is_of_lane}
use Rattle.line_marks.specs.Indexed.{Entries, Follows, IsIndexOf, marks_in_entry, marks_listed}
use Rattle.line_marks.specs.Seats.{both, own_seat}
use Rattle.line_engine.specs.Seats.{seat_beside, seat_listed, seat_told}
use Rattle.line_engine.specs.Sharing.{following}
use Rattle.line_marks.specs.Stepped.{first_stepped, last_stepped, told_each}
use Rattle.line_engine.specs.Tracks.{AreKept, FollowsDone, FollowsLane, IsFollowing, IsLike, IsOwn, StepsOn, TellsDone, lane_told, lanes_of, states_of, track_in, with_behind}
use Rattle.line_marks.specs.declared.seat.Seat.{Seat}
use Rattle.line_marks.specs.declared.seat.Seat.TheVariants.{Nowhere}
use Rattle.line_engine.specs.declared.track.Track.{Track}
use Rattle.line_engine.proofs.Alike.{Stepped, kept_now, likes_at, map_wide, now_is, state_at, tracks_now}
use Rattle.line_machines.proofs.Numbering.{not_adding}
use Rattle.line_engine.proofs.Besides.{AreAlike, Touches, beside_track, line_touched, set_length, states_behind, touches_none, touches_one, touches_two, tracks_behind, tracks_follow}
use Rattle.line_marks.proofs.Followed.{follows}
use Rattle.line_marks.proofs.Following.{listed_is}
use Rattle.line_machines.proofs.Numbering.{line_numbered}
use Rattle.line_engine.proofs.Seating.{beside_at, seats_apart}
use Rattle.line_engine.proofs.Standings.{flat_same, listed_own, seats_listed, standings_among}

-- ---- the track of a lane

pub track_is : (lane : ℕ) (tracks : List Track) (own : Track) → track_in lane tracks ≡ Some own → track lane (lanes_of tracks) ≡ own.state
track_is zero tracks own there = absurd (cc)
track_is (suc place) tracks own there =
    ap (λ (n : ℕ). get_or (states_of tracks) n (empty_track (lanes_of tracks))) (sub-one (suc place))
    ∙ get_or_from_slice_get (states_of tracks) place own.state (empty_track (lanes_of tracks)) (state_at place tracks own there)

pub behind_there : (place : ℕ) (tracks : List Track) (own now : Track) → slice_get tracks place ≡ Some own → slice_get (with_behind place now tracks) place ≡ Some now
behind_there place [] own now there = absurd (cc)
behind_there zero (first ∷ tracks) own now there = refl
behind_there (suc place) (first ∷ tracks) own now there = behind_there place tracks own now there

pub follows_there : (place : ℕ) (next : LineState) (tracks : List Track) (own : Track) → slice_get tracks place ≡ Some own → slice_get (tracks_behind place next tracks) place ≡ Some (record own { state = next })
follows_there place next [] own there = absurd (cc)
follows_there zero next (first ∷ tracks) own there = let same : first ≡ own = cc in ap (λ (t : Track). Some (record t { state = next })) same
follows_there (suc place) next (first ∷ tracks) own there = follows_there place next tracks own there

pub own_at : (place : ℕ) (tracks : List Track) (own : Track) → AllByRecursion IsOwn tracks → slice_get tracks place ≡ Some own → IsOwn own
own_at place [] own owns there = absurd (cc)
own_at zero (first ∷ tracks) own owns there = let same : first ≡ own = cc in subst (λ (t : Track). IsOwn t) same owns.0
own_at (suc place) (first ∷ tracks) own owns there = own_at place tracks own owns.1 there

pub alikes : (before : LineState) (tracks : List Track) → AllByRecursion (IsLike before) (states_of tracks) → AreAlike before tracks
alikes before [] like = tt
alikes before (track ∷ tracks) like = (like.0.shared, alikes before tracks like.1)

pub states_now : (place : ℕ) (next : LineState) (index : Entries) (tracks : List Track) → states_of (tracks_now place next index tracks) ≡ tracks_with place next (states_of tracks)
states_now place next index [] = refl
states_now zero next index (own ∷ others) = states_behind zero next (own ∷ others)
states_now (suc place) next index (other ∷ others) = ap (λ (ss : List LineState). beside next other.state ∷ ss) (states_now place next index others)

-- ---- the others keep their indexes

map_seats : (id own lane : ℕ) (next : LineState) (tracks : List Track) → seat_beside own id lane (map (beside_track next) tracks) ≡ seat_beside own id lane tracks
map_seats id own lane next [] = refl
map_seats id own lane next (track ∷ tracks) = ap (both (if lane == own then Nowhere else own_seat lane (marks_listed track.index id))) (map_seats id own (lane + 1) next tracks)

pub behind_seats : (id own lane place : ℕ) (next : LineState) (tracks : List Track) → seat_beside own id lane (tracks_behind place next tracks) ≡ seat_beside own id lane tracks
behind_seats id own lane place next [] = refl
behind_seats id own lane zero next (first ∷ tracks) = ap (both (if lane == own then Nowhere else own_seat lane (marks_listed first.index id))) (map_seats id own (lane + 1) next tracks)
behind_seats id own lane (suc place) next (first ∷ tracks) = ap (both (if lane == own then Nowhere else own_seat lane (marks_listed first.index id))) (behind_seats id own (lane + 1) place next tracks)

-- ---- what stays

pub touched_wide : (first last : ℕ) (before next : LineState) → Touches first last before next → length next.machines ≡ length before.machines
touched_wide first last before next (touches_none same) = ap (λ (ns : List NodeState). length ns) same
touched_wide first last before next (touches_one place node a b within same) = ap (λ (ns : List NodeState). length ns) same ∙ set_length place before.machines node
touched_wide first last before next (touches_two above lower upper a b within same) =
    ap (λ (ns : List NodeState). length ns) same ∙ set_length above (slice_set before.machines (suc above) lower) upper ∙ set_length (suc above) before.machines lower

-- nothing is told of standings where nothing changed
pub standings_rest : (tracks : List Track) → AllByRecursion IsOwn tracks → standings_on (lanes_of tracks) (lanes_of tracks) ≡ []
standings_rest tracks owns = standings_among [] tracks tracks owns owns (λ id none. refl)

pub refused : (Does : Lanes → Lanes → List LaneHappening → Type 0) (tracks : List Track) (what old new : List LaneHappening) → AreKept tracks → Does (lanes_of tracks) (lanes_of tracks) what → new ≡ old ++ what → TellsDone Does tracks tracks old new
refused Does tracks what old new kept does is = record {
  done = what;
  does = does;
  now_is = is ∙ ap (λ (more : List LaneHappening). old ++ more) (sym (append-nil what) ∙ ap (λ (more : List LaneHappening). what ++ more) (sym (standings_rest tracks kept.each)));
}

-- ---- what is done of a request to one lane

does_lane : (number lane : ℕ) (line : ScriptLine) (before after : Lanes) (told : List LaneHappening) → is_of_lane line ≡ true
    → Unless (may_on lane (request_of line) before) before after told (OnTrack lane (LineDoes number (request_of line)) before after told) → RequestDoes number lane (request_of line) before after told
does_lane number lane lines.Blank before after told own u = absurd (cc)
does_lane number lane lines.Show before after told own u = absurd (cc)
does_lane number lane (lines.Machine capacity used) before after told own u = absurd (cc)
does_lane number lane (lines.Bridge capacity used) before after told own u = absurd (cc)
does_lane number lane (lines.Stop machine) before after told own u = absurd (cc)
does_lane number lane _ before after told own u = u

pub unless_done : (may : May) (before after : Lanes) (told : List LaneHappening) (Done : Type 0) → may ≡ may_do → Done → Unless may before after told Done
unless_done may before after told Done is done = subst (λ (m : May). Unless m before after told Done) (sym is) done

pub unless_not : (may : May) (reason : Reason) (before : Lanes) (Done : Type 0) → may ≡ Err reason → Unless may before before (told_once (happenings.No reason)) Done
unless_not may reason before Done is = subst (λ (m : May). Unless m before before (told_once (happenings.No reason)) Done) (sym is) (record { after_is = refl; told_is = refl })

pub lane_refused : (number lane : ℕ) (line : ScriptLine) (tracks : List Track) (reason : Reason) (old new : List LaneHappening) → is_of_lane line ≡ true → AreKept tracks → may_on lane (request_of line) (lanes_of tracks) ≡ Err reason
    → new ≡ old ++ told_once (happenings.No reason) → TellsDone (RequestDoes number lane (request_of line)) tracks tracks old new
lane_refused number lane line tracks reason old new own kept may is =
    refused (RequestDoes number lane (request_of line)) tracks (told_once (happenings.No reason)) old new kept
    (does_lane number lane line (lanes_of tracks) (lanes_of tracks) (told_once (happenings.No reason)) own
    (unless_not (may_on lane (request_of line) (lanes_of tracks)) reason (lanes_of tracks) (OnTrack lane (LineDoes number (request_of line)) (lanes_of tracks) (lanes_of tracks) (told_once (happenings.No reason))) may)) is

-- ---- all of it

-- a line that was done on a lane: the lane and the tracks, and what is known of each step of the code
pub record LaneDone (number : ℕ) (line : ScriptLine) (place : ℕ) (tracks : List Track) (own : Track) (next : LineState) (index : Entries) (done : List Happening) (old new : List LaneHappening) : Type 0 where
  pub kept : AreKept tracks
  pub of_lane : is_of_lane line ≡ true
  pub may : may_on (suc place) (request_of line) (lanes_of tracks) ≡ may_do
  pub few : number ≤ 1000000
  pub there : slice_get tracks place ≡ Some own
  pub does : LineDoes number (request_of line) own.state next done
  pub index_is : IsIndexOf index (owned next)
  pub told : new ≡ old ++ (told_on (suc place) done
      ++ told_each (lane_told (suc place) (tracks_behind place next tracks)) (ascending (ids_named done)) (owned own.state) (owned next))

module_own : {number : ℕ} {line : ScriptLine} {place : ℕ} {tracks : List Track} {own : Track} {next : LineState} {index : Entries} {done : List Happening} {old new : List LaneHappening} → LaneDone number line place tracks own next index done old new → IsOwn own
module_own {place = place} {tracks = tracks} {own = own} d = own_at place tracks own d.kept.each d.there

pub stepped_of : {number : ℕ} {line : ScriptLine} {place : ℕ} {tracks : List Track} {own : Track} {next : LineState} {index : Entries} {done : List Happening} {old new : List LaneHappening} → LaneDone number line place tracks own next index done old new → Stepped own.state next
stepped_of {number} {line} {own = own} {next = next} {done = done} d = record {
  wide = touched_wide (first_stepped line) (last_stepped line) own.state next (line_touched number line own.state next done d.of_lane d.does);
  lines = lines_stay number (request_of line) own.state next done d.does;
  together = does_together number (request_of line) own.state next done (module_own d).together d.does;
  numbered = line_numbered number (request_of line) own.state next done (not_adding line d.of_lane) (module_own d).numbered d.does;
}

pub lane_kept : {number : ℕ} {line : ScriptLine} {place : ℕ} {tracks : List Track} {own : Track} {next : LineState} {index : Entries} {done : List Happening} {old new : List LaneHappening} → LaneDone number line place tracks own next index done old new → AreKept (tracks_now place next index tracks)
lane_kept {place = place} {tracks = tracks} {own = own} {next = next} {index = index} d = kept_now place next index tracks own d.kept d.there (stepped_of d) d.index_is

-- where an id is seated, before and behind it
seat_was : {number : ℕ} {line : ScriptLine} {place : ℕ} {tracks : List Track} {own : Track} {next : LineState} {index : Entries} {done : List Happening} {old new : List LaneHappening} → (d : LaneDone number line place tracks own next index done old new) (id : ℕ)
    → seat_listed id 1 tracks ≡ both (own_seat (suc place) (marks_in own.state id)) (seat_beside (suc place) id 1 (tracks_behind place next tracks))
seat_was {place = place} {tracks = tracks} {own = own} {next = next} d id =
    seats_apart id (suc place) tracks own d.there
    ∙ ap (λ (ms : List Mark). both (own_seat (suc place) ms) (seat_beside (suc place) id 1 tracks)) (listed_own id own (module_own d))
    ∙ ap (both (own_seat (suc place) (marks_in own.state id))) (sym (behind_seats id (suc place) 1 place next tracks))

seat_now : {number : ℕ} {line : ScriptLine} {place : ℕ} {tracks : List Track} {own : Track} {next : LineState} {index : Entries} {done : List Happening} {old new : List LaneHappening} → (d : LaneDone number line place tracks own next index done old new) (id : ℕ)
    → seat_listed id 1 (tracks_now place next index tracks) ≡ both (own_seat (suc place) (marks_in next id)) (seat_beside (suc place) id 1 (tracks_behind place next tracks))
seat_now {place = place} {tracks = tracks} {own = own} {next = next} {index = index} d id =
    let now : Track = record { state = next; index = index } in
    let behind : List Track = tracks_behind place next tracks in
    ap (seat_listed id 1) (sym (now_is place next index tracks))
    ∙ seats_apart id (suc place) (with_behind place now behind) now (behind_there place behind (record own { state = next }) now (follows_there place next tracks own d.there))
    ∙ ap (λ (ms : List Mark). both (own_seat (suc place) ms) (seat_beside (suc place) id 1 (with_behind place now behind))) (ap marks_in_entry (d.index_is.at id) ∙ listed_is (marks_in next id))
    ∙ ap (both (own_seat (suc place) (marks_in next id))) (beside_at id place behind now)

lane_standings : {number : ℕ} {line : ScriptLine} {place : ℕ} {tracks : List Track} {own : Track} {next : LineState} {index : Entries} {done : List Happening} {old new : List LaneHappening} → LaneDone number line place tracks own next index done old new
    → standings_on (lanes_of tracks) (lanes_of (tracks_now place next index tracks)) ≡ told_each (lane_told (suc place) (tracks_behind place next tracks)) (ascending (ids_named done)) (owned own.state) (owned next)
lane_standings {number} {line} {place} {tracks} {own} {next} {index} {done} d =
    let after : List Track = tracks_now place next index tracks in
    standings_among (ids_named done) tracks after d.kept.each (lane_kept d).each
    (λ id none. sym (seats_listed id 1 tracks d.kept.each) ∙ seat_was d id
    ∙ ap (λ (ms : List Mark). both (own_seat (suc place) ms) (seat_beside (suc place) id 1 (tracks_behind place next tracks))) (line_stays id number (request_of line) own.state next done d.does none)
    ∙ sym (seat_now d id) ∙ seats_listed id 1 after (lane_kept d).each)
    ∙ flat_same (λ (id : ℕ). seat_told id (seat_listed id 1 tracks) (seat_listed id 1 after)) (λ (id : ℕ). lane_told (suc place) (tracks_behind place next tracks) id (marks_of (owned own.state) id) (marks_of (owned next) id))
    (λ id. ap (λ (s : Seat). seat_told id s (seat_listed id 1 after)) (seat_was d id) ∙ ap (seat_told id (both (own_seat (suc place) (marks_in own.state id)) (seat_beside (suc place) id 1 (tracks_behind place next tracks)))) (seat_now d id))
    (ascending (ids_named done))

pub lane_tells : {number : ℕ} {line : ScriptLine} {place : ℕ} {tracks : List Track} {own : Track} {next : LineState} {index : Entries} {done : List Happening} {old new : List LaneHappening} → LaneDone number line place tracks own next index done old new
    → TellsDone (RequestDoes number (suc place) (request_of line)) tracks (tracks_now place next index tracks) old new
lane_tells {number} {line} {place} {tracks} {own} {next} {index} {done} {old} {new} d = record {
  done = told_on (suc place) done;
  does = does_lane number (suc place) line (lanes_of tracks) (lanes_of (tracks_now place next index tracks)) (told_on (suc place) done) d.of_lane
      (unless_done (may_on (suc place) (request_of line) (lanes_of tracks)) (lanes_of tracks) (lanes_of (tracks_now place next index tracks)) (told_on (suc place) done) _ d.may
      (record {
        next = next;
        done = done;
        does = subst (λ (s : LineState). LineDoes number (request_of line) s next done) (sym (track_is (suc place) tracks own d.there)) d.does;
        after_is = ap (λ (ss : List LineState). record (lanes_of tracks) { tracks = ss }) (states_now place next index tracks ∙ ap (λ (n : ℕ). tracks_with n next (states_of tracks)) (sym (sub-one (suc place))));
        told_is = refl;
      }));
  now_is = d.told ∙ ap (λ (more : List LaneHappening). old ++ (told_on (suc place) done ++ more)) (sym (lane_standings d));
}

-- ---- from the steps of the code

pub record CodeDone (number lane : ℕ) (line : ScriptLine) (tracks first second third : List Track) (done : List Happening) (old new : List LaneHappening) : Type 0 where
  pub kept : AreKept tracks
  pub of_lane : is_of_lane line ≡ true
  pub may : may_on lane (request_of line) (lanes_of tracks) ≡ may_do
  pub few : number ≤ 1000000
  pub steps : StepsOn lane (λ (before after : LineState). LineDoes number (request_of line) before after done) tracks first
  pub shares : IsFollowing lane (first_stepped line) (last_stepped line) first second
  pub follows : FollowsDone lane (first_stepped line) (last_stepped line) done second third old new

-- the tracks behind what lanes share, where the lane's own number is known
second_is : (number place : ℕ) (line : ScriptLine) (tracks first second third : List Track) (done : List Happening) (old new : List LaneHappening) → (c : CodeDone number (suc place) line tracks first second third done old new) → second ≡ tracks_behind place c.steps.next tracks
second_is number place line tracks first second third done old new c =
    let s = c.steps in
    let now : Track = record s.own { state = s.next } in
    let first_is : first ≡ with_behind place now tracks = s.after_is ∙ ap (λ (n : ℕ). with_behind n now tracks) (sub-one (suc place)) in
    let there : slice_get first place ≡ Some now = ap (λ (ts : List Track). slice_get ts place) first_is ∙ behind_there place tracks s.own now s.there in
    let seen : slice_get first place ≡ Some c.shares.own = c.shares.there in
    let same : c.shares.own ≡ now = cc in
    c.shares.after_is ∙ ap (λ (t : Track). following (first_stepped line) (last_stepped line) t.state first) same
    ∙ ap (following (first_stepped line) (last_stepped line) s.next) first_is
    ∙ tracks_follow (first_stepped line) (last_stepped line) place s.own.state s.next s.own tracks (line_touched number line s.own.state s.next done c.of_lane s.does)
    (alikes s.own.state tracks (likes_at place tracks s.own c.kept s.there)) s.there

pub record LaneMade (number lane : ℕ) (line : ScriptLine) (tracks third : List Track) (old new : List LaneHappening) : Type 0 where
  pub tells : TellsDone (RequestDoes number lane (request_of line)) tracks third old new
  pub kept : AreKept third
  pub lines : lines_of (lanes_of third) ≡ lines_of (lanes_of tracks)

pub first_lines : (place : ℕ) (before next : LineState) (index : Entries) (tracks : List Track) → next.lines ≡ before.lines → AllByRecursion (IsLike before) (states_of tracks) → lines_of (lanes_of (tracks_now place next index tracks)) ≡ lines_of (lanes_of tracks)
first_lines place before next index [] lines like = refl
first_lines zero before next index (own ∷ others) lines like = lines ∙ like.0.lines
first_lines (suc place) before next index (other ∷ others) lines like = refl

pub lane_made : (number lane : ℕ) (line : ScriptLine) (tracks first second third : List Track) (done : List Happening) (old new : List LaneHappening) → CodeDone number lane line tracks first second third done old new → LaneMade number lane line tracks third old new
lane_made number zero line tracks first second third done old new c = let none = c.steps.there in absurd (cc)
lane_made number (suc place) line tracks first second third done old new c =
    let s = c.steps in
    let is : second ≡ tracks_behind place s.next tracks = second_is number place line tracks first second third done old new c in
    let seen : slice_get second place ≡ Some c.follows.own = c.follows.there in
    let there : slice_get second place ≡ Some (record s.own { state = s.next }) = ap (λ (ts : List Track). slice_get ts place) is ∙ follows_there place s.next tracks s.own s.there in
    let same : record s.own { state = s.next } ≡ c.follows.own = cc in
    let mine : IsOwn s.own = own_at place tracks s.own c.kept.each s.there in
    let went : Follows (first_stepped line) (last_stepped line) (ids_named done) (owned s.own.state) (owned s.next) = follows number line s.own.state s.next done s.does in
    let f : FollowsLane (suc place) done c.follows.own (owned s.own.state) second third old new =
    c.follows.each (owned s.own.state) (subst (λ (t : Track). IsIndexOf t.index (owned s.own.state)) same mine.index)
    (subst (λ (t : Track). Follows (first_stepped line) (last_stepped line) (ids_named done) (owned s.own.state) (owned t.state)) same went) in
    let own_is : record c.follows.own { index = f.index } ≡ record { state = s.next; index = f.index } = ap (λ (t : Track). record t { index = f.index }) (sym same) in
    let third_is : third ≡ tracks_now place s.next f.index tracks =
    f.after_is ∙ ap (λ (n : ℕ). with_behind n (record c.follows.own { index = f.index }) second) (sub-one (suc place))
    ∙ ap (λ (t : Track). with_behind place t second) own_is ∙ ap (with_behind place (record { state = s.next; index = f.index })) is ∙ now_is place s.next f.index tracks in
    let d : LaneDone number line place tracks s.own s.next f.index done old new = record {
      kept = c.kept;
      of_lane = c.of_lane;
      may = c.may;
      few = c.few;
      there = s.there;
      does = s.does;
      index_is = subst (λ (t : Track). IsIndexOf f.index (owned t.state)) (sym same) f.index_is;
      told = f.told
          ∙ ap (λ (ts : List Track). old ++ (told_on (suc place) done ++ told_each (lane_told (suc place) ts) (ascending (ids_named done)) (owned s.own.state) (owned c.follows.own.state))) is
          ∙ ap (λ (t : Track). old ++ (told_on (suc place) done ++ told_each (lane_told (suc place) (tracks_behind place s.next tracks)) (ascending (ids_named done)) (owned s.own.state) (owned t.state))) (sym same);
    } in
    record {
      tells = subst (λ (ts : List Track). TellsDone (RequestDoes number (suc place) (request_of line)) tracks ts old new) (sym third_is) (lane_tells d);
      kept = subst (λ (ts : List Track). AreKept ts) (sym third_is) (lane_kept d);
      lines = ap (λ (ts : List Track). lines_of (lanes_of ts)) third_is ∙ first_lines place s.own.state s.next f.index tracks (stepped_of d).lines (likes_at place tracks s.own c.kept s.there);
    }

-- ---- between the steps of the code

pub second_from : (number place : ℕ) (line : ScriptLine) (tracks first second : List Track) (done : List Happening) → is_of_lane line ≡ true → AreKept tracks
    → (s : StepsOn (suc place) (λ (before after : LineState). LineDoes number (request_of line) before after done) tracks first) → IsFollowing (suc place) (first_stepped line) (last_stepped line) first second → second ≡ tracks_behind place s.next tracks
second_from number place line tracks first second done of_lane kept s f =
    let now : Track = record s.own { state = s.next } in
    let first_is : first ≡ with_behind place now tracks = s.after_is ∙ ap (λ (n : ℕ). with_behind n now tracks) (sub-one (suc place)) in
    let there : slice_get first place ≡ Some now = ap (λ (ts : List Track). slice_get ts place) first_is ∙ behind_there place tracks s.own now s.there in
    let seen : slice_get first place ≡ Some f.own = f.there in
    let same : f.own ≡ now = cc in
    f.after_is ∙ ap (λ (t : Track). following (first_stepped line) (last_stepped line) t.state first) same
    ∙ ap (following (first_stepped line) (last_stepped line) s.next) first_is
    ∙ tracks_follow (first_stepped line) (last_stepped line) place s.own.state s.next s.own tracks (line_touched number line s.own.state s.next done of_lane s.does)
    (alikes s.own.state tracks (likes_at place tracks s.own kept s.there)) s.there

behind_wide : (place : ℕ) (next : LineState) (tracks : List Track) → length (tracks_behind place next tracks) ≡ length tracks
behind_wide place next [] = refl
behind_wide zero next (own ∷ others) = ap (λ (n : ℕ). suc n) (map_wide next others)
behind_wide (suc place) next (other ∷ others) = ap (λ (n : ℕ). suc n) (behind_wide place next others)

pub second_few : (number lane : ℕ) (line : ScriptLine) (tracks first second : List Track) (done : List Happening) → is_of_lane line ≡ true → AreKept tracks
    → StepsOn lane (λ (before after : LineState). LineDoes number (request_of line) before after done) tracks first → IsFollowing lane (first_stepped line) (last_stepped line) first second → length second ≤ 4
second_few number zero line tracks first second done of_lane kept s f = let none = s.there in absurd (cc)
second_few number (suc place) line tracks first second done of_lane kept s f =
    subst (λ (n : ℕ). n ≤ 4) (sym (ap (λ (ts : List Track). length ts) (second_from number place line tracks first second done of_lane kept s f) ∙ behind_wide place s.next tracks)) kept.few

pub second_there : (number place : ℕ) (line : ScriptLine) (tracks first second : List Track) (done : List Happening) → is_of_lane line ≡ true → AreKept tracks
    → (s : StepsOn (suc place) (λ (before after : LineState). LineDoes number (request_of line) before after done) tracks first) → IsFollowing (suc place) (first_stepped line) (last_stepped line) first second → track_in (suc place) second ≡ Some (record s.own { state = s.next })
second_there number place line tracks first second done of_lane kept s f =
    ap (λ (ts : List Track). slice_get ts place) (second_from number place line tracks first second done of_lane kept s f) ∙ follows_there place s.next tracks s.own s.there

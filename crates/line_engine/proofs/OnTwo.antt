-- A shift: a board goes from one lane of a machine to another.
use Rattle.std.proofs.Common.{◌≡◌, ◌≢◌, ◌∙◌, ◌+◌, ◌-◌, ◌≤◌, ◌++◌, ℕ, Bool, true, false, zero, suc, List, [], ◌∷◌, ap, arith, length, map, refl, subst, sym, eq-eqb, eqb-true}
use Rattle.std.proofs.Math.Numerals.{sub-one}
use Rattle.std.specs.Prelude.{◌&&◌, ◌==◌, Err, IsSomeAnd, Option, Some, None, is_some, not, slice_get}
use Rattle.std.specs.List.{AllByRecursion, flat_map}
use Rattle.board_record.specs.declared.record.Record.{Record}
use Rattle.node_core.specs.Node.{NodeState}
use Rattle.node_core.specs.Shared.{SharedParts, shared_of}
use Rattle.node_core.specs.declared.input.Input.{Input}
use Rattle.node_core.specs.declared.input.Input.TheVariants as inputs
use Rattle.standings.specs.Marks.{Owned, has_id}
use Rattle.standings.specs.declared.mark.Mark.{Mark}
use Rattle.line_script.specs.declared.line.LaneLine.TheVariants as lane_lines
use Rattle.line_report.specs.Shifts.{shift_told}
use Rattle.line_report.specs.declared.happening.Happening.{Happening}
use Rattle.line_report.specs.declared.happening.Happening.TheVariants as happenings
use Rattle.line_report.specs.declared.happening.LaneHappening.{LaneHappening}
use Rattle.line_report.specs.declared.happening.Reason.{Reason}
use Rattle.line_step.specs.Lines.{LineDoes}
use Rattle.line_step.specs.Named.{ids_named, ids_of_happening}
use Rattle.line_report.specs.declared.happening.Reason.TheVariants as reasons
use Rattle.node_core.specs.declared.input.No.TheVariants as nos
use Rattle.line_step.specs.Reasons.{May, if_there, may_do, may_give_away, may_take_in, no_if}
use Rattle.line_step.specs.Requests as requests
use Rattle.line_step.specs.Shown.{ascending}
use Rattle.line_step.specs.State.{LineState, machine_in, marks_in, owned}
use Rattle.line_step.specs.Steps.{MachineSteps}
use Rattle.line_step.specs.Together.{IsLineTogether}
use Rattle.line_step.proofs.ChangedStandings.{line_stays}
use Rattle.line_step.proofs.Keeps.{does_together, lines_stay}
use Rattle.line_step.proofs.Unnamed.{apart_is}
use Rattle.law_lanes.specs.Lanes.{Lanes, beside, beside_nodes, has_lane, lines_of, track, tracks_with, with_track}
use Rattle.law_lanes.specs.Reasons.{and_may, first_track, may_shift}
use Rattle.law_lanes.specs.Shown.{standings_on}
use Rattle.law_lanes.specs.Steps.{LanesDo, Shifts, told_once}
use Rattle.law_lanes.proofs.Moving.{gets_does, gives_does, may_shift_is, step_like}
use Rattle.law_lanes.proofs.Sharing.{AreShared}
use Rattle.line_machines.specs.Given.{GivesBoard, is_bridge_at, is_bridge_in}
use Rattle.line_marks.specs.Indexed.{Entries, Follows, IsIndexOf, marks_in_entry, marks_listed}
use Rattle.line_marks.specs.Seats.{both, own_seat}
use Rattle.line_engine.specs.Seats.{seat_beside, seat_from, seat_listed, seat_told}
use Rattle.line_machines.specs.Sharing.{AreNumbered}
use Rattle.line_engine.specs.Sharing.{following}
use Rattle.line_engine.specs.Tracks.{AreKept, FollowsBoth, GivesOn, IsFollowing, IsLike, IsOwn, IsReady, MayOn, TakesOn, TellsDone, lanes_of, states_of, track_in, with_behind, with_index, with_state}
use Rattle.line_marks.specs.declared.seat.Seat.{Seat}
use Rattle.line_engine.specs.declared.track.Track.{Track}
use Rattle.line_engine.proofs.Alike.{Stepped, at_place, beside_numbered, beside_owned, beside_stands, kept_now, like_all, like_back, likes_at, likes_now, now_is, own_beside, shared_wide, state_at, tracks_now}
use Rattle.line_engine.proofs.Besides.{Touches, beside_alike, beside_track, one_touched, states_behind, tracks_behind, tracks_follow}
use Rattle.line_marks.proofs.Following.{listed_is}
use Rattle.line_engine.proofs.Lanes.{has_there}
use Rattle.line_machines.proofs.Numbering.{machine_numbered}
use Rattle.line_engine.proofs.OnLane.{alikes, behind_seats, behind_there, first_lines, follows_there, own_at, refused, states_now, touched_wide, track_is, unless_done, unless_not}
use Rattle.line_marks.proofs.Patched.{patched_is}
use Rattle.line_marks.proofs.Restored.{one_step}
use Rattle.line_engine.proofs.Seating.{beside_at, seats_apart}
use Rattle.line_engine.proofs.Standings.{flat_same, listed_own, seats_listed, standings_among}

-- ---- one machine of a lane steps

stepped_by : (number machine : ℕ) (input : Input) (before next : LineState) (done : List Happening) → MachineSteps number machine input before next done → LineDoes number (requests.gives machine input) before next done → IsLineTogether before → AreNumbered before → Stepped before next
stepped_by number machine input before next done steps does together numbered = record {
  wide = touched_wide machine machine before next (one_touched number machine input before before next done refl steps);
  lines = lines_stay number (requests.gives machine input) before next done does;
  together = does_together number (requests.gives machine input) before next done together does;
  numbered = machine_numbered number machine input before next done numbered steps;
}

follows_by : (number machine : ℕ) (input : Input) (before next : LineState) (done : List Happening) (ids : List ℕ) → MachineSteps number machine input before next done → LineDoes number (requests.gives machine input) before next done
    → ((id : ℕ) → has_id id ids ≡ false → has_id id (ids_named done) ≡ false) → Follows machine machine ids (owned before) (owned next)
follows_by number machine input before next done ids steps does less = record {
  named = λ id has. patched_is machine machine (owned before) (owned next) id (omega arith) (one_step number machine input before before next done refl steps);
  others = λ id none. line_stays id number (requests.gives machine input) before next done does (less id none);
}

-- it uses no id, and leaves whether it is supervised
all_shared : (nodes others : List NodeState) → AreShared nodes others → map shared_of nodes ≡ map shared_of others
all_shared [] [] are = refl
all_shared [] (other ∷ others) are = absurd are
all_shared (node ∷ nodes) [] are = absurd are
all_shared (node ∷ nodes) (other ∷ others) are =
    ap (λ (shared : SharedParts). shared ∷ map shared_of nodes) (shared_two node other are.0.maker are.0.supervised)
    ∙ ap (λ (shares : List SharedParts). shared_of other ∷ shares) (all_shared nodes others are.1)
  where
    shared_two : (node other : NodeState) → other.maker ≡ node.maker → other.supervised ≡ node.supervised → shared_of node ≡ shared_of other
    shared_two node other maker supervised = rw (maker, supervised) refl

-- ---- two places of a list

pub get_behind : (p q : ℕ) (x : Track) (tracks : List Track) → p ≢ q → slice_get (with_behind p x tracks) q ≡ slice_get tracks q
get_behind p q x [] apart = refl
get_behind zero zero x (first ∷ tracks) apart = absurd (apart refl)
get_behind zero (suc q) x (first ∷ tracks) apart = refl
get_behind (suc p) zero x (first ∷ tracks) apart = refl
get_behind (suc p) (suc q) x (first ∷ tracks) apart = get_behind p q x tracks (λ same. apart (ap suc same))

map_at : (q : ℕ) (next : LineState) (tracks : List Track) (t : Track) → slice_get tracks q ≡ Some t → slice_get (map (beside_track next) tracks) q ≡ Some (beside_track next t)
map_at q next [] t there = absurd (cc)
map_at zero next (first ∷ tracks) t there = let same : first ≡ t = cc in ap (λ (u : Track). Some (beside_track next u)) same
map_at (suc q) next (first ∷ tracks) t there = map_at q next tracks t there

other_at : (p q : ℕ) (next : LineState) (tracks : List Track) (t : Track) → p ≢ q → slice_get tracks q ≡ Some t → slice_get (tracks_behind p next tracks) q ≡ Some (beside_track next t)
other_at p q next [] t apart there = absurd (cc)
other_at zero zero next (first ∷ tracks) t apart there = absurd (apart refl)
other_at zero (suc q) next (first ∷ tracks) t apart there = map_at q next tracks t there
other_at (suc p) zero next (first ∷ tracks) t apart there = let same : first ≡ t = cc in ap (λ (u : Track). Some (beside_track next u)) same
other_at (suc p) (suc q) next (first ∷ tracks) t apart there = other_at p q next tracks t (λ same. apart (ap suc same)) there

-- what stood there before
pub record Was (next : LineState) (tracks : List Track) (q : ℕ) (now : Track) : Type 0 where
  pub own : Track
  pub there : slice_get tracks q ≡ Some own
  pub is : now ≡ beside_track next own

map_was : (q : ℕ) (next : LineState) (tracks : List Track) (now : Track) → slice_get (map (beside_track next) tracks) q ≡ Some now → Was next tracks q now
map_was q next [] now there = absurd (cc)
map_was zero next (first ∷ tracks) now there = let same : beside_track next first ≡ now = cc in record { own = first; there = refl; is = sym same }
map_was (suc q) next (first ∷ tracks) now there = let w = map_was q next tracks now there in record { own = w.own; there = w.there; is = w.is }

was_at : (p q : ℕ) (next : LineState) (tracks : List Track) (now : Track) → p ≢ q → slice_get (tracks_behind p next tracks) q ≡ Some now → Was next tracks q now
was_at p q next [] now apart there = absurd (cc)
was_at zero zero next (first ∷ tracks) now apart there = absurd (apart refl)
was_at zero (suc q) next (first ∷ tracks) now apart there = let w = map_was q next tracks now there in record { own = w.own; there = w.there; is = w.is }
was_at (suc p) zero next (first ∷ tracks) now apart there = let same : beside_track next first ≡ now = cc in record { own = first; there = refl; is = sym same }
was_at (suc p) (suc q) next (first ∷ tracks) now apart there = let w = was_at p q next tracks now (λ same. apart (ap suc same)) there in record { own = w.own; there = w.there; is = w.is }

map_with : (q : ℕ) (next : LineState) (x : Track) (tracks : List Track) → map (beside_track next) (with_behind q x tracks) ≡ with_behind q (beside_track next x) (map (beside_track next) tracks)
map_with q next x [] = refl
map_with zero next x (first ∷ tracks) = refl
map_with (suc q) next x (first ∷ tracks) = ap (λ (ts : List Track). beside_track next first ∷ ts) (map_with q next x tracks)

swap_behind : (p q : ℕ) (next : LineState) (x : Track) (tracks : List Track) → p ≢ q → tracks_behind p next (with_behind q x tracks) ≡ with_behind q (beside_track next x) (tracks_behind p next tracks)
swap_behind p q next x [] apart = refl
swap_behind zero zero next x (first ∷ tracks) apart = absurd (apart refl)
swap_behind zero (suc q) next x (first ∷ tracks) apart = ap (λ (ts : List Track). record first { state = next } ∷ ts) (map_with q next x tracks)
swap_behind (suc p) zero next x (first ∷ tracks) apart = refl
swap_behind (suc p) (suc q) next x (first ∷ tracks) apart = ap (λ (ts : List Track). beside_track next first ∷ ts) (swap_behind p q next x tracks (λ same. apart (ap suc same)))

-- ---- seats

map_listed : (id lane : ℕ) (next : LineState) (tracks : List Track) → seat_listed id lane (map (beside_track next) tracks) ≡ seat_listed id lane tracks
map_listed id lane next [] = refl
map_listed id lane next (track ∷ tracks) = ap (both (own_seat lane (marks_listed track.index id))) (map_listed id (lane + 1) next tracks)

behind_listed : (id lane place : ℕ) (next : LineState) (tracks : List Track) → seat_listed id lane (tracks_behind place next tracks) ≡ seat_listed id lane tracks
behind_listed id lane place next [] = refl
behind_listed id lane zero next (first ∷ tracks) = ap (both (own_seat lane (marks_listed first.index id))) (map_listed id (lane + 1) next tracks)
behind_listed id lane (suc place) next (first ∷ tracks) = ap (both (own_seat lane (marks_listed first.index id))) (behind_listed id (lane + 1) place next tracks)

-- an id whose marks on the lane stayed is seated as it was
seat_stays : (id place : ℕ) (tracks : List Track) (own : Track) (next : LineState) (index : Entries) → IsOwn own → slice_get tracks place ≡ Some own → IsIndexOf index (owned next) → marks_in own.state id ≡ marks_in next id
    → seat_listed id 1 tracks ≡ seat_listed id 1 (tracks_now place next index tracks)
seat_stays id place tracks own next index mine there index_is same =
    let now : Track = record { state = next; index = index } in
    let behind : List Track = tracks_behind place next tracks in
    let others : Seat = seat_beside (suc place) id 1 behind in
    let was : seat_listed id 1 tracks ≡ both (own_seat (suc place) (marks_in own.state id)) others =
    seats_apart id (suc place) tracks own there
    ∙ ap (λ (ms : List Mark). both (own_seat (suc place) ms) (seat_beside (suc place) id 1 tracks)) (listed_own id own mine)
    ∙ ap (both (own_seat (suc place) (marks_in own.state id))) (sym (behind_seats id (suc place) 1 place next tracks)) in
    let is : seat_listed id 1 (tracks_now place next index tracks) ≡ both (own_seat (suc place) (marks_in next id)) others =
    ap (seat_listed id 1) (sym (now_is place next index tracks))
    ∙ seats_apart id (suc place) (with_behind place now behind) now (behind_there place behind (record own { state = next }) now (follows_there place next tracks own there))
    ∙ ap (λ (ms : List Mark). both (own_seat (suc place) ms) (seat_beside (suc place) id 1 (with_behind place now behind))) (ap marks_in_entry (index_is.at id) ∙ listed_is (marks_in next id))
    ∙ ap (both (own_seat (suc place) (marks_in next id))) (beside_at id place behind now) in
    was ∙ ap (λ (ms : List Mark). both (own_seat (suc place) ms) others) same ∙ sym is

-- ---- a shift

-- the two lanes and their steps
pub record IsShift (number machine pf pt id : ℕ) (tracks : List Track) (giver taker : Track) (gave got : LineState) (given taken : List Happening) (board : Record) : Type 0 where
  pub kept : AreKept tracks
  pub apart : pf ≢ pt
  pub from : slice_get tracks pf ≡ Some giver
  pub to : slice_get tracks pt ≡ Some taker
  pub gives : GivesBoard number machine id (suc pt) giver.state gave given board
  pub gives_does : LineDoes number (requests.gives machine (inputs.Gives id (suc pt))) giver.state gave given
  pub takes : MachineSteps number machine (inputs.Gets board) (beside gave taker.state) got taken
  pub takes_does : LineDoes number (requests.gives machine (inputs.Gets board)) (beside gave taker.state) got taken

-- what is known of them
pub record IsKnown (giver taker : Track) (gave got : LineState) (pf pt : ℕ) (tracks : List Track) : Type 0 where
  pub mine : IsOwn giver
  pub first : Stepped giver.state gave
  pub other : IsOwn (beside_track gave taker)
  pub second : Stepped (beside gave taker.state) got
  pub likes : AllByRecursion (IsLike (beside gave taker.state)) (states_of (tracks_behind pf gave tracks))
  pub wide : length got.machines ≡ length gave.machines

pub known : (number machine pf pt id : ℕ) (tracks : List Track) (giver taker : Track) (gave got : LineState) (given taken : List Happening) (board : Record) → IsShift number machine pf pt id tracks giver taker gave got given taken board → IsKnown giver taker gave got pf pt tracks
known number machine pf pt id tracks giver taker gave got given taken board d =
    let mine : IsOwn giver = own_at pf tracks giver d.kept.each d.from in
    let first : Stepped giver.state gave = stepped_by number machine (inputs.Gives id (suc pt)) giver.state gave given d.gives.steps d.gives_does mine.together mine.numbered in
    let likes : AllByRecursion (IsLike giver.state) (states_of tracks) = likes_at pf tracks giver d.kept d.from in
    let like : IsLike giver.state taker.state = at_place giver.state taker.state (states_of tracks) pt likes (state_at pt tracks taker d.to) in
    let wide : length gave.machines ≡ length taker.state.machines = first.wide ∙ shared_wide giver.state.machines taker.state.machines like.shared in
    let other : IsOwn (beside_track gave taker) = own_beside gave taker wide first.numbered (own_at pt tracks taker d.kept.each d.to) in
    let second : Stepped (beside gave taker.state) got = stepped_by number machine (inputs.Gets board) (beside gave taker.state) got taken d.takes d.takes_does other.together other.numbered in
    let all : AllByRecursion (IsLike gave) (states_of (tracks_behind pf gave tracks)) =
    subst (λ (ss : List LineState). AllByRecursion (IsLike gave) ss) (states_now pf gave giver.index tracks ∙ sym (states_behind pf gave tracks)) (likes_now pf giver.state gave giver.index tracks first likes) in
    let there : slice_get (states_of (tracks_behind pf gave tracks)) pt ≡ Some (beside gave taker.state) =
    state_at pt (tracks_behind pf gave tracks) (beside_track gave taker) (other_at pf pt gave tracks taker d.apart d.to) in
    let near : IsLike gave (beside gave taker.state) = at_place gave (beside gave taker.state) (states_of (tracks_behind pf gave tracks)) pt all there in
    record {
      mine = mine;
      first = first;
      other = other;
      second = second;
      likes = like_all (beside gave taker.state) gave (states_of (tracks_behind pf gave tracks)) (like_back gave (beside gave taker.state) near) all;
      wide = second.wide ∙ sym (shared_wide gave.machines (beside_nodes gave.machines taker.state.machines) near.shared);
    }

pub record ShiftMade (number machine from to id : ℕ) (tracks five : List Track) (old new : List LaneHappening) : Type 0 where
  pub tells : TellsDone (LanesDo number (lane_lines.Shift machine from to id)) tracks five old new
  pub kept : AreKept five
  pub lines : lines_of (lanes_of five) ≡ lines_of (lanes_of tracks)

taker_there : (pf pt : ℕ) (tracks : List Track) (taker : Track) (gave : LineState) (index : Entries) → pf ≢ pt → slice_get tracks pt ≡ Some taker → slice_get (tracks_now pf gave index tracks) pt ≡ Some (beside_track gave taker)
taker_there pf pt tracks taker gave index apart to =
    ap (λ (ts : List Track). slice_get ts pt) (sym (now_is pf gave index tracks))
    ∙ get_behind pf pt (record { state = gave; index = index }) (tracks_behind pf gave tracks) apart
    ∙ other_at pf pt gave tracks taker apart to

-- the taker's lane behind the first step
taker_is : (pf pt : ℕ) (tracks : List Track) (taker : Track) (gave : LineState) → pf ≢ pt → slice_get tracks pt ≡ Some taker → track (suc pt) (with_track (suc pf) gave (lanes_of tracks)) ≡ beside gave taker.state
taker_is pf pt tracks taker gave apart to =
    ap (λ (s : Lanes). track (suc pt) s) (ap (λ (ss : List LineState). record (lanes_of tracks) { tracks = ss }) (ap (λ (n : ℕ). tracks_with n gave (states_of tracks)) (sub-one (suc pf)) ∙ sym (states_behind pf gave tracks)))
    ∙ track_is (suc pt) (tracks_behind pf gave tracks) (beside_track gave taker) (other_at pf pt gave tracks taker apart to)

both_now : (pf pt : ℕ) (tracks : List Track) (gave got : LineState) (gi ki : Entries) → lanes_of (tracks_now pt got ki (tracks_now pf gave gi tracks)) ≡ with_track (suc pt) got (with_track (suc pf) gave (lanes_of tracks))
both_now pf pt tracks gave got gi ki =
    ap (λ (ss : List LineState). record (lanes_of tracks) { tracks = ss })
    (states_now pt got ki (tracks_now pf gave gi tracks)
    ∙ ap (λ (ss : List LineState). tracks_with pt got ss) (states_now pf gave gi tracks)
    ∙ ap (λ (n : ℕ). tracks_with n got (tracks_with pf gave (states_of tracks))) (sym (sub-one (suc pt)))
    ∙ ap (λ (n : ℕ). tracks_with (suc pt - 1) got (tracks_with n gave (states_of tracks))) (sym (sub-one (suc pf))))

pub shift_ends : (number machine pf pt id : ℕ) (tracks : List Track) (giver taker : Track) (gave got : LineState) (given taken : List Happening) (board : Record) (gi ki : Entries) (old new : List LaneHappening)
    → IsShift number machine pf pt id tracks giver taker gave got given taken board → may_shift machine (suc pf) (suc pt) id (lanes_of tracks) ≡ may_do
    → IsIndexOf gi (owned gave) → IsIndexOf ki (owned got)
    → new ≡ old ++ (shift_told (suc pf) (suc pt) given taken
    ++ flat_map (λ (id : ℕ). seat_told id (seat_listed id 1 tracks) (seat_listed id 1 (tracks_now pt got ki (tracks_now pf gave gi tracks)))) (ascending (ids_named (given ++ taken))))
    → ShiftMade number machine (suc pf) (suc pt) id tracks (tracks_now pt got ki (tracks_now pf gave gi tracks)) old new
shift_ends number machine pf pt id tracks giver taker gave got given taken board gi ki old new d may gi_is ki_is told =
    let k : IsKnown giver taker gave got pf pt tracks = known number machine pf pt id tracks giver taker gave got given taken board d in
    let middle : List Track = tracks_now pf gave gi tracks in
    let after : List Track = tracks_now pt got ki middle in
    let there : slice_get middle pt ≡ Some (beside_track gave taker) = taker_there pf pt tracks taker gave gi d.apart d.to in
    let kept_middle : AreKept middle = kept_now pf gave gi tracks giver d.kept d.from k.first gi_is in
    let kept : AreKept after = kept_now pt got ki middle (beside_track gave taker) kept_middle there k.second ki_is in
    let by : GivesBoard number machine id (suc pt) (track (suc pf) (lanes_of tracks)) gave given board =
    subst (λ (s : LineState). GivesBoard number machine id (suc pt) s gave given board) (sym (track_is (suc pf) tracks giver d.from)) d.gives in
    let stays : (own : ℕ) → has_id own (ids_named (given ++ taken)) ≡ false → seat_from own 1 (states_of tracks) ≡ seat_from own 1 (states_of after) =
    λ own none. (
    let two = apart_is own ids_of_happening given taken none in
    sym (seats_listed own 1 tracks d.kept.each)
    ∙ seat_stays own pf tracks giver gave gi k.mine d.from gi_is (line_stays own number (requests.gives machine (inputs.Gives id (suc pt))) giver.state gave given d.gives_does two.0)
    ∙ seat_stays own pt middle (beside_track gave taker) got ki k.other there ki_is (line_stays own number (requests.gives machine (inputs.Gets board)) (beside gave taker.state) got taken d.takes_does two.1)
    ∙ seats_listed own 1 after kept.each) in
    let standings : standings_on (lanes_of tracks) (lanes_of after) ≡ flat_map (λ (own : ℕ). seat_told own (seat_listed own 1 tracks) (seat_listed own 1 after)) (ascending (ids_named (given ++ taken))) =
    standings_among (ids_named (given ++ taken)) tracks after d.kept.each kept.each stays in
    record {
      tells = record {
        done = shift_told (suc pf) (suc pt) given taken;
        does = unless_done (may_shift machine (suc pf) (suc pt) id (lanes_of tracks)) (lanes_of tracks) (lanes_of after) (shift_told (suc pf) (suc pt) given taken) (Shifts number machine (suc pf) (suc pt) id (lanes_of tracks) (lanes_of after) (shift_told (suc pf) (suc pt) given taken)) may
            (record {
              gave = gave;
              given = given;
              gives = by.steps;
              board = board;
              is = by.is;
              got = got;
              taken = taken;
              gets = subst (λ (s : LineState). MachineSteps number machine (inputs.Gets board) s got taken) (sym (taker_is pf pt tracks taker gave d.apart d.to)) d.takes;
              after_is = both_now pf pt tracks gave got gi ki;
              told_is = refl;
            });
        now_is = told ∙ ap (λ (more : List LaneHappening). old ++ (shift_told (suc pf) (suc pt) given taken ++ more)) (sym standings);
      };
      kept = kept;
      lines = first_lines pt (beside gave taker.state) got ki middle k.second.lines (likes_at pt middle (beside_track gave taker) kept_middle there)
          ∙ first_lines pf giver.state gave gi tracks k.first.lines (likes_at pf tracks giver d.kept d.from);
    }

-- ---- from the steps of the code

-- a lane that is there has a track
pub record HasTrack (place : ℕ) (tracks : List Track) : Type 0 where
  pub own : Track
  pub there : slice_get tracks place ≡ Some own

has_track : (place : ℕ) (tracks : List Track) → place + 1 ≤ length (states_of tracks) → HasTrack place tracks
has_track place [] within = absurd (omega (arith, within))
has_track zero (first ∷ tracks) within = record { own = first; there = refl }
has_track (suc place) (first ∷ tracks) within = let h = has_track place tracks (omega (arith, within)) in record { own = h.own; there = h.there }

may_at : (lane : ℕ) (tracks : List Track) (own : Track) (may : LineState → May) → AreKept tracks → track_in lane tracks ≡ Some own → may (track lane (lanes_of tracks)) ≡ may_do → MayOn lane may tracks
may_at zero tracks own may kept there is = absurd (cc)
may_at (suc place) tracks own may kept there is =
    subst (λ (found : Option Track). IsSomeAnd found (λ (one : Track). IsLineTogether one.state × (may one.state ≡ may_do))) (sym there)
    ((own_at place tracks own kept.each there).together, ap may (sym (track_is (suc place) tracks own there)) ∙ is)

-- the giver may give
pub may_give : (machine from to id : ℕ) (tracks : List Track) → AreKept tracks → may_shift machine from to id (lanes_of tracks) ≡ may_do → MayOn from (may_give_away machine id) tracks
may_give machine zero to id tracks kept may = let ms = may_shift_is machine zero to id (lanes_of tracks) may in absurd (omega (arith, ms.giver.0))
may_give machine (suc pf) to id tracks kept may =
    let ms = may_shift_is machine (suc pf) to id (lanes_of tracks) may in
    let h = has_track pf tracks (omega (arith, ms.giver.1)) in
    may_at (suc pf) tracks h.own (may_give_away machine id) kept h.there ms.gives

ready_at : (lane : ℕ) (tracks : List Track) (own : Track) → track_in lane tracks ≡ Some own → IsLineTogether own.state → AreNumbered own.state → IsReady lane tracks
ready_at lane tracks own there together numbered =
    subst (λ (found : Option Track). IsSomeAnd found (λ (one : Track). IsLineTogether one.state × AreNumbered one.state)) (sym there) (together, numbered)

one_is : (place : ℕ) (tracks one : List Track) (own : Track) (next : LineState) → one ≡ with_state (suc place) next own tracks → one ≡ with_behind place (record own { state = next }) tracks
one_is place tracks one own next is = is ∙ ap (λ (n : ℕ). with_behind n (record own { state = next }) tracks) (sub-one (suc place))

-- the tracks behind what lanes share
two_is : (place machine : ℕ) (tracks one two : List Track) (own : Track) (next : LineState) → slice_get tracks place ≡ Some own → Touches machine machine own.state next → AllByRecursion (IsLike own.state) (states_of tracks)
    → one ≡ with_behind place (record own { state = next }) tracks → IsFollowing (suc place) machine machine one two → two ≡ tracks_behind place next tracks
two_is place machine tracks one two own next there touched likes is shares =
    let now : Track = record own { state = next } in
    let found : slice_get one place ≡ Some now = ap (λ (ts : List Track). slice_get ts place) is ∙ behind_there place tracks own now there in
    let seen : slice_get one place ≡ Some shares.own = shares.there in
    let same : shares.own ≡ now = cc in
    shares.after_is ∙ ap (λ (t : Track). following machine machine t.state one) same ∙ ap (following machine machine next) is
    ∙ tracks_follow machine machine place own.state next own tracks touched (alikes own.state tracks likes) there

-- as far as the giver's step
pub record IsGiven (number machine pf to id : ℕ) (tracks one : List Track) (given : List Happening) (board : Record) : Type 0 where
  pub giver : Track
  pub gave : LineState
  pub from : slice_get tracks pf ≡ Some giver
  pub gives : GivesBoard number machine id to giver.state gave given board
  pub does : LineDoes number (requests.gives machine (inputs.Gives id to)) giver.state gave given
  pub first : Stepped giver.state gave
  pub touched : Touches machine machine giver.state gave
  pub likes : AllByRecursion (IsLike giver.state) (states_of tracks)
  pub one_is : one ≡ with_behind pf (record giver { state = gave }) tracks

given_of : (number machine pf to id : ℕ) (tracks one : List Track) (given : List Happening) (board : Record) → AreKept tracks → may_shift machine (suc pf) to id (lanes_of tracks) ≡ may_do → GivesOn number machine (suc pf) id to tracks one given board
    → IsGiven number machine pf to id tracks one given board
given_of number machine pf to id tracks one given board kept may g =
    let ms = may_shift_is machine (suc pf) to id (lanes_of tracks) may in
    let mine : IsOwn g.own = own_at pf tracks g.own kept.each g.there in
    let can : may_give_away machine id g.own.state ≡ may_do = ap (may_give_away machine id) (sym (track_is (suc pf) tracks g.own g.there)) ∙ ms.gives in
    let does = gives_does number machine id to g.own.state g.next given can g.does.steps in
    record {
      giver = g.own;
      gave = g.next;
      from = g.there;
      gives = g.does;
      does = does;
      first = stepped_by number machine (inputs.Gives id to) g.own.state g.next given g.does.steps does mine.together mine.numbered;
      touched = one_touched number machine (inputs.Gives id to) g.own.state g.own.state g.next given refl g.does.steps;
      likes = likes_at pf tracks g.own kept g.there;
      one_is = one_is pf tracks one g.own g.next g.after_is;
    }

-- the lanes may follow the giver
pub gave_ready : (number machine from to id : ℕ) (tracks one : List Track) (given : List Happening) (board : Record) → AreKept tracks → may_shift machine from to id (lanes_of tracks) ≡ may_do → GivesOn number machine from id to tracks one given board → IsReady from one
gave_ready number machine zero to id tracks one given board kept may g = let none = g.there in absurd (cc)
gave_ready number machine (suc pf) to id tracks one given board kept may g =
    let d = given_of number machine pf to id tracks one given board kept may g in
    ready_at (suc pf) one (record d.giver { state = d.gave }) (ap (λ (ts : List Track). slice_get ts pf) d.one_is ∙ behind_there pf tracks d.giver (record d.giver { state = d.gave }) d.from) d.first.together d.first.numbered

-- what lanes share stays in a shift
same_state : (number machine to id : ℕ) (giver : LineState) (gave other : LineState) (given : List Happening) → MachineSteps number machine (inputs.Gives id to) giver gave given → IsLike giver other → beside gave other ≡ other
same_state number machine to id giver gave other given steps like =
    let l = step_like number machine (inputs.Gives id to) giver gave given steps (λ m. refl) (λ b. refl) in
    let shared : map shared_of gave.machines ≡ map shared_of other.machines = sym (all_shared giver.machines gave.machines l.machines) ∙ like.shared in
    ap (λ (ns : List NodeState). record other { machines = ns; unvouched = gave.unvouched }) (beside_alike gave.machines other.machines shared)
    ∙ ap (λ (u : Option ℕ). record other { unvouched = u }) (l.unvouched ∙ like.unvouched)

-- as far as what lanes share behind it
pub record IsBetween (number machine pf pt id : ℕ) (tracks one two : List Track) (given : List Happening) (board : Record) : Type 0 where
  pub was : IsGiven number machine pf (suc pt) id tracks one given board
  pub apart : pf ≢ pt
  pub taker : Track
  pub to : slice_get tracks pt ≡ Some taker
  pub two_is : two ≡ tracks_behind pf was.gave tracks
  pub same : beside was.gave taker.state ≡ taker.state
  pub may : may_take_in machine (beside was.gave taker.state) ≡ may_do
  pub other : IsOwn taker

between_of : (number machine pf pt id : ℕ) (tracks one two : List Track) (given : List Happening) (board : Record) → AreKept tracks → may_shift machine (suc pf) (suc pt) id (lanes_of tracks) ≡ may_do → GivesOn number machine (suc pf) id (suc pt) tracks one given board
    → IsFollowing (suc pf) machine machine one two → IsBetween number machine pf pt id tracks one two given board
between_of number machine pf pt id tracks one two given board kept may g shares =
    let was = given_of number machine pf (suc pt) id tracks one given board kept may g in
    let ms = may_shift_is machine (suc pf) (suc pt) id (lanes_of tracks) may in
    let h = has_track pt tracks (omega (arith, ms.taker.1)) in
    let like : IsLike was.giver.state h.own.state = at_place was.giver.state h.own.state (states_of tracks) pt was.likes (state_at pt tracks h.own h.there) in
    let same : beside was.gave h.own.state ≡ h.own.state = same_state number machine (suc pt) id was.giver.state was.gave h.own.state given was.gives.steps like in
    record {
      was = was;
      apart = λ equal. ms.apart (ap suc equal);
      taker = h.own;
      to = h.there;
      two_is = two_is pf machine tracks one two was.giver was.gave was.from was.touched was.likes was.one_is shares;
      same = same;
      may = ap (may_take_in machine) same ∙ ap (may_take_in machine) (sym (track_is (suc pt) tracks h.own h.there)) ∙ ms.takes;
      other = own_at pt tracks h.own kept.each h.there;
    }

taker_at_two : {number machine pf pt id : ℕ} {tracks one two : List Track} {given : List Happening} {board : Record} → (b : IsBetween number machine pf pt id tracks one two given board) → slice_get two pt ≡ Some (beside_track b.was.gave b.taker)
taker_at_two {pf = pf} {pt = pt} {tracks = tracks} b = ap (λ (ts : List Track). slice_get ts pt) b.two_is ∙ other_at pf pt b.was.gave tracks b.taker b.apart b.to

-- the taker may take
pub may_take : (number machine from to id : ℕ) (tracks one two : List Track) (given : List Happening) (board : Record) → AreKept tracks → may_shift machine from to id (lanes_of tracks) ≡ may_do → GivesOn number machine from id to tracks one given board
    → IsFollowing from machine machine one two → MayOn to (may_take_in machine) two
may_take number machine zero to id tracks one two given board kept may g shares = let none = g.there in absurd (cc)
may_take number machine (suc pf) zero id tracks one two given board kept may g shares = let ms = may_shift_is machine (suc pf) zero id (lanes_of tracks) may in absurd (omega (arith, ms.taker.0))
may_take number machine (suc pf) (suc pt) id tracks one two given board kept may g shares =
    let b = between_of number machine pf pt id tracks one two given board kept may g shares in
    subst (λ (found : Option Track). IsSomeAnd found (λ (one : Track). IsLineTogether one.state × (may_take_in machine one.state ≡ may_do))) (sym (taker_at_two b))
    (subst (λ (s : LineState). IsLineTogether s) (sym b.same) b.other.together, b.may)

-- as far as what lanes share behind the taker's step
pub record IsBehind (number machine pf pt id : ℕ) (tracks one two three four : List Track) (given got : List Happening) (board : Record) : Type 0 where
  pub was : IsBetween number machine pf pt id tracks one two given board
  pub next : LineState
  pub done : IsShift number machine pf pt id tracks was.was.giver was.taker was.was.gave next given got board
  pub three_is : three ≡ with_behind pt (record was.taker { state = next }) (tracks_behind pf was.was.gave tracks)
  pub four_is : four ≡ tracks_behind pt next (tracks_behind pf was.was.gave tracks)

taken_does : (number machine : ℕ) (board : Record) (before next : LineState) (told : List Happening) → may_take_in machine before ≡ may_do → MachineSteps number machine (inputs.Gets board) before next told → LineDoes number (requests.gives machine (inputs.Gets board)) before next told
taken_does number machine board before next told may steps = gets_does number machine board before next told may steps

behind_of : (number machine pf pt id : ℕ) (tracks one two three four : List Track) (given got : List Happening) (board : Record) → AreKept tracks → may_shift machine (suc pf) (suc pt) id (lanes_of tracks) ≡ may_do
    → GivesOn number machine (suc pf) id (suc pt) tracks one given board → IsFollowing (suc pf) machine machine one two → TakesOn number machine (suc pt) board two three got → IsFollowing (suc pt) machine machine three four
    → IsBehind number machine pf pt id tracks one two three four given got board
behind_of number machine pf pt id tracks one two three four given got board kept may g shares t shared =
    let b = between_of number machine pf pt id tracks one two given board kept may g shares in
    let taker : Track = beside_track b.was.gave b.taker in
    let there : slice_get two pt ≡ Some taker = taker_at_two b in
    let seen : slice_get two pt ≡ Some t.own = t.there in
    let same : t.own ≡ taker = cc in
    let steps : MachineSteps number machine (inputs.Gets board) (beside b.was.gave b.taker.state) t.next got = subst (λ (own : Track). MachineSteps number machine (inputs.Gets board) own.state t.next got) same t.does in
    let d : IsShift number machine pf pt id tracks b.was.giver b.taker b.was.gave t.next given got board = record {
      kept = kept;
      apart = b.apart;
      from = b.was.from;
      to = b.to;
      gives = b.was.gives;
      gives_does = b.was.does;
      takes = steps;
      takes_does = taken_does number machine board (beside b.was.gave b.taker.state) t.next got b.may steps;
    } in
    let k = known number machine pf pt id tracks b.was.giver b.taker b.was.gave t.next given got board d in
    let middle : List Track = tracks_behind pf b.was.gave tracks in
    let at : slice_get middle pt ≡ Some taker = ap (λ (ts : List Track). slice_get ts pt) (sym b.two_is) ∙ there in
    let three_is : three ≡ with_behind pt (record taker { state = t.next }) middle =
    one_is pt two three t.own t.next t.after_is ∙ ap (λ (own : Track). with_behind pt (record own { state = t.next }) two) same ∙ ap (with_behind pt (record taker { state = t.next })) b.two_is in
    record {
      was = b;
      next = t.next;
      done = d;
      three_is = three_is;
      four_is = two_is pt machine middle three four taker t.next at (one_touched number machine (inputs.Gets board) (beside b.was.gave b.taker.state) (beside b.was.gave b.taker.state) t.next got refl steps) k.likes three_is shared;
    }

pub got_ready : (number machine from to id : ℕ) (tracks one two three : List Track) (given got : List Happening) (board : Record) → AreKept tracks → may_shift machine from to id (lanes_of tracks) ≡ may_do
    → GivesOn number machine from id to tracks one given board → IsFollowing from machine machine one two → TakesOn number machine to board two three got → IsReady to three
got_ready number machine zero to id tracks one two three given got board kept may g shares t = let none = g.there in absurd (cc)
got_ready number machine (suc pf) zero id tracks one two three given got board kept may g shares t = let none = t.there in absurd (cc)
got_ready number machine (suc pf) (suc pt) id tracks one two three given got board kept may g shares t =
    let b = between_of number machine pf pt id tracks one two given board kept may g shares in
    let there : slice_get two pt ≡ Some (beside_track b.was.gave b.taker) = taker_at_two b in
    let seen : slice_get two pt ≡ Some t.own = t.there in
    let same : t.own ≡ beside_track b.was.gave b.taker = cc in
    let state_is : t.own.state ≡ b.taker.state = ap (λ (own : Track). own.state) same ∙ b.same in
    let steps : MachineSteps number machine (inputs.Gets board) b.taker.state t.next got = subst (λ (s : LineState). MachineSteps number machine (inputs.Gets board) s t.next got) state_is t.does in
    let can : may_take_in machine b.taker.state ≡ may_do = ap (may_take_in machine) (sym b.same) ∙ b.may in
    let s : Stepped b.taker.state t.next = stepped_by number machine (inputs.Gets board) b.taker.state t.next got steps (taken_does number machine board b.taker.state t.next got can steps) b.other.together b.other.numbered in
    ready_at (suc pt) three (record t.own { state = t.next })
    (ap (λ (ts : List Track). slice_get ts pt) (one_is pt two three t.own t.next t.after_is) ∙ behind_there pt two t.own (record t.own { state = t.next }) t.there) s.together s.numbered

-- what stands at the two lanes then
giver_at_four : {number machine pf pt id : ℕ} {tracks one two three four : List Track} {given got : List Happening} {board : Record} → (b : IsBehind number machine pf pt id tracks one two three four given got board)
    → slice_get four pf ≡ Some (beside_track b.next (record b.was.was.giver { state = b.was.was.gave }))
giver_at_four {pf = pf} {pt = pt} {tracks = tracks} b =
    ap (λ (ts : List Track). slice_get ts pf) b.four_is
    ∙ other_at pt pf b.next (tracks_behind pf b.was.was.gave tracks) (record b.was.was.giver { state = b.was.was.gave }) (λ same. b.was.apart (sym same)) (follows_there pf b.was.was.gave tracks b.was.was.giver b.was.was.from)

taker_at_four : {number machine pf pt id : ℕ} {tracks one two three four : List Track} {given got : List Happening} {board : Record} → (b : IsBehind number machine pf pt id tracks one two three four given got board)
    → slice_get four pt ≡ Some (record b.was.taker { state = b.next })
taker_at_four {pf = pf} {pt = pt} {tracks = tracks} b =
    ap (λ (ts : List Track). slice_get ts pt) b.four_is
    ∙ follows_there pt b.next (tracks_behind pf b.was.was.gave tracks) (beside_track b.was.was.gave b.was.taker) (other_at pf pt b.was.was.gave tracks b.was.taker b.was.apart b.was.to)

known_of : {number machine pf pt id : ℕ} {tracks one two three four : List Track} {given got : List Happening} {board : Record} → (b : IsBehind number machine pf pt id tracks one two three four given got board)
    → IsKnown b.was.was.giver b.was.taker b.was.was.gave b.next pf pt tracks
known_of {number} {machine} {pf} {pt} {id} {tracks} {given = given} {got = got} {board = board} b =
    known number machine pf pt id tracks b.was.was.giver b.was.taker b.was.was.gave b.next given got board b.done

pub record AreReady (from to : ℕ) (four : List Track) : Type 0 where
  pub few : length four ≤ 4
  pub giver : IsReady from four
  pub taker : IsReady to four

map_long : (next : LineState) (tracks : List Track) → length (map (beside_track next) tracks) ≡ length tracks
map_long next [] = refl
map_long next (one ∷ tracks) = ap (λ (n : ℕ). suc n) (map_long next tracks)

behind_long : (place : ℕ) (next : LineState) (tracks : List Track) → length (tracks_behind place next tracks) ≡ length tracks
behind_long place next [] = refl
behind_long zero next (own ∷ others) = ap (λ (n : ℕ). suc n) (map_long next others)
behind_long (suc place) next (other ∷ others) = ap (λ (n : ℕ). suc n) (behind_long place next others)

pub both_ready : (number machine from to id : ℕ) (tracks one two three four : List Track) (given got : List Happening) (board : Record) → AreKept tracks → may_shift machine from to id (lanes_of tracks) ≡ may_do
    → GivesOn number machine from id to tracks one given board → IsFollowing from machine machine one two → TakesOn number machine to board two three got → IsFollowing to machine machine three four → AreReady from to four
both_ready number machine zero to id tracks one two three four given got board kept may g shares t shared = let none = g.there in absurd (cc)
both_ready number machine (suc pf) zero id tracks one two three four given got board kept may g shares t shared = let none = t.there in absurd (cc)
both_ready number machine (suc pf) (suc pt) id tracks one two three four given got board kept may g shares t shared =
    let b = behind_of number machine pf pt id tracks one two three four given got board kept may g shares t shared in
    let k = known_of b in
    let gave : LineState = b.was.was.gave in
    record {
      few = subst (λ (n : ℕ). n ≤ 4) (sym (ap (λ (ts : List Track). length ts) b.four_is ∙ behind_long pt b.next (tracks_behind pf gave tracks) ∙ behind_long pf gave tracks)) kept.few;
      giver = ready_at (suc pf) four (beside_track b.next (record b.was.was.giver { state = gave })) (giver_at_four b) (beside_stands b.next gave k.wide k.first.together) (beside_numbered b.next gave k.wide k.second.numbered);
      taker = ready_at (suc pt) four (record b.was.taker { state = b.next }) (taker_at_four b) k.second.together k.second.numbered;
    }

-- both indexes follow
less_first : (given got : List Happening) (id : ℕ) → has_id id (ids_named (given ++ got)) ≡ false → has_id id (ids_named given) ≡ false
less_first given got id none = (apart_is id ids_of_happening given got none).0

less_second : (given got : List Happening) (id : ℕ) → has_id id (ids_named (given ++ got)) ≡ false → has_id id (ids_named got) ≡ false
less_second given got id none = (apart_is id ids_of_happening given got none).1

pub shift_made : (number machine from to id : ℕ) (tracks one two three four five : List Track) (given got : List Happening) (board : Record) (old new : List LaneHappening) → AreKept tracks → may_shift machine from to id (lanes_of tracks) ≡ may_do
    → GivesOn number machine from id to tracks one given board → IsFollowing from machine machine one two → TakesOn number machine to board two three got → IsFollowing to machine machine three four
    → FollowsBoth machine from to given got four five old new → ShiftMade number machine from to id tracks five old new
shift_made number machine zero to id tracks one two three four five given got board old new kept may g shares t shared f = let none = g.there in absurd (cc)
shift_made number machine (suc pf) zero id tracks one two three four five given got board old new kept may g shares t shared f = let none = t.there in absurd (cc)
shift_made number machine (suc pf) (suc pt) id tracks one two three four five given got board old new kept may g shares t shared f =
    let b = behind_of number machine pf pt id tracks one two three four given got board kept may g shares t shared in
    let k = known_of b in
    let giver : Track = b.was.was.giver in
    let gave : LineState = b.was.was.gave in
    let taker : Track = b.was.taker in
    let next : LineState = b.next in
    let ids : List ℕ = ids_named (given ++ got) in
    let giver_now : Track = beside_track next (record giver { state = gave }) in
    let taker_now : Track = record taker { state = next } in
    let giver_at : slice_get four pf ≡ Some giver_now = giver_at_four b in
    let giver_seen : slice_get four pf ≡ Some f.giver = f.from_is in
    let giver_same : giver_now ≡ f.giver = cc in
    let taker_at : slice_get four pt ≡ Some taker_now = taker_at_four b in
    let taker_seen : slice_get four pt ≡ Some f.taker = f.to_is in
    let taker_same : taker_now ≡ f.taker = cc in
    let owns : owned (beside next gave) ≡ owned gave = beside_owned next.machines gave.machines k.wide in
    let first : Follows machine machine ids (owned giver.state) (owned gave) = follows_by number machine (inputs.Gives id (suc pt)) giver.state gave given ids b.done.gives.steps b.done.gives_does (less_first given got) in
    let second : Follows machine machine ids (owned (beside gave taker.state)) (owned next) = follows_by number machine (inputs.Gets board) (beside gave taker.state) next got ids b.done.takes b.done.takes_does (less_second given got) in
    let all = f.each (owned giver.state) (owned (beside gave taker.state))
    (subst (λ (track : Track). IsIndexOf track.index (owned giver.state)) giver_same k.mine.index)
    (subst (λ (track : Track). IsIndexOf track.index (owned (beside gave taker.state))) taker_same k.other.index)
    (subst (λ (track : Track). Follows machine machine ids (owned giver.state) (owned track.state)) giver_same (subst (λ (line : List Owned). Follows machine machine ids (owned giver.state) line) (sym owns) first))
    (subst (λ (track : Track). Follows machine machine ids (owned (beside gave taker.state)) (owned track.state)) taker_same second) in
    let given_is : IsIndexOf f.given_index (owned gave) =
    subst (λ (line : List Owned). IsIndexOf f.given_index line) owns (subst (λ (track : Track). IsIndexOf f.given_index (owned track.state)) (sym giver_same) all.0) in
    let got_is : IsIndexOf f.got_index (owned next) = subst (λ (track : Track). IsIndexOf f.got_index (owned track.state)) (sym taker_same) all.1 in
    let middle : List Track = tracks_behind pf gave tracks in
    let own : Track = record { state = gave; index = f.given_index } in
    let last : List Track = tracks_now pt next f.got_index (tracks_now pf gave f.given_index tracks) in
    let five_is : five ≡ last =
    f.after_is
    ∙ ap (λ (n : ℕ). with_behind n (record f.taker { index = f.got_index }) (with_index (suc pf) f.given_index f.giver four)) (sub-one (suc pt))
    ∙ ap (λ (n : ℕ). with_behind pt (record f.taker { index = f.got_index }) (with_behind n (record f.giver { index = f.given_index }) four)) (sub-one (suc pf))
    ∙ ap (λ (ts : List Track). with_behind pt (record f.taker { index = f.got_index }) (with_behind pf (record f.giver { index = f.given_index }) ts)) b.four_is
    ∙ ap (λ (track : Track). with_behind pt (record track { index = f.got_index }) (with_behind pf (record f.giver { index = f.given_index }) (tracks_behind pt next middle))) (sym taker_same)
    ∙ ap (λ (track : Track). with_behind pt (record taker_now { index = f.got_index }) (with_behind pf (record track { index = f.given_index }) (tracks_behind pt next middle))) (sym giver_same)
    ∙ ap (with_behind pt (record taker_now { index = f.got_index })) (sym (swap_behind pt pf next own middle (λ same. b.was.apart (sym same))))
    ∙ ap (λ (ts : List Track). with_behind pt (record taker_now { index = f.got_index }) (tracks_behind pt next ts)) (now_is pf gave f.given_index tracks)
    ∙ now_is pt next f.got_index (tracks_now pf gave f.given_index tracks) in
    let seats : (other : ℕ) → seat_listed other 1 four ≡ seat_listed other 1 tracks =
    λ other. ap (seat_listed other 1) b.four_is ∙ behind_listed other 1 pt next middle ∙ behind_listed other 1 pf gave tracks in
    let told : new ≡ old ++ (shift_told (suc pf) (suc pt) given got ++ flat_map (λ (other : ℕ). seat_told other (seat_listed other 1 tracks) (seat_listed other 1 last)) (ascending ids)) =
    all.2
    ∙ ap (λ (ts : List Track). old ++ (shift_told (suc pf) (suc pt) given got ++ flat_map (λ (other : ℕ). seat_told other (seat_listed other 1 four) (seat_listed other 1 ts)) (ascending ids))) five_is
    ∙ ap (λ (more : List LaneHappening). old ++ (shift_told (suc pf) (suc pt) given got ++ more))
    (flat_same (λ (other : ℕ). seat_told other (seat_listed other 1 four) (seat_listed other 1 last)) (λ (other : ℕ). seat_told other (seat_listed other 1 tracks) (seat_listed other 1 last))
    (λ other. ap (λ (s : Seat). seat_told other s (seat_listed other 1 last)) (seats other)) (ascending ids)) in
    subst (λ (ts : List Track). ShiftMade number machine (suc pf) (suc pt) id tracks ts old new) (sym five_is)
    (shift_ends number machine pf pt id tracks giver taker gave next given got board f.given_index f.got_index old new b.done may given_is got_is told)

-- nothing is done where a reason stands against it
pub shift_refused : (number machine from to id : ℕ) (tracks : List Track) (reason : Reason) (old new : List LaneHappening) → AreKept tracks → may_shift machine from to id (lanes_of tracks) ≡ Err reason → new ≡ old ++ told_once (happenings.No reason)
    → TellsDone (LanesDo number (lane_lines.Shift machine from to id)) tracks tracks old new
shift_refused number machine from to id tracks reason old new kept may is =
    refused (LanesDo number (lane_lines.Shift machine from to id)) tracks (told_once (happenings.No reason)) old new kept
    (unless_not (may_shift machine from to id (lanes_of tracks)) reason (lanes_of tracks) (Shifts number machine from to id (lanes_of tracks) (lanes_of tracks) (told_once (happenings.No reason))) may) is

pub shift_apart : (machine from to id : ℕ) (tracks : List Track) → may_shift machine from to id (lanes_of tracks) ≡ may_do → from ≢ to
shift_apart machine from to id tracks may = (may_shift_is machine from to id (lanes_of tracks) may).apart

-- where the span is one machine
pub shares_one : (lane first last machine : ℕ) (before after : List Track) → first ≡ machine → last ≡ machine → IsFollowing lane first last before after → IsFollowing lane machine machine before after
shares_one lane first last machine before after one other f =
    subst (λ (n : ℕ). IsFollowing lane machine n before after) other (subst (λ (n : ℕ). IsFollowing lane n last before after) one f)

-- ---- the reasons against a shift, one after the other

by_found : (found : Option NodeState) (lanes bridge same : Bool) (next : May) → if_there found (λ node. may_do) ≡ may_do → is_bridge_at found ≡ bridge
    → if_there found (λ node. no_if (not lanes) (reasons.Node nos.NoLane) (no_if (is_some node.bridge) (reasons.Node nos.Bridge) (no_if same (reasons.Node nos.Same) next)))
    ≡ no_if (not lanes) (reasons.Node nos.NoLane) (no_if bridge (reasons.Node nos.Bridge) (no_if same (reasons.Node nos.Same) next))
by_found None lanes bridge same next is at = absurd (cc)
by_found (Some node) lanes bridge same next is at = ap (λ (b : Bool). no_if (not lanes) (reasons.Node nos.NoLane) (no_if b (reasons.Node nos.Bridge) (no_if same (reasons.Node nos.Same) next))) at

-- where the machine is there
pub shift_reasons : (machine from to id : ℕ) (tracks : List Track) (lanes bridge same : Bool) → if_there (machine_in machine (first_track (lanes_of tracks))) (λ node. may_do) ≡ may_do
    → (has_lane from (lanes_of tracks) && has_lane to (lanes_of tracks)) ≡ lanes → is_bridge_in machine (first_track (lanes_of tracks)) ≡ bridge → (from == to) ≡ same
    → may_shift machine from to id (lanes_of tracks)
    ≡ no_if (not lanes) (reasons.Node nos.NoLane) (no_if bridge (reasons.Node nos.Bridge) (no_if same (reasons.Node nos.Same)
    (and_may (may_give_away machine id (track from (lanes_of tracks))) (may_take_in machine (track to (lanes_of tracks))))))
shift_reasons machine from to id tracks lanes bridge same there lanes_are bridge_is same_is =
    let s : Lanes = lanes_of tracks in
    let next : May = and_may (may_give_away machine id (track from s)) (may_take_in machine (track to s)) in
    ap (λ (b : Bool). if_there (machine_in machine (first_track s)) (λ node. no_if (not b) (reasons.Node nos.NoLane) (no_if (is_some node.bridge) (reasons.Node nos.Bridge) (no_if (from == to) (reasons.Node nos.Same) next)))) lanes_are
    ∙ ap (λ (b : Bool). if_there (machine_in machine (first_track s)) (λ node. no_if (not lanes) (reasons.Node nos.NoLane) (no_if (is_some node.bridge) (reasons.Node nos.Bridge) (no_if b (reasons.Node nos.Same) next)))) same_is
    ∙ by_found (machine_in machine (first_track s)) lanes bridge same next there bridge_is

not_same : (from to : ℕ) (test : Bool) → (from == to) ≡ test → (from ≡ to → ⊥) → test ≡ false
not_same from to true is apart = absurd (apart (eqb-true from to is))
not_same from to false is apart = refl

lanes_there : (from to : ℕ) (tracks : List Track) (giver taker : Track) → track_in from tracks ≡ Some giver → track_in to tracks ≡ Some taker → (has_lane from (lanes_of tracks) && has_lane to (lanes_of tracks)) ≡ true
lanes_there from to tracks giver taker one two = ap (λ (b : Bool). b && has_lane to (lanes_of tracks)) (has_there from tracks (Some giver) one) ∙ has_there to tracks (Some taker) two

abbrev IsFound : ℕ → List Track → Type 0
IsFound machine tracks = if_there (machine_in machine (first_track (lanes_of tracks))) (λ node. may_do) ≡ may_do

pub no_giver : (machine from to id : ℕ) (tracks : List Track) → IsFound machine tracks → track_in from tracks ≡ None → Err (reasons.Node nos.NoLane) ≡ may_shift machine from to id (lanes_of tracks)
no_giver machine from to id tracks there none =
    sym (shift_reasons machine from to id tracks false (is_bridge_in machine (first_track (lanes_of tracks))) (from == to) there (ap (λ (b : Bool). b && has_lane to (lanes_of tracks)) (has_there from tracks None none)) refl refl)

pub no_taker : (machine from to id : ℕ) (tracks : List Track) (giver : Track) → IsFound machine tracks → track_in from tracks ≡ Some giver → track_in to tracks ≡ None → Err (reasons.Node nos.NoLane) ≡ may_shift machine from to id (lanes_of tracks)
no_taker machine from to id tracks giver there one none =
    sym (shift_reasons machine from to id tracks false (is_bridge_in machine (first_track (lanes_of tracks))) (from == to) there
    (ap (λ (b : Bool). b && has_lane to (lanes_of tracks)) (has_there from tracks (Some giver) one) ∙ has_there to tracks None none) refl refl)

pub on_bridge : (machine from to id : ℕ) (tracks : List Track) (giver taker : Track) → IsFound machine tracks → track_in from tracks ≡ Some giver → track_in to tracks ≡ Some taker → is_bridge_in machine (first_track (lanes_of tracks)) ≡ true
    → Err (reasons.Node nos.Bridge) ≡ may_shift machine from to id (lanes_of tracks)
on_bridge machine from to id tracks giver taker there one two bridge = sym (shift_reasons machine from to id tracks true true (from == to) there (lanes_there from to tracks giver taker one two) bridge refl)

pub to_itself : (machine from to id : ℕ) (tracks : List Track) (giver taker : Track) → IsFound machine tracks → track_in from tracks ≡ Some giver → track_in to tracks ≡ Some taker → is_bridge_in machine (first_track (lanes_of tracks)) ≡ false → from ≡ to
    → Err (reasons.Node nos.Same) ≡ may_shift machine from to id (lanes_of tracks)
to_itself machine from to id tracks giver taker there one two bridge same = sym (shift_reasons machine from to id tracks true false true there (lanes_there from to tracks giver taker one two) bridge (eq-eqb from to same))

-- what the two lanes say
pub both_say : (machine from to id : ℕ) (tracks : List Track) (giver taker : Track) → IsFound machine tracks → track_in from tracks ≡ Some giver → track_in to tracks ≡ Some taker → is_bridge_in machine (first_track (lanes_of tracks)) ≡ false → (from ≡ to → ⊥)
    → may_shift machine from to id (lanes_of tracks) ≡ and_may (may_give_away machine id giver.state) (may_take_in machine taker.state)
both_say machine from to id tracks giver taker there one two bridge apart =
    shift_reasons machine from to id tracks true false false there (lanes_there from to tracks giver taker one two) bridge (not_same from to (from == to) refl apart)
    ∙ ap (λ (s : LineState). and_may (may_give_away machine id s) (may_take_in machine (track to (lanes_of tracks)))) (track_is from tracks giver one)
    ∙ ap (λ (s : LineState). and_may (may_give_away machine id giver.state) (may_take_in machine s)) (track_is to tracks taker two)

pub own_on : (lane : ℕ) (tracks : List Track) (own : Track) → AllByRecursion IsOwn tracks → track_in lane tracks ≡ Some own → IsOwn own
own_on zero tracks own owns there = absurd (cc)
own_on (suc place) tracks own owns there = own_at place tracks own owns there

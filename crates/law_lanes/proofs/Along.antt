-- The run of a script over several lanes, point by point: THE LAWS.
use Rattle.std.proofs.Common.{◌||◌, ◌∙◌, ◌≡◌, ◌+◌, ◌-◌, ◌≤◌, ◌++◌, ℕ, zero, suc, Bool, true, false, List, [], ◌∷◌, None, Ok, Err, length, take, refl, sym, ap, subst, arith, append-nil, append_assoc}
use Rattle.std.specs.List.{AllByRecursion, list_any}
use Rattle.std.proofs.lemmas.Bool.{or_from, or_parts}
use Rattle.line_base.specs.declared.states.Side.TheVariants.{Entry, Exit}
use Rattle.line_script.specs.declared.line.LaneLine.{LaneLine}
use Rattle.line_script.specs.declared.line.LaneLine.TheVariants as lane_lines
use Rattle.line_script.specs.declared.line.ScriptLine.{ScriptLine}
use Rattle.line_script.specs.declared.line.ScriptLine.TheVariants as lines
use Rattle.line_world.specs.FloorPlan.{has_id}
use Rattle.line_world.specs.declared.board.Board.{Board}
use Rattle.line_step.specs.FloorIds.{boards_of}
use Rattle.law_one_standing.specs.Reached.{IdsAlong, IsReached}
use Rattle.line_step.specs.Parts.{where_may}
use Rattle.line_step.specs.Reasons.{May, may_cut, may_notice}
use Rattle.line_step.specs.State.{LineState, no_line}
use Rattle.line_step.proofs.FloorLaws.{Holds}
use Rattle.law_one_standing.specs.Standing.{IsFitLine}
use Rattle.law_lanes.specs.Along.{EachFrontIsATrack, EachLaneIsATrack, EachRecordIsOnOneLane, FloorsApart, IdsOnLanes, IsFitLaneLine, IsLaneReached, IsOnOneLane, OneLaneAlong, OneStandingOnLanes, StandsOnEach, StandsOnLanes, TracksAlong}
use Rattle.law_lanes.specs.Lanes.{Lanes, lines_of, no_lanes, track, unvouched_of}
use Rattle.law_lanes.specs.Parts.{IsLanePlay, IsLaneRun, IsShort, LanePart, LanePoint, all_points, parts_of, state_behind, stops_from, stops_on}
use Rattle.law_lanes.specs.Views.{has_lie_on, tells_lie_on}
use Rattle.law_lanes.proofs.Apart.{AreApart}
use Rattle.law_lanes.proofs.Floors.{count}
use Rattle.law_lanes.proofs.Points.{none_to, whole_honest}
use Rattle.law_lanes.proofs.Telling.{join_all, one_if}
use Rattle.law_lanes.proofs.Together.{lines_on_each, unvouched_on_each, none_track, together_none}
use Rattle.law_lanes.proofs.Walk.{Along, HonestTrack, along_more, at_home, on_one_lane}

-- ---- at the beginning

none_holds : Holds no_line
none_holds =
    record {
      own = tt;
      many = refl;
      whole = refl;
      old = tt;
      differ = record { once = λ id. omega arith };
    }

none_apart : AreApart no_lanes
none_apart id lane other some more one two =
    absurd (let never : ⊥ = omega (
      arith,
      one,
      ap (λ (t : LineState). count id (boards_of t)) (none_track lane some),
    ) in never)

pub none_along : Along [] no_lanes
none_along =
    record {
      behind = refl;
      together = together_none;
      holds = λ lane some. subst (λ (t : LineState). Holds t) (sym (none_track lane some)) none_holds;
      apart = none_apart;
      vouched = λ none. refl;
      tracks = λ lane some. none_to lane no_lanes (sym (none_track lane some));
      homes = λ none. record {
        old = λ lane id some is. cc;
        once = λ id lane other some more one two. cc;
      };
    }

-- ---- the parts of a line

abbrev pub IsFitPart : LanePart → Type 0
IsFitPart part = (s : Lanes) → IsFitLaneLine (part.line s)

may_fit : (may : May) (line : ScriptLine) → IsFitLine line → IsFitLine (where_may may line)
may_fit (Ok _) line fit = fit
may_fit (Err why) line fit = tt

stops_fit : (lane machine : ℕ) (ends : Bool) → AllByRecursion IsFitPart (stops_on lane machine ends)
stops_fit lane machine ends = (
  λ s. may_fit (may_cut (machine - 1) (track lane s)) (lines.Cut (machine - 1)) tt,
  (
    λ s. may_fit (may_cut machine (track lane s)) (lines.Cut machine) tt,
    (
      λ s. may_fit (may_notice machine Entry (track lane s)) (lines.Notice machine Entry) tt,
      (
        λ s. may_fit (may_notice machine Exit (track lane s)) (lines.Notice machine Exit) tt,
        tt,
      ),
    ),
  ),
)

stops_all_fit : (lane more machine : ℕ) → AllByRecursion IsFitPart (stops_from lane more machine)
stops_all_fit lane zero machine = stops_fit lane machine true
stops_all_fit lane (suc more) machine =
    join_all IsFitPart (stops_on lane machine false) (stops_from (lane + 1) more machine)
    (stops_fit lane machine false) (stops_all_fit (lane + 1) more machine)

pub parts_fit : (many : ℕ) (line : LaneLine) → IsFitLaneLine line
    → AllByRecursion IsFitPart (parts_of many line)
parts_fit many (lane_lines.On lane (lines.Stop machine)) fit =
    (λ s. tt, stops_all_fit 1 (many - 1) machine)
parts_fit many line fit = (λ s. fit, tt)

-- ---- along the points

abbrev pub EachAlong : List LanePoint → List LanePoint → Type 0
EachAlong past [] = Unit {0}
EachAlong past (point ∷ points) =
    Along (past ++ point ∷ []) point.after × EachAlong (past ++ point ∷ []) points

pub play_along : HonestTrack → (past : List LanePoint) (s : Lanes) (parts : List LanePart)
    (points : List LanePoint) → Along past s → AllByRecursion IsFitPart parts
    → IsLanePlay s parts points → IsShort s points → EachAlong past points
play_along says past s [] [] all fit play short = tt
play_along says past s [] (point ∷ points) all fit play short = absurd play
play_along says past s (part ∷ parts) [] all fit play short = absurd play
play_along says past s (part ∷ parts) (point ∷ points) all fit play short =
    let one = along_more says past s point (part.line s) all (fit.0 s) short.0 play.0.steps in
    (one, play_along says (past ++ point ∷ []) point.after parts points one fit.1 play.1 short.1)

pub last_along : (past points : List LanePoint) (s : Lanes) → Along past s → EachAlong past points
    → Along (past ++ points) (state_behind s points)
last_along past [] s was all =
    subst (λ (l : List LanePoint). Along l s) (sym (append-nil past)) was
last_along past (point ∷ points) s was all =
    subst (λ (l : List LanePoint). Along l (state_behind point.after points))
    (append_assoc past (point ∷ []) points)
    (last_along (past ++ point ∷ []) points point.after all.0 all.1)

each_join : (past front back : List LanePoint) → EachAlong past front
    → EachAlong (past ++ front) back → EachAlong past (front ++ back)
each_join past [] back one two =
    subst (λ (l : List LanePoint). EachAlong l back) (append-nil past) two
each_join past (point ∷ front) back one two = (
  one.0,
  each_join (past ++ point ∷ []) front back one.1
      (subst (λ (l : List LanePoint). EachAlong l back)
      (sym (append_assoc past (point ∷ []) front)) two),
)

short_parts : (s : Lanes) (front back : List LanePoint) → IsShort s (front ++ back)
    → IsShort s front × IsShort (state_behind s front) back
short_parts s [] back short = (tt, short)
short_parts s (point ∷ front) back short =
    let rest = short_parts point.after front back short.1 in
    ((short.0, rest.0), rest.1)

pub run_along : HonestTrack → (past : List LanePoint) (s : Lanes) (asked : List LaneLine)
    (done : List (List LanePoint)) → Along past s → AllByRecursion IsFitLaneLine asked
    → IsLaneRun s asked done → IsShort s (all_points done) → EachAlong past (all_points done)
run_along says past s [] [] all fit run short = tt
run_along says past s [] (own ∷ others) all fit run short = absurd run
run_along says past s (line ∷ asked) [] all fit run short = absurd run
run_along says past s (line ∷ asked) (own ∷ others) all fit run short =
    let parts = short_parts s own (all_points others) short in
    let one = play_along says past s (parts_of (length s.tracks) line) own all
    (parts_fit (length s.tracks) line fit.0) run.0 parts.0 in
    each_join past own (all_points others) one
    (run_along says (past ++ own) (state_behind s own) asked others (last_along past own s all one)
    fit.1 run.1 parts.1)

-- ---- EACH LANE IS A TRACK

pub each_lane_is : HonestTrack → EachLaneIsATrack
each_lane_is says asked done lane some fit short run =
    let each = run_along says [] no_lanes asked done none_along fit run short in
    let last = last_along [] (all_points done) no_lanes none_along each in
    let t = last.tracks lane some in
    record {
      asked = t.asked;
      own = t.own;
      run = t.run;
      short = t.short;
      beside = t.beside;
      honest = t.honest;
    }

-- ---- up to the first lie

front_along : (past points : List LanePoint) (n : ℕ) (s : Lanes) → Along past s
    → EachAlong past points → Along (past ++ take n points) (state_behind s (take n points))
front_along past points zero s was all =
    subst (λ (l : List LanePoint). Along l s) (sym (append-nil past)) was
front_along past [] (suc n) s was all =
    subst (λ (l : List LanePoint). Along l s) (sym (append-nil past)) was
front_along past (point ∷ points) (suc n) s was all =
    subst (λ (l : List LanePoint). Along l (state_behind point.after (take n points)))
    (append_assoc past (point ∷ []) (take n points))
    (front_along (past ++ point ∷ []) points n point.after all.0 all.1)

front_honest : (n : ℕ) (points : List LanePoint) → has_lie_on points ≡ false
    → has_lie_on (take n points) ≡ false
front_honest zero points none = refl
front_honest (suc n) [] none = refl
front_honest (suc n) (point ∷ points) none =
    let parts = or_parts (tells_lie_on point.told) (has_lie_on points) none in
    or_from (tells_lie_on point.told) (has_lie_on (take n points)) parts.0
    (front_honest n points parts.1)

pub each_front_is : HonestTrack → EachFrontIsATrack
each_front_is says asked done n lane some fit short run none =
    let each = run_along says [] no_lanes asked done none_along fit run short in
    let points = take n (all_points done) in
    let front = front_along [] (all_points done) n no_lanes none_along each in
    let t = front.tracks lane some in
    record {
      asked = t.asked;
      own = t.own;
      run = t.run;
      short = t.short;
      beside = t.beside;
      fit = (whole_honest lane points (state_behind no_lanes points) t none).fit;
      honest = λ m. (t.honest m (front_honest m points none)).0;
    }

-- ---- ONE STANDING ON EACH LANE

lie_join_on : (front back : List LanePoint) → has_lie_on front ≡ false → has_lie_on back ≡ false
    → has_lie_on (front ++ back) ≡ false
lie_join_on [] back one two = two
lie_join_on (point ∷ front) back one two =
    let parts = or_parts (tells_lie_on point.told) (has_lie_on front) one in
    or_from (tells_lie_on point.told) (has_lie_on (front ++ back)) parts.0
    (lie_join_on front back parts.1 two)

stands_on : HonestTrack → (points : List LanePoint) (s : Lanes) → Along points s
    → has_lie_on points ≡ false → StandsOnEach s
stands_on says points s all none =
    record {
      one = λ lane some. (at_home says lane points s (all.tracks lane some) none).one;
      custody = λ lane some. (at_home says lane points s (all.tracks lane some) none).custody;
      alone = on_one_lane says points s all none;
    }

abbrev IsAloneBehind : LanePoint → Type 0
IsAloneBehind point = StandsOnEach point.after

each_alone : HonestTrack → (past points : List LanePoint) (n : ℕ) → EachAlong past points
    → has_lie_on past ≡ false → has_lie_on (take n points) ≡ false
    → AllByRecursion IsAloneBehind (take n points)
each_alone says past points zero all was none = tt
each_alone says past [] (suc n) all was none = tt
each_alone says past (point ∷ points) (suc n) all was none =
    let parts = or_parts (tells_lie_on point.told) (has_lie_on (take n points)) none in
    let here : has_lie_on (past ++ point ∷ []) ≡ false =
    lie_join_on past (point ∷ []) was (or_from (tells_lie_on point.told) false parts.0 refl) in (
      stands_on says (past ++ point ∷ []) point.after all.0 here,
      each_alone says (past ++ point ∷ []) points n all.1 here parts.1,
    )

pub each_stands : HonestTrack → OneStandingOnLanes
each_stands says asked done n fit short run none =
    each_alone says [] (all_points done) n
    (run_along says [] no_lanes asked done none_along fit run short) refl none

alone_of : (points : List LanePoint) → AllByRecursion IsAloneBehind points
    → AllByRecursion (λ (point : LanePoint). IsOnOneLane point.after) points
alone_of [] all = tt
alone_of (point ∷ points) all = (all.0.alone, alone_of points all.1)

pub each_record_is : HonestTrack → EachRecordIsOnOneLane
each_record_is says asked done n fit short run none =
    alone_of (take n (all_points done)) (each_stands says asked done n fit short run none)

-- ---- over states

pub reached_along : HonestTrack → (s : Lanes) → (reached : IsLaneReached s)
    → Along (all_points reached.done) s
reached_along says s reached =
    let each = run_along says [] no_lanes reached.asked reached.done none_along reached.fit
    reached.run reached.short in
    subst (λ (t : Lanes). Along (all_points reached.done) t) reached.behind
    (last_along [] (all_points reached.done) no_lanes none_along each)

pub stands_on_lanes : HonestTrack → StandsOnLanes
stands_on_lanes says s reached none =
    let all = reached_along says s reached in
    stands_on says (all_points reached.done) s all (all.vouched none)

pub reached_on : (lane : ℕ) (points : List LanePoint) (s : Lanes) → Along points s
    → lines_of s ≤ 1000000 → 1 ≤ lane → IsReached (track lane s)
reached_on lane points s all few some =
    let t = all.tracks lane some in
    let vouched : (track lane s).unvouched ≡ None → unvouched_of s ≡ None =
    λ none. sym (unvouched_on_each s lane all.together some) ∙ none in
    record {
      asked = t.asked;
      points = t.own;
      fit = λ none. (whole_honest lane points s t (all.vouched (vouched none))).fit;
      short = t.short;
      few = subst (λ (n : ℕ). n ≤ 1000000) (sym (lines_on_each s lane all.together some)) few;
      run = t.run;
      behind = t.behind;
      newcomers = λ none. (whole_honest lane points s t (all.vouched (vouched none))).newcomers;
    }

pub tracks_along : HonestTrack → TracksAlong
tracks_along says s reached lane some =
    reached_on lane (all_points reached.done) s (reached_along says s reached) reached.few some

pub one_lane_along : HonestTrack → OneLaneAlong
one_lane_along says s reached none = (stands_on_lanes says s reached none).alone

-- ---- ids

pub ids_on_lanes : HonestTrack → IdsAlong → IdsOnLanes
ids_on_lanes says ids s reached lane some =
    ids (track lane s) (tracks_along says s reached lane some)

any_count : (id : ℕ) (boards : List Board) → list_any (has_id id) boards ≡ true
    → 1 ≤ count id boards
any_count id [] is = cc
any_count id (board ∷ boards) is =
    any_by (has_id id board) (count id boards) (list_any (has_id id) boards) is
    (any_count id boards) where
      any_by : (has : Bool) (more : ℕ) (others : Bool) → (has || others) ≡ true
          → (others ≡ true → 1 ≤ more) → 1 ≤ one_if has + more
      any_by true more others is later = omega arith
      any_by false more others is later =
          let some = later is in
          omega (arith, some)

pub floors_apart : HonestTrack → FloorsApart
floors_apart says s reached id lane other some more one two =
    (reached_along says s reached).apart id lane other some more
    (any_count id (boards_of (track lane s)) one) (any_count id (boards_of (track other s)) two)

-- A line of a script, on each lane: what holds of each step of a track holds of the steps that its
-- parts are there.
use Rattle.std.proofs.Common.{◌≡◌, ◌∙◌, ◌+◌, ◌≤◌, ◌++◌, ℕ, Bool, false, List, [], ◌∷◌, None, ap, append-nil, append_assoc, arith, length, refl, subst, sym}
use Rattle.std.specs.Prelude.{Option, is_some, take}
use Rattle.std.specs.List.{AllByRecursion}
use Rattle.line_script.specs.declared.line.LaneLine.{LaneLine}
use Rattle.line_script.specs.declared.line.LaneLine.TheVariants as lane_lines
use Rattle.line_report.specs.declared.happening.Happening.{Happening}
use Rattle.line_report.specs.declared.happening.LaneHappening.{LaneHappening}
use Rattle.line_step.specs.Homes.{AreNewcomers, IsNewcomer}
use Rattle.line_step.specs.Runs.{IsRun, IsShort, Point, all_told, state_behind}
use Rattle.line_step.specs.State.{LineState, no_line}
use Rattle.line_step.specs.Tracks.{TrackLine, TrackSteps}
use Rattle.line_step.proofs.Newcomers.{newcomers-append, run-vouched}
use Rattle.line_step.proofs.Running.{short-more}
use Rattle.law_one_standing.specs.Reached.{IsReached}
use Rattle.law_one_standing.specs.Standing.{IsFitTrack}
use Rattle.law_one_standing.proofs.Reaching.{behind_more, fit_more, run_more}
use Rattle.law_lanes.specs.Along.{ArePointsOn, EachLaneIsATrack, IsFitLaneLine, IsTrackOf}
use Rattle.law_lanes.specs.Lanes.{Lanes, no_lanes, track, unvouched_of}
use Rattle.law_lanes.specs.Once.{EachRunRemembers, SetsFew}
use Rattle.law_lanes.specs.Parts.{LanePoint, all_points}
use Rattle.law_lanes.specs.Parts as lanes
use Rattle.law_lanes.specs.Views.{has_lie_on}
use Rattle.law_lanes.proofs.Points.{take_past}
use Rattle.law_lanes.proofs.Together.{none_track}
use Rattle.line_engine.specs.Each.{AreVouchedAlike}
use Rattle.line_engine.proofs.Behind.{told_more}
use Rattle.line_engine.proofs.Nexts.{Known, points_on, run_behind}
use Rattle.line_engine.proofs.Played.{behind_on}

-- ---- the run of a track so far

pub record IsSoFar (s : LineState) (asked : List TrackLine) (points : List Point) : Type 0 where
  pub run : IsRun no_line asked points
  pub short : IsShort no_line points
  pub fit : AllByRecursion IsFitTrack asked
  pub new : AreNewcomers [] asked points
  pub behind : state_behind no_line points ≡ s

pub lines_few : (lines : ℕ) → lines + 1 ≤ 1000000 → lines ≤ 1000000
lines_few lines few = omega (arith, few)

abbrev pub so_reached : (s : LineState) (asked : List TrackLine) (points : List Point) → s.lines + 1 ≤ 1000000 → IsSoFar s asked points → IsReached s
so_reached s asked points few so = record {
  asked = asked;
  points = points;
  fit = λ none. so.fit;
  short = so.short;
  few = lines_few s.lines few;
  run = so.run;
  behind = so.behind;
  newcomers = λ none. so.new;
}

-- with one step more
so_more : (s : LineState) (asked : List TrackLine) (points : List Point) (line : TrackLine) (point : Point) → IsSoFar s asked points
    → TrackSteps (s.lines + 1) line s point.after point.told → s.lines + 1 ≤ 1000000 → IsFitTrack line → IsNewcomer (all_told points) line
    → IsSoFar point.after (asked ++ line ∷ []) (points ++ point ∷ [])
so_more s asked points line point so steps few fit new = record {
  run = run_more no_line asked points line point so.run (subst (λ (t : LineState). TrackSteps (t.lines + 1) line t point.after point.told) (sym so.behind) steps);
  short = short-more no_line points point so.short (subst (λ (t : LineState). t.lines + 1 ≤ 1000000) (sym so.behind) few);
  fit = fit_more asked line so.fit fit;
  new = newcomers-append [] no_line asked (line ∷ []) points (point ∷ []) so.run so.new (new, tt);
  behind = behind_more no_line points point;
}

-- ---- what holds of each step

-- of points, from a state on
abbrev pub EachAlong : (LineState → LineState → List Happening → Type 0) → LineState → List Point → Type 0
EachAlong Holds s [] = Unit {0}
EachAlong Holds s (point ∷ points) = Holds s point.after point.told × EachAlong Holds point.after points

-- a step of a track behind a run, behind which somebody vouches for it
abbrev pub OfEachStep : (LineState → LineState → List Happening → Type 0) → Type 0
OfEachStep Holds =
    (s : LineState) (asked : List TrackLine) (points : List Point) (line : TrackLine) (point : Point) → IsSoFar s asked points
    → TrackSteps (s.lines + 1) line s point.after point.told → s.lines + 1 ≤ 1000000 → IsFitTrack line → IsNewcomer (all_told points) line
    → point.after.unvouched ≡ None → Holds s point.after point.told

each_along : (Holds : LineState → LineState → List Happening → Type 0) → OfEachStep Holds → (s : LineState) (asked : List TrackLine) (points : List Point) (more : List TrackLine) (others : List Point) → IsSoFar s asked points
    → IsRun s more others → IsShort s others → AllByRecursion IsFitTrack more → AreNewcomers (all_told points) more others → (state_behind s others).unvouched ≡ None → EachAlong Holds s others
each_along Holds step s asked points [] [] so run short fit new none = tt
each_along Holds step s asked points [] (point ∷ others) so run short fit new none = absurd run
each_along Holds step s asked points (line ∷ more) [] so run short fit new none = absurd run
each_along Holds step s asked points (line ∷ more) (point ∷ others) so run short fit new none = (
  step s asked points line point so run.0 short.0 fit.0 new.0 (run-vouched point.after more others run.1 none),
  each_along Holds step point.after (asked ++ line ∷ []) (points ++ point ∷ []) more others (so_more s asked points line point so run.0 short.0 fit.0 new.0)
      run.1 short.1 fit.1 (subst (λ (told : List Happening). AreNewcomers told more others) (sym (told_more points point)) new.1) none,
)

-- ---- a run in two

record IsParted (lane : ℕ) (front points : List LanePoint) (own : List Point) : Type 0 where
  early : List Point
  late : List Point
  is : own ≡ early ++ late
  first : ArePointsOn lane front early
  second : ArePointsOn lane points late

parted : (lane : ℕ) (front points : List LanePoint) (own : List Point) → ArePointsOn lane (front ++ points) own → IsParted lane front points own
parted lane [] points own beside = record { early = []; late = own; is = refl; first = tt; second = beside }
parted lane (point ∷ front) points [] beside = absurd beside
parted lane (point ∷ front) points (x ∷ own) beside =
    let rest = parted lane front points own beside.1 in
    record { early = x ∷ rest.early; late = rest.late; is = ap (λ (ps : List Point). x ∷ ps) rest.is; first = (beside.0, rest.first); second = rest.second }

record IsRunParted (s : LineState) (asked : List TrackLine) (early late : List Point) : Type 0 where
  front : List TrackLine
  back : List TrackLine
  is : asked ≡ front ++ back
  first : IsRun s front early
  second : IsRun (state_behind s early) back late

run_parted : (s : LineState) (asked : List TrackLine) (early late : List Point) → IsRun s asked (early ++ late) → IsRunParted s asked early late
run_parted s asked [] late run = record { front = []; back = asked; is = refl; first = tt; second = run }
run_parted s [] (x ∷ early) late run = absurd run
run_parted s (line ∷ asked) (x ∷ early) late run =
    let rest = run_parted x.after asked early late run.1 in
    record { front = line ∷ rest.front; back = rest.back; is = ap (λ (ls : List TrackLine). line ∷ ls) rest.is; first = (run.0, rest.first); second = rest.second }

short_parted : (s : LineState) (early late : List Point) → IsShort s (early ++ late) → IsShort s early × IsShort (state_behind s early) late
short_parted s [] late short = (tt, short)
short_parted s (x ∷ early) late short =
    let rest = short_parted x.after early late short.1 in
    ((short.0, rest.0), rest.1)

fit_parted : (front back : List TrackLine) → AllByRecursion IsFitTrack (front ++ back) → AllByRecursion IsFitTrack front × AllByRecursion IsFitTrack back
fit_parted [] back fit = (tt, fit)
fit_parted (line ∷ front) back fit =
    let rest = fit_parted front back fit.1 in
    ((fit.0, rest.0), rest.1)

new_parted : (past : List Happening) (s : LineState) (front back : List TrackLine) (early late : List Point) → IsRun s front early → AreNewcomers past (front ++ back) (early ++ late)
    → AreNewcomers past front early × AreNewcomers (past ++ all_told early) back late
new_parted past s [] back [] late run new = (tt, subst (λ (told : List Happening). AreNewcomers told back late) (sym (append-nil past)) new)
new_parted past s [] back (x ∷ early) late run new = absurd run
new_parted past s (line ∷ front) back [] late run new = absurd run
new_parted past s (line ∷ front) back (x ∷ early) late run new =
    let rest = new_parted (past ++ x.told) x.after front back early late run.1 new.1 in
    ((new.0, rest.0), subst (λ (told : List Happening). AreNewcomers told back late) (append_assoc past x.told (all_told early)) rest.1)

-- the state behind the points of a lane is that of the lane
behind_lane : (lane : ℕ) (s : LineState) (t : Lanes) (points : List LanePoint) (own : List Point) → s ≡ track lane t → ArePointsOn lane points own → state_behind s own ≡ track lane (lanes.state_behind t points)
behind_lane lane s t [] [] same beside = same
behind_lane lane s t [] (x ∷ own) same beside = absurd beside
behind_lane lane s t (point ∷ points) [] same beside = absurd beside
behind_lane lane s t (point ∷ points) (x ∷ own) same beside = behind_lane lane x.after point.after points own beside.0.after beside.1

-- ---- the run of the script with the line behind it tells no lie

sets_few : (line : LaneLine) → IsFitLaneLine line → SetsFew line
sets_few (lane_lines.On lane line) fit = tt
sets_few (lane_lines.Lanes count) fit = fit
sets_few (lane_lines.Shift machine from to id) fit = tt

all_few : (asked : List LaneLine) → AllByRecursion IsFitLaneLine asked → AllByRecursion SetsFew asked
all_few [] fit = tt
all_few (line ∷ asked) fit = (sets_few line fit.0, all_few asked fit.1)

not_lied : (unvouched : Option ℕ) (lied : Bool) → unvouched ≡ None → is_some unvouched ≡ lied → lied ≡ false
not_lied unvouched lied none is = sym is ∙ ap is_some none

-- ---- ALL OF IT

-- the points that a line's are on a lane, and what holds of each
pub record OnTrackAlong (Holds : LineState → LineState → List Happening → Type 0) (lane : ℕ) (before after : Lanes) (points : List LanePoint) : Type 0 where
  pub own : List Point
  pub beside : ArePointsOn lane points own
  pub each : EachAlong Holds (track lane before) own
  pub behind : state_behind (track lane before) own ≡ track lane after

pub on_track : (Holds : LineState → LineState → List Happening → Type 0) → OfEachStep Holds → EachLaneIsATrack → EachRunRemembers → (line : LaneLine) (before after : Lanes) (told : List LaneHappening) → (k : Known line before after told)
    → AreVouchedAlike after → unvouched_of after ≡ None → (lane : ℕ) → 1 ≤ lane → OnTrackAlong Holds lane before after k.steps.points
on_track Holds step tracks remembers line before after told k alike none lane least =
    let front : List LanePoint = all_points k.reached.done in
    let points : List LanePoint = k.steps.points in
    let r = run_behind line before after told k in
    let all_is : all_points (k.reached.done ++ points ∷ []) ≡ front ++ points = points_on k.reached.done points in
    let end : lanes.state_behind no_lanes (all_points (k.reached.done ++ points ∷ [])) ≡ after =
    ap (lanes.state_behind no_lanes) all_is ∙ behind_on no_lanes front points ∙ ap (λ (s : Lanes). lanes.state_behind s points) k.reached.behind ∙ k.steps.behind in
    let lie : has_lie_on (all_points (k.reached.done ++ points ∷ [])) ≡ false =
    not_lied (unvouched_of (lanes.state_behind no_lanes (all_points (k.reached.done ++ points ∷ [])))) (has_lie_on (all_points (k.reached.done ++ points ∷ [])))
    (ap unvouched_of end ∙ none) (remembers (k.reached.asked ++ line ∷ []) (k.reached.done ++ points ∷ []) (all_few (k.reached.asked ++ line ∷ []) r.fit) r.run) in
    let t : IsTrackOf lane (all_points (k.reached.done ++ points ∷ [])) = tracks (k.reached.asked ++ line ∷ []) (k.reached.done ++ points ∷ []) lane least r.fit r.short r.run in
    let n : ℕ = length (all_points (k.reached.done ++ points ∷ [])) + (length t.asked + length t.own) in
    let honest = t.honest n (ap has_lie_on (take_past n (all_points (k.reached.done ++ points ∷ [])) (omega arith)) ∙ lie) in
    let asked_all : take n t.asked ≡ t.asked = take_past n t.asked (omega arith) in
    let own_all : take n t.own ≡ t.own = take_past n t.own (omega arith) in
    let fit : AllByRecursion IsFitTrack t.asked = subst (λ (ls : List TrackLine). AllByRecursion IsFitTrack ls) asked_all honest.1 in
    let new : AreNewcomers [] t.asked t.own =
    subst (λ (ps : List Point). AreNewcomers [] t.asked ps) own_all (subst (λ (ls : List TrackLine). AreNewcomers [] ls (take n t.own)) asked_all honest.0.newcomers) in
    let p : IsParted lane front points t.own = parted lane front points t.own (subst (λ (ps : List LanePoint). ArePointsOn lane ps t.own) all_is t.beside) in
    let q : IsRunParted no_line t.asked p.early p.late = run_parted no_line t.asked p.early p.late (subst (λ (ps : List Point). IsRun no_line t.asked ps) p.is t.run) in
    let shorts = short_parted no_line p.early p.late (subst (λ (ps : List Point). IsShort no_line ps) p.is t.short) in
    let fits = fit_parted q.front q.back (subst (λ (ls : List TrackLine). AllByRecursion IsFitTrack ls) q.is fit) in
    let news = new_parted [] no_line q.front q.back p.early p.late q.first (subst (λ (ls : List TrackLine). AreNewcomers [] ls (p.early ++ p.late)) q.is (subst (λ (ps : List Point). AreNewcomers [] t.asked ps) p.is new)) in
    let here : state_behind no_line p.early ≡ track lane before =
    behind_lane lane no_line no_lanes front p.early (sym (none_track lane least)) p.first ∙ ap (track lane) k.reached.behind in
    let there : state_behind (track lane before) p.late ≡ track lane after =
    behind_lane lane (track lane before) before points p.late refl p.second ∙ ap (track lane) k.steps.behind in
    let vouched : (state_behind (track lane before) p.late).unvouched ≡ None = ap (λ (s : LineState). s.unvouched) there ∙ alike lane least ∙ none in
    record {
      own = p.late;
      beside = p.second;
      each = each_along Holds step (track lane before) q.front p.early q.back p.late (record { run = q.first; short = shorts.0; fit = fits.0; new = news.0; behind = here })
          (subst (λ (s : LineState). IsRun s q.back p.late) here q.second) (subst (λ (s : LineState). IsShort s p.late) here shorts.1) fits.1 news.1 vouched;
      behind = there;
    }

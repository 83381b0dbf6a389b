-- The run of a track beside the points of a line, and one point more.
use Rattle.std.proofs.Common.{◌≡◌, ◌∙◌, ◌+◌, ◌<◌, ◌≤◌, ◌++◌, ◌⊎◌, inl, inr, ℕ, zero, suc, false, List, [], ◌∷◌, length, take, refl, sym, ap, subst, arith, append-nil, append_assoc}
use Rattle.std.specs.List.{AllByRecursion}
use Rattle.std.proofs.lemmas.Bool.{or_from, or_parts}
use Rattle.line_report.specs.declared.happening.Happening.{Happening}
use Rattle.line_report.specs.declared.happening.LaneHappening.{LaneHappening}
use Rattle.line_step.specs.Homes.{AreNewcomers, IsHonest, IsNewcomer}
use Rattle.line_step.specs.Lies.{has_lie, tells_lie}
use Rattle.line_step.specs.Runs.{IsRun, IsShort, Point, all_told, state_behind}
use Rattle.line_step.specs.State.{LineState, no_line}
use Rattle.line_step.specs.Tracks.{TrackLine, TrackSteps}
use Rattle.line_step.proofs.Running.{behind-append, run-append, short-more}
use Rattle.law_one_standing.specs.Standing.{IsFitTrack}
use Rattle.law_lanes.specs.Along.{ArePointsOn, IsPointOn, all_done, told_for}
use Rattle.law_lanes.specs.Lanes.{Lanes, lines_of, track}
use Rattle.law_lanes.specs.Parts.{LanePoint}
use Rattle.law_lanes.specs.Parts as lanes
use Rattle.law_lanes.specs.Views.{has_lie_on, tells_lie_on}
use Rattle.law_lanes.proofs.Telling.{done_append, for_append, join_all, lie_for, same_lie}
use Rattle.law_lanes.proofs.Together.{within_or_past}

-- ---- lists

take_short : {A : Type 0} (n : ℕ) (xs ys : List A) → n ≤ length xs → take n (xs ++ ys) ≡ take n xs
take_short zero xs ys few = refl
take_short (suc n) [] ys few = absurd (let never : ⊥ = omega (arith, few) in never)
take_short (suc n) (x ∷ xs) ys few =
    ap (λ l. x ∷ l) (take_short n xs ys (omega (arith, few)))

pub take_past : {A : Type 0} (n : ℕ) (xs : List A) → length xs ≤ n → take n xs ≡ xs
take_past zero [] past = refl
take_past (suc n) [] past = refl
take_past zero (x ∷ xs) past = absurd (let never : ⊥ = omega (arith, past) in never)
take_past (suc n) (x ∷ xs) past = ap (λ l. x ∷ l) (take_past n xs (omega (arith, past)))

more_many : {A : Type 0} (xs : List A) (x : A) → length (xs ++ x ∷ []) ≡ length xs + 1
more_many [] x = refl
more_many (y ∷ xs) x =
    let more = more_many xs x in
    omega (arith, more)

-- ---- lies

pub lie_more : (points : List LanePoint) (point : LanePoint)
    → has_lie_on (points ++ point ∷ []) ≡ false
    → (has_lie_on points ≡ false) × (tells_lie_on point.told ≡ false)
lie_more [] point none = (refl, (or_parts (tells_lie_on point.told) false none).0)
lie_more (first ∷ points) point none =
    let parts = or_parts (tells_lie_on first.told) (has_lie_on (points ++ point ∷ [])) none in
    let rest = lie_more points point parts.1 in
    (or_from (tells_lie_on first.told) (has_lie_on points) parts.0 rest.0, rest.1)

pub honest_more : (points : List LanePoint) (point : LanePoint) → has_lie_on points ≡ false
    → tells_lie_on point.told ≡ false → has_lie_on (points ++ point ∷ []) ≡ false
honest_more [] point one two = or_from (tells_lie_on point.told) false two refl
honest_more (first ∷ points) point one two =
    let parts = or_parts (tells_lie_on first.told) (has_lie_on points) one in
    or_from (tells_lie_on first.told) (has_lie_on (points ++ point ∷ [])) parts.0
    (honest_more points point parts.1 two)

own_honest : (points : List Point) (point : Point) → has_lie points ≡ false
    → tells_lie point.told ≡ false → has_lie (points ++ point ∷ []) ≡ false
own_honest [] point one two = or_from (tells_lie point.told) false two refl
own_honest (first ∷ points) point one two =
    let parts = or_parts (tells_lie first.told) (has_lie points) one in
    or_from (tells_lie first.told) (has_lie (points ++ point ∷ [])) parts.0
    (own_honest points point parts.1 two)

-- ---- newcomers

newcomers_more : (past : List Happening) (asked : List TrackLine) (own : List Point)
    (line : TrackLine) (point : Point) → length asked ≡ length own → AreNewcomers past asked own
    → IsNewcomer (past ++ all_told own) line
    → AreNewcomers past (asked ++ line ∷ []) (own ++ point ∷ [])
newcomers_more past [] [] line point many new one =
    (subst (λ (t : List Happening). IsNewcomer t line) (append-nil past) one, tt)
newcomers_more past [] (x ∷ own) line point many new one =
    absurd (let never : ⊥ = omega (arith, many) in never)
newcomers_more past (l ∷ asked) [] line point many new one =
    absurd (let never : ⊥ = omega (arith, many) in never)
newcomers_more past (l ∷ asked) (x ∷ own) line point many new one = (
  new.0,
  newcomers_more (past ++ x.told) asked own line point (omega (arith, many)) new.1
      (subst (λ (t : List Happening). IsNewcomer t line)
      (sym (append_assoc past x.told (all_told own))) one),
)

-- ---- the track of a lane so far

pub record TrackTo (lane : ℕ) (points : List LanePoint) (s : Lanes) : Type 0 where
  pub asked : List TrackLine
  pub own : List Point
  pub run : IsRun no_line asked own
  pub short : IsShort no_line own
  pub beside : ArePointsOn lane points own
  pub behind : state_behind no_line own ≡ track lane s
  pub lines_many : length asked ≡ length points
  pub points_many : length own ≡ length points
  pub honest : (n : ℕ) → has_lie_on (take n points) ≡ false
      → IsHonest asked own n × AllByRecursion IsFitTrack (take n asked)

-- what is done on the track is what is told of the lane
pub told_beside : (lane : ℕ) (points : List LanePoint) (own : List Point)
    → ArePointsOn lane points own
    → all_done (all_told own) ≡ all_done (told_for lane (lanes.all_told points))
told_beside lane [] [] beside = refl
told_beside lane [] (x ∷ own) beside = absurd beside
told_beside lane (point ∷ points) [] beside = absurd beside
told_beside lane (point ∷ points) (x ∷ own) beside =
    done_append x.told (all_told own)
    ∙ (λ i. beside.0.told i ++ told_beside lane points own beside.1 i)
    ∙ sym (done_append (told_for lane point.told) (told_for lane (lanes.all_told points)))
    ∙ ap all_done (sym (for_append lane point.told (lanes.all_told points)))

beside_more : (lane : ℕ) (points : List LanePoint) (own : List Point) (point : LanePoint)
    (x : Point) → ArePointsOn lane points own → IsPointOn lane point x
    → ArePointsOn lane (points ++ point ∷ []) (own ++ x ∷ [])
beside_more lane [] [] point x beside one = (one, tt)
beside_more lane [] (y ∷ own) point x beside one = absurd beside
beside_more lane (first ∷ points) [] point x beside one = absurd beside
beside_more lane (first ∷ points) (y ∷ own) point x beside one =
    (beside.0, beside_more lane points own point x beside.1 one)

pub all_told_more : (points : List LanePoint) (point : LanePoint)
    → lanes.all_told (points ++ point ∷ []) ≡ lanes.all_told points ++ point.told
all_told_more [] point = append-nil point.told
all_told_more (first ∷ points) point =
    ap (λ (t : List LaneHappening). first.told ++ t) (all_told_more points point)
    ∙ sym (append_assoc first.told (lanes.all_told points) point.told)

-- of all lines so far
pub record WholeHonest (asked : List TrackLine) (own : List Point) : Type 0 where
  pub told : has_lie own ≡ false
  pub newcomers : AreNewcomers [] asked own
  pub fit : AllByRecursion IsFitTrack asked

pub whole_honest : (lane : ℕ) (points : List LanePoint) (s : Lanes) (t : TrackTo lane points s)
    → has_lie_on points ≡ false → WholeHonest t.asked t.own
whole_honest lane points s t none =
    let n = length points in
    let all = t.honest n (ap has_lie_on (take_past n points (omega arith)) ∙ none) in
    let lines : take n t.asked ≡ t.asked = take_past n t.asked (omega (arith, t.lines_many)) in
    let own : take n t.own ≡ t.own = take_past n t.own (omega (arith, t.points_many)) in
    record {
      told = ap has_lie (sym own) ∙ all.0.told;
      newcomers = subst (λ (l : List TrackLine). AreNewcomers [] l t.own) lines
          (subst (λ (p : List Point). AreNewcomers [] (take n t.asked) p) own all.0.newcomers);
      fit = subst (λ (l : List TrackLine). AllByRecursion IsFitTrack l) lines all.1;
    }

honest_by : (n : ℕ) (asked : List TrackLine) (own : List Point) (line : TrackLine) (x : Point)
    → n ≤ length asked → n ≤ length own
    → IsHonest asked own n × AllByRecursion IsFitTrack (take n asked)
    → IsHonest (asked ++ line ∷ []) (own ++ x ∷ []) n
    × AllByRecursion IsFitTrack (take n (asked ++ line ∷ []))
honest_by n asked own line x one two was =
    let lines = sym (take_short n asked (line ∷ []) one) in
    let points = sym (take_short n own (x ∷ []) two) in (
      record {
        told = subst (λ (p : List Point). has_lie p ≡ false) points was.0.told;
        newcomers = subst (λ (l : List TrackLine). AreNewcomers [] l (take n (own ++ x ∷ []))) lines
            (subst (λ (p : List Point). AreNewcomers [] (take n asked) p) points was.0.newcomers);
      },
      subst (λ (l : List TrackLine). AllByRecursion IsFitTrack l) lines was.1,
    )

honest_all : (n : ℕ) (asked : List TrackLine) (own : List Point) → length asked ≤ n
    → length own ≤ n → WholeHonest asked own
    → IsHonest asked own n × AllByRecursion IsFitTrack (take n asked)
honest_all n asked own one two is =
    let lines = sym (take_past n asked one) in
    let points = sym (take_past n own two) in (
      record {
        told = subst (λ (p : List Point). has_lie p ≡ false) points is.told;
        newcomers = subst (λ (l : List TrackLine). AreNewcomers [] l (take n own)) lines
            (subst (λ (p : List Point). AreNewcomers [] asked p) points is.newcomers);
      },
      subst (λ (l : List TrackLine). AllByRecursion IsFitTrack l) lines is.fit,
    )

-- ONE POINT MORE
pub track_more : (lane : ℕ) (points : List LanePoint) (s : Lanes) (point : LanePoint)
    (line : TrackLine) (told : List Happening) (t : TrackTo lane points s)
    → lines_of s + 1 ≤ 1000000 → (track lane s).lines ≡ lines_of s
    → TrackSteps (lines_of s + 1) line (track lane s) (track lane point.after) told
    → all_done told ≡ all_done (told_for lane point.told)
    → (has_lie_on points ≡ false → IsNewcomer (all_told t.own) line × IsFitTrack line)
    → TrackTo lane (points ++ point ∷ []) point.after
track_more lane points s point line told t few lines steps same new =
    let x : Point = record { told = told; after = track lane point.after } in
    let number : lines_of s + 1 ≡ (track lane s).lines + 1 = ap (λ (n : ℕ). n + 1) (sym lines) in
    let due = subst (λ (n : ℕ). TrackSteps n line (track lane s) (track lane point.after) told)
    number steps in
    let last = subst (λ (b : LineState). TrackSteps (b.lines + 1) line b (track lane point.after) told)
    (sym t.behind) due in
    let count : (state_behind no_line t.own).lines ≡ lines_of s =
    ap (λ (b : LineState). b.lines) t.behind ∙ lines in
    let one = more_many points point in
    let two = more_many t.asked line in
    let three = more_many t.own x in
    record {
      asked = t.asked ++ line ∷ [];
      own = t.own ++ x ∷ [];
      run = run-append no_line t.asked (line ∷ []) t.own (x ∷ []) t.run (last, tt);
      short = short-more no_line t.own x t.short (omega (arith, count, few));
      beside = beside_more lane points t.own point x t.beside
          (record { after = refl; told = same });
      behind = behind-append no_line t.own (x ∷ []);
      lines_many = omega (arith, one, two, t.lines_many);
      points_many = omega (arith, one, three, t.points_many);
      honest = λ n none. by n none (within_or_past n (length points));
    } where
      by : (n : ℕ) → has_lie_on (take n (points ++ point ∷ [])) ≡ false
          → (n ≤ length points) ⊎ (length points < n)
          → IsHonest (t.asked ++ line ∷ []) (t.own ++ record { told = told; after = track lane point.after } ∷ []) n
          × AllByRecursion IsFitTrack (take n (t.asked ++ line ∷ []))
      by n none (inl within) =
          honest_by n t.asked t.own line (record { told = told; after = track lane point.after })
          (omega (arith, within, t.lines_many)) (omega (arith, within, t.points_many))
          (t.honest n (ap has_lie_on (sym (take_short n points (point ∷ []) within)) ∙ none))
      by n none (inr past) =
          let x : Point = record { told = told; after = track lane point.after } in
          let one = more_many points point in
          let two = more_many t.asked line in
          let three = more_many t.own x in
          let whole = ap has_lie_on (sym (take_past n (points ++ point ∷ [])
          (omega (arith, one, past)))) ∙ none in
          let parts = lie_more points point whole in
          let was = whole_honest lane points s t parts.0 in
          let more = new parts.0 in
          honest_all n (t.asked ++ line ∷ []) (t.own ++ x ∷ [])
          (omega (arith, two, past, t.lines_many)) (omega (arith, three, past, t.points_many))
          (record {
            told = own_honest t.own x was.told
                (same_lie told (told_for lane point.told) same ∙ lie_for lane point.told parts.1);
            newcomers = newcomers_more [] t.asked t.own line x
                (t.lines_many ∙ sym t.points_many) was.newcomers more.0;
            fit = join_all IsFitTrack t.asked (line ∷ []) was.fit (more.1, tt);
          })

-- the run of the law
pub none_to : (lane : ℕ) (s : Lanes) → no_line ≡ track lane s → TrackTo lane [] s
none_to lane s same =
    record {
      asked = [];
      own = [];
      run = tt;
      short = tt;
      beside = tt;
      behind = same;
      lines_many = refl;
      points_many = refl;
      honest = λ n none. nothing n;
    } where
      nothing : (n : ℕ) → IsHonest [] [] n × AllByRecursion IsFitTrack (take n [])
      nothing zero = (record { told = refl; newcomers = tt }, tt)
      nothing (suc n) = (record { told = refl; newcomers = tt }, tt)

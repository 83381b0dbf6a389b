-- What is said of a run of a lane is said of the lane's points.
use Rattle.std.proofs.Common.{◌≡◌, ◌∙◌, ◌+◌, ◌≤◌, ◌++◌, ◌&&◌, ◌||◌, ◌==◌, ℕ, Bool, true, false, List, [], ◌∷◌, Some, refl, sym, ap, subst}
use Rattle.std.specs.Prelude.{if◌then◌else◌, not, slice_get}
use Rattle.board_record.specs.declared.record.Record.{Record}
use Rattle.line_report.specs.declared.happening.Happening.{Happening}
use Rattle.line_report.specs.declared.happening.Happening.TheVariants as happenings
use Rattle.line_step.specs.Numbered.{node_at}
use Rattle.line_step.specs.Requests.{Request}
use Rattle.line_step.specs.Requests as requests
use Rattle.line_step.specs.Runs.{Point}
use Rattle.line_step.specs.State.{LineState}
use Rattle.line_step.specs.Tracks.{TrackLine, asked_on, other_line, own_line}
use Rattle.law_history.specs.Offered.{IsLast}
use Rattle.law_twelve_steps.specs.Twelve.{CanGoOnToEnd, EndsWithin, HoldsItToEnd, KeepsItToEnd, Unless, has_ended, is_settling, one_if, steps_to_end, tells_settled}
use Rattle.law_twelve_steps.specs.Undisturbed.{is_link_step, is_no, is_of_link, tells_no}
use Rattle.law_lanes.specs.Along.{all_done, is_done, told_for}
use Rattle.law_lanes.specs.Lanes.{track}
use Rattle.law_lanes.specs.Parts.{LanePoint}
use Rattle.law_lane_script.specs.Script.{ArePointsOf, IsPointOf, beside_standings, is_of_lane, is_standing, more_points, no_points}
use Rattle.law_lane_steps.specs.Steps.{points_on}

-- ---- what is told

undone_settling : (k id : ℕ) (h : Happening) → is_done h ≡ false → is_settling k id h ≡ false
undone_settling k id (happenings.Done machine act) none = cc
undone_settling k id h none = refl

settled_test : (test : Bool) (k id : ℕ) (h : Happening) (told : List Happening)
    → is_done h ≡ test → tells_settled k id told ≡ tells_settled k id (all_done told)
    → (is_settling k id h || tells_settled k id told)
    ≡ tells_settled k id (if test then h ∷ all_done told else all_done told)
settled_test true k id h told is same = ap (λ (b : Bool). is_settling k id h || b) same
settled_test false k id h told is same =
    λ i. undone_settling k id h is i || same i

settled_done : (k id : ℕ) (told : List Happening)
    → tells_settled k id told ≡ tells_settled k id (all_done told)
settled_done k id [] = refl
settled_done k id (h ∷ told) = settled_test (is_done h) k id h told refl (settled_done k id told)

pub same_settled : (k id : ℕ) (a b : List Happening) → all_done a ≡ all_done b
    → tells_settled k id a ≡ tells_settled k id b
same_settled k id a b same =
    settled_done k id a ∙ ap (tells_settled k id) same ∙ sym (settled_done k id b)

standing_no : (h : Happening) → is_standing h ≡ true → is_no h ≡ false
standing_no (happenings.No reason) is = cc
standing_no h is = refl

no_test : (test : Bool) (h : Happening) (told : List Happening) → is_standing h ≡ test
    → tells_no told ≡ tells_no (beside_standings told)
    → (is_no h || tells_no told)
    ≡ tells_no (if test then beside_standings told else h ∷ beside_standings told)
no_test true h told is same = λ i. standing_no h is i || same i
no_test false h told is same = ap (λ (b : Bool). is_no h || b) same

no_beside : (told : List Happening) → tells_no told ≡ tells_no (beside_standings told)
no_beside [] = refl
no_beside (h ∷ told) = no_test (is_standing h) h told refl (no_beside told)

same_no : (a b : List Happening) → beside_standings a ≡ beside_standings b
    → tells_no a ≡ tells_no b
same_no a b same = no_beside a ∙ ap tells_no same ∙ sym (no_beside b)

-- a line of more lanes than one is no link step
same_link : (k : ℕ) (s : LineState) (line : TrackLine) (a b : List Happening)
    → (is_of_lane line ≡ true → beside_standings a ≡ beside_standings b)
    → one_if (is_link_step k s (asked_on line) a) ≡ one_if (is_link_step k s (asked_on line) b)
same_link k s other_line a b same = refl
same_link k s (own_line requests.nothing) a b same = refl
same_link k s (own_line requests.shows) a b same = refl
same_link k s (own_line (requests.adds lane is_bridge capacity used)) a b same = refl
same_link k s (own_line (requests.stops machine)) a b same = refl
same_link k s (own_line request) a b same =
    ap (λ (refused : Bool). one_if (is_of_link k s request && not refused)) (same_no a b (same refl))

-- ---- along the points

steps_same : {lane : ℕ} {lines : List TrackLine} {points : List LanePoint} {own : List Point}
    (k id : ℕ) (settled : Bool) (s : LineState) → ArePointsOf lane lines points own
    → steps_to_end k id settled s lines own ≡ steps_to_end k id settled s lines (points_on lane points)
steps_same k id settled s no_points = refl
steps_same {lane = lane} k id settled s (more_points {line = line} {lines = lines} {point = point} {points = points} {own = x} {owns = own} one rest) =
    let told : List Happening = told_for lane point.told in
    let link = same_link k s line x.told told one.told in
    let ends = same_settled k id x.told told one.done in
    let after = one.after in
    let now : Bool = settled || tells_settled k id told in
    (λ i. link i + (if has_ended k (settled || ends i) (after i) then 0 else
    steps_to_end k id (settled || ends i) (after i) lines own))
    ∙ ap (λ (n : ℕ). one_if (is_link_step k s (asked_on line) told)
    + (if has_ended k now (track lane point.after) then 0 else n))
    (steps_same k id now (track lane point.after) rest)

unless_so : {A B : Type 0} (test : Bool) → (A → B) → Unless test A → Unless test B
unless_so true f a = tt
unless_so false f a = f a

can_same : {lane : ℕ} {lines : List TrackLine} {points : List LanePoint} {own : List Point}
    (k id : ℕ) (settled : Bool) (s : LineState) → ArePointsOf lane lines points own
    → CanGoOnToEnd k id settled s own → CanGoOnToEnd k id settled s (points_on lane points)
can_same k id settled s no_points can = can
can_same {lane = lane} k id settled s (more_points {point = point} {points = points} {own = x} {owns = own} one rest) can =
    let told : List Happening = told_for lane point.told in
    let ends = same_settled k id x.told told one.done in
    let now : Bool = settled || tells_settled k id told in
    let here = subst (λ (t : LineState). Unless (has_ended k now t) (CanGoOnToEnd k id now t own)) one.after
    (subst (λ (b : Bool). Unless (has_ended k (settled || b) x.after) (CanGoOnToEnd k id (settled || b) x.after own))
    ends can.1) in (
      can.0,
      unless_so (has_ended k now (track lane point.after))
          (λ (c : CanGoOnToEnd k id now (track lane point.after) own). can_same k id now (track lane point.after) rest c)
          here,
    )

holds_same : {lane : ℕ} {lines : List TrackLine} {points : List LanePoint} {own : List Point}
    (k : ℕ) (board : Record) (settled : Bool) (s : LineState) → ArePointsOf lane lines points own
    → HoldsItToEnd k board settled s own → HoldsItToEnd k board settled s (points_on lane points)
holds_same k board settled s no_points holds = holds
holds_same {lane = lane} k board settled s (more_points {point = point} {points = points} {own = x} {owns = own} one rest) holds =
    let told : List Happening = told_for lane point.told in
    let ends = same_settled k board.id x.told told one.done in
    let now : Bool = settled || tells_settled k board.id told in
    let here = subst (λ (t : LineState). Unless (has_ended k now t) (HoldsItToEnd k board now t own)) one.after
    (subst (λ (b : Bool). Unless (has_ended k (settled || b) x.after) (HoldsItToEnd k board (settled || b) x.after own))
    ends holds.1) in (
      holds.0,
      unless_so (has_ended k now (track lane point.after))
          (λ (c : HoldsItToEnd k board now (track lane point.after) own). holds_same k board now (track lane point.after) rest c)
          here,
    )

keeps_same : {lane : ℕ} {lines : List TrackLine} {points : List LanePoint} {own : List Point}
    (k : ℕ) (board : Record) (settled : Bool) → ArePointsOf lane lines points own
    → KeepsItToEnd k board settled own → KeepsItToEnd k board settled (points_on lane points)
keeps_same k board settled no_points keeps = keeps
keeps_same {lane = lane} k board settled (more_points {point = point} {points = points} {own = x} {owns = own} one rest) keeps =
    let told : List Happening = told_for lane point.told in
    let ends = same_settled k board.id x.told told one.done in
    let now : Bool = settled || tells_settled k board.id told in
    let last = subst (λ (t : LineState). tells_settled k board.id told ≡ true → IsLast board (node_at t (k + 1)).lane.body.kept)
    one.after
    (subst (λ (b : Bool). b ≡ true → IsLast board (node_at x.after (k + 1)).lane.body.kept) ends keeps.0) in
    let here = subst (λ (t : LineState). Unless (has_ended k now t) (KeepsItToEnd k board now own)) one.after
    (subst (λ (b : Bool). Unless (has_ended k (settled || b) x.after) (KeepsItToEnd k board (settled || b) own))
    ends keeps.1) in (
      last,
      unless_so (has_ended k now (track lane point.after))
          (λ (c : KeepsItToEnd k board now own). keeps_same k board now rest c) here,
    )

pub ends_same : (lane most k id : ℕ) (s : LineState) (lines : List TrackLine)
    (points : List LanePoint) (own : List Point) → ArePointsOf lane lines points own
    → EndsWithin most k id s lines own → EndsWithin most k id s lines (points_on lane points)
ends_same lane most k id s lines points own are ends =
    record {
      few = subst (λ (n : ℕ). n ≤ most) (steps_same k id false s are) ends.few;
      possible = can_same k id false s are ends.possible;
      held = λ board front. holds_same k board false s are (ends.held board front);
      kept = λ board front. keeps_same k board false are (ends.kept board front);
    }

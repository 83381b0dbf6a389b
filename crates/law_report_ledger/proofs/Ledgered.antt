-- The ledger of a lane that is read off a report's bytes is that of the lane's run.
use Rattle.std.proofs.Common.{◌≡◌, ◌∙◌, sym, ap, refl, subst, ℕ, suc, ◌+◌, ◌||◌, Bool, true, false, List, [], ◌∷◌, ◌++◌, append_assoc, append-nil, arith, if◌then◌else◌, length, take, take_all}
use Rattle.std.proofs.lemmas.List.Elements.{recursion_from_All}
use Rattle.line_script.specs.declared.line.LaneLine.{LaneLine}
use Rattle.line_report.specs.declared.happening.Happening.{Happening}
use Rattle.line_report.specs.declared.happening.Happening.TheVariants as happenings
use Rattle.standings.specs.Ledger.{AreLegal, Ledger, empty_ledger, ledger_after_all}
use Rattle.standings.specs.declared.deed.Deed.{Deed}
use Rattle.line_step.specs.Runs.{Point}
use Rattle.line_step.specs.State.{LineState, no_line}
use Rattle.law_one_standing.specs.Replay.{Follows, IsLedgerOf, LedgerFollows, deeds_in as deeds_of_one, deeds_of}
use Rattle.law_one_standing.proofs.LedgerMarks.{ledger_of}
use Rattle.law_one_standing.proofs.LedgerRun.{none_fits}
use Rattle.law_one_standing.proofs.LedgerStandings.{standing_told}
use Rattle.law_one_standing.proofs.LedgerTurns.{after_append, legal_append}
use Rattle.law_lanes.specs.Along.{ArePointsOn, EachFrontIsATrack, IsHonestTrackOf, all_done, is_done, told_for}
use Rattle.law_lanes.specs.Lanes.{Lanes, lines_of, no_lanes, track}
use Rattle.law_lanes.specs.Parts.{IsLaneRun, IsShort, LanePoint, all_points, state_behind}
use Rattle.law_lanes.specs.Views.{has_lie_on, lanes_text, tells_lie_on}
use Rattle.law_lanes.proofs.ScriptRuns.{run-short}
use Rattle.law_lanes.proofs.Together.{none_track}
use Rattle.law_report_ledger.specs.Deeds.{lane_deeds_at, lane_deeds_in_report, lane_deeds_told}
use Rattle.law_report_lines.specs.Lines.{AreUnnumbered, ReportLine, lines_in}
use Rattle.law_report_ledger.specs.Ledgers.{LaneReportTellsLedger, honest_on}
use Rattle.law_report_lines.specs.Proper.{ArePointsProper, IsProperOn}
use Rattle.law_report_ledger.specs.ReportLines.{vouched}
use Rattle.law_report_ledger.proofs.Alone.{run_alone}
use Rattle.law_report_ledger.proofs.Coming.{AreAllTold, run_told}
use Rattle.law_report_ledger.proofs.Deeds.{told_deeds}
use Rattle.law_report_ledger.proofs.Lines.{lines_told, run_lines, run_read}
use Rattle.law_report_ledger.proofs.Vouched.{Vouches, run_vouched}

-- ---- deeds of lines one behind the other

pub deeds_append : (lane : ℕ) (a b : List ReportLine)
    → lane_deeds_told lane (a ++ b) ≡ lane_deeds_told lane a ++ lane_deeds_told lane b
deeds_append lane [] b = refl
deeds_append lane (line ∷ a) b =
    ap (λ ds. lane_deeds_at lane line.number line.text ++ ds) (deeds_append lane a b)
    ∙ sym (append_assoc (lane_deeds_at lane line.number line.text) (lane_deeds_told lane a)
    (lane_deeds_told lane b))

pub deeds_unnumbered : (lane : ℕ) (tail : List ReportLine) → AreUnnumbered tail
    → lane_deeds_told lane tail ≡ []
deeds_unnumbered lane [] none = refl
deeds_unnumbered lane (line ∷ tail) none =
    ap (λ n. lane_deeds_at lane n line.text ++ lane_deeds_told lane tail) none.0
    ∙ deeds_unnumbered lane tail none.1

-- ---- deeds along a run

abbrev deeds_on : ℕ → List LanePoint → List Deed
deeds_on lane [] = []
deeds_on lane (point ∷ points) = deeds_of (told_for lane point.told) ++ deeds_on lane points

run_deeds : (lane number : ℕ) (points : List LanePoint) → ArePointsProper points
    → AreAllTold points → lane_deeds_told lane (run_lines number points) ≡ deeds_on lane points
run_deeds lane number [] proper told = refl
run_deeds lane number (point ∷ points) proper told =
    let later = run_lines (lines_of point.after + 1) points in
    deeds_append lane (lines_told number point.told) later
    ∙ ap (λ (ds : List Deed). ds ++ lane_deeds_told lane later)
    (told_deeds lane number point.told (recursion_from_All IsProperOn point.told proper.0.each) told.0)
    ∙ ap (λ (ds : List Deed). deeds_of (told_for lane point.told) ++ ds)
    (run_deeds lane (lines_of point.after + 1) points proper.1 told.1)

-- ---- the honest points are a front of the run

proper_by : (lies : Bool) (point : LanePoint) (points : List LanePoint)
    → ArePointsProper (point ∷ points) → ArePointsProper (if lies then [] else point ∷ points)
proper_by true point points proper = tt
proper_by false point points proper = proper

pub honest_proper : (points : List LanePoint) → ArePointsProper points
    → ArePointsProper (honest_on points)
honest_proper [] proper = tt
honest_proper (point ∷ points) proper =
    proper_by (tells_lie_on point.told) point (honest_on points)
    (proper.0, honest_proper points proper.1)

told_by : (lies : Bool) (point : LanePoint) (points : List LanePoint)
    → AreAllTold (point ∷ points) → AreAllTold (if lies then [] else point ∷ points)
told_by true point points told = tt
told_by false point points told = told

pub honest_told : (points : List LanePoint) → AreAllTold points → AreAllTold (honest_on points)
honest_told [] told = tt
honest_told (point ∷ points) told =
    told_by (tells_lie_on point.told) point (honest_on points) (told.0, honest_told points told.1)

-- as a number of points, none of which lies
pub record IsFront (points : List LanePoint) : Type 0 where
  pub count : ℕ
  pub is : honest_on points ≡ take count points
  pub honesty : has_lie_on (take count points) ≡ false

front_more : (point : LanePoint) (points : List LanePoint) → IsFront points → (lies : Bool)
    → tells_lie_on point.told ≡ lies → IsFront (point ∷ points)
front_more point points behind true lying =
    record {
      count = 0;
      is = ap (λ (c : Bool). if c then [] else point ∷ honest_on points) lying;
      honesty = refl;
    }
front_more point points behind false honesty =
    record {
      count = suc behind.count;
      is = ap (λ (c : Bool). if c then [] else point ∷ honest_on points) honesty
          ∙ ap (λ (ps : List LanePoint). point ∷ ps) behind.is;
      honesty = ap (λ (c : Bool). c || has_lie_on (take behind.count points)) honesty
          ∙ behind.honesty;
    }

pub front_of : (points : List LanePoint) → IsFront points
front_of [] = record { count = 0; is = refl; honesty = refl }
front_of (point ∷ points) =
    front_more point points (front_of points) (tells_lie_on point.told) refl

-- ---- what was done tells the same deeds

undone_deeds : (h : Happening) → is_done h ≡ false → deeds_of_one h ≡ []
undone_deeds (happenings.Done machine act) is = absurd (let never : true ≡ false = is in cc)
undone_deeds _ is = refl

done_by : (test : Bool) (h : Happening) (told : List Happening) → is_done h ≡ test
    → deeds_of told ≡ deeds_of (all_done told)
    → deeds_of_one h ++ deeds_of told
    ≡ deeds_of (if test then h ∷ all_done told else all_done told)
done_by true h told is same = ap (λ (ds : List Deed). deeds_of_one h ++ ds) same
done_by false h told is same =
    ap (λ (ds : List Deed). ds ++ deeds_of told) (undone_deeds h is) ∙ same

done_deeds : (told : List Happening) → deeds_of told ≡ deeds_of (all_done told)
done_deeds [] = refl
done_deeds (h ∷ told) = done_by (is_done h) h told refl (done_deeds told)

pub same_deeds : (a b : List Happening) → all_done a ≡ all_done b → deeds_of a ≡ deeds_of b
same_deeds a b same = done_deeds a ∙ ap deeds_of same ∙ sym (done_deeds b)

-- ---- the ledger

record Leads (ledger : Ledger) (deeds : List Deed) (s : LineState) : Type 0 where
  legal : AreLegal ledger deeds
  marks : IsLedgerOf (ledger_after_all ledger deeds) s

leads_more : (ledger : Ledger) (one other : List Deed) (s : LineState) → AreLegal ledger one
    → Leads (ledger_after_all ledger one) other s → Leads ledger (one ++ other) s
leads_more ledger one other s legal behind =
    record {
      legal = legal_append ledger one other legal behind.legal;
      marks = subst (λ (l : Ledger). IsLedgerOf l s) (sym (after_append ledger one other))
          behind.marks;
    }

leads_along : (lane : ℕ) (ledger : Ledger) (s : Lanes) (points : List LanePoint)
    (own : List Point) → IsLedgerOf ledger (track lane s) → ArePointsOn lane points own
    → Follows ledger own → Leads ledger (deeds_on lane points) (track lane (state_behind s points))
leads_along lane ledger s [] [] marks beside follows = record { legal = tt; marks = marks }
leads_along lane ledger s [] (p ∷ own) marks beside follows = absurd beside
leads_along lane ledger s (point ∷ points) [] marks beside follows = absurd beside
leads_along lane ledger s (point ∷ points) (p ∷ own) marks beside follows =
    let end = track lane (state_behind point.after points) in
    let now = ledger_after_all ledger (deeds_of p.told) in
    let here : IsLedgerOf now (track lane point.after) =
    subst (λ (t : LineState). IsLedgerOf now t) beside.0.after follows.1 in
    let behind = leads_along lane now point.after points own here beside.1 follows.3 in
    subst (λ (ds : List Deed). Leads ledger (ds ++ deeds_on lane points) end)
    (same_deeds p.told (told_for lane point.told) beside.0.told)
    (leads_more ledger (deeds_of p.told) (deeds_on lane points) end follows.0 behind)

report_deeds : (lane : ℕ) (asked : List LaneLine) (done : List (List LanePoint))
    (ending : List ℕ) → IsShort no_lanes (all_points done) → IsLaneRun no_lanes asked done
    → ArePointsProper (all_points done) → AreUnnumbered (lines_in ending)
    → lane_deeds_in_report lane (lanes_text 1 (all_points done) ++ ending)
    ≡ deeds_on lane (honest_on (all_points done))
report_deeds lane asked done ending short run proper none =
    let points = all_points done in
    let vouches : Vouches 1 points (lines_in ending) =
    run_vouched 0 no_lanes points (lines_in ending) (run_alone 0 no_lanes asked done (omega arith) run)
    none in
    ap (λ (l : List ReportLine). lane_deeds_told lane (vouched l))
    (run_read no_lanes points ending short proper)
    ∙ ap (lane_deeds_told lane) vouches.is
    ∙ deeds_append lane (run_lines 1 (honest_on points)) vouches.rest
    ∙ ap (λ (ds : List Deed). lane_deeds_told lane (run_lines 1 (honest_on points)) ++ ds)
    (deeds_unnumbered lane vouches.rest vouches.none)
    ∙ append-nil (lane_deeds_told lane (run_lines 1 (honest_on points)))
    ∙ run_deeds lane 1 (honest_on points) (honest_proper points proper)
    (honest_told points (run_told no_lanes asked done run))

-- ---- THE LAW

pub report_tells_ledger : EachFrontIsATrack → LedgerFollows → LaneReportTellsLedger
report_tells_ledger fronts follows asked done ending lane some fit few run proper none =
    let points = all_points done in
    let short = run-short no_lanes asked done run (omega (arith, few)) in
    let front = front_of points in
    let text = lanes_text 1 points ++ ending in
    let end = track lane (state_behind no_lanes (honest_on points)) in
    let own : IsHonestTrackOf lane (honest_on points) =
    subst (IsHonestTrackOf lane) (sym front.is)
    (fronts asked done front.count lane some fit short run front.honesty) in
    let many = length own.own in
    let all : Follows empty_ledger own.own =
    subst (λ (ps : List Point). Follows empty_ledger ps) (take_all many own.own (omega arith))
    (follows own.asked own.own many own.fit own.short own.run (own.honest many)) in
    let first : IsLedgerOf empty_ledger (track lane no_lanes) =
    subst (λ (t : LineState). IsLedgerOf empty_ledger t) (sym (none_track lane some))
    (ledger_of no_line empty_ledger none_fits) in
    let leads : Leads empty_ledger (deeds_on lane (honest_on points)) end =
    leads_along lane empty_ledger no_lanes (honest_on points) own.own first own.beside all in
    let told : Leads empty_ledger (lane_deeds_in_report lane text) end =
    subst (λ (ds : List Deed). Leads empty_ledger ds end)
    (sym (report_deeds lane asked done ending short run proper none)) leads in
    record {
      legal = told.legal;
      marks = told.marks;
      standings = standing_told (ledger_after_all empty_ledger (lane_deeds_in_report lane text)) end
          told.marks;
    }

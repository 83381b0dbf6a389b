-- The standing that a report's bytes over several lanes told last of an id is the one that the ledger
-- of its lane gives.
use Rattle.std.proofs.Common.{◌≡◌, ◌<◌, ◌^◌, ◌∙◌, sym, ap, refl, subst, ℕ, suc, zero, ◌+◌, ◌==◌, ◌||◌, Bool, true, false, List, [], ◌∷◌, ◌++◌, Option, Some, None, append_assoc, arith, codes, flat_map, if◌then◌else◌, map, take}
use Rattle.std.specs.List.{AllByRecursion}
use Rattle.std.proofs.lemmas.Bool.{eqb-true}
use Rattle.std.proofs.lemmas.List.Elements.{recursion_from_All}
use Rattle.board_record.specs.BoardId.{id_text}
use Rattle.hermes_vertical.specs.declared.message.Vertical.{Vertical}
use Rattle.hermes_vertical.specs.declared.message.Vertical.TheVariants as verticals
use Rattle.line_check.specs.Words.{cut_at_space}
use Rattle.line_report.specs.Lanes.{told_on}
use Rattle.line_report.specs.Texts.{act_on, happening_on, place_text, told_text as body_text}
use Rattle.line_report.specs.declared.happening.Happening.{Happening}
use Rattle.line_report.specs.declared.happening.Happening.TheVariants as happenings
use Rattle.line_report.specs.declared.happening.LaneHappening.{LaneHappening}
use Rattle.line_script.specs.declared.line.LaneLine.{LaneLine}
use Rattle.line_step.specs.Shown.{ascending, ids_marked}
use Rattle.line_step.specs.State.{LineState, marks_in, owned}
use Rattle.line_step.proofs.Unnamed.{apart_ids}
use Rattle.law_lanes.specs.Along.{IsOnOneLane, OneStandingOnLanes, StandsOnEach}
use Rattle.law_lanes.specs.Lanes.{Lanes, lines_of, no_lanes, track}
use Rattle.law_lanes.specs.Parts.{IsLanePlay, IsLaneRun, LanePart, LanePoint, all_points, parts_of, state_behind}
use Rattle.law_lanes.specs.Shown.{LaneMarks, LanePlace, is_same_place, marked_from, marked_on, marks_told, place_told, standing_happens, standing_on, standings_on, with_marks}
use Rattle.law_lanes.specs.Steps.{LanesStep}
use Rattle.law_lanes.specs.Views.{lanes_text}
use Rattle.law_lanes.proofs.ScriptRuns.{run-short}
use Rattle.law_lanes.proofs.Together.{none_track}
use Rattle.node_core.specs.declared.act.Act.{Act}
use Rattle.node_core.specs.declared.act.Act.TheVariants as acts
use Rattle.node_core.specs.declared.act.Deed.TheVariants as deeds
use Rattle.node_core.specs.declared.act.Setting.TheVariants as settings
use Rattle.standings.specs.Marks.{has_id}
use Rattle.standings.specs.Standing.{Place}
use Rattle.standings.specs.declared.mark.Mark.{Mark}
use Rattle.standings.specs.declared.standing.Standing.TheVariants as places
use Rattle.law_report_lines.specs.Lines.{AreUnnumbered, ReportLine, lines_in}
use Rattle.law_report_ledger.specs.Ledgers.{LaneReportTellsLedger, TellsLaneLedger, honest_on, lane_ledger_in}
use Rattle.law_report_ledger.specs.Places.{lane_of, number_of}
use Rattle.law_report_lines.specs.Proper.{ArePointsProper, IsProperOn}
use Rattle.law_report_ledger.specs.ReportLines.{vouched}
use Rattle.law_report_ledger.specs.Standings.{is_id, LaneReportTellsStandings, line_stands_on, standing_after_on, standing_from_on, standing_there, stands_at_on}
use Rattle.law_report_ledger.proofs.Alone.{run_alone}
use Rattle.law_report_ledger.proofs.Deeds.{id_read}
use Rattle.law_report_ledger.proofs.Ledgered.{front_of, honest_proper}
use Rattle.law_report_ledger.proofs.Lines.{lines_told, run_lines, run_read}
use Rattle.law_report_ledger.proofs.Marked.{Stands, marked_stands, there_is}
use Rattle.law_report_ledger.proofs.Silent.{IsSilent, done_silent}
use Rattle.law_report_ledger.proofs.TrackMarks.{has_ascending, ledger_stands, none_marked, same_is}
use Rattle.law_report_ledger.proofs.Vouched.{Vouches, run_vouched}
use Rattle.law_report_ledger.proofs.Walk.{EachOn}
use Rattle.law_report_ledger.proofs.Words.{cut_solid, place_word, solid_place}

-- ---- the standing that happenings tell of an id

abbrev on : ℕ → Place → Option LanePlace
on lane standing = Some (record { lane = lane; standing = standing })

abbrev stands_in : ℕ → Option LanePlace → ℕ → Happening → Option LanePlace
stands_in id before lane (happenings.With machine other) =
    if other == id then on lane (places.With machine) else before
stands_in id before lane (happenings.Between gap other) =
    if other == id then on lane (places.Between gap) else before
stands_in id before lane (happenings.Gone other) = if other == id then None else before
stands_in id before lane _ = before

abbrev stands_along : ℕ → Option LanePlace → List LaneHappening → Option LanePlace
stands_along id before [] = before
stands_along id before (h ∷ told) = stands_along id (stands_in id before h.lane h.what) told

-- ---- what a text tells

place_read : (place : ℕ → Place) (id : ℕ) (before : Option LanePlace) (lane number other : ℕ)
    → lane < 2 ^ 32 → number < 2 ^ 32 → other < 2 ^ 128
    → stands_at_on place id before (cut_at_space ((place_text lane number ++ codes " ") ++ id_text other))
    ≡ (if other == id then on lane (place number) else before)
place_read place id before lane number other few small fits =
    let text = place_text lane number in
    let word = place_word lane number few small in
    ap (stands_at_on place id before) (cut_solid text (id_text other) (solid_place lane number))
    ∙ ap (λ (o : Option ℕ). if is_id id o then on (lane_of text) (place (number_of text)) else before)
    (id_read other fits)
    ∙ ap (λ (l : ℕ). if other == id then on l (place (number_of text)) else before) word.lane_is
    ∙ ap (λ (n : ℕ). if other == id then on lane (place n) else before) word.number_is

body_stands : (id : ℕ) (before : Option LanePlace) (machine : ℕ) (body : Vertical)
    → standing_after_on id before (body_text machine body) ≡ before
body_stands id before machine (verticals.BoardArrived passage) = refl
body_stands id before machine (verticals.BoardDeparted passage) = refl
body_stands id before machine (verticals.QueryWorkOrderInfo query question) = refl
body_stands id before machine (verticals.SupervisoryServiceDescription system) = refl
body_stands id before machine (verticals.SendWorkOrderInfo query order batch product) = refl
body_stands id before machine (verticals.CheckAlive ping other) = refl
body_stands id before machine (verticals.Notification code severity text) = refl
body_stands id before machine (verticals.Other name) = refl

act_stands : (id : ℕ) (before : Option LanePlace) (lane machine : ℕ) (act : Act)
    → standing_after_on id before (act_on lane machine act) ≡ before
act_stands id before lane machine (acts.Deed (deeds.Opens other)) = refl
act_stands id before lane machine (acts.Tells message) = body_stands id before machine message.body
act_stands id before lane machine (acts.Sets (settings.Will side true)) = refl
act_stands id before lane machine _ = refl

text_stands : (id : ℕ) (before : Option LanePlace) (lane : ℕ) (what : Happening)
    → IsProperOn (record { lane = lane; what = what })
    → standing_after_on id before (happening_on lane what) ≡ stands_in id before lane what
text_stands id before lane (happenings.With machine other) proper =
    place_read places.With id before lane machine other proper.0 proper.1.0 proper.1.1
text_stands id before lane (happenings.Between gap other) proper =
    place_read places.Between id before lane gap other proper.0 proper.1.0 proper.1.1
text_stands id before lane (happenings.Gone other) proper =
    ap (λ (o : Option ℕ). if is_id id o then None else before) (id_read other proper.1)
text_stands id before lane (happenings.Done machine act) proper =
    act_stands id before lane machine act
text_stands id before lane (happenings.Lanes count) proper = refl
text_stands id before lane (happenings.Machine number capacity) proper = refl
text_stands id before lane (happenings.Bridge number capacity) proper = refl
text_stands id before lane (happenings.Cut gap) proper = refl
text_stands id before lane (happenings.Stop machine) proper = refl
text_stands id before lane (happenings.Spoils machine side) proper = refl
text_stands id before lane (happenings.Moved gap step) proper = refl
text_stands id before lane (happenings.Lie machine sensed) proper = refl
text_stands id before lane (happenings.Unseen machine side) proper = refl
text_stands id before lane happenings.Unvouched proper = refl
text_stands id before lane (happenings.No reason) proper = refl
text_stands id before lane (happenings.Shown machine other quality) proper = refl
text_stands id before lane (happenings.ShownBetween gap other) proper = refl

told_stands : (id number : ℕ) (before : Option LanePlace) (told : List LaneHappening)
    (later : List ReportLine) → AllByRecursion IsProperOn told
    → standing_from_on id before (lines_told number told ++ later)
    ≡ standing_from_on id (stands_along id before told) later
told_stands id number before [] later proper = refl
told_stands id number before (h ∷ told) later proper =
    ap (λ (b : Option LanePlace). standing_from_on id b (lines_told number told ++ later))
    (text_stands id before h.lane h.what proper.0)
    ∙ told_stands id number (stands_in id before h.lane h.what) told later proper.1

unnumbered_stands : (id : ℕ) (before : Option LanePlace) (tail : List ReportLine)
    → AreUnnumbered tail → standing_from_on id before tail ≡ before
unnumbered_stands id before [] none = refl
unnumbered_stands id before (line ∷ tail) none =
    ap (λ (n : Option ℕ). standing_from_on id (line_stands_on id before n line.text) tail) none.0
    ∙ unnumbered_stands id before tail none.1

-- ---- one list behind another

along_append : (id : ℕ) (before : Option LanePlace) (a b : List LaneHappening)
    → stands_along id before (a ++ b) ≡ stands_along id (stands_along id before a) b
along_append id before [] b = refl
along_append id before (h ∷ a) b = along_append id (stands_in id before h.lane h.what) a b

silent_one : (id : ℕ) (before : Option LanePlace) (lane : ℕ) (what : Happening) → IsSilent what
    → stands_in id before lane what ≡ before
silent_one id before lane (happenings.With machine other) silent = absurd silent
silent_one id before lane (happenings.Between gap other) silent = absurd silent
silent_one id before lane (happenings.Gone other) silent = absurd silent
silent_one id before lane _ silent = refl

silent_along : (id : ℕ) (before : Option LanePlace) (told : List LaneHappening)
    → EachOn IsSilent told → stands_along id before told ≡ before
silent_along id before [] silent = refl
silent_along id before (h ∷ told) silent =
    ap (λ (b : Option LanePlace). stands_along id b told)
    (silent_one id before h.lane h.what silent.0) ∙ silent_along id before told silent.1

-- ---- the standings that changed

abbrev or_else : Option LanePlace → Option LanePlace → Option LanePlace
or_else None before = before
or_else (Some place) before = Some place

-- what is told of marks that were, and are
abbrev after_told : List LaneMarks → List LaneMarks → Option LanePlace → Option LanePlace
after_told [] [] before = before
after_told (own ∷ others) [] before = None
after_told was (own ∷ others) before =
    if is_same_place (standing_on (own ∷ others)) (standing_on was) then before
    else or_else (standing_on (own ∷ others)) before

same_else : (test : Bool) (before : Option LanePlace) → before ≡ (if test then before else before)
same_else true before = refl
same_else false before = refl

one_stands : (id other lane : ℕ) (standing : Place) (before : Option LanePlace)
    → stands_along id before (told_on lane (standing_happens other standing ∷ []))
    ≡ (if other == id then on lane standing else before)
one_stands id other lane (places.With machine) before = refl
one_stands id other lane (places.Between gap) before = refl

place_stands : (id other : ℕ) (place before : Option LanePlace)
    → stands_along id before (place_told other place)
    ≡ (if other == id then or_else place before else before)
place_stands id other None before = same_else (other == id) before
place_stands id other (Some place) before = one_stands id other place.lane place.standing before

changed_stands : (same : Bool) (id other : ℕ) (place before : Option LanePlace)
    → stands_along id before (if same then [] else place_told other place)
    ≡ (if other == id then (if same then before else or_else place before) else before)
changed_stands true id other place before = same_else (other == id) before
changed_stands false id other place before = place_stands id other place before

one_told : (id other : ℕ) (was now : List LaneMarks) (before : Option LanePlace)
    → stands_along id before (marks_told other was now)
    ≡ (if other == id then after_told was now before else before)
one_told id other [] [] before = same_else (other == id) before
one_told id other (own ∷ others) [] before = refl
one_told id other was (own ∷ others) before =
    changed_stands (is_same_place (standing_on (own ∷ others)) (standing_on was)) id other
    (standing_on (own ∷ others)) before

else_twice : (place before : Option LanePlace)
    → or_else place (or_else place before) ≡ or_else place before
else_twice None before = refl
else_twice (Some place) before = refl

twice_by : (same : Bool) (place before : Option LanePlace)
    → (if same then (if same then before else or_else place before) else or_else place (if same then before else or_else place before))
    ≡ (if same then before else or_else place before)
twice_by true place before = refl
twice_by false place before = else_twice place before

twice : (was now : List LaneMarks) (before : Option LanePlace)
    → after_told was now (after_told was now before) ≡ after_told was now before
twice [] [] before = refl
twice (own ∷ others) [] before = refl
twice was (own ∷ others) before =
    twice_by (is_same_place (standing_on (own ∷ others)) (standing_on was))
    (standing_on (own ∷ others)) before

abbrev chosen : Bool → List LaneMarks → List LaneMarks → Option LanePlace → Option LanePlace
chosen test was now before = if test then after_told was now before else before

again : (test : Bool) (was now : List LaneMarks) (before : Option LanePlace)
    → chosen test was now (after_told was now before) ≡ after_told was now before
again true was now before = twice was now before
again false was now before = refl

one_more : (was now : ℕ → List LaneMarks) (id other : ℕ) (rest test : Bool)
    (before : Option LanePlace) → (other == id) ≡ test
    → chosen rest (was id) (now id) (if test then after_told (was other) (now other) before else before)
    ≡ chosen (test || rest) (was id) (now id) before
one_more was now id other rest true before is =
    let same : other ≡ id = eqb-true other id is in
    ap (λ (n : ℕ). chosen rest (was id) (now id) (after_told (was n) (now n) before)) same
    ∙ again rest (was id) (now id) before
one_more was now id other rest false before is = refl

all_told : (was now : ℕ → List LaneMarks) (id : ℕ) (ids : List ℕ) (before : Option LanePlace)
    → stands_along id before (flat_map (λ (other : ℕ). marks_told other (was other) (now other)) ids)
    ≡ chosen (has_id id ids) (was id) (now id) before
all_told was now id [] before = refl
all_told was now id (other ∷ ids) before =
    let later = flat_map (λ (o : ℕ). marks_told o (was o) (now o)) ids in
    along_append id before (marks_told other (was other) (now other)) later
    ∙ ap (λ (b : Option LanePlace). stands_along id b later)
    (one_told id other (was other) (now other) before)
    ∙ all_told was now id ids (if other == id then after_told (was other) (now other) before else before)
    ∙ one_more was now id other (has_id id ids) (other == id) before refl

-- ---- an id that is told of by nobody has no marks

none_on : (id lane : ℕ) (tracks : List LineState) → has_id id (flat_map ids_marked tracks) ≡ false
    → marked_from id lane tracks ≡ []
none_on id lane [] none = refl
none_on id lane (t ∷ tracks) none =
    let two = apart_ids id (ids_marked t) (flat_map ids_marked tracks) none in
    ap (λ (ms : List Mark). with_marks lane ms (marked_from id (lane + 1) tracks))
    (none_marked 1 id (owned t) two.0) ∙ none_on id (lane + 1) tracks two.1

-- ---- the standing that marks give

place_by : (one other : LanePlace) (lane standing : Bool) → (one.lane == other.lane) ≡ lane
    → (standing ≡ true → one.standing ≡ other.standing)
    → (if lane then standing else false) ≡ true → one ≡ other
place_by one other true true here same is =
    let lanes : one.lane ≡ other.lane = eqb-true one.lane other.lane here in
    let standings : one.standing ≡ other.standing = same refl in
    ap (λ (l : ℕ). record { lane = l; standing = one.standing }) lanes
    ∙ ap (λ (p : Place). record { lane = other.lane; standing = p }) standings
place_by one other true false here same is = absurd (let never : false ≡ true = is in cc)
place_by one other false standing here same is = absurd (let never : false ≡ true = is in cc)

some_same : (one other : Place) → Some one ≡ Some other → one ≡ other
some_same one other same = cc

same_place : (one other : Option LanePlace) → is_same_place one other ≡ true → one ≡ other
same_place None None is = refl
same_place None (Some other) is = absurd (let never : false ≡ true = is in cc)
same_place (Some one) None is = absurd (let never : false ≡ true = is in cc)
same_place (Some one) (Some other) is =
    ap (λ (p : LanePlace). Some p)
    (place_by one other (one.lane == other.lane) _ refl
    (λ same. some_same one.standing other.standing
    (same_is (Some one.standing) (Some other.standing) same)) is)

changed_by : (same : Bool) (was now before : Option LanePlace) (place : LanePlace)
    → is_same_place now was ≡ same → now ≡ Some place → before ≡ was
    → (if same then before else or_else now before) ≡ now
changed_by true was now before place alike is stood = stood ∙ sym (same_place now was alike)
changed_by false was now before place alike is stood =
    ap (λ (n : Option LanePlace). or_else n before) is ∙ sym is

changed : (was now : List LaneMarks) (before : Option LanePlace) → before ≡ standing_on was
    → Stands now → after_told was now before ≡ standing_on now
changed [] [] before stood has = stood
changed (own ∷ others) [] before stood has = refl
changed [] (own ∷ others) before stood has =
    let place = has (λ none. cc) in
    changed_by (is_same_place (standing_on (own ∷ others)) None) None (standing_on (own ∷ others))
    before place.0 refl place.1 stood
changed (one ∷ more) (own ∷ others) before stood has =
    let place = has (λ none. cc) in
    changed_by (is_same_place (standing_on (own ∷ others)) (standing_on (one ∷ more)))
    (standing_on (one ∷ more)) (standing_on (own ∷ others)) before place.0 refl place.1 stood

listed_by : (test : Bool) (before next : Lanes) (id : ℕ) (place : Option LanePlace)
    → has_id id (ascending (flat_map ids_marked before.tracks ++ flat_map ids_marked next.tracks)) ≡ test
    → place ≡ standing_on (marked_on before id) → Stands (marked_on next id)
    → chosen test (marked_on before id) (marked_on next id) place ≡ standing_on (marked_on next id)
listed_by true before next id place is stood has =
    changed (marked_on before id) (marked_on next id) place stood has
listed_by false before next id place is stood has =
    let was = flat_map ids_marked before.tracks in
    let now = flat_map ids_marked next.tracks in
    let two = apart_ids id was now (has_ascending id (was ++ now) is) in
    stood
    ∙ ap standing_on (none_on id 1 before.tracks two.0 ∙ sym (none_on id 1 next.tracks two.1))

standings_stand : (before next : Lanes) (id : ℕ) (place : Option LanePlace)
    → place ≡ standing_on (marked_on before id) → Stands (marked_on next id)
    → stands_along id place (standings_on before next) ≡ standing_on (marked_on next id)
standings_stand before next id place stood has =
    let ids = ascending (flat_map ids_marked before.tracks ++ flat_map ids_marked next.tracks) in
    all_told (marked_on before) (marked_on next) id ids place
    ∙ listed_by (has_id id ids) before next id place refl stood has

-- ---- A LINE, AND A RUN

counted_marked : (id lane lines : ℕ) (tracks : List LineState)
    → marked_from id lane (map (λ (t : LineState). record t { lines = lines }) tracks)
    ≡ marked_from id lane tracks
counted_marked id lane lines [] = refl
counted_marked id lane lines (t ∷ tracks) =
    ap (with_marks lane (marks_in t id)) (counted_marked id (lane + 1) lines tracks)

step_stands : (number : ℕ) (line : LaneLine) (before after : Lanes) (told : List LaneHappening)
    (id : ℕ) (place : Option LanePlace) → LanesStep number line before after told
    → place ≡ standing_on (marked_on before id) → Stands (marked_on after id)
    → stands_along id place told ≡ standing_on (marked_on after id)
step_stands number line before after told id place steps stood has =
    let same : marked_on after id ≡ marked_on steps.next id =
    ap (λ (s : Lanes). marked_on s id) steps.after_is
    ∙ counted_marked id 1 steps.lines steps.next.tracks in
    ap (stands_along id place) steps.told_is
    ∙ along_append id place steps.done (standings_on before steps.next)
    ∙ ap (λ (b : Option LanePlace). stands_along id b (standings_on before steps.next))
    (silent_along id place steps.done
    (done_silent number line before steps.next steps.done steps.does))
    ∙ standings_stand before steps.next id place stood (subst Stands same has)
    ∙ ap standing_on (sym same)

-- a point is a step
record IsStep (s : Lanes) (point : LanePoint) : Type 0 where
  number : ℕ
  line : LaneLine
  steps : LanesStep number line s point.after point.told

abbrev AreSteps : Lanes → List LanePoint → Type 0
AreSteps s [] = Unit {0}
AreSteps s (point ∷ points) = IsStep s point × AreSteps point.after points

play_steps : (s : Lanes) (parts : List LanePart) (points more : List LanePoint)
    → IsLanePlay s parts points → AreSteps (state_behind s points) more → AreSteps s (points ++ more)
play_steps s [] [] more play later = later
play_steps s [] (point ∷ points) more play later = absurd play
play_steps s (part ∷ parts) [] more play later = absurd play
play_steps s (part ∷ parts) (point ∷ points) more play later = (
  record { number = lines_of s + 1; line = part.line s; steps = play.0.steps },
  play_steps point.after parts points more play.1 later,
)

run_steps : (s : Lanes) (asked : List LaneLine) (done : List (List LanePoint))
    → IsLaneRun s asked done → AreSteps s (all_points done)
run_steps s [] [] run = tt
run_steps s [] (own ∷ done) run = absurd run
run_steps s (line ∷ asked) [] run = absurd run
run_steps s (line ∷ asked) (own ∷ done) run =
    play_steps s (parts_of _ line) own (all_points done) run.0
    (run_steps (state_behind s own) asked done run.1)

run_stands : (id number : ℕ) (s : Lanes) (points : List LanePoint) (count : ℕ)
    (place : Option LanePlace) (tail : List ReportLine) → AreSteps s points
    → ArePointsProper (take count points)
    → AllByRecursion (λ (point : LanePoint). StandsOnEach point.after) (take count points)
    → AreUnnumbered tail → place ≡ standing_on (marked_on s id)
    → standing_from_on id place (run_lines number (take count points) ++ tail)
    ≡ standing_on (marked_on (state_behind s (take count points)) id)
run_stands id number s points zero place tail steps proper one none stood =
    unnumbered_stands id place tail none ∙ stood
run_stands id number s [] (suc count) place tail steps proper one none stood =
    unnumbered_stands id place tail none ∙ stood
run_stands id number s (point ∷ points) (suc count) place tail steps proper one none stood =
    let told = point.told in
    let others = run_lines (lines_of point.after + 1) (take count points) in
    let step = steps.0 in
    ap (standing_from_on id place) (append_assoc (lines_told number told) others tail)
    ∙ told_stands id number place told (others ++ tail)
    (recursion_from_All IsProperOn told proper.0.each)
    ∙ run_stands id (lines_of point.after + 1) point.after points count (stands_along id place told)
    tail steps.1 proper.1 one.1 none
    (step_stands step.number step.line s point.after told id place step.steps stood
    (marked_stands point.after id one.0))

-- ---- THE LAW

-- no record is on two lanes behind the front
none_alone : IsOnOneLane no_lanes
none_alone id lane other some more one two =
    absurd (one (ap (λ (t : LineState). marks_in t id) (none_track lane some)))

last_alone : (points : List LanePoint) (s : Lanes) → IsOnOneLane s
    → AllByRecursion (λ (point : LanePoint). StandsOnEach point.after) points
    → IsOnOneLane (state_behind s points)
last_alone [] s first each = first
last_alone (point ∷ points) s first each = last_alone points point.after each.0.alone each.1

pub report_tells_standings : OneStandingOnLanes → LaneReportTellsLedger → LaneReportTellsStandings
report_tells_standings one tells asked done ending lane some fit few run proper none =
    let points = all_points done in
    let short = run-short no_lanes asked done run (omega (arith, few)) in
    let front = front_of points in
    let text = lanes_text 1 points ++ ending in
    let vouches : Vouches 1 points (lines_in ending) =
    run_vouched 0 no_lanes points (lines_in ending) (run_alone 0 no_lanes asked done (omega arith) run)
    none in
    let lines : vouched (lines_in text) ≡ run_lines 1 (honest_on points) ++ vouches.rest =
    ap vouched (run_read no_lanes points ending short proper) ∙ vouches.is in
    let end = state_behind no_lanes (honest_on points) in
    let ledger : TellsLaneLedger lane text end =
    tells asked done ending lane some fit few run proper none in
    let fine : ArePointsProper (take front.count points) =
    subst ArePointsProper front.is (honest_proper points proper) in
    let each = one asked done front.count fit short run front.honesty in
    let alone : IsOnOneLane end =
    subst (λ (ps : List LanePoint). IsOnOneLane (state_behind no_lanes ps)) (sym front.is)
    (last_alone (take front.count points) no_lanes none_alone each) in
    record {
      each = λ id.
          ledger_stands (lane_ledger_in lane text) (track lane end) id ledger.standings
          ∙ sym (there_is end lane id some alone)
          ∙ ap (standing_there lane)
          (ap (λ (ps : List LanePoint). standing_on (marked_on (state_behind no_lanes ps) id)) front.is
          ∙ sym (run_stands id 1 no_lanes points front.count None vouches.rest
          (run_steps no_lanes asked done run) fine each vouches.none refl)
          ∙ ap (λ (ps : List LanePoint). standing_from_on id None (run_lines 1 ps ++ vouches.rest))
          (sym front.is)
          ∙ ap (standing_from_on id None) (sym lines));
    }

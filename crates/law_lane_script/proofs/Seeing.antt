-- What a line that moves no board between lanes is to each lane.
use Rattle.std.proofs.Common.{◌≡◌, ◌≢◌, ◌∙◌, ◌+◌, ◌<◌, ◌≤◌, ◌==◌, ◌++◌, ℕ, Bool, true, false, List, [], ◌∷◌, Ok, Err, length, refl, sym, ap, subst, arith, eqb-true}
use Rattle.std.specs.Prelude.{if◌then◌else◌, is_some, nat_le, nat_lt, slice_get}
use Rattle.std.proofs.lemmas.Bool.{and_from, eqb-false, false≢true, le-leb, lt-ltb}
use Rattle.node_core.specs.Node.{NodeState}
use Rattle.node_core.specs.declared.input.Input.TheVariants as inputs
use Rattle.line_report.specs.Lanes.{told_on}
use Rattle.line_report.specs.declared.happening.Happening.{Happening}
use Rattle.line_report.specs.declared.happening.Happening.TheVariants as happenings
use Rattle.line_report.specs.declared.happening.LaneHappening.{LaneHappening}
use Rattle.line_report.specs.declared.happening.Reason.{Reason}
use Rattle.line_report.specs.declared.happening.Reason.TheVariants as reasons
use Rattle.line_step.specs.Lines.{LineDoes}
use Rattle.line_step.specs.Reasons.{May, may_add, may_do, may_stop, no_if}
use Rattle.line_step.specs.Requests.{Request, added_told}
use Rattle.line_step.specs.Requests as requests
use Rattle.line_step.specs.Shown.{shown}
use Rattle.line_step.specs.State.{LineState, machine_in, most_machines}
use Rattle.line_step.specs.Tracks.{TrackLine, other_line, own_line}
use Rattle.law_one_standing.specs.Standing.{IsFitRequest}
use Rattle.law_lanes.specs.Along.{all_done, told_for}
use Rattle.law_lanes.specs.Lanes.{Lanes, empty_track, has_lane, track, with_track}
use Rattle.law_lanes.specs.Reasons.{first_track, may_on, may_set, stand_any}
use Rattle.law_lanes.specs.Shown.{shown_on}
use Rattle.law_lanes.specs.Steps as steps
use Rattle.law_lanes.specs.Steps.{OnTrack, RequestDoes, copies, more_on, told_once}
use Rattle.law_lanes.proofs.Seen.{IsNoShift, IsOfLane, IsPlainLine, MayOn, Sees, does_unmoved, from_nowhere, is_done_of, lane_there, may_on_is, named_some, of_lane}
use Rattle.law_lanes.proofs.Sharing.{IsLeft, left_itself, left_same, shared_many}
use Rattle.law_lanes.proofs.Telling.{AreNoDeeds, AreUnmoved, for_other, for_own, none_for}
use Rattle.law_lanes.proofs.Together.{IsDone, IsThere, IsTogether, Whether, copies_track, first_there, is_past, is_there, more_track, other_left, own_put, past_more, two_alike, whether}
use Rattle.law_lanes.proofs.Walk.{IsKnown, known_plain}
use Rattle.law_lane_script.specs.Lines.{request_on, where_done}
use Rattle.law_lane_script.specs.Script.{is_of_lane}
use Rattle.law_lane_script.proofs.Showing.{shown_on_each}

pub record SeesAs (number lane : ℕ) (line : TrackLine) (before next : Lanes)
    (done : List LaneHappening) : Type 0 where
  pub told : List Happening
  pub sees : Sees number line (track lane before) (track lane next) told
  pub same : all_done told ≡ all_done (told_for lane done)
  pub whole : is_of_lane line ≡ true → told ≡ told_for lane done

-- of a board that comes it is known where it comes from
pub record KnowsAs (number lane : ℕ) (line : TrackLine) (before next : Lanes)
    (done : List LaneHappening) : Type 0 where
  pub sees : SeesAs number lane line before next done
  pub known : IsKnown number before next done lane line

-- ---- a lane that sees nothing

pub none_knows : (number lane : ℕ) (before next : Lanes) (done : List LaneHappening)
    → IsLeft (track lane before) (track lane next) → all_done (told_for lane done) ≡ []
    → KnowsAs number lane other_line before next done
none_knows number lane before next done left none =
    record {
      sees = record {
        told = [];
        sees = (left, refl);
        same = sym none;
        whole = λ never. absurd (false≢true never);
      };
      known = known_plain tt tt;
    }

becomes_knows : (number lane : ℕ) (line : TrackLine) (before what next : Lanes)
    (told done : List LaneHappening) → KnowsAs number lane line before what told
    → steps.Becomes what told next done → KnowsAs number lane line before next done
becomes_knows number lane line before what next told done knows b =
    subst (λ (n : Lanes). KnowsAs number lane line before n done) (sym b.after_is)
    (subst (λ (t : List LaneHappening). KnowsAs number lane line before what t) (sym b.told_is)
    knows)

refused_knows : (number lane : ℕ) (why : Reason) (before next : Lanes) (done : List LaneHappening)
    → steps.Becomes before (told_once (happenings.No why)) next done
    → KnowsAs number lane other_line before next done
refused_knows number lane why before next done b =
    let told = told_once (happenings.No why) in
    becomes_knows number lane other_line before before next told done
    (none_knows number lane before before told (left_itself (track lane before))
    (none_for lane told (refl, tt))) b

pub unless_knows : (number lane : ℕ) (may own : May) (line : TrackLine) (before next : Lanes)
    (done : List LaneHappening) (Done : Type 0) → own ≡ may
    → steps.Unless may before next done Done
    → (own ≡ may_do → Done → KnowsAs number lane line before next done)
    → KnowsAs number lane (where_done may line) before next done
unless_knows number lane (Err why) own line before next done Done same does goes =
    refused_knows number lane why before next done does
unless_knows number lane (Ok _) own line before next done Done same does goes = goes same does

-- ---- what is shown

show_knows : (number lane : ℕ) (before : Lanes) → IsTogether before → 1 ≤ lane
    → KnowsAs number lane (own_line requests.shows) before before (shown_on before)
show_knows number lane before is some =
    record {
      sees = record {
        told = shown (track lane before);
        sees = (record { after_is = refl; told_is = refl }, tt);
        same = ap all_done (sym (shown_on_each lane before is some));
        whole = λ never. absurd (false≢true never);
      };
      known = known_plain tt tt;
    }

-- ---- one machine more

added_none : (is_bridge : Bool) (capacity : ℕ) (s : LineState)
    → AreNoDeeds (told_on 1 (added_told is_bridge capacity s))
added_none true capacity s = (refl, tt)
added_none false capacity s = (refl, tt)

added_quiet : (is_bridge : Bool) (capacity : ℕ) (s : LineState)
    → all_done (added_told is_bridge capacity s) ≡ []
added_quiet true capacity s = refl
added_quiet false capacity s = refl

more_there : (number lane : ℕ) (is_bridge : Bool) (capacity used : ℕ) (before : Lanes)
    → IsTogether before → may_add (first_track before) ≡ may_do → IsThere lane before
    → KnowsAs number lane (own_line (requests.adds lane is_bridge capacity used)) before
    (record before { tracks = more_on 1 is_bridge capacity used before.tracks })
    (told_on 1 (added_told is_bridge capacity (first_track before)))
more_there number lane is_bridge capacity used before is may there =
    let many = shared_many (track 1 before).machines (track lane before).machines
    (is.like lane there).machines in
    let own_may : may_add (track lane before) ≡ may_do =
    ap (λ (n : ℕ). no_if (nat_le most_machines n) reasons.LineFull may_do) many ∙ may in
    let small : lane ≤ 4 = omega (arith, there.1, is.few) in
    record {
      sees = record {
        told = added_told is_bridge capacity (track lane before);
        sees = (
          rw own_may (record {
            after_is = more_track is_bridge capacity used lane before there;
            told_is = refl;
          }),
          tt,
        );
        same =
            added_quiet is_bridge capacity (track lane before)
            ∙ sym (none_for lane _ (added_none is_bridge capacity (first_track before)));
        whole = λ never. absurd (false≢true never);
      };
      known = known_plain tt small;
    }

has_there : (lane : ℕ) (s : Lanes) → IsThere lane s → has_lane lane s ≡ true
has_there lane s there =
    and_from (nat_lt 0 lane) (nat_le lane (length s.tracks))
    (lt-ltb 0 lane (omega (arith, there.0))) (le-leb lane (length s.tracks) there.1)

more_knows : (number lane : ℕ) (is_bridge : Bool) (capacity used : ℕ) (before : Lanes)
    → IsTogether before → may_add (first_track before) ≡ may_do → 1 ≤ lane
    → KnowsAs number lane
    (if has_lane lane before then own_line (requests.adds lane is_bridge capacity used) else other_line)
    before (record before { tracks = more_on 1 is_bridge capacity used before.tracks })
    (told_on 1 (added_told is_bridge capacity (first_track before)))
more_knows number lane is_bridge capacity used before is may some =
    by (has_lane lane before) refl where
      past : has_lane lane before ≡ false → Whether lane before → length before.tracks < lane
      past none (is_there there) = absurd (false≢true (sym none ∙ has_there lane before there))
      past none (is_past far empty) = far

      by : (has : Bool) → has_lane lane before ≡ has
          → KnowsAs number lane
          (if has then own_line (requests.adds lane is_bridge capacity used) else other_line)
          before (record before { tracks = more_on 1 is_bridge capacity used before.tracks })
          (told_on 1 (added_told is_bridge capacity (first_track before)))
      by true has =
          more_there number lane is_bridge capacity used before is may (lane_there lane before has)
      by false none =
          none_knows number lane before _ _
          (past_more is_bridge capacity used lane before is (past none (whether lane before some))
          some)
          (none_for lane _ (added_none is_bridge capacity (first_track before)))

-- ---- a stop

stop_knows : (number lane machine : ℕ) (before : Lanes)
    → may_stop machine (first_track before) ≡ may_do
    → KnowsAs number lane (if lane == 1 then own_line (requests.stops machine) else other_line)
    before before (told_once (happenings.Stop machine))
stop_knows number lane machine before may = by (lane == 1) refl where
  by : (first : Bool) → (lane == 1) ≡ first
      → KnowsAs number lane (if first then own_line (requests.stops machine) else other_line)
      before before (told_once (happenings.Stop machine))
  by true is =
      subst (λ (l : ℕ). KnowsAs number l (own_line (requests.stops machine)) before before
      (told_once (happenings.Stop machine))) (sym (eqb-true lane 1 is))
      (record {
        sees = record {
          told = happenings.Stop machine ∷ [];
          sees = (rw may (record { after_is = refl; told_is = refl }), tt);
          same = refl;
          whole = λ never. absurd (false≢true never);
        };
        known = known_plain tt tt;
      })
  by false is =
      none_knows number lane before before (told_once (happenings.Stop machine))
      (left_itself (track lane before))
      (ap all_done (for_other 1 lane (happenings.Stop machine ∷ [])
      (λ (same : 1 ≡ lane). eqb-false lane 1 is (sym same)) (tt, tt)))

-- ---- a step on one track

plain_line : (request : Request) → IsNoShift request → IsPlainLine (own_line request)
plain_line (requests.gives machine (inputs.Gets board)) never = never
plain_line _ never = tt

put_knows : (number lane own : ℕ) (request : Request) (before : Lanes) (now : LineState)
    (told : List Happening) → IsTogether before → IsOfLane request → IsNoShift request
    → IsFitRequest request → 1 ≤ lane → MayOn own request before
    → LineDoes number request (track own before) now told
    → KnowsAs number lane (if own == lane then own_line request else other_line) before
    (with_track own now before) (told_on own told)
put_knows number lane own request before now told is of never fit some may does =
    by (own == lane) refl where
      here : IsThere own before
      here = may.there

      calm : AreUnmoved told
      calm = does_unmoved number request (track own before) now told never does

      stands : 1 ≤ length (track own before).machines
      stands = omega (
        arith,
        named_some request (track 1 before) of may.named,
        shared_many (track 1 before).machines (track own before).machines
            (two_alike before 1 own is (first_there before is.some) here).machines,
      )

      did : IsDone (track own before) now
      did = is_done_of number request (track own before) now told (of_lane request of) stands does

      by : (same : Bool) → (own == lane) ≡ same
          → KnowsAs number lane (if same then own_line request else other_line) before
          (with_track own now before) (told_on own told)
      by true same =
          subst (λ (l : ℕ). KnowsAs number l (own_line request) before (with_track own now before)
          (told_on own told)) (eqb-true own lane same)
          (record {
            sees = record {
              told = told;
              sees = (
                subst (λ (t : LineState). LineDoes number request (track own before) t told)
                    (sym (own_put own now before here)) does,
                from_nowhere request (track own before) never,
              );
              same = ap all_done (sym (for_own own told calm));
              whole = λ of_it. sym (for_own own told calm);
            };
            known = known_plain (plain_line request never) fit;
          })
      by false apart =
          none_knows number lane before (with_track own now before) (told_on own told)
          (other_left own lane now before is here some
          (λ (same : lane ≡ own). eqb-false own lane apart (sym same)) did)
          (ap all_done (for_other own lane told (eqb-false own lane apart) calm))

lane_knows : (number lane own : ℕ) (request : Request) (before next : Lanes)
    (done : List LaneHappening) → IsTogether before → IsOfLane request → IsNoShift request
    → IsFitRequest request → 1 ≤ lane → may_on own request before ≡ may_do
    → OnTrack own (LineDoes number request) before next done
    → KnowsAs number lane (if own == lane then own_line request else other_line) before next done
lane_knows number lane own request before next done is of never fit some may on =
    let line : TrackLine = if own == lane then own_line request else other_line in
    subst (λ (n : Lanes). KnowsAs number lane line before n done) (sym on.after_is)
    (subst (λ (t : List LaneHappening). KnowsAs number lane line before (with_track own on.next before) t)
    (sym on.told_is)
    (put_knows number lane own request before on.next on.done is of never fit some
    (may_on_is own request before may) on.does))

-- ---- EACH REQUEST

pub request_knows : (number lane own : ℕ) (request : Request) (before next : Lanes)
    (done : List LaneHappening) → IsTogether before → IsNoShift request → IsFitRequest request
    → 1 ≤ lane → RequestDoes number own request before next done
    → KnowsAs number lane (request_on lane own request before) before next done
request_knows number lane own requests.nothing before next done is never fit some does =
    becomes_knows number lane other_line before before next [] done
    (none_knows number lane before before [] (left_itself (track lane before)) refl) does
request_knows number lane own requests.shows before next done is never fit some does =
    becomes_knows number lane (own_line requests.shows) before before next (shown_on before) done
    (show_knows number lane before is some) does
request_knows number lane own (requests.adds one is_bridge capacity used) before next done is never fit some does =
    unless_knows number lane (may_add (first_track before)) (may_add (first_track before)) _ before
    next done _ refl does
    (λ may b. becomes_knows number lane _ before _ next _ done
    (more_knows number lane is_bridge capacity used before is may some) b)
request_knows number lane own (requests.stops machine) before next done is never fit some does =
    unless_knows number lane (may_stop machine (first_track before))
    (may_stop machine (first_track before)) _ before next done _ refl does
    (λ may b. becomes_knows number lane _ before before next (told_once (happenings.Stop machine)) done
    (stop_knows number lane machine before may) b)
request_knows number lane own request before next done is never fit some does =
    unless_knows number lane (may_on own request before) (may_on own request before)
    (if own == lane then own_line request else other_line) before next done _ refl does
    (λ may on. lane_knows number lane own request before next done is tt never fit some may on)

-- ---- lanes are set

none_stand : (s : LineState) → is_some (machine_in 1 s) ≡ false → s.machines ≡ []
none_stand s none = by s.machines none where
  by : (nodes : List NodeState) → is_some (slice_get nodes 0) ≡ false → nodes ≡ []
  by [] is = refl
  by (node ∷ nodes) is = cc

set_bare : (s : Lanes) → may_set s ≡ may_do → (track 1 s).machines ≡ []
set_bare s may = none_stand (track 1 s) (by (stand_any s) refl may) where
  by : (any : Bool) → stand_any s ≡ any → no_if any reasons.MachinesStand may_do ≡ may_do
      → stand_any s ≡ false
  by false is can = is
  by true is can = cc

empty_each : (s : Lanes) (lane : ℕ) → IsTogether s → may_set s ≡ may_do → 1 ≤ lane
    → track lane s ≡ empty_track s
empty_each s lane is may some = by (whether lane s some) where
  by : Whether lane s → track lane s ≡ empty_track s
  by (is_there there) = is.bare (set_bare s may) lane there
  by (is_past past empty) = empty

pub set_knows : (number lane count : ℕ) (before next : Lanes) (done : List LaneHappening)
    → IsTogether before → 1 ≤ lane → 1 ≤ count
    → steps.Unless (may_set before) before next done
    (steps.Becomes (record before { tracks = copies count (empty_track before) })
    (told_once (happenings.Lanes count)) next done)
    → KnowsAs number lane other_line before next done
set_knows number lane count before next done is some least does =
    by (may_set before) refl does where
      what : Lanes
      what = record before { tracks = copies count (empty_track before) }

      told : List LaneHappening
      told = told_once (happenings.Lanes count)

      by : (may : May) → may_set before ≡ may
          → steps.Unless may before next done (steps.Becomes what told next done)
          → KnowsAs number lane other_line before next done
      by (Err why) may b = refused_knows number lane why before next done b
      by (Ok _) may b =
          becomes_knows number lane other_line before what next told done
          (none_knows number lane before what told
          (left_same (track lane before) (track lane what)
          (copies_track count lane before least some ∙ sym (empty_each before lane is may some)))
          (none_for lane told (refl, tt))) b

-- What each form of a line is to each lane.
use Rattle.std.proofs.Common.{◌≡◌, ◌≢◌, ◌∙◌, ◌+◌, ◌-◌, ◌<◌, ◌≤◌, ◌==◌, ◌++◌, ◌⊎◌, inl, inr, ℕ, zero, suc, Bool, true, false, List, [], ◌∷◌, Option, Some, None, Ok, Err, length, map, refl, sym, ap, subst, arith, append-nil, append_assoc, get_or}
use Rattle.std.specs.Prelude.{if◌then◌else◌, is_some, nat_le, slice_get}
use Rattle.board_record.specs.declared.record.Record.{Record}
use Rattle.node_core.specs.Node.{NodeState}
use Rattle.node_core.specs.Own.{own_of}
use Rattle.line_script.specs.declared.line.ScriptLine.{ScriptLine}
use Rattle.line_script.specs.declared.line.ScriptLine.TheVariants as lines
use Rattle.line_report.specs.Lanes.{told_on}
use Rattle.line_report.specs.declared.happening.Happening.{Happening}
use Rattle.line_report.specs.declared.happening.Happening.TheVariants as happenings
use Rattle.line_report.specs.declared.happening.LaneHappening.{LaneHappening}
use Rattle.line_report.specs.declared.happening.Reason.TheVariants as reasons
use Rattle.line_step.specs.Reasons.{May, may_add, may_do, may_stop, no_if}
use Rattle.line_step.specs.Requests.{Request, added_told, request_of}
use Rattle.line_step.specs.Requests as requests
use Rattle.line_step.specs.Shown.{between_shown, kept_shown, shown, shown_from, taken_below}
use Rattle.line_step.specs.State.{LineState, machine_in, most_machines}
use Rattle.line_step.specs.Tracks.{own_line}
use Rattle.line_step.proofs.FloorLaws.{Holds}
use Rattle.line_step.proofs.Remarks.{AreRemarks, shown_remarks}
use Rattle.line_step.specs.Lies.{tells_lie}
use Rattle.law_one_standing.specs.Standing.{IsFitRequest}
use Rattle.law_lanes.specs.Along.{all_done, told_for}
use Rattle.law_lanes.specs.Lanes.{Lanes, empty_track, most_lanes, track}
use Rattle.law_lanes.specs.Reasons.{first_track, may_set, stand_any}
use Rattle.law_lanes.specs.Shown.{all_shown, behind_first, front_shown, fronts_shown, shown_on}
use Rattle.law_lanes.specs.Steps as steps
use Rattle.law_lanes.specs.Steps.{RequestDoes, copies, more_on, told_once}
use Rattle.law_lanes.specs.Views.{tells_lie_on}
use Rattle.law_lanes.proofs.Seen.{IsNoShift, Seen, SeesPlainly, becomes_still, lane_seen, none_came, quietly, same_or_not, sees_other}
use Rattle.law_lanes.proofs.Places.{at_map, at_past, map_many}
use Rattle.law_lanes.proofs.Sharing.{left_itself, left_same, shared_many}
use Rattle.law_lanes.proofs.Telling.{AreNoDeeds, AreUnmoved, IsUnmoved, came, for_append, for_other, for_own, join_all, lie_join, lie_on, lie_on_join, no_deed_lies, none_for}
use Rattle.law_lanes.proofs.Together.{IsThere, IsTogether, Whether, copies_track, first_there, is_past, is_there, more_track, past_more, together_copies, together_more, unvouched_are, whether}

-- ---- a stop

stop_each : (number machine lane : ℕ) (before : Lanes) → 1 ≤ lane
    → may_stop machine (first_track before) ≡ may_do → (lane ≡ 1) ⊎ (lane ≢ 1)
    → SeesPlainly number lane before before (told_once (happenings.Stop machine))
stop_each number machine lane before some may (inl first) =
    subst (λ (l : ℕ). SeesPlainly number l before before (told_once (happenings.Stop machine)))
    (sym first)
    (record {
      line = own_line (requests.stops machine);
      told = happenings.Stop machine ∷ [];
      sees = (rw may (record { after_is = refl; told_is = refl }), tt);
      same = refl;
      plain = tt;
      fit = tt;
    })
stop_each number machine lane before some may (inr apart) =
    sees_other number lane before before (told_once (happenings.Stop machine))
    (left_itself (track lane before))
    (ap all_done (for_other 1 lane (happenings.Stop machine ∷ [])
    (λ (same : 1 ≡ lane). apart (sym same)) (tt, tt)))

stop_seen : (number machine : ℕ) (before : Lanes) → IsTogether before
    → may_stop machine (first_track before) ≡ may_do
    → Seen number before before (told_once (happenings.Stop machine))
stop_seen number machine before is may =
    let done = told_once (happenings.Stop machine) in
    record {
      plainly = record {
        active = 1;
        each = λ lane some. stop_each number machine lane before some may (same_or_not lane 1);
        others = λ lane id some apart.
            ap (λ (t : List Happening). came id t) (for_other 1 lane (happenings.Stop machine ∷ [])
            (λ (same : 1 ≡ lane). apart (sym same)) (tt, tt));
        new = λ id lane there old. refl;
        counts = omega arith;
      };
      together = is;
      vouches = λ none. (none, refl);
    }

-- ---- what is shown

kept_still : (machine : ℕ) (boards : List Record) → AreUnmoved (kept_shown machine boards)
kept_still machine [] = tt
kept_still machine (board ∷ boards) = (tt, kept_still machine boards)

two_still : (same : Bool) (gap above below : ℕ)
    → AreUnmoved (happenings.ShownBetween gap above
    ∷ (if same then [] else happenings.ShownBetween gap below ∷ []))
two_still true gap above below = (tt, tt)
two_still false gap above below = (tt, (tt, tt))

between_still : (gap : ℕ) (above below : Option ℕ) → AreUnmoved (between_shown gap above below)
between_still gap None None = tt
between_still gap None (Some below) = (tt, tt)
between_still gap (Some above) None = (tt, tt)
between_still gap (Some above) (Some below) = two_still (above == below) gap above below

-- the machine that is first of these nodes
abbrev first_shown : ℕ → List NodeState → List Happening
first_shown machine [] = []
first_shown machine (node ∷ nodes) =
    kept_shown machine node.lane.body.kept
    ++ between_shown machine (own_of node.lane.body).held (taken_below nodes)

front_is : (lane machine : ℕ) (nodes : List NodeState)
    → front_shown lane machine nodes ≡ told_on lane (first_shown machine nodes)
front_is lane machine [] = refl
front_is lane machine (node ∷ nodes) = refl

first_still : (machine : ℕ) (nodes : List NodeState) → AreUnmoved (first_shown machine nodes)
first_still machine [] = tt
first_still machine (node ∷ nodes) =
    join_all IsUnmoved (kept_shown machine node.lane.body.kept)
    (between_shown machine (own_of node.lane.body).held (taken_below nodes))
    (kept_still machine node.lane.body.kept)
    (between_still machine (own_of node.lane.body).held (taken_below nodes))

front_own : (own lane machine : ℕ) (nodes : List NodeState) → own ≡ lane
    → told_for lane (front_shown own machine nodes) ≡ first_shown machine nodes
front_own own lane machine nodes same =
    subst (λ (l : ℕ). told_for l (front_shown own machine nodes) ≡ first_shown machine nodes) same
    (ap (told_for own) (front_is own machine nodes)
    ∙ for_own own (first_shown machine nodes) (first_still machine nodes))

front_other : (own lane machine : ℕ) (nodes : List NodeState) → own ≢ lane
    → told_for lane (front_shown own machine nodes) ≡ []
front_other own lane machine nodes apart =
    ap (told_for lane) (front_is own machine nodes)
    ∙ for_other own lane (first_shown machine nodes) apart (first_still machine nodes)

fronts_behind : (own lane machine : ℕ) (lists : List (List NodeState)) → lane < own
    → told_for lane (fronts_shown own machine lists) ≡ []
fronts_behind own lane machine [] less = refl
fronts_behind own lane machine (nodes ∷ lists) less =
    for_append lane (front_shown own machine nodes) (fronts_shown (own + 1) machine lists)
    ∙ (λ i. front_other own lane machine nodes
    (λ (same : own ≡ lane). let never : ⊥ = omega (arith, same, less) in never) i
    ++ fronts_behind (own + 1) lane machine lists (omega (arith, less)) i)

fronts_at : (own place machine : ℕ) (lists : List (List NodeState))
    → told_for (own + place) (fronts_shown own machine lists)
    ≡ first_shown machine (get_or lists place [])
fronts_at own place machine [] = sym (ap (first_shown machine) (at_past [] place [] (omega arith)))
fronts_at own zero machine (nodes ∷ lists) =
    for_append (own + 0) (front_shown own machine nodes) (fronts_shown (own + 1) machine lists)
    ∙ (λ i. front_own own (own + 0) machine nodes (omega arith) i
    ++ fronts_behind (own + 1) (own + 0) machine lists (omega arith) i)
    ∙ append-nil (first_shown machine nodes)
fronts_at own (suc place) machine (nodes ∷ lists) =
    let here : own + suc place ≡ own + 1 + place = omega arith in
    for_append (own + suc place) (front_shown own machine nodes)
    (fronts_shown (own + 1) machine lists)
    ∙ (λ i. front_other own (own + suc place) machine nodes
    (λ (same : own ≡ own + suc place). let never : ⊥ = omega (arith, same) in never) i
    ++ told_for (here i) (fronts_shown (own + 1) machine lists))
    ∙ fronts_at (own + 1) place machine lists

behind_at : (lists : List (List NodeState)) (place : ℕ)
    → get_or (map behind_first lists) place [] ≡ behind_first (get_or lists place [])
behind_at [] place =
    at_past [] place [] (omega arith) ∙ sym (ap behind_first (at_past [] place [] (omega arith)))
behind_at (nodes ∷ lists) zero = refl
behind_at (nodes ∷ lists) (suc place) = behind_at lists place

shown_first : (machine : ℕ) (node : NodeState) (nodes : List NodeState)
    → first_shown machine (node ∷ nodes) ++ shown_from (machine + 1) nodes
    ≡ shown_from machine (node ∷ nodes)
shown_first machine node nodes =
    append_assoc (kept_shown machine node.lane.body.kept)
    (between_shown machine (own_of node.lane.body).held (taken_below nodes))
    (shown_from (machine + 1) nodes)

all_at : (many machine place : ℕ) (lists : List (List NodeState)) (nodes : List NodeState)
    → get_or lists place [] ≡ nodes → length nodes ≡ many
    → told_for (1 + place) (all_shown many machine lists) ≡ shown_from machine nodes
all_at zero machine place lists [] is count = refl
all_at zero machine place lists (node ∷ nodes) is count =
    absurd (let never : ⊥ = omega (arith, count) in never)
all_at (suc more) machine place lists [] is count =
    absurd (let never : ⊥ = omega (arith, count) in never)
all_at (suc more) machine place lists (node ∷ nodes) is count =
    for_append (1 + place) (fronts_shown 1 machine lists)
    (all_shown more (machine + 1) (map behind_first lists))
    ∙ (λ i. (fronts_at 1 place machine lists ∙ ap (first_shown machine) is) i
    ++ all_at more (machine + 1) place (map behind_first lists) nodes
    (behind_at lists place ∙ ap behind_first is) (omega (arith, count)) i)
    ∙ shown_first machine node nodes

all_none : (many machine place : ℕ) (lists : List (List NodeState)) → get_or lists place [] ≡ []
    → told_for (1 + place) (all_shown many machine lists) ≡ []
all_none zero machine place lists none = refl
all_none (suc more) machine place lists none =
    for_append (1 + place) (fronts_shown 1 machine lists)
    (all_shown more (machine + 1) (map behind_first lists))
    ∙ (λ i. (fronts_at 1 place machine lists ∙ ap (first_shown machine) none) i
    ++ all_none more (machine + 1) place (map behind_first lists)
    (behind_at lists place ∙ ap behind_first none) i)

abbrev nodes_of : LineState → List NodeState
nodes_of t = t.machines

shown_there : (lane : ℕ) (s : Lanes) → IsTogether s → IsThere lane s
    → told_for lane (shown_on s) ≡ shown (track lane s)
shown_there lane s is there =
    let here : 1 + (lane - 1) ≡ lane = omega (arith, there.0) in
    ap (λ (l : ℕ). told_for l (shown_on s)) (sym here)
    ∙ all_at (length (track 1 s).machines) 1 (lane - 1) (map nodes_of s.tracks)
    (track lane s).machines
    (at_map nodes_of s.tracks (lane - 1) (empty_track s) [] (omega (arith, there.0, there.1)))
    (shared_many (track 1 s).machines (track lane s).machines (is.like lane there).machines)

shown_past : (lane : ℕ) (s : Lanes) → 1 ≤ lane → length s.tracks < lane
    → told_for lane (shown_on s) ≡ []
shown_past lane s some past =
    let here : 1 + (lane - 1) ≡ lane = omega (arith, some) in
    ap (λ (l : ℕ). told_for l (shown_on s)) (sym here)
    ∙ all_none (length (track 1 s).machines) 1 (lane - 1) (map nodes_of s.tracks)
    (at_past (map nodes_of s.tracks) (lane - 1) []
    (omega (arith, past, map_many nodes_of s.tracks)))

shown_on_each : (lane : ℕ) (s : Lanes) → IsTogether s → 1 ≤ lane
    → told_for lane (shown_on s) ≡ shown (track lane s)
shown_on_each lane s is some = by (whether lane s some) where
  by : Whether lane s → told_for lane (shown_on s) ≡ shown (track lane s)
  by (is_there there) = shown_there lane s is there
  by (is_past past empty) = shown_past lane s some past ∙ ap shown (sym empty)

remark_came : (id : ℕ) (told : List Happening) → AreRemarks told → came id told ≡ 0
remark_came id [] all = refl
remark_came id (happenings.Done machine act ∷ told) all = absurd all.0
remark_came id (h ∷ told) all =
    let more = remark_came id told all.1 in
    omega (arith, more)

shown_came : (lane id : ℕ) (s : Lanes) → IsTogether s → 1 ≤ lane
    → came id (told_for lane (shown_on s)) ≡ 0
shown_came lane id s is some =
    ap (λ (t : List Happening). came id t) (shown_on_each lane s is some)
    ∙ remark_came id (shown (track lane s)) (shown_remarks (track lane s))

-- nothing of it is a lie
kept_honest : (machine : ℕ) (boards : List Record)
    → tells_lie (kept_shown machine boards) ≡ false
kept_honest machine [] = refl
kept_honest machine (board ∷ boards) = kept_honest machine boards

two_honest : (same : Bool) (gap above below : ℕ)
    → tells_lie (happenings.ShownBetween gap above
    ∷ (if same then [] else happenings.ShownBetween gap below ∷ [])) ≡ false
two_honest true gap above below = refl
two_honest false gap above below = refl

between_honest : (gap : ℕ) (above below : Option ℕ)
    → tells_lie (between_shown gap above below) ≡ false
between_honest gap None None = refl
between_honest gap None (Some below) = refl
between_honest gap (Some above) None = refl
between_honest gap (Some above) (Some below) = two_honest (above == below) gap above below

front_honest : (lane machine : ℕ) (nodes : List NodeState)
    → tells_lie_on (front_shown lane machine nodes) ≡ false
front_honest lane machine nodes =
    ap tells_lie_on (front_is lane machine nodes) ∙ lie_on lane (first_shown machine nodes)
    ∙ first_honest nodes where
      first_honest : (nodes : List NodeState) → tells_lie (first_shown machine nodes) ≡ false
      first_honest [] = refl
      first_honest (node ∷ nodes) =
          lie_join (kept_shown machine node.lane.body.kept)
          (between_shown machine (own_of node.lane.body).held (taken_below nodes))
          (kept_honest machine node.lane.body.kept)
          (between_honest machine (own_of node.lane.body).held (taken_below nodes))

fronts_honest : (lane machine : ℕ) (lists : List (List NodeState))
    → tells_lie_on (fronts_shown lane machine lists) ≡ false
fronts_honest lane machine [] = refl
fronts_honest lane machine (nodes ∷ lists) =
    lie_on_join (front_shown lane machine nodes) (fronts_shown (lane + 1) machine lists)
    (front_honest lane machine nodes) (fronts_honest (lane + 1) machine lists)

all_honest : (many machine : ℕ) (lists : List (List NodeState))
    → tells_lie_on (all_shown many machine lists) ≡ false
all_honest zero machine lists = refl
all_honest (suc more) machine lists =
    lie_on_join (fronts_shown 1 machine lists) (all_shown more (machine + 1) (map behind_first lists))
    (fronts_honest 1 machine lists) (all_honest more (machine + 1) (map behind_first lists))

show_seen : (number : ℕ) (before : Lanes) → IsTogether before
    → Seen number before before (shown_on before)
show_seen number before is =
    record {
      plainly = record {
        active = 1;
        each = λ lane some. record {
          line = own_line requests.shows;
          told = shown (track lane before);
          sees = (record { after_is = refl; told_is = refl }, tt);
          same = ap all_done (sym (shown_on_each lane before is some));
          plain = tt;
          fit = tt;
        };
        others = λ lane id some apart. shown_came lane id before is some;
        new = λ id lane there old. shown_came 1 id before is (omega arith);
        counts = omega arith;
      };
      together = is;
      vouches = λ none. (
        none,
        all_honest (length (first_track before).machines) 1
            (map nodes_of before.tracks),
      );
    }

-- ---- one machine more

added_none : (is_bridge : Bool) (capacity : ℕ) (s : LineState)
    → AreNoDeeds (told_on 1 (added_told is_bridge capacity s))
added_none true capacity s = (refl, tt)
added_none false capacity s = (refl, tt)

added_quiet : (is_bridge : Bool) (capacity : ℕ) (s : LineState)
    → all_done (added_told is_bridge capacity s) ≡ []
added_quiet true capacity s = refl
added_quiet false capacity s = refl

more_there : (number lane : ℕ) (is_bridge : Bool) (capacity used : ℕ) (before : Lanes)
    → IsTogether before → may_add (first_track before) ≡ may_do → IsThere lane before
    → SeesPlainly number lane before
    (record before { tracks = more_on 1 is_bridge capacity used before.tracks })
    (told_on 1 (added_told is_bridge capacity (first_track before)))
more_there number lane is_bridge capacity used before is may there =
    let many = shared_many (track 1 before).machines (track lane before).machines
    (is.like lane there).machines in
    let own_may : may_add (track lane before) ≡ may_do =
    ap (λ (n : ℕ). no_if (nat_le most_machines n) reasons.LineFull may_do) many ∙ may in
    record {
      line = own_line (requests.adds lane is_bridge capacity used);
      told = added_told is_bridge capacity (track lane before);
      sees = (
        rw own_may (record {
          after_is = more_track is_bridge capacity used lane before there;
          told_is = refl;
        }),
        tt,
      );
      same =
          added_quiet is_bridge capacity (track lane before)
          ∙ sym (none_for lane _ (added_none is_bridge capacity (first_track before)));
      plain = tt;
      fit = omega (arith, there.1, is.few);
    }

more_seen : (number : ℕ) (is_bridge : Bool) (capacity used : ℕ) (before : Lanes)
    → IsTogether before → may_add (first_track before) ≡ may_do
    → Seen number before (record before { tracks = more_on 1 is_bridge capacity used before.tracks })
    (told_on 1 (added_told is_bridge capacity (first_track before)))
more_seen number is_bridge capacity used before is may =
    let next : Lanes = record before { tracks = more_on 1 is_bridge capacity used before.tracks } in
    let done = told_on 1 (added_told is_bridge capacity (first_track before)) in
    let none = added_none is_bridge capacity (first_track before) in
    let behind = together_more is_bridge capacity used before is in
    record {
      plainly = record {
        active = 1;
        each = λ lane some. at_lane lane some (whether lane before some);
        others = λ lane id some apart. none_came id (told_for lane done) (none_for lane done none);
        new = λ id lane there old. none_came id (told_for 1 done) (none_for 1 done none);
        counts = omega arith;
      };
      together = behind;
      vouches = λ vouched. (
        sym (unvouched_are before 1 is (first_there before is.some))
            ∙ sym (ap (λ (t : LineState). t.unvouched)
            (more_track is_bridge capacity used 1 before (first_there before is.some)))
            ∙ unvouched_are next 1 behind (first_there next behind.some) ∙ vouched,
        no_deed_lies done none,
      );
    } where
      at_lane : (lane : ℕ) → 1 ≤ lane → Whether lane before
          → SeesPlainly number lane before
          (record before { tracks = more_on 1 is_bridge capacity used before.tracks })
          (told_on 1 (added_told is_bridge capacity (first_track before)))
      at_lane lane some (is_there there) =
          more_there number lane is_bridge capacity used before is may there
      at_lane lane some (is_past past empty) =
          sees_other number lane before _ _
          (past_more is_bridge capacity used lane before is past some)
          (none_for lane _ (added_none is_bridge capacity (first_track before)))

-- ---- lanes are set

none_stand : (s : LineState) → is_some (machine_in 1 s) ≡ false → s.machines ≡ []
none_stand s none = by s.machines none where
  by : (nodes : List NodeState) → is_some (slice_get nodes 0) ≡ false → nodes ≡ []
  by [] is = refl
  by (node ∷ nodes) is = cc

set_bare : (s : Lanes) → may_set s ≡ may_do → (track 1 s).machines ≡ []
set_bare s may = none_stand (track 1 s) (by (stand_any s) refl may) where
  by : (any : Bool) → stand_any s ≡ any → no_if any reasons.MachinesStand may_do ≡ may_do
      → stand_any s ≡ false
  by false is can = is
  by true is can = cc

empty_each : (s : Lanes) (lane : ℕ) → IsTogether s → may_set s ≡ may_do → 1 ≤ lane
    → track lane s ≡ empty_track s
empty_each s lane is may some = by (whether lane s some) where
  by : Whether lane s → track lane s ≡ empty_track s
  by (is_there there) = is.bare (set_bare s may) lane there
  by (is_past past empty) = empty

pub set_seen : (number count : ℕ) (before : Lanes) → IsTogether before → may_set before ≡ may_do
    → 1 ≤ count → count ≤ most_lanes
    → Seen number before (record before { tracks = copies count (empty_track before) })
    (told_once (happenings.Lanes count))
set_seen number count before is may some few =
    let next : Lanes = record before { tracks = copies count (empty_track before) } in
    let behind = together_copies count before some few in
    record {
      plainly = quietly number before next (told_once (happenings.Lanes count)) (refl, tt)
          (λ lane counts. left_same (track lane before) (track lane next)
          (copies_track count lane before some counts
          ∙ sym (empty_each before lane is may counts)));
      together = behind;
      vouches = λ none. (
        sym (ap (λ (t : LineState). t.unvouched) (copies_track count 1 before some (omega arith)))
            ∙ unvouched_are next 1 behind (first_there next behind.some) ∙ none,
        refl,
      );
    }

-- ---- EACH REQUEST

pub unless_seen : (number : ℕ) (may : May) (own : May) (before next : Lanes)
    (done : List LaneHappening) (Done : Type 0) → own ≡ may → IsTogether before
    → steps.Unless may before next done Done
    → (own ≡ may_do → Done → Seen number before next done) → Seen number before next done
unless_seen number (Err why) own before next done Done same is does goes =
    becomes_still number before next (told_once (happenings.No why)) done is (refl, tt) does
unless_seen number (Ok _) own before next done Done same is does goes = goes same does

pub becomes_seen : (number : ℕ) (before what next : Lanes) (told done : List LaneHappening)
    → Seen number before what told → steps.Becomes what told next done
    → Seen number before next done
becomes_seen number before what next told done seen b =
    subst (λ (n : Lanes). Seen number before n done) (sym b.after_is)
    (subst (λ (t : List LaneHappening). Seen number before what t) (sym b.told_is) seen)

pub request_seen : (number lane : ℕ) (request : Request) (before next : Lanes)
    (done : List LaneHappening) → IsTogether before → ((l : ℕ) → 1 ≤ l → Holds (track l before))
    → IsNoShift request → IsFitRequest request → RequestDoes number lane request before next done
    → Seen number before next done
request_seen number lane requests.nothing before next done is holds never fit does =
    becomes_still number before next [] done is tt does
request_seen number lane requests.shows before next done is holds never fit does =
    becomes_seen number before before next (shown_on before) done (show_seen number before is) does
request_seen number lane (requests.adds own is_bridge capacity used) before next done is holds never fit does =
    unless_seen number (may_add (first_track before)) (may_add (first_track before)) before next done
    _ refl is does
    (λ may b. becomes_seen number before _ next _ done
    (more_seen number is_bridge capacity used before is may) b)
request_seen number lane (requests.stops machine) before next done is holds never fit does =
    unless_seen number (may_stop machine (first_track before)) (may_stop machine (first_track before))
    before next done _ refl is does
    (λ may b. becomes_seen number before before next (told_once (happenings.Stop machine)) done
    (stop_seen number machine before is may) b)
request_seen number lane request before next done is holds never fit does =
    lane_seen number lane request before next done is holds tt never fit does

-- a line of a script moves no board between lanes
pub no_shift : (line : ScriptLine) → IsNoShift (request_of line)
no_shift lines.Blank = tt
no_shift _ = tt

-- A line of one lane does what one track does: request by request, part by part and line by line.
use Rattle.std.proofs.Common.{◌≡◌, ◌+◌, ◌-◌, ◌==◌, ◌&&◌, ◌||◌, ◌++◌, ℕ, zero, suc, Bool, true, false, List, [], ◌∷◌, Option, Some, None, Result, Ok, Err, length, length-append, nat_le, nat_lt, append-nil, append_assoc, le-leb, lt-ltb, refl, sym, ap, subst, ◌∙◌, arith}
use Rattle.std.specs.Prelude.{if◌then◌else◌, not}
use Rattle.std.specs.List.{flat_map}
use Rattle.std.proofs.lemmas.List.{map-append}
use Rattle.line_base.specs.declared.states.Side.{Side}
use Rattle.line_base.specs.declared.states.Side.TheVariants.{Entry, Exit}
use Rattle.line_script.specs.declared.line.LaneLine.{LaneLine}
use Rattle.line_script.specs.declared.line.ScriptLine.{ScriptLine}
use Rattle.line_script.specs.declared.line.ScriptLine.TheVariants as lines
use Rattle.line_world.specs.FloorPlan.{FloorPlan, empty_machine}
use Rattle.line_world.specs.Moves.{floor_move, has_gap}
use Rattle.line_world.specs.declared.moves.Move.{Move}
use Rattle.line_world.specs.declared.moves.MoveNo.{MoveNo}
use Rattle.line_world.specs.declared.moves.MoveNo.TheVariants as moves
use Rattle.node_core.specs.May.{may_of, may_reach}
use Rattle.node_core.specs.Node.{NodeState}
use Rattle.node_core.specs.Own.{own_of}
use Rattle.node_core.specs.declared.input.Input.{Input}
use Rattle.node_core.specs.declared.input.Input.TheVariants as inputs
use Rattle.standings.specs.Standing.{standing_of}
use Rattle.standings.specs.Told.{is_same_standing, told_of}
use Rattle.standings.specs.Told as tolds
use Rattle.standings.specs.declared.mark.Mark.{Mark}
use Rattle.standings.specs.declared.standing.Standing.{Standing}
use Rattle.standings.specs.declared.standing.Standing.TheVariants as standings
use Rattle.standings.specs.declared.told.Told.{Told}
use Rattle.line_report.specs.Lanes.{entries_on, told_on}
use Rattle.line_report.specs.Texts.{entry}
use Rattle.line_report.specs.declared.happening.Happening.{Happening}
use Rattle.line_report.specs.declared.happening.Happening.TheVariants as happenings
use Rattle.line_report.specs.declared.happening.LaneHappening.{LaneHappening}
use Rattle.line_report.specs.declared.happening.Reason.{Reason}
use Rattle.line_report.specs.declared.happening.Reason.TheVariants as reasons
use Rattle.line_step.specs.Lies.{has_lie, is_lie, tells_lie}
use Rattle.line_step.specs.Lines.{Becomes, Counts, LineDoes, LineSteps, Moves, Unless, arrived, connecting, cut_in, moved, spoiled, unseen_on}
use Rattle.line_step.specs.Parts.{IsPlay, IsScriptRun, Part, count_behind, script_parts}
use Rattle.line_step.specs.Parts as track
use Rattle.line_step.specs.Reasons.{May, behind_own, has_link, has_neighbour, has_unread, if_there, is_dry_at, is_here, link_stands, may_add, may_connect, may_cut, may_do, may_flow, may_lie, may_spoil, may_stop, may_unseen, no_if, with_word}
use Rattle.line_step.specs.Requests.{Request, added_told, may_get, request_of}
use Rattle.line_step.specs.Requests as requests
use Rattle.line_step.specs.Runs.{Point, told_text}
use Rattle.line_step.specs.Runs as runs
use Rattle.line_step.specs.Shown.{ascending, ids_marked, kept_shown, between_shown, shown, shown_from, standings_told, taken_below}
use Rattle.line_step.specs.Shown as show
use Rattle.line_step.specs.State.{LineState, machine_in, marks_in, no_line, one_more}
use Rattle.line_step.specs.World.{link_of}
use Rattle.line_step.proofs.Counting.{SameCounts, link_same_world, machine_keeps_places, moved_counts, step_counts, world_counts}
use Rattle.line_step.proofs.Effects.{Effect, becomes_by, line_effect}
use Rattle.line_step.proofs.Effects as effects
use Rattle.line_step.proofs.Playing.{play-append}
use Rattle.law_lanes.specs.Alone.{ArePointsAlone, EachScriptOfOneLaneIsATrack, HasAlone, on_first, on_firsts}
use Rattle.law_lanes.specs.Lanes.{Lanes, lines_of, no_lanes}
use Rattle.law_lanes.specs.Lanes as line
use Rattle.law_lanes.specs.Parts.{IsLanePlay, IsLaneRun, LanePart, LanePoint, all_points, parts_of, state_behind}
use Rattle.law_lanes.specs.Reasons.{and_may, is_named}
use Rattle.law_lanes.specs.Shown.{all_shown, is_same_place, marked_on, marks_told, place_told, placed, standings_on, with_marks}
use Rattle.law_lanes.specs.Steps.{LanesStep, OnTrack, RequestDoes}
use Rattle.law_lanes.specs.Steps as steps
use Rattle.law_lanes.specs.Views.{has_lie_on, lanes_text, tells_lie_on}

-- a line that has this track alone
abbrev alone : Bool → LineState → Lanes
alone spent t = record { spent = spent; tracks = t ∷ [] }

-- ---- what it shows

shown_alone : (machine : ℕ) (nodes : List NodeState) → all_shown (length nodes) machine (nodes ∷ []) ≡ told_on 1 (shown_from machine nodes)
shown_alone machine [] = refl
shown_alone machine (node ∷ nodes) =
    let kept = kept_shown machine node.lane.body.kept in
    let between = between_shown machine (own_of node.lane.body).held (taken_below nodes) in
    let others = shown_from (machine + 1) nodes in
    let on : Happening → LaneHappening = λ h. record { lane = 1; what = h } in
    ap (λ (hs : List LaneHappening). hs ++ all_shown (length nodes) (machine + 1) (nodes ∷ [])) (append-nil (told_on 1 (kept ++ between)))
    ∙ ap (λ (hs : List LaneHappening). told_on 1 (kept ++ between) ++ hs) (shown_alone (machine + 1) nodes)
    ∙ sym (map-append on (kept ++ between) others)
    ∙ ap (told_on 1) (append_assoc kept between others)

-- ---- the standings that it changes

by_test : (same : Bool) (what : Happening) (told : Told) (id : ℕ) → show.standing_told id (Some told) ≡ what ∷ []
    → (if same then [] else told_on 1 (what ∷ [])) ≡ told_on 1 (show.standing_told id (if same then None else Some told))
by_test true what told id is = refl
by_test false what told id is = ap (told_on 1) (sym is)

by_standing : (id : ℕ) (now before : Option Standing)
    → (if is_same_place (placed 1 now) (placed 1 before) then [] else place_told id (placed 1 now))
    ≡ told_on 1 (show.standing_told id (if is_same_standing now before then None else tolds.standing_told now))
by_standing id None None = refl
by_standing id None (Some before) = refl
by_standing id (Some (standings.With machine)) None = refl
by_standing id (Some (standings.Between gap)) None = refl
by_standing id (Some (standings.With machine)) (Some (standings.With other)) = by_test (machine == other) _ _ id refl
by_standing id (Some (standings.With machine)) (Some (standings.Between other)) = refl
by_standing id (Some (standings.Between gap)) (Some (standings.With other)) = refl
by_standing id (Some (standings.Between gap)) (Some (standings.Between other)) = by_test (gap == other) _ _ id refl

marks_alone : (id : ℕ) (before now : List Mark) → marks_told id (with_marks 1 before []) (with_marks 1 now []) ≡ told_on 1 (show.standing_told id (told_of before now))
marks_alone id [] [] = refl
marks_alone id (mark ∷ marks) [] = refl
marks_alone id [] (mark ∷ marks) = by_standing id (standing_of (mark ∷ marks)) (standing_of [])
marks_alone id (other ∷ others) (mark ∷ marks) = by_standing id (standing_of (mark ∷ marks)) (standing_of (other ∷ others))

each_told : (f : ℕ → List Happening) (g : ℕ → List LaneHappening) → ((id : ℕ) → g id ≡ told_on 1 (f id)) → (ids : List ℕ) → flat_map g ids ≡ told_on 1 (flat_map f ids)
each_told f g is [] = refl
each_told f g is (id ∷ ids) =
    let on : Happening → LaneHappening = λ h. record { lane = 1; what = h } in
    ap (λ (hs : List LaneHappening). hs ++ flat_map g ids) (is id)
    ∙ ap (λ (hs : List LaneHappening). told_on 1 (f id) ++ hs) (each_told f g is ids)
    ∙ sym (map-append on (f id) (flat_map f ids))

standings_alone : (spent other : Bool) (t next : LineState) → standings_on (alone spent t) (alone other next) ≡ told_on 1 (standings_told t next)
standings_alone spent other t next =
    let each : ℕ → List LaneHappening = λ id. marks_told id (marked_on (alone spent t) id) (marked_on (alone other next) id) in
    ap (λ (ids : List ℕ). flat_map each (ascending (ids ++ (ids_marked next ++ [])))) (append-nil (ids_marked t))
    ∙ ap (λ (ids : List ℕ). flat_map each (ascending (ids_marked t ++ ids))) (append-nil (ids_marked next))
    ∙ each_told (λ id. show.standing_told id (told_of (marks_in t id) (marks_in next id))) each (λ id. marks_alone id (marks_in t id) (marks_in next id)) (ascending (ids_marked t ++ ids_marked next))

-- ---- a place on the floor for each machine

abbrev HasPlaces : LineState → Type 0
HasPlaces s = length s.world.floor.machines ≡ length s.machines

by_counts : (before after : LineState) → SameCounts before after → HasPlaces before → HasPlaces after
by_counts before after same places = same.world.floor ∙ places ∙ sym same.machines

unseen_places : (machine : ℕ) (side : Side) (floor : FloorPlan) → length (unseen_on machine side floor).machines ≡ length floor.machines
unseen_places machine Entry floor = machine_keeps_places floor machine _
unseen_places machine Exit floor = machine_keeps_places floor machine _

keeps_places : (number : ℕ) (request : Request) (before after : LineState) (told : List Happening) → Effect number before after told request → HasPlaces before → HasPlaces after
keeps_places number request before after told (effects.rests _ what remarks b) places = becomes_by (λ s ts. HasPlaces s) b places
keeps_places number request before after told (effects.adds lane is_bridge capacity used may b) places =
    becomes_by (λ s ts. HasPlaces s) b
    (length-append before.world.floor.machines (empty_machine ∷ []) ∙ ap (λ (n : ℕ). n + 1) places ∙ sym (length-append before.machines (_ ∷ [])))
keeps_places number request before after told (effects.steps machine input given may did) places = by_counts before after (step_counts number machine input before after told did) places
keeps_places number request before after told (effects.connects machine may did) places =
    let linked = by_counts before (connecting machine before) (world_counts _ before (link_same_world (machine - 1) _ before.world)) places in
    let first = by_counts (connecting machine before) did.between (step_counts number machine _ (connecting machine before) did.between did.earlier did.first) linked in
    by_counts did.between after (step_counts number _ _ did.between after did.later did.second) first
keeps_places number request before after told (effects.flows machine side count may did) places =
    by_counts (arrived machine side count before) after (step_counts number machine _ (arrived machine side count before) after told did.steps)
    (by_counts before (arrived machine side count before) (world_counts _ before (link_same_world (link_of machine side) _ before.world)) places)
keeps_places number request before after told (effects.cuts gap may b) places = becomes_by (λ s ts. HasPlaces s) b (by_counts before (cut_in gap before) (world_counts _ before (link_same_world gap _ before.world)) places)
keeps_places number request before after told (effects.spoils machine side may b) places =
    becomes_by (λ s ts. HasPlaces s) b (by_counts before (spoiled machine side before) (world_counts _ before (link_same_world (link_of machine side) _ before.world)) places)
keeps_places number request before after told (effects.moves gap step floor is b) places =
    let same = subst (λ (answer : Result FloorPlan MoveNo). SameCounts before (moved answer before)) is (moved_counts gap step before) in
    becomes_by (λ s ts. HasPlaces s) b (by_counts before (moved (Ok floor) before) same places)
keeps_places number request before after told (effects.lies machine sensed may b) places = becomes_by (λ s ts. HasPlaces s) b (machine_keeps_places before.world.floor machine _ ∙ places)
keeps_places number request before after told (effects.unsees machine side may b) places = becomes_by (λ s ts. HasPlaces s) b (unseen_places machine side before.world.floor ∙ places)

-- ---- where what a line names isn't there, that is the first reason against it

if_none : (found : Option NodeState) (may : NodeState → May) (why : Reason) → if_there found (λ node. may_do) ≡ Err why → if_there found may ≡ Err why
if_none None may why is = is
if_none (Some node) may why is = absurd cc

no_if_none : (test : Bool) (reason why : Reason) (more : May) → no_if test reason may_do ≡ Err why → no_if test reason more ≡ Err why
no_if_none true reason why more is = is
no_if_none false reason why more is = absurd cc

unless_no : (may : May) (t : LineState) (why : Reason) (Done : Type 0) → may ≡ Err why → Unless may t t (happenings.No why ∷ []) Done
unless_no (Ok _) t why Done is = absurd cc
unless_no (Err other) t why Done is = let same : why ≡ other = cc in record { after_is = refl; told_is = ap (λ (r : Reason). happenings.No r ∷ []) same }

-- what nobody gives a machine
abbrev CanGive : Input → Type 0
CanGive inputs.Connect = ⊥
CanGive inputs.Accepted = ⊥
CanGive inputs.Second = ⊥
CanGive (inputs.Bytes side piece) = ⊥
CanGive (inputs.Gives id to) = ⊥
CanGive (inputs.Gets board) = ⊥
CanGive input = Unit {0}

get_none : (machine : ℕ) (input : Input) (t : LineState) (why : Reason) → CanGive input → if_there (machine_in machine t) (λ node. may_do) ≡ Err why → may_get machine input t ≡ Err why
get_none machine (inputs.Remove id) t why can is =
    if_none (machine_in machine t) (λ node. behind_own (may_of node (inputs.Remove id)) (no_if (not (is_here machine id t.world)) reasons.NotHere may_do)) why is
get_none machine (inputs.Replace id) t why can is =
    if_none (machine_in machine t)
    (λ node. behind_own (may_of node (inputs.Remove id)) (no_if (not (is_here machine id t.world)) reasons.NotHere (behind_own (may_of node (inputs.Replace id)) may_do))) why is
get_none machine (inputs.Notice side) t why can is =
    if_none (machine_in machine t)
    (λ node. no_if (not (has_neighbour machine side t)) reasons.NoNeighbour (behind_own (may_reach side node.lane.body)
    (no_if (link_stands machine side t.world) reasons.Standing (no_if (not (is_dry_at machine side t.world)) reasons.TextInFlight may_do)))) why is
get_none machine inputs.Nothing t why can is = if_none (machine_in machine t) (λ node. no_if (not (has_unread machine t.world)) reasons.NothingToRead may_do) why is
get_none machine (inputs.Answer query order) t why can is = if_none (machine_in machine t) (λ node. with_word node (may_of node (inputs.Answer query order))) why is
get_none machine inputs.Connect t why can is = absurd can
get_none machine inputs.Accepted t why can is = absurd can
get_none machine inputs.Second t why can is = absurd can
get_none machine (inputs.Bytes side piece) t why can is = absurd can
get_none machine (inputs.Gives id to) t why can is = absurd can
get_none machine (inputs.Gets board) t why can is = absurd can
get_none machine input t why can is = if_none (machine_in machine t) (λ node. behind_own (may_of node input) may_do) why is

-- a gap is between two machines, and between two places on the floor
same_gap : (gap machines places : ℕ) → places ≡ machines → (nat_le 1 gap && nat_lt gap machines) ≡ (nat_lt 0 gap && nat_lt gap places)
same_gap zero machines places is = refl
same_gap (suc gap) machines places is =
    let one : nat_le 1 (suc gap) ≡ true = le-leb 1 (suc gap) (omega arith) in
    let other : nat_lt 0 (suc gap) ≡ true = lt-ltb 0 (suc gap) (omega arith) in
    ap (λ (b : Bool). b && nat_lt (suc gap) machines) one ∙ ap (λ (n : ℕ). true && nat_lt (suc gap) n) (sym is) ∙ ap (λ (b : Bool). b && nat_lt (suc gap) places) (sym other)

no_gap : (test : Bool) (why : Reason) → no_if (not test) (reasons.Move moves.NoGap) may_do ≡ Err why → (test ≡ false) × (why ≡ reasons.Move moves.NoGap)
no_gap true why is = absurd cc
no_gap false why is = (refl, cc)

move_none : (gap : ℕ) (step : Move) (t : LineState) (test : Bool) → test ≡ has_gap t.world.floor gap → test ≡ false → floor_move gap step t.world.floor ≡ Err moves.NoGap
move_none gap step t true is none = absurd cc
move_none gap step t false is none = rw (sym is) refl

moves_none : (gap : ℕ) (step : Move) (t : LineState) (why : Reason) → HasPlaces t → no_if (not (has_link gap t)) (reasons.Move moves.NoGap) may_do ≡ Err why → Moves gap step t t (happenings.No why ∷ [])
moves_none gap step t why places is =
    let gone = no_gap (has_link gap t) why is in
    let answer = move_none gap step t (has_link gap t) (same_gap gap (length t.machines) (length t.world.floor.machines) places) gone.0 in
    record { after_is = rw answer refl; told_is = rw (answer, gone.1) refl }

abbrev CanAsk : Request → Type 0
CanAsk (requests.gives machine input) = CanGive input
CanAsk (requests.adds lane is_bridge capacity used) = lane ≡ 1
CanAsk request = Unit {0}

can_ask : (line : ScriptLine) → CanAsk (request_of line)
can_ask (lines.Machine capacity used) = refl
can_ask (lines.Bridge capacity used) = refl
can_ask _ = tt

does_none : (number : ℕ) (request : Request) (t : LineState) (why : Reason) → CanAsk request → HasPlaces t → is_named request t ≡ Err why → LineDoes number request t t (happenings.No why ∷ [])
does_none number requests.nothing t why can places is = absurd cc
does_none number requests.shows t why can places is = absurd cc
does_none number (requests.adds lane is_bridge capacity used) t why can places is = absurd cc
does_none number (requests.stops machine) t why can places is = absurd cc
does_none number (requests.gives machine input) t why can places is = unless_no (may_get machine input t) t why _ (get_none machine input t why can is)
does_none number (requests.connects machine) t why can places is =
    unless_no (may_connect machine t) t why _
    (if_none (machine_in machine t) (λ node. no_if (not (has_neighbour machine Entry t)) reasons.NoNeighbour (behind_own (may_of node inputs.Connect) may_do)) why is)
does_none number (requests.flows machine side count) t why can places is =
    unless_no (may_flow machine side t) t why _
    (if_none (machine_in machine t)
    (λ node. no_if (not (has_neighbour machine side t)) reasons.NoNeighbour (behind_own (may_reach side node.lane.body) (no_if (is_dry_at machine side t.world) reasons.NothingInFlight may_do))) why is)
does_none number (requests.cuts gap) t why can places is = unless_no (may_cut gap t) t why _ (no_if_none (not (has_link gap t)) (reasons.Move moves.NoGap) why _ is)
does_none number (requests.spoils machine side) t why can places is = unless_no (may_spoil machine side t) t why _ (if_none (machine_in machine t) _ why is)
does_none number (requests.moves_on gap step) t why can places is = moves_none gap step t why places is
does_none number (requests.lies machine sensed) t why can places is =
    unless_no (may_lie machine sensed.side t) t why _ (if_none (machine_in machine t) (λ node. no_if (not (has_neighbour machine sensed.side t)) reasons.NoNeighbour may_do) why is)
does_none number (requests.unsees machine side) t why can places is = unless_no (may_unseen machine side t) t why _ (if_none (machine_in machine t) _ why is)

-- ---- EACH REQUEST

-- what is done of one track, and the line is that track alone behind it
record DoesAlone (Does : LineState → List Happening → Type 0) (after : Lanes) (told : List LaneHappening) : Type 0 where
  next : LineState
  done : List Happening
  does : Does next done
  after_is : HasAlone next after
  told_is : told ≡ told_on 1 done

becomes_alone : (spent : Bool) (t next : LineState) (what : List Happening) (all : List LaneHappening) (s after : Lanes) (told : List LaneHappening) → HasAlone next s → all ≡ told_on 1 what → steps.Becomes s all after told → DoesAlone (Becomes next what) after told
becomes_alone spent t next what all s after told is same b =
    record { next = next; done = what; does = record { after_is = refl; told_is = refl }; after_is = ap (λ (l : Lanes). l.tracks) b.after_is ∙ is; told_is = b.told_is ∙ same }

unless_alone : (may : May) (spent : Bool) (t : LineState) (after : Lanes) (told : List LaneHappening) (Done : Type 0) (Own : LineState → List Happening → Type 0)
    → (Done → DoesAlone Own after told) → steps.Unless may (alone spent t) after told Done → DoesAlone (λ next done. Unless may t next done (Own next done)) after told
unless_alone (Ok _) spent t after told Done Own does did = let d = does did in record { next = d.next; done = d.done; does = d.does; after_is = d.after_is; told_is = d.told_is }
unless_alone (Err why) spent t after told Done Own does b = becomes_alone spent t t (happenings.No why ∷ []) _ (alone spent t) after told refl refl b

named_alone : (may : May) (number : ℕ) (request : Request) (spent : Bool) (t : LineState) (after : Lanes) (told : List LaneHappening) → CanAsk request → HasPlaces t → is_named request t ≡ may
    → steps.Unless (and_may may may_do) (alone spent t) after told (OnTrack 1 (LineDoes number request) (alone spent t) after told) → DoesAlone (LineDoes number request t) after told
named_alone (Ok _) number request spent t after told can places is did = record { next = did.next; done = did.done; does = did.does; after_is = ap (λ (l : Lanes). l.tracks) did.after_is; told_is = did.told_is }
named_alone (Err why) number request spent t after told can places is b =
    record { next = t; done = happenings.No why ∷ []; does = does_none number request t why can places is; after_is = ap (λ (l : Lanes). l.tracks) b.after_is; told_is = b.told_is }

request_alone : (number : ℕ) (request : Request) (spent : Bool) (t : LineState) (after : Lanes) (told : List LaneHappening) → CanAsk request → HasPlaces t → RequestDoes number 1 request (alone spent t) after told → DoesAlone (LineDoes number request t) after told
request_alone number requests.nothing spent t after told can places b = becomes_alone spent t t [] [] (alone spent t) after told refl refl b
request_alone number requests.shows spent t after told can places b = becomes_alone spent t t (shown t) _ (alone spent t) after told refl (shown_alone 1 t.machines) b
request_alone number (requests.adds lane is_bridge capacity used) spent t after told can places did =
    subst (λ (l : ℕ). DoesAlone (LineDoes number (requests.adds l is_bridge capacity used) t) after told) (sym can)
    (unless_alone (may_add t) spent t after told _ (Becomes (one_more 1 is_bridge capacity used t) (added_told is_bridge capacity t))
    (λ b. becomes_alone spent t (one_more 1 is_bridge capacity used t) (added_told is_bridge capacity t) _ _ after told refl refl b) did)
request_alone number (requests.stops machine) spent t after told can places did =
    unless_alone (may_stop machine t) spent t after told _ (Becomes t (happenings.Stop machine ∷ []))
    (λ b. becomes_alone spent t t (happenings.Stop machine ∷ []) _ (alone spent t) after told refl refl b) did
request_alone number (requests.gives machine input) spent t after told can places did = named_alone (is_named (requests.gives machine input) t) number (requests.gives machine input) spent t after told can places refl did
request_alone number (requests.connects machine) spent t after told can places did = named_alone (is_named (requests.connects machine) t) number (requests.connects machine) spent t after told can places refl did
request_alone number (requests.flows machine side count) spent t after told can places did = named_alone (is_named (requests.flows machine side count) t) number (requests.flows machine side count) spent t after told can places refl did
request_alone number (requests.cuts gap) spent t after told can places did = named_alone (is_named (requests.cuts gap) t) number (requests.cuts gap) spent t after told can places refl did
request_alone number (requests.spoils machine side) spent t after told can places did = named_alone (is_named (requests.spoils machine side) t) number (requests.spoils machine side) spent t after told can places refl did
request_alone number (requests.moves_on gap step) spent t after told can places did = named_alone (is_named (requests.moves_on gap step) t) number (requests.moves_on gap step) spent t after told can places refl did
request_alone number (requests.lies machine sensed) spent t after told can places did = named_alone (is_named (requests.lies machine sensed) t) number (requests.lies machine sensed) spent t after told can places refl did
request_alone number (requests.unsees machine side) spent t after told can places did = named_alone (is_named (requests.unsees machine side) t) number (requests.unsees machine side) spent t after told can places refl did

-- ---- A LINE STEP

record StepsAlone (number : ℕ) (own : ScriptLine) (t : LineState) (after : Lanes) (told : List LaneHappening) : Type 0 where
  next : LineState
  what : List Happening
  steps : LineSteps number (request_of own) t next what
  after_is : HasAlone next after
  told_is : told ≡ told_on 1 what
  places : HasPlaces next

step_alone : (number : ℕ) (own : ScriptLine) (spent : Bool) (t : LineState) (after : Lanes) (told : List LaneHappening) → HasPlaces t → LanesStep number (on_first own) (alone spent t) after told → StepsAlone number own t after told
step_alone number own spent t after told places step =
    let did = request_alone number (request_of own) spent t step.next step.done (can_ask own) places step.does in
    let n = did.next in
    let lines = step.lines in
    let same : step.next ≡ alone step.next.spent n = ap (λ (ts : List LineState). record { spent = step.next.spent; tracks = ts }) did.after_is in
    let counts : Counts n.lines lines = subst (λ (s : Lanes). Counts (lines_of s) lines) same step.counts in
    let after_is : HasAlone (record n { lines = lines }) after = ap (λ (s : Lanes). s.tracks) step.after_is ∙ ap (λ (s : Lanes). (line.counted lines s).tracks) same in
    let standings : standings_on (alone spent t) step.next ≡ told_on 1 (standings_told t n) = ap (standings_on (alone spent t)) same ∙ standings_alone spent step.next.spent t n in
    let on : Happening → LaneHappening = λ h. record { lane = 1; what = h } in
    record {
      next = record n { lines = lines };
      what = did.done ++ standings_told t n;
      steps = record { next = n; done = did.done; does = did.does; lines = lines; counts = counts; after_is = refl; told_is = refl };
      after_is = after_is;
      told_is =
          step.told_is
          ∙ ap (λ (hs : List LaneHappening). hs ++ standings_on (alone spent t) step.next) did.told_is
          ∙ ap (λ (hs : List LaneHappening). told_on 1 did.done ++ hs) standings
          ∙ sym (map-append on did.done (standings_told t n));
      places = keeps_places number (request_of own) t n did.done (line_effect number (request_of own) t n did.done did.does) places;
    }

-- ---- PARTS

-- parts of a line of one lane, and those of its track
record IsPartAlone (part : LanePart) (own : Part) : Type 0 where
  line_is : (spent : Bool) (t : LineState) → part.line (alone spent t) ≡ on_first (own.line t)
  ends : part.ends ≡ own.ends

abbrev ArePartsAlone : List LanePart → List Part → Type 0
ArePartsAlone [] [] = Unit {0}
ArePartsAlone [] (_ ∷ _) = ⊥
ArePartsAlone (_ ∷ _) [] = ⊥
ArePartsAlone (part ∷ parts) (own ∷ owns) = IsPartAlone part own × ArePartsAlone parts owns

same_part : (part : LanePart) (own : Part) → ((spent : Bool) (t : LineState) → part.line (alone spent t) ≡ on_first (own.line t)) → part.ends ≡ own.ends → IsPartAlone part own
same_part part own line_is ends = record { line_is = line_is; ends = ends }

parts_alone : (own : ScriptLine) → ArePartsAlone (parts_of 1 (on_first own)) (track.parts_of own)
parts_alone (lines.Stop machine) = (
  same_part _ _ (λ spent t. refl) refl,
  (
    same_part _ _ (λ spent t. refl) refl,
    (
      same_part _ _ (λ spent t. refl) refl,
      (
        same_part _ _ (λ spent t. refl) refl,
        (same_part _ _ (λ spent t. refl) refl, tt),
      ),
    ),
  ),
)
parts_alone _ = (same_part _ _ (λ spent t. refl) refl, tt)

-- what they do
record PlaysAlone (t : LineState) (owns : List Part) (points : List LanePoint) (end : Lanes) : Type 0 where
  own : List Point
  play : IsPlay t owns own
  alone : ArePointsAlone points own
  behind : HasAlone (runs.state_behind t own) end
  places : HasPlaces (runs.state_behind t own)

play_alone : (s : Lanes) (t : LineState) (parts : List LanePart) (owns : List Part) (points : List LanePoint) → HasAlone t s → HasPlaces t → ArePartsAlone parts owns → IsLanePlay s parts points → PlaysAlone t owns points (state_behind s points)
play_alone s t [] [] [] is places same play = record { own = []; play = tt; alone = tt; behind = is; places = places }
play_alone s t [] (own ∷ owns) points is places same play = absurd same
play_alone s t (part ∷ parts) [] points is places same play = absurd same
play_alone s t [] [] (point ∷ points) is places same play = absurd play
play_alone s t (part ∷ parts) (own ∷ owns) [] is places same play = absurd play
play_alone s t (part ∷ parts) (own ∷ owns) (point ∷ points) is places same play =
    let whole : s ≡ alone s.spent t = ap (λ (ts : List LineState). record { spent = s.spent; tracks = ts }) is in
    let lines_are : lines_of s ≡ t.lines = ap lines_of whole in
    let named : part.line s ≡ on_first (own.line t) = ap part.line whole ∙ same.0.line_is s.spent t in
    let step : LanesStep (t.lines + 1) (on_first (own.line t)) (alone s.spent t) point.after point.told =
    subst (λ (l : Lanes). LanesStep (t.lines + 1) (on_first (own.line t)) l point.after point.told) whole
    (subst (λ (asked : LaneLine). LanesStep (t.lines + 1) asked s point.after point.told) named
    (subst (λ (n : ℕ). LanesStep (n + 1) (part.line s) s point.after point.told) lines_are play.0.steps)) in
    let one = step_alone (t.lines + 1) (own.line t) s.spent t point.after point.told places step in
    let after_whole : point.after ≡ alone point.after.spent one.next = ap (λ (ts : List LineState). record { spent = point.after.spent; tracks = ts }) one.after_is in
    let counted : one.next.lines ≡ count_behind own.ends t.lines =
    sym (ap lines_of after_whole) ∙ play.0.counted ∙ ap (λ (b : Bool). count_behind b (lines_of s)) same.0.ends ∙ ap (count_behind own.ends) lines_are in
    let later = play_alone point.after one.next parts owns points one.after_is one.places same.1 play.1 in
    let mine : Point = record { told = one.what; after = one.next } in
    record {
      own = mine ∷ later.own;
      play = (record { steps = one.steps; counted = counted }, later.play);
      alone = (record { after = one.after_is; told = one.told_is }, later.alone);
      behind = later.behind;
      places = later.places;
    }

-- ---- A SCRIPT

alone_append : (points more : List LanePoint) (own other : List Point) → ArePointsAlone points own → ArePointsAlone more other → ArePointsAlone (points ++ more) (own ++ other)
alone_append [] more [] other one two = two
alone_append [] more (point ∷ own) other one two = absurd one
alone_append (point ∷ points) more [] other one two = absurd one
alone_append (point ∷ points) more (mine ∷ own) other one two = (one.0, alone_append points more own other one.1 two)

record RunsAlone (t : LineState) (asked : List ScriptLine) (points : List LanePoint) : Type 0 where
  own : List Point
  run : IsScriptRun t asked own
  alone : ArePointsAlone points own

run_alone : (s : Lanes) (t : LineState) (asked : List ScriptLine) (done : List (List LanePoint)) → HasAlone t s → HasPlaces t → IsLaneRun s (on_firsts asked) done → RunsAlone t asked (all_points done)
run_alone s t [] [] is places run = record { own = []; run = tt; alone = tt }
run_alone s t [] (points ∷ done) is places run = absurd run
run_alone s t (asked ∷ more) [] is places run = absurd run
run_alone s t (asked ∷ more) (points ∷ done) is places run =
    let many : length s.tracks ≡ 1 = ap length is in
    let play = subst (λ (n : ℕ). IsLanePlay s (parts_of n (on_first asked)) points) many run.0 in
    let first = play_alone s t (parts_of 1 (on_first asked)) (track.parts_of asked) points is places (parts_alone asked) play in
    let later = run_alone (state_behind s points) (runs.state_behind t first.own) more done first.behind first.places run.1 in
    record {
      own = first.own ++ later.own;
      run = play-append t (track.parts_of asked) (script_parts more) first.own later.own first.play later.run;
      alone = alone_append points (all_points done) first.own later.own first.alone later.alone;
    }

-- ---- what is told of it

text_alone : (number : ℕ) (told : List LaneHappening) (own : List Happening) → told ≡ told_on 1 own → entries_on number told ≡ flat_map (λ happening. entry number happening) own
text_alone number told own is = ap (entries_on number) is ∙ each own where
  each : (hs : List Happening) → entries_on number (told_on 1 hs) ≡ flat_map (λ happening. entry number happening) hs
  each [] = refl
  each (h ∷ hs) = ap (λ (t : List ℕ). entry number h ++ t) (each hs)

texts_alone : (number : ℕ) (points : List LanePoint) (own : List Point) → ArePointsAlone points own → lanes_text number points ≡ told_text number own
texts_alone number [] [] same = refl
texts_alone number [] (mine ∷ own) same = absurd same
texts_alone number (point ∷ points) [] same = absurd same
texts_alone number (point ∷ points) (mine ∷ own) same =
    let lines_are : lines_of point.after ≡ mine.after.lines = ap (λ (ts : List LineState). lines_of (record { spent = point.after.spent; tracks = ts })) same.0.after in
    ap (λ (t : List ℕ). t ++ lanes_text (lines_of point.after + 1) points) (text_alone number point.told mine.told same.0.told)
    ∙ ap (λ (n : ℕ). flat_map (λ happening. entry number happening) mine.told ++ lanes_text (n + 1) points) lines_are
    ∙ ap (λ (t : List ℕ). flat_map (λ happening. entry number happening) mine.told ++ t) (texts_alone (mine.after.lines + 1) points own same.1)

lie_alone : (told : List LaneHappening) (own : List Happening) → told ≡ told_on 1 own → tells_lie_on told ≡ tells_lie own
lie_alone told own is = ap tells_lie_on is ∙ each own where
  each : (hs : List Happening) → tells_lie_on (told_on 1 hs) ≡ tells_lie hs
  each [] = refl
  each (h ∷ hs) = ap (λ (b : Bool). is_lie h || b) (each hs)

lies_alone : (points : List LanePoint) (own : List Point) → ArePointsAlone points own → has_lie_on points ≡ has_lie own
lies_alone [] [] same = refl
lies_alone [] (mine ∷ own) same = absurd same
lies_alone (point ∷ points) [] same = absurd same
lies_alone (point ∷ points) (mine ∷ own) same =
    ap (λ (b : Bool). b || has_lie_on points) (lie_alone point.told mine.told same.0.told) ∙ ap (λ (b : Bool). tells_lie mine.told || b) (lies_alone points own same.1)

-- A SCRIPT OF ONE LANE IS A TRACK
pub script_alone : EachScriptOfOneLaneIsATrack
script_alone asked done run =
    let one = run_alone no_lanes no_line asked done refl refl run in
    record { own = one.own; run = one.run; alone = one.alone; text = λ number. texts_alone number (all_points done) one.own one.alone; lied = lies_alone (all_points done) one.own one.alone }

-- A line of several lanes remembers that one of the lines of its script told what was not so: each lane does, and the same.
use Rattle.std.proofs.Common.{◌≡◌, ◌+◌, ◌-◌, ◌==◌, ◌≤◌, ◌||◌, ◌++◌, ℕ, zero, suc, Bool, true, false, List, [], ◌∷◌, Option, Some, None, Ok, Err, get_or, is_some, length, map, refl, sym, ap, subst, ◌∙◌, arith}
use Rattle.std.specs.Prelude.{if◌then◌else◌}
use Rattle.std.specs.List.{AllByRecursion, flat_map}
use Rattle.std.proofs.lemmas.Bool.{or_parts}
use mathlib.Core.Bool.{or_assoc}
use Rattle.board_record.specs.declared.record.Record.{Record}
use Rattle.line_script.specs.declared.line.LaneLine.{LaneLine}
use Rattle.line_script.specs.declared.line.LaneLine.TheVariants as lane_lines
use Rattle.node_core.specs.Node.{NodeState}
use Rattle.node_core.specs.Own.{own_of}
use Rattle.node_core.specs.declared.input.Input.TheVariants as inputs
use Rattle.standings.specs.declared.standing.Standing.{Standing}
use Rattle.standings.specs.declared.standing.Standing.TheVariants as standings
use Rattle.line_report.specs.Lanes.{told_on}
use Rattle.line_report.specs.Shifts.{before_first, behind_first, from_first, is_gets, is_gives, shift_told}
use Rattle.line_report.specs.declared.happening.Happening.{Happening}
use Rattle.line_report.specs.declared.happening.Happening.TheVariants as happenings
use Rattle.line_report.specs.declared.happening.LaneHappening.{LaneHappening}
use Rattle.line_step.specs.Lies.{is_lie, tells_lie}
use Rattle.line_step.specs.Lines.{LineDoes}
use Rattle.line_step.specs.Reasons.{May, may_add, may_stop}
use Rattle.line_step.specs.Requests.{Request, added_told, request_of}
use Rattle.line_step.specs.Requests as requests
use Rattle.line_step.specs.Shown.{ascending, between_shown, ids_marked, kept_shown, taken_below}
use Rattle.line_step.specs.State.{LineState, no_line}
use Rattle.law_lanes.specs.Lanes.{Lanes, beside, counted, empty_track, no_lanes, track, tracks_with, unvouched_of, with_track}
use Rattle.law_lanes.specs.Once.{EachRunRemembers, SetsFew}
use Rattle.law_lanes.specs.Parts.{IsLanePlay, IsLaneRun, LanePart, LanePoint, all_points, parts_of, state_behind}
use Rattle.law_lanes.specs.Reasons.{first_track, may_on, may_set, may_shift}
use Rattle.law_lanes.specs.Shown.{LaneMarks, LanePlace, all_shown, front_shown, fronts_shown, is_same_place, marked_on, marks_told, place_told, shown_on, standing_on, standings_on}
use Rattle.law_lanes.specs.Shown as show
use Rattle.law_lanes.specs.Steps.{LanesStep, OnTrack, RequestDoes, Shifts, copies, more_on}
use Rattle.law_lanes.specs.Steps as steps
use Rattle.law_lanes.specs.Views.{has_lie_on, tells_lie_on}
use Rattle.law_lanes.proofs.Remembering.{does-remember, machine-honest}
use Rattle.law_lanes.proofs.ScriptRuns.{PartsSet, behind-append, parts_set}

-- ---- what tells no lie

or_false : (b : Bool) → (b || false) ≡ b
or_false true = refl
or_false false = refl

lie_append : (a b : List LaneHappening) → tells_lie_on (a ++ b) ≡ (tells_lie_on a || tells_lie_on b)
lie_append [] b = refl
lie_append (h ∷ a) b = ap (λ (t : Bool). is_lie h.what || t) (lie_append a b) ∙ sym (or_assoc (is_lie h.what) (tells_lie_on a) (tells_lie_on b))

lie_on : (lane : ℕ) (told : List Happening) → tells_lie_on (told_on lane told) ≡ tells_lie told
lie_on lane [] = refl
lie_on lane (h ∷ told) = ap (λ (t : Bool). is_lie h || t) (lie_on lane told)

none_both : (a b : List LaneHappening) → tells_lie_on a ≡ false → tells_lie_on b ≡ false → tells_lie_on (a ++ b) ≡ false
none_both a b one two = lie_append a b ∙ rw (one, two) refl

none_on : (lane : ℕ) (told : List Happening) → tells_lie told ≡ false → tells_lie_on (told_on lane told) ≡ false
none_on lane told none = lie_on lane told ∙ none

none_front : (a b : List Happening) → tells_lie a ≡ false → tells_lie b ≡ false → tells_lie (a ++ b) ≡ false
none_front [] b one two = two
none_front (h ∷ a) b one two =
    let parts = or_parts (is_lie h) (tells_lie a) one in
    rw parts.0 (none_front a b parts.1 two)

-- ---- show

kept_none : (machine : ℕ) (boards : List Record) → tells_lie (kept_shown machine boards) ≡ false
kept_none machine [] = refl
kept_none machine (board ∷ boards) = kept_none machine boards

other_none : (gap below : ℕ) (same : Bool) → tells_lie (if same then [] else happenings.ShownBetween gap below ∷ []) ≡ false
other_none gap below true = refl
other_none gap below false = refl

between_none : (gap : ℕ) (above below : Option ℕ) → tells_lie (between_shown gap above below) ≡ false
between_none gap None None = refl
between_none gap None (Some below) = refl
between_none gap (Some above) None = refl
between_none gap (Some above) (Some below) = other_none gap below (above == below)

front_none : (lane machine : ℕ) (nodes : List NodeState) → tells_lie_on (front_shown lane machine nodes) ≡ false
front_none lane machine [] = refl
front_none lane machine (node ∷ nodes) =
    none_on lane (kept_shown machine node.lane.body.kept ++ between_shown machine (own_of node.lane.body).held (taken_below nodes))
    (none_front (kept_shown machine node.lane.body.kept) (between_shown machine (own_of node.lane.body).held (taken_below nodes)) (kept_none machine node.lane.body.kept)
    (between_none machine (own_of node.lane.body).held (taken_below nodes)))

fronts_none : (lane machine : ℕ) (lanes : List (List NodeState)) → tells_lie_on (fronts_shown lane machine lanes) ≡ false
fronts_none lane machine [] = refl
fronts_none lane machine (nodes ∷ others) =
    none_both (front_shown lane machine nodes) (fronts_shown (lane + 1) machine others) (front_none lane machine nodes) (fronts_none (lane + 1) machine others)

all_none : (many machine : ℕ) (lanes : List (List NodeState)) → tells_lie_on (all_shown many machine lanes) ≡ false
all_none zero machine lanes = refl
all_none (suc more) machine lanes =
    none_both (fronts_shown 1 machine lanes) (all_shown more (machine + 1) (map show.behind_first lanes)) (fronts_none 1 machine lanes) (all_none more (machine + 1) (map show.behind_first lanes))

shown_none : (s : Lanes) → tells_lie_on (shown_on s) ≡ false
shown_none s = all_none (length (first_track s).machines) 1 (map (λ (t : LineState). t.machines) s.tracks)

-- ---- standings

standing_none : (id lane : ℕ) (standing : Standing) → tells_lie_on (told_on lane (show.standing_happens id standing ∷ [])) ≡ false
standing_none id lane (standings.With machine) = refl
standing_none id lane (standings.Between gap) = refl

place_none : (id : ℕ) (place : Option LanePlace) → tells_lie_on (place_told id place) ≡ false
place_none id None = refl
place_none id (Some place) = standing_none id place.lane place.standing

changed_none : (id : ℕ) (place : Option LanePlace) (same : Bool) → tells_lie_on (if same then [] else place_told id place) ≡ false
changed_none id place true = refl
changed_none id place false = place_none id place

marks_none : (id : ℕ) (before now : List LaneMarks) → tells_lie_on (marks_told id before now) ≡ false
marks_none id [] [] = refl
marks_none id (own ∷ others) [] = refl
marks_none id [] (own ∷ others) = changed_none id (standing_on (own ∷ others)) (is_same_place (standing_on (own ∷ others)) (standing_on []))
marks_none id (other ∷ more) (own ∷ others) = changed_none id (standing_on (own ∷ others)) (is_same_place (standing_on (own ∷ others)) (standing_on (other ∷ more)))

each_none : (f : ℕ → List LaneHappening) → ((id : ℕ) → tells_lie_on (f id) ≡ false) → (ids : List ℕ) → tells_lie_on (flat_map f ids) ≡ false
each_none f none [] = refl
each_none f none (id ∷ ids) = none_both (f id) (flat_map f ids) (none id) (each_none f none ids)

standings_none : (before after : Lanes) → tells_lie_on (standings_on before after) ≡ false
standings_none before after =
    each_none (λ id. marks_told id (marked_on before id) (marked_on after id)) (λ id. marks_none id (marked_on before id) (marked_on after id))
    (ascending (flat_map ids_marked before.tracks ++ flat_map ids_marked after.tracks))

-- ---- a shift

before_none : (is : Happening → Bool) (told : List Happening) → tells_lie told ≡ false → tells_lie (before_first is told) ≡ false
before_none is [] none = refl
before_none is (h ∷ told) none =
    let parts = or_parts (is_lie h) (tells_lie told) none in
    by (is h) parts.0 (before_none is told parts.1) where
      by : (test : Bool) → is_lie h ≡ false → tells_lie (before_first is told) ≡ false → tells_lie (if test then [] else h ∷ before_first is told) ≡ false
      by true one later = refl
      by false one later = rw one later

from_none : (is : Happening → Bool) (told : List Happening) → tells_lie told ≡ false → tells_lie (from_first is told) ≡ false
from_none is [] none = refl
from_none is (h ∷ told) none =
    let parts = or_parts (is_lie h) (tells_lie told) none in
    by (is h) (from_none is told parts.1) where
      by : (test : Bool) → tells_lie (from_first is told) ≡ false → tells_lie (if test then h ∷ told else from_first is told) ≡ false
      by true later = none
      by false later = later

behind_none : (is : Happening → Bool) (told : List Happening) → tells_lie told ≡ false → tells_lie (behind_first is told) ≡ false
behind_none is [] none = refl
behind_none is (h ∷ told) none =
    let parts = or_parts (is_lie h) (tells_lie told) none in
    by (is h) (behind_none is told parts.1) parts.1 where
      by : (test : Bool) → tells_lie (behind_first is told) ≡ false → tells_lie told ≡ false → tells_lie (if test then told else behind_first is told) ≡ false
      by true later all = all
      by false later all = later

shift_none : (from to : ℕ) (given taken : List Happening) → tells_lie given ≡ false → tells_lie taken ≡ false → tells_lie_on (shift_told from to given taken) ≡ false
shift_none from to given taken one two =
    let first = none_on from (before_first is_gives given) (before_none is_gives given one) in
    let second = none_on to (before_first is_gets taken) (before_none is_gets taken two) in
    let third = none_on from (from_first is_gives given) (from_none is_gives given one) in
    let fourth = none_on to (behind_first is_gets taken) (behind_none is_gets taken two) in
    let a = told_on from (before_first is_gives given) in
    let b = told_on to (before_first is_gets taken) in
    let c = told_on from (from_first is_gives given) in
    let d = told_on to (behind_first is_gets taken) in
    none_both ((a ++ b) ++ c) d (none_both (a ++ b) c (none_both a b first second) third) fourth

-- ---- WHAT EACH LANE REMEMBERS: the first line, the same on each

abbrev AllSay : Option ℕ → List LineState → Type 0
AllSay line tracks = AllByRecursion (λ (t : LineState). t.unvouched ≡ line) tracks

record Says (line : Option ℕ) (s : Lanes) : Type 0 where
  some : 1 ≤ length s.tracks
  each : AllSay line s.tracks

first_says : (line : Option ℕ) (tracks : List LineState) → 1 ≤ length tracks → AllSay line tracks → (get_or tracks 0 no_line).unvouched ≡ line
first_says line [] some each = absurd (omega (arith, some))
first_says line (t ∷ tracks) some each = each.0

says_of : (line : Option ℕ) (s : Lanes) → Says line s → unvouched_of s ≡ line
says_of line s says = first_says line s.tracks says.some says.each

at_says : (line : Option ℕ) (tracks : List LineState) (place : ℕ) (other : LineState) → other.unvouched ≡ line → AllSay line tracks → (get_or tracks place other).unvouched ≡ line
at_says line [] place other is each = is
at_says line (t ∷ tracks) zero other is each = each.0
at_says line (t ∷ tracks) (suc place) other is each = at_says line tracks place other is each.1

track_says : (line : Option ℕ) (lane : ℕ) (s : Lanes) → Says line s → (track lane s).unvouched ≡ line
track_says line lane s says = at_says line s.tracks (lane - 1) (empty_track s) (says_of line s says) says.each

-- a step on a track
beside_says : (now : LineState) (others : List LineState) → AllSay now.unvouched (map (beside now) others)
beside_says now [] = tt
beside_says now (other ∷ others) = (refl, beside_says now others)

with_says : (before : ℕ) (now : LineState) (tracks : List LineState) → AllSay now.unvouched (tracks_with before now tracks)
with_says zero now [] = tt
with_says (suc before) now [] = tt
with_says zero now (other ∷ others) = (refl, beside_says now others)
with_says (suc before) now (other ∷ others) = (refl, with_says before now others)

beside_many : (now : LineState) (others : List LineState) → length (map (beside now) others) ≡ length others
beside_many now [] = refl
beside_many now (other ∷ others) = ap (λ (n : ℕ). suc n) (beside_many now others)

with_many : (before : ℕ) (now : LineState) (tracks : List LineState) → length (tracks_with before now tracks) ≡ length tracks
with_many zero now [] = refl
with_many (suc before) now [] = refl
with_many zero now (other ∷ others) = ap (λ (n : ℕ). suc n) (beside_many now others)
with_many (suc before) now (other ∷ others) = ap (λ (n : ℕ). suc n) (with_many before now others)

with_track_says : (lane : ℕ) (now : LineState) (s : Lanes) → 1 ≤ length s.tracks → Says now.unvouched (with_track lane now s)
with_track_says lane now s some = record { some = omega (arith, some, with_many (lane - 1) now s.tracks); each = with_says (lane - 1) now s.tracks }

more_says : (line : Option ℕ) (lane : ℕ) (is_bridge : Bool) (capacity used : ℕ) (tracks : List LineState) → AllSay line tracks → AllSay line (more_on lane is_bridge capacity used tracks)
more_says line lane is_bridge capacity used [] each = tt
more_says line lane is_bridge capacity used (t ∷ tracks) each = (each.0, more_says line (lane + 1) is_bridge capacity used tracks each.1)

more_many : (lane : ℕ) (is_bridge : Bool) (capacity used : ℕ) (tracks : List LineState) → length (more_on lane is_bridge capacity used tracks) ≡ length tracks
more_many lane is_bridge capacity used [] = refl
more_many lane is_bridge capacity used (t ∷ tracks) = ap (λ (n : ℕ). suc n) (more_many (lane + 1) is_bridge capacity used tracks)

copies_say : (count : ℕ) (t : LineState) → AllSay t.unvouched (copies count t)
copies_say zero t = tt
copies_say (suc more) t = (refl, copies_say more t)

counted_say : (line : Option ℕ) (lines : ℕ) (tracks : List LineState) → AllSay line tracks → AllSay line (map (λ (t : LineState). record t { lines = lines }) tracks)
counted_say line lines [] each = tt
counted_say line lines (t ∷ tracks) each = (each.0, counted_say line lines tracks each.1)

-- what is remembered behind, where that says the same on each lane
record RemembersOn (before : Option ℕ) (after : Lanes) (told : List LaneHappening) : Type 0 where
  line : Option ℕ
  some : 1 ≤ length after.tracks
  each : AllSay line after.tracks
  is : is_some line ≡ (is_some before || tells_lie_on told)

rests : (before : Option ℕ) (next after : Lanes) (what told : List LaneHappening) → Says before next → tells_lie_on what ≡ false → steps.Becomes next what after told → RemembersOn before after told
rests before next after what told says none b =
    let same : tells_lie_on told ≡ false = ap tells_lie_on b.told_is ∙ none in
    let behind = subst (λ (s : Lanes). Says before s) (sym b.after_is) says in
    record { line = before; some = behind.some; each = behind.each; is = sym (or_false (is_some before)) ∙ ap (λ (t : Bool). is_some before || t) (sym same) }

unless : (may : May) (line : Option ℕ) (before after : Lanes) (told : List LaneHappening) (Done : Type 0) → Says line before → steps.Unless may before after told Done → (Done → RemembersOn line after told) → RemembersOn line after told
unless (Ok _) line before after told Done says done does = does done
unless (Err reason) line before after told Done says b does = rests line before after (steps.told_once (happenings.No reason)) told says refl b

on_track : (number lane : ℕ) (request : Request) (line : Option ℕ) (before after : Lanes) (told : List LaneHappening) → Says line before → OnTrack lane (LineDoes number request) before after told → RemembersOn line after told
on_track number lane request line before after told says did =
    let next = did.next in
    let was = track_says line lane before says in
    let remembers = does-remember number request (track lane before) next did.done did.does in
    let with_it = with_track_says lane next before says.some in
    let lies : tells_lie did.done ≡ tells_lie_on told = sym (lie_on lane did.done) ∙ ap tells_lie_on (sym did.told_is) in
    let behind = subst (λ (s : Lanes). Says next.unvouched s) (sym did.after_is) with_it in
    record {
      line = next.unvouched;
      some = behind.some;
      each = behind.each;
      is = remembers ∙ ap (λ (o : Option ℕ). is_some o || tells_lie did.done) was ∙ ap (λ (t : Bool). is_some line || t) lies;
    }

added_none : (is_bridge : Bool) (capacity : ℕ) (t : LineState) → tells_lie_on (told_on 1 (added_told is_bridge capacity t)) ≡ false
added_none true capacity t = refl
added_none false capacity t = refl

named_says : (number lane : ℕ) (request : Request) (line : Option ℕ) (before after : Lanes) (told : List LaneHappening) → Says line before
    → steps.Unless (may_on lane request before) before after told (OnTrack lane (LineDoes number request) before after told) → RemembersOn line after told
named_says number lane request line before after told says did =
    unless (may_on lane request before) line before after told (OnTrack lane (LineDoes number request) before after told) says did (λ d. on_track number lane request line before after told says d)

request_says : (number lane : ℕ) (request : Request) (line : Option ℕ) (before after : Lanes) (told : List LaneHappening) → Says line before → RequestDoes number lane request before after told → RemembersOn line after told
request_says number lane requests.nothing line before after told says b = rests line before after [] told says refl b
request_says number lane requests.shows line before after told says b = rests line before after (shown_on before) told says (shown_none before) b
request_says number lane (requests.adds own is_bridge capacity used) line before after told says did =
    let more : Lanes = record before { tracks = more_on 1 is_bridge capacity used before.tracks } in
    let what = told_on 1 (added_told is_bridge capacity (first_track before)) in
    unless (may_add (first_track before)) line before after told (steps.Becomes more what after told) says did
    (λ b. rests line more after what told
    (record { some = omega (arith, says.some, more_many 1 is_bridge capacity used before.tracks); each = more_says line 1 is_bridge capacity used before.tracks says.each }) (added_none is_bridge capacity (first_track before)) b)
request_says number lane (requests.stops machine) line before after told says did =
    let what = steps.told_once (happenings.Stop machine) in
    unless (may_stop machine (first_track before)) line before after told (steps.Becomes before what after told) says did (λ b. rests line before after what told says refl b)
request_says number lane (requests.gives machine input) line before after told says did = named_says number lane (requests.gives machine input) line before after told says did
request_says number lane (requests.connects machine) line before after told says did = named_says number lane (requests.connects machine) line before after told says did
request_says number lane (requests.flows machine side count) line before after told says did = named_says number lane (requests.flows machine side count) line before after told says did
request_says number lane (requests.cuts gap) line before after told says did = named_says number lane (requests.cuts gap) line before after told says did
request_says number lane (requests.spoils machine side) line before after told says did = named_says number lane (requests.spoils machine side) line before after told says did
request_says number lane (requests.moves_on gap step) line before after told says did = named_says number lane (requests.moves_on gap step) line before after told says did
request_says number lane (requests.lies machine sensed) line before after told says did = named_says number lane (requests.lies machine sensed) line before after told says did
request_says number lane (requests.unsees machine side) line before after told says did = named_says number lane (requests.unsees machine side) line before after told says did

shift_says : (number machine from to id : ℕ) (line : Option ℕ) (before after : Lanes) (told : List LaneHappening) → Says line before → Shifts number machine from to id before after told → RemembersOn line after told
shift_says number machine from to id line before after told says did =
    let give = machine-honest number machine (inputs.Gives id to) (track from before) did.gave did.given did.gives in
    let between = with_track from did.gave before in
    let between_says = with_track_says from did.gave before says.some in
    let take = machine-honest number machine (inputs.Gets did.board) (track to between) did.got did.taken did.gets in
    let after_says = with_track_says to did.got between between_says.some in
    let same : did.got.unvouched ≡ line = take.0 ∙ track_says did.gave.unvouched to between between_says ∙ give.0 ∙ track_says line from before says in
    let none : tells_lie_on told ≡ false = ap tells_lie_on did.told_is ∙ shift_none from to did.given did.taken give.1 take.1 in
    let says_it = subst (λ (o : Option ℕ). Says o (with_track to did.got between)) same after_says in
    let behind = subst (λ (s : Lanes). Says line s) (sym did.after_is) says_it in
    record { line = line; some = behind.some; each = behind.each; is = sym (or_false (is_some line)) ∙ ap (λ (t : Bool). is_some line || t) (sym none) }

copies_many : (count : ℕ) (t : LineState) → length (copies count t) ≡ count
copies_many zero t = refl
copies_many (suc more) t = ap (λ (n : ℕ). suc n) (copies_many more t)

line_says : (number : ℕ) (asked : LaneLine) (line : Option ℕ) (before after : Lanes) (told : List LaneHappening) → SetsFew asked → Says line before → steps.LanesDo number asked before after told → RemembersOn line after told
line_says number (lane_lines.On lane own) line before after told sets says did = request_says number lane (request_of own) line before after told says did
line_says number (lane_lines.Lanes count) line before after told sets says did =
    let each = subst (λ (o : Option ℕ). AllSay o (copies count (empty_track before))) (says_of line before says) (copies_say count (empty_track before)) in
    let set : Lanes = record before { tracks = copies count (empty_track before) } in
    let what = steps.told_once (happenings.Lanes count) in
    unless (may_set before) line before after told (steps.Becomes set what after told) says did (λ b. rests line set after what told
    (record { some = omega (arith, sets.0, copies_many count (empty_track before)); each = each }) refl b)
line_says number (lane_lines.Shift machine from to id) line before after told sets says did =
    unless (may_shift machine from to id before) line before after told (Shifts number machine from to id before after told) says did (λ d. shift_says number machine from to id line before after told says d)

map_many : (lines : ℕ) (tracks : List LineState) → length (map (λ (t : LineState). record t { lines = lines }) tracks) ≡ length tracks
map_many lines [] = refl
map_many lines (t ∷ tracks) = ap (λ (n : ℕ). suc n) (map_many lines tracks)

step_says : (number : ℕ) (asked : LaneLine) (line : Option ℕ) (before after : Lanes) (told : List LaneHappening) → SetsFew asked → Says line before → LanesStep number asked before after told → RemembersOn line after told
step_says number asked line before after told sets says step =
    let did = line_says number asked line before step.next step.done sets says step.does in
    let each = counted_say did.line step.lines step.next.tracks did.each in
    let told_is : tells_lie_on step.done ≡ tells_lie_on told =
    sym (ap tells_lie_on step.told_is ∙ lie_append step.done (standings_on before step.next) ∙ ap (λ (t : Bool). tells_lie_on step.done || t) (standings_none before step.next) ∙ or_false (tells_lie_on step.done)) in
    let now : Says did.line (counted step.lines step.next) = record { some = omega (arith, did.some, map_many step.lines step.next.tracks); each = each } in
    let behind = subst (λ (s : Lanes). Says did.line s) (sym step.after_is) now in
    record { line = did.line; some = behind.some; each = behind.each; is = did.is ∙ ap (λ (t : Bool). is_some line || t) told_is }

-- ---- along a run

record RemembersAlong (before : Option ℕ) (end : Lanes) (points : List LanePoint) : Type 0 where
  line : Option ℕ
  says : Says line end
  is : is_some line ≡ (is_some before || has_lie_on points)

play_says : (line : Option ℕ) (s : Lanes) (parts : List LanePart) (points : List LanePoint) → PartsSet parts → Says line s → IsLanePlay s parts points → RemembersAlong line (state_behind s points) points
play_says line s [] [] sets says play = record { line = line; says = says; is = sym (or_false (is_some line)) }
play_says line s [] (point ∷ points) sets says play = absurd play
play_says line s (part ∷ parts) [] sets says play = absurd play
play_says line s (part ∷ parts) (point ∷ points) sets says play =
    let one = step_says _ (part.line s) line s point.after point.told (sets.0 s) says play.0.steps in
    let later = play_says one.line point.after parts points sets.1 (record { some = one.some; each = one.each }) play.1 in
    record { line = later.line; says = later.says; is = later.is ∙ ap (λ (t : Bool). t || has_lie_on points) one.is ∙ or_assoc (is_some line) (tells_lie_on point.told) (has_lie_on points) }

lies_append : (points others : List LanePoint) → has_lie_on (points ++ others) ≡ (has_lie_on points || has_lie_on others)
lies_append [] others = refl
lies_append (point ∷ points) others = ap (λ (t : Bool). tells_lie_on point.told || t) (lies_append points others) ∙ sym (or_assoc (tells_lie_on point.told) (has_lie_on points) (has_lie_on others))

run_says : (line : Option ℕ) (s : Lanes) (asked : List LaneLine) (done : List (List LanePoint)) → AllByRecursion SetsFew asked → Says line s → IsLaneRun s asked done → RemembersAlong line (state_behind s (all_points done)) (all_points done)
run_says line s [] [] sets says run = record { line = line; says = says; is = sym (or_false (is_some line)) }
run_says line s [] (own ∷ done) sets says run = absurd run
run_says line s (asked ∷ more) [] sets says run = absurd run
run_says line s (asked ∷ more) (own ∷ done) sets says run =
    let one = play_says line s (parts_of (length s.tracks) asked) own (parts_set (length s.tracks) asked sets.0) says run.0 in
    let later = run_says one.line (state_behind s own) more done sets.1 one.says run.1 in
    record {
      line = later.line;
      says = subst (λ (end : Lanes). Says later.line end) (sym (behind-append s own (all_points done))) later.says;
      is =
          later.is
          ∙ ap (λ (t : Bool). t || has_lie_on (all_points done)) one.is
          ∙ or_assoc (is_some line) (has_lie_on own) (has_lie_on (all_points done))
          ∙ ap (λ (t : Bool). is_some line || t) (sym (lies_append own (all_points done)));
    }

-- A LINE IS UNVOUCHED exactly where one of the lines of its script told what was not so, or let a board come or go unseen
pub run_remembered : EachRunRemembers
run_remembered asked done sets run =
    let along = run_says None no_lanes asked done sets (record { some = omega arith; each = (refl, tt) }) run in
    ap is_some (says_of along.line (state_behind no_lanes (all_points done)) along.says) ∙ along.is

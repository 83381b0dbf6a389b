-- What holds of each thing that a line over several lanes does, where it holds of what is told of the
-- whole line, of what a track tells, and of a shift.
use Rattle.std.proofs.Common.{◌++◌, ◌+◌, ◌==◌, ℕ, zero, suc, Bool, true, false, List, [], ◌∷◌, Option, Some, None, Ok, Err, map, subst, sym}
use Rattle.std.specs.Prelude.{if◌then◌else◌}
use Rattle.std.specs.List.{AllByRecursion}
use Rattle.board_record.specs.declared.record.Record.{Record}
use Rattle.line_base.specs.declared.states.Quality.{Quality}
use Rattle.line_script.specs.declared.line.LaneLine.{LaneLine}
use Rattle.line_script.specs.declared.line.LaneLine.TheVariants as lane_lines
use Rattle.line_script.specs.declared.line.ScriptLine.{ScriptLine}
use Rattle.node_core.specs.Node.{NodeState}
use Rattle.node_core.specs.Own.{own_of}
use Rattle.line_report.specs.Lanes.{told_on}
use Rattle.line_report.specs.declared.happening.Happening.{Happening}
use Rattle.line_report.specs.declared.happening.Happening.TheVariants as happenings
use Rattle.line_report.specs.declared.happening.LaneHappening.{LaneHappening}
use Rattle.line_report.specs.declared.happening.Reason.{Reason}
use Rattle.line_step.specs.Lines.{LineDoes}
use Rattle.line_step.specs.Reasons.{May, may_add, may_stop}
use Rattle.line_step.specs.Requests.{Request, added_told, request_of}
use Rattle.line_step.specs.Requests as requests
use Rattle.line_step.specs.Shown.{between_shown, kept_shown, taken_below}
use Rattle.line_step.specs.State.{LineState}
use Rattle.law_lanes.specs.Lanes.{Lanes}
use Rattle.law_lanes.specs.Reasons.{first_track, may_on, may_set, may_shift}
use Rattle.law_lanes.specs.Shown.{all_shown, behind_first, front_shown, fronts_shown, shown_on}
use Rattle.law_lanes.specs.Steps.{Becomes, LanesDo, OnTrack, RequestDoes, Shifts, Unless, told_once}
use Rattle.law_lanes.proofs.Telling.{join_all}

-- what is told of the whole line, and what is shown
pub record IsPlain (P : Happening → Type 0) : Type 0 where
  pub no : (reason : Reason) → P (happenings.No reason)
  pub lanes : (count : ℕ) → P (happenings.Lanes count)
  pub stop : (machine : ℕ) → P (happenings.Stop machine)
  pub machine : (number capacity : ℕ) → P (happenings.Machine number capacity)
  pub bridge : (number capacity : ℕ) → P (happenings.Bridge number capacity)
  pub shown : (number id : ℕ) (quality : Quality) → P (happenings.Shown number id quality)
  pub between : (gap id : ℕ) → P (happenings.ShownBetween gap id)

abbrev pub EachOn : (Happening → Type 0) → List LaneHappening → Type 0
EachOn P told = AllByRecursion (λ (h : LaneHappening). P h.what) told

pub on_one : (P : Happening → Type 0) (lane : ℕ) (told : List Happening) → AllByRecursion P told
    → EachOn P (told_on lane told)
on_one P lane [] all = tt
on_one P lane (h ∷ told) all = (all.0, on_one P lane told all.1)

pub both_on : (P : Happening → Type 0) (a b : List LaneHappening) → EachOn P a → EachOn P b
    → EachOn P (a ++ b)
both_on P a b one two = join_all (λ (h : LaneHappening). P h.what) a b one two

pub each_so : (P Q : Happening → Type 0) (told : List Happening) → ((h : Happening) → P h → Q h)
    → AllByRecursion P told → AllByRecursion Q told
each_so P Q [] weaker all = tt
each_so P Q (h ∷ told) weaker all = (weaker h all.0, each_so P Q told weaker all.1)

-- ---- show

kept_is : (P : Happening → Type 0) → IsPlain P → (machine : ℕ) (boards : List Record)
    → AllByRecursion P (kept_shown machine boards)
kept_is P plain machine [] = tt
kept_is P plain machine (board ∷ boards) =
    (plain.shown machine board.id board.quality, kept_is P plain machine boards)

two_are : (P : Happening → Type 0) → IsPlain P → (same : Bool) (gap above below : ℕ)
    → AllByRecursion P (happenings.ShownBetween gap above ∷ (if same then [] else happenings.ShownBetween gap below ∷ []))
two_are P plain true gap above below = (plain.between gap above, tt)
two_are P plain false gap above below = (plain.between gap above, (plain.between gap below, tt))

between_is : (P : Happening → Type 0) → IsPlain P → (gap : ℕ) (above below : Option ℕ)
    → AllByRecursion P (between_shown gap above below)
between_is P plain gap None None = tt
between_is P plain gap None (Some below) = (plain.between gap below, tt)
between_is P plain gap (Some above) None = (plain.between gap above, tt)
between_is P plain gap (Some above) (Some below) = two_are P plain (above == below) gap above below

front_is : (P : Happening → Type 0) → IsPlain P → (lane machine : ℕ) (nodes : List NodeState)
    → EachOn P (front_shown lane machine nodes)
front_is P plain lane machine [] = tt
front_is P plain lane machine (node ∷ nodes) =
    let kept = kept_shown machine node.lane.body.kept in
    let between = between_shown machine (own_of node.lane.body).held (taken_below nodes) in
    on_one P lane (kept ++ between)
    (join_all P kept between (kept_is P plain machine node.lane.body.kept)
    (between_is P plain machine (own_of node.lane.body).held (taken_below nodes)))

fronts_are : (P : Happening → Type 0) → IsPlain P → (lane machine : ℕ)
    (lanes : List (List NodeState)) → EachOn P (fronts_shown lane machine lanes)
fronts_are P plain lane machine [] = tt
fronts_are P plain lane machine (nodes ∷ others) =
    both_on P (front_shown lane machine nodes) (fronts_shown (lane + 1) machine others)
    (front_is P plain lane machine nodes) (fronts_are P plain (lane + 1) machine others)

all_are : (P : Happening → Type 0) → IsPlain P → (many machine : ℕ)
    (lanes : List (List NodeState)) → EachOn P (all_shown many machine lanes)
all_are P plain zero machine lanes = tt
all_are P plain (suc more) machine lanes =
    both_on P (fronts_shown 1 machine lanes) (all_shown more (machine + 1) (map behind_first lanes))
    (fronts_are P plain 1 machine lanes)
    (all_are P plain more (machine + 1) (map behind_first lanes))

-- ---- a line

becomes_is : (P : Happening → Type 0) (next after : Lanes) (what told : List LaneHappening)
    → Becomes next what after told → EachOn P what → EachOn P told
becomes_is P next after what told b all = subst (EachOn P) (sym b.told_is) all

unless_is : (P : Happening → Type 0) → IsPlain P → (may : May) (before after : Lanes)
    (told : List LaneHappening) (Done : Type 0) → Unless may before after told Done
    → (Done → EachOn P told) → EachOn P told
unless_is P plain (Ok _) before after told Done does go = go does
unless_is P plain (Err reason) before after told Done b go =
    becomes_is P before after (told_once (happenings.No reason)) told b (plain.no reason, tt)

added_is : (P : Happening → Type 0) → IsPlain P → (is_bridge : Bool) (capacity : ℕ)
    (t : LineState) → EachOn P (told_on 1 (added_told is_bridge capacity t))
added_is P plain true capacity t = (plain.bridge _ capacity, tt)
added_is P plain false capacity t = (plain.machine _ capacity, tt)

request_is : (P : Happening → Type 0) → IsPlain P → (number lane : ℕ) (request : Request)
    (before after : Lanes) (told : List LaneHappening)
    → (OnTrack lane (LineDoes number request) before after told → EachOn P told)
    → RequestDoes number lane request before after told → EachOn P told
request_is P plain number lane requests.nothing before after told on b =
    becomes_is P before after [] told b tt
request_is P plain number lane requests.shows before after told on b =
    becomes_is P before after (shown_on before) told b
    (all_are P plain _ 1 (map (λ (t : LineState). t.machines) before.tracks))
request_is P plain number lane (requests.adds own is_bridge capacity used) before after told on does =
    unless_is P plain (may_add (first_track before)) before after told _ does
    (λ b. becomes_is P _ after (told_on 1 (added_told is_bridge capacity (first_track before))) told b
    (added_is P plain is_bridge capacity (first_track before)))
request_is P plain number lane (requests.stops machine) before after told on does =
    unless_is P plain (may_stop machine (first_track before)) before after told _ does
    (λ b. becomes_is P before after (told_once (happenings.Stop machine)) told b
    (plain.stop machine, tt))
request_is P plain number lane (requests.gives machine input) before after told on does =
    unless_is P plain (may_on lane (requests.gives machine input) before) before after told _ does on
request_is P plain number lane (requests.connects machine) before after told on does =
    unless_is P plain (may_on lane (requests.connects machine) before) before after told _ does on
request_is P plain number lane (requests.flows machine side count) before after told on does =
    unless_is P plain (may_on lane (requests.flows machine side count) before) before after told _ does
    on
request_is P plain number lane (requests.cuts gap) before after told on does =
    unless_is P plain (may_on lane (requests.cuts gap) before) before after told _ does on
request_is P plain number lane (requests.spoils machine side) before after told on does =
    unless_is P plain (may_on lane (requests.spoils machine side) before) before after told _ does on
request_is P plain number lane (requests.moves_on gap step) before after told on does =
    unless_is P plain (may_on lane (requests.moves_on gap step) before) before after told _ does on
request_is P plain number lane (requests.lies machine sensed) before after told on does =
    unless_is P plain (may_on lane (requests.lies machine sensed) before) before after told _ does on
request_is P plain number lane (requests.unsees machine side) before after told on does =
    unless_is P plain (may_on lane (requests.unsees machine side) before) before after told _ does on

-- EACH THING that a line does
pub line_is : (P : Happening → Type 0) → IsPlain P → (number : ℕ) (line : LaneLine)
    (before after : Lanes) (told : List LaneHappening)
    → ((lane : ℕ) (own : ScriptLine)
    → OnTrack lane (LineDoes number (request_of own)) before after told → EachOn P told)
    → ((machine from to id : ℕ) → Shifts number machine from to id before after told
    → EachOn P told)
    → LanesDo number line before after told → EachOn P told
line_is P plain number (lane_lines.On lane own) before after told on shift does =
    request_is P plain number lane (request_of own) before after told (on lane own) does
line_is P plain number (lane_lines.Lanes count) before after told on shift does =
    unless_is P plain (may_set before) before after told _ does
    (λ b. becomes_is P _ after (told_once (happenings.Lanes count)) told b (plain.lanes count, tt))
line_is P plain number (lane_lines.Shift machine from to id) before after told on shift does =
    unless_is P plain (may_shift machine from to id before) before after told _ does
    (shift machine from to id)

-- A line of a script of several lanes does one thing, and so does a run.
use Rattle.std.proofs.Common.{◌≡◌, ◌+◌, ◌-◌, ◌++◌, ◌==◌, ◌&&◌, ◌||◌, ℕ, zero, suc, Bool, true, false, List, [], ◌∷◌, Option, Some, None, Ok, Err, ap, get_or, length, map, not, refl, subst, sym, ◌∙◌}
use Rattle.std.specs.Prelude.{is_some, nat_le, nat_lt}
use Rattle.std.specs.List.{AllByRecursion, flat_map}
use Rattle.line_base.specs.declared.states.Side.{Side}
use Rattle.line_base.specs.declared.states.Side.TheVariants.{Entry, Exit}
use Rattle.board_record.specs.declared.record.Record.{Record}
use Rattle.board_record.specs.declared.sensed.Sensed.{Sensed}
use Rattle.line_script.specs.declared.line.LaneLine.{LaneLine}
use Rattle.line_script.specs.declared.line.LaneLine.TheVariants as lane_lines
use Rattle.line_script.specs.declared.line.ScriptLine.TheVariants as lines
use Rattle.line_world.specs.Boards.{boards_on}
use Rattle.line_world.specs.declared.moves.MoveNo.TheVariants as moves
use Rattle.node_core.specs.Desk.{Desk}
use Rattle.node_core.specs.Node.{NodeState, desk_of}
use Rattle.node_core.specs.Boards.{first_kept}
use Rattle.node_core.specs.Own.{own_of}
use Rattle.node_core.specs.Reads.{all_read}
use Rattle.node_core.specs.Shifts.{board_given}
use Rattle.node_core.specs.declared.input.Input.{Input}
use Rattle.node_core.specs.declared.input.Input.TheVariants as inputs
use Rattle.node_core.specs.declared.input.No.TheVariants as nos
use Rattle.node_core.specs.declared.lane.Body.{Body}
use Rattle.smema_bridge.specs.Levels.{BridgeLevels}
use Rattle.standings.specs.Marks.{marks_of}
use Rattle.line_report.specs.Lanes.{entries_on, told_on}
use Rattle.line_report.specs.Shifts.{shift_told}
use Rattle.line_report.specs.declared.happening.Happening.{Happening}
use Rattle.line_report.specs.declared.happening.Happening.TheVariants as happenings
use Rattle.line_report.specs.declared.happening.LaneHappening.{LaneHappening}
use Rattle.line_report.specs.declared.happening.Reason.TheVariants as reasons
use Rattle.line_step.specs.Lines.{LineDoes}
use Rattle.line_step.specs.Parts.{count_behind, where_may}
use Rattle.line_step.specs.Reasons.{May, has_link, if_there, may_add, may_cut, may_do, may_give_away, may_notice, may_stop, may_take_in, no_if}
use Rattle.line_step.specs.Requests.{Request, added_told, request_of}
use Rattle.line_step.specs.Requests as requests
use Rattle.line_step.specs.Shown.{ascending, between_shown, ids_marked, ids_owned, kept_shown, taken_below}
use Rattle.line_step.specs.State.{LineState, machine_in, marks_in, no_line, one_more}
use Rattle.line_step.specs.Steps.{MachineSteps, moment_of, unread_by}
use Rattle.line_step.proofs.LineOnce.{AreAllAlike, DoesOnce, FoundAlike, LinesAlike, add-alike, added-alike, away-alike, below-alike, both-alike, cut-alike, does-once, dry-once, found-alike, length-alike, like, more-alike, notice-alike, owned-alike, stop-alike, take_in-alike, there-alike}
use Rattle.step_rules.proofs.Once.{AreAlike, OneMeaning, desk-same}
use Rattle.law_lanes.specs.Lanes.{Lanes, beside, beside_nodes, counted, empty_track, has_lane, lines_of, no_lanes, track, tracks_with, unvouched_of, with_track}
use Rattle.law_lanes.specs.Reasons.{and_may, first_track, is_named, may_on, may_set, may_shift, stand_any}
use Rattle.law_lanes.specs.Shown.{all_shown, behind_first, front_shown, fronts_shown, marked_from, marked_on, marks_told, shown_on, standings_on, with_marks}
use Rattle.law_lanes.specs.Steps.{Becomes, LanesDo, LanesStep, OnTrack, RequestDoes, Shifts, Unless, copies, more_on, told_once}
use Rattle.law_lanes.specs.Parts.{IsLanePlay, IsLaneRun, LaneLineSteps, LanePart, LanePoint, all_points, all_told, cut_where, notice_where, parts_of, state_behind, stops_from, stops_on}
use Rattle.law_lanes.specs.Views.{has_lie_on, lanes_text, sum_of, summary_on, tells_lie_on}

-- ---- lines that are alike

abbrev pub AreTracksAlike : List LineState → List LineState → Type 0
AreTracksAlike [] [] = Unit {0}
AreTracksAlike [] (_ ∷ _) = ⊥
AreTracksAlike (_ ∷ _) [] = ⊥
AreTracksAlike (s ∷ ss) (t ∷ ts) = LinesAlike s t × AreTracksAlike ss ts

pub record LanesAlike (s t : Lanes) : Type 0 where
  pub tracks : AreTracksAlike s.tracks t.tracks
  pub spent : t.spent ≡ s.spent

-- what is done is one
pub record LanesOnce (s t : Lanes) (told other : List LaneHappening) : Type 0 where
  pub alike : LanesAlike s t
  pub same : other ≡ told

same-lines : (s t : LineState) → LinesAlike s t → t.lines ≡ s.lines
same-lines s t alike = ap (λ (b : LineState). b.lines) alike.same

same-unvouched : (s t : LineState) → LinesAlike s t → t.unvouched ≡ s.unvouched
same-unvouched s t alike = ap (λ (b : LineState). b.unvouched) alike.same

none-alike : LinesAlike no_line no_line
none-alike = record { machines = tt; same = refl }

empty-alike : (lines lines' : ℕ) (first first' : Option ℕ) → lines' ≡ lines → first' ≡ first
    → LinesAlike (record no_line { lines = lines; unvouched = first }) (record no_line { lines = lines'; unvouched = first' })
empty-alike lines lines' first first' counted vouched = record { machines = tt; same = λ i. record no_line { lines = counted i; unvouched = vouched i } }

get_or-alike : (ss ts : List LineState) (place : ℕ) (d e : LineState) → AreTracksAlike ss ts → LinesAlike d e → LinesAlike (get_or ss place d) (get_or ts place e)
get_or-alike [] [] place d e all default = default
get_or-alike [] (t ∷ ts) place d e all default = absurd all
get_or-alike (s ∷ ss) [] place d e all default = absurd all
get_or-alike (s ∷ ss) (t ∷ ts) zero d e all default = all.0
get_or-alike (s ∷ ss) (t ∷ ts) (suc place) d e all default = get_or-alike ss ts place d e all.1 default

many-alike : (ss ts : List LineState) → AreTracksAlike ss ts → length ts ≡ length ss
many-alike [] [] all = refl
many-alike [] (t ∷ ts) all = absurd all
many-alike (s ∷ ss) [] all = absurd all
many-alike (s ∷ ss) (t ∷ ts) all = ap suc (many-alike ss ts all.1)

front-alike : (s t : Lanes) → LanesAlike s t → LinesAlike (get_or s.tracks 0 no_line) (get_or t.tracks 0 no_line)
front-alike s t alike = get_or-alike s.tracks t.tracks 0 no_line no_line alike.tracks none-alike

pub lines-same : (s t : Lanes) → LanesAlike s t → lines_of t ≡ lines_of s
lines-same s t alike = same-lines _ _ (front-alike s t alike)

pub unvouched-same : (s t : Lanes) → LanesAlike s t → unvouched_of t ≡ unvouched_of s
unvouched-same s t alike = same-unvouched _ _ (front-alike s t alike)

bare-alike : (s t : Lanes) → LanesAlike s t → LinesAlike (empty_track s) (empty_track t)
bare-alike s t alike = empty-alike _ _ _ _ (lines-same s t alike) (unvouched-same s t alike)

track-alike : (lane : ℕ) (s t : Lanes) → LanesAlike s t → LinesAlike (track lane s) (track lane t)
track-alike lane s t alike = get_or-alike s.tracks t.tracks (lane - 1) (empty_track s) (empty_track t) alike.tracks (bare-alike s t alike)

-- ---- what the lanes share

node-beside : (a b c d : NodeState) → AreAlike a b → AreAlike c d → AreAlike (record c { maker = a.maker; supervised = a.supervised }) (record d { maker = b.maker; supervised = b.supervised })
node-beside a b c d own other = record {
  spent = other.spent;
  name = other.name;
  number = other.number;
  capacity = other.capacity;
  maker = own.maker;
  bridge = other.bridge;
  forecasts = other.forecasts;
  supervised = own.supervised;
  orders = other.orders;
  body = other.body;
  entry = other.entry;
  exit = other.exit;
}

nodes-beside : (as_ bs cs ds : List NodeState) → AreAllAlike as_ bs → AreAllAlike cs ds → AreAllAlike (beside_nodes as_ cs) (beside_nodes bs ds)
nodes-beside [] [] cs ds own other = other
nodes-beside [] (b ∷ bs) cs ds own other = absurd own
nodes-beside (a ∷ as_) [] cs ds own other = absurd own
nodes-beside (a ∷ as_) (b ∷ bs) [] [] own other = tt
nodes-beside (a ∷ as_) (b ∷ bs) [] (d ∷ ds) own other = absurd other
nodes-beside (a ∷ as_) (b ∷ bs) (c ∷ cs) [] own other = absurd other
nodes-beside (a ∷ as_) (b ∷ bs) (c ∷ cs) (d ∷ ds) own other = (node-beside a b c d own.0 other.0, nodes-beside as_ bs cs ds own.1 other.1)

beside-alike : (now now' other other' : LineState) → LinesAlike now now' → LinesAlike other other' → LinesAlike (beside now other) (beside now' other')
beside-alike now now' other other' own alike = record {
  machines = nodes-beside now.machines now'.machines other.machines other'.machines own.machines alike.machines;
  same = λ i. record (alike.same i) { machines = beside_nodes now'.machines other'.machines; unvouched = same-unvouched now now' own i };
}

all-beside : (now now' : LineState) (ss ts : List LineState) → LinesAlike now now' → AreTracksAlike ss ts → AreTracksAlike (map (beside now) ss) (map (beside now') ts)
all-beside now now' [] [] own all = tt
all-beside now now' [] (t ∷ ts) own all = absurd all
all-beside now now' (s ∷ ss) [] own all = absurd all
all-beside now now' (s ∷ ss) (t ∷ ts) own all = (beside-alike now now' s t own all.0, all-beside now now' ss ts own all.1)

with-alike : (before : ℕ) (now now' : LineState) (ss ts : List LineState) → LinesAlike now now' → AreTracksAlike ss ts → AreTracksAlike (tracks_with before now ss) (tracks_with before now' ts)
with-alike before now now' [] [] own all = tt
with-alike before now now' [] (t ∷ ts) own all = absurd all
with-alike before now now' (s ∷ ss) [] own all = absurd all
with-alike zero now now' (s ∷ ss) (t ∷ ts) own all = (own, all-beside now now' ss ts own all.1)
with-alike (suc before) now now' (s ∷ ss) (t ∷ ts) own all = (beside-alike now now' s t own all.0, with-alike before now now' ss ts own all.1)

put-alike : (lane : ℕ) (now now' : LineState) (s t : Lanes) → LinesAlike now now' → LanesAlike s t → LanesAlike (with_track lane now s) (with_track lane now' t)
put-alike lane now now' s t own alike = record { tracks = with-alike (lane - 1) now now' s.tracks t.tracks own alike.tracks; spent = alike.spent }

count-alike : (lines : ℕ) (s t : LineState) → LinesAlike s t → LinesAlike (record s { lines = lines }) (record t { lines = lines })
count-alike lines s t alike = record { machines = alike.machines; same = λ i. record (alike.same i) { lines = lines } }

counts-alike : (lines : ℕ) (ss ts : List LineState) → AreTracksAlike ss ts → AreTracksAlike (map (λ (t : LineState). record t { lines = lines }) ss) (map (λ (t : LineState). record t { lines = lines }) ts)
counts-alike lines [] [] all = tt
counts-alike lines [] (t ∷ ts) all = absurd all
counts-alike lines (s ∷ ss) [] all = absurd all
counts-alike lines (s ∷ ss) (t ∷ ts) all = (count-alike lines s t all.0, counts-alike lines ss ts all.1)

-- ---- reasons

-- of a line whose machines are others
may-like : (may : LineState → May) (s t : LineState) → LinesAlike s t → ((nodes : List NodeState) → AreAllAlike s.machines nodes → may (like s nodes) ≡ may s) → may t ≡ may s
may-like may s t alike same = ap may alike.same ∙ same t.machines alike.machines

named-there : (machine : ℕ) (s : LineState) (nodes : List NodeState) → AreAllAlike s.machines nodes → if_there (machine_in machine (like s nodes)) (λ node. may_do) ≡ if_there (machine_in machine s) (λ node. may_do)
named-there machine s nodes all = there-alike (machine_in machine s) (machine_in machine (like s nodes)) _ _ (found-alike machine s nodes all) (λ a b alike. refl)

named-gap : (gap : ℕ) (s : LineState) (nodes : List NodeState) → AreAllAlike s.machines nodes → no_if (not (has_link gap (like s nodes))) (reasons.Move moves.NoGap) may_do ≡ no_if (not (has_link gap s)) (reasons.Move moves.NoGap) may_do
named-gap gap s nodes all = rw (length-alike s.machines nodes all) refl

named-like : (request : Request) (s : LineState) (nodes : List NodeState) → AreAllAlike s.machines nodes → is_named request (like s nodes) ≡ is_named request s
named-like (requests.gives machine input) s nodes all = named-there machine s nodes all
named-like (requests.connects machine) s nodes all = named-there machine s nodes all
named-like (requests.flows machine side count) s nodes all = named-there machine s nodes all
named-like (requests.spoils machine side) s nodes all = named-there machine s nodes all
named-like (requests.lies machine sensed) s nodes all = named-there machine s nodes all
named-like (requests.unsees machine side) s nodes all = named-there machine s nodes all
named-like (requests.cuts gap) s nodes all = named-gap gap s nodes all
named-like (requests.moves_on gap step) s nodes all = named-gap gap s nodes all
named-like requests.nothing s nodes all = refl
named-like _ s nodes all = refl

lane-same : (lane : ℕ) (s t : Lanes) → LanesAlike s t → has_lane lane t ≡ has_lane lane s
lane-same lane s t alike = ap (λ (n : ℕ). nat_lt 0 lane && nat_le lane n) (many-alike s.tracks t.tracks alike.tracks)

on-same : (lane : ℕ) (request : Request) (s t : Lanes) → LanesAlike s t → may_on lane request t ≡ may_on lane request s
on-same lane request s t alike =
    let f : May → Bool → May = λ may there. and_may may (no_if (not there) (reasons.Node nos.NoLane) may_do) in
    ap (λ may. f may (has_lane lane t)) (may-like (is_named request) (first_track s) (first_track t) (track-alike 1 s t alike) (named-like request (first_track s)))
    ∙ ap (f (is_named request (first_track s))) (lane-same lane s t alike)

found-some : (x y : Option NodeState) → FoundAlike x y → is_some y ≡ is_some x
found-some None None found = refl
found-some None (Some b) found = absurd found
found-some (Some a) None found = absurd found
found-some (Some a) (Some b) found = refl

any-same : (s t : Lanes) → LanesAlike s t → stand_any t ≡ stand_any s
any-same s t alike =
    let one = track-alike 1 s t alike in
    ap (λ (b : LineState). is_some (machine_in 1 b)) one.same
    ∙ found-some (machine_in 1 (first_track s)) (machine_in 1 (like (first_track s) (first_track t).machines)) (found-alike 1 (first_track s) (first_track t).machines one.machines)

shift-same : (machine from to id : ℕ) (s t : Lanes) → LanesAlike s t → may_shift machine from to id t ≡ may_shift machine from to id s
shift-same machine from to id s t alike =
    let one = track-alike 1 s t alike in
    let given = track-alike from s t alike in
    let taken = track-alike to s t alike in
    let lanes = λ (u : Lanes). has_lane from u && has_lane to u in
    let rest : Bool → May → Option BridgeLevels → May = λ there may bridge.
    no_if (not there) (reasons.Node nos.NoLane)
    (no_if (is_some bridge) (reasons.Node nos.Bridge)
    (no_if (from == to) (reasons.Node nos.Same) may)) in
    let may : Lanes → May = λ u. and_may (may_give_away machine id (track from u)) (may_take_in machine (track to u)) in
    let there : lanes t ≡ lanes s = ap (λ b. b && has_lane to t) (lane-same from s t alike) ∙ ap (λ b. has_lane from s && b) (lane-same to s t alike) in
    let both : may t ≡ may s =
    ap (λ m. and_may m (may_take_in machine (track to t))) (may-like (may_give_away machine id) (track from s) (track from t) given (away-alike machine id (track from s)))
    ∙ ap (and_may (may_give_away machine id (track from s))) (may-like (may_take_in machine) (track to s) (track to t) taken (take_in-alike machine (track to s))) in
    ap (λ (b : LineState). if_there (machine_in machine b) (λ node. rest (lanes t) (may t) node.bridge)) one.same
    ∙ there-alike (machine_in machine (first_track s)) (machine_in machine (like (first_track s) (first_track t).machines)) _ _ (found-alike machine (first_track s) (first_track t).machines one.machines)
    (λ a b same. ap (λ there. rest there (may t) b.bridge) there ∙ ap (λ m. rest (lanes s) m b.bridge) both ∙ ap (rest (lanes s) (may s)) same.bridge)

-- ---- what a line does

becomes-once : (next next' s t : Lanes) (what what' told other : List LaneHappening) → LanesAlike next next' → what' ≡ what → Becomes next what s told → Becomes next' what' t other → LanesOnce s t told other
becomes-once next next' s t what what' told other alike same one two =
    let P : Lanes → Type 0 = λ a. LanesAlike a next' in
    let Q : Lanes → Type 0 = λ b. LanesAlike s b in
    record { alike = subst Q (sym two.after_is) (subst P (sym one.after_is) alike); same = two.told_is ∙ same ∙ sym one.told_is }

unless-both : (may : May) (s t after after' : Lanes) (told other : List LaneHappening) (Done Done' : Type 0) → LanesAlike s t
    → (Done → Done' → LanesOnce after after' told other) → Unless may s after told Done → Unless may t after' other Done' → LanesOnce after after' told other
unless-both (Ok _) s t after after' told other Done Done' alike once one two = once one two
unless-both (Err reason) s t after after' told other Done Done' alike once one two =
    becomes-once s t after after' (told_once (happenings.No reason)) (told_once (happenings.No reason)) told other alike refl one two

unless-once : (may may' : May) (s t after after' : Lanes) (told other : List LaneHappening) (Done Done' : Type 0) → LanesAlike s t → may' ≡ may
    → (Done → Done' → LanesOnce after after' told other) → Unless may s after told Done → Unless may' t after' other Done' → LanesOnce after after' told other
unless-once may may' s t after after' told other Done Done' alike same once one two =
    let P : May → Type 0 = λ m. Unless m t after' other Done' in
    unless-both may s t after after' told other Done Done' alike once one (subst P same two)

track-once : OneMeaning → (number lane : ℕ) (request : Request) (s t after after' : Lanes) (told other : List LaneHappening) → LanesAlike s t
    → OnTrack lane (LineDoes number request) s after told → OnTrack lane (LineDoes number request) t after' other → LanesOnce after after' told other
track-once law number lane request s t after after' told other alike one two =
    let own = track-alike lane s t alike in
    let P : LineState → Type 0 = λ b. LineDoes number request b two.next two.done in
    let once = does-once law number request (track lane s) one.next (track lane t).machines two.next one.done two.done own.machines one.does (subst P own.same two.does) in
    becomes-once (with_track lane one.next s) (with_track lane two.next t) after after' (told_on lane one.done) (told_on lane two.done) told other
    (put-alike lane one.next two.next s t once.alike alike) (ap (told_on lane) once.same)
    (record { after_is = one.after_is; told_is = one.told_is }) (record { after_is = two.after_is; told_is = two.told_is })

more-track : (lane : ℕ) (is_bridge : Bool) (capacity used : ℕ) (s t : LineState) → LinesAlike s t → LinesAlike (one_more lane is_bridge capacity used s) (one_more lane is_bridge capacity used t)
more-track lane is_bridge capacity used s t alike =
    let P : LineState → Type 0 = λ b. LinesAlike (one_more lane is_bridge capacity used s) (one_more lane is_bridge capacity used b) in
    subst P (sym alike.same) (more-alike lane is_bridge capacity used s t.machines alike.machines)

more-tracks : (lane : ℕ) (is_bridge : Bool) (capacity used : ℕ) (ss ts : List LineState) → AreTracksAlike ss ts → AreTracksAlike (more_on lane is_bridge capacity used ss) (more_on lane is_bridge capacity used ts)
more-tracks lane is_bridge capacity used [] [] all = tt
more-tracks lane is_bridge capacity used [] (t ∷ ts) all = absurd all
more-tracks lane is_bridge capacity used (s ∷ ss) [] all = absurd all
more-tracks lane is_bridge capacity used (s ∷ ss) (t ∷ ts) all = (more-track lane is_bridge capacity used s t all.0, more-tracks (lane + 1) is_bridge capacity used ss ts all.1)

copies-alike : (count : ℕ) (s t : LineState) → LinesAlike s t → AreTracksAlike (copies count s) (copies count t)
copies-alike zero s t alike = tt
copies-alike (suc more) s t alike = (alike, copies-alike more s t alike)

-- ---- a board goes to another lane

step-dry : (number machine : ℕ) (input : Input) (s t after after' : LineState) (told other : List Happening) → LinesAlike s t
    → ((nodes : List NodeState) (u : LineState) → AreAllAlike s.machines nodes → MachineSteps number machine input (like s nodes) u other → DoesOnce after u told other)
    → MachineSteps number machine input t after' other → DoesOnce after after' told other
step-dry number machine input s t after after' told other alike once two =
    let P : LineState → Type 0 = λ b. MachineSteps number machine input b after' other in
    once t.machines after' alike.machines (subst P alike.same two)

gives-once : (number machine id to : ℕ) (s t after after' : LineState) (told other : List Happening) → LinesAlike s t
    → MachineSteps number machine (inputs.Gives id to) s after told → MachineSteps number machine (inputs.Gives id to) t after' other → DoesOnce after after' told other
gives-once number machine id to s t after after' told other alike one two =
    step-dry number machine (inputs.Gives id to) s t after after' told other alike
    (λ nodes u all steps. dry-once number machine (inputs.Gives id to) s after nodes u told other tt all one steps) two

gets-once : (number machine : ℕ) (board board' : Record) (s t after after' : LineState) (told other : List Happening) → board' ≡ board → LinesAlike s t
    → MachineSteps number machine (inputs.Gets board) s after told → MachineSteps number machine (inputs.Gets board') t after' other → DoesOnce after after' told other
gets-once number machine board board' s t after after' told other same alike one two =
    let P : Record → Type 0 = λ r. MachineSteps number machine (inputs.Gets r) t after' other in
    step-dry number machine (inputs.Gets board) s t after after' told other alike
    (λ nodes u all steps. dry-once number machine (inputs.Gets board) s after nodes u told other tt all one steps) (subst P same two)

-- the board is the same
board-same : (a b : NodeState) (unread unread' : List Sensed) (number id : ℕ) → AreAlike a b → unread' ≡ unread → board_given b unread' (moment_of number) id ≡ board_given a unread (moment_of number) id
board-same a b unread unread' number id alike same =
    let f : Desk → List Sensed → Body → Option Record = λ desk events body. first_kept id (all_read desk events body).body.kept in
    ap (λ desk. f desk unread' b.lane.body) (desk-same a b (moment_of number) alike)
    ∙ ap (λ events. f (desk_of a (moment_of number)) events b.lane.body) same
    ∙ ap (f (desk_of a (moment_of number)) unread) alike.body

some-same : (x y : Option Record) (a b : Record) → x ≡ Some a → y ≡ Some b → y ≡ x → b ≡ a
some-same x y a b is is' same = cc

node-found : (number machine : ℕ) (input input' : Input) (s t after after' : LineState) (told other : List Happening) → LinesAlike s t
    → (one : MachineSteps number machine input s after told) (two : MachineSteps number machine input' t after' other) → AreAlike one.node two.node
node-found number machine input input' s t after after' told other alike one two =
    both-alike (machine_in machine s) (machine_in machine (like s t.machines)) one.node two.node (found-alike machine s t.machines alike.machines) one.there
    (ap (machine_in machine) (sym alike.same) ∙ two.there)

shifts-once : (number machine from to id : ℕ) (s t after after' : Lanes) (told other : List LaneHappening) → LanesAlike s t
    → Shifts number machine from to id s after told → Shifts number machine from to id t after' other → LanesOnce after after' told other
shifts-once number machine from to id s t after after' told other alike one two =
    let own = track-alike from s t alike in
    let gave = gives-once number machine id to (track from s) (track from t) one.gave two.gave one.given two.given own one.gives two.gives in
    let nodes = node-found number machine (inputs.Gives id to) (inputs.Gives id to) (track from s) (track from t) one.gave two.gave one.given two.given own one.gives two.gives in
    let same = board-same one.gives.node two.gives.node (unread_by machine (track from s).world) (unread_by machine (track from t).world) number id nodes (ap (λ (b : LineState). unread_by machine b.world) own.same) in
    let board = some-same _ _ one.board two.board one.is two.is same in
    let between = put-alike from one.gave two.gave s t gave.alike alike in
    let other_track = track-alike to (with_track from one.gave s) (with_track from two.gave t) between in
    let got = gets-once number machine one.board two.board (track to (with_track from one.gave s)) (track to (with_track from two.gave t)) one.got two.got one.taken two.taken board other_track one.gets two.gets in
    becomes-once _ _ after after' (shift_told from to one.given one.taken) (shift_told from to two.given two.taken) told other
    (put-alike to one.got two.got (with_track from one.gave s) (with_track from two.gave t) got.alike between)
    (ap (λ (x : List Happening). shift_told from to x two.taken) gave.same ∙ ap (shift_told from to one.given) got.same)
    (record { after_is = one.after_is; told_is = one.told_is }) (record { after_is = two.after_is; told_is = two.told_is })

-- ---- show

abbrev AreNodesAlike : List (List NodeState) → List (List NodeState) → Type 0
AreNodesAlike [] [] = Unit {0}
AreNodesAlike [] (_ ∷ _) = ⊥
AreNodesAlike (_ ∷ _) [] = ⊥
AreNodesAlike (xs ∷ xss) (ys ∷ yss) = AreAllAlike xs ys × AreNodesAlike xss yss

tracks-nodes : (ss ts : List LineState) → AreTracksAlike ss ts → AreNodesAlike (map (λ (t : LineState). t.machines) ss) (map (λ (t : LineState). t.machines) ts)
tracks-nodes [] [] all = tt
tracks-nodes [] (t ∷ ts) all = absurd all
tracks-nodes (s ∷ ss) [] all = absurd all
tracks-nodes (s ∷ ss) (t ∷ ts) all = (all.0.machines, tracks-nodes ss ts all.1)

front-same : (lane machine : ℕ) (xs ys : List NodeState) → AreAllAlike xs ys → front_shown lane machine ys ≡ front_shown lane machine xs
front-same lane machine [] [] all = refl
front-same lane machine [] (y ∷ ys) all = absurd all
front-same lane machine (x ∷ xs) [] all = absurd all
front-same lane machine (x ∷ xs) (y ∷ ys) all =
    let f : Body → Option ℕ → List LaneHappening = λ body below. told_on lane (kept_shown machine body.kept ++ between_shown machine (own_of body).held below) in
    ap (λ body. f body (taken_below ys)) all.0.body ∙ ap (f x.lane.body) (below-alike xs ys all.1)

fronts-same : (lane machine : ℕ) (xss yss : List (List NodeState)) → AreNodesAlike xss yss → fronts_shown lane machine yss ≡ fronts_shown lane machine xss
fronts-same lane machine [] [] all = refl
fronts-same lane machine [] (ys ∷ yss) all = absurd all
fronts-same lane machine (xs ∷ xss) [] all = absurd all
fronts-same lane machine (xs ∷ xss) (ys ∷ yss) all =
    ap (λ told. told ++ fronts_shown (lane + 1) machine yss) (front-same lane machine xs ys all.0)
    ∙ ap (λ told. front_shown lane machine xs ++ told) (fronts-same (lane + 1) machine xss yss all.1)

behind-alike : (xs ys : List NodeState) → AreAllAlike xs ys → AreAllAlike (behind_first xs) (behind_first ys)
behind-alike [] [] all = tt
behind-alike [] (y ∷ ys) all = absurd all
behind-alike (x ∷ xs) [] all = absurd all
behind-alike (x ∷ xs) (y ∷ ys) all = all.1

behinds-alike : (xss yss : List (List NodeState)) → AreNodesAlike xss yss → AreNodesAlike (map behind_first xss) (map behind_first yss)
behinds-alike [] [] all = tt
behinds-alike [] (ys ∷ yss) all = absurd all
behinds-alike (xs ∷ xss) [] all = absurd all
behinds-alike (xs ∷ xss) (ys ∷ yss) all = (behind-alike xs ys all.0, behinds-alike xss yss all.1)

all-same : (count machine : ℕ) (xss yss : List (List NodeState)) → AreNodesAlike xss yss → all_shown count machine yss ≡ all_shown count machine xss
all-same zero machine xss yss all = refl
all-same (suc more) machine xss yss all =
    ap (λ told. told ++ all_shown more (machine + 1) (map behind_first yss)) (fronts-same 1 machine xss yss all)
    ∙ ap (λ told. fronts_shown 1 machine xss ++ told) (all-same more (machine + 1) (map behind_first xss) (map behind_first yss) (behinds-alike xss yss all))

shown-same : (s t : Lanes) → LanesAlike s t → shown_on t ≡ shown_on s
shown-same s t alike =
    let one = track-alike 1 s t alike in
    ap (λ count. all_shown count 1 (map (λ (u : LineState). u.machines) t.tracks)) (length-alike (first_track s).machines (first_track t).machines one.machines)
    ∙ all-same (length (first_track s).machines) 1 (map (λ (u : LineState). u.machines) s.tracks) (map (λ (u : LineState). u.machines) t.tracks) (tracks-nodes s.tracks t.tracks alike.tracks)

-- ---- the forms

request-once : OneMeaning → (number lane : ℕ) (request : Request) (s t after after' : Lanes) (told other : List LaneHappening) → LanesAlike s t
    → RequestDoes number lane request s after told → RequestDoes number lane request t after' other → LanesOnce after after' told other
request-once law number lane requests.nothing s t after after' told other alike one two = becomes-once s t after after' [] [] told other alike refl one two
request-once law number lane requests.shows s t after after' told other alike one two = becomes-once s t after after' (shown_on s) (shown_on t) told other alike (shown-same s t alike) one two
request-once law number lane (requests.adds own is_bridge capacity used) s t after after' told other alike one two =
    let first = track-alike 1 s t alike in
    unless-once (may_add (first_track s)) (may_add (first_track t)) s t after after' told other _ _ alike (may-like may_add (first_track s) (first_track t) first (add-alike (first_track s)))
    (becomes-once _ _ after after' _ _ told other (record { tracks = more-tracks 1 is_bridge capacity used s.tracks t.tracks alike.tracks; spent = alike.spent })
    (ap (told_on 1) (ap (added_told is_bridge capacity) first.same ∙ added-alike is_bridge capacity (first_track s) (first_track t).machines first.machines))) one two
request-once law number lane (requests.stops machine) s t after after' told other alike one two =
    let first = track-alike 1 s t alike in
    unless-once (may_stop machine (first_track s)) (may_stop machine (first_track t)) s t after after' told other _ _ alike (may-like (may_stop machine) (first_track s) (first_track t) first (stop-alike machine (first_track s)))
    (becomes-once s t after after' _ _ told other alike refl) one two
request-once law number lane (requests.gives machine input) s t after after' told other alike one two = unless-once _ _ s t after after' told other _ _ alike (on-same lane (requests.gives machine input) s t alike) (track-once law number lane (requests.gives machine input) s t after after' told other alike) one two
request-once law number lane request s t after after' told other alike one two = unless-once _ _ s t after after' told other _ _ alike (on-same lane request s t alike) (track-once law number lane request s t after after' told other alike) one two

do-once : OneMeaning → (number : ℕ) (line : LaneLine) (s t after after' : Lanes) (told other : List LaneHappening) → LanesAlike s t
    → LanesDo number line s after told → LanesDo number line t after' other → LanesOnce after after' told other
do-once law number (lane_lines.On lane line) s t after after' told other alike one two = request-once law number lane (request_of line) s t after after' told other alike one two
do-once law number (lane_lines.Lanes count) s t after after' told other alike one two =
    unless-once (may_set s) (may_set t) s t after after' told other _ _ alike (ap (λ any. no_if any reasons.MachinesStand may_do) (any-same s t alike))
    (becomes-once _ _ after after' _ _ told other (record { tracks = copies-alike count (empty_track s) (empty_track t) (bare-alike s t alike); spent = alike.spent }) refl) one two
do-once law number (lane_lines.Shift machine from to id) s t after after' told other alike one two =
    unless-once _ _ s t after after' told other _ _ alike (shift-same machine from to id s t alike) (shifts-once number machine from to id s t after after' told other alike) one two

-- ---- the standings

marks-same : (id : ℕ) (s t : LineState) → LinesAlike s t → marks_in t id ≡ marks_in s id
marks-same id s t alike = ap (λ (b : LineState). marks_in b id) alike.same ∙ ap (λ own. marks_of own id) (owned-alike s.machines t.machines alike.machines)

marked-same : (id lane : ℕ) (ss ts : List LineState) → AreTracksAlike ss ts → marked_from id lane ts ≡ marked_from id lane ss
marked-same id lane [] [] all = refl
marked-same id lane [] (t ∷ ts) all = absurd all
marked-same id lane (s ∷ ss) [] all = absurd all
marked-same id lane (s ∷ ss) (t ∷ ts) all =
    ap (λ marks. with_marks lane marks (marked_from id (lane + 1) ts)) (marks-same id s t all.0)
    ∙ ap (with_marks lane (marks_in s id)) (marked-same id (lane + 1) ss ts all.1)

ids-same : (s t : LineState) → LinesAlike s t → ids_marked t ≡ ids_marked s
ids-same s t alike = ap ids_marked alike.same ∙ ap (flat_map ids_owned) (owned-alike s.machines t.machines alike.machines)

all_ids-same : (ss ts : List LineState) → AreTracksAlike ss ts → flat_map ids_marked ts ≡ flat_map ids_marked ss
all_ids-same [] [] all = refl
all_ids-same [] (t ∷ ts) all = absurd all
all_ids-same (s ∷ ss) [] all = absurd all
all_ids-same (s ∷ ss) (t ∷ ts) all = ap (λ ids. ids ++ flat_map ids_marked ts) (ids-same s t all.0) ∙ ap (λ ids. ids_marked s ++ ids) (all_ids-same ss ts all.1)

-- a list of happenings by another function of ids, the same at each
each-same : (f g : ℕ → List LaneHappening) (ids : List ℕ) → ((id : ℕ) → g id ≡ f id) → flat_map g ids ≡ flat_map f ids
each-same f g [] same = refl
each-same f g (id ∷ ids) same = ap (λ told. told ++ flat_map g ids) (same id) ∙ ap (λ told. f id ++ told) (each-same f g ids same)

standings-same : (before before' after after' : Lanes) → LanesAlike before before' → LanesAlike after after' → standings_on before' after' ≡ standings_on before after
standings-same before before' after after' was now =
    let ids : Lanes → Lanes → List ℕ = λ a b. ascending (flat_map ids_marked a.tracks ++ flat_map ids_marked b.tracks) in
    let told : Lanes → Lanes → ℕ → List LaneHappening = λ a b id. marks_told id (marked_on a id) (marked_on b id) in
    let same : ids before' after' ≡ ids before after =
    ap (λ xs. ascending (xs ++ flat_map ids_marked after'.tracks)) (all_ids-same before.tracks before'.tracks was.tracks)
    ∙ ap (λ ys. ascending (flat_map ids_marked before.tracks ++ ys)) (all_ids-same after.tracks after'.tracks now.tracks) in
    ap (flat_map (told before' after')) same
    ∙ each-same (told before after) (told before' after') (ids before after)
    (λ id. ap (λ marks. marks_told id marks (marked_on after' id)) (marked-same id 1 before.tracks before'.tracks was.tracks) ∙ ap (marks_told id (marked_on before id)) (marked-same id 1 after.tracks after'.tracks now.tracks))

-- the count of lines is one, where it is the same behind both
counts-far : (n m : ℕ) (ss ts : List LineState) → AreTracksAlike ss ts
    → (get_or (map (λ (t : LineState). record t { lines = m }) ts) 0 no_line).lines ≡ (get_or (map (λ (t : LineState). record t { lines = n }) ss) 0 no_line).lines
    → AreTracksAlike (map (λ (t : LineState). record t { lines = n }) ss) (map (λ (t : LineState). record t { lines = m }) ts)
counts-far n m [] [] all same = tt
counts-far n m [] (t ∷ ts) all same = absurd all
counts-far n m (s ∷ ss) [] all same = absurd all
counts-far n m (s ∷ ss) (t ∷ ts) all same =
    let P : ℕ → Type 0 = λ k. AreTracksAlike (map (λ (u : LineState). record u { lines = n }) (s ∷ ss)) (map (λ (u : LineState). record u { lines = k }) (t ∷ ts)) in
    subst P (sym same) (counts-alike n (s ∷ ss) (t ∷ ts) all)

-- ---- A LINE STEP does one thing, however far the count of lines goes on
pub step-once : OneMeaning → (number : ℕ) (line : LaneLine) (s t after after' : Lanes) (told other : List LaneHappening) → LanesAlike s t → lines_of after' ≡ lines_of after
    → LanesStep number line s after told → LanesStep number line t after' other → LanesOnce after after' told other
step-once law number line s t after after' told other alike far one two =
    let once = do-once law number line s t one.next two.next one.done two.done alike one.does two.does in
    let as_far : lines_of (counted two.lines two.next) ≡ lines_of (counted one.lines one.next) = sym (ap lines_of two.after_is) ∙ far ∙ ap lines_of one.after_is in
    let count : LanesAlike (counted one.lines one.next) (counted two.lines two.next) =
    record { tracks = counts-far one.lines two.lines one.next.tracks two.next.tracks once.alike.tracks as_far; spent = once.alike.spent } in
    becomes-once _ _ after after' _ _ told other count
    (ap (λ done. done ++ standings_on t two.next) once.same ∙ ap (λ standings. one.done ++ standings) (standings-same s t one.next two.next alike once.alike))
    (record { after_is = one.after_is; told_is = one.told_is }) (record { after_is = two.after_is; told_is = two.told_is })

-- ---- a part is the same line, whatever bytes wait on a side that has no connection

pub record IsSteady (part : LanePart) : Type 0 where
  pub same : (s t : Lanes) → LanesAlike s t → part.line t ≡ part.line s

cut-steady : (lane gap : ℕ) (s t : Lanes) → LanesAlike s t → cut_where lane gap t ≡ cut_where lane gap s
cut-steady lane gap s t alike =
    ap (λ (may : May). lane_lines.On lane (where_may may (lines.Cut gap))) (may-like (may_cut gap) (track lane s) (track lane t) (track-alike lane s t alike) (cut-alike gap (track lane s)))

notice-steady : (lane machine : ℕ) (side : Side) (s t : Lanes) → LanesAlike s t → notice_where lane machine side t ≡ notice_where lane machine side s
notice-steady lane machine side s t alike =
    ap (λ (may : May). lane_lines.On lane (where_may may (lines.Notice machine side))) (may-like (may_notice machine side) (track lane s) (track lane t) (track-alike lane s t alike) (notice-alike machine side (track lane s)))

stops-steady : (lane machine : ℕ) (ends : Bool) → AllByRecursion IsSteady (stops_on lane machine ends)
stops-steady lane machine ends =
    let above : IsSteady (record { line = cut_where lane (machine - 1); ends = false }) = record { same = cut-steady lane (machine - 1) } in
    let below : IsSteady (record { line = cut_where lane machine; ends = false }) = record { same = cut-steady lane machine } in
    let entry : IsSteady (record { line = notice_where lane machine Entry; ends = false }) = record { same = notice-steady lane machine Entry } in
    let exit : IsSteady (record { line = notice_where lane machine Exit; ends = ends }) = record { same = notice-steady lane machine Exit } in
    (above, (below, (entry, (exit, tt))))

steady-both : (parts others : List LanePart) → AllByRecursion IsSteady parts → AllByRecursion IsSteady others → AllByRecursion IsSteady (parts ++ others)
steady-both [] others one two = two
steady-both (part ∷ parts) others one two = (one.0, steady-both parts others one.1 two)

from-steady : (more lane machine : ℕ) → AllByRecursion IsSteady (stops_from lane more machine)
from-steady zero lane machine = stops-steady lane machine true
from-steady (suc more) lane machine = steady-both (stops_on lane machine false) (stops_from (lane + 1) more machine) (stops-steady lane machine false) (from-steady more (lane + 1) machine)

parts-steady : (lanes : ℕ) (line : LaneLine) → AllByRecursion IsSteady (parts_of lanes line)
parts-steady lanes (lane_lines.On lane (lines.Stop machine)) =
    let told : IsSteady (record { line = λ s. lane_lines.On 1 (lines.Stop machine); ends = false }) = record { same = λ s t alike. refl } in
    (told, from-steady (lanes - 1) 1 machine)
parts-steady lanes (lane_lines.On lane _) = (record { same = λ s t alike. refl }, tt)
parts-steady lanes (lane_lines.Lanes count) = (record { same = λ s t alike. refl }, tt)
parts-steady lanes (lane_lines.Shift machine from to id) = (record { same = λ s t alike. refl }, tt)

-- ---- A RUN is told of in one text

pub record PlaysOnce (s t : Lanes) (points others : List LanePoint) : Type 0 where
  pub alike : LanesAlike (state_behind s points) (state_behind t others)
  pub told : all_told others ≡ all_told points
  pub lied : has_lie_on others ≡ has_lie_on points
  pub text : (number : ℕ) (rest : List LanePoint) (rest' : List LanePoint)
      → ((n : ℕ) → lanes_text n rest' ≡ lanes_text n rest)
      → lanes_text number (others ++ rest') ≡ lanes_text number (points ++ rest)

pub play-once : OneMeaning → (s t : Lanes) (parts : List LanePart) (points others : List LanePoint) → AllByRecursion IsSteady parts → LanesAlike s t → IsLanePlay s parts points → IsLanePlay t parts others → PlaysOnce s t points others
play-once law s t [] [] [] steady alike one two = record { alike = alike; told = refl; lied = refl; text = λ number rest rest' same. same number }
play-once law s t [] (point ∷ points) others steady alike one two = absurd one
play-once law s t [] [] (other ∷ others) steady alike one two = absurd two
play-once law s t (part ∷ parts) [] others steady alike one two = absurd one
play-once law s t (part ∷ parts) (point ∷ points) [] steady alike one two = absurd two
play-once law s t (part ∷ parts) (point ∷ points) (other ∷ others) steady alike one two =
    let same_count : lines_of t ≡ lines_of s = lines-same s t alike in
    let as_far : lines_of other.after ≡ lines_of point.after = two.0.counted ∙ ap (count_behind part.ends) same_count ∙ sym one.0.counted in
    let P : ℕ → Type 0 = λ n. LanesStep (n + 1) (part.line t) t other.after other.told in
    let Q : LaneLine → Type 0 = λ line. LanesStep (lines_of s + 1) line t other.after other.told in
    let steps : LanesStep (lines_of s + 1) (part.line s) t other.after other.told = subst Q (steady.0.same s t alike) (subst P same_count two.0.steps) in
    let first = step-once law (lines_of s + 1) (part.line s) s t point.after other.after point.told other.told alike as_far one.0.steps steps in
    let later = play-once law point.after other.after parts points others steady.1 first.alike one.1 two.1 in
    record {
      alike = later.alike;
      told = ap (λ told. told ++ all_told others) first.same ∙ ap (λ told. point.told ++ told) later.told;
      lied = ap (λ told. tells_lie_on told || has_lie_on others) first.same ∙ ap (λ lied. tells_lie_on point.told || lied) later.lied;
      text = λ number rest rest' same. ap (λ told. entries_on number told ++ lanes_text (lines_of other.after + 1) (others ++ rest')) first.same
          ∙ ap (λ n. entries_on number point.told ++ lanes_text (n + 1) (others ++ rest')) as_far
          ∙ ap (λ text. entries_on number point.told ++ text) (later.text (lines_of point.after + 1) rest rest' same);
    }

-- ONE LINE of a script
pub line-once : OneMeaning → (line : LaneLine) (s t after after' : Lanes) (told other : List LaneHappening) → LanesAlike s t → LaneLineSteps line s after told → LaneLineSteps line t after' other → LanesOnce after after' told other
line-once law line s t after after' told other alike one two =
    let P : ℕ → Type 0 = λ n. IsLanePlay t (parts_of n line) two.points in
    let plays : IsLanePlay t (parts_of (length s.tracks) line) two.points = subst P (many-alike s.tracks t.tracks alike.tracks) two.plays in
    let once = play-once law s t (parts_of (length s.tracks) line) one.points two.points (parts-steady (length s.tracks) line) alike one.plays plays in
    becomes-once (state_behind s one.points) (state_behind t two.points) after after' (all_told one.points) (all_told two.points) told other once.alike once.told
    (record { after_is = sym one.behind; told_is = one.told_is }) (record { after_is = sym two.behind; told_is = two.told_is })

pub record RunsOnce (s t : Lanes) (points others : List LanePoint) : Type 0 where
  pub alike : LanesAlike (state_behind s points) (state_behind t others)
  pub lied : has_lie_on others ≡ has_lie_on points
  pub text : (number : ℕ) → lanes_text number others ≡ lanes_text number points

behind-both : (s : Lanes) (points others : List LanePoint) → state_behind s (points ++ others) ≡ state_behind (state_behind s points) others
behind-both s [] others = refl
behind-both s (point ∷ points) others = behind-both point.after points others

lied-both : (points others : List LanePoint) → has_lie_on (points ++ others) ≡ (has_lie_on points || has_lie_on others)
lied-both [] others = refl
lied-both (point ∷ points) others = ap (λ lied. tells_lie_on point.told || lied) (lied-both points others) ∙ sym (or-assoc (tells_lie_on point.told) (has_lie_on points) (has_lie_on others)) where
  or-assoc : (a b c : Bool) → ((a || b) || c) ≡ (a || (b || c))
  or-assoc true b c = refl
  or-assoc false b c = refl

pub run-once : OneMeaning → (s t : Lanes) (asked : List LaneLine) (done others : List (List LanePoint)) → LanesAlike s t → IsLaneRun s asked done → IsLaneRun t asked others → RunsOnce s t (all_points done) (all_points others)
run-once law s t [] [] [] alike one two = record { alike = alike; lied = refl; text = λ number. refl }
run-once law s t [] (own ∷ done) others alike one two = absurd one
run-once law s t [] [] (own ∷ others) alike one two = absurd two
run-once law s t (line ∷ asked) [] others alike one two = absurd one
run-once law s t (line ∷ asked) (own ∷ done) [] alike one two = absurd two
run-once law s t (line ∷ asked) (own ∷ done) (other ∷ others) alike one two =
    let P : ℕ → Type 0 = λ n. IsLanePlay t (parts_of n line) other in
    let plays : IsLanePlay t (parts_of (length s.tracks) line) other = subst P (many-alike s.tracks t.tracks alike.tracks) two.0 in
    let first = play-once law s t (parts_of (length s.tracks) line) own other (parts-steady (length s.tracks) line) alike one.0 plays in
    let later = run-once law (state_behind s own) (state_behind t other) asked done others first.alike one.1 two.1 in
    let A : Lanes → Type 0 = λ a. LanesAlike a (state_behind t (other ++ all_points others)) in
    let B : Lanes → Type 0 = λ b. LanesAlike (state_behind (state_behind s own) (all_points done)) b in
    record {
      alike = subst A (sym (behind-both s own (all_points done))) (subst B (sym (behind-both t other (all_points others))) later.alike);
      lied = lied-both other (all_points others) ∙ ap (λ lied. lied || has_lie_on (all_points others)) first.lied ∙ ap (λ lied. has_lie_on own || lied) later.lied ∙ sym (lied-both own (all_points done));
      text = λ number. first.text number (all_points done) (all_points others) later.text;
    }

-- ---- what is read off a line

sum-same : (count : LineState → ℕ) (ss ts : List LineState) → ((s t : LineState) → LinesAlike s t → count t ≡ count s) → AreTracksAlike ss ts → sum_of count ts ≡ sum_of count ss
sum-same count [] [] same all = refl
sum-same count [] (t ∷ ts) same all = absurd all
sum-same count (s ∷ ss) [] same all = absurd all
sum-same count (s ∷ ss) (t ∷ ts) same all = ap (λ n. n + sum_of count ts) (same s t all.0) ∙ ap (λ n. count s + n) (sum-same count ss ts same all.1)

pub summary-same : (s t : Lanes) → LanesAlike s t → summary_on t ≡ summary_on s
summary-same s t alike = λ i. record {
  lines = lines-same s t alike i;
  boards = sum-same (λ (u : LineState). length (boards_on u.world.floor)) s.tracks t.tracks (λ a b one. ap (λ (u : LineState). length (boards_on u.world.floor)) one.same) alike.tracks i;
  opened = sum-same (λ (u : LineState). u.world.opened) s.tracks t.tracks (λ a b one. ap (λ (u : LineState). u.world.opened) one.same) alike.tracks i;
  settled = sum-same (λ (u : LineState). u.world.settled) s.tracks t.tracks (λ a b one. ap (λ (u : LineState). u.world.settled) one.same) alike.tracks i;
  unvouched = unvouched-same s t alike i;
}

pub none-same : LanesAlike no_lanes no_lanes
none-same = record { tracks = (none-alike, tt); spent = refl }

-- What a line over several lanes does tells no standing: those that changed are told behind it.
use Rattle.std.proofs.Common.{sym, subst, ℕ, ◌+◌, ◌==◌, Bool, true, false, List, [], ◌∷◌, ◌++◌, Option, Some, None, Result, Ok, Err}
use Rattle.std.specs.Prelude.{if◌then◌else◌}
use Rattle.std.specs.List.{AllByRecursion}
use Rattle.hermes_horizontal.specs.declared.message.Message.{Message}
use Rattle.hermes_horizontal.specs.Canonical.{canonical}
use Rattle.board_record.specs.declared.record.Record.{Record}
use Rattle.line_base.specs.declared.states.Side.{Side}
use Rattle.line_link.specs.Link.{answer_sent, sent_of, spoil_sent}
use Rattle.line_link.specs.declared.link.Sent.{Sent}
use Rattle.line_link.specs.declared.link.Sent.TheVariants as sent
use Rattle.line_world.specs.FloorPlan.{FloorPlan}
use Rattle.line_world.specs.Moves.{floor_move}
use Rattle.line_world.specs.declared.moves.Move.{Move}
use Rattle.line_world.specs.declared.moves.MoveNo.{MoveNo}
use Rattle.node_core.specs.Node.{NodeState}
use Rattle.node_core.specs.Own.{own_of}
use Rattle.node_core.specs.declared.act.Act.{Act}
use Rattle.node_core.specs.declared.act.Act.TheVariants as acts
use Rattle.node_core.specs.declared.input.Input.{Input}
use Rattle.line_report.specs.declared.happening.Happening.{Happening}
use Rattle.line_report.specs.declared.happening.Happening.TheVariants as happenings
use Rattle.line_step.specs.Acts.{act_did, acts_did, answers, cut_told, sent_by}
use Rattle.line_step.specs.Lines.{Becomes, Connects, Flows, LineDoes, Unless, move_told, spoil_told, unvouched_told}
use Rattle.line_step.specs.Reasons.{May}
use Rattle.line_step.specs.Shown.{between_shown, kept_shown, shown_from, taken_below}
use Rattle.line_step.specs.State.{LineState}
use Rattle.line_step.specs.Steps.{MachineSteps, is_second, read_by}
use Rattle.line_step.specs.World.{WorldParts, end_of, link_at, link_of}
use Rattle.line_step.specs.Requests.{Request, added_told, request_of}
use Rattle.line_step.specs.Requests as requests
use Rattle.line_script.specs.declared.line.LaneLine.{LaneLine}
use Rattle.line_script.specs.declared.line.ScriptLine.{ScriptLine}
use Rattle.node_core.specs.declared.input.Input.TheVariants as inputs
use Rattle.line_report.specs.Lanes.{told_on}
use Rattle.line_report.specs.Shifts.{before_first, behind_first, from_first, is_gets, is_gives}
use Rattle.line_report.specs.declared.happening.LaneHappening.{LaneHappening}
use Rattle.law_lanes.specs.Lanes.{Lanes, track, with_track}
use Rattle.law_lanes.specs.Steps.{LanesDo, OnTrack, Shifts}
use Rattle.law_report_ledger.proofs.Walk.{EachOn, IsPlain, both_on, line_is, on_one}

abbrev pub IsSilent : Happening → Type 0
IsSilent (happenings.With machine id) = ⊥
IsSilent (happenings.Between gap id) = ⊥
IsSilent (happenings.Gone id) = ⊥
IsSilent _ = Unit {0}

abbrev pub AreSilent : List Happening → Type 0
AreSilent told = AllByRecursion IsSilent told

join : (a b : List Happening) → AreSilent a → AreSilent b → AreSilent (a ++ b)
join [] b one two = two
join (h ∷ a) b one two = (one.0, join a b one.1 two)

-- ---- acts

cut_silent : (link : ℕ) (on : Sent) → AreSilent (cut_told link on)
cut_silent link sent.Cuts = (tt, tt)
cut_silent link sent.Flows = tt
cut_silent link sent.Vanishes = tt

sent_silent : (second : Bool) (machine : ℕ) (side : Side) (message : Message) (world : WorldParts) → AreSilent (sent_by second machine side message world).told
sent_silent true machine side message world = (tt, cut_silent machine (answer_sent (canonical message) (link_at machine world)))
sent_silent false machine side message world = (tt, cut_silent (link_of machine side) (sent_of (end_of side) (canonical message) (link_at (link_of machine side) world)))

act_silent : (second : Bool) (machine : ℕ) (act : Act) (world : WorldParts) → AreSilent (act_did second machine act world).told
act_silent second machine (acts.Sends side message) world = sent_silent (answers second side message) machine side message world
act_silent second machine (acts.Drive side on) world = tt
act_silent second machine act world = (tt, tt)

acts_silent : (second : Bool) (machine : ℕ) (told : List Act) (world : WorldParts) → AreSilent (acts_did second machine told world).told
acts_silent second machine [] world = tt
acts_silent second machine (act ∷ others) world =
    let one = act_did second machine act world in
    join one.told (acts_did second machine others one.world).told (act_silent second machine act world) (acts_silent second machine others one.world)

pub machine_silent : (number which : ℕ) (input : Input) (before after : LineState) (told : List Happening) → MachineSteps number which input before after told → AreSilent told
machine_silent number which input before after told steps = subst AreSilent (sym steps.told_is) (acts_silent (is_second input) which steps.acts (read_by which before.world))

-- ---- what is shown

kept_silent : (machine : ℕ) (boards : List Record) → AreSilent (kept_shown machine boards)
kept_silent machine [] = tt
kept_silent machine (board ∷ boards) = (tt, kept_silent machine boards)

two_silent : (same : Bool) (gap above below : ℕ) → AreSilent (happenings.ShownBetween gap above ∷ (if same then [] else happenings.ShownBetween gap below ∷ []))
two_silent true gap above below = (tt, tt)
two_silent false gap above below = (tt, (tt, tt))

between_silent : (gap : ℕ) (above below : Option ℕ) → AreSilent (between_shown gap above below)
between_silent gap None None = tt
between_silent gap None (Some below) = (tt, tt)
between_silent gap (Some above) None = (tt, tt)
between_silent gap (Some above) (Some below) = two_silent (above == below) gap above below

shown_silent : (machine : ℕ) (nodes : List NodeState) → AreSilent (shown_from machine nodes)
shown_silent machine [] = tt
shown_silent machine (node ∷ nodes) =
    let between = between_shown machine (own_of node.lane.body).held (taken_below nodes) in
    join (kept_shown machine node.lane.body.kept) (between ++ shown_from (machine + 1) nodes) (kept_silent machine node.lane.body.kept)
    (join between (shown_from (machine + 1) nodes) (between_silent machine (own_of node.lane.body).held (taken_below nodes)) (shown_silent (machine + 1) nodes))

-- ---- a line

becomes_silent : {next after : LineState} {what told : List Happening} → Becomes next what after told → AreSilent what → AreSilent told
becomes_silent b silent = subst AreSilent (sym b.told_is) silent

unless_silent : (may : May) (before after : LineState) (told : List Happening) (Done : Type 0) → Unless may before after told Done → (Done → AreSilent told) → AreSilent told
unless_silent (Ok _) before after told Done does go = go does
unless_silent (Err reason) before after told Done does go = becomes_silent does (tt, tt)

move_silent : (gap : ℕ) (step : Move) (answer : Result FloorPlan MoveNo) → AreSilent (move_told gap step answer)
move_silent gap step (Ok floor) = (tt, tt)
move_silent gap step (Err why) = (tt, tt)

unvouched_silent : (unvouched : Option ℕ) → AreSilent (unvouched_told unvouched)
unvouched_silent None = (tt, tt)
unvouched_silent (Some line) = tt

added_silent : (is_bridge : Bool) (capacity : ℕ) (s : LineState) → AreSilent (added_told is_bridge capacity s)
added_silent true capacity s = (tt, tt)
added_silent false capacity s = (tt, tt)

pub line_silent : (number : ℕ) (request : Request) (before after : LineState) (told : List Happening) → LineDoes number request before after told → AreSilent told
line_silent number requests.nothing before after told does = becomes_silent does tt
line_silent number requests.shows before after told does = becomes_silent does (shown_silent 1 before.machines)
line_silent number (requests.adds lane is_bridge capacity used) before after told does = unless_silent _ before after told _ does (λ done. becomes_silent done (added_silent is_bridge capacity before))
line_silent number (requests.gives machine input) before after told does = unless_silent _ before after told _ does (λ done. machine_silent number machine input before after told done)
line_silent number (requests.connects machine) before after told does = unless_silent _ before after told _ does
    (λ (done : Connects number machine before after told). subst AreSilent (sym done.told_is) (join done.earlier done.later (machine_silent number machine _ _ done.between done.earlier done.first) (machine_silent number _ _ done.between after done.later done.second)))
line_silent number (requests.flows machine side count) before after told does = unless_silent _ before after told _ does (λ (done : Flows number machine side count before after told). machine_silent number machine _ _ after told done.steps)
line_silent number (requests.cuts gap) before after told does = unless_silent _ before after told _ does (λ done. becomes_silent {what = happenings.Cut gap ∷ []} done (tt, tt))
line_silent number (requests.stops machine) before after told does = unless_silent _ before after told _ does (λ done. becomes_silent {what = happenings.Stop machine ∷ []} done (tt, tt))
line_silent number (requests.spoils machine side) before after told does = unless_silent _ before after told _ does
    (λ done. becomes_silent {what = spoil_told machine side before} done (tt, cut_silent (link_of machine side) (spoil_sent (end_of side) (link_at (link_of machine side) before.world))))
line_silent number (requests.moves_on gap step) before after told does = becomes_silent does (move_silent gap step (floor_move gap step before.world.floor))
line_silent number (requests.lies machine sensed) before after told does = unless_silent _ before after told _ does (λ done. becomes_silent {what = happenings.Lie machine sensed ∷ unvouched_told before.unvouched} done (tt, unvouched_silent before.unvouched))
line_silent number (requests.unsees machine side) before after told does = unless_silent _ before after told _ does (λ done. becomes_silent {what = happenings.Unseen machine side ∷ unvouched_told before.unvouched} done (tt, unvouched_silent before.unvouched))

-- ---- a line on a lane

plain : IsPlain IsSilent
plain =
    record {
      no = λ reason. tt;
      lanes = λ count. tt;
      stop = λ machine. tt;
      machine = λ number capacity. tt;
      bridge = λ number capacity. tt;
      shown = λ number id quality. tt;
      between = λ gap id. tt;
    }

track_silent : (number lane : ℕ) (line : ScriptLine) (before after : Lanes)
    (told : List LaneHappening) → OnTrack lane (LineDoes number (request_of line)) before after told
    → EachOn IsSilent told
track_silent number lane line before after told did =
    subst (EachOn IsSilent) (sym did.told_is)
    (on_one IsSilent lane did.done
    (line_silent number (request_of line) (track lane before) did.next did.done did.does))

-- ---- parts of a list

cut_by : (test : Bool) (one other : List Happening) → AreSilent one → AreSilent other
    → AreSilent (if test then one else other)
cut_by true one other first second = first
cut_by false one other first second = second

before_silent : (is : Happening → Bool) (told : List Happening) → AreSilent told
    → AreSilent (before_first is told)
before_silent is [] all = tt
before_silent is (h ∷ told) all =
    cut_by (is h) [] (h ∷ before_first is told) tt (all.0, before_silent is told all.1)

from_silent : (is : Happening → Bool) (told : List Happening) → AreSilent told
    → AreSilent (from_first is told)
from_silent is [] all = tt
from_silent is (h ∷ told) all =
    cut_by (is h) (h ∷ told) (from_first is told) all (from_silent is told all.1)

behind_silent : (is : Happening → Bool) (told : List Happening) → AreSilent told
    → AreSilent (behind_first is told)
behind_silent is [] all = tt
behind_silent is (h ∷ told) all =
    cut_by (is h) told (behind_first is told) all.1 (behind_silent is told all.1)

shift_silent : (number machine from to id : ℕ) (before after : Lanes)
    (told : List LaneHappening) → Shifts number machine from to id before after told
    → EachOn IsSilent told
shift_silent number machine from to id before after told shift =
    let given = machine_silent number machine (inputs.Gives id to) (track from before) shift.gave
    shift.given shift.gives in
    let taken = machine_silent number machine (inputs.Gets shift.board)
    (track to (with_track from shift.gave before)) shift.got shift.taken shift.gets in
    let a = told_on from (before_first is_gives shift.given) in
    let b = told_on to (before_first is_gets shift.taken) in
    let c = told_on from (from_first is_gives shift.given) in
    let d = told_on to (behind_first is_gets shift.taken) in
    subst (EachOn IsSilent) (sym shift.told_is)
    (both_on IsSilent ((a ++ b) ++ c) d
    (both_on IsSilent (a ++ b) c
    (both_on IsSilent a b
    (on_one IsSilent from (before_first is_gives shift.given) (before_silent is_gives shift.given given))
    (on_one IsSilent to (before_first is_gets shift.taken) (before_silent is_gets shift.taken taken)))
    (on_one IsSilent from (from_first is_gives shift.given) (from_silent is_gives shift.given given)))
    (on_one IsSilent to (behind_first is_gets shift.taken) (behind_silent is_gets shift.taken taken)))

pub done_silent : (number : ℕ) (line : LaneLine) (before after : Lanes)
    (told : List LaneHappening) → LanesDo number line before after told → EachOn IsSilent told
done_silent number line before after told does =
    line_is IsSilent plain number line before after told
    (λ lane own did. track_silent number lane own before after told did)
    (λ machine from to id did. shift_silent number machine from to id before after told did) does

-- A RUN UNDER THE READING BEHIND WHICH BOARDS ARE LET GO: the relation, and what goes on beside it, go on in each of its steps.
use Rattle.std.proofs.Common.{List, Some, [], ap, slice_get, slice_set, subst, sym, ℕ, ℤ, ◌++◌, ◌+◌, ◌-◌, ◌∙◌, ◌∷◌, ◌≡◌, map}
use Rattle.std.specs.List.{AllByRecursion}
use Rattle.law_running_line.proofs.TurnJoined.{placed}
use Rattle.law_one_standing.proofs.LineMoves.{less_one}
use Rattle.line_base.specs.declared.states.SensorEvent.{SensorEvent}
use Rattle.line_base.specs.declared.states.SensorEvent.TheVariants as events
use Rattle.line_base.specs.declared.states.Side.{Side}
use Rattle.line_base.specs.declared.states.Side.TheVariants.{Entry, Exit}
use Rattle.line_world.specs.FloorPlan.{AtMachine, FloorPlan}
use Rattle.node_core.specs.declared.act.Act.{Act}
use Rattle.node_core.specs.declared.input.Input.{Input}
use Rattle.node_core.specs.declared.input.Input.TheVariants as inputs
use Rattle.law_custody.specs.Facts.{Has as HasEvent}
use Rattle.law_custody.specs.Words.{events_at}
use Rattle.line_step.specs.World.{link_of}
use Rattle.law_one_standing.specs.Carried.{Trace}
use Rattle.law_one_standing.specs.Standing.{HasOneStanding}
use Rattle.law_one_standing.proofs.Carrying.{SaysAlone}
use Rattle.law_running_line.specs.Reading.{Behind, Freely, Reading, Strictly}
use Rattle.law_running_line.specs.Running.{Running, at_place, count_unread, unread_by, with_floor, with_wires}
use Rattle.law_running_line.specs.Ids.{HasUniqueIds}
use Rattle.law_running_line.specs.New.{IsNew, NumbersDiffer}
use Rattle.law_running_line.specs.RunSteps.{Asks, LetsBe, LetsGo, RunSteps, RunsTo, asks, at_rest, given_up, goes_on, let_be, lets_be, lets_go, moves, turns}
use Rattle.law_running_line.specs.Stands.{AreInRelation, line_of, node_in}
use Rattle.law_running_line.specs.Timed.{AreRelated, IsTimed, Kept, Times}
use Rattle.law_running_line.specs.Turns.{Turns}
use Rattle.law_running_line.specs.Wire.{Coming, Has, Wire, asked_for}
use Rattle.law_running_line.proofs.BehindMoves.{HasBegun, board_begins, moves_stand_behind}
use Rattle.law_running_line.proofs.BehindTurn.{TurnsBehind, brings_in_time, turns_behind, was_unread}
use Rattle.law_running_line.proofs.NewMachines.{machine_new, new_stand}
use Rattle.law_running_line.proofs.OneStand.{one_standing_of}
use Rattle.law_running_line.proofs.Relation.{asks_stand, awaits_has, by_link, down_still, left_has, lets_be_stand, up_still, within_of}
use Rattle.law_running_line.proofs.TurnStands.{unread_then}
use Rattle.law_running_line.proofs.UniqueIds.{unique_ids_of}
use Rattle.law_running_line.proofs.Waiting.{all_at, all_given, all_set}

none_has : {e : SensorEvent} → HasEvent e [] → ⊥
none_has h = elim h [ ]

-- ---- the connections of one link, changed

abbrev UpTimed : Running → ℕ → List Wire → Type 0
UpTimed s n wires = AllByRecursion (λ (wire : Wire). wire.above ≡ Has → IsTimed Exit (count_unread n Exit s) (node_in s n).lane.exit_bytes wire.up) wires

abbrev DownTimed : Running → ℕ → List Wire → Type 0
DownTimed s n wires = AllByRecursion (λ (wire : Wire). wire.below ≡ Has → IsTimed Entry (count_unread (n + 1) Entry s) (node_in s (n + 1)).lane.entry_bytes wire.down) wires

rewired_times : (link : ℕ) (change : List Wire → List Wire) (t : Trace) (s : Running) → ((k : ℕ) → Times t s k) → UpTimed s link (change (s.wires link)) → DownTimed s link (change (s.wires link)) → (k : ℕ) → Times t (with_wires link change s) k
rewired_times link change t s times up down k = record {
  begun = (times k).begun;
  over = (times k).over;
  on_time = record {
    up = by_link (λ (n : ℕ) (wires : List Wire). UpTimed s n wires) link change s up (λ n. (times n).on_time.up) k;
    down = by_link (λ (n : ℕ) (wires : List Wire). DownTimed s n wires) link change s down (λ n. (times n).on_time.down) k;
  };
}

-- a connection is asked for
asks_times : {machine : ℕ} {before after : Running} (t : Trace) → ((k : ℕ) → Times t before k) → Asks machine before after → (k : ℕ) → Times t after k
asks_times {machine} {before} t times a k =
    let up : UpTimed before machine (map (given_up Entry) (before.wires machine) ++ asked_for ∷ []) =
    all_given _ _ (given_up Entry) asked_for (λ wire p. up_still (λ (coming : List Coming). IsTimed Exit (count_unread machine Exit before) (node_in before machine).lane.exit_bytes coming) wire.above wire.below wire.up wire.down p) (λ is. absurd (awaits_has is))
    (before.wires machine) (times machine).on_time.up in
    let down : DownTimed before machine (map (given_up Entry) (before.wires machine) ++ asked_for ∷ []) =
    all_given _ _ (given_up Entry) asked_for (λ wire p. down_still (λ (coming : List Coming). IsTimed Entry (count_unread (machine + 1) Entry before) (node_in before (machine + 1)).lane.entry_bytes coming) wire.above wire.below wire.up wire.down p) (λ is. absurd (awaits_has is))
    (before.wires machine) (times machine).on_time.down in
    subst (λ (s : Running). Times t s k) (sym a.after_is) (rewired_times machine (λ (ws : List Wire). map (given_up Entry) ws ++ asked_for ∷ []) t before times up down k)

-- an end that awaits one leaves it
let_up : (s : Running) (n : ℕ) (side : Side) (wires : List Wire) (place : ℕ) (wire : Wire) → slice_get wires place ≡ Some wire → UpTimed s n wires → UpTimed s n (slice_set wires place (let_be side wire))
let_up s n Exit wires place wire there all = all_set _ (let_be Exit wire) (λ never. absurd (left_has never)) wires place all
let_up s n Entry wires place wire there all = all_set _ (let_be Entry wire) (all_at _ wire wires place there all) wires place all

let_down : (s : Running) (n : ℕ) (side : Side) (wires : List Wire) (place : ℕ) (wire : Wire) → slice_get wires place ≡ Some wire → DownTimed s n wires → DownTimed s n (slice_set wires place (let_be side wire))
let_down s n Exit wires place wire there all = all_set _ (let_be Exit wire) (all_at _ wire wires place there all) wires place all
let_down s n Entry wires place wire there all = all_set _ (let_be Entry wire) (λ never. absurd (left_has never)) wires place all

lets_be_times : {machine : ℕ} {side : Side} {before after : Running} (t : Trace) → ((k : ℕ) → Times t before k) → LetsBe machine side before after → (k : ℕ) → Times t after k
lets_be_times {machine} {side} {before} t times l k =
    let link : ℕ = link_of machine side in
    let wires : List Wire = before.wires link in
    let wire : Wire = l.awaits.wire in
    let is : at_place l.place (let_be side) wires ≡ slice_set wires l.place (let_be side wire) = placed l.place (let_be side) wires wire l.awaits.there in
    subst (λ (s : Running). Times t s k) (sym l.after_is)
    (rewired_times link (at_place l.place (let_be side)) t before times
    (subst (λ (ws : List Wire). UpTimed before link ws) (sym is) (let_up before link side wires l.place wire l.awaits.there (times link).on_time.up))
    (subst (λ (ws : List Wire). DownTimed before link ws) (sym is) (let_down before link side wires l.place wire l.awaits.there (times link).on_time.down)) k)

-- ---- new machines

new_times : (t : Trace) (s : Running) → IsNew s → (k : ℕ) → Times t s k
new_times t s new k = record {
  begun = λ h. none_has (subst (λ (m : AtMachine). HasEvent events.Begun (events_at Exit m.unread)) (machine_new s new k) h);
  over = λ h. absurd (none_has (subst (λ (m : AtMachine). HasEvent events.Begun (events_at Entry m.unread)) (machine_new s new (k + 1)) h));
  on_time = record {
    up = subst (λ (ws : List Wire). UpTimed s k ws) (sym (new.wires k)) tt;
    down = subst (λ (ws : List Wire). DownTimed s k ws) (sym (new.wires k)) tt;
  };
}

new_kept : (reading : Reading) (t : Trace) (s : Running) → IsNew s → Kept reading t s
new_kept Behind t s new = new_times t s new
new_kept Strictly t s new = tt
new_kept Freely t s new = tt

pub new_related : (reading : Reading) (s : Running) → IsNew s → NumbersDiffer s → AreRelated reading s
new_related reading s new differ = (let r : AreInRelation s = new_stand s new differ in record { trace = r.trace; stands = r.stands; kept = new_kept reading r.trace s new })

-- ---- a turn

to_related : {j : ℕ} {t : Trace} {s : Running} → TurnsBehind j t s → AreRelated Behind s
to_related to = record { trace = to.trace; stands = to.stands; kept = to.times }

turn_behind : SaysAlone → (j : ℕ) (input : Input) (moment : ℤ) (before after : Running) (told : List Act) → Turns Behind (j + 1) input moment before after told → AreRelated Behind before → AreRelated Behind after
turn_behind alone j input moment before after told turn r =
    let times : (k : ℕ) → Times r.trace before k = r.kept in
    to_related (turns_behind alone r.trace j input moment before after told r.stands turn (record {
      over = λ k. (times k).over;
      begun = λ h. (times (j + 1)).begun (was_unread (events_at Exit (unread_by (j + 1) before)) (events_at Exit turn.read) (events_at Exit turn.rest) turn.front.exit h);
      others = λ k apart. (times k).begun;
      on_time = λ k. (times k).on_time;
    }) (brings_in_time j input turn))

pub turn_related : SaysAlone → (machine : ℕ) (input : Input) (moment : ℤ) (before after : Running) (told : List Act) → Turns Behind machine input moment before after told → AreRelated Behind before → AreRelated Behind after
turn_related alone machine input moment before after told turn r =
    let same : machine - 1 + 1 ≡ machine = less_one machine (within_of machine before turn.node turn.there).0 in
    turn_behind alone (machine - 1) input moment before after told (subst (λ (m : ℕ). Turns Behind m input moment before after told) (sym same) turn) r

-- ---- a board is let go

go_behind : SaysAlone → (j : ℕ) (moment : ℤ) (t : Trace) (before after : Running) (plan : FloorPlan) (told : List Act) → HasBegun (j + 1) t before plan → Turns Behind (j + 1) inputs.Nothing moment (with_floor plan before) after told
    → events_at Exit (unread_by (j + 1) after) ≡ [] → AreRelated Behind after
go_behind alone j moment t before after plan told go turn reads =
    let none : events_at Exit turn.rest ≡ [] = ap (events_at Exit) (sym (unread_then j go.trace go.stands turn)) ∙ reads in
    to_related (turns_behind alone go.trace j inputs.Nothing moment (with_floor plan before) after told go.stands turn (record {
      over = go.over;
      begun = λ h. none_has (subst (λ (es : List SensorEvent). HasEvent events.Begun es) none h);
      others = go.others;
      on_time = go.on_time;
    }) (brings_in_time j inputs.Nothing turn))

go_related : SaysAlone → {gap : ℕ} {moment : ℤ} {before after : Running} {told : List Act} → LetsGo Behind gap moment before after told → AreRelated Behind before → AreRelated Behind after
go_related alone {gap} {moment} {before} {after} {told} l r =
    let same : gap - 1 + 1 ≡ gap = less_one gap (within_of gap before l.above l.there).0 in
    go_behind alone (gap - 1) moment r.trace before after l.floor told
    (subst (λ (m : ℕ). HasBegun m r.trace before l.floor) (sym same) (board_begins gap r.trace before l.floor r.stands r.kept l.begins))
    (subst (λ (m : ℕ). Turns Behind m inputs.Nothing moment (with_floor l.floor before) after told) (sym same) l.turns)
    (subst (λ (m : ℕ). events_at Exit (unread_by m after) ≡ []) (sym same) l.reads)

-- ---- A RUN

pub step_related : SaysAlone → {before after : Running} {told : List Act} → RunSteps Behind before told after → AreRelated Behind before → AreRelated Behind after
step_related alone (turns {machine} {input} {moment} {before} {after} {told} turn) r = turn_related alone machine input moment before after told turn r
step_related alone (asks a) r = record { trace = r.trace; stands = asks_stand r.trace r.stands a; kept = asks_times r.trace r.kept a }
step_related alone (lets_be l) r = record { trace = r.trace; stands = lets_be_stand r.trace r.stands l; kept = lets_be_times r.trace r.kept l }
step_related alone (moves m) r = to_related (moves_stand_behind r.trace r.stands r.kept m)
step_related alone (lets_go l) r = go_related alone l r

pub run_related : SaysAlone → {s u : Running} {told : List Act} → RunsTo Behind s told u → AreRelated Behind s → AreRelated Behind u
run_related alone at_rest r = r
run_related alone (goes_on first later) r = run_related alone later (step_related alone first r)

pub runs_behind_have_one_standing : SaysAlone → (s u : Running) (told : List Act) → IsNew s → NumbersDiffer s → RunsTo Behind s told u → HasOneStanding (line_of u)
runs_behind_have_one_standing alone s u told new differ run = (let r : AreRelated Behind u = run_related alone run (new_related Behind s new differ) in one_standing_of r.trace u r.stands)

pub runs_behind_have_unique_ids : SaysAlone → (s u : Running) (told : List Act) → IsNew s → NumbersDiffer s → RunsTo Behind s told u → HasUniqueIds u
runs_behind_have_unique_ids alone s u told new differ run = (let r : AreRelated Behind u = run_related alone run (new_related Behind s new differ) in unique_ids_of r.trace u r.stands)

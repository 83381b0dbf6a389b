-- Unique ids, and ids that stay: what each line of the script does to the ids of the boards on the floor.
use Rattle.std.proofs.Common.{◌≡◌, ◌≢◌, ◌+◌, ◌-◌, ◌<◌, ◌≤◌, ◌++◌, ℕ, zero, suc, Bool, true, false, List, ◌∷◌, Option, Some, None, Result, Ok, Err, length, filter, refl, sym, ap, subst, ◌∙◌, append-nil, arith, eqb-true, length-append, append_assoc, []}
use Rattle.std.specs.Prelude.{nat_le, slice_get, slice_set, drop, is_none}
use Rattle.std.specs.List.{AllByRecursion}
use Rattle.std.proofs.lemmas.Bool.{leb-false}
use Rattle.std.proofs.lemmas.List.{length-set}
use Rattle.std.proofs.lemmas.Option.{slice_get_within}
use Rattle.line_step.proofs.Numbers.{floor_stays}
use Rattle.line_base.specs.declared.states.Side.{Side}
use Rattle.line_base.specs.declared.states.Side.TheVariants.{Entry, Exit}
use Rattle.board_record.specs.Record.{plain_record}
use Rattle.board_record.specs.declared.record.Record.{Record}
use Rattle.board_record.specs.declared.sensed.Sensed.{Sensed}
use Rattle.board_record.specs.declared.maker.IdsUsedUp.{IdsUsedUp}
use Rattle.board_record.specs.Maker.{Maker, after_next, made_id, next_id}
use Rattle.line_world.specs.declared.board.Board.{Board}
use Rattle.line_world.specs.declared.gap.AtGap.{AtGap}
use Rattle.line_world.specs.declared.moves.Move.{Move}
use Rattle.line_world.specs.declared.moves.Move.TheVariants as moves
use Rattle.line_world.specs.declared.moves.MoveNo.TheVariants as nos
use Rattle.node_core.specs.declared.input.No.TheVariants as node_nos
use Rattle.line_world.specs.FloorPlan.{AtMachine, FloorPlan, IsWhole, empty_machine, has_id, machine_at, one_machine_more, place_of, with_new_id, without_board, with_machine as floor_machine}
use Rattle.line_world.specs.Moves.{floor_move}
use Rattle.line_world.specs.Boards.{ChangesId, LosesBoard, boards_along, boards_on}
use Rattle.line_world.specs.Ids.{HasFreshId, IdsDiffer}
use Rattle.line_world.proofs.Along.{along_more}
use Rattle.line_world.proofs.Differing.{changes_differ, gains_differ, loses_differ, same_differ}
use Rattle.line_world.proofs.Keeping.{as_many_machines, boards_unread, keeps_boards, machines_kept, whole_after}
use Rattle.line_world.proofs.Placing.{nowhere_of}
use Rattle.node_core.specs.declared.act.Act.{Act}
use Rattle.node_core.specs.declared.act.Act.TheVariants as acts
use Rattle.node_core.specs.declared.input.Input.{Input}
use Rattle.node_core.specs.declared.input.Input.TheVariants as inputs
use Rattle.node_core.specs.declared.lane.Body.{Body}
use Rattle.node_core.specs.declared.word.Word.{Word}
use Rattle.node_core.specs.Announces.{announces}
use Rattle.node_core.specs.Boards.{if_kept, is_kept, replaces, with_instead, with_kept, without}
use Rattle.node_core.specs.Desk.{Desk}
use Rattle.node_core.specs.Event.{Insert, Replace, event_did, event_of, maker_after, with_new}
use Rattle.node_core.specs.Node.{NodeState, desk_of, new_node}
use Rattle.node_core.specs.Reads.{all_read}
use Rattle.line_link.specs.Link.{after_connect, after_spoil, connected_of, cut}
use Rattle.line_link.specs.declared.link.Connected.{Connected}
use Rattle.line_link.specs.declared.link.Connected.TheVariants as connections
use Rattle.line_report.specs.declared.happening.Happening.{Happening}
use Rattle.line_report.specs.declared.happening.Happening.TheVariants as happenings
use Rattle.line_report.specs.declared.happening.Reason.TheVariants as reasons
use Rattle.line_step.specs.World.{WorldParts, end_of, link_at, link_of}
use Rattle.line_step.specs.State.{LineState, machine_in, no_line, one_more, profile_of, with_machine, with_world}
use Rattle.line_step.specs.Acts.{act_did, acts_did, changes, lays, takes_off}
use Rattle.line_step.specs.Steps.{MachineSteps, is_second, moment_of, read_by, unread_by}
use Rattle.line_step.specs.Reasons.{if_there, is_here, may_do, is_bare, no_if}
use Rattle.line_step.specs.Shown.{standings_told}
use Rattle.line_step.specs.Lines.{Connects, Flows, LineSteps, arrived, connecting, cut_in, lied, met, moved, spoil_told, spoiled, unseen, unseen_on, unvouched_told}
use Rattle.line_step.specs.Tracks.{ComesFromElsewhere, IsBeside, IsFromElsewhere, TrackLine, TrackSteps, other_line, own_line}
use Rattle.line_step.specs.Runs.{Point, IsRun}
use Rattle.node_core.specs.Signals.{signalled}
use Rattle.node_core.specs.Step.{plain_step}
use Rattle.node_core.specs.declared.supervising.Watch.{Watch}
use Rattle.node_core.specs.Supervising.{
  Supervise,
  Ask,
  Answer,
  tells_behind,
  watch_after,
  watch_behind,
  watch_of,
  with_tells,
}
use Rattle.line_step.specs.FloorIds.{AllChange, ChangesBoards, IdsStay, IsFresh, IsNoneOf, KeepsIds, boards_of, handled_by, made_by}
use Rattle.step_rules.proofs.Hands.{AreQuiet, IsQuiet, announces-quiet, hands_with_tells, met-quiet, quiet-join, read-quiet, signals-quiet, tells_behind-quiet}
use Rattle.step_rules.specs.Acts.{OfEvent}
use Rattle.line_step.proofs.WithTells.{tells_append}
use Rattle.step_rules.specs.Makers.{IsOld}
use Rattle.step_rules.proofs.Makers.{AreNumbered, numbered-at, numbered-last, numbered-set, old-apart, old-last, old-new, old-set}
use Rattle.line_step.proofs.OnFloor.{Handles, IsPlain, IsStill, LiesThere, SameBoards, acts-still, all-join, as_many_gaps, changes-changes, handled-join, handles, lays-gains, lies-there_by, made-join, quiet-acts, read-list, same-list, still-join, still-none, takes_off-loses, board-gains, front-loses}
use Rattle.line_step.proofs.Remarks.{IsRemark, Passes, all_pass, standings_remarks, unvouched_remarks}
use Rattle.line_step.specs.Requests.{Request, added_told, may_get}
use Rattle.line_step.specs.Requests as requests
use Rattle.line_step.proofs.Effects.{Effect, added_remarks, becomes_by, line_effect, spoil_remarks}
use Rattle.line_step.proofs.Beside.{beside-length, beside-numbered, beside-old}
use Rattle.line_step.proofs.Getting.{gives_can, removes_here, replaces_here}
use Rattle.line_step.proofs.Effects as effects

-- ---- lists

each-join : {A : Type 0} (P : A → Type 0) (front back : List A) → AllByRecursion P front → AllByRecursion P back → AllByRecursion P (front ++ back)
each-join P [] back one two = two
each-join P (x ∷ xs) back one two = (one.0, each-join P xs back one.1 two)

each-front : {A : Type 0} (P : A → Type 0) (front back : List A) → AllByRecursion P (front ++ back) → AllByRecursion P front
each-front P [] back all = tt
each-front P (x ∷ xs) back all = (all.0, each-front P xs back all.1)

each-back : {A : Type 0} (P : A → Type 0) (front back : List A) → AllByRecursion P (front ++ back) → AllByRecursion P back
each-back P [] back all = all
each-back P (x ∷ xs) back all = each-back P xs back all.1

each-weaker : {A : Type 0} (P Q : A → Type 0) (all : List A) → ((x : A) → P x → Q x) → AllByRecursion P all → AllByRecursion Q all
each-weaker P Q [] weaker every = tt
each-weaker P Q (x ∷ xs) weaker every = (weaker x every.0, each-weaker P Q xs weaker every.1)

each-along : {A : Type 0} (P : A → Type 0) (one other : List A) → other ≡ one → AllByRecursion P one → AllByRecursion P other
each-along {A = A} P one other same every =
    let Q : List A → Type 0 = λ all. AllByRecursion P all in
    subst Q (sym same) every

-- ---- the boards have ids that were made

abbrev IsOldBoard : List NodeState → Board → Type 0
IsOldBoard nodes board = (id : ℕ) → has_id id board ≡ true → IsOld 1 nodes id

none_by : (has : Bool) (nodes : List NodeState) (id : ℕ) (board : Board) (boards : List Board) → has_id id board ≡ has → IsOldBoard nodes board → ((other : ℕ) → IsOld 1 nodes other → other ≢ id) → length (filter (has_id id) boards) ≡ 0 → length (filter (has_id id) (board ∷ boards)) ≡ 0
none_by true nodes id board boards is old apart rest = absurd (apart id (old id is) refl)
none_by false nodes id board boards is old apart rest = rw is rest

-- an id that differs from every old one is that of no board
none-there : (nodes : List NodeState) (id : ℕ) (boards : List Board) → AllByRecursion (IsOldBoard nodes) boards → ((other : ℕ) → IsOld 1 nodes other → other ≢ id) → length (filter (has_id id) boards) ≡ 0
none-there nodes id [] old apart = refl
none-there nodes id (board ∷ boards) old apart = none_by (has_id id board) nodes id board boards refl old.0 apart (none-there nodes id boards old.1 apart)

-- ---- between two lines of the script

-- each machine's maker has its number, each machine has its place on the floor, each board an id that was made, and all ids
-- differ
pub record Holds (s : LineState) : Type 0 where
  pub own : AreNumbered 1 s.machines
  pub many : length s.world.floor.machines ≡ length s.machines
  pub whole : IsWhole s.world.floor
  pub old : AllByRecursion (IsOldBoard s.machines) (boards_of s)
  pub differ : IdsDiffer s.world.floor

-- what a line does
pub record Goes (s t : LineState) (told : List Happening) : Type 0 where
  pub holds : Holds t
  pub change : AllChange told (boards_of s) (boards_of t)
  pub fresh : AllByRecursion (λ id. (other : ℕ) → IsOld 1 s.machines other → other ≢ id) (made_by told)
  pub handled : AllByRecursion (IsOld 1 t.machines) (handled_by told)
  pub olds : (id : ℕ) → IsOld 1 s.machines id → IsOld 1 t.machines id

record Follows (old new : List NodeState) : Type 0 where
  own : AreNumbered 1 old → AreNumbered 1 new
  olds : (id : ℕ) → IsOld 1 old id → IsOld 1 new id

follows-same : (old new : List NodeState) → new ≡ old → Follows old new
follows-same old new same =
    let P : List NodeState → Type 0 = λ nodes. Follows old nodes in
    subst P (sym same) (record { own = λ own. own; olds = λ id is. is })

older : (old new : List NodeState) (boards : List Board) → Follows old new → AllByRecursion (IsOldBoard old) boards → AllByRecursion (IsOldBoard new) boards
older old new boards follows every = each-weaker (IsOldBoard old) (IsOldBoard new) boards (λ board is id has. follows.olds id (is id has)) every

-- where no board changes
still-goes : (s t : LineState) (told : List Happening) → Holds s → Follows s.machines t.machines → length t.world.floor.machines ≡ length t.machines → IsWhole t.world.floor → boards_of t ≡ boards_of s → IsStill told → Goes s t told
still-goes s t told h follows many whole same still =
    let P : List Board → Type 0 = λ boards. AllChange told (boards_of s) boards in
    record {
      holds = record {
        own = follows.own h.own;
        many = many;
        whole = whole;
        old = each-along (IsOldBoard t.machines) (boards_of s) (boards_of t) same (older s.machines t.machines (boards_of s) follows h.old);
        differ = same_differ s.world.floor t.world.floor same h.differ;
      };
      change = subst P (sym same) (still.change (boards_of s));
      fresh = each-along (λ id. (other : ℕ) → IsOld 1 s.machines other → other ≢ id) [] (made_by told) still.made tt;
      handled = each-along (IsOld 1 t.machines) [] (handled_by told) still.handled tt;
      olds = follows.olds;
    }

-- where nothing of the machines and the floor changes
stays-goes : (s t : LineState) (told : List Happening) → Holds s → t.machines ≡ s.machines → t.world.floor ≡ s.world.floor → IsStill told → Goes s t told
stays-goes s t told h nodes floor still =
    let P : FloorPlan → Type 0 = λ plan. IsWhole plan in
    still-goes s t told h (follows-same s.machines t.machines nodes) (ap (λ (plan : FloorPlan). length plan.machines) floor ∙ h.many ∙ ap length (sym nodes)) (subst P (sym floor) h.whole) (ap boards_on floor) still

-- one after the other
goes-both : (s t u : LineState) (a b : List Happening) → Goes s t a → Goes t u b → Goes s u (a ++ b)
goes-both s t u a b one two = record {
  holds = two.holds;
  change = all-join a b (boards_of s) (boards_of t) (boards_of u) one.change two.change;
  fresh =
      each-along (λ id. (other : ℕ) → IsOld 1 s.machines other → other ≢ id) (made_by a ++ made_by b) (made_by (a ++ b)) (made-join a b)
      (each-join (λ id. (other : ℕ) → IsOld 1 s.machines other → other ≢ id) (made_by a) (made_by b) one.fresh
      (each-weaker (λ id. (other : ℕ) → IsOld 1 t.machines other → other ≢ id) (λ id. (other : ℕ) → IsOld 1 s.machines other → other ≢ id) (made_by b) (λ id apart other old. apart other (one.olds other old)) two.fresh));
  handled =
      each-along (IsOld 1 u.machines) (handled_by a ++ handled_by b) (handled_by (a ++ b)) (handled-join a b)
      (each-join (IsOld 1 u.machines) (handled_by a) (handled_by b) (each-weaker (IsOld 1 t.machines) (IsOld 1 u.machines) (handled_by a) two.olds one.handled) two.handled);
  olds = λ id old. two.olds id (one.olds id old);
}

-- ---- one more machine

gaps-more : (machines : List AtMachine) (gaps : List AtGap) → length gaps ≡ length machines - 1 → length (one_machine_more (record { machines = machines; gaps = gaps })).gaps ≡ length (machines ++ empty_machine ∷ []) - 1
gaps-more [] gaps whole = whole
gaps-more (m ∷ ms) gaps whole = simp length-append (omega (arith, whole))

boards-more : (machines : List AtMachine) (gaps : List AtGap) → length gaps ≡ length machines - 1 → boards_on (one_machine_more (record { machines = machines; gaps = gaps })) ≡ boards_along machines gaps
boards-more [] [] whole = refl
boards-more [] (g ∷ gs) whole = absurd (omega (arith, whole))
boards-more (m ∷ ms) gaps whole = along_more (m ∷ ms) gaps (omega (arith, whole))

one-still : (told : Happening) → ((boards : List Board) → ChangesBoards told boards boards) → made_by (told ∷ []) ≡ [] → handled_by (told ∷ []) ≡ [] → IsStill (told ∷ [])
one-still told change made handled = record { change = λ boards. (boards, change boards, refl); made = made; handled = handled }

more-goes : (lane : ℕ) (is_bridge : Bool) (capacity used : ℕ) (s : LineState) (told : List Happening) → Holds s → IsStill told → Goes s (one_more lane is_bridge capacity used s) told
more-goes lane is_bridge capacity used s told h still =
    let node = new_node (profile_of lane is_bridge (length s.machines + 1) capacity used) in
    let floor = s.world.floor in
    still-goes s (one_more lane is_bridge capacity used s) told h
    (record { own = λ own. numbered-last 1 s.machines node own (record { machine = omega arith }); olds = λ id old. old-last 1 s.machines node id old })
    (simp length-append (ap (λ n. n + 1) h.many))
    (gaps-more floor.machines floor.gaps h.whole)
    (boards-more floor.machines floor.gaps h.whole)
    still

-- ---- boards that come, go and change

each-lost : (P : Board → Type 0) (old new : List Board) (board : Board) → LosesBoard old new board → AllByRecursion P old → AllByRecursion P new
each-lost P old new board loss every =
    let before = each-along P old (loss.front ++ board ∷ loss.back) (sym loss.before) every in
    each-along P (loss.front ++ loss.back) new loss.after (each-join P loss.front loss.back (each-front P loss.front (board ∷ loss.back) before) (each-back P loss.front (board ∷ loss.back) before).1)

each-gained : (P : Board → Type 0) (old new : List Board) (board : Board) → LosesBoard new old board → P board → AllByRecursion P old → AllByRecursion P new
each-gained P old new board gain it every =
    let after = each-along P old (gain.front ++ gain.back) (sym gain.after) every in
    each-along P (gain.front ++ board ∷ gain.back) new gain.before (each-join P gain.front (board ∷ gain.back) (each-front P gain.front gain.back after) (it, each-back P gain.front gain.back after))

each-changed : (P : Board → Type 0) (was now : ℕ) (old new : List Board) (change : ChangesId was now old new) → P (record { id = Some now }) → AllByRecursion P old → AllByRecursion P new
each-changed P was now old new change it every =
    let there = change.2 in
    let before = each-along P old (there.front ++ change.0 ∷ there.back) (sym there.before) every in
    each-along P (there.front ++ record { id = Some now } ∷ there.back) new there.after
    (each-join P there.front (record { id = Some now } ∷ there.back) (each-front P there.front (change.0 ∷ there.back) before) (it, (each-back P there.front (change.0 ∷ there.back) before).1))

-- ---- the moves

-- a move that neither makes nor loses a board
moved-goes : (gap : ℕ) (step : Move) (s : LineState) (floor : FloorPlan) → floor_move gap step s.world.floor ≡ Ok floor → Holds s → boards_on floor ≡ boards_of s → IsStill (happenings.Moved gap step ∷ []) → Goes s (moved (Ok floor) s) (happenings.Moved gap step ∷ [])
moved-goes gap step s floor is h same still =
    still-goes s (moved (Ok floor) s) (happenings.Moved gap step ∷ []) h (follows-same s.machines s.machines refl) (machines_kept gap step s.world.floor floor is ∙ h.many) (whole_after gap step s.world.floor floor h.whole is) same still

move-goes : (gap : ℕ) (step : Move) (s : LineState) (floor : FloorPlan) → floor_move gap step s.world.floor ≡ Ok floor → Holds s → Goes s (moved (Ok floor) s) (happenings.Moved gap step ∷ [])
move-goes gap moves.Begin s floor is h = moved-goes gap moves.Begin s floor is h (keeps_boards gap moves.Begin s.world.floor floor h.whole is) (one-still (happenings.Moved gap moves.Begin) (λ boards. refl) refl refl)
move-goes gap moves.Left s floor is h = moved-goes gap moves.Left s floor is h (keeps_boards gap moves.Left s.world.floor floor h.whole is) (one-still (happenings.Moved gap moves.Left) (λ boards. refl) refl refl)
move-goes gap moves.Enter s floor is h = moved-goes gap moves.Enter s floor is h (keeps_boards gap moves.Enter s.world.floor floor h.whole is) (one-still (happenings.Moved gap moves.Enter) (λ boards. refl) refl refl)
move-goes gap moves.Back s floor is h = moved-goes gap moves.Back s floor is h (keeps_boards gap moves.Back s.world.floor floor h.whole is) (one-still (happenings.Moved gap moves.Back) (λ boards. refl) refl refl)
move-goes gap moves.HandIn s floor is h = moved-goes gap moves.HandIn s floor is h (keeps_boards gap moves.HandIn s.world.floor floor h.whole is) (one-still (happenings.Moved gap moves.HandIn) (λ boards. refl) refl refl)
move-goes gap moves.Take s floor is h =
    let kept = keeps_boards gap moves.Take s.world.floor floor h.whole is in
    record {
      holds = record {
        own = h.own;
        many = machines_kept gap moves.Take s.world.floor floor is ∙ h.many;
        whole = whole_after gap moves.Take s.world.floor floor h.whole is;
        old = each-lost (IsOldBoard s.machines) (boards_of s) (boards_on floor) kept.0 kept.2 h.old;
        differ = loses_differ s.world.floor floor kept.0 kept.2 h.differ;
      };
      change = (boards_on floor, (kept.0, kept.2), refl);
      fresh = tt;
      handled = tt;
      olds = λ id old. old;
    }

-- ---- a step of a machine

record IsAt (s : LineState) (machine : ℕ) (node : NodeState) : Type 0 where
  place : ℕ
  is : machine ≡ place + 1
  found : slice_get s.machines place ≡ Some node

at-of : (s : LineState) (machine : ℕ) (node : NodeState) → machine_in machine s ≡ Some node → IsAt s machine node
at-of s zero node there = cc
at-of s (suc before) node there = record { place = before; is = omega arith; found = there }

-- an id maker's number stays, and it makes no fewer ids
record IsGrown (old new : Maker) : Type 0 where
  machine : new.machine ≡ old.machine
  used : old.used ≤ new.used

grown_by : (full : Bool) (maker : Maker) → nat_le 281474976710655 maker.used ≡ full → IsGrown maker (after_next maker)
grown_by true maker test = rw test (record { machine = refl; used = omega arith })
grown_by false maker test = rw test (record { machine = refl; used = omega arith })

maker-grown : (input : Input) (maker : Maker) → IsGrown maker (maker_after input maker)
maker-grown (inputs.Insert barcode) maker = grown_by (nat_le 281474976710655 maker.used) maker refl
maker-grown (inputs.Replace id) maker = grown_by (nat_le 281474976710655 maker.used) maker refl
maker-grown _ maker = record { machine = refl; used = omega arith }

step-follows : (s : LineState) (machine : ℕ) (node next : NodeState) (at : IsAt s machine node) → AreNumbered 1 s.machines → IsGrown node.maker next.maker → Follows s.machines (slice_set s.machines (machine - 1) next)
step-follows s machine node next at own grown =
    let place : machine - 1 ≡ at.place = omega (arith, at.is) in
    let here = numbered-at 1 s.machines at.place node own at.found in
    rw place (record {
      own = λ all. numbered-set 1 s.machines at.place node next all at.found (record { machine = grown.machine ∙ here.machine });
      olds = λ id old. old-set 1 s.machines at.place node next id at.found grown.used old;
    })

-- acts in three parts: those by hand, and before and behind them such as are not
record Parts (told hand : List Act) : Type 0 where
  front : List Act
  back : List Act
  is : told ≡ front ++ (hand ++ back)
  first : AreQuiet front
  last : AreQuiet back

abbrev body_read : (number machine : ℕ) (input : Input) (before after : LineState) (told : List Happening) → MachineSteps number machine input before after told → Body
body_read number machine input before after told steps = (all_read (desk_of steps.node (moment_of number)) (unread_by machine before.world) steps.node.lane.body).body

abbrev hand_of : (number machine : ℕ) (input : Input) (before after : LineState) (told : List Happening) → MachineSteps number machine input before after told → List Act
hand_of number machine input before after told steps =
    (event_did (desk_of steps.node (moment_of number)) (event_of steps.node.maker input steps.steps.lane.words) (body_read number machine input before after told steps)).acts

-- those of a step without what the supervisor is told and without a bridge's own signals: those of
-- the events that are read, those of the input, and those of the announcements
abbrev pub plain_of : (number machine : ℕ) (input : Input) (before after : LineState)
    (told : List Happening) → MachineSteps number machine input before after told → List Act
plain_of number machine input before after told steps =
    (plain_step (desk_of steps.node (moment_of number)) (unread_by machine before.world)
    (event_of steps.node.maker input steps.steps.lane.words) steps.node.lane.body).acts

parts-of : (number machine : ℕ) (input : Input) (before after : LineState) (told : List Happening)
    (steps : MachineSteps number machine input before after told)
    → Parts (plain_of number machine input before after told steps)
    (hand_of number machine input before after told steps)
parts-of number machine input before after told steps =
    let desk = desk_of steps.node (moment_of number) in
    let unread = unread_by machine before.world in
    let read = all_read desk unread steps.node.lane.body in
    let did = event_did desk (event_of steps.node.maker input steps.steps.lane.words) read.body in
    record {
      front = read.acts;
      back = (announces desk did.body).acts;
      is = refl;
      first = read-quiet desk unread steps.node.lane.body;
      last = announces-quiet desk did.body;
    }

-- with what the supervisor is told
parts-told : (desk : Desk) (watch : Watch) (plain : List Act) (act : Act) → Parts plain (act ∷ [])
    → Parts (with_tells desk watch plain) (act ∷ [])
parts-told desk watch plain act parts =
    let then_is = watch_behind watch parts.front in
    let back = with_tells desk (watch_after then_is act) parts.back in
    record {
      front = with_tells desk watch parts.front;
      back = tells_behind desk then_is act ++ back;
      is =
          ap (with_tells desk watch) parts.is
          ∙ tells_append desk watch parts.front (act ∷ parts.back);
      first = hands_with_tells desk watch parts.front parts.first;
      last =
          quiet-join (tells_behind desk then_is act) back (tells_behind-quiet desk then_is act)
          (hands_with_tells desk (watch_after then_is act) parts.back parts.last);
    }

-- and with a bridge's own signals behind
parts-behind : (told hand own : List Act) → Parts told hand → AreQuiet own
    → Parts (told ++ own) hand
parts-behind told hand own parts quiet = record {
  front = parts.front;
  back = parts.back ++ own;
  is =
      ap (λ (made : List Act). made ++ own) parts.is
      ∙ append_assoc parts.front (hand ++ parts.back) own
      ∙ ap (λ (rest : List Act). parts.front ++ rest) (append_assoc hand parts.back own);
  first = parts.first;
  last = quiet-join parts.back own parts.last quiet;
}

parts-quiet : (told hand : List Act) → Parts told hand → AreQuiet hand → AreQuiet told
parts-quiet told hand parts quiet =
    let P : List Act → Type 0 = λ acts. AreQuiet acts in
    subst P (sym parts.is)
    (quiet-join parts.front (hand ++ parts.back) parts.first
    (quiet-join hand parts.back quiet parts.last))

-- all acts of a step
acts-are : (number machine : ℕ) (input : Input) (before after : LineState) (told : List Happening)
    (steps : MachineSteps number machine input before after told)
    → steps.acts ≡ with_tells (desk_of steps.node (moment_of number))
    (watch_of (desk_of steps.node (moment_of number)) steps.node.lane.body)
    (plain_of number machine input before after told steps)
    ++ signalled steps.node.bridge steps.next.lane.body
acts-are number machine input before after told steps =
    let own = signalled steps.node.bridge steps.next.lane.body in
    steps.steps.told ∙ ap (λ (made : List Act). made ++ own) steps.steps.lane.told

-- none by hand
acts-quiet : (number machine : ℕ) (input : Input) (before after : LineState)
    (told : List Happening) (steps : MachineSteps number machine input before after told)
    → AreQuiet (hand_of number machine input before after told steps) → AreQuiet steps.acts
acts-quiet number machine input before after told steps quiet =
    let desk = desk_of steps.node (moment_of number) in
    let watch = watch_of desk steps.node.lane.body in
    let plain = plain_of number machine input before after told steps in
    let own = signalled steps.node.bridge steps.next.lane.body in
    let parts = parts-of number machine input before after told steps in
    let P : List Act → Type 0 = λ acts. AreQuiet acts in
    subst P (sym (acts-are number machine input before after told steps))
    (quiet-join (with_tells desk watch plain) own
    (hands_with_tells desk watch plain
    (parts-quiet plain (hand_of number machine input before after told steps) parts quiet))
    (signals-quiet steps.node.bridge steps.next.lane.body))

-- one by hand
acts-one : (number machine : ℕ) (input : Input) (before after : LineState) (told : List Happening)
    (steps : MachineSteps number machine input before after told) (act : Act)
    → hand_of number machine input before after told steps ≡ act ∷ [] → Parts steps.acts (act ∷ [])
acts-one number machine input before after told steps act one =
    let desk = desk_of steps.node (moment_of number) in
    let watch = watch_of desk steps.node.lane.body in
    let plain = plain_of number machine input before after told steps in
    let own = signalled steps.node.bridge steps.next.lane.body in
    let P : List Act → Type 0 = λ hand. Parts plain hand in
    let Q : List Act → Type 0 = λ acts. Parts acts (act ∷ []) in
    let parts = subst P one (parts-of number machine input before after told steps) in
    subst Q (sym (acts-are number machine input before after told steps))
    (parts-behind (with_tells desk watch plain) (act ∷ []) own
    (parts-told desk watch plain act parts)
    (signals-quiet steps.node.bridge steps.next.lane.body))

-- the floor before the acts is that of the line with the events read
record Reaches (s : LineState) (floor : FloorPlan) : Type 0 where
  many : length floor.machines ≡ length s.machines
  whole : IsWhole floor
  boards : boards_on floor ≡ boards_of s

read-reaches : (s : LineState) (machine : ℕ) → Holds s → Reaches s (read_by machine s.world).floor
read-reaches s machine h =
    let plan = s.world.floor in
    let now : AtMachine = record (machine_at plan machine) { unread = [] } in
    let many = as_many_machines plan machine now in
    let gaps = as_many_gaps plan machine now in
    record { many = many ∙ h.many; whole = ap length gaps ∙ h.whole ∙ ap (λ n. n - 1) (sym many); boards = boards_unread plan machine [] }

same-reaches : (s : LineState) (old new : FloorPlan) → Reaches s old → SameBoards old new → Reaches s new
same-reaches s old new reaches same = record {
  many = ap length same.machines ∙ reaches.many;
  whole = same.gaps ∙ reaches.whole ∙ ap (λ (machines : List AtMachine). length machines - 1) (sym same.machines);
  boards = same.boards ∙ reaches.boards;
}

-- the line behind some acts of a step
abbrev line_behind : (second : Bool) (machine : ℕ) (node : NodeState) (told : List Act) (s : LineState) → LineState
line_behind second machine node told s = with_world (acts_did second machine told (read_by machine s.world)).world (with_machine machine node s)

finished : (number machine : ℕ) (input : Input) (before after : LineState) (told : List Happening) (steps : MachineSteps number machine input before after told)
    → Goes before (line_behind (is_second input) machine steps.next steps.acts before) (acts_did (is_second input) machine steps.acts (read_by machine before.world)).told → Goes before after told
finished number machine input before after told steps goes =
    let P : LineState → Type 0 = λ t. Goes before t (acts_did (is_second input) machine steps.acts (read_by machine before.world)).told in
    let Q : List Happening → Type 0 = λ list. Goes before after list in
    subst Q (sym steps.told_is) (subst P (sym steps.after_is) goes)

grown-of : (number machine : ℕ) (input : Input) (before after : LineState) (told : List Happening) (steps : MachineSteps number machine input before after told) → IsGrown steps.node.maker steps.next.maker
grown-of number machine input before after told steps =
    let P : Maker → Type 0 = λ maker. IsGrown steps.node.maker maker in
    subst P (sym steps.steps.lane.made) (maker-grown input steps.node.maker)

-- no act is done by hand
quiet-goes : (number machine : ℕ) (input : Input) (before after : LineState) (told : List Happening) (steps : MachineSteps number machine input before after told) → Holds before → AreQuiet steps.acts → Goes before after told
quiet-goes number machine input before after told steps h quiet =
    let second = is_second input in
    let world = read_by machine before.world in
    let at = at-of before machine steps.node steps.there in
    let grown = grown-of number machine input before after told steps in
    let end = line_behind second machine steps.next steps.acts before in
    let reaches = same-reaches before world.floor end.world.floor (read-reaches before machine h) (quiet-acts second machine steps.acts world quiet) in
    finished number machine input before after told steps
    (still-goes before end (acts_did second machine steps.acts world).told h (step-follows before machine steps.node steps.next at h.own grown) (reaches.many ∙ sym (length-set before.machines (machine - 1) steps.next)) reaches.whole reaches.boards (acts-still second machine steps.acts world quiet))

-- an input that is not of the hands that put boards in, take them out or change them, or that move
-- them between lanes
abbrev pub IsHandless : Input → Type 0
IsHandless (inputs.Insert barcode) = ⊥
IsHandless (inputs.Remove id) = ⊥
IsHandless (inputs.Replace id) = ⊥
IsHandless (inputs.Gives id to) = ⊥
IsHandless (inputs.Gets board) = ⊥
IsHandless _ = Unit {0}

pub handless-event : (desk : Desk) (maker : Maker) (input : Input) (words : List Word)
    → IsHandless input → OfEvent IsQuiet desk (event_of maker input words)
handless-event desk maker (inputs.Insert barcode) words handless = absurd handless
handless-event desk maker (inputs.Remove id) words handless = absurd handless
handless-event desk maker (inputs.Replace id) words handless = absurd handless
handless-event desk maker (inputs.Gives id to) words handless = absurd handless
handless-event desk maker (inputs.Gets board) words handless = absurd handless
handless-event desk maker (inputs.Level line on) words handless = (tt, λ id. tt)
handless-event desk maker _ words handless = tt

pub event-quiet : (desk : Desk) (maker : Maker) (input : Input) (words : List Word) (body : Body)
    → IsHandless input → AreQuiet (event_did desk (event_of maker input words) body).acts
event-quiet desk maker input words body handless =
    met-quiet desk (event_of maker input words) body
    (handless-event desk maker input words handless)

handless-goes : (number machine : ℕ) (input : Input) (before after : LineState) (told : List Happening) → IsHandless input → Holds before → MachineSteps number machine input before after told → Goes before after told
handless-goes number machine input before after told handless h steps =
    quiet-goes number machine input before after told steps h
    (acts-quiet number machine input before after told steps
    (event-quiet (desk_of steps.node (moment_of number)) steps.node.maker input steps.steps.lane.words (body_read number machine input before after told steps) handless))

-- ---- one act by hand

-- the boards are all old, and differ, once the act is done
record Handled (before : LineState) (nodes : List NodeState) (act : Act) (machine : ℕ) (old new : FloorPlan) : Type 0 where
  many : length new.machines ≡ length old.machines
  gaps : length new.gaps ≡ length old.gaps
  change : ChangesBoards (happenings.Done machine act) (boards_on old) (boards_on new)
  all : AllByRecursion (IsOldBoard nodes) (boards_on new)
  differ : IdsDiffer new
  fresh : AllByRecursion (λ id. (other : ℕ) → IsOld 1 before.machines other → other ≢ id) (made_by (happenings.Done machine act ∷ []))
  handled : AllByRecursion (IsOld 1 nodes) (handled_by (happenings.Done machine act ∷ []))

hand-goes : (number machine : ℕ) (input : Input) (act : Act) (before after : LineState) (told : List Happening) (steps : MachineSteps number machine input before after told)
    → Holds before
    → (parts : Parts steps.acts (act ∷ []))
    → IsPlain (is_second input) machine act
    → ((world : WorldParts) → Reaches before world.floor → (machine_at world.floor machine).boards ≡ (machine_at before.world.floor machine).boards → Handled before (slice_set before.machines (machine - 1) steps.next) act machine world.floor (act_did (is_second input) machine act world).world.floor)
    → Goes before after told
hand-goes number machine input act before after told steps h parts plain does =
    let second = is_second input in
    let world = read_by machine before.world in
    let at = at-of before machine steps.node steps.there in
    let nodes = slice_set before.machines (machine - 1) steps.next in
    let grown = grown-of number machine input before after told steps in
    let follows = step-follows before machine steps.node steps.next at h.own grown in
    let within : machine ≤ length before.world.floor.machines = omega (arith, at.is, h.many, slice_get_within before.machines at.place steps.node at.found) in
    let counted : 1 ≤ machine = omega (arith, at.is) in
    let H : List Act → Type 0 = λ list. Handles second machine act list world in
    let hands = subst H (sym parts.is) (handles second machine act parts.front parts.back world plain parts.first parts.last) in
    let reaches = same-reaches before world.floor hands.before.floor (read-reaches before machine h) hands.reaches in
    let listed = ap (λ (m : AtMachine). m.boards) (same-list world.floor hands.before.floor machine hands.reaches.machines) ∙ read-list before.world.floor machine [] counted within in
    let hand = does hands.before reaches listed in
    let middle = (act_did second machine act hands.before).world.floor in
    let end = line_behind second machine steps.next steps.acts before in
    let whole : IsWhole middle = hand.gaps ∙ reaches.whole ∙ ap (λ n. n - 1) (sym hand.many) in
    let first : List Board → Type 0 = λ boards. ChangesBoards (happenings.Done machine act) boards (boards_on middle) in
    let last : List Board → Type 0 = λ boards. AllChange (acts_did second machine steps.acts world).told boards (boards_on end.world.floor) in
    let read = (read-reaches before machine h).boards in
    finished number machine input before after told steps (record {
      holds = record {
        own = follows.own h.own;
        many = ap length hands.goes_on.machines ∙ hand.many ∙ reaches.many ∙ sym (length-set before.machines (machine - 1) steps.next);
        whole = hands.goes_on.gaps ∙ whole ∙ ap (λ (machines : List AtMachine). length machines - 1) (sym hands.goes_on.machines);
        old = each-along (IsOldBoard nodes) (boards_on middle) (boards_of end) hands.goes_on.boards hand.all;
        differ = same_differ middle end.world.floor hands.goes_on.boards hand.differ;
      };
      change = subst last read (hands.change hand.change);
      fresh = each-along (λ id. (other : ℕ) → IsOld 1 before.machines other → other ≢ id) (made_by (happenings.Done machine act ∷ [])) (made_by (acts_did second machine steps.acts world).told) (hands.made ∙ sym (append-nil _)) hand.fresh;
      handled = each-along (IsOld 1 nodes) (handled_by (happenings.Done machine act ∷ [])) (handled_by (acts_did second machine steps.acts world).told) (hands.handled ∙ sym (append-nil _)) hand.handled;
      olds = follows.olds;
    })

-- ---- a new id

pub record IsNew (maker : Maker) (id : ℕ) : Type 0 where
  pub is : id ≡ made_id maker.machine (maker.used + 1)
  pub small : maker.used + 1 < 281474976710656
  pub now : (after_next maker).used ≡ maker.used + 1

pub ok-same : (id other : ℕ) (answer : Result ℕ IdsUsedUp) → answer ≡ Ok id → answer ≡ Ok other → id ≡ other
ok-same id other answer one two = cc

pub new_by : (full : Bool) (maker : Maker) (id : ℕ) → nat_le 281474976710655 maker.used ≡ full → next_id maker ≡ Ok id → IsNew maker id
new_by true maker id test is = let none : next_id maker ≡ Err (record {}) = rw test refl in cc
new_by false maker id test is =
    let some : next_id maker ≡ Ok (made_id maker.machine (maker.used + 1)) = rw test refl in
    let above : maker.used < 281474976710655 = leb-false 281474976710655 maker.used test in
    record { is = ok-same id (made_id maker.machine (maker.used + 1)) (next_id maker) is some; small = omega (arith, above); now = rw test refl }

-- no machine has made it before, and it is made then
record IsMade (before nodes : List NodeState) (id : ℕ) : Type 0 where
  apart : (other : ℕ) → IsOld 1 before other → other ≢ id
  made : IsOld 1 nodes id

made-of : (s : LineState) (machine id : ℕ) (node next : NodeState) (at : IsAt s machine node) → AreNumbered 1 s.machines → next.maker ≡ after_next node.maker → IsNew node.maker id → IsMade s.machines (slice_set s.machines (machine - 1) next) id
made-of s machine id node next at own after new =
    let place : machine - 1 ≡ at.place = omega (arith, at.is) in
    let here = numbered-at 1 s.machines at.place node own at.found in
    let is : id ≡ made_id (1 + at.place) (node.maker.used + 1) = new.is ∙ ap (λ n. made_id n (node.maker.used + 1)) here.machine in
    let used : next.maker.used ≡ node.maker.used + 1 = ap (λ (m : Maker). m.used) after ∙ new.now in
    rw place (record {
      apart = λ other old. old-apart 1 s.machines at.place node other id (node.maker.used + 1) at.found (omega arith) new.small is old;
      made = old-new 1 s.machines at.place node next id at.found (record { count = node.maker.used + 1; counted = omega (arith, used); small = new.small; is = is });
    })

-- a board with a new id stands nowhere yet
fresh-there : (s : LineState) (floor : FloorPlan) (id : ℕ) → Holds s → Reaches s floor → ((other : ℕ) → IsOld 1 s.machines other → other ≢ id) → HasFreshId floor (record { id = Some id })
fresh-there s floor id h reaches apart other has =
    nowhere_of other floor
    (none-there s.machines other (boards_on floor) (each-along (IsOldBoard s.machines) (boards_of s) (boards_on floor) reaches.boards h.old) (λ own old same. apart own old (same ∙ sym (eqb-true id other has))))

own-board : (nodes : List NodeState) (id : ℕ) → IsOld 1 nodes id → IsOldBoard nodes (record { id = Some id })
own-board nodes id old other has =
    let P : ℕ → Type 0 = λ own. IsOld 1 nodes own in
    subst P (eqb-true id other has) old

reached-old : (s : LineState) (floor : FloorPlan) (nodes : List NodeState) → Holds s → Reaches s floor → Follows s.machines nodes → AllByRecursion (IsOldBoard nodes) (boards_on floor)
reached-old s floor nodes h reaches follows =
    each-along (IsOldBoard nodes) (boards_of s) (boards_on floor) reaches.boards (older s.machines nodes (boards_of s) follows h.old)

at-within : (s : LineState) (machine : ℕ) (node : NodeState) (floor : FloorPlan) → IsAt s machine node → Reaches s floor → machine ≤ length floor.machines
at-within s machine node floor at reaches = omega (arith, at.is, reaches.many, slice_get_within s.machines at.place node at.found)

-- ---- an insertion

inserts-handled : (s : LineState) (machine id : ℕ) (node : NodeState) (nodes : List NodeState) (floor : FloorPlan) → Holds s → IsAt s machine node → Follows s.machines nodes → IsMade s.machines nodes id → Reaches s floor → Handled s nodes (acts.Inserts id) machine floor (lays machine id floor)
inserts-handled s machine id node nodes floor h at follows made reaches =
    let counted : 1 ≤ machine = omega (arith, at.is) in
    let gain = lays-gains floor machine id counted (at-within s machine node floor at reaches) in
    let now : AtMachine = record (machine_at floor machine) { boards = (machine_at floor machine).boards ++ record { id = Some id } ∷ [] } in
    let board : Board = record { id = Some id } in
    record {
      many = as_many_machines floor machine now;
      gaps = ap length (as_many_gaps floor machine now);
      change = gain;
      all = each-gained (IsOldBoard nodes) (boards_on floor) (boards_on (lays machine id floor)) board gain (own-board nodes id made.made) (reached-old s floor nodes h reaches follows);
      differ = gains_differ floor (lays machine id floor) board gain (fresh-there s floor id h reaches made.apart) (same_differ s.world.floor floor reaches.boards h.differ);
      fresh = (made.apart, tt);
      handled = (made.made, tt);
    }

insert-goes : (answer : Result ℕ IdsUsedUp) (number machine : ℕ) (barcode : Option (List ℕ)) (before after : LineState) (told : List Happening) (steps : MachineSteps number machine (inputs.Insert barcode) before after told) → next_id steps.node.maker ≡ answer → Holds before → Goes before after told
insert-goes (Err why) number machine barcode before after told steps is h =
    let input = inputs.Insert barcode in
    let hand = hand_of number machine input before after told steps in
    let desk = desk_of steps.node (moment_of number) in
    let body = body_read number machine input before after told steps in
    let f : Result ℕ IdsUsedUp → List Act = λ answer. (event_did desk (with_new answer (λ id. Insert id barcode)) body).acts in
    let none : hand ≡ [] = ap f is in
    let P : List Act → Type 0 = λ list. AreQuiet list in
    quiet-goes number machine input before after told steps h
    (acts-quiet number machine input before after told steps (subst P (sym none) tt))
insert-goes (Ok id) number machine barcode before after told steps is h =
    let input = inputs.Insert barcode in
    let hand = hand_of number machine input before after told steps in
    let desk = desk_of steps.node (moment_of number) in
    let body = body_read number machine input before after told steps in
    let f : Result ℕ IdsUsedUp → List Act = λ answer. (event_did desk (with_new answer (λ id. Insert id barcode)) body).acts in
    let one : hand ≡ acts.Inserts id ∷ [] = ap f is in
    let parts = acts-one number machine input before after told steps (acts.Inserts id) one in
    let at = at-of before machine steps.node steps.there in
    let nodes = slice_set before.machines (machine - 1) steps.next in
    let grown = grown-of number machine input before after told steps in
    let follows = step-follows before machine steps.node steps.next at h.own grown in
    let made = made-of before machine id steps.node steps.next at h.own steps.steps.lane.made (new_by (nat_le 281474976710655 steps.node.maker.used) steps.node.maker id refl is) in
    hand-goes number machine input (acts.Inserts id) before after told steps h parts (λ world. refl)
    (λ world reaches listed. inserts-handled before machine id steps.node nodes world.floor h at follows made reaches)

-- ---- a removal

removes-handled : (s : LineState) (machine id : ℕ) (node : NodeState) (nodes : List NodeState) (floor : FloorPlan) → Holds s → IsAt s machine node → Follows s.machines nodes → Reaches s floor → LiesThere id (machine_at floor machine).boards → Handled s nodes (acts.Removes id) machine floor (takes_off machine id floor)
removes-handled s machine id node nodes floor h at follows reaches lies =
    let counted : 1 ≤ machine = omega (arith, at.is) in
    let lost = takes_off-loses floor machine id counted (at-within s machine node floor at reaches) lies in
    let now : AtMachine = record (machine_at floor machine) { boards = without_board id (machine_at floor machine).boards } in
    let old = reached-old s floor nodes h reaches follows in
    let before = each-along (IsOldBoard nodes) (boards_on floor) (lost.2.front ++ lost.0 ∷ lost.2.back) (sym lost.2.before) old in
    record {
      many = as_many_machines floor machine now;
      gaps = ap length (as_many_gaps floor machine now);
      change = lost;
      all = each-lost (IsOldBoard nodes) (boards_on floor) (boards_on (takes_off machine id floor)) lost.0 lost.2 old;
      differ = loses_differ floor (takes_off machine id floor) lost.0 lost.2 (same_differ s.world.floor floor reaches.boards h.differ);
      fresh = tt;
      handled = ((each-back (IsOldBoard nodes) lost.2.front (lost.0 ∷ lost.2.back) before).0 id lost.1, tt);
    }

lies-on : (s : LineState) (machine id : ℕ) (floor : FloorPlan) → is_here machine id s.world ≡ true → (machine_at floor machine).boards ≡ (machine_at s.world.floor machine).boards → LiesThere id (machine_at floor machine).boards
lies-on s machine id floor here listed =
    let P : List Board → Type 0 = λ boards. LiesThere id boards in
    subst P (sym listed) (lies-there_by (place_of id (machine_at s.world.floor machine).boards) id (machine_at s.world.floor machine).boards refl here)

remove-goes : (kept : Bool) (number machine id : ℕ) (before after : LineState) (told : List Happening) (steps : MachineSteps number machine (inputs.Remove id) before after told) → is_kept id (body_read number machine (inputs.Remove id) before after told steps).kept ≡ kept → is_here machine id before.world ≡ true → Holds before → Goes before after told
remove-goes false number machine id before after told steps is here h =
    let input = inputs.Remove id in
    let hand = hand_of number machine input before after told steps in
    let body = body_read number machine input before after told steps in
    let f : Bool → List Act = λ kept. (if_kept kept (with_kept (without id body.kept) body) (acts.Removes id) body).acts in
    let none : hand ≡ [] = ap f is in
    let P : List Act → Type 0 = λ list. AreQuiet list in
    quiet-goes number machine input before after told steps h
    (acts-quiet number machine input before after told steps (subst P (sym none) tt))
remove-goes true number machine id before after told steps is here h =
    let input = inputs.Remove id in
    let hand = hand_of number machine input before after told steps in
    let body = body_read number machine input before after told steps in
    let f : Bool → List Act = λ kept. (if_kept kept (with_kept (without id body.kept) body) (acts.Removes id) body).acts in
    let one : hand ≡ acts.Removes id ∷ [] = ap f is in
    let parts = acts-one number machine input before after told steps (acts.Removes id) one in
    let at = at-of before machine steps.node steps.there in
    let nodes = slice_set before.machines (machine - 1) steps.next in
    let follows = step-follows before machine steps.node steps.next at h.own (grown-of number machine input before after told steps) in
    hand-goes number machine input (acts.Removes id) before after told steps h parts (λ world. refl)
    (λ world reaches listed. removes-handled before machine id steps.node nodes world.floor h at follows reaches (lies-on before machine id world.floor here listed))

-- where the hand does nothing
quiet-hand : (number machine : ℕ) (input : Input) (before after : LineState) (told : List Happening) (steps : MachineSteps number machine input before after told) → hand_of number machine input before after told steps ≡ [] → Holds before → Goes before after told
quiet-hand number machine input before after told steps none h =
    let hand = hand_of number machine input before after told steps in
    let P : List Act → Type 0 = λ list. AreQuiet list in
    quiet-goes number machine input before after told steps h
    (acts-quiet number machine input before after told steps (subst P (sym none) tt))

-- ---- a board goes to another lane, as one that is taken out

gives-handled : (s : LineState) (machine id to : ℕ) (nodes : List NodeState) (floor : FloorPlan)
    → Handled s nodes (acts.Removes id) machine floor (takes_off machine id floor)
    → Handled s nodes (acts.Gives id to) machine floor (takes_off machine id floor)
gives-handled s machine id to nodes floor out = record {
  many = out.many;
  gaps = out.gaps;
  change = out.change;
  all = out.all;
  differ = out.differ;
  fresh = tt;
  handled = out.handled;
}

gives-goes : (kept : Bool) (number machine id to : ℕ) (before after : LineState) (told : List Happening) (steps : MachineSteps number machine (inputs.Gives id to) before after told) → is_kept id (body_read number machine (inputs.Gives id to) before after told steps).kept ≡ kept → is_here machine id before.world ≡ true → Holds before → Goes before after told
gives-goes kept number machine id to before after told steps is here h =
    let input = inputs.Gives id to in
    let act = acts.Gives id to in
    let body = body_read number machine input before after told steps in
    let f : Bool → List Act = λ test. (if_kept test (with_kept (without id body.kept) body) act body).acts in
    by kept (ap f is) where
      by : (test : Bool)
          → hand_of number machine (inputs.Gives id to) before after told steps
          ≡ (if_kept test (with_kept (without id (body_read number machine (inputs.Gives id to) before after told steps).kept) (body_read number machine (inputs.Gives id to) before after told steps)) (acts.Gives id to) (body_read number machine (inputs.Gives id to) before after told steps)).acts
          → Goes before after told
      by false none = quiet-hand number machine (inputs.Gives id to) before after told steps none h
      by true one =
          let at = at-of before machine steps.node steps.there in
          let nodes = slice_set before.machines (machine - 1) steps.next in
          let follows = step-follows before machine steps.node steps.next at h.own (grown-of number machine (inputs.Gives id to) before after told steps) in
          let act = acts.Gives id to in
          hand-goes number machine (inputs.Gives id to) act before after told steps h
          (acts-one number machine (inputs.Gives id to) before after told steps act one) (λ world. refl)
          (λ world reaches listed. gives-handled before machine id to nodes world.floor
          (removes-handled before machine id steps.node nodes world.floor h at follows reaches (lies-on before machine id world.floor here listed)))

-- ---- a board comes from another lane, as one that is put in, with an id that was made before

pub absent-none : (id : ℕ) (boards : List Board) → AllByRecursion (λ (board : Board). has_id id board ≡ false) boards → length (filter (has_id id) boards) ≡ 0
absent-none id [] absent = refl
absent-none id (board ∷ boards) absent = rw absent.0 (absent-none id boards absent.1)

absent-there : (s : LineState) (floor : FloorPlan) (id : ℕ) → Reaches s floor → IsFromElsewhere id s → HasFreshId floor (record { id = Some id })
absent-there s floor id reaches from other has =
    let Lacks : ℕ → Type 0 = λ own. AllByRecursion (λ (board : Board). has_id own board ≡ false) (boards_on floor) in
    let lacks : Lacks id = each-along (λ (board : Board). has_id id board ≡ false) (boards_of s) (boards_on floor) reaches.boards from.absent in
    nowhere_of other floor (absent-none other (boards_on floor) (subst Lacks (eqb-true id other has) lacks))

gets-handled : (s : LineState) (machine id : ℕ) (node : NodeState) (nodes : List NodeState) (floor : FloorPlan) → Holds s → IsAt s machine node → Follows s.machines nodes → IsFromElsewhere id s → Reaches s floor → Handled s nodes (acts.Gets id) machine floor (lays machine id floor)
gets-handled s machine id node nodes floor h at follows from reaches =
    let counted : 1 ≤ machine = omega (arith, at.is) in
    let gain = lays-gains floor machine id counted (at-within s machine node floor at reaches) in
    let now : AtMachine = record (machine_at floor machine) { boards = (machine_at floor machine).boards ++ record { id = Some id } ∷ [] } in
    let board : Board = record { id = Some id } in
    let made = follows.olds id from.made in
    record {
      many = as_many_machines floor machine now;
      gaps = ap length (as_many_gaps floor machine now);
      change = gain;
      all = each-gained (IsOldBoard nodes) (boards_on floor) (boards_on (lays machine id floor)) board gain (own-board nodes id made) (reached-old s floor nodes h reaches follows);
      differ = gains_differ floor (lays machine id floor) board gain (absent-there s floor id reaches from) (same_differ s.world.floor floor reaches.boards h.differ);
      fresh = tt;
      handled = (made, tt);
    }

gets-goes : (number machine : ℕ) (board : Record) (before after : LineState) (told : List Happening) → MachineSteps number machine (inputs.Gets board) before after told → IsFromElsewhere board.id before → Holds before → Goes before after told
gets-goes number machine board before after told steps from h =
    let input = inputs.Gets board in
    let act = acts.Gets board.id in
    let at = at-of before machine steps.node steps.there in
    let nodes = slice_set before.machines (machine - 1) steps.next in
    let follows = step-follows before machine steps.node steps.next at h.own (grown-of number machine input before after told steps) in
    hand-goes number machine input act before after told steps h
    (acts-one number machine input before after told steps act refl) (λ world. refl)
    (λ world reaches listed. gets-handled before machine board.id steps.node nodes world.floor h at follows from reaches)

-- ---- a replacement

replaces-handled : (s : LineState) (machine was now : ℕ) (node : NodeState) (nodes : List NodeState) (floor : FloorPlan) → Holds s → IsAt s machine node → Follows s.machines nodes → IsMade s.machines nodes now → Reaches s floor → LiesThere was (machine_at floor machine).boards → Handled s nodes (acts.Replaces was now) machine floor (changes machine was now floor)
replaces-handled s machine was now node nodes floor h at follows made reaches lies =
    let counted : 1 ≤ machine = omega (arith, at.is) in
    let change = changes-changes floor machine was now counted (at-within s machine node floor at reaches) lies in
    let here : AtMachine = record (machine_at floor machine) { boards = with_new_id was now (machine_at floor machine).boards } in
    let old = reached-old s floor nodes h reaches follows in
    let before = each-along (IsOldBoard nodes) (boards_on floor) (change.2.front ++ change.0 ∷ change.2.back) (sym change.2.before) old in
    record {
      many = as_many_machines floor machine here;
      gaps = ap length (as_many_gaps floor machine here);
      change = change;
      all = each-changed (IsOldBoard nodes) was now (boards_on floor) (boards_on (changes machine was now floor)) change (own-board nodes now made.made) old;
      differ = changes_differ was now floor (changes machine was now floor) change (fresh-there s floor now h reaches made.apart) (same_differ s.world.floor floor reaches.boards h.differ);
      fresh = (made.apart, tt);
      handled = ((each-back (IsOldBoard nodes) change.2.front (change.0 ∷ change.2.back) before).0 was change.1, (made.made, tt));
    }

replace-goes : (answer : Result ℕ IdsUsedUp) (kept : Bool) (number machine was : ℕ) (before after : LineState) (told : List Happening) (steps : MachineSteps number machine (inputs.Replace was) before after told) → next_id steps.node.maker ≡ answer → is_kept was (body_read number machine (inputs.Replace was) before after told steps).kept ≡ kept → is_here machine was before.world ≡ true → Holds before → Goes before after told
replace-goes (Err why) kept number machine was before after told steps is stays here h =
    let input = inputs.Replace was in
    let desk = desk_of steps.node (moment_of number) in
    let body = body_read number machine input before after told steps in
    let f : Result ℕ IdsUsedUp → List Act = λ answer. (event_did desk (with_new answer (Replace was)) body).acts in
    let none : hand_of number machine input before after told steps ≡ [] = ap f is in
    quiet-hand number machine input before after told steps none h
replace-goes (Ok now) false number machine was before after told steps is stays here h =
    let input = inputs.Replace was in
    let desk = desk_of steps.node (moment_of number) in
    let body = body_read number machine input before after told steps in
    let f : Result ℕ IdsUsedUp → List Act = λ answer. (event_did desk (with_new answer (Replace was)) body).acts in
    let g : Bool → List Act = λ kept. (if_kept kept (with_kept (with_instead was (plain_record now desk.name None) body.kept) body) (acts.Replaces was now) body).acts in
    let some : hand_of number machine input before after told steps ≡ (replaces desk was now body).acts = ap f is in
    let none : (replaces desk was now body).acts ≡ [] = ap g stays in
    quiet-hand number machine input before after told steps (some ∙ none) h
replace-goes (Ok now) true number machine was before after told steps is stays here h =
    let input = inputs.Replace was in
    let desk = desk_of steps.node (moment_of number) in
    let body = body_read number machine input before after told steps in
    let f : Result ℕ IdsUsedUp → List Act = λ answer. (event_did desk (with_new answer (Replace was)) body).acts in
    let g : Bool → List Act = λ kept. (if_kept kept (with_kept (with_instead was (plain_record now desk.name None) body.kept) body) (acts.Replaces was now) body).acts in
    let some : hand_of number machine input before after told steps ≡ (replaces desk was now body).acts = ap f is in
    let one : (replaces desk was now body).acts ≡ acts.Replaces was now ∷ [] = ap g stays in
    let act = acts.Replaces was now in
    let parts = acts-one number machine input before after told steps act (some ∙ one) in
    let at = at-of before machine steps.node steps.there in
    let nodes = slice_set before.machines (machine - 1) steps.next in
    let follows = step-follows before machine steps.node steps.next at h.own (grown-of number machine input before after told steps) in
    let made = made-of before machine now steps.node steps.next at h.own steps.steps.lane.made (new_by (nat_le 281474976710655 steps.node.maker.used) steps.node.maker now refl is) in
    hand-goes number machine input (acts.Replaces was now) before after told steps h parts (λ world. refl)
    (λ world reaches listed. replaces-handled before machine was now steps.node nodes world.floor h at follows made reaches (lies-on before machine was world.floor here listed))

-- ---- the forms

remark-still : (h : Happening) → IsRemark h → IsStill (h ∷ [])
remark-still (happenings.Done machine act) is = absurd is
remark-still (happenings.Moved gap step) is = absurd is
remark-still (happenings.Lie machine sensed) is = absurd is
remark-still (happenings.Unseen machine side) is = absurd is
remark-still h is = one-still h (λ boards. refl) refl refl

remarks-still : Passes IsRemark IsStill
remarks-still = record { none = still-none; both = still-join; one = remark-still }

given-goes : (number machine : ℕ) (input : Input) (s after : LineState) (told : List Happening) → Holds s → ComesFromElsewhere (requests.gives machine input) s → may_get machine input s ≡ may_do → MachineSteps number machine input s after told → Goes s after told
given-goes number machine (inputs.Insert barcode) s after told h from may did = insert-goes (next_id did.node.maker) number machine barcode s after told did refl h
given-goes number machine (inputs.Remove id) s after told h from may did =
    remove-goes (is_kept id (body_read number machine (inputs.Remove id) s after told did).kept) number machine id s after told did refl (removes_here machine id s did.node did.there may) h
given-goes number machine (inputs.Replace was) s after told h from may did =
    replace-goes (next_id did.node.maker) (is_kept was (body_read number machine (inputs.Replace was) s after told did).kept) number machine was s after told did refl refl (replaces_here machine was s did.node did.there may) h
given-goes number machine (inputs.Gives id to) s after told h from may did =
    gives-goes (is_kept id (body_read number machine (inputs.Gives id to) s after told did).kept) number machine id to s after told did refl (gives_can machine id to s did.node did.there may).here h
given-goes number machine (inputs.Gets board) s after told h from may did = gets-goes number machine board s after told did from h
given-goes number machine input s after told h from may did = handless-goes number machine input s after told tt h did

pub met-handless : (on : Connected) → IsHandless (met on)
met-handless connections.Accepted = tt
met-handless connections.Second = tt

connects-goes : (number machine : ℕ) (s after : LineState) (told : List Happening) → Holds s → Connects number machine s after told → Goes s after told
connects-goes number machine s after told h steps =
    let begin = stays-goes s (connecting machine s) [] h refl (floor_stays (machine - 1) (after_connect (link_at (machine - 1) s.world)) s.world) still-none in
    let first = handless-goes number machine inputs.Connect (connecting machine s) steps.between steps.earlier tt begin.holds steps.first in
    let on = connected_of (link_at (machine - 1) s.world).upstream in
    let second = handless-goes number (machine - 1) (met on) steps.between after steps.later (met-handless on) first.holds steps.second in
    let Q : List Happening → Type 0 = λ list. Goes s after list in
    subst Q (sym steps.told_is) (goes-both s (connecting machine s) after [] (steps.earlier ++ steps.later) begin (goes-both (connecting machine s) steps.between after steps.earlier steps.later first second))

flows-goes : (number machine : ℕ) (side : Side) (count : Option ℕ) (s after : LineState) (told : List Happening) → Holds s → Flows number machine side count s after told → Goes s after told
flows-goes number machine side count s after told h flows =
    let begin = stays-goes s (arrived machine side count s) [] h refl (floor_stays (link_of machine side) _ s.world) still-none in
    goes-both s (arrived machine side count s) after [] told begin (handless-goes number machine (inputs.Bytes side flows.piece) (arrived machine side count s) after told tt begin.holds flows.steps)

lie-goes : (number machine : ℕ) (sensed : Sensed) (s : LineState) → Holds s → Goes s (lied number machine sensed s) (happenings.Lie machine sensed ∷ unvouched_told s.unvouched)
lie-goes number machine sensed s h =
    let plan = s.world.floor in
    let unread = (machine_at plan machine).unread ++ sensed ∷ [] in
    let now : AtMachine = record (machine_at plan machine) { unread = unread } in
    let many = as_many_machines plan machine now in
    let gaps = as_many_gaps plan machine now in
    still-goes s (lied number machine sensed s) (happenings.Lie machine sensed ∷ unvouched_told s.unvouched) h (follows-same s.machines s.machines refl) (many ∙ h.many) (ap length gaps ∙ h.whole ∙ ap (λ n. n - 1) (sym many)) (boards_unread plan machine unread)
    (still-join (happenings.Lie machine sensed ∷ []) (unvouched_told s.unvouched) (one-still (happenings.Lie machine sensed) (λ boards. refl) refl refl) (all_pass (unvouched_told s.unvouched) remarks-still (unvouched_remarks s.unvouched)))

-- a board that may come or go unseen: its machine is there, and the board that is to go lies there
record MayUnseen (machine : ℕ) (side : Side) (s : LineState) : Type 0 where
  node : NodeState
  there : machine_in machine s ≡ Some node
  lies : is_bare machine side s.world ≡ false

lies-behind : (plain bare : Bool) (done : Unit {0}) → no_if plain (reasons.Node node_nos.NotABridge) (no_if bare (reasons.Move nos.NothingThere) may_do) ≡ Ok done → bare ≡ false
lies-behind true bare done is = cc
lies-behind false true done is = cc
lies-behind false false done is = refl

unseen-if : (found : Option NodeState) (machine : ℕ) (side : Side) (s : LineState) (done : Unit {0}) → machine_in machine s ≡ found
    → if_there found (λ node. no_if (is_none node.bridge) (reasons.Node node_nos.NotABridge) (no_if (is_bare machine side s.world) (reasons.Move nos.NothingThere) may_do)) ≡ Ok done
    → MayUnseen machine side s
unseen-if None machine side s done there is = cc
unseen-if (Some node) machine side s done there is =
    record { node = node; there = there; lies = lies-behind (is_none node.bridge) (is_bare machine side s.world) done is }

front-there : (found : Option Board) → is_none found ≡ false → (board : Board) × (found ≡ Some board)
front-there None is = cc
front-there (Some board) is = (board, refl)

-- what is told of such a board, where it does change the boards so
unseen-told-goes : (number machine : ℕ) (side : Side) (s : LineState) (now : AtMachine) → Holds s
    → unseen_on machine side s.world.floor ≡ floor_machine s.world.floor machine now
    → ChangesBoards (happenings.Unseen machine side) (boards_of s) (boards_of (unseen number machine side s))
    → AllByRecursion (IsOldBoard s.machines) (boards_of (unseen number machine side s)) → IdsDiffer (unseen number machine side s).world.floor
    → Goes s (unseen number machine side s) (happenings.Unseen machine side ∷ unvouched_told s.unvouched)
unseen-told-goes number machine side s now h is change old differ =
    let plan = s.world.floor in
    let t = unseen number machine side s in
    let many = ap (λ (p : FloorPlan). length p.machines) is ∙ as_many_machines plan machine now in
    let gaps = ap (λ (p : FloorPlan). length p.gaps) is ∙ ap length (as_many_gaps plan machine now) in
    let still = all_pass (unvouched_told s.unvouched) remarks-still (unvouched_remarks s.unvouched) in
    record {
      holds = record { own = h.own; many = many ∙ h.many; whole = gaps ∙ h.whole ∙ ap (λ n. n - 1) (sym many); old = old; differ = differ };
      change = (boards_of t, change, still.change (boards_of t));
      fresh = each-along (λ id. (other : ℕ) → IsOld 1 s.machines other → other ≢ id) [] (made_by (unvouched_told s.unvouched)) still.made tt;
      handled = each-along (IsOld 1 s.machines) [] (handled_by (unvouched_told s.unvouched)) still.handled tt;
      olds = λ id is_old. is_old;
    }

unseen-goes : (number machine : ℕ) (side : Side) (s : LineState) → Holds s → MayUnseen machine side s
    → Goes s (unseen number machine side s) (happenings.Unseen machine side ∷ unvouched_told s.unvouched)
unseen-goes number machine Entry s h may =
    let plan = s.world.floor in
    let at = at-of s machine may.node may.there in
    let board : Board = record { id = None } in
    let boards = (machine_at plan machine).boards ++ board ∷ [] in
    let reaches : Reaches s plan = record { many = h.many; whole = h.whole; boards = refl } in
    let gain = board-gains plan machine board (omega (arith, at.is)) (at-within s machine may.node plan at reaches) in
    unseen-told-goes number machine Entry s (record (machine_at plan machine) { boards = boards }) h refl gain
    (each-gained (IsOldBoard s.machines) (boards_of s) (boards_of (unseen number machine Entry s)) board gain (λ id has. absurd (cc)) h.old)
    (gains_differ plan (unseen number machine Entry s).world.floor board gain (λ id has. absurd (cc)) h.differ)
unseen-goes number machine Exit s h may =
    let plan = s.world.floor in
    let at = at-of s machine may.node may.there in
    let front = front-there (slice_get (machine_at plan machine).boards 0) may.lies in
    let reaches : Reaches s plan = record { many = h.many; whole = h.whole; boards = refl } in
    let loss = front-loses plan machine front.0 (omega (arith, at.is)) (at-within s machine may.node plan at reaches) front.1 in
    unseen-told-goes number machine Exit s (record (machine_at plan machine) { boards = drop 1 (machine_at plan machine).boards }) h refl (front.0, loss)
    (each-lost (IsOldBoard s.machines) (boards_of s) (boards_of (unseen number machine Exit s)) front.0 loss h.old)
    (loses_differ plan (unseen number machine Exit s).world.floor front.0 loss h.differ)

-- ---- each effect

effect-goes : (number : ℕ) (request : Request) (s after : LineState) (told : List Happening) → Holds s → ComesFromElsewhere request s → Effect number s after told request → Goes s after told
effect-goes number request s after told h from (effects.rests _ what remarks b) = becomes_by (Goes s) b (stays-goes s s what h refl refl (all_pass what remarks-still remarks))
effect-goes number request s after told h from (effects.adds lane is_bridge capacity used may b) =
    becomes_by (Goes s) b (more-goes lane is_bridge capacity used s (added_told is_bridge capacity s) h (all_pass (added_told is_bridge capacity s) remarks-still (added_remarks is_bridge capacity s)))
effect-goes number request s after told h from (effects.steps machine input given may did) = given-goes number machine input s after told h from may did
effect-goes number request s after told h from (effects.connects machine may did) = connects-goes number machine s after told h did
effect-goes number request s after told h from (effects.flows machine side count may did) = flows-goes number machine side count s after told h did
effect-goes number request s after told h from (effects.cuts gap may b) =
    becomes_by (Goes s) b (stays-goes s (cut_in gap s) (happenings.Cut gap ∷ []) h refl (floor_stays gap (cut (link_at gap s.world)) s.world) (remark-still (happenings.Cut gap) tt))
effect-goes number request s after told h from (effects.spoils machine side may b) =
    let link = link_of machine side in
    let floor = floor_stays link (after_spoil (end_of side) (link_at link s.world)) s.world in
    becomes_by (Goes s) b (stays-goes s (spoiled machine side s) (spoil_told machine side s) h refl floor (all_pass (spoil_told machine side s) remarks-still (spoil_remarks machine side s)))
effect-goes number request s after told h from (effects.moves gap step floor is b) = becomes_by (Goes s) b (move-goes gap step s floor is h)
effect-goes number request s after told h from (effects.lies machine sensed may b) = becomes_by (Goes s) b (lie-goes number machine sensed s h)
effect-goes number request s after told h from (effects.unsees machine side may b) = becomes_by (Goes s) b (unseen-goes number machine side s h (unseen-if (machine_in machine s) machine side s tt refl may))

-- EACH LINE STEP
pub steps-goes : (number : ℕ) (request : Request) (s after : LineState) (told : List Happening) → Holds s → ComesFromElsewhere request s → LineSteps number request s after told → Goes s after told
steps-goes number request s after told h from steps =
    let next = steps.next in
    let count : LineState = record next { lines = steps.lines } in
    let one = effect-goes number request s next steps.done h from (line_effect number request s next steps.done steps.does) in
    let two = stays-goes next count (standings_told s next) one.holds refl refl (all_pass (standings_told s next) remarks-still (standings_remarks s next)) in
    let P : LineState → Type 0 = λ t. Goes s t (steps.done ++ standings_told s next) in
    let Q : List Happening → Type 0 = λ list. Goes s after list in
    subst Q (sym steps.told_is) (subst P (sym steps.after_is) (goes-both s next count steps.done (standings_told s next) one two))

-- a line of another track uses ids, and moves no board
pub beside-goes : (s after : LineState) (told : List Happening) → Holds s → IsBeside s after → told ≡ [] → Goes s after told
beside-goes s after told h beside none =
    let many : length after.world.floor.machines ≡ length after.machines = ap (λ (w : WorldParts). length w.floor.machines) beside.world ∙ h.many ∙ sym (beside-length s.machines after.machines beside.machines) in
    let follows : Follows s.machines after.machines = record { own = beside-numbered 1 s.machines after.machines beside.machines; olds = beside-old 1 s.machines after.machines beside.machines } in
    let whole : IsWhole after.world.floor = subst (λ (w : WorldParts). IsWhole w.floor) (sym beside.world) h.whole in
    let Q : List Happening → Type 0 = λ list. Goes s after list in
    subst Q (sym none) (still-goes s after [] h follows many whole (ap (λ (w : WorldParts). boards_on w.floor) beside.world) still-none)

-- EACH STEP OF A TRACK
pub track-goes : (number : ℕ) (line : TrackLine) (s after : LineState) (told : List Happening) → Holds s → TrackSteps number line s after told → Goes s after told
track-goes number (own_line request) s after told h steps = steps-goes number request s after told h steps.1 steps.0
track-goes number other_line s after told h steps = beside-goes s after told h steps.0 steps.1

-- ---- over a run

none-holds : Holds no_line
none-holds = record { own = tt; many = refl; whole = refl; old = tt; differ = record { once = λ id. omega arith } }

all-differ : (s : LineState) (asked : List TrackLine) (points : List Point) → Holds s → IsRun s asked points → AllByRecursion (λ (point : Point). IdsDiffer point.after.world.floor) points
all-differ s [] [] h run = tt
all-differ s [] (point ∷ points) h run = absurd run
all-differ s (line ∷ asked) [] h run = absurd run
all-differ s (line ∷ asked) (point ∷ points) h run =
    let goes = track-goes (s.lines + 1) line s point.after point.told h run.0 in
    (goes.holds.differ, all-differ point.after asked points goes.holds run.1)

all-fresh : (seen : List ℕ) (s : LineState) (asked : List TrackLine) (points : List Point) → Holds s → AllByRecursion (IsOld 1 s.machines) seen → IsRun s asked points → IsFresh seen points
all-fresh seen s [] [] h old run = tt
all-fresh seen s [] (point ∷ points) h old run = absurd run
all-fresh seen s (line ∷ asked) [] h old run = absurd run
all-fresh seen s (line ∷ asked) (point ∷ points) h old run =
    let goes = track-goes (s.lines + 1) line s point.after point.told h run.0 in
    let now = each-join (IsOld 1 point.after.machines) seen (handled_by point.told) (each-weaker (IsOld 1 s.machines) (IsOld 1 point.after.machines) seen goes.olds old) goes.handled in (
      each-weaker (λ id. (other : ℕ) → IsOld 1 s.machines other → other ≢ id) (IsNoneOf seen) (made_by point.told) (λ id apart. each-weaker (IsOld 1 s.machines) (λ other. other ≢ id) seen apart old) goes.fresh,
      all-fresh (seen ++ handled_by point.told) point.after asked points goes.holds now run.1,
    )

all-stay : (s : LineState) (asked : List TrackLine) (points : List Point) → Holds s → IsRun s asked points → KeepsIds s points
all-stay s [] [] h run = tt
all-stay s [] (point ∷ points) h run = absurd run
all-stay s (line ∷ asked) [] h run = absurd run
all-stay s (line ∷ asked) (point ∷ points) h run =
    let goes = track-goes (s.lines + 1) line s point.after point.told h run.0 in
    (goes.change, all-stay point.after asked points goes.holds run.1)

pub ids_stay : IdsStay
ids_stay asked points run = record { differ = all-differ no_line asked points none-holds run; fresh = all-fresh [] no_line asked points none-holds tt run; stay = all-stay no_line asked points none-holds run }

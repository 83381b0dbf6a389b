-- A step of a machine of the line keeps what was told of an id right.
use Rattle.std.proofs.Common.{◌≡◌, ◌≢◌, ◌∙◌, ◌⊎◌, ◌+◌, ℕ, Bool, true, false, List, [], ◌∷◌, inl, inr, refl, sym, ap, subst, eq-eqb, ne_eqb}
use Rattle.std.specs.List.{list_any}
use Rattle.line_step.proofs.FloorLaws.{plain_of}
use Rattle.law_one_standing.proofs.RestLine.{node_there}
use mathlib.Core.Bool.{or-false}
use Rattle.line_base.specs.declared.states.Side.TheVariants.{Entry}
use Rattle.line_world.specs.FloorPlan.{machine_at}
use Rattle.node_core.specs.Event.{event_of}
use Rattle.node_core.specs.Node.{NodeState, desk_of}
use Rattle.node_core.specs.Own.{own_of}
use Rattle.node_core.specs.Step.{plain_step}
use Rattle.node_core.specs.Supervising.{watch_of, with_tells}
use Rattle.handover_in.specs.State.{own_of_phase}
use Rattle.node_core.specs.declared.act.Act.{Act}
use Rattle.node_core.specs.declared.act.Act.TheVariants as acts
use Rattle.node_core.specs.declared.input.Input.{Input}
use Rattle.node_core.specs.declared.lane.Body.{Body}
use Rattle.node_core.proofs.Signalling.{signals_pass}
use Rattle.law_custody.specs.Floor.{EntryFloor}
use Rattle.law_custody.specs.Pair.{Ghost}
use Rattle.law_custody.specs.Words.{events_at}
use Rattle.standings.specs.Ledger.{are_different}
use Rattle.line_report.specs.declared.happening.Happening.{Happening}
use Rattle.line_step.specs.Numbered.{Stand, node_at, stand_at}
use Rattle.line_step.specs.State.{LineState, machine_in}
use Rattle.line_step.specs.Steps.{MachineSteps, is_second, moment_of, read_by, unread_by}
use Rattle.line_step.proofs.Changing.{step_changes}
use Rattle.line_step.proofs.Numbers.{machine_set_own, same_or_not}
use Rattle.law_one_standing.specs.Carried.{Trace, between_of, stand_of}
use Rattle.law_one_standing.specs.Relation.{Neighbours}
use Rattle.law_one_standing.specs.Stands.{Stands}
use Rattle.law_one_standing.proofs.LedgerSteps.{all_of}
use Rattle.law_history.proofs.Floor.{none_unread}
use Rattle.law_history.proofs.OfferingStep.{IsNoHand}
use Rattle.law_history.proofs.Stepping.{IsJustStarted}
use Rattle.law_supervisor_replay.specs.Replay.{Told, nothing_told, told_after}
use Rattle.law_supervisor_replay.proofs.Since.{since_after}
use Rattle.law_supervisor_replay.proofs.Bodies.{
  IsBeside,
  IsHere,
  brings_in,
  holds_it,
  is_gone_own,
  keeps_it,
  left_acts,
  misses_it,
  takes_it,
  takes_out,
  told_acts,
  will_leave,
}
use Rattle.law_supervisor_replay.proofs.Faring.{
  faring,
  holds_as,
  placed_behind,
  sole_behind,
  starting,
}
use Rattle.law_supervisor_replay.proofs.Happenings.{acts_left, acts_told}
use Rattle.law_supervisor_replay.proofs.Sights.{away_of, different_of, upstream_of, view_of}
use Rattle.law_supervisor_replay.proofs.Steps.{StepFares, step_fares, step_silent, view_then}
use Rattle.law_supervisor_replay.proofs.Tells.{left_append, told_append}
use Rattle.law_supervisor_replay.proofs.Views.{Fares, Holds, fares_leaves, fares_lost, fares_missing, fares_new, fares_removed, fares_settles, fares_so, fares_upstream, IsFrom, IsPlaced, IsSame, IsSole, View, put}

-- ---- what a step tells

abbrev pub tells_in : (number machine : ℕ) (input : Input) (before after : LineState) (told : List Happening)
    → MachineSteps number machine input before after told → List Act
tells_in number machine input before after told steps =
    with_tells (desk_of steps.node (moment_of number))
    (watch_of (desk_of steps.node (moment_of number)) steps.node.lane.body)
    (plain_of number machine input before after told steps)

step_told : (id number machine : ℕ) (input : Input) (before after : LineState) (told : List Happening)
    → (steps : MachineSteps number machine input before after told) → (was : Told)
    → told_after id told was
    ≡ told_acts id machine (tells_in number machine input before after told steps) was
step_told id number machine input before after told steps was =
    ap (λ (ts : List Happening). told_after id ts was) steps.told_is
    ∙ acts_told id machine (is_second input) steps.acts (read_by machine before.world) was
    ∙ ap (λ (xs : List Act). told_acts id machine xs was) steps.steps.told
    ∙ signals_pass (λ (xs : List Act). told_acts id machine xs was) (λ front signal on.
    told_append id machine front (acts.Signals signal on ∷ []) was)
    steps.steps.made steps.node.bridge steps.next.lane.body
    ∙ ap (λ (xs : List Act). told_acts id machine xs was) steps.steps.lane.told

step_left : (gap id number machine : ℕ) (input : Input) (before after : LineState) (told : List Happening)
    → (steps : MachineSteps number machine input before after told) → (was : Bool)
    → since_after gap id told was
    ≡ left_acts gap id machine (tells_in number machine input before after told steps) was
step_left gap id number machine input before after told steps was =
    ap (λ (ts : List Happening). since_after gap id ts was) steps.told_is
    ∙ acts_left gap id machine (is_second input) steps.acts (read_by machine before.world) was
    ∙ ap (λ (xs : List Act). left_acts gap id machine xs was) steps.steps.told
    ∙ signals_pass (λ (xs : List Act). left_acts gap id machine xs was) (λ front signal on.
    left_append gap id machine front (acts.Signals signal on ∷ []) was)
    steps.steps.made steps.node.bridge steps.next.lane.body
    ∙ ap (λ (xs : List Act). left_acts gap id machine xs was) steps.steps.lane.told

-- ---- the view behind a step

put_own : (machine i : ℕ) (here : Bool) (others : ℕ → Bool) → i ≡ machine
    → put machine here others i ≡ here
put_own machine i here others is = rw (eq-eqb i machine is) refl

put_other : (machine i : ℕ) (here : Bool) (others : ℕ → Bool) → i ≢ machine
    → put machine here others i ≡ others i
put_other machine i here others apart = rw (ne_eqb i machine apart) refl

-- machine by machine: the one that made the step, and the others
each_put : (machine i : ℕ) (here : Bool) (others now : ℕ → Bool) → now machine ≡ here
    → (i ≢ machine → now i ≡ others i) → now i ≡ put machine here others i
each_put machine i here others now own other = by (same_or_not i machine) where
  by : (i ≡ machine) ⊎ (i ≢ machine) → now i ≡ put machine here others i
  by (inl is) = ap now is ∙ own ∙ sym (put_own machine i here others is)
  by (inr apart) = other apart ∙ sym (put_other machine i here others apart)

-- what the machine has before the step and behind it
pub record OwnStep (number j : ℕ) (input : Input) (start next : LineState) (done : List Happening)
    (steps : MachineSteps number (j + 1) input start next done) : Type 0 where
  pub was : node_at start (j + 1) ≡ steps.node
  pub now : (node_at next (j + 1)).lane.body
      ≡ (plain_step (desk_of steps.node (moment_of number)) (unread_by (j + 1) start.world)
      (event_of steps.node.maker input steps.steps.lane.words) steps.node.lane.body).body
  pub read : (machine_at next.world.floor (j + 1)).unread ≡ []
  pub others : (k : ℕ) → k ≢ j + 1 → stand_at next k ≡ stand_at start k

pub own_step : (number j : ℕ) (input : Input) (start next : LineState) (done : List Happening)
    → (steps : MachineSteps number (j + 1) input start next done)
    → OwnStep number j input start next done steps
own_step number j input start next done steps = record {
  was = node_there (j + 1) start steps.node steps.there;
  now = ap (λ (n : NodeState). n.lane.body) (node_there (j + 1) next steps.next
      (ap (machine_in (j + 1)) steps.after_is
      ∙ machine_set_own (j + 1) start steps.node steps.next steps.there)) ∙ steps.steps.lane.body;
  read = ap (λ (s : LineState). (machine_at s.world.floor (j + 1)).unread) steps.after_is
      ∙ none_unread (is_second input) (j + 1) steps.acts start.world;
  others = (step_changes number (j + 1) input start next done steps).machines;
}

then_view : (id number j : ℕ) (input : Input) (start next : LineState) (done : List Happening)
    → (steps : MachineSteps number (j + 1) input start next done) → (now : Body)
    → (node_at next (j + 1)).lane.body ≡ now
    → IsSame (view_then id j now (view_of id next).off (view_of id start)) (view_of id next)
then_view id number j input start next done steps now is =
    let own = own_step number j input start next done steps in
    let other : (i : ℕ) → i ≢ j + 1 → stand_at next i ≡ stand_at start i = own.others in
    record {
      kept = λ i. each_put (j + 1) i (keeps_it id now) (view_of id start).kept (view_of id next).kept
          (ap (keeps_it id) is)
          (λ apart. ap (λ (s : Stand). keeps_it id s.node.lane.body) (other i apart));
      held = λ i. each_put (j + 1) i (holds_it id now) (view_of id start).held (view_of id next).held
          (ap (holds_it id) is)
          (λ apart. ap (λ (s : Stand). holds_it id s.node.lane.body) (other i apart));
      taken = λ i. each_put (j + 1) i (takes_it id now) (view_of id start).taken (view_of id next).taken
          (ap (takes_it id) is)
          (λ apart. ap (λ (s : Stand). takes_it id s.node.lane.body) (other i apart));
      leaving = λ i. each_put (j + 1) i false (view_of id start).leaving (view_of id next).leaving
          (ap will_leave own.read)
          (λ apart. ap (λ (s : Stand). will_leave s.place.unread) (other i apart));
      missing = λ i. each_put (j + 1) i (is_gone_own (own_of_phase now.intake.phase))
          (view_of id start).missing (view_of id next).missing
          (ap (misses_it (node_at next (j + 1)).lane.body) own.read
          ∙ or-false (is_gone_own (own_of_phase (node_at next (j + 1)).lane.body.intake.phase))
          ∙ ap (λ (b : Body). is_gone_own (own_of_phase b.intake.phase)) is)
          (λ apart. ap (λ (s : Stand). misses_it s.node.lane.body s.place.unread) (other i apart));
      off = refl;
    }

-- ---- A STEP

-- the machine is supervised; or it has no mark, and none comes to it by hand
pub data IsSeen (id number j : ℕ) (input : Input) (start next : LineState) (done : List Happening)
    (steps : MachineSteps number (j + 1) input start next done) : Type 0 where
  is_watched : steps.node.supervised ≡ true → IsSeen id number j input start next done steps
  is_unwatched : steps.node.supervised ≡ false
      → ((x : ℕ) → (keeps_it x steps.node.lane.body ≡ false)
      × ((holds_it x steps.node.lane.body ≡ false) × (takes_it x steps.node.lane.body ≡ false)))
      → ((x : ℕ) → keeps_it x (node_at next (j + 1)).lane.body ≡ false)
      ⊎ IsNoHand (event_of steps.node.maker input steps.steps.lane.words)
      → (view_of id next).off ≡ (view_of id start).off
      → IsSeen id number j input start next done steps

-- what a line has around the step, of an id
pub record Around (id number j : ℕ) (input : Input) (t : Trace) (before start next : LineState) (done : List Happening)
    (told : Told) (left : ℕ → Bool)
    (steps : MachineSteps number (j + 1) input start next done) : Type 0 where
  pub stands : Stands t before
  -- the machine and the one above it are as before the line
  pub own : stand_at start (j + 1) ≡ stand_at before (j + 1)
  pub above : stand_at start j ≡ stand_at before j
  pub floor : (view_of id start).off ≡ (view_of id before).off
  pub seen : IsSeen id number j input start next done steps
  pub hand : list_any (takes_out id) (plain_of number (j + 1) input start next done steps) ≡ true
      → keeps_it id steps.node.lane.body ≡ true
  pub alone : (view_of id start).taken (j + 1) ≡ true
      → (takes_it id (node_at next (j + 1)).lane.body ≡ false)
      ⊎ IsJustStarted (node_at next (j + 1)).lane.body.intake.phase
      → (keeps_it id (node_at next (j + 1)).lane.body ≡ true)
      ⊎ (holds_it id (node_at next (j + 1)).lane.body ≡ true)
      → ((view_of id start).kept j ≡ false)
      × (((view_of id start).held j ≡ false) × ((view_of id next).off ≡ false))
  pub new : list_any (brings_in id) (plain_of number (j + 1) input start next done steps) ≡ true
      → (told ≡ nothing_told) × (((i : ℕ) → left i ≡ false)
      × (((i : ℕ) → (view_of id start).kept i ≡ false)
      × (((i : ℕ) → (view_of id start).held i ≡ false)
      × ((i : ℕ) → (view_of id start).taken i ≡ false))))
  pub out : list_any (takes_out id) (plain_of number (j + 1) input start next done steps) ≡ true
      → (view_of id next).off ≡ true
  pub still : list_any (takes_out id) (plain_of number (j + 1) input start next done steps) ≡ false
      → list_any (brings_in id) (plain_of number (j + 1) input start next done steps) ≡ false
      → (view_of id next).off ≡ (view_of id start).off
  pub there : takes_it id (node_at next (j + 1)).lane.body ≡ true
      → IsJustStarted (node_at next (j + 1)).lane.body.intake.phase
      → (view_of id start).held j ≡ true → (view_of id next).off ≡ false
  pub from : takes_it id (node_at next (j + 1)).lane.body ≡ true
      → IsJustStarted (node_at next (j + 1)).lane.body.intake.phase
      → IsFrom j (view_of id start) (view_of id next).off
  -- and so is what the machine above keeps
  pub on : (view_of id next).kept j ≡ true → (view_of id next).off ≡ false

-- ---- what is asked of it

here_of : (id number j : ℕ) (input : Input) (start next : LineState) (done : List Happening)
    → (steps : MachineSteps number (j + 1) input start next done)
    → IsHere id j steps.node.lane.body (unread_by (j + 1) start.world) (view_of id start)
here_of id number j input start next done steps =
    let was = (own_step number j input start next done steps).was in
    record {
      kept = ap (λ (n : NodeState). keeps_it id n.lane.body) was;
      held = ap (λ (n : NodeState). holds_it id n.lane.body) was;
      taken = ap (λ (n : NodeState). takes_it id n.lane.body) was;
      leaving = refl;
      missing = ap (λ (n : NodeState). misses_it n.lane.body (unread_by (j + 1) start.world)) was;
    }

-- the entry's floor, by the relation before the line
pub floor_of : {number j : ℕ} {input : Input} {t : Trace} {before start next : LineState} {done : List Happening}
    → Stands t before → stand_at start (j + 1) ≡ stand_at before (j + 1)
    → (steps : MachineSteps number (j + 1) input start next done)
    → (drive : Bool) × EntryFloor steps.node.lane.body.intake.phase
    (events_at Entry (unread_by (j + 1) start.world)) drive (t.ghost j).place (t.ghost j).board
floor_of {number} {j} {input} {t} {before} {start} {next} {done} st own steps =
    let n : Neighbours (stand_of before j) (between_of t before j) (stand_of before (j + 1)) =
    st.keeps.neighbours.at j in
    let drive : Bool = (between_of t before j).gap.entry_drive in
    let g : Ghost = t.ghost j in
    let P : Stand → Type 0 =
    λ s. EntryFloor s.node.lane.body.intake.phase (events_at Entry s.place.unread) drive g.place g.board in
    let there : P (stand_at start (j + 1)) = subst P (sym own) n.pair.in in
    let Q : NodeState → Type 0 =
    λ m. EntryFloor m.lane.body.intake.phase (events_at Entry (unread_by (j + 1) start.world)) drive g.place g.board in
    (drive, subst Q (own_step number j input start next done steps).was there)

-- what is told and where the board is, as the view of the state before the step has it
beside_of : (id number j : ℕ) (input : Input) (t : Trace) (before start next : LineState) (done : List Happening)
    (told : Told) (left : ℕ → Bool) (steps : MachineSteps number (j + 1) input start next done)
    → Around id number j input t before start next done told left steps
    → (now : Body) → (node_at next (j + 1)).lane.body ≡ now
    → IsBeside id j (t.ghost j).place (view_of id start) told left steps.node.lane.body now
    (plain_of number (j + 1) input start next done steps) (view_of id next).off
beside_of id number j input t before start next done told left steps a now is =
    let taken : (view_of id start).taken (j + 1) ≡ (view_of id before).taken (j + 1) =
    ap (λ (s : Stand). takes_it id s.node.lane.body) a.own in
    let missing : (view_of id start).missing (j + 1) ≡ (view_of id before).missing (j + 1) =
    ap (λ (s : Stand). misses_it s.node.lane.body s.place.unread) a.own in
    let held : (view_of id start).held j ≡ (view_of id before).held j =
    ap (λ (s : Stand). holds_it id s.node.lane.body) a.above in
    let kept : (view_of id start).kept j ≡ (view_of id before).kept j =
    ap (λ (s : Stand). keeps_it id s.node.lane.body) a.above in
    let leaving : (view_of id start).leaving j ≡ (view_of id before).leaving j =
    ap (λ (s : Stand). will_leave s.place.unread) a.above in
    record {
      hand = a.hand;
      upstream = λ place has.
          (let up = upstream_of t before id j a.stands place (sym taken ∙ has) in
          (missing ∙ up.0, (λ h. leaving ∙ up.1.0 (sym held ∙ h), λ none off. kept ∙ up.1.1 (sym held ∙ none) (sym a.floor ∙ off))));
      away = λ place has. missing ∙ away_of t before id j a.stands place (sym taken ∙ has);
      alone = λ has ends own.
          subst (λ (b : Body). (takes_it id b ≡ false) ⊎ IsJustStarted b.intake.phase
          → (keeps_it id b ≡ true) ⊎ (holds_it id b ≡ true)
          → ((view_of id start).kept j ≡ false)
          × (((view_of id start).held j ≡ false) × ((view_of id next).off ≡ false))) is
          (a.alone has) ends own;
      new = a.new;
      out = a.out;
      still = a.still;
      there = λ takes starts holds.
          subst (λ (b : Body). takes_it id b ≡ true → IsJustStarted b.intake.phase
          → (view_of id start).held j ≡ true → (view_of id next).off ≡ false) is a.there takes starts holds;
      from = λ takes starts.
          subst (λ (b : Body). takes_it id b ≡ true → IsJustStarted b.intake.phase
          → IsFrom j (view_of id start) (view_of id next).off) is a.from takes starts;
    }

-- what becomes of the board in the step
abbrev pub now_of : (number j : ℕ) (input : Input) (start next : LineState) (done : List Happening)
    → MachineSteps number (j + 1) input start next done → Body
now_of number j input start next done steps =
    (plain_step (desk_of steps.node (moment_of number)) (unread_by (j + 1) start.world)
    (event_of steps.node.maker input steps.steps.lane.words) steps.node.lane.body).body

abbrev FaresIn : (id number j : ℕ) (input : Input) (start next : LineState) (done : List Happening)
    (told : Told) (left : ℕ → Bool) → MachineSteps number (j + 1) input start next done → Type 0
FaresIn id number j input start next done told left steps =
    StepFares id j (view_of id start) told left (tells_in number (j + 1) input start next done steps)
    (now_of number j input start next done steps) (view_of id next).off

fares_of : (id number j : ℕ) (input : Input) (t : Trace) (before start next : LineState) (done : List Happening)
    (told : Told) (left : ℕ → Bool) (steps : MachineSteps number (j + 1) input start next done)
    → Around id number j input t before start next done told left steps
    → IsSeen id number j input start next done steps
    → FaresIn id number j input start next done told left steps
fares_of id number j input t before start next done told left steps a (is_watched watched) =
    let own = own_step number j input start next done steps in
    let node_is : node_at before (j + 1) ≡ steps.node =
    sym (ap (λ (s : Stand). s.node) a.own) ∙ own.was in
    let floor = floor_of a.stands a.own steps in
    step_fares id j (desk_of steps.node (moment_of number)) (unread_by (j + 1) start.world)
    (event_of steps.node.maker input steps.steps.lane.words) steps.node.lane.body (view_of id start) told left
    floor.0 (view_of id next).off (t.ghost j).place (t.ghost j).board watched
    (ap (λ (n : NodeState). are_different (all_of (own_of n.lane.body))) (sym node_is)
    ∙ different_of t before (j + 1) a.stands)
    floor.1 (here_of id number j input start next done steps)
    (beside_of id number j input t before start next done told left steps a
    (now_of number j input start next done steps) own.now)
fares_of id number j input t before start next done told left steps a (is_unwatched unwatched none then same) =
    let own = own_step number j input start next done steps in
    let beside =
    beside_of id number j input t before start next done told left steps a
    (now_of number j input start next done steps) own.now in
    step_silent id j (desk_of steps.node (moment_of number)) (unread_by (j + 1) start.world)
    (event_of steps.node.maker input steps.steps.lane.words) steps.node.lane.body (view_of id start) told left
    (view_of id next).off unwatched none
    (subst (λ (b : Body). ((x : ℕ) → keeps_it x b ≡ false)
    ⊎ IsNoHand (event_of steps.node.maker input steps.steps.lane.words)) own.now then)
    (here_of id number j input start next done steps) same beside.there beside.from

-- ---- THE STEP

-- a machine has a mark of the id
abbrev pub IsMarked : View → ℕ → Type 0
IsMarked v machine = (v.kept machine ≡ true) ⊎ ((v.held machine ≡ true) ⊎ (v.taken machine ≡ true))

known_by : {j : ℕ} {v w : View} {told told2 : Told} {left left2 : ℕ → Bool}
    → Fares j v w told told2 left left2
    → ((told2 ≡ told) × ((gap : ℕ) → left2 gap ≡ left gap))
    ⊎ (IsMarked v (j + 1) ⊎ (w.kept (j + 1) ≡ true))
known_by (fares_so has takes off same lefts) = inl (same, lefts)
known_by (fares_leaves held leaving none takes off same set) = inr (inl (inr (inl held)))
known_by (fares_lost held none takes off same lefts) = inr (inl (inr (inl held)))
known_by (fares_settles taken kept held on none has off same lefts) = inr (inl (inr (inr taken)))
known_by (fares_missing taken missing has none off same lefts) = inr (inl (inr (inr taken)))
known_by (fares_upstream taken seen left held has none off same lefts) = inr (inl (inr (inr taken)))
known_by (fares_new unknown none kept held taken now takes same lefts) = inr (inr now)
known_by (fares_removed kept none takes off same lefts) = inr (inl (inl kept))

-- what it leaves
pub record Behind (id j : ℕ) (start next : LineState) (done : List Happening) (told : Told) (left : ℕ → Bool) : Type 0 where
  pub holds : Holds (view_of id next) (told_after id done told)
      (λ gap. since_after gap id done (left gap))
  -- where the intake holds what it held, and starts nothing
  pub sole : (view_of id next).taken (j + 1) ≡ (view_of id start).taken (j + 1)
      → (IsJustStarted (node_at next (j + 1)).lane.body.intake.phase → ⊥)
      → ((view_of id next).kept (j + 1) ≡ true → (view_of id next).held (j + 1) ≡ false)
      → IsSole (view_of id next) × IsPlaced (view_of id next)
  -- where something is told of the id, the machine has a mark of it before the step or behind it
  pub known : ((told_after id done told ≡ told)
      × ((gap : ℕ) → since_after gap id done (left gap) ≡ left gap))
      ⊎ (IsMarked (view_of id start) (j + 1) ⊎ IsMarked (view_of id next) (j + 1))

same_both : {u v w : View} → IsSame u v → IsSame v w → IsSame u w
same_both a b = record {
  kept = λ i. b.kept i ∙ a.kept i;
  held = λ i. b.held i ∙ a.held i;
  taken = λ i. b.taken i ∙ a.taken i;
  leaving = λ i. b.leaving i ∙ a.leaving i;
  missing = λ i. b.missing i ∙ a.missing i;
  off = b.off ∙ a.off;
}

pub sole_as : (v w : View) → IsSame v w → IsSole v → IsSole w
sole_as v w same s = record {
  one_taken = λ i j one two. s.one_taken i j (sym (same.taken i) ∙ one) (sym (same.taken j) ∙ two);
  kept_above = λ i j one two. s.kept_above i j (sym (same.kept i) ∙ one) (sym (same.taken j) ∙ two);
  held_above = λ i j one two. s.held_above i j (sym (same.held i) ∙ one) (sym (same.taken j) ∙ two);
  apart = λ j one. same.held j ∙ s.apart j (sym (same.kept j) ∙ one);
}

pub placed_as : (v w : View) → IsSame v w → IsPlaced v → IsPlaced w
placed_as v w same p = record {
  beyond = λ j held leaving off.
      same.taken (j + 1)
      ∙ p.beyond j (sym (same.held j) ∙ held) (sym (same.leaving j) ∙ leaving) (sym same.off ∙ off);
  nowhere = λ j taken missing.
      same.off ∙ p.nowhere j (sym (same.taken (j + 1)) ∙ taken) (sym (same.missing (j + 1)) ∙ missing);
  will_see = λ j held leaving taken off.
      same.missing (j + 1)
      ∙ p.will_see j (sym (same.held j) ∙ held) (sym (same.leaving j) ∙ leaving) (sym (same.taken (j + 1)) ∙ taken)
      (sym same.off ∙ off);
}

pub step_behind : (id number j : ℕ) (input : Input) (t : Trace) (before start next : LineState) (done : List Happening)
    (told : Told) (left : ℕ → Bool) (steps : MachineSteps number (j + 1) input start next done)
    → Around id number j input t before start next done told left steps
    → Holds (view_of id start) told left → IsSole (view_of id start) → IsPlaced (view_of id start)
    → Behind id j start next done told left
step_behind id number j input t before start next done told left steps a h sole placed =
    let f = fares_of id number j input t before start next done told left steps a a.seen in
    let own = own_step number j input start next done steps in
    let now : Body = now_of number j input start next done steps in
    let v : View = view_of id start in
    let all : List Act = tells_in number (j + 1) input start next done steps in
    let one = faring j v f.one told f.told2 left f.left2 h sole placed f.apart f.fares in
    let last : View = view_then id j now (view_of id next).off v in
    let same = then_view id number j input start next done steps now own.now in
    let told_is : told_after id done told ≡ f.told2 =
    step_told id number (j + 1) input start next done steps told ∙ f.told_is in
    let lefts : (gap : ℕ) → since_after gap id done (left gap) ≡ left_acts gap id (j + 1) all (left gap) =
    λ gap. step_left gap id number (j + 1) input start next done steps (left gap) in
    elim f.ends [
      | inl so ↦ record {
        holds = subst (λ (x : Told). Holds (view_of id next) x (λ gap. since_after gap id done (left gap))) (sym told_is)
            (holds_as f.one (view_of id next) f.told2 f.left2 (λ gap. since_after gap id done (left gap))
            (same_both so.0 same) (λ gap. lefts gap ∙ so.1 gap) one);
        sole = λ taken starts apart.
            (let here : f.one.taken (j + 1) ≡ v.taken (j + 1) = sym ((same_both so.0 same).taken (j + 1)) ∙ taken in
            let kept : IsSole f.one = sole_behind j v f.one told f.told2 left f.left2 sole f.apart here f.fares
            (λ kept. sym ((same_both so.0 same).held (j + 1)) ∙ apart ((same_both so.0 same).kept (j + 1) ∙ kept)) in
            let there : IsPlaced f.one = placed_behind j v f.one told f.told2 left f.left2 sole placed f.apart here f.fares in (
              sole_as f.one (view_of id next) (same_both so.0 same) kept,
              placed_as f.one (view_of id next) (same_both so.0 same) there,
            ));
        known = elim (known_by f.fares) [
          | inl none ↦ inl (told_is ∙ none.0, λ gap. lefts gap ∙ so.1 gap ∙ none.1 gap)
          | inr marked ↦ inr (elim marked [
            | inl before ↦ inl before
            | inr kept ↦ inr (inl ((same_both so.0 same).kept (j + 1) ∙ kept))
          ])
        ];
      }
      | inr begun ↦ record {
        holds = subst (λ (x : Told). Holds (view_of id next) x (λ gap. since_after gap id done (left gap))) (sym told_is)
            (holds_as last (view_of id next) f.told2 (λ gap. left_acts gap id (j + 1) all (left gap))
            (λ gap. since_after gap id done (left gap)) same lefts
            (starting j f.one last f.told2 f.left2 (λ gap. left_acts gap id (j + 1) all (left gap)) one begun.0
            (λ kept. a.on (same.kept j ∙ kept))));
        sole = λ taken starts apart. absurd (starts (subst (λ (b : Body). IsJustStarted b.intake.phase) (sym own.now) begun.1));
        known = inr (inr (inr (inr (same.taken (j + 1) ∙ begun.0.taken))));
      }
    ]

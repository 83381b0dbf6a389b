-- A line in which a connection is made: both its machines make a step.
use Rattle.std.proofs.Common.{◌≡◌, ◌≢◌, ◌<◌, ◌∙◌, ◌⊎◌, ◌++◌, ◌+◌, ◌-◌, ◌==◌, ℕ, Bool, true, false, List, Option, Some, None, inl, inr, refl, sym, ap, subst, arith, not, ltb-true}
use Rattle.std.proofs.lemmas.Bool.{false≢true}
use Rattle.line_step.proofs.FloorLaws.{IsHandless, met-handless}
use Rattle.law_one_standing.proofs.Connected.{less_two}
use Rattle.line_base.specs.declared.states.Side.TheVariants.{Entry}
use Rattle.line_world.specs.declared.board.Board.{Board}
use Rattle.handover_in.specs.State.{board_of_phase as held_in, may_connect as may_call}
use Rattle.handover_in.specs.declared.phase.Phase.{Phase as In}
use Rattle.handover_in.specs.declared.phase.Phase.TheVariants as inn
use Rattle.line_link.specs.Link.{after_connect, connected_of}
use Rattle.line_link.specs.declared.link.Connected.{Connected}
use Rattle.node_core.specs.May as own
use Rattle.node_core.specs.Node.{NodeState, desk_of}
use Rattle.node_core.specs.Own.{id_of}
use Rattle.node_core.specs.declared.input.Input.{Input}
use Rattle.node_core.specs.declared.input.Input.TheVariants as inputs
use Rattle.node_core.specs.declared.lane.Body.{Body}
use Rattle.standings.specs.Marks.{is_held}
use Rattle.line_report.specs.declared.happening.Happening.{Happening}
use Rattle.line_report.specs.declared.happening.Reason.TheVariants as reasons
use Rattle.line_step.specs.FloorIds.{boards_of}
use Rattle.line_step.specs.Lines.{Connects, connecting, met}
use Rattle.line_step.specs.Numbered.{Stand, node_at, stand_at}
use Rattle.line_step.specs.Reasons.{behind_own, has_neighbour, if_there, may_connect, may_do, no_if}
use Rattle.line_step.specs.State.{LineState, machine_in}
use Rattle.line_step.specs.Steps.{MachineSteps, moment_of, unread_by}
use Rattle.line_step.specs.World.{link_at}
use Rattle.step_rules.specs.Makers.{IsOld}
use Rattle.law_one_standing.specs.Carried.{Trace}
use Rattle.law_one_standing.specs.Stands.{Stands}
use Rattle.law_one_standing.specs.Standing.{HasOneStanding}
use Rattle.law_one_standing.proofs.ApartFloor.{counted}
use Rattle.law_one_standing.proofs.ApartHands.{step_still}
use Rattle.law_one_standing.proofs.FirstJoin.{entry_closed, intake_may}
use Rattle.line_step.proofs.Getting.{own_first, passed, there_may}
use Rattle.law_one_standing.proofs.LineJoins.{still_connecting}
use Rattle.law_history.proofs.Stepping.{IsJustStarted}
use Rattle.law_history.proofs.View.{connecting_stand}
use Rattle.law_supervisor_replay.specs.Replay.{Told, nothing_told, told_after, told_of}
use Rattle.law_supervisor_replay.proofs.Since.{left_since, since_after}
use Rattle.law_supervisor_replay.proofs.Bodies.{holds_it, keeps_it, takes_it}
use Rattle.law_supervisor_replay.proofs.Faring.{holds_as}
use Rattle.law_supervisor_replay.proofs.Lines.{
  Agreed,
  Passing,
  Starts,
  agreed_by,
  handless_acts,
  last_around,
  old_mark,
  same_self,
  same_start,
  seen_by,
  unknown_parts,
}
use Rattle.law_supervisor_replay.proofs.Connecting.{connect_takes}
use Rattle.law_supervisor_replay.proofs.Sights.{kept_on, placed_of, sole_of, view_of}
use Rattle.law_supervisor_replay.proofs.Happenings.{after_append, left_after_append}
use Rattle.law_supervisor_replay.proofs.Stepped.{
  Around,
  Behind,
  IsMarked,
  floor_of,
  own_step,
  placed_as,
  sole_as,
  step_behind,
}
use Rattle.law_supervisor_replay.proofs.Turns.{handless_facts}
use Rattle.law_supervisor_replay.proofs.Views.{Holds}

-- ---- the first step: the machine that calls

-- an intake that lets its machine call has not just started
not_started : (phase : In) → may_call phase ≡ true → IsJustStarted phase → ⊥
not_started inn.Idle may started = started
not_started (inn.Taking board own heard) may started = false≢true may
not_started (inn.Stopped board own heard) may started = false≢true may
not_started (inn.Waiting board own heard) may started = started

-- the machine that calls holds what it held, and its other marks are as they are told
pub record Calls (id number j : ℕ) (t t2 : Trace) (before between next : LineState) (done past earlier : List Happening) : Type 0 where
  pub passing : Passing id t t2 before next done past
  pub first : MachineSteps number (j + 1 + 1) inputs.Connect (connecting (j + 1 + 1) before) between earlier
  pub late : stand_at next (j + 1 + 1) ≡ stand_at between (j + 1 + 1)
  pub may : own.may_of first.node inputs.Connect ≡ own.may_do

call_start : (j : ℕ) (before : LineState) (floor : boards_of (connecting (j + 1 + 1) before) ≡ boards_of before)
    → Starts before (connecting (j + 1 + 1) before)
call_start j before floor = record {
  stands = λ k. connecting_stand k (j + 1 + 1) before;
  boards = floor;
}

call_phase : (id number j : ℕ) (t t2 : Trace) (before between next : LineState) (done past earlier : List Happening)
    → (c : Calls id number j t t2 before between next done past earlier)
    → (node_at between (j + 1 + 1)).lane.body.intake.phase ≡ c.first.node.lane.body.intake.phase
call_phase id number j t t2 before between next done past earlier c =
    let start : LineState = connecting (j + 1 + 1) before in
    let mine = own_step number (j + 1) inputs.Connect start between earlier c.first in
    let floor = floor_of c.passing.st (connecting_stand (j + 1 + 1) (j + 1 + 1) before) c.first in
    ap (λ (b : Body). b.intake.phase) mine.now
    ∙ connect_takes (desk_of c.first.node (moment_of number)) (unread_by (j + 1 + 1) start.world) c.first.node.lane.body
    floor.0 _ _ (intake_may c.first.node c.may) (entry_closed c.first.node c.may) floor.1

call_around : (id number j : ℕ) (t t2 : Trace) (before between next : LineState) (done past earlier : List Happening)
    (told : Told) (left : ℕ → Bool) → (c : Calls id number j t t2 before between next done past earlier)
    → Around id number (j + 1) inputs.Connect t before (connecting (j + 1 + 1) before) between earlier told left c.first
call_around id number j t t2 before between next done past earlier told left c =
    let p = c.passing in
    let start : LineState = connecting (j + 1 + 1) before in
    let still = still_connecting (j + 1 + 1 - 1) (after_connect (link_at (j + 1 + 1 - 1) before.world)) before p.st.ids in
    let then = step_still number (j + 1 + 1) inputs.Connect start between earlier tt still.holds c.first in
    let same : (view_of id between).off ≡ (view_of id start).off =
    ap (λ (boards : List Board). counted id boards == 0) then.boards in
    let floor : (view_of id start).off ≡ (view_of id before).off =
    ap (λ (boards : List Board). counted id boards == 0) still.boards in
    let none = handless_acts id number (j + 1) inputs.Connect start between earlier c.first tt in
    let mine = own_step number (j + 1) inputs.Connect start between earlier c.first in
    let phase = call_phase id number j t t2 before between next done past earlier c in
    let may = intake_may c.first.node c.may in
    let never : IsJustStarted (node_at between (j + 1 + 1)).lane.body.intake.phase → ⊥ =
    λ started. not_started c.first.node.lane.body.intake.phase may (subst IsJustStarted phase started) in
    let takes : takes_it id (node_at between (j + 1 + 1)).lane.body ≡ (view_of id start).taken (j + 1 + 1) =
    ap (λ (i : In). is_held id (id_of (held_in i))) phase
    ∙ ap (λ (n : NodeState). takes_it id n.lane.body) (sym mine.was) in
    let apart : j + 1 ≢ j + 1 + 1 = omega arith in
    record {
      stands = p.st;
      own = connecting_stand (j + 1 + 1) (j + 1 + 1) before;
      above = connecting_stand (j + 1) (j + 1 + 1) before;
      floor = floor;
      seen = seen_by id number (j + 1) inputs.Connect before start between next earlier c.first p.watched p.watched2
          (connecting_stand (j + 1 + 1) (j + 1 + 1) before) c.late same c.first.node.supervised refl;
      hand = λ is. absurd (none.0 is);
      alone = λ taken ends has. absurd (elim ends [
        | inl not ↦ false≢true (sym not ∙ (takes ∙ taken))
        | inr started ↦ never started
      ]);
      new = λ is. absurd (none.1 is);
      out = λ is. absurd (none.0 is);
      still = λ out brought. same;
      there = λ holds started. absurd (never started);
      from = λ takes started. absurd (never started);
      on = λ kept. same ∙ floor ∙ kept_on t before id (j + 1) p.st
          (sym (ap (λ (s : Stand). keeps_it id s.node.lane.body)
          (mine.others (j + 1) apart ∙ connecting_stand (j + 1) (j + 1 + 1) before)) ∙ kept);
    }

-- ---- both steps

-- what is known of an id behind a step, by the marks that its machine has before it and behind it
known_next : (id j : ℕ) (start between next : LineState) (done : List Happening) (told : Told) (left : ℕ → Bool)
    → Behind id j start between done told left
    → (IsMarked (view_of id start) (j + 1) → IsOld 1 next.machines id)
    → (IsMarked (view_of id between) (j + 1) → IsOld 1 next.machines id)
    → IsOld 1 next.machines id ⊎ ((told ≡ nothing_told) × ((gap : ℕ) → left gap ≡ false))
    → IsOld 1 next.machines id ⊎ ((told_after id done told ≡ nothing_told)
    × ((gap : ℕ) → since_after gap id done (left gap) ≡ false))
known_next id j start between next done told left behind before after (inl old) = inl old
known_next id j start between next done told left behind before after (inr un) =
    elim behind.known [
      | inl same ↦ inr (same.0 ∙ un.0, λ gap. same.1 gap ∙ un.1 gap)
      | inr marked ↦ inl (elim marked [ inl was ↦ before was | inr now ↦ after now ])
    ]

-- a mark at a machine that two states have alike
marked_as : (id machine : ℕ) (s u : LineState) → stand_at s machine ≡ stand_at u machine
    → IsMarked (view_of id s) machine → IsMarked (view_of id u) machine
marked_as id machine s u same marked =
    subst (λ (x : Stand). (keeps_it id x.node.lane.body ≡ true)
    ⊎ ((holds_it id x.node.lane.body ≡ true) ⊎ (takes_it id x.node.lane.body ≡ true))) same marked

-- what a machine keeps its outlet doesn't hold
own_apart : (t : Trace) (s : LineState) (id machine : ℕ) → Stands t s → HasOneStanding s
    → keeps_it id (node_at s machine).lane.body ≡ true → holds_it id (node_at s machine).lane.body ≡ false
own_apart t s id machine st one kept = (sole_of t s id st one).apart machine kept

joined_by : (id number j : ℕ) (input : Input) (t t2 : Trace) (before between next : LineState)
    (done past earlier later : List Happening)
    → (c : Calls id number j t t2 before between next done past earlier) → IsHandless input
    → (second : MachineSteps number (j + 1) input between next later) → done ≡ earlier ++ later
    → Agreed id next (past ++ done)
joined_by id number j input t t2 before between next done past earlier later c free second is =
    let p = c.passing in
    let start : LineState = connecting (j + 1 + 1) before in
    let still = still_connecting (j + 1 + 1 - 1) (after_connect (link_at (j + 1 + 1 - 1) before.world)) before p.st.ids in
    let s : Starts before start = call_start j before still.boards in
    let same = same_start id before start s in
    let told : Told = told_of id past in
    let left : ℕ → Bool = λ gap. left_since gap id past in
    let around = call_around id number j t t2 before between next done past earlier told left c in
    let one : Behind id (j + 1) start between earlier told left =
    step_behind id number (j + 1) inputs.Connect t before start between earlier told left c.first around
    (holds_as (view_of id before) (view_of id start) told left left same (λ gap. refl) p.was.holds)
    (sole_as (view_of id before) (view_of id start) same (sole_of t before id p.st p.one))
    (placed_as (view_of id before) (view_of id start) same (placed_of t before id p.st p.one p.facts)) in
    let mine = own_step number (j + 1) inputs.Connect start between earlier c.first in
    let phase = call_phase id number j t t2 before between next done past earlier c in
    let may = intake_may c.first.node c.may in
    let takes : (view_of id between).taken (j + 1 + 1) ≡ (view_of id start).taken (j + 1 + 1) =
    ap (λ (i : In). is_held id (id_of (held_in i))) phase
    ∙ ap (λ (n : NodeState). takes_it id n.lane.body) (sym mine.was) in
    let there = one.sole takes
    (λ started. not_started c.first.node.lane.body.intake.phase may (subst IsJustStarted phase started))
    (λ kept. sym (ap (λ (x : Stand). holds_it id x.node.lane.body) c.late)
    ∙ own_apart t2 next id (j + 1 + 1) p.st2 p.one2
    (ap (λ (x : Stand). keeps_it id x.node.lane.body) c.late ∙ kept)) in
    let near : j + 1 ≢ j + 1 + 1 = omega arith in
    let far : j ≢ j + 1 + 1 = omega arith in
    let own : stand_at between (j + 1) ≡ stand_at before (j + 1) =
    mine.others (j + 1) near ∙ connecting_stand (j + 1) (j + 1 + 1) before in
    let above : stand_at between j ≡ stand_at before j =
    mine.others j far ∙ connecting_stand j (j + 1 + 1) before in
    let then = step_still number (j + 1 + 1) inputs.Connect start between earlier tt still.holds c.first in
    let floor : (view_of id between).off ≡ (view_of id before).off =
    ap (λ (boards : List Board). counted id boards == 0) (then.boards ∙ still.boards) in
    let told1 : Told = told_after id earlier told in
    let left1 : ℕ → Bool = λ gap. since_after gap id earlier (left gap) in
    let two : Behind id j between next later told1 left1 =
    step_behind id number j input t before between next later told1 left1 second
    (last_around id number j input t t2 before between next later told1 left1 p.st p.st2 p.one2 own above floor second
    (handless_facts id number j input before between next later told1 left1 p.watched p.watched2 own then.holds free second))
    one.holds there.0 there.1 in
    let first_known =
    known_next id (j + 1) start between next earlier told left one
    (λ was. p.goes.olds id (old_mark t before id (j + 1 + 1) p.st
    (marked_as id (j + 1 + 1) start before (connecting_stand (j + 1 + 1) (j + 1 + 1) before) was)))
    (λ now. old_mark t2 next id (j + 1 + 1) p.st2 (marked_as id (j + 1 + 1) between next (sym c.late) now))
    (old_next (unknown_parts id before past p.was.known)) in
    let second_known =
    known_next id j between next next later told1 left1 two
    (λ was. p.goes.olds id (old_mark t before id (j + 1) p.st (marked_as id (j + 1) between before own was)))
    (λ now. old_mark t2 next id (j + 1) p.st2 now) first_known in
    agreed_by id next past done
    (both_holds (sym (ap (λ (ts : List Happening). told_after id ts told) is ∙ after_append id earlier later told))
    (λ gap. ap (λ (ts : List Happening). since_after gap id ts (left gap)) is ∙ left_after_append gap id earlier later (left gap))
    two.holds)
    (both_known (ap (λ (ts : List Happening). told_after id ts told) is ∙ after_append id earlier later told)
    (λ gap. ap (λ (ts : List Happening). since_after gap id ts (left gap)) is ∙ left_after_append gap id earlier later (left gap))
    second_known) where
      old_next : {U : Type 0} → IsOld 1 before.machines id ⊎ U → IsOld 1 next.machines id ⊎ U
      old_next (inl old) = inl (c.passing.goes.olds id old)
      old_next (inr un) = inr un

      both_holds : {x y : Told} {f g : ℕ → Bool} → x ≡ y → ((gap : ℕ) → g gap ≡ f gap)
          → Holds (view_of id next) x f → Holds (view_of id next) y g
      both_holds {x} {y} {f} {g} same lefts h =
          subst (λ (z : Told). Holds (view_of id next) z g) same
          (holds_as (view_of id next) (view_of id next) x f g (same_self (view_of id next)) lefts h)

      both_known : {x y : Told} {f g : ℕ → Bool} → y ≡ x → ((gap : ℕ) → g gap ≡ f gap)
          → IsOld 1 next.machines id ⊎ ((x ≡ nothing_told) × ((gap : ℕ) → f gap ≡ false))
          → IsOld 1 next.machines id ⊎ ((y ≡ nothing_told) × ((gap : ℕ) → g gap ≡ false))
      both_known same lefts (inl old) = inl old
      both_known same lefts (inr un) = inr (same ∙ un.0, λ gap. lefts gap ∙ un.1 gap)

-- ---- by the machine's number

one_less : (j : ℕ) → j + 1 + 1 - 1 ≡ j + 1
one_less j = omega arith

has_one_above : (machine : ℕ) (s : LineState) → not (has_neighbour machine Entry s) ≡ false → 1 < machine
has_one_above machine s is = ltb-true 1 machine (true_by (has_neighbour machine Entry s) is) where
  true_by : (b : Bool) → not b ≡ false → b ≡ true
  true_by true is = refl
  true_by false is = absurd (false≢true (sym is))

connect_at : (id number j : ℕ) (t t2 : Trace) (before next : LineState) (done past : List Happening)
    → Passing id t t2 before next done past → may_connect (j + 1 + 1) before ≡ may_do
    → Connects number (j + 1 + 1) before next done → Agreed id next (past ++ done)
connect_at id number j t t2 before next done past p may twice =
    let on : Connected = connected_of (link_at (j + 1 + 1 - 1) before.world).upstream in
    let second : MachineSteps number (j + 1) (met on) twice.between next twice.later =
    subst (λ (m : ℕ). MachineSteps number m (met on) twice.between next twice.later) (one_less j) twice.second in
    let mine = own_step number j (met on) twice.between next twice.later second in
    let near : j + 1 + 1 ≢ j + 1 = omega arith in
    joined_by id number j (met on) t t2 before twice.between next done past twice.earlier twice.later (record {
      passing = p;
      first = twice.first;
      late = mine.others (j + 1 + 1) near;
      may = own_first (own.may_of twice.first.node inputs.Connect) may_do
          (passed (not (has_neighbour (j + 1 + 1) Entry before)) reasons.NoNeighbour _
          (there_may (machine_in (j + 1 + 1) before) twice.first.node (λ n.
          no_if (not (has_neighbour (j + 1 + 1) Entry before)) reasons.NoNeighbour
          (behind_own (own.may_of n inputs.Connect) may_do)) twice.first.there may));
    }) (met-handless on) second twice.told_is

neighbour_there : (machine : ℕ) (before : LineState) (found : Option NodeState) (test : Bool)
    → not (has_neighbour machine Entry before) ≡ test
    → if_there found (λ node. no_if test reasons.NoNeighbour (behind_own (own.may_of node inputs.Connect) may_do)) ≡ may_do
    → not (has_neighbour machine Entry before) ≡ false
neighbour_there machine before None test is may = cc
neighbour_there machine before (Some node) true is may = cc
neighbour_there machine before (Some node) false is may = is

pub connect_line : (id number machine : ℕ) (t t2 : Trace) (before next : LineState) (done past : List Happening)
    → Passing id t t2 before next done past → may_connect machine before ≡ may_do
    → Connects number machine before next done → Agreed id next (past ++ done)
connect_line id number machine t t2 before next done past p may twice =
    let behind : 1 < machine =
    has_one_above machine before
    (neighbour_there machine before (machine_in machine before) (not (has_neighbour machine Entry before)) refl may) in
    subst (λ (m : ℕ). may_connect m before ≡ may_do → Connects number m before next done → Agreed id next (past ++ done))
    (less_two machine behind) (connect_at id number (machine - 2) t t2 before next done past p) may twice

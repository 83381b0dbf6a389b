-- A line of a script keeps what was told of an id right.
use Rattle.std.proofs.Common.{◌≡◌, ◌≢◌, ◌∙◌, ◌⊎◌, ◌++◌, ◌+◌, ◌==◌, ◌||◌, ℕ, Bool, true, false, List, inl, inr, refl, sym, ap, subst, arith}
use Rattle.std.specs.List.{list_any}
use Rattle.std.proofs.lemmas.Bool.{false≢true}
use Rattle.law_one_standing.proofs.RestLine.{node_there}
use Rattle.board_record.specs.Maker.{Maker}
use Rattle.node_core.specs.declared.word.Word.{Word}
use Rattle.node_core.specs.Supervising.{supervised_after}
use Rattle.line_world.specs.declared.board.Board.{Board}
use Rattle.line_step.proofs.Numbers.{machine_set_own}
use Rattle.law_history.proofs.OfferingStep.{IsNoHand}
use Rattle.board_record.specs.declared.sensed.Sensed.{Sensed}
use Rattle.node_core.specs.Event.{Event, event_of}
use Rattle.node_core.specs.Node.{NodeState, desk_of}
use Rattle.node_core.specs.declared.input.Input.{Input}
use Rattle.node_core.specs.declared.input.Input.TheVariants as inputs
use Rattle.line_report.specs.declared.happening.Happening.{Happening}
use Rattle.line_step.specs.FloorIds.{boards_of}
use Rattle.line_step.specs.Numbered.{Stand, node_at, stand_at}
use Rattle.line_step.specs.Shown.{standings_told}
use Rattle.line_step.specs.State.{LineState, machine_in}
use Rattle.line_step.specs.Steps.{MachineSteps, moment_of, unread_by}
use Rattle.line_step.proofs.FloorLaws.{Goes, IsHandless, plain_of}
use Rattle.step_rules.specs.Makers.{IsOld}
use Rattle.law_one_standing.specs.Carried.{Trace, stand_of}
use Rattle.line_step.specs.Requests.{Request, gives}
use Rattle.standings.specs.declared.mark.Mark.{Mark}
use Rattle.law_one_standing.proofs.ApartStep.{AreNews}
use Rattle.law_one_standing.specs.Facts.{HasCustodyFacts, is_taken_at}
use Rattle.law_one_standing.specs.Stands.{Stands}
use Rattle.law_one_standing.specs.Standing.{HasOneStanding, is_held_at, is_kept_at}
use Rattle.law_one_standing.proofs.ApartFloor.{counted}
use Rattle.law_one_standing.proofs.LedgerMarks.{mark_old}
use Rattle.law_one_standing.proofs.MarksOf.{HasMark, has_intake, has_kept, has_outlet, id_held, id_kept}
use Rattle.law_supervisor_replay.specs.Replay.{IsWatched, Told, came_in, nothing_told, told_after, told_of}
use Rattle.law_supervisor_replay.proofs.Since.{left_since, since_after}
use Rattle.law_supervisor_replay.proofs.Bodies.{
  brings_in,
  holds_it,
  keeps_it,
  misses_it,
  takes_it,
  takes_out,
  will_leave,
}
use Rattle.law_supervisor_replay.proofs.Faring.{holds_as, moving}
use Rattle.law_supervisor_replay.proofs.Hands.{BringsIn, TakesOut, ins_are, outs_are, step_ins, step_outs}
use Rattle.law_supervisor_replay.proofs.Sights.{
  alone_of,
  has_on,
  kept_on,
  placed_of,
  sole_of,
  started_from,
  started_there,
  view_of,
}
use Rattle.law_supervisor_replay.proofs.Happenings.{after_append, left_after_append}
use Rattle.law_supervisor_replay.proofs.Silent.{IsSilent}
use Rattle.law_supervisor_replay.proofs.Stepped.{
  Around,
  Behind,
  IsMarked,
  IsSeen,
  is_unwatched,
  is_watched,
  own_step,
  placed_as,
  sole_as,
  step_behind,
}
use Rattle.law_supervisor_replay.proofs.Views.{Holds, IsFrom, IsMoved, IsSame, View}

-- ---- what holds between the lines

-- nothing was told of an id
pub record IsUnknown (id : ℕ) (past : List Happening) : Type 0 where
  pub told : told_of id past ≡ nothing_told
  pub left : (gap : ℕ) → left_since gap id past ≡ false

pub record Agreed (id : ℕ) (s : LineState) (past : List Happening) : Type 0 where
  pub holds : Holds (view_of id s) (told_of id past) (λ gap. left_since gap id past)
  pub known : IsOld 1 s.machines id ⊎ IsUnknown id past

-- a board that comes from another lane: no machine has a mark of it; and if it is the one that is
-- looked at, nothing was told of it
abbrev pub Comes : ℕ → List Happening → LineState → List Happening → Request → Type 0
Comes id past s done (gives machine (inputs.Gets board)) =
    (board.id ≡ id → list_any (came_in id) done ≡ true → IsUnknown id past)
    × ((mark : Mark) → HasMark (stand_of s) board.id mark → ⊥)
Comes id past s done request = Unit {0}

-- a line of a script, of an id
pub record Passing (id : ℕ) (t t2 : Trace) (before next : LineState) (done past : List Happening) : Type 0 where
  pub st : Stands t before
  pub one : HasOneStanding before
  pub facts : HasCustodyFacts before
  pub st2 : Stands t2 next
  pub one2 : HasOneStanding next
  pub facts2 : HasCustodyFacts next
  pub goes : Goes before next (done ++ standings_told before next)
  pub news : AreNews t before (done ++ standings_told before next)
  pub was : Agreed id before past
  pub watched : IsWatched before
  pub watched2 : IsWatched next

-- ---- a mark is of an id that was made

pub old_mark : (t : Trace) (s : LineState) (id machine : ℕ) → Stands t s
    → IsMarked (view_of id s) machine → IsOld 1 s.machines id
old_mark t s id machine st (inl kept) =
    mark_old st (has_kept {m = machine} (id_kept id (node_at s machine).lane.body.kept kept))
old_mark t s id machine st (inr (inl held)) =
    let found = id_held id _ held in
    mark_old st (has_outlet {m = machine} found.1 found.2)
old_mark t s id machine st (inr (inr taken)) =
    let found = id_held id _ taken in
    mark_old st (has_intake {m = machine} found.1 found.2)

-- ---- lines in which no machine makes a step

pub same_self : (v : View) → IsSame v v
same_self v = record {
  kept = λ i. refl;
  held = λ i. refl;
  taken = λ i. refl;
  leaving = λ i. refl;
  missing = λ i. refl;
  off = refl;
}

told_is : (id : ℕ) (past done : List Happening)
    → told_of id (past ++ done) ≡ told_after id done (told_of id past)
told_is id past done = after_append id past done nothing_told

left_is : (gap id : ℕ) (past done : List Happening)
    → left_since gap id (past ++ done) ≡ since_after gap id done (left_since gap id past)
left_is gap id past done = left_after_append gap id past done false

unknown_silent : (id : ℕ) (past done : List Happening) → IsSilent done → IsUnknown id past
    → IsUnknown id (past ++ done)
unknown_silent id past done silent un = record {
  told = told_is id past done ∙ silent.told id (told_of id past) ∙ un.told;
  left = λ gap. left_is gap id past done ∙ silent.left gap id (left_since gap id past) ∙ un.left gap;
}

known_silent : (id : ℕ) (before next : LineState) (past done : List Happening) → IsSilent done
    → ((x : ℕ) → IsOld 1 before.machines x → IsOld 1 next.machines x)
    → IsOld 1 before.machines id ⊎ IsUnknown id past
    → IsOld 1 next.machines id ⊎ IsUnknown id (past ++ done)
known_silent id before next past done silent olds (inl old) = inl (olds id old)
known_silent id before next past done silent olds (inr un) = inr (unknown_silent id past done silent un)

pub still_agrees : (id : ℕ) (before next : LineState) (past done : List Happening)
    → IsSilent done → IsSame (view_of id before) (view_of id next)
    → ((x : ℕ) → IsOld 1 before.machines x → IsOld 1 next.machines x)
    → Agreed id before past → Agreed id next (past ++ done)
still_agrees id before next past done silent same olds was = record {
  holds = subst (λ (x : Told). Holds (view_of id next) x (λ gap. left_since gap id (past ++ done)))
      (sym (told_is id past done ∙ silent.told id (told_of id past)))
      (holds_as (view_of id before) (view_of id next) (told_of id past) (λ gap. left_since gap id past)
      (λ gap. left_since gap id (past ++ done)) same
      (λ gap. left_is gap id past done ∙ silent.left gap id (left_since gap id past)) was.holds);
  known = known_silent id before next past done silent olds was.known;
}

pub moved_agrees : (id : ℕ) (t t2 : Trace) (before next : LineState) (done past : List Happening)
    → Passing id t t2 before next done past → IsSilent done
    → IsMoved (view_of id before) (view_of id next) → Agreed id next (past ++ done)
moved_agrees id t t2 before next done past p silent moved = record {
  holds = subst (λ (x : Told). Holds (view_of id next) x (λ gap. left_since gap id (past ++ done)))
      (sym (told_is id past done ∙ silent.told id (told_of id past)))
      (holds_as (view_of id next) (view_of id next) (told_of id past) (λ gap. left_since gap id past)
      (λ gap. left_since gap id (past ++ done)) (same_self (view_of id next))
      (λ gap. left_is gap id past done ∙ silent.left gap id (left_since gap id past))
      (moving (view_of id before) (view_of id next) (told_of id past) (λ gap. left_since gap id past) p.was.holds
      (sole_of t before id p.st p.one) (placed_of t2 next id p.st2 p.one2 p.facts2) moved));
  known = known_silent id before next past done silent p.goes.olds p.was.known;
}

-- of the same, from what holds of the parts
pub agreed_by : (id : ℕ) (next : LineState) (past done : List Happening)
    → Holds (view_of id next) (told_after id done (told_of id past))
    (λ gap. since_after gap id done (left_since gap id past))
    → IsOld 1 next.machines id ⊎ ((told_after id done (told_of id past) ≡ nothing_told)
    × ((gap : ℕ) → since_after gap id done (left_since gap id past) ≡ false))
    → Agreed id next (past ++ done)
agreed_by id next past done holds known = record {
  holds = subst (λ (x : Told). Holds (view_of id next) x (λ gap. left_since gap id (past ++ done)))
      (sym (told_is id past done))
      (holds_as (view_of id next) (view_of id next) (told_after id done (told_of id past))
      (λ gap. since_after gap id done (left_since gap id past)) (λ gap. left_since gap id (past ++ done))
      (same_self (view_of id next)) (λ gap. left_is gap id past done) holds);
  known = elim known [
    | inl old ↦ inl old
    | inr un ↦ inr (record {
      told = told_is id past done ∙ un.0;
      left = λ gap. left_is gap id past done ∙ un.1 gap;
    })
  ];
}

pub unknown_parts : (id : ℕ) (s : LineState) (past : List Happening)
    → IsOld 1 s.machines id ⊎ IsUnknown id past
    → IsOld 1 s.machines id ⊎ ((told_of id past ≡ nothing_told) × ((gap : ℕ) → left_since gap id past ≡ false))
unknown_parts id s past (inl old) = inl old
unknown_parts id s past (inr un) = inr (un.told, un.left)

-- ---- a machine that is not supervised has no mark

or_false : (a b c : Bool) → ((a || (b || c)) ≡ true → ⊥) → (a ≡ false) × ((b ≡ false) × (c ≡ false))
or_false false false false not = (refl, (refl, refl))
or_false true b c not = absurd (not refl)
or_false false true c not = absurd (not refl)
or_false false false true not = absurd (not refl)

pub unmarked : (s : LineState) (machine : ℕ) → IsWatched s → (node_at s machine).supervised ≡ false
    → (x : ℕ) → (keeps_it x (node_at s machine).lane.body ≡ false)
    × ((holds_it x (node_at s machine).lane.body ≡ false) × (takes_it x (node_at s machine).lane.body ≡ false))
unmarked s machine watched off x =
    or_false (is_kept_at s machine x) (is_held_at s machine x) (is_taken_at s machine x)
    (λ marked. false≢true (sym off ∙ watched machine x marked))

-- a step leaves whether a machine is supervised, but that of the input that says so
abbrev pub IsTold : Input → Type 0
IsTold (inputs.Supervise on) = ⊥
IsTold _ = Unit {0}

still_supervised : (input : Input) (was : Bool) → IsTold input → supervised_after input was ≡ was
still_supervised (inputs.Supervise on) was is = absurd is
still_supervised _ was is = refl

told_or_not : (input : Input) → ((on : Bool) × (input ≡ inputs.Supervise on)) ⊎ IsTold input
told_or_not (inputs.Supervise on) = inl (on, refl)
told_or_not _ = inr tt

-- ---- one step of a machine, of the line `start` that has the floor and the machines of the line before

pub record Starts (before start : LineState) : Type 0 where
  pub stands : (k : ℕ) → stand_at start k ≡ stand_at before k
  pub boards : boards_of start ≡ boards_of before

pub same_start : (id : ℕ) (before start : LineState) → Starts before start
    → IsSame (view_of id before) (view_of id start)
same_start id before start s = record {
  kept = λ i. ap (λ (x : Stand). keeps_it id x.node.lane.body) (s.stands i);
  held = λ i. ap (λ (x : Stand). holds_it id x.node.lane.body) (s.stands i);
  taken = λ i. ap (λ (x : Stand). takes_it id x.node.lane.body) (s.stands i);
  leaving = λ i. ap (λ (x : Stand). will_leave x.place.unread) (s.stands i);
  missing = λ i. ap (λ (x : Stand). misses_it x.node.lane.body x.place.unread) (s.stands i);
  off = ap (λ (boards : List Board). counted id boards == 0) s.boards;
}

-- what hands do in the step
pub record HandFacts (id number j : ℕ) (input : Input) (start next : LineState) (done : List Happening)
    (told : Told) (left : ℕ → Bool)
    (steps : MachineSteps number (j + 1) input start next done) : Type 0 where
  pub seen : IsSeen id number j input start next done steps
  pub hand : list_any (takes_out id) (plain_of number (j + 1) input start next done steps) ≡ true
      → keeps_it id steps.node.lane.body ≡ true
  pub new : list_any (brings_in id) (plain_of number (j + 1) input start next done steps) ≡ true
      → (told ≡ nothing_told) × (((i : ℕ) → left i ≡ false)
      × (((i : ℕ) → (view_of id start).kept i ≡ false)
      × (((i : ℕ) → (view_of id start).held i ≡ false)
      × ((i : ℕ) → (view_of id start).taken i ≡ false))))
  pub out : list_any (takes_out id) (plain_of number (j + 1) input start next done steps) ≡ true
      → (view_of id next).off ≡ true
  pub still : list_any (takes_out id) (plain_of number (j + 1) input start next done steps) ≡ false
      → list_any (brings_in id) (plain_of number (j + 1) input start next done steps) ≡ false
      → (view_of id next).off ≡ (view_of id start).off

-- the machine above has what it had
from_above : (id j : ℕ) (start next : LineState) → stand_at next j ≡ stand_at start j
    → IsFrom j (view_of id next) (view_of id next).off
    → IsFrom j (view_of id start) (view_of id next).off
from_above id j start next up (inl kept) =
    inl (ap (λ (s : Stand). keeps_it id s.node.lane.body) (sym up) ∙ kept)
from_above id j start next up (inr (inl held)) =
    inr (inl (ap (λ (s : Stand). holds_it id s.node.lane.body) (sym up) ∙ held))
from_above id j start next up (inr (inr gone)) = inr (inr gone)

-- the last step of a line: the machine above it is as it was
pub last_around : (id number j : ℕ) (input : Input) (t t2 : Trace) (before start next : LineState) (done : List Happening)
    (told : Told) (left : ℕ → Bool) → Stands t before → Stands t2 next → HasOneStanding next
    → stand_at start (j + 1) ≡ stand_at before (j + 1) → stand_at start j ≡ stand_at before j
    → (view_of id start).off ≡ (view_of id before).off
    → (steps : MachineSteps number (j + 1) input start next done)
    → HandFacts id number j input start next done told left steps
    → Around id number j input t before start next done told left steps
last_around id number j input t t2 before start next done told left st st2 one2 own above floor steps hands =
    let mine = own_step number j input start next done steps in
    let apart : j ≢ j + 1 = omega arith in
    let up : stand_at next j ≡ stand_at start j = mine.others j apart in
    record {
      stands = st;
      own = own;
      above = above;
      floor = floor;
      seen = hands.seen;
      hand = hands.hand;
      alone = λ taken ends has.
          (let none = alone_of t2 next id j st2 one2 has in (
            ap (λ (s : Stand). keeps_it id s.node.lane.body) (sym up) ∙ none.0,
            (
              ap (λ (s : Stand). holds_it id s.node.lane.body) (sym up) ∙ none.1,
              has_on t2 next id (j + 1) st2 mine.read has,
            ),
          ));
      new = hands.new;
      out = hands.out;
      still = hands.still;
      there = λ takes starts holds.
          started_there t2 next id j st2 mine.read takes starts
          (ap (λ (s : Stand). holds_it id s.node.lane.body) up ∙ holds);
      from = λ takes starts.
          from_above id j start next up (started_from t2 next id j st2 mine.read takes starts);
      on = kept_on t2 next id j st2;
    }

-- a step that no hand has a part in
handless_event : (id : ℕ) (maker : Maker) (input : Input) (words : List Word) → IsHandless input
    → (TakesOut id (event_of maker input words) → ⊥) × (BringsIn id (event_of maker input words) → ⊥)
handless_event id maker (inputs.Insert barcode) words free = absurd free
handless_event id maker (inputs.Remove other) words free = absurd free
handless_event id maker (inputs.Replace other) words free = absurd free
handless_event id maker (inputs.Gives other to) words free = absurd free
handless_event id maker (inputs.Gets board) words free = absurd free
handless_event id maker _ words free = (λ is. elim is [ ], λ is. elim is [ ])

pub handless_acts : (id number j : ℕ) (input : Input) (start next : LineState) (done : List Happening)
    → (steps : MachineSteps number (j + 1) input start next done) → IsHandless input
    → (list_any (takes_out id) (plain_of number (j + 1) input start next done steps) ≡ true → ⊥)
    × (list_any (brings_in id) (plain_of number (j + 1) input start next done steps) ≡ true → ⊥)
handless_acts id number j input start next done steps free =
    let desk = desk_of steps.node (moment_of number) in
    let unread : List Sensed = unread_by (j + 1) start.world in
    let event : Event = event_of steps.node.maker input steps.steps.lane.words in
    let none = handless_event id steps.node.maker input steps.steps.lane.words free in (
      λ is. none.0 (outs_are id desk event _ (sym (step_outs id desk unread event steps.node.lane.body) ∙ is)),
      λ is. none.1 (ins_are id desk event _ (sym (step_ins id desk unread event steps.node.lane.body) ∙ is)),
    )

-- whether the machine is supervised, by what its line says before and behind
pub seen_by : (id number j : ℕ) (input : Input) (before start next last : LineState) (done : List Happening)
    → (steps : MachineSteps number (j + 1) input start next done)
    → IsWatched before → IsWatched last → stand_at start (j + 1) ≡ stand_at before (j + 1)
    → stand_at last (j + 1) ≡ stand_at next (j + 1)
    → (view_of id next).off ≡ (view_of id start).off
    → (on : Bool) → steps.node.supervised ≡ on
    → IsSeen id number j input start next done steps
seen_by id number j input before start next last done steps watched watched2 own late same true is =
    is_watched is
seen_by id number j input before start next last done steps watched watched2 own late same false is =
    let mine = own_step number j input start next done steps in
    let node_is : node_at before (j + 1) ≡ steps.node = sym (ap (λ (s : Stand). s.node) own) ∙ mine.was in
    let off : (node_at before (j + 1)).supervised ≡ false = ap (λ (n : NodeState). n.supervised) node_is ∙ is in
    let none = unmarked before (j + 1) watched off in
    is_unwatched is
    (λ x. (
      ap (λ (n : NodeState). keeps_it x n.lane.body) (sym node_is) ∙ (none x).0,
      (
        ap (λ (n : NodeState). holds_it x n.lane.body) (sym node_is) ∙ (none x).1.0,
        ap (λ (n : NodeState). takes_it x n.lane.body) (sym node_is) ∙ (none x).1.1,
      ),
    ))
    (then_none (told_or_not input)) same where
      next_is : node_at last (j + 1) ≡ steps.next
      next_is = ap (λ (s : Stand). s.node) late
          ∙ node_there (j + 1) next steps.next (ap (machine_in (j + 1)) steps.after_is
          ∙ machine_set_own (j + 1) start steps.node steps.next steps.there)

      then_none : ((on : Bool) × (input ≡ inputs.Supervise on)) ⊎ IsTold input
          → ((x : ℕ) → keeps_it x (node_at next (j + 1)).lane.body ≡ false)
          ⊎ IsNoHand (event_of steps.node.maker input steps.steps.lane.words)
      then_none (inl on) =
          inr (subst (λ (i : Input). IsNoHand (event_of steps.node.maker i steps.steps.lane.words)) (sym on.1) tt)
      then_none (inr plain) =
          let off2 : (node_at last (j + 1)).supervised ≡ false =
          ap (λ (n : NodeState). n.supervised) next_is ∙ steps.steps.supervised
          ∙ still_supervised input steps.node.supervised plain ∙ is in
          inl (λ x. ap (λ (s : Stand). keeps_it x s.node.lane.body) (sym late) ∙ (unmarked last (j + 1) watched2 off2 x).0)

-- ---- what is known of an id behind a step

known_step : (id j : ℕ) (t t2 : Trace) (before start next : LineState) (done past : List Happening)
    → Stands t before → Stands t2 next → stand_at start (j + 1) ≡ stand_at before (j + 1)
    → ((x : ℕ) → IsOld 1 before.machines x → IsOld 1 next.machines x)
    → (told : Told) (left : ℕ → Bool) → Behind id j start next done told left
    → IsOld 1 before.machines id ⊎ ((told ≡ nothing_told) × ((gap : ℕ) → left gap ≡ false))
    → IsOld 1 next.machines id ⊎ ((told_after id done told ≡ nothing_told)
    × ((gap : ℕ) → since_after gap id done (left gap) ≡ false))
known_step id j t t2 before start next done past st st2 own olds told left behind (inl old) =
    inl (olds id old)
known_step id j t t2 before start next done past st st2 own olds told left behind (inr un) =
    elim behind.known [
      | inl same ↦ inr (same.0 ∙ un.0, λ gap. same.1 gap ∙ un.1 gap)
      | inr marked ↦ inl (elim marked [
        | inl was ↦ olds id (old_mark t before id (j + 1) st
            (subst (λ (s : Stand). (keeps_it id s.node.lane.body ≡ true)
            ⊎ ((holds_it id s.node.lane.body ≡ true) ⊎ (takes_it id s.node.lane.body ≡ true))) own was))
        | inr now ↦ old_mark t2 next id (j + 1) st2 now
      ])
    ]

-- ---- THE LINE OF ONE STEP

pub one_step : (id number j : ℕ) (input : Input) (t t2 : Trace) (before start next : LineState) (done past : List Happening)
    → Passing id t t2 before next done past → Starts before start
    → (steps : MachineSteps number (j + 1) input start next done)
    → HandFacts id number j input start next done (told_of id past) (λ gap. left_since gap id past) steps
    → Agreed id next (past ++ done)
one_step id number j input t t2 before start next done past p s steps hands =
    let same = same_start id before start s in
    let told : Told = told_of id past in
    let left : ℕ → Bool = λ gap. left_since gap id past in
    let around =
    last_around id number j input t t2 before start next done told left p.st p.st2 p.one2 (s.stands (j + 1)) (s.stands j)
    same.off steps hands in
    let behind =
    step_behind id number j input t before start next done told left steps around
    (holds_as (view_of id before) (view_of id start) told left left same (λ gap. refl) p.was.holds)
    (sole_as (view_of id before) (view_of id start) same (sole_of t before id p.st p.one))
    (placed_as (view_of id before) (view_of id start) same (placed_of t before id p.st p.one p.facts)) in
    agreed_by id next past done behind.holds
    (known_step id j t t2 before start next done past p.st p.st2 (s.stands (j + 1)) p.goes.olds told left behind
    (unknown_parts id before past p.was.known))

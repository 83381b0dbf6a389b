-- The lines in which one machine makes a step: of no hand, and of a hand.
use Rattle.std.proofs.Common.{◌≡◌, ◌≢◌, ◌≤◌, ◌∙◌, ◌++◌, ◌+◌, ◌==◌, ◌||◌, ℕ, Bool, true, false, List, Option, Some, Result, Ok, Err, inl, inr, refl, subst, sym, ap, arith, not}
use Rattle.std.specs.List.{list_any}
use Rattle.std.proofs.lemmas.Bool.{false≢true, false_from_ne_true}
use Rattle.law_one_standing.proofs.RestLine.{node_there}
use Rattle.law_one_standing.proofs.HandSteps.{own_gone}
use Rattle.board_record.specs.Maker.{next_id}
use Rattle.board_record.specs.declared.maker.IdsUsedUp.{IdsUsedUp}
use Rattle.board_record.specs.declared.record.Record.{Record}
use Rattle.board_record.specs.declared.sensed.Sensed.{Sensed}
use Rattle.line_world.specs.declared.board.Board.{Board}
use Rattle.node_core.specs.Boards.{is_kept}
use Rattle.node_core.specs.Event.{Event, Gets, Gives, Insert, Remove, Replace, event_of, with_new}
use Rattle.node_core.specs.May as own
use Rattle.node_core.specs.May.{may_of}
use Rattle.node_core.specs.declared.input.No.{No}
use Rattle.node_core.specs.Node.{NodeState, desk_of}
use Rattle.node_core.specs.Step.{plain_step}
use Rattle.node_core.specs.declared.input.Input.{Input}
use Rattle.node_core.specs.declared.input.Input.TheVariants as inputs
use Rattle.line_report.specs.declared.happening.Happening.{Happening}
use Rattle.line_step.specs.FloorIds.{boards_of}
use Rattle.line_step.specs.Numbered.{node_at, stand_at}
use Rattle.line_step.specs.Reasons.{behind_own, is_here, may_do, may_remove, may_replace, no_if}
use Rattle.line_report.specs.declared.happening.Reason.TheVariants as reasons
use Rattle.line_step.specs.Shown.{standings_told}
use Rattle.line_step.specs.State.{LineState, machine_in}
use Rattle.line_step.specs.Steps.{MachineSteps, moment_of, unread_by}
use Rattle.line_step.proofs.FloorLaws.{Holds as FloorHolds, IsHandless, plain_of}
use Rattle.step_rules.specs.Makers.{IsOld}
use Rattle.line_step.proofs.Numbers.{machine_set_own}
use Rattle.law_one_standing.specs.Carried.{Trace}
use Rattle.law_one_standing.specs.Places.{at_machine, lies_at}
use Rattle.law_one_standing.proofs.ApartFloor.{counted}
use Rattle.law_one_standing.proofs.ApartHands.{step_still}
use Rattle.law_one_standing.proofs.ApartStep.{
  Parted,
  all_lost_count,
  apart_removed,
  apart_replaced,
  gives_loses,
  gone_count,
  grown,
}
use Rattle.law_one_standing.proofs.LedgerWalk.{kept_ids}
use Rattle.law_one_standing.proofs.LineForms.{numbered}
use Rattle.line_step.proofs.Getting.{gives_can, own_first, there_may}
use Rattle.line_step.specs.Requests.{may_get}
use Rattle.standings.specs.declared.mark.Mark.{Mark}
use Rattle.law_one_standing.specs.Carried.{stand_of}
use Rattle.law_one_standing.proofs.ApartFloor.{lies_on_floor}
use Rattle.law_one_standing.proofs.MarksOf.{HasMark, has_intake, has_kept, has_outlet, id_held, id_kept}
use Rattle.step_rules.specs.Acts.{OfEvent}
use Rattle.node_core.specs.Desk.{Desk}
use Rattle.node_core.specs.Reads.{all_read}
use Rattle.law_supervisor_replay.specs.Replay.{IsWatched, Told, came_in, nothing_told, told_of}
use Rattle.law_supervisor_replay.proofs.Since.{left_since}
use Rattle.law_supervisor_replay.proofs.Bodies.{brings_in, holds_it, keeps_it, takes_it, takes_out}
use Rattle.law_supervisor_replay.proofs.Floors.{comes_not, may_bring, may_lose, stays_there}
use Rattle.law_supervisor_replay.proofs.Hands.{BringsIn, GetsNone, TakesOut, brings_none, got_told, in_got, in_inserted, ins_are, is_given, is_removed, is_replaced, looks_brought, looks_lost, loses_none, made_first, out_before, out_given, out_removed, out_replaced, outs_are, step_any, step_ins, step_makes, step_out, step_outs, with_standings}
use Rattle.law_supervisor_replay.proofs.Inserted.{got_kept, inserted_kept}
use Rattle.law_supervisor_replay.proofs.Lines.{
  Agreed,
  HandFacts,
  IsUnknown,
  Passing,
  Starts,
  handless_acts,
  old_mark,
  one_step,
  seen_by,
}
use Rattle.law_supervisor_replay.proofs.Sights.{view_of}
use Rattle.law_supervisor_replay.proofs.Stepped.{IsMarked, IsSeen, is_watched, own_step}

-- ---- of no hand

same_floor : (id : ℕ) (start next : LineState) → boards_of next ≡ boards_of start
    → (view_of id next).off ≡ (view_of id start).off
same_floor id start next same = ap (λ (boards : List Board). counted id boards == 0) same

-- the line of the step is the last of its script line
pub handless_facts : (id number j : ℕ) (input : Input) (before start next : LineState) (done : List Happening)
    (told : Told) (left : ℕ → Bool) → IsWatched before → IsWatched next
    → stand_at start (j + 1) ≡ stand_at before (j + 1) → FloorHolds start → IsHandless input
    → (steps : MachineSteps number (j + 1) input start next done)
    → HandFacts id number j input start next done told left steps
handless_facts id number j input before start next done told left watched watched2 own floor free steps =
    let none = handless_acts id number j input start next done steps free in
    let still = step_still number (j + 1) input start next done free floor steps in
    let same = same_floor id start next still.boards in
    record {
      seen = seen_by id number j input before start next next done steps watched watched2 own refl same
          steps.node.supervised refl;
      hand = λ is. absurd (none.0 is);
      new = λ is. absurd (none.1 is);
      out = λ is. absurd (none.0 is);
      still = λ out brought. same;
    }

pub handless_line : (id number machine : ℕ) (input : Input) (t t2 : Trace) (before start next : LineState)
    (done past : List Happening) → Passing id t t2 before next done past → Starts before start → FloorHolds start
    → IsHandless input → MachineSteps number machine input start next done → Agreed id next (past ++ done)
handless_line id number machine input t t2 before start next done past p s floor free steps =
    numbered (λ (m : ℕ). MachineSteps number m input start next done → Agreed id next (past ++ done)) machine start
    steps.node steps.there
    (λ j own. one_step id number j input t t2 before start next done past p s own
    (handless_facts id number j input before start next done (told_of id past) (λ gap. left_since gap id past) p.watched
    p.watched2 (s.stands (j + 1)) floor free own))
    steps

pub same_line : (before : LineState) → Starts before before
same_line before = record { stands = λ k. refl; boards = refl }

-- ---- of a hand

-- what goes by hand was kept
out_kept : (id number j : ℕ) (input : Input) (before next : LineState) (done : List Happening)
    → (steps : MachineSteps number (j + 1) input before next done)
    → ((old : ℕ) → TakesOut old (event_of steps.node.maker input steps.steps.lane.words)
    → is_kept old steps.node.lane.body.kept ≡ true)
    → list_any (takes_out id) (plain_of number (j + 1) input before next done steps) ≡ true
    → keeps_it id steps.node.lane.body ≡ true
out_kept id number j input before next done steps kept is =
    let desk = desk_of steps.node (moment_of number) in
    let unread : List Sensed = unread_by (j + 1) before.world in
    let event : Event = event_of steps.node.maker input steps.steps.lane.words in
    let out = outs_are id desk event _ (sym (step_outs id desk unread event steps.node.lane.body) ∙ is) in
    sym (kept_ids id steps.node.lane.body.kept) ∙ kept id out

-- nothing is known of what comes by hand
new_unknown : (id number j : ℕ) (input : Input) (t t2 : Trace) (before next : LineState) (done past : List Happening)
    → Passing id t t2 before next done past → (steps : MachineSteps number (j + 1) input before next done)
    → OfEvent (GetsNone id) (desk_of steps.node (moment_of number)) (event_of steps.node.maker input steps.steps.lane.words)
    → list_any (brings_in id) (plain_of number (j + 1) input before next done steps) ≡ true
    → (told_of id past ≡ nothing_told) × (((gap : ℕ) → left_since gap id past ≡ false)
    × (((i : ℕ) → (view_of id before).kept i ≡ false)
    × (((i : ℕ) → (view_of id before).held i ≡ false)
    × ((i : ℕ) → (view_of id before).taken i ≡ false))))
new_unknown id number j input t t2 before next done past p steps own is =
    let P : ℕ → Type 0 = λ made. (other : ℕ) → IsOld 1 before.machines other → other ≢ made in
    let fresh : P id =
    step_makes id number (j + 1) input before next done P steps
    (made_first done (standings_told before next) P p.goes.fresh) own is in
    let never : IsOld 1 before.machines id → ⊥ = λ old. fresh id old refl in
    let unknown : IsUnknown id past = elim p.was.known [ inl old ↦ absurd (never old) | inr un ↦ un ] in (
      unknown.told,
      (
        unknown.left,
        (
          λ i. false_from_ne_true ((view_of id before).kept i) (λ has. never (old_mark t before id i p.st (inl has))),
          (
            λ i. false_from_ne_true ((view_of id before).held i) (λ has. never (old_mark t before id i p.st (inr (inl has)))),
            λ i. false_from_ne_true ((view_of id before).taken i) (λ has. never (old_mark t before id i p.st (inr (inr has)))),
          ),
        ),
      ),
    )

out_off : (id number j : ℕ) (input : Input) (t t2 : Trace) (before next : LineState) (done past : List Happening)
    → Passing id t t2 before next done past → (steps : MachineSteps number (j + 1) input before next done)
    → keeps_it id steps.node.lane.body ≡ true
    → list_any (takes_out id) (plain_of number (j + 1) input before next done steps) ≡ true
    → (view_of id next).off ≡ true
out_off id number j input t t2 before next done past p steps kept is =
    let all : List Happening = done ++ standings_told before next in
    let mine = own_step number j input before next done steps in
    let here = p.one.kept_here (j + 1) id (ap (λ (n : NodeState). keeps_it id n.lane.body) mine.was ∙ kept) in
    let t3 : Trace = record t { gone = grown (j + 1) id t.gone } in
    let parted : Parted t before = record { apart = p.st.keeps.apart; olds = p.st.olds } in
    let none : counted id (boards_of next) ≡ 0 =
    elim (out_before (standings_told before next) (step_out id number (j + 1) input before next done steps is)) [
      | is_removed told ↦
          (let then = apart_removed t t3 before next all (j + 1) id (at_machine (j + 1)) p.st.ids p.goes p.news told (lies_at here)
          (λ k y. refl) parted in
          gone_count t3 next (j + 1) id (record { apart = then.apart; olds = then.olds }) (own_gone (j + 1) id t.gone))
      | is_replaced new told ↦
          (let then = apart_replaced t t3 before next all (j + 1) id new (at_machine (j + 1)) p.st.ids p.goes p.news told (lies_at here)
          (λ k y. refl) parted in
          gone_count t3 next (j + 1) id (record { apart = then.apart; olds = then.olds }) (own_gone (j + 1) id t.gone))
      | is_given to told ↦
          (let some = lies_on_floor t before id (at_machine (j + 1)) p.st.ids.whole (lies_at here) in
          let fewer = all_lost_count told id (boards_of before) (boards_of next) (gives_loses (j + 1) id to) p.goes.change (p.news.lies id some) in
          let most = p.st.ids.differ.once id in
          omega (arith, fewer, most))
    ] in
    ap (λ (n : ℕ). n == 0) none

-- and a board that no hand touches is where it was
pub same_count : (a b : ℕ) → a ≤ b → b ≤ a → (a == 0) ≡ (b == 0)
same_count a b one two = let same : a ≡ b = omega (arith, one, two) in ap (λ (n : ℕ). n == 0) same

untouched : (id number j : ℕ) (input : Input) (t t2 : Trace) (before next : LineState) (done past : List Happening)
    → Passing id t t2 before next done past → (steps : MachineSteps number (j + 1) input before next done)
    → list_any (takes_out id) (plain_of number (j + 1) input before next done steps) ≡ false
    → list_any (brings_in id) (plain_of number (j + 1) input before next done steps) ≡ false
    → (view_of id next).off ≡ (view_of id before).off
untouched id number j input t t2 before next done past p steps out brought =
    let all : List Happening = done ++ standings_told before next in
    let loses : list_any (may_lose id) all ≡ false =
    with_standings (may_lose id) (loses_none id) done before next
    ∙ step_any (may_lose id) (takes_out id) (looks_lost id) (λ message. refl) (λ signal on. refl) number (j + 1) input
    before next done steps ∙ out in
    let brings : list_any (may_bring id) all ≡ false =
    with_standings (may_bring id) (brings_none id) done before next
    ∙ step_any (may_bring id) (brings_in id) (looks_brought id) (λ message. refl) (λ signal on. refl) number (j + 1) input
    before next done steps ∙ brought in
    same_count (counted id (boards_of next)) (counted id (boards_of before))
    (comes_not id before next all p.goes brings) (stays_there id before next all p.goes loses)

-- the machine is supervised, or no hand changes its boards
hand_seen : (id number j : ℕ) (input : Input) (t t2 : Trace) (before next : LineState) (done past : List Happening)
    → Passing id t t2 before next done past → (steps : MachineSteps number (j + 1) input before next done)
    → (list_any (takes_out id) (plain_of number (j + 1) input before next done steps) ≡ true
    → steps.node.supervised ≡ true)
    → (list_any (brings_in id) (plain_of number (j + 1) input before next done steps) ≡ true
    → steps.node.supervised ≡ true)
    → (on : Bool) → steps.node.supervised ≡ on → IsSeen id number j input before next done steps
hand_seen id number j input t t2 before next done past p steps out brought true is = is_watched is
hand_seen id number j input t t2 before next done past p steps out brought false is =
    let outs = list_any (takes_out id) (plain_of number (j + 1) input before next done steps) in
    let ins = list_any (brings_in id) (plain_of number (j + 1) input before next done steps) in
    let no_out : outs ≡ false = false_from_ne_true outs (λ has. false≢true (sym is ∙ out has)) in
    let no_in : ins ≡ false = false_from_ne_true ins (λ has. false≢true (sym is ∙ brought has)) in
    seen_by id number j input before before next next done steps p.watched p.watched2 refl refl
    (untouched id number j input t t2 before next done past p steps no_out no_in) false is

-- a machine that keeps a board is supervised
kept_watched : (s : LineState) (machine id : ℕ) → IsWatched s → keeps_it id (node_at s machine).lane.body ≡ true
    → (node_at s machine).supervised ≡ true
kept_watched s machine id watched kept = watched machine id (or_first (is_marked_rest s machine id) kept) where
  is_marked_rest : LineState → ℕ → ℕ → Bool
  is_marked_rest s machine id = holds_it id (node_at s machine).lane.body || takes_it id (node_at s machine).lane.body

  or_first : {a : Bool} (b : Bool) → a ≡ true → (a || b) ≡ true
  or_first b is = rw is refl

hand_line : (id number j : ℕ) (input : Input) (t t2 : Trace) (before next : LineState) (done past : List Happening)
    → Passing id t t2 before next done past → (steps : MachineSteps number (j + 1) input before next done)
    → ((old : ℕ) → TakesOut old (event_of steps.node.maker input steps.steps.lane.words)
    → is_kept old steps.node.lane.body.kept ≡ true)
    → (list_any (brings_in id) (plain_of number (j + 1) input before next done steps) ≡ true
    → steps.node.supervised ≡ true)
    → (list_any (brings_in id) (plain_of number (j + 1) input before next done steps) ≡ true
    → (told_of id past ≡ nothing_told) × (((gap : ℕ) → left_since gap id past ≡ false)
    × (((i : ℕ) → (view_of id before).kept i ≡ false)
    × (((i : ℕ) → (view_of id before).held i ≡ false)
    × ((i : ℕ) → (view_of id before).taken i ≡ false)))))
    → Agreed id next (past ++ done)
hand_line id number j input t t2 before next done past p steps kept brought new =
    let mine = own_step number j input before next done steps in
    let hand = out_kept id number j input before next done steps kept in
    let watched : list_any (takes_out id) (plain_of number (j + 1) input before next done steps) ≡ true
    → steps.node.supervised ≡ true =
    λ is. ap (λ (n : NodeState). n.supervised) (sym mine.was)
    ∙ kept_watched before (j + 1) id p.watched (ap (λ (n : NodeState). keeps_it id n.lane.body) mine.was ∙ hand is) in
    one_step id number j input t t2 before before next done past p (same_line before) steps (record {
      seen = hand_seen id number j input t t2 before next done past p steps watched brought steps.node.supervised refl;
      hand = hand;
      new = new;
      out = λ is. out_off id number j input t t2 before next done past p steps (hand is) is;
      still = untouched id number j input t t2 before next done past p steps;
    })

-- ---- the hands

-- an insertion takes none out
insert_out : (old : ℕ) (barcode : Option (List ℕ)) (found : Result ℕ IdsUsedUp) {X : Type 0}
    → TakesOut old (with_new found (λ id. Insert id barcode)) → X
insert_out old barcode (Ok id) out = elim out [ ]
insert_out old barcode (Err why) out = elim out [ ]

insert_gets : (id : ℕ) (barcode : Option (List ℕ)) (desk : Desk) (found : Result ℕ IdsUsedUp)
    → OfEvent (GetsNone id) desk (with_new found (λ new. Insert new barcode))
insert_gets id barcode desk (Ok new) = refl
insert_gets id barcode desk (Err why) = tt

insert_event : (id : ℕ) (barcode : Option (List ℕ)) (found : Result ℕ IdsUsedUp)
    → BringsIn id (with_new found (λ new. Insert new barcode))
    → with_new found (λ new. Insert new barcode) ≡ Insert id barcode
insert_event id barcode (Ok new) (in_inserted) = refl
insert_event id barcode (Err why) is = elim is [ ]

pub insert_line : (id number machine : ℕ) (barcode : Option (List ℕ)) (t t2 : Trace) (before next : LineState)
    (done past : List Happening) → Passing id t t2 before next done past
    → MachineSteps number machine (inputs.Insert barcode) before next done → Agreed id next (past ++ done)
insert_line id number machine barcode t t2 before next done past p steps =
    numbered (λ (m : ℕ). MachineSteps number m (inputs.Insert barcode) before next done → Agreed id next (past ++ done))
    machine before steps.node steps.there (λ j own.
    hand_line id number j (inputs.Insert barcode) t t2 before next done past p own
    (λ old out. insert_out old barcode (next_id own.node.maker) out)
    (λ is. inserted_watched id number j barcode before next done own p.watched2 is)
    (new_unknown id number j (inputs.Insert barcode) t t2 before next done past p own
    (insert_gets id barcode (desk_of own.node (moment_of number)) (next_id own.node.maker)))) steps where
      inserted_watched : (id number j : ℕ) (barcode : Option (List ℕ)) (before next : LineState) (done : List Happening)
          → (steps : MachineSteps number (j + 1) (inputs.Insert barcode) before next done) → IsWatched next
          → list_any (brings_in id) (plain_of number (j + 1) (inputs.Insert barcode) before next done steps) ≡ true
          → steps.node.supervised ≡ true
      inserted_watched id number j barcode before next done steps watched is =
          let desk = desk_of steps.node (moment_of number) in
          let unread : List Sensed = unread_by (j + 1) before.world in
          let event : Event = event_of steps.node.maker (inputs.Insert barcode) steps.steps.lane.words in
          let mine = own_step number j (inputs.Insert barcode) before next done steps in
          let made = ins_are id desk event _ (sym (step_ins id desk unread event steps.node.lane.body) ∙ is) in
          let same : event ≡ Insert id barcode = insert_event id barcode (next_id steps.node.maker) made in
          let kept : keeps_it id (node_at next (j + 1)).lane.body ≡ true =
          ap (keeps_it id) mine.now
          ∙ ap (λ (e : Event). keeps_it id (plain_step desk unread e steps.node.lane.body).body) same
          ∙ inserted_kept desk unread id barcode steps.node.lane.body in
          let next_is : node_at next (j + 1) ≡ steps.next =
          node_there (j + 1) next steps.next (ap (machine_in (j + 1)) steps.after_is
          ∙ machine_set_own (j + 1) before steps.node steps.next steps.there) in
          sym steps.steps.supervised ∙ ap (λ (n : NodeState). n.supervised) (sym next_is)
          ∙ kept_watched next (j + 1) id watched kept

-- what may be taken out is kept
kept_by_may : (kept : Bool) (why : No) → own.no_if (not kept) why own.may_do ≡ own.may_do → kept ≡ true
kept_by_may true why is = refl
kept_by_may false why is = cc

may_kept : (node : NodeState) (id : ℕ) → may_of node (inputs.Remove id) ≡ own.may_do
    → is_kept id node.lane.body.kept ≡ true
may_kept node id may = kept_by_may (is_kept id node.lane.body.kept) _ may

removal_kept : (machine id : ℕ) (before : LineState) (node : NodeState) → machine_in machine before ≡ Some node
    → may_remove machine id before ≡ may_do → is_kept id node.lane.body.kept ≡ true
removal_kept machine id before node there may =
    may_kept node id (own_first (may_of node (inputs.Remove id)) _
    (there_may (machine_in machine before) node (λ n. behind_own (may_of n (inputs.Remove id))
    (no_if (not (is_here machine id before.world)) reasons.NotHere may_do)) there may))

replacing_kept : (machine id : ℕ) (before : LineState) (node : NodeState) → machine_in machine before ≡ Some node
    → may_replace machine id before ≡ may_do → is_kept id node.lane.body.kept ≡ true
replacing_kept machine id before node there may =
    may_kept node id (own_first (may_of node (inputs.Remove id)) _
    (there_may (machine_in machine before) node (λ n. behind_own (may_of n (inputs.Remove id))
    (no_if (not (is_here machine id before.world)) reasons.NotHere (behind_own (may_of n (inputs.Replace id)) may_do)))
    there may))

remove_out : (old id : ℕ) (kept : List Record) → is_kept id kept ≡ true → TakesOut old (Remove id)
    → is_kept old kept ≡ true
remove_out _ id kept is out_removed = is

remove_in : {X : Type 0} (id old : ℕ) → BringsIn id (Remove old) → X
remove_in id old is = elim is [ ]

pub remove_line : (id number machine old : ℕ) (t t2 : Trace) (before next : LineState) (done past : List Happening)
    → Passing id t t2 before next done past → may_remove machine old before ≡ may_do
    → MachineSteps number machine (inputs.Remove old) before next done → Agreed id next (past ++ done)
remove_line id number machine old t t2 before next done past p may steps =
    numbered (λ (m : ℕ). is_kept old steps.node.lane.body.kept ≡ true
    → (own : MachineSteps number m (inputs.Remove old) before next done)
    → own.node ≡ steps.node → Agreed id next (past ++ done)) machine before steps.node steps.there
    (λ j kept own same.
    hand_line id number j (inputs.Remove old) t t2 before next done past p own
    (λ other out. remove_out other old own.node.lane.body.kept
    (ap (λ (n : NodeState). is_kept old n.lane.body.kept) same ∙ kept) out)
    (λ is. remove_in id old (ins_are id (desk_of own.node (moment_of number)) (Remove old) _
    (sym (step_ins id (desk_of own.node (moment_of number)) (unread_by (j + 1) before.world) (Remove old) own.node.lane.body) ∙ is)))
    (λ is. remove_in id old (ins_are id (desk_of own.node (moment_of number)) (Remove old) _
    (sym (step_ins id (desk_of own.node (moment_of number)) (unread_by (j + 1) before.world) (Remove old) own.node.lane.body) ∙ is))))
    (removal_kept machine old before steps.node steps.there may) steps refl

replace_out : (other old : ℕ) (found : Result ℕ IdsUsedUp) (kept : List Record) → is_kept old kept ≡ true
    → TakesOut other (with_new found (Replace old)) → is_kept other kept ≡ true
replace_out other old (Ok new) kept is out_replaced = is
replace_out other old (Err why) kept is out = elim out [ ]

replace_gets : (id old : ℕ) (desk : Desk) (found : Result ℕ IdsUsedUp)
    → OfEvent (GetsNone id) desk (with_new found (Replace old))
replace_gets id old desk (Ok new) = refl
replace_gets id old desk (Err why) = tt

pub replace_line : (id number machine old : ℕ) (t t2 : Trace) (before next : LineState) (done past : List Happening)
    → Passing id t t2 before next done past → may_replace machine old before ≡ may_do
    → MachineSteps number machine (inputs.Replace old) before next done → Agreed id next (past ++ done)
replace_line id number machine old t t2 before next done past p may steps =
    numbered (λ (m : ℕ). is_kept old steps.node.lane.body.kept ≡ true
    → (own : MachineSteps number m (inputs.Replace old) before next done)
    → own.node ≡ steps.node → Agreed id next (past ++ done)) machine before steps.node steps.there
    (λ j kept own same.
    (let mine : is_kept old own.node.lane.body.kept ≡ true =
    ap (λ (n : NodeState). is_kept old n.lane.body.kept) same ∙ kept in
    let was = (own_step number j (inputs.Replace old) before next done own).was in
    hand_line id number j (inputs.Replace old) t t2 before next done past p own
    (λ other out. replace_out other old (next_id own.node.maker) own.node.lane.body.kept mine out)
    (λ is. ap (λ (n : NodeState). n.supervised) (sym was)
    ∙ kept_watched before (j + 1) old p.watched
    (ap (λ (n : NodeState). keeps_it old n.lane.body) was ∙ (sym (kept_ids old own.node.lane.body.kept) ∙ mine)))
    (new_unknown id number j (inputs.Replace old) t t2 before next done past p own
    (replace_gets id old (desk_of own.node (moment_of number)) (next_id own.node.maker)))))
    (replacing_kept machine old before steps.node steps.there may) steps refl

-- ---- a board goes to another lane, or comes from one

give_out : (other old to : ℕ) (kept : List Record) → is_kept old kept ≡ true → TakesOut other (Gives old to)
    → is_kept other kept ≡ true
give_out _ old to kept is out_given = is

give_in : {X : Type 0} (id old to : ℕ) → BringsIn id (Gives old to) → X
give_in id old to is = elim is [ ]

pub give_line : (id number machine old to : ℕ) (t t2 : Trace) (before next : LineState) (done past : List Happening)
    → Passing id t t2 before next done past → may_get machine (inputs.Gives old to) before ≡ may_do
    → MachineSteps number machine (inputs.Gives old to) before next done → Agreed id next (past ++ done)
give_line id number machine old to t t2 before next done past p may steps =
    numbered (λ (m : ℕ). is_kept old steps.node.lane.body.kept ≡ true
    → (own : MachineSteps number m (inputs.Gives old to) before next done)
    → own.node ≡ steps.node → Agreed id next (past ++ done)) machine before steps.node steps.there
    (λ j kept own same.
    (let none : list_any (brings_in id) (plain_of number (j + 1) (inputs.Gives old to) before next done own) ≡ true → ⊥ =
    λ is. give_in id old to (ins_are id (desk_of own.node (moment_of number)) (Gives old to) _
    (sym (step_ins id (desk_of own.node (moment_of number)) (unread_by (j + 1) before.world) (Gives old to) own.node.lane.body) ∙ is)) in
    hand_line id number j (inputs.Gives old to) t t2 before next done past p own
    (λ other out. give_out other old to own.node.lane.body.kept
    (ap (λ (n : NodeState). is_kept old n.lane.body.kept) same ∙ kept) out)
    (λ is. absurd (none is)) (λ is. absurd (none is))))
    (gives_can machine old to before steps.node steps.there may).kept steps refl

-- no machine has a mark of it
pub none_marked : (id machine : ℕ) (s : LineState) → ((mark : Mark) → HasMark (stand_of s) id mark → ⊥)
    → IsMarked (view_of id s) machine → ⊥
none_marked id machine s none (inl kept) =
    none _ (has_kept {m = machine} (id_kept id (node_at s machine).lane.body.kept kept))
none_marked id machine s none (inr (inl held)) =
    let found = id_held id _ held in
    none _ (has_outlet {m = machine} found.1 found.2)
none_marked id machine s none (inr (inr taken)) =
    let found = id_held id _ taken in
    none _ (has_intake {m = machine} found.1 found.2)

got_out : {X : Type 0} (old : ℕ) (board : Record) → TakesOut old (Gets board) → X
got_out old board out = elim out [ ]

got_is : (id : ℕ) (board : Record) → BringsIn id (Gets board) → board.id ≡ id
got_is id board (in_got same) = same

pub get_line : (id number machine : ℕ) (board : Record) (t t2 : Trace) (before next : LineState)
    (done past : List Happening) → Passing id t t2 before next done past
    → (board.id ≡ id → list_any (came_in id) done ≡ true → IsUnknown id past)
    → ((mark : Mark) → HasMark (stand_of before) board.id mark → ⊥)
    → MachineSteps number machine (inputs.Gets board) before next done → Agreed id next (past ++ done)
get_line id number machine board t t2 before next done past p unknown none steps =
    numbered (λ (m : ℕ). MachineSteps number m (inputs.Gets board) before next done → Agreed id next (past ++ done))
    machine before steps.node steps.there (λ j own.
    hand_line id number j (inputs.Gets board) t t2 before next done past p own
    (λ old out. got_out old board out) (got_watched j own) (λ is.
    got_unknown (got_same j own is)
    (got_told id number (j + 1) board before next done own (got_same j own is)))) steps where
      got_same : (j : ℕ) → (own : MachineSteps number (j + 1) (inputs.Gets board) before next done)
          → list_any (brings_in id) (plain_of number (j + 1) (inputs.Gets board) before next done own) ≡ true
          → board.id ≡ id
      got_same j own is =
          let desk = desk_of own.node (moment_of number) in
          let unread : List Sensed = unread_by (j + 1) before.world in
          got_is id board (ins_are id desk (Gets board) (all_read desk unread own.node.lane.body).body (sym (step_ins id desk unread (Gets board) own.node.lane.body) ∙ is))

      got_unknown : board.id ≡ id → list_any (came_in id) done ≡ true
          → (told_of id past ≡ nothing_told) × (((gap : ℕ) → left_since gap id past ≡ false)
          × (((i : ℕ) → (view_of id before).kept i ≡ false)
          × (((i : ℕ) → (view_of id before).held i ≡ false)
          × ((i : ℕ) → (view_of id before).taken i ≡ false))))
      got_unknown same came =
          let un : IsUnknown id past = unknown same came in
          let no : (mark : Mark) → HasMark (stand_of before) id mark → ⊥ =
          subst (λ (x : ℕ). (mark : Mark) → HasMark (stand_of before) x mark → ⊥) same none in (
            un.told,
            (
              un.left,
              (
                λ i. false_from_ne_true ((view_of id before).kept i) (λ has. none_marked id i before no (inl has)),
                (
                  λ i. false_from_ne_true ((view_of id before).held i) (λ has. none_marked id i before no (inr (inl has))),
                  λ i. false_from_ne_true ((view_of id before).taken i) (λ has. none_marked id i before no (inr (inr has))),
                ),
              ),
            ),
          )

      got_watched : (j : ℕ) → (own : MachineSteps number (j + 1) (inputs.Gets board) before next done)
          → list_any (brings_in id) (plain_of number (j + 1) (inputs.Gets board) before next done own) ≡ true
          → own.node.supervised ≡ true
      got_watched j own is =
          let desk = desk_of own.node (moment_of number) in
          let unread : List Sensed = unread_by (j + 1) before.world in
          let mine = own_step number j (inputs.Gets board) before next done own in
          let kept : keeps_it board.id (node_at next (j + 1)).lane.body ≡ true =
          ap (keeps_it board.id) mine.now ∙ got_kept desk unread board own.node.lane.body in
          let next_is : node_at next (j + 1) ≡ own.next =
          node_there (j + 1) next own.next (ap (machine_in (j + 1)) own.after_is
          ∙ machine_set_own (j + 1) before own.node own.next own.there) in
          sym own.steps.supervised ∙ ap (λ (n : NodeState). n.supervised) (sym next_is)
          ∙ kept_watched next (j + 1) board.id p.watched2 kept

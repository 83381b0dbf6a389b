-- The steps of a machine in the line: those that change no board by hand, and those in which one is put in, taken out, replaced
-- or marked.
use Rattle.std.proofs.Common.{Bool, Err, List, None, Ok, Option, Result, Some, [], ap, nat_eq, ne_eqb, eq-eqb, eqb-true, false, inl, inr, not, refl, subst, sym, true, ℕ, ◌&&◌, ◌++◌, ◌+◌, ◌||◌, ◌∙◌, ◌∷◌, ◌≡◌, ◌≢◌, ◌⊎◌}
use Rattle.std.proofs.lemmas.Bool.{false≢true, or_left, or_cases, or_right, and_parts}
use Rattle.std.specs.Borrow.{Bor}
use Rattle.std.specs.List.{AllByRecursion}
use Rattle.line_base.specs.declared.states.Quality.{Quality}
use Rattle.line_base.specs.declared.states.Side.{Side}
use Rattle.board_record.specs.Maker.{Maker, next_id}
use Rattle.board_record.specs.declared.maker.IdsUsedUp.{IdsUsedUp}
use Rattle.board_record.specs.declared.sensed.Sensed.{Sensed}
use Rattle.board_record.specs.SubBoards.{unknown_sub}
use Rattle.line_world.specs.FloorPlan.{machine_at, with_new_id, without_board}
use Rattle.line_world.specs.declared.board.Board.{Board}
use Rattle.handover_in.specs.State.{name_of_phase}
use Rattle.handover_in.specs.declared.phase.Phase.{Phase as In}
use Rattle.handover_in.specs.declared.phase.Phase.TheVariants as inn
use Rattle.handover_out.specs.State.{is_id}
use Rattle.node_core.specs.Announces.{is_free, is_intake_free}
use Rattle.node_core.specs.Boards.{is_kept}
use Rattle.node_core.specs.Desk.{Desk}
use Rattle.node_core.specs.Done.{Done}
use Rattle.node_core.specs.Event.{Event, Insert, Mark, Nothing, Remove, Replace, Words, event_of, with_new, Sub}
use Rattle.node_core.specs.Halves.{OffersFront}
use Rattle.node_core.specs.May.{may_do, may_on_lane, no_if}
use Rattle.node_core.specs.Node.{NodeState, desk_of}
use Rattle.node_core.specs.Step.{machine_step}
use Rattle.node_core.specs.declared.act.Act.TheVariants as acts
use Rattle.node_core.specs.declared.input.Input.{Input}
use Rattle.node_core.specs.declared.input.Input.TheVariants as inputs
use Rattle.node_core.specs.declared.input.No.{No}
use Rattle.node_core.specs.declared.lane.Body.{Body as Machine}
use Rattle.node_core.specs.declared.word.Word.{Word}
use Rattle.law_machine_custody.specs.ByHand.{AreHere, Grows}
use Rattle.law_machine_custody.specs.Flight.{IsPlain, plain_fault, plain_nothing, plain_notice, plain_shutdown, plain_tick, plain_will, plain_words, plain_level, plain_forecast, plain_query, plain_supervised}
use Rattle.hermes_vertical.specs.declared.message.Question.{Question}
use Rattle.law_machine_custody.specs.Good.{GoesBy, Good, Lies, lies_first, lies_later}
use Rattle.law_machine_custody.specs.Scene.{Scene}
use Rattle.law_machine_custody.specs.Unique.{IsApart}
use Rattle.law_machine_custody.proofs.Step.{insert_goes, mark_goes, plain_keeps, remove_goes, replace_goes, sub_goes}
use Rattle.law_machine_custody.proofs.StillKept.{read_kept}
use Rattle.line_report.specs.declared.happening.Happening.{Happening}
use Rattle.line_report.specs.declared.happening.Happening.TheVariants as happenings
use Rattle.line_step.specs.FloorIds.{made_by, made_in}
use Rattle.line_step.specs.Lines.{Flows}
use Rattle.line_step.specs.Numbered.{node_at}
use Rattle.line_step.specs.Reasons.{has_link, is_here}
use Rattle.line_step.specs.State.{LineState}
use Rattle.line_step.specs.Steps.{MachineSteps, moment_of, unread_by}
use Rattle.line_step.specs.Together.{IsLineTogether}
use Rattle.line_step.proofs.FloorLaws as floor
use Rattle.step_rules.specs.Makers.{IsOld}
use Rattle.line_step.proofs.Numbers.{same_or_not}
use Rattle.law_one_standing.specs.Carried.{Trace, between_of, stand_of}
use Rattle.law_one_standing.specs.Mirrors.{AreHeard, Mirrors, scene_at}
use Rattle.law_one_standing.specs.Places.{LiesAt, Spot, at_machine, lies_at}
use Rattle.law_one_standing.specs.Relation.{Between, Stand}
use Rattle.law_one_standing.specs.Stands.{Stands}
use Rattle.law_one_standing.proofs.ApartFloor.{lies_on_floor}
use Rattle.law_one_standing.proofs.ApartHands.{here_lies, inserts_told, removes_told, replaces_told}
use Rattle.law_one_standing.specs.Told.{IsTold, told_first, told_later}
use Rattle.law_one_standing.proofs.ApartStep.{AreNews, LayOn, apart_removed, apart_replaced, apart_stays, floor_old, grown}
use Rattle.law_one_standing.proofs.Behind.{Bears}
use Rattle.law_one_standing.proofs.Elsewhere.{afar_at, elsewhere_of, good_at, unique_at}
use Rattle.law_one_standing.proofs.HandsThere.{gone_renamed, gone_without, lies_renamed, lies_without}
use Rattle.law_one_standing.proofs.Plain.{flow_leaves, leaves_bear, step_bears}
use Rattle.law_one_standing.proofs.RestLine.{node_there}
use Rattle.law_one_standing.proofs.Traces.{put, put_other, put_same}
use Rattle.smema_bridge.specs.declared.line.SegmentLine.{SegmentLine}

-- what is had of a line of the script beside what its form does
pub record Around (t : Trace) (before after : LineState) (told : List Happening) : Type 0 where
  pub st : Stands t before
  pub together : IsLineTogether after
  pub goes : floor.Goes before after told
  pub news : AreNews t before told

abbrev pub Bearing : (ℕ → Type 0) → Trace → LineState → Type 0
Bearing Left t after = (t2 : Trace) × Bears Left t t2 after

-- ---- what is gone

pub same_gone : (j : ℕ) (t : Trace) (k y : ℕ) → (k ≡ j + 1) ⊎ (k ≢ j + 1) → put (j + 1) (t.gone (j + 1)) t.gone k y ≡ t.gone k y
same_gone j t k y (inl is) = rw is (ap (λ (f : ℕ → Bool). f y) (put_same (j + 1) (t.gone (j + 1)) t.gone))
same_gone j t k y (inr apart) = ap (λ (f : ℕ → Bool). f y) (put_other (j + 1) k (t.gone (j + 1)) t.gone apart)

pub no_more : (b c : Bool) → (b || (false && c)) ≡ b
no_more true c = refl
no_more false c = refl

more_gone : (j id : ℕ) (t : Trace) (k y : ℕ) → (k ≡ j + 1) ⊎ (k ≢ j + 1) → put (j + 1) (grown (j + 1) id t.gone (j + 1)) t.gone k y ≡ grown (j + 1) id t.gone k y
more_gone j id t k y (inl is) = rw is (ap (λ (f : ℕ → Bool). f y) (put_same (j + 1) (grown (j + 1) id t.gone (j + 1)) t.gone))
more_gone j id t k y (inr apart) =
    ap (λ (f : ℕ → Bool). f y) (put_other (j + 1) k (grown (j + 1) id t.gone (j + 1)) t.gone apart) ∙ sym (ap (λ (b : Bool). t.gone k y || (b && nat_eq y id)) (ne_eqb k (j + 1) apart) ∙ no_more (t.gone k y) (nat_eq y id))

pub grows : (m id : ℕ) (gone : ℕ → ℕ → Bool) (k : ℕ) → Grows (gone k) (grown m id gone k)
grows m id gone k x is = or_left (gone k x) (nat_eq k m && nat_eq x id) is

pub own_gone : (m id : ℕ) (gone : ℕ → ℕ → Bool) → grown m id gone m id ≡ true
own_gone m id gone = or_right (gone m id) (nat_eq m m && nat_eq id id) (rw (eq-eqb m m refl, eq-eqb id id refl) refl)

grown_is : (m id : ℕ) (gone : ℕ → ℕ → Bool) (k x : ℕ) → grown m id gone k x ≡ true → (gone k x ≡ true) ⊎ (x ≡ id)
grown_is m id gone k x is = elim (or_cases (gone k x) (nat_eq k m && nat_eq x id) is) [ inl was ↦ inl was | inr own ↦ inr (eqb-true x id (and_parts (nat_eq k m) (nat_eq x id) own).1) ]

-- ---- a new id

pub all_first : (P : ℕ → Type 0) (xs ys : List ℕ) → AllByRecursion P (xs ++ ys) → AllByRecursion P xs
all_first P [] ys all = tt
all_first P (x ∷ xs) ys all = (all.0, all_first P xs ys all.1)

pub all_second : (P : ℕ → Type 0) (xs ys : List ℕ) → AllByRecursion P (xs ++ ys) → AllByRecursion P ys
all_second P [] ys all = all
all_second P (x ∷ xs) ys all = all_second P xs ys all.1

made_there : (P : ℕ → Type 0) {h : Happening} {told : List Happening} → IsTold h told → AllByRecursion P (made_by told) → AllByRecursion P (made_in h)
made_there P {h = h} (told_first {told = told}) all = all_first P (made_in h) (made_by told) all
made_there P (told_later {other = other} {told = told} is) all = made_there P is (all_second P (made_in other) (made_by told) all)

abbrev IsNew : LineState → ℕ → Type 0
IsNew s id = (other : ℕ) → IsOld 1 s.machines other → other ≢ id

pub lies_last : {x y : ℕ} (boards : List Board) → Lies x (boards ++ record { id = Some y } ∷ []) → Lies x boards ⊎ (x ≡ y)
lies_last [] lies_first = inr refl
lies_last [] (lies_later lies) = elim lies [ ]
lies_last (b ∷ boards) lies_first = inl lies_first
lies_last (b ∷ boards) (lies_later lies) = later (lies_last boards lies)
  where
    later : {x y : ℕ} {b : Board} {bs : List Board} → Lies x bs ⊎ (x ≡ y) → Lies x (b ∷ bs) ⊎ (x ≡ y)
    later (inl lies) = inl (lies_later lies)
    later (inr is) = inr is

-- ---- a machine as the relation has it

abbrev pub Steady : ℕ → Trace → LineState → (ℕ → Bool) → Done → Type 0
Steady j t s gone done = GoesBy (record { gone_above = t.gone j; gone_below = gone; elsewhere = elsewhere_of (stand_of s (j + 1)).place.boards }) (stand_of s j).body.kept [] (t.ghost j) (t.ghost (j + 1)) (scene_at t s j) done

abbrev pub GoodAt : ℕ → Trace → LineState → Machine → Type 0
GoodAt j t s body = Good (afar_at (stand_of s) (between_of t s) j) (stand_of s j).body.kept (unread_by (j + 1) s.world) (t.ghost j) (t.ghost (j + 1)) body (scene_at t s j)

pub good_node : (j : ℕ) (t : Trace) (s : LineState) (node : NodeState) → Stands t s → node_at s (j + 1) ≡ node → GoodAt j t s node.lane.body
good_node j t s node st is = subst (λ (n : NodeState). GoodAt j t s n.lane.body) is (good_at (stand_of s) (between_of t s) j st.keeps)

pub offers_node : (j : ℕ) (t : Trace) (s : LineState) (node : NodeState) → Stands t s → node_at s (j + 1) ≡ node → OffersFront node.lane.body
offers_node j t s node st is = subst (λ (n : NodeState). OffersFront n.lane.body) is (st.keeps.machines.at j).offers

-- ---- steps without a hand

pub plain_bears : {Left : ℕ → Type 0} (number j : ℕ) (input : Input) (t : Trace) (before after : LineState) (told all : List Happening) → Around t before after all → (steps : MachineSteps number (j + 1) input before after told) → may_on_lane steps.node input ≡ may_do
    → (input ≡ inputs.Connect → has_link j before ≡ true) → (input ≡ inputs.Accepted → has_link (j + 1) before ≡ true)
    → (m : Mirrors number j input t before after) → IsPlain (event_of m.node.maker input m.words) (scene_at t before j) → Bearing Left t after
plain_bears number j input t before after told all a steps may connects accepts m plain =
    let node : NodeState = m.node in
    let is : node_at before (j + 1) ≡ node = node_there (j + 1) before node m.there in
    let event : Event = event_of node.maker input m.words in
    let goes : Steady j t before (t.gone (j + 1)) (machine_step (desk_of node (moment_of number)) (unread_by (j + 1) before.world) event node.lane.body) =
    plain_keeps (desk_of node (moment_of number)) (unread_by (j + 1) before.world) event node.lane.body (scene_at t before j) plain (offers_node j t before node a.st is) (good_node j t before node a.st is) in
    step_bears number j input t before after told a.st steps may a.together a.goes.holds connects accepts m goes
    (λ t2 same. apart_stays t t2 before after all a.goes a.news (λ k y. same k y ∙ same_gone j t k y (same_or_not k (j + 1))) (record { apart = a.st.keeps.apart; olds = a.st.olds }))

-- ---- a board is put in

pub free_phase : (phase : In) → is_free (name_of_phase phase) ≡ true → phase ≡ inn.Idle
free_phase inn.Idle is = refl
free_phase (inn.Taking r own heard) is = absurd (false≢true is)
free_phase (inn.Stopped r own heard) is = absurd (false≢true is)
free_phase (inn.Waiting r own heard) is = absurd (false≢true is)

pub passes_first : (test : Bool) (why : No) (next : Result (Unit {0}) No) → no_if (not test) why next ≡ may_do → test ≡ true
passes_first true why next is = refl
passes_first false why next is = cc

-- no board that lies there, nor the new one, is gone
here_inserted : (j id : ℕ) (t : Trace) (s : LineState) → Stands t s → IsNew s id → AreHere (t.gone (j + 1)) ((machine_at s.world.floor (j + 1)).boards ++ record { id = Some id } ∷ [])
here_inserted j id t s st new x lies gone = elim (lies_last (machine_at s.world.floor (j + 1)).boards lies) [
  | inl there ↦ st.keeps.apart.nowhere (j + 1) x (at_machine (j + 1)) gone (lies_at there)
  | inr is ↦ new x (st.olds (j + 1) x gone) is
]

abbrev InsertOf : Option (List ℕ) → Result ℕ IdsUsedUp → Event
InsertOf barcode answer = with_new answer (λ id. Insert id barcode)

insert_steady : (j : ℕ) (t : Trace) (s : LineState) (desk : Desk) (barcode : Option (List ℕ)) (body : Machine) (answer : Result ℕ IdsUsedUp) → Stands t s → GoodAt j t s body → OffersFront body → body.intake.phase ≡ inn.Idle
    → ((id : ℕ) → answer ≡ Ok id → IsNew s id) → Steady j t s (t.gone (j + 1)) (machine_step desk (unread_by (j + 1) s.world) (InsertOf barcode answer) body)
insert_steady j t s desk barcode body (Err why) st good offers idle new = plain_keeps desk (unread_by (j + 1) s.world) Nothing body (scene_at t s j) plain_nothing offers good
insert_steady j t s desk barcode body (Ok id) st good offers idle new = insert_goes (t.gone (j + 1)) desk (unread_by (j + 1) s.world) id barcode body (scene_at t s j) good idle (λ x is. is) (here_inserted j id t s st (new id refl))

pub insert_bears : {Left : ℕ → Type 0} (number j : ℕ) (barcode : Option (List ℕ)) (t : Trace) (before after : LineState) (told all : List Happening) → Around t before after all → ((h : Happening) → IsTold h told → IsTold h all)
    → (steps : MachineSteps number (j + 1) (inputs.Insert barcode) before after told) → may_on_lane steps.node (inputs.Insert barcode) ≡ may_do → Mirrors number j (inputs.Insert barcode) t before after → Bearing Left t after
insert_bears number j barcode t before after told all a more steps may m =
    let node : NodeState = m.node in
    let is : node_at before (j + 1) ≡ node = node_there (j + 1) before node m.there in
    let same : node ≡ steps.node = sym is ∙ node_there (j + 1) before steps.node steps.there in
    let may_own : may_on_lane node (inputs.Insert barcode) ≡ may_do = ap (λ (n : NodeState). may_on_lane n (inputs.Insert barcode)) same ∙ may in
    let idle : node.lane.body.intake.phase ≡ inn.Idle = free_phase node.lane.body.intake.phase (passes_first (is_intake_free node.lane.body) _ _ may_own) in
    let new : (id : ℕ) → next_id node.maker ≡ Ok id → IsNew before id = λ id made.
    (made_there (IsNew before) (more (happenings.Done (j + 1) (acts.Inserts id)) (inserts_told number (j + 1) id barcode before after told steps (sym (ap (λ (n : NodeState). next_id n.maker) same) ∙ made))) a.goes.fresh).0 in
    let goes : Steady j t before (t.gone (j + 1)) (machine_step (desk_of node (moment_of number)) (unread_by (j + 1) before.world) (event_of node.maker (inputs.Insert barcode) m.words) node.lane.body) =
    insert_steady j t before (desk_of node (moment_of number)) barcode node.lane.body (next_id node.maker) a.st (good_node j t before node a.st is) (offers_node j t before node a.st is) idle new in
    step_bears number j (inputs.Insert barcode) t before after told a.st steps may a.together a.goes.holds (λ no. cc) (λ no. cc) m goes
    (λ t2 same. apart_stays t t2 before after all a.goes a.news (λ k y. same k y ∙ same_gone j t k y (same_or_not k (j + 1))) (record { apart = a.st.keeps.apart; olds = a.st.olds }))

-- ---- a board is taken out

lies_of : {ms : ℕ → Stand} {bs : ℕ → Between} {x m : ℕ} → LiesAt ms bs x (at_machine m) → Lies x (ms m).place.boards
lies_of (lies_at lies) = lies

unique_node : (j : ℕ) (t : Trace) (s : LineState) → Stands t s → IsApart (afar_at (stand_of s) (between_of t s) j) (scene_at t s j)
unique_node j t s st = unique_at (stand_of s) (between_of t s) j st.keeps

here_removed : (j id : ℕ) (t : Trace) (s : LineState) → Stands t s → Lies id (machine_at s.world.floor (j + 1)).boards → AreHere (grown (j + 1) id t.gone (j + 1)) (without_board id (machine_at s.world.floor (j + 1)).boards)
here_removed j id t s st there x lies gone =
    let boards : List Board = (machine_at s.world.floor (j + 1)).boards in
    elim (grown_is (j + 1) id t.gone (j + 1) x gone) [
      | inl was ↦ st.keeps.apart.nowhere (j + 1) x (at_machine (j + 1)) was (lies_at (lies_without id x boards there lies))
      | inr own ↦ gone_without id boards there (st.keeps.apart.once (j + 1)) (subst (λ (n : ℕ). Lies n (without_board id boards)) own lies)
    ]

pub remove_bears : (number j id : ℕ) (t : Trace) (before after : LineState) (told all : List Happening) → Around t before after all → ((h : Happening) → IsTold h told → IsTold h all)
    → (steps : MachineSteps number (j + 1) (inputs.Remove id) before after told) → may_on_lane steps.node (inputs.Remove id) ≡ may_do → is_here (j + 1) id before.world ≡ true → Mirrors number j (inputs.Remove id) t before after → Bearing (LayOn before) t after
remove_bears number j id t before after told all a more steps may here m =
    let node : NodeState = m.node in
    let is : node_at before (j + 1) ≡ node = node_there (j + 1) before node m.there in
    let same : node ≡ steps.node = sym is ∙ node_there (j + 1) before steps.node steps.there in
    let may_own : may_on_lane node (inputs.Remove id) ≡ may_do = ap (λ (n : NodeState). may_on_lane n (inputs.Remove id)) same ∙ may in
    let kept : is_kept id node.lane.body.kept ≡ true = passes_first (is_kept id node.lane.body.kept) _ _ may_own in
    let kept_first : is_kept id steps.node.lane.body.kept ≡ true = ap (λ (n : NodeState). is_kept id n.lane.body.kept) (sym same) ∙ kept in
    let gone : ℕ → Bool = grown (j + 1) id t.gone (j + 1) in
    let there : LiesAt (stand_of before) (between_of t before) id (at_machine (j + 1)) = here_lies t before (j + 1) id here in
    let goes : Steady j t before gone (machine_step (desk_of node (moment_of number)) (unread_by (j + 1) before.world) (Remove id) node.lane.body) =
    remove_goes gone (desk_of node (moment_of number)) (unread_by (j + 1) before.world) id node.lane.body (scene_at t before j) (good_node j t before node a.st is) (unique_node j t before a.st)
    (read_kept id (desk_of node (moment_of number)) (unread_by (j + 1) before.world) node.lane.body kept) (grows (j + 1) id t.gone (j + 1)) (own_gone (j + 1) id t.gone) (here_removed j id t before a.st (lies_of there)) in
    step_bears number j (inputs.Remove id) t before after told a.st steps may a.together a.goes.holds (λ no. cc) (λ no. cc) m goes
    (λ t2 same. apart_removed t t2 before after all (j + 1) id (at_machine (j + 1)) a.st.ids a.goes a.news
    (more (happenings.Done (j + 1) (acts.Removes id)) (removes_told number (j + 1) id before after told steps (read_kept id (desk_of steps.node (moment_of number)) (unread_by (j + 1) before.world) steps.node.lane.body kept_first)))
    there (λ k y. same k y ∙ more_gone j id t k y (same_or_not k (j + 1))) (record { apart = a.st.keeps.apart; olds = a.st.olds }))

-- ---- another board comes into its place

here_renamed : (j old new : ℕ) (t : Trace) (s : LineState) → Stands t s → Lies old (machine_at s.world.floor (j + 1)).boards → IsNew s new → (old ≡ new → ⊥) → AreHere (grown (j + 1) old t.gone (j + 1)) (with_new_id old new (machine_at s.world.floor (j + 1)).boards)
here_renamed j old new t s st there fresh apart x lies gone =
    let boards : List Board = (machine_at s.world.floor (j + 1)).boards in
    elim (grown_is (j + 1) old t.gone (j + 1) x gone) [
      | inl was ↦ elim (lies_renamed old new x boards there lies) [
        | inl before ↦ st.keeps.apart.nowhere (j + 1) x (at_machine (j + 1)) was (lies_at before)
        | inr is ↦ fresh x (st.olds (j + 1) x was) is
      ]
      | inr own ↦ gone_renamed old new boards there apart (st.keeps.apart.once (j + 1)) (subst (λ (n : ℕ). Lies n (with_new_id old new boards)) own lies)
    ]

-- what lies on the floor has an old id
old_there : (t : Trace) (s : LineState) (x : ℕ) (p : Spot) → Stands t s → LiesAt (stand_of s) (between_of t s) x p → IsOld 1 s.machines x
old_there t s x p st lies = floor_old s x st.ids (lies_on_floor t s x p st.ids.whole lies)

abbrev ReplaceOf : ℕ → Result ℕ IdsUsedUp → Event
ReplaceOf old answer = with_new answer (Replace old)

abbrev Replacing : ℕ → ℕ → ℕ → Trace → LineState → NodeState → (ℕ → Bool) → Result ℕ IdsUsedUp → Type 0
Replacing number j old t before node gone answer = Steady j t before gone (machine_step (desk_of node (moment_of number)) (unread_by (j + 1) before.world) (ReplaceOf old answer) node.lane.body)

replace_by : (number j old : ℕ) (t : Trace) (before after : LineState) (told all : List Happening) → Around t before after all → ((h : Happening) → IsTold h told → IsTold h all)
    → (steps : MachineSteps number (j + 1) (inputs.Replace old) before after told) → may_on_lane steps.node (inputs.Replace old) ≡ may_do → is_here (j + 1) old before.world ≡ true → (m : Mirrors number j (inputs.Replace old) t before after)
    → is_kept old m.node.lane.body.kept ≡ true → m.node ≡ steps.node → (answer : Result ℕ IdsUsedUp) → next_id m.node.maker ≡ answer → Bearing (LayOn before) t after
replace_by number j old t before after told all a more steps may here m kept same (Err why) found =
    let node : NodeState = m.node in
    let is : node_at before (j + 1) ≡ node = node_there (j + 1) before node m.there in
    let goes : Replacing number j old t before node (t.gone (j + 1)) (Err why) = plain_keeps (desk_of node (moment_of number)) (unread_by (j + 1) before.world) Nothing node.lane.body (scene_at t before j) plain_nothing (offers_node j t before node a.st is) (good_node j t before node a.st is) in
    step_bears number j (inputs.Replace old) t before after told a.st steps may a.together a.goes.holds (λ no. cc) (λ no. cc) m
    (subst (λ (answer : Result ℕ IdsUsedUp). Replacing number j old t before node (t.gone (j + 1)) answer) (sym found) goes)
    (λ t2 same. apart_stays t t2 before after all a.goes a.news (λ k y. same k y ∙ same_gone j t k y (same_or_not k (j + 1))) (record { apart = a.st.keeps.apart; olds = a.st.olds }))
replace_by number j old t before after told all a more steps may here m kept same (Ok new) found =
    let node : NodeState = m.node in
    let desk : Desk = desk_of node (moment_of number) in
    let unread : List Sensed = unread_by (j + 1) before.world in
    let is : node_at before (j + 1) ≡ node = node_there (j + 1) before node m.there in
    let gone : ℕ → Bool = grown (j + 1) old t.gone (j + 1) in
    let there : LiesAt (stand_of before) (between_of t before) old (at_machine (j + 1)) = here_lies t before (j + 1) old here in
    let kept_first : is_kept old steps.node.lane.body.kept ≡ true = ap (λ (n : NodeState). is_kept old n.lane.body.kept) (sym same) ∙ kept in
    let is_told : IsTold (happenings.Done (j + 1) (acts.Replaces old new)) all =
    more (happenings.Done (j + 1) (acts.Replaces old new)) (replaces_told number (j + 1) old new before after told steps (sym (ap (λ (n : NodeState). next_id n.maker) same) ∙ found) (read_kept old (desk_of steps.node (moment_of number)) unread steps.node.lane.body kept_first)) in
    let fresh : IsNew before new = (made_there (IsNew before) is_told a.goes.fresh).0 in
    let apart : old ≡ new → ⊥ = λ same. fresh old (old_there t before old (at_machine (j + 1)) a.st there) same in
    let goes : Replacing number j old t before node gone (Ok new) =
    replace_goes gone desk unread old new node.lane.body (scene_at t before j) (good_node j t before node a.st is) (unique_node j t before a.st)
    (read_kept old desk unread node.lane.body kept) (grows (j + 1) old t.gone (j + 1)) (own_gone (j + 1) old t.gone) (here_renamed j old new t before a.st (lies_of there) fresh apart) in
    step_bears number j (inputs.Replace old) t before after told a.st steps may a.together a.goes.holds (λ no. cc) (λ no. cc) m
    (subst (λ (answer : Result ℕ IdsUsedUp). Replacing number j old t before node gone answer) (sym found) goes)
    (λ t2 same. apart_replaced t t2 before after all (j + 1) old new (at_machine (j + 1)) a.st.ids a.goes a.news is_told there (λ k y. same k y ∙ more_gone j old t k y (same_or_not k (j + 1))) (record { apart = a.st.keeps.apart; olds = a.st.olds }))

pub replace_bears : (number j old : ℕ) (t : Trace) (before after : LineState) (told all : List Happening) → Around t before after all → ((h : Happening) → IsTold h told → IsTold h all)
    → (steps : MachineSteps number (j + 1) (inputs.Replace old) before after told) → may_on_lane steps.node (inputs.Replace old) ≡ may_do → is_here (j + 1) old before.world ≡ true → Mirrors number j (inputs.Replace old) t before after → Bearing (LayOn before) t after
replace_bears number j old t before after told all a more steps may here m =
    let node : NodeState = m.node in
    let same : node ≡ steps.node = sym (node_there (j + 1) before node m.there) ∙ node_there (j + 1) before steps.node steps.there in
    let may_own : may_on_lane node (inputs.Replace old) ≡ may_do = ap (λ (n : NodeState). may_on_lane n (inputs.Replace old)) same ∙ may in
    replace_by number j old t before after told all a more steps may here m (passes_first (is_kept old node.lane.body.kept) _ _ may_own) same (next_id node.maker) refl

-- ---- a board's record is changed: it is marked, or gets a circuit more

pub passes_second : (one two : Bool) (why other : No) (next : Result (Unit {0}) No) → no_if one why (no_if two other next) ≡ may_do → two ≡ false
passes_second false false why other next is = refl
passes_second false true why other next is = cc
passes_second true two why other next is = cc

pub not_touched : (touched : Option ℕ) (id : ℕ) → is_id touched id ≡ false → touched ≡ Some id → ⊥
not_touched None id other is = cc
not_touched (Some own) id other is = false≢true (sym other ∙ ap (λ (t : Option ℕ). is_id t id) is ∙ eq-eqb id id refl)

pub data ChangesOne (id : ℕ) : Input → Type 0 where
  marks_one : {quality : Quality} → ChangesOne id (inputs.Mark id quality)
  subs_one : {place : ℕ} {barcode : Option (List ℕ)} → ChangesOne id (inputs.Sub id place barcode)

-- of a board that isn't known downstream
pub changed_untouched : {id : ℕ} {input : Input} (node : NodeState) → ChangesOne id input → may_on_lane node input ≡ may_do → node.lane.body.outlet.touched ≡ Some id → ⊥
changed_untouched {id = id} node marks_one may = not_touched node.lane.body.outlet.touched id (passes_second (not (is_kept id node.lane.body.kept)) (is_id node.lane.body.outlet.touched id) _ _ _ may)
changed_untouched {id = id} node subs_one may = not_touched node.lane.body.outlet.touched id (passes_second (not (is_kept id node.lane.body.kept)) (is_id node.lane.body.outlet.touched id) _ _ _ may)

change_goes : {id : ℕ} {input : Input} (number j : ℕ) (t : Trace) (before : LineState) (node : NodeState) (words : List Word) → ChangesOne id input → Stands t before → node_at before (j + 1) ≡ node → (node.lane.body.outlet.touched ≡ Some id → ⊥)
    → Steady j t before (t.gone (j + 1)) (machine_step (desk_of node (moment_of number)) (unread_by (j + 1) before.world) (event_of node.maker input words) node.lane.body)
change_goes {id = id} number j t before node words (marks_one {quality = quality}) st is free =
    mark_goes (desk_of node (moment_of number)) (unread_by (j + 1) before.world) id quality node.lane.body (scene_at t before j) (good_node j t before node st is) free
change_goes {id = id} number j t before node words (subs_one {place = place} {barcode = barcode}) st is free =
    sub_goes (desk_of node (moment_of number)) (unread_by (j + 1) before.world) id (unknown_sub place barcode) node.lane.body (scene_at t before j) (good_node j t before node st is) free

unjoined : {id : ℕ} {input : Input} {P : Type 0} → ChangesOne id input → (input ≡ inputs.Connect) ⊎ (input ≡ inputs.Accepted) → P
unjoined marks_one (inl is) = cc
unjoined marks_one (inr is) = cc
unjoined subs_one (inl is) = cc
unjoined subs_one (inr is) = cc

pub change_bears : {Left : ℕ → Type 0} {id : ℕ} {input : Input} (number j : ℕ) (t : Trace) (before after : LineState) (told all : List Happening) → ChangesOne id input → Around t before after all
    → (steps : MachineSteps number (j + 1) input before after told) → may_on_lane steps.node input ≡ may_do → Mirrors number j input t before after → Bearing Left t after
change_bears {input = input} number j t before after told all c a steps may m =
    let node : NodeState = m.node in
    let is : node_at before (j + 1) ≡ node = node_there (j + 1) before node m.there in
    let same : node ≡ steps.node = sym is ∙ node_there (j + 1) before steps.node steps.there in
    let may_own : may_on_lane node input ≡ may_do = ap (λ (n : NodeState). may_on_lane n input) same ∙ may in
    let goes = change_goes number j t before node m.words c a.st is (changed_untouched node c may_own) in
    step_bears number j input t before after told a.st steps may a.together a.goes.holds (λ no. unjoined c (inl no)) (λ no. unjoined c (inr no)) m goes
    (λ t2 same. apart_stays t t2 before after all a.goes a.news (λ k y. same k y ∙ same_gone j t k y (same_or_not k (j + 1))) (record { apart = a.st.keeps.apart; olds = a.st.olds }))

-- ---- which inputs are plain

pub data IsPlainInput : Input → Type 0 where
  is_nothing : IsPlainInput inputs.Nothing
  is_bytes : {side : Side} {piece : Bor (List ℕ)} → IsPlainInput (inputs.Bytes side piece)
  is_notice : {side : Side} → IsPlainInput (inputs.Notice side)
  is_tick : IsPlainInput inputs.Tick
  is_shutdown : IsPlainInput inputs.Shutdown
  is_fault : {side : Side} → IsPlainInput (inputs.Fault side)
  is_will : {side : Side} {on : Bool} → IsPlainInput (inputs.Will side on)
  is_level : {line : SegmentLine} {on : Bool} → IsPlainInput (inputs.Level line on)
  is_forecast : IsPlainInput inputs.Forecast
  is_query : {barcode : List ℕ} → IsPlainInput (inputs.Query barcode)
  is_supervise : {on : Bool} → IsPlainInput (inputs.Supervise on)
  is_ask : {question : Question} → IsPlainInput (inputs.Ask question)
  is_answer : {query : ℕ} {order : List ℕ} → IsPlainInput (inputs.Answer query order)

pub plain_event : (maker : Maker) (input : Input) (words : List Word) (c : Scene) → IsPlainInput input → AreHeard input words c → IsPlain (event_of maker input words) c
plain_event maker _ words c is_nothing heard = plain_nothing
plain_event maker _ words c is_bytes heard = plain_words heard
plain_event maker _ words c is_notice heard = plain_notice
plain_event maker _ words c is_tick heard = plain_tick
plain_event maker _ words c is_shutdown heard = plain_shutdown
plain_event maker _ words c is_fault heard = plain_fault
plain_event maker _ words c is_will heard = plain_will
plain_event maker _ words c is_level heard = plain_level
plain_event maker _ words c is_forecast heard = plain_forecast
plain_event maker _ words c is_query heard = plain_query
plain_event maker _ words c is_supervise heard = plain_supervised
plain_event maker _ words c is_ask heard = plain_supervised
plain_event maker _ words c is_answer heard = plain_supervised

no_connect : {input : Input} {A : Type 0} → IsPlainInput input → input ≡ inputs.Connect → A
no_connect is_nothing is = absurd (cc)
no_connect is_bytes is = absurd (cc)
no_connect is_notice is = absurd (cc)
no_connect is_tick is = absurd (cc)
no_connect is_shutdown is = absurd (cc)
no_connect is_fault is = absurd (cc)
no_connect is_will is = absurd (cc)
no_connect is_level is = absurd (cc)
no_connect is_forecast is = absurd (cc)
no_connect is_query is = absurd (cc)
no_connect is_supervise is = absurd (cc)
no_connect is_ask is = absurd (cc)
no_connect is_answer is = absurd (cc)

no_accepted : {input : Input} {A : Type 0} → IsPlainInput input → input ≡ inputs.Accepted → A
no_accepted is_nothing is = absurd (cc)
no_accepted is_bytes is = absurd (cc)
no_accepted is_notice is = absurd (cc)
no_accepted is_tick is = absurd (cc)
no_accepted is_shutdown is = absurd (cc)
no_accepted is_fault is = absurd (cc)
no_accepted is_will is = absurd (cc)
no_accepted is_level is = absurd (cc)
no_accepted is_forecast is = absurd (cc)
no_accepted is_query is = absurd (cc)
no_accepted is_supervise is = absurd (cc)
no_accepted is_ask is = absurd (cc)
no_accepted is_answer is = absurd (cc)

pub other_bears : {Left : ℕ → Type 0} (number j : ℕ) (input : Input) (t : Trace) (before after : LineState) (told all : List Happening) → IsPlainInput input → Around t before after all → (steps : MachineSteps number (j + 1) input before after told) → may_on_lane steps.node input ≡ may_do
    → Mirrors number j input t before after → Bearing Left t after
other_bears number j input t before after told all plain a steps may m =
    plain_bears number j input t before after told all a steps may (no_connect plain) (no_accepted plain) m (plain_event m.node.maker input m.words (scene_at t before j) plain m.heard)

-- bytes are heard
pub flow_bears : {Left : ℕ → Type 0} (number j : ℕ) (side : Side) (count : Option ℕ) (t : Trace) (before after : LineState) (told all : List Happening) → Around t before after all → (flows : Flows number (j + 1) side count before after told)
    → may_on_lane flows.steps.node (inputs.Bytes side flows.piece) ≡ may_do → Mirrors number j (inputs.Bytes side flows.piece) t before after → Bearing Left t after
flow_bears number j side count t before after told all a flows may m =
    let node : NodeState = m.node in
    let is : node_at before (j + 1) ≡ node = node_there (j + 1) before node m.there in
    let goes : Steady j t before (t.gone (j + 1)) (machine_step (desk_of node (moment_of number)) (unread_by (j + 1) before.world) (Words side m.words) node.lane.body) =
    plain_keeps (desk_of node (moment_of number)) (unread_by (j + 1) before.world) (Words side m.words) node.lane.body (scene_at t before j) (plain_words m.heard) (offers_node j t before node a.st is) (good_node j t before node a.st is) in
    leaves_bear number j (inputs.Bytes side flows.piece) t before after a.st (flow_leaves number j side count t before after told a.st flows may) a.together a.goes.holds m goes
    (λ t2 same. apart_stays t t2 before after all a.goes a.news (λ k y. same k y ∙ same_gone j t k y (same_or_not k (j + 1))) (record { apart = a.st.keeps.apart; olds = a.st.olds }))

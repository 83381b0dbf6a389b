-- A turn in which a board is put in, taken out or replaced by hand: the relation goes on but for what is on the connections.
use Rattle.std.proofs.Common.{Bool, List, None, Option, Result, Ok, Err, Some, [], ap, arith, eq-eqb, eqb-true, false, inl, inr, length, refl, subst, sym, true, ℕ, ℤ, ◌++◌, ◌+◌, ◌∙◌, ◌∷◌, ◌≡◌, ◌≢◌, ◌≤◌, ◌⊎◌}
use Rattle.std.specs.Prelude.{cond, nat_eq, not}
use Rattle.std.proofs.lemmas.Bool.{false≢true, or_cases, or_left, or_right}
use Rattle.law_one_standing.proofs.LineMoves.{same_gone}
use Rattle.law_one_standing.proofs.HandSteps.{lies_last, free_phase}
use Rattle.board_record.specs.Maker.{Maker, made_id, next_id}
use Rattle.board_record.specs.declared.maker.IdsUsedUp.{IdsUsedUp}
use Rattle.board_record.specs.declared.sensed.Sensed.{Sensed}
use Rattle.handover_in.specs.declared.phase.Phase.TheVariants as inn
use Rattle.line_world.specs.Boards.{boards_on}
use Rattle.line_world.specs.FloorPlan.{machine_at, with_new_id, without_board}
use Rattle.line_world.specs.declared.board.Board.{Board}
use Rattle.node_core.specs.Announces.{is_intake_free}
use Rattle.node_core.specs.Boards.{if_kept, is_kept, with_instead, with_kept, without}
use Rattle.node_core.specs.Desk.{Desk}
use Rattle.node_core.specs.Done.{Done}
use Rattle.node_core.specs.Event.{Insert, Replace, event_did, with_new}
use Rattle.node_core.specs.May.{is_used_up, may_do, no_if}
use Rattle.node_core.specs.Node.{NodeState, desk_of}
use Rattle.node_core.specs.Reads.{all_read}
use Rattle.node_core.specs.Step.{machine_step}
use Rattle.node_core.specs.declared.act.Act.{Act}
use Rattle.node_core.specs.declared.act.Act.TheVariants as acts
use Rattle.node_core.specs.declared.input.Input.{Input}
use Rattle.node_core.specs.declared.input.Input.TheVariants as inputs
use Rattle.node_core.specs.declared.input.No.{No}
use Rattle.node_core.specs.declared.lane.Body.{Body}
use Rattle.board_record.specs.Record.{plain_record}
use Rattle.law_machine_custody.specs.Ahead.{GoesAhead}
use Rattle.law_machine_custody.specs.ByHand.{AreHere, Grows}
use Rattle.law_machine_custody.specs.Good.{Lies}
use Rattle.law_machine_custody.specs.Scene.{Scene}
use Rattle.law_machine_custody.proofs.Step.{insert_ahead, remove_ahead, replace_ahead}
use Rattle.law_machine_custody.proofs.StillKept.{read_kept}
use Rattle.line_step.proofs.Numbers.{same_or_not}
use Rattle.law_one_standing.specs.Carried.{Trace, stand_of}
use Rattle.law_one_standing.specs.Places.{at_machine, lies_at}
use Rattle.law_one_standing.proofs.ApartFloor.{counted, lies_on_floor}
use Rattle.law_one_standing.proofs.Elsewhere.{elsewhere_of, unique_at}
use Rattle.law_one_standing.proofs.Steps.{afar_of}
use Rattle.law_one_standing.proofs.HandsThere.{gone_renamed, gone_without, lies_renamed, lies_without}
use Rattle.law_running_line.specs.Reading.{Reading}
use Rattle.law_running_line.specs.Running.{Running}
use Rattle.law_running_line.specs.Stands.{IsMade, Stands, between_of, line_of, node_in}
use Rattle.law_running_line.specs.Steady.{scene_of}
use Rattle.law_running_line.specs.Turns.{Turns}
use Rattle.law_running_line.specs.Wire.{asked_for}
use Rattle.law_running_line.proofs.FloorMoves.{taken_gone, to_line, with_gone}
use Rattle.law_running_line.proofs.Relation.{within_of}
use Rattle.law_running_line.proofs.TurnHands.{Fewer, Hand, fresh, hand_in, hand_of, inserts_fewer, kept_lies, none_gone, one_gone, removes_fewer, replaces_fewer}
use Rattle.law_running_line.proofs.TurnInto.{GoesAs, IsNoJoint, into_by, plain_acts, plain_joins, reads_in}
use Rattle.law_running_line.proofs.TurnLeaves.{done_in, fit_then, rests_then}
use Rattle.law_running_line.proofs.TurnShape.{made_then, own_node}
use Rattle.law_running_line.proofs.TurnStands.{LeavesAll, TurnsInto, own_scene, trace_then}

-- what a turn comes to, with what is gone then
pub record ByHand (j : ℕ) {reading : Reading} {input : Input} {moment : ℤ} {before after : Running} {told : List Act} (t : Trace) (turn : Turns reading (j + 1) input moment before after told) : Type 0 where
  pub gone : ℕ → Bool
  pub into : TurnsInto j t asked_for (scene_of t before j) gone turn
  pub leaves : LeavesAll after (trace_then into)

goes_into : {j : ℕ} {reading : Reading} {input : Input} {moment : ℤ} {before after : Running} {told : List Act} (t : Trace) (elsewhere gone : ℕ → Bool) (turn : Turns reading (j + 1) input moment before after told) → IsNoJoint input
    → GoesAhead (afar_of elsewhere (between_of t before j) gone) (node_in before j).lane.body.kept turn.rest (t.ghost j) (t.ghost (j + 1)) (scene_of t before j) (done_in turn) → TurnsInto j t asked_for (scene_of t before j) gone turn
goes_into {j = j} {input = input} {before = before} t elsewhere gone turn plain ahead =
    into_by {elsewhere = elsewhere} t asked_for (scene_of t before j) turn (own_scene t before j)
    (subst (λ (d : Scene). GoesAs t before j elsewhere turn.rest (done_in turn).body d gone) (plain_acts input asked_for (done_in turn).acts (scene_of t before j) plain) ahead.goes)
    ahead.read (plain_joins t asked_for turn plain)

-- ---- why it may

passes : (test : Bool) (why : No) (next : Result (Unit {0}) No) → no_if test why next ≡ may_do → (test ≡ false) × (next ≡ may_do)
passes true why next is = absurd (cc)
passes false why next is = (refl, is)

holds_of : (test : Bool) → not test ≡ false → test ≡ true
holds_of true is = refl
holds_of false is = absurd (false≢true (sym is))

next_is : (maker : Maker) → is_used_up maker.used ≡ false → next_id maker ≡ Ok (made_id maker.machine (maker.used + 1))
next_is maker some = ap (λ (test : Bool). cond test (Err (record {})) (Ok (made_id maker.machine (maker.used + 1)))) some

abbrev elsewhere_in : Running → ℕ → ℕ → Bool
elsewhere_in s j = elsewhere_of (machine_at s.floor (j + 1)).boards

-- the relation goes on to the scene behind a step
abbrev AheadAs : Trace → Running → ℕ → (ℕ → Bool) → List Sensed → Done → Type 0
AheadAs t s j gone rest done = GoesAhead (afar_of (elsewhere_in s j) (between_of t s j) gone) (node_in s j).lane.body.kept rest (t.ghost j) (t.ghost (j + 1)) (scene_of t s j) done

within_floor : {machine : ℕ} {input : Input} {reading : Reading} {moment : ℤ} {before after : Running} {told : List Act} (t : Trace) → Stands t before → (turn : Turns reading machine input moment before after told) → machine ≤ length before.floor.machines
within_floor {machine = machine} {before = before} t st turn =
    let within = (within_of machine before turn.node turn.there).1 in
    let many = st.many in
    omega (arith, within, many)

some_machine : (j : ℕ) → 1 ≤ j + 1
some_machine j = omega arith

-- ---- what is gone with one board more

grows_with : (gone : ℕ → Bool) (id : ℕ) → Grows gone (with_gone gone id)
grows_with gone id x is = or_left (gone x) (nat_eq x id) is

own_with : (gone : ℕ → Bool) (id : ℕ) → with_gone gone id id ≡ true
own_with gone id = or_right (gone id) (nat_eq id id) (eq-eqb id id refl)

lies_counted_there : (t : Trace) (s : Running) (m id : ℕ) → Stands t s → Lies id (machine_at s.floor m).boards → 1 ≤ counted id (boards_on s.floor)
lies_counted_there t s m id st lies = lies_on_floor t (line_of s) id (at_machine m) st.whole (to_line t s (lies_at lies))

-- ---- A BOARD IS PUT IN

here_inserted : (j id : ℕ) (t : Trace) (s : Running) → Stands t s → ((x : ℕ) → IsMade s x → x ≢ id) → AreHere (t.gone (j + 1)) ((machine_at s.floor (j + 1)).boards ++ record { id = Some id } ∷ [])
here_inserted j id t s st new x lies gone = elim (lies_last (machine_at s.floor (j + 1)).boards lies) [
  | inl there ↦ st.keeps.apart.nowhere (j + 1) x (at_machine (j + 1)) gone (lies_at there)
  | inr is ↦ new x (st.olds (j + 1) x gone) is
]

pub insert_by_hand : {j : ℕ} {barcode : Option (List ℕ)} {reading : Reading} {moment : ℤ} {before after : Running} {told : List Act} (t : Trace) → Stands t before → (turn : Turns reading (j + 1) (inputs.Insert barcode) moment before after told) → ByHand j t turn
insert_by_hand {j} {barcode} {reading} {moment} {before} {after} t st turn =
    let desk : Desk = desk_of turn.node moment in
    let one = passes (not (is_intake_free turn.node.lane.body)) _ _ turn.may in
    let two = passes _ _ _ one.1 in
    let three = passes (is_used_up turn.node.maker.used) _ _ two.1 in
    let idle : turn.node.lane.body.intake.phase ≡ inn.Idle = free_phase turn.node.lane.body.intake.phase (holds_of (is_intake_free turn.node.lane.body) one.0) in
    let id : ℕ = made_id turn.node.maker.machine (turn.node.maker.used + 1) in
    let is : next_id turn.node.maker ≡ Ok id = next_is turn.node.maker three.0 in
    let new : (x : ℕ) → IsMade before x → x ≢ id = λ x made. fresh before (j + 1) turn.node id x st.numbers turn.there is made in
    let Q : Result ℕ IdsUsedUp → Type 0 = λ answer. AheadAs t before j (t.gone (j + 1)) turn.rest (machine_step desk turn.read (with_new answer (λ n. Insert n barcode)) turn.node.lane.body) in
    let goes : Q (next_id turn.node.maker) = subst Q (sym is) (insert_ahead (t.gone (j + 1)) desk turn.read id barcode turn.node.lane.body (scene_of t before j) (reads_in t st turn) idle (λ x gone. gone) (here_inserted j id t before st new)) in
    let into : TurnsInto j t asked_for (scene_of t before j) (t.gone (j + 1)) turn = goes_into t (elsewhere_in before j) (t.gone (j + 1)) turn tt goes in
    let hand : hand_of turn ≡ acts.Inserts id ∷ [] = ap (λ (answer : Result ℕ IdsUsedUp). (event_did desk (with_new answer (λ n. Insert n barcode)) (all_read desk turn.read turn.node.lane.body).body).acts) is in
    let h : Hand (acts.Inserts id) turn = hand_in turn (acts.Inserts id) hand (λ world. refl) (some_machine j) (within_floor t st turn) in
    let f : Fewer before after = inserts_fewer t id turn st h (some_machine j) (within_floor t st turn) is turn.steps.lane.made in
    let same : (k x : ℕ) → (trace_then into).gone k x ≡ t.gone k x = λ k x. same_gone (j + 1) t k x (same_or_not k (j + 1)) in
    record {
      gone = t.gone (j + 1);
      into = into;
      leaves = record {
        differ = f.differ;
        gone = none_gone t (trace_then into) st f same;
        fit = fit_then turn t st tt;
        rest = rests_then turn t st;
        made = f.made;
        olds = λ k x gone. made_then turn x (st.olds k x (sym (same k x) ∙ gone));
      };
    }

-- ---- ONE IS TAKEN OUT

here_removed : (j id : ℕ) (t : Trace) (s : Running) → Stands t s → Lies id (machine_at s.floor (j + 1)).boards → AreHere (with_gone (t.gone (j + 1)) id) (without_board id (machine_at s.floor (j + 1)).boards)
here_removed j id t s st there x lies gone =
    let boards : List Board = (machine_at s.floor (j + 1)).boards in
    elim (or_cases (t.gone (j + 1) x) (nat_eq x id) gone) [
      | inl was ↦ st.keeps.apart.nowhere (j + 1) x (at_machine (j + 1)) was (lies_at (lies_without id x boards there lies))
      | inr own ↦ gone_without id boards there (st.keeps.apart.once (j + 1)) (subst (λ (n : ℕ). Lies n (without_board id boards)) (eqb-true x id own) lies)
    ]

-- what went was made
gone_made : (j : ℕ) {input : Input} {reading : Reading} {moment : ℤ} {before after : Running} {told : List Act} (t t2 : Trace) (id : ℕ) → Stands t before → (turn : Turns reading (j + 1) input moment before after told) → 1 ≤ counted id (boards_on before.floor)
    → ((k x : ℕ) → t2.gone k x ≡ true → (t.gone k x ≡ true) ⊎ ((k ≡ j + 1) × (x ≡ id))) → (k x : ℕ) → t2.gone k x ≡ true → IsMade after x
gone_made j {before = before} {after = after} t t2 id st turn some each k x gone = elim (each k x gone) [
  | inl was ↦ made_then turn x (st.olds k x was)
  | inr own ↦ subst (λ (n : ℕ). IsMade after n) (sym own.1) (made_then turn id (st.made id some))
]

pub remove_by_hand : {j id : ℕ} {reading : Reading} {moment : ℤ} {before after : Running} {told : List Act} (t : Trace) → Stands t before → (turn : Turns reading (j + 1) (inputs.Remove id) moment before after told) → ByHand j t turn
remove_by_hand {j} {id} {reading} {moment} {before} {after} t st turn =
    let desk : Desk = desk_of turn.node moment in
    let one = passes (not (is_kept id turn.node.lane.body.kept)) _ _ turn.may in
    let kept : is_kept id turn.node.lane.body.kept ≡ true = holds_of (is_kept id turn.node.lane.body.kept) one.0 in
    let lies : Lies id (machine_at before.floor (j + 1)).boards = kept_lies t before (j + 1) id st (ap (λ (n : NodeState). is_kept id n.lane.body.kept) (own_node turn) ∙ kept) in
    let gone : ℕ → Bool = with_gone (t.gone (j + 1)) id in
    let still : is_kept id (all_read desk turn.read turn.node.lane.body).body.kept ≡ true = read_kept id desk turn.read turn.node.lane.body kept in
    let goes : AheadAs t before j gone turn.rest (done_in turn) =
    remove_ahead gone desk turn.read id turn.node.lane.body (scene_of t before j) (reads_in t st turn) (unique_at (stand_of (line_of before)) (between_of t before) j st.keeps) still (grows_with (t.gone (j + 1)) id) (own_with (t.gone (j + 1)) id) (here_removed j id t before st lies) in
    let into : TurnsInto j t asked_for (scene_of t before j) gone turn = goes_into t (elsewhere_in before j) gone turn tt goes in
    let body : Body = (all_read desk turn.read turn.node.lane.body).body in
    let hand : hand_of turn ≡ acts.Removes id ∷ [] = ap (λ (test : Bool). (if_kept test (with_kept (without id body.kept) body) (acts.Removes id) body).acts) still in
    let h : Hand (acts.Removes id) turn = hand_in turn (acts.Removes id) hand (λ world. refl) (some_machine j) (within_floor t st turn) in
    let f = removes_fewer t id turn st h (some_machine j) (within_floor t st turn) lies in
    let some : 1 ≤ counted id (boards_on before.floor) = lies_counted_there t before (j + 1) id st lies in
    let fewer = f.1 in
    let most = st.differ.once id in
    let each : (k x : ℕ) → (trace_then into).gone k x ≡ true → (t.gone k x ≡ true) ⊎ ((k ≡ j + 1) × (x ≡ id)) = λ k x is. taken_gone (j + 1) id t k x (same_or_not k (j + 1)) is in
    record {
      gone = gone;
      into = into;
      leaves = record {
        differ = f.0.differ;
        gone = one_gone t (trace_then into) (j + 1) id st f.0 some (omega (arith, fewer, most)) each;
        fit = fit_then turn t st tt;
        rest = rests_then turn t st;
        made = f.0.made;
        olds = λ k x is. gone_made j t (trace_then into) id st turn some each k x is;
      };
    }

-- ---- ANOTHER COMES INTO ITS PLACE

here_renamed : (j old new : ℕ) (t : Trace) (s : Running) → Stands t s → Lies old (machine_at s.floor (j + 1)).boards → ((x : ℕ) → IsMade s x → x ≢ new) → (old ≡ new → ⊥) → AreHere (with_gone (t.gone (j + 1)) old) (with_new_id old new (machine_at s.floor (j + 1)).boards)
here_renamed j old new t s st there fresh apart x lies gone =
    let boards : List Board = (machine_at s.floor (j + 1)).boards in
    elim (or_cases (t.gone (j + 1) x) (nat_eq x old) gone) [
      | inl was ↦ elim (lies_renamed old new x boards there lies) [
        | inl before ↦ st.keeps.apart.nowhere (j + 1) x (at_machine (j + 1)) was (lies_at before)
        | inr is ↦ fresh x (st.olds (j + 1) x was) is
      ]
      | inr own ↦ gone_renamed old new boards there apart (st.keeps.apart.once (j + 1)) (subst (λ (n : ℕ). Lies n (with_new_id old new boards)) (eqb-true x old own) lies)
    ]

pub replace_by_hand : {j old : ℕ} {reading : Reading} {moment : ℤ} {before after : Running} {told : List Act} (t : Trace) → Stands t before → (turn : Turns reading (j + 1) (inputs.Replace old) moment before after told) → ByHand j t turn
replace_by_hand {j} {old} {reading} {moment} {before} {after} t st turn =
    let desk : Desk = desk_of turn.node moment in
    let one = passes (not (is_kept old turn.node.lane.body.kept)) _ _ turn.may in
    let two = passes (is_used_up turn.node.maker.used) _ _ one.1 in
    let kept : is_kept old turn.node.lane.body.kept ≡ true = holds_of (is_kept old turn.node.lane.body.kept) one.0 in
    let id : ℕ = made_id turn.node.maker.machine (turn.node.maker.used + 1) in
    let is : next_id turn.node.maker ≡ Ok id = next_is turn.node.maker two.0 in
    let new : (x : ℕ) → IsMade before x → x ≢ id = λ x made. fresh before (j + 1) turn.node id x st.numbers turn.there is made in
    let lies : Lies old (machine_at before.floor (j + 1)).boards = kept_lies t before (j + 1) old st (ap (λ (n : NodeState). is_kept old n.lane.body.kept) (own_node turn) ∙ kept) in
    let some : 1 ≤ counted old (boards_on before.floor) = lies_counted_there t before (j + 1) old st lies in
    let apart : old ≢ id = new old (st.made old some) in
    let gone : ℕ → Bool = with_gone (t.gone (j + 1)) old in
    let body : Body = (all_read desk turn.read turn.node.lane.body).body in
    let still : is_kept old body.kept ≡ true = read_kept old desk turn.read turn.node.lane.body kept in
    let Q : Result ℕ IdsUsedUp → Type 0 = λ answer. AheadAs t before j gone turn.rest (machine_step desk turn.read (with_new answer (Replace old)) turn.node.lane.body) in
    let goes : Q (next_id turn.node.maker) = subst Q (sym is)
    (replace_ahead gone desk turn.read old id turn.node.lane.body (scene_of t before j) (reads_in t st turn) (unique_at (stand_of (line_of before)) (between_of t before) j st.keeps) still (grows_with (t.gone (j + 1)) old) (own_with (t.gone (j + 1)) old)
    (here_renamed j old id t before st lies new apart)) in
    let into : TurnsInto j t asked_for (scene_of t before j) gone turn = goes_into t (elsewhere_in before j) gone turn tt goes in
    let hand : hand_of turn ≡ acts.Replaces old id ∷ [] =
    ap (λ (answer : Result ℕ IdsUsedUp). (event_did desk (with_new answer (Replace old)) body).acts) is
    ∙ ap (λ (test : Bool). (if_kept test (with_kept (with_instead old (plain_record id desk.name None) body.kept) body) (acts.Replaces old id) body).acts) still in
    let h : Hand (acts.Replaces old id) turn = hand_in turn (acts.Replaces old id) hand (λ world. refl) (some_machine j) (within_floor t st turn) in
    let f = replaces_fewer t old id turn st h (some_machine j) (within_floor t st turn) lies apart is turn.steps.lane.made in
    let fewer = f.1 in
    let most = st.differ.once old in
    let each : (k x : ℕ) → (trace_then into).gone k x ≡ true → (t.gone k x ≡ true) ⊎ ((k ≡ j + 1) × (x ≡ old)) = λ k x is. taken_gone (j + 1) old t k x (same_or_not k (j + 1)) is in
    record {
      gone = gone;
      into = into;
      leaves = record {
        differ = f.0.differ;
        gone = one_gone t (trace_then into) (j + 1) old st f.0 some (omega (arith, fewer, most)) each;
        fit = fit_then turn t st tt;
        rest = rests_then turn t st;
        made = f.0.made;
        olds = λ k x is. gone_made j t (trace_then into) old st turn some each k x is;
      };
    }

-- WHAT A HAND CHANGES IN A TURN: a board is put in, taken out or gets another id, and all else on the floor stays.
use Rattle.std.proofs.Common.{Bool, List, None, Option, Ok, Some, [], ap, append_assoc, arith, eq-eqb, eqb-true, false, get_or, inl, inr, length, refl, subst, suc, sym, true, ℕ, ℤ, ◌++◌, ◌+◌, ◌<◌, ◌==◌, ◌∙◌, ◌∷◌, ◌≡◌, ◌≢◌, ◌≤◌, ◌⊎◌}
use Rattle.std.specs.Prelude.{cond, nat_le, position}
use Rattle.std.specs.List.{list_any, position_or_len}
use Rattle.std.proofs.lemmas.Bool.{false≢true, or_from, or_right}
use Rattle.std.proofs.lemmas.Grind.{common_steps}
use Rattle.std.proofs.lemmas.List.Sums.{fails_before_first}
use Rattle.law_one_standing.proofs.ApartStep.{gained_count, lost_count, own_lost_count, changed_count, own_changed_count}
use Rattle.line_step.proofs.FloorLaws.{IsNew, new_by}
use Rattle.board_record.specs.Maker.{Maker, after_next, made_id, next_id}
use Rattle.board_record.specs.declared.record.Record.{Record}
use Rattle.line_world.specs.Boards.{LosesBoard, boards_on}
use Rattle.line_world.specs.FloorPlan.{AtMachine, FloorPlan, has_id, machine_at, place_of, with_unread}
use Rattle.line_world.specs.Ids.{HasFreshId, IdsDiffer}
use Rattle.line_world.specs.declared.board.Board.{Board}
use Rattle.line_world.proofs.Differing.{changes_differ, gains_differ, loses_differ, same_differ}
use Rattle.line_world.proofs.Keeping.{as_many_machines, boards_unread}
use Rattle.line_world.proofs.Placing.{nowhere_of}
use Rattle.node_core.specs.Announces.{announces}
use Rattle.node_core.specs.Boards.{is_kept}
use Rattle.node_core.specs.Desk.{Desk}
use Rattle.node_core.specs.Done.{Done}
use Rattle.node_core.specs.Event.{event_did}
use Rattle.node_core.specs.Node.{NodeState, desk_of}
use Rattle.node_core.specs.Reads.{all_read}
use Rattle.node_core.specs.Signals.{signalled}
use Rattle.node_core.specs.Step.{plain_step}
use Rattle.node_core.specs.Supervising.{tells_behind, watch_after, watch_behind, watch_of, with_tells}
use Rattle.node_core.specs.declared.act.Act.{Act}
use Rattle.node_core.specs.declared.act.Act.TheVariants as acts
use Rattle.node_core.specs.declared.input.Input.{Input}
use Rattle.node_core.specs.declared.supervising.Watch.{Watch}
use Rattle.law_custody.specs.Contents.{Kept, kept_first, kept_later}
use Rattle.law_machine_custody.specs.Good.{Lies, lies_first, lies_later}
use Rattle.line_step.specs.Acts.{act_did as line_act, changes, lays, takes_off}
use Rattle.line_step.specs.Steps.{is_second}
use Rattle.line_step.specs.World.{WorldParts}
use Rattle.step_rules.proofs.Hands.{AreQuiet, announces-quiet, hands_with_tells, quiet-join, read-quiet, signals-quiet, tells_behind-quiet}
use Rattle.line_step.proofs.Numbers.{none_or_one, same_or_not}
use Rattle.line_step.proofs.OnFloor.{Handles, IsPlain, LiesThere, changes-changes, handles, lays-gains, read-list, same-list, takes_off-loses}
use Rattle.line_step.proofs.WithTells.{tells_append}
use Rattle.law_one_standing.specs.Carried.{Trace}
use Rattle.law_one_standing.proofs.ApartFloor.{counted}
use Rattle.law_one_standing.proofs.MarksPlace.{in_middle, part_lies_at}
use Rattle.law_one_standing.proofs.Mirroring.{same_some}
use Rattle.law_running_line.specs.New.{NumbersDiffer}
use Rattle.law_running_line.specs.Reading.{Reading}
use Rattle.law_running_line.specs.Running.{Running, node_of}
use Rattle.law_running_line.specs.Stands.{IsMade, Stands, node_in}
use Rattle.law_running_line.specs.Turns.{Turns}
use Rattle.law_running_line.proofs.FloorMoves.{gone_nowhere}
use Rattle.law_running_line.proofs.OneStand.{has_end}
use Rattle.law_running_line.proofs.TurnFloor.{floor_world}
use Rattle.law_running_line.proofs.TurnLeaves.{event_in}
use Rattle.law_running_line.proofs.TurnShape.{floor_is, made_then, next_in}
use Rattle.law_running_line.proofs.TurnStands.{AreGone}

-- ---- one act by hand among the acts of a turn

record Parts (told : List Act) (act : Act) : Type 0 where
  front : List Act
  back : List Act
  is : told ≡ front ++ act ∷ back
  first : AreQuiet front
  last : AreQuiet back

-- with what the supervisor is told
parts_told : (desk : Desk) (watch : Watch) (plain : List Act) (act : Act) → Parts plain act → Parts (with_tells desk watch plain) act
parts_told desk watch plain act parts =
    let then_is = watch_behind watch parts.front in
    let back = with_tells desk (watch_after then_is act) parts.back in
    record {
      front = with_tells desk watch parts.front;
      back = tells_behind desk then_is act ++ back;
      is = ap (with_tells desk watch) parts.is ∙ tells_append desk watch parts.front (act ∷ parts.back);
      first = hands_with_tells desk watch parts.front parts.first;
      last = quiet-join (tells_behind desk then_is act) back (tells_behind-quiet desk then_is act) (hands_with_tells desk (watch_after then_is act) parts.back parts.last);
    }

-- and with a bridge's own signals behind
parts_behind : (told own : List Act) (act : Act) → Parts told act → AreQuiet own → Parts (told ++ own) act
parts_behind told own act parts quiet = record {
  front = parts.front;
  back = parts.back ++ own;
  is = ap (λ (made : List Act). made ++ own) parts.is ∙ append_assoc parts.front (act ∷ parts.back) own;
  first = parts.first;
  last = quiet-join parts.back own parts.last quiet;
}

-- what the event itself does
abbrev pub hand_of : {reading : Reading} {machine : ℕ} {input : Input} {moment : ℤ} {before after : Running} {told : List Act} → Turns reading machine input moment before after told → List Act
hand_of {moment = moment} turn = (event_did (desk_of turn.node moment) (event_in turn) (all_read (desk_of turn.node moment) turn.read turn.node.lane.body).body).acts

parts_of : {reading : Reading} {machine : ℕ} {input : Input} {moment : ℤ} {before after : Running} {told : List Act} (turn : Turns reading machine input moment before after told) (act : Act) → hand_of turn ≡ act ∷ [] → Parts told act
parts_of {moment = moment} turn act one =
    let desk : Desk = desk_of turn.node moment in
    let read : Done = all_read desk turn.read turn.node.lane.body in
    let did : Done = event_did desk (event_in turn) read.body in
    let plain : List Act = (plain_step desk turn.read (event_in turn) turn.node.lane.body).acts in
    let parts : Parts plain act = record {
      front = read.acts;
      back = (announces desk did.body).acts;
      is = ap (λ (hand : List Act). read.acts ++ (hand ++ (announces desk did.body).acts)) one;
      first = read-quiet desk turn.read turn.node.lane.body;
      last = announces-quiet desk did.body;
    } in
    subst (λ (done : List Act). Parts done act) (sym (turn.steps.told ∙ ap (λ (made : List Act). made ++ signalled turn.node.bridge turn.next.lane.body) turn.steps.lane.told))
    (parts_behind (with_tells desk (watch_of desk turn.node.lane.body) plain) (signalled turn.node.bridge turn.next.lane.body) act (parts_told desk (watch_of desk turn.node.lane.body) plain act parts) (signals-quiet turn.node.bridge turn.next.lane.body))

-- the floor before the act, and behind it, as far as boards go
pub record Hand {reading : Reading} {machine : ℕ} {input : Input} {moment : ℤ} {before after : Running} {told : List Act} (act : Act) (turn : Turns reading machine input moment before after told) : Type 0 where
  pub plan : WorldParts
  pub was : boards_on plan.floor ≡ boards_on before.floor
  pub many : length plan.floor.machines ≡ length before.floor.machines
  pub list : (machine_at plan.floor machine).boards ≡ (machine_at before.floor machine).boards
  pub now : boards_on after.floor ≡ boards_on (line_act (is_second input) machine act plan).world.floor

pub hand_in : {reading : Reading} {machine : ℕ} {input : Input} {moment : ℤ} {before after : Running} {told : List Act} (turn : Turns reading machine input moment before after told) (act : Act) → hand_of turn ≡ act ∷ []
    → IsPlain (is_second input) machine act → 1 ≤ machine → machine ≤ length before.floor.machines → Hand act turn
hand_in {machine = machine} {input = input} {before = before} {after = after} {told = told} turn act one plain counted within =
    let second : Bool = is_second input in
    let read : FloorPlan = with_unread before.floor machine turn.rest in
    let parts : Parts told act = parts_of turn act one in
    let h : Handles second machine act told (floor_world read) = subst (λ (list : List Act). Handles second machine act list (floor_world read)) (sym parts.is) (handles second machine act parts.front parts.back (floor_world read) plain parts.first parts.last) in
    record {
      plan = h.before;
      was = h.reaches.boards ∙ boards_unread before.floor machine turn.rest;
      many = ap (λ (ms : List AtMachine). length ms) h.reaches.machines ∙ as_many_machines before.floor machine (record (machine_at before.floor machine) { unread = turn.rest });
      list = ap (λ (m : AtMachine). m.boards) (same-list read h.before.floor machine h.reaches.machines) ∙ read-list before.floor machine turn.rest counted within;
      now = ap boards_on (floor_is turn) ∙ h.goes_on.boards;
    }

-- ---- boards are counted

-- ---- ids that the machines made

next_of : (maker : Maker) (id : ℕ) → next_id maker ≡ Ok id → IsNew maker id
next_of maker id is = new_by (nat_le 281474976710655 maker.used) maker id refl is

-- ids of one number and count are made under it
same_made : (machine other count more : ℕ) → count < 281474976710656 → more < 281474976710656 → made_id machine count ≡ made_id other more → (machine ≡ other) × (count ≡ more)
same_made machine other count more small little is = (omega (arith, small, little, is), omega (arith, small, little, is))

-- the next id of a machine is none that was made
pub fresh : (s : Running) (machine : ℕ) (node : NodeState) (id x : ℕ) → NumbersDiffer s → node_of machine s ≡ Some node → next_id node.maker ≡ Ok id → IsMade s x → x ≢ id
fresh s machine node id x differ there is made same =
    let n : IsNew node.maker id = next_of node.maker id is in
    let e = same_made made.node.maker.machine node.maker.machine made.count (node.maker.used + 1) made.small n.small (sym made.is ∙ same ∙ n.is) in
    let at : made.machine ≡ machine = differ.apart made.machine machine made.node node made.there there e.0 in
    let own : made.node ≡ node = same_some (sym made.there ∙ ap (λ (k : ℕ). node_of k s) at ∙ there) in
    let used : made.node.maker.used ≡ node.maker.used = ap (λ (n : NodeState). n.maker.used) own in
    let count = e.1 in
    let most = made.used in
    omega (arith, used, count, most)

-- ---- a kept board lies at its machine

kept_if : (test : Bool) (x : ℕ) (r : Record) (rs : List Record) → (r.id == x) ≡ test → cond test true (is_kept x rs) ≡ true → (is_kept x rs ≡ true → Kept x rs) → Kept x (r ∷ rs)
kept_if true x r rs is some rest = subst (λ (n : ℕ). Kept n (r ∷ rs)) (eqb-true r.id x is) kept_first
kept_if false x r rs is some rest = kept_later (rest some)

kept_true : (x : ℕ) (rs : List Record) → is_kept x rs ≡ true → Kept x rs
kept_true x [] is = absurd (false≢true is)
kept_true x (r ∷ rs) is = kept_if (r.id == x) x r rs refl is (kept_true x rs)

pub kept_lies : (t : Trace) (s : Running) (machine id : ℕ) → Stands t s → is_kept id (node_in s machine).lane.body.kept ≡ true → Lies id (machine_at s.floor machine).boards
kept_lies t s machine id st kept = part_lies_at (has_end t s st) st.keeps (in_middle (kept_true id (node_in s machine).lane.body.kept kept))

none_lie : (id : ℕ) (boards : List Board) (d : Board) → ((k : ℕ) → k < length boards → has_id id (get_or boards k d) ≡ false) → list_any (has_id id) boards ≡ false
none_lie id [] d none = refl
none_lie id (board ∷ boards) d none = or_from _ _ (none 0 (omega arith)) (none_lie id boards d (λ k inside. none (suc k) (omega (arith, inside))))

all_fail : (id : ℕ) (boards : List Board) (d : Board) → position (has_id id) boards ≡ None → (k : ℕ) → k < length boards → has_id id (get_or boards k d) ≡ false
all_fail id boards d is k inside =
    let past : length boards ≤ position_or_len (has_id id) boards = grind (arith, common_steps) in
    fails_before_first (has_id id) boards k d (omega (arith, past, inside))

any_lies : {x : ℕ} {boards : List Board} → Lies x boards → list_any (has_id x) boards ≡ true
any_lies (lies_first {x = x}) = rw (eq-eqb x x refl) refl
any_lies {x = x} (lies_later {b = b} {bs = bs} l) = or_right (has_id x b) (list_any (has_id x) bs) (any_lies l)

placed_by : (id : ℕ) (boards : List Board) (found : Option ℕ) → place_of id boards ≡ found → Lies id boards → LiesThere id boards
placed_by id boards (Some place) is lies = record { place = place; found = is }
placed_by id [] None is lies = elim lies [ ]
placed_by id (board ∷ boards) None is lies = absurd (false≢true (sym (none_lie id (board ∷ boards) board (all_fail id (board ∷ boards) board is)) ∙ any_lies lies))

pub lies_there : (id : ℕ) (boards : List Board) → Lies id boards → LiesThere id boards
lies_there id boards lies = placed_by id boards (place_of id boards) refl lies

-- ---- what a hand leaves

-- no more boards of an id that was made lie on the floor than before, and each that does was made
pub record Fewer (before after : Running) : Type 0 where
  pub fewer : (x : ℕ) → IsMade before x → counted x (boards_on after.floor) ≤ counted x (boards_on before.floor)
  pub differ : IdsDiffer after.floor
  pub made : (x : ℕ) → 1 ≤ counted x (boards_on after.floor) → IsMade after x

-- what was gone is, and nothing else
pub none_gone : {before after : Running} (t t2 : Trace) → Stands t before → Fewer before after → ((k x : ℕ) → t2.gone k x ≡ t.gone k x) → AreGone t2 after
none_gone {before} t t2 st f same = record {
  none = λ k x gone. (let was : t.gone k x ≡ true = sym (same k x) ∙ gone in omega (arith, gone_nowhere t before k x st was, f.fewer x (st.olds k x was)));
  once = λ i k x one two. st.keeps.apart.gone_once i k x (sym (same i x) ∙ one) (sym (same k x) ∙ two);
}

-- and one board more, that lay on the floor
pub one_gone : {before after : Running} (t t2 : Trace) (m id : ℕ) → Stands t before → Fewer before after → 1 ≤ counted id (boards_on before.floor) → counted id (boards_on after.floor) ≡ 0
    → ((k x : ℕ) → t2.gone k x ≡ true → (t.gone k x ≡ true) ⊎ ((k ≡ m) × (x ≡ id))) → AreGone t2 after
one_gone {before} {after} t t2 m id st f some none each = record {
  none = λ k x gone. elim (each k x gone) [
    | inl was ↦ omega (arith, gone_nowhere t before k x st was, f.fewer x (st.olds k x was))
    | inr own ↦ ap (λ (n : ℕ). counted n (boards_on after.floor)) own.1 ∙ none
  ];
  once = λ i k x one two. elim (each i x one) [
    | inl was ↦ elim (each k x two) [ inl also ↦ st.keeps.apart.gone_once i k x was also | inr own ↦ absurd (not_gone i x own.1 was) ]
    | inr own ↦ elim (each k x two) [ inl was ↦ absurd (not_gone k x own.1 was) | inr also ↦ own.0 ∙ sym also.0 ]
  ];
} where
  not_gone : (k x : ℕ) → x ≡ id → t.gone k x ≡ true → ⊥
  not_gone k x is was = (let there : t.gone k id ≡ true = subst (λ (n : ℕ). t.gone k n ≡ true) is was in omega (arith, some, gone_nowhere t before k id st there))

-- no board has the next id
fresh_there : (t : Trace) (s : Running) (machine : ℕ) (node : NodeState) (id : ℕ) (plan : FloorPlan) → Stands t s → node_of machine s ≡ Some node → next_id node.maker ≡ Ok id → boards_on plan ≡ boards_on s.floor → HasFreshId plan (record { id = Some id })
fresh_there t s machine node id plan st there is same other has =
    let own : id ≡ other = eqb-true id other has in
    nowhere_of other plan (ap (λ (boards : List Board). counted other boards) same ∙ none_of (none_or_one (counted other (boards_on s.floor))) own)
  where
    none_of : {other : ℕ} → (counted other (boards_on s.floor) ≡ 0) ⊎ (1 ≤ counted other (boards_on s.floor)) → id ≡ other → counted other (boards_on s.floor) ≡ 0
    none_of (inl none) own = none
    none_of {other} (inr some) own = absurd (fresh s machine node id other st.numbers there is (st.made other some) (sym own))

-- the next id was made then
pub next_made : {reading : Reading} {machine : ℕ} {input : Input} {moment : ℤ} {before after : Running} {told : List Act} (turn : Turns reading machine input moment before after told) (id : ℕ) → next_id turn.node.maker ≡ Ok id → turn.next.maker ≡ after_next turn.node.maker
    → IsMade after id
next_made {machine = machine} turn id is made =
    let n : IsNew turn.node.maker id = next_of turn.node.maker id is in
    let used : turn.next.maker.used ≡ turn.node.maker.used + 1 = ap (λ (m : Maker). m.used) made ∙ n.now in
    let number : turn.node.maker.machine ≡ turn.next.maker.machine = sym (number_after turn.node.maker) ∙ ap (λ (m : Maker). m.machine) (sym made) in
    record {
      machine = machine;
      node = turn.next;
      there = next_in turn;
      count = turn.node.maker.used + 1;
      used = omega (arith, used);
      small = n.small;
      is = n.is ∙ ap (λ (k : ℕ). made_id k (turn.node.maker.used + 1)) number;
    }
  where
    full_stays : (test : Bool) (maker : Maker) → (cond test maker (record maker { used = maker.used + 1 })).machine ≡ maker.machine
    full_stays true maker = refl
    full_stays false maker = refl

    number_after : (maker : Maker) → (after_next maker).machine ≡ maker.machine
    number_after maker = full_stays (nat_le 281474976710655 maker.used) maker

-- a board is put in
pub inserts_fewer : {reading : Reading} {machine : ℕ} {input : Input} {moment : ℤ} {before after : Running} {told : List Act} (t : Trace) (id : ℕ) (turn : Turns reading machine input moment before after told) → Stands t before → Hand (acts.Inserts id) turn
    → 1 ≤ machine → machine ≤ length before.floor.machines → next_id turn.node.maker ≡ Ok id → turn.next.maker ≡ after_next turn.node.maker → Fewer before after
inserts_fewer {machine = machine} {before = before} {after = after} t id turn st h counts within is made =
    let plan : FloorPlan = h.plan.floor in
    let many = h.many in
    let board : Board = record { id = Some id } in
    let gain : LosesBoard (boards_on (lays machine id plan)) (boards_on plan) board = lays-gains plan machine id counts (omega (arith, many, within)) in
    let count : (x : ℕ) → x ≢ id → counted x (boards_on after.floor) ≤ counted x (boards_on before.floor) = λ x apart.
    omega (arith, ap (λ (bs : List Board). counted x bs) h.now, gained_count x id (boards_on plan) (boards_on (lays machine id plan)) gain apart, ap (λ (bs : List Board). counted x bs) h.was) in
    record {
      fewer = λ x old. count x (fresh before machine turn.node id x st.numbers turn.there is old);
      differ = same_differ (lays machine id plan) after.floor h.now (gains_differ plan (lays machine id plan) board gain (fresh_there t before machine turn.node id plan st turn.there is h.was) (same_differ before.floor plan h.was st.differ));
      made = λ x some. elim (same_or_not x id) [
        | inl own ↦ subst (λ (n : ℕ). IsMade after n) (sym own) (next_made turn id is made)
        | inr apart ↦ (let fewer = count x apart in made_then turn x (st.made x (omega (arith, some, fewer))))
      ];
    }

-- one is taken out
pub removes_fewer : {reading : Reading} {machine : ℕ} {input : Input} {moment : ℤ} {before after : Running} {told : List Act} (t : Trace) (id : ℕ) (turn : Turns reading machine input moment before after told) → Stands t before → Hand (acts.Removes id) turn
    → 1 ≤ machine → machine ≤ length before.floor.machines → Lies id (machine_at before.floor machine).boards → Fewer before after × (counted id (boards_on after.floor) + 1 ≤ counted id (boards_on before.floor))
removes_fewer {machine = machine} {before = before} {after = after} t id turn st h counts within lies =
    let plan : FloorPlan = h.plan.floor in
    let many = h.many in
    let there : LiesThere id (machine_at plan machine).boards = lies_there id (machine_at plan machine).boards (subst (λ (bs : List Board). Lies id bs) (sym h.list) lies) in
    let loss = takes_off-loses plan machine id counts (omega (arith, many, within)) there in
    let count : (x : ℕ) → counted x (boards_on after.floor) ≤ counted x (boards_on before.floor) = λ x.
    omega (arith, ap (λ (bs : List Board). counted x bs) h.now, lost_count x (boards_on plan) (boards_on (takes_off machine id plan)) loss.0 loss.2, ap (λ (bs : List Board). counted x bs) h.was) in (
      record {
        fewer = λ x old. count x;
        differ = same_differ (takes_off machine id plan) after.floor h.now (loses_differ plan (takes_off machine id plan) loss.0 loss.2 (same_differ before.floor plan h.was st.differ));
        made = λ x some. (let fewer = count x in made_then turn x (st.made x (omega (arith, some, fewer))));
      },
      omega (arith, ap (λ (bs : List Board). counted id bs) h.now, own_lost_count id (boards_on plan) (boards_on (takes_off machine id plan)) loss.0 loss.1 loss.2, ap (λ (bs : List Board). counted id bs) h.was),
    )

-- one gets another id
pub replaces_fewer : {reading : Reading} {machine : ℕ} {input : Input} {moment : ℤ} {before after : Running} {told : List Act} (t : Trace) (old id : ℕ) (turn : Turns reading machine input moment before after told) → Stands t before → Hand (acts.Replaces old id) turn
    → 1 ≤ machine → machine ≤ length before.floor.machines → Lies old (machine_at before.floor machine).boards → old ≢ id → next_id turn.node.maker ≡ Ok id → turn.next.maker ≡ after_next turn.node.maker
    → Fewer before after × (counted old (boards_on after.floor) + 1 ≤ counted old (boards_on before.floor))
replaces_fewer {machine = machine} {before = before} {after = after} t old id turn st h counts within lies other is made =
    let plan : FloorPlan = h.plan.floor in
    let many = h.many in
    let there : LiesThere old (machine_at plan machine).boards = lies_there old (machine_at plan machine).boards (subst (λ (bs : List Board). Lies old bs) (sym h.list) lies) in
    let change = changes-changes plan machine old id counts (omega (arith, many, within)) there in
    let count : (x : ℕ) → x ≢ id → counted x (boards_on after.floor) ≤ counted x (boards_on before.floor) = λ x apart.
    omega (arith, ap (λ (bs : List Board). counted x bs) h.now, changed_count x old id (boards_on plan) (boards_on (changes machine old id plan)) change apart, ap (λ (bs : List Board). counted x bs) h.was) in (
      record {
        fewer = λ x was. count x (fresh before machine turn.node id x st.numbers turn.there is was);
        differ = same_differ (changes machine old id plan) after.floor h.now (changes_differ old id plan (changes machine old id plan) change (fresh_there t before machine turn.node id plan st turn.there is h.was) (same_differ before.floor plan h.was st.differ));
        made = λ x some. elim (same_or_not x id) [
          | inl own ↦ subst (λ (n : ℕ). IsMade after n) (sym own) (next_made turn id is made)
          | inr apart ↦ (let fewer = count x apart in made_then turn x (st.made x (omega (arith, some, fewer))))
        ];
      },
      omega (arith, ap (λ (bs : List Board). counted old bs) h.now, own_changed_count old id (boards_on plan) (boards_on (changes machine old id plan)) change other, ap (λ (bs : List Board). counted old bs) h.was),
    )

-- What a shift tells: of the lane that gives what its machine told, and so of the one that gets.
use Rattle.std.proofs.Common.{◌≡◌, ◌≢◌, ◌∙◌, ◌==◌, ◌++◌, ℕ, Bool, true, false, List, [], ◌∷◌, Some, refl, sym, ap, subst, append_assoc, append-nil, eq-eqb, eqb-true, ne_eqb}
use Rattle.std.specs.Prelude.{if◌then◌else◌}
use Rattle.std.specs.List.{AllByRecursion}
use Rattle.board_record.specs.declared.record.Record.{Record}
use Rattle.line_base.specs.declared.states.Side.{Side}
use Rattle.hermes_horizontal.specs.declared.message.Message.{Message}
use Rattle.hermes_horizontal.specs.Canonical.{canonical}
use Rattle.line_link.specs.Link.{answer_sent, sent_of}
use Rattle.line_link.specs.declared.link.Sent.{Sent}
use Rattle.line_link.specs.declared.link.Sent.TheVariants as sent
use Rattle.node_core.specs.Announces.{announces}
use Rattle.node_core.specs.Boards.{first_kept, if_kept, is_kept, with_kept, without}
use Rattle.node_core.specs.Desk.{Desk}
use Rattle.node_core.specs.Event.{event_did, event_of}
use Rattle.node_core.specs.Node.{desk_of}
use Rattle.node_core.specs.Reads.{all_read}
use Rattle.node_core.specs.Shifts.{board_given}
use Rattle.node_core.specs.Signals.{signalled}
use Rattle.node_core.specs.Supervising.{tells_behind, watch_after, watch_behind, watch_of, with_tells}
use Rattle.node_core.specs.declared.act.Act.{Act}
use Rattle.node_core.specs.declared.act.Act.TheVariants as acts
use Rattle.node_core.specs.declared.input.Input.{Input}
use Rattle.node_core.specs.declared.input.Input.TheVariants as inputs
use Rattle.node_core.specs.declared.lane.Body.{Body}
use Rattle.node_core.specs.declared.supervising.Watch.{Watch}
use Rattle.line_report.specs.Lanes.{on_lane, told_on}
use Rattle.line_report.specs.Shifts.{before_first, behind_first, from_first, is_gets, is_gives, shift_told}
use Rattle.line_report.specs.declared.happening.Happening.{Happening}
use Rattle.line_report.specs.declared.happening.Happening.TheVariants as happenings
use Rattle.line_step.specs.Acts.{act_did, acts_did, answers, cut_told, sent_by}
use Rattle.line_step.specs.State.{LineState}
use Rattle.line_step.specs.Steps.{MachineSteps, is_second, moment_of, read_by, unread_by}
use Rattle.line_step.specs.World.{WorldParts, end_of, link_at, link_of}
use Rattle.line_step.proofs.FloorLaws.{plain_of}
use Rattle.step_rules.proofs.Hands.{AreQuiet, IsQuiet, announces-quiet, hands_with_tells, quiet-join, read-quiet, signals-quiet, tells_behind-quiet}
use Rattle.line_step.proofs.WithTells.{tells_append}
use Rattle.law_lanes.specs.Along.{happening_for, told_for}
use Rattle.law_lanes.proofs.Telling.{for_append, join_all}

-- ---- acts with one by hand among them

record Parts (told : List Act) (act : Act) : Type 0 where
  front : List Act
  back : List Act
  is : told ≡ front ++ (act ∷ back)
  first : AreQuiet front
  last : AreQuiet back

parts_told : (desk : Desk) (watch : Watch) (plain : List Act) (act : Act) → Parts plain act
    → Parts (with_tells desk watch plain) act
parts_told desk watch plain act parts =
    let then_is = watch_behind watch parts.front in
    let back = with_tells desk (watch_after then_is act) parts.back in
    record {
      front = with_tells desk watch parts.front;
      back = tells_behind desk then_is act ++ back;
      is =
          ap (with_tells desk watch) parts.is
          ∙ tells_append desk watch parts.front (act ∷ parts.back);
      first = hands_with_tells desk watch parts.front parts.first;
      last =
          quiet-join (tells_behind desk then_is act) back (tells_behind-quiet desk then_is act)
          (hands_with_tells desk (watch_after then_is act) parts.back parts.last);
    }

parts_behind : (told own : List Act) (act : Act) → Parts told act → AreQuiet own
    → Parts (told ++ own) act
parts_behind told own act parts quiet = record {
  front = parts.front;
  back = parts.back ++ own;
  is =
      ap (λ (made : List Act). made ++ own) parts.is
      ∙ append_assoc parts.front (act ∷ parts.back) own;
  first = parts.first;
  last = quiet-join parts.back own parts.last quiet;
}

abbrev body_read : (number machine : ℕ) (input : Input) (before after : LineState)
    (told : List Happening) → MachineSteps number machine input before after told → Body
body_read number machine input before after told steps =
    (all_read (desk_of steps.node (moment_of number)) (unread_by machine before.world)
    steps.node.lane.body).body

abbrev hand_of : (number machine : ℕ) (input : Input) (before after : LineState)
    (told : List Happening) → MachineSteps number machine input before after told → List Act
hand_of number machine input before after told steps =
    (event_did (desk_of steps.node (moment_of number))
    (event_of steps.node.maker input steps.steps.lane.words)
    (body_read number machine input before after told steps)).acts

plain_parts : (number machine : ℕ) (input : Input) (before after : LineState)
    (told : List Happening) (steps : MachineSteps number machine input before after told) (act : Act)
    → hand_of number machine input before after told steps ≡ act ∷ []
    → Parts (plain_of number machine input before after told steps) act
plain_parts number machine input before after told steps act one =
    let desk = desk_of steps.node (moment_of number) in
    let unread = unread_by machine before.world in
    let read = all_read desk unread steps.node.lane.body in
    let did = event_did desk (event_of steps.node.maker input steps.steps.lane.words) read.body in
    record {
      front = read.acts;
      back = (announces desk did.body).acts;
      is = ap (λ (hand : List Act). read.acts ++ (hand ++ (announces desk did.body).acts)) one;
      first = read-quiet desk unread steps.node.lane.body;
      last = announces-quiet desk did.body;
    }

step_parts : (number machine : ℕ) (input : Input) (before after : LineState)
    (told : List Happening) (steps : MachineSteps number machine input before after told) (act : Act)
    → hand_of number machine input before after told steps ≡ act ∷ [] → Parts steps.acts act
step_parts number machine input before after told steps act one =
    let desk = desk_of steps.node (moment_of number) in
    let watch = watch_of desk steps.node.lane.body in
    let plain = plain_of number machine input before after told steps in
    let own = signalled steps.node.bridge steps.next.lane.body in
    subst (λ (made : List Act). Parts made act)
    (sym (steps.steps.told ∙ ap (λ (made : List Act). made ++ own) steps.steps.lane.told))
    (parts_behind (with_tells desk watch plain) own act
    (parts_told desk watch plain act
    (plain_parts number machine input before after told steps act one))
    (signals-quiet steps.node.bridge steps.next.lane.body))

-- ---- what is told of them

-- no board is put in, taken out, replaced, or moved between lanes
abbrev pub IsCalm : Happening → Type 0
IsCalm (happenings.Done machine act) = IsQuiet act
IsCalm _ = Unit {0}

abbrev pub AreCalm : List Happening → Type 0
AreCalm told = AllByRecursion IsCalm told

cut_calm : (link : ℕ) (on : Sent) → AreCalm (cut_told link on)
cut_calm link sent.Cuts = (tt, tt)
cut_calm link sent.Flows = tt
cut_calm link sent.Vanishes = tt

sent_calm : (second : Bool) (machine : ℕ) (side : Side) (message : Message) (world : WorldParts)
    → AreCalm (sent_by second machine side message world).told
sent_calm true machine side message world =
    (tt, cut_calm machine (answer_sent (canonical message) (link_at machine world)))
sent_calm false machine side message world = (
  tt,
  cut_calm (link_of machine side)
      (sent_of (end_of side) (canonical message) (link_at (link_of machine side) world)),
)

act_calm : (second : Bool) (machine : ℕ) (act : Act) (world : WorldParts) → IsQuiet act
    → AreCalm (act_did second machine act world).told
act_calm second machine (acts.Sends side message) world quiet =
    sent_calm (answers second side message) machine side message world
act_calm second machine (acts.Drive side on) world quiet = tt
act_calm second machine act world quiet = (quiet, tt)

acts_calm : (second : Bool) (machine : ℕ) (made : List Act) (world : WorldParts) → AreQuiet made
    → AreCalm (acts_did second machine made world).told
acts_calm second machine [] world quiet = tt
acts_calm second machine (act ∷ others) world quiet =
    let one = act_did second machine act world in
    join_all IsCalm one.told (acts_did second machine others one.world).told
    (act_calm second machine act world quiet.0)
    (acts_calm second machine others one.world quiet.1)

-- what is told of this act stands once
pub record TellsOne (machine : ℕ) (act : Act) (told : List Happening) : Type 0 where
  pub front : List Happening
  pub back : List Happening
  pub is : told ≡ front ++ (happenings.Done machine act ∷ back)
  pub first : AreCalm front
  pub last : AreCalm back

-- it is told by itself
abbrev pub IsTold : Bool → ℕ → Act → Type 0
IsTold second machine act =
    (world : WorldParts) → (act_did second machine act world).told ≡ happenings.Done machine act ∷ []

tells_parts : (second : Bool) (machine : ℕ) (act : Act) (front back : List Act) (world : WorldParts)
    → IsTold second machine act → AreQuiet front → AreQuiet back
    → TellsOne machine act (acts_did second machine (front ++ (act ∷ back)) world).told
tells_parts second machine act [] back world own first last =
    let one = act_did second machine act world in
    let rest = (acts_did second machine back one.world).told in
    record {
      front = [];
      back = rest;
      is = ap (λ (t : List Happening). t ++ rest) (own world);
      first = tt;
      last = acts_calm second machine back one.world last;
    }
tells_parts second machine act (x ∷ front) back world own first last =
    let one = act_did second machine x world in
    let more = tells_parts second machine act front back one.world own first.1 last in
    record {
      front = one.told ++ more.front;
      back = more.back;
      is =
          ap (λ (t : List Happening). one.told ++ t) more.is
          ∙ sym (append_assoc one.told more.front (happenings.Done machine act ∷ more.back));
      first = join_all IsCalm one.told more.front (act_calm second machine x world first.0)
          more.first;
      last = more.last;
    }

step_tells : (number machine : ℕ) (input : Input) (before after : LineState)
    (told : List Happening) (steps : MachineSteps number machine input before after told) (act : Act)
    → hand_of number machine input before after told steps ≡ act ∷ []
    → IsTold (is_second input) machine act → TellsOne machine act told
step_tells number machine input before after told steps act one own =
    let parts = step_parts number machine input before after told steps act one in
    let world = read_by machine before.world in
    subst (λ (t : List Happening). TellsOne machine act t)
    (sym (steps.told_is
    ∙ ap (λ (made : List Act). (acts_did (is_second input) machine made world).told) parts.is))
    (tells_parts (is_second input) machine act parts.front parts.back world own parts.first
    parts.last)

-- ---- the two steps

pub record IsFirst (id : ℕ) (boards : List Record) (board : Record) : Type 0 where
  pub kept : is_kept id boards ≡ true
  pub is : board.id ≡ id

first_by : (id : ℕ) (first : Record) (boards : List Record) (board : Record) (same : Bool)
    → (first.id == id) ≡ same
    → (first_kept id boards ≡ Some board → IsFirst id boards board)
    → (if same then Some first else first_kept id boards) ≡ Some board
    → ((if same then true else is_kept id boards) ≡ true) × (board.id ≡ id)
first_by id first boards board true here later is =
    let own : first ≡ board = cc in
    (refl, ap (λ (r : Record). r.id) (sym own) ∙ eqb-true first.id id here)
first_by id first boards board false here later is =
    let rest = later is in
    (rest.kept, rest.is)

pub first_is_kept : (id : ℕ) (kept : List Record) (board : Record)
    → first_kept id kept ≡ Some board → IsFirst id kept board
first_is_kept id [] board is = cc
first_is_kept id (first ∷ boards) board is =
    let both =
    first_by id first boards board (first.id == id) refl (first_is_kept id boards board) is in
    record { kept = both.0; is = both.1 }

pub gives_tells : (number machine id to : ℕ) (before after : LineState) (told : List Happening)
    (steps : MachineSteps number machine (inputs.Gives id to) before after told) (board : Record)
    → board_given steps.node (unread_by machine before.world) (moment_of number) id ≡ Some board
    → TellsOne machine (acts.Gives id to) told
gives_tells number machine id to before after told steps board is =
    let body = body_read number machine (inputs.Gives id to) before after told steps in
    let first = first_is_kept id body.kept board is in
    step_tells number machine (inputs.Gives id to) before after told steps (acts.Gives id to)
    (ap (λ (test : Bool). (if_kept test (with_kept (without id body.kept) body) (acts.Gives id to)
    body).acts) first.kept) (λ world. refl)

pub gets_tells : (number machine : ℕ) (board : Record) (before after : LineState)
    (told : List Happening) → MachineSteps number machine (inputs.Gets board) before after told
    → TellsOne machine (acts.Gets board.id) told
gets_tells number machine board before after told steps =
    step_tells number machine (inputs.Gets board) before after told steps (acts.Gets board.id) refl
    (λ world. refl)

-- ---- the lists around it

abbrev IsNot : (Happening → Bool) → Happening → Type 0
IsNot is h = is h ≡ false

before_at : (is : Happening → Bool) (front : List Happening) (h : Happening) (back : List Happening)
    → AllByRecursion (IsNot is) front → is h ≡ true → before_first is (front ++ (h ∷ back)) ≡ front
before_at is [] h back none own =
    ap (λ (b : Bool). if b then [] else h ∷ before_first is back) own
before_at is (x ∷ front) h back none own =
    ap (λ (b : Bool). if b then [] else x ∷ before_first is (front ++ (h ∷ back))) none.0
    ∙ ap (λ (t : List Happening). x ∷ t) (before_at is front h back none.1 own)

from_at : (is : Happening → Bool) (front : List Happening) (h : Happening) (back : List Happening)
    → AllByRecursion (IsNot is) front → is h ≡ true
    → from_first is (front ++ (h ∷ back)) ≡ h ∷ back
from_at is [] h back none own =
    ap (λ (b : Bool). if b then h ∷ back else from_first is back) own
from_at is (x ∷ front) h back none own =
    ap (λ (b : Bool). if b then x ∷ (front ++ (h ∷ back)) else from_first is (front ++ (h ∷ back)))
    none.0
    ∙ from_at is front h back none.1 own

behind_at : (is : Happening → Bool) (front : List Happening) (h : Happening) (back : List Happening)
    → AllByRecursion (IsNot is) front → is h ≡ true
    → behind_first is (front ++ (h ∷ back)) ≡ back
behind_at is [] h back none own =
    ap (λ (b : Bool). if b then back else behind_first is back) own
behind_at is (x ∷ front) h back none own =
    ap (λ (b : Bool). if b then front ++ (h ∷ back) else behind_first is (front ++ (h ∷ back)))
    none.0
    ∙ behind_at is front h back none.1 own

no_gives : (h : Happening) → IsCalm h → is_gives h ≡ false
no_gives (happenings.Done machine (acts.Gives id to)) calm = absurd calm
no_gives h calm = refl

no_gets : (h : Happening) → IsCalm h → is_gets h ≡ false
no_gets (happenings.Done machine (acts.Gets id)) calm = absurd calm
no_gets h calm = refl

each_is : (P Q : Happening → Type 0) (told : List Happening) → ((h : Happening) → P h → Q h)
    → AllByRecursion P told → AllByRecursion Q told
each_is P Q [] weaker all = tt
each_is P Q (h ∷ told) weaker all = (weaker h all.0, each_is P Q told weaker all.1)

-- ---- what is told of calm lists on lanes

here_or : (own lane : ℕ) (h : Happening) (test : Bool) → (own == lane) ≡ test
    → (if own == lane then h ∷ [] else []) ≡ (if test then h ∷ [] else [])
here_or own lane h test is = ap (λ (b : Bool). if b then h ∷ [] else []) is

calm_in : (own lane : ℕ) (h : Happening) (test : Bool) → (own == lane) ≡ test → IsCalm h
    → happening_for lane (on_lane own h) ≡ (if test then h ∷ [] else [])
calm_in own lane (happenings.Done machine (acts.Gives id to)) test is calm = absurd calm
calm_in own lane h test is calm = here_or own lane h test is

if_join : (test : Bool) (h : Happening) (told : List Happening)
    → (if test then h ∷ [] else []) ++ (if test then told else [])
    ≡ (if test then h ∷ told else [])
if_join true h told = refl
if_join false h told = refl

none_if : (test : Bool) (none : List Happening) → none ≡ (if test then none else none)
none_if true none = refl
none_if false none = refl

calm_for : (own lane : ℕ) (told : List Happening) (test : Bool) → (own == lane) ≡ test
    → AreCalm told → told_for lane (told_on own told) ≡ (if test then told else [])
calm_for own lane [] test is calm = none_if test []
calm_for own lane (h ∷ told) test is calm =
    (λ i. calm_in own lane h test is calm.0 i ++ calm_for own lane told test is calm.1 i)
    ∙ if_join test h told

-- ---- the shift

pub record ShiftTold (machine from to id : ℕ) (given taken : List Happening) : Type 0 where
  pub gives : TellsOne machine (acts.Gives id to) given
  pub gets : TellsOne machine (acts.Gets id) taken

-- in four parts
pub shift_parts : (machine from to id : ℕ) (given taken : List Happening)
    → (t : ShiftTold machine from to id given taken)
    → shift_told from to given taken
    ≡ ((told_on from t.gives.front ++ told_on to t.gets.front)
    ++ told_on from (happenings.Done machine (acts.Gives id to) ∷ t.gives.back))
    ++ told_on to t.gets.back
shift_parts machine from to id given taken t =
    let g = happenings.Done machine (acts.Gives id to) in
    let o = happenings.Done machine (acts.Gets id) in
    let calm_g = each_is IsCalm (IsNot is_gives) t.gives.front no_gives t.gives.first in
    let calm_o = each_is IsCalm (IsNot is_gets) t.gets.front no_gets t.gets.first in
    let one : before_first is_gives given ≡ t.gives.front =
    ap (before_first is_gives) t.gives.is
    ∙ before_at is_gives t.gives.front g t.gives.back calm_g refl in
    let two : before_first is_gets taken ≡ t.gets.front =
    ap (before_first is_gets) t.gets.is
    ∙ before_at is_gets t.gets.front o t.gets.back calm_o refl in
    let three : from_first is_gives given ≡ g ∷ t.gives.back =
    ap (from_first is_gives) t.gives.is
    ∙ from_at is_gives t.gives.front g t.gives.back calm_g refl in
    let four : behind_first is_gets taken ≡ t.gets.back =
    ap (behind_first is_gets) t.gets.is
    ∙ behind_at is_gets t.gets.front o t.gets.back calm_o refl in
    λ i. ((told_on from (one i) ++ told_on to (two i)) ++ told_on from (three i))
    ++ told_on to (four i)

-- of any lane
pub shift_for : (machine from to id lane : ℕ) (given taken : List Happening)
    (at_from at_to : Bool) → (t : ShiftTold machine from to id given taken)
    → (from == lane) ≡ at_from → (to == lane) ≡ at_to
    → told_for lane (shift_told from to given taken)
    ≡ (((if at_from then t.gives.front else []) ++ (if at_to then t.gets.front else []))
    ++ (((if at_from then happenings.Done machine (acts.Gives id to) ∷ [] else [])
    ++ (if at_to then happenings.Done machine (acts.Gets id) ∷ [] else []))
    ++ (if at_from then t.gives.back else [])))
    ++ (if at_to then t.gets.back else [])
shift_for machine from to id lane given taken at_from at_to t is_from is_to =
    let g = happenings.Done machine (acts.Gives id to) in
    let o = happenings.Done machine (acts.Gets id) in
    let a = told_on from t.gives.front in
    let b = told_on to t.gets.front in
    let c = told_on from (g ∷ t.gives.back) in
    let d = told_on to t.gets.back in
    ap (told_for lane) (shift_parts machine from to id given taken t)
    ∙ for_append lane ((a ++ b) ++ c) d
    ∙ ap (λ (l : List Happening). l ++ told_for lane d) (for_append lane (a ++ b) c)
    ∙ ap (λ (l : List Happening). (l ++ told_for lane c) ++ told_for lane d)
    (for_append lane a b)
    ∙ (λ i. ((calm_for from lane t.gives.front at_from is_from t.gives.first i
    ++ calm_for to lane t.gets.front at_to is_to t.gets.first i)
    ++ ((here_or from lane g at_from is_from i ++ here_or to lane o at_to is_to i)
    ++ calm_for from lane t.gives.back at_from is_from t.gives.last i))
    ++ calm_for to lane t.gets.back at_to is_to t.gets.last i)

pub shift_gave : (machine from to id : ℕ) (given taken : List Happening) → from ≢ to
    → (t : ShiftTold machine from to id given taken)
    → told_for from (shift_told from to given taken) ≡ given
shift_gave machine from to id given taken apart t =
    let g = happenings.Done machine (acts.Gives id to) in
    shift_for machine from to id from given taken true false t (eq-eqb from from refl)
    (ne_eqb to from (λ (same : to ≡ from). apart (sym same)))
    ∙ append-nil ((t.gives.front ++ []) ++ (((g ∷ []) ++ []) ++ t.gives.back))
    ∙ ap (λ (l : List Happening). l ++ (g ∷ t.gives.back)) (append-nil t.gives.front)
    ∙ sym t.gives.is

pub shift_got : (machine from to id : ℕ) (given taken : List Happening) → from ≢ to
    → (t : ShiftTold machine from to id given taken)
    → told_for to (shift_told from to given taken) ≡ taken
shift_got machine from to id given taken apart t =
    let o = happenings.Done machine (acts.Gets id) in
    shift_for machine from to id to given taken false true t (ne_eqb from to apart)
    (eq-eqb to to refl)
    ∙ append_assoc t.gets.front (o ∷ []) t.gets.back
    ∙ sym t.gets.is

pub shift_none : (machine from to id lane : ℕ) (given taken : List Happening) → from ≢ lane
    → to ≢ lane → ShiftTold machine from to id given taken
    → told_for lane (shift_told from to given taken) ≡ []
shift_none machine from to id lane given taken apart other t =
    shift_for machine from to id lane given taken false false t (ne_eqb from lane apart)
    (ne_eqb to lane other)

-- The id makers of a line's machines: a line of the script leaves their numbers, and they make no
-- fewer ids.
use Rattle.std.proofs.Common.{◌≡◌, ◌∙◌, ◌-◌, ◌≤◌, ℕ, zero, suc, Bool, true, false, List, [], ◌∷◌, Some, length, refl, sym, ap, subst, arith}
use Rattle.std.specs.Prelude.{nat_le, slice_get, slice_set}
use Rattle.board_record.specs.Maker.{Maker, after_next}
use Rattle.node_core.specs.Event.{maker_after}
use Rattle.node_core.specs.Node.{NodeState}
use Rattle.node_core.specs.declared.input.Input.{Input}
use Rattle.node_core.specs.declared.input.Input.TheVariants as inputs
use Rattle.line_report.specs.declared.happening.Happening.{Happening}
use Rattle.line_step.specs.Lines.{LineDoes}
use Rattle.line_step.specs.Requests.{Request}
use Rattle.line_step.specs.Requests as requests
use Rattle.line_step.specs.State.{LineState, machine_in}
use Rattle.line_step.specs.Steps.{MachineSteps}
use Rattle.line_step.proofs.Turns.{LineTurns, line_turns}
use Rattle.line_step.proofs.Turns as turns

pub record IsGrown (before after : NodeState) : Type 0 where
  pub machine : after.maker.machine ≡ before.maker.machine
  pub used : before.maker.used ≤ after.maker.used

abbrev pub AreGrown : List NodeState → List NodeState → Type 0
AreGrown [] [] = Unit {0}
AreGrown [] (_ ∷ _) = ⊥
AreGrown (_ ∷ _) [] = ⊥
AreGrown (before ∷ befores) (after ∷ afters) = IsGrown before after × AreGrown befores afters

pub grown_itself : (node : NodeState) → IsGrown node node
grown_itself node = record { machine = refl; used = omega arith }

pub grown_same : (nodes : List NodeState) → AreGrown nodes nodes
grown_same [] = tt
grown_same (node ∷ nodes) = (grown_itself node, grown_same nodes)

grown_twice : (a b c : NodeState) → IsGrown a b → IsGrown b c → IsGrown a c
grown_twice a b c one two =
    record { machine = two.machine ∙ one.machine; used = omega (arith, one.used, two.used) }

pub grown_both : (a b c : List NodeState) → AreGrown a b → AreGrown b c → AreGrown a c
grown_both [] [] c one two = two
grown_both [] (b ∷ bs) c one two = absurd one
grown_both (a ∷ xs) [] c one two = absurd one
grown_both (a ∷ xs) (b ∷ bs) [] one two = absurd two
grown_both (a ∷ xs) (b ∷ bs) (c ∷ cs) one two =
    (grown_twice a b c one.0 two.0, grown_both xs bs cs one.1 two.1)

grown_set : (nodes : List NodeState) (place : ℕ) (node next : NodeState)
    → slice_get nodes place ≡ Some node → IsGrown node next
    → AreGrown nodes (slice_set nodes place next)
grown_set [] place node next there one = tt
grown_set (first ∷ nodes) zero node next there one =
    let same : first ≡ node = cc in
    (subst (λ (n : NodeState). IsGrown n next) (sym same) one, grown_same nodes)
grown_set (first ∷ nodes) (suc place) node next there one =
    (grown_itself first, grown_set nodes place node next there one)

pub grown_many : (a b : List NodeState) → AreGrown a b → length b ≡ length a
grown_many [] [] grown = refl
grown_many [] (b ∷ bs) grown = absurd grown
grown_many (a ∷ xs) [] grown = absurd grown
grown_many (a ∷ xs) (b ∷ bs) grown = ap suc (grown_many xs bs grown.1)

-- ---- a machine's step

record MakerGrown (old new : Maker) : Type 0 where
  machine : new.machine ≡ old.machine
  used : old.used ≤ new.used

next_by : (full : Bool) (maker : Maker) → nat_le 281474976710655 maker.used ≡ full
    → MakerGrown maker (after_next maker)
next_by true maker test = rw test (record { machine = refl; used = omega arith })
next_by false maker test = rw test (record { machine = refl; used = omega arith })

maker_grown : (input : Input) (maker : Maker) → MakerGrown maker (maker_after input maker)
maker_grown (inputs.Insert barcode) maker = next_by (nat_le 281474976710655 maker.used) maker refl
maker_grown (inputs.Replace id) maker = next_by (nat_le 281474976710655 maker.used) maker refl
maker_grown _ maker = record { machine = refl; used = omega arith }

node_grown : (input : Input) (node next : NodeState) → next.maker ≡ maker_after input node.maker
    → IsGrown node next
node_grown input node next made =
    let grown = subst (λ (m : Maker). MakerGrown node.maker m) (sym made)
    (maker_grown input node.maker) in
    record { machine = grown.machine; used = grown.used }

set_grown : (nodes : List NodeState) (machine : ℕ) (node next : NodeState) (s : LineState)
    → s.machines ≡ nodes → machine_in machine s ≡ Some node → IsGrown node next
    → AreGrown nodes (slice_set nodes (machine - 1) next)
set_grown nodes zero node next s same there one = cc
set_grown nodes (suc place) node next s same there one =
    let here : suc place - 1 ≡ place = omega arith in
    let found : slice_get nodes place ≡ Some node =
    ap (λ (ns : List NodeState). slice_get ns place) (sym same) ∙ there in
    rw here (grown_set nodes place node next found one)

pub step_grown : (number machine : ℕ) (input : Input) (before after : LineState)
    (told : List Happening) → MachineSteps number machine input before after told
    → AreGrown before.machines after.machines
step_grown number machine input before after told steps =
    subst (λ (s : LineState). AreGrown before.machines s.machines) (sym steps.after_is)
    (set_grown before.machines machine steps.node steps.next before refl steps.there
    (node_grown input steps.node steps.next steps.steps.lane.made))

-- ---- a line

-- a request adds no machine
abbrev pub IsNoAdding : Request → Type 0
IsNoAdding (requests.adds lane is_bridge capacity used) = ⊥
IsNoAdding _ = Unit {0}

turn_grown : (number : ℕ) (request : Request) (before after : LineState) (told : List Happening)
    → IsNoAdding request → LineTurns number before after told request
    → AreGrown before.machines after.machines
turn_grown number request before after told plain (turns.stays _ same none) =
    subst (λ (ns : List NodeState). AreGrown before.machines ns) (sym same)
    (grown_same before.machines)
turn_grown number request before after told plain (turns.adds lane is_bridge capacity used may b) =
    absurd plain
turn_grown number request before after told plain (turns.steps machine input given may did) =
    step_grown number machine input before after told did
turn_grown number request before after told plain (turns.connects machine may did) =
    grown_both before.machines did.between.machines after.machines
    (step_grown number machine inputs.Connect _ did.between did.earlier did.first)
    (step_grown number (machine - 1) _ did.between after did.later did.second)
turn_grown number request before after told plain (turns.flows machine side count may did) =
    step_grown number machine (inputs.Bytes side did.piece) _ after told did.steps

-- WHAT A REQUEST DOES that adds no machine
pub does_grow : (number : ℕ) (request : Request) (before after : LineState) (told : List Happening)
    → IsNoAdding request → LineDoes number request before after told
    → AreGrown before.machines after.machines
does_grow number request before after told plain does =
    turn_grown number request before after told plain
    (line_turns number request before after told does)

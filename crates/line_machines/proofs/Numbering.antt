-- Each machine's id maker has its number, whatever a line does.
use Rattle.std.proofs.Common.{◌≡◌, ◌∙◌, ◌-◌, ◌^◌, ◌⊎◌, ◌≢◌, ℕ, Bool, true, false, List, inl, inr, ap, refl, subst, sym}
use Rattle.std.specs.Prelude.{Some, nat_le}
use Rattle.board_record.specs.Maker.{Maker, after_next}
use Rattle.node_core.specs.Event.{maker_after}
use Rattle.node_core.specs.Node.{NodeState}
use Rattle.node_core.specs.declared.input.Input.{Input}
use Rattle.node_core.specs.declared.input.Input.TheVariants as inputs
use Rattle.line_report.specs.declared.happening.Happening.{Happening}
use Rattle.line_step.specs.Lines.{LineDoes, arrived, connecting}
use Rattle.line_script.specs.declared.line.ScriptLine.{ScriptLine}
use Rattle.line_script.specs.declared.line.ScriptLine.TheVariants as lines
use Rattle.line_step.specs.Requests.{Request, request_of}
use Rattle.line_step.specs.Requests as requests
use Rattle.line_step.specs.State.{LineState, machine_in, with_machine}
use Rattle.line_step.specs.Steps.{MachineSteps}
use Rattle.line_step.proofs.Numbers.{machine_set_other, machine_set_own, machine_within, same_or_not}
use Rattle.line_step.proofs.Turns.{LineTurns, line_turns}
use Rattle.line_step.proofs.Turns as turns
use Rattle.line_machines.specs.Sharing.{AreNumbered}
use Rattle.line_machines.specs.Given.{is_of_lane}

-- a request is not one for a machine more
abbrev pub is_adding : Request → Bool
is_adding (requests.adds lane is_bridge capacity used) = true
is_adding request = false

pub not_adding : (line : ScriptLine) → is_of_lane line ≡ true → is_adding (request_of line) ≡ false
not_adding lines.Blank is = refl
not_adding (lines.Machine capacity used) is = sym is
not_adding (lines.Bridge capacity used) is = sym is
not_adding _ is = refl

next_stays : (full : Bool) (maker : Maker) → nat_le (2 ^ 48 - 1) maker.used ≡ full → (after_next maker).machine ≡ maker.machine
next_stays true maker is = rw is refl
next_stays false maker is = rw is refl

maker_stays : (input : Input) (maker : Maker) → (maker_after input maker).machine ≡ maker.machine
maker_stays (inputs.Insert barcode) maker = next_stays (nat_le (2 ^ 48 - 1) maker.used) maker refl
maker_stays (inputs.Replace id) maker = next_stays (nat_le (2 ^ 48 - 1) maker.used) maker refl
maker_stays _ maker = refl

node_stays : {number machine : ℕ} {input : Input} {before after : LineState} {told : List Happening} → (m : MachineSteps number machine input before after told) → m.next.maker.machine ≡ m.node.maker.machine
node_stays {input = input} m = ap (λ (maker : Maker). maker.machine) m.steps.lane.made ∙ maker_stays input m.node.maker

set_numbered : (number machine : ℕ) (input : Input) (before after : LineState) (told : List Happening) (m : MachineSteps number machine input before after told) → AreNumbered before → (other : ℕ) (node : NodeState) → (other ≡ machine) ⊎ (other ≢ machine)
    → machine_in other (with_machine machine m.next before) ≡ Some node → node.maker.machine ≡ other
set_numbered number machine input before after told m numbered other node (inl same) there =
    let own : machine_in machine (with_machine machine m.next before) ≡ Some m.next = machine_set_own machine before m.node m.next m.there in
    let here : machine_in machine (with_machine machine m.next before) ≡ Some node = subst (λ (n : ℕ). machine_in n (with_machine machine m.next before) ≡ Some node) same there in
    let is : m.next ≡ node = cc in
    ap (λ (n : NodeState). n.maker.machine) (sym is) ∙ node_stays m ∙ numbered machine m.node m.there ∙ sym same
set_numbered number machine input before after told m numbered other node (inr apart) there =
    let within = machine_within machine before m.node m.there in
    numbered other node (sym (machine_set_other machine other before m.next within.0 apart) ∙ there)

step_numbered : (number machine : ℕ) (input : Input) (before start after : LineState) (told : List Happening) → AreNumbered start → MachineSteps number machine input start after told → AreNumbered after
step_numbered number machine input before start after told numbered m =
    λ other node there.
    set_numbered number machine input start after told m numbered other node (same_or_not other machine) (ap (machine_in other) (sym m.after_is) ∙ there)

same_numbered : (before after : LineState) → after.machines ≡ before.machines → AreNumbered before → AreNumbered after
same_numbered before after same numbered =
    λ other node there. numbered other node (sym (ap (λ (ns : List NodeState). machine_in other (record before { machines = ns })) same) ∙ there)

turn_numbered : (number : ℕ) (request : Request) (before after : LineState) (told : List Happening) → is_adding request ≡ false → AreNumbered before → LineTurns number before after told request → AreNumbered after
turn_numbered number request before after told not numbered (turns.stays _ same none) = same_numbered before after same numbered
turn_numbered number request before after told not numbered (turns.adds lane is_bridge capacity used may b) = absurd (cc)
turn_numbered number request before after told not numbered (turns.steps machine input given may did) = step_numbered number machine input before before after told numbered did
turn_numbered number request before after told not numbered (turns.connects machine may did) =
    step_numbered number (machine - 1) _ before did.between after did.later (step_numbered number machine inputs.Connect before (connecting machine before) did.between did.earlier (same_numbered before (connecting machine before) refl numbered) did.first) did.second
turn_numbered number request before after told not numbered (turns.flows machine side count may did) =
    step_numbered number machine _ before (arrived machine side count before) after told (same_numbered before (arrived machine side count before) refl numbered) did.steps

pub line_numbered : (number : ℕ) (request : Request) (before after : LineState) (told : List Happening) → is_adding request ≡ false → AreNumbered before → LineDoes number request before after told → AreNumbered after
line_numbered number request before after told not numbered does = turn_numbered number request before after told not numbered (line_turns number request before after told does)

pub machine_numbered : (number machine : ℕ) (input : Input) (before after : LineState) (told : List Happening) → AreNumbered before → MachineSteps number machine input before after told → AreNumbered after
machine_numbered number machine input before after told numbered m = step_numbered number machine input before before after told numbered m

-- The sides of a line that have no link are at rest behind the step of a machine, as they were before it.
use Rattle.std.proofs.Common.{List, Some, [], ap, arith, false, length, length-set, refl, subst, suc, sym, true, zero, ℕ, ◌&&◌, ◌+◌, ◌-◌, ◌∙◌, ◌∷◌, ◌≡◌, ◌≢◌, ◌⊎◌, inl, inr, Result, Ok, Err}
use Rattle.std.specs.Prelude.{nat_le, nat_lt, slice_get, slice_index_or}
use Rattle.line_base.specs.declared.states.Side.{Side}
use Rattle.line_base.specs.declared.states.Side.TheVariants.{Entry, Exit}
use Rattle.board_record.specs.Maker.{Maker, next_id}
use Rattle.board_record.specs.declared.maker.IdsUsedUp.{IdsUsedUp}
use Rattle.node_core.specs.Event.{Event, Insert, Replace, event_of, with_new}
use Rattle.node_core.specs.Node.{NodeState, desk_of}
use Rattle.node_core.specs.declared.input.Input.{Input}
use Rattle.node_core.specs.declared.input.Input.TheVariants as inputs
use Rattle.node_core.specs.declared.lane.Body.{Body}
use Rattle.node_core.specs.declared.word.Word.{Word}
use Rattle.line_report.specs.declared.happening.Happening.{Happening}
use Rattle.line_step.specs.Numbered.{Stand, no_node, node_at}
use Rattle.line_step.specs.Reasons.{has_link}
use Rattle.line_step.specs.State.{LineState, machine_in}
use Rattle.line_step.specs.Steps.{MachineSteps, moment_of, unread_by}
use Rattle.line_step.proofs.Changing.{step_changes}
use Rattle.line_step.proofs.Numbers.{machine_set_own, same_or_not}
use Rattle.law_one_standing.specs.Carried.{Trace}
use Rattle.law_one_standing.specs.Stands.{IsAtRest}
use Rattle.step_rules.proofs.RestStep.{IsNoOpening, Rests, step_rests}

-- ---- inputs that make no connection

abbrev pub IsNoCall : Side → Input → Type 0
IsNoCall Entry inputs.Connect = ⊥
IsNoCall Exit inputs.Accepted = ⊥
IsNoCall _ _ = Unit {0}

pub new_opens : (at : Side) (found : Result ℕ IdsUsedUp) (event : ℕ → Event) → ((id : ℕ) → IsNoOpening at (event id)) → IsNoOpening at (with_new found event)
new_opens at (Ok id) event none = none id
new_opens Entry (Err why) event none = tt
new_opens Exit (Err why) event none = tt

pub event_opens : (at : Side) (maker : Maker) (input : Input) (words : List Word) → IsNoCall at input → IsNoOpening at (event_of maker input words)
event_opens Entry maker (inputs.Insert barcode) words plain = new_opens Entry (next_id maker) (λ (id : ℕ). Insert id barcode) (λ id. tt)
event_opens Exit maker (inputs.Insert barcode) words plain = new_opens Exit (next_id maker) (λ (id : ℕ). Insert id barcode) (λ id. tt)
event_opens Entry maker (inputs.Replace id) words plain = new_opens Entry (next_id maker) (λ (new : ℕ). Replace id new) (λ new. tt)
event_opens Exit maker (inputs.Replace id) words plain = new_opens Exit (next_id maker) (λ (new : ℕ). Replace id new) (λ new. tt)
event_opens Entry maker inputs.Connect words plain = absurd plain
event_opens Exit maker inputs.Accepted words plain = absurd plain
event_opens Entry maker _ words plain = tt
event_opens Exit maker _ words plain = tt

pub no_connect : (input : Input) → (input ≡ inputs.Connect → ⊥) → IsNoCall Entry input
no_connect inputs.Connect none = absurd (none refl)
no_connect _ none = tt

pub no_accepted : (input : Input) → (input ≡ inputs.Accepted → ⊥) → IsNoCall Exit input
no_accepted inputs.Accepted none = absurd (none refl)
no_accepted _ none = tt

-- ---- machines by their number

got_there : (nodes : List NodeState) (place : ℕ) (node none : NodeState) → slice_get nodes place ≡ Some node → slice_index_or nodes place none ≡ node
got_there [] place node none is = cc
got_there (n ∷ nodes) zero node none is = cc
got_there (n ∷ nodes) (suc place) node none is = got_there nodes place node none is

pub node_there : (machine : ℕ) (s : LineState) (node : NodeState) → machine_in machine s ≡ Some node → node_at s machine ≡ node
node_there zero s node there = cc
node_there (suc place) s node there = got_there s.machines place node no_node there

-- no machine comes or goes, and no link
pub machines_stay : (number machine : ℕ) (input : Input) (before after : LineState) (told : List Happening) → MachineSteps number machine input before after told → length after.machines ≡ length before.machines
machines_stay number machine input before after told steps = ap (λ (s : LineState). length s.machines) steps.after_is ∙ length-set before.machines (machine - 1) steps.next

pub links_stay : (number machine : ℕ) (input : Input) (before after : LineState) (told : List Happening) → MachineSteps number machine input before after told → (link : ℕ) → has_link link after ≡ has_link link before
links_stay number machine input before after told steps link = ap (λ (count : ℕ). nat_le 1 link && nat_lt link count) (machines_stay number machine input before after told steps)

-- ---- a side at rest

abbrev pub RestsIn : Side → LineState → ℕ → Type 0
RestsIn at s machine = Rests at (node_at s machine).lane.body

-- the machine that makes the step
pub own_rests : (at : Side) (number machine : ℕ) (input : Input) (before after : LineState) (told : List Happening) → MachineSteps number machine input before after told → IsNoCall at input → RestsIn at before machine → RestsIn at after machine
own_rests at number machine input before after told steps plain k =
    let lane = steps.steps.lane in
    let was : Rests at steps.node.lane.body = subst (λ (n : NodeState). Rests at n.lane.body) (node_there machine before steps.node steps.there) k in
    let next : machine_in machine after ≡ Some steps.next = ap (machine_in machine) steps.after_is ∙ machine_set_own machine before steps.node steps.next steps.there in
    let event : Event = event_of steps.node.maker input lane.words in
    let rests : Rests at steps.next.lane.body = subst (λ (b : Body). Rests at b) (sym lane.body)
    (step_rests at (desk_of steps.node (moment_of number)) (unread_by machine before.world) event steps.node.lane.body (event_opens at steps.node.maker input lane.words plain) was) in
    subst (λ (n : NodeState). Rests at n.lane.body) (sym (node_there machine after steps.next next)) rests

rests_by : (at : Side) (number m : ℕ) (input : Input) (before after : LineState) (told : List Happening) → MachineSteps number m input before after told → (machine : ℕ) → (machine ≡ m) ⊎ (machine ≢ m)
    → (machine ≡ m → IsNoCall at input) → RestsIn at before machine → RestsIn at after machine
rests_by at number m input before after told steps machine (inl is) plain k =
    subst (λ (n : ℕ). RestsIn at after n) (sym is) (own_rests at number m input before after told steps (plain is) (subst (λ (n : ℕ). RestsIn at before n) is k))
rests_by at number m input before after told steps machine (inr apart) plain k =
    let same = ap (λ (s : Stand). s.node) ((step_changes number m input before after told steps).machines machine apart) in
    subst (λ (n : NodeState). Rests at n.lane.body) (sym same) k

-- where there is no link there was none before
no_link_here : (before : LineState) (link other : ℕ) → has_link link before ≡ false → has_link other before ≡ true → link ≡ other → ⊥
no_link_here before link other none there is = let wrong : false ≡ true = sym none ∙ ap (λ (n : ℕ). has_link n before) is ∙ there in cc

pub same_place : (link j : ℕ) → link + 1 ≡ j + 1 → link ≡ j
same_place link j is = omega arith

-- AT REST BEHIND A STEP: a connection is made on a link that is there
pub stays_at_rest : (number j : ℕ) (input : Input) (t t2 : Trace) (before after : LineState) (told : List Happening) → MachineSteps number (j + 1) input before after told
    → (input ≡ inputs.Connect → has_link j before ≡ true) → (input ≡ inputs.Accepted → has_link (j + 1) before ≡ true)
    → (link : ℕ) → has_link link before ≡ false → (t.up link ≡ [] → t2.up link ≡ []) → (t.down link ≡ [] → t2.down link ≡ []) → IsAtRest t before link → IsAtRest t2 after link
stays_at_rest number j input t t2 before after told steps connects accepts link none up down rest =
    let exit : RestsIn Exit after link = rests_by Exit number (j + 1) input before after told steps link (same_or_not link (j + 1)) (λ is. no_accepted input (λ accepted. no_link_here before link (j + 1) none (accepts accepted) is)) (record { off = rest.exit; free = rest.outlet }) in
    let entry : RestsIn Entry after (link + 1) = rests_by Entry number (j + 1) input before after told steps (link + 1) (same_or_not (link + 1) (j + 1)) (λ is. no_connect input (λ connect. no_link_here before link j none (connects connect) (same_place link j is))) (record { off = rest.entry; free = rest.intake }) in
    record { outlet = exit.free; intake = entry.free; exit = exit.off; entry = entry.off; up = up rest.up; down = down rest.down }

-- A board goes to another lane of its machine, or comes from one, only where the request asks for it.
use Rattle.std.proofs.Common.{◌≡◌, ◌++◌, ◌+◌, ◌-◌, ℕ, Bool, true, false, List, [], ◌∷◌, Option, Result, Ok, Err, ap, arith, refl, subst, sym, ◌∙◌}
use Rattle.std.specs.List.{AllByRecursion}
use Rattle.line_base.specs.declared.states.Side.{Side}
use Rattle.board_record.specs.Maker.{Maker, next_id}
use Rattle.board_record.specs.declared.maker.IdsUsedUp.{IdsUsedUp}
use Rattle.board_record.specs.declared.record.Record.{Record}
use Rattle.board_record.specs.declared.sensed.Sensed.{Sensed}
use Rattle.hermes_horizontal.specs.Canonical.{canonical}
use Rattle.hermes_horizontal.specs.declared.message.Message.{Message}
use Rattle.line_link.specs.Link.{answer_sent, connected_of, sent_of}
use Rattle.line_link.specs.declared.link.Connected.{Connected}
use Rattle.line_link.specs.declared.link.Connected.TheVariants as connections
use Rattle.smema_bridge.specs.Levels.{BridgeLevels}
use Rattle.node_core.specs.Announces.{announces}
use Rattle.node_core.specs.Desk.{Desk}
use Rattle.node_core.specs.Event.{Event, event_did, event_of, with_new}
use Rattle.node_core.specs.Node.{desk_of}
use Rattle.node_core.specs.Reads.{all_read}
use Rattle.node_core.specs.Signals.{signalled}
use Rattle.node_core.specs.Step.{plain_step}
use Rattle.node_core.specs.Supervising.{Answer, Ask, Supervise, watch_of, with_tells}
use Rattle.node_core.specs.declared.act.Act.{Act}
use Rattle.node_core.specs.declared.act.Act.TheVariants as acts
use Rattle.node_core.specs.declared.input.Input.{Input}
use Rattle.node_core.specs.declared.input.Input.TheVariants as inputs
use Rattle.node_core.specs.declared.lane.Body.{Body}
use Rattle.node_core.specs.declared.supervising.Watch.{Watch}
use Rattle.node_core.specs.declared.word.Word.{Word}
use Rattle.node_core.proofs.Signalling.{signals_all}
use Rattle.node_core.proofs.Telling.{tells_all}
use Rattle.step_rules.specs.Acts.{OfEvent, Usual}
use Rattle.step_rules.proofs.Acts.{acts_hold}
use Rattle.step_rules.proofs.Steps.{all_read_made, announces_made, event_made}
use Rattle.line_report.specs.declared.happening.Happening.{Happening}
use Rattle.line_report.specs.declared.happening.Happening.TheVariants as happenings
use Rattle.line_step.specs.World.{WorldParts, end_of, link_at, link_of}
use Rattle.line_step.specs.State.{LineState}
use Rattle.line_step.specs.Acts.{act_did, acts_did, answers, cut_told, sent_by}
use Rattle.line_step.specs.Steps.{MachineSteps, is_second, moment_of, read_by, unread_by}
use Rattle.line_step.specs.Lines.{Connects, Flows, LineDoes, LineSteps, met}
use Rattle.line_step.specs.Shown.{standings_told}
use Rattle.line_step.specs.Requests.{Request}
use Rattle.line_step.specs.Requests as requests
use Rattle.line_step.proofs.Remarks.{IsNoAct, IsRemark, Passes, all_pass, cut_remarks, is_no_act, standings_remarks}
use Rattle.line_step.proofs.Turns.{LineTurns, line_turns}
use Rattle.line_step.proofs.Turns as turns
use Rattle.line_step.proofs.Effects.{added_remarks}

-- what a request asks for that a board goes to another lane, or comes from one
pub data AsksFor : Request → ℕ → Act → Type 0 where
  asks_to_give : {machine id to : ℕ}
      → AsksFor (requests.gives machine (inputs.Gives id to)) machine (acts.Gives id to)
  asks_to_get : {machine : ℕ} {board : Record}
      → AsksFor (requests.gives machine (inputs.Gets board)) machine (acts.Gets board.id)

-- an act that moves a board between lanes is asked for
abbrev pub IsAsked : Request → ℕ → Act → Type 0
IsAsked request machine (acts.Gives id to) = AsksFor request machine (acts.Gives id to)
IsAsked request machine (acts.Gets id) = AsksFor request machine (acts.Gets id)
IsAsked request machine _ = Unit {0}

abbrev pub IsAskedFor : Request → Happening → Type 0
IsAskedFor request (happenings.Done machine act) = IsAsked request machine act
IsAskedFor request _ = Unit {0}

abbrev pub AreAskedFor : Request → List Happening → Type 0
AreAskedFor request told = AllByRecursion (IsAskedFor request) told

-- ---- the acts of a step

abbrev AreAsked : Request → ℕ → List Act → Type 0
AreAsked request machine told = AllByRecursion (IsAsked request machine) told

asked-join : (request : Request) (machine : ℕ) (a b : List Act) → AreAsked request machine a → AreAsked request machine b → AreAsked request machine (a ++ b)
asked-join request machine [] b one two = two
asked-join request machine (x ∷ xs) b one two = (one.0, asked-join request machine xs b one.1 two)

usual-asked : (request : Request) (machine : ℕ) → Usual (IsAsked request machine)
usual-asked request machine = record {
  reads = λ side event. tt;
  hears = λ side message. tt;
  breaches = λ side text. tt;
  sends = λ side message. tt;
  closes = λ side. tt;
  notices = λ side. tt;
  deed = λ deed. tt;
  drive = λ side on. tt;
}

-- what an input asks for by itself
abbrev IsInputAsked : Request → ℕ → Input → Type 0
IsInputAsked request machine (inputs.Gives id to) = AsksFor request machine (acts.Gives id to)
IsInputAsked request machine (inputs.Gets board) = AsksFor request machine (acts.Gets board.id)
IsInputAsked request machine _ = Unit {0}

new-asked : (request : Request) (machine : ℕ) (desk : Desk) (found : Result ℕ IdsUsedUp) (event : ℕ → Event) → ((id : ℕ) → OfEvent (IsAsked request machine) desk (event id)) → OfEvent (IsAsked request machine) desk (with_new found event)
new-asked request machine desk (Ok id) event all = all id
new-asked request machine desk (Err why) event all = tt

event-asked : (request : Request) (machine : ℕ) (desk : Desk) (maker : Maker) (input : Input) (words : List Word) → IsInputAsked request machine input → OfEvent (IsAsked request machine) desk (event_of maker input words)
event-asked request machine desk maker (inputs.Gives id to) words own = own
event-asked request machine desk maker (inputs.Gets board) words own = own
event-asked request machine desk maker (inputs.Level line on) words own = (tt, λ id. tt)
event-asked request machine desk maker (inputs.Insert barcode) words own = new-asked request machine desk (next_id maker) _ (λ id. tt)
event-asked request machine desk maker (inputs.Replace id) words own = new-asked request machine desk (next_id maker) _ (λ new. tt)
event-asked request machine desk maker _ words own = tt

tells-asked : (request : Request) (machine : ℕ) (desk : Desk) (watch : Watch) (made : List Act) → AreAsked request machine made → AreAsked request machine (with_tells desk watch made)
tells-asked request machine desk watch made all =
    tells_all (AreAsked request machine) (λ act others all. all.1) (λ act told others all rest. (all.0, rest))
    (λ message told rest. (tt, rest)) tt desk watch made all

signals-asked : (request : Request) (machine : ℕ) (bridge : Option BridgeLevels) (body : Body) → AreAsked request machine (signalled bridge body)
signals-asked request machine bridge body = signals_all (AreAsked request machine) tt (λ signal on. (tt, tt)) (asked-join request machine) bridge body

steps-asked : (request : Request) (number machine : ℕ) (input : Input) (before after : LineState) (told : List Happening) → (steps : MachineSteps number machine input before after told) → IsInputAsked request machine input → AreAsked request machine steps.acts
steps-asked request number machine input before after told steps own =
    let desk = desk_of steps.node (moment_of number) in
    let unread = unread_by machine before.world in
    let event = event_of steps.node.maker input steps.steps.lane.words in
    let read = all_read desk unread steps.node.lane.body in
    let did = event_did desk event read.body in
    let plain = (plain_step desk unread event steps.node.lane.body).acts in
    let watch = watch_of desk steps.node.lane.body in
    let signals = signalled steps.node.bridge steps.next.lane.body in
    let usual = usual-asked request machine in
    let all : AreAsked request machine plain =
    asked-join request machine read.acts (did.acts ++ (announces desk did.body).acts) (acts_hold usual (all_read_made desk unread steps.node.lane.body) tt)
    (asked-join request machine did.acts (announces desk did.body).acts
    (acts_hold usual (event_made desk event read.body) (event-asked request machine desk steps.node.maker input steps.steps.lane.words own))
    (acts_hold usual (announces_made desk did.body) tt)) in
    let P : List Act → Type 0 = λ list. AreAsked request machine list in
    subst P (sym (steps.steps.told ∙ ap (λ (made : List Act). made ++ signals) steps.steps.lane.told))
    (asked-join request machine (with_tells desk watch plain) signals (tells-asked request machine desk watch plain all)
    (signals-asked request machine steps.node.bridge steps.next.lane.body))

-- ---- what is told of them

told-join : (request : Request) (a b : List Happening) → AreAskedFor request a → AreAskedFor request b → AreAskedFor request (a ++ b)
told-join request [] b one two = two
told-join request (x ∷ xs) b one two = (one.0, told-join request xs b one.1 two)

none-asked : (request : Request) (h : Happening) → IsNoAct h → IsAskedFor request h
none-asked request (happenings.Done machine act) none = absurd none
none-asked request _ none = tt

pub unasked : (request : Request) → Passes IsNoAct (AreAskedFor request)
unasked request = record { none = tt; both = told-join request; one = λ h none. (none-asked request h none, tt) }

remarks-asked : (request : Request) → Passes IsRemark (AreAskedFor request)
remarks-asked request = record { none = tt; both = told-join request; one = λ h is. (none-asked request h (is_no_act h is), tt) }

sent-asked : (request : Request) (second : Bool) (machine : ℕ) (side : Side) (message : Message) (world : WorldParts) → AreAskedFor request (sent_by second machine side message world).told
sent-asked request true machine side message world =
    let how = answer_sent (canonical message) (link_at machine world) in
    (tt, all_pass (cut_told machine how) (remarks-asked request) (cut_remarks machine how))
sent-asked request false machine side message world =
    let how = sent_of (end_of side) (canonical message) (link_at (link_of machine side) world) in
    (tt, all_pass (cut_told (link_of machine side) how) (remarks-asked request) (cut_remarks (link_of machine side) how))

act-asked : (request : Request) (second : Bool) (machine : ℕ) (act : Act) (world : WorldParts) → IsAsked request machine act → AreAskedFor request (act_did second machine act world).told
act-asked request second machine (acts.Sends side message) world own = sent-asked request (answers second side message) machine side message world
act-asked request second machine (acts.Drive side on) world own = tt
act-asked request second machine act world own = (own, tt)

acts-asked : (request : Request) (second : Bool) (machine : ℕ) (told : List Act) (world : WorldParts) → AreAsked request machine told → AreAskedFor request (acts_did second machine told world).told
acts-asked request second machine [] world all = tt
acts-asked request second machine (act ∷ others) world all =
    let one = act_did second machine act world in
    told-join request one.told (acts_did second machine others one.world).told (act-asked request second machine act world all.0) (acts-asked request second machine others one.world all.1)

machine-asked : (request : Request) (number machine : ℕ) (input : Input) (before after : LineState) (told : List Happening) → MachineSteps number machine input before after told → IsInputAsked request machine input → AreAskedFor request told
machine-asked request number machine input before after told steps own =
    let P : List Happening → Type 0 = λ list. AreAskedFor request list in
    subst P (sym steps.told_is) (acts-asked request (is_second input) machine steps.acts (read_by machine before.world) (steps-asked request number machine input before after told steps own))

-- ---- the line

given-asked : (machine : ℕ) (input : Input) → IsInputAsked (requests.gives machine input) machine input
given-asked machine (inputs.Gives id to) = asks_to_give
given-asked machine (inputs.Gets board) = asks_to_get
given-asked machine _ = tt

met-asked : (request : Request) (machine : ℕ) (on : Connected) → IsInputAsked request machine (met on)
met-asked request machine connections.Accepted = tt
met-asked request machine connections.Second = tt

connects-asked : (request : Request) (number machine : ℕ) (before after : LineState) (told : List Happening) → Connects number machine before after told → AreAskedFor request told
connects-asked request number machine before after told twice =
    let on = connected_of (link_at (machine - 1) before.world).upstream in
    let P : List Happening → Type 0 = λ list. AreAskedFor request list in
    subst P (sym twice.told_is)
    (told-join request twice.earlier twice.later (machine-asked request number machine inputs.Connect _ twice.between twice.earlier twice.first tt)
    (machine-asked request number (machine - 1) (met on) twice.between after twice.later twice.second (met-asked request (machine - 1) on)))

turn-asked : (number : ℕ) (request : Request) (before after : LineState) (told : List Happening) → LineTurns number before after told request → AreAskedFor request told
turn-asked number request before after told (turns.stays _ same none) = all_pass told (unasked request) none
turn-asked number request before after told (turns.adds lane is_bridge capacity used may b) =
    let P : List Happening → Type 0 = λ list. AreAskedFor request list in
    subst P (sym b.told_is) (all_pass _ (remarks-asked request) (added_remarks is_bridge capacity before))
turn-asked number request before after told (turns.steps machine input given may did) = machine-asked request number machine input before after told did (given-asked machine input)
turn-asked number request before after told (turns.connects machine may did) = connects-asked request number machine before after told did
turn-asked number request before after told (turns.flows machine side count may did) = machine-asked request number machine (inputs.Bytes side did.piece) _ after told did.steps tt

-- WHAT A REQUEST DOES moves a board between lanes only where it asks for that
pub does_asked : (number : ℕ) (request : Request) (before after : LineState) (told : List Happening) → LineDoes number request before after told → AreAskedFor request told
does_asked number request before after told does = turn-asked number request before after told (line_turns number request before after told does)

pub steps_asked : (number : ℕ) (request : Request) (before after : LineState) (told : List Happening) → LineSteps number request before after told → AreAskedFor request told
steps_asked number request before after told steps =
    let standings = standings_told before steps.next in
    let P : List Happening → Type 0 = λ list. AreAskedFor request list in
    subst P (sym steps.told_is)
    (told-join request steps.done standings (does_asked number request before steps.next steps.done steps.does)
    (all_pass standings (remarks-asked request) (standings_remarks before steps.next)))

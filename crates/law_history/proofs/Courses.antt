-- A LINE, as each machine sees it, with its form: the machine is as it was and tells nothing, or it made one step, and only a line
-- of a hand at this machine has it changed by hand.
use Rattle.std.proofs.Common.{Err, List, Ok, Option, Result, Some, ap, eq-eqb, false, refl, subst, sym, true, ℕ, ◌+◌, ◌∙◌, ◌≡◌}
use Rattle.law_one_standing.proofs.RestLine.{node_there}
use Rattle.law_one_standing.proofs.HandSteps.{changed_untouched, marks_one, subs_one, ChangesOne}
use Rattle.board_record.specs.Maker.{Maker, next_id}
use Rattle.board_record.specs.declared.maker.IdsUsedUp.{IdsUsedUp}
use Rattle.handover_out.specs.State.{OutState, is_id}
use Rattle.law_custody.specs.Contents.{IsRecent}
use Rattle.node_core.specs.Event.{Event, event_of, with_new}
use Rattle.node_core.specs.Event as events
use Rattle.node_core.specs.Node.{NodeState}
use Rattle.node_core.specs.declared.input.Input.{Input}
use Rattle.node_core.specs.declared.input.Input.TheVariants as inputs
use Rattle.node_core.specs.declared.word.Word.{Word}
use Rattle.line_report.specs.declared.happening.Happening.{Happening}
use Rattle.line_step.specs.Tracks.{TrackLine, TrackSteps, asked_on, other_line, own_line}
use Rattle.line_step.specs.Lines.{LineSteps}
use Rattle.line_step.specs.Numbered.{node_at}
use Rattle.line_step.specs.Reasons.{may_do}
use Rattle.line_step.specs.State.{LineState, machine_in}
use Rattle.line_step.specs.Steps.{MachineSteps}
use Rattle.law_history.proofs.OfferingStep.{IsNoHand}
use Rattle.law_history.proofs.OfferingWhole.{IsMarkable}
use Rattle.law_history.proofs.View.{IsJoining, SteppedBy, TurnBy, each_turn, beside_turn}
use Rattle.line_step.specs.Requests.{Request, may_get}
use Rattle.line_step.proofs.Getting.{get_may, gives_can}
use Rattle.line_step.specs.Requests as requests

-- the line changes boards of this machine by hand, or has one go to another lane or come from there, or tells it of a level of
-- its segment, which may mark one
abbrev pub IsByHand : ℕ → Request → Type 0
IsByHand m (requests.gives machine (inputs.Insert barcode)) = m ≡ machine
IsByHand m (requests.gives machine (inputs.Remove id)) = m ≡ machine
IsByHand m (requests.gives machine (inputs.Replace id)) = m ≡ machine
IsByHand m (requests.gives machine (inputs.Mark id quality)) = m ≡ machine
IsByHand m (requests.gives machine (inputs.Sub id place barcode)) = m ≡ machine
IsByHand m (requests.gives machine (inputs.Gives id to)) = m ≡ machine
IsByHand m (requests.gives machine (inputs.Gets board)) = m ≡ machine
IsByHand m (requests.gives machine (inputs.Level line on)) = m ≡ machine
IsByHand m _ = ⊥

-- an event that befalls this machine in a line, whose outlet is this, and which offered this board last
pub data Befalls (m : ℕ) (request : Request) (last : Option ℕ) (outlet : OutState) (event : Event) : Type 0 where
  plainly : IsNoHand event → Befalls m request last outlet event
  by_hand : IsByHand m request → (IsRecent last outlet → IsMarkable event outlet) → Befalls m request last outlet event

abbrev pub BefallsAt : ℕ → Request → LineState → Event → Type 0
BefallsAt j request before event = Befalls (j + 1) request (node_at before (j + 1)).lane.body.last_offer (node_at before (j + 1)).lane.body.outlet event

abbrev pub Acted : ℕ → Request → LineState → LineState → List Happening → Type 0
Acted j request before after told = SteppedBy (BefallsAt j request before) j before after told

abbrev pub Course : ℕ → Request → LineState → LineState → List Happening → Type 0
Course j request before after told = TurnBy (BefallsAt j request before) j before after told

-- ---- which events these are

abbrev IsNoHandInput : Input → Type 0
IsNoHandInput (inputs.Insert barcode) = ⊥
IsNoHandInput (inputs.Remove id) = ⊥
IsNoHandInput (inputs.Replace id) = ⊥
IsNoHandInput (inputs.Mark id quality) = ⊥
IsNoHandInput (inputs.Sub id place barcode) = ⊥
IsNoHandInput (inputs.Gives id to) = ⊥
IsNoHandInput (inputs.Gets board) = ⊥
IsNoHandInput (inputs.Level line on) = ⊥
IsNoHandInput _ = Unit {0}

no_hand : (maker : Maker) (input : Input) (words : List Word) → IsNoHandInput input → IsNoHand (event_of maker input words)
no_hand maker (inputs.Insert barcode) words plain = absurd plain
no_hand maker (inputs.Remove id) words plain = absurd plain
no_hand maker (inputs.Replace id) words plain = absurd plain
no_hand maker (inputs.Mark id quality) words plain = absurd plain
no_hand maker (inputs.Sub id place barcode) words plain = absurd plain
no_hand maker (inputs.Gives id to) words plain = absurd plain
no_hand maker (inputs.Gets board) words plain = absurd plain
no_hand maker (inputs.Level line on) words plain = absurd plain
no_hand maker _ words plain = tt

new_markable : (outlet : OutState) (found : Result ℕ IdsUsedUp) (event : ℕ → Event) → ((id : ℕ) → IsMarkable (event id) outlet) → IsMarkable (with_new found event) outlet
new_markable outlet (Ok id) event all = all id
new_markable outlet (Err why) event all = tt

-- a record that is changed isn't known downstream
changed_free : {id : ℕ} {input : Input} (machine : ℕ) (s : LineState) (node : NodeState) → ChangesOne id input → machine_in machine s ≡ Some node → may_get machine input s ≡ may_do → node.lane.body.outlet.touched ≡ Some id → ⊥
changed_free {input = input} machine s node c there may = changed_untouched node c (get_may machine input s node there may)

-- what was not offered last isn't offered
unoffered : (id : ℕ) (last : Option ℕ) (outlet : OutState) → is_id last id ≡ false → IsRecent last outlet → outlet.offered ≡ Some id → ⊥
unoffered id last outlet not recent offered =
    let same : is_id last id ≡ true = ap (λ (l : Option ℕ). is_id l id) (recent.offered id offered) ∙ eq-eqb id id refl in
    let wrong : false ≡ true = sym not ∙ same in cc

-- ---- each turn

-- an event of a hand at this machine
hand_befalls : (request : Request) (number j : ℕ) (input : Input) (before after : LineState) (told : List Happening) → request ≡ requests.gives (j + 1) input → IsByHand (j + 1) (requests.gives (j + 1) input) → (steps : MachineSteps number (j + 1) input before after told)
    → (IsRecent steps.node.lane.body.last_offer steps.node.lane.body.outlet → IsMarkable (event_of steps.node.maker input steps.steps.lane.words) steps.node.lane.body.outlet) → BefallsAt j request before (event_of steps.node.maker input steps.steps.lane.words)
hand_befalls request number j input before after told asks here steps free =
    by_hand (subst (λ (r : Request). IsByHand (j + 1) r) (sym asks) here)
    (subst (λ (n : NodeState). IsRecent n.lane.body.last_offer n.lane.body.outlet → IsMarkable (event_of steps.node.maker input steps.steps.lane.words) n.lane.body.outlet) (sym (node_there (j + 1) before steps.node steps.there)) free)

-- an input that a line gives: those of a hand are named
given_befalls : (request : Request) (number j : ℕ) (input : Input) (before after : LineState) (told : List Happening) → request ≡ requests.gives (j + 1) input → may_get (j + 1) input before ≡ may_do → (steps : MachineSteps number (j + 1) input before after told)
    → BefallsAt j request before (event_of steps.node.maker input steps.steps.lane.words)
given_befalls request number j (inputs.Insert barcode) before after told asks may steps =
    hand_befalls request number j (inputs.Insert barcode) before after told asks refl steps (λ recent. new_markable steps.node.lane.body.outlet (next_id steps.node.maker) (λ id. events.Insert id barcode) (λ id. tt))
given_befalls request number j (inputs.Remove id) before after told asks may steps = hand_befalls request number j (inputs.Remove id) before after told asks refl steps (λ recent. tt)
given_befalls request number j (inputs.Replace id) before after told asks may steps =
    hand_befalls request number j (inputs.Replace id) before after told asks refl steps (λ recent. new_markable steps.node.lane.body.outlet (next_id steps.node.maker) (events.Replace id) (λ new. tt))
given_befalls request number j (inputs.Mark id quality) before after told asks may steps =
    hand_befalls request number j (inputs.Mark id quality) before after told asks refl steps (λ recent. changed_free (j + 1) before steps.node (marks_one {quality = quality}) steps.there may)
given_befalls request number j (inputs.Sub id place barcode) before after told asks may steps =
    hand_befalls request number j (inputs.Sub id place barcode) before after told asks refl steps (λ recent. changed_free (j + 1) before steps.node (subs_one {place = place} {barcode = barcode}) steps.there may)
given_befalls request number j (inputs.Gives id to) before after told asks may steps =
    hand_befalls request number j (inputs.Gives id to) before after told asks refl steps (λ recent. unoffered id steps.node.lane.body.last_offer steps.node.lane.body.outlet (gives_can (j + 1) id to before steps.node steps.there may).last recent)
given_befalls request number j (inputs.Gets board) before after told asks may steps = hand_befalls request number j (inputs.Gets board) before after told asks refl steps (λ recent. tt)
given_befalls request number j (inputs.Level signal on) before after told asks may steps = hand_befalls request number j (inputs.Level signal on) before after told asks refl steps (λ recent. tt)
given_befalls request number j input before after told asks may steps = plainly (no_hand steps.node.maker input steps.steps.lane.words tt)

joining_plain : (input : Input) → IsJoining input → IsNoHandInput input
joining_plain inputs.Connect joins = tt
joining_plain inputs.Accepted joins = tt
joining_plain inputs.Second joins = tt
joining_plain _ joins = absurd joins

-- EACH LINE, for each machine
pub line_course : (number : ℕ) (request : Request) (before after : LineState) (told : List Happening) → LineSteps number request before after told → (j : ℕ) → Course j request before after told
line_course number request before after told steps j = each_turn (BefallsAt j request before) number request before after told j steps (record {
  given = λ input asks given may did. given_befalls request number j input before steps.next steps.done asks may did;
  joining = λ input joins maker words. plainly (no_hand maker input words (joining_plain input joins));
  arriving = λ side count may flows. plainly (no_hand flows.steps.node.maker (inputs.Bytes side flows.piece) flows.steps.steps.lane.words tt);
})

pub track_course : (number : ℕ) (line : TrackLine) (before after : LineState) (told : List Happening) → TrackSteps number line before after told → (j : ℕ) → Course j (asked_on line) before after told
track_course number (own_line request) before after told steps j = line_course number request before after told steps.0 j
track_course number other_line before after told steps j = beside_turn (BefallsAt j requests.nothing before) before after told j steps.0 steps.1

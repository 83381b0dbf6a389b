-- No board of a running machine goes to another lane, or comes from one: its input may be given.
use Rattle.std.proofs.Common.{Err, List, Ok, Result, subst, sym, ℕ, ℤ, ◌++◌, ◌≡◌}
use Rattle.std.specs.List.{AllByRecursion}
use Rattle.board_record.specs.Maker.{next_id}
use Rattle.board_record.specs.declared.maker.IdsUsedUp.{IdsUsedUp}
use Rattle.node_core.specs.Desk.{Desk}
use Rattle.node_core.specs.Event.{Event, Insert, Replace, event_of, with_new}
use Rattle.node_core.specs.May.{may_do, may_of}
use Rattle.node_core.specs.Node.{NodeState, desk_of}
use Rattle.node_core.specs.Signals.{signalled}
use Rattle.node_core.specs.Supervising.{watch_of}
use Rattle.node_core.specs.declared.act.Act.{Act}
use Rattle.node_core.specs.declared.input.Input.{Input}
use Rattle.node_core.specs.declared.input.Input.TheVariants as inputs
use Rattle.node_core.specs.declared.input.No.TheVariants as no
use Rattle.node_core.specs.declared.word.Word.{Word}
use Rattle.step_rules.proofs.Acts.{told_acts_hold}
use Rattle.step_rules.specs.Acts.{OfEvent, Usual}
use Rattle.law_running_line.specs.Reading.{Reading}
use Rattle.law_running_line.specs.Running.{Running}
use Rattle.law_running_line.specs.Turns.{Turns}
use Rattle.law_running_line.proofs.TurnLeaves.{event_in}
use Rattle.law_running_logs.specs.Told.{StaysInLane}

usual_stays : Usual StaysInLane
usual_stays = record {
  reads = λ side event. tt;
  hears = λ side message. tt;
  breaches = λ side text. tt;
  sends = λ side message. tt;
  closes = λ side. tt;
  notices = λ side. tt;
  deed = λ deed. tt;
  drive = λ side on. tt;
}

-- what a machine of one lane refuses
no_lane : Err no.NoLane ≡ may_do → ⊥
no_lane may = cc

new_stays : (desk : Desk) (found : Result ℕ IdsUsedUp) (event : ℕ → Event)
    → ((id : ℕ) → OfEvent StaysInLane desk (event id))
    → OfEvent StaysInLane desk (with_new found event)
new_stays desk (Ok id) event each = each id
new_stays desk (Err why) event each = tt

event_stays : (s : NodeState) (input : Input) (words : List Word) (desk : Desk)
    → may_of s input ≡ may_do → OfEvent StaysInLane desk (event_of s.maker input words)
event_stays s (inputs.Gives id to) words desk may = absurd (no_lane may)
event_stays s (inputs.Gets board) words desk may = absurd (no_lane may)
event_stays s (inputs.Insert barcode) words desk may =
    new_stays desk (next_id s.maker) (λ id. Insert id barcode) (λ id. tt)
event_stays s (inputs.Replace old) words desk may =
    new_stays desk (next_id s.maker) (Replace old) (λ id. tt)
event_stays s (inputs.Level line on) words desk may = (tt, λ id. tt)
event_stays s _ words desk may = tt

pub turn_stays : {reading : Reading} {machine : ℕ} {input : Input} {moment : ℤ}
    {before after : Running} {told : List Act} → Turns reading machine input moment before after told
    → AllByRecursion StaysInLane told
turn_stays {input = input} {moment = moment} turn =
    let desk : Desk = desk_of turn.node moment in
    let signals : List Act = signalled turn.node.bridge turn.next.lane.body in
    subst (λ (told : List Act). AllByRecursion StaysInLane told) (sym turn.steps.told)
    (subst (λ (made : List Act). AllByRecursion StaysInLane (made ++ signals))
    (sym turn.steps.lane.told)
    (told_acts_hold usual_stays (λ message. tt) (λ signal on. tt) desk
    (watch_of desk turn.node.lane.body) turn.read (event_in turn) turn.node.lane.body
    turn.node.bridge turn.next.lane.body
    (event_stays turn.node input turn.steps.lane.words desk turn.may)))

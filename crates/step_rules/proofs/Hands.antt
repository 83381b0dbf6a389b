-- Which acts of a machine's step put a board on the floor, take one off or change one: none but that of the input itself.
use Rattle.std.proofs.Common.{◌++◌, Bool, true, false, List, [], ◌∷◌, Option}
use Rattle.std.specs.Prelude.{if◌then◌else◌}
use Rattle.std.specs.List.{AllByRecursion}
use Rattle.board_record.specs.declared.sensed.Sensed.{Sensed}
use Rattle.line_base.specs.declared.states.Seen.{Seen}
use Rattle.node_core.specs.declared.act.Act.{Act}
use Rattle.node_core.specs.declared.act.Act.TheVariants as acts
use Rattle.node_core.specs.declared.lane.Body.{Body}
use Rattle.node_core.specs.Desk.{Desk}
use Rattle.node_core.specs.Session.{breaches}
use Rattle.node_core.specs.Connect.{notices}
use Rattle.node_core.specs.Reads.{reads, all_read}
use Rattle.node_core.specs.Announces.{announces}
use Rattle.node_core.specs.Signals.{signalled}
use Rattle.node_core.specs.declared.act.Deed.{Deed}
use Rattle.node_core.specs.declared.act.Deed.TheVariants as deeds
use Rattle.node_core.specs.declared.supervising.Watch.{Watch}
use Rattle.node_core.specs.Supervising.{
  Supervision,
  Supervise,
  Ask,
  Answer,
  saw_taken,
  supervision_act,
  tells_behind,
  tells_deed,
  tells_of,
  with_tells,
}
use Rattle.smema_bridge.specs.Levels.{BridgeLevels}
use Rattle.node_core.proofs.Signalling.{signals_all}
use Rattle.node_core.proofs.Telling.{tells_all}
use Rattle.node_core.specs.Event.{Event, event_did}
use Rattle.step_rules.specs.Acts.{OfEvent, Usual}
use Rattle.step_rules.proofs.Acts.{acts_hold}
use Rattle.step_rules.proofs.Steps.{all_read_made, announces_made, event_made}

abbrev pub IsQuiet : Act → Type 0
IsQuiet (acts.Inserts id) = ⊥
IsQuiet (acts.Removes id) = ⊥
IsQuiet (acts.Replaces was now) = ⊥
IsQuiet (acts.Gives id to) = ⊥
IsQuiet (acts.Gets id) = ⊥
IsQuiet _ = Unit {0}

abbrev pub AreQuiet : List Act → Type 0
AreQuiet told = AllByRecursion IsQuiet told

pub quiet-join : (a b : List Act) → AreQuiet a → AreQuiet b → AreQuiet (a ++ b)
quiet-join [] b one two = two
quiet-join (x ∷ xs) b one two = (one.0, quiet-join xs b one.1 two)

-- ---- the acts of a step

usual-quiet : Usual IsQuiet
usual-quiet = record {
  reads = λ side event. tt;
  hears = λ side message. tt;
  breaches = λ side text. tt;
  sends = λ side message. tt;
  closes = λ side. tt;
  notices = λ side. tt;
  deed = λ deed. tt;
  drive = λ side on. tt;
}

pub read-quiet : (desk : Desk) (unread : List Sensed) (body : Body)
    → AreQuiet (all_read desk unread body).acts
read-quiet desk unread body = acts_hold usual-quiet (all_read_made desk unread body) tt

-- of an event that puts no board in, takes none out and replaces none, and that moves none between
-- lanes
pub met-quiet : (desk : Desk) (event : Event) (body : Body) → OfEvent IsQuiet desk event
    → AreQuiet (event_did desk event body).acts
met-quiet desk event body own = acts_hold usual-quiet (event_made desk event body) own

pub announces-quiet : (desk : Desk) (body : Body) → AreQuiet (announces desk body).acts
announces-quiet desk body = acts_hold usual-quiet (announces_made desk body) tt

pub signals-quiet : (bridge : Option BridgeLevels) (body : Body) → AreQuiet (signalled bridge body)
signals-quiet bridge body = signals_all AreQuiet tt (λ signal on. (tt, tt)) quiet-join bridge body

-- ---- the supervisor

pub hands_with_tells : (desk : Desk) (watch : Watch) (made : List Act) → AreQuiet made
    → AreQuiet (with_tells desk watch made)
hands_with_tells desk watch made quiet =
    tells_all AreQuiet (λ act others all. all.1) (λ act told others all rest. (all.0, rest))
    (λ message told rest. (tt, rest)) tt desk watch made quiet

test-quiet : (test : Bool) (made : List Act) → AreQuiet made → AreQuiet (if test then made else [])
test-quiet true made quiet = quiet
test-quiet false made quiet = tt

deed_tells-quiet : (desk : Desk) (seen : Option Seen) (deed : Deed)
    → AreQuiet (tells_deed desk seen deed)
deed_tells-quiet desk seen (deeds.Settles id) = (tt, tt)
deed_tells-quiet desk seen (deeds.Leaves id) = (tt, tt)
deed_tells-quiet desk seen (deeds.Loses id) = (tt, tt)
deed_tells-quiet desk seen (deeds.Drops id) = test-quiet (saw_taken seen) _ (tt, tt)
deed_tells-quiet desk seen _ = tt

act_tells-quiet : (desk : Desk) (seen : Option Seen) (act : Act)
    → AreQuiet (tells_of desk seen act)
act_tells-quiet desk seen (acts.Inserts id) = (tt, tt)
act_tells-quiet desk seen (acts.Removes id) = (tt, tt)
act_tells-quiet desk seen (acts.Replaces was now) = (tt, (tt, tt))
act_tells-quiet desk seen (acts.Deed deed) = deed_tells-quiet desk seen deed
act_tells-quiet desk seen _ = tt

-- what the supervisor is told behind any act
pub tells_behind-quiet : (desk : Desk) (watch : Watch) (act : Act)
    → AreQuiet (tells_behind desk watch act)
tells_behind-quiet desk watch act =
    test-quiet watch.supervised (tells_of desk watch.seen act)
    (act_tells-quiet desk watch.seen act)

pub supervision-quiet : (desk : Desk) (what : Supervision) → IsQuiet (supervision_act desk what)
supervision-quiet desk (Supervise on) = tt
supervision-quiet desk (Ask question) = tt
supervision-quiet desk (Answer query order) = tt

-- WHICH ACTS A STEP CAN TELL: what holds of each of these holds of every act of a step.
use Rattle.std.specs.Prelude.{ℕ, Bool, List}
use Rattle.line_base.specs.declared.states.Quality.TheVariants.{Failed}
use Rattle.line_base.specs.declared.states.SensorEvent.{SensorEvent}
use Rattle.line_base.specs.declared.states.Side.{Side}
use Rattle.hermes_horizontal.specs.declared.message.Message.{Message}
use Rattle.node_core.specs.declared.act.Act.{Act}
use Rattle.node_core.specs.declared.act.Act.TheVariants as acts
use Rattle.node_core.specs.declared.act.Deed.{Deed}
use Rattle.node_core.specs.declared.act.Setting.TheVariants as settings
use Rattle.node_core.specs.Desk.{Desk}
use Rattle.node_core.specs.Event.{
  Connect,
  Event,
  Gets,
  Gives,
  Insert,
  Level,
  Mark,
  Remove,
  Replace,
  Sub,
  Supervised,
  Will,
}
use Rattle.node_core.specs.Supervising.{supervision_act}
use Rattle.step_rules.specs.Causes.{Cause, Announcing, Hearing, Meeting, Reading}

-- this holds of the acts that the tables and the sessions give, whatever the event is
pub record Usual (P : Act → Type 0) : Type 0 where
  pub reads : (side : Side) (event : SensorEvent) → P (acts.Reads side event)
  pub hears : (side : Side) (message : Message) → P (acts.Hears side message)
  pub breaches : (side : Side) (text : List ℕ) → P (acts.Breaches side text)
  pub sends : (side : Side) (message : Message) → P (acts.Sends side message)
  pub closes : (side : Side) → P (acts.Closes side)
  pub notices : (side : Side) → P (acts.Notices side)
  pub deed : (deed : Deed) → P (acts.Deed deed)
  pub drive : (side : Side) (on : Bool) → P (acts.Drive side on)

-- and of those by which a machine does what the event says
abbrev pub OfEvent : (Act → Type 0) → Desk → Event → Type 0
OfEvent P desk Connect = P acts.Connects
OfEvent P desk (Will side on) = P (acts.Sets (settings.Will side on))
OfEvent P desk (Level line on) =
    P (acts.Sets (settings.Level line on)) × ((id : ℕ) → P (acts.Marks id Failed))
OfEvent P desk (Insert id barcode) = P (acts.Inserts id)
OfEvent P desk (Remove id) = P (acts.Removes id)
OfEvent P desk (Replace old new) = P (acts.Replaces old new)
OfEvent P desk (Mark id quality) = P (acts.Marks id quality)
OfEvent P desk (Sub id sub) = P (acts.Subs id sub.pos)
OfEvent P desk (Supervised what) = P (supervision_act desk what)
OfEvent P desk (Gives id to) = P (acts.Gives id to)
OfEvent P desk (Gets board) = P (acts.Gets board.id)
OfEvent P desk _ = Unit {0}

abbrev pub OfCause : (Act → Type 0) → Desk → Cause → Type 0
OfCause P desk Reading = Unit {0}
OfCause P desk (Hearing side word) = Unit {0}
OfCause P desk (Meeting event) = OfEvent P desk event
OfCause P desk (Announcing starting) = Unit {0}

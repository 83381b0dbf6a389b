-- THE SUPERVISOR: what a machine tells of its boards, behind the acts that are the cause, and what
-- it asks.
use Rattle.std.specs.Prelude.{
  ℕ,
  ◌+◌,
  ◌≢◌,
  ◌&&◌,
  Bool,
  true,
  false,
  List,
  [],
  ◌∷◌,
  ◌++◌,
  Option,
  Some,
  None,
  not,
  option_map,
  if◌then◌else◌,
}
use Rattle.std.specs.List.{list_all}
use Rattle.line_base.specs.declared.states.Side.TheVariants.{Entry}
use Rattle.line_base.specs.declared.states.Seen.{Seen}
use Rattle.line_base.specs.declared.states.Seen.TheVariants.{NotStarted}
use Rattle.line_base.specs.declared.states.SensorEvent.{SensorEvent}
use Rattle.hermes_vertical.specs.declared.message.Passing.{Passing}
use Rattle.hermes_vertical.specs.declared.message.Passing.TheVariants.{Transferred, ByHand}
use Rattle.hermes_vertical.specs.declared.message.Question.{Question}
use Rattle.hermes_vertical.specs.declared.message.Vertical.{Vertical}
use Rattle.hermes_vertical.specs.declared.message.Vertical.TheVariants as bodies
use Rattle.supervisory_core.specs.declared.order.Order.{Order}
use Rattle.supervisory_core.specs.Calls.{after, answers, asks}
use Rattle.handover_in.specs.Own.{own_after, is_taken}
use Rattle.handover_in.specs.State.{own_of_phase}
use Rattle.node_core.specs.declared.act.Act.{Act}
use Rattle.node_core.specs.declared.act.Act.TheVariants as acts
use Rattle.node_core.specs.declared.act.Deed.{Deed}
use Rattle.node_core.specs.declared.act.Deed.TheVariants as deeds
use Rattle.node_core.specs.declared.act.Setting.TheVariants as settings
use Rattle.node_core.specs.declared.input.Input.{Input}
use Rattle.node_core.specs.declared.input.Input.TheVariants as inputs
use Rattle.node_core.specs.declared.lane.Body.{Body}
use Rattle.node_core.specs.declared.supervising.Cause.{Cause}
use Rattle.node_core.specs.declared.supervising.Cause.TheVariants as causes
use Rattle.node_core.specs.declared.supervising.Watch.{Watch}
use Rattle.node_core.specs.Desk.{Desk}
use Rattle.node_core.specs.Done.{Done, done}

-- a message of this moment goes to the supervisor
abbrev pub tells_supervisor : Desk → Vertical → Act
tells_supervisor desk what = acts.Tells (record { stamp = Some desk.moment; body = what })

-- ---- what is told of a board

abbrev pub arrives : Desk → Passing → ℕ → Act
arrives desk how id =
    tells_supervisor desk
    (bodies.BoardArrived (record { machine = desk.name; lane = desk.lane; how = how; id = id }))

abbrev pub departs : Desk → Passing → ℕ → Act
departs desk how id =
    tells_supervisor desk
    (bodies.BoardDeparted (record { machine = desk.name; lane = desk.lane; how = how; id = id }))

-- ---- what decides it: whether the machine is supervised, and what its sensors saw of the board that
-- its intake holds

abbrev pub watch_of : Desk → Body → Watch
watch_of desk body = record { supervised = desk.supervised; seen = own_of_phase body.intake.phase }

abbrev pub seen_with : SensorEvent → Seen → Seen
seen_with event seen = own_after seen event

-- both after an act
abbrev pub watch_after : Watch → Act → Watch
watch_after watch (acts.Reads Entry event) =
    record watch { seen = option_map (seen_with event) watch.seen }
watch_after watch (acts.Deed (deeds.Starts id)) = record watch { seen = Some NotStarted }
watch_after watch (acts.Deed (deeds.Settles id)) = record watch { seen = None }
watch_after watch (acts.Deed (deeds.Drops id)) = record watch { seen = None }
watch_after watch (acts.Sets (settings.Supervise on)) = record watch { supervised = on }
watch_after watch _ = watch

-- and after some acts
abbrev pub watch_behind : Watch → List Act → Watch
watch_behind watch [] = watch
watch_behind watch (act ∷ others) = watch_behind (watch_after watch act) others

-- the board was taken out by hand
abbrev pub saw_taken : Option Seen → Bool
saw_taken None = false
saw_taken (Some seen) = is_taken seen

-- ---- behind which acts

-- a board that is dropped since it was taken out has departed; of another that is dropped nothing
-- was told before
abbrev pub tells_deed : Desk → Option Seen → Deed → List Act
tells_deed desk seen (deeds.Settles id) = arrives desk Transferred id ∷ []
tells_deed desk seen (deeds.Leaves id) = departs desk Transferred id ∷ []
tells_deed desk seen (deeds.Loses id) = departs desk ByHand id ∷ []
tells_deed desk seen (deeds.Drops id) = if saw_taken seen then departs desk ByHand id ∷ [] else []
tells_deed desk seen _ = []

abbrev pub tells_cause : Desk → Option Seen → Cause → List Act
tells_cause desk seen (causes.Inserts id) = arrives desk ByHand id ∷ []
tells_cause desk seen (causes.Removes id) = departs desk ByHand id ∷ []
tells_cause desk seen (causes.Replaces old new) =
    departs desk ByHand old ∷ arrives desk ByHand new ∷ []
tells_cause desk seen (causes.Deed deed) = tells_deed desk seen deed
tells_cause desk seen causes.None = []

-- the act that may be the cause
abbrev pub cause_of : Act → Cause
cause_of (acts.Inserts id) = causes.Inserts id
cause_of (acts.Removes id) = causes.Removes id
cause_of (acts.Replaces old new) = causes.Replaces old new
cause_of (acts.Deed deed) = causes.Deed deed
cause_of _ = causes.None

abbrev pub tells_of : Desk → Option Seen → Act → List Act
tells_of desk seen act = tells_cause desk seen (cause_of act)

-- a machine that is not supervised tells nothing
abbrev pub tells_behind : Desk → Watch → Act → List Act
tells_behind desk watch act = if watch.supervised then tells_of desk watch.seen act else []

-- the acts of a step, and just behind each what the supervisor is told of it
abbrev pub with_tells : Desk → Watch → List Act → List Act
with_tells desk watch [] = []
with_tells desk watch (act ∷ others) =
    act ∷ (tells_behind desk watch act ++ with_tells desk (watch_after watch act) others)

-- what a step that begins with this body did, with what the supervisor is told of it
abbrev pub telling : Desk → Body → Done → Done
telling desk body did = done did.body (with_tells desk (watch_of desk body) did.acts)

-- ---- what the supervisor is asked, and what it says

pub data Supervision : Type 0 where
  Supervise : Bool → Supervision
  Ask : Question → Supervision
  Answer : ℕ → List ℕ → Supervision

-- a question has the next number
abbrev pub supervision_act : Desk → Supervision → Act
supervision_act desk (Supervise on) = acts.Sets (settings.Supervise on)
supervision_act desk (Ask question) =
    tells_supervisor desk (bodies.QueryWorkOrderInfo (desk.asked + 1) question)
supervision_act desk (Answer query order) = acts.Answered query order

-- THE MICRO EVENT: it concerns no board and no handover
abbrev pub supervises : Desk → Supervision → Body → Done
supervises desk what body = done body (supervision_act desk what ∷ [])

-- ---- what is kept of it

abbrev pub supervised_after : Input → Bool → Bool
supervised_after (inputs.Supervise on) supervised = on
supervised_after _ supervised = supervised

-- a question is kept, and so is its answer
abbrev pub orders_after : Input → List Order → List Order
orders_after (inputs.Ask question) orders = after orders (asks question)
orders_after (inputs.Answer query order) orders = after orders (answers query order)
orders_after _ orders = orders

-- a question has a number of 64 bits
abbrev pub HasNumber : Input → Desk → Type 0
HasNumber (inputs.Ask question) desk = desk.asked ≢ 18446744073709551615
HasNumber _ desk = Unit {0}

-- a machine is not supervised, and no act changes that: so nothing is told
abbrev pub stays_unwatched : Act → Bool
stays_unwatched (acts.Sets (settings.Supervise on)) = false
stays_unwatched _ = true

abbrev pub is_unwatched : Bool → List Act → Bool
is_unwatched supervised told = not supervised && list_all stays_unwatched told

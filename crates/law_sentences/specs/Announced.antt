-- OPENINGS EXACTLY WHEN ANNOUNCED: a machine opens a handover at its exit where the start of a
-- board is heard while that board and the place for it are announced, and nowhere else.
--
-- Everything here is a look back over what was told of one machine, of messages and deeds at its
-- exit alone. No state of a machine is named, and no neighbour.
--
-- What is not said here. That a start ever comes. That the neighbour still wants what it
-- announced: an announcement counts as it was heard, and a close of which the machine hasn't
-- learnt yet revokes nothing. What a start meets that is heard and opens nothing (the handover is
-- refused then). Which start of the neighbour it was that is heard, and what it holds of the board
-- then: that needs what lies between the two machines. And what an opening leads to.
use Rattle.std.specs.Prelude.{◌≡◌, ◌↔◌, ◌++◌, ◌==◌, ◌&&◌, ℕ, Bool, true, false, List, [], ◌∷◌, Option, Some, None, if◌then◌else◌}
use Rattle.line_base.specs.declared.states.Side.TheVariants.{Exit}
use Rattle.hermes_horizontal.specs.declared.kind.Kind.TheVariants as kinds
use Rattle.hermes_horizontal.specs.declared.message.Message.{Message}
use Rattle.hermes_horizontal.specs.declared.message.Horizontal.{Horizontal}
use Rattle.hermes_horizontal.specs.declared.message.Horizontal.TheVariants as bodies
use Rattle.session_core.specs.Breach.{unexpected}
use Rattle.node_core.specs.declared.act.Act.{Act}
use Rattle.node_core.specs.declared.act.Act.TheVariants as acts
use Rattle.node_core.specs.declared.act.Deed.{Deed}
use Rattle.node_core.specs.declared.act.Deed.TheVariants as deeds
use Rattle.line_report.specs.declared.happening.Happening.{Happening}
use Rattle.line_report.specs.declared.happening.Happening.TheVariants as happenings
use Rattle.line_step.specs.Acts.{is_exit}
use Rattle.line_step.specs.State.{no_line}
use Rattle.line_step.specs.Tracks.{TrackLine}
use Rattle.line_step.specs.Runs.{Point, IsRun, all_told}

-- ---- the acts of a machine on its exit

-- the deeds of the exit; the others are those of the entry
abbrev pub is_exit_deed : Deed → Bool
is_exit_deed (deeds.Opens id) = true
is_exit_deed (deeds.Refuses id) = true
is_exit_deed (deeds.Leaves id) = true
is_exit_deed (deeds.Returns id) = true
is_exit_deed (deeds.Loses id) = true
is_exit_deed (deeds.Starts id) = false
is_exit_deed (deeds.Settles id) = false
is_exit_deed (deeds.Drops id) = false

-- an act that is on the exit. What is done by hand is on no side
abbrev pub is_on_exit : Act → Bool
is_on_exit (acts.Reads side event) = is_exit side
is_on_exit (acts.Hears side message) = is_exit side
is_on_exit (acts.Breaches side text) = is_exit side
is_on_exit (acts.Sends side message) = is_exit side
is_on_exit (acts.Closes side) = is_exit side
is_on_exit (acts.Notices side) = is_exit side
is_on_exit (acts.Drive side on) = is_exit side
is_on_exit (acts.Deed deed) = is_exit_deed deed
is_on_exit _ = false

-- what a happening is of the acts of machine k on its exit: that act, or nothing
abbrev pub exit_act : ℕ → Happening → List Act
exit_act k (happenings.Done machine act) = if machine == k && is_on_exit act then act ∷ [] else []
exit_act k _ = []

-- the acts of machine k on its exit, in their order. The switching of a drive is not told, and so
-- not among them
abbrev pub exit_acts : ℕ → List Happening → List Act
exit_acts k [] = []
exit_acts k (happening ∷ told) = exit_act k happening ++ exit_acts k told

-- ---- looking back

-- the later one, where there is one
abbrev pub later_or : Option Act → Option Act → Option Act
later_or (Some later) earlier = Some later
later_or None earlier = earlier

abbrev pub if_it : Bool → Act → Option Act
if_it true act = Some act
if_it false act = None

-- the last of these acts of which the test holds
abbrev pub last_of : (Act → Bool) → List Act → Option Act
last_of test [] = None
last_of test (act ∷ told) = later_or (last_of test told) (if_it (test act) act)

-- ---- OFFERED: a board is offered where the last among these acts is the sending of BoardAvailable
-- with its id: sending BoardAvailable, sending RevokeBoardAvailable, opening, refusing, closing, and
-- noticing a close

abbrev pub is_of_offers : Horizontal → Bool
is_of_offers (bodies.BoardAvailable board) = true
is_of_offers bodies.RevokeBoardAvailable = true
is_of_offers _ = false

abbrev pub bears_on_offer : Act → Bool
bears_on_offer (acts.Sends Exit message) = is_of_offers message.body
bears_on_offer (acts.Deed (deeds.Opens id)) = true
bears_on_offer (acts.Deed (deeds.Refuses id)) = true
bears_on_offer (acts.Closes Exit) = true
bears_on_offer (acts.Notices Exit) = true
bears_on_offer _ = false

-- the board that a message makes available
abbrev pub available_in : Horizontal → Option ℕ
available_in (bodies.BoardAvailable board) = Some board.id
available_in _ = None

abbrev pub offered_in : Option Act → Option ℕ
offered_in (Some (acts.Sends Exit message)) = available_in message.body
offered_in _ = None

-- the board that is offered after these acts
abbrev pub offered_by : List Act → Option ℕ
offered_by told = offered_in (last_of bears_on_offer told)

-- ---- READY: the neighbour is ready where the last among these acts is the hearing of MachineReady:
-- hearing MachineReady, hearing RevokeMachineReady, opening, refusing, closing, and noticing a close

abbrev pub is_of_places : Horizontal → Bool
is_of_places (bodies.MachineReady quality) = true
is_of_places bodies.RevokeMachineReady = true
is_of_places _ = false

abbrev pub bears_on_place : Act → Bool
bears_on_place (acts.Hears Exit message) = is_of_places message.body
bears_on_place (acts.Deed (deeds.Opens id)) = true
bears_on_place (acts.Deed (deeds.Refuses id)) = true
bears_on_place (acts.Closes Exit) = true
bears_on_place (acts.Notices Exit) = true
bears_on_place _ = false

-- a message announces a place
abbrev pub is_place : Horizontal → Bool
is_place (bodies.MachineReady quality) = true
is_place _ = false

abbrev pub is_ready_in : Option Act → Bool
is_ready_in (Some (acts.Hears Exit message)) = is_place message.body
is_ready_in _ = false

-- the neighbour is ready after these acts
abbrev pub is_ready_by : List Act → Bool
is_ready_by told = is_ready_in (last_of bears_on_place told)

-- ---- the law

-- after what was told so far, board id is announced by machine k, and the place for it to machine
-- k
pub record IsAnnounced (k id : ℕ) (told : List Happening) : Type 0 where
  pub board : offered_by (exit_acts k told) ≡ Some id
  pub place : is_ready_by (exit_acts k told) ≡ true

-- machine k takes a message at its exit, and opens the handover of a board
abbrev pub hears : ℕ → Message → Happening
hears k message = happenings.Done k (acts.Hears Exit message)

abbrev pub opens : ℕ → ℕ → Happening
opens k id = happenings.Done k (acts.Deed (deeds.Opens id))

-- the happening that comes first
abbrev pub first_of : List Happening → Option Happening
first_of [] = None
first_of (happening ∷ told) = Some happening

-- an opening is behind what was told, and the last of that is the start that asks for it
pub record IsAsked (k id : ℕ) (told : List Happening) : Type 0 where
  pub earlier : List Happening
  pub message : Message
  pub start : message.body ≡ bodies.StartTransport id
  pub told_is : told ≡ earlier ++ hears k message ∷ []

-- a start that has no row in the tables: it is not heard, and the connection is broken off
abbrev pub breaks_at_start : ℕ → Happening
breaks_at_start k = happenings.Done k (acts.Breaches Exit (unexpected kinds.StartTransport))

-- Wherever machine k hears StartTransport of a board, the very next happening opens its handover
-- exactly where board and place are announced by then. It hears one only where a place is
-- announced, and breaks the connection off at one only where none is. And wherever it opens a
-- handover, the happening just before is such a hearing.
pub record OpensAsAnnounced (k : ℕ) (told : List Happening) : Type 0 where
  pub exactly : (earlier later : List Happening) (message : Message) (id : ℕ)
      → message.body ≡ bodies.StartTransport id → told ≡ earlier ++ hears k message ∷ later
      → (first_of later ≡ Some (opens k id)) ↔ IsAnnounced k id earlier
  pub in_place : (earlier later : List Happening) (message : Message) (id : ℕ)
      → message.body ≡ bodies.StartTransport id → told ≡ earlier ++ hears k message ∷ later
      → is_ready_by (exit_acts k earlier) ≡ true
  pub no_other : (earlier later : List Happening) (id : ℕ) → told ≡ earlier ++ opens k id ∷ later
      → IsAsked k id earlier
  pub no_place : (earlier later : List Happening) → told ≡ earlier ++ breaks_at_start k ∷ later
      → is_ready_by (exit_acts k earlier) ≡ false

-- THE LAW: it holds of each machine over every run, whatever connections are cut, closed or
-- spoiled and whatever is told of the sensors
abbrev pub OpensWhenAnnounced : Type 0
OpensWhenAnnounced =
    (asked : List TrackLine) (points : List Point) (k : ℕ) → IsRun no_line asked points
    → OpensAsAnnounced k (all_told points)

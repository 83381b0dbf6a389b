-- The acts that tell of what the halves and the sessions do.
use Rattle.std.specs.Prelude.{ℕ, Bool, true, List, [], ◌∷◌, ◌++◌, Option, Some, None, codes, slice_get}
use Rattle.line_base.specs.declared.states.Side.{Side}
use Rattle.line_base.specs.declared.states.Side.TheVariants.{Entry, Exit}
use Rattle.line_base.specs.declared.states.Severity.{Severity}
use Rattle.line_base.specs.declared.states.Quality.TheVariants as quality
use Rattle.board_record.specs.declared.record.Record.{Record}
use Rattle.hermes_horizontal.specs.declared.message.Horizontal.{Horizontal}
use Rattle.hermes_horizontal.specs.declared.message.Horizontal.TheVariants as bodies
use Rattle.session_core.specs.declared.actions.Tell.{Tell}
use Rattle.session_core.specs.Tells.{tell_code, tell_severity, tell_text}
use Rattle.handover_out.specs.declared.act.OutAct.{OutAct}
use Rattle.handover_out.specs.declared.act.OutDeed.{OutDeed}
use Rattle.handover_out.specs.declared.act.OutDeed.TheVariants as out_deed
use Rattle.handover_out.specs.declared.act.OutSend.{OutSend}
use Rattle.handover_out.specs.declared.act.OutSend.TheVariants as out_send
use Rattle.handover_in.specs.declared.act.InAct.{InAct}
use Rattle.handover_in.specs.declared.act.InDeed.{InDeed}
use Rattle.handover_in.specs.declared.act.InDeed.TheVariants as in_deed
use Rattle.handover_in.specs.declared.act.InSend.{InSend}
use Rattle.handover_in.specs.declared.act.InSend.TheVariants as in_send
use Rattle.node_core.specs.declared.act.Act.{Act}
use Rattle.node_core.specs.declared.act.Act.TheVariants as acts
use Rattle.node_core.specs.declared.act.Deed.{Deed}
use Rattle.node_core.specs.declared.act.Deed.TheVariants as deeds
use Rattle.node_core.specs.Desk.{Desk}

-- a message of this moment goes out
abbrev pub sends : Desk → Side → Horizontal → List Act
sends desk side what = acts.Sends side (record { stamp = Some desk.moment; body = what }) ∷ []

-- how a machine describes itself
abbrev pub service_of : Desk → Horizontal
service_of desk =
    bodies.ServiceDescription (record {
      machine = desk.name;
      lane = desk.lane;
      version = codes "1.5";
      interface = None;
      features =
          record { check_alive = true; forecast = true; query = true; send = true };
    })

abbrev pub notification : ℕ → Severity → List ℕ → Horizontal
notification number severity text = bodies.Notification (record { number = number }) severity text

-- what a session tells
abbrev pub tells : Tell → Horizontal
tells what = bodies.Notification (tell_code what) (tell_severity what) (tell_text what)

-- THE ONE PLACE where a deed goes out
abbrev pub does : Deed → List Act
does deed = acts.Deed deed ∷ []

abbrev pub deed_of_out : OutDeed → Deed
deed_of_out (out_deed.Opens id) = deeds.Opens id
deed_of_out (out_deed.Refuses id) = deeds.Refuses id
deed_of_out (out_deed.Leaves id) = deeds.Leaves id
deed_of_out (out_deed.Returns id) = deeds.Returns id
deed_of_out (out_deed.Loses id) = deeds.Loses id

abbrev pub deed_of_in : InDeed → Deed
deed_of_in (in_deed.Starts id) = deeds.Starts id
deed_of_in (in_deed.Settles id) = deeds.Settles id
deed_of_in (in_deed.Drops id) = deeds.Drops id

abbrev pub out_does : Option OutDeed → List Act
out_does None = []
out_does (Some deed) = does (deed_of_out deed)

abbrev pub in_does : Option InDeed → List Act
in_does None = []
in_does (Some deed) = does (deed_of_in deed)

abbrev pub drives : Side → Option Bool → List Act
drives side None = []
drives side (Some on) = acts.Drive side on ∷ []

-- the offer of the front record
abbrev pub offers : Desk → Option Record → List Act
offers desk None = []
offers desk (Some board) = sends desk Exit (bodies.BoardAvailable board)

-- what the outlet has to say, beside these kept records
abbrev pub out_says : Desk → List Record → OutSend → List Act
out_says desk kept out_send.BoardAvailable = offers desk (slice_get kept 0)
out_says desk kept out_send.RevokeBoardAvailable = sends desk Exit bodies.RevokeBoardAvailable
out_says desk kept (out_send.Finished state id) =
    sends desk Exit (bodies.TransportFinished state id)

abbrev pub out_sends : Desk → List Record → Option OutSend → List Act
out_sends desk kept None = []
out_sends desk kept (Some send) = out_says desk kept send

-- what the intake has to say
abbrev pub in_says : InSend → Horizontal
in_says in_send.MachineReady = bodies.MachineReady quality.Unknown
in_says in_send.RevokeMachineReady = bodies.RevokeMachineReady
in_says (in_send.Start id) = bodies.StartTransport id
in_says (in_send.Stop state id) = bodies.StopTransport state id

abbrev pub in_sends : Desk → Option InSend → List Act
in_sends desk None = []
in_sends desk (Some send) = sends desk Entry (in_says send)

-- what is told of an act of the outlet, beside these kept records: its deed, its message, its
-- drive
abbrev pub out_told : Desk → List Record → OutAct → List Act
out_told desk kept act =
    out_does act.deed ++ (out_sends desk kept act.send ++ drives Exit act.drive)

-- and of an act of the intake
abbrev pub in_told : Desk → InAct → List Act
in_told desk act = in_does act.deed ++ (in_sends desk act.send ++ drives Entry act.drive)

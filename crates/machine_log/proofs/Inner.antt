-- No text of a log has an end of a line in it.
use Rattle.std.proofs.Common.{◌≡◌, ap, refl, ℕ, ◌-◌, ◌==◌, Bool, true, false, not, cond, List, [], ◌∷◌, ◌++◌, Option, None, Some, codes, decimal, if◌then◌else◌}
use Rattle.std.proofs.lemmas.Bool.{and_from}
use Rattle.std.specs.List.{list_all}
use Rattle.line_base.specs.declared.states.Quality.{Quality}
use Rattle.line_base.specs.declared.states.Quality.TheVariants as qualities
use Rattle.line_base.specs.declared.states.SensorEvent.{SensorEvent}
use Rattle.line_base.specs.declared.states.SensorEvent.TheVariants as sensors
use Rattle.line_base.specs.declared.states.Side.{Side}
use Rattle.line_base.specs.declared.states.Side.TheVariants.{Entry, Exit}
use Rattle.line_base.specs.declared.states.Transfer.{Transfer}
use Rattle.line_base.specs.declared.states.Transfer.TheVariants as transfers
use Rattle.line_base.specs.Name.{IsName}
use Rattle.board_record.specs.BoardId.{id_text}
use Rattle.hermes_horizontal.specs.Parts.{name_of}
use Rattle.hermes_vertical.specs.Parts.{name_of as vertical_name_of}
use Rattle.hermes_vertical.specs.declared.message.Passage.{Passage}
use Rattle.hermes_vertical.specs.declared.message.Passing.{Passing}
use Rattle.hermes_vertical.specs.declared.message.Passing.TheVariants as passings
use Rattle.hermes_vertical.specs.declared.message.Vertical.{Vertical}
use Rattle.hermes_vertical.specs.declared.message.Vertical.TheVariants as verticals
use Rattle.hermes_horizontal.specs.declared.message.Horizontal.{Horizontal}
use Rattle.hermes_horizontal.specs.declared.message.Horizontal.TheVariants as bodies
use Rattle.hermes_horizontal.specs.declared.message.Ping.{Ping}
use Rattle.hermes_horizontal.specs.declared.message.Ping.TheVariants as pings
use Rattle.smema_bridge.specs.declared.line.SegmentLine.{SegmentLine}
use Rattle.smema_bridge.specs.declared.line.SegmentLine.TheVariants as segments
use Rattle.line_world.specs.Moves.{no_text as move_no_text}
use Rattle.line_world.specs.declared.moves.MoveNo.{MoveNo}
use Rattle.line_world.specs.declared.moves.MoveNo.TheVariants as moves
use Rattle.line_script.specs.Words.{why_text}
use Rattle.line_script.specs.declared.line.LineWhy.{LineWhy}
use Rattle.line_script.specs.declared.line.LineWhy.TheVariants as whys
use Rattle.line_report.specs.Texts.{act_text, at_side, byte_in_line, event_text, id_or_none, in_line, line_word, mark_of, no_text, numbered, of_board, passed_text, passing_text, ping_text, place_text, placed, quality_text, reason_text, setting_text, side_text, signal_word, switch_word, switched, told_text, transfer_text, what_text, will_word}
use Rattle.line_report.specs.declared.happening.Reason.{Reason}
use Rattle.line_report.specs.declared.happening.Reason.TheVariants as reasons
use Rattle.node_core.specs.declared.act.Act.{Act}
use Rattle.node_core.specs.declared.act.Act.TheVariants as acts
use Rattle.node_core.specs.declared.act.Deed.{Deed}
use Rattle.node_core.specs.declared.act.Deed.TheVariants as deeds
use Rattle.node_core.specs.declared.act.Setting.{Setting}
use Rattle.node_core.specs.declared.act.Setting.TheVariants as settings
use Rattle.node_core.specs.declared.act.Signal.{Signal}
use Rattle.node_core.specs.declared.act.Signal.TheVariants as signals
use Rattle.node_core.specs.declared.input.No.{No}
use Rattle.node_core.specs.declared.input.No.TheVariants as nos
use Rattle.machine_log.specs.Account.{IsProperAct}
use Rattle.machine_log.specs.Texts.{at_gap, deed_text, drive_text}
use Rattle.machine_log.proofs.Solid.{is_inner, join, inner_decimal, inner_id, inner_name}

abbrev pub inner : List ℕ → Type 0
inner text = list_all is_inner text ≡ true

-- two texts with a blank between
pub spaced : (a b : List ℕ) → inner a → inner b → inner (a ++ codes " " ++ b)
spaced a b one other = join is_inner (a ++ codes " ") b (join is_inner a (codes " ") one refl) other

-- ---- words

inner_side : (side : Side) → inner (side_text side)
inner_side Entry = refl
inner_side Exit = refl

pub inner_quality : (quality : Quality) → inner (quality_text quality)
inner_quality qualities.Unknown = refl
inner_quality qualities.Good = refl
inner_quality qualities.Failed = refl

inner_event : (event : SensorEvent) → inner (event_text event)
inner_event sensors.Begun = refl
inner_event sensors.Left = refl
inner_event sensors.Full = refl
inner_event sensors.Back = refl
inner_event sensors.Taken = refl

inner_word : (on : Bool) → inner (will_word on)
inner_word true = refl
inner_word false = refl

inner_switch : (on : Bool) → inner (switch_word on)
inner_switch true = refl
inner_switch false = refl

inner_line : (line : SegmentLine) → inner (line_word line)
inner_line segments.Ready = refl
inner_line segments.Available = refl
inner_line segments.Failed = refl

inner_signal : (signal : Signal) → inner (signal_word signal)
inner_signal signals.EntryAvailable = refl
inner_signal signals.EntryFailed = refl
inner_signal signals.ExitReady = refl

inner_numbered : (word : List ℕ) (number : ℕ) → inner word → inner (numbered word number)
inner_numbered word number w = spaced word (decimal number) w (inner_decimal number)

pub inner_board : (word : List ℕ) (number id : ℕ) → inner word → inner (of_board word number id)
inner_board word number id w = spaced (numbered word number) (id_text id) (inner_numbered word number w) (inner_id id)

inner_place : (lane number : ℕ) → inner (place_text lane number)
inner_place lane number = by (lane == 1) where
  by : (first : Bool) → inner (if first then decimal number else decimal number ++ codes "." ++ decimal lane)
  by true = inner_decimal number
  by false =
      join is_inner (decimal number ++ codes ".") (decimal lane)
      (join is_inner (decimal number) (codes ".") (inner_decimal number) refl) (inner_decimal lane)

inner_switched : (word : List ℕ) (machine : ℕ) (signal : List ℕ) (on : Bool) → inner word → inner signal
    → inner (switched word machine signal on)
inner_switched word machine signal on w s =
    spaced (numbered word machine ++ codes " " ++ signal) (switch_word on)
    (spaced (numbered word machine) signal (inner_numbered word machine w) s) (inner_switch on)

pub inner_drive : (machine : ℕ) (side : Side) (on : Bool) → inner (drive_text machine side on)
inner_drive machine side on = inner_switched (codes "drive") machine (side_text side) on refl (inner_side side)

inner_at_side : (word : List ℕ) (machine : ℕ) (side : Side) → inner word → inner (at_side word machine side)
inner_at_side word machine side w = spaced (numbered word machine) (side_text side) (inner_numbered word machine w) (inner_side side)

pub inner_gap : (word : List ℕ) (side : Side) (id : ℕ) → inner word → inner (at_gap word side id)
inner_gap word side id w = spaced (word ++ codes " " ++ side_text side) (id_text id) (spaced word (side_text side) w (inner_side side)) (inner_id id)

-- ---- messages

inner_ping : (ping : Option Ping) → inner (ping_text ping)
inner_ping None = refl
inner_ping (Some pings.Ask) = refl
inner_ping (Some pings.Answer) = refl

inner_transfer : (state : Transfer) → inner (transfer_text state)
inner_transfer transfers.NotStarted = refl
inner_transfer transfers.Incomplete = refl
inner_transfer transfers.Complete = refl

inner_id_or_none : (id : Option ℕ) → inner (id_or_none id)
inner_id_or_none None = refl
inner_id_or_none (Some id) = join is_inner (codes " ") (id_text id) refl (inner_id id)

inner_mark : (body : Horizontal) → inner (mark_of body)
inner_mark (bodies.CheckAlive ping id) = inner_ping ping
inner_mark (bodies.Notification code severity text) = join is_inner (codes " ") (decimal code.number) refl (inner_decimal code.number)
inner_mark (bodies.StopTransport state id) = inner_transfer state
inner_mark (bodies.TransportFinished state id) = inner_transfer state
inner_mark (bodies.SendBoardInfo info) = inner_id_or_none info.id
inner_mark (bodies.ServiceDescription service) = refl
inner_mark (bodies.BoardAvailable board) = refl
inner_mark bodies.RevokeBoardAvailable = refl
inner_mark (bodies.MachineReady quality) = refl
inner_mark bodies.RevokeMachineReady = refl
inner_mark (bodies.StartTransport id) = refl
inner_mark (bodies.BoardForecast info) = refl
inner_mark (bodies.QueryBoardInfo top bottom) = refl
inner_mark (bodies.Other name) = refl

inner_what : (body : Horizontal) → IsName (name_of body) → inner (what_text body)
inner_what body named = join is_inner (name_of body) (mark_of body) (inner_name (name_of body) named) (inner_mark body)

-- ---- the text of a breach: an end of a line in it is written as in an element

inner_byte : (b : ℕ) (t u : Bool) → (b == 10) ≡ t → inner (cond t (codes "&#10;") (cond u (codes "&#13;") (b ∷ [])))
inner_byte b true u e = refl
inner_byte b false true e = refl
inner_byte b false false e = and_from (is_inner b) true (ap not e) refl

inner_in_line : (text : List ℕ) → inner (in_line text)
inner_in_line [] = refl
inner_in_line (b ∷ bytes) = join is_inner (byte_in_line b) (in_line bytes) (inner_byte b (b == 10) (b == 13) refl) (inner_in_line bytes)

-- ---- acts

inner_setting : (machine : ℕ) (setting : Setting) → inner (setting_text machine setting)
inner_setting machine (settings.Will side on) = inner_at_side (will_word on) machine side (inner_word on)
inner_setting machine (settings.Level line on) = inner_switched (codes "level") machine (line_word line) on refl (inner_line line)
inner_setting machine (settings.Supervise on) = spaced (numbered (codes "supervise") machine) (switch_word on) (inner_numbered (codes "supervise") machine refl) (inner_switch on)

-- ---- what the supervisor is told

inner_passing : (how : Passing) → inner (passing_text how)
inner_passing passings.Transferred = refl
inner_passing passings.Loaded = refl
inner_passing passings.ByHand = refl

inner_passed : (machine : ℕ) (word : List ℕ) (passage : Passage) → inner word → inner (passed_text machine word passage)
inner_passed machine word passage w =
    let tells = numbered (codes "tells") machine in
    spaced (tells ++ codes " " ++ word ++ codes " " ++ id_text passage.id) (passing_text passage.how)
    (spaced (tells ++ codes " " ++ word) (id_text passage.id)
    (spaced tells word (inner_numbered (codes "tells") machine refl) w) (inner_id passage.id))
    (inner_passing passage.how)

inner_named : (machine : ℕ) (name : List ℕ) → IsName name → inner (numbered (codes "tells") machine ++ codes " " ++ name)
inner_named machine name named =
    spaced (numbered (codes "tells") machine) name (inner_numbered (codes "tells") machine refl) (inner_name name named)

inner_told : (machine : ℕ) (body : Vertical) → IsName (vertical_name_of body) → inner (told_text machine body)
inner_told machine (verticals.BoardArrived passage) named = inner_passed machine (codes "arrived") passage refl
inner_told machine (verticals.BoardDeparted passage) named = inner_passed machine (codes "departed") passage refl
inner_told machine (verticals.QueryWorkOrderInfo query question) named =
    inner_numbered (numbered (codes "asks") machine) query (inner_numbered (codes "asks") machine refl)
inner_told machine (verticals.SupervisoryServiceDescription system) named = inner_named machine _ named
inner_told machine (verticals.SendWorkOrderInfo query order batch product) named = inner_named machine _ named
inner_told machine (verticals.CheckAlive ping id) named = inner_named machine _ named
inner_told machine (verticals.Notification code severity text) named = inner_named machine _ named
inner_told machine (verticals.Other name) named = inner_named machine _ named

-- ---- all acts

-- an act that is no deed and no drive
pub inner_act : (machine : ℕ) (act : Act) → IsProperAct act → inner (act_text machine act)
inner_act machine (acts.Reads side event) proper = spaced (at_side (codes "reads") machine side) (event_text event) (inner_at_side (codes "reads") machine side refl) (inner_event event)
inner_act machine (acts.Hears side message) proper = spaced (at_side (codes "hears") machine side) (what_text message.body) (inner_at_side (codes "hears") machine side refl) (inner_what message.body proper)
inner_act machine (acts.Breaches side text) proper = spaced (at_side (codes "breach") machine side) (in_line text) (inner_at_side (codes "breach") machine side refl) (inner_in_line text)
inner_act machine (acts.Sends side message) proper = spaced (at_side (codes "sends") machine side) (what_text message.body) (inner_at_side (codes "sends") machine side refl) (inner_what message.body proper)
inner_act machine (acts.Closes side) proper = inner_at_side (codes "closes") machine side refl
inner_act machine (acts.Notices side) proper = inner_at_side (codes "notices") machine side refl
inner_act machine acts.Connects proper = inner_numbered (codes "connects") machine refl
inner_act machine (acts.Deed (deeds.Opens id)) proper = inner_board (codes "opens") machine id refl
inner_act machine (acts.Deed (deeds.Refuses id)) proper = inner_board (codes "refuses") machine id refl
inner_act machine (acts.Deed (deeds.Leaves id)) proper = inner_board (codes "leaves") machine id refl
inner_act machine (acts.Deed (deeds.Returns id)) proper = inner_board (codes "returns") machine id refl
inner_act machine (acts.Deed (deeds.Loses id)) proper = inner_board (codes "loses") machine id refl
inner_act machine (acts.Deed (deeds.Starts id)) proper = inner_board (codes "starts") (machine - 1) id refl
inner_act machine (acts.Deed (deeds.Settles id)) proper = inner_board (codes "settles") (machine - 1) id refl
inner_act machine (acts.Deed (deeds.Drops id)) proper = inner_board (codes "drops") (machine - 1) id refl
inner_act machine (acts.Drive side on) proper = refl
inner_act machine (acts.Signals signal on) proper =
    inner_switched (codes "signals") machine (signal_word signal) on refl (inner_signal signal)
inner_act machine (acts.Marks id quality) proper = spaced (of_board (codes "mark") machine id) (quality_text quality) (inner_board (codes "mark") machine id refl) (inner_quality quality)
inner_act machine (acts.Subs id place) proper = inner_numbered (of_board (codes "sub") machine id) place (inner_board (codes "sub") machine id refl)
inner_act machine (acts.Inserts id) proper = inner_board (codes "insert") machine id refl
inner_act machine (acts.Removes id) proper = inner_board (codes "remove") machine id refl
inner_act machine (acts.Replaces old new) proper = spaced (of_board (codes "replace") machine old) (id_text new) (inner_board (codes "replace") machine old refl) (inner_id new)
inner_act machine (acts.Tells message) proper = inner_told machine message.body proper
inner_act machine (acts.Answered query order) proper =
    spaced (numbered (numbered (codes "answered") machine) query) (in_line order)
    (inner_numbered (numbered (codes "answered") machine) query (inner_numbered (codes "answered") machine refl)) (inner_in_line order)
inner_act machine (acts.Sets setting) proper = inner_setting machine setting
inner_act machine (acts.Gives id to) proper =
    spaced (placed (codes "shift") 1 machine ++ codes " " ++ place_text to machine) (id_text id)
    (spaced (placed (codes "shift") 1 machine) (place_text to machine)
    (inner_numbered (codes "shift") machine refl) (inner_place to machine))
    (inner_id id)
inner_act machine (acts.Gets id) proper = refl

pub inner_deed : (deed : Deed) → inner (deed_text deed)
inner_deed (deeds.Opens id) = inner_gap (codes "opens") Exit id refl
inner_deed (deeds.Refuses id) = inner_gap (codes "refuses") Exit id refl
inner_deed (deeds.Leaves id) = inner_gap (codes "leaves") Exit id refl
inner_deed (deeds.Returns id) = inner_gap (codes "returns") Exit id refl
inner_deed (deeds.Loses id) = inner_gap (codes "loses") Exit id refl
inner_deed (deeds.Starts id) = inner_gap (codes "starts") Entry id refl
inner_deed (deeds.Settles id) = inner_gap (codes "settles") Entry id refl
inner_deed (deeds.Drops id) = inner_gap (codes "drops") Entry id refl

-- ---- answers to the panel

pub inner_why : (why : LineWhy) → inner (why_text why)
inner_why whys.LongLine = refl
inner_why whys.TooManyLines = refl
inner_why whys.NotText = refl
inner_why whys.UnknownWord = refl
inner_why whys.WrongCount = refl
inner_why whys.BadNumber = refl
inner_why whys.BadSide = refl
inner_why whys.BadId = refl
inner_why whys.BadWord = refl

inner_no : (why : No) → inner (no_text why)
inner_no nos.IntakeOpen = refl
inner_no nos.Full = refl
inner_no nos.IdsUsedUp = refl
inner_no nos.NotKept = refl
inner_no nos.SubsFull = refl
inner_no nos.Offered = refl
inner_no nos.Same = refl
inner_no nos.Connected = refl
inner_no nos.IntakeUnsettled = refl
inner_no nos.NotConnected = refl
inner_no nos.NoHandover = refl
inner_no nos.Bridge = refl
inner_no nos.NotABridge = refl
inner_no nos.NotStanding = refl
inner_no nos.NotSupported = refl
inner_no nos.NothingKept = refl
inner_no nos.NotSupervised = refl
inner_no nos.QueriesFull = refl
inner_no nos.UnknownQuery = refl
inner_no (nos.Answered query) = refl
inner_no nos.NoLane = refl
inner_no nos.WasOffered = refl

inner_move : (why : MoveNo) → inner (move_no_text why)
inner_move moves.NoGap = refl
inner_move moves.ExitDriveOff = refl
inner_move moves.GapNotFree = refl
inner_move moves.NothingThere = refl
inner_move moves.NotBegun = refl
inner_move moves.EntryDriveOff = refl
inner_move moves.NotLeft = refl
inner_move moves.ExitDriveOn = refl
inner_move moves.EntryDriveOn = refl

pub inner_reason : (reason : Reason) → inner (reason_text reason)
inner_reason (reasons.Node why) = inner_no why
inner_reason (reasons.Move why) = inner_move why
inner_reason reasons.NoSuchMachine = refl
inner_reason reasons.LineFull = refl
inner_reason reasons.NoLane = refl
inner_reason reasons.MachinesStand = refl
inner_reason reasons.NotHere = refl
inner_reason reasons.NoNeighbour = refl
inner_reason reasons.NothingInFlight = refl
inner_reason reasons.NothingToRead = refl
inner_reason reasons.Standing = refl
inner_reason reasons.TextInFlight = refl
inner_reason (reasons.Answered word) = join is_inner (codes "answered ") (in_line word) refl (inner_in_line word)

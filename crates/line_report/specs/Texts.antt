-- The report's text of what happened.
use Rattle.std.specs.Prelude.{ℕ, ◌+◌, ◌-◌, ◌++◌, ◌==◌, Bool, true, false, List, [], ◌∷◌, Option, Some, None, codes, decimal, flat_map, if◌then◌else◌}
use Rattle.line_base.specs.declared.states.Quality.{Quality}
use Rattle.line_base.specs.declared.states.Quality.TheVariants as qualities
use Rattle.line_base.specs.declared.states.SensorEvent.{SensorEvent}
use Rattle.line_base.specs.declared.states.SensorEvent.TheVariants as sensors
use Rattle.line_base.specs.declared.states.Side.{Side}
use Rattle.line_base.specs.declared.states.Side.TheVariants.{Entry, Exit}
use Rattle.line_base.specs.declared.states.Transfer.{Transfer}
use Rattle.line_base.specs.declared.states.Transfer.TheVariants as transfers
use Rattle.board_record.specs.BoardId.{id_text}
use Rattle.hermes_horizontal.specs.Parts.{name_of}
use Rattle.hermes_horizontal.specs.declared.message.Horizontal.{Horizontal}
use Rattle.hermes_horizontal.specs.declared.message.Horizontal.TheVariants as bodies
use Rattle.hermes_horizontal.specs.declared.message.Ping.{Ping}
use Rattle.hermes_horizontal.specs.declared.message.Ping.TheVariants as pings
use Rattle.hermes_vertical.specs.Parts.{name_of as vertical_name_of}
use Rattle.hermes_vertical.specs.declared.message.Passage.{Passage}
use Rattle.hermes_vertical.specs.declared.message.Passing.{Passing}
use Rattle.hermes_vertical.specs.declared.message.Passing.TheVariants as passings
use Rattle.hermes_vertical.specs.declared.message.Vertical.{Vertical}
use Rattle.hermes_vertical.specs.declared.message.Vertical.TheVariants as vertical
use Rattle.smema_bridge.specs.declared.line.SegmentLine.{SegmentLine}
use Rattle.smema_bridge.specs.declared.line.SegmentLine.TheVariants as lines
use Rattle.line_world.specs.Moves.{move_word, no_text as move_no_text}
use Rattle.node_core.specs.declared.act.Act.{Act}
use Rattle.node_core.specs.declared.act.Act.TheVariants as acts
use Rattle.node_core.specs.declared.act.Deed.{Deed}
use Rattle.node_core.specs.declared.act.Deed.TheVariants as deeds
use Rattle.node_core.specs.declared.act.Setting.{Setting}
use Rattle.node_core.specs.declared.act.Signal.{Signal}
use Rattle.node_core.specs.declared.act.Signal.TheVariants as signals
use Rattle.node_core.specs.declared.act.Setting.TheVariants as settings
use Rattle.node_core.specs.declared.input.No.{No}
use Rattle.node_core.specs.declared.input.No.TheVariants as nos
use Rattle.line_report.specs.declared.happening.Happening.{Happening}
use Rattle.line_report.specs.declared.happening.Happening.TheVariants as happenings
use Rattle.line_report.specs.declared.happening.LaneHappening.{LaneHappening}
use Rattle.line_report.specs.declared.happening.Reason.{Reason}
use Rattle.line_report.specs.declared.happening.Reason.TheVariants as reasons
use Rattle.line_report.specs.declared.summary.Summary.{Summary}

-- ---- texts of others

-- a text within a line: an end of a line in it is written as in an element, so that no text makes
-- a line of its own
abbrev pub byte_in_line : ℕ → List ℕ
byte_in_line byte =
    if byte == 10 then codes "&#10;" else (if byte == 13 then codes "&#13;" else byte ∷ [])

abbrev pub in_line : List ℕ → List ℕ
in_line text = flat_map byte_in_line text

-- ---- reasons

abbrev pub no_text : No → List ℕ
no_text nos.IntakeOpen = codes "intake open"
no_text nos.Full = codes "full"
no_text nos.IdsUsedUp = codes "ids used up"
no_text nos.NotKept = codes "not kept"
no_text nos.Offered = codes "offered"
no_text nos.Same = codes "same"
no_text nos.Connected = codes "connected"
no_text nos.IntakeUnsettled = codes "intake unsettled"
no_text nos.NotConnected = codes "not connected"
no_text nos.NoHandover = codes "no handover"
no_text nos.Bridge = codes "bridge"
no_text nos.NotABridge = codes "not a bridge"
no_text nos.NotStanding = codes "not standing"
no_text nos.NotSupported = codes "not supported"
no_text nos.NothingKept = codes "nothing kept"
no_text nos.NotSupervised = codes "not supervised"
no_text nos.QueriesFull = codes "queries full"
no_text nos.UnknownQuery = codes "unknown query"
no_text (nos.Answered query) = codes "answered"
no_text nos.SubsFull = codes "subs full"
no_text nos.NoLane = codes "no lane"
no_text nos.WasOffered = codes "was offered"

abbrev pub reason_text : Reason → List ℕ
reason_text (reasons.Node why) = no_text why
reason_text (reasons.Move why) = move_no_text why
reason_text reasons.NoSuchMachine = codes "no such machine"
reason_text reasons.LineFull = codes "line full"
reason_text reasons.NoLane = codes "no lane"
reason_text reasons.MachinesStand = codes "machines stand"
reason_text reasons.NotHere = codes "not here"
reason_text reasons.NoNeighbour = codes "no neighbour"
reason_text reasons.NothingInFlight = codes "nothing in flight"
reason_text reasons.NothingToRead = codes "nothing to read"
reason_text reasons.Standing = codes "standing"
reason_text reasons.TextInFlight = codes "text in flight"
reason_text (reasons.Answered word) = codes "answered " ++ in_line word

-- ---- words

abbrev pub quality_text : Quality → List ℕ
quality_text qualities.Unknown = codes "unknown"
quality_text qualities.Good = codes "good"
quality_text qualities.Failed = codes "failed"

abbrev pub side_text : Side → List ℕ
side_text Entry = codes "in"
side_text Exit = codes "out"

abbrev pub event_text : SensorEvent → List ℕ
event_text sensors.Begun = codes "Begun"
event_text sensors.Left = codes "Left"
event_text sensors.Full = codes "Full"
event_text sensors.Back = codes "Back"
event_text sensors.Taken = codes "Taken"

-- ---- what a message is: its name, and behind it what tells it from others of its name

abbrev pub ping_text : Option Ping → List ℕ
ping_text None = []
ping_text (Some pings.Ask) = codes " 1"
ping_text (Some pings.Answer) = codes " 2"

abbrev pub transfer_text : Transfer → List ℕ
transfer_text transfers.NotStarted = codes " 1"
transfer_text transfers.Incomplete = codes " 2"
transfer_text transfers.Complete = codes " 3"

abbrev pub id_or_none : Option ℕ → List ℕ
id_or_none None = codes " none"
id_or_none (Some id) = codes " " ++ id_text id

-- the type of a CheckAlive that has one, the code of a Notification, the state of StopTransport
-- and TransportFinished, the id of a SendBoardInfo
abbrev pub mark_of : Horizontal → List ℕ
mark_of (bodies.CheckAlive ping id) = ping_text ping
mark_of (bodies.Notification code severity text) = codes " " ++ decimal code.number
mark_of (bodies.StopTransport state id) = transfer_text state
mark_of (bodies.TransportFinished state id) = transfer_text state
mark_of (bodies.SendBoardInfo info) = id_or_none info.id
mark_of _ = []

abbrev pub what_text : Horizontal → List ℕ
what_text body = name_of body ++ mark_of body

-- ---- places

-- a place word: the number of a machine or a gap, and behind a point the lane from lane 2 on
abbrev pub place_text : ℕ → ℕ → List ℕ
place_text lane number =
    if lane == 1 then decimal number else decimal number ++ codes "." ++ decimal lane

-- a word, and a number behind it
abbrev pub numbered : List ℕ → ℕ → List ℕ
numbered word number = word ++ codes " " ++ decimal number

-- a word, and a place word behind it
abbrev pub placed : List ℕ → ℕ → ℕ → List ℕ
placed word lane number = word ++ codes " " ++ place_text lane number

-- the same, and an id behind them
abbrev pub board_on : List ℕ → ℕ → ℕ → ℕ → List ℕ
board_on word lane number id = placed word lane number ++ codes " " ++ id_text id

-- the same, and a side behind them
abbrev pub side_on : List ℕ → ℕ → ℕ → Side → List ℕ
side_on word lane machine side = placed word lane machine ++ codes " " ++ side_text side

-- ---- acts

-- the gap of a deed: that behind the machine for a board on its way out, that before it for one on
-- its way in
abbrev pub deed_on : ℕ → ℕ → Deed → List ℕ
deed_on lane machine (deeds.Opens id) = board_on (codes "opens") lane machine id
deed_on lane machine (deeds.Refuses id) = board_on (codes "refuses") lane machine id
deed_on lane machine (deeds.Leaves id) = board_on (codes "leaves") lane machine id
deed_on lane machine (deeds.Returns id) = board_on (codes "returns") lane machine id
deed_on lane machine (deeds.Loses id) = board_on (codes "loses") lane machine id
deed_on lane machine (deeds.Starts id) = board_on (codes "starts") lane (machine - 1) id
deed_on lane machine (deeds.Settles id) = board_on (codes "settles") lane (machine - 1) id
deed_on lane machine (deeds.Drops id) = board_on (codes "drops") lane (machine - 1) id

abbrev pub will_word : Bool → List ℕ
will_word true = codes "go"
will_word false = codes "hold"

abbrev pub switch_word : Bool → List ℕ
switch_word true = codes "on"
switch_word false = codes "off"

-- a signal of a bridge's segment, and one of the bridge's own
abbrev pub line_word : SegmentLine → List ℕ
line_word lines.Ready = codes "ready"
line_word lines.Available = codes "available"
line_word lines.Failed = codes "failed"

abbrev pub signal_word : Signal → List ℕ
signal_word signals.EntryAvailable = codes "entry-available"
signal_word signals.EntryFailed = codes "entry-failed"
signal_word signals.ExitReady = codes "exit-ready"

-- a word, a machine's place, a signal, and whether it is on
abbrev pub switched_on : List ℕ → ℕ → ℕ → List ℕ → Bool → List ℕ
switched_on word lane machine signal on =
    placed word lane machine ++ codes " " ++ signal ++ codes " " ++ switch_word on

-- a supervisor is of the machine, and of no lane
abbrev pub setting_on : ℕ → ℕ → Setting → List ℕ
setting_on lane machine (settings.Will side on) = side_on (will_word on) lane machine side
setting_on lane machine (settings.Level line on) =
    switched_on (codes "level") lane machine (line_word line) on
setting_on lane machine (settings.Supervise on) =
    numbered (codes "supervise") machine ++ codes " " ++ switch_word on

-- how a board came or went, by its number in the standard's channel
abbrev pub passing_text : Passing → List ℕ
passing_text passings.Transferred = codes "1"
passing_text passings.Loaded = codes "2"
passing_text passings.ByHand = codes "3"

-- a machine's number, whether a board came or went, and which
abbrev pub passed_text : ℕ → List ℕ → Passage → List ℕ
passed_text machine word passage =
    numbered (codes "tells") machine ++ codes " " ++ word ++ codes " " ++ id_text passage.id
    ++ codes " " ++ passing_text passage.how

-- what a supervisor is told of a board, or asked by a number; a machine tells it nothing else
abbrev pub told_text : ℕ → Vertical → List ℕ
told_text machine (vertical.BoardArrived passage) = passed_text machine (codes "arrived") passage
told_text machine (vertical.BoardDeparted passage) = passed_text machine (codes "departed") passage
told_text machine (vertical.QueryWorkOrderInfo query question) =
    numbered (numbered (codes "asks") machine) query
told_text machine body = numbered (codes "tells") machine ++ codes " " ++ vertical_name_of body

-- a drive has no text: no happening is one. Nor has the coming of a board from another lane, which is
-- told as the shift of the lane that gives it
abbrev pub act_on : ℕ → ℕ → Act → List ℕ
act_on lane machine (acts.Reads side event) =
    side_on (codes "reads") lane machine side ++ codes " " ++ event_text event
act_on lane machine (acts.Hears side message) =
    side_on (codes "hears") lane machine side ++ codes " " ++ what_text message.body
act_on lane machine (acts.Breaches side text) =
    side_on (codes "breach") lane machine side ++ codes " " ++ in_line text
act_on lane machine (acts.Sends side message) =
    side_on (codes "sends") lane machine side ++ codes " " ++ what_text message.body
act_on lane machine (acts.Closes side) = side_on (codes "closes") lane machine side
act_on lane machine (acts.Notices side) = side_on (codes "notices") lane machine side
act_on lane machine acts.Connects = placed (codes "connects") lane machine
act_on lane machine (acts.Deed deed) = deed_on lane machine deed
act_on lane machine (acts.Drive side on) = []
act_on lane machine (acts.Signals signal on) =
    switched_on (codes "signals") lane machine (signal_word signal) on
act_on lane machine (acts.Marks id quality) =
    board_on (codes "mark") lane machine id ++ codes " " ++ quality_text quality
act_on lane machine (acts.Subs id place) =
    numbered (board_on (codes "sub") lane machine id) place
act_on lane machine (acts.Inserts id) = board_on (codes "insert") lane machine id
act_on lane machine (acts.Removes id) = board_on (codes "remove") lane machine id
act_on lane machine (acts.Replaces old new) =
    board_on (codes "replace") lane machine old ++ codes " " ++ id_text new
act_on lane machine (acts.Tells message) = told_text machine message.body
act_on lane machine (acts.Answered query order) =
    numbered (numbered (codes "answered") machine) query ++ codes " " ++ in_line order
act_on lane machine (acts.Sets setting) = setting_on lane machine setting
act_on lane machine (acts.Gives id to) =
    placed (codes "shift") lane machine ++ codes " " ++ place_text to machine
    ++ codes " " ++ id_text id
act_on lane machine (acts.Gets id) = []

-- ---- happenings

-- the gap between two neighbours, by their places
abbrev pub between_on : ℕ → ℕ → List ℕ
between_on lane gap = place_text lane gap ++ codes "-" ++ place_text lane (gap + 1)

-- what is of the machine or of the line names no lane
abbrev pub happening_on : ℕ → Happening → List ℕ
happening_on lane (happenings.Lanes count) = numbered (codes "lanes") count
happening_on lane (happenings.Machine number capacity) =
    numbered (numbered (codes "machine") number) capacity
happening_on lane (happenings.Bridge number capacity) =
    numbered (numbered (codes "bridge") number) capacity
happening_on lane (happenings.Done machine act) = act_on lane machine act
happening_on lane (happenings.Cut gap) = placed (codes "cut") lane gap
happening_on lane (happenings.Stop machine) = numbered (codes "stop") machine
happening_on lane (happenings.Spoils machine side) = side_on (codes "spoils") lane machine side
happening_on lane (happenings.Moved gap step) =
    placed (codes "move") lane gap ++ codes " " ++ move_word step
happening_on lane (happenings.Lie machine sensed) =
    side_on (codes "lie") lane machine sensed.side ++ codes " " ++ event_text sensed.event
happening_on lane (happenings.Unseen machine side) =
    codes "unseen " ++ side_text side ++ codes " " ++ place_text lane machine
happening_on lane happenings.Unvouched = codes "unvouched"
happening_on lane (happenings.No reason) = codes "no: " ++ reason_text reason
happening_on lane (happenings.Shown machine id quality) =
    board_on (codes "show") lane machine id ++ codes " " ++ quality_text quality
happening_on lane (happenings.ShownBetween gap id) =
    codes "show " ++ between_on lane gap ++ codes " " ++ id_text id
happening_on lane (happenings.With machine id) = board_on (codes "with") lane machine id
happening_on lane (happenings.Between gap id) = board_on (codes "between") lane gap id
happening_on lane (happenings.Gone id) = codes "gone " ++ id_text id

-- one line of the report
abbrev pub entry_on : ℕ → LaneHappening → List ℕ
entry_on number happening =
    decimal number ++ codes " " ++ happening_on happening.lane happening.what ++ codes "\n"

-- ---- the same on lane 1

abbrev pub of_board : List ℕ → ℕ → ℕ → List ℕ
of_board word number id = board_on word 1 number id

abbrev pub at_side : List ℕ → ℕ → Side → List ℕ
at_side word machine side = side_on word 1 machine side

abbrev pub switched : List ℕ → ℕ → List ℕ → Bool → List ℕ
switched word machine signal on = switched_on word 1 machine signal on

abbrev pub deed_text : ℕ → Deed → List ℕ
deed_text machine deed = deed_on 1 machine deed

abbrev pub setting_text : ℕ → Setting → List ℕ
setting_text machine setting = setting_on 1 machine setting

abbrev pub act_text : ℕ → Act → List ℕ
act_text machine act = act_on 1 machine act

abbrev pub between_text : ℕ → List ℕ
between_text gap = between_on 1 gap

abbrev pub happening_text : Happening → List ℕ
happening_text happening = happening_on 1 happening

abbrev pub entry : ℕ → Happening → List ℕ
entry number happening = entry_on number (record { lane = 1; what = happening })

-- ---- the report's last line

abbrev pub unvouched_text : Option ℕ → List ℕ
unvouched_text None = []
unvouched_text (Some line) = codes " unvouched=" ++ decimal line

abbrev pub summary_text : Summary → List ℕ
summary_text summary =
    codes "end lines=" ++ decimal summary.lines ++ codes " boards=" ++ decimal summary.boards
    ++ codes " opened=" ++ decimal summary.opened ++ codes " settled=" ++ decimal summary.settled
    ++ unvouched_text summary.unvouched ++ codes "\n"

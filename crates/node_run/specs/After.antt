-- What an answer of the ports does to a run.
use Rattle.std.specs.Prelude.{◌≡◌, ℕ, ℤ, Bool, true, false, List, [], Option, None, Some, drop}
use Rattle.std.specs.Borrow.{Bor}
use Rattle.line_base.specs.declared.states.Side.{Side}
use Rattle.line_base.specs.declared.states.Side.TheVariants.{Entry, Exit}
use Rattle.line_outside.specs.declared.answer.GotBytes.{GotBytes}
use Rattle.line_outside.specs.declared.answer.GotBytes.TheVariants as founds
use Rattle.line_outside.specs.declared.ports.Got.{Got}
use Rattle.line_outside.specs.declared.ports.Got.TheVariants as gots
use Rattle.line_outside.specs.declared.ports.Opened.{Opened}
use Rattle.line_outside.specs.declared.ports.Opened.TheVariants as opens
use Rattle.line_outside.specs.declared.ports.Sent.{Sent}
use Rattle.line_outside.specs.declared.ports.Sent.TheVariants as sents
use Rattle.line_outside.specs.declared.way.Address.{Address}
use Rattle.line_outside.specs.declared.way.Way.{Way}
use Rattle.line_outside.specs.declared.way.Way.TheVariants as ways
use Rattle.node_core.specs.May.{may_of}
use Rattle.node_core.specs.Sides.{is_open}
use Rattle.node_core.specs.declared.input.Input.TheVariants as inputs
use Rattle.node_run.specs.declared.rules.Rules.{Rules}
use Rattle.supervised_end.specs.Channel.{no_session}
use Rattle.node_run.specs.Configuring.{config_text, configured_already}
use Rattle.node_run.specs.Held.{Finding, HeldValue, holds, is_more, looks_behind, nothing_held}
use Rattle.supervised_end.specs.Said.{connected_already, text_of}
use Rattle.node_run.specs.Hearing.{Unsupervised}
use Rattle.node_run.specs.State.{RunState, at_rest, way_at, with_way, with_wire}
use Rattle.node_run.specs.Next.{moved_on}
use Rattle.node_run.specs.Steps.{Takes, MeetsSecond}
use Rattle.node_run.specs.Lines.{Tells}
use Rattle.machine_log.specs.Texts.{drives_lines}
use Rattle.node_run.specs.declared.status.NodeStatus.TheVariants as statuses
use Rattle.node_run.specs.declared.way_state.Wire.{Wire}
use Rattle.node_run.specs.declared.way_state.Wire.TheVariants as wires

-- what a poll found, with the bytes that it gave
abbrev pub found_of : Got → List ℕ → GotBytes
found_of gots.Arrived bytes = founds.Arrived
found_of gots.Second bytes = founds.Second
found_of (gots.Bytes n) bytes = founds.Bytes bytes
found_of gots.NotYet bytes = founds.NotYet
found_of gots.Closed bytes = founds.Closed
found_of gots.Failed bytes = founds.Failed

-- ---- listening

abbrev pub after_listen : Address → Opened → RunState → RunState
after_listen address opens.Done s = moved_on s
after_listen address opens.Failed s =
    record (moved_on s) { ended = Some (statuses.ListenFault address) }

-- ---- what a poll of the panel found

-- a panel that connects is told what each drive is, where the drives are told
abbrev pub greeting : Rules → RunState → List ℕ
greeting rules s = drives_lines rules.panel.drives s.turn rules.number s.drives

abbrev pub PanelArrives : Wire → Rules → RunState → RunState → List ℕ → Type 0
PanelArrives wires.Rests rules s t log =
    Tells (greeting rules s) (with_wire ways.Panel wires.Stands s) t log
PanelArrives wire rules s t log = (t ≡ s) × (log ≡ [])

-- a second panel connection is closed without text
abbrev pub panel_second : Wire → RunState → RunState
panel_second wires.Stands s = record s { refusal = Some (record { way = ways.Panel; text = [] }) }
panel_second wire s = s

abbrev pub panel_bytes : Wire → List ℕ → RunState → RunState
panel_bytes wires.Stands bytes s = record s { rest = bytes }
panel_bytes wire bytes s = s

abbrev pub panel_closed : Wire → RunState → RunState
panel_closed wires.Stands s = with_wire ways.Panel wires.Breaks s
panel_closed wire s = s

abbrev pub AfterPanel : Rules → GotBytes → RunState → RunState → List ℕ → Type 0
AfterPanel rules founds.Arrived s t log = PanelArrives s.panel.wire rules s t log
AfterPanel rules founds.Second s t log = (t ≡ panel_second s.panel.wire s) × (log ≡ [])
AfterPanel rules (founds.Bytes bytes) s t log =
    (t ≡ panel_bytes s.panel.wire bytes s) × (log ≡ [])
AfterPanel rules founds.NotYet s t log = (t ≡ s) × (log ≡ [])
AfterPanel rules founds.Closed s t log = (t ≡ panel_closed s.panel.wire s) × (log ≡ [])
AfterPanel rules founds.Failed s t log = (t ≡ panel_closed s.panel.wire s) × (log ≡ [])

-- ---- what a poll of the supervisor's way found

-- a session begins with the connection
abbrev pub supervisory_arrived : Wire → RunState → RunState
supervisory_arrived wires.Rests s =
    record (with_wire ways.Supervisory wires.Stands s) { channel = no_session }
supervisory_arrived wire s = s

abbrev pub supervisory_second : Wire → ℤ → RunState → RunState
supervisory_second wires.Stands moment s =
    record s {
      refusal = Some
          (record { way = ways.Supervisory; text = text_of moment connected_already });
    }
supervisory_second wire moment s = s

-- bytes are heard message by message
abbrev pub supervisory_bytes : Wire → List ℕ → RunState → RunState
supervisory_bytes wires.Stands bytes s =
    record s { channel = record s.channel { piece = bytes; hears = true } }
supervisory_bytes wire bytes s = s

abbrev pub supervisory_closed : Wire → RunState → RunState
supervisory_closed wires.Stands s = with_wire ways.Supervisory wires.Breaks s
supervisory_closed wire s = s

abbrev pub after_supervisory : ℤ → GotBytes → RunState → RunState
after_supervisory moment founds.Arrived s = supervisory_arrived s.supervisory.wire s
after_supervisory moment founds.Second s = supervisory_second s.supervisory.wire moment s
after_supervisory moment (founds.Bytes bytes) s = supervisory_bytes s.supervisory.wire bytes s
after_supervisory moment founds.NotYet s = s
after_supervisory moment founds.Closed s = supervisory_closed s.supervisory.wire s
after_supervisory moment founds.Failed s = supervisory_closed s.supervisory.wire s

-- ---- what a poll of the configuration way found

abbrev pub configuration_arrived : Wire → RunState → RunState
configuration_arrived wires.Rests s =
    record (with_wire ways.Configuration wires.Stands s) { config = no_session }
configuration_arrived wire s = s

abbrev pub configuration_second : Wire → ℤ → RunState → RunState
configuration_second wires.Stands moment s =
    record s {
      refusal = Some
          (record { way = ways.Configuration; text = config_text moment configured_already });
    }
configuration_second wire moment s = s

abbrev pub configuration_bytes : Wire → List ℕ → RunState → RunState
configuration_bytes wires.Stands bytes s =
    record s { config = record s.config { piece = bytes; hears = true } }
configuration_bytes wire bytes s = s

abbrev pub configuration_closed : Wire → RunState → RunState
configuration_closed wires.Stands s = with_wire ways.Configuration wires.Breaks s
configuration_closed wire s = s

abbrev pub after_configuration : ℤ → GotBytes → RunState → RunState
after_configuration moment founds.Arrived s = configuration_arrived s.configuration.wire s
after_configuration moment founds.Second s =
    configuration_second s.configuration.wire moment s
after_configuration moment (founds.Bytes bytes) s =
    configuration_bytes s.configuration.wire bytes s
after_configuration moment founds.NotYet s = s
after_configuration moment founds.Closed s = configuration_closed s.configuration.wire s
after_configuration moment founds.Failed s = configuration_closed s.configuration.wire s

-- ---- what a poll of a neighbour's way found: a connection is taken at once; bytes, and the end of
-- a connection, wait until the panel was polled again

abbrev pub with_held : HeldValue → RunState → RunState
with_held held s = record s { held = held }

abbrev pub AfterUpstream : Rules → ℤ → GotBytes → RunState → RunState → List ℕ → Type 0
AfterUpstream rules moment founds.Arrived s t log =
    Takes (may_of s.node inputs.Connect) rules moment inputs.Connect
    (with_wire ways.Upstream wires.Stands s) s t log
AfterUpstream rules moment founds.Second s t log = (t ≡ s) × (log ≡ [])
AfterUpstream rules moment (founds.Bytes bytes) s t log =
    (t ≡ with_held (holds Entry (Some bytes)) s) × (log ≡ [])
AfterUpstream rules moment founds.NotYet s t log = (t ≡ s) × (log ≡ [])
AfterUpstream rules moment founds.Closed s t log = (t ≡ with_held (holds Entry None) s) × (log ≡ [])
AfterUpstream rules moment founds.Failed s t log = (t ≡ with_held (holds Entry None) s) × (log ≡ [])

abbrev pub AfterDownstream : Rules → ℤ → GotBytes → RunState → RunState → List ℕ → Type 0
AfterDownstream rules moment founds.Arrived s t log =
    Takes (may_of s.node inputs.Accepted) rules moment inputs.Accepted
    (with_wire ways.Downstream wires.Stands s) s t log
AfterDownstream rules moment founds.Second s t log =
    MeetsSecond (may_of s.node inputs.Second) rules moment inputs.Second s t log
AfterDownstream rules moment (founds.Bytes bytes) s t log =
    (t ≡ with_held (holds Exit (Some bytes)) s) × (log ≡ [])
AfterDownstream rules moment founds.NotYet s t log = (t ≡ s) × (log ≡ [])
AfterDownstream rules moment founds.Closed s t log =
    (t ≡ with_held (holds Exit None) s) × (log ≡ [])
AfterDownstream rules moment founds.Failed s t log =
    (t ≡ with_held (holds Exit None) s) × (log ≡ [])

abbrev pub AfterPoll : Rules → ℤ → Way → GotBytes → RunState → RunState → List ℕ → Type 0
AfterPoll rules moment ways.Panel got s t log = AfterPanel rules got s t log
AfterPoll rules moment ways.Upstream got s t log = AfterUpstream rules moment got s t log
AfterPoll rules moment ways.Downstream got s t log = AfterDownstream rules moment got s t log
AfterPoll rules moment ways.Supervisory got s t log =
    (t ≡ after_supervisory moment got s) × (log ≡ [])
AfterPoll rules moment ways.Configuration got s t log =
    (t ≡ after_configuration moment got s) × (log ≡ [])

-- ---- the panel is polled again, and then what was found is taken

abbrev pub looked : GotBytes → RunState → RunState
looked got s =
    with_held (record s.held { looks = looks_behind (is_more got) s.held.looks }) s

abbrev pub AfterLook : Rules → GotBytes → RunState → RunState → List ℕ → Type 0
AfterLook rules got s t log = AfterPanel rules got (looked got s) t log

-- bytes are heard at a side
pub record HearsBytes (rules : Rules) (moment : ℤ) (side : Side) (bytes : List ℕ) (s t : RunState)
    (log : List ℕ) : Type 0 where
  pub piece : Bor (List ℕ)
  pub same : piece.now ≡ bytes
  pub takes : Takes (may_of s.node (inputs.Bytes side piece)) rules moment
      (inputs.Bytes side piece) s s t log

abbrev pub way_of : Side → Way
way_of Entry = ways.Upstream
way_of Exit = ways.Downstream

-- a close is seen where there is a connection
abbrev pub broken : Way → Bool → RunState → RunState
broken way true s = with_wire way wires.Breaks s
broken way false s = s

abbrev pub TakesFound : Option (List ℕ) → Side → Rules → ℤ → RunState → RunState → List ℕ → Type 0
TakesFound (Some bytes) side rules moment s t log = HearsBytes rules moment side bytes s t log
TakesFound None side rules moment s t log =
    (t ≡ broken (way_of side) (is_open side s.node.lane.body) s) × (log ≡ [])

abbrev pub TakesFinding : Option Finding → Rules → ℤ → RunState → RunState → List ℕ → Type 0
TakesFinding None rules moment s t log = (t ≡ s) × (log ≡ [])
TakesFinding (Some finding) rules moment s t log =
    TakesFound finding.bytes finding.side rules moment s t log

-- nothing is held any more
abbrev pub TakesHeld : Rules → ℤ → RunState → RunState → List ℕ → Type 0
TakesHeld rules moment s t log =
    TakesFinding s.held.finding rules moment (with_held nothing_held s) t log

-- ---- sending and closing

abbrev pub after_send : Way → Sent → RunState → RunState
after_send way (sents.Took n) s =
    with_way way (record (way_at way s) { unsent = drop n (way_at way s).unsent }) s
after_send way sents.NotYet s = s
after_send way sents.Closed s = with_wire way wires.Breaks s
after_send way sents.Failed s = with_wire way wires.Breaks s

-- the panel's unfinished line goes with its connection, and so do the lines that follow in the
-- same answer
abbrev pub panel_gone : RunState → RunState
panel_gone s = record s { panel = at_rest; line = []; drops = false; rest = [] }

-- what else came on the configuration way is dropped
abbrev pub configuration_gone : RunState → RunState
configuration_gone s = record s { configuration = at_rest; config = no_session }

-- a way is closed, its text is dropped, and the machine notices where its side has a connection
abbrev pub AfterClose : Rules → ℤ → Way → RunState → RunState → List ℕ → Type 0
AfterClose rules moment ways.Panel s t log = (t ≡ panel_gone s) × (log ≡ [])
AfterClose rules moment ways.Upstream s t log =
    let closed = record s { upstream = at_rest } in
    Takes (may_of s.node (inputs.Notice Entry)) rules moment
    (inputs.Notice Entry) closed closed t log
AfterClose rules moment ways.Downstream s t log =
    let closed = record s { downstream = at_rest } in
    Takes (may_of s.node (inputs.Notice Exit)) rules moment
    (inputs.Notice Exit) closed closed t log
AfterClose rules moment ways.Supervisory s t log =
    Unsupervised rules moment (record s { supervisory = at_rest; channel = no_session }) t log
AfterClose rules moment ways.Configuration s t log = (t ≡ configuration_gone s) × (log ≡ [])

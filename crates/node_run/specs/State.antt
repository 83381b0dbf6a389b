-- The state of a run: the machine, its ways, the bytes of those that are heard message by message,
-- where its neighbours are, the drives, the panel's text, what was found of a neighbour and isn't
-- taken yet, its machine's last step, and what comes next.
use Rattle.std.specs.Prelude.{ℕ, ◌++◌, Bool, false, not, List, [], Option, None, Some}
use Rattle.line_outside.specs.declared.way.Way.{Way}
use Rattle.line_outside.specs.declared.way.Way.TheVariants as ways
use Rattle.config_service.specs.declared.config.Resets.{Resets}
use Rattle.config_service.specs.declared.message.Settings.{Settings}
use Rattle.book_entry.specs.declared.entry.Entry.{Entry}
use Rattle.node_core.specs.Node.{NodeState}
use Rattle.supervised_end.specs.Channel.{ChannelValue, no_session}
use Rattle.machine_log.specs.Drives.{all_off}
use Rattle.node_run.specs.Held.{HeldValue, nothing_held}
use Rattle.machine_log.specs.declared.drives.Drives.{Drives}
use Rattle.node_run.specs.declared.rules.Rules.{Rules}
use Rattle.node_run.specs.declared.status.NodeStatus.{NodeStatus}
use Rattle.node_run.specs.declared.place.Place.{Place}
use Rattle.node_run.specs.declared.place.Place.TheVariants as places
use Rattle.node_run.specs.declared.way_state.Wire.{Wire}
use Rattle.node_run.specs.declared.way_state.Wire.TheVariants as wires

-- a way: how its connection stands, and the text that waits to be sent
pub record WayValue : Type 0 where
  pub wire : Wire
  pub unsent : List ℕ

-- a text for a second connection that is to be refused
pub record Refusal : Type 0 where
  pub way : Way
  pub text : List ℕ

-- the last step of the machine, if it made one. The flag turns at each
pub record LastStepValue : Type 0 where
  pub entry : Option Entry
  pub odd : Bool

abbrev pub no_step : LastStepValue
no_step = record { entry = None; odd = false }

abbrev pub one_more : Entry → LastStepValue → LastStepValue
one_more entry step = record { entry = Some entry; odd = not step.odd }

-- where the neighbours are (`settings`), a Set that waits for its listen (`tries`), and the sides
-- that are to be reset (`resets`), are what the configuration service changes
pub record RunState : Type 0 where
  pub node : NodeState
  pub panel : WayValue
  pub upstream : WayValue
  pub downstream : WayValue
  pub supervisory : WayValue
  pub configuration : WayValue
  pub channel : ChannelValue
  pub config : ChannelValue
  pub settings : Settings
  pub tries : Option Settings
  pub resets : Resets
  pub drives : Drives
  pub step : LastStepValue
  pub line : List ℕ
  pub drops : Bool
  pub rest : List ℕ
  pub held : HeldValue
  pub refusal : Option Refusal
  pub asks : Bool
  pub place : Place
  pub turn : ℕ
  pub ended : Option NodeStatus

-- a run as it is seen: what it goes by, its state, and what the present move has told
pub record RunView : Type 0 where
  pub rules : Rules
  pub state : RunState
  pub told : List ℕ

-- no connection, and nothing to send
abbrev pub at_rest : WayValue
at_rest = record { wire = wires.Rests; unsent = [] }

-- more text for the panel
abbrev pub echoed : List ℕ → RunState → RunState
echoed text s = record s { panel = record s.panel { unsent = s.panel.unsent ++ text } }

abbrev pub no_resets : Resets
no_resets = record { upstream = false; downstream = false }

-- a run begins with a machine, whose neighbours are these, before its first turn
abbrev pub started : Settings → NodeState → RunState
started settings node = record {
  node = node;
  panel = at_rest;
  upstream = at_rest;
  downstream = at_rest;
  supervisory = at_rest;
  configuration = at_rest;
  channel = no_session;
  config = no_session;
  settings = settings;
  tries = None;
  resets = no_resets;
  drives = all_off;
  step = no_step;
  line = [];
  drops = false;
  rest = [];
  held = nothing_held;
  refusal = None;
  asks = false;
  place = places.ListenPanel;
  turn = 1;
  ended = None;
}

-- or with one that begins again from its book, whose drives are these. ITS FIRST TURN IS TURN 0
abbrev pub resumed : Settings → NodeState → Drives → RunState
resumed settings node drives = record (started settings node) { drives = drives; turn = 0 }

abbrev pub way_at : Way → RunState → WayValue
way_at ways.Panel s = s.panel
way_at ways.Upstream s = s.upstream
way_at ways.Downstream s = s.downstream
way_at ways.Supervisory s = s.supervisory
way_at ways.Configuration s = s.configuration

abbrev pub with_way : Way → WayValue → RunState → RunState
with_way ways.Panel way s = record s { panel = way }
with_way ways.Upstream way s = record s { upstream = way }
with_way ways.Downstream way s = record s { downstream = way }
with_way ways.Supervisory way s = record s { supervisory = way }
with_way ways.Configuration way s = record s { configuration = way }

-- the run with the wire of a way as it is now
abbrev pub with_wire : Way → Wire → RunState → RunState
with_wire way wire s = with_way way (record (way_at way s) { wire = wire }) s

abbrev pub seen_refusal : Way → List ℕ → Refusal
seen_refusal way text = record { way = way; text = text }

-- the text of a refusal, if there is one
abbrev pub refusal_text : Option Refusal → List ℕ
refusal_text None = []
refusal_text (Some refusal) = refusal.text

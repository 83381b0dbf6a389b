-- WHAT HOLDS OF A SIDE'S CONNECTION between two doings, beside the state of the run: what waits to be sent is what was said
-- and not taken, and what was found and isn't taken yet is what was given and not heard.
use Rattle.std.proofs.Common.{◌≡◌, ◌∙◌, refl, sym, ap, subst, ℕ, ℤ, Bool, true, false, not, List, [], ◌++◌, Option, None, Some, Err, append_assoc, append-nil}
use Rattle.std.proofs.lemmas.Bool.{true≢false}
use Rattle.line_base.specs.declared.states.Side.{Side}
use Rattle.line_base.specs.declared.states.Side.TheVariants.{Entry, Exit}
use Rattle.board_record.specs.declared.sensed.Sensed.{Sensed}
use Rattle.book_entry.specs.Given.{entry_of}
use Rattle.line_outside.specs.declared.ports.Sent.TheVariants as sents
use Rattle.line_outside.specs.declared.way.Way.TheVariants as ways
use Rattle.node_core.specs.May.{may_do, may_of, may_reach, no_if}
use Rattle.node_core.specs.Node.{NodeState}
use Rattle.node_core.specs.Sides.{is_open}
use Rattle.node_core.specs.Step.{Steps}
use Rattle.node_core.specs.declared.act.Act.{Act}
use Rattle.node_core.specs.declared.input.Input.{Input}
use Rattle.node_core.specs.declared.input.Input.TheVariants as inputs
use Rattle.node_core.specs.declared.input.No.{No}
use Rattle.node_core.specs.declared.input.No.TheVariants as no
use Rattle.node_core.specs.declared.lane.Body.{Body}
use Rattle.step_rules.specs.Opened.{open_after, opened_by}
use Rattle.step_rules.proofs.Once.{closed-stays}
use Rattle.step_rules.proofs.Opening.{steps_open}
use Rattle.machine_log.specs.Account.{AreProper}
use Rattle.machine_log.specs.Drives.{drives_after}
use Rattle.machine_log.specs.declared.drives.Drives.{Drives}
use Rattle.node_run.specs.After.{way_of}
use Rattle.node_run.specs.Held.{Finding}
use Rattle.node_run.specs.State.{RunState, one_more, way_at}
use Rattle.node_run.specs.Steps.{messages_for}
use Rattle.machine_log.specs.Texts.{lines_of}
use Rattle.node_run.specs.declared.rules.Rules.{Rules}
use Rattle.law_node_runs.specs.Connections.{Connection, IsFront, IsInOrder, acts_for, heard_by, step_does}

-- ---- what was found on a side's way and isn't taken yet

abbrev pub held_by : Side → Side → Option (List ℕ) → List ℕ
held_by Entry Entry (Some bytes) = bytes
held_by Exit Exit (Some bytes) = bytes
held_by side other bytes = []

abbrev pub held_for : Side → Option Finding → List ℕ
held_for side None = []
held_for side (Some finding) = held_by side finding.side finding.bytes

-- ---- what is given and not heard

-- an input makes a connection of a side
abbrev pub opens_at : Side → Input → Bool
opens_at Entry inputs.Connect = true
opens_at Exit inputs.Accepted = true
opens_at side input = false

-- all that was given is heard, or held; or, where the side makes no connection now, it has none, and hears nothing more of what
-- was given
pub data Pending (opens : Bool) (side : Side) (s : RunState) (given heard : List ℕ) : Type 0 where
  all_heard : given ≡ heard ++ held_for side s.held.finding → Pending opens side s given heard
  cut_off : opens ≡ false → IsFront heard given → is_open side s.node.lane.body ≡ false → Pending opens side s given heard

pub record Holds (opens : Bool) (side : Side) (s : RunState) (c : Connection) : Type 0 where
  pub sent : c.said ≡ c.taken ++ (way_at (way_of side) s).unsent
  pub heard : Pending opens side s c.given c.heard

pending_front : {opens : Bool} {side : Side} {s : RunState} {given heard : List ℕ} → Pending opens side s given heard → IsFront heard given
pending_front {side = side} {s = s} (all_heard is) = record { rest = held_for side s.held.finding; parts = is }
pending_front (cut_off plain front closed) = front

pub in_order : {opens : Bool} {side : Side} {s : RunState} {c : Connection} → Holds opens side s c → IsInOrder c
in_order {side = side} {s = s} holds = record { sent = record { rest = (way_at (way_of side) s).unsent; parts = holds.sent }; heard = pending_front holds.heard }

pub any_pending : {opens : Bool} {side : Side} {s : RunState} {given heard : List ℕ} → Pending opens side s given heard → Pending false side s given heard
any_pending (all_heard is) = all_heard is
any_pending (cut_off plain front closed) = cut_off refl front closed

-- ---- what no step touches: the machine, what waits on the neighbours' ways, and what was found of them

pub record Same (s t : RunState) : Type 0 where
  pub node : t.node ≡ s.node
  pub up : t.upstream.unsent ≡ s.upstream.unsent
  pub down : t.downstream.unsent ≡ s.downstream.unsent
  pub held : t.held.finding ≡ s.held.finding
  pub step : t.step ≡ s.step
  pub drives : t.drives ≡ s.drives

pub same_self : {s : RunState} → Same s s
same_self = record { node = refl; up = refl; down = refl; held = refl; step = refl; drives = refl }

pub same_is : {s u t : RunState} → t ≡ u → Same s u → Same s t
same_is {s} is same = subst (λ (r : RunState). Same s r) (sym is) same

pub same_then : {s u t : RunState} → Same s u → Same u t → Same s t
same_then one two = record { node = two.node ∙ one.node; up = two.up ∙ one.up; down = two.down ∙ one.down; held = two.held ∙ one.held; step = two.step ∙ one.step; drives = two.drives ∙ one.drives }

same_unsent : {s t : RunState} (side : Side) → Same s t → (way_at (way_of side) t).unsent ≡ (way_at (way_of side) s).unsent
same_unsent Entry same = same.up
same_unsent Exit same = same.down

same_pending : {opens : Bool} {side : Side} {s t : RunState} {given heard : List ℕ} → Same s t → Pending opens side s given heard → Pending opens side t given heard
same_pending {side = side} {heard = heard} same (all_heard is) = all_heard (is ∙ ap (λ (f : Option Finding). heard ++ held_for side f) (sym same.held))
same_pending {side = side} same (cut_off plain front closed) = cut_off plain front (ap (λ (n : NodeState). is_open side n.lane.body) same.node ∙ closed)

pub same_holds : {opens : Bool} {side : Side} {s t : RunState} {c : Connection} → Same s t → Holds opens side s c → Holds opens side t c
same_holds {side = side} {c = c} same holds = record { sent = holds.sent ∙ ap (λ (text : List ℕ). c.taken ++ text) (sym (same_unsent side same)); heard = same_pending same holds.heard }

-- ---- a step

-- one step of the machine, with its lines
pub record Stepped (rules : Rules) (input : Input) (s t : RunState) (log : List ℕ) : Type 0 where
  pub sensed : List Sensed
  pub moment : ℤ
  pub told : List Act
  pub may : may_of s.node input ≡ may_do
  pub steps : Steps s.node sensed input moment t.node told
  pub proper : AreProper told
  pub turn : ℕ
  pub lines : log ≡ lines_of rules.panel.drives turn rules.number told
  pub up : t.upstream.unsent ≡ s.upstream.unsent ++ messages_for Entry (acts_for input told)
  pub down : t.downstream.unsent ≡ s.downstream.unsent ++ messages_for Exit (acts_for input told)
  pub held : t.held.finding ≡ s.held.finding
  pub step : t.step ≡ one_more (entry_of sensed input moment) s.step
  pub drives : t.drives ≡ drives_after s.drives told

pub stepped_from : {rules : Rules} {input : Input} {s u t : RunState} {log : List ℕ} → Same s u → Stepped rules input u t log → Stepped rules input s t log
stepped_from {input = input} {t = t} same st = record {
  sensed = st.sensed;
  moment = st.moment;
  told = st.told;
  may = ap (λ (n : NodeState). may_of n input) (sym same.node) ∙ st.may;
  steps = subst (λ (n : NodeState). Steps n st.sensed input st.moment t.node st.told) same.node st.steps;
  proper = st.proper;
  turn = st.turn;
  lines = st.lines;
  up = st.up ∙ ap (λ (text : List ℕ). text ++ messages_for Entry (acts_for input st.told)) same.up;
  down = st.down ∙ ap (λ (text : List ℕ). text ++ messages_for Exit (acts_for input st.told)) same.down;
  held = st.held ∙ same.held;
  step = st.step ∙ ap (one_more (entry_of st.sensed input st.moment)) same.step;
  drives = st.drives ∙ ap (λ (d : Drives). drives_after d st.told) same.drives;
}

pub step_unsent : {rules : Rules} {input : Input} {s t : RunState} {log : List ℕ} (side : Side) (st : Stepped rules input s t log) → (way_at (way_of side) t).unsent ≡ (way_at (way_of side) s).unsent ++ messages_for side (acts_for input st.told)
step_unsent Entry st = st.up
step_unsent Exit st = st.down

pub step_sent : {rules : Rules} {input : Input} {s t : RunState} {log : List ℕ} (side : Side) (st : Stepped rules input s t log) (said taken : List ℕ) → said ≡ taken ++ (way_at (way_of side) s).unsent
    → said ++ messages_for side (acts_for input st.told) ≡ taken ++ (way_at (way_of side) t).unsent
step_sent {input = input} {s = s} side st said taken is =
    let more : List ℕ = messages_for side (acts_for input st.told) in
    ap (λ (text : List ℕ). text ++ more) is ∙ append_assoc taken (way_at (way_of side) s).unsent more ∙ ap (λ (text : List ℕ). taken ++ text) (sym (step_unsent side st))

-- a side that has no connection has none behind a step that makes none
makes_none : (side : Side) (input : Input) (opened : Bool) → opens_at side input ≡ false → opened_by input side opened ≡ opened
makes_none Entry inputs.Connect opened none = absurd (true≢false none)
makes_none Exit inputs.Accepted opened none = absurd (true≢false none)
makes_none Exit inputs.Connect opened none = refl
makes_none Entry inputs.Accepted opened none = refl
makes_none side input opened none = refl

pub stays_closed : {rules : Rules} {input : Input} {s t : RunState} {log : List ℕ} (side : Side) → Stepped rules input s t log → opens_at side input ≡ false → is_open side s.node.lane.body ≡ false → is_open side t.node.lane.body ≡ false
stays_closed {input = input} {s = s} {t = t} side st none closed =
    steps_open s.node st.sensed input st.moment t.node st.told side st.steps
    ∙ ap (λ (opened : Bool). open_after side opened st.told) (makes_none side input (is_open side s.node.lane.body) none ∙ closed)
    ∙ closed-stays side st.told

step_pending : {rules : Rules} {input : Input} {s t : RunState} {log : List ℕ} {given heard : List ℕ} (side : Side) → Stepped rules input s t log → heard_by side input ≡ [] → Pending (opens_at side input) side s given heard
    → Pending false side t given (heard ++ heard_by side input)
step_pending {input = input} {t = t} {given = given} {heard = heard} side st dry (all_heard is) =
    all_heard (is ∙ ap (λ (f : Option Finding). heard ++ held_for side f) (sym st.held) ∙ ap (λ (text : List ℕ). text ++ held_for side t.held.finding) (sym (ap (λ (text : List ℕ). heard ++ text) dry ∙ append-nil heard)))
step_pending {input = input} {given = given} {heard = heard} side st dry (cut_off plain front closed) =
    cut_off refl (subst (λ (text : List ℕ). IsFront text given) (sym (ap (λ (text : List ℕ). heard ++ text) dry ∙ append-nil heard)) front) (stays_closed side st plain closed)

-- an input that brings nothing to the side
pub step_holds : {rules : Rules} {input : Input} {s t : RunState} {log : List ℕ} {c : Connection} (side : Side) (st : Stepped rules input s t log) → heard_by side input ≡ [] → Holds (opens_at side input) side s c → Holds false side t (step_does side input st.told c)
step_holds {c = c} side st dry holds = record { sent = step_sent side st c.said c.taken holds.sent; heard = step_pending side st dry holds.heard }

-- ---- bytes that are taken

open_by : (opened : Bool) (why : No) → no_if (not opened) why may_do ≡ may_do → opened ≡ true
open_by true why may = refl
open_by false why may = cc

pub is_reached : (side : Side) (body : Body) → may_reach side body ≡ may_do → is_open side body ≡ true
is_reached side body may = open_by (is_open side body) no.NotConnected may

closed_if : (opened : Bool) (one why : No) → no_if (not opened) one may_do ≡ Err why → opened ≡ false
closed_if false one why may = refl
closed_if true one why may = cc

pub is_unreached : (side : Side) (body : Body) (why : No) → may_reach side body ≡ Err why → is_open side body ≡ false
is_unreached side body why may = closed_if (is_open side body) no.NotConnected why may

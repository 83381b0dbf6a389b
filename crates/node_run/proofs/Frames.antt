-- What a move leaves as it is.
use Rattle.std.proofs.Common.{◌≡◌, ◌∙◌, sym, subst, ap, refl, ℕ, ℤ, Bool, true, false, List, [], ◌∷◌, ◌++◌, Option, None, Some, Result, Ok, Err, ◌⊎◌, inl, inr, length, ◌<◌, ◌≤◌, ◌==◌, if◌then◌else◌, drop, arith}
use Rattle.line_base.specs.declared.states.Side.TheVariants.{Entry, Exit}
use Rattle.line_outside.specs.declared.answer.GotBytes.{GotBytes}
use Rattle.line_outside.specs.declared.answer.GotBytes.TheVariants as founds
use Rattle.line_outside.specs.declared.ports.Sent.{Sent}
use Rattle.line_outside.specs.declared.ports.Sent.TheVariants as sents
use Rattle.line_outside.specs.declared.way.Way.{Way}
use Rattle.line_outside.specs.declared.way.Way.TheVariants as ways
use Rattle.line_outside.specs.declared.way.Address.{Address}
use Rattle.board_record.specs.declared.sensed.Sensed.{Sensed}
use Rattle.line_script.specs.declared.line.LineWhy.{LineWhy}
use Rattle.book_entry.specs.declared.entry.Entry.{Entry as BookEntry}
use Rattle.book_entry.specs.Given.{entry_of}
use Rattle.node_core.specs.May.{may_of}
use Rattle.node_core.specs.Node.{NodeState}
use Rattle.node_core.specs.declared.act.Act.{Act}
use Rattle.node_core.specs.declared.input.Input.{Input}
use Rattle.node_core.specs.declared.input.Input.TheVariants as inputs
use Rattle.node_core.specs.declared.input.No.{No}
use Rattle.node_panel.specs.Panel.{panel_line_of}
use Rattle.node_panel.specs.declared.line.PanelLine.{PanelLine}
use Rattle.node_panel.specs.declared.line.PanelLine.TheVariants as lines
use Rattle.node_run.specs.declared.rules.Rules.{Rules}
use Rattle.node_run.specs.Held.{HeldValue, holds}
use Rattle.node_run.specs.State.{RunState, WayValue, echoed, way_at, with_way, with_wire}
use Rattle.node_run.specs.Next.{has_ended}
use Rattle.node_run.specs.Gone.{HearsIf, StepsIf}
use Rattle.node_run.specs.Steps.{Takes, TakesStep, MeetsSecond, with_node}
use Rattle.node_run.specs.After.{after_send, greeting, PanelArrives, AfterPanel, panel_second, panel_bytes, panel_closed, after_configuration, configuration_arrived, configuration_second, configuration_bytes, configuration_closed, after_supervisory, supervisory_arrived, supervisory_second, supervisory_bytes, supervisory_closed, with_held, AfterUpstream, AfterDownstream, AfterPoll}
use Rattle.node_run.specs.Lines.{cut_line, behind_first, without_return, is_too_long, Tells, DoesInput, AsksIf, AsksConnect, may_ask, DoesAsked, KeepsFront, Fronts, Ends, DoesCut, DoesLine}
use Rattle.node_run.specs.declared.way_state.Wire.{Wire}
use Rattle.node_run.specs.declared.way_state.Wire.TheVariants as wires
use Rattle.node_run.specs.declared.status.NodeStatus.{NodeStatus}
use Rattle.node_run.specs.declared.status.NodeStatus.TheVariants as statuses

-- a run stands at the same place of the same turn, has no other end, and no more text of the panel than so many bytes
pub record SamePlace (most : ℕ) (s t : RunState) : Type 0 where
  pub turn : t.turn ≡ s.turn
  pub place : t.place ≡ s.place
  pub ended : t.ended ≡ s.ended
  pub settings : t.settings ≡ s.settings
  pub rest : length s.rest ≤ most → length t.rest ≤ most

same : (most : ℕ) (s : RunState) → SamePlace most s s
same most s = record { turn = refl; place = refl; ended = refl; settings = refl; rest = λ few. few }

same_at : (most : ℕ) (s u t : RunState) → t ≡ u → SamePlace most s u → SamePlace most s t
same_at most s u t e frame = let P : RunState → Type 0 = SamePlace most s in subst P (sym e) frame

step_same : (most : ℕ) (rules : Rules) (moment : ℤ) (sensed : List Sensed) (input : Input) (s u t : RunState) (log : List ℕ) → TakesStep false rules moment sensed input u t log → SamePlace most s u → SamePlace most s t
step_same most rules moment sensed input s u t log takes frame =
    record { turn = ap (λ (r : RunState). r.turn) takes.after ∙ frame.turn; place = ap (λ (r : RunState). r.place) takes.after ∙ frame.place; ended = ap (λ (r : RunState). r.ended) takes.after ∙ frame.ended; settings = ap (λ (r : RunState). r.settings) takes.after ∙ frame.settings; rest = λ few. omega (arith, ap (λ (r : RunState). length r.rest) takes.after, frame.rest few) }

takes_same : (most : ℕ) (may : Result (Unit {0}) No) (rules : Rules) (moment : ℤ) (input : Input) (u s t : RunState) (log : List ℕ) → Takes may rules moment input u s t log → SamePlace most s u → SamePlace most s t
takes_same most (Ok done) rules moment input u s t log takes frame = step_same most rules moment [] input s u t log takes frame
takes_same most (Err why) rules moment input u s t log takes frame = same_at most s s t takes.0 (same most s)

second_same : (most : ℕ) (may : Result (Unit {0}) No) (rules : Rules) (moment : ℤ) (input : Input) (s t : RunState) (log : List ℕ) → MeetsSecond may rules moment input s t log → SamePlace most s t
second_same most (Ok done) rules moment input s t log meets =
    record { turn = ap (λ (r : RunState). r.turn) meets.after; place = ap (λ (r : RunState). r.place) meets.after; ended = ap (λ (r : RunState). r.ended) meets.after; settings = ap (λ (r : RunState). r.settings) meets.after; rest = λ few. omega (arith, ap (λ (r : RunState). length r.rest) meets.after, few) }
second_same most (Err why) rules moment input s t log meets = same_at most s s t meets.0 (same most s)

alone_same : (most : ℕ) (entry : BookEntry) (node : NodeState) (told : List Act) (s : RunState) → SamePlace most s (with_node entry node told s)
alone_same most entry node told s = record { turn = refl; place = refl; ended = refl; settings = refl; rest = λ few. few }

gone_same : (most : ℕ) (may : Result (Unit {0}) No) (rules : Rules) (moment : ℤ) (input : Input) (s t : RunState) (log : List ℕ) → StepsIf may rules moment input s t log → SamePlace most s t
gone_same most (Ok done) rules moment input s t log steps = same_at most s _ t steps.after (alone_same most (entry_of [] input moment) steps.node steps.told s)
gone_same most (Err why) rules moment input s t log steps = same_at most s s t steps.0 (same most s)

pub hears_same : (most : ℕ) (gone : Option Input) (rules : Rules) (moment : ℤ) (s t : RunState) (log : List ℕ) → HearsIf gone rules moment s t log → SamePlace most s t
hears_same most None rules moment s t log hears = same_at most s s t hears.0 (same most s)
hears_same most (Some input) rules moment s t log hears = gone_same most (may_of s.node input) rules moment input s t log hears

arrived_same : (most : ℕ) (wire : Wire) (rules : Rules) (s t : RunState) (log : List ℕ) → PanelArrives wire rules s t log → SamePlace most s t
arrived_same most wires.Rests rules s t log arrives = same_at most s (echoed (greeting rules s) (with_wire ways.Panel wires.Stands s)) t arrives.0 (record { turn = refl; place = refl; ended = refl; settings = refl; rest = λ few. few })
arrived_same most wires.Stands rules s t log arrives = same_at most s s t arrives.0 (same most s)
arrived_same most wires.Ends rules s t log arrives = same_at most s s t arrives.0 (same most s)
arrived_same most wires.Breaks rules s t log arrives = same_at most s s t arrives.0 (same most s)

seconded_same : (most : ℕ) (wire : Wire) (s : RunState) → SamePlace most s (panel_second wire s)
seconded_same most wires.Stands s = record { turn = refl; place = refl; ended = refl; settings = refl; rest = λ few. few }
seconded_same most wires.Rests s = same most s
seconded_same most wires.Ends s = same most s
seconded_same most wires.Breaks s = same most s

bytes_same : (most : ℕ) (wire : Wire) (bytes : List ℕ) (s : RunState) → length bytes ≤ most → SamePlace most s (panel_bytes wire bytes s)
bytes_same most wires.Stands bytes s short = record { turn = refl; place = refl; ended = refl; settings = refl; rest = λ few. short }
bytes_same most wires.Rests bytes s short = same most s
bytes_same most wires.Ends bytes s short = same most s
bytes_same most wires.Breaks bytes s short = same most s

closed_same : (most : ℕ) (wire : Wire) (s : RunState) → SamePlace most s (panel_closed wire s)
closed_same most wires.Stands s = record { turn = refl; place = refl; ended = refl; settings = refl; rest = λ few. few }
closed_same most wires.Rests s = same most s
closed_same most wires.Ends s = same most s
closed_same most wires.Breaks s = same most s

-- a poll gave no more bytes than so many
abbrev pub IsShortGot : ℕ → GotBytes → Type 0
IsShortGot most (founds.Bytes bytes) = length bytes ≤ most
IsShortGot most founds.Arrived = Unit {0}
IsShortGot most founds.Second = Unit {0}
IsShortGot most founds.NotYet = Unit {0}
IsShortGot most founds.Closed = Unit {0}
IsShortGot most founds.Failed = Unit {0}

pub panel_same : (most : ℕ) (rules : Rules) (got : GotBytes) (s t : RunState) (log : List ℕ) → IsShortGot most got → AfterPanel rules got s t log → SamePlace most s t
panel_same most rules founds.Arrived s t log short after = arrived_same most s.panel.wire rules s t log after
panel_same most rules founds.Second s t log short after = same_at most s _ t after.0 (seconded_same most s.panel.wire s)
panel_same most rules (founds.Bytes bytes) s t log short after = same_at most s _ t after.0 (bytes_same most s.panel.wire bytes s short)
panel_same most rules founds.NotYet s t log short after = same_at most s s t after.0 (same most s)
panel_same most rules founds.Closed s t log short after = same_at most s _ t after.0 (closed_same most s.panel.wire s)
panel_same most rules founds.Failed s t log short after = same_at most s _ t after.0 (closed_same most s.panel.wire s)

held_same : (most : ℕ) (held : HeldValue) (s : RunState) → SamePlace most s (with_held held s)
held_same most held s = record { turn = refl; place = refl; ended = refl; settings = refl; rest = λ few. few }

upstream_same : (most : ℕ) (rules : Rules) (moment : ℤ) (got : GotBytes) (s t : RunState) (log : List ℕ) → AfterUpstream rules moment got s t log → SamePlace most s t
upstream_same most rules moment founds.Arrived s t log after = takes_same most (may_of s.node inputs.Connect) rules moment inputs.Connect (with_wire ways.Upstream wires.Stands s) s t log after (record { turn = refl; place = refl; ended = refl; settings = refl; rest = λ few. few })
upstream_same most rules moment founds.Second s t log after = same_at most s s t after.0 (same most s)
upstream_same most rules moment (founds.Bytes bytes) s t log after = same_at most s _ t after.0 (held_same most (holds Entry (Some bytes)) s)
upstream_same most rules moment founds.NotYet s t log after = same_at most s s t after.0 (same most s)
upstream_same most rules moment founds.Closed s t log after = same_at most s _ t after.0 (held_same most (holds Entry None) s)
upstream_same most rules moment founds.Failed s t log after = same_at most s _ t after.0 (held_same most (holds Entry None) s)

downstream_same : (most : ℕ) (rules : Rules) (moment : ℤ) (got : GotBytes) (s t : RunState) (log : List ℕ) → AfterDownstream rules moment got s t log → SamePlace most s t
downstream_same most rules moment founds.Arrived s t log after = takes_same most (may_of s.node inputs.Accepted) rules moment inputs.Accepted (with_wire ways.Downstream wires.Stands s) s t log after (record { turn = refl; place = refl; ended = refl; settings = refl; rest = λ few. few })
downstream_same most rules moment founds.Second s t log after = second_same most (may_of s.node inputs.Second) rules moment inputs.Second s t log after
downstream_same most rules moment (founds.Bytes bytes) s t log after = same_at most s _ t after.0 (held_same most (holds Exit (Some bytes)) s)
downstream_same most rules moment founds.NotYet s t log after = same_at most s s t after.0 (same most s)
downstream_same most rules moment founds.Closed s t log after = same_at most s _ t after.0 (held_same most (holds Exit None) s)
downstream_same most rules moment founds.Failed s t log after = same_at most s _ t after.0 (held_same most (holds Exit None) s)

supervisory_arrived_same : (most : ℕ) (wire : Wire) (s : RunState) → SamePlace most s (supervisory_arrived wire s)
supervisory_arrived_same most wires.Rests s = record { turn = refl; place = refl; ended = refl; settings = refl; rest = λ few. few }
supervisory_arrived_same most wires.Stands s = same most s
supervisory_arrived_same most wires.Ends s = same most s
supervisory_arrived_same most wires.Breaks s = same most s

supervisory_second_same : (most : ℕ) (wire : Wire) (moment : ℤ) (s : RunState) → SamePlace most s (supervisory_second wire moment s)
supervisory_second_same most wires.Stands moment s = record { turn = refl; place = refl; ended = refl; settings = refl; rest = λ few. few }
supervisory_second_same most wires.Rests moment s = same most s
supervisory_second_same most wires.Ends moment s = same most s
supervisory_second_same most wires.Breaks moment s = same most s

supervisory_bytes_same : (most : ℕ) (wire : Wire) (bytes : List ℕ) (s : RunState) → SamePlace most s (supervisory_bytes wire bytes s)
supervisory_bytes_same most wires.Stands bytes s = record { turn = refl; place = refl; ended = refl; settings = refl; rest = λ few. few }
supervisory_bytes_same most wires.Rests bytes s = same most s
supervisory_bytes_same most wires.Ends bytes s = same most s
supervisory_bytes_same most wires.Breaks bytes s = same most s

supervisory_closed_same : (most : ℕ) (wire : Wire) (s : RunState) → SamePlace most s (supervisory_closed wire s)
supervisory_closed_same most wires.Stands s = record { turn = refl; place = refl; ended = refl; settings = refl; rest = λ few. few }
supervisory_closed_same most wires.Rests s = same most s
supervisory_closed_same most wires.Ends s = same most s
supervisory_closed_same most wires.Breaks s = same most s

supervisory_same : (most : ℕ) (moment : ℤ) (got : GotBytes) (s : RunState) → SamePlace most s (after_supervisory moment got s)
supervisory_same most moment founds.Arrived s = supervisory_arrived_same most s.supervisory.wire s
supervisory_same most moment founds.Second s = supervisory_second_same most s.supervisory.wire moment s
supervisory_same most moment (founds.Bytes bytes) s = supervisory_bytes_same most s.supervisory.wire bytes s
supervisory_same most moment founds.NotYet s = same most s
supervisory_same most moment founds.Closed s = supervisory_closed_same most s.supervisory.wire s
supervisory_same most moment founds.Failed s = supervisory_closed_same most s.supervisory.wire s

configuration_arrived_same : (most : ℕ) (wire : Wire) (s : RunState) → SamePlace most s (configuration_arrived wire s)
configuration_arrived_same most wires.Rests s = record { turn = refl; place = refl; ended = refl; settings = refl; rest = λ few. few }
configuration_arrived_same most wires.Stands s = same most s
configuration_arrived_same most wires.Ends s = same most s
configuration_arrived_same most wires.Breaks s = same most s

configuration_second_same : (most : ℕ) (wire : Wire) (moment : ℤ) (s : RunState) → SamePlace most s (configuration_second wire moment s)
configuration_second_same most wires.Stands moment s = record { turn = refl; place = refl; ended = refl; settings = refl; rest = λ few. few }
configuration_second_same most wires.Rests moment s = same most s
configuration_second_same most wires.Ends moment s = same most s
configuration_second_same most wires.Breaks moment s = same most s

configuration_bytes_same : (most : ℕ) (wire : Wire) (bytes : List ℕ) (s : RunState) → SamePlace most s (configuration_bytes wire bytes s)
configuration_bytes_same most wires.Stands bytes s = record { turn = refl; place = refl; ended = refl; settings = refl; rest = λ few. few }
configuration_bytes_same most wires.Rests bytes s = same most s
configuration_bytes_same most wires.Ends bytes s = same most s
configuration_bytes_same most wires.Breaks bytes s = same most s

configuration_closed_same : (most : ℕ) (wire : Wire) (s : RunState) → SamePlace most s (configuration_closed wire s)
configuration_closed_same most wires.Stands s = record { turn = refl; place = refl; ended = refl; settings = refl; rest = λ few. few }
configuration_closed_same most wires.Rests s = same most s
configuration_closed_same most wires.Ends s = same most s
configuration_closed_same most wires.Breaks s = same most s

configuration_same : (most : ℕ) (moment : ℤ) (got : GotBytes) (s : RunState) → SamePlace most s (after_configuration moment got s)
configuration_same most moment founds.Arrived s = configuration_arrived_same most s.configuration.wire s
configuration_same most moment founds.Second s = configuration_second_same most s.configuration.wire moment s
configuration_same most moment (founds.Bytes bytes) s = configuration_bytes_same most s.configuration.wire bytes s
configuration_same most moment founds.NotYet s = same most s
configuration_same most moment founds.Closed s = configuration_closed_same most s.configuration.wire s
configuration_same most moment founds.Failed s = configuration_closed_same most s.configuration.wire s

pub poll_same : (most : ℕ) (rules : Rules) (moment : ℤ) (way : Way) (got : GotBytes) (s t : RunState) (log : List ℕ) → IsShortGot most got → AfterPoll rules moment way got s t log → SamePlace most s t
poll_same most rules moment ways.Panel got s t log short after = panel_same most rules got s t log short after
poll_same most rules moment ways.Upstream got s t log short after = upstream_same most rules moment got s t log after
poll_same most rules moment ways.Downstream got s t log short after = downstream_same most rules moment got s t log after
poll_same most rules moment ways.Supervisory got s t log short after = same_at most s _ t after.0 (supervisory_same most moment got s)
poll_same most rules moment ways.Configuration got s t log short after = same_at most s _ t after.0 (configuration_same most moment got s)

-- ---- sending

pub record SameThere (s t : RunState) : Type 0 where
  pub turn : t.turn ≡ s.turn
  pub place : t.place ≡ s.place
  pub rest : t.rest ≡ s.rest
  pub ended : t.ended ≡ s.ended
  pub settings : t.settings ≡ s.settings

way_same : (way : Way) (value : WayValue) (s : RunState) → SameThere s (with_way way value s)
way_same ways.Panel value s = record { turn = refl; place = refl; rest = refl; ended = refl; settings = refl }
way_same ways.Upstream value s = record { turn = refl; place = refl; rest = refl; ended = refl; settings = refl }
way_same ways.Downstream value s = record { turn = refl; place = refl; rest = refl; ended = refl; settings = refl }
way_same ways.Supervisory value s = record { turn = refl; place = refl; rest = refl; ended = refl; settings = refl }
way_same ways.Configuration value s = record { turn = refl; place = refl; rest = refl; ended = refl; settings = refl }

pub sent_same : (way : Way) (sent : Sent) (s : RunState) → SameThere s (after_send way sent s)
sent_same way (sents.Took n) s = way_same way (record (way_at way s) { unsent = drop n (way_at way s).unsent }) s
sent_same way sents.NotYet s = record { turn = refl; place = refl; rest = refl; ended = refl; settings = refl }
sent_same way sents.Closed s = way_same way (record (way_at way s) { wire = wires.Breaks }) s
sent_same way sents.Failed s = way_same way (record (way_at way s) { wire = wires.Breaks }) s

-- ---- a line of the panel

abbrev pub EndsBy : Option NodeStatus → Option NodeStatus → Type 0
EndsBy before after = (after ≡ before) ⊎ (after ≡ Some statuses.Done)

-- a line leaves the turn, the place, the text behind it, what is heard and what is held, and ends the run at most as done
pub record SameRest (s t : RunState) : Type 0 where
  pub turn : t.turn ≡ s.turn
  pub place : t.place ≡ s.place
  pub rest : t.rest ≡ s.rest
  pub channel : t.channel ≡ s.channel
  pub config : t.config ≡ s.config
  pub held : t.held ≡ s.held
  pub settings : t.settings ≡ s.settings
  pub ended : EndsBy s.ended t.ended

rests : (s : RunState) → SameRest s s
rests s = record { turn = refl; place = refl; rest = refl; channel = refl; config = refl; held = refl; settings = refl; ended = inl refl }

rests_at : (s u t : RunState) → t ≡ u → SameRest s u → SameRest s t
rests_at s u t e frame = let P : RunState → Type 0 = SameRest s in subst P (sym e) frame

tells_rest : (text : List ℕ) (s t : RunState) (log : List ℕ) → Tells text s t log → SameRest s t
tells_rest text s t log tells = rests_at s (echoed text s) t tells.0 (record { turn = refl; place = refl; rest = refl; channel = refl; config = refl; held = refl; settings = refl; ended = inl refl })

aloud_rest : (rules : Rules) (moment : ℤ) (sensed : List Sensed) (input : Input) (s t : RunState) (log : List ℕ) → TakesStep true rules moment sensed input s t log → SameRest s t
aloud_rest rules moment sensed input s t log aloud =
    let after = aloud.after in
    record { turn = ap (λ (r : RunState). r.turn) after; place = ap (λ (r : RunState). r.place) after; rest = ap (λ (r : RunState). r.rest) after; channel = ap (λ (r : RunState). r.channel) after; config = ap (λ (r : RunState). r.config) after; held = ap (λ (r : RunState). r.held) after; settings = ap (λ (r : RunState). r.settings) after; ended = inl (ap (λ (r : RunState). r.ended) after) }

input_rest : (may : Result (Unit {0}) No) (rules : Rules) (moment : ℤ) (sensed : List Sensed) (input : Input) (s t : RunState) (log : List ℕ) → DoesInput may rules moment sensed input s t log → SameRest s t
input_rest (Ok done) rules moment sensed input s t log does = aloud_rest rules moment sensed input s t log does
input_rest (Err why) rules moment sensed input s t log does = tells_rest _ s t log does

asks_rest : (may : Result (Unit {0}) No) (s t : RunState) (log : List ℕ) → AsksIf may s t log → SameRest s t
asks_rest (Ok done) s t log asks = rests_at s (record s { asks = true }) t asks.0 (record { turn = refl; place = refl; rest = refl; channel = refl; config = refl; held = refl; settings = refl; ended = inl refl })
asks_rest (Err why) s t log asks = tells_rest _ s t log asks

connect_rest : (upstream : Option Address) (s t : RunState) (log : List ℕ) → AsksConnect upstream s t log → SameRest s t
connect_rest None s t log asks = tells_rest _ s t log asks
connect_rest (Some address) s t log asks = asks_rest (may_ask (has_ended s.upstream.wire) (may_of s.node inputs.Connect)) s t log asks

asked_rest : (asked : Result PanelLine LineWhy) (rules : Rules) (moment : ℤ) (s t : RunState) (log : List ℕ) → DoesAsked asked rules moment s t log → SameRest s t
asked_rest (Err why) rules moment s t log does = tells_rest _ s t log does
asked_rest (Ok lines.Blank) rules moment s t log does = rests_at s s t does.0 (rests s)
asked_rest (Ok lines.End) rules moment s t log does = rests_at s (record s { ended = Some statuses.Done }) t does.0 (record { turn = refl; place = refl; rest = refl; channel = refl; config = refl; held = refl; settings = refl; ended = inr refl })
asked_rest (Ok lines.Show) rules moment s t log does = tells_rest _ s t log does
asked_rest (Ok lines.Connect) rules moment s t log does = connect_rest s.settings.upstream s t log does
asked_rest (Ok (lines.Insert barcode)) rules moment s t log does = input_rest (may_of s.node (inputs.Insert barcode)) rules moment _ _ s t log does
asked_rest (Ok (lines.Remove id)) rules moment s t log does = input_rest (may_of s.node (inputs.Remove id)) rules moment _ _ s t log does
asked_rest (Ok (lines.Replace id)) rules moment s t log does = input_rest (may_of s.node (inputs.Replace id)) rules moment _ _ s t log does
asked_rest (Ok (lines.Mark id quality)) rules moment s t log does = input_rest (may_of s.node (inputs.Mark id quality)) rules moment _ _ s t log does
asked_rest (Ok (lines.Sub id place barcode)) rules moment s t log does = input_rest (may_of s.node (inputs.Sub id place barcode)) rules moment _ _ s t log does
asked_rest (Ok (lines.Hold side)) rules moment s t log does = input_rest (may_of s.node (inputs.Will side false)) rules moment _ _ s t log does
asked_rest (Ok (lines.Go side)) rules moment s t log does = input_rest (may_of s.node (inputs.Will side true)) rules moment _ _ s t log does
asked_rest (Ok lines.Shutdown) rules moment s t log does = input_rest (may_of s.node inputs.Shutdown) rules moment _ _ s t log does
asked_rest (Ok lines.Tick) rules moment s t log does = input_rest (may_of s.node inputs.Tick) rules moment _ _ s t log does
asked_rest (Ok (lines.Fault side)) rules moment s t log does = input_rest (may_of s.node (inputs.Fault side)) rules moment _ _ s t log does
asked_rest (Ok (lines.Signal line on)) rules moment s t log does = input_rest (may_of s.node (inputs.Level line on)) rules moment _ _ s t log does
asked_rest (Ok lines.Forecast) rules moment s t log does = input_rest (may_of s.node inputs.Forecast) rules moment _ _ s t log does
asked_rest (Ok (lines.Query barcode)) rules moment s t log does = input_rest (may_of s.node (inputs.Query barcode)) rules moment _ _ s t log does
asked_rest (Ok (lines.Ask question)) rules moment s t log does =
    input_rest (may_of s.node (inputs.Ask question)) rules moment _ _ s t log does
asked_rest (Ok (lines.Sense sensed)) rules moment s t log does = input_rest (may_of s.node inputs.Nothing) rules moment _ _ s t log does

keeps_rest : (long : Bool) (front : List ℕ) (s t : RunState) (log : List ℕ) → KeepsFront long front s t log → SameRest s t
keeps_rest true front s t log keeps = let told = tells_rest _ (record s { line = []; drops = true }) t log keeps in record { turn = told.turn; place = told.place; rest = told.rest; channel = told.channel; config = told.config; held = told.held; settings = told.settings; ended = told.ended }
keeps_rest false front s t log keeps = rests_at s (record s { line = front }) t keeps.0 (record { turn = refl; place = refl; rest = refl; channel = refl; config = refl; held = refl; settings = refl; ended = inl refl })

fronts_rest : (drops : Bool) (front : List ℕ) (s t : RunState) (log : List ℕ) → Fronts drops front s t log → SameRest s t
fronts_rest true front s t log fronts = rests_at s s t fronts.0 (rests s)
fronts_rest false front s t log fronts = keeps_rest (is_too_long front) front s t log fronts

ends_rest : (drops : Bool) (line : List ℕ) (rules : Rules) (moment : ℤ) (s t : RunState) (log : List ℕ) → Ends drops line rules moment s t log → SameRest s t
ends_rest true line rules moment s t log ends = rests_at s (record s { drops = false }) t ends.0 (record { turn = refl; place = refl; rest = refl; channel = refl; config = refl; held = refl; settings = refl; ended = inl refl })
ends_rest false line rules moment s t log ends = let does = asked_rest (panel_line_of (without_return line)) rules moment (record s { line = [] }) t log ends in record { turn = does.turn; place = does.place; rest = does.rest; channel = does.channel; config = does.config; held = does.held; settings = does.settings; ended = does.ended }

-- what stands behind the first end of a line is less than all
abbrev IsShorter : List ℕ → Option (List ℕ × List ℕ) → Type 0
IsShorter bytes None = Unit {0}
IsShorter bytes (Some parts) = length parts.1 < length bytes

behind_shorter : (byte : ℕ) (bytes : List ℕ) (cut : Option (List ℕ × List ℕ)) → IsShorter bytes cut → IsShorter (byte ∷ bytes) (behind_first byte cut)
behind_shorter byte bytes None shorter = tt
behind_shorter byte bytes (Some parts) shorter = omega (arith, shorter)

test_shorter : (test : Bool) (byte : ℕ) (bytes : List ℕ) → IsShorter bytes (cut_line bytes) → IsShorter (byte ∷ bytes) (if test then Some ([], bytes) else behind_first byte (cut_line bytes))
test_shorter true byte bytes shorter = omega arith
test_shorter false byte bytes shorter = behind_shorter byte bytes (cut_line bytes) shorter

cut_shorter : (bytes : List ℕ) → IsShorter bytes (cut_line bytes)
cut_shorter [] = tt
cut_shorter (byte ∷ bytes) = test_shorter (byte == 10) byte bytes (cut_shorter bytes)

-- a line leaves less text behind it
pub record TakesLine (s t : RunState) : Type 0 where
  pub turn : t.turn ≡ s.turn
  pub place : t.place ≡ s.place
  pub rest : length t.rest < length s.rest
  pub channel : t.channel ≡ s.channel
  pub config : t.config ≡ s.config
  pub held : t.held ≡ s.held
  pub settings : t.settings ≡ s.settings
  pub ended : EndsBy s.ended t.ended

cut_takes : (cut : Option (List ℕ × List ℕ)) (rules : Rules) (moment : ℤ) (s t : RunState) (log : List ℕ) → IsShorter s.rest cut → 0 < length s.rest → DoesCut cut rules moment s t log → TakesLine s t
cut_takes None rules moment s t log shorter some does =
    let rest = fronts_rest s.drops (s.line ++ s.rest) (record s { rest = [] }) t log does in
    record { turn = rest.turn; place = rest.place; rest = rw rest.rest some; channel = rest.channel; config = rest.config; held = rest.held; settings = rest.settings; ended = rest.ended }
cut_takes (Some parts) rules moment s t log shorter some does =
    let rest = ends_rest s.drops (s.line ++ parts.0) rules moment (record s { rest = parts.1 }) t log does in
    record { turn = rest.turn; place = rest.place; rest = rw rest.rest shorter; channel = rest.channel; config = rest.config; held = rest.held; settings = rest.settings; ended = rest.ended }

pub line_takes : (rules : Rules) (moment : ℤ) (s t : RunState) (log : List ℕ) → 0 < length s.rest → DoesLine rules moment s t log → TakesLine s t
line_takes rules moment s t log some does = cut_takes (cut_line s.rest) rules moment s t log (cut_shorter s.rest) some does

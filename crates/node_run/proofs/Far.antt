-- Each move brings a run nearer to its end.
use Rattle.std.proofs.Common.{◌≡◌, ◌∙◌, sym, subst, ap, refl, ℕ, ℤ, Bool, true, false, not, List, [], ◌∷◌, Option, None, Some, is_some, length, ◌<◌, ◌≤◌, ◌+◌, ◌*◌, arith, nat_lt}
use Rattle.std.proofs.lemmas.Bool.{false≢true}
use Rattle.line_base.specs.declared.states.Side.TheVariants.{Entry, Exit}
use Rattle.line_base.specs.declared.states.Side.{Side}
use Rattle.config_service.specs.declared.config.Resets.{Resets}
use Rattle.config_service.specs.declared.message.Settings.{Settings}
use Rattle.line_outside.specs.Given.{Given}
use Rattle.line_outside.specs.declared.answer.GotBytes.{GotBytes}
use Rattle.line_outside.specs.declared.answer.GotBytes.TheVariants as founds
use Rattle.line_outside.specs.declared.ports.Opened.{Opened}
use Rattle.line_outside.specs.declared.ports.Opened.TheVariants as opens
use Rattle.line_outside.specs.declared.ports.Sent.{Sent}
use Rattle.line_outside.specs.declared.way.Address.{Address}
use Rattle.line_outside.specs.declared.way.Way.{Way}
use Rattle.line_outside.specs.declared.way.Way.TheVariants as ways
use Rattle.node_core.specs.May.{no_if, may_do, same_bool}
use Rattle.node_core.specs.Sides.{is_open}
use Rattle.node_core.specs.declared.input.Input.TheVariants as inputs
use Rattle.node_core.specs.declared.input.No.TheVariants as no
use Rattle.node_run.specs.declared.rules.Rules.{Rules}
use Rattle.node_run.specs.State.{Refusal, RunState, at_rest, way_at}
use Rattle.node_run.specs.Next.{at_place, place_behind, turn_behind, moved_on, is_due, is_due_by, is_to_reset}
use Rattle.node_run.specs.Steps.{Takes, TakesStep}
use Rattle.node_run.specs.Configuring.{Accepts, AfterTry, DoesConfig, config_said, port_refused}
use Rattle.node_run.specs.Resetting.{ResetsSide, reset_begun}
use Rattle.node_run.specs.After.{after_listen, after_send, configuration_gone, looked, panel_gone, AfterPoll, AfterLook, AfterClose, TakesHeld}
use Rattle.node_run.specs.Hearing.{DoesHear}
use Rattle.node_run.specs.Lines.{DoesLine}
use Rattle.node_run.specs.Runs.{Moves, listens, connects, polls, sends, refuses, closes, skips, looks_again, takes_held, does_line, does_hear, does_config, tries_port, resets_side}
use Rattle.node_run.specs.Moving.{is_end}
use Rattle.supervised_end.specs.Channel.{is_empty, ChannelValue, IsShort, no_session}
use Rattle.node_run.specs.Held.{HasFewLooks, is_more}
use Rattle.node_run.specs.Work.{far_at, count, wire_work, refusal_work, close_work, hear_work, look_work, other_work, reset_work, try_work, work_at, far_of}
use Rattle.node_run.specs.declared.place.Next.{Next}
use Rattle.node_run.specs.declared.place.Next.TheVariants as nexts
use Rattle.node_run.specs.declared.place.Place.{Place}
use Rattle.node_run.specs.declared.place.Place.TheVariants as places
use Rattle.node_run.specs.declared.way_state.Wire.{Wire}
use Rattle.node_run.specs.declared.way_state.Wire.TheVariants as wires
use Rattle.node_run.proofs.Nexts.{is_from, turn_goes}
use Rattle.node_run.proofs.Frames.{IsShortGot, panel_same, poll_same, sent_same, line_takes}
use Rattle.node_run.proofs.Holding.{few_work, held_here, looks_less, panel_alone, some_work}
use Rattle.node_run.proofs.Heard.{hear_less}
use Rattle.node_run.proofs.Configured.{config_less, reset_stays}
use Rattle.node_run.proofs.Closing.{notice_closes, notice_leaves, supervise_leaves}

-- ---- bounds

count_most : (b : Bool) → count b ≤ 1
count_most true = omega arith
count_most false = omega arith

wire_most : (wire : Wire) → wire_work wire ≤ 1
wire_most wires.Rests = omega arith
wire_most wires.Stands = omega arith
wire_most wires.Ends = omega arith
wire_most wires.Breaks = omega arith

refusal_most : (refusal : Option Refusal) → refusal_work refusal ≤ 1
refusal_most None = omega arith
refusal_most (Some refusal) = omega arith

-- but for what a Set has left to do
abbrev calm_work : RunState → ℕ
calm_work s = count s.asks + (refusal_work s.refusal + close_work s)

calm_most : (s : RunState) → calm_work s ≤ 16
calm_most s =
    omega (
      arith,
      count_most s.asks,
      refusal_most s.refusal,
      wire_most s.panel.wire,
      wire_most s.upstream.wire,
      wire_most s.downstream.wire,
      wire_most s.supervisory.wire,
      wire_most s.configuration.wire,
      count_most s.node.supervised,
      count_most (is_open Entry s.node.lane.body),
      count_most (is_open Exit s.node.lane.body),
    )

try_most : (tries : Option Settings) → try_work tries ≤ 60
try_most None = omega arith
try_most (Some settings) = omega arith

reset_most : (resets : Resets) → reset_work resets ≤ 40
reset_most resets = omega (arith, count_most resets.upstream, count_most resets.downstream)

pub others_most : (s : RunState) → other_work s ≤ 116
others_most s = omega (arith, calm_most s, try_most s.tries, reset_most s.resets)

pub hear_most : (channel : ChannelValue) → IsShort channel → hear_work channel ≤ 73729
hear_most channel short = omega (arith, short.waiting, short.piece, count_most channel.hears)

-- ---- places

behind_far : (rules : Rules) (s : RunState) (place : Place) → is_end (at_place rules s place) ≡ false → far_at rules.turns (turn_behind place s.turn) (place_behind place) + 1 ≤ far_at rules.turns s.turn place
behind_far rules s places.ListenPanel goes = omega arith
behind_far rules s places.ListenDownstream goes = omega arith
behind_far rules s places.ListenSupervisory goes = omega arith
behind_far rules s places.ListenConfiguration goes = omega arith
behind_far rules s places.PollPanel goes = omega arith
behind_far rules s places.PollUpstream goes = omega arith
behind_far rules s places.PollDownstream goes = omega arith
behind_far rules s places.PollSupervisory goes = omega arith
behind_far rules s places.PollConfiguration goes = omega arith
behind_far rules s places.SendPanel goes = omega arith
behind_far rules s places.SendUpstream goes = omega arith
behind_far rules s places.SendDownstream goes = omega arith
behind_far rules s places.SendSupervisory goes = omega arith
behind_far rules s places.SendConfiguration goes = omega arith
behind_far rules s places.TurnDone goes = omega (arith, turn_goes (nat_lt s.turn rules.turns) s.turn rules.turns refl goes)

-- a place behind this one, whatever is to do there
pub further : (far near work less : ℕ) → near + 1 ≤ far → less < 30000000 → 30000000 * near + less < 30000000 * far + work
further far near work less nearer few = omega (arith, nearer, few)

place_far : (rules : Rules) (s t : RunState) (found : Next) → at_place rules s s.place ≡ found → is_end found ≡ false → t.turn ≡ turn_behind s.place s.turn → t.place ≡ place_behind s.place → length t.rest ≤ 4096 → IsShort t.channel → IsShort t.config → HasFewLooks t.held → far_of rules t < far_of rules s
place_far rules s t found e goes turn place rest short heard few =
    let nearer = behind_far rules s s.place (ap is_end e ∙ goes) in
    let there : far_at rules.turns t.turn t.place ≡ far_at rules.turns (turn_behind s.place s.turn) (place_behind s.place) = ap (λ n. far_at rules.turns n t.place) turn ∙ ap (λ p. far_at rules.turns (turn_behind s.place s.turn) p) place in
    further (far_at rules.turns s.turn s.place) (far_at rules.turns t.turn t.place) (work_at s) (work_at t) (rw there nearer) (omega (arith, others_most t, hear_most t.channel short, hear_most t.config heard, few_work t.held.finding t.held.looks few.looks, rest))

-- the same place, with less to do
nearer_at : (rules : Rules) (s t : RunState) → t.turn ≡ s.turn → t.place ≡ s.place → work_at t < work_at s → far_of rules t < far_of rules s
nearer_at rules s t turn place less =
    let there : far_at rules.turns t.turn t.place ≡ far_at rules.turns s.turn s.place = ap (λ n. far_at rules.turns n t.place) turn ∙ ap (λ p. far_at rules.turns s.turn p) place in
    omega (arith, there, less)

-- ---- closing

due_wire : (wire : Wire) (unsent : List ℕ) → is_due_by wire unsent ≡ true → wire_work wire ≡ 1
due_wire wires.Rests unsent due = absurd (false≢true due)
due_wire wires.Stands unsent due = refl
due_wire wires.Ends unsent due = refl
due_wire wires.Breaks unsent due = refl

-- a way is closed that has to be: less is to close
pub record ClosesLess (s t : RunState) : Type 0 where
  pub turn : t.turn ≡ s.turn
  pub place : t.place ≡ s.place
  pub rest : length t.rest ≤ length s.rest
  pub hears : hear_work t.channel ≤ hear_work s.channel
  pub configures : hear_work t.config ≤ hear_work s.config
  pub tries : t.tries ≡ s.tries
  pub resets : t.resets ≡ s.resets
  pub held : t.held ≡ s.held
  pub asks : t.asks ≡ s.asks
  pub refusal : t.refusal ≡ s.refusal
  pub ended : t.ended ≡ s.ended
  pub settings : t.settings ≡ s.settings
  pub less : close_work t < close_work s

-- the machine hears of it, or has no connection
upstream_step : (rules : Rules) (moment : ℤ) (s t : RunState) (log : List ℕ) → is_open Entry s.node.lane.body ≡ true → is_due s.upstream ≡ true → TakesStep false rules moment [] (inputs.Notice Entry) (record s { upstream = at_rest }) t log → ClosesLess s t
upstream_step rules moment s t log connected due takes =
    let closed = notice_closes s.node takes.node Entry moment takes.told takes.steps in
    let other = notice_leaves s.node takes.node Entry moment takes.told takes.steps in
    let node = ap (λ (r : RunState). r.node.lane.body) takes.after in
    let panel = ap (λ (r : RunState). wire_work r.panel.wire) takes.after in
    let way = ap (λ (r : RunState). wire_work r.supervisory.wire) takes.after in
    let client = ap (λ (r : RunState). wire_work r.configuration.wire) takes.after in
    let watched = ap (λ (r : RunState). count r.node.supervised) takes.after ∙ ap count takes.steps.supervised in
    let up = ap (λ (r : RunState). count (is_open Entry r.node.lane.body)) takes.after ∙ ap count closed in
    let down = ap (λ (r : RunState). count (is_open Exit r.node.lane.body)) takes.after ∙ ap count other in
    record {
      turn = ap (λ (r : RunState). r.turn) takes.after;
      place = ap (λ (r : RunState). r.place) takes.after;
      rest = omega (arith, ap (λ (r : RunState). length r.rest) takes.after);
      hears = omega (arith, ap (λ (r : RunState). hear_work r.channel) takes.after);
      configures = omega (arith, ap (λ (r : RunState). hear_work r.config) takes.after);
      tries = ap (λ (r : RunState). r.tries) takes.after;
      resets = ap (λ (r : RunState). r.resets) takes.after;
      held = ap (λ (r : RunState). r.held) takes.after;
      asks = ap (λ (r : RunState). r.asks) takes.after;
      refusal = ap (λ (r : RunState). r.refusal) takes.after;
      ended = ap (λ (r : RunState). r.ended) takes.after;
      settings = ap (λ (r : RunState). r.settings) takes.after;
      less = omega (arith, panel, way, client, watched, up, down, ap count connected, due_wire s.upstream.wire s.upstream.unsent due, wire_most t.upstream.wire, wire_most t.downstream.wire);
    }

downstream_step : (rules : Rules) (moment : ℤ) (s t : RunState) (log : List ℕ) → is_open Exit s.node.lane.body ≡ true → is_due s.downstream ≡ true → TakesStep false rules moment [] (inputs.Notice Exit) (record s { downstream = at_rest }) t log → ClosesLess s t
downstream_step rules moment s t log connected due takes =
    let closed = notice_closes s.node takes.node Exit moment takes.told takes.steps in
    let other = notice_leaves s.node takes.node Exit moment takes.told takes.steps in
    let panel = ap (λ (r : RunState). wire_work r.panel.wire) takes.after in
    let way = ap (λ (r : RunState). wire_work r.supervisory.wire) takes.after in
    let client = ap (λ (r : RunState). wire_work r.configuration.wire) takes.after in
    let watched = ap (λ (r : RunState). count r.node.supervised) takes.after ∙ ap count takes.steps.supervised in
    let up = ap (λ (r : RunState). count (is_open Entry r.node.lane.body)) takes.after ∙ ap count other in
    let down = ap (λ (r : RunState). count (is_open Exit r.node.lane.body)) takes.after ∙ ap count closed in
    record {
      turn = ap (λ (r : RunState). r.turn) takes.after;
      place = ap (λ (r : RunState). r.place) takes.after;
      rest = omega (arith, ap (λ (r : RunState). length r.rest) takes.after);
      hears = omega (arith, ap (λ (r : RunState). hear_work r.channel) takes.after);
      configures = omega (arith, ap (λ (r : RunState). hear_work r.config) takes.after);
      tries = ap (λ (r : RunState). r.tries) takes.after;
      resets = ap (λ (r : RunState). r.resets) takes.after;
      held = ap (λ (r : RunState). r.held) takes.after;
      asks = ap (λ (r : RunState). r.asks) takes.after;
      refusal = ap (λ (r : RunState). r.refusal) takes.after;
      ended = ap (λ (r : RunState). r.ended) takes.after;
      settings = ap (λ (r : RunState). r.settings) takes.after;
      less = omega (arith, panel, way, client, watched, up, down, ap count connected, due_wire s.downstream.wire s.downstream.unsent due, wire_most t.upstream.wire, wire_most t.downstream.wire);
    }

supervisory_step : (rules : Rules) (moment : ℤ) (s t : RunState) (log : List ℕ) → s.node.supervised ≡ true → is_due s.supervisory ≡ true → TakesStep false rules moment [] (inputs.Supervise false) (record s { supervisory = at_rest; channel = no_session }) t log → ClosesLess s t
supervisory_step rules moment s t log supervised due takes =
    let up = ap (λ (r : RunState). count (is_open Entry r.node.lane.body)) takes.after ∙ ap count (supervise_leaves s.node takes.node false Entry moment takes.told takes.steps) in
    let down = ap (λ (r : RunState). count (is_open Exit r.node.lane.body)) takes.after ∙ ap count (supervise_leaves s.node takes.node false Exit moment takes.told takes.steps) in
    let panel = ap (λ (r : RunState). wire_work r.panel.wire) takes.after in
    let way = ap (λ (r : RunState). wire_work r.supervisory.wire) takes.after in
    let client = ap (λ (r : RunState). wire_work r.configuration.wire) takes.after in
    let watched = ap (λ (r : RunState). count r.node.supervised) takes.after ∙ ap count takes.steps.supervised in
    record {
      turn = ap (λ (r : RunState). r.turn) takes.after;
      place = ap (λ (r : RunState). r.place) takes.after;
      rest = omega (arith, ap (λ (r : RunState). length r.rest) takes.after);
      hears = omega (arith, ap (λ (r : RunState). hear_work r.channel) takes.after);
      configures = omega (arith, ap (λ (r : RunState). hear_work r.config) takes.after);
      tries = ap (λ (r : RunState). r.tries) takes.after;
      resets = ap (λ (r : RunState). r.resets) takes.after;
      held = ap (λ (r : RunState). r.held) takes.after;
      asks = ap (λ (r : RunState). r.asks) takes.after;
      refusal = ap (λ (r : RunState). r.refusal) takes.after;
      ended = ap (λ (r : RunState). r.ended) takes.after;
      settings = ap (λ (r : RunState). r.settings) takes.after;
      less = omega (arith, panel, way, client, watched, up, down, ap count supervised, due_wire s.supervisory.wire s.supervisory.unsent due, wire_most t.upstream.wire, wire_most t.downstream.wire);
    }

less_at : (s u t : RunState) → t ≡ u → ClosesLess s u → ClosesLess s t
less_at s u t e less = let P : RunState → Type 0 = ClosesLess s in subst P (sym e) less

panel_less : (s : RunState) → is_due s.panel ≡ true → ClosesLess s (panel_gone s)
panel_less s due = record { turn = refl; place = refl; rest = omega arith; hears = omega arith; configures = omega arith; tries = refl; resets = refl; held = refl; asks = refl; refusal = refl; ended = refl; settings = refl; less = omega (arith, due_wire s.panel.wire s.panel.unsent due) }

upstream_rests : (s : RunState) → is_due s.upstream ≡ true → ClosesLess s (record s { upstream = at_rest })
upstream_rests s due = record { turn = refl; place = refl; rest = omega arith; hears = omega arith; configures = omega arith; tries = refl; resets = refl; held = refl; asks = refl; refusal = refl; ended = refl; settings = refl; less = omega (arith, due_wire s.upstream.wire s.upstream.unsent due) }

downstream_rests : (s : RunState) → is_due s.downstream ≡ true → ClosesLess s (record s { downstream = at_rest })
downstream_rests s due = record { turn = refl; place = refl; rest = omega arith; hears = omega arith; configures = omega arith; tries = refl; resets = refl; held = refl; asks = refl; refusal = refl; ended = refl; settings = refl; less = omega (arith, due_wire s.downstream.wire s.downstream.unsent due) }

supervisory_rests : (s : RunState) → is_due s.supervisory ≡ true → ClosesLess s (record s { supervisory = at_rest; channel = no_session })
supervisory_rests s due = record { turn = refl; place = refl; rest = omega arith; hears = omega arith; configures = omega arith; tries = refl; resets = refl; held = refl; asks = refl; refusal = refl; ended = refl; settings = refl; less = omega (arith, due_wire s.supervisory.wire s.supervisory.unsent due) }

configuration_less : (s : RunState) → is_due s.configuration ≡ true → ClosesLess s (configuration_gone s)
configuration_less s due =
    record { turn = refl; place = refl; rest = omega arith; hears = omega arith; configures = omega arith; tries = refl; resets = refl; held = refl; asks = refl; refusal = refl; ended = refl; settings = refl; less = omega (arith, due_wire s.configuration.wire s.configuration.unsent due) }

upstream_less : (test : Bool) (rules : Rules) (moment : ℤ) (s t : RunState) (log : List ℕ) → is_open Entry s.node.lane.body ≡ test → is_due s.upstream ≡ true
    → (let closed : RunState = record s { upstream = at_rest } in Takes (no_if (not test) no.NotConnected may_do) rules moment (inputs.Notice Entry) closed closed t log) → ClosesLess s t
upstream_less true rules moment s t log connected due after = upstream_step rules moment s t log connected due after
upstream_less false rules moment s t log connected due after = less_at s (record s { upstream = at_rest }) t after.0 (upstream_rests s due)

downstream_less : (test : Bool) (rules : Rules) (moment : ℤ) (s t : RunState) (log : List ℕ) → is_open Exit s.node.lane.body ≡ test → is_due s.downstream ≡ true
    → (let closed : RunState = record s { downstream = at_rest } in Takes (no_if (not test) no.NotConnected may_do) rules moment (inputs.Notice Exit) closed closed t log) → ClosesLess s t
downstream_less true rules moment s t log connected due after = downstream_step rules moment s t log connected due after
downstream_less false rules moment s t log connected due after = less_at s (record s { downstream = at_rest }) t after.0 (downstream_rests s due)

supervisory_less : (test : Bool) (rules : Rules) (moment : ℤ) (s t : RunState) (log : List ℕ) → s.node.supervised ≡ test → is_due s.supervisory ≡ true
    → (let closed : RunState = record s { supervisory = at_rest; channel = no_session } in Takes (no_if (same_bool test false) no.Same may_do) rules moment (inputs.Supervise false) closed closed t log) → ClosesLess s t
supervisory_less true rules moment s t log supervised due after = supervisory_step rules moment s t log supervised due after
supervisory_less false rules moment s t log supervised due after = less_at s (record s { supervisory = at_rest; channel = no_session }) t after.0 (supervisory_rests s due)

pub close_less : (rules : Rules) (moment : ℤ) (way : Way) (s t : RunState) (log : List ℕ) → is_due (way_at way s) ≡ true → AfterClose rules moment way s t log → ClosesLess s t
close_less rules moment ways.Panel s t log due after = less_at s (panel_gone s) t after.0 (panel_less s due)
close_less rules moment ways.Upstream s t log due after = upstream_less (is_open Entry s.node.lane.body) rules moment s t log refl due after
close_less rules moment ways.Downstream s t log due after = downstream_less (is_open Exit s.node.lane.body) rules moment s t log refl due after
close_less rules moment ways.Supervisory s t log due after = supervisory_less s.node.supervised rules moment s t log refl due after
close_less rules moment ways.Configuration s t log due after = less_at s (configuration_gone s) t after.0 (configuration_less s due)

less_work : (s t : RunState) → ClosesLess s t → work_at t < work_at s
less_work s t less = omega (arith, ap look_work less.held, less.rest, less.hears, less.configures, ap try_work less.tries, ap reset_work less.resets, ap count less.asks, ap refusal_work less.refusal, less.less)

-- ---- all moves

listen_nearer : (rules : Rules) (s : RunState) (way : Way) (address : Address) (opened : Opened) → at_place rules s s.place ≡ nexts.Listen way address → length s.rest ≤ 4096 → IsShort (after_listen address opened s).channel → IsShort (after_listen address opened s).config → HasFewLooks (after_listen address opened s).held → far_of rules (after_listen address opened s) < far_of rules s
listen_nearer rules s way address opens.Done e rest short heard few = place_far rules s (after_listen address opens.Done s) (nexts.Listen way address) e refl refl refl rest short heard few
listen_nearer rules s way address opens.Failed e rest short heard few = place_far rules s (after_listen address opens.Failed s) (nexts.Listen way address) e refl refl refl rest short heard few

connect_nearer : (rules : Rules) (s : RunState) → s.asks ≡ true → far_of rules (record s { asks = false }) < far_of rules s
connect_nearer rules s asks = nearer_at rules s (record s { asks = false }) refl refl (omega (arith, ap count asks))

refuse_nearer : (rules : Rules) (s : RunState) (refusal : Refusal) → s.refusal ≡ Some refusal → far_of rules (record s { refusal = None }) < far_of rules s
refuse_nearer rules s refusal e = nearer_at rules s (record s { refusal = None }) refl refl (omega (arith, ap refusal_work e))

send_nearer : (rules : Rules) (s : RunState) (way : Way) (sent : Sent) → at_place rules s s.place ≡ nexts.Send way → length s.rest ≤ 4096 → IsShort (after_send way sent (moved_on s)).channel → IsShort (after_send way sent (moved_on s)).config → HasFewLooks (after_send way sent (moved_on s)).held → far_of rules (after_send way sent (moved_on s)) < far_of rules s
send_nearer rules s way sent e rest short heard few =
    let there = sent_same way sent (moved_on s) in
    place_far rules s (after_send way sent (moved_on s)) (nexts.Send way) e refl there.turn there.place (rw there.rest rest) short heard few

pub bytes_of : GotBytes → ℕ
bytes_of (founds.Bytes bytes) = length bytes
bytes_of _ = 0

pub short_of : (got : GotBytes) → IsShortGot (bytes_of got) got
unfolding bytes_of
short_of (founds.Bytes bytes) = omega arith
short_of founds.Arrived = tt
short_of founds.Second = tt
short_of founds.NotYet = tt
short_of founds.Closed = tt
short_of founds.Failed = tt

poll_nearer : (rules : Rules) (moment : ℤ) (s t : RunState) (way : Way) (got : GotBytes) (log : List ℕ) → at_place rules s s.place ≡ nexts.Poll way → AfterPoll rules moment way got (moved_on s) t log → length t.rest ≤ 4096 → IsShort t.channel → IsShort t.config → HasFewLooks t.held → far_of rules t < far_of rules s
poll_nearer rules moment s t way got log e after rest short heard few =
    let there = poll_same (bytes_of got) rules moment way got (moved_on s) t log (short_of got) after in
    place_far rules s t (nexts.Poll way) e refl there.turn there.place rest short heard few

close_nearer : (rules : Rules) (moment : ℤ) (s t : RunState) (way : Way) (log : List ℕ) → is_due (way_at way s) ≡ true → AfterClose rules moment way s t log → far_of rules t < far_of rules s
close_nearer rules moment s t way log due after =
    let less = close_less rules moment way s t log due after in
    nearer_at rules s t less.turn less.place (less_work s t less)

pub not_empty : (bytes : List ℕ) → is_empty bytes ≡ false → 0 < length bytes
not_empty [] e = absurd (false≢true (sym e))
not_empty (byte ∷ bytes) e = omega arith

fewer_bytes : (s t : RunState) → length t.rest < length s.rest → t.channel ≡ s.channel → t.config ≡ s.config → t.held ≡ s.held → work_at t < work_at s
fewer_bytes s t fewer same config held = omega (arith, others_most t, ap look_work held, ap hear_work same, ap hear_work config, fewer)

less_to_hear : (s t : RunState) → t.rest ≡ s.rest → hear_work t.channel < hear_work s.channel → t.config ≡ s.config → t.held ≡ s.held → work_at t < work_at s
less_to_hear s t same less config held = omega (arith, others_most t, ap look_work held, ap length same, ap hear_work config, less)

less_to_configure : (s t : RunState) → t.rest ≡ s.rest → hear_work t.config < hear_work s.config → t.channel ≡ s.channel → t.held ≡ s.held → work_at t < work_at s
less_to_configure s t same less channel held = omega (arith, others_most t, ap look_work held, ap length same, ap hear_work channel, less)

-- while something is held
fewer_looks : (s t : RunState) → length t.rest ≤ 4096 → t.channel ≡ s.channel → t.config ≡ s.config → look_work t.held + 500000 ≤ look_work s.held → work_at t < work_at s
fewer_looks s t rest same config fewer = omega (arith, others_most t, ap hear_work same, ap hear_work config, rest, fewer)

look_nearer : (rules : Rules) (s t : RunState) (got : GotBytes) (log : List ℕ) → is_some s.held.finding ≡ true → nat_lt 0 s.held.looks ≡ true → AfterLook rules got s t log → length t.rest ≤ 4096 → far_of rules t < far_of rules s
look_nearer rules s t got log some looks after rest =
    let there = panel_same (bytes_of got) rules got (looked got s) t log (short_of got) after in
    let alone = panel_alone rules got (looked got s) t log after in
    let less = looks_less s.held.finding (is_more got) s.held.looks some looks in
    nearer_at rules s t there.turn there.place (fewer_looks s t rest alone.channel alone.config (omega (arith, ap look_work alone.held, less)))

take_nearer : (rules : Rules) (moment : ℤ) (s t : RunState) (log : List ℕ) → is_some s.held.finding ≡ true → TakesHeld rules moment s t log → length s.rest ≤ 4096 → far_of rules t < far_of rules s
take_nearer rules moment s t log some takes rest =
    let there = held_here rules moment s t log takes in
    nearer_at rules s t there.turn there.place (fewer_looks s t (rw there.rest rest) there.channel there.config (omega (arith, ap look_work there.held, some_work s.held.finding s.held.looks some)))

line_nearer : (rules : Rules) (moment : ℤ) (s t : RunState) (log : List ℕ) → is_empty s.rest ≡ false → DoesLine rules moment s t log → far_of rules t < far_of rules s
line_nearer rules moment s t log some does =
    let takes = line_takes rules moment s t log (not_empty s.rest some) does in
    nearer_at rules s t takes.turn takes.place (fewer_bytes s t takes.rest takes.channel takes.config takes.held)

hear_nearer : (rules : Rules) (moment : ℤ) (s t : RunState) (log : List ℕ) → s.channel.hears ≡ true → DoesHear rules moment s t log → far_of rules t < far_of rules s
hear_nearer rules moment s t log hears does =
    let less = hear_less rules moment s t log hears does in
    nearer_at rules s t less.turn less.place (less_to_hear s t less.rest less.less less.config less.held)

configure_nearer : (rules : Rules) (moment : ℤ) (s t : RunState) → s.config.hears ≡ true → DoesConfig moment s t → far_of rules t < far_of rules s
configure_nearer rules moment s t hears does =
    let less = config_less moment s t hears does in
    nearer_at rules s t less.turn less.place (less_to_configure s t less.rest less.less less.channel less.held)

-- a Set that was listened for leaves two sides to reset at most
accepts_work : (moment : ℤ) (settings : Settings) (s t : RunState) → 60 ≤ try_work s.tries → Accepts moment settings s t → work_at t < work_at s
accepts_work moment settings s t waits accepts =
    let after = accepts.after in
    omega (
      arith,
      waits,
      ap (λ (r : RunState). try_work r.tries) after,
      ap (λ (r : RunState). reset_work r.resets) after,
      reset_most accepts.resets,
      ap calm_work after,
      ap (λ (r : RunState). look_work r.held) after,
      ap (λ (r : RunState). length r.rest) after,
      ap (λ (r : RunState). hear_work r.channel) after,
      ap (λ (r : RunState). hear_work r.config) after,
    )

refused_work : (moment : ℤ) (s t : RunState) → 60 ≤ try_work s.tries → t ≡ config_said moment port_refused (record s { tries = None }) → work_at t < work_at s
refused_work moment s t waits after =
    omega (
      arith,
      waits,
      ap (λ (r : RunState). try_work r.tries) after,
      ap (λ (r : RunState). reset_work r.resets) after,
      ap calm_work after,
      ap (λ (r : RunState). look_work r.held) after,
      ap (λ (r : RunState). length r.rest) after,
      ap (λ (r : RunState). hear_work r.channel) after,
      ap (λ (r : RunState). hear_work r.config) after,
    )

try_nearer : (rules : Rules) (moment : ℤ) (settings : Settings) (opened : Opened) (s t : RunState) → s.tries ≡ Some settings → AfterTry opened moment settings s t → far_of rules t < far_of rules s
try_nearer rules moment settings opens.Done s t waits after =
    nearer_at rules s t (ap (λ (r : RunState). r.turn) after.after) (ap (λ (r : RunState). r.place) after.after) (accepts_work moment settings s t (omega (arith, ap try_work waits)) after)
try_nearer rules moment settings opens.Failed s t waits after =
    nearer_at rules s t (ap (λ (r : RunState). r.turn) after) (ap (λ (r : RunState). r.place) after) (refused_work moment s t (omega (arith, ap try_work waits)) after)

begun_work : (side : Side) (s : RunState) → is_to_reset side s.resets ≡ true → reset_work (reset_begun side s).resets + 20 ≤ reset_work s.resets
begun_work Entry s due = omega (arith, ap count due)
begun_work Exit s due = omega (arith, ap count due)

reset_nearer : (rules : Rules) (moment : ℤ) (side : Side) (s t : RunState) (log : List ℕ) → is_to_reset side s.resets ≡ true → ResetsSide rules moment side s t log → far_of rules t < far_of rules s
reset_nearer rules moment side s t log due resets =
    let there = reset_stays rules moment side s t log resets in
    nearer_at rules s t there.turn there.place
    (omega (
      arith,
      calm_most t,
      begun_work side s due,
      ap try_work there.tries,
      ap reset_work there.resets,
      ap look_work there.held,
      ap length there.rest,
      ap hear_work there.channel,
      ap hear_work there.config,
    ))

-- A MOVE BRINGS A RUN NEARER TO ITS END
pub moves_nearer : (rules : Rules) (moment : ℤ) {s t : RunState} {calls : List Given} {log : List ℕ} → Moves rules moment s calls t log → length s.rest ≤ 4096 → length t.rest ≤ 4096 → IsShort t.channel → IsShort t.config → HasFewLooks t.held → far_of rules t < far_of rules s
moves_nearer rules moment (listens {s} {way} {address} {opened} next) before after short heard few = listen_nearer rules s way address opened (is_from rules s (nexts.Listen way address) next) before short heard few
moves_nearer rules moment (connects {s} {address} {opened} next) before after short heard few = connect_nearer rules s (is_from rules s (nexts.Connect address) next)
moves_nearer rules moment (polls {s} {t} {way} {got} {log} next done) before after short heard few = poll_nearer rules moment s t way got log (is_from rules s (nexts.Poll way) next) done after short heard few
moves_nearer rules moment (sends {s} {way} {sent} next) before after short heard few = send_nearer rules s way sent (is_from rules s (nexts.Send way) next) before short heard few
moves_nearer rules moment (refuses {s} {refusal} {sent} next e) before after short heard few = refuse_nearer rules s refusal e
moves_nearer rules moment (closes {s} {t} {way} {log} next done) before after short heard few = close_nearer rules moment s t way log (is_from rules s (nexts.Close way) next) done
moves_nearer rules moment (skips {s} next) before after short heard few = place_far rules s (moved_on s) nexts.Skip (is_from rules s nexts.Skip next) refl refl refl before short heard few
moves_nearer rules moment (looks_again {s} {t} {got} {log} next done) before after short heard few =
    let from = is_from rules s nexts.Look next in
    look_nearer rules s t got log from.0 from.1 done after
moves_nearer rules moment (takes_held {s} {t} {log} next done) before after short heard few = take_nearer rules moment s t log (is_from rules s nexts.Take next) done before
moves_nearer rules moment (does_line {s} {t} {log} next done) before after short heard few = line_nearer rules moment s t log (is_from rules s nexts.Line next) done
moves_nearer rules moment (does_hear {s} {t} {log} next done) before after short heard few = hear_nearer rules moment s t log (is_from rules s nexts.Hear next) done
moves_nearer rules moment (does_config {s} {t} {log} next done none) before after short heard few = configure_nearer rules moment s t (is_from rules s nexts.HearConfig next) done
moves_nearer rules moment (tries_port {s} {t} {settings} {opened} {log} next done none) before after short heard few = try_nearer rules moment settings opened s t (is_from rules s (nexts.Try settings) next) done
moves_nearer rules moment (resets_side {s} {t} {side} {log} next done) before after short heard few = reset_nearer rules moment side s t log (is_from rules s (nexts.Reset side) next) done

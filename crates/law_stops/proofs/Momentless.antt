-- What a machine is behind a step in which it notices that a connection is gone doesn't depend on the
-- moment of that step.
use Rattle.std.proofs.Common.{◌≡◌, ◌∙◌, ◌++◌, ℕ, ℤ, Bool, true, false, List, [], ◌∷◌, Option, None, Some, refl, sym, ap, subst, slice_get}
use Rattle.board_record.specs.declared.record.Record.{Record}
use Rattle.handover_in.specs.Row.{InRow, intake_row}
use Rattle.handover_in.specs.declared.input.InInput.TheVariants as in_input
use Rattle.handover_in.specs.declared.act.InAct.{InAct}
use Rattle.handover_in.specs.declared.act.InDeed.{InDeed}
use Rattle.handover_in.specs.declared.act.InSend.{InSend}
use Rattle.handover_out.specs.Row.{OutRow, outlet_row}
use Rattle.handover_out.specs.declared.input.OutInput.TheVariants as out_input
use Rattle.handover_out.specs.declared.act.OutAct.{OutAct}
use Rattle.handover_out.specs.declared.act.OutDeed.{OutDeed}
use Rattle.handover_out.specs.declared.act.OutSend.{OutSend}
use Rattle.handover_out.specs.declared.act.OutSend.TheVariants as out_send
use Rattle.hermes_horizontal.specs.declared.message.Info.{Info}
use Rattle.line_base.specs.declared.states.Side.{Side}
use Rattle.line_base.specs.declared.states.Side.TheVariants.{Entry, Exit}
use Rattle.node_core.specs.Announces.{announces, offer, offer_by, offers_now, ready, ready_by, readies_now, revoke, revoke_by, revokes_now, start, start_by, starts_now, unreadies_now, unready, unready_by}
use Rattle.node_core.specs.Connect.{if_open, notices}
use Rattle.node_core.specs.Desk.{Desk}
use Rattle.node_core.specs.Done.{Done, and_then, behind, stays}
use Rattle.node_core.specs.Event.{Notice}
use Rattle.node_core.specs.Forecasts.{forecasts_act, forecasts_after}
use Rattle.node_core.specs.Halves.{half_closed, intake_row_did, outlet_row_did}
use Rattle.node_core.specs.Node.{NodeState, desk_of}
use Rattle.node_core.specs.Sides.{is_open, session_at, with_session}
use Rattle.node_core.specs.Signals.{own_signals, signal_told, signalled}
use Rattle.node_core.specs.Step.{Steps, machine_step, plain_step}
use Rattle.node_core.specs.Supervising.{watch_of, with_tells}
use Rattle.node_core.proofs.Telling.{tells_all}
use Rattle.node_core.specs.Told.{drives, in_does, in_sends, in_told, offers, out_does, out_says, out_sends, out_told}
use Rattle.node_core.specs.declared.act.Act.{Act}
use Rattle.node_core.specs.declared.act.Act.TheVariants as acts
use Rattle.node_core.specs.declared.act.Signal.{Signal}
use Rattle.node_core.specs.declared.act.Signal.TheVariants as signals
use Rattle.node_core.specs.declared.input.Input.TheVariants as inputs
use Rattle.node_core.specs.declared.lane.Body.{Body}
use Rattle.node_core.specs.declared.supervising.Watch.{Watch}
use Rattle.session_core.specs.End.{at_rest}
use Rattle.smema_bridge.specs.Levels.{BridgeLevels}
use Rattle.smema_bridge.specs.Signals.{bridge_edges}

-- ---- the body

outlet_same : (row : Option OutRow) (d e : Desk) (body : Body) → (outlet_row_did d body row).body ≡ (outlet_row_did e body row).body
outlet_same None d e body = refl
outlet_same (Some row) d e body = refl

intake_same : (row : Option InRow) (d e : Desk) (body : Body) → (intake_row_did d body row).body ≡ (intake_row_did e body row).body
intake_same None d e body = refl
intake_same (Some row) d e body = refl

revoke_same : (due : Bool) (d e : Desk) (body : Body) → (revoke_by d due body).body ≡ (revoke_by e due body).body
revoke_same true d e body = outlet_same (outlet_row body.outlet out_input.Revoke) d e body
revoke_same false d e body = refl

unready_same : (due : Bool) (d e : Desk) (body : Body) → (unready_by d due body).body ≡ (unready_by e due body).body
unready_same true d e body = intake_same (intake_row body.intake in_input.Unready) d e body
unready_same false d e body = refl

offer_same : (due : Bool) (front : Option Record) (d e : Desk) (body : Body) → (offer_by d due front body).body ≡ (offer_by e due front body).body
offer_same true (Some front) d e body = outlet_same (outlet_row body.outlet (out_input.Offer front.id)) d e body
offer_same true None d e body = refl
offer_same false front d e body = refl

ready_same : (due : Bool) (d e : Desk) (body : Body) → (ready_by d due body).body ≡ (ready_by e due body).body
ready_same true d e body = intake_same (intake_row body.intake in_input.Ready) d e body
ready_same false d e body = refl

start_same : (due : Bool) (d e : Desk) (body : Body) → (start_by d due body).body ≡ (start_by e due body).body
start_same true d e body = intake_same (intake_row body.intake in_input.Start) d e body
start_same false d e body = refl

-- of one machine at two moments
abbrev SameBody : NodeState → ℤ → ℤ → (Desk → Body → Done) → Type 0
SameBody s m k f = (body : Body) → (f (desk_of s m) body).body ≡ (f (desk_of s k) body).body

one_then : (s : NodeState) (m k : ℤ) (f g : Desk → Body → Done) → SameBody s m k f → SameBody s m k g → SameBody s m k (λ (desk : Desk). λ (body : Body). and_then (f desk body) (g desk))
one_then s m k f g one two body = two (f (desk_of s m) body).body ∙ ap (λ (b : Body). (g (desk_of s k) b).body) (one body)

announces_same : (s : NodeState) (m k : ℤ) → SameBody s m k announces
announces_same s m k =
    one_then s m k revoke (λ (desk : Desk). λ (one : Body). and_then (unready desk one) (λ (two : Body). and_then (offer desk two) (λ (three : Body). and_then (ready desk three) (start desk))))
    (λ body. revoke_same (revokes_now body) (desk_of s m) (desk_of s k) body)
    (one_then s m k unready (λ (desk : Desk). λ (two : Body). and_then (offer desk two) (λ (three : Body). and_then (ready desk three) (start desk)))
    (λ body. unready_same (unreadies_now (desk_of s m) body) (desk_of s m) (desk_of s k) body)
    (one_then s m k offer (λ (desk : Desk). λ (three : Body). and_then (ready desk three) (start desk))
    (λ body. offer_same (offers_now body) (slice_get body.kept 0) (desk_of s m) (desk_of s k) body)
    (one_then s m k ready start
    (λ body. ready_same (readies_now (desk_of s m) body) (desk_of s m) (desk_of s k) body)
    (λ body. start_same (starts_now body) (desk_of s m) (desk_of s k) body))))

closed_same : (side : Side) (d e : Desk) (body : Body) → (half_closed d side body).body ≡ (half_closed e side body).body
closed_same Entry d e body = intake_same (intake_row body.intake in_input.Closed) d e body
closed_same Exit d e body = outlet_same (outlet_row body.outlet out_input.Closed) d e body

open_same : (opened : Bool) (side : Side) (d e : Desk) (body shut : Body)
    → (if_open opened (behind (acts.Notices side ∷ []) (half_closed d side shut)) body).body ≡ (if_open opened (behind (acts.Notices side ∷ []) (half_closed e side shut)) body).body
open_same true side d e body shut = closed_same side d e shut
open_same false side d e body shut = refl

notices_same : (side : Side) (d e : Desk) (body : Body) → (notices d side body).body ≡ (notices e side body).body
notices_same side d e body = open_same (is_open side body) side d e body (with_session side (at_rest (session_at side body).role) body)

step_same : (side : Side) (s : NodeState) (m k : ℤ) (body : Body) → (machine_step (desk_of s m) [] (Notice side) body).body ≡ (machine_step (desk_of s k) [] (Notice side) body).body
step_same side s m k body =
    one_then s m k (λ (desk : Desk). λ (b : Body). notices desk side b) announces (λ b. notices_same side (desk_of s m) (desk_of s k) b) (announces_same s m k) body

-- ---- no forecast is heard in it

abbrev IsDryAct : Act → Type 0
IsDryAct act = (kept : List Info) → forecasts_act kept act ≡ kept

abbrev AreDry : List Act → Type 0
AreDry [] = Unit {0}
AreDry (act ∷ others) = IsDryAct act × AreDry others

dry_join : (one two : List Act) → AreDry one → AreDry two → AreDry (one ++ two)
dry_join [] two a b = b
dry_join (act ∷ one) two a b = (a.0, dry_join one two a.1 b)

dry_after : (told : List Act) (kept : List Info) → AreDry told → forecasts_after kept told ≡ kept
dry_after [] kept dry = refl
dry_after (act ∷ others) kept dry = ap (λ (k : List Info). forecasts_after k others) (dry.0 kept) ∙ dry_after others kept dry.1

out_deed_dry : (deed : Option OutDeed) → AreDry (out_does deed)
out_deed_dry None = tt
out_deed_dry (Some deed) = ((λ kept. refl), tt)

in_deed_dry : (deed : Option InDeed) → AreDry (in_does deed)
in_deed_dry None = tt
in_deed_dry (Some deed) = ((λ kept. refl), tt)

drives_dry : (side : Side) (on : Option Bool) → AreDry (drives side on)
drives_dry side None = tt
drives_dry side (Some on) = ((λ kept. refl), tt)

offers_dry : (desk : Desk) (front : Option Record) → AreDry (offers desk front)
offers_dry desk None = tt
offers_dry desk (Some board) = ((λ kept. refl), tt)

out_says_dry : (desk : Desk) (boards : List Record) (send : OutSend) → AreDry (out_says desk boards send)
out_says_dry desk boards out_send.BoardAvailable = offers_dry desk (slice_get boards 0)
out_says_dry desk boards out_send.RevokeBoardAvailable = ((λ kept. refl), tt)
out_says_dry desk boards (out_send.Finished state id) = ((λ kept. refl), tt)

out_sends_dry : (desk : Desk) (boards : List Record) (send : Option OutSend) → AreDry (out_sends desk boards send)
out_sends_dry desk boards None = tt
out_sends_dry desk boards (Some send) = out_says_dry desk boards send

in_sends_dry : (desk : Desk) (send : Option InSend) → AreDry (in_sends desk send)
in_sends_dry desk None = tt
in_sends_dry desk (Some send) = ((λ kept. refl), tt)

out_dry : (desk : Desk) (boards : List Record) (act : OutAct) → AreDry (out_told desk boards act)
out_dry desk boards act = dry_join (out_does act.deed) (out_sends desk boards act.send ++ drives Exit act.drive) (out_deed_dry act.deed) (dry_join (out_sends desk boards act.send) (drives Exit act.drive) (out_sends_dry desk boards act.send) (drives_dry Exit act.drive))

in_dry : (desk : Desk) (act : InAct) → AreDry (in_told desk act)
in_dry desk act = dry_join (in_does act.deed) (in_sends desk act.send ++ drives Entry act.drive) (in_deed_dry act.deed) (dry_join (in_sends desk act.send) (drives Entry act.drive) (in_sends_dry desk act.send) (drives_dry Entry act.drive))

outlet_dry : (row : Option OutRow) (desk : Desk) (body : Body) → AreDry (outlet_row_did desk body row).acts
outlet_dry None desk body = tt
outlet_dry (Some row) desk body = out_dry desk body.kept row.act

intake_dry : (row : Option InRow) (desk : Desk) (body : Body) → AreDry (intake_row_did desk body row).acts
intake_dry None desk body = tt
intake_dry (Some row) desk body = in_dry desk row.act

revoke_dry : (due : Bool) (desk : Desk) (body : Body) → AreDry (revoke_by desk due body).acts
revoke_dry true desk body = outlet_dry (outlet_row body.outlet out_input.Revoke) desk body
revoke_dry false desk body = tt

unready_dry : (due : Bool) (desk : Desk) (body : Body) → AreDry (unready_by desk due body).acts
unready_dry true desk body = intake_dry (intake_row body.intake in_input.Unready) desk body
unready_dry false desk body = tt

offer_dry : (due : Bool) (front : Option Record) (desk : Desk) (body : Body) → AreDry (offer_by desk due front body).acts
offer_dry true (Some front) desk body = outlet_dry (outlet_row body.outlet (out_input.Offer front.id)) desk body
offer_dry true None desk body = tt
offer_dry false front desk body = tt

ready_dry : (due : Bool) (desk : Desk) (body : Body) → AreDry (ready_by desk due body).acts
ready_dry true desk body = intake_dry (intake_row body.intake in_input.Ready) desk body
ready_dry false desk body = tt

start_dry : (due : Bool) (desk : Desk) (body : Body) → AreDry (start_by desk due body).acts
start_dry true desk body = intake_dry (intake_row body.intake in_input.Start) desk body
start_dry false desk body = tt

then_dry : (first : Done) (next : Body → Done) → AreDry first.acts → ((body : Body) → AreDry (next body).acts) → AreDry (and_then first next).acts
then_dry first next one two = dry_join first.acts (next first.body).acts one (two first.body)

announces_dry : (desk : Desk) (body : Body) → AreDry (announces desk body).acts
announces_dry desk body =
    then_dry (revoke desk body) (λ (one : Body). and_then (unready desk one) (λ (two : Body). and_then (offer desk two) (λ (three : Body). and_then (ready desk three) (start desk)))) (revoke_dry (revokes_now body) desk body)
    (λ one. then_dry (unready desk one) (λ (two : Body). and_then (offer desk two) (λ (three : Body). and_then (ready desk three) (start desk))) (unready_dry (unreadies_now desk one) desk one)
    (λ two. then_dry (offer desk two) (λ (three : Body). and_then (ready desk three) (start desk)) (offer_dry (offers_now two) (slice_get two.kept 0) desk two)
    (λ three. then_dry (ready desk three) (start desk) (ready_dry (readies_now desk three) desk three) (λ four. start_dry (starts_now four) desk four))))

closed_dry : (side : Side) (desk : Desk) (body : Body) → AreDry (half_closed desk side body).acts
closed_dry Entry desk body = intake_dry (intake_row body.intake in_input.Closed) desk body
closed_dry Exit desk body = outlet_dry (outlet_row body.outlet out_input.Closed) desk body

open_dry : (opened : Bool) (side : Side) (desk : Desk) (body shut : Body) → AreDry (if_open opened (behind (acts.Notices side ∷ []) (half_closed desk side shut)) body).acts
open_dry true side desk body shut = ((λ kept. refl), closed_dry side desk shut)
open_dry false side desk body shut = tt

notices_dry : (side : Side) (desk : Desk) (body : Body) → AreDry (notices desk side body).acts
notices_dry side desk body = open_dry (is_open side body) side desk body (with_session side (at_rest (session_at side body).role) body)

-- what the supervisor is told behind an act is no forecast either
with_dry : (desk : Desk) (watch : Watch) (told : List Act) → AreDry told → AreDry (with_tells desk watch told)
with_dry desk watch told dry = tells_all AreDry (λ act others all. all.1) (λ act told others all rest. (all.0, rest)) (λ message told rest. ((λ kept. refl), rest)) tt desk watch told dry

step_dry : (side : Side) (desk : Desk) (body : Body) → AreDry (machine_step desk [] (Notice side) body).acts
step_dry side desk body =
    with_dry desk (watch_of desk body) (plain_step desk [] (Notice side) body).acts
    (then_dry (stays body) (λ (one : Body). and_then (notices desk side one) (announces desk)) tt (λ one. then_dry (notices desk side one) (announces desk) (notices_dry side desk one) (announces_dry desk)))

signal_dry : (signal : Signal) (on : Option Bool) → AreDry (signal_told signal on)
signal_dry signal None = tt
signal_dry signal (Some on) = ((λ kept. refl), tt)

signals_dry : (bridge : Option BridgeLevels) (body : Body) → AreDry (signalled bridge body)
signals_dry None body = tt
signals_dry (Some before) body =
    let edges = bridge_edges before.own (own_signals body) in
    dry_join (signal_told signals.EntryAvailable edges.available) (signal_told signals.EntryFailed edges.failed ++ signal_told signals.ExitReady edges.ready) (signal_dry signals.EntryAvailable edges.available)
    (dry_join (signal_told signals.EntryFailed edges.failed) (signal_told signals.ExitReady edges.ready) (signal_dry signals.EntryFailed edges.failed) (signal_dry signals.ExitReady edges.ready))

-- ---- SO A STEP AT ONE MOMENT IS ONE AT ANOTHER, to the same machine

pub at_moment : (side : Side) (s t : NodeState) (m k : ℤ) (told : List Act) → Steps s [] (inputs.Notice side) m t told → (other : List Act) × Steps s [] (inputs.Notice side) k t other
at_moment side s t m k told st =
    let own : List Act = (machine_step (desk_of s k) [] (Notice side) s.lane.body).acts in
    let before : AreDry told = subst AreDry (sym (st.told ∙ ap (λ (l : List Act). l ++ signalled s.bridge t.lane.body) st.lane.told)) (dry_join (machine_step (desk_of s m) [] (Notice side) s.lane.body).acts (signalled s.bridge t.lane.body) (step_dry side (desk_of s m) s.lane.body) (signals_dry s.bridge t.lane.body)) in
    let now : AreDry (own ++ signalled s.bridge t.lane.body) = dry_join own (signalled s.bridge t.lane.body) (step_dry side (desk_of s k) s.lane.body) (signals_dry s.bridge t.lane.body) in (
      own ++ signalled s.bridge t.lane.body,
      record {
        made = own;
        lane = record {
          words = st.lane.words;
          brings = st.lane.brings;
          body = st.lane.body ∙ step_same side s m k s.lane.body;
          told = refl;
          made = st.lane.made;
        };
        told = refl;
        bridge = st.bridge;
        forecasts = st.forecasts ∙ dry_after told s.forecasts before ∙ sym (dry_after (own ++ signalled s.bridge t.lane.body) s.forecasts now);
        supervised = st.supervised;
        orders = st.orders;
        name = st.name;
        number = st.number;
        capacity = st.capacity;
      },
    )

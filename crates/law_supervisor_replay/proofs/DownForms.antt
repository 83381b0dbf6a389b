-- A LINE, as the link below a machine sees it: where no offer of a board is still to be taken up
-- there, the machine below doesn't start the board, and none is still to be taken up behind the
-- line, if the machine above keeps the board no more.
use Rattle.std.proofs.Common.{Bool, Err, List, None, Ok, Option, Result, [], ap, append-nil, arith, false, inl, inr, length, refl, subst, sym, true, ℕ, ◌++◌, ◌+◌, ◌-◌, ◌||◌, ◌∙◌, ◌∷◌, ◌≡◌, ◌≢◌, ◌≤◌, ◌⊎◌}
use Rattle.std.specs.Prelude.{drop}
use Rattle.std.specs.List.{list_any}
use Rattle.std.proofs.lemmas.Bool.{false≢true}
use Rattle.law_one_standing.proofs.RestLine.{node_there}
use Rattle.law_history.proofs.UpForms.{other_done, not_bytes, flow_fits, met_fits, plain_did, own_plain}
use Rattle.line_base.specs.declared.states.Role.TheVariants.{Downstream, Upstream}
use Rattle.line_base.specs.declared.states.Side.{Side}
use Rattle.line_base.specs.declared.states.Side.TheVariants.{Entry, Exit}
use Rattle.board_record.specs.Maker.{Maker, next_id}
use Rattle.board_record.specs.declared.maker.IdsUsedUp.{IdsUsedUp}
use Rattle.hermes_horizontal.specs.declared.message.Horizontal.{Horizontal}
use Rattle.hermes_stream.specs.Frames.{NeedMore, answer_of}
use Rattle.session_core.specs.End.{SessionEnd, is_connected_state}
use Rattle.handover_in.specs.State.{InState, passes_offers_over}
use Rattle.line_link.specs.Flow.{Stream, coming, flowing, with_arrival}
use Rattle.line_link.specs.Link.{LinkParts, after_connect, after_flow, after_spoil, connected_of, cut, is_too_much, next_number, nulled}
use Rattle.line_link.specs.declared.link.Connected.{Connected}
use Rattle.line_link.specs.declared.link.Connected.TheVariants as connections
use Rattle.line_link.proofs.Coming.{coming_of_nul}
use Rattle.smema_bridge.specs.Levels.{BridgeLevels}
use Rattle.line_report.specs.declared.happening.Happening.{Happening}
use Rattle.node_core.specs.Desk.{Desk}
use Rattle.node_core.specs.Event.{Event, event_of, with_new}
use Rattle.node_core.specs.Event as events
use Rattle.node_core.specs.Node.{NodeState, desk_of}
use Rattle.node_core.specs.Sides.{is_open}
use Rattle.node_core.specs.Signals.{signalled}
use Rattle.node_core.specs.Step.{Brings}
use Rattle.node_core.specs.Supervising.{watch_of, with_tells}
use Rattle.node_core.specs.Words.{AreWords}
use Rattle.node_core.specs.declared.act.Act.{Act}
use Rattle.node_core.specs.declared.act.Act.TheVariants as acts
use Rattle.node_core.specs.declared.act.Signal.{Signal}
use Rattle.node_core.specs.declared.input.Input.{Input}
use Rattle.node_core.specs.declared.input.Input.TheVariants as inputs
use Rattle.node_core.specs.declared.lane.Body.{Body}
use Rattle.node_core.specs.declared.lane.Lane.{Lane}
use Rattle.node_core.specs.declared.supervising.Watch.{Watch}
use Rattle.node_core.specs.declared.word.Word.{Word}
use Rattle.node_core.proofs.Signalling.{signals_pass}
use Rattle.node_core.proofs.Telling.{tells_pass}
use Rattle.law_custody.specs.Bytes.{Flows as FlowsAs, Spoiled, texts_of}
use Rattle.law_custody.specs.Contents.{OfferIs, OpenAll, open_none}
use Rattle.law_custody.specs.Words.{down_words}
use Rattle.law_custody.proofs.Spoils.{puts_a_nul}
use Rattle.law_custody.proofs.Texts.{nothing_flows}
use Rattle.law_machine_custody.specs.Flight.{AreOldest, oldest_none}
use Rattle.law_link_messages.specs.Fit.{AreFitActs, IsFitInput, none_fit}
use Rattle.law_link_messages.specs.Heard.{Heard, HeardSpoiled, bodies}
use Rattle.law_link_messages.proofs.Fitting.{fit_behind}
use Rattle.line_step.specs.Lines.{Connects, Flows, LineSteps, arrived, connecting, lied, met, moved, spoil_told, spoiled, unseen}
use Rattle.line_step.specs.Numbered.{node_at}
use Rattle.step_rules.specs.Opened.{open_act, open_after, opened_by}
use Rattle.line_step.specs.Reasons.{is_empty, may_connect, may_do, may_flow}
use Rattle.line_step.specs.Shown.{standings_told}
use Rattle.line_step.specs.State.{LineState, one_more, with_world}
use Rattle.line_step.specs.Steps.{MachineSteps, is_second, moment_of, read_by, unread_by}
use Rattle.line_step.specs.World.{WorldParts, end_of, link_at, link_of, with_link}
use Rattle.line_step.proofs.Connecting.{free_below}
use Rattle.line_step.proofs.Keeps.{more_at}
use Rattle.line_step.proofs.Numbers.{machine_within, same_or_not}
use Rattle.step_rules.proofs.Opening.{steps_open}
use Rattle.law_one_standing.specs.Carried.{IsFitMachine, Trace}
use Rattle.law_one_standing.specs.Links.{AreWholeLinks}
use Rattle.law_one_standing.specs.Stands.{Stands}
use Rattle.law_one_standing.specs.Standing.{IsFitRequest}
use Rattle.law_one_standing.specs.Waits.{AreWaiting}
use Rattle.law_one_standing.proofs.Behind.{fit_machine}
use Rattle.law_one_standing.proofs.BlameJoins.{whole_connecting}
use Rattle.law_one_standing.proofs.BlameLines.{met_quiet, more_same}
use Rattle.law_one_standing.proofs.BlameSteps.{NewBytes, acts_fit, heard_good, new_bytes, others_stay, quiet_fit}
use Rattle.law_one_standing.proofs.Carrying.{SaysAlone}
use Rattle.law_one_standing.proofs.Counting.{is_wrong_first}
use Rattle.law_one_standing.proofs.LedgerLine.{same_nodes}
use Rattle.law_one_standing.proofs.LineForms.{numbered}
use Rattle.law_one_standing.proofs.MirroringCall.{dry_down, connected_flows}
use Rattle.law_one_standing.proofs.MirroringFlow.{CanFlow, arrival, can_flow, empty_of, no_words, bodies_drop}
use Rattle.law_one_standing.proofs.MirroringPlain.{is_plain_input, no_second}
use Rattle.law_one_standing.proofs.Plain.{node_next}
use Rattle.law_one_standing.proofs.WholeLinks.{steps as whole_steps, whole_arrival, whole_links}
use Rattle.law_history.proofs.View.{done_append, done_by, remarks_none, standings_none, told_of_act, undriven}
use Rattle.law_supervisor_replay.proofs.Bodies.{keeps_it}
use Rattle.law_supervisor_replay.proofs.Free.{Down, DownOn, IsFree, IsOther, entry_words, offers_it, starts_it}
use Rattle.law_history.proofs.LinkFlow.{at_set, flow_over, flow_spoiled, flow_whole, on_cut, on_limit, set_own}
use Rattle.law_supervisor_replay.proofs.LinkDown.{acts_down}
use Rattle.law_supervisor_replay.proofs.Receiving.{Receives, step_receives, none_both}
use Rattle.law_supervisor_replay.proofs.Sending.{step_offers_not}
use Rattle.line_step.specs.Tracks.{IsBeside}
use Rattle.line_step.proofs.Beside.{beside-lane}
use Rattle.line_step.proofs.Remarks.{unvouched_remarks}
use Rattle.line_step.specs.Requests.{Request}
use Rattle.line_step.proofs.Effects.{Effect, added_remarks, becomes_by, line_effect, spoil_remarks}
use Rattle.law_one_standing.proofs.GivenPlain.{given_plain}
use Rattle.line_step.proofs.Effects as effects

pub record StaysFree (id k : ℕ) (after : LineState) (told : List Happening) : Type 0 where
  pub starts : list_any (starts_it id) (done_by (k + 1) told) ≡ false
  pub free : keeps_it id (node_at after k).lane.body ≡ false → IsFree id k after

-- ---- acts: what is told, what a bridge signals, and what the supervisor is told

starts_first : (id : ℕ) (act : Act) (rest : List Act)
    → list_any (starts_it id) (told_of_act act ++ rest)
    ≡ (starts_it id act || list_any (starts_it id) rest)
starts_first id (acts.Drive side on) rest = refl
starts_first id act rest = refl

starts_undriven : (id : ℕ) (told : List Act)
    → list_any (starts_it id) (undriven told) ≡ list_any (starts_it id) told
starts_undriven id [] = refl
starts_undriven id (act ∷ told) =
    starts_first id act (undriven told) ∙ ap (λ (b : Bool). starts_it id act
    || b) (starts_undriven id told)

offers_last : (id : ℕ) (front : List Act) (signal : Signal) (on : Bool)
    → list_any (offers_it id) (front ++ acts.Signals signal on ∷ [])
    ≡ list_any (offers_it id) front
offers_last id [] signal on = refl
offers_last id (act ∷ front) signal on =
    ap (λ (b : Bool). offers_it id act || b) (offers_last id front signal on)

offers_signals : (id : ℕ) (made : List Act) (bridge : Option BridgeLevels) (body : Body)
    → list_any (offers_it id) (made ++ signalled bridge body) ≡ list_any (offers_it id) made
offers_signals id made bridge body =
    signals_pass (list_any (offers_it id)) (offers_last id) made bridge body

offers_tells : (id : ℕ) (desk : Desk) (watch : Watch) (made : List Act)
    → list_any (offers_it id) (with_tells desk watch made) ≡ list_any (offers_it id) made
offers_tells id desk watch made =
    tells_pass (list_any (offers_it id)) (λ act told plain h.
    ap (λ (b : Bool). offers_it id act || b) h) (λ message told. refl) desk watch made

-- ---- a step of a machine

-- a machine that keeps the board no more sends no offer of it
sends_none : (id number m : ℕ) (input : Input) (start after : LineState) (told : List Happening)
    → (steps : MachineSteps number m input start after told)
    → keeps_it id (node_at after m).lane.body ≡ false → list_any (offers_it id) steps.acts ≡ false
sends_none id number m input start after told steps none =
    ap (list_any (offers_it id)) steps.steps.told ∙ offers_signals id steps.steps.made
    steps.node.bridge steps.next.lane.body ∙ ap (list_any (offers_it id)) steps.steps.lane.told
    ∙ offers_tells id desk (watch_of desk steps.node.lane.body) (plain_did steps).acts
    ∙ step_offers_not id desk (unread_by m start.world)
    (event_of steps.node.maker input steps.steps.lane.words) steps.node.lane.body
    (sym (ap (keeps_it id) body_is) ∙ none)
  where
    desk : Desk
    desk = desk_of steps.node (moment_of number)

    body_is : (node_at after m).lane.body ≡ (plain_did steps).body
    body_is =
        ap (λ (n : NodeState). n.lane.body)
        (node_next number m input start after told steps) ∙ steps.steps.lane.body

step_down : {id : ℕ} {passes : Bool} {waiting : List ℕ} → SaysAlone
    → (k number m : ℕ) (input : Input) (start after : LineState) (told : List Happening)
    (steps : MachineSteps number m input start after told) → AreFitActs steps.acts
    → (k ≡ m → list_any (offers_it id) steps.acts ≡ false)
    → (is_second input ≡ true → k ≡ m → waiting ≡ []) → AreWholeLinks start
    → DownOn id passes waiting (link_at k start.world)
    → DownOn id passes waiting (link_at k after.world)
step_down {id} {passes} {waiting} alone k number m input start after told steps fit none dry whole
    was =
    subst (λ (s : LineState). DownOn id passes waiting (link_at k s.world)) (sym steps.after_is)
    (acts_down alone k (is_second input) m steps.acts
    (read_by m start.world) fit none dry whole was)

-- ---- the machine below, as far as it is looked at, and the link

record Ear : Type 0 where
  intake : InState
  session : SessionEnd
  bytes : List ℕ

abbrev ear_of : NodeState → Ear
ear_of n =
    record {
      intake = n.lane.body.intake;
      session = n.lane.body.entry.session;
      bytes = n.lane.entry_bytes;
    }

free_by : {id k : ℕ} (s now : LineState)
    → ear_of (node_at now (k + 1)) ≡ ear_of (node_at s (k + 1))
    → (is_open Entry (node_at s (k + 1)).lane.body ≡ true → (passes : Bool)
    → DownOn id passes (node_at s (k + 1)).lane.entry_bytes (link_at k s.world)
    → DownOn id passes (node_at s (k + 1)).lane.entry_bytes (link_at k now.world))
    → IsFree id k s → IsFree id k now
free_by {id} {k} s now same then free = record {
  offer = subst (λ (e : Ear). OfferIs (IsOther id) e.intake.offer) (sym same) free.offer;
  down = λ on.
      (let was : is_open Entry (node_at s (k + 1)).lane.body
      ≡ true = sym (ap (λ (e : Ear). is_connected_state e.session.state) same) ∙ on in
      subst (λ (e : Ear). DownOn id (passes_offers_over e.intake.phase) e.bytes
      (link_at k now.world)) (sym same)
      (then was (passes_offers_over (node_at s (k + 1)).lane.body.intake.phase)
      (free.down was)));
}

-- where the machines and the link are the same
free_same : {id k : ℕ} (s now : LineState) → now.machines ≡ s.machines
    → link_at k now.world ≡ link_at k s.world → IsFree id k s → IsFree id k now
free_same {id} {k} s now machines link =
    free_by s now (ap ear_of (same_nodes s now machines (k + 1))) (λ on passes was.
    subst (λ (l : LinkParts). DownOn id passes (node_at s (k + 1)).lane.entry_bytes l)
    (sym link) was)

-- behind a line of another track
pub free_beside : {id k : ℕ} (s now : LineState) → IsBeside s now → IsFree id k s → IsFree id k now
free_beside {id} {k} s now beside =
    free_by s now
    (ap (λ (l : Lane). record { intake = l.body.intake; session = l.body.entry.session; bytes = l.entry_bytes })
    (beside-lane s now (k + 1) beside)) (λ on passes was.
    subst (λ (w : WorldParts). DownOn id passes (node_at s (k + 1)).lane.entry_bytes (link_at k w))
    (sym beside.world) was)

set_free : (id k link : ℕ) (parts : LinkParts) (before : LineState)
    → (k ≡ link → is_open Entry (node_at before (k + 1)).lane.body ≡ true → (passes : Bool)
    → DownOn id passes (node_at before (k + 1)).lane.entry_bytes (link_at k before.world)
    → DownOn id passes (node_at before (k + 1)).lane.entry_bytes parts)
    → IsFree id k before → IsFree id k (with_world (with_link link parts before.world) before)
set_free id k link parts before here free =
    let now : LineState = with_world (with_link link parts before.world) before in
    free_by before now (ap ear_of (same_nodes before now refl (k + 1))) (λ on passes was.
    at_set Downstream k link parts before.world (λ is. here is on passes was) was) free

-- ---- what comes to the machine below, and what is left behind the words that it hears

record Incoming (id : ℕ) (passes : Bool) (words : List Word) (still : Bool) (waiting : List ℕ)
    (link : LinkParts) : Type 0 where
  messages : List Horizontal
  oldest : AreOldest words messages
  flight : OpenAll (IsOther id) passes (down_words messages)
  later : still ≡ true → (now : Bool)
      → OpenAll (IsOther id) now (down_words (drop (length words) messages))
      → DownOn id now waiting link

-- nothing is heard
incoming_quiet : {id : ℕ} {passes still : Bool} {waiting : List ℕ} (link : LinkParts)
    → DownOn id passes waiting link → Incoming id passes [] still waiting link
incoming_quiet link (flow_whole said fit open_all flows) =
    record {
      messages = bodies said;
      oldest = oldest_none;
      flight = open_all;
      later = λ on now free. flow_whole said fit free flows;
    }
incoming_quiet link (flow_spoiled spoils) =
    record {
      messages = [];
      oldest = oldest_none;
      flight = open_none;
      later = λ on now free.
          flow_spoiled spoils;
    }
incoming_quiet link (flow_over off none) =
    record {
      messages = [];
      oldest = oldest_none;
      flight = open_none;
      later = λ on now free.
          flow_over off none;
    }

-- nothing comes
incoming_none : {id : ℕ} {passes still : Bool} {waiting : List ℕ} (link : LinkParts)
    → (still ≡ true → (now : Bool) → DownOn id now waiting link)
    → Incoming id passes [] still waiting link
incoming_none link then =
    record {
      messages = [];
      oldest = oldest_none;
      flight = open_none;
      later = λ on now free.
          then on now;
    }

-- a piece arrives
incoming_piece : {id : ℕ} {passes stands : Bool} {old piece new : List ℕ} {still : Bool}
    → SaysAlone → (words : List Word) (stream later : Stream) (link : LinkParts)
    → link.flows.to_downstream ≡ later → coming stream ≡ piece ++ coming later
    → is_empty (coming stream) ≡ false
    → AreWords old piece new still words → (still ≡ true → is_wrong_first words ≡ false)
    → Down id passes stands old (coming stream) → Incoming id passes words still new link
incoming_piece {id = id} {old = old} {piece = piece} {new = new} {still = still} alone words stream
    later link rest is some are good (flow_whole said fit open_all flows) =
    let h : Heard said words new (coming later) still =
    alone.oldest old piece (coming later) new still words said (alone.sayable said fit)
    (subst (λ (bytes : List ℕ). FlowsAs old bytes (texts_of said)) is flows) are in
    record {
      messages = bodies said;
      oldest = h.oldest;
      flight = open_all;
      later = λ on now free.
          flow_whole (drop (length words) said) (fit_behind (length words) said fit)
          (subst (λ (ms : List Horizontal). OpenAll (IsOther id) now (down_words ms))
          (sym (bodies_drop (length words) said)) free)
          (subst (λ (s : Stream). FlowsAs new (coming s) (texts_of (drop (length words) said)))
          (sym rest) (h.flows on));
    }
incoming_piece {old = old} {piece = piece} {new = new} {still = still} alone words stream later
    link rest is some are good (flow_spoiled spoils) =
    let h : HeardSpoiled [] words new (coming later) still =
    alone.wrong old piece (coming later) new still words []
    (subst (λ (bytes : List ℕ). Spoiled old bytes) is spoils) are in
    record {
      messages = [];
      oldest = h.oldest;
      flight = open_none;
      later = λ on now free.
          flow_spoiled
          (subst (λ (s : Stream). Spoiled new (coming s)) (sym rest)
          (h.spoiled on (no_words words h.oldest (good on))));
    }
incoming_piece alone words stream later link rest is some are good (flow_over off nothing) =
    absurd (false≢true (sym some ∙ empty_of (coming stream) nothing))

-- ---- the link behind a step

record Goes (id k m : ℕ) (after : LineState) (told : List Happening) : Type 0 where
  starts : list_any (starts_it id) (done_by (k + 1) told) ≡ false
  now : (k ≡ m → keeps_it id (node_at after k).lane.body ≡ false) → IsFree id k after

stays : {id k m : ℕ} {after : LineState} {told : List Happening} → Goes id k m after told
    → StaysFree id k after told
stays goes = record { starts = goes.starts; free = λ none. goes.now (λ is. none) }

not_next : (k m : ℕ) → k + 1 ≡ m → k ≢ m
not_next k m is = omega (arith, is)

-- the machine below makes it
below_goes : SaysAlone
    → (id k number m : ℕ) (input : Input) (start after : LineState) (told : List Happening)
    → k + 1 ≡ m → (steps : MachineSteps number m input start after told) → AreFitActs steps.acts
    → AreWholeLinks start → OfferIs (IsOther id) (node_at start (k + 1)).lane.body.intake.offer
    → Incoming id (passes_offers_over steps.node.lane.body.intake.phase)
    (entry_words (event_of steps.node.maker input steps.steps.lane.words))
    (is_open Entry steps.next.lane.body) steps.next.lane.entry_bytes (link_at k start.world)
    → Goes id k m after told
below_goes alone id k number m input start after told is steps fit whole offer into = record {
  starts = ap (λ (n : ℕ). list_any (starts_it id) (done_by n told)) is ∙ ap
      (list_any (starts_it id))
      (own_plain number m input start after told steps) ∙ starts_undriven id
      (plain_did steps).acts ∙ r.starts;
  now = λ none. record {
    offer = subst (λ (b : Body). OfferIs (IsOther id) b.intake.offer) (sym body_is) r.offer;
    down = λ on.
        subst (λ (n : NodeState). DownOn id passes n.lane.entry_bytes (link_at k after.world))
        (sym here_is)
        (step_down alone k number m input start after told steps fit (λ other.
        absurd (not_next k m is other)) (λ second other.
        absurd (not_next k m is other)) whole
        (into.later (sym (ap (λ (n : NodeState). is_open Entry n.lane.body) here_is) ∙ on) passes
        (subst (λ (b : Body). OpenAll (IsOther id) (passes_offers_over b.intake.phase)
        (down_words (drop (length words) into.messages))) (sym body_is)
        (r.flight (sym (ap (is_open Entry) body_is) ∙ on)))));
  };
} where
  words : List Word
  words = entry_words (event_of steps.node.maker input steps.steps.lane.words)

  passes : Bool
  passes = passes_offers_over (node_at after (k + 1)).lane.body.intake.phase

  was : node_at start (k + 1) ≡ steps.node
  was = ap (λ (n : ℕ). node_at start n) is ∙ node_there m start steps.node steps.there

  here_is : node_at after (k + 1) ≡ steps.next
  here_is = ap (λ (n : ℕ). node_at after n) is ∙ node_next number m input start after told steps

  body_is : (node_at after (k + 1)).lane.body ≡ (plain_did steps).body
  body_is = ap (λ (n : NodeState). n.lane.body) here_is ∙ steps.steps.lane.body

  r : Receives id words into.messages (plain_did steps)
  r = step_receives id (desk_of steps.node (moment_of number)) (unread_by m start.world)
      (event_of steps.node.maker input steps.steps.lane.words) steps.node.lane.body into.messages
      into.oldest
      (subst (λ (n : NodeState). OfferIs (IsOther id) n.lane.body.intake.offer) was offer)
      into.flight

-- where the machine above answers a second connection, nothing waits at the entry
abbrev IsDry : ℕ → ℕ → Input → LineState → Type 0
IsDry k m input start =
    is_second input ≡ true → k ≡ m → (node_at start (k + 1)).lane.entry_bytes ≡ []

-- another machine makes it
beside_goes : SaysAlone
    → (id k number m : ℕ) (input : Input) (start after : LineState) (told : List Happening)
    → k + 1 ≢ m → (steps : MachineSteps number m input start after told) → AreFitActs steps.acts
    → IsDry k m input start → AreWholeLinks start → IsFree id k start → Goes id k m after told
beside_goes alone id k number m input start after told apart steps fit dry whole free = record {
  starts = ap (list_any (starts_it id))
      (other_done (k + 1) number m input start after told steps apart);
  now = λ none.
      free_by start after
      (ap ear_of (others_stay number m input start after told steps (k + 1) apart))
      (λ on passes was. step_down alone k number m input start after told steps fit
      (λ is. sends_none id number m input start after told steps
      (subst (λ (n : ℕ). keeps_it id (node_at after n).lane.body ≡ false) is (none is))) dry
      whole was) free;
}

-- ---- an input that brings nothing to the entry and doesn't connect it

abbrev still_entry : Input → Bool
still_entry (inputs.Bytes Entry piece) = false
still_entry inputs.Connect = false
still_entry _ = true

new_none : (found : Result ℕ IdsUsedUp) (event : ℕ → Event)
    → ((id : ℕ) → entry_words (event id) ≡ []) → entry_words (with_new found event) ≡ []
new_none (Ok id) event all = all id
new_none (Err why) event all = refl

still_words : (maker : Maker) (input : Input) (words : List Word) → still_entry input ≡ true
    → entry_words (event_of maker input words) ≡ []
still_words maker (inputs.Bytes Entry piece) words still = absurd (false≢true still)
still_words maker (inputs.Insert barcode) words still =
    new_none (next_id maker) (λ id. events.Insert id barcode) (λ id. refl)
still_words maker (inputs.Replace old) words still =
    new_none (next_id maker) (events.Replace old) (λ id. refl)
still_words maker _ words still = refl

still_bytes : (input : Input) (old new : Lane) (words : List Word) → still_entry input ≡ true
    → Brings input old new words → new.entry_bytes ≡ old.entry_bytes
still_bytes (inputs.Bytes Entry piece) old new words still brings = absurd (false≢true still)
still_bytes (inputs.Bytes Exit piece) old new words still brings = brings.1
still_bytes inputs.Connect old new words still brings = absurd (false≢true still)
still_bytes _ old new words still brings = brings.0

still_opened : (input : Input) (opened : Bool) → still_entry input ≡ true
    → opened_by input Entry opened ≡ opened
still_opened inputs.Connect opened still = absurd (false≢true still)
still_opened _ opened still = refl

shut_act : (act : Act) → open_act Entry false act ≡ false
shut_act (acts.Closes Entry) = refl
shut_act (acts.Notices Entry) = refl
shut_act _ = refl

shut_stays : (told : List Act) → open_after Entry false told ≡ false
shut_stays [] = refl
shut_stays (act ∷ told) =
    ap (λ (o : Bool). open_after Entry o told) (shut_act act) ∙ shut_stays told

-- an entry that isn't open stays so
still_shut : (number m : ℕ) (input : Input) (start after : LineState) (told : List Happening)
    → still_entry input ≡ true → (steps : MachineSteps number m input start after told)
    → is_open Entry steps.node.lane.body ≡ false → is_open Entry steps.next.lane.body ≡ false
still_shut number m input start after told still steps off =
    steps_open steps.node (unread_by m start.world) input
    (moment_of number) steps.next steps.acts Entry steps.steps
    ∙ ap (λ (o : Bool). open_after Entry o steps.acts)
    (still_opened input (is_open Entry steps.node.lane.body) still ∙ off) ∙ shut_stays
    steps.acts

still_incoming : (id k number m : ℕ) (input : Input) (start after : LineState)
    (told : List Happening) → k + 1 ≡ m → still_entry input ≡ true
    → (steps : MachineSteps number m input start after told) → IsFree id k start
    → Incoming id (passes_offers_over steps.node.lane.body.intake.phase)
    (entry_words (event_of steps.node.maker input steps.steps.lane.words))
    (is_open Entry steps.next.lane.body) steps.next.lane.entry_bytes (link_at k start.world)
still_incoming id k number m input start after told is still steps free =
    subst (λ (ws : List Word). Incoming id passes ws
    (is_open Entry steps.next.lane.body) steps.next.lane.entry_bytes L)
    (sym (still_words steps.node.maker input steps.steps.lane.words still))
    (subst (λ (b : List ℕ). Incoming id passes [] (is_open Entry steps.next.lane.body) b L)
    (sym (still_bytes input steps.node.lane steps.next.lane steps.steps.lane.words still
    steps.steps.lane.brings)) (by (is_open Entry steps.node.lane.body) refl))
  where
    passes : Bool
    passes = passes_offers_over steps.node.lane.body.intake.phase

    L : LinkParts
    L = link_at k start.world

    was : node_at start (k + 1) ≡ steps.node
    was = ap (λ (n : ℕ). node_at start n) is ∙ node_there m start steps.node steps.there

    by : (test : Bool) → is_open Entry steps.node.lane.body ≡ test
        → Incoming id passes [] (is_open Entry steps.next.lane.body) steps.node.lane.entry_bytes L
    by true on =
        incoming_quiet L
        (subst (λ (n : NodeState). DownOn id
        (passes_offers_over n.lane.body.intake.phase) n.lane.entry_bytes L) was
        (free.down (ap (λ (n : NodeState). is_open Entry n.lane.body) was ∙ on)))
    by false off =
        incoming_none L (λ on now.
        absurd (false≢true
        (sym (still_shut number m input start after told still steps off) ∙ on)))

step_goes : SaysAlone
    → (id k number m : ℕ) (input : Input) (start after : LineState) (told : List Happening)
    → (k + 1 ≡ m → still_entry input ≡ true)
    → (steps : MachineSteps number m input start after told) → AreFitActs steps.acts
    → IsDry k m input start → AreWholeLinks start → IsFree id k start → Goes id k m after told
step_goes alone id k number m input start after told still steps fit dry whole free =
    by (same_or_not (k + 1) m)
  where
    by : (k + 1 ≡ m) ⊎ (k + 1 ≢ m) → Goes id k m after told
    by (inl is) =
        below_goes alone id k number m input start after told is steps fit whole free.offer
        (still_incoming id k number m input start after told is (still is) steps free)
    by (inr apart) =
        beside_goes alone id k number m input start after told apart steps fit dry whole free

plain_still : (input : Input) → is_plain_input input ≡ true → still_entry input ≡ true
plain_still (inputs.Bytes side piece) plain = absurd (false≢true plain)
plain_still inputs.Connect plain = absurd (false≢true plain)
plain_still _ plain = refl

plain_free : SaysAlone
    → (id k number m : ℕ) (input : Input) (t : Trace) (before next : LineState)
    (told : List Happening) → is_plain_input input ≡ true → IsFitInput input → number ≤ 1000000
    → Stands t before → IsFree id k before → MachineSteps number m input before next told
    → StaysFree id k next told
plain_free alone id k number m input t before next told plain fits few st free steps =
    stays (step_goes alone id k number m input before next told (λ is.
    plain_still input plain) steps
    (quiet_fit number m input before next told (not_bytes input plain) fits few
    (st.fit m) steps)
    (λ second. absurd (false≢true (sym (no_second input plain) ∙ second))) st.links free)

-- ---- a line without a step

still_free : (id k : ℕ) (now : LineState) (what : List Happening) → done_by (k + 1) what ≡ []
    → IsFree id k now → StaysFree id k now what
still_free id k now what none free =
    record { starts = ap (list_any (starts_it id)) none; free = λ gone. free }

-- the link of one number is another
changed_free : (id k link : ℕ) (parts : LinkParts) (before : LineState) (what : List Happening)
    → done_by (k + 1) what ≡ [] → IsFree id k before
    → (k ≡ link → is_open Entry (node_at before (k + 1)).lane.body ≡ true → (passes : Bool)
    → DownOn id passes (node_at before (k + 1)).lane.entry_bytes (link_at k before.world)
    → DownOn id passes (node_at before (k + 1)).lane.entry_bytes parts)
    → StaysFree id k (with_world (with_link link parts before.world) before) what
changed_free id k link parts before what none free here =
    still_free id k (with_world (with_link link parts before.world) before) what none
    (set_free id k link parts before here free)

-- ---- bytes arrive

flow_acts_fit : SaysAlone
    → (t : Trace) (number j : ℕ) (side : Side) (count : Option ℕ) (before after : LineState)
    (told : List Happening) → number ≤ 1000000 → CanFlow (j + 1) side before → Stands t before
    → (flows : Flows number (j + 1) side count before after told) → AreFitActs flows.steps.acts
flow_acts_fit alone t number j side count before after told few can st flows =
    let start : LineState = arrived (j + 1) side count before in
    acts_fit number (j + 1) (inputs.Bytes side flows.piece) start after told few
    (fit_machine before start (j + 1) (same_nodes before start refl (j + 1))
    (st.fit (j + 1))) flows.steps
    (flow_fits alone t number j side count before after told can st flows)

below_number : (k m : ℕ) → k + 1 ≡ m → k ≡ m - 1
below_number k m is = omega (arith, is)

-- to the entry of the machine below
flow_incoming : SaysAlone
    → (id k number m : ℕ) (count : Option ℕ) (before next : LineState) (told : List Happening)
    → k + 1 ≡ m → CanFlow m Entry before → IsFree id k before
    → (flows : Flows number m Entry count before next told)
    → Incoming id
    (passes_offers_over flows.steps.node.lane.body.intake.phase) flows.steps.steps.lane.words
    (is_open Entry flows.steps.next.lane.body) flows.steps.next.lane.entry_bytes
    (link_at k (arrived m Entry count before).world)
flow_incoming alone id k number m count before next told is can free flows =
    record {
      messages = into.messages;
      oldest = into.oldest;
      flight = into.flight;
      later = λ on now rest.
          subst (λ (n : ℕ). DownOn id now flows.steps.next.lane.entry_bytes (link_at n start.world))
          (sym link_is) (set_own Downstream (m - 1) parts before.world (into.later on now rest));
    }
  where
    start : LineState
    start = arrived m Entry count before

    parts : LinkParts
    parts = after_flow Downstream count (link_at (m - 1) before.world)

    link_is : k ≡ m - 1
    link_is = below_number k m is

    node : NodeState
    node = flows.steps.node

    stream : Stream
    stream = (link_at (m - 1) before.world).flows.to_downstream

    was : node_at before (k + 1) ≡ node
    was = ap (λ (n : ℕ). node_at before n) is ∙ node_there m before node flows.steps.there

    opened : is_open Entry (node_at before (k + 1)).lane.body ≡ true
    opened = ap (λ (n : ℕ). is_open Entry (node_at before n).lane.body) is ∙ ap
        (λ (n : NodeState). is_open Entry n.lane.body)
        (node_there m before can.node can.there) ∙ can.opened

    waits : DownOn id (passes_offers_over node.lane.body.intake.phase) node.lane.entry_bytes
        (link_at (m - 1) before.world)
    waits = subst
        (λ (n : ℕ). DownOn id
        (passes_offers_over node.lane.body.intake.phase) node.lane.entry_bytes
        (link_at n before.world)) link_is
        (subst (λ (n : NodeState). DownOn id
        (passes_offers_over n.lane.body.intake.phase) n.lane.entry_bytes
        (link_at k before.world)) was (free.down opened))

    into : Incoming id
        (passes_offers_over node.lane.body.intake.phase) flows.steps.steps.lane.words
        (is_open Entry flows.steps.next.lane.body) flows.steps.next.lane.entry_bytes parts
    into = incoming_piece alone flows.steps.steps.lane.words stream
        (with_arrival (flowing count stream) stream) parts refl
        (arrival (flowing count stream) stream flows.piece.now flows.bytes) can.comes
        flows.steps.steps.lane.brings.0
        (heard_good number m Entry flows.piece start next told flows.steps) waits

entry_free : SaysAlone
    → (id k number j : ℕ) (count : Option ℕ) (t : Trace) (before next : LineState)
    (told : List Happening) → CanFlow (j + 1) Entry before → number ≤ 1000000 → Stands t before
    → IsFree id k before → Flows number (j + 1) Entry count before next told
    → StaysFree id k next told
entry_free alone id k number j count t before next told can few st free flows =
    stays (by (same_or_not (k + 1) m))
  where
    m : ℕ
    m = j + 1

    start : LineState
    start = arrived m Entry count before

    parts : LinkParts
    parts = after_flow Downstream count (link_at (m - 1) before.world)

    fit : AreFitActs flows.steps.acts
    fit = flow_acts_fit alone t number j Entry count before next told few can st flows

    whole : AreWholeLinks start
    whole = whole_links (m - 1) parts before.world st.links
        (whole_arrival Downstream count (link_at (m - 1) before.world) (st.links (m - 1)))

    beside : k + 1 ≢ m → k ≢ m - 1
    beside apart is = apart (omega (arith, is))

    by : (k + 1 ≡ m) ⊎ (k + 1 ≢ m) → Goes id k m next told
    by (inl is) =
        below_goes alone id k number m
        (inputs.Bytes Entry flows.piece) start next told is flows.steps fit whole
        (subst (λ (n : NodeState). OfferIs (IsOther id) n.lane.body.intake.offer)
        (sym (same_nodes before start refl (k + 1))) free.offer)
        (flow_incoming alone id k number m count before next told is can free flows)
    by (inr apart) =
        beside_goes alone id k number m
        (inputs.Bytes Entry flows.piece) start next told apart flows.steps fit (λ second.
        absurd (false≢true second)) whole (set_free id k (m - 1) parts before (λ is on passes was.
        absurd (beside apart is)) free)

-- to an exit
exit_free : SaysAlone
    → (id k number j : ℕ) (count : Option ℕ) (t : Trace) (before next : LineState)
    (told : List Happening) → CanFlow (j + 1) Exit before → number ≤ 1000000 → Stands t before
    → IsFree id k before → Flows number (j + 1) Exit count before next told
    → StaysFree id k next told
exit_free alone id k number j count t before next told can few st free flows =
    let m : ℕ = j + 1 in
    let start : LineState = arrived m Exit count before in
    let parts : LinkParts = after_flow Upstream count (link_at m before.world) in
    stays (step_goes alone id k number m (inputs.Bytes Exit flows.piece) start next told (λ is.
    refl) flows.steps
    (flow_acts_fit alone t number j Exit count before next told few can st flows)
    (λ second. absurd (false≢true second))
    (whole_links m parts before.world st.links
    (whole_arrival Upstream count (link_at m before.world) (st.links m)))
    (set_free id k m parts before (λ is on passes was.
    subst (λ (n : ℕ). DownOn id passes (node_at before (k + 1)).lane.entry_bytes
    (link_at n before.world)) is was) free))

flow_side : SaysAlone
    → (id k number j : ℕ) (side : Side) (count : Option ℕ) (t : Trace) (before next : LineState)
    (told : List Happening) → CanFlow (j + 1) side before → number ≤ 1000000 → Stands t before
    → IsFree id k before → Flows number (j + 1) side count before next told
    → StaysFree id k next told
flow_side alone id k number j Entry count t before next told can few st free flows =
    entry_free alone id k number j count t before next told can few st free flows
flow_side alone id k number j Exit count t before next told can few st free flows =
    exit_free alone id k number j count t before next told can few st free flows

flow_free : SaysAlone
    → (id k number m : ℕ) (side : Side) (count : Option ℕ) (t : Trace) (before next : LineState)
    (told : List Happening) → may_flow m side before ≡ may_do → number ≤ 1000000 → Stands t before
    → IsFree id k before → Flows number m side count before next told → StaysFree id k next told
flow_free alone id k number m side count t before next told may few st free flows =
    numbered (λ (n : ℕ). may_flow n side before ≡ may_do
    → Flows number n side count before next told
    → StaysFree id k next told) m before flows.steps.node flows.steps.there
    (λ j may flows.
    flow_side alone id k number j side count t before next told
    (can_flow (j + 1) side before may) few st free flows) may flows

-- ---- a connection is made

none_twice : (id k : ℕ) (earlier later told : List Happening) → told ≡ earlier ++ later
    → list_any (starts_it id) (done_by (k + 1) earlier) ≡ false
    → list_any (starts_it id) (done_by (k + 1) later) ≡ false
    → list_any (starts_it id) (done_by (k + 1) told) ≡ false
none_twice id k earlier later told is one two =
    ap (λ (l : List Happening). list_any (starts_it id) (done_by (k + 1) l)) is ∙ ap
    (list_any (starts_it id)) (done_append (k + 1) earlier later) ∙ none_both id
    (done_by (k + 1) earlier) (done_by (k + 1) later) one two

met_still : (on : Connected) → still_entry (met on) ≡ true
met_still connections.Accepted = refl
met_still connections.Second = refl

-- the entry that connects has no bytes, and nothing flows to it
connect_incoming : (id k number m : ℕ) (before between : LineState) (earlier : List Happening)
    → k + 1 ≡ m → (link_at (m - 1) before.world).downstream ≡ None → AreWholeLinks before
    → (steps : MachineSteps number m inputs.Connect (connecting m before) between earlier)
    → Incoming id (passes_offers_over steps.node.lane.body.intake.phase) []
    (is_open Entry steps.next.lane.body) steps.next.lane.entry_bytes
    (link_at k (connecting m before).world)
connect_incoming id k number m before between earlier is below whole steps =
    incoming_none (link_at k (connecting m before).world) (λ on now.
    subst (λ (w : List ℕ). DownOn id now w (link_at k (connecting m before).world))
    (sym steps.steps.lane.brings.0)
    (subst (λ (n : ℕ). DownOn id now [] (link_at n (connecting m before).world))
    (sym (below_number k m is))
    (set_own Downstream (m - 1) (after_connect L) before.world
    (flow_whole [] none_fit open_none
    (subst (λ (b : List ℕ). FlowsAs [] b []) (sym none) nothing_flows)))))
  where
    L : LinkParts
    L = link_at (m - 1) before.world

    none : coming (after_connect L).flows.to_downstream ≡ []
    none = ap (λ f. coming f.to_downstream)
        (connected_flows L.upstream (next_number L.made) L) ∙ dry_down L (whole (m - 1)) below

record Joins (number m : ℕ) (input : Input) (before between next : LineState)
    (earlier later told : List Happening) : Type 0 where
  counted : 1 ≤ m
  still : still_entry input ≡ true
  first : MachineSteps number m inputs.Connect (connecting m before) between earlier
  second : MachineSteps number (m - 1) input between next later
  fit_one : AreFitActs first.acts
  fit_two : AreFitActs second.acts
  whole_one : AreWholeLinks (connecting m before)
  whole_two : AreWholeLinks between
  told_is : told ≡ earlier ++ later

-- the machine below connects
joins_below : SaysAlone
    → (id k number m : ℕ) (input : Input) (before between next : LineState)
    (earlier later told : List Happening) → k + 1 ≡ m
    → (link_at (m - 1) before.world).downstream ≡ None → AreWholeLinks before → IsFree id k before
    → Joins number m input before between next earlier later told → StaysFree id k next told
joins_below alone id k number m input before between next earlier later told is below whole free j
    =
    let begin : LineState = connecting m before in
    let one : Goes id k m between earlier =
    below_goes alone id k number m inputs.Connect begin between earlier is j.first j.fit_one
    j.whole_one (subst (λ (n : NodeState). OfferIs (IsOther id) n.lane.body.intake.offer)
    (sym (same_nodes before begin refl (k + 1))) free.offer)
    (connect_incoming id k number m before between earlier is below whole j.first) in
    let two : Goes id k (m - 1) next later =
    step_goes alone id k number (m - 1) input between next later (λ other.
    j.still) j.second j.fit_two
    (λ second other.
    ap (λ (n : ℕ). (node_at between n).lane.entry_bytes) is ∙
    (new_bytes number m inputs.Connect begin between earlier refl j.first).entry) j.whole_two
    (one.now (λ other. absurd (not_next k m is other))) in
    record {
      starts = none_twice id k earlier later told j.told_is one.starts two.starts;
      free = λ none. two.now (λ other. none);
    }

-- another machine does
joins_beside : SaysAlone
    → (id k number m : ℕ) (input : Input) (before between next : LineState)
    (earlier later told : List Happening) → k + 1 ≢ m → IsFree id k before
    → Joins number m input before between next earlier later told → StaysFree id k next told
joins_beside alone id k number m input before between next earlier later told apart free j =
    record {
      starts = none_twice id k earlier later told j.told_is one.starts (starts_two (same_or_not k m));
      free = λ none.
          (two (one.now (λ is.
          sym (ap (λ (n : NodeState). keeps_it id n.lane.body)
          (others_stay number (m - 1) input between next later j.second k beside)) ∙ none))).now (λ is.
          absurd (beside is));
    } where
      begin : LineState
      begin = connecting m before

      beside : k ≢ m - 1
      beside is = (let counted : 1 ≤ m = j.counted in apart (omega (arith, counted, is)))

      one : Goes id k m between earlier
      one = beside_goes alone id k number m inputs.Connect begin between earlier apart j.first
          j.fit_one (λ second. absurd (false≢true second)) j.whole_one
          (set_free id k (m - 1) (after_connect (link_at (m - 1) before.world)) before
          (λ is on passes was. absurd (beside is)) free)

      two : IsFree id k between → Goes id k (m - 1) next later
      two now =
          step_goes alone id k number (m - 1) input between next later (λ other.
          j.still) j.second j.fit_two (λ second is. absurd (beside is)) j.whole_two now

      above : k ≡ m → k + 1 ≢ m - 1
      above is = omega (arith, is)

      starts_two : (k ≡ m) ⊎ (k ≢ m) → list_any (starts_it id) (done_by (k + 1) later) ≡ false
      starts_two (inl is) =
          ap (list_any (starts_it id))
          (other_done (k + 1) number (m - 1) input between next later j.second (above is))
      starts_two (inr other) = (two (one.now (λ is. absurd (other is)))).starts

joins_of : (number m : ℕ) (t : Trace) (before next : LineState) (told : List Happening)
    → number ≤ 1000000 → Stands t before → (twice : Connects number m before next told)
    → Joins number m
    (met (connected_of (link_at (m - 1) before.world).upstream)) before twice.between next
    twice.earlier twice.later told
joins_of number m t before next told few st twice = record {
  counted = counted;
  still = met_still on;
  first = twice.first;
  second = twice.second;
  fit_one =
      quiet_fit number m inputs.Connect begin twice.between twice.earlier refl tt few
      (fit_machine before begin m (same_nodes before begin refl m) (st.fit m)) twice.first;
  fit_two =
      quiet_fit number (m - 1) (met on) twice.between next twice.later (met_quiet on)
      (met_fits on) few fit_two twice.second;
  whole_one = whole;
  whole_two =
      whole_steps number m inputs.Connect begin twice.between twice.earlier twice.first whole;
  told_is = twice.told_is;
} where
  on : Connected
  on = connected_of (link_at (m - 1) before.world).upstream

  begin : LineState
  begin = connecting m before

  counted : 1 ≤ m
  counted = (machine_within m begin twice.first.node twice.first.there).0

  beside : m - 1 ≢ m
  beside = omega (arith, counted)

  whole : AreWholeLinks begin
  whole = whole_connecting m before st.links

  new : NewBytes m inputs.Connect begin twice.between
  new = new_bytes number m inputs.Connect begin twice.between twice.earlier refl twice.first

  fit_two : IsFitMachine twice.between (m - 1)
  fit_two =
      fit_machine before twice.between (m - 1)
      (new.others (m - 1) beside ∙ same_nodes before begin refl (m - 1)) (st.fit (m - 1))

connect_free : SaysAlone
    → (id k number m : ℕ) (t : Trace) (before next : LineState) (told : List Happening)
    → may_connect m before ≡ may_do → number ≤ 1000000 → Stands t before → IsFree id k before
    → Connects number m before next told → StaysFree id k next told
connect_free alone id k number m t before next told may few st free twice =
    by (same_or_not (k + 1) m)
  where
    input : Input
    input = met (connected_of (link_at (m - 1) before.world).upstream)

    joins : Joins number m input before twice.between next twice.earlier twice.later told
    joins = joins_of number m t before next told few st twice

    by : (k + 1 ≡ m) ⊎ (k + 1 ≢ m) → StaysFree id k next told
    by (inl is) =
        joins_below alone id k number m input before twice.between next twice.earlier twice.later
        told is (free_below m before st.together may) st.links free joins
    by (inr apart) =
        joins_beside alone id k number m input before twice.between next twice.earlier twice.later
        told apart free joins

-- ---- the other forms

spoil_down : {id : ℕ} {passes : Bool} (k m : ℕ) (side : Side) (before : LineState)
    → AreWholeLinks before → AreWaiting before → k ≡ link_of m side
    → is_open Entry (node_at before (k + 1)).lane.body ≡ true
    → DownOn id passes (node_at before (k + 1)).lane.entry_bytes (link_at k before.world)
    → DownOn id passes (node_at before (k + 1)).lane.entry_bytes
    (after_spoil (end_of side) (link_at (link_of m side) before.world))
spoil_down {id} {passes} k m Exit before whole waits is on was =
    let L : LinkParts = link_at m before.world in
    on_limit Downstream (is_too_much Upstream (nulled Upstream L)) (nulled Upstream L)
    (subst (λ (n : ℕ). DownOn id passes (node_at before (k + 1)).lane.entry_bytes
    (link_at n before.world)) is was)
spoil_down k m Entry before whole waits is on was =
    let L : LinkParts = link_at (m - 1) before.world in
    let bytes : List ℕ = (node_at before (k + 1)).lane.entry_bytes in
    let needs : answer_of bytes ≡ NeedMore = waits (k + 1) Entry on in
    on_limit Downstream (is_too_much Downstream (nulled Downstream L)) (nulled Downstream L)
    (flow_spoiled
    (subst (λ (b : List ℕ). Spoiled bytes b)
    (sym (coming_of_nul L.flows.to_downstream (whole (m - 1)).begun.downstream))
    (puts_a_nul bytes (coming L.flows.to_downstream) needs)))

spoil_free : (id k m : ℕ) (side : Side) (t : Trace) (before : LineState) → Stands t before
    → AreWaiting before → IsFree id k before
    → StaysFree id k (spoiled m side before) (spoil_told m side before)
spoil_free id k m side t before st waits free =
    changed_free id k (link_of m side)
    (after_spoil (end_of side) (link_at (link_of m side) before.world)) before
    (spoil_told m side before)
    (remarks_none (k + 1) (spoil_told m side before) (spoil_remarks m side before)) free
    (λ is on passes was. spoil_down k m side before st.links waits is on was)

more_free : (lane : ℕ) (is_bridge : Bool) (capacity used id k : ℕ) (before : LineState) → IsFree id k before
    → IsFree id k (one_more lane is_bridge capacity used before)
more_free lane is_bridge capacity used id k before free =
    free_by before (one_more lane is_bridge capacity used before)
    (more_same ear_of lane is_bridge capacity used before refl (k + 1))
    (λ on passes was.
    subst (λ (l : LinkParts). DownOn id passes (node_at before (k + 1)).lane.entry_bytes l)
    (sym (more_at lane is_bridge capacity used before k)) was) free

effect_free : SaysAlone
    → (id k number : ℕ) (request : Request) (t : Trace) (before next : LineState)
    (told : List Happening) → number ≤ 1000000 → IsFitRequest request → Stands t before
    → AreWaiting before → IsFree id k before → Effect number before next told request
    → StaysFree id k next told
effect_free alone id k number request t before next told few fit st waits free
    (effects.rests _ what remarks b) =
    becomes_by (StaysFree id k) b
    (still_free id k before what (remarks_none (k + 1) what remarks) free)
effect_free alone id k number request t before next told few fit st waits free
    (effects.adds lane is_bridge capacity used may b) =
    becomes_by (StaysFree id k) b
    (still_free id k (one_more lane is_bridge capacity used before) _
    (remarks_none (k + 1) _ (added_remarks is_bridge capacity before))
    (more_free lane is_bridge capacity used id k before free))
effect_free alone id k number request t before next told few fit st waits free
    (effects.steps m input given may did) =
    plain_free alone id k number m input t before next told (given_plain input given) fit few st
    free did
effect_free alone id k number request t before next told few fit st waits free
    (effects.connects m may did) =
    connect_free alone id k number m t before next told may few st free did
effect_free alone id k number request t before next told few fit st waits free
    (effects.flows m side count may did) =
    flow_free alone id k number m side count t before next told may few st free did
effect_free alone id k number request t before next told few fit st waits free
    (effects.cuts gap may b) =
    becomes_by (StaysFree id k) b
    (changed_free id k gap (cut (link_at gap before.world)) before _ refl free
    (λ is on passes was. on_cut Downstream (link_at gap before.world)))
effect_free alone id k number request t before next told few fit st waits free
    (effects.spoils m side may b) =
    becomes_by (StaysFree id k) b (spoil_free id k m side t before st waits free)
effect_free alone id k number request t before next told few fit st waits free
    (effects.moves gap step floor is b) =
    becomes_by (StaysFree id k) b
    (still_free id k (moved (Ok floor) before) _ refl
    (free_same before (moved (Ok floor) before) refl refl free))
effect_free alone id k number request t before next told few fit st waits free
    (effects.lies m sensed may b) =
    becomes_by (StaysFree id k) b
    (still_free id k (lied number m sensed before) _
    (remarks_none (k + 1) _ (unvouched_remarks before.unvouched))
    (free_same before (lied number m sensed before) refl refl free))
effect_free alone id k number request t before next told few fit st waits free
    (effects.unsees m side may b) =
    becomes_by (StaysFree id k) b
    (still_free id k (unseen number m side before) _
    (remarks_none (k + 1) _ (unvouched_remarks before.unvouched))
    (free_same before (unseen number m side before) refl refl free))

-- ---- EACH LINE

-- the line is counted, and the standings that changed are told
counted_free : (id k lines : ℕ) (next : LineState) (a b : List Happening) → done_by (k + 1) b ≡ []
    → StaysFree id k next a → StaysFree id k (record next { lines = lines }) (a ++ b)
counted_free id k lines next a b none one =
    let now : LineState = record next { lines = lines } in
    let same : done_by (k + 1) (a ++ b) ≡ done_by (k + 1) a =
    done_append (k + 1) a b ∙ ap (λ (l : List Act). done_by (k + 1) a ++ l) none ∙ append-nil
    (done_by (k + 1) a) in
    record {
      starts = ap (list_any (starts_it id)) same ∙ one.starts;
      free = λ gone.
          free_same next now refl refl
          (one.free
          (sym (ap (λ (n : NodeState). keeps_it id n.lane.body) (same_nodes next now refl k)) ∙
          gone));
    }

pub line_free : SaysAlone
    → (id k number : ℕ) (request : Request) (t : Trace) (before after : LineState)
    (told : List Happening)
    → number ≤ 1000000 → IsFitRequest request → Stands t before → AreWaiting before
    → LineSteps number request before after told
    → IsFree id k before → StaysFree id k after told
line_free alone id k number request t before after told few fit st waits steps free =
    let next : LineState = steps.next in
    let one : StaysFree id k next steps.done =
    effect_free alone id k number request t before next steps.done few
    fit st waits free (line_effect number request before next steps.done steps.does)
    in
    subst (λ (s : LineState). StaysFree id k s told) (sym steps.after_is)
    (subst (λ (l : List Happening). StaysFree id k (record next { lines = steps.lines }) l)
    (sym steps.told_is) (counted_free id k steps.lines next steps.done (standings_told before next)
    (standings_none (k + 1) before next) one))

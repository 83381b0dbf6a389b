-- A LINE, as each machine sees it: the machine is as it was and tells nothing, or it made one step from what it was before
-- the line, of which the report tells all acts but the switching of drives.
use Rattle.std.proofs.Common.{Bool, Err, List, Ok, Option, Result, [], ap, append-nil, append_assoc, arith, false, inl, inr, length, ne_eqb, refl, suc, subst, sym, true, zero, ℕ, ◌&&◌, ◌++◌, ◌+◌, ◌-◌, ◌==◌, ◌∙◌, ◌∷◌, ◌≡◌, ◌≢◌, ◌≤◌, ◌⊎◌}
use Rattle.std.specs.Prelude.{if◌then◌else◌, slice_index_or}
use Rattle.std.proofs.lemmas.Bool.{ltb-true, and_from}
use Rattle.std.proofs.lemmas.Bool.Decides.{eqb_tells}
use Rattle.line_step.proofs.Beside.{beside-lane}
use Rattle.step_rules.proofs.Once.{IsDry}
use Rattle.law_one_standing.proofs.RestLine.{node_there}
use Rattle.law_one_standing.proofs.MirroringEnds.{before_one}
use Rattle.law_custody.proofs.Rows.{same as same_number}
use Rattle.line_base.specs.declared.states.Side.{Side}
use Rattle.line_base.specs.declared.states.Side.TheVariants.{Entry, Exit}
use Rattle.board_record.specs.declared.sensed.Sensed.{Sensed}
use Rattle.board_record.specs.Maker.{Maker, next_id}
use Rattle.board_record.specs.declared.maker.IdsUsedUp.{IdsUsedUp}
use Rattle.hermes_horizontal.specs.Canonical.{canonical}
use Rattle.hermes_horizontal.specs.declared.message.Horizontal.{Horizontal}
use Rattle.hermes_horizontal.specs.declared.message.Message.{Message}
use Rattle.line_link.specs.Flow.{Stream, coming, flowing, with_arrival}
use Rattle.line_link.specs.Link.{after_connect, after_flow, answer_sent, connected_of, sent_of}
use Rattle.smema_bridge.specs.Levels.{BridgeLevels}
use Rattle.line_link.specs.declared.link.Connected.{Connected}
use Rattle.line_link.specs.declared.link.Connected.TheVariants as connections
use Rattle.line_world.specs.FloorPlan.{FloorPlan, gap_at, machine_at}
use Rattle.node_core.specs.Desk.{Desk}
use Rattle.node_core.specs.Done.{Done}
use Rattle.node_core.specs.Event.{Event, event_of, with_new}
use Rattle.node_core.specs.Event as events
use Rattle.node_core.specs.Node.{NodeState, desk_of, new_node}
use Rattle.node_core.specs.Sides.{is_open}
use Rattle.node_core.specs.Signals.{signalled}
use Rattle.node_core.specs.Step.{machine_step, plain_step}
use Rattle.node_core.specs.Supervising.{watch_of, with_tells}
use Rattle.node_core.specs.Words.{AreWords}
use Rattle.node_core.specs.declared.act.Act.{Act}
use Rattle.node_core.specs.declared.act.Act.TheVariants as acts
use Rattle.node_core.specs.declared.input.Input.{Input}
use Rattle.node_core.specs.declared.input.Input.TheVariants as inputs
use Rattle.node_core.specs.declared.lane.Body.{Body}
use Rattle.node_core.specs.declared.lane.Lane.{Lane}
use Rattle.node_core.specs.declared.supervising.Watch.{Watch}
use Rattle.node_core.specs.declared.word.Word.{Word}
use Rattle.node_core.proofs.Signalling.{signals_pass}
use Rattle.node_core.proofs.Telling.{tells_pass}
use Rattle.line_report.specs.declared.happening.Happening.{Happening}
use Rattle.line_report.specs.declared.happening.Happening.TheVariants as happenings
use Rattle.line_step.specs.Acts.{act_did, acts_did, cut_told, is_answer, is_exit, sent_by}
use Rattle.law_one_standing.proofs.ApartStep.{IsNot, come_by, come_in}
use Rattle.line_step.specs.Tracks.{IsBeside, TrackLine, TrackSteps, other_line, own_line}
use Rattle.line_step.specs.Lines.{Becomes, Connects, Flows, LineSteps, arrived, connecting, met, spoiled}
use Rattle.line_step.specs.Numbered.{Stand, no_node, node_at, stand_at}
use Rattle.line_step.specs.Reasons.{has_link, is_empty, may_do, may_flow}
use Rattle.line_step.specs.Shown.{standings_told}
use Rattle.line_step.specs.State.{LineState, machine_in, one_more, profile_of}
use Rattle.line_step.specs.Steps.{MachineSteps, is_second, moment_of, read_by, unread_by}
use Rattle.line_step.specs.World.{WorldParts, end_of, link_at, link_of}
use Rattle.line_step.proofs.Changing.{link_changes, more_changes, step_changes}
use Rattle.line_step.proofs.Numbers.{floor_stays, machine_set_own, machine_within, same_or_not}
use Rattle.law_custody.specs.Bytes.{Flows as FlowsAs, Spoiled, texts_of}
use Rattle.law_machine_custody.specs.Flight.{AreOldest, unheard}
use Rattle.law_machine_custody.specs.Good.{Lies}
use Rattle.law_machine_custody.specs.Scene.{Scene}
use Rattle.law_one_standing.specs.Carried.{Carries, Trace, carries_over, carries_spoiled, carries_whole}
use Rattle.law_one_standing.specs.Mirrors.{scene_at}
use Rattle.law_one_standing.specs.Stands.{Stands}
use Rattle.law_one_standing.proofs.Carrying.{SaysAlone}
use Rattle.law_one_standing.proofs.MirroringFlow.{CanFlow, can_flow, link_there, arrival}
use Rattle.law_history.proofs.Floor.{acts_lies, acts_lists, make_not, makes_not, none_unread, read_lies, read_lists}
use Rattle.law_history.proofs.Stepping.{AreTheirs}
use Rattle.line_step.proofs.Remarks.{AreRemarks, IsNoAct, IsRemark, Passes, acts_pass, all_pass, cut_remarks, no_acts, standings_remarks}
use Rattle.line_step.specs.Requests.{Request, added_told, may_get}
use Rattle.line_step.proofs.Giving.{IsGiven}
use Rattle.line_step.specs.Requests as requests
use Rattle.line_step.proofs.Effects.{added_remarks, becomes_by}
use Rattle.line_step.proofs.Turns.{LineTurns, line_turns}
use Rattle.line_step.proofs.Turns as turns

-- ---- the acts of one machine among all that is told

-- an act as it is looked at: the switching of a drive is not told, and a bridge's own signals say nothing of boards, nor
-- does what the supervisor is told
abbrev pub told_of_act : Act → List Act
told_of_act (acts.Drive side on) = []
told_of_act (acts.Signals signal on) = []
told_of_act (acts.Tells message) = []
told_of_act act = act ∷ []

abbrev pub done_act : ℕ → Happening → List Act
done_act machine (happenings.Done other act) = if other == machine then told_of_act act else []
done_act machine _ = []

abbrev pub done_by : ℕ → List Happening → List Act
done_by machine [] = []
done_by machine (happening ∷ told) = done_act machine happening ++ done_by machine told

pub done_append : (k : ℕ) (a b : List Happening) → done_by k (a ++ b) ≡ done_by k a ++ done_by k b
done_append k [] b = refl
done_append k (h ∷ a) b = ap (λ (x : List Act). done_act k h ++ x) (done_append k a b) ∙ sym (append_assoc (done_act k h) (done_by k a) (done_by k b))

pub none_join : (k : ℕ) (a b : List Happening) → done_by k a ≡ [] → done_by k b ≡ [] → done_by k (a ++ b) ≡ []
none_join k a b one two = done_append k a b ∙ ap (λ (x : List Act). x ++ done_by k b) one ∙ two

abbrev pub undriven : List Act → List Act
undriven [] = []
undriven (act ∷ told) = told_of_act act ++ undriven told

-- ---- the acts of a step

own_first : (k : ℕ) (act : Act) (rest : List Happening) → done_by k rest ≡ [] → done_by k (happenings.Done k act ∷ rest) ≡ told_of_act act
own_first k act rest none = rw (same_number k, none) (append-nil (told_of_act act))

no_act_none : (k : ℕ) (h : Happening) → IsNoAct h → done_by k (h ∷ []) ≡ []
no_act_none k (happenings.Done machine act) is = absurd is
no_act_none k _ is = refl

pub no_acts_none : (k : ℕ) → Passes IsNoAct (λ (told : List Happening). done_by k told ≡ [])
no_acts_none k = record { none = refl; both = none_join k; one = no_act_none k }

pub remarks_none : (k : ℕ) (told : List Happening) → AreRemarks told → done_by k told ≡ []
remarks_none k told remarks = all_pass told (no_acts_none k) (no_acts told remarks)

own_sent : (answers : Bool) (k : ℕ) (side : Side) (message : Message) (world : WorldParts) → done_by k (sent_by answers k side message world).told ≡ acts.Sends side message ∷ []
own_sent true k side message world = own_first k (acts.Sends side message) (cut_told k (answer_sent (canonical message) (link_at k world))) (remarks_none k _ (cut_remarks k (answer_sent (canonical message) (link_at k world))))
own_sent false k side message world = own_first k (acts.Sends side message) (cut_told (link_of k side) (sent_of (end_of side) (canonical message) (link_at (link_of k side) world))) (remarks_none k _ (cut_remarks (link_of k side) (sent_of (end_of side) (canonical message) (link_at (link_of k side) world))))

own_act : (second : Bool) (k : ℕ) (act : Act) (world : WorldParts) → done_by k (act_did second k act world).told ≡ told_of_act act
own_act second k (acts.Sends side message) world = own_sent (second && (is_exit side && is_answer message.body)) k side message world
own_act second k (acts.Drive side on) world = refl
own_act second k act world = own_first k act [] refl

pub own_acts : (second : Bool) (k : ℕ) (told : List Act) (world : WorldParts) → done_by k (acts_did second k told world).told ≡ undriven told
own_acts second k [] world = refl
own_acts second k (act ∷ others) world =
    let one = act_did second k act world in
    done_append k one.told (acts_did second k others one.world).told ∙ ap (λ (x : List Act). x ++ done_by k (acts_did second k others one.world).told) (own_act second k act world)
    ∙ ap (λ (x : List Act). told_of_act act ++ x) (own_acts second k others one.world)

-- a bridge's own signals are not among them
undriven_append : (a b : List Act) → undriven (a ++ b) ≡ undriven a ++ undriven b
undriven_append [] b = refl
undriven_append (act ∷ a) b = ap (λ (x : List Act). told_of_act act ++ x) (undriven_append a b) ∙ sym (append_assoc (told_of_act act) (undriven a) (undriven b))

pub undriven_signals : (made : List Act) (bridge : Option BridgeLevels) (body : Body) → undriven (made ++ signalled bridge body) ≡ undriven made
undriven_signals made bridge body =
    signals_pass undriven (λ front signal on. undriven_append front (acts.Signals signal on ∷ []) ∙ append-nil (undriven front)) made bridge body

-- nor is what the supervisor is told
pub undriven_tells : (desk : Desk) (watch : Watch) (made : List Act) → undriven (with_tells desk watch made) ≡ undriven made
undriven_tells desk watch made =
    tells_pass undriven (λ act told plain h. ap (λ (x : List Act). told_of_act act ++ x) h) (λ message told. refl) desk watch made

pub undriven_step : (desk : Desk) (unread : List Sensed) (event : Event) (body : Body)
    → undriven (machine_step desk unread event body).acts ≡ undriven (plain_step desk unread event body).acts
undriven_step desk unread event body = undriven_tells desk (watch_of desk body) (plain_step desk unread event body).acts

-- ---- the acts of another machine

other_number : (k machine : ℕ) → k ≢ machine → (machine == k) ≡ false
other_number k machine apart = elim (eqb_tells machine k) [ inl same ↦ absurd (apart (sym same.1)) | inr differs ↦ differs.0 ]

other_one : (k machine : ℕ) (act : Act) → k ≢ machine → done_by k (happenings.Done machine act ∷ []) ≡ []
other_one k machine act apart = rw (other_number k machine apart) refl

remark_none : (k : ℕ) (h : Happening) → IsRemark h → done_by k (h ∷ []) ≡ []
remark_none k h is = remarks_none k (h ∷ []) (is, tt)

pub other_acts : (second : Bool) (k machine : ℕ) (told : List Act) (world : WorldParts) → k ≢ machine → done_by k (acts_did second machine told world).told ≡ []
other_acts second k machine told world apart =
    acts_pass (λ (ts : List Happening). done_by k ts ≡ []) second machine told world (record { none = refl; both = none_join k; one = remark_none k }) (λ act. other_one k machine act apart)

pub standings_none : (k : ℕ) (before next : LineState) → done_by k (standings_told before next) ≡ []
standings_none k before next = remarks_none k (standings_told before next) (standings_remarks before next)

-- ---- which words a machine hears

-- a piece that arrives spells the oldest messages on its way
oldest_of : {stands : Bool} {stream : Stream} {messages : List Horizontal} → SaysAlone → (words : List Word) (old piece new : List ℕ) (still : Bool) (later : Stream) → coming stream ≡ piece ++ coming later → is_empty (coming stream) ≡ false
    → AreWords old piece new still words → Carries stands old stream messages → AreOldest words messages
oldest_of alone words old piece new still later is some are (carries_whole said good flows) =
    let all : FlowsAs old (piece ++ coming later) (texts_of said) = subst (λ (bytes : List ℕ). FlowsAs old bytes (texts_of said)) is flows in
    (alone.oldest old piece (coming later) new still words said (alone.sayable said good) all are).oldest
oldest_of {messages = messages} alone words old piece new still later is some are (carries_spoiled spoiled hides) =
    let all : Spoiled old (piece ++ coming later) = subst (λ (bytes : List ℕ). Spoiled old bytes) is spoiled in
    (alone.wrong old piece (coming later) new still words messages all are).oldest
oldest_of {stream = stream} alone words old piece new still later is some are (carries_over off nothing) = absurd (let no_way : true ≡ false = sym (ap is_empty nothing) ∙ some in cc)

-- this holds of the words of a piece that arrives and of the messages on their way, whose bytes it is of
abbrev pub Arrives : (List Word → List Horizontal → Type 0) → Type 0
Arrives Q =
    (stands : Bool) (stream : Stream) (messages : List Horizontal) (words : List Word) (old piece new : List ℕ) (still : Bool) (later : Stream) → coming stream ≡ piece ++ coming later → is_empty (coming stream) ≡ false → AreWords old piece new still words
    → Carries stands old stream messages → Q words messages

pub flow_carried : (Q : List Word → List Horizontal → Type 0) → Arrives Q
    → (t : Trace) (number j : ℕ) (side : Side) (count : Option ℕ) (before after : LineState) (told : List Happening) → CanFlow (j + 1) side before → Stands t before → (flows : Flows number (j + 1) side count before after told) → Q flows.steps.steps.lane.words (unheard side (scene_at t before j))
flow_carried Q each t number j Entry count before after told can st flows =
    let steps = flows.steps in
    let s : Stream = (link_at j before.world).flows.to_downstream in
    let within = (machine_within (j + 1) before steps.node steps.there).1 in
    let behind : 1 ≤ j = omega (arith, ltb-true 1 (j + 1) can.beside) in
    let there : has_link j before ≡ true = link_there j (length before.machines) behind within in
    let node_is : node_at before (j + 1) ≡ steps.node = node_there (j + 1) before steps.node steps.there in
    let same : coming s ≡ coming (link_at (j + 1 - 1) before.world).flows.to_downstream = ap (λ (k : ℕ). coming (link_at k before.world).flows.to_downstream) (sym (before_one j)) in
    let stream : Stream = (link_at (j + 1 - 1) before.world).flows.to_downstream in
    let waits : Carries (link_at j before.world).stands steps.node.lane.entry_bytes s (t.down j) = subst (λ (m : NodeState). Carries (link_at j before.world).stands m.lane.entry_bytes s (t.down j)) node_is (st.carried j there).down in
    each _ _ _ steps.steps.lane.words steps.node.lane.entry_bytes flows.piece.now steps.next.lane.entry_bytes (is_open Entry steps.next.lane.body) (with_arrival (flowing count stream) stream)
    (same ∙ arrival (flowing count stream) stream flows.piece.now flows.bytes) (ap is_empty same ∙ can.comes) steps.steps.lane.brings.0 waits
flow_carried Q each t number j Exit count before after told can st flows =
    let steps = flows.steps in
    let s : Stream = (link_at (j + 1) before.world).flows.to_upstream in
    let within : j + 1 + 1 ≤ length before.machines = omega (arith, ltb-true (j + 1) (length before.machines) can.beside) in
    let there : has_link (j + 1) before ≡ true = link_there (j + 1) (length before.machines) (omega arith) within in
    let node_is : node_at before (j + 1) ≡ steps.node = node_there (j + 1) before steps.node steps.there in
    let waits : Carries (link_at (j + 1) before.world).stands steps.node.lane.exit_bytes s (t.up (j + 1)) = subst (λ (m : NodeState). Carries (link_at (j + 1) before.world).stands m.lane.exit_bytes s (t.up (j + 1))) node_is (st.carried (j + 1) there).up in
    each _ _ _ steps.steps.lane.words steps.node.lane.exit_bytes flows.piece.now steps.next.lane.exit_bytes (is_open Exit steps.next.lane.body) (with_arrival (flowing count s) s)
    (arrival (flowing count s) s flows.piece.now flows.bytes) can.comes steps.steps.lane.brings.0 waits

pub flow_oldest : SaysAlone → (t : Trace) (number j : ℕ) (side : Side) (count : Option ℕ) (before after : LineState) (told : List Happening) → CanFlow (j + 1) side before → Stands t before
    → (flows : Flows number (j + 1) side count before after told) → AreOldest flows.steps.steps.lane.words (unheard side (scene_at t before j))
flow_oldest alone t number j side count before after told can st flows = flow_carried AreOldest (λ stands stream messages words old piece new still later. oldest_of alone words old piece new still later) t number j side count before after told can st flows

new_theirs : (c : Scene) (found : Result ℕ IdsUsedUp) (event : ℕ → Event) → ((id : ℕ) → AreTheirs (event id) c) → AreTheirs (with_new found event) c
new_theirs c (Ok id) event all = all id
new_theirs c (Err why) event all = tt

plain_theirs : (c : Scene) (maker : Maker) (input : Input) (words : List Word) → IsDry input → AreTheirs (event_of maker input words) c
plain_theirs c maker (inputs.Bytes side piece) words none = absurd none
plain_theirs c maker (inputs.Insert barcode) words none = new_theirs c (next_id maker) (λ id. events.Insert id barcode) (λ id. tt)
plain_theirs c maker (inputs.Replace old) words none = new_theirs c (next_id maker) (events.Replace old) (λ id. tt)
plain_theirs c maker _ words none = tt

-- ---- the turn of a machine

-- a body but for what the machine is willing to do: a bridge that is added is willing to nothing yet
abbrev pub unwilled : Body → Body
unwilled body = record body { entry = record body.entry { willing = false }; exit = record body.exit { willing = false } }

-- it made a step, from what it was before the line, and this is known of the event
pub record SteppedBy (K : Event → Type 0) (j : ℕ) (before after : LineState) (told : List Happening) : Type 0 where
  pub desk : Desk
  pub event : Event
  pub known : K event
  pub body : (node_at after (j + 1)).lane.body ≡ (plain_step desk (unread_by (j + 1) before.world) event (node_at before (j + 1)).lane.body).body
  pub acts : done_by (j + 1) told ≡ undriven (plain_step desk (unread_by (j + 1) before.world) event (node_at before (j + 1)).lane.body).acts
  pub unread : (machine_at after.world.floor (j + 1)).unread ≡ []

pub data TurnBy (K : Event → Type 0) (j : ℕ) (before after : LineState) (told : List Happening) : Type 0 where
  is_still : unwilled (node_at after (j + 1)).lane.body ≡ unwilled (node_at before (j + 1)).lane.body → done_by (j + 1) told ≡ [] → TurnBy K j before after told
  has_stepped : SteppedBy K j before after told → TurnBy K j before after told

-- where it hears words, they are the oldest messages to their side
abbrev pub Stepped : ℕ → Trace → LineState → LineState → List Happening → Type 0
Stepped j t before after told = SteppedBy (λ (event : Event). AreTheirs event (scene_at t before j)) j before after told

abbrev pub Turn : ℕ → Trace → LineState → LineState → List Happening → Type 0
Turn j t before after told = TurnBy (λ (event : Event). AreTheirs event (scene_at t before j)) j before after told

-- the inputs of a connection
abbrev pub IsJoining : Input → Type 0
IsJoining inputs.Connect = Unit {0}
IsJoining inputs.Accepted = Unit {0}
IsJoining inputs.Second = Unit {0}
IsJoining _ = ⊥

-- what is known of the event of each own step of the machine
pub record EventsAre (K : Event → Type 0) (number j : ℕ) (before after : LineState) (told : List Happening) (request : Request) : Type 0 where
  pub given : (input : Input) → request ≡ requests.gives (j + 1) input → IsGiven input → may_get (j + 1) input before ≡ may_do → (steps : MachineSteps number (j + 1) input before after told) → K (event_of steps.node.maker input steps.steps.lane.words)
  pub joining : (input : Input) → IsJoining input → (maker : Maker) (words : List Word) → K (event_of maker input words)
  pub arriving : (side : Side) (count : Option ℕ) → may_flow (j + 1) side before ≡ may_do → (flows : Flows number (j + 1) side count before after told) → K (event_of flows.steps.node.maker (inputs.Bytes side flows.piece) flows.steps.steps.lane.words)

-- the machine's own step, from a state in which it is what it was before the line
own_turn : (K : Event → Type 0) (number j : ℕ) (input : Input) (before start after : LineState) (told : List Happening) → (steps : MachineSteps number (j + 1) input start after told) → stand_at start (j + 1) ≡ stand_at before (j + 1)
    → K (event_of steps.node.maker input steps.steps.lane.words) → SteppedBy K j before after told
own_turn K number j input before start after told steps same known =
    let node : NodeState = steps.node in
    let desk : Desk = desk_of node (moment_of number) in
    let lane = steps.steps.lane in
    let event : Event = event_of node.maker input lane.words in
    let node_is : node_at before (j + 1) ≡ node = sym (ap (λ (s : Stand). s.node) same) ∙ node_there (j + 1) start node steps.there in
    let unread_is : unread_by (j + 1) before.world ≡ unread_by (j + 1) start.world = sym (ap (λ (s : Stand). s.place.unread) same) in
    let next_is : node_at after (j + 1) ≡ steps.next = node_there (j + 1) after steps.next (ap (machine_in (j + 1)) steps.after_is ∙ machine_set_own (j + 1) start node steps.next steps.there) in
    let D : List Sensed → NodeState → Done = λ us n. plain_step desk us event n.lane.body in
    let did : D (unread_by (j + 1) start.world) node ≡ D (unread_by (j + 1) before.world) (node_at before (j + 1)) = rw (unread_is, node_is) refl in
    record {
      desk = desk;
      event = event;
      known = known;
      body = ap (λ (n : NodeState). n.lane.body) next_is ∙ lane.body ∙ ap (λ (d : Done). d.body) did;
      acts = ap (done_by (j + 1)) steps.told_is ∙ own_acts (is_second input) (j + 1) steps.acts (read_by (j + 1) start.world)
          ∙ ap undriven steps.steps.told ∙ undriven_signals steps.steps.made node.bridge steps.next.lane.body ∙ ap undriven lane.told
          ∙ undriven_step desk (unread_by (j + 1) start.world) event node.lane.body ∙ ap (λ (d : Done). undriven d.acts) did;
      unread = ap (λ (s : LineState). (machine_at s.world.floor (j + 1)).unread) steps.after_is ∙ none_unread (is_second input) (j + 1) steps.acts start.world;
    }

-- another machine's step
other_still : (K : Event → Type 0) (number j machine : ℕ) (input : Input) (before start after : LineState) (told : List Happening) → (steps : MachineSteps number machine input start after told) → j + 1 ≢ machine → stand_at start (j + 1) ≡ stand_at before (j + 1) → TurnBy K j before after told
other_still K number j machine input before start after told steps apart same =
    is_still (ap (λ (s : Stand). unwilled s.node.lane.body) ((step_changes number machine input start after told steps).machines (j + 1) apart ∙ same))
    (ap (done_by (j + 1)) steps.told_is ∙ other_acts (is_second input) (j + 1) machine steps.acts (read_by machine start.world) apart)

-- an input that a line gives
given_turn : (K : Event → Type 0) (number j machine : ℕ) (input : Input) (before after : LineState) (told : List Happening) (request : Request) → EventsAre K number j before after told request → (j + 1 ≡ machine) ⊎ (j + 1 ≢ machine) → request ≡ requests.gives machine input → IsGiven input
    → may_get machine input before ≡ may_do → MachineSteps number machine input before after told → TurnBy K j before after told
given_turn K number j machine input before after told request are (inl is) asks given may steps =
    subst (λ (m : ℕ). request ≡ requests.gives m input → may_get m input before ≡ may_do → MachineSteps number m input before after told → TurnBy K j before after told) is
    (λ own_asks own_may own. has_stepped (own_turn K number j input before before after told own refl (are.given input own_asks given own_may own))) asks may steps
given_turn K number j machine input before after told request are (inr apart) asks given may steps = other_still K number j machine input before before after told steps apart refl

-- ---- each form of line

pub more_body : (lane : ℕ) (is_bridge : Bool) (capacity used : ℕ) (s : LineState) (k : ℕ) → (k ≡ length s.machines + 1) ⊎ (k ≢ length s.machines + 1) → unwilled (node_at (one_more lane is_bridge capacity used s) k).lane.body ≡ unwilled (node_at s k).lane.body
more_body lane is_bridge capacity used s k (inr apart) = ap (λ (x : Stand). unwilled x.node.lane.body) ((more_changes lane is_bridge capacity used s).machines k apart)
more_body lane is_bridge capacity used s k (inl is) =
    let next : k ≡ suc (length s.machines) = omega (arith, is) in
    subst (λ (m : ℕ). unwilled (node_at (one_more lane is_bridge capacity used s) m).lane.body ≡ unwilled (node_at s m).lane.body) (sym next)
    (ap (λ (n : NodeState). unwilled n.lane.body) (last_node s.machines (new_node (profile_of lane is_bridge (length s.machines + 1) capacity used))) ∙ sym (ap (λ (n : NodeState). unwilled n.lane.body) (no_last s.machines))) where
      last_node : (nodes : List NodeState) (new : NodeState) → slice_index_or (nodes ++ new ∷ []) (length nodes) no_node ≡ new
      last_node [] new = refl
      last_node (node ∷ nodes) new = last_node nodes new

      no_last : (nodes : List NodeState) → slice_index_or nodes (length nodes) no_node ≡ no_node
      no_last [] = refl
      no_last (node ∷ nodes) = no_last nodes

quiet_turn : (K : Event → Type 0) (j : ℕ) (before next after : LineState) (what told : List Happening) → unwilled (node_at next (j + 1)).lane.body ≡ unwilled (node_at before (j + 1)).lane.body → done_by (j + 1) what ≡ [] → Becomes next what after told → TurnBy K j before after told
quiet_turn K j before next after what told same none b = is_still (ap (λ (s : LineState). unwilled (node_at s (j + 1)).lane.body) b.after_is ∙ same) (ap (done_by (j + 1)) b.told_is ∙ none)

-- a machine is added, or a bridge
more_turn : (K : Event → Type 0) (j : ℕ) (lane : ℕ) (is_bridge : Bool) (capacity used : ℕ) (before after : LineState) (what told : List Happening) → done_by (j + 1) what ≡ [] → Becomes (one_more lane is_bridge capacity used before) what after told → TurnBy K j before after told
more_turn K j lane is_bridge capacity used before after what told none b =
    quiet_turn K j before (one_more lane is_bridge capacity used before) after what told (more_body lane is_bridge capacity used before (j + 1) (same_or_not (j + 1) (length before.machines + 1))) none b

pub same_machines : (j : ℕ) (s next : LineState) → next.machines ≡ s.machines → (node_at next (j + 1)).lane.body ≡ (node_at s (j + 1)).lane.body
same_machines j s next is = ap (λ (n : NodeState). n.lane.body) (same_nodes (j + 1) s next is) where
  same_nodes : (machine : ℕ) (s next : LineState) → next.machines ≡ s.machines → node_at next machine ≡ node_at s machine
  same_nodes zero s next is = refl
  same_nodes (suc place) s next is = ap (λ (nodes : List NodeState). slice_index_or nodes place no_node) is

pub arrived_stand : (k machine : ℕ) (side : Side) (count : Option ℕ) (s : LineState) → stand_at (arrived machine side count s) k ≡ stand_at s k
arrived_stand k machine side count s = (link_changes (link_of machine side) (after_flow (end_of side) count (link_at (link_of machine side) s.world)) s).machines k

flow_turn : (K : Event → Type 0) (number j machine : ℕ) (side : Side) (count : Option ℕ) (before after : LineState) (told : List Happening) (request : Request) → EventsAre K number j before after told request → may_flow machine side before ≡ may_do → (j + 1 ≡ machine) ⊎ (j + 1 ≢ machine) → Flows number machine side count before after told
    → TurnBy K j before after told
flow_turn K number j machine side count before after told request are may (inl is) flows =
    subst (λ (m : ℕ). may_flow m side before ≡ may_do → Flows number m side count before after told → TurnBy K j before after told) is
    (λ own_may own. has_stepped (own_turn K number j (inputs.Bytes side own.piece) before (arrived (j + 1) side count before) after told own.steps (arrived_stand (j + 1) (j + 1) side count before) (are.arriving side count own_may own))) may flows
flow_turn K number j machine side count before after told request are may (inr apart) flows =
    other_still K number j machine (inputs.Bytes side flows.piece) before (arrived machine side count before) after told flows.steps apart (arrived_stand (j + 1) machine side count before)

-- a connection is made: both machines make a step

behind_own : (K : Event → Type 0) (j : ℕ) (before between after : LineState) (a b : List Happening) → SteppedBy K j before between a → stand_at after (j + 1) ≡ stand_at between (j + 1) → done_by (j + 1) b ≡ [] → SteppedBy K j before after (a ++ b)
behind_own K j before between after a b s same none = record {
  desk = s.desk;
  event = s.event;
  known = s.known;
  body = ap (λ (x : Stand). x.node.lane.body) same ∙ s.body;
  acts = done_append (j + 1) a b ∙ ap (λ (x : List Act). done_by (j + 1) a ++ x) none ∙ append-nil (done_by (j + 1) a) ∙ s.acts;
  unread = ap (λ (x : Stand). x.place.unread) same ∙ s.unread;
}

before_own : (K : Event → Type 0) (j : ℕ) (before after : LineState) (a b : List Happening) → done_by (j + 1) a ≡ [] → SteppedBy K j before after b → SteppedBy K j before after (a ++ b)
before_own K j before after a b none s = record {
  desk = s.desk;
  event = s.event;
  known = s.known;
  body = s.body;
  acts = done_append (j + 1) a b ∙ ap (λ (x : List Act). x ++ done_by (j + 1) b) none ∙ s.acts;
  unread = s.unread;
}

pub connecting_stand : (k machine : ℕ) (s : LineState) → stand_at (connecting machine s) k ≡ stand_at s k
connecting_stand k machine s = (link_changes (machine - 1) (after_connect (link_at (machine - 1) s.world)) s).machines k

pub apart_of : (j machine : ℕ) → 1 ≤ machine → j + 1 ≡ machine → j + 1 ≢ machine - 1
apart_of j machine counted is same = absurd (omega (arith, counted, is, same))

met_joining : (on : Connected) → IsJoining (met on)
met_joining connections.Accepted = tt
met_joining connections.Second = tt

connects_by : (K : Event → Type 0) (number j machine : ℕ) (before after : LineState) (told : List Happening) → ((input : Input) → IsJoining input → (maker : Maker) (words : List Word) → K (event_of maker input words)) → (j + 1 ≡ machine) ⊎ (j + 1 ≢ machine) → (j + 1 ≡ machine - 1) ⊎ (j + 1 ≢ machine - 1) → (steps : Connects number machine before after told)
    → TurnBy K j before after (steps.earlier ++ steps.later)
connects_by K number j machine before after told join (inl is) second steps =
    let start : LineState = connecting machine before in
    let on = connected_of (link_at (machine - 1) before.world).upstream in
    let counted : 1 ≤ machine = (machine_within machine start steps.first.node steps.first.there).0 in
    let own : MachineSteps number (j + 1) inputs.Connect start steps.between steps.earlier = subst (λ (m : ℕ). MachineSteps number m inputs.Connect start steps.between steps.earlier) (sym is) steps.first in
    let apart : j + 1 ≢ machine - 1 = apart_of j machine counted is in
    has_stepped (behind_own K j before steps.between after steps.earlier steps.later
    (own_turn K number j inputs.Connect before start steps.between steps.earlier own (connecting_stand (j + 1) machine before) (join inputs.Connect tt own.node.maker own.steps.lane.words))
    ((step_changes number (machine - 1) (met on) steps.between after steps.later steps.second).machines (j + 1) apart)
    (ap (done_by (j + 1)) steps.second.told_is ∙ other_acts (is_second (met on)) (j + 1) (machine - 1) steps.second.acts (read_by (machine - 1) steps.between.world) apart))
connects_by K number j machine before after told join (inr apart) (inl is) steps =
    let start : LineState = connecting machine before in
    let on = connected_of (link_at (machine - 1) before.world).upstream in
    let own : MachineSteps number (j + 1) (met on) steps.between after steps.later = subst (λ (m : ℕ). MachineSteps number m (met on) steps.between after steps.later) (sym is) steps.second in
    let same : stand_at steps.between (j + 1) ≡ stand_at before (j + 1) = (step_changes number machine inputs.Connect start steps.between steps.earlier steps.first).machines (j + 1) apart ∙ connecting_stand (j + 1) machine before in
    has_stepped (before_own K j before after steps.earlier steps.later
    (ap (done_by (j + 1)) steps.first.told_is ∙ other_acts false (j + 1) machine steps.first.acts (read_by machine start.world) apart)
    (own_turn K number j (met on) before steps.between after steps.later own same (join (met on) (met_joining on) own.node.maker own.steps.lane.words)))
connects_by K number j machine before after told join (inr apart) (inr other) steps =
    let start : LineState = connecting machine before in
    let on = connected_of (link_at (machine - 1) before.world).upstream in
    let one : stand_at steps.between (j + 1) ≡ stand_at before (j + 1) = (step_changes number machine inputs.Connect start steps.between steps.earlier steps.first).machines (j + 1) apart ∙ connecting_stand (j + 1) machine before in
    let two : stand_at after (j + 1) ≡ stand_at steps.between (j + 1) = (step_changes number (machine - 1) (met on) steps.between after steps.later steps.second).machines (j + 1) other in
    is_still (ap (λ (s : Stand). unwilled s.node.lane.body) (two ∙ one))
    (none_join (j + 1) steps.earlier steps.later (ap (done_by (j + 1)) steps.first.told_is ∙ other_acts false (j + 1) machine steps.first.acts (read_by machine start.world) apart)
    (ap (done_by (j + 1)) steps.second.told_is ∙ other_acts (is_second (met on)) (j + 1) (machine - 1) steps.second.acts (read_by (machine - 1) steps.between.world) other))

connects_turn : (K : Event → Type 0) (number j machine : ℕ) (before after : LineState) (told : List Happening) → ((input : Input) → IsJoining input → (maker : Maker) (words : List Word) → K (event_of maker input words)) → Connects number machine before after told → TurnBy K j before after told
connects_turn K number j machine before after told join steps =
    subst (λ (x : List Happening). TurnBy K j before after x) (sym steps.told_is) (connects_by K number j machine before after told join (same_or_not (j + 1) machine) (same_or_not (j + 1) (machine - 1)) steps)

turns_turn : (K : Event → Type 0) (number : ℕ) (request : Request) (before after : LineState) (told : List Happening) (j : ℕ) → EventsAre K number j before after told request → LineTurns number before after told request → TurnBy K j before after told
turns_turn K number request before after told j are (turns.stays _ same none) = is_still (ap unwilled (same_machines j before after same)) (all_pass told (no_acts_none (j + 1)) none)
turns_turn K number request before after told j are (turns.adds lane is_bridge capacity used may b) =
    more_turn K j lane is_bridge capacity used before after (added_told is_bridge capacity before) told (remarks_none (j + 1) _ (added_remarks is_bridge capacity before)) b
turns_turn K number request before after told j are (turns.steps machine input given may did) = given_turn K number j machine input before after told request are (same_or_not (j + 1) machine) refl given may did
turns_turn K number request before after told j are (turns.connects machine may did) = connects_turn K number j machine before after told are.joining did
turns_turn K number request before after told j are (turns.flows machine side count may did) = flow_turn K number j machine side count before after told request are may (same_or_not (j + 1) machine) did

-- of an event that hears words they are the oldest messages
given_dry : (input : Input) → IsGiven input → IsDry input
given_dry (inputs.Bytes side piece) given = absurd given
given_dry _ given = tt

joining_dry : (input : Input) → IsJoining input → IsDry input
joining_dry (inputs.Bytes side piece) joins = absurd joins
joining_dry _ joins = tt

are_theirs : SaysAlone → (t : Trace) (number j : ℕ) (before after : LineState) (told : List Happening) (request : Request) → Stands t before → EventsAre (λ (event : Event). AreTheirs event (scene_at t before j)) number j before after told request
are_theirs alone t number j before after told request st = record {
  given = λ input asks given may steps. plain_theirs (scene_at t before j) steps.node.maker input steps.steps.lane.words (given_dry input given);
  joining = λ input joins maker words. plain_theirs (scene_at t before j) maker input words (joining_dry input joins);
  arriving = λ side count may flows. flow_oldest alone t number j side count before after told (can_flow (j + 1) side before may) st flows;
}

-- ---- a line in which no machine makes a step, and one in which boards stay where they lie

-- every machine is as it was, and tells nothing
abbrev pub AllStill : LineState → LineState → List Happening → Type 0
AllStill before after told = (j : ℕ) → (unwilled (node_at after (j + 1)).lane.body ≡ unwilled (node_at before (j + 1)).lane.body) × (done_by (j + 1) told ≡ [])

-- what lies in the gaps stays, and no board comes to a list but one that is put in or comes from another lane
pub record Stays (before after : LineState) (told : List Happening) : Type 0 where
  pub lies : (gap : ℕ) → (gap_at after.world.floor gap).lies ≡ (gap_at before.world.floor gap).lies
  pub lists : (x machine : ℕ) → IsNot x (come_by told) → Lies x (machine_at after.world.floor machine).boards → Lies x (machine_at before.world.floor machine).boards

not_both : (x : ℕ) (a b : List ℕ) → IsNot x (a ++ b) → IsNot x a × IsNot x b
not_both x [] b all = (tt, all)
not_both x (id ∷ a) b all = (let both = not_both x a b all.1 in ((all.0, both.0), both.1))

come_join : (a b : List Happening) → come_by (a ++ b) ≡ come_by a ++ come_by b
come_join [] b = refl
come_join (h ∷ a) b = ap (λ (ids : List ℕ). come_in h ++ ids) (come_join a b) ∙ sym (append_assoc (come_in h) (come_by a) (come_by b))

come_both : (x : ℕ) (a b : List Happening) → IsNot x (come_by (a ++ b)) → IsNot x (come_by a) × IsNot x (come_by b)
come_both x a b all = not_both x (come_by a) (come_by b) (subst (λ (ids : List ℕ). IsNot x ids) (come_join a b) all)

act_makes : (x : ℕ) (second : Bool) (machine : ℕ) (act : Act) (world : WorldParts) → IsNot x (come_by (act_did second machine act world).told) → makes_not x act ≡ true
act_makes x second machine (acts.Inserts id) world all = rw (ne_eqb id x (λ is. all.0 (sym is))) refl
act_makes x second machine (acts.Replaces old new) world all = rw (ne_eqb new x (λ is. all.0 (sym is))) refl
act_makes x second machine (acts.Gets id) world all = rw (ne_eqb id x (λ is. all.0 (sym is))) refl
act_makes x second machine _ world all = refl

acts_make : (x : ℕ) (second : Bool) (machine : ℕ) (told : List Act) (world : WorldParts) → IsNot x (come_by (acts_did second machine told world).told) → make_not x told ≡ true
acts_make x second machine [] world all = refl
acts_make x second machine (act ∷ told) world all =
    let one = act_did second machine act world in
    let both = come_both x one.told (acts_did second machine told one.world).told all in
    and_from (makes_not x act) (make_not x told) (act_makes x second machine act world both.0) (acts_make x second machine told one.world both.1)

step_stays : (number machine : ℕ) (input : Input) (before after : LineState) (told : List Happening) → MachineSteps number machine input before after told → Stays before after told
step_stays number machine input before after told steps =
    let read : WorldParts = read_by machine before.world in
    let second : Bool = is_second input in
    record {
      lies = λ gap. ap (λ (s : LineState). (gap_at s.world.floor gap).lies) steps.after_is ∙ acts_lies second machine steps.acts read gap ∙ read_lies machine before.world gap;
      lists = λ x other new lies.
          read_lists x machine before.world other
          (acts_lists x second machine steps.acts read other (acts_make x second machine steps.acts read (subst (λ (t : List Happening). IsNot x (come_by t)) steps.told_is new))
          (subst (λ (s : LineState). Lies x (machine_at s.world.floor other).boards) steps.after_is lies));
    }

-- the floor is the same before
from_start : (before start after : LineState) (told : List Happening) → start.world.floor ≡ before.world.floor → Stays start after told → Stays before after told
from_start before start after told same s = record {
  lies = λ gap. s.lies gap ∙ ap (λ (f : FloorPlan). (gap_at f gap).lies) same;
  lists = λ x machine new lies. subst (λ (f : FloorPlan). Lies x (machine_at f machine).boards) same (s.lists x machine new lies);
}

stays_both : (before between after : LineState) (a b : List Happening) → Stays before between a → Stays between after b → Stays before after (a ++ b)
stays_both before between after a b one two = record {
  lies = λ gap. two.lies gap ∙ one.lies gap;
  lists = λ x machine new lies. (let both = come_both x a b new in one.lists x machine both.0 (two.lists x machine both.1 lies));
}

abbrev pub Kind : LineState → LineState → List Happening → Type 0
Kind before after told = AllStill before after told ⊎ Stays before after told

connects_kind : (number machine : ℕ) (before after : LineState) (told : List Happening) → Connects number machine before after told → Kind before after told
connects_kind number machine before after told steps =
    let start : LineState = connecting machine before in
    let on = connected_of (link_at (machine - 1) before.world).upstream in
    inr (subst (λ (x : List Happening). Stays before after x) (sym steps.told_is) (stays_both before steps.between after steps.earlier steps.later
    (from_start before start steps.between steps.earlier (floor_stays (machine - 1) (after_connect (link_at (machine - 1) before.world)) before.world) (step_stays number machine inputs.Connect start steps.between steps.earlier steps.first))
    (step_stays number (machine - 1) (met on) steps.between after steps.later steps.second)))

flows_kind : (number machine : ℕ) (side : Side) (count : Option ℕ) (before after : LineState) (told : List Happening) → Flows number machine side count before after told → Kind before after told
flows_kind number machine side count before after told flows =
    inr (from_start before (arrived machine side count before) after told (floor_stays (link_of machine side) (after_flow (end_of side) count (link_at (link_of machine side) before.world)) before.world)
    (step_stays number machine (inputs.Bytes side flows.piece) (arrived machine side count before) after told flows.steps))

turns_kind : (number : ℕ) (request : Request) (before after : LineState) (told : List Happening) → LineTurns number before after told request → Kind before after told
turns_kind number request before after told (turns.stays _ same none) = inl (λ j. (ap unwilled (same_machines j before after same), all_pass told (no_acts_none (j + 1)) none))
turns_kind number request before after told (turns.adds lane is_bridge capacity used may b) =
    becomes_by (λ s ts. Kind before s ts) b
    (inl (λ j. (more_body lane is_bridge capacity used before (j + 1) (same_or_not (j + 1) (length before.machines + 1)), remarks_none (j + 1) _ (added_remarks is_bridge capacity before))))
turns_kind number request before after told (turns.steps machine input given may did) = inr (step_stays number machine input before after told did)
turns_kind number request before after told (turns.connects machine may did) = connects_kind number machine before after told did
turns_kind number request before after told (turns.flows machine side count may did) = flows_kind number machine side count before after told did

counted_kind : (before next : LineState) (done more : List Happening) (n : ℕ) → ((j : ℕ) → done_by (j + 1) more ≡ []) → Kind before next done → Kind before (record next { lines = n }) (done ++ more)
counted_kind before next done more n none (inl all) = inl (λ j. (ap unwilled (same_machines j next (record next { lines = n }) refl) ∙ (all j).0, none_join (j + 1) done more (all j).1 (none j)))
counted_kind before next done more n none (inr s) = inr (record { lies = s.lies; lists = λ x machine new lies. s.lists x machine (come_both x done more new).0 lies })

pub line_kind : (number : ℕ) (request : Request) (before after : LineState) (told : List Happening) → LineSteps number request before after told → Kind before after told
line_kind number request before after told steps =
    let next : LineState = steps.next in
    subst (λ (s : LineState). Kind before s told) (sym steps.after_is) (subst (λ (x : List Happening). Kind before (record next { lines = steps.lines }) x) (sym steps.told_is)
    (counted_kind before next steps.done (standings_told before next) (steps.lines) (λ j. standings_none (j + 1) before next) (turns_kind number request before next steps.done (line_turns number request before next steps.done steps.does))))

counted_turn : {K : Event → Type 0} {j : ℕ} {before next : LineState} {done told : List Happening} (n : ℕ) → done_by (j + 1) told ≡ done_by (j + 1) done → (node_at (record next { lines = n }) (j + 1)).lane.body ≡ (node_at next (j + 1)).lane.body → TurnBy K j before next done → TurnBy K j before (record next { lines = n }) told
counted_turn n acts body (is_still same none) = is_still (ap unwilled body ∙ same) (acts ∙ none)
counted_turn n acts body (has_stepped s) = has_stepped (record { desk = s.desk; event = s.event; known = s.known; body = body ∙ s.body; acts = acts ∙ s.acts; unread = s.unread })

-- EACH LINE, for each machine
pub each_turn : (K : Event → Type 0) (number : ℕ) (request : Request) (before after : LineState) (told : List Happening) (j : ℕ) → (steps : LineSteps number request before after told) → EventsAre K number j before steps.next steps.done request → TurnBy K j before after told
each_turn K number request before after told j steps are =
    let next : LineState = steps.next in
    let done : List Happening = steps.done in
    let turn : TurnBy K j before next done = turns_turn K number request before next done j are (line_turns number request before next done steps.does) in
    let acts : done_by (j + 1) told ≡ done_by (j + 1) done =
    ap (done_by (j + 1)) steps.told_is ∙ done_append (j + 1) done (standings_told before next) ∙ ap (λ (x : List Act). done_by (j + 1) done ++ x) (standings_none (j + 1) before next) ∙ append-nil (done_by (j + 1) done) in
    subst (λ (s : LineState). TurnBy K j before s told) (sym steps.after_is) (counted_turn (steps.lines) acts (same_machines j next (record next { lines = steps.lines }) refl) turn)

-- behind a line of another track it is as it was
pub beside_turn : (K : Event → Type 0) (before after : LineState) (told : List Happening) (j : ℕ) → IsBeside before after → told ≡ [] → TurnBy K j before after told
beside_turn K before after told j beside none = is_still (ap (λ (l : Lane). unwilled l.body) (beside-lane before after (j + 1) beside)) (ap (done_by (j + 1)) none)

pub line_turn : SaysAlone → (t : Trace) (number : ℕ) (request : Request) (before after : LineState) (told : List Happening) → Stands t before → LineSteps number request before after told → (j : ℕ) → Turn j t before after told
line_turn alone t number request before after told st steps j =
    each_turn (λ (event : Event). AreTheirs event (scene_at t before j)) number request before after told j steps (are_theirs alone t number j before steps.next steps.done request st)

pub track_kind : (number : ℕ) (line : TrackLine) (before after : LineState) (told : List Happening) → TrackSteps number line before after told → Kind before after told
track_kind number (own_line request) before after told steps = line_kind number request before after told steps.0
track_kind number other_line before after told steps = inl (λ j. (ap (λ (l : Lane). unwilled l.body) (beside-lane before after (j + 1) steps.0), ap (done_by (j + 1)) steps.1))

-- EACH LINE OF A TRACK
pub track_turn : SaysAlone → (t : Trace) (number : ℕ) (line : TrackLine) (before after : LineState) (told : List Happening) → Stands t before → TrackSteps number line before after told → (j : ℕ) → Turn j t before after told
track_turn alone t number (own_line request) before after told st steps j = line_turn alone t number request before after told st steps.0 j
track_turn alone t number other_line before after told st steps j = beside_turn (λ (event : Event). AreTheirs event (scene_at t before j)) before after told j steps.0 steps.1

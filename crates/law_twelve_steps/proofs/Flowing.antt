-- A step of the machine above the gap, and of the one below it, in a line.
use Rattle.std.proofs.Common.{Bool, List, None, Some, [], ap, arith, drop, false, length, refl, subst, sym, true, ℕ, ◌++◌, ◌+◌, ◌-◌, ◌∙◌, ◌∷◌, ◌≡◌, ◌≤◌}
use Rattle.std.proofs.lemmas.Bool.{false≢true}
use Rattle.std.proofs.lemmas.List.{drop_all}
use Rattle.std.specs.Borrow.{Bor}
use Rattle.line_base.specs.declared.states.Role.TheVariants.{Upstream}
use Rattle.line_base.specs.declared.states.SensorEvent.{SensorEvent}
use Rattle.line_base.specs.declared.states.Side.TheVariants.{Entry, Exit}
use Rattle.board_record.specs.declared.record.Record.{Record}
use Rattle.board_record.specs.declared.sensed.Sensed.{Sensed}
use Rattle.hermes_horizontal.specs.declared.message.Horizontal.{Horizontal}
use Rattle.hermes_horizontal.specs.declared.message.Message.{Message}
use Rattle.handover_out.specs.State.{is_idle_phase}
use Rattle.handover_out.specs.declared.phase.Phase.{Phase}
use Rattle.line_link.specs.Flow.{Stream, coming}
use Rattle.hermes_horizontal.specs.Canonical.{canonical}
use Rattle.line_link.specs.Link.{LinkParts, after_flow}
use Rattle.line_link.specs.Texts.{bytes_of}
use Rattle.line_world.specs.FloorPlan.{FloorPlan, machine_at}
use Rattle.law_custody.specs.Words.{events_at}
use Rattle.node_core.specs.Desk.{Desk}
use Rattle.node_core.specs.Done.{Done}
use Rattle.node_core.specs.Event.{Event, Words, event_did, event_of}
use Rattle.node_core.specs.Node.{NodeState, desk_of}
use Rattle.node_core.specs.Reads.{all_read}
use Rattle.node_core.specs.Sides.{is_open}
use Rattle.node_core.specs.Step.{machine_step}
use Rattle.node_core.specs.declared.act.Act.{Act}
use Rattle.node_core.specs.declared.input.Input.{Input}
use Rattle.node_core.specs.declared.input.Input.TheVariants as inputs
use Rattle.node_core.specs.declared.lane.Body.{Body}
use Rattle.node_core.specs.declared.word.Word.{Word}
use Rattle.node_core.specs.declared.word.Word.TheVariants.{Says}
use Rattle.law_link_messages.specs.Fit.{AreFit, AreFitActs, AreFitRecords, IsFit, IsFitRecord, more_fit, more_kept}
use Rattle.law_link_messages.specs.Heard.{bodies}
use Rattle.law_link_messages.proofs.SayingWhat.{both_said as both_fit_said}
use Rattle.line_report.specs.declared.happening.Happening.{Happening}
use Rattle.line_step.specs.Lines.{Flows}
use Rattle.line_step.specs.Numbered.{node_at}
use Rattle.line_step.specs.Reasons.{is_dry_at, is_empty}
use Rattle.line_step.specs.State.{LineState, with_world}
use Rattle.line_step.specs.Steps.{MachineSteps, is_second, moment_of, unread_by}
use Rattle.line_step.specs.World.{WorldParts, link_at, with_link}
use Rattle.line_step.proofs.Numbers.{floor_stays, link_set_own}
use Rattle.law_one_standing.specs.Carried.{IsFitMachine}
use Rattle.law_one_standing.proofs.Carrying.{SaysAlone}
use Rattle.law_one_standing.proofs.RestLine.{node_there}
use Rattle.law_twelve_steps.specs.Twelve.{one_if}
use Rattle.law_twelve_steps.specs.Undisturbed.{are_some}
use Rattle.law_twelve_steps.proofs.Beside.{IsFirst, Leaves, leaves_still, reaches}
use Rattle.law_twelve_steps.proofs.Going.{AreCounted, Forth, Stage, counted, finish_above, lane_reaches, next_node}
use Rattle.law_twelve_steps.proofs.Lower.{Lower, open_if}
use Rattle.law_twelve_steps.proofs.Stage.{Joint}
use Rattle.law_twelve_steps.proofs.Texts.{Carrying, Flying, HeardOne, flying_rest, heard_none, heard_one, hears_text, whole_text}
use Rattle.law_twelve_steps.proofs.Turning.{above_beside, above_hearing, above_read_fits, above_said_fits, hearing, is_settled, last}
use Rattle.law_twelve_steps.proofs.Upper.{IsUpper, Upper, over}
use Rattle.law_twelve_steps.proofs.Upper as upper
use Rattle.law_one_standing.proofs.Mirroring.{fit_desk}

-- the handover is over behind a line
pub record IsOver (k left spare : ℕ) (told : Bool) (next : LineState) : Type 0 where
  pub fewer : spare ≤ left
  pub told_is : told ≡ true
  pub idle : is_idle_phase (node_at next k).lane.body.outlet.phase ≡ true

pub data Outcome (k : ℕ) (id : Record) (left spare : ℕ) (told : Bool) (next : LineState) : Type 0 where
  goes_forth : Forth k id left spare told next → Outcome k id left spare told next
  comes_to_end : IsOver k left spare told next → Outcome k id left spare told next

pub forth_less : {k : ℕ} {id : Record} {left spare : ℕ} {told : Bool} {next : LineState} (less : ℕ) → less ≤ spare → Forth k id left spare told next → Forth k id left less told next
forth_less less few f =
    let fewer = f.fewer in
    record { now = f.now; fewer = omega (arith, fewer, few); stage = f.stage }

pub outcome_less : {k : ℕ} {id : Record} {left spare : ℕ} {told : Bool} {next : LineState} (less : ℕ) → less ≤ spare → Outcome k id left spare told next → Outcome k id left less told next
outcome_less less few (goes_forth f) = goes_forth (forth_less less few f)
outcome_less less few (comes_to_end e) =
    let fewer = e.fewer in
    comes_to_end (record { fewer = omega (arith, fewer, few); told_is = e.told_is; idle = e.idle })

-- ---- what is fit

first_fits : (r : Record) (others : List Record) → AreFitRecords (r ∷ others) → IsFitRecord r
first_fits r others (more_kept one more) = one

pub front_fits : (r : Record) (kept : List Record) → IsFirst r kept → AreFitRecords kept → IsFitRecord r
front_fits r kept first fit = first_fits r first.others (subst (λ (ks : List Record). AreFitRecords ks) first.is fit)

next_fits : (a : Record) (u : Upper) (body : Body) → IsUpper a u body → AreFitRecords body.kept → (board : Record) → u ≡ over (Some board) → IsFitRecord board
next_fits a u body is fit board same = front_fits board body.kept (subst (λ (x : Upper). upper.Announces a x body) same is.offer).front fit

-- ---- the machine above, whatever befalls its entry

pub above_line : SaysAlone → (k : ℕ) (id : Record) (number left : ℕ) (told : Bool) (input : Input) (s : LineState) (w0 : WorldParts) (next : LineState) (done : List Happening) (st : Stage k id left told s) → AreCounted s → length s.world.floor.gaps ≡ length s.world.floor.machines - 1 → w0.floor ≡ s.world.floor
    → is_second input ≡ false → number ≤ 1000000 → IsFitMachine s k → AreFitRecords (node_at next k).lane.body.kept → (steps : MachineSteps number k input (with_world w0 s) next done) → steps.next.lane.exit_bytes ≡ steps.node.lane.exit_bytes → link_at k w0 ≡ link_at k s.world → node_at next k ≡ steps.next
    → ((body : Body) → Leaves Entry body (event_did (desk_of steps.node (moment_of number)) (event_of steps.node.maker input steps.steps.lane.words) body)) → Forth k id left (one_if (are_some st.up_seen)) told next
above_line alone k id number left told input s w0 next done st together whole floor first few fit kept steps bytes link next_is leaves =
    let node : NodeState = steps.node in
    let lane = steps.steps.lane in
    let desk : Desk = desk_of node (moment_of number) in
    let unread : List Sensed = unread_by k w0 in
    let event : Event = event_of node.maker input lane.words in
    let node_is : node_at s k ≡ node = node_there k (with_world w0 s) node steps.there in
    let seen : events_at Exit unread ≡ st.up_seen = ap (λ (f : FloorPlan). events_at Exit (machine_at f k).unread) floor ∙ st.up_unread in
    let at : IsUpper st.a st.u node.lane.body = subst (λ (n : NodeState). IsUpper st.a st.u n.lane.body) node_is st.upper in
    let x = above_beside desk st.joint in
    let step = upper.step_beside desk unread event node.lane.body at (subst (λ (es : List SensorEvent). upper.Reads desk st.a st.u es x.read x.first) (sym seen) x.reads) (leaves (all_read desk unread node.lane.body).body) in
    let u : Upper = step.0 in
    let more : List Act = step.1 in
    let follows : upper.Follows desk x.read u more = step.2 in
    let turns : upper.Turns st.a u (x.first ++ more) (machine_step desk unread event node.lane.body) = step.3 in
    let behind : IsUpper st.a u steps.next.lane.body = subst (λ (b : Body). IsUpper st.a u b) (sym lane.body) turns.upper in
    let desk_fit = fit_desk node number s k node_is few fit in
    let acts_fit : AreFitActs (x.first ++ more) =
    both_fit_said (above_read_fits desk desk_fit st.short x.reads) (above_said_fits desk desk_fit (next_fits st.a u steps.next.lane.body behind (subst (λ (n : NodeState). AreFitRecords n.lane.body.kept) next_is kept)) follows) in
    let carrying : Carrying steps.next.lane.exit_bytes (node_at s (k + 1)).lane.entry_bytes (link_at k w0) st.up st.down =
    subst (λ (l : LinkParts). Carrying steps.next.lane.exit_bytes (node_at s (k + 1)).lane.entry_bytes l st.up st.down) (sym link)
    (subst (λ (bs : List ℕ). Carrying bs (node_at s (k + 1)).lane.entry_bytes (link_at k s.world) st.up st.down) (ap (λ (n : NodeState). n.lane.exit_bytes) node_is ∙ sym bytes) st.link) in
    forth_less (one_if (are_some st.up_seen)) (let n : ℕ = one_if (are_some st.up_seen) in omega arith)
    (finish_above alone k id number left (one_if (are_some st.up_seen) + 0) told input s w0 next done st together whole floor first steps st.up carrying u (x.first ++ more) behind (lane_reaches Exit number k input (with_world w0 s) next done steps ∙ ap (λ (xs : List Act). reaches Exit xs) lane.told ∙ turns.reached) acts_fit (x.ends u more follows))

-- ---- it hears the oldest message

none_comes : (waiting : List ℕ) (stream : Stream) → Flying waiting stream [] → coming stream ≡ []
none_comes waiting stream f = ap (λ (ts : List (List ℕ)). drop stream.arrived (bytes_of ts)) f.flies.texts ∙ drop_all stream.arrived [] (omega arith)

-- something is in flight
pub data Oldest : List Message → Type 0 where
  oldest : {message : Message} {others : List Message} → Oldest (message ∷ others)

pub oldest_by : (waiting : List ℕ) (stream : Stream) (said : List Message) → Flying waiting stream said → is_empty (coming stream) ≡ false → Oldest said
oldest_by waiting stream [] f some = absurd (false≢true (sym (sym (ap (λ (bs : List ℕ). is_empty bs) (none_comes waiting stream f)) ∙ some)))
oldest_by waiting stream (message ∷ said) f some = oldest

pub fit_oldest : {message : Message} {said : List Message} → AreFit (message ∷ said) → IsFit message
fit_oldest (more_fit one others) = one

over_stays : {desk : Desk} (a : Record) (v u : Upper) (told : List Act) → upper.Follows desk v u told → v ≡ over None → is_idle_phase (upper.phase_of a u) ≡ true
over_stays a _ u told upper.follows_none is = ap (λ (x : Upper). is_idle_phase (upper.phase_of a x)) is
over_stays a v u told upper.follows_offer is = refl

-- an outlet that is over is idle, whatever it offers next
over_idle : {desk : Desk} {a : Record} {body : Body} (v u : Upper) (told : List Act) → upper.Follows desk v u told → v ≡ over None → IsUpper a u body → is_idle_phase body.outlet.phase ≡ true
over_idle {a = a} v u told follows is upper_is = ap (λ (p : Phase). is_idle_phase p) upper_is.phase ∙ over_stays a v u told follows is

-- what the machine above makes of one message
above_one : SaysAlone → (k : ℕ) (id : Record) (number left : ℕ) (told : Bool) (piece : Bor (List ℕ)) (s : LineState) (w0 : WorldParts) (next : LineState) (done : List Happening) (st : Stage k id left told s) → AreCounted s → length s.world.floor.gaps ≡ length s.world.floor.machines - 1 → w0.floor ≡ s.world.floor
    → number ≤ 1000000 → IsFitMachine s k → AreFitRecords (node_at next k).lane.body.kept → (steps : MachineSteps number k (inputs.Bytes Exit piece) (with_world w0 s) next done) → node_at next k ≡ steps.next
    → (message one : Message) (ups : List Message) → st.up ≡ message ∷ ups → one.body ≡ message.body → steps.steps.lane.words ≡ Says one ∷ [] → (is_open Exit steps.next.lane.body ≡ true → steps.next.lane.exit_bytes ≡ [])
    → Carrying [] (node_at s (k + 1)).lane.entry_bytes (link_at k w0) ups st.down → Outcome k id left 1 told next
above_one alone k id number left told piece s w0 next done st together whole floor few fit kept steps next_is message one ups up_is body_is words_are empty carried =
    let node : NodeState = steps.node in
    let lane = steps.steps.lane in
    let desk : Desk = desk_of node (moment_of number) in
    let unread : List Sensed = unread_by k w0 in
    let node_is : node_at s k ≡ node = node_there k (with_world w0 s) node steps.there in
    let seen : events_at Exit unread ≡ st.up_seen = ap (λ (f : FloorPlan). events_at Exit (machine_at f k).unread) floor ∙ st.up_unread in
    let at : IsUpper st.a st.u node.lane.body = subst (λ (n : NodeState). IsUpper st.a st.u n.lane.body) node_is st.upper in
    let joint : Joint st.a st.b st.w st.u st.up_seen st.l st.down_seen (message.body ∷ bodies ups) (bodies st.down) =
    subst (λ (ms : List Message). Joint st.a st.b st.w st.u st.up_seen st.l st.down_seen (bodies ms) (bodies st.down)) up_is st.joint in
    let did : Done = machine_step desk unread (Words Exit (Says one ∷ [])) node.lane.body in
    let body_now : steps.next.lane.body ≡ did.body = lane.body ∙ ap (λ (ws : List Word). (machine_step desk unread (Words Exit ws) node.lane.body).body) words_are in
    let acts_now : steps.steps.made ≡ did.acts = lane.told ∙ ap (λ (ws : List Word). (machine_step desk unread (Words Exit ws) node.lane.body).acts) words_are in
    let desk_fit = fit_desk node number s k node_is few fit in
    elim (above_hearing desk st.same joint) [
      | hearing {read} {mid} {first} {heard} reads hears heard_fit ends ↦
          let step = upper.step_hears desk unread one node.lane.body at (subst (λ (es : List SensorEvent). upper.Reads desk st.a st.u es read first) (sym seen) reads) (subst (λ (what : Horizontal). upper.Hears st.a read what mid heard) (sym body_is) hears) in
          let u : Upper = step.0 in
          let more : List Act = step.1 in
          let follows : upper.Follows desk mid u more = step.2 in
          let turns : upper.Turns st.a u (first ++ (heard ++ more)) did = step.3 in
          let behind : IsUpper st.a u steps.next.lane.body = subst (λ (b : Body). IsUpper st.a u b) (sym body_now) turns.upper in
          let acts_fit : AreFitActs (first ++ (heard ++ more)) =
          both_fit_said (above_read_fits desk desk_fit st.short reads) (both_fit_said heard_fit (above_said_fits desk desk_fit (next_fits st.a u steps.next.lane.body behind (subst (λ (n : NodeState). AreFitRecords n.lane.body.kept) next_is kept)) follows)) in
          let carrying : Carrying steps.next.lane.exit_bytes (node_at s (k + 1)).lane.entry_bytes (link_at k w0) ups st.down =
          subst (λ (bs : List ℕ). Carrying bs (node_at s (k + 1)).lane.entry_bytes (link_at k w0) ups st.down) (sym (empty (open_if steps.next.lane.body.exit.session.state behind.stands))) carried in
          goes_forth (forth_less 1 (let n : ℕ = one_if (are_some st.up_seen) in omega arith)
          (finish_above alone k id number left (one_if (are_some st.up_seen) + (1 + 0)) told (inputs.Bytes Exit piece) s w0 next done st together whole floor refl steps ups carrying u (first ++ (heard ++ more)) behind (lane_reaches Exit number k (inputs.Bytes Exit piece) (with_world w0 s) next done steps ∙ ap (λ (xs : List Act). reaches Exit xs) acts_now ∙ turns.reached) acts_fit (ends u more follows)))
      | last {read} {first} {again} reads hears settles fewer ↦
          let step = upper.step_hears desk unread one node.lane.body at (subst (λ (es : List SensorEvent). upper.Reads desk st.a st.u es read first) (sym seen) reads) (subst (λ (what : Horizontal). upper.Hears st.a read what (over None) []) (sym body_is) hears) in
          let u : Upper = step.0 in
          let follows : upper.Follows desk (over None) u step.1 = step.2 in
          let turns : upper.Turns st.a u (first ++ ([] ++ step.1)) did = step.3 in
          let most = st.few in
          comes_to_end (record {
            fewer = omega (arith, fewer, most);
            told_is = st.settles (ap (λ (x : Lower). is_settled x) settles);
            idle = ap (λ (n : NodeState). is_idle_phase n.lane.body.outlet.phase) next_is ∙ (ap (λ (b : Body). is_idle_phase b.outlet.phase) body_now ∙ over_idle (over None) u _ follows refl turns.upper);
          })
    ]

-- of the oldest text one word comes, or the machine doesn't hear it and has no connection, which can't be
above_words : SaysAlone → (k : ℕ) (id : Record) (number left : ℕ) (told : Bool) (piece : Bor (List ℕ)) (s : LineState) (w0 : WorldParts) (next : LineState) (done : List Happening) (st : Stage k id left told s) → AreCounted s → length s.world.floor.gaps ≡ length s.world.floor.machines - 1 → w0.floor ≡ s.world.floor
    → number ≤ 1000000 → IsFitMachine s k → AreFitRecords (node_at next k).lane.body.kept → (steps : MachineSteps number k (inputs.Bytes Exit piece) (with_world w0 s) next done) → node_at next k ≡ steps.next
    → (message : Message) (ups : List Message) → st.up ≡ message ∷ ups → (words : List Word) → steps.steps.lane.words ≡ words → HeardOne message (is_open Exit steps.next.lane.body) steps.next.lane.exit_bytes words
    → Carrying [] (node_at s (k + 1)).lane.entry_bytes (link_at k w0) ups st.down → Outcome k id left 1 told next
above_words alone k id number left told piece s w0 next done st together whole floor few fit kept steps next_is message ups up_is _ words_are (heard_one {one = one} body empty) carried =
    above_one alone k id number left told piece s w0 next done st together whole floor few fit kept steps next_is message one ups up_is body words_are empty carried
above_words alone k id number left told piece s w0 next done st together whole floor few fit kept steps next_is message ups up_is _ words_are (heard_none off) carried =
    let node : NodeState = steps.node in
    let lane = steps.steps.lane in
    let desk : Desk = desk_of node (moment_of number) in
    let unread : List Sensed = unread_by k w0 in
    let node_is : node_at s k ≡ node = node_there k (with_world w0 s) node steps.there in
    let seen : events_at Exit unread ≡ st.up_seen = ap (λ (f : FloorPlan). events_at Exit (machine_at f k).unread) floor ∙ st.up_unread in
    let at : IsUpper st.a st.u node.lane.body = subst (λ (n : NodeState). IsUpper st.a st.u n.lane.body) node_is st.upper in
    let x = above_beside desk st.joint in
    let step = upper.step_beside desk unread (Words Exit []) node.lane.body at (subst (λ (es : List SensorEvent). upper.Reads desk st.a st.u es x.read x.first) (sym seen) x.reads) (leaves_still Entry (all_read desk unread node.lane.body).body) in
    let turns : upper.Turns st.a step.0 (x.first ++ step.1) (machine_step desk unread (Words Exit []) node.lane.body) = step.3 in
    let body_now : steps.next.lane.body ≡ (machine_step desk unread (Words Exit []) node.lane.body).body = lane.body ∙ ap (λ (ws : List Word). (machine_step desk unread (Words Exit ws) node.lane.body).body) words_are in
    absurd (off (ap (λ (b : Body). is_open Exit b) body_now ∙ open_if (machine_step desk unread (Words Exit []) node.lane.body).body.exit.session.state turns.upper.stands))

above_oldest : SaysAlone → (k : ℕ) (id : Record) (number left : ℕ) (told : Bool) (piece : Bor (List ℕ)) (s : LineState) (w0 : WorldParts) (next : LineState) (done : List Happening) (st : Stage k id left told s) → AreCounted s → length s.world.floor.gaps ≡ length s.world.floor.machines - 1 → w0.floor ≡ s.world.floor
    → number ≤ 1000000 → IsFitMachine s k → AreFitRecords (node_at next k).lane.body.kept → (steps : MachineSteps number k (inputs.Bytes Exit piece) (with_world w0 s) next done) → node_at next k ≡ steps.next
    → (all : List Message) → st.up ≡ all → ((message : Message) (ups : List Message) → st.up ≡ message ∷ ups → (steps.node.lane.exit_bytes ++ piece.now ≡ canonical message) × Carrying [] (node_at s (k + 1)).lane.entry_bytes (link_at k w0) ups st.down)
    → Oldest all → Outcome k id left 1 told next
above_oldest alone k id number left told piece s w0 next done st together whole floor few fit kept steps next_is [] up_is carried some = elim some [ ]
above_oldest alone k id number left told piece s w0 next done st together whole floor few fit kept steps next_is (message ∷ ups) up_is carried some =
    let has = carried message ups up_is in
    let message_fit : IsFit message = fit_oldest (subst (λ (ms : List Message). AreFit ms) up_is st.link.upward.fit) in
    above_words alone k id number left told piece s w0 next done st together whole floor few fit kept steps next_is message ups up_is steps.steps.lane.words refl
    (hears_text alone message message_fit steps.node.lane.exit_bytes piece.now steps.next.lane.exit_bytes (is_open Exit steps.next.lane.body) steps.steps.lane.words has.0 steps.steps.lane.brings.0) has.1

-- ---- the machine above, to which the oldest text flows

pub above_flows : SaysAlone → (k : ℕ) (id : Record) (number left : ℕ) (told : Bool) (s next : LineState) (done : List Happening) (st : Stage k id left told s) → AreCounted s → length s.world.floor.gaps ≡ length s.world.floor.machines - 1 → number ≤ 1000000 → IsFitMachine s k → AreFitRecords (node_at next k).lane.body.kept
    → is_dry_at k Exit s.world ≡ false → Flows number k Exit None s next done → Outcome k id left 1 told next
above_flows alone k id number left told s next done st together whole few fit kept comes flows =
    let steps = flows.steps in
    let node : NodeState = steps.node in
    let lane = steps.steps.lane in
    let link : LinkParts = link_at k s.world in
    let w0 : WorldParts = with_link k (after_flow Upstream None link) s.world in
    let there = counted k s st.linked in
    let many = together.links in
    let most = there.1 in
    let now : link_at k w0 ≡ after_flow Upstream None link = link_set_own k (after_flow Upstream None link) s.world there.0 (omega (arith, many, most)) in
    let node_is : node_at s k ≡ node = node_there k (with_world w0 s) node steps.there in
    let stream : Stream = link.flows.to_upstream in
    let flying : Flying node.lane.exit_bytes stream st.up = subst (λ (n : NodeState). Flying n.lane.exit_bytes stream st.up) node_is st.link.upward in
    let next_is : node_at next k ≡ steps.next = next_node number k (inputs.Bytes Exit flows.piece) (with_world w0 s) next done steps in
    above_oldest alone k id number left told flows.piece s w0 next done st together whole (floor_stays k (after_flow Upstream None link) s.world) few fit kept steps next_is st.up refl
    (λ message ups is.
    let one : Flying node.lane.exit_bytes stream (message ∷ ups) = subst (λ (ms : List Message). Flying node.lane.exit_bytes stream ms) is flying in (
      subst (λ (bs : List ℕ). node.lane.exit_bytes ++ bs ≡ canonical message) (sym flows.bytes) (whole_text stream message one),
      subst (λ (l : LinkParts). Carrying [] (node_at s (k + 1)).lane.entry_bytes l ups st.down) (sym now) (record { stands = st.link.stands; upward = flying_rest stream message one; downward = st.link.downward }),
    ))
    (oldest_by node.lane.exit_bytes stream st.up flying comes)

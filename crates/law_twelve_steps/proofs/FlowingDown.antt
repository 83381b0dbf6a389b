-- A step of the machine below the gap, in a line.
use Rattle.std.proofs.Common.{Bool, List, None, [], ap, arith, false, length, refl, subst, sym, take, true, ℕ, ◌++◌, ◌+◌, ◌-◌, ◌∙◌, ◌∷◌, ◌≡◌, ◌≢◌, ◌≤◌, inl, inr}
use Rattle.std.specs.Borrow.{Bor}
use Rattle.line_base.specs.declared.states.Role.TheVariants.{Downstream, Upstream}
use Rattle.line_base.specs.declared.states.SensorEvent.{SensorEvent}
use Rattle.line_base.specs.declared.states.Side.TheVariants.{Entry}
use Rattle.board_record.specs.declared.record.Record.{Record}
use Rattle.board_record.specs.declared.sensed.Sensed.{Sensed}
use Rattle.hermes_horizontal.specs.declared.message.Horizontal.{Horizontal}
use Rattle.hermes_horizontal.specs.declared.message.Message.{Message}
use Rattle.handover_out.specs.State.{is_idle_phase}
use Rattle.handover_out.specs.declared.phase.Phase.{Phase}
use Rattle.line_link.specs.Flow.{Stream, coming, flowing}
use Rattle.hermes_horizontal.specs.Canonical.{canonical}
use Rattle.line_link.specs.Link.{LinkParts, after_flow}
use Rattle.line_world.specs.FloorPlan.{FloorPlan, machine_at}
use Rattle.law_custody.specs.Words.{events_at}
use Rattle.node_core.proofs.Sound.{read_exit}
use Rattle.node_core.specs.Desk.{Desk}
use Rattle.node_core.specs.Done.{Done}
use Rattle.node_core.specs.Event.{Event, Words, event_did, event_of}
use Rattle.node_core.specs.Node.{NodeState, desk_of}
use Rattle.node_core.specs.Reads.{all_read}
use Rattle.node_core.specs.Sides.{is_open}
use Rattle.node_core.specs.Step.{machine_step}
use Rattle.node_core.specs.declared.act.Act.{Act}
use Rattle.node_core.specs.declared.input.Input.{Input}
use Rattle.node_core.specs.declared.input.Input.TheVariants as inputs
use Rattle.node_core.specs.declared.lane.Body.{Body}
use Rattle.node_core.specs.declared.word.Word.{Word}
use Rattle.node_core.specs.declared.word.Word.TheVariants.{Says}
use Rattle.law_link_messages.specs.Fit.{AreFit, AreFitActs, IsFit, IsFitId}
use Rattle.law_link_messages.specs.Heard.{bodies}
use Rattle.law_link_messages.proofs.SayingWhat.{both_said as both_fit_said}
use Rattle.line_report.specs.declared.happening.Happening.{Happening}
use Rattle.line_step.specs.Lines.{Flows}
use Rattle.line_step.specs.Numbered.{Stand, node_at}
use Rattle.line_step.specs.Reasons.{is_dry_at, is_empty}
use Rattle.line_step.specs.State.{LineState, with_world}
use Rattle.line_step.specs.Steps.{MachineSteps, moment_of, unread_by}
use Rattle.line_step.specs.World.{WorldParts, link_at, with_link}
use Rattle.line_step.proofs.Changing.{step_changes}
use Rattle.line_step.proofs.Numbers.{floor_stays, link_set_own}
use Rattle.law_one_standing.specs.Carried.{IsFitMachine}
use Rattle.law_one_standing.proofs.Carrying.{SaysAlone}
use Rattle.law_one_standing.proofs.RestLine.{node_there}
use Rattle.law_twelve_steps.specs.Twelve.{one_if}
use Rattle.law_twelve_steps.specs.Undisturbed.{are_some}
use Rattle.law_twelve_steps.proofs.Beside.{reaches}
use Rattle.law_twelve_steps.proofs.Going.{AreCounted, Forth, Stage, counted, finish_below, lane_reaches}
use Rattle.law_twelve_steps.proofs.Lower.{Aside, IsLower, Lower, aside_still, settled, open_if}
use Rattle.law_twelve_steps.proofs.Lower as lower
use Rattle.law_twelve_steps.proofs.Stage.{Joint}
use Rattle.law_twelve_steps.proofs.Texts.{Carrying, Flying, HeardOne, flying_rest, heard_none, heard_one, hears_text, whole_text}
use Rattle.law_one_standing.proofs.Mirroring.{fit_desk}
use Rattle.law_twelve_steps.proofs.Flowing.{Oldest, Outcome, comes_to_end, fit_oldest, forth_less, goes_forth, oldest_by}
use Rattle.law_twelve_steps.proofs.Turning.{HasSettled, Tells, below_beside, below_hearing, below_read_fits, below_said_fits, follows_tell, has_both, has_before, hearing, hears_tell, last, reads_tell, tells_both}
use Rattle.law_twelve_steps.proofs.Upper.{Upper}
use Rattle.law_twelve_steps.proofs.Upper as upper

-- ---- the machine below, whatever befalls its exit

pub below_line : SaysAlone → (k : ℕ) (id : Record) (number left : ℕ) (told told_now : Bool) (input : Input) (s : LineState) (w0 : WorldParts) (next : LineState) (done : List Happening) (st : Stage k id left told s) → AreCounted s → length s.world.floor.gaps ≡ length s.world.floor.machines - 1 → w0.floor ≡ s.world.floor
    → number ≤ 1000000 → IsFitMachine s (k + 1) → (steps : MachineSteps number (k + 1) input (with_world w0 s) next done) → steps.node.lane.body.exit.session.role ≡ Upstream → steps.next.lane.entry_bytes ≡ steps.node.lane.entry_bytes → link_at k w0 ≡ link_at k s.world
    → ((body : Body) → body.exit.session.role ≡ Upstream → Aside body (event_did (desk_of steps.node (moment_of number)) (event_of steps.node.maker input steps.steps.lane.words) body))
    → (told ≡ true → told_now ≡ true) → (HasSettled st.b.id (reaches Entry steps.acts) → told_now ≡ true) → Forth k id left (one_if (are_some st.down_seen)) told_now next
below_line alone k id number left told told_now input s w0 next done st together whole floor few fit steps role bytes link aside later says =
    let node : NodeState = steps.node in
    let lane = steps.steps.lane in
    let desk : Desk = desk_of node (moment_of number) in
    let unread : List Sensed = unread_by (k + 1) w0 in
    let event : Event = event_of node.maker input lane.words in
    let node_is : node_at s (k + 1) ≡ node = node_there (k + 1) (with_world w0 s) node steps.there in
    let seen : events_at Entry unread ≡ st.down_seen = ap (λ (f : FloorPlan). events_at Entry (machine_at f (k + 1)).unread) floor ∙ st.down_unread in
    let at : IsLower node.capacity st.b st.l node.lane.body = subst (λ (n : NodeState). IsLower n.capacity st.b st.l n.lane.body) node_is st.lower in
    let x = below_beside desk st.joint in
    let read : Body = (all_read desk unread node.lane.body).body in
    let step = lower.step_aside desk unread event node.lane.body at (subst (λ (es : List SensorEvent). lower.Reads desk st.b st.l es x.read x.first) (sym seen) x.reads) (aside read (read_exit desk unread node.lane.body ∙ role)) in
    let l : Lower = step.0 in
    let more : List Act = step.1 in
    let follows : lower.Follows desk st.b x.read l more = step.3 in
    let turns : lower.Turns node.capacity st.b l (x.first ++ more) (machine_step desk unread event node.lane.body) = step.4 in
    let behind : IsLower node.capacity st.b l steps.next.lane.body = subst (λ (b : Body). IsLower node.capacity st.b l b) (sym lane.body) turns.lower in
    let desk_fit = fit_desk node number s (k + 1) node_is few fit in
    let short = subst (λ (n : ℕ). IsFitId n) (sym st.same) st.short in
    let acts_fit : AreFitActs (x.first ++ more) = both_fit_said (below_read_fits desk desk_fit short x.reads) (below_said_fits desk desk_fit short follows) in
    let reached : reaches Entry steps.acts ≡ x.first ++ more = lane_reaches Entry number (k + 1) input (with_world w0 s) next done steps ∙ ap (λ (xs : List Act). reaches Entry xs) lane.told ∙ turns.reached in
    let tells : Tells st.b.id st.l l (x.first ++ more) = tells_both st.l x.read l x.first more (reads_tell desk x.reads) (follows_tell desk follows) in
    let carrying : Carrying (node_at s k).lane.exit_bytes steps.next.lane.entry_bytes (link_at k w0) st.up st.down =
    subst (λ (l : LinkParts). Carrying (node_at s k).lane.exit_bytes steps.next.lane.entry_bytes l st.up st.down) (sym link)
    (subst (λ (bs : List ℕ). Carrying (node_at s k).lane.exit_bytes bs (link_at k s.world) st.up st.down) (ap (λ (n : NodeState). n.lane.entry_bytes) node_is ∙ sym bytes) st.link) in
    forth_less (one_if (are_some st.down_seen)) (let n : ℕ = one_if (are_some st.down_seen) in omega arith)
    (finish_below alone k id number left (one_if (are_some st.down_seen) + 0) told told_now input s w0 next done st together whole floor steps (steps.steps.capacity ∙ sym (ap (λ (n : NodeState). n.capacity) node_is)) st.down carrying l (x.first ++ more)
    (subst (λ (c : ℕ). IsLower c st.b l steps.next.lane.body) (sym (ap (λ (n : NodeState). n.capacity) node_is)) behind) reached acts_fit (x.ends l more follows)
    (λ is. elim (tells is) [ inl before ↦ later (st.settles before) | inr now ↦ says (subst (λ (xs : List Act). HasSettled st.b.id xs) (sym reached) now) ]))

-- ---- it hears the oldest message

below_one : SaysAlone → (k : ℕ) (id : Record) (number left : ℕ) (told told_now : Bool) (piece : Bor (List ℕ)) (s : LineState) (w0 : WorldParts) (next : LineState) (done : List Happening) (st : Stage k id left told s) → AreCounted s → length s.world.floor.gaps ≡ length s.world.floor.machines - 1 → w0.floor ≡ s.world.floor
    → number ≤ 1000000 → IsFitMachine s (k + 1) → (steps : MachineSteps number (k + 1) (inputs.Bytes Entry piece) (with_world w0 s) next done) → node_at next k ≡ node_at s k
    → (told ≡ true → told_now ≡ true) → (HasSettled st.b.id (reaches Entry steps.acts) → told_now ≡ true)
    → (message one : Message) (downs : List Message) → st.down ≡ message ∷ downs → one.body ≡ message.body → steps.steps.lane.words ≡ Says one ∷ [] → (is_open Entry steps.next.lane.body ≡ true → steps.next.lane.entry_bytes ≡ [])
    → Carrying (node_at s k).lane.exit_bytes [] (link_at k w0) st.up downs → Outcome k id left 1 told_now next
below_one alone k id number left told told_now piece s w0 next done st together whole floor few fit steps above_is later says message one downs down_is body_is words_are empty carried =
    let node : NodeState = steps.node in
    let lane = steps.steps.lane in
    let desk : Desk = desk_of node (moment_of number) in
    let unread : List Sensed = unread_by (k + 1) w0 in
    let node_is : node_at s (k + 1) ≡ node = node_there (k + 1) (with_world w0 s) node steps.there in
    let seen : events_at Entry unread ≡ st.down_seen = ap (λ (f : FloorPlan). events_at Entry (machine_at f (k + 1)).unread) floor ∙ st.down_unread in
    let at : IsLower node.capacity st.b st.l node.lane.body = subst (λ (n : NodeState). IsLower n.capacity st.b st.l n.lane.body) node_is st.lower in
    let joint : Joint st.a st.b st.w st.u st.up_seen st.l st.down_seen (bodies st.up) (message.body ∷ bodies downs) =
    subst (λ (ms : List Message). Joint st.a st.b st.w st.u st.up_seen st.l st.down_seen (bodies st.up) (bodies ms)) down_is st.joint in
    let did : Done = machine_step desk unread (Words Entry (Says one ∷ [])) node.lane.body in
    let body_now : steps.next.lane.body ≡ did.body = lane.body ∙ ap (λ (ws : List Word). (machine_step desk unread (Words Entry ws) node.lane.body).body) words_are in
    let acts_now : steps.steps.made ≡ did.acts = lane.told ∙ ap (λ (ws : List Word). (machine_step desk unread (Words Entry ws) node.lane.body).acts) words_are in
    let desk_fit = fit_desk node number s (k + 1) node_is few fit in
    let short = subst (λ (n : ℕ). IsFitId n) (sym st.same) st.short in
    elim (below_hearing desk st.same joint) [
      | hearing {read} {mid} {first} {heard} reads hears heard_fit ends ↦
          let step = lower.step_hears desk unread one node.lane.body at (subst (λ (es : List SensorEvent). lower.Reads desk st.b st.l es read first) (sym seen) reads) (subst (λ (what : Horizontal). lower.Hears st.b read what mid heard) (sym body_is) hears) in
          let l : Lower = step.0 in
          let more : List Act = step.1 in
          let rests = step.2 in
          let follows : lower.Follows desk st.b mid l more = step.3 in
          let turns : lower.Turns node.capacity st.b l (first ++ (heard ++ more)) did = step.4 in
          let behind : IsLower node.capacity st.b l steps.next.lane.body = subst (λ (b : Body). IsLower node.capacity st.b l b) (sym body_now) turns.lower in
          let acts_fit : AreFitActs (first ++ (heard ++ more)) = both_fit_said (below_read_fits desk desk_fit short reads) (both_fit_said heard_fit (below_said_fits desk desk_fit short follows)) in
          let reached : reaches Entry steps.acts ≡ first ++ (heard ++ more) = lane_reaches Entry number (k + 1) (inputs.Bytes Entry piece) (with_world w0 s) next done steps ∙ ap (λ (xs : List Act). reaches Entry xs) acts_now ∙ turns.reached in
          let tells : Tells st.b.id st.l l (first ++ (heard ++ more)) = tells_both st.l read l first (heard ++ more) (reads_tell desk reads) (tells_both read mid l heard more (hears_tell hears) (follows_tell desk follows)) in
          let carrying : Carrying (node_at s k).lane.exit_bytes steps.next.lane.entry_bytes (link_at k w0) st.up downs =
          subst (λ (bs : List ℕ). Carrying (node_at s k).lane.exit_bytes bs (link_at k w0) st.up downs) (sym (empty (open_if steps.next.lane.body.entry.session.state behind.stands))) carried in
          goes_forth (forth_less 1 (let n : ℕ = one_if (are_some st.down_seen) in omega arith)
          (finish_below alone k id number left (one_if (are_some st.down_seen) + (1 + 0)) told told_now (inputs.Bytes Entry piece) s w0 next done st together whole floor steps (steps.steps.capacity ∙ sym (ap (λ (n : NodeState). n.capacity) node_is)) downs carrying l (first ++ (heard ++ more))
          (subst (λ (c : ℕ). IsLower c st.b l steps.next.lane.body) (sym (ap (λ (n : NodeState). n.capacity) node_is)) behind) reached acts_fit (ends l more rests follows)
          (λ is. elim (tells is) [ inl before ↦ later (st.settles before) | inr now ↦ says (subst (λ (xs : List Act). HasSettled st.b.id xs) (sym reached) now) ])))
      | last {read} {first} {heard} reads hears above told_here fewer ↦
          let step = lower.step_hears desk unread one node.lane.body at (subst (λ (es : List SensorEvent). lower.Reads desk st.b st.l es read first) (sym seen) reads) (subst (λ (what : Horizontal). lower.Hears st.b read what (settled false) heard) (sym body_is) hears) in
          let more : List Act = step.1 in
          let turns : lower.Turns node.capacity st.b step.0 (first ++ (heard ++ more)) did = step.4 in
          let reached : reaches Entry steps.acts ≡ first ++ (heard ++ more) = lane_reaches Entry number (k + 1) (inputs.Bytes Entry piece) (with_world w0 s) next done steps ∙ ap (λ (xs : List Act). reaches Entry xs) acts_now ∙ turns.reached in
          let most = st.few in
          let idle : is_idle_phase (node_at s k).lane.body.outlet.phase ≡ true =
          ap (λ (p : Phase). is_idle_phase p) (subst (λ (x : Upper). (node_at s k).lane.body.outlet.phase ≡ upper.phase_of st.a x) above st.upper.phase) in
          comes_to_end (record {
            fewer = omega (arith, fewer, most);
            told_is = says (subst (λ (xs : List Act). HasSettled st.b.id xs) (sym reached) (has_both first (has_before more told_here)));
            idle = ap (λ (n : NodeState). is_idle_phase n.lane.body.outlet.phase) above_is ∙ idle;
          })
    ]

below_words : SaysAlone → (k : ℕ) (id : Record) (number left : ℕ) (told told_now : Bool) (piece : Bor (List ℕ)) (s : LineState) (w0 : WorldParts) (next : LineState) (done : List Happening) (st : Stage k id left told s) → AreCounted s → length s.world.floor.gaps ≡ length s.world.floor.machines - 1 → w0.floor ≡ s.world.floor
    → number ≤ 1000000 → IsFitMachine s (k + 1) → (steps : MachineSteps number (k + 1) (inputs.Bytes Entry piece) (with_world w0 s) next done) → node_at next k ≡ node_at s k
    → (told ≡ true → told_now ≡ true) → (HasSettled st.b.id (reaches Entry steps.acts) → told_now ≡ true)
    → (message : Message) (downs : List Message) → st.down ≡ message ∷ downs → (words : List Word) → steps.steps.lane.words ≡ words → HeardOne message (is_open Entry steps.next.lane.body) steps.next.lane.entry_bytes words
    → Carrying (node_at s k).lane.exit_bytes [] (link_at k w0) st.up downs → Outcome k id left 1 told_now next
below_words alone k id number left told told_now piece s w0 next done st together whole floor few fit steps above_is later says message downs down_is _ words_are (heard_one {one = one} body empty) carried =
    below_one alone k id number left told told_now piece s w0 next done st together whole floor few fit steps above_is later says message one downs down_is body words_are empty carried
below_words alone k id number left told told_now piece s w0 next done st together whole floor few fit steps above_is later says message downs down_is _ words_are (heard_none off) carried =
    let node : NodeState = steps.node in
    let lane = steps.steps.lane in
    let desk : Desk = desk_of node (moment_of number) in
    let unread : List Sensed = unread_by (k + 1) w0 in
    let node_is : node_at s (k + 1) ≡ node = node_there (k + 1) (with_world w0 s) node steps.there in
    let seen : events_at Entry unread ≡ st.down_seen = ap (λ (f : FloorPlan). events_at Entry (machine_at f (k + 1)).unread) floor ∙ st.down_unread in
    let at : IsLower node.capacity st.b st.l node.lane.body = subst (λ (n : NodeState). IsLower n.capacity st.b st.l n.lane.body) node_is st.lower in
    let x = below_beside desk st.joint in
    let step = lower.step_aside desk unread (Words Entry []) node.lane.body at (subst (λ (es : List SensorEvent). lower.Reads desk st.b st.l es x.read x.first) (sym seen) x.reads) (aside_still (all_read desk unread node.lane.body).body) in
    let turns : lower.Turns node.capacity st.b step.0 (x.first ++ step.1) (machine_step desk unread (Words Entry []) node.lane.body) = step.4 in
    let body_now : steps.next.lane.body ≡ (machine_step desk unread (Words Entry []) node.lane.body).body = lane.body ∙ ap (λ (ws : List Word). (machine_step desk unread (Words Entry ws) node.lane.body).body) words_are in
    absurd (off (ap (λ (b : Body). is_open Entry b) body_now ∙ open_if (machine_step desk unread (Words Entry []) node.lane.body).body.entry.session.state turns.lower.stands))

below_oldest : SaysAlone → (k : ℕ) (id : Record) (number left : ℕ) (told told_now : Bool) (piece : Bor (List ℕ)) (s : LineState) (w0 : WorldParts) (next : LineState) (done : List Happening) (st : Stage k id left told s) → AreCounted s → length s.world.floor.gaps ≡ length s.world.floor.machines - 1 → w0.floor ≡ s.world.floor
    → number ≤ 1000000 → IsFitMachine s (k + 1) → (steps : MachineSteps number (k + 1) (inputs.Bytes Entry piece) (with_world w0 s) next done) → node_at next k ≡ node_at s k
    → (told ≡ true → told_now ≡ true) → (HasSettled st.b.id (reaches Entry steps.acts) → told_now ≡ true)
    → (all : List Message) → st.down ≡ all → ((message : Message) (downs : List Message) → st.down ≡ message ∷ downs → (steps.node.lane.entry_bytes ++ piece.now ≡ canonical message) × Carrying (node_at s k).lane.exit_bytes [] (link_at k w0) st.up downs)
    → Oldest all → Outcome k id left 1 told_now next
below_oldest alone k id number left told told_now piece s w0 next done st together whole floor few fit steps above_is later says [] down_is carried some = elim some [ ]
below_oldest alone k id number left told told_now piece s w0 next done st together whole floor few fit steps above_is later says (message ∷ downs) down_is carried some =
    let has = carried message downs down_is in
    let message_fit : IsFit message = fit_oldest (subst (λ (ms : List Message). AreFit ms) down_is st.link.downward.fit) in
    below_words alone k id number left told told_now piece s w0 next done st together whole floor few fit steps above_is later says message downs down_is steps.steps.lane.words refl
    (hears_text alone message message_fit steps.node.lane.entry_bytes piece.now steps.next.lane.entry_bytes (is_open Entry steps.next.lane.body) steps.steps.lane.words has.0 steps.steps.lane.brings.0) has.1

-- ---- the machine below, to which the oldest text flows

pub below_flows : SaysAlone → (k : ℕ) (id : Record) (number left : ℕ) (told told_now : Bool) (s next : LineState) (done : List Happening) (st : Stage k id left told s) → AreCounted s → length s.world.floor.gaps ≡ length s.world.floor.machines - 1 → number ≤ 1000000 → IsFitMachine s (k + 1)
    → is_dry_at (k + 1) Entry s.world ≡ false → (flows : Flows number (k + 1) Entry None s next done) → (told ≡ true → told_now ≡ true) → (HasSettled st.b.id (reaches Entry flows.steps.acts) → told_now ≡ true) → Outcome k id left 1 told_now next
below_flows alone k id number left told told_now s next done st together whole few fit comes flows later says =
    let steps = flows.steps in
    let node : NodeState = steps.node in
    let link : LinkParts = link_at k s.world in
    let w0 : WorldParts = with_link (k + 1 - 1) (after_flow Downstream None (link_at (k + 1 - 1) s.world)) s.world in
    let there = counted k s st.linked in
    let many = together.links in
    let most = there.1 in
    let one_less : k + 1 - 1 ≡ k = omega arith in
    let now : link_at k w0 ≡ after_flow Downstream None link =
    ap (λ (n : ℕ). link_at k (with_link n (after_flow Downstream None (link_at n s.world)) s.world)) one_less ∙ link_set_own k (after_flow Downstream None link) s.world there.0 (omega (arith, many, most)) in
    let node_is : node_at s (k + 1) ≡ node = node_there (k + 1) (with_world w0 s) node steps.there in
    let stream : Stream = link.flows.to_downstream in
    let flying : Flying node.lane.entry_bytes stream st.down = subst (λ (n : NodeState). Flying n.lane.entry_bytes stream st.down) node_is st.link.downward in
    let apart : k ≢ k + 1 = omega arith in
    let above_is : node_at next k ≡ node_at s k = ap (λ (x : Stand). x.node) ((step_changes number (k + 1) (inputs.Bytes Entry flows.piece) (with_world w0 s) next done steps).machines k apart) in
    let piece_is : flows.piece.now ≡ take (flowing None stream) (coming stream) = flows.bytes ∙ ap (λ (n : ℕ). take (flowing None (link_at n s.world).flows.to_downstream) (coming (link_at n s.world).flows.to_downstream)) one_less in
    let some : is_empty (coming stream) ≡ false = sym (ap (λ (n : ℕ). is_empty (coming (link_at n s.world).flows.to_downstream)) one_less) ∙ comes in
    below_oldest alone k id number left told told_now flows.piece s w0 next done st together whole (floor_stays (k + 1 - 1) (after_flow Downstream None (link_at (k + 1 - 1) s.world)) s.world) few fit steps above_is later says st.down refl
    (λ message downs is.
    let one : Flying node.lane.entry_bytes stream (message ∷ downs) = subst (λ (ms : List Message). Flying node.lane.entry_bytes stream ms) is flying in (
      subst (λ (bs : List ℕ). node.lane.entry_bytes ++ bs ≡ canonical message) (sym piece_is) (whole_text stream message one),
      subst (λ (l : LinkParts). Carrying (node_at s k).lane.exit_bytes [] l st.up downs) (sym now) (record { stands = st.link.stands; upward = st.link.upward; downward = flying_rest stream message one }),
    ))
    (oldest_by node.lane.entry_bytes stream st.down flying some)

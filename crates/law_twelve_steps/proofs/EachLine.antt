-- Each form of line of an undisturbed stretch.
use Rattle.std.proofs.Common.{Bool, List, None, Option, Result, Ok, Err, Some, [], ap, arith, false, length, ne_eqb, refl, subst, sym, true, ℕ, ◌+◌, ◌-◌, ◌∙◌, ◌∷◌, ◌≡◌, ◌≢◌, ◌≤◌, ◌⊎◌, ◌||◌, inl, inr}
use Rattle.std.specs.Prelude.{nat_le, nat_lt}
use Rattle.std.proofs.lemmas.Bool.{le-leb, lt-ltb, and_from, or_right}
use Rattle.std.proofs.lemmas.List.{length-append}
use Rattle.law_one_standing.proofs.Behind.{fit_machine}
use Rattle.board_record.specs.declared.record.Record.{Record}
use Rattle.line_base.specs.declared.states.Role.TheVariants.{Upstream}
use Rattle.line_base.specs.declared.states.Side.{Side}
use Rattle.line_base.specs.declared.states.Side.TheVariants.{Entry, Exit}
use Rattle.line_link.specs.Link.{after_connect, after_flow, after_spoil, connected_of, cut}
use Rattle.line_link.specs.declared.link.Connected.{Connected}
use Rattle.line_link.specs.declared.link.Connected.TheVariants as connections
use Rattle.line_world.specs.FloorPlan.{FloorPlan, IsWhole}
use Rattle.line_world.specs.Moves.{floor_move}
use Rattle.line_world.specs.declared.moves.Move.{Move}
use Rattle.line_world.specs.declared.moves.Move.TheVariants as moves
use Rattle.line_world.specs.declared.moves.MoveNo.{MoveNo}
use Rattle.node_core.specs.Desk.{Desk}
use Rattle.node_core.specs.Done.{behind}
use Rattle.node_core.specs.Event.{event_did, event_of}
use Rattle.node_core.specs.Halves.{ended}
use Rattle.node_core.specs.Node.{NodeState, desk_of}
use Rattle.node_core.specs.Connect.{notices, opens}
use Rattle.node_core.specs.Sides.{is_open, session_at}
use Rattle.node_core.specs.Done.{done as did_only}
use Rattle.node_core.specs.declared.act.Act.{Act}
use Rattle.node_core.specs.declared.act.Act.TheVariants as acts
use Rattle.node_core.specs.declared.input.Input.{Input}
use Rattle.node_core.specs.declared.input.Input.TheVariants as inputs
use Rattle.node_core.specs.declared.lane.Body.{Body}
use Rattle.node_core.proofs.Keeping.{ended_keeps, heard_keeps, if_keeps, keeps_behind, session_keeps}
use Rattle.session_core.specs.Input.{opened, second}
use Rattle.session_core.specs.Row.{session_row}
use Rattle.law_link_messages.specs.Fit.{AreFitRecords}
use Rattle.line_report.specs.declared.happening.Happening.{Happening}
use Rattle.line_step.specs.Lines.{Becomes, Connects, Flows, LineDoes, connecting, met, move_told, moved, spoiled}
use Rattle.line_step.specs.Numbered.{node_at}
use Rattle.line_step.specs.Reasons.{has_link, may_do, may_flow}
use Rattle.line_step.specs.State.{LineState, one_more, with_world}
use Rattle.line_step.specs.Steps.{MachineSteps, is_second, moment_of, read_by}
use Rattle.line_step.specs.World.{WorldParts, end_of, link_at, link_of, with_floor, with_link}
use Rattle.line_step.proofs.Changing.{more_changes}
use Rattle.line_step.proofs.Counting.{step_counts}
use Rattle.line_step.proofs.Numbers.{floor_stays, link_set_other, links_stay as links_counted, machine_within, same_or_not}
use Rattle.law_one_standing.specs.Carried.{IsFitMachine}
use Rattle.law_one_standing.proofs.Carrying.{SaysAlone}
use Rattle.law_one_standing.proofs.LineRun.{Stood}
use Rattle.law_one_standing.proofs.MirroringFlow.{can_flow}
use Rattle.law_one_standing.proofs.RestLine.{node_there}
use Rattle.law_twelve_steps.specs.Twelve.{tells_settled}
use Rattle.law_twelve_steps.specs.Undisturbed.{IsElsewhere, IsUndisturbed, NamesElsewhere, blank, connects_above, elsewhere, flows_above, flows_below, flows_down, flows_up, is_of_link, notices_above, notices_below, senses, shows, spoils_above, spoils_below}
use Rattle.law_twelve_steps.specs.Undisturbed.{begins, enters, is_answered, is_asked, is_supervised, leaves}
use Rattle.law_twelve_steps.proofs.Beside.{Leaves, heard_leaves, leaves_behind, leaves_told, notices_leave, opens_leave, reaches, second_leaves}
use Rattle.law_twelve_steps.proofs.Beyond.{Untouched, begins_forth, enters_forth, forth_untouched, leaves_forth, machine_beyond, move_beyond, stage_untouched, untouched_self, untouched_then}
use Rattle.law_twelve_steps.proofs.Flowing.{above_flows, above_line, forth_less, goes_forth}
use Rattle.law_twelve_steps.proofs.FlowingDown.{below_flows, below_line}
use Rattle.law_twelve_steps.proofs.Going.{AreCounted, Forth, Stage, counted, next_node}
use Rattle.law_twelve_steps.proofs.Lower.{Aside, aside_by}
use Rattle.law_twelve_steps.proofs.Lines.{Goes, Had, becomes_goes, beyond_step, counts_of, elsewhere_flow, elsewhere_step, forth_later, goes_none, goes_one, later_told, link_untouched, other_link, outcome_later, refused, sense_by, settled_behind, told_below, unless_goes, unread_elsewhere, acts_settle}
use Rattle.law_twelve_steps.proofs.Turning.{HasSettled}
use Rattle.node_core.specs.Places.{used}
use Rattle.line_step.specs.Requests.{Request}
use Rattle.line_step.proofs.Effects.{Effect, done_move, line_effect}
use Rattle.line_step.specs.Requests as requests
use Rattle.line_step.proofs.Effects as effects

-- ---- bytes at this link

flow_up : {k : ℕ} {id : Record} {left number : ℕ} {told : Bool} {s next : LineState} {done : List Happening} → Had k id left number told s next → may_flow k Exit s ≡ may_do → Flows number k Exit None s next done → Goes k id left told s (requests.flows k Exit None) next done
flow_up {k = k} {id = id} {left = left} {number = number} {told = told} {s = s} {next = next} {done = done} h may flows =
    goes_one (requests.flows k Exit None) (outcome_later (later_told k id.id told done)
    (above_flows h.alone k id number left told s next done h.st (counts_of h.stood) h.stood.stands.ids.whole h.few (h.stood.stands.fit k) (h.next_stood.stands.fit k).body.kept (can_flow k Exit s may).comes flows))

flow_down : {k : ℕ} {id : Record} {left number : ℕ} {told : Bool} {s next : LineState} {done : List Happening} → Had k id left number told s next → may_flow (k + 1) Entry s ≡ may_do → Flows number (k + 1) Entry None s next done → Goes k id left told s (requests.flows (k + 1) Entry None) next done
flow_down {k = k} {id = id} {left = left} {number = number} {told = told} {s = s} {next = next} {done = done} h may flows =
    let st = h.st in
    goes_one (requests.flows (k + 1) Entry None)
    (below_flows h.alone k id number left told (told || tells_settled k id.id done) s next done st (counts_of h.stood) h.stood.stands.ids.whole h.few (h.stood.stands.fit (k + 1)) (can_flow (k + 1) Entry s may).comes flows
    (later_told k id.id told done) (told_below k told number (inputs.Bytes Entry flows.piece) st.b.id (st.same ∙ st.named) flows.steps))

-- ---- what befalls the entry of the machine above

above_goes : {k : ℕ} {id : Record} {left number : ℕ} {told : Bool} {s next : LineState} {done : List Happening} (request : Request) (input : Input) (w0 : WorldParts) → Had k id left number told s next → is_of_link k s request ≡ false → w0.floor ≡ s.world.floor → link_at k w0 ≡ link_at k s.world → is_second input ≡ false
    → (steps : MachineSteps number k input (with_world w0 s) next done) → steps.next.lane.exit_bytes ≡ steps.node.lane.exit_bytes → ((body : Body) → Leaves Entry body (event_did (desk_of steps.node (moment_of number)) (event_of steps.node.maker input steps.steps.lane.words) body)) → Goes k id left told s request next done
above_goes {k = k} {id = id} {left = left} {number = number} {told = told} {s = s} {next = next} {done = done} request input w0 h is floor link first steps bytes lets =
    goes_none request is (forth_less 0 (omega arith) (forth_later (later_told k id.id told done)
    (above_line h.alone k id number left told input s w0 next done h.st (counts_of h.stood) h.stood.stands.ids.whole floor first h.few (h.stood.stands.fit k) (h.next_stood.stands.fit k).body.kept steps bytes link (next_node number k input (with_world w0 s) next done steps) lets)))

flow_above_of : (k : ℕ) (count : Option ℕ) (s : LineState) → is_of_link k s (requests.flows k Entry count) ≡ false
flow_above_of k None s =
    let apart : k ≢ k + 1 = omega arith in
    ne_eqb k (k + 1) apart
flow_above_of k (Some count) s = refl

flow_above : {k : ℕ} {id : Record} {left number : ℕ} {told : Bool} {s next : LineState} {done : List Happening} (count : Option ℕ) → Had k id left number told s next → Flows number k Entry count s next done → Goes k id left told s (requests.flows k Entry count) next done
flow_above {k = k} {s = s} count h flows =
    let one = (counted k s h.st.linked).0 in
    let parts = after_flow (end_of Entry) count (link_at (k - 1) s.world) in
    let apart : k ≢ k - 1 = omega (arith, one) in
    above_goes (requests.flows k Entry count) (inputs.Bytes Entry flows.piece) (with_link (k - 1) parts s.world) h (flow_above_of k count s) (floor_stays (k - 1) parts s.world) (link_set_other (k - 1) k parts s.world apart) refl flows.steps flows.steps.steps.lane.brings.1
    (λ body. heard_leaves (desk_of flows.steps.node (moment_of _)) Entry flows.steps.steps.lane.words body tt)

notice_above : {k : ℕ} {id : Record} {left number : ℕ} {told : Bool} {s next : LineState} {done : List Happening} → Had k id left number told s next → MachineSteps number k (inputs.Notice Entry) s next done → Goes k id left told s (requests.gives k (inputs.Notice Entry)) next done
notice_above {k = k} {s = s} h steps = above_goes (requests.gives k (inputs.Notice Entry)) (inputs.Notice Entry) s.world h refl refl refl refl steps steps.steps.lane.brings.1 (λ body. notices_leave (desk_of steps.node (moment_of _)) Entry body)

-- ---- what befalls the exit of the machine below

role_of : {s : LineState} (m : ℕ) (node : NodeState) → Stood s → node_at s m ≡ node → node.lane.body.exit.session.role ≡ Upstream
role_of m node stood is = subst (λ (n : NodeState). n.lane.body.exit.session.role ≡ Upstream) is (stood.stands.sound m).exit

below_goes : {k : ℕ} {id : Record} {left number : ℕ} {told : Bool} {s next : LineState} {done : List Happening} (request : Request) (input : Input) (w0 : WorldParts) → Had k id left number told s next → is_of_link k s request ≡ false → w0.floor ≡ s.world.floor → link_at k w0 ≡ link_at k s.world
    → (steps : MachineSteps number (k + 1) input (with_world w0 s) next done) → steps.next.lane.entry_bytes ≡ steps.node.lane.entry_bytes → ((body : Body) → body.exit.session.role ≡ Upstream → Aside body (event_did (desk_of steps.node (moment_of number)) (event_of steps.node.maker input steps.steps.lane.words) body)) → Goes k id left told s request next done
below_goes {k = k} {id = id} {left = left} {number = number} {told = told} {s = s} {next = next} {done = done} request input w0 h is floor link steps bytes aside =
    let st = h.st in
    goes_none request is (forth_less 0 (omega arith)
    (below_line h.alone k id number left told (told || tells_settled k id.id done) input s w0 next done st (counts_of h.stood) h.stood.stands.ids.whole floor h.few (h.stood.stands.fit (k + 1)) steps (role_of (k + 1) steps.node h.stood (node_there (k + 1) (with_world w0 s) steps.node steps.there)) bytes link aside
    (later_told k id.id told done) (told_below k told number input st.b.id (st.same ∙ st.named) steps)))

flow_below_of : (k : ℕ) (count : Option ℕ) (s : LineState) → is_of_link k s (requests.flows (k + 1) Exit count) ≡ false
flow_below_of k None s =
    let apart : k + 1 ≢ k = omega arith in
    ne_eqb (k + 1) k apart
flow_below_of k (Some count) s = refl

flow_below : {k : ℕ} {id : Record} {left number : ℕ} {told : Bool} {s next : LineState} {done : List Happening} (count : Option ℕ) → Had k id left number told s next → Flows number (k + 1) Exit count s next done → Goes k id left told s (requests.flows (k + 1) Exit count) next done
flow_below {k = k} {s = s} count h flows =
    let parts = after_flow (end_of Exit) count (link_at (k + 1) s.world) in
    let apart : k ≢ k + 1 = omega arith in
    below_goes (requests.flows (k + 1) Exit count) (inputs.Bytes Exit flows.piece) (with_link (k + 1) parts s.world) h (flow_below_of k count s) (floor_stays (k + 1) parts s.world) (link_set_other (k + 1) k parts s.world apart) flows.steps flows.steps.steps.lane.brings.1
    (λ body role. aside_by (heard_leaves (desk_of flows.steps.node (moment_of _)) Exit flows.steps.steps.lane.words body role) (heard_keeps (used body) (desk_of flows.steps.node (moment_of _)) Exit flows.steps.steps.lane.words body))

notice_aside : (desk : Desk) (body : Body) → Aside body (notices desk Exit body)
notice_aside desk body =
    aside_by (notices_leave desk Exit body) (if_keeps (used body) (is_open Exit body) (behind (acts.Notices Exit ∷ []) (ended desk Exit body)) body (keeps_behind (used body) body (acts.Notices Exit ∷ []) (ended desk Exit body) (λ own. refl) (ended_keeps (used body) desk Exit body)))

notice_below : {k : ℕ} {id : Record} {left number : ℕ} {told : Bool} {s next : LineState} {done : List Happening} → Had k id left number told s next → MachineSteps number (k + 1) (inputs.Notice Exit) s next done → Goes k id left told s (requests.gives (k + 1) (inputs.Notice Exit)) next done
notice_below {k = k} {s = s} h steps = below_goes (requests.gives (k + 1) (inputs.Notice Exit)) (inputs.Notice Exit) s.world h refl refl refl steps steps.steps.lane.brings.0 (λ body role. notice_aside (desk_of steps.node (moment_of _)) body)

-- ---- connections of the machine above with the one above it

connect_above : {k : ℕ} {id : Record} {left number : ℕ} {told : Bool} {s next : LineState} {done : List Happening} → Had k id left number told s next → Connects number k s next done → Goes k id left told s (requests.connects k) next done
connect_above {k = k} {id = id} {left = left} {number = number} {told = told} {s = s} {next = next} {done = done} h c =
    let one = (counted k s h.st.linked).0 in
    let parts = after_connect (link_at (k - 1) s.world) in
    let w0 : WorldParts = with_link (k - 1) parts s.world in
    let apart : k ≢ k - 1 = omega (arith, one) in
    let above : k - 1 ≢ k = omega (arith, one) in
    let below : k - 1 ≢ k + 1 = omega arith in
    let then : Untouched k c.between next = beyond_step k number (k - 1) _ c.between next c.later above below c.second in
    let kept : AreFitRecords (node_at c.between k).lane.body.kept = subst (λ (n : NodeState). AreFitRecords n.lane.body.kept) then.above (h.next_stood.stands.fit k).body.kept in
    let desk : Desk = desk_of c.first.node (moment_of number) in
    let f = above_line h.alone k id number left told inputs.Connect s w0 c.between c.earlier h.st (counts_of h.stood) h.stood.stands.ids.whole (floor_stays (k - 1) parts s.world) refl h.few (h.stood.stands.fit k) kept c.first c.first.steps.lane.brings.1 (link_set_other (k - 1) k parts s.world apart)
    (next_node number k inputs.Connect (with_world w0 s) c.between c.earlier c.first) (λ body. leaves_behind Entry body (acts.Connects ∷ []) (opens desk Entry body) refl (opens_leave desk Entry body tt)) in
    goes_none (requests.connects k) refl (forth_less 0 (omega arith) (record { now = f.now; fewer = f.fewer; stage = stage_untouched then (later_told k id.id told done) f.stage }))

-- ---- moves

by_answer : {k : ℕ} {id : Record} {left : ℕ} {told : Bool} {s next : LineState} {done : List Happening} (request : Request) (gap : ℕ) (step : Move) (answer : Result FloorPlan MoveNo) → Stage k id left told s → floor_move gap step s.world.floor ≡ answer → Becomes (moved answer s) (move_told gap step answer) next done
    → ((plan : FloorPlan) → floor_move gap step s.world.floor ≡ Ok plan → Goes k id left told s request (with_world (with_floor plan s.world) s) done) → Goes k id left told s request next done
by_answer {k = k} {id = id} {left = left} {told = told} {s = s} {done = done} request gap step (Ok plan) st is b goes = subst (λ (x : LineState). Goes k id left told s request x done) (sym b.after_is) (goes plan is)
by_answer request gap step (Err why) st is b goes = refused request _ st b

move_elsewhere : {k : ℕ} {id : Record} {left : ℕ} {told : Bool} {s next : LineState} {done : List Happening} (request : Request) (gap : ℕ) (step : Move) → Stage k id left told s → gap ≢ k → is_of_link k s request ≡ false → Becomes (moved (floor_move gap step s.world.floor) s) (move_told gap step (floor_move gap step s.world.floor)) next done → Goes k id left told s request next done
move_elsewhere {k = k} {id = id} {told = told} {s = s} {done = done} request gap step st apart is b =
    by_answer request gap step (floor_move gap step s.world.floor) st refl b (λ plan moves. goes_none request is (forth_untouched (move_beyond k gap step s plan apart moves) (later_told k id.id told done) st))

-- ---- connections elsewhere

data IsMeeting : Input → Type 0 where
  meets_accepted : IsMeeting inputs.Accepted
  meets_again : IsMeeting inputs.Second

met_is : (c : Connected) → IsMeeting (met c)
met_is connections.Accepted = meets_accepted
met_is connections.Second = meets_again

-- the machine below meets a connection at its exit
below_meets : {k : ℕ} {id : Record} {left number : ℕ} {told told_now : Bool} {s next : LineState} {done : List Happening} (input : Input) → IsMeeting input → SaysAlone → Stage k id left told s → AreCounted s → IsWhole s.world.floor → number ≤ 1000000 → IsFitMachine s (k + 1) → (node_at s (k + 1)).lane.body.exit.session.role ≡ Upstream
    → (steps : MachineSteps number (k + 1) input s next done) → (told ≡ true → told_now ≡ true) → ((n : ℕ) → HasSettled n (reaches Entry steps.acts) → tells_settled k n done ≡ true) → (tells_settled k id.id done ≡ true → told_now ≡ true) → Forth k id left 0 told_now next
below_meets {k = k} {id = id} {left = left} {number = number} {told = told} {told_now = told_now} {s = s} {next = next} {done = done} _ meets_accepted alone st counts whole few fit role steps later settles says =
    let desk : Desk = desk_of steps.node (moment_of number) in
    let own = subst (λ (n : NodeState). n.lane.body.exit.session.role ≡ Upstream) (node_there (k + 1) s steps.node steps.there) role in
    forth_less 0 (omega arith) (below_line alone k id number left told told_now inputs.Accepted s s.world next done st counts whole refl few fit steps own steps.steps.lane.brings.0 refl
    (λ body r. aside_by (opens_leave desk Exit body r) (session_keeps (used body) desk Exit opened body (session_row (session_at Exit body) opened) refl)) later (λ h. says (subst (λ (n : ℕ). tells_settled k n done ≡ true) (st.same ∙ st.named) (settles st.b.id h))))
below_meets {k = k} {id = id} {left = left} {number = number} {told = told} {told_now = told_now} {s = s} {next = next} {done = done} _ meets_again alone st counts whole few fit role steps later settles says =
    let desk : Desk = desk_of steps.node (moment_of number) in
    let own = subst (λ (n : NodeState). n.lane.body.exit.session.role ≡ Upstream) (node_there (k + 1) s steps.node steps.there) role in
    forth_less 0 (omega arith) (below_line alone k id number left told told_now inputs.Second s s.world next done st counts whole refl few fit steps own steps.steps.lane.brings.0 refl
    (λ body r. aside_by (second_leaves desk body r) (session_keeps (used body) desk Exit second body (session_row (session_at Exit body) second) refl)) later (λ h. says (subst (λ (n : ℕ). tells_settled k n done ≡ true) (st.same ∙ st.named) (settles st.b.id h))))

connect_elsewhere : {k : ℕ} {id : Record} {left number : ℕ} {told : Bool} {s next : LineState} {done : List Happening} (request : Request) (m : ℕ) → Had k id left number told s next → IsElsewhere k m → is_of_link k s request ≡ false → Connects number m s next done → (m - 1 ≡ k + 1) ⊎ (m - 1 ≢ k + 1) → Goes k id left told s request next done
connect_elsewhere {k = k} {id = id} {left = left} {number = number} {told = told} {s = s} {next = next} {done = done} request m h e not_of c which =
    let one = (counted k s h.st.linked).0 in
    let within = (machine_within m (connecting m s) c.first.node c.first.there).0 in
    let below = e.not_below in
    let above = e.not_above in
    let apart : m - 1 ≢ k = omega (arith, one, below) in
    let parts = after_connect (link_at (m - 1) s.world) in
    let start : LineState = connecting m s in
    let first : Untouched k s c.between = untouched_then (link_untouched k (m - 1) parts s apart) (beyond_step k number m inputs.Connect start c.between c.earlier above below c.first) in
    elim which [
      | inl is ↦
          let same = step_counts number m inputs.Connect start c.between c.earlier c.first in
          let counts = counts_of h.stood in
          let floor_same : (with_link (m - 1) parts s.world).floor ≡ s.world.floor = floor_stays (m - 1) parts s.world in
          let links_same : length start.world.links ≡ length s.world.links = links_counted (m - 1) parts s.world in
          let machines = same.machines in
          let counts_now : AreCounted c.between = record {
            floor = same.world.floor ∙ (ap (λ (f : FloorPlan). length f.machines) floor_same ∙ (counts.floor ∙ sym machines));
            links = same.world.links ∙ (links_same ∙ (counts.links ∙ ap (λ (n : ℕ). n - 1) (sym machines)));
          } in
          let whole : IsWhole c.between.world.floor =
          same.world.gaps ∙ (ap (λ (f : FloorPlan). length f.gaps) floor_same ∙ (h.stood.stands.ids.whole ∙ ap (λ (n : ℕ). n - 1) (sym (same.world.floor ∙ ap (λ (f : FloorPlan). length f.machines) floor_same)))) in
          let role = subst (λ (n : NodeState). n.lane.body.exit.session.role ≡ Upstream) (sym first.below) (h.stood.stands.sound (k + 1)).exit in
          let st : Stage k id left told c.between = stage_untouched first (λ x. x) h.st in
          let input : Input = met (connected_of (link_at (m - 1) s.world).upstream) in
          let second_step : MachineSteps number (k + 1) input c.between next c.later = subst (λ (n : ℕ). MachineSteps number n input c.between next c.later) is c.second in
          goes_none request not_of
          (below_meets input (met_is (connected_of (link_at (m - 1) s.world).upstream)) h.alone st counts_now whole h.few (fit_machine s c.between (k + 1) first.below (h.stood.stands.fit (k + 1))) role second_step (later_told k id.id told done)
          (λ n settles. ap (λ (hs : List Happening). tells_settled k n hs) second_step.told_is ∙ acts_settle (is_second input) k n second_step.acts (read_by (k + 1) c.between.world) settles)
          (λ is_told. or_right told (tells_settled k id.id done) (ap (λ (hs : List Happening). tells_settled k id.id hs) c.told_is ∙ settled_behind k id.id c.earlier c.later is_told)))
      | inr other ↦
          goes_none request not_of (forth_untouched (untouched_then first (beyond_step k number (m - 1) _ c.between next c.later apart other c.second)) (later_told k id.id told done) h.st)
    ]

-- ---- lines of elsewhere

more_untouched : (k : ℕ) (lane : ℕ) (is_bridge : Bool) (capacity many : ℕ) (s : LineState) → has_link k s ≡ true → Untouched k s (one_more lane is_bridge capacity many s)
more_untouched k lane is_bridge capacity many s linked =
    let few = counted k s linked in
    let one = few.0 in
    let most = few.1 in
    let now : LineState = one_more lane is_bridge capacity many s in
    let above : length s.machines + 1 ≢ k = omega (arith, most) in
    let below : length s.machines + 1 ≢ k + 1 = omega (arith, most) in
    let count : length now.machines ≡ length s.machines + 1 = length-append s.machines _ in
    machine_beyond k (length s.machines + 1) s now above below (more_changes lane is_bridge capacity many s)
    (λ _. and_from (nat_le 1 k) (nat_lt k (length now.machines)) (le-leb 1 k one) (lt-ltb k (length now.machines) (omega (arith, most, count))))

spoil_elsewhere : {k : ℕ} {id : Record} {left : ℕ} {told : Bool} {s next : LineState} {done what : List Happening} (request : Request) (m : ℕ) (side : Side) → Stage k id left told s → link_of m side ≢ k → is_of_link k s request ≡ false → Becomes (spoiled m side s) what next done → Goes k id left told s request next done
spoil_elsewhere {k = k} {s = s} request m side st apart is b = becomes_goes request st (link_untouched k (link_of m side) (after_spoil (end_of side) (link_at (link_of m side) s.world)) s apart) is b

not_of_link : (k : ℕ) (s : LineState) (request : Request) → NamesElsewhere k request → is_of_link k s request ≡ false
not_of_link k s (requests.flows m Exit None) e = ne_eqb m k e.not_above
not_of_link k s (requests.flows m Entry None) e = ne_eqb m (k + 1) e.not_below
not_of_link k s (requests.moves_on gap moves.Begin) e = ne_eqb gap k e
not_of_link k s (requests.moves_on gap moves.Left) e = ne_eqb gap k e
not_of_link k s (requests.moves_on gap moves.Enter) e = ne_eqb gap k e
not_of_link k s (requests.gives m inputs.Nothing) e = unread_elsewhere k m s e.not_above e.not_below
not_of_link k s _ e = refl

elsewhere_effect : {k : ℕ} {id : Record} {left number : ℕ} {told : Bool} {s next : LineState} {done : List Happening} (request : Request) → NamesElsewhere k request → is_of_link k s request ≡ false → Had k id left number told s next → Effect number s next done request → Goes k id left told s request next done
elsewhere_effect {k = k} {s = s} request e is h (effects.rests _ what remarks b) = becomes_goes request h.st (untouched_self k s) is b
elsewhere_effect {k = k} {s = s} request e is h (effects.adds lane is_bridge capacity many may b) = becomes_goes request h.st (more_untouched k lane is_bridge capacity many s h.st.linked) is b
elsewhere_effect {number = number} request e is h (effects.steps m input given may did) = elsewhere_step request number m input h.st e is did
elsewhere_effect {k = k} request e is h (effects.connects m may did) = connect_elsewhere request m h e is did (same_or_not (m - 1) (k + 1))
elsewhere_effect {number = number} request e is h (effects.flows m side count may did) = elsewhere_flow request number m side count h.st e is did
elsewhere_effect {k = k} {s = s} request e is h (effects.cuts gap may b) = becomes_goes request h.st (link_untouched k gap (cut (link_at gap s.world)) s e) is b
elsewhere_effect {k = k} {s = s} request e is h (effects.spoils m side may b) = spoil_elsewhere request m side h.st (other_link k m side (counted k s h.st.linked).0 e) is b
elsewhere_effect {s = s} request e is h (effects.moves gap step floor done b) = move_elsewhere request gap step h.st e is (done_move s done b)
elsewhere_effect request e is h (effects.lies m sensed may b) = absurd e
elsewhere_effect request e is h (effects.unsees m side may b) = absurd e

elsewhere_line : {k : ℕ} {id : Record} {left number : ℕ} {told : Bool} {s next : LineState} {done : List Happening} (request : Request) → NamesElsewhere k request → Had k id left number told s next → LineDoes number request s next done → Goes k id left told s request next done
elsewhere_line {k = k} {number = number} {s = s} {next = next} {done = done} request e h is =
    elsewhere_effect request e (not_of_link k s request e) h (line_effect number request s next done is)

-- ---- what concerns a supervisor alone

aside_told : (body : Body) (told : List Act) → reaches Entry told ≡ [] → Aside body (did_only body told)
aside_told body told silent = record { leaves = leaves_told Exit body told silent; fewer = omega arith }

at_place : {k : ℕ} {id : Record} {left number : ℕ} {told : Bool} {s next : LineState} {done : List Happening} (input : Input) (m : ℕ) → Had k id left number told s next → ((n : ℕ) → is_of_link k s (requests.gives n input) ≡ false)
    → (MachineSteps number k input s next done → Goes k id left told s (requests.gives k input) next done) → (MachineSteps number (k + 1) input s next done → Goes k id left told s (requests.gives (k + 1) input) next done)
    → MachineSteps number m input s next done → (m ≡ k) ⊎ (m ≢ k) → (m ≡ k + 1) ⊎ (m ≢ k + 1) → Goes k id left told s (requests.gives m input) next done
at_place {k = k} {id = id} {left = left} {number = number} {told = told} {s = s} {next = next} {done = done} input m h none above below steps (inl is) other =
    subst (λ (n : ℕ). MachineSteps number n input s next done → Goes k id left told s (requests.gives n input) next done) (sym is) above steps
at_place {k = k} {id = id} {left = left} {number = number} {told = told} {s = s} {next = next} {done = done} input m h none above below steps (inr apart) (inl is) =
    subst (λ (n : ℕ). MachineSteps number n input s next done → Goes k id left told s (requests.gives n input) next done) (sym is) below steps
at_place {number = number} input m h none above below steps (inr apart) (inr far) = elsewhere_step (requests.gives m input) number m input h.st (record { not_above = apart; not_below = far }) (none m) steps

-- ---- EACH UNDISTURBED LINE

pub each_line : {k : ℕ} {id : Record} {left number : ℕ} {told : Bool} {s next : LineState} {done : List Happening} (request : Request) → IsUndisturbed k request → Had k id left number told s next → LineDoes number request s next done → Goes k id left told s request next done
each_line {k = k} _ flows_up h is = unless_goes (requests.flows k Exit None) _ _ h.st is (λ may flows. flow_up h may flows)
each_line {k = k} _ flows_down h is = unless_goes (requests.flows (k + 1) Entry None) _ _ h.st is (λ may flows. flow_down h may flows)
each_line {k = k} {id = id} {told = told} {s = s} {done = done} _ begins h is =
    by_answer (requests.moves_on k moves.Begin) k moves.Begin (floor_move k moves.Begin s.world.floor) h.st refl is (λ plan moves_so. goes_one (requests.moves_on k moves.Begin) (goes_forth (begins_forth plan h.st h.stood.stands.ids.whole (later_told k id.id told done) moves_so)))
each_line {k = k} {id = id} {told = told} {s = s} {done = done} _ leaves h is =
    by_answer (requests.moves_on k moves.Left) k moves.Left (floor_move k moves.Left s.world.floor) h.st refl is (λ plan moves_so. goes_one (requests.moves_on k moves.Left) (goes_forth (leaves_forth plan h.st h.stood.stands.ids.whole (later_told k id.id told done) moves_so)))
each_line {k = k} {id = id} {told = told} {s = s} {done = done} _ enters h is =
    by_answer (requests.moves_on k moves.Enter) k moves.Enter (floor_move k moves.Enter s.world.floor) h.st refl is (λ plan moves_so. goes_one (requests.moves_on k moves.Enter) (goes_forth (enters_forth plan h.st h.stood.stands.ids.whole (later_told k id.id told done) moves_so)))
each_line {k = k} {number = number} _ (senses {machine = m}) h is = unless_goes (requests.gives m inputs.Nothing) _ _ h.st is (λ may steps. sense_by number m h steps (same_or_not m k) (same_or_not m (k + 1)))
each_line {k = k} {s = s} _ shows h is = becomes_goes requests.shows h.st (untouched_self k s) refl is
each_line {k = k} {s = s} _ blank h is = becomes_goes requests.nothing h.st (untouched_self k s) refl is
each_line request (elsewhere e) h is = elsewhere_line request e h is
each_line {k = k} _ (flows_above {count = count}) h is = unless_goes (requests.flows k Entry count) _ _ h.st is (λ may flows. flow_above count h flows)
each_line {k = k} _ (flows_below {count = count}) h is = unless_goes (requests.flows (k + 1) Exit count) _ _ h.st is (λ may flows. flow_below count h flows)
each_line {k = k} _ notices_above h is = unless_goes (requests.gives k (inputs.Notice Entry)) _ _ h.st is (λ may steps. notice_above h steps)
each_line {k = k} _ notices_below h is = unless_goes (requests.gives (k + 1) (inputs.Notice Exit)) _ _ h.st is (λ may steps. notice_below h steps)
each_line {k = k} {s = s} _ spoils_above h is =
    let one = (counted k s h.st.linked).0 in
    let apart : k - 1 ≢ k = omega (arith, one) in
    unless_goes (requests.spoils k Entry) _ _ h.st is (λ may b. spoil_elsewhere (requests.spoils k Entry) k Entry h.st apart refl b)
each_line {k = k} {s = s} _ spoils_below h is =
    let apart : k + 1 ≢ k = omega arith in
    unless_goes (requests.spoils (k + 1) Exit) _ _ h.st is (λ may b. spoil_elsewhere (requests.spoils (k + 1) Exit) (k + 1) Exit h.st apart refl b)
each_line {k = k} _ connects_above h is = unless_goes (requests.connects k) _ _ h.st is (λ may c. connect_above h c)
each_line {k = k} {s = s} _ (is_supervised {machine = m} {on = on}) h is =
    unless_goes (requests.gives m (inputs.Supervise on)) _ _ h.st is (λ may steps.
    at_place (inputs.Supervise on) m h (λ n. refl)
    (λ own. above_goes (requests.gives k (inputs.Supervise on)) (inputs.Supervise on) s.world h refl refl refl refl own own.steps.lane.brings.1 (λ body. leaves_told Entry body _ refl))
    (λ own. below_goes (requests.gives (k + 1) (inputs.Supervise on)) (inputs.Supervise on) s.world h refl refl refl own own.steps.lane.brings.0 (λ body role. aside_told body _ refl))
    steps (same_or_not m k) (same_or_not m (k + 1)))
each_line {k = k} {s = s} _ (is_asked {machine = m} {question = question}) h is =
    unless_goes (requests.gives m (inputs.Ask question)) _ _ h.st is (λ may steps.
    at_place (inputs.Ask question) m h (λ n. refl)
    (λ own. above_goes (requests.gives k (inputs.Ask question)) (inputs.Ask question) s.world h refl refl refl refl own own.steps.lane.brings.1 (λ body. leaves_told Entry body _ refl))
    (λ own. below_goes (requests.gives (k + 1) (inputs.Ask question)) (inputs.Ask question) s.world h refl refl refl own own.steps.lane.brings.0 (λ body role. aside_told body _ refl))
    steps (same_or_not m k) (same_or_not m (k + 1)))
each_line {k = k} {s = s} _ (is_answered {machine = m} {query = query} {order = order}) h is =
    unless_goes (requests.gives m (inputs.Answer query order)) _ _ h.st is (λ may steps.
    at_place (inputs.Answer query order) m h (λ n. refl)
    (λ own. above_goes (requests.gives k (inputs.Answer query order)) (inputs.Answer query order) s.world h refl refl refl refl own own.steps.lane.brings.1 (λ body. leaves_told Entry body _ refl))
    (λ own. below_goes (requests.gives (k + 1) (inputs.Answer query order)) (inputs.Answer query order) s.world h refl refl refl own own.steps.lane.brings.0 (λ body role. aside_told body _ refl))
    steps (same_or_not m k) (same_or_not m (k + 1)))

-- What a machine has announced it stands by between its steps: what it offers it is willing to hand over, and while it said that it
-- is ready it is willing and has a place.
use Rattle.std.proofs.Common.{Bool, List, None, Option, Some, [], ap, arith, false, length, refl, subst, suc, sym, true, ℕ, ◌&&◌, ◌+◌, ◌<◌, ◌∙◌, ◌∷◌, ◌≡◌, ◌≢◌, ◌≤◌, ◌⊎◌, ◌||◌, inl, inr}
use Rattle.std.specs.Prelude.{is_none, is_some, not, slice_get}
use Rattle.std.proofs.lemmas.Bool.{ltb-true}
use Rattle.law_one_standing.proofs.RestNone.{node_none}
use Rattle.law_one_standing.proofs.LedgerLine.{last_node, same_nodes}
use Rattle.board_record.specs.declared.record.Record.{Record}
use Rattle.line_base.specs.declared.states.Side.TheVariants.{Entry, Exit}
use Rattle.handover_out.specs.Row.{OutRow, outlet_row}
use Rattle.handover_out.specs.State.{OutState, is_idle_phase}
use Rattle.handover_out.specs.declared.input.OutInput.TheVariants as out_input
use Rattle.handover_out.specs.declared.phase.Phase.{Phase as Out}
use Rattle.handover_out.specs.declared.phase.Phase.TheVariants as out
use Rattle.handover_in.specs.Row.{InRow, intake_row}
use Rattle.handover_in.specs.State.{InState, name_of_phase}
use Rattle.handover_in.specs.declared.input.InInput.TheVariants as in_input
use Rattle.handover_in.specs.declared.phase.Phase.{Phase as In}
use Rattle.handover_in.specs.declared.phase.Phase.TheVariants as inn
use Rattle.node_core.specs.Announces.{announces, is_free, is_front, is_intake_free, offer, offer_by, offers_now, readies_now, ready, ready_by, revoke, revoke_by, revokes_now, start_by, starts_now, unready, unready_by, unreadies_now}
use Rattle.node_core.specs.Desk.{Desk}
use Rattle.node_core.specs.Done.{Done}
use Rattle.node_core.specs.Halves.{at_intake, at_outlet, intake_row_did, outlet_row_did}
use Rattle.node_core.specs.Event.{event_did, event_of}
use Rattle.node_core.specs.Node.{NodeState, desk_of, first_body, new_node}
use Rattle.node_core.specs.Places.{has_place, used}
use Rattle.node_core.specs.Reads.{all_read}
use Rattle.node_core.specs.Sides.{is_standing}
use Rattle.node_core.specs.declared.input.Input.{Input}
use Rattle.node_core.specs.declared.lane.Body.{Body}
use Rattle.node_core.specs.declared.lane.End.{End}
use Rattle.node_core.proofs.Keeping.{at_intake_keeps}
use Rattle.line_report.specs.declared.happening.Happening.{Happening}
use Rattle.node_core.specs.declared.lane.Lane.{Lane}
use Rattle.line_step.specs.Tracks.{IsBesideNode, TrackLine, TrackSteps, other_line, own_line}
use Rattle.line_step.proofs.Beside.{beside-node}
use Rattle.line_step.specs.Lines.{Connects, LineSteps}
use Rattle.line_step.specs.Numbered.{Stand, node_at}
use Rattle.line_step.specs.Runs.{IsRun, Point, state_behind}
use Rattle.line_step.specs.State.{LineState, no_line, one_more, profile_of}
use Rattle.line_step.specs.Steps.{MachineSteps, moment_of, unread_by}
use Rattle.line_step.proofs.Changing.{more_changes, step_changes}
use Rattle.line_step.proofs.Numbers.{same_or_not}
use Rattle.law_twelve_steps.proofs.Beside.{SameLower, SameUpper}
use Rattle.law_twelve_steps.proofs.Going.{next_node}
use Rattle.law_twelve_steps.proofs.Lower.{Aside, HasRoom, offer_aside, ready_tests}
use Rattle.law_twelve_steps.proofs.Upper.{last_willing, ready_beside, start_beside, unready_beside}
use Rattle.line_step.specs.Requests.{Request}
use Rattle.line_step.proofs.Effects.{becomes_by}
use Rattle.line_step.proofs.Turns.{LineTurns, line_turns}
use Rattle.line_step.proofs.Turns as turns

abbrev pub StandsOut : Body → Type 0
StandsOut body = is_idle_phase body.outlet.phase ≡ true → is_some body.outlet.offered ≡ true → body.exit.willing ≡ true

abbrev pub StandsIn : ℕ → Body → Type 0
StandsIn capacity body = is_intake_free body ≡ true → body.intake.ready ≡ true → HasRoom capacity body

pub record Heeds (capacity : ℕ) (body : Body) : Type 0 where
  pub exit : StandsOut body
  pub entry : StandsIn capacity body

-- ---- the exit

out_same : {body after : Body} → SameUpper body after → StandsOut body → StandsOut after
out_same same h idle some = ap (λ (e : End). e.willing) same.exit ∙ h (sym (ap (λ (o : OutState). is_idle_phase o.phase) same.outlet) ∙ idle) (sym (ap (λ (o : OutState). is_some o.offered) same.outlet) ∙ some)

revoked : (desk : Desk) (body : Body) (phase : Out) (offered : Option ℕ) → body.outlet.phase ≡ phase → body.outlet.offered ≡ offered → is_idle_phase phase ≡ true → is_some offered ≡ true → (at_outlet desk out_input.Revoke body).body.outlet.offered ≡ None
revoked desk body out.Idle (Some id) p o idle some = rw (p, o) refl
revoked desk body out.Idle None p o idle some = absurd (cc)
revoked desk body (out.Moving r begun) offered p o idle some = absurd (cc)
revoked desk body (out.Stuck r linked stopped) offered p o idle some = absurd (cc)
revoked desk body (out.Ended id) offered p o idle some = absurd (cc)

revoke_tests : (idle some test : Bool) → (idle && some && test) ≡ true → (idle ≡ true) × (some ≡ true)
revoke_tests true true test is = (refl, refl)
revoke_tests true false test is = absurd (cc)
revoke_tests false some test is = absurd (cc)

stays_willing : (idle some willing front : Bool) → (idle && some && (not willing || not front)) ≡ false → idle ≡ true → some ≡ true → willing ≡ true
stays_willing idle some true front is a b = refl
stays_willing true true false front is a b = absurd (cc)
stays_willing false some false front is a b = absurd (cc)
stays_willing true false false front is a b = absurd (cc)

revoke_stands : (desk : Desk) (body : Body) (test : Bool) → revokes_now body ≡ test → StandsOut (revoke_by desk test body).body
revoke_stands desk body true now idle some =
    let tests = revoke_tests (is_idle_phase body.outlet.phase) (is_some body.outlet.offered) _ now in
    let none = revoked desk body body.outlet.phase body.outlet.offered refl refl tests.0 tests.1 in
    absurd (let no : false ≡ true = sym (ap (λ (o : Option ℕ). is_some o) none) ∙ some in cc)
revoke_stands desk body false now idle some = stays_willing (is_idle_phase body.outlet.phase) (is_some body.outlet.offered) body.exit.willing (is_front body.outlet.offered (slice_get body.kept 0)) now idle some

row_willing : (desk : Desk) (body : Body) (found : Option OutRow) → (outlet_row_did desk body found).body.exit.willing ≡ body.exit.willing
row_willing desk body None = refl
row_willing desk body (Some row) = refl

offer_stands : (desk : Desk) (body : Body) (test : Bool) (front : Option Record) → offers_now body ≡ test → StandsOut body → StandsOut (offer_by desk test front body).body
offer_stands desk body true (Some front) now h idle some = row_willing desk body (outlet_row body.outlet (out_input.Offer front.id)) ∙ last_willing (is_standing Exit body) (is_idle_phase body.outlet.phase) (is_none body.outlet.offered) body.exit.willing now
offer_stands desk body true None now h idle some = h idle some
offer_stands desk body false front now h idle some = h idle some

-- ---- the entry

in_same : {capacity : ℕ} {body after : Body} → SameLower body after → used after ≤ used body → StandsIn capacity body → StandsIn capacity after
in_same same fewer h free ready =
    let room = h (sym (ap (λ (i : InState). is_free (name_of_phase i.phase)) same.intake) ∙ free) (sym (ap (λ (i : InState). i.ready) same.intake) ∙ ready) in
    let place = room.place in
    record { willing = ap (λ (e : End). e.willing) same.entry ∙ room.willing; place = omega (arith, place, fewer) }

aside_stands : {capacity : ℕ} {body : Body} {d : Done} → Aside body d → StandsIn capacity body → StandsIn capacity d.body
aside_stands a h = in_same a.leaves.half a.fewer h

unreadied : (desk : Desk) (body : Body) (phase : In) (told : Bool) → body.intake.phase ≡ phase → body.intake.ready ≡ told → is_free (name_of_phase phase) ≡ true → told ≡ true → (at_intake desk in_input.Unready body).body.intake.ready ≡ false
unreadied desk body inn.Idle true p r free on = rw (p, r) refl
unreadied desk body inn.Idle false p r free on = absurd (cc)
unreadied desk body (inn.Taking b own heard) told p r free on = absurd (cc)
unreadied desk body (inn.Stopped b own heard) told p r free on = absurd (cc)
unreadied desk body (inn.Waiting b own heard) told p r free on = absurd (cc)

stays_ready : (free ready willing place : Bool) → (free && ready && (not willing || not place)) ≡ false → free ≡ true → ready ≡ true → (willing ≡ true) × (place ≡ true)
stays_ready free ready true true is a b = (refl, refl)
stays_ready true true true false is a b = absurd (cc)
stays_ready true true false place is a b = absurd (cc)
stays_ready false ready true false is a b = absurd (cc)
stays_ready false ready false place is a b = absurd (cc)
stays_ready true false true false is a b = absurd (cc)
stays_ready true false false place is a b = absurd (cc)

room_by : (desk : Desk) (body : Body) → body.entry.willing ≡ true → has_place desk body ≡ true → HasRoom desk.capacity body
room_by desk body willing place =
    let less : used body < desk.capacity = ltb-true (used body) desk.capacity place in
    record { willing = willing; place = omega (arith, less) }

unready_stands : (desk : Desk) (body : Body) (test : Bool) → unreadies_now desk body ≡ test → StandsIn desk.capacity (unready_by desk test body).body
unready_stands desk body true now free ready =
    let tests = revoke_tests (is_intake_free body) body.intake.ready _ now in
    absurd (let no : false ≡ true = sym (unreadied desk body body.intake.phase body.intake.ready refl refl tests.0 tests.1) ∙ ready in cc)
unready_stands desk body false now free ready =
    let both = stays_ready (is_intake_free body) body.intake.ready body.entry.willing (has_place desk body) now free ready in
    room_by desk body both.0 both.1

in_row_willing : (desk : Desk) (body : Body) (found : Option InRow) → (intake_row_did desk body found).body.entry.willing ≡ body.entry.willing
in_row_willing desk body None = refl
in_row_willing desk body (Some row) = refl

ready_stands : (desk : Desk) (body : Body) (test : Bool) → readies_now desk body ≡ test → StandsIn desk.capacity body → StandsIn desk.capacity (ready_by desk test body).body
ready_stands desk body true now h free on =
    let both = ready_tests (is_standing Entry body) (is_intake_free body) body.intake.ready body.entry.willing (has_place desk body) now in
    let room = room_by desk body both.0 both.1 in
    let place = room.place in
    let same : used body ≤ used body = omega arith in
    let fewer = (at_intake_keeps (used body) desk in_input.Ready body tt).places same in
    record { willing = in_row_willing desk body (intake_row body.intake in_input.Ready) ∙ room.willing; place = omega (arith, place, fewer) }
ready_stands desk body false now h free on = h free on

start_tests : (stands free ready offer : Bool) → (stands && free && ready && offer) ≡ true → (free ≡ true) × (ready ≡ true) × (offer ≡ true)
start_tests true true true true is = (refl, refl, refl)
start_tests false free ready offer is = absurd (cc)
start_tests true false ready offer is = absurd (cc)
start_tests true true false offer is = absurd (cc)
start_tests true true true false is = absurd (cc)

started : (desk : Desk) (body : Body) (phase : In) (offer : Option Record) (told : Bool) → body.intake.phase ≡ phase → body.intake.offer ≡ offer → body.intake.ready ≡ told → is_free (name_of_phase phase) ≡ true → told ≡ true → is_some offer ≡ true → is_intake_free (at_intake desk in_input.Start body).body ≡ false
started desk body inn.Idle (Some board) true p o r free on some = rw (p, o, r) refl
started desk body inn.Idle None told p o r free on some = absurd (cc)
started desk body inn.Idle (Some board) false p o r free on some = absurd (cc)
started desk body (inn.Taking b own heard) offer told p o r free on some = absurd (cc)
started desk body (inn.Stopped b own heard) offer told p o r free on some = absurd (cc)
started desk body (inn.Waiting b own heard) offer told p o r free on some = absurd (cc)

start_stands : (desk : Desk) (body : Body) (test : Bool) → starts_now body ≡ test → StandsIn desk.capacity body → StandsIn desk.capacity (start_by desk test body).body
start_stands desk body true now h free on =
    let tests = start_tests (is_standing Entry body) (is_intake_free body) body.intake.ready (is_some body.intake.offer) now in
    absurd (let no : false ≡ true = sym (started desk body body.intake.phase body.intake.offer body.intake.ready refl refl refl tests.0 tests.1 tests.2) ∙ free in cc)
start_stands desk body false now h free on = h free on

-- ---- behind its announcements it stands by all of them

pub announces_heed : (desk : Desk) (body : Body) → Heeds desk.capacity (announces desk body).body
announces_heed desk body =
    let one : Body = (revoke desk body).body in
    let two : Body = (unready desk one).body in
    let three : Body = (offer desk two).body in
    let four : Body = (ready desk three).body in
    let out_one : StandsOut one = revoke_stands desk body (revokes_now body) refl in
    let out_two : StandsOut two = out_same (unready_beside desk (unreadies_now desk one) one).half out_one in
    let out_three : StandsOut three = offer_stands desk two (offers_now two) (slice_get two.kept 0) refl out_two in
    let out_four : StandsOut four = out_same (ready_beside desk (readies_now desk three) three).half out_three in
    let in_two : StandsIn desk.capacity two = unready_stands desk one (unreadies_now desk one) refl in
    let in_three : StandsIn desk.capacity three = aside_stands (offer_aside desk (offers_now two) (slice_get two.kept 0) two) in_two in
    let in_four : StandsIn desk.capacity four = ready_stands desk three (readies_now desk three) refl in_three in
    record { exit = out_same (start_beside desk (starts_now four) four).half out_four; entry = start_stands desk four (starts_now four) refl in_four }

-- ---- along a line

pub record HeedsAll (s : LineState) : Type 0 where
  pub at : (m : ℕ) → Heeds (node_at s m).capacity (node_at s m).lane.body

step_heeds_at : (number m n : ℕ) (input : Input) (before after : LineState) (told : List Happening) → MachineSteps number m input before after told → HeedsAll before → (n ≡ m) ⊎ (n ≢ m) → Heeds (node_at after n).capacity (node_at after n).lane.body
step_heeds_at number m n input before after told steps h (inl is) =
    let next_is : node_at after n ≡ steps.next = ap (λ (x : ℕ). node_at after x) is ∙ next_node number m input before after told steps in
    let desk : Desk = desk_of steps.node (moment_of number) in
    let did : Body = (event_did desk (event_of steps.node.maker input steps.steps.lane.words) (all_read desk (unread_by m before.world) steps.node.lane.body).body).body in
    let heeds : Heeds steps.node.capacity (announces desk did).body = announces_heed desk did in
    subst (λ (x : NodeState). Heeds x.capacity x.lane.body) (sym next_is)
    (subst (λ (c : ℕ). Heeds c steps.next.lane.body) (sym steps.steps.capacity) (subst (λ (b : Body). Heeds steps.node.capacity b) (sym steps.steps.lane.body) heeds))
step_heeds_at number m n input before after told steps h (inr apart) =
    let same : node_at after n ≡ node_at before n = ap (λ (x : Stand). x.node) ((step_changes number m input before after told steps).machines n apart) in
    subst (λ (x : NodeState). Heeds x.capacity x.lane.body) (sym same) (h.at n)

step_heeds : (number m : ℕ) (input : Input) (before after : LineState) (told : List Happening) → MachineSteps number m input before after told → HeedsAll before → HeedsAll after
step_heeds number m input before after told steps h = record { at = λ n. step_heeds_at number m n input before after told steps h (same_or_not n m) }

new_heeds : (is_bridge : Bool) (capacity : ℕ) → Heeds capacity (first_body is_bridge)
new_heeds is_bridge capacity = record { exit = λ idle some. absurd (cc); entry = λ free told. absurd (cc) }

last_at : (lane : ℕ) (is_bridge : Bool) (capacity many : ℕ) (s : LineState) → node_at (one_more lane is_bridge capacity many s) (suc (length s.machines)) ≡ new_node (profile_of lane is_bridge (length s.machines + 1) capacity many)
last_at lane is_bridge capacity many s = last_node s.machines (new_node (profile_of lane is_bridge (length s.machines + 1) capacity many))

more_heeds_at : (lane : ℕ) (is_bridge : Bool) (capacity many n : ℕ) (s : LineState) → HeedsAll s → (n ≡ length s.machines + 1) ⊎ (n ≢ length s.machines + 1) → Heeds (node_at (one_more lane is_bridge capacity many s) n).capacity (node_at (one_more lane is_bridge capacity many s) n).lane.body
more_heeds_at lane is_bridge capacity many n s h (inl is) =
    let place : n ≡ suc (length s.machines) = omega (arith, is) in
    subst (λ (x : NodeState). Heeds x.capacity x.lane.body) (sym (ap (λ (x : ℕ). node_at (one_more lane is_bridge capacity many s) x) place ∙ last_at lane is_bridge capacity many s)) (new_heeds is_bridge capacity)
more_heeds_at lane is_bridge capacity many n s h (inr apart) =
    let same : node_at (one_more lane is_bridge capacity many s) n ≡ node_at s n = ap (λ (x : Stand). x.node) ((more_changes lane is_bridge capacity many s).machines n apart) in
    subst (λ (x : NodeState). Heeds x.capacity x.lane.body) (sym same) (h.at n)

more_heeds : (lane : ℕ) (is_bridge : Bool) (capacity many : ℕ) (s : LineState) → HeedsAll s → HeedsAll (one_more lane is_bridge capacity many s)
more_heeds lane is_bridge capacity many s h = record { at = λ n. more_heeds_at lane is_bridge capacity many n s h (same_or_not n (length s.machines + 1)) }

twice_heeds : (number m : ℕ) (s next : LineState) (told : List Happening) → Connects number m s next told → HeedsAll s → HeedsAll next
twice_heeds number m s next told c h = step_heeds number _ _ c.between next c.later c.second (step_heeds number m _ _ c.between c.earlier c.first (record { at = h.at }))

same_heeds : (s next : LineState) → next.machines ≡ s.machines → HeedsAll s → HeedsAll next
same_heeds s next same h = record { at = λ m. subst (λ (x : NodeState). Heeds x.capacity x.lane.body) (sym (same_nodes s next same m)) (h.at m) }

turns_heed : (number : ℕ) (request : Request) (s next : LineState) (told : List Happening) → LineTurns number s next told request → HeedsAll s → HeedsAll next
turns_heed number request s next told (turns.stays _ same none) h = same_heeds s next same h
turns_heed number request s next told (turns.adds lane is_bridge capacity many may b) h = becomes_by (λ x ts. HeedsAll x) b (more_heeds lane is_bridge capacity many s h)
turns_heed number request s next told (turns.steps m input given may did) h = step_heeds number m input s next told did h
turns_heed number request s next told (turns.connects m may did) h = twice_heeds number m s next told did h
turns_heed number request s next told (turns.flows m side count may did) h = step_heeds number m _ _ next told did.steps (record { at = h.at })

line_heeds : (number : ℕ) (request : Request) (s after : LineState) (told : List Happening) → LineSteps number request s after told → HeedsAll s → HeedsAll after
line_heeds number request s after told steps h =
    let next : HeedsAll steps.next = turns_heed number request s steps.next steps.done (line_turns number request s steps.next steps.done steps.does) h in
    subst (λ (x : LineState). HeedsAll x) (sym steps.after_is) (record { at = next.at })

heeds_by : (node now : NodeState) → IsBesideNode node now → Heeds node.capacity node.lane.body → Heeds now.capacity now.lane.body
heeds_by node now beside h =
    subst (λ (n : ℕ). Heeds n now.lane.body) (sym beside.capacity) (subst (λ (l : Lane). Heeds node.capacity l.body) (sym beside.lane) h)

track_heeds : (number : ℕ) (line : TrackLine) (s after : LineState) (told : List Happening) → TrackSteps number line s after told → HeedsAll s → HeedsAll after
track_heeds number (own_line request) s after told steps h = line_heeds number request s after told steps.0 h
track_heeds number other_line s after told steps h = record { at = λ m. heeds_by (node_at s m) (node_at after m) (beside-node s after m steps.0) (h.at m) }

pub run_heeds : (asked : List TrackLine) (points : List Point) (s : LineState) → HeedsAll s → IsRun s asked points → HeedsAll (state_behind s points)
run_heeds [] [] s h run = h
run_heeds [] (point ∷ points) s h run = absurd run
run_heeds (line ∷ asked) [] s h run = absurd run
run_heeds (line ∷ asked) (point ∷ points) s h run = run_heeds asked points point.after (track_heeds (s.lines + 1) line s point.after point.told run.0 h) run.1

none_at : (m : ℕ) → Heeds (node_at no_line m).capacity (node_at no_line m).lane.body
none_at m = subst (λ (x : NodeState). Heeds x.capacity x.lane.body) (sym (node_none m)) (new_heeds false 1)

pub none_heeds : HeedsAll no_line
none_heeds = record { at = none_at }

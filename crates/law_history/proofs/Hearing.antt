-- What a machine tells of its entry as its sides hear messages and as their connections are made and end.
use Rattle.std.proofs.Common.{Bool, List, None, Option, Some, [], ap, eq-eqb, false, refl, subst, sym, true, ℕ, ◌&&◌, ◌++◌, ◌||◌, ◌∙◌, ◌∷◌, ◌≡◌}
use Rattle.std.specs.Prelude.{not}
use Rattle.std.proofs.lemmas.Bool.{or_parts}
use Rattle.line_base.specs.declared.states.Severity.TheVariants.{Fatal}
use Rattle.line_base.specs.declared.states.Side.{Side}
use Rattle.line_base.specs.declared.states.Side.TheVariants.{Entry, Exit}
use Rattle.line_base.specs.declared.states.Transfer.{Transfer}
use Rattle.line_base.specs.declared.states.Transfer.TheVariants as said
use Rattle.board_record.specs.declared.record.Record.{Record}
use Rattle.hermes_horizontal.specs.declared.message.Horizontal.{Horizontal}
use Rattle.hermes_horizontal.specs.declared.message.Horizontal.TheVariants as bodies
use Rattle.hermes_horizontal.specs.declared.message.Message.{Message}
use Rattle.hermes_horizontal.specs.declared.message.Service.{Service}
use Rattle.hermes_horizontal.specs.Parts.{kind_of}
use Rattle.session_core.specs.declared.actions.Action.{Action}
use Rattle.session_core.specs.declared.actions.Action.TheVariants.{Close, Pass, Ping, Pong, SendService, Stand, Tell}
use Rattle.session_core.specs.declared.actions.Actions.{Actions}
use Rattle.session_core.specs.Acts.{one as just}
use Rattle.session_core.specs.Breach.{unexpected}
use Rattle.session_core.specs.End.{SessionEnd, at_rest}
use Rattle.session_core.specs.Input.{Input as Given, heard}
use Rattle.session_core.specs.Row.{SessionRow, session_row}
use Rattle.session_core.specs.Table.{IsSessionRow, stands_downstream}
use Rattle.session_core.proofs.Rows.{row_is as session_row_is}
use Rattle.handover_out.specs.declared.input.OutInput.{OutInput}
use Rattle.handover_out.specs.declared.input.OutInput.TheVariants as out_input
use Rattle.handover_out.specs.Row.{OutRow, outlet_row}
use Rattle.handover_out.specs.State.{would_open}
use Rattle.handover_in.specs.declared.input.InInput.{InInput}
use Rattle.handover_in.specs.declared.input.InInput.TheVariants as in_input
use Rattle.handover_in.specs.Row.{InRow, intake_row}
use Rattle.handover_in.specs.State.{InState}
use Rattle.handover_in.specs.Table.{IsIntakeRow, hears_drop, hears_keep, hears_left, hears_wait, running_drop, running_keep, running_wait}
use Rattle.handover_in.proofs.Rows.{row_is as in_row_is}
use Rattle.node_core.specs.Desk.{Desk}
use Rattle.node_core.specs.declared.act.Act.{Act}
use Rattle.node_core.specs.declared.act.Act.TheVariants as acts
use Rattle.node_core.specs.declared.lane.Body.{Body}
use Rattle.node_core.specs.declared.word.EntryWord.{EntryWord}
use Rattle.node_core.specs.declared.word.EntryWord.TheVariants as entries
use Rattle.node_core.specs.declared.word.ExitWord.{ExitWord}
use Rattle.node_core.specs.declared.word.ExitWord.TheVariants as exits
use Rattle.node_core.specs.Connect.{if_open}
use Rattle.node_core.specs.Done.{Done, and_then, behind, stays}
use Rattle.node_core.specs.Halves.{at_intake, behind_opening, ended, half_closed, opening_board, outlet_row_did}
use Rattle.node_core.specs.Hears.{entry_took, entry_word, exit_took, exit_word, intake_took, outlet_took, passed, taken}
use Rattle.node_core.specs.Session.{action_did, actions_did, breaches, maybe_did, session_did}
use Rattle.node_core.specs.Sides.{session_at, with_session}
use Rattle.node_core.specs.Told.{notification, sends}
use Rattle.law_custody.specs.LookBack.{Since, since_after}
use Rattle.law_history.proofs.Folds.{Hearing, Orderly, are_inner, aside_orderly, closed_since, described_since, ended_since, ends, goes_on, heard_act, heard_all, is_named, since_message}
use Rattle.law_history.proofs.Halves.{IsNoSense, IsSilentInput, Knows, Sure, Works, entry_closed, intake_tells, out_aside, out_inner, outlet_stays, outlet_works, silent_works, works_aside, works_behind, works_both, works_still}

-- ---- what is heard leaves what was recalled

more_ended : (a b c : Bool) → (a && not b) ≡ false → (a && not (c || b)) ≡ false
more_ended false b c e = refl
more_ended true true true e = refl
more_ended true true false e = refl
more_ended true false c e = cc

knows_ended : (test : Bool) (i : InState) (named : Option ℕ) (s : Since) → Knows (record { named = named; since = s }) i → Knows (record { named = named; since = ended_since test s }) i
knows_ended true i named s k = record { named = k.named; recalled = record { ended = more_ended _ s.ended (not s.closed) k.recalled.ended; linked = k.recalled.linked; waiting = k.recalled.waiting } }
knows_ended false i named s k = k

pub knows_message : (what : Horizontal) (i : InState) (h : Hearing) → Knows h i → Knows (record h { since = since_message h.named what h.since }) i
knows_message (bodies.TransportFinished said.Complete id) i h k = knows_ended (is_named h.named id) i h.named h.since k
knows_message (bodies.ServiceDescription service) i h k = record { named = k.named; recalled = record { ended = k.recalled.ended; linked = k.recalled.linked; waiting = k.recalled.waiting } }
knows_message _ i h k = k

hears_orderly : {P : ℕ → Type 0} {h : Hearing} (side : Side) (message : Message) → Orderly P h (acts.Hears side message ∷ [])
hears_orderly Entry message = goes_on refl ends
hears_orderly Exit message = goes_on refl ends

-- at the exit nothing is heard of it
knows_heard : (side : Side) (message : Message) (i : InState) (h : Hearing) → Knows h i → Knows (heard_act h (acts.Hears side message)) i
knows_heard Entry message i h k = knows_message message.body i h k
knows_heard Exit message i h k = k

-- ---- sessions

abbrev pub is_stand : Option Action → Bool
is_stand (Some Stand) = true
is_stand _ = false

abbrev pub stands_in : Actions → Bool
stands_in actions = is_stand actions.first || (is_stand actions.second || is_stand actions.third)

-- a session changes first
pub works_session : {P : ℕ → Type 0} {h : Hearing} (side : Side) (s : SessionEnd) (body : Body) (d : Done) → Works P h (with_session side s body) d → Works P h body d
works_session Entry s body d k = record { tells = record { orderly = k.tells.orderly; knows = k.tells.knows; less = k.tells.less }; inner = k.inner }
works_session Exit s body d k = record { tells = record { orderly = k.tells.orderly; knows = k.tells.knows; less = k.tells.less }; inner = k.inner }

knows_session : {h : Hearing} (side : Side) (s : SessionEnd) (body : Body) → Knows h body.intake → Knows h (with_session side s body).intake
knows_session Entry s body k = k
knows_session Exit s body k = k

closes_works : {P : ℕ → Type 0} {h : Hearing} (desk : Desk) (side : Side) (body : Body) → Knows h body.intake → Works P h body (behind (acts.Closes side ∷ []) (half_closed desk side body))
closes_works desk Entry body k = entry_closed desk body (acts.Closes Entry ∷ []) refl (goes_on refl ends) refl k
closes_works desk Exit body k = works_behind body (acts.Closes Exit ∷ []) (half_closed desk Exit body) (goes_on refl ends) refl (outlet_works desk body out_input.Closed (outlet_row body.outlet out_input.Closed) refl tt k)

action_works : {P : ℕ → Type 0} {h : Hearing} (desk : Desk) (side : Side) (action : Action) (body : Body) → is_stand (Some action) ≡ false → Knows h body.intake → Works P h body (action_did desk side action body)
action_works desk side SendService body quiet k = works_aside body _ k refl refl refl
action_works desk side (Pong id) body quiet k = works_aside body _ k refl refl refl
action_works desk side (Ping n) body quiet k = works_aside body _ k refl refl refl
action_works desk side (Tell what) body quiet k = works_aside body _ k refl refl refl
action_works desk side Close body quiet k = closes_works desk side body k
action_works desk side Stand body quiet k = absurd (let h : true ≡ false = quiet in cc)
action_works desk side (Pass what) body quiet k = works_still body k

maybe_works : {P : ℕ → Type 0} {h : Hearing} (desk : Desk) (side : Side) (action : Option Action) (body : Body) → is_stand action ≡ false → Knows h body.intake → Works P h body (maybe_did desk side action body)
maybe_works desk side None body quiet k = works_still body k
maybe_works desk side (Some action) body quiet k = action_works desk side action body quiet k

pub actions_work : {P : ℕ → Type 0} {h : Hearing} (desk : Desk) (side : Side) (actions : Actions) (body : Body) → stands_in actions ≡ false → Knows h body.intake → Works P h body (actions_did desk side actions body)
actions_work desk side actions body quiet k =
    let one = maybe_did desk side actions.first body in
    let first = or_parts (is_stand actions.first) (is_stand actions.second || is_stand actions.third) quiet in
    let later = or_parts (is_stand actions.second) (is_stand actions.third) first.1 in
    works_both body one (λ (b : Body). and_then (maybe_did desk side actions.second b) (maybe_did desk side actions.third)) (maybe_works desk side actions.first body first.0 k)
    (λ k2. works_both one.body (maybe_did desk side actions.second one.body) (maybe_did desk side actions.third) (maybe_works desk side actions.second one.body later.0 k2)
    (λ k3. maybe_works desk side actions.third (maybe_did desk side actions.second one.body).body later.1 k3))

-- only where the upstream machine describes itself to a downstream end does a session stand for the intake
abbrev pub is_description : Given → Bool
is_description (heard (bodies.ServiceDescription service) unsettled) = true
is_description _ = false

row_no_stand : {s : SessionEnd} {input : Given} {row : SessionRow} → IsSessionRow s input row → is_description input ≡ false → stands_in row.actions ≡ false
row_no_stand stands_downstream quiet = absurd (let h : true ≡ false = quiet in cc)
row_no_stand _ quiet = refl

pub session_works : {P : ℕ → Type 0} {h : Hearing} (desk : Desk) (side : Side) (input : Given) (found : Option SessionRow) (body : Body) → session_row (session_at side body) input ≡ found → is_description input ≡ false → Knows h body.intake
    → Works P h body (session_did desk side found body)
session_works desk side input None body is quiet k = works_still body k
session_works desk side input (Some row) body is quiet k =
    works_session side row.after body (session_did desk side (Some row) body)
    (actions_work desk side row.actions (with_session side row.after body) (row_no_stand (session_row_is (session_at side body) input row is) quiet) (knows_session side row.after body k))

pub ended_works : {P : ℕ → Type 0} {h : Hearing} (desk : Desk) (body : Body) (told : List Act) → heard_all h told ≡ record h { since = closed_since h.since } → Orderly P h told → are_inner told ≡ true → Knows h body.intake
    → Works P h body (behind told (ended desk Entry body))
ended_works desk body told closes orderly inner k =
    works_session Entry (at_rest body.entry.session.role) body (behind told (ended desk Entry body)) (entry_closed desk (with_session Entry (at_rest body.entry.session.role) body) told closes orderly inner k)

exit_ended : {P : ℕ → Type 0} {h : Hearing} (desk : Desk) (body : Body) → Knows h body.intake → Works P h body (ended desk Exit body)
exit_ended desk body k =
    let b = with_session Exit (at_rest body.exit.session.role) body in
    works_session Exit (at_rest body.exit.session.role) body (ended desk Exit body) (outlet_works desk b out_input.Closed (outlet_row b.outlet out_input.Closed) refl tt k)

pub breaches_work : {P : ℕ → Type 0} {h : Hearing} (desk : Desk) (side : Side) (text : List ℕ) (body : Body) → Knows h body.intake → Works P h body (breaches desk side text body)
breaches_work desk Entry text body k = ended_works desk body (acts.Breaches Entry text ∷ (sends desk Entry (notification 1 Fatal text) ++ acts.Closes Entry ∷ [])) refl (goes_on refl (goes_on refl (goes_on refl ends))) refl k
breaches_work desk Exit text body k =
    let told = acts.Breaches Exit text ∷ (sends desk Exit (notification 1 Fatal text) ++ acts.Closes Exit ∷ []) in
    works_behind body told (ended desk Exit body) (aside_orderly _ told refl) refl (exit_ended desk body k)

pub notices_work : {P : ℕ → Type 0} {h : Hearing} (desk : Desk) (side : Side) (test : Bool) (body : Body) → Knows h body.intake → Works P h body (if_open test (behind (acts.Notices side ∷ []) (ended desk side body)) body)
notices_work desk Entry true body k = ended_works desk body (acts.Notices Entry ∷ []) refl (goes_on refl ends) refl k
notices_work desk Exit true body k = works_behind body (acts.Notices Exit ∷ []) (ended desk Exit body) (goes_on refl ends) refl (exit_ended desk body k)
notices_work desk side false body k = works_still body k

-- ---- a message at the exit

-- what a half took, if it has a row, behind the hearing
pub data WorksAny (P : ℕ → Type 0) (h : Hearing) (body : Body) (side : Side) (message : Message) : Option Done → Type 0 where
  works_none : WorksAny P h body side message None
  works_some : {d : Done} → Works P h body (behind (acts.Hears side message ∷ []) d) → WorksAny P h body side message (Some d)

behind_hearing : {P : ℕ → Type 0} {h : Hearing} (side : Side) (message : Message) (body : Body) (d : Done) → Works P (heard_act h (acts.Hears side message)) body d → Works P h body (behind (acts.Hears side message ∷ []) d)
behind_hearing side message body d k = works_behind body (acts.Hears side message ∷ []) d (hears_orderly side message) refl k

exit_half : {P : ℕ → Type 0} {h : Hearing} (desk : Desk) (message : Message) (body : Body) (w : OutInput) (found : Option OutRow) → outlet_row body.outlet w ≡ found → IsNoSense w → Knows h body.intake → WorksAny P h body Exit message (outlet_took desk body found)
exit_half desk message body w None is plain k = works_none
exit_half desk message body w (Some row) is plain k = works_some (behind_hearing Exit message body _ (outlet_works desk body w (Some row) is plain k))

start_half : {P : ℕ → Type 0} {h : Hearing} (desk : Desk) (message : Message) (body : Body) (w : OutInput) (kept : List Record) (found : Option OutRow) → outlet_row body.outlet w ≡ found → IsNoSense w → Knows h body.intake
    → WorksAny P h body Exit message (outlet_took desk (record body { kept = kept }) found)
start_half desk message body w kept None is plain k = works_none
start_half desk message body w kept (Some row) is plain k =
    works_some (behind_hearing Exit message body _ (works_aside body (outlet_row_did desk (record body { kept = kept }) (Some row)) k refl (out_aside desk kept row) (out_inner desk kept row (outlet_stays w body.outlet row is plain))))

exit_works : {P : ℕ → Type 0} {h : Hearing} (desk : Desk) (message : Message) (word : ExitWord) (body : Body) → Knows h body.intake → WorksAny P h body Exit message (exit_took desk word body)
exit_works desk message exits.Ready body k = exit_half desk message body out_input.MachineReady (outlet_row body.outlet out_input.MachineReady) refl tt k
exit_works desk message exits.Unready body k = exit_half desk message body out_input.RevokeMachineReady (outlet_row body.outlet out_input.RevokeMachineReady) refl tt k
exit_works desk message (exits.Start id) body k =
    let test = would_open body.outlet id in
    start_half desk message body (out_input.Start id (opening_board test body.kept)) (behind_opening test body.kept) (outlet_row body.outlet (out_input.Start id (opening_board test body.kept))) refl tt k
exit_works desk message (exits.Stop state id) body k = exit_half desk message body (out_input.Stop state id) (outlet_row body.outlet (out_input.Stop state id)) refl tt k
exit_works desk message (exits.Query top bottom) body k = works_some (behind_hearing Exit message body _ (works_aside body _ k refl refl refl))
exit_works desk message exits.Nothing body k = works_some (behind_hearing Exit message body _ (works_still body k))

-- ---- a message at the entry

finished_named : {s : InState} {row : InRow} (h : Hearing) (t : Since) (id : ℕ) → IsIntakeRow s (in_input.Finished said.Complete id) row → Knows (record h { since = t }) s → is_named h.named id ≡ true
finished_named h t id (hears_left {board = q} same) k = rw (k.named q refl) (eq-eqb id q.id (sym same))
finished_named h t id (running_drop apart _ _) k = absurd (apart refl)
finished_named h t id (running_wait apart _ _) k = absurd (apart refl)
finished_named h t id (running_keep apart _ _) k = absurd (apart refl)
finished_named h t id (hears_keep {board = q} same _) k = rw (k.named q refl) (eq-eqb id q.id (sym same))
finished_named h t id (hears_drop {board = q} same _) k = rw (k.named q refl) (eq-eqb id q.id (sym same))
finished_named h t id (hears_wait {board = q} same _) k = rw (k.named q refl) (eq-eqb id q.id (sym same))

pub finished_since : (h : Hearing) (body : Body) (state : Transfer) (id : ℕ) (row : InRow) → intake_row body.intake (in_input.Finished state id) ≡ Some row → Knows h body.intake
    → since_message h.named (bodies.TransportFinished state id) h.since ≡ since_after (in_input.Finished state id) h.since
finished_since h body said.Complete id row is k = ap (λ (b : Bool). ended_since b h.since) (finished_named h h.since id (in_row_is body.intake (in_input.Finished said.Complete id) row is) k)
finished_since h body said.NotStarted id row is k = refl
finished_since h body said.Incomplete id row is k = refl

pub finished_half : {P : ℕ → Type 0} {h : Hearing} (desk : Desk) (message : Message) (body : Body) (state : Transfer) (id : ℕ) (found : Option InRow) → message.body ≡ bodies.TransportFinished state id
    → intake_row body.intake (in_input.Finished state id) ≡ found → Knows h body.intake → ((row : InRow) → found ≡ Some row → Sure P (heard_act h (acts.Hears Entry message)) row) → WorksAny P h body Entry message (intake_took desk body found)
finished_half desk message body state id None says is k sure = works_none
finished_half {h = h} desk message body state id (Some row) says is k sure =
    works_some (behind_hearing Entry message body _ (intake_tells desk body (in_input.Finished state id) h.since (Some row) is tt
    (λ other same. ap (λ (what : Horizontal). since_message h.named what h.since) says ∙ finished_since h body state id row is k) k sure (λ none. absurd (let no_way : ◌≡◌ {A = Option InRow} (Some row) None = none in cc))))

silent_half : {P : ℕ → Type 0} {h : Hearing} (desk : Desk) (message : Message) (body : Body) (w : InInput) (found : Option InRow) → intake_row body.intake w ≡ found → IsSilentInput w → Knows h body.intake → WorksAny P h body Entry message (intake_took desk body found)
silent_half desk message body w None is silent k = works_none
silent_half {h = h} desk message body w (Some row) is silent k =
    works_some (behind_hearing Entry message body _ (silent_works desk body w (Some row) is silent (knows_heard Entry message body.intake h k)))

-- what is asked of the end of a transport
abbrev pub SureEnd : (ℕ → Type 0) → Hearing → Message → EntryWord → Body → Type 0
SureEnd P h message (entries.Finished state id) body = (row : InRow) → intake_row body.intake (in_input.Finished state id) ≡ Some row → Sure P (heard_act h (acts.Hears Entry message)) row
SureEnd P h message _ body = Unit {0}

abbrev pub Spells : Message → EntryWord → Type 0
Spells message (entries.Finished state id) = message.body ≡ bodies.TransportFinished state id
Spells message _ = Unit {0}

entry_works : {P : ℕ → Type 0} {h : Hearing} (desk : Desk) (message : Message) (word : EntryWord) (body : Body) → Knows h body.intake → Spells message word → SureEnd P h message word body → WorksAny P h body Entry message (entry_took desk word body)
entry_works desk message (entries.Available board) body k says sure = silent_half desk message body (in_input.BoardAvailable board) (intake_row body.intake (in_input.BoardAvailable board)) refl tt k
entry_works desk message entries.Revoked body k says sure = silent_half desk message body in_input.RevokeBoardAvailable (intake_row body.intake in_input.RevokeBoardAvailable) refl tt k
entry_works desk message (entries.Finished state id) body k says sure = finished_half desk message body state id (intake_row body.intake (in_input.Finished state id)) says refl k sure
entry_works {h = h} desk message entries.Nothing body k says sure = works_some (behind_hearing Entry message body _ (works_still body (knows_heard Entry message body.intake h k)))

-- ---- a message

passed_works : {P : ℕ → Type 0} {h : Hearing} (desk : Desk) (side : Side) (message : Message) (body : Body) (found : Option Done) → Knows h body.intake → WorksAny P h body side message found → Works P h body (passed desk side message body found)
passed_works desk side message body None k any = breaches_work desk side (unexpected (kind_of message.body)) body k
passed_works desk side message body (Some d) k (works_some w) = w

by_session : {P : ℕ → Type 0} {h : Hearing} (desk : Desk) (side : Side) (message : Message) (actions : Actions) (body : Body) → stands_in actions ≡ false → Knows h body.intake → Works P h body (behind (acts.Hears side message ∷ []) (actions_did desk side actions body))
by_session {h = h} desk side message actions body quiet k = behind_hearing side message body (actions_did desk side actions body) (actions_work desk side actions body quiet (knows_heard side message body.intake h k))

pub exit_taken : {P : ℕ → Type 0} {h : Hearing} (desk : Desk) (message : Message) (first : Option Action) (actions : Actions) (body : Body) → stands_in actions ≡ false → Knows h body.intake → Works P h body (taken desk Exit message first actions body)
exit_taken desk message (Some (Pass what)) actions body quiet k = passed_works desk Exit message body (exit_took desk (exit_word what) body) k (exit_works desk message (exit_word what) body k)
exit_taken desk message None actions body quiet k = by_session desk Exit message actions body quiet k
exit_taken desk message (Some SendService) actions body quiet k = by_session desk Exit message actions body quiet k
exit_taken desk message (Some (Pong id)) actions body quiet k = by_session desk Exit message actions body quiet k
exit_taken desk message (Some (Ping n)) actions body quiet k = by_session desk Exit message actions body quiet k
exit_taken desk message (Some (Tell what)) actions body quiet k = by_session desk Exit message actions body quiet k
exit_taken desk message (Some Close) actions body quiet k = by_session desk Exit message actions body quiet k
exit_taken desk message (Some Stand) actions body quiet k = by_session desk Exit message actions body quiet k

abbrev pub SurePass : (ℕ → Type 0) → Hearing → Message → Option Action → Body → Type 0
SurePass P h message (Some (Pass what)) body = Spells message (entry_word what) × SureEnd P h message (entry_word what) body
SurePass P h message _ body = Unit {0}

pub entry_taken : {P : ℕ → Type 0} {h : Hearing} (desk : Desk) (message : Message) (first : Option Action) (actions : Actions) (body : Body) → stands_in actions ≡ false → Knows h body.intake → SurePass P h message first body
    → Works P h body (taken desk Entry message first actions body)
entry_taken desk message (Some (Pass what)) actions body quiet k sure = passed_works desk Entry message body (entry_took desk (entry_word what) body) k (entry_works desk message (entry_word what) body k sure.0 sure.1)
entry_taken desk message None actions body quiet k sure = by_session desk Entry message actions body quiet k
entry_taken desk message (Some SendService) actions body quiet k sure = by_session desk Entry message actions body quiet k
entry_taken desk message (Some (Pong id)) actions body quiet k sure = by_session desk Entry message actions body quiet k
entry_taken desk message (Some (Ping n)) actions body quiet k sure = by_session desk Entry message actions body quiet k
entry_taken desk message (Some (Tell what)) actions body quiet k sure = by_session desk Entry message actions body quiet k
entry_taken desk message (Some Close) actions body quiet k sure = by_session desk Entry message actions body quiet k
entry_taken desk message (Some Stand) actions body quiet k sure = by_session desk Entry message actions body quiet k

-- the upstream machine describes itself: the intake hears that a connection stands
described_knows : {h : Hearing} (i : InState) (d : Bool) → Knows h i → Knows (record h { since = record h.since { described = d } }) i
described_knows i d k = record { named = k.named; recalled = record { ended = k.recalled.ended; linked = k.recalled.linked; waiting = k.recalled.waiting } }

pub described_taken : {P : ℕ → Type 0} {h : Hearing} (desk : Desk) (message : Message) (service : Service) (body : Body) → message.body ≡ bodies.ServiceDescription service → Knows h body.intake
    → ((row : InRow) → intake_row body.intake in_input.Stand ≡ Some row → Sure P (record h { since = described_since h.since }) row) → Works P h body (behind (acts.Hears Entry message ∷ []) (actions_did desk Entry (just Stand) body))
described_taken {P = P} {h = h} desk message service body says k sure =
    let now : Hearing = record h { since = described_since h.since } in
    let same : heard_act h (acts.Hears Entry message) ≡ now = ap (λ (what : Horizontal). record h { since = since_message h.named what h.since }) says in
    let did = at_intake desk in_input.Stand body in
    let one : Works P now body did = intake_tells desk body in_input.Stand h.since (intake_row body.intake in_input.Stand) refl tt (λ row is. refl) k sure (λ none. described_knows body.intake h.since.closed k) in
    behind_hearing Entry message body (and_then did (λ one. and_then (stays one) stays))
    (subst (λ (x : Hearing). Works P x body (and_then did (λ one. and_then (stays one) stays))) (sym same) (works_both body did (λ one. and_then (stays one) stays) one (λ k2. works_both did.body (stays did.body) stays (works_still did.body k2) (λ k3. works_still did.body k3))))

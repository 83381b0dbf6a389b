-- WHAT A MOVE DOES TO THE CONNECTIONS of both sides: its call, and the step behind that.
use Rattle.std.proofs.Common.{◌⊎◌, inl, inr, ◌≡◌, ◌∙◌, refl, sym, ap, subst, ℕ, ℤ, Bool, true, false, List, [], ◌∷◌, ◌++◌, Option, None, Some, Result, Ok, Err, append_assoc, append-nil, drop, take}
use Rattle.std.specs.Borrow.{Bor}
use Rattle.book_entry.specs.Given.{entry_of}
use Rattle.std.proofs.lemmas.Bool.{true≢false}
use Rattle.std.proofs.lemmas.List.{take-append-drop}
use Rattle.line_base.specs.declared.states.Side.{Side}
use Rattle.line_base.specs.declared.states.Side.TheVariants.{Entry, Exit}
use Rattle.line_outside.specs.Listening.{at_all}
use Rattle.line_outside.specs.Given.{Closes, Connects, Given, Listens, Polls, Refuses, Sends}
use Rattle.line_outside.specs.declared.answer.GotBytes.{GotBytes}
use Rattle.line_outside.specs.declared.answer.GotBytes.TheVariants as founds
use Rattle.line_outside.specs.declared.ports.Opened.{Opened}
use Rattle.line_outside.specs.declared.ports.Opened.TheVariants as openings
use Rattle.line_outside.specs.declared.ports.Sent.{Sent}
use Rattle.line_outside.specs.declared.ports.Sent.TheVariants as sents
use Rattle.line_outside.specs.declared.way.Address.{Address}
use Rattle.line_outside.specs.declared.way.Way.{Way}
use Rattle.line_outside.specs.declared.way.Way.TheVariants as ways
use Rattle.config_service.specs.declared.message.Settings.{Settings}
use Rattle.machine_log.specs.Drives.{drives_after}
use Rattle.machine_log.specs.declared.drives.Drives.{Drives}
use Rattle.node_core.specs.May.{may_do, may_of}
use Rattle.node_core.specs.Node.{NodeState}
use Rattle.node_core.specs.Sides.{is_open}
use Rattle.node_core.specs.Step.{Steps}
use Rattle.node_core.specs.declared.act.Act.{Act}
use Rattle.node_core.specs.declared.input.Input.{Input}
use Rattle.node_core.specs.declared.input.Input.TheVariants as inputs
use Rattle.node_core.specs.declared.input.No.{No}
use Rattle.node_run.specs.declared.rules.Rules.{Rules}
use Rattle.node_run.specs.After.{AfterClose, AfterDownstream, AfterPoll, AfterUpstream, TakesFinding, TakesFound, TakesHeld, after_listen, after_send, broken, looked, way_of, with_held}
use Rattle.node_run.specs.Held.{Finding, holds, nothing_held}
use Rattle.node_run.specs.Configuring.{AfterTry}
use Rattle.node_run.specs.Lines.{cut_line}
use Rattle.node_run.specs.Next.{moved_on, next_of}
use Rattle.node_run.specs.Owning.{IsAnswer, TellsActs, answer_lines, step_lines}
use Rattle.node_run.specs.Runs.{Moves, closes, connects, does_config, does_hear, does_line, listens, looks_again, polls, refuses as refuses_second, resets_side, room_bytes, sends, skips, takes_held, tries_port}
use Rattle.node_run.specs.State.{RunState, WayValue, at_rest, one_more, way_at, with_way, with_wire}
use Rattle.node_run.specs.Resetting.{ResetsSide, leaving, reset_begun, reset_text}
use Rattle.supervised_end.specs.Channel.{no_session}
use Rattle.node_run.specs.Steps.{Takes}
use Rattle.node_run.specs.declared.place.Next.{Next}
use Rattle.node_run.specs.declared.place.Next.TheVariants as nexts
use Rattle.node_run.specs.declared.way_state.Wire.TheVariants as wires
use Rattle.law_node_runs.specs.Connections.{Connection, InOrderAlong, IsFront, call_does, does, heard_by, step_does}
use Rattle.law_node_runs.specs.Doings.{Doing, MoveDoes, a_reset, acts_in, calls, no_step, one_step, reset_of, says, steps}
use Rattle.law_node_runs.proofs.Calling.{step_of_send}
use Rattle.law_node_runs.proofs.Holding.{Holds, Pending, Same, Stepped, all_heard, any_pending, cut_off, held_by, held_for, in_order, is_reached, is_unreached, opens_at, same_holds, same_is, same_self, step_holds, step_sent, stays_closed}
use Rattle.law_node_runs.proofs.Parts.{IsAside, Part, answers, config_same, configuration_same, cut_part, hear_part, meets_part, panel_part, quiet, step_part, steps as part_steps, supervisory_same, takes_part, try_same, unsupervised_part}
use Rattle.law_node_runs.proofs.Polled.{none_held}

-- ---- what is done, one doing after the other

abbrev pub done_all : Side → List Doing → Connection → Connection
done_all side [] c = c
done_all side (doing ∷ others) c = done_all side others (does side doing c)

-- a text is told behind others
pub record Tells (rules : Rules) (log : List ℕ) (told : List Act) : Type 0 where
  pub behind : (before : List ℕ) (acts : List Act) → TellsActs rules before acts → TellsActs rules (before ++ log) (acts ++ told)

pub tells_none : (rules : Rules) (log : List ℕ) → log ≡ [] → Tells rules log []
tells_none rules log none = record {
  behind = λ before acts tells.
      subst (λ (text : List ℕ). TellsActs rules (before ++ text) (acts ++ [])) (sym none)
      (subst (λ (told : List Act). TellsActs rules (before ++ []) told) (sym (append-nil acts)) (subst (λ (text : List ℕ). TellsActs rules text acts) (sym (append-nil before)) tells));
}

tells_answer : (rules : Rules) (log : List ℕ) → IsAnswer rules log → Tells rules log []
tells_answer rules log answer = record {
  behind = λ before acts tells. subst (λ (told : List Act). TellsActs rules (before ++ log) told) (sym (append-nil acts)) (answer_lines tells answer);
}

tells_step : {rules : Rules} {input : Input} {s t : RunState} {log : List ℕ} (st : Stepped rules input s t log) → Tells rules log (st.told ++ [])
tells_step {rules = rules} {log = log} st = record {
  behind = λ before acts tells.
      subst (λ (told : List Act). TellsActs rules (before ++ log) (acts ++ told)) (sym (append-nil st.told))
      (subst (λ (text : List ℕ). TellsActs rules (before ++ text) (acts ++ st.told)) (sym st.lines) (step_lines st.turn st.told st.proper tells));
}

-- ---- the part of a move behind its call

pub record Behind (rules : Rules) (side : Side → Bool) (s t : RunState) (log : List ℕ) : Type 0 where
  pub more : List Doing
  pub along : MoveDoes None s t [] more
  pub tells : Tells rules log (acts_in more)
  pub keeps : (at : Side) (c : Connection) → Holds (side at) at s c → InOrderAlong at c more × Holds false at t (done_all at more c)

weaker : {opens : Bool} {side : Side} {s : RunState} {c : Connection} → Holds opens side s c → Holds false side s c
weaker kept = record { sent = kept.sent; heard = any_pending kept.heard }

quiet_behind : {opened : Side → Bool} {rules : Rules} {s t : RunState} {log : List ℕ} → Tells rules log [] → Same s t → Behind rules opened s t log
quiet_behind tells same = record {
  more = [];
  along = no_step same.step same.node same.drives;
  tells = tells;
  keeps = λ at c kept. (in_order kept, weaker (same_holds same kept));
}

-- a step of an input that brings nothing
step_behind : {rules : Rules} {s t : RunState} {log : List ℕ} (input : Input) → ((side : Side) → heard_by side input ≡ []) → Stepped rules input s t log → Behind rules (λ at. opens_at at input) s t log
step_behind input dry st = record {
  more = steps input st.told ∷ [];
  along = one_step refl st.step st.may st.steps st.drives;
  tells = tells_step st;
  keeps = λ at c kept. (let behind = step_holds at st (dry at) kept in ((in_order kept, in_order behind), behind));
}

aside_dry : (input : Input) → IsAside input → (side : Side) → heard_by side input ≡ []
aside_dry (inputs.Bytes at piece) aside side = absurd aside
aside_dry inputs.Connect aside side = absurd aside
aside_dry inputs.Accepted aside side = absurd aside
aside_dry inputs.Nothing aside Entry = refl
aside_dry inputs.Nothing aside Exit = refl
aside_dry input aside Entry = refl
aside_dry input aside Exit = refl

aside_opens : (input : Input) → IsAside input → (side : Side) → opens_at side input ≡ false
aside_opens (inputs.Bytes at piece) aside side = absurd aside
aside_opens inputs.Connect aside side = absurd aside
aside_opens inputs.Accepted aside side = absurd aside
aside_opens input aside Entry = refl
aside_opens input aside Exit = refl

abbrev pub none_opens : Side → Bool
none_opens side = false

closed_behind : {opened : Side → Bool} {rules : Rules} {s t : RunState} {log : List ℕ} → ((side : Side) → opened side ≡ false) → Behind rules opened s t log → Behind rules none_opens s t log
closed_behind {opened} {rules} {s} {t} {log} none b = record {
  more = b.more;
  along = b.along;
  tells = b.tells;
  keeps = λ at c kept. b.keeps at c (subst (λ (opens : Bool). Holds opens at s c) (sym (none at)) kept);
}

pub part_behind : {rules : Rules} {s t : RunState} {log : List ℕ} → Part IsAside rules s t log → Behind rules none_opens s t log
part_behind {rules} {s} {t} {log} (quiet none same) = quiet_behind (tells_none rules log none) same
part_behind {rules} {s} {t} {log} (answers answer same) = quiet_behind (tells_answer rules log answer) same
part_behind (part_steps input aside st) = closed_behind (aside_opens input aside) (step_behind input (aside_dry input aside) st)

-- a connection of one side is made
abbrev IsConnect : Input → Type 0
IsConnect input = input ≡ inputs.Connect

abbrev IsAccepted : Input → Type 0
IsAccepted input = input ≡ inputs.Accepted

abbrev opens_entry : Side → Bool
opens_entry at = opens_at at inputs.Connect

abbrev opens_exit : Side → Bool
opens_exit at = opens_at at inputs.Accepted

dry_connect : (side : Side) → heard_by side inputs.Connect ≡ []
dry_connect Entry = refl
dry_connect Exit = refl

dry_accepted : (side : Side) → heard_by side inputs.Accepted ≡ []
dry_accepted Entry = refl
dry_accepted Exit = refl

connect_behind : {rules : Rules} {s t : RunState} {log : List ℕ} → Part IsConnect rules s t log → Behind rules opens_entry s t log
connect_behind {rules} {s} {t} {log} (quiet none same) = quiet_behind (tells_none rules log none) same
connect_behind {rules} {s} {t} {log} (answers answer same) = quiet_behind (tells_answer rules log answer) same
connect_behind {rules} {s} {t} {log} (part_steps input is st) = step_behind inputs.Connect dry_connect (subst (λ (i : Input). Stepped rules i s t log) is st)

accepted_behind : {rules : Rules} {s t : RunState} {log : List ℕ} → Part IsAccepted rules s t log → Behind rules opens_exit s t log
accepted_behind {rules} {s} {t} {log} (quiet none same) = quiet_behind (tells_none rules log none) same
accepted_behind {rules} {s} {t} {log} (answers answer same) = quiet_behind (tells_answer rules log answer) same
accepted_behind {rules} {s} {t} {log} (part_steps input is st) = step_behind inputs.Accepted dry_accepted (subst (λ (i : Input). Stepped rules i s t log) is st)

-- ---- bytes that are taken, or dropped where the side has no connection

abbrev heard_at : Option (List ℕ) → Side → RunState → Type 0
heard_at bytes side s = s.held.finding ≡ Some (record { side = side; bytes = bytes })

bytes_pending : {rules : Rules} {s t : RunState} {log : List ℕ} {given heard : List ℕ} (side at : Side) (input : Input) (bytes : List ℕ) → heard_at (Some bytes) side s → heard_by at input ≡ held_by at side (Some bytes)
    → opens_at at input ≡ false → (is_open at s.node.lane.body ≡ false → heard_by at input ≡ []) → (st : Stepped rules input (with_held nothing_held s) t log) → Pending false at s given heard → Pending false at t given (heard ++ heard_by at input)
bytes_pending {s = s} {t = t} {given = given} {heard = heard} side at input bytes held same plain dry st (all_heard is) =
    all_heard (is ∙ ap (λ (f : Option Finding). heard ++ held_for at f) held ∙ ap (λ (text : List ℕ). heard ++ text) (sym same)
    ∙ sym (append-nil (heard ++ heard_by at input)) ∙ ap (λ (f : Option Finding). (heard ++ heard_by at input) ++ held_for at f) (sym st.held))
bytes_pending {s = s} {t = t} {given = given} {heard = heard} side at input bytes held same plain dry st (cut_off none front closed) =
    cut_off refl (subst (λ (text : List ℕ). IsFront text given) (sym (ap (λ (text : List ℕ). heard ++ text) (dry closed) ∙ append-nil heard)) front) (stays_closed at st plain closed)

dropped_pending : {s : RunState} {given heard : List ℕ} (side at : Side) (bytes : List ℕ) → heard_at (Some bytes) side s → (held_by at side (Some bytes) ≡ []) ⊎ (is_open at s.node.lane.body ≡ false) → Pending false at s given heard → Pending false at (with_held nothing_held s) given heard
dropped_pending {given = given} {heard = heard} side at bytes held (inl none) (all_heard is) =
    all_heard (is ∙ ap (λ (f : Option Finding). heard ++ held_for at f) held ∙ ap (λ (text : List ℕ). heard ++ text) none)
dropped_pending {given = given} {heard = heard} side at bytes held (inr closed) (all_heard is) =
    cut_off refl (record { rest = held_by at side (Some bytes); parts = is ∙ ap (λ (f : Option Finding). heard ++ held_for at f) held }) closed
dropped_pending side at bytes held which (cut_off none front closed) = cut_off refl front closed

-- the other side is told nothing of it
other_or_closed : (side at : Side) (bytes : List ℕ) (s : RunState) → is_open side s.node.lane.body ≡ false → (held_by at side (Some bytes) ≡ []) ⊎ (is_open at s.node.lane.body ≡ false)
other_or_closed Entry Entry bytes s closed = inr closed
other_or_closed Exit Exit bytes s closed = inr closed
other_or_closed Entry Exit bytes s closed = inl refl
other_or_closed Exit Entry bytes s closed = inl refl

bytes_same : (side at : Side) (piece : Bor (List ℕ)) (bytes : List ℕ) → piece.now ≡ bytes → heard_by at (inputs.Bytes side piece) ≡ held_by at side (Some bytes)
bytes_same Entry Entry piece bytes is = is
bytes_same Exit Exit piece bytes is = is
bytes_same Entry Exit piece bytes is = refl
bytes_same Exit Entry piece bytes is = refl

bytes_plain : (side at : Side) (piece : Bor (List ℕ)) → opens_at at (inputs.Bytes side piece) ≡ false
bytes_plain side Entry piece = refl
bytes_plain side Exit piece = refl

bytes_dry : (side at : Side) (piece : Bor (List ℕ)) (s : RunState) → is_open side s.node.lane.body ≡ true → is_open at s.node.lane.body ≡ false → heard_by at (inputs.Bytes side piece) ≡ []
bytes_dry Entry Entry piece s opened closed = absurd (true≢false (sym opened ∙ closed))
bytes_dry Exit Exit piece s opened closed = absurd (true≢false (sym opened ∙ closed))
bytes_dry Entry Exit piece s opened closed = refl
bytes_dry Exit Entry piece s opened closed = refl

taken_behind : {rules : Rules} {s t : RunState} {log : List ℕ} (side : Side) (bytes : List ℕ) (piece : Bor (List ℕ)) → piece.now ≡ bytes → heard_at (Some bytes) side s → Stepped rules (inputs.Bytes side piece) (with_held nothing_held s) t log → Behind rules none_opens s t log
taken_behind {rules} {s} {t} {log} side bytes piece is held st =
    let opened : is_open side s.node.lane.body ≡ true = is_reached side s.node.lane.body st.may in
    record {
      more = steps (inputs.Bytes side piece) st.told ∷ [];
      along = one_step refl st.step st.may st.steps st.drives;
      tells = tells_step st;
      keeps = λ at c kept. (
          let behind : Holds false at t (step_does at (inputs.Bytes side piece) st.told c) = record {
            sent = step_sent at st c.said c.taken (kept_sent at c.said c.taken kept.sent);
            heard = bytes_pending side at (inputs.Bytes side piece) bytes held (bytes_same side at piece bytes is) (bytes_plain side at piece) (bytes_dry side at piece s opened) st kept.heard;
          } in
          ((in_order kept, in_order behind), behind));
    }
  where
    kept_sent : (at : Side) (said taken : List ℕ) → said ≡ taken ++ (way_at (way_of at) s).unsent → said ≡ taken ++ (way_at (way_of at) (with_held nothing_held s)).unsent
    kept_sent Entry said taken is = is
    kept_sent Exit said taken is = is

dropped_behind : {rules : Rules} {s t : RunState} {log : List ℕ} (side : Side) (bytes : List ℕ) → heard_at (Some bytes) side s → is_open side s.node.lane.body ≡ false → t ≡ with_held nothing_held s → log ≡ [] → Behind rules none_opens s t log
dropped_behind {rules} {s} {t} {log} side bytes held closed is none = record {
  more = [];
  along = no_step (ap (λ (r : RunState). r.step) is) (ap (λ (r : RunState). r.node) is) (ap (λ (r : RunState). r.drives) is);
  tells = tells_none rules log none;
  keeps = λ at c kept. (in_order kept, subst (λ (r : RunState). Holds false at r c) (sym is) (record { sent = kept_sent at c.said c.taken kept.sent; heard = dropped_pending side at bytes held (other_or_closed side at bytes s closed) kept.heard }));
} where
  kept_sent : (at : Side) (said taken : List ℕ) → said ≡ taken ++ (way_at (way_of at) s).unsent → said ≡ taken ++ (way_at (way_of at) (with_held nothing_held s)).unsent
  kept_sent Entry said taken is = is
  kept_sent Exit said taken is = is

bytes_behind : {rules : Rules} {s t : RunState} {log : List ℕ} (moment : ℤ) (may : Result (Unit {0}) No) (side : Side) (bytes : List ℕ) (piece : Bor (List ℕ)) → piece.now ≡ bytes → heard_at (Some bytes) side s → may_of s.node (inputs.Bytes side piece) ≡ may
    → Takes may rules moment (inputs.Bytes side piece) (with_held nothing_held s) (with_held nothing_held s) t log → Behind rules none_opens s t log
bytes_behind {rules} {s} {t} {log} moment (Ok done) side bytes piece is held may takes =
    taken_behind side bytes piece is held (step_part false rules moment [] (inputs.Bytes side piece) (with_held nothing_held s) t log (λ told. refl) may takes)
bytes_behind {rules} {s} {t} {log} moment (Err why) side bytes piece is held may takes = dropped_behind side bytes held (is_unreached side s.node.lane.body why may) takes.0 takes.1

-- an end that was found
broken_same : (side : Side) (test : Bool) (s : RunState) → Same s (broken (way_of side) test s)
broken_same Entry true s = record { node = refl; up = refl; down = refl; held = refl; step = refl; drives = refl }
broken_same Exit true s = record { node = refl; up = refl; down = refl; held = refl; step = refl; drives = refl }
broken_same side false s = same_self

-- a state in which what is held says nothing, behind one in which it is an end, or nothing
end_pending : {s t : RunState} {given heard : List ℕ} (at : Side) → held_for at s.held.finding ≡ [] → t.held.finding ≡ None → t.node ≡ s.node → Pending false at s given heard → Pending false at t given heard
end_pending {given = given} {heard = heard} at none held node (all_heard is) = all_heard (is ∙ ap (λ (text : List ℕ). heard ++ text) none ∙ ap (λ (f : Option Finding). heard ++ held_for at f) (sym held))
end_pending at none held node (cut_off plain front closed) = cut_off refl front (ap (λ (n : NodeState). is_open at n.lane.body) node ∙ closed)

end_behind : {rules : Rules} {s t : RunState} {log : List ℕ} → ((at : Side) → held_for at s.held.finding ≡ []) → Same (with_held nothing_held s) t → log ≡ [] → Behind rules none_opens s t log
end_behind {rules} {s} {t} {log} none same silent = record {
  more = [];
  along = no_step same.step same.node same.drives;
  tells = tells_none rules log silent;
  keeps = λ at c kept. (in_order kept, record { sent = kept_sent at c.said c.taken kept.sent; heard = end_pending at (none at) same.held same.node kept.heard });
} where
  kept_sent : (at : Side) (said taken : List ℕ) → said ≡ taken ++ (way_at (way_of at) s).unsent → said ≡ taken ++ (way_at (way_of at) t).unsent
  kept_sent Entry said taken is = is ∙ ap (λ (text : List ℕ). taken ++ text) (sym same.up)
  kept_sent Exit said taken is = is ∙ ap (λ (text : List ℕ). taken ++ text) (sym same.down)

no_bytes : (side at : Side) → held_by at side None ≡ []
no_bytes Entry Entry = refl
no_bytes Entry Exit = refl
no_bytes Exit Entry = refl
no_bytes Exit Exit = refl

found_behind : {rules : Rules} {s t : RunState} {log : List ℕ} (moment : ℤ) (bytes : Option (List ℕ)) (side : Side) → heard_at bytes side s → TakesFound bytes side rules moment (with_held nothing_held s) t log → Behind rules none_opens s t log
found_behind {rules} {s} {t} {log} moment (Some bytes) side held takes =
    bytes_behind moment (may_of s.node (inputs.Bytes side takes.piece)) side bytes takes.piece takes.same held refl takes.takes
found_behind {rules} {s} {t} {log} moment None side held takes =
    end_behind (λ at. ap (held_for at) held ∙ no_bytes side at) (same_is takes.0 (broken_same side (is_open side s.node.lane.body) (with_held nothing_held s))) takes.1

finding_behind : {rules : Rules} {s t : RunState} {log : List ℕ} (moment : ℤ) (finding : Option Finding) → s.held.finding ≡ finding → TakesFinding finding rules moment (with_held nothing_held s) t log → Behind rules none_opens s t log
finding_behind moment None is takes = end_behind (λ at. ap (held_for at) is) (same_is takes.0 same_self) takes.1
finding_behind moment (Some finding) is takes = found_behind moment finding.bytes finding.side is takes

held_behind : {rules : Rules} {s t : RunState} {log : List ℕ} (moment : ℤ) → TakesHeld rules moment s t log → Behind rules none_opens s t log
held_behind {s = s} moment takes = finding_behind moment s.held.finding refl takes

-- ---- a call

-- a move with its call: what it does, and what the log tells
pub record Piece (resets : Option Side) (rules : Rules) (s t : RunState) (given : List Given) (log : List ℕ) : Type 0 where
  pub more : List Doing
  pub along : MoveDoes resets s t given more
  pub tells : Tells rules log (acts_in more)
  pub keeps : (at : Side) (c : Connection) → Holds false at s c → InOrderAlong at c more × Holds false at t (done_all at more c)

piece_none : {rules : Rules} {s t : RunState} {log : List ℕ} → Behind rules none_opens s t log → Piece None rules s t [] log
piece_none b = record { more = b.more; along = b.along; tells = b.tells; keeps = b.keeps }

-- the state behind a call, whose side may be opened by the step that follows
record Called (opened : Side → Bool) (s u : RunState) (given : Given) : Type 0 where
  node : u.node ≡ s.node
  step : u.step ≡ s.step
  drives : u.drives ≡ s.drives
  keeps : (at : Side) (c : Connection) → Holds false at s c → Holds (opened at) at u (call_does (way_of at) given c)

call_first : {s u t : RunState} {given : Given} {more : List Doing} → u.node ≡ s.node → u.step ≡ s.step → u.drives ≡ s.drives → MoveDoes None u t [] more → MoveDoes None s t (given ∷ []) (calls given ∷ more)
call_first node step drives (no_step same still driven) = no_step (same ∙ step) (still ∙ node) (driven ∙ drives)
call_first {t = t} node step drives (one_step {read} {input} {at} {acts} none made may does driven) =
    one_step none (made ∙ ap (one_more (entry_of read input at)) step) (ap (λ (n : NodeState). may_of n input) (sym node) ∙ may) (subst (λ (n : NodeState). Steps n read input at t.node acts) node does) (driven ∙ ap (λ (d : Drives). drives_after d acts) drives)
call_first node step drives (a_reset some made may does driven) = cc

piece_call : {opened : Side → Bool} {rules : Rules} {s u t : RunState} {given : Given} {log : List ℕ} → Called opened s u given → Behind rules opened u t log → Piece None rules s t (given ∷ []) log
piece_call {given = given} call b = record {
  more = calls given ∷ b.more;
  along = call_first call.node call.step call.drives b.along;
  tells = b.tells;
  keeps = λ at c kept. (let then_is = b.keeps at (call_does (way_of at) given c) (call.keeps at c kept) in ((in_order kept, then_is.0), then_is.1));
}

-- a call that is of no neighbour's way
called_aside : {s u : RunState} {given : Given} → ((at : Side) (c : Connection) → call_does (way_of at) given c ≡ c) → Same s u → Called none_opens s u given
called_aside {s} {u} {given} aside same = record {
  node = same.node;
  step = same.step;
  drives = same.drives;
  keeps = λ at c kept. subst (λ (d : Connection). Holds false at u d) (sym (aside at c)) (same_holds same kept);
}

same_moved : {s : RunState} → Same s (moved_on s)
same_moved = record { node = refl; up = refl; down = refl; held = refl; step = refl; drives = refl }

listened_same : (address : Address) (opened : Opened) (s : RunState) → Same s (after_listen address opened s)
listened_same address openings.Done s = record { node = refl; up = refl; down = refl; held = refl; step = refl; drives = refl }
listened_same address openings.Failed s = record { node = refl; up = refl; down = refl; held = refl; step = refl; drives = refl }

listen_aside : (way : Way) (address : Address) (opened : Opened) (at : Side) (c : Connection) → call_does (way_of at) (Listens way address opened) c ≡ c
listen_aside way address opened Entry c = refl
listen_aside way address opened Exit c = refl

connect_aside : (way : Way) (address : Address) (opened : Opened) (at : Side) (c : Connection) → call_does (way_of at) (Connects way address opened) c ≡ c
connect_aside way address opened Entry c = refl
connect_aside way address opened Exit c = refl

refuse_aside : (way : Way) (piece : List ℕ) (sent : Sent) (at : Side) (c : Connection) → call_does (way_of at) (Refuses way piece sent) c ≡ c
refuse_aside way piece sent Entry c = refl
refuse_aside way piece sent Exit c = refl

panel_poll_aside : (found : GotBytes) (at : Side) (c : Connection) → call_does (way_of at) (Polls ways.Panel room_bytes found) c ≡ c
panel_poll_aside found Entry c = refl
panel_poll_aside found Exit c = refl

supervisory_poll_aside : (found : GotBytes) (at : Side) (c : Connection) → call_does (way_of at) (Polls ways.Supervisory room_bytes found) c ≡ c
supervisory_poll_aside found Entry c = refl
supervisory_poll_aside found Exit c = refl

configuration_poll_aside : (found : GotBytes) (at : Side) (c : Connection) → call_does (way_of at) (Polls ways.Configuration room_bytes found) c ≡ c
configuration_poll_aside found Entry c = refl
configuration_poll_aside found Exit c = refl

-- ---- polls of the neighbours' ways, of which nothing is held

-- what arrives there begins anew
arrives : (opened : Side → Bool) (side : Side) (s : RunState) → s.held.finding ≡ None → ((at : Side) → (opened at ≡ false) ⊎ (at ≡ side)) → Called opened s (moved_on s) (Polls (way_of side) room_bytes founds.Arrived)
arrives opened side s none others = record { node = refl; step = refl; drives = refl; keeps = λ at c kept. kept_by at side c kept (others at) } where
  fresh : (at : Side) (c : Connection) → Holds false at s c → Holds (opened at) at (moved_on s) (record c { given = []; heard = [] })
  fresh Entry c kept = record { sent = kept.sent; heard = all_heard (ap (held_for Entry) (sym none)) }
  fresh Exit c kept = record { sent = kept.sent; heard = all_heard (ap (held_for Exit) (sym none)) }

  stays : (at : Side) (c : Connection) → opened at ≡ false → Holds false at s c → Holds (opened at) at (moved_on s) c
  stays at c plain kept = subst (λ (o : Bool). Holds o at (moved_on s) c) (sym plain) (same_holds same_moved kept)

  kept_by : (at side : Side) (c : Connection) → Holds false at s c → (opened at ≡ false) ⊎ (at ≡ side) → Holds (opened at) at (moved_on s) (call_does (way_of at) (Polls (way_of side) room_bytes founds.Arrived) c)
  kept_by Entry Entry c kept which = fresh Entry c kept
  kept_by Exit Exit c kept which = fresh Exit c kept
  kept_by Entry Exit c kept (inl plain) = stays Entry c plain kept
  kept_by Entry Exit c kept (inr is) = cc
  kept_by Exit Entry c kept (inl plain) = stays Exit c plain kept
  kept_by Exit Entry c kept (inr is) = cc

-- bytes are held
gives : (side : Side) (bytes : List ℕ) (s : RunState) → s.held.finding ≡ None → Called none_opens s (with_held (holds side (Some bytes)) (moved_on s)) (Polls (way_of side) room_bytes (founds.Bytes bytes))
gives side bytes s none = record { node = refl; step = refl; drives = refl; keeps = λ at c kept. kept_by side at c kept } where
  more : (at : Side) {given heard : List ℕ} → held_by at at (Some bytes) ≡ bytes → Pending false at s given heard → Pending false at (with_held (holds at (Some bytes)) (moved_on s)) (given ++ bytes) heard
  more at {given} {heard} own (all_heard is) =
      all_heard (ap (λ (text : List ℕ). text ++ bytes) (is ∙ ap (λ (f : Option Finding). heard ++ held_for at f) none ∙ append-nil heard) ∙ ap (λ (text : List ℕ). heard ++ text) (sym own))
  more at {given} {heard} own (cut_off plain front closed) =
      cut_off refl (record { rest = front.rest ++ bytes; parts = ap (λ (text : List ℕ). text ++ bytes) front.parts ∙ append_assoc heard front.rest bytes }) closed

  beside : (side at : Side) {given heard : List ℕ} → held_by at side (Some bytes) ≡ [] → Pending false at s given heard → Pending false at (with_held (holds side (Some bytes)) (moved_on s)) given heard
  beside side at {given} {heard} other (all_heard is) = all_heard (is ∙ ap (λ (f : Option Finding). heard ++ held_for at f) none ∙ ap (λ (text : List ℕ). heard ++ text) (sym other))
  beside side at other (cut_off plain front closed) = cut_off refl front closed

  kept_by : (side at : Side) (c : Connection) → Holds false at s c → Holds false at (with_held (holds side (Some bytes)) (moved_on s)) (call_does (way_of at) (Polls (way_of side) room_bytes (founds.Bytes bytes)) c)
  kept_by Entry Entry c kept = record { sent = kept.sent; heard = more Entry refl kept.heard }
  kept_by Exit Exit c kept = record { sent = kept.sent; heard = more Exit refl kept.heard }
  kept_by Entry Exit c kept = record { sent = kept.sent; heard = beside Entry Exit refl kept.heard }
  kept_by Exit Entry c kept = record { sent = kept.sent; heard = beside Exit Entry refl kept.heard }

-- an end is held, or nothing is found
finds : (side : Side) (found : GotBytes) (s u : RunState) → ((c : Connection) → (at : Side) → call_does (way_of at) (Polls (way_of side) room_bytes found) c ≡ c) → s.held.finding ≡ None → ((at : Side) → held_for at u.held.finding ≡ []) → Same (with_held nothing_held s) (with_held nothing_held u)
    → Called none_opens s u (Polls (way_of side) room_bytes found)
finds side found s u aside none silent same = record { node = same.node; step = same.step; drives = same.drives; keeps = λ at c kept. subst (λ (d : Connection). Holds false at u d) (sym (aside c at)) (record { sent = sent_by at c.said c.taken kept.sent; heard = heard_by_end at kept.heard }) } where
  sent_by : (at : Side) (said taken : List ℕ) → said ≡ taken ++ (way_at (way_of at) s).unsent → said ≡ taken ++ (way_at (way_of at) u).unsent
  sent_by Entry said taken is = is ∙ ap (λ (text : List ℕ). taken ++ text) (sym same.up)
  sent_by Exit said taken is = is ∙ ap (λ (text : List ℕ). taken ++ text) (sym same.down)

  heard_by_end : (at : Side) {given heard : List ℕ} → Pending false at s given heard → Pending false at u given heard
  heard_by_end at {given} {heard} (all_heard is) = all_heard (is ∙ ap (λ (f : Option Finding). heard ++ held_for at f) none ∙ ap (λ (text : List ℕ). heard ++ text) (sym (silent at)))
  heard_by_end at (cut_off plain front closed) = cut_off refl front (ap (λ (n : NodeState). is_open at n.lane.body) same.node ∙ closed)

second_aside : (side : Side) (c : Connection) (at : Side) → call_does (way_of at) (Polls (way_of side) room_bytes founds.Second) c ≡ c
second_aside Entry c Entry = refl
second_aside Entry c Exit = refl
second_aside Exit c Entry = refl
second_aside Exit c Exit = refl

none_aside : (side : Side) (c : Connection) (at : Side) → call_does (way_of at) (Polls (way_of side) room_bytes founds.NotYet) c ≡ c
none_aside Entry c Entry = refl
none_aside Entry c Exit = refl
none_aside Exit c Entry = refl
none_aside Exit c Exit = refl

closed_aside : (side : Side) (c : Connection) (at : Side) → call_does (way_of at) (Polls (way_of side) room_bytes founds.Closed) c ≡ c
closed_aside Entry c Entry = refl
closed_aside Entry c Exit = refl
closed_aside Exit c Entry = refl
closed_aside Exit c Exit = refl

failed_aside : (side : Side) (c : Connection) (at : Side) → call_does (way_of at) (Polls (way_of side) room_bytes founds.Failed) c ≡ c
failed_aside Entry c Entry = refl
failed_aside Entry c Exit = refl
failed_aside Exit c Entry = refl
failed_aside Exit c Exit = refl

silent_before : (s : RunState) → s.held.finding ≡ None → (at : Side) → held_for at s.held.finding ≡ []
silent_before s none at = ap (held_for at) none

-- nothing follows
quiet_same : {rules : Rules} {u t : RunState} {log : List ℕ} → t ≡ u → log ≡ [] → Behind rules none_opens u t log
quiet_same {rules} {u} {t} {log} is none = quiet_behind (tells_none rules log none) (same_is is same_self)

entry_alone : (at : Side) → (opens_entry at ≡ false) ⊎ (at ≡ Entry)
entry_alone Entry = inr refl
entry_alone Exit = inl refl

exit_alone : (at : Side) → (opens_exit at ≡ false) ⊎ (at ≡ Exit)
exit_alone Entry = inl refl
exit_alone Exit = inr refl

upstream_piece : {rules : Rules} {s t : RunState} {log : List ℕ} (moment : ℤ) (found : GotBytes) → s.held.finding ≡ None → AfterUpstream rules moment found (moved_on s) t log → Piece None rules s t (Polls ways.Upstream room_bytes found ∷ []) log
upstream_piece {rules} {s} {t} {log} moment founds.Arrived none after =
    piece_call (arrives opens_entry Entry s none entry_alone)
    (connect_behind (takes_part (may_of s.node inputs.Connect) rules moment inputs.Connect (with_wire ways.Upstream wires.Stands (moved_on s)) (moved_on s) t log refl (λ told. refl) refl (record { node = refl; up = refl; down = refl; held = refl; step = refl; drives = refl }) after))
upstream_piece {s = s} moment founds.Second none after = piece_call (finds Entry founds.Second s (moved_on s) (second_aside Entry) none (silent_before s none) (record { node = refl; up = refl; down = refl; held = refl; step = refl; drives = refl })) (quiet_same after.0 after.1)
upstream_piece {s = s} moment (founds.Bytes bytes) none after = piece_call (gives Entry bytes s none) (quiet_same after.0 after.1)
upstream_piece {s = s} moment founds.NotYet none after = piece_call (finds Entry founds.NotYet s (moved_on s) (none_aside Entry) none (silent_before s none) (record { node = refl; up = refl; down = refl; held = refl; step = refl; drives = refl })) (quiet_same after.0 after.1)
upstream_piece {s = s} moment founds.Closed none after = piece_call (finds Entry founds.Closed s (with_held (holds Entry None) (moved_on s)) (closed_aside Entry) none (no_bytes Entry) (record { node = refl; up = refl; down = refl; held = refl; step = refl; drives = refl })) (quiet_same after.0 after.1)
upstream_piece {s = s} moment founds.Failed none after = piece_call (finds Entry founds.Failed s (with_held (holds Entry None) (moved_on s)) (failed_aside Entry) none (no_bytes Entry) (record { node = refl; up = refl; down = refl; held = refl; step = refl; drives = refl })) (quiet_same after.0 after.1)

downstream_piece : {rules : Rules} {s t : RunState} {log : List ℕ} (moment : ℤ) (found : GotBytes) → s.held.finding ≡ None → AfterDownstream rules moment found (moved_on s) t log → Piece None rules s t (Polls ways.Downstream room_bytes found ∷ []) log
downstream_piece {rules} {s} {t} {log} moment founds.Arrived none after =
    piece_call (arrives opens_exit Exit s none exit_alone)
    (accepted_behind (takes_part (may_of s.node inputs.Accepted) rules moment inputs.Accepted (with_wire ways.Downstream wires.Stands (moved_on s)) (moved_on s) t log refl (λ told. refl) refl (record { node = refl; up = refl; down = refl; held = refl; step = refl; drives = refl }) after))
downstream_piece {rules} {s} {t} {log} moment founds.Second none after =
    piece_call (finds Exit founds.Second s (moved_on s) (second_aside Exit) none (silent_before s none) (record { node = refl; up = refl; down = refl; held = refl; step = refl; drives = refl })) (part_behind (meets_part rules moment (moved_on s) t log after))
downstream_piece {s = s} moment (founds.Bytes bytes) none after = piece_call (gives Exit bytes s none) (quiet_same after.0 after.1)
downstream_piece {s = s} moment founds.NotYet none after = piece_call (finds Exit founds.NotYet s (moved_on s) (none_aside Exit) none (silent_before s none) (record { node = refl; up = refl; down = refl; held = refl; step = refl; drives = refl })) (quiet_same after.0 after.1)
downstream_piece {s = s} moment founds.Closed none after = piece_call (finds Exit founds.Closed s (with_held (holds Exit None) (moved_on s)) (closed_aside Exit) none (no_bytes Exit) (record { node = refl; up = refl; down = refl; held = refl; step = refl; drives = refl })) (quiet_same after.0 after.1)
downstream_piece {s = s} moment founds.Failed none after = piece_call (finds Exit founds.Failed s (with_held (holds Exit None) (moved_on s)) (failed_aside Exit) none (no_bytes Exit) (record { node = refl; up = refl; down = refl; held = refl; step = refl; drives = refl })) (quiet_same after.0 after.1)

poll_piece : {rules : Rules} {s t : RunState} {log : List ℕ} (moment : ℤ) (way : Way) (found : GotBytes) → s.held.finding ≡ None → AfterPoll rules moment way found (moved_on s) t log → Piece None rules s t (Polls way room_bytes found ∷ []) log
poll_piece {rules} {s} {t} {log} moment ways.Panel found none after = piece_call (called_aside (panel_poll_aside found) same_moved) (part_behind (panel_part rules found (moved_on s) t log after))
poll_piece moment ways.Upstream found none after = upstream_piece moment found none after
poll_piece moment ways.Downstream found none after = downstream_piece moment found none after
poll_piece {rules} {s} {t} {log} moment ways.Supervisory found none after =
    piece_call (called_aside (supervisory_poll_aside found) same_moved) (quiet_behind (tells_none rules log after.1) (same_is after.0 (supervisory_same moment found (moved_on s))))
poll_piece {rules} {s} {t} {log} moment ways.Configuration found none after =
    piece_call (called_aside (configuration_poll_aside found) same_moved) (quiet_behind (tells_none rules log after.1) (same_is after.0 (configuration_same moment found (moved_on s))))

-- ---- sends

took : (said taken unsent : List ℕ) (n : ℕ) → said ≡ taken ++ unsent → said ≡ (taken ++ take n unsent) ++ drop n unsent
took said taken unsent n is = is ∙ ap (λ (text : List ℕ). taken ++ text) (sym (take-append-drop n unsent)) ∙ sym (append_assoc taken (take n unsent) (drop n unsent))

took_none : (said taken unsent : List ℕ) → said ≡ taken ++ unsent → said ≡ (taken ++ []) ++ unsent
took_none said taken unsent is = is ∙ ap (λ (text : List ℕ). text ++ unsent) (sym (append-nil taken))

node_sent : (way : Way) (sent : Sent) (s : RunState) → (after_send way sent s).node ≡ s.node
node_sent ways.Panel (sents.Took n) s = refl
node_sent ways.Upstream (sents.Took n) s = refl
node_sent ways.Downstream (sents.Took n) s = refl
node_sent ways.Supervisory (sents.Took n) s = refl
node_sent ways.Configuration (sents.Took n) s = refl
node_sent way sents.NotYet s = refl
node_sent ways.Panel sents.Closed s = refl
node_sent ways.Upstream sents.Closed s = refl
node_sent ways.Downstream sents.Closed s = refl
node_sent ways.Supervisory sents.Closed s = refl
node_sent ways.Configuration sents.Closed s = refl
node_sent ways.Panel sents.Failed s = refl
node_sent ways.Upstream sents.Failed s = refl
node_sent ways.Downstream sents.Failed s = refl
node_sent ways.Supervisory sents.Failed s = refl
node_sent ways.Configuration sents.Failed s = refl

held_sent : (way : Way) (sent : Sent) (s : RunState) → (after_send way sent s).held.finding ≡ s.held.finding
held_sent ways.Panel (sents.Took n) s = refl
held_sent ways.Upstream (sents.Took n) s = refl
held_sent ways.Downstream (sents.Took n) s = refl
held_sent ways.Supervisory (sents.Took n) s = refl
held_sent ways.Configuration (sents.Took n) s = refl
held_sent way sents.NotYet s = refl
held_sent ways.Panel sents.Closed s = refl
held_sent ways.Upstream sents.Closed s = refl
held_sent ways.Downstream sents.Closed s = refl
held_sent ways.Supervisory sents.Closed s = refl
held_sent ways.Configuration sents.Closed s = refl
held_sent ways.Panel sents.Failed s = refl
held_sent ways.Upstream sents.Failed s = refl
held_sent ways.Downstream sents.Failed s = refl
held_sent ways.Supervisory sents.Failed s = refl
held_sent ways.Configuration sents.Failed s = refl

sent_pending : (way : Way) (sent : Sent) (s : RunState) (at : Side) {given heard : List ℕ} → Pending false at s given heard → Pending false at (after_send way sent (moved_on s)) given heard
sent_pending way sent s at {given} {heard} (all_heard is) = all_heard (is ∙ ap (λ (f : Option Finding). heard ++ held_for at f) (sym (held_sent way sent (moved_on s))))
sent_pending way sent s at (cut_off plain front closed) = cut_off refl front (ap (λ (n : NodeState). is_open at n.lane.body) (node_sent way sent (moved_on s)) ∙ closed)

-- what a side's own way takes
own_sent : (at : Side) (sent : Sent) (s : RunState) (c : Connection) → Holds false at s c → Holds false at (after_send (way_of at) sent (moved_on s)) (call_does (way_of at) (Sends (way_of at) (way_at (way_of at) s).unsent sent) c)
own_sent Entry (sents.Took n) s c kept = record { sent = took c.said c.taken s.upstream.unsent n kept.sent; heard = sent_pending ways.Upstream (sents.Took n) s Entry kept.heard }
own_sent Exit (sents.Took n) s c kept = record { sent = took c.said c.taken s.downstream.unsent n kept.sent; heard = sent_pending ways.Downstream (sents.Took n) s Exit kept.heard }
own_sent Entry sents.NotYet s c kept = record { sent = took_none c.said c.taken s.upstream.unsent kept.sent; heard = sent_pending ways.Upstream sents.NotYet s Entry kept.heard }
own_sent Exit sents.NotYet s c kept = record { sent = took_none c.said c.taken s.downstream.unsent kept.sent; heard = sent_pending ways.Downstream sents.NotYet s Exit kept.heard }
own_sent Entry sents.Closed s c kept = record { sent = took_none c.said c.taken s.upstream.unsent kept.sent; heard = sent_pending ways.Upstream sents.Closed s Entry kept.heard }
own_sent Exit sents.Closed s c kept = record { sent = took_none c.said c.taken s.downstream.unsent kept.sent; heard = sent_pending ways.Downstream sents.Closed s Exit kept.heard }
own_sent Entry sents.Failed s c kept = record { sent = took_none c.said c.taken s.upstream.unsent kept.sent; heard = sent_pending ways.Upstream sents.Failed s Entry kept.heard }
own_sent Exit sents.Failed s c kept = record { sent = took_none c.said c.taken s.downstream.unsent kept.sent; heard = sent_pending ways.Downstream sents.Failed s Exit kept.heard }

-- and what another way takes
abbrev IsOther : Side → Way → Type 0
IsOther Entry ways.Upstream = ⊥
IsOther Exit ways.Downstream = ⊥
IsOther side way = Unit {0}

other_unsent : (at : Side) (way : Way) (sent : Sent) (s : RunState) → IsOther at way → (way_at (way_of at) (after_send way sent s)).unsent ≡ (way_at (way_of at) s).unsent
other_unsent Entry ways.Upstream sent s other = absurd other
other_unsent Exit ways.Downstream sent s other = absurd other
other_unsent at way sents.NotYet s other = refl
other_unsent Entry ways.Panel (sents.Took n) s other = refl
other_unsent Entry ways.Panel sents.Closed s other = refl
other_unsent Entry ways.Panel sents.Failed s other = refl
other_unsent Entry ways.Downstream (sents.Took n) s other = refl
other_unsent Entry ways.Downstream sents.Closed s other = refl
other_unsent Entry ways.Downstream sents.Failed s other = refl
other_unsent Entry ways.Supervisory (sents.Took n) s other = refl
other_unsent Entry ways.Supervisory sents.Closed s other = refl
other_unsent Entry ways.Supervisory sents.Failed s other = refl
other_unsent Exit ways.Panel (sents.Took n) s other = refl
other_unsent Exit ways.Panel sents.Closed s other = refl
other_unsent Exit ways.Panel sents.Failed s other = refl
other_unsent Exit ways.Upstream (sents.Took n) s other = refl
other_unsent Exit ways.Upstream sents.Closed s other = refl
other_unsent Exit ways.Upstream sents.Failed s other = refl
other_unsent Exit ways.Supervisory (sents.Took n) s other = refl
other_unsent Exit ways.Supervisory sents.Closed s other = refl
other_unsent Exit ways.Supervisory sents.Failed s other = refl
other_unsent Entry ways.Configuration (sents.Took n) s other = refl
other_unsent Entry ways.Configuration sents.Closed s other = refl
other_unsent Entry ways.Configuration sents.Failed s other = refl
other_unsent Exit ways.Configuration (sents.Took n) s other = refl
other_unsent Exit ways.Configuration sents.Closed s other = refl
other_unsent Exit ways.Configuration sents.Failed s other = refl

other_call : (at : Side) (way : Way) (piece : List ℕ) (sent : Sent) (c : Connection) → IsOther at way → call_does (way_of at) (Sends way piece sent) c ≡ c
other_call Entry ways.Upstream piece sent c other = absurd other
other_call Exit ways.Downstream piece sent c other = absurd other
other_call Entry ways.Panel piece sent c other = refl
other_call Entry ways.Downstream piece sent c other = refl
other_call Entry ways.Supervisory piece sent c other = refl
other_call Exit ways.Panel piece sent c other = refl
other_call Exit ways.Upstream piece sent c other = refl
other_call Exit ways.Supervisory piece sent c other = refl
other_call Entry ways.Configuration piece sent c other = refl
other_call Exit ways.Configuration piece sent c other = refl

moved_unsent : (at : Side) (s : RunState) → (way_at (way_of at) (moved_on s)).unsent ≡ (way_at (way_of at) s).unsent
moved_unsent Entry s = refl
moved_unsent Exit s = refl

other_sent : (at : Side) (way : Way) (sent : Sent) (s : RunState) (c : Connection) → IsOther at way → Holds false at s c → Holds false at (after_send way sent (moved_on s)) (call_does (way_of at) (Sends way (way_at way s).unsent sent) c)
other_sent at way sent s c other kept = subst (λ (d : Connection). Holds false at (after_send way sent (moved_on s)) d) (sym (other_call at way (way_at way s).unsent sent c other)) (record {
  sent = kept.sent ∙ ap (λ (text : List ℕ). c.taken ++ text) (sym (other_unsent at way sent (moved_on s) other ∙ moved_unsent at s));
  heard = sent_pending way sent s at kept.heard;
})

sent_holds : (at : Side) (way : Way) (sent : Sent) (s : RunState) (c : Connection) → Holds false at s c → Holds false at (after_send way sent (moved_on s)) (call_does (way_of at) (Sends way (way_at way s).unsent sent) c)
sent_holds Entry ways.Upstream sent s c kept = own_sent Entry sent s c kept
sent_holds Exit ways.Downstream sent s c kept = own_sent Exit sent s c kept
sent_holds Entry ways.Panel sent s c kept = other_sent Entry ways.Panel sent s c tt kept
sent_holds Entry ways.Downstream sent s c kept = other_sent Entry ways.Downstream sent s c tt kept
sent_holds Entry ways.Supervisory sent s c kept = other_sent Entry ways.Supervisory sent s c tt kept
sent_holds Exit ways.Panel sent s c kept = other_sent Exit ways.Panel sent s c tt kept
sent_holds Exit ways.Upstream sent s c kept = other_sent Exit ways.Upstream sent s c tt kept
sent_holds Exit ways.Supervisory sent s c kept = other_sent Exit ways.Supervisory sent s c tt kept
sent_holds Entry ways.Configuration sent s c kept = other_sent Entry ways.Configuration sent s c tt kept
sent_holds Exit ways.Configuration sent s c kept = other_sent Exit ways.Configuration sent s c tt kept

drives_way : (way : Way) (value : WayValue) (s : RunState) → (with_way way value s).drives ≡ s.drives
drives_way ways.Panel value s = refl
drives_way ways.Upstream value s = refl
drives_way ways.Downstream value s = refl
drives_way ways.Supervisory value s = refl
drives_way ways.Configuration value s = refl

drives_sent : (way : Way) (sent : Sent) (s : RunState) → (after_send way sent s).drives ≡ s.drives
drives_sent way (sents.Took n) s = drives_way way _ s
drives_sent way sents.NotYet s = refl
drives_sent way sents.Closed s = drives_way way _ s
drives_sent way sents.Failed s = drives_way way _ s

send_piece : {rules : Rules} (way : Way) (sent : Sent) (s : RunState) → Piece None rules s (after_send way sent (moved_on s)) (Sends way (way_at way s).unsent sent ∷ []) []
send_piece way sent s = piece_call (record { node = node_sent way sent (moved_on s); step = step_of_send way sent (moved_on s); drives = drives_sent way sent (moved_on s); keeps = λ at c kept. sent_holds at way sent s c kept }) (quiet_same refl refl)

-- ---- closes

panel_close_aside : (at : Side) (c : Connection) → call_does (way_of at) (Closes ways.Panel) c ≡ c
panel_close_aside Entry c = refl
panel_close_aside Exit c = refl

supervisory_close_aside : (at : Side) (c : Connection) → call_does (way_of at) (Closes ways.Supervisory) c ≡ c
supervisory_close_aside Entry c = refl
supervisory_close_aside Exit c = refl

configuration_close_aside : (at : Side) (c : Connection) → call_does (way_of at) (Closes ways.Configuration) c ≡ c
configuration_close_aside Entry c = refl
configuration_close_aside Exit c = refl

-- a way that is closed has nothing said and taken any more; what was found is as it was
found_stays : {s u : RunState} {given heard : List ℕ} (at : Side) → u.node ≡ s.node → u.held.finding ≡ s.held.finding → Pending false at s given heard → Pending false at u given heard
found_stays {heard = heard} at node held (all_heard is) = all_heard (is ∙ ap (λ (f : Option Finding). heard ++ held_for at f) (sym held))
found_stays at node held (cut_off plain front closed) = cut_off refl front (ap (λ (n : NodeState). is_open at n.lane.body) node ∙ closed)

upstream_closed : (s : RunState) → Called none_opens s (record s { upstream = at_rest }) (Closes ways.Upstream)
upstream_closed s = record { node = refl; step = refl; drives = refl; keeps = λ at c kept. kept_by at c kept } where
  kept_by : (at : Side) (c : Connection) → Holds false at s c → Holds false at (record s { upstream = at_rest }) (call_does (way_of at) (Closes ways.Upstream) c)
  kept_by Entry c kept = record { sent = refl; heard = found_stays Entry refl refl kept.heard }
  kept_by Exit c kept = record { sent = kept.sent; heard = found_stays Exit refl refl kept.heard }

downstream_closed : (s : RunState) → Called none_opens s (record s { downstream = at_rest }) (Closes ways.Downstream)
downstream_closed s = record { node = refl; step = refl; drives = refl; keeps = λ at c kept. kept_by at c kept } where
  kept_by : (at : Side) (c : Connection) → Holds false at s c → Holds false at (record s { downstream = at_rest }) (call_does (way_of at) (Closes ways.Downstream) c)
  kept_by Entry c kept = record { sent = kept.sent; heard = found_stays Entry refl refl kept.heard }
  kept_by Exit c kept = record { sent = refl; heard = found_stays Exit refl refl kept.heard }

close_piece : {rules : Rules} {s t : RunState} {log : List ℕ} (moment : ℤ) (way : Way) → AfterClose rules moment way s t log → Piece None rules s t (Closes way ∷ []) log
close_piece {rules} {s} {t} {log} moment ways.Panel after = piece_call (called_aside panel_close_aside (record { node = refl; up = refl; down = refl; held = refl; step = refl; drives = refl })) (quiet_same after.0 after.1)
close_piece {rules} {s} {t} {log} moment ways.Upstream after =
    piece_call (upstream_closed s)
    (part_behind (takes_part (may_of s.node (inputs.Notice Entry)) rules moment (inputs.Notice Entry) (record s { upstream = at_rest }) (record s { upstream = at_rest }) t log tt (λ told. refl) refl same_self after))
close_piece {rules} {s} {t} {log} moment ways.Downstream after =
    piece_call (downstream_closed s)
    (part_behind (takes_part (may_of s.node (inputs.Notice Exit)) rules moment (inputs.Notice Exit) (record s { downstream = at_rest }) (record s { downstream = at_rest }) t log tt (λ told. refl) refl same_self after))
close_piece {rules} {s} {t} {log} moment ways.Supervisory after =
    piece_call (called_aside supervisory_close_aside (record { node = refl; up = refl; down = refl; held = refl; step = refl; drives = refl }))
    (part_behind (unsupervised_part rules moment (record s { supervisory = at_rest; channel = no_session }) (record s { supervisory = at_rest; channel = no_session }) t log same_self after))
close_piece {rules} {s} {t} {log} moment ways.Configuration after = piece_call (called_aside configuration_close_aside (record { node = refl; up = refl; down = refl; held = refl; step = refl; drives = refl })) (quiet_same after.0 after.1)

-- ---- a listen inside a turn

try_piece : {rules : Rules} {s t : RunState} {log : List ℕ} (moment : ℤ) (settings : Settings) (opened : Opened) → AfterTry opened moment settings s t → log ≡ [] → Piece None rules s t (Listens ways.Downstream (at_all settings.port) opened ∷ []) log
try_piece {rules} {s} {t} {log} moment settings opened after none =
    piece_call (called_aside (listen_aside ways.Downstream (at_all settings.port) opened) (try_same opened moment settings s t after)) (quiet_behind (tells_none rules log none) same_self)

-- ---- the reset of a side

-- its neighbour is told why, behind all that was said there before
left_holds : (moment : ℤ) (side : Side) (s : RunState) (at : Side) (c : Connection) → Holds false at s c → Holds false at (leaving moment side (reset_begun side s)) (does at (says side (reset_text moment)) c)
left_holds moment Entry s Entry c kept = record { sent = ap (λ (text : List ℕ). text ++ reset_text moment) kept.sent ∙ append_assoc c.taken s.upstream.unsent (reset_text moment); heard = found_stays Entry refl refl kept.heard }
left_holds moment Exit s Exit c kept = record { sent = ap (λ (text : List ℕ). text ++ reset_text moment) kept.sent ∙ append_assoc c.taken s.downstream.unsent (reset_text moment); heard = found_stays Exit refl refl kept.heard }
left_holds moment Entry s Exit c kept = record { sent = append-nil c.said ∙ kept.sent; heard = found_stays Exit refl refl kept.heard }
left_holds moment Exit s Entry c kept = record { sent = append-nil c.said ∙ kept.sent; heard = found_stays Entry refl refl kept.heard }

notice_dry : (side at : Side) → heard_by at (inputs.Notice side) ≡ []
notice_dry side Entry = refl
notice_dry side Exit = refl

notice_plain : (side at : Side) → opens_at at (inputs.Notice side) ≡ false
notice_plain side Entry = refl
notice_plain side Exit = refl

same_begun : (side : Side) (s : RunState) → Same s (reset_begun side s)
same_begun Entry s = record { node = refl; up = refl; down = refl; held = refl; step = refl; drives = refl }
same_begun Exit s = record { node = refl; up = refl; down = refl; held = refl; step = refl; drives = refl }

left_node : (moment : ℤ) (side : Side) (s : RunState) → (leaving moment side (reset_begun side s)).node ≡ s.node
left_node moment Entry s = refl
left_node moment Exit s = refl

left_step : (moment : ℤ) (side : Side) (s : RunState) → (leaving moment side (reset_begun side s)).step ≡ s.step
left_step moment Entry s = refl
left_step moment Exit s = refl

left_drives : (moment : ℤ) (side : Side) (s : RunState) → (leaving moment side (reset_begun side s)).drives ≡ s.drives
left_drives moment Entry s = refl
left_drives moment Exit s = refl

left_piece : {rules : Rules} {s t : RunState} {log : List ℕ} (moment : ℤ) (side : Side) → may_of s.node (inputs.Notice side) ≡ may_do → (st : Stepped rules (inputs.Notice side) (leaving moment side (reset_begun side s)) t log)
    → Steps s.node [] (inputs.Notice side) moment t.node st.told → t.step ≡ one_more (entry_of [] (inputs.Notice side) moment) s.step → Piece (Some side) rules s t [] log
left_piece {rules} {s} {t} {log} moment side may st made counted = record {
  more = says side (reset_text moment) ∷ steps (inputs.Notice side) st.told ∷ [];
  along = a_reset refl counted may made (st.drives ∙ ap (λ (d : Drives). drives_after d st.told) (left_drives moment side s));
  tells = tells_step st;
  keeps = λ at c kept. (
      let told : Holds false at (leaving moment side (reset_begun side s)) (does at (says side (reset_text moment)) c) = left_holds moment side s at c kept in
      let behind = step_holds at st (notice_dry side at) (subst (λ (o : Bool). Holds o at (leaving moment side (reset_begun side s)) (does at (says side (reset_text moment)) c)) (sym (notice_plain side at)) told) in
      ((in_order kept, (in_order told, in_order behind)), behind));
}

-- a side that has no connection is reset without a word
unreset_piece : {resets : Option Side} {rules : Rules} {s t : RunState} {log : List ℕ} → Tells rules log [] → Same s t → Piece resets rules s t [] log
unreset_piece tells same = record {
  more = [];
  along = no_step same.step same.node same.drives;
  tells = tells;
  keeps = λ at c kept. (in_order kept, same_holds same kept);
}

reset_by : {rules : Rules} {s t : RunState} {log : List ℕ} (may : Result (Unit {0}) No) (moment : ℤ) (side : Side) → may_of s.node (inputs.Notice side) ≡ may
    → Takes may rules moment (inputs.Notice side) (leaving moment side (reset_begun side s)) (reset_begun side s) t log → Piece (Some side) rules s t [] log
reset_by {rules} {s} {t} {log} (Ok done) moment side may takes =
    let u : RunState = leaving moment side (reset_begun side s) in
    let node : u.node ≡ s.node = left_node moment side s in
    left_piece moment side may (step_part false rules moment [] (inputs.Notice side) u t log (λ told. refl) (ap (λ (n : NodeState). may_of n (inputs.Notice side)) node ∙ may) takes)
    (subst (λ (n : NodeState). Steps n [] (inputs.Notice side) moment t.node takes.told) node (subst (λ (n : NodeState). Steps u.node [] (inputs.Notice side) moment n takes.told) (sym (ap (λ (r : RunState). r.node) takes.after)) takes.steps))
    (ap (λ (r : RunState). r.step) takes.after ∙ ap (one_more (entry_of [] (inputs.Notice side) moment)) (left_step moment side s))
reset_by {rules} {s} {t} {log} (Err why) moment side may takes = unreset_piece (tells_none rules log takes.1) (same_is takes.0 (same_begun side s))

reset_piece : {rules : Rules} {s t : RunState} {log : List ℕ} (moment : ℤ) (side : Side) → ResetsSide rules moment side s t log → Piece (Some side) rules s t [] log
reset_piece {rules} {s} {t} {log} moment side resets = reset_by (may_of s.node (inputs.Notice side)) moment side refl resets

-- ---- A MOVE

-- a move of which it is known what comes next
placed : {rules : Rules} {s t : RunState} {given : List Given} {log : List ℕ} {next : Next} → next_of rules s ≡ next → Piece (reset_of next) rules s t given log → Piece (reset_of (next_of rules s)) rules s t given log
placed {rules} {s} {t} {given} {log} is piece = subst (λ (n : Next). Piece (reset_of n) rules s t given log) (sym is) piece

pub move_piece : {rules : Rules} {moment : ℤ} {s t : RunState} {given : List Given} {log : List ℕ} → Moves rules moment s given t log → Piece (reset_of (next_of rules s)) rules s t given log
move_piece (listens {s} {way} {address} {opened} next) = placed next (piece_call (called_aside (listen_aside way address opened) (listened_same address opened s)) (quiet_same refl refl))
move_piece (connects {s} {address} {opened} next) = placed next (piece_call (called_aside (connect_aside ways.Upstream address opened) (record { node = refl; up = refl; down = refl; held = refl; step = refl; drives = refl })) (quiet_same refl refl))
move_piece {rules} {moment} (polls {s} {t} {way} {got} {log} next done) = placed next (poll_piece moment way got (none_held rules s way next) done)
move_piece (sends {s} {way} {sent} next) = placed next (send_piece way sent s)
move_piece (refuses_second {s} {refusal} {sent} next is) = placed next (piece_call (called_aside (refuse_aside refusal.way refusal.text sent) (record { node = refl; up = refl; down = refl; held = refl; step = refl; drives = refl })) (quiet_same refl refl))
move_piece {rules} {moment} (closes {s} {t} {way} {log} next done) = placed next (close_piece moment way done)
move_piece (skips {s} next) = placed next (piece_none (quiet_behind (tells_none _ [] refl) same_moved))
move_piece {rules} {moment} (looks_again {s} {t} {got} {log} next done) = placed next (piece_call (called_aside (panel_poll_aside got) (record { node = refl; up = refl; down = refl; held = refl; step = refl; drives = refl })) (part_behind (panel_part rules got (looked got s) t log done)))
move_piece {rules} {moment} (takes_held {s} {t} {log} next done) = placed next (piece_none (held_behind moment done))
move_piece {rules} {moment} (does_line {s} {t} {log} next done) = placed next (piece_none (part_behind (cut_part (cut_line s.rest) rules moment s t log done)))
move_piece {rules} {moment} (does_hear {s} {t} {log} next done) = placed next (piece_none (part_behind (hear_part rules moment s t log done)))
move_piece {rules} {moment} (does_config {s} {t} {log} next done none) = placed next (piece_none (quiet_behind (tells_none rules log none) (config_same moment s t done)))
move_piece {rules} {moment} (tries_port {s} {t} {settings} {opened} {log} next done none) = placed next (try_piece moment settings opened done none)
move_piece {rules} {moment} (resets_side {s} {t} {side} {log} next done) = placed next (reset_piece moment side done)

-- NO FALSE BLAME: behind each line of a script what flows to each side is said by the other end or was spoiled, and in each a
-- breach is told only of a side to which what flowed was spoiled.
use Rattle.std.proofs.Common.{List, Ok, Option, Result, Some, [], ap, arith, false, inl, inr, length, not, refl, subst, suc, sym, take, true, zero, ℕ, ◌++◌, ◌+◌, ◌-◌, ◌∙◌, ◌∷◌, ◌≡◌, ◌≢◌, ◌≤◌, ◌⊎◌, Bool}
use Rattle.std.specs.Prelude.{slice_index_or}
use Rattle.std.proofs.lemmas.Bool.{false≢true}
use Rattle.std.specs.List.{AllByRecursion}
use Rattle.line_base.specs.declared.states.Role.TheVariants.{Downstream, Upstream}
use Rattle.line_base.specs.declared.states.Side.{Side}
use Rattle.line_base.specs.declared.states.Side.TheVariants.{Entry, Exit}
use Rattle.hermes_stream.specs.Frames.{NeedMore, answer_of}
use Rattle.line_link.specs.Link.{LinkParts, connected_of, cut, nulled}
use Rattle.line_link.specs.declared.link.Connected.{Connected}
use Rattle.line_link.specs.declared.link.Connected.TheVariants as connections
use Rattle.line_report.specs.declared.happening.Happening.{Happening}
use Rattle.line_report.specs.declared.happening.Happening.TheVariants as happenings
use Rattle.session_core.specs.End.{is_standing_state}
use Rattle.session_core.specs.declared.state.SessionState.{SessionState}
use Rattle.session_core.specs.declared.state.SessionState.TheVariants.{Handshake, NotConnected, Standing}
use Rattle.node_core.specs.May.{may_do as may_own, no_if}
use Rattle.node_core.specs.Sides.{is_standing}
use Rattle.node_core.specs.declared.input.No.{No}
use Rattle.node_core.specs.declared.input.No.TheVariants as no
use Rattle.node_core.specs.Node.{NodeState, new_node}
use Rattle.node_core.specs.Step.{entry_after, exit_after}
use Rattle.node_core.specs.declared.input.Input.{Input}
use Rattle.node_core.specs.declared.input.Input.TheVariants as inputs
use Rattle.law_link_messages.specs.Fit.{IsFitInput}
use Rattle.line_step.specs.Lines.{Connects, Flows, LineSteps, cut_in, lied, met, moved, spoiled, unseen}
use Rattle.line_step.specs.Numbered.{Stand, no_node, node_at}
use Rattle.line_step.specs.Reasons.{may_do, may_flow}
use Rattle.line_step.specs.Tracks.{TrackLine, TrackSteps, IsBeside, other_line, own_line}
use Rattle.line_step.specs.Runs.{IsRun, Point, IsShort}
use Rattle.line_step.specs.Shown.{standings_told}
use Rattle.line_step.specs.State.{LineState, machine_in, no_line, one_more, profile_of}
use Rattle.line_step.specs.Steps.{MachineSteps, is_second, read_by}
use Rattle.line_step.specs.Together.{IsLineTogether}
use Rattle.line_step.specs.World.{link_at, link_of}
use Rattle.node_core.specs.declared.lane.Lane.{Lane}
use Rattle.line_step.proofs.Beside.{beside-lane}
use Rattle.line_step.proofs.Changing.{more_changes}
use Rattle.line_step.proofs.Keeps.{does_together, more_at}
use Rattle.line_step.proofs.Numbers.{link_beyond, machine_within, same_or_not}
use Rattle.law_one_standing.specs.Blame.{AreBlamesTrue, IsBlameTrue, NoFalseBlame, WasSpoiled}
use Rattle.law_one_standing.specs.Carried.{Trace}
use Rattle.law_one_standing.specs.Links.{AreWholeLinks}
use Rattle.law_one_standing.specs.Standing.{IsFitRequest, IsFitTrack}
use Rattle.law_one_standing.specs.Stands.{Stands}
use Rattle.law_one_standing.specs.Told.{IsTold, told_first}
use Rattle.law_one_standing.specs.Waits.{AreWaiting}
use Rattle.law_one_standing.proofs.ApartStep.{told_before, told_behind}
use Rattle.law_one_standing.proofs.BlameFlows.{flow_clear, flow_mild}
use Rattle.law_one_standing.proofs.BlameFree.{freed}
use Rattle.law_one_standing.proofs.BlameJoins.{connects_clear, same_entry, same_exit}
use Rattle.law_one_standing.proofs.LineMoves.{less_one}
use Rattle.law_one_standing.proofs.BlameLinks.{AreClear, IsClear, are_clear_by, are_clear_map, are_clear_ready, are_clear_with, clear_cut, clear_limit, clear_no_link, clear_nulled_down, clear_nulled_up, none_free}
use Rattle.step_rules.proofs.BlameReady.{is_ready, is_ready_state}
use Rattle.law_one_standing.proofs.BlameSteps.{AreClearIn, AreMildAt, IsFree, NewBytes, both_ready, calls, entries_of, exits_of, frees_by, frees_there, is_bytes, new_bytes, quiet_fit, quiet_mild, ready_of, step_clear}
use Rattle.law_one_standing.proofs.BlameTold.{AllBlames, acts_blame, blame_told, both_blame, no_acts_blame, remarks_blame}
use Rattle.law_one_standing.proofs.Carrying.{SaysAlone}
use Rattle.law_one_standing.proofs.FactsBlame.{Leave, at_none}
use Rattle.law_one_standing.proofs.LedgerLine.{last_node, no_last, same_nodes}
use Rattle.law_one_standing.proofs.LineForms.{ConnectsBear, numbered as by_number}
use Rattle.law_one_standing.proofs.LineRun.{AreStood, Stood, none_stood, run_stood}
use Rattle.law_one_standing.proofs.MirroringFlow.{can_flow}
use Rattle.law_one_standing.proofs.MirroringPlain.{is_plain_input, no_second}
use Rattle.law_one_standing.proofs.SpoilingLine.{spoil_needs}
use Rattle.law_one_standing.proofs.WholeLinks.{CanSpoil, can_spoil, does_whole_links}
use Rattle.line_step.proofs.Remarks.{all_pass, standings_remarks}
use Rattle.line_step.specs.Requests.{Request, may_get}
use Rattle.line_step.proofs.Giving.{IsGiven}
use Rattle.line_step.proofs.Effects.{Effect, added_remarks, becomes_by, line_effect}
use Rattle.law_one_standing.proofs.GivenPlain.{given_plain}
use Rattle.line_step.proofs.Turns.{LineTurns, line_turns}
use Rattle.line_step.proofs.Getting.{get_may}
use Rattle.line_step.proofs.Effects as effects
use Rattle.line_step.proofs.Turns as turns

-- ---- what was spoiled, by the link and the side to which it flowed

abbrev TaintBy : List Happening → ℕ → Side → Type 0
TaintBy past link Exit = WasSpoiled past link Exit
TaintBy past link Entry = WasSpoiled past (link + 1) Entry

taint_here : (past : List Happening) (m : ℕ) (side : Side) → 1 ≤ m → TaintBy past (link_of m side) side → WasSpoiled past m side
taint_here past m Exit counted is = is
taint_here past m Entry counted is = subst (λ (n : ℕ). WasSpoiled past n Entry) (less_one m counted) is

taint_there : (past : List Happening) (m : ℕ) (side : Side) → 1 ≤ m → WasSpoiled past m side → TaintBy past (link_of m side) side
taint_there past m Exit counted is = is
taint_there past m Entry counted is = subst (λ (n : ℕ). WasSpoiled past n Entry) (sym (less_one m counted)) is

taint_more : (past more : List Happening) (link : ℕ) (side : Side) → TaintBy past link side → TaintBy (past ++ more) link side
taint_more past more link Exit is = told_before more is
taint_more past more link Entry is = told_before more is

-- ---- a line whose machines and links are the same

links_clear : {Taint : ℕ → Side → Type 0} (s t : LineState) → ((k : ℕ) → link_at k t.world ≡ link_at k s.world) → AreClear Taint (ready_of s) none_free (exits_of s) (entries_of s) s.world → AreClear Taint (ready_of s) none_free (exits_of s) (entries_of s) t.world
links_clear {Taint} s t links all = record { at = λ k. subst (λ (l : LinkParts). IsClear (Taint k Exit) (Taint k Entry) (ready_of s k) (none_free k) (exits_of s k) (entries_of s k) l) (sym (links k)) (all.at k) }

same_ready : (s t : LineState) → t.machines ≡ s.machines → (link : ℕ) (side : Side) → ready_of s link side ≡ true → ready_of t link side ≡ true
same_ready s t nodes link Exit is = ap (λ (n : NodeState). is_ready Exit n.lane.body) (same_nodes s t nodes link) ∙ is
same_ready s t nodes link Entry is = ap (λ (n : NodeState). is_ready Entry n.lane.body) (same_nodes s t nodes (link + 1)) ∙ is

same_bytes : {Taint : ℕ → Side → Type 0} (s t : LineState) → t.machines ≡ s.machines → AreClear Taint (ready_of s) none_free (exits_of s) (entries_of s) t.world → AreClearIn Taint t
same_bytes s t nodes all =
    are_clear_by t.world (λ k. ap (λ (n : NodeState). n.lane.exit_bytes) (same_nodes s t nodes k)) (λ k. ap (λ (n : NodeState). n.lane.entry_bytes) (same_nodes s t nodes (k + 1)))
    (are_clear_ready (ready_of t) t.world (same_ready s t nodes) all)

same_clear : {Taint : ℕ → Side → Type 0} (s t : LineState) → t.machines ≡ s.machines → ((k : ℕ) → link_at k t.world ≡ link_at k s.world) → AreClearIn Taint s → AreClearIn Taint t
same_clear s t nodes links all = same_bytes s t nodes (links_clear s t links all)

-- ---- the forms

-- what is had of a line
record Given (Taint : ℕ → Side → Type 0) (number : ℕ) (t : Trace) (before next : LineState) (told : List Happening) : Type 0 where
  alone : SaysAlone
  few : number ≤ 1000000
  holds : Stands t before
  waits : AreWaiting before
  whole : AreWholeLinks next
  together : IsLineTogether next
  all : AreClearIn Taint before

still_entry : (input : Input) (bytes : List ℕ) → is_plain_input input ≡ true → entry_after input bytes ≡ bytes
still_entry inputs.Connect bytes plain = absurd (false≢true plain)
still_entry _ bytes plain = refl

pub still_exit : (input : Input) (bytes : List ℕ) → is_plain_input input ≡ true → exit_after input bytes ≡ bytes
still_exit inputs.Accepted bytes plain = absurd (false≢true plain)
still_exit _ bytes plain = refl

not_called : (side : Side) (input : Input) → is_plain_input input ≡ true → calls side input ≡ false
not_called Entry inputs.Connect plain = absurd (false≢true plain)
not_called Entry _ plain = refl
not_called Exit inputs.Accepted plain = absurd (false≢true plain)
not_called Exit _ plain = refl

-- what is told or asked of a board is told or asked by a machine whose session stands
abbrev FreeAt : ℕ → Input → LineState → Type 0
FreeAt m input s = (node : NodeState) → machine_in m s ≡ Some node → IsFree (frees_by node.lane.body) input

plain_clear : {Taint : ℕ → Side → Type 0} (number m : ℕ) (input : Input) (t : Trace) (before next : LineState) (told : List Happening) → is_plain_input input ≡ true → is_bytes input ≡ false → IsFitInput input → FreeAt m input before → Given Taint number t before next told → MachineSteps number m input before next told → AreClearIn Taint next
plain_clear {Taint} number m input t before next told plain none fits free g steps =
    let new : NewBytes m input before next = new_bytes number m input before next told none steps in
    let may : Leave = record { blames = at_none; frees = frees_by steps.node.lane.body } in
    are_clear_by next.world (same_exit m input before next (λ bytes. still_exit input bytes plain) new) (λ k. same_entry m input before next (λ bytes. still_entry input bytes plain) new (k + 1))
    (are_clear_ready (ready_of next) next.world (both_ready number m input before next told steps (not_called Exit input plain) (not_called Entry input plain))
    (step_clear g.alone may number m input before next told steps (quiet_fit number m input before next told none fits g.few (g.holds.fit m) steps) (quiet_mild may number m input before next told none (free steps.node steps.there) steps)
    (frees_there m before steps.node steps.there) (λ second. absurd (false≢true (sym (no_second input plain) ∙ second))) g.holds.links (freed t before g.alone g.holds g.all)))

standing_first : (standing : Bool) (why : No) (next : Result (Unit {0}) No) → no_if (not standing) why next ≡ may_own → standing ≡ true
standing_first true why next is = refl
standing_first false why next is = cc

standing_ready : (state : SessionState) → is_standing_state state ≡ true → is_ready_state state ≡ true
standing_ready NotConnected is = absurd (false≢true is)
standing_ready Handshake is = absurd (false≢true is)
standing_ready Standing is = refl

forecast_free : (m : ℕ) (s : LineState) → may_get m inputs.Forecast s ≡ may_do → FreeAt m inputs.Forecast s
forecast_free m s may node there =
    standing_ready node.lane.body.exit.session.state (standing_first (is_standing Exit node.lane.body) no.NotStanding _ (get_may m inputs.Forecast s node there may))

query_free : (m : ℕ) (barcode : List ℕ) (s : LineState) → may_get m (inputs.Query barcode) s ≡ may_do → FreeAt m (inputs.Query barcode) s
query_free m barcode s may node there =
    standing_ready node.lane.body.entry.session.state (standing_first (is_standing Entry node.lane.body) no.NotStanding _ (get_may m (inputs.Query barcode) s node there may))

-- what a line gives says nothing of boards to the other but what it may
given_free : (m : ℕ) (input : Input) (s : LineState) → may_get m input s ≡ may_do → FreeAt m input s
given_free m inputs.Forecast s may = forecast_free m s may
given_free m (inputs.Query barcode) s may = query_free m barcode s may
given_free m _ s may = λ node there. tt

given_dry : (input : Input) → IsGiven input → is_bytes input ≡ false
given_dry (inputs.Bytes side piece) given = absurd given
given_dry _ given = refl

-- one machine more, with nothing that waits
pub more_same : {A : Type 0} (P : NodeState → A) (lane : ℕ) (is_bridge : Bool) (capacity used : ℕ) (s : LineState) → P (new_node (profile_of lane is_bridge (length s.machines + 1) capacity used)) ≡ P no_node → (k : ℕ) → P (node_at (one_more lane is_bridge capacity used s) k) ≡ P (node_at s k)
more_same {A} P lane is_bridge capacity used s none k = by (same_or_not k (length s.machines + 1)) where
  new : (n : ℕ) → n ≡ length s.machines → P (slice_index_or (one_more lane is_bridge capacity used s).machines n no_node) ≡ P (slice_index_or s.machines n no_node)
  new n is = rw is (rw (last_node s.machines (new_node (profile_of lane is_bridge (length s.machines + 1) capacity used)), no_last s.machines) none)

  by : (k ≡ length s.machines + 1) ⊎ (k ≢ length s.machines + 1) → P (node_at (one_more lane is_bridge capacity used s) k) ≡ P (node_at s k)
  by (inl is) =
      let next : k ≡ suc (length s.machines) = omega (arith, is) in
      subst (λ (m : ℕ). P (node_at (one_more lane is_bridge capacity used s) m) ≡ P (node_at s m)) (sym next) (new (length s.machines) refl)
  by (inr apart) = ap (λ (x : Stand). P x.node) ((more_changes lane is_bridge capacity used s).machines k apart)

more_ready : (lane : ℕ) (is_bridge : Bool) (capacity used : ℕ) (s : LineState) (link : ℕ) (side : Side) → ready_of s link side ≡ true → ready_of (one_more lane is_bridge capacity used s) link side ≡ true
more_ready lane is_bridge capacity used s link Exit is = more_same (λ (n : NodeState). is_ready Exit n.lane.body) lane is_bridge capacity used s refl link ∙ is
more_ready lane is_bridge capacity used s link Entry is = more_same (λ (n : NodeState). is_ready Entry n.lane.body) lane is_bridge capacity used s refl (link + 1) ∙ is

more_clear : {Taint : ℕ → Side → Type 0} (lane : ℕ) (is_bridge : Bool) (capacity used : ℕ) (s : LineState) → AreClearIn Taint s → AreClearIn Taint (one_more lane is_bridge capacity used s)
more_clear lane is_bridge capacity used s all =
    are_clear_by (one_more lane is_bridge capacity used s).world (more_same (λ (n : NodeState). n.lane.exit_bytes) lane is_bridge capacity used s refl) (λ k. more_same (λ (n : NodeState). n.lane.entry_bytes) lane is_bridge capacity used s refl (k + 1))
    (are_clear_ready (ready_of (one_more lane is_bridge capacity used s)) (one_more lane is_bridge capacity used s).world (more_ready lane is_bridge capacity used s) (links_clear s (one_more lane is_bridge capacity used s) (more_at lane is_bridge capacity used s) all))

cut_clear : {Taint : ℕ → Side → Type 0} (gap : ℕ) (s : LineState) → AreClearIn Taint s → AreClearIn Taint (cut_in gap s)
cut_clear {Taint} gap s all = same_bytes s (cut_in gap s) refl (are_clear_with gap (cut (link_at gap s.world)) s.world all (clear_cut (link_at gap s.world)))

spoil_clear : {Taint : ℕ → Side → Type 0} (m : ℕ) (side : Side) (t : Trace) (s : LineState) → Stands t s → AreWaiting s → CanSpoil m side s → 1 ≤ m → Taint (link_of m side) side → AreClearIn Taint s → AreClearIn Taint (spoiled m side s)
spoil_clear m Exit t s st waits can counted taint all =
    let L : LinkParts = link_at m s.world in
    same_bytes s (spoiled m Exit s) refl
    (are_clear_with m _ s.world all (clear_limit Upstream (nulled Upstream L) (clear_nulled_up L taint (spoil_needs m Exit t s st waits can) (st.links m) (all.at m))))
spoil_clear m Entry t s st waits can counted taint all =
    let L : LinkParts = link_at (m - 1) s.world in
    let needs : answer_of (entries_of s (m - 1)) ≡ NeedMore = ap (λ (n : ℕ). answer_of (node_at s n).lane.entry_bytes) (less_one m counted) ∙ spoil_needs m Entry t s st waits can in
    same_bytes s (spoiled m Entry s) refl
    (are_clear_with (m - 1) _ s.world all (clear_limit Downstream (nulled Downstream L) (clear_nulled_down L taint needs (st.links (m - 1)) (all.at (m - 1)))))

-- a machine's step of bytes, by its number
flow_mild_at : {Taint : ℕ → Side → Type 0} → SaysAlone → (t : Trace) (number m : ℕ) (side : Side) (count : Option ℕ) (before after : LineState) (told : List Happening) → may_flow m side before ≡ may_do → Stands t before → AreClearIn Taint before
    → (flows : Flows number m side count before after told) → AreMildAt (Taint (link_of m side) side) (frees_by flows.steps.node.lane.body) side flows.steps.acts
flow_mild_at {Taint} alone t number m side count before after told may holds all flows =
    by_number (λ n. may_flow n side before ≡ may_do → (flows : Flows number n side count before after told) → AreMildAt (Taint (link_of n side) side) (frees_by flows.steps.node.lane.body) side flows.steps.acts) m before flows.steps.node flows.steps.there
    (λ j may flows. flow_mild alone t number j side count before after told (can_flow (j + 1) side before may) holds all flows) may flows

flow_line : {Taint : ℕ → Side → Type 0} (number m : ℕ) (side : Side) (count : Option ℕ) (t : Trace) (before next : LineState) (told : List Happening) → Given Taint number t before next told → may_flow m side before ≡ may_do → Flows number m side count before next told → AreClearIn Taint next
flow_line number m side count t before next told g may flows =
    flow_clear g.alone number m side count before next told g.few (g.holds.fit m) (can_flow m side before may) g.holds.links g.whole g.together flows (flow_mild_at g.alone t number m side count before next told may g.holds g.all flows) g.all (freed t before g.alone g.holds g.all)

effect_clear : {Taint : ℕ → Side → Type 0} (number : ℕ) (request : Request) (t : Trace) (before next : LineState) (told : List Happening) → IsFitRequest request → ((m : ℕ) (side : Side) → 1 ≤ m → IsTold (happenings.Spoils m side) told → Taint (link_of m side) side)
    → Given Taint number t before next told → Effect number before next told request → AreClearIn Taint next
effect_clear {Taint} number request t before next told fit taints g (effects.rests _ what remarks b) = becomes_by (λ s ts. AreClearIn Taint s) b g.all
effect_clear {Taint} number request t before next told fit taints g (effects.adds lane is_bridge capacity used may b) = becomes_by (λ s ts. AreClearIn Taint s) b (more_clear lane is_bridge capacity used before g.all)
effect_clear number request t before next told fit taints g (effects.steps m input given may did) =
    plain_clear number m input t before next told (given_plain input given) (given_dry input given) fit (given_free m input before may) g did
effect_clear number request t before next told fit taints g (effects.connects m may did) = connects_clear g.alone number m before next told g.few g.holds.fit g.holds.links g.holds.together may did g.all
effect_clear number request t before next told fit taints g (effects.flows m side count may did) = flow_line number m side count t before next told g may did
effect_clear {Taint} number request t before next told fit taints g (effects.cuts gap may b) = becomes_by (λ s ts. AreClearIn Taint s) b (cut_clear gap before g.all)
effect_clear {Taint} number request t before next told fit taints g (effects.spoils m side may b) =
    let can : CanSpoil m side before = can_spoil m side before may in
    let counted : 1 ≤ m = (machine_within m before can.node can.there).0 in
    becomes_by (λ s ts. AreClearIn Taint s) b
    (spoil_clear m side t before g.holds g.waits can counted (taints m side counted (subst (λ (all : List Happening). IsTold (happenings.Spoils m side) all) (sym b.told_is) told_first)) g.all)
effect_clear {Taint} number request t before next told fit taints g (effects.moves gap step floor is b) = becomes_by (λ s ts. AreClearIn Taint s) b (same_clear before (moved (Ok floor) before) refl (λ k. refl) g.all)
effect_clear {Taint} number request t before next told fit taints g (effects.lies m sensed may b) = becomes_by (λ s ts. AreClearIn Taint s) b (same_clear before (lied number m sensed before) refl (λ k. refl) g.all)
effect_clear {Taint} number request t before next told fit taints g (effects.unsees m side may b) = becomes_by (λ s ts. AreClearIn Taint s) b (same_clear before (unseen number m side before) refl (λ k. refl) g.all)

-- ---- what each tells of breaches

-- a step without bytes breaches nothing
quiet_blame : (Holds : ℕ → Side → Type 0) (number m : ℕ) (input : Input) (before next : LineState) (told : List Happening) → is_bytes input ≡ false → FreeAt m input before → MachineSteps number m input before next told → AllBlames Holds told
quiet_blame Holds number m input before next told none free steps =
    let may : Leave = record { blames = at_none; frees = frees_by steps.node.lane.body } in
    subst (λ (hs : List Happening). AllBlames Holds hs) (sym steps.told_is)
    (acts_blame Holds may (is_second input) m steps.acts (read_by m before.world) (λ side is. absurd (false≢true is)) (quiet_mild may number m input before next told none (free steps.node steps.there) steps))

pub met_quiet : (on : Connected) → is_bytes (met on) ≡ false
met_quiet connections.Accepted = refl
met_quiet connections.Second = refl

met_free : (frees : Side → Bool) (on : Connected) → IsFree frees (met on)
met_free frees connections.Accepted = tt
met_free frees connections.Second = tt

connects_blame : (Holds : ℕ → Side → Type 0) (number m : ℕ) (before next : LineState) (told : List Happening) → Connects number m before next told → AllBlames Holds told
connects_blame Holds number m before next told twice =
    let on : Connected = connected_of (link_at (m - 1) before.world).upstream in
    subst (λ (hs : List Happening). AllBlames Holds hs) (sym twice.told_is)
    (both_blame Holds twice.earlier twice.later (quiet_blame Holds number m inputs.Connect _ twice.between twice.earlier refl (λ node there. tt) twice.first) (quiet_blame Holds number (m - 1) (met on) twice.between next twice.later (met_quiet on) (λ node there. met_free (frees_by node.lane.body) on) twice.second))

flow_blame : (past : List Happening) (number m : ℕ) (side : Side) (count : Option ℕ) (t : Trace) (before next : LineState) (told : List Happening) → SaysAlone → Stands t before → AreClearIn (TaintBy past) before → may_flow m side before ≡ may_do → Flows number m side count before next told
    → AllBlames (WasSpoiled past) told
flow_blame past number m side count t before next told alone holds all may flows =
    let mild : AreMildAt (TaintBy past (link_of m side) side) (frees_by flows.steps.node.lane.body) side flows.steps.acts = flow_mild_at alone t number m side count before next told may holds all flows in
    let counted : 1 ≤ m = (machine_within m before flows.steps.node flows.steps.there).0 in
    subst (λ (hs : List Happening). AllBlames (WasSpoiled past) hs) (sym flows.steps.told_is)
    (acts_blame (WasSpoiled past) (record { blames = mild.blames; frees = frees_by flows.steps.node.lane.body }) false m flows.steps.acts (read_by m _) (λ at is. subst (λ (s : Side). WasSpoiled past m s) (sym (mild.taints at is).0) (taint_here past m side counted (mild.taints at is).1)) mild.mild)

turns_blame : (past : List Happening) (number : ℕ) (request : Request) (t : Trace) (before next : LineState) (told : List Happening) → SaysAlone → Stands t before → AreClearIn (TaintBy past) before → LineTurns number before next told request → AllBlames (WasSpoiled past) told
turns_blame past number request t before next told alone holds all (turns.stays _ same none) = all_pass told (no_acts_blame (WasSpoiled past)) none
turns_blame past number request t before next told alone holds all (turns.adds lane is_bridge capacity used may b) =
    subst (λ (hs : List Happening). AllBlames (WasSpoiled past) hs) (sym b.told_is) (remarks_blame (WasSpoiled past) _ (added_remarks is_bridge capacity before))
turns_blame past number request t before next told alone holds all (turns.steps m input given may did) = quiet_blame (WasSpoiled past) number m input before next told (given_dry input given) (given_free m input before may) did
turns_blame past number request t before next told alone holds all (turns.connects m may did) = connects_blame (WasSpoiled past) number m before next told did
turns_blame past number request t before next told alone holds all (turns.flows m side count may did) = flow_blame past number m side count t before next told alone holds all may did

-- ---- EACH LINE

pub line_blame : (past : List Happening) (number : ℕ) (request : Request) (t : Trace) (before after : LineState) (told : List Happening) → SaysAlone → Stands t before → AreClearIn (TaintBy past) before → LineSteps number request before after told → IsBlameTrue past told
line_blame past number request t before after told alone holds all steps =
    let both : AllBlames (WasSpoiled past) (steps.done ++ standings_told before steps.next) =
    both_blame (WasSpoiled past) steps.done (standings_told before steps.next) (turns_blame past number request t before steps.next steps.done alone holds all (line_turns number request before steps.next steps.done steps.does)) (remarks_blame (WasSpoiled past) _ (standings_remarks before steps.next)) in
    λ machine side text is. blame_told (WasSpoiled past) machine side text told (subst (λ (hs : List Happening). AllBlames (WasSpoiled past) hs) (sym steps.told_is) both) is

pub line_clear : (past : List Happening) (number : ℕ) (request : Request) (before after : LineState) (told : List Happening) → SaysAlone → number ≤ 1000000 → IsFitRequest request → Stood before → AreClearIn (TaintBy past) before → LineSteps number request before after told → AreClearIn (TaintBy (past ++ told)) after
line_clear past number request before after told alone few fit was all steps =
    let next : LineState = steps.next in
    let st : Stands was.trace before = was.stands in
    let taints : (m : ℕ) (side : Side) → 1 ≤ m → IsTold (happenings.Spoils m side) steps.done → TaintBy (past ++ told) (link_of m side) side =
    λ m side counted is. taint_there (past ++ told) m side counted (told_behind past (subst (λ (hs : List Happening). IsTold (happenings.Spoils m side) hs) (sym steps.told_is) (told_before (standings_told before next) is))) in
    let given : Given (TaintBy (past ++ told)) number was.trace before next steps.done = record {
      alone = alone;
      few = few;
      holds = st;
      waits = was.waits;
      whole = does_whole_links number request before next steps.done st.links steps.does;
      together = does_together number request before next steps.done st.together steps.does;
      all = are_clear_map before.world (taint_more past told) all;
    } in
    let clear : AreClearIn (TaintBy (past ++ told)) next = effect_clear number request was.trace before next steps.done fit taints given (line_effect number request before next steps.done steps.does) in
    subst (λ (s : LineState). AreClearIn (TaintBy (past ++ told)) s) (sym steps.after_is) (same_clear next (record next { lines = steps.lines }) refl (λ k. refl) clear)

-- a line of another track
track_blame : (past : List Happening) (number : ℕ) (line : TrackLine) (t : Trace) (before after : LineState) (told : List Happening) → SaysAlone → Stands t before → AreClearIn (TaintBy past) before → TrackSteps number line before after told → IsBlameTrue past told
track_blame past number (own_line request) t before after told alone holds all steps = line_blame past number request t before after told alone holds all steps.0
track_blame past number other_line t before after told alone holds all steps =
    λ machine side text is. blame_told (WasSpoiled past) machine side text told (subst (λ (hs : List Happening). AllBlames (WasSpoiled past) hs) (sym steps.1) tt) is

beside_ready : (s t : LineState) → IsBeside s t → (link : ℕ) (side : Side) → ready_of s link side ≡ true → ready_of t link side ≡ true
beside_ready s t beside link Exit is = ap (λ (l : Lane). is_ready Exit l.body) (beside-lane s t link beside) ∙ is
beside_ready s t beside link Entry is = ap (λ (l : Lane). is_ready Entry l.body) (beside-lane s t (link + 1) beside) ∙ is

beside_clear : {Taint : ℕ → Side → Type 0} (s t : LineState) → IsBeside s t → AreClearIn Taint s → AreClearIn Taint t
beside_clear s t beside all =
    are_clear_by t.world (λ k. ap (λ (l : Lane). l.exit_bytes) (beside-lane s t k beside)) (λ k. ap (λ (l : Lane). l.entry_bytes) (beside-lane s t (k + 1) beside))
    (are_clear_ready (ready_of t) t.world (beside_ready s t beside) (links_clear s t (λ k. ap (link_at k) beside.world) all))

track_clear : (past : List Happening) (number : ℕ) (line : TrackLine) (before after : LineState) (told : List Happening) → SaysAlone → number ≤ 1000000 → IsFitTrack line → Stood before → AreClearIn (TaintBy past) before → TrackSteps number line before after told → AreClearIn (TaintBy (past ++ told)) after
track_clear past number (own_line request) before after told alone few fit was all steps = line_clear past number request before after told alone few fit was all steps.0
track_clear past number other_line before after told alone few fit was all steps = are_clear_map after.world (taint_more past told) (beside_clear before after steps.0 all)

-- ---- along a run

blame_run : SaysAlone → (past : List Happening) (s : LineState) (asked : List TrackLine) (points : List Point) (n : ℕ) → AllByRecursion IsFitTrack asked → IsShort s points → Stood s → IsRun s asked points → AreStood (take n points) → AreClearIn (TaintBy past) s
    → AreBlamesTrue past (take n points)
blame_run alone past s asked points zero fit few was run all clear = tt
blame_run alone past s [] [] (suc n) fit few was run all clear = tt
blame_run alone past s [] (point ∷ points) (suc n) fit few was run all clear = elim run [ ]
blame_run alone past s (line ∷ asked) [] (suc n) fit few was run all clear = elim run [ ]
blame_run alone past s (line ∷ asked) (point ∷ points) (suc n) fit few was run all clear =
    let here : s.lines + 1 ≤ 1000000 = few.0 in
    let left : IsShort point.after points = few.1 in (
      track_blame past (s.lines + 1) line was.trace s point.after point.told alone was.stands clear run.0,
      blame_run alone (past ++ point.told) point.after asked points n fit.1 left all.0 run.1 all.1 (track_clear past (s.lines + 1) line s point.after point.told alone here fit.0 was clear run.0),
    )

none_at : (Taint : ℕ → Side → Type 0) (link : ℕ) → IsClear (Taint link Exit) (Taint link Entry) (ready_of no_line link) (none_free link) (exits_of no_line link) (entries_of no_line link) (link_at link no_line.world)
none_at Taint zero = clear_no_link
none_at Taint (suc place) =
    subst (λ (l : LinkParts). IsClear (Taint (suc place) Exit) (Taint (suc place) Entry) (ready_of no_line (suc place)) (none_free (suc place)) (exits_of no_line (suc place)) (entries_of no_line (suc place)) l) (sym (link_beyond (suc place) no_line.world (omega arith))) clear_no_link

none_clear : AreClearIn (TaintBy []) no_line
none_clear = record { at = λ link. none_at (TaintBy []) link }

-- THE LAW
pub no_false_blame : SaysAlone → ConnectsBear → NoFalseBlame
no_false_blame alone connects asked points n fit few run honest =
    blame_run alone [] no_line asked points n fit few none_stood.stood run (run_stood alone connects no_line asked points n fit few none_stood run honest) none_clear

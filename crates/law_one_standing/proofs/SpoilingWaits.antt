-- What waits at an open side comes to no message, after each line of the script.
use Rattle.std.proofs.Common.{Bool, List, Option, Some, [], ap, append-nil, arith, false, inl, inr, length, refl, subst, suc, sym, true, zero, ℕ, ◌++◌, ◌+◌, ◌-◌, ◌∙◌, ◌≡◌, ◌≢◌, ◌⊎◌}
use Rattle.std.specs.Prelude.{slice_index_or}
use Rattle.std.proofs.lemmas.Bool.{false≢true}
use Rattle.step_rules.proofs.Once.{closed-stays}
use Rattle.law_one_standing.proofs.LedgerLine.{last_node}
use Rattle.line_base.specs.declared.states.Side.{Side}
use Rattle.line_base.specs.declared.states.Side.TheVariants.{Entry, Exit}
use Rattle.hermes_stream.proofs.Streams.{left_of-need_more, without_blanks-again}
use Rattle.hermes_stream.specs.Frames.{Answer, Frame, NeedMore, TooLong, answer_at, answer_of, end_within, frames_of, frames_within, joined, left_of, without_blanks}
use Rattle.line_link.specs.Link.{connected_of}
use Rattle.line_report.specs.declared.happening.Happening.{Happening}
use Rattle.node_core.specs.Node.{NodeState, new_node}
use Rattle.node_core.specs.Sides.{is_open}
use Rattle.node_core.specs.Step.{Brings}
use Rattle.node_core.specs.Words.{AreAll, all_more, all_none}
use Rattle.node_core.specs.declared.act.Act.{Act}
use Rattle.node_core.specs.declared.input.Input.{Input}
use Rattle.node_core.specs.declared.input.Input.TheVariants as inputs
use Rattle.node_core.specs.declared.lane.Lane.{Lane}
use Rattle.node_core.specs.declared.word.Word.{Word}
use Rattle.line_step.specs.Lines.{Connects, Flows, LineDoes, arrived, connecting, met}
use Rattle.line_step.specs.Numbered as numbered
use Rattle.line_step.specs.Numbered.{no_node, node_at}
use Rattle.step_rules.specs.Opened.{open_after, opened_by}
use Rattle.line_step.specs.State.{LineState, machine_in, no_line, one_more, profile_of}
use Rattle.line_step.specs.Steps.{MachineSteps, moment_of, unread_by}
use Rattle.line_step.specs.World.{link_at}
use Rattle.line_step.proofs.Changing.{more_changes, step_changes}
use Rattle.line_step.proofs.Numbers.{machine_set_own, same_or_not}
use Rattle.step_rules.proofs.Opening.{steps_open}
use Rattle.law_one_standing.specs.Waits.{AreWaiting, Waits}
use Rattle.law_one_standing.proofs.RestLine.{node_there}
use Rattle.line_step.specs.Requests.{Request}
use Rattle.line_step.proofs.Effects.{becomes_by}
use Rattle.line_step.proofs.Turns.{LineTurns, line_turns}
use Rattle.line_step.proofs.Turns as turns

-- ---- what is left behind all frames

needs_none : answer_of [] ≡ NeedMore
unfolding answer_of
needs_none = refl

needs_left : (bytes : List ℕ) → answer_of bytes ≡ NeedMore → answer_of (left_of bytes) ≡ NeedMore
unfolding answer_of
needs_left bytes needs =
    let again : without_blanks (without_blanks bytes) ≡ without_blanks bytes = ap without_blanks (sym (append-nil (without_blanks bytes))) ∙ without_blanks-again bytes [] ∙ ap without_blanks (append-nil bytes) in
    ap answer_of (left_of-need_more bytes needs) ∙ ap (λ (b : List ℕ). answer_at b (end_within b)) again ∙ needs

rest_within : (more : ℕ) (bytes rest : List ℕ) → (frames_within more bytes).rest ≡ Some rest → answer_of rest ≡ NeedMore
unfolding frames_within
rest_within zero bytes rest is = absurd (cc)
rest_within (suc more) bytes rest is = by (answer_of bytes) refl is (rest_within more (left_of bytes) rest)
  where
    by : (answer : Answer) → answer_of bytes ≡ answer → (joined answer (left_of bytes) (frames_within more (left_of bytes))).rest ≡ Some rest → ((frames_within more (left_of bytes)).rest ≡ Some rest → answer_of rest ≡ NeedMore) → answer_of rest ≡ NeedMore
    by (Frame message) front is later = later is
    by NeedMore front is later =
        let same : left_of bytes ≡ rest = cc in
        subst (λ (b : List ℕ). answer_of b ≡ NeedMore) same (needs_left bytes front)
    by TooLong front is later = absurd (cc)

rest_needs : (bytes rest : List ℕ) → (frames_of bytes).rest ≡ Some rest → answer_of rest ≡ NeedMore
unfolding frames_of
rest_needs bytes rest is = rest_within (length bytes + 1) bytes rest is

all_rest : {frames : List (List ℕ)} {rest : Option (List ℕ)} {words : List Word} {left : List ℕ} → AreAll frames rest words left → rest ≡ Some left
all_rest all_none = refl
all_rest (all_more means others) = all_rest others

-- ---- a step

was_open : (side : Side) (opened : Bool) (told : List Act) → open_after side opened told ≡ true → opened ≡ true
was_open side true told is = refl
was_open side false told is = absurd (false≢true (sym (closed-stays side told) ∙ is))

lane_waits : (input : Input) (old new : Lane) (words : List Word) → Brings input old new words → ((side : Side) → is_open side new.body ≡ true → opened_by input side (is_open side old.body) ≡ true) → Waits old → Waits new
lane_waits (inputs.Bytes Entry piece) old new words brings opens waits Entry there = rest_needs (old.entry_bytes ++ piece.now) new.entry_bytes (all_rest (brings.0.all there))
lane_waits (inputs.Bytes Exit piece) old new words brings opens waits Entry there = ap answer_of brings.1 ∙ waits Entry (opens Entry there)
lane_waits (inputs.Bytes Exit piece) old new words brings opens waits Exit there = rest_needs (old.exit_bytes ++ piece.now) new.exit_bytes (all_rest (brings.0.all there))
lane_waits inputs.Connect old new words brings opens waits Entry there = ap answer_of brings.0 ∙ needs_none
lane_waits inputs.Connect old new words brings opens waits Exit there = ap answer_of brings.1 ∙ waits Exit (opens Exit there)
lane_waits inputs.Accepted old new words brings opens waits Entry there = ap answer_of brings.0 ∙ waits Entry (opens Entry there)
lane_waits inputs.Accepted old new words brings opens waits Exit there = ap answer_of brings.1 ∙ needs_none
lane_waits input old new words brings opens waits Entry there = ap answer_of brings.0 ∙ waits Entry (opens Entry there)
lane_waits input old new words brings opens waits Exit there = ap answer_of brings.1 ∙ waits Exit (opens Exit there)

steps : (number machine : ℕ) (input : Input) (before after : LineState) (told : List Happening) → MachineSteps number machine input before after told → AreWaiting before → AreWaiting after
steps number machine input before after told did waits k = by (same_or_not k machine)
  where
    own : Waits did.next.lane
    own = lane_waits input did.node.lane did.next.lane did.steps.lane.words did.steps.lane.brings
        (λ side there. was_open side (opened_by input side (is_open side did.node.lane.body)) did.acts (sym (steps_open did.node (unread_by machine before.world) input (moment_of number) did.next did.acts side did.steps) ∙ there))
        (subst (λ (n : NodeState). Waits n.lane) (node_there machine before did.node did.there) (waits machine))

    next : machine_in machine after ≡ Some did.next
    next = ap (machine_in machine) did.after_is ∙ machine_set_own machine before did.node did.next did.there

    by : (k ≡ machine) ⊎ (k ≢ machine) → Waits (node_at after k).lane
    by (inl is) = subst (λ (n : ℕ). Waits (node_at after n).lane) (sym is) (subst (λ (n : NodeState). Waits n.lane) (sym (node_there machine after did.next next)) own)
    by (inr apart) = subst (λ (n : NodeState). Waits n.lane) (sym (ap (λ (x : numbered.Stand). x.node) ((step_changes number machine input before after told did).machines k apart))) (waits k)

-- ---- what changes no machine

-- machines are what a line has of them
pub same_node : (s s2 : LineState) → s2.machines ≡ s.machines → (k : ℕ) → node_at s2 k ≡ node_at s k
same_node s s2 same zero = refl
same_node s s2 same (suc place) = ap (λ (nodes : List NodeState). slice_index_or nodes place no_node) same

pub still_waiting : (s s2 : LineState) → s2.machines ≡ s.machines → AreWaiting s → AreWaiting s2
still_waiting s s2 same waits k = subst (λ (n : NodeState). Waits n.lane) (sym (same_node s s2 same k)) (waits k)

flows : (number machine : ℕ) (side : Side) (count : Option ℕ) (before after : LineState) (told : List Happening) → Flows number machine side count before after told → AreWaiting before → AreWaiting after
flows number machine side count before after told flow waits =
    steps number machine (inputs.Bytes side flow.piece) (arrived machine side count before) after told flow.steps (still_waiting before (arrived machine side count before) refl waits)

connects : (number machine : ℕ) (before after : LineState) (told : List Happening) → Connects number machine before after told → AreWaiting before → AreWaiting after
connects number machine before after told twice waits =
    steps number (machine - 1) (met (connected_of (link_at (machine - 1) before.world).upstream)) twice.between after twice.later twice.second
    (steps number machine inputs.Connect (connecting machine before) twice.between twice.earlier twice.first (still_waiting before (connecting machine before) refl waits))

-- ---- one machine more

new_waits : (profile_number : ℕ) (lane : ℕ) (is_bridge : Bool) (capacity used : ℕ) → Waits (new_node (profile_of lane is_bridge profile_number capacity used)).lane
new_waits number lane is_bridge capacity used Entry there = needs_none
new_waits number lane is_bridge capacity used Exit there = needs_none

more_waits : (lane : ℕ) (is_bridge : Bool) (capacity used : ℕ) (s : LineState) → AreWaiting s → AreWaiting (one_more lane is_bridge capacity used s)
more_waits lane is_bridge capacity used s waits k = by (same_or_not k (length s.machines + 1))
  where
    next : length s.machines + 1 ≡ suc (length s.machines)
    next = omega arith

    by : (k ≡ length s.machines + 1) ⊎ (k ≢ length s.machines + 1) → Waits (node_at (one_more lane is_bridge capacity used s) k).lane
    by (inl is) =
        let new : NodeState = new_node (profile_of lane is_bridge (length s.machines + 1) capacity used) in
        subst (λ (n : ℕ). Waits (node_at (one_more lane is_bridge capacity used s) n).lane) (sym (is ∙ next))
        (subst (λ (n : NodeState). Waits n.lane) (sym (last_node s.machines new)) (new_waits (length s.machines + 1) lane is_bridge capacity used))
    by (inr apart) = subst (λ (n : NodeState). Waits n.lane) (sym (ap (λ (x : numbered.Stand). x.node) ((more_changes lane is_bridge capacity used s).machines k apart))) (waits k)

-- ---- a line of the script

pub none_waiting : AreWaiting no_line
none_waiting zero side there = new_waits 0 1 false 1 0 side there
none_waiting (suc place) side there = new_waits 0 1 false 1 0 side there

turns_wait : (number : ℕ) (request : Request) (before next : LineState) (told : List Happening) → AreWaiting before → LineTurns number before next told request → AreWaiting next
turns_wait number request before next told waits (turns.stays _ same none) = still_waiting before next same waits
turns_wait number request before next told waits (turns.adds lane is_bridge capacity used may b) = becomes_by (λ s ts. AreWaiting s) b (more_waits lane is_bridge capacity used before waits)
turns_wait number request before next told waits (turns.steps machine input given may did) = steps number machine input before next told did waits
turns_wait number request before next told waits (turns.connects machine may did) = connects number machine before next told did waits
turns_wait number request before next told waits (turns.flows machine side count may did) = flows number machine side count before next told did waits

pub does_waiting : (number : ℕ) (request : Request) (before next : LineState) (told : List Happening) → AreWaiting before → LineDoes number request before next told → AreWaiting next
does_waiting number request before next told waits does = turns_wait number request before next told waits (line_turns number request before next told does)

-- A connection: both its steps leave what flows to each side as it was said, and nothing flows to the side that connects.
use Rattle.std.proofs.Common.{Bool, List, None, Option, Some, [], ap, arith, false, inl, inr, refl, subst, sym, true, ℕ, ◌+◌, ◌-◌, ◌∙◌, ◌≡◌, ◌≢◌, ◌≤◌, ◌⊎◌}
use Rattle.std.proofs.lemmas.Bool.{false≢true}
use Rattle.line_base.specs.declared.states.Side.{Side}
use Rattle.line_base.specs.declared.states.Side.TheVariants.{Entry, Exit}
use Rattle.line_link.specs.Link.{LinkParts, after_connect, connected, connected_of, next_number}
use Rattle.line_report.specs.declared.happening.Happening.{Happening}
use Rattle.node_core.specs.Node.{NodeState}
use Rattle.node_core.specs.Step.{entry_after, exit_after}
use Rattle.node_core.specs.declared.input.Input.{Input}
use Rattle.node_core.specs.declared.input.Input.TheVariants as inputs
use Rattle.law_link_messages.specs.Fit.{IsFitInput}
use Rattle.line_step.specs.Lines.{Connects, connecting, met}
use Rattle.line_step.specs.Numbered.{node_at}
use Rattle.line_step.specs.Reasons.{may_connect, may_do}
use Rattle.line_step.specs.State.{LineState}
use Rattle.line_step.specs.Steps.{MachineSteps}
use Rattle.line_step.specs.Together.{IsLineTogether}
use Rattle.line_step.specs.World.{link_at}
use Rattle.line_step.proofs.Connecting.{free_below}
use Rattle.line_step.proofs.Numbers.{machine_within, same_or_not}
use Rattle.law_one_standing.specs.Carried.{IsFitMachine}
use Rattle.law_one_standing.specs.Links.{AreWholeLinks}
use Rattle.law_one_standing.proofs.Behind.{fit_machine}
use Rattle.law_one_standing.proofs.BlameLinks.{AreClear, IsClear, are_clear_begin, are_clear_by, clear_none, clear_off, clear_ready, none_free}
use Rattle.step_rules.proofs.BlameReady.{is_ready}
use Rattle.law_one_standing.proofs.BlameSteps.{AreClearIn, IsFree, NewBytes, calls, entries_of, entries_ready, exits_of, exits_ready, is_bytes, new_bytes, quiet_fit, quiet_mild, ready_of, step_clear, still_ready}
use Rattle.law_one_standing.proofs.Carrying.{SaysAlone}
use Rattle.law_one_standing.proofs.FactsBlame.{at_none, no_leave}
use Rattle.law_one_standing.proofs.LedgerLine.{same_nodes}
use Rattle.law_one_standing.proofs.MirroringCall.{dry_down, dry_up}
use Rattle.law_one_standing.proofs.Traces.{put, put_other, put_same}
use Rattle.law_one_standing.proofs.WholeLinks.{steps as whole_steps, whole_connect, whole_links}
use Rattle.law_one_standing.proofs.LineMoves.{less_one}

-- ---- the bytes that wait behind both steps

-- an input of the machine above
data IsMeeting : Input → Type 0 where
  meets_first : IsMeeting inputs.Accepted
  meets_second : IsMeeting inputs.Second

pub same_entry : (m : ℕ) (input : Input) (before after : LineState) → ((bytes : List ℕ) → entry_after input bytes ≡ bytes) → NewBytes m input before after → (n : ℕ) → (node_at after n).lane.entry_bytes ≡ (node_at before n).lane.entry_bytes
same_entry m input before after still new n = by (same_or_not n m)
  where
    by : (n ≡ m) ⊎ (n ≢ m) → (node_at after n).lane.entry_bytes ≡ (node_at before n).lane.entry_bytes
    by (inl is) = ap (λ (k : ℕ). (node_at after k).lane.entry_bytes) is ∙ new.entry ∙ still (node_at before m).lane.entry_bytes ∙ sym (ap (λ (k : ℕ). (node_at before k).lane.entry_bytes) is)
    by (inr apart) = ap (λ (x : NodeState). x.lane.entry_bytes) (new.others n apart)

pub same_exit : (m : ℕ) (input : Input) (before after : LineState) → ((bytes : List ℕ) → exit_after input bytes ≡ bytes) → NewBytes m input before after → (n : ℕ) → (node_at after n).lane.exit_bytes ≡ (node_at before n).lane.exit_bytes
same_exit m input before after still new n = by (same_or_not n m)
  where
    by : (n ≡ m) ⊎ (n ≢ m) → (node_at after n).lane.exit_bytes ≡ (node_at before n).lane.exit_bytes
    by (inl is) = ap (λ (k : ℕ). (node_at after k).lane.exit_bytes) is ∙ new.exit ∙ still (node_at before m).lane.exit_bytes ∙ sym (ap (λ (k : ℕ). (node_at before k).lane.exit_bytes) is)
    by (inr apart) = ap (λ (x : NodeState). x.lane.exit_bytes) (new.others n apart)

plain_meeting : (input : Input) → IsMeeting input → is_bytes input ≡ false
plain_meeting _ meets_first = refl
plain_meeting _ meets_second = refl

fit_meeting : (input : Input) → IsMeeting input → IsFitInput input
fit_meeting _ meets_first = tt
fit_meeting _ meets_second = tt

free_meeting : (input : Input) → IsMeeting input → IsFree at_none input
free_meeting _ meets_first = tt
free_meeting _ meets_second = tt

unmet_entry : (input : Input) → IsMeeting input → calls Entry input ≡ false
unmet_entry _ meets_first = refl
unmet_entry _ meets_second = refl

meeting_entry : (input : Input) → IsMeeting input → (bytes : List ℕ) → entry_after input bytes ≡ bytes
meeting_entry _ meets_first bytes = refl
meeting_entry _ meets_second bytes = refl

-- what is had of both steps
record Joins (number m : ℕ) (input : Input) (before between after : LineState) (earlier later : List Happening) : Type 0 where
  meeting : IsMeeting input
  counted : 1 ≤ m
  first : MachineSteps number m inputs.Connect (connecting m before) between earlier
  second : MachineSteps number (m - 1) input between after later

-- nothing waits at the entry that connects
entries_behind : (number m : ℕ) (input : Input) (before between after : LineState) (earlier later : List Happening) → Joins number m input before between after earlier later → (k : ℕ) → entries_of after k ≡ put (m - 1) [] (entries_of before) k
entries_behind number m input before between after earlier later j k = by (same_or_not k (m - 1))
  where
    one : NewBytes m inputs.Connect (connecting m before) between
    one = new_bytes number m inputs.Connect (connecting m before) between earlier refl j.first

    not_bytes : is_bytes input ≡ false
    not_bytes = plain_meeting input j.meeting

    two : NewBytes (m - 1) input between after
    two = new_bytes number (m - 1) input between after later not_bytes j.second

    late : (n : ℕ) → (node_at after n).lane.entry_bytes ≡ (node_at between n).lane.entry_bytes
    late n = same_entry (m - 1) input between after (meeting_entry input j.meeting) two n

    not_own : k ≢ m - 1 → k + 1 ≢ m
    not_own apart is = apart (omega (arith, is))

    by : (k ≡ m - 1) ⊎ (k ≢ m - 1) → entries_of after k ≡ put (m - 1) [] (entries_of before) k
    by (inl is) =
        ap (λ (n : ℕ). entries_of after n) is ∙ late (m - 1 + 1) ∙ ap (λ (n : ℕ). (node_at between n).lane.entry_bytes) (less_one m j.counted) ∙ one.entry
        ∙ sym (put_same (m - 1) [] (entries_of before)) ∙ sym (ap (λ (n : ℕ). put (m - 1) [] (entries_of before) n) is)
    by (inr apart) =
        late (k + 1) ∙ ap (λ (x : NodeState). x.lane.entry_bytes) (one.others (k + 1) (not_own apart) ∙ same_nodes before (connecting m before) refl (k + 1)) ∙ sym (put_other (m - 1) k [] (entries_of before) apart)

-- at an exit what waited does, but where it gets the connection
exits_between : (number m : ℕ) (input : Input) (before between after : LineState) (earlier later : List Happening) → Joins number m input before between after earlier later → (k : ℕ) → (node_at between k).lane.exit_bytes ≡ exits_of before k
exits_between number m input before between after earlier later j k =
    same_exit m inputs.Connect (connecting m before) between (λ bytes. refl) (new_bytes number m inputs.Connect (connecting m before) between earlier refl j.first) k
    ∙ ap (λ (x : NodeState). x.lane.exit_bytes) (same_nodes before (connecting m before) refl k)

exits_first : (number m : ℕ) (before between after : LineState) (earlier later : List Happening) → Joins number m inputs.Accepted before between after earlier later → (k : ℕ) → exits_of after k ≡ put (m - 1) [] (exits_of before) k
exits_first number m before between after earlier later j k = by (same_or_not k (m - 1))
  where
    two : NewBytes (m - 1) inputs.Accepted between after
    two = new_bytes number (m - 1) inputs.Accepted between after later refl j.second

    by : (k ≡ m - 1) ⊎ (k ≢ m - 1) → exits_of after k ≡ put (m - 1) [] (exits_of before) k
    by (inl is) = ap (λ (n : ℕ). exits_of after n) is ∙ two.exit ∙ sym (put_same (m - 1) [] (exits_of before)) ∙ sym (ap (λ (n : ℕ). put (m - 1) [] (exits_of before) n) is)
    by (inr apart) = ap (λ (x : NodeState). x.lane.exit_bytes) (two.others k apart) ∙ exits_between number m inputs.Accepted before between after earlier later j k ∙ sym (put_other (m - 1) k [] (exits_of before) apart)

exits_second : (number m : ℕ) (before between after : LineState) (earlier later : List Happening) → Joins number m inputs.Second before between after earlier later → (k : ℕ) → exits_of after k ≡ exits_of before k
exits_second number m before between after earlier later j k =
    same_exit (m - 1) inputs.Second between after (λ bytes. refl) (new_bytes number (m - 1) inputs.Second between after later refl j.second) k ∙ exits_between number m inputs.Second before between after earlier later j k

-- ---- which sides are ready behind both

not_below : (m k : ℕ) → k ≢ m - 1 → 1 ≤ m → k + 1 ≢ m
not_below m k apart counted is = apart (omega (arith, is))

joins_ready : (number m : ℕ) (input : Input) (before between after : LineState) (earlier later : List Happening) → Joins number m input before between after earlier later → (k : ℕ) → k ≢ m - 1 → (side : Side) → ready_of before k side ≡ true → ready_of after k side ≡ true
joins_ready number m input before between after earlier later j k apart Exit is =
    still_ready number (m - 1) input Exit between after later j.second k apart
    (exits_ready number m inputs.Connect (connecting m before) between earlier j.first refl k (ap (λ (x : NodeState). is_ready Exit x.lane.body) (same_nodes before (connecting m before) refl k) ∙ is))
joins_ready number m input before between after earlier later j k apart Entry is =
    entries_ready number (m - 1) input between after later j.second (unmet_entry input j.meeting) k
    (still_ready number m inputs.Connect Entry (connecting m before) between earlier j.first (k + 1) (not_below m k apart j.counted) (ap (λ (x : NodeState). is_ready Entry x.lane.body) (same_nodes before (connecting m before) refl (k + 1)) ∙ is))

second_ready : (number m : ℕ) (before between after : LineState) (earlier later : List Happening) → Joins number m inputs.Second before between after earlier later → (k : ℕ) → ready_of before k Exit ≡ true → ready_of after k Exit ≡ true
second_ready number m before between after earlier later j k is =
    exits_ready number (m - 1) inputs.Second between after later j.second refl k
    (exits_ready number m inputs.Connect (connecting m before) between earlier j.first refl k (ap (λ (x : NodeState). is_ready Exit x.lane.body) (same_nodes before (connecting m before) refl k) ∙ is))

-- ---- what flows behind both

pub whole_connecting : (m : ℕ) (before : LineState) → AreWholeLinks before → AreWholeLinks (connecting m before)
whole_connecting m before whole = whole_links (m - 1) (after_connect (link_at (m - 1) before.world)) before.world whole (whole_connect (link_at (m - 1) before.world) (whole (m - 1)))

-- from what flows on the link as it is connected
walks_both : {Taint : ℕ → Side → Type 0} {ready : ℕ → Side → Bool} {exits entries : ℕ → List ℕ} → SaysAlone → (number m : ℕ) (input : Input) (before between after : LineState) (earlier later : List Happening) → number ≤ 1000000 → ((machine : ℕ) → IsFitMachine before machine) → AreWholeLinks before
    → Joins number m input before between after earlier later → entries (m - 1) ≡ [] → AreClear Taint ready none_free exits entries (connecting m before).world → AreClear Taint ready none_free exits entries after.world
walks_both {Taint} {ready} {exits} {entries} alone number m input before between after earlier later few fit whole j empty start =
    let begin : LineState = connecting m before in
    let whole_one : AreWholeLinks begin = whole_connecting m before whole in
    let fit_one : IsFitMachine begin m = fit_machine before begin m (same_nodes before begin refl m) (fit m) in
    let first : AreClear Taint ready none_free exits entries between.world =
    step_clear alone no_leave number m inputs.Connect begin between earlier j.first (quiet_fit number m inputs.Connect begin between earlier refl tt few fit_one j.first) (quiet_mild no_leave number m inputs.Connect begin between earlier refl tt j.first) (λ side is. absurd (false≢true is))
    (λ second. absurd (false≢true second)) whole_one start in
    let new : NewBytes m inputs.Connect begin between = new_bytes number m inputs.Connect begin between earlier refl j.first in
    let beside : m - 1 ≢ m = (let c = j.counted in omega (arith, c)) in
    let fit_two : IsFitMachine between (m - 1) = fit_machine before between (m - 1) (new.others (m - 1) beside ∙ same_nodes before begin refl (m - 1)) (fit (m - 1)) in
    let plain = plain_meeting input j.meeting in
    step_clear alone no_leave number (m - 1) input between after later j.second (quiet_fit number (m - 1) input between after later plain (fit_meeting input j.meeting) few fit_two j.second) (quiet_mild no_leave number (m - 1) input between after later plain (free_meeting input j.meeting) j.second) (λ side is. absurd (false≢true is))
    (λ second. empty) (whole_steps number m inputs.Connect begin between earlier j.first whole_one) first

-- the exit above has no connection: nothing flows on the link, and nothing waits at it
first_clear : {Taint : ℕ → Side → Type 0} → SaysAlone → (number m : ℕ) (before between after : LineState) (earlier later : List Happening) → number ≤ 1000000 → ((machine : ℕ) → IsFitMachine before machine) → AreWholeLinks before
    → (link_at (m - 1) before.world).upstream ≡ None → (link_at (m - 1) before.world).downstream ≡ None → Joins number m inputs.Accepted before between after earlier later → AreClearIn Taint before → AreClearIn Taint after
first_clear {Taint} alone number m before between after earlier later few fit whole above below j all =
    are_clear_by after.world (exits_first number m before between after earlier later j) (entries_behind number m inputs.Accepted before between after earlier later j)
    (walks_both alone number m inputs.Accepted before between after earlier later few fit whole j (put_same (m - 1) [] (entries_of before)) start)
  where
    L : LinkParts
    L = link_at (m - 1) before.world

    parts_are : after_connect L ≡ connected None (next_number L.made) L
    parts_are = ap (λ (n : Option ℕ). connected n (next_number L.made) L) above

    exits2 : ℕ → List ℕ
    exits2 = put (m - 1) [] (exits_of before)

    entries2 : ℕ → List ℕ
    entries2 = put (m - 1) [] (entries_of before)

    here : IsClear (Taint (m - 1) Exit) (Taint (m - 1) Entry) (ready_of after (m - 1)) (none_free (m - 1)) (exits2 (m - 1)) (entries2 (m - 1)) (connected None (next_number L.made) L)
    here = record { up = clear_none refl (put_same (m - 1) [] (exits_of before)) (dry_up L (whole (m - 1)) above); down = clear_none refl (put_same (m - 1) [] (entries_of before)) (dry_down L (whole (m - 1)) below) }

    start : AreClear Taint (ready_of after) none_free exits2 entries2 (connecting m before).world
    start = are_clear_begin (ready_of after) (m - 1) (after_connect L) before.world (λ k apart. put_other (m - 1) k [] (exits_of before) apart) (λ k apart. put_other (m - 1) k [] (entries_of before) apart) (joins_ready number m inputs.Accepted before between after earlier later j) all
        (subst (λ (l : LinkParts). IsClear (Taint (m - 1) Exit) (Taint (m - 1) Entry) (ready_of after (m - 1)) (none_free (m - 1)) (exits2 (m - 1)) (entries2 (m - 1)) l) (sym parts_are) here)

-- it has one: what flowed to it goes on
second_clear : {Taint : ℕ → Side → Type 0} → SaysAlone → (number m other : ℕ) (before between after : LineState) (earlier later : List Happening) → number ≤ 1000000 → ((machine : ℕ) → IsFitMachine before machine) → AreWholeLinks before
    → (link_at (m - 1) before.world).upstream ≡ Some other → (link_at (m - 1) before.world).downstream ≡ None → Joins number m inputs.Second before between after earlier later → AreClearIn Taint before → AreClearIn Taint after
second_clear {Taint} alone number m other before between after earlier later few fit whole above below j all =
    are_clear_by after.world (exits_second number m before between after earlier later j) (entries_behind number m inputs.Second before between after earlier later j)
    (walks_both alone number m inputs.Second before between after earlier later few fit whole j (put_same (m - 1) [] (entries_of before)) start)
  where
    L : LinkParts
    L = link_at (m - 1) before.world

    parts_are : after_connect L ≡ connected (Some other) (next_number L.made) L
    parts_are = ap (λ (n : Option ℕ). connected n (next_number L.made) L) above

    entries2 : ℕ → List ℕ
    entries2 = put (m - 1) [] (entries_of before)

    here : IsClear (Taint (m - 1) Exit) (Taint (m - 1) Entry) (ready_of after (m - 1)) (none_free (m - 1)) (exits_of before (m - 1)) (entries2 (m - 1)) (connected (Some other) (next_number L.made) L)
    here = record { up = clear_ready (ready_of after (m - 1) Exit) (second_ready number m before between after earlier later j (m - 1)) (clear_off (all.at (m - 1)).up); down = clear_none refl (put_same (m - 1) [] (entries_of before)) (dry_down L (whole (m - 1)) below) }

    start : AreClear Taint (ready_of after) none_free (exits_of before) entries2 (connecting m before).world
    start = are_clear_begin (ready_of after) (m - 1) (after_connect L) before.world (λ k apart. refl) (λ k apart. put_other (m - 1) k [] (entries_of before) apart) (joins_ready number m inputs.Second before between after earlier later j) all
        (subst (λ (l : LinkParts). IsClear (Taint (m - 1) Exit) (Taint (m - 1) Entry) (ready_of after (m - 1)) (none_free (m - 1)) (exits_of before (m - 1)) (entries2 (m - 1)) l) (sym parts_are) here)

-- ---- the two kinds of connection

joined_clear : {Taint : ℕ → Side → Type 0} → SaysAlone → (number m : ℕ) (found : Option ℕ) (before between after : LineState) (earlier later : List Happening) → number ≤ 1000000 → ((machine : ℕ) → IsFitMachine before machine) → AreWholeLinks before
    → (link_at (m - 1) before.world).upstream ≡ found → (link_at (m - 1) before.world).downstream ≡ None → MachineSteps number m inputs.Connect (connecting m before) between earlier → MachineSteps number (m - 1) (met (connected_of found)) between after later
    → AreClearIn Taint before → AreClearIn Taint after
joined_clear alone number m None before between after earlier later few fit whole above below one two all =
    first_clear alone number m before between after earlier later few fit whole above below (record { meeting = meets_first; counted = (machine_within m (connecting m before) one.node one.there).0; first = one; second = two }) all
joined_clear alone number m (Some other) before between after earlier later few fit whole above below one two all =
    second_clear alone number m other before between after earlier later few fit whole above below (record { meeting = meets_second; counted = (machine_within m (connecting m before) one.node one.there).0; first = one; second = two }) all

pub connects_clear : {Taint : ℕ → Side → Type 0} → SaysAlone → (number m : ℕ) (before after : LineState) (told : List Happening) → number ≤ 1000000 → ((machine : ℕ) → IsFitMachine before machine) → AreWholeLinks before → IsLineTogether before → may_connect m before ≡ may_do
    → Connects number m before after told → AreClearIn Taint before → AreClearIn Taint after
connects_clear alone number m before after told few fit whole together may twice all =
    joined_clear alone number m (link_at (m - 1) before.world).upstream before twice.between after twice.earlier twice.later few fit whole refl (free_below m before together may) twice.first twice.second all

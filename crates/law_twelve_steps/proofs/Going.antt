-- The stage of a line's handover, and what a step of the machine above or below its gap makes of it.
use Rattle.std.proofs.Common.{Bool, List, [], ap, arith, false, length, refl, subst, sym, true, ℕ, ◌&&◌, ◌++◌, ◌+◌, ◌-◌, ◌∙◌, ◌≡◌, ◌≢◌, ◌≤◌}
use Rattle.std.specs.Prelude.{nat_le, nat_lt}
use Rattle.std.proofs.lemmas.Bool.{le-leb, leb-true, ltb-true, and_from}
use Rattle.law_one_standing.proofs.MirroringEnds.{before_one}
use Rattle.line_base.specs.declared.states.SensorEvent.{SensorEvent}
use Rattle.line_base.specs.declared.states.Side.{Side}
use Rattle.line_base.specs.declared.states.Side.TheVariants.{Entry, Exit}
use Rattle.board_record.specs.declared.record.Record.{Record}
use Rattle.board_record.specs.declared.sensed.Sensed.{Sensed}
use Rattle.hermes_horizontal.specs.declared.message.Horizontal.{Horizontal}
use Rattle.hermes_horizontal.specs.declared.message.Message.{Message}
use Rattle.line_link.specs.Link.{LinkParts}
use Rattle.line_world.specs.FloorPlan.{AtMachine, FloorPlan, gap_at, machine_at, with_drive}
use Rattle.line_world.specs.declared.board.Board.{Board}
use Rattle.line_world.specs.declared.gap.AtGap.{AtGap}
use Rattle.line_world.specs.declared.gap.Gap.{Gap}
use Rattle.line_world.specs.declared.gap.Gap.TheVariants as gaps
use Rattle.law_custody.specs.Words.{events_at}
use Rattle.node_core.specs.Node.{NodeState}
use Rattle.node_core.specs.declared.act.Act.{Act}
use Rattle.node_core.specs.declared.input.Input.{Input}
use Rattle.law_link_messages.specs.Fit.{AreFitActs, IsFitId, sent_on}
use Rattle.law_link_messages.specs.Heard.{bodies}
use Rattle.line_report.specs.declared.happening.Happening.{Happening}
use Rattle.line_step.specs.Near.{HasPlace, Near, has_gap_at, near_at, nears_did}
use Rattle.line_step.specs.Numbered.{Between, Stand, between_in, node_at, stand_at}
use Rattle.line_step.specs.Reasons.{has_link}
use Rattle.line_step.specs.State.{LineState, machine_in, with_world}
use Rattle.line_step.specs.Steps.{MachineSteps, is_second, read_by}
use Rattle.line_step.specs.World.{WorldParts, link_at}
use Rattle.line_step.proofs.Changing.{step_changes}
use Rattle.line_step.proofs.Counting.{machine_keeps_places}
use Rattle.line_step.proofs.Floors.{gaps_counted_beside, gaps_stay, place_own}
use Rattle.line_step.proofs.Nearby.{acts_near}
use Rattle.line_step.proofs.Numbers.{machine_set_own, machine_within}
use Rattle.law_one_standing.proofs.Carrying.{SaysAlone}
use Rattle.law_one_standing.proofs.RestLine.{links_stay, node_there}
use Rattle.law_twelve_steps.proofs.Beside.{reaches, signals_reach}
use Rattle.law_twelve_steps.proofs.Lower.{IsLower, Lower}
use Rattle.law_twelve_steps.proofs.Reaching.{above_of, all_between, below_of, unread_of}
use Rattle.law_twelve_steps.proofs.Saying.{bodies_count, entry_drives, entry_says, exit_drives, exit_says, few_down, few_up, bodies_both as both_bodies}
use Rattle.law_twelve_steps.proofs.Stage.{Joint, Way, across, begun, drive_after, entry_on, exit_on, fresh, inside, left_of}
use Rattle.law_twelve_steps.proofs.Texts.{Carrying}
use Rattle.law_twelve_steps.proofs.Turning.{AboveEnds, BelowEnds, is_settled}
use Rattle.law_twelve_steps.proofs.Upper.{IsUpper, Upper}

-- what lies in the gap
pub data LiesAs : Way → Gap → Type 0 where
  lies_fresh : LiesAs fresh gaps.Free
  lies_begun : {board : Board} → LiesAs begun (gaps.Begun board)
  lies_across : {board : Board} → LiesAs across (gaps.Left board)
  lies_inside : LiesAs inside gaps.Free

pub record IsGap (w : Way) (u : Upper) (l : Lower) (gap : AtGap) : Type 0 where
  pub lies : LiesAs w gap.lies
  pub exit : gap.exit_drive ≡ exit_on w u
  pub entry : gap.entry_drive ≡ entry_on w l

-- THE STAGE: how far the handover of a board with this record at gap k is, where so many link steps are left at most. The flag: it was told that
-- the board has settled
pub record Stage (k : ℕ) (id : Record) (left : ℕ) (told : Bool) (s : LineState) : Type 0 where
  pub a : Record
  pub b : Record
  pub named : a.id ≡ id.id
  pub taken : b ≡ id
  pub same : b.id ≡ a.id
  pub short : IsFitId a.id
  pub w : Way
  pub u : Upper
  pub l : Lower
  pub up_seen : List SensorEvent
  pub down_seen : List SensorEvent
  pub up : List Message
  pub down : List Message
  pub linked : has_link k s ≡ true
  pub upper : IsUpper a u (node_at s k).lane.body
  pub lower : IsLower (node_at s (k + 1)).capacity b l (node_at s (k + 1)).lane.body
  pub up_unread : events_at Exit (machine_at s.world.floor k).unread ≡ up_seen
  pub down_unread : events_at Entry (machine_at s.world.floor (k + 1)).unread ≡ down_seen
  pub link : Carrying (node_at s k).lane.exit_bytes (node_at s (k + 1)).lane.entry_bytes (link_at k s.world) up down
  pub gap : IsGap w u l (gap_at s.world.floor k)
  pub joint : Joint a b w u up_seen l down_seen (bodies up) (bodies down)
  pub few : left_of w u l ≤ left
  pub settles : is_settled l ≡ true → told ≡ true

-- a line brings it forth: so many link steps are fewer
pub record Forth (k : ℕ) (id : Record) (left spare : ℕ) (told : Bool) (next : LineState) : Type 0 where
  pub now : ℕ
  pub fewer : now + spare ≤ left
  pub stage : Stage k id now told next

-- ---- a link and a machine that are there

by_tests : (k n : ℕ) (one two : Bool) → nat_le 1 k ≡ one → nat_lt k n ≡ two → (one && two) ≡ true → (1 ≤ k) × (k + 1 ≤ n)
by_tests k n true true x y is = (leb-true 1 k x, (let less = ltb-true k n y in omega (arith, less)))
by_tests k n true false x y is = absurd (cc)
by_tests k n false two x y is = absurd (cc)

pub counted : (k : ℕ) (s : LineState) → has_link k s ≡ true → (1 ≤ k) × (k + 1 ≤ length s.machines)
counted k s is = by_tests k (length s.machines) (nat_le 1 k) (nat_lt k (length s.machines)) refl refl is

-- each machine of the line has its place on the floor, and each but the first a link before it
pub record AreCounted (s : LineState) : Type 0 where
  pub floor : length s.world.floor.machines ≡ length s.machines
  pub links : length s.world.links ≡ length s.machines - 1

-- ---- a step of a machine, seen at one of its sides

-- what a step of a machine leaves behind it
pub record Stepped (m : ℕ) (side : Side) (told : List Act) (before between : Between) (node : NodeState) (next : LineState) : Type 0 where
  pub between_is : between ≡ all_between side told before
  pub unread : (machine_at next.world.floor m).unread ≡ []
  pub node_is : node_at next m ≡ node

pub gap_there : (k : ℕ) (plan : FloorPlan) → 1 ≤ k → k ≤ length plan.gaps → (nat_le 1 k && nat_le k (length plan.gaps)) ≡ true
gap_there k plan one many = and_from (nat_le 1 k) (nat_le k (length plan.gaps)) (le-leb 1 k one) (le-leb k (length plan.gaps) many)

pub next_node : (number m : ℕ) (input : Input) (s0 next : LineState) (done : List Happening) (steps : MachineSteps number m input s0 next done) → node_at next m ≡ steps.next
next_node number m input s0 next done steps = node_there m next steps.next (ap (machine_in m) steps.after_is ∙ machine_set_own m s0 steps.node steps.next steps.there)

near_next : (number m : ℕ) (input : Input) (s0 next : LineState) (done : List Happening) (steps : MachineSteps number m input s0 next done) → length s0.world.floor.machines ≡ length s0.machines
    → near_at m next.world ≡ nears_did (λ side. has_gap_at m (read_by m s0.world).floor side) (is_second input) steps.acts (near_at m (read_by m s0.world))
near_next number m input s0 next done steps many =
    let within = machine_within m s0 steps.node steps.there in
    let read : WorldParts = read_by m s0.world in
    let one = within.0 in
    let most = within.1 in
    let places : length read.floor.machines ≡ length s0.world.floor.machines = machine_keeps_places s0.world.floor m (record (machine_at s0.world.floor m) { unread = [] }) in
    let there : HasPlace m (λ side. has_gap_at m read.floor side) read = record { counted = one; within = omega (arith, most, many, places); gaps = λ side. refl } in
    ap (λ (x : LineState). near_at m x.world) steps.after_is ∙ acts_near (λ side. has_gap_at m read.floor side) (is_second input) m steps.acts read there

read_unread : (m : ℕ) (s0 : LineState) → 1 ≤ m → m ≤ length s0.world.floor.machines → (machine_at (read_by m s0.world).floor m).unread ≡ []
read_unread m s0 one many = ap (λ (x : AtMachine). x.unread) (place_own s0.world.floor m (record (machine_at s0.world.floor m) { unread = [] }) one many)

read_gaps : (m k : ℕ) (s0 : LineState) → gap_at (read_by m s0.world).floor k ≡ gap_at s0.world.floor k
read_gaps m k s0 = gaps_stay s0.world.floor m k (record (machine_at s0.world.floor m) { unread = [] })

read_between : (m k : ℕ) (s0 : LineState) → between_in k (read_by m s0.world) ≡ between_in k s0.world
read_between m k s0 = ap (λ (g : AtGap). record { link = link_at k s0.world; gap = g }) (read_gaps m k s0)

gaps_read : (m : ℕ) (s0 : LineState) → length (read_by m s0.world).floor.gaps ≡ length s0.world.floor.gaps
gaps_read m s0 = gaps_counted_beside s0.world.floor m (record (machine_at s0.world.floor m) { unread = [] })

-- what reaches a side is told by its lane
pub lane_reaches : (side : Side) (number m : ℕ) (input : Input) (s0 next : LineState) (done : List Happening) (steps : MachineSteps number m input s0 next done) → reaches side steps.acts ≡ reaches side steps.steps.made
lane_reaches side number m input s0 next done steps =
    ap (λ (told : List Act). reaches side told) steps.steps.told ∙ signals_reach side steps.steps.made steps.node.bridge steps.next.lane.body

-- at its exit
pub exit_stepped : (number k : ℕ) (input : Input) (s0 next : LineState) (done : List Happening) (steps : MachineSteps number k input s0 next done) → is_second input ≡ false → length s0.world.floor.machines ≡ length s0.machines → k ≤ length s0.world.floor.gaps
    → Stepped k Exit (reaches Exit steps.acts) (between_in k s0.world) (between_in k next.world) steps.next next
exit_stepped number k input s0 next done steps first many gap =
    let within = machine_within k s0 steps.node steps.there in
    let near = near_next number k input s0 next done steps many in
    let read : WorldParts = read_by k s0.world in
    let start : Near = near_at k read in
    let most = within.1 in
    let has : (nat_le 1 k && nat_le k (length read.floor.gaps)) ≡ true = gap_there k read.floor within.0 (subst (λ (n : ℕ). k ≤ n) (sym (gaps_read k s0)) gap) in
    let off : nears_did (λ side. has_gap_at k read.floor side) (is_second input) steps.acts start ≡ nears_did (λ side. has_gap_at k read.floor side) false steps.acts start = ap (λ (second : Bool). nears_did (λ side. has_gap_at k read.floor side) second steps.acts start) first in
    record {
      between_is = ap (λ (n : Near). n.below) (near ∙ off) ∙ (below_of (λ side. has_gap_at k read.floor side) steps.acts start has ∙ ap (λ (b : Between). all_between Exit (reaches Exit steps.acts) b) (read_between k k s0));
      unread = ap (λ (n : Near). n.place.unread) near ∙ (unread_of (λ side. has_gap_at k read.floor side) (is_second input) steps.acts start ∙ read_unread k s0 within.0 (omega (arith, most, many)));
      node_is = next_node number k input s0 next done steps;
    }

-- and at its entry
pub entry_stepped : (number k : ℕ) (input : Input) (s0 next : LineState) (done : List Happening) (steps : MachineSteps number (k + 1) input s0 next done) → length s0.world.floor.machines ≡ length s0.machines → 1 ≤ k → k ≤ length s0.world.floor.gaps
    → Stepped (k + 1) Entry (reaches Entry steps.acts) (between_in k s0.world) (between_in k next.world) steps.next next
entry_stepped number k input s0 next done steps many one gap =
    let m = k + 1 in
    let within = machine_within m s0 steps.node steps.there in
    let near = near_next number m input s0 next done steps many in
    let read : WorldParts = read_by m s0.world in
    let start : Near = near_at m read in
    let most = within.1 in
    let has : (nat_le 1 (m - 1) && nat_le (m - 1) (length read.floor.gaps)) ≡ true =
    ap (λ (n : ℕ). nat_le 1 n && nat_le n (length read.floor.gaps)) (before_one k) ∙ gap_there k read.floor one (subst (λ (n : ℕ). k ≤ n) (sym (gaps_read m s0)) gap) in
    let here : between_in (m - 1) next.world ≡ all_between Entry (reaches Entry steps.acts) (between_in (m - 1) read) =
    ap (λ (n : Near). n.above) near ∙ above_of (λ side. has_gap_at m read.floor side) (is_second input) steps.acts start has in
    record {
      between_is = ap (λ (n : ℕ). between_in n next.world) (sym (before_one k)) ∙ (here ∙ (ap (λ (n : ℕ). all_between Entry (reaches Entry steps.acts) (between_in n read)) (before_one k) ∙ ap (λ (b : Between). all_between Entry (reaches Entry steps.acts) b) (read_between m k s0)));
      unread = ap (λ (n : Near). n.place.unread) near ∙ (unread_of (λ side. has_gap_at m read.floor side) (is_second input) steps.acts start ∙ read_unread m s0 within.0 (omega (arith, most, many)));
      node_is = next_node number m input s0 next done steps;
    }

-- ---- the machine above has made a step, and the line stands where it leaves it

few_messages : (ms : List Message) → length (bodies ms) ≤ 15 → length ms ≤ 15
few_messages ms few =
    let count = bodies_count ms in
    omega (arith, few, count)

gap_exit : (w : Way) (u next : Upper) (l : Lower) (told : List Act) (gap now : AtGap) → IsGap w u l gap → now ≡ with_drive gap Exit (drive_after told gap.exit_drive) → drive_after told (exit_on w u) ≡ exit_on w next → IsGap w next l now
gap_exit w u next l told gap now g is drive =
    subst (λ (x : AtGap). IsGap w next l x) (sym is) (record { lies = g.lies; exit = ap (λ (d : Bool). drive_after told d) g.exit ∙ drive; entry = g.entry })

gap_entry : (w : Way) (u : Upper) (l next : Lower) (told : List Act) (gap now : AtGap) → IsGap w u l gap → now ≡ with_drive gap Entry (drive_after told gap.entry_drive) → drive_after told (entry_on w l) ≡ entry_on w next → IsGap w u next now
gap_entry w u l next told gap now g is drive =
    subst (λ (x : AtGap). IsGap w u next x) (sym is) (record { lies = g.lies; exit = g.exit; entry = ap (λ (d : Bool). drive_after told d) g.entry ∙ drive })

pub finish_above : SaysAlone → (k : ℕ) (id : Record) (number left spare : ℕ) (told_then : Bool) (input : Input) (s : LineState) (w0 : WorldParts) (next : LineState) (done : List Happening) (st : Stage k id left told_then s) → AreCounted s → length s.world.floor.gaps ≡ length s.world.floor.machines - 1 → w0.floor ≡ s.world.floor → is_second input ≡ false
    → (steps : MachineSteps number k input (with_world w0 s) next done) → (ups : List Message) → Carrying steps.next.lane.exit_bytes (node_at s (k + 1)).lane.entry_bytes (link_at k w0) ups st.down
    → (u : Upper) (told : List Act) → IsUpper st.a u steps.next.lane.body → reaches Exit steps.acts ≡ told → AreFitActs told → AboveEnds st.a st.b st.w st.u st.l st.down_seen (bodies ups) (bodies st.down) spare u told
    → Forth k id left spare told_then next
finish_above alone k id number left spare told_then input s w0 next done st together whole floor first steps ups carrying u told upper reached fit e =
    let s0 : LineState = with_world w0 s in
    let few = counted k s st.linked in
    let one = few.0 in
    let most = few.1 in
    let places = together.floor in
    let many : length w0.floor.machines ≡ length s.machines = ap (λ (f : FloorPlan). length f.machines) floor ∙ places in
    let gaps : length w0.floor.gaps ≡ length s.world.floor.gaps = ap (λ (f : FloorPlan). length f.gaps) floor in
    let x = exit_stepped number k input s0 next done steps first many (omega (arith, most, places, whole, gaps)) in
    let changes = step_changes number k input s0 next done steps in
    let apart : k + 1 ≢ k = omega arith in
    let beside : stand_at next (k + 1) ≡ stand_at s0 (k + 1) = changes.machines (k + 1) apart in
    let b0 : Between = between_in k w0 in
    let b1 : between_in k next.world ≡ all_between Exit told b0 = x.between_is ∙ ap (λ (acts : List Act). all_between Exit acts b0) reached in
    let joint : Joint st.a st.b st.w u [] st.l st.down_seen (bodies ups) (bodies (st.down ++ sent_on Exit told)) =
    subst (λ (d : List Horizontal). Joint st.a st.b st.w u [] st.l st.down_seen (bodies ups) d) (sym (both_bodies st.down (sent_on Exit told))) e.joint in
    let link : Carrying steps.next.lane.exit_bytes (node_at s (k + 1)).lane.entry_bytes (all_between Exit told b0).link ups (st.down ++ sent_on Exit told) =
    exit_says alone told st.down b0 e.said fit (few_messages (st.down ++ sent_on Exit told) (few_down joint)) carrying in
    let fewer = e.fewer in
    let below : node_at next (k + 1) ≡ node_at s (k + 1) = ap (λ (x : Stand). x.node) beside in
    record {
      now = left_of st.w u st.l;
      fewer = (let most_left = st.few in omega (arith, fewer, most_left));
      stage = record {
        a = st.a;
        b = st.b;
        named = st.named;
        taken = st.taken;
        same = st.same;
        short = st.short;
        w = st.w;
        u = u;
        l = st.l;
        up_seen = [];
        down_seen = st.down_seen;
        up = ups;
        down = st.down ++ sent_on Exit told;
        linked = links_stay number k input s0 next done steps k ∙ st.linked;
        upper = subst (λ (n : NodeState). IsUpper st.a u n.lane.body) (sym x.node_is) upper;
        lower = subst (λ (n : NodeState). IsLower n.capacity st.b st.l n.lane.body) (sym below) st.lower;
        up_unread = ap (λ (ss : List Sensed). events_at Exit ss) x.unread;
        down_unread = ap (λ (y : Stand). events_at Entry y.place.unread) beside ∙ (ap (λ (f : FloorPlan). events_at Entry (machine_at f (k + 1)).unread) floor ∙ st.down_unread);
        link = subst (λ (l : LinkParts). Carrying (node_at next k).lane.exit_bytes (node_at next (k + 1)).lane.entry_bytes l ups (st.down ++ sent_on Exit told)) (sym (ap (λ (b : Between). b.link) b1))
            (subst (λ (n : NodeState). Carrying n.lane.exit_bytes (node_at next (k + 1)).lane.entry_bytes (all_between Exit told b0).link ups (st.down ++ sent_on Exit told)) (sym x.node_is)
            (subst (λ (n : NodeState). Carrying steps.next.lane.exit_bytes n.lane.entry_bytes (all_between Exit told b0).link ups (st.down ++ sent_on Exit told)) (sym below) link));
        gap = gap_exit st.w st.u u st.l told (gap_at s.world.floor k) (gap_at next.world.floor k) st.gap
            (ap (λ (b : Between). b.gap) b1 ∙ (exit_drives told b0 e.said ∙ ap (λ (f : FloorPlan). with_drive (gap_at f k) Exit (drive_after told (gap_at f k).exit_drive)) floor)) e.drive;
        joint = joint;
        few = (let n : ℕ = left_of st.w u st.l in omega arith);
        settles = st.settles;
      };
    }

-- and the machine below
pub finish_below : SaysAlone → (k : ℕ) (id : Record) (number left spare : ℕ) (told_then told_now : Bool) (input : Input) (s : LineState) (w0 : WorldParts) (next : LineState) (done : List Happening) (st : Stage k id left told_then s) → AreCounted s → length s.world.floor.gaps ≡ length s.world.floor.machines - 1 → w0.floor ≡ s.world.floor
    → (steps : MachineSteps number (k + 1) input (with_world w0 s) next done) → steps.next.capacity ≡ (node_at s (k + 1)).capacity → (downs : List Message) → Carrying (node_at s k).lane.exit_bytes steps.next.lane.entry_bytes (link_at k w0) st.up downs
    → (l : Lower) (told : List Act) → IsLower (node_at s (k + 1)).capacity st.b l steps.next.lane.body → reaches Entry steps.acts ≡ told → AreFitActs told → BelowEnds st.a st.b st.w st.u st.up_seen st.l (bodies st.up) (bodies downs) spare l told
    → (is_settled l ≡ true → told_now ≡ true) → Forth k id left spare told_now next
finish_below alone k id number left spare told_then told_now input s w0 next done st together whole floor steps capacity downs carrying l told lower reached fit e settles =
    let s0 : LineState = with_world w0 s in
    let few = counted k s st.linked in
    let one = few.0 in
    let most = few.1 in
    let places = together.floor in
    let many : length w0.floor.machines ≡ length s.machines = ap (λ (f : FloorPlan). length f.machines) floor ∙ places in
    let gaps : length w0.floor.gaps ≡ length s.world.floor.gaps = ap (λ (f : FloorPlan). length f.gaps) floor in
    let x = entry_stepped number k input s0 next done steps many one (omega (arith, most, places, whole, gaps)) in
    let changes = step_changes number (k + 1) input s0 next done steps in
    let apart : k ≢ k + 1 = omega arith in
    let beside : stand_at next k ≡ stand_at s0 k = changes.machines k apart in
    let b0 : Between = between_in k w0 in
    let b1 : between_in k next.world ≡ all_between Entry told b0 = x.between_is ∙ ap (λ (acts : List Act). all_between Entry acts b0) reached in
    let joint : Joint st.a st.b st.w st.u st.up_seen l [] (bodies (st.up ++ sent_on Entry told)) (bodies downs) =
    subst (λ (d : List Horizontal). Joint st.a st.b st.w st.u st.up_seen l [] d (bodies downs)) (sym (both_bodies st.up (sent_on Entry told))) e.joint in
    let link : Carrying (node_at s k).lane.exit_bytes steps.next.lane.entry_bytes (all_between Entry told b0).link (st.up ++ sent_on Entry told) downs =
    entry_says alone told st.up b0 e.said fit (few_messages (st.up ++ sent_on Entry told) (few_up joint)) carrying in
    let fewer = e.fewer in
    let above : node_at next k ≡ node_at s k = ap (λ (x : Stand). x.node) beside in
    let now : IsLower (node_at next (k + 1)).capacity st.b l (node_at next (k + 1)).lane.body =
    subst (λ (n : NodeState). IsLower n.capacity st.b l n.lane.body) (sym x.node_is) (subst (λ (c : ℕ). IsLower c st.b l steps.next.lane.body) (sym capacity) lower) in
    record {
      now = left_of st.w st.u l;
      fewer = (let most_left = st.few in omega (arith, fewer, most_left));
      stage = record {
        a = st.a;
        b = st.b;
        named = st.named;
        taken = st.taken;
        same = st.same;
        short = st.short;
        w = st.w;
        u = st.u;
        l = l;
        up_seen = st.up_seen;
        down_seen = [];
        up = st.up ++ sent_on Entry told;
        down = downs;
        linked = links_stay number (k + 1) input s0 next done steps k ∙ st.linked;
        upper = subst (λ (n : NodeState). IsUpper st.a st.u n.lane.body) (sym above) st.upper;
        lower = now;
        up_unread = ap (λ (y : Stand). events_at Exit y.place.unread) beside ∙ (ap (λ (f : FloorPlan). events_at Exit (machine_at f k).unread) floor ∙ st.up_unread);
        down_unread = ap (λ (ss : List Sensed). events_at Entry ss) x.unread;
        link = subst (λ (l : LinkParts). Carrying (node_at next k).lane.exit_bytes (node_at next (k + 1)).lane.entry_bytes l (st.up ++ sent_on Entry told) downs) (sym (ap (λ (b : Between). b.link) b1))
            (subst (λ (n : NodeState). Carrying (node_at next k).lane.exit_bytes n.lane.entry_bytes (all_between Entry told b0).link (st.up ++ sent_on Entry told) downs) (sym x.node_is)
            (subst (λ (n : NodeState). Carrying n.lane.exit_bytes steps.next.lane.entry_bytes (all_between Entry told b0).link (st.up ++ sent_on Entry told) downs) (sym above) link));
        gap = gap_entry st.w st.u st.l l told (gap_at s.world.floor k) (gap_at next.world.floor k) st.gap
            (ap (λ (b : Between). b.gap) b1 ∙ (entry_drives told b0 e.said ∙ ap (λ (f : FloorPlan). with_drive (gap_at f k) Entry (drive_after told (gap_at f k).entry_drive)) floor)) e.drive;
        joint = joint;
        few = (let n : ℕ = left_of st.w st.u l in omega arith);
        settles = settles;
      };
    }

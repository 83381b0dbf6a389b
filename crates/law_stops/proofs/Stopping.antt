-- What a stop of a script does to its machine: it notices at both sides that its connection is gone.
use Rattle.std.proofs.Common.{◌≡◌, ◌≢◌, ◌∙◌, ◌≤◌, ◌<◌, ◌+◌, ◌-◌, ◌&&◌, ◌⊎◌, inl, inr, ℕ, ℤ, Bool, true, false, not, List, [], ◌∷◌, Option, None, Some, is_none, is_some, Result, Ok, Err, refl, sym, ap, subst, arith, length, nat_le, nat_lt, if◌then◌else◌}
use Rattle.std.proofs.lemmas.Bool.{true≢false}
use Rattle.std.proofs.lemmas.Bool.Decides.{nat_tests}
use Rattle.board_record.specs.declared.sensed.Sensed.{Sensed}
use Rattle.hermes_horizontal.specs.Canonical.{canonical}
use Rattle.line_base.specs.declared.states.Side.{Side}
use Rattle.line_base.specs.declared.states.Side.TheVariants.{Entry, Exit}
use Rattle.line_link.specs.Flow.{coming}
use Rattle.line_link.specs.Link.{LinkParts, across, after_close, after_send, cut, flow_to, no_link, number_of, texted, within_limit}
use Rattle.line_report.specs.declared.happening.Happening.{Happening}
use Rattle.line_report.specs.declared.happening.Reason.{Reason}
use Rattle.line_script.specs.declared.line.ScriptLine.TheVariants as script
use Rattle.line_step.proofs.Counting.{machine_keeps_places, step_counts}
use Rattle.line_step.proofs.Numbers.{Written, beyond_or_not, floor_stays, link_beyond, link_set, link_set_other, machine_set_own, machine_within, none_or_one, nowhere, same_or_not, written}
use Rattle.line_step.specs.Acts.{act_did, acts_did, closes_on, counted, sends_on}
use Rattle.line_step.specs.Lines.{Becomes, LineSteps, Unless, cut_in}
use Rattle.line_step.specs.Parts.{where_may}
use Rattle.line_step.specs.Reasons.{May, behind_own, has_link, has_neighbour, if_there, is_dry_at, is_empty, is_loose, link_stands, may_cut, may_do, may_notice, may_stop, no_if}
use Rattle.line_step.specs.Requests.{Request, request_of}
use Rattle.line_step.specs.Requests as requests
use Rattle.line_step.specs.State.{LineState, machine_in}
use Rattle.line_step.specs.Steps.{MachineSteps, moment_of, read_by, unread_by}
use Rattle.line_step.specs.Together.{IsLineTogether}
use Rattle.line_step.specs.World.{WorldParts, end_of, link_at, link_of, with_floor, with_link}
use Rattle.node_core.specs.May.{may_do as node_may_do, may_of, may_reach, no_if as node_no_if}
use Rattle.node_core.specs.Node.{NodeState}
use Rattle.node_core.specs.Sides.{is_open}
use Rattle.node_core.specs.Step.{Steps}
use Rattle.node_core.specs.declared.act.Act.{Act}
use Rattle.node_core.specs.declared.act.Act.TheVariants as acts
use Rattle.node_core.specs.declared.act.Deed.{Deed}
use Rattle.node_core.specs.declared.act.Deed.TheVariants as deeds
use Rattle.node_core.specs.declared.input.Input.TheVariants as inputs
use Rattle.node_core.specs.declared.input.No.{No}
use Rattle.line_base.specs.declared.states.Role.TheVariants.{Upstream, Downstream}
use Rattle.line_report.specs.declared.happening.Happening.TheVariants as happenings
use Rattle.line_report.specs.declared.happening.Reason.TheVariants as reasons
use Rattle.line_step.proofs.Ascending.{choose_false}
use Rattle.line_step.proofs.Floors.{place_own, places_stay}
use Rattle.line_world.proofs.Keeping.{as_many_at_gap}
use Rattle.line_world.specs.FloorPlan.{AtMachine, FloorPlan, gap_at, machine_at, with_boards, with_drive, with_gap, with_unread}
use Rattle.line_world.specs.declared.board.Board.{Board}
use Rattle.line_world.specs.declared.moves.MoveNo.TheVariants as moves
use Rattle.node_core.specs.declared.input.No.TheVariants as nos
use Rattle.step_rules.proofs.Once.{closed-stays}
use Rattle.step_rules.proofs.Opening.{steps_open}
use Rattle.step_rules.specs.Opened.{open_after}
use Rattle.law_stops.specs.Stops.{LosesPower, NoticesIf, StopsLosePower}

-- ---- what parts of a line do

abbrev Later : LineState → LineState → Type 0
Later x after = (count : ℕ) × (after ≡ record x { lines = count })

unless_same : (may : May) (s next : LineState) (done told : List Happening) → Unless may s next done (Becomes s told next done) → next ≡ s
unless_same (Ok well) s next done told does = does.after_is
unless_same (Err why) s next done told does = does.after_is

later_of : {number : ℕ} {request : Request} {s after x : LineState} {told : List Happening} → (steps : LineSteps number request s after told) → steps.next ≡ x → Later x after
later_of steps is = (steps.lines, steps.after_is ∙ ap (λ (r : LineState). record r { lines = steps.lines }) is)

stop_does : (number machine : ℕ) (s after : LineState) (told : List Happening) → LineSteps number (requests.stops machine) s after told → Later s after
stop_does number machine s after told steps = later_of steps (unless_same (may_stop machine s) s steps.next steps.done (happenings.Stop machine ∷ []) steps.does)

abbrev Cutting : May → ℕ → LineState → LineState → Type 0
Cutting (Ok well) gap s after = Later (cut_in gap s) after
Cutting (Err why) gap s after = Later s after

cut_does : (may : May) (number gap : ℕ) (s after : LineState) (told : List Happening) → may_cut gap s ≡ may → LineSteps number (request_of (where_may may (script.Cut gap))) s after told → Cutting may gap s after
cut_does (Ok well) number gap s after told is steps =
    let does : Becomes (cut_in gap s) (happenings.Cut gap ∷ []) steps.next steps.done = subst (λ (m : May). Unless m s steps.next steps.done (Becomes (cut_in gap s) (happenings.Cut gap ∷ []) steps.next steps.done)) is steps.does in
    later_of steps does.after_is
cut_does (Err why) number gap s after told is steps = later_of steps steps.does.after_is

record HasNoticed (machine : ℕ) (side : Side) (s after : LineState) : Type 0 where
  number : ℕ
  next : LineState
  told : List Happening
  made : MachineSteps number machine (inputs.Notice side) s next told
  later : Later next after

abbrev Noticing : May → ℕ → Side → LineState → LineState → Type 0
Noticing (Ok well) machine side s after = HasNoticed machine side s after
Noticing (Err why) machine side s after = Later s after

notice_does : (may : May) (number machine : ℕ) (side : Side) (s after : LineState) (told : List Happening) → may_notice machine side s ≡ may → LineSteps number (request_of (where_may may (script.Notice machine side))) s after told → Noticing may machine side s after
notice_does (Ok well) number machine side s after told is steps = record {
  number = number;
  next = steps.next;
  told = steps.done;
  made = subst (λ (m : May). Unless m s steps.next steps.done (MachineSteps number machine (inputs.Notice side) s steps.next steps.done)) is steps.does;
  later = (steps.lines, steps.after_is);
}
notice_does (Err why) number machine side s after told is steps = later_of steps steps.does.after_is

-- ---- whether a side may notice

abbrev notice_if : Bool → Result (Unit {0}) No → Bool → Bool → May
notice_if neighbour reach stands dried =
    no_if (not neighbour) reasons.NoNeighbour (behind_own reach (no_if stands reasons.Standing (no_if (not dried) reasons.TextInFlight may_do)))

notice_at : (machine : ℕ) (side : Side) (x : LineState) (node : NodeState) → machine_in machine x ≡ Some node
    → may_notice machine side x ≡ notice_if (has_neighbour machine side x) (may_reach side node.lane.body) (link_stands machine side x.world) (is_dry_at machine side x.world)
notice_at machine side x node there =
    ap (λ (o : Option NodeState). if_there o (λ (n : NodeState). notice_if (has_neighbour machine side x) (may_reach side n.lane.body) (link_stands machine side x.world) (is_dry_at machine side x.world))) there

-- a side that has a connection may
record MayHear (neighbour stands dried : Bool) : Type 0 where
  near : neighbour ≡ true
  off : stands ≡ false
  dry : dried ≡ true

yes_notice : (neighbour stands dried : Bool) (well : Unit {0}) (why : Reason) → MayHear neighbour stands dried → notice_if neighbour (Ok well) stands dried ≡ Err why → ⊥
yes_notice true false true well why can is = cc
yes_notice false stands dried well why can is = absurd (true≢false (sym can.near))
yes_notice true true dried well why can is = absurd (true≢false can.off)
yes_notice true false false well why can is = absurd (true≢false (sym can.dry))

no_notice : (neighbour stands dried : Bool) (why : No) (well : Unit {0}) → notice_if neighbour (Err why) stands dried ≡ Ok well → ⊥
no_notice true stands dried why well is = cc
no_notice false stands dried why well is = cc

noticed : (reach : Result (Unit {0}) No) (neighbour stands dried : Bool) (well : Unit {0}) (side : Side) (s t : NodeState) (moment : ℤ) (told : List Act) → notice_if neighbour reach stands dried ≡ Ok well → Steps s [] (inputs.Notice side) moment t told → NoticesIf reach side s t
noticed (Ok done) neighbour stands dried well side s t moment told is steps = (moment, told, steps)
noticed (Err why) neighbour stands dried well side s t moment told is steps = absurd (no_notice neighbour stands dried why well is)

unnoticed : (reach : Result (Unit {0}) No) (neighbour stands dried : Bool) (why : Reason) (side : Side) (s t : NodeState) → notice_if neighbour reach stands dried ≡ Err why → ((done : Unit {0}) → reach ≡ Ok done → MayHear neighbour stands dried) → t ≡ s → NoticesIf reach side s t
unnoticed (Ok done) neighbour stands dried why side s t is can same = absurd (yes_notice neighbour stands dried done why (can done refl) is)
unnoticed (Err reason) neighbour stands dried why side s t is can same = same

open_by : (opened : Bool) (why : No) (done : Unit {0}) → node_no_if (not opened) why node_may_do ≡ Ok done → opened ≡ true
open_by true why done is = refl
open_by false why done is = cc

-- ---- the states between the parts: the machine is as it was, and so is the floor

record AtPart (machine : ℕ) (node : NodeState) (s x : LineState) : Type 0 where
  there : machine_in machine x ≡ Some node
  count : length x.machines ≡ length s.machines
  floor : x.world.floor ≡ s.world.floor

later_part : {machine : ℕ} {node : NodeState} {s x after : LineState} → AtPart machine node s x → Later x after → AtPart machine node s after
later_part {machine} {node} {s} {x} at later = subst (λ (r : LineState). AtPart machine node s r) (sym later.1) (record { there = at.there; count = at.count; floor = at.floor })

cut_part : {machine : ℕ} {node : NodeState} {s x : LineState} (gap : ℕ) → AtPart machine node s x → AtPart machine node s (cut_in gap x)
cut_part {x = x} gap at = record { there = at.there; count = at.count; floor = floor_stays gap (cut (link_at gap x.world)) x.world ∙ at.floor }

cutting_part : {machine : ℕ} {node : NodeState} {s x after : LineState} (may : May) (gap : ℕ) → AtPart machine node s x → Cutting may gap x after → AtPart machine node s after
cutting_part (Ok well) gap at cuts = later_part (cut_part gap at) cuts
cutting_part (Err why) gap at cuts = later_part at cuts

-- another link is as it was
cutting_other : (may : May) (gap link : ℕ) (x after : LineState) → link ≢ gap → Cutting may gap x after → link_at link after.world ≡ link_at link x.world
cutting_other (Ok well) gap link x after apart cuts = ap (λ (r : LineState). link_at link r.world) cuts.1 ∙ link_set_other gap link (cut (link_at gap x.world)) x.world apart
cutting_other (Err why) gap link x after apart cuts = ap (λ (r : LineState). link_at link r.world) cuts.1

-- ---- a link that is cut

record IsDown (side : Side) (link : LinkParts) : Type 0 where
  off : link.stands ≡ false
  dry : is_empty (coming (flow_to (end_of side) link)) ≡ true

cut_down : (side : Side) (link : LinkParts) → IsDown side (cut link)
cut_down Entry link = record { off = refl; dry = refl }
cut_down Exit link = record { off = refl; dry = refl }

none_down : (side : Side) → IsDown side no_link
none_down Entry = record { off = refl; dry = refl }
none_down Exit = record { off = refl; dry = refl }

set_down : (side : Side) (link : ℕ) (parts : LinkParts) (world : WorldParts) → IsDown side parts → IsDown side (link_at link (with_link link parts world))
set_down side link parts world down = by (link_set link parts world) where
  by : Written link parts world → IsDown side (link_at link (with_link link parts world))
  by (written is) = subst (λ (l : LinkParts). IsDown side l) (sym is) down
  by (nowhere is was) = subst (λ (l : LinkParts). IsDown side l) (sym is) (none_down side)

-- a link on which a side has a connection is there, and is cut
none_linked : (side : Side) → is_some (number_of (end_of side) no_link) ≡ false
none_linked Entry = refl
none_linked Exit = refl

record IsThere (link : ℕ) (world : WorldParts) : Type 0 where
  some : 1 ≤ link
  within : link ≤ length world.links

linked_there : (side : Side) (link : ℕ) (world : WorldParts) → is_some (number_of (end_of side) (link_at link world)) ≡ true → IsThere link world
linked_there side link world linked = by (none_or_one link) (beyond_or_not link (length world.links)) where
  no_way : (A : Type 0) → link_at link world ≡ no_link → A
  no_way A none = absurd (true≢false (sym linked ∙ ap (λ (l : LinkParts). is_some (number_of (end_of side) l)) none ∙ none_linked side))

  at_zero : link ≡ 0 → link_at link world ≡ no_link
  at_zero none = ap (λ (n : ℕ). link_at n world) none

  by : (link ≡ 0) ⊎ (1 ≤ link) → (link ≤ length world.links) ⊎ (length world.links < link) → IsThere link world
  by (inl none) past = no_way (IsThere link world) (at_zero none)
  by (inr some) (inl within) = record { some = some; within = within }
  by (inr some) (inr past) = no_way (IsThere link world) (link_beyond link world past)

above_held : (up down : Option ℕ) → is_some up ≡ true → (is_none up && is_none down) ≡ false
above_held (Some number) down is = refl
above_held None down is = cc

below_held : (up down : Option ℕ) → is_some down ≡ true → (is_none up && is_none down) ≡ false
below_held (Some number) (Some other) is = refl
below_held None (Some other) is = refl
below_held up None is = cc

not_loose : (side : Side) (link : LinkParts) → is_some (number_of (end_of side) link) ≡ true → is_loose link ≡ false
not_loose Exit link is = above_held link.upstream link.downstream is
not_loose Entry link is = below_held link.upstream link.downstream is

abbrev cut_if : Bool → Bool → May
cut_if there loose = no_if (not there) (reasons.Move moves.NoGap) (no_if loose (reasons.Node nos.NotConnected) may_do)

cut_yes : (there loose : Bool) (why : Reason) → there ≡ true → loose ≡ false → cut_if there loose ≡ Err why → ⊥
cut_yes true false why a b is = cc
cut_yes false loose why a b is = absurd (true≢false (sym a))
cut_yes true true why a b is = absurd (true≢false b)

is_link_there : (gap count links : ℕ) → 1 ≤ gap → gap ≤ links → links ≡ count - 1 → (nat_le 1 gap && nat_lt gap count) ≡ true
is_link_there gap count links some within is =
    let small : gap < count = omega (arith, some, within, is) in
    let one : nat_le 1 gap ≡ true = grind (arith, nat_tests) in
    let two : nat_lt gap count ≡ true = grind (arith, nat_tests) in
    ap (λ (b : Bool). b && nat_lt gap count) one ∙ two

side_down : {machine : ℕ} {node : NodeState} {s : LineState} (side : Side) (gap : ℕ) (x after : LineState) → IsLineTogether s → AtPart machine node s x → link_at gap x.world ≡ link_at gap s.world → is_some (number_of (end_of side) (link_at gap s.world)) ≡ true
    → (may : May) → may_cut gap x ≡ may → Cutting may gap x after → IsDown side (link_at gap after.world)
side_down side gap x after together at same linked (Ok well) is cuts =
    subst (λ (r : LineState). IsDown side (link_at gap r.world)) (sym cuts.1) (set_down side gap (cut (link_at gap x.world)) x.world (cut_down side (link_at gap x.world)))
side_down {s = s} side gap x after together at same linked (Err why) is cuts =
    let here = linked_there side gap s.world linked in
    let there : has_link gap x ≡ true = is_link_there gap (length x.machines) (length s.world.links) here.some here.within (together.links ∙ ap (λ (n : ℕ). n - 1) (sym at.count)) in
    let held : is_loose (link_at gap x.world) ≡ false = ap is_loose same ∙ not_loose side (link_at gap s.world) linked in
    absurd (cut_yes (has_link gap x) (is_loose (link_at gap x.world)) why there held is)

-- ---- what a machine's acts leave as it is: a link that is down behind it, and what it has read

record IsLeft (machine : ℕ) (world : WorldParts) : Type 0 where
  some : 1 ≤ machine
  within : machine ≤ length world.floor.machines
  down : IsDown Exit (link_at machine world)
  read : (machine_at world.floor machine).unread ≡ []

link_left : {machine : ℕ} {world : WorldParts} (link : ℕ) (parts : LinkParts) → (link ≡ machine → IsDown Exit parts) → IsLeft machine world → IsLeft machine (with_link link parts world)
link_left {machine} {world} link parts downs left = record {
  some = left.some;
  within = subst (λ (f : FloorPlan). machine ≤ length f.machines) (sym (floor_stays link parts world)) left.within;
  down = by (same_or_not machine link);
  read = ap (λ (f : FloorPlan). (machine_at f machine).unread) (floor_stays link parts world) ∙ left.read;
} where
  by : (machine ≡ link) ⊎ (machine ≢ link) → IsDown Exit (link_at machine (with_link link parts world))
  by (inl is) = subst (λ (n : ℕ). IsDown Exit (link_at n (with_link link parts world))) (sym is) (set_down Exit link parts world (downs (sym is)))
  by (inr apart) = subst (λ (l : LinkParts). IsDown Exit l) (sym (link_set_other link machine parts world apart)) left.down

floor_left : {machine : ℕ} {world : WorldParts} (floor : FloorPlan) → length floor.machines ≡ length world.floor.machines → (machine_at floor machine).unread ≡ (machine_at world.floor machine).unread → IsLeft machine world → IsLeft machine (with_floor floor world)
floor_left {machine} floor count same left = record { some = left.some; within = subst (λ (n : ℕ). machine ≤ n) (sym count) left.within; down = left.down; read = same ∙ left.read }

before_not : (machine : ℕ) → 1 ≤ machine → machine - 1 ≡ machine → ⊥
before_not machine some is = omega (arith, some, is)

sent_left : (machine : ℕ) (side : Side) (text : List ℕ) (world : WorldParts) → IsLeft machine world → IsLeft machine (sends_on machine side text world)
sent_left machine Exit text world left =
    link_left machine (after_send (end_of Exit) text (link_at machine world)) (λ is. subst (λ (l : LinkParts). IsDown Exit l) (sym (choose_false (link_at machine world).stands (within_limit (across (end_of Exit)) (texted (across (end_of Exit)) text (link_at machine world))) (link_at machine world) left.down.off)) left.down) left
sent_left machine Entry text world left = link_left (machine - 1) (after_send (end_of Entry) text (link_at (machine - 1) world)) (λ is. absurd (before_not machine left.some is)) left

closed_left : (machine : ℕ) (side : Side) (world : WorldParts) → IsLeft machine world → IsLeft machine (closes_on machine side world)
closed_left machine Exit world left = link_left machine (after_close (end_of Exit) (link_at machine world)) (λ is. record { off = refl; dry = refl }) left
closed_left machine Entry world left = link_left (machine - 1) (after_close (end_of Entry) (link_at (machine - 1) world)) (λ is. absurd (before_not machine left.some is)) left

-- what lies in its list is no event
boards_left : {machine : ℕ} {world : WorldParts} (boards : List Board) → IsLeft machine world → IsLeft machine (with_floor (with_boards world.floor machine boards) world)
boards_left {machine} {world} boards left =
    let now : AtMachine = record (machine_at world.floor machine) { boards = boards } in
    floor_left (with_boards world.floor machine boards) (machine_keeps_places world.floor machine now) (ap (λ (at : AtMachine). at.unread) (place_own world.floor machine now left.some left.within)) left

counted_left : (machine : ℕ) (deed : Deed) (world : WorldParts) → IsLeft machine world → IsLeft machine (counted deed world)
counted_left machine (deeds.Opens id) world left = record { some = left.some; within = left.within; down = left.down; read = left.read }
counted_left machine (deeds.Settles id) world left = record { some = left.some; within = left.within; down = left.down; read = left.read }
counted_left machine _ world left = left

act_left : (machine : ℕ) (act : Act) (world : WorldParts) → IsLeft machine world → IsLeft machine (act_did false machine act world).world
act_left machine (acts.Sends side message) world left = sent_left machine side (canonical message) world left
act_left machine (acts.Closes side) world left = closed_left machine side world left
act_left machine (acts.Notices side) world left = closed_left machine side world left
act_left machine (acts.Drive side on) world left =
    let gap = link_of machine side in
    let now = with_drive (gap_at world.floor gap) side on in
    floor_left (with_gap world.floor gap now) (as_many_at_gap world.floor gap now) (ap (λ (at : AtMachine). at.unread) (places_stay world.floor gap machine now)) left
act_left machine (acts.Deed deed) world left = counted_left machine deed world left
act_left machine (acts.Inserts id) world left = boards_left _ left
act_left machine (acts.Removes id) world left = boards_left _ left
act_left machine (acts.Replaces old new) world left = boards_left _ left
act_left machine (acts.Gives id to) world left = boards_left _ left
act_left machine (acts.Gets id) world left = boards_left _ left
act_left machine act world left = left

acts_left : (machine : ℕ) (told : List Act) (world : WorldParts) → IsLeft machine world → IsLeft machine (acts_did false machine told world).world
acts_left machine [] world left = left
acts_left machine (act ∷ others) world left = acts_left machine others (act_did false machine act world).world (act_left machine act world left)

-- ---- THE STOP

some_is : (a b : NodeState) (o : Option NodeState) → o ≡ Some a → o ≡ Some b → a ≡ b
some_is a b o one two = cc

two_links : (machine : ℕ) → 1 ≤ machine → machine ≢ machine - 1
two_links machine some is = omega (arith, some, is)

-- what is known of the exit where it has a connection
record IsReady (machine : ℕ) (x : LineState) : Type 0 where
  left : IsLeft machine x.world
  near : machine < length x.machines

ready_later : {machine : ℕ} {x after : LineState} → IsReady machine x → Later x after → IsReady machine after
ready_later {machine} ready later = subst (λ (r : LineState). IsReady machine r) (sym later.1) (record { left = ready.left; near = ready.near })

-- behind both cuts
record IsCutOff (machine : ℕ) (node : NodeState) (x : LineState) : Type 0 where
  there : machine_in machine x ≡ Some node
  read : unread_by machine x.world ≡ []
  entry : is_open Entry node.lane.body ≡ true → MayHear (has_neighbour machine Entry x) (link_stands machine Entry x.world) (is_dry_at machine Entry x.world)
  exit : is_open Exit node.lane.body ≡ true → IsReady machine x

cut_off : (machine : ℕ) (node : NodeState) (s s1 s2 s3 : LineState) → IsLineTogether s → machine_in machine s ≡ Some node → unread_by machine s.world ≡ [] → Later s s1 → Cutting (may_cut (machine - 1) s1) (machine - 1) s1 s2 → Cutting (may_cut machine s2) machine s2 s3
    → IsCutOff machine node s3
cut_off machine node s s1 s2 s3 together there read one two three =
    let place = machine_within machine s node there in
    let begins : AtPart machine node s s = record { there = there; count = refl; floor = refl } in
    let first : AtPart machine node s s1 = later_part begins one in
    let second : AtPart machine node s s2 = cutting_part (may_cut (machine - 1) s1) (machine - 1) first two in
    let third : AtPart machine node s s3 = cutting_part (may_cut machine s2) machine second three in
    record {
      there = third.there;
      read = ap (λ (f : FloorPlan). (machine_at f machine).unread) third.floor ∙ read;
      entry = λ opened.
          let linked : is_some (number_of (end_of Entry) (link_at (machine - 1) s.world)) ≡ true = together.joined machine Entry node there ∙ opened in
          let here = linked_there Entry (machine - 1) s.world linked in
          let some : 1 ≤ machine - 1 = here.some in
          let near : nat_lt 1 machine ≡ true = (let big : 1 < machine = omega (arith, some) in grind (arith, nat_tests)) in
          let before : IsDown Entry (link_at (machine - 1) s2.world) = side_down Entry (machine - 1) s1 s2 together first (ap (λ (r : LineState). link_at (machine - 1) r.world) one.1) linked (may_cut (machine - 1) s1) refl two in
          let down : IsDown Entry (link_at (machine - 1) s3.world) = subst (λ (l : LinkParts). IsDown Entry l) (sym (cutting_other (may_cut machine s2) machine (machine - 1) s2 s3 (before_not machine place.0) three)) before in
          record { near = near; off = down.off; dry = down.dry };
      exit = λ opened.
          let linked : is_some (number_of (end_of Exit) (link_at machine s.world)) ≡ true = together.joined machine Exit node there ∙ opened in
          let here = linked_there Exit machine s.world linked in
          let within : machine ≤ length s.world.links = here.within in
          let small : machine < length s.machines = omega (arith, place.0, within, together.links) in
          let same : link_at machine s2.world ≡ link_at machine s.world = cutting_other (may_cut (machine - 1) s1) (machine - 1) machine s1 s2 (two_links machine place.0) two ∙ ap (λ (r : LineState). link_at machine r.world) one.1 in
          let down : IsDown Exit (link_at machine s3.world) = side_down Exit machine s2 s3 together second same linked (may_cut machine s2) refl three in
          let places : machine ≤ length s3.world.floor.machines = subst (λ (f : FloorPlan). machine ≤ length f.machines) (sym third.floor) (subst (λ (n : ℕ). machine ≤ n) (sym together.floor) place.1) in
          record {
            left = record { some = place.0; within = places; down = down; read = ap (λ (f : FloorPlan). (machine_at f machine).unread) third.floor ∙ read };
            near = subst (λ (n : ℕ). machine < n) (sym third.count) small;
          };
    }

-- ---- behind the notice at the entry

record IsBetween (machine : ℕ) (node : NodeState) (x : LineState) : Type 0 where
  between : NodeState
  there : machine_in machine x ≡ Some between
  notices : NoticesIf (may_of node (inputs.Notice Entry)) Entry node between
  exit : is_open Exit between.lane.body ≡ true → IsReady machine x

-- a step by which no connection is made leaves a closed side closed
still_closed : (side : Side) (at : Side) (s t : NodeState) (unread : List Sensed) (moment : ℤ) (told : List Act) → Steps s unread (inputs.Notice at) moment t told → is_open side t.lane.body ≡ true → is_open side s.lane.body ≡ true
still_closed side at s t unread moment told st opened = by (is_open side s.lane.body) (steps_open s unread (inputs.Notice at) moment t told side st) where
  by : (was : Bool) → is_open side t.lane.body ≡ open_after side was told → was ≡ true
  by true is = refl
  by false is = absurd (true≢false (sym opened ∙ is ∙ closed-stays side told))

read_left : {machine : ℕ} {world : WorldParts} → IsLeft machine world → IsLeft machine (read_by machine world)
read_left {machine} {world} left =
    let now : AtMachine = record (machine_at world.floor machine) { unread = [] } in
    floor_left (with_unread world.floor machine []) (machine_keeps_places world.floor machine now) (ap (λ (at : AtMachine). at.unread) (place_own world.floor machine now left.some left.within) ∙ sym left.read) left

made_there : (machine : ℕ) (side : Side) (x after : LineState) (h : HasNoticed machine side x after) → machine_in machine after ≡ Some h.made.next
made_there machine side x after h =
    ap (λ (r : LineState). machine_in machine r) h.later.1 ∙ ap (λ (r : LineState). machine_in machine r) h.made.after_is ∙ machine_set_own machine x h.made.node h.made.next h.made.there

made_steps : (machine : ℕ) (side : Side) (x after : LineState) (node : NodeState) → machine_in machine x ≡ Some node → unread_by machine x.world ≡ [] → (h : HasNoticed machine side x after) → Steps node [] (inputs.Notice side) (moment_of h.number) h.made.next h.made.acts
made_steps machine side x after node there read h =
    let same : h.made.node ≡ node = some_is h.made.node node (machine_in machine x) h.made.there there in
    subst (λ (l : List Sensed). Steps node l (inputs.Notice side) (moment_of h.number) h.made.next h.made.acts) read
    (subst (λ (n : NodeState). Steps n (unread_by machine x.world) (inputs.Notice side) (moment_of h.number) h.made.next h.made.acts) same h.made.steps)

made_ready : (machine : ℕ) (x after : LineState) → (h : HasNoticed machine Entry x after) → IsReady machine x → IsReady machine after
made_ready machine x after h ready =
    let world : WorldParts = (acts_did false machine h.made.acts (read_by machine x.world)).world in
    let left : IsLeft machine world = acts_left machine h.made.acts (read_by machine x.world) (read_left ready.left) in
    let counts = step_counts h.number machine (inputs.Notice Entry) x h.next h.told h.made in
    let next : IsReady machine h.next = record {
      left = subst (λ (r : LineState). IsLeft machine r.world) (sym h.made.after_is) left;
      near = subst (λ (n : ℕ). machine < n) (sym counts.machines) ready.near;
    } in
    ready_later next h.later

entry_stage : (machine : ℕ) (node : NodeState) (x after : LineState) (may : May) → IsCutOff machine node x → may_notice machine Entry x ≡ may → Noticing may machine Entry x after → IsBetween machine node after
entry_stage machine node x after (Ok well) cuts is h =
    let steps = made_steps machine Entry x after node cuts.there cuts.read h in
    record {
      between = h.made.next;
      there = made_there machine Entry x after h;
      notices = noticed (may_reach Entry node.lane.body) (has_neighbour machine Entry x) (link_stands machine Entry x.world) (is_dry_at machine Entry x.world) well Entry node h.made.next (moment_of h.number) h.made.acts (sym (notice_at machine Entry x node cuts.there) ∙ is) steps;
      exit = λ opened. made_ready machine x after h (cuts.exit (still_closed Exit Entry node h.made.next [] (moment_of h.number) h.made.acts steps opened));
    }
entry_stage machine node x after (Err why) cuts is later = record {
  between = node;
  there = ap (λ (r : LineState). machine_in machine r) later.1 ∙ cuts.there;
  notices = unnoticed (may_reach Entry node.lane.body) (has_neighbour machine Entry x) (link_stands machine Entry x.world) (is_dry_at machine Entry x.world) why Entry node node (sym (notice_at machine Entry x node cuts.there) ∙ is)
      (λ done reach. cuts.entry (open_by (is_open Entry node.lane.body) nos.NotConnected done reach)) refl;
  exit = λ opened. ready_later (cuts.exit opened) later;
}

-- ---- and at the exit

ready_hears : (machine : ℕ) (x : LineState) → IsReady machine x → MayHear (has_neighbour machine Exit x) (link_stands machine Exit x.world) (is_dry_at machine Exit x.world)
ready_hears machine x ready =
    let near : machine < length x.machines = ready.near in
    let test : nat_lt machine (length x.machines) ≡ true = grind (arith, nat_tests) in
    record { near = test; off = ready.left.down.off; dry = ready.left.down.dry }

exit_made : (machine : ℕ) (between : NodeState) (x after : LineState) (well : Unit {0}) (reach : Result (Unit {0}) No) → may_reach Exit between.lane.body ≡ reach → machine_in machine x ≡ Some between → (is_open Exit between.lane.body ≡ true → IsReady machine x)
    → notice_if (has_neighbour machine Exit x) reach (link_stands machine Exit x.world) (is_dry_at machine Exit x.world) ≡ Ok well → (h : HasNoticed machine Exit x after) → NoticesIf reach Exit between h.made.next
exit_made machine between x after well (Ok done) reach there exit is h =
    let ready = exit (open_by (is_open Exit between.lane.body) nos.NotConnected done reach) in
    (moment_of h.number, h.made.acts, made_steps machine Exit x after between there ready.left.read h)
exit_made machine between x after well (Err why) reach there exit is h = absurd (no_notice (has_neighbour machine Exit x) (link_stands machine Exit x.world) (is_dry_at machine Exit x.world) why well is)

exit_stage : (machine : ℕ) (node last : NodeState) (x after : LineState) (may : May) → (b : IsBetween machine node x) → may_notice machine Exit x ≡ may → Noticing may machine Exit x after → machine_in machine after ≡ Some last → LosesPower node last
exit_stage machine node last x after (Ok well) b is h ends =
    let same : h.made.next ≡ last = some_is h.made.next last (machine_in machine after) (made_there machine Exit x after h) ends in
    let notices : NoticesIf (may_of b.between (inputs.Notice Exit)) Exit b.between h.made.next = exit_made machine b.between x after well (may_reach Exit b.between.lane.body) refl b.there b.exit (sym (notice_at machine Exit x b.between b.there) ∙ is) h in
    record { between = b.between; entry = b.notices; exit = subst (λ (n : NodeState). NoticesIf (may_of b.between (inputs.Notice Exit)) Exit b.between n) same notices }
exit_stage machine node last x after (Err why) b is later ends =
    let there : machine_in machine after ≡ Some b.between = ap (λ (r : LineState). machine_in machine r) later.1 ∙ b.there in
    let same : last ≡ b.between = some_is last b.between (machine_in machine after) ends there in
    let notices : NoticesIf (may_of b.between (inputs.Notice Exit)) Exit b.between last =
    unnoticed (may_reach Exit b.between.lane.body) (has_neighbour machine Exit x) (link_stands machine Exit x.world) (is_dry_at machine Exit x.world) why Exit b.between last (sym (notice_at machine Exit x b.between b.there) ∙ is)
    (λ done reach. ready_hears machine x (b.exit (open_by (is_open Exit b.between.lane.body) nos.NotConnected done reach))) same in
    record { between = b.between; entry = b.notices; exit = notices }

-- ---- its five parts

pub stops_lose : StopsLosePower
stops_lose s machine [] node last together there read play ends = absurd play
stops_lose s machine (one ∷ []) node last together there read play ends = absurd play.1
stops_lose s machine (one ∷ (two ∷ [])) node last together there read play ends = absurd play.1.1
stops_lose s machine (one ∷ (two ∷ (three ∷ []))) node last together there read play ends = absurd play.1.1.1
stops_lose s machine (one ∷ (two ∷ (three ∷ (four ∷ [])))) node last together there read play ends = absurd play.1.1.1.1
stops_lose s machine (one ∷ (two ∷ (three ∷ (four ∷ (five ∷ []))))) node last together there read play ends =
    let stopped : Later s one.after = stop_does (s.lines + 1) machine s one.after one.told play.0.steps in
    let above : Cutting (may_cut (machine - 1) one.after) (machine - 1) one.after two.after = cut_does (may_cut (machine - 1) one.after) (one.after.lines + 1) (machine - 1) one.after two.after two.told refl play.1.0.steps in
    let below : Cutting (may_cut machine two.after) machine two.after three.after = cut_does (may_cut machine two.after) (two.after.lines + 1) machine two.after three.after three.told refl play.1.1.0.steps in
    let entry : Noticing (may_notice machine Entry three.after) machine Entry three.after four.after = notice_does (may_notice machine Entry three.after) (three.after.lines + 1) machine Entry three.after four.after four.told refl play.1.1.1.0.steps in
    let exit : Noticing (may_notice machine Exit four.after) machine Exit four.after five.after = notice_does (may_notice machine Exit four.after) (four.after.lines + 1) machine Exit four.after five.after five.told refl play.1.1.1.1.0.steps in
    let cuts = cut_off machine node s one.after two.after three.after together there read stopped above below in
    let between = entry_stage machine node three.after four.after (may_notice machine Entry three.after) cuts refl entry in
    exit_stage machine node last four.after five.after (may_notice machine Exit four.after) between refl exit ends
stops_lose s machine (one ∷ (two ∷ (three ∷ (four ∷ (five ∷ (six ∷ others)))))) node last together there read play ends = absurd play.1.1.1.1.1

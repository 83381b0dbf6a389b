-- THE RELATION OF RUNNING MACHINES GOES ON IN A TURN, where the machine's step keeps that of both its links, and what is on their
-- connections goes along.
use Rattle.std.proofs.Common.{Bool, List, ap, arith, false, inl, inr, length, refl, subst, sym, true, ℕ, ℤ, ◌&&◌, ◌+◌, ◌-◌, ◌∙◌, ◌≡◌, ◌≢◌, ◌≤◌, ◌⊎◌}
use Rattle.std.specs.Prelude.{nat_le}
use Rattle.std.specs.List.{list_any}
use Rattle.law_one_standing.proofs.Mirroring.{gap_test}
use Rattle.line_base.specs.declared.states.Side.{Side}
use Rattle.line_base.specs.declared.states.Side.TheVariants.{Entry, Exit}
use Rattle.board_record.specs.declared.sensed.Sensed.{Sensed}
use Rattle.hermes_horizontal.specs.declared.message.Horizontal.{Horizontal}
use Rattle.handover_out.specs.declared.phase.Phase.TheVariants as out
use Rattle.handover_in.specs.declared.phase.Phase.TheVariants as inn
use Rattle.line_world.specs.Boards.{boards_on}
use Rattle.line_world.specs.FloorPlan.{AtMachine, IsWhole, free_gap, gap_at, machine_at}
use Rattle.line_world.specs.Ids.{IdsDiffer}
use Rattle.line_world.specs.declared.gap.AtGap.{AtGap}
use Rattle.node_core.specs.Node.{NodeState}
use Rattle.node_core.specs.Sound.{IsSound}
use Rattle.node_core.specs.declared.act.Act.{Act}
use Rattle.node_core.specs.declared.input.Input.{Input}
use Rattle.node_core.specs.declared.lane.Body.{Body as Machine}
use Rattle.node_core.proofs.Lasting.{may_alone, sound_after}
use Rattle.law_custody.specs.Pair.{Ghost, Pair}
use Rattle.law_machine_custody.specs.Ahead.{IsFreeRead}
use Rattle.law_machine_custody.specs.Good.{Goes}
use Rattle.law_machine_custody.specs.Scene.{Above, Below, Scene, all_met, link_above, link_below}
use Rattle.law_machine_custody.proofs.Far.{all_entry_below, all_exit_above, all_far_above, all_far_below, all_gap_above, all_gap_below, all_intake, all_last, all_outlet}
use Rattle.line_step.specs.Reasons.{has_link}
use Rattle.line_step.specs.Steps.{is_second}
use Rattle.line_step.proofs.Numbers.{same_or_not}
use Rattle.law_one_standing.specs.Carried.{IsFitMachine, Trace, stand_of}
use Rattle.law_one_standing.specs.Kept.{Keeps}
use Rattle.law_one_standing.specs.Places.{AreApart}
use Rattle.law_one_standing.proofs.ApartFloor.{counted, lies_on_floor, list_once, one_place_of}
use Rattle.law_one_standing.proofs.Behind.{before_apart, between_by, me_by, put_first, put_neither, put_second}
use Rattle.law_one_standing.proofs.Ends.{where_none, gap_there_not}
use Rattle.law_one_standing.proofs.MirroringEnds.{before_one}
use Rattle.law_one_standing.proofs.Plain.{either}
use Rattle.law_one_standing.proofs.RestScene.{all_far_drive_above, all_far_drive_below, entry_drive_off, exit_drive_off, same_gap}
use Rattle.law_one_standing.proofs.Steps.{SameAbove, SameBelow, afar_of}
use Rattle.law_one_standing.proofs.Traces.{put_other, put_same}
use Rattle.law_running_line.specs.Reading.{Reading}
use Rattle.law_running_line.specs.Running.{Running, unread_by}
use Rattle.law_running_line.specs.Stands.{Carried, IsAtRest, IsMade, Stands, between_of, is_joined, line_of, node_in}
use Rattle.law_running_line.specs.Steady.{scene_of}
use Rattle.law_running_line.specs.Turned.{acts_met, turned}
use Rattle.law_running_line.specs.Turns.{Turns}
use Rattle.law_running_line.specs.Waits.{Waits}
use Rattle.law_running_line.specs.Wire.{Wire}
use Rattle.law_running_line.proofs.FloorMoves.{to_line}
use Rattle.law_running_line.proofs.Relation.{within_of}
use Rattle.law_running_line.proofs.TurnFloor.{FloorThen, SameSides, acts_sides, floor_behind, gap_there}
use Rattle.law_running_line.proofs.TurnJoined.{StandsAs, far_then}
use Rattle.law_running_line.proofs.TurnKeeps.{Steps, step_keeps}
use Rattle.law_running_line.proofs.TurnShape.{floor_is, links_stay, many_nodes, next_there, numbers_differ, other_nodes, own_node}

-- ---- which gaps there are

abbrev links_of : ℕ → Running → Side → Bool
links_of j s Entry = has_link j (line_of s)
links_of j s Exit = has_link (j + 1) (line_of s)

gaps_as : (j : ℕ) (s : Running) → length s.floor.gaps ≡ length s.machines - 1 → 1 ≤ length s.machines → (side : Side) → gap_there j s.floor side ≡ links_of j s side
gaps_as j s many some Entry = ap (λ (k : ℕ). nat_le 1 k && nat_le k (length s.floor.gaps)) (before_one j) ∙ gap_test j (length s.machines) (length s.floor.gaps) many some
gaps_as j s many some Exit = gap_test (j + 1) (length s.machines) (length s.floor.gaps) many some

no_gap : (s : Running) (link : ℕ) → IsWhole s.floor → length s.floor.machines ≡ length s.machines → has_link link (line_of s) ≡ false → gap_at s.floor link ≡ free_gap
no_gap s link whole many none = gap_there_not s.floor link (length s.machines) whole many (where_none link (line_of s) none)

-- ---- the scene of a turn has the floor and the neighbours of its machine

-- but for links and what is on their way, all scenes of a turn are as the machine's own
pub record IsOwn (t : Trace) (s : Running) (j : ℕ) (c : Scene) : Type 0 where
  pub boards : c.boards ≡ (scene_of t s j).boards
  pub gap_above : c.above.gap ≡ gap_at s.floor j
  pub gap_below : c.below.gap ≡ gap_at s.floor (j + 1)
  pub exit : c.above.exit ≡ (node_in s j).lane.body.exit.session.state
  pub outlet : c.above.outlet ≡ (node_in s j).lane.body.outlet
  pub last : c.above.last_offer ≡ (node_in s j).lane.body.last_offer
  pub far_above : c.above.far ≡ machine_at s.floor j
  pub entry : c.below.entry ≡ (node_in s (j + 1 + 1)).lane.body.entry.session.state
  pub intake : c.below.intake ≡ (node_in s (j + 1 + 1)).lane.body.intake
  pub far_below : c.below.far ≡ machine_at s.floor (j + 1 + 1)

pub own_scene : (t : Trace) (s : Running) (j : ℕ) → IsOwn t s j (scene_of t s j)
own_scene t s j = record { boards = refl; gap_above = refl; gap_below = refl; exit = refl; outlet = refl; last = refl; far_above = refl; entry = refl; intake = refl; far_below = refl }

same_above : {c : Scene} (t : Trace) (s : Running) (j : ℕ) (input : Input) (wire : Wire) (told : List Act) → IsOwn t s j c → SameAbove (stand_of (line_of s) j) (acts_met input wire told c)
same_above {c = c} t s j input wire told own =
    let same : SameSides (acts_met input wire told c) (all_met told c) = acts_sides input wire told c in
    record {
      exit = ap (λ (u : Above). u.exit) same.above ∙ all_exit_above told c ∙ own.exit;
      outlet = ap (λ (u : Above). u.outlet) same.above ∙ all_outlet told c ∙ own.outlet;
      last = ap (λ (u : Above). u.last_offer) same.above ∙ all_last told c ∙ own.last;
      far = ap (λ (u : Above). u.far) same.above ∙ all_far_above told c ∙ own.far_above;
    }

same_below : {c : Scene} (t : Trace) (s : Running) (j : ℕ) (input : Input) (wire : Wire) (told : List Act) → IsOwn t s j c → SameBelow (stand_of (line_of s) (j + 1 + 1)) (acts_met input wire told c)
same_below {c = c} t s j input wire told own =
    let same : SameSides (acts_met input wire told c) (all_met told c) = acts_sides input wire told c in
    record {
      entry = ap (λ (u : Below). u.entry) same.below ∙ all_entry_below told c ∙ own.entry;
      intake = ap (λ (u : Below). u.intake) same.below ∙ all_intake told c ∙ own.intake;
      far = ap (λ (u : Below). u.far) same.below ∙ all_far_below told c ∙ own.far_below;
    }

-- ---- where there is no gap the drive is off, before the turn and behind it

still_above : {c : Scene} (t : Trace) (s : Running) (j : ℕ) (input : Input) (wire : Wire) (told : List Act) (g : Ghost) (rest : List Sensed) (body : Machine) → IsOwn t s j c → gap_at s.floor j ≡ free_gap
    → Pair g (link_above rest body (acts_met input wire told c)) → body.intake.phase ≡ inn.Idle → (acts_met input wire told c).above.gap ≡ free_gap
still_above {c = c} t s j input wire told g rest body own free pair idle =
    let d : Scene = acts_met input wire told c in
    let same : d.above.gap ≡ (all_met told c).above.gap = ap (λ (u : Above). u.gap) (acts_sides input wire told c).above in
    let was : c.above.gap ≡ free_gap = own.gap_above ∙ free in
    same_gap d.above.gap free_gap
    (ap (λ (x : AtGap). x.lies) same ∙ all_gap_above told c ∙ ap (λ (x : AtGap). x.lies) was)
    (ap (λ (x : AtGap). x.exit_drive) same ∙ all_far_drive_above told c ∙ ap (λ (x : AtGap). x.exit_drive) was)
    (entry_drive_off g rest body d pair idle)

still_below : {c : Scene} (t : Trace) (s : Running) (j : ℕ) (input : Input) (wire : Wire) (told : List Act) (g : Ghost) (rest : List Sensed) (body : Machine) → IsOwn t s j c → gap_at s.floor (j + 1) ≡ free_gap
    → Pair g (link_below rest body (acts_met input wire told c)) → body.outlet.phase ≡ out.Idle → (acts_met input wire told c).below.gap ≡ free_gap
still_below {c = c} t s j input wire told g rest body own free pair idle =
    let d : Scene = acts_met input wire told c in
    let same : d.below.gap ≡ (all_met told c).below.gap = ap (λ (u : Below). u.gap) (acts_sides input wire told c).below in
    let was : c.below.gap ≡ free_gap = own.gap_below ∙ free in
    same_gap d.below.gap free_gap
    (ap (λ (x : AtGap). x.lies) same ∙ all_gap_below told c ∙ ap (λ (x : AtGap). x.lies) was)
    (exit_drive_off g rest body d pair idle)
    (ap (λ (x : AtGap). x.entry_drive) same ∙ all_far_drive_below told c ∙ ap (λ (x : AtGap). x.entry_drive) was)

-- ---- each board in one place

-- what is gone then is not on the floor, and went from one place
pub record AreGone (t : Trace) (s : Running) : Type 0 where
  pub none : (k x : ℕ) → t.gone k x ≡ true → counted x (boards_on s.floor) ≡ 0
  pub once : (i k x : ℕ) → t.gone i x ≡ true → t.gone k x ≡ true → i ≡ k

apart_then : (t : Trace) (s : Running) → IsWhole s.floor → IdsDiffer s.floor → AreGone t s → AreApart (stand_of (line_of s)) (between_of t s)
apart_then t s whole differ gone = record {
  once = λ m. list_once s.floor m differ whole;
  one_place = λ x p q one two. one_place_of t (line_of s) x p q differ whole (to_line t s one) (to_line t s two);
  nowhere = λ k x p is lies. omega (arith, gone.none k x is, lies_on_floor t (line_of s) x p whole (to_line t s lies));
  gone_once = gone.once;
}

-- ---- WHAT IS THERE BEHIND A TURN

-- all that a turn of machine j + 1 leaves, but for what is on the connections of its two links. `c` is the scene in which its acts
-- are done, `body` the machine behind them
pub record TurnsInto (j : ℕ) {reading : Reading} {input : Input} {moment : ℤ} {before after : Running} {told : List Act} (t : Trace) (wire : Wire) (c : Scene) (gone : ℕ → Bool) (turn : Turns reading (j + 1) input moment before after told) : Type 0 where
  pub elsewhere : ℕ → Bool
  pub own : IsOwn t before j c
  pub goes : Goes (afar_of elsewhere (between_of t before j) gone) (node_in before j).lane.body.kept turn.rest (t.ghost j) (t.ghost (j + 1)) (scene_of t before j) turn.next.lane.body (acts_met input wire told c)
  pub joins : StandsAs j after (acts_met input wire told c)
  pub free : IsFreeRead turn.rest turn.next.lane.body

abbrev pub trace_then : {reading : Reading} {j : ℕ} {input : Input} {moment : ℤ} {before after : Running} {told : List Act} {t : Trace} {wire : Wire} {c : Scene} {gone : ℕ → Bool} {turn : Turns reading (j + 1) input moment before after told} → TurnsInto j t wire c gone turn → Trace
trace_then {j = j} {input = input} {told = told} {t = t} {wire = wire} {c = c} {gone = gone} into = turned j into.goes.a into.goes.b gone (acts_met input wire told c) t

pub floor_then : {reading : Reading} {j : ℕ} {input : Input} {moment : ℤ} {before after : Running} {told : List Act} {c : Scene} (t : Trace) → Stands t before → (turn : Turns reading (j + 1) input moment before after told) → IsOwn t before j c
    → FloorThen j turn.rest before.floor after.floor (all_met told c)
floor_then {j = j} {input = input} {before = before} {after = after} {told = told} {c = c} t st turn own =
    let within = within_of (j + 1) before turn.node turn.there in
    let many = st.many in
    let most = within.1 in
    floor_behind j (is_second input) told turn.rest before.floor after.floor c (record { within = omega (arith, many, most) }) (sym own.boards) (λ there. sym own.gap_above) (λ there. sym own.gap_below) (floor_is turn)

-- what is unread at the machine, and at the one below it
pub unread_then : (j : ℕ) {reading : Reading} {input : Input} {moment : ℤ} {before after : Running} {told : List Act} (t : Trace) → Stands t before → (turn : Turns reading (j + 1) input moment before after told) → unread_by (j + 1) after ≡ turn.rest
unread_then j {before = before} t st turn = ap (λ (m : AtMachine). m.unread) (floor_then t st turn (own_scene t before j)).place

pub unread_below : (j : ℕ) {reading : Reading} {input : Input} {moment : ℤ} {before after : Running} {told : List Act} (t : Trace) → Stands t before → (turn : Turns reading (j + 1) input moment before after told) → unread_by (j + 1 + 1) after ≡ unread_by (j + 1 + 1) before
unread_below j {before = before} t st turn = (let last : j + 1 + 1 ≢ j + 1 = omega arith in ap (λ (m : AtMachine). m.unread) ((floor_then t st turn (own_scene t before j)).other_places (j + 1 + 1) last))

-- the gaps on both sides are as the scene has them behind the acts
record GapsThen (j : ℕ) (after : Running) (d : Scene) : Type 0 where
  above : gap_at after.floor j ≡ d.above.gap
  below : gap_at after.floor (j + 1) ≡ d.below.gap

-- where there is no link no board is handed over behind the turn either
abbrev pub RestsThen : Running → Type 0
RestsThen s = (link : ℕ) → has_link link (line_of s) ≡ false → IsAtRest s link

gaps_then : {reading : Reading} {j : ℕ} {input : Input} {moment : ℤ} {before after : Running} {told : List Act} {t : Trace} {wire : Wire} {c : Scene} {gone : ℕ → Bool} (turn : Turns reading (j + 1) input moment before after told)
    → Stands t before → (into : TurnsInto j t wire c gone turn) → RestsThen after → GapsThen j after (acts_met input wire told c)
gaps_then {j = j} {input = input} {before = before} {after = after} {told = told} {t = t} {wire = wire} {c = c} turn st into rest =
    let d : Scene = acts_met input wire told c in
    let own = into.own in
    let within = within_of (j + 1) before turn.node turn.there in
    let f : FloorThen j turn.rest before.floor after.floor (all_met told c) = floor_then t st turn own in
    let same : SameSides d (all_met told c) = acts_sides input wire told c in
    let many = st.many in
    let whole = st.whole in
    let gaps : length before.floor.gaps ≡ length before.machines - 1 = omega (arith, many, whole) in
    let most = within.1 in
    let some : 1 ≤ length before.machines = omega (arith, most) in
    let now_many : length after.floor.machines ≡ length after.machines = f.machines ∙ many ∙ sym (many_nodes turn) in
    let now_whole : IsWhole after.floor = f.gaps ∙ whole ∙ ap (λ (n : ℕ). n - 1) (sym f.machines) in
    let next : node_in after (j + 1) ≡ turn.next = next_there turn in
    record {
      above = either (has_link j (line_of before)) (λ there. f.above (gaps_as j before gaps some Entry ∙ there) ∙ sym (ap (λ (u : Above). u.gap) same.above))
          (λ none. (let never : has_link j (line_of after) ≡ false = links_stay turn j ∙ none in
          no_gap after j now_whole now_many never
          ∙ sym (still_above t before j input wire told into.goes.a turn.rest turn.next.lane.body own (no_gap before j whole many none) into.goes.good.above_pair (ap (λ (n : NodeState). n.lane.body.intake.phase) (sym next) ∙ (rest j never).intake))));
      below = either (has_link (j + 1) (line_of before)) (λ there. f.below (gaps_as j before gaps some Exit ∙ there) ∙ sym (ap (λ (u : Below). u.gap) same.below))
          (λ none. (let never : has_link (j + 1) (line_of after) ≡ false = links_stay turn (j + 1) ∙ none in
          no_gap after (j + 1) now_whole now_many never
          ∙ sym (still_below t before j input wire told into.goes.b turn.rest turn.next.lane.body own (no_gap before (j + 1) whole many none) into.goes.good.below_pair (ap (λ (n : NodeState). n.lane.body.outlet.phase) (sym next) ∙ (rest (j + 1) never).outlet))));
    }

-- by number
steps_then : {reading : Reading} {j : ℕ} {input : Input} {moment : ℤ} {before after : Running} {told : List Act} {t : Trace} {wire : Wire} {c : Scene} {gone : ℕ → Bool} (turn : Turns reading (j + 1) input moment before after told)
    → Stands t before → (into : TurnsInto j t wire c gone turn) → RestsThen after
    → Steps j (stand_of (line_of before)) (between_of t before) (stand_of (line_of after)) (between_of (trace_then into) after) into.goes.a into.goes.b gone turn.next.lane.body turn.rest (acts_met input wire told c)
steps_then {j = j} {input = input} {before = before} {after = after} {told = told} {t = t} {wire = wire} {c = c} {gone = gone} turn st into rest =
    let d : Scene = acts_met input wire told c in
    let a : Ghost = into.goes.a in
    let b : Ghost = into.goes.b in
    let f : FloorThen j turn.rest before.floor after.floor (all_met told c) = floor_then t st turn into.own in
    let gaps : GapsThen j after d = gaps_then turn st into rest in
    record {
      changes = record {
        machines = λ k apart. me_by (ap (λ (n : NodeState). n.lane.body) (other_nodes turn k apart)) (f.other_places k apart);
        links = λ k here above. (
            let other : k ≢ j = λ is. above (ap (λ (n : ℕ). n + 1) is) in
            between_by (put_neither j k a b t.ghost other here) (ap (list_any is_joined) (far_then j k turn other here)) (f.other_gaps k here other) (put_neither j k d.above.up d.below.up t.up other here)
            (put_neither j k d.above.down d.below.down t.down other here) (put_other (j + 1) k gone t.gone here));
      };
      me = me_by (ap (λ (n : NodeState). n.lane.body) (next_there turn)) (f.place ∙ ap (λ bs. record { boards = bs; unread = turn.rest }) (sym (acts_sides input wire told c).boards));
      above = between_by (put_first j a b t.ghost) into.joins.above gaps.above (put_first j d.above.up d.below.up t.up) (put_first j d.above.down d.below.down t.down) (put_other (j + 1) j gone t.gone (before_apart j));
      below = between_by (put_second j a b t.ghost) into.joins.below gaps.below (put_second j d.above.up d.below.up t.up) (put_second j d.above.down d.below.down t.down) (put_same (j + 1) gone t.gone);
    }

-- the machine is sound then
sound_own : {reading : Reading} {machine : ℕ} {input : Input} {moment : ℤ} {before after : Running} {told : List Act} {t : Trace} (turn : Turns reading machine input moment before after told) → Stands t before → IsSound turn.next.capacity turn.next.lane.body
sound_own {machine = machine} {input = input} {moment = moment} {before = before} {told = told} turn st =
    sound_after turn.node turn.next turn.read input moment told (may_alone turn.node input turn.may) turn.steps (subst (λ (n : NodeState). IsSound n.capacity n.lane.body) (own_node turn) (st.sound machine))

keeps_then : {reading : Reading} {j : ℕ} {input : Input} {moment : ℤ} {before after : Running} {told : List Act} {t : Trace} {wire : Wire} {c : Scene} {gone : ℕ → Bool} (turn : Turns reading (j + 1) input moment before after told)
    → Stands t before → (into : TurnsInto j t wire c gone turn) → RestsThen after → AreApart (stand_of (line_of after)) (between_of (trace_then into) after)
    → Keeps (stand_of (line_of after)) (between_of (trace_then into) after)
keeps_then {j = j} {input = input} {before = before} {after = after} {told = told} {t = t} {wire = wire} {c = c} turn st into rest apart =
    step_keeps j (stand_of (line_of before)) (between_of t before) (stand_of (line_of after)) (between_of (trace_then into) after) turn.next.lane.body turn.rest (scene_of t before j) (acts_met input wire told c) refl refl st.keeps
    (same_above t before j input wire told into.own) (same_below t before j input wire told into.own) into.goes (sound_own turn st).offers apart (steps_then turn st into rest)

-- ---- what is known of each machine by itself

pub each_node : (P : NodeState → Type 0) {reading : Reading} {machine : ℕ} {input : Input} {moment : ℤ} {before after : Running} {told : List Act} (turn : Turns reading machine input moment before after told)
    → P turn.next → ((k : ℕ) → P (node_in before k)) → (k : ℕ) → P (node_in after k)
each_node P {machine = machine} {after = after} turn own all k = elim (same_or_not k machine) [
  | inl is ↦ subst (λ (n : ℕ). P (node_in after n)) (sym is) (subst P (sym (next_there turn)) own)
  | inr apart ↦ subst P (sym (other_nodes turn k apart)) (all k)
]

-- ---- connections, and what comes on them

-- of one link: what waits on it, and which messages come
pub record IsLinked (s : Running) (link : ℕ) (up down : List Horizontal) : Type 0 where
  pub waits : Waits (node_in s link).lane.body (node_in s (link + 1)).lane.body (unread_by (link + 1) s) (s.wires link)
  pub carried : Carried (node_in s link) (node_in s (link + 1)) up down (s.wires link)

-- of both links of machine j + 1, as its scene has them
pub record AreLinked (j : ℕ) (s : Running) (d : Scene) : Type 0 where
  pub above : IsLinked s j d.above.up d.above.down
  pub below : IsLinked s (j + 1) d.below.up d.below.down

abbrev linked_by : NodeState → NodeState → List Sensed → List Wire → List Horizontal → List Horizontal → Type 0
linked_by above below unread wires up down = Waits above.lane.body below.lane.body unread wires × Carried above below up down wires

linked_as : (a a2 b b2 : NodeState) (u u2 : List Sensed) (w w2 : List Wire) (up up2 down down2 : List Horizontal) → a2 ≡ a → b2 ≡ b → u2 ≡ u → w2 ≡ w → up2 ≡ up → down2 ≡ down → linked_by a b u w up down → linked_by a2 b2 u2 w2 up2 down2
linked_as a a2 b b2 u u2 w w2 up up2 down down2 ea eb eu ew eup edown l =
    subst (λ (x : NodeState). linked_by x b2 u2 w2 up2 down2) (sym ea)
    (subst (λ (x : NodeState). linked_by a x u2 w2 up2 down2) (sym eb)
    (subst (λ (x : List Sensed). linked_by a b x w2 up2 down2) (sym eu)
    (subst (λ (x : List Wire). linked_by a b u x up2 down2) (sym ew)
    (subst (λ (x : List Horizontal). linked_by a b u w x down2) (sym eup)
    (subst (λ (x : List Horizontal). linked_by a b u w up x) (sym edown) l)))))

each_link : {reading : Reading} {j : ℕ} {input : Input} {moment : ℤ} {before after : Running} {told : List Act} {t : Trace} {wire : Wire} {c : Scene} {gone : ℕ → Bool} (turn : Turns reading (j + 1) input moment before after told)
    → Stands t before → (into : TurnsInto j t wire c gone turn) → AreLinked j after (acts_met input wire told c) → (k : ℕ) → (k ≡ j) ⊎ (k ≢ j) → (k ≡ j + 1) ⊎ (k ≢ j + 1)
    → IsLinked after k ((trace_then into).up k) ((trace_then into).down k)
each_link {j = j} {input = input} {after = after} {told = told} {t = t} {wire = wire} {c = c} turn st into linked k (inl is) next =
    let d : Scene = acts_met input wire told c in
    subst (λ (n : ℕ). IsLinked after n ((trace_then into).up n) ((trace_then into).down n)) (sym is)
    (subst (λ (up : List Horizontal). IsLinked after j up ((trace_then into).down j)) (sym (put_first j d.above.up d.below.up t.up))
    (subst (λ (down : List Horizontal). IsLinked after j d.above.up down) (sym (put_first j d.above.down d.below.down t.down)) linked.above))
each_link {j = j} {input = input} {after = after} {told = told} {t = t} {wire = wire} {c = c} turn st into linked k (inr apart) (inl is) =
    let d : Scene = acts_met input wire told c in
    subst (λ (n : ℕ). IsLinked after n ((trace_then into).up n) ((trace_then into).down n)) (sym is)
    (subst (λ (up : List Horizontal). IsLinked after (j + 1) up ((trace_then into).down (j + 1))) (sym (put_second j d.above.up d.below.up t.up))
    (subst (λ (down : List Horizontal). IsLinked after (j + 1) d.below.up down) (sym (put_second j d.above.down d.below.down t.down)) linked.below))
each_link {j = j} {input = input} {before = before} {after = after} {told = told} {t = t} {wire = wire} {c = c} turn st into linked k (inr apart) (inr other) =
    let d : Scene = acts_met input wire told c in
    let f : FloorThen j turn.rest before.floor after.floor (all_met told c) = floor_then t st turn into.own in
    let below : k + 1 ≢ j + 1 = omega (arith, apart) in
    let all = linked_as (node_in before k) (node_in after k) (node_in before (k + 1)) (node_in after (k + 1)) (unread_by (k + 1) before) (unread_by (k + 1) after) (before.wires k) (after.wires k) (t.up k) ((trace_then into).up k) (t.down k) ((trace_then into).down k)
    (other_nodes turn k other) (other_nodes turn (k + 1) below) (ap (λ (m : AtMachine). m.unread) (f.other_places (k + 1) below)) (far_then j k turn apart other)
    (put_neither j k d.above.up d.below.up t.up apart other) (put_neither j k d.above.down d.below.down t.down apart other) (st.waits k, st.carried k) in
    record { waits = all.0; carried = all.1 }

-- ---- THE TURN

-- what else a turn leaves: no two boards with one id, what is gone lies nowhere, each machine's records are fit, and nothing is
-- handed over where there is no link
pub record LeavesAll (s : Running) (t : Trace) : Type 0 where
  pub differ : IdsDiffer s.floor
  pub gone : AreGone t s
  pub fit : (machine : ℕ) → IsFitMachine (line_of s) machine
  pub rest : RestsThen s
  pub made : (id : ℕ) → 1 ≤ counted id (boards_on s.floor) → IsMade s id
  pub olds : (link id : ℕ) → t.gone link id ≡ true → IsMade s id

pub turn_stands : {reading : Reading} {j : ℕ} {input : Input} {moment : ℤ} {before after : Running} {told : List Act} {t : Trace} {wire : Wire} {c : Scene} {gone : ℕ → Bool} (turn : Turns reading (j + 1) input moment before after told)
    → Stands t before → (into : TurnsInto j t wire c gone turn) → AreLinked j after (acts_met input wire told c) → LeavesAll after (trace_then into) → Stands (trace_then into) after
turn_stands {j = j} {input = input} {before = before} {after = after} {told = told} {t = t} {c = c} turn st into linked leaves =
    let f : FloorThen j turn.rest before.floor after.floor (all_met told c) = floor_then t st turn into.own in
    let whole : IsWhole after.floor = f.gaps ∙ st.whole ∙ ap (λ (n : ℕ). n - 1) (sym f.machines) in
    record {
      keeps = keeps_then turn st into leaves.rest (apart_then (trace_then into) after whole leaves.differ leaves.gone);
      waits = λ k. (each_link turn st into linked k (same_or_not k j) (same_or_not k (j + 1))).waits;
      carried = λ k. (each_link turn st into linked k (same_or_not k j) (same_or_not k (j + 1))).carried;
      rest = leaves.rest;
      fit = leaves.fit;
      sound = each_node (λ (n : NodeState). IsSound n.capacity n.lane.body) turn (sound_own turn st) st.sound;
      many = f.machines ∙ st.many ∙ sym (many_nodes turn);
      whole = whole;
      differ = leaves.differ;
      numbers = numbers_differ turn st.numbers;
      made = leaves.made;
      olds = leaves.olds;
    }

-- A STEP OF A MACHINE OF THE LINE is one in its scene, where what comes to its two sides is carried as its acts hear it.
use Rattle.std.proofs.Common.{le→leb, Bool, List, Option, Some, [], ap, arith, false, length, refl, subst, sym, true, ℕ, ◌+◌, ◌-◌, ◌&&◌, ◌∙◌, ◌≡◌, ◌≢◌, ◌≤◌, ◌++◌}
use Rattle.std.specs.Prelude.{nat_le, nat_lt}
use Rattle.law_one_standing.proofs.RestLine.{node_there}
use Rattle.line_base.specs.Moment.{IsMomentMillis}
use Rattle.line_base.specs.Text.{IsText}
use Rattle.line_base.specs.declared.states.Side.{Side}
use Rattle.line_base.specs.declared.states.Side.TheVariants.{Entry, Exit}
use Rattle.board_record.specs.Maker.{Maker}
use Rattle.board_record.specs.declared.sensed.Sensed.{Sensed}
use Rattle.line_report.specs.declared.happening.Happening.{Happening}
use Rattle.line_world.specs.FloorPlan.{AtMachine, FloorPlan, gap_at, machine_at, with_unread}
use Rattle.line_world.specs.declared.gap.AtGap.{AtGap}
use Rattle.node_core.specs.Desk.{Desk}
use Rattle.node_core.specs.Done.{Done}
use Rattle.node_core.specs.Event.{Event, event_of, maker_after}
use Rattle.node_core.specs.Node.{NodeState, desk_of}
use Rattle.node_core.specs.Step.{machine_step}
use Rattle.node_core.specs.declared.act.Act.{Act}
use Rattle.node_core.specs.declared.input.Input.{Input}
use Rattle.node_core.specs.declared.lane.Body.{Body}
use Rattle.node_core.specs.declared.word.Word.{Word}
use Rattle.law_link_messages.specs.Fit.{AreFitActs, Fits, IsFitBody, IsFitDesk, IsFitEvent, IsFitMaker}
use Rattle.law_link_messages.proofs.Eventing.{maker_stays_fit}
use Rattle.law_link_messages.proofs.Saying.{step_fits, signals_fit}
use Rattle.law_machine_custody.specs.Scene.{Scene, all_met}
use Rattle.line_step.specs.Near.{HasPlace, Near, has_gap_at, near_at, nears_did}
use Rattle.line_step.specs.Numbered.{node_at}
use Rattle.line_step.specs.Reasons.{has_link}
use Rattle.line_step.specs.State.{LineState, machine_in, with_world}
use Rattle.line_step.specs.Steps.{MachineSteps, is_second, moment_of, read_by, unread_by}
use Rattle.line_step.specs.World.{WorldParts, link_at}
use Rattle.line_step.proofs.Changing.{step_changes}
use Rattle.line_step.proofs.Counting.{SameWorld, place_same_world}
use Rattle.line_step.proofs.Floors.{gaps_stay, place_own}
use Rattle.line_step.proofs.Nearby.{acts_near}
use Rattle.line_step.proofs.Numbers.{machine_set_own, machine_within}
use Rattle.law_one_standing.specs.Carried.{Carries, IsFitMachine, Trace}
use Rattle.law_one_standing.specs.Mirrors.{AreHeard, IsReached, Mirrors, scene_at}
use Rattle.law_one_standing.specs.Stands.{Stands}
use Rattle.law_one_standing.proofs.Carrying.{SaysAlone}
use Rattle.law_one_standing.proofs.CarryingActs.{IsLike, acts_like}
use Rattle.law_one_standing.proofs.CarryingSides.{Joint}
use Rattle.law_one_standing.proofs.MirroringEnds.{IsAround, Reaches, before_one, reaches}
use Rattle.law_link_messages.proofs.SayingWhat.{both_said}
use Rattle.node_core.specs.Signals.{signalled}
use Rattle.smema_bridge.specs.Levels.{BridgeLevels}
use Rattle.law_one_standing.proofs.Signalled.{signals_passed}

-- ---- a machine that is there, by number

pub same_some : {a b : NodeState} → ◌≡◌ {A = Option NodeState} (Some a) (Some b) → a ≡ b
same_some is = cc

-- ---- its gaps

pub gap_by : (j n gaps : ℕ) (test : Bool) → nat_lt j n ≡ test → gaps ≡ n - 1 → 1 ≤ n → nat_le j gaps ≡ test
gap_by j n gaps true is many some = grind (arith, is)
gap_by j n gaps false is many some = grind (arith, is)

pub gap_test : (j n gaps : ℕ) → gaps ≡ n - 1 → 1 ≤ n → (nat_le 1 j && nat_le j gaps) ≡ (nat_le 1 j && nat_lt j n)
gap_test j n gaps many some = ap (λ (test : Bool). nat_le 1 j && test) (gap_by j n gaps (nat_lt j n) refl many some)

abbrev pub links_of : ℕ → LineState → Side → Bool
links_of j s Entry = has_link j s
links_of j s Exit = has_link (j + 1) s

-- ---- what is near a machine that has read its events

pub record IsThere (j : ℕ) (s : LineState) : Type 0 where
  pub within : j + 1 ≤ length s.machines
  pub many : length s.world.floor.machines ≡ length s.machines
  pub gaps : length s.world.floor.gaps ≡ length s.world.floor.machines - 1

gaps_at : (j count : ℕ) (floor : FloorPlan) (s : LineState) → count ≡ length s.world.floor.gaps → count ≡ length s.machines - 1 → 1 ≤ length s.machines → length floor.gaps ≡ length s.world.floor.gaps
    → (side : Side) → has_gap_at (j + 1) floor side ≡ links_of j s side
gaps_at j count floor s is many some kept Entry =
    ap (λ (k : ℕ). nat_le 1 k && nat_le k (length floor.gaps)) (before_one j) ∙ ap (λ (n : ℕ). nat_le 1 j && nat_le j n) (kept ∙ sym is) ∙ gap_test j (length s.machines) count many some
gaps_at j count floor s is many some kept Exit = ap (λ (n : ℕ). nat_le 1 (j + 1) && nat_le (j + 1) n) (kept ∙ sym is) ∙ gap_test (j + 1) (length s.machines) count many some

read_place : (j : ℕ) (s : LineState) → IsThere j s → HasPlace (j + 1) (links_of j s) (read_by (j + 1) s.world)
read_place j s there =
    let within = there.within in
    let many = there.many in
    let gaps = there.gaps in
    let same : SameWorld s.world (read_by (j + 1) s.world) = place_same_world (j + 1) _ s.world in
    let machines = same.floor in
    let count : length s.world.floor.gaps ≡ length s.machines - 1 = omega (arith, many, gaps) in
    record {
      counted = omega arith;
      within = omega (arith, machines, many, within);
      gaps = gaps_at j (length s.world.floor.gaps) (read_by (j + 1) s.world).floor s refl count (omega (arith, within)) same.gaps;
    }

-- and what it is like
read_like : {new_entry new_exit far_above far_below : List ℕ} (j : ℕ) (s : LineState) (told : List Act) (c : Scene) → IsThere j s → (machine_at s.world.floor (j + 1)).boards ≡ c.boards
    → Joint Entry (has_link j s) told new_entry far_above (link_at j s.world) (gap_at s.world.floor j) c.above.stands c.above.gap c.above.down c.above.up
    → Joint Exit (has_link (j + 1) s) told new_exit far_below (link_at (j + 1) s.world) (gap_at s.world.floor (j + 1)) c.below.stands c.below.gap c.below.up c.below.down
    → IsLike (links_of j s) told new_entry new_exit far_above far_below (near_at (j + 1) (read_by (j + 1) s.world)) c
read_like {new_entry = ne} {new_exit = nx} {far_above = fa} {far_below = fb} j s told c there boards above below =
    let within = there.within in
    let many = there.many in
    let now : AtMachine = record (machine_at s.world.floor (j + 1)) { unread = [] } in
    let P : ℕ → AtGap → Type 0 = λ (k : ℕ) (g : AtGap). Joint Entry (has_link j s) told ne fa (link_at k s.world) g c.above.stands c.above.gap c.above.down c.above.up in
    let Q : AtGap → Type 0 = λ (g : AtGap). Joint Exit (has_link (j + 1) s) told nx fb (link_at (j + 1) s.world) g c.below.stands c.below.gap c.below.up c.below.down in
    let gap_a : gap_at (with_unread s.world.floor (j + 1) []) (j + 1 - 1) ≡ gap_at s.world.floor j = gaps_stay s.world.floor (j + 1) (j + 1 - 1) now ∙ ap (λ (k : ℕ). gap_at s.world.floor k) (before_one j) in
    let gap_b : gap_at (with_unread s.world.floor (j + 1) []) (j + 1) ≡ gap_at s.world.floor (j + 1) = gaps_stay s.world.floor (j + 1) (j + 1) now in
    record {
      place = place_own s.world.floor (j + 1) now (omega arith) (omega (arith, many, within)) ∙ ap (λ bs. record { boards = bs; unread = [] }) boards;
      above = subst (λ (g : AtGap). P (j + 1 - 1) g) (sym gap_a) (subst (λ (k : ℕ). P k (gap_at s.world.floor j)) (sym (before_one j)) above);
      below = subst Q (sym gap_b) below;
    }

-- ---- the step

pub moment_fits : (number : ℕ) → number ≤ 1000000 → IsMomentMillis (moment_of number)
moment_fits number few = (record { le = tt }, record { le = le→leb number 253402300799999 (omega (arith, few)) })

pub fit_desk : (node : NodeState) (number : ℕ) (s : LineState) (machine : ℕ) → node_at s machine ≡ node → number ≤ 1000000 → IsFitMachine s machine → IsFitDesk (desk_of node (moment_of number))
fit_desk node number s machine is few fit = record {
  name = subst (λ (n : NodeState). IsText n.name) is fit.name;
  lane = subst (λ (n : NodeState). n.number ≤ 999_999_999) is fit.lane;
  moment = moment_fits number few;
}

fit_behind_step : (s : LineState) (machine : ℕ) (node next : NodeState) (input : Input) (done : Done) → node_at s machine ≡ next → next.lane.body ≡ done.body → next.maker ≡ maker_after input node.maker → next.name ≡ node.name → next.number ≡ node.number
    → Fits done → IsFitMaker node.maker → IsText node.name → node.number ≤ 999_999_999 → IsFitMachine s machine
fit_behind_step s machine node next input done is body made named numbered fits maker name lane = record {
  body = subst (λ (n : NodeState). IsFitBody n.lane.body) (sym is) (subst (λ (b : Body). IsFitBody b) (sym body) fits.body);
  maker = subst (λ (n : NodeState). IsFitMaker n.maker) (sym is) (subst (λ (m : Maker). IsFitMaker m) (sym made) (maker_stays_fit input node.maker maker));
  name = subst (λ (n : NodeState). IsText n.name) (sym is) (subst (λ (x : List ℕ). IsText x) (sym named) name);
  lane = subst (λ (n : NodeState). n.number ≤ 999_999_999) (sym is) (subst (λ (x : ℕ). x ≤ 999_999_999) (sym numbered) lane);
}

near_after : (number j : ℕ) (input : Input) (start after : LineState) (told : List Happening) → IsThere j start → (steps : MachineSteps number (j + 1) input start after told)
    → near_at (j + 1) after.world ≡ nears_did (links_of j start) (is_second input) steps.acts (near_at (j + 1) (read_by (j + 1) start.world))
near_after number j input start after told there steps =
    let read : WorldParts = read_by (j + 1) start.world in
    ap (λ (s : LineState). near_at (j + 1) s.world) steps.after_is ∙ acts_near (links_of j start) (is_second input) (j + 1) steps.acts read (read_place j start there)

-- the machines beside it stay as they are
pub beside : (number j : ℕ) (input : Input) (start after : LineState) (told : List Happening) → MachineSteps number (j + 1) input start after told → (k : ℕ) → k ≢ j + 1 → node_at after k ≡ node_at start k
beside number j input start after told steps k apart = ap (λ st. st.node) ((step_changes number (j + 1) input start after told steps).machines k apart)

pub next_there : (number j : ℕ) (input : Input) (start after : LineState) (told : List Happening) (steps : MachineSteps number (j + 1) input start after told) → node_at after (j + 1) ≡ steps.next
next_there number j input start after told steps = node_there (j + 1) after steps.next (ap (machine_in (j + 1)) steps.after_is ∙ machine_set_own (j + 1) start steps.node steps.next steps.there)

pub there_by : (number j : ℕ) (input : Input) (start after : LineState) (told : List Happening) → length start.world.floor.machines ≡ length start.machines → length start.world.floor.gaps ≡ length start.world.floor.machines - 1
    → MachineSteps number (j + 1) input start after told → IsThere j start
there_by number j input start after told many gaps steps = record { within = (machine_within (j + 1) start steps.node steps.there).1; many = many; gaps = gaps }

-- ---- what a step does, of any input: before it the line is as a scene has it but for the floor's events, and behind it as
-- the scene has it then, if the acts go along

pub record Mirrored (number j : ℕ) (input : Input) (old : WorldParts) (node next : NodeState) (words : List Word) (far_above far_below : List ℕ) (has : Side → Bool) (after : LineState) (all : List Act → Scene → Scene) (c : Scene) : Type 0 where
  pub body : (node_at after (j + 1)).lane.body ≡ (machine_step (desk_of node (moment_of number)) (unread_by (j + 1) old) (event_of node.maker input words) node.lane.body).body
  pub reached : Reaches j has next.lane.entry_bytes next.lane.exit_bytes far_above far_below after (all (machine_step (desk_of node (moment_of number)) (unread_by (j + 1) old) (event_of node.maker input words) node.lane.body).acts c)
  pub fit : IsFitMachine after (j + 1)

-- acts that go along with a scene
abbrev pub GoAlong : (Side → Bool) → Bool → List Act → List ℕ → List ℕ → List ℕ → List ℕ → (List Act → Scene → Scene) → Near → Scene → Type 0
GoAlong has second told new_entry new_exit far_above far_below all near c =
    AreFitActs told → IsLike has told new_entry new_exit far_above far_below near c → IsLike has [] new_entry new_exit far_above far_below (nears_did has second told near) (all told c)

-- a bridge's own signals go along with every scene
abbrev pub PassesSignals : (List Act → Scene → Scene) → Scene → Type 0
PassesSignals all c = (made : List Act) (bridge : Option BridgeLevels) (body : Body) → all (made ++ signalled bridge body) c ≡ all made c

pub mirrored : {far_above far_below : List ℕ} (number j : ℕ) (input : Input) (before : LineState) (w : WorldParts) (after : LineState) (told : List Happening) (all : List Act → Scene → Scene) (c : Scene)
    → PassesSignals all c
    → w.floor ≡ before.world.floor → length before.world.floor.machines ≡ length before.machines → length before.world.floor.gaps ≡ length before.world.floor.machines - 1 → number ≤ 1000000 → IsFitMachine before (j + 1)
    → (steps : MachineSteps number (j + 1) input (with_world w before) after told) → IsFitEvent (event_of steps.node.maker input steps.steps.lane.words) → (machine_at before.world.floor (j + 1)).boards ≡ c.boards
    → GoAlong (links_of j before) (is_second input) steps.acts steps.next.lane.entry_bytes steps.next.lane.exit_bytes far_above far_below all (near_at (j + 1) (read_by (j + 1) w)) c
    → Joint Entry (has_link j before) steps.acts steps.next.lane.entry_bytes far_above (link_at j w) (gap_at before.world.floor j) c.above.stands c.above.gap c.above.down c.above.up
    → Joint Exit (has_link (j + 1) before) steps.acts steps.next.lane.exit_bytes far_below (link_at (j + 1) w) (gap_at before.world.floor (j + 1)) c.below.stands c.below.gap c.below.up c.below.down
    → Mirrored number j input before.world steps.node steps.next steps.steps.lane.words far_above far_below (links_of j before) after all c
mirrored {far_above = fa} {far_below = fb} number j input before w after told all c passes floor many gaps few good steps fit boards along above below =
    let start : LineState = with_world w before in
    let node : NodeState = steps.node in
    let next : NodeState = steps.next in
    let lane = steps.steps.lane in
    let desk : Desk = desk_of node (moment_of number) in
    let unread : List Sensed = unread_by (j + 1) before.world in
    let event : Event = event_of node.maker input lane.words in
    let done : Done = machine_step desk unread event node.lane.body in
    let same_unread : unread_by (j + 1) w ≡ unread = ap (λ (f : FloorPlan). (machine_at f (j + 1)).unread) floor in
    let body_is : next.lane.body ≡ done.body = lane.body ∙ ap (λ (us : List Sensed). (machine_step desk us event node.lane.body).body) same_unread in
    let made_are : steps.steps.made ≡ done.acts = lane.told ∙ ap (λ (us : List Sensed). (machine_step desk us event node.lane.body).acts) same_unread in
    let scene_is : all steps.acts c ≡ all done.acts c =
    ap (λ (acts : List Act). all acts c) steps.steps.told ∙ passes steps.steps.made node.bridge next.lane.body ∙ ap (λ (acts : List Act). all acts c) made_are in
    let node_is : node_at before (j + 1) ≡ node = node_there (j + 1) before node steps.there in
    let next_is : node_at after (j + 1) ≡ next = next_there number j input start after told steps in
    let fits : Fits done = step_fits desk unread event node.lane.body (fit_desk node number before (j + 1) node_is few good) fit (subst (λ (n : NodeState). IsFitBody n.lane.body) node_is good.body) in
    let are_fit : AreFitActs steps.acts =
    subst (λ (acts : List Act). AreFitActs acts) (sym steps.steps.told)
    (both_said (subst (λ (acts : List Act). AreFitActs acts) (sym made_are) fits.acts) (signals_fit node.bridge next.lane.body)) in
    let there : IsThere j start =
    there_by number j input start after told (ap (λ (f : FloorPlan). length f.machines) floor ∙ many) (ap (λ (f : FloorPlan). length f.gaps) floor ∙ gaps ∙ sym (ap (λ (f : FloorPlan). length f.machines - 1) floor)) steps in
    let up = subst (λ (g : AtGap). Joint Entry (has_link j before) steps.acts next.lane.entry_bytes fa (link_at j w) g c.above.stands c.above.gap c.above.down c.above.up) (ap (λ (f : FloorPlan). gap_at f j) (sym floor)) above in
    let down = subst (λ (g : AtGap). Joint Exit (has_link (j + 1) before) steps.acts next.lane.exit_bytes fb (link_at (j + 1) w) g c.below.stands c.below.gap c.below.up c.below.down) (ap (λ (f : FloorPlan). gap_at f (j + 1)) (sym floor)) below in
    let like : IsLike (links_of j start) steps.acts next.lane.entry_bytes next.lane.exit_bytes fa fb (near_at (j + 1) (read_by (j + 1) w)) c =
    read_like j start steps.acts c there (ap (λ (f : FloorPlan). (machine_at f (j + 1)).boards) floor ∙ boards) up down in
    let near : Near = nears_did (links_of j start) (is_second input) steps.acts (near_at (j + 1) (read_by (j + 1) w)) in
    let then : IsLike (links_of j start) [] next.lane.entry_bytes next.lane.exit_bytes fa fb near (all steps.acts c) = along are_fit like in
    record {
      body = ap (λ (n : NodeState). n.lane.body) next_is ∙ body_is;
      reached = subst (λ (d : Scene). Reaches j (links_of j start) next.lane.entry_bytes next.lane.exit_bytes fa fb after d) scene_is (reaches j after (links_of j start) near (all steps.acts c) (near_after number j input start after told there steps) then);
      fit = fit_behind_step after (j + 1) node next input done next_is body_is lane.made steps.steps.name steps.steps.number fits (subst (λ (n : NodeState). IsFitMaker n.maker) node_is good.maker)
          (subst (λ (n : NodeState). IsText n.name) node_is good.name) (subst (λ (n : NodeState). n.number ≤ 999_999_999) node_is good.lane);
    }

-- ---- and where the scene is the line's own

pub reached_of : {new_entry new_exit far_above far_below : List ℕ} (j : ℕ) (before after : LineState) (d : Scene) → new_entry ≡ (node_at after (j + 1)).lane.entry_bytes → new_exit ≡ (node_at after (j + 1)).lane.exit_bytes
    → far_above ≡ (node_at after j).lane.exit_bytes → far_below ≡ (node_at after (j + 1 + 1)).lane.entry_bytes → IsAround j (links_of j before) new_entry new_exit far_above far_below after d → IsReached j before after d
reached_of j before after d ne nx fa fb k = record {
  place = k.place;
  stands_above = k.stands_above;
  gap_above = k.gap_above;
  up_above = λ there. subst (λ (bytes : List ℕ). Carries d.above.stands bytes (link_at j after.world).flows.to_upstream d.above.up) fa (k.up_above there);
  down_above = λ there. subst (λ (bytes : List ℕ). Carries d.above.stands bytes (link_at j after.world).flows.to_downstream d.above.down) ne (k.down_above there);
  stands_below = k.stands_below;
  gap_below = k.gap_below;
  up_below = λ there. subst (λ (bytes : List ℕ). Carries d.below.stands bytes (link_at (j + 1) after.world).flows.to_upstream d.below.up) nx (k.up_below there);
  down_below = λ there. subst (λ (bytes : List ℕ). Carries d.below.stands bytes (link_at (j + 1) after.world).flows.to_downstream d.below.down) fb (k.down_below there);
}

pub along_plain : {has : Side → Bool} {new_entry new_exit far_above far_below : List ℕ} {near : Near} {c : Scene} → SaysAlone → (input : Input) (told : List Act) → is_second input ≡ false
    → GoAlong has (is_second input) told new_entry new_exit far_above far_below (λ acts scene. all_met acts scene) near c
along_plain {has = has} {new_entry = ne} {new_exit = nx} {far_above = fa} {far_below = fb} {near = near} {c = c} alone input told plain fit k =
    subst (λ (second : Bool). IsLike has [] ne nx fa fb (nears_did has second told near) (all_met told c)) (sym plain) (acts_like alone told fit k)

pub mirrors_by : SaysAlone → (t : Trace) (number j : ℕ) (input : Input) (before : LineState) (w : WorldParts) (after : LineState) (told : List Happening)
    → w.floor ≡ before.world.floor → is_second input ≡ false → number ≤ 1000000 → Stands t before
    → (steps : MachineSteps number (j + 1) input (with_world w before) after told) → IsFitEvent (event_of steps.node.maker input steps.steps.lane.words) → AreHeard input steps.steps.lane.words (scene_at t before j)
    → Joint Entry (has_link j before) steps.acts steps.next.lane.entry_bytes (node_at before j).lane.exit_bytes (link_at j w) (gap_at before.world.floor j) (link_at j before.world).stands (gap_at before.world.floor j) (t.down j) (t.up j)
    → Joint Exit (has_link (j + 1) before) steps.acts steps.next.lane.exit_bytes (node_at before (j + 1 + 1)).lane.entry_bytes (link_at (j + 1) w) (gap_at before.world.floor (j + 1)) (link_at (j + 1) before.world).stands (gap_at before.world.floor (j + 1)) (t.up (j + 1)) (t.down (j + 1))
    → Mirrors number j input t before after
mirrors_by alone t number j input before w after told floor plain few holds steps fit heard above below =
    let start : LineState = with_world w before in
    let next_is : node_at after (j + 1) ≡ steps.next = next_there number j input start after told steps in
    let apart : j ≢ j + 1 = omega arith in
    let behind : j + 1 + 1 ≢ j + 1 = omega arith in
    let m = mirrored number j input before w after told (λ acts scene. all_met acts scene) (scene_at t before j) (signals_passed (scene_at t before j)) floor holds.together.floor holds.ids.whole few (holds.fit (j + 1)) steps fit refl (along_plain alone input steps.acts plain) above below in
    let now = m.reached in
    record {
      node = steps.node;
      there = steps.there;
      words = steps.steps.lane.words;
      heard = heard;
      cuts_above = now.a;
      cuts_below = now.b;
      body = m.body;
      reached = reached_of j before after _ (sym (ap (λ (n : NodeState). n.lane.entry_bytes) next_is)) (sym (ap (λ (n : NodeState). n.lane.exit_bytes) next_is))
          (sym (ap (λ (n : NodeState). n.lane.exit_bytes) (beside number j input start after told steps j apart))) (sym (ap (λ (n : NodeState). n.lane.entry_bytes) (beside number j input start after told steps (j + 1 + 1) behind))) now.around;
      fit = m.fit;
    }

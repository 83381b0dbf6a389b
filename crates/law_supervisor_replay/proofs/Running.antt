-- THE SUPERVISOR'S REPLAY AGREES, form by form, and over a run.
use Rattle.std.proofs.Common.{◌≡◌, ◌∙◌, ◌++◌, ◌+◌, ◌||◌, ℕ, zero, suc, Bool, true, false, List, [], ◌∷◌, Option, length, refl, sym, ap, subst}
use Rattle.std.specs.Prelude.{if◌then◌else◌, nat_lt, slice_index_or, ◌-◌}
use Rattle.board_record.specs.declared.sensed.Sensed.{Sensed}
use Rattle.node_core.specs.Node.{NodeState}
use Rattle.std.specs.List.{list_any}
use Rattle.std.proofs.lemmas.Bool.{false≢true}
use Rattle.line_base.specs.declared.states.Side.{Side}
use Rattle.line_link.specs.Link.{after_flow, after_spoil, cut}
use Rattle.line_world.specs.FloorPlan.{AtMachine, FloorPlan, empty_machine, machine_at}
use Rattle.node_core.specs.declared.input.Input.{Input}
use Rattle.node_core.specs.declared.input.Input.TheVariants as inputs
use Rattle.node_core.specs.declared.lane.Body.{Body}
use Rattle.line_report.specs.declared.happening.Happening.{Happening}
use Rattle.line_report.specs.declared.happening.Happening.TheVariants as happenings
use Rattle.line_step.specs.FloorIds.{boards_of}
use Rattle.line_step.specs.Lies.{tells_lie}
use Rattle.line_step.specs.Lines.{cut_in, spoiled, spoil_told, Becomes, Flows, LineDoes, arrived, unvouched_told}
use Rattle.line_step.specs.Numbered.{node_at}
use Rattle.line_step.specs.Reasons.{may_do}
use Rattle.line_step.specs.Shown.{standings_told}
use Rattle.line_step.specs.State.{LineState, one_more, with_world}
use Rattle.line_step.specs.Steps.{MachineSteps}
use Rattle.line_step.specs.World.{WorldParts, end_of, link_at, link_of, with_link}
use Rattle.line_step.proofs.FloorLaws.{Goes}
use Rattle.line_step.proofs.Numbers.{floor_stays, same_or_not}
use Rattle.law_one_standing.specs.Carried.{Trace}
use Rattle.law_one_standing.proofs.ApartFloor.{counted}
use Rattle.law_one_standing.proofs.LedgerLine.{same_nodes}
use Rattle.law_one_standing.proofs.LineJoins.{still_connecting}
use Rattle.law_history.proofs.View.{arrived_stand, more_body, unwilled}
use Rattle.law_supervisor_replay.proofs.Bodies.{
  holds_it,
  keeps_it,
  misses_it,
  takes_it,
  will_leave,
}
use Rattle.law_supervisor_replay.proofs.Floors.{comes_not, may_bring, may_lose, stays_there}
use Rattle.law_supervisor_replay.proofs.Hands.{brings_none, loses_none, with_standings}
use Rattle.law_supervisor_replay.proofs.Joined.{connect_line}
use Rattle.law_supervisor_replay.proofs.Lines.{Agreed, Comes, Passing, moved_agrees, still_agrees}
use Rattle.law_supervisor_replay.proofs.Moved.{moves_move}
use Rattle.law_supervisor_replay.proofs.Sights.{view_of}
use Rattle.law_supervisor_replay.proofs.Silent.{IsSilent, both_silent, no_act_silent, none_silent}
use Rattle.law_supervisor_replay.proofs.Turns.{
  get_line,
  give_line,
  handless_line,
  insert_line,
  remove_line,
  replace_line,
  same_line,
  same_count,
}
use Rattle.law_supervisor_replay.proofs.Views.{IsSame}
use Rattle.line_step.proofs.Remarks.{IsRemark, Passes, all_pass}
use Rattle.line_step.specs.Requests.{Request, added_told, may_get}
use Rattle.line_step.specs.Requests as requests
use Rattle.line_step.proofs.Effects.{Effect, added_remarks, done_move, line_effect, spoil_remarks}
use Rattle.line_step.proofs.Effects as effects

-- ---- lines in which no machine makes a step

-- what is told there is of no board and no machine's act
pub record IsPlain (what : List Happening) : Type 0 where
  pub silent : IsSilent what
  pub loses : (id : ℕ) → list_any (may_lose id) what ≡ false
  pub brings : (id : ℕ) → list_any (may_bring id) what ≡ false

-- the bodies of the machines and what they have not read are as before
record SameMachines (before next : LineState) : Type 0 where
  bodies : (k : ℕ) → unwilled (node_at next k).lane.body ≡ unwilled (node_at before k).lane.body
  unread : (k : ℕ) → (machine_at next.world.floor k).unread ≡ (machine_at before.world.floor k).unread

off_same : (id : ℕ) (before next : LineState) (what : List Happening)
    → Goes before next (what ++ standings_told before next) → IsPlain what
    → (view_of id next).off ≡ (view_of id before).off
off_same id before next what goes plain =
    let all : List Happening = what ++ standings_told before next in
    same_count (counted id (boards_of next)) (counted id (boards_of before))
    (comes_not id before next all goes (with_standings (may_bring id) (brings_none id) what before next ∙ plain.brings id))
    (stays_there id before next all goes (with_standings (may_lose id) (loses_none id) what before next ∙ plain.loses id))

misses_same : (body body2 : Body) (unread unread2 : List Sensed) → unwilled body2 ≡ unwilled body → unread2 ≡ unread
    → misses_it body2 unread2 ≡ misses_it body unread
misses_same body body2 unread unread2 same read =
    ap (λ (b : Body). misses_it b unread2) same ∙ ap (λ (u : List Sensed). misses_it body u) read

same_view : (id : ℕ) (before next : LineState) (what : List Happening)
    → Goes before next (what ++ standings_told before next) → IsPlain what → SameMachines before next
    → IsSame (view_of id before) (view_of id next)
same_view id before next what goes plain same = record {
  kept = λ i. ap (λ (b : Body). keeps_it id b) (same.bodies i);
  held = λ i. ap (λ (b : Body). holds_it id b) (same.bodies i);
  taken = λ i. ap (λ (b : Body). takes_it id b) (same.bodies i);
  leaving = λ i. ap will_leave (same.unread i);
  missing = λ i. misses_same (node_at before i).lane.body (node_at next i).lane.body _ _ (same.bodies i) (same.unread i);
  off = off_same id before next what goes plain;
}

quiet_line : (id : ℕ) (t t2 : Trace) (before now next : LineState) (what done past : List Happening)
    → Passing id t t2 before next done past → Becomes now what next done → IsPlain what → SameMachines before now
    → Agreed id next (past ++ done)
quiet_line id t t2 before now next what done past p b plain same =
    let next_is : SameMachines before next =
    subst (λ (s : LineState). SameMachines before s) (sym b.after_is) same in
    let goes : Goes before next (what ++ standings_told before next) =
    subst (λ (ts : List Happening). Goes before next (ts ++ standings_told before next)) b.told_is p.goes in
    subst (λ (ts : List Happening). Agreed id next (past ++ ts)) (sym b.told_is)
    (still_agrees id before next past what plain.silent (same_view id before next what goes plain next_is) p.goes.olds
    p.was)

same_before : (before : LineState) → SameMachines before before
same_before before = record { bodies = λ k. refl; unread = λ k. refl }

-- the world's links alone change
same_links : (before : LineState) (world : WorldParts) → world.floor ≡ before.world.floor
    → SameMachines before (with_world world before)
same_links before world same = record {
  bodies = λ k. ap (λ (n : NodeState). unwilled n.lane.body) (same_nodes before (with_world world before) refl k);
  unread = λ k. ap (λ (f : FloorPlan). (machine_at f k).unread) same;
}

-- one machine more
more_default : (A : Type 0) (xs : List A) (d : A) (place : ℕ)
    → slice_index_or (xs ++ d ∷ []) place d ≡ slice_index_or xs place d
more_default A [] d zero = refl
more_default A [] d (suc place) = refl
more_default A (x ∷ xs) d zero = refl
more_default A (x ∷ xs) d (suc place) = more_default A xs d place

more_unread : (lane : ℕ) (is_bridge : Bool) (capacity used : ℕ) (s : LineState) (k : ℕ)
    → (machine_at (one_more lane is_bridge capacity used s).world.floor k).unread ≡ (machine_at s.world.floor k).unread
more_unread lane is_bridge capacity used s k =
    ap (λ (a : AtMachine). (if nat_lt 0 k then a else empty_machine).unread)
    (more_default AtMachine s.world.floor.machines empty_machine (k - 1))

same_more : (lane : ℕ) (is_bridge : Bool) (capacity used : ℕ) (s : LineState)
    → SameMachines s (one_more lane is_bridge capacity used s)
same_more lane is_bridge capacity used s = record {
  bodies = λ k. more_body lane is_bridge capacity used s k (same_or_not k (length s.machines + 1));
  unread = more_unread lane is_bridge capacity used s;
}

plain_one : (happening : Happening) → IsSilent (happening ∷ [])
    → ((id : ℕ) → may_lose id happening ≡ false) → ((id : ℕ) → may_bring id happening ≡ false)
    → IsPlain (happening ∷ [])
plain_one happening silent loses brings = record {
  silent = silent;
  loses = λ id. ap (λ (b : Bool). b || false) (loses id);
  brings = λ id. ap (λ (b : Bool). b || false) (brings id);
}

-- ---- each form

no_lie : {X : Type 0} (told : List Happening) → tells_lie told ≡ false → (happening : Happening) (more : List Happening)
    → told ≡ happening ∷ more → tells_lie (happening ∷ more) ≡ true → X
no_lie told none happening more is lies = absurd (false≢true (sym none ∙ ap tells_lie is ∙ lies))

-- what a line of a script has to do with an id
abbrev Keeps : ℕ → Trace → Trace → LineState → LineState → List Happening → List Happening → Type 0
Keeps id t t2 before next done past = Passing id t t2 before next done past → Agreed id next (past ++ done)

-- bytes arrive: the link alone changes before the machine's step
flow_line : (id : ℕ) (t t2 : Trace) (number machine : ℕ) (side : Side) (count : Option ℕ) (before next : LineState)
    (done past : List Happening) → Flows number machine side count before next done → Keeps id t t2 before next done past
flow_line id t t2 number machine side count before next done past flows p =
    let still =
    still_connecting (link_of machine side) (after_flow (end_of side) count (link_at (link_of machine side) before.world))
    before p.st.ids in
    handless_line id number machine (inputs.Bytes side flows.piece) t t2 before (arrived machine side count before) next
    done past p
    (record { stands = λ k. arrived_stand k machine side count before; boards = still.boards }) still.holds tt flows.steps

-- what no machine does is plain
any_first : (f : Happening → Bool) (a b : List Happening) → list_any f a ≡ false → list_any f b ≡ false
    → list_any f (a ++ b) ≡ false
any_first f [] b one two = two
any_first f (happening ∷ a) b one two = by (f happening) one (λ rest. any_first f a b rest two) where
  by : (here : Bool) → (here || list_any f a) ≡ false → (list_any f a ≡ false → list_any f (a ++ b) ≡ false)
      → (here || list_any f (a ++ b)) ≡ false
  by true is next = is
  by false is next = next is

both_plain : (a b : List Happening) → IsPlain a → IsPlain b → IsPlain (a ++ b)
both_plain a b one two = record {
  silent = both_silent a b one.silent two.silent;
  loses = λ id. any_first (may_lose id) a b (one.loses id) (two.loses id);
  brings = λ id. any_first (may_bring id) a b (one.brings id) (two.brings id);
}

remark_plain : (h : Happening) → IsRemark h → IsPlain (h ∷ [])
remark_plain (happenings.Done machine act) is = absurd is
remark_plain (happenings.Moved gap step) is = absurd is
remark_plain (happenings.Unseen machine side) is = absurd is
remark_plain h is = plain_one h (record { told = λ id told. refl; left = λ gap id left. refl }) (λ x. refl) (λ x. refl)

remarks_plain : Passes IsRemark IsPlain
remarks_plain = record {
  none = record { silent = none_silent; loses = λ x. refl; brings = λ x. refl };
  both = both_plain;
  one = remark_plain;
}

-- ---- each effect

given_line : (id : ℕ) (t t2 : Trace) (number machine : ℕ) (input : Input) (before next : LineState)
    (done past : List Happening) → Comes id past before done (requests.gives machine input) → may_get machine input before ≡ may_do
    → MachineSteps number machine input before next done → Keeps id t t2 before next done past
given_line id t t2 number machine (inputs.Gives old to) before next done past comes may did p =
    give_line id number machine old to t t2 before next done past p may did
given_line id t t2 number machine (inputs.Gets board) before next done past comes may did p =
    get_line id number machine board t t2 before next done past p comes.0 comes.1 did
given_line id t t2 number machine (inputs.Insert barcode) before next done past comes may did p =
    insert_line id number machine barcode t t2 before next done past p did
given_line id t t2 number machine (inputs.Remove old) before next done past comes may did p =
    remove_line id number machine old t t2 before next done past p may did
given_line id t t2 number machine (inputs.Replace old) before next done past comes may did p =
    replace_line id number machine old t t2 before next done past p may did
given_line id t t2 number machine input before next done past comes may did p =
    handless_line id number machine input t t2 before before next done past p (same_line before) p.st.ids tt did

effect_agrees : (id : ℕ) (t t2 : Trace) (number : ℕ) (request : Request) (before next : LineState)
    (done past : List Happening) → Comes id past before done request → tells_lie done ≡ false → Effect number before next done request
    → Keeps id t t2 before next done past
effect_agrees id t t2 number request before next done past comes honest (effects.rests _ what remarks b) p =
    quiet_line id t t2 before before next what done past p b (all_pass what remarks_plain remarks) (same_before before)
effect_agrees id t t2 number request before next done past comes honest (effects.adds lane is_bridge capacity used may b) p =
    quiet_line id t t2 before (one_more lane is_bridge capacity used before) next (added_told is_bridge capacity before) done past
    p b (all_pass (added_told is_bridge capacity before) remarks_plain (added_remarks is_bridge capacity before))
    (same_more lane is_bridge capacity used before)
effect_agrees id t t2 number request before next done past comes honest (effects.steps machine input given may did) p =
    given_line id t t2 number machine input before next done past comes may did p
effect_agrees id t t2 number request before next done past comes honest (effects.connects machine may did) p =
    connect_line id number machine t t2 before next done past p may did
effect_agrees id t t2 number request before next done past comes honest (effects.flows machine side count may did) p =
    flow_line id t t2 number machine side count before next done past did p
effect_agrees id t t2 number request before next done past comes honest (effects.cuts gap may b) p =
    quiet_line id t t2 before (cut_in gap before) next (happenings.Cut gap ∷ []) done past p b (remark_plain (happenings.Cut gap) tt)
    (same_links before (with_link gap (cut (link_at gap before.world)) before.world)
    (floor_stays gap (cut (link_at gap before.world)) before.world))
effect_agrees id t t2 number request before next done past comes honest (effects.spoils machine side may b) p =
    let link = link_of machine side in
    let parts = after_spoil (end_of side) (link_at link before.world) in
    quiet_line id t t2 before (spoiled machine side before) next (spoil_told machine side before) done past p b
    (all_pass (spoil_told machine side before) remarks_plain (spoil_remarks machine side before))
    (same_links before (with_link link parts before.world) (floor_stays link parts before.world))
effect_agrees id t t2 number request before next done past comes honest (effects.moves gap step floor is b) p =
    moved_agrees id t t2 before next done past p
    (subst (λ (ts : List Happening). IsSilent ts) (sym b.told_is) (no_act_silent (happenings.Moved gap step) tt))
    (moves_move t id gap step before next done p.st p.facts (done_move before is b))
effect_agrees id t t2 number request before next done past comes honest (effects.lies machine sensed may b) p =
    no_lie done honest (happenings.Lie machine sensed) (unvouched_told before.unvouched) b.told_is refl
effect_agrees id t t2 number request before next done past comes honest (effects.unsees machine side may b) p =
    no_lie done honest (happenings.Unseen machine side) (unvouched_told before.unvouched) b.told_is refl

pub does_agree : (id : ℕ) (t t2 : Trace) (number : ℕ) (request : Request) (before next : LineState) (done past : List Happening)
    → Comes id past before done request → tells_lie done ≡ false → LineDoes number request before next done → Keeps id t t2 before next done past
does_agree id t t2 number request before next done past comes honest does =
    effect_agrees id t t2 number request before next done past comes honest (line_effect number request before next done does)

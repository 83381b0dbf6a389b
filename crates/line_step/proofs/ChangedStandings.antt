-- What a line of the script changes of standings: those of the ids that its acts name, and no others.
use Rattle.std.proofs.Common.{◌≡◌, ◌∙◌, ◌+◌, ◌-◌, ◌++◌, ◌==◌, ℕ, zero, suc, Bool, true, false, List, ◌∷◌, Option, Some, None, refl, sym, ap, subst, eq-eqb, append-nil, []}
use Rattle.std.specs.Prelude.{ℤ, map, slice_get, slice_set}
use Rattle.std.specs.List.{flat_map}
use Rattle.std.proofs.lemmas.Grind.{flat_map-append}
use Rattle.std.proofs.Math.Numerals.{sub-one}
use Rattle.line_base.specs.declared.states.Side.{Side}
use Rattle.board_record.specs.declared.sensed.Sensed.{Sensed}
use Rattle.hermes_horizontal.specs.declared.message.Message.{Message}
use Rattle.line_link.specs.declared.link.Sent.{Sent}
use Rattle.line_link.specs.declared.link.Sent.TheVariants as sent
use Rattle.node_core.specs.declared.act.Act.{Act}
use Rattle.node_core.specs.declared.act.Act.TheVariants as acts
use Rattle.node_core.specs.declared.input.Input.{Input}
use Rattle.node_core.specs.declared.input.Input.TheVariants as inputs
use Rattle.node_core.specs.declared.lane.Body.{Body}
use Rattle.node_core.specs.Event.{event_of}
use Rattle.node_core.specs.Node.{NodeState, desk_of}
use Rattle.node_core.specs.Own.{own_of}
use Rattle.node_core.specs.Step.{Steps}
use Rattle.node_core.specs.Signals.{signalled}
use Rattle.smema_bridge.specs.Levels.{BridgeLevels}
use Rattle.standings.specs.Marks.{Owned, has_id, is_held, mark_if, marks_at, marks_from, marks_of}
use Rattle.standings.specs.Standing.{standing_of}
use Rattle.standings.specs.Told.{is_same_standing, told_of}
use Rattle.standings.specs.declared.mark.Mark.{Mark}
use Rattle.standings.specs.declared.mark.Mark.TheVariants.{Kept, Outlet, Intake}
use Rattle.standings.specs.declared.standing.Standing.{Standing}
use Rattle.standings.specs.declared.standing.Standing.TheVariants.{With, Between}
use Rattle.line_step.specs.World.{WorldParts, link_of}
use Rattle.line_step.specs.State.{LineState, machine_in, marks_in, one_more, owned, owned_by}
use Rattle.line_step.specs.Acts.{act_did, acts_did, cut_told, sent_by}
use Rattle.line_step.specs.Steps.{MachineSteps, StepsTwice, is_second, moment_of, read_by, unread_by}
use Rattle.line_step.specs.Shown.{ascending, ids_marked, ids_owned, one_id, standing_told, standings_told}
use Rattle.line_step.specs.Named.{ids_named, ids_of_act, ids_of_happening}
use Rattle.line_step.specs.Lines.{Becomes, Connects, Flows, LineDoes, arrived, connecting}
use Rattle.node_core.proofs.Signalling.{signals_pass}
use Rattle.line_step.proofs.Ascending.{ascending_same}
use Rattle.line_step.proofs.Unnamed.{SameAt, apart_ids, apart_is, or_false, step_spares}
use Rattle.line_report.specs.declared.happening.Happening.{Happening}
use Rattle.line_step.specs.Requests.{Request}
use Rattle.line_step.proofs.Turns.{LineTurns, line_turns}
use Rattle.line_step.proofs.Turns as turns

-- ---- what is told names the ids that the acts name

cut_names : (link : ℕ) (what : Sent) → ids_named (cut_told link what) ≡ []
cut_names link sent.Cuts = refl
cut_names link sent.Flows = refl
cut_names link sent.Vanishes = refl

sent_names : (second : Bool) (machine : ℕ) (side : Side) (message : Message) (world : WorldParts) → ids_named (sent_by second machine side message world).told ≡ []
sent_names true machine side message world = cut_names machine _
sent_names false machine side message world = cut_names (link_of machine side) _

act_names : (second : Bool) (machine : ℕ) (act : Act) (world : WorldParts) → ids_named (act_did second machine act world).told ≡ ids_of_act act
act_names second machine (acts.Sends side message) world = sent_names _ machine side message world
act_names second machine _ world = refl

acts_name : (second : Bool) (machine : ℕ) (told : List Act) (world : WorldParts) → ids_named (acts_did second machine told world).told ≡ flat_map ids_of_act told
acts_name second machine [] world = refl
acts_name second machine (act ∷ told) world =
    let one = act_did second machine act world in
    let others = acts_did second machine told one.world in
    flat_map-append ids_of_happening one.told others.told
    ∙ ap (λ (ids : List ℕ). ids ++ ids_named others.told) (act_names second machine act world)
    ∙ ap (λ (ids : List ℕ). ids_of_act act ++ ids) (acts_name second machine told one.world)

-- ---- marks along a line of which one machine is another

same_marks_at : (machine id : ℕ) (before after : Owned) → has_id id after.kept ≡ has_id id before.kept → is_held id after.held ≡ is_held id before.held → is_held id after.taking ≡ is_held id before.taking → marks_at machine after id ≡ marks_at machine before id
same_marks_at machine id before after kept held taking =
    ap (λ (b : Bool). mark_if b (Kept machine) ++ (mark_if (is_held id after.held) (Outlet machine) ++ mark_if (is_held id after.taking) (Intake machine))) kept
    ∙ ap (λ (b : Bool). mark_if (has_id id before.kept) (Kept machine) ++ (mark_if b (Outlet machine) ++ mark_if (is_held id after.taking) (Intake machine))) held
    ∙ ap (λ (b : Bool). mark_if (has_id id before.kept) (Kept machine) ++ (mark_if (is_held id before.held) (Outlet machine) ++ mark_if b (Intake machine))) taking

marks_set : (number id place : ℕ) (nodes : List NodeState) (node next : NodeState) → slice_get nodes place ≡ Some node → SameAt id (own_of node.lane.body) (own_of next.lane.body)
    → marks_from number (map owned_by (slice_set nodes place next)) id ≡ marks_from number (map owned_by nodes) id
marks_set number id place [] node next there same = cc
marks_set number id zero (first ∷ nodes) node next there same =
    let is : first ≡ node = cc in
    let at = same_marks_at number id (owned_by node) (owned_by next) same.kept same.held same.taking in
    ap (λ (ms : List Mark). ms ++ marks_from (number + 1) (map owned_by nodes) id) (at ∙ ap (λ (n : NodeState). marks_at number (owned_by n) id) (sym is))
marks_set number id (suc place) (first ∷ nodes) node next there same = ap (λ (ms : List Mark). marks_at number (owned_by first) id ++ ms) (marks_set (number + 1) id place nodes node next there same)

-- a machine that has nothing
marks_more : (number id : ℕ) (nodes : List NodeState) (fresh : NodeState) → owned_by fresh ≡ record { kept = []; held = None; taking = None } → marks_from number (map owned_by (nodes ++ fresh ∷ [])) id ≡ marks_from number (map owned_by nodes) id
marks_more number id [] fresh is = ap (λ (own : Owned). marks_at number own id ++ []) is
marks_more number id (first ∷ nodes) fresh is = ap (λ (ms : List Mark). marks_at number (owned_by first) id ++ ms) (marks_more (number + 1) id nodes fresh is)

-- ---- the steps

-- an id that isn't told of keeps its marks
abbrev pub Stays : ℕ → LineState → LineState → List Happening → Type 0
Stays id before after told = has_id id (ids_named told) ≡ false → marks_in before id ≡ marks_in after id

-- a bridge's own signals name no board
signals_name_none : (made : List Act) (bridge : Option BridgeLevels) (body : Body) → flat_map ids_of_act (made ++ signalled bridge body) ≡ flat_map ids_of_act made
signals_name_none made bridge body =
    signals_pass (flat_map ids_of_act)
    (λ front signal on. flat_map-append ids_of_act front (acts.Signals signal on ∷ []) ∙ append-nil (flat_map ids_of_act front))
    made bridge body

steps_same : (id : ℕ) (node next : NodeState) (unread : List Sensed) (input : Input) (moment : ℤ) (told : List Act) → Steps node unread input moment next told → has_id id (flat_map ids_of_act told) ≡ false → SameAt id (own_of node.lane.body) (own_of next.lane.body)
steps_same id node next unread input moment told steps none =
    let unnamed : has_id id (flat_map ids_of_act steps.made) ≡ false =
    ap (has_id id) (sym (signals_name_none steps.made node.bridge next.lane.body) ∙ ap (flat_map ids_of_act) (sym steps.told)) ∙ none in
    subst (λ (b : Body). SameAt id (own_of node.lane.body) (own_of b)) (sym steps.lane.body)
    ((step_spares id (desk_of node moment) unread (event_of node.maker input steps.lane.words) node.lane.body).same
    (subst (λ (did_acts : List Act). has_id id (flat_map ids_of_act did_acts) ≡ false) steps.lane.told unnamed))

set_marks : (id machine : ℕ) (before : LineState) (node next : NodeState) → machine_in machine before ≡ Some node → SameAt id (own_of node.lane.body) (own_of next.lane.body)
    → marks_of (map owned_by (slice_set before.machines (machine - 1) next)) id ≡ marks_in before id
set_marks id zero before node next there same = cc
set_marks id (suc place) before node next there same =
    ap (λ (at : ℕ). marks_of (map owned_by (slice_set before.machines at next)) id) (sub-one (suc place))
    ∙ marks_set 1 id place before.machines node next there same

machine_stays : (id number machine : ℕ) (input : Input) (before after : LineState) (told : List Happening) → MachineSteps number machine input before after told → Stays id before after told
machine_stays id number machine input before after told m none =
    let named : ids_named told ≡ flat_map ids_of_act m.acts = ap ids_named m.told_is ∙ acts_name (is_second input) machine m.acts (read_by machine before.world) in
    let unnamed : has_id id (flat_map ids_of_act m.acts) ≡ false = ap (has_id id) (sym named) ∙ none in
    let same = steps_same id m.node m.next (unread_by machine before.world) input (moment_of number) m.acts m.steps unnamed in
    sym (set_marks id machine before m.node m.next m.there same) ∙ ap (λ (s : LineState). marks_in s id) (sym m.after_is)

twice_stays : (id : ℕ) (First Second : LineState → LineState → List Happening → Type 0) (before after : LineState) (told : List Happening)
    → ((b a : LineState) (t : List Happening) → First b a t → Stays id b a t) → ((b a : LineState) (t : List Happening) → Second b a t → Stays id b a t) → StepsTwice First Second before after told → Stays id before after told
twice_stays id First Second before after told one two t none =
    let parts = apart_is id ids_of_happening t.earlier t.later (ap (λ (hs : List Happening). has_id id (ids_named hs)) (sym t.told_is) ∙ none) in
    one before t.between t.earlier t.first parts.0 ∙ two t.between after t.later t.second parts.1

becomes_stays : (id : ℕ) (before next after : LineState) (what told : List Happening) → marks_in before id ≡ marks_in next id → Becomes next what after told → Stays id before after told
becomes_stays id before next after what told same b none = same ∙ ap (λ (s : LineState). marks_in s id) (sym b.after_is)

connects_stays : (id number machine : ℕ) (before after : LineState) (told : List Happening) → Connects number machine before after told → Stays id before after told
connects_stays id number machine before after told t =
    twice_stays id _ _ (connecting machine before) after told (machine_stays id number machine inputs.Connect) (machine_stays id number (machine - 1) _) t

flows_stays : (id number machine : ℕ) (side : Side) (count : Option ℕ) (before after : LineState) (told : List Happening) → Flows number machine side count before after told → Stays id before after told
flows_stays id number machine side count before after told f = machine_stays id number machine (inputs.Bytes side f.piece) (arrived machine side count before) after told f.steps

-- the marks of an id change only where a line's acts name it
turn_stays : (id number : ℕ) (request : Request) (before after : LineState) (told : List Happening) → LineTurns number before after told request → Stays id before after told
turn_stays id number request before after told (turns.stays _ same none) named = ap (λ (nodes : List NodeState). marks_of (map owned_by nodes) id) (sym same)
turn_stays id number request before after told (turns.adds lane is_bridge capacity used may b) named =
    becomes_stays id before (one_more lane is_bridge capacity used before) after _ told (sym (marks_more 1 id before.machines _ refl)) b named
turn_stays id number request before after told (turns.steps machine input given may did) named = machine_stays id number machine input before after told did named
turn_stays id number request before after told (turns.connects machine may did) named = connects_stays id number machine before after told did named
turn_stays id number request before after told (turns.flows machine side count may did) named = flows_stays id number machine side count before after told did named

pub line_stays : (id number : ℕ) (request : Request) (before after : LineState) (told : List Happening) → LineDoes number request before after told → Stays id before after told
line_stays id number request before after told does = turn_stays id number request before after told (line_turns number request before after told does)

-- ---- standings

same_standing : (standing : Option Standing) → is_same_standing standing standing ≡ true
same_standing None = refl
same_standing (Some (With machine)) = eq-eqb machine machine refl
same_standing (Some (Between gap)) = eq-eqb gap gap refl

-- marks that are as they were are told of by nothing
told_same : (marks : List Mark) → told_of marks marks ≡ None
told_same [] = refl
told_same (mark ∷ marks) = rw (same_standing (standing_of (mark ∷ marks))) refl

has-one : (id : ℕ) (held : Option ℕ) → has_id id (one_id held) ≡ is_held id held
has-one id None = refl
has-one id (Some other) = or_false (other == id) false refl

-- what a machine has and what it has not
nothing_owned : (machine id : ℕ) (own : Owned) → has_id id (ids_owned own) ≡ false → marks_at machine own id ≡ []
nothing_owned machine id own none =
    let first = apart_ids id own.kept (one_id own.held ++ one_id own.taking) none in
    let second = apart_ids id (one_id own.held) (one_id own.taking) first.1 in
    same_marks_at machine id (record { kept = []; held = None; taking = None }) own first.0 (sym (has-one id own.held) ∙ second.0) (sym (has-one id own.taking) ∙ second.1)

unmarked : (machine id : ℕ) (line : List Owned) → has_id id (flat_map ids_owned line) ≡ false → marks_from machine line id ≡ []
unmarked machine id [] none = refl
unmarked machine id (own ∷ line) none =
    let two = apart_ids id (ids_owned own) (flat_map ids_owned line) none in
    ap (λ (ms : List Mark). ms ++ marks_from (machine + 1) line id) (nothing_owned machine id own two.0) ∙ unmarked (machine + 1) id line two.1

-- what is told of an id between two states
abbrev pub told_between : LineState → LineState → ℕ → List Happening
told_between before after id = standing_told id (told_of (marks_in before id) (marks_in after id))

stays_untold : (before after : LineState) (id : ℕ) → marks_in before id ≡ marks_in after id → told_between before after id ≡ []
stays_untold before after id same = ap (λ (ms : List Mark). standing_told id (told_of (marks_in before id) ms)) (sym same) ∙ ap (standing_told id) (told_same (marks_in before id))

unmarked_untold : (before after : LineState) (id : ℕ) → has_id id (ids_marked before ++ ids_marked after) ≡ false → told_between before after id ≡ []
unmarked_untold before after id none =
    let two = apart_ids id (ids_marked before) (ids_marked after) none in
    stays_untold before after id (unmarked 1 id (owned before) two.0 ∙ sym (unmarked 1 id (owned after) two.1))

-- the standings that changed are told of the ids that a line's acts name
pub standings_named : (number : ℕ) (request : Request) (before after : LineState) (told : List Happening) → LineDoes number request before after told
    → standings_told before after ≡ flat_map (told_between before after) (ascending (ids_named told))
standings_named number request before after told d =
    ascending_same (told_between before after) (ids_marked before ++ ids_marked after) (ids_named told) (unmarked_untold before after)
    (λ id none. stays_untold before after id (line_stays id number request before after told d none))

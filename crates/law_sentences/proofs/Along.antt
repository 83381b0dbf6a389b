-- Each machine of a line holds what is within the limits, over each line of a script and over its run.
use Rattle.std.proofs.Common.{◌≡◌, ◌≢◌, ◌⊎◌, inl, inr, ◌∙◌, ◌≤◌, ◌+◌, ◌-◌, ◌++◌, ℕ, zero, suc, Bool, true, List, [], ◌∷◌, Option, Some, None, length, refl, sym, ap, subst, arith}
use Rattle.std.specs.Prelude.{slice_get}
use Rattle.line_base.specs.declared.states.Side.{Side}
use Rattle.line_base.specs.declared.states.Side.TheVariants.{Entry, Exit}
use Rattle.board_record.specs.Maker.{Maker, next_id}
use Rattle.hermes_stream.specs.Frames.{most_bytes}
use Rattle.forecast_query.specs.Forecasts.{most_forecasts}
use Rattle.supervisory_core.specs.declared.order.Order.{Order}
use Rattle.supervisory_core.specs.Orders.{most_open, unanswered}
use Rattle.hermes_horizontal.specs.declared.message.Info.{Info}
use Rattle.line_link.specs.Link.{connected_of}
use Rattle.line_link.specs.declared.link.Connected.{Connected}
use Rattle.line_link.specs.declared.link.Connected.TheVariants as connections
use Rattle.node_core.specs.declared.input.Input.{Input}
use Rattle.node_core.specs.declared.input.Input.TheVariants as inputs
use Rattle.node_core.specs.declared.lane.Body.{Body}
use Rattle.node_core.specs.declared.word.Word.{Word}
use Rattle.node_core.specs.Event.{event_of}
use Rattle.node_core.specs.declared.lane.Lane.{Lane}
use Rattle.node_core.specs.Node.{NodeState, desk_of, new_node}
use Rattle.node_core.specs.Sides.{is_open}
use Rattle.node_core.specs.Sound.{IsSound}
use Rattle.node_core.proofs.Sound.{HasPlaceFor, step_sound}
use Rattle.node_core.proofs.Lasting.{first_sound, may_fits, other_fits}
use Rattle.line_report.specs.declared.happening.Happening.{Happening}
use Rattle.line_step.specs.World.{link_at}
use Rattle.line_step.specs.State.{LineState, machine_in, no_line, one_more, profile_of}
use Rattle.line_step.specs.Steps.{MachineSteps, moment_of, unread_by}
use Rattle.line_step.specs.Lines.{LineSteps, arrived, connecting, met}
use Rattle.step_rules.specs.Opened.{opened_by}
use Rattle.line_step.specs.Tracks.{AreBesideNodes, IsBeside, IsBesideNode, TrackLine, TrackSteps, other_line, own_line}
use Rattle.line_step.specs.Runs.{Point, IsRun, state_behind}
use Rattle.line_step.proofs.Getting.{get_may}
use Rattle.line_step.proofs.Numbers.{machine_set_other, machine_set_own, machine_within, same_or_not}
use Rattle.step_rules.proofs.Opening.{steps_open}
use Rattle.line_step.specs.Requests.{Request}
use Rattle.line_step.proofs.Turns.{LineTurns, line_turns}
use Rattle.line_step.proofs.Turns as turns
use Rattle.law_sentences.specs.Within.{EachMachineStaysWithin, HoldsWithin, StaysWithin}
use Rattle.law_sentences.proofs.Holding.{entry_short, exit_short, forecasts_few, orders_few, was_open}

-- ---- a machine, and one that may not be there

record Has (node : NodeState) : Type 0 where
  sound : IsSound node.capacity node.lane.body
  holds : HoldsWithin node

data Holds : Option NodeState → Type 0 where
  not_there : Holds None
  is_there : {node : NodeState} → Has node → Holds (Some node)

holds_there : (found : Option NodeState) (node : NodeState) → found ≡ Some node → Holds found → Has node
holds_there found node there not_there = cc
holds_there found node there (is_there {node = other} has) = let same : other ≡ node = cc in subst Has same has

-- ---- a step of a machine

abbrev Fits : (number machine : ℕ) (input : Input) (before after : LineState) (told : List Happening) → MachineSteps number machine input before after told → Type 0
Fits number machine input before after told steps = (words : List Word) → HasPlaceFor steps.node.capacity (event_of steps.node.maker input words) steps.node.lane.body

own_has : (number k : ℕ) (input : Input) (before after : LineState) (told : List Happening) → (steps : MachineSteps number k input before after told)
    → Fits number k input before after told steps → Has steps.node → Has steps.next
own_has number k input before after told steps fits has =
    let node : NodeState = steps.node in
    let next : NodeState = steps.next in
    let lane = steps.steps.lane in
    let was = has.holds in
    let unread = unread_by k before.world in
    let reached : IsSound node.capacity next.lane.body = subst (λ (b : Body). IsSound node.capacity b) (sym lane.body) (step_sound (desk_of node (moment_of number)) unread (event_of node.maker input lane.words) node.lane.body (fits lane.words) has.sound) in
    let sound : IsSound next.capacity next.lane.body = subst (λ (most : ℕ). IsSound most next.lane.body) (sym steps.steps.capacity) reached in
    let opened : (side : Side) → is_open side next.lane.body ≡ true → opened_by input side (is_open side node.lane.body) ≡ true
    = λ side is. was_open side (opened_by input side (is_open side node.lane.body)) steps.acts (sym (steps_open node unread input (moment_of number) next steps.acts side steps.steps) ∙ is) in
    record {
      sound = sound;
      holds = record {
        unspent = steps.unspent ∙ was.unspent;
        places = sound.places;
        forecasts = subst (λ (kept : List Info). length kept ≤ most_forecasts) (sym steps.steps.forecasts) (forecasts_few node.forecasts steps.acts was.forecasts);
        questions = subst (λ (orders : List Order). unanswered orders ≤ most_open) (sym steps.steps.orders) (orders_few input node.orders was.questions);
        entry = entry_short input node.lane next.lane lane.words lane.brings (opened Entry) was.entry;
        exit = exit_short input node.lane next.lane lane.words lane.brings (opened Exit) was.exit;
      };
    }

own_stays : (number k : ℕ) (input : Input) (before after : LineState) (told : List Happening) → (steps : MachineSteps number k input before after told)
    → Fits number k input before after told steps → Has steps.node → Holds (machine_in k after)
own_stays number k input before after told steps fits has =
    let there : machine_in k after ≡ Some steps.next = ap (λ (s : LineState). machine_in k s) steps.after_is ∙ machine_set_own k before steps.node steps.next steps.there in
    subst Holds (sym there) (is_there (own_has number k input before after told steps fits has))

-- the machines of a line
abbrev AllHold : LineState → Type 0
AllHold s = (k : ℕ) → Holds (machine_in k s)

step_at : (number k machine : ℕ) (input : Input) (before after : LineState) (told : List Happening) → (k ≡ machine) ⊎ (k ≢ machine) → (steps : MachineSteps number machine input before after told)
    → Fits number machine input before after told steps → AllHold before → Holds (machine_in k after)
step_at number k machine input before after told (inl same) steps fits all =
    subst (λ (m : ℕ). Holds (machine_in m after)) (sym same) (own_stays number machine input before after told steps fits (holds_there (machine_in machine before) steps.node steps.there (all machine)))
step_at number k machine input before after told (inr apart) steps fits all =
    let counted = (machine_within machine before steps.node steps.there).0 in
    subst Holds (sym (ap (λ (s : LineState). machine_in k s) steps.after_is ∙ machine_set_other machine k before steps.next counted apart)) (all k)

step_all : (number machine : ℕ) (input : Input) (before after : LineState) (told : List Happening) → (steps : MachineSteps number machine input before after told)
    → Fits number machine input before after told steps → AllHold before → AllHold after
step_all number machine input before after told steps fits all k = step_at number k machine input before after told (same_or_not k machine) steps fits all

-- ---- one step, where its input brings no board

abbrev IsNoInsert : Input → Type 0
IsNoInsert (inputs.Insert barcode) = ⊥
IsNoInsert (inputs.Gets board) = ⊥
IsNoInsert _ = Unit {0}

plain_fits : (most : ℕ) (maker : Maker) (input : Input) (words : List Word) (body : Body) → IsNoInsert input → HasPlaceFor most (event_of maker input words) body
plain_fits most maker (inputs.Insert barcode) words body none = absurd none
plain_fits most maker (inputs.Gets board) words body none = absurd none
plain_fits most maker (inputs.Replace id) words body none = other_fits most (next_id maker) id body
plain_fits most maker _ words body none = tt

plain_all : (number machine : ℕ) (input : Input) (before after : LineState) (told : List Happening) → IsNoInsert input → MachineSteps number machine input before after told → AllHold before → AllHold after
plain_all number machine input before after told none steps all =
    step_all number machine input before after told steps (λ words. plain_fits steps.node.capacity steps.node.maker input words steps.node.lane.body none) all

-- ---- one machine more

data Added (old new : Option NodeState) (node : NodeState) : Type 0 where
  added_none : new ≡ old → Added old new node
  added_here : new ≡ Some node → Added old new node

added_at : (nodes : List NodeState) (node : NodeState) (place : ℕ) → Added (slice_get nodes place) (slice_get (nodes ++ node ∷ []) place) node
added_at [] node zero = added_here refl
added_at [] node (suc place) = added_none refl
added_at (n ∷ nodes) node zero = added_none refl
added_at (n ∷ nodes) node (suc place) = added_at nodes node place

added : (k : ℕ) (lane : ℕ) (is_bridge : Bool) (capacity used : ℕ) (s : LineState) → Added (machine_in k s) (machine_in k (one_more lane is_bridge capacity used s)) (new_node (profile_of lane is_bridge (length s.machines + 1) capacity used))
added zero lane is_bridge capacity used s = added_none refl
added (suc place) lane is_bridge capacity used s = added_at s.machines (new_node (profile_of lane is_bridge (length s.machines + 1) capacity used)) place

new_has : (number : ℕ) (lane : ℕ) (is_bridge : Bool) (capacity used : ℕ) → Has (new_node (profile_of lane is_bridge number capacity used))
new_has number lane is_bridge capacity used =
    let sound = first_sound capacity is_bridge in
    record {
      sound = sound;
      holds = record {
        unspent = refl;
        places = sound.places;
        forecasts = omega arith;
        questions = omega arith;
        entry = λ is. omega arith;
        exit = λ is. omega arith;
      };
    }

more_by : (old new : Option NodeState) (node : NodeState) → Has node → Added old new node → Holds old → Holds new
more_by old new node has (added_none same) held = subst Holds (sym same) held
more_by old new node has (added_here here) held = subst Holds (sym here) (is_there has)

more_all : (lane : ℕ) (is_bridge : Bool) (capacity used : ℕ) (s : LineState) → AllHold s → AllHold (one_more lane is_bridge capacity used s)
more_all lane is_bridge capacity used s all k =
    more_by (machine_in k s) (machine_in k (one_more lane is_bridge capacity used s)) (new_node (profile_of lane is_bridge (length s.machines + 1) capacity used)) (new_has (length s.machines + 1) lane is_bridge capacity used) (added k lane is_bridge capacity used s) (all k)

-- ---- each turn

no_board : (on : Connected) → IsNoInsert (met on)
no_board connections.Accepted = tt
no_board connections.Second = tt

same_all : (s t : LineState) → t.machines ≡ s.machines → AllHold s → AllHold t
same_all s t same all zero = all zero
same_all s t same all (suc place) = subst Holds (sym (ap (λ (nodes : List NodeState). slice_get nodes place) same)) (all (suc place))

turn_all : (number : ℕ) (request : Request) (before after : LineState) (told : List Happening) → LineTurns number before after told request → AllHold before → AllHold after
turn_all number request before after told (turns.stays _ same none) all = same_all before after same all
turn_all number request before after told (turns.adds lane is_bridge capacity used may b) all = subst AllHold (sym b.after_is) (more_all lane is_bridge capacity used before all)
turn_all number request before after told (turns.steps machine input given may did) all =
    step_all number machine input before after told did (λ words. may_fits did.node input words (get_may machine input before did.node did.there may)) all
turn_all number request before after told (turns.connects machine may did) all =
    let on = connected_of (link_at (machine - 1) before.world).upstream in
    plain_all number (machine - 1) (met on) did.between after did.later (no_board on) did.second
    (plain_all number machine inputs.Connect (connecting machine before) did.between did.earlier tt did.first (same_all before (connecting machine before) refl all))
turn_all number request before after told (turns.flows machine side count may did) all =
    plain_all number machine (inputs.Bytes side did.piece) (arrived machine side count before) after told tt did.steps (same_all before (arrived machine side count before) refl all)

-- EACH LINE STEP
steps_all : (number : ℕ) (request : Request) (before after : LineState) (told : List Happening) → LineSteps number request before after told → AllHold before → AllHold after
steps_all number request before after told steps all =
    let next = steps.next in
    let count : LineState = record next { lines = steps.lines } in
    subst AllHold (sym steps.after_is) (same_all next count refl (turn_all number request before next steps.done (line_turns number request before next steps.done steps.does) all))

-- a line of another track
beside_has : (node now : NodeState) → IsBesideNode node now → Has node → Has now
beside_has node now beside has =
    let was = has.holds in
    let sound : IsSound now.capacity now.lane.body = subst (λ (most : ℕ). IsSound most now.lane.body) (sym beside.capacity) (subst (λ (l : Lane). IsSound node.capacity l.body) (sym beside.lane) has.sound) in
    record {
      sound = sound;
      holds = record {
        unspent = beside.spent ∙ was.unspent;
        places = sound.places;
        forecasts = subst (λ (kept : List Info). length kept ≤ most_forecasts) (sym beside.forecasts) was.forecasts;
        questions = subst (λ (orders : List Order). unanswered orders ≤ most_open) (sym beside.orders) was.questions;
        entry = subst (λ (l : Lane). is_open Entry l.body ≡ true → length l.entry_bytes ≤ most_bytes) (sym beside.lane) was.entry;
        exit = subst (λ (l : Lane). is_open Exit l.body ≡ true → length l.exit_bytes ≤ most_bytes) (sym beside.lane) was.exit;
      };
    }

beside_hold : (nodes others : List NodeState) (place : ℕ) → AreBesideNodes nodes others → Holds (slice_get nodes place) → Holds (slice_get others place)
beside_hold [] [] place are held = held
beside_hold [] (other ∷ others) place are held = absurd are
beside_hold (node ∷ nodes) [] place are held = absurd are
beside_hold (node ∷ nodes) (other ∷ others) zero are held = is_there (beside_has node other are.0 (holds_there (Some node) node refl held))
beside_hold (node ∷ nodes) (other ∷ others) (suc place) are held = beside_hold nodes others place are.1 held

beside_all : (before after : LineState) → IsBeside before after → AllHold before → AllHold after
beside_all before after is all zero = not_there
beside_all before after is all (suc place) = beside_hold before.machines after.machines place is.machines (all (suc place))

track_all : (number : ℕ) (line : TrackLine) (before after : LineState) (told : List Happening) → TrackSteps number line before after told → AllHold before → AllHold after
track_all number (own_line request) before after told steps all = steps_all number request before after told steps.0 all
track_all number other_line before after told steps all = beside_all before after steps.0 all

-- ---- over a run

run_all : (s : LineState) (asked : List TrackLine) (points : List Point) → IsRun s asked points → AllHold s → AllHold (state_behind s points)
run_all s [] [] run all = all
run_all s [] (point ∷ points) run all = absurd run
run_all s (line ∷ asked) [] run all = absurd run
run_all s (line ∷ asked) (point ∷ points) run all = run_all point.after asked points run.1 (track_all (s.lines + 1) line s point.after point.told run.0 all)

none_hold : AllHold no_line
none_hold zero = not_there
none_hold (suc place) = not_there

within_of : (s : LineState) → AllHold s → StaysWithin s
within_of s all machine node there = (holds_there (machine_in machine s) node there (all machine)).holds

-- EACH MACHINE STAYS WITHIN ITS BOUNDS
pub stays_within : EachMachineStaysWithin
stays_within asked points run = within_of (state_behind no_line points) (run_all no_line asked points run none_hold)

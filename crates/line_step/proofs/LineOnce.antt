-- A line of a script does one thing, and so does a run.
use Rattle.std.proofs.Common.{◌≡◌, ◌+◌, ◌-◌, ◌++◌, ℕ, zero, suc, Bool, true, false, List, ◌∷◌, Option, Some, None, Result, Ok, Err, length, map, refl, sym, ap, subst, ◌∙◌, []}
use Rattle.std.specs.Prelude.{pos, slice_get, slice_set, not, is_none, is_some}
use Rattle.std.specs.List.{flat_map}
use Rattle.line_base.specs.declared.states.Side.{Side}
use Rattle.line_base.specs.declared.states.Side.TheVariants.{Entry, Exit}
use Rattle.board_record.specs.Maker.{Maker}
use Rattle.board_record.specs.SubBoards.{unknown_sub}
use Rattle.line_script.specs.declared.line.ScriptLine.TheVariants as lines
use Rattle.line_link.specs.Link.{connected_of}
use Rattle.line_link.specs.declared.link.Connected.{Connected}
use Rattle.line_link.specs.declared.link.Connected.TheVariants as connections
use Rattle.line_world.specs.FloorPlan.{FloorPlan}
use Rattle.line_world.specs.Moves.{floor_move}
use Rattle.line_world.specs.declared.moves.Move.{Move}
use Rattle.line_world.specs.declared.moves.MoveNo.{MoveNo}
use Rattle.line_world.specs.declared.moves.MoveNo.TheVariants as move_no
use Rattle.node_core.specs.declared.act.Act.{Act}
use Rattle.node_core.specs.declared.input.Input.{Input}
use Rattle.node_core.specs.declared.input.Input.TheVariants as inputs
use Rattle.node_core.specs.declared.input.No.{No}
use Rattle.node_core.specs.declared.input.No.TheVariants as no
use Rattle.node_core.specs.declared.lane.Body.{Body}
use Rattle.node_core.specs.Announces.{is_intake_free}
use Rattle.handover_out.specs.State.{is_id}
use Rattle.node_core.specs.Boards.{is_kept}
use Rattle.node_core.specs.Desk.{Desk}
use Rattle.node_core.specs.May as node
use Rattle.node_core.specs.Node.{NodeState, desk_of, new_node}
use Rattle.node_core.specs.Own.{own_of}
use Rattle.node_core.specs.Places.{has_place}
use Rattle.node_core.specs.Sides.{end_at}
use Rattle.smema_bridge.specs.Levels.{BridgeLevels}
use Rattle.supervisory_core.specs.declared.order.Order.{Order}
use Rattle.supervisory_core.specs.Orders.{answer_of, answer_to, is_full}
use Rattle.standings.specs.Marks.{Owned, marks_of}
use Rattle.standings.specs.Told.{told_of}
use Rattle.line_report.specs.declared.happening.Happening.{Happening}
use Rattle.line_report.specs.declared.happening.Happening.TheVariants as happenings
use Rattle.line_report.specs.declared.happening.Reason.TheVariants as reasons
use Rattle.line_report.specs.Texts.{entry}
use Rattle.line_step.specs.World.{WorldParts, link_at, links_more}
use Rattle.line_step.specs.State.{LineState, machine_in, one_more, owned, owned_by, profile_of, with_machine, with_world}
use Rattle.line_step.specs.Acts.{acts_did}
use Rattle.line_step.specs.Steps.{MachineSteps, is_second, moment_of, read_by, unread_by}
use Rattle.line_step.specs.Together.{is_linked}
use Rattle.line_step.specs.Reasons.{May, behind_own, has_neighbour, if_there, is_dry_at, is_here, link_stands, may_add, may_answer, may_connect, may_cut, may_do, may_flow, may_give, may_give_away, may_lie, may_notice, may_remove, may_replace, may_sense, may_spoil, may_stop, may_take_in, may_unseen, is_bare, no_if, with_word, word_kept}
use Rattle.line_step.specs.Shown.{ascending, between_shown, ids_owned, kept_shown, shown, shown_from, standing_told, standings_told, taken_below}
use Rattle.line_step.specs.Lines.{Becomes, Connects, Flows, LineDoes, LineSteps, Moves, Unless, arrived, connecting, cut_in, lied, met, move_told, moved, spoiled, unseen}
use Rattle.line_step.specs.Runs.{Point, state_behind, told_text}
use Rattle.line_step.specs.Parts.{Part}
use Rattle.step_rules.proofs.Once.{AreAlike, IsDry, OneMeaning, StepsOnce, desk-same, steps-bytes, steps-dry}
use Rattle.line_step.specs.Requests.{Request, added_told, may_get}
use Rattle.line_step.specs.Requests as requests

-- ---- lines of machines that are alike

abbrev pub AreAllAlike : List NodeState → List NodeState → Type 0
AreAllAlike [] [] = Unit {0}
AreAllAlike [] (_ ∷ _) = ⊥
AreAllAlike (_ ∷ _) [] = ⊥
AreAllAlike (a ∷ as_) (b ∷ bs) = AreAlike a b × AreAllAlike as_ bs

-- the same line with other machines
abbrev pub like : LineState → List NodeState → LineState
like s nodes = record s { machines = nodes }

pub record LinesAlike (s t : LineState) : Type 0 where
  pub machines : AreAllAlike s.machines t.machines
  pub same : t ≡ like s t.machines

pub record DoesOnce (s t : LineState) (told other : List Happening) : Type 0 where
  pub alike : LinesAlike s t
  pub same : other ≡ told

alike-self : (a : NodeState) → AreAlike a a
alike-self a = record { spent = refl; name = refl; number = refl; capacity = refl; maker = refl; bridge = refl; forecasts = refl; supervised = refl; orders = refl; body = refl; entry = λ opened. refl; exit = λ opened. refl }

pub length-alike : (xs ys : List NodeState) → AreAllAlike xs ys → length ys ≡ length xs
length-alike [] [] all = refl
length-alike [] (b ∷ bs) all = absurd all
length-alike (a ∷ xs) [] all = absurd all
length-alike (a ∷ xs) (b ∷ ys) all = ap suc (length-alike xs ys all.1)

abbrev pub FoundAlike : Option NodeState → Option NodeState → Type 0
FoundAlike None None = Unit {0}
FoundAlike None (Some _) = ⊥
FoundAlike (Some _) None = ⊥
FoundAlike (Some a) (Some b) = AreAlike a b

get-alike : (xs ys : List NodeState) (place : ℕ) → AreAllAlike xs ys → FoundAlike (slice_get xs place) (slice_get ys place)
get-alike [] [] place all = tt
get-alike [] (b ∷ bs) place all = absurd all
get-alike (a ∷ xs) [] place all = absurd all
get-alike (a ∷ xs) (b ∷ ys) zero all = all.0
get-alike (a ∷ xs) (b ∷ ys) (suc place) all = get-alike xs ys place all.1

pub found-alike : (machine : ℕ) (s : LineState) (nodes : List NodeState) → AreAllAlike s.machines nodes → FoundAlike (machine_in machine s) (machine_in machine (like s nodes))
found-alike zero s nodes all = tt
found-alike (suc before) s nodes all = get-alike s.machines nodes before all

pub both-alike : (x y : Option NodeState) (a b : NodeState) → FoundAlike x y → x ≡ Some a → y ≡ Some b → AreAlike a b
both-alike x y a b found is is' =
    let P : Option NodeState → Type 0 = λ o. FoundAlike o y in
    let Q : Option NodeState → Type 0 = λ o. FoundAlike (Some a) o in
    subst Q is' (subst P is found)

set-alike : (xs ys : List NodeState) (place : ℕ) (a b : NodeState) → AreAllAlike xs ys → AreAlike a b → AreAllAlike (slice_set xs place a) (slice_set ys place b)
set-alike [] [] place a b all one = tt
set-alike [] (y ∷ ys) place a b all one = absurd all
set-alike (x ∷ xs) [] place a b all one = absurd all
set-alike (x ∷ xs) (y ∷ ys) zero a b all one = (one, all.1)
set-alike (x ∷ xs) (y ∷ ys) (suc place) a b all one = (all.0, set-alike xs ys place a b all.1 one)

push-alike : (xs ys : List NodeState) (a b : NodeState) → AreAllAlike xs ys → AreAlike a b → AreAllAlike (xs ++ a ∷ []) (ys ++ b ∷ [])
push-alike [] [] a b all one = (one, tt)
push-alike [] (y ∷ ys) a b all one = absurd all
push-alike (x ∷ xs) [] a b all one = absurd all
push-alike (x ∷ xs) (y ∷ ys) a b all one = (all.0, push-alike xs ys a b all.1 one)

pub owned-alike : (xs ys : List NodeState) → AreAllAlike xs ys → map owned_by ys ≡ map owned_by xs
owned-alike [] [] all = refl
owned-alike [] (y ∷ ys) all = absurd all
owned-alike (x ∷ xs) [] all = absurd all
owned-alike (x ∷ xs) (y ∷ ys) all =
    let own_at : Body → Owned = λ body. record { kept = (own_of body).kept; held = (own_of body).held; taking = (own_of body).taking } in
    ap (λ (o : Owned). o ∷ map owned_by ys) (ap own_at all.0.body) ∙ ap (λ os. owned_by x ∷ os) (owned-alike xs ys all.1)

pub below-alike : (xs ys : List NodeState) → AreAllAlike xs ys → taken_below ys ≡ taken_below xs
below-alike [] [] all = refl
below-alike [] (y ∷ ys) all = absurd all
below-alike (x ∷ xs) [] all = absurd all
below-alike (x ∷ xs) (y ∷ ys) all = ap (λ (body : Body). (own_of body).taking) all.0.body

shown-alike : (machine : ℕ) (xs ys : List NodeState) → AreAllAlike xs ys → shown_from machine ys ≡ shown_from machine xs
shown-alike machine [] [] all = refl
shown-alike machine [] (y ∷ ys) all = absurd all
shown-alike machine (x ∷ xs) [] all = absurd all
shown-alike machine (x ∷ xs) (y ∷ ys) all =
    let f : Body → Option ℕ → List Happening → List Happening = λ body below later. kept_shown machine body.kept ++ (between_shown machine (own_of body).held below ++ later) in
    ap (λ body. f body (taken_below ys) (shown_from (machine + 1) ys)) all.0.body
    ∙ ap (λ below. f x.lane.body below (shown_from (machine + 1) ys)) (below-alike xs ys all.1)
    ∙ ap (f x.lane.body (taken_below xs)) (shown-alike (machine + 1) xs ys all.1)

-- ---- the reasons

may-insert : (a b : NodeState) → AreAlike a b → node.may_insert b ≡ node.may_insert a
may-insert a b alike =
    let f : Desk → Maker → Body → Result (Unit {0}) No = λ desk maker body. node.no_if (not (is_intake_free body)) no.IntakeOpen (node.no_if (not (has_place desk body)) no.Full (node.no_if (node.is_used_up maker.used) no.IdsUsedUp node.may_do)) in
    ap (λ desk. f desk b.maker b.lane.body) (desk-same a b (pos 0) alike)
    ∙ ap (λ maker. f (desk_of a (pos 0)) maker b.lane.body) alike.maker
    ∙ ap (f (desk_of a (pos 0)) a.maker) alike.body

may-replace : (id : ℕ) (a b : NodeState) → AreAlike a b → node.may_replace id b ≡ node.may_replace id a
may-replace id a b alike =
    let f : Maker → Body → Result (Unit {0}) No = λ maker body. node.no_if (not (is_kept id body.kept)) no.NotKept (node.no_if (node.is_used_up maker.used) no.IdsUsedUp node.may_do) in
    ap (λ maker. f maker b.lane.body) alike.maker ∙ ap (f a.maker) alike.body

may-alike : (input : Input) (a b : NodeState) → AreAlike a b → node.may_of b input ≡ node.may_of a input
may-alike inputs.Nothing a b alike = refl
may-alike inputs.Connect a b alike = ap node.may_connect alike.body
may-alike inputs.Accepted a b alike = ap node.may_accept alike.body
may-alike inputs.Second a b alike = ap (node.may_reach Exit) alike.body
may-alike (inputs.Bytes side piece) a b alike = ap (node.may_reach side) alike.body
may-alike (inputs.Notice side) a b alike = ap (node.may_reach side) alike.body
may-alike (inputs.Fault side) a b alike = ap (node.may_fault side) alike.body
may-alike (inputs.Will side on) a b alike =
    let f : Option BridgeLevels → Body → Result (Unit {0}) No = λ bridge body. node.no_if (is_some bridge) no.Bridge (node.no_if (node.same_bool (end_at side body).willing on) no.Same node.may_do) in
    ap (λ bridge. f bridge b.lane.body) alike.bridge ∙ ap (f a.bridge) alike.body
may-alike (inputs.Level line on) a b alike = ap (node.may_level line on) alike.bridge
may-alike (inputs.Insert barcode) a b alike = may-insert a b alike
may-alike (inputs.Remove id) a b alike = ap (node.may_remove id) alike.body
may-alike (inputs.Replace id) a b alike = may-replace id a b alike
may-alike (inputs.Mark id quality) a b alike = ap (node.may_mark id) alike.body
may-alike (inputs.Sub id place barcode) a b alike = ap (node.may_sub id (unknown_sub place barcode)) alike.body
may-alike (inputs.Gives id to) a b alike = refl
may-alike (inputs.Gets board) a b alike = refl
may-alike inputs.Forecast a b alike = ap node.may_forecast alike.body
may-alike (inputs.Query barcode) a b alike = ap node.may_query alike.body
may-alike (inputs.Supervise on) a b alike =
    ap (λ (supervised : Bool). node.no_if (node.same_bool supervised on) no.Same node.may_do)
    alike.supervised
may-alike (inputs.Ask question) a b alike =
    let f : Bool → List Order → Result (Unit {0}) No = λ supervised orders.
    node.no_if (not supervised) no.NotSupervised
    (node.no_if (is_full orders) no.QueriesFull node.may_do) in
    ap (λ (supervised : Bool). f supervised b.orders) alike.supervised
    ∙ ap (f a.supervised) alike.orders
may-alike (inputs.Answer query order) a b alike =
    let f : Bool → List Order → Result (Unit {0}) No = λ supervised orders.
    node.no_if (not supervised) no.NotSupervised (node.no_answer (answer_of orders query)) in
    ap (λ (supervised : Bool). f supervised b.orders) alike.supervised
    ∙ ap (f a.supervised) alike.orders
may-alike _ a b alike = ap node.may_reach_any alike.body

pub there-alike : (x y : Option NodeState) (f g : NodeState → May) → FoundAlike x y → ((a b : NodeState) → AreAlike a b → g b ≡ f a) → if_there y g ≡ if_there x f
there-alike None None f g found same = refl
there-alike None (Some b) f g found same = absurd found
there-alike (Some a) None f g found same = absurd found
there-alike (Some a) (Some b) f g found same = same a b found

give-alike : (machine : ℕ) (input : Input) (s : LineState) (nodes : List NodeState) → AreAllAlike s.machines nodes → may_give machine input (like s nodes) ≡ may_give machine input s
give-alike machine input s nodes all =
    there-alike (machine_in machine s) (machine_in machine (like s nodes)) _ _ (found-alike machine s nodes all)
    (λ a b alike. ap (λ own. behind_own own may_do) (may-alike input a b alike))

-- the reason against an answer, with the word that answers its question
worded-alike : (own : Result (Unit {0}) No) (a b : NodeState) → AreAlike a b
    → with_word b own ≡ with_word a own
worded-alike (Ok _) a b alike = refl
worded-alike (Err (no.Answered query)) a b alike =
    ap (λ (orders : List Order). Err (reasons.Answered (word_kept (answer_to orders query))))
    alike.orders
worded-alike (Err _) a b alike = refl

answer-alike : (machine query : ℕ) (order : List ℕ) (s : LineState) (nodes : List NodeState)
    → AreAllAlike s.machines nodes
    → may_answer machine query order (like s nodes) ≡ may_answer machine query order s
answer-alike machine query order s nodes all =
    there-alike (machine_in machine s) (machine_in machine (like s nodes)) _ _
    (found-alike machine s nodes all)
    (λ a b alike. (
    let input = inputs.Answer query order in
    ap (with_word b) (may-alike input a b alike) ∙ worded-alike (node.may_of a input) a b alike))

remove-alike : (machine id : ℕ) (s : LineState) (nodes : List NodeState) → AreAllAlike s.machines nodes → may_remove machine id (like s nodes) ≡ may_remove machine id s
remove-alike machine id s nodes all =
    there-alike (machine_in machine s) (machine_in machine (like s nodes)) _ _ (found-alike machine s nodes all)
    (λ a b alike. ap (λ own. behind_own own (no_if (not (is_here machine id s.world)) reasons.NotHere may_do)) (may-alike (inputs.Remove id) a b alike))

replace-alike : (machine id : ℕ) (s : LineState) (nodes : List NodeState) → AreAllAlike s.machines nodes → may_replace machine id (like s nodes) ≡ may_replace machine id s
replace-alike machine id s nodes all =
    let f : Result (Unit {0}) No → Result (Unit {0}) No → May = λ own next. behind_own own (no_if (not (is_here machine id s.world)) reasons.NotHere (behind_own next may_do)) in
    there-alike (machine_in machine s) (machine_in machine (like s nodes)) _ _ (found-alike machine s nodes all)
    (λ a b alike. ap (λ own. f own (node.may_of b (inputs.Replace id))) (may-alike (inputs.Remove id) a b alike) ∙ ap (f (node.may_of a (inputs.Remove id))) (may-alike (inputs.Replace id) a b alike))

-- a board goes to another lane, or comes from one
pub away-alike : (machine id : ℕ) (s : LineState) (nodes : List NodeState) → AreAllAlike s.machines nodes → may_give_away machine id (like s nodes) ≡ may_give_away machine id s
away-alike machine id s nodes all =
    let f : Option BridgeLevels → Body → May = λ bridge body.
    no_if (is_some bridge) (reasons.Node no.Bridge)
    (no_if (not (is_kept id body.kept)) (reasons.Node no.NotKept)
    (no_if (not (is_here machine id s.world)) reasons.NotHere
    (no_if (is_id body.last_offer id) (reasons.Node no.WasOffered) may_do))) in
    there-alike (machine_in machine s) (machine_in machine (like s nodes)) _ _ (found-alike machine s nodes all)
    (λ a b alike. ap (λ bridge. f bridge b.lane.body) alike.bridge ∙ ap (f a.bridge) alike.body)

pub take_in-alike : (machine : ℕ) (s : LineState) (nodes : List NodeState) → AreAllAlike s.machines nodes → may_take_in machine (like s nodes) ≡ may_take_in machine s
take_in-alike machine s nodes all =
    let f : Desk → Body → May = λ desk body. behind_own (node.no_if (not (is_intake_free body)) no.IntakeOpen (node.no_if (not (has_place desk body)) no.Full node.may_do)) may_do in
    there-alike (machine_in machine s) (machine_in machine (like s nodes)) _ _ (found-alike machine s nodes all)
    (λ a b alike. ap (λ desk. f desk b.lane.body) (desk-same a b (pos 0) alike) ∙ ap (f (desk_of a (pos 0))) alike.body)

neighbour-alike : (machine : ℕ) (side : Side) (s : LineState) (nodes : List NodeState) → AreAllAlike s.machines nodes → has_neighbour machine side (like s nodes) ≡ has_neighbour machine side s
neighbour-alike machine Entry s nodes all = refl
neighbour-alike machine Exit s nodes all = rw (length-alike s.machines nodes all) refl

pub add-alike : (s : LineState) (nodes : List NodeState) → AreAllAlike s.machines nodes → may_add (like s nodes) ≡ may_add s
add-alike s nodes all = rw (length-alike s.machines nodes all) refl

pub cut-alike : (gap : ℕ) (s : LineState) (nodes : List NodeState) → AreAllAlike s.machines nodes → may_cut gap (like s nodes) ≡ may_cut gap s
cut-alike gap s nodes all = rw (length-alike s.machines nodes all) refl

connect-alike : (machine : ℕ) (s : LineState) (nodes : List NodeState) → AreAllAlike s.machines nodes → may_connect machine (like s nodes) ≡ may_connect machine s
connect-alike machine s nodes all =
    there-alike (machine_in machine s) (machine_in machine (like s nodes)) _ _ (found-alike machine s nodes all)
    (λ a b alike. ap (λ own. no_if (not (has_neighbour machine Entry s)) reasons.NoNeighbour (behind_own own may_do)) (may-alike inputs.Connect a b alike))

flow-alike : (machine : ℕ) (side : Side) (s : LineState) (nodes : List NodeState) → AreAllAlike s.machines nodes → may_flow machine side (like s nodes) ≡ may_flow machine side s
flow-alike machine side s nodes all =
    let f : Bool → Body → May = λ has body. no_if (not has) reasons.NoNeighbour (behind_own (node.may_reach side body) (no_if (is_dry_at machine side s.world) reasons.NothingInFlight may_do)) in
    there-alike (machine_in machine s) (machine_in machine (like s nodes)) _ _ (found-alike machine s nodes all)
    (λ a b alike. ap (λ has. f has b.lane.body) (neighbour-alike machine side s nodes all) ∙ ap (f (has_neighbour machine side s)) alike.body)

pub notice-alike : (machine : ℕ) (side : Side) (s : LineState) (nodes : List NodeState) → AreAllAlike s.machines nodes → may_notice machine side (like s nodes) ≡ may_notice machine side s
notice-alike machine side s nodes all =
    let f : Bool → Body → May = λ has body. no_if (not has) reasons.NoNeighbour (behind_own (node.may_reach side body) (no_if (link_stands machine side s.world) reasons.Standing (no_if (not (is_dry_at machine side s.world)) reasons.TextInFlight may_do))) in
    there-alike (machine_in machine s) (machine_in machine (like s nodes)) _ _ (found-alike machine s nodes all)
    (λ a b alike. ap (λ has. f has b.lane.body) (neighbour-alike machine side s nodes all) ∙ ap (f (has_neighbour machine side s)) alike.body)

spoil-alike : (machine : ℕ) (side : Side) (s : LineState) (nodes : List NodeState) → AreAllAlike s.machines nodes → may_spoil machine side (like s nodes) ≡ may_spoil machine side s
spoil-alike machine side s nodes all =
    there-alike (machine_in machine s) (machine_in machine (like s nodes)) _ _ (found-alike machine s nodes all)
    (λ a b alike. ap (λ has. no_if (not has) reasons.NoNeighbour (no_if (not (is_linked machine side s.world)) (reasons.Node no.NotConnected) (no_if (not (link_stands machine side s.world)) (reasons.Node no.NotStanding) may_do))) (neighbour-alike machine side s nodes all))

pub stop-alike : (machine : ℕ) (s : LineState) (nodes : List NodeState) → AreAllAlike s.machines nodes → may_stop machine (like s nodes) ≡ may_stop machine s
stop-alike machine s nodes all = there-alike (machine_in machine s) (machine_in machine (like s nodes)) _ _ (found-alike machine s nodes all) (λ a b alike. refl)

sense-alike : (machine : ℕ) (s : LineState) (nodes : List NodeState) → AreAllAlike s.machines nodes → may_sense machine (like s nodes) ≡ may_sense machine s
sense-alike machine s nodes all = there-alike (machine_in machine s) (machine_in machine (like s nodes)) _ _ (found-alike machine s nodes all) (λ a b alike. refl)

lie-alike : (machine : ℕ) (side : Side) (s : LineState) (nodes : List NodeState) → AreAllAlike s.machines nodes → may_lie machine side (like s nodes) ≡ may_lie machine side s
lie-alike machine side s nodes all =
    there-alike (machine_in machine s) (machine_in machine (like s nodes)) _ _ (found-alike machine s nodes all)
    (λ a b alike. ap (λ has. no_if (not has) reasons.NoNeighbour may_do) (neighbour-alike machine side s nodes all))

unseen-alike : (machine : ℕ) (side : Side) (s : LineState) (nodes : List NodeState) → AreAllAlike s.machines nodes → may_unseen machine side (like s nodes) ≡ may_unseen machine side s
unseen-alike machine side s nodes all =
    let f : Option BridgeLevels → May = λ bridge. no_if (is_none bridge) (reasons.Node no.NotABridge) (no_if (is_bare machine side s.world) (reasons.Move move_no.NothingThere) may_do) in
    there-alike (machine_in machine s) (machine_in machine (like s nodes)) _ _ (found-alike machine s nodes all) (λ a b alike. ap f alike.bridge)

-- ---- what a line does

becomes-once : (next next' s t : LineState) (what what' told other : List Happening) → LinesAlike next next' → what' ≡ what → Becomes next what s told → Becomes next' what' t other → DoesOnce s t told other
becomes-once next next' s t what what' told other alike same one two =
    let P : LineState → Type 0 = λ a. LinesAlike a next' in
    let Q : LineState → Type 0 = λ b. LinesAlike s b in
    record { alike = subst Q (sym two.after_is) (subst P (sym one.after_is) alike); same = two.told_is ∙ same ∙ sym one.told_is }

stays-alike : (s : LineState) (nodes : List NodeState) → AreAllAlike s.machines nodes → LinesAlike s (like s nodes)
stays-alike s nodes all = record { machines = all; same = refl }

unless-both : (may : May) (s after : LineState) (nodes : List NodeState) (after' : LineState) (told other : List Happening) (Done Done' : Type 0) → AreAllAlike s.machines nodes
    → (Done → Done' → DoesOnce after after' told other) → Unless may s after told Done → Unless may (like s nodes) after' other Done' → DoesOnce after after' told other
unless-both (Ok _) s after nodes after' told other Done Done' all once one two = once one two
unless-both (Err reason) s after nodes after' told other Done Done' all once one two =
    becomes-once s (like s nodes) after after' (happenings.No reason ∷ []) (happenings.No reason ∷ []) told other (stays-alike s nodes all) refl one two

unless-once : (may may' : May) (s after : LineState) (nodes : List NodeState) (after' : LineState) (told other : List Happening) (Done Done' : Type 0) → AreAllAlike s.machines nodes → may' ≡ may
    → (Done → Done' → DoesOnce after after' told other) → Unless may s after told Done → Unless may' (like s nodes) after' other Done' → DoesOnce after after' told other
unless-once may may' s after nodes after' told other Done Done' all same once one two =
    let P : May → Type 0 = λ m. Unless m (like s nodes) after' other Done' in
    unless-both may s after nodes after' told other Done Done' all once one (subst P same two)

-- a machine's step, whose input's bytes are the same
stepped-once : (number machine : ℕ) (input input' : Input) (s after : LineState) (nodes : List NodeState) (after' : LineState) (told other : List Happening) → AreAllAlike s.machines nodes → is_second input' ≡ is_second input
    → (one : MachineSteps number machine input s after told) (two : MachineSteps number machine input' (like s nodes) after' other)
    → (AreAlike one.node two.node → StepsOnce one.next two.next one.acts two.acts) → DoesOnce after after' told other
stepped-once number machine input input' s after nodes after' told other all second one two steps =
    let found = both-alike (machine_in machine s) (machine_in machine (like s nodes)) one.node two.node (found-alike machine s nodes all) one.there two.there in
    let once = steps found in
    let world = read_by machine s.world in
    let f : Bool → List Act → WorldParts = λ answers acts. (acts_did answers machine acts world).world in
    let g : Bool → List Act → List Happening = λ answers acts. (acts_did answers machine acts world).told in
    let next : LineState = with_world (f (is_second input) one.acts) (with_machine machine one.next s) in
    let next' : LineState = with_world (f (is_second input') two.acts) (with_machine machine two.next (like s nodes)) in
    let worlds : f (is_second input') two.acts ≡ f (is_second input) one.acts = ap (λ answers. f answers two.acts) second ∙ ap (f (is_second input)) once.same in
    let tolds : g (is_second input') two.acts ≡ g (is_second input) one.acts = ap (λ answers. g answers two.acts) second ∙ ap (g (is_second input)) once.same in
    let alike : LinesAlike next next' = record {
      machines = set-alike s.machines nodes (machine - 1) one.next two.next all once.alike;
      same = ap (λ w. with_world w (with_machine machine two.next (like s nodes))) worlds;
    } in
    becomes-once next next' after after' (g (is_second input) one.acts) (g (is_second input') two.acts) told other alike tolds
    (record { after_is = one.after_is; told_is = one.told_is }) (record { after_is = two.after_is; told_is = two.told_is })

pub dry-once : (number machine : ℕ) (input : Input) (s after : LineState) (nodes : List NodeState) (after' : LineState) (told other : List Happening) → IsDry input → AreAllAlike s.machines nodes
    → MachineSteps number machine input s after told → MachineSteps number machine input (like s nodes) after' other → DoesOnce after after' told other
dry-once number machine input s after nodes after' told other dry all one two =
    stepped-once number machine input input s after nodes after' told other all refl one two
    (λ alike. steps-dry one.node two.node one.next two.next (unread_by machine s.world) input (moment_of number) one.acts two.acts alike dry one.steps two.steps one.unspent two.unspent)

flows-once : OneMeaning → (number machine : ℕ) (side : Side) (count : Option ℕ) (s after : LineState) (nodes : List NodeState) (after' : LineState) (told other : List Happening) → AreAllAlike s.machines nodes
    → Flows number machine side count s after told → Flows number machine side count (like s nodes) after' other → DoesOnce after after' told other
flows-once law number machine side count s after nodes after' told other all one two =
    stepped-once number machine (inputs.Bytes side one.piece) (inputs.Bytes side two.piece) (arrived machine side count s) after nodes after' told other all refl one.steps two.steps
    (λ alike. steps-bytes law side one.steps.node two.steps.node one.steps.next two.steps.next (unread_by machine (arrived machine side count s).world) one.piece two.piece (moment_of number) one.steps.acts two.steps.acts alike (two.bytes ∙ sym one.bytes) one.steps.steps two.steps.steps one.steps.unspent two.steps.unspent)

pub met-dry : (on : Connected) → IsDry (met on)
met-dry connections.Accepted = tt
met-dry connections.Second = tt

connects-once : (number machine : ℕ) (s after : LineState) (nodes : List NodeState) (after' : LineState) (told other : List Happening) → AreAllAlike s.machines nodes
    → Connects number machine s after told → Connects number machine (like s nodes) after' other → DoesOnce after after' told other
connects-once number machine s after nodes after' told other all one two =
    let first = dry-once number machine inputs.Connect (connecting machine s) one.between nodes two.between one.earlier two.earlier tt all one.first two.first in
    let input = met (connected_of (link_at (machine - 1) s.world).upstream) in
    let P : LineState → Type 0 = λ between. MachineSteps number (machine - 1) input between after' two.later in
    let second = dry-once number (machine - 1) input one.between after two.between.machines after' one.later two.later (met-dry (connected_of (link_at (machine - 1) s.world).upstream)) first.alike.machines one.second (subst P first.alike.same two.second) in
    record { alike = second.alike; same = two.told_is ∙ ap (λ t. t ++ two.later) first.same ∙ ap (λ t. one.earlier ++ t) second.same ∙ sym one.told_is }

moved-alike : (answer : Result FloorPlan MoveNo) (s : LineState) (nodes : List NodeState) → AreAllAlike s.machines nodes → LinesAlike (moved answer s) (moved answer (like s nodes))
moved-alike (Ok floor) s nodes all = record { machines = all; same = refl }
moved-alike (Err why) s nodes all = record { machines = all; same = refl }

moves-once : (gap : ℕ) (step : Move) (s after : LineState) (nodes : List NodeState) (after' : LineState) (told other : List Happening) → AreAllAlike s.machines nodes → Moves gap step s after told → Moves gap step (like s nodes) after' other → DoesOnce after after' told other
moves-once gap step s after nodes after' told other all one two =
    let answer = floor_move gap step s.world.floor in
    becomes-once (moved answer s) (moved answer (like s nodes)) after after' (move_told gap step answer) (move_told gap step answer) told other (moved-alike answer s nodes all) refl one two

pub more-alike : (lane : ℕ) (is_bridge : Bool) (capacity used : ℕ) (s : LineState) (nodes : List NodeState) → AreAllAlike s.machines nodes → LinesAlike (one_more lane is_bridge capacity used s) (one_more lane is_bridge capacity used (like s nodes))
more-alike lane is_bridge capacity used s nodes all =
    let many = length-alike s.machines nodes all in
    let made : ℕ → NodeState = λ n. new_node (profile_of lane is_bridge (n + 1) capacity used) in
    let P : NodeState → Type 0 = λ b. AreAllAlike (s.machines ++ made (length s.machines) ∷ []) (nodes ++ b ∷ []) in
    let f : ℕ → LineState = λ n. record (one_more lane is_bridge capacity used (like s nodes)) { world = record (one_more lane is_bridge capacity used s).world { links = links_more n s.world.links } } in
    record {
      machines = subst P (sym (ap made many)) (push-alike s.machines nodes (made (length s.machines)) (made (length s.machines)) all (alike-self (made (length s.machines))));
      same = ap f many;
    }

pub added-alike : (is_bridge : Bool) (capacity : ℕ) (s : LineState) (nodes : List NodeState) → AreAllAlike s.machines nodes → added_told is_bridge capacity (like s nodes) ≡ added_told is_bridge capacity s
added-alike true capacity s nodes all = ap (λ n. happenings.Bridge (n + 1) capacity ∷ []) (length-alike s.machines nodes all)
added-alike false capacity s nodes all = ap (λ n. happenings.Machine (n + 1) capacity ∷ []) (length-alike s.machines nodes all)

unseen-once : (number machine : ℕ) (side : Side) (s : LineState) (nodes : List NodeState) → AreAllAlike s.machines nodes → LinesAlike (unseen number machine side s) (unseen number machine side (like s nodes))
unseen-once number machine Entry s nodes all = record { machines = all; same = refl }
unseen-once number machine Exit s nodes all = record { machines = all; same = refl }

getting-alike : (machine : ℕ) (input : Input) (s : LineState) (nodes : List NodeState) → AreAllAlike s.machines nodes → may_get machine input (like s nodes) ≡ may_get machine input s
getting-alike machine (inputs.Remove id) s nodes all = remove-alike machine id s nodes all
getting-alike machine (inputs.Replace id) s nodes all = replace-alike machine id s nodes all
getting-alike machine (inputs.Notice side) s nodes all = notice-alike machine side s nodes all
getting-alike machine inputs.Nothing s nodes all = sense-alike machine s nodes all
getting-alike machine (inputs.Answer query order) s nodes all = answer-alike machine query order s nodes all
getting-alike machine inputs.Connect s nodes all = refl
getting-alike machine inputs.Accepted s nodes all = refl
getting-alike machine inputs.Second s nodes all = refl
getting-alike machine (inputs.Bytes side piece) s nodes all = refl
getting-alike machine (inputs.Gives id to) s nodes all = away-alike machine id s nodes all
getting-alike machine (inputs.Gets board) s nodes all = take_in-alike machine s nodes all
getting-alike machine input s nodes all = give-alike machine input s nodes all

-- bytes are given by nobody, so what is given is dry
gives-once : (number machine : ℕ) (input : Input) (s after : LineState) (nodes : List NodeState) (after' : LineState) (told other : List Happening) → AreAllAlike s.machines nodes → LineDoes number (requests.gives machine input) s after told → LineDoes number (requests.gives machine input) (like s nodes) after' other → DoesOnce after after' told other
gives-once number machine (inputs.Bytes side piece) s after nodes after' told other all one two = becomes-once s (like s nodes) after after' _ _ told other (stays-alike s nodes all) refl one two
gives-once number machine input s after nodes after' told other all one two =
    unless-once (may_get machine input s) (may_get machine input (like s nodes)) s after nodes after' told other _ _ all (getting-alike machine input s nodes all)
    (dry-once number machine input s after nodes after' told other tt all) one two

pub does-once : OneMeaning → (number : ℕ) (request : Request) (s after : LineState) (nodes : List NodeState) (after' : LineState) (told other : List Happening) → AreAllAlike s.machines nodes → LineDoes number request s after told → LineDoes number request (like s nodes) after' other → DoesOnce after after' told other
does-once law number requests.nothing s after nodes after' told other all one two = becomes-once s (like s nodes) after after' [] [] told other (stays-alike s nodes all) refl one two
does-once law number requests.shows s after nodes after' told other all one two = becomes-once s (like s nodes) after after' (shown s) (shown (like s nodes)) told other (stays-alike s nodes all) (shown-alike 1 s.machines nodes all) one two
does-once law number (requests.adds lane is_bridge capacity used) s after nodes after' told other all one two =
    unless-once (may_add s) (may_add (like s nodes)) s after nodes after' told other _ _ all (add-alike s nodes all)
    (becomes-once (one_more lane is_bridge capacity used s) (one_more lane is_bridge capacity used (like s nodes)) after after' (added_told is_bridge capacity s) (added_told is_bridge capacity (like s nodes)) told other (more-alike lane is_bridge capacity used s nodes all) (added-alike is_bridge capacity s nodes all)) one two
does-once law number (requests.gives machine input) s after nodes after' told other all one two = gives-once number machine input s after nodes after' told other all one two
does-once law number (requests.connects machine) s after nodes after' told other all one two =
    unless-once (may_connect machine s) (may_connect machine (like s nodes)) s after nodes after' told other _ _ all (connect-alike machine s nodes all) (connects-once number machine s after nodes after' told other all) one two
does-once law number (requests.flows machine side count) s after nodes after' told other all one two =
    unless-once (may_flow machine side s) (may_flow machine side (like s nodes)) s after nodes after' told other _ _ all (flow-alike machine side s nodes all) (flows-once law number machine side count s after nodes after' told other all) one two
does-once law number (requests.cuts gap) s after nodes after' told other all one two =
    unless-once (may_cut gap s) (may_cut gap (like s nodes)) s after nodes after' told other _ _ all (cut-alike gap s nodes all)
    (becomes-once (cut_in gap s) (cut_in gap (like s nodes)) after after' (happenings.Cut gap ∷ []) (happenings.Cut gap ∷ []) told other (record { machines = all; same = refl }) refl) one two
does-once law number (requests.stops machine) s after nodes after' told other all one two =
    unless-once (may_stop machine s) (may_stop machine (like s nodes)) s after nodes after' told other _ _ all (stop-alike machine s nodes all)
    (becomes-once s (like s nodes) after after' (happenings.Stop machine ∷ []) (happenings.Stop machine ∷ []) told other (stays-alike s nodes all) refl) one two
does-once law number (requests.spoils machine side) s after nodes after' told other all one two =
    unless-once (may_spoil machine side s) (may_spoil machine side (like s nodes)) s after nodes after' told other _ _ all (spoil-alike machine side s nodes all)
    (becomes-once (spoiled machine side s) (spoiled machine side (like s nodes)) after after' _ _ told other (record { machines = all; same = refl }) refl) one two
does-once law number (requests.moves_on gap step) s after nodes after' told other all one two = moves-once gap step s after nodes after' told other all one two
does-once law number (requests.lies machine sensed) s after nodes after' told other all one two =
    unless-once (may_lie machine sensed.side s) (may_lie machine sensed.side (like s nodes)) s after nodes after' told other _ _ all (lie-alike machine sensed.side s nodes all)
    (becomes-once (lied number machine sensed s) (lied number machine sensed (like s nodes)) after after' _ _ told other (record { machines = all; same = refl }) refl) one two
does-once law number (requests.unsees machine side) s after nodes after' told other all one two =
    unless-once (may_unseen machine side s) (may_unseen machine side (like s nodes)) s after nodes after' told other _ _ all (unseen-alike machine side s nodes all)
    (becomes-once (unseen number machine side s) (unseen number machine side (like s nodes)) after after' _ _ told other (unseen-once number machine side s nodes all) refl) one two

-- the standings
standings-once : (before before' next next' : LineState) → owned before' ≡ owned before → owned next' ≡ owned next → standings_told before' next' ≡ standings_told before next
standings-once before before' next next' same later =
    let f : List Owned → List Owned → List Happening = λ old new. flat_map (λ id. standing_told id (told_of (marks_of old id) (marks_of new id))) (ascending (flat_map ids_owned old ++ flat_map ids_owned new)) in
    ap (λ old. f old (owned next')) same ∙ ap (f (owned before)) later

-- A LINE STEP does one thing, however far the count of lines goes on
pub line-once : OneMeaning → (number : ℕ) (request : Request) (s after t after' : LineState) (told other : List Happening) → LinesAlike s t → after'.lines ≡ after.lines → LineSteps number request s after told → LineSteps number request t after' other → DoesOnce after after' told other
line-once law number request s after t after' told other alike counted one two =
    let P : LineState → Type 0 = λ b. LineDoes number request b two.next two.done in
    let once = does-once law number request s one.next t.machines two.next one.done two.done alike.machines one.does (subst P alike.same two.does) in
    let count : ℕ → LineState → LineState = λ n next. record next { lines = n } in
    let Q : LineState → Type 0 = λ a. LinesAlike a (count two.lines two.next) in
    let R : LineState → Type 0 = λ b. LinesAlike after b in
    let as_far : two.lines ≡ one.lines = sym (ap (λ (b : LineState). b.lines) two.after_is) ∙ counted ∙ ap (λ (b : LineState). b.lines) one.after_is in
    let far : LinesAlike (count one.lines one.next) (count two.lines two.next) = record { machines = once.alike.machines; same = ap (λ n. count n two.next) as_far ∙ ap (count one.lines) once.alike.same } in
    record {
      alike = subst R (sym two.after_is) (subst Q (sym one.after_is) far);
      same =
          two.told_is
          ∙ ap (λ told. told ++ standings_told t two.next) once.same
          ∙ ap (λ told. one.done ++ told) (standings-once s t one.next two.next (owned-alike s.machines t.machines alike.machines) (owned-alike one.next.machines two.next.machines once.alike.machines))
          ∙ sym one.told_is;
    }

-- a part is the same line, whatever bytes wait on a side that has no connection
pub record IsSteady (part : Part) : Type 0 where
  pub same : (s t : LineState) → LinesAlike s t → part.line t ≡ part.line s

-- A RUN is told of in one text
pub record RunsOnce (s t : LineState) (points others : List Point) : Type 0 where
  pub alike : LinesAlike (state_behind s points) (state_behind t others)
  pub text : (number : ℕ) → told_text number others ≡ told_text number points

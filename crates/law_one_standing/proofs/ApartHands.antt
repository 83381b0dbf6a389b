-- What a hand takes from the floor is told, and lay there; and a step without one leaves every board where it is.
use Rattle.std.proofs.Common.{Bool, List, None, Option, Ok, Result, Some, [], ap, arith, length, length-set, refl, slice_set, subst, suc, sym, true, zero, ℕ, ◌++◌, ◌-◌, ◌∙◌, ◌∷◌, ◌≡◌, ◌≤◌, append_assoc}
use Rattle.std.specs.List.{AllByRecursion}
use Rattle.board_record.specs.declared.record.Record.{Record}
use Rattle.board_record.specs.Maker.{Maker, next_id}
use Rattle.board_record.specs.Record.{plain_record}
use Rattle.board_record.specs.declared.maker.IdsUsedUp.{IdsUsedUp}
use Rattle.board_record.specs.SubBoards.{unknown_sub}
use Rattle.line_base.specs.declared.states.Quality.{Quality}
use Rattle.line_world.specs.declared.board.Board.{Board}
use Rattle.line_world.specs.FloorPlan.{AtMachine, IsWhole, has_id, machine_at, place_of}
use Rattle.line_world.proofs.Differing.{same_differ}
use Rattle.line_world.proofs.Keeping.{as_many_machines, boards_unread}
use Rattle.line_world.proofs.Placing.{changes_id, lost_with}
use Rattle.node_core.specs.declared.act.Act.{Act}
use Rattle.node_core.specs.declared.act.Act.TheVariants as acts
use Rattle.node_core.specs.declared.input.Input.{Input}
use Rattle.node_core.specs.declared.input.Input.TheVariants as inputs
use Rattle.node_core.specs.declared.lane.Body.{Body}
use Rattle.node_core.specs.Announces.{announces}
use Rattle.node_core.specs.Boards.{if_kept, is_kept, replaces, takes_sub, with_instead, with_kept, with_mark, with_sub, without}
use Rattle.node_core.specs.Event.{Insert, Replace, event_did, event_of, maker_after, with_new}
use Rattle.node_core.specs.Node.{NodeState, desk_of}
use Rattle.node_core.specs.Reads.{all_read}
use Rattle.line_report.specs.declared.happening.Happening.{Happening}
use Rattle.line_report.specs.declared.happening.Happening.TheVariants as happenings
use Rattle.line_step.specs.Acts.{act_did, acts_did}
use Rattle.line_step.specs.FloorIds.{boards_of}
use Rattle.line_step.specs.Reasons.{is_here}
use Rattle.line_step.specs.State.{LineState, machine_in, with_machine, with_world}
use Rattle.line_step.specs.Steps.{MachineSteps, is_second, moment_of, read_by, unread_by}
use Rattle.line_step.specs.World.{WorldParts}
use Rattle.line_step.proofs.FloorLaws.{Holds, IsHandless, event-quiet}
use Rattle.step_rules.proofs.Hands.{AreQuiet, announces-quiet, hands_with_tells, quiet-join, read-quiet, signals-quiet}
use Rattle.line_step.proofs.WithTells.{tells_append}
use Rattle.node_core.specs.Step.{plain_step}
use Rattle.node_core.specs.Supervising.{tells_behind, watch_after, watch_behind, watch_of, with_tells}
use Rattle.step_rules.specs.Makers.{IsOld}
use Rattle.step_rules.proofs.Makers.{AreNumbered, numbered-at, numbered-set, old-set}
use Rattle.line_step.proofs.OnFloor.{LiesThere, as_many_gaps, lies-there_by, quiet-acts}
use Rattle.law_one_standing.specs.Carried.{Trace, between_of, stand_of}
use Rattle.law_one_standing.specs.Places.{LiesAt, at_machine, lies_at}
use Rattle.law_one_standing.proofs.ApartFloor.{counted, counted_lies}
use Rattle.law_one_standing.specs.Told.{IsTold, told_first}
use Rattle.law_one_standing.proofs.ApartStep.{Parted, gone_count, parted_by, told_behind}
use Rattle.node_core.specs.Signals.{signalled}
use Rattle.node_core.specs.Bridge.{failed_front, fails, tells_level}
use Rattle.smema_bridge.specs.declared.line.SegmentLine.{SegmentLine}
use Rattle.line_base.specs.declared.states.Quality.TheVariants as qualities
use Rattle.node_core.specs.declared.act.Setting.TheVariants as settings

-- ---- a board that is here lies here

there_counted : (x : ℕ) (boards : List Board) → LiesThere x boards → 1 ≤ counted x boards
there_counted x boards there =
    let found = changes_id x x boards there.place there.found in
    let more = lost_with x found.2.front found.2.back found.0 true found.1 in
    rw found.2.before (omega (arith, more))

pub here_lies : (t : Trace) (s : LineState) (m x : ℕ) → is_here m x s.world ≡ true → LiesAt (stand_of s) (between_of t s) x (at_machine m)
here_lies t s m x here =
    let boards = (machine_at s.world.floor m).boards in
    lies_at (counted_lies x boards (there_counted x boards (lies-there_by (place_of x boards) x boards refl here)))

-- ---- what is done by hand is told

acts_told : (second : Bool) (m : ℕ) (act : Act) (front back : List Act) (world : WorldParts) → ((w : WorldParts) → (act_did second m act w).told ≡ happenings.Done m act ∷ []) → IsTold (happenings.Done m act) (acts_did second m (front ++ act ∷ back) world).told
acts_told second m act [] back world plain = rw (plain world) told_first
acts_told second m act (one ∷ front) back world plain = told_behind (act_did second m one world).told (acts_told second m act front back (act_did second m one world).world plain)

-- the body with its sensor events read
abbrev pub body_then : (number m : ℕ) (input : Input) (s after : LineState) (told : List Happening) → MachineSteps number m input s after told → Body
body_then number m input s after told steps = (all_read (desk_of steps.node (moment_of number)) (unread_by m s.world) steps.node.lane.body).body

abbrev hand_then : (number m : ℕ) (input : Input) (s after : LineState) (told : List Happening) → MachineSteps number m input s after told → List Act
hand_then number m input s after told steps = (event_did (desk_of steps.node (moment_of number)) (event_of steps.node.maker input steps.steps.lane.words) (body_then number m input s after told steps)).acts

-- what the step does but for what it tells its supervisor
abbrev plain_then : (number m : ℕ) (input : Input) (s after : LineState) (told : List Happening)
    → MachineSteps number m input s after told → List Act
plain_then number m input s after told steps =
    (plain_step (desk_of steps.node (moment_of number)) (unread_by m s.world)
    (event_of steps.node.maker input steps.steps.lane.words) steps.node.lane.body).acts

-- an act that a step does is told, whatever the supervisor is told behind it
among_told : (number m : ℕ) (input : Input) (act : Act) (front back : List Act)
    (s after : LineState) (told : List Happening)
    (steps : MachineSteps number m input s after told)
    → plain_then number m input s after told steps ≡ front ++ act ∷ back
    → ((w : WorldParts) → (act_did (is_second input) m act w).told ≡ happenings.Done m act ∷ [])
    → IsTold (happenings.Done m act) told
among_told number m input act front back s after told steps is plain =
    let desk = desk_of steps.node (moment_of number) in
    let watch = watch_of desk steps.node.lane.body in
    let now = watch_behind watch front in
    let first = with_tells desk watch front in
    let rest = tells_behind desk now act ++ with_tells desk (watch_after now act) back in
    let own : List Act = signalled steps.node.bridge steps.next.lane.body in
    let made : steps.steps.made ≡ first ++ act ∷ rest =
    steps.steps.lane.told ∙ ap (with_tells desk watch) is
    ∙ tells_append desk watch front (act ∷ back) in
    let all : steps.acts ≡ first ++ act ∷ (rest ++ own) =
    steps.steps.told ∙ ap (λ (acts : List Act). acts ++ own) made
    ∙ append_assoc first (act ∷ rest) own in
    let P : List Act → Type 0 =
    λ list. IsTold (happenings.Done m act)
    (acts_did (is_second input) m list (read_by m s.world)).told in
    let Q : List Happening → Type 0 = λ list. IsTold (happenings.Done m act) list in
    subst Q (sym steps.told_is)
    (subst P (sym all)
    (acts_told (is_second input) m act first (rest ++ own) (read_by m s.world) plain))

step_told : (number m : ℕ) (input : Input) (act : Act) (s after : LineState) (told : List Happening) (steps : MachineSteps number m input s after told) → hand_then number m input s after told steps ≡ act ∷ [] → ((w : WorldParts) → (act_did (is_second input) m act w).told ≡ happenings.Done m act ∷ []) → IsTold (happenings.Done m act) told
step_told number m input act s after told steps one plain =
    let desk = desk_of steps.node (moment_of number) in
    let read = all_read desk (unread_by m s.world) steps.node.lane.body in
    let last = announces desk (event_did desk (event_of steps.node.maker input steps.steps.lane.words) read.body).body in
    among_told number m input act read.acts last.acts s after told steps
    (ap (λ (hand : List Act). read.acts ++ (hand ++ last.acts)) one) plain

-- a machine puts a board in under its next id
pub inserts_told : (number m new : ℕ) (barcode : Option (List ℕ)) (s after : LineState) (told : List Happening) (steps : MachineSteps number m (inputs.Insert barcode) s after told) → next_id steps.node.maker ≡ Ok new → IsTold (happenings.Done m (acts.Inserts new)) told
inserts_told number m new barcode s after told steps is =
    let desk = desk_of steps.node (moment_of number) in
    let body = body_then number m (inputs.Insert barcode) s after told steps in
    let f : Result ℕ IdsUsedUp → List Act = λ answer. (event_did desk (with_new answer (λ id. Insert id barcode)) body).acts in
    step_told number m (inputs.Insert barcode) (acts.Inserts new) s after told steps (ap f is) (λ w. refl)

-- a machine that keeps the board's record removes it, gives it another id, or marks it
pub removes_told : (number m x : ℕ) (s after : LineState) (told : List Happening) (steps : MachineSteps number m (inputs.Remove x) s after told) → is_kept x (body_then number m (inputs.Remove x) s after told steps).kept ≡ true → IsTold (happenings.Done m (acts.Removes x)) told
removes_told number m x s after told steps kept =
    let body = body_then number m (inputs.Remove x) s after told steps in
    let f : Bool → List Act = λ kept. (if_kept kept (with_kept (without x body.kept) body) (acts.Removes x) body).acts in
    step_told number m (inputs.Remove x) (acts.Removes x) s after told steps (ap f kept) (λ w. refl)

pub gets_told : (number m : ℕ) (board : Record) (s after : LineState) (told : List Happening) → MachineSteps number m (inputs.Gets board) s after told → IsTold (happenings.Done m (acts.Gets board.id)) told
gets_told number m board s after told steps = step_told number m (inputs.Gets board) (acts.Gets board.id) s after told steps refl (λ w. refl)

pub replaces_told : (number m x now : ℕ) (s after : LineState) (told : List Happening) (steps : MachineSteps number m (inputs.Replace x) s after told) → next_id steps.node.maker ≡ Ok now → is_kept x (body_then number m (inputs.Replace x) s after told steps).kept ≡ true → IsTold (happenings.Done m (acts.Replaces x now)) told
replaces_told number m x now s after told steps new kept =
    let desk = desk_of steps.node (moment_of number) in
    let body = body_then number m (inputs.Replace x) s after told steps in
    let f : Result ℕ IdsUsedUp → List Act = λ answer. (event_did desk (with_new answer (Replace x)) body).acts in
    let g : Bool → List Act = λ kept. (if_kept kept (with_kept (with_instead x (plain_record now desk.name None) body.kept) body) (acts.Replaces x now) body).acts in
    let some : hand_then number m (inputs.Replace x) s after told steps ≡ (replaces desk x now body).acts = ap f new in
    let one : (replaces desk x now body).acts ≡ acts.Replaces x now ∷ [] = ap g kept in
    step_told number m (inputs.Replace x) (acts.Replaces x now) s after told steps (some ∙ one) (λ w. refl)

pub marks_told : (number m x : ℕ) (quality : Quality) (s after : LineState) (told : List Happening) (steps : MachineSteps number m (inputs.Mark x quality) s after told) → is_kept x (body_then number m (inputs.Mark x quality) s after told steps).kept ≡ true → IsTold (happenings.Done m (acts.Marks x quality)) told
marks_told number m x quality s after told steps kept =
    let body = body_then number m (inputs.Mark x quality) s after told steps in
    let f : Bool → List Act = λ kept. (if_kept kept (with_kept (with_mark x quality body.kept) body) (acts.Marks x quality) body).acts in
    step_told number m (inputs.Mark x quality) (acts.Marks x quality) s after told steps (ap f kept) (λ w. refl)

pub subs_told : (number m x place : ℕ) (barcode : Option (List ℕ)) (s after : LineState) (told : List Happening) (steps : MachineSteps number m (inputs.Sub x place barcode) s after told) → takes_sub x (unknown_sub place barcode) (body_then number m (inputs.Sub x place barcode) s after told steps).kept ≡ true → IsTold (happenings.Done m (acts.Subs x place)) told
subs_told number m x place barcode s after told steps takes =
    let body = body_then number m (inputs.Sub x place barcode) s after told steps in
    let f : Bool → List Act = λ takes. (if_kept takes (with_kept (with_sub x (unknown_sub place barcode) body.kept) body) (acts.Subs x place) body).acts in
    step_told number m (inputs.Sub x place barcode) (acts.Subs x place) s after told steps (ap f takes) (λ w. refl)

-- what is done behind another act of the input is told too
step_told_second : (number m : ℕ) (input : Input) (first act : Act) (s after : LineState) (told : List Happening) (steps : MachineSteps number m input s after told) → hand_then number m input s after told steps ≡ first ∷ act ∷ []
    → ((w : WorldParts) → (act_did (is_second input) m act w).told ≡ happenings.Done m act ∷ [])
    → IsTold (happenings.Done m act) told
step_told_second number m input first act s after told steps two plain =
    let desk = desk_of steps.node (moment_of number) in
    let read = all_read desk (unread_by m s.world) steps.node.lane.body in
    let last = announces desk (event_did desk (event_of steps.node.maker input steps.steps.lane.words) read.body).body in
    among_told number m input act (read.acts ++ first ∷ []) last.acts s after told steps
    (ap (λ (hand : List Act). read.acts ++ (hand ++ last.acts)) two
    ∙ sym (append_assoc read.acts (first ∷ []) (act ∷ last.acts))) plain

-- a bridge marks its front board, where a level of the segment says that it is a failed one
pub fails_told : (number m id : ℕ) (line : SegmentLine) (on : Bool) (s after : LineState) (told : List Happening) (steps : MachineSteps number m (inputs.Level line on) s after told)
    → failed_front steps.node.bridge line on (tells_level line on (body_then number m (inputs.Level line on) s after told steps)).body ≡ Some id
    → is_kept id (tells_level line on (body_then number m (inputs.Level line on) s after told steps)).body.kept ≡ true
    → IsTold (happenings.Done m (acts.Marks id qualities.Failed)) told
fails_told number m id line on s after told steps found kept =
    let one : Body = (tells_level line on (body_then number m (inputs.Level line on) s after told steps)).body in
    let sets : Act = acts.Sets (settings.Level line on) in
    let f : Option ℕ → List Act = λ front. sets ∷ (fails front one).acts in
    let g : Bool → List Act = λ there. sets ∷ (if_kept there (with_kept (with_mark id qualities.Failed one.kept) one) (acts.Marks id qualities.Failed) one).acts in
    step_told_second number m (inputs.Level line on) sets (acts.Marks id qualities.Failed) s after told steps (ap f found ∙ ap g kept) (λ w. refl)

-- ---- a step without a hand

same_maker : (input : Input) (maker : Maker) → IsHandless input → maker_after input maker ≡ maker
same_maker (inputs.Insert barcode) maker handless = absurd handless
same_maker (inputs.Remove id) maker handless = absurd handless
same_maker (inputs.Replace id) maker handless = absurd handless
same_maker (inputs.Gives id to) maker handless = absurd handless
same_maker (inputs.Gets board) maker handless = absurd handless
same_maker _ maker handless = refl

-- each board is where it was, and all old ids are
pub record IsStill (s after : LineState) : Type 0 where
  pub holds : Holds after
  pub boards : boards_of after ≡ boards_of s
  pub olds : (id : ℕ) → IsOld 1 s.machines id → IsOld 1 after.machines id

older : (old new : List NodeState) (boards : List Board) → ((id : ℕ) → IsOld 1 old id → IsOld 1 new id) → AllByRecursion (λ (board : Board). (id : ℕ) → has_id id board ≡ true → IsOld 1 old id) boards → AllByRecursion (λ (board : Board). (id : ℕ) → has_id id board ≡ true → IsOld 1 new id) boards
older old new [] olds all = tt
older old new (board ∷ boards) olds all = (λ id has. olds id (all.0 id has), older old new boards olds all.1)

still_holds : (s after : LineState) → Holds s → AreNumbered 1 after.machines → length after.world.floor.machines ≡ length after.machines → IsWhole after.world.floor → boards_of after ≡ boards_of s → ((id : ℕ) → IsOld 1 s.machines id → IsOld 1 after.machines id) → IsStill s after
still_holds s after h own many whole same olds =
    let P : List Board → Type 0 = λ boards. AllByRecursion (λ (board : Board). (id : ℕ) → has_id id board ≡ true → IsOld 1 after.machines id) boards in
    record {
      holds = record {
        own = own;
        many = many;
        whole = whole;
        old = subst P (sym same) (older s.machines after.machines (boards_of s) olds h.old);
        differ = same_differ s.world.floor after.world.floor same h.differ;
      };
      boards = same;
      olds = olds;
    }

node_stays : (s : LineState) (m : ℕ) (node next : NodeState) → machine_in m s ≡ Some node → next.maker ≡ node.maker → AreNumbered 1 s.machines → AreNumbered 1 (slice_set s.machines (m - 1) next) × ((id : ℕ) → IsOld 1 s.machines id → IsOld 1 (slice_set s.machines (m - 1) next) id)
node_stays s zero node next there maker own = cc
node_stays s (suc place) node next there maker own =
    let here = numbered-at 1 s.machines place node own there in
    let before : suc place - 1 ≡ place = omega arith in
    let used : node.maker.used ≤ next.maker.used = rw maker (omega arith) in
    rw before (numbered-set 1 s.machines place node next own there (record { machine = ap (λ (k : Maker). k.machine) maker ∙ here.machine }), λ id old. old-set 1 s.machines place node next id there used old)

pub step_still : (number m : ℕ) (input : Input) (s after : LineState) (told : List Happening) → IsHandless input → Holds s → MachineSteps number m input s after told → IsStill s after
step_still number m input s after told handless h steps =
    let desk = desk_of steps.node (moment_of number) in
    let read = all_read desk (unread_by m s.world) steps.node.lane.body in
    let event = event_did desk (event_of steps.node.maker input steps.steps.lane.words) read.body in
    let last = announces desk event.body in
    let watch = watch_of desk steps.node.lane.body in
    let own : List Act = signalled steps.node.bridge steps.next.lane.body in
    let P : List Act → Type 0 = λ list. AreQuiet list in
    let quiet : AreQuiet steps.acts =
    subst P (sym (steps.steps.told ∙ ap (λ (acts : List Act). acts ++ own) steps.steps.lane.told))
    (quiet-join (with_tells desk watch (read.acts ++ (event.acts ++ last.acts))) own
    (hands_with_tells desk watch (read.acts ++ (event.acts ++ last.acts))
    (quiet-join read.acts (event.acts ++ last.acts) (read-quiet desk (unread_by m s.world) steps.node.lane.body)
    (quiet-join event.acts last.acts
    (event-quiet desk steps.node.maker input steps.steps.lane.words read.body handless)
    (announces-quiet desk event.body))))
    (signals-quiet steps.node.bridge steps.next.lane.body)) in
    let world = read_by m s.world in
    let plan = s.world.floor in
    let now : AtMachine = record (machine_at plan m) { unread = [] } in
    let same = quiet-acts (is_second input) m steps.acts world quiet in
    let end : LineState = with_world (acts_did (is_second input) m steps.acts world).world (with_machine m steps.next s) in
    let many : length end.world.floor.machines ≡ length plan.machines = ap length same.machines ∙ as_many_machines plan m now in
    let gaps : length end.world.floor.gaps ≡ length plan.gaps = same.gaps ∙ ap length (as_many_gaps plan m now) in
    let nodes = node_stays s m steps.node steps.next steps.there (steps.steps.lane.made ∙ same_maker input steps.node.maker handless) h.own in
    let still : IsStill s end =
    still_holds s end h nodes.0 (many ∙ h.many ∙ sym (length-set s.machines (m - 1) steps.next)) (gaps ∙ h.whole ∙ ap (λ n. n - 1) (sym many)) (same.boards ∙ boards_unread plan m []) nodes.1 in
    let Q : LineState → Type 0 = λ a. IsStill s a in
    subst Q (sym steps.after_is) still

-- nothing more is gone
pub apart_still : (t t2 : Trace) (s after : LineState) → IsStill s after → ((k y : ℕ) → t2.gone k y ≡ t.gone k y) → Parted t s → Parted t2 after
apart_still t t2 s after still same parted =
    parted_by t2 after still.holds
    (λ k x gone. ap (λ (boards : List Board). counted x boards) still.boards ∙ gone_count t s k x parted (sym (same k x) ∙ gone))
    (λ j k x one two. parted.apart.gone_once j k x (sym (same j x) ∙ one) (sym (same k x) ∙ two))
    (λ k x gone. still.olds x (parted.olds k x (sym (same k x) ∙ gone)))

-- THE MERGED LOG OF A WOVEN RUN is a log of the running line beside it.
use Rattle.std.proofs.Common.{Bool, List, Option, Some, [], ap, arith, cond, eqb-true, false, inl, inr, refl, slice_get, subst, suc, sym, true, zero, ℕ, ℤ, ◌++◌, ◌+◌, ◌==◌, ◌∙◌, ◌∷◌, ◌≡◌, ◌≢◌, ◌≤◌, ◌⊎◌}
use Rattle.std.specs.List.{AllByRecursion}
use Rattle.std.specs.Prelude.{nat_le}
use Rattle.board_record.specs.Maker.{Maker}
use Rattle.line_outside.specs.Given.{Given}
use Rattle.node_core.specs.Event.{maker_after}
use Rattle.node_core.specs.Node.{NodeState}
use Rattle.node_core.specs.declared.act.Act.{Act}
use Rattle.node_core.specs.declared.input.Input.{Input}
use Rattle.node_core.specs.declared.input.Input.TheVariants as inputs
use Rattle.line_step.proofs.Numbers.{same_or_not}
use Rattle.law_one_standing.proofs.RestLine.{node_there}
use Rattle.node_run.specs.State.{RunState}
use Rattle.law_running_line.specs.New.{IsNew, NumbersDiffer}
use Rattle.law_running_line.specs.Reading.{Reading}
use Rattle.law_running_line.specs.Running.{Running, with_floor}
use Rattle.law_running_line.specs.RunSteps.{RunsTo, asks, at_rest, goes_on, lets_be, lets_go, moves, turns}
use Rattle.law_running_line.specs.Stands.{line_of, node_in}
use Rattle.law_running_line.specs.Timed.{AreRelated}
use Rattle.law_running_logs.specs.Told.{RunPoint, points_of}
use Rattle.law_running_logs.specs.Merged.{IsLogOf, StepLines, beside, no_lines, no_steps, no_turns, step, with_turn}
use Rattle.law_running_logs.specs.Right.{LogIsRight}
use Rattle.law_joined_nodes.specs.Does.{Does, Makes, Taken, does_accept, does_connect, does_find, does_hear, does_nothing, does_step}
use Rattle.law_joined_nodes.specs.Joined.{HaveBegun, IsStarted, Joined, NodeRun, machine_of, run_of}
use Rattle.law_joined_nodes.specs.Woven.{NodeMoves, at_rest as nothing_happens, board_moves, goes_on as and_then, goes_read, is_lost, node_moves}
use Rattle.law_joined_nodes.proofs.Projected.{other_there, own_there, some_run}
use Rattle.law_joined_nodes.proofs.Weaving.{Came, GoesOn, Joins, StepsOn, begun_joins, board_step, came_asks, came_gone, came_lost, came_moved, came_none, came_turn, go_step, lost_step, machine_there, move_step}
use Rattle.law_joined_nodes.specs.Logged.{IsWovenToo, LogsTo, NodesLogRight, logs_beside, logs_board, logs_go, logs_lost, logs_move, logs_none}

-- ---- a log may begin in earlier turns

by_test : (test : Bool) (turn a b : ℕ) → (test ≡ false → a ≤ b) → cond test turn a ≤ cond test turn b
by_test true turn a b le = omega arith
by_test false turn a b le = le refl

turn_more : (machine turn : ℕ) (small big : ℕ → ℕ) → ((k : ℕ) → small k ≤ big k) → (k : ℕ) → with_turn machine turn small k ≤ with_turn machine turn big k
turn_more machine turn small big le k = by_test (machine == k) turn (small k) (big k) (λ is. le k)

earlier : {big : ℕ → ℕ} {points : List RunPoint} {log : List (List ℕ)} (small : ℕ → ℕ) → ((k : ℕ) → small k ≤ big k) → IsLogOf big points log → IsLogOf small points log
earlier small le no_steps = no_steps
earlier {big} small le (step {point = point} turn least lines others is) =
    let here : small point.machine ≤ turn = (let a = le point.machine in omega (arith, a, least)) in
    step turn here lines (earlier (with_turn point.machine turn small) (turn_more point.machine turn small big le) others) is
earlier {big} small le (beside machine number turn text least can kind others) =
    let here : small machine ≤ turn = (let a = le machine in omega (arith, a, least)) in
    beside machine number turn text here can kind (earlier (with_turn machine turn small) (turn_more machine turn small big le) others)

own_or : (latest : ℕ → ℕ) (machine k : ℕ) (test : Bool) → (machine == k) ≡ test → cond test (latest machine) (latest k) ≤ latest k
own_or latest machine k true is = (let same : machine ≡ k = eqb-true machine k is in subst (λ (n : ℕ). latest n ≤ latest k) (sym same) (omega arith))
own_or latest machine k false is = omega arith

-- the turn that it had
as_it_was : (latest : ℕ → ℕ) (machine k : ℕ) → with_turn machine (latest machine) latest k ≤ latest k
as_it_was latest machine k = own_or latest machine k (machine == k) refl

later_or : (latest : ℕ → ℕ) (machine turn k : ℕ) (test : Bool) → latest machine ≤ turn → (machine == k) ≡ test → latest k ≤ cond test turn (latest k)
later_or latest machine turn k true le is = (let same : machine ≡ k = eqb-true machine k is in subst (λ (n : ℕ). latest n ≤ turn) same le)
later_or latest machine turn k false le is = omega arith

later_too : (latest : ℕ → ℕ) (machine turn k : ℕ) → latest machine ≤ turn → latest k ≤ with_turn machine turn latest k
later_too latest machine turn k le = later_or latest machine turn k (machine == k) le refl

-- ---- a run with its log

pub record Logged (reading : Reading) (latest : ℕ → ℕ) (before : Running) (log : List (List ℕ)) (after : Running) : Type 0 where
  pub acts : List Act
  pub run : RunsTo reading before acts after
  pub is : IsLogOf latest (points_of run) log

no_step_lines : {machine number turn : ℕ} {lines : List (List ℕ)} → StepLines machine number turn [] lines → lines ≡ []
no_step_lines no_lines = refl

named_by : {machine number other turn : ℕ} {acts : List Act} {lines : List (List ℕ)} → other ≡ number → StepLines machine number turn acts lines → StepLines machine other turn acts lines
named_by {machine} {turn = turn} {acts = acts} {lines = lines} is logs = subst (λ (n : ℕ). StepLines machine n turn acts lines) (sym is) logs

-- a step without acts: no line is of it
silent : (latest : ℕ → ℕ) (machine turn other : ℕ) {points : List RunPoint} {log : List (List ℕ)} → latest machine ≤ turn → IsLogOf (with_turn machine turn latest) points log → IsLogOf (with_turn other (latest other) latest) points log
silent latest machine turn other least logs = earlier (with_turn other (latest other) latest) (λ k. (let a = as_it_was latest other k in let b = later_too latest machine turn k least in omega (arith, a, b))) logs

came_logged : {reading : Reading} {machine : ℕ} {before mid after : Running} {acts : List Act} (latest : ℕ → ℕ) (number turn : ℕ) (lines log all : List (List ℕ)) → Came reading machine before acts mid → (node_in mid machine).maker.machine ≡ number → latest machine ≤ turn
    → StepLines machine number turn acts lines → Logged reading (with_turn machine turn latest) mid log after → all ≡ lines ++ log → Logged reading latest before all after
came_logged {reading} {machine} {before} {mid} {after} latest number turn lines log all came_none named least own later is =
    let same : all ≡ log = is ∙ ap (λ (l : List (List ℕ)). l ++ log) (no_step_lines own) in
    record { acts = later.acts; run = later.run; is = subst (λ (l : List (List ℕ)). IsLogOf latest (points_of later.run) l) (sym same) (earlier latest (λ k. later_too latest machine turn k least) later.is) }
came_logged {reading} {machine} latest number turn lines log all (came_asks {above = above} a) named least own later is =
    let same : all ≡ log = is ∙ ap (λ (l : List (List ℕ)). l ++ log) (no_step_lines own) in
    record { acts = [] ++ later.acts; run = goes_on (asks a) later.run; is = step (latest above) (omega arith) no_lines (silent latest machine turn above least later.is) same }
came_logged {reading} {machine} latest number turn lines log all (came_lost {other = other} l) named least own later is =
    let same : all ≡ log = is ∙ ap (λ (l : List (List ℕ)). l ++ log) (no_step_lines own) in
    record { acts = [] ++ later.acts; run = goes_on (lets_be l) later.run; is = step (latest other) (omega arith) no_lines (silent latest machine turn other least later.is) same }
came_logged {reading} {machine} latest number turn lines log all (came_moved {gap = gap} m) named least own later is =
    let same : all ≡ log = is ∙ ap (λ (l : List (List ℕ)). l ++ log) (no_step_lines own) in
    record { acts = [] ++ later.acts; run = goes_on (moves m) later.run; is = step (latest gap) (omega arith) no_lines (silent latest machine turn gap least later.is) same }
came_logged latest number turn lines log all (came_turn {told = acts} t) named least own later is =
    record { acts = acts ++ later.acts; run = goes_on (turns t) later.run; is = step turn least (named_by named own) later.is is }
came_logged latest number turn lines log all (came_gone {told = acts} g) named least own later is =
    record { acts = acts ++ later.acts; run = goes_on (lets_go g) later.run; is = step turn least (named_by named own) later.is is }

-- ---- a node logs under the number of its machine

pub record AreNumbered (j : Joined) : Type 0 where
  pub each : (machine : ℕ) (run : NodeRun) → run_of machine j ≡ Some run → run.rules.number ≡ run.state.node.maker.machine

full_stays : (test : Bool) (maker : Maker) → (cond test maker (record maker { used = maker.used + 1 })).machine ≡ maker.machine
full_stays true maker = refl
full_stays false maker = refl

number_stays : (input : Input) (maker : Maker) → (maker_after input maker).machine ≡ maker.machine
number_stays (inputs.Insert barcode) maker = full_stays (nat_le 281474976710655 maker.used) maker
number_stays (inputs.Replace id) maker = full_stays (nat_le 281474976710655 maker.used) maker
number_stays input maker = refl

makes_number : {moment : ℤ} {s t : RunState} {taken : Taken} → Makes moment s t taken → t.node.maker.machine ≡ s.node.maker.machine
makes_number {s = s} {taken = taken} m = ap (λ (k : Maker). k.machine) m.steps.lane.made ∙ number_stays taken.input s.node.maker

does_number : {moment : ℤ} {s t : RunState} {given : List Given} {taken : Option Taken} → Does moment s t given taken → t.node.maker.machine ≡ s.node.maker.machine
does_number (does_nothing same found) = ap (λ (n : NodeState). n.maker.machine) same
does_number (does_find same holds) = ap (λ (n : NodeState). n.maker.machine) same
does_number (does_connect m none) = makes_number m
does_number (does_accept m none) = makes_number m
does_number (does_hear holds m none) = makes_number m
does_number (does_step aside m found) = makes_number m

move_numbered : {reading : Reading} {machine : ℕ} {taken : Option Taken} {before mid after : Joined} {acts : List Act} → mid.runs ≡ before.runs → NodeMoves reading machine taken mid after acts → AreNumbered before → AreNumbered after
move_numbered {machine = machine} {before = before} {mid = mid} {after = after} same m was = record { each = λ k run there. by k run there (same_or_not k machine) } where
  there_before : (k : ℕ) → run_of k mid ≡ run_of k before
  there_before zero = refl
  there_before (suc place) = ap (λ (rs : List NodeRun). slice_get rs place) same

  own : m.run.rules.number ≡ m.next.node.maker.machine
  own = was.each machine m.run (sym (there_before machine) ∙ m.there) ∙ sym (does_number m.does)

  by : (k : ℕ) (run : NodeRun) → run_of k after ≡ Some run → (k ≡ machine) ⊎ (k ≢ machine) → run.rules.number ≡ run.state.node.maker.machine
  by k run there (inl is) =
      let new : NodeRun = record { rules = m.run.rules; state = m.next } in
      let here : new ≡ run = some_run (sym (own_there machine m.run m.next mid after m.there m.after_is) ∙ ap (λ (n : ℕ). run_of n after) (sym is) ∙ there) in
      subst (λ (r : NodeRun). r.rules.number ≡ r.state.node.maker.machine) here own
  by k run there (inr apart) = was.each k run (sym (there_before k) ∙ sym (other_there machine k m.run m.next mid after m.there apart m.after_is) ∙ there)

same_numbered : {before after : Joined} → after.runs ≡ before.runs → AreNumbered before → AreNumbered after
same_numbered {before} {after} same was = record { each = λ k run there. was.each k run (sym (as_before k) ∙ there) } where
  as_before : (k : ℕ) → run_of k after ≡ run_of k before
  as_before zero = refl
  as_before (suc place) = ap (λ (rs : List NodeRun). slice_get rs place) same

-- the machine behind a move has that number
named : {reading : Reading} (machine : ℕ) (run : NodeRun) (after : Joined) → Joins reading after → AreNumbered after → run_of machine after ≡ Some run → (node_in after.line machine).maker.machine ≡ run.rules.number
named machine run after joins numbered there =
    let is : node_in after.line machine ≡ machine_of run = node_there machine (line_of after.line) (machine_of run) (machine_there machine after run joins.theirs there) in
    ap (λ (n : NodeState). n.maker.machine) is ∙ sym (numbered.each machine run there)

-- ---- ALL OF IT

pub logged : {reading : Reading} {latest : ℕ → ℕ} {s u : Joined} {log : List (List ℕ)} → GoesOn reading → Joins reading s → AreNumbered s → LogsTo reading latest s log u → Logged reading latest s.line log u.line
logged goes joins numbered logs_none = record { acts = []; run = at_rest; is = no_steps }
logged {reading} {latest} goes joins numbered (logs_move {machine = machine} {taken = taken} {i = i} {j = j} {lines = lines} {log = log} {all = all} m least own later is) =
    let on : StepsOn reading machine i j _ = move_step taken goes joins m in
    let next : AreNumbered j = move_numbered refl m numbered in
    came_logged latest m.run.rules.number m.run.state.turn lines log all on.came (named machine (record { rules = m.run.rules; state = m.next }) j on.joins next (own_there machine m.run m.next i j m.there m.after_is)) least own (logged goes on.joins next later) is
logged {reading} {latest} goes joins numbered (logs_go {gap = gap} {i = i} {j = j} {lines = lines} {log = log} {all = all} g least own later is) =
    let on : StepsOn reading gap i j _ = go_step goes joins g in
    let m = g.moves in
    let mid : Joined = record i { line = with_floor g.floor i.line } in
    let next : AreNumbered j = move_numbered refl m numbered in
    came_logged latest m.run.rules.number m.run.state.turn lines log all on.came (named gap (record { rules = m.run.rules; state = m.next }) j on.joins next (own_there gap m.run m.next mid j m.there m.after_is)) least own (logged goes on.joins next later) is
logged {reading} {latest} goes joins numbered (logs_lost {machine = machine} {i = i} {j = j} {log = log} l same later) =
    let on : StepsOn reading machine i j [] = lost_step goes joins l same in
    let rest = logged goes on.joins (same_numbered same numbered) later in
    came_logged latest (node_in j.line machine).maker.machine (latest machine) [] log log on.came refl (omega arith) no_lines
    (record { acts = rest.acts; run = rest.run; is = earlier (with_turn machine (latest machine) latest) (as_it_was latest machine) rest.is }) refl
logged {reading} {latest} goes joins numbered (logs_board {gap = gap} {i = i} {j = j} {log = log} m same later) =
    let on : StepsOn reading gap i j [] = board_step goes joins m same in
    let rest = logged goes on.joins (same_numbered same numbered) later in
    came_logged latest (node_in j.line gap).maker.machine (latest gap) [] log log on.came refl (omega arith) no_lines
    (record { acts = rest.acts; run = rest.run; is = earlier (with_turn gap (latest gap) latest) (as_it_was latest gap) rest.is }) refl
logged goes joins numbered (logs_beside machine number turn text least can kind later) =
    let rest = logged goes joins numbered later in
    record { acts = rest.acts; run = rest.run; is = beside machine number turn text least can kind rest.is }

started_at : (runs : List NodeRun) (place : ℕ) (run : NodeRun) → slice_get runs place ≡ Some run → AllByRecursion IsStarted runs → IsStarted run
started_at [] place run there all = absurd (cc)
started_at (first ∷ runs) zero run there all = (let same : first ≡ run = cc in subst IsStarted same all.0)
started_at (first ∷ runs) (suc place) run there all = started_at runs place run there all.1

begun_number : (machine : ℕ) (j : Joined) (run : NodeRun) → AllByRecursion IsStarted j.runs → run_of machine j ≡ Some run → run.rules.number ≡ run.state.node.maker.machine
begun_number zero j run all there = absurd (cc)
begun_number (suc place) j run all there = (started_at j.runs place run there all).number

begun_numbered : (j : Joined) → HaveBegun j → AreNumbered j
begun_numbered j begun = record { each = λ machine run there. begun_number machine j run begun.runs there }

pub log_right : {reading : Reading} → GoesOn reading → ((s : Running) → IsNew s → NumbersDiffer s → AreRelated reading s) → LogIsRight reading → NodesLogRight reading
log_right {reading} goes new right s u log begun logs within =
    let all : Logged reading no_turns s.line log u.line = logged goes (begun_joins s begun (new s.line begun.new begun.differ)) (begun_numbered s begun) logs in
    right log (record { begins = s.line; ends = u.line; acts = all.acts; new = begun.new; differ = begun.differ; run = all.run; is = all.is }) within

-- ---- it is woven

pub woven_too : (reading : Reading) → IsWovenToo reading
woven_too reading latest s u log logs_none = record { told = []; woven = nothing_happens }
woven_too reading latest s u log (logs_move {told = acts} m least own later is) = (let w = woven_too reading _ _ u _ later in record { told = acts ++ w.told; woven = and_then (node_moves m) w.woven })
woven_too reading latest s u log (logs_go {told = acts} g least own later is) = (let w = woven_too reading _ _ u _ later in record { told = acts ++ w.told; woven = and_then (goes_read g) w.woven })
woven_too reading latest s u log (logs_lost l same later) = (let w = woven_too reading _ _ u _ later in record { told = [] ++ w.told; woven = and_then (is_lost l same) w.woven })
woven_too reading latest s u log (logs_board m same later) = (let w = woven_too reading _ _ u _ later in record { told = [] ++ w.told; woven = and_then (board_moves m same) w.woven })
woven_too reading latest s u log (logs_beside machine number turn text least can kind later) = woven_too reading _ s u _ later

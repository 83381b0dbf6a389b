-- A RUN OVER PORTS IS A WOVEN RUN.
use Rattle.std.proofs.Common.{List, None, Option, Some, [], ap, false, refl, subst, sym, ℕ, ℤ, ◌∙◌, ◌∷◌, ◌≡◌}
use Rattle.line_base.specs.declared.states.Side.{Side}
use Rattle.line_base.specs.declared.states.Side.TheVariants.{Entry, Exit}
use Rattle.line_outside.specs.Given.{Given, Polls}
use Rattle.line_outside.specs.declared.answer.GotBytes.{GotBytes}
use Rattle.line_outside.specs.declared.answer.GotBytes.TheVariants as founds
use Rattle.line_outside.specs.declared.way.Way.{Way}
use Rattle.line_outside.specs.declared.way.Way.TheVariants as ways
use Rattle.board_record.specs.declared.sensed.Sensed.{Sensed}
use Rattle.line_world.specs.FloorPlan.{FloorPlan}
use Rattle.line_world.specs.declared.moves.Move.{Move}
use Rattle.line_base.specs.declared.states.Role.TheVariants.{Upstream}
use Rattle.node_core.specs.Node.{NodeState}
use Rattle.node_core.specs.Sides.{is_open}
use Rattle.node_core.specs.Step.{Steps}
use Rattle.node_core.specs.declared.act.Act.{Act}
use Rattle.node_core.specs.declared.input.Input.{Input}
use Rattle.node_core.specs.declared.input.Input.TheVariants as inputs
use Rattle.step_rules.proofs.Opening.{steps_open}
use Rattle.law_one_standing.specs.Standing.{HasOneStanding}
use Rattle.node_run.specs.Next.{next_of}
use Rattle.node_run.specs.Runs.{Moves}
use Rattle.node_run.specs.State.{RunState}
use Rattle.node_run.specs.declared.place.Next.TheVariants as nexts
use Rattle.law_running_line.specs.New.{IsNew, NumbersDiffer}
use Rattle.law_running_line.specs.Reading.{Reading}
use Rattle.law_running_line.specs.Running.{Running, with_floor}
use Rattle.law_running_line.specs.RunSteps.{LetsBe, Moves as BoardMoves}
use Rattle.law_running_line.specs.Stands.{AreInRelation, line_of}
use Rattle.law_running_line.specs.Timed.{AreRelated}
use Rattle.law_joined_nodes.specs.Does.{Does, Makes, Taken}
use Rattle.law_joined_nodes.specs.Joined.{Joined, NodeRun, run_of, with_state}
use Rattle.law_joined_nodes.specs.Ways.{ReadsBy, ReadsNone, Stays, Ways}
use Rattle.law_joined_nodes.specs.Woven.{Calls, CanAnswer, FoundOn, LetsGoRead, NodeMoves, TakesIf, Weaves, WovenTo, at_rest as nothing_happens, board_moves as moves_board, calls_above, calls_nobody, goes_on as and_then, goes_read, is_lost as loses, node_moves}
use Rattle.law_joined_nodes.proofs.Further.{further_self}
use Rattle.law_joined_nodes.proofs.Projected.{own_there}
use Rattle.law_joined_nodes.proofs.Weaving.{GoesOn, Joins, begun_joins, board_step, go_step, held_further, lost_step, makes_of, move_step, nodes_stand, some_machine, still_node}
use Rattle.step_rules.specs.Spoken.{IsSpoken}
use Rattle.step_rules.proofs.SpokenSteps.{each_spoken}
use Rattle.law_joined_nodes.specs.Pipes.{Flows, IsCalm, IsCalmPoll, Pipes, flows_beside, flows_closes, flows_comes, flows_gives, flows_passes, flows_refuses, flows_takes, flows_unmet}
use Rattle.law_joined_nodes.specs.Poured.{IsHere, Poured, PouredTo, Pours, PoursGoing, TcpIsEnough, PouredStand, at_rest, board_moves, goes_on, goes_poured, is_lost, node_pours}
use Rattle.law_joined_nodes.proofs.Answers.{AnswersIf, answers_first}
use Rattle.law_joined_nodes.proofs.Books.{Books, Known, Lets, SomeHas, asks_lets, begun_books, found_came, known_of, lets_books, lets_old, lets_same, lets_self, lost_lets, poll_quiet}
use Rattle.law_joined_nodes.proofs.Moving.{turn_books}
use Rattle.law_joined_nodes.proofs.Still.{still_books}

-- ---- what the ports can have answered

calm_found : (machine : ℕ) (way : Way) (found : GotBytes) (line : Running) → IsCalmPoll way found
    → FoundOn machine way found line
calm_found machine ways.Upstream (founds.Bytes bytes) line calm = absurd calm
calm_found machine ways.Downstream (founds.Bytes bytes) line calm = absurd calm
calm_found machine ways.Upstream found line calm = tt
calm_found machine ways.Downstream found line calm = tt
calm_found machine ways.Panel found line calm = tt
calm_found machine ways.Supervisory found line calm = tt
calm_found machine ways.Configuration found line calm = tt

calm_answers : (machine : ℕ) (given : List Given) (line : Running) → IsCalm given
    → CanAnswer machine given line
calm_answers machine [] line calm = tt
calm_answers machine (Polls way room found ∷ []) line calm = calm_found machine way found line calm
calm_answers machine (Polls way room found ∷ (next ∷ more)) line calm = tt
calm_answers machine (given ∷ more) line calm = tt

pub can_answer : {machine place : ℕ} {given : List Given} {taken : Option Taken} {i : Joined}
    {p q : Pipes} {run : NodeRun} {moment : ℤ} {next : RunState} {log : List ℕ}
    → Flows machine place given taken p q → Books i p → run_of machine i ≡ Some run
    → Moves run.rules moment run.state given next log → CanAnswer machine given i.line
can_answer (flows_comes Entry none gave) books there moves = tt
can_answer (flows_comes Exit none gave) books there moves = tt
can_answer (flows_unmet Entry) books there moves = tt
can_answer (flows_unmet Exit) books there moves = tt
can_answer (flows_gives Entry at some front) books there moves =
    found_came Entry books there (poll_quiet Entry moves) at some front
can_answer (flows_gives Exit at some front) books there moves =
    found_came Exit books there (poll_quiet Exit moves) at some front
can_answer (flows_takes side at) books there moves = tt
can_answer flows_refuses books there moves = tt
can_answer flows_passes books there moves = tt
can_answer (flows_closes side) books there moves = tt
can_answer {machine} {given = given} {i = i} (flows_beside calm) books there moves =
    calm_answers machine given i.line calm

-- ---- the books behind a move

calls_lets : {machine : ℕ} {given : List Given} {before after : Running}
    → Calls machine given before after → Lets before after
calls_lets (calls_above asks) = asks_lets asks
calls_lets calls_nobody = lets_self

first_of : {s t : RunState} {moment : ℤ} {told : List Act} (read : List Sensed) (input : Input)
    → ReadsBy input read → Makes moment s t (record { read = read; input = input; told = told })
    → s.node.lane.body.exit.session.role ≡ Upstream → AnswersIf input told
first_of {s} {t} {moment} {told} read inputs.Second none makes role =
    answers_first s.node t.node inputs.Second moment told makes.may
    (subst (λ (r : List Sensed). Steps s.node r inputs.Second moment t.node told) none makes.steps)
    role
first_of read inputs.Nothing none makes role = tt
first_of read input none makes role = tt

pour_books : (reading : Reading) {m : ℕ} {i j : Joined} {p q : Pipes} (told : List Act)
    (run : NodeRun) (next : RunState) (moment : ℤ) (given : List Given) (log : List ℕ) (place : ℕ)
    → run_of m i ≡ Some run → Moves run.rules moment run.state given next log
    → (taken : Option Taken) → Does moment run.state next given taken
    → ((side : Side) → Ways run.rules moment side run.state next taken given)
    → ((side : Side) → Stays side run.state next given taken) → ReadsNone taken
    → ((side : Side) → next_of run.rules run.state ≡ nexts.Reset side
    → is_open side run.state.node.lane.body ≡ false)
    → (takes : TakesIf reading m moment run.state next given taken i.line j.line told)
    → j.runs ≡ with_state m run next i.runs → Flows m place given taken p q
    → IsHere reading m moment run.state next given taken i.line j.line told takes place
    → Known m run i.line → Known m (record { rules = run.rules; state = next }) j.line
    → Books i p → Books j q
pour_books reading {m} {i} {j} {p} {q} told run next moment given log place there moves None does
    ways stays reads unreset takes after_is flows here before after books =
    let lets : Lets i.line j.line = calls_lets takes.0 in
    let mid : Joined = record i { line = j.line } in
    still_books {m = m} {i = mid} {j = j} {p = p} {q = q}
    (record {
      run = run;
      there = there;
      next = next;
      moment = moment;
      given = given;
      log = log;
      moves = moves;
      does = does;
      ways = ways;
      stays = stays;
      unreset = unreset;
      after_is = after_is;
      place = place;
      flows = flows;
      some = some_machine m i run there;
      shut = λ side shut.
          after.shut side
          (ap (λ (n : NodeState). is_open side n.lane.body) (still_node does) ∙ shut);
      line = refl;
    }) (lets_books j.line lets books)
pour_books reading {m} {i} {j} {p} {q} told run next moment given log place there moves
    (Some taken) does ways stays reads unreset takes after_is flows here before after books =
    let makes : Makes moment run.state next taken = makes_of does in
    let spoken : IsSpoken run.state.node next.node taken.read taken.input taken.told =
    each_spoken run.state.node next.node taken.read taken.input moment taken.told makes.may
    makes.steps (books.off m run there) in
    turn_books
    (record {
      run = run;
      there = there;
      next = next;
      moment = moment;
      given = given;
      taken = taken;
      does = does;
      ways = ways;
      stays = stays;
      reads = reads;
      unreset = unreset;
      takes = takes.0;
      after_is = after_is;
      flows = subst (λ (x : ℕ). Flows m x given (Some taken) p q) (sym here) flows;
      some = some_machine m i run there;
      spoken = spoken;
      behind = λ side.
          steps_open run.state.node taken.read taken.input moment next.node taken.told side
          makes.steps;
      first = first_of taken.read taken.input reads makes before.role;
      before = before;
      after = after;
    }) books spoken.off

-- ---- A STEP

pub record On (reading : Reading) (i : Joined) (told : List Act) (j : Joined)
    (q : Pipes) : Type 0 where
  pub weaves : Weaves reading i told j
  pub joins : Joins reading j
  pub books : Books j q

unfoldable pub node_of_pours : {reading : Reading} {m : ℕ} {i j : Joined} {told : List Act} {p q : Pipes}
    → Books i p → (g : Pours reading m i j told p q) → NodeMoves reading m g.does.taken i j told
node_of_pours books g = record {
  run = g.run;
  there = g.there;
  next = g.next;
  moment = g.moment;
  given = g.given;
  log = g.log;
  moves = g.moves;
  does = g.does.does;
  answers = can_answer g.flows books g.there g.moves;
  takes = g.takes;
  after_is = g.after_is;
}

books_of_pours : {reading : Reading} {m : ℕ} {i j : Joined} {told : List Act} {p q : Pipes}
    → Books i p → (g : Pours reading m i j told p q) → Known m g.run i.line → Joins reading j
    → Books j q
books_of_pours {reading} {m} {i} {j} {told} books g before joins =
    pour_books reading told g.run g.next g.moment g.given g.log g.place g.there g.moves
    g.does.taken g.does.does g.does.ways g.does.stays g.does.reads g.unreset g.takes g.after_is
    g.flows g.here before
    (known_of m (record { rules = g.run.rules; state = g.next }) joins
    (own_there m g.run g.next i j g.there g.after_is)) books

pub pours_on : {reading : Reading} {m : ℕ} {i j : Joined} {told : List Act} {p q : Pipes}
    → GoesOn reading → Joins reading i → Books i p → Pours reading m i j told p q
    → On reading i told j q
pours_on {m = m} {j = j} goes joins books g =
    let moves : NodeMoves _ m g.does.taken _ j _ = node_of_pours books g in
    let next : Joins _ j = (move_step g.does.taken goes joins moves).joins in
    record {
      weaves = node_moves moves;
      joins = next;
      books = books_of_pours books g (known_of m g.run joins g.there) next;
    }

-- the floor is no part of the books
floor_lets : (floor : FloorPlan) (s : Running) → Lets s (with_floor floor s)
floor_lets floor s =
    record { each = λ l n v got. lets_old v got (lets_same refl); none = λ l n none. none }

floor_known : {m : ℕ} {run : NodeRun} (floor : FloorPlan) (s : Running) → Known m run s
    → Known m run (with_floor floor s)
floor_known {m} {run} floor s known = record {
  shut = known.shut;
  had = λ side some.
      (let h : SomeHas m side s = known.had side some in record {
        place = h.place;
        wire = h.wire;
        there = h.there;
        held = h.held;
      });
  role = known.role;
  found = held_further s (with_floor floor s) run.state.held.finding (λ side.
      further_self) known.found;
}

-- the floor on which the board has begun
pub going_books : {reading : Reading} {gap : ℕ} {i j : Joined} {told : List Act} {p q : Pipes}
    → Books i p → (g : PoursGoing reading gap i j told p q)
    → Books (record i { line = with_floor g.floor i.line }) p
going_books {i = i} books g =
    lets_books (with_floor g.floor i.line) (floor_lets g.floor i.line) books

unfoldable pub letting_go : {reading : Reading} {gap : ℕ} {i j : Joined} {told : List Act} {p q : Pipes}
    → Books i p → (g : PoursGoing reading gap i j told p q)
    → LetsGoRead reading gap g.taken i j told
letting_go {reading} {gap} {i} {j} {told} books g =
    let mid : Joined = record i { line = with_floor g.floor i.line } in
    let moves : NodeMoves reading gap g.moves.does.taken mid j told =
    node_of_pours (going_books books g) g.moves in
    record {
      run = g.run;
      there = g.there;
      board = g.board;
      waits = g.waits;
      read = g.read;
      floor = g.floor;
      begins = g.begins;
      moves = record {
        run = moves.run;
        there = moves.there;
        next = moves.next;
        moment = moves.moment;
        given = moves.given;
        log = moves.log;
        moves = moves.moves;
        does =
            subst (λ (t : Option Taken).
            Does moves.moment moves.run.state moves.next moves.given t) g.is moves.does;
        answers = moves.answers;
        takes =
            subst (λ (t : Option Taken).
            TakesIf reading gap moves.moment moves.run.state moves.next moves.given t mid.line
            j.line told) g.is moves.takes;
        after_is = moves.after_is;
      };
      plain = g.plain;
      reads = g.reads;
    }

pub going_on : {reading : Reading} {gap : ℕ} {i j : Joined} {told : List Act} {p q : Pipes}
    → GoesOn reading → Joins reading i → Books i p → PoursGoing reading gap i j told p q
    → On reading i told j q
going_on {reading} {gap} {i} {j} {told} goes joins books g =
    let lets_go : LetsGoRead reading gap g.taken i j told = letting_go books g in
    let next : Joins reading j = (go_step goes joins lets_go).joins in
    let known : Known gap g.moves.run (with_floor g.floor i.line) =
    floor_known g.floor i.line (known_of gap g.moves.run joins g.moves.there) in
    record {
      weaves = goes_read lets_go;
      joins = next;
      books = books_of_pours (going_books books g) g.moves known next;
    }

-- no run changes
runs_same : (i j : Joined) {p : Pipes} → j.runs ≡ i.runs → Books (record i { line = j.line }) p
    → Books j p
runs_same i j {p} same books =
    subst (λ (runs : List NodeRun). Books (record { runs = runs; line = j.line }) p)
    (sym same) books

pub lost_on : {reading : Reading} {machine : ℕ} {side : Side} {i j : Joined} {p : Pipes}
    → GoesOn reading → Joins reading i → Books i p → LetsBe machine side i.line j.line
    → j.runs ≡ i.runs → On reading i [] j p
lost_on {i = i} {j} goes joins books l same =
    record {
      weaves = loses l same;
      joins = (lost_step goes joins l same).joins;
      books = runs_same i j same (lets_books j.line (lost_lets l) books);
    }

pub board_on : {reading : Reading} {gap : ℕ} {step : Move} {i j : Joined} {p : Pipes}
    → GoesOn reading → Joins reading i → Books i p → BoardMoves reading gap step i.line j.line
    → j.runs ≡ i.runs → On reading i [] j p
board_on {i = i} {j} goes joins books b same =
    record {
      weaves = moves_board b same;
      joins = (board_step goes joins b same).joins;
      books = runs_same i j same
          (lets_books j.line
          (subst (Lets i.line) (sym b.after_is) (floor_lets b.floor i.line)) books);
    }

step_on : {reading : Reading} {i j : Joined} {told : List Act} {p q : Pipes} → GoesOn reading
    → Joins reading i → Books i p → Poured reading i p told j q → On reading i told j q
step_on goes joins books (node_pours g) = pours_on goes joins books g
step_on goes joins books (goes_poured g) = going_on goes joins books g
step_on goes joins books (is_lost l same) = lost_on goes joins books l same
step_on goes joins books (board_moves b same) = board_on goes joins books b same

poured_on : {reading : Reading} {i u : Joined} {told : List Act} {p q : Pipes} → GoesOn reading
    → Joins reading i → Books i p → PouredTo reading i p told u q → WovenTo reading i told u
poured_on goes joins books at_rest = nothing_happens
poured_on goes joins books (goes_on first later) =
    (let one = step_on goes joins books first in and_then one.weaves
    (poured_on goes one.joins one.books later))

pub tcp_is_enough : {reading : Reading} → GoesOn reading
    → ((s : Running) → IsNew s → NumbersDiffer s → AreRelated reading s) → TcpIsEnough reading
tcp_is_enough goes new s u told q begun poured =
    poured_on goes (begun_joins s begun (new s.line begun.new begun.differ))
    (begun_books s begun) poured

pub poured_stand : {reading : Reading} → GoesOn reading
    → ((s : Running) → IsNew s → NumbersDiffer s → AreRelated reading s)
    → ((s : Running) → AreInRelation s → HasOneStanding (line_of s)) → PouredStand reading
poured_stand goes new stands s u told q begun poured =
    nodes_stand goes new stands s u told begun (tcp_is_enough goes new s u told q begun poured)

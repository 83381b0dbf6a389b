-- WHAT IS KEPT of the connections of joined nodes: of each, what was heard and what comes is what
-- the ports of the far end took, and what waits there. So what a poll finds was said.
use Rattle.std.proofs.Common.{Bool, List, None, Option, Some, [], ap, append_assoc, append-nil, arith, eqb-true, false, inl, inr, map, refl, slice_get, slice_set, subst, suc, sym, true, zero, ℕ, ℤ, ◌++◌, ◌+◌, ◌-◌, ◌∙◌, ◌∷◌, ◌≡◌, ◌≢◌, ◌≤◌, ◌⊎◌}
use Rattle.std.specs.List.{AllByRecursion, list_any}
use Rattle.std.specs.Prelude.{cond, nat_eq}
use Rattle.std.proofs.lemmas.Bool.{false≢true, or_cases, or_parts}
use Rattle.line_base.specs.declared.states.Role.TheVariants.{Upstream}
use Rattle.line_base.specs.declared.states.Side.{Side}
use Rattle.line_base.specs.declared.states.Side.TheVariants.{Entry, Exit}
use Rattle.line_outside.specs.Given.{Polls}
use Rattle.line_outside.specs.declared.answer.GotBytes.TheVariants as founds
use Rattle.node_core.specs.Node.{NodeState}
use Rattle.node_core.specs.Sides.{is_open}
use Rattle.line_step.specs.World.{link_of}
use Rattle.law_one_standing.proofs.RestLine.{node_there}
use Rattle.law_node_runs.specs.Connections.{IsFront}
use Rattle.law_node_runs.proofs.Polled.{none_held}
use Rattle.node_run.specs.After.{way_of}
use Rattle.node_run.specs.Held.{Finding}
use Rattle.node_run.specs.Runs.{Moves, polls, room_bytes}
use Rattle.node_run.specs.State.{RunState}
use Rattle.node_run.specs.declared.rules.Rules.{Rules}
use Rattle.law_running_line.specs.New.{IsNewNode}
use Rattle.law_running_line.specs.Reading.{Reading}
use Rattle.law_running_line.specs.RunSteps.{Asks, LetsBe, given_up, let_be}
use Rattle.law_running_line.specs.Running.{Running, at_place, with_wires}
use Rattle.law_running_line.specs.Stands.{line_of, node_in}
use Rattle.law_running_line.specs.Wire.{Awaits, Coming, Has, Hold, Left, Wire, asked_for, bytes_of, coming_to, end_at, has}
use Rattle.law_running_line.proofs.Waiting.{wire_of}
use Rattle.law_running_line.proofs.WiresParts.{awaits_has, left_awaits, left_has}
use Rattle.law_joined_nodes.specs.Joined.{HaveBegun, IsStarted, Joined, NodeRun, machine_of, run_of}
use Rattle.law_joined_nodes.specs.Ways.{found_for, waits_at}
use Rattle.law_joined_nodes.specs.Woven.{ComeTo}
use Rattle.law_joined_nodes.proofs.Further.{set_or_not}
use Rattle.law_joined_nodes.proofs.Weaving.{Held, Joins, machine_there, some_machine, started_at}
use Rattle.step_rules.specs.Spoken.{IsOffClosed}
use Rattle.law_joined_nodes.specs.Pipes.{Pipes, beyond, no_pipes, other}
use Rattle.law_joined_nodes.proofs.Core.{Home, away_home, away_lets, home_away, home_lets}
use Rattle.law_joined_nodes.proofs.Ends.{far_link}
use Rattle.law_joined_nodes.proofs.Tracks.{NotLeft}

-- ---- what the relation of running machines says of the sides of one

pub record SomeHas (machine : ℕ) (side : Side) (line : Running) : Type 0 where
  pub place : ℕ
  pub wire : Wire
  pub there : slice_get (line.wires (link_of machine side)) place ≡ Some wire
  pub held : end_at side wire ≡ Has

abbrev pub NoneHas : ℕ → Side → Running → Type 0
NoneHas machine side line =
    (n : ℕ) (w : Wire) → slice_get (line.wires (link_of machine side)) n ≡ Some w
    → end_at side w ≡ Has → ⊥

pub record Known (machine : ℕ) (run : NodeRun) (line : Running) : Type 0 where
  pub shut : (side : Side) → is_open side run.state.node.lane.body ≡ false
      → NoneHas machine side line
  pub had : (side : Side) → is_open side run.state.node.lane.body ≡ true
      → SomeHas machine side line
  pub role : run.state.node.lane.body.exit.session.role ≡ Upstream
  pub found : Held machine run.state.held.finding line

has_it : {hold : Hold} → hold ≡ Has → has hold ≡ true
has_it is = ap has is

none_any : (side : Side) (ws : List Wire) → list_any (λ (w : Wire). has (end_at side w)) ws ≡ false
    → (n : ℕ) (w : Wire) → slice_get ws n ≡ Some w → end_at side w ≡ Has → ⊥
none_any side [] none n w there is = (let never : None ≡ Some w = there in cc)
none_any side (first ∷ ws) none zero w there is =
    (let same : first
    ≡ w = cc in false≢true
    (sym (or_parts _ _ none).0 ∙ ap (λ (u : Wire). has (end_at side u)) same ∙ has_it is))
none_any side (first ∷ ws) none (suc n) w there is =
    none_any side ws (or_parts _ _ none).1 n w there is

record AnyHas (side : Side) (ws : List Wire) : Type 0 where
  place : ℕ
  wire : Wire
  there : slice_get ws place ≡ Some wire
  held : end_at side wire ≡ Has

held_so : (hold : Hold) → has hold ≡ true → hold ≡ Has
held_so Has is = refl
held_so Awaits is = absurd (false≢true is)
held_so Left is = absurd (false≢true is)

later_has : {side : Side} {ws : List Wire} (first : Wire) → AnyHas side ws
    → AnyHas side (first ∷ ws)
later_has first a = record { place = suc a.place; wire = a.wire; there = a.there; held = a.held }

first_or : {side : Side} {ws : List Wire} (first : Wire)
    → (list_any (λ (w : Wire). has (end_at side w)) ws ≡ true → AnyHas side ws)
    → (has (end_at side first) ≡ true) ⊎ (list_any (λ (w : Wire). has (end_at side w)) ws ≡ true)
    → AnyHas side (first ∷ ws)
first_or {side} first next (inl is) =
    record { place = 0; wire = first; there = refl; held = held_so (end_at side first) is }
first_or first next (inr later) = later_has first (next later)

any_has : (side : Side) (ws : List Wire) → list_any (λ (w : Wire). has (end_at side w)) ws ≡ true
    → AnyHas side ws
any_has side [] any = absurd (false≢true any)
any_has side (first ∷ ws) any =
    first_or first (any_has side ws)
    (or_cases (has (end_at side first)) (list_any (λ (w : Wire). has (end_at side w)) ws) any)

-- an end has a connection exactly while its session is open
open_of : {reading : Reading} {j : Joined} (machine : ℕ) (run : NodeRun) (side : Side)
    → Joins reading j → run_of machine j ≡ Some run
    → list_any (λ (w : Wire). has (end_at side w)) (j.line.wires (link_of machine side))
    ≡ is_open side run.state.node.lane.body
open_of {j = j} machine run Exit joins there =
    let is : node_in j.line machine ≡ machine_of run =
    node_there machine (line_of j.line) (machine_of run)
    (machine_there machine j run joins.theirs there) in
    (joins.related.stands.waits machine).exit_open ∙ ap
    (λ (n : NodeState). is_open Exit n.lane.body) is
open_of {j = j} machine run Entry joins there =
    let some : 1 ≤ machine = some_machine machine j run there in
    let same : machine - 1 + 1 ≡ machine = omega (arith, some) in
    let is : node_in j.line machine ≡ machine_of run =
    node_there machine (line_of j.line) (machine_of run)
    (machine_there machine j run joins.theirs there) in
    (joins.related.stands.waits (machine - 1)).entry_open ∙ ap
    (λ (k : ℕ). is_open Entry (node_in j.line k).lane.body) same ∙ ap
    (λ (n : NodeState). is_open Entry n.lane.body) is

pub known_of : {reading : Reading} {j : Joined} (machine : ℕ) (run : NodeRun) → Joins reading j
    → run_of machine j ≡ Some run → Known machine run j.line
known_of {j = j} machine run joins there =
    let is : node_in j.line machine ≡ machine_of run =
    node_there machine (line_of j.line) (machine_of run)
    (machine_there machine j run joins.theirs there) in
    record {
      shut = λ side none.
          none_any side (j.line.wires (link_of machine side))
          (open_of machine run side joins there ∙ none);
      had = λ side some.
          (let a : AnyHas side (j.line.wires (link_of machine side)) = any_has side
          (j.line.wires (link_of machine side))
          (open_of machine run side joins there ∙ some) in record {
            place = a.place;
            wire = a.wire;
            there = a.there;
            held = a.held;
          });
      role = ap (λ (n : NodeState). n.lane.body.exit.session.role) (sym is) ∙
          (joins.related.stands.sound machine).exit;
      found = joins.found machine run there;
    }

-- ---- the books

pub record Book (j : Joined) (p : Pipes) (machine : ℕ) (side : Side) (n : ℕ) (w : Wire)
    (run : NodeRun) : Type 0 where
  pub heard : List ℕ
  pub waits : List ℕ
  pub core : Home side w (p.took machine side n) waits heard (p.gave machine side n)
      (found_for side run.state.held.finding)
  pub now : p.at (beyond machine side) (other side) ≡ Some n → (far : NodeRun)
      → run_of (beyond machine side) j ≡ Some far → waits ≡ waits_at (other side) far.state

pub record Books (j : Joined) (p : Pipes) : Type 0 where
  pub had : (k : ℕ) (side : Side) (run : NodeRun) (n : ℕ) (w : Wire) → run_of k j ≡ Some run
      → slice_get (j.line.wires (link_of k side)) n ≡ Some w → end_at side w ≡ Has
      → p.at k side ≡ Some n
  pub awaited : (k : ℕ) (side : Side) (run : NodeRun) (n : ℕ) (w : Wire) → run_of k j ≡ Some run
      → slice_get (j.line.wires (link_of k side)) n ≡ Some w → end_at side w ≡ Awaits
      → p.at k side ≡ Some n → ⊥
  pub rest : (k : ℕ) (side : Side) (run : NodeRun) → run_of k j ≡ Some run → p.at k side ≡ None
      → waits_at side run.state ≡ []
  pub virgin : (k : ℕ) (side : Side) (n : ℕ) → 1 ≤ k
      → slice_get (j.line.wires (link_of k side)) n ≡ None → p.took k side n ≡ []
  pub placed : (k : ℕ) (side : Side) (n : ℕ) → 1 ≤ k
      → slice_get (j.line.wires (link_of k side)) n ≡ None → p.at k side ≡ Some n → ⊥
  pub off : (k : ℕ) (run : NodeRun) → run_of k j ≡ Some run → (side : Side)
      → IsOffClosed side run.state.node.lane.body
  pub book : (k : ℕ) (side : Side) (run : NodeRun) (n : ℕ) (w : Wire) → run_of k j ≡ Some run
      → slice_get (j.line.wires (link_of k side)) n ≡ Some w → Book j p k side n w run

-- ---- as nodes begin

new_off : (node : NodeState) → IsNewNode node → (side : Side) → IsOffClosed side node.lane.body
new_off node new Entry closed =
    subst (λ (n : NodeState). IsOffClosed Entry n.lane.body) (sym new.is) (λ shut.
    record { apart = refl; unsaid = refl }) closed
new_off node new Exit closed =
    subst (λ (n : NodeState). IsOffClosed Exit n.lane.body) (sym new.is) (λ shut.
    record { apart = refl; unsaid = refl }) closed

new_there : (nodes : List NodeState) (place : ℕ) (node : NodeState)
    → AllByRecursion IsNewNode nodes → slice_get nodes place ≡ Some node → IsNewNode node
new_there [] place node all there = (let never : None ≡ Some node = there in cc)
new_there (first ∷ nodes) zero node all there =
    (let same : first ≡ node = cc in subst IsNewNode same all.0)
new_there (first ∷ nodes) (suc place) node all there = new_there nodes place node all.1 there

no_wire : {X : Type 0} (j : Joined) (k n : ℕ) (w : Wire) → j.line.wires k ≡ []
    → slice_get (j.line.wires k) n ≡ Some w → X
no_wire j k n w none there =
    (let never : None ≡ Some w = sym (ap (λ (ws : List Wire). slice_get ws n) none) ∙ there in cc)

started_run : (j : Joined) (k : ℕ) (run : NodeRun) → HaveBegun j → run_of k j ≡ Some run
    → IsStarted run
started_run j zero run begun there = (let never : None ≡ Some run = there in cc)
started_run j (suc place) run begun there = started_at j.runs place run there begun.runs

started_off : (j : Joined) (k : ℕ) (run : NodeRun) → HaveBegun j → run_of k j ≡ Some run
    → IsNewNode (machine_of run)
started_off j zero run begun there = (let never : None ≡ Some run = there in cc)
started_off j (suc place) run begun there =
    new_there j.line.machines place (machine_of run) begun.new.nodes
    (machine_there (suc place) j run begun.theirs there)

started_waits : (side : Side) (run : NodeRun) → IsStarted run → waits_at side run.state ≡ []
started_waits Entry run started = ap (λ (s : RunState). s.upstream.unsent) started.is
started_waits Exit run started = ap (λ (s : RunState). s.downstream.unsent) started.is

nowhere : {n : ℕ} → None ≡ Some n → ⊥
nowhere is = cc

pub begun_books : (j : Joined) → HaveBegun j → Books j no_pipes
begun_books j begun = record {
  had = λ k side run n w there got is.
      no_wire j (link_of k side) n w (begun.new.wires (link_of k side)) got;
  awaited = λ k side run n w there got is at. nowhere at;
  rest = λ k side run there none. started_waits side run (started_run j k run begun there);
  virgin = λ k side n some none. refl;
  placed = λ k side n some none at. nowhere at;
  off = λ k run there side. new_off (machine_of run) (started_off j k run begun there) side;
  book = λ k side run n w there got.
      no_wire j (link_of k side) n w (begun.new.wires (link_of k side)) got;
}

-- ---- WHAT A POLL FINDS

-- where a neighbour's way is polled, nothing waits
pub poll_quiet : {rules : Rules} {moment : ℤ} {s t : RunState} {bytes : List ℕ} {log : List ℕ}
    (side : Side)
    → Moves rules moment s (Polls (way_of side) room_bytes (founds.Bytes bytes) ∷ []) t log
    → s.held.finding ≡ None
poll_quiet {rules} {s = s} Entry (polls {way = way} next done) = none_held rules s way next
poll_quiet {rules} {s = s} Exit (polls {way = way} next done) = none_held rules s way next

same_rest : (front a b : List ℕ) → front ++ a ≡ front ++ b → a ≡ b
same_rest [] a b is = is
same_rest (byte ∷ front) a b is = same_rest front a b (cc)

pub has_not_left : {hold : Hold} → hold ≡ Has → NotLeft hold
has_not_left is left = left_has (sym left ∙ is)

pub some_place : {a b : ℕ} → Some a ≡ Some b → a ≡ b
some_place is = cc

found_front : {j : Joined} {p : Pipes} {machine n : ℕ} {side : Side} {w : Wire} {run : NodeRun}
    {bytes : List ℕ} → Book j p machine side n w run → end_at side w ≡ Has
    → run.state.held.finding ≡ None
    → IsFront (p.gave machine side n ++ bytes) (p.took machine side n)
    → IsFront bytes (bytes_of (coming_to side w))
found_front {p = p} {machine} {n} {side} {w} {run} {bytes} b is quiet front =
    let gave : p.gave machine side n ≡ b.heard =
    b.core.gives is ∙ ap (λ (f : Option Finding). b.heard
    ++ found_for side f) quiet ∙ append-nil b.heard in
    let more : List ℕ = front.rest ++ b.waits in
    let all : b.heard ++ bytes_of (coming_to side w) ≡ b.heard ++ (bytes ++ more) =
    b.core.sum (has_not_left is) ∙ ap (λ (t : List ℕ). t
    ++ b.waits) (front.parts ∙ ap (λ (g : List ℕ). (g ++ bytes) ++ front.rest) gave)
    ∙ append_assoc (b.heard ++ bytes) front.rest b.waits ∙ append_assoc b.heard bytes more in
    record {
      rest = more;
      parts = same_rest b.heard (bytes_of (coming_to side w)) (bytes
          ++ more) all;
    }

pub found_came : {j : Joined} {p : Pipes} {machine here : ℕ} {run : NodeRun} {bytes : List ℕ}
    (side : Side) → Books j p → run_of machine j ≡ Some run → run.state.held.finding ≡ None
    → p.at machine side ≡ Some here → bytes ≢ []
    → IsFront (p.gave machine side here ++ bytes) (p.took machine side here)
    → ComeTo machine side bytes j.line
found_came {j} {p} {machine} {here} {run} {bytes} side books there quiet at some front = record {
  some = some;
  front = λ n w got is.
      (let same : here ≡ n = some_place (sym at ∙ books.had machine side run n w there got is) in
      found_front (books.book machine side run n w there got) is quiet
      (subst (λ (k : ℕ). IsFront (p.gave machine side k
      ++ bytes) (p.took machine side k)) same front));
}

-- ---- A CONNECTION THAT AN END AWAITS is given up, and one is asked for

pub data LetsTo (w v : Wire) : Type 0 where
  lets_same : w ≡ v → LetsTo w v
  lets_go : (at : Side) → end_at at w ≡ Awaits → let_be at w ≡ v → LetsTo w v

pub data LetsAt (ws : List Wire) (n : ℕ) (v : Wire) : Type 0 where
  lets_old : (w : Wire) → slice_get ws n ≡ Some w → LetsTo w v → LetsAt ws n v
  lets_new : slice_get ws n ≡ None → asked_for ≡ v → LetsAt ws n v

pub record Lets (s t : Running) : Type 0 where
  pub each : (l n : ℕ) (v : Wire) → slice_get (t.wires l) n ≡ Some v → LetsAt (s.wires l) n v
  pub none : (l n : ℕ) → slice_get (t.wires l) n ≡ None → slice_get (s.wires l) n ≡ None

pub lets_self : {s : Running} → Lets s s
lets_self = record { each = λ l n v got. lets_old v got (lets_same refl); none = λ l n none. none }

-- of one end of it
lets_home : {took waits heard gave held : List ℕ} (side : Side) {w v : Wire} → LetsTo w v
    → Home side w took waits heard gave held → Home side v took waits heard gave held
lets_home {took} {waits} {heard} {gave} {held} side (lets_same is) c =
    subst (λ (u : Wire). Home side u took waits heard gave held) is c
lets_home {took} {waits} {heard} {gave} {held} Entry {w} (lets_go Entry awaits is) c =
    subst (λ (u : Wire). Home Entry u took waits heard gave held) is
    (home_lets Entry w gave held c)
lets_home {took} {waits} {heard} {gave} {held} Exit {w} (lets_go Exit awaits is) c =
    subst (λ (u : Wire). Home Exit u took waits heard gave held) is (home_lets Exit w gave held c)
lets_home {took} {waits} {heard} {gave} {held} Entry {w} (lets_go Exit awaits is) c =
    subst (λ (u : Wire). Home Entry u took waits heard gave held) is
    (away_home Exit (let_be Exit w) (away_lets Exit w (home_away Exit w c)))
lets_home {took} {waits} {heard} {gave} {held} Exit {w} (lets_go Entry awaits is) c =
    subst (λ (u : Wire). Home Exit u took waits heard gave held) is
    (away_home Entry (let_be Entry w) (away_lets Entry w (home_away Entry w c)))

lets_end : (side : Side) (hold : Hold) {w v : Wire} → hold ≢ Left → LetsTo w v
    → end_at side v ≡ hold → end_at side w ≡ hold
lets_end side hold not (lets_same same) is = ap (end_at side) same ∙ is
lets_end Entry hold not (lets_go Entry awaits same) is =
    absurd (not (sym (ap (end_at Entry) same ∙ is)))
lets_end Exit hold not (lets_go Exit awaits same) is =
    absurd (not (sym (ap (end_at Exit) same ∙ is)))
lets_end Entry hold not (lets_go Exit awaits same) is = ap (end_at Entry) same ∙ is
lets_end Exit hold not (lets_go Entry awaits same) is = ap (end_at Exit) same ∙ is

new_end : (side : Side) {v : Wire} → asked_for ≡ v → end_at side v ≡ Awaits
new_end Entry is = ap (end_at Entry) (sym is)
new_end Exit is = ap (end_at Exit) (sym is)

new_home : {took : List ℕ} (side : Side) (v : Wire) (gave held : List ℕ) → asked_for ≡ v
    → took ≡ [] → Home side v took [] [] gave held
new_home {took} Entry v gave held is none =
    subst (λ (u : Wire). Home Entry u took [] [] gave held) is
    (record {
      sum = λ not. sym (ap (λ (b : List ℕ). b ++ []) none);
      gives = λ has_one.
          absurd (awaits_has has_one);
      uncome = λ a. refl;
      fresh = λ a. (none, refl);
    })
new_home {took} Exit v gave held is none =
    subst (λ (u : Wire). Home Exit u took [] [] gave held) is
    (record {
      sum = λ not. sym (ap (λ (b : List ℕ). b ++ []) none);
      gives = λ has_one.
          absurd (awaits_has has_one);
      uncome = λ a. refl;
      fresh = λ a. (none, refl);
    })

pub lets_books : {i : Joined} {p : Pipes} (line : Running) → Lets i.line line → Books i p
    → Books (record i { line = line }) p
lets_books {i} {p} line lets books = record {
  had = λ k side run n w there got is.
      had_by k side run n w there is (lets.each (link_of k side) n w got);
  awaited =
      λ k side run n w there got is at.
      awaited_by k side run n w there is at (lets.each (link_of k side) n w got);
  rest = books.rest;
  virgin = λ k side n some none. books.virgin k side n some (lets.none (link_of k side) n none);
  placed = λ k side n some none at.
      books.placed k side n some (lets.none (link_of k side) n none) at;
  off = books.off;
  book = λ k side run n w there got.
      book_by k side run n w there (lets.each (link_of k side) n w got);
} where
  had_by : (k : ℕ) (side : Side) (run : NodeRun) (n : ℕ) (v : Wire) → run_of k i ≡ Some run
      → end_at side v ≡ Has → LetsAt (i.line.wires (link_of k side)) n v → p.at k side ≡ Some n
  had_by k side run n v there is (lets_old w got to) =
      books.had k side run n w there got (lets_end side Has (λ left. left_has (sym left)) to is)
  had_by k side run n v there is (lets_new none new) =
      absurd (awaits_has (sym (new_end side new) ∙ is))

  awaited_by : (k : ℕ) (side : Side) (run : NodeRun) (n : ℕ) (v : Wire) → run_of k i ≡ Some run
      → end_at side v ≡ Awaits → p.at k side ≡ Some n → LetsAt (i.line.wires (link_of k side)) n v
      → ⊥
  awaited_by k side run n v there is at (lets_old w got to) =
      books.awaited k side run n w there got
      (lets_end side Awaits (λ left. left_awaits (sym left)) to is) at
  awaited_by k side run n v there is at (lets_new none new) =
      books.placed k side n (some_machine k i run there) none at

  far_placed : (k : ℕ) (side : Side) (n : ℕ) (far : NodeRun) → run_of (beyond k side) i ≡ Some far
      → slice_get (i.line.wires (link_of k side)) n ≡ None
      → p.at (beyond k side) (other side) ≡ Some n → ⊥
  far_placed k side n far there none at =
      books.placed (beyond k side) (other side) n (some_machine (beyond k side) i far there)
      (ap (λ (l : ℕ). slice_get (i.line.wires l) n) (far_link k side) ∙ none) at

  book_by : (k : ℕ) (side : Side) (run : NodeRun) (n : ℕ) (v : Wire) → run_of k i ≡ Some run
      → LetsAt (i.line.wires (link_of k side)) n v
      → Book (record i { line = line }) p k side n v run
  book_by k side run n v there (lets_old w got to) =
      (let b : Book i p k side n w run = books.book k side run n w there got
      in record {
        heard = b.heard;
        waits = b.waits;
        core = lets_home side to b.core;
        now = b.now;
      })
  book_by k side run n v there (lets_new none new) = record {
    heard = [];
    waits = [];
    core = new_home side v (p.gave k side n) (found_for side run.state.held.finding) new
        (books.virgin k side n (some_machine k i run there) none);
    now = λ at far so. absurd (far_placed k side n far so none at);
  }

-- ---- which of these a step is

none_mapped : (change : Wire → Wire) (ws : List Wire) (n : ℕ) → slice_get (map change ws) n ≡ None
    → slice_get ws n ≡ None
none_mapped change [] n none = refl
none_mapped change (first ∷ ws) zero none = (let never : Some (change first) ≡ None = none in cc)
none_mapped change (first ∷ ws) (suc n) none = none_mapped change ws n none

pub none_set : (ws : List Wire) (place : ℕ) (new : Wire) (n : ℕ)
    → slice_get (slice_set ws place new) n ≡ None → slice_get ws n ≡ None
none_set [] place new n none = refl
none_set (first ∷ ws) zero new zero none = (let never : Some new ≡ None = none in cc)
none_set (first ∷ ws) zero new (suc n) none = none
none_set (first ∷ ws) (suc place) new zero none = (let never : Some first ≡ None = none in cc)
none_set (first ∷ ws) (suc place) new (suc n) none = none_set ws place new n none

none_front : (ws more : List Wire) (n : ℕ) → slice_get (ws ++ more) n ≡ None
    → slice_get ws n ≡ None
none_front [] more n none = refl
none_front (first ∷ ws) more zero none = (let never : Some first ≡ None = none in cc)
none_front (first ∷ ws) more (suc n) none = none_front ws more n none

placed_none : (place : ℕ) (change : Wire → Wire) (ws : List Wire) (found : Option Wire) (n : ℕ)
    → slice_get (elim found [ None ↦ ws | Some wire ↦ slice_set ws place (change wire) ]) n ≡ None
    → slice_get ws n ≡ None
placed_none place change ws None n none = none
placed_none place change ws (Some wire) n none = none_set ws place (change wire) n none

pub none_placed : (place : ℕ) (change : Wire → Wire) (ws : List Wire) (n : ℕ)
    → slice_get (at_place place change ws) n ≡ None → slice_get ws n ≡ None
none_placed place change ws n none = placed_none place change ws (slice_get ws place) n none

pub none_all : (change : Wire → Wire) (ws : List Wire) (n : ℕ) → slice_get (map change ws) n ≡ None
    → slice_get ws n ≡ None
none_all change ws n none = none_mapped change ws n none

-- one link is changed
lets_link : (link : ℕ) (change : List Wire → List Wire) (s : Running)
    → ((n : ℕ) (v : Wire) → slice_get (change (s.wires link)) n ≡ Some v
    → LetsAt (s.wires link) n v)
    → ((n : ℕ) → slice_get (change (s.wires link)) n ≡ None → slice_get (s.wires link) n ≡ None)
    → Lets s (with_wires link change s)
lets_link link change s each none =
    record {
      each = λ l n v got. each_by l n v (nat_eq l link) refl got;
      none = λ l n not.
          none_by l n (nat_eq l link) refl not;
    } where
      same_link : (l : ℕ) → nat_eq l link ≡ true → l ≡ link
      same_link l is = eqb-true l link is

      each_by : (l n : ℕ) (v : Wire) (test : Bool) → nat_eq l link ≡ test
          → slice_get (cond test (change (s.wires l)) (s.wires l)) n ≡ Some v
          → LetsAt (s.wires l) n v
      each_by l n v false is got = lets_old v got (lets_same refl)
      each_by l n v true is got =
          (let same : l ≡ link = same_link l is in
          subst (λ (k : ℕ). LetsAt (s.wires k) n v) (sym same)
          (each n v (sym (ap (λ (k : ℕ). slice_get (change (s.wires k)) n) same) ∙ got)))

      none_by : (l n : ℕ) (test : Bool) → nat_eq l link ≡ test
          → slice_get (cond test (change (s.wires l)) (s.wires l)) n ≡ None
          → slice_get (s.wires l) n ≡ None
      none_by l n false is not = not
      none_by l n true is not =
          (let same : l
          ≡ link = same_link l is in ap (λ (k : ℕ). slice_get (s.wires k) n) same ∙ none n
          (sym (ap (λ (k : ℕ). slice_get (change (s.wires k)) n) same) ∙ not))

up_by : (hold : Hold) (up down : List Coming) (above : Hold)
    → LetsTo (wire_of above hold up down) (given_up Entry (wire_of above hold up down))
up_by Awaits up down above = lets_go Entry refl refl
up_by Has up down above = lets_same refl
up_by Left up down above = lets_same refl

some_wire : {a b : Wire} → Some a ≡ Some b → a ≡ b
some_wire is = cc

asked_at : (ws : List Wire) (n : ℕ) (v : Wire)
    → slice_get (map (given_up Entry) ws ++ asked_for ∷ []) n ≡ Some v → LetsAt ws n v
asked_at [] zero v got = lets_new refl (some_wire got)
asked_at [] (suc n) v got = (let never : None ≡ Some v = got in cc)
asked_at (first ∷ ws) zero v got =
    lets_old first refl
    (subst (LetsTo first) (some_wire got) (up_by first.below first.up first.down first.above))
asked_at (first ∷ ws) (suc n) v got = later (asked_at ws n v got) where
  later : LetsAt ws n v → LetsAt (first ∷ ws) (suc n) v
  later (lets_old w there to) = lets_old w there to
  later (lets_new none new) = lets_new none new

pub asks_lets : {above : ℕ} {s t : Running} → Asks above s t → Lets s t
asks_lets {above} {s} a =
    subst (Lets s) (sym a.after_is) (lets_link above (λ (ws : List Wire). map (given_up Entry) ws
    ++ asked_for ∷ []) s (asked_at (s.wires above))
    (λ n none.
    none_mapped (given_up Entry) (s.wires above) n
    (none_front (map (given_up Entry) (s.wires above)) (asked_for ∷ []) n none)))

lost_at : (at : Side) (ws : List Wire) (place : ℕ) (old : Wire) → slice_get ws place ≡ Some old
    → end_at at old ≡ Awaits → (n : ℕ) (v : Wire)
    → slice_get (at_place place (let_be at) ws) n ≡ Some v → LetsAt ws n v
lost_at at ws place old there awaits n v got =
    by (set_or_not ws place (let_be at old) n v
    (sym (ap (λ (f : Option Wire). slice_get
    (elim f [ None ↦ ws | Some wire ↦ slice_set ws place (let_be at wire) ]) n) there) ∙ got))
  where
    by : ((n ≡ place) × (let_be at old ≡ v)) ⊎ ((n ≢ place) × (slice_get ws n ≡ Some v))
        → LetsAt ws n v
    by (inl set) = lets_old old (ap (slice_get ws) set.0 ∙ there) (lets_go at awaits set.1)
    by (inr was) = lets_old v was.1 (lets_same refl)

pub lost_lets : {machine : ℕ} {at : Side} {s t : Running} → LetsBe machine at s t → Lets s t
lost_lets {machine} {at} {s} l =
    subst (Lets s) (sym l.after_is)
    (lets_link (link_of machine at) (at_place l.place (let_be at)) s
    (lost_at at
    (s.wires (link_of machine at)) l.place l.awaits.wire l.awaits.there l.awaits.held)
    (none_placed l.place (let_be at) (s.wires (link_of machine at))))

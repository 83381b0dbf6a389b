-- What a step, or none, makes of two states of a run that are alike.
use Rattle.std.proofs.Common.{◌≡◌, ◌∙◌, ℕ, ℤ, Bool, false, List, [], Result, Ok, Err, refl, sym, ap, subst}
use Rattle.std.specs.Borrow.{Bor}
use Rattle.line_base.specs.declared.states.Side.{Side}
use Rattle.board_record.specs.declared.sensed.Sensed.{Sensed}
use Rattle.book_entry.specs.declared.entry.Entry.{Entry as BookEntry}
use Rattle.book_entry.specs.declared.entry.OwnInput.{OwnInput}
use Rattle.book_entry.specs.declared.entry.OwnInput.TheVariants as own
use Rattle.book_entry.specs.Given.{entry_of}
use Rattle.node_core.specs.May.{may_of}
use Rattle.node_core.specs.Node.{NodeState}
use Rattle.node_core.specs.declared.act.Act.{Act}
use Rattle.node_core.specs.declared.input.Input.{Input}
use Rattle.node_core.specs.declared.input.Input.TheVariants as inputs
use Rattle.node_core.specs.declared.input.No.{No}
use Rattle.step_rules.proofs.Once.{IsDry, OneMeaning, StepsOnce}
use Rattle.node_run.specs.State.{RunState}
use Rattle.node_run.specs.Steps.{MeetsSecond, Takes, TakesStep, refusing, stepped}
use Rattle.machine_log.specs.Texts.{lines_of}
use Rattle.node_run.specs.declared.rules.Rules.{Rules}
use Rattle.law_node_runs.proofs.Nodes.{Alike, bytes_once, may_same, node_once, unspent}

abbrev made_entry : List Sensed → OwnInput → ℤ → BookEntry
made_entry sensed input moment = record { sensed = sensed; input = input; moment = moment }

-- the same run with another machine
abbrev pub like : RunState → NodeState → RunState
like s node = record s { node = node }

pub record RunsAlike (s t : RunState) : Type 0 where
  pub node : Alike s.node t.node
  pub same : t ≡ like s t.node

pub record Once (t t' : RunState) (log log' : List ℕ) : Type 0 where
  pub alike : RunsAlike t t'
  pub same_log : log' ≡ log

pub becomes : (u : RunState) (n : NodeState) (text : List ℕ) (t t' : RunState) (log log' : List ℕ) → Alike u.node n → (t ≡ u) × (log ≡ text) → (t' ≡ like u n) × (log' ≡ text) → Once t t' log log'
becomes u n text t t' log log' alike one two =
    let P : RunState → Type 0 = λ a. RunsAlike a t' in
    let Q : RunState → Type 0 = λ b. RunsAlike u b in
    let start : RunsAlike u (like u n) = record { node = alike; same = refl } in
    record { alike = subst P (sym one.0) (subst Q (sym two.0) start); same_log = two.1 ∙ sym one.1 }

-- a function of a state that passes by the machine
pub record Passes (f : RunState → RunState) : Type 0 where
  pub same : (s : RunState) (n : NodeState) → f (like s n) ≡ like (f s) n
  pub node : (s : RunState) → (f s).node ≡ s.node

pub passed : (f : RunState → RunState) → Passes f → (s : RunState) (n : NodeState) (text : List ℕ) (t t' : RunState) (log log' : List ℕ) → Alike s.node n → (t ≡ f s) × (log ≡ text) → (t' ≡ f (like s n)) × (log' ≡ text) → Once t t' log log'
passed f passes s n text t t' log log' alike one two =
    let P : NodeState → Type 0 = λ m. Alike m n in
    becomes (f s) n text t t' log log' (subst P (sym (passes.node s)) alike) one (two.0 ∙ passes.same s n, two.1)

taken : (asked : Bool) (rules : Rules) (entry entry' : BookEntry) (s : RunState) (n node node' : NodeState) (told told' : List Act) (t t' : RunState) (log log' : List ℕ) → entry' ≡ entry → StepsOnce (unspent node) (unspent node') told told'
    → t ≡ stepped asked rules entry node told s → log ≡ lines_of rules.panel.drives s.turn rules.number told
    → t' ≡ stepped asked rules entry' node' told' (like s n) → log' ≡ lines_of rules.panel.drives s.turn rules.number told' → Once t t' log log'
taken asked rules entry entry' s n node node' told told' t t' log log' same once after lines after' lines' =
    becomes (stepped asked rules entry node told s) node' (lines_of rules.panel.drives s.turn rules.number told) t t' log log' once.alike (after, lines)
    (after' ∙ ap (λ (e : BookEntry). stepped asked rules e node' told' (like s n)) same ∙ ap (λ (acts : List Act). stepped asked rules entry node' acts (like s n)) once.same, lines' ∙ ap (lines_of rules.panel.drives s.turn rules.number) once.same)

pub step_once : (asked : Bool) (rules : Rules) (moment : ℤ) (sensed : List Sensed) (input : Input) (s : RunState) (n : NodeState) (t t' : RunState) (log log' : List ℕ) → IsDry input → Alike s.node n
    → TakesStep asked rules moment sensed input s t log → TakesStep asked rules moment sensed input (like s n) t' log' → Once t t' log log'
step_once asked rules moment sensed input s n t t' log log' dry alike one two =
    taken asked rules (entry_of sensed input moment) (entry_of sensed input moment) s n one.node two.node one.told two.told t t' log log' refl (node_once s.node n one.node two.node sensed input moment one.told two.told alike dry one.steps two.steps) one.after one.lines two.after two.lines

takes_by : (may : Result (Unit {0}) No) (rules : Rules) (moment : ℤ) (input : Input) (from s : RunState) (n : NodeState) (t t' : RunState) (log log' : List ℕ) → IsDry input → Alike from.node n → Alike s.node n
    → Takes may rules moment input from s t log → Takes may rules moment input (like from n) (like s n) t' log' → Once t t' log log'
takes_by (Ok done) rules moment input from s n t t' log log' dry alike same one two = step_once false rules moment [] input from n t t' log log' dry alike one two
takes_by (Err why) rules moment input from s n t t' log log' dry alike same one two = becomes s n [] t t' log log' same one two

pub takes_once : (rules : Rules) (moment : ℤ) (input : Input) (from s : RunState) (n : NodeState) (t t' : RunState) (log log' : List ℕ) → IsDry input → Alike from.node n → Alike s.node n
    → Takes (may_of s.node input) rules moment input from s t log → Takes (may_of n input) rules moment input (like from n) (like s n) t' log' → Once t t' log log'
takes_once rules moment input from s n t t' log log' dry alike same one two =
    let P : Result (Unit {0}) No → Type 0 = λ may. Takes may rules moment input (like from n) (like s n) t' log' in
    takes_by (may_of s.node input) rules moment input from s n t t' log log' dry alike same one (subst P (may_same input s.node n same) two)

-- bytes are heard
same_entry : (side : Side) (moment : ℤ) (piece piece' : Bor (List ℕ)) → piece'.now ≡ piece.now → entry_of [] (inputs.Bytes side piece') moment ≡ entry_of [] (inputs.Bytes side piece) moment
same_entry side moment piece piece' same = ap (λ (bytes : List ℕ). made_entry [] (own.Bytes side bytes) moment) same

bytes_by : OneMeaning → (may : Result (Unit {0}) No) (rules : Rules) (moment : ℤ) (side : Side) (piece piece' : Bor (List ℕ)) (s : RunState) (n : NodeState) (t t' : RunState) (log log' : List ℕ) → piece'.now ≡ piece.now → Alike s.node n
    → Takes may rules moment (inputs.Bytes side piece) s s t log → Takes may rules moment (inputs.Bytes side piece') (like s n) (like s n) t' log' → Once t t' log log'
bytes_by law (Ok done) rules moment side piece piece' s n t t' log log' same alike one two =
    taken false rules (entry_of [] (inputs.Bytes side piece) moment) (entry_of [] (inputs.Bytes side piece') moment) s n one.node two.node one.told two.told t t' log log' (same_entry side moment piece piece' same) (bytes_once law side s.node n one.node two.node [] piece piece' moment one.told two.told alike same one.steps two.steps) one.after one.lines two.after two.lines
bytes_by law (Err why) rules moment side piece piece' s n t t' log log' same alike one two = becomes s n [] t t' log log' alike one two

pub takes_bytes : OneMeaning → (rules : Rules) (moment : ℤ) (side : Side) (piece piece' : Bor (List ℕ)) (s : RunState) (n : NodeState) (t t' : RunState) (log log' : List ℕ) → piece'.now ≡ piece.now → Alike s.node n
    → Takes (may_of s.node (inputs.Bytes side piece)) rules moment (inputs.Bytes side piece) s s t log → Takes (may_of n (inputs.Bytes side piece')) rules moment (inputs.Bytes side piece') (like s n) (like s n) t' log' → Once t t' log log'
takes_bytes law rules moment side piece piece' s n t t' log log' same alike one two =
    let P : Result (Unit {0}) No → Type 0 = λ may. Takes may rules moment (inputs.Bytes side piece') (like s n) (like s n) t' log' in
    bytes_by law (may_of s.node (inputs.Bytes side piece)) rules moment side piece piece' s n t t' log log' same alike one (subst P (may_same (inputs.Bytes side piece) s.node n alike) two)

-- a second connection
meets : (rules : Rules) (entry : BookEntry) (s : RunState) (n node node' : NodeState) (told told' : List Act) (t t' : RunState) (log log' : List ℕ) → StepsOnce (unspent node) (unspent node') told told'
    → t ≡ refusing rules entry node told s → log ≡ lines_of rules.panel.drives s.turn rules.number told
    → t' ≡ refusing rules entry node' told' (like s n) → log' ≡ lines_of rules.panel.drives s.turn rules.number told' → Once t t' log log'
meets rules entry s n node node' told told' t t' log log' once after lines after' lines' =
    becomes (refusing rules entry node told s) node' (lines_of rules.panel.drives s.turn rules.number told) t t' log log' once.alike (after, lines)
    (after' ∙ ap (λ (acts : List Act). refusing rules entry node' acts (like s n)) once.same, lines' ∙ ap (lines_of rules.panel.drives s.turn rules.number) once.same)

second_by : (may : Result (Unit {0}) No) (rules : Rules) (moment : ℤ) (input : Input) (s : RunState) (n : NodeState) (t t' : RunState) (log log' : List ℕ) → IsDry input → Alike s.node n
    → MeetsSecond may rules moment input s t log → MeetsSecond may rules moment input (like s n) t' log' → Once t t' log log'
second_by (Ok done) rules moment input s n t t' log log' dry alike one two =
    meets rules (entry_of [] input moment) s n one.node two.node one.told two.told t t' log log' (node_once s.node n one.node two.node [] input moment one.told two.told alike dry one.steps two.steps) one.after one.lines two.after two.lines
second_by (Err why) rules moment input s n t t' log log' dry alike one two = becomes s n [] t t' log log' alike one two

pub second_once : (rules : Rules) (moment : ℤ) (input : Input) (s : RunState) (n : NodeState) (t t' : RunState) (log log' : List ℕ) → IsDry input → Alike s.node n
    → MeetsSecond (may_of s.node input) rules moment input s t log → MeetsSecond (may_of n input) rules moment input (like s n) t' log' → Once t t' log log'
second_once rules moment input s n t t' log log' dry alike one two =
    let P : Result (Unit {0}) No → Type 0 = λ may. MeetsSecond may rules moment input (like s n) t' log' in
    second_by (may_of s.node input) rules moment input s n t t' log log' dry alike one (subst P (may_same input s.node n alike) two)

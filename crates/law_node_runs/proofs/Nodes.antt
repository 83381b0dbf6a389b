-- A machine's step is one, whatever was spent before it.
use Rattle.std.proofs.Common.{◌≡◌, ◌∙◌, ℕ, ℤ, Bool, false, List, refl, sym, ap}
use Rattle.std.specs.Borrow.{Bor}
use Rattle.line_base.specs.declared.states.Side.{Side}
use Rattle.board_record.specs.declared.sensed.Sensed.{Sensed}
use Rattle.node_core.specs.May.{may_of}
use Rattle.node_core.specs.Node.{NodeState}
use Rattle.node_core.specs.Step.{Steps}
use Rattle.node_core.specs.declared.act.Act.{Act}
use Rattle.node_core.specs.declared.input.Input.{Input}
use Rattle.node_core.specs.declared.input.Input.TheVariants as inputs
use Rattle.step_rules.proofs.Once.{AreAlike, IsDry, OneMeaning, StepsOnce, steps-bytes, steps-dry}

-- no step says whether its machine is spent
abbrev pub unspent : NodeState → NodeState
unspent node = record node { spent = false }

pub steps_unspent : {s t : NodeState} {sensed : List Sensed} {input : Input} {moment : ℤ} {told : List Act} → Steps s sensed input moment t told → Steps (unspent s) sensed input moment (unspent t) told
steps_unspent steps = record {
  made = steps.made;
  lane = steps.lane;
  told = steps.told;
  bridge = steps.bridge;
  forecasts = steps.forecasts;
  supervised = steps.supervised;
  orders = steps.orders;
  name = steps.name;
  number = steps.number;
  capacity = steps.capacity;
}

-- alike but for what is spent
abbrev pub Alike : NodeState → NodeState → Type 0
Alike a b = AreAlike (unspent a) (unspent b)

pub alike_self : (a : NodeState) → Alike a a
alike_self a = record { spent = refl; name = refl; number = refl; capacity = refl; maker = refl; bridge = refl; forecasts = refl; supervised = refl; orders = refl; body = refl; entry = λ opened. refl; exit = λ opened. refl }

abbrev bare : NodeState → Bool → List ℕ → List ℕ → NodeState
bare a spent entry exit = record a { spent = spent; lane = record a.lane { entry_bytes = entry; exit_bytes = exit } }

same_but : (a b : NodeState) → Alike a b → bare a b.spent b.lane.entry_bytes b.lane.exit_bytes ≡ b
same_but a b alike =
    rw (← alike.name, ← alike.number, ← alike.capacity, ← alike.maker, ← alike.bridge, ← alike.forecasts, ← alike.supervised, ← alike.orders, ← alike.body) refl

may_bare : (input : Input) (a : NodeState) (spent : Bool) (entry exit : List ℕ) → may_of (bare a spent entry exit) input ≡ may_of a input
may_bare inputs.Nothing a spent entry exit = refl
may_bare _ a spent entry exit = refl

pub may_same : (input : Input) (a b : NodeState) → Alike a b → may_of b input ≡ may_of a input
may_same input a b alike = sym (ap (λ (n : NodeState). may_of n input) (same_but a b alike)) ∙ may_bare input a b.spent b.lane.entry_bytes b.lane.exit_bytes

pub node_once : (a b a' b' : NodeState) (sensed : List Sensed) (input : Input) (moment : ℤ) (told other : List Act) → Alike a b → IsDry input
    → Steps a sensed input moment a' told → Steps b sensed input moment b' other → StepsOnce (unspent a') (unspent b') told other
node_once a b a' b' sensed input moment told other alike dry one two =
    steps-dry (unspent a) (unspent b) (unspent a') (unspent b') sensed input moment told other alike dry (steps_unspent one) (steps_unspent two) refl refl

pub bytes_once : OneMeaning → (side : Side) (a b a' b' : NodeState) (sensed : List Sensed) (piece piece' : Bor (List ℕ)) (moment : ℤ) (told other : List Act) → Alike a b → piece'.now ≡ piece.now
    → Steps a sensed (inputs.Bytes side piece) moment a' told → Steps b sensed (inputs.Bytes side piece') moment b' other → StepsOnce (unspent a') (unspent b') told other
bytes_once law side a b a' b' sensed piece piece' moment told other alike same one two =
    steps-bytes law side (unspent a) (unspent b) (unspent a') (unspent b') sensed piece piece' moment told other alike same (steps_unspent one) (steps_unspent two) refl refl

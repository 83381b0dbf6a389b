-- A STEP WITH AN ENTRY, and steps one behind another.
use Rattle.std.specs.Prelude.{◌≡◌, ◌++◌, ℤ, ℕ, List, [], ◌∷◌, Result, Ok, Err}
use Rattle.std.specs.List.{flat_map}
use Rattle.board_record.specs.declared.sensed.Sensed.{Sensed}
use Rattle.book_entry.specs.Spelling.{IsEntry, spelling}
use Rattle.book_entry.specs.declared.entry.Entry.{Entry}
use Rattle.book_entry.specs.declared.entry.OwnInput.{OwnInput}
use Rattle.node_core.specs.May.{may_of, may_do}
use Rattle.node_core.specs.Node.{NodeState}
use Rattle.node_core.specs.Step.{Steps}
use Rattle.node_core.specs.declared.act.Act.{Act}
use Rattle.node_core.specs.declared.input.Input.{Input}
use Rattle.book_entry.specs.Given.{IsOfOneLane, own_of}
use Rattle.book_entry.specs.declared.stepping.StepError.{StepError}
use Rattle.book_entry.specs.declared.stepping.StepError.TheVariants as errors

-- the machine may be given this input, which is of one lane then, and this is what its step makes
-- of it, and does
pub record DoesInput (s : NodeState) (sensed : List Sensed) (input : OwnInput) (moment : ℤ)
    (t : NodeState) (acts : List Act) : Type 0 where
  pub lent : Input
  pub kept : own_of lent ≡ input
  pub may : may_of s lent ≡ may_do
  pub steps : Steps s sensed lent moment t acts

abbrev pub DoesEntry : NodeState → Entry → NodeState → List Act → Type 0
DoesEntry s entry t acts = DoesInput s entry.sensed entry.input entry.moment t acts

-- there is a reason against this input
pub record IsRefused (s : NodeState) (input : OwnInput) : Type 0 where
  pub lent : Input
  pub kept : own_of lent ≡ input
  pub alone : IsOfOneLane lent
  pub refused : may_of s lent ≡ may_do → ⊥

-- one entry after another, with all that is done in them
abbrev pub Replays : NodeState → List Entry → NodeState → List Act → Type 0
Replays s [] t acts = (s ≡ t) × (acts ≡ [])
Replays s (entry ∷ entries) t acts =
    (mid : NodeState) × (first : List Act) × (others : List Act)
    × DoesEntry s entry mid first × Replays mid entries t others × (acts ≡ first ++ others)

-- each has a form
abbrev pub AreEntries : List Entry → Type 0
AreEntries [] = Unit {0}
AreEntries (entry ∷ entries) = IsEntry entry × AreEntries entries

-- the bytes of a book of these entries
abbrev pub spelled : List Entry → List ℕ
spelled entries = flat_map spelling entries

-- ---- what a step answers

abbrev pub StepsOwn : NodeState → List Sensed → OwnInput → ℤ → NodeState
    → Result (List Act) StepError → Type 0
StepsOwn s sensed input moment t (Ok acts) = DoesInput s sensed input moment t acts
StepsOwn s sensed input moment t (Err errors.NotPossible) = IsRefused s input
StepsOwn s sensed input moment t (Err errors.Memory) = Unit {0}

abbrev pub StepsEntry : NodeState → Entry → NodeState → Result (List Act) StepError → Type 0
StepsEntry s entry t result = StepsOwn s entry.sensed entry.input entry.moment t result

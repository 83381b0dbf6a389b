-- A BOOK HAS ONE ANSWER: it leads to one machine, or is bad at one place for one reason.
use Rattle.std.specs.Prelude.{◌≡◌, ℕ, List, true, Result, Ok, Err}
use Rattle.line_base.specs.declared.states.Side.TheVariants.{Entry, Exit}
use Rattle.node_core.specs.Node.{NodeState}
use Rattle.node_core.specs.Sides.{is_open}
use Rattle.node_core.specs.declared.act.Act.{Act}
use Rattle.machine_log.specs.Drives.{all_off, drives_after}
use Rattle.restart_book.specs.Replay.{IsBadAt, IsResumed}
use Rattle.restart_book.specs.declared.resuming.BookWhy.{BookWhy}
use Rattle.restart_book.specs.declared.resuming.ResumeError.{ResumeError}
use Rattle.restart_book.specs.declared.resuming.ResumeError.TheVariants as errors
use Rattle.restart_book.specs.declared.resuming.Resumed.{Resumed}

-- the same machine, but for the undelivered bytes of a side that has no connection, on which
-- nothing depends
pub record AreOne (a b : NodeState) : Type 0 where
  pub name : b.name ≡ a.name
  pub number : b.number ≡ a.number
  pub capacity : b.capacity ≡ a.capacity
  pub maker : b.maker ≡ a.maker
  pub bridge : b.bridge ≡ a.bridge
  pub forecasts : b.forecasts ≡ a.forecasts
  pub supervised : b.supervised ≡ a.supervised
  pub orders : b.orders ≡ a.orders
  pub body : b.lane.body ≡ a.lane.body
  pub entry : is_open Entry a.lane.body ≡ true → b.lane.entry_bytes ≡ a.lane.entry_bytes
  pub exit : is_open Exit a.lane.body ≡ true → b.lane.exit_bytes ≡ a.lane.exit_bytes

pub record HasOneAnswer (start : NodeState) (book : List ℕ) : Type 0 where
  pub whole : (one other : ℕ) (a b : NodeState) (acts more : List Act)
      → IsResumed start book one a acts → IsResumed start book other b more
      → (other ≡ one) × AreOne a b × (more ≡ acts)
  pub bad : (one other : ℕ) (why also : BookWhy) → IsBadAt start book one why
      → IsBadAt start book other also → (other ≡ one) × (also ≡ why)
  pub never_both : (whole at : ℕ) (node : NodeState) (acts : List Act) (why : BookWhy)
      → IsResumed start book whole node acts → IsBadAt start book at why → ⊥

-- THE LAW
abbrev pub EachBookHasOneAnswer : Type 0
EachBookHasOneAnswer = (start : NodeState) (book : List ℕ) → HasOneAnswer start book

-- ---- what is answered, unless memory was wanting

-- a book that can be resumed is, with all its whole entries, and leads to one machine
abbrev pub AnswersWhole : Result Resumed ResumeError → ℕ → NodeState → List Act → Type 0
AnswersWhole (Ok resumed) whole node acts =
    (resumed.whole ≡ whole) × AreOne resumed.node node
    × (resumed.drives ≡ drives_after all_off acts)
AnswersWhole (Err (errors.Bad at why)) whole node acts = ⊥
AnswersWhole (Err errors.Memory) whole node acts = Unit {0}

-- one that can't is refused where it can't
abbrev pub AnswersBad : Result Resumed ResumeError → ℕ → BookWhy → Type 0
AnswersBad (Ok resumed) at why = ⊥
AnswersBad (Err (errors.Bad own_at own_why)) at why = (own_at ≡ at) × (own_why ≡ why)
AnswersBad (Err errors.Memory) at why = Unit {0}

-- WHAT THE CALLS OVER A SUPERVISOR'S CONNECTION DO to the machine of a handle.
use Rattle.std.specs.Prelude.{◌≡◌, ◌&&◌, ℕ, ℤ, pos, neg_ℤ, Bool, true, false, not, List, Result, Ok, Err, length, nat_le}
use Rattle.line_base.specs.declared.memory.Memory.{Memory}
use Rattle.machine_port.specs.Port.{PortState}
use Rattle.machine_port.specs.Supervisor.{DoesHear, HasLeft, heard, refused_second, unstepped}
use Rattle.hermes_machine.specs.Meanings.{is_moment}

-- the call isn't done, and the machine is as it was
pub record IsNotDone (why : ℤ) (s t : PortState) (answer : ℤ) : Type 0 where
  pub why_is : answer ≡ why
  pub stays : t ≡ s

-- the call is done, or memory was wanting, and the machine is spent. No id is made; and of a spent
-- machine nothing is done any more
pub record IsDoneOrWanting (Done : Type 0) (s t : PortState) (answer : ℤ) : Type 0 where
  pub done : answer ≡ pos 0 → Done
  pub wanting : ¬ (answer ≡ pos 0) → answer ≡ neg_ℤ (pos 2)
  pub lost : answer ≡ neg_ℤ (pos 2) → t.spent ≡ true
  pub again : s.spent ≡ true → ¬ (answer ≡ pos 0)
  pub counted : t.made ≡ s.made
  pub still : s.spent ≡ true → t ≡ s

abbrev pub answer_of_done : Result (Unit {0}) Memory → ℤ
answer_of_done (Ok done) = pos 0
answer_of_done (Err memory) = neg_ℤ (pos 2)

-- ---- bytes came

-- as many as a call takes, and all that came before was heard
abbrev pub may_hear : List ℕ → PortState → Bool
may_hear bytes s = nat_le (length bytes) 4096 && not s.channel.hears

abbrev pub HearsIf : Bool → List ℕ → PortState → PortState → ℤ → Type 0
HearsIf false bytes s t answer = IsNotDone (neg_ℤ (pos 3)) s t answer
HearsIf true bytes s t answer =
    IsDoneOrWanting (t ≡ heard s.supervisor.closes bytes s) s t answer

abbrev pub AnswersBytes : List ℕ → PortState → PortState → ℤ → Type 0
AnswersBytes bytes s t answer = HearsIf (may_hear bytes s) bytes s t answer

-- ---- the next message, of the bytes that came

abbrev pub DoesIf : Bool → ℤ → PortState → PortState → ℤ → Type 0
DoesIf false now s t answer = IsNotDone (neg_ℤ (pos 6)) s t answer
DoesIf true now s t answer = IsDoneOrWanting (DoesHear now (unstepped s) t) s t answer

abbrev pub DoesAt : Bool → ℤ → PortState → PortState → ℤ → Type 0
DoesAt false now s t answer = IsNotDone (neg_ℤ (pos 3)) s t answer
DoesAt true now s t answer = DoesIf s.channel.hears now s t answer

abbrev pub AnswersMessage : ℤ → PortState → PortState → ℤ → Type 0
AnswersMessage now s t answer = DoesAt (is_moment now) now s t answer

-- ---- the connection is closed

abbrev pub LeavesAt : Bool → ℤ → PortState → PortState → ℤ → Type 0
LeavesAt false now s t answer = IsNotDone (neg_ℤ (pos 3)) s t answer
LeavesAt true now s t answer = IsDoneOrWanting (HasLeft now s t) s t answer

abbrev pub AnswersClosed : ℤ → PortState → PortState → ℤ → Type 0
AnswersClosed now s t answer = LeavesAt (is_moment now) now s t answer

-- ---- a second connection

-- a text for it waits, or memory was wanting, and the machine is as it was
pub record IsRefusedOrWanting (now : ℤ) (s t : PortState) (answer : ℤ) : Type 0 where
  pub done : answer ≡ pos 0 → t ≡ refused_second now s
  pub wanting : ¬ (answer ≡ pos 0) → answer ≡ neg_ℤ (pos 2)
  pub stays : ¬ (answer ≡ pos 0) → t ≡ s

abbrev pub RefusesAt : Bool → ℤ → PortState → PortState → ℤ → Type 0
RefusesAt false now s t answer = IsNotDone (neg_ℤ (pos 3)) s t answer
RefusesAt true now s t answer = IsRefusedOrWanting now s t answer

abbrev pub AnswersSecond : ℤ → PortState → PortState → ℤ → Type 0
AnswersSecond now s t answer = RefusesAt (is_moment now) now s t answer

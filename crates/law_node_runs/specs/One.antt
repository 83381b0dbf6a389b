-- A NODE'S RUN IS ONE: equal answers give equal calls, an equal log and an equal end, and a run that
-- was broken off made a front of what the whole one made.
use Rattle.std.specs.Prelude.{◌≡◌, ◌++◌, ℕ, ℤ, List, [], ◌∷◌, map}
use Rattle.line_outside.specs.Given.{Closes, Connects, Given, Listens, Polls, Refuses, Sends}
use Rattle.line_outside.specs.declared.answer.GotBytes.{GotBytes}
use Rattle.line_outside.specs.declared.ports.Opened.{Opened}
use Rattle.line_outside.specs.declared.ports.Sent.{Sent}
use Rattle.node_run.specs.Next.{next_of}
use Rattle.node_run.specs.Runs.{CallsNext, Runs}
use Rattle.node_run.specs.State.{RunState}
use Rattle.node_run.specs.declared.place.Next.TheVariants as nexts
use Rattle.node_run.specs.declared.rules.Rules.{Rules}
use Rattle.node_run.specs.declared.status.NodeStatus.{NodeStatus}

-- ---- what comes from outside

-- what a call of the ports was answered, without what it asked
pub data Answer : Type 0 where
  opened : Opened → Answer
  found : GotBytes → Answer
  sent : Sent → Answer
  closed : Answer

abbrev pub answer_of : Given → Answer
answer_of (Listens way address done) = opened done
answer_of (Connects way address done) = opened done
answer_of (Polls way room got) = found got
answer_of (Sends way piece done) = sent done
answer_of (Refuses way piece done) = sent done
answer_of (Closes way) = closed

abbrev pub answers_of : List Given → List Answer
answers_of [] = []
answers_of (call ∷ calls) = answer_of call ∷ answers_of calls

-- two lists are the same as far as both go
abbrev pub Agree : {A : Type 0} → List A → List A → Type 0
Agree [] others = Unit {0}
Agree (one ∷ ones) [] = Unit {0}
Agree (one ∷ ones) (other ∷ others) = (one ≡ other) × Agree ones others

-- a list is the front of another
pub record IsFront {A : Type 0} (front whole : List A) : Type 0 where
  pub behind : List A
  pub parts : whole ≡ front ++ behind

-- ---- runs

-- a run from a state that came to its end, with the moment of each move, all its calls and its log
pub record IsWhole (rules : Rules) (s : RunState) (moments : List ℤ) (calls : List Given)
    (log : List ℕ) (status : NodeStatus) : Type 0 where
  pub reached : RunState
  pub run : Runs rules s moments calls reached log
  pub ends : next_of rules reached ≡ nexts.End status

-- a run that was broken off: what was called are the calls of a run and at most its next, and what
-- was logged is a front of its log
pub record IsBroken (rules : Rules) (s : RunState) (moments : List ℤ) (called : List Given)
    (logged : List ℕ) : Type 0 where
  pub reached : RunState
  pub calls : List Given
  pub last : List Given
  pub log : List ℕ
  pub run : Runs rules s moments calls reached log
  pub next : CallsNext rules reached last
  pub called_are : called ≡ calls ++ last
  pub logged_is : IsFront logged log

-- THE LAW: whole runs from one state, whose moments and answers are the same as far as both go, are
-- one
abbrev pub EachRunIsOne : Type 0
EachRunIsOne =
    (rules : Rules) (s : RunState) (moments others : List ℤ) (calls more : List Given)
    (log text : List ℕ) (status end : NodeStatus)
    → IsWhole rules s moments calls log status → IsWhole rules s others more text end
    → Agree moments others → Agree (answers_of calls) (answers_of more)
    → (others ≡ moments) × (more ≡ calls) × (text ≡ log) × (end ≡ status)

-- and what a run that was broken off called and logged is a front of what the whole one did
abbrev pub EachPartIsAFront : Type 0
EachPartIsAFront =
    (rules : Rules) (s : RunState) (moments others : List ℤ) (calls called : List Given)
    (log logged : List ℕ) (status : NodeStatus)
    → IsWhole rules s moments calls log status → IsBroken rules s others called logged
    → Agree moments others → Agree (answers_of calls) (answers_of called)
    → IsFront called calls × IsFront logged log

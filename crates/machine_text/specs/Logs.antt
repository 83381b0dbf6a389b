-- THE LOG OF A MACHINE BEHIND ITS PORT: the lines of its steps, as a node logs them that tells its
-- drives.
use Rattle.std.specs.Prelude.{◌≡◌, ◌++◌, ℕ, ℤ, true, List, []}
use Rattle.board_record.specs.declared.sensed.Sensed.{Sensed}
use Rattle.node_core.specs.Own.{Own, own_after, own_of}
use Rattle.node_core.specs.declared.input.Input.{Input}
use Rattle.machine_log.specs.Account.{own_behind, own_by_log}
use Rattle.machine_log.specs.Texts.{lines_of}
use Rattle.machine_port.specs.Port.{HasStepped, PortState}

-- the lines of the last step's acts: the step's number in front
abbrev pub log_of : PortState → List ℕ
log_of s = lines_of true s.steps s.number s.last

-- whatever follows them, what is read off them is what those acts do to what is owned
abbrev pub TellsOwn : PortState → Type 0
TellsOwn s =
    (rest : List ℕ) (own : Own)
    → own_behind [] (log_of s ++ rest) own ≡ own_behind [] rest (own_after own s.last)

-- A LOG: the lines of each step, behind one another. What is done between two steps (text is sent, a
-- connection is closed of which the machine makes none) leaves the machine as it is
pub data IsLog (s : PortState) : List ℕ → PortState → Type 0 where
  begun : IsLog s [] s
  step_more : {t u : PortState} {log : List ℕ} → IsLog s log t → (sensed : List Sensed)
      → (input : Input) → (moment : ℤ) → HasStepped sensed input moment t u → TellsOwn u
      → IsLog s (log ++ log_of u) u
  between : {t u : PortState} {log : List ℕ} → IsLog s log t → u.node ≡ t.node → IsLog s log u

-- WHAT A MACHINE OWNS IS READ OFF ITS LOG, from what it owned before
abbrev pub OwnIsRead : PortState → PortState → List ℕ → Type 0
OwnIsRead s t log = own_of t.node.lane.body ≡ own_by_log log (own_of s.node.lane.body)

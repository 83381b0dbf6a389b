-- THE MERGED LOG OF A RUN: the lines that running machines log, in the order of their steps.
use Rattle.std.specs.Prelude.{ℕ, Bool, List, [], ◌∷◌, ◌++◌, ◌==◌, ◌<◌, ◌^◌, ◌≡◌, ◌≤◌, None, codes, decimal, if◌then◌else◌}
use Rattle.line_base.specs.declared.states.Side.{Side}
use Rattle.node_core.specs.declared.act.Act.{Act}
use Rattle.node_core.specs.declared.act.Act.TheVariants as acts
use Rattle.line_report.specs.Texts.{act_text}
use Rattle.machine_log.specs.Account.{IsProperAct}
use Rattle.machine_log.specs.Texts.{deed_text, drive_text, gets_text, gives_text}
use Rattle.line_check.specs.LogLine.{kind_of}
use Rattle.line_check.specs.Words.{first_word}
use Rattle.law_running_line.specs.Stands.{node_in}
use Rattle.law_running_logs.specs.Told.{RunPoint}

-- ---- a line

-- the text of an act in the log of the machine of this number
abbrev pub text_of : ℕ → Act → List ℕ
text_of number (acts.Drive side on) = drive_text number side on
text_of number (acts.Deed deed) = deed_text deed
text_of number (acts.Gives id to) = gives_text number id
text_of number (acts.Gets id) = gets_text number id
text_of number act = act_text number act

-- a line of the merged log: the machine's place in the line, its turn, and the text
abbrev pub merged_line : ℕ → ℕ → List ℕ → List ℕ
merged_line machine turn text =
    (decimal machine ++ codes " ") ++ ((decimal turn ++ codes " ") ++ text)

-- ---- the lines of a step

-- machines 1 to 64 are named, by a number of 32 bits in their own logs, and turns of at most 15
-- digits
pub record CanBeNamed (machine number turn : ℕ) : Type 0 where
  pub least : 1 ≤ machine
  pub most : machine ≤ 64
  pub short : number < 2 ^ 32
  pub early : turn < 10 ^ 15

-- each act has its line, in the order of the acts; but that a drive has none where the machine's drives
-- aren't told. Ids have 128 bits
pub data StepLines (machine number turn : ℕ) : List Act → List (List ℕ) → Type 0 where
  no_lines : StepLines machine number turn [] []
  told : {act : Act} {others : List Act} {lines : List (List ℕ)}
      → CanBeNamed machine number turn → IsProperAct act
      → StepLines machine number turn others lines
      → StepLines machine number turn (act ∷ others)
      (merged_line machine turn (text_of number act) ∷ lines)
  untold : {side : Side} {on : Bool} {others : List Act} {lines : List (List ℕ)}
      → StepLines machine number turn others lines
      → StepLines machine number turn (acts.Drive side on ∷ others) lines

-- ---- the log

-- the greatest turn of each machine so far
abbrev pub no_turns : ℕ → ℕ
no_turns machine = 0

abbrev pub with_turn : ℕ → ℕ → (ℕ → ℕ) → ℕ → ℕ
with_turn machine turn latest = λ (other : ℕ). if machine == other then turn else latest other

-- the number under which a machine logs
abbrev pub number_at : RunPoint → ℕ
number_at point = (node_in point.after point.machine).maker.machine

-- A LOG OF THE STEPS OF A RUN, in their order: the lines of a step stand together, in a turn of its
-- machine that is none before its last one. Between steps there may be lines that tell no deed: what
-- a panel was answered
pub data IsLogOf : (ℕ → ℕ) → List RunPoint → List (List ℕ) → Type 0 where
  no_steps : {latest : ℕ → ℕ} → IsLogOf latest [] []
  step : {latest : ℕ → ℕ} {point : RunPoint} {points : List RunPoint}
      {lines log all : List (List ℕ)} (turn : ℕ) → latest point.machine ≤ turn
      → StepLines point.machine (number_at point) turn point.acts lines
      → IsLogOf (with_turn point.machine turn latest) points log → all ≡ lines ++ log
      → IsLogOf latest (point ∷ points) all
  beside : {latest : ℕ → ℕ} {points : List RunPoint} {log : List (List ℕ)}
      (machine number turn : ℕ) (text : List ℕ) → latest machine ≤ turn
      → CanBeNamed machine number turn → kind_of (first_word text) ≡ None
      → IsLogOf (with_turn machine turn latest) points log
      → IsLogOf latest points (merged_line machine turn text ∷ log)

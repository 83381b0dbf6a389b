-- ONE ANSWER TO A QUERY: each question for a work order has at most one answer, and the report
-- tells it once.
--
-- What is told as an answer is what the machine's book keeps, and what it keeps stays. Nothing is
-- said of when an answer comes, or that one does.
use Rattle.std.specs.Prelude.{
  ◌≡◌,
  ℕ,
  ◌==◌,
  ◌++◌,
  if◌then◌else◌,
  true,
  List,
  [],
  ◌∷◌,
  Option,
  Some,
  None,
  is_some,
  option_and_then,
}
use Rattle.supervisory_core.specs.declared.order.Order.{Order}
use Rattle.supervisory_core.specs.Orders.{answer_to, order_numbered}
use Rattle.node_core.specs.declared.act.Act.{Act}
use Rattle.node_core.specs.declared.act.Act.TheVariants as acts
use Rattle.line_report.specs.declared.happening.Happening.{Happening}
use Rattle.line_report.specs.declared.happening.Happening.TheVariants as happenings
use Rattle.line_step.specs.Requests.{Request}
use Rattle.line_step.specs.Lines.{LineSteps}
use Rattle.line_step.specs.Tracks.{TrackLine}
use Rattle.line_step.specs.Runs.{IsRun, Point, state_behind, all_told}
use Rattle.line_step.specs.State.{LineState, machine_in, no_line}

-- ---- what a machine keeps

-- the question of this number that a machine asked
abbrev pub asked_in : LineState → ℕ → ℕ → Option Order
asked_in s machine query =
    option_and_then (λ node. order_numbered node.orders query) (machine_in machine s)

-- the answer that it keeps of it
abbrev pub kept_in : LineState → ℕ → ℕ → Option (List ℕ)
kept_in s machine query =
    option_and_then (λ node. answer_to node.orders query) (machine_in machine s)

-- ---- what is told

-- the word that an act tells as the answer to the question of this number
abbrev pub word_in : ℕ → Act → List (List ℕ)
word_in query (acts.Answered number word) = if number == query then word ∷ [] else []
word_in query _ = []

-- and that a happening tells as the answer to a machine's question
abbrev pub word_of : ℕ → ℕ → Happening → List (List ℕ)
word_of machine query (happenings.Done other act) =
    if other == machine then word_in query act else []
word_of machine query _ = []

-- the words that are told as answers to a machine's question, in their order
abbrev pub answers_of : ℕ → ℕ → List Happening → List (List ℕ)
answers_of machine query [] = []
answers_of machine query (happening ∷ told) =
    word_of machine query happening ++ answers_of machine query told

-- ---- a line of a script

-- a machine's question was asked and had no answer, and behind it has this word
pub record GetsAnswer (before after : LineState) (machine query : ℕ) (word : List ℕ) : Type 0 where
  pub asked : is_some (asked_in before machine query) ≡ true
  pub unanswered : kept_in before machine query ≡ None
  pub kept : kept_in after machine query ≡ Some word

-- no word is told, and what is kept is what was kept; or one word, which is kept then; and never
-- two
abbrev pub Answers : LineState → LineState → ℕ → ℕ → List (List ℕ) → Type 0
Answers before after machine query [] =
    kept_in after machine query ≡ kept_in before machine query
Answers before after machine query (word ∷ []) = GetsAnswer before after machine query word
Answers before after machine query (_ ∷ (_ ∷ _)) = ⊥

-- so it is of each machine and each question, and an answer that is kept stays
pub record AnswersOnce (before after : LineState) (told : List Happening) : Type 0 where
  pub each : (machine query : ℕ)
      → Answers before after machine query (answers_of machine query told)
  pub stays : (machine query : ℕ) (word : List ℕ) → kept_in before machine query ≡ Some word
      → kept_in after machine query ≡ Some word

-- THE LAW of a line: whatever its number is, and whatever was done before it
abbrev pub EachLineAnswersOnce : Type 0
EachLineAnswersOnce =
    (number : ℕ) (request : Request) (before after : LineState) (told : List Happening)
    → LineSteps number request before after told → AnswersOnce before after told

-- ---- a run

-- one word, or none
abbrev pub one_of : Option (List ℕ) → List (List ℕ)
one_of None = []
one_of (Some word) = word ∷ []

-- THE LAW: over every run the words that are told as answers to a machine's question are the one
-- that is kept behind it, if one is, and no other
abbrev pub OneAnswer : Type 0
OneAnswer =
    (asked : List TrackLine) (points : List Point) (machine query : ℕ)
    → IsRun no_line asked points
    → answers_of machine query (all_told points)
    ≡ one_of (kept_in (state_behind no_line points) machine query)

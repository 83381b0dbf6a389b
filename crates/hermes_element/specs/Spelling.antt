-- Which bytes spell an element, and what reading and writing answer.
use Rattle.std.specs.Prelude.{◌≡◌, ℕ, List, [], Result, Ok, Err}
use Rattle.hermes_element.specs.Element.{Tree}
use Rattle.hermes_element.specs.Plain.{Document, IsSpelledBy}
use Rattle.hermes_element.specs.Checks.{faults_of, element_of}
use Rattle.hermes_element.specs.Refusal.{IsRefused}
use Rattle.hermes_element.specs.declared.refusal.Why.{Why}
use Rattle.hermes_element.specs.declared.refusal.ElementError.{ElementError}
use Rattle.hermes_element.specs.declared.refusal.ElementError.TheVariants as errors

-- both passes accept the bytes, and the element is what they say
pub record Spells (bytes : List ℕ) (tree : Tree) : Type 0 where
  pub document : Document
  pub spelled : IsSpelledBy document bytes
  pub good : faults_of document ≡ []
  pub element : element_of document ≡ tree

-- what reading bytes answers
abbrev pub ReadsElement : List ℕ → Result Tree ElementError → Type 0
ReadsElement bytes (Ok tree) = Spells bytes tree
ReadsElement bytes (Err (errors.Refused at reason)) =
    IsRefused bytes at reason × ((tree : Tree) → Spells bytes tree → ⊥)
ReadsElement bytes (Err errors.Memory) = Unit {0}

-- the answer is this element, unless memory ran out
abbrev pub AnswersElement : Result Tree ElementError → Tree → Type 0
AnswersElement (Ok tree) wanted = tree ≡ wanted
AnswersElement (Err (errors.Refused at reason)) wanted = ⊥
AnswersElement (Err errors.Memory) wanted = Unit {0}

-- the answer is this refusal, unless memory ran out
abbrev pub AnswersRefusal : Result Tree ElementError → ℕ → Why → Type 0
AnswersRefusal (Ok tree) at reason = ⊥
AnswersRefusal (Err (errors.Refused place why)) at reason = (place ≡ at) × (why ≡ reason)
AnswersRefusal (Err errors.Memory) at reason = Unit {0}

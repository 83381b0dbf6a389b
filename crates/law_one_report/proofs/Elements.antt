-- Bytes spell an element or are refused: the machine that reads them stops at a place, or at none, and then no check fails
-- or a first one does.
use Rattle.std.proofs.Common.{◌≡◌, ◌∙◌, inl, inr, ℕ, List, [], ◌∷◌, Option, Some, None, refl, subst, sym}
use Rattle.hermes_element.specs.Checks.{Fault, element_of, faults_of, root_place}
use Rattle.hermes_element.specs.Element.{Tree}
use Rattle.hermes_element.specs.Machine.{outcome}
use Rattle.hermes_element.specs.Plain.{Document, IsSpelledBy}
use Rattle.hermes_element.specs.Refusal.{IsLeast, IsRefused, shape_reason}
use Rattle.hermes_element.specs.Spelling.{Spells}
use Rattle.hermes_element.specs.declared.refusal.Why.{Why}
use Rattle.hermes_element.proofs.Exact.{document_at, outcome_stop, unplain_at}
use Rattle.hermes_element.proofs.Rising.{Rising, first_least, root_rising}

pub data IsElementOrRefused (bytes : List ℕ) : Type 0 where
  element : (tree : Tree) → Spells bytes tree → IsElementOrRefused bytes
  unspelled : (at : ℕ) (why : Why) → IsRefused bytes at why → IsElementOrRefused bytes

-- a document of which no check fails says its element, and else the first one refuses it
checked : (bytes : List ℕ) (document : Document) → IsSpelledBy document bytes → (faults : List Fault) → faults_of document ≡ faults → IsElementOrRefused bytes
checked bytes document is [] good = element (element_of document) (record { document = document; spelled = is; good = good; element = refl })
checked bytes document is (fault ∷ others) fails =
    let rises = root_rising (root_place document) document.root is.plain.root in
    unspelled fault.0 fault.1 (inr (record {
      document = document;
      spelled = is;
      fault = subst (λ (faults : List Fault). IsLeast faults fault) (sym fails)
          (first_least (root_place document) rises.0 fault others (subst (λ (faults : List Fault). Rising (root_place document) rises.0 faults) fails rises.1));
    }))

stopped : (bytes : List ℕ) (stop : Option ℕ) → (outcome bytes).stop ≡ stop → IsElementOrRefused bytes
stopped bytes (Some at) stops = unspelled at (shape_reason bytes at) (inl (unplain_at bytes at (sym (outcome_stop bytes) ∙ stops)))
stopped bytes None stops =
    let document = document_at bytes (sym (outcome_stop bytes) ∙ stops) in
    checked bytes document.0 document.1 (faults_of document.0) refl

pub each_element : (bytes : List ℕ) → IsElementOrRefused bytes
each_element bytes = stopped bytes (outcome bytes).stop refl

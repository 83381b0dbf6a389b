-- A frame means one thing at most.
use Rattle.std.proofs.Common.{◌≡◌, ◌∙◌, ℕ, List, sym, ap}
use Rattle.hermes_horizontal.specs.Spelling.{Spells, IsRefused}
use Rattle.hermes_horizontal.specs.Texts.{message_refusal_text}
use Rattle.hermes_horizontal.specs.declared.fault.Fault.{Fault}
use Rattle.hermes_horizontal.specs.declared.message.Message.{Message}
use Rattle.node_core.specs.declared.word.Word.{Word}
use Rattle.node_core.specs.declared.word.Word.TheVariants.{Says, Wrong}
use Rattle.node_core.specs.Words.{Means}

pub one_word : ((bytes : List ℕ) (a b : Message) → Spells bytes a → Spells bytes b → a ≡ b)
    → ((bytes : List ℕ) (at place : ℕ) (why reason : Fault) → IsRefused bytes at why → IsRefused bytes place reason → (at ≡ place) × (why ≡ reason))
    → (frame : List ℕ) (a b : Word) → Means frame a → Means frame b → a ≡ b
one_word spelled refused frame (Says m) (Says n) x y = ap Says (spelled frame m n x y)
one_word spelled refused frame (Says m) (Wrong t) x y = absurd (y.spells_none m x)
one_word spelled refused frame (Wrong s) (Says n) x y = absurd (x.spells_none n y)
one_word spelled refused frame (Wrong s) (Wrong t) x y =
    let same = refused frame x.at y.at x.why y.why x.refused y.refused in
    ap Wrong (x.told ∙ ap (λ at. message_refusal_text x.why at) same.0 ∙ ap (λ why. message_refusal_text why y.at) same.1 ∙ sym y.told)

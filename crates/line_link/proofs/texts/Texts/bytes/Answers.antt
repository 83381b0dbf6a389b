use Rattle.std.proofs.Common.{◌≡◌, ◌∙◌, ap, ℕ, true, List, drop, subst, sym}
use Rattle.std.proofs.lemmas.List.{take_rest}
use Rattle.std.specs.List.{list_all}
use Rattle.line_link.specs.Texts.{bytes_of, is_filled}
use Rattle.line_link.proofs.Parts.{bytes_of-texts, filled_texts}
use Rattle.line_link.proofs.texts.Texts.bytes.Goals as goal

pub returns-clause-bytes : goal.returns-clause-bytes
returns-clause-bytes c =
    let P : List (List ℕ) → Type 0 = λ (v : List (List ℕ)). drop c.self.inside.start c.self.inside.bytes.items ≡ bytes_of v in
    take_rest c.deref.result.now c.self.inside.start
    ∙ ap (λ (l : List ℕ). drop c.self.inside.start l) c.deref.ensures.value
    ∙ subst P c.self.view_is (sym (bytes_of-texts c.self.inside.start c.self.inside.lengths.items c.self.inside.bytes.items c.self.invariant))

pub returns-clause-filled : goal.returns-clause-filled
returns-clause-filled c =
    let P : List (List ℕ) → Type 0 = λ (v : List (List ℕ)). list_all is_filled v ≡ true in
    subst P c.self.view_is (filled_texts c.self.inside.start c.self.inside.lengths.items c.self.inside.bytes.items c.self.invariant)

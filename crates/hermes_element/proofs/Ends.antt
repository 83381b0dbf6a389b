-- The documents that the reading machine accepts, and that it always can come to one.
use Rattle.std.proofs.Common.{◌≡◌, inl, inr, ℕ, ◌+◌, true, false, List, [], ◌∷◌, ◌++◌, Some, None, length, refl, ap, sym, ◌∙◌, append_assoc, append-nil, arith, subst}
use Rattle.std.specs.Prelude.{◌==◌}
use Rattle.std.proofs.lemmas.Bool.{cases_Bool, eqb-true}
use Rattle.hermes_element.proofs.Roots.{declared_not_63}
use Rattle.line_base.specs.Name.{is_name_start}
use Rattle.hermes_element.specs.Plain.{is_blank, is_declared, AreBlanks, end_text, content_text, Root, lone, holding, root_text, IsRoot, Declaration, Document, document_text, IsPlain, IsDocument}
use Rattle.hermes_element.specs.Machine.{to_if}
use Rattle.hermes_element.specs.declared.place.Place.TheVariants as places
use Rattle.hermes_element.proofs.Running.{yes, no}
use Rattle.hermes_element.proofs.Parts.{tag_rest}
use Rattle.hermes_element.proofs.Whole.{root_rest, root_split, declaration_split}
use Rattle.hermes_element.proofs.Sound as sound
use Rattle.hermes_element.proofs.Sound.{accepts, accept_if}

-- ---- the root

record RootEnd (bytes : List ℕ) : Type 0 where
  root : Root
  is : IsRoot root
  text : root_rest root ≡ bytes

nothing_left : (bytes : List ℕ) → accepts places.End 0 bytes ≡ true → bytes ≡ []
nothing_left [] h = refl
nothing_left (b ∷ bs) h = absurd (cc h)

holding_split : (t inside e : List ℕ) → ((t ++ (62 ∷ [])) ++ inside) ++ e ≡ t ++ (62 ∷ (inside ++ e))
holding_split t inside e = simp append_assoc

root_of : (x : ℕ) (tail : List ℕ) → sound.StartTag 0 x tail → RootEnd (x ∷ tail)
root_of x tail t = elim (sound.ending_is t.ending) [
  | inr e ↦
      let goes : accepts places.End 0 t.rest ≡ true = subst (λ k. sound.ending_goes k 0 t.rest) e t.goes in
      let over = nothing_left t.rest goes in
      record {
        root = lone t.tag;
        is = t.is;
        text = ap (λ l. tag_rest t.tag ++ (47 ∷ 62 ∷ l)) (sym over) ∙ ap (λ k. tag_rest t.tag ++ (sound.ending_text k ++ t.rest)) (sym e) ∙ t.text;
      }
  | inl e ↦
      let goes : accepts places.Content (0 + 1) t.rest ≡ true = subst (λ k. sound.ending_goes k 0 t.rest) e t.goes in
      let c = sound.content_end (length t.rest) 0 t.rest (omega arith) goes in
      let over = nothing_left c.rest c.goes in
      record {
        root = holding t.tag c.content c.end;
        is = (t.is, c.is, c.closes);
        text = holding_split (tag_rest t.tag) (content_text c.content) (end_text c.end)
            ∙ ap (λ l. tag_rest t.tag ++ (62 ∷ (content_text c.content ++ l))) (sym (append-nil (end_text c.end)) ∙ ap (λ l. end_text c.end ++ l) (sym over))
            ∙ ap (λ l. tag_rest t.tag ++ (62 ∷ l)) c.text
            ∙ ap (λ k. tag_rest t.tag ++ (sound.ending_text k ++ t.rest)) (sym e) ∙ t.text;
      }
]

open_root : (bytes : List ℕ) → accepts places.Open 0 bytes ≡ true → RootEnd bytes
open_root [] h = absurd (sound.nothing places.Open 0 refl h)
open_root (x ∷ tail) h = elim (cases_Bool (x == 47)) [
  | inl slash ↦ absurd (sound.stuck places.Open 0 x tail (rw slash) h)
  | inr other ↦
      let o = sound.only (is_name_start x) places.Open places.Name 0 0 x tail (no (x == 47) None (to_if (is_name_start x) places.Name 0) other) h in
      root_of x tail (sound.start_tag 0 x tail o.0 o.1)
]

-- ---- the document

record PrologEnd (bytes : List ℕ) : Type 0 where
  gap : List ℕ
  root : Root
  blanks : AreBlanks gap
  is : IsRoot root
  text : gap ++ root_text root ≡ bytes

prolog_end : (bytes : List ℕ) → accepts places.Prolog 0 bytes ≡ true → PrologEnd bytes
prolog_end bytes h =
    let g = sound.split places.Prolog 0 is_blank (λ y p. sound.stay_blank places.Prolog 0 y (to_if (y == 60) places.Open 0) p) refl bytes h in
    let o = sound.only (g.head == 60) places.Prolog places.Open 0 0 g.head g.tail (no (is_blank g.head) (Some (places.Prolog, 0)) (to_if (g.head == 60) places.Open 0) g.other) g.goes in
    let r = open_root g.tail o.1 in
    record {
      gap = g.front;
      root = r.root;
      blanks = g.all;
      is = r.is;
      text = ap (λ l. g.front ++ l) (root_split r.root ∙ ap (λ l. 60 ∷ l) r.text ∙ ap (λ y. y ∷ g.tail) (sym (eqb-true g.head 60 o.0))) ∙ g.text;
    }

record_document : (d : Document) (bytes : List ℕ) → IsPlain d → document_text d ≡ bytes → IsDocument bytes
record_document d bytes is e = (d, record { plain = is; text = e })

question_close : {x : ℕ} → x ≡ 63 → (tail : List ℕ) → accepts places.DeclarationEnd 0 tail ≡ true → (x ≡ 63) × (rest : List ℕ) × (62 ∷ rest ≡ tail) × (accepts places.Prolog 0 rest ≡ true)
question_close e [] h = absurd (sound.nothing places.DeclarationEnd 0 refl h)
question_close e (y ∷ rest) h =
    let o = sound.only (y == 62) places.DeclarationEnd places.Prolog 0 0 y rest refl h in
    (e, rest, ap (λ z. z ∷ rest) (sym (eqb-true y 62 o.0)), o.1)

declaration_close : (x : ℕ) (tail : List ℕ) → is_declared x ≡ false → accepts places.Declaration 0 (x ∷ tail) ≡ true → (x ≡ 63) × (rest : List ℕ) × (62 ∷ rest ≡ tail) × (accepts places.Prolog 0 rest ≡ true)
declaration_close x tail other h = elim (cases_Bool (x == 63)) [
  | inr n ↦ absurd (sound.stuck places.Declaration 0 x tail (no (x == 63) (Some (places.DeclarationEnd, 0)) (to_if (is_declared x) places.Declaration 0) n ∙ no (is_declared x) (Some (places.Declaration, 0)) None other) h)
  | inl y ↦ question_close (eqb-true x 63 y) tail (sound.back places.Declaration places.DeclarationEnd 0 0 x tail (rw y) h)
]

question_end : (bytes : List ℕ) → accepts places.Question 0 bytes ≡ true → IsDocument (60 ∷ 63 ∷ bytes)
question_end [] h = absurd (sound.nothing places.Question 0 refl h)
question_end (a ∷ []) h = absurd (sound.nothing places.DeclarationX 0 refl (sound.only (a == 120) places.Question places.DeclarationX 0 0 a [] refl h).1)
question_end (a ∷ b ∷ []) h =
    let h1 = (sound.only (a == 120) places.Question places.DeclarationX 0 0 a (b ∷ []) refl h).1 in
    absurd (sound.nothing places.DeclarationM 0 refl (sound.only (b == 109) places.DeclarationX places.DeclarationM 0 0 b [] refl h1).1)
question_end (a ∷ b ∷ c ∷ []) h =
    let h1 = (sound.only (a == 120) places.Question places.DeclarationX 0 0 a (b ∷ c ∷ []) refl h).1 in
    let h2 = (sound.only (b == 109) places.DeclarationX places.DeclarationM 0 0 b (c ∷ []) refl h1).1 in
    absurd (sound.nothing places.DeclarationL 0 refl (sound.only (c == 108) places.DeclarationM places.DeclarationL 0 0 c [] refl h2).1)
question_end (a ∷ b ∷ c ∷ x ∷ tail) h =
    let o1 = sound.only (a == 120) places.Question places.DeclarationX 0 0 a (b ∷ c ∷ x ∷ tail) refl h in
    let o2 = sound.only (b == 109) places.DeclarationX places.DeclarationM 0 0 b (c ∷ x ∷ tail) refl o1.1 in
    let o3 = sound.only (c == 108) places.DeclarationM places.DeclarationL 0 0 c (x ∷ tail) refl o2.1 in
    let o4 = sound.only (is_blank x) places.DeclarationL places.Declaration 0 0 x tail refl o3.1 in
    let s = sound.split places.Declaration 0 is_declared (λ y p. no (y == 63) (Some (places.DeclarationEnd, 0)) (to_if (is_declared y) places.Declaration 0) (declared_not_63 y p) ∙ yes (is_declared y) (Some (places.Declaration, 0)) None p) refl tail o4.1 in
    let e = declaration_close s.head s.tail s.other s.goes in
    let p = prolog_end e.1 e.3 in
    let decl : Declaration = record { blank = x; body = s.front } in
    record_document (record { declaration = Some decl; gap = p.gap; root = p.root }) (60 ∷ 63 ∷ a ∷ b ∷ c ∷ x ∷ tail)
    (record { declaration = (o4.0, s.all); gap = p.blanks; root = p.is })
    (declaration_split x s.front p.gap (root_text p.root)
    ∙ ap (λ l. 60 ∷ 63 ∷ 120 ∷ 109 ∷ 108 ∷ x ∷ (s.front ++ (63 ∷ 62 ∷ l))) p.text
    ∙ ap (λ l. 60 ∷ 63 ∷ 120 ∷ 109 ∷ 108 ∷ x ∷ (s.front ++ (63 ∷ l))) e.2
    ∙ ap (λ z. 60 ∷ 63 ∷ 120 ∷ 109 ∷ 108 ∷ x ∷ (s.front ++ (z ∷ s.tail))) (sym e.0)
    ∙ ap (λ l. 60 ∷ 63 ∷ 120 ∷ 109 ∷ 108 ∷ x ∷ l) s.text
    ∙ ap (λ z. 60 ∷ 63 ∷ z ∷ 109 ∷ 108 ∷ x ∷ tail) (sym (eqb-true a 120 o1.0))
    ∙ ap (λ z. 60 ∷ 63 ∷ a ∷ z ∷ 108 ∷ x ∷ tail) (sym (eqb-true b 109 o2.0))
    ∙ ap (λ z. 60 ∷ 63 ∷ a ∷ b ∷ z ∷ x ∷ tail) (sym (eqb-true c 108 o3.0)))

first_end : (bytes : List ℕ) → accepts places.First 0 bytes ≡ true → IsDocument (60 ∷ bytes)
first_end [] h = absurd (sound.nothing places.First 0 refl h)
first_end (x ∷ tail) h = elim (cases_Bool (x == 63)) [
  | inl q ↦ subst (λ y. IsDocument (60 ∷ y ∷ tail)) (sym (eqb-true x 63 q)) (question_end tail (sound.back places.First places.Question 0 0 x tail (rw q) h))
  | inr other ↦
      let o = sound.only (is_name_start x) places.First places.Name 0 0 x tail (no (x == 63) (Some (places.Question, 0)) (to_if (is_name_start x) places.Name 0) other) h in
      let r = root_of x tail (sound.start_tag 0 x tail o.0 o.1) in
      record_document (record { declaration = None; gap = []; root = r.root }) (60 ∷ x ∷ tail) (record { declaration = tt; gap = refl; root = r.is }) (root_split r.root ∙ ap (λ l. 60 ∷ l) r.text)
]

pub document_end : (bytes : List ℕ) → accepts places.Start 0 bytes ≡ true → IsDocument bytes
document_end [] h = absurd (sound.nothing places.Start 0 refl h)
document_end (x ∷ tail) h = elim (cases_Bool (is_blank x)) [
  | inl blank ↦
      let goes = sound.back places.Start places.Prolog 0 0 x tail (rw blank) h in
      let again : accepts places.Prolog 0 (x ∷ tail) ≡ true = ap (λ o. accept_if o (λ q e. accepts q e tail)) (yes (is_blank x) (Some (places.Prolog, 0)) (to_if (x == 60) places.Open 0) blank) ∙ goes in
      let p = prolog_end (x ∷ tail) again in
      record_document (record { declaration = None; gap = p.gap; root = p.root }) (x ∷ tail) (record { declaration = tt; gap = p.blanks; root = p.is }) p.text
  | inr other ↦
      let o = sound.only (x == 60) places.Start places.First 0 0 x tail (no (is_blank x) (Some (places.Prolog, 0)) (to_if (x == 60) places.First 0) other) h in
      subst (λ y. IsDocument (y ∷ tail)) (sym (eqb-true x 60 o.0)) (first_end tail o.1)
]

-- Answers that polls find.
use Rattle.std.proofs.Common.{◌≡◌, ◌<◌, ◌≤◌, ◌+◌, ◌-◌, ℕ, zero, suc, Bool, true, false, List, [], ◌∷◌, ◌++◌, length, take, drop, nat_le, get_or, refl, ap, sym, ◌∙◌, arith, append-nil, subst, nat_eq}
use Rattle.std.proofs.lemmas.Bool.Decides.{nat_tests}
use Rattle.std.specs.List.{flat_map}
use Rattle.std.proofs.lemmas.Grind.{flat_map-append}
use Rattle.std.proofs.lemmas.List.{take_more}
use Rattle.line_outside.specs.Left.{left_of, starts_empty, is_none}
use Rattle.line_outside.specs.Store.{passed, own_answer, answers_of}
use Rattle.line_outside.specs.declared.answer.GotBytes.{GotBytes}
use Rattle.line_outside.specs.declared.answer.GotBytes.TheVariants as founds
use Rattle.line_outside.specs.declared.answer.PortAnswer.{PortAnswer}
use Rattle.line_outside.specs.declared.way.Way.{Way}

pub is_none-drop : (used : ℕ) (bytes : List ℕ) → nat_le (length bytes) used ≡ is_none (drop used bytes)
is_none-drop zero [] = refl
is_none-drop zero (byte ∷ bytes) = grind (arith, nat_tests)
is_none-drop (suc used) [] = grind (arith, nat_tests)
is_none-drop (suc used) (byte ∷ bytes) = leb-suc (length bytes) used ∙ is_none-drop used bytes
  where
    leb-suc : (m n : ℕ) → nat_le (suc m) (suc n) ≡ nat_le m n
    leb-suc m n = grind (arith, nat_tests)

-- no bytes of the first answer were given
pub left_of-0 : (answers : List GotBytes) → left_of 0 answers ≡ answers
left_of-0 [] = refl
left_of-0 (founds.Bytes bytes ∷ others) = refl
left_of-0 (found ∷ others) = refl

-- an answer that isn't empty bytes is not passed over
pub passed-full : (answers : List GotBytes) → false ≡ starts_empty answers → passed answers ≡ answers
passed-full [] full = refl
passed-full (founds.Bytes [] ∷ others) full = cc
passed-full (founds.Bytes (byte ∷ bytes) ∷ others) full = refl
passed-full (found ∷ others) full = refl

passed_bytes : (bytes : List ℕ) (others : List GotBytes) → true ≡ is_none bytes → passed (founds.Bytes bytes ∷ others) ≡ passed others
passed_bytes [] others empty = refl
passed_bytes (byte ∷ bytes) others empty = cc

-- and one that is, is
pub passed-empty : (answers : List GotBytes) (used : ℕ) → true ≡ starts_empty (left_of used answers) → passed (left_of 0 (drop 1 answers)) ≡ passed (left_of used answers)
passed-empty [] used empty = refl
passed-empty (founds.Bytes bytes ∷ others) used empty = ap passed (left_of-0 others) ∙ sym (passed_bytes (drop used bytes) others empty)
passed-empty (founds.Arrived ∷ others) used empty = cc
passed-empty (founds.Second ∷ others) used empty = cc
passed-empty (founds.NotYet ∷ others) used empty = cc
passed-empty (founds.Closed ∷ others) used empty = cc
passed-empty (founds.Failed ∷ others) used empty = cc

pub fewer : (answers : List GotBytes) (used : ℕ) → true ≡ starts_empty (left_of used answers) → length (drop 1 answers) < length answers
fewer [] used empty = cc
fewer (first ∷ answers) used empty = omega arith

pub starts_empty-first : (answers : List GotBytes) (bytes : List ℕ) (used : ℕ) → 0 < length answers → (let first : GotBytes = founds.Bytes bytes in first ≡ get_or answers 0 first) → nat_le (length bytes) used ≡ starts_empty (left_of used answers)
starts_empty-first [] bytes used some found = absurd (omega (arith, some))
starts_empty-first (first ∷ answers) bytes used some found =
    let P : GotBytes → Type 0 = λ f. nat_le (length bytes) used ≡ starts_empty (left_of used (f ∷ answers)) in
    subst P found (is_none-drop used bytes)

-- one answer more
pub answers_of-take : (way : Way) (answers : List PortAnswer) (i : ℕ) (answer : PortAnswer) → i < length answers → answer ≡ get_or answers i answer → answers_of way (take (i + 1) answers) ≡ answers_of way (take i answers) ++ own_answer way answer
answers_of-take way answers i answer inside found =
    ap (answers_of way) (take_more answers i answer inside) ∙ flat_map-append (own_answer way) (take i answers) (get_or answers i answer ∷ [])
    ∙ ap (λ one. answers_of way (take i answers) ++ one) (append-nil (own_answer way (get_or answers i answer)))
    ∙ ap (λ one. answers_of way (take i answers) ++ own_answer way one) (sym found)

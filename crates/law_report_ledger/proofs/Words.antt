-- A place word is read back: its number, and its lane.
use Rattle.std.proofs.Common.{◌≡◌, ◌∙◌, refl, sym, ap, subst, ℕ, ◌+◌, ◌<◌, ◌^◌, ◌==◌, Bool, true, false, not, List, [], ◌∷◌, ◌++◌, Option, Some, append_assoc, append-nil, arith, codes, decimal, drop, length, take, if◌then◌else◌}
use Rattle.std.specs.Char.{is_ascii_digit}
use Rattle.std.specs.List.{list_all}
use Rattle.std.proofs.Math.Seq.{drop-append-add, take-append_seam}
use Rattle.std.proofs.lemmas.Bool.{and_parts, eqb-true, not-true}
use Rattle.line_base.specs.Number.{behind_digits, front_digits, value_of}
use Rattle.line_base.proofs.Printable.{decimal_digits}
use Rattle.line_check.specs.Words.{cut_at_space, parts_at, space_from}
use Rattle.line_report.specs.Texts.{place_text}
use Rattle.machine_log.proofs.Solid.{is_solid, join, solid_decimal}
use Rattle.law_running_logs.proofs.LineTexts.{value_is}
use Rattle.law_report_ledger.specs.Places.{lane_from, lane_of, number_of}

-- ---- a word without a blank, and a blank behind it

step_on : (test : Bool) (place at : ℕ) (later : Option ℕ) → test ≡ false → later ≡ Some at
    → (if test then Some place else later) ≡ Some at
step_on true place at later off is = absurd (let h : true ≡ false = off in cc)
step_on false place at later off is = is

first_blank : (place : ℕ) (word rest : List ℕ) → list_all is_solid word ≡ true
    → space_from place (word ++ (32 ∷ rest)) ≡ Some (place + length word)
first_blank place [] rest solid = ap (λ (n : ℕ). Some n) (omega arith)
first_blank place (b ∷ word) rest solid =
    let parts = and_parts (is_solid b) (list_all is_solid word) solid in
    let byte = and_parts (not (b == 10)) (not (b == 32)) parts.0 in
    let far : place + 1 + length word ≡ place + length (b ∷ word) = omega arith in
    step_on (b == 32) place (place + length (b ∷ word))
    (space_from (place + 1) (word ++ (32 ∷ rest))) (not-true (b == 32) byte.1)
    (first_blank (place + 1) word rest parts.1 ∙ ap (λ (n : ℕ). Some n) far)

cut_word : (word rest : List ℕ) → list_all is_solid word ≡ true
    → cut_at_space (word ++ (32 ∷ rest)) ≡ Some (word, rest)
cut_word word rest solid =
    let whole : List ℕ = word ++ (32 ∷ rest) in
    let front : take (length word) whole ≡ word = take-append_seam word (32 ∷ rest) in
    let back : drop (length word + 1) whole ≡ rest = drop-append-add word (32 ∷ rest) 1 in
    ap (λ (o : Option ℕ). parts_at o whole)
    (first_blank 0 word rest solid ∙ ap (λ (n : ℕ). Some n) (omega arith))
    ∙ ap (λ (l : List ℕ). Some (l, drop (length word + 1) whole)) front
    ∙ ap (λ (l : List ℕ). Some (word, l)) back

-- with the blank at the end of the word's text
pub cut_solid : (word rest : List ℕ) → list_all is_solid word ≡ true
    → cut_at_space ((word ++ codes " ") ++ rest) ≡ Some (word, rest)
cut_solid word rest solid =
    ap cut_at_space (append_assoc word (codes " ") rest) ∙ cut_word word rest solid

-- ---- digits, and what stands behind them

digits_front : (word rest : List ℕ) → list_all is_ascii_digit word ≡ true
    → front_digits rest ≡ [] → front_digits (word ++ rest) ≡ word
digits_front [] rest all none = none
digits_front (c ∷ word) rest all none =
    let parts = and_parts (is_ascii_digit c) (list_all is_ascii_digit word) all in
    ap (λ (b : Bool). if b then c ∷ front_digits (word ++ rest) else []) parts.0
    ∙ ap (λ (l : List ℕ). c ∷ l) (digits_front word rest parts.1 none)

digits_behind : (word rest : List ℕ) → list_all is_ascii_digit word ≡ true
    → behind_digits rest ≡ rest → behind_digits (word ++ rest) ≡ rest
digits_behind [] rest all same = same
digits_behind (c ∷ word) rest all same =
    let parts = and_parts (is_ascii_digit c) (list_all is_ascii_digit word) all in
    ap (λ (b : Bool). if b then behind_digits (word ++ rest) else c ∷ (word ++ rest)) parts.0
    ∙ digits_behind word rest parts.1 same

-- ---- PLACE WORDS

pub record IsWordOf (lane number : ℕ) (word : List ℕ) : Type 0 where
  pub number_is : number_of word ≡ number
  pub lane_is : lane_of word ≡ lane
  pub solid : list_all is_solid word ≡ true

-- digits, and a rest that begins with none
word_with : (lane number : ℕ) (rest : List ℕ) → number < 2 ^ 32 → front_digits rest ≡ []
    → behind_digits rest ≡ rest → lane_from rest ≡ lane → list_all is_solid rest ≡ true
    → IsWordOf lane number (decimal number ++ rest)
word_with lane number rest small none same is solid =
    let digits = decimal_digits number (omega (arith, small)) in
    record {
      number_is = ap value_of (digits_front (decimal number) rest digits none)
          ∙ value_is number (omega (arith, small));
      lane_is = ap lane_from (digits_behind (decimal number) rest digits same) ∙ is;
      solid = join is_solid (decimal number) rest (solid_decimal number) solid;
    }

first_word : (lane number : ℕ) → number < 2 ^ 32 → 1 ≡ lane
    → IsWordOf lane number (decimal number)
first_word lane number small is =
    subst (λ (l : List ℕ). IsWordOf lane number l) (append-nil (decimal number))
    (word_with lane number [] small refl refl is refl)

later_word : (lane number : ℕ) → lane < 2 ^ 32 → number < 2 ^ 32
    → IsWordOf lane number (decimal number ++ codes "." ++ decimal lane)
later_word lane number few small =
    subst (λ (l : List ℕ). IsWordOf lane number l)
    (sym (append_assoc (decimal number) (codes ".") (decimal lane)))
    (word_with lane number (codes "." ++ decimal lane) small refl refl
    (value_is lane (omega (arith, few)))
    (join is_solid (codes ".") (decimal lane) refl (solid_decimal lane)))

pub place_word : (lane number : ℕ) → lane < 2 ^ 32 → number < 2 ^ 32
    → IsWordOf lane number (place_text lane number)
place_word lane number few small = by (lane == 1) refl where
  by : (first : Bool) → (lane == 1) ≡ first
      → IsWordOf lane number (if first then decimal number else decimal number ++ codes "." ++ decimal lane)
  by true is = first_word lane number small (sym (eqb-true lane 1 is))
  by false is = later_word lane number few small

pub solid_place : (lane number : ℕ) → list_all is_solid (place_text lane number) ≡ true
solid_place lane number = by (lane == 1) where
  by : (first : Bool)
      → list_all is_solid (if first then decimal number else decimal number ++ codes "." ++ decimal lane) ≡ true
  by true = solid_decimal number
  by false =
      join is_solid (decimal number ++ codes ".") (decimal lane)
      (join is_solid (decimal number) (codes ".") (solid_decimal number) refl) (solid_decimal lane)

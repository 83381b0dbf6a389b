-- Texts within a line have no end of a line in them, and numbers, ids and names no blank either.
use Rattle.std.proofs.Common.{◌≡◌, ◌∙◌, refl, ℕ, zero, suc, ◌+◌, ◌/◌, ◌%◌, ◌<◌, ◌==◌, ◌&&◌, Bool, true, false, not, cond, ltb, List, [], ◌∷◌, ◌++◌, arith, decimal}
use Rattle.std.proofs.lemmas.Bool.{and_from, and_parts, lt-ltb}
use Rattle.std.proofs.lemmas.Bool.Decides.{nat_tests}
use Rattle.std.proofs.lemmas.List.Folds.{list_all-append}
use Rattle.std.specs.List.{list_all}
use Rattle.std.specs.Fmt.{digit_glyph, digits_onto, digits}
use Rattle.line_base.specs.Name.{IsName, is_name_start, is_name_byte}
use Rattle.board_record.specs.BoardId.{id_text}
use Rattle.board_record.proofs.IdTexts.{is_id_byte, id_bytes}

-- no end of a line
abbrev pub is_inner : ℕ → Bool
is_inner b = not (b == 10)

-- and no blank
abbrev pub is_solid : ℕ → Bool
is_solid b = not (b == 10) && not (b == 32)

pub join : (p : ℕ → Bool) (a b : List ℕ) → list_all p a ≡ true → list_all p b ≡ true → list_all p (a ++ b) ≡ true
join p a b one other = list_all-append p a b ∙ and_from (list_all p a) (list_all p b) one other

pub inner_from : (bytes : List ℕ) → list_all is_solid bytes ≡ true → list_all is_inner bytes ≡ true
inner_from [] h = refl
inner_from (b ∷ bs) h =
    let parts = and_parts (is_solid b) (list_all is_solid bs) h in
    let byte = and_parts (not (b == 10)) (not (b == 32)) parts.0 in
    and_from (is_inner b) (list_all is_inner bs) byte.0 (inner_from bs parts.1)

-- ---- numbers

solid_digit : (d : ℕ) → d < 10 → is_solid (48 + d) ≡ true
solid_digit d small = grind (arith, nat_tests)

glyph : (t : Bool) (d : ℕ) → d < 10 → t ≡ true → is_solid (cond t (48 + d) (87 + d)) ≡ true
glyph true d small e = solid_digit d small
glyph false d small e = cc

onto_solid : (k n : ℕ) (acc : List ℕ) → list_all is_solid acc ≡ true → list_all is_solid (digits_onto k 10 false n acc) ≡ true
onto_solid zero n acc h = h
onto_solid (suc k) n acc h = either (n / 10 == 0) (digit_glyph false (n % 10) ∷ acc) (digits_onto k 10 false (n / 10) (digit_glyph false (n % 10) ∷ acc)) more (onto_solid k (n / 10) (digit_glyph false (n % 10) ∷ acc) more)
  where
    small : n % 10 < 10
    small = omega arith

    more : list_all is_solid (digit_glyph false (n % 10) ∷ acc) ≡ true
    more = and_from (is_solid (digit_glyph false (n % 10))) (list_all is_solid acc) (glyph (ltb (n % 10) 10) (n % 10) small (lt-ltb (n % 10) 10 small)) h

    either : (t : Bool) (xs ys : List ℕ) → list_all is_solid xs ≡ true → list_all is_solid ys ≡ true → list_all is_solid (cond t xs ys) ≡ true
    either true xs ys p q = p
    either false xs ys p q = q

pub solid_decimal : (n : ℕ) → list_all is_solid (decimal n) ≡ true
unfolding digits
solid_decimal n = onto_solid 64 n [] refl

pub inner_decimal : (n : ℕ) → list_all is_inner (decimal n) ≡ true
inner_decimal n = inner_from (decimal n) (solid_decimal n)

-- ---- ids

solid_id_byte : (b : ℕ) → is_id_byte b ≡ true → is_solid b ≡ true
solid_id_byte b h = grind (arith, nat_tests)

solid_id_bytes : (bytes : List ℕ) → list_all is_id_byte bytes ≡ true → list_all is_solid bytes ≡ true
solid_id_bytes [] h = refl
solid_id_bytes (b ∷ bs) h =
    let parts = and_parts (is_id_byte b) (list_all is_id_byte bs) h in
    and_from (is_solid b) (list_all is_solid bs) (solid_id_byte b parts.0) (solid_id_bytes bs parts.1)

pub solid_id : (id : ℕ) → list_all is_solid (id_text id) ≡ true
solid_id id = solid_id_bytes (id_text id) (id_bytes id)

pub inner_id : (id : ℕ) → list_all is_inner (id_text id) ≡ true
inner_id id = inner_from (id_text id) (solid_id id)

-- ---- names

solid_start : (b : ℕ) → is_name_start b ≡ true → is_solid b ≡ true
solid_start b h = grind (arith, nat_tests)

solid_name_byte : (b : ℕ) → is_name_byte b ≡ true → is_solid b ≡ true
solid_name_byte b h = grind (arith, nat_tests)

solid_name_bytes : (bytes : List ℕ) → list_all is_name_byte bytes ≡ true → list_all is_solid bytes ≡ true
solid_name_bytes [] h = refl
solid_name_bytes (b ∷ bs) h =
    let parts = and_parts (is_name_byte b) (list_all is_name_byte bs) h in
    and_from (is_solid b) (list_all is_solid bs) (solid_name_byte b parts.0) (solid_name_bytes bs parts.1)

pub inner_name : (name : List ℕ) → IsName name → list_all is_inner name ≡ true
inner_name [] h = refl
inner_name (b ∷ bs) h =
    let parts = and_parts (is_name_start b) (list_all is_name_byte bs) h in
    inner_from (b ∷ bs) (and_from (is_solid b) (list_all is_solid bs) (solid_start b parts.0) (solid_name_bytes bs parts.1))

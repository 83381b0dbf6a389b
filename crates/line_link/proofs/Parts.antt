-- Texts that stand in a block of bytes: what adding, taking and putting in does to them.
use Rattle.std.proofs.Common.{◌≡◌, refl, sym, ◌∙◌, ap, subst, arith, zero, suc, ℕ, ◌+◌, ◌-◌, ◌<◌, ◌≤◌, true, List, [], ◌∷◌, ◌++◌, drop, get_or, insert, length, nat_lt, set, take, lt-ltb, ltb-true}
use Rattle.std.proofs.lemmas.List.{append-nil, drop-append-le, drop-drop, drop-take, length-append, length-drop, length-take-le, nil_from_length, take-append-drop, take-append-le, take_all}
use Rattle.std.specs.List.{list_all}
use Rattle.std.proofs.lemmas.Bool.{and_parts, and_from}
use Rattle.line_link.specs.Texts.{bytes_of, is_filled, with_byte_at, with_byte_in_first}
use Rattle.line_link.specs.Parts.{IsCutUp, parts, total}

-- the bytes of the parts are the bytes
pub bytes_of-parts : (lengths bytes : List ℕ) → total lengths ≡ length bytes → bytes_of (parts lengths bytes) ≡ bytes
bytes_of-parts [] bytes whole = sym (nil_from_length bytes (sym whole))
bytes_of-parts (count ∷ lengths) bytes whole =
    let rest : total lengths ≡ length (drop count bytes) = omega (arith, length-drop count bytes) in
    ap (λ (l : List ℕ). take count bytes ++ l) (bytes_of-parts lengths (drop count bytes) rest) ∙ take-append-drop count bytes

-- a text behind the others is a part more
pub parts-append : (lengths bytes text : List ℕ) → total lengths ≡ length bytes → parts (lengths ++ length text ∷ []) (bytes ++ text) ≡ parts lengths bytes ++ text ∷ []
parts-append [] bytes text whole =
    let none : bytes ≡ [] = nil_from_length bytes (sym whole) in
    rw (none, take_all (length text) text (omega arith)) refl
parts-append (count ∷ lengths) bytes text whole =
    let within : count ≤ length bytes = omega arith in
    let rest : total lengths ≡ length (drop count bytes) = omega (arith, length-drop count bytes) in
    ap (λ (l : List ℕ). l ∷ parts (lengths ++ length text ∷ []) (drop count (bytes ++ text))) (take-append-le count bytes text within)
    ∙ ap (λ (l : List ℕ). take count bytes ∷ parts (lengths ++ length text ∷ []) l) (drop-append-le count bytes text within)
    ∙ ap (λ (l : List (List ℕ)). take count bytes ∷ l) (parts-append lengths (drop count bytes) text rest)

total-append : (lengths : List ℕ) (count : ℕ) → total (lengths ++ count ∷ []) ≡ total lengths + count
total-append [] count = omega arith
total-append (first ∷ lengths) count = omega (arith, total-append lengths count)

filled-append : (lengths : List ℕ) (count : ℕ) → 0 < count → list_all (nat_lt 0) lengths ≡ true → list_all (nat_lt 0) (lengths ++ count ∷ []) ≡ true
filled-append [] count some filled = rw (lt-ltb 0 count some) refl
filled-append (first ∷ lengths) count some filled = and_from (nat_lt 0 first) (list_all (nat_lt 0) (lengths ++ count ∷ [])) (and_parts (nat_lt 0 first) (list_all (nat_lt 0) lengths) filled).0 (filled-append lengths count some (and_parts (nat_lt 0 first) (list_all (nat_lt 0) lengths) filled).1)

-- what is cut up, with a text more
pub cut-append : (start : ℕ) (lengths bytes text : List ℕ) → 0 < length text → IsCutUp start lengths bytes → IsCutUp start (lengths ++ length text ∷ []) (bytes ++ text)
cut-append start lengths bytes text some cut = record {
  whole = omega (arith, total-append lengths (length text), length-append bytes text, cut.whole);
  filled = filled-append lengths (length text) some cut.filled;
}

-- the bytes from the start on are as many as the lengths say
pub cut_rest : (start : ℕ) (lengths bytes : List ℕ) → IsCutUp start lengths bytes → total lengths ≡ length (drop start bytes)
cut_rest start lengths bytes cut = omega (arith, length-drop start bytes, cut.whole)

pub texts-append : (start : ℕ) (lengths bytes text : List ℕ) → IsCutUp start lengths bytes
    → parts (lengths ++ length text ∷ []) (drop start (bytes ++ text)) ≡ parts lengths (drop start bytes) ++ text ∷ []
texts-append start lengths bytes text cut =
    let within : start ≤ length bytes = omega (arith, cut.whole) in
    ap (λ (l : List ℕ). parts (lengths ++ length text ∷ []) l) (drop-append-le start bytes text within)
    ∙ parts-append lengths (drop start bytes) text (cut_rest start lengths bytes cut)

-- all bytes of the texts are those from the start on
pub bytes_of-texts : (start : ℕ) (lengths bytes : List ℕ) → IsCutUp start lengths bytes → bytes_of (parts lengths (drop start bytes)) ≡ drop start bytes
bytes_of-texts start lengths bytes cut = bytes_of-parts lengths (drop start bytes) (cut_rest start lengths bytes cut)

filled_part : (count : ℕ) (bytes : List ℕ) → nat_lt 0 count ≡ true → count ≤ length bytes → is_filled (take count bytes) ≡ true
filled_part zero bytes some within = absurd (let h : 0 < 0 = ltb-true 0 0 some in omega arith)
filled_part (suc count) [] some within = absurd (omega arith)
filled_part (suc count) (byte ∷ bytes) some within = refl

filled_parts : (lengths bytes : List ℕ) → total lengths ≡ length bytes → list_all (nat_lt 0) lengths ≡ true → list_all is_filled (parts lengths bytes) ≡ true
filled_parts [] bytes whole filled = refl
filled_parts (count ∷ lengths) bytes whole filled =
    let rest : total lengths ≡ length (drop count bytes) = omega (arith, length-drop count bytes) in
    and_from (is_filled (take count bytes)) (list_all is_filled (parts lengths (drop count bytes)))
    (filled_part count bytes (and_parts (nat_lt 0 count) (list_all (nat_lt 0) lengths) filled).0 (omega arith))
    (filled_parts lengths (drop count bytes) rest (and_parts (nat_lt 0 count) (list_all (nat_lt 0) lengths) filled).1)

-- no text is empty
pub filled_texts : (start : ℕ) (lengths bytes : List ℕ) → IsCutUp start lengths bytes → list_all is_filled (parts lengths (drop start bytes)) ≡ true
filled_texts start lengths bytes cut = filled_parts lengths (drop start bytes) (cut_rest start lengths bytes cut) cut.filled

-- the block with a text more
pub pushed : (start : ℕ) (lengths bytes text more longer : List ℕ) (was : List (List ℕ)) → IsCutUp start lengths bytes → more ≡ lengths ++ length text ∷ [] → longer ≡ bytes ++ text
    → parts lengths (drop start bytes) ≡ was → parts more (drop start longer) ≡ was ++ text ∷ []
pushed start lengths bytes text more longer was cut is_more is_longer view =
    ap (λ (l : List ℕ). parts l (drop start longer)) is_more
    ∙ ap (λ (l : List ℕ). parts (lengths ++ length text ∷ []) (drop start l)) is_longer
    ∙ texts-append start lengths bytes text cut
    ∙ ap (λ (l : List (List ℕ)). l ++ text ∷ []) view

-- a byte put into bytes from a place on
drop-insert : (start at byte : ℕ) (bytes : List ℕ) → start + at ≤ length bytes → drop start (insert bytes (start + at) byte) ≡ take at (drop start bytes) ++ byte ∷ drop at (drop start bytes)
drop-insert start at byte bytes within =
    let fits : start ≤ length (take (start + at) bytes) = omega (arith, length-take-le (start + at) bytes within) in
    drop-append-le start (take (start + at) bytes) (byte ∷ drop (start + at) bytes) fits
    ∙ ap (λ (l : List ℕ). l ++ byte ∷ drop (start + at) bytes) (drop-take start at bytes)
    ∙ ap (λ (l : List ℕ). take at (drop start bytes) ++ byte ∷ l) (sym (drop-drop at start bytes))

-- the front and the rest of bytes with one more, where it is put into the front
take-insert : (at more byte : ℕ) (bytes : List ℕ) → at + more ≤ length bytes → take (at + more + 1) (take at bytes ++ byte ∷ drop at bytes) ≡ with_byte_at at byte (take (at + more) bytes)
take-insert zero more byte bytes within =
    let next : zero + more + 1 ≡ suc more = omega arith in
    let same : zero + more ≡ more = omega arith in
    rw (next, same) refl
take-insert (suc at) more byte [] within = absurd (omega arith)
take-insert (suc at) more byte (first ∷ bytes) within =
    let next : suc at + more + 1 ≡ suc (at + more + 1) = omega arith in
    let same : suc at + more ≡ suc (at + more) = omega arith in
    let inside : at + more ≤ length bytes = omega arith in
    rw (next, same) (ap (λ (l : List ℕ). first ∷ l) (take-insert at more byte bytes inside))

rest-insert : (at more byte : ℕ) (bytes : List ℕ) → at + more ≤ length bytes → drop (at + more + 1) (take at bytes ++ byte ∷ drop at bytes) ≡ drop (at + more) bytes
rest-insert zero more byte bytes within =
    let next : zero + more + 1 ≡ suc more = omega arith in
    let same : zero + more ≡ more = omega arith in
    rw (next, same) refl
rest-insert (suc at) more byte [] within = absurd (omega arith)
rest-insert (suc at) more byte (first ∷ bytes) within =
    let next : suc at + more + 1 ≡ suc (at + more + 1) = omega arith in
    let same : suc at + more ≡ suc (at + more) = omega arith in
    let inside : at + more ≤ length bytes = omega arith in
    rw (next, same) (rest-insert at more byte bytes inside)

-- the block with a byte put into the first text
pub put_in : (start at byte count : ℕ) (lengths bytes longer : List ℕ) (was : List (List ℕ)) → IsCutUp start lengths bytes → longer ≡ insert bytes (start + at) byte
    → parts lengths (drop start bytes) ≡ was → 0 < length was → at ≤ length (bytes_of (take 1 was)) → count ≡ get_or lengths 0 count
    → parts (set lengths 0 (count + 1)) (drop start longer) ≡ with_byte_in_first at byte was
put_in start at byte count [] bytes longer was cut is_longer view some within is = absurd (let h : length was ≡ 0 = ap length (sym view) in omega arith)
put_in start at byte count (first ∷ lengths) bytes longer was cut is_longer view some within is =
    let rest = drop start bytes in
    let bound : first ≤ length rest = omega (arith, length-drop start bytes, cut.whole) in
    let size : length (bytes_of (take 1 was)) ≡ first =
    ap (λ (l : List (List ℕ)). length (bytes_of (take 1 l))) (sym view) ∙ ap length (append-nil (take first rest)) ∙ length-take-le first rest bound in
    let sums : at + (first - at) ≡ first = omega arith in
    let next : count + 1 ≡ at + (first - at) + 1 = omega arith in
    let inside : at + (first - at) ≤ length rest = omega arith in
    let fits : start + at ≤ length bytes = omega (arith, cut.whole) in
    let bytes_are : drop start longer ≡ take at rest ++ byte ∷ drop at rest = ap (λ (l : List ℕ). drop start l) is_longer ∙ drop-insert start at byte bytes fits in
    ap (λ (l : List ℕ). parts ((count + 1) ∷ lengths) l) bytes_are
    ∙ ap (λ (n : ℕ). parts (n ∷ lengths) (take at rest ++ byte ∷ drop at rest)) next
    ∙ ap (λ (l : List ℕ). l ∷ parts lengths (drop (at + (first - at) + 1) (take at rest ++ byte ∷ drop at rest))) (take-insert at (first - at) byte rest inside)
    ∙ ap (λ (l : List ℕ). with_byte_at at byte (take (at + (first - at)) rest) ∷ parts lengths l) (rest-insert at (first - at) byte rest inside)
    ∙ ap (λ (n : ℕ). with_byte_at at byte (take n rest) ∷ parts lengths (drop n rest)) sums
    ∙ ap (λ (l : List (List ℕ)). with_byte_in_first at byte l) view

pub cut_pushed : (start : ℕ) (lengths bytes text more longer : List ℕ) → 0 < length text → IsCutUp start lengths bytes → more ≡ lengths ++ length text ∷ [] → longer ≡ bytes ++ text → IsCutUp start more longer
cut_pushed start lengths bytes text more longer some cut is_more is_longer =
    let P : List ℕ → Type 0 = λ (l : List ℕ). IsCutUp start l longer in
    let Q : List ℕ → Type 0 = λ (l : List ℕ). IsCutUp start (lengths ++ length text ∷ []) l in
    subst P (sym is_more) (subst Q (sym is_longer) (cut-append start lengths bytes text some cut))

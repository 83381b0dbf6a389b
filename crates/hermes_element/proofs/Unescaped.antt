-- A value in which nothing is escaped is written as it is.
use Rattle.std.proofs.Common.{◌≡◌, ℕ, ◌==◌, ◌||◌, Bool, true, false, not, cond, List, [], ◌∷◌, ◌++◌, codes, refl, ap, ◌∙◌}
use Rattle.std.proofs.Math.Bool.{and-false}
use Rattle.std.proofs.lemmas.Bool.{and_parts}
use Rattle.std.proofs.lemmas.Slice.Eq.{bytes_eq-Decides}
use Rattle.std.specs.List.{flat_map, list_all}
use Rattle.std.specs.Str.{bytes_eq}
use Rattle.hermes_element.specs.Canonical.{escaped_byte, is_unescaped}

-- the choice of `escaped_byte`, over its tests
chosen : (a b c d e f g : Bool) (byte : ℕ)
    → bytes_eq (cond a (codes "&amp;") (cond b (codes "&lt;") (cond c (codes "&gt;") (cond d (codes "&quot;") (cond e (codes "&#10;") (cond f (codes "&#13;") (cond g (codes "&#9;") (byte ∷ [])))))))) (byte ∷ [])
    ≡ not (a || b || c || d || e || f || g)
chosen true b c d e f g byte = and-false (38 == byte)
chosen false true c d e f g byte = and-false (38 == byte)
chosen false false true d e f g byte = and-false (38 == byte)
chosen false false false true e f g byte = and-false (38 == byte)
chosen false false false false true f g byte = and-false (38 == byte)
chosen false false false false false true g byte = and-false (38 == byte)
chosen false false false false false false true byte = and-false (38 == byte)
chosen false false false false false false false byte = (bytes_eq-Decides (byte ∷ []) (byte ∷ [])).1 refl

-- a byte is written as itself where it is none of seven
pub unescaped_test : (b : ℕ) → is_unescaped b ≡ not (b == 38 || b == 60 || b == 62 || b == 34 || b == 10 || b == 13 || b == 9)
unescaped_test b = chosen (b == 38) (b == 60) (b == 62) (b == 34) (b == 10) (b == 13) (b == 9) b

pub unescaped : (bytes : List ℕ) → list_all is_unescaped bytes ≡ true → flat_map escaped_byte bytes ≡ bytes
unescaped [] h = refl
unescaped (b ∷ bs) h =
    let parts = and_parts (is_unescaped b) (list_all is_unescaped bs) h in
    ap (λ (front : List ℕ). front ++ flat_map escaped_byte bs) ((bytes_eq-Decides (escaped_byte b) (b ∷ [])).0 parts.0) ∙ ap (λ (back : List ℕ). b ∷ back) (unescaped bs parts.1)

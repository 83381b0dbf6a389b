-- From each place that the reading machine comes to, some bytes lead to the end of a document.
use Rattle.std.proofs.Common.{◌≡◌, ◌⊎◌, inl, inr, ℕ, zero, suc, ◌+◌, ◌-◌, ◌*◌, ◌/◌, ◌%◌, ◌<◌, ◌≤◌, Bool, true, false, cond, List, [], ◌∷◌, Option, Some, None, refl, ap, sym, ◌∙◌, arith, subst, max}
use Rattle.std.specs.Prelude.{◌==◌, ◌&&◌, nat_lt, nat_le}
use Rattle.std.proofs.lemmas.Bool.{cases_Bool, eq-eqb, ne_eqb, lt-ltb, ltb-true, eqb-false, and_parts}
use Rattle.std.proofs.lemmas.Bool.Decides.{nat_tests}
use Rattle.line_base.specs.Text.{is_allowed_char}
use Rattle.line_base.specs.Name.{is_name_start, is_name_byte}
use Rattle.hermes_element.specs.Plain.{is_blank, is_quote, is_letter, is_digit, is_hex_digit, is_declared}
use Rattle.hermes_element.specs.Machine.{Stand, step, to_if, step_tag, step_equals, step_end, step_value, step_escape, only_if, with_open, is_wide_begun, wide, wide_start, wide_next, after_element}
use Rattle.hermes_element.specs.declared.place.Place.{Place}
use Rattle.hermes_element.specs.declared.place.Place.TheVariants as places
use Rattle.hermes_element.proofs.Running.{yes, no}
use Rattle.hermes_element.proofs.Complete.{wide_goes, wide_ends, next_is, begun_0, begun_1, begun_2, small as within, exact}
use Rattle.hermes_element.proofs.Sound.{accepts, accept_if}

-- some bytes lead from the place to the end
abbrev Leads : Place → ℕ → Type 0
Leads place depth = (rest : List ℕ) × (accepts place depth rest ≡ true)

-- ---- closing what is open

abbrev closers : ℕ → List ℕ
closers zero = []
closers (suc n) = 60 ∷ 47 ∷ 97 ∷ 62 ∷ closers n

not_root : (n : ℕ) → after_element (suc n) ≡ places.Content
not_root n = no (suc n == 0) places.End places.Content (ne_eqb (suc n) 0 (λ e. omega arith))

closed : (n : ℕ) → accepts (after_element n) n (closers n) ≡ true
closed zero = refl
closed (suc n) =
    let deep : nat_lt 0 (suc n) ≡ true = lt-ltb 0 (suc n) (omega arith) in
    let less : suc n - 1 ≡ n = omega arith in
    ap (λ p. accepts p (suc n) (closers (suc n))) (not_root n)
    ∙ ap (λ o. accept_if o (λ q e. accepts q e (97 ∷ 62 ∷ closers n))) (yes (nat_lt 0 (suc n)) (Some (places.Close, suc n)) None deep)
    ∙ ap (λ k. accepts (after_element k) k (closers n)) less
    ∙ closed n

from_content : (d : ℕ) → 0 < d → Leads places.Content d
from_content zero h = absurd (omega arith)
from_content (suc n) h = (closers (suc n), ap (λ p. accepts p (suc n) (closers (suc n))) (sym (not_root n)) ∙ closed (suc n))

from_quoted : (d : ℕ) → accepts places.Quoted d (47 ∷ 62 ∷ closers d) ≡ true
from_quoted d = closed d

abbrev value_tail : ℕ → ℕ → List ℕ
value_tail q d = q ∷ 47 ∷ 62 ∷ closers d

from_value : (q d : ℕ) → accepts (places.Value q) d (value_tail q d) ≡ true
from_value q d =
    ap (λ o. accept_if (with_open d o) (λ p e. accepts p e (47 ∷ 62 ∷ closers d)))
    (yes (q == q) (Some places.Quoted) (cond (q == 38) (Some (places.Ampersand q)) (cond (q == 60) None (cond (nat_lt q 128) (cond (is_allowed_char q) (Some (places.Value q)) None) (wide_start q q)))) (eq-eqb q q refl))
    ∙ from_quoted d

-- ---- characters of several bytes

pub record WideLives (quote floor bits left : ℕ) : Type 0 where
  pub quoted : is_quote quote ≡ true
  pub begun : is_wide_begun floor bits left ≡ true
  pub some : 0 < left
  pub few : left < 4
  pub low : 128 ≤ floor
  pub floor_is : (floor ≤ 2048) ⊎ (floor ≡ 65536)

pub allowed_top : (c : ℕ) → is_allowed_char c ≡ true → c ≤ 1114111
allowed_top c h = grind (arith, nat_tests)

step_byte : (q d floor bits left x next : ℕ) (place : Place) (rest : List ℕ) → 128 ≤ x → x < 192 → bits < 131072 → bits * 64 + (x - 128) ≡ next → wide q floor next (left - 1) ≡ Some place
    → accepts place d rest ≡ true → accepts (places.Wide q floor bits left) d (x ∷ rest) ≡ true
step_byte q d floor bits left x next place rest low high fits e w h =
    ap (λ o. accept_if (with_open d o) (λ p k. accepts p k rest)) (next_is q floor bits left x next low high fits e ∙ w) ∙ h

from_wide_1 : (q d floor bits c : ℕ) → is_allowed_char c ≡ true → floor ≤ c → 128 ≤ floor → c / 64 ≡ bits → accepts (places.Wide q floor bits 1) d ((128 + c % 64) ∷ value_tail q d) ≡ true
from_wide_1 q d floor bits c h low some e =
    let top = allowed_top c h in
    step_byte q d floor bits 1 (128 + c % 64) c (places.Value q) (value_tail q d) (omega arith) (omega arith) (omega arith) (omega arith) (wide_ends q floor c (begun_0 floor c h low)) (from_value q d)

from_wide_2 : (q d floor bits c : ℕ) → is_allowed_char c ≡ true → floor ≤ c → 128 ≤ floor → (floor ≤ 2048) ⊎ (floor ≡ 65536) → c / 4096 ≡ bits
    → accepts (places.Wide q floor bits 2) d ((128 + c / 64 % 64) ∷ (128 + c % 64) ∷ value_tail q d) ≡ true
from_wide_2 q d floor bits c h low some is e =
    let top = allowed_top c h in
    step_byte q d floor bits 2 (128 + c / 64 % 64) (c / 64) (places.Wide q floor (c / 64) 1) ((128 + c % 64) ∷ value_tail q d) (omega (arith, top)) (omega (arith, top)) (omega (arith, top, e)) (omega (arith, top, e))
    (wide_goes q floor (c / 64) 1 (begun_1 floor c (c / 64) h some low is refl) (omega (arith, top))) (from_wide_1 q d floor (c / 64) c h low some refl)

from_wide_3 : (q d floor bits c : ℕ) → is_allowed_char c ≡ true → floor ≤ c → 128 ≤ floor → (floor ≤ 2048) ⊎ (floor ≡ 65536) → c / 262144 ≡ bits
    → accepts (places.Wide q floor bits 3) d ((128 + c / 4096 % 64) ∷ (128 + c / 64 % 64) ∷ (128 + c % 64) ∷ value_tail q d) ≡ true
from_wide_3 q d floor bits c h low some is e =
    let top = allowed_top c h in
    step_byte q d floor bits 3 (128 + c / 4096 % 64) (c / 4096) (places.Wide q floor (c / 4096) 2) ((128 + c / 64 % 64) ∷ (128 + c % 64) ∷ value_tail q d) (omega (arith, top)) (omega (arith, top)) (omega (arith, top, e)) (omega (arith, top, e))
    (wide_goes q floor (c / 4096) 2 (begun_2 floor c (c / 4096) h some low is refl) (omega (arith, top))) (from_wide_2 q d floor (c / 4096) c h low some is refl)

from_wide : (q d floor bits left : ℕ) → WideLives q floor bits left → Leads (places.Wide q floor bits left) d
from_wide q d floor bits zero w = absurd (omega (arith, w.some))
from_wide q d floor bits (suc zero) w =
    let both = and_parts (is_allowed_char (max floor (bits * 64))) (nat_lt (max floor (bits * 64)) ((bits + 1) * 64)) w.begun in
    let c = max floor (bits * 64) in
    let below : max floor (bits * 64) < (bits + 1) * 64 = ltb-true (max floor (bits * 64)) ((bits + 1) * 64) both.1 in
    ((128 + c % 64) ∷ value_tail q d, from_wide_1 q d floor bits c both.0 (omega arith) w.low (omega arith))
from_wide q d floor bits (suc (suc zero)) w =
    let both = and_parts (is_allowed_char (max floor (bits * 4096))) (nat_lt (max floor (bits * 4096)) ((bits + 1) * 4096)) w.begun in
    let c = max floor (bits * 4096) in
    let below : max floor (bits * 4096) < (bits + 1) * 4096 = ltb-true (max floor (bits * 4096)) ((bits + 1) * 4096) both.1 in
    ((128 + c / 64 % 64) ∷ (128 + c % 64) ∷ value_tail q d, from_wide_2 q d floor bits c both.0 (omega arith) w.low w.floor_is (omega arith))
from_wide q d floor bits (suc (suc (suc zero))) w =
    let both = and_parts (is_allowed_char (max floor (bits * 262144))) (nat_lt (max floor (bits * 262144)) ((bits + 1) * 262144)) w.begun in
    let c = max floor (bits * 262144) in
    let below : max floor (bits * 262144) < (bits + 1) * 262144 = ltb-true (max floor (bits * 262144)) ((bits + 1) * 262144) both.1 in
    ((128 + c / 4096 % 64) ∷ (128 + c / 64 % 64) ∷ (128 + c % 64) ∷ value_tail q d, from_wide_3 q d floor bits c both.0 (omega arith) w.low w.floor_is (omega arith))
from_wide q d floor bits (suc (suc (suc (suc left)))) w = absurd (omega (arith, w.few))

-- ---- the places that the machine comes to

abbrev pub Lives : Place → ℕ → Type 0
Lives places.Start d = d ≡ 0
Lives places.First d = d ≡ 0
Lives places.Question d = d ≡ 0
Lives places.DeclarationX d = d ≡ 0
Lives places.DeclarationM d = d ≡ 0
Lives places.DeclarationL d = d ≡ 0
Lives places.Declaration d = d ≡ 0
Lives places.DeclarationEnd d = d ≡ 0
Lives places.Prolog d = d ≡ 0
Lives (places.Value q) d = is_quote q ≡ true
Lives (places.Wide q floor bits left) d = WideLives q floor bits left
Lives (places.Ampersand q) d = is_quote q ≡ true
Lives (places.Letters q) d = is_quote q ≡ true
Lives (places.Hash q) d = is_quote q ≡ true
Lives (places.Digits q) d = is_quote q ≡ true
Lives (places.HexStart q) d = is_quote q ≡ true
Lives (places.HexDigits q) d = is_quote q ≡ true
Lives places.Content d = 0 < d
Lives places.Close d = 0 < d
Lives places.EndName d = 0 < d
Lives places.EndGap d = 0 < d
Lives _ d = Unit {0}

at_zero : (p : Place) (d : ℕ) (rest : List ℕ) → accepts p 0 rest ≡ true → d ≡ 0 → Leads p d
at_zero p d rest h e = (rest, ap (λ k. accepts p k rest) e ∙ h)

pub leads : (p : Place) (d : ℕ) → Lives p d → Leads p d
leads places.Start d h = at_zero places.Start d (60 ∷ 97 ∷ 47 ∷ 62 ∷ []) refl h
leads places.First d h = at_zero places.First d (97 ∷ 47 ∷ 62 ∷ []) refl h
leads places.Question d h = at_zero places.Question d (120 ∷ 109 ∷ 108 ∷ 32 ∷ 63 ∷ 62 ∷ 60 ∷ 97 ∷ 47 ∷ 62 ∷ []) refl h
leads places.DeclarationX d h = at_zero places.DeclarationX d (109 ∷ 108 ∷ 32 ∷ 63 ∷ 62 ∷ 60 ∷ 97 ∷ 47 ∷ 62 ∷ []) refl h
leads places.DeclarationM d h = at_zero places.DeclarationM d (108 ∷ 32 ∷ 63 ∷ 62 ∷ 60 ∷ 97 ∷ 47 ∷ 62 ∷ []) refl h
leads places.DeclarationL d h = at_zero places.DeclarationL d (32 ∷ 63 ∷ 62 ∷ 60 ∷ 97 ∷ 47 ∷ 62 ∷ []) refl h
leads places.Declaration d h = at_zero places.Declaration d (63 ∷ 62 ∷ 60 ∷ 97 ∷ 47 ∷ 62 ∷ []) refl h
leads places.DeclarationEnd d h = at_zero places.DeclarationEnd d (62 ∷ 60 ∷ 97 ∷ 47 ∷ 62 ∷ []) refl h
leads places.Prolog d h = at_zero places.Prolog d (60 ∷ 97 ∷ 47 ∷ 62 ∷ []) refl h
leads places.Open d h = (97 ∷ 47 ∷ 62 ∷ closers d, closed d)
leads places.Name d h = (47 ∷ 62 ∷ closers d, closed d)
leads places.Gap d h = (47 ∷ 62 ∷ closers d, closed d)
leads places.Key d h = (61 ∷ 34 ∷ value_tail 34 d, from_value 34 d)
leads places.Equals d h = (61 ∷ 34 ∷ value_tail 34 d, from_value 34 d)
leads places.Before d h = (34 ∷ value_tail 34 d, from_value 34 d)
leads (places.Value q) d h = (value_tail q d, from_value q d)
leads (places.Wide q floor bits left) d h = from_wide q d floor bits left h
leads (places.Ampersand q) d h = (97 ∷ 59 ∷ value_tail q d, from_value q d)
leads (places.Letters q) d h = (59 ∷ value_tail q d, from_value q d)
leads (places.Hash q) d h = (48 ∷ 59 ∷ value_tail q d, from_value q d)
leads (places.Digits q) d h = (59 ∷ value_tail q d, from_value q d)
leads (places.HexStart q) d h = (48 ∷ 59 ∷ value_tail q d, from_value q d)
leads (places.HexDigits q) d h = (59 ∷ value_tail q d, from_value q d)
leads places.Quoted d h = (47 ∷ 62 ∷ closers d, closed d)
leads places.Slash d h = (62 ∷ closers d, closed d)
leads places.Content d h = from_content d h
leads places.Close d h = (97 ∷ 62 ∷ closers (d - 1), closed (d - 1))
leads places.EndName d h = (62 ∷ closers (d - 1), closed (d - 1))
leads places.EndGap d h = (62 ∷ closers (d - 1), closed (d - 1))
leads places.End d h = ([], refl)

-- ---- and it comes to no others

abbrev pub AllLive : Option Stand → Type 0
AllLive None = Unit {0}
AllLive (Some to) = Lives to.0 to.1

choice : (t : Bool) (x y : Option Stand) → (t ≡ true → AllLive x) → AllLive y → AllLive (cond t x y)
choice true x y a b = a refl
choice false x y a b = b

live_after : (d : ℕ) → Lives (after_element d) d
live_after zero = tt
live_after (suc n) = subst (λ p. Lives p (suc n)) (sym (not_root n)) (omega arith)

live_tag : (d b : ℕ) → AllLive (step_tag d b)
live_tag d b = choice (is_blank b) (Some (places.Gap, d)) (cond (b == 47) (Some (places.Slash, d)) (cond (b == 62) (Some (places.Content, d + 1)) None)) (λ _. tt)
    (choice (b == 47) (Some (places.Slash, d)) (cond (b == 62) (Some (places.Content, d + 1)) None) (λ _. tt) (choice (b == 62) (Some (places.Content, d + 1)) None (λ _. omega arith) tt))

live_equals : (d b : ℕ) → AllLive (step_equals d b)
live_equals d b = choice (is_blank b) (Some (places.Equals, d)) (cond (b == 61) (Some (places.Before, d)) None) (λ _. tt) (choice (b == 61) (Some (places.Before, d)) None (λ _. tt) tt)

live_end : (d b : ℕ) → 0 < d → AllLive (step_end d b)
live_end d b h = choice (is_blank b) (Some (places.EndGap, d)) (cond (b == 62) (Some (after_element (d - 1), d - 1)) None) (λ _. h) (choice (b == 62) (Some (after_element (d - 1), d - 1)) None (λ _. live_after (d - 1)) tt)

-- places in values keep the depth
abbrev Live1 : ℕ → Option Place → Type 0
Live1 d None = Unit {0}
Live1 d (Some p) = Lives p d

live_open : (d : ℕ) (o : Option Place) → Live1 d o → AllLive (with_open d o)
live_open d None h = tt
live_open d (Some p) h = h

choice1 : (d : ℕ) (t : Bool) (x y : Option Place) → (t ≡ true → Live1 d x) → Live1 d y → Live1 d (cond t x y)
choice1 d true x y a b = a refl
choice1 d false x y a b = b

live_wide : (d q floor bits left : ℕ) → is_quote q ≡ true → left < 4 → 128 ≤ floor → (floor ≤ 2048) ⊎ (floor ≡ 65536) → Live1 d (wide q floor bits left)
live_wide d q floor bits left is few low small =
    choice1 d (is_wide_begun floor bits left) (Some (cond (left == 0) (places.Value q) (places.Wide q floor bits left))) None
    (λ begun. elim (cases_Bool (left == 0)) [
      | inl z ↦ subst (λ p. Lives p d) (sym (yes (left == 0) (places.Value q) (places.Wide q floor bits left) z)) is
      | inr n ↦ subst (λ p. Lives p d) (sym (no (left == 0) (places.Value q) (places.Wide q floor bits left) n))
          (record { quoted = is; begun = begun; some = (let ne = eqb-false left 0 n in omega (arith, ne)); few = few; low = low; floor_is = small })
    ])
    tt

live_start : (d q b : ℕ) → is_quote q ≡ true → Live1 d (wide_start q b)
live_start d q b is = choice1 d (nat_lt b 192) None (cond (nat_lt b 224) (wide q 128 (b - 192) 1) (cond (nat_lt b 240) (wide q 2048 (b - 224) 2) (wide q 65536 (b - 240) 3))) (λ _. tt)
    (choice1 d (nat_lt b 224) (wide q 128 (b - 192) 1) (cond (nat_lt b 240) (wide q 2048 (b - 224) 2) (wide q 65536 (b - 240) 3)) (λ _. live_wide d q 128 (b - 192) 1 is (omega arith) (omega arith) (within 128 (omega arith)))
    (choice1 d (nat_lt b 240) (wide q 2048 (b - 224) 2) (wide q 65536 (b - 240) 3) (λ _. live_wide d q 2048 (b - 224) 2 is (omega arith) (omega arith) (within 2048 (omega arith)))
    (live_wide d q 65536 (b - 240) 3 is (omega arith) (omega arith) (exact 65536 refl))))

live_value : (d q b : ℕ) → is_quote q ≡ true → Live1 d (step_value q b)
live_value d q b is = choice1 d (b == q) (Some places.Quoted) (cond (b == 38) (Some (places.Ampersand q)) (cond (b == 60) None (cond (nat_lt b 128) (cond (is_allowed_char b) (Some (places.Value q)) None) (wide_start q b)))) (λ _. tt)
    (choice1 d (b == 38) (Some (places.Ampersand q)) (cond (b == 60) None (cond (nat_lt b 128) (cond (is_allowed_char b) (Some (places.Value q)) None) (wide_start q b))) (λ _. is)
    (choice1 d (b == 60) None (cond (nat_lt b 128) (cond (is_allowed_char b) (Some (places.Value q)) None) (wide_start q b)) (λ _. tt)
    (choice1 d (nat_lt b 128) (cond (is_allowed_char b) (Some (places.Value q)) None) (wide_start q b) (λ _. choice1 d (is_allowed_char b) (Some (places.Value q)) None (λ _. is) tt) (live_start d q b is))))

live_next : (d q floor bits left b : ℕ) → WideLives q floor bits left → Live1 d (wide_next q floor bits left b)
live_next d q floor bits left b w =
    choice1 d (nat_le 128 b && nat_lt b 192 && nat_lt bits 131072) (wide q floor (bits * 64 + (b - 128)) (left - 1)) None
    (λ _. live_wide d q floor (bits * 64 + (b - 128)) (left - 1) w.quoted (omega (arith, w.few)) w.low w.floor_is) tt

two_of : (d : ℕ) (t u : Bool) (p r : Place) → Lives p d → Lives r d → Live1 d (cond t (Some p) (only_if u r))
two_of d t u p r a b = choice1 d t (Some p) (only_if u r) (λ _. a) (choice1 d u (Some r) None (λ _. b) tt)

pub lives_on : (p : Place) (d b : ℕ) → Lives p d → AllLive (step p d b)
lives_on places.Start d b h = choice (is_blank b) (Some (places.Prolog, d)) (to_if (b == 60) places.First d) (λ _. h) (choice (b == 60) (Some (places.First, d)) None (λ _. h) tt)
lives_on places.First d b h = choice (b == 63) (Some (places.Question, d)) (to_if (is_name_start b) places.Name d) (λ _. h) (choice (is_name_start b) (Some (places.Name, d)) None (λ _. tt) tt)
lives_on places.Question d b h = choice (b == 120) (Some (places.DeclarationX, d)) None (λ _. h) tt
lives_on places.DeclarationX d b h = choice (b == 109) (Some (places.DeclarationM, d)) None (λ _. h) tt
lives_on places.DeclarationM d b h = choice (b == 108) (Some (places.DeclarationL, d)) None (λ _. h) tt
lives_on places.DeclarationL d b h = choice (is_blank b) (Some (places.Declaration, d)) None (λ _. h) tt
lives_on places.Declaration d b h = choice (b == 63) (Some (places.DeclarationEnd, d)) (to_if (is_declared b) places.Declaration d) (λ _. h) (choice (is_declared b) (Some (places.Declaration, d)) None (λ _. h) tt)
lives_on places.DeclarationEnd d b h = choice (b == 62) (Some (places.Prolog, d)) None (λ _. h) tt
lives_on places.Prolog d b h = choice (is_blank b) (Some (places.Prolog, d)) (to_if (b == 60) places.Open d) (λ _. h) (choice (b == 60) (Some (places.Open, d)) None (λ _. tt) tt)
lives_on places.Open d b h = choice (b == 47) (to_if (nat_lt 0 d) places.Close d) (to_if (is_name_start b) places.Name d) (λ _. choice (nat_lt 0 d) (Some (places.Close, d)) None (λ e. ltb-true 0 d e) tt) (choice (is_name_start b) (Some (places.Name, d)) None (λ _. tt) tt)
lives_on places.Name d b h = choice (is_name_byte b) (Some (places.Name, d)) (step_tag d b) (λ _. tt) (live_tag d b)
lives_on places.Gap d b h = choice (is_name_start b) (Some (places.Key, d)) (step_tag d b) (λ _. tt) (live_tag d b)
lives_on places.Key d b h = choice (is_name_byte b) (Some (places.Key, d)) (step_equals d b) (λ _. tt) (live_equals d b)
lives_on places.Equals d b h = live_equals d b
lives_on places.Before d b h = choice (is_blank b) (Some (places.Before, d)) (to_if (is_quote b) (places.Value b) d) (λ _. tt) (choice (is_quote b) (Some (places.Value b, d)) None (λ e. e) tt)
lives_on (places.Value q) d b h = live_open d (step_value q b) (live_value d q b h)
lives_on (places.Wide q floor bits left) d b h = live_open d (wide_next q floor bits left b) (live_next d q floor bits left b h)
lives_on (places.Ampersand q) d b h = live_open d (step_escape (places.Ampersand q) b) (two_of d (b == 35) (is_letter b) (places.Hash q) (places.Letters q) h h)
lives_on (places.Letters q) d b h = live_open d (step_escape (places.Letters q) b) (two_of d (b == 59) (is_letter b) (places.Value q) (places.Letters q) h h)
lives_on (places.Hash q) d b h = live_open d (step_escape (places.Hash q) b) (two_of d (b == 120) (is_digit b) (places.HexStart q) (places.Digits q) h h)
lives_on (places.Digits q) d b h = live_open d (step_escape (places.Digits q) b) (two_of d (b == 59) (is_digit b) (places.Value q) (places.Digits q) h h)
lives_on (places.HexStart q) d b h = live_open d (step_escape (places.HexStart q) b) (choice1 d (is_hex_digit b) (Some (places.HexDigits q)) None (λ _. h) tt)
lives_on (places.HexDigits q) d b h = live_open d (step_escape (places.HexDigits q) b) (two_of d (b == 59) (is_hex_digit b) (places.Value q) (places.HexDigits q) h h)
lives_on places.Quoted d b h = live_tag d b
lives_on places.Slash d b h = choice (b == 62) (Some (after_element d, d)) None (λ _. live_after d) tt
lives_on places.Content d b h = choice (is_blank b) (Some (places.Content, d)) (to_if (b == 60) places.Open d) (λ _. h) (choice (b == 60) (Some (places.Open, d)) None (λ _. tt) tt)
lives_on places.Close d b h = choice (is_name_start b) (Some (places.EndName, d)) None (λ _. h) tt
lives_on places.EndName d b h = choice (is_name_byte b) (Some (places.EndName, d)) (step_end d b) (λ _. h) (live_end d b h)
lives_on places.EndGap d b h = live_end d b h
lives_on places.End d b h = tt

-- How the reading machine goes over a value.
use Rattle.std.proofs.Common.{◌≡◌, ◌⊎◌, inl, inr, ℕ, ◌+◌, ◌<◌, ◌≤◌, Bool, true, false, not, List, [], ◌∷◌, ◌++◌, Some, None, Ok, Err, length, get_or, refl, ap, sym, ◌∙◌, append_assoc, arith}
use Rattle.std.specs.Prelude.{◌==◌, ◌&&◌, nat_lt, nat_le, slice_range}
use Rattle.std.proofs.lemmas.Bool.{eq-eqb, ne_eqb, lt-ltb, le-ltb, leb-true, and_parts, not-true}
use Rattle.std.proofs.lemmas.Bool.Decides.{nat_tests}
use Rattle.line_base.specs.Text.{is_allowed_char}
use Rattle.hermes_element.specs.Plain.{is_quote}
use Rattle.hermes_element.specs.Machine.{Build, step, act, is_plain, with_open, wide_start, wide_next, with_attribute, in_tag}
use Rattle.hermes_element.specs.Steps.{run_at, IsSpan, valuing, AtPlace, IsOne}
use Rattle.hermes_element.specs.declared.refusal.Why.TheVariants as why
use Rattle.hermes_element.specs.declared.place.Place.{Place}
use Rattle.hermes_element.specs.declared.place.Place.TheVariants as places
use Rattle.hermes_element.proofs.Running.{goes, goes_over, stops as stops_at, faults_over, spans, range_one, range_more}

-- ---- bytes that stand for themselves

pub record PlainFacts (quote b : ℕ) : Type 0 where
  pub low : 32 ≤ b
  pub high : b < 128
  pub own : (b == quote) ≡ false
  pub amp : (b == 38) ≡ false
  pub open_tag : (b == 60) ≡ false

pub plain_facts : (quote b : ℕ) → is_plain quote b ≡ true → PlainFacts quote b
plain_facts quote b h =
    let a = and_parts (nat_le 32 b && nat_le b 127 && not (b == quote) && not (b == 38)) (not (b == 60)) h in
    let d = and_parts (nat_le 32 b && nat_le b 127 && not (b == quote)) (not (b == 38)) a.0 in
    let e = and_parts (nat_le 32 b && nat_le b 127) (not (b == quote)) d.0 in
    let f = and_parts (nat_le 32 b) (nat_le b 127) e.0 in
    let high = leb-true b 127 f.1 in
    record { low = leb-true 32 b f.0; high = omega arith; own = not-true (b == quote) e.1; amp = not-true (b == 38) d.1; open_tag = not-true (b == 60) a.1 }

pub allowed_ascii : (b : ℕ) → 32 ≤ b → b < 128 → is_allowed_char b ≡ true
allowed_ascii b low high = grind (arith, nat_tests)

pub plain_step : (quote depth b : ℕ) → is_plain quote b ≡ true → step (places.Value quote) depth b ≡ Some (places.Value quote, depth)
plain_step quote depth b h =
    let f = plain_facts quote b h in
    let below : nat_lt b 128 ≡ true = lt-ltb b 128 f.high in
    rw (f.own, f.amp, f.open_tag, below, allowed_ascii b f.low f.high)

-- a byte that is neither quote, `&`, tab, LF nor CR is added as it is
other_act : (quote b place start : ℕ) (key value : List ℕ) (after_cr : Bool) (c : Build) → (b == quote) ≡ false → (b == 38) ≡ false → (b == 9) ≡ false → (b == 10) ≡ false → (b == 13) ≡ false
    → act (places.Value quote) place b (valuing c key start value after_cr) ≡ Ok (valuing c key start (value ++ b ∷ []) false)
other_act quote b place start key value true c e q1 q2 q3 q4 = rw (e, q1, q2, q3, q4)
other_act quote b place start key value false c e q1 q2 q3 q4 = rw (e, q1, q2, q3, q4)

pub plain_act : (quote b place start : ℕ) (key value : List ℕ) (after_cr : Bool) (c : Build) → is_plain quote b ≡ true
    → act (places.Value quote) place b (valuing c key start value after_cr) ≡ Ok (valuing c key start (value ++ b ∷ []) false)
plain_act quote b place start key value after_cr c h =
    let f = plain_facts quote b h in
    let low = f.low in
    other_act quote b place start key value after_cr c f.own f.amp (ne_eqb b 9 (λ e. omega arith)) (ne_eqb b 10 (λ e. omega arith)) (ne_eqb b 13 (λ e. omega arith))

pub part_plain : (quote depth start at : ℕ) (key value bytes : List ℕ) (after_cr : Bool) (c : Build) → at < length bytes → is_plain quote (get_or bytes at 0) ≡ true
    → run_at (places.Value quote) depth (valuing c key start value after_cr) at bytes ≡ run_at (places.Value quote) depth (valuing c key start (value ++ get_or bytes at 0 ∷ []) false) (at + 1) bytes
part_plain quote depth start at key value bytes after_cr c here h =
    goes (places.Value quote) (places.Value quote) depth depth (valuing c key start value after_cr) (valuing c key start (value ++ get_or bytes at 0 ∷ []) false) at bytes here
    (plain_step quote depth (get_or bytes at 0) h) (plain_act quote (get_or bytes at 0) at start key value after_cr c h)

pub plain_span : (quote depth start at to : ℕ) (key bytes : List ℕ) (c : Build) → IsSpan (is_plain quote) bytes at to
    → run_at (places.Value quote) depth (valuing c key start [] false) at bytes ≡ run_at (places.Value quote) depth (valuing c key start (slice_range bytes at to) false) to bytes
plain_span quote depth start at to key bytes c span =
    spans (places.Value quote) depth (is_plain quote) (λ word. valuing c key start word false) (λ b h. plain_step quote depth b h)
    (λ b k word h. plain_act quote b k start key word false c h) bytes at to [] span

-- ---- the closing quote

pub closes : (quote depth start at : ℕ) (key value bytes : List ℕ) (after_cr : Bool) (c : Build) → at < length bytes → get_or bytes at 0 ≡ quote → length value ≤ 1024
    → run_at (places.Value quote) depth (valuing c key start value after_cr) at bytes ≡ run_at places.Quoted depth (in_tag c.roots c.stack (with_attribute c.tag key value start)) (at + 1) bytes
closes quote depth start at key value bytes after_cr c here e short =
    let same : (quote == quote) ≡ true = eq-eqb quote quote refl in
    let fits : nat_lt 1024 (length value) ≡ false = le-ltb 1024 (length value) short in
    goes_over (places.Value quote) places.Quoted depth depth (valuing c key start value after_cr) (in_tag c.roots c.stack (with_attribute c.tag key value start)) at bytes quote here e (rw same) (rw (same, fits))

pub closes_long : (quote depth start at : ℕ) (key value bytes : List ℕ) (after_cr : Bool) (c : Build) → at < length bytes → get_or bytes at 0 ≡ quote → 1024 < length value
    → (run_at (places.Value quote) depth (valuing c key start value after_cr) at bytes).built ≡ Err (start, why.LongValue)
closes_long quote depth start at key value bytes after_cr c here e long =
    let same : (quote == quote) ≡ true = eq-eqb quote quote refl in
    let past : nat_lt 1024 (length value) ≡ true = lt-ltb 1024 (length value) long in
    faults_over (places.Value quote) places.Quoted depth depth (valuing c key start value after_cr) (start, why.LongValue) at bytes quote here e (rw same) (rw (same, past))

-- ---- other bytes

pub wide_act : (quote b place start : ℕ) (key value : List ℕ) (after_cr : Bool) (c : Build) → is_quote quote ≡ true → 128 ≤ b
    → act (places.Value quote) place b (valuing c key start value after_cr) ≡ Ok (valuing c key start (value ++ b ∷ []) false)
wide_act quote b place start key value after_cr c is h =
    let own : (b == quote) ≡ false = grind (arith, nat_tests) in
    other_act quote b place start key value after_cr c own (ne_eqb b 38 (λ e. omega arith)) (ne_eqb b 9 (λ e. omega arith)) (ne_eqb b 10 (λ e. omega arith)) (ne_eqb b 13 (λ e. omega arith))

pub wide_step : (quote depth b : ℕ) → is_quote quote ≡ true → 128 ≤ b → step (places.Value quote) depth b ≡ with_open depth (wide_start quote b)
wide_step quote depth b is h =
    let own : (b == quote) ≡ false = grind (arith, nat_tests) in
    let amp : (b == 38) ≡ false = ne_eqb b 38 (λ e. omega arith) in
    let tag : (b == 60) ≡ false = ne_eqb b 60 (λ e. omega arith) in
    let high : nat_lt b 128 ≡ false = le-ltb b 128 h in
    rw (own, amp, tag, high)

blank_step : (quote depth b : ℕ) → is_quote quote ≡ true → (b ≡ 9) ⊎ ((b ≡ 10) ⊎ (b ≡ 13)) → step (places.Value quote) depth b ≡ Some (places.Value quote, depth)
blank_step quote depth b is (inl e) = let own : (9 == quote) ≡ false = grind (arith, nat_tests) in rw (e, own)
blank_step quote depth b is (inr (inl e)) = let own : (10 == quote) ≡ false = grind (arith, nat_tests) in rw (e, own)
blank_step quote depth b is (inr (inr e)) = let own : (13 == quote) ≡ false = grind (arith, nat_tests) in rw (e, own)

pub part_lf : (quote depth start at : ℕ) (key value bytes : List ℕ) (c : Build) → is_quote quote ≡ true → at < length bytes → get_or bytes at 0 ≡ 10
    → run_at (places.Value quote) depth (valuing c key start value true) at bytes ≡ run_at (places.Value quote) depth (valuing c key start (value ++ []) false) (at + 1) bytes
part_lf quote depth start at key value bytes c is here e =
    let own : (10 == quote) ≡ false = grind (arith, nat_tests) in
    goes_over (places.Value quote) (places.Value quote) depth depth (valuing c key start value true) (valuing c key start (value ++ []) false) at bytes 10 here e
    (blank_step quote depth 10 is (inr (inl refl))) (rw own)

pub part_tab : (quote depth start at : ℕ) (key value bytes : List ℕ) (after_cr : Bool) (c : Build) → is_quote quote ≡ true → at < length bytes → get_or bytes at 0 ≡ 9
    → run_at (places.Value quote) depth (valuing c key start value after_cr) at bytes ≡ run_at (places.Value quote) depth (valuing c key start (value ++ 32 ∷ []) false) (at + 1) bytes
part_tab quote depth start at key value bytes true c is here e =
    let own : (9 == quote) ≡ false = grind (arith, nat_tests) in
    goes_over (places.Value quote) (places.Value quote) depth depth (valuing c key start value true) (valuing c key start (value ++ 32 ∷ []) false) at bytes 9 here e
    (blank_step quote depth 9 is (inl refl)) (rw own)
part_tab quote depth start at key value bytes false c is here e =
    let own : (9 == quote) ≡ false = grind (arith, nat_tests) in
    goes_over (places.Value quote) (places.Value quote) depth depth (valuing c key start value false) (valuing c key start (value ++ 32 ∷ []) false) at bytes 9 here e
    (blank_step quote depth 9 is (inl refl)) (rw own)

pub part_first_lf : (quote depth start at : ℕ) (key value bytes : List ℕ) (c : Build) → is_quote quote ≡ true → at < length bytes → get_or bytes at 0 ≡ 10
    → run_at (places.Value quote) depth (valuing c key start value false) at bytes ≡ run_at (places.Value quote) depth (valuing c key start (value ++ 32 ∷ []) false) (at + 1) bytes
part_first_lf quote depth start at key value bytes c is here e =
    let own : (10 == quote) ≡ false = grind (arith, nat_tests) in
    goes_over (places.Value quote) (places.Value quote) depth depth (valuing c key start value false) (valuing c key start (value ++ 32 ∷ []) false) at bytes 10 here e
    (blank_step quote depth 10 is (inr (inl refl))) (rw own)

pub part_cr : (quote depth start at : ℕ) (key value bytes : List ℕ) (after_cr : Bool) (c : Build) → is_quote quote ≡ true → at < length bytes → get_or bytes at 0 ≡ 13
    → run_at (places.Value quote) depth (valuing c key start value after_cr) at bytes ≡ run_at (places.Value quote) depth (valuing c key start (value ++ 32 ∷ []) true) (at + 1) bytes
part_cr quote depth start at key value bytes true c is here e =
    let own : (13 == quote) ≡ false = grind (arith, nat_tests) in
    goes_over (places.Value quote) (places.Value quote) depth depth (valuing c key start value true) (valuing c key start (value ++ 32 ∷ []) true) at bytes 13 here e
    (blank_step quote depth 13 is (inr (inr refl))) (rw own)
part_cr quote depth start at key value bytes false c is here e =
    let own : (13 == quote) ≡ false = grind (arith, nat_tests) in
    goes_over (places.Value quote) (places.Value quote) depth depth (valuing c key start value false) (valuing c key start (value ++ 32 ∷ []) true) at bytes 13 here e
    (blank_step quote depth 13 is (inr (inr refl))) (rw own)

-- ---- characters of several bytes

pub wide_first : (quote at depth start : ℕ) (key value bytes : List ℕ) (after_cr : Bool) (c : Build) (place : Place) → is_quote quote ≡ true → at < length bytes → 128 ≤ get_or bytes at 0
    → wide_start quote (get_or bytes at 0) ≡ Some place
    → run_at (places.Value quote) depth (valuing c key start value after_cr) at bytes ≡ run_at place depth (valuing c key start (value ++ slice_range bytes at (at + 1)) false) (at + 1) bytes
wide_first quote at depth start key value bytes after_cr c place is here high e =
    let b = get_or bytes at 0 in
    goes (places.Value quote) place depth depth (valuing c key start value after_cr) (valuing c key start (value ++ b ∷ []) false) at bytes here
    (wide_step quote depth b is high ∙ ap (with_open depth) e) (wide_act quote b at start key value after_cr c is high)
    ∙ ap (λ l. run_at place depth (valuing c key start (value ++ l) false) (at + 1) bytes) (sym (range_one bytes at here))

pub wide_stuck : (quote at depth start : ℕ) (key value bytes : List ℕ) (after_cr : Bool) (c : Build) → is_quote quote ≡ true → at < length bytes → 128 ≤ get_or bytes at 0
    → wide_start quote (get_or bytes at 0) ≡ None → (run_at (places.Value quote) depth (valuing c key start value after_cr) at bytes).stop ≡ Some at
wide_stuck quote at depth start key value bytes after_cr c is here high e =
    stops_at (places.Value quote) depth (valuing c key start value after_cr) at bytes here (wide_step quote depth (get_or bytes at 0) is high ∙ ap (with_open depth) e)

pub wide_later : (quote floor bits left at to depth start : ℕ) (key value bytes : List ℕ) (c : Build) (place : Place) → at ≤ to → to < length bytes
    → wide_next quote floor bits left (get_or bytes to 0) ≡ Some place
    → run_at (places.Wide quote floor bits left) depth (valuing c key start (value ++ slice_range bytes at to) false) to bytes
    ≡ run_at place depth (valuing c key start (value ++ slice_range bytes at (to + 1)) false) (to + 1) bytes
wide_later quote floor bits left at to depth start key value bytes c place low here e =
    let b = get_or bytes to 0 in
    let so_far = slice_range bytes at to in
    goes (places.Wide quote floor bits left) place depth depth (valuing c key start (value ++ so_far) false) (valuing c key start ((value ++ so_far) ++ b ∷ []) false) to bytes here (ap (with_open depth) e) refl
    ∙ ap (λ l. run_at place depth (valuing c key start l false) (to + 1) bytes) (append_assoc value so_far (b ∷ []) ∙ ap (λ l. value ++ l) (range_more bytes at to low here))

pub wide_bars : (quote floor bits left to depth : ℕ) (bytes : List ℕ) (c : Build) → to < length bytes → wide_next quote floor bits left (get_or bytes to 0) ≡ None
    → (run_at (places.Wide quote floor bits left) depth c to bytes).stop ≡ Some to
wide_bars quote floor bits left to depth bytes c here e = stops_at (places.Wide quote floor bits left) depth c to bytes here (ap (with_open depth) e)

pub wide_over : (place : Place) (quote : ℕ) (bytes : List ℕ) → AtPlace place quote bytes → ((q f b l : ℕ) → place ≡ places.Wide q f b l → ⊥) → (place ≡ places.Value quote) × IsOne bytes
wide_over (places.Value own) quote bytes h n = (ap places.Value h.0, h.1)
wide_over (places.Wide own floor bits left) quote bytes h n = absurd (n own floor bits left refl)
wide_over _ quote bytes h n = absurd h

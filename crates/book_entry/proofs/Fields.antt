-- The parts of an input.
use Rattle.std.proofs.Common.{◌≡◌, ℕ, zero, suc, ◌+◌, ◌-◌, ◌*◌, ◌^◌, ◌<◌, ◌≤◌, Bool, true, false, cond, ◌==◌, ◌&&◌, ◌||◌, nat_le, nat_lt, List, [], ◌∷◌, ◌++◌, Option, Some, None, Result, Ok, Err, IfSome, length, take, drop, refl, sym, ap, ◌∙◌, subst, arith, append_assoc, length-append, ◌⊎◌, inl, inr, get_or, take-append-drop, eqb, eqb-true, eq-eqb, ne_eqb, leb-true, leb-false, le-leb, ltb-true, ltb-false, lt-ltb, le-ltb}
use Rattle.std.specs.Int.{bytes_high_first}
use Rattle.std.proofs.lemmas.Bool.{and_from, and_parts, or_cases, or_left, or_right, cases_lt, cond-true, cond-false}
use Rattle.std.proofs.lemmas.List.{take_at, drop_at, take_all, append_cancel_left, length-take-le, take-append-le, get_or-take, get_or_append_left, get_or_past}
use Rattle.line_base.specs.Results.{then_ok, mapped_ok}
use Rattle.line_base.specs.Text.{IsText}
use Rattle.line_base.specs.declared.states.Quality.{Quality}
use Rattle.line_base.specs.declared.states.Quality.TheVariants as qualities
use Rattle.line_base.specs.declared.states.SensorEvent.{SensorEvent}
use Rattle.line_base.specs.declared.states.SensorEvent.TheVariants as seen
use Rattle.line_base.specs.declared.states.Side.{Side}
use Rattle.line_base.specs.declared.states.Side.TheVariants.{Entry as EntrySide, Exit}
use Rattle.hermes_vertical.specs.declared.message.Question.{Question}
use Rattle.hermes_vertical.specs.declared.message.Question.TheVariants as questions
use Rattle.smema_bridge.specs.declared.line.SegmentLine.{SegmentLine}
use Rattle.smema_bridge.specs.declared.line.SegmentLine.TheVariants as lines
use Rattle.book_entry.specs.declared.fault.Fail.{Fail}
use Rattle.book_entry.specs.declared.fault.Fail.TheVariants as fails
use Rattle.book_entry.specs.Kinds.{is_from}
use Rattle.book_entry.specs.Numbers.{byte_in, number_in}
use Rattle.book_entry.specs.Reading.{asked_in, asks, below, chars_in, event_in, event_of, exactly, flag_in, id_in, line_in, line_of, long_in, maybe_text_in, no_text, own_in, place_in, quality_in, quality_of, question_in, raw_in, short_in, side_in, side_of, some_text_in, text_in}
use Rattle.book_entry.specs.Spelling.{AreBytes, IsProperQuestion, event_number, flag_number, id_bytes, line_number, maybe_text_bytes, own_bytes, quality_number, question_bytes, side_number, text_bytes}
use Rattle.book_entry.proofs.Forms.{Form, GoesOn, IsKeyed, IsMade, IsMadeOfTwo, IsRead, behind, both_form, byte_form, mapped, reform}
use Rattle.book_entry.proofs.Numbers.{IsIn, number_form, spelled_length}
use Rattle.book_entry.proofs.Texts.{IsTextOf, as_is, chars_form, some_text}

-- ---- what is listed

abbrev pub Any : {A : Type 0} → A → Type 0
Any a = Unit {0}

pub list_form : {A : Type 0} (count : ℕ) (of : ℕ → A) (number : A → ℕ) → 0 < count → ((n : ℕ) → n < count → number (of n) ≡ n) → ((a : A) → number a < count) → ((a : A) → of (number a) ≡ a)
    → Form (λ (a : A). number a ∷ []) Any (λ bytes. mapped_ok of (byte_in (below count) bytes))
list_form {A} count of number some back fits again =
    mapped (λ b. b ∷ []) (λ b. below count b ≡ true) (byte_in (below count)) of (λ (a : A). number a ∷ []) Any (byte_form (below count) 0 (lt-ltb 0 count some))
    (λ b is. tt) (λ b is. ap (λ n. n ∷ []) (back b (ltb-true b count is)))
    (λ a is. record { from = number a; from_fits = lt-ltb (number a) count (fits a); made = again a })

side_back : (n : ℕ) → n < 2 → side_number (side_of n) ≡ n
side_back zero h = refl
side_back (suc zero) h = refl
side_back (suc (suc n)) h = absurd (omega arith)

side_fits : (side : Side) → side_number side < 2
side_fits EntrySide = omega arith
side_fits Exit = omega arith

side_again : (side : Side) → side_of (side_number side) ≡ side
side_again EntrySide = refl
side_again Exit = refl

pub side_form : Form (λ (side : Side). side_number side ∷ []) Any side_in
side_form = list_form 2 side_of side_number (omega arith) side_back side_fits side_again

flag_back : (n : ℕ) → n < 2 → flag_number (exactly 1 n) ≡ n
flag_back zero h = refl
flag_back (suc zero) h = refl
flag_back (suc (suc n)) h = absurd (omega arith)

flag_fits : (on : Bool) → flag_number on < 2
flag_fits true = omega arith
flag_fits false = omega arith

flag_again : (on : Bool) → exactly 1 (flag_number on) ≡ on
flag_again true = refl
flag_again false = refl

pub flag_form : Form (λ (on : Bool). flag_number on ∷ []) Any flag_in
flag_form = list_form 2 (exactly 1) flag_number (omega arith) flag_back flag_fits flag_again

quality_back : (n : ℕ) → n < 3 → quality_number (quality_of n) ≡ n
quality_back zero h = refl
quality_back (suc zero) h = refl
quality_back (suc (suc zero)) h = refl
quality_back (suc (suc (suc n))) h = absurd (omega arith)

quality_fits : (quality : Quality) → quality_number quality < 3
quality_fits qualities.Unknown = omega arith
quality_fits qualities.Good = omega arith
quality_fits qualities.Failed = omega arith

quality_again : (quality : Quality) → quality_of (quality_number quality) ≡ quality
quality_again qualities.Unknown = refl
quality_again qualities.Good = refl
quality_again qualities.Failed = refl

pub quality_form : Form (λ (quality : Quality). quality_number quality ∷ []) Any quality_in
quality_form = list_form 3 quality_of quality_number (omega arith) quality_back quality_fits quality_again

line_back : (n : ℕ) → n < 3 → line_number (line_of n) ≡ n
line_back zero h = refl
line_back (suc zero) h = refl
line_back (suc (suc zero)) h = refl
line_back (suc (suc (suc n))) h = absurd (omega arith)

line_fits : (line : SegmentLine) → line_number line < 3
line_fits lines.Ready = omega arith
line_fits lines.Available = omega arith
line_fits lines.Failed = omega arith

line_again : (line : SegmentLine) → line_of (line_number line) ≡ line
line_again lines.Ready = refl
line_again lines.Available = refl
line_again lines.Failed = refl

pub line_form : Form (λ (line : SegmentLine). line_number line ∷ []) Any line_in
line_form = list_form 3 line_of line_number (omega arith) line_back line_fits line_again

event_back : (n : ℕ) → n < 5 → event_number (event_of n) ≡ n
event_back zero h = refl
event_back (suc zero) h = refl
event_back (suc (suc zero)) h = refl
event_back (suc (suc (suc zero))) h = refl
event_back (suc (suc (suc (suc zero)))) h = refl
event_back (suc (suc (suc (suc (suc n))))) h = absurd (omega arith)

event_fits : (event : SensorEvent) → event_number event < 5
event_fits seen.Begun = omega arith
event_fits seen.Left = omega arith
event_fits seen.Full = omega arith
event_fits seen.Back = omega arith
event_fits seen.Taken = omega arith

event_again : (event : SensorEvent) → event_of (event_number event) ≡ event
event_again seen.Begun = refl
event_again seen.Left = refl
event_again seen.Full = refl
event_again seen.Back = refl
event_again seen.Taken = refl

pub event_form : Form (λ (event : SensorEvent). event_number event ∷ []) Any event_in
event_form = list_form 5 event_of event_number (omega arith) event_back event_fits event_again

-- ---- numbers

abbrev pub IsBelow : ℕ → ℕ → Type 0
IsBelow top n = n < top

pub short_form : Form (bytes_high_first 4) (IsBelow (2 ^ 32)) short_in
short_form =
    reform (bytes_high_first 4) (bytes_high_first 4) (IsIn 0 (2 ^ 32 - 1)) (IsBelow (2 ^ 32)) short_in short_in (number_form 4 0 (2 ^ 32 - 1) (omega arith) (omega arith))
    (λ n is. omega (arith, is.1)) (λ n is. (omega arith, omega (arith, is))) (λ n is. refl) (λ bytes. refl)

pub long_form : Form (bytes_high_first 8) (IsBelow (2 ^ 64)) long_in
long_form =
    reform (bytes_high_first 8) (bytes_high_first 8) (IsIn 0 (2 ^ 64 - 1)) (IsBelow (2 ^ 64)) long_in long_in (number_form 8 0 (2 ^ 64 - 1) (omega arith) (omega arith))
    (λ n is. omega (arith, is.1)) (λ n is. (omega arith, omega (arith, is))) (λ n is. refl) (λ bytes. refl)

pub id_form : Form (bytes_high_first 16) (IsBelow (2 ^ 128)) id_in
id_form =
    reform (bytes_high_first 16) (bytes_high_first 16) (IsIn 0 (2 ^ 128 - 1)) (IsBelow (2 ^ 128)) id_in id_in (number_form 16 0 (2 ^ 128 - 1) (omega arith) (omega arith))
    (λ n is. omega (arith, is.1)) (λ n is. (omega arith, omega (arith, is))) (λ n is. refl) (λ bytes. refl)

-- ---- texts

-- a list whose length is the number in front
keyed_chars : (count n : ℕ) → count ≤ 1024 → IsIn count count n → Form as_is (IsKeyed length (IsTextOf count) n) (chars_in count)
keyed_chars count n most is =
    reform as_is as_is (IsTextOf count) (IsKeyed length (IsTextOf count) n) (chars_in count) (chars_in count) (chars_form count most)
    (λ text t. record { whole_is = t; key_is = omega (arith, t.size, is.0, is.1) }) (λ text k. k.whole_is) (λ text t. refl) (λ bytes. refl)

pub text_form : (count : ℕ) → 2 ≤ count → count ≤ 1026 → Form text_bytes (IsTextOf (count - 2)) (text_in count)
text_form count low most =
    behind 2 (bytes_high_first 2) (IsIn (count - 2) (count - 2)) (number_in 2 (count - 2) (count - 2)) length as_is (IsTextOf (count - 2)) (λ n. chars_in (count - 2))
    (number_form 2 (count - 2) (count - 2) (omega arith) (omega arith)) (λ n is. spelled_length 2 n)
    (λ n is. keyed_chars (count - 2) n (omega arith) is)
    (λ text is. (omega (arith, is.size), omega (arith, is.size)))
    (λ n is. let t = some_text (count - 2) (omega arith) in (t.0, record { whole_is = t.1; key_is = omega (arith, t.1.size, is.0, is.1) }))

pub text_length : (text : List ℕ) → length (text_bytes text) ≡ length text + 2
text_length text = omega arith

-- ---- a text that may be left out

pub record IsMaybeOf (count : ℕ) (text : Option (List ℕ)) : Type 0 where
  pub text_is : IfSome text IsText
  pub size : length (maybe_text_bytes text) ≡ count

no_text_made : (text : Option (List ℕ)) → IsMaybeOf 1 text → IsMade (λ b. b ∷ []) (λ b. exactly 0 b ≡ true) no_text maybe_text_bytes text
no_text_made None is = record { from = 0; from_fits = refl; made = refl }
no_text_made (Some text) is = absurd (omega (arith, is.size))

no_text_form : Form maybe_text_bytes (IsMaybeOf 1) (λ bytes. mapped_ok no_text (byte_in (exactly 0) bytes))
no_text_form =
    mapped (λ b. b ∷ []) (λ b. exactly 0 b ≡ true) (byte_in (exactly 0)) no_text maybe_text_bytes (IsMaybeOf 1) (byte_form (exactly 0) 0 refl)
    (λ b is. record { text_is = tt; size = refl }) (λ b is. ap (λ n. n ∷ []) (sym (eqb-true b 0 is))) no_text_made

abbrev one_of : Option (List ℕ) → ℕ
one_of text = 1

abbrev some_bytes : Option (List ℕ) → List ℕ
some_bytes None = []
some_bytes (Some text) = text_bytes text

record IsSomeOf (count : ℕ) (text : Option (List ℕ)) : Type 0 where
  own : List ℕ
  is : text ≡ Some own
  own_is : IsTextOf (count - 2) own

some_made : (count n : ℕ) (text : Option (List ℕ)) → IsKeyed one_of (IsSomeOf count) n text → IsMade text_bytes (IsTextOf (count - 2)) Some some_bytes text
some_made count n text is = record { from = is.whole_is.own; from_fits = is.whole_is.own_is; made = sym is.whole_is.is }

some_second : (count n : ℕ) → 2 ≤ count → count ≤ 1026 → exactly 1 n ≡ true → Form some_bytes (IsKeyed one_of (IsSomeOf count) n) (λ bytes. mapped_ok Some (text_in count bytes))
some_second count n low most e =
    mapped text_bytes (IsTextOf (count - 2)) (text_in count) Some some_bytes (IsKeyed one_of (IsSomeOf count) n) (text_form count low most)
    (λ text is. record { whole_is = record { own = text; is = refl; own_is = is }; key_is = sym (eqb-true n 1 e) }) (λ text is. refl) (some_made count n)

some_joined : (count : ℕ) → 2 ≤ count → count ≤ 1026 → Form (λ text. (one_of text ∷ []) ++ some_bytes text) (IsSomeOf count) (λ bytes. then_ok (byte_in (exactly 1) bytes) (λ b. mapped_ok Some (text_in count (drop 1 bytes))))
some_joined count low most =
    behind 1 (λ b. b ∷ []) (λ b. exactly 1 b ≡ true) (byte_in (exactly 1)) one_of some_bytes (IsSomeOf count) (λ b bytes. mapped_ok Some (text_in count bytes))
    (byte_form (exactly 1) 1 refl) (λ b is. refl) (λ b is. some_second count b low most is) (λ text is. refl)
    (λ b is. let t = some_text (count - 2) (omega arith) in (Some t.0, record { whole_is = record { own = t.0; is = refl; own_is = t.1 }; key_is = sym (eqb-true b 1 is) }))

some_is_maybe : (count : ℕ) (text : Option (List ℕ)) → 3 ≤ count → IsSomeOf (count - 1) text → IsMaybeOf count text
some_is_maybe count text low is =
    let P : Option (List ℕ) → Type 0 = IsMaybeOf count in
    subst P (sym is.is) (record { text_is = is.own_is.text_is; size = omega (arith, is.own_is.size) })

maybe_is_some : (count : ℕ) (text : Option (List ℕ)) → 3 ≤ count → IsMaybeOf count text → IsSomeOf (count - 1) text
maybe_is_some count None low is = absurd (omega (arith, is.size))
maybe_is_some count (Some text) low is = record { own = text; is = refl; own_is = record { text_is = is.text_is; size = omega (arith, is.size) } }

some_spelled : (text : Option (List ℕ)) (own : List ℕ) → text ≡ Some own → maybe_text_bytes text ≡ (one_of text ∷ []) ++ some_bytes text
some_spelled text own e = ap maybe_text_bytes e ∙ ap (λ (x : Option (List ℕ)). 1 ∷ some_bytes x) (sym e)

some_text_form : (count : ℕ) → 3 ≤ count → count ≤ 1027 → Form maybe_text_bytes (IsMaybeOf count) (some_text_in count)
some_text_form count low most =
    reform (λ text. (one_of text ∷ []) ++ some_bytes text) maybe_text_bytes (IsSomeOf (count - 1)) (IsMaybeOf count) (some_text_in count) (some_text_in count)
    (some_joined (count - 1) (omega arith) (omega arith)) (λ text is. some_is_maybe count text low is) (λ text is. maybe_is_some count text low is) (λ text is. some_spelled text is.own is.is) (λ bytes. refl)

-- so many bytes that such a text can be
abbrev pub IsRoom : ℕ → Type 0
IsRoom count = (count ≡ 1) ⊎ ((3 ≤ count) × (count ≤ 1027))

pub maybe_text_form : (count : ℕ) → IsRoom count → Form maybe_text_bytes (IsMaybeOf count) (maybe_text_in count)
maybe_text_form count (inl one) =
    let P : ℕ → Type 0 = λ n. Form maybe_text_bytes (IsMaybeOf n) (maybe_text_in n) in
    subst P (sym one) no_text_form
maybe_text_form count (inr some) =
    reform maybe_text_bytes maybe_text_bytes (IsMaybeOf count) (IsMaybeOf count) (some_text_in count) (maybe_text_in count) (some_text_form count some.0 some.1)
    (λ text is. is) (λ text is. is) (λ text is. refl)
    (λ bytes. cond-false (count == 1) (mapped_ok no_text (byte_in (exactly 0) bytes)) (some_text_in count bytes) (ne_eqb count 1 (λ e. omega (arith, some.0, e))))

pub some_maybe : (count : ℕ) → IsRoom count → (text : Option (List ℕ)) × IsMaybeOf count text
some_maybe count (inl one) = (None, record { text_is = tt; size = sym one })
some_maybe count (inr some) = let t = some_text (count - 3) (omega (arith, some.1)) in (Some t.0, record { text_is = t.1.text_is; size = omega (arith, t.1.size, some.0) })

-- ---- bytes

pub record IsRawOf (count : ℕ) (bytes : List ℕ) : Type 0 where
  pub are : AreBytes bytes
  pub size : length bytes ≡ count

raw_decided : (whole : Bool) (front found : List ℕ) → cond {A = Result (List ℕ) Fail} whole (Ok front) (Err fails.Short) ≡ Ok found → (whole ≡ true) × (front ≡ found)
raw_decided true front found e = (refl, cc)
raw_decided false front found e = absurd (cc)

raw_ends : (whole : Bool) (front : List ℕ) → cond {A = Result (List ℕ) Fail} whole (Ok front) (Err fails.Short) ≡ Err fails.Short → whole ≡ false
raw_ends true front e = absurd (cc)
raw_ends false front e = refl

raw_never_bad : (whole : Bool) (front : List ℕ) → cond {A = Result (List ℕ) Fail} whole (Ok front) (Err fails.Short) ≡ Err fails.Bad → ⊥
raw_never_bad true front e = absurd (cc)
raw_never_bad false front e = absurd (cc)

abbrev noughts : ℕ → List ℕ
noughts zero = []
noughts (suc n) = 0 ∷ noughts n

noughts_are : (n k : ℕ) → get_or (noughts n) k 0 ≡ 0
noughts_are zero k = refl
noughts_are (suc n) zero = refl
noughts_are (suc n) (suc k) = noughts_are n k

noughts_length : (n : ℕ) → length (noughts n) ≡ n
noughts_length zero = refl
noughts_length (suc n) = omega (arith, noughts_length n)

joined_below : (xs ys : List ℕ) (k : ℕ) → ((j : ℕ) → get_or xs j 0 < 256) → ((j : ℕ) → get_or ys j 0 < 256) → get_or (xs ++ ys) k 0 < 256
joined_below [] ys k a b = b k
joined_below (x ∷ xs) ys zero a b = a 0
joined_below (x ∷ xs) ys (suc k) a b = joined_below xs ys k (λ j. a (suc j)) b

front_below : (count : ℕ) (bytes : List ℕ) (k : ℕ) → ((j : ℕ) → get_or bytes j 0 < 256) → get_or (take count bytes) k 0 < 256
front_below zero bytes k a = omega arith
front_below (suc n) [] k a = omega arith
front_below (suc n) (b ∷ bytes) zero a = a 0
front_below (suc n) (b ∷ bytes) (suc k) a = front_below n bytes k (λ j. a (suc j))

raw_back : (count : ℕ) (own rest : List ℕ) → IsRawOf count own → raw_in count (own ++ rest) ≡ Ok own
raw_back count own rest is =
    ap (λ t. cond t (Ok (take count (own ++ rest))) (Err fails.Short)) (le-leb count (length (own ++ rest)) (omega (arith, is.size, length-append own rest)))
    ∙ ap Ok (take_at own rest count is.size)

raw_only : (count : ℕ) (bytes own : List ℕ) → AreBytes bytes → raw_in count bytes ≡ Ok own → IsRead as_is (IsRawOf count) bytes own
raw_only count bytes own are e =
    let d = raw_decided (nat_le count (length bytes)) (take count bytes) own e in
    record {
      value_fits = record {
        are = subst AreBytes d.1 (record { below = λ k. front_below count bytes k are.below });
        size = ap length (sym d.1) ∙ length-take-le count bytes (leb-true count (length bytes) d.0);
      };
      rest = drop count bytes;
      spelled = sym (take-append-drop count bytes) ∙ ap (λ (x : List ℕ). x ++ drop count bytes) d.1;
    }

raw_short : (count : ℕ) (bytes : List ℕ) → AreBytes bytes → raw_in count bytes ≡ Err fails.Short → GoesOn as_is (IsRawOf count) bytes
raw_short count bytes are e =
    let less = leb-false count (length bytes) (raw_ends (nat_le count (length bytes)) (take count bytes) e) in
    let wanted = count - length bytes in
    record {
      value = bytes ++ noughts wanted;
      value_fits = record {
        are = record { below = λ k. joined_below bytes (noughts wanted) k are.below (λ j. omega (arith, noughts_are wanted j)) };
        size = omega (arith, length-append bytes (noughts wanted), noughts_length wanted, less);
      };
      more = noughts wanted;
      spelled = refl;
    }

raw_form : (count : ℕ) → Form as_is (IsRawOf count) (raw_in count)
raw_form count = record {
  back = raw_back count;
  only = raw_only count;
  short = raw_short count;
  bad = λ bytes more rest own are e is p. raw_never_bad (nat_le count (length bytes)) (take count bytes) e;
}

keyed_raw : (count n : ℕ) → IsIn count count n → Form as_is (IsKeyed length (IsRawOf count) n) (raw_in count)
keyed_raw count n is =
    reform as_is as_is (IsRawOf count) (IsKeyed length (IsRawOf count) n) (raw_in count) (raw_in count) (raw_form count)
    (λ own t. record { whole_is = t; key_is = omega (arith, t.size, is.0, is.1) }) (λ own k. k.whole_is) (λ own t. refl) (λ bytes. refl)

pub some_raw : (count : ℕ) → (own : List ℕ) × IsRawOf count own
some_raw count = (noughts count, record { are = record { below = λ k. omega (arith, noughts_are count k) }; size = noughts_length count })

pub own_form : (count : ℕ) → 4 ≤ count → count < 2 ^ 32 → Form own_bytes (IsRawOf (count - 4)) (own_in count)
own_form count low most =
    behind 4 (bytes_high_first 4) (IsIn (count - 4) (count - 4)) (number_in 4 (count - 4) (count - 4)) length as_is (IsRawOf (count - 4)) (λ n. raw_in (count - 4))
    (number_form 4 (count - 4) (count - 4) (omega arith) (omega arith)) (λ n is. spelled_length 4 n)
    (λ n is. keyed_raw (count - 4) n is)
    (λ own is. (omega (arith, is.size), omega (arith, is.size)))
    (λ n is. let t = some_raw (count - 4) in (t.0, record { whole_is = t.1; key_is = omega (arith, t.1.size, is.0, is.1) }))

pub own_length : (own : List ℕ) → length (own_bytes own) ≡ length own + 4
own_length own = omega arith

-- ---- questions

pub record IsQuestionOf (count : ℕ) (question : Question) : Type 0 where
  pub question_is : IsProperQuestion question
  pub size : length (question_bytes question) ≡ count

abbrev question_tag : Question → ℕ
question_tag (questions.Barcode text) = 0
question_tag (questions.Order text) = 1
question_tag (questions.Place magazine slot) = 2

abbrev question_rest : Question → List ℕ
question_rest (questions.Barcode text) = text_bytes text
question_rest (questions.Order text) = text_bytes text
question_rest (questions.Place magazine slot) = text_bytes magazine ++ bytes_high_first 4 slot

abbrev IsAsked : ℕ → ℕ → Question → Type 0
IsAsked count tag question = IsKeyed question_tag (IsQuestionOf count) tag question

barcode_made : (count : ℕ) (question : Question) → IsAsked (count + 1) 0 question → IsMade text_bytes (IsTextOf (count - 2)) questions.Barcode question_rest question
barcode_made count (questions.Barcode text) is = record { from = text; from_fits = record { text_is = is.whole_is.question_is; size = omega (arith, is.whole_is.size) }; made = refl }
barcode_made count (questions.Order text) is = absurd (omega (arith, is.key_is))
barcode_made count (questions.Place magazine slot) is = absurd (omega (arith, is.key_is))

order_made : (count : ℕ) (question : Question) → IsAsked (count + 1) 1 question → IsMade text_bytes (IsTextOf (count - 2)) questions.Order question_rest question
order_made count (questions.Order text) is = record { from = text; from_fits = record { text_is = is.whole_is.question_is; size = omega (arith, is.whole_is.size) }; made = refl }
order_made count (questions.Barcode text) is = absurd (omega (arith, is.key_is))
order_made count (questions.Place magazine slot) is = absurd (omega (arith, is.key_is))

place_size : (magazine : List ℕ) (slot : ℕ) → length (question_bytes (questions.Place magazine slot)) ≡ length magazine + 7
place_size magazine slot = omega (arith, length-append (text_bytes magazine) (bytes_high_first 4 slot))

place_made : (count : ℕ) (question : Question) → IsAsked (count + 1) 2 question → IsMadeOfTwo (IsTextOf (count - 4 - 2)) (IsBelow (2 ^ 32)) questions.Place question
place_made count (questions.Place magazine slot) is =
    record { left = magazine; left_fits = record { text_is = is.whole_is.question_is.0; size = omega (arith, is.whole_is.size, place_size magazine slot) }; right = slot; right_fits = is.whole_is.question_is.1; made = refl }
place_made count (questions.Barcode text) is = absurd (omega (arith, is.key_is))
place_made count (questions.Order text) is = absurd (omega (arith, is.key_is))

barcode_form : (count : ℕ) → 2 ≤ count → count ≤ 1026 → Form question_rest (IsAsked (count + 1) 0) (λ bytes. mapped_ok questions.Barcode (text_in count bytes))
barcode_form count low most =
    mapped text_bytes (IsTextOf (count - 2)) (text_in count) questions.Barcode question_rest (IsAsked (count + 1) 0) (text_form count low most)
    (λ text is. record { whole_is = record { question_is = is.text_is; size = omega (arith, is.size, low) }; key_is = refl }) (λ text is. refl) (barcode_made count)

order_form : (count : ℕ) → 2 ≤ count → count ≤ 1026 → Form question_rest (IsAsked (count + 1) 1) (λ bytes. mapped_ok questions.Order (text_in count bytes))
order_form count low most =
    mapped text_bytes (IsTextOf (count - 2)) (text_in count) questions.Order question_rest (IsAsked (count + 1) 1) (text_form count low most)
    (λ text is. record { whole_is = record { question_is = is.text_is; size = omega (arith, is.size, low) }; key_is = refl }) (λ text is. refl) (order_made count)

magazine_length : (count : ℕ) (text : List ℕ) → 6 ≤ count → IsTextOf (count - 4 - 2) text → length (text_bytes text) ≡ count - 4
magazine_length count text low is = omega (arith, is.size)

place_form : (count : ℕ) → 6 ≤ count → count ≤ 1030 → Form question_rest (IsAsked (count + 1) 2) (place_in count)
place_form count low most =
    both_form (count - 4) text_bytes (IsTextOf (count - 4 - 2)) (text_in (count - 4)) (bytes_high_first 4) (IsBelow (2 ^ 32)) short_in questions.Place question_rest (IsAsked (count + 1) 2)
    (text_form (count - 4) (omega arith) (omega arith)) (λ text is. magazine_length count text low is) short_form 0 (omega arith)
    (λ magazine slot m s. record { whole_is = record { question_is = (m.text_is, s); size = omega (arith, m.size, low, place_size magazine slot) }; key_is = refl })
    (λ magazine slot m s. refl) (place_made count)

-- the questions that a tag and so many bytes allow
asks_text : (count tag : ℕ) → tag < 2 → asks count tag ≡ true → (3 ≤ count) × (count ≤ 1027)
asks_text count tag small e = elim (or_cases (nat_lt tag 2 && is_from 3 1027 count) (tag == 2 && is_from 7 1031 count) e) [
  | inl a ↦
      let d = and_parts (nat_lt tag 2) (is_from 3 1027 count) a in
      let r = and_parts (nat_le 3 count) (nat_le count 1027) d.1 in
      (leb-true 3 count r.0, leb-true count 1027 r.1)
  | inr a ↦
      let d = and_parts (tag == 2) (is_from 7 1031 count) a in
      absurd (omega (arith, eqb-true tag 2 d.0))
]

asks_place : (count tag : ℕ) → 2 ≤ tag → asks count tag ≡ true → (tag ≡ 2) × (7 ≤ count) × (count ≤ 1031)
asks_place count tag large e = elim (or_cases (nat_lt tag 2 && is_from 3 1027 count) (tag == 2 && is_from 7 1031 count) e) [
  | inl a ↦
      let d = and_parts (nat_lt tag 2) (is_from 3 1027 count) a in
      absurd (omega (arith, ltb-true tag 2 d.0))
  | inr a ↦
      let d = and_parts (tag == 2) (is_from 7 1031 count) a in
      let r = and_parts (nat_le 7 count) (nat_le count 1031) d.1 in
      (eqb-true tag 2 d.0, leb-true 7 count r.0, leb-true count 1031 r.1)
]

text_asks : (count tag : ℕ) → tag < 2 → 3 ≤ count → count ≤ 1027 → asks count tag ≡ true
text_asks count tag small low most =
    or_left (nat_lt tag 2 && is_from 3 1027 count) (tag == 2 && is_from 7 1031 count)
    (and_from (nat_lt tag 2) (is_from 3 1027 count) (lt-ltb tag 2 small) (and_from (nat_le 3 count) (nat_le count 1027) (le-leb 3 count low) (le-leb count 1027 most)))

place_asks : (count : ℕ) → 7 ≤ count → count ≤ 1031 → asks count 2 ≡ true
place_asks count low most =
    or_right (nat_lt 2 2 && is_from 3 1027 count) (2 == 2 && is_from 7 1031 count)
    (and_from (2 == 2) (is_from 7 1031 count) refl (and_from (nat_le 7 count) (nat_le count 1031) (le-leb 7 count low) (le-leb count 1031 most)))

again : (count : ℕ) → 1 ≤ count → count - 1 + 1 ≡ count
again count h = omega arith

asked_form : (count tag : ℕ) → 3 ≤ count → asks count tag ≡ true → Form question_rest (IsAsked count tag) (asked_in tag (count - 1))
asked_form count zero low e =
    let r = asks_text count 0 (omega arith) e in
    subst (λ n. Form question_rest (IsAsked n 0) (asked_in 0 (count - 1))) (again count (omega arith)) (barcode_form (count - 1) (omega (arith, r.0)) (omega (arith, r.1)))
asked_form count (suc zero) low e =
    let r = asks_text count 1 (omega arith) e in
    subst (λ n. Form question_rest (IsAsked n 1) (asked_in 1 (count - 1))) (again count (omega arith)) (order_form (count - 1) (omega (arith, r.0)) (omega (arith, r.1)))
asked_form count (suc (suc zero)) low e =
    let r = asks_place count 2 (omega arith) e in
    subst (λ n. Form question_rest (IsAsked n 2) (asked_in 2 (count - 1))) (again count (omega arith)) (place_form (count - 1) (omega (arith, r.1)) (omega (arith, r.2)))
asked_form count (suc (suc (suc tag))) low e =
    let r = asks_place count (suc (suc (suc tag))) (omega arith) e in
    absurd (omega (arith, r.0))

question_keeps : (count : ℕ) (question : Question) → IsQuestionOf count question → asks count (question_tag question) ≡ true
question_keeps count (questions.Barcode text) is = text_asks count 0 (omega arith) (omega (arith, is.size)) (omega (arith, is.size, is.question_is.short))
question_keeps count (questions.Order text) is = text_asks count 1 (omega arith) (omega (arith, is.size)) (omega (arith, is.size, is.question_is.short))
question_keeps count (questions.Place magazine slot) is = place_asks count (omega (arith, is.size, place_size magazine slot)) (omega (arith, is.size, place_size magazine slot, is.question_is.0.short))

some_asked : (count tag : ℕ) → asks count tag ≡ true → (question : Question) × IsAsked count tag question
some_asked count zero e =
    let r = asks_text count 0 (omega arith) e in
    let t = some_text (count - 3) (omega (arith, r.1)) in
    (questions.Barcode t.0, record { whole_is = record { question_is = t.1.text_is; size = omega (arith, t.1.size, r.0) }; key_is = refl })
some_asked count (suc zero) e =
    let r = asks_text count 1 (omega arith) e in
    let t = some_text (count - 3) (omega (arith, r.1)) in
    (questions.Order t.0, record { whole_is = record { question_is = t.1.text_is; size = omega (arith, t.1.size, r.0) }; key_is = refl })
some_asked count (suc (suc zero)) e =
    let r = asks_place count 2 (omega arith) e in
    let t = some_text (count - 7) (omega (arith, r.2)) in
    (questions.Place t.0 0, record { whole_is = record { question_is = (t.1.text_is, omega arith); size = omega (arith, t.1.size, r.1, place_size t.0 0) }; key_is = refl })
some_asked count (suc (suc (suc tag))) e =
    let r = asks_place count (suc (suc (suc tag))) (omega arith) e in
    absurd (omega (arith, r.0))

pub some_question : (count : ℕ) → 3 ≤ count → count ≤ 1031 → (question : Question) × IsQuestionOf count question
some_question count low most = elim (cases_lt count 1028) [
  | inl a ↦ let q = some_asked count 0 (text_asks count 0 (omega arith) low (omega arith)) in (q.0, q.1.whole_is)
  | inr a ↦ let q = some_asked count 2 (place_asks count (omega arith) most) in (q.0, q.1.whole_is)
]

tag_there : (count : ℕ) → 3 ≤ count → count ≤ 1031 → Form (λ b. b ∷ []) (λ b. asks count b ≡ true) (byte_in (asks count))
tag_there count low most = elim (cases_lt count 1028) [
  | inl a ↦ byte_form (asks count) 0 (text_asks count 0 (omega arith) low (omega arith))
  | inr a ↦ byte_form (asks count) 2 (place_asks count (omega arith) most)
]

question_spelled : (question : Question) → question_bytes question ≡ (question_tag question ∷ []) ++ question_rest question
question_spelled (questions.Barcode text) = refl
question_spelled (questions.Order text) = refl
question_spelled (questions.Place magazine slot) = refl

pub question_form : (count : ℕ) → 3 ≤ count → count ≤ 1031 → Form question_bytes (IsQuestionOf count) (question_in count)
question_form count low most =
    reform (λ question. (question_tag question ∷ []) ++ question_rest question) question_bytes (IsQuestionOf count) (IsQuestionOf count) (question_in count) (question_in count)
    (behind 1 (λ b. b ∷ []) (λ b. asks count b ≡ true) (byte_in (asks count)) question_tag question_rest (IsQuestionOf count) (λ tag. asked_in tag (count - 1))
    (tag_there count low most) (λ b is. refl) (λ tag is. asked_form count tag low is) (question_keeps count) (some_asked count))
    (λ question is. is) (λ question is. is) (λ question is. question_spelled question) (λ bytes. refl)

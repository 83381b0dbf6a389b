-- The bytes that have not arrived: they come in the order in which they were sent.
use Rattle.std.proofs.Common.{◌≡◌, refl, sym, ◌∙◌, ap, arith, ℕ, ◌+◌, ◌-◌, ◌≤◌, Bool, true, false, List, [], ◌∷◌, ◌++◌, drop, length, nat_lt, take, if◌then◌else◌, ltb-true, ltb-false, eqb-true}
use Rattle.std.proofs.lemmas.List.{append_assoc, append-nil, drop-append-le, drop-drop, drop_all, length-append, length-take-le, drop_at}
use Rattle.line_link.specs.Texts.{bytes_of}
use Rattle.line_link.specs.Flow.{Stream, coming, is_begun, nul_put, reached, with_arrival, with_nul, with_text}

pub bytes_of-append : (front back : List (List ℕ)) → bytes_of (front ++ back) ≡ bytes_of front ++ bytes_of back
bytes_of-append [] back = refl
bytes_of-append (text ∷ front) back = ap (λ (l : List ℕ). text ++ l) (bytes_of-append front back) ∙ sym (append_assoc text (bytes_of front) (bytes_of back))

-- of a begun list of texts no more has arrived than it has
pub begun_within : (texts : List (List ℕ)) (arrived : ℕ) → is_begun texts arrived ≡ true → arrived ≤ length (bytes_of texts)
begun_within [] arrived begun = omega (arith, eqb-true arrived 0 begun)
begun_within (text ∷ texts) arrived begun = omega (arith, length-append text (bytes_of texts), ltb-true arrived (length text) begun)

-- a text that is sent comes behind the others
pub coming_of_text : (text : List ℕ) (stream : Stream) → is_begun stream.texts stream.arrived ≡ true → coming (with_text text stream) ≡ coming stream ++ text
coming_of_text [] stream begun = sym (append-nil (coming stream))
coming_of_text (byte ∷ bytes) stream begun =
    ap (λ (l : List ℕ). drop stream.arrived l) (bytes_of-append stream.texts ((byte ∷ bytes) ∷ []))
    ∙ ap (λ (l : List ℕ). drop stream.arrived (bytes_of stream.texts ++ l)) (append-nil (byte ∷ bytes))
    ∙ drop-append-le stream.arrived (bytes_of stream.texts) (byte ∷ bytes) (begun_within stream.texts stream.arrived begun)

reached_step : (count : ℕ) (text : List ℕ) (texts : List (List ℕ)) (within : Bool) → nat_lt count (length text) ≡ within
    → coming (reached (count - length text) texts) ≡ drop (count - length text) (bytes_of texts)
    → coming (if within then record { texts = text ∷ texts; arrived = count } else reached (count - length text) texts) ≡ drop count (text ++ bytes_of texts)
reached_step count text texts true is later = refl
reached_step count text texts false is later =
    let beyond : length text + (count - length text) ≡ count = omega (arith, ltb-false count (length text) is) in
    later
    ∙ ap (λ (l : List ℕ). drop (count - length text) l) (sym (drop_at text (bytes_of texts) (length text) refl))
    ∙ drop-drop (count - length text) (length text) (text ++ bytes_of texts)
    ∙ ap (λ (n : ℕ). drop n (text ++ bytes_of texts)) beyond

coming-reached : (count : ℕ) (texts : List (List ℕ)) → coming (reached count texts) ≡ drop count (bytes_of texts)
coming-reached count [] = sym (drop_all count [] (omega arith))
coming-reached count (text ∷ texts) = reached_step count text texts (nat_lt count (length text)) refl (coming-reached (count - length text) texts)

-- bytes that arrive are the first that were coming
pub coming_of_arrival : (count : ℕ) (stream : Stream) → coming (with_arrival count stream) ≡ drop count (coming stream)
coming_of_arrival count stream = coming-reached (stream.arrived + count) stream.texts ∙ sym (drop-drop count stream.arrived (bytes_of stream.texts))

-- a NUL byte that is put in comes next
coming-nul_put : (texts : List (List ℕ)) (arrived : ℕ) → is_begun texts arrived ≡ true → coming (nul_put texts arrived) ≡ 0 ∷ drop arrived (bytes_of texts)
coming-nul_put [] arrived begun = rw (eqb-true arrived 0 begun) refl
coming-nul_put (text ∷ texts) arrived begun =
    let within : arrived ≤ length text = omega (arith, ltb-true arrived (length text) begun) in
    let front = take arrived text in
    let size : length front ≡ arrived = length-take-le arrived text within in
    ap (λ (l : List ℕ). drop arrived l) (append_assoc front (0 ∷ drop arrived text) (bytes_of texts))
    ∙ drop_at front ((0 ∷ drop arrived text) ++ bytes_of texts) arrived size
    ∙ ap (λ (l : List ℕ). 0 ∷ l) (sym (drop-append-le arrived text (bytes_of texts) within))

pub coming_of_nul : (stream : Stream) → is_begun stream.texts stream.arrived ≡ true → coming (with_nul stream) ≡ 0 ∷ coming stream
coming_of_nul stream begun = coming-nul_put stream.texts stream.arrived begun

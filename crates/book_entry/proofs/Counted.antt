-- Sensor events read one after another.
use Rattle.std.proofs.Common.{◌≡◌, ℕ, zero, suc, ◌+◌, ◌-◌, ◌*◌, ◌<◌, ◌≤◌, List, [], ◌∷◌, ◌++◌, Result, Ok, Err, length, drop, take, get_or, refl, sym, ap, ◌∙◌, subst, arith, append_assoc, append-nil}
use Rattle.std.proofs.lemmas.List.{drop-drop, take_more}
use Rattle.std.specs.List.{flat_map}
use Rattle.line_base.specs.Results.{then_ok, mapped_ok}
use Rattle.board_record.specs.declared.sensed.Sensed.{Sensed}
use Rattle.book_entry.specs.declared.fault.Fail.{Fail}
use Rattle.book_entry.specs.declared.fault.EntryError.{EntryError}
use Rattle.book_entry.specs.declared.fault.EntryError.TheVariants as errors
use Rattle.book_entry.specs.declared.fault.Fail.TheVariants as fails
use Rattle.book_entry.specs.Answers.{Reads}
use Rattle.book_entry.specs.Reading.{IsPut, PutsOne, events_in, put, sensed_in}
use Rattle.book_entry.specs.Spelling.{events_bytes, sensed_bytes}

-- the events so far, and those that are still to be read
abbrev pub joined : List Sensed → Result (List Sensed) Fail → Result (List Sensed) Fail
joined events rest = mapped_ok (λ more. events ++ more) rest

joined_put : (events : List Sensed) (sensed : Sensed) (rest : Result (List Sensed) Fail) → joined events (mapped_ok (put sensed) rest) ≡ joined (events ++ sensed ∷ []) rest
joined_put events sensed (Ok more) = ap Ok (sym (append_assoc events (sensed ∷ []) more))
joined_put events sensed (Err why) = refl

nothing_joined : (rest : Result (List Sensed) Fail) → rest ≡ joined [] rest
nothing_joined (Ok more) = refl
nothing_joined (Err why) = refl

pub events_start : (count : ℕ) (bytes : List ℕ) → events_in count bytes ≡ joined [] (events_in (count - 0) (drop (3 * 0) bytes))
events_start count bytes = nothing_joined (events_in count bytes) ∙ ap (λ n. joined [] (events_in n bytes)) (less_nothing count)
  where
    less_nothing : (n : ℕ) → n ≡ n - 0
    less_nothing n = omega arith

one_event : (left : ℕ) (bytes : List ℕ) → 0 < left → events_in left bytes ≡ then_ok (sensed_in bytes) (λ sensed. mapped_ok (put sensed) (events_in (left - 1) (drop 3 bytes)))
unfolding events_in
one_event zero bytes h = absurd (omega arith)
one_event (suc n) bytes h = ap (λ m. then_ok (sensed_in bytes) (λ sensed. mapped_ok (put sensed) (events_in m (drop 3 bytes)))) (suc_less n)
  where
    suc_less : (n : ℕ) → n ≡ suc n - 1
    suc_less n = omega arith

events_more : (count i : ℕ) (bytes : List ℕ) (events : List Sensed) (sensed : Sensed) → i < count → events_in count bytes ≡ joined events (events_in (count - i) (drop (3 * i) bytes)) → sensed_in (drop (3 * i) bytes) ≡ Ok sensed
    → events_in count bytes ≡ joined (events ++ sensed ∷ []) (events_in (count - (i + 1)) (drop (3 * (i + 1)) bytes))
events_more count i bytes events sensed h e found =
    let left : count - i - 1 ≡ count - (i + 1) = omega arith in
    let at : 3 * i + 3 ≡ 3 * (i + 1) = omega arith in
    e
    ∙ ap (joined events) (one_event (count - i) (drop (3 * i) bytes) (omega arith) ∙ ap (λ r. then_ok r (λ s. mapped_ok (put s) (events_in (count - i - 1) (drop 3 (drop (3 * i) bytes))))) found)
    ∙ joined_put events sensed (events_in (count - i - 1) (drop 3 (drop (3 * i) bytes)))
    ∙ ap (λ n. joined (events ++ sensed ∷ []) (events_in n (drop 3 (drop (3 * i) bytes)))) left
    ∙ ap (λ (x : List ℕ). joined (events ++ sensed ∷ []) (events_in (count - (i + 1)) x)) (drop-drop 3 (3 * i) bytes ∙ ap (λ n. drop n bytes) at)

events_fail : (count i : ℕ) (bytes : List ℕ) (events : List Sensed) (why : Fail) → i < count → events_in count bytes ≡ joined events (events_in (count - i) (drop (3 * i) bytes)) → sensed_in (drop (3 * i) bytes) ≡ Err why → events_in count bytes ≡ Err why
events_fail count i bytes events why h e found =
    e
    ∙ ap (joined events) (one_event (count - i) (drop (3 * i) bytes) (omega arith) ∙ ap (λ r. then_ok r (λ s. mapped_ok (put s) (events_in (count - i - 1) (drop 3 (drop (3 * i) bytes))))) found)

pub events_end : (count i : ℕ) (bytes : List ℕ) (events : List Sensed) → count ≤ i → events_in count bytes ≡ joined events (events_in (count - i) (drop (3 * i) bytes)) → events_in count bytes ≡ Ok events
unfolding events_in
events_end count i bytes events h e =
    let none : count - i ≡ 0 = omega arith in
    e ∙ ap (λ n. joined events (events_in n (drop (3 * i) bytes))) none ∙ ap Ok (append-nil events)

events_stop : (count i : ℕ) (bytes : List ℕ) (events more : List Sensed) (error : EntryError) → i < count → events_in count bytes ≡ joined events (events_in (count - i) (drop (3 * i) bytes)) → PutsOne (sensed_in (drop (3 * i) bytes)) events (Err error) more → Reads {A = List Sensed} (events_in count bytes) (Err error)
events_stop count i bytes events more errors.Short h e puts = events_fail count i bytes events fails.Short h e puts
events_stop count i bytes events more errors.Bad h e puts = events_fail count i bytes events fails.Bad h e puts
events_stop count i bytes events more errors.Memory h e puts = tt

events_put : (count i : ℕ) (bytes : List ℕ) (events more : List Sensed) → i < count → events_in count bytes ≡ joined events (events_in (count - i) (drop (3 * i) bytes)) → IsPut (sensed_in (drop (3 * i) bytes)) events more
    → events_in count bytes ≡ joined more (events_in (count - (i + 1)) (drop (3 * (i + 1)) bytes))
events_put count i bytes events more h e is =
    events_more count i bytes events is.sensed h e is.read
    ∙ ap (λ (es : List Sensed). joined es (events_in (count - (i + 1)) (drop (3 * (i + 1)) bytes))) (sym is.put)

pub stop_at : (count i : ℕ) (bytes rest : List ℕ) (events more : List Sensed) (error : EntryError) → i < count → events_in count bytes ≡ joined events (events_in (count - i) (drop (3 * i) bytes)) → rest ≡ drop (3 * i) bytes → PutsOne (sensed_in rest) events (Err error) more → Reads {A = List Sensed} (events_in count bytes) (Err error)
stop_at count i bytes rest events more error h e r puts = events_stop count i bytes events more error h e (subst (λ (x : List ℕ). PutsOne (sensed_in x) events (Err error) more) r puts)

pub put_at : (count i : ℕ) (bytes rest : List ℕ) (events more : List Sensed) → i < count → events_in count bytes ≡ joined events (events_in (count - i) (drop (3 * i) bytes)) → rest ≡ drop (3 * i) bytes → IsPut (sensed_in rest) events more
    → events_in count bytes ≡ joined more (events_in (count - (i + 1)) (drop (3 * (i + 1)) bytes))
put_at count i bytes rest events more h e r is = events_put count i bytes events more h e (subst (λ (x : List ℕ). IsPut (sensed_in x) events more) r is)

-- ---- and written one after another

pub bytes_push : (events : List Sensed) (sensed : Sensed) → events_bytes (events ++ sensed ∷ []) ≡ events_bytes events ++ sensed_bytes sensed
bytes_push [] sensed = refl
bytes_push (first ∷ events) sensed = ap (λ (x : List ℕ). sensed_bytes first ++ x) (bytes_push events sensed)

pub bytes_more : (events : List Sensed) (i : ℕ) (d : Sensed) (before now after : List ℕ) → i < length events → now ≡ before ++ events_bytes (take i events) → after ≡ now ++ sensed_bytes (get_or events i d) → after ≡ before ++ events_bytes (take (i + 1) events)
bytes_more events i d before now after h e f =
    f ∙ ap (λ (x : List ℕ). x ++ sensed_bytes (get_or events i d)) e ∙ append_assoc before (events_bytes (take i events)) (sensed_bytes (get_or events i d))
    ∙ ap (λ (x : List ℕ). before ++ x) (sym (ap events_bytes (take_more events i d h) ∙ bytes_push (take i events) (get_or events i d)))

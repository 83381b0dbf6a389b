-- What reading answers, from what the reading of the whole keeps.
use Rattle.std.proofs.Common.{◌≡◌, ℕ, ◌+◌, ◌<◌, ◌≤◌, List, [], ◌∷◌, ◌++◌, Result, Ok, Err, length, drop, refl, sym, ap, ◌∙◌, subst, arith, append_assoc, append-nil, length-append, ◌⊎◌, inl, inr, eq-zero-or-pos}
use Rattle.std.proofs.lemmas.List.{drop_at, nil_from_length}
use Rattle.book_entry.specs.declared.entry.Entry.{Entry}
use Rattle.book_entry.specs.declared.fault.EntryError.{EntryError}
use Rattle.book_entry.specs.declared.fault.EntryError.TheVariants as errors
use Rattle.book_entry.specs.declared.fault.Fail.{Fail}
use Rattle.book_entry.specs.declared.fault.Fail.TheVariants as fails
use Rattle.book_entry.specs.Answers.{Reads}
use Rattle.book_entry.specs.Fronts.{AnswersEntry, AnswersShort, Begins, IsBad, IsFound, IsFront, ReadsEntry}
use Rattle.book_entry.specs.Reading.{entry_in}
use Rattle.book_entry.specs.Spelling.{AreBytes, IsEntry, spelling}
use Rattle.book_entry.proofs.Forms.{Form, GoesOn, IsRead}
use Rattle.book_entry.proofs.Entries.{IsWhole, entry_form, own_spelling}

-- what is read of bytes that begin with an entry
pub read_of : (entry : Entry) (rest : List ℕ) → IsEntry entry → entry_in (spelling entry ++ rest) ≡ Ok (entry, length (spelling entry))
read_of entry rest is = entry_form.back (entry, length (spelling entry)) rest (record { entry_is = is; size_is = refl })

found_of : (bytes : List ℕ) (found : Entry × ℕ) → IsRead own_spelling IsWhole bytes found → IsFound bytes found.0 found.1
found_of bytes found is = record {
  entry_is = is.value_fits.entry_is;
  spelled = is.spelled ∙ ap (λ (x : List ℕ). spelling found.0 ++ x) (sym (ap (drop found.1) is.spelled ∙ drop_at (spelling found.0) is.rest found.1 (sym is.value_fits.size_is)));
  size_is = is.value_fits.size_is;
}

-- a front that ends where the entry does would be read
proper_by : (bytes more : List ℕ) (entry : Entry) → IsEntry entry → entry_in bytes ≡ Err fails.Short → bytes ++ more ≡ spelling entry → (length more ≡ 0) ⊎ (0 < length more) → 0 < length more
proper_by bytes more entry is e p (inr some) = some
proper_by bytes more entry is e p (inl none) =
    let nothing : more ≡ [] = nil_from_length more none in
    let same : bytes ≡ spelling entry ++ [] = sym (append-nil bytes) ∙ ap (λ (x : List ℕ). bytes ++ x) (sym nothing) ∙ p ∙ sym (append-nil (spelling entry)) in
    let read : entry_in bytes ≡ Ok (entry, length (spelling entry)) = ap entry_in same ∙ read_of entry [] is in
    absurd (cc (read, e))

front_of : (bytes : List ℕ) → entry_in bytes ≡ Err fails.Short → GoesOn own_spelling IsWhole bytes → IsFront bytes
front_of bytes e is = record {
  entry = is.value.0;
  entry_is = is.value_fits.entry_is;
  more = is.more;
  spelled = is.spelled;
  proper = proper_by bytes is.more is.value.0 is.value_fits.entry_is e is.spelled (eq-zero-or-pos (length is.more));
}

bad_of : (bytes : List ℕ) → AreBytes bytes → entry_in bytes ≡ Err fails.Bad → IsBad bytes
bad_of bytes are e = record {
  no_entry = λ entry begins. entry_form.bad bytes [] begins.rest (entry, length (spelling entry)) are e (record { entry_is = begins.entry_is; size_is = refl }) (append-nil bytes ∙ begins.spelled);
  no_front = λ front. entry_form.bad bytes front.more [] (front.entry, length (spelling front.entry)) are e (record { entry_is = front.entry_is; size_is = refl }) (front.spelled ∙ sym (append-nil (spelling front.entry)));
}

pub reads : (bytes : List ℕ) (result : Result (Entry × ℕ) EntryError) → AreBytes bytes → Reads (entry_in bytes) result → ReadsEntry bytes result
reads bytes (Ok found) are e = found_of bytes found (entry_form.only bytes found are e)
reads bytes (Err errors.Short) are e = front_of bytes e (entry_form.short bytes are e)
reads bytes (Err errors.Bad) are e = bad_of bytes are e
reads bytes (Err errors.Memory) are e = tt

abbrev found_pair : Entry → ℕ → Result (Entry × ℕ) Fail
found_pair entry size = Ok (entry, size)

pair_first : (a b : Entry) (m n : ℕ) → found_pair a m ≡ found_pair b n → a ≡ b
pair_first a b m n e = ap (λ (r : Result (Entry × ℕ) Fail). first_entry a r) e
  where
    first_entry : Entry → Result (Entry × ℕ) Fail → Entry
    first_entry d (Ok p) = p.0
    first_entry d (Err f) = d

pair_second : (a b : Entry) (m n : ℕ) → found_pair a m ≡ found_pair b n → m ≡ n
pair_second a b m n e = ap (λ (r : Result (Entry × ℕ) Fail). second_size r) e
  where
    second_size : Result (Entry × ℕ) Fail → ℕ
    second_size (Ok p) = p.1
    second_size (Err f) = 0

pub reads_begun : (bytes : List ℕ) (result : Result (Entry × ℕ) EntryError) (entry : Entry) → Reads (entry_in bytes) result → Begins bytes entry → AnswersEntry result entry
reads_begun bytes (Ok found) entry e begins =
    let read : entry_in bytes ≡ Ok (entry, length (spelling entry)) = ap entry_in begins.spelled ∙ read_of entry begins.rest begins.entry_is in
    let same : found_pair found.0 found.1 ≡ found_pair entry (length (spelling entry)) = sym e ∙ read in
    (pair_first found.0 entry found.1 (length (spelling entry)) same, pair_second found.0 entry found.1 (length (spelling entry)) same)
reads_begun bytes (Err errors.Short) entry e begins =
    let read : entry_in bytes ≡ Ok (entry, length (spelling entry)) = ap entry_in begins.spelled ∙ read_of entry begins.rest begins.entry_is in
    absurd (cc (read, e))
reads_begun bytes (Err errors.Bad) entry e begins =
    let read : entry_in bytes ≡ Ok (entry, length (spelling entry)) = ap entry_in begins.spelled ∙ read_of entry begins.rest begins.entry_is in
    absurd (cc (read, e))
reads_begun bytes (Err errors.Memory) entry e begins = tt

-- no bytes both begin with an entry and are a proper front of one
pub never_both : (bytes : List ℕ) (entry : Entry) → Begins bytes entry → IsFront bytes → ⊥
never_both bytes entry begins front =
    let long : bytes ++ front.more ≡ spelling entry ++ (begins.rest ++ front.more) = ap (λ (x : List ℕ). x ++ front.more) begins.spelled ∙ append_assoc (spelling entry) begins.rest front.more in
    let one : entry_in (bytes ++ front.more) ≡ Ok (entry, length (spelling entry)) = ap entry_in long ∙ read_of entry (begins.rest ++ front.more) begins.entry_is in
    let other : entry_in (bytes ++ front.more) ≡ Ok (front.entry, length (spelling front.entry)) = ap entry_in (front.spelled ∙ sym (append-nil (spelling front.entry))) ∙ read_of front.entry [] front.entry_is in
    let size : length (spelling entry) ≡ length (spelling front.entry) = pair_second entry front.entry (length (spelling entry)) (length (spelling front.entry)) (sym one ∙ other) in
    let a = ap length begins.spelled in
    let b = ap length front.spelled in
    absurd (omega (arith, size, a, b, front.proper, length-append (spelling entry) begins.rest, length-append bytes front.more))

pub reads_front : (bytes : List ℕ) (result : Result (Entry × ℕ) EntryError) → AreBytes bytes → Reads (entry_in bytes) result → IsFront bytes → AnswersShort result
reads_front bytes (Ok found) are e front =
    let is = entry_form.only bytes found are e in
    never_both bytes found.0 (record { entry_is = is.value_fits.entry_is; rest = is.rest; spelled = is.spelled }) front
reads_front bytes (Err errors.Short) are e front = tt
reads_front bytes (Err errors.Bad) are e front = (bad_of bytes are e).no_front front
reads_front bytes (Err errors.Memory) are e front = tt

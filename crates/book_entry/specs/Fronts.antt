-- What bytes begin with: an entry, a part of one, or neither; and what reading answers.
use Rattle.std.specs.Prelude.{◌≡◌, ◌<◌, ℕ, List, ◌++◌, Result, Ok, Err, length, drop}
use Rattle.book_entry.specs.declared.entry.Entry.{Entry}
use Rattle.book_entry.specs.declared.fault.EntryError.{EntryError}
use Rattle.book_entry.specs.declared.fault.EntryError.TheVariants as errors
use Rattle.book_entry.specs.Spelling.{IsEntry, spelling}

-- the bytes begin with the spelling of this entry
pub record Begins (bytes : List ℕ) (entry : Entry) : Type 0 where
  pub entry_is : IsEntry entry
  pub rest : List ℕ
  pub spelled : bytes ≡ spelling entry ++ rest

-- the bytes are a proper front of the spelling of some entry
pub record IsFront (bytes : List ℕ) : Type 0 where
  pub entry : Entry
  pub entry_is : IsEntry entry
  pub more : List ℕ
  pub spelled : bytes ++ more ≡ spelling entry
  pub proper : 0 < length more

-- they begin with an entry, which is so many bytes
pub record IsFound (bytes : List ℕ) (entry : Entry) (size : ℕ) : Type 0 where
  pub entry_is : IsEntry entry
  pub spelled : bytes ≡ spelling entry ++ drop size bytes
  pub size_is : size ≡ length (spelling entry)

-- they neither begin with an entry nor are the front of one
pub record IsBad (bytes : List ℕ) : Type 0 where
  pub no_entry : (entry : Entry) → Begins bytes entry → ⊥
  pub no_front : IsFront bytes → ⊥

-- ---- what reading answers

abbrev pub ReadsEntry : List ℕ → Result (Entry × ℕ) EntryError → Type 0
ReadsEntry bytes (Ok found) = IsFound bytes found.0 found.1
ReadsEntry bytes (Err errors.Short) = IsFront bytes
ReadsEntry bytes (Err errors.Bad) = IsBad bytes
ReadsEntry bytes (Err errors.Memory) = Unit {0}

-- the answer is this entry, unless memory ran out
abbrev pub AnswersEntry : Result (Entry × ℕ) EntryError → Entry → Type 0
AnswersEntry (Ok found) entry = (found.0 ≡ entry) × (found.1 ≡ length (spelling entry))
AnswersEntry (Err errors.Short) entry = ⊥
AnswersEntry (Err errors.Bad) entry = ⊥
AnswersEntry (Err errors.Memory) entry = Unit {0}

-- the answer is that they are a front, unless memory ran out
abbrev pub AnswersShort : Result (Entry × ℕ) EntryError → Type 0
AnswersShort (Ok found) = ⊥
AnswersShort (Err errors.Short) = Unit {0}
AnswersShort (Err errors.Bad) = ⊥
AnswersShort (Err errors.Memory) = Unit {0}

-- What is written piece by piece is the spelling.
use Rattle.std.proofs.Common.{◌≡◌, ℕ, ◌^◌, ◌<◌, List, [], ◌++◌, length, arith, sym, ap, ◌∙◌, append_assoc}
use Rattle.std.specs.Int.{to_be_bytes, w32}
use Rattle.book_entry.specs.declared.entry.Entry.{Entry}
use Rattle.book_entry.specs.Spelling.{body_bytes, field_bytes, spelling}
use Rattle.book_entry.proofs.Entries.{body_size}

-- the fields of an entry that can be written are no longer than it
pub fields_short : (entry : Entry) → length (body_bytes entry) < 2 ^ 32 → length (field_bytes entry.input) < 2 ^ 32
fields_short entry h = omega (arith, body_size entry)

pub entry_written : (entry : Entry) (before between now body header : List ℕ) (count : ℕ) → body ≡ [] ++ body_bytes entry → count ≡ length body → header ≡ to_be_bytes w32 count → between ≡ before ++ header → now ≡ between ++ body → now ≡ before ++ spelling entry
entry_written entry before between now body header count b n h e f =
    f ∙ ap (λ (x : List ℕ). x ++ body) (e ∙ ap (λ (x : List ℕ). before ++ x) (h ∙ ap (to_be_bytes w32) n))
    ∙ append_assoc before (to_be_bytes w32 (length body)) body
    ∙ ap (λ (x : List ℕ). before ++ (to_be_bytes w32 (length x) ++ x)) b

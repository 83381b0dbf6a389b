-- Two entries and their bytes, written by hand from the form.
use Rattle.std.specs.Prelude.{ℕ, pos, List, [], ◌∷◌}
use Rattle.line_base.specs.declared.states.Side.TheVariants.{Exit}
use Rattle.book_entry.specs.declared.entry.Entry.{Entry}
use Rattle.book_entry.specs.declared.entry.OwnInput.TheVariants as inputs

-- accepted without events, at moment 0
abbrev pub accepted_entry : Entry
accepted_entry = record { sensed = []; input = inputs.Accepted; moment = pos 0 }

abbrev pub accepted_bytes : List ℕ
accepted_bytes =
    0 ∷ 0 ∷ 0 ∷ 11 ∷ 0 ∷ 0 ∷ 0 ∷ 0 ∷ 0 ∷ 0 ∷ 0 ∷ 0 ∷ 0 ∷ 0 ∷ 2 ∷ []

-- a notice of the exit without events, at moment 0
abbrev pub notice_entry : Entry
notice_entry = record { sensed = []; input = inputs.Notice Exit; moment = pos 0 }

abbrev pub notice_bytes : List ℕ
notice_bytes =
    0 ∷ 0 ∷ 0 ∷ 12 ∷ 0 ∷ 0 ∷ 0 ∷ 0 ∷ 0 ∷ 0 ∷ 0 ∷ 0 ∷ 0 ∷ 0 ∷ 5 ∷ 1 ∷ []

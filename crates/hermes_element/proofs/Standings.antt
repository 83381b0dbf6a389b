-- What stood in a text still stands.
use Rattle.std.proofs.Common.{◌≡◌, ℕ, List, [], ◌++◌, length, take, refl, sym, ap, ◌∙◌, append_assoc, append-nil}
use Rattle.std.proofs.lemmas.List.{take_at}
use Rattle.hermes_element.specs.Standing.{StillStands}

-- behind what was appended
pub stands-append : (before rest now : List ℕ) → now ≡ before ++ rest → StillStands before now
stands-append before rest now is = record { rest = rest; is = is }

-- where nothing was
pub stands-same : (before now : List ℕ) → now ≡ before → StillStands before now
stands-same before now is = record { rest = []; is = is ∙ sym (append-nil before) }

-- after one more
pub stands-then : {before between now : List ℕ} → StillStands before between → StillStands between now → StillStands before now
stands-then {before} one more = record {
  rest = one.rest ++ more.rest;
  is = more.is ∙ ap (λ b. b ++ more.rest) one.is ∙ append_assoc before one.rest more.rest;
}

-- so it is there again once the rest is cut off
pub stands-cut : (before now : List ℕ) (count : ℕ) → count ≡ length before → StillStands before now → take count now ≡ before
stands-cut before now count size stands = ap (take count) stands.is ∙ take_at before stands.rest count (sym size)

-- What is among the happenings that are told.
use Rattle.std.specs.Prelude.{List, ◌∷◌}
use Rattle.line_report.specs.declared.happening.Happening.{Happening}

pub data IsTold (h : Happening) : List Happening → Type 0 where
  told_first : {told : List Happening} → IsTold h (h ∷ told)
  told_later : {other : Happening} {told : List Happening} → IsTold h told
      → IsTold h (other ∷ told)

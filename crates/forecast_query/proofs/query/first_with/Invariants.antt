use Rattle.std.proofs.Common.{◌≡◌, drop}
use Rattle.std.specs.Option.{option_copied}
use Rattle.forecast_query.specs.Find.{place_from}
use Rattle.forecast_query.proofs.query.first_with.Given as goal

-- the place in all is that in those from here on
abbrev pub invariant-loop-place : goal.invariant-loop-place
invariant-loop-place l = place_from 0 l.kept (option_copied l.top) (option_copied l.bottom) ≡ place_from l.place (drop l.place l.kept) (option_copied l.top) (option_copied l.bottom)

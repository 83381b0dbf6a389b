-- The acts of a machine as the code tells them: an act that was done, and the link that it cut.
use Rattle.std.specs.Prelude.{ℕ, Bool, true, false, List, [], ◌∷◌, Option, Some, None}
use Rattle.node_core.specs.declared.act.Act.{Act}
use Rattle.node_core.specs.declared.act.Act.TheVariants as acts
use Rattle.line_report.specs.declared.happening.Happening.{Happening}
use Rattle.line_report.specs.declared.happening.Happening.TheVariants as happenings

abbrev pub is_drive : Act → Bool
is_drive (acts.Drive side on) = true
is_drive _ = false

-- the link that was cut, where one was
abbrev pub maybe_cut : Option ℕ → List Happening
maybe_cut None = []
maybe_cut (Some link) = happenings.Cut link ∷ []

-- what is told of an act that is a drive, or not, and of the link that it cut
abbrev pub told_with : Bool → ℕ → Act → Option ℕ → List Happening
told_with true machine act cut = []
told_with false machine act cut = happenings.Done machine act ∷ maybe_cut cut

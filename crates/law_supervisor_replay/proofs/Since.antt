-- That a board has left a machine, and the machine below has not started it since: a fold over what was told, which the
-- proofs follow. That it is never started again there is Never.
use Rattle.std.proofs.Common.{ℕ, Bool, false, List, [], ◌∷◌, ◌+◌, ◌==◌, ◌&&◌, ◌||◌}
use Rattle.std.specs.Prelude.{if◌then◌else◌}
use Rattle.node_core.specs.declared.act.Act.TheVariants as acts
use Rattle.node_core.specs.declared.act.Deed.{Deed}
use Rattle.node_core.specs.declared.act.Deed.TheVariants as deeds
use Rattle.line_report.specs.declared.happening.Happening.{Happening}
use Rattle.line_report.specs.declared.happening.Happening.TheVariants as happenings

abbrev pub since_by_deed : ℕ → ℕ → ℕ → Deed → Bool → Bool
since_by_deed gap id machine (deeds.Leaves other) left = ((machine == gap) && (other == id)) || left
since_by_deed gap id machine (deeds.Starts other) left =
    if (machine == gap + 1) && (other == id) then false else left
since_by_deed gap id machine _ left = left

abbrev pub since_with : ℕ → ℕ → Happening → Bool → Bool
since_with gap id (happenings.Done machine (acts.Deed deed)) left =
    since_by_deed gap id machine deed left
since_with gap id _ left = left

abbrev pub since_after : ℕ → ℕ → List Happening → Bool → Bool
since_after gap id [] left = left
since_after gap id (happening ∷ others) left =
    since_after gap id others (since_with gap id happening left)

abbrev pub left_since : ℕ → ℕ → List Happening → Bool
left_since gap id reported = since_after gap id reported false

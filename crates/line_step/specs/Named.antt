-- Which ids the acts of machines name.
use Rattle.std.specs.Prelude.{ℕ, List, [], ◌∷◌}
use Rattle.std.specs.List.{flat_map}
use Rattle.node_core.specs.declared.act.Act.{Act}
use Rattle.node_core.specs.declared.act.Act.TheVariants as acts
use Rattle.node_core.specs.declared.act.Deed.{Deed}
use Rattle.node_core.specs.declared.act.Deed.TheVariants as deeds
use Rattle.line_report.specs.declared.happening.Happening.{Happening}
use Rattle.line_report.specs.declared.happening.Happening.TheVariants as happenings

abbrev pub id_of_deed : Deed → ℕ
id_of_deed (deeds.Opens id) = id
id_of_deed (deeds.Refuses id) = id
id_of_deed (deeds.Leaves id) = id
id_of_deed (deeds.Returns id) = id
id_of_deed (deeds.Loses id) = id
id_of_deed (deeds.Starts id) = id
id_of_deed (deeds.Settles id) = id
id_of_deed (deeds.Drops id) = id

-- those acts that change which records a machine has, and the deeds among them, name their boards
abbrev pub ids_of_act : Act → List ℕ
ids_of_act (acts.Deed deed) = id_of_deed deed ∷ []
ids_of_act (acts.Inserts id) = id ∷ []
ids_of_act (acts.Removes id) = id ∷ []
ids_of_act (acts.Replaces old new) = old ∷ new ∷ []
ids_of_act (acts.Gives id to) = id ∷ []
ids_of_act (acts.Gets id) = id ∷ []
ids_of_act _ = []

abbrev pub ids_of_happening : Happening → List ℕ
ids_of_happening (happenings.Done machine act) = ids_of_act act
ids_of_happening _ = []

-- the ids that acts name, as they are told
abbrev pub ids_named : List Happening → List ℕ
ids_named told = flat_map ids_of_happening told

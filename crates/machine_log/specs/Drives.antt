-- Which drives of a machine run, folded over its acts.
use Rattle.std.specs.Prelude.{Bool, false, List, [], ◌∷◌}
use Rattle.line_base.specs.declared.states.Side.TheVariants.{Entry, Exit}
use Rattle.node_core.specs.declared.act.Act.{Act}
use Rattle.node_core.specs.declared.act.Act.TheVariants as acts
use Rattle.machine_log.specs.declared.drives.Drives.{Drives}

-- those of a machine that did nothing yet
abbrev pub all_off : Drives
all_off = record { entry = false; exit = false }

abbrev pub drives_act : Drives → Act → Drives
drives_act drives (acts.Drive Entry on) = record drives { entry = on }
drives_act drives (acts.Drive Exit on) = record drives { exit = on }
drives_act drives _ = drives

-- THE DRIVES AFTER SOME ACTS: each as the last act of its side says, and as before where none does
abbrev pub drives_after : Drives → List Act → Drives
drives_after drives [] = drives
drives_after drives (act ∷ others) = drives_after (drives_act drives act) others

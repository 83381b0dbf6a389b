-- THE LEVELS of a machine's drives and of a bridge's own signals, as its acts leave them.
use Rattle.std.specs.Prelude.{Bool, false, List, [], ◌∷◌}
use Rattle.line_base.specs.declared.states.Side.TheVariants.{Entry, Exit}
use Rattle.node_core.specs.declared.act.Act.{Act}
use Rattle.node_core.specs.declared.act.Act.TheVariants as acts
use Rattle.node_core.specs.declared.act.Signal.TheVariants as signals
use Rattle.machine_port.specs.declared.levels.Levels.{Levels}

-- those of a machine that did nothing yet
abbrev pub all_off : Levels
all_off = record {
  entry_drive = false;
  exit_drive = false;
  entry_available = false;
  entry_failed = false;
  exit_ready = false;
}

abbrev pub level_act : Levels → Act → Levels
level_act levels (acts.Drive Entry on) = record levels { entry_drive = on }
level_act levels (acts.Drive Exit on) = record levels { exit_drive = on }
level_act levels (acts.Signals signals.EntryAvailable on) =
    record levels { entry_available = on }
level_act levels (acts.Signals signals.EntryFailed on) = record levels { entry_failed = on }
level_act levels (acts.Signals signals.ExitReady on) = record levels { exit_ready = on }
level_act levels _ = levels

-- THE LEVELS AFTER SOME ACTS: each as the last act that speaks of it says, and as before where
-- none does
abbrev pub levels_after : Levels → List Act → Levels
levels_after levels [] = levels
levels_after levels (act ∷ others) = levels_after (level_act levels act) others

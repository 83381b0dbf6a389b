-- WHAT IS SAID OF HOW THE PROGRAM ENDS: one line, which says why, and what to do then.
use Rattle.std.specs.Prelude.{◌≡◌, ◌≤◌, ◌++◌, ℕ, Bool, true, false, List, [], ◌∷◌, Option, Result, Ok, Err, codes, decimal}
use Rattle.line_outside.specs.Faults.{Rose}
use Rattle.line_outside.specs.Sink.{Grows, GrowsInPart}
use Rattle.line_outside.specs.declared.way.Address.{Address}
use Rattle.node_commands.specs.declared.end.EndError.{EndError}
use Rattle.node_commands.specs.declared.end.EndError.TheVariants as ends
use Rattle.node_run.specs.declared.status.NodeStatus.{NodeStatus}
use Rattle.node_run.specs.declared.status.NodeStatus.TheVariants as statuses
use Rattle.node_settings.specs.Settings.{key_text}
use Rattle.node_settings.specs.declared.key.ConfigKey.{ConfigKey}
use Rattle.node_settings.specs.declared.key.ConfigWhy.{ConfigWhy}
use Rattle.node_settings.specs.declared.key.ConfigWhy.TheVariants as whys

abbrev pub why_text : ConfigWhy → List ℕ
why_text whys.TooLarge = codes "too large"
why_text whys.NotToml = codes "no TOML"
why_text whys.Missing = codes "missing"
why_text whys.WrongKind = codes "wrong kind"
why_text whys.OutOfRange = codes "out of range"
why_text whys.UnknownKey = codes "unknown key"

abbrev pub refused_text : ConfigKey → ConfigWhy → List ℕ
refused_text key why =
    codes "node: settings refused: " ++ key_text key ++ codes ": " ++ why_text why
    ++ codes "; mend the file\n"

-- the four parts of an address, as they are written from the left
abbrev pub host_text : List ℕ → List ℕ
host_text (a ∷ b ∷ c ∷ d ∷ []) =
    decimal a ++ codes "." ++ decimal b ++ codes "." ++ decimal c ++ codes "." ++ decimal d
host_text _ = []

abbrev pub unheard_text : Address → List ℕ
unheard_text address =
    codes "node: can't listen at " ++ host_text address.host
    ++ (codes ":" ++ decimal address.port
    ++ codes "; end the program that does, or set another port\n")

-- the line of each end; the panel that ended the run is told nothing
abbrev pub end_text : NodeStatus → List ℕ
end_text statuses.Done = []
end_text statuses.Usage = codes "usage: node <settings file>\n"
end_text (statuses.ConfigRefused key why) = refused_text key why
end_text statuses.ReadFault =
    codes "node: can't read the settings file; give the name of one that may be read\n"
end_text statuses.LogFault =
    codes "node: can't write the log; give its disk room, or its reader time, and start again\n"
end_text statuses.Memory = codes "node: out of memory; end other programs and start again\n"
end_text (statuses.ListenFault address) = unheard_text address
end_text statuses.TurnsUsed =
    codes "node: all turns are used; set more of them and start again\n"

-- the line names what is refused, or an address
abbrev pub names_part : NodeStatus → Bool
names_part (statuses.ConfigRefused key why) = true
names_part (statuses.ListenFault address) = true
names_part status = false

-- the whole line was appended; or the sink failed, whose count rose, and a front of the line was;
-- or nothing was, since a line that names a part wanted memory
abbrev pub TellsEnd : NodeStatus → {A : Type 0} → Result A EndError → Option (List ℕ)
    → Option (List ℕ) → ℕ → ℕ → Type 0
TellsEnd status (Ok told) old new before now = (before ≤ now) × Grows old new (end_text status)
TellsEnd status (Err ends.Fault) old new before now =
    (before ≤ now) × Rose before now × GrowsInPart old new (end_text status)
TellsEnd status (Err ends.Memory) old new before now =
    (names_part status ≡ true) × (new ≡ old) × (now ≡ before)

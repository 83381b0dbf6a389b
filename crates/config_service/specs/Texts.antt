-- The texts of the reasons.
use Rattle.std.specs.Prelude.{ℕ, List, ◌++◌, codes}
use Rattle.std.specs.Fmt.{decimal}
use Rattle.hermes_element.specs.Refusal.{why_text}
use Rattle.config_service.specs.declared.fault.ConfigFault.{ConfigFault}
use Rattle.config_service.specs.declared.fault.ConfigFault.TheVariants as faults
use Rattle.config_service.specs.Names.{attr_text}

abbrev pub fault_text : ConfigFault → List ℕ
fault_text (faults.Form why) = why_text why
fault_text faults.Root = codes "root"
fault_text faults.Count = codes "count"
fault_text (faults.Missing attr) = codes "missing " ++ attr_text attr
fault_text (faults.BadValue attr) = codes "bad " ++ attr_text attr

-- the reason's text, ` at ` and the place
abbrev pub refusal_text : ConfigFault → ℕ → List ℕ
refusal_text why at = fault_text why ++ codes " at " ++ decimal at

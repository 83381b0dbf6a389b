-- The texts of the reasons and of the errors.
use Rattle.std.specs.Prelude.{ℕ, List, ◌++◌, codes}
use Rattle.std.specs.Fmt.{decimal}
use Rattle.hermes_element.specs.Refusal.{why_text}
use Rattle.hermes_horizontal.specs.Attrs.{attr_text}
use Rattle.hermes_horizontal.specs.declared.fault.Fault.{Fault}
use Rattle.hermes_horizontal.specs.declared.fault.Fault.TheVariants as faults
use Rattle.hermes_horizontal.specs.declared.fault.MessageError.{MessageError}
use Rattle.hermes_horizontal.specs.declared.fault.MessageError.TheVariants as errors

abbrev pub fault_text : Fault → List ℕ
fault_text (faults.Form why) = why_text why
fault_text faults.Root = codes "root"
fault_text faults.Count = codes "count"
fault_text (faults.Missing attr) = codes "missing " ++ attr_text attr
fault_text (faults.BadValue attr) = codes "bad " ++ attr_text attr

-- the reason's text, ` at ` and the place
abbrev pub message_refusal_text : Fault → ℕ → List ℕ
message_refusal_text why at = fault_text why ++ codes " at " ++ decimal at

abbrev pub message_error_text : MessageError → List ℕ
message_error_text (errors.Refused at why) = message_refusal_text why at
message_error_text errors.Memory = codes "out of memory"

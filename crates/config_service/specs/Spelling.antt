-- Which bytes spell a message of the configuration service, which are refused, where and why, and
-- what reading answers.
use Rattle.std.specs.Prelude.{◌≡◌, ◌⊎◌, ℕ, List, Result, Ok, Err}
use Rattle.hermes_element.specs.Element.{Tree}
use Rattle.hermes_element.specs.Spelling as form
use Rattle.hermes_element.specs.Refusal as form_refusal
use Rattle.hermes_element.specs.declared.refusal.Why.{Why}
use Rattle.config_service.specs.declared.fault.ConfigError.{ConfigError}
use Rattle.config_service.specs.declared.fault.ConfigError.TheVariants as errors
use Rattle.config_service.specs.declared.fault.ConfigFault.{ConfigFault}
use Rattle.config_service.specs.declared.fault.ConfigFault.TheVariants as faults
use Rattle.config_service.specs.declared.fault.ConfigRefusal.{ConfigRefusal}
use Rattle.config_service.specs.declared.message.ConfigMessage.{ConfigMessage}
use Rattle.config_service.specs.Said.{refusal, message_of}

-- the bytes spell an element that says the message
pub record Spells (bytes : List ℕ) (message : ConfigMessage) : Type 0 where
  pub tree : Tree
  pub element : form.Spells bytes tree
  pub says : message_of tree ≡ Ok message

-- the bytes spell no element
pub record IsFormless (bytes : List ℕ) (at : ℕ) (why : ConfigFault) : Type 0 where
  pub reason : Why
  pub fault : why ≡ faults.Form reason
  pub refused : form_refusal.IsRefused bytes at reason

-- they spell an element that says no message
pub record SaysNothing (bytes : List ℕ) (at : ℕ) (why : ConfigFault) : Type 0 where
  pub tree : Tree
  pub element : form.Spells bytes tree
  pub refused : message_of tree ≡ Err (refusal at why)

abbrev pub IsRefused : List ℕ → ℕ → ConfigFault → Type 0
IsRefused bytes at why = IsFormless bytes at why ⊎ SaysNothing bytes at why

-- ---- what reading answers

-- this, unless memory ran out
abbrev pub Reads : {A : Type 0} → Result A ConfigRefusal → Result A ConfigError → Type 0
Reads wanted (Ok value) = wanted ≡ Ok value
Reads wanted (Err (errors.Refused at why)) = wanted ≡ Err (refusal at why)
Reads wanted (Err errors.Memory) = Unit {0}

-- the same of what was only found, seen by its value
abbrev pub Gives : {X Y : Type 0} → (X → Y) → Result X ConfigRefusal → Result Y ConfigRefusal
    → Type 0
Gives view (Ok x) wanted = wanted ≡ Ok (view x)
Gives view (Err refusal) wanted = wanted ≡ Err refusal

-- a message that the bytes spell, or their refusal where they spell none
abbrev pub ReadsMessage : List ℕ → Result ConfigMessage ConfigError → Type 0
ReadsMessage bytes (Ok message) = Spells bytes message
ReadsMessage bytes (Err (errors.Refused at why)) =
    IsRefused bytes at why × ((message : ConfigMessage) → Spells bytes message → ⊥)
ReadsMessage bytes (Err errors.Memory) = Unit {0}

-- the answer is this message, unless memory ran out
abbrev pub AnswersMessage : Result ConfigMessage ConfigError → ConfigMessage → Type 0
AnswersMessage (Ok message) wanted = message ≡ wanted
AnswersMessage (Err (errors.Refused at why)) wanted = ⊥
AnswersMessage (Err errors.Memory) wanted = Unit {0}

-- the answer is this refusal, unless memory ran out
abbrev pub AnswersRefusal : Result ConfigMessage ConfigError → ℕ → ConfigFault → Type 0
AnswersRefusal (Ok message) at why = ⊥
AnswersRefusal (Err (errors.Refused place reason)) at why = (place ≡ at) × (reason ≡ why)
AnswersRefusal (Err errors.Memory) at why = Unit {0}

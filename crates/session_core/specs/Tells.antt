use Rattle.std.specs.Prelude.{ℕ, List, codes}
use Rattle.line_base.specs.declared.states.Code.{Code}
use Rattle.line_base.specs.declared.states.Severity.{Severity}
use Rattle.line_base.specs.declared.states.Severity.TheVariants.{Error, Warning, Info}
use Rattle.session_core.specs.declared.actions.Tell.{Tell}
use Rattle.session_core.specs.declared.actions.Tell.TheVariants.{AlreadyConnected, Unsettled, Shutdown}

-- what a Notification says
pub record Told : Type 0 where
  pub code : Code
  pub severity : Severity
  pub text : List ℕ

abbrev pub told : ℕ → Severity → List ℕ → Told
told number severity text =
    record { code = record { number = number }; severity = severity; text = text }

-- what the Notifications of a session say
abbrev pub tell_of : Tell → Told
tell_of AlreadyConnected = told 2 Error (codes "already connected")
tell_of Unsettled = told 0 Warning (codes "handover unsettled")
tell_of Shutdown = told 5 Info (codes "shutdown")

abbrev pub tell_code : Tell → Code
tell_code tell = (tell_of tell).code

abbrev pub tell_severity : Tell → Severity
tell_severity tell = (tell_of tell).severity

abbrev pub tell_text : Tell → List ℕ
tell_text tell = (tell_of tell).text

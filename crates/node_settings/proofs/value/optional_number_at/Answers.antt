use Rattle.std.proofs.Common.{ℕ, Option, Result, Err, refl, subst}
use Rattle.toml.specs.Data.{Data}
use Rattle.node_settings.specs.Settings.{Reads, named}
use Rattle.node_settings.specs.Value.{number_as, optional}
use Rattle.node_settings.specs.declared.key.SettingsError.{SettingsError}
use Rattle.node_settings.proofs.Members.{named_some, named_err}
use Rattle.node_settings.proofs.value.optional_number_at.Goals as goal

pub returns-in-Ok-clause-value : goal.returns-in-Ok-clause-value
returns-in-Ok-clause-value c = rw (← c.in-Some.ensures) (named_some c.args.name _ c.in-Ok.number c.in-Ok.ensures.value)

pub returns-in-Err-clause-value : goal.returns-in-Err-clause-value
returns-in-Err-clause-value c =
    let answer : Result (Option ℕ) SettingsError = Err c.in-Err.error in
    let P : Option Data → Type 0 = λ found. Reads (named c.args.name (optional (number_as c.args.low c.args.high) found)) answer in
    subst P c.in-Some.ensures (named_err c.args.name _ c.in-Err.error c.in-Err.ensures.value)

pub returns-in-None-clause-value : goal.returns-in-None-clause-value
returns-in-None-clause-value c = rw (← c.in-None.ensures) refl

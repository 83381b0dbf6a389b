use Rattle.std.proofs.Common.{Bool, List, ℕ, Result, Ok, Err, if◌then◌else◌, arith, refl, sym, subst}
use Rattle.node_settings.proofs.Documents.{is_id_text-good, is_id_text-bad}
use Rattle.node_settings.specs.Settings.{Reads, named}
use Rattle.node_settings.specs.declared.key.ConfigKey.TheVariants as keys
use Rattle.node_settings.specs.declared.key.ConfigWhy.TheVariants as whys
use Rattle.node_settings.specs.declared.key.SettingsError.{SettingsError}
use Rattle.node_settings.proofs.value.id_text_of.Goals as goal

pub returns-in-Ok : goal.returns-in-Ok
returns-in-Ok c =
    let text = c.in-Ok.ensures in
    let good = is_id_text-good c.args.bytes.now (omega arith) (omega arith) text.1.allowed in
    rw (good, text.0) refl

pub returns-in-Err-BadChar : goal.returns-in-Err-BadChar
returns-in-Err-BadChar c =
    let bad = rw c.in-Err-BadChar.field-0-is at c.in-Err-BadChar.ensures in
    let bytes = c.args.bytes.now in
    let answer : Result (List ℕ) SettingsError = Err c.refused-in-Err-BadChar.result in
    let P : Bool → Type 0 = λ good. Reads (named keys.MachineId (if good then Ok bytes else Err whys.OutOfRange)) answer in
    let Q : SettingsError → Type 0 = λ error. (let refused : Result (List ℕ) SettingsError = Err error in Reads (named keys.MachineId (Err whys.OutOfRange)) refused) in
    subst P (sym (is_id_text-bad bytes bad.1)) (subst Q (sym c.refused-in-Err-BadChar.ensures) refl)

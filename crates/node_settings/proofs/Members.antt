-- Values at keys, and keys of known names.
use Rattle.std.proofs.Common.{◌≡◌, ◌&&◌, List, [], ◌∷◌, Option, Some, Result, Ok, Err, Global, String, string_bytes, refl, ap}
use Rattle.std.specs.List.{list_all}
use Rattle.std.specs.Map.{keys_of}
use Rattle.line_base.specs.Results.{mapped_ok}
use Rattle.toml.proofs.Views.{Entry}
use Rattle.toml.specs.View.{members_view}
use Rattle.node_settings.specs.Settings.{Reads, named, is_known, are_known}
use Rattle.node_settings.specs.declared.key.ConfigKey.{ConfigKey}
use Rattle.node_settings.specs.declared.key.ConfigWhy.{ConfigWhy}
use Rattle.node_settings.specs.declared.key.SettingsError.{SettingsError}
use Rattle.node_settings.specs.declared.key.SettingsError.TheVariants as errors

pub are_known-keys : (es : List Entry) → list_all (λ (key : String Global). is_known (string_bytes key)) (keys_of es) ≡ are_known (members_view es)
are_known-keys [] = refl
are_known-keys (e ∷ es) = ap (λ b. is_known (string_bytes e.0) && b) (are_known-keys es)

-- a value that was read at a key that may be missing
pub named_some : {A : Type 0} (key : ConfigKey) (r : Result A ConfigWhy) (v : A) → named key r ≡ Ok v → named key (mapped_ok Some r) ≡ Ok (Some v)
named_some key (Ok w) v e = ap (mapped_ok Some) e
named_some key (Err why) v e = cc

-- and one that was refused
pub named_err : {A : Type 0} (key : ConfigKey) (r : Result A ConfigWhy) (e : SettingsError) → (let found : Result A SettingsError = Err e in Reads (named key r) found) → (let answer : Result (Option A) SettingsError = Err e in Reads (named key (mapped_ok Some r)) answer)
named_err key r errors.Memory h = tt
named_err key (Ok v) (errors.Refused k w) h = cc
named_err key (Err why) (errors.Refused k w) h = ap (mapped_ok Some) h

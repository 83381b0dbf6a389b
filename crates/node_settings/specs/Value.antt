-- The values of settings, and why they are refused.
use Rattle.std.specs.Prelude.{◌&&◌, ℕ, ℤ, pos, negsuc, Bool, List, Option, None, Some, Result, Ok, Err, length, nat_le, if◌then◌else◌}
use Rattle.std.specs.List.{list_all}
use Rattle.std.specs.Str.{is_utf8, chars}
use Rattle.line_base.specs.Text.{is_allowed_char}
use Rattle.line_base.specs.Results.{mapped_ok}
use Rattle.line_outside.specs.declared.way.Address.{Address}
use Rattle.toml.specs.Data.{Data, string, integer, boolean}
use Rattle.line_outside.specs.Address.{address_of}
use Rattle.node_settings.specs.declared.key.ConfigWhy.{ConfigWhy}
use Rattle.node_settings.specs.declared.key.ConfigWhy.TheVariants as whys

-- ---- each value by its kind

abbrev pub number_between : ℕ → ℕ → ℕ → Result ℕ ConfigWhy
number_between low high n = if nat_le low n && nat_le n high then Ok n else Err whys.OutOfRange

abbrev pub number_in : ℕ → ℕ → ℤ → Result ℕ ConfigWhy
number_in low high (pos n) = number_between low high n
number_in low high (negsuc n) = Err whys.OutOfRange

-- a number between two bounds
abbrev pub number_as : ℕ → ℕ → Data → Result ℕ ConfigWhy
number_as low high (integer z) = number_in low high z
number_as low high _ = Err whys.WrongKind

-- a text of 1 to 64 bytes: UTF-8 of allowed characters
abbrev pub is_id_text : List ℕ → Bool
is_id_text bytes =
    (nat_le 1 (length bytes) && nat_le (length bytes) 64)
    && (is_utf8 bytes && list_all is_allowed_char (chars bytes))

abbrev pub id_text_of : List ℕ → Result (List ℕ) ConfigWhy
id_text_of bytes = if is_id_text bytes then Ok bytes else Err whys.OutOfRange

abbrev pub id_text_as : Data → Result (List ℕ) ConfigWhy
id_text_as (string bytes) = id_text_of bytes
id_text_as _ = Err whys.WrongKind

-- an address
abbrev pub address_from : Option Address → Result Address ConfigWhy
address_from None = Err whys.OutOfRange
address_from (Some address) = Ok address

abbrev pub address_as : Data → Result Address ConfigWhy
address_as (string bytes) = address_from (address_of bytes)
address_as _ = Err whys.WrongKind

-- whether something is so
abbrev pub switch_as : Data → Result Bool ConfigWhy
switch_as (boolean on) = Ok on
switch_as _ = Err whys.WrongKind

-- ---- a value at a key

-- one that may be missing
abbrev pub optional : {A : Type 0} → (Data → Result A ConfigWhy) → Option Data
    → Result (Option A) ConfigWhy
optional kind None = Ok None
optional kind (Some value) = mapped_ok Some (kind value)

-- one that may not be
abbrev pub required : {A : Type 0} → (Data → Result A ConfigWhy) → Option Data → Result A ConfigWhy
required kind None = Err whys.Missing
required kind (Some value) = kind value

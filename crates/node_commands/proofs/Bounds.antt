-- Settings that a file says are within their bounds.
use Rattle.std.proofs.Common.{◌≡◌, subst, ap, refl, ℕ, ℤ, pos, negsuc, Bool, true, false, ◌&&◌, List, Option, None, Some, Result, Ok, Err, ◌≤◌, ◌<◌, ◌^◌, length, nat_le, nat_lt, unwrap_or, if◌then◌else◌, arith}
use Rattle.std.proofs.lemmas.Bool.Decides.{nat_tests}
use Rattle.line_base.specs.Results.{then_ok, mapped_ok}
use Rattle.toml.specs.Data.{Data, Members, string, integer, float, boolean, datetime, array, table, get_member}
use Rattle.std.specs.Prelude.{codes}
use Rattle.node_settings.specs.Settings.{refusal, named, capacity_of, used_of, places_of, made_places, bridge_of, identity_of, lane_of, machine_id_of, made_identity, number_of, connections_of, turns_of, known_panel_of, made_settings, settings_of, document_of, settings_in, read_of}
use Rattle.node_settings.specs.Value.{number_in, number_as, required, optional}
use Rattle.node_settings.specs.declared.key.ConfigKey.{ConfigKey}
use Rattle.node_settings.specs.declared.key.ConfigKey.TheVariants as keys
use Rattle.node_settings.specs.declared.key.ConfigWhy.{ConfigWhy}
use Rattle.node_settings.specs.declared.key.ConfigWhy.TheVariants as whys
use Rattle.node_settings.specs.declared.settings.Settings.{Settings}
use Rattle.node_settings.specs.declared.settings.Identity.{Identity}
use Rattle.node_settings.specs.declared.settings.Places.{Places}

record HasPlaces (places : Places) : Type 0 where
  least : 1 ≤ places.capacity
  most : places.capacity ≤ 1024
  used : places.used < 2 ^ 48

pub record AreBounded (settings : Settings) : Type 0 where
  pub least : 1 ≤ settings.places.capacity
  pub most : settings.places.capacity ≤ 1024
  pub used : settings.places.used < 2 ^ 48
  pub number : settings.identity.number < 2 ^ 32
  pub turns : 1 ≤ settings.turns

-- ---- results one after another

then_ok-inverse : {A B E : Type 0} (r : Result A E) (next : A → Result B E) (b : B) → then_ok r next ≡ Ok b → (a : A) × (r ≡ Ok a) × (next a ≡ Ok b)
then_ok-inverse (Ok a) next b e = (a, refl, e)
then_ok-inverse (Err why) next b e = cc

mapped_ok-inverse : {A B E : Type 0} (f : A → B) (r : Result A E) (b : B) → mapped_ok f r ≡ Ok b → (a : A) × (r ≡ Ok a) × (f a ≡ b)
mapped_ok-inverse f (Ok a) b e = let same : f a ≡ b = cc in (a, refl, same)
mapped_ok-inverse f (Err why) b e = cc

-- ---- values

abbrev IsBetween : ℕ → ℕ → ℕ → Type 0
IsBetween low high n = (low ≤ n) × (n ≤ high)

between_if : (test : Bool) (low high n m : ℕ) → (nat_le low n && nat_le n high) ≡ test → (let found : Result ℕ ConfigWhy = if test then Ok n else Err whys.OutOfRange in found ≡ Ok m) → IsBetween low high m
between_if true low high n m e found = let same : n ≡ m = cc in subst (IsBetween low high) same (grind (arith, nat_tests), grind (arith, nat_tests))
between_if false low high n m e found = cc

in_between : (low high : ℕ) (z : ℤ) (m : ℕ) → number_in low high z ≡ Ok m → IsBetween low high m
in_between low high (pos n) m e = between_if (nat_le low n && nat_le n high) low high n m refl e
in_between low high (negsuc n) m e = cc

as_between : (low high : ℕ) (value : Data) (m : ℕ) → number_as low high value ≡ Ok m → IsBetween low high m
as_between low high (integer z) m e = in_between low high z m e
as_between low high (string bytes) m e = cc
as_between low high (float f) m e = cc
as_between low high (boolean b) m e = cc
as_between low high (datetime d) m e = cc
as_between low high (array items) m e = cc
as_between low high (table ms) m e = cc

named-inverse : {A : Type 0} (key : ConfigKey) (r : Result A ConfigWhy) (v : A) → named key r ≡ Ok v → r ≡ Ok v
named-inverse key (Ok w) v e = let same : w ≡ v = cc in ap Ok same
named-inverse key (Err why) v e = cc

required_between : (low high : ℕ) (found : Option Data) (m : ℕ) → required (number_as low high) found ≡ Ok m → IsBetween low high m
required_between low high None m e = cc
required_between low high (Some value) m e = as_between low high value m e

optional_most : (high : ℕ) (found : Option Data) (m : Option ℕ) → optional (number_as 0 high) found ≡ Ok m → unwrap_or m 0 ≤ high
optional_most high None m e = let same : None ≡ m = cc in let P : Option ℕ → Type 0 = λ o. unwrap_or o 0 ≤ high in subst P same (omega arith)
optional_most high (Some value) m e =
    let inside = mapped_ok-inverse Some (number_as 0 high value) m e in
    let P : Option ℕ → Type 0 = λ o. unwrap_or o 0 ≤ high in
    subst P inside.2 (as_between 0 high value inside.0 inside.1).1

-- ---- settings

places_bounded : (ms : Members) (places : Places) → places_of ms ≡ Ok places → HasPlaces places
places_bounded ms places e =
    let first = then_ok-inverse (capacity_of ms) (λ capacity. mapped_ok (made_places capacity) (used_of ms)) places e in
    let second = mapped_ok-inverse (made_places first.0) (used_of ms) places first.2 in
    let capacity = required_between 1 1024 (get_member (codes "capacity") ms) first.0 (named-inverse _ _ first.0 first.1) in
    let used = optional_most 281474976710655 (get_member (codes "used") ms) second.0 (named-inverse _ _ second.0 second.1) in
    subst HasPlaces second.2 (record { least = capacity.0; most = capacity.1; used = omega (arith, used) })

identity_bounded : (ms : Members) (identity : Identity) → identity_of ms ≡ Ok identity → identity.number < 2 ^ 32
identity_bounded ms identity e =
    let first = then_ok-inverse (number_of ms) (λ number. then_ok (machine_id_of ms) (λ machine_id. mapped_ok (made_identity number machine_id) (lane_of ms))) identity e in
    let second = then_ok-inverse (machine_id_of ms) (λ machine_id. mapped_ok (made_identity first.0 machine_id) (lane_of ms)) identity first.2 in
    let third = mapped_ok-inverse (made_identity first.0 second.0) (lane_of ms) identity second.2 in
    let number = required_between 1 4294967295 (get_member (codes "number") ms) first.0 (named-inverse _ _ first.0 first.1) in
    let P : Identity → Type 0 = λ i. i.number < 2 ^ 32 in
    subst P third.2 (omega (arith, number.1))

settings_bounded : (ms : Members) (settings : Settings) → settings_of ms ≡ Ok settings → AreBounded settings
settings_bounded ms settings e =
    let one = then_ok-inverse (identity_of ms) _ settings e in
    let two = then_ok-inverse (places_of ms) _ settings one.2 in
    let three = then_ok-inverse (bridge_of ms) _ settings two.2 in
    let four = then_ok-inverse (connections_of one.0.lane ms) _ settings three.2 in
    let five = then_ok-inverse (turns_of ms) _ settings four.2 in
    let six = mapped_ok-inverse (made_settings one.0 two.0 three.0 four.0 five.0) (known_panel_of ms) settings five.2 in
    let places = places_bounded ms two.0 two.1 in
    let turns = required_between 1 1000000000000 (get_member (codes "turns") ms) five.0 (named-inverse keys.Turns _ five.0 five.1) in
    subst AreBounded six.2 (record { least = places.least; most = places.most; used = places.used; number = identity_bounded ms one.0 one.1; turns = turns.0 })

in_bounded : (document : Option Members) (settings : Settings) → settings_in document ≡ Ok settings → AreBounded settings
in_bounded None settings e = cc
in_bounded (Some ms) settings e = settings_bounded ms settings e

read_if : (test : Bool) (bytes : List ℕ) (settings : Settings) → (if test then Err (refusal keys.Document whys.TooLarge) else settings_in (document_of bytes)) ≡ Ok settings → AreBounded settings
read_if true bytes settings e = cc
read_if false bytes settings e = in_bounded (document_of bytes) settings e

-- WHAT A FILE SAYS IS WITHIN ITS BOUNDS
pub read_bounded : (bytes : List ℕ) (settings : Settings) → read_of bytes ≡ Ok settings → AreBounded settings
read_bounded bytes settings e = read_if (nat_lt 65536 (length bytes)) bytes settings e

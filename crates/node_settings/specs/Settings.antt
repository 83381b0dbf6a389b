-- What a settings file says, or the first refusal.
use Rattle.std.specs.Prelude.{◌≡◌, ◌+◌, ◌||◌, ◌&&◌, ℕ, Bool, true, false, List, Option, None, Some, Result, Ok, Err, codes, length, nat_lt, unwrap_or, if◌then◌else◌}
use Rattle.std.specs.Str.{bytes_eq, is_utf8}
use Rattle.line_base.specs.Results.{then_ok, mapped_ok}
use Rattle.line_outside.specs.declared.way.Address.{Address}
use Rattle.toml.specs.Data.{Members, no_members, member, get_member}
use Rattle.toml.specs.Parse.{parse_document}
use Rattle.node_settings.specs.Value.{optional, required, number_as, id_text_as, address_as, switch_as}
use Rattle.node_settings.specs.declared.key.ConfigKey.{ConfigKey}
use Rattle.node_settings.specs.declared.key.ConfigKey.TheVariants as keys
use Rattle.node_settings.specs.declared.key.ConfigWhy.{ConfigWhy}
use Rattle.node_settings.specs.declared.key.ConfigWhy.TheVariants as whys
use Rattle.node_settings.specs.declared.key.SettingsError.{SettingsError}
use Rattle.node_settings.specs.declared.key.SettingsError.TheVariants as errors
use Rattle.node_settings.specs.declared.settings.Settings.{Settings}
use Rattle.node_settings.specs.declared.settings.Identity.{Identity}
use Rattle.node_settings.specs.declared.settings.Places.{Places}
use Rattle.node_settings.specs.declared.settings.Connections.{Connections}
use Rattle.node_settings.specs.declared.settings.Panel.{Panel}

-- a key that is refused for a reason
pub record Refusal : Type 0 where
  pub key : ConfigKey
  pub why : ConfigWhy

abbrev pub refusal : ConfigKey → ConfigWhy → Refusal
refusal key why = record { key = key; why = why }

-- a refusal of this key
abbrev pub named : {A : Type 0} → ConfigKey → Result A ConfigWhy → Result A Refusal
named key (Ok value) = Ok value
named key (Err why) = Err (refusal key why)

-- ---- the keys in their order

abbrev pub number_of : Members → Result ℕ Refusal
number_of ms =
    named keys.Number (required (number_as 1 4294967295) (get_member (codes "number") ms))

abbrev pub machine_id_of : Members → Result (List ℕ) Refusal
machine_id_of ms = named keys.MachineId (required id_text_as (get_member (codes "machine_id") ms))

abbrev pub lane_of : Members → Result ℕ Refusal
lane_of ms = named keys.Lane (required (number_as 1 999) (get_member (codes "lane") ms))

abbrev pub made_identity : ℕ → List ℕ → ℕ → Identity
made_identity number machine_id lane =
    record { number = number; machine_id = machine_id; lane = lane }

abbrev pub identity_of : Members → Result Identity Refusal
identity_of ms =
    then_ok (number_of ms) (λ number.
    then_ok (machine_id_of ms) (λ machine_id.
    mapped_ok (made_identity number machine_id) (lane_of ms)))

abbrev pub capacity_of : Members → Result ℕ Refusal
capacity_of ms =
    named keys.Capacity (required (number_as 1 1024) (get_member (codes "capacity") ms))

abbrev pub used_of : Members → Result (Option ℕ) Refusal
used_of ms =
    named keys.Used (optional (number_as 0 281474976710655) (get_member (codes "used") ms))

abbrev pub made_places : ℕ → Option ℕ → Places
made_places capacity used = record { capacity = capacity; used = unwrap_or used 0 }

abbrev pub places_of : Members → Result Places Refusal
places_of ms = then_ok (capacity_of ms) (λ capacity. mapped_ok (made_places capacity) (used_of ms))

abbrev pub bridge_of : Members → Result (Option Bool) Refusal
bridge_of ms = named keys.Bridge (optional switch_as (get_member (codes "bridge") ms))

abbrev pub upstream_of : Members → Result (Option Address) Refusal
upstream_of ms = named keys.Upstream (optional address_as (get_member (codes "upstream") ms))

abbrev pub downstream_port_of : Members → Result (Option ℕ) Refusal
downstream_port_of ms =
    named keys.DownstreamPort
    (optional (number_as 1 65535) (get_member (codes "downstream_port") ms))

abbrev pub supervisory_port_of : Members → Result (Option ℕ) Refusal
supervisory_port_of ms =
    named keys.SupervisoryPort
    (optional (number_as 1 65535) (get_member (codes "supervisory_port") ms))

abbrev pub panel_port_of : Members → Result ℕ Refusal
panel_port_of ms =
    named keys.PanelPort (required (number_as 1 65535) (get_member (codes "panel_port") ms))

abbrev pub config_port_of : Members → Result (Option ℕ) Refusal
config_port_of ms =
    named keys.ConfigPort (optional (number_as 1 65535) (get_member (codes "config_port") ms))

-- the standard's port of a lane is 50,100 and its number
abbrev pub made_connections : ℕ → Option Address → Option ℕ → Option ℕ → ℕ → Option ℕ → Connections
made_connections lane upstream downstream_port supervisory_port panel_port config_port = record {
  upstream = upstream;
  downstream_port = unwrap_or downstream_port (50100 + lane);
  supervisory_port = supervisory_port;
  panel_port = panel_port;
  config_port = config_port;
}

abbrev pub connections_of : ℕ → Members → Result Connections Refusal
connections_of lane ms =
    then_ok (upstream_of ms) (λ upstream. then_ok (downstream_port_of ms) (λ downstream_port.
    then_ok (supervisory_port_of ms) (λ supervisory_port.
    then_ok (panel_port_of ms) (λ panel_port.
    mapped_ok (made_connections lane upstream downstream_port supervisory_port panel_port)
    (config_port_of ms)))))

abbrev pub turns_of : Members → Result ℕ Refusal
turns_of ms =
    named keys.Turns (required (number_as 1 1000000000000) (get_member (codes "turns") ms))

abbrev pub drives_of : Members → Result (Option Bool) Refusal
drives_of ms = named keys.Drives (optional switch_as (get_member (codes "drives") ms))

abbrev pub panel_anywhere_of : Members → Result (Option Bool) Refusal
panel_anywhere_of ms =
    named keys.PanelAnywhere (optional switch_as (get_member (codes "panel_anywhere") ms))

-- drives aren't told, and a panel connects from the same computer, where nothing else is said
abbrev pub made_panel : Option Bool → Option Bool → Panel
made_panel drives anywhere =
    record { drives = unwrap_or drives false; anywhere = unwrap_or anywhere false }

abbrev pub panel_of : Members → Result Panel Refusal
panel_of ms = then_ok (drives_of ms) (λ drives. mapped_ok (made_panel drives) (panel_anywhere_of ms))

-- ---- how a key is told

abbrev pub key_text : ConfigKey → List ℕ
key_text keys.Document = codes "the document"
key_text keys.Number = codes "number"
key_text keys.MachineId = codes "machine_id"
key_text keys.Lane = codes "lane"
key_text keys.Capacity = codes "capacity"
key_text keys.Used = codes "used"
key_text keys.Bridge = codes "bridge"
key_text keys.Upstream = codes "upstream"
key_text keys.DownstreamPort = codes "downstream_port"
key_text keys.SupervisoryPort = codes "supervisory_port"
key_text keys.PanelPort = codes "panel_port"
key_text keys.ConfigPort = codes "config_port"
key_text keys.Turns = codes "turns"
key_text keys.Drives = codes "drives"
key_text keys.PanelAnywhere = codes "panel_anywhere"
key_text keys.Unknown = codes "a key"

-- ---- keys of unknown names

abbrev pub is_known_of_machine : List ℕ → Bool
is_known_of_machine key =
    bytes_eq key (codes "number") || bytes_eq key (codes "machine_id")
    || bytes_eq key (codes "lane") || bytes_eq key (codes "capacity")
    || bytes_eq key (codes "used") || bytes_eq key (codes "bridge")

abbrev pub is_known_of_connections : List ℕ → Bool
is_known_of_connections key =
    bytes_eq key (codes "upstream") || bytes_eq key (codes "downstream_port")
    || bytes_eq key (codes "supervisory_port") || bytes_eq key (codes "panel_port")
    || bytes_eq key (codes "config_port")
    || bytes_eq key (codes "turns")

abbrev pub is_known_of_panel : List ℕ → Bool
is_known_of_panel key = bytes_eq key (codes "drives") || bytes_eq key (codes "panel_anywhere")

abbrev pub is_known : List ℕ → Bool
is_known key = is_known_of_machine key || is_known_of_connections key || is_known_of_panel key

abbrev pub are_known : Members → Bool
are_known no_members = true
are_known (member key value ms) = is_known key && are_known ms

-- an unknown key is refused last
abbrev pub known_panel : Members → Panel → Result Panel Refusal
known_panel ms panel =
    if are_known ms then Ok panel else Err (refusal keys.Unknown whys.UnknownKey)

abbrev pub known_panel_of : Members → Result Panel Refusal
known_panel_of ms = then_ok (panel_of ms) (known_panel ms)

abbrev pub made_settings : Identity → Places → Option Bool → Connections → ℕ → Panel → Settings
made_settings identity places bridge connections turns panel = record {
  identity = identity;
  places = places;
  bridge = unwrap_or bridge false;
  connections = connections;
  turns = turns;
  panel = panel;
}

-- WHAT A DOCUMENT SAYS: its settings, or the refusal of the first key that is refused, in the
-- order of the table; an unknown key last
abbrev pub settings_of : Members → Result Settings Refusal
settings_of ms =
    then_ok (identity_of ms) (λ identity.
    then_ok (places_of ms) (λ places.
    then_ok (bridge_of ms) (λ bridge. then_ok (connections_of identity.lane ms) (λ connections.
    then_ok (turns_of ms) (λ turns.
    mapped_ok (made_settings identity places bridge connections turns) (known_panel_of ms))))))

-- the document that bytes are, if they are TOML in UTF-8
abbrev pub document_of : List ℕ → Option Members
document_of bytes = if is_utf8 bytes then parse_document bytes else None

abbrev pub settings_in : Option Members → Result Settings Refusal
settings_in None = Err (refusal keys.Document whys.NotToml)
settings_in (Some ms) = settings_of ms

-- WHAT A FILE SAYS
abbrev pub read_of : List ℕ → Result Settings Refusal
read_of bytes =
    if nat_lt 65536 (length bytes) then Err (refusal keys.Document whys.TooLarge) else settings_in
    (document_of bytes)

-- what reading answers, unless memory ran out
abbrev pub Reads : {A : Type 0} → Result A Refusal → Result A SettingsError → Type 0
Reads wanted (Ok value) = wanted ≡ Ok value
Reads wanted (Err (errors.Refused key why)) = wanted ≡ Err (refusal key why)
Reads wanted (Err errors.Memory) = Unit {0}

-- The names of the messages of the configuration service, and of their attributes.
use Rattle.std.specs.Prelude.{ℕ, List, [], ◌∷◌, codes, if◌then◌else◌}
use Rattle.std.specs.Str.{bytes_eq}
use Rattle.config_service.specs.declared.attr.ConfigAttr.{ConfigAttr}
use Rattle.config_service.specs.declared.attr.ConfigAttr.TheVariants as attrs
use Rattle.config_service.specs.declared.kind.ConfigKind.{ConfigKind}
use Rattle.config_service.specs.declared.kind.ConfigKind.TheVariants as kinds

abbrev pub attr_text : ConfigAttr → List ℕ
attr_text attrs.Timestamp = codes "Timestamp"
attr_text attrs.UpstreamAddress = codes "UpstreamAddress"
attr_text attrs.DownstreamPort = codes "DownstreamPort"
attr_text attrs.NotificationCode = codes "NotificationCode"
attr_text attrs.Severity = codes "Severity"
attr_text attrs.Description = codes "Description"

abbrev pub kind_text : ConfigKind → List ℕ
kind_text kinds.GetConfiguration = codes "GetConfiguration"
kind_text kinds.SetConfiguration = codes "SetConfiguration"
kind_text kinds.CurrentConfiguration = codes "CurrentConfiguration"
kind_text kinds.Notification = codes "Notification"
kind_text kinds.Other = codes "Other"

-- the four messages that have a name of their own
abbrev pub message_kinds : List ConfigKind
message_kinds =
    kinds.GetConfiguration ∷ kinds.SetConfiguration ∷ kinds.CurrentConfiguration ∷
    kinds.Notification ∷ []

abbrev pub kind_among : List ℕ → List ConfigKind → ConfigKind
kind_among name [] = kinds.Other
kind_among name (kind ∷ others) =
    if bytes_eq name (kind_text kind) then kind else kind_among name others

-- the message of this name; one of an unknown name is Other
abbrev pub kind_named : List ℕ → ConfigKind
kind_named name = kind_among name message_kinds

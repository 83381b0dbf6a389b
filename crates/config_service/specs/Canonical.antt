-- The one written spelling of a message of the configuration service, and which are writable.
use Rattle.std.specs.Prelude.{◌≡◌, ℕ, ℤ, ◌≤◌, List, [], ◌∷◌, ◌++◌, Option, Some, None, IfSome, codes}
use Rattle.std.specs.Fmt.{decimal}
use Rattle.std.specs.List.{flat_map}
use Rattle.line_base.specs.Moment.{moment_text, IsMomentMillis}
use Rattle.line_base.specs.Name.{IsName}
use Rattle.line_base.specs.Text.{IsText}
use Rattle.line_base.specs.declared.states.Code.{Code}
use Rattle.line_base.specs.declared.states.Severity.{Severity}
use Rattle.line_base.specs.declared.states.Severity.TheVariants as severities
use Rattle.line_outside.specs.declared.way.Address.{Address}
use Rattle.line_outside.specs.Written.{address_text, IsProperAddress}
use Rattle.hermes_element.specs.Element.{Tree, none, more}
use Rattle.hermes_element.specs.Canonical as form
use Rattle.hermes_element.specs.declared.attribute.Attribute.{Attribute}
use Rattle.config_service.specs.declared.attr.ConfigAttr.{ConfigAttr}
use Rattle.config_service.specs.declared.attr.ConfigAttr.TheVariants as attrs
use Rattle.config_service.specs.declared.kind.ConfigKind.{ConfigKind}
use Rattle.config_service.specs.declared.kind.ConfigKind.TheVariants as kinds
use Rattle.config_service.specs.declared.message.ConfigBody.{ConfigBody}
use Rattle.config_service.specs.declared.message.ConfigBody.TheVariants as bodies
use Rattle.config_service.specs.declared.message.ConfigMessage.{ConfigMessage}
use Rattle.config_service.specs.declared.message.Settings.{Settings}
use Rattle.config_service.specs.Names.{attr_text, kind_text, kind_named}

abbrev pub kind_of : ConfigBody → ConfigKind
kind_of bodies.Get = kinds.GetConfiguration
kind_of (bodies.Set settings) = kinds.SetConfiguration
kind_of (bodies.Current settings) = kinds.CurrentConfiguration
kind_of (bodies.Notification code severity text) = kinds.Notification
kind_of (bodies.Other name) = kinds.Other

-- the name of the message's element
abbrev pub name_of : ConfigBody → List ℕ
name_of (bodies.Other name) = name
name_of body = kind_text (kind_of body)

-- ---- a message as an element; its places are all 0

abbrev pub attribute_of : ConfigAttr → List ℕ → Attribute
attribute_of attr value = record { name = attr_text attr; value = value; at = 0 }

abbrev pub stamp_attributes : Option ℤ → List Attribute
stamp_attributes None = []
stamp_attributes (Some millis) = attribute_of attrs.Timestamp (moment_text millis) ∷ []

abbrev pub upstream_attributes : Option Address → List Attribute
upstream_attributes None = []
upstream_attributes (Some address) =
    attribute_of attrs.UpstreamAddress (address_text address) ∷ []

abbrev pub port_attribute : ℕ → Attribute
port_attribute port = attribute_of attrs.DownstreamPort (decimal port)

abbrev pub settings_attributes : Settings → List Attribute
settings_attributes settings =
    upstream_attributes settings.upstream ++ port_attribute settings.port ∷ []

abbrev pub severity_number : Severity → ℕ
severity_number severities.Fatal = 1
severity_number severities.Error = 2
severity_number severities.Warning = 3
severity_number severities.Info = 4

abbrev pub notice_attributes : Code → Severity → List ℕ → List Attribute
notice_attributes code severity text =
    attribute_of attrs.NotificationCode (decimal code.number) ∷ attribute_of attrs.Severity
    (decimal (severity_number severity)) ∷ attribute_of attrs.Description text ∷ []

abbrev pub attributes_of : ConfigBody → List Attribute
attributes_of bodies.Get = []
attributes_of (bodies.Set settings) = settings_attributes settings
attributes_of (bodies.Current settings) = settings_attributes settings
attributes_of (bodies.Notification code severity text) = notice_attributes code severity text
attributes_of (bodies.Other name) = []

abbrev pub body_tree : ConfigBody → Tree
body_tree body =
    record { name = name_of body; at = 0; attributes = attributes_of body; children = none }

abbrev pub tree_of : ConfigMessage → Tree
tree_of message =
    record {
      name = codes "Hermes";
      at = 0;
      attributes = stamp_attributes message.stamp;
      children = more (name_of message.body) 0 (attributes_of message.body) none none;
    }

-- THE SPELLING OF A MESSAGE
abbrev pub canonical : ConfigMessage → List ℕ
canonical message = form.canonical (tree_of message)

-- ---- the same piece by piece

abbrev pub spelled : List Attribute → List ℕ
spelled attributes = flat_map form.canonical_attribute attributes

abbrev pub assignment : ConfigAttr → List ℕ → List ℕ
assignment attr value = form.canonical_attribute (attribute_of attr value)

abbrev pub body_spelling : ConfigBody → List ℕ
body_spelling body = form.canonical (body_tree body)

-- ---- writable messages

-- the ports aren't 0
pub record HasPorts (settings : Settings) : Type 0 where
  pub upstream : IfSome settings.upstream (λ address. 1 ≤ address.port)
  pub port : 1 ≤ settings.port

-- and a code is a number of at most 9 digits
abbrev pub HasNumbers : ConfigBody → Type 0
HasNumbers (bodies.Set settings) = HasPorts settings
HasNumbers (bodies.Current settings) = HasPorts settings
HasNumbers (bodies.Notification code severity text) = code.number ≤ 999_999_999
HasNumbers _ = Unit {0}

-- and the name in Other is none of the four
pub record IsWritable (message : ConfigMessage) : Type 0 where
  pub numbers : HasNumbers message.body
  pub named : kind_named (name_of message.body) ≡ kind_of message.body

-- ---- what holds of every message of a program, by the types of its parts

pub record IsProperSettings (settings : Settings) : Type 0 where
  pub upstream : IfSome settings.upstream IsProperAddress
  pub port : settings.port ≤ 65535

abbrev pub IsProperBody : ConfigBody → Type 0
IsProperBody bodies.Get = Unit {0}
IsProperBody (bodies.Set settings) = IsProperSettings settings
IsProperBody (bodies.Current settings) = IsProperSettings settings
IsProperBody (bodies.Notification code severity text) = IsText text
IsProperBody (bodies.Other name) = IsName name

pub record IsProperMessage (message : ConfigMessage) : Type 0 where
  pub stamp : IfSome message.stamp IsMomentMillis
  pub body : IsProperBody message.body

-- THE TABLE of the configuration service: what an element says as one of its messages, or why it
-- says none. The tests come in the order in which they stand here.
use Rattle.std.specs.Prelude.{◌==◌, ℕ, ℤ, if◌then◌else◌, List, [], ◌∷◌, Option, Some, None, Result, Ok, Err, codes, option_and_then}
use Rattle.std.specs.Str.{bytes_eq}
use Rattle.line_base.specs.Moment.{moment_of}
use Rattle.line_base.specs.Number.{number_of}
use Rattle.line_base.specs.Results.{then_ok, mapped_ok}
use Rattle.line_base.specs.declared.states.Severity.{Severity}
use Rattle.line_base.specs.declared.states.Severity.TheVariants as severities
use Rattle.line_outside.specs.declared.way.Address.{Address}
use Rattle.line_outside.specs.Address.{address_of, port_of}
use Rattle.hermes_element.specs.Element.{Tree, trees_of}
use Rattle.hermes_element.specs.declared.attribute.Attribute.{Attribute}
use Rattle.config_service.specs.declared.attr.ConfigAttr.{ConfigAttr}
use Rattle.config_service.specs.declared.attr.ConfigAttr.TheVariants as attrs
use Rattle.config_service.specs.declared.fault.ConfigFault.{ConfigFault}
use Rattle.config_service.specs.declared.fault.ConfigFault.TheVariants as faults
use Rattle.config_service.specs.declared.fault.ConfigRefusal.{ConfigRefusal}
use Rattle.config_service.specs.declared.kind.ConfigKind.{ConfigKind}
use Rattle.config_service.specs.declared.kind.ConfigKind.TheVariants as kinds
use Rattle.config_service.specs.declared.message.ConfigBody.{ConfigBody}
use Rattle.config_service.specs.declared.message.ConfigBody.TheVariants as bodies
use Rattle.config_service.specs.declared.message.ConfigMessage.{ConfigMessage}
use Rattle.config_service.specs.declared.message.Settings.{Settings}
use Rattle.config_service.specs.Names.{attr_text, kind_named}

abbrev pub refusal : ℕ → ConfigFault → ConfigRefusal
refusal at why = record { at = at; why = why }

-- ---- an attribute and its value

-- the first attribute of a name
abbrev pub first_named : List ℕ → List Attribute → Option Attribute
first_named name [] = None
first_named name (attribute ∷ rest) =
    if bytes_eq attribute.name name then Some attribute else first_named name rest

-- a value that was read, or a refusal at its first byte
abbrev pub value_or_bad : {A : Type 0} → ConfigAttr → ℕ → Option A → Result A ConfigRefusal
value_or_bad attr at None = Err (refusal at (faults.BadValue attr))
value_or_bad attr at (Some value) = Ok value

-- one that must be there, or a refusal at the element
abbrev pub required_in : {A : Type 0} → (List ℕ → Option A) → ConfigAttr → ℕ → Option Attribute
    → Result A ConfigRefusal
required_in read attr at None = Err (refusal at (faults.Missing attr))
required_in read attr at (Some attribute) = value_or_bad attr attribute.at (read attribute.value)

abbrev pub required : {A : Type 0} → (List ℕ → Option A) → ConfigAttr → ℕ → List Attribute
    → Result A ConfigRefusal
required read attr at attributes =
    required_in read attr at (first_named (attr_text attr) attributes)

-- one that may be left out
abbrev pub optional_in : {A : Type 0} → (List ℕ → Option A) → ConfigAttr → Option Attribute
    → Result (Option A) ConfigRefusal
optional_in read attr None = Ok None
optional_in read attr (Some attribute) =
    mapped_ok Some (value_or_bad attr attribute.at (read attribute.value))

abbrev pub optional : {A : Type 0} → (List ℕ → Option A) → ConfigAttr → List Attribute
    → Result (Option A) ConfigRefusal
optional read attr attributes = optional_in read attr (first_named (attr_text attr) attributes)

-- ---- the kinds of values; an address, a port and a number are those of the settings file

abbrev pub ok_of : {A E : Type 0} → Result A E → Option A
ok_of (Ok value) = Some value
ok_of (Err why) = None

abbrev pub moment_in : List ℕ → Option ℤ
moment_in bytes = ok_of (moment_of bytes)

abbrev pub severity_numbered : ℕ → Option Severity
severity_numbered n =
    if n == 1 then Some severities.Fatal else
    (if n == 2 then Some severities.Error else
    (if n == 3 then Some severities.Warning else
    (if n == 4 then Some severities.Info else None)))

-- 1 fatal, 2 error, 3 warning, 4 info
abbrev pub severity_of : List ℕ → Option Severity
severity_of bytes = option_and_then severity_numbered (number_of bytes)

abbrev pub text_of : List ℕ → Option (List ℕ)
text_of bytes = Some bytes

-- ---- the rows of the table

abbrev pub made_settings : Option Address → ℕ → Settings
made_settings upstream port = record { upstream = upstream; port = port }

-- of SetConfiguration and CurrentConfiguration: UpstreamAddress, which may be left out, and
-- DownstreamPort
abbrev pub settings_of : ℕ → List Attribute → Result Settings ConfigRefusal
settings_of at attributes =
    then_ok (optional address_of attrs.UpstreamAddress attributes) (λ upstream.
    mapped_ok (made_settings upstream) (required port_of attrs.DownstreamPort at attributes))

abbrev pub made_notice : ℕ → Severity → List ℕ → ConfigBody
made_notice code severity text = bodies.Notification (record { number = code }) severity text

-- of Notification: NotificationCode, Severity and Description
abbrev pub notice_of : ℕ → List Attribute → Result ConfigBody ConfigRefusal
notice_of at attributes =
    then_ok (required number_of attrs.NotificationCode at attributes) (λ code.
    then_ok (required severity_of attrs.Severity at attributes) (λ severity.
    mapped_ok (made_notice code severity) (required text_of attrs.Description at attributes)))

-- what an element of this name says; of an unknown one its attributes aren't looked at
abbrev pub said_as : ConfigKind → List ℕ → ℕ → List Attribute → Result ConfigBody ConfigRefusal
said_as kinds.GetConfiguration name at attributes = Ok bodies.Get
said_as kinds.SetConfiguration name at attributes = mapped_ok bodies.Set (settings_of at attributes)
said_as kinds.CurrentConfiguration name at attributes =
    mapped_ok bodies.Current (settings_of at attributes)
said_as kinds.Notification name at attributes = notice_of at attributes
said_as kinds.Other name at attributes = Ok (bodies.Other name)

abbrev pub body_of : Tree → Result ConfigBody ConfigRefusal
body_of child = said_as (kind_named child.name) child.name child.at child.attributes

-- ---- the root: its name, its Timestamp, and the one element in it

abbrev pub only_child : ℕ → List Tree → Result Tree ConfigRefusal
only_child at [] = Err (refusal at faults.Count)
only_child at (child ∷ []) = Ok child
only_child at (child ∷ other ∷ others) = Err (refusal at faults.Count)

abbrev pub made_message : Option ℤ → ConfigBody → ConfigMessage
made_message stamp body = record { stamp = stamp; body = body }

-- what a root of the right name says
abbrev pub said_in : Tree → Result ConfigMessage ConfigRefusal
said_in tree =
    then_ok (optional moment_in attrs.Timestamp tree.attributes) (λ stamp.
    then_ok (only_child tree.at (trees_of tree.children)) (λ child.
    mapped_ok (made_message stamp) (body_of child)))

-- WHAT AN ELEMENT SAYS, or its first refusal
abbrev pub message_of : Tree → Result ConfigMessage ConfigRefusal
message_of tree =
    if bytes_eq tree.name (codes "Hermes") then said_in tree else Err (refusal tree.at faults.Root)

-- What is written piece by piece is the spelling of the message.
use Rattle.std.proofs.Common.{◌≡◌, ℕ, List, [], ◌∷◌, ◌++◌, Option, Some, None, codes, decimal, sym, ap, ◌∙◌, append_assoc, append-nil}
use Rattle.std.proofs.lemmas.List.Concat.{flat_map-cons}
use Rattle.line_base.specs.declared.states.Code.{Code}
use Rattle.line_base.specs.declared.states.Severity.{Severity}
use Rattle.line_outside.specs.declared.way.Address.{Address}
use Rattle.line_outside.specs.Written.{address_text}
use Rattle.hermes_element.specs.Canonical.{canonical_attribute}
use Rattle.hermes_element.specs.declared.attribute.Attribute.{Attribute}
use Rattle.config_service.specs.declared.attr.ConfigAttr.TheVariants as attrs
use Rattle.config_service.specs.declared.message.ConfigBody.{ConfigBody}
use Rattle.config_service.specs.declared.message.ConfigMessage.{ConfigMessage}
use Rattle.config_service.specs.declared.message.Settings.{Settings}
use Rattle.config_service.specs.Canonical.{assignment, attribute_of, attributes_of, body_spelling, canonical, name_of, notice_attributes, port_attribute, settings_attributes, severity_number, spelled, stamp_attributes, upstream_attributes}

pub spelled_one : (attribute : Attribute) → canonical_attribute attribute ≡ spelled (attribute ∷ [])
spelled_one attribute = sym (flat_map-cons canonical_attribute attribute [] ∙ append-nil (canonical_attribute attribute))

-- the attributes of settings
pub settings_written : (settings : Settings) (t0 t1 t2 : List ℕ) → t1 ≡ t0 ++ spelled (upstream_attributes settings.upstream) → t2 ≡ t1 ++ assignment attrs.DownstreamPort (decimal settings.port) → t2 ≡ t0 ++ spelled (settings_attributes settings)
settings_written settings t0 t1 t2 e d = written settings.upstream (port_attribute settings.port) t0 t1 t2 e d
  where
    written : (upstream : Option Address) (port : Attribute) (a b c : List ℕ) → b ≡ a ++ spelled (upstream_attributes upstream) → c ≡ b ++ canonical_attribute port → c ≡ a ++ spelled (upstream_attributes upstream ++ port ∷ [])
    written None port a b c e d = d ∙ ap (λ (x : List ℕ). x ++ canonical_attribute port) (e ∙ append-nil a) ∙ ap (λ (x : List ℕ). a ++ x) (spelled_one port)
    written (Some address) port a b c e d =
        let first = attribute_of attrs.UpstreamAddress (address_text address) in
        d ∙ ap (λ (x : List ℕ). x ++ canonical_attribute port) (e ∙ ap (λ (x : List ℕ). a ++ x) (sym (spelled_one first)))
        ∙ append_assoc a (canonical_attribute first) (canonical_attribute port)
        ∙ ap (λ (x : List ℕ). a ++ (canonical_attribute first ++ x)) (spelled_one port)
        ∙ ap (λ (x : List ℕ). a ++ x) (sym (flat_map-cons canonical_attribute first (port ∷ [])))

-- those of a notification
pub notice_written : (code : Code) (severity : Severity) (text t0 t1 t2 t3 : List ℕ) → t1 ≡ t0 ++ assignment attrs.NotificationCode (decimal code.number) → t2 ≡ t1 ++ assignment attrs.Severity (decimal (severity_number severity)) → t3 ≡ t2 ++ assignment attrs.Description text
    → t3 ≡ t0 ++ spelled (notice_attributes code severity text)
notice_written code severity text t0 t1 t2 t3 e d f =
    let first = attribute_of attrs.NotificationCode (decimal code.number) in
    let second = attribute_of attrs.Severity (decimal (severity_number severity)) in
    let third = attribute_of attrs.Description text in
    let all : spelled (first ∷ second ∷ third ∷ []) ≡ canonical_attribute first ++ (canonical_attribute second ++ canonical_attribute third) =
    flat_map-cons canonical_attribute first (second ∷ third ∷ [])
    ∙ ap (λ (x : List ℕ). canonical_attribute first ++ x) (flat_map-cons canonical_attribute second (third ∷ []) ∙ ap (λ (x : List ℕ). canonical_attribute second ++ x) (sym (spelled_one third))) in
    f ∙ ap (λ (x : List ℕ). x ++ canonical_attribute third) (d ∙ ap (λ (x : List ℕ). x ++ canonical_attribute second) e)
    ∙ append_assoc (t0 ++ canonical_attribute first) (canonical_attribute second) (canonical_attribute third)
    ∙ append_assoc t0 (canonical_attribute first) (canonical_attribute second ++ canonical_attribute third)
    ∙ ap (λ (x : List ℕ). t0 ++ x) (sym all)

body_grouped : (t name attributes end : List ℕ) → (((t ++ (60 ∷ [])) ++ name) ++ attributes) ++ end ≡ t ++ (((60 ∷ name) ++ attributes) ++ end)
body_grouped t name attributes end = simp append_assoc

pub body_written : (body : ConfigBody) (t0 t1 t2 t3 t4 : List ℕ) → t1 ≡ t0 ++ codes "<" → t2 ≡ t1 ++ name_of body → t3 ≡ t2 ++ spelled (attributes_of body) → t4 ≡ t3 ++ codes "/>" → t4 ≡ t0 ++ body_spelling body
body_written body t0 t1 t2 t3 t4 e1 e2 e3 e4 = rw (e4, e3, e2, e1) (body_grouped t0 (name_of body) (spelled (attributes_of body)) (codes "/>"))

message_grouped : (t front stamp body a b c : List ℕ) → ((((t ++ front) ++ stamp) ++ (62 ∷ [])) ++ body) ++ (a ++ (b ++ c)) ≡ t ++ ((front ++ stamp) ++ (62 ∷ ((((body ++ []) ++ a) ++ b) ++ c)))
message_grouped t front stamp body a b c = simp (append_assoc, append-nil)

pub message_written : (message : ConfigMessage) (t0 t1 t2 t3 t4 t5 : List ℕ) → t1 ≡ t0 ++ codes "<Hermes" → t2 ≡ t1 ++ spelled (stamp_attributes message.stamp) → t3 ≡ t2 ++ codes ">"
    → t4 ≡ t3 ++ body_spelling message.body → t5 ≡ t4 ++ codes "</Hermes>" → t5 ≡ t0 ++ canonical message
message_written message t0 t1 t2 t3 t4 t5 e1 e2 e3 e4 e5 =
    rw (e5, e4, e3, e2, e1) (message_grouped t0 (codes "<Hermes") (spelled (stamp_attributes message.stamp)) (body_spelling message.body) (codes "</") (codes "Hermes") (codes ">"))

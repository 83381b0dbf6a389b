-- What is written of a writable message is read as that message.
use Rattle.std.proofs.Common.{◌≡◌, ◌≤◌, ℕ, ℤ, true, false, cond, List, [], ◌∷◌, ◌++◌, map, Option, Some, None, IfSome, Ok, option_map, option_and_then, codes, decimal, refl, sym, ap, ◌∙◌, arith, lit≤}
use Rattle.std.specs.List.{AllByRecursion, IsDistinct}
use Rattle.std.specs.Str.{bytes_eq}
use Rattle.line_base.specs.Moment.{moment_text, IsMomentMillis}
use Rattle.line_base.specs.Name.{IsName}
use Rattle.line_base.specs.Number.{number_of}
use Rattle.line_base.specs.Text.{IsText}
use Rattle.line_base.specs.declared.states.Code.{Code}
use Rattle.line_base.specs.declared.states.Severity.{Severity}
use Rattle.line_base.specs.declared.states.Severity.TheVariants as severities
use Rattle.line_base.proofs.MomentTexts.{moment_of-moment_text}
use Rattle.line_base.proofs.Printable.{IsText-decimal, IsText-moment, number_of-decimal}
use Rattle.line_outside.specs.declared.way.Address.{Address}
use Rattle.line_outside.specs.Address.{address_of, port_of}
use Rattle.line_outside.specs.Written.{address_text, IsProperAddress}
use Rattle.line_outside.proofs.Back.{address_back, port_of-decimal}
use Rattle.line_outside.proofs.Plain.{IsText-address}
use Rattle.hermes_element.specs.Element.{Tree, Forest, none, more, trees_of}
use Rattle.hermes_element.specs.Canonical as form
use Rattle.hermes_element.specs.Canonical.{HasFewDistinct, IsProperAttribute, HasProperTag, unplaced_attribute, unplaced_forest, unplaced}
use Rattle.hermes_element.specs.declared.attribute.Attribute.{Attribute}
use Rattle.config_service.specs.declared.attr.ConfigAttr.{ConfigAttr}
use Rattle.config_service.specs.declared.attr.ConfigAttr.TheVariants as attrs
use Rattle.config_service.specs.declared.kind.ConfigKind.{ConfigKind}
use Rattle.config_service.specs.declared.message.ConfigBody.{ConfigBody}
use Rattle.config_service.specs.declared.message.ConfigBody.TheVariants as bodies
use Rattle.config_service.specs.declared.message.ConfigMessage.{ConfigMessage}
use Rattle.config_service.specs.declared.message.Settings.{Settings}
use Rattle.config_service.specs.Names.{attr_text, kind_named}
use Rattle.config_service.specs.Said.{body_of, first_named, message_of, moment_in, notice_of, ok_of, optional, optional_in, required, required_in, said_as, settings_of, severity_of, severity_numbered, text_of, value_or_bad}
use Rattle.config_service.specs.Canonical.{attribute_of, attributes_of, body_tree, kind_of, name_of, notice_attributes, port_attribute, settings_attributes, severity_number, stamp_attributes, tree_of, upstream_attributes, HasPorts, HasNumbers, IsProperBody, IsProperMessage, IsProperSettings, IsWritable}

-- ---- what is read of attributes doesn't hang on their places

abbrev value_in : Option Attribute → Option (List ℕ)
value_in found = option_map (λ attribute. attribute.value) found

value_first : (name : List ℕ) (attributes : List Attribute) → value_in (first_named name (map unplaced_attribute attributes)) ≡ value_in (first_named name attributes)
value_first name [] = refl
value_first name (attribute ∷ rest) =
    elim (bytes_eq attribute.name name) as (λ b. value_in (cond b (Some (unplaced_attribute attribute)) (first_named name (map unplaced_attribute rest))) ≡ value_in (cond b (Some attribute) (first_named name rest))) [
      | true ↦ refl
      | false ↦ value_first name rest
    ]

-- they are those that were written, but for their places
abbrev Are : List Attribute → List Attribute → Type 0
Are attributes written = map unplaced_attribute attributes ≡ map unplaced_attribute written

value_again : (name : List ℕ) (attributes written : List Attribute) → Are attributes written → value_in (first_named name attributes) ≡ value_in (first_named name written)
value_again name attributes written e = sym (value_first name attributes) ∙ ap (λ (l : List Attribute). value_in (first_named name l)) e ∙ value_first name written

required_found : {A : Type 0} (read : List ℕ → Option A) (attr : ConfigAttr) (at : ℕ) (found : Option Attribute) (text : List ℕ) (value : A) → value_in found ≡ Some text → read text ≡ Some value → required_in read attr at found ≡ Ok value
required_found read attr at None text value e d = absurd cc
required_found read attr at (Some attribute) text value e d =
    let same : attribute.value ≡ text = cc in
    ap (value_or_bad attr attribute.at) (ap read same ∙ d)

required_back : {A : Type 0} (read : List ℕ → Option A) (attr : ConfigAttr) (at : ℕ) (attributes written : List Attribute) (text : List ℕ) (value : A) → Are attributes written → value_in (first_named (attr_text attr) written) ≡ Some text
    → read text ≡ Some value → required read attr at attributes ≡ Ok value
required_back read attr at attributes written text value e found d = required_found read attr at (first_named (attr_text attr) attributes) text value (value_again (attr_text attr) attributes written e ∙ found) d

optional_found : {A : Type 0} (read : List ℕ → Option A) (attr : ConfigAttr) (found : Option Attribute) (text : List ℕ) (value : A) → value_in found ≡ Some text → read text ≡ Some value → optional_in read attr found ≡ Ok (Some value)
optional_found read attr None text value e d = absurd cc
optional_found read attr (Some attribute) text value e d =
    let same : attribute.value ≡ text = cc in
    rw (ap read same ∙ d) refl

optional_back : {A : Type 0} (read : List ℕ → Option A) (attr : ConfigAttr) (attributes written : List Attribute) (text : List ℕ) (value : A) → Are attributes written → value_in (first_named (attr_text attr) written) ≡ Some text
    → read text ≡ Some value → optional read attr attributes ≡ Ok (Some value)
optional_back read attr attributes written text value e found d = optional_found read attr (first_named (attr_text attr) attributes) text value (value_again (attr_text attr) attributes written e ∙ found) d

optional_none : {A : Type 0} (read : List ℕ → Option A) (attr : ConfigAttr) (found : Option Attribute) → value_in found ≡ None → optional_in read attr found ≡ Ok None
optional_none read attr None e = refl
optional_none read attr (Some attribute) e = absurd cc

left_out_back : {A : Type 0} (read : List ℕ → Option A) (attr : ConfigAttr) (attributes written : List Attribute) → Are attributes written → value_in (first_named (attr_text attr) written) ≡ None → optional read attr attributes ≡ Ok None
left_out_back read attr attributes written e found = optional_none read attr (first_named (attr_text attr) attributes) (value_again (attr_text attr) attributes written e ∙ found)

-- ---- the rows

upstream_back : (upstream : Option Address) (port : ℕ) (attributes : List Attribute) → IfSome upstream IsProperAddress → IfSome upstream (λ address. 1 ≤ address.port)
    → Are attributes (upstream_attributes upstream ++ port_attribute port ∷ []) → optional address_of attrs.UpstreamAddress attributes ≡ Ok upstream
upstream_back None port attributes proper some e = left_out_back address_of attrs.UpstreamAddress attributes (port_attribute port ∷ []) e refl
upstream_back (Some address) port attributes proper some e =
    optional_back address_of attrs.UpstreamAddress attributes (attribute_of attrs.UpstreamAddress (address_text address) ∷ port_attribute port ∷ []) (address_text address) address e refl (address_back address proper some)

port_found : (upstream : Option Address) (port : ℕ) → value_in (first_named (attr_text attrs.DownstreamPort) (upstream_attributes upstream ++ port_attribute port ∷ [])) ≡ Some (decimal port)
port_found None port = refl
port_found (Some address) port = refl

settings_back : (settings : Settings) (at : ℕ) (attributes : List Attribute) → IsProperSettings settings → HasPorts settings → Are attributes (settings_attributes settings) → settings_of at attributes ≡ Ok settings
settings_back settings at attributes proper ports e =
    let upstream = upstream_back settings.upstream settings.port attributes proper.upstream ports.upstream e in
    let port = required_back port_of attrs.DownstreamPort at attributes (settings_attributes settings) (decimal settings.port) settings.port e (port_found settings.upstream settings.port) (port_of-decimal settings.port ports.port proper.port) in
    rw (upstream, port) refl

severity_back : (severity : Severity) → severity_of (decimal (severity_number severity)) ≡ Some severity
severity_back severities.Fatal = ap (option_and_then severity_numbered) (number_of-decimal 1 (lit≤ tt))
severity_back severities.Error = ap (option_and_then severity_numbered) (number_of-decimal 2 (lit≤ tt))
severity_back severities.Warning = ap (option_and_then severity_numbered) (number_of-decimal 3 (lit≤ tt))
severity_back severities.Info = ap (option_and_then severity_numbered) (number_of-decimal 4 (lit≤ tt))

notice_back : (code : Code) (severity : Severity) (text : List ℕ) (at : ℕ) (attributes : List Attribute) → code.number ≤ 999_999_999 → Are attributes (notice_attributes code severity text) → notice_of at attributes ≡ Ok (bodies.Notification code severity text)
notice_back code severity text at attributes small e =
    let written = notice_attributes code severity text in
    let first = required_back number_of attrs.NotificationCode at attributes written (decimal code.number) code.number e refl (number_of-decimal code.number small) in
    let second = required_back severity_of attrs.Severity at attributes written (decimal (severity_number severity)) severity e refl (severity_back severity) in
    let third = required_back text_of attrs.Description at attributes written text text e refl refl in
    rw (first, second, third) refl

said_back : (body : ConfigBody) (at : ℕ) (attributes : List Attribute) → IsProperBody body → HasNumbers body → Are attributes (attributes_of body) → said_as (kind_of body) (name_of body) at attributes ≡ Ok body
said_back bodies.Get at attributes proper numbers e = refl
said_back (bodies.Set settings) at attributes proper numbers e = rw (settings_back settings at attributes proper numbers e) refl
said_back (bodies.Current settings) at attributes proper numbers e = rw (settings_back settings at attributes proper numbers e) refl
said_back (bodies.Notification code severity text) at attributes proper numbers e = notice_back code severity text at attributes numbers e
said_back (bodies.Other name) at attributes proper numbers e = refl

body_back : (message : ConfigMessage) (child : Tree) → IsProperMessage message → IsWritable message → unplaced child ≡ unplaced (body_tree message.body) → body_of child ≡ Ok message.body
body_back message child proper writable e =
    let name : child.name ≡ name_of message.body = ap (λ (t : Tree). t.name) e in
    let attributes : Are child.attributes (attributes_of message.body) = ap (λ (t : Tree). t.attributes) e in
    ap (λ (n : List ℕ). said_as (kind_named n) n child.at child.attributes) name
    ∙ ap (λ (k : ConfigKind). said_as k (name_of message.body) child.at child.attributes) writable.named
    ∙ said_back message.body child.at child.attributes proper.body writable.numbers attributes

-- ---- the root

stamp_back : (stamp : Option ℤ) (attributes : List Attribute) → IfSome stamp IsMomentMillis → Are attributes (stamp_attributes stamp) → optional moment_in attrs.Timestamp attributes ≡ Ok stamp
stamp_back None attributes proper e = left_out_back moment_in attrs.Timestamp attributes [] e refl
stamp_back (Some millis) attributes proper e =
    optional_back moment_in attrs.Timestamp attributes (attribute_of attrs.Timestamp (moment_text millis) ∷ []) (moment_text millis) millis e refl (ap ok_of (moment_of-moment_text millis proper))

-- the one element of a forest that is one element but for its places
record HasOne (forest : Forest) (tree : Tree) : Type 0 where
  child : Tree
  only : trees_of forest ≡ child ∷ []
  same : unplaced child ≡ unplaced tree

none_left : (forest : Forest) → unplaced_forest forest ≡ none → forest ≡ none
none_left none e = refl
none_left (more name at attributes children rest) e = absurd cc

one_back : (forest : Forest) (tree : Tree) → unplaced_forest forest ≡ unplaced_forest (more tree.name tree.at tree.attributes tree.children none) → HasOne forest tree
one_back none tree e = absurd cc
one_back (more name at attributes children rest) tree e =
    let names : name ≡ tree.name = cc in
    let told : map unplaced_attribute attributes ≡ map unplaced_attribute tree.attributes = cc in
    let inside : unplaced_forest children ≡ unplaced_forest tree.children = cc in
    let behind : unplaced_forest rest ≡ none = cc in
    let child : Tree = record { name = name; at = at; attributes = attributes; children = children } in
    record {
      child = child;
      only = ap (λ (f : Forest). child ∷ trees_of f) (none_left rest behind);
      same = ap (λ (n : List ℕ). let t : Tree = record { name = n; at = 0; attributes = map unplaced_attribute attributes; children = unplaced_forest children } in t) names
          ∙ ap (λ (a : List Attribute). let t : Tree = record { name = tree.name; at = 0; attributes = a; children = unplaced_forest children } in t) told
          ∙ ap (λ (f : Forest). let t : Tree = record { name = tree.name; at = 0; attributes = map unplaced_attribute tree.attributes; children = f } in t) inside;
    }

pub message_back : (message : ConfigMessage) (tree : Tree) → IsProperMessage message → IsWritable message → unplaced tree ≡ unplaced (tree_of message) → message_of tree ≡ Ok message
message_back message tree proper writable e =
    let name : tree.name ≡ codes "Hermes" = ap (λ (t : Tree). t.name) e in
    let stamp = stamp_back message.stamp tree.attributes proper.stamp (ap (λ (t : Tree). t.attributes) e) in
    let one = one_back tree.children (body_tree message.body) (ap (λ (t : Tree). t.children) e) in
    let body = body_back message one.child proper writable one.same in
    rw (name, stamp, one.only, body) refl

-- ---- the element of a message

name_is_name : (body : ConfigBody) → IsProperBody body → IsName (name_of body)
name_is_name bodies.Get proper = refl
name_is_name (bodies.Set settings) proper = refl
name_is_name (bodies.Current settings) proper = refl
name_is_name (bodies.Notification code severity text) proper = refl
name_is_name (bodies.Other name) proper = proper

attr_is_name : (attr : ConfigAttr) → IsName (attr_text attr)
attr_is_name attrs.Timestamp = refl
attr_is_name attrs.UpstreamAddress = refl
attr_is_name attrs.DownstreamPort = refl
attr_is_name attrs.NotificationCode = refl
attr_is_name attrs.Severity = refl
attr_is_name attrs.Description = refl

proper_attribute : (attr : ConfigAttr) (value : List ℕ) → IsText value → IsProperAttribute (attribute_of attr value)
proper_attribute attr value text = record { name = attr_is_name attr; value = text }

port_proper : (port : ℕ) → port ≤ 65535 → IsProperAttribute (port_attribute port)
port_proper port small = proper_attribute attrs.DownstreamPort (decimal port) (IsText-decimal port (omega arith))

settings_proper : (upstream : Option Address) (port : ℕ) → IfSome upstream IsProperAddress → port ≤ 65535 → AllByRecursion IsProperAttribute (upstream_attributes upstream ++ port_attribute port ∷ [])
settings_proper None port proper small = (port_proper port small, tt)
settings_proper (Some address) port proper small = (proper_attribute attrs.UpstreamAddress (address_text address) (IsText-address address proper), (port_proper port small, tt))

severity_text : (severity : Severity) → IsText (decimal (severity_number severity))
severity_text severities.Fatal = IsText-decimal 1 (lit≤ tt)
severity_text severities.Error = IsText-decimal 2 (lit≤ tt)
severity_text severities.Warning = IsText-decimal 3 (lit≤ tt)
severity_text severities.Info = IsText-decimal 4 (lit≤ tt)

each_proper : (body : ConfigBody) → IsProperBody body → HasNumbers body → AllByRecursion IsProperAttribute (attributes_of body)
each_proper bodies.Get proper numbers = tt
each_proper (bodies.Set settings) proper numbers = settings_proper settings.upstream settings.port proper.upstream proper.port
each_proper (bodies.Current settings) proper numbers = settings_proper settings.upstream settings.port proper.upstream proper.port
each_proper (bodies.Notification code severity text) proper numbers =
    (proper_attribute attrs.NotificationCode (decimal code.number) (IsText-decimal code.number numbers), (proper_attribute attrs.Severity (decimal (severity_number severity)) (severity_text severity), (proper_attribute attrs.Description text proper, tt)))
each_proper (bodies.Other name) proper numbers = tt

stamp_proper : (stamp : Option ℤ) → AllByRecursion IsProperAttribute (stamp_attributes stamp)
stamp_proper None = tt
stamp_proper (Some millis) = (proper_attribute attrs.Timestamp (moment_text millis) (IsText-moment millis), tt)

pub tree_proper : (message : ConfigMessage) → IsProperMessage message → IsWritable message → form.IsProper (tree_of message)
tree_proper message proper writable = record {
  own = record { named = refl; each = stamp_proper message.stamp };
  below = (record { named = name_is_name message.body proper.body; each = each_proper message.body proper.body writable.numbers }, tt, tt);
}

stamp_few : (stamp : Option ℤ) → HasFewDistinct (stamp_attributes stamp)
unfolding IsDistinct
stamp_few None = record { few = lit≤ tt; distinct = tt }
stamp_few (Some millis) = record { few = lit≤ tt; distinct = (tt, tt) }

settings_few : (upstream : Option Address) (port : ℕ) → HasFewDistinct (upstream_attributes upstream ++ port_attribute port ∷ [])
unfolding IsDistinct
settings_few None port = record { few = lit≤ tt; distinct = (tt, tt) }
settings_few (Some address) port = record { few = lit≤ tt; distinct = ((refl, tt), (tt, tt)) }

body_few : (body : ConfigBody) → HasFewDistinct (attributes_of body)
unfolding IsDistinct
body_few bodies.Get = record { few = lit≤ tt; distinct = tt }
body_few (bodies.Set settings) = settings_few settings.upstream settings.port
body_few (bodies.Current settings) = settings_few settings.upstream settings.port
body_few (bodies.Notification code severity text) = record { few = lit≤ tt; distinct = ((refl, (refl, tt)), ((refl, tt), (tt, tt))) }
body_few (bodies.Other name) = record { few = lit≤ tt; distinct = tt }

pub tree_writable : (message : ConfigMessage) → form.IsWritable (tree_of message)
tree_writable message = record {
  own = stamp_few message.stamp;
  below = (body_few message.body, tt, tt);
  depth = lit≤ tt;
}

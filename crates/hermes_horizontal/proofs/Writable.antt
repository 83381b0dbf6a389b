-- The element of a message is a writable element, and that of a writable message is proper.
use Rattle.std.proofs.Common.{◌≡◌, ℕ, ℤ, ◌≤◌, not, Bool, true, false, List, [], ◌∷◌, map, length, Option, Some, None, option_map, codes, refl, arith, lit≤}
use Rattle.std.specs.List.{AllByRecursion, IsDistinct, list_any}
use Rattle.std.specs.Str.{bytes_eq}
use Rattle.std.proofs.lemmas.Bool.{and_parts, or_parts, not-true}
use Rattle.board_record.specs.declared.sub_board.SubBoard.{SubBoard}
use Rattle.hermes_element.proofs.Back.{other_way}
use Rattle.line_base.specs.Name.{IsName}
use Rattle.line_base.proofs.Printable.{IsText-moment}
use Rattle.hermes_element.specs.Element.{Forest, none}
use Rattle.hermes_element.specs.Canonical as form
use Rattle.hermes_element.specs.Canonical.{HasFewDistinct, HaveFewDistinct, IsProperAttribute, HasProperTag, HaveProperTags, depth_of}
use Rattle.hermes_element.specs.declared.attribute.Attribute.{Attribute}
use Rattle.hermes_horizontal.specs.declared.attr.Attr.{Attr}
use Rattle.hermes_horizontal.specs.declared.attr.Attr.TheVariants as attrs
use Rattle.hermes_horizontal.specs.declared.kind.Kind.{Kind}
use Rattle.hermes_horizontal.specs.declared.kind.Kind.TheVariants as kinds
use Rattle.hermes_horizontal.specs.declared.message.Features.{Features}
use Rattle.hermes_horizontal.specs.declared.message.Message.{Message}
use Rattle.hermes_horizontal.specs.Attrs.{attr_text}
use Rattle.hermes_horizontal.specs.Values.{Value, timed}
use Rattle.hermes_horizontal.specs.Rows.{Column, columns_of, sub_columns, stamp_column}
use Rattle.hermes_horizontal.specs.Parts.{parts, sub_parts, Inner, plain, featured, subbed, untold, of_features, inner_of, kind_of, name_of}
use Rattle.hermes_horizontal.specs.Canonical.{attribute_of, attribute_if, attributes_of, child_if, feature_children, sub_children, children_of, row_tree, stamped, tree_of, IsProper, IsProperIf, IsProperSub, HasWritableSubs, HasProperSubs, IsWritable, IsProperMessage}
use Rattle.hermes_horizontal.proofs.Again.{is_named, columns_apart}
use Rattle.hermes_horizontal.proofs.Fitting.{AreFit, IsOfKind, fit_parts, fit_sub, proper_sub, rows_apart, text_of_value}

attr_is_name : (attr : Attr) → IsName (attr_text attr)
attr_is_name attrs.Timestamp = refl
attr_is_name attrs.AliveType = refl
attr_is_name attrs.Id = refl
attr_is_name attrs.MachineId = refl
attr_is_name attrs.LaneId = refl
attr_is_name attrs.InterfaceId = refl
attr_is_name attrs.Version = refl
attr_is_name attrs.NotificationCode = refl
attr_is_name attrs.Severity = refl
attr_is_name attrs.Description = refl
attr_is_name attrs.BoardId = refl
attr_is_name attrs.BoardIdCreatedBy = refl
attr_is_name attrs.FailedBoard = refl
attr_is_name attrs.FlippedBoard = refl
attr_is_name attrs.ProductTypeId = refl
attr_is_name attrs.TopBarcode = refl
attr_is_name attrs.BottomBarcode = refl
attr_is_name attrs.Length = refl
attr_is_name attrs.Width = refl
attr_is_name attrs.Thickness = refl
attr_is_name attrs.ConveyorSpeed = refl
attr_is_name attrs.TopClearanceHeight = refl
attr_is_name attrs.BottomClearanceHeight = refl
attr_is_name attrs.Weight = refl
attr_is_name attrs.WorkOrderId = refl
attr_is_name attrs.BatchId = refl
attr_is_name attrs.TransferState = refl
attr_is_name attrs.SystemId = refl
attr_is_name attrs.BoardTransfer = refl
attr_is_name attrs.QueryId = refl
attr_is_name attrs.Barcode = refl
attr_is_name attrs.MagazineId = refl
attr_is_name attrs.SlotId = refl
attr_is_name attrs.SubBoards = refl
attr_is_name attrs.Pos = refl
attr_is_name attrs.Bc = refl
attr_is_name attrs.St = refl

-- ---- the attributes of a row

few : (columns : List Column) (values : List (Option Value)) → length (attributes_of columns values) ≤ length columns
few [] values = omega arith
few (column ∷ columns) [] = omega arith
few (column ∷ columns) (None ∷ values) = let h = few columns values in omega (arith, h)
few (column ∷ columns) (Some value ∷ values) = let h = few columns values in omega (arith, h)

proper_attribute : (attr : Attr) (column : Column) (value : Value) → IsOfKind column.kind value → IsProper value → IsProperAttribute (attribute_of attr value)
proper_attribute attr column value fit proper = record { name = attr_is_name attr; value = text_of_value column.kind value fit proper }

pub each_proper : (columns : List Column) (values : List (Option Value)) → AreFit columns values → AllByRecursion IsProperIf values → AllByRecursion IsProperAttribute (attributes_of columns values)
each_proper [] values fit proper = tt
each_proper (column ∷ columns) [] fit proper = tt
each_proper (column ∷ columns) (None ∷ values) fit proper = each_proper columns values fit.1 proper.1
each_proper (column ∷ columns) (Some value ∷ values) fit proper = (proper_attribute column.attr column value fit.0 proper.0, each_proper columns values fit.1 proper.1)

others_named : (name : List ℕ) (columns : List Column) (values : List (Option Value)) → list_any (is_named name) columns ≡ false → AllByRecursion (λ other. bytes_eq name other ≡ false) (map (λ (a : Attribute). a.name) (attributes_of columns values))
others_named name [] values e = tt
others_named name (column ∷ columns) [] e = tt
others_named name (column ∷ columns) (None ∷ values) e = others_named name columns values (or_parts (is_named name column) (list_any (is_named name) columns) e).1
others_named name (column ∷ columns) (Some value ∷ values) e =
    let p = or_parts (is_named name column) (list_any (is_named name) columns) e in
    (other_way (attr_text column.attr) name p.0, others_named name columns values p.1)

all_distinct : (columns : List Column) (values : List (Option Value)) → columns_apart columns ≡ true → IsDistinct bytes_eq (map (λ (a : Attribute). a.name) (attributes_of columns values))
unfolding IsDistinct
all_distinct [] values apart = tt
all_distinct (column ∷ columns) [] apart = tt
all_distinct (column ∷ columns) (None ∷ values) apart = all_distinct columns values (and_parts (not (list_any (is_named (attr_text column.attr)) columns)) (columns_apart columns) apart).1
all_distinct (column ∷ columns) (Some value ∷ values) apart =
    let p = and_parts (not (list_any (is_named (attr_text column.attr)) columns)) (columns_apart columns) apart in
    (others_named (attr_text column.attr) columns values (not-true (list_any (is_named (attr_text column.attr)) columns) p.0), all_distinct columns values p.1)

short_row : (kind : Kind) → length (columns_of kind) ≤ 16
short_row kinds.CheckAlive = lit≤ tt
short_row kinds.ServiceDescription = lit≤ tt
short_row kinds.Notification = lit≤ tt
short_row kinds.BoardAvailable = lit≤ tt
short_row kinds.RevokeBoardAvailable = lit≤ tt
short_row kinds.MachineReady = lit≤ tt
short_row kinds.RevokeMachineReady = lit≤ tt
short_row kinds.StartTransport = lit≤ tt
short_row kinds.StopTransport = lit≤ tt
short_row kinds.TransportFinished = lit≤ tt
short_row kinds.BoardForecast = lit≤ tt
short_row kinds.QueryBoardInfo = lit≤ tt
short_row kinds.SendBoardInfo = lit≤ tt
short_row kinds.Other = lit≤ tt

row_few : (columns : List Column) (values : List (Option Value)) → length columns ≤ 64 → columns_apart columns ≡ true → HasFewDistinct (attributes_of columns values)
row_few columns values short apart = record {
  few = (let h = few columns values in omega (arith, h, short));
  distinct = all_distinct columns values apart;
}

row_tag : (name : List ℕ) (columns : List Column) (values : List (Option Value)) → IsName name → AreFit columns values → AllByRecursion IsProperIf values → HasProperTag name (attributes_of columns values)
row_tag name columns values named fit proper = record { named = named; each = each_proper columns values fit proper }

root_few : (stamp : Option ℤ) → HasFewDistinct (attribute_if stamp_column.attr (option_map timed stamp))
unfolding IsDistinct
root_few None = record { few = lit≤ tt; distinct = tt }
root_few (Some millis) = record { few = lit≤ tt; distinct = (tt, tt) }

root_tag : (stamp : Option ℤ) → HasProperTag (codes "Hermes") (attribute_if stamp_column.attr (option_map timed stamp))
root_tag None = record { named = refl; each = tt }
root_tag (Some millis) = record { named = refl; each = (record { name = attr_is_name stamp_column.attr; value = IsText-moment millis }, tt) }

no_few : HasFewDistinct []
unfolding IsDistinct
no_few = record { few = lit≤ tt; distinct = tt }

empty_tag : (name : List ℕ) → IsName name → HasProperTag name []
empty_tag name named = record { named = named; each = tt }

-- ---- features

if_few : (test : Bool) (name : List ℕ) (rest : Forest) → HaveFewDistinct rest → HaveFewDistinct (child_if test name rest)
if_few true name rest h = (no_few, tt, h)
if_few false name rest h = h

feature_few : (features : Features) → HaveFewDistinct (feature_children features)
feature_few features =
    if_few features.check_alive (codes "FeatureCheckAliveResponse") _ (if_few features.forecast (codes "FeatureBoardForecast") _
    (if_few features.query (codes "FeatureQueryBoardInfo") _ (if_few features.send (codes "FeatureSendBoardInfo") none tt)))

sub_few : (subs : List SubBoard) → HaveFewDistinct (sub_children subs)
sub_few [] = tt
sub_few (sub ∷ subs) = (row_few sub_columns (sub_parts sub) (lit≤ tt) refl, tt, sub_few subs)

children_few : (inner : Inner) → HaveFewDistinct (children_of inner)
children_few plain = tt
children_few (featured features) = (no_few, feature_few features, tt)
children_few (subbed []) = tt
children_few (subbed (sub ∷ subs)) = (no_few, sub_few (sub ∷ subs), tt)
children_few (untold subs) = tt

if_tags : (test : Bool) (name : List ℕ) (rest : Forest) → IsName name → HaveProperTags rest → HaveProperTags (child_if test name rest)
if_tags true name rest named h = (empty_tag name named, tt, h)
if_tags false name rest named h = h

feature_tags : (features : Features) → HaveProperTags (feature_children features)
feature_tags features =
    if_tags features.check_alive (codes "FeatureCheckAliveResponse") _ refl (if_tags features.forecast (codes "FeatureBoardForecast") _ refl
    (if_tags features.query (codes "FeatureQueryBoardInfo") _ refl (if_tags features.send (codes "FeatureSendBoardInfo") none refl tt)))

sub_tags : (subs : List SubBoard) → AllByRecursion (λ (sub : SubBoard). sub.pos ≤ 999_999_999) subs → AllByRecursion IsProperSub subs → HaveProperTags (sub_children subs)
sub_tags [] places proper = tt
sub_tags (sub ∷ subs) places proper =
    (row_tag (codes "SB") sub_columns (sub_parts sub) refl (fit_sub sub places.0) (proper_sub sub proper.0), tt, sub_tags subs places.1 proper.1)

children_tags : (inner : Inner) → HasWritableSubs inner → HasProperSubs inner → HaveProperTags (children_of inner)
children_tags plain writable proper = tt
children_tags (featured features) writable proper = (empty_tag (codes "SupportedFeatures") refl, feature_tags features, tt)
children_tags (subbed []) writable proper = tt
children_tags (subbed (sub ∷ subs)) writable proper = (empty_tag (codes "SubBoards") refl, sub_tags (sub ∷ subs) writable.places proper, tt)
children_tags (untold subs) writable proper = tt

if_depth : (test : Bool) (name : List ℕ) (rest : Forest) → depth_of rest ≤ 1 → depth_of (child_if test name rest) ≤ 1
if_depth true name rest h = omega (arith, h)
if_depth false name rest h = h

feature_depth : (features : Features) → depth_of (feature_children features) ≤ 1
feature_depth features =
    let d = child_if features.send (codes "FeatureSendBoardInfo") none in
    let c = child_if features.query (codes "FeatureQueryBoardInfo") d in
    let b = child_if features.forecast (codes "FeatureBoardForecast") c in
    if_depth features.check_alive (codes "FeatureCheckAliveResponse") b (if_depth features.forecast (codes "FeatureBoardForecast") c
    (if_depth features.query (codes "FeatureQueryBoardInfo") d (if_depth features.send (codes "FeatureSendBoardInfo") none (omega arith))))

sub_depth : (subs : List SubBoard) → depth_of (sub_children subs) ≤ 1
sub_depth [] = omega arith
sub_depth (sub ∷ subs) = let h = sub_depth subs in omega (arith, h)

children_depth : (inner : Inner) → depth_of (children_of inner) ≤ 2
children_depth plain = omega arith
children_depth (featured features) = let h = feature_depth features in omega (arith, h)
children_depth (subbed []) = omega arith
children_depth (subbed (sub ∷ subs)) = let h = sub_depth (sub ∷ subs) in omega (arith, h)
children_depth (untold subs) = omega arith

-- where there are features or nothing there are no sub boards
pub no_subs : (features : Option Features) → HasWritableSubs (of_features features) × HasProperSubs (of_features features)
no_subs None = (tt, tt)
no_subs (Some features) = (tt, tt)

-- ---- the whole element

pub row_writable : (stamp : Option ℤ) (name : List ℕ) (columns : List Column) (values : List (Option Value)) (inner : Inner)
    → length columns ≤ 64 → columns_apart columns ≡ true → form.IsWritable (stamped stamp (row_tree name columns values inner))
row_writable stamp name columns values inner short apart = record {
  own = root_few stamp;
  below = (row_few columns values short apart, children_few inner, tt);
  depth = (let h = children_depth inner in omega (arith, h));
}

pub row_proper : (stamp : Option ℤ) (name : List ℕ) (columns : List Column) (values : List (Option Value)) (inner : Inner)
    → IsName name → AreFit columns values → AllByRecursion IsProperIf values → HasWritableSubs inner → HasProperSubs inner → form.IsProper (stamped stamp (row_tree name columns values inner))
row_proper stamp name columns values inner named fit proper writable_subs proper_subs = record {
  own = root_tag stamp;
  below = (row_tag name columns values named fit proper, children_tags inner writable_subs proper_subs, tt);
}

pub tree_writable : (message : Message) → form.IsWritable (tree_of message)
tree_writable message =
    let k = short_row (kind_of message.body) in
    row_writable message.stamp (name_of message.body) (columns_of (kind_of message.body)) (parts message.body) (inner_of message.body) (omega (arith, k)) (rows_apart (kind_of message.body))

pub tree_proper : (message : Message) → IsProperMessage message → IsWritable message → form.IsProper (tree_of message)
tree_proper message proper writable =
    row_proper message.stamp (name_of message.body) (columns_of (kind_of message.body)) (parts message.body) (inner_of message.body) proper.name (fit_parts message.body writable.numbers) proper.values writable.subs proper.subs

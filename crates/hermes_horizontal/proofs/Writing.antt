-- What is appended piece by piece is the canonical spelling.
use Rattle.std.proofs.Common.{◌≡◌, ℕ, ℤ, Bool, true, false, cond, ◌||◌, List, [], ◌∷◌, ◌++◌, codes, Option, Some, None, option_map, refl, sym, ap, ◌∙◌, append_assoc, append-nil}
use Rattle.std.specs.List.{flat_map}
use Rattle.std.proofs.lemmas.Bool.{false≢true}
use Rattle.std.proofs.lemmas.List.Concat.{flat_map-cons}
use Rattle.hermes_element.specs.Element.{Forest, Tree, none}
use Rattle.hermes_element.specs.Canonical.{canonical_attribute, canonical_forest, canonical_rest, canonical_front, canonical as canonical_tree}
use Rattle.hermes_horizontal.specs.declared.message.Features.{Features}
use Rattle.hermes_horizontal.specs.declared.attr.Attr.{Attr}
use Rattle.hermes_horizontal.specs.declared.attr.Attr.TheVariants as attrs
use Rattle.hermes_horizontal.specs.declared.board.Board.{Board}
use Rattle.hermes_horizontal.specs.Boards.{board_parts}
use Rattle.hermes_horizontal.specs.declared.message.Horizontal.{Horizontal}
use Rattle.hermes_horizontal.specs.declared.message.Message.{Message}
use Rattle.hermes_horizontal.specs.Values.{Value, worded, identified, measured, timed}
use Rattle.hermes_horizontal.specs.Rows.{Column, columns_of, board_columns, stamp_column}
use Rattle.hermes_horizontal.specs.Parts.{parts, Inner, featured, inner_of, kind_of, name_of, of_quality, of_flip}
use Rattle.hermes_horizontal.specs.Canonical.{attribute_of, attribute_if, attributes_of, assigned, assignment, assignment_if, child_if, feature_children, children_of, row_tree, body_tree, stamped, rest_spelling, children_spelling, body_spelling, canonical}

abbrev pub spelled_if : Bool → List ℕ → List ℕ
spelled_if test name = cond test (canonical_front name [] ++ codes "/>") []

child_spelled : (test : Bool) (name : List ℕ) (rest : Forest) → canonical_forest (child_if test name rest) ≡ spelled_if test name ++ canonical_forest rest
child_spelled true name rest = refl
child_spelled false name rest = refl

abbrev features_with : Bool → Bool → Bool → Bool → Features
features_with a b c d = record { check_alive = a; forecast = b; query = c; send = d }

holding : (a b c d : Bool) (name inside : List ℕ) → (a || b || c || d) ≡ true → canonical_rest name (feature_children (features_with a b c d)) inside ≡ (62 ∷ []) ++ inside ++ (60 ∷ 47 ∷ []) ++ name ++ (62 ∷ [])
holding true b c d name inside h = refl
holding false true c d name inside h = refl
holding false false true d name inside h = refl
holding false false false true name inside h = refl
holding false false false false name inside h = absurd (false≢true h)

listed : (a b c d : Bool) → canonical_forest (feature_children (features_with a b c d))
    ≡ spelled_if a (codes "FeatureCheckAliveResponse") ++ (spelled_if b (codes "FeatureBoardForecast") ++ (spelled_if c (codes "FeatureQueryBoardInfo") ++ (spelled_if d (codes "FeatureSendBoardInfo") ++ [])))
listed a b c d =
    let t = child_if d (codes "FeatureSendBoardInfo") none in
    let u = child_if c (codes "FeatureQueryBoardInfo") t in
    let v = child_if b (codes "FeatureBoardForecast") u in
    child_spelled a (codes "FeatureCheckAliveResponse") v
    ∙ ap (λ (x : List ℕ). spelled_if a (codes "FeatureCheckAliveResponse") ++ x) (child_spelled b (codes "FeatureBoardForecast") u
    ∙ ap (λ (x : List ℕ). spelled_if b (codes "FeatureBoardForecast") ++ x) (child_spelled c (codes "FeatureQueryBoardInfo") t
    ∙ ap (λ (x : List ℕ). spelled_if c (codes "FeatureQueryBoardInfo") ++ x) (child_spelled d (codes "FeatureSendBoardInfo") none)))

grouped : (t p q r s : List ℕ) → (((((t ++ codes "<SupportedFeatures>") ++ p) ++ q) ++ r) ++ s) ++ codes "</SupportedFeatures>"
    ≡ t ++ ((codes "<SupportedFeatures" ++ ((62 ∷ []) ++ (p ++ (q ++ (r ++ (s ++ [])))) ++ (60 ∷ 47 ∷ []) ++ codes "SupportedFeatures" ++ (62 ∷ []))) ++ [])
grouped t p q r s = simp (append_assoc, append-nil)

pub features_spelled : (features : Features) (t : List ℕ) → (features.check_alive || features.forecast || features.query || features.send) ≡ true
    → (((((t ++ codes "<SupportedFeatures>") ++ spelled_if features.check_alive (codes "FeatureCheckAliveResponse")) ++ spelled_if features.forecast (codes "FeatureBoardForecast")) ++ spelled_if features.query (codes "FeatureQueryBoardInfo")) ++ spelled_if features.send (codes "FeatureSendBoardInfo")) ++ codes "</SupportedFeatures>"
    ≡ t ++ canonical_forest (children_of (featured features))
features_spelled features t h =
    let a = features.check_alive in let b = features.forecast in let c = features.query in let d = features.send in
    grouped t (spelled_if a (codes "FeatureCheckAliveResponse")) (spelled_if b (codes "FeatureBoardForecast")) (spelled_if c (codes "FeatureQueryBoardInfo")) (spelled_if d (codes "FeatureSendBoardInfo"))
    ∙ ap (λ (x : List ℕ). t ++ ((codes "<SupportedFeatures" ++ x) ++ []))
    (ap (λ (i : List ℕ). (62 ∷ []) ++ i ++ (60 ∷ 47 ∷ []) ++ codes "SupportedFeatures" ++ (62 ∷ [])) (sym (listed a b c d))
    ∙ sym (holding a b c d (codes "SupportedFeatures") (canonical_forest (feature_children features)) h))

pub features_written : (features : Features) (t0 t1 t2 t3 t4 t5 t6 : List ℕ) → (features.check_alive || features.forecast || features.query || features.send) ≡ true
    → t1 ≡ t0 ++ codes "<SupportedFeatures>"
    → t2 ≡ t1 ++ spelled_if features.check_alive (codes "FeatureCheckAliveResponse")
    → t3 ≡ t2 ++ spelled_if features.forecast (codes "FeatureBoardForecast")
    → t4 ≡ t3 ++ spelled_if features.query (codes "FeatureQueryBoardInfo")
    → t5 ≡ t4 ++ spelled_if features.send (codes "FeatureSendBoardInfo")
    → t6 ≡ t5 ++ codes "</SupportedFeatures>"
    → t6 ≡ t0 ++ canonical_forest (children_of (featured features))
features_written features t0 t1 t2 t3 t4 t5 t6 h e1 e2 e3 e4 e5 e6 = rw (e6, e5, e4, e3, e2, e1) (features_spelled features t0 h)

-- ---- attributes one after another

pub assigned_is : (front : List ℕ) (columns : List Column) (values : List (Option Value)) → assigned front columns values ≡ front ++ flat_map canonical_attribute (attributes_of columns values)
assigned_is front [] values = sym (append-nil front)
assigned_is front (column ∷ columns) [] = sym (append-nil front)
assigned_is front (column ∷ columns) (None ∷ values) = assigned_is (front ++ []) columns values ∙ ap (λ (x : List ℕ). x ++ flat_map canonical_attribute (attributes_of columns values)) (append-nil front)
assigned_is front (column ∷ columns) (Some value ∷ values) =
    let behind = flat_map canonical_attribute (attributes_of columns values) in
    assigned_is (front ++ assignment column.attr value) columns values
    ∙ append_assoc front (assignment column.attr value) behind
    ∙ ap (λ (x : List ℕ). front ++ x) (sym (flat_map-cons canonical_attribute (attribute_of column.attr value) (attributes_of columns values)))

body_grouped : (t name attributes children : List ℕ) → (((t ++ (60 ∷ [])) ++ name) ++ attributes) ++ children ≡ t ++ (((60 ∷ name) ++ attributes) ++ children)
body_grouped t name attributes children = simp append_assoc

pub row_written : (name : List ℕ) (columns : List Column) (values : List (Option Value)) (inner : Inner) (t0 t1 t2 t3 t4 : List ℕ)
    → t1 ≡ t0 ++ (60 ∷ []) → t2 ≡ t1 ++ name → t3 ≡ assigned t2 columns values → t4 ≡ t3 ++ rest_spelling name inner
    → t4 ≡ t0 ++ canonical_tree (row_tree name columns values inner)
row_written name columns values inner t0 t1 t2 t3 t4 e1 e2 e3 e4 =
    let attributes = flat_map canonical_attribute (attributes_of columns values) in
    let e5 : t3 ≡ t2 ++ attributes = e3 ∙ assigned_is t2 columns values in
    e4 ∙ ap (λ (x : List ℕ). x ++ rest_spelling name inner) (e5 ∙ ap (λ (x : List ℕ). x ++ attributes) (e2 ∙ ap (λ (x : List ℕ). x ++ name) e1))
    ∙ body_grouped t0 name attributes (rest_spelling name inner)

pub body_written : (body : Horizontal) (t0 t1 t2 t3 t4 : List ℕ) → t1 ≡ t0 ++ (60 ∷ []) → t2 ≡ t1 ++ name_of body → t3 ≡ assigned t2 (columns_of (kind_of body)) (parts body) → t4 ≡ t3 ++ children_spelling body
    → t4 ≡ t0 ++ body_spelling body
body_written body = row_written (name_of body) (columns_of (kind_of body)) (parts body) (inner_of body)

stamp_written : (attr : Attr) (value : Option Value) → assignment_if attr value ≡ flat_map canonical_attribute (attribute_if attr value)
stamp_written attr None = refl
stamp_written attr (Some value) = sym (flat_map-cons canonical_attribute (attribute_of attr value) [] ∙ append-nil (assignment attr value))

message_grouped : (t front stamp body a b c : List ℕ) → ((((t ++ front) ++ stamp) ++ (62 ∷ [])) ++ body) ++ (a ++ (b ++ c)) ≡ t ++ ((front ++ stamp) ++ (62 ∷ ((((body ++ []) ++ a) ++ b) ++ c)))
message_grouped t front stamp body a b c = simp (append_assoc, append-nil)

pub root_written : (stamp : Option ℤ) (child : Tree) (t0 t1 t2 t3 t4 t5 : List ℕ) → t1 ≡ t0 ++ codes "<Hermes" → t2 ≡ t1 ++ assignment_if stamp_column.attr (option_map timed stamp) → t3 ≡ t2 ++ codes ">"
    → t4 ≡ t3 ++ canonical_tree child → t5 ≡ t4 ++ codes "</Hermes>" → t5 ≡ t0 ++ canonical_tree (stamped stamp child)
root_written moment child t0 t1 t2 t3 t4 t5 e1 e2 e3 e4 e5 =
    let stamp = flat_map canonical_attribute (attribute_if stamp_column.attr (option_map timed moment)) in
    let e6 : t2 ≡ t1 ++ stamp = e2 ∙ ap (λ (x : List ℕ). t1 ++ x) (stamp_written stamp_column.attr (option_map timed moment)) in
    rw (e5, e4, e3, e6, e1) (message_grouped t0 (codes "<Hermes") stamp (canonical_tree child) (codes "</") (codes "Hermes") (codes ">"))

pub message_written : (message : Message) (t0 t1 t2 t3 t4 t5 : List ℕ) → t1 ≡ t0 ++ codes "<Hermes" → t2 ≡ t1 ++ assignment_if stamp_column.attr (option_map timed message.stamp) → t3 ≡ t2 ++ codes ">"
    → t4 ≡ t3 ++ body_spelling message.body → t5 ≡ t4 ++ codes "</Hermes>" → t5 ≡ t0 ++ canonical message
message_written message = root_written message.stamp (body_tree message.body)

-- the attributes that tell of a board
pub board_written : (whole : Bool) (board : Board) (t0 t1 t2 t3 t4 t5 t6 t7 t8 t9 t10 t11 t12 t13 t14 t15 t16 : List ℕ)
    → t1 ≡ t0 ++ assignment_if attrs.BoardId (option_map identified board.id)
    → t2 ≡ t1 ++ assignment_if attrs.BoardIdCreatedBy (option_map (λ text. worded text.now) board.created_by)
    → t3 ≡ t2 ++ assignment_if attrs.FailedBoard (option_map of_quality board.quality)
    → t4 ≡ t3 ++ assignment_if attrs.FlippedBoard (option_map of_flip board.flip)
    → t5 ≡ t4 ++ assignment_if attrs.ProductTypeId (option_map (λ text. worded text.now) board.product)
    → t6 ≡ t5 ++ assignment_if attrs.TopBarcode (option_map (λ text. worded text.now) board.top)
    → t7 ≡ t6 ++ assignment_if attrs.BottomBarcode (option_map (λ text. worded text.now) board.bottom)
    → t8 ≡ t7 ++ assignment_if attrs.Length (option_map measured board.length)
    → t9 ≡ t8 ++ assignment_if attrs.Width (option_map measured board.width)
    → t10 ≡ t9 ++ assignment_if attrs.Thickness (option_map measured board.thickness)
    → t11 ≡ t10 ++ assignment_if attrs.ConveyorSpeed (option_map measured board.speed)
    → t12 ≡ t11 ++ assignment_if attrs.TopClearanceHeight (option_map measured board.top_clearance)
    → t13 ≡ t12 ++ assignment_if attrs.BottomClearanceHeight (option_map measured board.bottom_clearance)
    → t14 ≡ t13 ++ assignment_if attrs.Weight (option_map measured board.weight)
    → t15 ≡ t14 ++ assignment_if attrs.WorkOrderId (option_map (λ text. worded text.now) board.order)
    → t16 ≡ t15 ++ assignment_if attrs.BatchId (option_map (λ text. worded text.now) board.batch)
    → t16 ≡ assigned t0 (board_columns whole) (board_parts board)
board_written whole board t0 t1 t2 t3 t4 t5 t6 t7 t8 t9 t10 t11 t12 t13 t14 t15 t16 e1 e2 e3 e4 e5 e6 e7 e8 e9 e10 e11 e12 e13 e14 e15 e16 =
    rw (e16, e15, e14, e13, e12, e11, e10, e9, e8, e7, e6, e5, e4, e3, e2, e1) refl

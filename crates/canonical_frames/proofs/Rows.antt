-- The attributes of a row as they are written are those of a message of that row.
use Rattle.std.proofs.Common.{◌≡◌, ℕ, zero, suc, ◌≤◌, Bool, true, false, true≢false, List, [], ◌∷◌, ◌++◌, Option, Some, None, option_map, refl, sym, ap, subst, ◌∙◌, arith, append_assoc, lit≤}
use Rattle.std.specs.List.{AllByRecursion, flat_map}
use Rattle.std.proofs.lemmas.List.Concat.{flat_map-cons}
use Rattle.board_record.specs.declared.record.Record.{Record}
use Rattle.board_record.specs.declared.sub_board.SubBoard.{SubBoard}
use Rattle.hermes_element.specs.Element.{none}
use Rattle.hermes_element.specs.Canonical.{canonical_attribute}
use Rattle.hermes_horizontal.specs.declared.attr.Attr.{Attr}
use Rattle.hermes_horizontal.specs.declared.attr.Attr.TheVariants as attrs
use Rattle.hermes_horizontal.specs.declared.kind.Kind.{Kind}
use Rattle.hermes_horizontal.specs.declared.kind.Kind.TheVariants as kinds
use Rattle.hermes_horizontal.specs.declared.message.Info.{Info}
use Rattle.hermes_horizontal.specs.declared.message.Horizontal.{Horizontal}
use Rattle.hermes_horizontal.specs.declared.message.Horizontal.TheVariants as bodies
use Rattle.hermes_horizontal.specs.Values.{Value, worded, numbered, identified, measured, timed}
use Rattle.hermes_horizontal.specs.Values as values
use Rattle.hermes_horizontal.specs.Rows.{Column, columns_of, stamp_column, record_columns, board_columns, required, optional, ping, severity, quality, flip, transfer}
use Rattle.hermes_horizontal.specs.Parts.{parts, info_of, info_parts, Inner, plain, featured, subbed, untold, inner_of, kind_of, of_ping, of_severity, of_quality, of_flip, of_transfer}
use Rattle.hermes_horizontal.specs.Canonical.{attribute_of, attributes_of, assignment, assignment_if, children_of, IsProperIf, IsProperSub, HasShortNumbers, AreWritableSubs, HasWritableSubs, HasProperSubs}
use Rattle.hermes_horizontal.proofs.Fitting.{IsFit}
use Rattle.hermes_horizontal.proofs.PartsBack.{text_in, number_in, id_in, decimal_in, moment_in, or_zero, or_empty, ping_from, severity_from, quality_from, flip_from, transfer_from, ping_in, quality_in, flip_in}
use Rattle.canonical_frames.specs.Pieces.{AreAssigned, is_recognised}

-- ---- what the attributes of a row say

pub values_in : (columns : List Column) (bytes rest : List ℕ) → AreAssigned columns bytes rest → List (Option Value)
values_in [] bytes rest row = []
values_in (column ∷ columns) bytes rest row = row.1.value ∷ values_in columns row.0 rest row.2

proper_in : (columns : List Column) (bytes rest : List ℕ) (row : AreAssigned columns bytes rest) → AllByRecursion IsProperIf (values_in columns bytes rest row)
unfolding values_in
proper_in [] bytes rest row = tt
proper_in (column ∷ columns) bytes rest row = (row.1.proper, proper_in columns row.0 rest row.2)

one_more : (column : Column) (columns : List Column) (value : Option Value) (others : List (Option Value)) (bytes middle rest : List ℕ) → bytes ≡ assignment_if column.attr value ++ middle
    → middle ≡ flat_map canonical_attribute (attributes_of columns others) ++ rest → bytes ≡ flat_map canonical_attribute (attributes_of (column ∷ columns) (value ∷ others)) ++ rest
one_more column columns None others bytes middle rest e d = e ∙ d
one_more column columns (Some value) others bytes middle rest e d =
    let behind = flat_map canonical_attribute (attributes_of columns others) in
    e ∙ ap (λ (t : List ℕ). assignment column.attr value ++ t) d ∙ sym (append_assoc (assignment column.attr value) behind rest)
    ∙ ap (λ (t : List ℕ). t ++ rest) (sym (flat_map-cons canonical_attribute (attribute_of column.attr value) (attributes_of columns others)))

spelled_in : (columns : List Column) (bytes rest : List ℕ) (row : AreAssigned columns bytes rest) → bytes ≡ flat_map canonical_attribute (attributes_of columns (values_in columns bytes rest row)) ++ rest
unfolding values_in
spelled_in [] bytes rest row = row
spelled_in (column ∷ columns) bytes rest row =
    one_more column columns row.1.value (values_in columns row.0 rest row.2) bytes row.0 rest row.1.spelled (spelled_in columns row.0 rest row.2)

-- ---- parts of a message from its values

text_again : (attr : Attr) (v : Option Value) → IsFit (optional attr values.text) v → option_map worded (text_in v) ≡ v
text_again attr None fit = refl
text_again attr (Some (worded t)) fit = refl
text_again attr (Some (numbered n)) fit = absurd fit
text_again attr (Some (identified n)) fit = absurd fit
text_again attr (Some (measured n)) fit = absurd fit
text_again attr (Some (timed n)) fit = absurd fit

text_needed : (attr : Attr) (v : Option Value) → IsFit (required attr values.text) v → Some (worded (or_empty (text_in v))) ≡ v
text_needed attr None fit = absurd (true≢false fit)
text_needed attr (Some (worded t)) fit = refl
text_needed attr (Some (numbered n)) fit = absurd fit
text_needed attr (Some (identified n)) fit = absurd fit
text_needed attr (Some (measured n)) fit = absurd fit
text_needed attr (Some (timed n)) fit = absurd fit

number_needed : (attr : Attr) (v : Option Value) → IsFit (required attr values.number) v → (Some (numbered (or_zero (number_in v))) ≡ v) × (or_zero (number_in v) ≤ 999_999_999)
number_needed attr None fit = absurd (true≢false fit)
number_needed attr (Some (numbered n)) fit = (refl, fit)
number_needed attr (Some (worded t)) fit = absurd fit
number_needed attr (Some (identified n)) fit = absurd fit
number_needed attr (Some (measured n)) fit = absurd fit
number_needed attr (Some (timed n)) fit = absurd fit

id_again : (attr : Attr) (v : Option Value) → IsFit (optional attr values.identity) v → option_map identified (id_in v) ≡ v
id_again attr None fit = refl
id_again attr (Some (identified n)) fit = refl
id_again attr (Some (worded t)) fit = absurd fit
id_again attr (Some (numbered n)) fit = absurd fit
id_again attr (Some (measured n)) fit = absurd fit
id_again attr (Some (timed n)) fit = absurd fit

id_needed : (attr : Attr) (v : Option Value) → IsFit (required attr values.identity) v → Some (identified (or_zero (id_in v))) ≡ v
id_needed attr None fit = absurd (true≢false fit)
id_needed attr (Some (identified n)) fit = refl
id_needed attr (Some (worded t)) fit = absurd fit
id_needed attr (Some (numbered n)) fit = absurd fit
id_needed attr (Some (measured n)) fit = absurd fit
id_needed attr (Some (timed n)) fit = absurd fit

decimal_again : (attr : Attr) (v : Option Value) → IsFit (optional attr values.decimal) v → option_map measured (decimal_in v) ≡ v
decimal_again attr None fit = refl
decimal_again attr (Some (measured n)) fit = refl
decimal_again attr (Some (worded t)) fit = absurd fit
decimal_again attr (Some (numbered n)) fit = absurd fit
decimal_again attr (Some (identified n)) fit = absurd fit
decimal_again attr (Some (timed n)) fit = absurd fit

pub moment_again : (v : Option Value) → IsFit stamp_column v → option_map timed (moment_in v) ≡ v
moment_again None fit = refl
moment_again (Some (timed n)) fit = refl
moment_again (Some (worded t)) fit = absurd fit
moment_again (Some (numbered n)) fit = absurd fit
moment_again (Some (identified n)) fit = absurd fit
moment_again (Some (measured n)) fit = absurd fit

-- ---- choices

ping_of : (n : ℕ) → 1 ≤ n → n ≤ 2 → of_ping (ping_from n) ≡ numbered n
ping_of zero low high = absurd (omega arith)
ping_of (suc zero) low high = refl
ping_of (suc (suc zero)) low high = refl
ping_of (suc (suc (suc n))) low high = absurd (omega arith)

severity_of : (n : ℕ) → 1 ≤ n → n ≤ 4 → of_severity (severity_from n) ≡ numbered n
severity_of zero low high = absurd (omega arith)
severity_of (suc zero) low high = refl
severity_of (suc (suc zero)) low high = refl
severity_of (suc (suc (suc zero))) low high = refl
severity_of (suc (suc (suc (suc zero)))) low high = refl
severity_of (suc (suc (suc (suc (suc n))))) low high = absurd (omega arith)

quality_of : (n : ℕ) → n ≤ 2 → of_quality (quality_from n) ≡ numbered n
quality_of zero high = refl
quality_of (suc zero) high = refl
quality_of (suc (suc zero)) high = refl
quality_of (suc (suc (suc n))) high = absurd (omega arith)

flip_of : (n : ℕ) → n ≤ 2 → of_flip (flip_from n) ≡ numbered n
flip_of zero high = refl
flip_of (suc zero) high = refl
flip_of (suc (suc zero)) high = refl
flip_of (suc (suc (suc n))) high = absurd (omega arith)

transfer_of : (n : ℕ) → 1 ≤ n → n ≤ 3 → of_transfer (transfer_from n) ≡ numbered n
transfer_of zero low high = absurd (omega arith)
transfer_of (suc zero) low high = refl
transfer_of (suc (suc zero)) low high = refl
transfer_of (suc (suc (suc zero))) low high = refl
transfer_of (suc (suc (suc (suc n)))) low high = absurd (omega arith)

ping_again : (attr : Attr) (v : Option Value) → IsFit (optional attr ping) v → option_map of_ping (ping_in v) ≡ v
ping_again attr None fit = refl
ping_again attr (Some (numbered n)) fit = ap Some (ping_of n fit.low_end fit.high_end)
ping_again attr (Some (worded t)) fit = absurd fit
ping_again attr (Some (identified n)) fit = absurd fit
ping_again attr (Some (measured n)) fit = absurd fit
ping_again attr (Some (timed n)) fit = absurd fit

severity_needed : (attr : Attr) (v : Option Value) → IsFit (required attr severity) v → Some (of_severity (severity_from (or_zero (number_in v)))) ≡ v
severity_needed attr None fit = absurd (true≢false fit)
severity_needed attr (Some (numbered n)) fit = ap Some (severity_of n fit.low_end fit.high_end)
severity_needed attr (Some (worded t)) fit = absurd fit
severity_needed attr (Some (identified n)) fit = absurd fit
severity_needed attr (Some (measured n)) fit = absurd fit
severity_needed attr (Some (timed n)) fit = absurd fit

quality_again : (attr : Attr) (v : Option Value) → IsFit (optional attr quality) v → option_map of_quality (quality_in v) ≡ v
quality_again attr None fit = refl
quality_again attr (Some (numbered n)) fit = ap Some (quality_of n fit.high_end)
quality_again attr (Some (worded t)) fit = absurd fit
quality_again attr (Some (identified n)) fit = absurd fit
quality_again attr (Some (measured n)) fit = absurd fit
quality_again attr (Some (timed n)) fit = absurd fit

quality_needed : (attr : Attr) (v : Option Value) → IsFit (required attr quality) v → Some (of_quality (quality_from (or_zero (number_in v)))) ≡ v
quality_needed attr None fit = absurd (true≢false fit)
quality_needed attr (Some (numbered n)) fit = ap Some (quality_of n fit.high_end)
quality_needed attr (Some (worded t)) fit = absurd fit
quality_needed attr (Some (identified n)) fit = absurd fit
quality_needed attr (Some (measured n)) fit = absurd fit
quality_needed attr (Some (timed n)) fit = absurd fit

flip_again : (attr : Attr) (v : Option Value) → IsFit (optional attr flip) v → option_map of_flip (flip_in v) ≡ v
flip_again attr None fit = refl
flip_again attr (Some (numbered n)) fit = ap Some (flip_of n fit.high_end)
flip_again attr (Some (worded t)) fit = absurd fit
flip_again attr (Some (identified n)) fit = absurd fit
flip_again attr (Some (measured n)) fit = absurd fit
flip_again attr (Some (timed n)) fit = absurd fit

flip_needed : (attr : Attr) (v : Option Value) → IsFit (required attr flip) v → Some (of_flip (flip_from (or_zero (number_in v)))) ≡ v
flip_needed attr None fit = absurd (true≢false fit)
flip_needed attr (Some (numbered n)) fit = ap Some (flip_of n fit.high_end)
flip_needed attr (Some (worded t)) fit = absurd fit
flip_needed attr (Some (identified n)) fit = absurd fit
flip_needed attr (Some (measured n)) fit = absurd fit
flip_needed attr (Some (timed n)) fit = absurd fit

transfer_needed : (attr : Attr) (v : Option Value) → IsFit (required attr transfer) v → Some (of_transfer (transfer_from (or_zero (number_in v)))) ≡ v
transfer_needed attr None fit = absurd (true≢false fit)
transfer_needed attr (Some (numbered n)) fit = ap Some (transfer_of n fit.low_end fit.high_end)
transfer_needed attr (Some (worded t)) fit = absurd fit
transfer_needed attr (Some (identified n)) fit = absurd fit
transfer_needed attr (Some (measured n)) fit = absurd fit
transfer_needed attr (Some (timed n)) fit = absurd fit

-- ---- a message of the row

-- nothing stands in its element
abbrev pub IsBare : Inner → Type 0
IsBare plain = Unit {0}
IsBare (featured features) = ⊥
IsBare (subbed subs) = subs ≡ []
IsBare (untold subs) = subs ≡ []

pub bare_writable : (inner : Inner) → IsBare inner → HasWritableSubs inner
bare_writable plain bare = tt
bare_writable (featured features) bare = tt
bare_writable (subbed subs) bare = subst AreWritableSubs (sym bare) (record { places = tt; list = record { few = lit≤ tt; small = lit≤ tt } })
bare_writable (untold subs) bare = bare

pub bare_proper : (inner : Inner) → IsBare inner → HasProperSubs inner
bare_proper plain bare = tt
bare_proper (featured features) bare = tt
bare_proper (subbed subs) bare = subst (λ (l : List SubBoard). AllByRecursion IsProperSub l) (sym bare) tt
bare_proper (untold subs) bare = tt

pub bare_children : (inner : Inner) → IsBare inner → children_of inner ≡ none
bare_children plain bare = refl
bare_children (featured features) bare = absurd bare
bare_children (subbed subs) bare = ap (λ (l : List SubBoard). children_of (subbed l)) bare
bare_children (untold subs) bare = refl

-- a message whose attributes are written so
pub record HasBody (kind : Kind) (bytes rest : List ℕ) : Type 0 where
  pub body : Horizontal
  pub of_kind : kind_of body ≡ kind
  pub childless : IsBare (inner_of body)
  pub numbers : HasShortNumbers body
  pub proper : AllByRecursion IsProperIf (parts body)
  pub spelled : bytes ≡ flat_map canonical_attribute (attributes_of (columns_of kind) (parts body)) ++ rest

with_body : (kind : Kind) (body : Horizontal) (bytes rest : List ℕ) (row : AreAssigned (columns_of kind) bytes rest) → kind_of body ≡ kind → IsBare (inner_of body) → HasShortNumbers body
    → parts body ≡ values_in (columns_of kind) bytes rest row → HasBody kind bytes rest
with_body kind body bytes rest row of_kind childless numbers same = record {
  body = body;
  of_kind = of_kind;
  childless = childless;
  numbers = numbers;
  proper = subst (λ (vs : List (Option Value)). AllByRecursion IsProperIf vs) (sym same) (proper_in (columns_of kind) bytes rest row);
  spelled = spelled_in (columns_of kind) bytes rest row ∙ ap (λ (vs : List (Option Value)). flat_map canonical_attribute (attributes_of (columns_of kind) vs) ++ rest) (sym same);
}

more_same : {a a' : Option Value} {vs vs' : List (Option Value)} → a ≡ a' → vs ≡ vs' → a ∷ vs ≡ a' ∷ vs'
more_same e d = λ i. e i ∷ d i

none_same : {vs : List (Option Value)} → vs ≡ vs
none_same = refl

-- what is told of a board
abbrev told : (whole : Bool) (bytes rest : List ℕ) → AreAssigned (board_columns whole) bytes rest → Info
told whole bytes rest r = record {
  id = id_in r.1.value;
  created_by = text_in r.2.1.value;
  quality = quality_in r.2.2.1.value;
  flip = flip_in r.2.2.2.1.value;
  product = text_in r.2.2.2.2.1.value;
  top = text_in r.2.2.2.2.2.1.value;
  bottom = text_in r.2.2.2.2.2.2.1.value;
  length = decimal_in r.2.2.2.2.2.2.2.1.value;
  width = decimal_in r.2.2.2.2.2.2.2.2.1.value;
  thickness = decimal_in r.2.2.2.2.2.2.2.2.2.1.value;
  speed = decimal_in r.2.2.2.2.2.2.2.2.2.2.1.value;
  top_clearance = decimal_in r.2.2.2.2.2.2.2.2.2.2.2.1.value;
  bottom_clearance = decimal_in r.2.2.2.2.2.2.2.2.2.2.2.2.1.value;
  weight = decimal_in r.2.2.2.2.2.2.2.2.2.2.2.2.2.1.value;
  order = text_in r.2.2.2.2.2.2.2.2.2.2.2.2.2.2.1.value;
  batch = text_in r.2.2.2.2.2.2.2.2.2.2.2.2.2.2.2.1.value;
  subs = [];
}

-- a whole record
abbrev whole_record : (bytes rest : List ℕ) → AreAssigned (board_columns true) bytes rest → Record
whole_record bytes rest r = record {
  id = or_zero (id_in r.1.value);
  created_by = or_empty (text_in r.2.1.value);
  quality = quality_from (or_zero (number_in r.2.2.1.value));
  flip = flip_from (or_zero (number_in r.2.2.2.1.value));
  product = text_in r.2.2.2.2.1.value;
  top = text_in r.2.2.2.2.2.1.value;
  bottom = text_in r.2.2.2.2.2.2.1.value;
  length = decimal_in r.2.2.2.2.2.2.2.1.value;
  width = decimal_in r.2.2.2.2.2.2.2.2.1.value;
  thickness = decimal_in r.2.2.2.2.2.2.2.2.2.1.value;
  speed = decimal_in r.2.2.2.2.2.2.2.2.2.2.1.value;
  top_clearance = decimal_in r.2.2.2.2.2.2.2.2.2.2.2.1.value;
  bottom_clearance = decimal_in r.2.2.2.2.2.2.2.2.2.2.2.2.1.value;
  weight = decimal_in r.2.2.2.2.2.2.2.2.2.2.2.2.2.1.value;
  order = text_in r.2.2.2.2.2.2.2.2.2.2.2.2.2.2.1.value;
  batch = text_in r.2.2.2.2.2.2.2.2.2.2.2.2.2.2.2.1.value;
  subs = [];
}

record_again : (bytes rest : List ℕ) (r : AreAssigned record_columns bytes rest)
    → option_map worded (text_in r.1.value) ∷ option_map worded (text_in r.2.1.value) ∷ option_map worded (text_in r.2.2.1.value) ∷ option_map measured (decimal_in r.2.2.2.1.value) ∷ option_map measured (decimal_in r.2.2.2.2.1.value) ∷ option_map measured (decimal_in r.2.2.2.2.2.1.value) ∷ option_map measured (decimal_in r.2.2.2.2.2.2.1.value) ∷ option_map measured (decimal_in r.2.2.2.2.2.2.2.1.value) ∷ option_map measured (decimal_in r.2.2.2.2.2.2.2.2.1.value) ∷ option_map measured (decimal_in r.2.2.2.2.2.2.2.2.2.1.value) ∷ option_map worded (text_in r.2.2.2.2.2.2.2.2.2.2.1.value) ∷ option_map worded (text_in r.2.2.2.2.2.2.2.2.2.2.2.1.value) ∷ [] ≡ values_in record_columns bytes rest r
unfolding values_in
record_again bytes rest r =
    more_same (text_again attrs.ProductTypeId r.1.value r.1.fit)
    (more_same (text_again attrs.TopBarcode r.2.1.value r.2.1.fit)
    (more_same (text_again attrs.BottomBarcode r.2.2.1.value r.2.2.1.fit)
    (more_same (decimal_again attrs.Length r.2.2.2.1.value r.2.2.2.1.fit)
    (more_same (decimal_again attrs.Width r.2.2.2.2.1.value r.2.2.2.2.1.fit)
    (more_same (decimal_again attrs.Thickness r.2.2.2.2.2.1.value r.2.2.2.2.2.1.fit)
    (more_same (decimal_again attrs.ConveyorSpeed r.2.2.2.2.2.2.1.value r.2.2.2.2.2.2.1.fit)
    (more_same (decimal_again attrs.TopClearanceHeight r.2.2.2.2.2.2.2.1.value r.2.2.2.2.2.2.2.1.fit)
    (more_same (decimal_again attrs.BottomClearanceHeight r.2.2.2.2.2.2.2.2.1.value r.2.2.2.2.2.2.2.2.1.fit)
    (more_same (decimal_again attrs.Weight r.2.2.2.2.2.2.2.2.2.1.value r.2.2.2.2.2.2.2.2.2.1.fit)
    (more_same (text_again attrs.WorkOrderId r.2.2.2.2.2.2.2.2.2.2.1.value r.2.2.2.2.2.2.2.2.2.2.1.fit)
    (more_same (text_again attrs.BatchId r.2.2.2.2.2.2.2.2.2.2.2.1.value r.2.2.2.2.2.2.2.2.2.2.2.1.fit)
    none_same)))))))))))

told_again : (bytes rest : List ℕ) (r : AreAssigned (board_columns false) bytes rest) → info_parts (told false bytes rest r) ≡ values_in (board_columns false) bytes rest r
unfolding values_in
told_again bytes rest r =
    more_same (id_again attrs.BoardId r.1.value r.1.fit)
    (more_same (text_again attrs.BoardIdCreatedBy r.2.1.value r.2.1.fit)
    (more_same (quality_again attrs.FailedBoard r.2.2.1.value r.2.2.1.fit)
    (more_same (flip_again attrs.FlippedBoard r.2.2.2.1.value r.2.2.2.1.fit)
    (record_again r.2.2.2.0 rest r.2.2.2.2))))

whole_again : (bytes rest : List ℕ) (r : AreAssigned (board_columns true) bytes rest) → info_parts (info_of (whole_record bytes rest r)) ≡ values_in (board_columns true) bytes rest r
unfolding values_in
whole_again bytes rest r =
    more_same (id_needed attrs.BoardId r.1.value r.1.fit)
    (more_same (text_needed attrs.BoardIdCreatedBy r.2.1.value r.2.1.fit)
    (more_same (quality_needed attrs.FailedBoard r.2.2.1.value r.2.2.1.fit)
    (more_same (flip_needed attrs.FlippedBoard r.2.2.2.1.value r.2.2.2.1.fit)
    (record_again r.2.2.2.0 rest r.2.2.2.2))))

-- the message of a row
pub row_body : (kind : Kind) (bytes rest : List ℕ) → is_recognised kind ≡ true → AreAssigned (columns_of kind) bytes rest → HasBody kind bytes rest
unfolding values_in
row_body kinds.CheckAlive bytes rest known r =
    with_body kinds.CheckAlive (bodies.CheckAlive (ping_in r.1.value) (text_in r.2.1.value)) bytes rest r refl tt tt
    (more_same (ping_again attrs.AliveType r.1.value r.1.fit) (more_same (text_again attrs.Id r.2.1.value r.2.1.fit) none_same))
row_body kinds.Notification bytes rest known r =
    let code = number_needed attrs.NotificationCode r.1.value r.1.fit in
    with_body kinds.Notification (bodies.Notification (record { number = or_zero (number_in r.1.value) }) (severity_from (or_zero (number_in r.2.1.value))) (or_empty (text_in r.2.2.1.value))) bytes rest r refl tt code.1
    (more_same code.0 (more_same (severity_needed attrs.Severity r.2.1.value r.2.1.fit) (more_same (text_needed attrs.Description r.2.2.1.value r.2.2.1.fit) none_same)))
row_body kinds.BoardAvailable bytes rest known r =
    with_body kinds.BoardAvailable (bodies.BoardAvailable (whole_record bytes rest r)) bytes rest r refl refl tt (whole_again bytes rest r)
row_body kinds.RevokeBoardAvailable bytes rest known r = with_body kinds.RevokeBoardAvailable bodies.RevokeBoardAvailable bytes rest r refl tt tt none_same
row_body kinds.MachineReady bytes rest known r =
    with_body kinds.MachineReady (bodies.MachineReady (quality_from (or_zero (number_in r.1.value)))) bytes rest r refl tt tt (more_same (quality_needed attrs.FailedBoard r.1.value r.1.fit) none_same)
row_body kinds.RevokeMachineReady bytes rest known r = with_body kinds.RevokeMachineReady bodies.RevokeMachineReady bytes rest r refl tt tt none_same
row_body kinds.StartTransport bytes rest known r =
    with_body kinds.StartTransport (bodies.StartTransport (or_zero (id_in r.1.value))) bytes rest r refl tt tt (more_same (id_needed attrs.BoardId r.1.value r.1.fit) none_same)
row_body kinds.StopTransport bytes rest known r =
    with_body kinds.StopTransport (bodies.StopTransport (transfer_from (or_zero (number_in r.1.value))) (or_zero (id_in r.2.1.value))) bytes rest r refl tt tt
    (more_same (transfer_needed attrs.TransferState r.1.value r.1.fit) (more_same (id_needed attrs.BoardId r.2.1.value r.2.1.fit) none_same))
row_body kinds.TransportFinished bytes rest known r =
    with_body kinds.TransportFinished (bodies.TransportFinished (transfer_from (or_zero (number_in r.1.value))) (or_zero (id_in r.2.1.value))) bytes rest r refl tt tt
    (more_same (transfer_needed attrs.TransferState r.1.value r.1.fit) (more_same (id_needed attrs.BoardId r.2.1.value r.2.1.fit) none_same))
row_body kinds.BoardForecast bytes rest known r = with_body kinds.BoardForecast (bodies.BoardForecast (told false bytes rest r)) bytes rest r refl refl tt (told_again bytes rest r)
row_body kinds.QueryBoardInfo bytes rest known r =
    with_body kinds.QueryBoardInfo (bodies.QueryBoardInfo (text_in r.1.value) (text_in r.2.1.value)) bytes rest r refl tt tt
    (more_same (text_again attrs.TopBarcode r.1.value r.1.fit) (more_same (text_again attrs.BottomBarcode r.2.1.value r.2.1.fit) none_same))
row_body kinds.SendBoardInfo bytes rest known r = with_body kinds.SendBoardInfo (bodies.SendBoardInfo (told false bytes rest r)) bytes rest r refl refl tt (told_again bytes rest r)
row_body kinds.ServiceDescription bytes rest known r = absurd (true≢false (sym known))
row_body kinds.Other bytes rest known r = absurd (true≢false (sym known))

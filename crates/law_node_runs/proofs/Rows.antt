-- Each row of the table of supervisory messages: its columns say a message of that kind, or the first refusal.
use Rattle.std.proofs.Common.{◌≡◌, ℕ, Bool, true, false, List, [], ◌∷◌, Option, None, Some, Result, Ok, is_some, option_map, refl, ap, ◌∙◌}
use Rattle.std.proofs.lemmas.Bool.{false≢true}
use Rattle.line_base.specs.Number.{number_of}
use Rattle.line_base.specs.declared.states.Severity.{Severity}
use Rattle.line_base.specs.declared.states.Transfer.{Transfer}
use Rattle.line_base.specs.declared.states.Transfer.TheVariants as transfers
use Rattle.hermes_element.specs.Element.{Forest, trees_of}
use Rattle.hermes_element.specs.declared.attribute.Attribute.{Attribute}
use Rattle.hermes_horizontal.specs.Attrs.{attr_text}
use Rattle.hermes_horizontal.specs.Parts.{of_ping, of_severity, of_transfer}
use Rattle.hermes_horizontal.specs.Roots.{refusal_of_result}
use Rattle.hermes_horizontal.specs.Rows.{optional, ping, severity, transfer}
use Rattle.hermes_horizontal.specs.Said.{features_in, first_named, mapped_ok, then_ok, value_at, value_or_bad, values_of}
use Rattle.hermes_horizontal.specs.Values.{Value, identified, identity, long_number, long_number_of, number, numbered, read_as, text, worded}
use Rattle.hermes_horizontal.specs.declared.attr.Attr.TheVariants as attrs
use Rattle.hermes_horizontal.specs.declared.fault.Fault.TheVariants as faults
use Rattle.hermes_horizontal.specs.declared.fault.Refusal.{Refusal}
use Rattle.hermes_vertical.specs.Parts.{features_of, kind_of, of_passing, parts, question_parts}
use Rattle.hermes_vertical.specs.Questions.{asks, is_question, place_of, said_if}
use Rattle.hermes_vertical.specs.Rows.{columns_of, passage_columns, passing, query_column, question_columns}
use Rattle.hermes_vertical.specs.Spelling.{FitsRow, features_said, row_values}
use Rattle.hermes_vertical.specs.declared.kind.VerticalKind.{VerticalKind}
use Rattle.hermes_vertical.specs.declared.kind.VerticalKind.TheVariants as kinds
use Rattle.hermes_vertical.specs.declared.message.Passage.{Passage}
use Rattle.hermes_vertical.specs.declared.message.Passing.{Passing}
use Rattle.hermes_vertical.specs.declared.message.Passing.TheVariants as passings
use Rattle.hermes_vertical.specs.declared.message.Question.TheVariants as questions
use Rattle.hermes_vertical.specs.declared.message.System.{System}
use Rattle.hermes_vertical.specs.declared.message.Vertical.{Vertical}
use Rattle.hermes_vertical.specs.declared.message.Vertical.TheVariants as bodies
use Rattle.law_one_report.proofs.Columns.{Both, Reads, Says, Tells, id_read, joined, may, may_be, must, must_be, no_values, none_say, number_read, ping_read, reads, reads_none, refuses, severity_read, tells, text_read, transfer_read}

-- a message of this kind is said, or it is refused
pub data IsRow (kind : VerticalKind) (at : ℕ) (attributes : List Attribute) (children : Forest) : Type 0 where
  said : (body : Vertical) → FitsRow kind at attributes children body → IsRow kind at attributes children
  unsaid : (refusal : Refusal) → refusal_of_result (row_values at attributes kind) ≡ Some refusal → IsRow kind at attributes children

-- ---- a row of columns alone

-- a body is made of what the columns say
record Makes {X : Type 0} (kind : VerticalKind) (at : ℕ) (attributes : List Attribute) (children : Forest) (view : X → List (Option Value)) (body : X → Vertical) : Type 0 where
  of_kind : (x : X) → kind_of (body x) ≡ kind
  values : (x : X) → view x ≡ parts (body x)
  features : (x : X) → features_said kind children ≡ features_of (body x)

row_by : {X : Type 0} (kind : VerticalKind) (at : ℕ) (attributes : List Attribute) (children : Forest) (view : X → List (Option Value)) (body : X → Vertical)
    → Makes kind at attributes children view body → Tells view (row_values at attributes kind) → IsRow kind at attributes children
row_by kind at attributes children view body makes (tells x is) =
    said (body x) (record { of_kind = makes.of_kind x; values = is ∙ ap (λ (vs : List (Option Value)). Ok vs) (makes.values x); features = makes.features x })
row_by kind at attributes children view body makes (refuses refusal is) = unsaid refusal (ap refusal_of_result is)

-- ---- a question

-- the number of a question
long_found : (found : Option ℕ) → Reads numbered (option_map numbered found)
long_found None = reads_none refl
long_found (Some n) = reads n refl

long_told : (at : ℕ) (read : Option Value) → Reads numbered read → Tells (must numbered) (value_or_bad at attrs.QueryId read)
long_told at read (reads n is) = tells n (ap (value_or_bad at attrs.QueryId) is)
long_told at read (reads_none is) = refuses (record { at = at; why = faults.BadValue attrs.QueryId }) (ap (value_or_bad at attrs.QueryId) is)

long_said : (at : ℕ) (found : Option Attribute) → Tells (must numbered) (value_at at query_column found)
long_said at None = refuses (record { at = at; why = faults.Missing attrs.QueryId }) refl
long_said at (Some attribute) = long_told attribute.at (read_as long_number attribute.value) (long_found (long_number_of attribute.value))

-- what the four columns of a question say, by the attributes that are there
abbrev four_said : ℕ → Option Attribute → Option Attribute → Option Attribute → Option Attribute → Result (List (Option Value)) Refusal
four_said at barcode order magazine slot =
    then_ok (value_at at (optional attrs.Barcode text) barcode) (λ one.
    mapped_ok (λ values. one ∷ values)
    (then_ok (value_at at (optional attrs.WorkOrderId text) order) (λ two.
    mapped_ok (λ values. two ∷ values)
    (then_ok (value_at at (optional attrs.MagazineId text) magazine) (λ three.
    mapped_ok (λ values. three ∷ values)
    (then_ok (value_at at (optional attrs.SlotId number) slot) (λ four.
    mapped_ok (λ values. four ∷ values) (Ok []))))))))

place_told : (at : ℕ) (magazine slot : Attribute) (found : Option ℕ) → number_of slot.value ≡ found → Tells question_parts (four_said at None None (Some magazine) (Some slot))
place_told at magazine slot None is = refuses (record { at = slot.at; why = faults.BadValue attrs.SlotId }) (rw is refl)
place_told at magazine slot (Some n) is = tells (questions.Place magazine.value n) (rw is refl)

four_told : (at : ℕ) (barcode order magazine slot : Option Attribute) → is_question (is_some barcode) (is_some order) (is_some magazine) (is_some slot) ≡ true → Tells question_parts (four_said at barcode order magazine slot)
four_told at (Some barcode) None None None is = tells (questions.Barcode barcode.value) refl
four_told at None (Some order) None None is = tells (questions.Order order.value) refl
four_told at None None (Some magazine) (Some slot) is = place_told at magazine slot (number_of slot.value) refl
four_told at None None None None is = absurd (false≢true is)
four_told at None None None (Some slot) is = absurd (false≢true is)
four_told at None None (Some magazine) None is = absurd (false≢true is)
four_told at None (Some order) None (Some slot) is = absurd (false≢true is)
four_told at None (Some order) (Some magazine) None is = absurd (false≢true is)
four_told at None (Some order) (Some magazine) (Some slot) is = absurd (false≢true is)
four_told at (Some barcode) None None (Some slot) is = absurd (false≢true is)
four_told at (Some barcode) None (Some magazine) None is = absurd (false≢true is)
four_told at (Some barcode) None (Some magazine) (Some slot) is = absurd (false≢true is)
four_told at (Some barcode) (Some order) None None is = absurd (false≢true is)
four_told at (Some barcode) (Some order) None (Some slot) is = absurd (false≢true is)
four_told at (Some barcode) (Some order) (Some magazine) None is = absurd (false≢true is)
four_told at (Some barcode) (Some order) (Some magazine) (Some slot) is = absurd (false≢true is)

asked_said : (at : ℕ) (attributes : List Attribute) (test : Bool) → asks attributes ≡ test → (query : Option Attribute) → Tells question_parts (said_if test at query (values_of at attributes question_columns))
asked_said at attributes true is query =
    four_told at (first_named (attr_text attrs.Barcode) attributes) (first_named (attr_text attrs.WorkOrderId) attributes)
    (first_named (attr_text attrs.MagazineId) attributes) (first_named (attr_text attrs.SlotId) attributes) is
asked_said at attributes false is query = refuses (record { at = place_of at query; why = faults.BadValue attrs.QueryId }) refl

query_by : (at : ℕ) (attributes : List Attribute) (children : Forest) (first : Result (Option Value) Refusal) (told : Result (List (Option Value)) Refusal)
    → row_values at attributes kinds.QueryWorkOrderInfo ≡ then_ok first (λ query. mapped_ok (λ values. query ∷ values) told)
    → Tells (must numbered) first → Tells question_parts told → IsRow kinds.QueryWorkOrderInfo at attributes children
query_by at attributes children first told all (refuses refusal is) asked =
    unsaid refusal (ap refusal_of_result (all ∙ ap (λ (n : Result (Option Value) Refusal). then_ok n (λ query. mapped_ok (λ values. query ∷ values) told)) is))
query_by at attributes children first told all (tells n is) (refuses refusal other) =
    unsaid refusal (ap refusal_of_result (all ∙ ap (λ (x : Result (Option Value) Refusal). then_ok x (λ query. mapped_ok (λ values. query ∷ values) told)) is
    ∙ ap (mapped_ok (λ (vs : List (Option Value)). Some (numbered n) ∷ vs)) other))
query_by at attributes children first told all (tells n is) (tells question other) =
    said (bodies.QueryWorkOrderInfo n question) (record {
      of_kind = refl;
      values = all ∙ ap (λ (x : Result (Option Value) Refusal). then_ok x (λ query. mapped_ok (λ values. query ∷ values) told)) is
          ∙ ap (mapped_ok (λ (vs : List (Option Value)). Some (numbered n) ∷ vs)) other;
      features = refl;
    })

query_row : (at : ℕ) (attributes : List Attribute) (children : Forest) → IsRow kinds.QueryWorkOrderInfo at attributes children
query_row at attributes children =
    let query = first_named (attr_text attrs.QueryId) attributes in
    query_by at attributes children (value_at at query_column query) (said_if (asks attributes) at query (values_of at attributes question_columns)) refl
    (long_said at query) (asked_said at attributes (asks attributes) refl query)

-- ---- a board that passes

-- the words of both enumerations have the same numbers
abbrev passing_of : Transfer → Passing
passing_of transfers.NotStarted = passings.Transferred
passing_of transfers.Incomplete = passings.Loaded
passing_of transfers.Complete = passings.ByHand

passing_same : (state : Transfer) → of_transfer state ≡ of_passing (passing_of state)
passing_same transfers.NotStarted = refl
passing_same transfers.Incomplete = refl
passing_same transfers.Complete = refl

passing_by : (read : Option Value) → Reads of_transfer read → Reads of_passing read
passing_by read (reads state is) = reads (passing_of state) (is ∙ ap (λ (v : Value). Some v) (passing_same state))
passing_by read (reads_none is) = reads_none is

passing_read : (bytes : List ℕ) → Reads of_passing (read_as passing bytes)
passing_read bytes = passing_by (read_as transfer bytes) (transfer_read bytes)

abbrev Passed : Type 0
Passed = Both (List ℕ) (Both ℕ (Both Passing (Both ℕ (Unit {0}))))

abbrev passed_passage : Passed → Passage
passed_passage passed = record {
  machine = passed.first;
  lane = passed.others.first;
  how = passed.others.others.first;
  id = passed.others.others.others.first;
}

abbrev passed_values : Passed → List (Option Value)
passed_values = joined (must worded) (joined (must numbered) (joined (must of_passing) (joined (must identified) no_values)))

passed_says : Says passed_values passage_columns
passed_says =
    must_be text attrs.MachineId text_read
    (must_be number attrs.LaneId number_read
    (must_be passing attrs.BoardTransfer passing_read
    (must_be identity attrs.BoardId id_read none_say)))

-- ---- the other rows

abbrev Described : Type 0
Described = Both (List ℕ) (Both (List ℕ) (Unit {0}))

abbrev described : Forest → Described → System
described children told = record { system = told.first; version = told.others.first; features = features_in (trees_of children) }

described_says : Says (joined (must worded) (joined (must worded) no_values)) (columns_of kinds.SupervisoryServiceDescription)
described_says = must_be text attrs.SystemId text_read (must_be text attrs.Version text_read none_say)

abbrev ordered_values : Both ℕ (Both (List ℕ) (Both (Option (List ℕ)) (Both (Option (List ℕ)) (Unit {0})))) → List (Option Value)
ordered_values = joined (must numbered) (joined (must worded) (joined (may worded) (joined (may worded) no_values)))

long_read : (bytes : List ℕ) → Reads numbered (read_as long_number bytes)
long_read bytes = long_found (long_number_of bytes)

ordered_says : Says ordered_values (columns_of kinds.SendWorkOrderInfo)
ordered_says =
    must_be long_number attrs.QueryId long_read
    (must_be text attrs.WorkOrderId text_read
    (may_be text attrs.BatchId text_read
    (may_be text attrs.ProductTypeId text_read none_say)))

abbrev noticed_values : Both ℕ (Both Severity (Both (List ℕ) (Unit {0}))) → List (Option Value)
noticed_values = joined (must numbered) (joined (must of_severity) (joined (must worded) no_values))

noticed_says : Says noticed_values (columns_of kinds.Notification)
noticed_says =
    must_be number attrs.NotificationCode number_read
    (must_be severity attrs.Severity severity_read (must_be text attrs.Description text_read none_say))

alive_says : Says (joined (may of_ping) (joined (may worded) no_values)) (columns_of kinds.CheckAlive)
alive_says = may_be ping attrs.AliveType ping_read (may_be text attrs.Id text_read none_say)

-- one of another name fits whatever name it has
pub each_row : (kind : VerticalKind) (at : ℕ) (attributes : List Attribute) (children : Forest) → IsRow kind at attributes children
each_row kinds.SupervisoryServiceDescription at attributes children =
    row_by kinds.SupervisoryServiceDescription at attributes children (joined (must worded) (joined (must worded) no_values)) (λ x. bodies.SupervisoryServiceDescription (described children x))
    (record { of_kind = λ x. refl; values = λ x. refl; features = λ x. refl }) (described_says.says at attributes)
each_row kinds.BoardArrived at attributes children =
    row_by kinds.BoardArrived at attributes children passed_values (λ x. bodies.BoardArrived (passed_passage x))
    (record { of_kind = λ x. refl; values = λ x. refl; features = λ x. refl }) (passed_says.says at attributes)
each_row kinds.BoardDeparted at attributes children =
    row_by kinds.BoardDeparted at attributes children passed_values (λ x. bodies.BoardDeparted (passed_passage x))
    (record { of_kind = λ x. refl; values = λ x. refl; features = λ x. refl }) (passed_says.says at attributes)
each_row kinds.QueryWorkOrderInfo at attributes children = query_row at attributes children
each_row kinds.SendWorkOrderInfo at attributes children =
    row_by kinds.SendWorkOrderInfo at attributes children ordered_values (λ x. bodies.SendWorkOrderInfo x.first x.others.first x.others.others.first x.others.others.others.first)
    (record { of_kind = λ x. refl; values = λ x. refl; features = λ x. refl }) (ordered_says.says at attributes)
each_row kinds.CheckAlive at attributes children =
    row_by kinds.CheckAlive at attributes children (joined (may of_ping) (joined (may worded) no_values)) (λ x. bodies.CheckAlive x.first x.others.first)
    (record { of_kind = λ x. refl; values = λ x. refl; features = λ x. refl }) (alive_says.says at attributes)
each_row kinds.Notification at attributes children =
    row_by kinds.Notification at attributes children noticed_values (λ x. bodies.Notification (record { number = x.first }) x.others.first x.others.others.first)
    (record { of_kind = λ x. refl; values = λ x. refl; features = λ x. refl }) (noticed_says.says at attributes)
each_row kinds.Other at attributes children =
    row_by kinds.Other at attributes children no_values (λ x. bodies.Other [])
    (record { of_kind = λ x. refl; values = λ x. refl; features = λ x. refl }) (none_say.says at attributes)

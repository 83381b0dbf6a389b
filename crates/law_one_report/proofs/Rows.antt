-- Each row of the table: its columns say a message of that kind, or the first refusal.
use Rattle.std.proofs.Common.{◌≡◌, ℕ, true, false, List, [], Option, None, Some, Result, Ok, Err, refl, ap, ◌∙◌}
use Rattle.line_base.specs.declared.states.Flip.{Flip}
use Rattle.line_base.specs.declared.states.Quality.{Quality}
use Rattle.line_base.specs.declared.states.Severity.{Severity}
use Rattle.line_base.specs.declared.states.Transfer.{Transfer}
use Rattle.board_record.specs.declared.record.Record.{Record}
use Rattle.board_record.specs.declared.sub_board.SubBoard.{SubBoard}
use Rattle.hermes_element.specs.Element.{Forest, trees_of}
use Rattle.hermes_element.specs.declared.attribute.Attribute.{Attribute}
use Rattle.hermes_horizontal.specs.Parts.{Inner, inner_of, kind_of, of_flip, of_ping, of_quality, of_severity, of_transfer, parts, subbed}
use Rattle.hermes_horizontal.specs.Reading.{FitsRow}
use Rattle.hermes_horizontal.specs.Rows.{board_columns, columns_of, flip, notice_columns, ping, quality, record_columns, severity, transfer, transfer_columns}
use Rattle.hermes_horizontal.specs.Roots.{first_of, refusal_of_result}
use Rattle.hermes_horizontal.specs.Said.{features_in, mapped_ok, subs_in, values_of}
use Rattle.hermes_horizontal.specs.Spelling.{board_refusal, inner_said, row_refusal}
use Rattle.hermes_horizontal.specs.Values.{Value, decimal, identified, identity, measured, number, numbered, text, worded}
use Rattle.hermes_horizontal.specs.declared.attr.Attr.TheVariants as attrs
use Rattle.hermes_horizontal.specs.declared.fault.Refusal.{Refusal}
use Rattle.hermes_horizontal.specs.declared.kind.Kind.{Kind}
use Rattle.hermes_horizontal.specs.declared.kind.Kind.TheVariants as kinds
use Rattle.hermes_horizontal.specs.declared.message.Horizontal.{Horizontal}
use Rattle.hermes_horizontal.specs.declared.message.Horizontal.TheVariants as bodies
use Rattle.hermes_horizontal.specs.declared.message.Info.{Info}
use Rattle.hermes_horizontal.specs.declared.message.Service.{Service}
use Rattle.law_one_report.proofs.Columns.{Both, Says, Tells, decimal_read, flip_read, id_read, joined, may, may_be, must, must_be, no_values, none_say, number_read, ping_read, quality_read, refuses, severity_read, tells, text_read, transfer_read}

-- a message of this kind is said, or it is refused
pub data IsRow (kind : Kind) (at : ℕ) (attributes : List Attribute) (children : Forest) : Type 0 where
  said : (body : Horizontal) → FitsRow kind at attributes children body → IsRow kind at attributes children
  unsaid : (refusal : Refusal) → row_refusal kind at attributes children ≡ Some refusal → IsRow kind at attributes children

-- ---- a row of attributes alone

-- a body is made of what the columns say
record Makes {X : Type 0} (kind : Kind) (at : ℕ) (attributes : List Attribute) (children : Forest) (view : X → List (Option Value)) (body : X → Horizontal) : Type 0 where
  of_kind : (x : X) → kind_of (body x) ≡ kind
  values : (x : X) → view x ≡ parts (body x)
  inner : (x : X) → inner_said kind children ≡ Ok (inner_of (body x))
  refusals : row_refusal kind at attributes children ≡ refusal_of_result (values_of at attributes (columns_of kind))

row_by : {X : Type 0} (kind : Kind) (at : ℕ) (attributes : List Attribute) (children : Forest) (view : X → List (Option Value)) (body : X → Horizontal)
    → Makes kind at attributes children view body → Tells view (values_of at attributes (columns_of kind)) → IsRow kind at attributes children
row_by kind at attributes children view body makes (tells x is) =
    said (body x) (record { of_kind = makes.of_kind x; values = is ∙ ap (λ (vs : List (Option Value)). Ok vs) (makes.values x); inner = makes.inner x })
row_by kind at attributes children view body makes (refuses refusal is) = unsaid refusal (makes.refusals ∙ ap refusal_of_result is)

row_of : {X : Type 0} (kind : Kind) (at : ℕ) (attributes : List Attribute) (children : Forest) (view : X → List (Option Value)) (body : X → Horizontal)
    → Makes kind at attributes children view body → Says view (columns_of kind) → IsRow kind at attributes children
row_of kind at attributes children view body makes columns = row_by kind at attributes children view body makes (columns.says at attributes)

-- ---- a row with sub boards

-- a body is made of what the columns say, and of the sub boards
record MakesBoard {X : Type 0} (kind : Kind) (at : ℕ) (attributes : List Attribute) (children : Forest) (view : X → List (Option Value)) (body : List SubBoard → X → Horizontal) : Type 0 where
  of_kind : (subs : List SubBoard) (x : X) → kind_of (body subs x) ≡ kind
  values : (subs : List SubBoard) (x : X) → view x ≡ parts (body subs x)
  inner : (subs : List SubBoard) (x : X) → subbed subs ≡ inner_of (body subs x)
  listed : inner_said kind children ≡ mapped_ok subbed (subs_in (trees_of children))
  refusals : row_refusal kind at attributes children ≡ board_refusal (values_of at attributes (columns_of kind)) children

board_row_by : {X : Type 0} (kind : Kind) (at : ℕ) (attributes : List Attribute) (children : Forest) (view : X → List (Option Value)) (body : List SubBoard → X → Horizontal) (subs : Result (List SubBoard) Refusal)
    → MakesBoard kind at attributes children view body → subs_in (trees_of children) ≡ subs → Tells view (values_of at attributes (columns_of kind)) → IsRow kind at attributes children
board_row_by kind at attributes children view body (Ok subs) makes are (tells x is) =
    said (body subs x) (record {
      of_kind = makes.of_kind subs x;
      values = is ∙ ap (λ (vs : List (Option Value)). Ok vs) (makes.values subs x);
      inner = makes.listed ∙ ap (mapped_ok subbed) are ∙ ap (λ (inner : Inner). Ok inner) (makes.inner subs x);
    })
board_row_by kind at attributes children view body (Err refusal) makes are (tells x is) =
    unsaid refusal (makes.refusals ∙ ap (λ (said : Result (List (Option Value)) Refusal). board_refusal said children) is ∙ ap refusal_of_result are)
board_row_by kind at attributes children view body subs makes are (refuses refusal is) =
    unsaid refusal (makes.refusals ∙ ap (λ (said : Result (List (Option Value)) Refusal). board_refusal said children) is)

board_row : {X : Type 0} (kind : Kind) (at : ℕ) (attributes : List Attribute) (children : Forest) (view : X → List (Option Value)) (body : List SubBoard → X → Horizontal)
    → MakesBoard kind at attributes children view body → Says view (columns_of kind) → IsRow kind at attributes children
board_row kind at attributes children view body makes columns = board_row_by kind at attributes children view body (subs_in (trees_of children)) makes refl (columns.says at attributes)

-- ---- boards

-- what may be told of a board beside who made it and how it is
abbrev Words : Type 0 → Type 0
Words = Both (Option (List ℕ))

abbrev Sizes : Type 0 → Type 0
Sizes = Both (Option ℕ)

abbrev Plan : Type 0
Plan = Words (Words (Words (Sizes (Sizes (Sizes (Sizes (Sizes (Sizes (Sizes (Words (Words (Unit {0}))))))))))))

abbrev plan_values : Plan → List (Option Value)
plan_values =
    joined (may worded) (joined (may worded) (joined (may worded) (joined (may measured) (joined (may measured) (joined (may measured) (joined (may measured)
    (joined (may measured) (joined (may measured) (joined (may measured) (joined (may worded) (joined (may worded) no_values)))))))))))

plan_says : Says plan_values record_columns
plan_says =
    may_be text attrs.ProductTypeId text_read
    (may_be text attrs.TopBarcode text_read
    (may_be text attrs.BottomBarcode text_read
    (may_be decimal attrs.Length decimal_read
    (may_be decimal attrs.Width decimal_read
    (may_be decimal attrs.Thickness decimal_read
    (may_be decimal attrs.ConveyorSpeed decimal_read
    (may_be decimal attrs.TopClearanceHeight decimal_read
    (may_be decimal attrs.BottomClearanceHeight decimal_read
    (may_be decimal attrs.Weight decimal_read
    (may_be text attrs.WorkOrderId text_read
    (may_be text attrs.BatchId text_read
    none_say)))))))))))

-- the same of a plan, behind these four, with the sub boards
abbrev info_with : Option ℕ → Option (List ℕ) → Option Quality → Option Flip → List SubBoard → Plan → Info
info_with id created_by quality flip subs plan =
    let size = plan.others.others.others in
    let clear = size.others.others.others.others in
    let end = clear.others.others.others in
    record {
      id = id;
      created_by = created_by;
      quality = quality;
      flip = flip;
      product = plan.first;
      top = plan.others.first;
      bottom = plan.others.others.first;
      length = size.first;
      width = size.others.first;
      thickness = size.others.others.first;
      speed = size.others.others.others.first;
      top_clearance = clear.first;
      bottom_clearance = clear.others.first;
      weight = clear.others.others.first;
      order = end.first;
      batch = end.others.first;
      subs = subs;
    }

abbrev Told : Type 0
Told = Both (Option ℕ) (Both (Option (List ℕ)) (Both (Option Quality) (Both (Option Flip) Plan)))

abbrev told_info : List SubBoard → Told → Info
told_info subs told = info_with told.first told.others.first told.others.others.first told.others.others.others.first subs told.others.others.others.others

abbrev told_values : Told → List (Option Value)
told_values = joined (may identified) (joined (may worded) (joined (may of_quality) (joined (may of_flip) plan_values)))

told_says : Says told_values (board_columns false)
told_says =
    may_be identity attrs.BoardId id_read
    (may_be text attrs.BoardIdCreatedBy text_read
    (may_be quality attrs.FailedBoard quality_read
    (may_be flip attrs.FlippedBoard flip_read plan_says)))

-- a whole record tells the four, too
abbrev Whole : Type 0
Whole = Both ℕ (Both (List ℕ) (Both Quality (Both Flip Plan)))

abbrev whole_record : List SubBoard → Whole → Record
whole_record subs whole =
    let info = info_with None None None None [] whole.others.others.others.others in
    record {
      id = whole.first;
      created_by = whole.others.first;
      quality = whole.others.others.first;
      flip = whole.others.others.others.first;
      product = info.product;
      top = info.top;
      bottom = info.bottom;
      length = info.length;
      width = info.width;
      thickness = info.thickness;
      speed = info.speed;
      top_clearance = info.top_clearance;
      bottom_clearance = info.bottom_clearance;
      weight = info.weight;
      order = info.order;
      batch = info.batch;
      subs = subs;
    }

abbrev whole_values : Whole → List (Option Value)
whole_values = joined (must identified) (joined (must worded) (joined (must of_quality) (joined (must of_flip) plan_values)))

whole_says : Says whole_values (board_columns true)
whole_says =
    must_be identity attrs.BoardId id_read
    (must_be text attrs.BoardIdCreatedBy text_read
    (must_be quality attrs.FailedBoard quality_read
    (must_be flip attrs.FlippedBoard flip_read plan_says)))

-- ---- the transfer of a board

abbrev Ended : Type 0
Ended = Both Transfer (Both ℕ (Unit {0}))

abbrev ended_values : Ended → List (Option Value)
ended_values = joined (must of_transfer) (joined (must identified) no_values)

ended_says : Says ended_values transfer_columns
ended_says =
    must_be transfer attrs.TransferState transfer_read (must_be identity attrs.BoardId id_read none_say)

-- ---- the machine

abbrev Described : Type 0
Described = Both (List ℕ) (Both ℕ (Both (Option (List ℕ)) (Both (List ℕ) (Unit {0}))))

abbrev described_service : Forest → Described → Service
described_service children described = record {
  machine = described.first;
  lane = described.others.first;
  version = described.others.others.others.first;
  interface = described.others.others.first;
  features = features_in (trees_of children);
}

abbrev described_values : Described → List (Option Value)
described_values = joined (must worded) (joined (must numbered) (joined (may worded) (joined (must worded) no_values)))

described_says : Says described_values (columns_of kinds.ServiceDescription)
described_says =
    must_be text attrs.MachineId text_read
    (must_be number attrs.LaneId number_read
    (may_be text attrs.InterfaceId text_read
    (must_be text attrs.Version text_read none_say)))

abbrev Noticed : Type 0
Noticed = Both ℕ (Both Severity (Both (List ℕ) (Unit {0})))

abbrev noticed_values : Noticed → List (Option Value)
noticed_values = joined (must numbered) (joined (must of_severity) (joined (must worded) no_values))

noticed_says : Says noticed_values notice_columns
noticed_says =
    must_be number attrs.NotificationCode number_read
    (must_be severity attrs.Severity severity_read (must_be text attrs.Description text_read none_say))

-- ---- each row

-- one of another name fits whatever name it has
pub each_row : (kind : Kind) (at : ℕ) (attributes : List Attribute) (children : Forest) → IsRow kind at attributes children
each_row kinds.CheckAlive at attributes children =
    row_of kinds.CheckAlive at attributes children (joined (may of_ping) (joined (may worded) no_values)) (λ x. bodies.CheckAlive x.first x.others.first)
    (record { of_kind = λ x. refl; values = λ x. refl; inner = λ x. refl; refusals = refl })
    (may_be ping attrs.AliveType ping_read (may_be text attrs.Id text_read none_say))
each_row kinds.ServiceDescription at attributes children =
    row_of kinds.ServiceDescription at attributes children described_values (λ x. bodies.ServiceDescription (described_service children x))
    (record { of_kind = λ x. refl; values = λ x. refl; inner = λ x. refl; refusals = refl }) described_says
each_row kinds.Notification at attributes children =
    row_of kinds.Notification at attributes children noticed_values (λ x. bodies.Notification (record { number = x.first }) x.others.first x.others.others.first)
    (record { of_kind = λ x. refl; values = λ x. refl; inner = λ x. refl; refusals = refl }) noticed_says
each_row kinds.BoardAvailable at attributes children =
    board_row kinds.BoardAvailable at attributes children whole_values (λ subs x. bodies.BoardAvailable (whole_record subs x))
    (record { of_kind = λ subs x. refl; values = λ subs x. refl; inner = λ subs x. refl; listed = refl; refusals = refl }) whole_says
each_row kinds.RevokeBoardAvailable at attributes children =
    row_of kinds.RevokeBoardAvailable at attributes children no_values (λ x. bodies.RevokeBoardAvailable)
    (record { of_kind = λ x. refl; values = λ x. refl; inner = λ x. refl; refusals = refl }) none_say
each_row kinds.MachineReady at attributes children =
    row_of kinds.MachineReady at attributes children (joined (must of_quality) no_values) (λ x. bodies.MachineReady x.first)
    (record { of_kind = λ x. refl; values = λ x. refl; inner = λ x. refl; refusals = refl }) (must_be quality attrs.FailedBoard quality_read none_say)
each_row kinds.RevokeMachineReady at attributes children =
    row_of kinds.RevokeMachineReady at attributes children no_values (λ x. bodies.RevokeMachineReady)
    (record { of_kind = λ x. refl; values = λ x. refl; inner = λ x. refl; refusals = refl }) none_say
each_row kinds.StartTransport at attributes children =
    row_of kinds.StartTransport at attributes children (joined (must identified) no_values) (λ x. bodies.StartTransport x.first)
    (record { of_kind = λ x. refl; values = λ x. refl; inner = λ x. refl; refusals = refl }) (must_be identity attrs.BoardId id_read none_say)
each_row kinds.StopTransport at attributes children =
    row_of kinds.StopTransport at attributes children ended_values (λ x. bodies.StopTransport x.first x.others.first)
    (record { of_kind = λ x. refl; values = λ x. refl; inner = λ x. refl; refusals = refl }) ended_says
each_row kinds.TransportFinished at attributes children =
    row_of kinds.TransportFinished at attributes children ended_values (λ x. bodies.TransportFinished x.first x.others.first)
    (record { of_kind = λ x. refl; values = λ x. refl; inner = λ x. refl; refusals = refl }) ended_says
each_row kinds.BoardForecast at attributes children =
    row_of kinds.BoardForecast at attributes children told_values (λ x. bodies.BoardForecast (told_info [] x))
    (record { of_kind = λ x. refl; values = λ x. refl; inner = λ x. refl; refusals = refl }) told_says
each_row kinds.QueryBoardInfo at attributes children =
    row_of kinds.QueryBoardInfo at attributes children (joined (may worded) (joined (may worded) no_values)) (λ x. bodies.QueryBoardInfo x.first x.others.first)
    (record { of_kind = λ x. refl; values = λ x. refl; inner = λ x. refl; refusals = refl })
    (may_be text attrs.TopBarcode text_read (may_be text attrs.BottomBarcode text_read none_say))
each_row kinds.SendBoardInfo at attributes children =
    board_row kinds.SendBoardInfo at attributes children told_values (λ subs x. bodies.SendBoardInfo (told_info subs x))
    (record { of_kind = λ subs x. refl; values = λ subs x. refl; inner = λ subs x. refl; listed = refl; refusals = refl }) told_says
each_row kinds.Other at attributes children =
    row_of kinds.Other at attributes children no_values (λ x. bodies.Other [])
    (record { of_kind = λ x. refl; values = λ x. refl; inner = λ x. refl; refusals = refl }) none_say

-- The names of the attributes.
use Rattle.std.specs.Prelude.{ℕ, List, [], ◌∷◌, ◌++◌, codes}
use Rattle.hermes_horizontal.specs.declared.attr.Attr.{Attr}
use Rattle.hermes_horizontal.specs.declared.attr.Attr.TheVariants as attrs

abbrev pub attr_text : Attr → List ℕ
attr_text attrs.Timestamp = codes "Timestamp"
attr_text attrs.AliveType = codes "Type"
attr_text attrs.Id = codes "Id"
attr_text attrs.MachineId = codes "MachineId"
attr_text attrs.LaneId = codes "LaneId"
attr_text attrs.InterfaceId = codes "InterfaceId"
attr_text attrs.Version = codes "Version"
attr_text attrs.NotificationCode = codes "NotificationCode"
attr_text attrs.Severity = codes "Severity"
attr_text attrs.Description = codes "Description"
attr_text attrs.BoardId = codes "BoardId"
attr_text attrs.BoardIdCreatedBy = codes "BoardIdCreatedBy"
attr_text attrs.FailedBoard = codes "FailedBoard"
attr_text attrs.FlippedBoard = codes "FlippedBoard"
attr_text attrs.ProductTypeId = codes "ProductTypeId"
attr_text attrs.TopBarcode = codes "TopBarcode"
attr_text attrs.BottomBarcode = codes "BottomBarcode"
attr_text attrs.Length = codes "Length"
attr_text attrs.Width = codes "Width"
attr_text attrs.Thickness = codes "Thickness"
attr_text attrs.ConveyorSpeed = codes "ConveyorSpeed"
attr_text attrs.TopClearanceHeight = codes "TopClearanceHeight"
attr_text attrs.BottomClearanceHeight = codes "BottomClearanceHeight"
attr_text attrs.Weight = codes "Weight"
attr_text attrs.WorkOrderId = codes "WorkOrderId"
attr_text attrs.BatchId = codes "BatchId"
attr_text attrs.TransferState = codes "TransferState"
attr_text attrs.SystemId = codes "SystemId"
attr_text attrs.BoardTransfer = codes "BoardTransfer"
attr_text attrs.QueryId = codes "QueryId"
attr_text attrs.Barcode = codes "Barcode"
attr_text attrs.MagazineId = codes "MagazineId"
attr_text attrs.SlotId = codes "SlotId"
attr_text attrs.SubBoards = codes "SubBoards"
attr_text attrs.Pos = codes "Pos"
attr_text attrs.Bc = codes "Bc"
attr_text attrs.St = codes "St"

-- a space, the name, and `="`
abbrev pub opening_of : Attr → List ℕ
opening_of attr = (32 ∷ attr_text attr) ++ (61 ∷ 34 ∷ [])

use Rattle.std.proofs.Common.{◌≡◌, subst}
use Rattle.hermes_element.specs.Element.{Tree}
use Rattle.hermes_horizontal.specs.declared.kind.Kind.TheVariants as kinds
use Rattle.hermes_horizontal.specs.Rows.{kind_named}
use Rattle.hermes_horizontal.specs.Reading.{ReadsBody}
use Rattle.hermes_horizontal.proofs.Bodies.{row_reads}
use Rattle.hermes_horizontal.proofs.rows.body_of.Goals as goal

pub returns-in-CheckAlive : goal.returns-in-CheckAlive
returns-in-CheckAlive c =
    let inside : Tree = record { name = c.child.inside.name; at = c.child.inside.at; attributes = c.child.inside.attributes; children = c.child.inside.children } in
    let kind : kind_named inside.name ≡ kinds.CheckAlive = cc (c.kind_named.ensures, c.bytes.ensures.bytes, c.in-CheckAlive.is) in
    subst (λ (child : Tree). ReadsBody child c.check_alive.result) c.child.view_is (row_reads inside kinds.CheckAlive c.check_alive.result (λ e. cc) kind (c.check_alive.ensures inside.at inside.children))

pub returns-in-ServiceDescription : goal.returns-in-ServiceDescription
returns-in-ServiceDescription c =
    let inside : Tree = record { name = c.child.inside.name; at = c.child.inside.at; attributes = c.child.inside.attributes; children = c.child.inside.children } in
    let kind : kind_named inside.name ≡ kinds.ServiceDescription = cc (c.kind_named.ensures, c.bytes.ensures.bytes, c.in-ServiceDescription.is) in
    subst (λ (child : Tree). ReadsBody child c.service_description.result) c.child.view_is (row_reads inside kinds.ServiceDescription c.service_description.result (λ e. cc) kind (c.service_description.ensures))

pub returns-in-Notification : goal.returns-in-Notification
returns-in-Notification c =
    let inside : Tree = record { name = c.child.inside.name; at = c.child.inside.at; attributes = c.child.inside.attributes; children = c.child.inside.children } in
    let kind : kind_named inside.name ≡ kinds.Notification = cc (c.kind_named.ensures, c.bytes.ensures.bytes, c.in-Notification.is) in
    subst (λ (child : Tree). ReadsBody child c.notification.result) c.child.view_is (row_reads inside kinds.Notification c.notification.result (λ e. cc) kind (c.notification.ensures inside.children))

pub returns-in-BoardAvailable : goal.returns-in-BoardAvailable
returns-in-BoardAvailable c =
    let inside : Tree = record { name = c.child.inside.name; at = c.child.inside.at; attributes = c.child.inside.attributes; children = c.child.inside.children } in
    let kind : kind_named inside.name ≡ kinds.BoardAvailable = cc (c.kind_named.ensures, c.bytes.ensures.bytes, c.in-BoardAvailable.is) in
    subst (λ (child : Tree). ReadsBody child c.board_available.result) c.child.view_is (row_reads inside kinds.BoardAvailable c.board_available.result (λ e. cc) kind c.board_available.ensures)

pub returns-in-MachineReady : goal.returns-in-MachineReady
returns-in-MachineReady c =
    let inside : Tree = record { name = c.child.inside.name; at = c.child.inside.at; attributes = c.child.inside.attributes; children = c.child.inside.children } in
    let kind : kind_named inside.name ≡ kinds.MachineReady = cc (c.kind_named.ensures, c.bytes.ensures.bytes, c.in-MachineReady.is) in
    subst (λ (child : Tree). ReadsBody child c.machine_ready.result) c.child.view_is (row_reads inside kinds.MachineReady c.machine_ready.result (λ e. cc) kind (c.machine_ready.ensures inside.children))

pub returns-in-StartTransport : goal.returns-in-StartTransport
returns-in-StartTransport c =
    let inside : Tree = record { name = c.child.inside.name; at = c.child.inside.at; attributes = c.child.inside.attributes; children = c.child.inside.children } in
    let kind : kind_named inside.name ≡ kinds.StartTransport = cc (c.kind_named.ensures, c.bytes.ensures.bytes, c.in-StartTransport.is) in
    subst (λ (child : Tree). ReadsBody child c.start_transport.result) c.child.view_is (row_reads inside kinds.StartTransport c.start_transport.result (λ e. cc) kind (c.start_transport.ensures inside.children))

pub returns-in-StopTransport : goal.returns-in-StopTransport
returns-in-StopTransport c =
    let inside : Tree = record { name = c.child.inside.name; at = c.child.inside.at; attributes = c.child.inside.attributes; children = c.child.inside.children } in
    let kind : kind_named inside.name ≡ kinds.StopTransport = cc (c.kind_named.ensures, c.bytes.ensures.bytes, c.in-StopTransport.is) in
    subst (λ (child : Tree). ReadsBody child c.stop_transport.result) c.child.view_is (row_reads inside kinds.StopTransport c.stop_transport.result (λ e. cc) kind (c.stop_transport.ensures inside.children))

pub returns-in-TransportFinished : goal.returns-in-TransportFinished
returns-in-TransportFinished c =
    let inside : Tree = record { name = c.child.inside.name; at = c.child.inside.at; attributes = c.child.inside.attributes; children = c.child.inside.children } in
    let kind : kind_named inside.name ≡ kinds.TransportFinished = cc (c.kind_named.ensures, c.bytes.ensures.bytes, c.in-TransportFinished.is) in
    subst (λ (child : Tree). ReadsBody child c.transport_finished.result) c.child.view_is (row_reads inside kinds.TransportFinished c.transport_finished.result (λ e. cc) kind (c.transport_finished.ensures inside.children))

pub returns-in-BoardForecast : goal.returns-in-BoardForecast
returns-in-BoardForecast c =
    let inside : Tree = record { name = c.child.inside.name; at = c.child.inside.at; attributes = c.child.inside.attributes; children = c.child.inside.children } in
    let kind : kind_named inside.name ≡ kinds.BoardForecast = cc (c.kind_named.ensures, c.bytes.ensures.bytes, c.in-BoardForecast.is) in
    subst (λ (child : Tree). ReadsBody child c.board_forecast.result) c.child.view_is (row_reads inside kinds.BoardForecast c.board_forecast.result (λ e. cc) kind (c.board_forecast.ensures inside.children))

pub returns-in-SendBoardInfo : goal.returns-in-SendBoardInfo
returns-in-SendBoardInfo c =
    let inside : Tree = record { name = c.child.inside.name; at = c.child.inside.at; attributes = c.child.inside.attributes; children = c.child.inside.children } in
    let kind : kind_named inside.name ≡ kinds.SendBoardInfo = cc (c.kind_named.ensures, c.bytes.ensures.bytes, c.in-SendBoardInfo.is) in
    subst (λ (child : Tree). ReadsBody child c.send_board_info.result) c.child.view_is (row_reads inside kinds.SendBoardInfo c.send_board_info.result (λ e. cc) kind c.send_board_info.ensures)

pub returns-in-QueryBoardInfo : goal.returns-in-QueryBoardInfo
returns-in-QueryBoardInfo c =
    let inside : Tree = record { name = c.child.inside.name; at = c.child.inside.at; attributes = c.child.inside.attributes; children = c.child.inside.children } in
    let kind : kind_named inside.name ≡ kinds.QueryBoardInfo = cc (c.kind_named.ensures, c.bytes.ensures.bytes, c.in-QueryBoardInfo.is) in
    subst (λ (child : Tree). ReadsBody child c.query_board_info.result) c.child.view_is (row_reads inside kinds.QueryBoardInfo c.query_board_info.result (λ e. cc) kind (c.query_board_info.ensures inside.at inside.children))

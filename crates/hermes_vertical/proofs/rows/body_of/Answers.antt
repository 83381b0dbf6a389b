use Rattle.std.proofs.Common.{◌≡◌, subst}
use Rattle.hermes_element.specs.Element.{Tree}
use Rattle.hermes_vertical.specs.declared.kind.VerticalKind.TheVariants as kinds
use Rattle.hermes_vertical.specs.Rows.{kind_named}
use Rattle.hermes_vertical.specs.Spelling.{ReadsBody}
use Rattle.hermes_vertical.proofs.Bodies.{row_reads}
use Rattle.hermes_vertical.proofs.rows.body_of.Goals as goal

pub returns-in-SupervisoryServiceDescription : goal.returns-in-SupervisoryServiceDescription
returns-in-SupervisoryServiceDescription c =
    let inside : Tree = record { name = c.child.inside.name; at = c.child.inside.at; attributes = c.child.inside.attributes; children = c.child.inside.children } in
    let kind : kind_named inside.name ≡ kinds.SupervisoryServiceDescription = cc (c.kind_named.ensures, c.bytes.ensures.bytes, c.in-SupervisoryServiceDescription.is) in
    subst (λ (child : Tree). ReadsBody child c.description.result) c.child.view_is (row_reads inside kinds.SupervisoryServiceDescription c.description.result (λ e. cc) kind (c.description.ensures))

pub returns-in-BoardArrived : goal.returns-in-BoardArrived
returns-in-BoardArrived c =
    let inside : Tree = record { name = c.child.inside.name; at = c.child.inside.at; attributes = c.child.inside.attributes; children = c.child.inside.children } in
    let kind : kind_named inside.name ≡ kinds.BoardArrived = cc (c.kind_named.ensures, c.bytes.ensures.bytes, c.in-BoardArrived.is) in
    subst (λ (child : Tree). ReadsBody child c.board_arrived.result) c.child.view_is (row_reads inside kinds.BoardArrived c.board_arrived.result (λ e. cc) kind (c.board_arrived.ensures inside.children))

pub returns-in-BoardDeparted : goal.returns-in-BoardDeparted
returns-in-BoardDeparted c =
    let inside : Tree = record { name = c.child.inside.name; at = c.child.inside.at; attributes = c.child.inside.attributes; children = c.child.inside.children } in
    let kind : kind_named inside.name ≡ kinds.BoardDeparted = cc (c.kind_named.ensures, c.bytes.ensures.bytes, c.in-BoardDeparted.is) in
    subst (λ (child : Tree). ReadsBody child c.board_departed.result) c.child.view_is (row_reads inside kinds.BoardDeparted c.board_departed.result (λ e. cc) kind (c.board_departed.ensures inside.children))

pub returns-in-QueryWorkOrderInfo : goal.returns-in-QueryWorkOrderInfo
returns-in-QueryWorkOrderInfo c =
    let inside : Tree = record { name = c.child.inside.name; at = c.child.inside.at; attributes = c.child.inside.attributes; children = c.child.inside.children } in
    let kind : kind_named inside.name ≡ kinds.QueryWorkOrderInfo = cc (c.kind_named.ensures, c.bytes.ensures.bytes, c.in-QueryWorkOrderInfo.is) in
    subst (λ (child : Tree). ReadsBody child c.query_work_order_info.result) c.child.view_is (row_reads inside kinds.QueryWorkOrderInfo c.query_work_order_info.result (λ e. cc) kind (c.query_work_order_info.ensures inside.children))

pub returns-in-SendWorkOrderInfo : goal.returns-in-SendWorkOrderInfo
returns-in-SendWorkOrderInfo c =
    let inside : Tree = record { name = c.child.inside.name; at = c.child.inside.at; attributes = c.child.inside.attributes; children = c.child.inside.children } in
    let kind : kind_named inside.name ≡ kinds.SendWorkOrderInfo = cc (c.kind_named.ensures, c.bytes.ensures.bytes, c.in-SendWorkOrderInfo.is) in
    subst (λ (child : Tree). ReadsBody child c.send_work_order_info.result) c.child.view_is (row_reads inside kinds.SendWorkOrderInfo c.send_work_order_info.result (λ e. cc) kind (c.send_work_order_info.ensures inside.children))

pub returns-in-CheckAlive : goal.returns-in-CheckAlive
returns-in-CheckAlive c =
    let inside : Tree = record { name = c.child.inside.name; at = c.child.inside.at; attributes = c.child.inside.attributes; children = c.child.inside.children } in
    let kind : kind_named inside.name ≡ kinds.CheckAlive = cc (c.kind_named.ensures, c.bytes.ensures.bytes, c.in-CheckAlive.is) in
    subst (λ (child : Tree). ReadsBody child c.check_alive.result) c.child.view_is (row_reads inside kinds.CheckAlive c.check_alive.result (λ e. cc) kind (c.check_alive.ensures inside.at inside.children))

pub returns-in-Notification : goal.returns-in-Notification
returns-in-Notification c =
    let inside : Tree = record { name = c.child.inside.name; at = c.child.inside.at; attributes = c.child.inside.attributes; children = c.child.inside.children } in
    let kind : kind_named inside.name ≡ kinds.Notification = cc (c.kind_named.ensures, c.bytes.ensures.bytes, c.in-Notification.is) in
    subst (λ (child : Tree). ReadsBody child c.notification.result) c.child.view_is (row_reads inside kinds.Notification c.notification.result (λ e. cc) kind (c.notification.ensures inside.children))

use Rattle.std.proofs.Common.{ap, sym, ◌∙◌}
use Rattle.hermes_horizontal.specs.declared.message.Horizontal.TheVariants as bodies
use Rattle.hermes_horizontal.proofs.message.Horizontal.copy.Goals as goal

pub returns-in_ok-id-in-CheckAlive : goal.returns-in_ok-id-in-CheckAlive
returns-in_ok-id-in-CheckAlive c =
    ap (λ x. bodies.CheckAlive c.in-CheckAlive.ping x) c.in_ok-id-in-CheckAlive.ensures ∙ sym
    c.in-CheckAlive.is

pub returns-in_ok-service-in-ServiceDescription : goal.returns-in_ok-service-in-ServiceDescription
returns-in_ok-service-in-ServiceDescription c =
    ap (λ x. bodies.ServiceDescription x) c.in_ok-service-in-ServiceDescription.ensures ∙ sym
    c.in-ServiceDescription.is

pub returns-in_ok-text-in-Notification : goal.returns-in_ok-text-in-Notification
returns-in_ok-text-in-Notification c =
    ap (λ x. bodies.Notification c.in-Notification.code c.in-Notification.severity x)
    c.in_ok-text-in-Notification.ensures ∙ sym c.in-Notification.is

pub returns-in_ok-board-in-BoardAvailable : goal.returns-in_ok-board-in-BoardAvailable
returns-in_ok-board-in-BoardAvailable c =
    ap (λ x. bodies.BoardAvailable x) c.in_ok-board-in-BoardAvailable.ensures ∙ sym
    c.in-BoardAvailable.is

pub returns-in_ok-info-in-BoardForecast : goal.returns-in_ok-info-in-BoardForecast
returns-in_ok-info-in-BoardForecast c =
    ap (λ x. bodies.BoardForecast x) c.in_ok-info-in-BoardForecast.ensures ∙ sym
    c.in-BoardForecast.is

pub returns-in_ok-info-in-SendBoardInfo : goal.returns-in_ok-info-in-SendBoardInfo
returns-in_ok-info-in-SendBoardInfo c =
    ap (λ x. bodies.SendBoardInfo x) c.in_ok-info-in-SendBoardInfo.ensures ∙ sym
    c.in-SendBoardInfo.is

pub returns-in_ok-name-in-Other : goal.returns-in_ok-name-in-Other
returns-in_ok-name-in-Other c =
    ap (λ x. bodies.Other x) c.in_ok-name-in-Other.ensures ∙ sym c.in-Other.is

pub returns-in-RevokeBoardAvailable : goal.returns-in-RevokeBoardAvailable
returns-in-RevokeBoardAvailable c = sym c.in-RevokeBoardAvailable.is

pub returns-in-MachineReady : goal.returns-in-MachineReady
returns-in-MachineReady c = sym c.in-MachineReady.is

pub returns-in-RevokeMachineReady : goal.returns-in-RevokeMachineReady
returns-in-RevokeMachineReady c = sym c.in-RevokeMachineReady.is

pub returns-in-StartTransport : goal.returns-in-StartTransport
returns-in-StartTransport c = sym c.in-StartTransport.is

pub returns-in-StopTransport : goal.returns-in-StopTransport
returns-in-StopTransport c = sym c.in-StopTransport.is

pub returns-in-TransportFinished : goal.returns-in-TransportFinished
returns-in-TransportFinished c = sym c.in-TransportFinished.is

pub returns-in_ok-bottom-in-QueryBoardInfo : goal.returns-in_ok-bottom-in-QueryBoardInfo
returns-in_ok-bottom-in-QueryBoardInfo c =
    ap (λ x. bodies.QueryBoardInfo x c.in_ok-bottom-in-QueryBoardInfo.bottom)
    c.in_ok-top-in-QueryBoardInfo.ensures ∙ ap (λ x.
    bodies.QueryBoardInfo c.in-QueryBoardInfo.top x) c.in_ok-bottom-in-QueryBoardInfo.ensures ∙ sym
    c.in-QueryBoardInfo.is

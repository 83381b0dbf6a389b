-- What is told of a breach names the message.
use Rattle.std.proofs.Common.{◌≡◌, ◌++◌, codes, refl}
use Rattle.hermes_horizontal.specs.declared.kind.Kind.{Kind}
use Rattle.hermes_horizontal.specs.declared.kind.Kind.TheVariants.{CheckAlive, ServiceDescription, Notification, BoardAvailable, RevokeBoardAvailable, MachineReady, RevokeMachineReady, StartTransport, StopTransport, TransportFinished, BoardForecast, QueryBoardInfo, SendBoardInfo, Other}
use Rattle.hermes_horizontal.specs.Rows.{kind_text}
use Rattle.session_core.specs.Breach.{unexpected}

pub unexpected_names : (kind : Kind) → unexpected kind ≡ codes "unexpected " ++ kind_text kind
unexpected_names CheckAlive = refl
unexpected_names ServiceDescription = refl
unexpected_names Notification = refl
unexpected_names BoardAvailable = refl
unexpected_names RevokeBoardAvailable = refl
unexpected_names MachineReady = refl
unexpected_names RevokeMachineReady = refl
unexpected_names StartTransport = refl
unexpected_names StopTransport = refl
unexpected_names TransportFinished = refl
unexpected_names BoardForecast = refl
unexpected_names QueryBoardInfo = refl
unexpected_names SendBoardInfo = refl
unexpected_names Other = refl

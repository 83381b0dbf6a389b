use Rattle.std.specs.Prelude.{ℕ, List, codes}
use Rattle.hermes_horizontal.specs.declared.kind.Kind.{Kind}
use Rattle.hermes_horizontal.specs.declared.kind.Kind.TheVariants as kinds
use Rattle.session_core.specs.declared.breach.Breach.{Breach}

-- what is told of a message that has no row: written out, so that each text is one to compute with
abbrev pub unexpected : Kind → List ℕ
unexpected kinds.CheckAlive = codes "unexpected CheckAlive"
unexpected kinds.ServiceDescription = codes "unexpected ServiceDescription"
unexpected kinds.Notification = codes "unexpected Notification"
unexpected kinds.BoardAvailable = codes "unexpected BoardAvailable"
unexpected kinds.RevokeBoardAvailable = codes "unexpected RevokeBoardAvailable"
unexpected kinds.MachineReady = codes "unexpected MachineReady"
unexpected kinds.RevokeMachineReady = codes "unexpected RevokeMachineReady"
unexpected kinds.StartTransport = codes "unexpected StartTransport"
unexpected kinds.StopTransport = codes "unexpected StopTransport"
unexpected kinds.TransportFinished = codes "unexpected TransportFinished"
unexpected kinds.BoardForecast = codes "unexpected BoardForecast"
unexpected kinds.QueryBoardInfo = codes "unexpected QueryBoardInfo"
unexpected kinds.SendBoardInfo = codes "unexpected SendBoardInfo"
unexpected kinds.Other = codes "unexpected Other"

-- what is told of a breach
abbrev pub breach_text : Breach → List ℕ
breach_text breach = unexpected breach.kind

use Rattle.line_base.specs.declared.states.Role.{Role}
use Rattle.line_base.specs.declared.states.Role.TheVariants.{Upstream, Downstream}
use Rattle.hermes_horizontal.specs.declared.kind.Kind.{Kind}
use Rattle.hermes_horizontal.specs.declared.kind.Kind.TheVariants as kinds
use Rattle.session_core.specs.declared.handling.Handling.{Handling}
use Rattle.session_core.specs.declared.handling.Handling.TheVariants.{Pass, Refuse}

-- what a standing session does with the messages of handovers, forecasts and board information:
-- each part takes those that the other part sends
abbrev pub handling_of : Kind → Role → Handling
handling_of kinds.MachineReady Upstream = Pass
handling_of kinds.RevokeMachineReady Upstream = Pass
handling_of kinds.StartTransport Upstream = Pass
handling_of kinds.StopTransport Upstream = Pass
handling_of kinds.QueryBoardInfo Upstream = Pass
handling_of kinds.BoardAvailable Downstream = Pass
handling_of kinds.RevokeBoardAvailable Downstream = Pass
handling_of kinds.TransportFinished Downstream = Pass
handling_of kinds.BoardForecast Downstream = Pass
handling_of kinds.SendBoardInfo Downstream = Pass
handling_of _ _ = Refuse

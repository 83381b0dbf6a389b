use Rattle.line_base.specs.declared.states.Transfer.{Transfer}
use Rattle.line_base.specs.declared.states.Transfer.TheVariants.{NotStarted, Incomplete, Complete}
use Rattle.transfer_state.specs.declared.outlet.OutEnd.{OutEnd}
use Rattle.transfer_state.specs.declared.outlet.OutEnd.TheVariants.{Return, Wait, Finish}

-- how a handover ends upstream, by what the sensors saw and what was heard
abbrev pub out_ends : Transfer → Transfer → OutEnd
out_ends NotStarted _ = Return
out_ends Incomplete _ = Wait
out_ends Complete _ = Finish

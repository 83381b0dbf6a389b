use Rattle.line_base.specs.declared.states.Seen.{Seen}
use Rattle.line_base.specs.declared.states.Seen.TheVariants.{NotStarted, Incomplete, Complete, Taken}
use Rattle.line_base.specs.declared.states.Transfer.{Transfer}
use Rattle.line_base.specs.declared.states.Transfer.TheVariants as said
use Rattle.transfer_state.specs.declared.intake.InEnd.{InEnd}
use Rattle.transfer_state.specs.declared.intake.InEnd.TheVariants.{Keep, Drop, Wait}

-- how a handover ends downstream, by what the sensors saw and what was heard
abbrev pub in_ends : Seen → Transfer → InEnd
in_ends NotStarted said.NotStarted = Drop
in_ends NotStarted said.Incomplete = Drop
in_ends NotStarted said.Complete = Wait
in_ends Incomplete _ = Wait
in_ends Complete said.NotStarted = Wait
in_ends Complete said.Incomplete = Keep
in_ends Complete said.Complete = Keep
in_ends Taken _ = Drop

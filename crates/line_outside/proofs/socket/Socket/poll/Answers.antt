use Rattle.std.proofs.Common.{length}
use Rattle.line_outside.proofs.socket.Socket.poll.Goals as goal

pub returns-then-self : goal.returns-then-self
returns-then-self c = c.poll_asked.ensures _

pub returns-in-None : goal.returns-in-None
returns-in-None c = c.accept_first.ensures _

pub returns-in-WouldBlock : goal.returns-in-WouldBlock
returns-in-WouldBlock c = c.accept_second.ensures _

pub returns-in_default : goal.returns-in_default
returns-in_default c = c.got_of.ensures _

use Rattle.line_outside.proofs.socket.send_to.Goals as goal

pub returns-in-Err : goal.returns-in-Err
returns-in-Err c = c.sent_of.ensures _

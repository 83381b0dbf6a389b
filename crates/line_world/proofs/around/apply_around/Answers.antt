use Rattle.line_world.proofs.around.apply_around.Goals as goal

pub returns-in-Left : goal.returns-in-Left
returns-in-Left c = rw c.in-Left.is (c.leave.ensures c.args.down.now)

pub returns-in-Enter : goal.returns-in-Enter
returns-in-Enter c = rw c.in-Enter.is (c.enter.ensures c.args.up.now)

pub returns-in-HandIn : goal.returns-in-HandIn
returns-in-HandIn c = rw c.in-HandIn.is (c.hand_in.ensures c.args.up.now)

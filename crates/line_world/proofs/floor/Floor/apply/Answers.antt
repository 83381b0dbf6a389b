use Rattle.line_world.proofs.Keeping.{counted_moved, counted_taken, keeps_boards, machines_kept, reaches_both_sides}
use Rattle.line_world.proofs.Telling.{tells_both_sides}
use Rattle.line_world.proofs.Placing.{keeps_places}
use Rattle.line_world.proofs.floor.Floor.apply.Goals as goal

pub overflow_sub-self : goal.overflow_sub-self
overflow_sub-self c = (counted_taken c.args.gap c.args.step (record { machines = c.self.inside.machines.items; gaps = c.self.inside.gaps.items }) (record { machines = c.apply_at.new.machines.items; gaps = c.apply_at.new.gaps.items }) c.self.inside.boards c.self.invariant c.in-Take.is c.in_ok-apply_at.ensures).0

pub invariant_of-self-in-Take : goal.invariant_of-self-in-Take
invariant_of-self-in-Take c = (counted_taken c.args.gap c.args.step (record { machines = c.self.inside.machines.items; gaps = c.self.inside.gaps.items }) (record { machines = c.apply_at.new.machines.items; gaps = c.apply_at.new.gaps.items }) c.self.inside.boards c.self.invariant c.in-Take.is c.in_ok-apply_at.ensures).1

pub invariant_of-self-in_default : goal.invariant_of-self-in_default
invariant_of-self-in_default c = counted_moved c.args.gap c.args.step (record { machines = c.self.inside.machines.items; gaps = c.self.inside.gaps.items }) (record { machines = c.apply_at.new.machines.items; gaps = c.apply_at.new.gaps.items }) c.self.inside.boards c.self.invariant c.in_default.not-Take c.in_ok-apply_at.ensures

pub returns-in-Take-clause-boards : goal.returns-in-Take-clause-boards
returns-in-Take-clause-boards c = rw (← c.self.view_is) (keeps_boards c.args.gap c.args.step (record { machines = c.self.inside.machines.items; gaps = c.self.inside.gaps.items }) (record { machines = c.apply_at.new.machines.items; gaps = c.apply_at.new.gaps.items }) c.self.invariant.whole c.in_ok-apply_at.ensures)

pub returns-in-Take-clause-places : goal.returns-in-Take-clause-places
returns-in-Take-clause-places c =
    let boards = keeps_boards c.args.gap c.args.step (record { machines = c.self.inside.machines.items; gaps = c.self.inside.gaps.items }) (record { machines = c.apply_at.new.machines.items; gaps = c.apply_at.new.gaps.items }) c.self.invariant.whole c.in_ok-apply_at.ensures in
    rw (← c.self.view_is) (keeps_places c.args.step _ (record { machines = c.self.inside.machines.items; gaps = c.self.inside.gaps.items }) (record { machines = c.apply_at.new.machines.items; gaps = c.apply_at.new.gaps.items }) boards)

pub returns-in-Take-clause-told : goal.returns-in-Take-clause-told
returns-in-Take-clause-told c = rw (← c.self.view_is) (tells_both_sides c.args.gap c.args.step (record { machines = c.self.inside.machines.items; gaps = c.self.inside.gaps.items }) (record { machines = c.apply_at.new.machines.items; gaps = c.apply_at.new.gaps.items }) (reaches_both_sides c.args.gap c.args.step (record { machines = c.self.inside.machines.items; gaps = c.self.inside.gaps.items }) (record { machines = c.apply_at.new.machines.items; gaps = c.apply_at.new.gaps.items }) c.in_ok-apply_at.ensures))

pub returns-in-Take-clause-machines : goal.returns-in-Take-clause-machines
returns-in-Take-clause-machines c = rw (← c.self.view_is) (machines_kept c.args.gap c.args.step (record { machines = c.self.inside.machines.items; gaps = c.self.inside.gaps.items }) (record { machines = c.apply_at.new.machines.items; gaps = c.apply_at.new.gaps.items }) c.in_ok-apply_at.ensures)

pub returns-in_default : goal.returns-in_default
returns-in_default c =
    let moved = c.in_ok-apply_at.ensures in
    let boards = keeps_boards c.args.gap c.args.step (record { machines = c.self.inside.machines.items; gaps = c.self.inside.gaps.items }) (record { machines = c.apply_at.new.machines.items; gaps = c.apply_at.new.gaps.items }) c.self.invariant.whole moved in
    rw (← c.self.view_is) (record {
      answer = moved;
      boards = boards;
      places = keeps_places c.args.step _ (record { machines = c.self.inside.machines.items; gaps = c.self.inside.gaps.items }) (record { machines = c.apply_at.new.machines.items; gaps = c.apply_at.new.gaps.items }) boards;
      events = reaches_both_sides c.args.gap c.args.step (record { machines = c.self.inside.machines.items; gaps = c.self.inside.gaps.items }) (record { machines = c.apply_at.new.machines.items; gaps = c.apply_at.new.gaps.items }) moved;
      told = tells_both_sides c.args.gap c.args.step (record { machines = c.self.inside.machines.items; gaps = c.self.inside.gaps.items }) (record { machines = c.apply_at.new.machines.items; gaps = c.apply_at.new.gaps.items }) (reaches_both_sides c.args.gap c.args.step (record { machines = c.self.inside.machines.items; gaps = c.self.inside.gaps.items }) (record { machines = c.apply_at.new.machines.items; gaps = c.apply_at.new.gaps.items }) moved);
      machines = machines_kept c.args.gap c.args.step (record { machines = c.self.inside.machines.items; gaps = c.self.inside.gaps.items }) (record { machines = c.apply_at.new.machines.items; gaps = c.apply_at.new.gaps.items }) moved;
      refused = tt;
    })

use Rattle.std.proofs.Common.{◌<◌, ℕ, subst}
use Rattle.standings.specs.declared.mark.Mark.TheVariants.{Kept}
use Rattle.line_marks.proofs.Marking.{found_behind}
use Rattle.line_marks.proofs.all_marks.place_behind.Goals as goal

pub returns-then-machine-machine_of : goal.returns-then-machine-machine_of
returns-then-machine-machine_of c =
    found_behind c.args.machine c.loop-place.place c.args.all.now (record { lane = 0; mark = Kept 0 }) c.loop-place-test.true (subst (λ (n : ℕ). c.args.machine < n) c.machine_of.ensures c.if-machine-machine_of.true) c.requires c.loop-place.invariant

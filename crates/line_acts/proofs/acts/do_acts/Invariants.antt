use Rattle.std.proofs.Common.{◌≡◌, length}
use Rattle.std.specs.Vec.Iter.{into_iter_items, into_iter_len}
use Rattle.line_acts.proofs.DoneActs.{IsDoing}
use Rattle.line_acts.proofs.acts.do_acts.Given as goal

abbrev pub invariant-loop-act : goal.invariant-loop-act
invariant-loop-act l = IsDoing l.teller.second l.teller.machine l.fn.acts (into_iter_items l.act-iterator) l.initial.world l.world l.initial.told l.told
    × (into_iter_len l.act-iterator ≡ length (into_iter_items l.act-iterator))

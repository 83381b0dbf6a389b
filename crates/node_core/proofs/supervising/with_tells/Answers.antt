use Rattle.std.proofs.Common.{◌∙◌, List, sym, ap}
use Rattle.node_core.specs.declared.act.Act.{Act}
use Rattle.node_core.specs.Supervising.{is_unwatched}
use Rattle.node_core.proofs.Telling.{left_next, quiet_tells, tells_next, watch_next}
use Rattle.node_core.proofs.supervising.with_tells.Goals as goal

pub returns-then-is_unwatched : goal.returns-then-is_unwatched
returns-then-is_unwatched c =
    let same = ap (λ (acts : List Act). is_unwatched c.args.desk.now.supervised acts) c.list.ensures in
    sym (quiet_tells c.args.desk.now c.args.watch c.args.acts c.requires (sym same ∙ c.is_unwatched.ensures c.if-is_unwatched.true))

pub loop-act-preserved : goal.loop-act-preserved
loop-act-preserved c =
    let was = c.loop-act.invariant in (
      tells_next c.args.desk.now c.args.watch c.loop-act.watch c.loop-act.yielded c.in-Some.act c.loop-act.told
          c.push_told.new.to was.0 was.1.0 c.in_ok-push_told.ensures,
      (
        watch_next c.args.watch c.loop-act.watch c.note.new.self c.loop-act.yielded c.in-Some.act was.1.0 c.note.ensures,
        left_next c.loop-act.yielded c.loop-act.act-iterator.rest.items c.next.new.self.rest.items c.args.acts c.in-Some.act
            was.1.1 c.in-Some.ensures.steps.0,
      ),
    )

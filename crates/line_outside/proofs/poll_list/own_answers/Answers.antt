use Rattle.std.proofs.Common.{refl, sym, append-nil}
use Rattle.line_outside.proofs.Passing.{answers_of-take}
use Rattle.line_outside.proofs.poll_list.own_answers.Goals as goal
use Rattle.line_outside.proofs.poll_list.own_answers.Goals.{then-is_same_way+in_ok-copy+in_ok-push_back, else-is_same_way}

pub loop-answer-preserved : goal.loop-answer-preserved
loop-answer-preserved c =
    let more = answers_of-take c.args.way c.args.answers.now c.loop-answer.answer-index c.answer-item.result c.loop-answer-test.true c.answer-item.is in
    elim c.if-is_same_way.branch [
      | then-is_same_way+in_ok-copy+in_ok-push_back w ↦ rw (w.own-is, w.in_ok-push_back.ensures.items, w.in_ok-copy.ensures, c.loop-answer.invariant, more, ← c.is_same_way.ensures, w.if-is_same_way.true) refl
      | else-is_same_way w ↦ rw (w.own-is, c.loop-answer.invariant, more, ← c.is_same_way.ensures, w.if-is_same_way.false) (sym (append-nil _))
    ]

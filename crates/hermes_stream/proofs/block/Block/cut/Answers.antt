use Rattle.std.proofs.Common.{◌≡◌, Some, None, cond, nat_lt, length, sym, ap, ◌∙◌}
use Rattle.hermes_stream.specs.Frames.{NeedMore, TooLong, most_bytes, without_blanks, first_end}
use Rattle.hermes_stream.specs.Block.{step_of}
use Rattle.hermes_stream.proofs.Cuts.{answer_with_end, held_with_end, answer_without_end, held_without_end}
use Rattle.hermes_stream.proofs.block.Block.cut.Goals as goal

pub returns-in-Some-clause-step : goal.returns-in-Some-clause-step
returns-in-Some-clause-step c =
    let message = c.drop_blanks.new.self.waiting in
    let is : message ≡ without_blanks c.args.self.now.waiting = ap (λ h. h.waiting) c.drop_blanks.ensures.held in
    sym (ap step_of (answer_with_end c.args.self.now.waiting message c.drop_blanks.ensures.bounded is c.in-Some.count (sym c.in-Some.ensures.answer)))

pub returns-in-Some-clause-held : goal.returns-in-Some-clause-held
returns-in-Some-clause-held c =
    let message = c.drop_blanks.new.self.waiting in
    let is : message ≡ without_blanks c.args.self.now.waiting = ap (λ h. h.waiting) c.drop_blanks.ensures.held in
    c.move_out.ensures ∙ held_with_end c.args.self.now.waiting message c.drop_blanks.ensures.bounded is c.in-Some.count (sym c.in-Some.ensures.answer)

pub returns-clause-step : goal.returns-clause-step
returns-clause-step c =
    let message = c.drop_blanks.new.self.waiting in
    let is : message ≡ without_blanks c.args.self.now.waiting = ap (λ h. h.waiting) c.drop_blanks.ensures.held in
    let count = c.waiting.ensures.count ∙ ap (λ h. length h.waiting) c.pass_all.ensures in
    c.step_without_end.ensures
    ∙ ap (λ n. step_of (cond (nat_lt n most_bytes) NeedMore TooLong)) count
    ∙ sym (ap step_of (answer_without_end c.args.self.now.waiting message c.drop_blanks.ensures.bounded is (sym c.in_default.ensures.answer)))

pub returns-clause-held : goal.returns-clause-held
returns-clause-held c =
    let message = c.drop_blanks.new.self.waiting in
    let is : message ≡ without_blanks c.args.self.now.waiting = ap (λ h. h.waiting) c.drop_blanks.ensures.held in
    c.pass_all.ensures ∙ held_without_end c.args.self.now.waiting message c.drop_blanks.ensures.bounded is (sym c.in_default.ensures.answer)

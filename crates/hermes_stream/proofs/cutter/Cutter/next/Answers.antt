use Rattle.std.proofs.Common.{◌≡◌, ◌≤◌, length, refl, sym, ap, subst, ◌∙◌}
use Rattle.hermes_stream.specs.Frames.{Answer, Frame, NeedMore, TooLong, most_bytes, answer_of, left_of}
use Rattle.hermes_stream.specs.Block.{message_in, step_of}
use Rattle.hermes_stream.specs.declared.block.Step.TheVariants as step
use Rattle.hermes_stream.proofs.Runs.{tells, cuts_exactly}
use Rattle.hermes_stream.proofs.cutter.Cutter.next.Goals as goal

framed : (answer : Answer) → step.Frame ≡ step_of answer → answer ≡ Frame (message_in answer)
framed (Frame message) e = refl
framed NeedMore e = cc
framed TooLong e = cc

wanting : (answer : Answer) → step.NeedMore ≡ step_of answer → answer ≡ NeedMore
wanting (Frame message) e = cc
wanting NeedMore e = refl
wanting TooLong e = cc

overlong : (answer : Answer) → step.TooLong ≡ step_of answer → answer ≡ TooLong
overlong (Frame message) e = cc
overlong NeedMore e = cc
overlong TooLong e = refl

pub returns-in-Frame : goal.returns-in-Frame
returns-in-Frame c =
    let waiting = c.args.self.now in
    let is : c.self.inside.block.waiting ≡ waiting = c.self.view_is in
    let bounded : length waiting ≤ most_bytes = subst (λ w. length w ≤ most_bytes) is c.cut.ensures.bounded in
    let left : c.cut.new.self.waiting ≡ left_of waiting = ap (λ h. h.waiting) c.cut.ensures.held ∙ ap left_of is in
    let shown : c.frame.result.now ≡ message_in (answer_of waiting) = c.frame.ensures ∙ ap (λ h. h.frame) c.cut.ensures.held ∙ ap (λ w. message_in (answer_of w)) is in
    let answer : answer_of waiting ≡ Frame c.frame.result.now = framed (answer_of waiting) (sym c.in-Frame.is ∙ c.cut.ensures.step ∙ ap (λ w. step_of (answer_of w)) is) ∙ ap (λ m. Frame m) (sym shown) in
    ((refl, λ _. tt, left), record { rests = tt; bounded = bounded; answer = sym answer; tells = tells waiting bounded (Frame c.frame.result.now) answer; exact = cuts_exactly })

pub returns-in-NeedMore : goal.returns-in-NeedMore
returns-in-NeedMore c =
    let waiting = c.args.self.now in
    let is : c.self.inside.block.waiting ≡ waiting = c.self.view_is in
    let bounded : length waiting ≤ most_bytes = subst (λ w. length w ≤ most_bytes) is c.cut.ensures.bounded in
    let left : c.cut.new.self.waiting ≡ left_of waiting = ap (λ h. h.waiting) c.cut.ensures.held ∙ ap left_of is in
    let answer : answer_of waiting ≡ NeedMore = wanting (answer_of waiting) (sym c.in-NeedMore.is ∙ c.cut.ensures.step ∙ ap (λ w. step_of (answer_of w)) is) in
    ((refl, λ _. tt, left), record { rests = tt; bounded = bounded; answer = sym answer; tells = tells waiting bounded NeedMore answer; exact = cuts_exactly })

pub returns-in-TooLong : goal.returns-in-TooLong
returns-in-TooLong c =
    let waiting = c.args.self.now in
    let is : c.self.inside.block.waiting ≡ waiting = c.self.view_is in
    let bounded : length waiting ≤ most_bytes = subst (λ w. length w ≤ most_bytes) is c.cut.ensures.bounded in
    let left : c.cut.new.self.waiting ≡ left_of waiting = ap (λ h. h.waiting) c.cut.ensures.held ∙ ap left_of is in
    let answer : answer_of waiting ≡ TooLong = overlong (answer_of waiting) (sym c.in-TooLong.is ∙ c.cut.ensures.step ∙ ap (λ w. step_of (answer_of w)) is) in
    ((refl, λ _. tt, left), record { rests = tt; bounded = bounded; answer = sym answer; tells = tells waiting bounded TooLong answer; exact = cuts_exactly })

use Rattle.std.proofs.Common.{◌≡◌, ◌-◌, ◌≤◌, length, take, sym, ap, subst, ◌∙◌, arith}
use Rattle.std.proofs.lemmas.List.{length-take-le}
use Rattle.hermes_stream.specs.Frames.{end_tag}
use Rattle.hermes_stream.proofs.Parts.{ends_at-back, ends_at-by_back, ends_at-not_by_front}
use Rattle.hermes_stream.proofs.scan.ends_at.Goals as goal

pub returns-then-behind : goal.returns-then-behind
returns-then-behind c =
    c.ends_with-then-behind.ensures.value ∙ ends_at-back c.args.first.now c.args.second.now c.args.at (omega (arith, c.if-at-first.false)) c.if-behind.true c.requires

pub returns-then-ends_with : goal.returns-then-ends_with
returns-then-ends_with c =
    let one = c.args.first.now in
    let at = c.args.at in
    let size = length-take-le (9 - (at - length one)) end_tag (omega arith) in
    let long : 9 - (at - length one) ≤ length one = omega (arith, size, c.ends_with-2.ensures.bound c.if-ends_with.true) in
    c.starts_with.ensures.value ∙ ends_at-by_back one c.args.second.now at c.if-at-first.false c.if-behind.false c.requires long (sym c.ends_with-2.ensures.value ∙ c.if-ends_with.true)

pub returns-else-ends_with : goal.returns-else-ends_with
returns-else-ends_with c =
    c.if-ends_with.false ∙ sym (ends_at-not_by_front c.args.first.now c.args.second.now c.args.at c.if-at-first.false c.if-behind.false c.requires (sym c.ends_with-2.ensures.value ∙ c.if-ends_with.false))

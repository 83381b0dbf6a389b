use Rattle.std.proofs.Common.{◌≡◌, ◌+◌, ◌≤◌, ◌++◌, ◌∷◌, ◌∙◌, [], List, ℕ, sym, ap, length, length-append, eqb-true, arith}
use Rattle.std.proofs.lemmas.List.{nil_from_length}
use Rattle.std.specs.Str.Lines.{strip_carriage_return}
use Rattle.log_verdict.proofs.LinesLemmas.{HasNoEnd-append, length-strip}
use Rattle.log_verdict.proofs.Following.{line_progress, line_taken, on_never, on_weaker}
use Rattle.log_verdict.proofs.log_reader.LogReader.end_line.Goals as goal

-- a line of which nothing waited
pub returns-then-is_empty-clause-takes : goal.returns-then-is_empty-clause-takes
returns-then-is_empty-clause-takes c = λ bytes follows.
    let old = c.args.self.now in
    let pending = old.pending.items in
    let part = c.args.part.now in
    let line = c.without_return.result.now in
    let empty : pending ≡ [] = nil_from_length pending (omega (arith, old.pending.ok.0, eqb-true _ _ (sym c.if-is_empty.ensures))) in
    let is : line ≡ strip_carriage_return (pending ++ part) = c.without_return.ensures ∙ ap (λ (p : List ℕ). strip_carriage_return (p ++ part)) (sym empty) in
    line_taken bytes pending part line pending old.checker c.line.new.self c.line.result (HasNoEnd-append pending part old.no_end c.requires) is empty c.line.ensures.reads c.line.ensures.answer follows

pub returns-then-is_empty-clause-progress : goal.returns-then-is_empty-clause-progress
returns-then-is_empty-clause-progress c =
    let old = c.args.self.now in
    let pending = old.pending.items in
    let part = c.args.part.now in
    let line = c.without_return.result.now in
    let none : length pending ≡ 0 = omega (arith, old.pending.ok.0, eqb-true _ _ (sym c.if-is_empty.ensures)) in
    let dropped : length pending + length part ≤ length line + 1 = omega (arith, none, length-strip part, ap length c.without_return.ensures) in
    on_weaker c.line.result (λ further. omega (arith, further, none))
    (line_progress c.line.result old.checker.known.lines c.line.new.self.known.lines pending part line c.line.ensures.counted c.line.ensures.short dropped)

-- a line that is too long
pub returns-then-part-len-clause-takes : goal.returns-then-part-len-clause-takes
returns-then-part-len-clause-takes c = λ bytes follows. c.refuse_long.ensures.refuses bytes (10 ∷ []) follows

pub returns-then-part-len-clause-progress : goal.returns-then-part-len-clause-progress
returns-then-part-len-clause-progress c = on_never _ c.refuse_long.result c.refuse_long.ensures.never

-- a line whose front waited
pub returns-clause-takes : goal.returns-clause-takes
returns-clause-takes c = λ bytes follows.
    let old = c.args.self.now in
    let pending = old.pending.items in
    let part = c.args.part.now in
    let line = c.without_return-2.result.now in
    let is : line ≡ strip_carriage_return (pending ++ part) = c.without_return-2.ensures ∙ ap strip_carriage_return (c.as_slice.ensures.value ∙ c.in_default.ensures.items) in
    line_taken bytes pending part line c.clear.new.self.items old.checker c.line-taken.new.self c.line-taken.result (HasNoEnd-append pending part old.no_end c.requires) is c.clear.ensures.items c.line-taken.ensures.reads c.line-taken.ensures.answer follows

pub returns-clause-progress : goal.returns-clause-progress
returns-clause-progress c =
    let old = c.args.self.now in
    let pending = old.pending.items in
    let part = c.args.part.now in
    let line = c.without_return-2.result.now in
    let is : line ≡ strip_carriage_return (pending ++ part) = c.without_return-2.ensures ∙ ap strip_carriage_return (c.as_slice.ensures.value ∙ c.in_default.ensures.items) in
    let dropped : length pending + length part ≤ length line + 1 = omega (arith, length-strip (pending ++ part), length-append pending part, ap length is) in
    on_weaker c.line-taken.result (λ further. omega (arith, further, ap length c.clear.ensures.items))
    (line_progress c.line-taken.result old.checker.known.lines c.line-taken.new.self.known.lines pending part line c.line-taken.ensures.counted c.line-taken.ensures.short dropped)

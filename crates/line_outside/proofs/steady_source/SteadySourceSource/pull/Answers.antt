use Rattle.std.proofs.Common.{◌≡◌, ◌∙◌, ◌-◌, take, drop, length, Some, arith, ap, sym, length-drop}
use Rattle.std.proofs.lemmas.List.{take_all}
use Rattle.line_outside.proofs.Pieces.{drop-taken}
use Rattle.line_outside.proofs.steady_source.SteadySourceSource.pull.Goals as goal

pub returns-clause-gives : goal.returns-clause-gives
returns-clause-gives c =
    let bytes = c.self.inside.bytes.items in
    let all = c.deref.result.now in
    let at = c.self.inside.at in
    let n = c.fill-count.result in
    let whole : take (length all - at) (drop at all) ≡ drop at bytes = take_all (length all - at) (drop at all) (omega (arith, length-drop at all)) ∙ ap (drop at) c.deref.ensures.value in
    let front = drop-taken bytes c.fill-count.new.room at n (c.fill-count.ensures.filled ∙ ap (take n) whole) in
    let long : length (take (length all - at) (drop at all)) ≡ length bytes - at = ap length whole ∙ length-drop at bytes in
    (omega (arith, c.deref.ensures.len), omega arith, ap Some (sym c.self.view_is ∙ front))

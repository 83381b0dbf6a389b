use Rattle.std.proofs.Common.{[], ◌∷◌, ◌++◌, length, refl, sym, ◌∙◌, arith}
use Rattle.std.proofs.lemmas.List.{map-id}
use Rattle.std.proofs.lemmas.Iterator.Consumers.{YieldsList-from_first, YieldsList-turn, YieldsList-end}
use Rattle.made_script.specs.Script.{made_script}
use Rattle.made_script.proofs.Within.{line_within, made_length}
use Rattle.line_commands.proofs.Folding.{folds-first, folds-line, folds-on, folds-whole}
use Rattle.line_commands.proofs.making.run_made.Goals as goal

pub loop-line-init : goal.loop-line-init
loop-line-init c = record { unspent = rw c.requires.new refl; folding = rw (c.requires.new, c.new-told.ensures.items) folds-first }

pub do_made-requires-clause-unspent : goal.do_made-requires-clause-unspent
do_made-requires-clause-unspent c = c.loop-line.invariant.unspent

pub do_made-requires-clause-few : goal.do_made-requires-clause-few
do_made-requires-clause-few c =
    let whole = c.into_iter-line-iterator.ensures.into_iter_gives ∙ c.of-line-items.ensures in
    let t = YieldsList-turn (YieldsList-from_first (λ x. x) (λ rest. rest) (made_script c.args.number) whole) c.loop-line.yielded _ c.loop-line.yielded_by _ _ c.in-Some.line c.in-Some.is c.next.ensures.steps in
    omega (arith, t.0, c.loop-line.invariant.folding.counted, made_length c.args.number, c.requires.few)

pub do_made-requires-clause-within : goal.do_made-requires-clause-within
do_made-requires-clause-within c =
    let whole = c.into_iter-line-iterator.ensures.into_iter_gives ∙ c.of-line-items.ensures in
    let t = YieldsList-turn (YieldsList-from_first (λ x. x) (λ rest. rest) (made_script c.args.number) whole) c.loop-line.yielded _ c.loop-line.yielded_by _ _ c.in-Some.line c.in-Some.is c.next.ensures.steps in
    line_within c.args.number (length c.loop-line.yielded) c.in-Some.line t.0 t.1

pub loop-line-preserved : goal.loop-line-preserved
loop-line-preserved c =
    let done = folds-line c.loop-line.yielded c.in-Some.line c.loop-line.run c.do_made.new.run c.loop-line.fold c.loop-line.told.items c.do_made.new.told.items c.loop-line.invariant.folding c.in_ok-do_made.ensures.does in
    record {
      unspent = c.in_ok-do_made.ensures.unspent;
      folding = folds-on (c.loop-line.yielded ++ c.in-Some.line ∷ []) c.do_made.new.run c.loop-line.fold c.fold_full-fold.result c.do_made.new.told.items c.fold_full-fold.new.told.items done c.fold_full-fold.ensures;
    }

pub returns-clause-folds : goal.returns-clause-folds
returns-clause-folds c =
    let whole = c.into_iter-line-iterator.ensures.into_iter_gives ∙ c.of-line-items.ensures in
    let t = YieldsList-end (YieldsList-from_first (λ x. x) (λ rest. rest) (made_script c.args.number) whole) c.loop-line.yielded _ c.loop-line.yielded_by _ _ c.in-None.is c.next.ensures.steps in
    folds-whole c.args.number c.loop-line.yielded c.loop-line.run c.loop-line.fold c.folded.result c.loop-line.told.items (sym (map-id c.loop-line.yielded) ∙ t.0) c.loop-line.invariant.folding (rw c.as_slice.ensures.value at c.folded.ensures)

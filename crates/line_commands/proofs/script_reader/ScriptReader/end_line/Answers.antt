use Rattle.std.proofs.Common.{◌≡◌, ◌++◌, ◌∷◌, ◌∙◌, [], length-append, eqb-true, subst, sym, ap, arith}
use Rattle.std.proofs.lemmas.List.{nil_from_length}
use Rattle.std.specs.Str.Lines.{strip_carriage_return}
use Rattle.line_commands.specs.Reader.{Place, Takes}
use Rattle.line_commands.proofs.LinesLemmas.{HasNoEnd-append}
use Rattle.line_commands.proofs.Steps.{takes-line, takes-line_alone, takes-long}
use Rattle.line_commands.proofs.script_reader.ScriptReader.end_line.Goals as goal

pub returns-then-is_empty-clause-takes : goal.returns-then-is_empty-clause-takes
returns-then-is_empty-clause-takes c =
    let pending = c.self.inside.pending.items in
    let part = c.args.part.now in
    let empty : pending ≡ [] = nil_from_length pending (omega (arith, c.self.inside.pending.ok.0, eqb-true _ _ (sym c.if-is_empty.ensures))) in
    let does = rw c.without_return.ensures at c.do_line.ensures.does in
    let taken = takes-line_alone c.do_line.result c.self.inside.run c.do_line.new.self pending part c.args.to.now.items c.do_line.new.to.items empty c.requires.rest does in
    let P : Place → Type 0 = λ place. Takes c.do_line.result place (record { state = c.do_line.new.self; pending = pending }) (part ++ 10 ∷ []) c.args.to.now.items c.do_line.new.to.items in
    subst P c.self.view_is taken

pub returns-then-part-len-clause-takes : goal.returns-then-part-len-clause-takes
returns-then-part-len-clause-takes c =
    let pending = c.self.inside.pending.items in
    let part = c.args.part.now in
    let place : Place = record { state = c.self.inside.run; pending = pending } in
    let none = HasNoEnd-append pending part c.self.invariant.0 c.requires.rest in
    let taken = takes-long c.refuse_long.result place place part (10 ∷ []) c.args.to.now.items c.refuse_long.new.to.items none (omega (arith, length-append pending part, c.len.ensures, c.if-part-len.true)) c.refuse_long.ensures.refuses in
    let P : Place → Type 0 = λ place. Takes c.refuse_long.result place place (part ++ 10 ∷ []) c.args.to.now.items c.refuse_long.new.to.items in
    subst P c.self.view_is taken

pub returns-clause-takes : goal.returns-clause-takes
returns-clause-takes c =
    let pending = c.self.inside.pending.items in
    let part = c.args.part.now in
    let result = c.do_line-done.result in
    let before = c.args.to.now.items in
    let now = c.do_line-done.new.to.items in
    let place : Place = record { state = c.self.inside.run; pending = pending } in
    let none = HasNoEnd-append pending part c.self.invariant.0 c.requires.rest in
    let line : c.without_return-2.result.now ≡ strip_carriage_return (pending ++ part) = c.without_return-2.ensures ∙ ap strip_carriage_return (c.as_slice.ensures.value ∙ c.in_default.ensures.items) in
    let does = rw line at c.do_line-done.ensures.does in
    let taken = takes-line result place c.do_line-done.new.self part before now none does in
    let P : Place → Type 0 = λ place. Takes result place (record { state = c.do_line-done.new.self; pending = [] }) (part ++ 10 ∷ []) before now in
    rw c.clear.ensures.items (subst P c.self.view_is taken)

use Rattle.std.proofs.Common.{◌≡◌, ◌==◌, [], Err, false, length, eqb-true, subst, sym, arith}
use Rattle.std.proofs.lemmas.List.{nil_from_length}
use Rattle.line_commands.specs.Reader.{Place, Finishes}
use Rattle.line_commands.proofs.Steps.{finishes-empty, finishes-line, finishes-refused}
use Rattle.line_commands.proofs.script_reader.ScriptReader.finish.Goals as goal

pub returns-in-Err-clause-finishes : goal.returns-in-Err-clause-finishes
returns-in-Err-clause-finishes c =
    let pending = c.self.inside.pending.items in
    let place : Place = record { state = c.self.inside.run; pending = pending } in
    let there : (length pending == 0) ≡ false = rw (← c.self.inside.pending.ok.0) (sym c.if-is_empty.ensures) in
    let does = rw c.as_slice.ensures.value at c.in-Err.ensures.does in
    let finished = finishes-refused c.in-Err.error place (record { state = c.do_line.new.self; pending = pending }) c.do_line.new.self c.args.to.now.items c.do_line.new.to.items c.self.invariant.0 there does in
    let P : Place → Type 0 = λ place. Finishes (Err c.in-Err.error) place (record { state = c.do_line.new.self; pending = pending }) c.args.to.now.items c.do_line.new.to.items in
    subst P c.self.view_is finished

pub returns-clause-finishes : goal.returns-clause-finishes
returns-clause-finishes c =
    let pending = c.self.inside.pending.items in
    let place : Place = record { state = c.self.inside.run; pending = pending } in
    let there : (length pending == 0) ≡ false = rw (← c.self.inside.pending.ok.0) (sym c.if-is_empty.ensures) in
    let does = rw c.as_slice.ensures.value at c.in_default.ensures.does in
    let finished = finishes-line c.write_summary-2.result place (record { state = c.do_line.new.self; pending = pending }) c.args.to.now.items c.do_line.new.to.items c.write_summary-2.new.to.items c.self.invariant.0 there does c.write_summary-2.ensures.sums in
    let P : Place → Type 0 = λ place. Finishes c.write_summary-2.result place (record { state = c.do_line.new.self; pending = pending }) c.args.to.now.items c.write_summary-2.new.to.items in
    subst P c.self.view_is finished

pub returns-then-is_empty-clause-finishes : goal.returns-then-is_empty-clause-finishes
returns-then-is_empty-clause-finishes c =
    let pending = c.self.inside.pending.items in
    let place : Place = record { state = c.self.inside.run; pending = pending } in
    let empty : pending ≡ [] = nil_from_length pending (omega (arith, c.self.inside.pending.ok.0, eqb-true _ _ (sym c.if-is_empty.ensures))) in
    let finished = finishes-empty c.write_summary.result place c.args.to.now.items c.write_summary.new.to.items empty c.write_summary.ensures.sums in
    let P : Place → Type 0 = λ place. Finishes c.write_summary.result place place c.args.to.now.items c.write_summary.new.to.items in
    subst P c.self.view_is finished

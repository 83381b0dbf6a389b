use Rattle.std.proofs.Common.{[], append-nil, length-append, subst, arith}
use Rattle.line_commands.specs.Reader.{Place, Advances, Takes}
use Rattle.line_commands.proofs.LinesLemmas.{HasNoEnd-append}
use Rattle.line_commands.proofs.Steps.{takes-long, takes-pending}
use Rattle.line_commands.proofs.script_reader.ScriptReader.keep.Goals as goal

pub returns-then-part-len-clause-takes : goal.returns-then-part-len-clause-takes
returns-then-part-len-clause-takes c =
    let pending = c.self.inside.pending.items in
    let part = c.args.part.now in
    let place : Place = record { state = c.self.inside.run; pending = pending } in
    let none = HasNoEnd-append pending part c.self.invariant.0 c.requires.rest in
    let taken = takes-long c.refuse_long.result place place part [] c.args.to.now.items c.refuse_long.new.to.items none (omega (arith, length-append pending part, c.len.ensures, c.if-part-len.true)) c.refuse_long.ensures.refuses in
    let P : Place → Type 0 = λ place. Takes c.refuse_long.result place place part c.args.to.now.items c.refuse_long.new.to.items in
    subst P c.self.view_is (rw append-nil at taken)

pub returns-clause-waits : goal.returns-clause-waits
returns-clause-waits c = rw c.in_default.ensures.items (HasNoEnd-append c.self.inside.pending.items c.args.part.now c.self.invariant.0 c.requires.rest)

pub returns-clause-takes : goal.returns-clause-takes
returns-clause-takes c =
    let place : Place = record { state = c.self.inside.run; pending = c.self.inside.pending.items } in
    let P : Place → Type 0 = λ place. Advances place (record { state = c.self.inside.run; pending = c.extend_from_slice.new.self.items }) c.args.part.now c.args.to.now.items c.args.to.now.items in
    subst P c.self.view_is (rw c.in_default.ensures.items (takes-pending place c.args.part.now c.args.to.now.items))

use Rattle.std.proofs.Common.{◌≡◌, refl, ◌==◌, ◌<◌, ◌∙◌, sym, subst, false, length, arith, IsSome}
use Rattle.std.proofs.lemmas.Bool.{eqb-false}
use Rattle.line_check.proofs.Tables.{gone_no_empty, put_some}
use Rattle.line_check.proofs.table.Table.take.Goals as goal

pub invariant_of-self-then-is_empty : goal.invariant_of-self-then-is_empty
invariant_of-self-then-is_empty c =
    let written = (c.get_mut.follows.holds c.drop_mark.new.marks).3 (subst IsSome c.in-Some.ensures.value refl) in
    record { no_empty = gone_no_empty c.args.self.now.marks (c.get_mut.follows.lender c.drop_mark.new.marks) c.remove-none.new.self c.args.entry.id c.drop_mark.new.marks c.args.self.now.no_empty written c.remove-none.ensures.updates }

pub invariant_of-self-else-is_empty : goal.invariant_of-self-else-is_empty
invariant_of-self-else-is_empty c =
    let written = (c.get_mut.follows.holds c.drop_mark.new.marks).3 (subst IsSome c.in-Some.ensures.value refl) in
    let some : 0 < length c.drop_mark.new.marks.items = omega (arith, c.drop_mark.new.marks.ok.0, eqb-false _ _ (sym c.is_empty.ensures ∙ c.if-is_empty.false)) in
    record { no_empty = put_some c.args.self.now.marks (c.get_mut.follows.lender c.drop_mark.new.marks) c.args.entry.id c.drop_mark.new.marks c.args.self.now.no_empty some written }

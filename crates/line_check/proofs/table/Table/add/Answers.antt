use Rattle.std.proofs.Common.{◌<◌, ◌∷◌, [], ap, length, length-append, arith, None}
use Rattle.line_check.proofs.Tables.{put_no_empty, put_or_not}
use Rattle.line_check.proofs.table.Table.add.Goals as goal

pub invariant_of-self : goal.invariant_of-self
invariant_of-self c = record { no_empty = put_no_empty c.args.self.now.marks c.remove.new.self c.args.entry.id None c.args.self.now.no_empty (λ marks is. cc) c.remove.ensures.updates }

pub invariant_of-self-2 : goal.invariant_of-self-2
invariant_of-self-2 c =
    let removed = put_no_empty c.args.self.now.marks c.remove.new.self c.args.entry.id None c.args.self.now.no_empty (λ marks is. cc) c.remove.ensures.updates in
    let e = c.in_ok-push.ensures.items in
    let some : 0 < length c.push.new.self.items = omega (arith, ap length e, length-append c.match-remove.marks.items (c.args.entry.mark ∷ [])) in
    record { no_empty = put_or_not c.insert.result _ _ _ _ removed some c.insert.ensures.updates c.insert.ensures.err }

use Rattle.std.proofs.Common.{refl, sym, ◌∙◌}
use Rattle.hermes_element.proofs.Standings.{stands-same, stands-then}
use Rattle.hermes_element.proofs.Unescaped.{unescaped}
use Rattle.hermes_element.proofs.write.append_value.Goals as goal

pub returns-then-are_unescaped-clause-written : goal.returns-then-are_unescaped-clause-written
returns-then-are_unescaped-clause-written c =
    rw (unescaped c.args.value.now (sym c.are_unescaped.ensures ∙ c.if-are_unescaped.true))
    c.append.ensures.written

pub loop-byte-init : goal.loop-byte-init
loop-byte-init c = (stands-same c.args.to.now.items c.args.to.now.items refl, refl)

pub returns-in_err-append_byte-clause-kept : goal.returns-in_err-append_byte-clause-kept
returns-in_err-append_byte-clause-kept c =
    stands-then c.loop-byte.invariant.0 c.append_byte.ensures.kept

pub returns-clause-kept : goal.returns-clause-kept
returns-clause-kept c = c.loop-byte.invariant.0

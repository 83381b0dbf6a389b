use Rattle.std.proofs.Common.{inl, inr, sym, arith}
use Rattle.line_base.proofs.Nearest.{limited_none, raised_large}
use Rattle.line_base.proofs.decimal.raised.Goals as goal

pub returns-then-power-ge12 : goal.returns-then-power-ge12
returns-then-power-ge12 c = sym (limited_none _ (raised_large c.args.number c.args.power (omega arith) (elim c.then-power-ge12.either [ inl many ↦ inl many | inr large ↦ inr large.1 ])))

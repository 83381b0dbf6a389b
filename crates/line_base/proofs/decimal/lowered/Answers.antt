use Rattle.std.proofs.Common.{◌^◌, ◌≤◌, ap, sym, arith}
use Rattle.std.proofs.Math.Nat.{pow-le-pow_right}
use Rattle.line_base.specs.Decimal.{limited}
use Rattle.line_base.proofs.Nearest.{lowered_small, one_le_ten_pow}
use Rattle.line_base.proofs.decimal.lowered.Goals as goal

pub returns-then-power-gt38 : goal.returns-then-power-gt38
returns-then-power-gt38 c = ap limited (sym (lowered_small c.args.number c.args.power c.requires.number (omega arith)))

pub pow-unit-requires : goal.pow-unit-requires
pow-unit-requires c =
    let larger : 10 ^ c.args.power ≤ 10 ^ 38 = pow-le-pow_right {n = 10} (omega arith) {i = c.args.power} {j = 38} (omega arith) in
    omega arith

pub nonzero_div-number : goal.nonzero_div-number
nonzero_div-number c = omega (arith, one_le_ten_pow c.args.power)

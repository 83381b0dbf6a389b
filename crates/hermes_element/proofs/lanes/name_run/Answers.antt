use Rattle.std.proofs.Common.{ℕ, leb, cond, bit_and, bit_or, refl, arith}
use Rattle.std.proofs.lemmas.Simd.{zip2_splat, length-chunk}
use lib.Lanes.{chunk}
use Rattle.line_base.specs.Name.{is_name_byte}
use Rattle.hermes_element.proofs.LaneRuns.{joined, splat_is, run_in}
use Rattle.hermes_element.proofs.lanes.name_run.Goals as goal

pub returns : goal.returns
returns c =
    let v = chunk c.args.at 16 c.args.bytes.now in
    let long = length-chunk c.args.at 16 c.args.bytes.now c.requires in
    let no_letter = joined (λ a b. cond (leb a b) 255 0) _ _ v (splat_is v 16 26 long) (joined _ _ _ v (zip2_splat {Y = ℕ} _ v 16 32 long) (splat_is v 16 97 long)) in
    let out_of_signs = joined (λ a b. cond (leb a b) 255 0) _ _ v (splat_is v 16 14 long) (zip2_splat {Y = ℕ} _ v 16 45 long) in
    let no_sign = joined bit_or _ _ v out_of_signs (zip2_splat {Y = ℕ} _ v 16 47 long) in
    run_in is_name_byte c.args.bytes.now c.args.at 16 _ _ c.requires (omega arith) c.type_inv.bytes c.first_set.ensures _
    (joined bit_and _ _ v (joined bit_and _ _ v no_letter no_sign) (zip2_splat {Y = ℕ} _ v 16 95 long)) refl

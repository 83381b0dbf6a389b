use Rattle.std.proofs.Common.{ℕ, leb, cond, bit_or, refl}
use Rattle.std.proofs.lemmas.Simd.{zip2_splat, length-chunk}
use lib.Lanes.{chunk}
use Rattle.hermes_element.proofs.LaneRuns.{joined, splat_is, plain_in}
use Rattle.hermes_element.proofs.lanes.plain_run.Goals as goal

pub returns : goal.returns
returns c =
    let v = chunk c.args.at 16 c.args.bytes.now in
    let long = length-chunk c.args.at 16 c.args.bytes.now c.requires.here in
    let other = joined (λ a b. cond (leb a b) 255 0) _ _ v (splat_is v 16 96 long) (zip2_splat {Y = ℕ} _ v 16 32 long) in
    let mark = joined bit_or _ _ v (zip2_splat {Y = ℕ} _ v 16 38 long) (zip2_splat {Y = ℕ} _ v 16 60 long) in
    plain_in c.args.quote c.requires.quote c.args.bytes.now c.args.at _ _ c.requires.here c.type_inv.bytes c.first_set.ensures _
    (joined bit_or _ _ v (joined bit_or _ _ v other mark) (zip2_splat {Y = ℕ} _ v 16 c.args.quote long)) refl refl

use Rattle.line_world.proofs.Splitting.{joined}
use Rattle.line_world.proofs.floor.apply_parted.Goals as goal

pub returns : goal.returns
returns c =
    let parts = c.split_at_mut-above.ensures.value in
    let there = rw parts at c.requires.there in
    let whole = rw parts at c.requires.whole in
    rw parts (joined c.split_at_mut-above.result.0.now c.split_at_mut-above.result.1.now c.args.gaps.now c.args.gap c.args.step c.index-above-gap.result c.index-gaps-gap.result c.index-below-0.result _ _ _ c.apply_around.result there whole c.split_at_mut-above.ensures.front_len c.apply_around.ensures)

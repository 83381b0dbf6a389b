use Rattle.std.specs.Cmp.{unsigned_Decides}
use Rattle.std.proofs.lemmas.Slice.Eq.{strip_prefix_is}
use Rattle.canonical_frames.proofs.Lists.{some_of_match}
use Rattle.canonical_frames.proofs.front.behind.Goals as goal

pub returns : goal.returns
returns c = some_of_match c.strip_prefix.result _ _ (strip_prefix_is unsigned_Decides c.args.bytes.now c.args.front.now c.strip_prefix.result c.strip_prefix.ensures.cases)

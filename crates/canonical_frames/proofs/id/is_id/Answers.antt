use Rattle.std.proofs.Common.{get_or, sym, ◌∙◌, arith}
use Rattle.canonical_frames.specs.Values.{fits_place}
use Rattle.canonical_frames.proofs.Ids.{id_back}
use Rattle.canonical_frames.proofs.Lists.{one_more_place}
use Rattle.canonical_frames.proofs.id.is_id.Goals as goal

pub loop-place-preserved : goal.loop-place-preserved
loop-place-preserved c =
    one_more_place (λ k. fits_place k (get_or c.args.id.now k 0)) c.loop-place.place c.loop-place.invariant (sym c.fits_place.ensures ∙ c.if-not-fits_place.false)

pub returns : goal.returns
returns c = λ all.
    let long = c.requires in
    let end = c.loop-place-test.false in
    id_back c.args.id.now c.requires (λ k within. c.loop-place.invariant k (omega arith))

use Rattle.std.proofs.Common.{◌≡◌, ◌-◌, ◌∙◌, ap, take, drop, length, length-drop, arith}
use Rattle.std.proofs.lemmas.List.{take_all, take-append-drop}
use Rattle.std.proofs.Math.Seq.{take-add}
use Rattle.line_outside.proofs.Growing.{grows_more, rose_after}
use Rattle.line_outside.proofs.pushing.push_all.Goals as goal

pub loop-at-preserved : goal.loop-at-preserved
loop-at-preserved g c =
    let bytes = c.args.bytes.now in
    let at = c.loop-at.at in
    let count = c.in-Took.count in
    let contents = g.K.Sink.contents in
    let inside = c.loop-at.invariant.within in
    let whole : take (length bytes - at) (drop at bytes) ≡ drop at bytes = take_all (length bytes - at) (drop at bytes) (omega (arith, length-drop at bytes)) in
    let long : length (take (length bytes - at) (drop at bytes)) ≡ length bytes - at = ap length whole ∙ length-drop at bytes in
    let piece = rw whole at c.in-Took.ensures.takes.2 in
    record {
      within = omega (arith, long, c.in-Took.ensures.takes.1);
      grown = rw (take-add at count bytes) (grows_more (contents c.args.sink.now) (contents c.loop-at.sink) (contents c.push.new.self) (take at bytes) (take count (drop at bytes)) c.loop-at.invariant.grown piece);
      counts = omega (arith, c.loop-at.invariant.counts, c.in-Took.ensures.cause);
    }

pub returns-in-Failed : goal.returns-in-Failed
returns-in-Failed g c =
    let bytes = c.args.bytes.now in
    let at = c.loop-at.at in
    let first = c.loop-at.invariant.counts in
    let second = c.in-Failed.ensures.cause.0 in
    let rose = c.in-Failed.ensures.cause.1 in
    (omega arith, rose_after _ _ _ first second rose, record { front = take at bytes; back = drop at bytes; parts = take-append-drop at bytes; grows = rw c.in-Failed.ensures.takes c.loop-at.invariant.grown })

use Rattle.std.proofs.Common.{◌≡◌, ◌+◌, ◌-◌, ◌++◌, length, take, drop, sym, ap, subst, ◌∙◌, arith}
use Rattle.std.proofs.lemmas.List.{take_rest, length-drop, length-take, length-append, take_all, take-append-drop}
use Rattle.stream_text.specs.StreamReader.{TakesFrames, IsRest, IsTooLong}
use Rattle.stream_text.proofs.ReadFrames.{takes-fed_at, takes-frame, takes-more, takes-too_long, rest-left}
use Rattle.stream_text.proofs.stream_reader.take_piece.Goals as goal

pub loop-frame-preserved : goal.loop-frame-preserved
loop-frame-preserved c =
    let piece = c.args.piece.now in
    let at = c.loop-frame.at in
    let n = c.feed-at.result in
    let old = c.args.cutter.now in
    let before = c.args.to.now.items in
    let fed = takes-fed_at old c.loop-frame.cutter c.feed-at.new.self piece at n c.args.done c.loop-frame.count before c.loop-frame.to.items c.loop-frame.invariant.frames c.feed-at.ensures.waiting in
    let gives = c.in-Frame-default.ensures.tells in
    let taken = takes-frame old c.feed-at.new.self c.in-Frame-default.frame.now (take (at + n) piece) c.args.done c.loop-frame.count before c.loop-frame.to.items c.write_frame.new.to.items fed gives c.in_ok-write_frame.ensures in
    let part = ap length (take_rest piece at) ∙ length-drop at piece in
    let added = ap length c.feed-at.ensures.waiting ∙ length-append c.loop-frame.cutter (take n (take (length piece - at) (drop at piece))) in
    let size = length-take n (take (length piece - at) (drop at piece)) in
    let left = ap length c.next.follows.holds-at-none in
    record {
      within = omega (arith, part, c.feed-at.ensures.count, c.loop-frame.invariant.within);
      frames = subst (λ w. TakesFrames old w (take (at + n) piece) c.args.done (c.loop-frame.count + 1) before c.write_frame.new.to.items) (sym c.next.follows.holds-at-none) taken;
      bounded = omega (arith, part, added, size, left, gives.fewer, gives.nine, c.feed-at.ensures.count, c.loop-frame.invariant.bounded);
    }

pub loop-frame-preserved-in-NeedMore-false : goal.loop-frame-preserved-in-NeedMore-false
loop-frame-preserved-in-NeedMore-false c =
    let piece = c.args.piece.now in
    let at = c.loop-frame.at in
    let n = c.feed-at.result in
    let old = c.args.cutter.now in
    let before = c.args.to.now.items in
    let fed = takes-fed_at old c.loop-frame.cutter c.feed-at.new.self piece at n c.args.done c.loop-frame.count before c.loop-frame.to.items c.loop-frame.invariant.frames c.feed-at.ensures.waiting in
    let wants = c.in-NeedMore-false.ensures.tells in
    let taken = takes-more old c.feed-at.new.self (take (at + n) piece) c.args.done c.loop-frame.count before c.loop-frame.to.items fed wants in
    let part = ap length (take_rest piece at) ∙ length-drop at piece in
    let added = ap length c.feed-at.ensures.waiting ∙ length-append c.loop-frame.cutter (take n (take (length piece - at) (drop at piece))) in
    let size = length-take n (take (length piece - at) (drop at piece)) in
    let left = ap length c.next.follows.holds-at-none in
    record {
      within = omega (arith, part, c.feed-at.ensures.count, c.loop-frame.invariant.within);
      frames = subst (λ w. TakesFrames old w (take (at + n) piece) c.args.done c.loop-frame.count before c.loop-frame.to.items) (sym c.next.follows.holds-at-none) taken;
      bounded = omega (arith, part, added, size, left, wants.fewer, c.feed-at.ensures.count, c.loop-frame.invariant.bounded);
    }

pub returns-in-NeedMore-true : goal.returns-in-NeedMore-true
returns-in-NeedMore-true c =
    let piece = c.args.piece.now in
    let at = c.loop-frame.at in
    let n = c.feed-at.result in
    let old = c.args.cutter.now in
    let before = c.args.to.now.items in
    let fed = takes-fed_at old c.loop-frame.cutter c.feed-at.new.self piece at n c.args.done c.loop-frame.count before c.loop-frame.to.items c.loop-frame.invariant.frames c.feed-at.ensures.waiting in
    let wants = c.in-NeedMore-true.ensures.tells in
    let taken = takes-more old c.feed-at.new.self (take (at + n) piece) c.args.done c.loop-frame.count before c.loop-frame.to.items fed wants in
    let whole : take (at + n) piece ≡ piece = take_all (at + n) piece (omega (arith, c.in-NeedMore-true.is-1)) in
    let part = ap length (take_rest piece at) ∙ length-drop at piece in
    let added = ap length c.feed-at.ensures.waiting ∙ length-append c.loop-frame.cutter (take n (take (length piece - at) (drop at piece))) in
    let size = length-take n (take (length piece - at) (drop at piece)) in
    let left = ap length c.next.follows.holds-at-none in
    record {
      frames = subst (λ w. TakesFrames old w piece c.args.done c.loop-frame.count before c.loop-frame.to.items) (sym c.next.follows.holds-at-none) (rw whole at taken);
      over = subst (λ w. IsRest w) (sym c.next.follows.holds-at-none) (rest-left c.feed-at.new.self wants);
      bounded = omega (arith, part, added, size, left, wants.fewer, c.feed-at.ensures.count, c.loop-frame.invariant.bounded, c.loop-frame.invariant.within);
    }

pub returns-in-TooLong-default : goal.returns-in-TooLong-default
returns-in-TooLong-default c =
    let piece = c.args.piece.now in
    let at = c.loop-frame.at in
    let n = c.feed-at.result in
    let old = c.args.cutter.now in
    let before = c.args.to.now.items in
    let fed = takes-fed_at old c.loop-frame.cutter c.feed-at.new.self piece at n c.args.done c.loop-frame.count before c.loop-frame.to.items c.loop-frame.invariant.frames c.feed-at.ensures.waiting in
    let stays = c.in-TooLong-default.ensures.tells in
    let whole : take (at + n) piece ++ drop (at + n) piece ≡ piece = take-append-drop (at + n) piece in
    let taken = takes-too_long old c.feed-at.new.self (take (at + n) piece) (drop (at + n) piece) c.args.done c.loop-frame.count before c.loop-frame.to.items fed stays.frames in
    let is = c.next.follows.holds-at-none ∙ stays.stays in
    let part = ap length (take_rest piece at) ∙ length-drop at piece in
    let added = ap length c.feed-at.ensures.waiting ∙ length-append c.loop-frame.cutter (take n (take (length piece - at) (drop at piece))) in
    let size = length-take n (take (length piece - at) (drop at piece)) in
    let left = ap length is in
    record {
      frames = subst (λ w. TakesFrames old w piece c.args.done c.loop-frame.count before c.loop-frame.to.items) (sym is) (rw whole at taken);
      over = subst (λ w. IsTooLong w) (sym is) stays.frames;
      bounded = omega (arith, part, added, size, left, c.feed-at.ensures.count, c.loop-frame.invariant.bounded, c.loop-frame.invariant.within);
    }

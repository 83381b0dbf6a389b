use Rattle.std.proofs.Common.{◌≡◌, ◌+◌, length, take, sym, ap, subst, ◌∙◌, arith}
use Rattle.std.proofs.lemmas.List.{take_rest, length-drop, take_all}
use Rattle.node_core.specs.declared.lane.Body.{Body}
use Rattle.node_core.specs.Sides.{is_open}
use Rattle.node_core.specs.Halves.{OffersFront}
use Rattle.node_core.proofs.Opened.{breach_closes}
use Rattle.node_core.proofs.Sound.{word_offers}
use Rattle.node_core.proofs.Hearing.{hearing-start, hearing-fed_at, hearing-word, hearing-more, hears-closed, hears-through, hears-long}
use Rattle.node_core.proofs.piece.hear_piece.Goals as goal

pub loop-word-init : goal.loop-word-init
loop-word-init c = record {
  within = omega arith;
  opened = c.requires.open;
  offers = c.requires.offers;
  hearing = hearing-start c.args.desk.now c.args.side c.args.cutter.now c.args.body.now c.args.to.now;
}

pub returns-then-not-is_open : goal.returns-then-not-is_open
returns-then-not-is_open c =
    let h = hearing-fed_at c.args.desk.now c.args.side c.args.cutter.now c.loop-word.cutter c.feed-at.new.self c.args.piece.now c.loop-word.at c.feed-at.result c.args.body.now c.loop-word.body c.args.to.now c.loop-word.to c.loop-word.invariant.hearing c.feed-at.ensures.waiting in
    let takes = rw c.in-Word.is at c.in_ok-word.ensures in
    let after = hearing-word c.args.desk.now c.args.side c.args.cutter.now (take (c.loop-word.at + c.feed-at.result) c.args.piece.now) c.feed-at.new.self c.next_word.new.cutter c.in-Word.word c.args.body.now c.loop-word.body c.hear_word.new.self c.args.to.now c.loop-word.to c.hear_word.new.to h c.loop-word.invariant.opened takes c.in_ok-hear_word-in-Word.ensures.body c.in_ok-hear_word-in-Word.ensures.acts in
    hears-closed c.args.desk.now c.args.side c.args.cutter.now c.next_word.new.cutter c.args.piece.now c.next_word.new.cutter (c.loop-word.at + c.feed-at.result) c.args.body.now c.hear_word.new.self c.args.to.now c.hear_word.new.to after (cc)

pub loop-word-preserved-else-not-is_open : goal.loop-word-preserved-else-not-is_open
loop-word-preserved-else-not-is_open c =
    let h = hearing-fed_at c.args.desk.now c.args.side c.args.cutter.now c.loop-word.cutter c.feed-at.new.self c.args.piece.now c.loop-word.at c.feed-at.result c.args.body.now c.loop-word.body c.args.to.now c.loop-word.to c.loop-word.invariant.hearing c.feed-at.ensures.waiting in
    let takes = rw c.in-Word.is at c.in_ok-word.ensures in
    let part = ap length (take_rest c.args.piece.now c.loop-word.at) ∙ length-drop c.loop-word.at c.args.piece.now in
    record {
      within = omega (arith, part, c.feed-at.ensures.count, c.loop-word.invariant.within);
      opened = cc;
      offers = subst (λ (l : Body). OffersFront l) (sym c.in_ok-hear_word-in-Word.ensures.body) (word_offers c.args.desk.now c.args.side c.in-Word.word c.loop-word.body c.loop-word.invariant.offers);
      hearing = hearing-word c.args.desk.now c.args.side c.args.cutter.now (take (c.loop-word.at + c.feed-at.result) c.args.piece.now) c.feed-at.new.self c.next_word.new.cutter c.in-Word.word c.args.body.now c.loop-word.body c.hear_word.new.self c.args.to.now c.loop-word.to c.hear_word.new.to h c.loop-word.invariant.opened takes c.in_ok-hear_word-in-Word.ensures.body c.in_ok-hear_word-in-Word.ensures.acts;
    }

pub returns-then-at-piece : goal.returns-then-at-piece
returns-then-at-piece c =
    let piece = c.args.piece.now in
    let all = c.loop-word.at + c.feed-at.result in
    let h = hearing-fed_at c.args.desk.now c.args.side c.args.cutter.now c.loop-word.cutter c.feed-at.new.self piece c.loop-word.at c.feed-at.result c.args.body.now c.loop-word.body c.args.to.now c.loop-word.to c.loop-word.invariant.hearing c.feed-at.ensures.waiting in
    let wants = rw c.in-More.is at c.in_ok-word.ensures in
    let whole : take all piece ≡ piece = take_all all piece (omega (arith, c.if-at-piece.true)) in
    hears-through c.args.desk.now c.args.side c.args.cutter.now c.feed-at.new.self piece c.next_word.new.cutter c.args.body.now c.loop-word.body c.args.to.now c.loop-word.to (rw whole at h) wants.0 wants.1

pub loop-word-preserved : goal.loop-word-preserved
loop-word-preserved c =
    let h = hearing-fed_at c.args.desk.now c.args.side c.args.cutter.now c.loop-word.cutter c.feed-at.new.self c.args.piece.now c.loop-word.at c.feed-at.result c.args.body.now c.loop-word.body c.args.to.now c.loop-word.to c.loop-word.invariant.hearing c.feed-at.ensures.waiting in
    let wants = rw c.in-More.is at c.in_ok-word.ensures in
    let part = ap length (take_rest c.args.piece.now c.loop-word.at) ∙ length-drop c.loop-word.at c.args.piece.now in
    record {
      within = omega (arith, part, c.feed-at.ensures.count, c.loop-word.invariant.within);
      opened = c.loop-word.invariant.opened;
      offers = c.loop-word.invariant.offers;
      hearing = hearing-more c.args.desk.now c.args.side c.args.cutter.now (take (c.loop-word.at + c.feed-at.result) c.args.piece.now) c.feed-at.new.self c.next_word.new.cutter c.args.body.now c.loop-word.body c.args.to.now c.loop-word.to h wants.0 wants.1;
    }

pub returns-in-TooLong : goal.returns-in-TooLong
returns-in-TooLong c =
    let all = c.loop-word.at + c.feed-at.result in
    let h = hearing-fed_at c.args.desk.now c.args.side c.args.cutter.now c.loop-word.cutter c.feed-at.new.self c.args.piece.now c.loop-word.at c.feed-at.result c.args.body.now c.loop-word.body c.args.to.now c.loop-word.to c.loop-word.invariant.hearing c.feed-at.ensures.waiting in
    let stays = rw c.in-TooLong.is at c.in_ok-word.ensures in
    let is = c.in_ok-breach-in-TooLong.ensures.body in
    let said = rw c.in_ok-text-in-TooLong.ensures at c.in_ok-breach-in-TooLong.ensures.acts in
    hears-long c.args.desk.now c.args.side c.args.cutter.now c.feed-at.new.self c.args.piece.now c.next_word.new.cutter all c.args.body.now c.loop-word.body c.breach.new.self c.args.to.now c.loop-word.to c.breach.new.to h c.loop-word.invariant.opened stays.0 is said
    (ap (is_open c.args.side) is ∙ breach_closes c.args.desk.now c.args.side c.in_ok-text-in-TooLong.text c.loop-word.body)

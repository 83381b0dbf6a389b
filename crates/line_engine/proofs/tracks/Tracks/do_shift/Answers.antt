use Rattle.std.proofs.lemmas.Result.{on_ok_weaker}
use Rattle.line_engine.specs.Tracks.{FollowsBoth}
use Rattle.line_engine.proofs.OnTwo.{ShiftMade, both_ready, gave_ready, got_ready, may_give, may_take, shares_one, shift_apart, shift_made}
use Rattle.line_engine.proofs.tracks.Tracks.do_shift.Goals as goal
use Rattle.line_engine.proofs.tracks.Tracks.do_shift.Goals.{After-tell_shifted}

pub give_away-requires-clause-may : goal.give_away-requires-clause-may
give_away-requires-clause-may c = may_give c.args.machine c.args.from c.args.to c.args.id c.args.self.now c.requires.kept c.requires.may

pub share-requires : goal.share-requires
share-requires c = record { ready = gave_ready c.args.number c.args.machine c.args.from c.args.to c.args.id c.args.self.now c.give_away.new.self c.in_ok-gave.gave.told c.in_ok-gave.gave.board c.requires.kept c.requires.may c.in_ok-gave.ensures }

pub take_in-requires-clause-may : goal.take_in-requires-clause-may
take_in-requires-clause-may c =
    may_take c.args.number c.args.machine c.args.from c.args.to c.args.id c.args.self.now c.give_away.new.self c.share.new.self c.in_ok-gave.gave.told c.in_ok-gave.gave.board c.requires.kept c.requires.may c.in_ok-gave.ensures
    (shares_one c.args.from c.one-span.result.first c.one-span.result.last c.args.machine c.give_away.new.self c.share.new.self c.one-span.ensures.first c.one-span.ensures.last c.share.ensures)

pub share-requires-2 : goal.share-requires-2
share-requires-2 c = record {
  ready =
      got_ready c.args.number c.args.machine c.args.from c.args.to c.args.id c.args.self.now c.give_away.new.self c.share.new.self c.take_in.new.self c.in_ok-gave.gave.told c.in_ok-got.got c.in_ok-gave.gave.board c.requires.kept c.requires.may c.in_ok-gave.ensures
      (shares_one c.args.from c.one-span.result.first c.one-span.result.last c.args.machine c.give_away.new.self c.share.new.self c.one-span.ensures.first c.one-span.ensures.last c.share.ensures) c.in_ok-got.ensures;
}

pub tell_shifted-requires-clause-apart : goal.tell_shifted-requires-clause-apart
tell_shifted-requires-clause-apart c = shift_apart c.args.machine c.args.from c.args.to c.args.id c.args.self.now c.requires.may

pub tell_shifted-requires-clause-few : goal.tell_shifted-requires-clause-few
tell_shifted-requires-clause-few c =
    (both_ready c.args.number c.args.machine c.args.from c.args.to c.args.id c.args.self.now c.give_away.new.self c.share.new.self c.take_in.new.self c.share-2.new.self c.in_ok-gave.gave.told c.in_ok-got.got c.in_ok-gave.gave.board c.requires.kept c.requires.may c.in_ok-gave.ensures
    (shares_one c.args.from c.one-span.result.first c.one-span.result.last c.args.machine c.give_away.new.self c.share.new.self c.one-span.ensures.first c.one-span.ensures.last c.share.ensures) c.in_ok-got.ensures (shares_one c.args.to c.one-span.result.first c.one-span.result.last c.args.machine c.take_in.new.self c.share-2.new.self c.one-span.ensures.first c.one-span.ensures.last c.share-2.ensures)).few

pub tell_shifted-requires-clause-from : goal.tell_shifted-requires-clause-from
tell_shifted-requires-clause-from c =
    (both_ready c.args.number c.args.machine c.args.from c.args.to c.args.id c.args.self.now c.give_away.new.self c.share.new.self c.take_in.new.self c.share-2.new.self c.in_ok-gave.gave.told c.in_ok-got.got c.in_ok-gave.gave.board c.requires.kept c.requires.may c.in_ok-gave.ensures
    (shares_one c.args.from c.one-span.result.first c.one-span.result.last c.args.machine c.give_away.new.self c.share.new.self c.one-span.ensures.first c.one-span.ensures.last c.share.ensures) c.in_ok-got.ensures (shares_one c.args.to c.one-span.result.first c.one-span.result.last c.args.machine c.take_in.new.self c.share-2.new.self c.one-span.ensures.first c.one-span.ensures.last c.share-2.ensures)).giver

pub tell_shifted-requires-clause-to : goal.tell_shifted-requires-clause-to
tell_shifted-requires-clause-to c =
    (both_ready c.args.number c.args.machine c.args.from c.args.to c.args.id c.args.self.now c.give_away.new.self c.share.new.self c.take_in.new.self c.share-2.new.self c.in_ok-gave.gave.told c.in_ok-got.got c.in_ok-gave.gave.board c.requires.kept c.requires.may c.in_ok-gave.ensures
    (shares_one c.args.from c.one-span.result.first c.one-span.result.last c.args.machine c.give_away.new.self c.share.new.self c.one-span.ensures.first c.one-span.ensures.last c.share.ensures) c.in_ok-got.ensures (shares_one c.args.to c.one-span.result.first c.one-span.result.last c.args.machine c.take_in.new.self c.share-2.new.self c.one-span.ensures.first c.one-span.ensures.last c.share-2.ensures)).taker

-- the steps of the code, and what they make
made : (c : After-tell_shifted) → FollowsBoth c.args.machine c.args.from c.args.to c.in_ok-gave.gave.told c.in_ok-got.got c.share-2.new.self c.tell_shifted.new.self c.args.told.now c.tell_shifted.new.told
    → ShiftMade c.args.number c.args.machine c.args.from c.args.to c.args.id c.args.self.now c.tell_shifted.new.self c.args.told.now c.tell_shifted.new.told
made c follows =
    shift_made c.args.number c.args.machine c.args.from c.args.to c.args.id c.args.self.now c.give_away.new.self c.share.new.self c.take_in.new.self c.share-2.new.self c.tell_shifted.new.self c.in_ok-gave.gave.told c.in_ok-got.got c.in_ok-gave.gave.board
    c.args.told.now c.tell_shifted.new.told c.requires.kept c.requires.may c.in_ok-gave.ensures (shares_one c.args.from c.one-span.result.first c.one-span.result.last c.args.machine c.give_away.new.self c.share.new.self c.one-span.ensures.first c.one-span.ensures.last c.share.ensures) c.in_ok-got.ensures
    (shares_one c.args.to c.one-span.result.first c.one-span.result.last c.args.machine c.take_in.new.self c.share-2.new.self c.one-span.ensures.first c.one-span.ensures.last c.share-2.ensures) follows

pub returns-clause-step : goal.returns-clause-step
returns-clause-step c =
    let at = (goal.at.returns-clause-step c).After-tell_shifted in
    on_ok_weaker c.tell_shifted.result (λ follows. (made at follows).tells) c.tell_shifted.ensures

pub returns-clause-numbers : goal.returns-clause-numbers
returns-clause-numbers c =
    let at = (goal.at.returns-clause-numbers c).After-tell_shifted in
    on_ok_weaker c.tell_shifted.result (λ follows. (made at follows).lines) c.tell_shifted.ensures

pub returns-clause-kept : goal.returns-clause-kept
returns-clause-kept c =
    let at = (goal.at.returns-clause-kept c).After-tell_shifted in
    on_ok_weaker c.tell_shifted.result (λ follows. (made at follows).kept) c.tell_shifted.ensures

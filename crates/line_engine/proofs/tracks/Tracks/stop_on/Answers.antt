use Rattle.std.proofs.Common.{Ok, Err, Result}
use Rattle.std.specs.Prelude.{OnOk}
use Rattle.line_engine.specs.Tracks.{lanes_of}
use Rattle.line_engine.proofs.Played.{lane_played}
use Rattle.line_engine.proofs.tracks.Tracks.stop_on.Goals as goal

both_ok : {T E A B C : Type 0} → (result : Result T E) → (A → B → C) → OnOk result A → OnOk result B → OnOk result C
both_ok (Ok value) then one other = then one other
both_ok (Err error) then one other = tt

pub returns-clause-step : goal.returns-clause-step
returns-clause-step c =
    both_ok c.notice_in_turn-2.result (λ counted step.
    lane_played c.args.number c.args.lane c.args.machine c.args.ends (lanes_of c.args.self.now) (lanes_of c.cut_in_turn.new.self) (lanes_of c.cut_in_turn-2.new.self) (lanes_of c.notice_in_turn.new.self) (lanes_of c.notice_in_turn-2.new.self)
    c.args.told.now c.cut_in_turn.new.told c.cut_in_turn-2.new.told c.notice_in_turn.new.told c.notice_in_turn-2.new.told
    c.requires.numbered
    c.in_ok-cut_in_turn.ensures.counted c.in_ok-cut_in_turn-2.ensures.counted c.in_ok-notice_in_turn.ensures.counted counted
    c.in_ok-cut_in_turn.ensures.step c.in_ok-cut_in_turn-2.ensures.step c.in_ok-notice_in_turn.ensures.step step)
    c.notice_in_turn-2.ensures.counted c.notice_in_turn-2.ensures.step

use Rattle.std.proofs.Common.{◌≡◌, ◌+◌, ◌≤◌, ℕ, false, refl, subst, sym}
use Rattle.law_lanes.specs.Lanes.{Lanes, lines_of}
use Rattle.line_engine.specs.Tracks.{lanes_of}
use Rattle.line_engine.proofs.Nexts.{reached_next}
use Rattle.line_engine.proofs.Seen.{line_seen}
use Rattle.line_engine.proofs.Vouched.{vouched_alike}
use Rattle.line_engine.proofs.line.Line.play.Goals as goal

pub play-requires-clause-numbered : goal.play-requires-clause-numbered
play-requires-clause-numbered c = subst (λ (s : Lanes). c.args.number ≡ lines_of s + 1) (sym c.self.view_is) c.requires.numbered

pub play-requires-clause-kept : goal.play-requires-clause-kept
play-requires-clause-kept c =
    let unspent : c.self.inside.spent ≡ false = subst (λ (s : Lanes). s.spent ≡ false) (sym c.self.view_is) c.requires.unspent in
    (c.self.invariant unspent).kept

pub returns-clause-step : goal.returns-clause-step
returns-clause-step c =
    let unspent : c.self.inside.spent ≡ false = subst (λ (s : Lanes). s.spent ≡ false) (sym c.self.view_is) c.requires.unspent in
    rw (← c.self.view_is) (line_seen c.args.line.now c.self.inside.spent false c.self.inside.tracks c.play.new.self c.in_ok-told.told unspent refl c.in_ok-told.ensures.step)

pub invariant_of-self-2 : goal.invariant_of-self-2
invariant_of-self-2 c =
    λ spent.
    (let unspent : c.self.inside.spent ≡ false = subst (λ (s : Lanes). s.spent ≡ false) (sym c.self.view_is) c.requires.unspent in
    let numbered : c.args.number ≡ lines_of (lanes_of c.self.inside.tracks) + 1 = subst (λ (s : Lanes). c.args.number ≡ lines_of s + 1) (sym c.self.view_is) c.requires.numbered in
    record {
      kept = c.in_ok-told.ensures.kept;
      counted = c.in_ok-told.ensures.sums;
      reached = reached_next c.args.line.now (lanes_of c.self.inside.tracks) (lanes_of c.play.new.self) c.in_ok-told.told (c.self.invariant unspent).reached c.is_fit.ensures
          (subst (λ (n : ℕ). n ≤ 1000000) numbered c.requires.few) c.in_ok-told.ensures.step;
    })

pub returns-clause-alike : goal.returns-clause-alike
returns-clause-alike c = vouched_alike false c.play.new.self c.in_ok-told.ensures.kept

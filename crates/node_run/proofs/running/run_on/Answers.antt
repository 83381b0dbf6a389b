use Rattle.std.proofs.Common.{◌∙◌, arith, refl}
use Rattle.node_run.proofs.Moving.{begins_run, ends_told, told_on, nearer_on, run_status, ends_caused_by, caused_later, is_run_end, uncaused}
use Rattle.node_run.proofs.running.run_on.Goals as goal

pub move_once-requires-clause-ended : goal.move_once-requires-clause-ended
move_once-requires-clause-ended g c = is_run_end c.loop-status.run.state.ended _ _ c.loop-status.invariant.ended

pub returns-in-Some-clause-runs : goal.returns-in-Some-clause-runs
returns-in-Some-clause-runs g c =
    let keeps = c.loop-status.invariant in
    ends_told _ _ _ _ _ c.loop-status.run.state _ _ _ _ _ _ c.in-Some.status keeps.clock keeps.rules keeps.runs c.in-Some.ensures.does

pub returns-in-Some-clause-fits : goal.returns-in-Some-clause-fits
returns-in-Some-clause-fits g c = run_status c.loop-status.run.state.ended c.in-Some.status _ _ _ _ c.loop-status.invariant.ended c.in-Some.ensures.status

pub returns-in-Some-clause-causes : goal.returns-in-Some-clause-causes
returns-in-Some-clause-causes g c =
    let keeps = c.loop-status.invariant in
    ends_caused_by c.loop-status.run.state.ended c.in-Some.status _ _ _ _ _ _ keeps.ports c.in-Some.ensures.ports keeps.logged c.in-Some.ensures.log keeps.ended c.in-Some.ensures.status

pub loop-status-init : goal.loop-status-init
loop-status-init g c = record {
  rules = refl;
  clock = refl;
  runs = begins_run _ c.args.run.now.rules c.args.run.now.state _ _;
  rest = c.requires.rest;
  ended = uncaused c.args.run.now.state.ended _ _ c.requires.ended;
  ports = omega arith;
  logged = omega arith;
  room = c.requires.room;
}

pub loop-status-smaller : goal.loop-status-smaller
loop-status-smaller g c =
    let once = c.in_default.ensures in
    nearer_on _ c.loop-status.run.rules c.move_once.new.run.rules c.loop-status.run.state c.move_once.new.run.state _ _ _ _ (once.rules refl) once.does c.loop-status.invariant.rest (once.rest refl) c.is_short.ensures.channel c.is_short.ensures.config c.is_short.ensures.held

pub loop-status-preserved : goal.loop-status-preserved
loop-status-preserved g c =
    let keeps = c.loop-status.invariant in
    let once = c.in_default.ensures in
    record {
      rules = once.rules refl ∙ keeps.rules;
      clock = once.clock ∙ keeps.clock;
      runs = told_on _ _ _ _ c.args.run.now.state c.loop-status.run.state c.move_once.new.run.state _ _ _ _ _ _ keeps.clock keeps.rules keeps.runs once.does;
      rest = once.rest refl;
      ended = caused_later c.move_once.new.run.state.ended _ _ _ keeps.ports once.ports (once.ended refl);
      ports = omega (arith, keeps.ports, once.ports);
      logged = omega (arith, keeps.logged, once.log);
      room = c.move_once.auto.room ∙ keeps.room;
    }

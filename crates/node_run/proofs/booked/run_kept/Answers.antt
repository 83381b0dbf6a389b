use Rattle.std.proofs.Common.{◌∙◌, arith, refl}
use Rattle.node_run.proofs.Booking.{begins_booked, booked_caused_by, booked_fits, booked_on, booked_status, ends_booked, nearer_booked, turns_kept}
use Rattle.node_run.proofs.Moving.{caused_later, is_run_end, uncaused}
use Rattle.node_run.proofs.booked.run_kept.Goals as goal

pub move_kept-requires-clause-size : goal.move_kept-requires-clause-size
move_kept-requires-clause-size g c = booked_fits _ _ _ c.loop-status.run.state _ _ _ _ _ _ _ _ c.loop-status.invariant.runs

pub move_kept-requires-clause-turns : goal.move_kept-requires-clause-turns
move_kept-requires-clause-turns g c = turns_kept _ _ c.loop-status.invariant.rules c.requires.turns

pub move_kept-requires-clause-ended : goal.move_kept-requires-clause-ended
move_kept-requires-clause-ended g c = is_run_end c.loop-status.run.state.ended _ _ c.loop-status.invariant.ended

pub returns-in-Some-clause-runs : goal.returns-in-Some-clause-runs
returns-in-Some-clause-runs g c =
    let keeps = c.loop-status.invariant in
    ends_booked _ _ _ _ _ c.loop-status.run.state _ _ _ _ _ _ _ _ _ _ _ c.in-Some.status keeps.clock keeps.rules keeps.runs c.in-Some.ensures.does

pub returns-in-Some-clause-fits : goal.returns-in-Some-clause-fits
returns-in-Some-clause-fits g c = booked_status c.loop-status.run.state.ended c.in-Some.status _ _ _ _ _ _ c.loop-status.invariant.ended c.in-Some.ensures.status

pub returns-in-Some-clause-causes : goal.returns-in-Some-clause-causes
returns-in-Some-clause-causes g c =
    let keeps = c.loop-status.invariant in
    booked_caused_by c.loop-status.run.state.ended c.in-Some.status _ _ _ _ _ _ _ _ _ keeps.ports c.in-Some.ensures.ports keeps.logged c.in-Some.ensures.log keeps.booked c.in-Some.ensures.book keeps.ended c.in-Some.ensures.status

pub loop-status-init : goal.loop-status-init
loop-status-init g c = record {
  rules = refl;
  clock = refl;
  runs = begins_booked _ c.args.run.now.rules c.args.run.now.state c.args.size _ _ _ c.requires.size;
  rest = c.requires.rest;
  ended = uncaused c.args.run.now.state.ended _ _ c.requires.ended;
  ports = omega arith;
  logged = omega arith;
  booked = omega arith;
  room = c.requires.room;
}

pub loop-status-smaller : goal.loop-status-smaller
loop-status-smaller g c =
    let once = c.in_default.ensures in
    nearer_booked _ c.loop-status.run.rules c.move_kept.new.run.rules c.loop-status.run.state c.move_kept.new.run.state _ _ _ _ _ _ _ _ (turns_kept _ _ c.loop-status.invariant.rules c.requires.turns) (once.rules refl) once.does c.loop-status.invariant.rest (once.rest refl) c.is_short.ensures.channel c.is_short.ensures.config c.is_short.ensures.held

pub loop-status-preserved : goal.loop-status-preserved
loop-status-preserved g c =
    let keeps = c.loop-status.invariant in
    let once = c.in_default.ensures in
    record {
      rules = once.rules refl ∙ keeps.rules;
      clock = once.clock ∙ keeps.clock;
      runs = booked_on _ _ _ _ c.args.run.now.state c.loop-status.run.state c.move_kept.new.run.state _ _ _ _ _ _ _ _ _ _ _ _ keeps.clock keeps.rules keeps.runs once.does;
      rest = once.rest refl;
      ended = caused_later c.move_kept.new.run.state.ended _ _ _ keeps.ports once.ports (once.ended refl);
      ports = omega (arith, keeps.ports, once.ports);
      logged = omega (arith, keeps.logged, once.log);
      booked = omega (arith, keeps.booked, once.book);
      room = c.move_kept.auto.room ∙ keeps.room;
    }

use Rattle.std.proofs.Common.{◌≡◌, ◌∙◌, ◌++◌, List, ap, arith}
use Rattle.line_report.specs.declared.happening.Happening.{Happening}
use Rattle.line_step.specs.Named.{ids_named}
use Rattle.line_step.specs.Shown.{ascending}
use Rattle.line_engine.specs.Seats.{seat_listed, seat_told}
use Rattle.line_engine.specs.Tracks.{FollowsOne}
use Rattle.line_marks.specs.declared.seat.Seat.{Seat}
use Rattle.line_engine.proofs.OnBoth.{both_begins, both_end, both_more, follows_one, stay_ready}
use Rattle.line_engine.proofs.tracks.Tracks.tell_shifted.Goals as goal

pub loop-id-init : goal.loop-id-init
loop-id-init c =
    let are : c.deref-id-items.result.now ≡ ascending (ids_named (c.args.given ++ c.args.got)) =
    c.deref-id-items.ensures.value ∙ c.in_ok-ids.ensures ∙ ap (λ (what : List Happening). ascending (ids_named (what ++ c.list-2.result.now))) c.list.ensures ∙ ap (λ (what : List Happening). ascending (ids_named (c.args.given ++ what))) c.list-2.ensures in (
      both_begins c.args.machine c.args.from c.args.to (ids_named (c.args.given ++ c.args.got)) c.deref-id-items.result.now c.args.self.now c.tell_shift.new.told are c.requires.from c.requires.to,
      record { few = c.requires.few; giver = c.requires.from; taker = c.requires.to },
    )

pub seat-was-requires : goal.seat-was-requires
seat-was-requires c = c.loop-id.invariant.1.few

pub follow-requires-in-loop-id-clause-ready : goal.follow-requires-in-loop-id-clause-ready
follow-requires-in-loop-id-clause-ready c =
    (stay_ready c.args.from c.args.to c.args.from c.args.machine c.id-item.result c.loop-id.self c.follow.new.self (follows_one c.args.from c.one.result.first c.one.result.last c.args.machine c.id-item.result c.loop-id.self c.follow.new.self c.one.ensures.first c.one.ensures.last c.in_ok-_given.ensures) c.loop-id.invariant.1).taker

pub seat-requires : goal.seat-requires
seat-requires c =
    (stay_ready c.args.from c.args.to c.args.to c.args.machine c.id-item.result c.follow.new.self c.follow-in-loop-id.new.self (follows_one c.args.to c.one-in-loop-id.result.first c.one-in-loop-id.result.last c.args.machine c.id-item.result c.follow.new.self c.follow-in-loop-id.new.self c.one-in-loop-id.ensures.first c.one-in-loop-id.ensures.last c.in_ok-_got.ensures)
    (stay_ready c.args.from c.args.to c.args.from c.args.machine c.id-item.result c.loop-id.self c.follow.new.self (follows_one c.args.from c.one.result.first c.one.result.last c.args.machine c.id-item.result c.loop-id.self c.follow.new.self c.one.ensures.first c.one.ensures.last c.in_ok-_given.ensures) c.loop-id.invariant.1)).few

pub loop-id-preserved : goal.loop-id-preserved
loop-id-preserved c =
    let first : FollowsOne c.args.from c.args.machine c.args.machine c.id-item.result c.loop-id.self c.follow.new.self c.in_ok-_given._given = (follows_one c.args.from c.one.result.first c.one.result.last c.args.machine c.id-item.result c.loop-id.self c.follow.new.self c.one.ensures.first c.one.ensures.last c.in_ok-_given.ensures) in
    let second : FollowsOne c.args.to c.args.machine c.args.machine c.id-item.result c.follow.new.self c.follow-in-loop-id.new.self c.in_ok-_got._got = (follows_one c.args.to c.one-in-loop-id.result.first c.one-in-loop-id.result.last c.args.machine c.id-item.result c.follow.new.self c.follow-in-loop-id.new.self c.one-in-loop-id.ensures.first c.one-in-loop-id.ensures.last c.in_ok-_got.ensures) in (
      both_more c.args.machine c.args.from c.args.to (ids_named (c.args.given ++ c.args.got)) c.deref-id-items.result.now c.loop-id.id-index c.id-item.result c.args.self.now c.loop-id.self c.follow.new.self c.follow-in-loop-id.new.self c.tell_shift.new.told c.loop-id.told c.tell_seat.new.told
          c.requires.apart (omega arith) c.id-item.is c.loop-id.invariant.0 first second
          (c.in_ok-tell_seat.ensures ∙ ap (λ (s : Seat). c.loop-id.told ++ seat_told c.id-item.result s c.seat.result) c.seat-was.ensures ∙ ap (λ (s : Seat). c.loop-id.told ++ seat_told c.id-item.result (seat_listed c.id-item.result 1 c.loop-id.self) s) c.seat.ensures),
      stay_ready c.args.from c.args.to c.args.to c.args.machine c.id-item.result c.follow.new.self c.follow-in-loop-id.new.self second
          (stay_ready c.args.from c.args.to c.args.from c.args.machine c.id-item.result c.loop-id.self c.follow.new.self first c.loop-id.invariant.1),
    )

pub returns : goal.returns
returns c =
    let are : c.deref-id-items.result.now ≡ ascending (ids_named (c.args.given ++ c.args.got)) =
    c.deref-id-items.ensures.value ∙ c.in_ok-ids.ensures ∙ ap (λ (what : List Happening). ascending (ids_named (what ++ c.list-2.result.now))) c.list.ensures ∙ ap (λ (what : List Happening). ascending (ids_named (c.args.given ++ what))) c.list-2.ensures in
    both_end c.args.machine c.args.from c.args.to c.args.given c.args.got c.deref-id-items.result.now c.loop-id.id-index c.args.self.now c.loop-id.self c.args.told.now c.tell_shift.new.told c.loop-id.told are (omega arith) c.in_ok-tell_shift.ensures c.loop-id.invariant.0

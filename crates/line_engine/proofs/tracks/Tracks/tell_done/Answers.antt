use Rattle.std.proofs.Common.{◌≡◌, ◌∙◌, ◌++◌, List, ap, arith}
use Rattle.line_report.specs.declared.happening.Happening.{Happening}
use Rattle.line_step.specs.Named.{ids_named}
use Rattle.line_step.specs.Shown.{ascending}
use Rattle.line_step.specs.Together.{IsLineTogether}
use Rattle.line_marks.specs.Seats.{both}
use Rattle.line_engine.specs.Seats.{seat_told}
use Rattle.line_machines.specs.Sharing.{AreNumbered}
use Rattle.line_marks.specs.declared.seat.Seat.{Seat}
use Rattle.line_engine.specs.declared.track.Track.{Track}
use Rattle.line_engine.proofs.Lanes.{here}
use Rattle.line_engine.proofs.Telling.{telling_begins, telling_ends, telling_few, telling_next, telling_ready}
use Rattle.line_engine.proofs.tracks.Tracks.tell_done.Goals as goal

pub loop-id-init : goal.loop-id-init
loop-id-init c =
    let are : c.deref-id-items.result.now ≡ ascending (ids_named c.args.done) = c.deref-id-items.ensures.value ∙ c.in_ok-ids.ensures ∙ ap (λ (what : List Happening). ascending (ids_named what)) c.list.ensures in
    let h = here (λ (own : Track). IsLineTogether own.state × AreNumbered own.state) c.args.lane c.args.self.now c.requires.ready in
    telling_begins c.args.lane c.args.span.first c.args.span.last c.args.done c.deref-id-items.result.now c.args.self.now h.own c.tell_all.new.self h.there are

pub seat_beside-beside-requires : goal.seat_beside-beside-requires
seat_beside-beside-requires c =
    telling_few c.args.lane c.args.span.first c.args.span.last c.args.done c.deref-id-items.result.now _ c.args.self.now c.loop-id.self c.tell_all.new.self c.loop-id.told c.loop-id.invariant c.requires.few

pub follow-requires-clause-ready : goal.follow-requires-clause-ready
follow-requires-clause-ready c =
    telling_ready c.args.lane c.args.span.first c.args.span.last c.args.done c.deref-id-items.result.now _ c.args.self.now c.loop-id.self c.tell_all.new.self c.loop-id.told c.loop-id.invariant c.requires.ready

pub loop-id-preserved : goal.loop-id-preserved
loop-id-preserved c =
    telling_next c.args.lane c.args.span.first c.args.span.last c.args.done c.deref-id-items.result.now c.loop-id.id-index c.id-item.result c.args.self.now c.loop-id.self c.follow.new.self c.tell_all.new.self c.loop-id.told c.tell_seat.new.told c.in_ok-moved.moved c.seat_beside-beside.result
    (omega arith) c.id-item.is c.loop-id.invariant c.seat_beside-beside.ensures c.in_ok-moved.ensures
    (c.in_ok-tell_seat.ensures ∙ ap (λ (s : Seat). c.loop-id.told ++ seat_told c.id-item.result s c.both-now.result) c.both-was.ensures ∙ ap (λ (s : Seat). c.loop-id.told ++ seat_told c.id-item.result (both c.in_ok-moved.moved.was c.seat_beside-beside.result) s) c.both-now.ensures)

pub returns : goal.returns
returns c =
    let are : c.deref-id-items.result.now ≡ ascending (ids_named c.args.done) = c.deref-id-items.ensures.value ∙ c.in_ok-ids.ensures ∙ ap (λ (what : List Happening). ascending (ids_named what)) c.list.ensures in
    telling_ends c.args.lane c.args.span.first c.args.span.last c.args.done c.deref-id-items.result.now c.loop-id.id-index c.args.self.now c.loop-id.self c.args.told.now c.tell_all.new.self c.loop-id.told (omega arith) are c.in_ok-tell_all.ensures c.loop-id.invariant

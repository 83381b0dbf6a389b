use Rattle.std.proofs.Common.{◌≡◌, ◌<◌, ◌≤◌, ◌∙◌, ap, sym, arith, length, length-append}
use Rattle.line_outside.specs.Store.{noted, given_as}
use Rattle.line_outside.proofs.Accounts.{weights_of-append, noted_more}
use Rattle.line_outside.proofs.account.Told.note.Goals as goal

pub invariant_of-self-2 : goal.invariant_of-self-2
invariant_of-self-2 c =
    let pushed = rw c.unwrap.ensures at c.push.ensures.len in
    let items = rw c.unwrap.ensures at c.push.ensures.items in
    let bytes = rw c.unwrap-2.ensures at c.extend_from_slice.ensures.items in
    let extended = rw c.unwrap-2.ensures at c.extend_from_slice.ensures.len in
    record {
      calls_fit = omega (arith, pushed, c.self.invariant.calls_fit, c.push.ensures.capacity, c.if-self-eq0.false);
      bytes_fit = omega (arith, extended, c.self.invariant.bytes_fit, c.extend_from_slice.ensures.capacity, c.if-self-bytes.false);
      whole = rw (items, bytes) (weights_of-append c.self.inside.calls.items c.args.call ∙ rw (c.self.invariant.whole, c.requires) (sym (length-append c.self.inside.bytes.items c.args.bytes.now)));
    }

pub returns : goal.returns
returns c =
    let items = rw c.unwrap.ensures at c.push.ensures.items in
    let bytes = rw c.unwrap-2.ensures at c.extend_from_slice.ensures.items in
    let more = noted_more c.self.inside.dropped c.self.inside.calls.items c.self.inside.bytes.items c.self.inside.calls_room c.self.inside.bytes_room c.args.call c.args.bytes.now c.if-self.false (omega (arith, c.if-self-eq0.false)) (omega (arith, c.if-self-bytes.false)) c.self.invariant.whole c.requires in
    rw (items, bytes) (more ∙ ap (λ account. noted account (given_as c.args.call c.args.bytes.now) (length c.args.bytes.now)) c.self.view_is)

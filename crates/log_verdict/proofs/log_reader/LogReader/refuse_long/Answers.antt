use Rattle.std.proofs.Common.{◌≡◌, ◌-◌, ◌<◌, ◌≤◌, ◌++◌, ap, length, length-append, take, arith}
use Rattle.std.proofs.lemmas.List.{length-take-le}
use Rattle.log_verdict.proofs.LinesLemmas.{HasNoEnd-append}
use Rattle.log_verdict.proofs.Following.{long_taken, never_ok}
use Rattle.log_verdict.proofs.log_reader.LogReader.refuse_long.Goals as goal

pub returns-clause-refuses : goal.returns-clause-refuses
returns-clause-refuses c = λ bytes tail follows.
    let pending = c.args.self.now.pending.items in
    let part = c.args.part.now in
    let count = 4097 - c.len-count.result in
    let front = c.extend_from_slice.new.self.items in
    let none = HasNoEnd-append pending part c.args.self.now.no_end c.requires.no_end in
    let within : count < length part = omega (arith, c.requires.long, c.args.self.now.pending.ok.0, c.args.self.now.short, c.len-count.ensures) in
    let few : length pending ≤ 4097 = omega (arith, c.args.self.now.short, c.args.self.now.pending.ok.0) in
    let is : front ≡ pending ++ take count part = c.in_default.ensures.items in
    let long : 4096 < length front = omega (arith, ap length is, length-append pending (take count part), length-take-le count part (omega (arith, within)), few, c.len-count.ensures, c.args.self.now.pending.ok.0) in
    long_taken bytes pending part tail front front count c.args.self.now.checker c.line.new.self c.line.result none is within long
    (rw c.as_slice.ensures.value at c.line.ensures.reads) c.line.ensures.answer (rw c.as_slice.ensures.value at c.line.ensures.short) follows

pub returns-clause-never : goal.returns-clause-never
returns-clause-never c =
    let pending = c.args.self.now.pending.items in
    let part = c.args.part.now in
    let count = 4097 - c.len-count.result in
    let front = c.extend_from_slice.new.self.items in
    let within : count < length part = omega (arith, c.requires.long, c.args.self.now.pending.ok.0, c.args.self.now.short, c.len-count.ensures) in
    let few : length pending ≤ 4097 = omega (arith, c.args.self.now.short, c.args.self.now.pending.ok.0) in
    let is : front ≡ pending ++ take count part = c.in_default.ensures.items in
    let long : 4096 < length front = omega (arith, ap length is, length-append pending (take count part), length-take-le count part (omega (arith, within)), few, c.len-count.ensures, c.args.self.now.pending.ok.0) in
    never_ok c.line.result front long (rw c.as_slice.ensures.value at c.line.ensures.short)

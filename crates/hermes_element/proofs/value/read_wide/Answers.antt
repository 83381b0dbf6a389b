use Rattle.std.proofs.Common.{◌≡◌, ◌<◌, ◌≤◌, ◌++◌, length, get_or, Some, false, ap, sym, ◌∙◌, arith, subst}
use Rattle.std.specs.Prelude.{slice_range}
use Rattle.hermes_element.specs.Machine.{Outcome, is_end, wide_start, wide_next}
use Rattle.hermes_element.specs.Steps.{run_at, valuing, AtPlace}
use Rattle.hermes_element.specs.declared.place.Place.TheVariants as places
use Rattle.hermes_element.proofs.Running.{ends, range_one, range_more}
use Rattle.hermes_element.proofs.Wide.{start_part, next_part}
use Rattle.hermes_element.proofs.Values.{wide_first, wide_stuck, wide_later, wide_bars, wide_over}
use Rattle.hermes_element.proofs.value.read_wide.Goals as goal

pub loop-place-init : goal.loop-place-init
loop-place-init c =
    let bytes = c.args.bytes.now in
    let starts : wide_start c.args.quote (get_or bytes c.args.at 0) ≡ Some c.in-Some.place =
    sym c.in-Some.ensures in
    record {
      run = λ depth start key value after_cr b.
          wide_first c.args.quote c.args.at depth start key value bytes after_cr b c.in-Some.place
          c.requires.quote c.requires.here c.requires.first starts;
      part = subst (λ l. AtPlace c.in-Some.place c.args.quote l)
          (sym (range_one bytes c.args.at c.requires.here))
          (start_part c.args.quote
          (get_or bytes c.args.at 0) c.in-Some.place c.requires.first starts);
      low = omega arith;
      high = omega (arith, c.requires.here);
    }

pub loop-place-preserved : goal.loop-place-preserved
loop-place-preserved c =
    let bytes = c.args.bytes.now in
    let quote = c.args.quote in
    let to = c.loop-place.end in
    let so_far = slice_range bytes c.args.at to in
    let w = c.in-Wide in
    let stands : AtPlace (places.Wide w.field-0 w.floor w.bits w.left) quote so_far =
    subst (λ p. AtPlace p quote so_far) w.is c.loop-place.invariant.part in
    let here : to < length bytes =
    omega (arith, c.loop-place.invariant.high, c.if-end-bytes.false) in
    let low : c.args.at ≤ to = omega (arith, c.loop-place.invariant.low) in
    let goes_on : wide_next quote w.floor w.bits w.left (get_or bytes to 0)
    ≡ Some c.in-Some-wide_next.next = sym c.in-Some-wide_next.ensures in
    let place_is : c.loop-place.place ≡ places.Wide quote w.floor w.bits w.left =
    w.is ∙ ap (λ q. places.Wide q w.floor w.bits w.left) stands.0 in
    record {
      run = λ depth start key value after_cr b.
          c.loop-place.invariant.run depth start key value after_cr b
          ∙ ap (λ p.
          run_at p depth (valuing b key start (value ++ so_far) false) to bytes) place_is
          ∙ wide_later quote w.floor w.bits w.left c.args.at to depth start key value bytes b
          c.in-Some-wide_next.next low here goes_on;
      part = subst (λ l. AtPlace c.in-Some-wide_next.next quote l)
          (range_more bytes c.args.at to low here)
          (next_part quote w.floor w.bits w.left
          (get_or bytes to 0) so_far c.in-Some-wide_next.next stands.2 stands.3 stands.1
          goes_on);
      low = omega (arith, low);
      high = omega (arith, here);
    }

pub returns : goal.returns
returns c =
    let bytes = c.args.bytes.now in
    let done =
    wide_over c.loop-place.place c.args.quote
    (slice_range bytes c.args.at c.loop-place.end) c.loop-place.invariant.part (λ q f b l e.
    c.in_default.not-Wide q f b l e) in
    record {
      reads = λ depth start key value after_cr b.
          c.loop-place.invariant.run depth start key value after_cr b
          ∙ ap (λ p.
          run_at p depth
          (valuing b key start (value ++ slice_range bytes c.args.at c.loop-place.end) false)
          c.loop-place.end bytes) done.0;
      within = (c.loop-place.invariant.low, c.loop-place.invariant.high);
      one = done.1;
    }

pub returns-in-None-clause-within : goal.returns-in-None-clause-within
returns-in-None-clause-within c = tt

pub returns-in-None-clause-one : goal.returns-in-None-clause-one
returns-in-None-clause-one c = tt

pub returns-then-end-bytes-clause-within : goal.returns-then-end-bytes-clause-within
returns-then-end-bytes-clause-within c = tt

pub returns-then-end-bytes-clause-one : goal.returns-then-end-bytes-clause-one
returns-then-end-bytes-clause-one c = tt

pub returns-in-None-wide_next-clause-within : goal.returns-in-None-wide_next-clause-within
returns-in-None-wide_next-clause-within c = tt

pub returns-in-None-wide_next-clause-one : goal.returns-in-None-wide_next-clause-one
returns-in-None-wide_next-clause-one c = tt

pub loop-place-smaller : goal.loop-place-smaller
loop-place-smaller c = omega (arith, c.loop-place.invariant.high, c.if-end-bytes.false)

pub returns-in-None-clause-reads : goal.returns-in-None-clause-reads
returns-in-None-clause-reads c =
    λ depth start key value after_cr b.
    wide_stuck c.args.quote c.args.at depth start key value c.args.bytes.now after_cr b
    c.requires.quote c.requires.here c.requires.first (sym c.in-None.ensures)

pub returns-then-end-bytes-clause-reads : goal.returns-then-end-bytes-clause-reads
returns-then-end-bytes-clause-reads c = λ depth start key value after_cr b.
    ap (λ (o : Outcome). o.stop) (c.loop-place.invariant.run depth start key value after_cr b)
    ∙ ends c.loop-place.place depth
    (valuing b key start (value
    ++ slice_range c.args.bytes.now c.args.at c.loop-place.end) false) c.loop-place.end
    c.args.bytes.now
    (omega (arith, c.if-end-bytes.true)) (ap is_end c.in-Wide.is)

pub returns-in-None-wide_next-clause-reads : goal.returns-in-None-wide_next-clause-reads
returns-in-None-wide_next-clause-reads c = λ depth start key value after_cr b.
    let bytes = c.args.bytes.now in
    let quote = c.args.quote in
    let w = c.in-Wide in
    let to = c.loop-place.end in
    let stands : AtPlace (places.Wide w.field-0 w.floor w.bits w.left) quote
    (slice_range bytes c.args.at to) =
    subst (λ p.
    AtPlace p quote (slice_range bytes c.args.at to)) w.is c.loop-place.invariant.part in
    let build = valuing b key start (value ++ slice_range bytes c.args.at to) false in
    ap (λ (o : Outcome). o.stop) (c.loop-place.invariant.run depth start key value after_cr b ∙ ap
    (λ p. run_at p depth build to bytes)
    (w.is ∙ ap (λ q. places.Wide q w.floor w.bits w.left) stands.0))
    ∙ wide_bars quote w.floor w.bits w.left to depth bytes build
    (omega (arith, c.loop-place.invariant.high, c.if-end-bytes.false))
    (sym c.in-None-wide_next.ensures)

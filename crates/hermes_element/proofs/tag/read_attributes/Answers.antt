use Rattle.std.proofs.Common.{◌<◌, ap, sym, ◌∙◌, arith, subst, refl}
use Rattle.hermes_element.specs.Machine.{in_tag}
use Rattle.hermes_element.specs.Steps.{run_at, Meets}
use Rattle.hermes_element.specs.declared.place.Place.TheVariants as places
use Rattle.hermes_element.proofs.Tags.{quoted_blanks, gap_over}
use Rattle.hermes_element.proofs.tag.read_attributes.Goals as goal
use Rattle.hermes_element.proofs.tag.read_attributes.Goals.{then-next-end-via-then-next-end, then-next-end-via-else-next-end+then-next-bytes, then-next-end-via-else-next-end+else-next-bytes+then-not-is_name_start}

pub returns-then-next-end-clause-reads : goal.returns-then-next-end-clause-reads
returns-then-next-end-clause-reads c = λ depth roots stack tag same.
    let b = in_tag roots stack (record tag { attributes = c.loop-end.attributes }) in
    c.loop-end.invariant.run depth roots stack tag same
    ∙ elim c.then-next-end.branch [
      | then-next-end-via-then-next-end w ↦ ap (λ k. run_at places.Quoted depth b k c.args.bytes.now) (sym w.if-next-end.true)
      | then-next-end-via-else-next-end+then-next-bytes w ↦
          let some : c.loop-end.end < c.blanks_end-next.result = omega (arith, c.blanks_end-next.ensures.low, w.if-next-end.false) in
          quoted_blanks depth c.loop-end.end c.blanks_end-next.result (in_tag roots stack (record tag { attributes = c.loop-end.attributes })) c.args.bytes.now some c.blanks_end-next.ensures ∙ gap_over depth c.blanks_end-next.result b c.args.bytes.now (λ inside. absurd (omega (arith, w.if-next-bytes.true)))
      | then-next-end-via-else-next-end+else-next-bytes+then-not-is_name_start w ↦
          let some : c.loop-end.end < c.blanks_end-next.result = omega (arith, c.blanks_end-next.ensures.low, w.if-next-end.false) in
          quoted_blanks depth c.loop-end.end c.blanks_end-next.result (in_tag roots stack (record tag { attributes = c.loop-end.attributes })) c.args.bytes.now some c.blanks_end-next.ensures ∙ gap_over depth c.blanks_end-next.result b c.args.bytes.now (λ inside. sym w.is_name_start.ensures ∙ w.if-not-is_name_start.true)
    ]

pub loop-end-preserved : goal.loop-end-preserved
loop-end-preserved c =
    let some : c.loop-end.end < c.blanks_end-next.result = omega (arith, c.blanks_end-next.ensures.low, c.if-next-end.false) in
    record {
      run = λ depth roots stack tag same.
          c.loop-end.invariant.run depth roots stack tag same
          ∙ quoted_blanks depth c.loop-end.end c.blanks_end-next.result (in_tag roots stack (record tag { attributes = c.loop-end.attributes })) c.args.bytes.now some c.blanks_end-next.ensures
          ∙ c.in-Ok.ensures.reads depth roots stack (record tag { attributes = c.loop-end.attributes }) refl
          ∙ ap (λ l. run_at places.Quoted depth (in_tag roots stack (record tag { attributes = l })) c.in-Ok.behind c.args.bytes.now) (sym c.in-Ok-push.ensures.ok);
      low = omega (arith, some, c.in-Ok.ensures.within.0, c.loop-end.invariant.low);
      high = c.in-Ok.ensures.within.1;
    }

pub returns-in-Err-clause-reads : goal.returns-in-Err-clause-reads
returns-in-Err-clause-reads c = λ depth roots stack tag same.
    let some : c.loop-end.end < c.blanks_end-next.result = omega (arith, c.blanks_end-next.ensures.low, c.if-next-end.false) in
    subst (λ o. Meets o c.in-Err.stop)
    (sym (c.loop-end.invariant.run depth roots stack tag same ∙ quoted_blanks depth c.loop-end.end c.blanks_end-next.result (in_tag roots stack (record tag { attributes = c.loop-end.attributes })) c.args.bytes.now some c.blanks_end-next.ensures))
    (c.in-Err.ensures.reads depth roots stack (record tag { attributes = c.loop-end.attributes }) refl)

use Rattle.std.proofs.Common.{◌==◌, ◌<◌, ℕ, List, Option, Some, None, IfSome, IfNone, arith, ap, ◌∙◌}
use Rattle.std.proofs.lemmas.Bool.{false_from_ne_true, eqb-true}
use Rattle.std.proofs.lemmas.List.{get_or_default, get_or-take, length-take-le}
use Rattle.memchr.specs.Find.{IsFirstByte, is_byte}
use Rattle.log_verdict.specs.LineEnds.{HasNoEnd, IsFirstEnd}
use Rattle.board_traces.proofs.cut.end_of.Goals as goal

first_end : (bytes : List ℕ) (found : Option ℕ) → IsFirstByte (is_byte 10) bytes found → IfSome found (IsFirstEnd bytes)
first_end bytes None h = tt
first_end bytes (Some place) h =
    let long = length-take-le place bytes (let high = h.0.high in omega arith) in
    record {
      within = h.0.high;
      stands = eqb-true _ _ h.1;
      before = record {
        none = λ k d below.
            let under : k < place = omega (arith, below, long) in
            let high = h.0.high in
            let same = get_or-take place bytes k d under ∙ get_or_default bytes k d 0 (omega arith) in
            ap (λ (b : ℕ). b == 10) same ∙ false_from_ne_true _ (h.0.before k (omega arith) under);
      };
    }

no_end : (bytes : List ℕ) (found : Option ℕ) → IsFirstByte (is_byte 10) bytes found → IfNone found (HasNoEnd bytes)
no_end bytes None h = record {
  none = λ k d below. ap (λ (b : ℕ). b == 10) (get_or_default bytes k d 0 below) ∙ false_from_ne_true _ (h k (omega arith) below);
}
no_end bytes (Some place) h = tt

pub returns : goal.returns
returns c = record { found = first_end c.args.bytes.now c.memchr.result c.memchr.ensures; none = no_end c.args.bytes.now c.memchr.result c.memchr.ensures }

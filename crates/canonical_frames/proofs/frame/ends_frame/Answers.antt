use Rattle.std.proofs.Common.{ℕ, List, subst, ◌∙◌}
use Rattle.std.proofs.lemmas.Bool.Decides.{Decides-eqb}
use Rattle.std.proofs.lemmas.Slice.Eq.{slice_eq-Decides}
use Rattle.hermes_horizontal.specs.Rows.{columns_of}
use Rattle.canonical_frames.specs.Pieces.{AreAssigned}
use Rattle.canonical_frames.proofs.frame.ends_frame.Goals as goal

pub returns-in-Some-clause-assigned : goal.returns-in-Some-clause-assigned
returns-in-Some-clause-assigned c = λ same.
    let ends = (slice_eq-Decides Decides-eqb c.in-Some.end.now c.as_slice.result.now c.eq.result c.eq.ensures).0 same ∙ c.as_slice.ensures in
    subst (λ (end : List ℕ). AreAssigned (columns_of c.args.kind) c.args.row.now end) ends c.in-Some.ensures.row

use Rattle.std.proofs.Common.{ℕ, List, ◌++◌, drop, sym, ap, ◌∙◌}
use Rattle.std.proofs.lemmas.List.{take-append-drop}
use Rattle.canonical_frames.proofs.Values.{id_value}
use Rattle.canonical_frames.proofs.id.behind_id.Goals as goal

pub returns : goal.returns
returns c = id_value c.split_at.result.0.now c.args.bytes.now c.in_ok-rest.rest.now (c.is_id.ensures c.if-not-is_id.false)
    (sym (take-append-drop 36 c.args.bytes.now)
    ∙ ap (λ (t : List ℕ). t ++ drop 36 c.args.bytes.now) (sym c.split_at.ensures.front)
    ∙ ap (λ (t : List ℕ). c.split_at.result.0.now ++ t) (sym c.split_at.ensures.back ∙ c.in_ok-rest.ensures))

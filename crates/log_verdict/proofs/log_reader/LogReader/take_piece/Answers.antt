use Rattle.std.proofs.Common.{◌≡◌, ◌+◌, ◌++◌, ◌∷◌, ◌∙◌, [], List, ℕ, Err, refl, sym, ap, subst, append_assoc, append-nil, length, length-append, arith}
use Rattle.log_verdict.specs.LogReader.{Follows, TakesTo}
use Rattle.log_verdict.proofs.Following.{on_weaker, refused_more}
use Rattle.log_verdict.proofs.log_reader.LogReader.take_piece.Goals as goal

pub loop-line-init : goal.loop-line-init
loop-line-init c = record {
  taken = [];
  parts = refl;
  follows = λ bytes follows. subst (λ (l : List ℕ). Follows l c.args.self.now) (sym (append-nil bytes)) follows;
  progress = omega arith;
}

-- the bytes so far, a line, and the others
pub loop-line-preserved : goal.loop-line-preserved
loop-line-preserved c =
    let line = c.in-Some.line.now in
    let others = c.in-Some.others.now in
    let taking = c.loop-line.invariant in
    let regroup : (taking.taken ++ (line ++ 10 ∷ [])) ++ others ≡ taking.taken ++ (line ++ 10 ∷ others) = simp append_assoc in
    record {
      taken = taking.taken ++ (line ++ 10 ∷ []);
      parts = regroup ∙ ap (λ (t : List ℕ). taking.taken ++ t) (sym c.in-Some.ensures.cut.parts) ∙ taking.parts;
      follows = λ bytes follows.
          subst (λ (l : List ℕ). Follows l c.end_line.new.self) (append_assoc bytes taking.taken (line ++ 10 ∷ []))
          (c.in_default-end_line.ensures.takes (bytes ++ taking.taken) (taking.follows bytes follows));
      progress = omega (arith, taking.progress, c.in_default-end_line.ensures.progress, length-append taking.taken (line ++ 10 ∷ []), length-append line (10 ∷ []));
    }

pub returns-in-Err-clause-takes : goal.returns-in-Err-clause-takes
returns-in-Err-clause-takes c = λ bytes follows.
    let line = c.in-Some.line.now in
    let others = c.in-Some.others.now in
    let taking = c.loop-line.invariant in
    let new = c.end_line.new.self in
    let refused = c.in-Err.ensures.takes (bytes ++ taking.taken) (taking.follows bytes follows) in
    let regroup : ((bytes ++ taking.taken) ++ (line ++ 10 ∷ [])) ++ others ≡ bytes ++ (taking.taken ++ (line ++ 10 ∷ others)) = simp append_assoc in
    let whole = regroup ∙ ap (λ (t : List ℕ). bytes ++ (taking.taken ++ t)) (sym c.in-Some.ensures.cut.parts) ∙ ap (λ (t : List ℕ). bytes ++ t) taking.parts in
    subst (λ (l : List ℕ). TakesTo l new.checker new.pending.items (Err c.in-Err.error)) whole
    (refused_more c.in-Err.error ((bytes ++ taking.taken) ++ (line ++ 10 ∷ [])) others new.checker new.checker new.pending.items new.pending.items refused)

pub returns-clause-takes : goal.returns-clause-takes
returns-clause-takes c = λ bytes follows.
    let taking = c.loop-line.invariant in
    let whole = append_assoc bytes taking.taken c.loop-line.rest.now ∙ ap (λ (t : List ℕ). bytes ++ t) taking.parts in
    rw whole at (c.keep.ensures.takes (bytes ++ taking.taken) (taking.follows bytes follows))

pub returns-clause-progress : goal.returns-clause-progress
returns-clause-progress c =
    let taking = c.loop-line.invariant in
    let long : length taking.taken + length c.loop-line.rest.now ≡ length c.args.piece.now = sym (length-append taking.taken c.loop-line.rest.now) ∙ ap length taking.parts in
    on_weaker c.keep.result (λ further. omega (arith, further, taking.progress, long)) c.keep.ensures.progress

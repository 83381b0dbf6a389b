use Rattle.std.proofs.Common.{◌≡◌, ◌==◌, ◌++◌, ◌∷◌, [], List, ℕ, Err, false, sym, subst, length, eqb-true, arith}
use Rattle.std.proofs.lemmas.List.{nil_from_length}
use Rattle.line_check.specs.Checking.{Ends, HasRead}
use Rattle.log_verdict.proofs.Following.{ends_failed, lines_and_last, lines_given, read_failed}
use Rattle.log_verdict.proofs.log_reader.LogReader.finish.Goals as goal

pub returns-then-is_empty : goal.returns-then-is_empty
returns-then-is_empty c = λ bytes follows.
    let reader = c.args.self in
    let empty : reader.pending.items ≡ [] = nil_from_length reader.pending.items (omega (arith, reader.pending.ok.0, eqb-true _ _ (sym c.if-is_empty.ensures))) in
    rw (lines_given bytes reader.pending.items reader.checker follows empty) (c.end.ensures.ends follows.given follows.read)

pub returns-in-Err : goal.returns-in-Err
returns-in-Err c = λ bytes follows.
    let reader = c.args.self in
    let pending = reader.pending.items in
    let there : (length pending == 0) ≡ false = rw (← reader.pending.ok.0) (sym c.if-is_empty.ensures) in
    let step : (given : List (List ℕ)) → HasRead given reader.checker → HasRead (given ++ pending ∷ []) c.line.new.self = rw c.as_slice.ensures.value at c.line.ensures.reads in
    let all = follows.given ++ pending ∷ [] in
    subst (λ (log : List (List ℕ)). Ends log (Err c.in-Err.error)) (sym (lines_and_last bytes pending reader.checker follows reader.no_end there))
    (ends_failed all c.in-Err.error c.line.new.self (read_failed all c.line.new.self c.in-Err.error c.in-Err.ensures.answer (step follows.given follows.read)))

pub returns : goal.returns
returns c = λ bytes follows.
    let reader = c.args.self in
    let pending = reader.pending.items in
    let there : (length pending == 0) ≡ false = rw (← reader.pending.ok.0) (sym c.if-is_empty.ensures) in
    let step : (given : List (List ℕ)) → HasRead given reader.checker → HasRead (given ++ pending ∷ []) c.line.new.self = rw c.as_slice.ensures.value at c.line.ensures.reads in
    let all = follows.given ++ pending ∷ [] in
    rw (lines_and_last bytes pending reader.checker follows reader.no_end there) (c.end-2.ensures.ends all (step follows.given follows.read))

-- The next line of a log.
use Rattle.std.proofs.Common.{◌≡◌, refl, sym, ◌∙◌, ap, ℕ, zero, suc, ◌+◌, ◌-◌, ◌<◌, ◌≤◌, ◌==◌, true, false, List, [], ◌∷◌, Option, None, Some, length, take, length-append, append_assoc, leb-true, arith}
use Rattle.std.proofs.lemmas.Bool.{leb-false}
use Rattle.std.specs.Str.Lines.{lines, strip_carriage_return}
use Rattle.log_verdict.specs.LineEnds.{CutsLine, HasNoEnd}
use Rattle.log_verdict.proofs.LinesLemmas.{lines-last, lines-pending}
use Rattle.board_traces.specs.Held.{is_reached, lines_before}

take_none : (count : ℕ) (log : List (List ℕ)) → count ≡ 0 → take count log ≡ []
take_none count log is = ap (λ (n : ℕ). take n log) is

take_step : (count less : ℕ) (line : List ℕ) (log : List (List ℕ)) → count ≡ less + 1 → take count (line ∷ log) ≡ line ∷ take less log
take_step count less line log is =
    let up : count ≡ suc less = omega (arith, is) in
    ap (λ (n : ℕ). take n (line ∷ log)) up

take_empty : (count : ℕ) (log : List (List ℕ)) → log ≡ [] → take count log ≡ []
take_empty zero log is = refl
take_empty (suc count) log is = ap (λ (l : List (List ℕ)). take (suc count) l) is

pub before_reached : (end : Option ℕ) (done : ℕ) (log : List (List ℕ)) → is_reached end done ≡ true → lines_before end done log ≡ []
before_reached None done log is = cc
before_reached (Some line) done log is =
    let at : line - 1 ≤ done = leb-true (line - 1) done is in
    take_none (line - 1 - done) log (omega (arith, at))

pub before_none : (end : Option ℕ) (done : ℕ) → lines_before end done [] ≡ []
before_none None done = refl
before_none (Some line) done = take_empty (line - 1 - done) [] refl

before_step : (end : Option ℕ) (done : ℕ) (line : List ℕ) (log : List (List ℕ)) → is_reached end done ≡ false → lines_before end done (line ∷ log) ≡ line ∷ lines_before end (done + 1) log
before_step None done line log is = refl
before_step (Some last) done line log is =
    let more : done < last - 1 = leb-false (last - 1) done is in
    take_step (last - 1 - done) (last - 1 - (done + 1)) line log (omega (arith, more))

-- a line and its end
pub before_cut : (end : Option ℕ) (done : ℕ) (bytes line others : List ℕ) → is_reached end done ≡ false → CutsLine bytes line others
    → lines_before end done (lines bytes) ≡ strip_carriage_return line ∷ lines_before end (done + 1) (lines others)
before_cut end done bytes line others is cut =
    let whole : lines bytes ≡ strip_carriage_return line ∷ lines others = ap lines (cut.parts ∙ sym (append_assoc line (10 ∷ []) others)) ∙ lines-pending [] line others cut.none in
    ap (λ (l : List (List ℕ)). lines_before end done l) whole ∙ before_step end done (strip_carriage_return line) (lines others) is

-- a last line without its end
pub before_last : (end : Option ℕ) (done : ℕ) (bytes line others : List ℕ) → is_reached end done ≡ false → HasNoEnd bytes → line ≡ bytes → others ≡ [] → (length bytes == 0) ≡ false
    → lines_before end done (lines bytes) ≡ line ∷ lines_before end (done + 1) (lines others)
before_last end done bytes line others is none same nothing there =
    let whole : lines bytes ≡ bytes ∷ [] = lines-last bytes none ∙ rw there refl in
    ap (λ (l : List (List ℕ)). lines_before end done l) whole
    ∙ before_step end done bytes [] is
    ∙ rw (same, nothing) refl

pub before_end : (end : Option ℕ) (done : ℕ) (bytes : List ℕ) → bytes ≡ [] → lines_before end done (lines bytes) ≡ []
before_end end done bytes is = ap (λ (b : List ℕ). lines_before end done (lines b)) is ∙ before_none end done

pub cut_shorter : (bytes line others : List ℕ) → CutsLine bytes line others → length others < length bytes
cut_shorter bytes line others cut = omega (arith, ap length cut.parts, length-append line (10 ∷ others))

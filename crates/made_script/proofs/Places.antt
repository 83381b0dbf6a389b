-- Which line stands where in a made script.
use Rattle.std.proofs.Common.{◌≡◌, ◌≢◌, ◌<◌, ◌≤◌, ◌+◌, ◌-◌, ◌%◌, ◌==◌, ℕ, zero, suc, Bool, true, false, cond, List, [], ◌∷◌, ◌++◌, length, drop, Option, Some, None, refl, sym, ap, ◌∙◌, arith, length-append, ne_eqb}
use Rattle.std.specs.Prelude.{IfSome, slice_get}
use Rattle.std.proofs.lemmas.Option.{slice_get_within, get_or_from_slice_get}
use Rattle.std.proofs.lemmas.List.{drop_more}
use Rattle.board_record.specs.Maker.{made_id}
use Rattle.line_script.specs.declared.line.ScriptLine.{ScriptLine}
use Rattle.line_script.specs.declared.line.ScriptLine.TheVariants as lines
use Rattle.made_script.specs.Script.{opening, handover, round, rounds, cut_off, undisturbed}
use Rattle.made_script.specs.Places.{part, lines_from}

-- a list and one more behind it
one_more : {A : Type 0} (xs : List A) (y : A) (i : ℕ) → i ≢ length xs → slice_get xs i ≡ slice_get (xs ++ y ∷ []) i
one_more [] y zero other = absurd (other refl)
one_more [] y (suc i) other = refl
one_more (x ∷ xs) y zero other = refl
one_more (x ∷ xs) y (suc i) other = one_more xs y i (λ is. other (ap suc is))

-- and one before it
between : {A : Type 0} (x : A) (xs : List A) (y : A) (i : ℕ) → i ≢ 0 → i ≢ length xs + 1 → slice_get xs (i - 1) ≡ slice_get (x ∷ (xs ++ y ∷ [])) i
between x xs y zero some other = absurd (some refl)
between x xs y (suc i) some other =
    let before : suc i - 1 ≡ i = omega arith in
    ap (slice_get xs) before ∙ one_more xs y i (λ is. other (omega arith))

twelve : (b : Bool) → length (cond b cut_off undisturbed) ≡ 12
twelve true = refl
twelve false = refl

-- a handover has twelve lines
handover_length : (count : ℕ) → length (handover count) ≡ 12
handover_length count = twelve (count % 7 == 0)

pub round_length : (count : ℕ) → length (round count) ≡ 14
round_length count = omega (arith, length-append (handover count) (lines.Remove 2 (made_id 1 count) ∷ []), handover_length count)

part_short : (b : Bool) (count : ℕ) → length (cond b opening (round count)) ≤ 14
part_short true count = omega arith
part_short false count = omega (arith, round_length count)

-- a part has fourteen lines at most
pub part_few : (count : ℕ) → length (part count) ≤ 14
part_few count = part_short (count == 0) count

-- the lines of a round between its first and its last are its handover
pub part_handover : (count step : ℕ) → (count == 0) ≡ false → step ≢ 0 → step ≢ 13 → slice_get (handover count) (step - 1) ≡ slice_get (part count) step
part_handover count step some first last =
    rw some (between (lines.Insert 1 None) (handover count) (lines.Remove 2 (made_id 1 count)) step first (λ is. last (omega (arith, handover_length count))))

some_few : (o : Option ScriptLine) (count step : ℕ) → slice_get (part count) step ≡ o → IfSome o (λ line. step < 14)
some_few None count step is = tt
some_few (Some line) count step is = omega (arith, part_few count, slice_get_within (part count) step line is)

-- so a line of a round stands at one of fourteen steps
pub at_few : (o : Option ScriptLine) (count step : ℕ) → o ≡ slice_get (part count) step → IfSome o (λ line. step < 14)
at_few o count step is = some_few o count step (sym is)

-- the next line of a round
pub lines_step : (count step last : ℕ) (line : ScriptLine) → slice_get (part count) step ≡ Some line → lines_from count step last ≡ line ∷ lines_from count (step + 1) last
lines_step count step last line is =
    let within = slice_get_within (part count) step line is in
    let here = get_or_from_slice_get (part count) step line line is in
    ap (λ ls. ls ++ rounds (count + 1) (last - count)) (drop_more (part count) step line within ∙ ap (λ l. l ∷ drop (step + 1) (part count)) here)

-- behind the last line of a round
past : (xs : List ScriptLine) (i : ℕ) → slice_get xs i ≡ None → drop i xs ≡ []
past [] zero is = refl
past [] (suc i) is = refl
past (x ∷ xs) zero is = cc
past (x ∷ xs) (suc i) is = past xs i is

-- the next line is that which begins the next round
pub lines_next : (count step last : ℕ) → slice_get (part count) step ≡ None → count < last → lines_from count step last ≡ lines.Insert 1 None ∷ lines_from (count + 1) 1 last
lines_next count step last over more =
    let left : last - count ≡ suc (last - (count + 1)) = omega arith in
    let some : (count + 1 == 0) ≡ false = ne_eqb (count + 1) 0 (λ is. omega arith) in
    rw (past (part count) step over, left, some) refl

-- none is left behind the last
pub lines_end : (count step last : ℕ) → slice_get (part count) step ≡ None → count ≡ last → lines_from count step last ≡ []
lines_end count step last over is =
    let left : last - count ≡ 0 = omega arith in
    rw (past (part count) step over, left) refl

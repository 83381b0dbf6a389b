-- A made script's lines are lines of the script grammar, so many of them.
use Rattle.std.proofs.Common.{◌≡◌, ◌<◌, ◌≤◌, ◌+◌, ◌*◌, ◌%◌, ◌==◌, ℕ, zero, suc, Bool, true, false, cond, List, [], ◌∷◌, ◌++◌, length, get_or, refl, sym, subst, arith, length-append}
use Rattle.std.specs.List.{AllByRecursion}
use Rattle.board_record.specs.Maker.{made_id}
use Rattle.line_script.specs.Ranges.{IsBetween, IsWithin}
use Rattle.line_script.specs.declared.line.ScriptLine.{ScriptLine}
use Rattle.line_script.specs.declared.line.ScriptLine.TheVariants as lines
use Rattle.made_script.specs.Script.{opening, handover, round, rounds, made_script, cut_off, undisturbed}
use Rattle.made_script.proofs.Places.{round_length}

abbrev AreWithin : List ScriptLine → Type 0
AreWithin asked = AllByRecursion IsWithin asked

both : (xs ys : List ScriptLine) → AreWithin xs → AreWithin ys → AreWithin (xs ++ ys)
both [] ys one other = other
both (x ∷ xs) ys one other = (one.0, both xs ys one.1 other)

low : (machine : ℕ) → 1 ≤ machine → machine ≤ 2 → IsBetween 1 64 machine
low machine least most = record { least = least; most = omega arith }

first : IsBetween 1 64 1
first = low 1 (omega arith) (omega arith)

second : IsBetween 1 64 2
second = low 2 (omega arith) (omega arith)

gap : IsBetween 1 63 1
gap = record { least = omega arith; most = omega arith }

room : IsBetween 1 1024 4
room = record { least = omega arith; most = omega arith }

none_used : IsBetween 0 281474976710655 0
none_used = record { least = omega arith; most = omega arith }

opening_within : AreWithin opening
opening_within = ((room, none_used), ((room, none_used), (second, ((first, tt), ((second, tt), tt)))))

handover_by : (b : Bool) → AreWithin (cond b cut_off undisturbed)
handover_by true = ((first, tt), ((second, tt), ((first, tt), (gap, (gap, (gap, (gap, (first, (second, (second, ((first, tt), ((second, tt), tt))))))))))))
handover_by false = ((first, tt), ((second, tt), ((first, tt), (gap, (first, (second, (gap, (first, (gap, (second, ((second, tt), ((first, tt), tt))))))))))))

round_within : (count : ℕ) → AreWithin (round count)
round_within count = (first, both (handover count) (lines.Remove 2 (made_id 1 count) ∷ []) (handover_by (count % 7 == 0)) (second, tt))

rounds_within : (count more : ℕ) → AreWithin (rounds count more)
rounds_within count zero = tt
rounds_within count (suc more) = both (round count) (rounds (count + 1) more) (round_within count) (rounds_within (count + 1) more)

-- each number stands within its range
pub made_within : (number : ℕ) → AllByRecursion IsWithin (made_script number)
made_within number = both opening (rounds 1 number) opening_within (rounds_within 1 number)

at_place : (asked : List ScriptLine) (place : ℕ) (line : ScriptLine) → AreWithin asked → place < length asked → line ≡ get_or asked place line → IsWithin line
at_place [] place line within short is = absurd (omega arith)
at_place (first ∷ others) zero line within short is = subst IsWithin (sym is) within.0
at_place (first ∷ others) (suc place) line within short is = at_place others place line within.1 (omega arith) is

-- so that of each line does
pub line_within : (number place : ℕ) (line : ScriptLine) → place < length (made_script number) → line ≡ get_or (made_script number) place line → IsWithin line
line_within number place line short is = at_place (made_script number) place line (made_within number) short is

rounds_length : (count more : ℕ) → length (rounds count more) ≡ 14 * more
rounds_length count zero = refl
rounds_length count (suc more) = omega (arith, length-append (round count) (rounds (count + 1) more), round_length count, rounds_length (count + 1) more)

-- two machines and their connection are five lines, and each board has fourteen
pub made_length : (number : ℕ) → length (made_script number) ≡ 14 * number + 5
made_length number = omega (arith, length-append opening (rounds 1 number), rounds_length 1 number)

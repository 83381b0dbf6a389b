-- What lanes count together can be told, or not.
use Rattle.std.proofs.Common.{◌≡◌, ◌∙◌, ◌+◌, ◌<◌, ◌≤◌, ◌&&◌, ℕ, Bool, true, false, List, [], ◌∷◌, Option, ap, arith, drop, length, refl, suc, zero}
use Rattle.std.specs.Prelude.{nat_le}
use Rattle.std.proofs.lemmas.Bool.{le-leb, leb-true}
use Rattle.line_report.specs.declared.summary.Summary.{Summary}
use Rattle.line_world.specs.Boards.{boards_on}
use Rattle.line_step.specs.State.{LineState}
use Rattle.line_step.specs.Views.{summary_of}
use Rattle.law_lanes.specs.Views.{sum_of, summary_on}
use Rattle.line_engine.specs.Kept.{most_counted}
use Rattle.line_engine.specs.Summed.{added_up, is_told, summed}
use Rattle.line_engine.specs.Tracks.{lanes_of, states_of}
use Rattle.line_engine.specs.declared.track.Track.{Track}

-- ---- each of three

and_each : (a b c : Bool) → (a && b && c) ≡ true → (a ≡ true) × ((b ≡ true) × (c ≡ true))
and_each true true true is = (refl, (refl, refl))
and_each false b c is = absurd (cc)
and_each true false c is = absurd (cc)
and_each true true false is = absurd (cc)

and_all : (a b c : Bool) → a ≡ true → b ≡ true → c ≡ true → (a && b && c) ≡ true
and_all true true true one two three = refl
and_all false b c one two three = absurd (cc)
and_all true false c one two three = absurd (cc)
and_all true true false one two three = absurd (cc)

pub told_all : (sum : Summary) → sum.boards < 18446744073709551616 → sum.opened < 18446744073709551616 → sum.settled < 18446744073709551616 → is_told sum ≡ true
told_all sum one two three =
    and_all (nat_le sum.boards most_counted) (nat_le sum.opened most_counted) (nat_le sum.settled most_counted)
    (le-leb sum.boards most_counted (omega (arith, one)))
    (le-leb sum.opened most_counted (omega (arith, two)))
    (le-leb sum.settled most_counted (omega (arith, three)))

pub told_boards : (sum : Summary) → is_told sum ≡ true → sum.boards < 18446744073709551616
told_boards sum is =
    let most = leb-true sum.boards most_counted (and_each (nat_le sum.boards most_counted) (nat_le sum.opened most_counted) (nat_le sum.settled most_counted) is).0 in
    omega (arith, most)

pub told_opened : (sum : Summary) → is_told sum ≡ true → sum.opened < 18446744073709551616
told_opened sum is =
    let most = leb-true sum.opened most_counted (and_each (nat_le sum.boards most_counted) (nat_le sum.opened most_counted) (nat_le sum.settled most_counted) is).1.0 in
    omega (arith, most)

pub told_settled : (sum : Summary) → is_told sum ≡ true → sum.settled < 18446744073709551616
told_settled sum is =
    let most = leb-true sum.settled most_counted (and_each (nat_le sum.boards most_counted) (nat_le sum.opened most_counted) (nat_le sum.settled most_counted) is).1.1 in
    omega (arith, most)

-- ---- lane after lane

boards_summed : (sum : Summary) (ts : List Track) → (summed sum ts).boards ≡ sum.boards + sum_of (λ (t : LineState). length (boards_on t.world.floor)) (states_of ts)
boards_summed sum [] = omega arith
boards_summed sum (t ∷ ts) =
    let more = boards_summed (added_up sum (summary_of t.state)) ts in
    omega (arith, more)

opened_summed : (sum : Summary) (ts : List Track) → (summed sum ts).opened ≡ sum.opened + sum_of (λ (t : LineState). t.world.opened) (states_of ts)
opened_summed sum [] = omega arith
opened_summed sum (t ∷ ts) =
    let more = opened_summed (added_up sum (summary_of t.state)) ts in
    omega (arith, more)

settled_summed : (sum : Summary) (ts : List Track) → (summed sum ts).settled ≡ sum.settled + sum_of (λ (t : LineState). t.world.settled) (states_of ts)
settled_summed sum [] = omega arith
settled_summed sum (t ∷ ts) =
    let more = settled_summed (added_up sum (summary_of t.state)) ts in
    omega (arith, more)

lines_summed : (sum : Summary) (ts : List Track) → (summed sum ts).lines ≡ sum.lines
lines_summed sum [] = refl
lines_summed sum (t ∷ ts) = lines_summed (added_up sum (summary_of t.state)) ts

unvouched_summed : (sum : Summary) (ts : List Track) → (summed sum ts).unvouched ≡ sum.unvouched
unvouched_summed sum [] = refl
unvouched_summed sum (t ∷ ts) = unvouched_summed (added_up sum (summary_of t.state)) ts

abbrev counts : ℕ → ℕ → ℕ → ℕ → Option ℕ → Summary
counts lines boards opened settled unvouched = record { lines = lines; boards = boards; opened = opened; settled = settled; unvouched = unvouched }

same_counts : (a b : Summary) → a.lines ≡ b.lines → a.boards ≡ b.boards → a.opened ≡ b.opened → a.settled ≡ b.settled → a.unvouched ≡ b.unvouched → a ≡ b
same_counts a b l n o t u =
    ap (λ (x : ℕ). counts x a.boards a.opened a.settled a.unvouched) l
    ∙ ap (λ (x : ℕ). counts b.lines x a.opened a.settled a.unvouched) n
    ∙ ap (λ (x : ℕ). counts b.lines b.boards x a.settled a.unvouched) o
    ∙ ap (λ (x : ℕ). counts b.lines b.boards b.opened x a.unvouched) t
    ∙ ap (λ (x : Option ℕ). counts b.lines b.boards b.opened b.settled x) u

-- it is what the report's last line has
pub summed_all : (first : Track) (others : List Track) → summed (summary_of first.state) others ≡ summary_on (lanes_of (first ∷ others))
summed_all first others =
    let start : Summary = summary_of first.state in
    same_counts (summed start others) (summary_on (lanes_of (first ∷ others)))
    (lines_summed start others) (boards_summed start others) (opened_summed start others) (settled_summed start others) (unvouched_summed start others)

-- what can't be told stays so with the lanes behind
pub told_before : (sum : Summary) (ts : List Track) → is_told (summed sum ts) ≡ true → is_told sum ≡ true
told_before sum ts is =
    let b = told_boards (summed sum ts) is in
    let o = told_opened (summed sum ts) is in
    let s = told_settled (summed sum ts) is in
    told_all sum
    (omega (arith, b, boards_summed sum ts))
    (omega (arith, o, opened_summed sum ts))
    (omega (arith, s, settled_summed sum ts))

-- behind the last lane
pub summed_end : (sum : Summary) (n : ℕ) (ts : List Track) → length ts ≤ n → summed sum (drop n ts) ≡ sum
summed_end sum zero [] past = refl
summed_end sum zero (t ∷ ts) past = absurd (omega (arith, past))
summed_end sum (suc n) [] past = refl
summed_end sum (suc n) (t ∷ ts) past = summed_end sum n ts (omega (arith, past))

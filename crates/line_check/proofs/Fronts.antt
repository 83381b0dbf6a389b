-- A line that is too long counts by its front.
use Rattle.std.proofs.Common.{◌≡◌, refl, sym, ◌∙◌, ap, ℕ, ◌+◌, ◌-◌, ◌<◌, ◌≤◌, ◌==◌, Bool, true, false, not, ◌&&◌, ◌||◌, List, [], ◌∷◌, ◌++◌, Option, Some, None, drop, take, length, length-append, length-drop, nat_le, nat_lt, arith, if◌then◌else◌, lt-ltb, leb-true}
use Rattle.std.proofs.lemmas.Bool.Decides.{nat_tests}
use Rattle.std.proofs.lemmas.List.{drop-append-le, length-take-le, take-append-le}
use Rattle.std.proofs.lemmas.Bool.{leb-false, and_right, and_left}
use Rattle.std.specs.Char.{is_ascii_digit}
use Rattle.std.specs.List.{list_all}
use Rattle.line_base.specs.Number.{is_digits, value_of}
use Rattle.line_check.specs.declared.group.Group.{Group}
use Rattle.line_check.specs.declared.why.CheckWhy.{CheckWhy}
use Rattle.line_check.specs.declared.why.CheckWhy.TheVariants.{Long}
use Rattle.line_check.specs.Words.{cut_at_space, parts_at, space_from}
use Rattle.line_check.specs.LogLine.{group_in, group_of, group_with, is_machine, is_turn}
use Rattle.line_check.specs.Log.{against, against_from, all_stand, ends_before, is_same_group, ledger_of, or_later, reason_at}
use Rattle.line_check.specs.Checking.{own_reason_at}
use Rattle.line_check.proofs.Reasons.{or_standing, reason_at-own}

-- THE FIRST SPACE of a front

past_step : (here : Bool) (place at : ℕ) (bytes : List ℕ) (later : Option ℕ) → (later ≡ Some at → (place + 1 ≤ at) × (at < place + 1 + length bytes))
    → (if here then Some place else later) ≡ Some at → (place ≤ at) × (at < place + (length bytes + 1))
past_step true place at bytes later further is = let same : place ≡ at = cc in (omega (arith, same), omega (arith, same))
past_step false place at bytes later further is = let parts = further is in (omega (arith, parts.0), omega (arith, parts.1))

space_past : (place : ℕ) (bytes : List ℕ) (at : ℕ) → space_from place bytes ≡ Some at → (place ≤ at) × (at < place + length bytes)
space_past place [] at is = cc
space_past place (byte ∷ bytes) at is =
    let parts = past_step (byte == 32) place at bytes (space_from (place + 1) bytes) (space_past (place + 1) bytes at) is in
    (parts.0, omega (arith, parts.1))

abbrev or_behind : Option ℕ → Option ℕ → Option ℕ
or_behind None later = later
or_behind (Some at) later = Some at

append_step : (here : Bool) (place : ℕ) (all front later : Option ℕ) → all ≡ or_behind front later → (if here then Some place else all) ≡ or_behind (if here then Some place else front) later
append_step true place all front later is = refl
append_step false place all front later is = is

space_append : (place : ℕ) (front more : List ℕ) → space_from place (front ++ more) ≡ or_behind (space_from place front) (space_from (place + length front) more)
space_append place [] more = ap (λ (p : ℕ). space_from p more) (omega arith)
space_append place (byte ∷ front) more =
    let further : place + 1 + length front ≡ place + length (byte ∷ front) = omega arith in
    append_step (byte == 32) place (space_from (place + 1) (front ++ more)) (space_from (place + 1) front) (space_from (place + length (byte ∷ front)) more)
    (space_append (place + 1) front more ∙ ap (λ (p : ℕ). or_behind (space_from (place + 1) front) (space_from p more)) further)

-- a space that stands in the front
cut_front : (front more : List ℕ) (at : ℕ) → space_from 0 front ≡ Some at → cut_at_space (front ++ more) ≡ Some (take at front, drop (at + 1) front ++ more)
cut_front front more at is =
    let within = (space_past 0 front at is).1 in
    let less : at ≤ length front = omega (arith, within) in
    let further : at + 1 ≤ length front = omega (arith, within) in
    ap (λ (o : Option ℕ). parts_at o (front ++ more)) (space_append 0 front more ∙ ap (λ (o : Option ℕ). or_behind o (space_from (0 + length front) more)) is)
    ∙ ap (λ (word : List ℕ). Some (word, drop (at + 1) (front ++ more))) (take-append-le at front more less)
    ∙ ap (λ (rest : List ℕ). Some (take at front, rest)) (drop-append-le (at + 1) front more further)

-- none that stands in it
cut_behind : (front more : List ℕ) → space_from 0 front ≡ None → cut_at_space (front ++ more) ≡ parts_at (space_from (length front) more) (front ++ more)
cut_behind front more is =
    let zero : 0 + length front ≡ length front = omega arith in
    ap (λ (o : Option ℕ). parts_at o (front ++ more)) (space_append 0 front more ∙ ap (λ (o : Option ℕ). or_behind o (space_from (0 + length front) more)) is ∙ ap (λ (p : ℕ). space_from p more) zero)

-- WORDS that are too long

digits_long : (low high : ℕ) (word : List ℕ) → high < length word → is_digits low high word ≡ false
digits_long low high word long =
    let few : nat_le (length word) high ≡ false = grind (arith, nat_tests) in
    and_right (list_all is_ascii_digit word) (nat_le low (length word) && nat_le (length word) high) (and_right (nat_le low (length word)) (nat_le (length word) high) few)

machine_long : (word : List ℕ) → 2 < length word → is_machine word ≡ false
machine_long word long = and_left (is_digits 1 2 word) (nat_lt 0 (value_of word) && (nat_le (value_of word) 64 && (length word == 1 || nat_le 10 (value_of word)))) (digits_long 1 2 word long)

machine_short : (word : List ℕ) → is_machine word ≡ true → length word ≤ 2
machine_short word is = pick (nat_le (length word) 2) refl where
  pick : (few : Bool) → nat_le (length word) 2 ≡ few → length word ≤ 2
  pick true few = leb-true (length word) 2 few
  pick false few =
      let long : 2 < length word = leb-false (length word) 2 few in
      let h : true ≡ false = sym is ∙ machine_long word long in
      absurd (let none : true ≡ false = h in cc)

no_machine : (word : List ℕ) (rest : Option (List ℕ × List ℕ)) → is_machine word ≡ false → group_with word rest ≡ None
no_machine word None is = refl
no_machine word (Some (turn, text)) is = rw is refl

no_turn : (machine : Bool) (turn : Bool) (group : Option Group) → turn ≡ false → (if machine then (if turn then group else None) else None) ≡ None
no_turn true turn group is = rw is refl
no_turn false turn group is = refl

-- a word that ends behind a long front is no turn, and no machine
turn_behind : (machine rest more : List ℕ) (place : Option ℕ) → space_from (length rest) more ≡ place → 15 < length rest → group_with machine (parts_at place (rest ++ more)) ≡ None
turn_behind machine rest more None is long = refl
turn_behind machine rest more (Some at) is long =
    let past = space_past (length rest) more at is in
    let word : length (take at (rest ++ more)) ≡ at = length-take-le at (rest ++ more) (omega (arith, past.1, length-append rest more)) in
    let turn = take at (rest ++ more) in
    no_turn (is_machine machine) (is_turn turn) (Some (record { machine = value_of machine; turn = value_of turn })) (digits_long 1 15 turn (omega (arith, word, past.0)))

machine_behind : (front more : List ℕ) (place : Option ℕ) → space_from (length front) more ≡ place → 2 < length front → group_in (parts_at place (front ++ more)) ≡ None
machine_behind front more None is long = refl
machine_behind front more (Some at) is long =
    let past = space_past (length front) more at is in
    let word : length (take at (front ++ more)) ≡ at = length-take-le at (front ++ more) (omega (arith, past.1, length-append front more)) in
    no_machine (take at (front ++ more)) (cut_at_space (drop (at + 1) (front ++ more))) (machine_long (take at (front ++ more)) (omega (arith, word, past.0)))

-- THE GROUP of a long front is that of the line

turn_front : (machine rest more : List ℕ) (place : Option ℕ) → space_from 0 rest ≡ place → 15 < length rest → group_with machine (cut_at_space (rest ++ more)) ≡ group_with machine (cut_at_space rest)
turn_front machine rest more (Some at) is long =
    ap (group_with machine) (cut_front rest more at is) ∙ sym (ap (λ (o : Option ℕ). group_with machine (parts_at o rest)) is)
turn_front machine rest more None is long =
    ap (group_with machine) (cut_behind rest more is) ∙ turn_behind machine rest more (space_from (length rest) more) refl long ∙ sym (ap (λ (o : Option ℕ). group_with machine (parts_at o rest)) is)

rest_front : (machine rest more : List ℕ) (is : Bool) → is_machine machine ≡ is → (length machine ≤ 2 → 15 < length rest) → group_with machine (cut_at_space (rest ++ more)) ≡ group_with machine (cut_at_space rest)
rest_front machine rest more false is long = no_machine machine (cut_at_space (rest ++ more)) is ∙ sym (no_machine machine (cut_at_space rest) is)
rest_front machine rest more true is long = turn_front machine rest more (space_from 0 rest) refl (long (machine_short machine is))

group_front : (front more : List ℕ) (place : Option ℕ) → space_from 0 front ≡ place → 4096 < length front → group_of (front ++ more) ≡ group_of front
group_front front more (Some at) is long =
    let within = (space_past 0 front at is).1 in
    let word : length (take at front) ≡ at = length-take-le at front (omega (arith, within)) in
    let left : length (drop (at + 1) front) ≡ length front - (at + 1) = length-drop (at + 1) front in
    let rest : length (take at front) ≤ 2 → 15 < length (drop (at + 1) front) = λ (few : length (take at front) ≤ 2). omega (arith, few, word, left, long) in
    ap group_in (cut_front front more at is)
    ∙ rest_front (take at front) (drop (at + 1) front) more (is_machine (take at front)) refl rest
    ∙ sym (ap (λ (o : Option ℕ). group_in (parts_at o front)) is)
group_front front more None is long =
    ap group_in (cut_behind front more is) ∙ machine_behind front more (space_from (length front) more) refl (omega (arith, long)) ∙ sym (ap (λ (o : Option ℕ). group_in (parts_at o front)) is)

-- A LOG with a line that is too long

long_here : (before : List (List ℕ)) (line : List ℕ) (after : List (List ℕ)) → 4096 < length line → against_from before (line ∷ after) ≡ Some (record { line = length before + 1; why = Long })
long_here before line after long = rw (lt-ltb 4096 (length line) long) refl

next_same : (group : Option Group) (before : List (List ℕ)) (one other : List ℕ) (after : List (List ℕ)) → group_of one ≡ group_of other
    → ends_before group (before ++ one ∷ after) ≡ ends_before group (before ++ other ∷ after)
next_same group [] one other after same = ap (λ (o : Option Group). not (is_same_group group o)) same
next_same group (line ∷ before) one other after same = refl

same_long : (first before : List (List ℕ)) (one other : List ℕ) (after : List (List ℕ)) → group_of one ≡ group_of other → 4096 < length one → 4096 < length other
    → against_from first (before ++ one ∷ after) ≡ against_from first (before ++ other ∷ after)
same_long first [] one other after same long its = long_here first one after long ∙ sym (long_here first other after its)
same_long first (line ∷ before) one other after same long its =
    let stand = not (all_stand (ledger_of (first ++ line ∷ [])).marks) in
    let here : reason_at first line (before ++ one ∷ after) ≡ reason_at first line (before ++ other ∷ after) =
    reason_at-own first line (before ++ one ∷ after)
    ∙ ap (λ (b : Bool). or_standing (own_reason_at first line) (b && stand)) (next_same (group_of line) before one other after same)
    ∙ sym (reason_at-own first line (before ++ other ∷ after))
    in
    ap (λ (o : Option CheckWhy). or_later (length first + 1) o (against_from (first ++ line ∷ []) (before ++ one ∷ after))) here
    ∙ ap (or_later (length first + 1) (reason_at first line (before ++ other ∷ after))) (same_long (first ++ line ∷ []) before one other after same long its)

-- what is against a log is against it whatever stands behind the front of a line that is too long
pub long_front : (before : List (List ℕ)) (front more : List ℕ) (after : List (List ℕ)) → 4096 < length front → against (before ++ front ∷ after) ≡ against (before ++ (front ++ more) ∷ after)
long_front before front more after long =
    same_long [] before front (front ++ more) after (sym (group_front front more (space_from 0 front) refl long)) long (omega (arith, long, length-append front more))

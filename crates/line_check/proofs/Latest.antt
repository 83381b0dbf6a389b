-- The greatest turn of each machine.
use Rattle.std.proofs.Common.{◌≡◌, ◌≢◌, refl, sym, ◌∙◌, ap, subst, ℕ, ◌+◌, ◌-◌, ◌<◌, ◌≤◌, ◌==◌, Bool, true, false, ◌&&◌, ◌||◌, List, [], ◌∷◌, ◌++◌, Option, Some, None, max, length, nat_lt, slice_index_or, slice_set, arith, if◌then◌else◌, eqb-true, eq-eqb, get_or-set_same, get_or-set_other}
use Rattle.std.proofs.lemmas.Bool.{eqb-false, le-ltb, ltb-false}
use Rattle.std.proofs.lemmas.Bool.Decides.{nat_tests}
use Rattle.line_check.specs.declared.group.Group.{Group}
use Rattle.line_check.specs.LogLine.{group_of}
use Rattle.line_check.specs.Log.{is_below, is_late_in}
use Rattle.line_check.specs.Turns.{greatest_turn, turn_in}

lt-max : (t a b : ℕ) → nat_lt t (max a b) ≡ (nat_lt t a || nat_lt t b)
lt-max t a b = grind (arith, nat_tests)

below_step : (here : Bool) (t turn : ℕ) → (here && nat_lt t turn) ≡ nat_lt t (if here then turn else 0)
below_step true t turn = refl
below_step false t turn = sym (le-ltb t 0 (omega arith))

below_in : (group : Group) (other : Option Group) → is_below group other ≡ nat_lt group.turn (turn_in group.machine other)
below_in group None = sym (le-ltb group.turn 0 (omega arith))
below_in group (Some other) = below_step (other.machine == group.machine) group.turn other.turn

-- a turn is late where it is less than the greatest of its machine
pub late_by : (group : Group) (lines : List (List ℕ)) → is_late_in (Some group) lines ≡ nat_lt group.turn (greatest_turn group.machine lines)
late_by group [] = sym (le-ltb group.turn 0 (omega arith))
late_by group (line ∷ lines) =
    ap (λ (b : Bool). b || is_late_in (Some group) lines) (below_in group (group_of line))
    ∙ ap (λ (b : Bool). nat_lt group.turn (turn_in group.machine (group_of line)) || b) (late_by group lines)
    ∙ sym (lt-max group.turn (turn_in group.machine (group_of line)) (greatest_turn group.machine lines))

pub greatest_turn-push : (machine : ℕ) (lines : List (List ℕ)) (line : List ℕ) → greatest_turn machine (lines ++ line ∷ []) ≡ max (greatest_turn machine lines) (turn_in machine (group_of line))
greatest_turn-push machine [] line = omega arith
greatest_turn-push machine (first ∷ lines) line =
    ap (λ (n : ℕ). max (turn_in machine (group_of first)) n) (greatest_turn-push machine lines line)
    ∙ max_assoc (turn_in machine (group_of first)) (greatest_turn machine lines) (turn_in machine (group_of line)) where
      max_assoc : (a b c : ℕ) → max a (max b c) ≡ max (max a b) c
      max_assoc a b c = omega arith

-- the list of turns behind a turn that is not late
note_place : (turns : List ℕ) (group : Group) (lines : List (List ℕ)) (line : List ℕ) (place : ℕ) → length turns ≡ 64 → 1 ≤ group.machine → group.machine ≤ 64 → place < 64
    → slice_index_or turns place 0 ≡ greatest_turn (place + 1) lines → group_of line ≡ Some group → is_late_in (Some group) lines ≡ false
    → (here : Bool) → (place == group.machine - 1) ≡ here → slice_index_or (slice_set turns (group.machine - 1) group.turn) place 0 ≡ greatest_turn (place + 1) (lines ++ line ∷ [])
note_place turns group lines line place long least most within stood of late true is =
    let at : place ≡ group.machine - 1 = eqb-true place (group.machine - 1) is in
    let machine : group.machine ≡ place + 1 = omega (arith, at) in
    let inside : group.machine - 1 < length turns = omega (arith, long) in
    let same : (group.machine == place + 1) ≡ true = eq-eqb group.machine (place + 1) machine in
    let early : greatest_turn group.machine lines ≤ group.turn = ltb-false group.turn (greatest_turn group.machine lines) (sym (late_by group lines) ∙ late) in
    let early_here : greatest_turn (place + 1) lines ≤ group.turn = subst (λ (m : ℕ). greatest_turn m lines ≤ group.turn) machine early in
    let greatest : max (greatest_turn (place + 1) lines) group.turn ≡ group.turn = omega (arith, early_here) in
    ap (λ (p : ℕ). slice_index_or (slice_set turns (group.machine - 1) group.turn) p 0) at
    ∙ get_or-set_same turns (group.machine - 1) group.turn 0 inside
    ∙ sym (greatest_turn-push (place + 1) lines line
    ∙ ap (λ (o : Option Group). max (greatest_turn (place + 1) lines) (turn_in (place + 1) o)) of
    ∙ ap (λ (b : Bool). max (greatest_turn (place + 1) lines) (if b then group.turn else 0)) same
    ∙ greatest)
note_place turns group lines line place long least most within stood of late false is =
    let apart : place ≢ group.machine - 1 = eqb-false place (group.machine - 1) is in
    let other : (group.machine == place + 1) ≡ false = unlike (group.machine == place + 1) refl in
    let greatest : max (greatest_turn (place + 1) lines) 0 ≡ greatest_turn (place + 1) lines = omega arith in
    get_or-set_other turns (group.machine - 1) place group.turn 0 apart
    ∙ stood
    ∙ sym (greatest_turn-push (place + 1) lines line
    ∙ ap (λ (o : Option Group). max (greatest_turn (place + 1) lines) (turn_in (place + 1) o)) of
    ∙ ap (λ (b : Bool). max (greatest_turn (place + 1) lines) (if b then group.turn else 0)) other
    ∙ greatest) where
      unlike : (b : Bool) → (group.machine == place + 1) ≡ b → b ≡ false
      unlike false same = refl
      unlike true same =
          let at : group.machine ≡ place + 1 = eqb-true group.machine (place + 1) same in
          absurd (eqb-false place (group.machine - 1) is (omega (arith, at)))

pub turns_noted : (turns : List ℕ) (group : Group) (lines : List (List ℕ)) (line : List ℕ) → length turns ≡ 64 → 1 ≤ group.machine → group.machine ≤ 64
    → ((place : ℕ) → place < 64 → slice_index_or turns place 0 ≡ greatest_turn (place + 1) lines) → group_of line ≡ Some group → is_late_in (Some group) lines ≡ false
    → (place : ℕ) → place < 64 → slice_index_or (slice_set turns (group.machine - 1) group.turn) place 0 ≡ greatest_turn (place + 1) (lines ++ line ∷ [])
turns_noted turns group lines line long least most stood of late place within =
    note_place turns group lines line place long least most within (stood place within) of late (place == group.machine - 1) refl

-- what the list says is late
pub late_told : (turns : List ℕ) (group : Group) (lines : List (List ℕ)) → 1 ≤ group.machine → group.machine ≤ 64
    → ((place : ℕ) → place < 64 → slice_index_or turns place 0 ≡ greatest_turn (place + 1) lines)
    → nat_lt group.turn (slice_index_or turns (group.machine - 1) 0) ≡ is_late_in (Some group) lines
late_told turns group lines least most stood =
    let within : group.machine - 1 < 64 = omega arith in
    let machine : group.machine - 1 + 1 ≡ group.machine = omega arith in
    ap (nat_lt group.turn) (stood (group.machine - 1) within ∙ ap (λ (m : ℕ). greatest_turn m lines) machine) ∙ sym (late_by group lines)

-- The reasons against a line, and what is owed of it.
use Rattle.std.proofs.Common.{◌≡◌, refl, sym, ◌∙◌, ap, ℕ, ◌+◌, ◌==◌, Bool, true, false, not, ◌&&◌, List, [], ◌∷◌, ◌++◌, Option, Some, None, append_assoc, append-nil, cond, length, length-append, nat_lt, arith, if◌then◌else◌}
use Rattle.standings.specs.declared.deed.Deed.{Deed}
use Rattle.standings.specs.Ledger.{Ledger, empty_ledger, ledger_after, ledger_after_all}
use Rattle.line_check.specs.declared.group.Group.{Group}
use Rattle.line_check.specs.declared.why.CheckWhy.{CheckWhy}
use Rattle.line_check.specs.declared.why.CheckWhy.TheVariants.{Long, Lines, Form, Turn, Legal, Standing}
use Rattle.line_check.specs.LogLine.{group_of, said_by}
use Rattle.line_check.specs.Log.{Against, against, against_from, all_stand, deeds_in, deeds_of, ends_before, holds, is_bad, is_illegal, is_late_in, is_same_group, ledger_of, or_later, reason_at}
use Rattle.line_check.specs.Checking.{last_group, owed, own_reason_at}

-- LISTS OF LINES

pub last_group-push : (lines : List (List ℕ)) (line : List ℕ) → last_group (lines ++ line ∷ []) ≡ group_of line
last_group-push [] line = refl
last_group-push (first ∷ []) line = refl
last_group-push (first ∷ next ∷ lines) line = last_group-push (next ∷ lines) line

pub ledger_after_all-append : (ledger : Ledger) (front back : List Deed) → ledger_after_all ledger (front ++ back) ≡ ledger_after_all (ledger_after_all ledger front) back
ledger_after_all-append ledger [] back = refl
ledger_after_all-append ledger (deed ∷ front) back = ledger_after_all-append (ledger_after ledger deed) front back

deeds_of-push : (lines : List (List ℕ)) (line : List ℕ) → deeds_of (lines ++ line ∷ []) ≡ deeds_of lines ++ deeds_in (said_by line)
deeds_of-push [] line = append-nil (deeds_in (said_by line))
deeds_of-push (first ∷ lines) line =
    ap (λ (l : List Deed). deeds_in (said_by first) ++ l) (deeds_of-push lines line) ∙ sym (append_assoc (deeds_in (said_by first)) (deeds_of lines) (deeds_in (said_by line)))

pub ledger_of-push : (lines : List (List ℕ)) (line : List ℕ) → ledger_of (lines ++ line ∷ []) ≡ ledger_after_all (ledger_of lines) (deeds_in (said_by line))
ledger_of-push lines line = ap (ledger_after_all empty_ledger) (deeds_of-push lines line) ∙ ledger_after_all-append empty_ledger (deeds_of lines) (deeds_in (said_by line))

pub regroup : (lines : List (List ℕ)) (line : List ℕ) (after : List (List ℕ)) → (lines ++ line ∷ []) ++ after ≡ lines ++ line ∷ after
regroup lines line after = append_assoc lines (line ∷ []) after

-- THE FIRST REASON at a line: its own, or that at the end of its group

abbrev pub or_standing : Option CheckWhy → Bool → Option CheckWhy
or_standing None lacks = if lacks then Some Standing else None
or_standing (Some why) lacks = Some why

first_of_six : (a b c d e f : Bool)
    → cond a (Some Long) (cond b (Some Lines) (cond c (Some Form) (cond d (Some Turn) (cond e (Some Legal) (cond f (Some Standing) None)))))
    ≡ or_standing (cond a (Some Long) (cond b (Some Lines) (cond c (Some Form) (cond d (Some Turn) (cond e (Some Legal) None))))) f
first_of_six true b c d e f = refl
first_of_six false true c d e f = refl
first_of_six false false true d e f = refl
first_of_six false false false true e f = refl
first_of_six false false false false true f = refl
first_of_six false false false false false true = refl
first_of_six false false false false false false = refl

pub reason_at-own : (before : List (List ℕ)) (line : List ℕ) (after : List (List ℕ)) → reason_at before line after ≡ or_standing (own_reason_at before line) (holds Standing before line after)
reason_at-own before line after =
    first_of_six (holds Long before line after) (holds Lines before line after) (holds Form before line after) (holds Turn before line after) (holds Legal before line after) (holds Standing before line after)

-- what each test says of the first of a line's own reasons
module _ (before : List (List ℕ)) (line : List ℕ) where
  pub own_long : nat_lt 4096 (length line) ≡ true → Some Long ≡ own_reason_at before line
  own_long a = rw a refl

  pub own_lines : nat_lt 4096 (length line) ≡ false → (length before == 1000000) ≡ true → Some Lines ≡ own_reason_at before line
  own_lines a b = rw (a, b) refl

  pub own_form : nat_lt 4096 (length line) ≡ false → (length before == 1000000) ≡ false → is_bad (said_by line) ≡ true → Some Form ≡ own_reason_at before line
  own_form a b c = rw (a, b, c) refl

  pub own_turn : nat_lt 4096 (length line) ≡ false → (length before == 1000000) ≡ false → is_bad (said_by line) ≡ false → is_late_in (group_of line) before ≡ true
      → Some Turn ≡ own_reason_at before line
  own_turn a b c d = rw (a, b, c, d) refl

  pub own_legal : nat_lt 4096 (length line) ≡ false → (length before == 1000000) ≡ false → is_bad (said_by line) ≡ false → is_late_in (group_of line) before ≡ false
      → is_illegal (ledger_of before) (said_by line) ≡ true → Some Legal ≡ own_reason_at before line
  own_legal a b c d e = rw (a, b, c, d, e) refl

  pub own_none : nat_lt 4096 (length line) ≡ false → (length before == 1000000) ≡ false → is_bad (said_by line) ≡ false → is_late_in (group_of line) before ≡ false
      → is_illegal (ledger_of before) (said_by line) ≡ false → None ≡ own_reason_at before line
  own_none a b c d e = rw (a, b, c, d, e) refl

-- where none of its own reasons holds, none of the tests does
pub record HasNoReason (before : List (List ℕ)) (line : List ℕ) : Type 0 where
  pub short : nat_lt 4096 (length line) ≡ false
  pub few : (length before == 1000000) ≡ false
  pub form : is_bad (said_by line) ≡ false
  pub early : is_late_in (group_of line) before ≡ false
  pub legal : is_illegal (ledger_of before) (said_by line) ≡ false

none_of_five : (a b c d e : Bool) → cond a (Some Long) (cond b (Some Lines) (cond c (Some Form) (cond d (Some Turn) (cond e (Some Legal) None)))) ≡ None
    → (a ≡ false) × (b ≡ false) × (c ≡ false) × (d ≡ false) × (e ≡ false)
none_of_five true b c d e none = cc
none_of_five false true c d e none = cc
none_of_five false false true d e none = cc
none_of_five false false false true e none = cc
none_of_five false false false false true none = cc
none_of_five false false false false false none = (refl, refl, refl, refl, refl)

pub no_reason : (before : List (List ℕ)) (line : List ℕ) → own_reason_at before line ≡ None → HasNoReason before line
no_reason before line none =
    let parts = none_of_five (nat_lt 4096 (length line)) (length before == 1000000) (is_bad (said_by line)) (is_late_in (group_of line) before) (is_illegal (ledger_of before) (said_by line)) none in
    record { short = parts.0; few = parts.1; form = parts.2; early = parts.3; legal = parts.4 }

-- WHAT IS OWED of lines

-- nothing is owed of no lines
pub owed-first : (after : List (List ℕ)) → against after ≡ owed [] after
owed-first [] = refl
owed-first (line ∷ after) = refl

-- the end of a group behind which not all stand
pub owed-standing : (lines : List (List ℕ)) (line : List ℕ) (after : List (List ℕ)) → (not (is_same_group (last_group lines) (group_of line)) && not (all_stand (ledger_of lines).marks)) ≡ true
    → owed lines (line ∷ after) ≡ Some (record { line = length lines; why = Standing })
owed-standing lines line after lacks = rw lacks refl

-- no such end, and a reason of the line's own
pub owed-own : (lines : List (List ℕ)) (line : List ℕ) (after : List (List ℕ)) (why : CheckWhy) → (not (is_same_group (last_group lines) (group_of line)) && not (all_stand (ledger_of lines).marks)) ≡ false
    → own_reason_at lines line ≡ Some why → owed lines (line ∷ after) ≡ Some (record { line = length lines + 1; why = why })
owed-own lines line after why stands own =
    let first : reason_at lines line after ≡ Some why = reason_at-own lines line after ∙ ap (λ (o : Option CheckWhy). or_standing o (holds Standing lines line after)) own in
    rw stands (ap (λ (o : Option CheckWhy). or_later (length lines + 1) o (against_from (lines ++ line ∷ []) after)) first)

end_step : (lacks : Bool) (number : ℕ) (later : Option Against) → or_later number (if lacks then Some Standing else None) later ≡ (if lacks then Some (record { line = number; why = Standing }) else later)
end_step true number later = refl
end_step false number later = refl

-- no such end, and no reason of the line's own: what is owed of the line too
pub owed-none : (lines : List (List ℕ)) (line : List ℕ) (after : List (List ℕ)) → (not (is_same_group (last_group lines) (group_of line)) && not (all_stand (ledger_of lines).marks)) ≡ false
    → own_reason_at lines line ≡ None → owed lines (line ∷ after) ≡ owed (lines ++ line ∷ []) after
owed-none lines line after stands own =
    let first : reason_at lines line after ≡ or_standing None (holds Standing lines line after) = reason_at-own lines line after ∙ ap (λ (o : Option CheckWhy). or_standing o (holds Standing lines line after)) own in
    let counted : length lines + 1 ≡ length (lines ++ line ∷ []) = omega (arith, length-append lines (line ∷ [])) in
    rw stands
    (ap (λ (o : Option CheckWhy). or_later (length lines + 1) o (against_from (lines ++ line ∷ []) after)) first
    ∙ end_step (holds Standing lines line after) (length lines + 1) (against_from (lines ++ line ∷ []) after)
    ∙ ap (λ (n : ℕ). if holds Standing lines line after then Some (record { line = n; why = Standing }) else against_from (lines ++ line ∷ []) after) counted
    ∙ ap (λ (g : Option Group). if ends_before g after && not (all_stand (ledger_of (lines ++ line ∷ [])).marks) then Some (record { line = length (lines ++ line ∷ []); why = Standing }) else against_from (lines ++ line ∷ []) after) (sym (last_group-push lines line)))

-- BEHIND THE LAST LINE
pub end_lacks : (lines : List (List ℕ)) → all_stand (ledger_of lines).marks ≡ false → owed lines [] ≡ Some (record { line = length lines; why = Standing })
end_lacks lines stand = rw stand refl

pub end_stands : (lines : List (List ℕ)) → all_stand (ledger_of lines).marks ≡ true → owed lines [] ≡ None
end_stands lines stand = rw stand refl

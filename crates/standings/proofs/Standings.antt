-- The standing that is found is the one that the marks give.
use Rattle.std.proofs.Common.{◌≡◌, ◌≢◌, refl, sym, ◌∙◌, ap, subst, arith, ℕ, ◌+◌, ◌-◌, Bool, true, false, List, [], ◌∷◌, Option, Some, None, IfSome, if◌then◌else◌, eqb-true, eq-eqb}
use Rattle.std.proofs.lemmas.Option.{same_Some, none-some}
use Rattle.std.specs.List.{list_all, list_any}
use Rattle.std.proofs.lemmas.Bool.{and_parts}
use Rattle.standings.specs.declared.mark.Mark.{Mark}
use Rattle.standings.specs.declared.mark.Mark.TheVariants.{Kept, Outlet, Intake}
use Rattle.standings.specs.declared.standing.Standing.{Standing}
use Rattle.standings.specs.declared.standing.Standing.TheVariants.{With, Between}
use Rattle.standings.specs.Standing.{HasStanding, gap_named, is_among, is_handed_at, is_kept_by, kept_alone, standing_by, standing_of}

-- where all marks are of the gap that the first one in a gap names, that one is handed there
named_handed : (gap : ℕ) (marks : List Mark) → gap_named marks ≡ Some gap → list_all (is_among gap) marks ≡ true → list_any (is_handed_at gap) marks ≡ true
named_handed gap [] named among = absurd (none-some gap named)
named_handed gap (Kept machine ∷ marks) named among = named_handed gap marks named (and_parts (is_among gap (Kept machine)) (list_all (is_among gap) marks) among).1
named_handed gap (Outlet machine ∷ marks) named among = rw (eq-eqb machine gap (same_Some machine gap named)) refl
named_handed gap (Intake machine ∷ marks) named among = rw (and_parts (is_among gap (Intake machine)) (list_all (is_among gap) marks) among).0 refl

found_between : (gap : ℕ) (marks : List Mark) (among : Bool) → list_all (is_among gap) marks ≡ among → gap_named marks ≡ Some gap
    → IfSome (if among then Some (Between gap) else None) (HasStanding marks)
found_between gap marks true is named = record { handed = named_handed gap marks named is; among = is }
found_between gap marks false is named = tt

found_with : (machine : ℕ) (marks : List Mark) (alone : Bool) → list_all (is_kept_by machine) marks ≡ alone
    → IfSome (if alone then Some (With machine) else None) (HasStanding (Kept machine ∷ marks))
found_with machine marks true is = record { some = λ none. cc; alone = rw (eq-eqb machine machine refl) is }
found_with machine marks false is = tt

found_alone : (marks : List Mark) → IfSome (kept_alone marks) (HasStanding marks)
found_alone [] = tt
found_alone (Kept machine ∷ marks) = found_with machine marks (list_all (is_kept_by machine) marks) refl
found_alone (Outlet _ ∷ marks) = tt
found_alone (Intake _ ∷ marks) = tt

found_by : (marks : List Mark) (named : Option ℕ) → gap_named marks ≡ named → IfSome (standing_by named marks) (HasStanding marks)
found_by marks None is = found_alone marks
found_by marks (Some gap) is = found_between gap marks (list_all (is_among gap) marks) refl is

-- the standing that is found is given by the marks
pub found : (marks : List Mark) → IfSome (standing_of marks) (HasStanding marks)
found marks = found_by marks (gap_named marks) refl

-- marks of one machine that keeps the board are in no gap
alone_unnamed : (machine : ℕ) (marks : List Mark) → list_all (is_kept_by machine) marks ≡ true → gap_named marks ≡ None
alone_unnamed machine [] alone = refl
alone_unnamed machine (Kept other ∷ marks) alone = alone_unnamed machine marks (and_parts (is_kept_by machine (Kept other)) (list_all (is_kept_by machine) marks) alone).1
alone_unnamed machine (Outlet other ∷ marks) alone = absurd (cc)
alone_unnamed machine (Intake other ∷ marks) alone = absurd (cc)

alone_with : (machine : ℕ) (marks : List Mark) → marks ≢ [] → list_all (is_kept_by machine) marks ≡ true → kept_alone marks ≡ Some (With machine)
alone_with machine [] some alone = absurd (some refl)
alone_with machine (Kept other ∷ marks) some alone =
    let is : other ≡ machine = eqb-true other machine (and_parts (is_kept_by machine (Kept other)) (list_all (is_kept_by machine) marks) alone).0 in
    rw (is, (and_parts (is_kept_by machine (Kept other)) (list_all (is_kept_by machine) marks) alone).1) refl
alone_with machine (Outlet other ∷ marks) some alone = absurd (cc)
alone_with machine (Intake other ∷ marks) some alone = absurd (cc)

-- marks of one gap with one that is handed there name that gap
handed_named : (gap : ℕ) (marks : List Mark) → list_any (is_handed_at gap) marks ≡ true → list_all (is_among gap) marks ≡ true → gap_named marks ≡ Some gap
handed_named gap [] handed among = absurd (cc)
handed_named gap (Kept machine ∷ marks) handed among = handed_named gap marks handed (and_parts (is_among gap (Kept machine)) (list_all (is_among gap) marks) among).1
handed_named gap (Outlet machine ∷ marks) handed among = ap Some (eqb-true machine gap (and_parts (is_among gap (Outlet machine)) (list_all (is_among gap) marks) among).0)
handed_named gap (Intake machine ∷ marks) handed among =
    let is : machine ≡ gap + 1 = eqb-true machine (gap + 1) (and_parts (is_among gap (Intake machine)) (list_all (is_among gap) marks) among).0 in
    let before : machine - 1 ≡ gap = omega arith in
    ap Some before

-- a standing that the marks give is found
pub only : (marks : List Mark) (standing : Standing) → HasStanding marks standing → standing_of marks ≡ Some standing
only marks (With machine) w = rw (alone_unnamed machine marks w.alone) (alone_with machine marks w.some w.alone)
only marks (Between gap) w = rw (handed_named gap marks w.handed w.among, w.among) refl

-- marks give one standing at most
pub one_standing : (marks : List Mark) (one other : Standing) → HasStanding marks one → HasStanding marks other → one ≡ other
one_standing marks one other first second = same_Some one other (sym (only marks one first) ∙ only marks other second)

pub answers_found : (marks : List Mark) (answer : Option Standing) → answer ≡ standing_of marks → IfSome answer (HasStanding marks)
answers_found marks answer is = let P : Option Standing → Type 0 = λ (a : Option Standing). IfSome a (HasStanding marks) in subst P (sym is) (found marks)

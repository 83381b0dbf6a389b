-- The marks of an id along a line are those of the machines that have it, by their numbers.
use Rattle.std.proofs.Common.{Bool, List, None, Option, Some, [], ap, arith, eq-eqb, eqb-true, false, inl, inr, map, refl, subst, suc, sym, true, zero, ℕ, ◌++◌, ◌+◌, ◌==◌, ◌||◌, ◌∙◌, ◌∷◌, ◌≡◌, ◌≢◌, ◌⊎◌}
use Rattle.std.specs.Prelude.{slice_index_or}
use Rattle.std.specs.List.{list_all, list_any}
use Rattle.std.proofs.lemmas.Option.{none-some}
use Rattle.std.proofs.lemmas.Bool.{or_right}
use Rattle.board_record.specs.declared.record.Record.{Record}
use Rattle.handover_out.specs.State.{board_of_phase as held_out}
use Rattle.handover_in.specs.State.{board_of_phase as held_in}
use Rattle.standings.specs.Marks.{Owned, Where, has_at, has_id, has_mark, intake, is_held, is_same_mark, kept, mark_at, mark_if, marks_at, marks_from, outlet, owned_at}
use Rattle.standings.specs.declared.mark.Mark.{Mark}
use Rattle.standings.specs.declared.mark.Mark.TheVariants as marks
use Rattle.standings.proofs.Entries.{same_mark_is}
use Rattle.standings.proofs.Machines.{marks_are_found}
use Rattle.node_core.specs.Node.{NodeState}
use Rattle.node_core.specs.Own.{id_of, ids_of}
use Rattle.law_custody.specs.Contents.{Kept, kept_first, kept_later}
use Rattle.line_step.specs.Numbered.{no_node, node_at}
use Rattle.line_step.specs.State.{LineState, marks_in, owned_by}
use Rattle.law_one_standing.specs.Carried.{stand_of}
use Rattle.law_one_standing.specs.Relation.{Stand}

-- a mark is among these
pub data Among : Mark → List Mark → Type 0 where
  among_first : {mark : Mark} {some : List Mark} → Among mark (mark ∷ some)
  among_later : {mark other : Mark} {some : List Mark} → Among mark some → Among mark (other ∷ some)

pub all_pass : (test : Mark → Bool) (some : List Mark) → ((mark : Mark) → Among mark some → test mark ≡ true) → list_all test some ≡ true
all_pass test [] each = refl
all_pass test (mark ∷ some) each = rw (each mark among_first) (all_pass test some (λ other there. each other (among_later there)))

pub any_passes : {mark : Mark} {some : List Mark} (test : Mark → Bool) → Among mark some → test mark ≡ true → list_any test some ≡ true
any_passes test among_first is = rw is refl
any_passes test (among_later {other = other} {some = some} there) is = or_right (test other) (list_any test some) (any_passes test there is)

-- one that passes is among them
pub record Passes (test : Mark → Bool) (some : List Mark) : Type 0 where
  pub mark : Mark
  pub there : Among mark some
  pub passes : test mark ≡ true

passes_later : {test : Mark → Bool} {first : Mark} {some : List Mark} → Passes test some → Passes test (first ∷ some)
passes_later p = record { mark = p.mark; there = among_later p.there; passes = p.passes }

passing_by : (test : Mark → Bool) (first : Mark) (some : List Mark) (b : Bool) → test first ≡ b → (b || list_any test some) ≡ true → (list_any test some ≡ true → Passes test some) → Passes test (first ∷ some)
passing_by test first some true is any later = record { mark = first; there = among_first; passes = is }
passing_by test first some false is any later = passes_later (later any)

pub passing : (test : Mark → Bool) (some : List Mark) → list_any test some ≡ true → Passes test some
passing test [] any = absurd (let h : false ≡ true = any in cc)
passing test (first ∷ some) any = passing_by test first some (test first) refl any (passing test some)

none_passing_by : (test : Mark → Bool) (some : List Mark) (b : Bool) → list_any test some ≡ b → Passes test some ⊎ ((mark : Mark) → Among mark some → test mark ≡ false)
none_passing_by test some true is = inl (passing test some is)
none_passing_by test some false is = inr (λ mark there. fails mark (test mark) refl there) where
  fails : (mark : Mark) (b : Bool) → test mark ≡ b → Among mark some → b ≡ false
  fails mark true passes there = absurd (let h : true ≡ false = sym (any_passes test there passes) ∙ is in cc)
  fails mark false fail there = refl

-- one passes, or none does
pub one_or_none : (test : Mark → Bool) (some : List Mark) → Passes test some ⊎ ((mark : Mark) → Among mark some → test mark ≡ false)
one_or_none test some = none_passing_by test some (list_any test some) refl

pub first_among : (some : List Mark) → some ≢ [] → (mark : Mark) × Among mark some
first_among [] not_none = absurd (not_none refl)
first_among (mark ∷ some) not_none = (mark, among_first)

-- ---- of a list of machines

-- a mark is that of a machine, numbered from this one on, which has the id in a place
data Sits (machine : ℕ) (line : List Owned) (x : ℕ) : Mark → Type 0 where
  sits : (place : Where) (before number : ℕ) → number ≡ machine + before → has_at place (owned_at line before) x ≡ true → Sits machine line x (mark_at place number)

among_either : {mark : Mark} (front back : List Mark) → Among mark (front ++ back) → Among mark front ⊎ Among mark back
among_either [] back there = inr there
among_either (first ∷ front) back among_first = inl among_first
among_either (first ∷ front) back (among_later there) = elim (among_either front back there) [ inl before ↦ inl (among_later before) | inr behind ↦ inr behind ]

among_one : {mark own : Mark} (b : Bool) → Among mark (mark_if b own) → (mark ≡ own) × (b ≡ true)
among_one true among_first = (refl, refl)
among_one true (among_later there) = elim there [ ]
among_one false there = elim there [ ]

sits_here : {mark : Mark} (place : Where) (machine : ℕ) (owned : Owned) (line : List Owned) (x : ℕ) → (mark ≡ mark_at place machine) × (has_at place owned x ≡ true) → Sits machine (owned ∷ line) x mark
sits_here place machine owned line x is = subst (λ (m : Mark). Sits machine (owned ∷ line) x m) (sym is.0) (sits place 0 machine (omega arith) is.1)

sits_first : {mark : Mark} (machine : ℕ) (owned : Owned) (line : List Owned) (x : ℕ) → Among mark (marks_at machine owned x) → Sits machine (owned ∷ line) x mark
sits_first machine owned line x there =
    elim (among_either (mark_if (has_id x owned.kept) (marks.Kept machine)) (mark_if (is_held x owned.held) (marks.Outlet machine) ++ mark_if (is_held x owned.taking) (marks.Intake machine)) there) [
      | inl one ↦ sits_here kept machine owned line x (among_one (has_id x owned.kept) one)
      | inr two ↦ elim (among_either (mark_if (is_held x owned.held) (marks.Outlet machine)) (mark_if (is_held x owned.taking) (marks.Intake machine)) two) [
        | inl one ↦ sits_here outlet machine owned line x (among_one (is_held x owned.held) one)
        | inr one ↦ sits_here intake machine owned line x (among_one (is_held x owned.taking) one)
      ]
    ]

sits_later : {mark : Mark} (machine : ℕ) (owned : Owned) (line : List Owned) (x : ℕ) → Sits (machine + 1) line x mark → Sits machine (owned ∷ line) x mark
sits_later machine owned line x (sits place before number is has) = sits place (suc before) number (omega (arith, is)) has

among_sits : {mark : Mark} (machine : ℕ) (line : List Owned) (x : ℕ) → Among mark (marks_from machine line x) → Sits machine line x mark
among_sits machine [] x there = elim there [ ]
among_sits machine (owned ∷ line) x there =
    elim (among_either (marks_at machine owned x) (marks_from (machine + 1) line x) there) [
      | inl first ↦ sits_first machine owned line x first
      | inr later ↦ sits_later machine owned line x (among_sits (machine + 1) line x later)
    ]

pub has_among : (mark : Mark) (some : List Mark) → has_mark mark some ≡ true → Among mark some
has_among mark some has =
    let found : Passes (λ other. is_same_mark other mark) some = passing (λ other. is_same_mark other mark) some has in
    subst (λ (m : Mark). Among m some) (same_mark_is found.mark mark found.passes) found.there

-- ---- of a line

pub owned_is : (nodes : List NodeState) (place : ℕ) → owned_at (map owned_by nodes) place ≡ owned_by (slice_index_or nodes place no_node)
owned_is [] place = refl
owned_is (node ∷ nodes) zero = refl
owned_is (node ∷ nodes) (suc place) = owned_is nodes place

-- a machine has the id
pub data HasMark (ms : ℕ → Stand) (x : ℕ) : Mark → Type 0 where
  has_kept : {m : ℕ} → Kept x (ms m).body.kept → HasMark ms x (marks.Kept m)
  has_outlet : {m : ℕ} {r : Record} → held_out (ms m).body.outlet.phase ≡ Some r → r.id ≡ x → HasMark ms x (marks.Outlet m)
  has_intake : {m : ℕ} {r : Record} → held_in (ms m).body.intake.phase ≡ Some r → r.id ≡ x → HasMark ms x (marks.Intake m)

kept_by : (x : ℕ) (r : Record) (rs : List Record) (b : Bool) → (r.id == x) ≡ b → (b || has_id x (ids_of rs)) ≡ true → (has_id x (ids_of rs) ≡ true → Kept x rs) → Kept x (r ∷ rs)
kept_by x r rs true is has later = subst (λ (y : ℕ). Kept y (r ∷ rs)) (eqb-true r.id x is) kept_first
kept_by x r rs false is has later = kept_later (later has)

pub id_kept : (x : ℕ) (rs : List Record) → has_id x (ids_of rs) ≡ true → Kept x rs
id_kept x [] has = absurd (let h : false ≡ true = has in cc)
id_kept x (r ∷ rs) has = kept_by x r rs (r.id == x) refl has (id_kept x rs)

pub kept_id : {x : ℕ} {rs : List Record} → Kept x rs → has_id x (ids_of rs) ≡ true
kept_id (kept_first {r = r} {ks = rs}) = rw (eq-eqb r.id r.id refl) refl
kept_id {x = x} (kept_later {r = r} {ks = rs} k) = or_right (r.id == x) (has_id x (ids_of rs)) (kept_id k)

pub id_held : (x : ℕ) (h : Option Record) → is_held x (id_of h) ≡ true → (r : Record) × (h ≡ Some r) × (r.id ≡ x)
id_held x None is = absurd (let h : false ≡ true = is in cc)
id_held x (Some r) is = (r, refl, eqb-true r.id x is)

pub held_id : (x : ℕ) (h : Option Record) (r : Record) → h ≡ Some r → r.id ≡ x → is_held x (id_of h) ≡ true
held_id x h r is same = rw is (eq-eqb r.id x same)

stands_with : (s : LineState) (x : ℕ) (place : Where) (before number : ℕ) → number ≡ 1 + before → has_at place (owned_by (node_at s number)) x ≡ true → HasMark (stand_of s) x (mark_at place number)
stands_with s x kept before number is has = has_kept (id_kept x (node_at s number).lane.body.kept has)
stands_with s x outlet before number is has = let found = id_held x (held_out (node_at s number).lane.body.outlet.phase) has in has_outlet found.1 found.2
stands_with s x intake before number is has = let found = id_held x (held_in (node_at s number).lane.body.intake.phase) has in has_intake found.1 found.2

-- the machine of a mark has the id
pub mark_stands : (s : LineState) (x : ℕ) (mark : Mark) → Among mark (marks_in s x) → HasMark (stand_of s) x mark
mark_stands s x mark there = by (among_sits 1 (map owned_by s.machines) x there) where
  by : {mark : Mark} → Sits 1 (map owned_by s.machines) x mark → HasMark (stand_of s) x mark
  by (sits place before number is has) =
      let at : number ≡ suc before = omega (arith, is) in
      let same : owned_at (map owned_by s.machines) before ≡ owned_by (node_at s number) = owned_is s.machines before ∙ ap (λ (n : ℕ). owned_by (node_at s n)) (sym at) in
      stands_with s x place before number is (ap (λ (o : Owned). has_at place o x) (sym same) ∙ has)

stands_at : (s : LineState) (x : ℕ) (place : Where) (before : ℕ) → has_at place (owned_by (node_at s (suc before))) x ≡ true → Among (mark_at place (suc before)) (marks_in s x)
stands_at s x place before has =
    let next : before + 1 ≡ suc before = omega arith in
    has_among (mark_at place (suc before)) (marks_in s x)
    (ap (λ (n : ℕ). has_mark (mark_at place n) (marks_in s x)) (sym next)
    ∙ marks_are_found place before (map owned_by s.machines) x
    ∙ ap (λ (o : Owned). has_at place o x) (owned_is s.machines before)
    ∙ has)

-- and each that has it has its mark
pub mark_is_there : (s : LineState) {x : ℕ} {mark : Mark} → HasMark (stand_of s) x mark → Among mark (marks_in s x)
mark_is_there s (has_kept {m = zero} k) = elim k [ ]
mark_is_there s (has_outlet {m = zero} {r = r} is same) = absurd (none-some r is)
mark_is_there s (has_intake {m = zero} {r = r} is same) = absurd (none-some r is)
mark_is_there s {x = x} (has_kept {m = suc before} k) = stands_at s x kept before (kept_id k)
mark_is_there s {x = x} (has_outlet {m = suc before} {r = r} is same) = stands_at s x outlet before (held_id x (held_out (node_at s (suc before)).lane.body.outlet.phase) r is same)
mark_is_there s {x = x} (has_intake {m = suc before} {r = r} is same) = stands_at s x intake before (held_id x (held_in (node_at s (suc before)).lane.body.intake.phase) r is same)

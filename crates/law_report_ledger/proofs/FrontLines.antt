-- The lines of a front are the first of the whole; and the number of the last of some lines.
use Rattle.std.proofs.Common.{◌≡◌, ◌∙◌, sym, ap, refl, subst, ℕ, ◌==◌, ◌&&◌, Bool, true, false, List, [], ◌∷◌, ◌++◌, Option, IfSome, Some, None, if◌then◌else◌}
use Rattle.std.proofs.lemmas.Bool.{eq-eqb}
use Rattle.law_report_ledger.specs.Fronts.{are_all, is_same, last_number, told_whole}
use Rattle.law_report_lines.specs.Lines.{AreUnnumbered, ReportLine, line_of, lines_behind}

-- ---- the lines of a front are the first of the whole

pub record HasMore (front whole : List ReportLine) : Type 0 where
  pub more : List ReportLine
  pub is : whole ≡ front ++ more

one_more : (test : Bool) (line : ReportLine) (ended ended' going going' : List ReportLine) → HasMore ended ended' → HasMore going going' → HasMore (if test then line ∷ ended else going) (if test then line ∷ ended' else going')
one_more true line ended ended' going going' one other = record { more = one.more; is = ap (λ (l : List ReportLine). line ∷ l) one.is }
one_more false line ended ended' going going' one other = other

pub lines_front : (front text rest : List ℕ) → HasMore (lines_behind front text) (lines_behind front (text ++ rest))
lines_front front [] rest = record { more = lines_behind front rest; is = refl }
lines_front front (byte ∷ text) rest =
    one_more (byte == 10) (line_of front) (lines_behind [] text) (lines_behind [] (text ++ rest)) (lines_behind (front ++ byte ∷ []) text) (lines_behind (front ++ byte ∷ []) (text ++ rest))
    (lines_front [] text rest) (lines_front (front ++ byte ∷ []) text rest)

-- two lists that are the same in other parts
pub data Split (a b l more : List ReportLine) : Type 0 where
  within : (rest : List ReportLine) → a ≡ l ++ rest → Split a b l more
  beyond : (later : List ReportLine) → l ≡ a ++ later → b ≡ later ++ more → Split a b l more

split_more : (x y : ReportLine) (a b l more : List ReportLine) → x ≡ y → Split a b l more → Split (x ∷ a) b (y ∷ l) more
split_more x y a b l more same (within rest is) = within rest (ap (λ (k : List ReportLine). x ∷ k) is ∙ ap (λ (z : ReportLine). z ∷ (l ++ rest)) same)
split_more x y a b l more same (beyond later is left) = beyond later (ap (λ (z : ReportLine). z ∷ l) (sym same) ∙ ap (λ (k : List ReportLine). x ∷ k) is) left

pub split : (a b l more : List ReportLine) → a ++ b ≡ l ++ more → Split a b l more
split [] b l more is = beyond l refl is
split (x ∷ a) b [] more is = within (x ∷ a) refl
split (x ∷ a) b (y ∷ l) more is =
    let same : x ≡ y = cc in
    let rest : a ++ b ≡ l ++ more = cc in
    split_more x y a b l more same (split a b l more rest)

-- ---- lines of one number alone

pub same_self : (number : ℕ) → is_same (Some number) (Some number) ≡ true
same_self number = eq-eqb number number refl

-- and of none
all_none : (l more tail : List ReportLine) → AreUnnumbered tail → tail ≡ l ++ more → are_all None l ≡ true
all_none [] more tail none is = refl
all_none (line ∷ l) more [] none is = absurd cc
all_none (line ∷ l) more (last ∷ tail) none is =
    let first : last ≡ line = cc in
    let later : tail ≡ l ++ more = cc in
    ap (λ (n : Option ℕ). is_same None n && are_all None l) (ap (λ (x : ReportLine). x.number) (sym first) ∙ none.0) ∙ all_none l more tail none.1 later

pub none_left : (l more tail : List ReportLine) → AreUnnumbered tail → tail ≡ l ++ more → told_whole l ≡ []
none_left [] more tail none is = refl
none_left (line ∷ l) more [] none is = absurd cc
none_left (line ∷ l) more (last ∷ tail) none is =
    let first : last ≡ line = cc in
    let later : tail ≡ l ++ more = cc in
    ap (λ (b : Bool). if b then [] else line ∷ told_whole l)
    (ap (λ (n : Option ℕ). are_all n l) (ap (λ (x : ReportLine). x.number) (sym first) ∙ none.0) ∙ all_none l more tail none.1 later)

-- ---- a line of another number behind them

pub tail_other : (number : ℕ) (tail : List ReportLine) (line : ReportLine) (rest : List ReportLine) → AreUnnumbered tail → tail ≡ line ∷ rest → is_same (Some number) line.number ≡ false
tail_other number [] line rest none is = absurd cc
tail_other number (last ∷ tail) line rest none is =
    let first : last ≡ line = cc in ap (is_same (Some number)) (ap (λ (x : ReportLine). x.number) (sym first) ∙ none.0)

-- ---- the last number

pub tail_last : (number : ℕ) (l more tail : List ReportLine) → AreUnnumbered tail → tail ≡ l ++ more → IfSome (last_number l) (λ n. n ≡ number)
tail_last number [] more tail none is = tt
tail_last number (line ∷ l) more [] none is = absurd cc
tail_last number (line ∷ []) more (last ∷ tail) none is =
    let first : last ≡ line = cc in
    subst (λ (n : Option ℕ). IfSome n (λ n. n ≡ number)) (sym none.0 ∙ ap (λ (x : ReportLine). x.number) first) tt
tail_last number (line ∷ next ∷ l) more (last ∷ tail) none is =
    let later : tail ≡ next ∷ (l ++ more) = cc in
    tail_last number (next ∷ l) more tail none.1 later

pub last_behind : (a : List ReportLine) (line : ReportLine) (l : List ReportLine) → last_number (a ++ line ∷ l) ≡ last_number (line ∷ l)
last_behind [] line l = refl
last_behind (one ∷ []) line l = refl
last_behind (one ∷ other ∷ a) line l = last_behind (other ∷ a) line l

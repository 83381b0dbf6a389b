-- An index that follows a line of machines, one id after the other.
use Rattle.std.proofs.Common.{◌≡◌, ◌∙◌, ◌+◌, ◌<◌, ◌≤◌, ◌++◌, ◌==◌, ◌||◌, ℕ, Bool, true, false, List, [], ◌∷◌, Option, length, drop, get_or, refl, sym, ap, subst, append_assoc, append-nil, eqb-true, eq-eqb}
use Rattle.std.specs.Prelude.{nat_eq, if◌then◌else◌}
use Rattle.std.proofs.lemmas.List.{drop_more, drop_all}
use Rattle.standings.specs.Marks.{Owned, has_id, marks_of}
use Rattle.standings.specs.declared.mark.Mark.{Mark}
use Rattle.line_report.specs.declared.happening.LaneHappening.{LaneHappening}
use Rattle.line_step.specs.Shown.{ascending}
use Rattle.line_step.proofs.Ascending.{choose_false, choose_true}
use Rattle.line_marks.specs.Indexed.{Entries, Follows, IsIndexOf, entry_at, indexed, marks_in_entry, marks_listed, patched}
use Rattle.line_marks.specs.Stepped.{told_each}
use Rattle.line_marks.proofs.Rising.{IsRising, ascending_rises, has_ascending, not_again}

-- what an index has of an id whose marks these are
pub listed_is : (marks : List Mark) → marks_in_entry (indexed marks) ≡ marks
listed_is [] = refl
listed_is (mark ∷ marks) = refl

-- so far all ids but these are followed
pub record IsFollowing (first last : ℕ) (before now : List Owned) (tell : ℕ → List Mark → List Mark → List LaneHappening) (all rest : List ℕ) (old new : Entries) (told_old told_new : List LaneHappening) : Type 0 where
  pub rising : IsRising rest
  pub patches : (id : ℕ) → has_id id rest ≡ true → marks_of now id ≡ patched first last now (marks_of before id) id
  pub told : told_new ++ told_each tell rest before now ≡ told_old ++ told_each tell all before now
  pub entries : (id : ℕ) → entry_at new id ≡ indexed (if has_id id rest then marks_of before id else marks_of now id)

begin_entry : (test : Bool) (before now : List Mark) → (test ≡ false → before ≡ now) → indexed before ≡ indexed (if test then before else now)
begin_entry true before now others = refl
begin_entry false before now others = ap indexed (others refl)

pub begins : (first last : ℕ) (before now : List Owned) (tell : ℕ → List Mark → List Mark → List LaneHappening) (ids : List ℕ) (old : Entries) (told : List LaneHappening) → IsIndexOf old before → Follows first last ids before now
    → IsFollowing first last before now tell (ascending ids) (ascending ids) old old told told
begins first last before now tell ids old told index follows = record {
  rising = ascending_rises ids;
  patches = λ id has. follows.named id (sym (has_ascending id ids) ∙ has);
  told = refl;
  entries = λ id. index.at id ∙ begin_entry (has_id id (ascending ids)) (marks_of before id) (marks_of now id) (λ none. follows.others id (sym (has_ascending id ids) ∙ none));
}

pub ends : (first last : ℕ) (before now : List Owned) (tell : ℕ → List Mark → List Mark → List LaneHappening) (all : List ℕ) (old new : Entries) (told_old told_new : List LaneHappening) → IsFollowing first last before now tell all [] old new told_old told_new
    → told_new ≡ told_old ++ told_each tell all before now
ends first last before now tell all old new told_old told_new f = sym (append-nil told_new) ∙ f.told

pub ends_index : (first last : ℕ) (before now : List Owned) (tell : ℕ → List Mark → List Mark → List LaneHappening) (all : List ℕ) (old new : Entries) (told_old told_new : List LaneHappening) → IsFollowing first last before now tell all [] old new told_old told_new
    → IsIndexOf new now
ends_index first last before now tell all old new told_old told_new f = record { at = f.entries }

-- one id more

-- what is done for an id: its marks are patched, it is told of, and the index has them
pub record IsFollowed (first last id : ℕ) (now : List Owned) (tell : ℕ → List Mark → List Mark → List LaneHappening) (old new : Entries) (told_old told_new : List LaneHappening) : Type 0 where
  pub told : told_new ≡ told_old ++ tell id (marks_listed old id) (patched first last now (marks_listed old id) id)
  pub entries : (other : ℕ) → entry_at new other ≡ (if nat_eq id other then indexed (patched first last now (marks_listed old id) id) else entry_at old other)

marks_had : (first last : ℕ) (before now : List Owned) (tell : ℕ → List Mark → List Mark → List LaneHappening) (all : List ℕ) (id : ℕ) (rest : List ℕ) (old new : Entries) (told_old told_new : List LaneHappening) → IsFollowing first last before now tell all (id ∷ rest) old new told_old told_new
    → marks_listed new id ≡ marks_of before id
marks_had first last before now tell all id rest old new told_old told_new f =
    ap marks_in_entry (f.entries id) ∙ listed_is _ ∙ choose_true (has_id id (id ∷ rest)) (marks_of before id) (marks_of now id) (has_first id rest)
  where
    has_first : (id : ℕ) (rest : List ℕ) → has_id id (id ∷ rest) ≡ true
    has_first id rest = ap (λ (test : Bool). test || has_id id rest) (eq-eqb id id refl)

marks_now : (first last : ℕ) (before now : List Owned) (tell : ℕ → List Mark → List Mark → List LaneHappening) (all : List ℕ) (id : ℕ) (rest : List ℕ) (old new : Entries) (told_old told_new : List LaneHappening) → IsFollowing first last before now tell all (id ∷ rest) old new told_old told_new
    → patched first last now (marks_listed new id) id ≡ marks_of now id
marks_now first last before now tell all id rest old new told_old told_new f =
    ap (λ (marks : List Mark). patched first last now marks id) (marks_had first last before now tell all id rest old new told_old told_new f) ∙ sym (f.patches id (ap (λ (test : Bool). test || has_id id rest) (eq-eqb id id refl)))

next_entry : (id other : ℕ) (rest : List ℕ) (test : Bool) (old new : Option (List Mark)) (patch before now : List Mark) → (id == other) ≡ test → has_id id rest ≡ false
    → new ≡ (if id == other then indexed patch else old) → old ≡ indexed (if (id == other) || has_id other rest then before else now) → (other ≡ id → patch ≡ now) → new ≡ indexed (if has_id other rest then before else now)
next_entry id other rest true old new patch before now is none new_is old_is patch_is =
    let same : other ≡ id = sym (eqb-true id other is) in
    new_is ∙ choose_true (id == other) (indexed patch) old is ∙ ap indexed (patch_is same)
    ∙ ap indexed (sym (choose_false (has_id other rest) before now (ap (λ n. has_id n rest) same ∙ none)))
next_entry id other rest false old new patch before now is none new_is old_is patch_is =
    new_is ∙ choose_false (id == other) (indexed patch) old is ∙ old_is ∙ ap (λ (test : Bool). indexed (if test || has_id other rest then before else now)) is

pub goes_on : (first last : ℕ) (before now : List Owned) (tell : ℕ → List Mark → List Mark → List LaneHappening) (all : List ℕ) (id : ℕ) (rest : List ℕ) (old new newer : Entries) (told_old told_new told_newer : List LaneHappening)
    → IsFollowing first last before now tell all (id ∷ rest) old new told_old told_new → IsFollowed first last id now tell new newer told_new told_newer → IsFollowing first last before now tell all rest old newer told_old told_newer
goes_on first last before now tell all id rest old new newer told_old told_new told_newer f one =
    let had = marks_had first last before now tell all id rest old new told_old told_new f in
    let are = marks_now first last before now tell all id rest old new told_old told_new f in
    record {
      rising = f.rising.1;
      patches = λ other has. f.patches other (or_true (id == other) (has_id other rest) has);
      told = ap (λ (what : List LaneHappening). what ++ told_each tell rest before now) one.told
          ∙ append_assoc told_new (tell id (marks_listed new id) (patched first last now (marks_listed new id) id)) (told_each tell rest before now)
          ∙ ap (λ (marks : List Mark). told_new ++ (tell id marks (patched first last now (marks_listed new id) id) ++ told_each tell rest before now)) had
          ∙ ap (λ (marks : List Mark). told_new ++ (tell id (marks_of before id) marks ++ told_each tell rest before now)) are
          ∙ f.told;
      entries = λ other. next_entry id other rest (id == other) (entry_at new other) (entry_at newer other) (patched first last now (marks_listed new id) id) (marks_of before other) (marks_of now other) refl (not_again id rest f.rising)
          (one.entries other) (f.entries other) (λ same. are ∙ ap (marks_of now) (sym same));
    }
  where
    or_true : (a b : Bool) → b ≡ true → (a || b) ≡ true
    or_true true b is = refl
    or_true false b is = is

-- ---- the loop over all ids

pub begins_at : (first last : ℕ) (before now : List Owned) (tell : ℕ → List Mark → List Mark → List LaneHappening) (ids all : List ℕ) (old : Entries) (told : List LaneHappening) → all ≡ ascending ids → IsIndexOf old before → Follows first last ids before now
    → IsFollowing first last before now tell all all old old told told
begins_at first last before now tell ids all old told are index follows =
    subst (λ (every : List ℕ). IsFollowing first last before now tell every every old old told told) (sym are) (begins first last before now tell ids old told index follows)

pub goes_on_at : (first last : ℕ) (before now : List Owned) (tell : ℕ → List Mark → List Mark → List LaneHappening) (all : List ℕ) (place id : ℕ) (old new newer : Entries) (told_old told_new told_newer : List LaneHappening) → place < length all → id ≡ get_or all place id
    → IsFollowing first last before now tell all (drop place all) old new told_old told_new → IsFollowed first last id now tell new newer told_new told_newer → IsFollowing first last before now tell all (drop (place + 1) all) old newer told_old told_newer
goes_on_at first last before now tell all place id old new newer told_old told_new told_newer within is f one =
    goes_on first last before now tell all id (drop (place + 1) all) old new newer told_old told_new told_newer
    (subst (λ (rest : List ℕ). IsFollowing first last before now tell all rest old new told_old told_new) (drop_more all place id within ∙ ap (λ (x : ℕ). x ∷ drop (place + 1) all) (sym is)) f)
    one

pub at_end : (first last : ℕ) (before now : List Owned) (tell : ℕ → List Mark → List Mark → List LaneHappening) (all : List ℕ) (place : ℕ) (old new : Entries) (told_old told_new : List LaneHappening) → length all ≤ place
    → IsFollowing first last before now tell all (drop place all) old new told_old told_new → IsFollowing first last before now tell all [] old new told_old told_new
at_end first last before now tell all place old new told_old told_new h f = subst (λ (rest : List ℕ). IsFollowing first last before now tell all rest old new told_old told_new) (drop_all place all h) f

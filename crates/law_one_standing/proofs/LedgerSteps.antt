-- The deeds of a machine's step are legal in a ledger that has its marks, and leave it with those behind the step.
use Rattle.std.proofs.Common.{Bool, List, None, Option, Some, [], ap, append-nil, append_assoc, eq-eqb, eqb-true, false, not, refl, subst, sym, true, ℕ, ◌&&◌, ◌++◌, ◌+◌, ◌-◌, ◌==◌, ◌||◌, ◌∙◌, ◌∷◌, ◌≡◌, ◌≢◌}
use Rattle.std.proofs.lemmas.Bool.{or_left, or_parts, or_right, and_parts}
use Rattle.std.proofs.lemmas.List.Folds.{list_any-append}
use Rattle.line_step.proofs.Unnamed.{apart_ids}
use Rattle.node_core.specs.Own.{Own, one_of}
use Rattle.node_core.specs.declared.act.Act.{Act}
use Rattle.node_core.specs.declared.supervising.Watch.{Watch}
use Rattle.node_core.specs.Desk.{Desk}
use Rattle.node_core.specs.Supervising.{with_tells}
use Rattle.node_core.proofs.Telling.{tells_pass}
use Rattle.node_core.specs.declared.act.Act.TheVariants as acts
use Rattle.node_core.specs.declared.act.Deed.{Deed as OwnDeed}
use Rattle.node_core.specs.declared.act.Deed.TheVariants as own_deeds
use Rattle.standings.specs.Ledger.{Ledger, are_different, has_entry, ledger_after_all}
use Rattle.standings.specs.Marks.{Where, has_at, has_id, intake, kept, outlet}
use Rattle.standings.specs.declared.deed.Deed.{Deed}
use Rattle.standings.specs.declared.deed.Deed.TheVariants as deeds
use Rattle.standings.specs.declared.mark.Mark.TheVariants.{Intake, Kept}
use Rattle.standings.proofs.Ids.{marks_are_seen}
use Rattle.law_one_standing.specs.Replay.{deeds_at, deeds_at_side}
use Rattle.law_one_standing.proofs.LedgerTurns.{Fits, Follows, different_first, different_rest, entry_at, follows_both, follows_none, follows_one, owned, spot, turns_drops, turns_inserts, turns_leaves, turns_opens, turns_removes, turns_replaces, turns_returns, turns_settles, turns_starts}
use Rattle.law_one_standing.proofs.LedgerWalk.{Announces, Did, Hand, Walk, are_silent, did, hand_gets, hand_gives, hand_inserts, hand_removes, hand_replaces, hand_walks, is_refusal, is_silent, own_parts, says_last, says_more, says_start, walk_drops, walk_end, walk_leaves, walk_loses, walk_on, walk_opens, walk_returns, walk_settles}

-- the deeds of a machine's acts
abbrev pub deeds_by : ℕ → List Act → List Deed
deeds_by machine [] = []
deeds_by machine (act ∷ others) = deeds_at machine act ++ deeds_by machine others

no_deed_by : (machine : ℕ) (deed : OwnDeed) → is_refusal deed ≡ true → deeds_at_side machine deed ≡ []
no_deed_by machine (own_deeds.Refuses id) is = refl
no_deed_by machine (own_deeds.Opens id) is = absurd (let h : false ≡ true = is in cc)
no_deed_by machine (own_deeds.Leaves id) is = absurd (let h : false ≡ true = is in cc)
no_deed_by machine (own_deeds.Returns id) is = absurd (let h : false ≡ true = is in cc)
no_deed_by machine (own_deeds.Loses id) is = absurd (let h : false ≡ true = is in cc)
no_deed_by machine (own_deeds.Starts id) is = absurd (let h : false ≡ true = is in cc)
no_deed_by machine (own_deeds.Settles id) is = absurd (let h : false ≡ true = is in cc)
no_deed_by machine (own_deeds.Drops id) is = absurd (let h : false ≡ true = is in cc)

no_deed : (machine : ℕ) (act : Act) → is_silent act ≡ true → deeds_at machine act ≡ []
no_deed machine (acts.Deed deed) is = no_deed_by machine deed is
no_deed machine (acts.Inserts id) is = absurd (let h : false ≡ true = is in cc)
no_deed machine (acts.Removes id) is = absurd (let h : false ≡ true = is in cc)
no_deed machine (acts.Replaces old new) is = absurd (let h : false ≡ true = is in cc)
no_deed machine (acts.Gives id to) is = absurd (let h : false ≡ true = is in cc)
no_deed machine (acts.Gets id) is = absurd (let h : false ≡ true = is in cc)
no_deed machine _ is = refl

no_deeds : (machine : ℕ) (told others : List Act) → are_silent told ≡ true → deeds_by machine (told ++ others) ≡ deeds_by machine others
no_deeds machine [] others silent = refl
no_deeds machine (act ∷ told) others silent =
    ap (λ (ds : List Deed). ds ++ deeds_by machine (told ++ others)) (no_deed machine act (and_parts (is_silent act) (are_silent told) silent).0) ∙ no_deeds machine told others (and_parts (is_silent act) (are_silent told) silent).1

none_silent : (machine : ℕ) (told : List Act) → are_silent told ≡ true → deeds_by machine told ≡ []
none_silent machine told silent = ap (λ (l : List Act). deeds_by machine l) (sym (append-nil told)) ∙ no_deeds machine told [] silent

deeds_append : (machine : ℕ) (a b : List Act) → deeds_by machine (a ++ b) ≡ deeds_by machine a ++ deeds_by machine b
deeds_append machine [] b = refl
deeds_append machine (act ∷ a) b = ap (λ (ds : List Deed). deeds_at machine act ++ ds) (deeds_append machine a b) ∙ sym (append_assoc (deeds_at machine act) (deeds_by machine a) (deeds_by machine b))

-- what the supervisor is told is no deed
pub tells_deeds : (machine : ℕ) (desk : Desk) (watch : Watch) (made : List Act)
    → deeds_by machine (with_tells desk watch made) ≡ deeds_by machine made
tells_deeds machine desk watch made =
    tells_pass (deeds_by machine)
    (λ act told plain same. ap (λ (rest : List Deed). deeds_at machine act ++ rest) same)
    (λ message told. refl) desk watch made

-- and acts that move no record, behind others, are none
pub silent_behind : (machine : ℕ) (made more : List Act) → are_silent more ≡ true
    → deeds_by machine (made ++ more) ≡ deeds_by machine made
silent_behind machine made more silent =
    deeds_append machine made more
    ∙ ap (λ (rest : List Deed). deeds_by machine made ++ rest) (none_silent machine more silent)
    ∙ append-nil (deeds_by machine made)

-- ---- all ids of a machine, which differ

abbrev pub all_of : Own → List ℕ
all_of own = one_of own.held ++ (own.kept ++ one_of own.taking)

pub both_not : (a b : Bool) → a ≡ false → b ≡ true → (not a && b) ≡ true
both_not false b one two = two
both_not true b one two = absurd (let h : true ≡ false = one in cc)

different_behind : (xs ys : List ℕ) → are_different (xs ++ ys) ≡ true → are_different ys ≡ true
different_behind [] ys is = is
different_behind (x ∷ xs) ys is = different_behind xs ys (different_rest x (xs ++ ys) is)

pub different_front : (xs ys : List ℕ) → are_different (xs ++ ys) ≡ true → are_different xs ≡ true
different_front [] ys is = refl
different_front (x ∷ xs) ys is = both_not (has_id x xs) (are_different xs) (apart_ids x xs ys (different_first x (xs ++ ys) is)).0 (different_front xs ys (different_rest x (xs ++ ys) is))

apart_by : (x y : ℕ) (ys : List ℕ) (b : Bool) → (y == x) ≡ b → has_id y (ys ++ x ∷ []) ≡ false → b ≡ false
apart_by x y ys false is none = refl
apart_by x y ys true is none =
    let one : (x == y) ≡ false = (or_parts (x == y) false (apart_ids y ys (x ∷ []) none).1).0 in
    let h : true ≡ false = sym (same_test x y (eqb-true y x is)) ∙ one in
    absurd (cc) where
      same_test : (a b : ℕ) → b ≡ a → (a == b) ≡ true
      same_test a b same = eq-eqb a b (sym same)

-- the last one is none of those before
last_none : (x : ℕ) (ys : List ℕ) → are_different (ys ++ x ∷ []) ≡ true → has_id x ys ≡ false
last_none x [] is = refl
last_none x (y ∷ ys) is = rw (apart_by x y ys (y == x) refl (different_first y (ys ++ x ∷ []) is)) (last_none x ys (different_rest y (ys ++ x ∷ []) is))

pub settled_ids : (held : Option ℕ) (ids : List ℕ) (id : ℕ) → one_of held ++ (ids ++ id ∷ []) ≡ one_of held ++ ((ids ++ id ∷ []) ++ [])
settled_ids held ids id = ap (λ (l : List ℕ). one_of held ++ l) (sym (append-nil (ids ++ id ∷ [])))

pub dropped_ids : (held : Option ℕ) (ids : List ℕ) (id : ℕ) → are_different (one_of held ++ (ids ++ id ∷ [])) ≡ true → are_different (one_of held ++ (ids ++ [])) ≡ true
dropped_ids held ids id is =
    ap (λ (l : List ℕ). are_different (one_of held ++ l)) (append-nil ids)
    ∙ different_front (one_of held ++ ids) (id ∷ []) (ap are_different (append_assoc (one_of held) ids (id ∷ [])) ∙ is)

pub kept_different : (own : Own) → are_different (all_of own) ≡ true → are_different own.kept ≡ true
kept_different own is = different_front own.kept (one_of own.taking) (different_behind (one_of own.held) (own.kept ++ one_of own.taking) is)

-- ---- what a machine has is old

pub old_there : {Old : ℕ → Type 0} {machine : ℕ} {own : Own} {others : Where → ℕ → ℕ → Bool} (ledger : Ledger) → Fits Old machine own others ledger → (place : Where) (x : ℕ) → has_at place (owned own) x ≡ true → Old x
old_there {machine = machine} ledger fits place x has =
    let P : Ledger → Type 0 = λ l. has_id x l.seen ≡ true in
    let Q : Ledger → Type 0 = λ l. has_entry (entry_at machine place x) l.marks ≡ true in
    fits.olds x (subst P (sym fits.is) (marks_are_seen fits.past (entry_at machine place x) (subst Q fits.is (fits.here place x ∙ has))))

one_named : (Old : ℕ → Type 0) (id : ℕ) → Old id → (x : ℕ) → has_id x (id ∷ []) ≡ true → Old x
one_named Old id old x has = named_by (id == x) refl has where
  named_by : (b : Bool) → (id == x) ≡ b → (b || false) ≡ true → Old x
  named_by true is has = subst Old (eqb-true id x is) old
  named_by false is has = absurd (let h : false ≡ true = has in cc)

two_named : (Old : ℕ → Type 0) (old new : ℕ) → Old old → Old new → (x : ℕ) → has_id x (old ∷ new ∷ []) ≡ true → Old x
two_named Old old new one two x has = named_by (old == x) refl has where
  named_by : (b : Bool) → (old == x) ≡ b → (b || has_id x (new ∷ [])) ≡ true → Old x
  named_by true is has = subst Old (eqb-true old x is) one
  named_by false is has = one_named Old new two x has

-- ---- a walk

-- one deed and then others
record Goes (Old : ℕ → Type 0) (machine : ℕ) (end : Own) (others : Where → ℕ → ℕ → Bool) (ledger : Ledger) (told : List Deed) : Type 0 where
  follows : Follows Old machine end others ledger told
  different : are_different (all_of end) ≡ true

goes_on : {Old : ℕ → Type 0} {machine : ℕ} {own end : Own} {others : Where → ℕ → ℕ → Bool} (ledger : Ledger) (deed : Deed) (told : List Deed) → Follows Old machine own others ledger (deed ∷ [])
    → ((l : Ledger) → Fits Old machine own others l → Goes Old machine end others l told) → Goes Old machine end others ledger (deed ∷ told)
goes_on ledger deed told one next =
    let later = next (ledger_after_all ledger (deed ∷ [])) one.fits in
    record { follows = follows_both ledger (deed ∷ []) told one later.follows; different = later.different }

-- at its entry a machine is behind the gap of the number before
entry_gap : (machine id : ℕ) → machine - 1 + 1 ≡ machine → Some (record { id = id; mark = Intake (machine - 1 + 1) }) ≡ Some (entry_at machine intake id)
entry_gap machine id is = ap (λ (n : ℕ). Some (entry_at n intake id)) is

kept_gap : (machine id : ℕ) → machine - 1 + 1 ≡ machine → Some (record { id = id; mark = Kept (machine - 1 + 1) }) ≡ Some (entry_at machine kept id)
kept_gap machine id is = ap (λ (n : ℕ). Some (entry_at n kept id)) is

walk_goes : {Old : ℕ → Type 0} {machine : ℕ} {own end : Own} {told : List Act} {others : Where → ℕ → ℕ → Bool} → machine - 1 + 1 ≡ machine → Walk own told end → are_different (all_of own) ≡ true → (ledger : Ledger) → Fits Old machine own others ledger
    → Goes Old machine end others ledger (deeds_by machine told)
walk_goes at walk_end different ledger fits = record { follows = follows_none fits; different = different }
walk_goes {Old} {machine} {end = end} {others = others} at (walk_on {act = act} {others = more} silent walk) different ledger fits =
    let later = walk_goes at walk different ledger fits in
    subst (λ (ds : List Deed). Goes Old machine end others ledger (ds ++ deeds_by machine more)) (sym (no_deed machine act silent)) later
walk_goes {Old} {machine} at (walk_opens {id = id} {ids = ids} {taking = taking} {others = more} walk) different ledger fits =
    let turns = turns_opens id ids taking (apart_ids id ids (one_of taking) (different_first id (ids ++ one_of taking) different)).0 in
    goes_on ledger (deeds.Opens machine id) (deeds_by machine more)
    (follows_one (spot kept id) (spot outlet id) ledger (deeds.Opens machine id) turns refl refl refl (one_named Old id (old_there ledger fits kept id turns.found)) fits)
    (λ l f. walk_goes at walk different l f)
walk_goes {Old} {machine} at (walk_returns {id = id} {ids = ids} {taking = taking} {others = more} walk) different ledger fits =
    let turns = turns_returns id ids taking (apart_ids id ids (one_of taking) (different_first id (ids ++ one_of taking) different)).0 in
    goes_on ledger (deeds.Returns machine id) (deeds_by machine more)
    (follows_one (spot outlet id) (spot kept id) ledger (deeds.Returns machine id) turns refl refl refl (one_named Old id (old_there ledger fits outlet id turns.found)) fits)
    (λ l f. walk_goes at walk different l f)
walk_goes {Old} {machine} at (walk_leaves {id = id} {ids = ids} {taking = taking} {others = more} walk) different ledger fits =
    let turns = turns_leaves id ids taking in
    goes_on ledger (deeds.Leaves machine id) (deeds_by machine more)
    (follows_one (spot outlet id) None ledger (deeds.Leaves machine id) turns refl refl refl (one_named Old id (old_there ledger fits outlet id turns.found)) fits)
    (λ l f. walk_goes at walk (different_rest id (ids ++ one_of taking) different) l f)
walk_goes {Old} {machine} at (walk_loses {id = id} {ids = ids} {taking = taking} {others = more} walk) different ledger fits =
    let turns = turns_leaves id ids taking in
    goes_on ledger (deeds.Loses machine id) (deeds_by machine more)
    (follows_one (spot outlet id) None ledger (deeds.Loses machine id) turns refl refl refl (one_named Old id (old_there ledger fits outlet id turns.found)) fits)
    (λ l f. walk_goes at walk (different_rest id (ids ++ one_of taking) different) l f)
walk_goes {Old} {machine} at (walk_settles {id = id} {ids = ids} {held = held} {others = more} walk) different ledger fits =
    let turns = turns_settles id ids held (last_none id ids (different_behind (one_of held) (ids ++ id ∷ []) different)) in
    goes_on ledger (deeds.Settles (machine - 1) id) (deeds_by machine more)
    (follows_one (spot intake id) (spot kept id) ledger (deeds.Settles (machine - 1) id) turns (entry_gap machine id at) (kept_gap machine id at) refl (one_named Old id (old_there ledger fits intake id turns.found)) fits)
    (λ l f. walk_goes at walk (ap are_different (sym (settled_ids held ids id)) ∙ different) l f)
walk_goes {Old} {machine} at (walk_drops {id = id} {ids = ids} {held = held} {others = more} walk) different ledger fits =
    let turns = turns_drops id ids held in
    goes_on ledger (deeds.Drops (machine - 1) id) (deeds_by machine more)
    (follows_one (spot intake id) None ledger (deeds.Drops (machine - 1) id) turns (entry_gap machine id at) refl refl (one_named Old id (old_there ledger fits intake id turns.found)) fits)
    (λ l f. walk_goes at walk (dropped_ids held ids id different) l f)

-- ---- by hand

-- an id that is none of the old ones, and is old from now on
pub record IsMadeNow (Older Old : ℕ → Type 0) (id : ℕ) : Type 0 where
  pub apart : (other : ℕ) → Older other → other ≢ id
  pub old : Old id

older : {Older Old : ℕ → Type 0} {machine : ℕ} {own : Own} {others : Where → ℕ → ℕ → Bool} (ledger : Ledger) → ((x : ℕ) → Older x → Old x) → Fits Older machine own others ledger → Fits Old machine own others ledger
older ledger more fits = record { past = fits.past; is = fits.is; here = fits.here; there = fits.there; olds = λ x seen. more x (fits.olds x seen) }

none_yet : {Older Old : ℕ → Type 0} (id : ℕ) (ids : List ℕ) → IsMadeNow Older Old id → (has_id id ids ≡ true → Older id) → has_id id ids ≡ false
none_yet {Older} {Old} id ids new was = none_by (has_id id ids) refl where
  none_by : (b : Bool) → has_id id ids ≡ b → b ≡ false
  none_by false is = refl
  none_by true is = absurd (new.apart id (was is) refl)

-- what a machine has behind a step is old, and what it keeps differs
pub record Ends (Old : ℕ → Type 0) (end : Own) : Type 0 where
  pub different : are_different end.kept ≡ true
  pub kept : (id : ℕ) → has_id id end.kept ≡ true → Old id
  pub taken : (id : ℕ) → end.taking ≡ Some id → Old id

has_last : (id : ℕ) (ids : List ℕ) → has_id id (ids ++ id ∷ []) ≡ true
has_last id ids = list_any-append (λ (other : ℕ). other == id) ids (id ∷ []) ∙ or_right (has_id id ids) ((id == id) || false) (or_left (id == id) false (eq-eqb id id refl))

hand_goes : {Older Old : ℕ → Type 0} {machine : ℕ} {own end : Own} {told : List Act} {others : Where → ℕ → ℕ → Bool} → machine - 1 + 1 ≡ machine → ((x : ℕ) → Older x → Old x) → Hand (IsMadeNow Older Old) own told end → are_different (all_of own) ≡ true → are_different end.kept ≡ true → ((id : ℕ) → has_id id end.kept ≡ true → Old id)
    → (ledger : Ledger) → Fits Older machine own others ledger → Follows Old machine end others ledger (deeds_by machine told)
hand_goes at more (hand_walks walk) different last old ledger fits = (walk_goes at walk different ledger (older ledger more fits)).follows
hand_goes {Older} {Old} {machine} at more (hand_inserts {id = id} {ids = ids} {held = held} {taking = taking} new) different last old ledger fits =
    follows_one None (spot kept id) ledger (deeds.Inserts machine id) (turns_inserts id ids held taking (none_yet id ids new (old_there ledger fits kept id))) refl refl
    (ap not (none_yet id ledger.seen new (fits.olds id))) (one_named Old id new.old) (older ledger more fits)
hand_goes {Older} {Old} {machine} at more (hand_removes {id = id} {ids = ids} {held = held} {taking = taking} has) different last old ledger fits =
    follows_one (spot kept id) None ledger (deeds.Removes machine id) (turns_removes id ids held taking (kept_different (own_parts ids held taking) different) has) refl refl
    refl (one_named Old id (more id (old_there ledger fits kept id has))) (older ledger more fits)
hand_goes {Older} {Old} {machine} at more (hand_gives {id = id} {ids = ids} {held = held} {taking = taking} has) different last old ledger fits =
    follows_one (spot kept id) None ledger (deeds.Removes machine id) (turns_removes id ids held taking (kept_different (own_parts ids held taking) different) has) refl refl
    refl (one_named Old id (more id (old_there ledger fits kept id has))) (older ledger more fits)
hand_goes {Older} {Old} {machine} at more (hand_gets {id = id} {ids = ids} {held = held} {taking = taking}) different last old ledger fits =
    follows_one None (spot kept id) ledger (deeds.Comes machine id) (turns_inserts id ids held taking (last_none id ids last)) refl refl
    refl (one_named Old id (old id (has_last id ids))) (older ledger more fits)
hand_goes {Older} {Old} {machine} at more (hand_replaces {old = old} {new = now} {ids = ids} {held = held} {taking = taking} has new) different last was ledger fits =
    follows_one (spot kept old) (spot kept now) ledger (deeds.Replaces machine old now) (turns_replaces old now ids held taking (kept_different (own_parts ids held taking) different) has (none_yet now ids new (old_there ledger fits kept now))) refl refl
    (ap not (none_yet now ledger.seen new (fits.olds now))) (two_named Old old now (more old (old_there ledger fits kept old has)) new.old) (older ledger more fits)

-- ---- the announcements

says_goes : {Old : ℕ → Type 0} {machine : ℕ} {own end : Own} {told : List Act} {others : Where → ℕ → ℕ → Bool} → machine - 1 + 1 ≡ machine → Announces own told end → ((id : ℕ) → end.taking ≡ Some id → Old id) → (ledger : Ledger) → Fits Old machine own others ledger
    → Follows Old machine end others ledger (deeds_by machine told)
says_goes {Old} {machine} {end = end} {others = others} at (says_more told more silent says) old ledger fits =
    subst (λ (ds : List Deed). Follows Old machine end others ledger ds) (sym (no_deeds machine told more silent)) (says_goes at says old ledger fits)
says_goes {Old} {machine} {end = end} {told = told} {others = others} at (says_last silent) old ledger fits =
    subst (λ (ds : List Deed). Follows Old machine end others ledger ds) (sym (none_silent machine told silent)) (follows_none fits)
says_goes {Old} {machine} {end = end} {others = others} at (says_start {id = id} {ids = ids} {held = held} {others = more} silent) old ledger fits =
    subst (λ (ds : List Deed). Follows Old machine end others ledger (deeds.Starts (machine - 1) id ∷ ds)) (sym (none_silent machine more silent))
    (follows_one None (spot intake id) ledger (deeds.Starts (machine - 1) id) (turns_starts id ids held) refl (entry_gap machine id at) refl (one_named Old id (old id refl)) fits)

-- they keep what is kept
says_kept : {own end : Own} {told : List Act} → Announces own told end → end.kept ≡ own.kept
says_kept (says_more told more silent says) = says_kept says
says_kept (says_last silent) = refl
says_kept (says_start silent) = refl

-- ---- the step

pub did_goes : {Older Old : ℕ → Type 0} {machine : ℕ} {own end : Own} {told : List Act} {others : Where → ℕ → ℕ → Bool} → machine - 1 + 1 ≡ machine → ((x : ℕ) → Older x → Old x) → Did (IsMadeNow Older Old) own told end → are_different (all_of own) ≡ true
    → Ends Old end → (ledger : Ledger) → Fits Older machine own others ledger → Follows Old machine end others ledger (deeds_by machine told)
did_goes {Older} {Old} {machine} {end = end} {others = others} at more (did read met told walk hand says) different ends ledger fits =
    let one = walk_goes at walk different ledger fits in
    let same = says_kept says in
    let two = hand_goes at more hand one.different (ap are_different (sym same) ∙ ends.different) (λ id has. ends.kept id (ap (has_id id) same ∙ has)) (ledger_after_all ledger (deeds_by machine read)) one.follows.fits in
    let three = says_goes at says ends.taken (ledger_after_all (ledger_after_all ledger (deeds_by machine read)) (deeds_by machine met)) two.fits in
    let last = follows_both (ledger_after_all ledger (deeds_by machine read)) (deeds_by machine met) (deeds_by machine told) two three in
    subst (λ (ds : List Deed). Follows Old machine end others ledger ds) (sym (deeds_append machine read (met ++ told) ∙ ap (λ (ds : List Deed). deeds_by machine read ++ ds) (deeds_append machine met told)))
    (follows_both ledger (deeds_by machine read) (deeds_by machine met ++ deeds_by machine told) one.follows last)

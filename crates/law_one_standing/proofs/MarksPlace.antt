-- Where the board of an id is: in one part of a machine's list, in a gap, or gone at a link; and that it is in one place.
use Rattle.std.proofs.Common.{Bool, List, None, Option, Some, [], ap, arith, false, inl, inr, map, refl, subst, suc, sym, true, zero, ℕ, ◌++◌, ◌+◌, ◌-◌, ◌∙◌, ◌∷◌, ◌≡◌, ◌⊎◌}
use Rattle.std.proofs.lemmas.Option.{none-some}
use Rattle.board_record.specs.declared.record.Record.{Record}
use Rattle.line_world.specs.declared.board.Board.{Board}
use Rattle.line_world.specs.declared.gap.Gap.{Gap}
use Rattle.handover_out.specs.State.{board_of_phase as held_out}
use Rattle.handover_in.specs.State.{board_of_phase as held_in}
use Rattle.law_custody.specs.Contents.{Kept, kept_first, kept_later}
use Rattle.law_custody.specs.Floor.{GapAt, gap_begun, gap_fresh, gap_home, gap_inside, gap_left, gap_lost, gap_stolen}
use Rattle.law_custody.specs.Pair.{board_of, part}
use Rattle.law_custody.specs.Place.{Across, Fresh, Home, InGap, Inside, Lost, Place, Stolen, is_away, is_inside, is_upstream}
use Rattle.law_custody.proofs.Facts.{in_holds, out_holds}
use Rattle.law_machine_custody.specs.Good.{Lies, lies_first, lies_later}
use Rattle.law_machine_custody.proofs.Holding.{kept_upstream}
use Rattle.law_machine_custody.proofs.Keeping.{lies_behind}
use Rattle.law_one_standing.specs.Kept.{Keeps}
use Rattle.law_one_standing.specs.Places.{LiesIn, at_machine, in_gap, lies_at, lies_begun, lies_in, lies_left}
use Rattle.law_one_standing.specs.Relation.{Between, Neighbours, Stand}
use Rattle.law_one_standing.specs.Standing.{AreOnce, once_more}

-- a part of a machine's list: the board of its outlet, those that it keeps, the board of its intake
pub data Part : Type 0 where
  front : Part
  middle : Part
  back : Part

pub data Position : Type 0 where
  listed : ℕ → Part → Position
  between_two : ℕ → Position
  away : ℕ → Position

-- the number of the machine or of the link; of the last part of a list that of the link above
abbrev pub number_of : Position → ℕ
number_of (listed machine front) = machine
number_of (listed machine middle) = machine
number_of (listed machine back) = machine - 1
number_of (between_two link) = link
number_of (away link) = link

abbrev pub is_middle : Position → Bool
is_middle (listed machine middle) = true
is_middle _ = false

pub data InPart (ms : ℕ → Stand) (bs : ℕ → Between) (x : ℕ) : ℕ → Part → Type 0 where
  in_front : {m : ℕ} {r : Record} → held_out (ms m).body.outlet.phase ≡ Some r → r.id ≡ x → is_upstream (bs m).ghost.place ≡ true → InPart ms bs x m front
  in_middle : {m : ℕ} → Kept x (ms m).body.kept → InPart ms bs x m middle
  in_back : {m : ℕ} (k : ℕ) {r : Record} → m ≡ k + 1 → held_in (ms (k + 1)).body.intake.phase ≡ Some r → r.id ≡ x → is_inside (bs k).ghost.place ≡ true → InPart ms bs x m back

pub data IsAt (ms : ℕ → Stand) (bs : ℕ → Between) (x : ℕ) : Position → Type 0 where
  is_listed : {m : ℕ} {a : Part} → InPart ms bs x m a → IsAt ms bs x (listed m a)
  is_between : {k : ℕ} → LiesIn x (bs k).gap.lies → IsAt ms bs x (between_two k)
  is_gone : {k : ℕ} → (bs k).gone x ≡ true → IsAt ms bs x (away k)

-- before the line nothing is kept or held: there is no machine 0, and nothing comes in at the intake of machine 1
pub record HasEnd (ms : ℕ → Stand) : Type 0 where
  pub kept : (ms 0).body.kept ≡ []
  pub outlet : held_out (ms 0).body.outlet.phase ≡ None
  pub intake : held_in (ms (0 + 1)).body.intake.phase ≡ None

-- ---- the parts of a list

lies_before : {x : ℕ} {ys : List Board} (more : List Board) → Lies x ys → Lies x (ys ++ more)
lies_before more lies_first = lies_first
lies_before more (lies_later l) = lies_later (lies_before more l)

once_first : {board : Board} {boards : List Board} {x : ℕ} → AreOnce (board ∷ boards) → board.id ≡ Some x → Lies x boards → ⊥
once_first {x = x} (once_more here more) is l = here x is l

pub once_rest : {board : Board} {boards : List Board} → AreOnce (board ∷ boards) → AreOnce boards
once_rest (once_more here more) = more

lists_apart : {x : ℕ} {xs ys : List Board} → AreOnce (xs ++ ys) → Lies x xs → Lies x ys → ⊥
lists_apart {x = x} {ys = ys} once (lies_first {bs = xs}) l = once_first once refl (lies_behind x xs ys l)
lists_apart once (lies_later a) l = lists_apart (once_rest once) a l

pub once_behind : (xs ys : List Board) → AreOnce (xs ++ ys) → AreOnce ys
once_behind [] ys once = once
once_behind (first ∷ xs) ys once = once_behind xs ys (once_rest once)

abbrev part_of : Part → List Board → List Board → List Board → List Board
part_of front xs ys zs = xs
part_of middle xs ys zs = ys
part_of back xs ys zs = zs

part_lies : {x : ℕ} (a : Part) (xs ys zs : List Board) → Lies x (part_of a xs ys zs) → Lies x (xs ++ (ys ++ zs))
part_lies front xs ys zs l = lies_before (ys ++ zs) l
part_lies {x = x} middle xs ys zs l = lies_behind x xs (ys ++ zs) (lies_before zs l)
part_lies {x = x} back xs ys zs l = lies_behind x xs (ys ++ zs) (lies_behind x ys zs l)

one_part : {x : ℕ} (a b : Part) (xs ys zs : List Board) → AreOnce (xs ++ (ys ++ zs)) → Lies x (part_of a xs ys zs) → Lies x (part_of b xs ys zs) → a ≡ b
one_part front front xs ys zs once l k = refl
one_part front middle xs ys zs once l k = absurd (lists_apart once l (lies_before zs k))
one_part {x = x} front back xs ys zs once l k = absurd (lists_apart once l (lies_behind x ys zs k))
one_part middle front xs ys zs once l k = absurd (lists_apart once k (lies_before zs l))
one_part middle middle xs ys zs once l k = refl
one_part middle back xs ys zs once l k = absurd (lists_apart (once_behind xs (ys ++ zs) once) l k)
one_part {x = x} back front xs ys zs once l k = absurd (lists_apart once k (lies_behind x ys zs l))
one_part back middle xs ys zs once l k = absurd (lists_apart (once_behind xs (ys ++ zs) once) k l)
one_part back back xs ys zs once l k = refl

part_is : {x : ℕ} {h : Option Record} {b : Bool} {r : Record} → h ≡ Some r → r.id ≡ x → b ≡ true → Lies x (part h b)
part_is {x = x} {r = r} e same up = rw (e, up) (subst (λ (y : ℕ). Lies y (board_of r ∷ [])) same lies_first)

pub map_lies : {x : ℕ} {rs : List Record} → Kept x rs → Lies x (map board_of rs)
map_lies kept_first = lies_first
map_lies (kept_later k) = lies_later (map_lies k)

-- the lists of the parts of machine j + 1
abbrev list_of : (ℕ → Stand) → (ℕ → Between) → ℕ → Part → List Board
list_of ms bs j a = part_of a (part (held_out (ms (j + 1)).body.outlet.phase) (is_upstream (bs (j + 1)).ghost.place)) (map board_of (ms (j + 1)).body.kept) (part (held_in (ms (j + 1)).body.intake.phase) (is_inside (bs j).ghost.place))

back_is : (ms : ℕ → Stand) (bs : ℕ → Between) {x : ℕ} (j k : ℕ) {r : Record} → k ≡ j → held_in (ms (k + 1)).body.intake.phase ≡ Some r → r.id ≡ x → is_inside (bs k).ghost.place ≡ true → Lies x (list_of ms bs j back)
back_is ms bs {x} j k same e is inside = subst (λ (n : ℕ). Lies x (list_of ms bs n back)) same (part_is e is inside)

in_list : {ms : ℕ → Stand} {bs : ℕ → Between} {x : ℕ} {m : ℕ} {a : Part} (j : ℕ) → m ≡ j + 1 → InPart ms bs x m a → Lies x (list_of ms bs j a)
in_list {ms} {bs} {x} j at (in_front {r = r} e same up) =
    part_is (subst (λ (n : ℕ). held_out (ms n).body.outlet.phase ≡ Some r) at e) same (subst (λ (n : ℕ). is_upstream (bs n).ghost.place ≡ true) at up)
in_list {ms} {bs} {x} j at (in_middle k) = map_lies (subst (λ (n : ℕ). Kept x (ms n).body.kept) at k)
in_list {ms} {bs} {x} j at (in_back k is e same inside) = back_is ms bs j k (omega (arith, at, is)) e same inside

numbered : (m : ℕ) → (m ≡ 0) ⊎ ((j : ℕ) × (m ≡ j + 1))
numbered zero = inl refl
numbered (suc j) = inr (j, omega arith)

kept_none : {x : ℕ} {rs : List Record} → rs ≡ [] → Kept x rs → ⊥
kept_none {x = x} e k = let none : Kept x [] = subst (λ rs. Kept x rs) e k in elim none [ ]

not_zero : (k : ℕ) → 0 ≡ k + 1 → ⊥
not_zero k e = omega (arith, e)

none_at_end : {ms : ℕ → Stand} {bs : ℕ → Between} {x m : ℕ} {a : Part} → HasEnd ms → m ≡ 0 → InPart ms bs x m a → ⊥
none_at_end {ms} end at (in_front {r = r} e same up) = none-some r (sym end.outlet ∙ subst (λ (n : ℕ). held_out (ms n).body.outlet.phase ≡ Some r) at e)
none_at_end {ms} {x = x} end at (in_middle k) = kept_none end.kept (subst (λ (n : ℕ). Kept x (ms n).body.kept) at k)
none_at_end end at (in_back k is e same inside) = not_zero k (sym at ∙ is)

pub part_lies_at : {ms : ℕ → Stand} {bs : ℕ → Between} {x m : ℕ} {a : Part} → HasEnd ms → Keeps ms bs → InPart ms bs x m a → Lies x (ms m).place.boards
part_lies_at {ms} {bs} {x} {m} {a} end keeps p =
    elim (numbered m) [
      | inl zeroth ↦ absurd (none_at_end end zeroth p)
      | inr is ↦
          let j : ℕ = is.0 in
          let lies : Lies x (ms (j + 1)).place.boards =
          subst (λ (bs : List Board). Lies x bs) (sym (keeps.machines.at j).boards.same) (part_lies a (list_of ms bs j front) (list_of ms bs j middle) (list_of ms bs j back) (in_list j is.1 p)) in
          subst (λ (n : ℕ). Lies x (ms n).place.boards) (sym is.1) lies
    ]

same_part : {ms : ℕ → Stand} {bs : ℕ → Between} {x m : ℕ} {a b : Part} → HasEnd ms → Keeps ms bs → InPart ms bs x m a → InPart ms bs x m b → a ≡ b
same_part {ms} {bs} {x} {m} {a} {b} end keeps p q =
    elim (numbered m) [
      | inl zeroth ↦ absurd (none_at_end end zeroth p)
      | inr is ↦
          let j : ℕ = is.0 in
          let once : AreOnce (list_of ms bs j front ++ (list_of ms bs j middle ++ list_of ms bs j back)) =
          subst (λ (bs : List Board). AreOnce bs) (keeps.machines.at j).boards.same (keeps.apart.once (j + 1)) in
          one_part a b (list_of ms bs j front) (list_of ms bs j middle) (list_of ms bs j back) once (in_list j is.1 p) (in_list j is.1 q)
    ]

-- ---- one place

same_machine : {m n : ℕ} → at_machine m ≡ at_machine n → m ≡ n
same_machine e = cc

same_gap : {j k : ℕ} → in_gap j ≡ in_gap k → j ≡ k
same_gap e = cc

other_spot : {m k : ℕ} → at_machine m ≡ in_gap k → ⊥
other_spot e = cc

listed_once : {ms : ℕ → Stand} {bs : ℕ → Between} {x m n : ℕ} {a b : Part} → HasEnd ms → Keeps ms bs → m ≡ n → InPart ms bs x m a → InPart ms bs x n b → listed m a ≡ listed n b
listed_once {ms} {bs} {x} {m} {n} {a} {b} end keeps same p q =
    let parts : a ≡ b = same_part end keeps (subst (λ (k : ℕ). InPart ms bs x k a) same p) q in
    ap (λ (k : ℕ). listed k a) same ∙ ap (λ (c : Part). listed n c) parts

pub one_position : {ms : ℕ → Stand} {bs : ℕ → Between} {x : ℕ} {p q : Position} → HasEnd ms → Keeps ms bs → IsAt ms bs x p → IsAt ms bs x q → p ≡ q
one_position {x = x} end keeps (is_listed {m = m} p) (is_listed {m = n} q) =
    listed_once end keeps (same_machine (keeps.apart.one_place x (at_machine m) (at_machine n) (lies_at (part_lies_at end keeps p)) (lies_at (part_lies_at end keeps q)))) p q
one_position {x = x} end keeps (is_listed {m = m} p) (is_between {k = k} q) = absurd (other_spot (keeps.apart.one_place x (at_machine m) (in_gap k) (lies_at (part_lies_at end keeps p)) (lies_in q)))
one_position {x = x} end keeps (is_listed {m = m} p) (is_gone {k = k} q) = absurd (keeps.apart.nowhere k x (at_machine m) q (lies_at (part_lies_at end keeps p)))
one_position {x = x} end keeps (is_between {k = k} p) (is_listed {m = m} q) = absurd (other_spot (keeps.apart.one_place x (at_machine m) (in_gap k) (lies_at (part_lies_at end keeps q)) (lies_in p)))
one_position {x = x} end keeps (is_between {k = k} p) (is_between {k = j} q) = ap between_two (same_gap (keeps.apart.one_place x (in_gap k) (in_gap j) (lies_in p) (lies_in q)))
one_position {x = x} end keeps (is_between {k = k} p) (is_gone {k = j} q) = absurd (keeps.apart.nowhere j x (in_gap k) q (lies_in p))
one_position {x = x} end keeps (is_gone {k = k} p) (is_listed {m = m} q) = absurd (keeps.apart.nowhere k x (at_machine m) p (lies_at (part_lies_at end keeps q)))
one_position {x = x} end keeps (is_gone {k = k} p) (is_between {k = j} q) = absurd (keeps.apart.nowhere k x (in_gap j) p (lies_in q))
one_position {x = x} end keeps (is_gone {k = k} p) (is_gone {k = j} q) = ap away (keeps.apart.gone_once k j x p q)

-- ---- where the board of a handover is

-- the board of this id has a position at this link; the flag: that may be among the boards which the machine above keeps
pub record AtLink (ms : ℕ → Stand) (bs : ℕ → Between) (x link : ℕ) (kept : Bool) : Type 0 where
  pub position : Position
  pub is : IsAt ms bs x position
  pub number : number_of position ≡ link
  pub unkept : kept ≡ false → is_middle position ≡ false

abbrev is_crossing : Place → Bool
is_crossing InGap = true
is_crossing Across = true
is_crossing _ = false

gap_lies : {gap : Gap} {p : Place} {r : Record} → GapAt gap p r → is_crossing p ≡ true → LiesIn r.id gap
gap_lies gap_begun is = lies_begun
gap_lies gap_left is = lies_left
gap_lies gap_fresh is = absurd (let h : false ≡ true = is in cc)
gap_lies gap_home is = absurd (let h : false ≡ true = is in cc)
gap_lies gap_inside is = absurd (let h : false ≡ true = is in cc)
gap_lies gap_lost is = absurd (let h : false ≡ true = is in cc)
gap_lies gap_stolen is = absurd (let h : false ≡ true = is in cc)

at_front : {ms : ℕ → Stand} {bs : ℕ → Between} {x k : ℕ} {r : Record} {b : Bool} → held_out (ms k).body.outlet.phase ≡ Some r → r.id ≡ x → is_upstream (bs k).ghost.place ≡ true → AtLink ms bs x k b
at_front {k = k} e same up = record { position = listed k front; is = is_listed (in_front e same up); number = refl; unkept = λ _. refl }

at_crossing : {ms : ℕ → Stand} {bs : ℕ → Between} {x k : ℕ} {r : Record} {b : Bool} → Neighbours (ms k) (bs k) (ms (k + 1)) → (bs k).ghost.board ≡ r → r.id ≡ x → is_crossing (bs k).ghost.place ≡ true → AtLink ms bs x k b
at_crossing {bs = bs} {x = x} {k = k} n board same crossing =
    let id : (bs k).ghost.board.id ≡ x = ap (λ (q : Record). q.id) board ∙ same in
    record { position = between_two k; is = is_between (subst (λ (y : ℕ). LiesIn y (bs k).gap.lies) id (gap_lies n.pair.gap crossing)); number = refl; unkept = λ _. refl }

at_back : {ms : ℕ → Stand} {bs : ℕ → Between} {x k : ℕ} {r : Record} {b : Bool} → held_in (ms (k + 1)).body.intake.phase ≡ Some r → r.id ≡ x → is_inside (bs k).ghost.place ≡ true → AtLink ms bs x k b
at_back {k = k} e same inside = record { position = listed (k + 1) back; is = is_listed (in_back k refl e same inside); number = omega arith; unkept = λ _. refl }

at_none : {ms : ℕ → Stand} {bs : ℕ → Between} {x k : ℕ} {b : Bool} (r : Record) → r.id ≡ x → (bs k).gone r.id ≡ true → AtLink ms bs x k b
at_none {bs = bs} {k = k} r same gone = record { position = away k; is = is_gone (subst (λ (y : ℕ). (bs k).gone y ≡ true) same gone); number = refl; unkept = λ _. refl }

out_by : {ms : ℕ → Stand} {bs : ℕ → Between} {x k : ℕ} {r : Record} {b : Bool} → Neighbours (ms k) (bs k) (ms (k + 1)) → held_out (ms k).body.outlet.phase ≡ Some r → r.id ≡ x → (p : Place) → (bs k).ghost.place ≡ p → AtLink ms bs x k b
out_by n e same Fresh at = at_front e same (ap is_upstream at)
out_by n e same Home at = at_front e same (ap is_upstream at)
out_by n e same InGap at = at_crossing n (out_holds n.pair.out e) same (ap is_crossing at)
out_by n e same Across at = at_crossing n (out_holds n.pair.out e) same (ap is_crossing at)
out_by {r = r} n e same Inside at = at_back (n.holds.inside r e (ap is_inside at)) same (ap is_inside at)
out_by {r = r} n e same Lost at = at_none r same (n.holds.away_out r e (ap is_away at))
out_by {r = r} n e same Stolen at = at_none r same (n.holds.away_out r e (ap is_away at))

-- what an outlet holds is at its link, and is not kept
pub outlet_at : {ms : ℕ → Stand} {bs : ℕ → Between} {x k : ℕ} {r : Record} (b : Bool) → Neighbours (ms k) (bs k) (ms (k + 1)) → held_out (ms k).body.outlet.phase ≡ Some r → r.id ≡ x → AtLink ms bs x k b
outlet_at {bs = bs} {k = k} b n e same = out_by n e same (bs k).ghost.place refl

not_unkept : {b : Bool} → true ≡ false → b ≡ false
not_unkept e = absurd (cc)

at_middle : {ms : ℕ → Stand} {bs : ℕ → Between} {x k : ℕ} → Kept x (ms k).body.kept → AtLink ms bs x k true
at_middle {k = k} kept = record { position = listed k middle; is = is_listed (in_middle kept); number = refl; unkept = not_unkept }

kept_or_gone : {ms : ℕ → Stand} {bs : ℕ → Between} {x k : ℕ} (r : Record) → r.id ≡ x → Kept r.id (ms k).body.kept ⊎ ((bs k).gone r.id ≡ true) → AtLink ms bs x k true
kept_or_gone {ms = ms} {k = k} r same (inl kept) = at_middle (subst (λ (y : ℕ). Kept y (ms k).body.kept) same kept)
kept_or_gone r same (inr gone) = at_none r same gone

upstream_by : {ms : ℕ → Stand} {bs : ℕ → Between} {x k : ℕ} {r : Record} → Neighbours (ms k) (bs k) (ms (k + 1)) → held_in (ms (k + 1)).body.intake.phase ≡ Some r → r.id ≡ x → is_upstream (bs k).ghost.place ≡ true
    → (h : Option Record) → held_out (ms k).body.outlet.phase ≡ h → AtLink ms bs x k true
upstream_by {r = r} n e same up None free = kept_or_gone r same (kept_upstream n.holds r e free up)
upstream_by {r = r} n e same up (Some q) held =
    let one : q ≡ r = sym (out_holds n.pair.out held) ∙ in_holds n.pair.in e in
    at_front held (ap (λ (o : Record). o.id) one ∙ same) up

in_by : {ms : ℕ → Stand} {bs : ℕ → Between} {x k : ℕ} {r : Record} → Neighbours (ms k) (bs k) (ms (k + 1)) → held_in (ms (k + 1)).body.intake.phase ≡ Some r → r.id ≡ x → (p : Place) → (bs k).ghost.place ≡ p → AtLink ms bs x k true
in_by {ms} {k = k} n e same Fresh at = upstream_by n e same (ap is_upstream at) (held_out (ms k).body.outlet.phase) refl
in_by {ms} {k = k} n e same Home at = upstream_by n e same (ap is_upstream at) (held_out (ms k).body.outlet.phase) refl
in_by n e same InGap at = at_crossing n (in_holds n.pair.in e) same (ap is_crossing at)
in_by n e same Across at = at_crossing n (in_holds n.pair.in e) same (ap is_crossing at)
in_by n e same Inside at = at_back e same (ap is_inside at)
in_by {r = r} n e same Lost at = at_none r same (n.holds.away_in r e (ap is_away at))
in_by {r = r} n e same Stolen at = at_none r same (n.holds.away_in r e (ap is_away at))

-- and so is what an intake holds: the machine above may keep it
pub intake_at : {ms : ℕ → Stand} {bs : ℕ → Between} {x k : ℕ} {r : Record} → Neighbours (ms k) (bs k) (ms (k + 1)) → held_in (ms (k + 1)).body.intake.phase ≡ Some r → r.id ≡ x → AtLink ms bs x k true
intake_at {bs = bs} {k = k} n e same = in_by n e same (bs k).ghost.place refl

pub kept_at : {ms : ℕ → Stand} {bs : ℕ → Between} {x m : ℕ} → Kept x (ms m).body.kept → AtLink ms bs x m true
kept_at kept = at_middle kept

-- one id is at one link
pub one_link : {ms : ℕ → Stand} {bs : ℕ → Between} {x j k : ℕ} {a b : Bool} → HasEnd ms → Keeps ms bs → AtLink ms bs x j a → AtLink ms bs x k b → j ≡ k
one_link end keeps p q = sym p.number ∙ ap number_of (one_position end keeps p.is q.is) ∙ q.number

-- a kept id is not held by an outlet
pub kept_unheld : {ms : ℕ → Stand} {bs : ℕ → Between} {x : ℕ} (m k : ℕ) {r : Record} → HasEnd ms → Keeps ms bs → Kept x (ms m).body.kept → held_out (ms k).body.outlet.phase ≡ Some r → r.id ≡ x → ⊥
kept_unheld {ms} {bs} {x} m k end keeps kept e same =
    let out : AtLink ms bs x k false = outlet_at false (keeps.neighbours.at k) e same in
    let h : true ≡ false = ap is_middle (one_position end keeps (is_listed (in_middle kept)) out.is) ∙ out.unkept refl in
    cc

-- What a machine of the line has of its own is nowhere else: the relation of a machine between its two links.
use Rattle.std.proofs.Common.{inl, inr, ◌⊎◌, Bool, List, Option, Some, [], arith, eqb-true, false, map, refl, subst, sym, true, zero, suc, ℕ, ◌+◌, ◌++◌, ◌∷◌, ◌≡◌}
use Rattle.std.specs.Prelude.{nat_eq}
use Rattle.board_record.specs.declared.record.Record.{Record}
use Rattle.line_world.specs.declared.board.Board.{Board}
use Rattle.line_world.specs.declared.gap.Gap.{Gap}
use Rattle.handover_out.specs.State.{board_of_phase as held_out}
use Rattle.handover_in.specs.State.{board_of_phase as held_in}
use Rattle.handover_out.specs.declared.phase.Phase.{Phase as Out}
use Rattle.handover_in.specs.declared.phase.Phase.{Phase as In}
use Rattle.law_custody.specs.Floor.{GapAt, gap_begun, gap_fresh, gap_home, gap_inside, gap_left, gap_lost, gap_stolen}
use Rattle.law_custody.specs.Pair.{Body, board_of, part}
use Rattle.law_custody.specs.Place.{Across, Fresh, Home, InGap, Inside, Lost, Place, Stolen, is_inside, is_upstream}
use Rattle.law_custody.proofs.Facts.{out_holds}
use Rattle.law_machine_custody.specs.Good.{Afar, Good, Lies, lies_first, lies_later}
use Rattle.law_machine_custody.specs.Unique.{IsApart, IsFrontOnce}
use Rattle.law_one_standing.specs.Kept.{Keeps}
use Rattle.law_one_standing.specs.Places.{LiesIn, at_machine, in_gap, lies_at, lies_begun, lies_in, lies_left}
use Rattle.law_one_standing.specs.Relation.{Between, Stand, scene_between}
use Rattle.law_one_standing.specs.Standing.{AreOnce, once_more}
use Rattle.law_one_standing.proofs.ApartFloor.{counted, counted_lies, lies_counted}

-- ---- the ids of boards that don't lie in a list

abbrev pub elsewhere_of : List Board → ℕ → Bool
elsewhere_of boards id = nat_eq (counted id boards) 0

pub elsewhere_not_here : (boards : List Board) (x : ℕ) → elsewhere_of boards x ≡ true → Lies x boards → ⊥
elsewhere_not_here boards x is lies = omega (arith, eqb-true (counted x boards) 0 is, lies_counted lies)

elsewhere_by : (n : ℕ) (boards : List Board) (x : ℕ) → counted x boards ≡ n → (Lies x boards → ⊥) → nat_eq n 0 ≡ true
elsewhere_by zero boards x is none = refl
elsewhere_by (suc n) boards x is none = absurd (none (counted_lies x boards (omega (arith, is))))

pub not_here_elsewhere : (boards : List Board) (x : ℕ) → (Lies x boards → ⊥) → elsewhere_of boards x ≡ true
not_here_elsewhere boards x none = elsewhere_by (counted x boards) boards x refl none

-- ---- what an outlet holds of a board that isn't upstream lies elsewhere

lies_behind : {x : ℕ} (front : List Board) {boards : List Board} → Lies x boards → Lies x (front ++ boards)
lies_behind [] lies = lies
lies_behind (board ∷ front) lies = lies_later (lies_behind front lies)

part_lies : (h : Option Record) (inside : Bool) (r : Record) → h ≡ Some r → inside ≡ true → Lies r.id (part h inside)
part_lies h inside r is there = rw (is, there) lies_first

-- the record that an intake holds of a board inside is in the machine's list
pub inside_lies : {o : Out} {p q : Place} {kept : List Record} {i : In} {boards : List Board} → Body o p kept i q boards → (r : Record) → held_in i ≡ Some r → is_inside q ≡ true → Lies r.id boards
inside_lies {o = o} {p = p} {q = q} {kept = kept} {i = i} body r held inside =
    subst (λ (l : List Board). Lies r.id l) (sym body.same)
    (lies_behind (part (held_out o) (is_upstream p)) (lies_behind (map board_of kept) (part_lies (held_in i) (is_inside q) r held inside)))

no_up : true ≡ false → ⊥
no_up is = cc

machine_not_gap : (m k : ℕ) → at_machine m ≡ in_gap k → ⊥
machine_not_gap m k is = cc

pub next_machine : (m : ℕ) → at_machine m ≡ at_machine (m + 1) → ⊥
next_machine m is =
    let same : m ≡ m + 1 = cc in
    omega (arith, same)

-- the board in the gap is that of the ghost
gap_lies : {lies : Gap} {p : Place} {r : Record} → GapAt lies p r → (p ≡ InGap) ⊎ (p ≡ Across) → LiesIn r.id lies
gap_lies gap_begun is = lies_begun
gap_lies gap_left is = lies_left
gap_lies gap_fresh is = elim is [ inl e ↦ cc | inr e ↦ cc ]
gap_lies gap_home is = elim is [ inl e ↦ cc | inr e ↦ cc ]
gap_lies gap_inside is = elim is [ inl e ↦ cc | inr e ↦ cc ]
gap_lies gap_lost is = elim is [ inl e ↦ cc | inr e ↦ cc ]
gap_lies gap_stolen is = elim is [ inl e ↦ cc | inr e ↦ cc ]

lies_nowhere : (ms : ℕ → Stand) (bs : ℕ → Between) (m : ℕ) (r : Record) (p : Place) → Keeps ms bs → (bs m).ghost.place ≡ p → held_out (ms m).body.outlet.phase ≡ Some r → is_upstream p ≡ false → Lies r.id (ms m).place.boards → ⊥
lies_nowhere ms bs m r Fresh k is held up lies = no_up up
lies_nowhere ms bs m r Home k is held up lies = no_up up
lies_nowhere ms bs m r InGap k is held up lies =
    let near = k.neighbours.at m in
    let same : (bs m).ghost.board ≡ r = out_holds near.pair.out held in
    let there : LiesIn (bs m).ghost.board.id (bs m).gap.lies = gap_lies near.pair.gap (inl is) in
    let own : LiesIn r.id (bs m).gap.lies = subst (λ (q : Record). LiesIn q.id (bs m).gap.lies) same there in
    machine_not_gap m m (k.apart.one_place r.id (at_machine m) (in_gap m) (lies_at lies) (lies_in own))
lies_nowhere ms bs m r Across k is held up lies =
    let near = k.neighbours.at m in
    let same : (bs m).ghost.board ≡ r = out_holds near.pair.out held in
    let there : LiesIn (bs m).ghost.board.id (bs m).gap.lies = gap_lies near.pair.gap (inr is) in
    let own : LiesIn r.id (bs m).gap.lies = subst (λ (q : Record). LiesIn q.id (bs m).gap.lies) same there in
    machine_not_gap m m (k.apart.one_place r.id (at_machine m) (in_gap m) (lies_at lies) (lies_in own))
lies_nowhere ms bs m r Inside k is held up lies =
    let near = k.neighbours.at m in
    let below = k.machines.at m in
    let inside : held_in (ms (m + 1)).body.intake.phase ≡ Some r = near.holds.inside r held (rw is refl) in
    let there : Lies r.id (ms (m + 1)).place.boards = inside_lies below.boards r inside (rw is refl) in
    next_machine m (k.apart.one_place r.id (at_machine m) (at_machine (m + 1)) (lies_at lies) (lies_at there))
lies_nowhere ms bs m r Lost k is held up lies =
    let near = k.neighbours.at m in
    k.apart.nowhere m r.id (at_machine m) (near.holds.away_out r held (rw is refl)) (lies_at lies)
lies_nowhere ms bs m r Stolen k is held up lies =
    let near = k.neighbours.at m in
    k.apart.nowhere m r.id (at_machine m) (near.holds.away_out r held (rw is refl)) (lies_at lies)

pub held_elsewhere : (ms : ℕ → Stand) (bs : ℕ → Between) (m : ℕ) → Keeps ms bs → (r : Record) → held_out (ms m).body.outlet.phase ≡ Some r → is_upstream (bs m).ghost.place ≡ false → elsewhere_of (ms m).place.boards r.id ≡ true
held_elsewhere ms bs m k r held up = not_here_elsewhere (ms m).place.boards r.id (lies_nowhere ms bs m r (bs m).ghost.place k refl held up)

-- ---- a machine between its two links

once_front : (x : ℕ) (others : List Board) → AreOnce (record { id = Some x } ∷ others) → Lies x others → ⊥
once_front x others (once_more apart rest) lies = apart x refl lies

pub front_once : (boards : List Board) → AreOnce boards → IsFrontOnce boards
front_once boards once x others is lies =
    let once_there : AreOnce (record { id = Some x } ∷ others) = subst (λ (l : List Board). AreOnce l) is once in
    once_front x others once_there lies

abbrev pub afar_at : (ℕ → Stand) → (ℕ → Between) → ℕ → Afar
afar_at ms bs j = record { gone_above = (bs j).gone; gone_below = (bs (j + 1)).gone; elsewhere = elsewhere_of (ms (j + 1)).place.boards }

pub good_at : (ms : ℕ → Stand) (bs : ℕ → Between) (j : ℕ) → Keeps ms bs
    → Good (afar_at ms bs j) (ms j).body.kept (ms (j + 1)).place.unread (bs j).ghost (bs (j + 1)).ghost (ms (j + 1)).body (scene_between (ms j) (bs j) (ms (j + 1)) (bs (j + 1)) (ms (j + 1 + 1)))
good_at ms bs j k =
    let up = k.neighbours.at j in
    let down = k.neighbours.at (j + 1) in
    let own = k.machines.at j in
    record {
      above_pair = up.pair;
      below_pair = down.pair;
      boards = own.boards;
      above_contents = up.contents;
      below_contents = down.contents;
      above_holds = up.holds;
      below_holds = down.holds;
      entry_role = own.entry_role;
      exit_role = own.exit_role;
      away = held_elsewhere ms bs (j + 1) k;
      here = λ x lies gone. k.apart.nowhere (j + 1) x (at_machine (j + 1)) gone (lies_at lies);
      recent = own.recent;
    }

pub unique_at : (ms : ℕ → Stand) (bs : ℕ → Between) (j : ℕ) → Keeps ms bs → IsApart (afar_at ms bs j) (scene_between (ms j) (bs j) (ms (j + 1)) (bs (j + 1)) (ms (j + 1 + 1)))
unique_at ms bs j k = record { distinct = front_once (ms (j + 1)).place.boards (k.apart.once (j + 1)); apart = elsewhere_not_here (ms (j + 1)).place.boards }

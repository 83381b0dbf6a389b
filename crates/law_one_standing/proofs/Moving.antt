-- A move on the floor, by numbers.
use Rattle.std.proofs.Common.{Bool, List, Ok, Option, Some, ap, arith, false, inl, inr, refl, subst, sym, true, ℕ, ◌+◌, ◌∙◌, ◌≡◌, ◌≢◌, ◌⊎◌}
use Rattle.std.proofs.lemmas.Bool.{false≢true}
use Rattle.line_base.specs.declared.states.SensorEvent.{SensorEvent}
use Rattle.line_base.specs.declared.states.Side.TheVariants as sides
use Rattle.board_record.specs.declared.record.Record.{Record}
use Rattle.line_world.specs.FloorPlan.{AtMachine}
use Rattle.line_world.specs.Moved.{IsMove, begins, begun_is_taken, enters, goes_back, is_handed_in, leaves, left_is_taken}
use Rattle.line_world.specs.Moves.{Around, around_move}
use Rattle.line_world.specs.declared.gap.Gap.{Gap}
use Rattle.line_world.specs.declared.moves.Move.{Move}
use Rattle.line_world.specs.declared.moves.Move.TheVariants as moves
use Rattle.line_world.proofs.Inverting.{move_is}
use Rattle.handover_out.specs.declared.phase.Phase.{Phase as Out}
use Rattle.handover_in.specs.declared.phase.Phase.{Phase as In}
use Rattle.law_custody.specs.Floor.{EntryFloor, ExitFloor, GapAt, gap_begun, gap_left}
use Rattle.law_custody.specs.Floors.{Lifted}
use Rattle.law_custody.specs.Place.{MovesPlace, Place}
use Rattle.law_custody.specs.Place as place
use Rattle.law_custody.specs.Words.{events_at}
use Rattle.law_custody.proofs.Facts.{begun_held_upstream, in_holds, left_held_downstream, out_holds}
use Rattle.law_custody.proofs.HandsContents.{contents_gone}
use Rattle.law_custody.proofs.Lists.{entry_other, exit_other}
use Rattle.law_custody.proofs.MovesKeep.{moves_keep}
use Rattle.law_machine_custody.specs.ByHand.{Grows}
use Rattle.law_machine_custody.specs.Good.{Holds}
use Rattle.line_step.specs.Numbered.{ChangesAround, EachBody}
use Rattle.line_step.proofs.Changing.{each_around}
use Rattle.line_step.proofs.Numbers.{same_or_not}
use Rattle.law_one_standing.specs.Kept.{Keeps}
use Rattle.law_one_standing.specs.Places.{AreApart, LiesIn, lies_begun, lies_left}
use Rattle.law_one_standing.specs.Relation.{Between, Neighbours, Owns, Stand, link_between}

-- ---- what the machines on both sides see of a move

-- the upstream machine sees nothing at its entry, and the downstream one nothing at its exit
entry_stays : {step : Move} {old new : Around} → IsMove step old new → events_at sides.Entry new.up.unread ≡ events_at sides.Entry old.up.unread
entry_stays (begins {seen = seen}) = entry_other seen _
entry_stays (leaves {seen = seen}) = entry_other seen _
entry_stays enters = refl
entry_stays (goes_back {seen = seen}) = entry_other seen _
entry_stays is_handed_in = refl
entry_stays (begun_is_taken {seen = seen}) = entry_other seen _
entry_stays (left_is_taken {seen = seen}) = entry_other seen _

exit_stays : {step : Move} {old new : Around} → IsMove step old new → events_at sides.Exit new.down.unread ≡ events_at sides.Exit old.down.unread
exit_stays (begins {heard = heard}) = exit_other heard _
exit_stays leaves = refl
exit_stays (enters {heard = heard}) = exit_other heard _
exit_stays (goes_back {heard = heard}) = exit_other heard _
exit_stays (is_handed_in {heard = heard}) = exit_other heard _
exit_stays (begun_is_taken {heard = heard}) = exit_other heard _
exit_stays (left_is_taken {heard = heard}) = exit_other heard _

-- ---- what the halves hold

no_true : false ≡ true → ⊥
no_true is = false≢true is

-- what a hand takes is gone from then on
abbrev pub AreTaken : (ℕ → Bool) → Move → Gap → Type 0
AreTaken gone moves.Take lies = (x : ℕ) → LiesIn x lies → gone x ≡ true
AreTaken gone _ lies = Unit {0}

own_id : (gone : ℕ → Bool) {r q : Record} → r ≡ q → gone r.id ≡ true → gone q.id ≡ true
own_id gone same is = subst (λ (r : Record). gone r.id ≡ true) same is

holds_moved : {gone gone2 : ℕ → Bool} {kept : List Record} {last : Option ℕ} {step : Move} {p p2 : Place} {lies : Gap} {r : Record} {o : Out} {i : In} {ue un : List SensorEvent} {xd ed : Bool}
    → MovesPlace step p p2 → GapAt lies p r → ExitFloor o ue xd p r → EntryFloor i un ed p r → AreTaken gone2 step lies → Holds gone kept last p o i → Holds gone2 kept last p2 o i
holds_moved place.begins gap out within taken h = record { inside = λ q held is. absurd (no_true is); away_out = λ q held is. absurd (no_true is); away_in = λ q held is. absurd (no_true is); upstream = λ q held free is. absurd (no_true is) }
holds_moved place.leaves gap out within taken h = record { inside = λ q held is. absurd (no_true is); away_out = λ q held is. absurd (no_true is); away_in = λ q held is. absurd (no_true is); upstream = λ q held free is. absurd (no_true is) }
holds_moved place.enters gap_left out within taken h = record { inside = λ q held is. left_held_downstream gap_left within ∙ ap Some (out_holds out held); away_out = λ q held is. absurd (no_true is); away_in = λ q held is. absurd (no_true is); upstream = λ q held free is. absurd (no_true is) }
holds_moved place.is_handed_in gap_left out within taken h = record { inside = λ q held is. left_held_downstream gap_left within ∙ ap Some (out_holds out held); away_out = λ q held is. absurd (no_true is); away_in = λ q held is. absurd (no_true is); upstream = λ q held free is. absurd (no_true is) }
holds_moved place.goes_back gap_begun out within taken h = record { inside = λ q held is. absurd (no_true is); away_out = λ q held is. absurd (no_true is); away_in = λ q held is. absurd (no_true is); upstream = λ q held free is. (let both = sym free ∙ begun_held_upstream gap_begun out in cc) }
holds_moved {gone2 = gone2} {r = r} place.is_lost gap_begun out within taken h = record { inside = λ q held is. absurd (no_true is); away_out = λ q held is. own_id gone2 (out_holds out held) (taken r.id lies_begun); away_in = λ q held is. own_id gone2 (in_holds within held) (taken r.id lies_begun); upstream = λ q held free is. absurd (no_true is) }
holds_moved {gone2 = gone2} {r = r} place.is_stolen gap_left out within taken h = record { inside = λ q held is. absurd (no_true is); away_out = λ q held is. own_id gone2 (out_holds out held) (taken r.id lies_left); away_in = λ q held is. own_id gone2 (in_holds within held) (taken r.id lies_left); upstream = λ q held free is. absurd (no_true is) }

-- ---- the neighbours of the machines on both sides

-- the entry of the machine below sees what it saw
same_below : (above : Stand) (b : Between) (below : Stand) (now : AtMachine) → events_at sides.Entry now.unread ≡ events_at sides.Entry below.place.unread → Neighbours above b below → Neighbours above b (record below { place = now })
same_below above b below now same n = record {
  pair = record {
    out = n.pair.out;
    «in» = subst (λ (es : List SensorEvent). EntryFloor below.body.intake.phase es b.gap.entry_drive b.ghost.place b.ghost.board) (sym same) n.pair.in;
    gap = n.pair.gap;
    talk = n.pair.talk;
  };
  contents = n.contents;
  holds = n.holds;
}

-- and so does the exit of the machine above
same_above : (above : Stand) (b : Between) (below : Stand) (now : AtMachine) → events_at sides.Exit now.unread ≡ events_at sides.Exit above.place.unread → Neighbours above b below → Neighbours (record above { place = now }) b below
same_above above b below now same n = record {
  pair = record {
    out = subst (λ (es : List SensorEvent). ExitFloor above.body.outlet.phase es b.gap.exit_drive b.ghost.place b.ghost.board) (sym same) n.pair.out;
    «in» = n.pair.in;
    gap = n.pair.gap;
    talk = n.pair.talk;
  };
  contents = n.contents;
  holds = n.holds;
}

-- ---- along the line

three : {B M : Type 0} (Q : B → M → B → Type 0) {a a2 : B} {m m2 : M} {b b2 : B} → a2 ≡ a → m2 ≡ m → b2 ≡ b → Q a m b → Q a2 m2 b2
three Q {a2 = a2} {m = m} {m2 = m2} {b = b} above me below q = subst (λ x. Q a2 m2 x) (sym below) (subst (λ x. Q a2 x b) (sym me) (subst (λ x. Q x m b) (sym above) q))

pub body_around : {M B : Type 0} (Q : B → M → B → Type 0) (link : ℕ) (ms : ℕ → M) (bs : ℕ → B) (ms2 : ℕ → M) (bs2 : ℕ → B) → ChangesAround link ms bs ms2 bs2 → EachBody Q ms bs
    → ((j : ℕ) → j + 1 ≡ link → Q (bs j) (ms2 link) (bs2 link)) → Q (bs2 link) (ms2 (link + 1)) (bs (link + 1)) → EachBody Q ms2 bs2
body_around {M} {B} Q link ms bs ms2 bs2 changes each above below = record { at = λ k. by k (same_or_not k link) (same_or_not (k + 1) link) }
  where
    by_below : (k : ℕ) → k ≡ link → Q (bs2 k) (ms2 (k + 1)) (bs2 (k + 1))
    by_below k is =
        let R : ℕ → Type 0 = λ n. Q (bs2 n) (ms2 (n + 1)) (bs2 (n + 1)) in
        let next : link + 1 ≢ link = omega arith in
        subst R (sym is) (three Q refl refl (changes.links (link + 1) next) below)

    by_above : (k : ℕ) → k ≢ link → k + 1 ≡ link → Q (bs2 k) (ms2 (k + 1)) (bs2 (k + 1))
    by_above k apart is = subst (λ n. Q (bs2 k) (ms2 n) (bs2 n)) (sym is) (three Q (changes.links k apart) refl refl (above k is))

    by : (k : ℕ) → (k ≡ link) ⊎ (k ≢ link) → (k + 1 ≡ link) ⊎ (k + 1 ≢ link) → Q (bs2 k) (ms2 (k + 1)) (bs2 (k + 1))
    by k (inl is) next = by_below k is
    by k (inr apart) (inl is) = by_above k apart is
    by k (inr apart) (inr other) =
        let last : k + 1 ≢ link + 1 = omega (arith, apart) in
        three Q (changes.links k apart) (changes.machines (k + 1) other last) (changes.links (k + 1) other) (each.at k)

-- a board is moved at gap i + 1: what is around it is as the move leaves it, and nothing else changes
pub record IsMoved (i : ℕ) (ms : ℕ → Stand) (bs : ℕ → Between) (ms2 : ℕ → Stand) (bs2 : ℕ → Between) (c : Around) (spot : Place) (gone : ℕ → Bool) : Type 0 where
  pub changes : ChangesAround (i + 1) ms bs ms2 bs2
  pub up : ms2 (i + 1) ≡ record { body = (ms (i + 1)).body; place = c.up }
  pub between : bs2 (i + 1) ≡ record { ghost = record { place = spot; board = (bs (i + 1)).ghost.board }; stands = (bs (i + 1)).stands; gap = c.between; up = (bs (i + 1)).up; down = (bs (i + 1)).down; gone = gone }
  pub down : ms2 (i + 1 + 1) ≡ record { body = (ms (i + 1 + 1)).body; place = c.down }

abbrev pub around_at : (ℕ → Stand) → (ℕ → Between) → ℕ → Around
around_at ms bs k = record { up = (ms k).place; between = (bs k).gap; down = (ms (k + 1)).place }

abbrev pub LiftedAt : Move → ℕ → (ℕ → Stand) → (ℕ → Between) → Around → Type 0
LiftedAt step i ms bs c = Lifted step (link_between (ms (i + 1)) (bs (i + 1)) (ms (i + 1 + 1))) (bs (i + 1)).ghost (ms (i + 1)).body.kept (ms (i + 1)).body.intake.phase (bs i).ghost.place
    (ms (i + 1 + 1)).body.kept (ms (i + 1 + 1)).body.outlet.phase (bs (i + 1 + 1)).ghost.place c

pub lifted_at : (step : Move) (i : ℕ) (ms : ℕ → Stand) (bs : ℕ → Between) (c : Around) → Keeps ms bs → around_move step (around_at ms bs (i + 1)) ≡ Ok c → LiftedAt step i ms bs c
lifted_at step i ms bs c k done =
    moves_keep step (link_between (ms (i + 1)) (bs (i + 1)) (ms (i + 1 + 1))) (bs (i + 1)).ghost (ms (i + 1)).body.kept (ms (i + 1)).body.intake.phase (bs i).ghost.place
    (ms (i + 1 + 1)).body.kept (ms (i + 1 + 1)).body.outlet.phase (bs (i + 1 + 1)).ghost.place c done (k.neighbours.at (i + 1)).pair (k.machines.at i).boards (k.machines.at (i + 1)).boards

one_less : (i j : ℕ) → j + 1 ≡ i + 1 → i ≡ j
one_less i j is = omega (arith, is)

two_more : (n : ℕ) → n + 1 + 1 ≡ n + 2
two_more n = omega arith

-- the relation of the line goes on
pub move_keeps : (step : Move) (i : ℕ) (ms : ℕ → Stand) (bs : ℕ → Between) (ms2 : ℕ → Stand) (bs2 : ℕ → Between) (c : Around) (gone : ℕ → Bool)
    → Keeps ms bs → around_move step (around_at ms bs (i + 1)) ≡ Ok c → Grows (bs (i + 1)).gone gone → AreTaken gone step (bs (i + 1)).gap.lies → AreApart ms2 bs2
    → (lifted : LiftedAt step i ms bs c) → IsMoved i ms bs ms2 bs2 c lifted.place gone → Keeps ms2 bs2
move_keeps step i ms bs ms2 bs2 c gone k done grows taken apart lifted m =
    let move : IsMove step (around_at ms bs (i + 1)) c = move_is step (around_at ms bs (i + 1)) c done in
    let old : Neighbours (ms (i + 1)) (bs (i + 1)) (ms (i + 1 + 1)) = k.neighbours.at (i + 1) in
    let up : Stand = record { body = (ms (i + 1)).body; place = c.up } in
    let down : Stand = record { body = (ms (i + 1 + 1)).body; place = c.down } in
    let now : Between = record { ghost = record { place = lifted.place; board = (bs (i + 1)).ghost.board }; stands = (bs (i + 1)).stands; gap = c.between; up = (bs (i + 1)).up; down = (bs (i + 1)).down; gone = gone } in
    let here : Neighbours up now down = record {
      pair = lifted.pair;
      contents = contents_gone grows old.contents;
      holds = holds_moved lifted.moves old.pair.gap old.pair.out old.pair.in taken old.holds;
    } in
    let own_up : Owns (bs i) up now = record { boards = lifted.body; entry_role = (k.machines.at i).entry_role; exit_role = (k.machines.at i).exit_role; offers = (k.machines.at i).offers; recent = (k.machines.at i).recent } in
    let own_down : Owns now down (bs (i + 1 + 1)) = record { boards = lifted.below; entry_role = (k.machines.at (i + 1)).entry_role; exit_role = (k.machines.at (i + 1)).exit_role; offers = (k.machines.at (i + 1)).offers; recent = (k.machines.at (i + 1)).recent } in
    record {
      neighbours = each_around Neighbours (i + 1) ms bs ms2 bs2 m.changes k.neighbours
          (subst (λ (x : Stand). Neighbours (ms2 (i + 1)) (bs2 (i + 1)) x) (sym m.down) (subst (λ (x : Between). Neighbours (ms2 (i + 1)) x down) (sym m.between) (subst (λ (x : Stand). Neighbours x now down) (sym m.up) here)))
          (λ j is. subst (λ (n : ℕ). Neighbours (ms n) (bs n) (ms2 (i + 1))) (one_less i j is) (subst (λ (x : Stand). Neighbours (ms i) (bs i) x) (sym m.up) (same_below (ms i) (bs i) (ms (i + 1)) c.up (entry_stays move) (k.neighbours.at i))))
          (subst (λ (n : ℕ). Neighbours (ms2 (i + 1 + 1)) (bs (i + 1 + 1)) (ms n)) (two_more (i + 1)) (subst (λ (x : Stand). Neighbours x (bs (i + 1 + 1)) (ms (i + 1 + 1 + 1))) (sym m.down) (same_above (ms (i + 1 + 1)) (bs (i + 1 + 1)) (ms (i + 1 + 1 + 1)) c.down (exit_stays move) (k.neighbours.at (i + 1 + 1)))));
      machines = body_around Owns (i + 1) ms bs ms2 bs2 m.changes k.machines
          (λ j is. subst (λ (n : ℕ). Owns (bs n) (ms2 (i + 1)) (bs2 (i + 1))) (one_less i j is) (subst (λ (x : Stand). Owns (bs i) x (bs2 (i + 1))) (sym m.up) (subst (λ (x : Between). Owns (bs i) up x) (sym m.between) own_up)))
          (subst (λ (x : Between). Owns x (ms2 (i + 1 + 1)) (bs (i + 1 + 1))) (sym m.between) (subst (λ (x : Stand). Owns now x (bs (i + 1 + 1))) (sym m.down) own_down));
      apart = apart;
    }

-- THE CUSTODY FACTS of a line that stands in its relation.
use Rattle.std.proofs.Common.{Bool, List, None, Option, Some, [], ap, arith, eq-eqb, eqb-true, false, inl, inr, map, refl, subst, suc, sym, true, zero, ℕ, ◌++◌, ◌+◌, ◌-◌, ◌||◌, ◌∙◌, ◌∷◌, ◌≡◌, ◌⊎◌}
use Rattle.std.proofs.lemmas.List.{map-append}
use Rattle.std.proofs.lemmas.Bool.{or_right}
use Rattle.law_one_standing.proofs.Elsewhere.{next_machine}
use Rattle.line_base.specs.declared.states.SensorEvent.{SensorEvent}
use Rattle.line_base.specs.declared.states.SensorEvent.TheVariants as event
use Rattle.board_record.specs.declared.record.Record.{Record}
use Rattle.line_world.specs.FloorPlan.{gap_at, has_id, machine_at}
use Rattle.line_world.specs.declared.board.Board.{Board}
use Rattle.line_world.specs.declared.gap.Gap.{Gap}
use Rattle.line_world.specs.declared.gap.Gap.TheVariants as gaps
use Rattle.handover_out.specs.State.{board_of_phase as held_out}
use Rattle.handover_in.specs.State.{board_of_phase as held_in}
use Rattle.node_core.specs.Own.{id_of, ids_of}
use Rattle.law_custody.specs.Contents.{Kept, kept_first, kept_later}
use Rattle.law_custody.specs.Facts.{TellsOf, tells_across, tells_inside, tells_lost, tells_stolen}
use Rattle.law_custody.specs.Floor.{GapAt, gap_begun, gap_fresh, gap_home, gap_inside, gap_left, gap_lost, gap_stolen}
use Rattle.law_custody.specs.Pair.{LinkState, board_of, part}
use Rattle.law_custody.specs.Place.{Across, Fresh, Home, InGap, Inside, Lost, Place, Stolen, is_away, is_inside, is_upstream}
use Rattle.law_custody.proofs.Facts.{out_holds}
use Rattle.law_custody.proofs.Promised.{board_across, board_begun, board_gone, board_left, one_record}
use Rattle.law_machine_custody.specs.Good.{Lies, lies_first, lies_later}
use Rattle.line_step.specs.Numbered.{node_at}
use Rattle.line_step.specs.State.{LineState, owned_by}
use Rattle.law_one_standing.specs.Carried.{Trace, between_of, stand_of}
use Rattle.law_one_standing.specs.Facts.{AreInOrder, HasCustodyFacts, IsHeldBy, IsNowhere, IsUnread, LiesBegun, LiesLeft, board_with, held_here, is_in_list, is_taken_at}
use Rattle.law_one_standing.specs.Places.{LiesIn, at_machine, in_gap, lies_at, lies_begun, lies_in, lies_left}
use Rattle.law_one_standing.specs.Relation.{link_between}
use Rattle.law_one_standing.specs.Standing.{is_held_at}
use Rattle.law_one_standing.specs.Stands.{Stands}
use Rattle.law_one_standing.specs.Waits.{AreWaiting}
use Rattle.law_one_standing.proofs.Carrying.{SaysAlone}
use Rattle.law_one_standing.proofs.FactsFlight.{free_behind}
use Rattle.law_one_standing.proofs.MarksOf.{held_id, id_held}
use Rattle.law_one_standing.proofs.MarksPlace.{AtLink, InPart, Part, back, between_two, front, in_back, in_front, in_middle, intake_at, is_between, is_listed, is_middle, middle, number_of, one_link, one_position, outlet_at, part_lies_at}
use Rattle.law_one_standing.proofs.OneStand.{has_end}

abbrev link_of : Trace → LineState → ℕ → LinkState
link_of t s gap = link_between (stand_of s gap) (between_of t s gap) (stand_of s (gap + 1))

holding : (s : LineState) (gap id : ℕ) → is_held_at s gap id ≡ true → (r : Record) × (held_out (node_at s gap).lane.body.outlet.phase ≡ Some r) × (r.id ≡ id)
holding s gap id held = id_held id (held_out (node_at s gap).lane.body.outlet.phase) held

-- ---- in a gap

begun_of : {t : Trace} {s : LineState} (gap : ℕ) (board : Board) → Stands t s → (gap_at s.world.floor gap).lies ≡ gaps.Begun board → IsHeldBy (is_held_at s gap) board
begun_of {t} {s} gap board st is =
    let found = board_begun (t.ghost gap) (link_of t s gap) board (st.keeps.neighbours.at gap).pair is in
    record { id = (t.ghost gap).board.id; named = found.1; held = held_id (t.ghost gap).board.id (held_out (node_at s gap).lane.body.outlet.phase) (t.ghost gap).board found.0 refl }

left_of : {t : Trace} {s : LineState} (gap : ℕ) (board : Board) → Stands t s → (gap_at s.world.floor gap).lies ≡ gaps.Left board → IsHeldBy (is_taken_at s (gap + 1)) board
left_of {t} {s} gap board st is =
    let found = board_across (t.ghost gap) (link_of t s gap) board (st.keeps.neighbours.at gap).pair is in
    record { id = (t.ghost gap).board.id; named = found.1; held = held_id (t.ghost gap).board.id (held_in (node_at s (gap + 1)).lane.body.intake.phase) (t.ghost gap).board found.0 refl }

-- ---- what an outlet holds whose board is elsewhere

tells : {t : Trace} {s : LineState} (gap : ℕ) {r : Record} {seen : SensorEvent} → Stands t s → held_out (node_at s gap).lane.body.outlet.phase ≡ Some r → TellsOf (t.ghost gap).place seen → IsUnread s gap seen
tells {t} {s} gap {r} {seen} st e told = board_gone (t.ghost gap) (link_of t s gap) r seen (st.keeps.neighbours.at gap).pair e told

-- where the board of what an outlet holds lies, by the place of the ghost
lies_above : {t : Trace} {s : LineState} (gap : ℕ) {r : Record} {x : ℕ} → Stands t s → held_out (node_at s gap).lane.body.outlet.phase ≡ Some r → r.id ≡ x → is_upstream (t.ghost gap).place ≡ true → Lies x (machine_at s.world.floor gap).boards
lies_above {t} {s} gap st e same up = part_lies_at (has_end t s st) st.keeps (in_front e same up)

lies_below : {t : Trace} {s : LineState} (gap : ℕ) {r : Record} {x : ℕ} → Stands t s → held_out (node_at s gap).lane.body.outlet.phase ≡ Some r → r.id ≡ x → is_inside (t.ghost gap).place ≡ true → Lies x (machine_at s.world.floor (gap + 1)).boards
lies_below {t} {s} gap {r} st e same inside = part_lies_at (has_end t s st) st.keeps (in_back gap refl ((st.keeps.neighbours.at gap).holds.inside r e inside) same inside)

begun_by : {lies : Gap} {p : Place} {r : Record} → GapAt lies p r → p ≡ InGap → lies ≡ gaps.Begun (board_of r)
begun_by gap_begun is = refl
begun_by gap_fresh is = absurd (cc)
begun_by gap_home is = absurd (cc)
begun_by gap_left is = absurd (cc)
begun_by gap_inside is = absurd (cc)
begun_by gap_lost is = absurd (cc)
begun_by gap_stolen is = absurd (cc)

left_by : {lies : Gap} {p : Place} {r : Record} → GapAt lies p r → p ≡ Across → lies ≡ gaps.Left (board_of r)
left_by gap_left is = refl
left_by gap_fresh is = absurd (cc)
left_by gap_home is = absurd (cc)
left_by gap_begun is = absurd (cc)
left_by gap_inside is = absurd (cc)
left_by gap_lost is = absurd (cc)
left_by gap_stolen is = absurd (cc)

ghost_is : {t : Trace} {s : LineState} (gap : ℕ) {r : Record} {x : ℕ} → Stands t s → held_out (node_at s gap).lane.body.outlet.phase ≡ Some r → r.id ≡ x → (t.ghost gap).board.id ≡ x
ghost_is gap st e same = ap (λ (q : Record). q.id) (out_holds (st.keeps.neighbours.at gap).pair.out e) ∙ same

lies_begun_at : {t : Trace} {s : LineState} (gap : ℕ) {r : Record} {x : ℕ} → Stands t s → held_out (node_at s gap).lane.body.outlet.phase ≡ Some r → r.id ≡ x → (t.ghost gap).place ≡ InGap → LiesBegun s gap x
lies_begun_at {s = s} gap st e same at =
    subst (λ (y : ℕ). LiesBegun s gap y) (ghost_is gap st e same) (begun_by (st.keeps.neighbours.at gap).pair.gap at)

lies_left_at : {t : Trace} {s : LineState} (gap : ℕ) {r : Record} {x : ℕ} → Stands t s → held_out (node_at s gap).lane.body.outlet.phase ≡ Some r → r.id ≡ x → (t.ghost gap).place ≡ Across → LiesLeft s gap x
lies_left_at {s = s} gap st e same at =
    subst (λ (y : ℕ). LiesLeft s gap y) (ghost_is gap st e same) (left_by (st.keeps.neighbours.at gap).pair.gap at)

not_spot : {machine gap : ℕ} → in_gap gap ≡ at_machine machine → ⊥
not_spot e = cc

-- the place of a board that lies in the list of the next machine
inside_by : {t : Trace} {s : LineState} (gap : ℕ) {r : Record} {x : ℕ} → Stands t s → held_out (node_at s gap).lane.body.outlet.phase ≡ Some r → r.id ≡ x → Lies x (machine_at s.world.floor (gap + 1)).boards
    → (p : Place) → (t.ghost gap).place ≡ p → TellsOf p event.Left
inside_by gap {x = x} st e same here Fresh at = absurd (next_machine gap (st.keeps.apart.one_place x (at_machine gap) (at_machine (gap + 1)) (lies_at (lies_above gap st e same (ap is_upstream at))) (lies_at here)))
inside_by gap {x = x} st e same here Home at = absurd (next_machine gap (st.keeps.apart.one_place x (at_machine gap) (at_machine (gap + 1)) (lies_at (lies_above gap st e same (ap is_upstream at))) (lies_at here)))
inside_by gap {x = x} st e same here InGap at = absurd (not_spot (st.keeps.apart.one_place x (in_gap gap) (at_machine (gap + 1)) (lies_in (subst (λ (lies : Gap). LiesIn x lies) (sym (lies_begun_at gap st e same at)) lies_begun)) (lies_at here)))
inside_by gap st e same here Across at = tells_across
inside_by gap st e same here Inside at = tells_inside
inside_by {s = s} gap {r = r} st e same here Lost at = absurd (st.keeps.apart.nowhere gap r.id (at_machine (gap + 1)) ((st.keeps.neighbours.at gap).holds.away_out r e (ap is_away at)) (lies_at (subst (λ (y : ℕ). Lies y (machine_at s.world.floor (gap + 1)).boards) (sym same) here)))
inside_by {s = s} gap {r = r} st e same here Stolen at = absurd (st.keeps.apart.nowhere gap r.id (at_machine (gap + 1)) ((st.keeps.neighbours.at gap).holds.away_out r e (ap is_away at)) (lies_at (subst (λ (y : ℕ). Lies y (machine_at s.world.floor (gap + 1)).boards) (sym same) here)))

inside_of : {t : Trace} {s : LineState} (gap id : ℕ) → Stands t s → is_held_at s gap id ≡ true → Lies id (machine_at s.world.floor (gap + 1)).boards → IsUnread s gap event.Left
inside_of {t} {s} gap id st held here =
    let own = holding s gap id held in
    tells gap st own.1 (inside_by gap st own.1 own.2 here (t.ghost gap).place refl)

left_over : {t : Trace} {s : LineState} (gap other id : ℕ) → Stands t s → is_held_at s gap id ≡ true → LiesLeft s other id → IsUnread s gap event.Left
left_over {t} {s} gap other id st held lies =
    let own = holding s gap id held in
    let out : AtLink (stand_of s) (between_of t s) id gap false = outlet_at false (st.keeps.neighbours.at gap) own.1 own.2 in
    let across : AtLink (stand_of s) (between_of t s) id other true = record { position = between_two other; is = is_between (subst (λ (g : Gap). LiesIn id g) (sym lies) lies_left); number = refl; unkept = λ _. refl } in
    let same : other ≡ gap = one_link (has_end t s st) st.keeps across out in
    board_left (t.ghost gap) (link_of t s gap) own.0 (board_with id) (st.keeps.neighbours.at gap).pair own.1 (subst (λ (n : ℕ). LiesLeft s n id) same lies)

-- the place of one that is nowhere
taken_by : {t : Trace} {s : LineState} (gap : ℕ) {r : Record} {x : ℕ} → Stands t s → held_out (node_at s gap).lane.body.outlet.phase ≡ Some r → r.id ≡ x → IsNowhere s x → (p : Place) → (t.ghost gap).place ≡ p → TellsOf p event.Taken
taken_by gap st e same none Fresh at = absurd (none.unlisted gap (lies_above gap st e same (ap is_upstream at)))
taken_by gap st e same none Home at = absurd (none.unlisted gap (lies_above gap st e same (ap is_upstream at)))
taken_by gap st e same none InGap at = absurd (none.unbegun gap (lies_begun_at gap st e same at))
taken_by gap st e same none Across at = absurd (none.unleft gap (lies_left_at gap st e same at))
taken_by gap st e same none Inside at = absurd (none.unlisted (gap + 1) (lies_below gap st e same (ap is_inside at)))
taken_by gap st e same none Lost at = tells_lost
taken_by gap st e same none Stolen at = tells_stolen

taken_of : {t : Trace} {s : LineState} (gap id : ℕ) → Stands t s → is_held_at s gap id ≡ true → IsNowhere s id → IsUnread s gap event.Taken
taken_of {t} {s} gap id st held none =
    let own = holding s gap id held in
    tells gap st own.1 (taken_by gap st own.1 own.2 none (t.ghost gap).place refl)

-- ---- the order of a list

lies_found : {x : ℕ} {boards : List Board} → Lies x boards → is_in_list x boards ≡ true
lies_found (lies_first {x = x}) = rw (eq-eqb x x refl) refl
lies_found {x = x} (lies_later {b = b} {bs = bs} l) = or_right (has_id x b) (is_in_list x bs) (lies_found l)

found_first : (x : ℕ) (own : Option ℕ) (bs : List Board) (b : Bool) → has_id x (record { id = own }) ≡ b → (b || is_in_list x bs) ≡ true → (is_in_list x bs ≡ true → Lies x bs) → Lies x (record { id = own } ∷ bs)
found_first x None bs true is found later = absurd (let h : false ≡ true = is in cc)
found_first x (Some own) bs true is found later = subst (λ (y : ℕ). Lies x (record { id = Some y } ∷ bs)) (sym (eqb-true own x is)) lies_first
found_first x own bs false is found later = lies_later (later found)

found_lies : (x : ℕ) (boards : List Board) → is_in_list x boards ≡ true → Lies x boards
found_lies x [] found = absurd (let h : false ≡ true = found in cc)
found_lies x (board ∷ boards) found = found_first x board.id boards (has_id x board) refl found (found_lies x boards)

lies_either : {x : ℕ} (xs ys : List Board) → Lies x (xs ++ ys) → Lies x xs ⊎ Lies x ys
lies_either [] ys l = inr l
lies_either (b ∷ xs) ys lies_first = inl lies_first
lies_either (b ∷ xs) ys (lies_later l) = elim (lies_either xs ys l) [ inl before ↦ inl (lies_later before) | inr behind ↦ inr behind ]

part_of : {x : ℕ} (h : Option Record) (b : Bool) → Lies x (part h b) → (r : Record) × (h ≡ Some r) × (r.id ≡ x) × (b ≡ true)
part_of None b l = elim l [ ]
part_of (Some r) true lies_first = (r, refl, refl, refl)
part_of (Some r) true (lies_later l) = elim l [ ]
part_of (Some r) false l = elim l [ ]

kept_of : {x : ℕ} (rs : List Record) → Lies x (map board_of rs) → Kept x rs
kept_of [] l = elim l [ ]
kept_of (r ∷ rs) lies_first = kept_first
kept_of (r ∷ rs) (lies_later l) = kept_later (kept_of rs l)

-- a board of a list is in one of its parts
in_part : {t : Trace} {s : LineState} {x : ℕ} (j : ℕ) → Stands t s → Lies x (machine_at s.world.floor (j + 1)).boards → (a : Part) × InPart (stand_of s) (between_of t s) x (j + 1) a
in_part {t} {s} {x} j st l =
    let o : Option Record = held_out (node_at s (j + 1)).lane.body.outlet.phase in
    let rs : List Record = (node_at s (j + 1)).lane.body.kept in
    let i : Option Record = held_in (node_at s (j + 1)).lane.body.intake.phase in
    let up : Bool = is_upstream (t.ghost (j + 1)).place in
    let inside : Bool = is_inside (t.ghost j).place in
    elim (lies_either (part o up) (map board_of rs ++ part i inside) (subst (λ (bs : List Board). Lies x bs) (st.keeps.machines.at j).boards.same l)) [
      | inl first ↦ let own = part_of o up first in (front, in_front own.1 own.2 own.3)
      | inr behind ↦ elim (lies_either (map board_of rs) (part i inside) behind) [
        | inl kept ↦ (middle, in_middle (kept_of rs kept))
        | inr last ↦ let own = part_of i inside last in (back, in_back j refl own.1 own.2 own.3)
      ]
    ]

-- what an outlet holds is in the list only where it is upstream
out_elsewhere : {t : Trace} {s : LineState} {x : ℕ} {a : Part} (j : ℕ) {r : Record} → Stands t s → held_out (node_at s (j + 1)).lane.body.outlet.phase ≡ Some r → r.id ≡ x → is_upstream (t.ghost (j + 1)).place ≡ false
    → InPart (stand_of s) (between_of t s) x (j + 1) a → ⊥
out_elsewhere j st e same away (in_front _ _ up) = let h : true ≡ false = sym up ∙ away in cc
out_elsewhere {t} {s} {x} j st e same away (in_middle kept) =
    let out : AtLink (stand_of s) (between_of t s) x (j + 1) false = outlet_at false (st.keeps.neighbours.at (j + 1)) e same in
    let h : true ≡ false = ap is_middle (one_position (has_end t s st) st.keeps (is_listed (in_middle kept)) out.is) ∙ out.unkept refl in
    cc
out_elsewhere {t} {s} {x} j st e same away (in_back k is f also inside) =
    let out : AtLink (stand_of s) (between_of t s) x (j + 1) false = outlet_at false (st.keeps.neighbours.at (j + 1)) e same in
    let h : j + 1 - 1 ≡ j + 1 = ap number_of (one_position (has_end t s st) st.keeps (is_listed (in_back k is f also inside)) out.is) ∙ out.number in
    omega (arith, h)

-- and what an intake holds only where it is inside
in_elsewhere : {t : Trace} {s : LineState} {x : ℕ} {a : Part} (j : ℕ) {r : Record} → Stands t s → held_in (node_at s (j + 1)).lane.body.intake.phase ≡ Some r → r.id ≡ x → is_inside (t.ghost j).place ≡ false
    → InPart (stand_of s) (between_of t s) x (j + 1) a → ⊥
in_elsewhere {t} {s} {x} j st e same away (in_front f also up) =
    let at : AtLink (stand_of s) (between_of t s) x j true = intake_at (st.keeps.neighbours.at j) e same in
    let h : j + 1 ≡ j = ap number_of (one_position (has_end t s st) st.keeps (is_listed (in_front f also up)) at.is) ∙ at.number in
    omega (arith, h)
in_elsewhere {t} {s} {x} j st e same away (in_middle kept) =
    let at : AtLink (stand_of s) (between_of t s) x j true = intake_at (st.keeps.neighbours.at j) e same in
    let h : j + 1 ≡ j = ap number_of (one_position (has_end t s st) st.keeps (is_listed (in_middle kept)) at.is) ∙ at.number in
    omega (arith, h)
in_elsewhere {t} j st e same away (in_back k is f also inside) =
    let at : k ≡ j = omega (arith, is) in
    let h : true ≡ false = sym inside ∙ ap (λ (n : ℕ). is_inside (t.ghost n).place) at ∙ away in
    cc

found_where : (found there : Bool) → (there ≡ true → found ≡ true) → (there ≡ false → found ≡ true → ⊥) → found ≡ there
found_where found true held other = held refl
found_where true false held other = absurd (other refl refl)
found_where false false held other = refl

part_here : (h : Option Record) (there : Bool) (boards : List Board) → ((r : Record) → h ≡ Some r → is_in_list r.id boards ≡ there) → map board_with (held_here (id_of h) boards) ≡ part h there
part_here None there boards each = refl
part_here (Some r) true boards each = rw (each r refl) refl
part_here (Some r) false boards each = rw (each r refl) refl

boards_kept : (rs : List Record) → map board_with (ids_of rs) ≡ map board_of rs
boards_kept [] = refl
boards_kept (r ∷ rs) = ap (λ (bs : List Board). board_of r ∷ bs) (boards_kept rs)

order_at : {t : Trace} {s : LineState} (j : ℕ) → Stands t s → AreInOrder (owned_by (node_at s (j + 1))) (machine_at s.world.floor (j + 1)).boards
order_at {t} {s} j st =
    let boards : List Board = (machine_at s.world.floor (j + 1)).boards in
    let o : Option Record = held_out (node_at s (j + 1)).lane.body.outlet.phase in
    let rs : List Record = (node_at s (j + 1)).lane.body.kept in
    let i : Option Record = held_in (node_at s (j + 1)).lane.body.intake.phase in
    let up : Bool = is_upstream (t.ghost (j + 1)).place in
    let inside : Bool = is_inside (t.ghost j).place in
    let first : map board_with (held_here (id_of o) boards) ≡ part o up =
    part_here o up boards (λ r e. found_where (is_in_list r.id boards) up (λ is. lies_found (part_lies_at (has_end t s st) st.keeps (in_front e refl is))) (λ away found. out_elsewhere j st e refl away (in_part j st (found_lies r.id boards found)).1)) in
    let last : map board_with (held_here (id_of i) boards) ≡ part i inside =
    part_here i inside boards (λ r e. found_where (is_in_list r.id boards) inside (λ is. lies_found (part_lies_at (has_end t s st) st.keeps (in_back j refl e refl is))) (λ away found. in_elsewhere j st e refl away (in_part j st (found_lies r.id boards found)).1)) in
    (st.keeps.machines.at j).boards.same ∙ sym (map-append board_with (held_here (id_of o) boards) (ids_of rs ++ held_here (id_of i) boards) ∙ rw (first, map-append board_with (ids_of rs) (held_here (id_of i) boards), boards_kept rs, last) refl)

order_of : {t : Trace} {s : LineState} (machine : ℕ) → Stands t s → AreInOrder (owned_by (node_at s machine)) (machine_at s.world.floor machine).boards
order_of zero st = refl
order_of {s = s} (suc j) st = let next : j + 1 ≡ suc j = omega arith in subst (λ (m : ℕ). AreInOrder (owned_by (node_at s m)) (machine_at s.world.floor m).boards) next (order_at j st)

-- ---- and all of them

pub facts_of : SaysAlone → (t : Trace) (s : LineState) → Stands t s → AreWaiting s → HasCustodyFacts s
facts_of alone t s st waits = record {
  begun = λ gap board is. begun_of gap board st is;
  left = λ gap board is. left_of gap board st is;
  left_unread = λ gap other id held lies. left_over gap other id st held lies;
  inside_unread = λ gap id held here. inside_of gap id st held here;
  taken_unread = λ gap id held none. taken_of gap id st held none;
  free = λ gap messages opened means lets. free_behind alone gap messages st waits opened means lets;
  order = λ machine. order_of machine st;
  one_record = λ gap above below out into. one_record (t.ghost gap) (link_of t s gap) above below (st.keeps.neighbours.at gap).pair out into;
}

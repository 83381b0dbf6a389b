-- Boards are put in, taken out, replaced and marked by hand, at a machine that has read all events.
use Rattle.std.proofs.Common.{Bool, List, None, Option, Some, [], ap, eqb-true, false, nat_eq, refl, subst, sym, true, ℕ, ◌++◌, ◌==◌, ◌∙◌, ◌∷◌, ◌≡◌, ◌⊎◌, if◌then◌else◌}
use Rattle.line_base.specs.declared.states.Quality.{Quality}
use Rattle.board_record.specs.Record.{plain_record}
use Rattle.board_record.specs.declared.record.Record.{Record}
use Rattle.board_record.specs.declared.sensed.Sensed.{Sensed}
use Rattle.board_record.specs.declared.sub_board.SubBoard.{SubBoard}
use Rattle.line_world.specs.FloorPlan.{has_id, with_new_id, without_board}
use Rattle.line_world.specs.declared.board.Board.{Board}
use Rattle.handover_out.specs.State.{board_of_phase as held_out}
use Rattle.handover_in.specs.declared.phase.Phase.{Phase as In}
use Rattle.handover_in.specs.declared.phase.Phase.TheVariants as inn
use Rattle.node_core.specs.Boards.{adds_sub, gives, if_kept, inserts, is_kept, marks, removes, replaces, takes_sub, with_instead, with_kept, with_mark, with_sub, without}
use Rattle.node_core.specs.Desk.{Desk}
use Rattle.node_core.specs.declared.act.Act.TheVariants as acts
use Rattle.node_core.specs.declared.lane.Body.{Body as Machine}
use Rattle.node_core.proofs.First.{takes_kept}
use Rattle.law_custody.specs.Contents.{Foremost}
use Rattle.law_custody.specs.Events.{IsContent, gone_by}
use Rattle.law_custody.specs.Hands.{IsOther, PutFor, TakenOut, out_here, out_later, put_here, put_later}
use Rattle.law_custody.specs.Pair.{Body, Ghost}
use Rattle.law_custody.proofs.Hands.{body_inserted, body_marked}
use Rattle.law_custody.proofs.HandsContents.{contents_given, contents_inserted, contents_marked, contents_removed, contents_replaced}
use Rattle.law_custody.proofs.HandsFloor.{removes_board, replaces_board}
use Rattle.law_machine_custody.specs.Scene.{Scene, all_met, link_below}
use Rattle.law_machine_custody.specs.ByHand.{AreHere, Grows, IsNotLast}
use Rattle.law_machine_custody.specs.Good.{Afar, Good}
use Rattle.law_machine_custody.proofs.Elsewhere.{apart_from}
use Rattle.law_machine_custody.proofs.Keeping.{lies_without}
use Rattle.law_machine_custody.proofs.Holding.{front_given, front_inserted, front_marked, front_replaced, front_taken, holds_more}

-- the relation behind a change of the kept records and of the boards on the floor
by_hand : {afar : Afar} {above : List Record} {us : List Sensed} {ga gb : Ghost} {body : Machine} {c : Scene} (gone2 : ℕ → Bool) (kept : List Record) (boards : List Board)
    → Good afar above us ga gb body c → Grows afar.gone_below gone2 → AreHere gone2 boards → ((x : ℕ) → Foremost x body.last_offer body.kept → Foremost x body.last_offer kept ⊎ (gone2 x ≡ true))
    → Body body.outlet.phase gb.place kept body.intake.phase ga.place boards → IsContent (gone_by gone2) (link_below us body c) kept
    → Good (record afar { gone_below = gone2 }) above us ga gb (record body { kept = kept }) (record c { boards = boards })
by_hand gone2 kept boards g grows here keeps body contents = record {
  above_pair = record { out = g.above_pair.out; «in» = g.above_pair.in; gap = g.above_pair.gap; talk = g.above_pair.talk };
  below_pair = record { out = g.below_pair.out; «in» = g.below_pair.in; gap = g.below_pair.gap; talk = g.below_pair.talk };
  boards = body;
  above_contents = g.above_contents;
  below_contents = contents;
  above_holds = g.above_holds;
  below_holds = holds_more grows keeps g.below_holds;
  entry_role = g.entry_role;
  exit_role = g.exit_role;
  away = g.away;
  here = here;
  recent = g.recent;
}

-- ---- a board is put in

pub inserts_good : {afar : Afar} {above : List Record} {us : List Sensed} {ga gb : Ghost} {body : Machine} {c : Scene} (gone2 : ℕ → Bool) (desk : Desk) (id : ℕ) (barcode : Option (List ℕ))
    → Good afar above us ga gb body c → body.intake.phase ≡ inn.Idle → Grows afar.gone_below gone2 → AreHere gone2 (c.boards ++ record { id = Some id } ∷ [])
    → Good (record afar { gone_below = gone2 }) above us ga gb (inserts desk id barcode body).body (all_met (inserts desk id barcode body).acts c)
inserts_good {ga = ga} {gb = gb} {body = body} {c = c} gone2 desk id barcode g idle grows here =
    let n : Record = plain_record id desk.name barcode in
    by_hand gone2 (body.kept ++ n ∷ []) (c.boards ++ record { id = Some id } ∷ []) g grows here (front_inserted gone2 n)
    (subst (λ (i : In). Body body.outlet.phase gb.place (body.kept ++ n ∷ []) i ga.place (c.boards ++ record { id = Some id } ∷ [])) (sym idle)
    (body_inserted n (subst (λ (i : In). Body body.outlet.phase gb.place body.kept i ga.place c.boards) idle g.boards)))
    (contents_inserted n grows g.below_contents)

-- ---- the first record of an id

record Found (id : ℕ) (kept : List Record) : Type 0 where
  q : Record
  is : q.id ≡ id
  out : TakenOut q kept (without id kept)
  instead : (n : Record) → PutFor q n kept (with_instead id n kept)
  marked : (quality : Quality) → PutFor q (record q { quality = quality }) kept (with_mark id quality kept)
  subbed : (sub : SubBoard) → PutFor q (record q { subs = q.subs ++ sub ∷ [] }) kept (with_sub id sub kept)

found_at : (id : ℕ) (board : Record) (boards : List Record) (test : Bool) → (board.id == id) ≡ test → (if test then true else is_kept id boards) ≡ true
    → (is_kept id boards ≡ true → Found id boards) → Found id (board ∷ boards)
found_at id board boards true same there later = record {
  q = board;
  is = eqb-true board.id id same;
  out = subst (λ t. TakenOut board (board ∷ boards) (if t then boards else board ∷ without id boards)) (sym same) out_here;
  instead = λ n. subst (λ t. PutFor board n (board ∷ boards) (if t then n ∷ boards else board ∷ with_instead id n boards)) (sym same) put_here;
  marked = λ quality. subst (λ t. PutFor board (record board { quality = quality }) (board ∷ boards) (if t then record board { quality = quality } ∷ boards else board ∷ with_mark id quality boards)) (sym same) put_here;
  subbed = λ sub. subst (λ t. PutFor board (record board { subs = board.subs ++ sub ∷ [] }) (board ∷ boards) (if t then record board { subs = board.subs ++ sub ∷ [] } ∷ boards else board ∷ with_sub id sub boards)) (sym same) put_here;
}
found_at id board boards false same there later =
    let f = later there in
    let other : has_id f.q.id (record { id = Some board.id }) ≡ false = subst (λ x. nat_eq board.id x ≡ false) (sym f.is) same in
    record {
      q = f.q;
      is = f.is;
      out = subst (λ t. TakenOut f.q (board ∷ boards) (if t then boards else board ∷ without id boards)) (sym same) (out_later other f.out);
      instead = λ n. subst (λ t. PutFor f.q n (board ∷ boards) (if t then n ∷ boards else board ∷ with_instead id n boards)) (sym same) (put_later other (f.instead n));
      marked = λ quality. subst (λ t. PutFor f.q (record f.q { quality = quality }) (board ∷ boards) (if t then record board { quality = quality } ∷ boards else board ∷ with_mark id quality boards)) (sym same) (put_later other (f.marked quality));
      subbed = λ sub. subst (λ t. PutFor f.q (record f.q { subs = f.q.subs ++ sub ∷ [] }) (board ∷ boards) (if t then record board { subs = board.subs ++ sub ∷ [] } ∷ boards else board ∷ with_sub id sub boards)) (sym same) (put_later other (f.subbed sub));
    }

found_in : (id : ℕ) (kept : List Record) → is_kept id kept ≡ true → Found id kept
found_in id [] there = cc
found_in id (board ∷ boards) there = found_at id board boards (board.id == id) refl there (found_in id boards)

-- ---- a board is taken out, replaced, marked, gets a circuit

-- the outlet's board is another than that of this id
abbrev pub IsElsewhere : ℕ → Machine → Type 0
IsElsewhere id body = (q : Record) → q.id ≡ id → IsOther q (held_out body.outlet.phase)

removes_by : {afar : Afar} {above : List Record} {us : List Sensed} {ga gb : Ghost} {body : Machine} {c : Scene} (gone2 : ℕ → Bool) (id : ℕ) (test : Bool) → is_kept id body.kept ≡ test → test ≡ true
    → Good afar above us ga gb body c → IsElsewhere id body → Grows afar.gone_below gone2 → gone2 id ≡ true → AreHere gone2 (without_board id c.boards)
    → Good (record afar { gone_below = gone2 }) above us ga gb (if_kept test (record body { kept = without id body.kept }) (acts.Removes id) body).body (all_met (if_kept test (record body { kept = without id body.kept }) (acts.Removes id) body).acts c)
removes_by {ga = ga} {gb = gb} {body = body} {c = c} gone2 id true there is g elsewhere grows is_gone here =
    let f = found_in id body.kept there in
    by_hand gone2 (without id body.kept) (without_board id c.boards) g grows here (front_taken gone2 (subst (λ x. gone2 x ≡ true) (sym f.is) is_gone) f.out)
    (subst (λ x. Body body.outlet.phase gb.place (without id body.kept) body.intake.phase ga.place (without_board x c.boards)) f.is (removes_board f.out (elsewhere f.q f.is) g.boards))
    (contents_removed grows (subst (λ x. gone2 x ≡ true) (sym f.is) is_gone) f.out g.below_contents)
removes_by gone2 id false there is g elsewhere grows is_gone here = cc

pub removes_good : {afar : Afar} {above : List Record} {us : List Sensed} {ga gb : Ghost} {body : Machine} {c : Scene} (gone2 : ℕ → Bool) (id : ℕ) → is_kept id body.kept ≡ true
    → Good afar above us ga gb body c → IsElsewhere id body → Grows afar.gone_below gone2 → gone2 id ≡ true → AreHere gone2 (without_board id c.boards)
    → Good (record afar { gone_below = gone2 }) above us ga gb (removes id body).body (all_met (removes id body).acts c)
removes_good {body = body} gone2 id there g elsewhere grows is_gone here = removes_by gone2 id (is_kept id body.kept) refl there g elsewhere grows is_gone here

replaces_by : {afar : Afar} {above : List Record} {us : List Sensed} {ga gb : Ghost} {body : Machine} {c : Scene} (gone2 : ℕ → Bool) (desk : Desk) (old new : ℕ) (test : Bool) → is_kept old body.kept ≡ test → test ≡ true
    → Good afar above us ga gb body c → IsElsewhere old body → Grows afar.gone_below gone2 → gone2 old ≡ true → AreHere gone2 (with_new_id old new c.boards)
    → Good (record afar { gone_below = gone2 }) above us ga gb (if_kept test (record body { kept = with_instead old (plain_record new desk.name None) body.kept }) (acts.Replaces old new) body).body (all_met (if_kept test (record body { kept = with_instead old (plain_record new desk.name None) body.kept }) (acts.Replaces old new) body).acts c)
replaces_by {ga = ga} {gb = gb} {body = body} {c = c} gone2 desk old new true there is g elsewhere grows is_gone here =
    let f = found_in old body.kept there in
    let n : Record = plain_record new desk.name None in
    by_hand gone2 (with_instead old n body.kept) (with_new_id old new c.boards) g grows here (front_replaced gone2 (subst (λ x. gone2 x ≡ true) (sym f.is) is_gone) (f.instead n))
    (subst (λ x. Body body.outlet.phase gb.place (with_instead old n body.kept) body.intake.phase ga.place (with_new_id x new c.boards)) f.is (replaces_board (f.instead n) (elsewhere f.q f.is) g.boards))
    (contents_replaced grows (subst (λ x. gone2 x ≡ true) (sym f.is) is_gone) (f.instead n) g.below_contents)
replaces_by gone2 desk old new false there is g elsewhere grows is_gone here = cc

pub replaces_good : {afar : Afar} {above : List Record} {us : List Sensed} {ga gb : Ghost} {body : Machine} {c : Scene} (gone2 : ℕ → Bool) (desk : Desk) (old new : ℕ) → is_kept old body.kept ≡ true
    → Good afar above us ga gb body c → IsElsewhere old body → Grows afar.gone_below gone2 → gone2 old ≡ true → AreHere gone2 (with_new_id old new c.boards)
    → Good (record afar { gone_below = gone2 }) above us ga gb (replaces desk old new body).body (all_met (replaces desk old new body).acts c)
replaces_good {body = body} gone2 desk old new there g elsewhere grows is_gone here = replaces_by gone2 desk old new (is_kept old body.kept) refl there g elsewhere grows is_gone here

marks_by : {afar : Afar} {above : List Record} {us : List Sensed} {ga gb : Ghost} {body : Machine} {c : Scene} (id : ℕ) (quality : Quality) (test : Bool) → is_kept id body.kept ≡ test
    → Good afar above us ga gb body c → (body.outlet.touched ≡ Some id → ⊥)
    → Good afar above us ga gb (if_kept test (record body { kept = with_mark id quality body.kept }) (acts.Marks id quality) body).body (all_met (if_kept test (record body { kept = with_mark id quality body.kept }) (acts.Marks id quality) body).acts c)
marks_by {afar = afar} {ga = ga} {gb = gb} {body = body} {c = c} id quality true there g untouched =
    let f = found_in id body.kept there in
    by_hand afar.gone_below (with_mark id quality body.kept) c.boards g (λ x is. is) g.here (front_marked afar.gone_below {q = f.q} {n = record f.q { quality = quality }} refl (f.marked quality))
    (body_marked {q = f.q} {n = record f.q { quality = quality }} refl (f.marked quality) g.boards)
    (contents_marked {q = f.q} {n = record f.q { quality = quality }} refl (λ is. untouched (is ∙ ap (λ x. Some x) f.is)) (f.marked quality) g.below_contents)
marks_by id quality false there g untouched = g

pub marks_good : {afar : Afar} {above : List Record} {us : List Sensed} {ga gb : Ghost} {body : Machine} {c : Scene} (id : ℕ) (quality : Quality)
    → Good afar above us ga gb body c → (body.outlet.touched ≡ Some id → ⊥)
    → Good afar above us ga gb (marks id quality body).body (all_met (marks id quality body).acts c)
marks_good {body = body} id quality g untouched = marks_by id quality (is_kept id body.kept) refl g untouched

subs_by : {afar : Afar} {above : List Record} {us : List Sensed} {ga gb : Ghost} {body : Machine} {c : Scene} (id : ℕ) (sub : SubBoard) (test : Bool) → takes_sub id sub body.kept ≡ test
    → Good afar above us ga gb body c → (body.outlet.touched ≡ Some id → ⊥)
    → Good afar above us ga gb (if_kept test (record body { kept = with_sub id sub body.kept }) (acts.Subs id sub.pos) body).body (all_met (if_kept test (record body { kept = with_sub id sub body.kept }) (acts.Subs id sub.pos) body).acts c)
subs_by {afar = afar} {ga = ga} {gb = gb} {body = body} {c = c} id sub true there g untouched =
    let f = found_in id body.kept (takes_kept id sub body.kept there) in
    by_hand afar.gone_below (with_sub id sub body.kept) c.boards g (λ x is. is) g.here (front_marked afar.gone_below {q = f.q} {n = record f.q { subs = f.q.subs ++ sub ∷ [] }} refl (f.subbed sub))
    (body_marked {q = f.q} {n = record f.q { subs = f.q.subs ++ sub ∷ [] }} refl (f.subbed sub) g.boards)
    (contents_marked {q = f.q} {n = record f.q { subs = f.q.subs ++ sub ∷ [] }} refl (λ is. untouched (is ∙ ap (λ x. Some x) f.is)) (f.subbed sub) g.below_contents)
subs_by id sub false there g untouched = g

pub subs_good : {afar : Afar} {above : List Record} {us : List Sensed} {ga gb : Ghost} {body : Machine} {c : Scene} (id : ℕ) (sub : SubBoard)
    → Good afar above us ga gb body c → (body.outlet.touched ≡ Some id → ⊥)
    → Good afar above us ga gb (adds_sub id sub body).body (all_met (adds_sub id sub body).acts c)
subs_good {body = body} id sub g untouched = subs_by id sub (takes_sub id sub body.kept) refl g untouched

-- ---- a board is given to another lane, and one comes from there

-- one that wasn't offered last: what the outlet holds was, so it is another, and nothing names it
pub gives_good : {afar : Afar} {above : List Record} {us : List Sensed} {ga gb : Ghost} {body : Machine} {c : Scene} (id : ℕ) → is_kept id body.kept ≡ true → (body.last_offer ≡ Some id → ⊥)
    → Good afar above us ga gb body c → AreHere afar.gone_below (without_board id c.boards)
    → Good afar above us ga gb (with_kept (without id body.kept) body) (record c { boards = without_board id c.boards })
gives_good {afar = afar} {ga = ga} {gb = gb} {body = body} {c = c} id there other g here =
    let f = found_in id body.kept there in
    let last : body.last_offer ≡ Some f.q.id → ⊥ = λ is. other (is ∙ ap (λ x. Some x) f.is) in
    let apart : IsOther f.q (held_out body.outlet.phase) = apart_from f.q (held_out body.outlet.phase) (λ r held same. last (g.recent.held r held ∙ ap (λ x. Some x) (sym same))) in
    by_hand afar.gone_below (without id body.kept) (without_board id c.boards) g (λ x is. is) here (front_given afar.gone_below last f.out)
    (subst (λ x. Body body.outlet.phase gb.place (without id body.kept) body.intake.phase ga.place (without_board x c.boards)) f.is (removes_board f.out apart g.boards))
    (contents_given last f.out g.below_contents)

pub gets_good : {afar : Afar} {above : List Record} {us : List Sensed} {ga gb : Ghost} {body : Machine} {c : Scene} (board : Record) → body.intake.phase ≡ inn.Idle
    → Good afar above us ga gb body c → AreHere afar.gone_below (c.boards ++ record { id = Some board.id } ∷ [])
    → Good afar above us ga gb (with_kept (body.kept ++ board ∷ []) body) (record c { boards = c.boards ++ record { id = Some board.id } ∷ [] })
gets_good {afar = afar} {ga = ga} {gb = gb} {body = body} {c = c} board idle g here =
    by_hand afar.gone_below (body.kept ++ board ∷ []) (c.boards ++ record { id = Some board.id } ∷ []) g (λ x is. is) here (front_inserted afar.gone_below board)
    (subst (λ (i : In). Body body.outlet.phase gb.place (body.kept ++ board ∷ []) i ga.place (c.boards ++ record { id = Some board.id } ∷ [])) (sym idle)
    (body_inserted board (subst (λ (i : In). Body body.outlet.phase gb.place body.kept i ga.place c.boards) idle g.boards)))
    (contents_inserted board (λ x is. is) g.below_contents)

-- the micro event, whether the board is kept or not
gives_by : {afar : Afar} {above : List Record} {us : List Sensed} {ga gb : Ghost} {body : Machine} {c : Scene} (id to : ℕ) (test : Bool) → is_kept id body.kept ≡ test → IsNotLast id body
    → Good afar above us ga gb body c
    → Good afar above us ga gb (if_kept test (with_kept (without id body.kept) body) (acts.Gives id to) body).body (all_met (if_kept test (with_kept (without id body.kept) body) (acts.Gives id to) body).acts c)
gives_by {c = c} id to true there other g = gives_good id there other g (λ x l. g.here x (lies_without id c.boards l))
gives_by id to false there other g = g

pub goes_to_lane : {afar : Afar} {above : List Record} {us : List Sensed} {ga gb : Ghost} {body : Machine} {c : Scene} (id to : ℕ) → IsNotLast id body
    → Good afar above us ga gb body c → Good afar above us ga gb (gives id to body).body (all_met (gives id to body).acts c)
goes_to_lane {body = body} id to other g = gives_by id to (is_kept id body.kept) refl other g

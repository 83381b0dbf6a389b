-- A machine makes a step that leaves sensor events unread: the relation by numbers goes on.
use Rattle.std.proofs.Common.{Bool, List, Option, subst, sym, ℕ, ◌+◌, ◌≡◌}
use Rattle.board_record.specs.declared.record.Record.{Record}
use Rattle.board_record.specs.declared.sensed.Sensed.{Sensed}
use Rattle.session_core.specs.declared.state.SessionState.{SessionState}
use Rattle.line_world.specs.FloorPlan.{AtMachine}
use Rattle.handover_out.specs.State.{OutState}
use Rattle.handover_in.specs.State.{InState}
use Rattle.node_core.specs.Halves.{OffersFront}
use Rattle.node_core.specs.declared.lane.Body.{Body as Machine}
use Rattle.law_custody.specs.Events.{IsContent, gone_by}
use Rattle.law_custody.specs.Pair.{Ghost, Pair}
use Rattle.law_machine_custody.specs.Good.{Goes, Good, Holds, ListsAbove, ListsBelow}
use Rattle.law_machine_custody.specs.Scene.{Scene, link_above, link_below}
use Rattle.line_step.specs.Numbered.{Changes}
use Rattle.line_step.proofs.Changing.{body_step, each_step}
use Rattle.law_one_standing.specs.Kept.{Keeps}
use Rattle.law_one_standing.specs.Places.{AreApart}
use Rattle.law_one_standing.specs.Relation.{Between, Neighbours, Owns, Stand}
use Rattle.law_one_standing.proofs.Steps.{SameAbove, SameBelow, above_then, afar_of, below_then, lists_above, lists_below, same_number, next_number}

-- ---- what is there behind the step

abbrev pub me_left : Machine → List Sensed → Scene → Stand
me_left body rest d = record { body = body; place = record { boards = d.boards; unread = rest } }

above_after : {elsewhere gone : ℕ → Bool} (above : Stand) (ba : Between) (a b : Ghost) (body : Machine) (rest : List Sensed) (d : Scene) → SameAbove above d → Good (afar_of elsewhere ba gone) above.body.kept rest a b body d
    → Neighbours above (above_then a ba d) (me_left body rest d)
above_after above ba a b body rest d same g =
    record {
      pair = subst (λ (x : AtMachine). Pair a (link_above rest body (record d { above = record d.above { exit = above.body.exit.session.state; outlet = above.body.outlet; last_offer = above.body.last_offer; far = x } }))) same.far
          (subst (λ (z : Option ℕ). Pair a (link_above rest body (record d { above = record d.above { exit = above.body.exit.session.state; outlet = above.body.outlet; last_offer = z } }))) same.last
          (subst (λ (o : OutState). Pair a (link_above rest body (record d { above = record d.above { exit = above.body.exit.session.state; outlet = o } }))) same.outlet
          (subst (λ (s : SessionState). Pair a (link_above rest body (record d { above = record d.above { exit = s } }))) same.exit g.above_pair)));
      contents = subst (λ (z : Option ℕ). IsContent (gone_by ba.gone) (link_above rest body (record d { above = record d.above { outlet = above.body.outlet; last_offer = z } })) above.body.kept) same.last
          (subst (λ (o : OutState). IsContent (gone_by ba.gone) (link_above rest body (record d { above = record d.above { outlet = o } })) above.body.kept) same.outlet g.above_contents);
      holds = subst (λ (z : Option ℕ). Holds ba.gone above.body.kept z a.place above.body.outlet.phase body.intake.phase) same.last
          (subst (λ (o : OutState). Holds ba.gone above.body.kept d.above.last_offer a.place o.phase body.intake.phase) same.outlet g.above_holds);
    }

below_after : {elsewhere gone : ℕ → Bool} {kept : List Record} (below : Stand) (ba : Between) (a b : Ghost) (body : Machine) (rest : List Sensed) (d : Scene) → SameBelow below d → Good (afar_of elsewhere ba gone) kept rest a b body d
    → Neighbours (me_left body rest d) (below_then b gone d) below
below_after {gone = gone} below ba a b body rest d same g = record {
  pair = subst (λ (x : AtMachine). Pair b (link_below rest body (record d { below = record d.below { entry = below.body.entry.session.state; intake = below.body.intake; far = x } }))) same.far
      (subst (λ (i : InState). Pair b (link_below rest body (record d { below = record d.below { entry = below.body.entry.session.state; intake = i } }))) same.intake
      (subst (λ (s : SessionState). Pair b (link_below rest body (record d { below = record d.below { entry = s } }))) same.entry g.below_pair));
  contents = subst (λ (i : InState). IsContent (gone_by gone) (link_below rest body (record d { below = record d.below { intake = i } })) body.kept) same.intake g.below_contents;
  holds = subst (λ (i : InState). Holds gone body.kept body.last_offer b.place body.outlet.phase i.phase) same.intake g.below_holds;
}

owns_after : {elsewhere gone : ℕ → Bool} {kept : List Record} (ba : Between) (a b : Ghost) (body : Machine) (rest : List Sensed) (d : Scene) → Good (afar_of elsewhere ba gone) kept rest a b body d → OffersFront body
    → Owns (above_then a ba d) (me_left body rest d) (below_then b gone d)
owns_after ba a b body rest d g offers = record { boards = g.boards; entry_role = g.entry_role; exit_role = g.exit_role; offers = offers; recent = g.recent }

-- ---- along the line

pub record Steps (j : ℕ) (ms : ℕ → Stand) (bs : ℕ → Between) (ms2 : ℕ → Stand) (bs2 : ℕ → Between) (a b : Ghost) (gone : ℕ → Bool) (body : Machine) (rest : List Sensed) (d : Scene) : Type 0 where
  pub changes : Changes (j + 1) ms bs ms2 bs2
  pub me : ms2 (j + 1) ≡ me_left body rest d
  pub above : bs2 j ≡ above_then a (bs j) d
  pub below : bs2 (j + 1) ≡ below_then b gone d

pub step_keeps : {elsewhere gone : ℕ → Bool} (j : ℕ) (ms : ℕ → Stand) (bs : ℕ → Between) (ms2 : ℕ → Stand) (bs2 : ℕ → Between) (body : Machine) (rest : List Sensed) (c d : Scene)
    → c.above.outlet ≡ (ms j).body.outlet → c.below.intake ≡ (ms (j + 1 + 1)).body.intake
    → Keeps ms bs → SameAbove (ms j) d → SameBelow (ms (j + 1 + 1)) d
    → (g : Goes (afar_of elsewhere (bs j) gone) (ms j).body.kept rest (bs j).ghost (bs (j + 1)).ghost c body d)
    → OffersFront body → AreApart ms2 bs2
    → Steps j ms bs ms2 bs2 g.a g.b gone body rest d → Keeps ms2 bs2
step_keeps {gone = gone} j ms bs ms2 bs2 body rest c d outlet intake k up down g offers apart s =
    let above_lists : ListsAbove (ms j).body.outlet.phase (bs j).ghost d.above.outlet.phase g.a = subst (λ (o : OutState). ListsAbove o.phase (bs j).ghost d.above.outlet.phase g.a) outlet g.lists_above in
    let below_lists : ListsBelow (ms (j + 1 + 1)).body.intake.phase (bs (j + 1)).ghost d.below.intake.phase g.b = subst (λ (i : InState). ListsBelow i.phase (bs (j + 1)).ghost d.below.intake.phase g.b) intake g.lists_below in
    let near_above : Neighbours (ms j) (above_then g.a (bs j) d) (me_left body rest d) = above_after (ms j) (bs j) g.a g.b body rest d up g.good in
    let near_below : Neighbours (me_left body rest d) (below_then g.b gone d) (ms (j + 1 + 1)) = below_after (ms (j + 1 + 1)) (bs j) g.a g.b body rest d down g.good in
    let own : Owns (above_then g.a (bs j) d) (me_left body rest d) (below_then g.b gone d) = owns_after (bs j) g.a g.b body rest d g.good offers in
    record {
      neighbours = each_step Neighbours (j + 1) ms bs ms2 bs2 s.changes k.neighbours
          (subst (λ (m : Stand). Neighbours m (bs2 (j + 1)) (ms (j + 1 + 1))) (sym s.me) (subst (λ (x : Between). Neighbours (me_left body rest d) x (ms (j + 1 + 1))) (sym s.below) near_below))
          (λ i is. subst (λ (n : ℕ). Neighbours (ms n) (bs2 n) (ms2 (j + 1))) (same_number i j is) (subst (λ (m : Stand). Neighbours (ms j) (bs2 j) m) (sym s.me) (subst (λ (x : Between). Neighbours (ms j) x (me_left body rest d)) (sym s.above) near_above)));
      machines = body_step Owns (j + 1) ms bs ms2 bs2 s.changes k.machines
          (λ i is. subst (λ (n : ℕ). Owns (bs2 n) (ms2 (j + 1)) (bs2 (j + 1))) (same_number i j is)
          (subst (λ (m : Stand). Owns (bs2 j) m (bs2 (j + 1))) (sym s.me) (subst (λ (x : Between). Owns x (me_left body rest d) (bs2 (j + 1))) (sym s.above) (subst (λ (x : Between). Owns (above_then g.a (bs j) d) (me_left body rest d) x) (sym s.below) own))))
          (subst (λ (x : Between). Owns x (ms (j + 1 + 1)) (bs (j + 1 + 1))) (sym s.below) (lists_below (ms (j + 1 + 1)) (bs (j + 1)) (bs (j + 1 + 1)) g.b d down below_lists (k.machines.at (j + 1))))
          (λ i is. subst (λ (n : ℕ). Owns (bs i) (ms n) (bs2 n)) (sym (next_number i j is))
          (subst (λ (x : Between). Owns (bs i) (ms j) x) (sym s.above)
          (lists_above (bs i) (ms j) (bs j) g.a d up above_lists (subst (λ (n : ℕ). Owns (bs i) (ms n) (bs n)) (next_number i j is) (k.machines.at i)))));
      apart = apart;
    }

-- A link at a side is cut: the relation holds on, and what acts do they do behind a cut as before it.
use Rattle.std.proofs.Common.{List, [], ap, false, refl, ◌∙◌, ◌∷◌, ◌≡◌}
use Rattle.line_base.specs.declared.states.Side.{Side}
use Rattle.line_base.specs.declared.states.Side.TheVariants.{Entry, Exit}
use Rattle.board_record.specs.declared.record.Record.{Record}
use Rattle.board_record.specs.declared.sensed.Sensed.{Sensed}
use Rattle.node_core.specs.declared.act.Act.{Act}
use Rattle.node_core.specs.declared.act.Act.TheVariants as acts
use Rattle.node_core.specs.declared.lane.Body.{Body as Machine}
use Rattle.law_custody.specs.Pair.{Ghost}
use Rattle.law_custody.proofs.LinkEvents.{cut_contents, is_cut}
use Rattle.law_machine_custody.specs.Scene.{Scene, all_met, link_above, link_below, met}
use Rattle.law_machine_custody.specs.Good.{Afar, Goes, Good}
use Rattle.law_machine_custody.specs.Joined.{with_link}

-- a cut of the link at a side
abbrev pub cut_at : Side → Scene → Scene
cut_at side c = with_link side false [] [] c

pub cut_good : {afar : Afar} {above : List Record} {us : List Sensed} {ga gb : Ghost} {body : Machine} {c : Scene} (side : Side)
    → Good afar above us ga gb body c → Good afar above us ga gb body (cut_at side c)
cut_good {above = above} {us = us} {ga = ga} {body = body} {c = c} Entry g = record {
  above_pair = is_cut ga (link_above us body c) g.above_pair;
  below_pair = g.below_pair;
  boards = g.boards;
  above_contents = cut_contents (link_above us body c) above g.above_contents;
  below_contents = g.below_contents;
  above_holds = g.above_holds;
  below_holds = g.below_holds;
  entry_role = g.entry_role;
  exit_role = g.exit_role;
  away = g.away;
  here = g.here;
  recent = g.recent;
}
cut_good {us = us} {gb = gb} {body = body} {c = c} Exit g = record {
  above_pair = g.above_pair;
  below_pair = is_cut gb (link_below us body c) g.below_pair;
  boards = g.boards;
  above_contents = g.above_contents;
  below_contents = cut_contents (link_below us body c) body.kept g.below_contents;
  above_holds = g.above_holds;
  below_holds = g.below_holds;
  entry_role = g.entry_role;
  exit_role = g.exit_role;
  away = g.away;
  here = g.here;
  recent = g.recent;
}

pub cut_goes : {afar : Afar} {above : List Record} {us : List Sensed} {ga gb : Ghost} {c d : Scene} {after : Machine} (side : Side)
    → Goes afar above us ga gb c after d → Goes afar above us ga gb c after (cut_at side d)
cut_goes Entry t = record { a = t.a; b = t.b; good = cut_good Entry t.good; lists_above = t.lists_above; lists_below = t.lists_below; still_first = t.still_first; still_over = t.still_over }
cut_goes Exit t = record { a = t.a; b = t.b; good = cut_good Exit t.good; lists_above = t.lists_above; lists_below = t.lists_below; still_first = t.still_first; still_over = t.still_over }

met_cut : (side : Side) (act : Act) (c : Scene) → met act (cut_at side c) ≡ cut_at side (met act c)
met_cut Entry (acts.Hears Entry message) c = refl
met_cut Entry (acts.Hears Exit message) c = refl
met_cut Exit (acts.Hears Entry message) c = refl
met_cut Exit (acts.Hears Exit message) c = refl
met_cut Entry (acts.Sends Entry message) c = refl
met_cut Entry (acts.Sends Exit message) c = refl
met_cut Exit (acts.Sends Entry message) c = refl
met_cut Exit (acts.Sends Exit message) c = refl
met_cut Entry (acts.Closes Entry) c = refl
met_cut Entry (acts.Closes Exit) c = refl
met_cut Exit (acts.Closes Entry) c = refl
met_cut Exit (acts.Closes Exit) c = refl
met_cut Entry (acts.Notices Entry) c = refl
met_cut Entry (acts.Notices Exit) c = refl
met_cut Exit (acts.Notices Entry) c = refl
met_cut Exit (acts.Notices Exit) c = refl
met_cut Entry (acts.Drive Entry on) c = refl
met_cut Entry (acts.Drive Exit on) c = refl
met_cut Exit (acts.Drive Entry on) c = refl
met_cut Exit (acts.Drive Exit on) c = refl
met_cut _ _ c = refl

pub all_met_cut : (side : Side) (told : List Act) (c : Scene) → all_met told (cut_at side c) ≡ cut_at side (all_met told c)
all_met_cut side [] c = refl
all_met_cut side (act ∷ others) c = ap (all_met others) (met_cut side act c) ∙ all_met_cut side others (met act c)

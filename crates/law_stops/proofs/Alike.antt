-- A stop and turn 0 make one machine of one.
use Rattle.std.proofs.Common.{◌≡◌, ℕ, ℤ, false, List, [], Result, Ok, Err, refl, sym, ap, subst}
use Rattle.line_base.specs.declared.states.Side.{Side}
use Rattle.line_base.specs.declared.states.Side.TheVariants.{Entry, Exit}
use Rattle.node_core.specs.May.{may_of}
use Rattle.node_core.specs.Node.{NodeState}
use Rattle.node_core.specs.declared.input.Input.TheVariants as inputs
use Rattle.node_core.specs.declared.input.No.{No}
use Rattle.law_node_runs.proofs.Nodes.{Alike, may_same, node_once}
use Rattle.restart_book.specs.Exactly.{AreOne}
use Rattle.law_stops.specs.Stops.{LosesPower, NoticesIf, StopIsTurnZero, StopsLosePower, TurnZeroLosesPower}
use Rattle.law_stops.proofs.Momentless.{at_moment}

alike_of : (a b : NodeState) → AreOne a b → Alike a b
alike_of a b one = record {
  spent = refl;
  name = one.name;
  number = one.number;
  capacity = one.capacity;
  maker = one.maker;
  bridge = one.bridge;
  forecasts = one.forecasts;
  supervised = one.supervised;
  orders = one.orders;
  body = one.body;
  entry = one.entry;
  exit = one.exit;
}

one_of : (a b : NodeState) → Alike a b → AreOne a b
one_of a b alike = record {
  name = alike.name;
  number = alike.number;
  capacity = alike.capacity;
  maker = alike.maker;
  bridge = alike.bridge;
  forecasts = alike.forecasts;
  supervised = alike.supervised;
  orders = alike.orders;
  body = alike.body;
  entry = alike.entry;
  exit = alike.exit;
}

notice_once : (may : Result (Unit {0}) No) (side : Side) (a b a' b' : NodeState) → Alike a b → NoticesIf may side a a' → NoticesIf may side b b' → Alike a' b'
notice_once (Ok done) side a b a' b' alike one two =
    let moved = at_moment side b b' two.0 one.0 two.1 two.2 in
    (node_once a b a' b' [] (inputs.Notice side) one.0 one.1 moved.0 alike tt one.2 moved.1).alike
notice_once (Err why) side a b a' b' alike one two = subst (λ (n : NodeState). Alike n b') (sym one) (subst (λ (n : NodeState). Alike a n) (sym two) alike)

both_once : (side : Side) (a b a' b' : NodeState) → Alike a b → NoticesIf (may_of a (inputs.Notice side)) side a a' → NoticesIf (may_of b (inputs.Notice side)) side b b' → Alike a' b'
both_once side a b a' b' alike one two =
    notice_once (may_of a (inputs.Notice side)) side a b a' b' alike one (subst (λ (may : Result (Unit {0}) No). NoticesIf may side b b') (may_same (inputs.Notice side) a b alike) two)

loses_once : (a b a' b' : NodeState) → Alike a b → LosesPower a a' → LosesPower b b' → Alike a' b'
loses_once a b a' b' alike one two = both_once Exit one.between two.between a' b' (both_once Entry a b one.between two.between alike one.entry two.entry) one.exit two.exit

pub stop_is_turn_0 : StopsLosePower → TurnZeroLosesPower → StopIsTurnZero
stop_is_turn_0 script turn s machine points node after own rules settings drives moments t calls log entries together there read play ends same run at place =
    let loses : LosesPower node after = script s machine points node after together there read play ends in
    let gone = turn rules settings own drives moments t calls log entries run at place in
    record {
      alone = gone.after;
      one = one_of after gone.after (loses_once node own after gone.after (alike_of node own same) loses gone.loses);
      unsupervised = gone.unsupervised;
    }

-- A machine that has read a front of its events, or all, stands in the relation behind them.
use Rattle.std.proofs.Common.{List, [], refl, sym, ◌++◌, ◌∙◌, ◌∷◌, ◌≡◌}
use Rattle.line_base.specs.declared.states.SensorEvent.{SensorEvent}
use Rattle.line_base.specs.declared.states.Side.TheVariants.{Entry}
use Rattle.board_record.specs.declared.record.Record.{Record}
use Rattle.board_record.specs.declared.sensed.Sensed.{Sensed}
use Rattle.node_core.specs.Desk.{Desk}
use Rattle.node_core.specs.declared.lane.Body.{Body as Machine}
use Rattle.law_custody.specs.Pair.{Ghost}
use Rattle.law_custody.specs.Words.{events_at}
use Rattle.law_custody.proofs.Lists.{entry-append}
use Rattle.law_machine_custody.specs.Scene.{Scene}
use Rattle.law_machine_custody.specs.Good.{Afar, Good}
use Rattle.law_machine_custody.specs.Ahead.{IsFreeRead}
use Rattle.law_machine_custody.specs.ByHand.{body_read, scene_read}
use Rattle.law_machine_custody.proofs.Announcing.{all_free_read}
use Rattle.law_machine_custody.proofs.Fronts.{front_free, front_good}
use Rattle.law_machine_custody.proofs.Reading.{all_read_good}

-- of these events, before which the relation stood with more unread, the rest is unread behind them
pub record Reads (afar : Afar) (above : List Record) (seen rest : List Sensed) (ga gb : Ghost) (desk : Desk) (read : List Sensed) (body : Machine) (c : Scene) : Type 0 where
  pub before : Good afar above seen ga gb body c
  pub after : Good afar above rest ga gb (body_read desk read body) (scene_read desk read body c)
  pub free : IsFreeRead rest (body_read desk read body)
  pub none : events_at Entry seen ≡ [] → events_at Entry read ≡ []

pub reads_all : {afar : Afar} {above : List Record} {ga gb : Ghost} (desk : Desk) (unread : List Sensed) (body : Machine) (c : Scene)
    → Good afar above unread ga gb body c → Reads afar above unread [] ga gb desk unread body c
reads_all desk unread body c g = record { before = g; after = all_read_good desk unread body c g; free = all_free_read; none = λ is. is }

none_first : (xs ys : List SensorEvent) → xs ++ ys ≡ [] → xs ≡ []
none_first [] ys is = refl
none_first (x ∷ xs) ys is = cc

pub reads_front : {afar : Afar} {above : List Record} {ga gb : Ghost} (desk : Desk) (read rest : List Sensed) (body : Machine) (c : Scene)
    → Good afar above (read ++ rest) ga gb body c → IsFreeRead (read ++ rest) body → Reads afar above (read ++ rest) rest ga gb desk read body c
reads_front desk read rest body c g r = record {
  before = g;
  after = front_good desk read rest body c g;
  free = front_free desk read rest body c g r;
  none = λ is. none_first (events_at Entry read) (events_at Entry rest) (sym (entry-append read rest) ∙ is);
}

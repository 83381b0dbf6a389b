-- Each move on the floor, as the floor answers it.
use Rattle.std.proofs.Common.{List, Ok, ◌≡◌}
use Rattle.board_record.specs.declared.record.Record.{Record}
use Rattle.line_world.specs.Moves.{Around, around_move}
use Rattle.line_world.specs.declared.moves.Move.{Move}
use Rattle.line_world.specs.declared.moves.Move.TheVariants as moves
use Rattle.handover_out.specs.declared.phase.Phase.{Phase as Out}
use Rattle.handover_in.specs.declared.phase.Phase.{Phase as In}
use Rattle.law_custody.specs.Floors.{Lifted}
use Rattle.law_custody.specs.Pair.{Body, Ghost, LinkState, Pair}
use Rattle.law_custody.specs.Place.{Place}
use Rattle.law_custody.proofs.LiftBack.{lift_back, lift_take}
use Rattle.law_custody.proofs.LiftIn.{lift_enter, lift_hand_in}
use Rattle.law_custody.proofs.LiftOut.{lift_begin, lift_left}

pub moves_keep : (step : Move) (l : LinkState) (g : Ghost) (kept : List Record) (j : In) (q : Place) (kept2 : List Record) (o2 : Out) (p2 : Place) (c : Around)
    → around_move step l.around ≡ Ok c → Pair g l → Body l.outlet.phase g.place kept j q l.around.up.boards → Body o2 p2 kept2 l.intake.phase g.place l.around.down.boards
    → Lifted step l g kept j q kept2 o2 p2 c
moves_keep moves.Begin l g kept j q kept2 o2 p2 c = lift_begin l g kept j q kept2 o2 p2 c l.around.between.exit_drive l.around.between.entry_drive l.around.between.lies l.around.up.boards l.around.down.boards l.around.up.unread l.around.down.unread
moves_keep moves.Left l g kept j q kept2 o2 p2 c = lift_left l g kept j q kept2 o2 p2 c l.around.between.exit_drive l.around.between.entry_drive l.around.between.lies l.around.up.boards l.around.down.boards l.around.up.unread l.around.down.unread
moves_keep moves.Enter l g kept j q kept2 o2 p2 c = lift_enter l g kept j q kept2 o2 p2 c l.around.between.exit_drive l.around.between.entry_drive l.around.between.lies l.around.up.boards l.around.down.boards l.around.up.unread l.around.down.unread
moves_keep moves.Back l g kept j q kept2 o2 p2 c = lift_back l g kept j q kept2 o2 p2 c l.around.between.exit_drive l.around.between.entry_drive l.around.between.lies l.around.up.boards l.around.down.boards l.around.up.unread l.around.down.unread
moves_keep moves.HandIn l g kept j q kept2 o2 p2 c = lift_hand_in l g kept j q kept2 o2 p2 c l.around.between.exit_drive l.around.between.entry_drive l.around.between.lies l.around.up.boards l.around.down.boards l.around.up.unread l.around.down.unread
moves_keep moves.Take l g kept j q kept2 o2 p2 c = lift_take l g kept j q kept2 o2 p2 c l.around.between.exit_drive l.around.between.entry_drive l.around.between.lies l.around.up.boards l.around.down.boards l.around.up.unread l.around.down.unread

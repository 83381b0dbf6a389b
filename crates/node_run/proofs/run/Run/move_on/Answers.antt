use Rattle.std.proofs.Common.{sym, subst}
use Rattle.node_run.specs.Next.{IsTurnLeft}
use Rattle.node_run.specs.State.{RunView}
use Rattle.node_run.proofs.run.Run.move_on.Goals as goal

pub turn_behind-self-inside-requires : goal.turn_behind-self-inside-requires
turn_behind-self-inside-requires c =
    let P : RunView → Type 0 = λ v. IsTurnLeft v.state.place v.state.turn v.rules.turns in subst P (sym c.self.view_is) c.requires

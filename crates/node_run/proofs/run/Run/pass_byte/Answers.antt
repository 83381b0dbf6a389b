use Rattle.std.proofs.Common.{refl}
use Rattle.node_run.proofs.Cutting.{byte_passed}
use Rattle.node_run.proofs.run.Run.pass_byte.Goals as goal

pub returns : goal.returns
returns c = byte_passed _ _ c.self.inside.done c.self.inside.rest.items c.self.view_is refl

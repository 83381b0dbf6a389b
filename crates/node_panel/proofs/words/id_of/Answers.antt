use Rattle.node_panel.specs.Panel.{id_of}
use Rattle.node_panel.proofs.words.id_of.Goals as goal

pub returns : goal.returns
unfolding id_of
returns c = c.identity.ensures

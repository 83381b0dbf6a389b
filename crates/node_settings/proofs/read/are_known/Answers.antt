use Rattle.std.proofs.Common.{◌∙◌}
use Rattle.node_settings.proofs.Members.{are_known-keys}
use Rattle.node_settings.proofs.read.are_known.Goals as goal

pub returns : goal.returns
returns c = c.are_known_keys.ensures ∙ are_known-keys c.args.table.now.entries

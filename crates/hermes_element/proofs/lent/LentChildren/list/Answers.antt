use Rattle.std.proofs.Common.{◌∙◌, ap, sym}
use Rattle.hermes_element.specs.Element.{trees_of}
use Rattle.hermes_element.proofs.Forests.{trees_of-forest_of}
use Rattle.hermes_element.proofs.lent.LentChildren.list.Goals as goal

pub returns : goal.returns
returns c = c.as_slice.ensures.value ∙ sym (trees_of-forest_of c.self.inside.list.items) ∙ ap trees_of c.self.view_is

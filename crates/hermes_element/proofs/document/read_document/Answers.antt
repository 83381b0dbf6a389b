use Rattle.std.proofs.Common.{[], ap, ◌∙◌, refl}
use Rattle.hermes_element.specs.Machine.{between}
use Rattle.hermes_element.specs.Steps.{as_forest}
use Rattle.hermes_element.specs.declared.place.Place.TheVariants as places
use Rattle.hermes_element.proofs.Running.{stops as stops_at}
use Rattle.hermes_element.proofs.document.read_document.Goals as goal

pub returns-then-end-bytes : goal.returns-then-end-bytes
returns-then-end-bytes c =
    ap (λ o. o.stop) (c.in-Ok.ensures.reads ∙ c.in-Ok-read_root.ensures.reads)
    ∙ stops_at places.End 0 (between (as_forest c.in-Ok-read_root.root) []) c.in-Ok-read_root.end c.args.bytes.now c.if-end-bytes.true refl

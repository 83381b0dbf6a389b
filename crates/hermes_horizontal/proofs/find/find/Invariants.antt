use Rattle.std.proofs.Common.{◌≡◌, IsTrue, map, vec_len}
use Rattle.hermes_horizontal.specs.Fields.{are_apart}
use Rattle.hermes_horizontal.proofs.Finding.{filled}
use Rattle.hermes_horizontal.proofs.find.find.Given as goal

abbrev pub invariant-loop-attribute : goal.invariant-loop-attribute
invariant-loop-attribute l = record {
  apart : IsTrue (are_apart l.fields);
  told : map (filled l.rest.items) l.fields ≡ map (filled l.fn.attributes) l.fn.fields;
}

abbrev pub decreases-loop-attribute : goal.decreases-loop-attribute
decreases-loop-attribute l = vec_len l.rest

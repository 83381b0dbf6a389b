use Rattle.std.proofs.Common.{◌≡◌, ◌++◌, take, drop}
use Rattle.hermes_horizontal.specs.Fields.{placed}
use Rattle.hermes_horizontal.proofs.find.place.Given as goal

abbrev pub invariant-loop-field : goal.invariant-loop-field
invariant-loop-field l = record {
  same : l.attribute ≡ l.fn.attribute;
  fields : l.fields ≡ l.fn.fields;
  told : take l.field-index l.fields ++ placed l.fn.attribute (drop l.field-index l.fields) ≡ placed l.fn.attribute l.fields;
}

use Rattle.std.proofs.Common.{subst, sym}
use Rattle.line_script.specs.Ranges.{IsWithin}
use Rattle.line_script.specs.declared.line.ScriptLine.{ScriptLine}
use Rattle.law_one_standing.specs.Standing.{IsFitLine}
use Rattle.line_engine.proofs.line.is_fit_line.Goals as goal

pub returns-in-Insert : goal.returns-in-Insert
returns-in-Insert c = subst (λ (line : ScriptLine). IsFitLine line) (sym c.in-Insert.is) (c.is_text.ensures c.in-Insert.machine)

pub returns-in-Query : goal.returns-in-Query
returns-in-Query c = subst (λ (line : ScriptLine). IsFitLine line) (sym c.in-Query.is) (c.is_asked.ensures c.in-Query.machine)

pub returns-in-Sub : goal.returns-in-Sub
returns-in-Sub c = subst (λ (line : ScriptLine). IsFitLine line) (sym c.in-Sub.is) (c.is_circuit.ensures c.in-Sub.machine c.in-Sub.id)

pub is_circuit-requires : goal.is_circuit-requires
is_circuit-requires c = (subst (λ (line : ScriptLine). IsWithin line) c.in-Sub.is c.requires).1.most

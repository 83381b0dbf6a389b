use Rattle.hermes_element.proofs.value.read_part.Goals as goal

pub returns-then-byte-eq38-clause-reads : goal.returns-then-byte-eq38-clause-reads
returns-then-byte-eq38-clause-reads c = c.read_escape.ensures.reads c.args.after_cr

pub returns-then-byte-ge128-clause-reads : goal.returns-then-byte-ge128-clause-reads
returns-then-byte-ge128-clause-reads c = c.read_character.ensures.reads c.args.after_cr

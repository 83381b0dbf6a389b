use Rattle.line_link.proofs.Parts.{put_in}
use Rattle.line_link.proofs.texts.Texts.put_in_first.Goals as goal

pub returns-clause-ok : goal.returns-clause-ok
returns-clause-ok c =
    put_in c.self.inside.start c.args.at c.args.byte c.index_mut.result.now c.self.inside.lengths.items c.self.inside.bytes.items c.insert.new.self.items c.args.self.now
    c.self.invariant c.in_default.ensures.items c.self.view_is c.requires.first c.requires.within c.index_mut.ensures.value

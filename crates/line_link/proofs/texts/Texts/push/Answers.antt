use Rattle.std.proofs.Common.{◌≡◌, ◌++◌, ◌∷◌, [], ◌∙◌, length}
use Rattle.line_link.proofs.Parts.{cut_pushed, pushed}
use Rattle.line_link.proofs.texts.Texts.push.Goals as goal

pub returns-clause-ok : goal.returns-clause-ok
returns-clause-ok c =
    let more : c.push_back_reserved.new.self.items ≡ c.self.inside.lengths.items ++ length c.args.text.now ∷ [] = cc in
    pushed c.self.inside.start c.self.inside.lengths.items c.self.inside.bytes.items c.args.text.now _ _ c.args.self.now c.self.invariant
    more c.in_default-extend_from_slice.ensures.items (c.self.view_is ∙ c.close_up.ensures)

pub invariant_of-self-2 : goal.invariant_of-self-2
invariant_of-self-2 c =
    let more : c.push_back_reserved.new.self.items ≡ c.self.inside.lengths.items ++ length c.args.text.now ∷ [] = cc in
    cut_pushed c.self.inside.start c.self.inside.lengths.items c.self.inside.bytes.items c.args.text.now _ _ c.requires c.self.invariant
    more c.in_default-extend_from_slice.ensures.items

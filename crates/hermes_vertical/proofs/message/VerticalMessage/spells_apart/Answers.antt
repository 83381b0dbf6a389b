use Rattle.std.proofs.Common.{ℕ, List, sym, ap, subst}
use Rattle.hermes_vertical.specs.Canonical.{canonical}
use Rattle.hermes_vertical.specs.Spelling.{Spells}
use Rattle.hermes_vertical.proofs.message.VerticalMessage.spells_apart.Goals as goal

pub returns : goal.returns
returns c = λ writable other_writable.
    let a = c.args.self.now in
    let b = c.args.other.now in (
      λ same. c.spelled_once.ensures (canonical a) a b (c.reads_back.ensures writable) (subst (λ (bytes : List ℕ). Spells bytes b) (sym same) (c.reads_back-2.ensures other_writable)),
      λ same. ap canonical same,
    )

use Rattle.std.proofs.Common.{◌≡◌, ◌∙◌, ◌+◌, ◌∷◌, drop, sym, ap}
use Rattle.std.proofs.lemmas.List.{drop_more}
use Rattle.machine_port.specs.Ways.{told_way}
use Rattle.machine_port.proofs.Putting.{told_more}
use Rattle.machine_port.proofs.way.Outgoing.put_told.Goals as goal

pub loop-act-preserved : goal.loop-act-preserved
loop-act-preserved c =
    let i = c.loop-act.act-index in
    let all = c.args.acts.now in
    let rest = drop (i + 1) all in
    let act = c.act-item.result in
    let first : drop i all ≡ act ∷ rest = drop_more all i act c.loop-act-test.true ∙ ap (λ a. a ∷ rest) (sym c.act-item.is) in
    ap (told_way c.args.stands rest) c.in_ok-put_one_told.ensures
    ∙ told_more c.args.stands act rest c.loop-act.self
    ∙ sym (ap (λ l. told_way c.args.stands l c.loop-act.self) first)
    ∙ c.loop-act.invariant

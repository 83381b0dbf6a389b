use Rattle.std.proofs.Common.{◌≡◌, ◌∙◌, ◌+◌, ◌∷◌, drop, sym, ap}
use Rattle.std.proofs.lemmas.List.{drop_more}
use Rattle.node_run.proofs.Taking.{routed_on}
use Rattle.node_run.proofs.run.Run.route.Goals as goal

pub loop-act-preserved : goal.loop-act-preserved
loop-act-preserved c =
    let i = c.loop-act.act-index in
    let all = c.args.acts.now in
    let rest = drop (i + 1) all in
    let first : drop i all ≡ c.act-item.result ∷ rest = drop_more all i c.act-item.result c.loop-act-test.true ∙ ap (λ a. a ∷ rest) (sym c.act-item.is) in
    routed_on c.act-item.result rest (drop i all) c.loop-act.self c.route_one.new.self _ first c.in_ok-route_one.ensures.routed c.loop-act.invariant

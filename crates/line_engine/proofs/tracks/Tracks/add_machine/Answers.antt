use Rattle.std.proofs.Common.{◌≡◌, ◌∙◌, ◌+◌, ◌∷◌, ◌++◌, List, [], ap, length, subst, sym}
use Rattle.std.proofs.lemmas.Result.{on_ok_weaker}
use Rattle.std.proofs.lemmas.List.{with_items_is}
use Rattle.std.specs.List.{AllByRecursion}
use Rattle.std.specs.Vec.{with_items}
use Rattle.node_core.specs.Node.{NodeState}
use Rattle.line_report.specs.Lanes.{on_lane}
use Rattle.line_report.specs.declared.happening.Happening.{Happening}
use Rattle.line_step.specs.Reasons.{may_add, may_do}
use Rattle.line_step.specs.Requests.{adds}
use Rattle.line_step.specs.State.{LineState}
use Rattle.law_lanes.specs.Steps.{RequestDoes}
use Rattle.line_engine.specs.Sharing.{grown}
use Rattle.line_engine.specs.Tracks.{AreKept, HasRoom, TellsDone, made_told}
use Rattle.line_engine.specs.declared.track.Track.{Track}
use Rattle.line_engine.proofs.Adding.{added_kept, added_refused, added_tells, grow, grown_wide, rooms}
use Rattle.line_engine.proofs.tracks.Tracks.add_machine.Goals as goal

pub returns-in-Err-clause-step : goal.returns-in-Err-clause-step
returns-in-Err-clause-step c = λ number lane.
    let first : Track = c.self.inside.first in
    let others : List Track = c.self.inside.others.items in
    let kept : AreKept (first ∷ others) = subst (λ (ts : List Track). AreKept ts) (sym c.self.view_is) c.requires.kept in
    on_ok_weaker c.tell.result (λ is.
    subst (λ (ts : List Track). TellsDone (RequestDoes number lane (adds 1 c.args.is_bridge c.args.capacity c.args.used)) ts ts c.args.told.now c.tell.new.self) c.self.view_is
    (added_refused number lane c.args.is_bridge c.args.capacity c.args.used first others c.in-Err.reason c.args.told.now c.tell.new.self kept (sym c.may_add.ensures ∙ c.in-Err.is) is)) c.tell.ensures.told

pub add_to_all-requires-clause-room : goal.add_to_all-requires-clause-room
add_to_all-requires-clause-room c =
    let first : Track = c.self.inside.first in
    let others : List Track = c.self.inside.others.items in
    let kept : AreKept (first ∷ others) = subst (λ (ts : List Track). AreKept ts) (sym c.self.view_is) c.requires.kept in
    let may : may_add first.state ≡ may_do = sym c.may_add.ensures ∙ c.in_default.is in
    subst (λ (ts : List Track). AllByRecursion HasRoom ts) (sym c.as_mut_slice.ensures.value) (rooms first.state others may kept.alike kept.each.1)

pub returns-clause-step : goal.returns-clause-step
returns-clause-step c = λ number lane.
    let first : Track = c.self.inside.first in
    let others : List Track = c.self.inside.others.items in
    let kept : AreKept (first ∷ others) = subst (λ (ts : List Track). AreKept ts) (sym c.self.view_is) c.requires.kept in
    let may : may_add first.state ≡ may_do = sym c.may_add.ensures ∙ c.in_default.is in
    let now : List Track = (with_items c.self.inside.others c.add_to_all.new.tracks).items in
    let each : c.add_to_all.new.tracks ≡ grown 2 c.args.is_bridge c.args.capacity c.args.used others =
    c.in_ok-add_to_all.ensures ∙ ap (λ (ts : List Track). grown 2 c.args.is_bridge c.args.capacity c.args.used ts) c.as_mut_slice.ensures.value in
    let wide : length c.add_to_all.new.tracks ≡ c.self.inside.others.len =
    ap length each ∙ grown_wide 2 c.args.is_bridge c.args.capacity c.args.used others ∙ ap length (sym c.as_mut_slice.ensures.value) ∙ c.as_mut_slice.ensures.len in
    let rest : now ≡ grown 2 c.args.is_bridge c.args.capacity c.args.used others = with_items_is c.self.inside.others c.add_to_all.new.tracks wide ∙ each in
    let made : c.made.result ≡ made_told c.args.is_bridge (length first.state.machines + 1) c.args.capacity =
    c.made.ensures ∙ ap (λ (ns : List NodeState). made_told c.args.is_bridge (length ns + 1) c.args.capacity) c.machines.ensures in
    let both : record { state = c.add_machine.new.self; index = first.index } ∷ now ≡ grow 1 c.args.is_bridge c.args.capacity c.args.used first ∷ grown 2 c.args.is_bridge c.args.capacity c.args.used others =
    ap (λ (s : LineState). record { state = s; index = first.index } ∷ now) c.in_ok-add_machine.ensures
    ∙ ap (λ (ts : List Track). grow 1 c.args.is_bridge c.args.capacity c.args.used first ∷ ts) rest in
    on_ok_weaker c.tell-2.result (λ is.
    subst (λ (ts : List Track). TellsDone (RequestDoes number lane (adds 1 c.args.is_bridge c.args.capacity c.args.used)) ts (record { state = c.add_machine.new.self; index = first.index } ∷ now) c.args.told.now c.tell-2.new.self) c.self.view_is
    (subst (λ (ts : List Track). TellsDone (RequestDoes number lane (adds 1 c.args.is_bridge c.args.capacity c.args.used)) (first ∷ others) ts c.args.told.now c.tell-2.new.self) (sym both)
    (added_tells number lane c.args.is_bridge c.args.capacity c.args.used first others c.args.told.now c.tell-2.new.self kept may
    (is ∙ ap (λ (h : Happening). c.args.told.now ++ on_lane 1 h ∷ []) made)))) c.tell-2.ensures.told

pub returns-clause-kept : goal.returns-clause-kept
returns-clause-kept c =
    let first : Track = c.self.inside.first in
    let others : List Track = c.self.inside.others.items in
    let kept : AreKept (first ∷ others) = subst (λ (ts : List Track). AreKept ts) (sym c.self.view_is) c.requires.kept in
    let may : may_add first.state ≡ may_do = sym c.may_add.ensures ∙ c.in_default.is in
    let now : List Track = (with_items c.self.inside.others c.add_to_all.new.tracks).items in
    let each : c.add_to_all.new.tracks ≡ grown 2 c.args.is_bridge c.args.capacity c.args.used others =
    c.in_ok-add_to_all.ensures ∙ ap (λ (ts : List Track). grown 2 c.args.is_bridge c.args.capacity c.args.used ts) c.as_mut_slice.ensures.value in
    let wide : length c.add_to_all.new.tracks ≡ c.self.inside.others.len =
    ap length each ∙ grown_wide 2 c.args.is_bridge c.args.capacity c.args.used others ∙ ap length (sym c.as_mut_slice.ensures.value) ∙ c.as_mut_slice.ensures.len in
    let rest : now ≡ grown 2 c.args.is_bridge c.args.capacity c.args.used others = with_items_is c.self.inside.others c.add_to_all.new.tracks wide ∙ each in
    let both : record { state = c.add_machine.new.self; index = first.index } ∷ now ≡ grow 1 c.args.is_bridge c.args.capacity c.args.used first ∷ grown 2 c.args.is_bridge c.args.capacity c.args.used others =
    ap (λ (s : LineState). record { state = s; index = first.index } ∷ now) c.in_ok-add_machine.ensures
    ∙ ap (λ (ts : List Track). grow 1 c.args.is_bridge c.args.capacity c.args.used first ∷ ts) rest in
    on_ok_weaker c.tell-2.result (λ is. subst (λ (ts : List Track). AreKept ts) (sym both) (added_kept c.args.is_bridge c.args.capacity c.args.used first others kept may)) c.tell-2.ensures.told

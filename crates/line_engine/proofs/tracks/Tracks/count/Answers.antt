use Rattle.std.proofs.Common.{◌≡◌, ◌∙◌, ◌∷◌, List, ap, length, map, subst, sym}
use Rattle.std.proofs.lemmas.List.{with_items_is}
use Rattle.std.specs.Vec.{with_items}
use Rattle.line_engine.specs.Sharing.{counted_track}
use Rattle.line_engine.specs.Tracks.{AreKept}
use Rattle.line_engine.specs.declared.track.Track.{Track}
use Rattle.line_engine.proofs.Counting.{counted_all, counted_kept, counted_not, first_counted, wide_counted}
use Rattle.line_engine.proofs.tracks.Tracks.count.Goals as goal

pub returns-then-not-ends-clause-counted : goal.returns-then-not-ends-clause-counted
returns-then-not-ends-clause-counted c = counted_not c.args.ends c.args.self.now c.if-not-ends.true c.requires.kept.alike

pub returns-clause-counted : goal.returns-clause-counted
returns-clause-counted c =
    let first : Track = c.self.inside.first in
    let others : List Track = c.self.inside.others.items in
    let now : List Track = (with_items c.self.inside.others c.count_all.new.tracks).items in
    let each : c.count_all.new.tracks ≡ map (counted_track c.args.number) others = c.count_all.ensures ∙ ap (map (counted_track c.args.number)) c.as_mut_slice.ensures.value in
    let wide : length c.count_all.new.tracks ≡ c.self.inside.others.len = ap length each ∙ wide_counted c.args.number others ∙ ap length (sym c.as_mut_slice.ensures.value) ∙ c.as_mut_slice.ensures.len in
    counted_all c.args.ends c.args.number c.args.self.now (record first { state = c.set_lines.new.self } ∷ now) c.if-not-ends.false c.requires.numbered
    (first_counted c.args.number first others now c.set_lines.new.self c.set_lines.ensures (with_items_is c.self.inside.others c.count_all.new.tracks wide ∙ each)
    ∙ ap (map (counted_track c.args.number)) c.self.view_is)

pub returns-clause-kept : goal.returns-clause-kept
returns-clause-kept c =
    let first : Track = c.self.inside.first in
    let others : List Track = c.self.inside.others.items in
    let now : List Track = (with_items c.self.inside.others c.count_all.new.tracks).items in
    let each : c.count_all.new.tracks ≡ map (counted_track c.args.number) others = c.count_all.ensures ∙ ap (map (counted_track c.args.number)) c.as_mut_slice.ensures.value in
    let wide : length c.count_all.new.tracks ≡ c.self.inside.others.len = ap length each ∙ wide_counted c.args.number others ∙ ap length (sym c.as_mut_slice.ensures.value) ∙ c.as_mut_slice.ensures.len in
    subst (λ (ts : List Track). AreKept ts)
    (sym (first_counted c.args.number first others now c.set_lines.new.self c.set_lines.ensures (with_items_is c.self.inside.others c.count_all.new.tracks wide ∙ each)
    ∙ ap (map (counted_track c.args.number)) c.self.view_is))
    (counted_kept c.args.number c.args.self.now c.requires.few c.requires.kept)

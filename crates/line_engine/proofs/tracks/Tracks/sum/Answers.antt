use Rattle.std.proofs.Common.{◌≡◌, ◌∙◌, ◌+◌, ◌∷◌, ℕ, List, ap, arith, drop, sym}
use Rattle.std.proofs.lemmas.Bool.{false_from_ne_true}
use Rattle.std.proofs.lemmas.List.{drop_more}
use Rattle.line_report.specs.declared.summary.Summary.{Summary}
use Rattle.line_step.specs.Views.{summary_of}
use Rattle.law_lanes.specs.Views.{summary_on}
use Rattle.line_engine.specs.Kept.{is_counted}
use Rattle.line_engine.specs.Summed.{added_up, is_told, summed}
use Rattle.line_engine.specs.Tracks.{lanes_of}
use Rattle.line_engine.specs.declared.track.Track.{Track}
use Rattle.line_engine.proofs.Summing.{summed_all, summed_end, told_before}
use Rattle.line_engine.proofs.tracks.Tracks.sum.Goals as goal

pub returns-clause-sum : goal.returns-clause-sum
returns-clause-sum c =
    let first : Track = c.self.inside.first in
    let items : List Track = c.deref-track-items.result.now in
    let all : summed c.summary-sum.result items ≡ summary_on (lanes_of c.args.self.now) =
    ap (λ (s : Summary). summed s items) c.summary-sum.ensures
    ∙ ap (λ (ts : List Track). summed (summary_of first.state) ts) c.deref-track-items.ensures.value
    ∙ summed_all first c.self.inside.others.items
    ∙ ap (λ (ts : List Track). summary_on (lanes_of ts)) c.self.view_is in
    sym (summed_end c.loop-track.sum c.loop-track.track-index items (omega arith)) ∙ c.loop-track.invariant.0 ∙ all

pub returns-clause-there : goal.returns-clause-there
returns-clause-there c =
    let first : Track = c.self.inside.first in
    let items : List Track = c.deref-track-items.result.now in
    let all : summed c.summary-sum.result items ≡ summary_on (lanes_of c.args.self.now) =
    ap (λ (s : Summary). summed s items) c.summary-sum.ensures
    ∙ ap (λ (ts : List Track). summed (summary_of first.state) ts) c.deref-track-items.ensures.value
    ∙ summed_all first c.self.inside.others.items
    ∙ ap (λ (ts : List Track). summary_on (lanes_of ts)) c.self.view_is in
    sym c.loop-track.invariant.1
    ∙ ap is_told (sym (summed_end c.loop-track.sum c.loop-track.track-index items (omega arith)) ∙ c.loop-track.invariant.0 ∙ all)

pub returns-in-None-clause-there : goal.returns-in-None-clause-there
returns-in-None-clause-there c =
    let first : Track = c.self.inside.first in
    let items : List Track = c.deref-track-items.result.now in
    let i : ℕ = c.loop-track.track-index in
    let item : Track = c.track-item.result in
    let sum : Summary = c.loop-track.sum in
    let rest : List Track = drop (i + 1) items in
    let here : drop i items ≡ item ∷ rest = drop_more items i item c.loop-track-test.true ∙ ap (λ (t : Track). t ∷ rest) (sym c.track-item.is) in
    let all : summed c.summary-sum.result items ≡ summary_on (lanes_of c.args.self.now) =
    ap (λ (s : Summary). summed s items) c.summary-sum.ensures
    ∙ ap (λ (ts : List Track). summed (summary_of first.state) ts) c.deref-track-items.ensures.value
    ∙ summed_all first c.self.inside.others.items
    ∙ ap (λ (ts : List Track). summary_on (lanes_of ts)) c.self.view_is in
    let on : summed (added_up sum (summary_of item.state)) rest ≡ summary_on (lanes_of c.args.self.now) =
    ap (λ (ts : List Track). summed sum ts) (sym here) ∙ c.loop-track.invariant.0 ∙ all in
    sym (false_from_ne_true (is_counted (lanes_of c.args.self.now)) (λ told.
    c.in-None.ensures (ap (λ (s : Summary). is_told (added_up sum s)) c.summary.ensures
    ∙ told_before (added_up sum (summary_of item.state)) rest (ap is_told on ∙ told))))

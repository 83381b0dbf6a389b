-- What the run of a script tells is one thing.
use Rattle.std.proofs.Common.{sym}
use Rattle.step_rules.proofs.Once.{OneMeaning}
use Rattle.law_lanes.specs.Lanes.{no_lanes}
use Rattle.law_lanes.specs.Once.{EachRunTellsOnce}
use Rattle.law_lanes.specs.Parts.{all_points, state_behind}
use Rattle.law_lanes.proofs.Once.{none-same, run-once, summary-same}

pub runs_tell_once : OneMeaning → EachRunTellsOnce
runs_tell_once law asked one other first second =
    let once = run-once law no_lanes no_lanes asked one other none-same first second in
    record {
      text = λ number. sym (once.text number);
      lied = sym once.lied;
      summary = sym (summary-same (state_behind no_lanes (all_points one)) (state_behind no_lanes (all_points other)) once.alike);
    }

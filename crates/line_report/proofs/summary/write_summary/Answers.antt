use Rattle.std.proofs.Common.{◌≡◌, ◌∙◌, arith, length}
use Rattle.hermes_element.proofs.Standings.{stands-cut, stands-same}
use Rattle.line_report.proofs.summary.write_summary.Goals as goal

pub returns-in-Err-clause-kept : goal.returns-in-Err-clause-kept
returns-in-Err-clause-kept c =
    let size : c.len-before.result ≡ length c.args.to.now.items = omega (arith, c.len-before.ensures, c.args.to.now.ok.0) in
    stands-same c.args.to.now.items c.truncate.new.self.items
    (c.truncate.ensures.items ∙ stands-cut c.args.to.now.items c.append_summary.new.to.items c.len-before.result size c.append_summary.ensures.kept)

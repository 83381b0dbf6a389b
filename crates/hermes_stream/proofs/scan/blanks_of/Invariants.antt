use Rattle.std.proofs.Common.{◌≡◌, drop}
use Rattle.hermes_stream.specs.Frames.{without_blanks}
use Rattle.hermes_stream.proofs.scan.blanks_of.Given as goal

-- only blanks were passed
abbrev pub invariant-loop-place : goal.invariant-loop-place
invariant-loop-place l = without_blanks (drop l.place l.bytes) ≡ without_blanks l.bytes

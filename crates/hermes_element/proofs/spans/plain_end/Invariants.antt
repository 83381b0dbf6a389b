use Rattle.std.proofs.Common.{◌≡◌, ℕ, ◌<◌, ◌≤◌, ◌-◌, length, true, get_or}
use Rattle.hermes_element.specs.Machine.{is_plain}
use Rattle.hermes_element.proofs.spans.plain_end.Given as goal

abbrev pub invariant-loop-end : goal.invariant-loop-end
invariant-loop-end l = record {
  low : l.at ≤ l.end;
  high : l.end ≤ length l.bytes;
  each : (k : ℕ) → l.at ≤ k → k < l.end → is_plain l.quote (get_or l.bytes k 0) ≡ true;
}

abbrev pub decreases-loop-end : goal.decreases-loop-end
decreases-loop-end l = length l.bytes - l.end

abbrev pub invariant-by_block : goal.invariant-by_block
invariant-by_block l = record {
  low : l.at ≤ l.end;
  high : l.end ≤ length l.bytes;
  each : (k : ℕ) → l.at ≤ k → k < l.end → is_plain l.quote (get_or l.bytes k 0) ≡ true;
}

abbrev pub decreases-by_block : goal.decreases-by_block
decreases-by_block l = length l.bytes - l.end

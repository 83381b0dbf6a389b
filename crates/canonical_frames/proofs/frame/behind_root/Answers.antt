use Rattle.canonical_frames.proofs.frame.behind_root.Goals as goal

pub returns : goal.returns
returns c = record {
  stamp = c.in_ok-stamp.stamp.now;
  end = c.in_ok-end.end.now;
  root = c.in_ok-stamp.ensures;
  told = c.in_ok-end.ensures;
  closed = c.in_ok-child.ensures;
}

-- Changes of a line and of its trace, by numbers.
use Rattle.std.proofs.Common.{Bool, List, ap, refl, ℕ, ◌+◌, ◌==◌, ◌≡◌, ◌≢◌, if◌then◌else◌}
use Rattle.std.proofs.lemmas.Bool.{eq-eqb, ne_eqb}
use Rattle.hermes_horizontal.specs.declared.message.Horizontal.{Horizontal}
use Rattle.law_custody.specs.Pair.{Ghost}
use Rattle.line_step.specs.Numbered.{Changes, ChangesAround, ChangesBetween, ChangesGap, ChangesLink, ChangesMachine, between_at, stand_at}
use Rattle.line_step.specs.Numbered as numbered
use Rattle.line_step.specs.State.{LineState}
use Rattle.law_one_standing.specs.Carried.{Trace, between_of, stand_of}
use Rattle.law_one_standing.specs.Relation.{Between}

-- ---- a function that differs at one number

abbrev pub put : {A : Type 0} → ℕ → A → (ℕ → A) → ℕ → A
put k a f n = if n == k then a else f n

pub put_same : {A : Type 0} (k : ℕ) (a : A) (f : ℕ → A) → put k a f k ≡ a
put_same k a f = rw (eq-eqb k k refl) refl

pub put_other : {A : Type 0} (k n : ℕ) (a : A) (f : ℕ → A) → n ≢ k → put k a f n ≡ f n
put_other k n a f apart = rw (ne_eqb n k apart) refl

-- ---- the line by numbers, and its trace

-- what the trace says of a link is the same
pub record SameTrace (t t2 : Trace) (k : ℕ) : Type 0 where
  pub ghost : t2.ghost k ≡ t.ghost k
  pub up : t2.up k ≡ t.up k
  pub down : t2.down k ≡ t.down k
  pub gone : t2.gone k ≡ t.gone k

pub stand_same : (s s2 : LineState) (m : ℕ) → stand_at s2 m ≡ stand_at s m → stand_of s2 m ≡ stand_of s m
stand_same s s2 m is = ap (λ (x : numbered.Stand). record { body = x.node.lane.body; place = x.place }) is

pub between_by : {g g2 : Ghost} {x x2 : numbered.Between} {up up2 down down2 : List Horizontal} {gone gone2 : ℕ → Bool} → g2 ≡ g → x2 ≡ x → up2 ≡ up → down2 ≡ down → gone2 ≡ gone
    → ◌≡◌ {A = Between} (record { ghost = g2; stands = x2.link.stands; gap = x2.gap; up = up2; down = down2; gone = gone2 }) (record { ghost = g; stands = x.link.stands; gap = x.gap; up = up; down = down; gone = gone })
between_by ghost between ups downs gones = rw (ghost, between, ups, downs, gones) refl

pub between_same : (t t2 : Trace) (s s2 : LineState) (k : ℕ) → between_at s2 k ≡ between_at s k → SameTrace t t2 k → between_of t2 s2 k ≡ between_of t s k
between_same t t2 s s2 k is same = between_by same.ghost is same.up same.down same.gone

pub changes_of : (m : ℕ) (t t2 : Trace) (s s2 : LineState) → ChangesMachine m s s2 → ((k : ℕ) → k ≢ m → k + 1 ≢ m → SameTrace t t2 k) → Changes m (stand_of s) (between_of t s) (stand_of s2) (between_of t2 s2)
changes_of m t t2 s s2 c same = record {
  machines = λ k apart. stand_same s s2 k (c.machines k apart);
  links = λ k apart other. between_same t t2 s s2 k (c.links k apart other) (same k apart other);
}

pub link_changes_of : (link : ℕ) (t t2 : Trace) (s s2 : LineState) → ChangesLink link s s2 → ((k : ℕ) → k ≢ link → SameTrace t t2 k) → ChangesBetween link (stand_of s) (between_of t s) (stand_of s2) (between_of t2 s2)
link_changes_of link t t2 s s2 c same = record {
  machines = λ k. stand_same s s2 k (c.machines k);
  links = λ k apart. between_same t t2 s s2 k (c.links k apart) (same k apart);
}

pub gap_changes_of : (gap : ℕ) (t t2 : Trace) (s s2 : LineState) → ChangesGap gap s s2 → ((k : ℕ) → k ≢ gap → SameTrace t t2 k) → ChangesAround gap (stand_of s) (between_of t s) (stand_of s2) (between_of t2 s2)
gap_changes_of gap t t2 s s2 c same = record {
  machines = λ k apart other. stand_same s s2 k (c.machines k apart other);
  links = λ k apart. between_same t t2 s s2 k (c.links k apart) (same k apart);
}

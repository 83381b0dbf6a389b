-- WHAT COMES TO A SIDE GOES ON: each connection that the side has behind a step it had before, and what comes there begins with what came.
use Rattle.std.proofs.Common.{Bool, List, None, Option, Some, [], ap, append_assoc, append-nil, arith, false, inl, inr, map, refl, slice_get, slice_set, subst, suc, sym, true, zero, ℕ, ◌++◌, ◌∙◌, ◌∷◌, ◌≡◌, ◌≢◌, ◌⊎◌}
use Rattle.std.specs.Prelude.{cond, nat_eq}
use Rattle.line_base.specs.declared.states.Side.{Side}
use Rattle.line_base.specs.declared.states.Side.TheVariants.{Entry, Exit}
use Rattle.law_running_line.specs.RunSteps.{given_up, let_be}
use Rattle.law_running_line.specs.Running.{Running, at_place, with_wires}
use Rattle.law_running_line.specs.Turns.{answered}
use Rattle.law_running_line.specs.Wire.{Awaits, Coming, Has, Hold, Left, Wire, asked_for, bytes_of, coming_to, end_at, end_beyond, given, left, read_at, said, with_end, with_read}
use Rattle.law_running_line.proofs.Waiting.{wire_of}
use Rattle.law_running_line.proofs.WiresParts.{awaits_has, bytes_both, going_from, gone_of, left_has, read_bytes, said_of}

-- ---- one end

pub record GoesBy (hold : Hold) (old new : List Coming) : Type 0 where
  pub held : hold ≡ Has
  pub more : List ℕ
  pub is : bytes_of new ≡ bytes_of old ++ more

pub record WasThere (side : Side) (wires : List Wire) (place : ℕ) (wire : Wire) : Type 0 where
  pub old : Wire
  pub there : slice_get wires place ≡ Some old
  pub goes : GoesBy (end_at side old) (coming_to side old) (coming_to side wire)

pub record Further (side : Side) (before after : List Wire) : Type 0 where
  pub each : (place : ℕ) (wire : Wire) → slice_get after place ≡ Some wire → end_at side wire ≡ Has → WasThere side before place wire

goes_same : {hold : Hold} {coming : List Coming} → hold ≡ Has → GoesBy hold coming coming
goes_same {coming = coming} held = record { held = held; more = []; is = sym (append-nil (bytes_of coming)) }

goes_more : {hold : Hold} {coming : List Coming} (said : List Coming) → hold ≡ Has → GoesBy hold coming (coming ++ said)
goes_more {coming = coming} said held = record { held = held; more = bytes_of said; is = bytes_both coming said }

pub further_self : {side : Side} {wires : List Wire} → Further side wires wires
further_self = record { each = λ place wire there has_it. record { old = wire; there = there; goes = goes_same has_it } }

pub further_then : {side : Side} {a b c : List Wire} → Further side a b → Further side b c → Further side a c
further_then {side} {a} {b} {c} one two = record { each = λ place wire there has_it. by place wire (two.each place wire there has_it) } where
  by : (place : ℕ) (wire : Wire) → WasThere side b place wire → WasThere side a place wire
  by place wire w = (let v : WasThere side a place w.old = one.each place w.old w.there w.goes.held in record {
    old = v.old;
    there = v.there;
    goes = record {
      held = v.goes.held;
      more = v.goes.more ++ w.goes.more;
      is = w.goes.is ∙ ap (λ (bytes : List ℕ). bytes ++ w.goes.more) v.goes.is ∙ append_assoc (bytes_of (coming_to side v.old)) v.goes.more w.goes.more;
    };
  })

-- ---- a change of connections

pub record Keeps (side : Side) (change : Wire → Wire) : Type 0 where
  pub each : (wire : Wire) → end_at side (change wire) ≡ Has → GoesBy (end_at side wire) (coming_to side wire) (coming_to side (change wire))

-- of each of them
none_got : (place : ℕ) (wire : Wire) → slice_get [] place ≡ Some wire → ⊥
none_got place wire is = cc

some_same : {a b : Wire} → Some a ≡ Some b → a ≡ b
some_same is = cc

record Got (change : Wire → Wire) (wires : List Wire) (place : ℕ) (wire : Wire) : Type 0 where
  old : Wire
  there : slice_get wires place ≡ Some old
  is : change old ≡ wire

got_mapped : (change : Wire → Wire) (wires : List Wire) (place : ℕ) (wire : Wire) → slice_get (map change wires) place ≡ Some wire → Got change wires place wire
got_mapped change [] place wire there = absurd (none_got place wire there)
got_mapped change (first ∷ wires) zero wire there = record { old = first; there = refl; is = some_same there }
got_mapped change (first ∷ wires) (suc place) wire there = (let g : Got change wires place wire = got_mapped change wires place wire there in record { old = g.old; there = g.there; is = g.is })

was_there : {side : Side} {change : Wire → Wire} {wires : List Wire} {place : ℕ} {wire : Wire} → Keeps side change → Got change wires place wire → end_at side wire ≡ Has → WasThere side wires place wire
was_there {side} {change} {wires} {place} {wire} keeps g has_it =
    let P : Wire → Type 0 = λ w. GoesBy (end_at side g.old) (coming_to side g.old) (coming_to side w) in
    record { old = g.old; there = g.there; goes = subst P g.is (keeps.each g.old (ap (end_at side) g.is ∙ has_it)) }

pub mapped_further : {side : Side} {change : Wire → Wire} → Keeps side change → (wires : List Wire) → Further side wires (map change wires)
mapped_further {side} {change} keeps wires = record { each = λ place wire there has_it. was_there keeps (got_mapped change wires place wire there) has_it }

-- of one of them
none_at : {A : Type 0} (at : ℕ) (x : A) → slice_get [] at ≡ Some x → ⊥
none_at at x is = cc

pub set_or_not : {A : Type 0} (xs : List A) (place : ℕ) (new : A) (at : ℕ) (x : A) → slice_get (slice_set xs place new) at ≡ Some x → ((at ≡ place) × (new ≡ x)) ⊎ ((at ≢ place) × (slice_get xs at ≡ Some x))
set_or_not [] place new at x there = absurd (none_at at x there)
set_or_not (first ∷ xs) zero new zero x there = inl (refl, cc)
set_or_not (first ∷ xs) zero new (suc at) x there = inr ((λ is. cc), there)
set_or_not (first ∷ xs) (suc place) new zero x there = inr ((λ is. cc), there)
set_or_not (first ∷ xs) (suc place) new (suc at) x there = next (set_or_not xs place new at x there) where
  next : ((at ≡ place) × (new ≡ x)) ⊎ ((at ≢ place) × (slice_get xs at ≡ Some x)) → ((suc at ≡ suc place) × (new ≡ x)) ⊎ ((suc at ≢ suc place) × (slice_get xs at ≡ Some x))
  next (inl is) = inl (ap suc is.0, is.1)
  next (inr was) = inr ((λ is. was.0 (omega (arith, is))), was.1)

placed_by : {side : Side} {change : Wire → Wire} → Keeps side change → (place : ℕ) (wires : List Wire) (got : Option Wire) → slice_get wires place ≡ got → Further side wires (elim got [ None ↦ wires | Some wire ↦ slice_set wires place (change wire) ])
placed_by keeps place wires None is = further_self
placed_by {side} {change} keeps place wires (Some old) is = record { each = λ at wire there has_it. by at wire has_it (set_or_not wires place (change old) at wire there) } where
  by : (at : ℕ) (wire : Wire) → end_at side wire ≡ Has → ((at ≡ place) × (change old ≡ wire)) ⊎ ((at ≢ place) × (slice_get wires at ≡ Some wire)) → WasThere side wires at wire
  by at wire has_it (inl set) = was_there keeps (record { old = old; there = ap (slice_get wires) set.0 ∙ is; is = set.1 }) has_it
  by at wire has_it (inr was) = record { old = wire; there = was.1; goes = goes_same has_it }

pub placed_further : {side : Side} {change : Wire → Wire} → Keeps side change → (place : ℕ) (wires : List Wire) → Further side wires (at_place place change wires)
placed_further keeps place wires = placed_by keeps place wires (slice_get wires place) refl

-- and one more, that is asked for
not_had : (side : Side) → end_at side asked_for ≡ Has → ⊥
not_had Exit is = awaits_has is
not_had Entry is = awaits_has is

last_got : (side : Side) (wires : List Wire) (place : ℕ) (wire : Wire) → slice_get (wires ++ asked_for ∷ []) place ≡ Some wire → end_at side wire ≡ Has → slice_get wires place ≡ Some wire
last_got side [] zero wire there has_it = absurd (not_had side (ap (end_at side) (some_same there) ∙ has_it))
last_got side [] (suc place) wire there has_it = absurd (none_got place wire there)
last_got side (first ∷ wires) zero wire there has_it = there
last_got side (first ∷ wires) (suc place) wire there has_it = last_got side wires place wire there has_it

pub one_more : (side : Side) (wires : List Wire) → Further side wires (wires ++ asked_for ∷ [])
one_more side wires = record { each = λ place wire there has_it. record { old = wire; there = last_got side wires place wire there has_it; goes = goes_same has_it } }

-- ---- which changes keep it

abbrev OwnKept : Wire → Side → Hold → Hold → List Coming → List Coming → Type 0
OwnKept wire at own beyond to from = own ≡ Has → GoesBy (end_at at wire) (coming_to at wire) to

abbrev FarKept : Wire → Side → Hold → Hold → List Coming → List Coming → Type 0
FarKept wire at own beyond to from = beyond ≡ Has → GoesBy (end_beyond at wire) (going_from at wire) from

own_said : (at : Side) (c : List Coming) (wire : Wire) → OwnKept wire at (end_at at (said at c wire)) (end_beyond at (said at c wire)) (coming_to at (said at c wire)) (going_from at (said at c wire))
own_said at c wire = said_of at (OwnKept wire at) c wire (λ has_it reached is. goes_same is) (λ off is. goes_same is)

far_said : (at : Side) (c : List Coming) (wire : Wire) → FarKept wire at (end_at at (said at c wire)) (end_beyond at (said at c wire)) (coming_to at (said at c wire)) (going_from at (said at c wire))
far_said at c wire = said_of at (FarKept wire at) c wire (λ has_it reached is. goes_more c is) (λ off is. goes_same is)

pub keeps_said : (side at : Side) (c : List Coming) → Keeps side (said at c)
keeps_said Exit Exit c = record { each = own_said Exit c }
keeps_said Entry Entry c = record { each = own_said Entry c }
keeps_said Exit Entry c = record { each = far_said Entry c }
keeps_said Entry Exit c = record { each = far_said Exit c }

own_left : (at : Side) (wire : Wire) → OwnKept wire at (end_at at (left at wire)) (end_beyond at (left at wire)) (coming_to at (left at wire)) (going_from at (left at wire))
own_left at wire = gone_of at (OwnKept wire at) wire (λ has_it is. absurd (left_has is)) (λ not is. goes_same is)

far_left : (at : Side) (wire : Wire) → FarKept wire at (end_at at (left at wire)) (end_beyond at (left at wire)) (coming_to at (left at wire)) (going_from at (left at wire))
far_left at wire = gone_of at (FarKept wire at) wire (λ has_it is. goes_same is) (λ not is. goes_same is)

pub keeps_left : (side at : Side) → Keeps side (left at)
keeps_left Exit Exit = record { each = own_left Exit }
keeps_left Entry Entry = record { each = own_left Entry }
keeps_left Exit Entry = record { each = far_left Entry }
keeps_left Entry Exit = record { each = far_left Exit }

goes_read : {hold : Hold} (n : ℕ) (coming : List Coming) → hold ≡ Has → GoesBy hold coming (with_read n coming)
goes_read n coming held = record { held = held; more = []; is = read_bytes n coming ∙ sym (append-nil (bytes_of coming)) }

pub keeps_read : (side at : Side) (n : ℕ) → Keeps side (read_at at n)
keeps_read Exit Exit n = record { each = λ wire is. goes_read n wire.up is }
keeps_read Entry Entry n = record { each = λ wire is. goes_read n wire.down is }
keeps_read Exit Entry n = record { each = λ wire is. goes_same is }
keeps_read Entry Exit n = record { each = λ wire is. goes_same is }

-- the other side is given bytes, or stands otherwise to a connection
given_far_exit : (n : ℕ) (above below : Hold) (up down : List Coming) → end_at Entry (given Exit n (wire_of above below up down)) ≡ Has → GoesBy below down (coming_to Entry (given Exit n (wire_of above below up down)))
given_far_exit n Awaits below up down is = goes_same is
given_far_exit n Has below up down is = goes_same is
given_far_exit n Left below up down is = goes_same is

given_far_entry : (n : ℕ) (above below : Hold) (up down : List Coming) → end_at Exit (given Entry n (wire_of above below up down)) ≡ Has → GoesBy above up (coming_to Exit (given Entry n (wire_of above below up down)))
given_far_entry n above Awaits up down is = goes_same is
given_far_entry n above Has up down is = goes_same is
given_far_entry n above Left up down is = goes_same is

pub keeps_given_exit : (n : ℕ) → Keeps Entry (given Exit n)
keeps_given_exit n = record { each = λ wire is. given_far_exit n wire.above wire.below wire.up wire.down is }

pub keeps_given_entry : (n : ℕ) → Keeps Exit (given Entry n)
keeps_given_entry n = record { each = λ wire is. given_far_entry n wire.above wire.below wire.up wire.down is }

pub keeps_end_exit : (hold : Hold) → Keeps Entry (with_end Exit hold)
keeps_end_exit hold = record { each = λ wire is. goes_same is }

pub keeps_end_entry : (hold : Hold) → Keeps Exit (with_end Entry hold)
keeps_end_entry hold = record { each = λ wire is. goes_same is }

pub keeps_gone : (side : Side) → Keeps side (with_end Exit Left)
keeps_gone Exit = record { each = λ wire is. absurd (left_has is) }
keeps_gone Entry = keeps_end_exit Left

answered_down : (c : List Coming) (above below : Hold) (up down : List Coming) → end_at Entry (answered c (wire_of above below up down)) ≡ Has → GoesBy below down (coming_to Entry (answered c (wire_of above below up down)))
answered_down c above Awaits up down is = absurd (awaits_has is)
answered_down c above Has up down is = goes_more c is
answered_down c above Left up down is = absurd (left_has is)

answered_up : (c : List Coming) (above below : Hold) (up down : List Coming) → end_at Exit (answered c (wire_of above below up down)) ≡ Has → GoesBy above up (coming_to Exit (answered c (wire_of above below up down)))
answered_up c above Awaits up down is = goes_same is
answered_up c above Has up down is = goes_same is
answered_up c above Left up down is = goes_same is

pub keeps_answered : (side : Side) (c : List Coming) → Keeps side (answered c)
keeps_answered Exit c = record { each = λ wire is. answered_up c wire.above wire.below wire.up wire.down is }
keeps_answered Entry c = record { each = λ wire is. answered_down c wire.above wire.below wire.up wire.down is }

pub keeps_let_be : (side at : Side) → Keeps side (let_be at)
keeps_let_be Exit Exit = record { each = λ wire is. absurd (left_has is) }
keeps_let_be Entry Entry = record { each = λ wire is. absurd (left_has is) }
keeps_let_be Exit Entry = record { each = λ wire is. goes_same is }
keeps_let_be Entry Exit = record { each = λ wire is. goes_same is }

given_up_up : (above below : Hold) (up down : List Coming) → end_at Exit (given_up Entry (wire_of above below up down)) ≡ Has → GoesBy above up (coming_to Exit (given_up Entry (wire_of above below up down)))
given_up_up above Awaits up down is = goes_same is
given_up_up above Has up down is = goes_same is
given_up_up above Left up down is = goes_same is

given_up_down : (above below : Hold) (up down : List Coming) → end_at Entry (given_up Entry (wire_of above below up down)) ≡ Has → GoesBy below down (coming_to Entry (given_up Entry (wire_of above below up down)))
given_up_down above Awaits up down is = absurd (left_has is)
given_up_down above Has up down is = goes_same is
given_up_down above Left up down is = absurd (left_has is)

pub keeps_given_up : (side : Side) → Keeps side (given_up Entry)
keeps_given_up Exit = record { each = λ wire is. given_up_up wire.above wire.below wire.up wire.down is }
keeps_given_up Entry = record { each = λ wire is. given_up_down wire.above wire.below wire.up wire.down is }

-- ---- the connections of one link are changed

by_test : {side : Side} (test : Bool) (new old : List Wire) → Further side old new → Further side old (cond test new old)
by_test true new old further = further
by_test false new old further = further_self

pub link_further : {side : Side} (l link : ℕ) (change : List Wire → List Wire) (s : Running) → ((wires : List Wire) → Further side wires (change wires)) → Further side (s.wires l) ((with_wires link change s).wires l)
link_further l link change s further = by_test (nat_eq l link) (change (s.wires l)) (s.wires l) (further (s.wires l))

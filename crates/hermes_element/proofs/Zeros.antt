-- No document has a 0 in it.
use Rattle.std.proofs.Common.{◌≡◌, ℕ, ◌+◌, ◌≤◌, true, false, inl, List, [], ◌∷◌, ◌++◌, Option, Some, None, length, refl, ap, ◌∙◌, arith}
use Rattle.std.specs.Prelude.{◌==◌}
use Rattle.std.proofs.lemmas.Bool.Decides.{nat_tests}
use Rattle.hermes_element.specs.Plain.{is_quote}
use Rattle.hermes_element.specs.Machine.{Stand, step, stop_of, stop_if}
use Rattle.hermes_element.specs.Refusal.{IsRefusedBy, shape_reason}
use Rattle.hermes_element.specs.declared.place.Place.{Place}
use Rattle.hermes_element.specs.declared.place.Place.TheVariants as places
use Rattle.hermes_element.proofs.Living.{Lives, AllLive, lives_on}
use Rattle.hermes_element.proofs.Exact.{unplain_at}

not_zero : (quote : ℕ) → is_quote quote ≡ true → (0 == quote) ≡ false
not_zero quote is = grind (arith, nat_tests)

zero_stops : (from : Place) (depth : ℕ) → Lives from depth → step from depth 0 ≡ None
zero_stops (places.Value quote) depth lives = rw (not_zero quote lives)
zero_stops _ depth lives = refl

-- the machine leaves the plain form at the first 0, or before it
record StopsBy (from : Place) (depth place : ℕ) (bytes : List ℕ) (most : ℕ) : Type 0 where
  at : ℕ
  near : at ≤ most
  stops : stop_of from depth place bytes ≡ Some at

here : (from : Place) (depth place b : ℕ) (bs : List ℕ) (most : ℕ) → step from depth b ≡ None → place ≤ most → StopsBy from depth place (b ∷ bs) most
here from depth place b bs most s h = record { at = place; near = h; stops = ap (λ to. stop_if to place (λ next count. stop_of next count (place + 1) bs)) s }

later : (from : Place) (depth place b : ℕ) (bs : List ℕ) (to : Option Stand) (most : ℕ) → step from depth b ≡ to → AllLive to → place ≤ most
    → ((next : Place) (count : ℕ) → Lives next count → StopsBy next count (place + 1) bs most) → StopsBy from depth place (b ∷ bs) most
later from depth place b bs None most s lives h go = here from depth place b bs most s h
later from depth place b bs (Some to) most s lives h go =
    let t = go to.0 to.1 lives in
    record { at = t.at; near = t.near; stops = ap (λ o. stop_if o place (λ next count. stop_of next count (place + 1) bs)) s ∙ t.stops }

further : {from : Place} {depth place : ℕ} {bytes : List ℕ} {most : ℕ} (more : ℕ) → most ≤ more → StopsBy from depth place bytes most → StopsBy from depth place bytes more
further more h t = record { at = t.at; near = omega (arith, t.near, h); stops = t.stops }

zero_ends : (from : Place) (depth place : ℕ) (front rest : List ℕ) → Lives from depth → StopsBy from depth place (front ++ 0 ∷ rest) (place + length front)
zero_ends from depth place [] rest lives = here from depth place 0 rest (place + 0) (zero_stops from depth lives) (omega arith)
zero_ends from depth place (b ∷ bs) rest lives =
    later from depth place b (bs ++ 0 ∷ rest) (step from depth b) (place + length (b ∷ bs)) refl (lives_on from depth b lives) (omega arith)
    (λ next count l. further (place + length (b ∷ bs)) (omega arith) (zero_ends next count (place + 1) bs rest l))

pub zero_is_refused : (front rest : List ℕ) → IsRefusedBy (front ++ 0 ∷ rest) (length front)
zero_is_refused front rest =
    let s = zero_ends places.Start 0 0 front rest refl in
    record { at = s.at; reason = shape_reason (front ++ 0 ∷ rest) s.at; near = omega (arith, s.near); refused = inl (unplain_at (front ++ 0 ∷ rest) s.at s.stops) }

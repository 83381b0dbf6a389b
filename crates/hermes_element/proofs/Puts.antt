-- What is appended to a value.
use Rattle.std.proofs.Common.{◌≡◌, ℕ, Bool, List, ◌++◌, Result, Ok, Err, sym, ap, ◌∙◌, subst}
use Rattle.std.specs.Result.{OnOk}
use Rattle.line_base.specs.Text.{IsAllowed}
use Rattle.hermes_element.specs.Machine.{Build, Outcome}
use Rattle.hermes_element.specs.Steps.{run_at, valuing, Puts, ReadsPart, Meets}
use Rattle.hermes_element.specs.declared.stop.Stop.{Stop}
use Rattle.hermes_element.specs.declared.stop.Stop.TheVariants as stops
use Rattle.hermes_element.specs.declared.place.Place.TheVariants as places
use Rattle.hermes_element.proofs.Texts.{allowed_append}

meets_memory : (outcome : Outcome) (stop : Stop) → stop ≡ stops.Memory → Meets outcome stop
meets_memory outcome stop e = subst (λ s. Meets outcome s) (sym e) tt

pub puts_part : (bytes old more new : List ℕ) (quote at next : ℕ) (after_cr is_cr : Bool) (result : Result (ℕ × Bool) Stop) → Puts old more next is_cr new result
    → ((depth start : ℕ) (key : List ℕ) (c : Build)
    → run_at (places.Value quote) depth (valuing c key start old after_cr) at bytes ≡ run_at (places.Value quote) depth (valuing c key start (old ++ more) is_cr) next bytes)
    → ReadsPart bytes quote at old after_cr new result
puts_part bytes old more new quote at next after_cr is_cr (Ok to) put run = λ depth start key c.
    run depth start key c ∙ ap (λ l. run_at (places.Value quote) depth (valuing c key start l is_cr) next bytes) (sym put.0)
    ∙ ap (λ (t : ℕ × Bool). run_at (places.Value quote) depth (valuing c key start new t.1) t.0 bytes) (sym put.1)
puts_part bytes old more new quote at next after_cr is_cr (Err stop) put run = λ depth start key c. meets_memory (run_at (places.Value quote) depth (valuing c key start old after_cr) at bytes) stop put

pub puts_allowed : (old more new : List ℕ) (next : ℕ) (is_cr : Bool) (result : Result (ℕ × Bool) Stop) → Puts old more next is_cr new result → IsAllowed more
    → OnOk result (IsAllowed old → IsAllowed new)
puts_allowed old more new next is_cr (Ok to) put h = λ so_far. subst IsAllowed (sym put.0) (allowed_append old more so_far h)
puts_allowed old more new next is_cr (Err stop) put h = tt

-- Results one after another: the first refusal stays.
use Rattle.std.specs.Prelude.{Result, Ok, Err}

-- what follows of a value, unless it was refused
abbrev pub then_ok : {A B E : Type 0} → Result A E → (A → Result B E) → Result B E
then_ok (Ok value) next = next value
then_ok (Err why) next = Err why

-- a function of a value, unless it was refused
abbrev pub mapped_ok : {A B E : Type 0} → (A → B) → Result A E → Result B E
mapped_ok f (Ok value) = Ok (f value)
mapped_ok f (Err why) = Err why

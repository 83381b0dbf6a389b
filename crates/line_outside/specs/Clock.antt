use Rattle.std.specs.Prelude.{◌≡◌, ℤ, Option, None, Some}

-- where a clock tells its moment, that is what it answers, and it goes on to tell it
abbrev pub TellsMoment : Option ℤ → Option ℤ → ℤ → Type 0
TellsMoment None after now = after ≡ None
TellsMoment (Some moment) after now = (now ≡ moment) × (after ≡ Some moment)

-- THE BYTES OF ONE CONNECTION that go to one of its ends: what was heard of them and what comes is
-- what the ports of the far end took, and what waits there.
use Rattle.std.proofs.Common.{List, [], ap, append_assoc, append-nil, length, refl, sym, ℕ, ◌++◌, ◌∙◌, ◌∷◌, ◌≡◌}
use Rattle.std.specs.Prelude.{drop}
use Rattle.line_base.specs.declared.states.Side.{Side}
use Rattle.line_base.specs.declared.states.Side.TheVariants.{Entry, Exit}
use Rattle.law_running_line.specs.RunSteps.{let_be}
use Rattle.law_running_line.specs.Turns.{answered}
use Rattle.law_running_line.specs.Wire.{
  Awaits,
  Coming,
  Has,
  Hold,
  Left,
  Wire,
  bytes_of,
  coming_to,
  end_at,
  end_beyond,
  given,
  has,
  if_has,
  read_at,
  with_coming_to,
  with_end,
}
use Rattle.law_running_line.proofs.Waiting.{wire_of}
use Rattle.law_running_line.proofs.WiresParts.{bytes_both, going_from, has_awaits, left_awaits, left_has}
use Rattle.law_joined_nodes.specs.Pipes.{other}
use Rattle.law_joined_nodes.proofs.Tracks.{NotLeft, Turned, told_if, turned_read}

-- of an end that hears, as it stands and as the far end does
pub record Core (own far : Hold) (coming took waits heard gave held : List ℕ) : Type 0 where
  pub sum : NotLeft own → heard ++ coming ≡ took ++ waits
  pub gives : own ≡ Has → gave ≡ heard ++ held
  pub uncome : own ≡ Awaits → heard ≡ []
  pub fresh : far ≡ Awaits → (took ≡ []) × (waits ≡ [])

-- of what comes to a side, and of what goes from it
abbrev pub Home : Side → Wire → List ℕ → List ℕ → List ℕ → List ℕ → List ℕ → Type 0
Home side w took waits heard gave held =
    Core (end_at side w) (end_beyond side w) (bytes_of (coming_to side w)) took waits heard gave
    held

abbrev pub Away : Side → Wire → List ℕ → List ℕ → List ℕ → List ℕ → List ℕ → Type 0
Away side w took waits heard gave held =
    Core (end_beyond side w) (end_at side w) (bytes_of (going_from side w)) took waits heard gave
    held

pub away_home : {took waits heard gave held : List ℕ} (side : Side) (w : Wire)
    → Away side w took waits heard gave held → Home (other side) w took waits heard gave held
away_home Entry w c = c
away_home Exit w c = c

pub home_away : {took waits heard gave held : List ℕ} (side : Side) (w : Wire)
    → Home (other side) w took waits heard gave held → Away side w took waits heard gave held
home_away Entry w c = c
home_away Exit w c = c

pub with_gives : {own far : Hold} {coming took waits heard gave held : List ℕ}
    (gave_now held_now : List ℕ) → (own ≡ Has → gave_now ≡ heard ++ held_now)
    → Core own far coming took waits heard gave held
    → Core own far coming took waits heard gave_now held_now
with_gives gave_now held_now gives c =
    record { sum = c.sum; gives = gives; uncome = c.uncome; fresh = c.fresh }

-- ---- acts

pub home_turned : {side : Side} {text took waits heard gave held : List ℕ} {w v : Wire}
    → Turned side text w v → Home side w took waits heard gave held
    → Home side v took waits heard gave held
home_turned {side} {heard = heard} {w = w} {v} t c = record {
  sum = λ not. ap (λ (b : List ℕ). heard ++ b) (t.comes not) ∙ c.sum (t.stays not);
  gives = λ is. c.gives (t.had is);
  uncome = λ is. c.uncome (t.awaits is);
  fresh = λ is. c.fresh (sym t.far ∙ is);
}

none_told : (hold : Hold) (text : List ℕ) → hold ≡ Awaits → told_if (has hold) text ≡ []
none_told Awaits text is = refl
none_told Has text is = absurd (has_awaits is)
none_told Left text is = absurd (left_awaits is)

away_sum : (heard going more took waits : List ℕ) → heard ++ going ≡ took ++ waits
    → heard ++ (going ++ more) ≡ took ++ (waits ++ more)
away_sum heard going more took waits is =
    sym (append_assoc heard going more) ∙ ap (λ (b : List ℕ). b ++ more) is
    ∙ append_assoc took waits more

away_waits : (waits more : List ℕ) → waits ≡ [] → more ≡ [] → waits ++ more ≡ []
away_waits waits more none nothing = ap (λ (b : List ℕ). b ++ more) none ∙ nothing

pub away_turned : {side : Side} {text took waits heard gave held : List ℕ} {w v : Wire}
    → Turned side text w v → Away side w took waits heard gave held
    → Away side v took (waits ++ told_if (has (end_at side w)) text) heard gave held
away_turned {side} {text} {took} {waits} {heard} {w = w} {v} t c =
    let more : List ℕ = told_if (has (end_at side w)) text in
    record {
      sum = λ not. (let still : NotLeft (end_beyond side w) = λ is. not (t.far ∙ is) in
          ap (λ (b : List ℕ). heard ++ b) (t.goes still)
          ∙ away_sum heard (bytes_of (going_from side w)) more took waits (c.sum still));
      gives = λ is. c.gives (sym t.far ∙ is);
      uncome = λ is. c.uncome (sym t.far ∙ is);
      fresh = λ is. (let f : (took ≡ []) × (waits ≡ []) = c.fresh (t.awaits is) in
          (f.0, away_waits waits more f.1 (none_told (end_at side w) text (t.awaits is))));
    }

-- ---- what is read

pub home_read : {took waits heard gave held : List ℕ} (side : Side) (n : ℕ) (w : Wire)
    → Home side w took waits heard gave held
    → Home side (read_at side n w) took waits heard gave held
home_read side n w c = home_turned (turned_read side n w) c

pub away_read : {took waits heard gave held : List ℕ} (side : Side) (n : ℕ) (w : Wire)
    → Away side w took waits heard gave held
    → Away side (read_at side n w) took waits heard gave held
away_read Entry n w c = c
away_read Exit n w c = c

-- ---- a connection is made

awaits_left : {hold : Hold} → hold ≡ Awaits → NotLeft hold
awaits_left is left = left_awaits (sym left ∙ is)

pub home_opens : {took waits heard gave held : List ℕ} (side : Side) (w : Wire)
    → end_at side w ≡ Awaits → Home side w took waits heard gave held
    → Home side (with_end side Has w) took waits heard [] []
home_opens {heard = heard} Entry w is c = record {
  sum = λ not. c.sum (awaits_left is);
  gives = λ has_it. sym (ap (λ (b : List ℕ). b ++ []) (c.uncome is));
  uncome = λ awaits. absurd (has_awaits awaits);
  fresh = c.fresh;
}
home_opens {heard = heard} Exit w is c = record {
  sum = λ not. c.sum (awaits_left is);
  gives = λ has_it. sym (ap (λ (b : List ℕ). b ++ []) (c.uncome is));
  uncome = λ awaits. absurd (has_awaits awaits);
  fresh = c.fresh;
}

pub away_opens : {took waits heard gave held : List ℕ} (side : Side) (w : Wire)
    → Away side w took waits heard gave held
    → Away side (with_end side Has w) took waits heard gave held
away_opens Entry w c = record {
  sum = c.sum;
  gives = c.gives;
  uncome = c.uncome;
  fresh = λ awaits. absurd (has_awaits awaits);
}
away_opens Exit w c = record {
  sum = c.sum;
  gives = c.gives;
  uncome = c.uncome;
  fresh = λ awaits. absurd (has_awaits awaits);
}

-- ---- bytes are heard

pub drop_front : (piece rest : List ℕ) (coming : List Coming) → bytes_of coming ≡ piece ++ rest
    → bytes_of (drop (length piece) coming) ≡ rest
drop_front [] rest coming is = is
drop_front (byte ∷ piece) rest [] is = absurd (cc)
drop_front (byte ∷ piece) rest (c ∷ coming) is =
    (let more : bytes_of coming ≡ piece ++ rest = cc in drop_front piece rest coming more)

pub given_is : (side : Side) (count : ℕ) (w : Wire) → end_at side w ≡ Has
    → given side count w ≡ with_coming_to side (drop count (coming_to side w)) w
given_is side count w is =
    ap (λ (h : Hold). if_has h (with_coming_to side (drop count (coming_to side w)) w) w) is

hears_core : {own far : Hold} {took waits heard gave held : List ℕ} (coming : List Coming)
    (piece rest : List ℕ) → own ≡ Has → bytes_of coming ≡ piece ++ rest → held ≡ piece
    → Core own far (bytes_of coming) took waits heard gave held
    → Core own far (bytes_of (drop (length piece) coming)) took waits (heard ++ piece) gave []
hears_core {own} {far} {took} {waits} {heard} {gave} {held} coming piece rest is all same c =
    record {
      sum = λ not. ap (λ (b : List ℕ). (heard ++ piece) ++ b) (drop_front piece rest coming all)
          ∙ append_assoc heard piece rest ∙ ap (λ (b : List ℕ). heard ++ b) (sym all) ∙ c.sum not;
      gives = λ has_it. c.gives has_it ∙ ap (λ (b : List ℕ). heard ++ b) same
          ∙ sym (append-nil (heard ++ piece));
      uncome = λ awaits. absurd (has_awaits (sym is ∙ awaits));
      fresh = c.fresh;
    }

pub home_hears : {took waits heard gave held : List ℕ} (side : Side) (w : Wire)
    (piece rest : List ℕ) → end_at side w ≡ Has
    → bytes_of (coming_to side w) ≡ piece ++ rest → held ≡ piece
    → Home side w took waits heard gave held
    → Home side (with_coming_to side (drop (length piece) (coming_to side w)) w) took waits
    (heard ++ piece) gave []
home_hears Entry w piece rest is all same c = hears_core w.down piece rest is all same c
home_hears Exit w piece rest is all same c = hears_core w.up piece rest is all same c

pub away_hears : {took waits heard gave held : List ℕ} (side : Side) (coming : List Coming)
    (w : Wire) → Away side w took waits heard gave held
    → Away side (with_coming_to side coming w) took waits heard gave held
away_hears Entry coming w c = c
away_hears Exit coming w c = c

-- ---- a second connection is refused

pub home_refused : {took waits heard gave held : List ℕ} (c : List Coming) (w : Wire)
    (gave_now held_now : List ℕ) → Home Exit w took waits heard gave held
    → Home Exit (answered c (with_end Exit Left w)) took waits heard gave_now held_now
home_refused {took} {waits} {heard} {gave} {held} c w gave_now held_now k =
    by w.below k.fresh where
      by : (below : Hold) → (below ≡ Awaits → (took ≡ []) × (waits ≡ []))
          → Home Exit (answered c (wire_of Left below w.up w.down)) took waits heard gave_now
          held_now
      by Awaits fresh = record {
        sum = λ not. absurd (not refl);
        gives = λ is. absurd (left_has is);
        uncome = λ is. absurd (left_awaits is);
        fresh = fresh;
      }
      by Has fresh = record {
        sum = λ not. absurd (not refl);
        gives = λ is. absurd (left_has is);
        uncome = λ is. absurd (left_awaits is);
        fresh = fresh;
      }
      by Left fresh = record {
        sum = λ not. absurd (not refl);
        gives = λ is. absurd (left_has is);
        uncome = λ is. absurd (left_awaits is);
        fresh = fresh;
      }

refused_sum : (heard going text took waits : List ℕ) → heard ++ going ≡ took ++ waits
    → waits ≡ [] → heard ++ (going ++ text) ≡ (took ++ text) ++ []
refused_sum heard going text took waits is none =
    away_sum heard going text took waits is
    ∙ ap (λ (b : List ℕ). took ++ (b ++ text)) none ∙ sym (append-nil (took ++ text))

pub away_refused : {took waits heard gave held : List ℕ} (c : List Coming) (w : Wire)
    (text : List ℕ) → bytes_of c ≡ text → (took ≡ []) × (waits ≡ [])
    → Away Exit w took waits heard gave held
    → Away Exit (answered c (with_end Exit Left w)) (took ++ text) [] heard gave held
away_refused {took} {waits} {heard} {gave} {held} c w text are none k =
    by w.below k.sum k.gives k.uncome where
      said : heard ++ bytes_of w.down ≡ took ++ waits
          → heard ++ bytes_of (w.down ++ c) ≡ (took ++ text) ++ []
      said is =
          ap (λ (b : List ℕ). heard ++ b)
          (bytes_both w.down c ∙ ap (λ (b : List ℕ). bytes_of w.down ++ b) are)
          ∙ refused_sum heard (bytes_of w.down) text took waits is none.1

      by : (below : Hold) → (NotLeft below → heard ++ bytes_of w.down ≡ took ++ waits)
          → (below ≡ Has → gave ≡ heard ++ held) → (below ≡ Awaits → heard ≡ [])
          → Away Exit (answered c (wire_of Left below w.up w.down)) (took ++ text) [] heard gave
          held
      by Awaits sum gives uncome = record {
        sum = λ not. said (sum not);
        gives = gives;
        uncome = uncome;
        fresh = λ is. absurd (left_awaits is);
      }
      by Has sum gives uncome = record {
        sum = λ not. said (sum not);
        gives = gives;
        uncome = uncome;
        fresh = λ is. absurd (left_awaits is);
      }
      by Left sum gives uncome = record {
        sum = λ not. absurd (not refl);
        gives = gives;
        uncome = uncome;
        fresh = λ is. absurd (left_awaits is);
      }

-- ---- a connection that an end awaits is given up, and a new one is asked for

pub home_lets : {took waits heard gave held : List ℕ} (side : Side) (w : Wire)
    (gave_now held_now : List ℕ) → Home side w took waits heard gave held
    → Home side (let_be side w) took waits heard gave_now held_now
home_lets Entry w gave_now held_now c = record {
  sum = λ not. absurd (not refl);
  gives = λ is. absurd (left_has is);
  uncome = λ is. absurd (left_awaits is);
  fresh = c.fresh;
}
home_lets Exit w gave_now held_now c = record {
  sum = λ not. absurd (not refl);
  gives = λ is. absurd (left_has is);
  uncome = λ is. absurd (left_awaits is);
  fresh = c.fresh;
}

pub away_lets : {took waits heard gave held : List ℕ} (side : Side) (w : Wire)
    → Away side w took waits heard gave held
    → Away side (let_be side w) took waits heard gave held
away_lets Entry w c = record {
  sum = c.sum;
  gives = c.gives;
  uncome = c.uncome;
  fresh = λ is. absurd (left_awaits is);
}
away_lets Exit w c = record {
  sum = c.sum;
  gives = c.gives;
  uncome = c.uncome;
  fresh = λ is. absurd (left_awaits is);
}

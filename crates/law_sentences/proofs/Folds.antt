-- What was said last, look by look: the looks back over acts as folds over them, and the acts of one machine among all
-- that is told.
use Rattle.std.proofs.Common.{◌≡◌, ◌∙◌, ◌++◌, ℕ, Bool, true, false, List, [], ◌∷◌, Option, Some, None, refl, sym, ap, append_assoc}
use Rattle.std.specs.Prelude.{cond}
use Rattle.node_core.specs.declared.act.Act.{Act}
use Rattle.line_report.specs.declared.happening.Happening.{Happening}
use Rattle.law_sentences.specs.Announced.{bears_on_offer, bears_on_place, exit_act, exit_acts, if_it, is_ready_by, is_ready_in, last_of, later_or, offered_by, offered_in}

-- ---- folds

abbrev pub offered_act : Option ℕ → Act → Option ℕ
offered_act o act = cond (bears_on_offer act) (offered_in (Some act)) o

abbrev pub ready_act : Bool → Act → Bool
ready_act r act = cond (bears_on_place act) (is_ready_in (Some act)) r

abbrev pub offered_from : Option ℕ → List Act → Option ℕ
offered_from o [] = o
offered_from o (act ∷ told) = offered_from (offered_act o act) told

abbrev pub ready_from : Bool → List Act → Bool
ready_from r [] = r
ready_from r (act ∷ told) = ready_from (ready_act r act) told

pub offered_append : (o : Option ℕ) (a b : List Act) → offered_from o (a ++ b) ≡ offered_from (offered_from o a) b
offered_append o [] b = refl
offered_append o (x ∷ xs) b = offered_append (offered_act o x) xs b

pub ready_append : (r : Bool) (a b : List Act) → ready_from r (a ++ b) ≡ ready_from (ready_from r a) b
ready_append r [] b = refl
ready_append r (x ∷ xs) b = ready_append (ready_act r x) xs b

-- ---- they are the looks back

abbrev offered_or : Option ℕ → Option Act → Option ℕ
offered_or o None = o
offered_or o (Some act) = offered_in (Some act)

offered_last : (o : Option ℕ) (act : Act) (later : Option Act) (bears : Bool) → offered_or (cond bears (offered_in (Some act)) o) later ≡ offered_or o (later_or later (if_it bears act))
offered_last o act (Some later) bears = refl
offered_last o act None true = refl
offered_last o act None false = refl

offered_looks : (o : Option ℕ) (told : List Act) → offered_from o told ≡ offered_or o (last_of bears_on_offer told)
offered_looks o [] = refl
offered_looks o (act ∷ told) = offered_looks (offered_act o act) told ∙ offered_last o act (last_of bears_on_offer told) (bears_on_offer act)

none_offered : (last : Option Act) → offered_or None last ≡ offered_in last
none_offered None = refl
none_offered (Some act) = refl

pub offered_is : (told : List Act) → offered_from None told ≡ offered_by told
offered_is told = offered_looks None told ∙ none_offered (last_of bears_on_offer told)

abbrev ready_or : Bool → Option Act → Bool
ready_or r None = r
ready_or r (Some act) = is_ready_in (Some act)

ready_last : (r : Bool) (act : Act) (later : Option Act) (bears : Bool) → ready_or (cond bears (is_ready_in (Some act)) r) later ≡ ready_or r (later_or later (if_it bears act))
ready_last r act (Some later) bears = refl
ready_last r act None true = refl
ready_last r act None false = refl

ready_looks : (r : Bool) (told : List Act) → ready_from r told ≡ ready_or r (last_of bears_on_place told)
ready_looks r [] = refl
ready_looks r (act ∷ told) = ready_looks (ready_act r act) told ∙ ready_last r act (last_of bears_on_place told) (bears_on_place act)

none_ready : (last : Option Act) → ready_or false last ≡ is_ready_in last
none_ready None = refl
none_ready (Some act) = refl

pub ready_is : (told : List Act) → ready_from false told ≡ is_ready_by told
ready_is told = ready_looks false told ∙ none_ready (last_of bears_on_place told)

-- ---- the acts of a machine

pub exit_append : (k : ℕ) (a b : List Happening) → exit_acts k (a ++ b) ≡ exit_acts k a ++ exit_acts k b
exit_append k [] b = refl
exit_append k (x ∷ xs) b = ap (λ (acts : List Act). exit_act k x ++ acts) (exit_append k xs b) ∙ sym (append_assoc (exit_act k x) (exit_acts k xs) (exit_acts k b))

-- THE ENDS OF CONNECTIONS by their numbers, and what a call does at each.
use Rattle.std.proofs.Common.{
  Bool,
  List,
  None,
  Option,
  Some,
  [],
  ap,
  arith,
  eq-eqb,
  false,
  inl,
  inr,
  ne_eqb,
  refl,
  subst,
  sym,
  true,
  ℕ,
  ◌++◌,
  ◌+◌,
  ◌-◌,
  ◌∙◌,
  ◌∷◌,
  ◌≡◌,
  ◌≢◌,
  ◌≤◌,
  ◌⊎◌,
}
use Rattle.std.specs.Prelude.{nat_eq, ◌&&◌}
use Rattle.line_base.specs.declared.states.Side.{Side}
use Rattle.line_base.specs.declared.states.Side.TheVariants.{Entry, Exit}
use Rattle.line_outside.specs.Given.{Closes, Given, Polls, Sends, taken_of}
use Rattle.line_outside.specs.declared.answer.GotBytes.TheVariants as founds
use Rattle.line_outside.specs.declared.ports.Sent.{Sent}
use Rattle.line_outside.specs.declared.way.Way.TheVariants as ways
use Rattle.node_core.specs.declared.act.Act.{Act}
use Rattle.node_core.specs.declared.input.Input.TheVariants as inputs
use Rattle.line_step.specs.World.{link_of}
use Rattle.line_step.proofs.Numbers.{same_or_not}
use Rattle.node_run.specs.After.{way_of}
use Rattle.node_run.specs.Runs.{room_bytes}
use Rattle.node_run.specs.Steps.{text_of_first}
use Rattle.law_joined_nodes.specs.Does.{Taken}
use Rattle.law_joined_nodes.specs.Pipes.{Flows, IsCalm, Pipes, beyond, comes_by, flows_beside, flows_closes, flows_comes, flows_gives, flows_passes, flows_refuses, flows_takes, flows_unmet, if_here, other, same_end, same_side}

-- ---- numbers

pub far_link : (machine : ℕ) (side : Side)
    → link_of (beyond machine side) (other side) ≡ link_of machine side
far_link machine Entry = refl
far_link machine Exit = omega arith

pub beyond_else : (machine : ℕ) (side : Side) → 1 ≤ machine → beyond machine side ≢ machine
beyond_else machine Entry some is = omega (arith, some, is)
beyond_else machine Exit some is = omega (arith, is)

-- an end is one of this machine's, or one beyond it, or of another link
pub data Where (machine k : ℕ) (side : Side) : Type 0 where
  where_own : k ≡ machine → Where machine k side
  where_far : (at : Side) → k ≡ beyond machine at → side ≡ other at → Where machine k side
  where_else : k ≢ machine → ((at : Side) → link_of k side ≢ link_of machine at)
      → ((at : Side) → k ≡ beyond machine at → side ≡ other at → ⊥) → Where machine k side

pub where_is : (machine k : ℕ) (side : Side) → 1 ≤ machine → 1 ≤ k → Where machine k side
where_is machine k Entry some more = by (same_or_not k machine) (same_or_not k (machine + 1)) where
  link : k ≢ machine → k ≢ machine + 1 → (at : Side) → link_of k Entry ≢ link_of machine at
  link apart far Entry is = apart (omega (arith, some, more, is))
  link apart far Exit is = far (omega (arith, some, more, is))

  never : k ≢ machine + 1 → (at : Side) → k ≡ beyond machine at → Entry ≡ other at → ⊥
  never far Entry is same = cc
  never far Exit is same = far is

  by : (k ≡ machine) ⊎ (k ≢ machine) → (k ≡ machine + 1) ⊎ (k ≢ machine + 1)
      → Where machine k Entry
  by (inl own) far = where_own own
  by (inr apart) (inl far) = where_far Exit far refl
  by (inr apart) (inr far) = where_else apart (link apart far) (never far)
where_is machine k Exit some more = by (same_or_not k machine) (same_or_not k (machine - 1)) where
  link : k ≢ machine → k ≢ machine - 1 → (at : Side) → link_of k Exit ≢ link_of machine at
  link apart far Entry is = far is
  link apart far Exit is = apart is

  never : k ≢ machine - 1 → (at : Side) → k ≡ beyond machine at → Exit ≡ other at → ⊥
  never far Entry is same = far is
  never far Exit is same = cc

  by : (k ≡ machine) ⊎ (k ≢ machine) → (k ≡ machine - 1) ⊎ (k ≢ machine - 1) → Where machine k Exit
  by (inl own) far = where_own own
  by (inr apart) (inl far) = where_far Entry far refl
  by (inr apart) (inr far) = where_else apart (link apart far) (never far)

-- ---- one end among all

same_self : (machine : ℕ) (side : Side) → same_end machine side machine side ≡ true
same_self machine Entry = ap (λ (t : Bool). t && true) (eq-eqb machine machine refl)
same_self machine Exit = ap (λ (t : Bool). t && true) (eq-eqb machine machine refl)

else_end : (machine k : ℕ) (side at : Side) → k ≢ machine → same_end machine side k at ≡ false
else_end machine k side at apart =
    ap (λ (t : Bool). t && same_side side at) (ne_eqb machine k (λ is. apart (sym is)))

never_both : (test : Bool) → (test && false) ≡ false
never_both true = refl
never_both false = refl

beside_end : (machine k : ℕ) (side at : Side) → side ≢ at → same_end machine side k at ≡ false
beside_end machine k Entry Entry apart = absurd (apart refl)
beside_end machine k Exit Exit apart = absurd (apart refl)
beside_end machine k Entry Exit apart = never_both (nat_eq machine k)
beside_end machine k Exit Entry apart = never_both (nat_eq machine k)

here_new : {A : Type 0} (test : Bool) (new old : A) → test ≡ true → if_here test new old ≡ new
here_new true new old is = refl
here_new false new old is = cc

here_old : {A : Type 0} (test : Bool) (new old : A) → test ≡ false → if_here test new old ≡ old
here_old false new old is = refl
here_old true new old is = cc

-- of a text at one place
placed_new : (machine place : ℕ) (side : Side) (new old : List ℕ)
    → if_here (same_end machine side machine side && nat_eq place place) new old ≡ new
placed_new machine place side new old =
    here_new (same_end machine side machine side && nat_eq place place) new old
    (ap (λ (t : Bool). t && nat_eq place place) (same_self machine side) ∙ eq-eqb place place refl)

placed_else : (machine place n : ℕ) (side : Side) (new old : List ℕ) → n ≢ place
    → if_here (same_end machine side machine side && nat_eq place n) new old ≡ old
placed_else machine place n side new old apart =
    here_old (same_end machine side machine side && nat_eq place n) new old
    (ap (λ (t : Bool). t && nat_eq place n) (same_self machine side)
    ∙ ne_eqb place n (λ is. apart (sym is)))

placed_far : (machine place k n : ℕ) (side at : Side) (new old : List ℕ)
    → same_end machine side k at ≡ false
    → if_here (same_end machine side k at && nat_eq place n) new old ≡ old
placed_far machine place k n side at new old is =
    here_old (same_end machine side k at && nat_eq place n) new old
    (ap (λ (t : Bool). t && nat_eq place n) is)

-- ---- WHAT A CALL DOES AT A SIDE of its machine

-- it gives nothing there, closes nothing, and no connection comes that is taken
pub record IsQuietAt (side : Side) (given : List Given) (taken : Option Taken) : Type 0 where
  pub no_bytes : (bytes : List ℕ)
      → given ≡ Polls (way_of side) room_bytes (founds.Bytes bytes) ∷ [] → ⊥
  pub no_close : given ≡ Closes (way_of side) ∷ [] → ⊥
  pub no_come : (told : List Act)
      → taken ≡ Some (record { read = []; input = comes_by side; told = told })
      → given ≡ Polls (way_of side) room_bytes founds.Arrived ∷ [] → ⊥

pub data Own (machine place : ℕ) (side : Side) (given : List Given) (taken : Option Taken)
    (p q : Pipes) : Type 0 where
  own_same : q.at machine side ≡ p.at machine side
      → ((n : ℕ) → q.gave machine side n ≡ p.gave machine side n) → IsQuietAt side given taken
      → Own machine place side given taken p q
  own_comes : {told : List Act} → given ≡ Polls (way_of side) room_bytes founds.Arrived ∷ []
      → taken ≡ Some (record { read = []; input = comes_by side; told = told })
      → p.at machine side ≡ None → q.at machine side ≡ Some place
      → p.gave machine side place ≡ [] → ((n : ℕ) → q.gave machine side n ≡ p.gave machine side n)
      → Own machine place side given taken p q
  own_gives : {bytes : List ℕ} {here : ℕ}
      → given ≡ Polls (way_of side) room_bytes (founds.Bytes bytes) ∷ [] → taken ≡ None
      → p.at machine side ≡ Some here → q.at machine side ≡ Some here
      → q.gave machine side here ≡ p.gave machine side here ++ bytes
      → ((n : ℕ) → n ≢ here → q.gave machine side n ≡ p.gave machine side n)
      → Own machine place side given taken p q
  own_closes : given ≡ Closes (way_of side) ∷ [] → q.at machine side ≡ None
      → ((n : ℕ) → q.gave machine side n ≡ p.gave machine side n)
      → Own machine place side given taken p q

-- what its ports take there for the end beyond
pub data Far (machine place : ℕ) (side : Side) (given : List Given) (taken : Option Taken)
    (p q : Pipes) : Type 0 where
  far_same : ((n : ℕ)
      → q.took (beyond machine side) (other side) n ≡ p.took (beyond machine side) (other side) n)
      → ((piece : List ℕ) (sent : Sent) → given ≡ Sends (way_of side) piece sent ∷ []
      → taken_of sent piece ≡ [])
      → ((told : List Act) → side ≡ Exit
      → taken ≡ Some (record { read = []; input = inputs.Second; told = told })
      → given ≡ Polls ways.Downstream room_bytes founds.Second ∷ [] → ⊥)
      → Far machine place side given taken p q
  far_takes : {piece : List ℕ} {sent : Sent} {here : ℕ}
      → given ≡ Sends (way_of side) piece sent ∷ [] → taken ≡ None → p.at machine side ≡ Some here
      → q.took (beyond machine side) (other side) here
      ≡ p.took (beyond machine side) (other side) here ++ taken_of sent piece
      → ((n : ℕ) → n ≢ here
      → q.took (beyond machine side) (other side) n
      ≡ p.took (beyond machine side) (other side) n) → Far machine place side given taken p q
  far_refuses : {told : List Act} → side ≡ Exit
      → given ≡ Polls ways.Downstream room_bytes founds.Second ∷ []
      → taken ≡ Some (record { read = []; input = inputs.Second; told = told })
      → q.took (beyond machine side) (other side) place
      ≡ p.took (beyond machine side) (other side) place ++ text_of_first told
      → ((n : ℕ) → n ≢ place
      → q.took (beyond machine side) (other side) n
      ≡ p.took (beyond machine side) (other side) n) → Far machine place side given taken p q

-- a call at the other side, or none at all
calm_quiet : {given : List Given} {taken : Option Taken} (side : Side) → IsCalm given
    → IsQuietAt side given taken
calm_quiet Entry calm =
    record {
      no_bytes = λ bytes is. subst IsCalm is calm;
      no_close = λ is. subst IsCalm is calm;
      no_come = λ told some is. subst IsCalm is calm;
    }
calm_quiet Exit calm =
    record {
      no_bytes = λ bytes is. subst IsCalm is calm;
      no_close = λ is. subst IsCalm is calm;
      no_come = λ told some is. subst IsCalm is calm;
    }

pub flows_own : {machine place : ℕ} {given : List Given} {taken : Option Taken} {p q : Pipes}
    → Flows machine place given taken p q → (at : Side) → Own machine place at given taken p q
flows_own {machine} {place} (flows_comes {p = p} Entry none gave) Entry =
    own_comes refl refl none (here_new (same_end machine Entry machine Entry) (Some place)
    (p.at machine Entry) (same_self machine Entry)) gave (λ n. refl)
flows_own {machine} {place} (flows_comes {p = p} Exit none gave) Exit =
    own_comes refl refl none
    (here_new (same_end machine Exit machine Exit) (Some place) (p.at machine Exit)
    (same_self machine Exit)) gave (λ n. refl)
flows_own {machine} {place} (flows_comes {p = p} Entry none gave) Exit =
    own_same (here_old (same_end machine Entry machine Exit) (Some place) (p.at machine Exit)
    (beside_end machine machine Entry Exit (λ is. cc))) (λ n.
    refl) (record {
      no_bytes = λ bytes is. cc;
      no_close = λ is. cc;
      no_come = λ told some is.
          cc;
    })
flows_own {machine} {place} (flows_comes {p = p} Exit none gave) Entry =
    own_same (here_old (same_end machine Exit machine Entry) (Some place) (p.at machine Entry)
    (beside_end machine machine Exit Entry (λ is. cc))) (λ n.
    refl) (record {
      no_bytes = λ bytes is. cc;
      no_close = λ is. cc;
      no_come = λ told some is.
          cc;
    })
flows_own (flows_unmet side) at = own_same refl (λ n. refl) (unmet_quiet side at) where
  unmet_quiet : (side at : Side)
      → IsQuietAt at (Polls (way_of side) room_bytes founds.Arrived ∷ []) None
  unmet_quiet side at =
      record { no_bytes = λ bytes is. cc; no_close = λ is. cc; no_come = λ told some is. cc }
flows_own {machine} (flows_gives {p = p} {bytes} {here} Entry some more front) Entry =
    own_gives refl refl some some (placed_new machine here Entry (p.gave machine Entry here
    ++ bytes) (p.gave machine Entry here)) (λ n apart.
    placed_else machine here n Entry (p.gave machine Entry n
    ++ bytes) (p.gave machine Entry n) apart)
flows_own {machine} (flows_gives {p = p} {bytes} {here} Exit some more front) Exit =
    own_gives refl refl some some (placed_new machine here Exit (p.gave machine Exit here
    ++ bytes) (p.gave machine Exit here)) (λ n apart.
    placed_else machine here n Exit (p.gave machine Exit n
    ++ bytes) (p.gave machine Exit n) apart)
flows_own {machine} (flows_gives {p = p} {bytes} {here} Entry some more front) Exit =
    own_same refl (λ n. placed_far machine here machine n Entry Exit (p.gave machine Exit n
    ++ bytes) (p.gave machine Exit n) (beside_end machine machine Entry Exit (λ is. cc)))
    (record { no_bytes = λ other is. cc; no_close = λ is. cc; no_come = λ told some is. cc })
flows_own {machine} (flows_gives {p = p} {bytes} {here} Exit some more front) Entry =
    own_same refl (λ n. placed_far machine here machine n Exit Entry (p.gave machine Entry n
    ++ bytes) (p.gave machine Entry n) (beside_end machine machine Exit Entry (λ is. cc)))
    (record { no_bytes = λ other is. cc; no_close = λ is. cc; no_come = λ told some is. cc })
flows_own (flows_takes side some) at =
    own_same refl (λ n. refl) (record {
      no_bytes = λ bytes is. cc;
      no_close = λ is. cc;
      no_come = λ told some is. cc;
    })
flows_own flows_refuses at =
    own_same refl (λ n. refl) (record {
      no_bytes = λ bytes is. cc;
      no_close = λ is. cc;
      no_come = λ told some is. cc;
    })
flows_own flows_passes at =
    own_same refl (λ n. refl) (record {
      no_bytes = λ bytes is. cc;
      no_close = λ is. cc;
      no_come = λ told some is. cc;
    })
flows_own {machine} (flows_closes {p = p} Entry) Entry =
    own_closes refl (here_new (same_end machine Entry machine Entry) None (p.at machine Entry)
    (same_self machine Entry)) (λ n. refl)
flows_own {machine} (flows_closes {p = p} Exit) Exit =
    own_closes refl (here_new (same_end machine Exit machine Exit) None (p.at machine Exit)
    (same_self machine Exit)) (λ n. refl)
flows_own {machine} (flows_closes {p = p} Entry) Exit =
    own_same (here_old (same_end machine Entry machine Exit) None (p.at machine Exit)
    (beside_end machine machine Entry Exit (λ is. cc))) (λ n.
    refl) (record {
      no_bytes = λ bytes is. cc;
      no_close = λ is. cc;
      no_come = λ told some is.
          cc;
    })
flows_own {machine} (flows_closes {p = p} Exit) Entry =
    own_same (here_old (same_end machine Exit machine Entry) None (p.at machine Entry)
    (beside_end machine machine Exit Entry (λ is. cc))) (λ n.
    refl) (record {
      no_bytes = λ bytes is. cc;
      no_close = λ is. cc;
      no_come = λ told some is.
          cc;
    })
flows_own (flows_beside calm) at = own_same refl (λ n. refl) (calm_quiet at calm)

calm_sent : {given : List Given} (at : Side) (piece : List ℕ) (sent : Sent) → IsCalm given
    → given ≡ Sends (way_of at) piece sent ∷ [] → taken_of sent piece ≡ []
calm_sent Entry piece sent calm is = subst IsCalm is calm
calm_sent Exit piece sent calm is = subst IsCalm is calm

pub flows_far : {machine place : ℕ} {given : List Given} {taken : Option Taken} {p q : Pipes}
    → Flows machine place given taken p q → (at : Side) → Far machine place at given taken p q
flows_far (flows_comes side none gave) at =
    far_same (λ n. refl) (λ piece sent is. cc) (λ told exit some is. cc)
flows_far (flows_unmet side) at =
    far_same (λ n. refl) (λ piece sent is. cc) (λ told exit some is. cc)
flows_far (flows_gives side some more front) at =
    far_same (λ n. refl) (λ piece sent is. cc) (λ told exit some is. cc)
flows_far {machine} (flows_takes {p = p} {piece} {sent} {here} Entry some) Entry =
    far_takes refl refl some
    (placed_new (beyond machine Entry) here Exit (p.took (beyond machine Entry) Exit here
    ++ taken_of sent piece) (p.took (beyond machine Entry) Exit here))
    (λ n apart.
    placed_else (beyond machine Entry) here n Exit (p.took (beyond machine Entry) Exit n
    ++ taken_of sent piece) (p.took (beyond machine Entry) Exit n) apart)
flows_far {machine} (flows_takes {p = p} {piece} {sent} {here} Exit some) Exit =
    far_takes refl refl some
    (placed_new (beyond machine Exit) here Entry (p.took (beyond machine Exit) Entry here
    ++ taken_of sent piece) (p.took (beyond machine Exit) Entry here))
    (λ n apart.
    placed_else (beyond machine Exit) here n Entry (p.took (beyond machine Exit) Entry n
    ++ taken_of sent piece) (p.took (beyond machine Exit) Entry n) apart)
flows_far {machine} (flows_takes {p = p} {piece} {sent} {here} Entry some) Exit =
    far_same (λ n.
    placed_far (beyond machine Entry) here (beyond machine Exit) n Exit Entry
    (p.took (beyond machine Exit) Entry n ++ taken_of sent piece)
    (p.took (beyond machine Exit) Entry n)
    (beside_end (beyond machine Entry) (beyond machine Exit) Exit Entry (λ is. cc)))
    (λ other said is. cc) (λ told exit some is. cc)
flows_far {machine} (flows_takes {p = p} {piece} {sent} {here} Exit some) Entry =
    far_same (λ n.
    placed_far (beyond machine Exit) here (beyond machine Entry) n Entry Exit
    (p.took (beyond machine Entry) Exit n ++ taken_of sent piece)
    (p.took (beyond machine Entry) Exit n)
    (beside_end (beyond machine Exit) (beyond machine Entry) Entry Exit (λ is. cc)))
    (λ other said is. cc) (λ told exit some is. cc)
flows_far {machine} {place} (flows_refuses {p} {told}) Exit =
    far_refuses refl refl refl
    (placed_new (beyond machine Exit) place Entry (p.took (beyond machine Exit) Entry place
    ++ text_of_first told) (p.took (beyond machine Exit) Entry place))
    (λ n apart.
    placed_else (beyond machine Exit) place n Entry (p.took (beyond machine Exit) Entry n
    ++ text_of_first told) (p.took (beyond machine Exit) Entry n) apart)
flows_far {machine} {place} (flows_refuses {p} {told}) Entry =
    far_same (λ n.
    placed_far (beyond machine Exit) place (beyond machine Entry) n Entry Exit
    (p.took (beyond machine Entry) Exit n ++ text_of_first told)
    (p.took (beyond machine Entry) Exit n)
    (beside_end (beyond machine Exit) (beyond machine Entry) Entry Exit (λ is. cc)))
    (λ piece sent is. cc) (λ told exit some is. cc)
flows_far flows_passes at = far_same (λ n. refl) (λ piece sent is. cc) (λ told exit some is. cc)
flows_far (flows_closes side) at =
    far_same (λ n. refl) (λ piece sent is. cc) (λ told exit some is. cc)
flows_far (flows_beside calm) at =
    far_same (λ n. refl) (λ piece sent is. calm_sent at piece sent calm is) (λ told exit some is.
    subst IsCalm is calm)

-- ---- and nothing elsewhere

pub flows_at_else : {machine place : ℕ} {given : List Given} {taken : Option Taken} {p q : Pipes}
    → Flows machine place given taken p q → (k : ℕ) (side : Side) → k ≢ machine
    → q.at k side ≡ p.at k side
flows_at_else {machine} {place} (flows_comes {p = p} at none gave) k side apart =
    here_old (same_end machine at k side) (Some place) (p.at k side)
    (else_end machine k at side apart)
flows_at_else {machine} (flows_closes {p = p} at) k side apart =
    here_old (same_end machine at k side) None (p.at k side) (else_end machine k at side apart)
flows_at_else (flows_unmet at) k side apart = refl
flows_at_else (flows_gives at some more front) k side apart = refl
flows_at_else (flows_takes at some) k side apart = refl
flows_at_else flows_refuses k side apart = refl
flows_at_else flows_passes k side apart = refl
flows_at_else (flows_beside calm) k side apart = refl

pub flows_gave_else : {machine place : ℕ} {given : List Given} {taken : Option Taken} {p q : Pipes}
    → Flows machine place given taken p q → (k : ℕ) (side : Side) (n : ℕ) → k ≢ machine
    → q.gave k side n ≡ p.gave k side n
flows_gave_else {machine} (flows_gives {p = p} {bytes} {here} at some more front) k side n apart =
    placed_far machine here k n at side (p.gave k side n ++ bytes) (p.gave k side n)
    (else_end machine k at side apart)
flows_gave_else (flows_comes at none gave) k side n apart = refl
flows_gave_else (flows_closes at) k side n apart = refl
flows_gave_else (flows_unmet at) k side n apart = refl
flows_gave_else (flows_takes at some) k side n apart = refl
flows_gave_else flows_refuses k side n apart = refl
flows_gave_else flows_passes k side n apart = refl
flows_gave_else (flows_beside calm) k side n apart = refl

beyond_end : (machine k : ℕ) (at side : Side) → (k ≡ beyond machine at → side ≡ other at → ⊥)
    → same_end (beyond machine at) (other at) k side ≡ false
beyond_end machine k at side never = by (same_or_not k (beyond machine at)) where
  by : (k ≡ beyond machine at) ⊎ (k ≢ beyond machine at)
      → same_end (beyond machine at) (other at) k side ≡ false
  by (inr apart) = else_end (beyond machine at) k (other at) side apart
  by (inl is) = beside_end (beyond machine at) k (other at) side (λ same. never is (sym same))

pub flows_took_else : {machine place : ℕ} {given : List Given} {taken : Option Taken} {p q : Pipes}
    → Flows machine place given taken p q → (k : ℕ) (side : Side) (n : ℕ)
    → ((at : Side) → k ≡ beyond machine at → side ≡ other at → ⊥)
    → q.took k side n ≡ p.took k side n
flows_took_else {machine} (flows_takes {p = p} {piece} {sent} {here} at some) k side n never =
    placed_far (beyond machine at) here k n (other at) side (p.took k side n
    ++ taken_of sent piece) (p.took k side n) (beyond_end machine k at side (never at))
flows_took_else {machine} {place} (flows_refuses {p} {told}) k side n never =
    placed_far (beyond machine Exit) place k n Entry side (p.took k side n ++ text_of_first told)
    (p.took k side n) (beyond_end machine k Exit side (never Exit))
flows_took_else (flows_comes at none gave) k side n never = refl
flows_took_else (flows_closes at) k side n never = refl
flows_took_else (flows_unmet at) k side n never = refl
flows_took_else (flows_gives at some more front) k side n never = refl
flows_took_else flows_passes k side n never = refl
flows_took_else (flows_beside calm) k side n never = refl

-- The deeds of a gap are those of the machines above and below it.
use Rattle.std.proofs.Common.{◌≡◌, ◌≤◌, ◌∙◌, sym, ap, refl, ℕ, ◌+◌, ◌-◌, ◌==◌, Bool, true, false, List, [], ◌∷◌, ◌++◌, append_assoc, arith, if◌then◌else◌}
use Rattle.std.proofs.lemmas.Bool.{eq-eqb, eqb-true}
use Rattle.law_history.specs.Opened.{gap_deed, gap_deeds, opens_at}
use Rattle.line_report.specs.declared.happening.Happening.{Happening}
use Rattle.line_report.specs.declared.happening.Happening.TheVariants as happenings
use Rattle.node_core.specs.declared.act.Act.TheVariants as acts
use Rattle.node_core.specs.declared.act.Deed.{Deed}
use Rattle.node_core.specs.declared.act.Deed.TheVariants as deeds

-- ---- a deed of a machine

-- a deed of the machine above a gap, and one of the machine below
pub above_is : (gap machine : ℕ) (deed : Deed) → (if machine == gap then deed ∷ [] else []) ≡ (if machine == gap then deed ∷ [] else (if machine == gap + 1 then [] else []))
above_is gap machine deed = by (machine == gap) (machine == gap + 1) where
  by : (one other : Bool) → (if one then deed ∷ [] else []) ≡ (if one then deed ∷ [] else (if other then [] else []))
  by true other = refl
  by false true = refl
  by false false = refl

pub below_is : (gap machine : ℕ) (deed : Deed) → 1 ≤ gap → (if machine - 1 == gap then deed ∷ [] else []) ≡ (if machine == gap then [] else (if machine == gap + 1 then deed ∷ [] else []))
below_is gap machine deed some = by (machine - 1 == gap) (machine == gap) (machine == gap + 1) refl refl refl where
  by : (one two three : Bool) → (machine - 1 == gap) ≡ one → (machine == gap) ≡ two → (machine == gap + 1) ≡ three → (if one then deed ∷ [] else []) ≡ (if two then [] else (if three then deed ∷ [] else []))
  by true true three a b c = absurd (let x = eqb-true (machine - 1) gap a in let y = eqb-true machine gap b in omega (arith, x, y, some))
  by true false true a b c = refl
  by true false false a b c =
      let x = eqb-true (machine - 1) gap a in
      let y : machine ≡ gap + 1 = omega (arith, x, some) in
      let h : true ≡ false = sym (eq-eqb machine (gap + 1) y) ∙ c in
      absurd (cc)
  by false true three a b c = refl
  by false false true a b c =
      let y = eqb-true machine (gap + 1) c in
      let x : machine - 1 ≡ gap = omega (arith, y) in
      let h : true ≡ false = sym (eq-eqb (machine - 1) gap x) ∙ a in
      absurd (cc)
  by false false false a b c = refl

-- what is above, or below, of other deeds is nothing
pub neither : (gap machine : ℕ) → ◌≡◌ {A = List Deed} [] (if machine == gap then [] else (if machine == gap + 1 then [] else []))
neither gap machine = by (machine == gap) (machine == gap + 1) where
  by : (one other : Bool) → ◌≡◌ {A = List Deed} [] (if one then [] else (if other then [] else []))
  by true other = refl
  by false true = refl
  by false false = refl

-- ---- what happened

pub deeds_append : (gap : ℕ) (a b : List Happening) → gap_deeds gap (a ++ b) ≡ gap_deeds gap a ++ gap_deeds gap b
deeds_append gap [] b = refl
deeds_append gap (h ∷ a) b = ap (λ (ds : List Deed). gap_deed gap h ++ ds) (deeds_append gap a b) ∙ sym (append_assoc (gap_deed gap h) (gap_deeds gap a) (gap_deeds gap b))

-- what opens at a gap is told by the machine above it
pub opens_is : (gap : ℕ) (happening : Happening) (id : ℕ) → gap_deed gap happening ≡ deeds.Opens id ∷ [] → happening ≡ opens_at gap id
opens_is gap (happenings.Done machine (acts.Deed (deeds.Opens other))) id is = by (machine == gap) (machine == gap + 1) refl is where
  by : (one two : Bool) → (machine == gap) ≡ one → (if one then deeds.Opens other ∷ [] else (if two then [] else [])) ≡ deeds.Opens id ∷ [] → happenings.Done machine (acts.Deed (deeds.Opens other)) ≡ opens_at gap id
  by true two same is =
      let x : machine ≡ gap = eqb-true machine gap same in
      let y : other ≡ id = cc in
      ap (λ (m : ℕ). happenings.Done m (acts.Deed (deeds.Opens other))) x ∙ ap (λ (i : ℕ). happenings.Done gap (acts.Deed (deeds.Opens i))) y
  by false true same is = cc
  by false false same is = cc
opens_is gap (happenings.Done machine (acts.Deed (deeds.Refuses other))) id is = by (machine == gap) (machine == gap + 1) is where
  by : (one two : Bool) → (if one then deeds.Refuses other ∷ [] else (if two then [] else [])) ≡ deeds.Opens id ∷ [] → happenings.Done machine (acts.Deed (deeds.Refuses other)) ≡ opens_at gap id
  by true two is = cc
  by false true is = cc
  by false false is = cc
opens_is gap (happenings.Done machine (acts.Deed (deeds.Starts other))) id is = by (machine == gap) (machine == gap + 1) is where
  by : (one two : Bool) → (if one then [] else (if two then deeds.Starts other ∷ [] else [])) ≡ deeds.Opens id ∷ [] → happenings.Done machine (acts.Deed (deeds.Starts other)) ≡ opens_at gap id
  by true two is = cc
  by false true is = cc
  by false false is = cc
opens_is gap (happenings.Done machine (acts.Deed (deeds.Settles other))) id is = by (machine == gap) (machine == gap + 1) is where
  by : (one two : Bool) → (if one then [] else (if two then deeds.Settles other ∷ [] else [])) ≡ deeds.Opens id ∷ [] → happenings.Done machine (acts.Deed (deeds.Settles other)) ≡ opens_at gap id
  by true two is = cc
  by false true is = cc
  by false false is = cc
opens_is gap (happenings.Done machine (acts.Deed (deeds.Drops other))) id is = by (machine == gap) (machine == gap + 1) is where
  by : (one two : Bool) → (if one then [] else (if two then deeds.Drops other ∷ [] else [])) ≡ deeds.Opens id ∷ [] → happenings.Done machine (acts.Deed (deeds.Drops other)) ≡ opens_at gap id
  by true two is = cc
  by false true is = cc
  by false false is = cc
opens_is gap (happenings.Done machine (acts.Deed (deeds.Leaves other))) id is = absurd (let h = neither gap machine ∙ is in cc)
opens_is gap (happenings.Done machine (acts.Deed (deeds.Returns other))) id is = absurd (let h = neither gap machine ∙ is in cc)
opens_is gap (happenings.Done machine (acts.Deed (deeds.Loses other))) id is = absurd (let h = neither gap machine ∙ is in cc)
opens_is gap _ id is = cc

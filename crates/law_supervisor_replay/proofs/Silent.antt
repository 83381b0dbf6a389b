-- What tells nothing of an id to a supervisor, nor that its board has left or was started.
use Rattle.std.proofs.Common.{◌≡◌, ◌∙◌, ◌++◌, ◌+◌, ℕ, Bool, List, [], ◌∷◌, refl, ap}
use Rattle.line_report.specs.declared.happening.Happening.{Happening}
use Rattle.line_report.specs.declared.happening.Happening.TheVariants as happenings
use Rattle.law_supervisor_replay.specs.Replay.{Told, told_after}
use Rattle.law_supervisor_replay.proofs.Happenings.{after_append, left_after_append}
use Rattle.law_supervisor_replay.proofs.Since.{since_after}
use Rattle.line_step.proofs.Remarks.{AreRemarks, IsNoAct, Passes, all_pass, no_acts}

-- ---- what is silent

pub record IsSilent (what : List Happening) : Type 0 where
  pub told : (id : ℕ) (told : Told) → told_after id what told ≡ told
  pub left : (gap id : ℕ) (left : Bool) → since_after gap id what left ≡ left

pub none_silent : IsSilent []
none_silent = record { told = λ id told. refl; left = λ gap id left. refl }

pub both_silent : (a b : List Happening) → IsSilent a → IsSilent b → IsSilent (a ++ b)
both_silent a b one two = record {
  told = λ id told.
      after_append id a b told ∙ ap (told_after id b) (one.told id told) ∙ two.told id told;
  left = λ gap id left.
      left_after_append gap id a b left ∙ ap (since_after gap id b) (one.left gap id left)
      ∙ two.left gap id left;
}

pub no_act_silent : (h : Happening) → IsNoAct h → IsSilent (h ∷ [])
no_act_silent (happenings.Done machine act) is = absurd is
no_act_silent _ is = record { told = λ id told. refl; left = λ gap id left. refl }

no_acts_silent : Passes IsNoAct IsSilent
no_acts_silent = record { none = none_silent; both = both_silent; one = no_act_silent }

pub remarks_silent : (told : List Happening) → AreRemarks told → IsSilent told
remarks_silent told remarks = all_pass told no_acts_silent (no_acts told remarks)

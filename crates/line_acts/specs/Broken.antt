-- What is done and told of a step's acts where memory was wanting in one of them.
use Rattle.std.specs.Prelude.{◌≡◌, ℕ, Bool, List, ◌∷◌, ◌++◌}
use Rattle.node_core.specs.declared.act.Act.{Act}
use Rattle.line_report.specs.declared.happening.Happening.{Happening}
use Rattle.line_step.specs.Acts.{act_did, acts_did}
use Rattle.line_step.specs.World.{WorldParts}

-- a front of what was to be told is told, behind what was told before
pub record IsTold (before whole now : List Happening) : Type 0 where
  pub left : List Happening
  pub is : before ++ whole ≡ now ++ left

-- an act that was broken off: nothing of it was done and told, or it was done, and a front of what
-- it tells was told
pub data IsBrokenOff (second : Bool) (machine : ℕ) (act : Act) (old new : WorldParts)
    (before now : List Happening) : Type 0 where
  undone : new ≡ old → now ≡ before → IsBrokenOff second machine act old new before now
  untold : new ≡ (act_did second machine act old).world
      → IsTold before (act_did second machine act old).told now
      → IsBrokenOff second machine act old new before now

-- the acts before one of them are done and told, that one was broken off, and nothing behind it
-- was done or told
pub record AreBrokenOff (second : Bool) (machine : ℕ) (acts : List Act) (old new : WorldParts)
    (before now : List Happening) : Type 0 where
  pub done : List Act
  pub act : Act
  pub rest : List Act
  pub parts : acts ≡ done ++ act ∷ rest
  pub broken : IsBrokenOff second machine act (acts_did second machine done old).world new
      (before ++ (acts_did second machine done old).told) now

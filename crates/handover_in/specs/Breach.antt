use Rattle.std.specs.Prelude.{ℕ, List, codes}
use Rattle.handover_in.specs.declared.breach.InBreach.{InBreach}
use Rattle.handover_in.specs.declared.breach.InBreach.TheVariants.{BoardAvailable, RevokeBoardAvailable, TransportFinished}

-- what the machine tells its neighbour of a breach
abbrev pub breach_text : InBreach → List ℕ
breach_text BoardAvailable = codes "unexpected BoardAvailable"
breach_text RevokeBoardAvailable = codes "unexpected RevokeBoardAvailable"
breach_text TransportFinished = codes "unexpected TransportFinished"

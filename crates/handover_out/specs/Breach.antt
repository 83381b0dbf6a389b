use Rattle.std.specs.Prelude.{ℕ, List, codes}
use Rattle.handover_out.specs.declared.breach.OutBreach.{OutBreach}
use Rattle.handover_out.specs.declared.breach.OutBreach.TheVariants.{StartTransport, StopTransport, MachineReady, RevokeMachineReady}

-- what is told of a breach
abbrev pub breach_text : OutBreach → List ℕ
breach_text StartTransport = codes "unexpected StartTransport"
breach_text StopTransport = codes "unexpected StopTransport"
breach_text MachineReady = codes "unexpected MachineReady"
breach_text RevokeMachineReady = codes "unexpected RevokeMachineReady"

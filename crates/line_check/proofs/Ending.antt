-- How a checker ends that has answered an error.
use Rattle.std.proofs.Common.{◌∙◌, ℕ, List, [], Some, Err, append-nil, sym, ap}
use Rattle.line_check.specs.declared.known.Known.{Known}
use Rattle.line_check.specs.declared.why.CheckError.{CheckError}
use Rattle.line_check.specs.declared.why.CheckError.TheVariants.{No, Memory}
use Rattle.line_check.specs.Log.{against}
use Rattle.line_check.specs.Checking.{Ends, HasReadTo}

pub ends_failed : (lines : List (List ℕ)) (known : Known) (error : CheckError) → HasReadTo lines known (Some error) → Ends lines (Err error)
ends_failed lines known (No number why) read = ap against (sym (append-nil lines)) ∙ read.whatever []
ends_failed lines known Memory read = tt

-- What is told of a message without a row, and of an answer that is not taken.
use Rattle.std.specs.Prelude.{ℕ, List, codes}
use Rattle.hermes_vertical.specs.declared.kind.VerticalKind.{VerticalKind}
use Rattle.hermes_vertical.specs.declared.kind.VerticalKind.TheVariants as kinds
use Rattle.supervisory_core.specs.declared.error.AnswerError.{AnswerError}
use Rattle.supervisory_core.specs.declared.error.AnswerError.TheVariants as errors

-- written out, so that each text is one to compute with
abbrev pub unexpected : VerticalKind → List ℕ
unexpected kinds.SupervisoryServiceDescription = codes "unexpected SupervisoryServiceDescription"
unexpected kinds.BoardArrived = codes "unexpected BoardArrived"
unexpected kinds.BoardDeparted = codes "unexpected BoardDeparted"
unexpected kinds.QueryWorkOrderInfo = codes "unexpected QueryWorkOrderInfo"
unexpected kinds.SendWorkOrderInfo = codes "unexpected SendWorkOrderInfo"
unexpected kinds.CheckAlive = codes "unexpected CheckAlive"
unexpected kinds.Notification = codes "unexpected Notification"
unexpected kinds.Other = codes "unexpected Other"

abbrev pub answer_error_text : AnswerError → List ℕ
answer_error_text (errors.Unknown query) = codes "unknown query"
answer_error_text (errors.Answered query) = codes "answered"

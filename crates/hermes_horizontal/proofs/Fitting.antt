-- The values of messages fit their columns: they are read from the texts that are written of them, and those are texts.
use Rattle.std.proofs.Common.{◌≡◌, ℕ, ◌≤◌, ◌<◌, ◌^◌, arith, leb, Bool, true, false, cond, List, [], ◌∷◌, Option, Some, None, option_map, refl, ap, ◌∙◌}
use Rattle.std.proofs.lemmas.Bool.{and_from, le-leb, leb-true}
use Rattle.std.specs.List.{AllByRecursion}
use Rattle.line_base.specs.Text.{IsText}
use Rattle.line_base.specs.declared.states.Quality.{Quality}
use Rattle.line_base.specs.declared.states.Quality.TheVariants as qualities
use Rattle.line_base.specs.declared.states.Flip.{Flip}
use Rattle.line_base.specs.declared.states.Flip.TheVariants as flips
use Rattle.line_base.specs.declared.states.Severity.{Severity}
use Rattle.line_base.specs.declared.states.Severity.TheVariants as severities
use Rattle.line_base.specs.declared.states.Transfer.{Transfer}
use Rattle.line_base.specs.declared.states.Transfer.TheVariants as transfers
use Rattle.line_base.proofs.Printable.{IsText-moment, IsText-millionths, number_is_text, number_of-decimal}
use Rattle.line_base.proofs.DecimalTexts.{decimal_of-decimal_text}
use Rattle.line_base.proofs.MomentTexts.{moment_of-moment_text}
use Rattle.board_record.specs.declared.sub_board.SubBoard.{SubBoard}
use Rattle.board_record.proofs.IdTexts.{IsText-id, read_id-id_text}
use Rattle.hermes_horizontal.specs.declared.attr.Attr.TheVariants as attrs
use Rattle.hermes_horizontal.specs.declared.kind.Kind.{Kind}
use Rattle.hermes_horizontal.specs.declared.kind.Kind.TheVariants as kinds
use Rattle.hermes_horizontal.specs.declared.message.Ping.{Ping}
use Rattle.hermes_horizontal.specs.declared.message.Ping.TheVariants as pings
use Rattle.hermes_horizontal.specs.declared.message.Info.{Info}
use Rattle.hermes_horizontal.specs.declared.message.Horizontal.{Horizontal}
use Rattle.hermes_horizontal.specs.declared.message.Horizontal.TheVariants as bodies
use Rattle.hermes_horizontal.specs.Values.{ValueKind, Value, worded, numbered, identified, measured, timed, read_as, value_text, value_in, chosen}
use Rattle.hermes_horizontal.specs.Values as values
use Rattle.hermes_horizontal.specs.Rows as rows
use Rattle.hermes_horizontal.specs.Rows.{Column, columns_of, board_columns}
use Rattle.hermes_horizontal.specs.Parts.{parts, sub_parts, info_of, info_parts, kind_of, of_ping, of_severity, of_quality, of_flip, of_transfer}
use Rattle.hermes_horizontal.specs.Canonical.{IsProper, IsProperIf, IsProperSub, HasShortNumbers}
use Rattle.hermes_horizontal.proofs.Again.{AreSuited, columns_apart}
use Rattle.hermes_horizontal.proofs.LongNumbers.{long_number_of-decimal}

-- a value is of this kind, and small enough to be written in nine digits
pub record IsShortNumber (low high n : ℕ) : Type 0 where
  pub low_end : low ≤ n
  pub high_end : n ≤ high
  pub short : n ≤ 999_999_999

abbrev pub IsOfKind : ValueKind → Value → Type 0
IsOfKind values.text (worded bytes) = Unit {0}
IsOfKind values.number (numbered n) = n ≤ 999_999_999
IsOfKind values.long_number (numbered n) = n < 2 ^ 64
IsOfKind (values.choice low high) (numbered n) = IsShortNumber low high n
IsOfKind values.identity (identified id) = Unit {0}
IsOfKind values.decimal (measured millionths) = Unit {0}
IsOfKind values.moment (timed millis) = Unit {0}
IsOfKind _ _ = ⊥

abbrev pub IsFit : Column → Option Value → Type 0
IsFit column None = column.required ≡ false
IsFit column (Some value) = IsOfKind column.kind value

abbrev pub AreFit : List Column → List (Option Value) → Type 0
AreFit [] [] = Unit {0}
AreFit [] (value ∷ values) = ⊥
AreFit (column ∷ columns) [] = ⊥
AreFit (column ∷ columns) (value ∷ values) = IsFit column value × AreFit columns values

-- ---- what is written of them is read again, and is a text

chosen_again : (low high n : ℕ) → IsShortNumber low high n → chosen low high (Some n) ≡ Some (numbered n)
chosen_again low high n h = ap (λ (b : Bool). cond b (Some (numbered n)) None) (and_from (leb low n) (leb n high) (le-leb low n h.low_end) (le-leb n high h.high_end))

read_again : (kind : ValueKind) (value : Value) → IsOfKind kind value → IsProper value → read_as kind (value_text value) ≡ Some value
read_again values.text (worded bytes) fit proper = refl
read_again values.number (numbered n) fit proper = ap (option_map numbered) (number_of-decimal n fit)
read_again values.long_number (numbered n) fit proper = ap (option_map numbered) (long_number_of-decimal n fit)
read_again (values.choice low high) (numbered n) fit proper = ap (chosen low high) (number_of-decimal n fit.short) ∙ chosen_again low high n fit
read_again values.identity (identified id) fit proper = ap (value_in identified) (read_id-id_text id proper)
read_again values.decimal (measured millionths) fit proper = ap (value_in measured) (decimal_of-decimal_text millionths proper)
read_again values.moment (timed millis) fit proper = ap (value_in timed) (moment_of-moment_text millis proper)
read_again values.text (numbered n) fit proper = absurd fit
read_again values.text (identified id) fit proper = absurd fit
read_again values.text (measured millionths) fit proper = absurd fit
read_again values.text (timed millis) fit proper = absurd fit
read_again values.number (worded bytes) fit proper = absurd fit
read_again values.number (identified id) fit proper = absurd fit
read_again values.number (measured millionths) fit proper = absurd fit
read_again values.number (timed millis) fit proper = absurd fit
read_again values.long_number (worded bytes) fit proper = absurd fit
read_again values.long_number (identified id) fit proper = absurd fit
read_again values.long_number (measured millionths) fit proper = absurd fit
read_again values.long_number (timed millis) fit proper = absurd fit
read_again (values.choice low high) (worded bytes) fit proper = absurd fit
read_again (values.choice low high) (identified id) fit proper = absurd fit
read_again (values.choice low high) (measured millionths) fit proper = absurd fit
read_again (values.choice low high) (timed millis) fit proper = absurd fit
read_again values.identity (worded bytes) fit proper = absurd fit
read_again values.identity (numbered n) fit proper = absurd fit
read_again values.identity (measured millionths) fit proper = absurd fit
read_again values.identity (timed millis) fit proper = absurd fit
read_again values.decimal (worded bytes) fit proper = absurd fit
read_again values.decimal (numbered n) fit proper = absurd fit
read_again values.decimal (identified id) fit proper = absurd fit
read_again values.decimal (timed millis) fit proper = absurd fit
read_again values.moment (worded bytes) fit proper = absurd fit
read_again values.moment (numbered n) fit proper = absurd fit
read_again values.moment (identified id) fit proper = absurd fit
read_again values.moment (measured millionths) fit proper = absurd fit

number_text : (kind : ValueKind) (n : ℕ) → IsOfKind kind (numbered n) → n < 2 ^ 64
number_text values.number n fit = omega arith
number_text values.long_number n fit = fit
number_text (values.choice low high) n fit = let h = fit.short in omega (arith, h)
number_text values.text n fit = absurd fit
number_text values.identity n fit = absurd fit
number_text values.decimal n fit = absurd fit
number_text values.moment n fit = absurd fit

pub text_of_value : (kind : ValueKind) (value : Value) → IsOfKind kind value → IsProper value → IsText (value_text value)
text_of_value kind (worded bytes) fit proper = proper
text_of_value kind (numbered n) fit proper = number_is_text n (number_text kind n fit)
text_of_value kind (identified id) fit proper = IsText-id id
text_of_value kind (measured millionths) fit proper = IsText-millionths millionths proper
text_of_value kind (timed millis) fit proper = IsText-moment millis

pub suited : (columns : List Column) (values : List (Option Value)) → AreFit columns values → AllByRecursion IsProperIf values → AreSuited columns values
suited [] [] fit proper = tt
suited [] (value ∷ values) fit proper = absurd fit
suited (column ∷ columns) [] fit proper = absurd fit
suited (column ∷ columns) (None ∷ values) fit proper = (fit.0, suited columns values fit.1 proper.1)
suited (column ∷ columns) (Some value ∷ values) fit proper = (read_again column.kind value fit.0 proper.0, suited columns values fit.1 proper.1)

-- ---- the values of messages fit; the attribute's name makes no difference

pub fit_text : (o : Option (List ℕ)) → IsFit (rows.optional attrs.Id values.text) (option_map worded o)
fit_text None = refl
fit_text (Some text) = tt

pub fit_decimal : (o : Option ℕ) → IsFit (rows.optional attrs.Id values.decimal) (option_map measured o)
fit_decimal None = refl
fit_decimal (Some millionths) = tt

pub fit_id : (o : Option ℕ) → IsFit (rows.optional attrs.Id values.identity) (option_map identified o)
fit_id None = refl
fit_id (Some id) = tt

pub short : (low high n : ℕ) → leb low n ≡ true → leb n high ≡ true → leb n 999_999_999 ≡ true → IsShortNumber low high n
short low high n e d f = record { low_end = leb-true low n e; high_end = leb-true n high d; short = leb-true n 999_999_999 f }

pub of_ping_kind : (ping : Ping) → IsOfKind rows.ping (of_ping ping)
of_ping_kind pings.Ask = short 1 2 1 refl refl refl
of_ping_kind pings.Answer = short 1 2 2 refl refl refl

pub fit_ping : (o : Option Ping) → IsFit (rows.optional attrs.Id rows.ping) (option_map of_ping o)
fit_ping None = refl
fit_ping (Some ping) = of_ping_kind ping

pub fit_severity : (severity : Severity) → IsOfKind rows.severity (of_severity severity)
fit_severity severities.Fatal = short 1 4 1 refl refl refl
fit_severity severities.Error = short 1 4 2 refl refl refl
fit_severity severities.Warning = short 1 4 3 refl refl refl
fit_severity severities.Info = short 1 4 4 refl refl refl

of_quality_kind : (quality : Quality) → IsOfKind rows.quality (of_quality quality)
of_quality_kind qualities.Unknown = short 0 2 0 refl refl refl
of_quality_kind qualities.Good = short 0 2 1 refl refl refl
of_quality_kind qualities.Failed = short 0 2 2 refl refl refl

fit_quality : (o : Option Quality) → IsFit (rows.optional attrs.Id rows.quality) (option_map of_quality o)
fit_quality None = refl
fit_quality (Some quality) = of_quality_kind quality

of_flip_kind : (flip : Flip) → IsOfKind rows.flip (of_flip flip)
of_flip_kind flips.Unknown = short 0 2 0 refl refl refl
of_flip_kind flips.TopUp = short 0 2 1 refl refl refl
of_flip_kind flips.BottomUp = short 0 2 2 refl refl refl

fit_flip : (o : Option Flip) → IsFit (rows.optional attrs.Id rows.flip) (option_map of_flip o)
fit_flip None = refl
fit_flip (Some flip) = of_flip_kind flip

fit_transfer : (state : Transfer) → IsOfKind rows.transfer (of_transfer state)
fit_transfer transfers.NotStarted = short 1 3 1 refl refl refl
fit_transfer transfers.Incomplete = short 1 3 2 refl refl refl
fit_transfer transfers.Complete = short 1 3 3 refl refl refl

fit_record : (info : Info) → AreFit rows.record_columns (option_map worded info.product ∷ option_map worded info.top ∷ option_map worded info.bottom
    ∷ option_map measured info.length ∷ option_map measured info.width ∷ option_map measured info.thickness ∷ option_map measured info.speed ∷ option_map measured info.top_clearance
    ∷ option_map measured info.bottom_clearance ∷ option_map measured info.weight ∷ option_map worded info.order ∷ option_map worded info.batch ∷ [])
fit_record info = (
  fit_text info.product,
  (
    fit_text info.top,
    (
      fit_text info.bottom,
      (
        fit_decimal info.length,
        (
          fit_decimal info.width,
          (
            fit_decimal info.thickness,
            (
              fit_decimal info.speed,
              (fit_decimal info.top_clearance, (fit_decimal info.bottom_clearance, (fit_decimal info.weight, (fit_text info.order, (fit_text info.batch, tt))))),
            ),
          ),
        ),
      ),
    ),
  ),
)

fit_info : (info : Info) → AreFit (board_columns false) (info_parts info)
fit_info info = (fit_id info.id, (fit_text info.created_by, (fit_quality info.quality, (fit_flip info.flip, fit_record info))))

pub fit_parts : (body : Horizontal) → HasShortNumbers body → AreFit (columns_of (kind_of body)) (parts body)
fit_parts (bodies.CheckAlive ping id) numbers = (fit_ping ping, (fit_text id, tt))
fit_parts (bodies.ServiceDescription service) numbers = (tt, (numbers, (fit_text service.interface, (tt, tt))))
fit_parts (bodies.Notification code severity description) numbers = (numbers, (fit_severity severity, (tt, tt)))
fit_parts (bodies.BoardAvailable board) numbers = (tt, (tt, (of_quality_kind board.quality, (of_flip_kind board.flip, fit_record (info_of board)))))
fit_parts bodies.RevokeBoardAvailable numbers = tt
fit_parts (bodies.MachineReady quality) numbers = (of_quality_kind quality, tt)
fit_parts bodies.RevokeMachineReady numbers = tt
fit_parts (bodies.StartTransport id) numbers = (tt, tt)
fit_parts (bodies.StopTransport state id) numbers = (fit_transfer state, (tt, tt))
fit_parts (bodies.TransportFinished state id) numbers = (fit_transfer state, (tt, tt))
fit_parts (bodies.BoardForecast info) numbers = fit_info info
fit_parts (bodies.QueryBoardInfo top bottom) numbers = (fit_text top, (fit_text bottom, tt))
fit_parts (bodies.SendBoardInfo info) numbers = fit_info info
fit_parts (bodies.Other name) numbers = tt

-- ---- the values of a sub board

pub fit_sub : (sub : SubBoard) → sub.pos ≤ 999_999_999 → AreFit rows.sub_columns (sub_parts sub)
fit_sub sub place = (place, (fit_text sub.barcode, (of_quality_kind sub.state, tt)))

pub proper_sub : (sub : SubBoard) → IsProperSub sub → AllByRecursion IsProperIf (sub_parts sub)
proper_sub sub barcode = (tt, (barcode, (tt, tt)))

-- ---- no row has a name twice

pub rows_apart : (kind : Kind) → columns_apart (columns_of kind) ≡ true
rows_apart kinds.CheckAlive = refl
rows_apart kinds.ServiceDescription = refl
rows_apart kinds.Notification = refl
rows_apart kinds.BoardAvailable = refl
rows_apart kinds.RevokeBoardAvailable = refl
rows_apart kinds.MachineReady = refl
rows_apart kinds.RevokeMachineReady = refl
rows_apart kinds.StartTransport = refl
rows_apart kinds.StopTransport = refl
rows_apart kinds.TransportFinished = refl
rows_apart kinds.BoardForecast = refl
rows_apart kinds.QueryBoardInfo = refl
rows_apart kinds.SendBoardInfo = refl
rows_apart kinds.Other = refl

-- The parts of messages from the values of their attributes.
use Rattle.std.proofs.Common.{◌≡◌, ℕ, ℤ, ◌==◌, cond, List, [], Option, Some, None, get_or, option_map, refl}
use Rattle.line_base.specs.declared.states.Quality.{Quality}
use Rattle.line_base.specs.declared.states.Quality.TheVariants as qualities
use Rattle.line_base.specs.declared.states.Flip.{Flip}
use Rattle.line_base.specs.declared.states.Flip.TheVariants as flips
use Rattle.line_base.specs.declared.states.Severity.{Severity}
use Rattle.line_base.specs.declared.states.Severity.TheVariants as severities
use Rattle.line_base.specs.declared.states.Transfer.{Transfer}
use Rattle.line_base.specs.declared.states.Transfer.TheVariants as transfers
use Rattle.board_record.specs.declared.sub_board.SubBoard.{SubBoard}
use Rattle.hermes_horizontal.specs.declared.message.Ping.{Ping}
use Rattle.hermes_horizontal.specs.declared.message.Ping.TheVariants as pings
use Rattle.hermes_horizontal.specs.declared.message.Features.{Features}
use Rattle.hermes_horizontal.specs.Values.{Value, worded, numbered, identified, measured, timed}
use Rattle.hermes_horizontal.specs.Parts.{of_ping, of_severity, of_quality, of_flip, of_transfer, Inner, featured, subbed, untold}
use Rattle.hermes_horizontal.specs.Said.{features_listed}

abbrev pub text_in : Option Value → Option (List ℕ)
text_in (Some (worded text)) = Some text
text_in _ = None

abbrev pub number_in : Option Value → Option ℕ
number_in (Some (numbered n)) = Some n
number_in _ = None

abbrev pub id_in : Option Value → Option ℕ
id_in (Some (identified id)) = Some id
id_in _ = None

abbrev pub decimal_in : Option Value → Option ℕ
decimal_in (Some (measured millionths)) = Some millionths
decimal_in _ = None

abbrev pub moment_in : Option Value → Option ℤ
moment_in (Some (timed millis)) = Some millis
moment_in _ = None

abbrev pub or_zero : Option ℕ → ℕ
or_zero None = 0
or_zero (Some n) = n

abbrev pub or_empty : Option (List ℕ) → List ℕ
or_empty None = []
or_empty (Some text) = text

abbrev pub ping_from : ℕ → Ping
ping_from n = cond (n == 1) pings.Ask pings.Answer

abbrev pub severity_from : ℕ → Severity
severity_from n = cond (n == 1) severities.Fatal (cond (n == 2) severities.Error (cond (n == 3) severities.Warning severities.Info))

abbrev pub quality_from : ℕ → Quality
quality_from n = cond (n == 0) qualities.Unknown (cond (n == 1) qualities.Good qualities.Failed)

abbrev pub flip_from : ℕ → Flip
flip_from n = cond (n == 0) flips.Unknown (cond (n == 1) flips.TopUp flips.BottomUp)

abbrev pub transfer_from : ℕ → Transfer
transfer_from n = cond (n == 1) transfers.NotStarted (cond (n == 2) transfers.Incomplete transfers.Complete)

abbrev pub ping_in : Option Value → Option Ping
ping_in value = option_map ping_from (number_in value)

abbrev pub quality_in : Option Value → Option Quality
quality_in value = option_map quality_from (number_in value)

abbrev pub flip_in : Option Value → Option Flip
flip_in value = option_map flip_from (number_in value)

pub text_back : (o : Option (List ℕ)) → text_in (option_map worded o) ≡ o
text_back None = refl
text_back (Some x) = refl

pub id_back : (o : Option ℕ) → id_in (option_map identified o) ≡ o
id_back None = refl
id_back (Some x) = refl

pub decimal_back : (o : Option ℕ) → decimal_in (option_map measured o) ≡ o
decimal_back None = refl
decimal_back (Some x) = refl

pub moment_back : (o : Option ℤ) → moment_in (option_map timed o) ≡ o
moment_back None = refl
moment_back (Some x) = refl

pub ping_back : (o : Option Ping) → ping_in (option_map of_ping o) ≡ o
ping_back None = refl
ping_back (Some pings.Ask) = refl
ping_back (Some pings.Answer) = refl

pub quality_is : (q : Quality) → quality_in (Some (of_quality q)) ≡ Some q
quality_is qualities.Unknown = refl
quality_is qualities.Good = refl
quality_is qualities.Failed = refl

pub quality_back : (o : Option Quality) → quality_in (option_map of_quality o) ≡ o
quality_back None = refl
quality_back (Some q) = quality_is q

pub flip_back : (o : Option Flip) → flip_in (option_map of_flip o) ≡ o
flip_back None = refl
flip_back (Some flips.Unknown) = refl
flip_back (Some flips.TopUp) = refl
flip_back (Some flips.BottomUp) = refl

pub severity_back : (s : Severity) → severity_from (or_zero (number_in (Some (of_severity s)))) ≡ s
severity_back severities.Fatal = refl
severity_back severities.Error = refl
severity_back severities.Warning = refl
severity_back severities.Info = refl

pub transfer_back : (t : Transfer) → transfer_from (or_zero (number_in (Some (of_transfer t)))) ≡ t
transfer_back transfers.NotStarted = refl
transfer_back transfers.Incomplete = refl
transfer_back transfers.Complete = refl

-- the value at this place of a row
abbrev pub part : List (Option Value) → ℕ → Option Value
part values i = get_or values i None

abbrev pub or_no_features : Option Features → Features
or_no_features None = features_listed []
or_no_features (Some features) = features

abbrev pub features_inside : Inner → Features
features_inside (featured features) = features
features_inside _ = features_listed []

abbrev pub subs_inside : Inner → List SubBoard
subs_inside (subbed subs) = subs
subs_inside (untold subs) = subs
subs_inside _ = []

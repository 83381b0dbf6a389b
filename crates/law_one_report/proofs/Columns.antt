-- What the columns of a row say of an element's attributes: a value of its kind for each, or the first refusal.
use Rattle.std.proofs.Common.{◌≡◌, ◌≤◌, ◌&&◌, ℕ, Bool, true, false, cond, zero, suc, List, [], ◌∷◌, Option, Some, None, Result, Ok, Err, option_map, refl, ap, arith}
use Rattle.std.specs.Prelude.{nat_le}
use Rattle.std.proofs.lemmas.Bool.{and_parts, leb-true}
use Rattle.line_base.specs.Decimal.{decimal_of}
use Rattle.line_base.specs.Moment.{moment_of}
use Rattle.line_base.specs.Number.{number_of}
use Rattle.line_base.specs.declared.states.Flip.TheVariants as flips
use Rattle.line_base.specs.declared.states.Quality.TheVariants as qualities
use Rattle.line_base.specs.declared.states.Severity.TheVariants as severities
use Rattle.line_base.specs.declared.states.Transfer.TheVariants as transfers
use Rattle.board_record.specs.BoardId.{read_id}
use Rattle.hermes_element.specs.declared.attribute.Attribute.{Attribute}
use Rattle.hermes_horizontal.specs.Attrs.{attr_text}
use Rattle.hermes_horizontal.specs.Parts.{of_flip, of_ping, of_quality, of_severity, of_transfer}
use Rattle.hermes_horizontal.specs.Rows.{Column, flip, optional, ping, quality, required, severity, transfer}
use Rattle.hermes_horizontal.specs.Said.{first_named, mapped_ok, then_ok, value_at, value_or_bad, values_of}
use Rattle.hermes_horizontal.specs.Values.{Value, ValueKind, chosen, decimal, identified, identity, measured, moment, number, numbered, read_as, text, timed, value_in, worded}
use Rattle.hermes_horizontal.specs.declared.attr.Attr.{Attr}
use Rattle.hermes_horizontal.specs.declared.fault.Fault.TheVariants as faults
use Rattle.hermes_horizontal.specs.declared.fault.Refusal.{Refusal}
use Rattle.hermes_horizontal.specs.declared.message.Ping.TheVariants as pings

-- ---- what bytes are read as

-- bytes are read as a value of a kind, or as none
pub data Reads {X : Type 0} (value : X → Value) (read : Option Value) : Type 0 where
  reads : (x : X) → read ≡ Some (value x) → Reads value read
  reads_none : read ≡ None → Reads value read

pub text_read : (bytes : List ℕ) → Reads worded (read_as text bytes)
text_read bytes = reads bytes refl

number_found : (found : Option ℕ) → Reads numbered (option_map numbered found)
number_found None = reads_none refl
number_found (Some n) = reads n refl

pub number_read : (bytes : List ℕ) → Reads numbered (read_as number bytes)
number_read bytes = number_found (number_of bytes)

value_found : {A E : Type 0} (value : A → Value) (found : Result A E) → Reads value (value_in value found)
value_found value (Ok x) = reads x refl
value_found value (Err bad) = reads_none refl

pub id_read : (bytes : List ℕ) → Reads identified (read_as identity bytes)
id_read bytes = value_found identified (read_id bytes)

pub decimal_read : (bytes : List ℕ) → Reads measured (read_as decimal bytes)
decimal_read bytes = value_found measured (decimal_of bytes)

pub moment_read : (bytes : List ℕ) → Reads timed (read_as moment bytes)
moment_read bytes = value_found timed (moment_of bytes)

-- a number that stands for a word
record Word {X : Type 0} (value : X → Value) (n : ℕ) : Type 0 where
  word : X
  same : numbered n ≡ value word

word_read : {X : Type 0} (value : X → Value) (n : ℕ) → Word value n → Reads value (Some (numbered n))
word_read value n word = reads word.word (ap (λ (v : Value). Some v) word.same)

choice_tested : {X : Type 0} (value : X → Value) (low high n : ℕ) (test : Bool) → ((m : ℕ) → low ≤ m → m ≤ high → Word value m) → (nat_le low n && nat_le n high) ≡ test → Reads value (cond test (Some (numbered n)) None)
choice_tested value low high n false words is = reads_none refl
choice_tested value low high n true words is =
    let parts = and_parts (nat_le low n) (nat_le n high) is in
    word_read value n (words n (leb-true low n parts.0) (leb-true n high parts.1))

-- each number between two bounds stands for one
choice_found : {X : Type 0} (value : X → Value) (low high : ℕ) → ((m : ℕ) → low ≤ m → m ≤ high → Word value m) → (found : Option ℕ) → Reads value (chosen low high found)
choice_found value low high words None = reads_none refl
choice_found value low high words (Some n) = choice_tested value low high n (nat_le low n && nat_le n high) words refl

quality_word : (n : ℕ) → 0 ≤ n → n ≤ 2 → Word of_quality n
quality_word zero above below = record { word = qualities.Unknown; same = refl }
quality_word (suc zero) above below = record { word = qualities.Good; same = refl }
quality_word (suc (suc zero)) above below = record { word = qualities.Failed; same = refl }
quality_word (suc (suc (suc n))) above below = absurd (omega arith)

pub quality_read : (bytes : List ℕ) → Reads of_quality (read_as quality bytes)
quality_read bytes = choice_found of_quality 0 2 quality_word (number_of bytes)

flip_word : (n : ℕ) → 0 ≤ n → n ≤ 2 → Word of_flip n
flip_word zero above below = record { word = flips.Unknown; same = refl }
flip_word (suc zero) above below = record { word = flips.TopUp; same = refl }
flip_word (suc (suc zero)) above below = record { word = flips.BottomUp; same = refl }
flip_word (suc (suc (suc n))) above below = absurd (omega arith)

pub flip_read : (bytes : List ℕ) → Reads of_flip (read_as flip bytes)
flip_read bytes = choice_found of_flip 0 2 flip_word (number_of bytes)

ping_word : (n : ℕ) → 1 ≤ n → n ≤ 2 → Word of_ping n
ping_word zero above below = absurd (omega arith)
ping_word (suc zero) above below = record { word = pings.Ask; same = refl }
ping_word (suc (suc zero)) above below = record { word = pings.Answer; same = refl }
ping_word (suc (suc (suc n))) above below = absurd (omega arith)

pub ping_read : (bytes : List ℕ) → Reads of_ping (read_as ping bytes)
ping_read bytes = choice_found of_ping 1 2 ping_word (number_of bytes)

severity_word : (n : ℕ) → 1 ≤ n → n ≤ 4 → Word of_severity n
severity_word zero above below = absurd (omega arith)
severity_word (suc zero) above below = record { word = severities.Fatal; same = refl }
severity_word (suc (suc zero)) above below = record { word = severities.Error; same = refl }
severity_word (suc (suc (suc zero))) above below = record { word = severities.Warning; same = refl }
severity_word (suc (suc (suc (suc zero)))) above below = record { word = severities.Info; same = refl }
severity_word (suc (suc (suc (suc (suc n))))) above below = absurd (omega arith)

pub severity_read : (bytes : List ℕ) → Reads of_severity (read_as severity bytes)
severity_read bytes = choice_found of_severity 1 4 severity_word (number_of bytes)

transfer_word : (n : ℕ) → 1 ≤ n → n ≤ 3 → Word of_transfer n
transfer_word zero above below = absurd (omega arith)
transfer_word (suc zero) above below = record { word = transfers.NotStarted; same = refl }
transfer_word (suc (suc zero)) above below = record { word = transfers.Incomplete; same = refl }
transfer_word (suc (suc (suc zero))) above below = record { word = transfers.Complete; same = refl }
transfer_word (suc (suc (suc (suc n)))) above below = absurd (omega arith)

pub transfer_read : (bytes : List ℕ) → Reads of_transfer (read_as transfer bytes)
transfer_read bytes = choice_found of_transfer 1 3 transfer_word (number_of bytes)

-- ---- what a column says

-- a part is said, seen by its values, or it is refused
pub data Tells {X Y : Type 0} (view : X → Y) (said : Result Y Refusal) : Type 0 where
  tells : (part : X) → said ≡ Ok (view part) → Tells view said
  refuses : (refusal : Refusal) → said ≡ Err refusal → Tells view said

abbrev pub must : {X : Type 0} → (X → Value) → X → Option Value
must value x = Some (value x)

abbrev pub may : {X : Type 0} → (X → Value) → Option X → Option Value
may value x = option_map value x

must_tell : {X : Type 0} (value : X → Value) (at : ℕ) (attr : Attr) (read : Option Value) → Reads value read → Tells (must value) (value_or_bad at attr read)
must_tell value at attr read (reads x is) = tells x (ap (value_or_bad at attr) is)
must_tell value at attr read (reads_none is) = refuses (record { at = at; why = faults.BadValue attr }) (ap (value_or_bad at attr) is)

may_tell : {X : Type 0} (value : X → Value) (at : ℕ) (attr : Attr) (read : Option Value) → Reads value read → Tells (may value) (value_or_bad at attr read)
may_tell value at attr read (reads x is) = tells (Some x) (ap (value_or_bad at attr) is)
may_tell value at attr read (reads_none is) = refuses (record { at = at; why = faults.BadValue attr }) (ap (value_or_bad at attr) is)

must_say : {X : Type 0} (value : X → Value) (kind : ValueKind) → ((bytes : List ℕ) → Reads value (read_as kind bytes)) → (at : ℕ) (attr : Attr) (found : Option Attribute) → Tells (must value) (value_at at (required attr kind) found)
must_say value kind read at attr None = refuses (record { at = at; why = faults.Missing attr }) refl
must_say value kind read at attr (Some attribute) = must_tell value attribute.at attr (read_as kind attribute.value) (read attribute.value)

pub may_say : {X : Type 0} (value : X → Value) (kind : ValueKind) → ((bytes : List ℕ) → Reads value (read_as kind bytes)) → (at : ℕ) (attr : Attr) (found : Option Attribute) → Tells (may value) (value_at at (optional attr kind) found)
may_say value kind read at attr None = tells None refl
may_say value kind read at attr (Some attribute) = may_tell value attribute.at attr (read_as kind attribute.value) (read attribute.value)

-- ---- what a row says

pub record Both (A B : Type 0) : Type 0 where
  pub first : A
  pub others : B

abbrev pub no_values : Unit {0} → List (Option Value)
no_values nothing = []

abbrev pub joined : {A B : Type 0} → (A → Option Value) → (B → List (Option Value)) → Both A B → List (Option Value)
joined value values both = value both.first ∷ values both.others

-- the columns of a row say a part each, or the first refusal, whatever the attributes are
pub record Says {X : Type 0} (view : X → List (Option Value)) (columns : List Column) : Type 0 where
  pub says : (at : ℕ) (attributes : List Attribute) → Tells view (values_of at attributes columns)

pub none_say : Says no_values []
none_say = record { says = λ at attributes. tells tt refl }

then_say : {A B : Type 0} (value : A → Option Value) (values : B → List (Option Value)) (first : Result (Option Value) Refusal) (others : Result (List (Option Value)) Refusal)
    → Tells value first → Tells values others → Tells (joined value values) (then_ok first (λ v. mapped_ok (λ vs. v ∷ vs) others))
then_say value values first others (refuses refusal is) rest = refuses refusal (rw is refl)
then_say value values first others (tells a is) (refuses refusal other) = refuses refusal (rw (is, other) refl)
then_say value values first others (tells a is) (tells b other) = tells (record { first = a; others = b }) (rw (is, other) refl)

pub must_be : {X B : Type 0} {value : X → Value} {values : B → List (Option Value)} {columns : List Column} (kind : ValueKind) (attr : Attr) → ((bytes : List ℕ) → Reads value (read_as kind bytes)) → Says values columns
    → Says (joined (must value) values) (required attr kind ∷ columns)
must_be {value = value} {values = values} {columns = columns} kind attr read rest = record {
  says = λ at attributes.
      then_say (must value) values (value_at at (required attr kind) (first_named (attr_text attr) attributes)) (values_of at attributes columns)
      (must_say value kind read at attr (first_named (attr_text attr) attributes)) (rest.says at attributes);
}

pub may_be : {X B : Type 0} {value : X → Value} {values : B → List (Option Value)} {columns : List Column} (kind : ValueKind) (attr : Attr) → ((bytes : List ℕ) → Reads value (read_as kind bytes)) → Says values columns
    → Says (joined (may value) values) (optional attr kind ∷ columns)
may_be {value = value} {values = values} {columns = columns} kind attr read rest = record {
  says = λ at attributes.
      then_say (may value) values (value_at at (optional attr kind) (first_named (attr_text attr) attributes)) (values_of at attributes columns)
      (may_say value kind read at attr (first_named (attr_text attr) attributes)) (rest.says at attributes);
}

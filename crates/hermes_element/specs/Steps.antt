-- What the parts of the reader answer: each goes on with the reading machine from where it is
-- called to where it ends.
use Rattle.std.specs.Prelude.{◌≡◌, ◌≢◌, ◌⊎◌, ℕ, zero, suc, ◌+◌, ◌/◌, ◌%◌, ◌<◌, ◌≤◌, Bool, true, false, List, [], ◌∷◌, ◌++◌, Some, None, Result, Ok, Err, length, drop, slice_index, slice_range}
use Rattle.std.specs.Char.{encode_utf8}
use Rattle.line_base.specs.Text.{is_allowed_char}
use Rattle.hermes_element.specs.Plain.{is_blank}
use Rattle.hermes_element.specs.Element.{Forest, none, more, Tree}
use Rattle.hermes_element.specs.Refusal.{shape_reason}
use Rattle.hermes_element.specs.declared.refusal.ElementError.{ElementError}
use Rattle.hermes_element.specs.declared.refusal.ElementError.TheVariants as errors
use Rattle.hermes_element.specs.Machine.{Build, Outcome, run, between, in_tag, with_attribute, ended, share, after_element, add_last, outcome, stop_of}
use Rattle.hermes_element.specs.declared.attribute.Attribute.{Attribute}
use Rattle.hermes_element.specs.declared.place.Place.{Place}
use Rattle.hermes_element.specs.declared.place.Place.TheVariants as places
use Rattle.hermes_element.specs.declared.refusal.Why.TheVariants as why
use Rattle.hermes_element.specs.declared.stop.Stop.{Stop}
use Rattle.hermes_element.specs.declared.stop.Stop.TheVariants as stops

-- the indexes from `from` up to `to` pass the test, and `to` doesn't, if a byte stands there
pub record IsSpan (test : ℕ → Bool) (bytes : List ℕ) (from to : ℕ) : Type 0 where
  pub low : from ≤ to
  pub high : to ≤ length bytes
  pub each : (k : ℕ) → from ≤ k → k < to → test (slice_index bytes k) ≡ true
  pub over : to < length bytes → test (slice_index bytes to) ≡ false

-- the machine from an index on
abbrev pub run_at : Place → ℕ → Build → ℕ → List ℕ → Outcome
run_at place depth c at bytes = run place depth (Ok c) at (drop at bytes)

-- the machine ends as the reader says
abbrev pub Meets : Outcome → Stop → Type 0
Meets outcome (stops.Shape at) = outcome.stop ≡ Some at
Meets outcome (stops.EndName at) = outcome.built ≡ Err (at, why.EndName)
Meets outcome (stops.Repeated at) = outcome.built ≡ Err (at, why.Repeated)
Meets outcome (stops.Reference at) = outcome.built ≡ Err (at, why.Reference)
Meets outcome (stops.LongValue at) = outcome.built ≡ Err (at, why.LongValue)
Meets outcome (stops.Deep at) = outcome.built ≡ Err (at, why.Deep)
Meets outcome (stops.Many at) = outcome.built ≡ Err (at, why.Many)
Meets outcome stops.Memory = Unit {0}

-- in a value
abbrev pub valuing : Build → List ℕ → ℕ → List ℕ → Bool → Build
valuing c key start value after_cr =
    record c {
      scratch = record {
        key = key;
        value = value;
        start = start;
        after_cr = after_cr;
        word = [];
        mark = 0;
      };
    }

-- an escape of at least one letter or digit ends here
abbrev pub IsGood : List ℕ → ℕ → ℕ → Type 0
IsGood bytes start to = (start < to) × (to < length bytes) × (slice_index bytes to ≡ 59)

-- from the `&` of an escape to behind its `;`
abbrev pub ReadsReference : List ℕ → ℕ → Result (ℕ × ℕ) Stop → Type 0
ReadsReference bytes at (Ok read) =
    (quote depth start : ℕ) (key value : List ℕ) (after_cr : Bool) (c : Build) → 38 ≢ quote
    → run_at (places.Value quote) depth (valuing c key start value after_cr) at bytes
    ≡ run_at (places.Value quote) depth
    (valuing c key start (value ++ encode_utf8 read.0) false) read.1 bytes
ReadsReference bytes at (Err stop) =
    (quote depth start : ℕ) (key value : List ℕ) (after_cr : Bool) (c : Build) → 38 ≢ quote
    → Meets (run_at (places.Value quote) depth (valuing c key start value after_cr) at bytes) stop

-- a character of several bytes
abbrev pub ReadsWide : List ℕ → ℕ → ℕ → Result ℕ Stop → Type 0
ReadsWide bytes quote at (Ok to) =
    (depth start : ℕ) (key value : List ℕ) (after_cr : Bool) (c : Build)
    → run_at (places.Value quote) depth (valuing c key start value after_cr) at bytes
    ≡ run_at (places.Value quote) depth
    (valuing c key start (value ++ slice_range bytes at to) false) to bytes
ReadsWide bytes quote at (Err stop) =
    (depth start : ℕ) (key value : List ℕ) (after_cr : Bool) (c : Build)
    → Meets (run_at (places.Value quote) depth (valuing c key start value after_cr) at bytes) stop

-- one character or escape of a value that has `old` so far; `new` it has then
abbrev pub ReadsPart : List ℕ → ℕ → ℕ → List ℕ → Bool → List ℕ → Result (ℕ × Bool) Stop → Type 0
ReadsPart bytes quote at old after_cr new (Ok to) =
    (depth start : ℕ) (key : List ℕ) (c : Build)
    → run_at (places.Value quote) depth (valuing c key start old after_cr) at bytes
    ≡ run_at (places.Value quote) depth (valuing c key start new to.1) to.0 bytes
ReadsPart bytes quote at old after_cr new (Err stop) =
    (depth start : ℕ) (key : List ℕ) (c : Build)
    → Meets (run_at (places.Value quote) depth (valuing c key start old after_cr) at bytes)
    stop

-- bytes are appended, or memory is wanting
abbrev pub Puts : List ℕ → List ℕ → ℕ → Bool → List ℕ → Result (ℕ × Bool) Stop → Type 0
Puts old bytes next is_cr new (Ok to) = (new ≡ old ++ bytes) × (to ≡ (next, is_cr))
Puts old bytes next is_cr new (Err stop) = stop ≡ stops.Memory

-- a value from its first byte to behind its closing quote
abbrev pub ReadsValue : List ℕ → ℕ → ℕ → Result (List ℕ × ℕ) Stop → Type 0
ReadsValue bytes quote at (Ok read) =
    (depth : ℕ) (key : List ℕ) (c : Build)
    → run_at (places.Value quote) depth (valuing c key at [] false) at bytes
    ≡ run_at places.Quoted depth
    (in_tag c.roots c.stack (with_attribute c.tag key read.0 at)) read.1 bytes
ReadsValue bytes quote at (Err stop) =
    (depth : ℕ) (key : List ℕ) (c : Build)
    → Meets (run_at (places.Value quote) depth (valuing c key at [] false) at bytes) stop

-- an attribute from its name's first byte to behind its value, in a tag that has `attributes` so
-- far
abbrev pub ReadsAttribute : List ℕ → List Attribute → ℕ → Result (Attribute × ℕ) Stop → Type 0
ReadsAttribute bytes attributes at (Ok read) =
    (depth : ℕ) (roots : Forest) (stack : List Tree) (tag : Tree) → tag.attributes ≡ attributes
    → run_at places.Gap depth (in_tag roots stack tag) at bytes
    ≡ run_at places.Quoted depth
    (in_tag roots stack (record tag { attributes = tag.attributes ++ read.0 ∷ [] })) read.1
    bytes
ReadsAttribute bytes attributes at (Err stop) =
    (depth : ℕ) (roots : Forest) (stack : List Tree) (tag : Tree) → tag.attributes ≡ attributes
    → Meets (run_at places.Gap depth (in_tag roots stack tag) at bytes) stop

-- the attributes of a start tag from behind its name to where they and the blanks behind them end
abbrev pub ReadsAttributes : List ℕ → ℕ → Result (List Attribute × ℕ) Stop → Type 0
ReadsAttributes bytes at (Ok read) =
    (depth : ℕ) (roots : Forest) (stack : List Tree) (tag : Tree) → tag.attributes ≡ []
    → run_at places.Quoted depth (in_tag roots stack tag) at bytes
    ≡ run_at places.Quoted depth
    (in_tag roots stack (record tag { attributes = read.0 })) read.1 bytes
ReadsAttributes bytes at (Err stop) =
    (depth : ℕ) (roots : Forest) (stack : List Tree) (tag : Tree) → tag.attributes ≡ []
    → Meets (run_at places.Quoted depth (in_tag roots stack tag) at bytes) stop

-- no blank stands at an index
abbrev pub IsNoBlank : List ℕ → ℕ → Type 0
IsNoBlank bytes at = at < length bytes → is_blank (slice_index bytes at) ≡ false

-- a start tag from its name's first byte to where its attributes and the blanks behind them end
abbrev pub ReadsTag : List ℕ → ℕ → ℕ → Result (Tree × ℕ) Stop → Type 0
ReadsTag bytes count at (Ok read) =
    (roots : Forest) (stack : List Tree) → length stack ≡ count
    → run_at places.Open count (between roots stack) at bytes
    ≡ run_at places.Quoted count (in_tag roots stack read.0) read.1 bytes
ReadsTag bytes count at (Err stop) =
    (roots : Forest) (stack : List Tree) → length stack ≡ count
    → Meets (run_at places.Open count (between roots stack) at bytes) stop

-- the end of a start tag: the element ends with it, or its content begins
abbrev pub tag_ended : Bool → Forest → List Tree → Tree → ℕ → ℕ → List ℕ → Outcome
tag_ended true roots stack tag depth at bytes =
    run_at (after_element depth) depth (ended roots stack tag) at bytes
tag_ended false roots stack tag depth at bytes =
    run_at places.Content (depth + 1) (between roots (stack ++ tag ∷ [])) at bytes

abbrev pub ReadsTagEnd : List ℕ → ℕ → Result (Bool × ℕ) Stop → Type 0
ReadsTagEnd bytes at (Ok read) =
    (depth : ℕ) (roots : Forest) (stack : List Tree) (tag : Tree)
    → run_at places.Quoted depth (in_tag roots stack tag) at bytes
    ≡ tag_ended read.0 roots stack tag depth read.1 bytes
ReadsTagEnd bytes at (Err stop) =
    (depth : ℕ) (roots : Forest) (stack : List Tree) (tag : Tree)
    → Meets (run_at places.Quoted depth (in_tag roots stack tag) at bytes) stop

-- a whole start tag, from its name's first byte on
abbrev pub ReadsStart : List ℕ → ℕ → ℕ → Result (Tree × Bool × ℕ) Stop → Type 0
ReadsStart bytes count at (Ok read) =
    (roots : Forest) (stack : List Tree) → length stack ≡ count
    → run_at places.Open count (between roots stack) at bytes
    ≡ tag_ended read.1 roots stack read.0 count read.2 bytes
ReadsStart bytes count at (Err stop) =
    (roots : Forest) (stack : List Tree) → length stack ≡ count
    → Meets (run_at places.Open count (between roots stack) at bytes) stop

-- the end tag of the innermost open element, from its name on
abbrev pub ReadsEndTag : List ℕ → ℕ → Tree → Result ℕ Stop → Type 0
ReadsEndTag bytes at top (Ok to) =
    (depth : ℕ) (roots : Forest) (stack : List Tree)
    → run_at places.Close (depth + 1) (between roots (stack ++ top ∷ [])) at bytes
    ≡ run_at (after_element depth) depth (ended roots stack top) to bytes
ReadsEndTag bytes at top (Err stop) =
    (depth : ℕ) (roots : Forest) (stack : List Tree)
    → Meets (run_at places.Close (depth + 1) (between roots (stack ++ top ∷ [])) at bytes) stop

-- before the root
abbrev pub beginning : Build
beginning = between none []

-- what stands before the root's name
abbrev pub ReadsProlog : List ℕ → ℕ → Result ℕ Stop → Type 0
ReadsProlog bytes at (Ok to) =
    run_at places.Prolog 0 beginning at bytes ≡ run_at places.Open 0 beginning to bytes
ReadsProlog bytes at (Err stop) = Meets (run_at places.Prolog 0 beginning at bytes) stop

abbrev pub ReadsBegin : List ℕ → Result ℕ Stop → Type 0
ReadsBegin bytes (Ok to) = outcome bytes ≡ run_at places.Open 0 beginning to bytes
ReadsBegin bytes (Err stop) = Meets (outcome bytes) stop

-- a declaration, where the bytes begin with `<?`
abbrev pub ReadsDeclaration : List ℕ → Result ℕ Stop → Type 0
ReadsDeclaration bytes (Ok to) = outcome bytes ≡ run_at places.Prolog 0 beginning to bytes
ReadsDeclaration bytes (Err stop) = Meets (outcome bytes) stop

-- the root from its name's first byte on
abbrev pub as_forest : Tree → Forest
as_forest tree = more tree.name tree.at tree.attributes tree.children none

abbrev pub ReadsRoot : List ℕ → ℕ → Result (Tree × ℕ) Stop → Type 0
ReadsRoot bytes at (Ok read) =
    run_at places.Open 0 beginning at bytes
    ≡ run_at places.End 0 (between (as_forest read.0) []) read.1 bytes
ReadsRoot bytes at (Err stop) = Meets (run_at places.Open 0 beginning at bytes) stop

-- the next tag inside the root: `old` are open before it, and the root and `stack` behind it, or
-- the root has ended
abbrev pub in_content : List Tree → ℕ → List ℕ → Outcome
in_content stack at bytes = run_at places.Content (length stack) (between none stack) at bytes

abbrev pub ReadsMarkup : List ℕ → ℕ → List Tree → Tree → List Tree → Result (Bool × ℕ) Stop
    → Type 0
ReadsMarkup bytes at old root stack (Ok (false, to)) =
    in_content old at bytes ≡ in_content (root ∷ stack) to bytes
ReadsMarkup bytes at old root stack (Ok (true, to)) =
    in_content old at bytes ≡ run_at places.End 0 (between (as_forest root) []) to bytes
ReadsMarkup bytes at old root stack (Err stop) = Meets (in_content old at bytes) stop

-- behind the `</` of an end tag
abbrev pub in_close : List Tree → ℕ → List ℕ → Outcome
in_close stack at bytes = run_at places.Close (length stack) (between none stack) at bytes

abbrev pub ReadsClose : List ℕ → ℕ → List Tree → Tree → List Tree → Result (Bool × ℕ) Stop → Type 0
ReadsClose bytes at old root stack (Ok (false, to)) =
    in_close old at bytes ≡ in_content (root ∷ stack) to bytes
ReadsClose bytes at old root stack (Ok (true, to)) =
    in_close old at bytes ≡ run_at places.End 0 (between (as_forest root) []) to bytes
ReadsClose bytes at old root stack (Err stop) = Meets (in_close old at bytes) stop

-- a child is added to the innermost element, or memory is wanting
abbrev pub AddsLast : List Tree → Tree → List Tree → Result (Unit {0}) Stop → Type 0
AddsLast old child new (Ok _) = new ≡ add_last old child
AddsLast old child new (Err stop) = stop ≡ stops.Memory

-- the whole document
abbrev pub ReadsDocument : List ℕ → Result Tree Stop → Type 0
ReadsDocument bytes (Ok tree) =
    outcome bytes ≡ record { stop = None; built = Ok (between (as_forest tree) []) }
ReadsDocument bytes (Err stop) = Meets (outcome bytes) stop

-- what the outcome tells the caller
abbrev pub ReadsOutcome : List ℕ → Result Tree ElementError → Type 0
ReadsOutcome bytes (Ok tree) =
    outcome bytes ≡ record { stop = None; built = Ok (between (as_forest tree) []) }
ReadsOutcome bytes (Err (errors.Refused at reason)) =
    ((stop_of places.Start 0 0 bytes ≡ Some at)
    × (reason ≡ shape_reason bytes at)) ⊎ ((stop_of places.Start 0 0 bytes ≡ None)
    × ((outcome bytes).built ≡ Err (at, reason)))
ReadsOutcome bytes (Err errors.Memory) = Unit {0}

-- ---- a character of several bytes

-- its last `left` bytes
abbrev pub tail_of : ℕ → ℕ → List ℕ
tail_of zero c = []
tail_of (suc zero) c = (128 + c % 64) ∷ []
tail_of (suc (suc left)) c = (128 + c / share (suc left) % 64) ∷ tail_of (suc left) c

-- the bytes begin every character of at least `floor` that has these bits in front
pub record IsPart (floor bits left : ℕ) (bytes : List ℕ) : Type 0 where
  pub whole : (c : ℕ) → floor ≤ c → c / share left ≡ bits → encode_utf8 c ≡ bytes ++ tail_of left c

-- the bytes are an allowed character
pub record IsOne (bytes : List ℕ) : Type 0 where
  pub char : ℕ
  pub allowed : is_allowed_char char ≡ true
  pub text : encode_utf8 char ≡ bytes

-- what the bytes of a character are when the machine stands at a place
abbrev pub AtPlace : Place → ℕ → List ℕ → Type 0
AtPlace (places.Value own) quote bytes = (own ≡ quote) × IsOne bytes
AtPlace (places.Wide own floor bits left) quote bytes =
    (own ≡ quote) × IsPart floor bits left bytes × (0 < left) × (left < 4)
AtPlace _ quote bytes = ⊥

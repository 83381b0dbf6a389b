-- WHAT THE CALLS DO to the machine of a handle.
use Rattle.std.specs.Prelude.{◌≡◌, ℕ, ℤ, pos, neg_ℤ, true, false, IfErr, IfOk, IfSome, is_some, ◌==◌, ◌&&◌, ◌++◌, Bool, Option, None, Some, Result, Ok, Err, List, drop, length, min, nat_le, option_and_then, option_map, slice_get, take, if◌then◌else◌}
use Rattle.std.specs.Borrow.{Bor}
use Rattle.line_base.specs.declared.states.Side.TheVariants.{Entry, Exit}
use Rattle.node_core.specs.May.{may_do}
use Rattle.machine_port.specs.Port.{PortState, made_after, may_take, sent, sent_refusal}
use Rattle.machine_port.specs.Supervisor.{sent_to_supervisor}
use Rattle.supervisory_core.specs.Orders.{answer_to}
use Rattle.machine_port.specs.Records.{field_text, record_at}
use Rattle.machine_log.specs.Texts.{log_text}
use Rattle.machine_text.specs.Lines.{DoesLine, asked_by}
use Rattle.machine_text.specs.Logs.{log_of}
use Rattle.node_panel.specs.Inputs.{input_of}
use Rattle.hermes_machine.specs.Meanings.{HasText, Happens, happening_of, is_moment, made_by, may_happen, told_of, wants_text}
use Rattle.hermes_machine.specs.Numbers.{number_of_no, number_of_unasked}
use Rattle.hermes_machine.specs.declared.input.HermesInput.{HermesInput}
use Rattle.hermes_machine.specs.declared.meaning.Meaning.{Meaning}

-- ONE STEP: an input was told, and what it means happened to the machine
pub record HasTold (i : HermesInput) (bytes : Bor (List ℕ)) (now : ℤ) (s t : PortState)
    : Type 0 where
  pub meaning : Meaning
  pub told : told_of i bytes.now now ≡ Some meaning
  pub text : HasText (wants_text meaning) bytes.now
  pub happens : Happens (happening_of meaning bytes) now s t

-- THE ANSWER TO A STEP, the first of these: a bad input; no text; the reason why the machine can't
-- take it now; done. Memory may be wanting in place of the last two. But where it is done or
-- memory is wanting, the machine is as it was; and where memory is wanting it is spent, or as it was.
-- The step in which it was spent has counted its id; and of a spent machine nothing is done any more
pub record AnswersStep (i : HermesInput) (bytes : Bor (List ℕ)) (now : ℤ) (s t : PortState)
    (answer : ℤ) : Type 0 where
  pub bad_input : is_some (told_of i bytes.now now) ≡ false → answer ≡ neg_ℤ (pos 3)
  pub bad_text : IfSome (told_of i bytes.now now)
      (λ meaning. ¬ (HasText (wants_text meaning) bytes.now) → answer ≡ neg_ℤ (pos 4))
  pub no : IfSome (told_of i bytes.now now)
      (λ meaning. s.spent ≡ false → HasText (wants_text meaning) bytes.now
      → IfErr (may_happen s (happening_of meaning bytes))
      (λ why. ¬ (answer ≡ neg_ℤ (pos 2)) → answer ≡ number_of_no why))
  pub memory : IfSome (told_of i bytes.now now)
      (λ meaning. HasText (wants_text meaning) bytes.now
      → may_happen s (happening_of meaning bytes) ≡ may_do → ¬ (answer ≡ pos 0)
      → answer ≡ neg_ℤ (pos 2))
  pub told : answer ≡ pos 0 → HasTold i bytes now s t
  pub stays : ¬ (answer ≡ pos 0) → ¬ (answer ≡ neg_ℤ (pos 2)) → t ≡ s
  pub lost : answer ≡ neg_ℤ (pos 2) → t.spent ≡ false → t ≡ s
  pub again : s.spent ≡ true → ¬ (answer ≡ pos 0)
  pub counted : IfSome (told_of i bytes.now now)
      (λ meaning. s.spent ≡ false → t.spent ≡ true
      → t.made ≡ made_by (happening_of meaning bytes) s.made)
  pub still : s.spent ≡ true → t ≡ s

-- THE ANSWER TO A LINE of a panel at a moment of the clock, the first of these: why it asks for no
-- step; the reason why the machine can't take it now; done. Memory may be wanting in place of each.
-- For the rest as at a step
pub record AnswersAsked (bytes : List ℕ) (now : ℤ) (s t : PortState) (answer : ℤ) : Type 0 where
  pub not_asked : IfErr (asked_by bytes)
      (λ why. ¬ (answer ≡ neg_ℤ (pos 2)) → answer ≡ number_of_unasked why)
  pub no : IfOk (asked_by bytes) (λ line. s.spent ≡ false → IfErr (may_take s (input_of line))
      (λ why. ¬ (answer ≡ neg_ℤ (pos 2)) → answer ≡ number_of_no why))
  pub memory : IfOk (asked_by bytes) (λ line. may_take s (input_of line) ≡ may_do
      → ¬ (answer ≡ pos 0) → answer ≡ neg_ℤ (pos 2))
  pub does : answer ≡ pos 0 → DoesLine bytes now s t
  pub stays : ¬ (answer ≡ pos 0) → ¬ (answer ≡ neg_ℤ (pos 2)) → t ≡ s
  pub lost : answer ≡ neg_ℤ (pos 2) → t.spent ≡ false → t ≡ s
  pub again : s.spent ≡ true → ¬ (answer ≡ pos 0)
  pub counted : IfOk (asked_by bytes) (λ line. s.spent ≡ false → t.spent ≡ true
      → t.made ≡ made_after (input_of line) s.made)
  pub still : s.spent ≡ true → t ≡ s

-- and where the moment is none
pub record IsNoMoment (s t : PortState) (answer : ℤ) : Type 0 where
  pub bad_input : answer ≡ neg_ℤ (pos 3)
  pub stays : t ≡ s

abbrev pub AnswersAt : Bool → List ℕ → ℤ → PortState → PortState → ℤ → Type 0
AnswersAt false bytes now s t answer = IsNoMoment s t answer
AnswersAt true bytes now s t answer = AnswersAsked bytes now s t answer

abbrev pub AnswersLine : List ℕ → ℤ → PortState → PortState → ℤ → Type 0
AnswersLine bytes now s t answer = AnswersAt (is_moment now) bytes now s t answer

-- the text that waits on a way, by its number
abbrev pub unsent_on : ℕ → PortState → Option (List ℕ)
unsent_on way s =
    if way == 0 then Some s.entry.text else
    (if way == 1 then Some s.exit.text else
    (if way == 2 then Some s.supervisor.text else
    (if way == 3 then Some s.refusal else None)))

-- and the machine when so many bytes of it were sent
abbrev pub sent_on : ℕ → ℕ → PortState → PortState
sent_on way count s =
    if way == 0 then sent Entry count s else
    (if way == 1 then sent Exit count s else
    (if way == 2 then sent_to_supervisor count s else
    (if way == 3 then sent_refusal count s else s)))

-- the front of a text was copied over a place, as far as either goes, and this is how much
pub record IsCopied (text before after : List ℕ) (count : ℤ) : Type 0 where
  pub many : count ≡ pos (min (length text) (length before))
  pub bytes : after
      ≡ take (min (length text) (length before)) text
      ++ drop (min (length text) (length before)) before

-- ---- what is read of a machine

-- the answer where a struct is to be filled in: the struct's numbers are none; there is nothing to
-- be read; done
abbrev pub read_answer : Bool → Bool → ℤ
read_answer false there = neg_ℤ (pos 3)
read_answer true false = neg_ℤ (pos 6)
read_answer true true = pos 0

abbrev pub act_answer : ℕ → ℕ → Option PortState → ℤ
act_answer size index None = neg_ℤ (pos 1)
act_answer size index (Some s) = read_answer (size == 56) (is_some (slice_get s.last index))

abbrev pub board_answer : ℕ → ℕ → ℕ → Option PortState → ℤ
board_answer size place index None = neg_ℤ (pos 1)
board_answer size place index (Some s) =
    read_answer (size == 80 && nat_le place 2) (is_some (record_at place index s.node))

-- a text that is wanted, or the answer in its place
abbrev pub text_or_none : Option (List ℕ) → Result (List ℕ) ℤ
text_or_none None = Err (neg_ℤ (pos 6))
text_or_none (Some text) = Ok text

-- that of an act, from a byte on
abbrev pub text_of_act : ℕ → ℕ → Option PortState → Result (List ℕ) ℤ
text_of_act index from None = Err (neg_ℤ (pos 1))
text_of_act index from (Some s) =
    text_or_none (option_map (λ act. drop from (log_text s.number act)) (slice_get s.last index))

-- that of the lines of the last step, from a byte on
abbrev pub text_of_log : ℕ → Option PortState → Result (List ℕ) ℤ
text_of_log from None = Err (neg_ℤ (pos 1))
text_of_log from (Some s) = Ok (drop from (log_of s))

-- that of a record's field
abbrev pub field_in : ℕ → ℕ → ℕ → PortState → Result (List ℕ) ℤ
field_in place index field s =
    text_or_none (option_and_then (field_text field) (record_at place index s.node))

abbrev pub text_of_field : ℕ → ℕ → ℕ → Option PortState → Result (List ℕ) ℤ
text_of_field place index field None = Err (neg_ℤ (pos 1))
text_of_field place index field (Some s) =
    if nat_le place 2 && nat_le field 12 then field_in place index field s else
    Err (neg_ℤ (pos 3))

-- that of a work order
abbrev pub text_of_order : ℕ → Option PortState → Result (List ℕ) ℤ
text_of_order query None = Err (neg_ℤ (pos 1))
text_of_order query (Some s) = text_or_none (answer_to s.node.orders query)

-- nothing was copied, and this is why
pub record IsRefused (why : ℤ) (before after : List ℕ) (answer : ℤ) : Type 0 where
  pub why_is : answer ≡ why
  pub uncopied : after ≡ before

-- A TEXT WAS READ: its front was copied
abbrev pub IsRead : Result (List ℕ) ℤ → List ℕ → List ℕ → ℤ → Type 0
IsRead (Err why) before after answer = IsRefused why before after answer
IsRead (Ok text) before after answer = IsCopied text before after answer

-- or memory was wanting, and nothing was copied
pub record IsCopiedOrWanting (text before after : List ℕ) (answer : ℤ) : Type 0 where
  pub copied : ¬ (answer ≡ neg_ℤ (pos 2)) → IsCopied text before after answer
  pub wanting : answer ≡ neg_ℤ (pos 2) → after ≡ before

abbrev pub IsReadOrWanting : Result (List ℕ) ℤ → List ℕ → List ℕ → ℤ → Type 0
IsReadOrWanting (Err why) before after answer = IsRefused why before after answer
IsReadOrWanting (Ok text) before after answer = IsCopiedOrWanting text before after answer

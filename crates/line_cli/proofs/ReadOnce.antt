-- A stream has one read text, since bytes spell one message at most, are refused once at most, and never both.
use Rattle.std.proofs.Common.{◌≡◌, ◌+◌, inl, inr, ℕ, List, [], ◌∷◌, ◌++◌, codes, length, nat_lt, take, sym, ap, ◌∙◌}
use Rattle.hermes_stream.specs.Frames.{frames_of}
use Rattle.hermes_horizontal.specs.Spelling.{Spells, IsRefused}
use Rattle.hermes_horizontal.specs.Texts.{message_refusal_text}
use Rattle.hermes_horizontal.specs.declared.fault.Fault.{Fault}
use Rattle.hermes_horizontal.specs.declared.message.Message.{Message}
use Rattle.stream_text.specs.ReadText.{entry, message_text, IsMessageLine, IsRefusalLine, IsFrameLine, AreFrameLines, IsReadText, most_read, read_ending}

-- the laws of the messages
pub record FramesAreTold : Type 0 where
  pub spelled : (bytes : List ℕ) (a b : Message) → Spells bytes a → Spells bytes b → a ≡ b
  pub refused : (bytes : List ℕ) (at place : ℕ) (why reason : Fault) → IsRefused bytes at why → IsRefused bytes place reason → (at ≡ place) × (why ≡ reason)
  pub apart : (bytes : List ℕ) (at : ℕ) (why : Fault) (message : Message) → IsRefused bytes at why → Spells bytes message → ⊥

pub message-once : FramesAreTold → (number : ℕ) (frame a b : List ℕ) → IsMessageLine number frame a → IsMessageLine number frame b → a ≡ b
message-once laws number frame a b one other =
    one.written ∙ ap (λ message. entry number (message_text message)) (laws.spelled frame one.message other.message one.spelled other.spelled) ∙ sym other.written

pub refusal-once : FramesAreTold → (number : ℕ) (frame a b : List ℕ) → IsRefusalLine number frame a → IsRefusalLine number frame b → a ≡ b
refusal-once laws number frame a b one other =
    let same = laws.refused frame one.at other.at one.why other.why one.refused other.refused in
    one.written
    ∙ ap (λ at. entry number (codes "refused: " ++ message_refusal_text one.why at)) same.0
    ∙ ap (λ why. entry number (codes "refused: " ++ message_refusal_text why other.at)) same.1
    ∙ sym other.written

pub line-once : FramesAreTold → (number : ℕ) (frame a b : List ℕ) → IsFrameLine number frame a → IsFrameLine number frame b → a ≡ b
line-once laws number frame a b (inl one) (inl other) = message-once laws number frame a b one other
line-once laws number frame a b (inl one) (inr other) = absurd (laws.apart frame other.at other.why one.message other.refused one.spelled)
line-once laws number frame a b (inr one) (inl other) = absurd (laws.apart frame one.at one.why other.message one.refused other.spelled)
line-once laws number frame a b (inr one) (inr other) = refusal-once laws number frame a b one other

pub lines-once : FramesAreTold → (number : ℕ) (frames : List (List ℕ)) (a b : List ℕ) → AreFrameLines number frames a → AreFrameLines number frames b → a ≡ b
lines-once laws number [] a b one other = one ∙ sym other
lines-once laws number (frame ∷ frames) a b one other =
    one.4
    ∙ ap (λ line. line ++ one.1) (line-once laws number frame one.0 other.0 one.2 other.2)
    ∙ ap (λ lines. other.0 ++ lines) (lines-once laws (number + 1) frames one.1 other.1 one.3 other.3)
    ∙ sym other.4

pub read-once : FramesAreTold → (bytes a b : List ℕ) → IsReadText bytes a → IsReadText bytes b → a ≡ b
read-once laws bytes a b one other =
    one.whole
    ∙ ap (λ lines. lines ++ read_ending (length (frames_of (take most_read bytes)).messages) (frames_of (take most_read bytes)).rest (nat_lt most_read (length bytes))) (lines-once laws 1 (frames_of (take most_read bytes)).messages one.lines other.lines one.told other.told)
    ∙ sym other.whole

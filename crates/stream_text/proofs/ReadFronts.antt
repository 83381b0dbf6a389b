-- The lines of the first frames of a stream are a front of its read text, since each other frame has a line; and a stream has
-- a read text.
use Rattle.std.proofs.Common.{◌≡◌, ◌∙◌, ◌+◌, ◌++◌, inl, inr, ℕ, List, [], ◌∷◌, append-nil, append_assoc, ap, arith, length, nat_lt, refl, subst, sym, take}
use Rattle.std.specs.Prelude.{codes}
use Rattle.hermes_horizontal.specs.Texts.{message_refusal_text}
use Rattle.hermes_stream.specs.Frames.{frames_of}
use Rattle.law_one_report.specs.Frames.{IsSpelledOrRefused, refused, spelled}
use Rattle.law_one_report.proofs.Frames.{each_frame}
use Rattle.stream_text.specs.ReadText.{AreFrameLines, BeginsReadText, EachStreamHasOneReadText, IsFrameLine, IsReadText, message_text, most_read, read_ending, entry}

-- ---- each frame has a line

frame_line : (number : ℕ) (frame : List ℕ) → IsSpelledOrRefused frame → (line : List ℕ) × IsFrameLine number frame line
frame_line number frame (spelled message spells) = (entry number (message_text message), inl (record { message = message; spelled = spells; written = refl }))
frame_line number frame (refused at why fails) =
    (entry number (codes "refused: " ++ message_refusal_text why at), inr (record { at = at; why = why; refused = fails; written = refl }))

frame_lines : (number : ℕ) (frames : List (List ℕ)) → (lines : List ℕ) × AreFrameLines number frames lines
frame_lines number [] = ([], refl)
frame_lines number (frame ∷ frames) =
    let line = frame_line number frame (each_frame frame) in
    let others = frame_lines (number + 1) frames in
    (line.0 ++ others.0, (line.0, others.0, line.1, others.1, refl))

-- ---- the lines of frames, one behind another

pub lines-join : (number : ℕ) (front back : List (List ℕ)) (lines more : List ℕ) → AreFrameLines number front lines → AreFrameLines (number + length front) back more → AreFrameLines number (front ++ back) (lines ++ more)
lines-join number [] back lines more told next =
    let here : number + 0 ≡ number = omega arith in
    let P : List ℕ → Type 0 = λ t. AreFrameLines number back t in
    subst P (ap (λ t. t ++ more) (sym told)) (rw here at next)
lines-join number (f ∷ fs) back lines more told next =
    let here : number + length (f ∷ fs) ≡ number + 1 + length fs = omega arith in
    (told.0, told.1 ++ more, told.2, lines-join (number + 1) fs back told.1 more told.3 (rw here at next), ap (λ t. t ++ more) told.4 ∙ append_assoc told.0 told.1 more)

-- ---- fronts

-- the lines of the first frames alone
pub record AreFirstLines (bytes lines : List ℕ) : Type 0 where
  pub frames : List (List ℕ)
  pub others : List (List ℕ)
  pub all : (frames_of (take most_read bytes)).messages ≡ frames ++ others
  pub told : AreFrameLines 1 frames lines

-- what stands behind the lines of the frames
abbrev last_of : List ℕ → List ℕ
last_of bytes = read_ending (length (frames_of (take most_read bytes)).messages) (frames_of (take most_read bytes)).rest (nat_lt most_read (length bytes))

pub first_lines_begin : (bytes lines : List ℕ) → AreFirstLines bytes lines → BeginsReadText bytes lines
first_lines_begin bytes lines first =
    let others = frame_lines (1 + length first.frames) first.others in
    let P : List (List ℕ) → Type 0 = λ frames. AreFrameLines 1 frames (lines ++ others.0) in
    record {
      rest = others.0 ++ last_of bytes;
      whole = record {
        lines = lines ++ others.0;
        told = subst P (sym first.all) (lines-join 1 first.frames first.others lines others.0 first.told others.1);
        whole = sym (append_assoc lines others.0 (last_of bytes));
      };
    }

-- a front of what begins the read text does so, too
pub part_begins : (bytes front back whole : List ℕ) → front ++ back ≡ whole → BeginsReadText bytes whole → BeginsReadText bytes front
part_begins bytes front back whole is begins =
    let P : List ℕ → Type 0 = λ text. IsReadText bytes text in
    record {
      rest = back ++ begins.rest;
      whole = subst P (ap (λ t. t ++ begins.rest) (sym is) ∙ append_assoc front back begins.rest) begins.whole;
    }

pub whole_begins : (bytes text : List ℕ) → IsReadText bytes text → BeginsReadText bytes text
whole_begins bytes text is =
    let P : List ℕ → Type 0 = λ t. IsReadText bytes t in
    record { rest = []; whole = subst P (sym (append-nil text)) is }

-- ---- the read text that a stream has

some_read_text : (bytes : List ℕ) → (text : List ℕ) × IsReadText bytes text
some_read_text bytes =
    let lines = frame_lines 1 (frames_of (take most_read bytes)).messages in
    (lines.0 ++ last_of bytes, record { lines = lines.0; told = lines.1; whole = refl })

pub has_one_read_text : ((bytes one other : List ℕ) → IsReadText bytes one → IsReadText bytes other → one ≡ other) → EachStreamHasOneReadText
has_one_read_text once bytes =
    let some = some_read_text bytes in
    record { text = some.0; is = some.1; only = λ other is. once bytes other some.0 is some.1 }

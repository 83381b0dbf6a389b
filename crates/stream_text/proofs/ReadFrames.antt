-- Frames taken off a stream, and their lines.
use Rattle.std.proofs.Common.{◌≡◌, ◌+◌, ◌-◌, ◌++◌, ℕ, List, [], ◌∷◌, length, take, drop, refl, sym, ap, subst, ◌∙◌, append_assoc, append-nil, arith, length-append}
use Rattle.std.proofs.Math.Seq.{take-add}
use Rattle.std.proofs.lemmas.List.{take_rest}
use Rattle.hermes_stream.specs.Frames.{frames_of, left_of, behind}
use Rattle.hermes_stream.specs.Cutter.{GivesFrame, WantsMore}
use Rattle.stream_text.specs.ReadText.{IsFrameLine, AreFrameLines}
use Rattle.stream_text.specs.StreamReader.{WritesLine, TakesFrames, IsRest, IsTooLong}

-- one line more
pub lines-push : (number : ℕ) (frames : List (List ℕ)) (lines frame line : List ℕ) → AreFrameLines number frames lines → IsFrameLine (number + length frames) frame line → AreFrameLines number (frames ++ frame ∷ []) (lines ++ line)
lines-push number [] lines frame line told one =
    let here : number + 0 ≡ number = omega arith in
    (line, [], rw here at one, refl, ap (λ t. t ++ line) told ∙ sym (append-nil line))
lines-push number (f ∷ fs) lines frame line told one =
    let here : number + length (f ∷ fs) ≡ number + 1 + length fs = omega arith in
    (told.0, told.1 ++ line, told.2, lines-push (number + 1) fs told.1 frame line told.3 (rw here at one), ap (λ t. t ++ line) told.4 ∙ append_assoc told.0 told.1 line)

pub takes-start : (waiting before : List ℕ) (done : ℕ) → TakesFrames waiting waiting [] done done before before
takes-start waiting before done = record { frames = []; lines = []; cut = λ later. refl; counted = omega arith; told = refl; written = sym (append-nil before) }

-- bytes are fed
pub takes-fed : (old waiting fed new front : List ℕ) (done count : ℕ) (before now : List ℕ) → TakesFrames old waiting front done count before now → new ≡ waiting ++ fed → TakesFrames old new (front ++ fed) done count before now
takes-fed old waiting fed new front done count before now takes is = record {
  frames = takes.frames;
  lines = takes.lines;
  cut = λ later. ap (λ t. frames_of (old ++ t)) (append_assoc front fed later) ∙ takes.cut (fed ++ later) ∙ ap (λ t. behind takes.frames (frames_of t)) (sym (append_assoc waiting fed later) ∙ ap (λ t. t ++ later) (sym is));
  counted = takes.counted;
  told = takes.told;
  written = takes.written;
}

-- a frame is taken off, and its line written
pub takes-frame : (old waiting message bytes : List ℕ) (done count : ℕ) (before between now : List ℕ) → TakesFrames old waiting bytes done count before between → GivesFrame waiting message → WritesLine (count + 1) message between now → TakesFrames old (left_of waiting) bytes done (count + 1) before now
takes-frame old waiting message bytes done count before between now takes gives writes =
    let here : count + 1 ≡ done + 1 + length takes.frames = omega (arith, takes.counted) in
    record {
      frames = takes.frames ++ message ∷ [];
      lines = takes.lines ++ writes.line;
      cut = λ later. takes.cut later ∙ ap (behind takes.frames) (gives.frames later) ∙ ap (λ (m : List (List ℕ)). record { messages = m; rest = (frames_of (left_of waiting ++ later)).rest }) (sym (append_assoc takes.frames (message ∷ []) (frames_of (left_of waiting ++ later)).messages));
      counted = omega (arith, takes.counted, length-append takes.frames (message ∷ []));
      told = lines-push (done + 1) takes.frames takes.lines message writes.line takes.told (rw here at writes.told);
      written = writes.written ∙ ap (λ t. t ++ writes.line) takes.written ∙ append_assoc before takes.lines writes.line;
    }

-- no frame stands in what waits
pub takes-more : (old waiting bytes : List ℕ) (done count : ℕ) (before now : List ℕ) → TakesFrames old waiting bytes done count before now → WantsMore waiting → TakesFrames old (left_of waiting) bytes done count before now
takes-more old waiting bytes done count before now takes wants = record {
  frames = takes.frames;
  lines = takes.lines;
  cut = λ later. takes.cut later ∙ ap (behind takes.frames) (wants.frames later);
  counted = takes.counted;
  told = takes.told;
  written = takes.written;
}

pub rest-left : (waiting : List ℕ) → WantsMore waiting → IsRest (left_of waiting)
rest-left waiting wants =
    let whole : frames_of waiting ≡ frames_of (left_of waiting) = ap frames_of (sym (append-nil waiting)) ∙ wants.frames [] ∙ ap frames_of (append-nil (left_of waiting)) in
    sym whole ∙ wants.rest

-- too many bytes wait: what follows doesn't count
pub takes-too_long : (old waiting front back : List ℕ) (done count : ℕ) (before now : List ℕ) → TakesFrames old waiting front done count before now → IsTooLong waiting → TakesFrames old waiting (front ++ back) done count before now
takes-too_long old waiting front back done count before now takes long = record {
  frames = takes.frames;
  lines = takes.lines;
  cut = λ later. ap (λ t. frames_of (old ++ t)) (append_assoc front back later) ∙ takes.cut (back ++ later) ∙ ap (behind takes.frames) (long (back ++ later) ∙ sym (long later));
  counted = takes.counted;
  told = takes.told;
  written = takes.written;
}

-- the bytes of a piece that there was room for are fed
pub takes-fed_at : (old waiting new piece : List ℕ) (at n done count : ℕ) (before now : List ℕ) → TakesFrames old waiting (take at piece) done count before now → new ≡ waiting ++ take n (take (length piece - at) (drop at piece)) → TakesFrames old new (take (at + n) piece) done count before now
takes-fed_at old waiting new piece at n done count before now takes is = subst (λ front. TakesFrames old new front done count before now) (sym (take-add at n piece)) (takes-fed old waiting (take n (drop at piece)) new (take at piece) done count before now takes (is ∙ ap (λ p. waiting ++ take n p) (take_rest piece at)))

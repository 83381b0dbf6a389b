-- How a reading goes on, and how it ends.
use Rattle.std.proofs.Common.{◌≡◌, ◌≤◌, ◌<◌, ◌+◌, ◌-◌, ℕ, Bool, true, false, List, [], ◌++◌, length, take, drop, nat_lt, Option, None, Some, option_map, refl, sym, ap, subst, ◌∙◌, append_assoc, append-nil, arith, length-append}
use Rattle.std.proofs.lemmas.Bool.Decides.{nat_tests}
use Rattle.std.proofs.Math.Seq.{take-append-add}
use Rattle.std.proofs.lemmas.List.{take_all, take-append-drop, length-take-le, length-drop}
use Rattle.line_outside.specs.Sink.{GrowsInPart, PushesAll}
use Rattle.line_outside.specs.declared.pushing.Pushed.{Pushed}
use Rattle.line_outside.specs.declared.pushing.Pushed.TheVariants as pushes
use Rattle.line_outside.proofs.Growing.{grows_none, grows_more, rose_after}
use Rattle.hermes_stream.specs.Frames.{Frames, frames_of, behind}
use Rattle.hermes_stream.specs.Frames as parts
use Rattle.stream_text.specs.ReadText.{AreFrameLines, IsReadText, most_read, ending_text, read_ending}
use Rattle.stream_text.specs.StreamReader.{TakesSome, IsOver, IsRest}
use Rattle.line_status.specs.Status.{HasCauses}
use Rattle.line_status.specs.Pieces.{HasPushed}
use Rattle.stream_text.specs.Stream.{WritesFront, ReadsStream, Reads, IsReading, ReadsOn, EndsRead}
use Rattle.stream_text.specs.declared.stream_reader.Progress.{Progress}
use Rattle.line_status.specs.declared.status.Status.{Status}
use Rattle.line_status.specs.declared.status.Status.TheVariants as statuses
use Rattle.stream_text.proofs.ReadFronts.{AreFirstLines, first_lines_begin, lines-join, part_begins, whole_begins}

-- at first nothing was pushed and nothing waits
pub reads-first : (left old : Option (List ℕ)) (far : Progress) → far.taken ≡ 0 → far.done ≡ 0 → ReadsOn left left old old [] far []
reads-first None old far taken done = tt
reads-first (Some stream) old far taken done = record { before = []; parts = refl; counted = sym taken; shown = []; grows = grows_none old; frames = []; done = done; cut = λ later. refl; told = refl }

behind-join : (front back : List (List ℕ)) (rest : Frames) → behind front (behind back rest) ≡ behind (front ++ back) rest
behind-join front back rest = ap (λ (m : List (List ℕ)). record { messages = m; rest = rest.rest }) (sym (append_assoc front back rest.messages))

is-reading-on : (stream rest rest' : List ℕ) (old now : Option (List ℕ)) (waiting waiting' : List ℕ) (far far' : Progress) (piece text text' : List ℕ) → IsReading stream rest old now waiting far text → rest ≡ piece ++ rest' → TakesSome waiting waiting' piece far far' text text' → IsReading stream rest' old now waiting' far' text'
is-reading-on stream rest rest' old now waiting waiting' far far' piece text text' reading same takes =
    let some = takes.frames in
    let number : far.done + 1 ≡ 1 + length reading.frames = omega (arith, reading.done) in
    record {
      before = reading.before ++ piece;
      parts = append_assoc reading.before piece rest' ∙ ap (λ r. reading.before ++ r) (sym same) ∙ reading.parts;
      counted = omega (arith, length-append reading.before piece, reading.counted, takes.taken);
      shown = reading.shown;
      grows = reading.grows;
      frames = reading.frames ++ some.frames;
      done = omega (arith, some.counted, reading.done, length-append reading.frames some.frames);
      cut = λ later. ap frames_of (append_assoc reading.before piece later) ∙ reading.cut (piece ++ later) ∙ ap (behind reading.frames) (some.cut later) ∙ behind-join reading.frames some.frames (frames_of (waiting' ++ later));
      told =
          let P : List ℕ → Type 0 = λ t. AreFrameLines 1 (reading.frames ++ some.frames) t in
          subst P (append_assoc reading.shown text some.lines ∙ ap (λ t. reading.shown ++ t) (sym some.written)) (lines-join 1 reading.frames some.frames (reading.shown ++ text) some.lines reading.told (rw number at some.told));
    }

-- a piece is taken
pub reads-piece : (first left left' old now : Option (List ℕ)) (waiting waiting' : List ℕ) (far far' : Progress) (piece text text' : List ℕ) → ReadsOn first left old now waiting far text → left ≡ option_map (λ rest. piece ++ rest) left' → TakesSome waiting waiting' piece far far' text text' → ReadsOn first left' old now waiting' far' text'
reads-piece None left left' old now waiting waiting' far far' piece text text' on gives takes = tt
reads-piece (Some stream) None left' old now waiting waiting' far far' piece text text' on gives takes = absurd on
reads-piece (Some stream) (Some rest) None old now waiting waiting' far far' piece text text' on gives takes = cc
reads-piece (Some stream) (Some rest) (Some rest') old now waiting waiting' far far' piece text text' on gives takes =
    let same : rest ≡ piece ++ rest' = cc in
    is-reading-on stream rest rest' old now waiting waiting' far far' piece text text' on same takes

-- some of what waits is pushed
pub reads-pushed : (first left old now now' : Option (List ℕ)) (waiting : List ℕ) (far : Progress) (text text' : List ℕ) → ReadsOn first left old now waiting far text → HasPushed now now' text text' → ReadsOn first left old now' waiting far text'
reads-pushed None left old now now' waiting far text text' on pushed = tt
reads-pushed (Some stream) None old now now' waiting far text text' on pushed = absurd on
reads-pushed (Some stream) (Some rest) old now now' waiting far text text' on pushed = record {
  before = on.before;
  parts = on.parts;
  counted = on.counted;
  shown = on.shown ++ pushed.pushed;
  grows = grows_more old now now' on.shown pushed.pushed on.grows pushed.grows;
  frames = on.frames;
  done = on.done;
  cut = on.cut;
  told =
      let P : List ℕ → Type 0 = λ t. AreFrameLines 1 on.frames t in
      subst P (sym (append_assoc on.shown pushed.pushed text' ∙ ap (λ t. on.shown ++ t) pushed.parts)) on.told;
}

-- THE READING ENDS INSIDE ITS STREAM

first-lines : (stream rest : List ℕ) (old now : Option (List ℕ)) (waiting : List ℕ) (far : Progress) (text : List ℕ) → (reading : IsReading stream rest old now waiting far text) → far.taken ≤ most_read → AreFirstLines stream (reading.shown ++ text)
first-lines stream rest old now waiting far text reading most =
    let more = most_read - length reading.before in
    let whole : length reading.before + more ≡ most_read = omega (arith, reading.counted, most) in
    let cut : take most_read stream ≡ reading.before ++ take more rest = ap (take most_read) (sym reading.parts) ∙ ap (λ n. take n (reading.before ++ rest)) (sym whole) ∙ take-append-add reading.before rest more in
    record {
      frames = reading.frames;
      others = (frames_of (waiting ++ take more rest)).messages;
      all = ap (λ b. (frames_of b).messages) cut ∙ ap (λ f. f.messages) (reading.cut (take more rest));
      told = reading.told;
    }

behind-front : (shown front back text : List ℕ) → front ++ back ≡ text → (shown ++ front) ++ back ≡ shown ++ text
behind-front shown front back text is = append_assoc shown front back ∙ ap (λ t. shown ++ t) is

front-written : (stream rest : List ℕ) (old now now' : Option (List ℕ)) (waiting : List ℕ) (far : Progress) (text : List ℕ) → IsReading stream rest old now waiting far text → far.taken ≤ most_read → GrowsInPart now now' text → WritesFront stream old now'
front-written stream rest old now now' waiting far text reading most part = record {
  text = reading.shown ++ part.front;
  begins = part_begins stream (reading.shown ++ part.front) part.back (reading.shown ++ text) (behind-front reading.shown part.front part.back text part.parts)
      (first_lines_begin stream (reading.shown ++ text) (first-lines stream rest old now waiting far text reading most));
  grows = grows_more old now now' reading.shown part.front reading.grows part.grows;
}

part-none : (now : Option (List ℕ)) (text : List ℕ) → GrowsInPart now now text
part-none now text = record { front = []; back = text; parts = refl; grows = grows_none now }

pub reads-write_fault : (first left left' old now now' : Option (List ℕ)) (waiting : List ℕ) (far : Progress) (text : List ℕ) → ReadsOn first left old now waiting far text → far.taken ≤ most_read → GrowsInPart now now' text → Reads first left' old now' statuses.WriteFault
reads-write_fault None left left' old now now' waiting far text on most part = tt
reads-write_fault (Some stream) None left' old now now' waiting far text on most part = absurd on
reads-write_fault (Some stream) (Some rest) left' old now now' waiting far text on most part = front-written stream rest old now now' waiting far text on most part

pub reads-memory : (first left left' old now : Option (List ℕ)) (waiting : List ℕ) (far : Progress) (text : List ℕ) → ReadsOn first left old now waiting far text → far.taken ≤ most_read → Reads first left' old now statuses.Memory
reads-memory None left left' old now waiting far text on most = tt
reads-memory (Some stream) None left' old now waiting far text on most = absurd on
reads-memory (Some stream) (Some rest) left' old now waiting far text on most = front-written stream rest old now now waiting far text on most (part-none now text)

pub reads-none : (first old : Option (List ℕ)) → Reads first first old old statuses.Memory
reads-none None old = tt
reads-none (Some stream) old =
    let far : Progress = record { taken = 0; done = 0; too_long = false } in
    reads-memory (Some stream) (Some stream) (Some stream) old old [] far [] (reads-first (Some stream) old far refl refl) (omega arith)

pub reads-read_fault : (pushed : Pushed) (first left left' old now now' : Option (List ℕ)) (before after : ℕ) (waiting : List ℕ) (far : Progress) (text : List ℕ) → ReadsOn first left old now waiting far text → far.taken ≤ most_read → PushesAll now now' before after text pushed → Reads first left' old now' statuses.ReadFault
reads-read_fault pushed None left left' old now now' before after waiting far text on most pushes = tt
reads-read_fault pushed (Some stream) None left' old now now' before after waiting far text on most pushes = absurd on
reads-read_fault pushes.Whole (Some stream) (Some rest) left' old now now' before after waiting far text on most pushed = front-written stream rest old now now' waiting far text on most (record { front = text; back = []; parts = append-nil text; grows = pushed.1 })
reads-read_fault pushes.Failed (Some stream) (Some rest) left' old now now' before after waiting far text on most pushed = front-written stream rest old now now' waiting far text on most pushed.2

-- THE READING ENDS BEHIND ITS STREAM, OR AT THE MOST BYTES

is-read-as : (stream text lines : List ℕ) (frames : List (List ℕ)) (rest : Option (List ℕ)) (large : Bool) → frames_of (take most_read stream) ≡ record { messages = frames; rest = rest } → large ≡ nat_lt most_read (length stream) → AreFrameLines 1 frames lines → text ≡ lines ++ read_ending (length frames) rest large → IsReadText stream text
is-read-as stream text lines frames rest large cut is_large told is = record {
  lines = lines;
  told = let P : Frames → Type 0 = λ f. AreFrameLines 1 f.messages lines in subst P (sym cut) told;
  whole = is ∙ ap (λ f. lines ++ read_ending (length f.messages) f.rest large) (sym cut) ∙ ap (λ l. lines ++ read_ending (length (frames_of (take most_read stream)).messages) (frames_of (take most_read stream)).rest l) is_large;
}

long-same : (count waits other : ℕ) (large : Bool) → ending_text count true waits large ≡ ending_text count true other large
long-same count waits other true = refl
long-same count waits other false = refl

is-read : (too_long : Bool) (stream rest : List ℕ) (old now : Option (List ℕ)) (waiting : List ℕ) (far : Progress) (text : List ℕ) (large : Bool) → (reading : IsReading stream rest old now waiting far text) → IsOver too_long waiting → reading.before ≡ take most_read stream → large ≡ nat_lt most_read (length stream) → IsReadText stream (reading.shown ++ (text ++ ending_text far.done too_long (length waiting) large))
is-read true stream rest old now waiting far text large reading over whole is_large =
    let cut : frames_of (take most_read stream) ≡ record { messages = reading.frames; rest = None } = ap frames_of (sym whole ∙ sym (append-nil reading.before)) ∙ reading.cut [] ∙ ap (behind reading.frames) (over []) ∙ ap (λ (m : List (List ℕ)). record { messages = m; rest = None }) (append-nil reading.frames) in
    is-read-as stream (reading.shown ++ (text ++ ending_text far.done true (length waiting) large)) (reading.shown ++ text) reading.frames None large cut is_large reading.told (sym (append_assoc reading.shown text (ending_text far.done true (length waiting) large)) ∙ ap (λ t. (reading.shown ++ text) ++ t) (long-same far.done (length waiting) 0 large ∙ ap (λ n. ending_text n true 0 large) reading.done))
is-read false stream rest old now waiting far text large reading over whole is_large =
    let cut : frames_of (take most_read stream) ≡ record { messages = reading.frames; rest = Some waiting } = ap frames_of (sym whole ∙ sym (append-nil reading.before)) ∙ reading.cut [] ∙ ap (λ w. behind reading.frames (frames_of w)) (append-nil waiting) ∙ ap (behind reading.frames) over ∙ ap (λ (m : List (List ℕ)). record { messages = m; rest = Some waiting }) (append-nil reading.frames) in
    is-read-as stream (reading.shown ++ (text ++ ending_text far.done false (length waiting) large)) (reading.shown ++ text) reading.frames (Some waiting) large cut is_large reading.told (sym (append_assoc reading.shown text (ending_text far.done false (length waiting) large)) ∙ ap (λ t. (reading.shown ++ text) ++ t) (ap (λ n. ending_text n false (length waiting) large) reading.done))

not-large : (n : ℕ) (large : Bool) → large ≡ nat_lt most_read n → large ≡ false → n ≤ most_read
not-large n large is small = grind (arith, nat_tests)

is-large : (n : ℕ) (large : Bool) → large ≡ nat_lt most_read n → large ≡ true → most_read < n
is-large n large is above = grind (arith, nat_tests)

ended-read : (stream rest : List ℕ) (left old now now' : Option (List ℕ)) (waiting : List ℕ) (far : Progress) (text : List ℕ) (large : Bool) (before after : ℕ) (status : Status) → (reading : IsReading stream rest old now waiting far text) → IsOver far.too_long waiting → reading.before ≡ take most_read stream → large ≡ nat_lt most_read (length stream) → (large ≡ false → left ≡ Some []) → far.taken ≤ most_read → EndsRead far (length waiting) large now now' before after text status → ReadsStream stream left old now' status
ended-read stream rest left old now now' waiting far text large before after statuses.Done reading over whole is_large over_left most ends =
    (not-large (length stream) large is_large ends.0, record { text = reading.shown ++ (text ++ ending_text far.done far.too_long (length waiting) large); is = is-read far.too_long stream rest old now waiting far text large reading over whole is_large; grows = grows_more old now now' reading.shown (text ++ ending_text far.done far.too_long (length waiting) large) reading.grows ends.2 }, over_left ends.0)
ended-read stream rest left old now now' waiting far text large before after statuses.Usage reading over whole is_large over_left most ends = absurd ends
ended-read stream rest left old now now' waiting far text large before after (statuses.Refuted refuted because) reading over whole is_large over_left most ends = absurd ends
ended-read stream rest left old now now' waiting far text large before after statuses.Unvouched reading over whole is_large over_left most ends = absurd ends
ended-read stream rest left old now now' waiting far text large before after (statuses.ScriptRefused line why) reading over whole is_large over_left most ends =
    (ends.1, ends.2, is-large (length stream) large is_large ends.0, record { text = reading.shown ++ (text ++ ending_text far.done far.too_long (length waiting) large); is = is-read far.too_long stream rest old now waiting far text large reading over whole is_large; grows = grows_more old now now' reading.shown (text ++ ending_text far.done far.too_long (length waiting) large) reading.grows ends.4 })
ended-read stream rest left old now now' waiting far text large before after statuses.ReadFault reading over whole is_large over_left most ends = absurd ends
ended-read stream rest left old now now' waiting far text large before after statuses.WriteFault reading over whole is_large over_left most ends = record {
  text = reading.shown ++ ends.2.front;
  begins = part_begins stream (reading.shown ++ ends.2.front) ends.2.back (reading.shown ++ (text ++ ending_text far.done far.too_long (length waiting) large))
      (behind-front reading.shown ends.2.front ends.2.back (text ++ ending_text far.done far.too_long (length waiting) large) ends.2.parts)
      (whole_begins stream (reading.shown ++ (text ++ ending_text far.done far.too_long (length waiting) large)) (is-read far.too_long stream rest old now waiting far text large reading over whole is_large));
  grows = grows_more old now now' reading.shown ends.2.front reading.grows ends.2.grows;
}
ended-read stream rest left old now now' waiting far text large before after statuses.Memory reading over whole is_large over_left most ends =
    let P : Option (List ℕ) → Type 0 = λ n. WritesFront stream old n in
    subst P (sym ends.1) (front-written stream rest old now now waiting far text reading most (part-none now text))

-- behind its stream
pub reads-end : (first left left' old now now' : Option (List ℕ)) (waiting : List ℕ) (far : Progress) (text : List ℕ) (before after : ℕ) (status : Status) → ReadsOn first left old now waiting far text → IsOver far.too_long waiting → far.taken ≤ most_read → left' ≡ left → left ≡ option_map (λ _. []) left → EndsRead far (length waiting) false now now' before after text status → Reads first left' old now' status
reads-end None left left' old now now' waiting far text before after status on over most stays gives ends = tt
reads-end (Some stream) None left' old now now' waiting far text before after status on over most stays gives ends = absurd on
reads-end (Some stream) (Some rest) left' old now now' waiting far text before after status on over most stays gives ends =
    let none : rest ≡ [] = cc in
    let all : on.before ≡ stream = sym (append-nil on.before) ∙ ap (λ r. on.before ++ r) (sym none) ∙ on.parts in
    let size : length stream ≤ most_read = omega (arith, ap length all, on.counted, most) in
    let small : false ≡ nat_lt most_read (length stream) = grind (arith, nat_tests) in
    ended-read stream rest left' old now now' waiting far text false before after status on over (all ∙ sym (take_all most_read stream size)) small (λ _. stays ∙ ap Some none) most ends

nat-lt-of : (a b : ℕ) → a < b → true ≡ nat_lt a b
nat-lt-of a b less = grind (arith, nat_tests)

-- at the most bytes
is-reading-large : (stream rest rest' : List ℕ) (left old now now' : Option (List ℕ)) (waiting waiting' : List ℕ) (far far' : Progress) (piece text text' : List ℕ) (n before after : ℕ) (status : Status) → IsReading stream rest old now waiting far text → rest ≡ piece ++ rest' → TakesSome waiting waiting' (take n piece) far far' text text' → far.taken + n ≡ most_read → n < length piece → EndsRead far' (length waiting') true now now' before after text' status → ReadsStream stream left old now' status
is-reading-large stream rest rest' left old now now' waiting waiting' far far' piece text text' n before after status reading same takes full more ends =
    let parted : rest ≡ take n piece ++ (drop n piece ++ rest') = same ∙ ap (λ p. p ++ rest') (sym (take-append-drop n piece)) ∙ append_assoc (take n piece) (drop n piece) rest' in
    let on = is-reading-on stream rest (drop n piece ++ rest') old now waiting waiting' far far' (take n piece) text text' reading parted takes in
    let front : length (take n piece) ≡ n = length-take-le n piece (omega (arith, more)) in
    let size : length on.before ≡ most_read = omega (arith, on.counted, takes.taken, front, full) in
    let back : length stream ≡ length on.before + (length (drop n piece) + length rest') = ap length (sym on.parts) ∙ length-append on.before (drop n piece ++ rest') ∙ ap (λ k. length on.before + k) (length-append (drop n piece) rest') in
    let left_over = length-drop n piece in
    let large : true ≡ nat_lt most_read (length stream) = nat-lt-of most_read (length stream) (omega (arith, size, back, left_over, more)) in
    let same_size : length on.before + 0 ≡ most_read = omega (arith, size) in
    let whole : on.before ≡ take most_read stream = sym (append-nil on.before) ∙ sym (take-append-add on.before (drop n piece ++ rest') 0) ∙ ap (λ k. take k (on.before ++ (drop n piece ++ rest'))) same_size ∙ ap (take most_read) on.parts in
    ended-read stream (drop n piece ++ rest') left old now now' waiting' far' text' true before after status on takes.over whole large (λ small. cc) (omega (arith, takes.taken, front, full)) ends

pub reads-large : (first left left' old now now' : Option (List ℕ)) (waiting waiting' : List ℕ) (far far' : Progress) (piece text text' : List ℕ) (n before after : ℕ) (status : Status) → ReadsOn first left old now waiting far text → left ≡ option_map (λ rest. piece ++ rest) left' → TakesSome waiting waiting' (take n piece) far far' text text' → far.taken + n ≡ most_read → n < length piece → EndsRead far' (length waiting') true now now' before after text' status → Reads first left' old now' status
reads-large None left left' old now now' waiting waiting' far far' piece text text' n before after status on gives takes full more ends = tt
reads-large (Some stream) None left' old now now' waiting waiting' far far' piece text text' n before after status on gives takes full more ends = absurd on
reads-large (Some stream) (Some rest) None old now now' waiting waiting' far far' piece text text' n before after status on gives takes full more ends = cc
reads-large (Some stream) (Some rest) (Some rest') old now now' waiting waiting' far far' piece text text' n before after status on gives takes full more ends =
    let same : rest ≡ piece ++ rest' = cc in
    is-reading-large stream rest rest' (Some rest') old now now' waiting waiting' far far' piece text text' n before after status on same takes full more ends

-- THE CAUSES

pub causes-ended : (far : Progress) (waits : ℕ) (large : Bool) (now now' : Option (List ℕ)) (text : List ℕ) (status : Status) (reads reads' writes before after : ℕ) → reads ≤ reads' → writes ≤ before → EndsRead far waits large now now' before after text status → HasCauses status reads reads' writes after
causes-ended far waits large now now' text statuses.Done reads reads' writes before after r w ends = record { reads = r; writes = omega (arith, w, ends.1); read_fault = λ is. cc; write_fault = λ is. cc }
causes-ended far waits large now now' text statuses.Usage reads reads' writes before after r w ends = absurd ends
causes-ended far waits large now now' text (statuses.Refuted refuted because) reads reads' writes before after r w ends = absurd ends
causes-ended far waits large now now' text statuses.Unvouched reads reads' writes before after r w ends = absurd ends
causes-ended far waits large now now' text (statuses.ScriptRefused line why) reads reads' writes before after r w ends = record { reads = r; writes = omega (arith, w, ends.3); read_fault = λ is. cc; write_fault = λ is. cc }
causes-ended far waits large now now' text statuses.ReadFault reads reads' writes before after r w ends = absurd ends
causes-ended far waits large now now' text statuses.WriteFault reads reads' writes before after r w ends = record { reads = r; writes = omega (arith, w, ends.0); read_fault = λ is. cc; write_fault = λ is. rose_after writes before after w ends.0 ends.1 }
causes-ended far waits large now now' text statuses.Memory reads reads' writes before after r w ends = record { reads = r; writes = omega (arith, w, ends.0); read_fault = λ is. cc; write_fault = λ is. cc }

-- nothing waits at first
pub nothing-over : IsRest []
unfolding frames_of parts.frames_within parts.answer_of parts.left_of
nothing-over = refl

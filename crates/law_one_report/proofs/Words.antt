-- A piece of bytes brings words: what each of its frames means, and behind too many bytes without an end that there are so many,
-- which ends the connection.
use Rattle.std.proofs.Common.{◌≡◌, ◌∙◌, ◌++◌, ℕ, Bool, true, false, List, [], ◌∷◌, Option, Some, None, refl, sym, ap, subst, append-nil}
use Rattle.std.specs.Prelude.{codes}
use Rattle.std.proofs.lemmas.Bool.{false≢true}
use Rattle.line_base.specs.declared.states.Side.{Side}
use Rattle.board_record.specs.declared.sensed.Sensed.{Sensed}
use Rattle.hermes_horizontal.specs.Texts.{message_refusal_text}
use Rattle.node_core.specs.Desk.{Desk}
use Rattle.node_core.specs.Done.{Done}
use Rattle.node_core.specs.Event.{Words}
use Rattle.node_core.specs.Reads.{all_read}
use Rattle.node_core.specs.Sides.{is_open}
use Rattle.node_core.specs.Step.{machine_step}
use Rattle.node_core.specs.Words.{AreAll, AreFirst, AreMeant, Means, all_heard, meant_more, meant_none, too_long, word_did}
use Rattle.node_core.specs.declared.lane.Body.{Body}
use Rattle.node_core.specs.declared.word.Word.{Word}
use Rattle.node_core.specs.declared.word.Word.TheVariants.{Says, Wrong}
use Rattle.node_core.proofs.Hearing.{closed-hears, meant-all, meant-first, meant-long, open-hears}
use Rattle.node_core.proofs.Opened.{breach_closes}
use Rattle.node_core.proofs.Stepping.{announces_open}
use Rattle.law_one_report.specs.Frames.{IsSpelledOrRefused, refused, spelled}
use Rattle.law_one_report.proofs.Frames.{apart, each_frame}

-- ---- each frame means something

record HasMeaning (frame : List ℕ) : Type 0 where
  word : Word
  means : Means frame word

meaning_of : (frame : List ℕ) → IsSpelledOrRefused frame → HasMeaning frame
meaning_of frame (spelled message spells) = record { word = Says message; means = spells }
meaning_of frame (refused at why fails) = record {
  word = Wrong (message_refusal_text why at);
  means = record { at = at; why = why; refused = fails; told = refl; spells_none = λ message spells. apart frame at why message fails spells };
}

record HaveMeanings (frames : List (List ℕ)) : Type 0 where
  words : List Word
  mean : AreMeant frames words

meanings_of : (frames : List (List ℕ)) → HaveMeanings frames
meanings_of [] = record { words = []; mean = meant_none }
meanings_of (frame ∷ frames) =
    let first = meaning_of frame (each_frame frame) in
    let others = meanings_of frames in
    record { words = first.word ∷ others.words; mean = meant_more first.means others.mean }

-- ---- too many bytes end the connection

heard_by : (desk : Desk) (side : Side) (word : Word) (words : List Word) (body : Body) (test : Bool) → is_open side body ≡ test
    → is_open side (all_heard desk side words (word_did desk side word body).body).body ≡ false → is_open side (all_heard desk side (word ∷ words) body).body ≡ false
heard_by desk side word words body true is closes = ap (λ (d : Done). is_open side d.body) (open-hears desk side word words body is) ∙ closes
heard_by desk side word words body false is closes = ap (λ (d : Done). is_open side d.body) (closed-hears desk side (word ∷ words) body is) ∙ is

long_closes : (desk : Desk) (side : Side) (words : List Word) (body : Body) → is_open side (all_heard desk side (words ++ too_long ∷ []) body).body ≡ false
long_closes desk side [] body = heard_by desk side too_long [] body (is_open side body) refl (breach_closes desk side (codes "message too long") body)
long_closes desk side (word ∷ words) body = heard_by desk side word (words ++ too_long ∷ []) body (is_open side body) refl (long_closes desk side words (word_did desk side word body).body)

-- whether the side is open behind a step that hears these words
abbrev pub open_behind : Desk → List Sensed → Side → Body → List Word → Bool
open_behind desk unread side body words = is_open side (machine_step desk unread (Words side words) body).body

ends_closed : (desk : Desk) (unread : List Sensed) (side : Side) (body : Body) (words : List Word) → open_behind desk unread side body (words ++ too_long ∷ []) ≡ false
ends_closed desk unread side body words =
    let read = (all_read desk unread body).body in
    announces_open desk side (all_heard desk side (words ++ too_long ∷ []) read).body ∙ long_closes desk side words read

-- ---- the words of a piece

-- the words of these frames and what is left behind them, where the side that is open behind words is told by a test
pub record HasWords (is_still : List Word → Bool) (frames : List (List ℕ)) (rest : Option (List ℕ)) : Type 0 where
  pub words : List Word
  pub left : List ℕ
  pub first : AreFirst frames rest words
  pub all : is_still words ≡ true → AreAll frames rest words left

words_by : (is_still : List Word → Bool) (frames : List (List ℕ)) (rest : Option (List ℕ)) → ((words : List Word) → is_still (words ++ too_long ∷ []) ≡ false) → HasWords is_still frames rest
words_by is_still frames (Some rest) closes =
    let meanings = meanings_of frames in
    record {
      words = meanings.words;
      left = rest;
      first = subst (λ (fs : List (List ℕ)). AreFirst fs (Some rest) meanings.words) (append-nil frames) (meant-first [] meanings.mean);
      all = λ still. subst (λ (fs : List (List ℕ)). AreAll fs (Some rest) meanings.words rest) (append-nil frames) (meant-all meanings.mean);
    }
words_by is_still frames None closes =
    let meanings = meanings_of frames in
    record {
      words = meanings.words ++ too_long ∷ [];
      left = [];
      first = subst (λ (fs : List (List ℕ)). AreFirst fs None (meanings.words ++ too_long ∷ [])) (append-nil frames) (meant-long meanings.mean);
      all = λ still. absurd (false≢true (sym (closes meanings.words) ∙ still));
    }

pub has_words : (desk : Desk) (unread : List Sensed) (side : Side) (body : Body) (frames : List (List ℕ)) (rest : Option (List ℕ)) → HasWords (open_behind desk unread side body) frames rest
has_words desk unread side body frames rest = words_by (open_behind desk unread side body) frames rest (ends_closed desk unread side body)

-- A step breaks off at its first breach.
use Rattle.std.proofs.Common.{◌≡◌, ◌∙◌, ◌++◌, ℕ, Bool, true, false, List, [], ◌∷◌, Option, Some, None, refl, sym, ap, subst, append_assoc, append-nil}
use Rattle.std.specs.Prelude.{is_some, codes}
use Rattle.std.proofs.lemmas.Bool.{false≢true}
use Rattle.line_base.specs.declared.states.Side.{Side}
use Rattle.line_base.specs.declared.states.Side.TheVariants.{Entry, Exit}
use Rattle.line_base.specs.declared.states.Severity.TheVariants.{Fatal}
use Rattle.board_record.specs.declared.sensed.Sensed.{Sensed}
use Rattle.hermes_stream.specs.Frames.{frames_of}
use Rattle.hermes_horizontal.specs.Parts.{kind_of}
use Rattle.hermes_horizontal.specs.Spelling.{Spells, IsRefused}
use Rattle.hermes_horizontal.specs.Texts.{message_refusal_text}
use Rattle.hermes_horizontal.specs.declared.fault.Fault.{Fault}
use Rattle.hermes_horizontal.specs.declared.message.Message.{Message}
use Rattle.session_core.specs.declared.actions.Action.{Action}
use Rattle.session_core.specs.declared.actions.Action.TheVariants.{SendService, Pong, Ping, Tell, Close, Stand, Pass}
use Rattle.session_core.specs.declared.actions.Actions.{Actions}
use Rattle.session_core.specs.Breach.{unexpected}
use Rattle.session_core.specs.End.{SessionEnd}
use Rattle.session_core.specs.Input.{Input as SessionInput, heard}
use Rattle.session_core.specs.Row.{SessionRow, session_row}
use Rattle.session_core.proofs.RowLaws.{part_stays}
use Rattle.handover_out.specs.State.{held}
use Rattle.node_core.specs.declared.act.Act.{Act}
use Rattle.node_core.specs.declared.act.Act.TheVariants as acts
use Rattle.node_core.specs.declared.lane.Body.{Body}
use Rattle.node_core.specs.declared.word.Word.{Word}
use Rattle.node_core.specs.declared.word.Word.TheVariants.{Says, Wrong}
use Rattle.node_core.specs.Desk.{Desk}
use Rattle.node_core.specs.Done.{Done, behind, and_then}
use Rattle.node_core.specs.Sides.{session_at, with_session, is_open}
use Rattle.node_core.specs.Halves.{ended}
use Rattle.node_core.specs.Told.{sends, notification}
use Rattle.node_core.specs.Session.{breaches}
use Rattle.node_core.specs.Hears.{rowed, taken, passed, side_took}
use Rattle.node_core.specs.Reads.{all_read}
use Rattle.node_core.specs.Announces.{announces}
use Rattle.node_core.specs.Connect.{if_open}
use Rattle.node_core.specs.Words.{Means, AreMeant, AreFirst, first_more, first_too_long, AreAll, all_more, AreWords, too_long, word_did, all_heard}
use Rattle.node_core.specs.Event.{Words}
use Rattle.node_core.specs.Step.{machine_step, plain_step}
use Rattle.node_core.specs.Supervising.{telling}
use Rattle.node_core.specs.Breaking.{has_half_row, has_row, text_unless, breach_of, broken_step, heard_before, IsBreach, BreaksOff}
use Rattle.node_core.proofs.Opened.{breach_closes}
use Rattle.node_core.proofs.Hearing.{closed-hears, open-hears, meant-first, meant-push, meant-long}
use Rattle.node_core.proofs.Stepping.{announces_open}

-- ---- a word that is a breach breaks off

-- a session that took the message doesn't matter: it is at rest then
ended_same : (desk : Desk) (side : Side) (s : SessionEnd) (body : Body) → s.role ≡ (session_at side body).role → ended desk side (with_session side s body) ≡ ended desk side body
ended_same desk Entry s body same = ap (λ role. ended desk Entry (with_session Entry (record s { role = role }) body)) same
ended_same desk Exit s body same = ap (λ role. ended desk Exit (with_session Exit (record s { role = role }) body)) same

breaches_same : (desk : Desk) (side : Side) (text : List ℕ) (s : SessionEnd) (body : Body) → s.role ≡ (session_at side body).role → breaches desk side text (with_session side s body) ≡ breaches desk side text body
breaches_same desk side text s body same = ap (λ (d : Done). behind (acts.Breaches side text ∷ (sends desk side (notification 1 Fatal text) ++ acts.Closes side ∷ [])) d) (ended_same desk side s body same)

some_text : (a b : List ℕ) → Some a ≡ Some b → a ≡ b
some_text a b is = cc

passed_breaks : (desk : Desk) (side : Side) (message : Message) (text : List ℕ) (body : Body) (found : Option Done) → text_unless (is_some found) (unexpected (kind_of message.body)) ≡ Some text → passed desk side message body found ≡ breaches desk side text body
passed_breaks desk side message text body None is = ap (λ (t : List ℕ). breaches desk side t body) (some_text _ text is)
passed_breaks desk side message text body (Some d) is = cc

taken_breaks : (desk : Desk) (side : Side) (message : Message) (text : List ℕ) (first : Option Action) (actions : Actions) (body : Body) → text_unless (has_half_row desk side first body) (unexpected (kind_of message.body)) ≡ Some text
    → taken desk side message first actions body ≡ breaches desk side text body
taken_breaks desk side message text (Some (Pass what)) actions body is = passed_breaks desk side message text body (side_took desk side what body) is
taken_breaks desk side message text None actions body is = cc
taken_breaks desk side message text (Some SendService) actions body is = cc
taken_breaks desk side message text (Some (Pong _)) actions body is = cc
taken_breaks desk side message text (Some (Ping _)) actions body is = cc
taken_breaks desk side message text (Some (Tell _)) actions body is = cc
taken_breaks desk side message text (Some Close) actions body is = cc
taken_breaks desk side message text (Some Stand) actions body is = cc

rowed_breaks : (desk : Desk) (side : Side) (message : Message) (text : List ℕ) (input : SessionInput) (body : Body) (found : Option SessionRow) → session_row (session_at side body) input ≡ found
    → text_unless (has_row desk side found body) (unexpected (kind_of message.body)) ≡ Some text → rowed desk side message body found ≡ breaches desk side text body
rowed_breaks desk side message text input body None row is = ap (λ (t : List ℕ). breaches desk side t body) (some_text _ text is)
rowed_breaks desk side message text input body (Some r) row is =
    taken_breaks desk side message text r.actions.first r.actions (with_session side r.after body) is ∙ breaches_same desk side text r.after body (part_stays (session_at side body) input r row)

word_breaks : (desk : Desk) (side : Side) (word : Word) (text : List ℕ) (body : Body) → breach_of desk side word body ≡ Some text → word_did desk side word body ≡ breaches desk side text body
word_breaks desk side (Wrong said) text body is = ap (λ (t : List ℕ). breaches desk side t body) (some_text said text is)
word_breaks desk side (Says message) text body is = rowed_breaks desk side message text (heard message.body (is_some (held body.outlet))) body (session_row (session_at side body) (heard message.body (is_some (held body.outlet)))) refl is

-- ---- nothing of the piece behind it counts

breaks_all : (desk : Desk) (side : Side) (word : Word) (others : List Word) (text : List ℕ) (body : Body) → is_open side body ≡ true → breach_of desk side word body ≡ Some text → all_heard desk side (word ∷ others) body ≡ breaches desk side text body
breaks_all desk side word others text body opened is =
    let b = breaches desk side text body in
    open-hears desk side word others body opened
    ∙ ap (λ (d : Done). and_then d (all_heard desk side others)) (word_breaks desk side word text body is)
    ∙ ap (λ (d : Done). record { body = d.body; acts = b.acts ++ d.acts }) (closed-hears desk side others b.body (breach_closes desk side text body))
    ∙ ap (λ (xs : List Act). record { body = b.body; acts = xs }) (append-nil b.acts)

then_is : (test : Bool) (desk : Desk) (side : Side) (one : Done) (front rest : List Word) (body : Body) → is_open side body ≡ test
    → all_heard desk side (front ++ rest) one.body ≡ and_then (all_heard desk side front one.body) (all_heard desk side rest)
    → if_open test (and_then one (all_heard desk side (front ++ rest))) body ≡ and_then (if_open test (and_then one (all_heard desk side front)) body) (all_heard desk side rest)
then_is true desk side one front rest body is same =
    ap (λ (d : Done). record { body = d.body; acts = one.acts ++ d.acts }) same
    ∙ ap (λ (xs : List Act). record { body = (all_heard desk side rest (all_heard desk side front one.body).body).body; acts = xs }) (sym (append_assoc one.acts (all_heard desk side front one.body).acts (all_heard desk side rest (all_heard desk side front one.body).body).acts))
then_is false desk side one front rest body is same = sym (closed-hears desk side rest body is)

heard_append : (desk : Desk) (side : Side) (front rest : List Word) (body : Body) → all_heard desk side (front ++ rest) body ≡ and_then (all_heard desk side front body) (all_heard desk side rest)
heard_append desk side [] rest body = refl
heard_append desk side (w ∷ ws) rest body = then_is (is_open side body) desk side (word_did desk side w body) ws rest body refl (heard_append desk side ws rest (word_did desk side w body).body)

-- without what the supervisor is told
plain_broken : (desk : Desk) (unread : List Sensed) (side : Side) (front : List Word) (word : Word) (others : List Word) (text : List ℕ) (body : Body)
    → is_open side (heard_before desk unread side front body) ≡ true → breach_of desk side word (heard_before desk unread side front body) ≡ Some text
    → plain_step desk unread (Words side (front ++ word ∷ others)) body
    ≡ and_then (and_then (all_read desk unread body) (all_heard desk side front)) (λ at. and_then (breaches desk side text at) (announces desk))
plain_broken desk unread side front word others text body opened is =
    let read = all_read desk unread body in
    let before = all_heard desk side front read.body in
    let b = breaches desk side text before.body in
    let told = announces desk b.body in
    ap (λ (d : Done). and_then read (λ (one : Body). and_then d (announces desk)))
    (heard_append desk side front (word ∷ others) read.body ∙ ap (λ (d : Done). record { body = d.body; acts = before.acts ++ d.acts }) (breaks_all desk side word others text before.body opened is))
    ∙ ap (λ (xs : List Act). record { body = told.body; acts = read.acts ++ xs }) (append_assoc before.acts b.acts told.acts)
    ∙ ap (λ (xs : List Act). record { body = told.body; acts = xs }) (sym (append_assoc read.acts before.acts (b.acts ++ told.acts)))

pub broken : (desk : Desk) (unread : List Sensed) (side : Side) (front : List Word) (word : Word) (others : List Word) (text : List ℕ) (body : Body)
    → is_open side (heard_before desk unread side front body) ≡ true → breach_of desk side word (heard_before desk unread side front body) ≡ Some text
    → machine_step desk unread (Words side (front ++ word ∷ others)) body ≡ broken_step desk unread side front text body
broken desk unread side front word others text body opened is =
    ap (λ (d : Done). telling desk body d) (plain_broken desk unread side front word others text body opened is)

-- ---- what the bytes begin with is what the step heard, as far as a breach

-- a frame means one thing
abbrev pub OneMeaning : Type 0
OneMeaning = (frame : List ℕ) (a b : Word) → Means frame a → Means frame b → a ≡ b

-- the word comes behind this front of all words
record ComesBehind (front : List Word) (word : Word) (all : List Word) : Type 0 where
  others : List Word
  same : all ≡ front ++ word ∷ others

-- behind all frames stands one word at most, that too many bytes stand there
record IsLast (rest : Option (List ℕ)) (word : Word) (others : List Word) : Type 0 where
  none : rest ≡ None
  long : word ≡ too_long
  alone : others ≡ []

last_word : {rest : Option (List ℕ)} {word : Word} {others : List Word} → AreFirst [] rest (word ∷ others) → IsLast rest word others
last_word first_too_long = record { none = refl; long = refl; alone = refl }

first_means : {frame : List ℕ} {frames : List (List ℕ)} {rest : Option (List ℕ)} {word : Word} {others : List Word} → AreFirst (frame ∷ frames) rest (word ∷ others) → Means frame word
first_means (first_more means more) = means

others_first : {frame : List ℕ} {frames : List (List ℕ)} {rest : Option (List ℕ)} {word : Word} {others : List Word} → AreFirst (frame ∷ frames) rest (word ∷ others) → AreFirst frames rest others
others_first (first_more means more) = more

others_all : {frame : List ℕ} {frames : List (List ℕ)} {rest : Option (List ℕ)} {word : Word} {others : List Word} {left : List ℕ} → AreAll (frame ∷ frames) rest (word ∷ others) left → AreAll frames rest others left
others_all (all_more means more) = more

-- no frame is left out of all, and too many bytes are no rest
frame_left : {frame : List ℕ} {frames : List (List ℕ)} {rest : Option (List ℕ)} {left : List ℕ} → AreAll (frame ∷ frames) rest [] left → ⊥
frame_left all = elim all [ ]

no_rest : {left : List ℕ} → AreAll [] None [] left → ⊥
no_rest all = elim all [ ]

pushed_none : (front : List Word) (word : Word) → front ++ word ∷ [] ≡ [] → ⊥
pushed_none [] word is = cc
pushed_none (w ∷ ws) word is = cc

-- a side that is open behind some words was open before them
was_open : (test : Bool) (desk : Desk) (side : Side) (words : List Word) (body : Body) → is_open side body ≡ test → is_open side (all_heard desk side words body).body ≡ true → is_open side body ≡ true
was_open true desk side words body is opened = is
was_open false desk side words body is opened = absurd (false≢true (sym is ∙ sym (ap (λ (d : Done). is_open side d.body) (closed-hears desk side words body is)) ∙ opened))

-- and behind the first of them
then_open : (desk : Desk) (side : Side) (word : Word) (words : List Word) (body : Body) → is_open side body ≡ true → is_open side (all_heard desk side words (word_did desk side word body).body).body ≡ is_open side (all_heard desk side (word ∷ words) body).body
then_open desk side word words body opened = sym (ap (λ (d : Done). is_open side d.body) (open-hears desk side word words body opened))

comes_behind : OneMeaning → (desk : Desk) (side : Side) (body : Body) (frames : List (List ℕ)) (rest : Option (List ℕ)) (left : List ℕ) (front : List Word) (word : Word) (all : List Word)
    → AreFirst frames rest (front ++ word ∷ []) → is_open side (all_heard desk side front body).body ≡ true
    → AreFirst frames rest all → (is_open side (all_heard desk side all body).body ≡ true → AreAll frames rest all left)
    → ComesBehind front word all
comes_behind one desk side body [] rest left [] word [] begins opened first all =
    absurd (no_rest (subst (λ (r : Option (List ℕ)). AreAll [] r [] left) (last_word begins).none (all opened)))
comes_behind one desk side body [] rest left [] word (u ∷ us) begins opened first all =
    record { others = us; same = ap (λ (w : Word). w ∷ us) ((last_word first).long ∙ sym (last_word begins).long) }
comes_behind one desk side body (frame ∷ frames) rest left [] word [] begins opened first all = absurd (frame_left (all opened))
comes_behind one desk side body (frame ∷ frames) rest left [] word (u ∷ us) begins opened first all =
    record { others = us; same = ap (λ (w : Word). w ∷ us) (one frame u word (first_means first) (first_means begins)) }
comes_behind one desk side body [] rest left (w ∷ ws) word all begins opened first whole = absurd (pushed_none ws word (last_word begins).alone)
comes_behind one desk side body (frame ∷ frames) rest left (w ∷ ws) word [] begins opened first all =
    absurd (frame_left (all (was_open (is_open side body) desk side (w ∷ ws) body refl opened)))
comes_behind one desk side body (frame ∷ frames) rest left (w ∷ ws) word (u ∷ us) begins opened first all =
    let here = was_open (is_open side body) desk side (w ∷ ws) body refl opened in
    let same : u ≡ w = one frame u w (first_means first) (first_means begins) in
    let more = comes_behind one desk side (word_did desk side u body).body frames rest left ws word us (others_first begins)
    (ap (λ (v : Word). is_open side (all_heard desk side ws (word_did desk side v body).body).body) same ∙ then_open desk side w ws body here ∙ opened)
    (others_first first) (λ still. others_all (all (sym (then_open desk side u us body here) ∙ still))) in
    record { others = more.others; same = ap (λ (xs : List Word). u ∷ xs) more.same ∙ ap (λ (v : Word). v ∷ (ws ++ word ∷ more.others)) same }

-- ---- a step of bytes

pub breaks_off : OneMeaning → (desk : Desk) (unread : List Sensed) (side : Side) (old piece new : List ℕ) (all : List Word) (before after : Body) (made own now : List Act)
    → AreWords old piece new (is_open side after) all
    → after ≡ (machine_step desk unread (Words side all) before).body → made ≡ (machine_step desk unread (Words side all) before).acts → now ≡ made ++ own → BreaksOff desk unread side (old ++ piece) before after own now
breaks_off one desk unread side old piece new all before after made own now are body said behind_them =
    let read = (all_read desk unread before).body in
    let still : is_open side after ≡ is_open side (all_heard desk side all read).body = ap (is_open side) body ∙ announces_open desk side (all_heard desk side all read).body in
    let at : (front : List Word) (word : Word) (text : List ℕ) → IsBreach desk unread side (old ++ piece) before front word text → machine_step desk unread (Words side all) before ≡ broken_step desk unread side front text before =
    λ front word text is.
    let comes = comes_behind one desk side read (frames_of (old ++ piece)).messages (frames_of (old ++ piece)).rest new front word all is.begins is.hears are.first (λ opened. are.all (still ∙ opened)) in
    ap (λ (ws : List Word). machine_step desk unread (Words side ws) before) comes.same ∙ broken desk unread side front word comes.others text before is.hears is.breaks in
    record {
      body = λ front word text is. body ∙ ap (λ (d : Done). d.body) (at front word text is);
      told = λ front word text is. behind_them ∙ ap (λ (xs : List Act). xs ++ own) (said ∙ ap (λ (d : Done). d.acts) (at front word text is));
    }

-- ---- wrong bytes are a breach

pub refused_breach : ((bytes : List ℕ) (at : ℕ) (why : Fault) (message : Message) → IsRefused bytes at why → Spells bytes message → ⊥)
    → (desk : Desk) (unread : List Sensed) (side : Side) (bytes : List ℕ) (before : Body) (frames others : List (List ℕ)) (front : List Word) (frame : List ℕ) (at : ℕ) (why : Fault)
    → AreMeant frames front → (frames_of bytes).messages ≡ frames ++ frame ∷ others → IsRefused frame at why → is_open side (heard_before desk unread side front before) ≡ true
    → IsBreach desk unread side bytes before front (Wrong (message_refusal_text why at)) (message_refusal_text why at)
refused_breach apart desk unread side bytes before frames others front frame at why meant cut refused opened =
    let wrong : Means frame (Wrong (message_refusal_text why at)) = record { at = at; why = why; refused = refused; told = refl; spells_none = λ message spells. apart frame at why message refused spells } in
    record {
      begins = subst (λ (fs : List (List ℕ)). AreFirst fs (frames_of bytes).rest (front ++ Wrong (message_refusal_text why at) ∷ [])) (append_assoc frames (frame ∷ []) others ∙ sym cut)
          (meant-first others (meant-push frame (Wrong (message_refusal_text why at)) meant wrong));
      hears = opened;
      breaks = refl;
    }

pub endless_breach : (desk : Desk) (unread : List Sensed) (side : Side) (bytes : List ℕ) (before : Body) (front : List Word)
    → AreMeant (frames_of bytes).messages front → (frames_of bytes).rest ≡ None → is_open side (heard_before desk unread side front before) ≡ true
    → IsBreach desk unread side bytes before front too_long (codes "message too long")
endless_breach desk unread side bytes before front meant endless opened = record {
  begins = subst (λ (r : Option (List ℕ)). AreFirst (frames_of bytes).messages r (front ++ too_long ∷ [])) (sym endless)
      (subst (λ (fs : List (List ℕ)). AreFirst fs None (front ++ too_long ∷ [])) (append-nil (frames_of bytes).messages) (meant-long meant));
  hears = opened;
  breaks = refl;
}

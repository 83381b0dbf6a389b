-- What the supervisor is told of acts behind others, and which acts tell it nothing.
use Rattle.std.proofs.Common.{
  ap,
  sym,
  subst,
  refl,
  if◌then◌else◌,
  ◌≡◌,
  ◌∙◌,
  ◌++◌,
  ◌+◌,
  ◌==◌,
  ◌||◌,
  ℕ,
  Bool,
  true,
  false,
  List,
  [],
  ◌∷◌,
  Option,
  Some,
  None,
}
use Rattle.std.specs.Prelude.{slice_get}
use Rattle.std.specs.List.{list_all, list_any}
use Rattle.std.proofs.lemmas.Bool.{and_parts, false≢true, or_from}
use Rattle.line_base.specs.declared.states.Seen.{Seen}
use Rattle.line_base.specs.declared.states.SensorEvent.{SensorEvent}
use Rattle.line_base.specs.declared.states.Side.{Side}
use Rattle.line_base.specs.declared.states.Side.TheVariants.{Entry, Exit}
use Rattle.hermes_vertical.specs.declared.message.Passing.TheVariants.{ByHand, Transferred}
use Rattle.line_report.specs.declared.happening.Happening.TheVariants as happenings
use Rattle.board_record.specs.declared.record.Record.{Record}
use Rattle.handover_out.specs.declared.act.OutSend.{OutSend}
use Rattle.handover_out.specs.declared.act.OutSend.TheVariants as out_send
use Rattle.handover_in.specs.declared.act.InSend.{InSend}
use Rattle.node_core.specs.Desk.{Desk}
use Rattle.node_core.specs.Supervising.{
  departs as departing,
  saw_taken,
  tells_behind,
  tells_deed,
  tells_of,
  watch_after,
  watch_behind,
  with_tells,
}
use Rattle.node_core.specs.Told.{drives, in_sends, offers, out_sends}
use Rattle.node_core.specs.declared.act.Act.{Act}
use Rattle.node_core.specs.declared.act.Act.TheVariants as acts
use Rattle.node_core.specs.declared.act.Deed.{Deed}
use Rattle.node_core.specs.declared.act.Deed.TheVariants as deeds
use Rattle.node_core.specs.declared.act.Setting.TheVariants as settings
use Rattle.node_core.specs.declared.supervising.Watch.{Watch}
use Rattle.law_supervisor_replay.specs.Replay.{At, Told, departs, with_happening}
use Rattle.law_supervisor_replay.proofs.Since.{since_by_deed, since_with}
use Rattle.law_supervisor_replay.proofs.Bodies.{brings_in, left_acts, takes_out, told_acts}
use Rattle.law_supervisor_replay.proofs.Parts.{Says, SaysLeft}

-- ---- acts behind others

pub watch_append : (watch : Watch) (first second : List Act)
    → watch_behind watch (first ++ second) ≡ watch_behind (watch_behind watch first) second
watch_append watch [] second = refl
watch_append watch (act ∷ first) second = watch_append (watch_after watch act) first second

pub told_append : (id machine : ℕ) (first second : List Act) (told : Told)
    → told_acts id machine (first ++ second) told
    ≡ told_acts id machine second (told_acts id machine first told)
told_append id machine [] second told = refl
told_append id machine (act ∷ first) second told =
    told_append id machine first second (with_happening id (happenings.Done machine act) told)

pub left_append : (gap id machine : ℕ) (first second : List Act) (left : Bool)
    → left_acts gap id machine (first ++ second) left
    ≡ left_acts gap id machine second (left_acts gap id machine first left)
left_append gap id machine [] second left = refl
left_append gap id machine (act ∷ first) second left =
    left_append gap id machine first second (since_with gap id (happenings.Done machine act) left)

-- ---- acts of which nothing is told, behind which the watch is as before

abbrev pub is_quiet_deed : Deed → Bool
is_quiet_deed (deeds.Opens id) = true
is_quiet_deed (deeds.Refuses id) = true
is_quiet_deed (deeds.Returns id) = true
is_quiet_deed _ = false

abbrev pub is_quiet : Act → Bool
is_quiet (acts.Reads Entry event) = false
is_quiet (acts.Deed deed) = is_quiet_deed deed
is_quiet (acts.Inserts id) = false
is_quiet (acts.Removes id) = false
is_quiet (acts.Replaces old new) = false
is_quiet (acts.Gives id to) = false
is_quiet (acts.Gets id) = false
is_quiet (acts.Tells message) = false
is_quiet (acts.Sets (settings.Supervise on)) = false
is_quiet _ = true

quiet_none : (desk : Desk) (seen : Option Seen) (act : Act) → is_quiet act ≡ true
    → tells_of desk seen act ≡ []
quiet_none desk seen (acts.Deed (deeds.Leaves id)) is = absurd (false≢true is)
quiet_none desk seen (acts.Deed (deeds.Loses id)) is = absurd (false≢true is)
quiet_none desk seen (acts.Deed (deeds.Settles id)) is = absurd (false≢true is)
quiet_none desk seen (acts.Deed (deeds.Drops id)) is = absurd (false≢true is)
quiet_none desk seen (acts.Inserts id) is = absurd (false≢true is)
quiet_none desk seen (acts.Removes id) is = absurd (false≢true is)
quiet_none desk seen (acts.Replaces old new) is = absurd (false≢true is)
quiet_none desk seen _ is = refl

none_by : (test : Bool) (xs : List Act) → xs ≡ [] → (if test then xs else []) ≡ []
none_by true xs is = is
none_by false xs is = refl

quiet_watched : (watch : Watch) (act : Act) → is_quiet act ≡ true → watch_after watch act ≡ watch
quiet_watched watch (acts.Reads Entry event) is = absurd (false≢true is)
quiet_watched watch (acts.Deed (deeds.Starts id)) is = absurd (false≢true is)
quiet_watched watch (acts.Deed (deeds.Settles id)) is = absurd (false≢true is)
quiet_watched watch (acts.Deed (deeds.Drops id)) is = absurd (false≢true is)
quiet_watched watch (acts.Sets (settings.Supervise on)) is = absurd (false≢true is)
quiet_watched watch _ is = refl

quiet_by : (id machine : ℕ) (act : Act) (told : Told) → is_quiet act ≡ true
    → with_happening id (happenings.Done machine act) told ≡ told
quiet_by id machine (acts.Tells message) told is = absurd (false≢true is)
quiet_by id machine (acts.Gives other to) told is = absurd (false≢true is)
quiet_by id machine (acts.Gets other) told is = absurd (false≢true is)
quiet_by id machine _ told is = refl

quiet_gap : (gap id machine : ℕ) (act : Act) (left : Bool) → is_quiet act ≡ true
    → since_with gap id (happenings.Done machine act) left ≡ left
quiet_gap gap id machine (acts.Deed (deeds.Leaves other)) left is = absurd (false≢true is)
quiet_gap gap id machine (acts.Deed (deeds.Starts other)) left is = absurd (false≢true is)
quiet_gap gap id machine _ left is = refl

quiet_hand_out : (id : ℕ) (act : Act) → is_quiet act ≡ true → takes_out id act ≡ false
quiet_hand_out id (acts.Removes other) is = absurd (false≢true is)
quiet_hand_out id (acts.Replaces old new) is = absurd (false≢true is)
quiet_hand_out id (acts.Gives other to) is = absurd (false≢true is)
quiet_hand_out id _ is = refl

quiet_hand_in : (id : ℕ) (act : Act) → is_quiet act ≡ true → brings_in id act ≡ false
quiet_hand_in id (acts.Inserts other) is = absurd (false≢true is)
quiet_hand_in id (acts.Replaces old new) is = absurd (false≢true is)
quiet_hand_in id (acts.Gets other) is = absurd (false≢true is)
quiet_hand_in id _ is = refl

-- ---- many of them

pub quiet_watch : (watch : Watch) (made : List Act) → list_all is_quiet made ≡ true
    → watch_behind watch made ≡ watch
quiet_watch watch [] all = refl
quiet_watch watch (act ∷ made) all =
    let parts = and_parts (is_quiet act) (list_all is_quiet made) all in
    ap (λ (w : Watch). watch_behind w made) (quiet_watched watch act parts.0)
    ∙ quiet_watch watch made parts.1

pub quiet_tells : (desk : Desk) (watch : Watch) (made : List Act) → list_all is_quiet made ≡ true
    → with_tells desk watch made ≡ made
quiet_tells desk watch [] all = refl
quiet_tells desk watch (act ∷ made) all =
    let parts = and_parts (is_quiet act) (list_all is_quiet made) all in
    let all_none : tells_of desk watch.seen act ≡ [] = quiet_none desk watch.seen act parts.0 in
    let none : tells_behind desk watch act ≡ [] =
    none_by watch.supervised (tells_of desk watch.seen act) all_none in
    ap (λ (xs : List Act). act ∷ (xs ++ with_tells desk (watch_after watch act) made)) none
    ∙ ap (λ (xs : List Act). act ∷ xs) (quiet_tells desk (watch_after watch act) made parts.1)

pub quiet_told : (id machine : ℕ) (made : List Act) (told : Told) → list_all is_quiet made ≡ true
    → told_acts id machine made told ≡ told
quiet_told id machine [] told all = refl
quiet_told id machine (act ∷ made) told all =
    let parts = and_parts (is_quiet act) (list_all is_quiet made) all in
    ap (λ (t : Told). told_acts id machine made t) (quiet_by id machine act told parts.0)
    ∙ quiet_told id machine made told parts.1

pub quiet_left : (gap id machine : ℕ) (made : List Act) (left : Bool)
    → list_all is_quiet made ≡ true → left_acts gap id machine made left ≡ left
quiet_left gap id machine [] left all = refl
quiet_left gap id machine (act ∷ made) left all =
    let parts = and_parts (is_quiet act) (list_all is_quiet made) all in
    ap (λ (b : Bool). left_acts gap id machine made b) (quiet_gap gap id machine act left parts.0)
    ∙ quiet_left gap id machine made left parts.1

-- a test that passes no quiet act, and no deed of an intake
pub record PassesNoQuiet (p : Act → Bool) : Type 0 where
  pub quiet : (act : Act) → is_quiet act ≡ true → p act ≡ false
  pub starts : (id : ℕ) → p (acts.Deed (deeds.Starts id)) ≡ false
  pub settles : (id : ℕ) → p (acts.Deed (deeds.Settles id)) ≡ false
  pub drops : (id : ℕ) → p (acts.Deed (deeds.Drops id)) ≡ false

pub quiet_out : (id : ℕ) → PassesNoQuiet (takes_out id)
quiet_out id = record {
  quiet = quiet_hand_out id;
  starts = λ x. refl;
  settles = λ x. refl;
  drops = λ x. refl;
}

pub quiet_in : (id : ℕ) → PassesNoQuiet (brings_in id)
quiet_in id = record {
  quiet = quiet_hand_in id;
  starts = λ x. refl;
  settles = λ x. refl;
  drops = λ x. refl;
}

pub none_quiet : {p : Act → Bool} → PassesNoQuiet p → (made : List Act)
    → list_all is_quiet made ≡ true → list_any p made ≡ false
none_quiet none [] all = refl
none_quiet {p} none (act ∷ made) all =
    let parts = and_parts (is_quiet act) (list_all is_quiet made) all in
    or_from (p act) (list_any p made) (none.quiet act parts.0) (none_quiet none made parts.1)

-- ---- what acts say of a board

pub says_none : (id j : ℕ) → Says id j [] (λ told. told)
says_none id j = record { told = λ told. refl; left = λ gap left. refl }

pub says_both : {f g : Told → Told} (id j : ℕ) (first second : List Act) → Says id j first f
    → Says id j second g → Says id j (first ++ second) (λ told. g (f told))
says_both {f = f} id j first second one two = record {
  told = λ told. told_append id (j + 1) first second told
      ∙ ap (told_acts id (j + 1) second) (one.told told) ∙ two.told (f told);
  left = λ gap left. left_append gap id (j + 1) first second left
      ∙ ap (left_acts gap id (j + 1) second) (one.left gap left) ∙ two.left gap left;
}

pub says_quiet : (id j : ℕ) (made : List Act) → list_all is_quiet made ≡ true
    → Says id j made (λ told. told)
says_quiet id j made all = record {
  told = λ told. quiet_told id (j + 1) made told all;
  left = λ gap left. quiet_left gap id (j + 1) made left all;
}

-- ---- a deed, and quiet acts behind it

-- the watch of a machine that is supervised
abbrev pub watching : Option Seen → Watch
watching seen = record { supervised = true; seen = seen }

-- what is told of a deed
abbrev pub told_deed : ℕ → ℕ → Option Seen → Deed → Told → Told
told_deed id machine seen (deeds.Settles other) told =
    if other == id then record told { place = At machine } else told
told_deed id machine seen (deeds.Leaves other) told =
    if other == id then departs machine Transferred told else told
told_deed id machine seen (deeds.Loses other) told =
    if other == id then departs machine ByHand told else told
told_deed id machine seen (deeds.Drops other) told =
    if saw_taken seen then (if other == id then departs machine ByHand told else told) else told
told_deed id machine seen _ told = told

dropped_told : (id machine other : ℕ) (desk : Desk) (test : Bool) (told : Told)
    → told_acts id machine (if test then departing desk ByHand other ∷ [] else []) told
    ≡ (if test then (if other == id then departs machine ByHand told else told) else told)
dropped_told id machine other desk true told = refl
dropped_told id machine other desk false told = refl

dropped_left : (gap id machine other : ℕ) (desk : Desk) (test left : Bool)
    → left_acts gap id machine (if test then departing desk ByHand other ∷ [] else []) left ≡ left
dropped_left gap id machine other desk true left = refl
dropped_left gap id machine other desk false left = refl

one_told : (id machine : ℕ) (desk : Desk) (seen : Option Seen) (deed : Deed) (told : Told)
    → told_acts id machine (tells_deed desk seen deed) told ≡ told_deed id machine seen deed told
one_told id machine desk seen (deeds.Drops other) told =
    dropped_told id machine other desk (saw_taken seen) told
one_told id machine desk seen _ told = refl

one_left : (gap id machine : ℕ) (desk : Desk) (seen : Option Seen) (deed : Deed) (left : Bool)
    → left_acts gap id machine (tells_deed desk seen deed) left ≡ left
one_left gap id machine desk seen (deeds.Drops other) left =
    dropped_left gap id machine other desk (saw_taken seen) left
one_left gap id machine desk seen _ left = refl

-- the acts, with what is told
pub deed_tells : (desk : Desk) (seen : Option Seen) (deed : Deed) (more : List Act)
    → list_all is_quiet more ≡ true
    → with_tells desk (watching seen) (acts.Deed deed ∷ more)
    ≡ acts.Deed deed ∷ (tells_deed desk seen deed ++ more)
deed_tells desk seen deed more all =
    ap (λ (xs : List Act). acts.Deed deed ∷ (tells_deed desk seen deed ++ xs))
    (quiet_tells desk (watch_after (watching seen) (acts.Deed deed)) more all)

pub deed_watch : (watch : Watch) (deed : Deed) (more : List Act) → list_all is_quiet more ≡ true
    → watch_behind watch (acts.Deed deed ∷ more) ≡ watch_after watch (acts.Deed deed)
deed_watch watch deed more all = quiet_watch (watch_after watch (acts.Deed deed)) more all

pub deed_told : (id machine : ℕ) (desk : Desk) (seen : Option Seen) (deed : Deed) (more : List Act)
    (told : Told) → list_all is_quiet more ≡ true
    → told_acts id machine (with_tells desk (watching seen) (acts.Deed deed ∷ more)) told
    ≡ told_deed id machine seen deed told
deed_told id machine desk seen deed more told all =
    let now : Told = told_acts id machine (tells_deed desk seen deed) told in
    ap (λ (xs : List Act). told_acts id machine xs told) (deed_tells desk seen deed more all)
    ∙ told_append id machine (tells_deed desk seen deed) more told
    ∙ quiet_told id machine more now all
    ∙ one_told id machine desk seen deed told

pub deed_left : (gap id machine : ℕ) (desk : Desk) (seen : Option Seen) (deed : Deed)
    (more : List Act) (left : Bool) → list_all is_quiet more ≡ true
    → left_acts gap id machine (with_tells desk (watching seen) (acts.Deed deed ∷ more)) left
    ≡ since_by_deed gap id machine deed left
deed_left gap id machine desk seen deed more left all =
    let now : Bool = since_by_deed gap id machine deed left in
    ap (λ (xs : List Act). left_acts gap id machine xs left) (deed_tells desk seen deed more all)
    ∙ left_append gap id machine (tells_deed desk seen deed) more now
    ∙ quiet_left gap id machine more (left_acts gap id machine (tells_deed desk seen deed) now) all
    ∙ one_left gap id machine desk seen deed now

-- what they say, where it is a deed of which nobody says that it left or was started
pub deed_says : {f : Told → Told} (id j : ℕ) (desk : Desk) (seen : Option Seen) (deed : Deed)
    (more : List Act) → list_all is_quiet more ≡ true
    → ((told : Told) → told_deed id (j + 1) seen deed told ≡ f told)
    → ((gap : ℕ) (left : Bool) → since_by_deed gap id (j + 1) deed left ≡ left)
    → Says id j (with_tells desk (watching seen) (acts.Deed deed ∷ more)) f
deed_says id j desk seen deed more all tells keeps = record {
  told = λ told. deed_told id (j + 1) desk seen deed more told all ∙ tells told;
  left = λ gap left. deed_left gap id (j + 1) desk seen deed more left all ∙ keeps gap left;
}

-- quiet acts, with what is told
pub says_tells : (id j : ℕ) (desk : Desk) (watch : Watch) (made : List Act)
    → list_all is_quiet made ≡ true → Says id j (with_tells desk watch made) (λ told. told)
says_tells id j desk watch made all =
    subst (λ (xs : List Act). Says id j xs (λ told. told)) (sym (quiet_tells desk watch made all))
    (says_quiet id j made all)

-- it reads an event first
pub says_reads : {f : Told → Told} (id j : ℕ) (side : Side) (event : SensorEvent) (made : List Act)
    → Says id j made f → Says id j (acts.Reads side event ∷ made) f
says_reads id j side event made says = record { told = says.told; left = says.left }

-- ---- that a board left, behind and before acts that say nothing

pub left_then : (id j : ℕ) (first second : List Act) → SaysLeft id j first
    → Says id j second (λ told. told) → SaysLeft id j (first ++ second)
left_then id j first second one two = record {
  told = λ told. told_append id (j + 1) first second told
      ∙ two.told (told_acts id (j + 1) first told) ∙ one.told told;
  left = λ left. left_append (j + 1) id (j + 1) first second left
      ∙ two.left (j + 1) (left_acts (j + 1) id (j + 1) first left) ∙ one.left left;
  others = λ gap left apart. left_append gap id (j + 1) first second left
      ∙ two.left gap (left_acts gap id (j + 1) first left) ∙ one.others gap left apart;
}

pub then_left : (id j : ℕ) (first second : List Act) → Says id j first (λ told. told)
    → SaysLeft id j second → SaysLeft id j (first ++ second)
then_left id j first second one two = record {
  told = λ told. told_append id (j + 1) first second told
      ∙ ap (told_acts id (j + 1) second) (one.told told) ∙ two.told told;
  left = λ left. left_append (j + 1) id (j + 1) first second left
      ∙ ap (left_acts (j + 1) id (j + 1) second) (one.left (j + 1) left) ∙ two.left left;
  others = λ gap left apart. left_append gap id (j + 1) first second left
      ∙ ap (left_acts gap id (j + 1) second) (one.left gap left) ∙ two.others gap left apart;
}

-- ---- what a half says, and its drive

pub entry_quiet : (desk : Desk) (send : Option InSend) (drive : Option Bool)
    → list_all is_quiet (in_sends desk send ++ drives Entry drive) ≡ true
entry_quiet desk None None = refl
entry_quiet desk None (Some on) = refl
entry_quiet desk (Some send) None = refl
entry_quiet desk (Some send) (Some on) = refl

drive_quiet : (drive : Option Bool) → list_all is_quiet (drives Exit drive) ≡ true
drive_quiet None = refl
drive_quiet (Some on) = refl

offer_quiet : (desk : Desk) (found : Option Record) (drive : Option Bool)
    → list_all is_quiet (offers desk found ++ drives Exit drive) ≡ true
offer_quiet desk None drive = drive_quiet drive
offer_quiet desk (Some board) drive = drive_quiet drive

pub exit_quiet : (desk : Desk) (kept : List Record) (send : Option OutSend) (drive : Option Bool)
    → list_all is_quiet (out_sends desk kept send ++ drives Exit drive) ≡ true
exit_quiet desk kept None drive = drive_quiet drive
exit_quiet desk kept (Some out_send.BoardAvailable) drive =
    offer_quiet desk (slice_get kept 0) drive
exit_quiet desk kept (Some out_send.RevokeBoardAvailable) drive = drive_quiet drive
exit_quiet desk kept (Some (out_send.Finished state id)) drive = drive_quiet drive

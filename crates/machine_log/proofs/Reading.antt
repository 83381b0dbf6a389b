-- What a log tells is what is read off it, line by line.
use Rattle.std.proofs.Common.{◌≡◌, ◌∙◌, sym, ap, refl, ℕ, ◌<◌, ◌^◌, ◌==◌, Bool, true, false, not, List, [], ◌∷◌, ◌++◌, codes, decimal, append_assoc, append-nil, if◌then◌else◌}
use Rattle.std.proofs.lemmas.Bool.{and_parts, not-true}
use Rattle.std.specs.List.{AllByRecursion, list_all}
use Rattle.line_base.specs.declared.states.Side.{Side}
use Rattle.line_base.specs.declared.states.Side.TheVariants.{Entry, Exit}
use Rattle.board_record.specs.BoardId.{id_text}
use Rattle.board_record.proofs.IdTexts.{read_id-id_text}
use Rattle.hermes_vertical.specs.declared.message.Vertical.{Vertical}
use Rattle.hermes_vertical.specs.declared.message.Vertical.TheVariants as verticals
use Rattle.line_report.specs.Texts.{act_text, told_text}
use Rattle.node_core.specs.Own.{Own, own_after, own_act, own_deed}
use Rattle.node_core.specs.declared.act.Act.{Act}
use Rattle.node_core.specs.declared.act.Act.TheVariants as acts
use Rattle.node_core.specs.declared.act.Deed.{Deed}
use Rattle.node_core.specs.declared.act.Deed.TheVariants as deeds
use Rattle.node_core.specs.declared.act.Setting.TheVariants as settings
use Rattle.machine_log.specs.Account.{before_blank, behind_blank, id_found, id_in, act_in, own_told, own_line, own_behind, id_of_deed, IsProperAct}
use Rattle.machine_log.specs.declared.drives.Drives.{Drives}
use Rattle.machine_log.specs.Texts.{log_line, line_of, lines_of, drive_line, drive_text, drives_lines, deed_text, gets_text, gives_text}
use Rattle.machine_log.proofs.Solid.{is_inner, is_solid, solid_decimal, inner_decimal, solid_id}
use Rattle.machine_log.proofs.Inner.{inner, spaced, inner_act, inner_board, inner_deed, inner_drive}

-- ---- a line

line_read : (line text rest : List ℕ) (own : Own) → inner text → own_behind line (text ++ (10 ∷ rest)) own ≡ own_behind [] rest (own_line (line ++ text) own)
line_read line [] rest own h = ap (λ l. own_behind [] rest (own_line l own)) (sym (append-nil line))
line_read line (b ∷ text) rest own h =
    let parts = and_parts (is_inner b) (list_all is_inner text) h in
    ap (λ (t : Bool). if t then own_behind [] (text ++ (10 ∷ rest)) (own_line line own) else own_behind (line ++ (b ∷ [])) (text ++ (10 ∷ rest)) own) (not-true (b == 10) parts.0)
    ∙ line_read (line ++ (b ∷ [])) text rest own parts.1
    ∙ ap (λ l. own_behind [] rest (own_line l own)) (append_assoc line (b ∷ []) text)

not_blank : (b : ℕ) → is_solid b ≡ true → (b == 32) ≡ false
not_blank b h = not-true (b == 32) (and_parts (not (b == 10)) (not (b == 32)) h).1

behind_solid : (a b : List ℕ) → list_all is_solid a ≡ true → behind_blank (a ++ (32 ∷ b)) ≡ b
behind_solid [] b h = refl
behind_solid (c ∷ a) b h =
    let parts = and_parts (is_solid c) (list_all is_solid a) h in
    ap (λ (t : Bool). if t then a ++ (32 ∷ b) else behind_blank (a ++ (32 ∷ b))) (not_blank c parts.0) ∙ behind_solid a b parts.1

before_solid : (a b : List ℕ) → list_all is_solid a ≡ true → before_blank (a ++ (32 ∷ b)) ≡ a
before_solid [] b h = refl
before_solid (c ∷ a) b h =
    let parts = and_parts (is_solid c) (list_all is_solid a) h in
    ap (λ (t : Bool). if t then [] else c ∷ before_blank (a ++ (32 ∷ b))) (not_blank c parts.0) ∙ ap (λ l. c ∷ l) (before_solid a b parts.1)

-- the same of texts with a blank between
behind_word : (a b : List ℕ) → list_all is_solid a ≡ true → behind_blank (a ++ codes " " ++ b) ≡ b
behind_word a b h = ap behind_blank (append_assoc a (codes " ") b) ∙ behind_solid a b h

before_word : (a b : List ℕ) → list_all is_solid a ≡ true → before_blank (a ++ codes " " ++ b) ≡ a
before_word a b h = ap before_blank (append_assoc a (codes " ") b) ∙ before_solid a b h

-- a line does what the act does that its text tells
pub log_read : (turn : ℕ) (text rest : List ℕ) (own : Own) → inner text → own_behind [] (log_line turn text ++ rest) own ≡ own_behind [] rest (own_told (act_in text) own)
log_read turn text rest own h =
    ap (λ bytes. own_behind [] bytes own) (append_assoc (decimal turn ++ codes " " ++ text) (codes "\n") rest)
    ∙ line_read [] (decimal turn ++ codes " " ++ text) rest own (spaced (decimal turn) text (inner_decimal turn) h)
    ∙ ap (λ t. own_behind [] rest (own_told (act_in t) own)) (behind_word (decimal turn) text (solid_decimal turn))

-- ---- acts

id_read : (id : ℕ) → id < 2 ^ 128 → id_in (id_text id) ≡ id
id_read id fits = ap id_found (read_id-id_text id fits)

told_deed : (deed : Deed) (own : Own) → id_of_deed deed < 2 ^ 128 → own_told (act_in (deed_text deed)) own ≡ own_act own (acts.Deed deed)
told_deed (deeds.Opens id) own fits = ap (λ i. own_deed own (deeds.Opens i)) (id_read id fits)
told_deed (deeds.Starts id) own fits = ap (λ i. own_deed own (deeds.Starts i)) (id_read id fits)
told_deed _ own fits = refl

-- the id behind a machine's number
behind_number : (machine id : ℕ) → id < 2 ^ 128 → id_in (behind_blank (decimal machine ++ codes " " ++ id_text id)) ≡ id
behind_number machine id fits = ap id_in (behind_word (decimal machine) (id_text id) (solid_decimal machine)) ∙ id_read id fits

-- two ids behind a machine's number
two_behind : (number old new : List ℕ) → list_all is_solid number ≡ true → behind_blank (number ++ codes " " ++ old ++ codes " " ++ new) ≡ old ++ codes " " ++ new
two_behind number old new solid =
    ap behind_blank (ap (λ l. l ++ new) (append_assoc (number ++ codes " ") old (codes " ")) ∙ append_assoc (number ++ codes " ") (old ++ codes " ") new)
    ∙ behind_word number (old ++ codes " " ++ new) solid

told_replaced : (machine old new : ℕ) (own : Own) → old < 2 ^ 128 → new < 2 ^ 128 → own_told (act_in (act_text machine (acts.Replaces old new))) own ≡ own_act own (acts.Replaces old new)
told_replaced machine old new own fits fits' =
    ap (λ l. own_act own (acts.Replaces (id_in (before_blank l)) (id_in (behind_blank l)))) (two_behind (decimal machine) (id_text old) (id_text new) (solid_decimal machine))
    ∙ ap (λ l. own_act own (acts.Replaces (id_in l) (id_in (behind_blank (id_text old ++ codes " " ++ id_text new))))) (before_word (id_text old) (id_text new) (solid_id old))
    ∙ ap (λ l. own_act own (acts.Replaces (id_in (id_text old)) (id_in l))) (behind_word (id_text old) (id_text new) (solid_id old))
    ∙ ap (λ i. own_act own (acts.Replaces i (id_in (id_text new)))) (id_read old fits)
    ∙ ap (λ i. own_act own (acts.Replaces old i)) (id_read new fits')

-- the line of an act whose text tells it
told_line : (turn machine : ℕ) (act : Act) (rest : List ℕ) (own : Own) → IsProperAct act → own_told (act_in (act_text machine act)) own ≡ own_act own act → own_behind [] (log_line turn (act_text machine act) ++ rest) own ≡ own_behind [] rest (own_act own act)
told_line turn machine act rest own proper e = log_read turn (act_text machine act) rest own (inner_act machine act proper) ∙ ap (own_behind [] rest) e

-- what the supervisor is told tells nothing of it
told_no_own : (machine : ℕ) (body : Vertical) (own : Own) → own_told (act_in (told_text machine body)) own ≡ own
told_no_own machine (verticals.BoardArrived passage) own = refl
told_no_own machine (verticals.BoardDeparted passage) own = refl
told_no_own machine (verticals.QueryWorkOrderInfo query question) own = refl
told_no_own machine (verticals.SupervisoryServiceDescription system) own = refl
told_no_own machine (verticals.SendWorkOrderInfo query order batch product) own = refl
told_no_own machine (verticals.CheckAlive ping id) own = refl
told_no_own machine (verticals.Notification code severity text) own = refl
told_no_own machine (verticals.Other name) own = refl

-- that of a drive, which tells nothing of it
drive_read : (turn machine : ℕ) (side : Side) (on : Bool) (rest : List ℕ) (own : Own) → own_behind [] (drive_line turn machine side on ++ rest) own ≡ own_behind [] rest own
drive_read turn machine side on rest own = log_read turn (drive_text machine side on) rest own (inner_drive machine side on)

told_drive : (told : Bool) (turn machine : ℕ) (side : Side) (on : Bool) (rest : List ℕ) (own : Own) → own_behind [] (line_of told turn machine (acts.Drive side on) ++ rest) own ≡ own_behind [] rest own
told_drive true turn machine side on rest own = drive_read turn machine side on rest own
told_drive false turn machine side on rest own = refl

act_read : (told : Bool) (turn machine : ℕ) (act : Act) (rest : List ℕ) (own : Own) → IsProperAct act → own_behind [] (line_of told turn machine act ++ rest) own ≡ own_behind [] rest (own_act own act)
act_read told turn machine (acts.Deed deed) rest own proper = log_read turn (deed_text deed) rest own (inner_deed deed) ∙ ap (own_behind [] rest) (told_deed deed own proper)
act_read told turn machine (acts.Drive side on) rest own proper = told_drive told turn machine side on rest own
act_read told turn machine (acts.Inserts id) rest own proper = told_line turn machine (acts.Inserts id) rest own proper (ap (λ i. own_act own (acts.Inserts i)) (behind_number machine id proper))
act_read told turn machine (acts.Removes id) rest own proper = told_line turn machine (acts.Removes id) rest own proper (ap (λ i. own_act own (acts.Removes i)) (behind_number machine id proper))
act_read told turn machine (acts.Gives id to) rest own proper =
    log_read turn (gives_text machine id) rest own (inner_board (codes "gives") machine id refl)
    ∙ ap (λ i. own_behind [] rest (own_act own (acts.Removes i))) (behind_number machine id proper)
act_read told turn machine (acts.Gets id) rest own proper =
    log_read turn (gets_text machine id) rest own (inner_board (codes "gets") machine id refl)
    ∙ ap (λ i. own_behind [] rest (own_act own (acts.Inserts i))) (behind_number machine id proper)
act_read told turn machine (acts.Replaces old new) rest own proper = told_line turn machine (acts.Replaces old new) rest own proper (told_replaced machine old new own proper.0 proper.1)
act_read told turn machine (acts.Sets (settings.Will side true)) rest own proper = told_line turn machine (acts.Sets (settings.Will side true)) rest own proper refl
act_read told turn machine (acts.Tells message) rest own proper = told_line turn machine (acts.Tells message) rest own proper (told_no_own machine message.body own)
act_read told turn machine act rest own proper = told_line turn machine act rest own proper refl

pub acts_read : (told : Bool) (turn machine : ℕ) (acts : List Act) (rest : List ℕ) (own : Own) → AllByRecursion IsProperAct acts → own_behind [] (lines_of told turn machine acts ++ rest) own ≡ own_behind [] rest (own_after own acts)
acts_read told turn machine [] rest own proper = refl
acts_read told turn machine (act ∷ acts) rest own proper =
    ap (λ bytes. own_behind [] bytes own) (append_assoc (line_of told turn machine act) (lines_of told turn machine acts) rest)
    ∙ act_read told turn machine act (lines_of told turn machine acts ++ rest) own proper.0
    ∙ acts_read told turn machine acts rest (own_act own act) proper.1

-- of the lines of what each drive is nothing is read
pub drives_read : (told : Bool) (turn machine : ℕ) (drives : Drives) (rest : List ℕ) (own : Own) → own_behind [] (drives_lines told turn machine drives ++ rest) own ≡ own_behind [] rest own
drives_read true turn machine drives rest own =
    ap (λ bytes. own_behind [] bytes own) (append_assoc (drive_line turn machine Entry drives.entry) (drive_line turn machine Exit drives.exit) rest)
    ∙ drive_read turn machine Entry drives.entry (drive_line turn machine Exit drives.exit ++ rest) own
    ∙ drive_read turn machine Exit drives.exit rest own
drives_read false turn machine drives rest own = refl

-- WHAT A MERGED LOG'S LINE SAYS: the deed of its act, or nothing.
use Rattle.std.proofs.Common.{◌≡◌, ◌∙◌, refl, ap, ℕ, Bool, ◌-◌, ◌<◌, ◌≤◌, ◌^◌, true, false, List, [], ◌∷◌, ◌++◌, Option, Some, None, append_assoc, arith, codes, decimal}
use Rattle.std.specs.Prelude.{nat_lt, option_map}
use Rattle.std.specs.List.{AllByRecursion}
use Rattle.std.proofs.lemmas.Bool.{lt-ltb}
use Rattle.board_record.specs.BoardId.{id_text}
use Rattle.board_record.proofs.IdTexts.{id_bytes, read_id-id_text}
use Rattle.hermes_vertical.specs.declared.message.Vertical.{Vertical}
use Rattle.hermes_vertical.specs.declared.message.Vertical.TheVariants as verticals
use Rattle.node_core.specs.declared.act.Act.{Act}
use Rattle.node_core.specs.declared.act.Act.TheVariants as acts
use Rattle.node_core.specs.declared.act.Deed.{Deed as OwnDeed}
use Rattle.node_core.specs.declared.act.Deed.TheVariants as own_deeds
use Rattle.node_core.specs.declared.act.Setting.{Setting}
use Rattle.node_core.specs.declared.act.Setting.TheVariants as settings
use Rattle.line_report.specs.Texts.{setting_text, told_text}
use Rattle.machine_log.specs.Account.{IsProperAct, id_of_deed}
use Rattle.machine_log.specs.Texts.{deed_text}
use Rattle.standings.specs.declared.deed.Deed.{Deed}
use Rattle.standings.specs.declared.deed.Deed.TheVariants as deeds
use Rattle.line_check.specs.declared.group.Group.{Group}
use Rattle.line_check.specs.declared.kind.EntryDeed.{EntryDeed}
use Rattle.line_check.specs.declared.kind.EntryDeed.TheVariants as entries
use Rattle.line_check.specs.declared.kind.ExitDeed.{ExitDeed}
use Rattle.line_check.specs.declared.kind.ExitDeed.TheVariants as exits
use Rattle.line_check.specs.declared.kind.Kind.{Kind}
use Rattle.line_check.specs.declared.kind.Kind.TheVariants as kinds
use Rattle.line_check.specs.declared.reading.Reading.{Reading}
use Rattle.line_check.specs.declared.reading.Reading.TheVariants.{Does, Nothing}
use Rattle.line_check.specs.LogLine.{deed_in, deed_of, does, entry_deed, exit_deed, id_at_number, id_in, id_of, id_where, kind_of, reading_by, reading_of, replaced, replaced_in, said_by, said_in}
use Rattle.line_check.specs.Words.{cut_at_space, first_word}
use Rattle.law_one_standing.specs.Replay.{deeds_at, deeds_at_side}
use Rattle.law_running_logs.specs.Told.{IsAtGap, StaysInLane}
use Rattle.law_running_logs.specs.Merged.{CanBeNamed, merged_line, text_of}
use Rattle.law_running_logs.proofs.LineTexts.{cut_spaced, group_is, number_bytes, number_is, text_is}

-- the reading that has these deeds, of which there is one at most
abbrev pub reading_with : List Deed → Reading
reading_with [] = Nothing
reading_with (deed ∷ others) = Does deed

-- ---- deeds at a gap

id_read : (id : ℕ) → id < 2 ^ 128 → id_of (id_text id) ≡ Some id
id_read id fits = ap id_in (read_id-id_text id fits)

exit_read : (kind : ExitDeed) (machine id : ℕ) → id < 2 ^ 128 → does (option_map (exit_deed kind machine) (id_of (id_text id))) ≡ Does (exit_deed kind machine id)
exit_read kind machine id fits = ap (λ (o : Option ℕ). does (option_map (exit_deed kind machine) o)) (id_read id fits)

entry_read : (kind : EntryDeed) (machine id : ℕ) → id < 2 ^ 128 → 1 ≤ machine - 1 → does (option_map (entry_deed kind (machine - 1)) (id_where (nat_lt 1 machine) (id_of (id_text id)))) ≡ Does (entry_deed kind (machine - 1) id)
entry_read kind machine id fits far =
    let above : nat_lt 1 machine ≡ true = lt-ltb 1 machine (omega (arith, far)) in
    ap (λ (b : Bool). does (option_map (entry_deed kind (machine - 1)) (id_where b (id_of (id_text id))))) above
    ∙ ap (λ (o : Option ℕ). does (option_map (entry_deed kind (machine - 1)) o)) (id_read id fits)

deed_reads : (machine : ℕ) (deed : OwnDeed) → id_of_deed deed < 2 ^ 128 → AllByRecursion IsAtGap (deeds_at_side machine deed) → reading_of machine (deed_text deed) ≡ reading_with (deeds_at_side machine deed)
deed_reads machine (own_deeds.Opens id) fits gaps = exit_read exits.Opens machine id fits
deed_reads machine (own_deeds.Refuses id) fits gaps = refl
deed_reads machine (own_deeds.Leaves id) fits gaps = exit_read exits.Leaves machine id fits
deed_reads machine (own_deeds.Returns id) fits gaps = exit_read exits.Returns machine id fits
deed_reads machine (own_deeds.Loses id) fits gaps = exit_read exits.Loses machine id fits
deed_reads machine (own_deeds.Starts id) fits gaps = entry_read entries.Starts machine id fits gaps.0
deed_reads machine (own_deeds.Settles id) fits gaps = entry_read entries.Settles machine id fits gaps.0
deed_reads machine (own_deeds.Drops id) fits gaps = entry_read entries.Drops machine id fits gaps.0

-- ---- deeds by hand, behind the number that the machine has in its own log

hand_read : (kind : Kind) (machine number : ℕ) (rest : List ℕ) → number < 2 ^ 32 → does (deed_in kind machine (cut_at_space (decimal number ++ codes " " ++ rest))) ≡ does (deed_of kind machine (decimal number) rest)
hand_read kind machine number rest short = ap (λ (o : Option (List ℕ × List ℕ)). does (deed_in kind machine o)) (cut_spaced (decimal number) rest (number_bytes number (omega (arith, short))))

one_read : (deed : ℕ → Deed) (number id : ℕ) → number < 2 ^ 32 → id < 2 ^ 128 → does (option_map deed (id_at_number (decimal number) (id_text id))) ≡ Does (deed id)
one_read deed number id short fits =
    ap (λ (b : Bool). does (option_map deed (id_where b (id_of (id_text id))))) (number_is number short)
    ∙ ap (λ (o : Option ℕ). does (option_map deed o)) (id_read id fits)

replaces_read : (machine number old new : ℕ) → number < 2 ^ 32 → old < 2 ^ 128 → new < 2 ^ 128 → does (deed_of kinds.Replaces machine (decimal number) (id_text old ++ codes " " ++ id_text new)) ≡ Does (deeds.Replaces machine old new)
replaces_read machine number old new short fits little =
    ap (λ (o : Option (List ℕ × List ℕ)). does (replaced_in machine (decimal number) o)) (cut_spaced (id_text old) (id_text new) (id_bytes old))
    ∙ ap (λ (b : Bool). does (replaced machine (id_where b (id_of (id_text old))) (id_of (id_text new)))) (number_is number short)
    ∙ ap (λ (o : Option ℕ). does (replaced machine o (id_of (id_text new)))) (id_read old fits)
    ∙ ap (λ (o : Option ℕ). does (replaced machine (Some old) o)) (id_read new little)

-- the words behind the number, one after the other
regrouped : (number old new : List ℕ) → number ++ codes " " ++ old ++ codes " " ++ new ≡ number ++ codes " " ++ (old ++ codes " " ++ new)
regrouped number old new = ap (λ l. l ++ new) (append_assoc (number ++ codes " ") old (codes " ")) ∙ append_assoc (number ++ codes " ") (old ++ codes " ") new

-- ---- all others

told_reads : (machine number : ℕ) (body : Vertical) → reading_of machine (told_text number body) ≡ Nothing
told_reads machine number (verticals.BoardArrived passage) = refl
told_reads machine number (verticals.BoardDeparted passage) = refl
told_reads machine number (verticals.QueryWorkOrderInfo query question) = refl
told_reads machine number (verticals.SupervisoryServiceDescription system) = refl
told_reads machine number (verticals.SendWorkOrderInfo query order batch product) = refl
told_reads machine number (verticals.CheckAlive ping id) = refl
told_reads machine number (verticals.Notification code severity text) = refl
told_reads machine number (verticals.Other name) = refl

setting_reads : (machine number : ℕ) (setting : Setting) → reading_of machine (setting_text number setting) ≡ Nothing
setting_reads machine number (settings.Will side true) = refl
setting_reads machine number (settings.Will side false) = refl
setting_reads machine number (settings.Level line on) = refl
setting_reads machine number (settings.Supervise on) = refl

-- what a text says that tells no deed
pub nothing_read : (machine : ℕ) (text : List ℕ) → kind_of (first_word text) ≡ None → reading_of machine text ≡ Nothing
nothing_read machine text none = ap (λ (kind : Option Kind). reading_by kind machine text) none

act_reads : (machine number : ℕ) (act : Act) → number < 2 ^ 32 → IsProperAct act → StaysInLane act → AllByRecursion IsAtGap (deeds_at machine act) → reading_of machine (text_of number act) ≡ reading_with (deeds_at machine act)
act_reads machine number (acts.Deed deed) short proper lane gaps = deed_reads machine deed proper gaps
act_reads machine number (acts.Inserts id) short proper lane gaps = hand_read kinds.Inserts machine number (id_text id) short ∙ one_read (deeds.Inserts machine) number id short proper
act_reads machine number (acts.Removes id) short proper lane gaps = hand_read kinds.Removes machine number (id_text id) short ∙ one_read (deeds.Removes machine) number id short proper
act_reads machine number (acts.Replaces old new) short proper lane gaps =
    ap (λ (l : List ℕ). does (deed_in kinds.Replaces machine (cut_at_space l))) (regrouped (decimal number) (id_text old) (id_text new))
    ∙ hand_read kinds.Replaces machine number (id_text old ++ codes " " ++ id_text new) short
    ∙ replaces_read machine number old new short proper.0 proper.1
act_reads machine number (acts.Tells message) short proper lane gaps = told_reads machine number message.body
act_reads machine number (acts.Sets setting) short proper lane gaps = setting_reads machine number setting
act_reads machine number (acts.Gives id to) short proper lane gaps = absurd lane
act_reads machine number (acts.Gets id) short proper lane gaps = absurd lane
act_reads machine number _ short proper lane gaps = refl

-- ---- THE LINE

line_reads : (machine number turn : ℕ) (text : List ℕ) → CanBeNamed machine number turn → said_by (merged_line machine turn text) ≡ reading_of machine text
line_reads machine number turn text named =
    ap (λ (g : Option Group). said_in g (merged_line machine turn text)) (group_is machine number turn text named) ∙ ap (reading_of machine) (text_is machine number turn text named)

pub act_said : (machine number turn : ℕ) (act : Act) → CanBeNamed machine number turn → IsProperAct act → StaysInLane act → AllByRecursion IsAtGap (deeds_at machine act) → said_by (merged_line machine turn (text_of number act)) ≡ reading_with (deeds_at machine act)
act_said machine number turn act named proper lane gaps = line_reads machine number turn (text_of number act) named ∙ act_reads machine number act named.short proper lane gaps

pub nothing_said : (machine number turn : ℕ) (text : List ℕ) → CanBeNamed machine number turn → kind_of (first_word text) ≡ None → said_by (merged_line machine turn text) ≡ Nothing
nothing_said machine number turn text named none = line_reads machine number turn text named ∙ nothing_read machine text none

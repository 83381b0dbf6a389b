-- The deeds of a lane that a line tells are those of its happening, and it tells a lie where that is
-- one.
use Rattle.std.proofs.Common.{◌≡◌, ◌∙◌, ap, ℕ, ◌-◌, ◌<◌, ◌^◌, List, ◌++◌, Some, append_assoc, codes, refl, sym, ◌==◌, Bool, true, false, [], ◌∷◌, Option, append-nil, arith, option_to_list, if◌then◌else◌}
use Rattle.board_record.specs.BoardId.{id_text}
use Rattle.board_record.proofs.IdTexts.{read_id-id_text, id_bytes}
use Rattle.line_check.specs.LogLine.{id_in, id_of, entry_deed, exit_deed, replaced}
use Rattle.std.specs.Prelude.{option_map}
use Rattle.std.specs.List.{AllByRecursion}
use Rattle.hermes_vertical.specs.declared.message.Vertical.{Vertical}
use Rattle.hermes_vertical.specs.declared.message.Vertical.TheVariants as verticals
use Rattle.node_core.specs.declared.act.Act.{Act}
use Rattle.node_core.specs.declared.act.Act.TheVariants as acts
use Rattle.node_core.specs.declared.act.Deed.{Deed as OwnDeed}
use Rattle.node_core.specs.declared.act.Deed.TheVariants as own_deeds
use Rattle.node_core.specs.declared.act.Setting.{Setting}
use Rattle.node_core.specs.declared.act.Setting.TheVariants as settings
use Rattle.standings.specs.declared.deed.Deed.{Deed}
use Rattle.standings.specs.declared.deed.Deed.TheVariants as deeds
use Rattle.line_check.specs.declared.kind.EntryDeed.{EntryDeed}
use Rattle.line_check.specs.declared.kind.EntryDeed.TheVariants as entries
use Rattle.line_check.specs.declared.kind.ExitDeed.{ExitDeed}
use Rattle.line_check.specs.declared.kind.ExitDeed.TheVariants as exits
use Rattle.line_check.specs.declared.kind.Kind.{Kind}
use Rattle.line_check.specs.declared.kind.Kind.TheVariants as kinds
use Rattle.line_check.specs.Words.{cut_at_space}
use Rattle.line_report.specs.Texts.{act_on, deed_on, happening_on, place_text, setting_on, told_text}
use Rattle.line_report.specs.declared.happening.Happening.{Happening}
use Rattle.line_report.specs.declared.happening.Happening.TheVariants as happenings
use Rattle.line_report.specs.declared.happening.LaneHappening.{LaneHappening}
use Rattle.law_lanes.specs.Along.{happening_for, part_for, told_for}
use Rattle.line_step.specs.Lies.{is_lie}
use Rattle.machine_log.specs.Account.{IsProperAct, id_of_deed}
use Rattle.law_one_standing.specs.Replay.{deeds_at as deeds_of_act, deeds_at_side, deeds_in as deeds_of_one, deeds_of}
use Rattle.law_running_logs.proofs.LineTexts.{cut_spaced}
use Rattle.law_report_ledger.specs.Deeds.{deeds_in, done_on, lane_deeds_of, lane_deeds_told, moved, moved_from, moved_to}
use Rattle.law_report_ledger.specs.Places.{number_of}
use Rattle.law_report_lines.specs.Proper.{IsProperHappening, GoesToALane, IsProperOn}
use Rattle.law_report_ledger.specs.ReportLines.{deed_at, replaced_by, tells_lie}
use Rattle.law_report_ledger.proofs.Coming.{AreTold, IsNoComing}
use Rattle.law_report_ledger.proofs.Lines.{lines_told, text_of}
use Rattle.law_report_ledger.proofs.Words.{cut_solid, place_word, solid_place}

-- ---- a place, and an id behind it

pub id_read : (id : ℕ) → id < 2 ^ 128 → id_of (id_text id) ≡ Some id
id_read id fits = ap id_in (read_id-id_text id fits)

-- whether a place is of a lane, and its number
on_place : (lane own number : ℕ) (does : ℕ → List Deed) → own < 2 ^ 32 → number < 2 ^ 32
    → done_on lane (place_text own number) (does (number_of (place_text own number)))
    ≡ (if own == lane then does number else [])
on_place lane own number does few small =
    let word = place_word own number few small in
    ap (λ (l : ℕ). if l == lane then does (number_of (place_text own number)) else []) word.lane_is
    ∙ ap (λ (n : ℕ). if own == lane then does n else []) word.number_is

place_read : (lane own : ℕ) (kind : Kind) (number : ℕ) (rest : List ℕ) → own < 2 ^ 32
    → number < 2 ^ 32
    → deeds_in lane kind (cut_at_space ((place_text own number ++ codes " ") ++ rest))
    ≡ (if own == lane then option_to_list (deed_at kind number rest) else [])
place_read lane own kind number rest few small =
    ap (deeds_in lane kind) (cut_solid (place_text own number) rest (solid_place own number))
    ∙ on_place lane own number (λ n. option_to_list (deed_at kind n rest)) few small

exit_read : (lane own : ℕ) (kind : ExitDeed) (number id : ℕ) → own < 2 ^ 32 → number < 2 ^ 32
    → id < 2 ^ 128
    → deeds_in lane (kinds.AtExit kind) (cut_at_space ((place_text own number ++ codes " ") ++ id_text id))
    ≡ (if own == lane then exit_deed kind number id ∷ [] else [])
exit_read lane own kind number id few small fits =
    place_read lane own (kinds.AtExit kind) number (id_text id) few small
    ∙ ap (λ (o : Option ℕ). if own == lane
    then option_to_list (option_map (exit_deed kind number) o) else []) (id_read id fits)

entry_read : (lane own : ℕ) (kind : EntryDeed) (number id : ℕ) → own < 2 ^ 32 → number < 2 ^ 32
    → id < 2 ^ 128
    → deeds_in lane (kinds.AtEntry kind) (cut_at_space ((place_text own number ++ codes " ") ++ id_text id))
    ≡ (if own == lane then entry_deed kind number id ∷ [] else [])
entry_read lane own kind number id few small fits =
    place_read lane own (kinds.AtEntry kind) number (id_text id) few small
    ∙ ap (λ (o : Option ℕ). if own == lane
    then option_to_list (option_map (entry_deed kind number) o) else []) (id_read id fits)

-- nothing on whatever lane
abbrev no_deeds : List Deed
no_deeds = []

none_if : (here : Bool) → no_deeds ≡ (if here then [] else [])
none_if true = refl
none_if false = refl

-- what the deeds of one thing done are on a lane
abbrev if_here : ℕ → ℕ → List Deed → List Deed
if_here own lane all = if own == lane then all else []

deed_reads : (lane own machine : ℕ) (deed : OwnDeed) → own < 2 ^ 32 → machine < 2 ^ 32
    → id_of_deed deed < 2 ^ 128
    → lane_deeds_of lane (deed_on own machine deed) ≡ if_here own lane (deeds_at_side machine deed)
deed_reads lane own machine (own_deeds.Opens id) few small fits =
    exit_read lane own exits.Opens machine id few small fits
deed_reads lane own machine (own_deeds.Refuses id) few small fits = none_if (own == lane)
deed_reads lane own machine (own_deeds.Leaves id) few small fits =
    exit_read lane own exits.Leaves machine id few small fits
deed_reads lane own machine (own_deeds.Returns id) few small fits =
    exit_read lane own exits.Returns machine id few small fits
deed_reads lane own machine (own_deeds.Loses id) few small fits =
    exit_read lane own exits.Loses machine id few small fits
deed_reads lane own machine (own_deeds.Starts id) few small fits =
    entry_read lane own entries.Starts (machine - 1) id few (omega (arith, small)) fits
deed_reads lane own machine (own_deeds.Settles id) few small fits =
    entry_read lane own entries.Settles (machine - 1) id few (omega (arith, small)) fits
deed_reads lane own machine (own_deeds.Drops id) few small fits =
    entry_read lane own entries.Drops (machine - 1) id few (omega (arith, small)) fits

-- ---- what is done by hand

-- the words behind the number, one after the other
pub regrouped : (number old new : List ℕ) → number ++ codes " " ++ old ++ codes " " ++ new ≡ number ++ codes " " ++ (old ++ codes " " ++ new)
regrouped number old new = ap (λ l. l ++ new) (append_assoc (number ++ codes " ") old (codes " ")) ∙ append_assoc (number ++ codes " ") (old ++ codes " ") new

hand_read : (lane own : ℕ) (kind : Kind) (deed : ℕ → ℕ → Deed) (number id : ℕ) → own < 2 ^ 32
    → number < 2 ^ 32 → id < 2 ^ 128
    → deed_at kind number (id_text id) ≡ option_map (deed number) (id_of (id_text id))
    → deeds_in lane kind (cut_at_space ((place_text own number ++ codes " ") ++ id_text id))
    ≡ if_here own lane (deed number id ∷ [])
hand_read lane own kind deed number id few small fits is =
    place_read lane own kind number (id_text id) few small
    ∙ ap (λ (o : Option Deed). if_here own lane (option_to_list o)) is
    ∙ ap (λ (o : Option ℕ). if_here own lane (option_to_list (option_map (deed number) o)))
    (id_read id fits)

replaces_read : (lane own number old new : ℕ) → own < 2 ^ 32 → number < 2 ^ 32 → old < 2 ^ 128
    → new < 2 ^ 128
    → deeds_in lane kinds.Replaces (cut_at_space (place_text own number ++ codes " " ++ id_text old ++ codes " " ++ id_text new))
    ≡ if_here own lane (deeds.Replaces number old new ∷ [])
replaces_read lane own number old new few small fits little =
    let ids = id_text old ++ codes " " ++ id_text new in
    ap (λ (l : List ℕ). deeds_in lane kinds.Replaces (cut_at_space l))
    (regrouped (place_text own number) (id_text old) (id_text new))
    ∙ place_read lane own kinds.Replaces number ids few small
    ∙ ap (λ (o : Option (List ℕ × List ℕ)). if_here own lane (option_to_list (replaced_by number o)))
    (cut_spaced (id_text old) (id_text new) (id_bytes old))
    ∙ ap (λ (o : Option ℕ). if_here own lane
    (option_to_list (replaced number o (id_of (id_text new))))) (id_read old fits)
    ∙ ap (λ (o : Option ℕ). if_here own lane (option_to_list (replaced number (Some old) o)))
    (id_read new little)

-- ---- a shift

shift_read : (lane own to machine id : ℕ) → own < 2 ^ 32 → to < 2 ^ 32 → machine < 2 ^ 32
    → id < 2 ^ 128
    → moved_from lane (cut_at_space (place_text own machine ++ codes " " ++ place_text to machine ++ codes " " ++ id_text id))
    ≡ if_here own lane (deeds.Removes machine id ∷ []) ++ if_here to lane (deeds.Comes machine id ∷ [])
shift_read lane own to machine id few other small fits =
    let from = place_text own machine in
    let place = place_text to machine in
    ap (λ (l : List ℕ). moved_from lane (cut_at_space l)) (regrouped from place (id_text id))
    ∙ ap (moved_from lane)
    (cut_solid from (place ++ codes " " ++ id_text id) (solid_place own machine))
    ∙ ap (moved_to lane from) (cut_solid place (id_text id) (solid_place to machine))
    ∙ ap (moved lane from place) (id_read id fits)
    ∙ ap (λ (ds : List Deed). ds ++ done_on lane place (deeds.Comes (number_of place) id ∷ []))
    (on_place lane own machine (λ n. deeds.Removes n id ∷ []) few small)
    ∙ ap (λ (ds : List Deed). if_here own lane (deeds.Removes machine id ∷ []) ++ ds)
    (on_place lane to machine (λ n. deeds.Comes n id ∷ []) other small)

-- ---- all others

told_reads : (lane machine : ℕ) (body : Vertical) → lane_deeds_of lane (told_text machine body) ≡ []
told_reads lane machine (verticals.BoardArrived passage) = refl
told_reads lane machine (verticals.BoardDeparted passage) = refl
told_reads lane machine (verticals.QueryWorkOrderInfo query question) = refl
told_reads lane machine (verticals.SupervisoryServiceDescription system) = refl
told_reads lane machine (verticals.SendWorkOrderInfo query order batch product) = refl
told_reads lane machine (verticals.CheckAlive ping id) = refl
told_reads lane machine (verticals.Notification code severity text) = refl
told_reads lane machine (verticals.Other name) = refl

setting_reads : (lane own machine : ℕ) (setting : Setting)
    → lane_deeds_of lane (setting_on own machine setting) ≡ []
setting_reads lane own machine (settings.Will side true) = refl
setting_reads lane own machine (settings.Will side false) = refl
setting_reads lane own machine (settings.Level line on) = refl
setting_reads lane own machine (settings.Supervise on) = refl

-- ---- THE DEEDS, where no board is moved between lanes

abbrev StaysOn : Happening → Type 0
StaysOn (happenings.Done machine (acts.Gives id to)) = ⊥
StaysOn (happenings.Done machine (acts.Gets id)) = ⊥
StaysOn _ = Unit {0}

act_reads : (lane own machine : ℕ) (act : Act) → own < 2 ^ 32 → machine < 2 ^ 32 → IsProperAct act
    → StaysOn (happenings.Done machine act)
    → lane_deeds_of lane (act_on own machine act) ≡ if_here own lane (deeds_of_act machine act)
act_reads lane own machine (acts.Gives id to) few small proper stays = absurd stays
act_reads lane own machine (acts.Gets id) few small proper stays = absurd stays
act_reads lane own machine (acts.Deed deed) few small proper stays =
    deed_reads lane own machine deed few small proper
act_reads lane own machine (acts.Inserts id) few small proper stays =
    hand_read lane own kinds.Inserts deeds.Inserts machine id few small proper refl
act_reads lane own machine (acts.Removes id) few small proper stays =
    hand_read lane own kinds.Removes deeds.Removes machine id few small proper refl
act_reads lane own machine (acts.Replaces old new) few small proper stays =
    replaces_read lane own machine old new few small proper.0 proper.1
act_reads lane own machine (acts.Tells message) few small proper stays =
    told_reads lane machine message.body ∙ none_if (own == lane)
act_reads lane own machine (acts.Sets setting) few small proper stays =
    setting_reads lane own machine setting ∙ none_if (own == lane)
act_reads lane own machine _ few small proper stays = none_if (own == lane)

one_reads : (lane own : ℕ) (happening : Happening) → own < 2 ^ 32 → IsProperHappening happening
    → StaysOn happening
    → lane_deeds_of lane (happening_on own happening) ≡ if_here own lane (deeds_of_one happening)
one_reads lane own (happenings.Done machine act) few proper stays =
    act_reads lane own machine act few proper.0 proper.1 stays
one_reads lane own (happenings.Lanes count) few proper stays = none_if (own == lane)
one_reads lane own (happenings.Machine number capacity) few proper stays = none_if (own == lane)
one_reads lane own (happenings.Bridge number capacity) few proper stays = none_if (own == lane)
one_reads lane own (happenings.Cut gap) few proper stays = none_if (own == lane)
one_reads lane own (happenings.Stop machine) few proper stays = none_if (own == lane)
one_reads lane own (happenings.Spoils machine side) few proper stays = none_if (own == lane)
one_reads lane own (happenings.Moved gap step) few proper stays = none_if (own == lane)
one_reads lane own (happenings.Lie machine sensed) few proper stays = none_if (own == lane)
one_reads lane own (happenings.Unseen machine side) few proper stays = none_if (own == lane)
one_reads lane own happenings.Unvouched few proper stays = none_if (own == lane)
one_reads lane own (happenings.No reason) few proper stays = none_if (own == lane)
one_reads lane own (happenings.Shown machine id quality) few proper stays = none_if (own == lane)
one_reads lane own (happenings.ShownBetween gap id) few proper stays = none_if (own == lane)
one_reads lane own (happenings.With machine id) few proper stays = none_if (own == lane)
one_reads lane own (happenings.Between gap id) few proper stays = none_if (own == lane)
one_reads lane own (happenings.Gone id) few proper stays = none_if (own == lane)

-- ---- THE DEEDS of what is told of a lane

deeds_if : (here : Bool) (happening : Happening)
    → (if here then deeds_of_one happening else []) ≡ deeds_of (if here then happening ∷ [] else [])
deeds_if true happening = sym (append-nil (deeds_of_one happening))
deeds_if false happening = refl

part_is : (lane own : ℕ) (happening : Happening) → StaysOn happening
    → deeds_of (if own == lane then happening ∷ [] else []) ≡ deeds_of (part_for lane own happening)
part_is lane own (happenings.Done machine (acts.Gives id to)) stays = absurd stays
part_is lane own _ stays = refl

moved_deeds : (machine id to : ℕ) (here there : Bool)
    → (if here then deeds.Removes machine id ∷ [] else []) ++ (if there then deeds.Comes machine id ∷ [] else [])
    ≡ deeds_of ((if here then happenings.Done machine (acts.Gives id to) ∷ [] else [])
    ++ (if there then happenings.Done machine (acts.Gets id) ∷ [] else []))
moved_deeds machine id to true true = refl
moved_deeds machine id to true false = refl
moved_deeds machine id to false true = refl
moved_deeds machine id to false false = refl

plain_reads : (lane own : ℕ) (happening : Happening) → own < 2 ^ 32 → IsProperHappening happening
    → StaysOn happening
    → lane_deeds_of lane (happening_on own happening) ≡ deeds_of (part_for lane own happening)
plain_reads lane own happening few proper stays =
    one_reads lane own happening few proper stays ∙ deeds_if (own == lane) happening
    ∙ part_is lane own happening stays

part_reads : (lane own : ℕ) (happening : Happening) → own < 2 ^ 32 → IsProperHappening happening
    → GoesToALane happening → IsNoComing happening
    → lane_deeds_of lane (happening_on own happening) ≡ deeds_of (part_for lane own happening)
part_reads lane own (happenings.Done machine (acts.Gives id to)) few proper goes told =
    shift_read lane own to machine id few goes proper.0 proper.1
    ∙ moved_deeds machine id to (own == lane) (to == lane)
part_reads lane own (happenings.Done machine (acts.Gets id)) few proper goes told = absurd told
part_reads lane own happening few proper goes told = plain_reads lane own happening few proper tt

deeds_join : (a b : List Happening) → deeds_of (a ++ b) ≡ deeds_of a ++ deeds_of b
deeds_join [] b = refl
deeds_join (h ∷ a) b =
    ap (λ ds. deeds_of_one h ++ ds) (deeds_join a b)
    ∙ sym (append_assoc (deeds_of_one h) (deeds_of a) (deeds_of b))

pub told_deeds : (lane number : ℕ) (told : List LaneHappening) → AllByRecursion IsProperOn told
    → AreTold told
    → lane_deeds_told lane (lines_told number told) ≡ deeds_of (told_for lane told)
told_deeds lane number [] proper told = refl
told_deeds lane number (happening ∷ others) proper told =
    ap (λ (ds : List Deed). ds ++ lane_deeds_told lane (lines_told number others))
    (part_reads lane happening.lane happening.what proper.0.0 proper.0.1 proper.0.2 told.0)
    ∙ ap (λ (ds : List Deed). deeds_of (happening_for lane happening) ++ ds)
    (told_deeds lane number others proper.1 told.1)
    ∙ sym (deeds_join (happening_for lane happening) (told_for lane others))

-- ---- LIES

body_lies : (machine : ℕ) (body : Vertical) → tells_lie (told_text machine body) ≡ false
body_lies machine (verticals.BoardArrived passage) = refl
body_lies machine (verticals.BoardDeparted passage) = refl
body_lies machine (verticals.QueryWorkOrderInfo query question) = refl
body_lies machine (verticals.SupervisoryServiceDescription system) = refl
body_lies machine (verticals.SendWorkOrderInfo query order batch product) = refl
body_lies machine (verticals.CheckAlive ping id) = refl
body_lies machine (verticals.Notification code severity text) = refl
body_lies machine (verticals.Other name) = refl

act_lies : (own machine : ℕ) (act : Act) → tells_lie (act_on own machine act) ≡ false
act_lies own machine (acts.Deed (own_deeds.Opens id)) = refl
act_lies own machine (acts.Tells message) = body_lies machine message.body
act_lies own machine (acts.Sets (settings.Will side true)) = refl
act_lies own machine _ = refl

lies_on : (own : ℕ) (happening : Happening)
    → tells_lie (happening_on own happening) ≡ is_lie happening
lies_on own (happenings.Done machine act) = act_lies own machine act
lies_on own (happenings.Lanes count) = refl
lies_on own (happenings.Machine number capacity) = refl
lies_on own (happenings.Bridge number capacity) = refl
lies_on own (happenings.Cut gap) = refl
lies_on own (happenings.Stop machine) = refl
lies_on own (happenings.Spoils machine side) = refl
lies_on own (happenings.Moved gap step) = refl
lies_on own (happenings.Lie machine sensed) = refl
lies_on own (happenings.Unseen machine side) = refl
lies_on own happenings.Unvouched = refl
lies_on own (happenings.No reason) = refl
lies_on own (happenings.Shown machine id quality) = refl
lies_on own (happenings.ShownBetween gap id) = refl
lies_on own (happenings.With machine id) = refl
lies_on own (happenings.Between gap id) = refl
lies_on own (happenings.Gone id) = refl

pub happening_lies : (happening : LaneHappening)
    → tells_lie (text_of happening) ≡ is_lie happening.what
happening_lies happening = lies_on happening.lane happening.what

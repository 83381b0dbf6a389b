-- Each opening on a lane that a report's bytes tell answers the last start that they told at its gap
-- there.
use Rattle.std.proofs.Common.{◌≡◌, ◌≤◌, ◌<◌, ◌^◌, ◌⊎◌, inl, inr, ◌∙◌, sym, ap, refl, subst, ℕ, ◌+◌, ◌-◌, ◌==◌, Bool, true, false, List, [], ◌∷◌, ◌++◌, Option, Some, append_assoc, append-nil, arith, codes, if◌then◌else◌, length, take_all}
use Rattle.std.specs.List.{AllByRecursion}
use Rattle.std.proofs.lemmas.List.Elements.{recursion_from_All}
use Rattle.board_record.specs.BoardId.{id_text}
use Rattle.hermes_vertical.specs.declared.message.Vertical.{Vertical}
use Rattle.hermes_vertical.specs.declared.message.Vertical.TheVariants as verticals
use Rattle.line_check.specs.LogLine.{id_of}
use Rattle.line_check.specs.Words.{cut_at_space}
use Rattle.law_history.specs.Opened.{OpensAsStarted, OpensWhatStarted, WhatOpensStarted, gap_deed, gap_deeds, if_it, is_above, is_below, opens_at}
use Rattle.line_report.specs.Texts.{act_on, deed_on, happening_on, place_text, told_text as body_text}
use Rattle.line_report.specs.declared.happening.Happening.{Happening}
use Rattle.line_report.specs.declared.happening.Happening.TheVariants as happenings
use Rattle.line_report.specs.declared.happening.LaneHappening.{LaneHappening}
use Rattle.line_step.specs.Runs.{Point}
use Rattle.line_step.specs.State.{LineState, no_line}
use Rattle.law_lanes.specs.Along.{ArePointsOn, EachFrontIsATrack, IsHonestTrackOf, all_done, happening_for, is_done, part_for, told_for}
use Rattle.law_lanes.specs.Lanes.{lines_of, no_lanes}
use Rattle.law_lanes.specs.Parts.{LanePoint, all_points}
use Rattle.law_lanes.specs.Views.{lanes_text}
use Rattle.law_lanes.proofs.ScriptRuns.{run-short}
use Rattle.machine_log.specs.Account.{IsProperAct, id_of_deed}
use Rattle.node_core.specs.declared.act.Act.{Act}
use Rattle.node_core.specs.declared.act.Act.TheVariants as acts
use Rattle.node_core.specs.declared.act.Deed.{Deed}
use Rattle.node_core.specs.declared.act.Deed.TheVariants as deeds
use Rattle.node_core.specs.declared.act.Setting.TheVariants as settings
use Rattle.law_report_ledger.specs.Asked.{IsAsked, deed_of_id, IsAskedForOn, LaneReportTellsStarts, OpensWereAskedOn, gap_told_on, line_tells_on, placed_on, told_at_on}
use Rattle.law_report_lines.specs.Lines.{AreUnnumbered, ReportLine, lines_in}
use Rattle.law_report_ledger.specs.Ledgers.{honest_on}
use Rattle.law_report_ledger.specs.Places.{number_of}
use Rattle.law_report_lines.specs.Proper.{IsProperHappening, ArePointsProper, IsProperOn}
use Rattle.law_report_ledger.specs.ReportLines.{vouched}
use Rattle.law_report_ledger.proofs.Alone.{run_alone}
use Rattle.law_report_ledger.proofs.Deeds.{id_read}
use Rattle.law_report_ledger.proofs.GapDeeds.{above_is, below_is, deeds_append, neither, opens_is}
use Rattle.law_report_ledger.proofs.Ledgered.{front_of, honest_proper}
use Rattle.law_report_ledger.proofs.Lines.{line_with, lines_told, run_lines, run_read, text_of}
use Rattle.law_report_ledger.proofs.Vouched.{Vouches, run_vouched}
use Rattle.law_report_ledger.proofs.Words.{cut_solid, place_word, solid_place}

-- ---- what a text tells of a gap of a lane

abbrev if_here : ℕ → ℕ → List Deed → List Deed
if_here own lane all = if own == lane then all else []

place_read : (lane own gap : ℕ) (deed : ℕ → Deed) (number id : ℕ) → own < 2 ^ 32
    → number < 2 ^ 32 → id < 2 ^ 128
    → placed_on lane gap deed (cut_at_space ((place_text own number ++ codes " ") ++ id_text id))
    ≡ if_here own lane (if number == gap then deed id ∷ [] else [])
place_read lane own gap deed number id few small fits =
    let word = place_word own number few small in
    let told = deed_of_id deed (id_of (id_text id)) in
    ap (placed_on lane gap deed)
    (cut_solid (place_text own number) (id_text id) (solid_place own number))
    ∙ ap (λ (l : ℕ). if l == lane
    then (if number_of (place_text own number) == gap then told else []) else []) word.lane_is
    ∙ ap (λ (n : ℕ). if_here own lane (if n == gap then told else [])) word.number_is
    ∙ ap (λ (o : Option ℕ). if_here own lane (if number == gap then deed_of_id deed o else []))
    (id_read id fits)

none_if : (here : Bool) → ◌≡◌ {A = List Deed} [] (if here then [] else [])
none_if true = refl
none_if false = refl

-- what a machine did on its lane
abbrev done_there : ℕ → ℕ → ℕ → Happening → List Deed
done_there lane own gap happening = if_here own lane (gap_deed gap happening)

neither_there : (lane own gap machine : ℕ) (deed : Deed) → is_above deed ≡ false
    → is_below deed ≡ false
    → ◌≡◌ {A = List Deed} [] (done_there lane own gap (happenings.Done machine (acts.Deed deed)))
neither_there lane own gap machine deed over under =
    none_if (own == lane)
    ∙ ap (if_here own lane)
    (neither gap machine
    ∙ ap (λ (b : Bool). if machine == gap then if_it b deed
    else (if machine == gap + 1 then [] else [])) (sym over)
    ∙ ap (λ (b : Bool). if machine == gap then if_it (is_above deed) deed
    else (if machine == gap + 1 then if_it b deed else [])) (sym under))

deed_reads : (lane own gap machine : ℕ) (deed : Deed) → 1 ≤ gap → own < 2 ^ 32
    → machine < 2 ^ 32 → id_of_deed deed < 2 ^ 128
    → told_at_on lane gap (deed_on own machine deed)
    ≡ done_there lane own gap (happenings.Done machine (acts.Deed deed))
deed_reads lane own gap machine (deeds.Opens id) some few small fits =
    place_read lane own gap deeds.Opens machine id few small fits
    ∙ ap (if_here own lane) (above_is gap machine (deeds.Opens id))
deed_reads lane own gap machine (deeds.Refuses id) some few small fits =
    place_read lane own gap deeds.Refuses machine id few small fits
    ∙ ap (if_here own lane) (above_is gap machine (deeds.Refuses id))
deed_reads lane own gap machine (deeds.Starts id) some few small fits =
    place_read lane own gap deeds.Starts (machine - 1) id few (omega (arith, small)) fits
    ∙ ap (if_here own lane) (below_is gap machine (deeds.Starts id) some)
deed_reads lane own gap machine (deeds.Settles id) some few small fits =
    place_read lane own gap deeds.Settles (machine - 1) id few (omega (arith, small)) fits
    ∙ ap (if_here own lane) (below_is gap machine (deeds.Settles id) some)
deed_reads lane own gap machine (deeds.Drops id) some few small fits =
    place_read lane own gap deeds.Drops (machine - 1) id few (omega (arith, small)) fits
    ∙ ap (if_here own lane) (below_is gap machine (deeds.Drops id) some)
deed_reads lane own gap machine (deeds.Leaves id) some few small fits =
    neither_there lane own gap machine (deeds.Leaves id) refl refl
deed_reads lane own gap machine (deeds.Returns id) some few small fits =
    neither_there lane own gap machine (deeds.Returns id) refl refl
deed_reads lane own gap machine (deeds.Loses id) some few small fits =
    neither_there lane own gap machine (deeds.Loses id) refl refl

body_reads : (lane gap machine : ℕ) (body : Vertical)
    → told_at_on lane gap (body_text machine body) ≡ []
body_reads lane gap machine (verticals.BoardArrived passage) = refl
body_reads lane gap machine (verticals.BoardDeparted passage) = refl
body_reads lane gap machine (verticals.QueryWorkOrderInfo query question) = refl
body_reads lane gap machine (verticals.SupervisoryServiceDescription system) = refl
body_reads lane gap machine (verticals.SendWorkOrderInfo query order batch product) = refl
body_reads lane gap machine (verticals.CheckAlive ping id) = refl
body_reads lane gap machine (verticals.Notification code severity text) = refl
body_reads lane gap machine (verticals.Other name) = refl

act_reads : (lane own gap machine : ℕ) (act : Act) → 1 ≤ gap → own < 2 ^ 32 → machine < 2 ^ 32
    → IsProperAct act
    → told_at_on lane gap (act_on own machine act)
    ≡ done_there lane own gap (happenings.Done machine act)
act_reads lane own gap machine (acts.Deed deed) some few small proper =
    deed_reads lane own gap machine deed some few small proper
act_reads lane own gap machine (acts.Tells message) some few small proper =
    body_reads lane gap machine message.body ∙ none_if (own == lane)
act_reads lane own gap machine (acts.Sets (settings.Will side true)) some few small proper =
    none_if (own == lane)
act_reads lane own gap machine _ some few small proper = none_if (own == lane)

happening_reads : (lane own gap : ℕ) (happening : Happening) → 1 ≤ gap → own < 2 ^ 32
    → IsProperHappening happening
    → told_at_on lane gap (happening_on own happening) ≡ done_there lane own gap happening
happening_reads lane own gap (happenings.Done machine act) some few proper =
    act_reads lane own gap machine act some few proper.0 proper.1
happening_reads lane own gap (happenings.Lanes count) some few proper = none_if (own == lane)
happening_reads lane own gap (happenings.Machine number capacity) some few proper =
    none_if (own == lane)
happening_reads lane own gap (happenings.Bridge number capacity) some few proper =
    none_if (own == lane)
happening_reads lane own gap (happenings.Cut other) some few proper = none_if (own == lane)
happening_reads lane own gap (happenings.Stop machine) some few proper = none_if (own == lane)
happening_reads lane own gap (happenings.Spoils machine side) some few proper = none_if (own == lane)
happening_reads lane own gap (happenings.Moved other step) some few proper = none_if (own == lane)
happening_reads lane own gap (happenings.Lie machine sensed) some few proper = none_if (own == lane)
happening_reads lane own gap (happenings.Unseen machine side) some few proper = none_if (own == lane)
happening_reads lane own gap happenings.Unvouched some few proper = none_if (own == lane)
happening_reads lane own gap (happenings.No reason) some few proper = none_if (own == lane)
happening_reads lane own gap (happenings.Shown machine id quality) some few proper =
    none_if (own == lane)
happening_reads lane own gap (happenings.ShownBetween other id) some few proper =
    none_if (own == lane)
happening_reads lane own gap (happenings.With machine id) some few proper = none_if (own == lane)
happening_reads lane own gap (happenings.Between other id) some few proper = none_if (own == lane)
happening_reads lane own gap (happenings.Gone id) some few proper = none_if (own == lane)

-- as what is told of the lane
deeds_if : (gap : ℕ) (here : Bool) (happening : Happening)
    → (if here then gap_deed gap happening else [])
    ≡ gap_deeds gap (if here then happening ∷ [] else [])
deeds_if gap true happening = sym (append-nil (gap_deed gap happening))
deeds_if gap false happening = refl

none_moved : (gap machine id to : ℕ) (one here there : Bool)
    → ◌≡◌ {A = List Deed} (if one then [] else [])
    (gap_deeds gap ((if here then happenings.Done machine (acts.Gives id to) ∷ [] else [])
    ++ (if there then happenings.Done machine (acts.Gets id) ∷ [] else [])))
none_moved gap machine id to true true true = refl
none_moved gap machine id to true true false = refl
none_moved gap machine id to true false true = refl
none_moved gap machine id to true false false = refl
none_moved gap machine id to false true true = refl
none_moved gap machine id to false true false = refl
none_moved gap machine id to false false true = refl
none_moved gap machine id to false false false = refl

part_is : (lane own gap : ℕ) (happening : Happening)
    → done_there lane own gap happening ≡ gap_deeds gap (part_for lane own happening)
part_is lane own gap (happenings.Done machine (acts.Gives id to)) =
    none_moved gap machine id to (own == lane) (own == lane) (to == lane)
part_is lane own gap happening = deeds_if gap (own == lane) happening

text_reads : (lane gap : ℕ) (happening : LaneHappening) → 1 ≤ gap → IsProperOn happening
    → told_at_on lane gap (text_of happening) ≡ gap_deeds gap (happening_for lane happening)
text_reads lane gap happening some proper =
    happening_reads lane happening.lane gap happening.what some proper.0 proper.1
    ∙ part_is lane happening.lane gap happening.what

-- ---- what a track told

undone_deeds : (gap : ℕ) (h : Happening) → is_done h ≡ false → gap_deed gap h ≡ []
undone_deeds gap (happenings.Done machine act) is = absurd (let never : true ≡ false = is in cc)
undone_deeds gap _ is = refl

done_by : (gap : ℕ) (test : Bool) (h : Happening) (told : List Happening) → is_done h ≡ test
    → gap_deeds gap told ≡ gap_deeds gap (all_done told)
    → gap_deed gap h ++ gap_deeds gap told
    ≡ gap_deeds gap (if test then h ∷ all_done told else all_done told)
done_by gap true h told is same = ap (λ (ds : List Deed). gap_deed gap h ++ ds) same
done_by gap false h told is same =
    ap (λ (ds : List Deed). ds ++ gap_deeds gap told) (undone_deeds gap h is) ∙ same

done_deeds : (gap : ℕ) (told : List Happening) → gap_deeds gap told ≡ gap_deeds gap (all_done told)
done_deeds gap [] = refl
done_deeds gap (h ∷ told) = done_by gap (is_done h) h told refl (done_deeds gap told)

same_deeds : (gap : ℕ) (a b : List Happening) → all_done a ≡ all_done b
    → gap_deeds gap a ≡ gap_deeds gap b
same_deeds gap a b same = done_deeds gap a ∙ ap (gap_deeds gap) same ∙ sym (done_deeds gap b)

-- ---- an opening among the deeds of a gap is one among what was told

-- what is told of a gap of one thing is one deed or none
one_or_none : (gap : ℕ) (h : Happening)
    → (gap_deed gap h ≡ []) ⊎ ((deed : Deed) × (gap_deed gap h ≡ deed ∷ []))
one_or_none gap (happenings.Done machine (acts.Deed deed)) =
    by (machine == gap) (machine == gap + 1) (is_above deed) (is_below deed) where
      by : (one two over under : Bool)
          → ((if one then if_it over deed else (if two then if_it under deed else [])) ≡ [])
          ⊎ ((d : Deed) × ((if one then if_it over deed else (if two then if_it under deed else [])) ≡ d ∷ []))
      by true two true under = inr (deed, refl)
      by true two false under = inl refl
      by false true over true = inr (deed, refl)
      by false true over false = inl refl
      by false false over under = inl refl
one_or_none gap _ = inl refl

record IsOpenedAt (gap id : ℕ) (told : List Happening) (before : List Deed) : Type 0 where
  earlier : List Happening
  later : List Happening
  is : told ≡ earlier ++ (opens_at gap id ∷ later)
  told_before : gap_deeds gap earlier ≡ before

opened_at : (gap id : ℕ) (told : List Happening) (before since : List Deed)
    → gap_deeds gap told ≡ before ++ (deeds.Opens id ∷ since) → IsOpenedAt gap id told before
opened_at gap id [] [] since is = absurd (let never : ◌≡◌ {A = List Deed} [] (deeds.Opens id ∷ since) = is in cc)
opened_at gap id [] (d ∷ before) since is =
    absurd (let never : ◌≡◌ {A = List Deed} [] (d ∷ (before ++ (deeds.Opens id ∷ since))) = is in cc)
opened_at gap id (h ∷ told) before since is =
    by before is (one_or_none gap h) (λ front same. opened_at gap id told front since same) where
      by : (before : List Deed)
          → gap_deed gap h ++ gap_deeds gap told ≡ before ++ (deeds.Opens id ∷ since)
          → (gap_deed gap h ≡ []) ⊎ ((deed : Deed) × (gap_deed gap h ≡ deed ∷ []))
          → ((front : List Deed) → gap_deeds gap told ≡ front ++ (deeds.Opens id ∷ since)
          → IsOpenedAt gap id told front)
          → IsOpenedAt gap id (h ∷ told) before
      by before is (inl none) later =
          let rest = later before (ap (λ (ds : List Deed). ds ++ gap_deeds gap told) (sym none) ∙ is) in
          record {
            earlier = h ∷ rest.earlier;
            later = rest.later;
            is = ap (λ (l : List Happening). h ∷ l) rest.is;
            told_before = ap (λ (ds : List Deed). ds ++ gap_deeds gap rest.earlier) none
                ∙ rest.told_before;
          }
      by [] is (inr (deed, one)) later =
          let same : deed ∷ gap_deeds gap told ≡ deeds.Opens id ∷ since =
          ap (λ (ds : List Deed). ds ++ gap_deeds gap told) (sym one) ∙ is in
          let opens : deed ≡ deeds.Opens id = cc in
          record {
            earlier = [];
            later = told;
            is = ap (λ (x : Happening). x ∷ told)
                (opens_is gap h id (one ∙ ap (λ (d : Deed). d ∷ []) opens));
            told_before = refl;
          }
      by (d ∷ before) is (inr (deed, one)) later =
          let same : deed ∷ gap_deeds gap told ≡ d ∷ (before ++ (deeds.Opens id ∷ since)) =
          ap (λ (ds : List Deed). ds ++ gap_deeds gap told) (sym one) ∙ is in
          let first : deed ≡ d = cc in
          let others : gap_deeds gap told ≡ before ++ (deeds.Opens id ∷ since) = cc in
          let rest = later before others in
          record {
            earlier = h ∷ rest.earlier;
            later = rest.later;
            is = ap (λ (l : List Happening). h ∷ l) rest.is;
            told_before = ap (λ (ds : List Deed). ds ++ gap_deeds gap rest.earlier) one
                ∙ ap (λ (x : Deed). x ∷ gap_deeds gap rest.earlier) first
                ∙ ap (λ (ds : List Deed). d ∷ ds) rest.told_before;
          }

-- ---- THE DEEDS OF A GAP of a line: where one opens, it was asked for

abbrev AskedAmong : List Deed → List Deed → Type 0
AskedAmong past told =
    (before since : List Deed) (id : ℕ) → told ≡ before ++ (deeds.Opens id ∷ since)
    → IsAsked id (past ++ before)

started_among : (gap : ℕ) (past : List Happening) (s : LineState) (told : List Happening)
    → OpensAsStarted gap past s told → AskedAmong (gap_deeds gap past) (gap_deeds gap told)
started_among gap past s told started before since id is =
    let at = opened_at gap id told before since is in
    let found = started at.earlier at.later id at.is in
    subst (IsAsked id) (ap (λ (ds : List Deed). gap_deeds gap past ++ ds) at.told_before)
    (subst (IsAsked id) (deeds_append gap past at.earlier)
    (record {
      before = found.before;
      since = found.since;
      told_is = found.told_is;
      last = found.last;
    }))

-- ---- along the lines

gap_append : (lane gap : ℕ) (a b : List ReportLine)
    → gap_told_on lane gap (a ++ b) ≡ gap_told_on lane gap a ++ gap_told_on lane gap b
gap_append lane gap [] b = refl
gap_append lane gap (line ∷ a) b =
    ap (λ (ds : List Deed). line_tells_on lane gap line.number line.text ++ ds)
    (gap_append lane gap a b)
    ∙ sym (append_assoc (line_tells_on lane gap line.number line.text) (gap_told_on lane gap a)
    (gap_told_on lane gap b))

-- `past` was told before this line, `earlier` of it before these
told_asked : (lane gap number : ℕ) (past earlier all : List Deed) (rest : List LaneHappening)
    (before later : List ReportLine) → 1 ≤ gap → AllByRecursion IsProperOn rest
    → AskedAmong past all → all ≡ earlier ++ gap_deeds gap (told_for lane rest)
    → gap_told_on lane gap before ≡ past ++ earlier
    → ((lines : List ReportLine) → gap_told_on lane gap lines ≡ past ++ all
    → OpensWereAskedOn lane gap lines later)
    → OpensWereAskedOn lane gap before (lines_told number rest ++ later)
told_asked lane gap number past earlier all [] before later some proper asked parts same go =
    go before (same ∙ ap (λ (ds : List Deed). past ++ ds) (sym (parts ∙ append-nil earlier)))
told_asked lane gap number past earlier all (h ∷ rest) before later some proper asked parts same go =
    let line = line_with (Some number) (text_of h) in
    let here = gap_deeds gap (happening_for lane h) in
    let behind = gap_deeds gap (told_for lane rest) in
    let reads : line_tells_on lane gap line.number line.text ≡ here =
    text_reads lane gap h some proper.0 in
    let split : all ≡ earlier ++ (here ++ behind) =
    parts ∙ ap (λ (ds : List Deed). earlier ++ ds)
    (deeds_append gap (happening_for lane h) (told_for lane rest)) in
    let next : gap_told_on lane gap (before ++ line ∷ []) ≡ past ++ (earlier ++ here) =
    gap_append lane gap before (line ∷ [])
    ∙ ap (λ (ds : List Deed). gap_told_on lane gap before ++ ds)
    (append-nil (line_tells_on lane gap line.number line.text) ∙ reads)
    ∙ ap (λ (ds : List Deed). ds ++ here) same ∙ append_assoc past earlier here in
    let one : IsAskedForOn lane gap before line =
    λ id opens. subst (IsAsked id) (sym same)
    (asked earlier behind id
    (split ∙ ap (λ (ds : List Deed). earlier ++ (ds ++ behind)) (sym reads ∙ opens))) in (
      one,
      told_asked lane gap number past (earlier ++ here) all rest (before ++ line ∷ []) later some
          proper.1 asked (split ∙ sym (append_assoc earlier here behind)) next go,
    )

unnumbered_asked : (lane gap : ℕ) (before tail : List ReportLine) → AreUnnumbered tail
    → OpensWereAskedOn lane gap before tail
unnumbered_asked lane gap before [] none = tt
unnumbered_asked lane gap before (line ∷ tail) none =
    (asked_for, unnumbered_asked lane gap (before ++ line ∷ []) tail none.1) where
      asked_for : IsAskedForOn lane gap before line
      asked_for id opens =
          absurd (let never : ◌≡◌ {A = List Deed} [] (deeds.Opens id ∷ []) =
          sym (ap (λ n. line_tells_on lane gap n line.text) none.0) ∙ opens in cc)

run_asked : (lane gap number : ℕ) (past : List Happening) (s : LineState)
    (points : List LanePoint) (own : List Point) (before tail : List ReportLine) → 1 ≤ gap
    → ArePointsProper points → AreUnnumbered tail → ArePointsOn lane points own
    → OpensWhatStarted gap past s own → gap_told_on lane gap before ≡ gap_deeds gap past
    → OpensWereAskedOn lane gap before (run_lines number points ++ tail)
run_asked lane gap number past s [] own before tail some proper none beside started same =
    unnumbered_asked lane gap before tail none
run_asked lane gap number past s (point ∷ points) [] before tail some proper none beside started same =
    absurd beside
run_asked lane gap number past s (point ∷ points) (p ∷ own) before tail some proper none beside started same =
    let told = gap_deeds gap (told_for lane point.told) in
    let later = run_lines (lines_of point.after + 1) points in
    let alike : gap_deeds gap p.told ≡ told =
    same_deeds gap p.told (told_for lane point.told) beside.0.told in
    let asked : AskedAmong (gap_deeds gap past) told =
    subst (AskedAmong (gap_deeds gap past)) alike (started_among gap past s p.told started.0) in
    subst (OpensWereAskedOn lane gap before)
    (sym (append_assoc (lines_told number point.told) later tail))
    (told_asked lane gap number (gap_deeds gap past) [] told point.told before (later ++ tail) some
    (recursion_from_All IsProperOn point.told proper.0.each) asked refl
    (same ∙ sym (append-nil (gap_deeds gap past)))
    (λ lines is. run_asked lane gap (lines_of point.after + 1) (past ++ p.told) p.after points own
    lines tail some proper.1 none beside.1 started.1
    (is ∙ ap (λ (ds : List Deed). gap_deeds gap past ++ ds) (sym alike)
    ∙ sym (deeds_append gap past p.told))))

-- ---- THE LAW

pub report_tells_starts : EachFrontIsATrack → WhatOpensStarted → LaneReportTellsStarts
report_tells_starts fronts starts asked done ending lane gap least some fit few run proper none =
    let points = all_points done in
    let short = run-short no_lanes asked done run (omega (arith, few)) in
    let front = front_of points in
    let vouches : Vouches 1 points (lines_in ending) =
    run_vouched 0 no_lanes points (lines_in ending) (run_alone 0 no_lanes asked done (omega arith) run)
    none in
    let lines : vouched (lines_in (lanes_text 1 points ++ ending)) ≡ run_lines 1 (honest_on points) ++ vouches.rest =
    ap vouched (run_read no_lanes points ending short proper) ∙ vouches.is in
    let own : IsHonestTrackOf lane (honest_on points) =
    subst (IsHonestTrackOf lane) (sym front.is)
    (fronts asked done front.count lane least fit short run front.honesty) in
    let many = length own.own in
    let all : OpensWhatStarted gap [] no_line own.own =
    subst (λ (ps : List Point). OpensWhatStarted gap [] no_line ps)
    (take_all many own.own (omega arith))
    (starts own.asked own.own many gap own.fit own.short own.run (own.honest many)) in
    subst (OpensWereAskedOn lane gap []) (sym lines)
    (run_asked lane gap 1 [] no_line (honest_on points) own.own [] vouches.rest some
    (honest_proper points proper) vouches.none own.beside all refl)

-- What is told in a line of the script beside the acts of machines: a law over all that is told says
-- only what one happening does to it.
use Rattle.std.proofs.Common.{◌+◌, ◌++◌, ◌==◌, ℕ, Bool, true, false, List, ◌∷◌, Option, Some, None, []}
use Rattle.std.specs.Prelude.{if◌then◌else◌}
use Rattle.std.specs.List.{AllByRecursion, flat_map}
use Rattle.line_base.specs.declared.states.Side.{Side}
use Rattle.board_record.specs.declared.record.Record.{Record}
use Rattle.hermes_horizontal.specs.declared.message.Message.{Message}
use Rattle.hermes_horizontal.specs.Canonical.{canonical}
use Rattle.line_link.specs.Link.{answer_sent, sent_of}
use Rattle.line_link.specs.declared.link.Sent.{Sent}
use Rattle.line_link.specs.declared.link.Sent.TheVariants as sent
use Rattle.node_core.specs.declared.act.Act.{Act}
use Rattle.node_core.specs.declared.act.Act.TheVariants as acts
use Rattle.node_core.specs.Node.{NodeState}
use Rattle.node_core.specs.Own.{own_of}
use Rattle.standings.specs.Told.{told_of}
use Rattle.standings.specs.declared.told.Told.{Told}
use Rattle.standings.specs.declared.told.Told.TheVariants as tolds
use Rattle.line_report.specs.declared.happening.Happening.{Happening}
use Rattle.line_report.specs.declared.happening.Happening.TheVariants as happenings
use Rattle.line_step.specs.World.{WorldParts, end_of, link_at, link_of}
use Rattle.line_step.specs.State.{LineState, marks_in}
use Rattle.line_step.specs.Acts.{act_did, acts_did, answers, cut_told, sent_by}
use Rattle.line_step.specs.Shown.{ascending, between_shown, ids_marked, kept_shown, shown, shown_from, standing_told, standings_told, taken_below}
use Rattle.line_step.specs.Lines.{unvouched_told}

-- no machine acts, no board moves, and nothing is told that was not so
abbrev pub IsRemark : Happening → Type 0
IsRemark (happenings.Done machine act) = ⊥
IsRemark (happenings.Moved gap step) = ⊥
IsRemark (happenings.Lie machine sensed) = ⊥
IsRemark (happenings.Unseen machine side) = ⊥
IsRemark _ = Unit {0}

abbrev pub AreRemarks : List Happening → Type 0
AreRemarks told = AllByRecursion IsRemark told

-- no machine acts
abbrev pub IsNoAct : Happening → Type 0
IsNoAct (happenings.Done machine act) = ⊥
IsNoAct _ = Unit {0}

abbrev pub AreNoActs : List Happening → Type 0
AreNoActs told = AllByRecursion IsNoAct told

-- what holds of lists of happenings where it holds of each that is of this kind
pub record Passes (Kind : Happening → Type 0) (P : List Happening → Type 0) : Type 0 where
  pub none : P []
  pub both : (a b : List Happening) → P a → P b → P (a ++ b)
  pub one : (h : Happening) → Kind h → P (h ∷ [])

pub all_pass : {Kind : Happening → Type 0} {P : List Happening → Type 0} (told : List Happening) → Passes Kind P → AllByRecursion Kind told → P told
all_pass [] passes all = passes.none
all_pass (h ∷ told) passes all = passes.both (h ∷ []) told (passes.one h all.0) (all_pass told passes all.1)

pub is_no_act : (h : Happening) → IsRemark h → IsNoAct h
is_no_act (happenings.Done machine act) is = is
is_no_act _ is = tt

pub no_acts : (told : List Happening) → AreRemarks told → AreNoActs told
no_acts [] all = tt
no_acts (h ∷ told) all = (is_no_act h all.0, no_acts told all.1)

-- ---- what is told of links

pub remarks_join : (a b : List Happening) → AreRemarks a → AreRemarks b → AreRemarks (a ++ b)
remarks_join [] b one two = two
remarks_join (h ∷ a) b one two = (one.0, remarks_join a b one.1 two)

pub cut_remarks : (link : ℕ) (on : Sent) → AreRemarks (cut_told link on)
cut_remarks link sent.Cuts = (tt, tt)
cut_remarks link sent.Flows = tt
cut_remarks link sent.Vanishes = tt

pub unvouched_remarks : (unvouched : Option ℕ) → AreRemarks (unvouched_told unvouched)
unvouched_remarks None = (tt, tt)
unvouched_remarks (Some line) = tt

-- ---- what is shown

kept_remarks : (machine : ℕ) (boards : List Record) → AreRemarks (kept_shown machine boards)
kept_remarks machine [] = tt
kept_remarks machine (board ∷ boards) = (tt, kept_remarks machine boards)

two_remarks : (same : Bool) (gap above below : ℕ) → AreRemarks (happenings.ShownBetween gap above ∷ (if same then [] else happenings.ShownBetween gap below ∷ []))
two_remarks true gap above below = (tt, tt)
two_remarks false gap above below = (tt, (tt, tt))

between_remarks : (gap : ℕ) (above below : Option ℕ) → AreRemarks (between_shown gap above below)
between_remarks gap None None = tt
between_remarks gap None (Some below) = (tt, tt)
between_remarks gap (Some above) None = (tt, tt)
between_remarks gap (Some above) (Some below) = two_remarks (above == below) gap above below

shown_remarks_from : (machine : ℕ) (nodes : List NodeState) → AreRemarks (shown_from machine nodes)
shown_remarks_from machine [] = tt
shown_remarks_from machine (node ∷ nodes) =
    let between = between_shown machine (own_of node.lane.body).held (taken_below nodes) in
    remarks_join (kept_shown machine node.lane.body.kept) (between ++ shown_from (machine + 1) nodes) (kept_remarks machine node.lane.body.kept)
    (remarks_join between (shown_from (machine + 1) nodes) (between_remarks machine (own_of node.lane.body).held (taken_below nodes)) (shown_remarks_from (machine + 1) nodes))

pub shown_remarks : (s : LineState) → AreRemarks (shown s)
shown_remarks s = shown_remarks_from 1 s.machines

-- ---- the standings

standing_remarks : (id : ℕ) (told : Option Told) → AreRemarks (standing_told id told)
standing_remarks id None = tt
standing_remarks id (Some (tolds.With machine)) = (tt, tt)
standing_remarks id (Some (tolds.Between gap)) = (tt, tt)
standing_remarks id (Some tolds.Gone) = (tt, tt)

flat_remarks : (f : ℕ → List Happening) (ids : List ℕ) → ((id : ℕ) → AreRemarks (f id)) → AreRemarks (flat_map f ids)
flat_remarks f [] every = tt
flat_remarks f (id ∷ ids) every = remarks_join (f id) (flat_map f ids) (every id) (flat_remarks f ids every)

pub standings_remarks : (before next : LineState) → AreRemarks (standings_told before next)
standings_remarks before next =
    flat_remarks (λ id. standing_told id (told_of (marks_in before id) (marks_in next id))) (ascending (ids_marked before ++ ids_marked next))
    (λ id. standing_remarks id (told_of (marks_in before id) (marks_in next id)))

-- ---- the acts of a step, each of which is told alone

record Acting (P : List Happening → Type 0) (machine : ℕ) : Type 0 where
  passes : Passes IsRemark P
  act : (act : Act) → P (happenings.Done machine act ∷ [])

told_sent : (P : List Happening → Type 0) (second : Bool) (machine : ℕ) (side : Side) (message : Message) (world : WorldParts) → Acting P machine → P (sent_by second machine side message world).told
told_sent P true machine side message world on =
    let cut = cut_told machine (answer_sent (canonical message) (link_at machine world)) in
    on.passes.both (happenings.Done machine (acts.Sends side message) ∷ []) cut (on.act (acts.Sends side message)) (all_pass cut on.passes (cut_remarks machine (answer_sent (canonical message) (link_at machine world))))
told_sent P false machine side message world on =
    let how = sent_of (end_of side) (canonical message) (link_at (link_of machine side) world) in
    on.passes.both (happenings.Done machine (acts.Sends side message) ∷ []) (cut_told (link_of machine side) how) (on.act (acts.Sends side message)) (all_pass (cut_told (link_of machine side) how) on.passes (cut_remarks (link_of machine side) how))

told_act : (P : List Happening → Type 0) (second : Bool) (machine : ℕ) (act : Act) (world : WorldParts) → Acting P machine → P (act_did second machine act world).told
told_act P second machine (acts.Sends side message) world on = told_sent P (answers second side message) machine side message world on
told_act P second machine (acts.Drive side on_now) world on = on.passes.none
told_act P second machine act world on = on.act act

told_acts : (P : List Happening → Type 0) (second : Bool) (machine : ℕ) (told : List Act) (world : WorldParts) → Acting P machine → P (acts_did second machine told world).told
told_acts P second machine [] world on = on.passes.none
told_acts P second machine (act ∷ others) world on =
    let one = act_did second machine act world in
    on.passes.both one.told (acts_did second machine others one.world).told (told_act P second machine act world on) (told_acts P second machine others one.world on)

-- what holds of remarks and of each act holds of all that a step tells
pub acts_pass : (P : List Happening → Type 0) (second : Bool) (machine : ℕ) (told : List Act) (world : WorldParts) → Passes IsRemark P → ((act : Act) → P (happenings.Done machine act ∷ [])) → P (acts_did second machine told world).told
acts_pass P second machine told world passes act = told_acts P second machine told world (record { passes = passes; act = act })

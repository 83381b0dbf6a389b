-- What holds of a machine between its steps lasts.
use Rattle.std.proofs.Common.{◌≡◌, ◌∙◌, ◌<◌, ◌++◌, ℕ, ℤ, pos, Bool, true, false, List, Option, Some, None, Result, Ok, Err, refl, sym, ap, subst, arith, not}
use Rattle.std.specs.Prelude.{◌==◌, ◌||◌, ◌≢◌, length}
use Rattle.line_base.specs.declared.states.Side.TheVariants.{Entry, Exit}
use Rattle.board_record.specs.Maker.{Maker, next_id}
use Rattle.board_record.specs.declared.maker.IdsUsedUp.{IdsUsedUp}
use Rattle.board_record.specs.declared.sensed.Sensed.{Sensed}
use Rattle.hermes_horizontal.specs.declared.message.Info.{Info}
use Rattle.smema_bridge.specs.declared.line.SegmentLine.{SegmentLine}
use Rattle.smema_bridge.specs.declared.line.SegmentLine.TheVariants.{Ready, Available, Failed}
use Rattle.smema_bridge.specs.Levels.{BridgeLevels}
use Rattle.node_core.specs.declared.act.Act.{Act}
use Rattle.node_core.specs.declared.input.Input.{Input}
use Rattle.node_core.specs.declared.input.Input.TheVariants as inputs
use Rattle.node_core.specs.declared.input.No.{No}
use Rattle.node_core.specs.declared.lane.Body.{Body}
use Rattle.node_core.specs.declared.lane.Lane.{Lane}
use Rattle.node_core.specs.declared.word.Word.{Word}
use Rattle.node_core.specs.Desk.{Desk}
use Rattle.node_core.specs.Places.{used, has_place}
use Rattle.node_core.specs.Announces.{is_intake_free}
use Rattle.node_core.specs.Reads.{all_read}
use Rattle.node_core.specs.Bridge.{with_level_will, failed_front, IsWillingBy, IsWilling}
use Rattle.node_core.specs.Signals.{signalled, after_level, levels_told, levels_settled, levels_after}
use Rattle.node_core.specs.Forecasts.{forecasts_after}
use Rattle.node_core.specs.Supervising.{HasNumber, orders_after, supervised_after}
use Rattle.supervisory_core.specs.Orders.{is_full, unanswered}
use Rattle.supervisory_core.specs.declared.order.Order.{Order}
use Rattle.node_core.specs.Event.{Event, Insert, Replace, Level, with_new, event_of, event_did}
use Rattle.node_core.specs.Step.{StepsLane, Steps, machine_step}
use Rattle.node_core.specs.Breaking.{IsBrokenOff}
use Rattle.node_core.specs.Node.{NodeState, desk_of, new_body, first_body, first_levels}
use Rattle.node_core.specs.May.{no_if, may_do, may_of, may_on_lane, is_used_up}
use Rattle.node_core.specs.Own.{own_of, own_after}
use Rattle.node_core.specs.Sound.{IsSound}
use Rattle.node_core.proofs.Keeping.{SameWills, own_append}
use Rattle.node_core.proofs.Sound.{HasPlaceFor, IsWilless, all_read_keeps, announces_keeps, event_wills, fails_wills, step_sound, step_owns, below_from}
use Rattle.node_core.proofs.Breaking.{OneMeaning, breaks_off}
use Rattle.node_core.proofs.Signalling.{signals_silent, told_signals}

pub first_sound : (most : ℕ) (is_bridge : Bool) → IsSound most (first_body is_bridge)
first_sound most is_bridge = record { offers = tt; entry = refl; exit = refl; places = omega arith }

pub new_sound : (most : ℕ) → IsSound most new_body
new_sound most = first_sound most false

-- the levels of a new bridge are off, and it isn't willing
pub first_willing : (is_bridge : Bool) → IsWilling (first_levels is_bridge) (first_body is_bridge)
first_willing true = record { entry = refl; exit = refl }
first_willing false = tt

-- a board is put in only where there is a place

passes : (free place up : Bool) (why other last : No) → no_if (not free) why (no_if (not place) other (no_if up last may_do)) ≡ may_do → place ≡ true
passes true true up why other last is = refl
passes true false up why other last is = cc
passes false place up why other last is = cc

gets_passes : (free place : Bool) (why other : No) → no_if (not free) why (no_if (not place) other may_do) ≡ may_do → place ≡ true
gets_passes true true why other is = refl
gets_passes true false why other is = cc
gets_passes false place why other is = cc

new_fits : (most : ℕ) (found : Result ℕ IdsUsedUp) (barcode : Option (List ℕ)) (body : Body) → used body < most → HasPlaceFor most (with_new found (λ id. Insert id barcode)) body
new_fits most (Ok id) barcode body fits = fits
new_fits most (Err why) barcode body fits = tt

pub other_fits : (most : ℕ) (found : Result ℕ IdsUsedUp) (old : ℕ) (body : Body) → HasPlaceFor most (with_new found (Replace old)) body
other_fits most (Ok id) old body = tt
other_fits most (Err why) old body = tt

pub may_fits : (s : NodeState) (input : Input) (words : List Word) → may_on_lane s input ≡ may_do → HasPlaceFor s.capacity (event_of s.maker input words) s.lane.body
may_fits s (inputs.Insert barcode) words may = new_fits s.capacity (next_id s.maker) barcode s.lane.body (below_from (used s.lane.body) s.capacity (passes (is_intake_free s.lane.body) (has_place (desk_of s (pos 0)) s.lane.body) (is_used_up s.maker.used) _ _ _ may))
may_fits s (inputs.Gets board) words may = below_from (used s.lane.body) s.capacity (gets_passes (is_intake_free s.lane.body) (has_place (desk_of s (pos 0)) s.lane.body) _ _ may)
may_fits s (inputs.Replace id) words may = other_fits s.capacity (next_id s.maker) id s.lane.body
may_fits s _ words may = tt

-- ---- from the fields of a machine to its value

-- a machine by its fields; of the desk the levels of a bridge are seen
abbrev pub seen_as : Bool → Desk → Maker → Lane → List Info → List Order → NodeState
seen_as spent desk maker lane forecasts orders = record {
  spent = spent;
  name = desk.name;
  number = desk.lane;
  capacity = desk.capacity;
  maker = maker;
  lane = lane;
  bridge = desk.bridge;
  forecasts = forecasts;
  supervised = desk.supervised;
  orders = orders;
}

-- the parts of a step, put together
pub steps_after : (s : NodeState) (spent : Bool) (desk timed settled : Desk) (maker new_maker : Maker) (old new : Lane)
    (forecasts later : List Info) (orders noted : List Order) (unread : List Sensed) (input : Input) (moment : ℤ)
    (told after : Option BridgeLevels) (made acts : List Act)
    → seen_as spent desk maker old forecasts orders ≡ s
    → timed ≡ record desk { moment = moment; asked = length orders }
    → told ≡ levels_told input timed.bridge → StepsLane timed unread input maker new_maker old new made
    → after ≡ levels_settled new.body told → acts ≡ made ++ signalled told new.body
    → settled ≡ record timed { bridge = after; supervised = supervised_after input timed.supervised }
    → later ≡ forecasts_after forecasts acts → noted ≡ orders_after input orders
    → Steps s unread input moment (seen_as false settled new_maker new later noted) acts
steps_after s spent desk timed settled maker new_maker old new forecasts later orders noted unread input moment told after
    made acts view is_timed is_told lane is_after is_acts is_settled is_later is_noted =
    let P : NodeState → Type 0 = λ n. Steps n unread input moment (seen_as false settled new_maker new later noted) acts in
    let told_before : told ≡ levels_told input desk.bridge = is_told ∙ ap (λ (d : Desk). levels_told input d.bridge) is_timed in
    subst P view (record {
      made = made;
      lane = subst (λ (d : Desk). StepsLane d unread input maker new_maker old new made) is_timed lane;
      told = is_acts ∙ ap (λ (b : Option BridgeLevels). made ++ signalled b new.body) told_before ∙ ap (λ (xs : List Act). made ++ xs) (told_signals input desk.bridge new.body);
      bridge = ap (λ (d : Desk). d.bridge) is_settled ∙ is_after ∙ ap (levels_settled new.body) told_before;
      forecasts = is_later;
      supervised = ap (λ (d : Desk). d.supervised) is_settled ∙ ap (λ (d : Desk). supervised_after input d.supervised) is_timed;
      orders = is_noted;
      name = ap (λ (d : Desk). d.name) is_settled ∙ ap (λ (d : Desk). d.name) is_timed;
      number = ap (λ (d : Desk). d.lane) is_settled ∙ ap (λ (d : Desk). d.lane) is_timed;
      capacity = ap (λ (d : Desk). d.capacity) is_settled ∙ ap (λ (d : Desk). d.capacity) is_timed;
    })

-- ---- a question has a number

no_err : (why : No) → Err why ≡ may_do → ⊥
no_err why is = cc

numbered_if : (most : Bool) (asked : ℕ) (other : No) → no_if (most || (asked == 18446744073709551615)) other may_do ≡ may_do
    → asked ≢ 18446744073709551615
numbered_if true asked other may = cc
numbered_if false asked other may = λ same. absurd (no_err other (ap (λ (n : ℕ). no_if (n == 18446744073709551615) other may_do) (sym same) ∙ may))

numbered_by : (orders : List Order) (why other : No) (supervised : Bool)
    → no_if (not supervised) why (no_if (is_full orders) other may_do) ≡ may_do → length orders ≢ 18446744073709551615
numbered_by orders why other true may = numbered_if (unanswered orders == 256) (length orders) other may
numbered_by orders why other false may = cc

pub numbered : (s : NodeState) (input : Input) (desk : Desk) → may_on_lane s input ≡ may_do → desk.asked ≡ length s.orders
    → HasNumber input desk
numbered s (inputs.Ask question) desk may is = λ same. numbered_by s.orders _ _ s.supervised may (sym is ∙ same)
numbered s _ desk may is = tt

-- ---- what a step keeps

pub sound_after : (s t : NodeState) (unread : List Sensed) (input : Input) (moment : ℤ) (acts : List Act) → may_on_lane s input ≡ may_do → Steps s unread input moment t acts → IsSound s.capacity s.lane.body → IsSound t.capacity t.lane.body
sound_after s t unread input moment acts may steps sound =
    let lane = steps.lane in
    subst (λ (most : ℕ). IsSound most t.lane.body) (sym steps.capacity)
    (subst (λ (b : Body). IsSound s.capacity b) (sym lane.body)
    (step_sound (desk_of s moment) unread (event_of s.maker input lane.words) s.lane.body (may_fits s input lane.words may) sound))

pub owns_after : (s t : NodeState) (unread : List Sensed) (input : Input) (moment : ℤ) (acts : List Act) → may_on_lane s input ≡ may_do → Steps s unread input moment t acts → own_of t.lane.body ≡ own_after (own_of s.lane.body) acts
owns_after s t unread input moment acts may steps =
    let lane = steps.lane in
    let own = own_of s.lane.body in
    ap own_of lane.body
    ∙ sym (step_owns (desk_of s moment) unread (event_of s.maker input lane.words) s.lane.body (may_fits s input lane.words may))
    ∙ ap (own_after own) (sym lane.told)
    ∙ sym (signals_silent s.bridge t.lane.body (own_after own steps.made))
    ∙ sym (own_append own steps.made (signalled s.bridge t.lane.body))
    ∙ ap (own_after own) (sym steps.told)

breaks_at : OneMeaning → (s t : NodeState) (unread : List Sensed) (input : Input) (moment : ℤ) (new_maker : Maker) (made acts : List Act)
    → StepsLane (desk_of s moment) unread input s.maker new_maker s.lane t.lane made → acts ≡ made ++ signalled s.bridge t.lane.body
    → IsBrokenOff s unread input moment t acts
breaks_at one s t unread (inputs.Bytes Entry piece) moment new_maker made acts steps behind =
    breaks_off one (desk_of s moment) unread Entry s.lane.entry_bytes piece.now t.lane.entry_bytes steps.words s.lane.body t.lane.body made (signalled s.bridge t.lane.body) acts steps.brings.0 steps.body steps.told behind
breaks_at one s t unread (inputs.Bytes Exit piece) moment new_maker made acts steps behind =
    breaks_off one (desk_of s moment) unread Exit s.lane.exit_bytes piece.now t.lane.exit_bytes steps.words s.lane.body t.lane.body made (signalled s.bridge t.lane.body) acts steps.brings.0 steps.body steps.told behind
breaks_at one s t unread inputs.Connect moment new_maker made acts steps behind = tt
breaks_at one s t unread _ moment new_maker made acts steps behind = tt

-- a step of bytes, by the parts of the machine
pub breaks_after : OneMeaning → (s t : NodeState) (spent : Bool) (desk timed : Desk) (maker new_maker : Maker) (old : Lane)
    (forecasts : List Info) (orders : List Order) (unread : List Sensed) (input : Input) (moment : ℤ)
    (told : Option BridgeLevels) (made acts : List Act)
    → seen_as spent desk maker old forecasts orders ≡ s
    → timed ≡ record desk { moment = moment; asked = length orders }
    → told ≡ levels_told input timed.bridge → StepsLane timed unread input maker new_maker old t.lane made
    → acts ≡ made ++ signalled told t.lane.body
    → IsBrokenOff s unread input moment t acts
breaks_after one s t spent desk timed maker new_maker old forecasts orders unread input moment told made acts view is_timed is_told lane is_acts =
    let P : NodeState → Type 0 = λ n. IsBrokenOff n unread input moment t acts in
    let told_before : told ≡ levels_told input desk.bridge = is_told ∙ ap (λ (d : Desk). levels_told input d.bridge) is_timed in
    subst P view
    (breaks_at one (seen_as spent desk maker old forecasts orders) t unread input moment new_maker made acts
    (subst (λ (d : Desk). StepsLane d unread input maker new_maker old t.lane made) is_timed lane)
    (is_acts ∙ ap (λ (b : Option BridgeLevels). made ++ signalled b t.lane.body) told_before ∙ ap (λ (xs : List Act). made ++ xs) (told_signals input desk.bridge t.lane.body)))

-- ---- a bridge stays willing by the levels of its segment

-- the step leaves the will that its event left
after_wills : (desk : Desk) (unread : List Sensed) (event : Event) (body : Body) → SameWills (event_did desk event (all_read desk unread body).body).body (machine_step desk unread event body).body
after_wills desk unread event body = (announces_keeps desk (event_did desk event (all_read desk unread body).body).body).wills

-- the will of a step whose event is none of the will
step_wills : (desk : Desk) (unread : List Sensed) (event : Event) (body : Body) → IsWilless event → SameWills body (machine_step desk unread event body).body
step_wills desk unread event body none =
    let read = (all_read_keeps 0 desk unread body).wills in
    let met = event_wills desk event (all_read desk unread body).body none in
    let last = after_wills desk unread event body in
    record { entry = last.entry ∙ met.entry ∙ read.entry; exit = last.exit ∙ met.exit ∙ read.exit }

-- a level sets it
level_wills : (desk : Desk) (unread : List Sensed) (line : SegmentLine) (on : Bool) (body : Body) → SameWills (with_level_will line on (all_read desk unread body).body) (machine_step desk unread (Level line on) body).body
level_wills desk unread line on body =
    let one = with_level_will line on (all_read desk unread body).body in
    let met = fails_wills (failed_front desk.bridge line on one) one in
    let last = after_wills desk unread (Level line on) body in
    record { entry = last.entry ∙ met.entry; exit = last.exit ∙ met.exit }

by_levels : (desk : Desk) (unread : List Sensed) (line : SegmentLine) (on : Bool) (before : BridgeLevels) (body : Body) → IsWillingBy before body → IsWillingBy (after_level (inputs.Level line on) before) (machine_step desk unread (Level line on) body).body
by_levels desk unread Ready on before body is =
    let read = (all_read_keeps 0 desk unread body).wills in
    let met = level_wills desk unread Ready on body in
    record { entry = met.entry; exit = met.exit ∙ read.exit ∙ is.exit }
by_levels desk unread Available on before body is =
    let read = (all_read_keeps 0 desk unread body).wills in
    let met = level_wills desk unread Available on body in
    record { entry = met.entry ∙ read.entry ∙ is.entry; exit = met.exit }
by_levels desk unread Failed on before body is =
    let read = (all_read_keeps 0 desk unread body).wills in
    let met = level_wills desk unread Failed on body in
    record { entry = met.entry ∙ read.entry ∙ is.entry; exit = met.exit ∙ read.exit ∙ is.exit }

by_others : (desk : Desk) (unread : List Sensed) (event : Event) (before : BridgeLevels) (body : Body) → IsWilless event → IsWillingBy before body → IsWillingBy before (machine_step desk unread event body).body
by_others desk unread event before body none is =
    let same = step_wills desk unread event body none in
    record { entry = same.entry ∙ is.entry; exit = same.exit ∙ is.exit }

new_willess : (found : Result ℕ IdsUsedUp) (event : ℕ → Event) → ((id : ℕ) → IsWilless (event id)) → IsWilless (with_new found event)
new_willess (Ok id) event none = none id
new_willess (Err why) event none = tt

willing_by : (s : NodeState) (before : BridgeLevels) (unread : List Sensed) (input : Input) (moment : ℤ) (words : List Word) → s.bridge ≡ Some before → may_on_lane s input ≡ may_do → IsWillingBy before s.lane.body
    → IsWillingBy (after_level input before) (machine_step (desk_of s moment) unread (event_of s.maker input words) s.lane.body).body
willing_by s before unread (inputs.Level line on) moment words there may is = by_levels (desk_of s moment) unread line on before s.lane.body is
willing_by s before unread (inputs.Will side on) moment words there may is = absurd (let h = rw there at may in cc)
willing_by s before unread (inputs.Insert barcode) moment words there may is =
    by_others (desk_of s moment) unread (with_new (next_id s.maker) (λ id. Insert id barcode)) before s.lane.body (new_willess (next_id s.maker) (λ id. Insert id barcode) (λ id. tt)) is
willing_by s before unread (inputs.Replace old) moment words there may is =
    by_others (desk_of s moment) unread (with_new (next_id s.maker) (Replace old)) before s.lane.body (new_willess (next_id s.maker) (Replace old) (λ id. tt)) is
willing_by s before unread input moment words there may is = by_others (desk_of s moment) unread (event_of s.maker input words) before s.lane.body tt is

-- the segment's levels are as the input leaves them
willing_levels : (s : NodeState) (bridge : Option BridgeLevels) (unread : List Sensed) (input : Input) (moment : ℤ) (words : List Word) (after : Body) → s.bridge ≡ bridge → may_on_lane s input ≡ may_do → IsWilling bridge s.lane.body
    → after ≡ (machine_step (desk_of s moment) unread (event_of s.maker input words) s.lane.body).body → IsWilling (levels_after input after bridge) after
willing_levels s None unread input moment words after there may is same = tt
willing_levels s (Some before) unread input moment words after there may is same =
    let one = subst (λ (b : Body). IsWillingBy (after_level input before) b) (sym same) (willing_by s before unread input moment words there may is) in
    record { entry = one.entry; exit = one.exit }

pub willing_after : (s t : NodeState) (unread : List Sensed) (input : Input) (moment : ℤ) (acts : List Act) → may_on_lane s input ≡ may_do → Steps s unread input moment t acts → IsWilling s.bridge s.lane.body → IsWilling t.bridge t.lane.body
willing_after s t unread input moment acts may steps is =
    subst (λ (b : Option BridgeLevels). IsWilling b t.lane.body) (sym steps.bridge)
    (willing_levels s s.bridge unread input moment steps.lane.words t.lane.body refl may is steps.lane.body)

-- ---- what a machine of one lane may be given it may be given on a lane of several

pub may_alone : (s : NodeState) (input : Input) → may_of s input ≡ may_do → may_on_lane s input ≡ may_do
may_alone s (inputs.Gives id to) may = cc
may_alone s (inputs.Gets board) may = cc
may_alone s inputs.Nothing may = may
may_alone s _ may = may

-- BEHIND A TURN, for each input, what comes at either side of the machine is timed still; and what its bytes bring is heard in time.
use Rattle.std.proofs.Common.{List, Some, [], ap, drop, false, length, refl, slice_get, subst, suc, sym, take, true, zero, ℕ, ℤ, ◌+◌, ◌-◌, ◌∙◌, ◌∷◌, ◌≡◌, ◌≢◌}
use Rattle.std.specs.Borrow.{Bor}
use Rattle.std.specs.List.{AllByRecursion, list_any}
use Rattle.line_base.specs.declared.states.Side.{Side}
use Rattle.line_base.specs.declared.states.Side.TheVariants.{Entry, Exit}
use Rattle.hermes_horizontal.specs.declared.message.Horizontal.{Horizontal}
use Rattle.hermes_horizontal.specs.declared.message.Horizontal.TheVariants as message
use Rattle.hermes_horizontal.specs.declared.message.Message.{Message}
use Rattle.node_core.specs.Sides.{is_open}
use Rattle.node_core.specs.declared.act.Act.{Act}
use Rattle.node_core.specs.declared.input.Input.{Input}
use Rattle.node_core.specs.declared.input.Input.TheVariants as inputs
use Rattle.law_custody.specs.Bytes.{Flows, texts_of}
use Rattle.law_custody.specs.Talks.{IsCall, call_awaited, call_described}
use Rattle.law_custody.specs.Words.{DownstreamService, UpWord, down_words, up_words}
use Rattle.law_link_messages.specs.Heard.{bodies}
use Rattle.law_one_standing.specs.Carried.{Trace}
use Rattle.law_one_standing.proofs.Carrying.{SaysAlone}
use Rattle.law_running_line.specs.Reading.{Reading}
use Rattle.law_running_line.specs.Running.{Running, count_beyond, count_unread, unread_by}
use Rattle.law_running_line.specs.Stands.{Stands, node_in}
use Rattle.law_running_line.specs.Timed.{IsTimed, awaits_reading}
use Rattle.law_running_line.specs.Turns.{Turns}
use Rattle.law_running_line.specs.Waits.{IsUncome, IsUntaken, SaidUp, Waits, had_above, had_below, has_come, is_of_below, kept_below, not_come, was_left}
use Rattle.law_running_line.specs.Wire.{Coming, Has, Hold, Left, Wire, bytes_of, coming_to, end_at, given, has, most_behind, with_end, with_read}
use Rattle.law_running_line.proofs.TimedBytes.{ComesInTime, timed_free, timed_heard}
use Rattle.law_running_line.proofs.TimedTurn.{Before, Behind, InStep, Read, bytes_at, plain_read, read_count, read_timed, rest_count, walk_changed, walk_plain}
use Rattle.law_running_line.proofs.TimedWalk.{all_at_place, given_of}
use Rattle.law_running_line.proofs.TurnJoined.{placed}
use Rattle.law_running_line.proofs.TurnLinks.{had_of, none_had}
use Rattle.law_running_line.proofs.Waiting.{all_at}
use Rattle.law_running_line.proofs.WiresBytes.{alone_set, amid_get, has_not_false, of_not_false}
use Rattle.law_running_line.proofs.WiresConnect.{all_set_as}
use Rattle.law_running_line.proofs.WiresLink.{Amid, all_from, alone_amid, at_amid, has_is, none_amid, of_is}
use Rattle.law_running_line.proofs.WiresMet.{held_read, given_read, drop_read}
use Rattle.law_running_line.proofs.WiresParts.{all_as, left_has, read_bytes}
use Rattle.law_running_line.proofs.WiresTurn.{is_plain_at, plain_entry_bytes, plain_exit_bytes}

-- ---- words that wait for no reading

-- a message that is no word is none that waits
down_quiet : (what : Horizontal) → down_words (what ∷ []) ≡ [] → awaits_reading Entry what ≡ false
down_quiet (message.ServiceDescription service) none = absurd (cc)
down_quiet (message.TransportFinished state id) none = absurd (cc)
down_quiet _ none = refl

first_down : (what : Horizontal) (rest : List Horizontal) → down_words (what ∷ rest) ≡ [] → (down_words (what ∷ []) ≡ []) × (down_words rest ≡ [])
first_down (message.ServiceDescription service) rest none = absurd (cc)
first_down (message.TransportFinished state id) rest none = absurd (cc)
first_down (message.BoardAvailable board) rest none = absurd (cc)
first_down message.RevokeBoardAvailable rest none = absurd (cc)
first_down _ rest none = (refl, none)

downs_free : (said : List Message) → down_words (bodies said) ≡ [] → AllByRecursion (λ (one : Message). awaits_reading Entry one.body ≡ false) said
downs_free [] none = tt
downs_free (one ∷ said) none = let parts = first_down one.body (bodies said) none in (down_quiet one.body parts.0, downs_free said parts.1)

-- nor is one that is a description, at the exit
data NoStart : List UpWord → Type 0 where
  no_start_none : NoStart []
  no_start_more : {words : List UpWord} → NoStart words → NoStart (DownstreamService ∷ words)

first_up : (what : Horizontal) (rest : List Horizontal) → NoStart (up_words (what ∷ rest)) → (awaits_reading Exit what ≡ false) × NoStart (up_words rest)
first_up (message.StartTransport id) rest n = elim n [ ]
first_up (message.StopTransport state id) rest n = elim n [ ]
first_up (message.MachineReady quality) rest n = elim n [ ]
first_up message.RevokeMachineReady rest n = elim n [ ]
first_up (message.ServiceDescription service) rest (no_start_more n) = (refl, n)
first_up _ rest n = (refl, n)

ups_free : (said : List Message) → NoStart (up_words (bodies said)) → AllByRecursion (λ (one : Message). awaits_reading Exit one.body ≡ false) said
ups_free [] n = tt
ups_free (one ∷ said) n = let parts = first_up one.body (bodies said) n in (parts.0, ups_free said parts.1)

described : {words : List UpWord} → words ≡ DownstreamService ∷ [] → NoStart words
described is = subst (λ (ws : List UpWord). NoStart ws) (sym is) (no_start_more no_start_none)

called : {words : List UpWord} → IsCall words → NoStart words
called call_awaited = no_start_none
called call_described = no_start_more no_start_none

said_free : {hold : Hold} {said : List Horizontal} → SaidUp hold said → NoStart (up_words said)
said_free not_come = no_start_none
said_free (has_come is) = described is
said_free (was_left call) = called call

-- ---- a piece

-- what a connection has as it is taken
pub piece_heard : SaysAlone → (side : Side) {reading : Reading} {machine : ℕ} {piece : Bor (List ℕ)} {moment : ℤ} {before after : Running} {told : List Act} (turn : Turns reading machine (inputs.Bytes side piece) moment before after told) (to : List Coming)
    → IsTimed side (count_unread machine side before) (bytes_at side turn.node) to → piece.now ≢ [] → piece.now ≡ bytes_of (take (length piece.now) to) → most_behind (take (length piece.now) (with_read (read_count side turn) to)) ≡ 0
    → ComesInTime side (rest_count side turn) (bytes_at side turn.next) (is_open side turn.next.lane.body) (drop (length piece.now) (with_read (read_count side turn) to)) turn.steps.lane.words
piece_heard alone Entry {piece = piece} turn to k some front none =
    timed_heard alone (length piece.now) (read_timed Entry turn turn.node.lane.entry_bytes to k) some (front ∙ sym (take_read (length piece.now) (read_count Entry turn) to)) none turn.steps.lane.brings.0
  where
    take_read : (n k : ℕ) (coming : List Coming) → bytes_of (take n (with_read k coming)) ≡ bytes_of (take n coming)
    take_read zero k coming = refl
    take_read (suc n) k [] = refl
    take_read (suc n) k (c ∷ coming) = ap (λ (bytes : List ℕ). c.byte ∷ bytes) (take_read n k coming)
piece_heard alone Exit {piece = piece} turn to k some front none =
    timed_heard alone (length piece.now) (read_timed Exit turn turn.node.lane.exit_bytes to k) some (front ∙ sym (take_read (length piece.now) (read_count Exit turn) to)) none turn.steps.lane.brings.0
  where
    take_read : (n k : ℕ) (coming : List Coming) → bytes_of (take n (with_read k coming)) ≡ bytes_of (take n coming)
    take_read zero k coming = refl
    take_read (suc n) k [] = refl
    take_read (suc n) k (c ∷ coming) = ap (λ (bytes : List ℕ). c.byte ∷ bytes) (take_read n k coming)

-- the wire that is given it
given_read_wire : (side : Side) {reading : Reading} {machine : ℕ} {piece : Bor (List ℕ)} {moment : ℤ} {before after : Running} {told : List Act} (turn : Turns reading machine (inputs.Bytes side piece) moment before after told) (far_count : ℕ) (far : List ℕ) (wire : Wire)
    → ComesInTime side (rest_count side turn) (bytes_at side turn.next) (is_open side turn.next.lane.body) (drop (length piece.now) (with_read (read_count side turn) (coming_to side wire))) turn.steps.lane.words
    → end_at side wire ≡ Has → Before side turn far_count far wire → Read side turn far_count far (given side (length piece.now) wire)
given_read_wire side {piece = piece} turn far_count far wire comes held k =
    let m : ℕ = length piece.now in
    let G : Hold → Hold → List Coming → List Coming → Type 0 = λ own beyond to from. InStep side (is_open side turn.next.lane.body) (rest_count side turn) (bytes_at side turn.next) far_count far own beyond (with_read (read_count side turn) to) from in
    given_of side G m wire
    (λ has_it. record { home = λ own opened. subst (λ (cs : List Coming). IsTimed side (rest_count side turn) (bytes_at side turn.next) cs) (drop_read m (read_count side turn) (coming_to side wire)) (comes.timed opened); away = k.away })
    (λ not. absurd (not held))

-- a connection that the side has not
other_read : (side : Side) {reading : Reading} {machine : ℕ} {input : Input} {moment : ℤ} {before after : Running} {told : List Act} (turn : Turns reading machine input moment before after told) (far_count : ℕ) (far : List ℕ) (wire : Wire)
    → (end_at side wire ≡ Has → ⊥) → Before side turn far_count far wire → Read side turn far_count far wire
other_read side turn far_count far wire not k = record { home = λ has_it opened. absurd (not has_it); away = k.away }

-- ---- at the exit, for each input

abbrev ExitBefore : (j : ℕ) {reading : Reading} {input : Input} {moment : ℤ} {before after : Running} {told : List Act} → Turns reading (j + 1) input moment before after told → List ℕ → Type 0
ExitBefore j {before = before} turn far = AllByRecursion (Before Exit turn (count_beyond (j + 1) Exit before) far) (before.wires (j + 1))

abbrev ExitBehind : (j : ℕ) {reading : Reading} {input : Input} {moment : ℤ} {before after : Running} {told : List Act} → Turns reading (j + 1) input moment before after told → List ℕ → Type 0
ExitBehind j {before = before} {after = after} turn far = AllByRecursion (Behind Exit turn (count_beyond (j + 1) Exit before) far) (after.wires (j + 1))

exit_bytes : SaysAlone → (j : ℕ) {reading : Reading} {piece : Bor (List ℕ)} {moment : ℤ} {before after : Running} {told : List Act} (t : Trace) → Stands t before → (turn : Turns reading (j + 1) (inputs.Bytes Exit piece) moment before after told) (far : List ℕ)
    → most_behind (take (length piece.now) (with_read (read_count Exit turn) turn.meets.at.wire.up)) ≡ 0 → ExitBefore j turn far → ExitBehind j turn far
exit_bytes alone j {piece = piece} {before = before} t st turn far none all =
    let wires : List Wire = before.wires (j + 1) in
    let wire : Wire = turn.meets.at.wire in
    let there : slice_get wires turn.place ≡ Some wire = turn.meets.at.there in
    let n : ℕ = count_beyond (j + 1) Exit before in
    let own : Before Exit turn n far wire = all_at (Before Exit turn n far) wire wires turn.place there all in
    let comes = piece_heard alone Exit turn wire.up (own.home turn.meets.at.held refl) turn.meets.some turn.meets.front none in
    walk_changed Exit j turn far (given Exit (length piece.now)) refl (λ k w. given_read Exit (length piece.now) k w)
    (subst (λ (ws : List Wire). AllByRecursion (Read Exit turn n far) ws) (sym (placed turn.place (given Exit (length piece.now)) wires wire there))
    (alone_set had_above (Before Exit turn n far) (Read Exit turn n far) (λ v not k. other_read Exit turn n far v (has_not_false not) k) (given Exit (length piece.now) wire) (given_read_wire Exit turn n far wire comes turn.meets.at.held own)
    (st.waits (j + 1)).one_above turn.place wire there (has_is turn.meets.at.held) all))

exit_taken : (j : ℕ) {reading : Reading} {moment : ℤ} {before after : Running} {told : List Act} (t : Trace) → Stands t before → (turn : Turns reading (j + 1) inputs.Accepted moment before after told) (far : List ℕ) → ExitBefore j turn far → ExitBehind j turn far
exit_taken j {before = before} t st turn far all =
    let wires : List Wire = before.wires (j + 1) in
    let wire : Wire = turn.meets.0.wire in
    let there : slice_get wires turn.place ≡ Some wire = turn.meets.0.there in
    let n : ℕ = count_beyond (j + 1) Exit before in
    let u : IsUntaken wire = all_at _ wire wires turn.place there (st.waits (j + 1)).untaken turn.meets.0.held in
    let none : list_any had_above wires ≡ false = none_had wires turn.meets.1 in
    let own : Before Exit turn n far wire = all_at (Before Exit turn n far) wire wires turn.place there all in
    let new : Read Exit turn n far (with_end Exit Has wire) = record {
      home = λ has_it opened. subst (λ (bytes : List ℕ). IsTimed Exit (rest_count Exit turn) bytes (with_read (read_count Exit turn) wire.up)) (sym turn.steps.lane.brings.1) (timed_free (rest_count Exit turn) u.said u.says.fit (subst (λ (bytes : List ℕ). Flows [] bytes (texts_of u.said)) (sym (read_bytes (read_count Exit turn) wire.up)) u.says.flows) (ups_free u.said (said_free u.call)));
      away = own.away;
    } in
    let each : AllByRecursion (λ (v : Wire). Amid v wires) wires = all_from (λ (v : Wire). Amid v wires) wires (λ v amid. amid) in
    walk_changed Exit j turn far (with_end Exit Has) refl (λ k w. held_read Exit Has k w)
    (subst (λ (ws : List Wire). AllByRecursion (Read Exit turn n far) ws) (sym (placed turn.place (with_end Exit Has) wires wire there))
    (all_set_as (λ (v : Wire). Amid v wires) (Read Exit turn n far) (λ v amid. other_read Exit turn n far v (has_not_false (none_amid had_above amid none)) (at_amid (Before Exit turn n far) amid all)) (with_end Exit Has wire) new wires turn.place each))

exit_refused : (j : ℕ) {reading : Reading} {moment : ℤ} {before after : Running} {told : List Act} (turn : Turns reading (j + 1) inputs.Second moment before after told) (far : List ℕ) → ExitBefore j turn far → ExitBehind j turn far
exit_refused j {before = before} turn far all =
    let n : ℕ = count_beyond (j + 1) Exit before in
    walk_changed Exit j turn far (with_end Exit Left) refl (λ k w. held_read Exit Left k w)
    (all_at_place (Read Exit turn n far) (with_end Exit Left) (λ wire k. record { home = λ has_it opened. absurd (left_has has_it); away = k.away }) turn.place (before.wires (j + 1))
    (all_as (Before Exit turn n far) (Read Exit turn n far) (λ wire k. plain_read Exit turn n far turn.steps.lane.brings.1 wire k) (before.wires (j + 1)) all))

exit_plain : (j : ℕ) {reading : Reading} {input : Input} {moment : ℤ} {before after : Running} {told : List Act} (turn : Turns reading (j + 1) input moment before after told) (far : List ℕ) → is_plain_at Exit input ≡ true → ExitBefore j turn far → ExitBehind j turn far
exit_plain j {input = input} turn far plain all = walk_plain Exit j turn far plain (plain_exit_bytes input turn.node.lane turn.next.lane turn.steps.lane.words plain turn.steps.lane.brings) all

-- what its bytes bring comes in time
abbrev pub BringsInTime : (j : ℕ) (input : Input) {reading : Reading} {moment : ℤ} {before after : Running} {told : List Act} → Turns reading (j + 1) input moment before after told → Type 0
BringsInTime j (inputs.Bytes Exit piece) turn = most_behind (take (length piece.now) (with_read (read_count Exit turn) turn.meets.at.wire.up)) ≡ 0
BringsInTime j (inputs.Bytes Entry piece) turn = most_behind (take (length piece.now) (with_read (read_count Entry turn) turn.meets.at.wire.down)) ≡ 0
BringsInTime j input turn = Unit {0}

pub exit_timed : SaysAlone → {reading : Reading} (j : ℕ) (input : Input) {moment : ℤ} {before after : Running} {told : List Act} (t : Trace) → Stands t before → (turn : Turns reading (j + 1) input moment before after told) (far : List ℕ) → BringsInTime j input turn
    → ExitBefore j turn far → ExitBehind j turn far
exit_timed alone j (inputs.Bytes Exit piece) t st turn far none all = exit_bytes alone j t st turn far none all
exit_timed alone j inputs.Accepted t st turn far none all = exit_taken j t st turn far all
exit_timed alone j inputs.Second t st turn far none all = exit_refused j turn far all
exit_timed alone j _ t st turn far none all = exit_plain j turn far refl all

-- ---- at the entry

abbrev EntryBefore : (j : ℕ) {reading : Reading} {input : Input} {moment : ℤ} {before after : Running} {told : List Act} → Turns reading (j + 1) input moment before after told → List ℕ → Type 0
EntryBefore j {before = before} turn far = AllByRecursion (Before Entry turn (count_beyond (j + 1) Entry before) far) (before.wires (j + 1 - 1))

abbrev EntryBehind : (j : ℕ) {reading : Reading} {input : Input} {moment : ℤ} {before after : Running} {told : List Act} → Turns reading (j + 1) input moment before after told → List ℕ → Type 0
EntryBehind j {before = before} {after = after} turn far = AllByRecursion (Behind Entry turn (count_beyond (j + 1) Entry before) far) (after.wires (j + 1 - 1))

-- what waits on the link above, by its number as a machine's side has it
entry_waits : (t : Trace) (s : Running) (j : ℕ) → Stands t s → Waits (node_in s (j + 1 - 1)).lane.body (node_in s (j + 1 - 1 + 1)).lane.body (unread_by (j + 1 - 1 + 1) s) (s.wires (j + 1 - 1))
entry_waits t s j st = st.waits (j + 1 - 1)

entry_bytes : SaysAlone → (j : ℕ) {reading : Reading} {piece : Bor (List ℕ)} {moment : ℤ} {before after : Running} {told : List Act} (t : Trace) → Stands t before → (turn : Turns reading (j + 1) (inputs.Bytes Entry piece) moment before after told) (far : List ℕ)
    → most_behind (take (length piece.now) (with_read (read_count Entry turn) turn.meets.at.wire.down)) ≡ 0 → EntryBefore j turn far → EntryBehind j turn far
entry_bytes alone j {piece = piece} {before = before} t st turn far none all =
    let wires : List Wire = before.wires (j + 1 - 1) in
    let wire : Wire = turn.meets.at.wire in
    let there : slice_get wires turn.place ≡ Some wire = turn.meets.at.there in
    let n : ℕ = count_beyond (j + 1) Entry before in
    let own : Before Entry turn n far wire = all_at (Before Entry turn n far) wire wires turn.place there all in
    let comes = piece_heard alone Entry turn wire.down (own.home turn.meets.at.held refl) turn.meets.some turn.meets.front none in
    walk_changed Entry j turn far (given Entry (length piece.now)) refl (λ k w. given_read Entry (length piece.now) k w)
    (subst (λ (ws : List Wire). AllByRecursion (Read Entry turn n far) ws) (sym (placed turn.place (given Entry (length piece.now)) wires wire there))
    (alone_set kept_below (Before Entry turn n far) (Read Entry turn n far) (λ v not k. other_read Entry turn n far v (of_not_false not) k) (given Entry (length piece.now) wire) (given_read_wire Entry turn n far wire comes turn.meets.at.held own)
    (entry_waits t before j st).one_below turn.place wire there (of_is turn.meets.at.held) all))

entry_found : (j : ℕ) {reading : Reading} {moment : ℤ} {before after : Running} {told : List Act} (t : Trace) → Stands t before → (turn : Turns reading (j + 1) inputs.Connect moment before after told) (far : List ℕ) → EntryBefore j turn far → EntryBehind j turn far
entry_found j {before = before} t st turn far all =
    let w = entry_waits t before j st in
    let wires : List Wire = before.wires (j + 1 - 1) in
    let wire : Wire = turn.meets.wire in
    let there : slice_get wires turn.place ≡ Some wire = turn.meets.there in
    let n : ℕ = count_beyond (j + 1) Entry before in
    let u : IsUncome wire = all_at _ wire wires turn.place there w.uncome turn.meets.held in
    let none : list_any had_below wires ≡ false = alone_amid kept_below had_below (λ v not. had_of v.below not) w.one_below (amid_get wires turn.place wire there) (ap is_of_below turn.meets.held) (ap has turn.meets.held) in
    let own : Before Entry turn n far wire = all_at (Before Entry turn n far) wire wires turn.place there all in
    let new : Read Entry turn n far (with_end Entry Has wire) = record {
      home = λ has_it opened. subst (λ (bytes : List ℕ). IsTimed Entry (rest_count Entry turn) bytes (with_read (read_count Entry turn) wire.down)) (sym turn.steps.lane.brings.0)
          (timed_free (rest_count Entry turn) u.said u.says.fit (subst (λ (bytes : List ℕ). Flows [] bytes (texts_of u.said)) (sym (read_bytes (read_count Entry turn) wire.down)) u.says.flows) (downs_free u.said u.quiet));
      away = own.away;
    } in
    let each : AllByRecursion (λ (v : Wire). Amid v wires) wires = all_from (λ (v : Wire). Amid v wires) wires (λ v amid. amid) in
    walk_changed Entry j turn far (with_end Entry Has) refl (λ k w. held_read Entry Has k w)
    (subst (λ (ws : List Wire). AllByRecursion (Read Entry turn n far) ws) (sym (placed turn.place (with_end Entry Has) wires wire there))
    (all_set_as (λ (v : Wire). Amid v wires) (Read Entry turn n far) (λ v amid. other_read Entry turn n far v (has_not_false (none_amid had_below amid none)) (at_amid (Before Entry turn n far) amid all)) (with_end Entry Has wire) new wires turn.place each))

entry_plain : (j : ℕ) {reading : Reading} {input : Input} {moment : ℤ} {before after : Running} {told : List Act} (turn : Turns reading (j + 1) input moment before after told) (far : List ℕ) → is_plain_at Entry input ≡ true → EntryBefore j turn far → EntryBehind j turn far
entry_plain j {input = input} turn far plain all = walk_plain Entry j turn far plain (plain_entry_bytes input turn.node.lane turn.next.lane turn.steps.lane.words plain turn.steps.lane.brings) all

pub entry_timed : SaysAlone → {reading : Reading} (j : ℕ) (input : Input) {moment : ℤ} {before after : Running} {told : List Act} (t : Trace) → Stands t before → (turn : Turns reading (j + 1) input moment before after told) (far : List ℕ) → BringsInTime j input turn
    → EntryBefore j turn far → EntryBehind j turn far
entry_timed alone j (inputs.Bytes Entry piece) t st turn far none all = entry_bytes alone j t st turn far none all
entry_timed alone j inputs.Connect t st turn far none all = entry_found j t st turn far all
entry_timed alone j _ t st turn far none all = entry_plain j turn far refl all

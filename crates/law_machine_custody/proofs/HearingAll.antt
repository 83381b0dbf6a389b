-- A side hears words in time, one after another, up to the first close.
use Rattle.std.proofs.Common.{Bool, List, [], ap, false, refl, subst, sym, true, ◌∷◌, ◌≡◌}
use Rattle.line_base.specs.declared.states.Side.{Side}
use Rattle.line_base.specs.declared.states.Side.TheVariants.{Entry, Exit}
use Rattle.board_record.specs.declared.record.Record.{Record}
use Rattle.board_record.specs.declared.sensed.Sensed.{Sensed}
use Rattle.hermes_horizontal.specs.declared.message.Horizontal.{Horizontal}
use Rattle.hermes_horizontal.specs.declared.message.Message.{Message}
use Rattle.node_core.specs.Connect.{if_open}
use Rattle.node_core.specs.Desk.{Desk}
use Rattle.node_core.specs.Done.{Done, and_then, stays}
use Rattle.node_core.specs.Hears.{hears}
use Rattle.node_core.specs.Session.{breaches}
use Rattle.node_core.specs.Sides.{is_open}
use Rattle.node_core.specs.Words.{all_heard, word_did}
use Rattle.node_core.specs.declared.lane.Body.{Body as Machine}
use Rattle.node_core.specs.declared.word.Word.{Word}
use Rattle.node_core.specs.declared.word.Word.TheVariants.{Says, Wrong}
use Rattle.node_core.proofs.Keeping.{hears_keeps}
use Rattle.node_core.proofs.Offers.{OffersOf}
use Rattle.law_custody.specs.Pair.{Ghost}
use Rattle.law_custody.specs.Words.{events_at}
use Rattle.law_machine_custody.specs.Scene.{Scene, all_met}
use Rattle.law_machine_custody.specs.Ahead.{GoesAhead, IsFreeRead}
use Rattle.law_machine_custody.specs.Good.{Afar, GoesBy, Good}
use Rattle.law_machine_custody.specs.Flight.{AreOldest, oldest_says, oldest_wrong, unheard}
use Rattle.law_machine_custody.specs.InTime.{AreInTime, IsInTime, says_in_time, wrong_in_time}
use Rattle.law_machine_custody.proofs.Announcing.{ahead_then, ahead_then_as}
use Rattle.law_machine_custody.proofs.Closing.{MayFollow, breaches_unread, none_follows}
use Rattle.law_machine_custody.proofs.Goes.{goes_not}
use Rattle.law_machine_custody.proofs.HearingEntry.{entry_hears_unread}
use Rattle.law_machine_custody.proofs.HearingExit.{exit_hears_unread}
use Rattle.law_machine_custody.proofs.HearingFree.{breach_free, entry_hears_free, exit_hears_free}
use Rattle.law_machine_custody.proofs.InTime.{now_in_time}
use Rattle.law_machine_custody.proofs.Listening.{Then, closed, entry_hears_then, exit_hears_then, still}
use Rattle.law_machine_custody.proofs.Listening.{breach_shuts as breach_closes}
use Rattle.law_machine_custody.proofs.Rows.{unheard_above, unheard_below}

-- one message
exit_hears_one : {afar : Afar} {above : List Record} {us : List Sensed} {ga gb : Ghost} (desk : Desk) (message : Message) (rest : List Horizontal) (body : Machine) (c : Scene) → OffersOf body → MayFollow Exit us ga → IsInTime Exit message.body us
    → unheard_below (message.body ∷ rest) c ≡ c → Good afar above us ga gb body c → GoesBy afar above us ga gb c (hears desk Exit message body)
exit_hears_one {afar = afar} {above = above} {us = us} {ga = ga} {gb = gb} desk message rest body c offers n in_time is g =
    subst (λ z. GoesBy afar above us ga gb z (hears desk Exit message body)) is (exit_hears_unread body c desk message rest offers n in_time (subst (λ z. Good afar above us ga gb body z) (sym is) g))

entry_hears_one : {afar : Afar} {above : List Record} {us : List Sensed} {ga gb : Ghost} (desk : Desk) (message : Message) (rest : List Horizontal) (body : Machine) (c : Scene) → MayFollow Entry us ga → IsInTime Entry message.body us
    → unheard_above (message.body ∷ rest) c ≡ c → Good afar above us ga gb body c → GoesBy afar above us ga gb c (hears desk Entry message body)
entry_hears_one {afar = afar} {above = above} {us = us} {ga = ga} {gb = gb} desk message rest body c n in_time is g =
    subst (λ z. GoesBy afar above us ga gb z (hears desk Entry message body)) is (entry_hears_unread body c desk message rest n in_time (subst (λ z. Good afar above us ga gb body z) (sym is) g))

one_unread : {afar : Afar} {above : List Record} {us : List Sensed} {ga gb : Ghost} (desk : Desk) (side : Side) (message : Message) (rest : List Horizontal) (body : Machine) (c : Scene) → OffersOf body → MayFollow side us ga → IsInTime side message.body us
    → unheard side c ≡ message.body ∷ rest → Good afar above us ga gb body c → GoesBy afar above us ga gb c (hears desk side message body)
one_unread desk Entry message rest body c offers n in_time is g = entry_hears_one desk message rest body c n in_time (ap (λ ms. unheard_above ms c) (sym is)) g
one_unread desk Exit message rest body c offers n in_time is g = exit_hears_one desk message rest body c offers n in_time (ap (λ ms. unheard_below ms c) (sym is)) g

pub hears_one : {afar : Afar} {above : List Record} {ga gb : Ghost} (desk : Desk) (side : Side) (message : Message) (rest : List Horizontal) (body : Machine) (c : Scene) → OffersOf body
    → unheard side c ≡ message.body ∷ rest → Good afar above [] ga gb body c → GoesBy afar above [] ga gb c (hears desk side message body)
hears_one {ga = ga} desk side message rest body c offers is g = one_unread desk side message rest body c offers (none_follows ga side) (now_in_time side message.body) is g

one_free : {afar : Afar} {above : List Record} {us : List Sensed} {ga gb : Ghost} (desk : Desk) (side : Side) (message : Message) (body : Machine) (c : Scene) → IsInTime side message.body us
    → Good afar above us ga gb body c → IsFreeRead us body → IsFreeRead us (hears desk side message body).body
one_free desk Entry message body c in_time g r = entry_hears_free desk message body g.entry_role in_time g.above_pair.in r
one_free desk Exit message body c in_time g r = exit_hears_free desk message body g.exit_role r

pub one_then : {afar : Afar} {above : List Record} {us : List Sensed} {ga gb : Ghost} (desk : Desk) (side : Side) (message : Message) (rest : List Horizontal) (body : Machine) (c : Scene)
    → unheard side c ≡ message.body ∷ rest → Good afar above us ga gb body c → Then side rest (hears desk side message body) c
one_then desk Entry message rest body c is g = entry_hears_then desk message rest body c g.entry_role is
one_then desk Exit message rest body c is g = exit_hears_then desk message rest body c g.exit_role is

-- a side without a connection hears nothing
pub deaf : (desk : Desk) (side : Side) (words : List Word) (body : Machine) → is_open side body ≡ false → all_heard desk side words body ≡ stays body
deaf desk side [] body off = refl
deaf desk side (word ∷ others) body off = ap (λ test. if_open test (and_then (word_did desk side word body) (all_heard desk side others)) body) off

-- nothing happens
ahead_not : {afar : Afar} {above : List Record} {us : List Sensed} {ga gb : Ghost} {body : Machine} {c : Scene} → Good afar above us ga gb body c → IsFreeRead us body → GoesAhead afar above us ga gb c (stays body)
ahead_not g r = record { goes = goes_not g; read = r }

if_open_ahead : {afar : Afar} {above : List Record} {us : List Sensed} {ga gb : Ghost} {c : Scene} (test : Bool) (did : Done) (body : Machine) → Good afar above us ga gb body c → IsFreeRead us body
    → GoesAhead afar above us ga gb c did → GoesAhead afar above us ga gb c (if_open test did body)
if_open_ahead true did body g r ahead = ahead
if_open_ahead false did body g r ahead = ahead_not g r

hears_deaf : {afar : Afar} {above : List Record} {us : List Sensed} {ga gb : Ghost} (desk : Desk) (side : Side) (words : List Word) (body : Machine) (c : Scene) → is_open side body ≡ false
    → Good afar above us ga gb body c → IsFreeRead us body → GoesAhead afar above us ga gb c (all_heard desk side words body)
hears_deaf {afar = afar} {above = above} {us = us} {ga = ga} {gb = gb} desk side words body c off g r = subst (λ d. GoesAhead afar above us ga gb c d) (sym (deaf desk side words body off)) (ahead_not g r)

-- behind one word: the others are heard, or there is nobody to hear them
behind_one : {afar : Afar} {above : List Record} {us : List Sensed} (desk : Desk) (side : Side) (words : List Word) (rest : List Horizontal) (d : Done) (c : Scene) {a b : Ghost}
    → (unheard side (all_met d.acts c) ≡ rest → GoesAhead afar above us a b (all_met d.acts c) (all_heard desk side words d.body))
    → Then side rest d c → Good afar above us a b d.body (all_met d.acts c) → IsFreeRead us d.body → GoesAhead afar above us a b (all_met d.acts c) (all_heard desk side words d.body)
behind_one desk side words rest d c go_on (still is) g r = go_on is
behind_one desk side words rest d c go_on (closed off) g r = hears_deaf desk side words d.body (all_met d.acts c) off g r

-- what was read before stays so
still_follows : {afar : Afar} {above : List Record} {us : List Sensed} {ga gb : Ghost} {c : Scene} (d : Done) (side : Side) → MayFollow side us ga → (goes : GoesBy afar above us ga gb c d) → MayFollow side us goes.a
still_follows d Entry n goes = goes.still_first n
still_follows d Exit n goes = n

pub words_ahead : {afar : Afar} {above : List Record} {us : List Sensed} (desk : Desk) (side : Side) (words : List Word) (messages : List Horizontal) {ga gb : Ghost} (body : Machine) (c : Scene) → AreOldest words messages → AreInTime side us words
    → unheard side c ≡ messages → OffersOf body → MayFollow side us ga → Good afar above us ga gb body c → IsFreeRead us body → GoesAhead afar above us ga gb c (all_heard desk side words body)
words_ahead desk side [] messages body c oldest in_time is offers n g r = ahead_not g r
words_ahead {afar = afar} {above = above} {us = us} desk side (Says message ∷ others) _ {ga = ga} {gb = gb} body c (oldest_says {messages = rest} oldest) (says_in_time now later) is offers n g r =
    let one : GoesBy afar above us ga gb c (hears desk side message body) = one_unread desk side message rest body c offers n now is g in
    let first : GoesAhead afar above us ga gb c (hears desk side message body) = record { goes = one; read = one_free desk side message body c now g r } in
    if_open_ahead (is_open side body) (and_then (word_did desk side (Says message) body) (all_heard desk side others)) body g r
    (ahead_then_as (hears desk side message body) (all_heard desk side others) first
    (λ next free. behind_one desk side others rest (hears desk side message body) c
    (λ still_is. words_ahead desk side others rest (hears desk side message body).body (all_met (hears desk side message body).acts c) oldest later still_is ((hears_keeps 0 desk side message body).offers offers) (still_follows (hears desk side message body) side n one) next free)
    (one_then desk side message rest body c is g) next free))
words_ahead desk side (Wrong text ∷ others) messages body c oldest_wrong wrong_in_time is offers n g r =
    if_open_ahead (is_open side body) (and_then (word_did desk side (Wrong text) body) (all_heard desk side others)) body g r
    (ahead_then (breaches desk side text body) (all_heard desk side others) (record { goes = breaches_unread desk side text n g; read = breach_free desk side text body r })
    (λ a b next free. hears_deaf desk side others (breaches desk side text body).body (all_met (breaches desk side text body).acts c) (breach_closes desk side text body) next free))

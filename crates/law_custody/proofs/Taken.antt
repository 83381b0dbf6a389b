-- A connection is taken by one end alone: above before it came below, and one that has no end below.
use Rattle.std.proofs.Common.{Bool, List, None, Option, [], false, refl, true, ℕ, ◌∷◌, ◌≡◌}
use Rattle.line_base.specs.declared.states.SensorEvent.{SensorEvent}
use Rattle.board_record.specs.declared.record.Record.{Record}
use Rattle.hermes_horizontal.specs.declared.message.Horizontal.{Horizontal}
use Rattle.hermes_horizontal.specs.declared.message.Horizontal.TheVariants as message
use Rattle.hermes_horizontal.specs.declared.message.Service.{Service}
use Rattle.session_core.specs.declared.state.SessionState.{SessionState}
use Rattle.session_core.specs.declared.state.SessionState.TheVariants.{Handshake, NotConnected}
use Rattle.handover_out.specs.declared.phase.Phase.{Phase as Out}
use Rattle.handover_in.specs.State.{may_connect}
use Rattle.handover_in.specs.declared.phase.Phase.{Phase as In}
use Rattle.law_custody.specs.Apart.{entry_none, entry_waits, entry_waits_heard, entry_waits_in, exit_called, exit_called_stuck, exit_described, exit_described_stuck, exit_none, exit_none_stuck, exit_shaking, exit_shaking_stuck}
use Rattle.law_custody.specs.Contents.{open_none}
use Rattle.law_custody.specs.Events.{IsContent}
use Rattle.law_custody.specs.Floor.{EntryFloor, ExitFloor}
use Rattle.law_custody.specs.Pair.{Ghost, LinkState, Pair}
use Rattle.law_custody.specs.Place.{Place}
use Rattle.law_custody.specs.Talks.{IsCall, Talks, apart, apart_start, apart_start_stop, call_awaited, call_described, shaking_idle, shaking_stuck, shaking_stuck_waiting, shaking_waiting}
use Rattle.law_custody.specs.Words.{DownWord, DownstreamService, UpWord, down_words, starts_in, up_words}
use Rattle.law_custody.proofs.Connect.{May, may}
use Rattle.law_custody.proofs.Contents.{none_open}
use Rattle.law_custody.proofs.LinkEvents.{calls_again}

-- ---- taken above first: the connection comes below, where its exit shakes hands already

pub come : {b : Bool} {o : Out} {of : Option ℕ} {rd : Bool} {i : In} {f : Option Record} {ri : Bool} {p : Place} {r : Record} {down : List DownWord} {ue un : List SensorEvent} {xd ed : Bool}
    → May i → Talks b Handshake o of rd NotConnected i f ri p [] down → ExitFloor o ue xd p r → EntryFloor i un ed p r
    → Talks true Handshake o of rd Handshake i f ri p (DownstreamService ∷ []) []
come m (apart exit_shaking entry_none) _ _ = shaking_idle
come m (apart exit_shaking entry_waits) _ _ = elim m [ ]
come m (apart exit_shaking entry_waits_in) _ _ = shaking_waiting
come m (apart exit_shaking (entry_waits_heard _)) _ _ = elim m [ ]
come m (apart exit_shaking_stuck entry_none) _ _ = shaking_stuck
come m (apart exit_shaking_stuck entry_waits) _ _ = elim m [ ]
come m (apart exit_shaking_stuck entry_waits_in) _ _ = shaking_stuck_waiting

-- what was said down before then is no word
pub comes_below : (g : Ghost) (l : LinkState) (service : Service) (down : List Horizontal) → Pair g l → may_connect l.intake.phase ≡ true → l.exit ≡ Handshake → up_words l.up ≡ [] → l.entry ≡ NotConnected
    → down_words down ≡ []
    → Pair g (record l { entry = Handshake; stands = true; up = message.ServiceDescription service ∷ []; down = down })
comes_below g l service down k m x u y d =
    let t = come (may l.intake.phase m) (rw (x, u, y) at k.talk) k.out k.in in
    record { out = k.out; «in» = k.in; gap = k.gap; talk = rw (x, d) t }

-- an entry without a session has no offer
pub offerless : {b : Bool} {x : SessionState} {o : Out} {of : Option ℕ} {rd : Bool} {i : In} {f : Option Record} {ri : Bool} {p : Place} {up : List UpWord} {down : List DownWord}
    → Talks b x o of rd NotConnected i f ri p up down → f ≡ None
offerless (apart_start _ _) = refl
offerless (apart_start_stop _ _) = refl
offerless (apart _ entry_none) = refl
offerless (apart _ entry_waits) = refl
offerless (apart _ entry_waits_in) = refl
offerless (apart _ (entry_waits_heard _)) = refl

pub come_contents : {Gone : ℕ → Type 0} (g : Ghost) (l : LinkState) (service : Service) (down : List Horizontal) (kept : List Record) → Pair g l → l.entry ≡ NotConnected → down_words down ≡ []
    → IsContent Gone (record l { entry = Handshake; stands = true; up = message.ServiceDescription service ∷ []; down = down }) kept
come_contents g l service down kept k y d = record { offers = rw d open_none; offer = none_open (offerless (rw y at k.talk)); start = λ r _ _ some. absurd (some refl) }

-- ---- taken above alone: it has not come below, or has been left there

take_call_alone : {b : Bool} {y : SessionState} {o : Out} {of : Option ℕ} {rd : Bool} {i : In} {f : Option Record} {ri : Bool} {p : Place} {up us : List UpWord} {down : List DownWord}
    → IsCall us → Talks b NotConnected o of rd y i f ri p up down → Talks b Handshake o of rd y i f ri p us down
take_call_alone call_awaited (apart exit_none a) = apart exit_shaking a
take_call_alone call_awaited (apart exit_none_stuck a) = apart exit_shaking_stuck a
take_call_alone call_awaited (apart exit_called a) = apart exit_shaking a
take_call_alone call_awaited (apart exit_called_stuck a) = apart exit_shaking_stuck a
take_call_alone call_described (apart exit_none a) = apart exit_described a
take_call_alone call_described (apart exit_none_stuck a) = apart exit_described_stuck a
take_call_alone call_described (apart exit_called a) = apart exit_described a
take_call_alone call_described (apart exit_called_stuck a) = apart exit_described_stuck a

-- one description at most is on its way to it
pub taken_alone : (g : Ghost) (l : LinkState) (up : List Horizontal) → Pair g l → l.exit ≡ NotConnected → IsCall (up_words up) → Pair g (record l { exit = Handshake; up = up })
taken_alone g l up k x call = record { out = k.out; «in» = k.in; gap = k.gap; talk = take_call_alone call (rw x at k.talk) }

call_starts : {us : List UpWord} → IsCall us → starts_in us ≡ []
call_starts call_awaited = refl
call_starts call_described = refl

pub taken_contents : {Gone : ℕ → Type 0} (l : LinkState) (up : List Horizontal) (kept : List Record) → IsCall (up_words up) → IsContent Gone l kept → IsContent Gone (record l { exit = Handshake; up = up }) kept
taken_contents l up kept call c = record { offers = c.offers; offer = c.offer; start = λ r _ _ some. absurd (some (call_starts call)) }

-- ---- it comes below alone: the exit has another, or has left this one

unheard : {b : Bool} {x : SessionState} {o : Out} {of : Option ℕ} {rd : Bool} {i : In} {f : Option Record} {ri : Bool} {p : Place} {up : List UpWord} {down : List DownWord}
    → Talks b x o of rd NotConnected i f ri p up down → down ≡ []
unheard (apart_start _ _) = refl
unheard (apart_start_stop _ _) = refl
unheard (apart _ entry_none) = refl
unheard (apart _ entry_waits) = refl
unheard (apart _ entry_waits_in) = refl
unheard (apart _ (entry_waits_heard _)) = refl

-- what flows to an entry without a session is heard by none, as long as it is no word
pub told_none : (g : Ghost) (l : LinkState) (down : List Horizontal) → Pair g l → l.entry ≡ NotConnected → down_words down ≡ [] → Pair g (record l { down = down })
told_none g l down k y d =
    let n = unheard (rw y at k.talk) in
    record { out = k.out; «in» = k.in; gap = k.gap; talk = rw d (rw n at k.talk) }

pub told_contents : {Gone : ℕ → Type 0} (l : LinkState) (down : List Horizontal) (kept : List Record) → down_words down ≡ [] → IsContent Gone l kept → IsContent Gone (record l { down = down }) kept
told_contents l down kept d c = record { offers = rw d open_none; offer = c.offer; start = c.start }

-- such an end is on no link that stands
pub stands_not : {b : Bool} {x : SessionState} {o : Out} {of : Option ℕ} {rd : Bool} {i : In} {f : Option Record} {ri : Bool} {p : Place} {up : List UpWord} {down : List DownWord}
    → Talks b x o of rd NotConnected i f ri p up down → b ≡ false
stands_not (apart_start _ _) = refl
stands_not (apart_start_stop _ _) = refl
stands_not (apart _ entry_none) = refl
stands_not (apart _ entry_waits) = refl
stands_not (apart _ entry_waits_in) = refl
stands_not (apart _ (entry_waits_heard _)) = refl

pub comes_alone : (g : Ghost) (l : LinkState) (down : List Horizontal) → Pair g l → may_connect l.intake.phase ≡ true → l.entry ≡ NotConnected → down_words down ≡ []
    → Pair g (record l { entry = Handshake; down = down })
comes_alone g l down k m y d = calls_again g (record l { down = down }) (told_none g l down k y d) m y

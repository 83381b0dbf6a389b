-- The events of a link: it is connected, and cut.
use Rattle.std.proofs.Common.{List, [], refl, true, ℕ, ◌∷◌, ◌≡◌}
use Rattle.board_record.specs.declared.record.Record.{Record}
use Rattle.hermes_horizontal.specs.declared.message.Horizontal.{Horizontal}
use Rattle.hermes_horizontal.specs.declared.message.Horizontal.TheVariants as message
use Rattle.hermes_horizontal.specs.declared.message.Service.{Service}
use Rattle.session_core.specs.declared.state.SessionState.TheVariants.{Handshake, NotConnected}
use Rattle.handover_in.specs.State.{may_connect}
use Rattle.law_custody.specs.Apart.{entry_none, exit_none}
use Rattle.law_custody.specs.Contents.{open_none}
use Rattle.law_custody.specs.Events.{IsContent, called_on, cut_on}
use Rattle.law_custody.specs.Floor.{gap_fresh, in_free, no_full_none, none_taken, out_idle}
use Rattle.law_custody.specs.Floors.{new_link, nobody}
use Rattle.law_custody.specs.Pair.{Ghost, LinkState, Pair}
use Rattle.law_custody.specs.Place.{Fresh, not_across_fresh, not_begun_fresh}
use Rattle.law_custody.specs.Talks.{apart}
use Rattle.law_custody.specs.Words.{down_words, sent, starts_in, up_words}
use Rattle.law_custody.proofs.Connect.{call, connect, may, take_call}
use Rattle.law_custody.proofs.Contents.{none_open}
use Rattle.law_custody.proofs.Lists.{sent_down, sent_up}
use Rattle.law_custody.proofs.Sessions.{shaking_offerless}
use Rattle.law_custody.proofs.Split.{contents_cut, cut}

-- the downstream machine opens a connection to an exit that has none: it describes itself
pub calls_upstream : (g : Ghost) (l : LinkState) (service : Service) → Pair g l → may_connect l.intake.phase ≡ true → l.exit ≡ NotConnected → l.entry ≡ NotConnected
    → Pair g (called_on l service)
calls_upstream g l service k m x y =
    let t = rw (x, y) at k.talk in
    let u = call (may l.intake.phase m) t in
    record { out = k.out; «in» = k.in; gap = k.gap; talk = rw x u }

-- and to one that has one already: nothing is said, and the link doesn't stand
pub calls_again : (g : Ghost) (l : LinkState) → Pair g l → may_connect l.intake.phase ≡ true → l.entry ≡ NotConnected → Pair g (record l { entry = Handshake })
calls_again g l k m y = record { out = k.out; «in» = k.in; gap = k.gap; talk = connect (may l.intake.phase m) (rw y at k.talk) }

-- the exit takes the connection: it stands then, and the description is on its way
pub takes_the_call : (g : Ghost) (l : LinkState) (service : Service) (rest : List Horizontal)
    → Pair g (record l { up = message.ServiceDescription service ∷ rest; down = [] }) → l.exit ≡ NotConnected → l.entry ≡ Handshake
    → Pair g (record l { exit = Handshake; stands = true; up = message.ServiceDescription service ∷ rest; down = [] })
takes_the_call g l service rest k x y =
    let t = rw (x, y) at k.talk in
    let u = take_call t k.out k.in in
    record { out = k.out; «in» = k.in; gap = k.gap; talk = rw y u }

-- what was offered on them
pub call_contents : {Gone : ℕ → Type 0} (l : LinkState) (service : Service) (kept : List Record) → IsContent Gone l kept → IsContent Gone (called_on l service) kept
call_contents l service kept c = record { offers = c.offers; offer = c.offer; start = λ r _ _ some. absurd (some refl) }

pub taken_call_contents : {Gone : ℕ → Type 0} (g : Ghost) (l : LinkState) (service : Service) (rest : List Horizontal) (kept : List Record)
    → Pair g (record l { up = message.ServiceDescription service ∷ rest; down = [] }) → l.entry ≡ Handshake → starts_in (up_words rest) ≡ []
    → IsContent Gone (record l { exit = Handshake; stands = true; up = message.ServiceDescription service ∷ rest; down = [] }) kept
taken_call_contents g l service rest kept k y quiet = record { offers = open_none; offer = none_open (shaking_offerless (rw y at k.talk)); start = λ r _ _ some. absurd (some quiet) }

-- a cut: what flows either way is gone
pub is_cut : (g : Ghost) (l : LinkState) → Pair g l → Pair g (cut_on l)
is_cut g l k = record { out = k.out; «in» = k.in; gap = k.gap; talk = cut k.talk }

pub cut_contents : {Gone : ℕ → Type 0} (l : LinkState) (kept : List Record) → IsContent Gone l kept → IsContent Gone (cut_on l) kept
cut_contents l kept c = contents_cut c

-- a message that is no word: CheckAlive, a Notification, a query of board information and its answer
pub passes_up : (g : Ghost) (l : LinkState) (m : Horizontal) (rest : List Horizontal) → up_words (m ∷ rest) ≡ up_words rest → Pair g (record l { up = m ∷ rest })
    → Pair g (record l { up = rest })
passes_up g l m rest e k = record { out = k.out; «in» = k.in; gap = k.gap; talk = rw e at k.talk }

pub passes_down : (g : Ghost) (l : LinkState) (m : Horizontal) (rest : List Horizontal) → down_words (m ∷ rest) ≡ down_words rest → Pair g (record l { down = m ∷ rest })
    → Pair g (record l { down = rest })
passes_down g l m rest e k = record { out = k.out; «in» = k.in; gap = k.gap; talk = rw e at k.talk }

pub says_aside_up : (g : Ghost) (l : LinkState) (ms : List Horizontal) → up_words ms ≡ [] → Pair g l → Pair g (record l { up = sent ms l.stands l.up })
says_aside_up g l ms e k = record { out = k.out; «in» = k.in; gap = k.gap; talk = rw (sent_up l.stands ms l.up, e) k.talk }

pub says_aside_down : (g : Ghost) (l : LinkState) (ms : List Horizontal) → down_words ms ≡ [] → Pair g l → Pair g (record l { down = sent ms l.stands l.down })
says_aside_down g l ms e k = record { out = k.out; «in» = k.in; gap = k.gap; talk = rw (sent_down l.stands ms l.down, e) k.talk }

-- a new link
pub new_pair : Pair (record { place = Fresh; board = nobody }) new_link
new_pair = record { out = out_idle none_taken not_begun_fresh; «in» = in_free no_full_none not_across_fresh; gap = gap_fresh; talk = apart exit_none entry_none }

-- The exit offers the front of its kept boards, and takes its offer back.
use Rattle.std.proofs.Common.{Bool, List, None, Option, Some, [], false, refl, true, ℕ, ◌∷◌, ◌≡◌}
use Rattle.board_record.specs.declared.record.Record.{Record}
use Rattle.session_core.specs.declared.state.SessionState.{SessionState}
use Rattle.session_core.specs.declared.state.SessionState.TheVariants.{Standing}
use Rattle.handover_out.specs.Act.{sends as out_sent}
use Rattle.handover_out.specs.Row.{outlet_row}
use Rattle.handover_out.specs.declared.act.OutSend.TheVariants as out_sends
use Rattle.handover_out.specs.declared.input.OutInput.TheVariants as out_input
use Rattle.handover_out.specs.declared.phase.Phase.TheVariants as out
use Rattle.handover_in.specs.declared.phase.Phase.{Phase as In}
use Rattle.law_custody.specs.Apart.{exit_idle}
use Rattle.law_custody.specs.Contents.{Contents, named_front}
use Rattle.law_custody.specs.Place.{Place}
use Rattle.law_custody.specs.Shape.{inside_awaited, no_handover, start_and_stop_sent, start_sent, stop_heard}
use Rattle.law_custody.specs.Steps.{outlet}
use Rattle.law_custody.specs.Talks.{Talks, apart, apart_start, apart_start_stop, described, described_waiting, live}
use Rattle.law_custody.specs.Words.{BoardAvailable, DownWord, RevokeBoardAvailable, UpWord, sent}
use Rattle.law_custody.proofs.Contents.{not_standing, touched_front}
use Rattle.law_custody.proofs.Flight.{finishes_more, offers_offer, offers_revoke, stale_one_offer, stale_one_revoke}
use Rattle.law_custody.proofs.Open.{offer_map, open_map, open_offer, open_revoke}

pub row_of_offer : (t : Option ℕ) (rd : Bool) (x : ℕ)
    → outlet_row (outlet out.Idle None t rd) (out_input.Offer x) ≡ Some (record { after = outlet out.Idle (Some x) (Some x) rd; act = out_sent out_sends.BoardAvailable })
row_of_offer t rd x = refl

pub row_of_revoke : (t : Option ℕ) (rd : Bool) (x : ℕ)
    → outlet_row (outlet out.Idle (Some x) t rd) out_input.Revoke ≡ Some (record { after = outlet out.Idle None t rd; act = out_sent out_sends.RevokeBoardAvailable })
row_of_revoke t rd x = refl

pub announce_offer : {b : Bool} {y : SessionState} {rd : Bool} {i : In} {f : Option Record} {ri : Bool} {p : Place} {up : List UpWord} {down : List DownWord} (q : Record)
    → Talks b Standing out.Idle None rd y i f ri p up down → Talks b Standing out.Idle (Some q.id) rd y i f ri p up (sent (BoardAvailable q ∷ []) b down)
announce_offer q (live (no_handover a c)) = live (no_handover a (offers_offer q c))
announce_offer q (live (start_sent a c)) = live (start_sent a (stale_one_offer q c))
announce_offer q (live (start_and_stop_sent a c)) = live (start_and_stop_sent a (stale_one_offer q c))
announce_offer q (live (stop_heard c d)) = live (stop_heard (finishes_more (BoardAvailable q) c) (offers_offer q d))
announce_offer q (live (inside_awaited a c)) = live (inside_awaited a (offers_offer q c))
announce_offer q (described c) = described (offers_offer q c)
announce_offer q (described_waiting c) = described_waiting (offers_offer q c)
announce_offer q (apart_start a c) = apart_start a c
announce_offer q (apart_start_stop a c) = apart_start_stop a c
announce_offer q (apart (exit_idle a) c) = apart (exit_idle a) c

pub announce_revoke : {b : Bool} {y : SessionState} {z : ℕ} {rd : Bool} {i : In} {f : Option Record} {ri : Bool} {p : Place} {up : List UpWord} {down : List DownWord}
    → Talks b Standing out.Idle (Some z) rd y i f ri p up down → Talks b Standing out.Idle None rd y i f ri p up (sent (RevokeBoardAvailable ∷ []) b down)
announce_revoke (live (no_handover a c)) = live (no_handover a (offers_revoke c))
announce_revoke (live (start_sent a c)) = live (start_sent a (stale_one_revoke c))
announce_revoke (live (start_and_stop_sent a c)) = live (start_and_stop_sent a (stale_one_revoke c))
announce_revoke (live (stop_heard c d)) = live (stop_heard (finishes_more RevokeBoardAvailable c) (offers_revoke d))
announce_revoke (live (inside_awaited a c)) = live (inside_awaited a (offers_revoke c))
announce_revoke (described c) = described (offers_revoke c)
announce_revoke (described_waiting c) = described_waiting (offers_revoke c)
announce_revoke (apart_start a c) = apart_start a c
announce_revoke (apart_start_stop a c) = apart_start_stop a c
announce_revoke (apart (exit_idle a) c) = apart (exit_idle a) c

-- the offered record is that of the front, which is touched now
pub contents_offer : {Gone : ℕ → Type 0} {q : Record} {ks : List Record} {t last : Option ℕ} {i : In} {f : Option Record} {up : List UpWord} {down : List DownWord} (b : Bool)
    → Contents Gone b (q ∷ ks) t last i f up down → Contents Gone b (q ∷ ks) (Some q.id) (Some q.id) i f up (sent (BoardAvailable q ∷ []) b down)
contents_offer {q = q} true h = record { offers = open_offer q named_front (open_map touched_front h.offers); offer = offer_map touched_front h.offer; start = λ r s k some. touched_front r (h.start r s k some) }
contents_offer false h = record { offers = open_map touched_front h.offers; offer = offer_map touched_front h.offer; start = λ r s _ _. absurd (not_standing s) }

pub contents_revoke : {Gone : ℕ → Type 0} {ks : List Record} {t last : Option ℕ} {i : In} {f : Option Record} {up : List UpWord} {down : List DownWord} (b : Bool)
    → Contents Gone b ks t last i f up down → Contents Gone b ks t last i f up (sent (RevokeBoardAvailable ∷ []) b down)
contents_revoke true h = record { offers = open_revoke h.offers; offer = h.offer; start = h.start }
contents_revoke false h = record { offers = h.offers; offer = h.offer; start = h.start }

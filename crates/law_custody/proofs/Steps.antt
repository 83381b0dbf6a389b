-- From the families to the values of a link: once for all events of an exit, and once for all of an entry.
use Rattle.std.proofs.Common.{Bool, List, None, Option, Some, [], ap, append-nil, append_assoc, false, is_some, map, refl, subst, sym, true, ℕ, ◌++◌, ◌∙◌, ◌∷◌, ◌≡◌}
use Rattle.line_base.specs.declared.states.Side.TheVariants as sides
use Rattle.board_record.specs.declared.record.Record.{Record}
use Rattle.board_record.specs.declared.sensed.Sensed.{Sensed}
use Rattle.hermes_horizontal.specs.declared.message.Horizontal.{Horizontal}
use Rattle.line_world.specs.declared.board.Board.{Board}
use Rattle.handover_out.specs.State.{board_of_phase as held_out}
use Rattle.handover_out.specs.declared.input.OutInput.{OutInput}
use Rattle.handover_out.specs.declared.phase.Phase.{Phase as Out}
use Rattle.handover_in.specs.State.{board_of_phase as held_in, passes_offers_over}
use Rattle.handover_in.specs.declared.input.InInput.{InInput}
use Rattle.handover_in.specs.declared.phase.Phase.{Phase as In}
use Rattle.law_custody.specs.Contents.{Contents, Named, OfferIs, OpenAll}
use Rattle.law_custody.specs.Events.{EntryStep, ExitStep, entry_after, exit_after}
use Rattle.law_custody.specs.LookBack.{Asked, asked_after, dropped_after}
use Rattle.law_custody.specs.Pair.{Body, Ghost, LinkState, Pair, board_of, listed, listed_last, part}
use Rattle.law_custody.specs.Place.{Place, is_inside, is_upstream}
use Rattle.law_custody.specs.Steps.{EntryDid, ExitDid}
use Rattle.law_custody.specs.Words.{DownWord, UpWord, down_words, events_at, in_says, out_says, sent, starts_in, up_words}
use Rattle.law_custody.proofs.Lists.{sent_down, sent_up}
use Rattle.law_custody.proofs.Starts.{starts-append}

pub pair_exit : {Gone : ℕ → Type 0} {before : List UpWord} (g : Ghost) (l : LinkState) (w : OutInput) (unread : List Sensed) (up ms : List Horizontal) → Pair g l
    → (did : ExitDid Gone w l.outlet (events_at sides.Exit unread) l.around.between.exit_drive l.stands l.exit l.entry l.intake.phase l.intake.offer l.intake.ready g.place g.board before (up_words up) (down_words l.down))
    → down_words ms ≡ out_says did.row.act.send None
    → Pair g (exit_after l did.row unread up ms)
pair_exit g l w unread up ms k did e = record { out = did.out; «in» = k.in; gap = k.gap; talk = rw (sent_down l.stands ms l.down, e) did.talk }

pub pair_entry : {Q : Record → Type 0} {before : List DownWord} (g : Ghost) (l : LinkState) (w : InInput) (unread : List Sensed) (down ms : List Horizontal) → Pair g l
    → (did : EntryDid Q w l.intake (events_at sides.Entry unread) l.around.between.entry_drive l.stands l.exit l.outlet.phase l.outlet.offered l.outlet.ready l.entry g.place g.board (up_words l.up) before (down_words down))
    → up_words ms ≡ in_says did.row.act.send
    → Pair g (entry_after l did.row unread down ms)
pair_entry g l w unread down ms k did e = record { out = k.out; «in» = did.in; gap = k.gap; talk = rw (sent_up l.stands ms l.up, e) did.talk }

-- the boards of a machine up to the kept ones, and from them on
pub body_exit : {o o2 : Out} {p p2 : Place} {kept kept2 : List Record} {i : In} {q : Place} {boards : List Board}
    → listed o p kept ≡ listed o2 p2 kept2 → Body o p kept i q boards → Body o2 p2 kept2 i q boards
body_exit {o = o} {o2 = o2} {p = p} {p2 = p2} {kept = kept} {kept2 = kept2} {i = i} {q = q} e s = record {
  same = s.same ∙ sym (append_assoc (part (held_out o) (is_upstream p)) (map board_of kept) (part (held_in i) (is_inside q)))
      ∙ ap (λ xs. xs ++ part (held_in i) (is_inside q)) e ∙ append_assoc (part (held_out o2) (is_upstream p2)) (map board_of kept2) (part (held_in i) (is_inside q));
}

pub body_entry : {o : Out} {p : Place} {kept kept2 : List Record} {i i2 : In} {q q2 : Place} {boards : List Board}
    → listed_last i q kept ≡ listed_last i2 q2 kept2 → Body o p kept i q boards → Body o p kept2 i2 q2 boards
body_entry {o = o} {p = p} e s = record { same = s.same ∙ ap (λ xs. part (held_out o) (is_upstream p) ++ xs) e }

pub exit_step : {Gone : ℕ → Type 0} (g : Ghost) (l : LinkState) (w : OutInput) (unread : List Sensed) (rest : List Horizontal) → Pair g l
    → ExitDid Gone w l.outlet (events_at sides.Exit unread) l.around.between.exit_drive l.stands l.exit l.entry l.intake.phase l.intake.offer l.intake.ready g.place g.board (up_words l.up) (up_words rest) (down_words l.down)
    → ExitStep Gone g l w unread rest
exit_step g l w unread rest k did = record {
  row = did.row;
  is = did.is;
  pair = λ ms e. pair_exit g l w unread rest ms k did e;
  body = λ kept i q boards s. body_exit (did.body kept) s;
  contents = λ kept ms e c. rw (sent_down l.stands ms l.down, e) (did.contents kept l.last_offer c);
  lets = did.lets;
  asked = λ ms last dropped a. rw (did.answers last, sym did.starts) a;
}

-- what an entry says starts nothing, but at a start
pub still_quiet : (ws : List UpWord) (b : Bool) (us : List UpWord) → starts_in ws ≡ [] → starts_in (sent ws b us) ≡ starts_in us
still_quiet [] b us _ = refl
still_quiet (w ∷ ws) true us d = starts-append us (w ∷ ws) ∙ ap (λ ids. starts_in us ++ ids) d ∙ append-nil (starts_in us)
still_quiet (w ∷ ws) false us _ = refl

pub still_starts : (b : Bool) (ms us : List Horizontal) (ws : List UpWord) → up_words ms ≡ ws → starts_in ws ≡ [] → starts_in (up_words (sent ms b us)) ≡ starts_in (up_words us)
still_starts b ms us ws e quiet = ap starts_in (sent_up b ms us ∙ ap (λ ws. sent ws b (up_words us)) e) ∙ still_quiet ws b (up_words us) quiet

pub entry_contents : {Gone : ℕ → Type 0} {b : Bool} {kept : List Record} {t last : Option ℕ} {i i2 : In} {f f2 : Option Record} {up us : List UpWord} {before down : List DownWord}
    → ((q : Record) → held_in i2 ≡ Some q → held_in i ≡ Some q) → starts_in us ≡ starts_in up
    → OpenAll (Named Gone b kept t last) (passes_offers_over i2) down × OfferIs (Named Gone b kept t last) f2
    → Contents Gone b kept t last i f up before → Contents Gone b kept t last i2 f2 us down
entry_contents holds e o c = record { offers = o.0; offer = o.1; start = λ r s k some. c.start r s (holds r k) (λ none. some (e ∙ none)) }

pub entry_step : {Gone : ℕ → Type 0} {above : List Record} (g : Ghost) (l : LinkState) (w : InInput) (unread : List Sensed) (rest : List Horizontal) → Pair g l
    → EntryDid (Named Gone l.stands above l.outlet.touched l.last_offer) w l.intake (events_at sides.Entry unread) l.around.between.entry_drive l.stands l.exit l.outlet.phase l.outlet.offered l.outlet.ready l.entry g.place g.board (up_words l.up) (down_words l.down) (down_words rest)
    → EntryStep Gone above g l w unread rest
entry_step g l w unread rest k did = record {
  row = did.row;
  is = did.is;
  pair = λ ms e. pair_entry g l w unread rest ms k did e;
  body = λ o p kept boards s. body_entry (did.body kept) s;
  contents = λ ms e c. entry_contents did.holds (still_starts l.stands ms l.up (in_says did.row.act.send) e did.quiet) (did.opened c.offers c.offer) c;
  settles = did.settles;
  recalls = did.recalls;
  asked = λ ms e last dropped a. subst (λ ids. Asked ids (asked_after did.row.act.deed last) (dropped_after did.row.act.deed dropped) (is_some (held_in did.row.after.phase))) (sym (still_starts l.stands ms l.up (in_says did.row.act.send) e did.quiet)) (did.asked last dropped a);
}

-- An event that an intake passes over, or that changes its offer alone; and one that ends its handover.
use Rattle.std.proofs.Common.{Bool, List, None, Option, Some, [], ap, false, map, refl, subst, sym, unwrap_or, ℕ, ◌++◌, ◌∙◌, ◌≡◌}
use Rattle.line_base.specs.declared.states.SensorEvent.{SensorEvent}
use Rattle.board_record.specs.declared.record.Record.{Record}
use Rattle.session_core.specs.declared.state.SessionState.{SessionState}
use Rattle.handover_out.specs.State.{board_of_phase as held_out}
use Rattle.handover_out.specs.declared.phase.Phase.{Phase as Out}
use Rattle.handover_in.specs.Act.{nothing as in_nothing, settles}
use Rattle.handover_in.specs.Row.{intake_row}
use Rattle.handover_in.specs.State.{board_of_phase as held_in, passes_offers_over}
use Rattle.handover_in.specs.declared.act.InDeed.TheVariants as in_deeds
use Rattle.handover_in.specs.declared.act.InSend.{InSend}
use Rattle.handover_in.specs.declared.input.InInput.{InInput}
use Rattle.handover_in.specs.declared.phase.Phase.{Phase as In}
use Rattle.handover_in.specs.declared.phase.Phase.TheVariants as inn
use Rattle.law_custody.specs.Contents.{OfferIs, OpenAll}
use Rattle.law_custody.specs.Floor.{EntryFloor}
use Rattle.law_custody.specs.LookBack.{IsSaid, Recalls, Since, asks_nothing, since_after}
use Rattle.law_custody.specs.Pair.{board_of}
use Rattle.law_custody.specs.Place.{Inside, Place, is_inside}
use Rattle.law_custody.specs.Steps.{EntryDid, intake}
use Rattle.law_custody.specs.Talks.{Talks}
use Rattle.law_custody.specs.Words.{DownWord, UpWord, in_says, sent, starts_in}
use Rattle.law_custody.proofs.Asked.{drops_asked}
use Rattle.law_custody.proofs.Facts.{no_board}
use Rattle.law_custody.proofs.Recalls.{idle_recalls, kept_is}
use Rattle.law_custody.proofs.Rows.{same, settled_last}

pub passed : {Q : Record → Type 0} {w : InInput} {b : Bool} {x y : SessionState} {o : Out} {of : Option ℕ} {rd : Bool} {i : In} {f f2 : Option Record} {ri : Bool} {p : Place} {r : Record} {un : List SensorEvent} {ed : Bool} {up : List UpWord} {before down : List DownWord}
    → ((s : Since) → since_after w s ≡ s) → intake_row (intake i f ri) w ≡ Some (record { after = intake i f2 ri; act = in_nothing }) → EntryFloor i un ed p r
    → Talks b x o of rd y i f2 ri p up down
    → (OpenAll Q (passes_offers_over i) before → OfferIs Q f → OpenAll Q (passes_offers_over i) down × OfferIs Q f2)
    → EntryDid Q w (intake i f ri) un ed b x o of rd y p r up before down
passed {i = i} same is h k opened = record {
  row = _;
  is = is;
  «in» = h;
  talk = k;
  body = λ ks. refl;
  opened = opened;
  holds = λ q e. e;
  quiet = refl;
  settles = λ q e. absurd (no_board e);
  recalls = λ s n. subst (Recalls i) (sym (same s)) n;
  asked = λ l d a. a;
}

-- the board is dropped
pub is_dropped : {Q : Record → Type 0} {w : InInput} {b : Bool} {x y : SessionState} {o : Out} {of : Option ℕ} {rd : Bool} {i : In} {f : Option Record} {ri : Bool} {p : Place} {r q : Record} {taken : Bool} {send : Option InSend} {drive : Option Bool} {un : List SensorEvent} {ed : Bool} {up : List UpWord} {before down : List DownWord}
    → intake_row (intake i f ri) w ≡ Some (record { after = intake inn.Idle f ri; act = record { deed = Some (in_deeds.Drops q.id); send = send; drive = drive; keep = None; taken = taken } })
    → held_in i ≡ Some q → starts_in (in_says send) ≡ []
    → EntryFloor inn.Idle un (unwrap_or drive ed) p r → is_inside p ≡ false → Talks b x o of rd y inn.Idle f ri p (sent (in_says send) b up) down
    → (OpenAll Q (passes_offers_over i) before → OpenAll Q false down)
    → EntryDid Q w (intake i f ri) un ed b x o of rd y p r up before down
is_dropped {i = i} {p = p} is held quiet h out k opened = record {
  row = _;
  is = is;
  «in» = h;
  talk = k;
  body = λ ks. ap (λ t. map board_of ks ++ t) (rw (held, out) refl);
  opened = λ k j. (opened k, j);
  holds = λ q e. absurd (no_board e);
  quiet = quiet;
  settles = λ q e. absurd (no_board e);
  recalls = λ s k. idle_recalls;
  asked = λ l d a. drops_asked (rw held at a);
}

-- the board settles
pub is_settled : {Q : Record → Type 0} {w : InInput} {b : Bool} {x y : SessionState} {o : Out} {of : Option ℕ} {rd : Bool} {i : In} {f : Option Record} {ri : Bool} {q : Record} {send : Option InSend} {drive : Option Bool} {un : List SensorEvent} {ed : Bool} {up : List UpWord} {before down : List DownWord}
    → intake_row (intake i f ri) w ≡ Some (record { after = intake inn.Idle f ri; act = settles q send drive }) → held_in i ≡ Some q → starts_in (in_says send) ≡ []
    → EntryFloor inn.Idle un (unwrap_or drive ed) Inside q → Talks b x o of rd y inn.Idle f ri Inside (sent (in_says send) b up) down
    → (OpenAll Q (passes_offers_over i) before → OpenAll Q false down) → held_out o ≡ None → starts_in up ≡ [] → ((s : Since) → Recalls i s → IsSaid (since_after w s))
    → EntryDid Q w (intake i f ri) un ed b x o of rd y Inside q up before down
is_settled {i = i} {q = q} is held quiet h k opened free none said = record {
  row = _;
  is = is;
  «in» = h;
  talk = k;
  body = λ ks. ap (λ t. map board_of ks ++ t) (rw held refl) ∙ settled_last q ks;
  opened = λ k j. (opened k, j);
  holds = λ q e. absurd (no_board e);
  quiet = quiet;
  settles = λ q e. record { same = kept_is e; inside = refl; free = free; said = said };
  recalls = λ s k. idle_recalls;
  asked = λ l d _. asks_nothing none;
}

-- What an intake has heard of its board, as its phase turns.
use Rattle.std.proofs.Common.{Bool, List, None, Option, Some, false, not, refl, true, ℕ, ◌||◌, ◌≡◌}
use Rattle.line_base.specs.declared.states.Seen.{Seen}
use Rattle.line_base.specs.declared.states.Seen.TheVariants as seen
use Rattle.line_base.specs.declared.states.Transfer.{Transfer}
use Rattle.board_record.specs.declared.record.Record.{Record}
use Rattle.session_core.specs.declared.state.SessionState.{SessionState}
use Rattle.handover_out.specs.State.{board_of_phase as held_out}
use Rattle.handover_out.specs.declared.phase.Phase.{Phase as Out}
use Rattle.handover_in.specs.declared.phase.Phase.TheVariants as inn
use Rattle.law_custody.specs.Apart.{entry_finish_heard, entry_inside_awaited}
use Rattle.law_custody.specs.LookBack.{Recalls, Since, just_started}
use Rattle.law_custody.specs.Place.{Place}
use Rattle.law_custody.specs.Shape.{finish_heard, inside_awaited, inside_awaited_stop_sent}
use Rattle.law_custody.specs.Talks.{Talks, apart, live}
use Rattle.law_custody.specs.Words.{DownWord, UpWord}
use Rattle.law_custody.proofs.Behind.{exit_free}

not_so : {X : Type 0} → false ≡ true → X
not_so e = cc

-- an intake that holds no board recalls nothing
pub idle_recalls : {X Y Z : Type 0} → (false ≡ true → X) × (false ≡ true → Y) × (false ≡ true → Z)
idle_recalls = (λ e. not_so e, λ e. not_so e, λ e. not_so e)

pub starts_recalled : (q : Record) → Recalls (inn.Taking q seen.NotStarted false) just_started
starts_recalled q = (λ e. not_so e, λ _. refl, λ e. not_so e)

-- the end is heard
now_ended : (closed ended : Bool) → closed ≡ false → not closed || ended ≡ true
now_ended false ended _ = refl
now_ended true ended e = cc

pub said_now : (s : Since) → (true ≡ true → s.closed ≡ false) → not s.closed || s.ended ≡ true
said_now s open_still = now_ended s.closed s.ended (open_still refl)

pub ended_now : (s : Since) → (true ≡ true → s.closed ≡ false) → (false ≡ true → s.closed ≡ true)
    → (true ≡ true → not s.closed || s.ended ≡ true) × (true ≡ true → s.closed ≡ false) × (false ≡ true → s.closed ≡ true)
ended_now s open_still shut = (λ _. said_now s open_still, open_still, shut)

-- the connection is closed
pub shut_recalls : (s : Since) {h w : Bool} → (h ≡ true → s.ended ≡ true) → (h ≡ true → s.ended ≡ true) × (false ≡ true → true ≡ false) × (w ≡ true → true ≡ true)
shut_recalls s k = (k, λ e. not_so e, λ _. refl)

-- the record that settles
pub kept_is : {r q : Record} → ◌≡◌ {A = Option Record} (Some r) (Some q) → q ≡ r
kept_is e = cc

-- where the end was heard, the outlet holds nothing
pub free_taking : {b : Bool} {x y : SessionState} {o : Out} {of : Option ℕ} {rd : Bool} {f : Option Record} {ri : Bool} {p : Place} {up : List UpWord} {down : List DownWord} {q : Record} {a : Seen}
    → Talks b x o of rd y (inn.Taking q a true) f ri p up down → held_out o ≡ None
free_taking (live (finish_heard c)) = refl
free_taking (apart a (entry_finish_heard c)) = exit_free a

pub free_stopped : {b : Bool} {x y : SessionState} {o : Out} {of : Option ℕ} {rd : Bool} {f : Option Record} {ri : Bool} {p : Place} {up : List UpWord} {down : List DownWord} {q : Record} {e : Transfer} {a : Seen}
    → Talks b x o of rd y (inn.Stopped q a (Some e)) f ri p up down → held_out o ≡ None
free_stopped (live (inside_awaited_stop_sent c)) = refl
free_stopped (live (inside_awaited c d)) = refl
free_stopped (apart a (entry_inside_awaited c d)) = exit_free a

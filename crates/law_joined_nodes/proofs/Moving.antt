-- A MOVE KEEPS THE BOOKS.
use Rattle.std.proofs.Common.{List, None, Some, [], ap, inl, inr, slice_get, subst, sym, ℕ, ◌∙◌, ◌≡◌, ◌≢◌, ◌≤◌, ◌⊎◌}
use Rattle.line_base.specs.declared.states.Side.{Side}
use Rattle.line_base.specs.declared.states.Side.TheVariants.{Exit}
use Rattle.node_core.specs.declared.input.Input.TheVariants as inputs
use Rattle.line_step.specs.Steps.{is_second}
use Rattle.line_step.specs.World.{link_of}
use Rattle.line_step.proofs.Numbers.{same_or_not}
use Rattle.node_run.specs.State.{RunState}
use Rattle.law_running_line.specs.Reading.{Reading}
use Rattle.law_running_line.specs.Turns.{IsAt}
use Rattle.law_running_line.specs.Wire.{Awaits, Has, Wire, end_at}
use Rattle.law_joined_nodes.specs.Does.{Taken}
use Rattle.law_joined_nodes.specs.Joined.{Joined, NodeRun, run_of, unspent}
use Rattle.law_joined_nodes.specs.Ways.{found_for, waits_at}
use Rattle.law_joined_nodes.proofs.Weaving.{some_machine}
use Rattle.step_rules.specs.Spoken.{IsOffClosed}
use Rattle.law_joined_nodes.specs.Pipes.{Pipes, beyond, other}
use Rattle.law_joined_nodes.proofs.Books.{Book, Books, some_place}
use Rattle.law_joined_nodes.proofs.Core.{Home}
use Rattle.law_joined_nodes.proofs.Ends.{Far, Own, Where, beyond_else, far_link, far_refuses, far_same, far_takes, flows_at_else, flows_far, flows_gave_else, flows_own, flows_took_else, own_closes, own_comes, own_gives, own_same, where_else, where_far, where_is, where_own}
use Rattle.law_joined_nodes.proofs.Steps.{Turn, back_number, back_side, else_run, far_awaited, far_book, far_had, its_awaits, its_second, own_awaited, own_book, own_had, own_rest, own_state, some_taken}
use Rattle.law_joined_nodes.proofs.Walks.{Walks, turn_walks}

-- ---- a move with a step

turn_walk : {reading : Reading} {m : ℕ} {i j : Joined} {p q : Pipes} (t : Turn reading m i j p q)
    (l : ℕ) → Walks m l i.line j.line
turn_walk {m = m} {i} {j} t l =
    subst (Walks m l i.line) (sym t.takes.after_is)
    (turn_walks (is_second t.taken.input) t.taken.input t.takes.place
    (unspent t.next.node) t.taken.read t.takes.rest t.taken.told i.line)

-- an end of another link
else_wire : {reading : Reading} {m : ℕ} {i j : Joined} {p q : Pipes} (t : Turn reading m i j p q)
    (l n : ℕ) (v : Wire) → ((at : Side) → l ≢ link_of m at) → slice_get (j.line.wires l) n ≡ Some v
    → slice_get (i.line.wires l) n ≡ Some v
else_wire t l n v apart there =
    sym (ap (λ (ws : List Wire). slice_get ws n) ((turn_walk t l).else apart)) ∙ there

own_there : {m k : ℕ} (n : ℕ) (side : Side) (j : Joined) {v : Wire} → k ≡ m
    → slice_get (j.line.wires (link_of k side)) n ≡ Some v
    → slice_get (j.line.wires (link_of m side)) n ≡ Some v
own_there n side j is there =
    ap (λ (x : ℕ). slice_get (j.line.wires (link_of x side)) n) (sym is) ∙ there

far_there : (m : ℕ) {k : ℕ} (n : ℕ) {side : Side} (at : Side) (j : Joined) {v : Wire}
    → k ≡ beyond m at → side ≡ other at → slice_get (j.line.wires (link_of k side)) n ≡ Some v
    → slice_get (j.line.wires (link_of m at)) n ≡ Some v
far_there m n {side} at j is same there =
    ap (λ (l : ℕ). slice_get (j.line.wires l) n) (sym (far_link m at)) ∙ ap
    (λ (x : Side). slice_get (j.line.wires (link_of (beyond m at) x)) n) (sym same) ∙ ap
    (λ (x : ℕ). slice_get (j.line.wires (link_of x side)) n) (sym is) ∙ there

pub turn_books : {reading : Reading} {m : ℕ} {i j : Joined} {p q : Pipes}
    (t : Turn reading m i j p q) → Books i p
    → ((side : Side) → IsOffClosed side t.next.node.lane.body) → Books j q
turn_books {m = m} {i} {j} {p} {q} t books offs = record {
  had = λ k side run n v there got held.
      had_by k side run n v there got held (where_is m k side t.some (some_machine k j run there));
  awaited =
      λ k side run n v there got held at.
      awaited_by k side run n v there got held at
      (where_is m k side t.some (some_machine k j run there));
  rest = λ k side run there none. rest_by k side run there none (same_or_not k m);
  virgin = λ k side n some none. virgin_by k side n some none;
  placed = λ k side n some none at. placed_by k side n some none at (same_or_not k m);
  off = λ k run there side. off_by k run side there (same_or_not k m);
  book = λ k side run n v there got.
      book_by k side run n v there got (where_is m k side t.some (some_machine k j run there));
} where
  was : (k : ℕ) → k ≢ m → (run : NodeRun) → run_of k j ≡ Some run → run_of k i ≡ Some run
  was k apart run there = else_run i j t.run t.next t.some t.after_is k apart run there

  had_by : (k : ℕ) (side : Side) (run : NodeRun) (n : ℕ) (v : Wire) → run_of k j ≡ Some run
      → slice_get (j.line.wires (link_of k side)) n ≡ Some v → end_at side v ≡ Has → Where m k side
      → q.at k side ≡ Some n
  had_by k side run n v there got held (where_own is) =
      ap (λ (x : ℕ). q.at x side) is ∙ own_had t books side n v (own_there n side j is got) held
  had_by k side run n v there got held (where_far at is same) =
      ap (λ (x : ℕ). q.at x side) is ∙ ap (q.at (beyond m at)) same ∙ far_had t books at n v
      (far_there m n at j is same got) run (sym (ap (λ (x : ℕ). run_of x j) is) ∙ there)
      (ap (λ (x : Side). end_at x v) (sym same) ∙ held)
  had_by k side run n v there got held (where_else apart links never) =
      flows_at_else t.flows k side apart ∙ books.had k side run n v (was k apart run there)
      (else_wire t (link_of k side) n v links got) held

  rest_by : (k : ℕ) (side : Side) (run : NodeRun) → run_of k j ≡ Some run → q.at k side ≡ None
      → (k ≡ m) ⊎ (k ≢ m) → waits_at side run.state ≡ []
  rest_by k side run there none (inl is) =
      ap (waits_at side)
      (own_state i j t.run t.next t.some t.after_is run
      (sym (ap (λ (x : ℕ). run_of x j) is) ∙ there)) ∙ own_rest t books side
      (ap (λ (x : ℕ). q.at x side) (sym is) ∙ none)
  rest_by k side run there none (inr apart) =
      books.rest k side run (was k apart run there)
      (sym (flows_at_else t.flows k side apart) ∙ none)

  awaited_by : (k : ℕ) (side : Side) (run : NodeRun) (n : ℕ) (v : Wire) → run_of k j ≡ Some run
      → slice_get (j.line.wires (link_of k side)) n ≡ Some v → end_at side v ≡ Awaits
      → q.at k side ≡ Some n → Where m k side → ⊥
  awaited_by k side run n v there got held now (where_own is) =
      own_awaited t books side n v (own_there n side j is got) held
      (ap (λ (x : ℕ). q.at x side) (sym is) ∙ now)
  awaited_by k side run n v there got held now (where_far at is same) =
      far_awaited t books at n v (far_there m n at j is same got) run
      (sym (ap (λ (x : ℕ). run_of x j) is) ∙ there)
      (ap (λ (x : Side). end_at x v) (sym same) ∙ held)
      (sym (ap (λ (x : ℕ). q.at x side) is ∙ ap (q.at (beyond m at)) same) ∙ now)
  awaited_by k side run n v there got held now (where_else apart links never) =
      books.awaited k side run n v (was k apart run there)
      (else_wire t (link_of k side) n v links got) held
      (sym (flows_at_else t.flows k side apart) ∙ now)

  before_none : (l n : ℕ) → slice_get (j.line.wires l) n ≡ None
      → slice_get (i.line.wires l) n ≡ None
  before_none l n none = (turn_walk t l).none n none

  took_else : (k : ℕ) (side : Side) (n : ℕ) → slice_get (i.line.wires (link_of k side)) n ≡ None
      → Where m k side → q.took k side n ≡ p.took k side n
  took_else k side n none (where_own is) =
      flows_took_else t.flows k side n (λ at same sides. beyond_else m at t.some (sym same ∙ is))
  took_else k side n none (where_else apart links never) = flows_took_else t.flows k side n never
  took_else k side n none (where_far at is same) =
      ap (λ (x : ℕ). q.took x side n) is ∙ ap (λ (x : Side). q.took (beyond m at) x n) same ∙ by
      (flows_far t.flows at) ∙ sym
      (ap (λ (x : ℕ). p.took x side n) is ∙ ap (λ (x : Side). p.took (beyond m at) x n) same) where
        none_here : slice_get (i.line.wires (link_of m at)) n ≡ None
        none_here =
            ap (λ (l : ℕ). slice_get (i.line.wires l) n) (sym (far_link m at)) ∙ ap
            (λ (x : Side). slice_get (i.line.wires (link_of (beyond m at) x)) n) (sym same) ∙ ap
            (λ (x : ℕ). slice_get (i.line.wires (link_of x side)) n) (sym is) ∙ none

        never_at : (here : ℕ) → p.at m at ≡ Some here → n ≢ here
        never_at here there is_here =
            books.placed m at n t.some none_here (there ∙ ap (λ (x : ℕ). Some x) (sym is_here))

        never_second : at ≡ Exit → t.taken.input ≡ inputs.Second → n ≢ t.takes.place
        never_second exit second is_here =
            (let at_place : IsAt m Exit t.takes.place Awaits i.line = its_second m t.takes.place
            t.taken.input i.line second t.takes.of_it in
            let no : None ≡ Some at_place.wire =
            sym none_here ∙ ap (λ (x : Side). slice_get (i.line.wires (link_of m x)) n) exit ∙ ap
            (slice_get (i.line.wires (link_of m Exit))) is_here ∙ at_place.there in
            cc)

        by : Far m t.takes.place at t.given (Some t.taken) p q
            → q.took (beyond m at) (other at) n ≡ p.took (beyond m at) (other at) n
        by (far_same all quiet seconds) = all n
        by (far_takes {here = here} call some there took all) = all n (never_at here there)
        by (far_refuses exit call some took all) =
            all n (never_second exit (ap (λ (x : Taken). x.input) (some_taken some)))

  virgin_by : (k : ℕ) (side : Side) (n : ℕ) → 1 ≤ k
      → slice_get (j.line.wires (link_of k side)) n ≡ None → q.took k side n ≡ []
  virgin_by k side n more none =
      (let was_none : slice_get (i.line.wires (link_of k side)) n
      ≡ None = before_none (link_of k side) n none in
      took_else k side n was_none
      (where_is m k side t.some more) ∙ books.virgin k side n more was_none)

  own_placed : (side : Side) (n : ℕ) → slice_get (i.line.wires (link_of m side)) n ≡ None
      → q.at m side ≡ Some n → Own m t.takes.place side t.given (Some t.taken) p q → ⊥
  own_placed side n none now (own_same at gave quiet) =
      books.placed m side n t.some none (sym at ∙ now)
  own_placed side n none now (own_comes call is was_none at gave all) =
      (let at_place : IsAt m side t.takes.place Awaits i.line = its_awaits m t.takes.place side
      t.taken.input i.line (ap (λ (x : Taken). x.input) (some_taken is)) t.takes.of_it in
      let here : n ≡ t.takes.place = some_place (sym now ∙ at) in
      let no : None ≡ Some at_place.wire =
      sym none ∙ ap (slice_get (i.line.wires (link_of m side))) here ∙ at_place.there in
      cc)
  own_placed side n none now (own_gives call is there at gave all) =
      (let no : Some t.taken ≡ None = is in cc)
  own_placed side n none now (own_closes call at gave) =
      (let no : None ≡ Some n = sym at ∙ now in cc)

  placed_by : (k : ℕ) (side : Side) (n : ℕ) → 1 ≤ k
      → slice_get (j.line.wires (link_of k side)) n ≡ None → q.at k side ≡ Some n
      → (k ≡ m) ⊎ (k ≢ m) → ⊥
  placed_by k side n more none now (inr apart) =
      books.placed k side n more (before_none (link_of k side) n none)
      (sym (flows_at_else t.flows k side apart) ∙ now)
  placed_by k side n more none now (inl is) =
      own_placed side n (ap (λ (x : ℕ). slice_get (i.line.wires (link_of x side)) n)
      (sym is) ∙ before_none (link_of k side) n none)
      (ap (λ (x : ℕ). q.at x side) (sym is) ∙ now) (flows_own t.flows side)

  off_by : (k : ℕ) (run : NodeRun) (side : Side) → run_of k j ≡ Some run → (k ≡ m) ⊎ (k ≢ m)
      → IsOffClosed side run.state.node.lane.body
  off_by k run side there (inr apart) = books.off k run (was k apart run there) side
  off_by k run side there (inl is) =
      subst (λ (s : RunState). IsOffClosed side s.node.lane.body)
      (sym (own_state i j t.run t.next t.some t.after_is run
      (sym (ap (λ (x : ℕ). run_of x j) is) ∙ there))) (offs side)

  book_by : (k : ℕ) (side : Side) (run : NodeRun) (n : ℕ) (v : Wire) → run_of k j ≡ Some run
      → slice_get (j.line.wires (link_of k side)) n ≡ Some v → Where m k side
      → Book j q k side n v run
  book_by k side run n v there got (where_own is) =
      (let so : run_of m j ≡ Some run = sym (ap (λ (x : ℕ). run_of x j) is) ∙ there in
      subst (λ (x : ℕ). Book j q x side n v run) (sym is)
      (own_book t books side n v (own_there n side j is got) run
      (own_state i j t.run t.next t.some t.after_is run so)))
  book_by k side run n v there got (where_far at is same) =
      (let b : Book j q (beyond m at) (other at) n v run = far_book t books at n v
      (far_there m n at j is same got) run (sym (ap (λ (x : ℕ). run_of x j) is) ∙ there) in
      subst (λ (x : ℕ). Book j q x side n v run) (sym is)
      (subst (λ (x : Side). Book j q (beyond m at) x n v run) (sym same) b))
  book_by k side run n v there got (where_else apart links never) =
      else_book k side run n v
      (books.book k side run n v (was k apart run there)
      (else_wire t (link_of k side) n v links got)) (some_machine k j run there) apart never where
        else_book : (k : ℕ) (side : Side) (run : NodeRun) (n : ℕ) (v : Wire)
            → Book i p k side n v run
            → 1 ≤ k → k ≢ m → ((at : Side) → k ≡ beyond m at → side ≡ other at → ⊥)
            → Book j q k side n v run
        else_book k side run n v b more apart never = record {
          heard = b.heard;
          waits = b.waits;
          core = subst (λ (x : List ℕ). Home side v x b.waits b.heard (q.gave k side n)
              (found_for side run.state.held.finding)) (sym (flows_took_else t.flows k side n never))
              (subst (λ (x : List ℕ). Home side v (p.took k side n) b.waits b.heard x
              (found_for side run.state.held.finding))
              (sym (flows_gave_else t.flows k side n apart)) b.core);
          now = λ now far so. now_by far now so (same_or_not (beyond k side) m);
        } where
          back_beyond : beyond k side ≡ m → k ≡ beyond m (other side)
          back_beyond is = sym (back_number k side more) ∙ ap (λ (x : ℕ). beyond x (other side)) is

          now_by : (far : NodeRun) → q.at (beyond k side) (other side) ≡ Some n
              → run_of (beyond k side) j ≡ Some far → (beyond k side ≡ m) ⊎ (beyond k side ≢ m)
              → b.waits ≡ waits_at (other side) far.state
          now_by far now so (inl is) =
              absurd (never (other side) (back_beyond is) (sym (back_side side)))
          now_by far now so (inr far_apart) =
              b.now (sym (flows_at_else t.flows (beyond k side) (other side) far_apart) ∙ now) far
              (was (beyond k side) far_apart far so)

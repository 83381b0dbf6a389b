-- What a step of a machine tells in the line: its acts, with what they do to the links among them.
use Rattle.std.proofs.Common.{◌≡◌, ◌≢◌, inl, inr, ◌∙◌, ◌++◌, ◌==◌, ◌&&◌, ℕ, Bool, true, false, List, ◌∷◌, Option, Some, refl, sym, ap, subst, []}
use Rattle.std.specs.Prelude.{cond}
use Rattle.std.proofs.lemmas.Bool.{false≢true}
use Rattle.std.proofs.lemmas.Bool.Decides.{eqb_tells}
use Rattle.line_base.specs.declared.states.Side.{Side}
use Rattle.line_base.specs.declared.states.Side.TheVariants.{Exit}
use Rattle.hermes_horizontal.specs.Canonical.{canonical}
use Rattle.hermes_horizontal.specs.declared.message.Message.{Message}
use Rattle.line_link.specs.Link.{answer_sent, sent_of}
use Rattle.line_link.specs.declared.link.Sent.{Sent}
use Rattle.line_link.specs.declared.link.Sent.TheVariants as sent
use Rattle.node_core.specs.declared.act.Act.{Act}
use Rattle.node_core.specs.declared.act.Act.TheVariants as acts
use Rattle.node_core.specs.declared.act.Deed.TheVariants as deeds
use Rattle.line_report.specs.declared.happening.Happening.{Happening}
use Rattle.line_report.specs.declared.happening.Happening.TheVariants as happenings
use Rattle.line_step.specs.Acts.{act_did, acts_did, cut_told, is_answer, is_exit, sent_by}
use Rattle.line_step.specs.World.{WorldParts, end_of, link_at, link_of}
use Rattle.law_sentences.specs.Announced.{bears_on_offer, bears_on_place, exit_acts, is_on_exit, is_ready_in, offered_in}
use Rattle.law_sentences.proofs.Folds.{exit_append, offered_act, offered_append, offered_from, ready_act, ready_append, ready_from}
use Rattle.law_sentences.proofs.Orderly.{Orderly, are_plain, ends, goes_on, is_opened, is_plain, is_refused, is_broken}
use Rattle.law_sentences.proofs.Happenings.{Told, all_told, own_act, told_apart, told_both, told_on, told_opened, told_refused, told_broken}
use Rattle.line_step.proofs.Remarks.{AreRemarks, IsNoAct, IsRemark, Passes, acts_pass, all_pass, no_acts}

-- ---- an act of machine k

pub record IsOff (act : Act) : Type 0 where
  pub offer : bears_on_offer act ≡ false
  pub place : bears_on_place act ≡ false
  pub plain : is_plain act ≡ true

-- an act that is not on the exit bears on nothing there
off_exit : (act : Act) → is_on_exit act ≡ false → IsOff act
off_exit (acts.Breaches Exit text) off = absurd (false≢true (sym off))
off_exit (acts.Hears Exit message) off = absurd (false≢true (sym off))
off_exit (acts.Sends Exit message) off = absurd (false≢true (sym off))
off_exit (acts.Closes Exit) off = absurd (false≢true (sym off))
off_exit (acts.Notices Exit) off = absurd (false≢true (sym off))
off_exit (acts.Deed (deeds.Opens id)) off = absurd (false≢true (sym off))
off_exit (acts.Deed (deeds.Refuses id)) off = absurd (false≢true (sym off))
off_exit _ off = record { offer = refl; place = refl; plain = refl }

-- what the acts among what is told say is what the act says
record IsSaid (k : ℕ) (act : Act) (told : List Happening) : Type 0 where
  offered : (o : Option ℕ) → offered_from o (exit_acts k told) ≡ offered_act o act
  ready : (r : Bool) → ready_from r (exit_acts k told) ≡ ready_act r act
  goes : (o : Option ℕ) (r : Bool) → is_plain act ≡ true → Told k o r told

said_by : (act : Act) (at : Bool) → is_on_exit act ≡ at → (o : Option ℕ) → offered_from o (cond at (act ∷ []) []) ≡ offered_act o act
said_by act true is o = refl
said_by act false is o = sym (ap (λ (b : Bool). cond b (offered_in (Some act)) o) (off_exit act is).offer)

ready_by : (act : Act) (at : Bool) → is_on_exit act ≡ at → (r : Bool) → ready_from r (cond at (act ∷ []) []) ≡ ready_act r act
ready_by act true is r = refl
ready_by act false is r = sym (ap (λ (b : Bool). cond b (is_ready_in (Some act)) r) (off_exit act is).place)

plain_by : (act : Act) (at : Bool) → is_plain act ≡ true → are_plain (cond at (act ∷ []) []) ≡ true
plain_by act true plain = rw plain refl
plain_by act false plain = refl

-- the act, and behind it what is of no machine
said_first : (k : ℕ) (act : Act) (rest : List Happening) → exit_acts k rest ≡ [] → IsSaid k act (happenings.Done k act ∷ rest)
said_first k act rest none =
    let own = own_act k act in
    let at = is_on_exit act in
    let all : exit_acts k (happenings.Done k act ∷ rest) ≡ cond at (act ∷ []) [] ++ [] = ap (λ (a : List Act). a ++ exit_acts k rest) own ∙ ap (λ (a : List Act). cond at (act ∷ []) [] ++ a) none in
    record {
      offered = λ o. ap (λ (a : List Act). offered_from o a) all ∙ offered_append o (cond at (act ∷ []) []) [] ∙ said_by act at refl o;
      ready = λ r. ap (λ (a : List Act). ready_from r a) all ∙ ready_append r (cond at (act ∷ []) []) [] ∙ ready_by act at refl r;
      goes = λ o r plain. told_on (ap are_plain own ∙ plain_by act at plain) (told_apart k _ _ rest none);
    }

pub cut_none : (k link : ℕ) (on : Sent) → exit_acts k (cut_told link on) ≡ []
cut_none k link sent.Cuts = refl
cut_none k link sent.Flows = refl
cut_none k link sent.Vanishes = refl

said_sent : (answers : Bool) (k : ℕ) (side : Side) (message : Message) (world : WorldParts) → IsSaid k (acts.Sends side message) (sent_by answers k side message world).told
said_sent true k side message world = said_first k (acts.Sends side message) (cut_told k (answer_sent (canonical message) (link_at k world))) (cut_none k k (answer_sent (canonical message) (link_at k world)))
said_sent false k side message world = said_first k (acts.Sends side message) (cut_told (link_of k side) (sent_of (end_of side) (canonical message) (link_at (link_of k side) world))) (cut_none k (link_of k side) (sent_of (end_of side) (canonical message) (link_at (link_of k side) world)))

said_act : (second : Bool) (k : ℕ) (act : Act) (world : WorldParts) → IsSaid k act (act_did second k act world).told
said_act second k (acts.Sends side message) world = said_sent (second && (is_exit side && is_answer message.body)) k side message world
said_act second k (acts.Drive side on) world = record { offered = λ o. refl; ready = λ r. refl; goes = λ o r plain. all_told }
said_act second k act world = said_first k act [] refl

-- ---- the acts of a step of machine k

pub acts_offered : (second : Bool) (k : ℕ) (told : List Act) (world : WorldParts) (o : Option ℕ) → offered_from o (exit_acts k (acts_did second k told world).told) ≡ offered_from o told
acts_offered second k [] world o = refl
acts_offered second k (act ∷ others) world o =
    let one = act_did second k act world in
    let rest = (acts_did second k others one.world).told in
    ap (λ (a : List Act). offered_from o a) (exit_append k one.told rest) ∙ offered_append o (exit_acts k one.told) (exit_acts k rest)
    ∙ ap (λ (x : Option ℕ). offered_from x (exit_acts k rest)) ((said_act second k act world).offered o) ∙ acts_offered second k others one.world (offered_act o act)

pub acts_ready : (second : Bool) (k : ℕ) (told : List Act) (world : WorldParts) (r : Bool) → ready_from r (exit_acts k (acts_did second k told world).told) ≡ ready_from r told
acts_ready second k [] world r = refl
acts_ready second k (act ∷ others) world r =
    let one = act_did second k act world in
    let rest = (acts_did second k others one.world).told in
    ap (λ (a : List Act). ready_from r a) (exit_append k one.told rest) ∙ ready_append r (exit_acts k one.told) (exit_acts k rest)
    ∙ ap (λ (x : Bool). ready_from x (exit_acts k rest)) ((said_act second k act world).ready r) ∙ acts_ready second k others one.world (ready_act r act)

pub acts_told : {o : Option ℕ} {r : Bool} {told : List Act} (second : Bool) (k : ℕ) (world : WorldParts) → Orderly o r told → Told k o r (acts_did second k told world).told
acts_told second k world ends = all_told
acts_told {o = o} {r = r} second k world (goes_on {act = act} {told = others} plain more) =
    let one = act_did second k act world in
    let said = said_act second k act world in
    let rest = (acts_did second k others one.world).told in
    told_both rest (said.goes o r plain) (subst (λ (x : Option ℕ). Told k x (ready_from r (exit_acts k one.told)) rest) (sym (said.offered o)) (subst (λ (x : Bool). Told k (offered_act o act) x rest) (sym (said.ready r)) (acts_told second k one.world more)))
acts_told second k world (is_opened start more) = told_opened start (acts_told second k _ more)
acts_told second k world (is_refused start apart more) = told_refused start apart (acts_told second k _ more)
acts_told second k world (is_broken place more) = told_broken place (acts_told second k _ more)

-- ---- the acts of another machine

other_number : (k machine : ℕ) → k ≢ machine → (machine == k) ≡ false
other_number k machine apart = elim (eqb_tells machine k) [ inl same ↦ absurd (apart (sym same.1)) | inr differs ↦ differs.0 ]

pub none_join : (k : ℕ) (a b : List Happening) → exit_acts k a ≡ [] → exit_acts k b ≡ [] → exit_acts k (a ++ b) ≡ []
none_join k a b one two = exit_append k a b ∙ ap (λ (x : List Act). x ++ exit_acts k b) one ∙ two

no_act_none : (k : ℕ) (h : Happening) → IsNoAct h → exit_acts k (h ∷ []) ≡ []
no_act_none k (happenings.Done machine act) is = absurd is
no_act_none k _ is = refl

pub no_acts_none : (k : ℕ) → Passes IsNoAct (λ (told : List Happening). exit_acts k told ≡ [])
no_acts_none k = record { none = refl; both = none_join k; one = no_act_none k }

pub remarks_none : (k : ℕ) (told : List Happening) → AreRemarks told → exit_acts k told ≡ []
remarks_none k told remarks = all_pass told (no_acts_none k) (no_acts told remarks)

remark_none : (k : ℕ) (h : Happening) → IsRemark h → exit_acts k (h ∷ []) ≡ []
remark_none k h is = remarks_none k (h ∷ []) (is, tt)

other_one : (k machine : ℕ) (act : Act) → k ≢ machine → exit_acts k (happenings.Done machine act ∷ []) ≡ []
other_one k machine act apart = rw (other_number k machine apart) refl

pub other_acts : (second : Bool) (k machine : ℕ) (told : List Act) (world : WorldParts) → k ≢ machine → exit_acts k (acts_did second machine told world).told ≡ []
other_acts second k machine told world apart =
    acts_pass (λ (ts : List Happening). exit_acts k ts ≡ []) second machine told world (record { none = refl; both = none_join k; one = remark_none k }) (λ act. other_one k machine act apart)

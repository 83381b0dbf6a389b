-- What the program does over a book, by how its call ends.
use Rattle.std.proofs.Common.{◌≡◌, ◌∙◌, sym, subst, refl, ap, ℕ, ℤ, ◌+◌, Bool, true, false, List, [], ◌++◌, Option, None, Some, Result, Ok, Err, inl, inr, ◌≤◌, ◌<◌, arith, length, drop, take, take_all, nat_lt, length-append, append-nil, option_map}
use Rattle.std.proofs.lemmas.Bool.Decides.{nat_tests}
use Rattle.book_entry.specs.Steps.{spelled}
use Rattle.line_outside.proofs.Growing.{rose_after}
use Rattle.line_outside.specs.Given.{Given}
use Rattle.machine_log.specs.Drives.{all_off}
use Rattle.machine_log.specs.declared.drives.Drives.{Drives}
use Rattle.node_core.specs.Node.{NodeState, new_node}
use Rattle.node_core.specs.declared.profile.NodeProfile.{NodeProfile}
use Rattle.node_run.specs.Booked.{BookedEnds, EntriesAreTheSteps, HasBookedCauses, IsBookedStatus, most_book}
use Rattle.node_run.specs.State.{resumed as begun}
use Rattle.node_run.specs.Told.{neighbours_of, profile_of, rules_of}
use Rattle.node_run.specs.declared.booked.BookedStatus.{BookedStatus}
use Rattle.node_run.specs.declared.booked.BookedStatus.TheVariants as booked
use Rattle.node_run.specs.declared.status.NodeStatus.{NodeStatus}
use Rattle.node_run.specs.declared.status.NodeStatus.TheVariants as statuses
use Rattle.node_settings.specs.Settings.{Refusal, Reads, refusal, read_of}
use Rattle.node_settings.specs.declared.key.ConfigKey.{ConfigKey}
use Rattle.node_settings.specs.declared.key.ConfigWhy.{ConfigWhy}
use Rattle.node_settings.specs.declared.key.SettingsError.{SettingsError}
use Rattle.node_settings.specs.declared.key.SettingsError.TheVariants as refusals
use Rattle.node_settings.specs.declared.settings.Settings.{Settings}
use Rattle.restart_book.specs.Kept.{KeptBooksAreResumed}
use Rattle.restart_book.specs.Replay.{IsBadAt, IsResumed, IsResumedAs}
use Rattle.restart_book.specs.declared.resuming.BookWhy.{BookWhy}
use Rattle.node_commands.proofs.Files.{ReadSoFar}
use Rattle.node_commands.specs.Command.{ReadsFile, status_of}
use Rattle.node_commands.specs.Books.{DoesBook, DoesBookFile, DoesFree, DoesNodeBook, DoesRead, DoesTaking, DoesTold, FitsNodeBook, HasBookCauses, HasRestCauses, IsLarge, IsRestStatus, IsTakingStatus, IsUntouched, MendsAndRuns, Outside, ReadsBook, RunsOn, StopsBeginAgain, book_status, outside}
use Rattle.node_commands.specs.Taking.{IsHeld, IsMended, IsMendedIf}
use Rattle.node_commands.specs.declared.book_status.BookStatus.{BookStatus}
use Rattle.node_commands.specs.declared.book_status.BookStatus.TheVariants as ends

-- ---- over a book of these bytes

runs_on : (told : Option ℤ) (settings : Settings) (bytes : List ℕ) (node : NodeState) (drives : Drives) (whole : ℕ) (old new : Outside) (end : BookedStatus) → length bytes ≤ most_book → IsResumedAs (new_node (profile_of settings)) all_off bytes whole node drives
    → (mended : Option (List ℕ)) → IsMended (length bytes) whole old.book mended → BookedEnds told (rules_of settings) (begun (neighbours_of settings) node drives) whole old.given new.given old.log new.log mended new.book end → RunsOn told settings bytes old new end
runs_on told settings bytes node drives whole old new end short resumed mended is_mended runs = record { short = short; node = node; drives = drives; whole = whole; resumed = resumed; mended = mended; is_mended = is_mended; runs = runs }

by_end : (told : Option ℤ) (settings : Settings) (bytes : List ℕ) (old new : Outside) (end : BookedStatus) → RunsOn told settings bytes old new end → DoesBook told settings bytes old new (book_status end)
by_end told settings bytes old new (booked.Node statuses.Done) runs = runs
by_end told settings bytes old new (booked.Node statuses.Usage) runs = runs
by_end told settings bytes old new (booked.Node (statuses.ConfigRefused key why)) runs = runs
by_end told settings bytes old new (booked.Node statuses.ReadFault) runs = runs
by_end told settings bytes old new (booked.Node statuses.LogFault) runs = runs
by_end told settings bytes old new (booked.Node statuses.Memory) runs = inr runs
by_end told settings bytes old new (booked.Node (statuses.ListenFault address)) runs = runs
by_end told settings bytes old new (booked.Node statuses.TurnsUsed) runs = runs
by_end told settings bytes old new booked.BookFault runs = inr runs
by_end told settings bytes old new booked.BookFull runs = inr runs

ran : (told : Option ℤ) (settings : Settings) (bytes : List ℕ) (node : NodeState) (drives : Drives) (whole : ℕ) (old new : Outside) (status : BookStatus) → length bytes ≤ most_book → IsResumedAs (new_node (profile_of settings)) all_off bytes whole node drives
    → MendsAndRuns told settings node drives (length bytes) whole old new status → DoesBook told settings bytes old new status
ran told settings bytes node drives whole old new status short resumed (inl failed) =
    let P : BookStatus → Type 0 = λ s. DoesBook told settings bytes old new s in
    subst P (sym failed.0) (inl failed.1)
ran told settings bytes node drives whole old new status short resumed (inr on) =
    let P : BookStatus → Type 0 = λ s. DoesBook told settings bytes old new s in
    subst P (sym on.status_is) (by_end told settings bytes old new on.end (runs_on told settings bytes node drives whole old new on.end short resumed on.mended on.is_mended on.runs))

-- ---- what was read of the book is what it tells

at_told : (told : Option ℤ) (settings : Settings) (left : Option (List ℕ)) (bytes : List ℕ) (old new : Outside) (status : BookStatus) → ReadsBook left bytes → DoesBook told settings bytes old new status → DoesTold told settings left old new status
at_told told settings None bytes old new status reads does = tt
at_told told settings (Some all) bytes old new status reads does =
    let P : List ℕ → Type 0 = λ b. DoesBook told settings b old new status in
    subst P (sym reads) does

told_ran : (told : Option ℤ) (settings : Settings) (left : Option (List ℕ)) (bytes slice : List ℕ) (node : NodeState) (drives : Drives) (whole : ℕ) (old mid new : Outside) (status : BookStatus) → ReadsBook left bytes → slice ≡ bytes → length bytes ≤ most_book
    → IsResumedAs (new_node (profile_of settings)) all_off slice whole node drives → mid ≡ old → MendsAndRuns told settings node drives (length bytes) whole mid new status → DoesTold told settings left old new status
told_ran told settings left bytes slice node drives whole old mid new status reads same short resumed e does =
    let P : Outside → Type 0 = λ o. MendsAndRuns told settings node drives (length bytes) whole o new status in
    let Q : List ℕ → Type 0 = λ b. IsResumedAs (new_node (profile_of settings)) all_off b whole node drives in
    at_told told settings left bytes old new status reads (ran told settings bytes node drives whole old new status short (subst Q same resumed) (subst P e does))

pub told_on : (told : Option ℤ) (settings : Settings) (profile : NodeProfile) (left : Option (List ℕ)) (bytes slice : List ℕ) (count : ℕ) (node : NodeState) (drives : Drives) (whole : ℕ) (given : Option (List Given)) (log book mid : Option (List ℕ)) (new : Outside) (status : BookStatus)
    → ReadsBook left bytes → slice ≡ bytes → count ≡ length bytes → length bytes ≤ most_book → profile ≡ profile_of settings → IsResumedAs (new_node profile) all_off slice whole node drives → mid ≡ book
    → MendsAndRuns told settings node drives count whole (outside given log mid) new status → DoesTold told settings left (outside given log book) new status
told_on told settings profile left bytes slice count node drives whole given log book mid new status reads same counted short is resumed stays does =
    let P : NodeProfile → Type 0 = λ p. IsResumedAs (new_node p) all_off slice whole node drives in
    let Q : ℕ → Type 0 = λ n. MendsAndRuns told settings node drives n whole (outside given log mid) new status in
    told_ran told settings left bytes slice node drives whole (outside given log book) (outside given log mid) new status reads same short (subst P is resumed) (ap (outside given log) stays) (subst Q counted does)

pub told_refused : (told : Option ℤ) (settings : Settings) (left : Option (List ℕ)) (bytes slice : List ℕ) (at : ℕ) (why : BookWhy) (old new : Outside) → ReadsBook left bytes → slice ≡ bytes → length bytes ≤ most_book
    → IsBadAt (new_node (profile_of settings)) slice at why → IsUntouched old new → DoesTold told settings left old new (ends.BookRefused at why)
told_refused told settings left bytes slice at why old new reads same short bad untouched =
    let Q : List ℕ → Type 0 = λ b. IsBadAt (new_node (profile_of settings)) b at why in
    at_told told settings left bytes old new (ends.BookRefused at why) reads (record { short = short; bad = subst Q same bad; untouched = untouched })

pub told_memory : (told : Option ℤ) (settings : Settings) (left : Option (List ℕ)) (old new : Outside) → IsUntouched old new → DoesTold told settings left old new (ends.Node statuses.Memory)
told_memory told settings None old new untouched = tt
told_memory told settings (Some all) old new untouched = inl untouched

pub told_fault : (told : Option ℤ) (settings : Settings) (left : Option (List ℕ)) (old new : Outside) → IsUntouched old new → DoesTold told settings left old new ends.BookFault
told_fault told settings None old new untouched = tt
told_fault told settings (Some all) old new untouched = inl untouched

pub told_full : (told : Option ℤ) (settings : Settings) (left : Option (List ℕ)) (old new : Outside) → IsLarge left → IsUntouched old new → DoesTold told settings left old new ends.BookFull
told_full told settings None old new large untouched = tt
told_full told settings (Some all) old new large untouched = inl (large, untouched)

-- the whole entries are no more than the bytes
pub whole_within : (start : NodeState) (before drives : Drives) (bytes : List ℕ) (whole : ℕ) (node : NodeState) → IsResumedAs start before bytes whole node drives → whole ≤ length bytes
whole_within start before drives bytes whole node is =
    let leads = is.resumed.leads in
    omega (arith, leads.at_is, ap length leads.split, length-append (spelled leads.entries) (drop whole bytes))

-- ---- the settings file

pub untouched : (given : Option (List Given)) (log book old : Option (List ℕ)) → book ≡ old → IsUntouched (record { given = given; log = log; book = old }) (record { given = given; log = log; book = book })
untouched given log book old same = record { given = refl; log = refl; book = same }

at_one : (test : Bool) (file : Option (List ℕ)) (busy : Option Bool) (left : Option (List ℕ)) (told : Option ℤ) (old new : Outside) (status : BookStatus) → test ≡ true → DoesNodeBook true file busy left told old new status → DoesNodeBook test file busy left told old new status
at_one test file busy left told old new status e does = let P : Bool → Type 0 = λ t. DoesNodeBook t file busy left told old new status in subst P (sym e) does

pub book_usage : (test : Bool) (file : Option (List ℕ)) (busy : Option Bool) (left : Option (List ℕ)) (told : Option ℤ) (old new : Outside) → test ≡ false → IsUntouched old new → DoesNodeBook test file busy left told old new (ends.Node statuses.Usage)
book_usage test file busy left told old new e quiet = let P : Bool → Type 0 = λ t. DoesNodeBook t file busy left told old new (ends.Node statuses.Usage) in subst P (sym e) (refl, quiet)

fault_one : (file : Option (List ℕ)) (busy : Option Bool) (left : Option (List ℕ)) (told : Option ℤ) (old new : Outside) → IsUntouched old new → DoesNodeBook true file busy left told old new (ends.Node statuses.ReadFault)
fault_one None busy left told old new quiet = tt
fault_one (Some bytes) busy left told old new quiet = quiet

pub book_read_fault : (test : Bool) (file : Option (List ℕ)) (busy : Option Bool) (left : Option (List ℕ)) (told : Option ℤ) (old new : Outside) → test ≡ true → IsUntouched old new → DoesNodeBook test file busy left told old new (ends.Node statuses.ReadFault)
book_read_fault test file busy left told old new e quiet = at_one test file busy left told old new (ends.Node statuses.ReadFault) e (fault_one file busy left told old new quiet)

memory_one : (file : Option (List ℕ)) (busy : Option Bool) (left : Option (List ℕ)) (told : Option ℤ) (old new : Outside) → IsUntouched old new → DoesNodeBook true file busy left told old new (ends.Node statuses.Memory)
memory_one None busy left told old new quiet = tt
memory_one (Some bytes) busy left told old new quiet = inl quiet

pub book_memory : (test : Bool) (file : Option (List ℕ)) (busy : Option Bool) (left : Option (List ℕ)) (told : Option ℤ) (old new : Outside) → test ≡ true → IsUntouched old new → DoesNodeBook test file busy left told old new (ends.Node statuses.Memory)
book_memory test file busy left told old new e quiet = at_one test file busy left told old new (ends.Node statuses.Memory) e (memory_one file busy left told old new quiet)

refused_one : (file : Option (List ℕ)) (busy : Option Bool) (left : Option (List ℕ)) (bytes : List ℕ) (told : Option ℤ) (old new : Outside) (key : ConfigKey) (why : ConfigWhy) → ReadsFile file bytes → read_of bytes ≡ Err (refusal key why) → IsUntouched old new
    → DoesNodeBook true file busy left told old new (ends.Node (statuses.ConfigRefused key why))
refused_one None busy left bytes told old new key why reads says quiet = tt
refused_one (Some all) busy left bytes told old new key why reads says quiet =
    let P : Result Settings Refusal → Type 0 = λ r. DoesRead r busy told left old new (ends.Node (statuses.ConfigRefused key why)) in
    subst P (sym (reads ∙ says)) (refl, quiet)

by_error : (error : SettingsError) (test : Bool) (file : Option (List ℕ)) (busy : Option Bool) (left : Option (List ℕ)) (bytes : List ℕ) (told : Option ℤ) (old new : Outside) → test ≡ true → ReadsFile file bytes → (let answer : Result Settings SettingsError = Err error in Reads (read_of bytes) answer) → IsUntouched old new
    → DoesNodeBook test file busy left told old new (ends.Node (status_of error))
by_error (refusals.Refused key why) test file busy left bytes told old new e reads says quiet = at_one test file busy left told old new (ends.Node (statuses.ConfigRefused key why)) e (refused_one file busy left bytes told old new key why reads says quiet)
by_error refusals.Memory test file busy left bytes told old new e reads says quiet = book_memory test file busy left told old new e quiet

pub book_error : (error : SettingsError) (test : Bool) (file : Option (List ℕ)) (busy : Option Bool) (left : Option (List ℕ)) (bytes slice : List ℕ) (told : Option ℤ) (old new : Outside) → test ≡ true → ReadsFile file bytes → slice ≡ bytes → (let answer : Result Settings SettingsError = Err error in Reads (read_of slice) answer) → IsUntouched old new
    → DoesNodeBook test file busy left told old new (ends.Node (status_of error))
book_error error test file busy left bytes slice told old new e reads same says quiet =
    let P : List ℕ → Type 0 = λ b. (let answer : Result Settings SettingsError = Err error in Reads (read_of b) answer) in
    by_error error test file busy left bytes told old new e reads (subst P same says) quiet

-- ---- the book is taken

by_free : (status : BookStatus) (busy : Option Bool) (told : Option ℤ) (settings : Settings) (left : Option (List ℕ)) (old new : Outside) → IsRestStatus status → DoesFree busy told settings left old new status → DoesTaking busy told settings left old new status
by_free (ends.Node status) busy told settings left old new fits free = free
by_free ends.BookFault busy told settings left old new fits free = inr free
by_free (ends.BookRefused at why) busy told settings left old new fits free = free
by_free ends.BookFull busy told settings left old new fits free = free
by_free ends.BookBusy busy told settings left old new fits free = absurd fits

-- it left what it has, and what wasn't read
pub taken_on : (status : BookStatus) (busy : Option Bool) (told : Option ℤ) (settings : Settings) (left over : Option (List ℕ)) (given : Option (List Given)) (log book mid : Option (List ℕ)) (new : Outside) → IsRestStatus status → IsHeld busy false → over ≡ left → mid ≡ book
    → DoesTold told settings over (outside given log mid) new status → DoesTaking busy told settings left (outside given log book) new status
taken_on status busy told settings left over given log book mid new fits free unread stays does =
    let P : Option (List ℕ) → Type 0 = λ l. DoesTold told settings l (outside given log mid) new status in
    let Q : Option (List ℕ) → Type 0 = λ m. DoesTold told settings left (outside given log m) new status in
    by_free status busy told settings left (outside given log book) new fits (record { free = free; does = subst Q stays (subst P unread does) })

pub taking_fits : (status : BookStatus) → IsRestStatus status → IsTakingStatus status
taking_fits (ends.Node status) fits = fits
taking_fits ends.BookFault fits = fits
taking_fits (ends.BookRefused at why) fits = fits
taking_fits ends.BookFull fits = fits
taking_fits ends.BookBusy fits = tt

pub never_busy : (status : BookStatus) (A : Type 0) → IsRestStatus status → status ≡ ends.BookBusy → A
never_busy status A fits e = absurd (subst IsRestStatus e fits)

-- what settings ask for is what their file asks for
file_does : (status : BookStatus) (bytes : List ℕ) (busy : Option Bool) (left : Option (List ℕ)) (told : Option ℤ) (old new : Outside) → IsTakingStatus status → DoesRead (read_of bytes) busy told left old new status → DoesBookFile bytes busy told left old new status
file_does (ends.Node statuses.ReadFault) bytes busy left told old new fits does = absurd fits
file_does (ends.Node statuses.Memory) bytes busy left told old new fits does = inr does
file_does (ends.Node statuses.Done) bytes busy left told old new fits does = does
file_does (ends.Node statuses.Usage) bytes busy left told old new fits does = does
file_does (ends.Node (statuses.ConfigRefused key why)) bytes busy left told old new fits does = does
file_does (ends.Node statuses.LogFault) bytes busy left told old new fits does = does
file_does (ends.Node (statuses.ListenFault address)) bytes busy left told old new fits does = does
file_does (ends.Node statuses.TurnsUsed) bytes busy left told old new fits does = does
file_does ends.BookFault bytes busy left told old new fits does = does
file_does (ends.BookRefused at why) bytes busy left told old new fits does = does
file_does ends.BookFull bytes busy left told old new fits does = does
file_does ends.BookBusy bytes busy left told old new fits does = does

begun_one : (file : Option (List ℕ)) (busy : Option Bool) (left : Option (List ℕ)) (bytes : List ℕ) (settings : Settings) (told : Option ℤ) (old new : Outside) (status : BookStatus) → ReadsFile file bytes → read_of bytes ≡ Ok settings → IsTakingStatus status → DoesTaking busy told settings left old new status
    → DoesNodeBook true file busy left told old new status
begun_one None busy left bytes settings told old new status reads says fits does = tt
begun_one (Some all) busy left bytes settings told old new status reads says fits does =
    let P : Result Settings Refusal → Type 0 = λ r. DoesRead r busy told left old new status in
    file_does status all busy left told old new fits (subst P (sym (reads ∙ says)) does)

pub book_begun : (test : Bool) (file : Option (List ℕ)) (busy : Option Bool) (left : Option (List ℕ)) (bytes slice : List ℕ) (settings : Settings) (told : Option ℤ) (old new : Outside) (status : BookStatus) → test ≡ true → ReadsFile file bytes → slice ≡ bytes → read_of slice ≡ Ok settings → IsTakingStatus status
    → DoesTaking busy told settings left old new status → DoesNodeBook test file busy left told old new status
book_begun test file busy left bytes slice settings told old new status e reads same says fits does =
    at_one test file busy left told old new status e (begun_one file busy left bytes settings told old new status reads (ap read_of (sym same) ∙ says) fits does)

-- ---- what fits, and causes

fits_one : (status : BookStatus) → IsTakingStatus status → FitsNodeBook true status
fits_one (ends.Node statuses.Usage) fits = fits
fits_one (ends.Node statuses.Done) fits = tt
fits_one (ends.Node (statuses.ConfigRefused key why)) fits = tt
fits_one (ends.Node statuses.ReadFault) fits = tt
fits_one (ends.Node statuses.LogFault) fits = tt
fits_one (ends.Node statuses.Memory) fits = tt
fits_one (ends.Node (statuses.ListenFault address)) fits = tt
fits_one (ends.Node statuses.TurnsUsed) fits = tt
fits_one ends.BookFault fits = tt
fits_one (ends.BookRefused at why) fits = tt
fits_one ends.BookFull fits = tt
fits_one ends.BookBusy fits = tt

pub book_fits : (status : BookStatus) (test : Bool) → test ≡ true → IsTakingStatus status → FitsNodeBook test status
book_fits status test e fits = let P : Bool → Type 0 = λ t. FitsNodeBook t status in subst P (sym e) (fits_one status fits)

pub rest_fits : (end : BookedStatus) → IsBookedStatus end → IsRestStatus (book_status end)
rest_fits (booked.Node status) fits = fits
rest_fits booked.BookFault fits = tt
rest_fits booked.BookFull fits = tt

-- ---- a book that is kept on

-- what is mended has the whole entries, whether they are all or not
mended_if : (torn : Bool) (bytes mended : List ℕ) (whole : ℕ) → nat_lt whole (length bytes) ≡ torn → IsMendedIf torn whole (Some bytes) (Some mended) → mended ≡ take whole bytes
mended_if true bytes mended whole test cut = cut
mended_if false bytes mended whole test same =
    let one : mended ≡ bytes = cc in
    let enough : length bytes ≤ whole = grind (arith, nat_tests) in
    one ∙ sym (take_all whole bytes enough)

pub mended_bytes : (bytes mended : List ℕ) (whole : ℕ) → IsMended (length bytes) whole (Some bytes) (Some mended) → mended ≡ take whole bytes
mended_bytes bytes mended whole is = mended_if (nat_lt whole (length bytes)) bytes mended whole refl is

pub begin_again : KeptBooksAreResumed → EntriesAreTheSteps → StopsBeginAgain
begin_again kept steps start bytes mended whole acts rules moments s reached calls log entries is are_mended runs are =
    let did = steps rules moments s reached calls log entries runs in
    let P : List ℕ → Type 0 = λ m. IsResumed start (m ++ spelled entries) (whole + length (spelled entries)) reached.node (acts ++ did.told) in
    record { told = did.told; tells = did.tells; resumed = subst P (sym (mended_bytes bytes mended whole are_mended)) (kept start bytes whole s.node acts entries reached.node did.told is are did.replays) }

-- ---- the book is read piece by piece

ended_at : (now : Option (List ℕ)) (bytes : List ℕ) → now ≡ option_map (λ rest. []) now → ReadsBook (option_map (λ rest. bytes ++ rest) now) bytes
ended_at None bytes end = tt
ended_at (Some rest) bytes end = let none : rest ≡ [] = cc in ap (λ r. bytes ++ r) none ∙ append-nil bytes

pub book_ended : (old now : Option (List ℕ)) (bytes : List ℕ) → ReadSoFar old now bytes → now ≡ option_map (λ rest. []) now → ReadsBook old bytes
book_ended old now bytes so_far end = let P : Option (List ℕ) → Type 0 = λ o. ReadsBook o bytes in subst P (sym so_far) (ended_at now bytes end)

large_at : (now : Option (List ℕ)) (bytes : List ℕ) → most_book < length bytes → IsLarge (option_map (λ rest. bytes ++ rest) now)
large_at None bytes much = tt
large_at (Some rest) bytes much = omega (arith, length-append bytes rest, much)

pub book_large : (old now : Option (List ℕ)) (bytes : List ℕ) → ReadSoFar old now bytes → most_book < length bytes → IsLarge old
book_large old now bytes so_far much = let P : Option (List ℕ) → Type 0 = λ o. IsLarge o in subst P (sym so_far) (large_at now bytes much)

-- ---- causes

node_same : (s t : NodeStatus) → ends.Node s ≡ ends.Node t → booked.Node s ≡ booked.Node t
node_same s t e = let same : s ≡ t = cc in ap booked.Node same

-- what came before the run only read the book, or cut it
pub rest_causes : (end : BookedStatus) (pb pn lb ln bb mid bn : ℕ) → bb ≤ mid → HasBookedCauses end pb pn lb ln mid bn → HasRestCauses (book_status end) pb pn lb ln bb bn
rest_causes (booked.Node status) pb pn lb ln bb mid bn before causes = record {
  ports = causes.ports;
  log = causes.log;
  book = omega (arith, before, causes.book);
  listen_fault = λ address e. causes.listen_fault address (node_same status (statuses.ListenFault address) e);
  log_fault = λ e. causes.log_fault (node_same status statuses.LogFault e);
  book_fault = λ e. cc;
}
rest_causes booked.BookFault pb pn lb ln bb mid bn before causes = record {
  ports = causes.ports;
  log = causes.log;
  book = omega (arith, before, causes.book);
  listen_fault = λ address e. cc;
  log_fault = λ e. cc;
  book_fault = λ e. rose_after bb mid bn before causes.book (causes.book_fault refl);
}
rest_causes booked.BookFull pb pn lb ln bb mid bn before causes = record {
  ports = causes.ports;
  log = causes.log;
  book = omega (arith, before, causes.book);
  listen_fault = λ address e. cc;
  log_fault = λ e. cc;
  book_fault = λ e. cc;
}

pub rest_behind : (status : BookStatus) (pb pn lb ln bb mid bn : ℕ) → bb ≤ mid → HasRestCauses status pb pn lb ln mid bn → HasRestCauses status pb pn lb ln bb bn
rest_behind status pb pn lb ln bb mid bn before causes = record {
  ports = causes.ports;
  log = causes.log;
  book = omega (arith, before, causes.book);
  listen_fault = causes.listen_fault;
  log_fault = causes.log_fault;
  book_fault = λ e. rose_after bb mid bn before causes.book (causes.book_fault e);
}

no_read_fault : (status : BookStatus) → IsTakingStatus status → status ≡ ends.Node statuses.ReadFault → ⊥
no_read_fault status is e = let P : BookStatus → Type 0 = λ s. IsTakingStatus s in subst P e is

pub book_causes : (status : BookStatus) (fb fn pb pn lb ln bb bn : ℕ) → IsTakingStatus status → fb ≤ fn → HasRestCauses status pb pn lb ln bb bn → HasBookCauses status fb fn pb pn lb ln bb bn
book_causes status fb fn pb pn lb ln bb bn is file causes = record {
  file = file;
  ports = causes.ports;
  log = causes.log;
  book = causes.book;
  read_fault = λ e. absurd (no_read_fault status is e);
  listen_fault = causes.listen_fault;
  log_fault = causes.log_fault;
  book_fault = causes.book_fault;
}

pub error_causes : (error : SettingsError) (fb fn pb lb bb : ℕ) → fb ≤ fn → HasBookCauses (ends.Node (status_of error)) fb fn pb pb lb lb bb bb
error_causes (refusals.Refused key why) fb fn pb lb bb file = record { file = file; ports = omega arith; log = omega arith; book = omega arith; read_fault = λ e. cc; listen_fault = λ address e. cc; log_fault = λ e. cc; book_fault = λ e. cc }
error_causes refusals.Memory fb fn pb lb bb file = record { file = file; ports = omega arith; log = omega arith; book = omega arith; read_fault = λ e. cc; listen_fault = λ address e. cc; log_fault = λ e. cc; book_fault = λ e. cc }

fits_error_one : (error : SettingsError) → FitsNodeBook true (ends.Node (status_of error))
fits_error_one (refusals.Refused key why) = tt
fits_error_one refusals.Memory = tt

pub fits_error : (error : SettingsError) (test : Bool) → test ≡ true → FitsNodeBook test (ends.Node (status_of error))
fits_error error test e = let P : Bool → Type 0 = λ t. FitsNodeBook t (ends.Node (status_of error)) in subst P (sym e) (fits_error_one error)

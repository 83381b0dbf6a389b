use Rattle.std.specs.Prelude.{◌+◌, ◌-◌, ◌^◌, ◌++◌, ℕ, Bool, true, false, List, Option, None, Some, length, min, nat_eq, nat_lt, if◌then◌else◌}
use Rattle.std.specs.List.{list_any}
use Rattle.line_outside.specs.Faults.{one_more}
use Rattle.line_outside.specs.declared.sink.Push.{Push}
use Rattle.line_outside.specs.declared.sink.Push.TheVariants as pushes

-- what a sink over memory tells: what it has taken, until a piece was dropped, and how many more
-- bytes there is room for
pub record Page : Type 0 where
  pub contents : Option (List ℕ)
  pub room : ℕ

abbrev pub told : Bool → List ℕ → Option (List ℕ)
told false bytes = Some bytes
told true bytes = None

abbrev pub written : Option (List ℕ) → ℕ → List ℕ → Page
written None room piece = record { contents = None; room = room }
written (Some bytes) room piece =
    if nat_lt room (length piece) then record {
      contents = None;
      room = room;
    } else record { contents = Some (bytes ++ piece); room = room - length piece }

-- the page after a piece: it is appended where it fits; a piece that doesn't fit is dropped, and
-- from then on the page doesn't tell its contents
abbrev pub grown : Page → List ℕ → Page
grown page piece = written page.contents page.room piece

-- what a sink that may fail is: its page, the numbers of the calls that fail, how many calls there
-- were, and how many failed
pub record Sheet : Type 0 where
  pub page : Page
  pub failing : List ℕ
  pub calls : ℕ
  pub faults : ℕ

-- whether the next call is listed as failing
abbrev pub fails_next : List ℕ → ℕ → Bool
fails_next failing calls =
    list_any (λ number. nat_eq number (min (calls + 1) (2 ^ 64 - 1))) failing

-- what the next push answers: a failure exactly where the call is listed, else the whole piece
abbrev pub pushes_at : Sheet → List ℕ → Push
pushes_at sheet piece =
    if fails_next sheet.failing sheet.calls then pushes.Failed else pushes.Took (length piece)

abbrev pub page_after : Sheet → List ℕ → Page
page_after sheet piece =
    if fails_next sheet.failing sheet.calls then sheet.page else grown sheet.page piece

-- how many calls failed, after a push that answers so: one more exactly where it failed
abbrev pub faults_after : ℕ → Push → ℕ
faults_after before pushes.Failed = one_more before
faults_after before (pushes.Took n) = before

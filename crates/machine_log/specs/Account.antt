-- What a machine owns, read off the bytes of its log.
use Rattle.std.specs.Prelude.{ℕ, ◌<◌, ◌^◌, ◌==◌, ◌++◌, List, [], ◌∷◌, Option, None, Some, Result, Ok, Err, Bool, true, false, codes, if◌then◌else◌}
use Rattle.std.specs.List.{All}
use Rattle.line_base.specs.Name.{IsName}
use Rattle.board_record.specs.BoardId.{read_id}
use Rattle.board_record.specs.declared.id.BadId.{BadId}
use Rattle.hermes_horizontal.specs.Parts.{name_of}
use Rattle.hermes_vertical.specs.Parts.{name_of as vertical_name_of}
use Rattle.node_core.specs.Own.{Own, own_act}
use Rattle.node_core.specs.declared.act.Act.{Act}
use Rattle.node_core.specs.declared.act.Act.TheVariants as acts
use Rattle.node_core.specs.declared.act.Deed.{Deed}
use Rattle.node_core.specs.declared.act.Deed.TheVariants as deeds

-- ---- the words of a text

abbrev pub begins_with : List ℕ → List ℕ → Bool
begins_with [] text = true
begins_with (b ∷ word) [] = false
begins_with (b ∷ word) (c ∷ text) = if b == c then begins_with word text else false

abbrev pub before_blank : List ℕ → List ℕ
before_blank [] = []
before_blank (b ∷ bytes) = if b == 32 then [] else b ∷ before_blank bytes

abbrev pub behind_blank : List ℕ → List ℕ
behind_blank [] = []
behind_blank (b ∷ bytes) = if b == 32 then bytes else behind_blank bytes

-- what stands behind the second blank
abbrev pub behind_two : List ℕ → List ℕ
behind_two text = behind_blank (behind_blank text)

abbrev pub id_found : Result ℕ BadId → ℕ
id_found (Ok id) = id
id_found (Err bad) = 0

-- the id that a text is
abbrev pub id_in : List ℕ → ℕ
id_in text = id_found (read_id text)

-- ---- what a line tells

-- THE ACT THAT A TEXT TELLS, of those that change what a machine owns: the word, a side or a
-- machine, and the id behind them. A board that goes to another lane is owned no more, as one that is
-- taken out, and one that comes from there is owned as one that is put in
abbrev pub act_in : List ℕ → Option Act
act_in text =
    if begins_with (codes "opens ") text then Some
    (acts.Deed (deeds.Opens (id_in (behind_two text))))
    else if begins_with (codes "leaves ") text then Some
    (acts.Deed (deeds.Leaves (id_in (behind_two text))))
    else if begins_with (codes "returns ") text then Some
    (acts.Deed (deeds.Returns (id_in (behind_two text))))
    else if begins_with (codes "loses ") text then Some
    (acts.Deed (deeds.Loses (id_in (behind_two text))))
    else if begins_with (codes "starts ") text then Some
    (acts.Deed (deeds.Starts (id_in (behind_two text))))
    else if begins_with (codes "settles ") text then Some
    (acts.Deed (deeds.Settles (id_in (behind_two text))))
    else if begins_with (codes "drops ") text then Some
    (acts.Deed (deeds.Drops (id_in (behind_two text))))
    else if begins_with (codes "insert ") text then Some (acts.Inserts (id_in (behind_two text)))
    else if begins_with (codes "remove ") text then Some (acts.Removes (id_in (behind_two text)))
    else if begins_with (codes "gives ") text then Some (acts.Removes (id_in (behind_two text)))
    else if begins_with (codes "gets ") text then Some (acts.Inserts (id_in (behind_two text)))
    else if begins_with (codes "replace ") text then Some
    (acts.Replaces (id_in (before_blank (behind_two text)))
    (id_in (behind_blank (behind_two text))))
    else None

abbrev pub own_told : Option Act → Own → Own
own_told None own = own
own_told (Some act) own = own_act own act

-- a line is a turn's number, a blank and a text
abbrev pub own_line : List ℕ → Own → Own
own_line line own = own_told (act_in (behind_blank line)) own

-- what is owned behind these bytes, of which a line's front was read before
abbrev pub own_behind : List ℕ → List ℕ → Own → Own
own_behind line [] own = own
own_behind line (b ∷ bytes) own =
    if b == 10 then own_behind [] bytes (own_line line own) else own_behind (line
    ++ (b ∷ [])) bytes own

-- WHAT IS OWNED BEHIND A LOG, by its bytes and by what was owned before
abbrev pub own_by_log : List ℕ → Own → Own
own_by_log log own = own_behind [] log own

-- ---- what the types of acts say of them: an id has 128 bits, and a message's name is a name

abbrev pub id_of_deed : Deed → ℕ
id_of_deed (deeds.Opens id) = id
id_of_deed (deeds.Refuses id) = id
id_of_deed (deeds.Leaves id) = id
id_of_deed (deeds.Returns id) = id
id_of_deed (deeds.Loses id) = id
id_of_deed (deeds.Starts id) = id
id_of_deed (deeds.Settles id) = id
id_of_deed (deeds.Drops id) = id

abbrev pub IsProperAct : Act → Type 0
IsProperAct (acts.Hears side message) = IsName (name_of message.body)
IsProperAct (acts.Sends side message) = IsName (name_of message.body)
IsProperAct (acts.Deed deed) = id_of_deed deed < 2 ^ 128
IsProperAct (acts.Inserts id) = id < 2 ^ 128
IsProperAct (acts.Removes id) = id < 2 ^ 128
IsProperAct (acts.Gives id to) = id < 2 ^ 128
IsProperAct (acts.Gets id) = id < 2 ^ 128
IsProperAct (acts.Replaces old new) = (old < 2 ^ 128) × (new < 2 ^ 128)
IsProperAct (acts.Tells message) = IsName (vertical_name_of message.body)
IsProperAct act = Unit {0}

pub record AreProper (told : List Act) : Type 0 where
  pub each : All IsProperAct told

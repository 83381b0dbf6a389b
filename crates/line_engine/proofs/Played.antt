-- Parts of a line of the script that are done one behind the other.
use Rattle.std.proofs.Common.{List, [], ap, append-nil, append_assoc, arith, length, refl, subst, sym, true, false, Bool, ℕ, suc, ◌++◌, ◌+◌, ◌-◌, ◌∙◌, ◌∷◌, ◌≡◌}
use Rattle.line_base.specs.declared.states.Side.TheVariants.{Entry, Exit}
use Rattle.line_script.specs.declared.line.LaneLine.{LaneLine}
use Rattle.line_script.specs.declared.line.LaneLine.TheVariants as lane_lines
use Rattle.line_script.specs.declared.line.ScriptLine.TheVariants as lines
use Rattle.line_report.specs.declared.happening.LaneHappening.{LaneHappening}
use Rattle.line_step.specs.Parts.{count_behind}
use Rattle.law_lanes.specs.Lanes.{Lanes, lines_of}
use Rattle.law_lanes.specs.Parts.{IsLanePlay, LaneLineSteps, LanePart, LanePoint, all_told, cut_where, notice_where, parts_of, state_behind, stop_parts, stops_from, stops_on}
use Rattle.law_lanes.specs.Steps.{LanesStep}
use Rattle.std.specs.Prelude.{None, Some}
use Rattle.line_script.specs.Ranges.{IsBetween, IsLaneWithin}
use Rattle.line_engine.specs.Each.{GoesOn, Plays, stopped}

pub plays_none : (s : Lanes) (told : List LaneHappening) → Plays [] s s told told
plays_none s told = record { points = []; plays = tt; behind = refl; now_is = sym (append-nil told) }

-- one part
pub plays_one : (number : ℕ) (part : LanePart) (before after : Lanes) (told now : List LaneHappening) → number ≡ lines_of before + 1 → lines_of after ≡ count_behind part.ends (lines_of before)
    → GoesOn number (part.line before) before after told now → Plays (part ∷ []) before after told now
plays_one number part before after told now numbered counted g = record {
  points = record { told = g.more; after = after } ∷ [];
  plays = (record { steps = subst (λ (n : ℕ). LanesStep n (part.line before) before after g.more) numbered g.steps; counted = counted }, tt);
  behind = refl;
  now_is = g.now_is ∙ ap (λ (more : List LaneHappening). told ++ more) (sym (append-nil g.more));
}

play_on : (s : Lanes) (parts others : List LanePart) (points more : List LanePoint) → IsLanePlay s parts points → IsLanePlay (state_behind s points) others more → IsLanePlay s (parts ++ others) (points ++ more)
play_on s [] others [] more play next = next
play_on s [] others (point ∷ points) more play next = absurd play
play_on s (part ∷ parts) others [] more play next = absurd play
play_on s (part ∷ parts) others (point ∷ points) more play next = (play.0, play_on point.after parts others points more play.1 next)

pub behind_on : (s : Lanes) (points more : List LanePoint) → state_behind s (points ++ more) ≡ state_behind (state_behind s points) more
behind_on s [] more = refl
behind_on s (point ∷ points) more = behind_on point.after points more

told_on : (points more : List LanePoint) → all_told (points ++ more) ≡ all_told points ++ all_told more
told_on [] more = refl
told_on (point ∷ points) more = ap (λ (told : List LaneHappening). point.told ++ told) (told_on points more) ∙ sym (append_assoc point.told (all_told points) (all_told more))

-- and others behind them
pub plays_on : (parts others : List LanePart) (before between after : Lanes) (told then now : List LaneHappening) → Plays parts before between told then → Plays others between after then now → Plays (parts ++ others) before after told now
plays_on parts others before between after told then now p q = record {
  points = p.points ++ q.points;
  plays = play_on before parts others p.points q.points p.plays (subst (λ (s : Lanes). IsLanePlay s others q.points) (sym p.behind) q.plays);
  behind = behind_on before p.points q.points ∙ ap (λ (s : Lanes). state_behind s q.points) p.behind ∙ q.behind;
  now_is = q.now_is ∙ ap (λ (was : List LaneHappening). was ++ all_told q.points) p.now_is ∙ append_assoc told (all_told p.points) (all_told q.points)
      ∙ ap (λ (more : List LaneHappening). told ++ more) (sym (told_on p.points q.points));
}

-- what all parts of a line did, is the line's step
pub line_played : (line : LaneLine) (before after : Lanes) (now : List LaneHappening) → Plays (parts_of (length before.tracks) line) before after [] now → LaneLineSteps line before after now
line_played line before after now p = record { points = p.points; plays = p.plays; behind = p.behind; told_is = p.now_is }

-- four parts on a lane
pub lane_played : (number lane machine : ℕ) (ends : Bool) (a b c d e : Lanes) (t u v w x : List LaneHappening) → number ≡ lines_of a + 1
    → lines_of b ≡ lines_of a → lines_of c ≡ lines_of b → lines_of d ≡ count_behind false (lines_of c) → lines_of e ≡ count_behind ends (lines_of d)
    → GoesOn number (cut_where lane (machine - 1) a) a b t u → GoesOn number (cut_where lane machine b) b c u v
    → GoesOn number (notice_where lane machine Entry c) c d v w → GoesOn number (notice_where lane machine Exit d) d e w x
    → Plays (stops_on lane machine ends) a e t x
lane_played number lane machine ends a b c d e t u v w x numbered ab bc cd de ga gb gc gd =
    let first : LanePart = record { line = cut_where lane (machine - 1); ends = false } in
    let second : LanePart = record { line = cut_where lane machine; ends = false } in
    let third : LanePart = record { line = notice_where lane machine Entry; ends = false } in
    let fourth : LanePart = record { line = notice_where lane machine Exit; ends = ends } in
    let at_b : number ≡ lines_of b + 1 = numbered ∙ ap (λ (n : ℕ). n + 1) (sym ab) in
    let at_c : number ≡ lines_of c + 1 = at_b ∙ ap (λ (n : ℕ). n + 1) (sym bc) in
    let at_d : number ≡ lines_of d + 1 = at_c ∙ ap (λ (n : ℕ). n + 1) (sym cd) in
    plays_on (first ∷ []) (second ∷ third ∷ fourth ∷ []) a b e t u x (plays_one number first a b t u numbered ab ga)
    (plays_on (second ∷ []) (third ∷ fourth ∷ []) b c e u v x (plays_one number second b c u v at_b bc gb)
    (plays_on (third ∷ []) (fourth ∷ []) c d e v w x (plays_one number third c d v w at_c cd gc) (plays_one number fourth d e w x at_d de gd)))

-- ---- lane by lane

-- what is left, from a state on, makes all of it
abbrev pub LanesLeft : (lanes lane machine : ℕ) (start s : Lanes) (told now : List LaneHappening) → Type 0
LanesLeft lanes lane machine start s told now =
    (after : Lanes) (then : List LaneHappening) → Plays (stops_from lane (lanes - lane) machine) s after now then → Plays (stops_from 1 (lanes - 1) machine) start after told then

one_less : (lanes lane more machine : ℕ) → lanes - lane ≡ suc more → stops_from lane (lanes - lane) machine ≡ stops_on lane machine false ++ stops_from (lane + 1) (lanes - (lane + 1)) machine
one_less lanes lane more machine is =
    let rest : more ≡ lanes - (lane + 1) = omega (arith, is) in
    ap (λ (n : ℕ). stops_from lane n machine) is ∙ ap (λ (n : ℕ). stops_on lane machine false ++ stops_from (lane + 1) n machine) rest

pub lane_less : (lanes lane machine more : ℕ) (start s next : Lanes) (told now then : List LaneHappening) → lanes - lane ≡ suc more → LanesLeft lanes lane machine start s told now
    → Plays (stops_on lane machine false) s next now then → LanesLeft lanes (lane + 1) machine start next told then
lane_less lanes lane machine more start s next told now then is left played =
    λ after last rest.
    left after last (subst (λ (parts : List LanePart). Plays parts s after now last) (sym (one_less lanes lane more machine is))
    (plays_on (stops_on lane machine false) (stops_from (lane + 1) (lanes - (lane + 1)) machine) s next after now then last played rest))

pub lanes_end : (lanes lane machine : ℕ) (start s after : Lanes) (told now then : List LaneHappening) → lanes - lane ≡ 0 → LanesLeft lanes lane machine start s told now → Plays (stops_on lane machine true) s after now then
    → Plays (stops_from 1 (lanes - 1) machine) start after told then
lanes_end lanes lane machine start s after told now then is left played =
    left after then (subst (λ (n : ℕ). Plays (stops_from lane n machine) s after now then) (sym is) played)

pub stop_played : (number lanes machine : ℕ) (before between after : Lanes) (told then now : List LaneHappening) → number ≡ lines_of before + 1 → lines_of between ≡ lines_of before
    → GoesOn number (lane_lines.On 1 (lines.Stop machine)) before between told then → Plays (stops_from 1 (lanes - 1) machine) between after then now → Plays (stop_parts lanes machine) before after told now
stop_played number lanes machine before between after told then now numbered counted g rest =
    plays_on (record { line = λ s. lane_lines.On 1 (lines.Stop machine); ends = false } ∷ []) (stops_from 1 (lanes - 1) machine) before between after told then now
    (plays_one number (record { line = λ s. lane_lines.On 1 (lines.Stop machine); ends = false }) before between told then numbered counted g) rest

-- ---- whether it is a stop

pub parts_stopped : (lanes : ℕ) (line : LaneLine) (machine : ℕ) → stopped line ≡ Some machine → parts_of lanes line ≡ stop_parts lanes machine
parts_stopped lanes (lane_lines.On lane (lines.Stop other)) machine is = let same : other ≡ machine = cc in ap (stop_parts lanes) same
parts_stopped lanes (lane_lines.On lane _) machine is = absurd (cc)
parts_stopped lanes (lane_lines.Lanes count) machine is = absurd (cc)
parts_stopped lanes (lane_lines.Shift other from to id) machine is = absurd (cc)

pub parts_whole : (lanes : ℕ) (line : LaneLine) → stopped line ≡ None → parts_of lanes line ≡ record { line = λ (s : Lanes). line; ends = true } ∷ []
parts_whole lanes (lane_lines.On lane (lines.Stop other)) is = absurd (cc)
parts_whole lanes (lane_lines.On lane _) is = refl
parts_whole lanes (lane_lines.Lanes count) is = refl
parts_whole lanes (lane_lines.Shift other from to id) is = refl

pub stop_within : (line : LaneLine) (machine : ℕ) → stopped line ≡ Some machine → IsLaneWithin line → IsBetween 1 64 machine
stop_within (lane_lines.On lane (lines.Stop other)) machine is within = let same : other ≡ machine = cc in subst (λ (n : ℕ). IsBetween 1 64 n) same within.1
stop_within (lane_lines.On lane _) machine is within = absurd (cc)
stop_within (lane_lines.Lanes count) machine is within = absurd (cc)
stop_within (lane_lines.Shift other from to id) machine is within = absurd (cc)

pub stop_line : (line : LaneLine) (machine lanes : ℕ) (before after : Lanes) (now : List LaneHappening) → stopped line ≡ Some machine → lanes ≡ length before.tracks → Plays (stop_parts lanes machine) before after [] now → LaneLineSteps line before after now
stop_line line machine lanes before after now is lanes_is p =
    line_played line before after now (subst (λ (parts : List LanePart). Plays parts before after [] now) (ap (λ (n : ℕ). stop_parts n machine) lanes_is ∙ sym (parts_stopped (length before.tracks) line machine is)) p)

pub whole_line : (number : ℕ) (line : LaneLine) (before after : Lanes) (old now : List LaneHappening) → stopped line ≡ None → number ≡ lines_of before + 1 → lines_of after ≡ count_behind true (lines_of before) → old ≡ [] → GoesOn number line before after old now → LaneLineSteps line before after now
whole_line number line before after old now is numbered counted old_is g =
    line_played line before after now (subst (λ (parts : List LanePart). Plays parts before after [] now) (sym (parts_whole (length before.tracks) line is))
    (plays_one number (record { line = λ (s : Lanes). line; ends = true }) before after [] now numbered counted (subst (λ (o : List LaneHappening). GoesOn number line before after o now) old_is g)))

use Rattle.std.proofs.Common.{◌≡◌, pos, refl, ap, inl, inr, arith, Some, to_z, w16, w8}
use Rattle.std.proofs.lemmas.Int.{to_z_pos}
use Rattle.std.proofs.lemmas.Bool.{cases_Bool, false≢true}
use Rattle.line_base.specs.Moment.{is_civil}
use Rattle.line_base.proofs.Calendar.{HasCivil, is_civil_from, is_civil_parts}
use Rattle.jiff_core.specs.DateTime.{civil_seconds}
use Rattle.jiff_core.proofs.SignedLemmas.{signed_arith, signed_casts}
use Rattle.line_base.proofs.civil.Fields.count.Goals as goal

pub returns-in-Ok : goal.returns-in-Ok
unfolding civil_seconds
returns-in-Ok c =
    let year : to_z w16 c.args.self.year ≡ pos c.args.self.year = to_z_pos w16 _ (omega arith) in
    let month : to_z w8 c.args.self.month ≡ pos c.args.self.month = to_z_pos w8 _ (omega arith) in
    let day : to_z w8 c.args.self.day ≡ pos c.args.self.day = to_z_pos w8 _ (omega arith) in
    let hour : to_z w8 c.args.self.hour ≡ pos c.args.self.hour = to_z_pos w8 _ (omega arith) in
    let minute : to_z w8 c.args.self.minute ≡ pos c.args.self.minute = to_z_pos w8 _ (omega arith) in
    let second : to_z w8 c.args.self.second ≡ pos c.args.self.second = to_z_pos w8 _ (omega arith) in
    let had = rw (year, month, day, hour, minute, second) at (c.in-Ok.ensures.succeeds.0 refl) in
    let shown = rw (year, month, day, hour, minute, second) at c.in-Ok.ensures.value in
    let here : HasCivil c.args.self = record {
      year = (omega (arith, signed_arith), omega (arith, signed_arith));
      month = (omega (arith, signed_arith), omega (arith, signed_arith));
      day = (omega (arith, signed_arith), omega (arith, signed_arith));
      hour = omega (arith, signed_arith);
      minute = omega (arith, signed_arith);
      second = omega (arith, signed_arith);
    } in
    let same_year = shown.0.0 in
    let same_month : c.in-Ok.civil.date.month ≡ c.args.self.month = omega (arith, signed_arith) in
    let same_day : c.in-Ok.civil.date.day ≡ c.args.self.day = omega (arith, signed_arith) in
    let seconds = rw (c.to_plain.ensures, same_year, same_month, same_day) at c.to_second.ensures.value in
    rw (is_civil_from c.args.self here) (ap Some (omega (arith, signed_casts)))

pub returns-in-Err : goal.returns-in-Err
returns-in-Err c =
    let year : to_z w16 c.args.self.year ≡ pos c.args.self.year = to_z_pos w16 _ (omega arith) in
    let month : to_z w8 c.args.self.month ≡ pos c.args.self.month = to_z_pos w8 _ (omega arith) in
    let day : to_z w8 c.args.self.day ≡ pos c.args.self.day = to_z_pos w8 _ (omega arith) in
    let hour : to_z w8 c.args.self.hour ≡ pos c.args.self.hour = to_z_pos w8 _ (omega arith) in
    let minute : to_z w8 c.args.self.minute ≡ pos c.args.self.minute = to_z_pos w8 _ (omega arith) in
    let second : to_z w8 c.args.self.second ≡ pos c.args.self.second = to_z_pos w8 _ (omega arith) in
    let wanted = rw (year, month, day, hour, minute, second) at c.in-Err.ensures.succeeds.1 in
    elim (cases_Bool (is_civil c.args.self)) [
      | inl whole ↦
          let parts = is_civil_parts c.args.self whole in
          absurd (false≢true (wanted (
            ((omega (arith, signed_arith), omega (arith, signed_arith)), (omega (arith, signed_arith), omega (arith, signed_arith)), (omega (arith, signed_arith), omega (arith, signed_arith))),
            ((omega (arith, signed_arith), omega (arith, signed_arith)), (omega (arith, signed_arith), omega (arith, signed_arith)), (omega (arith, signed_arith), omega (arith, signed_arith)), (omega (arith, signed_arith), omega (arith, signed_arith))),
          )))
      | inr other ↦ rw other refl
    ]

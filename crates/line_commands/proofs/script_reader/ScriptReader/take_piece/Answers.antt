use Rattle.std.proofs.Common.{◌≡◌, ◌++◌, ◌∷◌, ◌∙◌, [], Ok, Err, refl, sym, ap, append_assoc}
use Rattle.line_commands.proofs.Steps.{takes-nothing, takes-more, takes-front}
use Rattle.line_commands.proofs.script_reader.ScriptReader.take_piece.Goals as goal

pub returns-in-Err-clause-takes : goal.returns-in-Err-clause-takes
returns-in-Err-clause-takes c =
    let old = c.args.self.now in
    let new = c.end_line.new.self in
    let line = c.in-Some.line.now in
    let others = c.in-Some.others.now in
    let taking = c.loop-line.invariant.taking in
    let before = c.args.to.now.items in
    let now = c.end_line.new.to.items in
    let regroup : (taking.taken ++ (line ++ 10 ∷ [])) ++ others ≡ taking.taken ++ (line ++ 10 ∷ others) = simp append_assoc in
    let whole = regroup ∙ ap (λ t. taking.taken ++ t) (sym c.in-Some.ensures.cut.parts) ∙ taking.parts in
    let front = takes-more (Err c.in-Err.error) old c.loop-line.self new taking.taken (line ++ 10 ∷ []) before c.loop-line.to.items now taking.takes c.in-Err.ensures.takes in
    let all = takes-front c.in-Err.error old new new (taking.taken ++ (line ++ 10 ∷ [])) others before now front in
    rw whole at all

pub loop-line-preserved : goal.loop-line-preserved
loop-line-preserved c =
    let line = c.in-Some.line.now in
    let others = c.in-Some.others.now in
    let taking = c.loop-line.invariant.taking in
    let regroup : (taking.taken ++ (line ++ 10 ∷ [])) ++ others ≡ taking.taken ++ (line ++ 10 ∷ others) = simp append_assoc in
    record {
      taking = record {
        taken = taking.taken ++ (line ++ 10 ∷ []);
        parts = regroup ∙ ap (λ t. taking.taken ++ t) (sym c.in-Some.ensures.cut.parts) ∙ taking.parts;
        takes = takes-more (Ok tt) c.args.self.now c.loop-line.self c.end_line.new.self taking.taken (line ++ 10 ∷ []) c.args.to.now.items c.loop-line.to.items c.end_line.new.to.items taking.takes c.in_default-end_line.ensures.takes;
      };
      unspent = c.in_default-end_line.ensures.unspent;
    }

pub loop-line-init : goal.loop-line-init
loop-line-init c = record {
  taking = record { taken = []; parts = refl; takes = takes-nothing c.args.self.now c.args.to.now.items };
  unspent = c.requires.unspent;
}

pub returns-clause-takes : goal.returns-clause-takes
returns-clause-takes c =
    let taking = c.loop-line.invariant.taking in
    let all = takes-more c.keep.result c.args.self.now c.loop-line.self c.keep.new.self taking.taken c.loop-line.rest.now c.args.to.now.items c.loop-line.to.items c.keep.new.to.items taking.takes c.keep.ensures.takes in
    rw taking.parts at all

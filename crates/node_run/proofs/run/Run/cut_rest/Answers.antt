use Rattle.std.proofs.Common.{◌==◌, ◌∙◌, ap, length, ℕ, List}
use Rattle.std.specs.List.{position}
use Rattle.node_run.specs.State.{RunView}
use Rattle.node_run.proofs.Cutting.{has_cut_line, has_no_cut}
use Rattle.node_run.proofs.run.Run.cut_rest.Goals as goal

pub returns-in_ok-take_front-in-Some-clause-cut : goal.returns-in_ok-take_front-in-Some-clause-cut
returns-in_ok-take_front-in-Some-clause-cut c =
    has_cut_line c.args.self.now.state c.take_front.new.self.state c.pass_byte.new.self.state c.in-Some.place (c.in-Some.ensures.place ∙ ap (λ (bytes : List ℕ). position (λ b. b == 10) bytes) c.rest.ensures)
    c.in_ok-take_front-in-Some.ensures.fronted (ap (λ (v : RunView). v.state) c.pass_byte.ensures)

pub returns-in_ok-take_front-in-None-clause-cut : goal.returns-in_ok-take_front-in-None-clause-cut
returns-in_ok-take_front-in-None-clause-cut c =
    has_no_cut c.args.self.now.state c.take_front-in-None.new.self.state (length c.rest-count.result.now) (c.in-None.ensures.place ∙ ap (λ (bytes : List ℕ). position (λ b. b == 10) bytes) c.rest.ensures)
    (ap length c.rest-count.ensures) c.in_ok-take_front-in-None.ensures.fronted

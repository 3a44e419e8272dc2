-- `walk::questions::farthest` meets its contract. Assumes nothing.
use mathlib.Core.Path.{ap, ◌∙◌}
use Rattle.paper.specs.Points.{measure_of, greatest_of}
use Rattle.paper.specs.Tree.{Store}
use Rattle.walk.proofs.Answers.{farthest_is}
use Rattle.walk.proofs.Farthest.{farthest_just}
use Rattle.walk.proofs.questions.farthest.Goals as goal

pub returns : goal.returns
returns c =
    let s = c.args.table.now in
    let v = c.table.view_is in
    let is =
    farthest_is s c.args.probe.now _ _ _ (c.numbered.ensures ∙ ap (λ (x : Store). measure_of x.table.measure) v)
    (c.greatest-greatest.ensures ∙ ap (λ (x : Store). greatest_of c.numbered.result x.table.d) v) c.first.ensures.found in
    record {
      found = is;
      nothing = farthest_just s c.args.probe.now c.requires c.first.ensures.bounded _ is;
    }

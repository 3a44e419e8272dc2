use mathlib.Core.Path.{◌∙◌}
use Rattle.end_tablet.proofs.ListLaws.{same_pairs}
use Rattle.end_tablet.proofs.probes.same_probe.Goals as goal

pub returns : goal.returns
returns c = c.eq.ensures ∙ same_pairs c.args.d _ _ c.requires.0 c.requires.1

use Rattle.std.proofs.Common.{rules}
use Rattle.libraries.proofs.Endings.{ended_by}
use Rattle.libraries.proofs.check.is_ended.Goals as goal

pub returns : goal.returns
returns c = ended_by c.args.text.now c.last.result _ c.last.ensures.value (search rules)

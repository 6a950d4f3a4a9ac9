use Rattle.std.proofs.Common.{arith}
use Rattle.libraries.proofs.Rows.{one_more}
use Rattle.libraries.proofs.table.Names.try_push.Goals as goal

pub invariant_of-self : goal.invariant_of-self
invariant_of-self g c = one_more g.row.N c.self.inside.count c.self.inside.rows c.args.name (omega (arith, c.if-at.false)) c.self.invariant

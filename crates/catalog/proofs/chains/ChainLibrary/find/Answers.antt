use Rattle.std.proofs.Common.{rules}
use Rattle.catalog.proofs.Behind.{found_either}
use Rattle.catalog.proofs.chains.ChainLibrary.find.Goals as goal

pub returns : goal.returns
returns g c =
    found_either (g.A.Library.definitions c.args.self.now.first) (g.B.Library.definitions c.args.self.now.second) c.args.name c.find.result c.or_else.result _ c.find.ensures c.or_else.ensures (λ p e. search rules)

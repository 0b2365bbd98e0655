use Rattle.std.proofs.Common.{◌<◌, arith}
use Rattle.local_types.specs.Entries.{IsMap}
use Rattle.local_types.proofs.types.LocalTypes.parts.Goals as goal

pub returns-in-Split-clause-odd : goal.returns-in-Split-clause-odd
unfolding IsMap
returns-in-Split-clause-odd c =
    let low : c.in-Split.parts.odd.at < c.args.map.at = c.in-Split.ensures.parts 0 0 (omega arith) in
    omega (arith, c.requires)

pub returns-in-Split-clause-even : goal.returns-in-Split-clause-even
unfolding IsMap
returns-in-Split-clause-even c =
    let low : c.in-Split.parts.even.at < c.args.map.at = c.in-Split.ensures.parts 1 0 (omega arith) in
    omega (arith, c.requires)

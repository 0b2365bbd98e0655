use Rattle.std.proofs.Common.{rules}
use Rattle.std.proofs.lemmas.Iterator.{YieldsList-from_map, YieldsList-from_slice}
use Rattle.std.proofs.lemmas.Iterator.Adapters.{items_from_extend}
use Rattle.diag_text.specs.Line.{printable_byte}
use Rattle.diag_text.proofs.text.push_printable.Goals as goal

pub returns-clause-ok : goal.returns-clause-ok
returns-clause-ok c =
    let whole = items_from_extend c.extend.result c.extend.ensures.ran (YieldsList-from_map _ printable_byte (YieldsList-from_slice c.args.bytes.now cc) c.map.ensures.closure (λ x r q k. search rules)) in
    search rules

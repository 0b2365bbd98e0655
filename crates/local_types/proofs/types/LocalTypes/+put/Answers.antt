use Rattle.std.proofs.Common.{[], ◌∷◌}
use Rattle.local_types.proofs.GrowFacts.{map_stands, grows_then, one_made}
use Rattle.local_types.proofs.PutFacts.{put_odd_ok, put_even_ok}
use Rattle.local_types.proofs.types.LocalTypes.+put.Goals as goal

pub split-requires-then-below-eq0-clause-even : goal.split-requires-then-below-eq0-clause-even
split-requires-then-below-eq0-clause-even t c = map_stands c.args.self.now c.put.new.self (c.args.at ∷ []) c.in_ok-odd.ensures.grows c.parts.result.even c.parts.ensures.even

pub split-requires-else-below-eq0-clause-odd : goal.split-requires-else-below-eq0-clause-odd
split-requires-else-below-eq0-clause-odd t c =
    map_stands c.args.self.now c.put-else-below-eq0.new.self (c.args.at ∷ []) c.in_ok-even.ensures.grows c.parts.result.odd c.parts.ensures.odd

pub returns-in_ok-odd-clause-entries : goal.returns-in_ok-odd-clause-entries
returns-in_ok-odd-clause-entries t c =
    put_odd_ok c.split-then-below-eq0.result c.args.self.now c.put.new.self c.split-then-below-eq0.new.self (c.args.at ∷ []) c.args.map c.in_ok-odd.odd c.parts.result c.args.local c.args.at
    c.in_ok-odd.ensures.grows c.parts.ensures.entries c.parts.ensures.there c.parts.ensures.even c.in_ok-odd.ensures.entries c.split-then-below-eq0.ensures.entries c.if-local-eq0.false c.if-below-eq0.true

pub returns-in_ok-even-clause-entries : goal.returns-in_ok-even-clause-entries
returns-in_ok-even-clause-entries t c =
    put_even_ok c.split-else-below-eq0.result c.args.self.now c.put-else-below-eq0.new.self c.split-else-below-eq0.new.self (c.args.at ∷ []) c.args.map c.in_ok-even.even c.parts.result c.args.local c.args.at
    c.in_ok-even.ensures.grows c.parts.ensures.entries c.parts.ensures.there c.parts.ensures.odd c.in_ok-even.ensures.entries c.split-else-below-eq0.ensures.entries c.if-local-eq0.false c.if-below-eq0.false

pub returns-in_ok-odd-clause-grows : goal.returns-in_ok-odd-clause-grows
returns-in_ok-odd-clause-grows t c =
    grows_then c.args.self.now c.put.new.self c.split-then-below-eq0.new.self (c.args.at ∷ []) (c.parts.result.here ∷ []) c.in_ok-odd.ensures.grows c.split-then-below-eq0.ensures.grows
    (one_made c.args.self.now (c.args.at ∷ []) c.parts.result.here c.parts.ensures.made)

pub returns-in_ok-even-clause-grows : goal.returns-in_ok-even-clause-grows
returns-in_ok-even-clause-grows t c =
    grows_then c.args.self.now c.put-else-below-eq0.new.self c.split-else-below-eq0.new.self (c.args.at ∷ []) (c.parts.result.here ∷ []) c.in_ok-even.ensures.grows c.split-else-below-eq0.ensures.grows
    (one_made c.args.self.now (c.args.at ∷ []) c.parts.result.here c.parts.ensures.made)

use Rattle.std.proofs.Common.{[], ◌∷◌, ◌<◌, arith}
use Rattle.local_types.specs.Changes.{changed_by}
use Rattle.local_types.proofs.BothFacts.{all_changed, changed_built}
use Rattle.local_types.proofs.GrowFacts.{map_stands, type_stands, odd_stands, even_stands, grows_less, grows_on, grows_then, made_one, made_from}
use Rattle.local_types.proofs.types.LocalTypes.+changed.Goals as goal

pub changed_type-requires : goal.changed_type-requires
changed_type-requires t c = c.in-All.ensures.there 0 c.in-All.at (omega arith)

pub returns-in_err-at-in-All-clause-grows : goal.returns-in_err-at-in-All-clause-grows
returns-in_err-at-in-All-clause-grows t c =
    grows_less c.args.self.now c.changed_type.new.self [] (c.in-All.at ∷ []) c.changed_type.ensures.grows (made_one c.args.self.now [] c.in-All.at (c.in-All.ensures.made 0 c.in-All.at (omega arith)))

pub returns-in_err-new-in-All-clause-grows : goal.returns-in_err-new-in-All-clause-grows
returns-in_err-new-in-All-clause-grows t c =
    let made = c.in-All.ensures.made 0 c.in-All.at (omega arith) in
    grows_then c.args.self.now c.changed_type.new.self c.everywhere.new.self [] (c.in_ok-at-in-All.at ∷ [])
    (grows_less c.args.self.now c.changed_type.new.self [] (c.in-All.at ∷ []) c.changed_type.ensures.grows (made_one c.args.self.now [] c.in-All.at made)) c.everywhere.ensures.grows
    (made_from c.args.self.now c.in-All.at c.in_ok-at-in-All.at c.in_ok-at-in-All.ensures.made made)

pub returns-in_ok-new-in-All-clause-grows : goal.returns-in_ok-new-in-All-clause-grows
returns-in_ok-new-in-All-clause-grows t c =
    let made = c.in-All.ensures.made 0 c.in-All.at (omega arith) in
    grows_then c.args.self.now c.changed_type.new.self c.everywhere.new.self [] (c.in_ok-at-in-All.at ∷ [])
    (grows_less c.args.self.now c.changed_type.new.self [] (c.in-All.at ∷ []) c.changed_type.ensures.grows (made_one c.args.self.now [] c.in-All.at made)) c.everywhere.ensures.grows
    (made_from c.args.self.now c.in-All.at c.in_ok-at-in-All.at c.in_ok-at-in-All.ensures.made made)

pub returns-in_ok-new-in-All-clause-entries : goal.returns-in_ok-new-in-All-clause-entries
returns-in_ok-new-in-All-clause-entries t c =
    all_changed (changed_by c.args.change.now) c.args.self.now c.changed_type.new.self c.everywhere.new.self [] c.args.map c.in_ok-new-in-All.new c.in-All.at c.in_ok-at-in-All.at
    c.in-All.ensures.entries c.in_ok-at-in-All.ensures.term c.in_ok-new-in-All.ensures.entries

pub changed_type-requires-in-Split : goal.changed_type-requires-in-Split
changed_type-requires-in-Split t c = c.in-Split.ensures.there 0 c.in-Split.parts.here (omega arith)

pub returns-in_err-here-in-Split-clause-grows : goal.returns-in_err-here-in-Split-clause-grows
returns-in_err-here-in-Split-clause-grows t c =
    grows_less c.args.self.now c.changed_type-in-Split.new.self [] (c.in-Split.parts.here ∷ []) c.changed_type-in-Split.ensures.grows
    (made_one c.args.self.now [] c.in-Split.parts.here (c.in-Split.ensures.made 0 c.in-Split.parts.here (omega arith)))

pub changed-requires : goal.changed-requires
changed-requires t c =
    let low : c.in-Split.parts.odd.at < c.args.map.at = c.in-Split.ensures.parts 0 0 (omega arith) in (
      omega (arith, low, c.decreases),
      map_stands c.args.self.now c.changed_type-in-Split.new.self (c.in-Split.parts.here ∷ []) c.changed_type-in-Split.ensures.grows c.in-Split.parts.odd
          (odd_stands c.args.self.now c.args.map c.in-Split.parts c.requires c.in-Split.ensures.parts),
    )

pub returns-in_err-odd-in-Split-clause-grows : goal.returns-in_err-odd-in-Split-clause-grows
returns-in_err-odd-in-Split-clause-grows t c =
    let ab = grows_less c.args.self.now c.changed_type-in-Split.new.self [] (c.in-Split.parts.here ∷ []) c.changed_type-in-Split.ensures.grows
    (made_one c.args.self.now [] c.in-Split.parts.here (c.in-Split.ensures.made 0 c.in-Split.parts.here (omega arith))) in
    grows_on c.args.self.now c.changed_type-in-Split.new.self c.changed.new.self ab c.changed.ensures.grows

pub changed-requires-in-Split : goal.changed-requires-in-Split
changed-requires-in-Split t c =
    let low : c.in-Split.parts.even.at < c.args.map.at = c.in-Split.ensures.parts 1 0 (omega arith) in
    let ab = grows_less c.args.self.now c.changed_type-in-Split.new.self [] (c.in-Split.parts.here ∷ []) c.changed_type-in-Split.ensures.grows
    (made_one c.args.self.now [] c.in-Split.parts.here (c.in-Split.ensures.made 0 c.in-Split.parts.here (omega arith))) in (
      omega (arith, low, c.decreases),
      map_stands c.args.self.now c.changed.new.self [] (grows_on c.args.self.now c.changed_type-in-Split.new.self c.changed.new.self ab c.changed.ensures.grows) c.in-Split.parts.even
          (even_stands c.args.self.now c.args.map c.in-Split.parts c.requires c.in-Split.ensures.parts),
    )

pub returns-in_err-even-in-Split-clause-grows : goal.returns-in_err-even-in-Split-clause-grows
returns-in_err-even-in-Split-clause-grows t c =
    let ab = grows_less c.args.self.now c.changed_type-in-Split.new.self [] (c.in-Split.parts.here ∷ []) c.changed_type-in-Split.ensures.grows
    (made_one c.args.self.now [] c.in-Split.parts.here (c.in-Split.ensures.made 0 c.in-Split.parts.here (omega arith))) in
    grows_on c.args.self.now c.changed.new.self c.changed-in-Split.new.self (grows_on c.args.self.now c.changed_type-in-Split.new.self c.changed.new.self ab c.changed.ensures.grows) c.changed-in-Split.ensures.grows

pub split-requires-clause-there : goal.split-requires-clause-there
split-requires-clause-there t c =
    type_stands c.changed_type-in-Split.new.self c.changed-in-Split.new.self []
    (grows_on c.changed_type-in-Split.new.self c.changed.new.self c.changed-in-Split.new.self c.changed.ensures.grows c.changed-in-Split.ensures.grows) c.in_ok-here-in-Split.here c.in_ok-here-in-Split.ensures.there

pub split-requires-clause-odd : goal.split-requires-clause-odd
split-requires-clause-odd t c = map_stands c.changed.new.self c.changed-in-Split.new.self [] c.changed-in-Split.ensures.grows c.in_ok-odd-in-Split.odd c.in_ok-odd-in-Split.ensures.map

pub returns-in_err-new-in-Split-clause-grows : goal.returns-in_err-new-in-Split-clause-grows
returns-in_err-new-in-Split-clause-grows t c =
    let made = c.in-Split.ensures.made 0 c.in-Split.parts.here (omega arith) in
    let ab = grows_less c.args.self.now c.changed_type-in-Split.new.self [] (c.in-Split.parts.here ∷ []) c.changed_type-in-Split.ensures.grows (made_one c.args.self.now [] c.in-Split.parts.here made) in
    let ac = grows_on c.args.self.now c.changed_type-in-Split.new.self c.changed.new.self ab c.changed.ensures.grows in
    grows_then c.args.self.now c.changed-in-Split.new.self c.split.new.self [] (c.in_ok-here-in-Split.here ∷ [])
    (grows_on c.args.self.now c.changed.new.self c.changed-in-Split.new.self ac c.changed-in-Split.ensures.grows) c.split.ensures.grows
    (made_from c.args.self.now c.in-Split.parts.here c.in_ok-here-in-Split.here c.in_ok-here-in-Split.ensures.made made)

pub returns-in_ok-new-in-Split-clause-grows : goal.returns-in_ok-new-in-Split-clause-grows
returns-in_ok-new-in-Split-clause-grows t c =
    let made = c.in-Split.ensures.made 0 c.in-Split.parts.here (omega arith) in
    let ab = grows_less c.args.self.now c.changed_type-in-Split.new.self [] (c.in-Split.parts.here ∷ []) c.changed_type-in-Split.ensures.grows (made_one c.args.self.now [] c.in-Split.parts.here made) in
    let ac = grows_on c.args.self.now c.changed_type-in-Split.new.self c.changed.new.self ab c.changed.ensures.grows in
    grows_then c.args.self.now c.changed-in-Split.new.self c.split.new.self [] (c.in_ok-here-in-Split.here ∷ [])
    (grows_on c.args.self.now c.changed.new.self c.changed-in-Split.new.self ac c.changed-in-Split.ensures.grows) c.split.ensures.grows
    (made_from c.args.self.now c.in-Split.parts.here c.in_ok-here-in-Split.here c.in_ok-here-in-Split.ensures.made made)

pub returns-in_ok-new-in-Split-clause-entries : goal.returns-in_ok-new-in-Split-clause-entries
returns-in_ok-new-in-Split-clause-entries t c =
    let ab = grows_less c.args.self.now c.changed_type-in-Split.new.self [] (c.in-Split.parts.here ∷ []) c.changed_type-in-Split.ensures.grows
    (made_one c.args.self.now [] c.in-Split.parts.here (c.in-Split.ensures.made 0 c.in-Split.parts.here (omega arith))) in
    changed_built (changed_by c.args.change.now) c.args.self.now c.changed_type-in-Split.new.self c.changed.new.self c.changed-in-Split.new.self c.split.new.self
    c.args.map c.in_ok-new-in-Split.new c.in_ok-odd-in-Split.odd c.in_ok-even-in-Split.even c.in_ok-here-in-Split.here c.in-Split.parts
    (odd_stands c.args.self.now c.args.map c.in-Split.parts c.requires c.in-Split.ensures.parts) (even_stands c.args.self.now c.args.map c.in-Split.parts c.requires c.in-Split.ensures.parts) c.in-Split.ensures.entries
    ab c.changed.ensures.grows c.changed-in-Split.ensures.grows c.in_ok-here-in-Split.ensures.there c.in_ok-odd-in-Split.ensures.map
    c.in_ok-here-in-Split.ensures.term c.in_ok-odd-in-Split.ensures.entries c.in_ok-even-in-Split.ensures.entries c.in_ok-new-in-Split.ensures.entries

use Rattle.std.proofs.Common.{◌<◌, ℕ, [], ◌∷◌, length}
use Rattle.std.proofs.lemmas.List.Elements.{All-nil, All-cons}
use Rattle.local_types.specs.Entries.{IsMap}
use Rattle.local_types.proofs.types.LocalTypes.split.Goals as goal

pub push-requires-clause-parts : goal.push-requires-clause-parts
unfolding IsMap
push-requires-clause-parts c =
    All-cons (λ (part : ℕ). part < length c.args.self.now.nodes.items) c.args.parts.odd.at (c.args.parts.even.at ∷ []) c.requires.odd
    (All-cons (λ (part : ℕ). part < length c.args.self.now.nodes.items) c.args.parts.even.at [] c.requires.even (All-nil (λ (part : ℕ). part < length c.args.self.now.nodes.items)))

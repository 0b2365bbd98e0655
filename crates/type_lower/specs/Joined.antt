-- Types one after the other, joined or met.
use Rattle.std.specs.Prelude.{ℕ, zero, suc, List}
use Rattle.luau_tree.specs.Tree.{TypeSyntaxes, no_types, more_types}
use Rattle.type_arena.specs.Term.{Term, never}
use Rattle.type_normal.specs.Cut.{cut_up}
use Rattle.type_normal.specs.Operations.{union, meet}
use Rattle.type_normal.specs.Kinds.{unknown, nil_type}
use Rattle.annotations.specs.Lowered.{Known, raw}
use Rattle.type_lower.specs.declared.choosing.Choice.{Choice}
use Rattle.type_lower.specs.declared.choosing.Choice.TheVariants.{Either, Both}

-- two types as one, cut up where it is made
abbrev pub joined : Choice → Term → Term → Term
joined Either a b = cut_up (union a b)
joined Both a b = cut_up (meet a b)

-- the type of no types
abbrev pub of_none : Choice → Term
of_none Either = never
of_none Both = unknown

-- types behind one that came of those before them
abbrev pub joined_behind : Choice → List Known → Term → TypeSyntaxes → Term
joined_behind choice known first no_types = first
joined_behind choice known first (more_types type types) = joined_behind choice known (joined choice first (raw known type)) types

abbrev pub all_joined : Choice → List Known → TypeSyntaxes → Term
all_joined choice known no_types = of_none choice
all_joined choice known (more_types type types) = joined_behind choice known (raw known type) types

-- a type with some marks behind it, each of which adds nil
abbrev pub marked : ℕ → Term → Term
marked zero type = type
marked (suc n) type = cut_up (union (marked n type) nil_type)

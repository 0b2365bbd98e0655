-- What a table of signatures declares.
use Rattle.std.specs.Prelude.{◌≡◌, ℕ, List, [], ◌∷◌, ◌++◌, map, zip, Option, Some, None, option_map, IsTrue, All}
use Rattle.type_arena.specs.Arena.{home_of, below_of, store_of}
use Rattle.type_arena.specs.Frozen.{holding_of}
use Rattle.type_arena.specs.Meaning.{term_of}
use Rattle.type_arena.specs.Store.{Store, has, Keeps}
use Rattle.type_arena.specs.Term.{Term}
use Rattle.type_arena.specs.declared.arena.Arena.{Arena}
use Rattle.type_arena.specs.declared.frozen.Frozen.{Frozen}
use Rattle.type_arena.specs.declared.node.TypeRef.{TypeRef}
use Rattle.type_decl.specs.Signatures.{Signature}
use Rattle.type_decl.specs.declared.sig.Sig.{Sig}

-- the signature that a `Sig` means, once it is known what references mean
abbrev pub meant : (TypeRef → Term) → Sig → Signature
meant means sig = record {
  params = map means sig.params;
  rest = option_map means sig.rest;
  results = map means sig.results;
  more = option_map means sig.more;
  checked = sig.checked;
  quiet = sig.quiet;
}

-- the references in it
abbrev pub list_of : {X : Type 0} → Option X → List X
list_of None = []
list_of (Some x) = x ∷ []

abbrev pub refs_in : Sig → List TypeRef
refs_in sig = sig.params ++ (list_of sig.rest ++ (sig.results ++ list_of sig.more))

-- an arena that stands alone
abbrev pub alone : Frozen → Store
alone arena = holding_of arena ∷ []

-- paths, each with what its `Sig` means in an arena that stands alone
abbrev pub declared_in : Frozen → List (List ℕ) → List Sig → List (List ℕ × Signature)
declared_in arena paths sigs = zip paths (map (meant (term_of (alone arena))) sigs)

-- the references of each `Sig` are in some arenas
abbrev pub AreThere : Store → List Sig → Type 0
AreThere store sigs = All (λ sig. All (λ at. IsTrue (has store at)) (refs_in sig)) sigs

-- an arena that got nodes, and nothing else
pub record Grew (old new : Arena) : Type 0 where
  pub below : below_of new ≡ below_of old
  pub home : home_of new ≡ home_of old
  pub keeps : Keeps (store_of old) (store_of new)

-- references mean some types in an arena, and in whatever grows from it
pub record Mean (arena : Arena) (refs : List TypeRef) (types : List Term) : Type 0 where
  pub there : (later : Arena) → Keeps (store_of arena) (store_of later) → All (λ at. IsTrue (has (store_of later) at)) refs
  pub means : (later : Arena) → Keeps (store_of arena) (store_of later) → map (term_of (store_of later)) refs ≡ types

-- the same of one that may be there, and of all of a `Sig`
pub record MeanMaybe (arena : Arena) (at : Option TypeRef) (type : Option Term) : Type 0 where
  pub there : (later : Arena) → Keeps (store_of arena) (store_of later) → All (λ x. IsTrue (has (store_of later) x)) (list_of at)
  pub means : (later : Arena) → Keeps (store_of arena) (store_of later) → option_map (term_of (store_of later)) at ≡ type

pub record IsMeant (arena : Arena) (sig : Sig) (signature : Signature) : Type 0 where
  pub there : (later : Arena) → Keeps (store_of arena) (store_of later) → All (λ at. IsTrue (has (store_of later) at)) (refs_in sig)
  pub means : (later : Arena) → Keeps (store_of arena) (store_of later) → meant (term_of (store_of later)) sig ≡ signature

-- some `Sig`s mean these signatures
pub record AreMeant (arena : Arena) (sigs : List Sig) (signatures : List Signature) : Type 0 where
  pub there : (later : Arena) → Keeps (store_of arena) (store_of later) → AreThere (store_of later) sigs
  pub means : (later : Arena) → Keeps (store_of arena) (store_of later) → map (meant (term_of (store_of later))) sigs ≡ signatures

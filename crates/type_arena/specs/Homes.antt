-- Which references and which homes are reached from a reference, and which homes a call may use.
use Rattle.std.specs.Prelude.{◌≡◌, ℕ, List, [], ◌∷◌, Some, None, All, Contains}
use Rattle.type_arena.specs.Store.{Store, nodes_at, node_at, refs_of}
use Rattle.type_arena.specs.declared.node.Among.{Among}
use Rattle.type_arena.specs.declared.node.Among.TheVariants.{Only, AllBut}
use Rattle.type_arena.specs.declared.node.FnName.{FnName}
use Rattle.type_arena.specs.declared.node.FnName.TheVariants.{Builtin, Literal}
use Rattle.type_arena.specs.declared.node.Node.{Node}
use Rattle.type_arena.specs.declared.node.TypeRef.{TypeRef}

-- a reference is reached from itself, and from each reference whose node has a reference from which it is reached
pub data Reaches (store : Store) : TypeRef → TypeRef → Type 0 where
  itself : {at : TypeRef} → Reaches store at at
  through : {at child far : TypeRef} (node : Node) → node_at store at ≡ Some node → Contains (refs_of node) child → Reaches store child far → Reaches store at far

-- another store has, at the home of each reference that is reached from one, the same arena
abbrev pub HasReached : Store → TypeRef → Store → Type 0
HasReached store at other = (far : TypeRef) → Reaches store at far → nodes_at other far.home ≡ nodes_at store far.home

-- the homes of the function literals in a list of names
abbrev pub homes_in : List FnName → List ℕ
homes_in [] = []
homes_in (Builtin path ∷ names) = homes_in names
homes_in (Literal home number ∷ names) = home ∷ homes_in names

abbrev pub literal_homes : Among FnName → List ℕ
literal_homes (Only names) = homes_in names
literal_homes (AllBut names) = homes_in names

-- a home is reached from a reference if it is the home of a reference reached from it, or of a function literal in the node of one
pub data ReachesHome (store : Store) (at : TypeRef) : ℕ → Type 0 where
  by_ref : (far : TypeRef) → Reaches store at far → ReachesHome store at far.home
  by_literal : (far : TypeRef) (node : Node) (home : ℕ) → Reaches store at far → node_at store far ≡ Some node → Contains (literal_homes node.functions) home → ReachesHome store at home

-- what a call on an arena is given: references, and the homes of function literals
pub record Given : Type 0 where
  pub refs : List TypeRef
  pub literals : List ℕ

-- a call may use the arena's own home, the homes of the literals that it is given, and the homes that are reached from the references that it is given
pub data MayUse (store : Store) (own : ℕ) (given : Given) : ℕ → Type 0 where
  own_home : MayUse store own given own
  given_literal : (home : ℕ) → Contains given.literals home → MayUse store own given home
  reached : (at : TypeRef) (home : ℕ) → Contains given.refs at → ReachesHome store at home → MayUse store own given home

-- the rule on homes: the references that a call answers, and the references and the literals in each node that it adds, have homes that it may use
pub record UsesHomes (own : ℕ) (old new : Store) (given : Given) (answers : List TypeRef) : Type 0 where
  pub answered : All (λ at. MayUse old own given at.home) answers
  pub refs : (at : TypeRef) (node : Node) → node_at new at ≡ Some node → node_at old at ≡ None → All (λ child. MayUse old own given child.home) (refs_of node)
  pub literals : (at : TypeRef) (node : Node) → node_at new at ≡ Some node → node_at old at ≡ None → All (MayUse old own given) (literal_homes node.functions)

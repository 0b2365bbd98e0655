-- What is remembered of how types compare.
use Rattle.std.specs.Prelude.{◌≡◌, Some}
use Rattle.std.specs.HashMap.{get, HashMap}
use Rattle.std.specs.declared.cmp.Ordering.{Ordering}
use Rattle.std.specs.declared.hash.FoldHasher.{FoldHasher}
use Rattle.std.specs.declared.hash.BuildHasherDefault.{BuildHasherDefault}
use Rattle.type_arena.specs.Term.{Term}
use Rattle.type_arena.specs.Meaning.{term_of, fields_by}
use Rattle.type_arena.specs.Store.{Store}
use Rattle.type_arena.specs.declared.node.Row.{Row}
use Rattle.type_arena.specs.declared.node.TypeRef.{TypeRef}
use Rattle.type_normal.specs.Rows.{term_cmp, row_cmp}
use Rattle.type_ops.specs.declared.pairs.Pair.{Pair}
use Rattle.type_ops.specs.contracts.pairs.PairPartialEq.TheImpl as PairEq

-- a memory of how two types compare
abbrev pub Comparisons : Type 0
Comparisons = HashMap Pair Ordering (BuildHasherDefault FoldHasher)

-- what is remembered is right
abbrev pub AreCompared : Store → Comparisons → Type 0
AreCompared store known = (pair : Pair) (order : Ordering) → get PairEq.ghosts.eq known pair ≡ Some order → order ≡ term_cmp (term_of store pair.first) (term_of store pair.second)

-- how two rows compare, once it is known what references mean
abbrev pub row_order : (TypeRef → Term) → Row → Row → Ordering
row_order means a b = row_cmp a.frozen (fields_by means a.fields) b.frozen (fields_by means b.fields)

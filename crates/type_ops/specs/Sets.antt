-- Sets as nodes have them.
use Rattle.std.specs.Prelude.{List, [], ◌∷◌, ◌++◌}
use Rattle.std.specs.declared.cmp.Ordering.{Ordering}
use Rattle.std.specs.declared.cmp.Ordering.TheVariants.{Less, Greater}
use Rattle.std.specs.Cmp.Lexicographic.{slice_cmp}
use Rattle.type_arena.specs.declared.node.Among.{Among}
use Rattle.type_arena.specs.declared.node.Among.TheVariants.{Only, AllBut}
use Rattle.type_normal.specs.Members.{put, in_order, common, less}

-- the members of a list, put into another one that is in order
abbrev pub put_all : {X : Type 0} → (X → X → Ordering) → List X → List X → List X
put_all cmp [] ys = ys
put_all cmp (x ∷ xs) ys = put cmp x (put_all cmp xs ys)

-- what is in one of two sets
abbrev pub either_among : {X : Type 0} → (X → X → Ordering) → Among X → Among X → Among X
either_among cmp (Only xs) (Only ys) = Only (in_order cmp (xs ++ ys))
either_among cmp (Only xs) (AllBut ys) = AllBut (less cmp ys xs)
either_among cmp (AllBut xs) (Only ys) = AllBut (less cmp xs ys)
either_among cmp (AllBut xs) (AllBut ys) = AllBut (common cmp xs ys)

-- what is in both of two sets
abbrev pub both_among : {X : Type 0} → (X → X → Ordering) → Among X → Among X → Among X
both_among cmp (Only xs) (Only ys) = Only (common cmp xs ys)
both_among cmp (Only xs) (AllBut ys) = Only (less cmp xs ys)
both_among cmp (AllBut xs) (Only ys) = Only (less cmp ys xs)
both_among cmp (AllBut xs) (AllBut ys) = AllBut (in_order cmp (xs ++ ys))

-- how two sets compare: finite ones come first, and then the first members decide that differ
abbrev pub among_cmp : {X : Type 0} → (X → X → Ordering) → Among X → Among X → Ordering
among_cmp cmp (Only xs) (Only ys) = slice_cmp cmp xs ys
among_cmp cmp (Only xs) (AllBut ys) = Less
among_cmp cmp (AllBut xs) (Only ys) = Greater
among_cmp cmp (AllBut xs) (AllBut ys) = slice_cmp cmp xs ys

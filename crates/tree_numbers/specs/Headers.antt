-- What stands in a function's body before its block, with its numbers.
use Rattle.luau_tree.specs.Tree.{Gens, Binds, Varargs, MaybeType}
use Rattle.tree_numbers.specs.Counting.{Counting, ◌>>=◌, pure}
use Rattle.tree_numbers.specs.Numbered.{of_gens, of_binds, of_varargs, of_maybe_type}

abbrev pub of_header : Gens → Binds → Varargs → MaybeType → Counting (Gens × Binds × Varargs × MaybeType)
of_header generics params vararg result = do
  gs ← of_gens generics
  ps ← of_binds params
  v ← of_varargs vararg
  r ← of_maybe_type result
  pure (gs, ps, v, r)

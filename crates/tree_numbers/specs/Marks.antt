-- Types with marks, as `T??` has two.
use Rattle.std.specs.Prelude.{List, [], ◌∷◌}
use Rattle.luau_tree.specs.declared.position.Span.{Span}
use Rattle.luau_tree.specs.Tree.{TypeSyntax, the_type, Optional}

-- a type with a mark for each span, the last mark first
abbrev pub marked : List Span → TypeSyntax → TypeSyntax
marked [] t = t
marked (span ∷ rest) t = the_type span (Optional (marked rest t))

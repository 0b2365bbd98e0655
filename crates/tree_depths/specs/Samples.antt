-- Tokens whose tree is deep.
use Rattle.std.specs.Prelude.{ℕ, zero, suc, List, [], ◌∷◌, codes}
use Rattle.luau_lex.specs.declared.token.Kind.TheVariants as kind
use Rattle.luau_lex.specs.Tokens.{Tok}

-- a name, and a sign; where they stand in a text plays no part
abbrev pub name : List ℕ → Tok
name bytes = record { kind = kind.Name; span = record { start = 0; end = 0 }; bytes = bytes }

abbrev pub sign : List ℕ → Tok
sign bytes = record { kind = kind.Sign; span = record { start = 0; end = 0 }; bytes = bytes }

-- so many marks, and then these tokens
abbrev pub marks : ℕ → List Tok → List Tok
marks zero ts = ts
marks (suc count) ts = sign (codes "?") ∷ marks count ts

-- What stands behind the name of a type in so many others, each in parentheses as an argument of the next: behind the
-- parentheses stand as many marks as there are types in them, and behind each type one more.
abbrev pub behind_name : ℕ → List Tok → List Tok
behind_name zero ts = marks 1 ts
behind_name (suc within) ts =
    sign (codes "<") ∷ sign (codes "(") ∷ name (codes "x")
    ∷ behind_name within (sign (codes ")") ∷ marks (suc within) (sign (codes ">") ∷ marks (suc (suc within)) ts))

-- the declaration of such a type
abbrev pub marked_alias : ℕ → List Tok
marked_alias within = name (codes "type") ∷ name (codes "t") ∷ sign (codes "=") ∷ name (codes "x") ∷ behind_name within []

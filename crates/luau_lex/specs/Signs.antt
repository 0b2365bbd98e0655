-- Signs.
use Rattle.std.specs.Prelude.{ℕ, Bool, List, [], ◌∷◌, codes}
use Rattle.luau_lex.specs.Names.{is_listed}

-- all signs
abbrev pub signs : List (List ℕ)
signs =
    codes "+" ∷ codes "-" ∷ codes "*" ∷ codes "/" ∷ codes "//" ∷ codes "%" ∷ codes "^" ∷ codes "#" ∷
    codes "==" ∷ codes "~=" ∷ codes "<=" ∷ codes ">=" ∷ codes "<" ∷ codes ">" ∷ codes "=" ∷
    codes "+=" ∷
    codes "-=" ∷ codes "*=" ∷ codes "/=" ∷ codes "//=" ∷ codes "%=" ∷ codes "^=" ∷ codes "..=" ∷
    codes "(" ∷
    codes ")" ∷ codes "{" ∷ codes "}" ∷ codes "[" ∷ codes "]" ∷ codes "::" ∷ codes ";" ∷ codes ":" ∷
    codes "," ∷ codes "." ∷ codes ".." ∷ codes "..." ∷ codes "->" ∷ codes "?" ∷ codes "|" ∷
    codes "&" ∷
    codes "@" ∷ []

abbrev pub is_sign : List ℕ → Bool
is_sign bytes = is_listed bytes signs

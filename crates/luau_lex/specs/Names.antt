-- Names, and the names that are reserved as words.
use Rattle.std.specs.Prelude.{ℕ, Bool, List, [], ◌∷◌, codes, ◌&&◌, slice_index}
use Rattle.std.specs.List.{list_any, list_all}
use Rattle.std.specs.Str.{bytes_eq}
use Rattle.luau_lex.specs.Bytes.{is_name_start, is_name_byte}

-- one of the words is these bytes
abbrev pub is_listed : List ℕ → List (List ℕ) → Bool
is_listed bytes words = list_any (bytes_eq bytes) words

abbrev pub reserved_words : List (List ℕ)
reserved_words =
    codes "and" ∷ codes "break" ∷ codes "do" ∷ codes "else" ∷ codes "elseif" ∷ codes "end" ∷
    codes "false"
    ∷ codes "for" ∷ codes "function" ∷ codes "if" ∷ codes "in" ∷ codes "local" ∷ codes "nil" ∷
    codes "not"
    ∷ codes "or" ∷ codes "repeat" ∷ codes "return" ∷ codes "then" ∷ codes "true" ∷ codes "until"
    ∷ codes "while" ∷ []

-- a name, reserved or not: what a name begins with, and then what it goes on with
abbrev pub is_name : List ℕ → Bool
is_name bytes = is_name_start (slice_index bytes 0) && list_all is_name_byte bytes

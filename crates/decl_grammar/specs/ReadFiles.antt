-- The parser of declaration files that the code computes. A law says that it reads what the grammar says, and all of it, so no
-- reader needs to believe it.
use Rattle.std.specs.Prelude.{ℕ, Bool, true, false, not, ◌&&◌, List, [], ◌∷◌, ◌++◌, Option, Some, None, is_some, Ok, option_map, codes, if◌then◌else◌}
use Rattle.luau_tree.specs.Tree.{TypeSyntax, TypeKind, the_type, Variadic}
use Rattle.luau_grammar.specs.declared.symbol.Symbol.TheVariants as s
use Rattle.luau_grammar.specs.Places.{Place, sees, sees_word}
use Rattle.luau_grammar.specs.Phrases.{Listed}
use Rattle.luau_grammar.specs.Types.{is_type_front}
use Rattle.luau_grammar.specs.Reading as read
use Rattle.luau_grammar.specs.Reading.{Setting, Parser, Readers, ◌>>=◌, ◌>>◌, pure, start}
use Rattle.luau_grammar.specs.ReadPhrases as phrases
use Rattle.luau_grammar.specs.ReadTypes.{listed}
use Rattle.luau_grammar.specs.ReadModules.{readers}
use Rattle.decl_grammar.specs.declared.mark.Mark.{Mark}
use Rattle.decl_grammar.specs.declared.mark.Mark.TheVariants.{Checked, Quiet}
use Rattle.decl_grammar.specs.Declarations.{TypeList, Declaration, only, dotted}

-- no types
abbrev pub no_list : TypeList
no_list = record { types = []; rest = None }

-- another type may follow
abbrev pub goes_types : TypeList → Place → Bool
goes_types found p = not (is_some found.rest) && sees s.Comma p

-- the type behind the dots that a type is
abbrev pub behind_dots : TypeKind → Option TypeSyntax
behind_dots (Variadic t) = Some t
behind_dots _ = None

abbrev pub tail_type : TypeSyntax → Option TypeSyntax
tail_type (the_type span kind) = behind_dots kind

-- types whose last is a tail, and the type behind its dots
abbrev pub with_tail : List TypeSyntax → Option (List TypeSyntax × TypeSyntax)
with_tail [] = None
with_tail (t ∷ []) = option_map (λ rest. ([], rest)) (tail_type t)
with_tail (t ∷ u ∷ us) = option_map (λ found. (t ∷ found.0, found.1)) (with_tail (u ∷ us))

-- a list by whether its last type is a tail
abbrev pub tailed_list : Bool → List TypeSyntax → Option TypeList
tailed_list true types = option_map (λ found. record { types = found.0; rest = Some found.1 }) (with_tail types)
tailed_list false types = Some (record { types = types; rest = None })

-- a list by whether a name stands before one of its types
abbrev pub unnamed_list : Bool → Option TypeList → Option TypeList
unnamed_list true list = None
unnamed_list false list = list

-- the types of a list in parentheses, if none has a name before it and its tail is a type behind dots
abbrev pub plain_list : Listed → Option TypeList
plain_list l = unnamed_list l.named (tailed_list l.tailed l.types)

-- one more item
abbrev pub one_more : {A : Type 0} → Parser A → List A → Parser (List A)
one_more item found = do
  x ← item
  pure (found ++ x ∷ [])

module _ (set : Setting) where
  -- items as long as this holds of the place
  unfoldable pub gathered : {A : Type 0} → (Place → Bool) → Parser A → Parser (List A)
  gathered goes item = read.repeat set (λ _ p. goes p) (one_more item) []

  -- a name that is a word here
  unfoldable pub word : List ℕ → Parser (Unit {0})
  word bytes = λ p. if sees_word bytes p then (read.next set >> pure tt) p else read.refuse set p

  -- the name of a mark
  unfoldable pub mark_named : Parser Mark
  mark_named = λ p.
      if sees_word (codes "checked") p then (read.next set >> pure Checked) p
      else (word (codes "quiet") >> pure Quiet) p

  unfoldable pub mark : Parser Mark
  mark = read.expect set s.AtSign >> mark_named

  unfoldable pub marks : Parser (List Mark)
  marks = gathered (sees s.AtSign) mark

  -- what stands behind the first name of a path
  unfoldable pub path_behind : List ℕ → Parser (List ℕ)
  path_behind first = λ p.
      if sees s.Dot p then (do
        read.expect set s.Dot
        name ← read.name set
        pure (dotted first name)) p
      else Ok (first, p)

  unfoldable pub path : Parser (List ℕ)
  path = do
    first ← read.name set
    path_behind first

module _ (set : Setting) (inner : Readers) where
  abbrev typ : Option Listed → Parser TypeSyntax
  typ = phrases.typ set inner

  -- one more type, or the one behind the dots
  unfoldable pub one_type : TypeList → Parser TypeList
  one_type found = λ p.
      if sees s.Dots p then (do
        read.expect set s.Dots
        t ← typ None
        pure (record { types = found.types; rest = Some t })) p
      else (do
        t ← typ None
        pure (record { types = found.types ++ t ∷ []; rest = None })) p

  abbrev pub another_type : TypeList → Parser TypeList
  another_type found = read.expect set s.Comma >> one_type found

  -- behind some of them
  unfoldable pub types_from : TypeList → Parser TypeList
  types_from found = read.repeat set goes_types another_type found

  unfoldable pub types : Parser TypeList
  types = λ p. if sees s.RightParen p then Ok (no_list, p) else (one_type no_list >>= types_from) p

  unfoldable pub type_list : Parser TypeList
  type_list = do
    read.expect set s.LeftParen
    list ← types
    read.expect set s.RightParen
    pure list

  abbrev pub plain_or_refused : Option TypeList → Parser TypeList
  plain_or_refused None = read.refuse set
  plain_or_refused (Some list) = pure list

  -- behind a list in parentheses
  unfoldable pub results_behind : Listed → Parser TypeList
  results_behind l = λ p.
      if is_type_front l p then (do
        t ← typ (Some l)
        pure (only t)) p
      else plain_or_refused (plain_list l) p

  unfoldable pub results : Parser TypeList
  results = λ p.
      if sees s.LeftParen p then (listed set inner >>= results_behind) p
      else (do
        t ← typ None
        pure (only t)) p

  unfoldable pub declaration : Parser Declaration
  declaration = do
    marks ← marks set
    word set (codes "declare")
    read.expect set s.Function
    at ← start
    path ← path set
    params ← type_list
    read.expect set s.Colon
    results ← results
    pure (record { marks = marks; at = at; path = path; params = params; results = results })

module _ (set : Setting) where
  -- all of a file, whose phrases hold one another at most so many deep
  unfoldable pub file_with : ℕ → Parser (List Declaration)
  file_with deep = gathered set (λ p. not (sees s.Stop p)) (declaration set (readers set deep))

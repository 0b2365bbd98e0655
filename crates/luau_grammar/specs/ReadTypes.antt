-- The parsers of types that the code computes.
use Rattle.std.specs.Prelude.{ℕ, Bool, true, false, not, ◌||◌, ◌&&◌, List, [], ◌∷◌, ◌++◌, Option, Some, None, Ok, codes, if◌then◌else◌}
use Rattle.luau_tree.specs.declared.names.Access.{Access}
use Rattle.luau_tree.specs.declared.names.Access.TheVariants.{Both, Read, Write}
use Rattle.luau_tree.specs.Tree.{TypeSyntax, TypeSyntaxes, TypeKind, MaybeType, Gen, Gens, Prop, Props, PropKey}
use Rattle.luau_tree.specs.Tree as tree
use Rattle.luau_tree.specs.View.{types, gens, props}
use Rattle.luau_grammar.specs.declared.symbol.Symbol.{Symbol}
use Rattle.luau_grammar.specs.declared.symbol.Symbol.TheVariants as s
use Rattle.luau_grammar.specs.Places.{Place, symbol, sees}
use Rattle.luau_grammar.specs.Phrases.{Listed, in_parens}
use Rattle.luau_grammar.specs.Lists.{sees_separator}
use Rattle.luau_grammar.specs.Types.{sees_access, begins_property, sees_typeof, begins_tail, is_type_front, pack_of, begins_named, begin_of}
use Rattle.luau_grammar.specs.Reading as read
use Rattle.luau_grammar.specs.ReadPhrases as phrases
use Rattle.luau_grammar.specs.Reading.{Setting, Parser, Readers, ◌>>=◌, ◌>>◌, pure, start, last, level, set_level, span_from}

-- what was read of a list in parentheses
pub record Members : Type 0 where
  pub types : List TypeSyntax
  pub named : Bool
  pub tailed : Bool

-- what was read of a list in braces, and whether an item may follow
pub record Braced (A : Type 0) : Type 0 where
  pub items : List A
  pub open_ended : Bool

-- another item may follow
abbrev pub goes_braced : {A : Type 0} → Braced A → Place → Bool
goes_braced found p = found.open_ended && not (sees s.RightBrace p)

abbrev pub goes_members : Members → Place → Bool
goes_members found p = not found.tailed && sees s.Comma p

abbrev pub goes_marks : TypeSyntax → Place → Bool
goes_marks t p = sees s.Question p

abbrev pub goes_options : Symbol → List TypeSyntax → Place → Bool
goes_options sign found p = sees sign p

module _ (set : Setting) where
  -- `(',' | ';')`, and whether one stands there
  unfoldable pub separator : Parser Bool
  separator = λ p. if sees_separator p then (read.next set >> pure true) p else Ok (false, p)

  abbrev pub one_braced : {A : Type 0} → Parser A → Braced A → Parser (Braced A)
  one_braced item found = do
    x ← item
    more ← separator
    pure (record { items = found.items ++ x ∷ []; open_ended = more })

  -- `[x {(',' | ';') x} [',' | ';']]`, up to a `}`
  unfoldable pub braced : {A : Type 0} → Parser A → Parser (Braced A)
  braced item = read.repeat set goes_braced (one_braced item) (record { items = []; open_ended = true })

module _ (set : Setting) (inner : Readers) where
  abbrev typ : Option Listed → Parser TypeSyntax
  typ = phrases.typ set inner

  unfoldable pub variadic : Parser TypeSyntax
  variadic = do
    from ← start
    read.expect set s.Dots
    t ← typ None
    span ← span_from from
    pure (tree.the_type span (tree.Variadic t))

  unfoldable pub generic_pack : Parser TypeSyntax
  generic_pack = do
    from ← start
    name ← read.name set
    read.expect set s.Dots
    span ← span_from from
    pure (tree.the_type span (tree.GenericPack name))

  unfoldable pub tail : Parser TypeSyntax
  tail = λ p. if sees s.Dots p then variadic p else generic_pack p

  -- `[NAME ':']`, and whether it stands there
  unfoldable pub member_name : Parser Bool
  member_name = λ p.
      if begins_named p then (read.name set >> read.expect set s.Colon >> pure true) p else Ok (false, p)

  -- one more type, or the tail
  unfoldable pub member : Members → Parser Members
  member found = λ p.
      if begins_tail p then (do
        t ← tail
        pure (record { types = found.types ++ t ∷ []; named = found.named; tailed = true })) p
      else (do
        here ← member_name
        t ← typ None
        pure (record { types = found.types ++ t ∷ []; named = found.named || here; tailed = false })) p

  unfoldable pub another_member : Members → Parser Members
  another_member found = read.expect set s.Comma >> member found

  -- behind some of them
  unfoldable pub members_from : Members → Parser Members
  members_from found = read.repeat set goes_members another_member found

  unfoldable pub members : Parser Members
  members = do
    first ← member (record { types = []; named = false; tailed = false })
    members_from first

  unfoldable pub maybe_members : Parser Members
  maybe_members = λ p.
      if sees s.RightParen p then Ok (record { types = []; named = false; tailed = false }, p) else members p

  unfoldable pub listed : Parser Listed
  listed = do
    from ← start
    read.expect set s.LeftParen
    found ← maybe_members
    read.expect set s.RightParen
    to ← last
    pure (record { start = from; end = to; types = found.types; named = found.named; tailed = found.tailed })

  unfoldable pub after_list : Listed → Parser TypeSyntax
  after_list l = λ p. if is_type_front l p then typ (Some l) p else Ok (pack_of l, p)

  unfoldable pub result : Parser TypeSyntax
  result = λ p.
      if sees s.LeftParen p then (listed >>= after_list) p
      else if begins_tail p then tail p
      else typ None p

  unfoldable pub maybe_results : Parser TypeSyntaxes
  maybe_results = λ p.
      if sees s.Greater p then Ok (tree.no_types, p)
      else (do
        ts ← read.separated set result
        pure (types ts)) p

  unfoldable pub type_arguments : Parser TypeSyntaxes
  type_arguments = λ p.
      if sees s.Less p then (do
        read.expect set s.Less
        ts ← maybe_results
        read.expect set s.Greater
        pure ts) p
      else Ok (tree.no_types, p)

  unfoldable pub default : Bool → Parser MaybeType
  default may = λ p.
      if may && sees s.Assign p then (do
        read.expect set s.Assign
        t ← result
        pure (tree.a_type t)) p
      else Ok (tree.no_type, p)

  unfoldable pub generic : Bool → Parser Gen
  generic may = do
    from ← start
    name ← read.name set
    span ← span_from from
    pack ← read.eat set s.Dots
    given ← default may
    pure (tree.the_gen name span pack given)

  -- behind the `<`
  unfoldable pub generics_behind : Bool → Parser Gens
  generics_behind may = do
    gs ← read.separated set (generic may)
    read.expect set s.Greater
    pure (gens gs)

  unfoldable pub generics : Bool → Parser Gens
  generics may = λ p.
      if sees s.Less p then (read.expect set s.Less >> generics_behind may) p else Ok (tree.no_gens, p)

  unfoldable pub access : Parser Access
  access = λ p.
      if sees_access (codes "read") p then (read.next set >> pure Read) p
      else if sees_access (codes "write") p then (read.next set >> pure Write) p
      else Ok (Both, p)

  unfoldable pub indexer : Parser PropKey
  indexer = do
    read.expect set s.LeftBracket
    t ← typ None
    read.expect set s.RightBracket
    read.expect set s.Colon
    pure (tree.Indexer t)

  unfoldable pub property_name : Parser PropKey
  property_name = do
    name ← read.name set
    read.expect set s.Colon
    pure (tree.NameKey name)

  unfoldable pub key : Parser PropKey
  key = λ p. if sees s.LeftBracket p then indexer p else property_name p

  unfoldable pub property : Parser Prop
  property = do
    how ← access
    what ← key
    t ← typ None
    pure (tree.the_prop how what t)

  -- behind the `{` that begins at an offset
  unfoldable pub array : ℕ → Parser TypeSyntax
  array from = do
    t ← typ None
    read.expect set s.RightBrace
    span ← span_from from
    pure (tree.the_type span (tree.Array t))

  unfoldable pub table : ℕ → Parser TypeSyntax
  table from = do
    found ← braced set property
    read.expect set s.RightBrace
    span ← span_from from
    pure (tree.the_type span (tree.TableType (props found.items)))

  unfoldable pub table_or_array : Parser TypeSyntax
  table_or_array = do
    from ← start
    read.expect set s.LeftBrace
    (λ p. if sees s.RightBrace p || begins_property p then table from p else array from p)

  unfoldable pub typeof_form : Parser TypeSyntax
  typeof_form = do
    from ← start
    read.expect set s.Name
    read.expect set s.LeftParen
    e ← phrases.expression set inner
    read.expect set s.RightParen
    span ← span_from from
    pure (tree.the_type span (tree.Typeof e))

  -- `'.' NAME ['<' [targs] '>']`, behind the first name
  unfoldable pub dotted : ℕ → List ℕ → Parser TypeSyntax
  dotted from first = do
    read.expect set s.Dot
    second ← read.name set
    args ← type_arguments
    span ← span_from from
    pure (tree.the_type span (tree.Named (Some first) second args))

  -- `['<' [targs] '>']`, behind the name
  unfoldable pub undotted : ℕ → List ℕ → Parser TypeSyntax
  undotted from name = do
    args ← type_arguments
    span ← span_from from
    pure (tree.the_type span (tree.Named None name args))

  -- `NAME ['.' NAME] ['<' [targs] '>']`, behind the first name
  unfoldable pub named_behind : ℕ → List ℕ → Parser TypeSyntax
  named_behind from first = λ p. if sees s.Dot p then dotted from first p else undotted from first p

  unfoldable pub named : Parser TypeSyntax
  named = do
    from ← start
    first ← read.name set
    named_behind from first

  unfoldable pub generic_function : Parser TypeSyntax
  generic_function = do
    from ← start
    gs ← generics false
    l ← listed
    read.expect set s.Arrow
    r ← result
    span ← span_from from
    pure (tree.the_type span (tree.Func gs (types l.types) r))

  unfoldable pub word : TypeKind → Parser TypeSyntax
  word kind = do
    from ← start
    read.next set
    span ← span_from from
    pure (tree.the_type span kind)

  unfoldable pub literal : Parser TypeSyntax
  literal = do
    from ← start
    value ← read.string set s.Text
    span ← span_from from
    pure (tree.the_type span (tree.StrType value))

  unfoldable pub name_form : Parser TypeSyntax
  name_form = λ p. if sees_typeof p then typeof_form p else named p

  -- a type that does not begin with `(`, by its first symbol
  abbrev pub form_by : Symbol → Parser TypeSyntax
  form_by s.Nil = word tree.NilType
  form_by s.True = word (tree.BoolType true)
  form_by s.False = word (tree.BoolType false)
  form_by s.Text = literal
  form_by s.Name = name_form
  form_by s.LeftBrace = table_or_array
  form_by s.Less = generic_function
  form_by _ = read.refuse set

  unfoldable pub form : Parser TypeSyntax
  form p = form_by (symbol p) p

  abbrev pub only_in_parens : Option TypeSyntax → Parser TypeSyntax
  only_in_parens None = read.refuse set
  only_in_parens (Some t) = pure t

  -- `'->' result`, behind a list in parentheses
  unfoldable pub function_behind : Listed → Parser TypeSyntax
  function_behind l = do
    read.expect set s.Arrow
    r ← result
    span ← span_from (l.start)
    pure (tree.the_type span (tree.Func tree.no_gens (types l.types) r))

  -- behind a list in parentheses
  unfoldable pub listed_type : Listed → Parser TypeSyntax
  listed_type l = λ p. if sees s.Arrow p then function_behind l p else only_in_parens (in_parens l) p

  abbrev pub basic_by : Option Listed → Parser TypeSyntax
  basic_by (Some l) = listed_type l
  basic_by None = λ p. if sees s.LeftParen p then (listed >>= listed_type) p else form p

  unfoldable pub basic : Option Listed → Parser TypeSyntax
  basic begun = basic_by begun

  unfoldable pub mark : ℕ → TypeSyntax → Parser TypeSyntax
  mark from t = do
    read.expect set s.Question
    read.raise set
    span ← span_from from
    pure (tree.the_type span (tree.Optional t))

  unfoldable pub all_marks : ℕ → TypeSyntax → Parser TypeSyntax
  all_marks from t = read.repeat set goes_marks (mark from) t

  unfoldable pub marks : ℕ → TypeSyntax → Parser TypeSyntax
  marks from t = do
    outer ← level
    u ← all_marks from t
    set_level outer
    pure u

  unfoldable pub option : Option Listed → Parser TypeSyntax
  option begun = do
    from ← (λ p. Ok (begin_of begun p, p))
    t ← basic begun
    marks from t

  unfoldable pub another_option : Symbol → List TypeSyntax → Parser (List TypeSyntax)
  another_option sign found = do
    read.expect set sign
    t ← option None
    pure (found ++ t ∷ [])

  -- options, each behind this sign, behind some of them
  unfoldable pub options_from : Symbol → List TypeSyntax → Parser (List TypeSyntax)
  options_from sign found = read.repeat set (goes_options sign) (another_option sign) found

  unfoldable pub options : Symbol → TypeSyntax → Parser (List TypeSyntax)
  options sign first = options_from sign (first ∷ [])

  unfoldable pub union_behind : ℕ → TypeSyntax → Parser TypeSyntax
  union_behind from first = do
    ts ← options s.Pipe first
    span ← span_from from
    pure (tree.the_type span (tree.Union (types ts)))

  unfoldable pub meet_behind : ℕ → TypeSyntax → Parser TypeSyntax
  meet_behind from first = do
    ts ← options s.Ampersand first
    span ← span_from from
    pure (tree.the_type span (tree.Meet (types ts)))

  -- behind the first option of a type that begins at an offset
  unfoldable pub joined : ℕ → TypeSyntax → Parser TypeSyntax
  joined from first = λ p.
      if sees s.Pipe p then union_behind from first p
      else if sees s.Ampersand p then meet_behind from first p
      else Ok (first, p)

  abbrev pub bar_by : Option Listed → Parser (Unit {0})
  bar_by (Some l) = pure tt
  bar_by None = λ p. if sees s.Pipe p || sees s.Ampersand p then (read.next set >> pure tt) p else Ok (tt, p)

  unfoldable pub bar : Option Listed → Parser (Unit {0})
  bar begun = bar_by begun

  unfoldable pub type_inside : Option Listed → Parser TypeSyntax
  type_inside begun = do
    bar begun
    from ← (λ p. Ok (begin_of begun p, p))
    first ← option begun
    joined from first

-- Declaration files: which declarations a list of tokens is.
use Rattle.std.specs.Prelude.{◌≡◌, ℕ, Bool, true, false, ◌||◌, ◌&&◌, ◌⊎◌, List, [], ◌∷◌, Option, Some, None, is_some, codes}
use Rattle.luau_tree.specs.Tree.{TypeSyntax}
use Rattle.luau_lex.specs.Tokens.{Tok}
use Rattle.luau_grammar.specs.declared.symbol.Symbol.TheVariants as s
use Rattle.luau_grammar.specs.Places.{Place, Rules, Takes, TakesName, sees, start_of}
use Rattle.luau_grammar.specs.Phrases.{Phrases, Listed, one_of}
use Rattle.luau_grammar.specs.Types.{IsListed, is_type_front, goes_on}
use Rattle.luau_grammar.specs.Modules.{phrases, before}
use Rattle.decl_grammar.specs.declared.mark.Mark.{Mark}
use Rattle.decl_grammar.specs.declared.mark.Mark.TheVariants.{Checked, Quiet}
use Rattle.decl_grammar.specs.Declarations.{TypeList, Declaration, only, dotted}

-- the name of a mark
abbrev pub mark_name : Mark → List ℕ
mark_name Checked = codes "checked"
mark_name Quiet = codes "quiet"

-- whether types in a row are one type alone
abbrev pub is_one : List TypeSyntax → Option TypeSyntax → Bool
is_one types None = is_some (one_of types)
is_one types (Some rest) = false

-- types in parentheses go on as a type: behind them stands `->`, or they are one type and it goes on
abbrev pub is_type_begin : TypeList → Place → Bool
is_type_begin list p = sees s.Arrow p || (is_one list.types list.rest && goes_on p)

module _ (rules : Rules) (inner : Phrases) where
  -- `'@checked' | '@quiet'`: the sign and the name
  abbrev pub IsMark : Place → Place → Mark → Type 0
  IsMark p q mark = (a : Place) × Takes rules s.AtSign p a × TakesName rules a q (mark_name mark)

  -- `{'@checked' | '@quiet'}`
  abbrev pub AreMarks : Place → Place → List Mark → Type 0
  AreMarks p q [] = (sees s.AtSign p ≡ false) × (q ≡ p)
  AreMarks p q (mark ∷ marks) = (a : Place) × IsMark p a mark × AreMarks a q marks

  -- `NAME ['.' NAME]`
  abbrev pub IsPath : Place → Place → List ℕ → Type 0
  IsPath p q path =
      (TakesName rules p q path × (sees s.Dot q ≡ false))
      ⊎ ((a b : Place) × (library name : List ℕ) × TakesName rules p a library × Takes rules s.Dot a b
      × TakesName rules b q name × (path ≡ dotted library name))

  -- `type {',' type} [',' '...' type]`: the first type, the others, and the one behind the dots
  abbrev pub AreTypesFrom : Place → Place → TypeSyntax → List TypeSyntax → Option TypeSyntax → Type 0
  AreTypesFrom p q t [] None = inner.typ None p q t × (sees s.Comma q ≡ false)
  AreTypesFrom p q t [] (Some rest) =
      (a b c : Place) × inner.typ None p a t × Takes rules s.Comma a b × Takes rules s.Dots b c × inner.typ None c q rest
  AreTypesFrom p q t (u ∷ us) rest = (a b : Place) × inner.typ None p a t × Takes rules s.Comma a b × AreTypesFrom b q u us rest

  -- `[type {',' type} [',' '...' type] | '...' type]`, up to a `)`
  abbrev pub AreTypes : Place → Place → List TypeSyntax → Option TypeSyntax → Type 0
  AreTypes p q [] None = (sees s.RightParen p ≡ true) × (q ≡ p)
  AreTypes p q [] (Some rest) = (a : Place) × Takes rules s.Dots p a × inner.typ None a q rest
  AreTypes p q (t ∷ ts) rest = AreTypesFrom p q t ts rest

  -- such a list in parentheses
  pub record IsTypeList (p q : Place) (list : TypeList) : Type 0 where
    pub first : Place
    pub last : Place
    pub opens : Takes rules s.LeftParen p first
    pub types : AreTypes first last list.types list.rest
    pub closes : Takes rules s.RightParen last q

  -- `type | '(' [list] ')'`: a type that doesn't begin with `(`, one that does, or a list in parentheses
  abbrev pub AreResults : Place → Place → TypeList → Type 0
  AreResults p q list =
      ((sees s.LeftParen p ≡ false) × (t : TypeSyntax) × inner.typ None p q t × (list ≡ only t))
      ⊎ (((a : Place) × (l : Listed) × (t : TypeSyntax) × IsListed rules inner p a l × (is_type_front l a ≡ true)
      × inner.typ (Some l) a q t × (list ≡ only t))
      ⊎ (IsTypeList p q list × (is_type_begin list q ≡ false)))

  -- `{'@checked' | '@quiet'} 'declare' 'function' path '(' [list] ')' ':' res`
  pub record IsDeclaration (p q : Place) (d : Declaration) : Type 0 where
    pub marked : Place
    pub declared : Place
    pub named : Place
    pub listed : Place
    pub behind : Place
    pub colon : Place
    pub marks : AreMarks p marked d.marks
    pub word : TakesName rules marked declared (codes "declare")
    pub function : Takes rules s.Function declared named
    pub at : d.at ≡ start_of named
    pub path : IsPath named listed d.path
    pub params : IsTypeList listed behind d.params
    pub colon_sign : Takes rules s.Colon behind colon
    pub results : AreResults colon q d.results

  -- `{decl}`, up to the end
  abbrev pub AreDeclarations : Place → Place → List Declaration → Type 0
  AreDeclarations p q [] = (p.ahead ≡ []) × (q ≡ p)
  AreDeclarations p q (d ∷ ds) = (a : Place) × IsDeclaration p a d × AreDeclarations a q ds

-- A list of tokens that meet these rules is these declarations, one behind the other, and nothing else. No phrase is open
-- around them, so what isn't within a type stands at level 0.
unfoldable pub IsFile : Rules → List Tok → List Declaration → Type 0
IsFile rules ts ds = (deep : ℕ) × (q : Place) × AreDeclarations rules (phrases rules deep) (before ts) q ds

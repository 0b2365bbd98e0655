-- Types: which tokens each form of a type is.
use Rattle.std.specs.Prelude.{◌≡◌, ℕ, zero, suc, Bool, true, false, ◌||◌, ◌&&◌, ◌⊎◌, List, [], ◌∷◌, Option, Some, None, is_some, codes}
use Rattle.luau_tree.specs.declared.names.Access.{Access}
use Rattle.luau_tree.specs.declared.names.Access.TheVariants.{Both, Read, Write}
use Rattle.luau_tree.specs.Tree.{TypeSyntax, TypeSyntaxes, TypeKind, MaybeType, Gen, Gens, Prop, Props, PropKey}
use Rattle.luau_tree.specs.Tree as tree
use Rattle.luau_grammar.specs.declared.symbol.Symbol.{Symbol}
use Rattle.luau_grammar.specs.declared.symbol.Symbol.TheVariants as s
use Rattle.luau_grammar.specs.Places as place
use Rattle.luau_grammar.specs.Places.{Place, Rules, sees, sees_behind, sees_word, start_of, from_to, over, at_level, raised}
use Rattle.luau_grammar.specs.Phrases.{Phrases, Listed, sole, in_parens}
use Rattle.luau_grammar.specs.Lists.{AreSeparated, AreInBraces}
use Rattle.luau_tree.specs.View.{types, gens, props}

-- a name comes next that is a word here: `read` or `write` before a name or `[`
abbrev pub sees_access : List ℕ → Place → Bool
sees_access word p = sees_word word p && (sees_behind s.Name p || sees_behind s.LeftBracket p)

-- a property of a table type begins here
abbrev pub begins_property : Place → Bool
begins_property p =
    sees s.LeftBracket p || (sees s.Name p && sees_behind s.Colon p)
    || (sees_access (codes "read") p || sees_access (codes "write") p)

-- `typeof` before `(`
abbrev pub sees_typeof : Place → Bool
sees_typeof p = sees_word (codes "typeof") p && sees_behind s.LeftParen p

-- what ends a list of types in a generic parameter pack: `NAME '...'`, or `'...' type`
abbrev pub begins_tail : Place → Bool
begins_tail p = sees s.Dots p || (sees s.Name p && sees_behind s.Dots p)

-- what goes on with a type behind one in parentheses
abbrev pub goes_on : Place → Bool
goes_on p = sees s.Question p || (sees s.Pipe p || sees s.Ampersand p)

-- A list in parentheses goes on as a type: behind it stands `->`, or it is a type in parentheses and goes on.
abbrev pub is_type_front : Listed → Place → Bool
is_type_front l p = sees s.Arrow p || (is_some (in_parens l) && goes_on p)

-- the pack that a list in parentheses is, or the one type in it
abbrev pub pack_by : Listed → Option TypeSyntax → TypeSyntax
pack_by l (Some t) = t
pack_by l None = tree.the_type (record { start = l.start; end = l.end }) (tree.Pack (types l.types))

abbrev pub pack_of : Listed → TypeSyntax
pack_of l = pack_by l (sole l)

-- a name before a `:` begins here
abbrev pub begins_named : Place → Bool
begins_named p = sees s.Name p && sees_behind s.Colon p

-- where a type begins whose list in parentheses may stand before a place
abbrev pub begin_of : Option Listed → Place → ℕ
begin_of None p = start_of p
begin_of (Some l) p = l.start

module _ (rules : Rules) (inner : Phrases) where
  abbrev Takes : Symbol → Place → Place → Type 0
  Takes = place.Takes rules

  abbrev TakesName : Place → Place → List ℕ → Type 0
  TakesName = place.TakesName rules

  -- `'...' type | NAME '...'`
  abbrev IsTailOf : Place → Place → TypeKind → Type 0
  IsTailOf p q (tree.Variadic t) = (a : Place) × Takes s.Dots p a × inner.typ None a q t
  IsTailOf p q (tree.GenericPack name) = (a : Place) × TakesName p a name × Takes s.Dots a q
  IsTailOf p q _ = ⊥

  abbrev pub IsTail : Place → Place → TypeSyntax → Type 0
  IsTail p q (tree.the_type span kind) = (span ≡ over p q) × IsTailOf p q kind

  -- `[NAME ':'] type`: with a name, or without one
  abbrev pub IsMember : Place → Place → Bool → TypeSyntax → Type 0
  IsMember p q true t =
      (a b : Place) × (name : List ℕ) × TakesName p a name × Takes s.Colon a b × inner.typ None b q t
  IsMember p q false t = (begins_named p ≡ false) × inner.typ None p q t

  -- `[NAME ':'] type {',' [NAME ':'] type} [',' tail] | tail`, as the first type and the others, whether one has a
  -- name, and whether there is a tail
  abbrev pub AreMembers : Place → Place → TypeSyntax → List TypeSyntax → Bool → Bool → Type 0
  AreMembers p q t [] named true = (begins_tail p ≡ true) × (named ≡ false) × IsTail p q t
  AreMembers p q t [] named false =
      (begins_tail p ≡ false) × IsMember p q named t × (sees s.Comma q ≡ false)
  AreMembers p q t (u ∷ us) named tailed =
      (a b : Place) × (here later : Bool) × (begins_tail p ≡ false) × IsMember p a here t × Takes s.Comma a b
      × AreMembers b q u us later tailed × (named ≡ (here || later))

  -- `[targlist]`, up to a `)`
  abbrev pub AreListed : Place → Place → List TypeSyntax → Bool → Bool → Type 0
  AreListed p q [] named tailed = (sees s.RightParen p ≡ true) × (q ≡ p) × (named ≡ false) × (tailed ≡ false)
  AreListed p q (t ∷ ts) named tailed = (sees s.RightParen p ≡ false) × AreMembers p q t ts named tailed

  -- `'(' [targlist] ')'`
  pub record IsListed (p q : Place) (l : Listed) : Type 0 where
    pub first : Place
    pub last : Place
    pub opens : Takes s.LeftParen p first
    pub members : AreListed first last l.types l.named l.tailed
    pub closes : Takes s.RightParen last q
    pub starts : l.start ≡ start_of p
    pub ends : l.end ≡ q.last

  -- `type | '(' [targlist] ')' | tail`: a result or a type argument
  abbrev pub IsResult : Place → Place → TypeSyntax → Type 0
  IsResult p q t =
      ((sees s.LeftParen p ≡ true) × (l : Listed) × (a : Place) × IsListed p a l
      × (((is_type_front l a ≡ true) × inner.typ (Some l) a q t)
      ⊎ ((is_type_front l a ≡ false) × (q ≡ a) × (t ≡ pack_of l))))
      ⊎ ((sees s.LeftParen p ≡ false)
      × (((begins_tail p ≡ true) × IsTail p q t) ⊎ ((begins_tail p ≡ false) × inner.typ None p q t)))

  -- `['<' [targ {',' targ}] '>']`
  abbrev pub AreTypeArguments : Place → Place → TypeSyntaxes → Type 0
  AreTypeArguments p q args =
      ((sees s.Less p ≡ false) × (q ≡ p) × (args ≡ tree.no_types))
      ⊎ (((a : Place) × Takes s.Less p a × (sees s.Greater a ≡ true) × Takes s.Greater a q × (args ≡ tree.no_types))
      ⊎ ((a b : Place) × (t : TypeSyntax) × (ts : List TypeSyntax) × Takes s.Less p a × (sees s.Greater a ≡ false)
      × AreSeparated rules IsResult a b t ts × Takes s.Greater b q × (args ≡ types (t ∷ ts))))

  -- `['...']`
  abbrev pub IsPackMark : Place → Place → Bool → Type 0
  IsPackMark p q true = Takes s.Dots p q
  IsPackMark p q false = (sees s.Dots p ≡ false) × (q ≡ p)

  -- `['=' targ]`, where it may stand
  abbrev pub IsDefault : Bool → Place → Place → MaybeType → Type 0
  IsDefault may p q tree.no_type = ((may && sees s.Assign p) ≡ false) × (q ≡ p)
  IsDefault may p q (tree.a_type t) = (may ≡ true) × (a : Place) × Takes s.Assign p a × IsResult a q t

  -- `NAME ['...'] ['=' targ]`
  abbrev pub IsGeneric : Bool → Place → Place → Gen → Type 0
  IsGeneric may p q (tree.the_gen name span pack default) =
      (a b : Place) × TakesName p a name × (span ≡ over p a) × IsPackMark a b pack × IsDefault may b q default

  -- `['<' gen {',' gen} '>']`
  abbrev pub AreGenerics : Bool → Place → Place → Gens → Type 0
  AreGenerics may p q all =
      ((sees s.Less p ≡ false) × (q ≡ p) × (all ≡ tree.no_gens))
      ⊎ ((a b : Place) × (g : Gen) × (gs : List Gen) × Takes s.Less p a
      × AreSeparated rules (IsGeneric may) a b g gs × Takes s.Greater b q × (all ≡ gens (g ∷ gs)))

  -- `['read' | 'write']`
  abbrev pub IsAccess : Place → Place → Access → Type 0
  IsAccess p q Both =
      (sees_access (codes "read") p ≡ false) × (sees_access (codes "write") p ≡ false) × (q ≡ p)
  IsAccess p q Read = (sees_access (codes "read") p ≡ true) × TakesName p q (codes "read")
  IsAccess p q Write = (sees_access (codes "write") p ≡ true) × TakesName p q (codes "write")

  -- `NAME ':' | '[' type ']' ':'`
  abbrev pub IsKey : Place → Place → PropKey → Type 0
  IsKey p q (tree.NameKey name) = (a : Place) × TakesName p a name × Takes s.Colon a q
  IsKey p q (tree.Indexer t) =
      (a b c : Place) × Takes s.LeftBracket p a × inner.typ None a b t × Takes s.RightBracket b c × Takes s.Colon c q

  -- `['read' | 'write'] (NAME ':' type | '[' type ']' ':' type)`
  abbrev pub IsProperty : Place → Place → Prop → Type 0
  IsProperty p q (tree.the_prop access key typ) =
      (a b : Place) × IsAccess p a access × IsKey a b key × inner.typ None b q typ

  -- `'{' type '}' | '{' [prop {(',' | ';') prop} [',' | ';']] '}'`, the second
  abbrev pub IsTable : Place → Place → Props → Type 0
  IsTable p q all =
      ((a : Place) × Takes s.LeftBrace p a × (sees s.RightBrace a ≡ true) × Takes s.RightBrace a q × (all ≡ tree.no_props))
      ⊎ ((a b : Place) × (x : Prop) × (xs : List Prop) × Takes s.LeftBrace p a × (sees s.RightBrace a ≡ false)
      × (begins_property a ≡ true) × AreInBraces rules IsProperty a b x xs × Takes s.RightBrace b q
      × (all ≡ props (x ∷ xs)))

  abbrev IsNamed : Place → Place → Option (List ℕ) → List ℕ → TypeSyntaxes → Type 0
  IsNamed p q None name args =
      (a : Place) × (sees_typeof p ≡ false) × TakesName p a name × (sees s.Dot a ≡ false) × AreTypeArguments a q args
  IsNamed p q (Some prefix) name args =
      (a b c : Place) × (sees_typeof p ≡ false) × TakesName p a prefix × Takes s.Dot a b × TakesName b c name
      × AreTypeArguments c q args

  -- the forms of a type that does not begin with `(`
  abbrev pub IsForm : Place → Place → TypeKind → Type 0
  IsForm p q tree.NilType = Takes s.Nil p q
  IsForm p q (tree.BoolType true) = Takes s.True p q
  IsForm p q (tree.BoolType false) = Takes s.False p q
  IsForm p q (tree.StrType value) = place.TakesString rules s.Text p q value
  IsForm p q (tree.Named prefix name args) = IsNamed p q prefix name args
  IsForm p q (tree.Typeof e) =
      (a b c : Place) × (sees_typeof p ≡ true) × Takes s.Name p a × Takes s.LeftParen a b × inner.exp b c e
      × Takes s.RightParen c q
  IsForm p q (tree.Array t) =
      (a b : Place) × Takes s.LeftBrace p a × (sees s.RightBrace a ≡ false) × (begins_property a ≡ false)
      × inner.typ None a b t × Takes s.RightBrace b q
  IsForm p q (tree.TableType props) = IsTable p q props
  IsForm p q (tree.Func generics params result) =
      (a b c : Place) × (l : Listed) × (sees s.Less p ≡ true) × AreGenerics false p a generics × IsListed a b l
      × (params ≡ types l.types) × Takes s.Arrow b c × IsResult c q result
  IsForm p q _ = ⊥

  abbrev pub IsFormed : Place → Place → TypeSyntax → Type 0
  IsFormed p q (tree.the_type span kind) = (span ≡ over p q) × IsForm p q kind

  -- `'(' [targlist] ')' '->' result | '(' type ')'`, behind the list
  abbrev pub IsListedType : Listed → Place → Place → TypeSyntax → Type 0
  IsListedType l p q t =
      ((a : Place) × (result : TypeSyntax) × Takes s.Arrow p a × IsResult a q result
      × (t ≡ tree.the_type (from_to l.start q) (tree.Func tree.no_gens (types l.types) result)))
      ⊎ ((sees s.Arrow p ≡ false) × (in_parens l ≡ Some t) × (q ≡ p))

  -- a type without `?`, `|` and `&`
  abbrev pub IsBasic : Option Listed → Place → Place → TypeSyntax → Type 0
  IsBasic (Some l) p q t = IsListedType l p q t
  IsBasic None p q t =
      ((sees s.LeftParen p ≡ true) × (l : Listed) × (a : Place) × IsListed p a l × IsListedType l a q t)
      ⊎ ((sees s.LeftParen p ≡ false) × IsFormed p q t)

  -- So many `?` behind a type make another type. Each stands one level deeper than one directly before it, and what
  -- follows stands at the given level.
  abbrev pub AreMarks : ℕ → ℕ → ℕ → Place → Place → TypeSyntax → TypeSyntax → Type 0
  AreMarks start level zero p q t u = (sees s.Question p ≡ false) × (q ≡ at_level level p) × (u ≡ t)
  AreMarks start level (suc more) p q t u =
      (a : Place) × Takes s.Question p a
      × AreMarks start level more (raised a) q (tree.the_type (from_to start a) (tree.Optional t)) u

  -- `basic {'?'}`
  abbrev pub IsOption : Option Listed → Place → Place → TypeSyntax → Type 0
  IsOption begun p q t =
      (a : Place) × (marks : ℕ) × (basic : TypeSyntax) × IsBasic begun p a basic
      × AreMarks (begin_of begun p) a.level marks a q basic t

  -- options, each behind this sign
  abbrev pub AreOptions : Symbol → Place → Place → List TypeSyntax → Type 0
  AreOptions sign p q [] = (sees sign p ≡ false) × (q ≡ p)
  AreOptions sign p q (t ∷ ts) = (a b : Place) × Takes sign p a × IsOption None a b t × AreOptions sign b q ts

  -- `['|' | '&']`
  abbrev pub IsBar : Option Listed → Place → Place → Type 0
  IsBar None p q =
      (Takes s.Pipe p q ⊎ Takes s.Ampersand p q) ⊎ ((sees s.Pipe p ≡ false) × (sees s.Ampersand p ≡ false) × (q ≡ p))
  IsBar (Some l) p q = q ≡ p

  -- `opt ({'|' opt} | {'&' opt})`, from an offset on, behind the first option
  abbrev pub IsJoined : ℕ → Place → Place → TypeSyntax → TypeSyntax → Type 0
  IsJoined start p q first t =
      ((sees s.Pipe p ≡ true) × (ts : List TypeSyntax) × AreOptions s.Pipe p q ts
      × (t ≡ tree.the_type (from_to start q) (tree.Union (types (first ∷ ts)))))
      ⊎ (((sees s.Pipe p ≡ false) × (sees s.Ampersand p ≡ true) × (ts : List TypeSyntax) × AreOptions s.Ampersand p q ts
      × (t ≡ tree.the_type (from_to start q) (tree.Meet (types (first ∷ ts)))))
      ⊎ ((sees s.Pipe p ≡ false) × (sees s.Ampersand p ≡ false) × (q ≡ p) × (t ≡ first)))

  -- `['|' | '&'] opt ({'|' opt} | {'&' opt})`
  abbrev pub IsType : Option Listed → Place → Place → TypeSyntax → Type 0
  IsType begun p q t =
      (a b : Place) × (first : TypeSyntax) × IsBar begun p a × IsOption begun a b first
      × IsJoined (begin_of begun a) b q first t

-- Expressions and function bodies: which tokens each form is.
use Rattle.std.specs.Prelude.{◌≡◌, ℕ, zero, suc, ◌+◌, Bool, true, false, ◌||◌, ◌&&◌, ◌⊎◌, List, [], ◌∷◌, Option, Some, None, is_some, codes}
use Rattle.luau_tree.specs.declared.position.Span.{Span}
use Rattle.luau_tree.specs.declared.names.UnOp.{UnOp}
use Rattle.luau_tree.specs.declared.names.BinOp.{BinOp}
use Rattle.luau_tree.specs.Tree.{Expr, Exprs, ExprKind, Choices, Item, Items, Body, Varargs, Bind, Binds, TypeSyntax, MaybeType}
use Rattle.luau_tree.specs.Tree as tree
use Rattle.luau_grammar.specs.declared.symbol.Symbol.{Symbol}
use Rattle.luau_grammar.specs.declared.symbol.Symbol.TheVariants as s
use Rattle.luau_grammar.specs.Places as place
use Rattle.luau_grammar.specs.Places.{Place, Rules, symbol, sees, sees_behind, start_of, over, at_level, raised}
use Rattle.luau_grammar.specs.Operators.{binary_of, unary_of, HasOperands, HasOperand}
use Rattle.luau_grammar.specs.Phrases.{Phrases}
use Rattle.luau_grammar.specs.Lists.{AreSeparated, AreInBraces}
use Rattle.luau_tree.specs.View.{exprs, binds, items, choices}
use Rattle.luau_grammar.specs.Types as types

-- what goes on with a prefix: `.`, `[`, `:` or arguments
abbrev pub begins_suffix : Place → Bool
begins_suffix p =
    (sees s.Dot p || (sees s.LeftBracket p || sees s.Colon p))
    || (sees s.LeftParen p || (sees s.LeftBrace p || sees s.Text p))

-- what begins an expression, by its symbol
abbrev pub begins : Symbol → Bool
begins s.Number = true
begins s.Text = true
begins s.Nil = true
begins s.True = true
begins s.False = true
begins s.Dots = true
begins s.LeftBrace = true
begins s.AtSign = true
begins s.Function = true
begins s.Name = true
begins s.LeftParen = true
begins s.If = true
begins s.Whole = true
begins s.Begin = true
begins s.Minus = true
begins s.Not = true
begins s.Hash = true
begins _ = false

-- a name before a `=` begins a field
abbrev pub begins_field : Place → Bool
begins_field p = sees s.Name p && sees_behind s.Assign p

-- a name before `...`
abbrev pub sees_pack : Place → Bool
sees_pack p = sees s.Name p && sees_behind s.Dots p

-- The parameters of a body: those that are written, and before them `self` in a method's, at the method's name.
abbrev pub HasSelf : Option Span → Bool → List Bind → Binds → Type 0
HasSelf None has_self own all = (has_self ≡ false) × (all ≡ binds own)
HasSelf (Some name) has_self own all =
    (has_self ≡ true) × (all ≡ binds (tree.the_bind (codes "self") name tree.no_type ∷ own))

module _ (rules : Rules) (inner : Phrases) where
  abbrev Takes : Symbol → Place → Place → Type 0
  Takes = place.Takes rules

  abbrev TakesName : Place → Place → List ℕ → Type 0
  TakesName = place.TakesName rules

  abbrev TakesString : Symbol → Place → Place → List ℕ → Type 0
  TakesString = place.TakesString rules

  -- `exp {',' exp}`
  abbrev pub AreExpressions : Place → Place → Exprs → Type 0
  AreExpressions p q all = (e : Expr) × (es : List Expr) × AreSeparated rules inner.exp p q e es × (all ≡ exprs (e ∷ es))

  -- `{'@' NAME}`, so many
  abbrev pub AreAttributes : ℕ → Place → Place → Type 0
  AreAttributes zero p q = (sees s.AtSign p ≡ false) × (q ≡ p)
  AreAttributes (suc more) p q =
      (a b : Place) × (name : List ℕ) × Takes s.AtSign p a × TakesName a b name × AreAttributes more b q

  -- `NAME [':' type]`
  abbrev pub IsAnnotation : Place → Place → MaybeType → Type 0
  IsAnnotation p q tree.no_type = (sees s.Colon p ≡ false) × (q ≡ p)
  IsAnnotation p q (tree.a_type t) = (a : Place) × Takes s.Colon p a × inner.typ None a q t

  abbrev pub IsBind : Place → Place → Bind → Type 0
  IsBind p q (tree.the_bind name span typ) =
      (a : Place) × TakesName p a name × (span ≡ over p a) × IsAnnotation a q typ

  -- `type | NAME '...'`, behind the `:` of a variadic parameter
  abbrev pub IsVarType : Place → Place → TypeSyntax → Type 0
  IsVarType p q t =
      ((sees_pack p ≡ true) × (a : Place) × (name : List ℕ) × TakesName p a name × Takes s.Dots a q
      × (t ≡ tree.the_type (over p q) (tree.GenericPack name)))
      ⊎ ((sees_pack p ≡ false) × inner.typ None p q t)

  -- `'...' [':' (type | NAME '...')]`
  abbrev pub IsVarparam : Place → Place → MaybeType → Type 0
  IsVarparam p q tree.no_type = Takes s.Dots p q × (sees s.Colon q ≡ false)
  IsVarparam p q (tree.a_type t) = (a b : Place) × Takes s.Dots p a × Takes s.Colon a b × IsVarType b q t

  -- `bind {',' bind} [',' varparam]`
  abbrev pub AreParametersFrom : Place → Place → Bind → List Bind → Varargs → Type 0
  AreParametersFrom p q x [] tree.no_varargs = IsBind p q x × (sees s.Comma q ≡ false)
  AreParametersFrom p q x [] (tree.varargs t) =
      (a b : Place) × IsBind p a x × Takes s.Comma a b × (sees s.Dots b ≡ true) × IsVarparam b q t
  AreParametersFrom p q x (y ∷ ys) v =
      (a b : Place) × IsBind p a x × Takes s.Comma a b × (sees s.Dots b ≡ false) × AreParametersFrom b q y ys v

  -- `[params]`, up to a `)`
  abbrev pub AreParameters : Place → Place → List Bind → Varargs → Type 0
  AreParameters p q [] tree.no_varargs = (sees s.RightParen p ≡ true) × (q ≡ p)
  AreParameters p q [] (tree.varargs t) = (sees s.Dots p ≡ true) × IsVarparam p q t
  AreParameters p q (x ∷ xs) v =
      (sees s.RightParen p ≡ false) × (sees s.Dots p ≡ false) × AreParametersFrom p q x xs v

  -- `[':' result]`
  abbrev pub IsMaybeResult : Place → Place → MaybeType → Type 0
  IsMaybeResult p q tree.no_type = (sees s.Colon p ≡ false) × (q ≡ p)
  IsMaybeResult p q (tree.a_type t) = (a : Place) × Takes s.Colon p a × types.IsResult rules inner a q t

  -- `[generics] '(' [params] ')' [':' result] block 'end'`, of a method where a name's span is given
  abbrev pub IsBody : Option Span → Place → Place → Body → Type 0
  IsBody method p q (tree.the_body id has_self generics params vararg result block span) =
      (id ≡ 0) × (span ≡ over p q) × (a b c d e f : Place) × (own : List Bind)
      × types.AreGenerics rules inner false p a generics × Takes s.LeftParen a b × AreParameters b c own vararg
      × Takes s.RightParen c d × IsMaybeResult d e result × inner.block e f block × Takes s.End f q
      × HasSelf method has_self own params

  -- `'[' exp ']' '=' exp | NAME '=' exp | exp`
  abbrev pub IsItem : Place → Place → Item → Type 0
  IsItem p q (tree.Keyed key value) =
      (a b c d : Place) × Takes s.LeftBracket p a × inner.exp a b key × Takes s.RightBracket b c × Takes s.Assign c d
      × inner.exp d q value
  IsItem p q (tree.Field name value) =
      (a b : Place) × TakesName p a name × Takes s.Assign a b × inner.exp b q value
  IsItem p q (tree.Plain value) = (begins_field p ≡ false) × inner.exp p q value

  -- `'{' [field {(',' | ';') field} [',' | ';']] '}'`, whose inside stands at this level
  abbrev pub IsTable : ℕ → Place → Place → Items → Type 0
  IsTable level p q all =
      ((a : Place) × Takes s.LeftBrace p a × (sees s.RightBrace a ≡ true) × Takes s.RightBrace (at_level level a) q
      × (all ≡ tree.no_items))
      ⊎ ((a b : Place) × (x : Item) × (xs : List Item) × Takes s.LeftBrace p a × (sees s.RightBrace a ≡ false)
      × AreInBraces rules IsItem (at_level level a) b x xs × Takes s.RightBrace b q × (all ≡ items (x ∷ xs)))

  -- `[exps]`, up to a `)`
  abbrev pub AreInParens : Place → Place → Exprs → Type 0
  AreInParens p q all =
      ((sees s.RightParen p ≡ true) × (q ≡ p) × (all ≡ tree.no_exprs))
      ⊎ ((sees s.RightParen p ≡ false) × AreExpressions p q all)

  -- the one argument that is no list in parentheses
  abbrev only : Place → Place → ExprKind → Exprs
  only p q kind = tree.more_exprs (tree.the_expr 0 (over p q) kind) tree.no_exprs

  -- `'(' [exps] ')' | table | STRING`, where what stands behind the first token stands at this level
  abbrev pub AreArguments : ℕ → Place → Place → Exprs → Type 0
  AreArguments level p q args =
      ((a b : Place) × place.OpensArguments rules p a × AreInParens (at_level level a) b args × Takes s.RightParen b q)
      ⊎ (((fields : Items) × IsTable level p q fields × (args ≡ only p q (tree.TableExpr fields)))
      ⊎ ((a : Place) × (value : List ℕ) × TakesString s.Text p a value × (q ≡ at_level level a)
      × (args ≡ only p q (tree.StrExpr value))))

  abbrev mutual
    -- `(NAME | '(' exp ')') {suffix}`. What stands behind the first token of a suffix stands one level deeper.
    pub IsPrefix : Place → Place → Expr → Type 0
    IsPrefix p q (tree.the_expr id span kind) = (id ≡ 0) × (span ≡ over p q) × IsPrefixForm p q kind

    pub IsPrefixForm : Place → Place → ExprKind → Type 0
    IsPrefixForm p q (tree.NameExpr name) = TakesName p q name
    IsPrefixForm p q (tree.Paren e) =
        (a b : Place) × Takes s.LeftParen p a × inner.exp a b e × Takes s.RightParen b q
    IsPrefixForm p q (tree.Index base name) =
        (a b : Place) × IsPrefix p a base × Takes s.Dot a b × TakesName (raised b) q name
    IsPrefixForm p q (tree.At base key) =
        (a b c : Place) × IsPrefix p a base × Takes s.LeftBracket a b × inner.exp (raised b) c key
        × Takes s.RightBracket c q
    IsPrefixForm p q (tree.Call callee args) =
        (a : Place) × IsPrefix p a callee × AreArguments (a.level + 1) a q args
    IsPrefixForm p q (tree.Method base name name_span args) =
        (a b c : Place) × IsPrefix p a base × Takes s.Colon a b × TakesName (raised b) c name
        × (name_span ≡ over b c) × AreArguments c.level c q args
    IsPrefixForm p q _ = ⊥

  -- `word exp 'then' exp {'elseif' exp 'then' exp}`
  abbrev pub AreChoices : Symbol → Place → Place → Expr × Expr → List (Expr × Expr) → Type 0
  AreChoices word p q choice [] =
      (a b c : Place) × Takes word p a × inner.exp a b choice.0 × Takes s.Then b c × inner.exp c q choice.1
      × (sees s.ElseIf q ≡ false)
  AreChoices word p q choice (other ∷ more) =
      (a b c d : Place) × Takes word p a × inner.exp a b choice.0 × Takes s.Then b c × inner.exp c d choice.1
      × AreChoices s.ElseIf d q other more

  -- `'if' exp 'then' exp {'elseif' exp 'then' exp} 'else' exp`
  abbrev pub IsIfElse : Place → Place → Choices → Expr → Type 0
  IsIfElse p q all last =
      (a b : Place) × (choice : Expr × Expr) × (more : List (Expr × Expr)) × AreChoices s.If p a choice more
      × Takes s.Else a b × inner.exp b q last × (all ≡ choices (choice ∷ more))

  -- `exp {MID exp} END`, with the texts behind its parts
  abbrev pub AreParts : Place → Place → Expr → List Expr → List (List ℕ) → Type 0
  AreParts p q e [] texts =
      (a : Place) × (text : List ℕ) × inner.exp p a e × TakesString s.Last a q text × (texts ≡ text ∷ [])
  AreParts p q e (f ∷ fs) texts =
      (a b : Place) × (text : List ℕ) × (more : List (List ℕ)) × inner.exp p a e × TakesString s.Mid a b text
      × AreParts b q f fs more × (texts ≡ text ∷ more)

  -- `WHOLE | BEGIN exp {MID exp} END`
  abbrev pub IsInterpolation : Place → Place → List (List ℕ) → Exprs → Type 0
  IsInterpolation p q texts parts =
      ((text : List ℕ) × TakesString s.Whole p q text × (texts ≡ text ∷ []) × (parts ≡ tree.no_exprs))
      ⊎ ((a : Place) × (text : List ℕ) × (more : List (List ℕ)) × (e : Expr) × (es : List Expr)
      × TakesString s.Begin p a text × AreParts a q e es more × (texts ≡ text ∷ more) × (parts ≡ exprs (e ∷ es)))

  -- an expression without operators and `::`
  abbrev pub IsSimpleForm : Place → Place → ExprKind → Type 0
  IsSimpleForm p q tree.NilExpr = Takes s.Nil p q
  IsSimpleForm p q tree.TrueExpr = Takes s.True p q
  IsSimpleForm p q tree.FalseExpr = Takes s.False p q
  IsSimpleForm p q (tree.NumberExpr text) = place.TakesNumber rules p q text
  IsSimpleForm p q (tree.StrExpr value) = TakesString s.Text p q value
  IsSimpleForm p q tree.Vararg = Takes s.Dots p q
  IsSimpleForm p q (tree.FunctionExpr body) =
      (attributes : ℕ) × (a b : Place) × AreAttributes attributes p a × Takes s.Function a b × IsBody None b q body
  IsSimpleForm p q (tree.IfElse arms last) = IsIfElse p q arms last
  IsSimpleForm p q (tree.TableExpr items) = IsTable p.level p q items
  IsSimpleForm p q (tree.Interp texts parts) = IsInterpolation p q texts parts
  IsSimpleForm p q (tree.Binary op left right) = ⊥
  IsSimpleForm p q (tree.Unary op e) = ⊥
  IsSimpleForm p q (tree.Assert e typ) = ⊥
  IsSimpleForm p q kind = IsPrefixForm p q kind × (begins_suffix q ≡ false)

  abbrev pub IsSimple : Place → Place → Expr → Type 0
  IsSimple p q (tree.the_expr id span kind) = (id ≡ 0) × (span ≡ over p q) × IsSimpleForm p q kind

  -- an operator's token
  abbrev pub TakesBinary : BinOp → Place → Place → Type 0
  TakesBinary op p q = (x : Symbol) × (binary_of x ≡ Some op) × Takes x p q

  abbrev pub TakesUnary : UnOp → Place → Place → Type 0
  TakesUnary op p q = (x : Symbol) × (unary_of x ≡ Some op) × Takes x p q

  abbrev mutual
    -- `operand {binop operand}` with `{unop} simple ['::' type]` for an operand: the operands and operators of the
    -- tree from left to right, which have their operands by the table. What stands behind an operator stands one
    -- level deeper.
    pub IsOperation : Place → Place → Expr → Type 0
    IsOperation p q (tree.the_expr id span kind) = (id ≡ 0) × (span ≡ over p q) × IsOperationForm p q kind

    pub IsOperationForm : Place → Place → ExprKind → Type 0
    IsOperationForm p q (tree.Binary op left right) =
        (a b : Place) × IsOperation p a left × TakesBinary op a b × IsOperation (raised b) q right × HasOperands op left right
    IsOperationForm p q (tree.Unary op e) =
        (a : Place) × TakesUnary op p a × IsOperation (raised a) q e × HasOperand e
    IsOperationForm p q (tree.Assert e typ) =
        (a b : Place) × IsSimple p a e × Takes s.DoubleColon a b × inner.typ None b q typ
    IsOperationForm p q kind = IsSimpleForm p q kind × (sees s.DoubleColon q ≡ false)

  -- an expression, which takes each binary operator behind it
  abbrev pub IsExpression : Place → Place → Expr → Type 0
  IsExpression p q e = IsOperation p q e × (is_some (binary_of (symbol q)) ≡ false)

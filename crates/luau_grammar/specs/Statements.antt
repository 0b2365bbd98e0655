-- Statements and blocks: which tokens each form is.
use Rattle.std.specs.Prelude.{◌≡◌, ℕ, Bool, true, false, ◌||◌, ◌&&◌, ◌⊎◌, List, [], ◌∷◌, Option, Some, None, codes}
use Rattle.std.specs.Str.{bytes_eq}
use Rattle.luau_tree.specs.declared.position.Span.{Span}
use Rattle.luau_tree.specs.Tree.{Block, Stat, StatKind, Arms, MaybeBlock, Expr, Exprs, MaybeExpr, ExprKind, Bind, Binds, Gens, TypeSyntax}
use Rattle.luau_tree.specs.Tree as tree
use Rattle.luau_lex.specs.Tokens.{Tok}
use Rattle.luau_grammar.specs.declared.symbol.Symbol.{Symbol}
use Rattle.luau_grammar.specs.declared.symbol.Symbol.TheVariants as s
use Rattle.luau_grammar.specs.Places as place
use Rattle.luau_grammar.specs.Places.{Place, Rules, symbol, symbol_behind, sees, sees_behind, sees_word, start_of, over, at_level, raised, first_bytes}
use Rattle.luau_grammar.specs.Operators.{compound_of}
use Rattle.luau_grammar.specs.Phrases.{Phrases}
use Rattle.luau_grammar.specs.Types as types
use Rattle.luau_grammar.specs.Expressions as expressions
use Rattle.luau_grammar.specs.Lists.{AreSeparated}
use Rattle.luau_tree.specs.View.{exprs, binds, arms}

-- what ends a block, or separates statements: what stands behind the statement `continue`
abbrev pub closes : Symbol → Bool
closes s.Semicolon = true
closes s.End = true
closes s.Else = true
closes s.ElseIf = true
closes s.Until = true
closes s.Stop = true
closes _ = false

-- the bytes of the token behind the next
abbrev pub second_bytes : List Tok → List ℕ
second_bytes [] = []
second_bytes (t ∷ ts) = first_bytes ts

-- the word `continue`
abbrev pub sees_continue : Place → Bool
sees_continue p = sees_word (codes "continue") p && closes (symbol_behind p)

-- the word `type`
abbrev pub sees_type : Place → Bool
sees_type p = sees_word (codes "type") p && (sees_behind s.Name p || sees_behind s.Function p)

-- the word `export`
abbrev pub sees_export : Place → Bool
sees_export p =
    sees_word (codes "export") p && (sees_behind s.Name p && bytes_eq (second_bytes p.ahead) (codes "type"))

-- a name that is a word where a statement may begin
abbrev pub sees_statement_word : Place → Bool
sees_statement_word p = sees_continue p || (sees_type p || sees_export p)

-- what begins a statement, by its symbol
abbrev pub begins : Symbol → Bool
begins s.Name = true
begins s.LeftParen = true
begins s.Do = true
begins s.While = true
begins s.Repeat = true
begins s.If = true
begins s.For = true
begins s.AtSign = true
begins s.Function = true
begins s.Local = true
begins s.Return = true
begins s.Break = true
begins _ = false

-- a statement behind which its block ends
abbrev pub is_last_kind : StatKind → Bool
is_last_kind (tree.Return values) = true
is_last_kind tree.Break = true
is_last_kind tree.Continue = true
is_last_kind _ = false

abbrev pub is_last : Stat → Bool
is_last (tree.the_stat span kind) = is_last_kind kind

-- what can be assigned to: a name, or what ends in `.NAME` or `[exp]`
abbrev is_variable_kind : ExprKind → Bool
is_variable_kind (tree.NameExpr name) = true
is_variable_kind (tree.Index base name) = true
is_variable_kind (tree.At base key) = true
is_variable_kind _ = false

abbrev pub is_variable : Expr → Bool
is_variable (tree.the_expr id span kind) = is_variable_kind kind

-- what ends in arguments
abbrev is_call_kind : ExprKind → Bool
is_call_kind (tree.Call callee args) = true
is_call_kind (tree.Method base name name_span args) = true
is_call_kind _ = false

abbrev pub is_call : Expr → Bool
is_call (tree.the_expr id span kind) = is_call_kind kind

module _ (rules : Rules) (inner : Phrases) where
  abbrev Takes : Symbol → Place → Place → Type 0
  Takes = place.Takes rules

  abbrev TakesName : Place → Place → List ℕ → Type 0
  TakesName = place.TakesName rules

  -- a prefix that is a statement's own: behind it the level is that of the statement again
  abbrev pub IsOwnPrefix : Place → Place → Expr → Type 0
  IsOwnPrefix p q e =
      (a : Place) × expressions.IsPrefix rules inner p a e × (expressions.begins_suffix a ≡ false) × (q ≡ at_level p.level a)

  abbrev pub IsVariable : Place → Place → Expr → Type 0
  IsVariable p q e = IsOwnPrefix p q e × (is_variable e ≡ true)

  -- `var {',' var} '=' exps`
  abbrev pub IsAssign : Place → Place → Exprs → Exprs → Type 0
  IsAssign p q targets values =
      (a b : Place) × (e : Expr) × (es : List Expr) × AreSeparated rules IsVariable p a e es × Takes s.Assign a b
      × expressions.AreExpressions rules inner b q values × (targets ≡ exprs (e ∷ es))

  -- `word exp 'then' block {'elseif' exp 'then' block}`
  abbrev pub AreArms : Symbol → Place → Place → Expr × Block → List (Expr × Block) → Type 0
  AreArms word p q arm [] =
      (a b c : Place) × Takes word p a × inner.exp a b arm.0 × Takes s.Then b c × inner.block c q arm.1
      × (sees s.ElseIf q ≡ false)
  AreArms word p q arm (other ∷ more) =
      (a b c d : Place) × Takes word p a × inner.exp a b arm.0 × Takes s.Then b c × inner.block c d arm.1
      × AreArms s.ElseIf d q other more

  -- `['else' block]`
  abbrev pub IsElse : Place → Place → MaybeBlock → Type 0
  IsElse p q tree.no_block = (sees s.Else p ≡ false) × (q ≡ p)
  IsElse p q (tree.a_block block) = (a : Place) × Takes s.Else p a × inner.block a q block

  -- `'if' exp 'then' block {'elseif' exp 'then' block} ['else' block] 'end'`
  abbrev pub IsIf : Place → Place → Arms → MaybeBlock → Type 0
  IsIf p q all last =
      (a b : Place) × (arm : Expr × Block) × (more : List (Expr × Block)) × AreArms s.If p a arm more × IsElse a b last
      × Takes s.End b q × (all ≡ arms (arm ∷ more))

  -- `'do' block 'end'`
  abbrev pub IsDo : Place → Place → Block → Type 0
  IsDo p q block = (a b : Place) × Takes s.Do p a × inner.block a b block × Takes s.End b q

  -- `[',' exp]`
  abbrev pub IsStep : Place → Place → MaybeExpr → Type 0
  IsStep p q tree.no_expr = (sees s.Comma p ≡ false) × (q ≡ p)
  IsStep p q (tree.an_expr e) = (a : Place) × Takes s.Comma p a × inner.exp a q e

  -- `bind {',' bind}`
  abbrev pub AreBinds : Place → Place → Binds → Type 0
  AreBinds p q all =
      (x : Bind) × (xs : List Bind) × AreSeparated rules (expressions.IsBind rules inner) p q x xs × (all ≡ binds (x ∷ xs))

  -- `'for' binds 'in' exps 'do' block 'end'`
  abbrev pub IsGenericFor : Place → Place → Binds → Exprs → Block → Type 0
  IsGenericFor p q names values body =
      (a b c d : Place) × Takes s.For p a × AreBinds a b names × Takes s.In b c
      × expressions.AreExpressions rules inner c d values × IsDo d q body

  -- `'for' bind '=' exp ',' exp [',' exp] 'do' block 'end'`
  abbrev pub IsNumericFor : Place → Place → Bind → Expr → Expr → MaybeExpr → Block → Type 0
  IsNumericFor p q x from to step body =
      (a b c d e f g : Place) × Takes s.For p a × expressions.IsBind rules inner a b x × Takes s.Assign b c
      × inner.exp c d from × Takes s.Comma d e × inner.exp e f to × IsStep f g step × IsDo g q body

  abbrev mutual
    -- `NAME {'.' NAME}`, as the expression that it spells
    pub IsPath : Place → Place → Expr → Type 0
    IsPath p q (tree.the_expr id span kind) = (id ≡ 0) × (span ≡ over p q) × IsPathForm p q kind

    pub IsPathForm : Place → Place → ExprKind → Type 0
    IsPathForm p q (tree.NameExpr name) = TakesName p q name
    IsPathForm p q (tree.Index base name) =
        (a b : Place) × IsPath p a base × Takes s.Dot a b × TakesName (raised b) q name
    IsPathForm p q _ = ⊥

  -- `[':' NAME]`, and the span of the name
  abbrev pub IsMethodName : Place → Place → Option (List ℕ) → Option Span → Type 0
  IsMethodName p q None None = (sees s.Colon p ≡ false) × (q ≡ p)
  IsMethodName p q (Some name) (Some span) =
      (a : Place) × Takes s.Colon p a × TakesName (raised a) q name × (span ≡ over a q)
  IsMethodName p q _ _ = ⊥

  -- `attrs 'function' NAME {'.' NAME} [':' NAME] body`
  abbrev pub IsFunction : Place → Place → Expr → Option (List ℕ) → tree.Body → Type 0
  IsFunction p q path method body =
      (attributes : ℕ) × (a b c d : Place) × (named : Option Span) × expressions.AreAttributes rules inner attributes p a
      × Takes s.Function a b × IsPath b c path × (sees s.Dot c ≡ false) × IsMethodName c d method named
      × expressions.IsBody rules inner named (at_level p.level d) q body

  -- `attrs 'local' 'function' NAME body`
  abbrev pub IsLocalFunction : Place → Place → Bind → tree.Body → Type 0
  IsLocalFunction p q (tree.the_bind name span tree.no_type) body =
      (attributes : ℕ) × (a b c d : Place) × expressions.AreAttributes rules inner attributes p a × Takes s.Local a b
      × Takes s.Function b c × TakesName c d name × (span ≡ over c d) × expressions.IsBody rules inner None d q body
  IsLocalFunction p q (tree.the_bind name span (tree.a_type t)) body = ⊥

  -- `['=' exps]`
  abbrev pub AreValues : Place → Place → Exprs → Type 0
  AreValues p q values =
      ((sees s.Assign p ≡ false) × (q ≡ p) × (values ≡ tree.no_exprs))
      ⊎ ((a : Place) × Takes s.Assign p a × expressions.AreExpressions rules inner a q values)

  -- `'local' binds ['=' exps]`
  abbrev pub IsLocal : Place → Place → Binds → Exprs → Type 0
  IsLocal p q names values =
      (a b : Place) × Takes s.Local p a × (sees s.Function a ≡ false) × AreBinds a b names × AreValues b q values

  -- `['export'] 'type'`
  abbrev pub IsTypeWord : Place → Place → Bool → Type 0
  IsTypeWord p q true =
      (a : Place) × (sees_export p ≡ true) × Takes s.Name p a × TakesName a q (codes "type")
  IsTypeWord p q false = (sees_type p ≡ true) × TakesName p q (codes "type")

  -- `['export'] 'type' NAME [generics] '=' type`
  abbrev pub IsAlias : Place → Place → Bool → List ℕ → Gens → TypeSyntax → Type 0
  IsAlias p q exported name generics typ =
      (a b c d : Place) × IsTypeWord p a exported × TakesName a b name
      × types.AreGenerics rules inner true b c generics × Takes s.Assign c d × inner.typ None d q typ

  -- `['export'] 'type' 'function' NAME body`
  abbrev pub IsTypeFunction : Place → Place → Bool → List ℕ → tree.Body → Type 0
  IsTypeFunction p q exported name body =
      (a b c : Place) × IsTypeWord p a exported × Takes s.Function a b × TakesName b c name
      × expressions.IsBody rules inner None c q body

  -- `'return' [exps]`
  abbrev pub IsReturn : Place → Place → Exprs → Type 0
  IsReturn p q values =
      (a : Place) × Takes s.Return p a
      × (((expressions.begins (symbol a) ≡ false) × (q ≡ a) × (values ≡ tree.no_exprs))
      ⊎ ((expressions.begins (symbol a) ≡ true) × expressions.AreExpressions rules inner a q values))

  abbrev pub IsStatementForm : Place → Place → StatKind → Type 0
  IsStatementForm p q (tree.Assign targets values) =
      (sees_statement_word p ≡ false) × IsAssign p q targets values
  IsStatementForm p q (tree.Compound target op value) =
      (sees_statement_word p ≡ false) × (a b : Place) × (x : Symbol) × IsVariable p a target
      × (compound_of x ≡ Some op) × Takes x a b × inner.exp b q value
  -- behind a call stands no operator of a compound assignment
  IsStatementForm p q (tree.CallStat call) =
      (sees_statement_word p ≡ false) × IsOwnPrefix p q call × (is_call call ≡ true) × (compound_of (symbol q) ≡ None)
  IsStatementForm p q (tree.Do body) = IsDo p q body
  IsStatementForm p q (tree.While cond body) =
      (a b : Place) × Takes s.While p a × inner.exp a b cond × IsDo b q body
  IsStatementForm p q (tree.Repeat body cond) =
      (a b c : Place) × Takes s.Repeat p a × inner.block a b body × Takes s.Until b c × inner.exp c q cond
  IsStatementForm p q (tree.If arms last) = IsIf p q arms last
  IsStatementForm p q (tree.NumFor bind from to step body) = IsNumericFor p q bind from to step body
  IsStatementForm p q (tree.GenFor binds values body) = IsGenericFor p q binds values body
  IsStatementForm p q (tree.FunctionStat path method body) = IsFunction p q path method body
  IsStatementForm p q (tree.LocalFunction name body) = IsLocalFunction p q name body
  IsStatementForm p q (tree.Local binds values) = IsLocal p q binds values
  IsStatementForm p q (tree.TypeAlias exported name generics typ) = IsAlias p q exported name generics typ
  IsStatementForm p q (tree.TypeFunction exported name body) = IsTypeFunction p q exported name body
  IsStatementForm p q (tree.Return values) = IsReturn p q values
  IsStatementForm p q tree.Break = Takes s.Break p q
  IsStatementForm p q tree.Continue = (sees_continue p ≡ true) × TakesName p q (codes "continue")

  abbrev pub IsStatement : Place → Place → Stat → Type 0
  IsStatement p q (tree.the_stat span kind) = (span ≡ over p q) × IsStatementForm p q kind

  -- `[';']`
  abbrev pub IsSemicolon : Place → Place → Type 0
  IsSemicolon p q = Takes s.Semicolon p q ⊎ ((sees s.Semicolon p ≡ false) × (q ≡ p))

  abbrev mutual
    -- `{stat [';']} [last [';']]`
    pub IsBlock : Place → Place → Block → Type 0
    IsBlock p q tree.no_stats = (begins (symbol p) ≡ false) × (q ≡ p)
    IsBlock p q (tree.more_stats x xs) =
        (a b : Place) × IsStatement p a x × IsSemicolon a b × IsBlockBehind (is_last x) b q xs

    -- what stands behind a statement, which may be the last
    pub IsBlockBehind : Bool → Place → Place → Block → Type 0
    IsBlockBehind true p q tree.no_stats = q ≡ p
    IsBlockBehind true p q (tree.more_stats x xs) = ⊥
    IsBlockBehind false p q tree.no_stats = (begins (symbol p) ≡ false) × (q ≡ p)
    IsBlockBehind false p q (tree.more_stats x xs) =
        (a b : Place) × IsStatement p a x × IsSemicolon a b × IsBlockBehind (is_last x) b q xs

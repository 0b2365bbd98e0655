-- The tree of a module as plain data: what contracts say of trees, they say of this one.
-- A type that holds itself has a list of its own, since it can't hold itself inside another type.
use Rattle.std.specs.Prelude.{ℕ, Bool, List, Option}
use Rattle.luau_tree.specs.declared.position.Span.{Span}
use Rattle.luau_tree.specs.declared.names.UnOp.{UnOp}
use Rattle.luau_tree.specs.declared.names.BinOp.{BinOp}
use Rattle.luau_tree.specs.declared.names.Access.{Access}

mutual
  -- statements in the order of the text
  pub data Block : Type 0 where
    no_stats : Block
    more_stats : Stat → Block → Block

  pub data Stat : Type 0 where
    the_stat : (span : Span) (kind : StatKind) → Stat

  pub data StatKind : Type 0 where
    Assign : (targets values : Exprs) → StatKind
    Compound : (target : Expr) (op : BinOp) (value : Expr) → StatKind
    CallStat : (call : Expr) → StatKind
    Do : (body : Block) → StatKind
    While : (cond : Expr) (body : Block) → StatKind
    Repeat : (body : Block) (cond : Expr) → StatKind
    If : (arms : Arms) (last : MaybeBlock) → StatKind
    NumFor : (bind : Bind) (from to : Expr) (step : MaybeExpr) (body : Block) → StatKind
    GenFor : (binds : Binds) (values : Exprs) (body : Block) → StatKind
    FunctionStat : (path : Expr) (method : Option (List ℕ)) (body : Body) → StatKind
    LocalFunction : (name : Bind) (body : Body) → StatKind
    Local : (binds : Binds) (values : Exprs) → StatKind
    TypeAlias : (exported : Bool) (name : List ℕ) (generics : Gens) (typ : TypeSyntax) → StatKind
    TypeFunction : (exported : Bool) (name : List ℕ) (body : Body) → StatKind
    Return : (values : Exprs) → StatKind
    Break : StatKind
    Continue : StatKind

  pub data Arms : Type 0 where
    no_arms : Arms
    more_arms : (cond : Expr) (block : Block) → Arms → Arms

  pub data MaybeBlock : Type 0 where
    no_block : MaybeBlock
    a_block : Block → MaybeBlock

  pub data Expr : Type 0 where
    the_expr : (id : ℕ) (span : Span) (kind : ExprKind) → Expr

  pub data Exprs : Type 0 where
    no_exprs : Exprs
    more_exprs : Expr → Exprs → Exprs

  pub data MaybeExpr : Type 0 where
    no_expr : MaybeExpr
    an_expr : Expr → MaybeExpr

  pub data ExprKind : Type 0 where
    NilExpr : ExprKind
    TrueExpr : ExprKind
    FalseExpr : ExprKind
    NumberExpr : (text : List ℕ) → ExprKind
    StrExpr : (bytes : List ℕ) → ExprKind
    Vararg : ExprKind
    FunctionExpr : (body : Body) → ExprKind
    NameExpr : (name : List ℕ) → ExprKind
    Index : (base : Expr) (name : List ℕ) → ExprKind
    At : (base key : Expr) → ExprKind
    Call : (callee : Expr) (args : Exprs) → ExprKind
    Method : (base : Expr) (name : List ℕ) (name_span : Span) (args : Exprs) → ExprKind
    Paren : (e : Expr) → ExprKind
    Unary : (op : UnOp) (e : Expr) → ExprKind
    Binary : (op : BinOp) (left right : Expr) → ExprKind
    IfElse : (arms : Choices) (last : Expr) → ExprKind
    TableExpr : (items : Items) → ExprKind
    Interp : (texts : List (List ℕ)) (parts : Exprs) → ExprKind
    Assert : (e : Expr) (typ : TypeSyntax) → ExprKind

  pub data Choices : Type 0 where
    no_choices : Choices
    more_choices : (cond value : Expr) → Choices → Choices

  pub data Item : Type 0 where
    Field : (name : List ℕ) (value : Expr) → Item
    Keyed : (key value : Expr) → Item
    Plain : (value : Expr) → Item

  pub data Items : Type 0 where
    no_items : Items
    more_items : Item → Items → Items

  pub data Body : Type 0 where
    the_body : (id : ℕ) (has_self : Bool) (generics : Gens) (params : Binds) (vararg : Varargs) (result : MaybeType) (block : Block) (span : Span) → Body

  -- whether a body takes more arguments than its parameters, and the type that is written for them
  pub data Varargs : Type 0 where
    no_varargs : Varargs
    varargs : MaybeType → Varargs

  pub data Bind : Type 0 where
    the_bind : (name : List ℕ) (span : Span) (typ : MaybeType) → Bind

  pub data Binds : Type 0 where
    no_binds : Binds
    more_binds : Bind → Binds → Binds

  pub data Gen : Type 0 where
    the_gen : (name : List ℕ) (span : Span) (pack : Bool) (default : MaybeType) → Gen

  pub data Gens : Type 0 where
    no_gens : Gens
    more_gens : Gen → Gens → Gens

  pub data TypeSyntax : Type 0 where
    the_type : (span : Span) (kind : TypeKind) → TypeSyntax

  pub data TypeSyntaxes : Type 0 where
    no_types : TypeSyntaxes
    more_types : TypeSyntax → TypeSyntaxes → TypeSyntaxes

  pub data MaybeType : Type 0 where
    no_type : MaybeType
    a_type : TypeSyntax → MaybeType

  pub data TypeKind : Type 0 where
    NilType : TypeKind
    BoolType : (truth : Bool) → TypeKind
    StrType : (bytes : List ℕ) → TypeKind
    Named : (prefix : Option (List ℕ)) (name : List ℕ) (args : TypeSyntaxes) → TypeKind
    Typeof : (e : Expr) → TypeKind
    Array : (item : TypeSyntax) → TypeKind
    TableType : (props : Props) → TypeKind
    Func : (generics : Gens) (params : TypeSyntaxes) (result : TypeSyntax) → TypeKind
    Union : (types : TypeSyntaxes) → TypeKind
    Meet : (types : TypeSyntaxes) → TypeKind
    Optional : (typ : TypeSyntax) → TypeKind
    Pack : (types : TypeSyntaxes) → TypeKind
    Variadic : (typ : TypeSyntax) → TypeKind
    GenericPack : (name : List ℕ) → TypeKind

  pub data Prop : Type 0 where
    the_prop : (access : Access) (key : PropKey) (typ : TypeSyntax) → Prop

  pub data Props : Type 0 where
    no_props : Props
    more_props : Prop → Props → Props

  pub data PropKey : Type 0 where
    NameKey : (name : List ℕ) → PropKey
    Indexer : (key : TypeSyntax) → PropKey

-- A tree that has each form of syntax with several parts, to try definitions of trees on. Each expression has the number
-- that the order of the text gives it, and each declared name is the one byte of its number.
use Rattle.std.specs.Prelude.{ℕ, [], ◌∷◌, None, false, true}
use Rattle.luau_tree.specs.declared.names.Access.TheVariants.{Both}
use Rattle.luau_tree.specs.declared.names.BinOp.TheVariants.{Add}
use Rattle.luau_tree.specs.declared.names.UnOp.TheVariants.{Minus}
use Rattle.luau_tree.specs.declared.position.Span.{Span}
use Rattle.luau_tree.specs.Tree.{Block, no_stats, more_stats, Stat, the_stat, StatKind, Assign, Compound, CallStat, Do, While, Repeat, If, NumFor, GenFor, FunctionStat, LocalFunction, Local, TypeAlias, TypeFunction, Return, no_arms, more_arms, a_block}
use Rattle.luau_tree.specs.Tree.{Expr, the_expr, Exprs, no_exprs, more_exprs, an_expr, ExprKind, FunctionExpr, NameExpr, Index, At, Call, Method, Paren, Unary, Binary, IfElse, TableExpr, Interp, Assert, no_choices, more_choices, Field, Keyed, Plain, no_items, more_items}
use Rattle.luau_tree.specs.Tree.{Body, the_body, varargs, no_varargs, Bind, the_bind, no_binds, more_binds, the_gen, Gens, no_gens, more_gens}
use Rattle.luau_tree.specs.Tree.{TypeSyntax, the_type, no_types, more_types, MaybeType, no_type, a_type, TypeKind, Named, Typeof, Array, TableType, Func, Union, Meet, Optional, Pack, Variadic, the_prop, no_props, more_props, NameKey, Indexer}

abbrev somewhere : Span
somewhere = record { start = 0; end = 0 }

abbrev stat : StatKind → Stat
stat kind = the_stat somewhere kind

abbrev expr : ℕ → ExprKind → Expr
expr n kind = the_expr n somewhere kind

abbrev typ : TypeKind → TypeSyntax
typ kind = the_type somewhere kind

-- a name
abbrev name : ℕ → Expr
name n = expr n (NameExpr [])

-- one expression
abbrev one : Expr → Exprs
one e = more_exprs e no_exprs

-- a block that calls a name
abbrev calling : ℕ → Block
calling n = more_stats (stat (CallStat (name n))) no_stats

-- `typeof` of a name
abbrev type_at : ℕ → TypeSyntax
type_at n = typ (Typeof (name n))

-- a declared name, maybe with a type
abbrev bind : ℕ → MaybeType → Bind
bind n written = the_bind (n ∷ []) somewhere written

-- a generic with a default
abbrev generic : ℕ → Gens
generic n = more_gens (the_gen [] somewhere false (a_type (type_at n))) no_gens

-- a body without parameters and types, which calls a name
abbrev body : ℕ → ℕ → Body
body id n = the_body id false no_gens no_binds no_varargs no_type (calling n) somewhere

abbrev values : Exprs
values =
    more_exprs (expr 0 (At (name 1) (name 2)))
    (more_exprs (expr 3 (Index (name 4) []))
    (more_exprs (expr 5 (Method (name 6) [] somewhere (one (name 7))))
    (more_exprs (expr 8 (Binary Add (name 9) (expr 10 (Unary Minus (name 11)))))
    (more_exprs (expr 12 (IfElse (more_choices (name 13) (name 14) (more_choices (name 15) (name 16) no_choices)) (name 17)))
    (more_exprs (expr 18 (TableExpr (more_items (Field [] (name 19)) (more_items (Keyed (name 20) (name 21)) (more_items (Plain (name 22)) no_items)))))
    (more_exprs (expr 23 (Interp [] (one (name 24))))
    (more_exprs (expr 25 (Assert (expr 26 (Paren (name 27))) (type_at 28)))
    (more_exprs (expr 29 (Call (name 30) (more_exprs (name 31) (one (expr 32 (FunctionExpr (body 0 33)))))))
    no_exprs))))))))

abbrev types : TypeKind
types =
    Union (more_types (typ (Func (generic 34) (more_types (type_at 35) no_types) (typ (Pack (more_types (type_at 36) no_types)))))
    (more_types (typ (TableType (more_props (the_prop Both (Indexer (type_at 37)) (type_at 38)) (more_props (the_prop Both (NameKey []) (typ (Array (type_at 39)))) no_props))))
    (more_types (typ (Meet (more_types (typ (Optional (type_at 40))) (more_types (typ (Named None [] (more_types (typ (Variadic (type_at 41))) no_types))) no_types))))
    no_types)))

-- the tree, with the statements in an order of their own
abbrev pub sample : Block
sample =
    more_stats (stat (Local (more_binds (bind 0 no_type) no_binds) values))
    (more_stats (stat (Local (more_binds (bind 1 (a_type (typ types))) (more_binds (bind 2 (a_type (type_at 42))) no_binds)) (one (name 43))))
    (more_stats (stat (Assign (one (name 44)) (one (name 45))))
    (more_stats (stat (Compound (name 46) Add (name 47)))
    (more_stats (stat (While (name 48) (more_stats (stat (Do (calling 49))) no_stats)))
    (more_stats (stat (Repeat (calling 50) (name 51)))
    (more_stats (stat (If (more_arms (name 52) (calling 53) (more_arms (name 54) (calling 55) no_arms)) (a_block (calling 56))))
    (more_stats (stat (NumFor (bind 3 (a_type (type_at 57))) (name 58) (name 59) (an_expr (name 60)) (calling 61)))
    (more_stats (stat (GenFor (more_binds (bind 4 (a_type (type_at 62))) no_binds) (one (name 63)) (calling 64)))
    (more_stats (stat (FunctionStat (name 65) None (the_body 1 true (generic 66) (more_binds (bind 5 no_type) (more_binds (bind 6 (a_type (type_at 67))) no_binds)) (varargs (a_type (type_at 68))) (a_type (type_at 69)) (calling 70) somewhere)))
    (more_stats (stat (LocalFunction (bind 7 no_type) (body 2 71)))
    (more_stats (stat (TypeAlias true [] (generic 72) (type_at 73)))
    (more_stats (stat (TypeFunction false [] (body 3 74)))
    (more_stats (stat (Return (one (name 75))))
    no_stats)))))))))))))

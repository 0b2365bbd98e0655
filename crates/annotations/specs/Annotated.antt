-- What the types that are written for parameters mean in a module, each at its place.
use Rattle.std.specs.Prelude.{ℕ, Bool, ◌==◌, List, [], ◌∷◌, ◌++◌, slice_index_or}
use Rattle.std.specs.Option.{option_map_or}
use Rattle.std.specs.List.{find}
use Rattle.luau_tree.specs.Tree.{Block, no_stats, more_stats, the_stat, StatKind, Assign, Compound, CallStat, Do, While, Repeat, If, NumFor, GenFor, FunctionStat, LocalFunction, Local, TypeAlias, TypeFunction, Return, Break, Continue, Arms, no_arms, more_arms, MaybeBlock, no_block, a_block, Expr, the_expr, Exprs, no_exprs, more_exprs, MaybeExpr, no_expr, an_expr, ExprKind, NilExpr, TrueExpr, FalseExpr, NumberExpr, StrExpr, Vararg, FunctionExpr, NameExpr, Index, At, Call, Method, Paren, Unary, Binary, IfElse, TableExpr, Interp, Assert, Choices, no_choices, more_choices, Item, Field, Keyed, Plain, Items, no_items, more_items, Body, the_body, the_bind, Binds, no_binds, more_binds, the_gen, Gens, no_gens, more_gens, MaybeType, no_type, a_type}
use Rattle.luau_values.specs.Value.{Value}
use Rattle.luau_values.specs.Heap.{Heap}
use Rattle.type_arena.specs.Term.{Term}
use Rattle.type_normal.specs.Kinds.{unknown}
use Rattle.type_normal.specs.Holds.{holds}
use Rattle.annotations.specs.Lowered.{Known, with_name, lowered, alias_type}

-- a function's body with the types of its parameters
pub record Annotated : Type 0 where
  pub function : ℕ
  pub params : List Term

-- the type of a parameter: unknown, where none is written
abbrev pub written_type : List Known → MaybeType → Term
written_type known no_type = unknown
written_type known (a_type type) = lowered known type

abbrev pub param_types : List Known → Binds → List Term
param_types known no_binds = []
param_types known (more_binds (the_bind name span type) rest) = written_type known type ∷ param_types known rest

-- the visible names after the generics of a function, each of which means unknown
abbrev pub with_generics : Gens → List Known → List Known
with_generics no_gens known = known
with_generics (more_gens (the_gen name span pack default) rest) known = with_generics rest (with_name name unknown known)

-- the visible names after a statement: an alias counts from its place on
abbrev pub known_behind : StatKind → List Known → List Known
known_behind (TypeAlias exported name generics type) known = with_name name (alias_type known generics type) known
known_behind _ known = known

-- the bodies in each form of syntax, with the types of their parameters, by what the visible names mean. A block's aliases
-- are visible in it alone, and those of a `repeat` not in its condition. Bodies inside written types are never called
abbrev mutual
  pub in_block : List Known → Block → List Annotated
  in_block known no_stats = []
  in_block known (more_stats (the_stat span kind) rest) = in_stat known kind ++ in_block (known_behind kind known) rest

  pub in_stat : List Known → StatKind → List Annotated
  in_stat known (Assign targets values) = in_exprs known targets ++ in_exprs known values
  in_stat known (Compound target op e) = in_expr known target ++ in_expr known e
  in_stat known (CallStat e) = in_expr known e
  in_stat known (Do body) = in_block known body
  in_stat known (While cond body) = in_expr known cond ++ in_block known body
  in_stat known (Repeat body cond) = in_block known body ++ in_expr known cond
  in_stat known (If arms last) = in_arms known arms ++ in_maybe_block known last
  in_stat known (NumFor bind from to step body) = in_expr known from ++ in_expr known to ++ in_maybe_expr known step ++ in_block known body
  in_stat known (GenFor binds values body) = in_exprs known values ++ in_block known body
  in_stat known (FunctionStat path method body) = in_expr known path ++ in_body known body
  in_stat known (LocalFunction name body) = in_body known body
  in_stat known (Local binds values) = in_exprs known values
  in_stat known (TypeAlias exported name generics type) = []
  in_stat known (TypeFunction exported name body) = []
  in_stat known (Return values) = in_exprs known values
  in_stat known Break = []
  in_stat known Continue = []

  pub in_arms : List Known → Arms → List Annotated
  in_arms known no_arms = []
  in_arms known (more_arms cond body rest) = in_expr known cond ++ in_block known body ++ in_arms known rest

  pub in_maybe_block : List Known → MaybeBlock → List Annotated
  in_maybe_block known no_block = []
  in_maybe_block known (a_block body) = in_block known body

  pub in_expr : List Known → Expr → List Annotated
  in_expr known (the_expr id span kind) = in_expr_kind known kind

  pub in_exprs : List Known → Exprs → List Annotated
  in_exprs known no_exprs = []
  in_exprs known (more_exprs e rest) = in_expr known e ++ in_exprs known rest

  pub in_maybe_expr : List Known → MaybeExpr → List Annotated
  in_maybe_expr known no_expr = []
  in_maybe_expr known (an_expr e) = in_expr known e

  pub in_expr_kind : List Known → ExprKind → List Annotated
  in_expr_kind known NilExpr = []
  in_expr_kind known TrueExpr = []
  in_expr_kind known FalseExpr = []
  in_expr_kind known (NumberExpr text) = []
  in_expr_kind known (StrExpr bytes) = []
  in_expr_kind known Vararg = []
  in_expr_kind known (FunctionExpr body) = in_body known body
  in_expr_kind known (NameExpr name) = []
  in_expr_kind known (Index base name) = in_expr known base
  in_expr_kind known (At base key) = in_expr known base ++ in_expr known key
  in_expr_kind known (Call callee args) = in_expr known callee ++ in_exprs known args
  in_expr_kind known (Method base name span args) = in_expr known base ++ in_exprs known args
  in_expr_kind known (Paren e) = in_expr known e
  in_expr_kind known (Unary op e) = in_expr known e
  in_expr_kind known (Binary op left right) = in_expr known left ++ in_expr known right
  in_expr_kind known (IfElse arms last) = in_choices known arms ++ in_expr known last
  in_expr_kind known (TableExpr items) = in_items known items
  in_expr_kind known (Interp texts parts) = in_exprs known parts
  in_expr_kind known (Assert e type) = in_expr known e

  pub in_choices : List Known → Choices → List Annotated
  in_choices known no_choices = []
  in_choices known (more_choices cond e rest) = in_expr known cond ++ in_expr known e ++ in_choices known rest

  pub in_items : List Known → Items → List Annotated
  in_items known no_items = []
  in_items known (more_items item rest) = in_item known item ++ in_items known rest

  pub in_item : List Known → Item → List Annotated
  in_item known (Field name e) = in_expr known e
  in_item known (Keyed key e) = in_expr known key ++ in_expr known e
  in_item known (Plain e) = in_expr known e

  -- a body's parameters, and its block, see the body's generics
  pub in_body : List Known → Body → List Annotated
  in_body known (the_body id has_self generics params vararg result body span) =
      record { function = id; params = param_types (with_generics generics known) params } ∷ in_block (with_generics generics known) body

-- the type at a position, unknown behind the last
abbrev pub type_at : ℕ → List Term → Term
type_at index types = slice_index_or types index unknown

-- the type that is written for a parameter of a body of a module, unknown where none is
abbrev pub annotation : Block → (function index : ℕ) → Term
annotation block function index = option_map_or (λ a. type_at index a.params) (find (λ a. a.function == function) (in_block [] block)) unknown

-- what the annotation of a parameter says of an argument: whether it is a value of the type
abbrev pub annotated : Block → (function index : ℕ) → Heap → Value → Bool
annotated block function index heap value = holds heap value (annotation block function index)

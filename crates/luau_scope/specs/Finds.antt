-- What is found in each piece of a module, in the order of the text: by recursion on the tree, with what is around.
use Rattle.std.specs.Prelude.{ℕ, ◌+◌, ◌-◌, ◌&&◌, ◌||◌, not, Bool, true, false, List, [], ◌∷◌, ◌++◌, length, Option, Some, None, if◌then◌else◌, nat_le, nat_lt, ◌==◌}
use Rattle.std.specs.Option.{is_some}
use Rattle.std.specs.List.{list_any}
use Rattle.luau_tree.specs.declared.position.Span.{Span}
use Rattle.luau_tree.specs.declared.names.ExprId.{ExprId}
use Rattle.luau_tree.specs.declared.names.FnId.{FnId}
use Rattle.luau_tree.specs.Tree.{Block, no_stats, more_stats, Stat, the_stat, StatKind, Assign, Compound, CallStat, Do, While, Repeat, If, NumFor, GenFor, FunctionStat, LocalFunction, Local, TypeAlias, TypeFunction, Return, Break, Continue, Arms, no_arms, more_arms, MaybeBlock, no_block, a_block, Expr, the_expr, Exprs, no_exprs, more_exprs, MaybeExpr, no_expr, an_expr, ExprKind, NilExpr, TrueExpr, FalseExpr, NumberExpr, StrExpr, Vararg, FunctionExpr, NameExpr, Index, At, Call, Method, Paren, Unary, Binary, IfElse, TableExpr, Interp, Assert, Choices, no_choices, more_choices, Item, Field, Keyed, Plain, Items, no_items, more_items, Body, the_body, Varargs, no_varargs, varargs, Bind, the_bind, Binds, no_binds, more_binds, Gen, the_gen, Gens, no_gens, more_gens, TypeSyntax, the_type, TypeSyntaxes, no_types, more_types, MaybeType, no_type, a_type, TypeKind, NilType, BoolType, StrType, Named, Typeof, Array, TableType, Func, Union, Meet, Optional, Pack, Variadic, GenericPack as PackName, Prop, the_prop, Props, no_props, more_props, PropKey, NameKey, Indexer}
use Rattle.luau_scope.specs.declared.reading.Use.{Use}
use Rattle.luau_scope.specs.declared.reading.Use.TheVariants.{Local as LocalUse, Builtin, Library, Global}
use Rattle.luau_scope.specs.declared.refusal.Refusal.{Refusal}
use Rattle.luau_scope.specs.declared.refusal.Refusal.TheVariants.{TypeFunction as TypeFunctionRefused, GenericPack, AssignedBuiltin, RepeatedTarget, TooManyLocals, BreakOutsideLoop, ContinueOutsideLoop, ContinuePastLocal, VarargOutside}
use Rattle.luau_scope.specs.Names.{is_one_of, dotted, is_library, banned_alone, is_require, is_way}
use Rattle.luau_scope.specs.Found.{Found, Declares, Means, Captures, Assigns, RequiresModule, Continues, Refuses, declarations, Part, nothing, one, ◌then◌, Visible, Scope, Loop, NoLoop, RepeatLoop, OtherLoop, Around, meant, same_function}

-- ## Parts of a node

-- the number, the span and the kind of an expression
abbrev pub id_of : Expr → ExprId
id_of (the_expr id span kind) = record { 0 = id }

abbrev pub span_of : Expr → Span
span_of (the_expr id span kind) = span

abbrev pub kind_of : Expr → ExprKind
kind_of (the_expr id span kind) = kind

-- the name that is declared, and its span
abbrev pub declared_name : Bind → List ℕ
declared_name (the_bind name span typ) = name

abbrev pub declared_span : Bind → Span
declared_span (the_bind name span typ) = span

-- ## Names

-- what a global stands for
abbrev pub global_use : List (List ℕ) → List ℕ → Use
global_use paths name = if is_one_of paths name then Builtin name else if is_library paths name then Library else Global

-- whether a name is a global: no local of the name is in scope
abbrev pub is_global : Around → List ℕ → Bool
is_global around name = not (is_some (meant around.scope name))

-- whether a name is a global that is a builtin or a library
abbrev pub is_fixed : Around → List ℕ → Bool
is_fixed around name = is_global around name && (is_one_of around.paths name || is_library around.paths name)

-- a refusal, where there is a reason
abbrev pub refused : Option Refusal → Span → Part
refused None at = nothing
refused (Some why) at = one (Refuses why at)

-- a refusal, where a test holds
abbrev pub refused_if : Bool → Refusal → Span → Part
refused_if true why at = one (Refuses why at)
refused_if false why at = nothing

-- the use of a local, which captures it in another body than the one that declares it
abbrev pub of_local : Around → ExprId → (local : ℕ) (function : Option FnId) → Part
of_local around at local function =
    one (Means at (LocalUse (record { 0 = local }))) then (if same_function function around.function then nothing else one (Captures local))

-- a name, by the local that it means: without one it is a global
abbrev pub of_meant : Around → ExprId → Span → List ℕ → Option Visible → Part
of_meant around at span name None = one (Means at (global_use around.paths name)) then refused (banned_alone name) span
of_meant around at span name (Some v) = of_local around at v.local v.function

abbrev pub of_name : Around → ExprId → Span → List ℕ → Part
of_name around at span name = of_meant around at span name (meant around.scope name)

-- a field of a name, which is a builtin where the name is a global and the two are a builtin's path
abbrev pub of_path : Around → ExprId → (base : ExprKind) (field : List ℕ) → Part
of_path around at (NameExpr name) field =
    if is_global around name && is_one_of around.paths (dotted name field) then one (Means at (Builtin (dotted name field))) else nothing
of_path around at _ field = nothing

-- the string that an expression is
abbrev pub string_of : ExprKind → Option (List ℕ)
string_of (StrExpr text) = Some text
string_of _ = None

-- the only one of some arguments, if it is a string
abbrev pub only_string : Exprs → Option (List ℕ)
only_string (more_exprs e no_exprs) = string_of (kind_of e)
only_string _ = None

-- a string, if it is a way to a module
abbrev pub way_in : Option (List ℕ) → Option (List ℕ)
way_in None = None
way_in (Some text) = if is_way text then Some text else None

-- whether an expression is the global that loads modules
abbrev pub loads_modules : Around → ExprKind → Bool
loads_modules around (NameExpr name) = is_require name && is_global around name && not (is_fixed around name)
loads_modules around _ = false

-- the way to a module that a call's only argument is, where its callee is the global `require`
abbrev pub required_way : Around → (callee : ExprKind) (args : Exprs) → Option (List ℕ)
required_way around callee args = if loads_modules around callee then way_in (only_string args) else None

-- what a static require is, besides its arguments: the call, and its callee as a global that is not refused
abbrev pub of_static : (way : Option (List ℕ)) (at : ExprId) (span : Span) (callee : ExprId) → Part
of_static None at span callee = nothing
of_static (Some text) at span callee = one (RequiresModule (record { at = at; span = span; text = text })) then one (Means callee Global)

-- a part, unless a test holds
abbrev pub unless : Bool → Part → Part
unless true part = nothing
unless false part = part

-- ## Assignments

-- the local that an expression is
abbrev pub local_of : Around → ExprKind → Option Visible
local_of around (NameExpr name) = meant around.scope name
local_of around _ = None

-- its number, in a list
abbrev pub number_of : Option Visible → List ℕ
number_of None = []
number_of (Some v) = v.local ∷ []

-- the local that a target is, in a list
abbrev pub target_local : Around → Expr → List ℕ
target_local around e = number_of (local_of around (kind_of e))

-- whether a name is a builtin's or a library's
abbrev pub names_builtin : Around → ExprKind → Bool
names_builtin around (NameExpr name) = is_fixed around name
names_builtin around _ = false

-- whether an expression is a builtin or a library, or a field of one
abbrev pub touches_builtin : Around → ExprKind → Bool
touches_builtin around (NameExpr name) = is_fixed around name
touches_builtin around (Index base field) = names_builtin around (kind_of base)
touches_builtin around _ = false

-- an assignment to a local, after those to others in the same statement
abbrev pub assigned : List ℕ → Option Visible → Span → Part
assigned earlier None span = nothing
assigned earlier (Some v) span = one (Assigns v.local) then refused_if (list_any (λ n. n == v.local) earlier) RepeatedTarget span

-- a target of an assignment, apart from what is found in it as an expression
abbrev pub aimed : Around → (earlier : List ℕ) → Expr → Part
aimed around earlier e =
    refused_if (touches_builtin around (kind_of e)) AssignedBuiltin (span_of e)
    then assigned earlier (local_of around (kind_of e)) (span_of e)

-- the name of a function statement is a target, but with a method it is the method that is one
abbrev pub named_function : Around → Expr → (method : Option (List ℕ)) → Part
named_function around path None = aimed around [] path
named_function around path (Some method) = refused_if (names_builtin around (kind_of path)) AssignedBuiltin (span_of path)

-- ## Declarations

-- a local with a name and a number, of the body around
abbrev pub local_here : Around → List ℕ → (number : ℕ) → Visible
local_here around name number = record { name = name; local = number; function = around.function }

-- the same with another scope
abbrev pub in_scope : Around → Scope → Around
in_scope around scope = record around { scope = scope }

-- with a loop around
abbrev pub in_loop : Around → Loop → Around
in_loop around loop = record around { loop = loop }

-- a declaration, apart from what is written of its type
abbrev pub declared_as : Around → (given : Option ExprId) → Bind → Part
declared_as around given bind = one (Declares (declared_name bind) (declared_span bind) around.function given)

-- the scope with a declared local more, where so many are declared before it
abbrev pub with_bind : Around → Bind → (before : ℕ) → Scope
with_bind around bind before = around.scope ++ local_here around (declared_name bind) before ∷ []

-- within a body: `...` is taken if that takes it, and all locals in scope are from outside
abbrev pub in_body : Around → (id : ℕ) → Varargs → Around
in_body around id vararg = record around {
  function = Some (record { 0 = id });
  takes = elim vararg [ no_varargs ↦ false | varargs typ ↦ true ];
  outside = length around.scope;
  loop = NoLoop;
}

-- how many locals of the body itself are in scope
abbrev pub own_locals : Around → ℕ
own_locals around = length around.scope - around.outside

-- a local that comes into scope, where so many of the body are there
abbrev pub of_entry : (own : ℕ) → Span → Part
of_entry own span = refused_if (nat_le 200 own) TooManyLocals span

-- several locals that come into scope
abbrev pub of_entries : (own : ℕ) → Binds → Part
of_entries own no_binds = nothing
of_entries own (more_binds bind rest) = of_entry own (declared_span bind) then of_entries (own + 1) rest

-- the first of some values, by its number, and the others
abbrev pub first_value : Exprs → Option ExprId
first_value no_exprs = None
first_value (more_exprs e rest) = Some (id_of e)

abbrev pub other_values : Exprs → Exprs
other_values no_exprs = no_exprs
other_values (more_exprs e rest) = rest

-- ## Loops

-- `break` and `continue`
abbrev pub of_break : Loop → Span → Part
of_break NoLoop span = one (Refuses BreakOutsideLoop span)
of_break _ span = nothing

abbrev pub of_continue : Loop → Span → Part
of_continue NoLoop span before = Refuses ContinueOutsideLoop span ∷ []
of_continue RepeatLoop span before = Continues span before ∷ []
of_continue OtherLoop span before = []

-- what is found in the body of a `repeat`, but for its own `continue`s
abbrev pub without_continues : List Found → List Found
without_continues [] = []
without_continues (Continues at before ∷ found) = without_continues found
without_continues (other ∷ found) = other ∷ without_continues found

-- whether a local with a number from the first on and below the second is used
abbrev pub uses_between : (from to : ℕ) → List Found → Bool
uses_between from to [] = false
uses_between from to (Means at (LocalUse local) ∷ found) = (nat_le from local.0 && nat_lt local.0 to) || uses_between from to found
uses_between from to (other ∷ found) = uses_between from to found

-- the `continue`s of a body that stand before the declaration of a local that the `until` uses, where so many locals
-- are declared before the `until`
abbrev pub past_locals : (body until : List Found) (declared : ℕ) → List Found
past_locals [] until declared = []
past_locals (Continues at before ∷ found) until declared =
    (if uses_between before declared until then Refuses ContinuePastLocal at ∷ [] else []) ++ past_locals found until declared
past_locals (other ∷ found) until declared = past_locals found until declared

-- what is found in a `repeat`, from what is found in its body and in its `until`
abbrev pub of_repeat : (body until : List Found) (declared : ℕ) → List Found
of_repeat body until declared = without_continues body ++ (until ++ past_locals body until declared)

-- ## The tree

abbrev mutual
  pub of_block : Around → Block → Part
  of_block around no_stats before = []
  of_block around (more_stats stat rest) before = (of_stat around stat then of_block (in_scope around (behind around stat before)) rest) before

  -- the scope behind a statement: with the locals that it declares
  pub behind : Around → Stat → (before : ℕ) → Scope
  behind around (the_stat span kind) before = behind_kind around kind before

  pub behind_kind : Around → StatKind → (before : ℕ) → Scope
  behind_kind around (LocalFunction bind body) before = with_bind around bind before
  behind_kind around (Local binds values) before = around.scope ++ numbered around binds before
  behind_kind around _ before = around.scope

  -- behind all statements of a block
  pub behind_block : Around → Block → (before : ℕ) → Scope
  behind_block around no_stats before = around.scope
  behind_block around (more_stats stat rest) before =
      behind_block (in_scope around (behind around stat before)) rest (before + declarations (of_stat around stat before))

  -- the locals of a list of declarations: each has the number of locals that are declared before it
  pub numbered : Around → Binds → (before : ℕ) → List Visible
  numbered around no_binds before = []
  numbered around (more_binds bind rest) before =
      local_here around (declared_name bind) before ∷ numbered around rest (before + declarations (of_bind around None bind before))

  pub of_stat : Around → Stat → Part
  of_stat around (the_stat span kind) = of_stat_kind around span kind

  pub of_stat_kind : Around → Span → StatKind → Part
  of_stat_kind around span (Assign targets values) before = (of_targets around [] targets then of_exprs around values) before
  of_stat_kind around span (Compound target op e) before = (of_expr around target then aimed around [] target then of_expr around e) before
  of_stat_kind around span (CallStat e) before = of_expr around e before
  of_stat_kind around span (Do body) before = of_block around body before
  of_stat_kind around span (While cond body) before = (of_expr around cond then of_block (in_loop around OtherLoop) body) before
  of_stat_kind around span (Repeat body cond) before =
      let inside = of_block (in_loop around RepeatLoop) body before in
      let declared = before + declarations inside in
      of_repeat inside (of_expr (in_scope around (behind_block (in_loop around RepeatLoop) body before)) cond declared) declared
  of_stat_kind around span (If arms last) before = (of_arms around arms then of_maybe_block around last) before
  of_stat_kind around span (NumFor bind from to step body) before =
      (of_bind around None bind then of_expr around from then of_expr around to then of_maybe_expr around step
      then of_entry (own_locals around) (declared_span bind)
      then of_block (in_loop (in_scope around (with_bind around bind before)) OtherLoop) body) before
  of_stat_kind around span (GenFor binds values body) before =
      (of_binds around binds no_exprs then of_exprs around values then of_entries (own_locals around) binds
      then of_block (in_loop (in_scope around (around.scope ++ numbered around binds before)) OtherLoop) body) before
  of_stat_kind around span (FunctionStat path method body) before =
      (of_expr around path then named_function around path method then of_body around body) before
  of_stat_kind around span (LocalFunction bind body) before =
      (of_own_bind around bind then of_body (in_scope around (with_bind around bind before)) body) before
  of_stat_kind around span (Local binds values) before =
      (of_binds around binds values then of_exprs around values then of_entries (own_locals around) binds) before
  of_stat_kind around span (TypeAlias exported name generics typ) before = (of_gens around generics then of_type around typ) before
  of_stat_kind around span (TypeFunction exported name body) before = (one (Refuses TypeFunctionRefused span) then of_body around body) before
  of_stat_kind around span (Return values) before = of_exprs around values before
  of_stat_kind around span Break before = of_break around.loop span before
  of_stat_kind around span Continue before = of_continue around.loop span before

  pub of_targets : Around → (earlier : List ℕ) → Exprs → Part
  of_targets around earlier no_exprs = nothing
  of_targets around earlier (more_exprs e rest) =
      of_expr around e then aimed around earlier e then of_targets around (earlier ++ target_local around e) rest

  pub of_arms : Around → Arms → Part
  of_arms around no_arms = nothing
  of_arms around (more_arms cond body rest) = of_expr around cond then of_block around body then of_arms around rest

  pub of_maybe_block : Around → MaybeBlock → Part
  of_maybe_block around no_block = nothing
  of_maybe_block around (a_block body) = of_block around body

  -- declarations, each with the value at its position
  pub of_binds : Around → Binds → Exprs → Part
  of_binds around no_binds values = nothing
  of_binds around (more_binds bind rest) values = of_bind around (first_value values) bind then of_binds around rest (other_values values)

  pub of_bind : Around → Option ExprId → Bind → Part
  of_bind around given (the_bind name span typ) = one (Declares name span around.function given) then of_maybe_type around typ

  pub of_expr : Around → Expr → Part
  of_expr around (the_expr id span kind) = of_expr_kind around (record { 0 = id }) span kind

  pub of_exprs : Around → Exprs → Part
  of_exprs around no_exprs = nothing
  of_exprs around (more_exprs e rest) = of_expr around e then of_exprs around rest

  pub of_maybe_expr : Around → MaybeExpr → Part
  of_maybe_expr around no_expr = nothing
  of_maybe_expr around (an_expr e) = of_expr around e

  pub of_expr_kind : Around → ExprId → Span → ExprKind → Part
  of_expr_kind around at span NilExpr = nothing
  of_expr_kind around at span TrueExpr = nothing
  of_expr_kind around at span FalseExpr = nothing
  of_expr_kind around at span (NumberExpr text) = nothing
  of_expr_kind around at span (StrExpr bytes) = nothing
  of_expr_kind around at span Vararg = refused_if (not around.takes) VarargOutside span
  of_expr_kind around at span (FunctionExpr body) = of_body around body
  of_expr_kind around at span (NameExpr name) = of_name around at span name
  of_expr_kind around at span (Index base field) = of_path around at (kind_of base) field then of_expr around base
  of_expr_kind around at span (At base key) = of_expr around base then of_expr around key
  of_expr_kind around at span (Call callee args) =
      (of_static (required_way around (kind_of callee) args) at span (id_of callee)
      then unless (is_some (required_way around (kind_of callee) args)) (of_expr around callee))
      then of_exprs around args
  of_expr_kind around at span (Method base name name_span args) = of_expr around base then of_exprs around args
  of_expr_kind around at span (Paren e) = of_expr around e
  of_expr_kind around at span (Unary op e) = of_expr around e
  of_expr_kind around at span (Binary op left right) = of_expr around left then of_expr around right
  of_expr_kind around at span (IfElse arms last) = of_choices around arms then of_expr around last
  of_expr_kind around at span (TableExpr items) = of_items around items
  of_expr_kind around at span (Interp texts parts) = of_exprs around parts
  of_expr_kind around at span (Assert e typ) = of_expr around e then of_type around typ

  pub of_choices : Around → Choices → Part
  of_choices around no_choices = nothing
  of_choices around (more_choices cond e rest) = of_expr around cond then of_expr around e then of_choices around rest

  pub of_items : Around → Items → Part
  of_items around no_items = nothing
  of_items around (more_items item rest) = of_item around item then of_items around rest

  pub of_item : Around → Item → Part
  of_item around (Field name e) = of_expr around e
  of_item around (Keyed key e) = of_expr around key then of_expr around e
  of_item around (Plain e) = of_expr around e

  -- the header of a function belongs to the function, and its parameters are in scope in what follows them
  pub of_body : Around → Body → Part
  of_body around (the_body id has_self generics params vararg result block span) before =
      let inner = in_body around id vararg in
      let within = in_scope inner (behind_params inner params (before + declarations (of_gens inner generics before))) in
      (of_gens inner generics then of_params inner params
      then of_varargs within vararg then of_maybe_type within result then of_block within block) before

  -- a declaration that is in scope from its own name on
  pub of_own_bind : Around → Bind → Part
  of_own_bind around (the_bind name span typ) before =
      (one (Declares name span around.function None) then of_entry (own_locals around) span
      then of_maybe_type (in_scope around (around.scope ++ local_here around name before ∷ [])) typ) before

  -- so is each parameter
  pub of_params : Around → Binds → Part
  of_params around no_binds before = []
  of_params around (more_binds bind rest) before = (of_own_bind around bind then of_params (in_scope around (with_bind around bind before)) rest) before

  -- behind all parameters
  pub behind_params : Around → Binds → (before : ℕ) → Scope
  behind_params around no_binds before = around.scope
  behind_params around (more_binds bind rest) before =
      behind_params (in_scope around (with_bind around bind before)) rest (before + declarations (of_own_bind around bind before))

  pub of_varargs : Around → Varargs → Part
  of_varargs around no_varargs = nothing
  of_varargs around (varargs typ) = of_maybe_type around typ

  pub of_gens : Around → Gens → Part
  of_gens around no_gens = nothing
  of_gens around (more_gens gen rest) = of_gen around gen then of_gens around rest

  pub of_gen : Around → Gen → Part
  of_gen around (the_gen name span pack default) = refused_if pack GenericPack span then of_maybe_type around default

  pub of_type : Around → TypeSyntax → Part
  of_type around (the_type span kind) = of_type_kind around span kind

  pub of_types : Around → TypeSyntaxes → Part
  of_types around no_types = nothing
  of_types around (more_types typ rest) = of_type around typ then of_types around rest

  pub of_maybe_type : Around → MaybeType → Part
  of_maybe_type around no_type = nothing
  of_maybe_type around (a_type typ) = of_type around typ

  pub of_type_kind : Around → Span → TypeKind → Part
  of_type_kind around span NilType = nothing
  of_type_kind around span (BoolType truth) = nothing
  of_type_kind around span (StrType bytes) = nothing
  of_type_kind around span (Named prefix name args) = of_types around args
  of_type_kind around span (Typeof e) = of_expr around e
  of_type_kind around span (Array typ) = of_type around typ
  of_type_kind around span (TableType props) = of_props around props
  of_type_kind around span (Func generics params result) = of_gens around generics then of_types around params then of_type around result
  of_type_kind around span (Union types) = of_types around types
  of_type_kind around span (Meet types) = of_types around types
  of_type_kind around span (Optional typ) = of_type around typ
  of_type_kind around span (Pack types) = of_types around types
  of_type_kind around span (Variadic typ) = of_type around typ
  of_type_kind around span (PackName name) = one (Refuses GenericPack span)

  pub of_props : Around → Props → Part
  of_props around no_props = nothing
  of_props around (more_props prop rest) = of_prop around prop then of_props around rest

  pub of_prop : Around → Prop → Part
  of_prop around (the_prop access key typ) = of_key around key then of_type around typ

  pub of_key : Around → PropKey → Part
  of_key around (NameKey name) = nothing
  of_key around (Indexer typ) = of_type around typ

-- what is around a module's own block: nothing is in scope, and `...` is taken
abbrev pub around_module : List (List ℕ) → Around
around_module paths = record { paths = paths; scope = []; function = None; takes = true; outside = 0; loop = NoLoop }

-- what is found in a module
abbrev pub found_in : List (List ℕ) → Block → List Found
found_in paths block = of_block (around_module paths) block 0

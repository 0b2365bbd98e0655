-- Each expression, statement and body that runs is visited, with what is around it and what is found in it.
use Rattle.std.proofs.Common.{◌≡◌, ℕ, ◌+◌, Bool, true, List, [], ◌∷◌, ◌++◌, refl, sym, subst, append_assoc, inl, inr}
use Rattle.std.specs.Prelude.{◌⊎◌, ⊤, Option, Some, None, if◌then◌else◌}
use Rattle.std.specs.Option.{is_some}
use Rattle.std.proofs.lemmas.List.{append-nil}
use Rattle.luau_tree.specs.declared.position.Span.{Span}
use Rattle.luau_tree.specs.declared.names.ExprId.{ExprId}
use Rattle.luau_tree.specs.Tree.{Block, no_stats, more_stats, Stat, the_stat, StatKind, Assign, Compound, CallStat, Do, While, Repeat, If, NumFor, GenFor, FunctionStat, LocalFunction, Local, TypeAlias, TypeFunction, Return, Break, Continue, Arms, no_arms, more_arms, MaybeBlock, no_block, a_block, Expr, the_expr, Exprs, no_exprs, more_exprs, MaybeExpr, no_expr, an_expr, ExprKind, NilExpr, TrueExpr, FalseExpr, NumberExpr, StrExpr, Vararg, FunctionExpr, NameExpr, Index, At, Call, Method, Paren, Unary, Binary, IfElse, TableExpr, Interp, Assert, Choices, no_choices, more_choices, Item, Field, Keyed, Plain, Items, no_items, more_items, Body, the_body, Varargs, Bind, the_bind, Binds, no_binds, more_binds, Gens, MaybeType}
use Rattle.luau_scope.specs.Found.{Found, Declares, Means, RequiresModule, declarations, Part, join, ◌then◌, one, Scope, Around, Loop, RepeatLoop, OtherLoop}
use Rattle.luau_scope.specs.declared.reading.Use.TheVariants.{Global}
use Rattle.luau_scope.specs.Finds as finds
use Rattle.luau_scope.specs.Finds.{in_scope, in_loop, in_body, with_bind, local_here, declared_name, declared_span, of_entry, of_entries, own_locals, behind, behind_kind, behind_block, behind_params, numbered, aimed, named_function, required_way, of_static, unless, id_of, kind_of, target_local, first_value, other_values}
use Rattle.luau_run.specs.ReadModule.{UseGlobal}
use Rattle.luau_run.specs.SyntaxNode.{SyntaxNode, AnExpr, ABody, ABind, of_block, of_stat, of_stat_kind, of_arms, of_maybe_block, of_expr, of_exprs, of_maybe_expr, of_expr_kind, of_choices, of_items, of_item, of_body, of_binds, inside}
use Rattle.run_frame.specs.Statements.{stats_of_block, stats_of, stats_of_kind, stats_of_arms, stats_of_maybe_block, stats_of_expr, stats_of_exprs, stats_of_maybe_expr, stats_of_expr_kind, stats_of_choices, stats_of_items, stats_of_item, stats_of_body}
use Rattle.module_reading.proofs.Lists.{Has, has_either}
use Rattle.reading_fits.proofs.Told.{Ground, IsLocal, Told, first, second, repeated}

-- what holds of all that is around the nodes of a part, and how it goes on
pub record Visitor : Type 1 where
  pub ground : Ground
  pub Inv : Around → List SyntaxNode → Type 0
  pub left : (a : Around) (xs ys : List SyntaxNode) → Inv a (xs ++ ys) → Inv a xs
  pub right : (a : Around) (xs ys : List SyntaxNode) → Inv a (xs ++ ys) → Inv a ys
  pub loop : (a : Around) (l : Loop) (xs : List SyntaxNode) → Inv a xs → Inv (in_loop a l) xs
  pub bind : (a : Around) (name : List ℕ) (span : Span) (type : MaybeType) (given : Option ExprId) (n : ℕ) (xs : List SyntaxNode)
      → Inv a (ABind (the_bind name span type) ∷ []) → IsLocal ground n span given → Inv a xs → Inv (in_scope a (a.scope ++ local_here a name n ∷ [])) xs
  pub enter : (a : Around) (id : ℕ) (has_self : Bool) (generics : Gens) (params : Binds) (vararg : Varargs) (returned : MaybeType) (code : Block) (span : Span)
      → Inv a (of_body (the_body id has_self generics params vararg returned code span))
      → Inv (in_body a id vararg) (inside (the_body id has_self generics params vararg returned code span))

-- an expression with what is found in it; or it is the callee of a static require
pub data SeenExpr (v : Visitor) (id : ℕ) (span : Span) (kind : ExprKind) : Type 0 where
  found_at : (a : Around) (n : ℕ) → v.Inv a (of_expr (the_expr id span kind)) → Told v.ground n (finds.of_expr_kind a (record { 0 = id }) span kind n) → SeenExpr v id span kind
  a_callee : v.ground.rules.reading.use_of id ≡ Some UseGlobal → SeenExpr v id span kind

pub record SeenBody (v : Visitor) (b : Body) : Type 0 where
  pub around : Around
  pub before : ℕ
  pub inv : v.Inv around (of_body b)
  pub told : Told v.ground before (finds.of_body around b before)

pub record SeenStat (v : Visitor) (s : Stat) : Type 0 where
  pub around : Around
  pub before : ℕ
  pub inv : v.Inv around (of_stat s)
  pub told : Told v.ground before (finds.of_stat around s before)

abbrev pub Seen : Visitor → SyntaxNode → Type 0
Seen v (AnExpr (the_expr id span kind)) = SeenExpr v id span kind
Seen v (ABody b) = SeenBody v b
Seen v (ABind b) = ⊤

pub record Visits (v : Visitor) (xs : List SyntaxNode) (ss : List Stat) : Type 0 where
  pub nodes : (k : SyntaxNode) → Has xs k → Seen v k
  pub stats : (s : Stat) → Has ss s → SeenStat v s

-- ---- visits one after the other

nothing_seen : {v : Visitor} → Visits v [] []
nothing_seen = record { nodes = λ k h. absurd h; stats = λ s h. absurd h }

both : {v : Visitor} {xs ys : List SyntaxNode} {ss ts : List Stat} → Visits v xs ss → Visits v ys ts → Visits v (xs ++ ys) (ss ++ ts)
both {v = v} {xs = xs} {ys = ys} {ss = ss} {ts = ts} a b = record { nodes = λ k h. node k (has_either xs ys k h); stats = λ s h. stat s (has_either ss ts s h) }
  where
    node : (k : SyntaxNode) → Has xs k ⊎ Has ys k → Seen v k
    node k (inl h) = a.nodes k h
    node k (inr h) = b.nodes k h

    stat : (s : Stat) → Has ss s ⊎ Has ts s → SeenStat v s
    stat s (inl h) = a.stats s h
    stat s (inr h) = b.stats s h

with_node : {v : Visitor} {xs : List SyntaxNode} {ss : List Stat} (k : SyntaxNode) → Seen v k → Visits v xs ss → Visits v (k ∷ xs) ss
with_node {v = v} {xs = xs} k seen a = record { nodes = node; stats = a.stats }
  where
    node : (j : SyntaxNode) → (k ≡ j) ⊎ Has xs j → Seen v j
    node j (inl e) = subst (λ (i : SyntaxNode). Seen v i) e seen
    node j (inr h) = a.nodes j h

with_stat : {v : Visitor} {xs : List SyntaxNode} {ss : List Stat} (s : Stat) → SeenStat v s → Visits v xs ss → Visits v xs (s ∷ ss)
with_stat {v = v} {ss = ss} s seen a = record { nodes = a.nodes; stats = stat }
  where
    stat : (t : Stat) → (s ≡ t) ⊎ Has ss t → SeenStat v t
    stat t (inl e) = subst (λ (u : Stat). SeenStat v u) e seen
    stat t (inr h) = a.stats t h

with_binds : {v : Visitor} (bs : Binds) → Visits v (of_binds bs) []
with_binds no_binds = nothing_seen
with_binds (more_binds b rest) = with_node (ABind b) tt (with_binds rest)

-- ---- scopes

-- what a declaration says of its local
pub local_told : (ground : Ground) (a : Around) (name : List ℕ) (span : Span) (type : MaybeType) (given : Option ExprId) (n : ℕ) → Told ground n (finds.of_bind a given (the_bind name span type) n) → IsLocal ground n span given
local_told ground a name span type given n t = (first ground n (one (Declares name span a.function given)) (finds.of_maybe_type a type) t).each.0

same_many : (a : Around) (given : Option ExprId) (b : Bind) (n : ℕ) → declarations (finds.of_bind a given b n) ≡ declarations (finds.of_bind a None b n)
unfolding join
same_many a given (the_bind name span type) n = refl

-- the scope with several more locals
binds_keep : (v : Visitor) (a : Around) (scope : Scope) (bs : Binds) (values : Exprs) (n : ℕ) (xs : List SyntaxNode) → Told v.ground n (finds.of_binds a bs values n)
    → v.Inv (in_scope a scope) (of_binds bs) → v.Inv (in_scope a scope) xs → v.Inv (in_scope a (scope ++ numbered a bs n)) xs
binds_keep v a scope no_binds values n xs t i j = subst (λ (s : Scope). v.Inv (in_scope a s) xs) (sym (append-nil scope)) j
binds_keep v a scope (more_binds (the_bind name span type) rest) values n xs t i j =
    let b : Bind = the_bind name span type in
    let here : Told v.ground n (finds.of_bind a (first_value values) b n) = first v.ground n (finds.of_bind a (first_value values) b) (finds.of_binds a rest (other_values values)) t in
    let later = second v.ground n (finds.of_bind a (first_value values) b) (finds.of_binds a rest (other_values values)) t in
    let told : IsLocal v.ground n span (first_value values) = local_told v.ground a name span type (first_value values) n here in
    let alone = v.left (in_scope a scope) (ABind b ∷ []) (of_binds rest) i in
    let i' = v.bind (in_scope a scope) name span type (first_value values) n (of_binds rest) alone told (v.right (in_scope a scope) (ABind b ∷ []) (of_binds rest) i) in
    let j' = v.bind (in_scope a scope) name span type (first_value values) n xs alone told j in
    let m : ℕ = n + declarations (finds.of_bind a None b n) in
    let later' : Told v.ground m (finds.of_binds a rest (other_values values) m) =
    subst (λ (k : ℕ). Told v.ground (n + k) (finds.of_binds a rest (other_values values) (n + k))) (same_many a (first_value values) b n) later in
    subst (λ (s : Scope). v.Inv (in_scope a s) xs) (append_assoc scope (local_here a name n ∷ []) (numbered a rest m)) (binds_keep v a (scope ++ local_here a name n ∷ []) rest (other_values values) m xs later' i' j')

pub own_told : (ground : Ground) (a : Around) (name : List ℕ) (span : Span) (type : MaybeType) (n : ℕ) → Told ground n (finds.of_own_bind a (the_bind name span type) n) → IsLocal ground n span None
own_told ground a name span type n t =
    (first ground n (one (Declares name span a.function None)) (of_entry (own_locals a) span then finds.of_maybe_type (in_scope a (a.scope ++ local_here a name n ∷ [])) type) t).each.0

params_keep : (v : Visitor) (a : Around) (bs : Binds) (n : ℕ) (xs : List SyntaxNode) → Told v.ground n (finds.of_params a bs n) → v.Inv a (of_binds bs) → v.Inv a xs → v.Inv (in_scope a (behind_params a bs n)) xs
params_keep v a no_binds n xs t i j = j
params_keep v a (more_binds (the_bind name span type) rest) n xs t i j =
    let b : Bind = the_bind name span type in
    let inner : Around = in_scope a (with_bind a b n) in
    let told : IsLocal v.ground n span None = own_told v.ground a name span type n (first v.ground n (finds.of_own_bind a b) (finds.of_params inner rest) t) in
    let alone = v.left a (ABind b ∷ []) (of_binds rest) i in
    params_keep v inner rest (n + declarations (finds.of_own_bind a b n)) xs (second v.ground n (finds.of_own_bind a b) (finds.of_params inner rest) t)
    (v.bind a name span type None n (of_binds rest) alone told (v.right a (ABind b ∷ []) (of_binds rest) i)) (v.bind a name span type None n xs alone told j)

-- behind a statement
behind_keeps : (v : Visitor) (a : Around) (span : Span) (kind : StatKind) (n : ℕ) (xs : List SyntaxNode) → Told v.ground n (finds.of_stat_kind a span kind n)
    → v.Inv a (of_stat_kind kind) → v.Inv a xs → v.Inv (in_scope a (behind_kind a kind n)) xs
behind_keeps v a span (LocalFunction (the_bind name s type) body) n xs t i j =
    let b : Bind = the_bind name s type in
    v.bind a name s type None n xs (v.left a (ABind b ∷ []) (of_body body) i)
    (own_told v.ground a name s type n (first v.ground n (finds.of_own_bind a b) (finds.of_body (in_scope a (with_bind a b n)) body) t)) j
behind_keeps v a span (Local bs values) n xs t i j =
    binds_keep v a a.scope bs values n xs (first v.ground n (finds.of_binds a bs values) (finds.of_exprs a values then of_entries (own_locals a) bs) t) (v.left a (of_binds bs) (of_exprs values) i) j
behind_keeps v a span (Assign targets values) n xs t i j = j
behind_keeps v a span (Compound target op e) n xs t i j = j
behind_keeps v a span (CallStat e) n xs t i j = j
behind_keeps v a span (Do body) n xs t i j = j
behind_keeps v a span (While cond body) n xs t i j = j
behind_keeps v a span (Repeat body cond) n xs t i j = j
behind_keeps v a span (If list last) n xs t i j = j
behind_keeps v a span (NumFor b from to by body) n xs t i j = j
behind_keeps v a span (GenFor bs values body) n xs t i j = j
behind_keeps v a span (FunctionStat path method body) n xs t i j = j
behind_keeps v a span (TypeAlias exported name generics type) n xs t i j = j
behind_keeps v a span (TypeFunction exported name body) n xs t i j = j
behind_keeps v a span (Return values) n xs t i j = j
behind_keeps v a span Break n xs t i j = j
behind_keeps v a span Continue n xs t i j = j

behind_stat : (v : Visitor) (a : Around) (s : Stat) (n : ℕ) (xs : List SyntaxNode) → Told v.ground n (finds.of_stat a s n) → v.Inv a (of_stat s) → v.Inv a xs → v.Inv (in_scope a (behind a s n)) xs
behind_stat v a (the_stat span kind) n xs t i j = behind_keeps v a span kind n xs t i j

block_keeps : (v : Visitor) (a : Around) (x : Block) (n : ℕ) (xs : List SyntaxNode) → Told v.ground n (finds.of_block a x n) → v.Inv a (of_block x) → v.Inv a xs → v.Inv (in_scope a (behind_block a x n)) xs
block_keeps v a no_stats n xs t i j = j
block_keeps v a (more_stats s rest) n xs t i j =
    let inner : Around = in_scope a (behind a s n) in
    let here = first v.ground n (finds.of_stat a s) (finds.of_block inner rest) t in
    let own = v.left a (of_stat s) (of_block rest) i in
    block_keeps v inner rest (n + declarations (finds.of_stat a s n)) xs (second v.ground n (finds.of_stat a s) (finds.of_block inner rest) t)
    (behind_stat v a s n (of_block rest) here own (v.right a (of_stat s) (of_block rest) i)) (behind_stat v a s n xs here own j)

-- ---- parts one after the other

-- two parts; the second may know what the first has
pair : (v : Visitor) (a : Around) (xs ys : List SyntaxNode) (ss ts : List Stat) (p q : Part) (n : ℕ) → v.Inv a (xs ++ ys) → Told v.ground n (join p q n)
    → (v.Inv a xs → Told v.ground n (p n) → Visits v xs ss)
    → ((m : ℕ) → v.Inv a xs → Told v.ground n (p n) → v.Inv a ys → Told v.ground m (q m) → Visits v ys ts) → Visits v (xs ++ ys) (ss ++ ts)
pair v a xs ys ss ts p q n i t f g =
    both (f (v.left a xs ys i) (first v.ground n p q t))
    (g (n + declarations (p n)) (v.left a xs ys i) (first v.ground n p q t) (v.right a xs ys i) (second v.ground n p q t))

-- a part without nodes, and another
skip : {A : Type 0} (ground : Ground) (p q : Part) (n : ℕ) → Told ground n (join p q n) → ((m : ℕ) → Told ground m (q m) → A) → A
skip ground p q n t f = f (n + declarations (p n)) (second ground n p q t)

-- three parts
triple : (v : Visitor) (a : Around) (xs ys zs : List SyntaxNode) (ss ts us : List Stat) (p q r : Part) (n : ℕ) → v.Inv a ((xs ++ ys) ++ zs) → Told v.ground n (join p (q then r) n)
    → ((m : ℕ) → v.Inv a xs → Told v.ground m (p m) → Visits v xs ss) → ((m : ℕ) → v.Inv a ys → Told v.ground m (q m) → Visits v ys ts)
    → ((m : ℕ) → v.Inv a zs → Told v.ground m (r m) → Visits v zs us) → Visits v ((xs ++ ys) ++ zs) ((ss ++ ts) ++ us)
triple v a xs ys zs ss ts us p q r n i t f g h =
    let own : v.Inv a (xs ++ ys) = v.left a (xs ++ ys) zs i in
    let t1 : Told v.ground (n + declarations (p n)) (join q r (n + declarations (p n))) = second v.ground n p (q then r) t in
    both (both (f n (v.left a xs ys own) (first v.ground n p (q then r) t)) (g (n + declarations (p n)) (v.right a xs ys own) (first v.ground (n + declarations (p n)) q r t1)))
    (h _ (v.right a (xs ++ ys) zs i) (second v.ground (n + declarations (p n)) q r t1))

-- ---- forms of statements

in_repeat : (v : Visitor) (a : Around) (body : Block) (cond : Expr) (n : ℕ) (ss ts : List Stat) → v.Inv a (of_block body ++ of_expr cond)
    → Told v.ground n (finds.of_repeat (finds.of_block (in_loop a RepeatLoop) body n)
    (finds.of_expr (in_scope a (behind_block (in_loop a RepeatLoop) body n)) cond (n + declarations (finds.of_block (in_loop a RepeatLoop) body n)))
    (n + declarations (finds.of_block (in_loop a RepeatLoop) body n)))
    → (v.Inv (in_loop a RepeatLoop) (of_block body) → Told v.ground n (finds.of_block (in_loop a RepeatLoop) body n) → Visits v (of_block body) ss)
    → ((m : ℕ) (b : Around) → v.Inv b (of_expr cond) → Told v.ground m (finds.of_expr b cond m) → Visits v (of_expr cond) ts) → Visits v (of_block body ++ of_expr cond) (ss ++ ts)
in_repeat v a body cond n ss ts i t f g =
    let around : Around = in_loop a RepeatLoop in
    let within : List Found = finds.of_block around body n in
    let inner : Around = in_scope a (behind_block around body n) in
    let told : Told v.ground n within × Told v.ground (n + declarations within) (finds.of_expr inner cond (n + declarations within)) =
    repeated v.ground n within (finds.of_expr inner cond (n + declarations within)) (n + declarations within) t in
    let own : v.Inv around (of_block body) = v.loop a RepeatLoop (of_block body) (v.left a (of_block body) (of_expr cond) i) in
    let last : v.Inv inner (of_expr cond) = v.loop (in_scope around (behind_block around body n)) a.loop (of_expr cond)
    (block_keeps v around body n (of_expr cond) told.0 own (v.loop a RepeatLoop (of_expr cond) (v.right a (of_block body) (of_expr cond) i))) in
    both (f own told.0) (g (n + declarations within) inner last told.1)

in_numbers : (v : Visitor) (a : Around) (name : List ℕ) (s : Span) (type : MaybeType) (from to : Expr) (by : MaybeExpr) (body : Block) (n : ℕ) (ss ts us ws : List Stat)
    → v.Inv a ((((ABind (the_bind name s type) ∷ of_expr from) ++ of_expr to) ++ of_maybe_expr by) ++ of_block body)
    → Told v.ground n (join (finds.of_bind a None (the_bind name s type)) (finds.of_expr a from then finds.of_expr a to then finds.of_maybe_expr a by then of_entry (own_locals a) s
    then finds.of_block (in_loop (in_scope a (with_bind a (the_bind name s type) n)) OtherLoop) body) n)
    → ((m : ℕ) → v.Inv a (of_expr from) → Told v.ground m (finds.of_expr a from m) → Visits v (of_expr from) ss)
    → ((m : ℕ) → v.Inv a (of_expr to) → Told v.ground m (finds.of_expr a to m) → Visits v (of_expr to) ts)
    → ((m : ℕ) → v.Inv a (of_maybe_expr by) → Told v.ground m (finds.of_maybe_expr a by m) → Visits v (of_maybe_expr by) us)
    → ((m : ℕ) (b : Around) → v.Inv b (of_block body) → Told v.ground m (finds.of_block b body m) → Visits v (of_block body) ws)
    → Visits v ((((ABind (the_bind name s type) ∷ of_expr from) ++ of_expr to) ++ of_maybe_expr by) ++ of_block body) (((ss ++ ts) ++ us) ++ ws)
in_numbers v a name s type from to by body n ss ts us ws i t f g h k =
    let b : Bind = the_bind name s type in
    let inner : Around = in_loop (in_scope a (with_bind a b n)) OtherLoop in
    let told : IsLocal v.ground n s None = local_told v.ground a name s type None n (first v.ground n (finds.of_bind a None b) (finds.of_expr a from then finds.of_expr a to then finds.of_maybe_expr a by then of_entry (own_locals a) s
    then finds.of_block inner body) t) in
    let i3 = v.left a (((ABind b ∷ of_expr from) ++ of_expr to) ++ of_maybe_expr by) (of_block body) i in
    let i2 = v.left a ((ABind b ∷ of_expr from) ++ of_expr to) (of_maybe_expr by) i3 in
    let i1 = v.left a (ABind b ∷ of_expr from) (of_expr to) i2 in
    let last : v.Inv inner (of_block body) = v.loop (in_scope a (with_bind a b n)) OtherLoop (of_block body)
    (v.bind a name s type None n (of_block body) (v.left a (ABind b ∷ []) (of_expr from) i1) told (v.right a (((ABind b ∷ of_expr from) ++ of_expr to) ++ of_maybe_expr by) (of_block body) i)) in
    rest_of i1 i2 i3 last (second v.ground n (finds.of_bind a None b) (finds.of_expr a from then finds.of_expr a to then finds.of_maybe_expr a by then of_entry (own_locals a) s
    then finds.of_block inner body) t)
  where
    rest_of : v.Inv a (ABind (the_bind name s type) ∷ of_expr from) → v.Inv a ((ABind (the_bind name s type) ∷ of_expr from) ++ of_expr to) → v.Inv a (((ABind (the_bind name s type) ∷ of_expr from) ++ of_expr to) ++ of_maybe_expr by)
        → v.Inv (in_loop (in_scope a (with_bind a (the_bind name s type) n)) OtherLoop) (of_block body)
        → {m : ℕ} → Told v.ground m (join (finds.of_expr a from) (finds.of_expr a to then finds.of_maybe_expr a by then of_entry (own_locals a) s
        then finds.of_block (in_loop (in_scope a (with_bind a (the_bind name s type) n)) OtherLoop) body) m)
        → Visits v ((((ABind (the_bind name s type) ∷ of_expr from) ++ of_expr to) ++ of_maybe_expr by) ++ of_block body) (((ss ++ ts) ++ us) ++ ws)
    rest_of i1 i2 i3 last {m = m} t1 =
        let inner : Around = in_loop (in_scope a (with_bind a (the_bind name s type) n)) OtherLoop in
        let p1 : Part = finds.of_expr a from in
        let p2 : Part = finds.of_expr a to in
        let p3 : Part = finds.of_maybe_expr a by in
        let p4 : Part = of_entry (own_locals a) s in
        let p5 : Part = finds.of_block inner body in
        let t2 = second v.ground m p1 (p2 then p3 then p4 then p5) t1 in
        let t3 = second v.ground _ p2 (p3 then p4 then p5) t2 in
        let t4 = second v.ground _ p3 (p4 then p5) t3 in
        let t5 = second v.ground _ p4 p5 t4 in
        with_node (ABind (the_bind name s type)) tt
        (both (both (both (f _ (v.right a (ABind (the_bind name s type) ∷ []) (of_expr from) i1) (first v.ground m p1 (p2 then p3 then p4 then p5) t1))
        (g _ (v.right a (ABind (the_bind name s type) ∷ of_expr from) (of_expr to) i2) (first v.ground _ p2 (p3 then p4 then p5) t2)))
        (h _ (v.right a ((ABind (the_bind name s type) ∷ of_expr from) ++ of_expr to) (of_maybe_expr by) i3) (first v.ground _ p3 (p4 then p5) t3)))
        (k _ inner last t5))

in_values : (v : Visitor) (a : Around) (bs : Binds) (values : Exprs) (body : Block) (n : ℕ) (ss ts : List Stat) → v.Inv a ((of_binds bs ++ of_exprs values) ++ of_block body)
    → Told v.ground n (join (finds.of_binds a bs no_exprs) (finds.of_exprs a values then of_entries (own_locals a) bs then finds.of_block (in_loop (in_scope a (a.scope ++ numbered a bs n)) OtherLoop) body) n)
    → ((m : ℕ) → v.Inv a (of_exprs values) → Told v.ground m (finds.of_exprs a values m) → Visits v (of_exprs values) ss)
    → ((m : ℕ) (b : Around) → v.Inv b (of_block body) → Told v.ground m (finds.of_block b body m) → Visits v (of_block body) ts)
    → Visits v ((of_binds bs ++ of_exprs values) ++ of_block body) (ss ++ ts)
in_values v a bs values body n ss ts i t f g =
    let inner : Around = in_loop (in_scope a (a.scope ++ numbered a bs n)) OtherLoop in
    let p0 : Part = finds.of_binds a bs no_exprs in
    let p1 : Part = finds.of_exprs a values in
    let p2 : Part = of_entries (own_locals a) bs in
    let p3 : Part = finds.of_block inner body in
    let t1 = second v.ground n p0 (p1 then p2 then p3) t in
    let t2 = second v.ground _ p1 (p2 then p3) t1 in
    let own = v.left a (of_binds bs ++ of_exprs values) (of_block body) i in
    let last : v.Inv inner (of_block body) = v.loop (in_scope a (a.scope ++ numbered a bs n)) OtherLoop (of_block body)
    (binds_keep v a a.scope bs no_exprs n (of_block body) (first v.ground n p0 (p1 then p2 then p3) t) (v.left a (of_binds bs) (of_exprs values) own)
    (v.right a (of_binds bs ++ of_exprs values) (of_block body) i)) in
    both (both (with_binds bs) (f _ (v.right a (of_binds bs) (of_exprs values) own) (first v.ground _ p1 (p2 then p3) t1))) (g _ inner last (second v.ground _ p2 p3 t2))

in_function : (v : Visitor) (a : Around) (name : List ℕ) (s : Span) (type : MaybeType) (b : Body) (n : ℕ) (ss : List Stat) → v.Inv a (ABind (the_bind name s type) ∷ of_body b)
    → Told v.ground n (join (finds.of_own_bind a (the_bind name s type)) (finds.of_body (in_scope a (with_bind a (the_bind name s type) n)) b) n)
    → ((m : ℕ) (c : Around) → v.Inv c (of_body b) → Told v.ground m (finds.of_body c b m) → Visits v (of_body b) ss) → Visits v (ABind (the_bind name s type) ∷ of_body b) ss
in_function v a name s type b n ss i t f =
    let own : Bind = the_bind name s type in
    let inner : Around = in_scope a (with_bind a own n) in
    let p : Part = finds.of_own_bind a own in
    let q : Part = finds.of_body inner b in
    let last : v.Inv inner (of_body b) = v.bind a name s type None n (of_body b) (v.left a (ABind own ∷ []) (of_body b) i) (own_told v.ground a name s type n (first v.ground n p q t)) (v.right a (ABind own ∷ []) (of_body b) i) in
    with_node (ABind own) tt (f _ inner last (second v.ground n p q t))

-- what is within a body, by what is within its block
abbrev pub InvWithin : Visitor → Around → Body → Type 0
InvWithin v a (the_body id has_self generics ps vararg returned code span) = v.Inv (in_body a id vararg) (inside (the_body id has_self generics ps vararg returned code span))

within_body : (v : Visitor) (a : Around) (id : ℕ) (has_self : Bool) (generics : Gens) (ps : Binds) (vararg : Varargs) (returned : MaybeType) (code : Block) (span : Span) (n : ℕ) (ss : List Stat)
    → v.Inv (in_body a id vararg) (of_binds ps ++ of_block code) → Told v.ground n (finds.of_body a (the_body id has_self generics ps vararg returned code span) n)
    → ((m : ℕ) (b : Around) → v.Inv b (of_block code) → Told v.ground m (finds.of_block b code m) → Visits v (of_block code) ss) → Visits v (of_binds ps ++ of_block code) ss
within_body v a id has_self generics ps vararg returned code span n ss i t f =
    let inner : Around = in_body a id vararg in
    let m : ℕ = n + declarations (finds.of_gens inner generics n) in
    let within : Around = in_scope inner (behind_params inner ps m) in
    let p0 : Part = finds.of_gens inner generics in
    let p1 : Part = finds.of_params inner ps in
    let p2 : Part = finds.of_varargs within vararg in
    let p3 : Part = finds.of_maybe_type within returned in
    let p4 : Part = finds.of_block within code in
    let t1 = second v.ground n p0 (p1 then p2 then p3 then p4) t in
    let t2 = second v.ground m p1 (p2 then p3 then p4) t1 in
    let t3 = second v.ground _ p2 (p3 then p4) t2 in
    let last : v.Inv within (of_block code) = params_keep v inner ps m (of_block code) (first v.ground m p1 (p2 then p3 then p4) t1) (v.left inner (of_binds ps) (of_block code) i) (v.right inner (of_binds ps) (of_block code) i) in
    both (with_binds ps) (f _ within last (second v.ground _ p3 p4 t3))

-- ---- the tree

-- the callee of a call, by the way to a module if the call is a static require
static_by : (v : Visitor) (a : Around) (at : ExprId) (span : Span) (id : ℕ) (here : Span) (name : List ℕ) (way : Option (List ℕ)) (n : ℕ) → v.Inv a (of_expr (the_expr id here (NameExpr name)))
    → Told v.ground n (join (of_static way at span (record { 0 = id })) (unless (is_some way) (finds.of_expr a (the_expr id here (NameExpr name)))) n)
    → Visits v (of_expr (the_expr id here (NameExpr name))) []
static_by v a at span id here name None n i t =
    with_node (AnExpr (the_expr id here (NameExpr name))) (found_at a _ i (second v.ground n (of_static None at span (record { 0 = id })) (finds.of_expr a (the_expr id here (NameExpr name))) t)) nothing_seen
static_by v a at span id here name (Some text) n i t =
    let p : Part = of_static (Some text) at span (record { 0 = id }) in
    let q : Part = unless true (finds.of_expr a (the_expr id here (NameExpr name))) in
    let said = second v.ground n (one (RequiresModule (record { at = at; span = span; text = text }))) (one (Means (record { 0 = id }) Global)) (first v.ground n p q t) in
    with_node (AnExpr (the_expr id here (NameExpr name))) (a_callee said.each.0) nothing_seen

mutual
  pub block : (v : Visitor) (a : Around) (x : Block) (n : ℕ) → v.Inv a (of_block x) → Told v.ground n (finds.of_block a x n) → Visits v (of_block x) (stats_of_block x)
  block v a no_stats n i t = nothing_seen
  block v a (more_stats s rest) n i t =
      pair v a _ _ _ _ (finds.of_stat a s) (finds.of_block (in_scope a (behind a s n)) rest) n i t (λ j u. stat v a s n j u)
      (λ m own here j u. block v (in_scope a (behind a s n)) rest m (behind_stat v a s n (of_block rest) here own j) u)

  pub stat : (v : Visitor) (a : Around) (x : Stat) (n : ℕ) → v.Inv a (of_stat x) → Told v.ground n (finds.of_stat a x n) → Visits v (of_stat x) (stats_of x)
  stat v a (the_stat span kind) n i t = with_stat (the_stat span kind) (record { around = a; before = n; inv = i; told = t }) (stat_kind v a span kind n i t)

  stat_kind : (v : Visitor) (a : Around) (span : Span) (x : StatKind) (n : ℕ) → v.Inv a (of_stat_kind x) → Told v.ground n (finds.of_stat_kind a span x n) → Visits v (of_stat_kind x) (stats_of_kind x)
  stat_kind v a span (Assign targets values) n i t = pair v a _ _ _ _ (finds.of_targets a [] targets) (finds.of_exprs a values) n i t (λ j u. the_targets v a [] targets n j u) (λ m o w j u. exprs v a values m j u)
  stat_kind v a span (Compound target op e) n i t =
      pair v a _ _ _ _ (finds.of_expr a target) (aimed a [] target then finds.of_expr a e) n i t (λ j u. expr v a target n j u)
      (λ m o w j u. skip v.ground (aimed a [] target) (finds.of_expr a e) m u (λ k y. expr v a e k j y))
  stat_kind v a span (CallStat e) n i t = expr v a e n i t
  stat_kind v a span (Do body) n i t = block v a body n i t
  stat_kind v a span (While cond body) n i t =
      pair v a _ _ _ _ (finds.of_expr a cond) (finds.of_block (in_loop a OtherLoop) body) n i t (λ j u. expr v a cond n j u)
      (λ m o w j u. block v (in_loop a OtherLoop) body m (v.loop a OtherLoop (of_block body) j) u)
  stat_kind v a span (Repeat body cond) n i t = in_repeat v a body cond n _ _ i t (λ j u. block v (in_loop a RepeatLoop) body n j u) (λ m b j u. expr v b cond m j u)
  stat_kind v a span (If list last) n i t = pair v a _ _ _ _ (finds.of_arms a list) (finds.of_maybe_block a last) n i t (λ j u. the_arms v a list n j u) (λ m o w j u. maybe_block v a last m j u)
  stat_kind v a span (NumFor (the_bind name s type) from to by body) n i t =
      in_numbers v a name s type from to by body n _ _ _ _ i t (λ m j u. expr v a from m j u) (λ m j u. expr v a to m j u) (λ m j u. maybe_expr v a by m j u) (λ m b j u. block v b body m j u)
  stat_kind v a span (GenFor bs values body) n i t = in_values v a bs values body n _ _ i t (λ m j u. exprs v a values m j u) (λ m b j u. block v b body m j u)
  stat_kind v a span (FunctionStat path method b) n i t =
      pair v a _ _ _ _ (finds.of_expr a path) (named_function a path method then finds.of_body a b) n i t (λ j u. expr v a path n j u)
      (λ m o w j u. skip v.ground (named_function a path method) (finds.of_body a b) m u (λ k y. a_body v a b k j y))
  stat_kind v a span (LocalFunction (the_bind name s type) b) n i t = in_function v a name s type b n _ i t (λ m c j u. a_body v c b m j u)
  stat_kind v a span (Local bs values) n i t =
      pair v a _ _ [] _ (finds.of_binds a bs values) (finds.of_exprs a values then of_entries (own_locals a) bs) n i t (λ j u. with_binds bs)
      (λ m o w j u. exprs v a values m j (first v.ground m (finds.of_exprs a values) (of_entries (own_locals a) bs) u))
  stat_kind v a span (TypeAlias exported name generics type) n i t = nothing_seen
  stat_kind v a span (TypeFunction exported name b) n i t = nothing_seen
  stat_kind v a span (Return values) n i t = exprs v a values n i t
  stat_kind v a span Break n i t = nothing_seen
  stat_kind v a span Continue n i t = nothing_seen

  the_targets : (v : Visitor) (a : Around) (earlier : List ℕ) (x : Exprs) (n : ℕ) → v.Inv a (of_exprs x) → Told v.ground n (finds.of_targets a earlier x n) → Visits v (of_exprs x) (stats_of_exprs x)
  the_targets v a earlier no_exprs n i t = nothing_seen
  the_targets v a earlier (more_exprs e rest) n i t =
      pair v a _ _ _ _ (finds.of_expr a e) (aimed a earlier e then finds.of_targets a (earlier ++ target_local a e) rest) n i t (λ j u. expr v a e n j u)
      (λ m o w j u. skip v.ground (aimed a earlier e) (finds.of_targets a (earlier ++ target_local a e) rest) m u (λ k y. the_targets v a (earlier ++ target_local a e) rest k j y))

  the_arms : (v : Visitor) (a : Around) (x : Arms) (n : ℕ) → v.Inv a (of_arms x) → Told v.ground n (finds.of_arms a x n) → Visits v (of_arms x) (stats_of_arms x)
  the_arms v a no_arms n i t = nothing_seen
  the_arms v a (more_arms cond body rest) n i t =
      triple v a _ _ _ _ _ _ (finds.of_expr a cond) (finds.of_block a body) (finds.of_arms a rest) n i t (λ m j u. expr v a cond m j u) (λ m j u. block v a body m j u) (λ m j u. the_arms v a rest m j u)

  maybe_block : (v : Visitor) (a : Around) (x : MaybeBlock) (n : ℕ) → v.Inv a (of_maybe_block x) → Told v.ground n (finds.of_maybe_block a x n) → Visits v (of_maybe_block x) (stats_of_maybe_block x)
  maybe_block v a no_block n i t = nothing_seen
  maybe_block v a (a_block body) n i t = block v a body n i t

  expr : (v : Visitor) (a : Around) (x : Expr) (n : ℕ) → v.Inv a (of_expr x) → Told v.ground n (finds.of_expr a x n) → Visits v (of_expr x) (stats_of_expr x)
  expr v a (the_expr id span kind) n i t =
      with_node (AnExpr (the_expr id span kind)) (found_at a n i t) (expr_kind v a id span kind n (v.right a (AnExpr (the_expr id span kind) ∷ []) (of_expr_kind kind) i) t)

  exprs : (v : Visitor) (a : Around) (x : Exprs) (n : ℕ) → v.Inv a (of_exprs x) → Told v.ground n (finds.of_exprs a x n) → Visits v (of_exprs x) (stats_of_exprs x)
  exprs v a no_exprs n i t = nothing_seen
  exprs v a (more_exprs e rest) n i t = pair v a _ _ _ _ (finds.of_expr a e) (finds.of_exprs a rest) n i t (λ j u. expr v a e n j u) (λ m o w j u. exprs v a rest m j u)

  maybe_expr : (v : Visitor) (a : Around) (x : MaybeExpr) (n : ℕ) → v.Inv a (of_maybe_expr x) → Told v.ground n (finds.of_maybe_expr a x n) → Visits v (of_maybe_expr x) (stats_of_maybe_expr x)
  maybe_expr v a no_expr n i t = nothing_seen
  maybe_expr v a (an_expr e) n i t = expr v a e n i t

  expr_kind : (v : Visitor) (a : Around) (id : ℕ) (span : Span) (x : ExprKind) (n : ℕ) → v.Inv a (of_expr_kind x) → Told v.ground n (finds.of_expr_kind a (record { 0 = id }) span x n)
      → Visits v (of_expr_kind x) (stats_of_expr_kind x)
  expr_kind v a id span NilExpr n i t = nothing_seen
  expr_kind v a id span TrueExpr n i t = nothing_seen
  expr_kind v a id span FalseExpr n i t = nothing_seen
  expr_kind v a id span (NumberExpr text) n i t = nothing_seen
  expr_kind v a id span (StrExpr bytes) n i t = nothing_seen
  expr_kind v a id span Vararg n i t = nothing_seen
  expr_kind v a id span (FunctionExpr b) n i t = a_body v a b n i t
  expr_kind v a id span (NameExpr name) n i t = nothing_seen
  expr_kind v a id span (Index base field) n i t = skip v.ground (finds.of_path a (record { 0 = id }) (kind_of base) field) (finds.of_expr a base) n t (λ m u. expr v a base m i u)
  expr_kind v a id span (At base key) n i t = pair v a _ _ _ _ (finds.of_expr a base) (finds.of_expr a key) n i t (λ j u. expr v a base n j u) (λ m o w j u. expr v a key m j u)
  expr_kind v a id span (Call callee args) n i t =
      pair v a _ _ _ _ (of_static (required_way a (kind_of callee) args) (record { 0 = id }) span (id_of callee) then unless (is_some (required_way a (kind_of callee) args)) (finds.of_expr a callee)) (finds.of_exprs a args) n i t
      (λ j u. the_callee v a (record { 0 = id }) span args callee n j u) (λ m o w j u. exprs v a args m j u)
  expr_kind v a id span (Method base name name_span args) n i t = pair v a _ _ _ _ (finds.of_expr a base) (finds.of_exprs a args) n i t (λ j u. expr v a base n j u) (λ m o w j u. exprs v a args m j u)
  expr_kind v a id span (Paren e) n i t = expr v a e n i t
  expr_kind v a id span (Unary op e) n i t = expr v a e n i t
  expr_kind v a id span (Binary op left right) n i t = pair v a _ _ _ _ (finds.of_expr a left) (finds.of_expr a right) n i t (λ j u. expr v a left n j u) (λ m o w j u. expr v a right m j u)
  expr_kind v a id span (IfElse list last) n i t = pair v a _ _ _ _ (finds.of_choices a list) (finds.of_expr a last) n i t (λ j u. choices v a list n j u) (λ m o w j u. expr v a last m j u)
  expr_kind v a id span (TableExpr list) n i t = the_items v a list n i t
  expr_kind v a id span (Interp texts parts) n i t = exprs v a parts n i t
  expr_kind v a id span (Assert e type) n i t = expr v a e n i (first v.ground n (finds.of_expr a e) (finds.of_type a type) t)

  the_callee : (v : Visitor) (a : Around) (at : ExprId) (span : Span) (args : Exprs) (x : Expr) (n : ℕ) → v.Inv a (of_expr x)
      → Told v.ground n (join (of_static (required_way a (kind_of x) args) at span (id_of x)) (unless (is_some (required_way a (kind_of x) args)) (finds.of_expr a x)) n)
      → Visits v (of_expr x) (stats_of_expr x)
  the_callee v a at span args (the_expr id here (NameExpr name)) n i t = static_by v a at span id here name (required_way a (NameExpr name) args) n i t
  the_callee v a at span args (the_expr id here other) n i t =
      skip v.ground (of_static None at span (record { 0 = id })) (finds.of_expr_kind a (record { 0 = id }) here other) n t
      (λ m u. with_node (AnExpr (the_expr id here other)) (found_at a m i u) (expr_kind v a id here other m (v.right a (AnExpr (the_expr id here other) ∷ []) (of_expr_kind other) i) u))

  choices : (v : Visitor) (a : Around) (x : Choices) (n : ℕ) → v.Inv a (of_choices x) → Told v.ground n (finds.of_choices a x n) → Visits v (of_choices x) (stats_of_choices x)
  choices v a no_choices n i t = nothing_seen
  choices v a (more_choices cond e rest) n i t =
      triple v a _ _ _ _ _ _ (finds.of_expr a cond) (finds.of_expr a e) (finds.of_choices a rest) n i t (λ m j u. expr v a cond m j u) (λ m j u. expr v a e m j u) (λ m j u. choices v a rest m j u)

  the_items : (v : Visitor) (a : Around) (x : Items) (n : ℕ) → v.Inv a (of_items x) → Told v.ground n (finds.of_items a x n) → Visits v (of_items x) (stats_of_items x)
  the_items v a no_items n i t = nothing_seen
  the_items v a (more_items it rest) n i t = pair v a _ _ _ _ (finds.of_item a it) (finds.of_items a rest) n i t (λ j u. item v a it n j u) (λ m o w j u. the_items v a rest m j u)

  item : (v : Visitor) (a : Around) (x : Item) (n : ℕ) → v.Inv a (of_item x) → Told v.ground n (finds.of_item a x n) → Visits v (of_item x) (stats_of_item x)
  item v a (Field name e) n i t = expr v a e n i t
  item v a (Keyed key e) n i t = pair v a _ _ _ _ (finds.of_expr a key) (finds.of_expr a e) n i t (λ j u. expr v a key n j u) (λ m o w j u. expr v a e m j u)
  item v a (Plain e) n i t = expr v a e n i t

  a_body : (v : Visitor) (a : Around) (x : Body) (n : ℕ) → v.Inv a (of_body x) → Told v.ground n (finds.of_body a x n) → Visits v (of_body x) (stats_of_body x)
  a_body v a (the_body id has_self generics ps vararg returned code span) n i t =
      with_node (ABody (the_body id has_self generics ps vararg returned code span)) (record { around = a; before = n; inv = i; told = t })
      (within_body v a id has_self generics ps vararg returned code span n _ (v.enter a id has_self generics ps vararg returned code span i) t (λ m b j u. block v b code m j u))

-- what is within a body
pub interior : (v : Visitor) (a : Around) (x : Body) (n : ℕ) → InvWithin v a x → Told v.ground n (finds.of_body a x n) → Visits v (inside x) (stats_of_body x)
interior v a (the_body id has_self generics ps vararg returned code span) n i t =
    within_body v a id has_self generics ps vararg returned code span n _ i t (λ m b j u. block v b code m j u)

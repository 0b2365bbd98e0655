-- What a statement assigns.
use Rattle.std.proofs.Common.{◌≡◌, ℕ, ◌+◌, ◌==◌, Bool, true, false, not, ◌||◌, List, [], ◌∷◌, ◌++◌, refl, sym, ap, ◌∙◌, subst, eq-eqb, eqb-true, inl, inr}
use Rattle.std.specs.Prelude.{◌⊎◌, Option, Some, None, if◌then◌else◌}
use Rattle.std.specs.List.{list_any, filter_map}
use Rattle.luau_tree.specs.declared.position.Span.{Span}
use Rattle.luau_tree.specs.Tree.{Block, no_stats, more_stats, Stat, the_stat, StatKind, Assign, Compound, CallStat, Do, While, Repeat, If, NumFor, GenFor, FunctionStat, LocalFunction, Local, TypeAlias, TypeFunction, Return, Break, Continue, Arms, no_arms, more_arms, MaybeBlock, no_block, a_block}
use Rattle.luau_tree.specs.Tree.{Expr, the_expr, Exprs, no_exprs, more_exprs, ExprKind, StrExpr, NameExpr, At}
use Rattle.luau_scope.specs.declared.refusal.Refusal.{Refusal}
use Rattle.luau_scope.specs.declared.refusal.Refusal.TheVariants.{AssignedBuiltin, RepeatedTarget}
use Rattle.luau_scope.specs.declared.reading.Use.TheVariants.{Local as LocalUse}
use Rattle.luau_scope.specs.Names.{banned_alone}
use Rattle.luau_scope.specs.Found.{Means, Captures, Assigns, declarations, Part, nothing, one, ◌then◌, Visible, Around, meant, same_function}
use Rattle.luau_scope.specs.Finds as finds
use Rattle.luau_scope.specs.Finds.{global_use, refused, refused_if, aimed, assigned, target_local, touches_builtin, kind_of, span_of}
use Rattle.luau_run.specs.ReadModule.{Use as Meaning}
use Rattle.luau_run.specs.ReadFolder.{is_among, are_distinct, local_of}
use Rattle.report_rules.specs.Rules.{Rules, local_named}
use Rattle.report_rules.specs.Effects.{Target, of_name, OfLocal, OfGlobal, OfField, OfElement, target_of, function_target, targets_of, writes_local, any_writes_local, assigns, assigns_in, assigns_block, assigns_arms, assigns_maybe}
use Rattle.run_frame.specs.Fit.{local_target}
use Rattle.run_frame.specs.Statements.{stats_of_block, stats_of, stats_of_kind, stats_of_arms, stats_of_maybe_block, stats_of_expr}
use Rattle.module_reading.proofs.Lists.{Has, has_left, has_right, and_both, or_parts, or_left, is_not, has_among}
use Rattle.reading_fits.proofs.Told.{Ground, IsKnown, Told, first, second}
use Rattle.reading_fits.proofs.Locals.{global_no_local, meant_there}

-- ---- the local that a name means

named_by : (ground : Ground) (a : Around) (id : ℕ) (span : Span) (name : List ℕ) (n x : ℕ) (o : Option Visible) → Told ground n (finds.of_meant a (record { 0 = id }) span name o n)
    → local_of (ground.rules.reading.use_of id) ≡ Some x → (v : Visible) × (o ≡ Some v) × (v.local ≡ x)
named_by ground a id span name n x None t h =
    absurd (let said = first ground n (one (Means (record { 0 = id }) (global_use a.paths name))) (refused (banned_alone name) span) t in
    global_no_local a.paths name x (subst (λ (m : Option Meaning). local_of m ≡ Some x) said.each.0 h))
named_by ground a id span name n x (Some v) t h = (
  v,
  refl,
  (let said = first ground n (one (Means (record { 0 = id }) (LocalUse (record { 0 = v.local })))) (if same_function v.function a.function then nothing else one (Captures v.local)) t in
      let z : Some v.local ≡ Some x = subst (λ (m : Option Meaning). local_of m ≡ Some x) said.each.0 h in cc),
)

named_local : (ground : Ground) (a : Around) (id : ℕ) (span : Span) (kind : ExprKind) (n x : ℕ) → Told ground n (finds.of_expr_kind a (record { 0 = id }) span kind n)
    → local_named ground.rules (the_expr id span kind) ≡ Some x → (v : Visible) × (finds.local_of a kind ≡ Some v) × (v.local ≡ x) × Has a.scope v
named_local ground a id span (NameExpr name) n x t h =
    let r = named_by ground a id span name n x (meant a.scope name) t h in (r.0, r.1, r.2, meant_there a.scope name r.0 r.1)
named_local ground a id span other n x t h = cc

-- ---- one target

not_refused : (ground : Ground) (b : Bool) (why : Refusal) (at : Span) (m : ℕ) → Told ground m (refused_if b why at m) → b ≡ false
not_refused ground true why at m t = absurd t.each
not_refused ground false why at m t = refl

-- a target that is a local's name assigns it, and no target before it in the same statement does
pub record IsAim (ground : Ground) (a : Around) (earlier : List ℕ) (e : Expr) (x : ℕ) : Type 0 where
  pub assigned : ground.rules.assigned x ≡ true
  pub alone : list_any (λ k. k == x) earlier ≡ false
  pub local : target_local a e ≡ x ∷ []

assigned_by : (ground : Ground) (earlier : List ℕ) (v : Visible) (span : Span) (m : ℕ) → Told ground m (assigned earlier (Some v) span m) → IsKnown ground v.local
    → (ground.rules.assigned v.local ≡ true) × (list_any (λ k. k == v.local) earlier ≡ false)
assigned_by ground earlier v span m t known =
    let p : Part = one (Assigns v.local) in
    let q : Part = refused_if (list_any (λ k. k == v.local) earlier) RepeatedTarget span in
    ((first ground m p q t).each.0 known, not_refused ground (list_any (λ k. k == v.local) earlier) RepeatedTarget span _ (second ground m p q t))

pub aim : (ground : Ground) (a : Around) (earlier : List ℕ) (e : Expr) (n m x : ℕ) → ((v : Visible) → Has a.scope v → IsKnown ground v.local)
    → Told ground n (finds.of_expr a e n) → Told ground m (aimed a earlier e m) → local_named ground.rules e ≡ Some x → IsAim ground a earlier e x
aim ground a earlier (the_expr id span kind) n m x known t u h =
    let r = named_local ground a id span kind n x t h in
    let later = second ground m (refused_if (touches_builtin a kind) AssignedBuiltin span) (assigned earlier (finds.local_of a kind) span) u in
    let k : ℕ = m + declarations (refused_if (touches_builtin a kind) AssignedBuiltin span m) in
    let told : Told ground k (assigned earlier (Some r.0) span k) = subst (λ (o : Option Visible). Told ground k (assigned earlier o span k)) r.1 later in
    let both = assigned_by ground earlier r.0 span k told (known r.0 r.3) in
    record {
      assigned = subst (λ (k : ℕ). ground.rules.assigned k ≡ true) r.2 both.0;
      alone = subst (λ (k : ℕ). list_any (λ j. j == k) earlier ≡ false) r.2 both.1;
      local = ap finds.number_of r.1 ∙ ap (λ (k : ℕ). k ∷ []) r.2;
    }

-- ---- targets as the rules have them

target_name : (o : Option ℕ) → local_target (of_name o) ≡ o
target_name None = refl
target_name (Some x) = refl

target_at : (rules : Rules) (id : ℕ) (span : Span) (base key : Expr) → local_target (target_of rules (the_expr id span (At base key))) ≡ None
target_at rules id span base (the_expr i s (StrExpr text)) = refl
target_at rules id span base (the_expr i s other) = refl

target_is : (rules : Rules) (e : Expr) → local_target (target_of rules e) ≡ local_named rules e
target_is rules (the_expr id span (NameExpr name)) = target_name (local_of (rules.reading.use_of id))
target_is rules (the_expr id span (At base key)) = target_at rules id span base key
target_is rules (the_expr id span other) = refl

writes_is : (x : ℕ) (t : Target) → writes_local x t ≡ true → local_target t ≡ Some x
writes_is x (OfLocal y) e = ap Some (eqb-true y x e)
writes_is x OfGlobal e = cc
writes_is x (OfField base name) e = cc
writes_is x OfElement e = cc

pub writes_named : (rules : Rules) (x : ℕ) (e : Expr) → writes_local x (target_of rules e) ≡ true → local_named rules e ≡ Some x
writes_named rules x e h = sym (target_is rules e) ∙ writes_is x (target_of rules e) h

pick_none : (t : Target) (ts : List Target) → local_target t ≡ None → filter_map local_target (t ∷ ts) ≡ filter_map local_target ts
pick_none (OfLocal x) ts e = cc
pick_none OfGlobal ts e = refl
pick_none (OfField base name) ts e = refl
pick_none OfElement ts e = refl

pick_some : (t : Target) (ts : List Target) (x : ℕ) → local_target t ≡ Some x → filter_map local_target (t ∷ ts) ≡ x ∷ filter_map local_target ts
pick_some (OfLocal y) ts x e = ap (λ (k : ℕ). k ∷ filter_map local_target ts) (let z : y ≡ x = cc in z)
pick_some OfGlobal ts x e = cc
pick_some (OfField base name) ts x e = cc
pick_some OfElement ts x e = cc

written_has : (x : ℕ) (ts : List Target) → any_writes_local x ts ≡ true → Has (filter_map local_target ts) x
written_has x [] e = cc
written_has x (t ∷ ts) e = by_test (writes_local x t) refl e (λ k. written_has x ts k)
  where
    by_local : (o : Option ℕ) → local_target t ≡ o → Has (filter_map local_target ts) x → Has (filter_map local_target (t ∷ ts)) x
    by_local None q h = subst (λ (xs : List ℕ). Has xs x) (sym (pick_none t ts q)) h
    by_local (Some y) q h = subst (λ (xs : List ℕ). Has xs x) (sym (pick_some t ts y q)) (inr h)

    by_test : (b : Bool) → writes_local x t ≡ b → (b || any_writes_local x ts) ≡ true → (any_writes_local x ts ≡ true → Has (filter_map local_target ts) x) → Has (filter_map local_target (t ∷ ts)) x
    by_test true q k next = subst (λ (xs : List ℕ). Has xs x) (sym (pick_some t ts x (writes_is x t q))) (inl refl)
    by_test false q k next = by_local (local_target t) refl (next k)

-- ---- the targets of an assignment

pub record TargetsFit (ground : Ground) (earlier xs : List ℕ) : Type 0 where
  pub assigned : (x : ℕ) → Has xs x → ground.rules.assigned x ≡ true
  pub alone : (x : ℕ) → Has xs x → list_any (λ k. k == x) earlier ≡ false
  pub distinct : are_distinct xs ≡ true

any_left : (x : ℕ) (xs ys : List ℕ) → list_any (λ k. k == x) (xs ++ ys) ≡ false → list_any (λ k. k == x) xs ≡ false
any_left x [] ys e = refl
any_left x (y ∷ xs) ys e = let p = or_parts (y == x) (list_any (λ k. k == x) (xs ++ ys)) e in ap (λ b. b || list_any (λ k. k == x) xs) p.0 ∙ any_left x xs ys p.1

any_right : (x : ℕ) (xs ys : List ℕ) → list_any (λ k. k == x) (xs ++ ys) ≡ false → list_any (λ k. k == x) ys ≡ false
any_right x [] ys e = e
any_right x (y ∷ xs) ys e = any_right x xs ys (or_parts (y == x) (list_any (λ k. k == x) (xs ++ ys)) e).1

other_than : (x : ℕ) (earlier xs : List ℕ) → ((y : ℕ) → Has xs y → list_any (λ k. k == y) (earlier ++ x ∷ []) ≡ false) → is_among x xs ≡ false
other_than x earlier xs h = by_test (is_among x xs) refl
  where
    by_test : (b : Bool) → is_among x xs ≡ b → is_among x xs ≡ false
    by_test true q = absurd (
        let f : (x == x) ≡ false = (or_parts (x == x) false (any_right x earlier (x ∷ []) (h x (has_among x xs q)))).0 in
        let t : (x == x) ≡ true = eq-eqb x x refl in cc)
    by_test false q = q

one_more : (ground : Ground) (a : Around) (earlier : List ℕ) (e : Expr) (x : ℕ) (xs : List ℕ) → IsAim ground a earlier e x → TargetsFit ground (earlier ++ target_local a e) xs → TargetsFit ground earlier (x ∷ xs)
one_more ground a earlier e x xs here rest = record {
  assigned = assigned_each;
  alone = alone_each;
  distinct = and_both (not (is_among x xs)) (are_distinct xs)
      (is_not (is_among x xs) (other_than x earlier xs (λ y h. subst (λ (ls : List ℕ). list_any (λ k. k == y) (earlier ++ ls) ≡ false) here.local (rest.alone y h)))) rest.distinct;
}
  where
    assigned_each : (y : ℕ) → (x ≡ y) ⊎ Has xs y → ground.rules.assigned y ≡ true
    assigned_each y (inl q) = subst (λ (k : ℕ). ground.rules.assigned k ≡ true) q here.assigned
    assigned_each y (inr h) = rest.assigned y h

    alone_each : (y : ℕ) → (x ≡ y) ⊎ Has xs y → list_any (λ k. k == y) earlier ≡ false
    alone_each y (inl q) = subst (λ (k : ℕ). list_any (λ j. j == k) earlier ≡ false) q here.alone
    alone_each y (inr h) = any_left y earlier (target_local a e) (rest.alone y h)

no_more : (ground : Ground) (a : Around) (earlier : List ℕ) (e : Expr) (xs : List ℕ) → TargetsFit ground (earlier ++ target_local a e) xs → TargetsFit ground earlier xs
no_more ground a earlier e xs rest = record { assigned = rest.assigned; alone = λ y h. any_left y earlier (target_local a e) (rest.alone y h); distinct = rest.distinct }

pub targets_fit : (ground : Ground) (a : Around) (earlier : List ℕ) (targets : Exprs) (n : ℕ) → ((v : Visible) → Has a.scope v → IsKnown ground v.local)
    → Told ground n (finds.of_targets a earlier targets n) → TargetsFit ground earlier (filter_map local_target (targets_of ground.rules targets))
targets_fit ground a earlier no_exprs n known t = record { assigned = λ x h. absurd h; alone = λ x h. absurd h; distinct = refl }
targets_fit ground a earlier (more_exprs e rest) n known t =
    let p0 : Part = finds.of_expr a e in
    let p1 : Part = aimed a earlier e in
    let p2 : Part = finds.of_targets a (earlier ++ target_local a e) rest in
    let u = second ground n p0 (p1 then p2) t in
    by_local (local_named ground.rules e) refl (first ground n p0 (p1 then p2) t) (first ground _ p1 p2 u)
    (targets_fit ground a (earlier ++ target_local a e) rest _ known (second ground _ p1 p2 u))
  where
    others : List Target
    others = targets_of ground.rules rest

    by_local : (o : Option ℕ) → local_named ground.rules e ≡ o → {m : ℕ} → Told ground n (finds.of_expr a e n) → Told ground m (aimed a earlier e m)
        → TargetsFit ground (earlier ++ target_local a e) (filter_map local_target others) → TargetsFit ground earlier (filter_map local_target (target_of ground.rules e ∷ others))
    by_local None q here at rest_fit =
        subst (λ (xs : List ℕ). TargetsFit ground earlier xs) (sym (pick_none (target_of ground.rules e) others (target_is ground.rules e ∙ q))) (no_more ground a earlier e (filter_map local_target others) rest_fit)
    by_local (Some x) q here at rest_fit =
        subst (λ (xs : List ℕ). TargetsFit ground earlier xs) (sym (pick_some (target_of ground.rules e) others x (target_is ground.rules e ∙ q)))
        (one_more ground a earlier e x (filter_map local_target others) (aim ground a earlier e n _ x known here at q) rest_fit)

pub all_assigned : (ground : Ground) (earlier : List ℕ) (ts : List Target) (x : ℕ) → TargetsFit ground earlier (filter_map local_target ts) → any_writes_local x ts ≡ true → ground.rules.assigned x ≡ true
all_assigned ground earlier ts x fit e = fit.assigned x (written_has x ts e)

-- ---- a statement that assigns a local has one that does so itself

-- what a statement itself writes
abbrev pub own_targets : Rules → StatKind → List Target
own_targets rules (Assign targets values) = targets_of rules targets
own_targets rules (Compound target op e) = target_of rules target ∷ []
own_targets rules (FunctionStat path method body) = function_target rules path method ∷ []
own_targets rules _ = []

pub record Written (rules : Rules) (x : ℕ) (ss : List Stat) : Type 0 where
  pub span : Span
  pub kind : StatKind
  pub there : Has ss (the_stat span kind)
  pub writes : any_writes_local x (own_targets rules kind) ≡ true

within : {rules : Rules} {x : ℕ} {xs ys : List Stat} → ((s : Stat) → Has xs s → Has ys s) → Written rules x xs → Written rules x ys
within f w = record { span = w.span; kind = w.kind; there = f _ w.there; writes = w.writes }

either : {A : Type 0} (b c : Bool) → (b || c) ≡ true → (b ≡ true → A) → (c ≡ true → A) → A
either true c e f g = f refl
either false c e f g = g e

mutual
  pub written : (rules : Rules) (x : ℕ) (s : Stat) → assigns rules x s ≡ true → Written rules x (stats_of s)
  written rules x (the_stat span kind) e = written_kind rules x span kind e

  written_kind : (rules : Rules) (x : ℕ) (span : Span) (kind : StatKind) → assigns_in rules x kind ≡ true → Written rules x (the_stat span kind ∷ stats_of_kind kind)
  written_kind rules x span (Assign targets values) e = record { span = span; kind = Assign targets values; there = inl refl; writes = e }
  written_kind rules x span (Compound target op v) e =
      record { span = span; kind = Compound target op v; there = inl refl; writes = or_left (writes_local x (target_of rules target)) false e }
  written_kind rules x span (CallStat v) e = cc
  written_kind rules x span (Do body) e = within (λ s h. inr h) (written_block rules x body e)
  written_kind rules x span (While cond body) e = within (λ s h. inr (has_right _ _ s h)) (written_block rules x body e)
  written_kind rules x span (Repeat body cond) e = within (λ s h. inr (has_left _ _ s h)) (written_block rules x body e)
  written_kind rules x span (If arms last) e =
      either (assigns_arms rules x arms) (assigns_maybe rules x last) e (λ k. within (λ s h. inr (has_left _ _ s h)) (written_arms rules x arms k))
      (λ k. within (λ s h. inr (has_right _ _ s h)) (written_maybe rules x last k))
  written_kind rules x span (NumFor bind from to by body) e = within (λ s h. inr (has_right _ _ s h)) (written_block rules x body e)
  written_kind rules x span (GenFor binds values body) e = within (λ s h. inr (has_right _ _ s h)) (written_block rules x body e)
  written_kind rules x span (FunctionStat path method body) e =
      record { span = span; kind = FunctionStat path method body; there = inl refl; writes = or_left (writes_local x (function_target rules path method)) false e }
  written_kind rules x span (LocalFunction name body) e = cc
  written_kind rules x span (Local binds values) e = cc
  written_kind rules x span (TypeAlias exported name generics typ) e = cc
  written_kind rules x span (TypeFunction exported name body) e = cc
  written_kind rules x span (Return values) e = cc
  written_kind rules x span Break e = cc
  written_kind rules x span Continue e = cc

  written_block : (rules : Rules) (x : ℕ) (b : Block) → assigns_block rules x b ≡ true → Written rules x (stats_of_block b)
  written_block rules x no_stats e = cc
  written_block rules x (more_stats s rest) e =
      either (assigns rules x s) (assigns_block rules x rest) e (λ k. within (λ t h. has_left _ _ t h) (written rules x s k))
      (λ k. within (λ t h. has_right _ _ t h) (written_block rules x rest k))

  written_arms : (rules : Rules) (x : ℕ) (arms : Arms) → assigns_arms rules x arms ≡ true → Written rules x (stats_of_arms arms)
  written_arms rules x no_arms e = cc
  written_arms rules x (more_arms cond body rest) e =
      either (assigns_block rules x body) (assigns_arms rules x rest) e (λ k. within (λ t h. has_left (stats_of_expr cond ++ stats_of_block body) (stats_of_arms rest) t (has_right (stats_of_expr cond) (stats_of_block body) t h)) (written_block rules x body k))
      (λ k. within (λ t h. has_right _ _ t h) (written_arms rules x rest k))

  written_maybe : (rules : Rules) (x : ℕ) (last : MaybeBlock) → assigns_maybe rules x last ≡ true → Written rules x (stats_of_maybe_block last)
  written_maybe rules x no_block e = cc
  written_maybe rules x (a_block body) e = written_block rules x body e

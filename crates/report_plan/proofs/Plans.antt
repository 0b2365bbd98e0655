-- What tasks that are pushed amount to.
use Rattle.std.proofs.Common.{◌≡◌, ℕ, ◌-◌, ◌+◌, ◌≤◌, ◌<◌, List, [], ◌∷◌, ◌++◌, length, get_or, drop, refl, sym, ap, subst, ◌∙◌, arith}
use Rattle.std.proofs.lemmas.List.{drop_all, drop_more}
use Rattle.luau_tree.specs.declared.position.Span.{Span}
use Rattle.luau_tree.specs.Tree.{Expr, the_expr, ExprKind, Stat, the_stat, StatKind}
use Rattle.report_rules.specs.Rules.{Rules}
use Rattle.report_rules.specs.Seen.{Seen}
use Rattle.report_work.specs.Checks.{Check, Unchecked}
use Rattle.report_work.specs.Expressions.{with_ev_kind, with_ev_form}
use Rattle.report_work.specs.Found.{found_parts_as}
use Rattle.report_work.specs.Statements.{with_stat}
use Rattle.report_work.specs.Work.{Work}
use Rattle.report_plan.specs.declared.task.Task.{Task}
use Rattle.report_plan.specs.Run.{act, run}
use Rattle.report_plan.specs.Puts.{Part, Puts}
use Rattle.report_plan.specs.Weights.{form_weight, kind_weight, stat_form_weight, stat_kind_weight, weight, weights}

-- ## One task more

-- the last of some is the next
run_last : (rules : Rules) (seen : List Seen) (tasks : List Task) (t : Task) (work : Work) → run rules seen (tasks ++ t ∷ []) work ≡ run rules seen tasks (act rules seen t work)
run_last rules seen [] t work = refl
run_last rules seen (x ∷ tasks) t work = ap (act rules seen x) (run_last rules seen tasks t work)

weights_last : (tasks : List Task) (t : Task) → weights (tasks ++ t ∷ []) ≡ weights tasks + weight t
weights_last [] t = omega arith
weights_last (x ∷ tasks) t = omega (arith, weights_last tasks t)

pub put_one : (old new : List Task) (t : Task) → new ≡ old ++ t ∷ [] → Puts old new (λ rules seen. act rules seen t) (weight t)
put_one old new t e = record {
  work = λ rules seen work. ap (λ (tasks : List Task). run rules seen tasks work) e ∙ run_last rules seen old t work;
  light = let same : weights new ≡ weights old + weight t = ap weights e ∙ weights_last old t in omega (arith, same);
}

-- ## Parts

pub put_none : (tasks : List Task) → Puts tasks tasks (λ rules seen work. work) 0
put_none tasks = record { work = λ rules seen work. refl; light = omega arith }

-- one part before another
pub put_both : (old now new : List Task) (later first : Part) (m n : ℕ) → Puts old now later m → Puts now new first n
    → Puts old new (λ rules seen work. later rules seen (first rules seen work)) (n + m)
put_both old now new later first m n a b = record {
  work = λ rules seen work. b.work rules seen work ∙ a.work rules seen (first rules seen work);
  light = omega (arith, a.light, b.light);
}

-- the same part in other words, and a load that is no less
pub put_as : (old new : List Task) (part other : Part) (m n : ℕ) → ((rules : Rules) (seen : List Seen) (work : Work) → part rules seen work ≡ other rules seen work) → m ≤ n
    → Puts old new part m → Puts old new other n
put_as old new part other m n same no_less p = record {
  work = λ rules seen work. p.work rules seen work ∙ ap (run rules seen old) (same rules seen work);
  light = omega (arith, p.light, no_less);
}

-- an expression, and a statement, of which the form is known
pub put_form : (old new : List Task) (e : Expr) (id : ℕ) (span : Span) (kind : ExprKind) → e ≡ the_expr id span kind
    → Puts old new (λ rules seen. with_ev_kind rules seen id kind) (kind_weight kind) → Puts old new (λ rules seen. with_ev_form rules seen e) (form_weight e)
put_form old new e id span kind is p = subst (λ (x : Expr). Puts old new (λ rules seen. with_ev_form rules seen x) (form_weight x)) (sym is) p

pub put_parts : (old new : List Task) (how : Rules → Check) (e : Expr) (id : ℕ) (span : Span) (kind : ExprKind) → e ≡ the_expr id span kind
    → Puts old new (λ rules seen. found_parts_as rules seen (how rules) (the_expr id span kind)) (kind_weight kind) → Puts old new (λ rules seen. found_parts_as rules seen (how rules) e) (form_weight e)
put_parts old new how e id span kind is p = subst (λ (x : Expr). Puts old new (λ rules seen. found_parts_as rules seen (how rules) x) (form_weight x)) (sym is) p

-- whatever is done with an expression
pub put_of : (old new : List Task) (part : Expr → Part) (e : Expr) (id : ℕ) (span : Span) (kind : ExprKind) → e ≡ the_expr id span kind
    → Puts old new (part (the_expr id span kind)) (kind_weight kind) → Puts old new (part e) (form_weight e)
put_of old new part e id span kind is p = subst (λ (x : Expr). Puts old new (part x) (form_weight x)) (sym is) p

-- the same however a base is checked
pub put_any : (old new : List Task) (how : Rules → Check) (id : ℕ) (span : Span) (kind : ExprKind) (n : ℕ) → ((how : Check) → Puts old new (λ rules seen. found_parts_as rules seen how (the_expr id span kind)) n)
    → Puts old new (λ rules seen. found_parts_as rules seen (how rules) (the_expr id span kind)) n
put_any old new how id span kind n p = record { work = λ rules seen work. (p (how rules)).work rules seen work; light = (p Unchecked).light }

pub put_stat : (old new : List Task) (s : Stat) (span : Span) (kind : StatKind) → s ≡ the_stat span kind
    → Puts old new (λ rules seen. with_stat rules seen (the_stat span kind)) (stat_kind_weight kind) → Puts old new (λ rules seen. with_stat rules seen s) (stat_form_weight s)
put_stat old new s span kind is p = subst (λ (x : Stat). Puts old new (λ rules seen. with_stat rules seen x) (stat_form_weight x)) (sym is) p

pub put_loop : (old new : List Task) (s : Stat) (span : Span) (kind : StatKind) → s ≡ the_stat span kind
    → Puts old new (λ rules seen. with_stat rules seen s) (stat_kind_weight kind) → Puts old new (λ rules seen. with_stat rules seen s) (stat_form_weight s)
put_loop old new s span kind is p = subst (λ (n : ℕ). Puts old new (λ rules seen. with_stat rules seen s) n) (sym (ap stat_form_weight is)) p

-- ## Lists whose last item is put there first

module _ {X : Type 0} (each : List X → Part) (loads : List X → ℕ) (one : X → Part) (load : X → ℕ) where
  -- none of them yet
  pub puts_begin : (tasks : List Task) (xs : List X) → ((rules : Rules) (seen : List Seen) (work : Work) → work ≡ each [] rules seen work) → Puts tasks tasks (each (drop (length xs) xs)) (loads (drop (length xs) xs))
  puts_begin tasks xs nothing =
      subst (λ (ys : List X). Puts tasks tasks (each ys) (loads ys)) (sym (drop_all (length xs) xs (omega arith)))
      (put_as tasks tasks (λ rules seen work. work) (each []) 0 (loads []) nothing (omega arith) (put_none tasks))

  -- one more
  pub puts_more : (old now new : List Task) (xs : List X) (x d : X) (i : ℕ)
      → ((x : X) (rest : List X) (rules : Rules) (seen : List Seen) (work : Work) → each rest rules seen (one x rules seen work) ≡ each (x ∷ rest) rules seen work)
      → ((x : X) (rest : List X) → load x + loads rest ≤ loads (x ∷ rest))
      → Puts now new (one x) (load x) → x ≡ get_or xs (i - 1) d → 0 < i → i ≤ length xs
      → Puts old now (each (drop i xs)) (loads (drop i xs)) → Puts old new (each (drop (i - 1) xs)) (loads (drop (i - 1) xs))
  puts_more old now new xs x d i first weighs put is some within done =
      let more : drop (i - 1) xs ≡ x ∷ drop i xs =
      drop_more xs (i - 1) d (omega (arith, some, within))
      ∙ ap (λ (k : ℕ). get_or xs (i - 1) d ∷ drop k xs) (omega (arith, some))
      ∙ ap (λ (y : X). y ∷ drop i xs) (sym is)
      in
      subst (λ (ys : List X). Puts old new (each ys) (loads ys)) (sym more)
      (put_as old new _ _ _ _ (first x (drop i xs)) (weighs x (drop i xs)) (put_both old now new (each (drop i xs)) (one x) (loads (drop i xs)) (load x) done put))

-- ## Lists whose first item is put there first

-- what is put before the new tasks does what a list does before the old ones: the rest of it is still to come
pub record Awaits (old now : List Task) (rest all : Part) (rest_load all_load : ℕ) : Type 0 where
  pub work : (rules : Rules) (seen : List Seen) (work : Work) → run rules seen now (rest rules seen work) ≡ run rules seen old (all rules seen work)
  pub light : weights now + rest_load ≤ weights old + all_load

pub awaits_all : (tasks : List Task) (all : Part) (load : ℕ) → Awaits tasks tasks all all load load
awaits_all tasks all load = record { work = λ rules seen work. refl; light = omega arith }

module _ {X : Type 0} (each : ℕ → List X → Part) (loads : List X → ℕ) where
  -- one more
  pub awaits_less : (old now new : List Task) (xs : List X) (x d : X) (i : ℕ) (one : Part) (load : ℕ)
      → ((rules : Rules) (seen : List Seen) (work : Work) → one rules seen (each (i + 1) (drop (i + 1) xs) rules seen work) ≡ each i (x ∷ drop (i + 1) xs) rules seen work)
      → load + loads (drop (i + 1) xs) ≤ loads (x ∷ drop (i + 1) xs)
      → Puts now new one load → x ≡ get_or xs i d → i < length xs
      → Awaits old now (each i (drop i xs)) (each 0 xs) (loads (drop i xs)) (loads xs)
      → Awaits old new (each (i + 1) (drop (i + 1) xs)) (each 0 xs) (loads (drop (i + 1) xs)) (loads xs)
  awaits_less old now new xs x d i one load first weighs put is within done =
      let rest = drop (i + 1) xs in
      let more : drop i xs ≡ x ∷ rest = drop_more xs i d within ∙ ap (λ (y : X). y ∷ rest) (sym is) in
      let before : Awaits old now (each i (x ∷ rest)) (each 0 xs) (loads (x ∷ rest)) (loads xs) =
      subst (λ (ys : List X). Awaits old now (each i ys) (each 0 xs) (loads ys) (loads xs)) more done
      in
      record {
        work = λ rules seen work. put.work rules seen (each (i + 1) rest rules seen work) ∙ ap (run rules seen now) (first rules seen work) ∙ before.work rules seen work;
        light = omega (arith, put.light, weighs, before.light);
      }

  -- all of them
  pub awaits_none : (old new : List Task) (xs : List X) (i : ℕ) → length xs ≤ i → ((rules : Rules) (seen : List Seen) (work : Work) → each i [] rules seen work ≡ work)
      → Awaits old new (each i (drop i xs)) (each 0 xs) (loads (drop i xs)) (loads xs) → Puts old new (each 0 xs) (loads xs)
  awaits_none old new xs i end nothing done =
      let last : Awaits old new (each i []) (each 0 xs) (loads []) (loads xs) =
      subst (λ (ys : List X). Awaits old new (each i ys) (each 0 xs) (loads ys) (loads xs)) (drop_all i xs end) done
      in
      record {
        work = λ rules seen work. ap (run rules seen new) (sym (nothing rules seen work)) ∙ last.work rules seen work;
        light = omega (arith, last.light);
      }

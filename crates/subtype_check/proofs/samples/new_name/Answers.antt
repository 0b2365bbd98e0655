use Rattle.std.proofs.Common.{◌≡◌, ◌+◌, ◌-◌, ◌≤◌, ◌++◌, ℕ, List, [], ◌∷◌, length, Bool, not, refl, sym, ◌∙◌, ap, arith}
use Rattle.std.specs.Prelude.{◌&&◌, max}
use Rattle.type_arena.specs.Term.{Function, functions_in, builtin}
use Rattle.type_arena.specs.declared.node.FnName.{FnName}
use Rattle.type_arena.specs.declared.node.FnName.TheVariants.{Builtin}
use Rattle.type_normal.specs.Free.{function_cmp}
use Rattle.type_normal.specs.Members.{has_member}
use Rattle.subtype_check.specs.Apart.{letters, longest, path_of, paths_of, fn_cmp}
use Rattle.subtype_check.proofs.ApartFacts.{step_found, step_longer, step_written, step_on, search_begins, longest_of_both, paths_of_both, name_in_neither}
use Rattle.subtype_check.proofs.samples.new_name.Goals as goal

first_fuel : (xs ys : List Function) (most a b : ℕ) → a ≡ longest (paths_of xs) → b ≡ longest (paths_of ys) → most ≡ max a b → longest (paths_of (xs ++ ys)) ≡ most + 1 - 1
first_fuel xs ys most a b ea eb em =
    let h = longest_of_both (paths_of xs) (paths_of ys) in
    let k : longest (paths_of (xs ++ ys)) ≡ longest (paths_of xs ++ paths_of ys) = ap longest (paths_of_both xs ys) in
    omega (arith, h, k, ea, eb, em)

one_more : (m : ℕ) → 1 ≤ m + 1
one_more m = omega arith

pub loop-letters-init : goal.loop-letters-init
loop-letters-init c =
    let is = c.in_ok-push.ensures.items ∙ ap (λ xs. xs ++ 120 ∷ []) c.new-letters.ensures.items in
    let one : length c.push.new.self.items ≡ 1 = ap length is in
    record {
      written = is ∙ ap letters (sym one);
      near = omega (arith, one);
      so_far =
          ap builtin
          (search_begins (λ path. not (has_member function_cmp (builtin path) (functions_in c.args.xs.now ++ functions_in c.args.ys.now))) c.push.new.self.items c.max-most.result 1 (longest (paths_of (functions_in c.args.xs.now ++ functions_in c.args.ys.now)))
          (first_fuel (functions_in c.args.xs.now) (functions_in c.args.ys.now) c.max-most.result c.longest_path.result c.longest_path-2.result c.longest_path.ensures c.longest_path-2.ensures c.max-most.ensures) one);
    }

-- what the test says of a name
says : (p text : List ℕ) (xs ys : List FnName) (a b d : Bool) → p ≡ text → a ≡ has_member fn_cmp (Builtin p) xs → b ≡ has_member fn_cmp (Builtin p) ys → not a && not b ≡ d
    → not (has_member function_cmp (builtin text) (functions_in xs ++ functions_in ys)) ≡ d
says p text xs ys a b d is ea eb e =
    ap (λ t. not (has_member function_cmp (builtin t) (functions_in xs ++ functions_in ys))) (sym is) ∙ name_in_neither p xs ys ∙ (λ i. not (sym ea i) && not (sym eb i)) ∙ e

pub returns-then-has : goal.returns-then-has
returns-then-has c =
    let copied : c.in_ok-copy.copy ≡ c.loop-letters.letters.items = c.in_ok-copy.ensures.cases ∙ c.of-path.ensures in
    ap Builtin
    (step_found (λ path. not (has_member function_cmp (builtin path) (functions_in c.args.xs.now ++ functions_in c.args.ys.now))) _ c.loop-letters.letters.items c.in_ok-copy.copy c.max-most.result
    c.loop-letters.invariant.written (omega (arith, c.loop-letters-test.true, c.len.ensures)) (ap path_of c.loop-letters.invariant.so_far) copied
    (says c.in_ok-copy.copy c.in_ok-copy.copy c.args.xs.now c.args.ys.now c.has.result c.has-in-loop-letters.result _ refl c.has.ensures c.has-in-loop-letters.ensures c.if-has.true))

pub loop-letters-preserved-in_ok-push-2 : goal.loop-letters-preserved-in_ok-push-2
loop-letters-preserved-in_ok-push-2 c =
    let is : c.into_vec-letters.result.items ≡ c.loop-letters.letters.items = c.into_vec-letters.ensures ∙ c.of-path.ensures in
    let same : c.in_ok-copy.copy ≡ c.into_vec-letters.result.items = c.in_ok-copy.ensures.cases ∙ sym c.into_vec-letters.ensures in
    let near : length c.loop-letters.letters.items ≤ c.max-most.result = omega (arith, c.loop-letters-test.true, c.len.ensures) in
    let made = c.in_ok-push-2.ensures.items in
    let longer = step_longer c.loop-letters.letters.items c.into_vec-letters.result.items c.push-in-loop-letters.new.self.items is made in
    record {
      written = step_written c.loop-letters.letters.items c.into_vec-letters.result.items c.push-in-loop-letters.new.self.items c.loop-letters.invariant.written is made;
      near = omega (arith, near, longer);
      so_far =
          ap builtin
          (step_on (λ path. not (has_member function_cmp (builtin path) (functions_in c.args.xs.now ++ functions_in c.args.ys.now))) _ c.loop-letters.letters.items c.into_vec-letters.result.items c.push-in-loop-letters.new.self.items c.max-most.result
          c.loop-letters.invariant.written near (ap path_of c.loop-letters.invariant.so_far) is
          (says c.in_ok-copy.copy c.into_vec-letters.result.items c.args.xs.now c.args.ys.now c.has.result c.has-in-loop-letters.result _ same c.has.ensures c.has-in-loop-letters.ensures c.if-has.false)
          made);
    }

use Rattle.std.proofs.Common.{◌≡◌, ◌+◌, ◌-◌, ◌≤◌, ◌++◌, ℕ, List, suc, length, not, sym, ◌∙◌, ap, arith}
use Rattle.std.specs.Prelude.{◌&&◌, max}
use Rattle.type_normal.specs.Free.{name_cmp}
use Rattle.type_normal.specs.Members.{has_member}
use Rattle.subtype_check.specs.Apart.{letters, longest}
use Rattle.subtype_check.proofs.ApartFacts.{step_found, step_longer, step_written, step_on, search_begins, longest_of_both, in_neither}
use Rattle.subtype_check.proofs.samples.new_text.Goals as goal

first_fuel : (xs ys : List (List ℕ)) (most a b : ℕ) → a ≡ longest xs → b ≡ longest ys → most ≡ max a b → suc (longest (xs ++ ys)) ≡ most + 1 - 0
first_fuel xs ys most a b ea eb em = let h = longest_of_both xs ys in omega (arith, h, ea, eb, em)

pub loop-letters-init : goal.loop-letters-init
loop-letters-init c =
    let none : length c.new-letters.result.items ≡ 0 = ap length c.new-letters.ensures.items in
    record {
      written = c.new-letters.ensures.items ∙ ap letters (sym none);
      near = omega (arith, none);
      so_far =
          search_begins (λ text. not (has_member name_cmp text (c.args.xs.now ++ c.args.ys.now))) c.new-letters.result.items c.max-most.result 0 (suc (longest (c.args.xs.now ++ c.args.ys.now)))
          (first_fuel c.args.xs.now c.args.ys.now c.max-most.result c.longest_text.result c.longest_text-2.result c.longest_text.ensures c.longest_text-2.ensures c.max-most.ensures) none;
    }

pub returns-then-has : goal.returns-then-has
returns-then-has c =
    let a = c.has.ensures in
    let b = c.has-in-loop-letters.ensures in
    step_found (λ text. not (has_member name_cmp text (c.args.xs.now ++ c.args.ys.now))) _ c.loop-letters.letters.items c.of-text.result c.max-most.result
    c.loop-letters.invariant.written (omega (arith, c.loop-letters-test.true, c.len.ensures)) c.loop-letters.invariant.so_far c.of-text.ensures
    (in_neither c.of-text.result c.args.xs.now c.args.ys.now ∙ (λ i. not (sym a i) && not (sym b i)) ∙ c.if-has.true)

pub loop-letters-preserved : goal.loop-letters-preserved
loop-letters-preserved c =
    let a = c.has.ensures in
    let b = c.has-in-loop-letters.ensures in
    let is : c.into_vec-letters.result.items ≡ c.loop-letters.letters.items = c.into_vec-letters.ensures ∙ c.of-text.ensures in
    let near : length c.loop-letters.letters.items ≤ c.max-most.result = omega (arith, c.loop-letters-test.true, c.len.ensures) in
    let longer = step_longer c.loop-letters.letters.items c.into_vec-letters.result.items c.push.new.self.items is c.in_ok-push.ensures.items in
    record {
      written = step_written c.loop-letters.letters.items c.into_vec-letters.result.items c.push.new.self.items c.loop-letters.invariant.written is c.in_ok-push.ensures.items;
      near = omega (arith, near, longer);
      so_far =
          step_on (λ text. not (has_member name_cmp text (c.args.xs.now ++ c.args.ys.now))) _ c.loop-letters.letters.items c.into_vec-letters.result.items c.push.new.self.items c.max-most.result
          c.loop-letters.invariant.written near c.loop-letters.invariant.so_far is
          (ap (λ t. not (has_member name_cmp t (c.args.xs.now ++ c.args.ys.now))) c.into_vec-letters.ensures
          ∙ in_neither c.of-text.result c.args.xs.now c.args.ys.now ∙ (λ i. not (sym a i) && not (sym b i)) ∙ c.if-has.false)
          c.in_ok-push.ensures.items;
    }

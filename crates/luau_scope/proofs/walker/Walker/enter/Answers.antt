use Rattle.std.proofs.Common.{◌≡◌, ℕ, ◌-◌, length, sym, ap, ◌∙◌, arith}
use Rattle.luau_tree.specs.View.{view_binds}
use Rattle.luau_scope.specs.Steps.{after_enter, after_entries}
use Rattle.luau_scope.proofs.Splits.{none_of}
use Rattle.luau_scope.proofs.VisitLocals.{binds_end, entry_grows, entry_visit, numbers_end}
use Rattle.luau_scope.proofs.walker.Walker.enter.Goals as goal

pub returns-in_default-left : goal.returns-in_default-left
unfolding after_enter
returns-in_default-left c =
    let own : length c.args.self.now.scope - c.min-outside.result ≡ length c.args.self.now.scope - c.args.within.outside = omega (arith, c.min-outside.ensures, c.len.ensures) in
    sym (numbers_end c.args.within _ _ c.loop-rest.left.now c.loop-rest.self (none_of c.loop-rest.left.now c.in_default-left.len_below))
    ∙ c.loop-rest.invariant.left
    ∙ ap (λ (n : ℕ). after_entries c.args.within n (view_binds c.args.binds.now) c.args.numbers.now c.args.self.now) own

pub returns : goal.returns
unfolding after_enter
returns c =
    let own : length c.args.self.now.scope - c.min-outside.result ≡ length c.args.self.now.scope - c.args.within.outside = omega (arith, c.min-outside.ensures, c.len.ensures) in
    sym (binds_end c.args.within _ c.loop-rest.rest.now _ c.loop-rest.self (none_of c.loop-rest.rest.now c.in_default.len_below))
    ∙ c.loop-rest.invariant.left
    ∙ ap (λ (n : ℕ). after_entries c.args.within n (view_binds c.args.binds.now) c.args.numbers.now c.args.self.now) own

pub loop-rest-preserved : goal.loop-rest-preserved
loop-rest-preserved c =
    let own : c.len-in-len1-up.result - c.min-outside.result ≡ length c.loop-rest.self.scope - c.min-outside.result = omega (arith, c.len-in-len1-up.ensures) in
    let grown = entry_grows c.args.within (c.len-in-len1-up.result - c.min-outside.result) _ _ c.loop-rest.self c.entry.new.self c.in_ok-entry.ensures in
    record {
      within = omega (arith, c.loop-rest.invariant.within, grown);
      left =
          entry_visit c.args.within (c.len-in-len1-up.result - c.min-outside.result) c.min-outside.result c.loop-rest.rest.now c.bind-item.result c.loop-rest.left.now c.loop-rest.self c.entry.new.self
          c.in-len1-up.len_at_least c.bind-item.is c.in-len1-up-left.len_at_least c.in_ok-entry.ensures own c.loop-rest.invariant.within
          ∙ c.loop-rest.invariant.left;
    }

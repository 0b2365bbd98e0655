use Rattle.std.proofs.Common.{◌≡◌, ◌+◌, ◌-◌, ◌≤◌, ◌++◌, length}
use Rattle.std.specs.Prelude.{not}
use Rattle.type_arena.specs.Term.{functions_in, builtin}
use Rattle.type_normal.specs.Free.{function_cmp}
use Rattle.type_normal.specs.Members.{has_member}
use Rattle.subtype_check.specs.Apart.{fresh_function, shortest, letters}
use Rattle.subtype_check.proofs.samples.new_name.Given as goal

abbrev pub invariant-loop-letters : goal.invariant-loop-letters
invariant-loop-letters l = record {
  written : l.letters.items ≡ letters (length l.letters.items);
  near : length l.letters.items ≤ l.most + 1;
  so_far : fresh_function (functions_in l.xs ++ functions_in l.ys)
      ≡ builtin (shortest (λ path. not (has_member function_cmp (builtin path) (functions_in l.xs ++ functions_in l.ys))) (l.most + 1 - length l.letters.items) (length l.letters.items));
}

abbrev pub decreases-loop-letters : goal.decreases-loop-letters
decreases-loop-letters l = l.most + 1 - length l.letters.items

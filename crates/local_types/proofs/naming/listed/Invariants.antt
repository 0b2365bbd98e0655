use Rattle.std.proofs.Common.{◌≡◌, ◌++◌}
use Rattle.local_types.proofs.naming.listed.Given as goal

-- the fields so far, and those that are left
abbrev pub invariant-loop-name : goal.invariant-loop-name
invariant-loop-name l = l.all.items ++ l.name-iterator ≡ l.fn.fields.entries

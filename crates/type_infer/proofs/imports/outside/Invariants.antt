use Rattle.std.proofs.Common.{◌≡◌, ◌∷◌, take}
use Rattle.type_infer.specs.Imports.{types_imported}
use Rattle.type_infer.specs.Outside.{builtins_home}
use Rattle.type_infer.proofs.imports.outside.Given as goal

-- those so far
abbrev pub invariant-loop-at : goal.invariant-loop-at
invariant-loop-at l = l.refs.items ≡ builtins_home ∷ types_imported (take l.at-index l.imports)

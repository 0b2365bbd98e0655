use Rattle.std.proofs.Common.{◌≡◌, drop}
use Rattle.std.specs.Prelude.{map}
use Rattle.module_graph.specs.Names.{walk}
use Rattle.module_graph.proofs.names.walk.Given as goal

abbrev pub invariant-loop-part : goal.invariant-loop-part
invariant-loop-part l = walk (map (λ p. p.now) l.here.items) (drop l.part-index (map (λ p. p.now) l.parts)) ≡ walk (map (λ p. p.now) l.fn.here.items) (map (λ p. p.now) l.parts)

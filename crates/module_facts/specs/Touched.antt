-- Locals that are collected out of statements.
use Rattle.std.specs.Prelude.{◌≡◌, ℕ, ◌||◌, Bool, List, map}
use Rattle.luau_tree.specs.declared.names.LocalId.{LocalId}
use Rattle.luau_tree.specs.Tree.{Block, Arms, MaybeBlock}
use Rattle.luau_run.specs.ReadFolder.{is_among}
use Rattle.report_rules.specs.Rules.{Rules}
use Rattle.report_rules.specs.Effects.{assigns_block, declares_block, assigns_arms, declares_arms, assigns_maybe, declares_maybe}

-- whether the blocks of a piece of syntax assign or declare a local
abbrev pub touches_block : Rules → ℕ → Block → Bool
touches_block rules local block = assigns_block rules local block || declares_block rules local block

abbrev pub touches_arms : Rules → ℕ → Arms → Bool
touches_arms rules local arms = assigns_arms rules local arms || declares_arms rules local arms

abbrev pub touches_maybe : Rules → ℕ → MaybeBlock → Bool
touches_maybe rules local last = assigns_maybe rules local last || declares_maybe rules local last

-- the new locals are the old ones and those that pass a test
pub record Adds (test : ℕ → Bool) (old new : List LocalId) : Type 0 where
  pub among : (local : ℕ) → is_among local (map (λ l. l.0) new) ≡ (is_among local (map (λ l. l.0) old) || test local)

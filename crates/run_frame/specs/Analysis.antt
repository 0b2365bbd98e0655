-- What an analysis of a program is made of.
use Rattle.std.specs.Prelude.{ℕ, Bool, List}
use Rattle.luau_tree.specs.declared.names.Place.{Place}
use Rattle.luau_run.specs.Program.{Program}
use Rattle.type_arena.specs.Term.{Term}
use Rattle.report_rules.specs.Rules.{Rules, loose}

-- a program, with what the rules read of each module and the type of what the module gives, by its position, and the reported
-- places
pub record Analysis : Type 0 where
  pub program : Program
  pub rules : ℕ → Rules
  pub summary : ℕ → Term
  pub reports : List (ℕ × Place)

-- whether some body of a module captures a local of it
abbrev pub is_caught : Analysis → (module_at local : ℕ) → Bool
is_caught an module_at local = (an.rules module_at).caught local

-- whether a local of a module is loose
abbrev pub is_loose : Analysis → (module_at local : ℕ) → Bool
is_loose an module_at local = loose (an.rules module_at) local

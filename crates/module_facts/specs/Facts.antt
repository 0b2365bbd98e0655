-- The rules of a module, as code has what they read.
use Rattle.std.specs.Prelude.{ℕ, ◌^◌, ◌<◌, List, length, map, Option, Some, None}
use Rattle.luau_scope.specs.Laws.{AscendFrom}
use Rattle.luau_scope.specs.declared.reading.Scoped.{Scoped}
use Rattle.type_normal.specs.Kinds.{unknown}
use Rattle.type_arena.specs.Meaning.{term_of}
use Rattle.type_decl.specs.declared.sig.Sig.{Sig}
use Rattle.type_decl.specs.Tables.{alone, meant, declared_in}
use Rattle.luau_run.specs.ReadModule.{Use, UseBuiltin}
use Rattle.report_rules.specs.Rules.{Rules, TypedBuiltin}
use Rattle.module_reading.specs.ReadRules.{typed_builtin, rules_of_scoped}
use Rattle.module_facts.specs.declared.facts.Facts.{Facts}

-- the rules of a module in which no static require leads anywhere
unfoldable pub rules_of_facts : Facts → Rules
rules_of_facts facts =
    rules_of_scoped facts.scoped.now facts.home (λ way. None) (declared_in facts.table.now.arena facts.table.now.paths facts.table.now.sigs) (λ id. unknown)

-- what was found of a module's names stands in the order of the text: the uses by the numbers of their expressions, and the
-- locals by where their names begin; and there are fewer locals than 2^32
pub record IsInOrder (scoped : Scoped) : Type 0 where
  pub uses : AscendFrom 0 (map (λ u. u.0.0) scoped.uses)
  pub locals : AscendFrom 0 (map (λ l. l.declared.start) scoped.locals)
  pub few : length scoped.locals < 2 ^ 32

-- the builtin that a use is, by its path
abbrev pub builtin_of : Option Use → Option (List ℕ)
builtin_of (Some (UseBuiltin path)) = Some path
builtin_of _ = None

-- the declaration of a path that a signature of the table is
abbrev pub declaration_of : Facts → List ℕ → Sig → TypedBuiltin
declaration_of facts path sig = typed_builtin (path, meant (term_of (alone facts.table.now.arena)) sig)

-- What code has of a file that is read.
use Rattle.std.specs.Prelude.{◌≡◌, ⊤, ℕ, List}
use Rattle.luau_tree.specs.View.{view_block}
use Rattle.luau_scope.specs.declared.reading.Scoped.{Scoped}
use Rattle.luau_scope.specs.Locals.{uses_of, locals_of, requires_of}
use Rattle.source_files.specs.declared.reading.Source.{Source}
use Rattle.source_files.specs.declared.reading.Source.TheVariants as source
use Rattle.source_files.specs.Reading.{Reading, Refused, Read}

-- how a file reads that has this text, where it is refused for neither size nor name
abbrev pub reading_in : (text : List ℕ) → Source → Reading
reading_in text (source.Refused at why) = Refused at why
reading_in text (source.Read scoped) = Read text (view_block scoped.«module».block)

-- what the names of a module stand for is found by the rules, over the paths of the declared builtins
abbrev pub IsScopedBy : (table : List (List ℕ)) → Scoped → Type 0
IsScopedBy table scoped = scoped ≡ record {
  «module» = scoped.«module»;
  locals = locals_of table (view_block scoped.«module».block);
  uses = uses_of table (view_block scoped.«module».block);
  required = requires_of table (view_block scoped.«module».block);
}

-- so it is of a file that is read
abbrev pub IsResolved : (table : List (List ℕ)) → Source → Type 0
IsResolved table (source.Refused at why) = ⊤
IsResolved table (source.Read scoped) = IsScopedBy table scoped

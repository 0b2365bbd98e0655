-- The modules of a program, each with what its static requires give: the summaries of the modules that they mean.
use Rattle.std.specs.Prelude.{◌≡◌, ◌<◌, ⊤, ℕ, suc, List, [], ◌∷◌, ◌++◌, Option, Some, None, slice_get}
use Rattle.type_arena.specs.Term.{Term}
use Rattle.type_normal.specs.Kinds.{unknown}
use Rattle.report_rules.specs.Rules.{Rules}
use Rattle.report_rules.specs.After.{summary}

-- each static require of a module means a module of the program, and gives that module's summary
abbrev pub HasSummaries : (program : List Rules) → Rules → Type 0
HasSummaries program rules =
    (id other : ℕ) → rules.reading.required id ≡ Some other
    → (meant : Rules) × (slice_get program other ≡ Some meant) × (rules.import id ≡ summary meant)

-- each of some modules has the summaries of those that it requires
abbrev pub AllHaveSummaries : (program : List Rules) → List Rules → Type 0
AllHaveSummaries program [] = ⊤
AllHaveSummaries program (rules ∷ modules) = HasSummaries program rules × AllHaveSummaries program modules

-- a program whose modules know each other's summaries. Its reports are those of its modules
abbrev pub IsLinked : (program : List Rules) → Type 0
IsLinked program = AllHaveSummaries program program

-- the summary of a module, if there is one
abbrev pub summary_of : Option Rules → Term
summary_of None = unknown
summary_of (Some rules) = summary rules

abbrev pub summary_meant : List Rules → Option ℕ → Term
summary_meant modules None = unknown
summary_meant modules (Some other) = summary_of (slice_get modules other)

-- a module whose static requires give the summaries of modules before it
abbrev pub importing : (before : List Rules) → Rules → Rules
importing before rules = record rules { import = λ id. summary_meant before (rules.reading.required id) }

-- modules that are linked one after the other, behind those before them
abbrev pub linked_after : (before : List Rules) → List Rules → List Rules
linked_after before [] = []
linked_after before (rules ∷ modules) = importing before rules ∷ linked_after (before ++ importing before rules ∷ []) modules

abbrev pub linked : List Rules → List Rules
linked modules = linked_after [] modules

-- each module, from a position on, requires modules before it alone. Since requires form no cycle, the modules of a program can be
-- put into such an order
abbrev pub RequireEarlier : (position : ℕ) → List Rules → Type 0
RequireEarlier position [] = ⊤
RequireEarlier position (rules ∷ modules) =
    ((id other : ℕ) → rules.reading.required id ≡ Some other → other < position) × RequireEarlier (suc position) modules

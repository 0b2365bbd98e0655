-- Contexts: for each local a set of values with which code is certain to fail from a point on. A context is violated where
-- some local's value is in its set. A loose local has never.
use Rattle.std.specs.Prelude.{ℕ, Bool, true, false, ◌==◌, List, if◌then◌else◌}
use Rattle.std.specs.List.{list_any}
use Rattle.luau_tree.specs.Tree.{Expr}
use Rattle.type_arena.specs.Term.{Term, never}
use Rattle.type_normal.specs.Operations.{union, meet, not_free}
use Rattle.type_normal.specs.HeapFree.{strip, strip_at}
use Rattle.type_normal.specs.Cut.{cut_down}
use Rattle.report_rules.specs.Rules.{Rules, loose}
use Rattle.report_rules.specs.Guard.{guard}

-- each entry is cut down where it is made
abbrev pub Context : Type 0
Context = ℕ → Term

-- nothing makes the code fail
abbrev pub none : Context
none local = never

-- one local's value in a set does, unless the local is loose
abbrev pub only_for : Rules → ℕ → Term → Context
only_for rules named type local = if local == named then (if loose rules named then never else cut_down type) else never

-- the one does, or the other
abbrev pub join : Context → Context → Context
join a b local = cut_down (union (a local) (b local))

-- both do
abbrev pub meet_of : Context → Context → Context
meet_of a b local = cut_down (meet (a local) (b local))

-- where a condition decides between two: a local fails by its set on the one side, unless the guard shows that the other side
-- was taken, and likewise on the other
abbrev pub unless : Term → Term → Term
unless guard type = cut_down (union type (not_free guard))

abbrev pub branch : Rules → Expr → Context → Context → Context
branch rules cond when_true when_false local =
    cut_down (meet (unless (guard rules cond true local) (when_true local)) (unless (guard rules cond false local) (when_false local)))

-- what is left after tables may have changed, and after writes to fields of one name
abbrev pub stripped : Context → Context
stripped context local = strip (context local)

abbrev pub stripped_at : List ℕ → Context → Context
stripped_at name context local = strip_at name (context local)

-- without some locals
abbrev pub without : List ℕ → Context → Context
without locals context local = if list_any (λ other. other == local) locals then never else context local

-- a context behind a part, before that part
abbrev pub pass : (has_effects : Bool) → Context → Context
pass has_effects context = if has_effects then stripped context else context

-- a part, and then the rest
abbrev pub followed : (part : Context) → (has_effects : Bool) → (rest : Context) → Context
followed part has_effects rest = join part (pass has_effects rest)

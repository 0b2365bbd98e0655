-- What calls make of what is at hand, whatever the module.
use Rattle.std.specs.Prelude.{Bool, List, [], ◌∷◌, ◌++◌, map, if◌then◌else◌}
use Rattle.luau_tree.specs.Tree.{Expr}
use Rattle.type_arena.specs.Term.{Term, never}
use Rattle.type_normal.specs.Operations.{meet}
use Rattle.type_normal.specs.Rows.{is_empty}
use Rattle.report_rules.specs.Rules.{Rules}
use Rattle.report_rules.specs.Effects.{Target}
use Rattle.report_rules.specs.Context.{Context, none, join, branch, pass, followed}
use Rattle.report_rules.specs.Statements.{before_write, for_values}
use Rattle.report_rules.specs.Findings.{Finding}
use Rattle.report_rules.specs.Reports.{reports_of}
use Rattle.report_work.specs.Work.{Work}

-- the first of some contexts, and of some lists
abbrev pub first_of : List Context → Context
first_of [] = none
first_of (context ∷ contexts) = context

abbrev pub list_of : {X : Type 0} → List (List X) → List X
list_of [] = []
list_of (list ∷ lists) = list

-- all but the first of some
abbrev pub rest_of : {X : Type 0} → List X → List X
rest_of [] = []
rest_of (x ∷ xs) = xs

-- ## Sets

-- sets are asked for, and one
abbrev pub asked : List Term → Work → Work
asked sets work = record work { sets = sets ∷ work.sets }

abbrev pub asked_one : Term → Work → Work
asked_one set work = asked (set ∷ []) work

-- those that are asked for are asked for once more
abbrev pub asked_again : Work → Work
asked_again work = asked (list_of work.sets) work

-- others are asked for in their place
abbrev pub asked_by : (Term → Term) → Work → Work
asked_by change work = record work { sets = map change (list_of work.sets) ∷ rest_of work.sets }

-- the sets by which the left side of `and` or `or` is asked: none, and the part of each set that a type has. None is asked once,
-- where it is the first of them
abbrev pub past_none : List Term → List Term
past_none [] = []
past_none (set ∷ sets) = if is_empty set then sets else set ∷ sets

abbrev pub parts_of : Term → List Term → List Term
parts_of type sets = never ∷ map (λ set. meet set type) (past_none sets)

abbrev pub asked_part : Term → Work → Work
asked_part type work = asked (parts_of type (list_of work.sets)) work

-- nothing is asked for
abbrev pub unasked : Work → Work
unasked work = record work { sets = rest_of work.sets }

-- ## Contexts of an expression

-- each set that is asked for has its context
abbrev pub answered : (Term → Context) → Work → Work
answered f work = record work { sets = rest_of work.sets; fails = map f (list_of work.sets) ∷ work.fails }

-- the one that is behind
abbrev pub spread : Work → Work
spread work = answered (λ set. work.behind) work

-- none, since no set makes the code fail
abbrev pub unfailing : Work → Work
unfailing work = answered (λ set. none) work

-- the context for the first set that was asked for
abbrev pub first_answer : Work → Context
first_answer work = first_of (list_of work.fails)

-- it is the one behind
abbrev pub started : Work → Work
started work = record work { fails = rest_of work.fails; behind = first_answer work }

-- it stands before what is behind
abbrev pub met : (has_effects : Bool) → Work → Work
met has_effects work = record work { fails = rest_of work.fails; behind = followed (first_answer work) has_effects work.behind }

-- `and` and `or` for one set: by the contexts of the left side for none, of the right side, and of the left side for the part of the
-- set that it gives away by itself
abbrev pub and_one : Rules → Expr → (has_effects : Bool) → (never_left right left : Context) → Context
and_one rules cond has_effects never_left right left = join never_left (branch rules cond (pass has_effects right) left)

abbrev pub or_one : Rules → Expr → (has_effects : Bool) → (never_left right left : Context) → Context
or_one rules cond has_effects never_left right left = join never_left (branch rules cond left (pass has_effects right))

-- one context of each of two lists
abbrev pub zipped : (Context → Context → Context) → List Context → List Context → List Context
zipped f (a ∷ first) (b ∷ second) = f a b ∷ zipped f first second
zipped f _ _ = []

-- of the contexts of the left side, those for the part of each set
abbrev pub parts_among : (sets : List Term) → List Context → List Context
parts_among [] lefts = []
parts_among (set ∷ sets) lefts = if is_empty set then lefts else rest_of lefts

-- `and` and `or` for each set that is asked for, where first the right side was answered and then the left one
abbrev pub sides : (Context → Context → Context → Context) → Work → Work
sides one work = record work {
  sets = rest_of work.sets;
  fails = zipped (one (first_answer work)) (list_of (rest_of work.fails)) (parts_among (list_of work.sets) (list_of work.fails)) ∷ rest_of (rest_of work.fails);
}

abbrev pub and_sides : Rules → Expr → (has_effects : Bool) → Work → Work
and_sides rules cond has_effects work = sides (and_one rules cond has_effects) work

abbrev pub or_sides : Rules → Expr → (has_effects : Bool) → Work → Work
or_sides rules cond has_effects work = sides (or_one rules cond has_effects) work

-- a choice of an if-expression, where first what comes else was answered, then its value, and then its condition
abbrev pub choice_one : Rules → Expr → (has_effects : Bool) → (cond_fails value rest : Context) → Context
choice_one rules cond has_effects cond_fails value rest = join cond_fails (pass has_effects (branch rules cond value rest))

abbrev pub chosen : Rules → Expr → (has_effects : Bool) → Work → Work
chosen rules cond has_effects work = record work {
  fails = zipped (choice_one rules cond has_effects (first_answer work)) (list_of (rest_of work.fails)) (list_of (rest_of (rest_of work.fails)))
      ∷ rest_of (rest_of (rest_of work.fails));
}

-- ## The context behind

-- another context is behind
abbrev pub behind_by : (Context → Context) → Work → Work
behind_by change work = record work { behind = change work.behind }

-- a write happens before what is behind
abbrev pub written : Target → Work → Work
written target work = behind_by (before_write target) work

-- it is put aside as well
abbrev pub behind_kept : Work → Work
behind_kept work = record work { aside = work.behind ∷ work.aside }

-- it is put aside, and nothing is behind
abbrev pub behind_begun : Work → Work
behind_begun work = record work { behind = none; aside = work.behind ∷ work.aside }

-- it is the last that was put aside, which is let go, or stays
abbrev pub behind_restored : Work → Work
behind_restored work = record work { behind = first_of work.aside; aside = rest_of work.aside }

abbrev pub behind_dropped : Work → Work
behind_dropped work = record work { aside = rest_of work.aside }

-- it is the last but one that was put aside
abbrev pub behind_again : Work → Work
behind_again work = record work { behind = first_of (rest_of work.aside) }

-- a condition decides between it and the last that was put aside, which is let go
abbrev pub decided : Rules → Expr → Work → Work
decided rules cond work = record work { behind = branch rules cond work.behind (first_of work.aside); aside = rest_of work.aside }

-- the last that was put aside is changed
abbrev pub aside_by : (Context → Context) → Work → Work
aside_by change work = record work { aside = change (first_of work.aside) ∷ rest_of work.aside }

-- it is to check a value that is assigned beside a write, and values that may have effects
abbrev pub kept_for_value : Target → Work → Work
kept_for_value target work = aside_by (for_values (target ∷ [])) work

abbrev pub kept_for_values : (has_effects : Bool) → Work → Work
kept_for_values has_effects work = aside_by (pass has_effects) work

-- ## Loops

-- in a loop whose `break` leads to what was put aside last, which is let go, and whose `continue` leads to what is behind
abbrev pub looped : Work → Work
looped work = record work { aside = rest_of work.aside; breaks = first_of work.aside ∷ work.breaks; continues = work.behind ∷ work.continues }

-- in a body, which nothing is behind
abbrev pub apart : Work → Work
apart work = record work { behind = none; aside = work.behind ∷ work.aside; breaks = none ∷ work.breaks; continues = none ∷ work.continues }

-- out of the loop or the body
abbrev pub unlooped : Work → Work
unlooped work = record work { breaks = rest_of work.breaks; continues = rest_of work.continues }

-- `break` and `continue`
abbrev pub broken : Work → Work
broken work = record work { behind = first_of work.breaks }

abbrev pub continued : Work → Work
continued work = record work { behind = first_of work.continues }

-- ## Reports

-- findings stand before those behind
abbrev pub reported : List Finding → Work → Work
reported findings work = record work { reports = reports_of findings ++ work.reports }

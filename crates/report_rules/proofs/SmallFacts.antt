-- What is cut is small.
use Rattle.std.proofs.Common.{◌≡◌, ℕ, ◌==◌, Bool, true, false, List, if◌then◌else◌, refl}
use Rattle.luau_tree.specs.Tree.{Expr}
use Rattle.type_arena.specs.Term.{Free, Term, term, no_rows, never}
use Rattle.type_normal.specs.Rows.{any_table, is_unknown}
use Rattle.type_normal.specs.Operations.{union, meet}
use Rattle.type_normal.specs.Cut.{is_small, has_any_table, few_values, many_values, cut_down, cut_up}
use Rattle.report_rules.specs.Rules.{Rules, loose}
use Rattle.report_rules.specs.Guard.{guard}
use Rattle.report_rules.specs.TypeMap.{TypeMap, set, refine, union_of, joined_live}
use Rattle.report_rules.specs.Context.{Context, only_for, join, meet_of, branch, unless}

few_by : (b : Bool) (free : Free) → is_small (term free (if b then any_table else no_rows)) ≡ true
few_by true free = refl
few_by false free = refl

few_small : (t : Term) → is_small (few_values t) ≡ true
few_small (term free rows) = few_by (has_any_table rows) free

many_small : (t : Term) → is_small (many_values t) ≡ true
many_small (term free rows) = refl

down_by : (b : Bool) (t : Term) → is_small t ≡ b → is_small (if b then t else few_values t) ≡ true
down_by true t e = e
down_by false t e = few_small t

down_small : (t : Term) → is_small (cut_down t) ≡ true
down_small t = down_by (is_small t) t refl

up_by : (b : Bool) (t : Term) → is_small t ≡ b → is_small (if b then t else many_values t) ≡ true
up_by true t e = e
up_by false t e = many_small t

up_small : (t : Term) → is_small (cut_up t) ≡ true
up_small t = up_by (is_small t) t refl

either_small : (b : Bool) (s t : Term) → is_small s ≡ true → is_small t ≡ true → is_small (if b then s else t) ≡ true
either_small true s t h k = h
either_small false s t h k = k

pub set_small : (rules : Rules) (l : ℕ) (t : Term) (m : TypeMap) → ((x : ℕ) → is_small (m.entry x) ≡ true) → (x : ℕ) → is_small ((set rules l t m).entry x) ≡ true
set_small rules l t m h x = either_small (x == l) (cut_up t) (m.entry x) (up_small t) (h x)

pub refine_small : (rules : Rules) (c : Expr) (truth : Bool) (m : TypeMap) → ((x : ℕ) → is_small (m.entry x) ≡ true) → (x : ℕ)
    → is_small ((refine rules c truth m).entry x) ≡ true
refine_small rules c truth m h x =
    either_small (is_unknown (guard rules c truth x)) (m.entry x) (cut_up (meet (m.entry x) (guard rules c truth x))) (h x)
    (up_small (meet (m.entry x) (guard rules c truth x)))

pub joined_small : (live : List TypeMap) (x : ℕ) → is_small ((joined_live live).entry x) ≡ true
joined_small live x = up_small (union_of live x)

pub one_small : (rules : Rules) (l : ℕ) (t : Term) (x : ℕ) → is_small (only_for rules l t x) ≡ true
one_small rules l t x =
    either_small (x == l) (if loose rules l then never else cut_down t) never (either_small (loose rules l) never (cut_down t) refl (down_small t)) refl

pub join_small : (a b : Context) (x : ℕ) → is_small (join a b x) ≡ true
join_small a b x = down_small (union (a x) (b x))

pub meet_small : (a b : Context) (x : ℕ) → is_small (meet_of a b x) ≡ true
meet_small a b x = down_small (meet (a x) (b x))

pub branch_small : (rules : Rules) (c : Expr) (a b : Context) (x : ℕ) → is_small (branch rules c a b x) ≡ true
branch_small rules c a b x = down_small (meet (unless (guard rules c true x) (a x)) (unless (guard rules c false x) (b x)))

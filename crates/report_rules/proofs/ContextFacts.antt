-- What a value in an entry of a context says of the contexts that it was made of.
use Rattle.std.proofs.Common.{◌≡◌, ℕ, Bool, true, false, not, ◌&&◌, ◌||◌, refl, sym, ap, ◌∙◌, true≢false}
use Rattle.luau_values.specs.Heap.{Heap}
use Rattle.luau_values.specs.Value.{Value}
use Rattle.luau_tree.specs.Tree.{Expr}
use Rattle.type_arena.specs.Term.{Term}
use Rattle.type_normal.specs.Holds.{holds}
use Rattle.type_normal.specs.Operations.{union, meet, not_free, is_flat}
use Rattle.type_normal.proofs.Public.{union_holds, meet_holds, not_free_holds, cut_down_below, strip_below}
use Rattle.report_rules.specs.Rules.{Rules}
use Rattle.report_rules.specs.Guard.{guard}
use Rattle.report_rules.proofs.FlatFacts.{guard_flat}
use Rattle.report_rules.specs.Context.{Context, join, meet_of, unless, branch, stripped}

and_left : (a b : Bool) → a && b ≡ true → a ≡ true
and_left true b e = refl
and_left false b e = absurd (true≢false (sym e))

and_right : (a b : Bool) → a && b ≡ true → b ≡ true
and_right true b e = e
and_right false b e = absurd (true≢false (sym e))

both : (a b : Bool) → a ≡ true → b ≡ true → a && b ≡ true
both true b e f = f
both false b e f = absurd (true≢false (sym e))

pub join_holds : (h : Heap) (v : Value) (a b : Context) (x : ℕ) → holds h v (join a b x) ≡ true → holds h v (a x) || holds h v (b x) ≡ true
join_holds h v a b x e = sym (union_holds h v (a x) (b x)) ∙ cut_down_below h v (union (a x) (b x)) e

pub meet_of_holds : (h : Heap) (v : Value) (a b : Context) (x : ℕ) → holds h v (meet_of a b x) ≡ true → holds h v (a x) && holds h v (b x) ≡ true
meet_of_holds h v a b x e = sym (meet_holds h v (a x) (b x)) ∙ cut_down_below h v (meet (a x) (b x)) e

unless_holds : (h : Heap) (v : Value) (g t : Term) → is_flat g ≡ true → holds h v (unless g t) ≡ true → holds h v t || not (holds h v g) ≡ true
unless_holds h v g t flat e =
    sym (union_holds h v t (not_free g) ∙ ap (λ (b : Bool). holds h v t || b) (not_free_holds h v g flat)) ∙ cut_down_below h v (union t (not_free g)) e

pub branch_holds : (rules : Rules) (c : Expr) (h : Heap) (v : Value) (a b : Context) (x : ℕ) → holds h v (branch rules c a b x) ≡ true
    → (holds h v (a x) || not (holds h v (guard rules c true x))) && (holds h v (b x) || not (holds h v (guard rules c false x))) ≡ true
branch_holds rules c h v a b x e =
    let yes = unless (guard rules c true x) (a x) in
    let no = unless (guard rules c false x) (b x) in
    let each = sym (meet_holds h v yes no) ∙ cut_down_below h v (meet yes no) e in
    both (holds h v (a x) || not (holds h v (guard rules c true x))) (holds h v (b x) || not (holds h v (guard rules c false x)))
    (unless_holds h v (guard rules c true x) (a x) (guard_flat rules c true x) (and_left (holds h v yes) (holds h v no) each))
    (unless_holds h v (guard rules c false x) (b x) (guard_flat rules c false x) (and_right (holds h v yes) (holds h v no) each))

pub stripped_holds : (h : Heap) (v : Value) (a : Context) (x : ℕ) → holds h v (stripped a x) ≡ true → holds h v (a x) ≡ true
stripped_holds h v a x e = strip_below h v (a x) e

use Rattle.std.proofs.Common.{ℕ, Bool, List, sym, ap, ◌∙◌}
use Rattle.std.proofs.lemmas.Result.{on_ok_weaker}
use Rattle.luau_tree.specs.declared.position.Span.{Span}
use Rattle.luau_tree.specs.View.{view_expr}
use Rattle.luau_scope.specs.declared.refusal.Refusal.TheVariants.{AssignedBuiltin}
use Rattle.luau_scope.specs.Finds.{kind_of, names_builtin, refused_if}
use Rattle.luau_scope.specs.Steps.{after_aim, after_part, around_in}
use Rattle.luau_scope.proofs.Aims.{named_alone, named_method, span_seen}
use Rattle.luau_scope.proofs.walker.Walker.named.Goals as goal

pub returns-in-None : goal.returns-in-None
returns-in-None c =
    rw c.in-None.is (on_ok_weaker c.aim-in-None.result (λ e. e ∙ ap (λ (ns : List ℕ). after_aim c.args.within ns (view_expr c.args.path.now) c.args.self.now) c.new.ensures ∙ named_alone c.args.within (view_expr c.args.path.now) c.args.self.now) c.aim-in-None.ensures)

pub returns-in_ok-fixed-in-Some : goal.returns-in_ok-fixed-in-Some
returns-in_ok-fixed-in-Some c =
    rw c.in-Some.is (c.refuse_if.ensures
    ∙ ap (λ (b : Bool). after_part (refused_if b AssignedBuiltin c.args.path.now.span) c.args.self.now) c.in_ok-fixed-in-Some.ensures
    ∙ ap (λ (span : Span). after_part (refused_if (names_builtin (around_in c.args.self.now c.args.within) (kind_of (view_expr c.args.path.now))) AssignedBuiltin span) c.args.self.now) (sym (span_seen c.args.path.now))
    ∙ named_method c.args.within (view_expr c.args.path.now) c.in-Some.field-0 c.args.self.now)

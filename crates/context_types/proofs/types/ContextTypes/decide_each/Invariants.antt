use Rattle.std.proofs.Common.{◌≡◌, take}
use Rattle.std.specs.Prelude.{All, map}
use Rattle.luau_tree.specs.Tree.{Expr}
use Rattle.report_rules.specs.Rules.{Rules}
use Rattle.report_work.specs.Moves.{zipped}
use Rattle.context_types.specs.Lists.{way_context}
use Rattle.context_types.specs.Standing.{Grows, Says, StandsContext}
use Rattle.context_types.specs.Types.{context_in}
use Rattle.context_types.proofs.types.ContextTypes.decide_each.Given as goal

-- those that were gone through were decided
abbrev pub invariant-loop-i : goal.invariant-loop-i
invariant-loop-i l = record {
  contexts : (rules : Rules) (cond : Expr) → Says l.fn.self rules cond l.guard → map (context_in l.self) l.made.items
      ≡ zipped (way_context l.way rules cond l.has_effects (context_in l.fn.self l.first)) (map (context_in l.fn.self) (take l.i l.a)) (map (context_in l.fn.self) (take l.i l.b));
  stand : All (StandsContext l.self) l.made.items;
  grows : Grows l.fn.self l.self;
}

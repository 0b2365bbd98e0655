use Rattle.std.proofs.Common.{◌≡◌, take}
use Rattle.std.specs.Prelude.{All, map}
use Rattle.report_rules.specs.Context.{only_for}
use Rattle.report_rules.specs.Rules.{Rules, loose}
use Rattle.context_types.specs.Standing.{Grows, StandsContext}
use Rattle.context_types.specs.Types.{set_in, context_in}
use Rattle.context_types.proofs.types.ContextTypes.only_for_each.Given as goal

-- a context was made of each that was gone through
abbrev pub invariant-loop-set : goal.invariant-loop-set
invariant-loop-set l = record {
  contexts : (rules : Rules) → loose rules l.local.0 ≡ l.is_loose → map (context_in l.self) l.made.items ≡ map (only_for rules l.local.0) (map (set_in l.fn.self) (take l.set-index l.sets));
  stand : All (StandsContext l.self) l.made.items;
  grows : Grows l.fn.self l.self;
}

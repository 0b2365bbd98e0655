use Rattle.std.proofs.Common.{◌≡◌, ◌∙◌, ap, sym, option_map}
use Rattle.luau_tree.specs.declared.tree.Stat.{out-Stat}
use Rattle.nonstrict_cli.specs.Form.{call_in, offset_of}
use Rattle.nonstrict_cli.proofs.Trees.{call_stat_layer}
use Rattle.nonstrict_cli.proofs.form.argument_in.Goals as goal

pub returns-in-CallStat : goal.returns-in-CallStat
returns-in-CallStat c =
    c.argument_of.ensures ((out-Stat c.args.stat.now).span)
    ∙ ap (λ s. option_map offset_of (call_in s)) (sym (call_stat_layer c.args.stat.now c.in-CallStat.call c.in-CallStat.is))

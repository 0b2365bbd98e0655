use Rattle.std.proofs.Common.{rules, sym, subst}
use Rattle.luau_lex.specs.Values.{StandsFor}
use Rattle.luau_lex.proofs.ValueLemmas.{stands_so}
use Rattle.luau_lex.proofs.values.value_of.Goals as goal

pub returns-clause-computed : goal.returns-clause-computed
returns-clause-computed c = search rules

-- what is computed is what the token stands for
pub returns-clause-value : goal.returns-clause-value
returns-clause-value c =
    let t = c.args.token.now in
    subst (StandsFor t.kind t.text.now) (sym (returns-clause-computed c)) (stands_so t.kind t.text.now)

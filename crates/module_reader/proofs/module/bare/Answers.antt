use Rattle.std.proofs.Common.{List, map, subst, sym}
use Rattle.std.specs.Prelude.{None}
use Rattle.luau_lex.specs.Lexed.{Lexed}
use Rattle.luau_lex.specs.Tokens.{seen_token}
use Rattle.luau_lex.specs.declared.token.Token.{Token}
use Rattle.module_reader.proofs.Answered.{fault_is_answered}
use Rattle.module_reader.proofs.module.bare.Goals as goal

-- tokens without a tree
pub returns-in-Ok-clause-fault : goal.returns-in-Ok-clause-fault
returns-in-Ok-clause-fault c =
    fault_is_answered c.the_parser_reads_the_grammar.ensures.all c.args.text.now (map seen_token c.as_slice.result.now) c.module_of.result
    (subst (λ (ts : List Token). Lexed c.args.text.now (map seen_token ts) None) (sym c.as_slice.ensures.value) c.in-Ok.ensures.tokens)
    c.module_of.ensures

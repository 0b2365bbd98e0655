-- Which lists of tokens are fronts.
use Rattle.std.proofs.Common.{List, [], ◌++◌, sym, subst, append_assoc, append-nil}
use Rattle.luau_tree.specs.Tree.{Block}
use Rattle.luau_lex.specs.Tokens.{Tok}
use Rattle.luau_grammar.specs.Places.{Rules}
use Rattle.luau_grammar.specs.Modules.{IsBare}
use Rattle.grammar_faults.specs.Fronts.{IsFront}

pub whole_front : (rules : Rules) (ts : List Tok) (b : Block) → IsBare rules ts b → IsFront rules ts
whole_front rules ts b h = ([], b, subst (λ z. IsBare rules z b) (sym (append-nil ts)) h)

pub shorter_front : (rules : Rules) (ts us : List Tok) → IsFront rules (ts ++ us) → IsFront rules ts
shorter_front rules ts us h = (us ++ h.0, h.1, subst (λ z. IsBare rules z h.1) (append_assoc ts us h.0) h.2)

-- Settings whose tokens stand at levels up to a limit.
use Rattle.std.specs.Prelude.{◌≡◌, ℕ, nat_le}
use Rattle.luau_lex.specs.Tokens.{Tok}
use Rattle.luau_grammar.specs.Reading.{Setting}

-- a token may stand at each level up to the limit, and at no other
abbrev pub IsByLevels : Setting → Type 0
IsByLevels set = (t : Tok) (m : ℕ) → set.rules.may_stand t m ≡ nat_le m set.limit

use Rattle.luau_lex.proofs.NumeralLemmas.{decimals, hexadecimals, binaries, no_numerals}
use Rattle.luau_lex.proofs.laws.numerals_are_of_their_forms.Goals as goal

pub returns-clause-decimal : goal.returns-clause-decimal
returns-clause-decimal c = decimals

pub returns-clause-hexadecimal : goal.returns-clause-hexadecimal
returns-clause-hexadecimal c = hexadecimals

pub returns-clause-binary : goal.returns-clause-binary
returns-clause-binary c = binaries

pub returns-clause-none : goal.returns-clause-none
returns-clause-none c = no_numerals

use Rattle.luau_lex.proofs.ValueLemmas.{decimal_digits, small_digits, large_digits, digits_further}
use Rattle.luau_lex.proofs.laws.digits_write_numbers.Goals as goal

pub returns-clause-decimal : goal.returns-clause-decimal
returns-clause-decimal c = decimal_digits

pub returns-clause-small : goal.returns-clause-small
returns-clause-small c = small_digits

pub returns-clause-large : goal.returns-clause-large
returns-clause-large c = large_digits

pub returns-clause-further : goal.returns-clause-further
returns-clause-further c = digits_further

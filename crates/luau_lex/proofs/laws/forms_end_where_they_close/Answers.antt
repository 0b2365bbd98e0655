use Rattle.luau_lex.proofs.RefuseLemmas.{two_strings, two_long, two_parts, two_comments, comment_that_opens}
use Rattle.luau_lex.proofs.laws.forms_end_where_they_close.Goals as goal

pub returns-clause-two_strings : goal.returns-clause-two_strings
returns-clause-two_strings c = two_strings

pub returns-clause-two_long_strings : goal.returns-clause-two_long_strings
returns-clause-two_long_strings c = two_long

pub returns-clause-two_parts : goal.returns-clause-two_parts
returns-clause-two_parts c = two_parts

pub returns-clause-two_comments : goal.returns-clause-two_comments
returns-clause-two_comments c = two_comments

pub returns-clause-comment_that_opens : goal.returns-clause-comment_that_opens
returns-clause-comment_that_opens c = comment_that_opens

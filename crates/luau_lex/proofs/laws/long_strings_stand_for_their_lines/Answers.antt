use Rattle.luau_lex.proofs.ValueLemmas.{feed_dropped, pair_dropped, none_dropped, line_pairs, lines_kept}
use Rattle.luau_lex.proofs.laws.long_strings_stand_for_their_lines.Goals as goal

pub returns-clause-line_feed_first : goal.returns-clause-line_feed_first
returns-clause-line_feed_first c = feed_dropped

pub returns-clause-pair_first : goal.returns-clause-pair_first
returns-clause-pair_first c = pair_dropped

pub returns-clause-other_first : goal.returns-clause-other_first
returns-clause-other_first c = none_dropped

pub returns-clause-pairs : goal.returns-clause-pairs
returns-clause-pairs c = line_pairs

pub returns-clause-no_pair : goal.returns-clause-no_pair
returns-clause-no_pair c = lines_kept

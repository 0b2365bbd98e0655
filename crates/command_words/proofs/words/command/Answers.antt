use Rattle.std.proofs.Common.{◌∙◌, sym, ap, map, string_bytes, option_map}
use Rattle.command_words.specs.Given.{given_of}
use Rattle.command_words.proofs.AllGathered.{said_all}
use Rattle.command_words.proofs.words.command.Goals as goal

pub returns-in-Some-clause-said : goal.returns-in-Some-clause-said
returns-in-Some-clause-said c = c.said.ensures.said ∙ sym (said_all (map string_bytes c.args.words.now) _ (sym c.read.ensures ∙ ap (option_map given_of) c.in-Some.is))

pub returns-in-None-clause-said : goal.returns-in-None-clause-said
returns-in-None-clause-said c = sym (said_all (map string_bytes c.args.words.now) _ (sym c.read.ensures ∙ ap (option_map given_of) c.in-None.is))

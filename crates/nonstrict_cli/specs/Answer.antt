-- What is known before the first write.
use Rattle.std.specs.Prelude.{◌≡◌, ℕ, List}
use Rattle.outside.specs.Contents.{Contents}
use Rattle.nonstrict_cli.specs.declared.answer.Answer.{Answer}
use Rattle.nonstrict_cli.specs.declared.status.Limit.{Limit}
use Rattle.nonstrict_cli.specs.declared.status.Status.TheVariants.{TooLarge}
use Rattle.nonstrict_cli.specs.Output.{output, silent}

-- the text and the status are those of the output
pub record Answers (words : List (List ℕ)) (answer : Answer) (contents : Contents) : Type 0 where
  pub text : answer.text.items ≡ (output words contents).bytes
  pub status : answer.status ≡ (output words contents).status

-- the output is nothing, since the folder passes this limit
abbrev pub StopsWith : List (List ℕ) → Limit → Contents → Type 0
StopsWith words limit contents = output words contents ≡ silent (TooLarge limit)

-- The chunks that a text is given in, each all that is left of it.
use Rattle.std.proofs.Common.{◌≡◌, ◌<◌, ◌++◌, ℕ, List, [], ◌∷◌, Option, None, Some, IfSome, IsSomeAnd, drop, refl, ap, sym, ◌∙◌, append_assoc, append-nil, subst, arith}
use Rattle.outside.specs.Contents.{Contents}
use Rattle.outside.specs.Written.{Appends}
use Rattle.nonstrict_cli.specs.declared.answer.Answer.{Answer}
use Rattle.nonstrict_cli.specs.Answer.{Answers}
use Rattle.nonstrict_cli.specs.Output.{output}
use Rattle.nonstrict_cli.specs.Written.{AreRests, GivesRests}

-- the chunks leave this of a text
pub Leave : List ℕ → List (List ℕ) → List ℕ → Type 0
Leave text [] rest = rest ≡ text
Leave text (chunk ∷ chunks) rest = (chunk ≡ text) × (n : ℕ) × (0 < n) × Leave (drop n text) chunks rest

-- the chunks that were given so far leave this of a text
abbrev pub HasGiven : Option (List (List ℕ)) → Option (List (List ℕ)) → List ℕ → List ℕ → Type 0
HasGiven before after text rest = IfSome after (λ now. IsSomeAnd before (λ then. (given : List (List ℕ)) × (now ≡ then ++ given) × Leave text given rest))

leave_more : (text : List ℕ) (given : List (List ℕ)) (rest : List ℕ) (n : ℕ) → 0 < n → Leave text given rest → Leave text (given ++ rest ∷ []) (drop n rest)
unfolding Leave
leave_more text [] rest n some e = (e, n, some, ap (drop n) e)
leave_more text (chunk ∷ given) rest n some l = (l.0, l.1, l.2, leave_more (drop l.1 text) given rest n some l.3)

left_are_rests : (text : List ℕ) (given : List (List ℕ)) (rest : List ℕ) → Leave text given rest → AreRests text given
unfolding Leave
left_are_rests text [] rest e = tt
left_are_rests text (chunk ∷ given) rest l = (l.0, l.1, l.2, left_are_rests (drop l.1 text) given rest l.3)

-- nothing is given at first
pub none_given : (told : Option (List (List ℕ))) (text : List ℕ) → HasGiven told told text text
unfolding Leave
none_given None text = tt
none_given (Some now) text = ([], sym (append-nil now), refl)

-- one more chunk is given
pub given_more : (before mid after : Option (List (List ℕ))) (text rest : List ℕ) (n : ℕ) → 0 < n → HasGiven before mid text rest → Appends mid after (rest ∷ []) → HasGiven before after text (drop n rest)
given_more before mid None text rest n some h a = tt
given_more before None (Some now) text rest n some h a = absurd a
given_more None (Some then) (Some now) text rest n some h a = absurd h
given_more (Some first) (Some then) (Some now) text rest n some h a =
    (h.0 ++ rest ∷ [], a ∙ ap (λ l. l ++ rest ∷ []) h.1 ∙ append_assoc first h.0 (rest ∷ []), leave_more text h.0 rest n some h.2)

pub gives_rests : (before after : Option (List (List ℕ))) (text rest : List ℕ) → HasGiven before after text rest → GivesRests before after text
gives_rests before None text rest h = tt
gives_rests None (Some now) text rest h = absurd h
gives_rests (Some then) (Some now) text rest h = (h.0, h.1, left_are_rests text h.0 rest h.2)

-- the last chunk that is given is the rest, whatever is taken of it
pub last_given : (before mid after : Option (List (List ℕ))) (text rest : List ℕ) → HasGiven before mid text rest → Appends mid after (rest ∷ []) → GivesRests before after text
last_given before mid after text rest h a = gives_rests before after text (drop 1 rest) (given_more before mid after text rest 1 (omega arith) h a)

-- a sink that was given nothing was given rests of any text
pub no_rests : (told : Option Contents) (words : List (List ℕ)) (chunks : Option (List (List ℕ))) → IfSome told (λ contents. GivesRests chunks chunks (output words contents).bytes)
no_rests None words chunks = tt
no_rests (Some contents) words chunks = gives_rests chunks chunks (output words contents).bytes (output words contents).bytes (none_given chunks (output words contents).bytes)

-- the text of an answer is that of the output
pub rests_of_output : (told : Option Contents) (words : List (List ℕ)) (answer : Answer) (before after : Option (List (List ℕ))) → IfSome told (Answers words answer) → GivesRests before after answer.text.items → IfSome told (λ contents. GivesRests before after (output words contents).bytes)
rests_of_output None words answer before after a g = tt
rests_of_output (Some contents) words answer before after a g = subst (λ (text : List ℕ). GivesRests before after text) a.text g

-- Lists that are put together piece by piece.
use Rattle.std.proofs.Common.{◌≡◌, List, ◌++◌, ◌∙◌, append_assoc}

pub three_parts : {X : Type 0} (old a b c : List X) → ((old ++ a) ++ b) ++ c ≡ old ++ (a ++ (b ++ c))
three_parts old a b c = append_assoc (old ++ a) b c ∙ append_assoc old a (b ++ c)

pub five_parts : {X : Type 0} (old a b c d e : List X) → ((((old ++ a) ++ b) ++ c) ++ d) ++ e ≡ old ++ (a ++ (b ++ (c ++ (d ++ e))))
five_parts old a b c d e =
    append_assoc (((old ++ a) ++ b) ++ c) d e
    ∙ append_assoc ((old ++ a) ++ b) c (d ++ e)
    ∙ three_parts old a b (c ++ (d ++ e))

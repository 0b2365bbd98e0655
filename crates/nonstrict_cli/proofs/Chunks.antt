-- Writing a text chunk by chunk.
use Rattle.std.proofs.Common.{◌+◌, ◌++◌, ℕ, List, Option, None, Some, take, drop, ap, ◌∙◌, append_assoc}
use Rattle.std.proofs.Math.Seq.{take-add}
use Rattle.outside.specs.Written.{Appends}

-- what is appended in two steps is both parts
pub joined : {A : Type 0} (first second third : Option (List A)) (xs ys : List A) → Appends first second xs → Appends second third ys → Appends first third (xs ++ ys)
joined first second None xs ys a b = tt
joined first None (Some now) xs ys a b = absurd b
joined None (Some then) (Some now) xs ys a b = absurd a
joined (Some at) (Some then) (Some now) xs ys a b = b ∙ ap (λ l. l ++ ys) a ∙ append_assoc at xs ys

-- a front of the rest goes behind the front that is written
pub appended : (first second third : Option (List ℕ)) (text : List ℕ) (done count : ℕ) → Appends first second (take done text) → Appends second third (take count (drop done text)) → Appends first third (take (done + count) text)
appended first second third text done count a b = rw (take-add done count text) (joined first second third (take done text) (take count (drop done text)) a b)

-- What tasks that are pushed amount to.
use Rattle.std.proofs.Common.{◌≡◌, ◌||◌, Bool, true, false, ℕ, ◌-◌, ◌+◌, ◌≤◌, ◌<◌, List, [], ◌∷◌, ◌++◌, length, get_or, drop, refl, sym, ap, ◌∙◌, arith}
use Rattle.std.proofs.lemmas.List.{drop_more}
use Rattle.report_rules.specs.Rules.{Rules}
use Rattle.rule_work.specs.Work.{Work}
use Rattle.infer_plan.specs.declared.task.Task.{Task}
use Rattle.infer_plan.specs.Run.{act, run, in_order}
use Rattle.infer_plan.specs.Weights.{weight, weights}

-- the last of some is the next
pub run_last : (rules : Rules) (tasks : List Task) (t : Task) (work : Work) → run rules (tasks ++ t ∷ []) work ≡ run rules tasks (act rules t work)
run_last rules [] t work = refl
run_last rules (x ∷ tasks) t work = ap (act rules x) (run_last rules tasks t work)

-- one more that is pushed
pub before : (rules : Rules) (old new : List Task) (t : Task) (work : Work) → new ≡ old ++ t ∷ [] → run rules new work ≡ run rules old (act rules t work)
before rules old new t work e = ap (λ (tasks : List Task). run rules tasks work) e ∙ run_last rules old t work

-- a part that is pushed before those that are there
pub planned : (rules : Rules) (old now new parts : List Task) (t d : Task) (i : ℕ) (work : Work)
    → new ≡ now ++ t ∷ [] → t ≡ get_or parts (i - 1) d → 0 < i → i ≤ length parts
    → ((rules : Rules) (work : Work) → run rules now work ≡ run rules old (in_order rules (drop i parts) work))
    → run rules new work ≡ run rules old (in_order rules (drop (i - 1) parts) work)
planned rules old now new parts t d i work pushed is some within done =
    before rules now new t work pushed
    ∙ done rules (act rules t work)
    ∙ ap (λ (x : Task). run rules old (in_order rules (x ∷ drop i parts) work)) is
    ∙ ap (λ (k : ℕ). run rules old (in_order rules (get_or parts (i - 1) d ∷ drop k parts) work)) (sym (omega (arith, some)))
    ∙ ap (λ (ts : List Task). run rules old (in_order rules ts work)) (sym (drop_more parts (i - 1) d (omega (arith, some, within))))

-- the weights of some, and of a last one
pub weights_last : (tasks : List Task) (t : Task) → weights (tasks ++ t ∷ []) ≡ weights tasks + weight t
weights_last [] t = omega arith
weights_last (x ∷ tasks) t = omega (arith, weights_last tasks t)

-- a part of which the weight is known
pub weighed : (old now new parts : List Task) (t d : Task) (i : ℕ)
    → new ≡ now ++ t ∷ [] → t ≡ get_or parts (i - 1) d → 0 < i → i ≤ length parts
    → weights now ≤ weights old + weights (drop i parts)
    → weights new ≤ weights old + weights (drop (i - 1) parts)
weighed old now new parts t d i pushed is some within done =
    let last : weights new ≡ weights now + weight t = ap weights pushed ∙ weights_last now t in
    let more : drop (i - 1) parts ≡ get_or parts (i - 1) d ∷ drop ((i - 1) + 1) parts = drop_more parts (i - 1) d (omega (arith, some, within)) in
    let same : weights (drop ((i - 1) + 1) parts) ≡ weights (drop i parts) = ap (λ (k : ℕ). weights (drop k parts)) (omega (arith, some)) in
    let first : weight t ≡ weight (get_or parts (i - 1) d) = ap weight is in
    let all : weights (drop (i - 1) parts) ≡ weight (get_or parts (i - 1) d) + weights (drop ((i - 1) + 1) parts) = ap weights more in
    omega (arith, last, same, first, all, done)

-- the rest of a list, with an item before it
pub here : {X : Type 0} (xs : List X) (x d : X) (i : ℕ) → x ≡ get_or xs (i - 1) d → 0 < i → i ≤ length xs → drop (i - 1) xs ≡ x ∷ drop i xs
here xs x d i is some within =
    drop_more xs (i - 1) d (omega (arith, some, within))
    ∙ ap (λ (k : ℕ). get_or xs (i - 1) d ∷ drop k xs) (omega (arith, some))
    ∙ ap (λ (y : _). y ∷ drop i xs) (sym is)

-- one more of a list whose items are gone through from its end on
pub one_more : {X : Type 0} (rules : Rules) (old now new : List Task) (each : List X → Work → Work) (one : Work → Work) (xs : List X) (x d : X) (i : ℕ) (work : Work)
    → run rules new work ≡ run rules now (one work)
    → x ≡ get_or xs (i - 1) d → 0 < i → i ≤ length xs
    → each (x ∷ drop i xs) work ≡ each (drop i xs) (one work)
    → ((work : Work) → run rules now work ≡ run rules old (each (drop i xs) work))
    → run rules new work ≡ run rules old (each (drop (i - 1) xs) work)
one_more rules old now new each one xs x d i work made is some within first done =
    made
    ∙ done (one work)
    ∙ ap (run rules old) (sym first)
    ∙ ap (λ (ys : List _). run rules old (each ys work)) (sym (here xs x d i is some within))

-- and what it weighs
pub more_weight : {X : Type 0} (old now new : List Task) (weigh : List X → ℕ) (w : ℕ) (xs : List X) (x d : X) (i : ℕ)
    → weights new ≤ weights now + w
    → x ≡ get_or xs (i - 1) d → 0 < i → i ≤ length xs
    → w + weigh (drop i xs) ≤ weigh (x ∷ drop i xs)
    → weights now ≤ weights old + weigh (drop i xs)
    → weights new ≤ weights old + weigh (drop (i - 1) xs)
more_weight old now new weigh w xs x d i made is some within first done =
    let same : weigh (drop (i - 1) xs) ≡ weigh (x ∷ drop i xs) = ap weigh (here xs x d i is some within) in
    omega (arith, made, first, done, same)

-- two tests in either order
pub or_swapped : (a b : Bool) → (a || b) ≡ (b || a)
or_swapped true true = refl
or_swapped true false = refl
or_swapped false true = refl
or_swapped false false = refl

-- all of a list, and none of it
pub all_of : {X : Type 0} (xs : List X) (i : ℕ) → i ≤ 0 → drop i xs ≡ xs
all_of xs i l = let none : i ≡ 0 = omega (arith, l) in ap (λ (k : ℕ). drop k xs) none
